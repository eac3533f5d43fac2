-- So many more are read, and all are at the end.
use Rattle.std.proofs.Common.{◌≡◌, ◌+◌, ◌≤◌, ℕ, ℤ, List, ◌++◌, All, length, take, drop, arith, ap, sym, subst, ◌∙◌}
use Rattle.std.proofs.lemmas.List.{length-append, length-take, length-drop}
use Rattle.std.proofs.lemmas.List.Elements.{All-append}
use Rattle.std.proofs.Math.Seq.{take-add}
use Rattle.pdl_elem.specs.Types.{InRange}
use Rattle.pdl_engine.proofs.foreseeing.many_shown.Goals as goal

pub loop-numbers-preserved : goal.loop-numbers-preserved
loop-numbers-preserved c =
    let xs : List ℤ = c.args.window.now.elems in
    let k : ℕ = length c.loop-numbers.numbers.items in
    let m : ℕ = c.min-more.result in
    let next : List ℤ = take m (drop k xs) in
    let added : c.read_more.new.numbers.items ≡ c.loop-numbers.numbers.items ++ next = c.in_ok-read_more.ensures.items in
    let within : k + m ≤ length xs = omega (arith, c.requires.counted) in
    let many : length next ≡ m = simp (length-take, length-drop) (omega arith) in
    let long : length c.read_more.new.numbers.items ≡ k + m = ap length added ∙ length-append c.loop-numbers.numbers.items next ∙ ap (λ (n : ℕ). k + n) many in
    record {
      inside = omega (arith, long, within, c.requires.counted);
      read = added ∙ ap (λ (front : List ℤ). front ++ next) c.loop-numbers.invariant.read ∙ sym (take-add k m xs) ∙ ap (λ (n : ℕ). take n xs) (sym long);
      in_range = subst (All (InRange c.args.window.now.ty)) (sym added) (All-append (InRange c.args.window.now.ty) c.loop-numbers.numbers.items next c.loop-numbers.invariant.in_range c.in_ok-read_more.ensures.in_range);
    }
