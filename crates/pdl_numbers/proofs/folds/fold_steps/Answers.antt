-- One number more is taken in.
use Rattle.std.proofs.Common.{◌≡◌, ◌+◌, ◌<◌, ℕ, ℤ, List, [], pos, ◌+ℤ◌, ◌*ℤ◌, length, map, get_or, refl, arith, to_z, of_z, ap, sym, subst, ◌∙◌}
use Rattle.std.proofs.lemmas.Int.{to_z-of_z}
use Rattle.std.proofs.lemmas.List.{get_or-map, length-map, length-set}
use Rattle.std.specs.Int.{w32, w64}
use Rattle.std.specs.Int.RustNames.{unsigned_abs}
use Rattle.pdl_elem.specs.declared.Ty.{Ty}
use Rattle.pdl_elem.specs.Numbers.{wrapped}
use Rattle.pdl_elem.specs.Types.{InRange}
use Rattle.pdl_numbers.specs.Bytes.{bytes_of, number_of}
use Rattle.pdl_numbers.specs.Folds.{HasFolded}
use Rattle.pdl_numbers.proofs.ByteLemmas.{set_number, set_packed}
use Rattle.pdl_numbers.proofs.FoldLemmas.{folded_more}
use Rattle.pdl_numbers.proofs.folds.fold_steps.Goals as goal

pub loop-k-init : goal.loop-k-init
loop-k-init g c = record {
  many = refl;
  packed = c.requires.packed;
  folded = record { as_many = refl; taken = λ m h. absurd (omega (arith, h)); before = λ m h. refl; after = λ m h. refl };
}

pub loop-k-preserved : goal.loop-k-preserved
loop-k-preserved g c =
    let t : Ty = g.T.PackedType.ty in
    let f : ℤ → ℤ → ℤ = g.F.Folding.taken in
    let k : ℕ = c.loop-k.k in
    let p : ℕ = c.args.start + k in
    let cells : List (List ℕ) = c.loop-k.cells in
    let now : List ℤ = map (number_of t) cells in
    let inc : ℤ = to_z w32 (of_z w32 c.args.inc) in
    let number : ℕ → ℤ = λ m. get_or c.args.numbers.now (unsigned_abs (pos c.args.place +ℤ inc *ℤ pos m)) (pos 0) in
    let here : to_z w64 (of_z w64 c.number_after-number.result) ≡ number k =
    to_z-of_z w64 c.number_after-number.result (record { sfits = c.number_after-number.type_inv }) ∙ c.number_after-number.ensures
    ∙ ap (λ (xs : List ℤ). get_or xs (unsigned_abs (pos c.args.place +ℤ inc *ℤ pos k)) (pos 0)) c.cells-from.ensures in
    let below : p < length cells = omega (arith, c.loop-k.invariant.many, c.requires.room, c.loop-k-test.true) in
    let value : ℤ = wrapped t (f (number_of t (get_or cells p [])) (number k)) in
    let range : InRange t value = c.wrapping_laws.ensures.in_range t (f (number_of t (get_or cells p [])) (number k)) in
    let bytes : c.fold_cell.new.cell ≡ bytes_of t value = c.fold_cell.ensures ∙ ap (λ (z : ℤ). bytes_of t (wrapped t (f (number_of t (get_or cells p [])) z))) here in
    record {
      many = length-set cells p c.fold_cell.new.cell ∙ c.loop-k.invariant.many;
      packed = set_packed t cells p value c.fold_cell.new.cell range bytes c.loop-k.invariant.packed;
      folded = subst (λ (ns : List ℤ). HasFolded t f number c.args.start (k + 1) (map (number_of t) c.args.cells.now) ns) (sym (set_number t cells p value c.fold_cell.new.cell range bytes))
          (folded_more t f number c.args.start k (map (number_of t) c.args.cells.now) now value (omega (arith, below, length-map cells (number_of t)))
          (ap (λ (z : ℤ). wrapped t (f z (number k))) (sym (get_or-map (number_of t) cells p [] (pos 0) below))) c.loop-k.invariant.folded);
    }

pub returns-clause-packed : goal.returns-clause-packed
returns-clause-packed g c = c.loop-k.invariant.packed

pub returns-clause-value : goal.returns-clause-value
returns-clause-value g c =
    let t : Ty = g.T.PackedType.ty in
    let f : ℤ → ℤ → ℤ = g.F.Folding.taken in
    let old : List ℤ = map (number_of t) c.args.cells.now in
    let new : List ℤ = map (number_of t) c.loop-k.cells in
    let number : ℤ → ℕ → ℤ = λ z m. get_or c.args.numbers.now (unsigned_abs (pos c.args.place +ℤ z *ℤ pos m)) (pos 0) in
    let all : c.loop-k.k ≡ c.args.count = omega arith in
    subst (λ (z : ℤ). HasFolded t f (number z) c.args.start c.args.count old new) (to_z-of_z w32 c.args.inc c.ranges.inc)
    (subst (λ (n : ℕ). HasFolded t f (number (to_z w32 (of_z w32 c.args.inc))) c.args.start n old new) all c.loop-k.invariant.folded)
