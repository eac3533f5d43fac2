-- One block more is copied.
use Rattle.std.proofs.Common.{◌≡◌, ℕ, ◌<◌, ℤ, List, length, take, drop, arith, ap, ◌∙◌}
use Rattle.pdl_lemmas.specs.Lists.{take_written}
use Rattle.pdl_numbers.specs.Numbers.{elements_in}
use Rattle.pdl_numbers.proofs.TypedParts.{kept_more}
use Rattle.pdl_numbers.proofs.numbers.Numbers.copied.Goals as goal

pub loop-done-preserved : goal.loop-done-preserved
loop-done-preserved c =
    let k : ℕ = c.loop-done.done in
    let n : ℕ = c.len-done.result in
    let es : List ℤ = (elements_in c.args.self.now).elems in
    let read_length : length c.read_from.new.into ≡ c.truncate.new.self.len = omega arith in
    let size : length c.deref_mut.result.now ≡ n = omega arith in
    let read : c.read_from.new.into ≡ take n (drop k es) = c.read_from.ensures ∙ ap (λ (m : ℕ). take m (drop k es)) size in
    let block : c.deref.result.now ≡ c.read_from.new.into = c.deref.ensures.value ∙ take_written _ _ _ read_length in
    let some : 0 < c.truncate.new.self.len = omega (arith, c.loop-done.invariant.some c.loop-done-test.true) in
    record {
      inside = omega arith;
      some = λ more. omega (arith, some, ap length block, ap length c.deref.ensures.value);
      kept = kept_more c.args.ty _ _ es c.deref.result.now k n c.loop-done.invariant.kept (block ∙ read) c.in_ok-extend.ensures.ok;
    }
