-- One block more is fetched, and all are at the end.
use Rattle.std.proofs.Common.{◌≡◌, ℕ, ◌+◌, ◌-◌, ℤ, List, ◌++◌, take, drop, arith, ap, ◌∙◌}
use Rattle.std.specs.Prelude.{Option}
use Rattle.std.proofs.lemmas.List.{take_all}
use Rattle.pdl_shape.specs.Places.{read}
use Rattle.pdl_numbers.proofs.PlaceLists.{read_part_more}
use Rattle.pdl_numbers.proofs.packed.Packed.many_gathered.Goals as goal

pub loop-done-init : goal.loop-done-init
loop-done-init g c = c.in_ok-packed.ensures

pub loop-done-preserved : goal.loop-done-preserved
loop-done-preserved g c =
    let ps : List (Option ℕ) = c.args.places.now in
    let es : List ℤ = c.args.self.now in
    let k : ℕ = c.loop-done.done in
    let n : ℕ = c.min-size.result in
    let same : k + n - k ≡ n = omega arith in
    read_part_more ps es c.loop-done.packed c.extend_gathered.new.self k n c.loop-done.invariant
    (c.in_ok-extend_gathered.ensures.ok ∙ ap (λ (m : ℕ). c.loop-done.packed ++ read (take m (drop k ps)) es) same)

pub returns : goal.returns
returns g c = c.loop-done.invariant ∙ ap (λ (qs : List (Option ℕ)). read qs c.args.self.now) (take_all c.loop-done.done c.args.places.now c.loop-done-test.false)
