use Rattle.std.proofs.Common.{rules, unsigned_abs, ◌≡◌, ◌∙◌, SFits, w64, of_z, to_z, to_z-of_z, pos, ◌+ℤ◌, ap, arith}
use Rattle.std.specs.Int.{int_rem_euclid}
use Rattle.std.proofs.lemmas.Int.{ints}
use Rattle.pdl_choice.proofs.EdgeLemmas.{reduced_first}
use Rattle.pdl_choice.proofs.reach.remainder.Goals as goal

pub returns-in-None-clause-value : goal.returns-in-None-clause-value
returns-in-None-clause-value c =
    let value : SFits w64 c.args.value = search rules in
    let size : SFits w64 c.from-size.result = search rules in
    let reduced : SFits w64 c.rem_euclid-in-None.result = search rules in
    let offset : SFits w64 c.from-in-None.result = search rules in
    let sum : SFits w64 (c.rem_euclid-in-None.result +ℤ c.from-in-None.result) = search rules in
    let back : pos (unsigned_abs (to_z w64 (of_z w64 c.rem_euclid-in-None-2.result))) ≡ c.rem_euclid-in-None-2.result = omega (arith, ints) in
    let first : c.rem_euclid-in-None.result ≡ int_rem_euclid c.args.value c.from-size.result = simp to_z-of_z at c.rem_euclid-in-None.ensures.value in
    let second : c.rem_euclid-in-None-2.result ≡ int_rem_euclid (c.rem_euclid-in-None.result +ℤ c.from-in-None.result) c.from-size.result = simp to_z-of_z at c.rem_euclid-in-None-2.ensures.value in
    back
    ∙ second
    ∙ ap (λ z. int_rem_euclid (z +ℤ c.from-in-None.result) c.from-size.result) first
    ∙ ap (λ z. int_rem_euclid (int_rem_euclid c.args.value c.from-size.result +ℤ z) c.from-size.result) c.from-in-None.ensures
    ∙ ap (λ z. int_rem_euclid (int_rem_euclid c.args.value z +ℤ pos c.args.offset) z) c.from-size.ensures
    ∙ reduced_first c.args.value c.args.offset c.args.size c.requires
