use Rattle.std.proofs.Common.{◌≡◌, ◌∷◌, [], cond, ℕ, true, to_z, rules, FitsSigned, subst, sym, ap, ◌∙◌}
use Rattle.std.specs.Int.{w64}
use Rattle.std.proofs.lemmas.Int.{to_z-of_z}
use Rattle.pdl_image.specs.Adding.{Adds}
use Rattle.pdl_image.specs.Dump.{is_least}
use Rattle.pdl_image.specs.Lines.{least_line}
use Rattle.pdl_image.proofs.pieces.add_if_least.Goals as goal

pub returns : goal.returns
returns c =
    let fits : FitsSigned w64 c.args.number = search rules in
    let least : is_least c.args.number ≡ true =
    ap is_least (sym (to_z-of_z w64 c.args.number fits)) ∙ ap (λ (n : ℕ). is_least (to_z w64 n)) c.if-number-neminus9223372036854775808.false in
    subst (λ b. Adds c.args.draft.now c.add_least.new.self (cond b (least_line c.args.name.now c.args.position ∷ []) []) c.add_least.result) (sym least)
    c.add_least.ensures
