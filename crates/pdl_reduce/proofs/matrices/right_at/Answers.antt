-- The numbers of one depth.
use Rattle.std.proofs.Common.{◌+◌, ◌-◌, ◌*◌, ℕ, ℤ, pos, List, get_or, arith, ap, ◌∙◌}
use Rattle.std.proofs.lemmas.List.{get_or-take, get_or-drop}
use Rattle.pdl_reduce.proofs.matrices.right_at.Goals as goal

pub returns-clause-numbers : goal.returns-clause-numbers
returns-clause-numbers c = λ j h.
    let s = c.args.sizes in
    let right : List ℤ = c.args.right.now in
    let start : ℕ = s.width * c.cut.result in
    get_or-take (start + s.width - start) _ j (pos 0) (omega (arith, h)) ∙ get_or-drop start right j (pos 0)
    ∙ ap (λ (n : ℕ). get_or right n (pos 0)) (omega arith) ∙ ap (λ (n : ℕ). get_or right (j + s.width * n) (pos 0)) c.cut.ensures
