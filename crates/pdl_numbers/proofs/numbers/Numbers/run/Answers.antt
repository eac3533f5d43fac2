-- Neighbours are a part of what is shown.
use Rattle.std.proofs.Common.{◌<◌, ◌+◌, ℕ, ℤ, pos, List, length, length-take, take, drop, get_or, refl, arith, ap, sym, ◌∙◌}
use Rattle.std.proofs.lemmas.List.{get_or-drop, get_or-take}
use Rattle.pdl_shape.specs.Triple.{Triple}
use Rattle.pdl_numbers.specs.Numbers.{elements_in}
use Rattle.pdl_numbers.proofs.ShownLemmas.{block}
use Rattle.pdl_numbers.proofs.numbers.Numbers.run.Goals as goal

pub returns-clause-shown : goal.returns-clause-shown
returns-clause-shown c =
    let t : Triple = c.args.placement.now in
    let es : List ℤ = (elements_in c.args.self.now).elems in
    let first : ℕ = c.args.first in
    let start : ℕ = c.place.result in
    let count : ℕ = c.neighbours.result in
    let rs : List ℤ = take count (drop start es) in
    block t es rs first (length rs) refl (omega (arith, length-take count (drop start es), c.neighbours.ensures.within))
    (λ k h.
    let few : k < count = omega (arith, h, length-take count (drop start es)) in
    get_or-take count (drop start es) k (pos 0) few ∙ get_or-drop start es k (pos 0)
    ∙ ap (λ (p : ℕ). get_or es p (pos 0)) (ap (λ (p : ℕ). p + k) c.place.ensures.place ∙ sym (c.neighbours.ensures.beside k few)))
