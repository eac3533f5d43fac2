-- A step along dimension 1 goes as far as its increment says.
use Rattle.std.proofs.Common.{◌≡◌, ℕ, ℤ, pos, ◌+ℤ◌, ◌*ℤ◌, length, get_or, arith, ap, ap₂, sym, subst, ◌∙◌, to_z, of_z}
use Rattle.std.proofs.lemmas.Int.{to_z-of_z}
use Rattle.std.specs.Int.{w32}
use Rattle.std.specs.Int.RustNames.{unsigned_abs}
use Rattle.pdl_shape.specs.Triple.{Triple}
use Rattle.pdl_numbers.specs.Reads.{IsInside}
use Rattle.pdl_numbers.proofs.ReadRuns.{Across, across_at}
use Rattle.pdl_numbers.proofs.across.take_across.Goals as goal

pub take_steps-requires : goal.take_steps-requires
take_steps-requires g c =
    let t : Triple = c.args.placement.now in
    let n : ℕ = length c.args.numbers.now in
    let inc : to_z w32 (of_z w32 c.inc_along-inc.result) ≡ get_or t.incs 1 (pos 0) =
    to_z-of_z w32 c.inc_along-inc.result (record { sfits = c.inc_along-inc.type_inv })
    ∙ c.inc_along-inc.ensures ∙ ap (λ (u : Triple). get_or u.incs 1 (pos 0)) c.triple.ensures in (
      omega arith,
      (
        c.requires.small,
        λ j h.
            let a : Across t n c.args.first j = across_at c.shape_laws.ensures.positions t n c.args.first j (length c.args.so_far.now) c.place-place.ensures.sound c.requires.reaches c.requires.some (c.requires.within j h) c.requires.along h in
            subst (λ z. IsInside n z) (sym (ap₂ (λ k z. pos k +ℤ z *ℤ pos j) c.place-place.ensures.place inc)) a.inside,
      ),
    )

pub returns : goal.returns
returns g c =
    let t : Triple = c.args.placement.now in
    let n : ℕ = length c.args.numbers.now in
    let inc : to_z w32 (of_z w32 c.inc_along-inc.result) ≡ get_or t.incs 1 (pos 0) =
    to_z-of_z w32 c.inc_along-inc.result (record { sfits = c.inc_along-inc.type_inv })
    ∙ c.inc_along-inc.ensures ∙ ap (λ (u : Triple). get_or u.incs 1 (pos 0)) c.triple.ensures in
    λ j h.
    let a : Across t n c.args.first j = across_at c.shape_laws.ensures.positions t n c.args.first j (length c.args.so_far.now) c.place-place.ensures.sound c.requires.reaches c.requires.some (c.requires.within j h) c.requires.along h in
    c.take_steps.ensures j h
    ∙ ap (λ (z : ℤ). g.F.Folding.taken (get_or c.args.so_far.now j (pos 0)) (get_or c.args.numbers.now (unsigned_abs z) (pos 0)))
    (ap₂ (λ k z. pos k +ℤ z *ℤ pos j) c.place-place.ensures.place inc ∙ a.is)
