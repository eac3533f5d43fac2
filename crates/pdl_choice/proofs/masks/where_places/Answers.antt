use Rattle.std.proofs.Common.{ℕ, IsTrue, subst}
use Rattle.pdl_choice.specs.Where.{rises}
use Rattle.pdl_choice.proofs.masks.where_places.Goals as goal

pub listed_places-requires : goal.listed_places-requires
listed_places-requires c =
    let P : ℕ → Type 0 = λ n. IsTrue (rises 0 n c.in_ok-places.places) in
    rw c.as_slice.ensures (subst P c.requires c.in_ok-places.ensures.rises)
