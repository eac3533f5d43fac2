use Rattle.std.proofs.Common.{◌≡◌, false, All, subst, sym}
use Rattle.pdl_image.specs.Adding.{kept_numbers}
use Rattle.pdl_image.specs.Dump.{is_least}
use Rattle.pdl_image.proofs.DumpMasks.{no_least}
use Rattle.pdl_image.proofs.content.Kept.can_be_least.Goals as goal

pub returns-in-Marked : goal.returns-in-Marked
returns-in-Marked c =
    λ e. subst (λ k. All (λ n. is_least n ≡ false) (kept_numbers k)) (sym c.in-Marked.is) (no_least c.in-Marked.count c.in-Marked.places.now)
