use Rattle.std.proofs.Common.{ℕ, ◌+◌, ◌≤◌, length, take, drop, arith, ap, subst, sym, ◌∙◌}
use Rattle.pdl_image.specs.Adding.{kept_numbers}
use Rattle.pdl_image.specs.Dump.{mask_of}
use Rattle.pdl_image.proofs.DumpMasks.{mask_len, part_of_mask}
use Rattle.pdl_image.proofs.content.Kept.read.Goals as goal

pub returns-in-Marked : goal.returns-in-Marked
returns-in-Marked c =
    let first = c.args.first in
    let n : ℕ = length c.args.into.now in
    let places = c.in-Marked.places.now in
    let within : first + n ≤ length (mask_of c.in-Marked.count places) = subst (λ k. first + n ≤ length (kept_numbers k)) c.in-Marked.is c.requires.within in
    c.read_mask.ensures ∙ part_of_mask c.in-Marked.count first n places (omega (arith, within, mask_len c.in-Marked.count places))
    ∙ ap (λ k. take n (drop first (kept_numbers k))) (sym c.in-Marked.is)
