use Rattle.std.proofs.Common.{Ok, subst, sym}
use Rattle.pdl_image.specs.Adding.{Adds}
use Rattle.pdl_image.proofs.AddingLemmas.{adds_none}
use Rattle.pdl_image.proofs.DumpParts.{no_leasts}
use Rattle.pdl_image.proofs.pieces.add_any_leasts.Goals as goal

pub returns-then-not-can_be_least : goal.returns-then-not-can_be_least
returns-then-not-can_be_least c =
    subst (λ ls. Adds c.args.draft.now c.args.draft.now ls (Ok tt))
    (sym (no_leasts c.args.name.now c.args.first c.args.numbers.now (c.can_be_least.ensures c.if-not-can_be_least.true)))
    (adds_none c.args.draft.now c.len-len.ensures.room)
