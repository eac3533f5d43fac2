-- Where no window is refused, none is the first.
use Rattle.std.proofs.Common.{length, rules, sym}
use Rattle.pdl_choice.specs.Range.{AllAllowed}
use Rattle.pdl_choice.proofs.WhereLists.{position-range_none}
use Rattle.pdl_choice.proofs.windows.first_refusal.Goals as goal

pub returns-then-free-clause-first : goal.returns-then-free-clause-first
returns-then-free-clause-first c =
    let allowed : AllAllowed c.args.edge c.args.parent.now c.args.windows.now c.args.ind.now = search rules in
    sym (position-range_none _ (length c.args.ind.now) allowed)
