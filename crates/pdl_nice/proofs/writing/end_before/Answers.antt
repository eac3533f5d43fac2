use Rattle.pdl_nice.proofs.WritingPlaces.{end_behind_there}
use Rattle.pdl_nice.proofs.writing.end_before.Goals as goal

pub returns : goal.returns
returns c = end_behind_there c.args.tokens.now c.args.at _ c.if-at-eq0.false c.requires
