use Rattle.std.proofs.Common.{refl}
use Rattle.pdl_image.proofs.AddingLemmas.{lines_join}
use Rattle.pdl_image.proofs.DumpMasks.{masks_choose}
use Rattle.pdl_image.proofs.StemLemmas.{stems_are_free, fewer_are_taken}
use Rattle.pdl_image.proofs.laws.dump_laws.Goals as goal

pub returns-clause-free : goal.returns-clause-free
returns-clause-free c = stems_are_free

pub returns-clause-fewest : goal.returns-clause-fewest
returns-clause-fewest c = fewer_are_taken

pub returns-clause-join : goal.returns-clause-join
returns-clause-join c = lines_join

pub returns-clause-masks : goal.returns-clause-masks
returns-clause-masks c = masks_choose

pub returns-clause-limits : goal.returns-clause-limits
returns-clause-limits c = record { piece = refl; longest = refl }
