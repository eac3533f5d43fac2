use Rattle.pdl_machine.proofs.DumpLemmas.{dumps_name_by_numbers}
use Rattle.pdl_machine.proofs.dumping.dump_law.Goals as goal

pub returns : goal.returns
returns c = dumps_name_by_numbers
