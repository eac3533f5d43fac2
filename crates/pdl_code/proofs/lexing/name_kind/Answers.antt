use Rattle.std.proofs.Common.{rules}
use Rattle.std.proofs.lemmas.Slice.Eq.{text_from_reads}
use Rattle.pdl_code.proofs.lexing.name_kind.Goals as goal

pub returns-in-36-2 : goal.returns-in-36-2
returns-in-36-2 c = search (rules, text_from_reads)
