use Rattle.std.specs.Prelude.{Ok}
use Rattle.pdl_lex.specs.Written.{text_of, placed}
use Rattle.pdl_lex.proofs.TokenSpans.{toks-meaning}
use Rattle.pdl_lex.proofs.TokensApart.{longer, string_kind}
use Rattle.pdl_lex.proofs.WrittenLemmas.{written_means, all_written}
use Rattle.pdl_lex.proofs.laws.written_laws.Goals as goal

pub returns-clause-read : goal.returns-clause-read
returns-clause-read c ws end are = (toks-meaning (text_of ws end) (Ok (placed 0 ws))).1 (written_means 0 ws end are)

pub returns-clause-longest : goal.returns-clause-longest
returns-clause-longest c = longer

pub returns-clause-strings : goal.returns-clause-strings
returns-clause-strings c = string_kind

pub returns-clause-all : goal.returns-clause-all
returns-clause-all c text ts e = all_written text ts ((toks-meaning text (Ok ts)).0 e)
