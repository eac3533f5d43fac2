use Rattle.std.proofs.Common.{suc, length, []}
use Rattle.pdl_lexemes.specs.ListReading.{read_part}
use Rattle.pdl_lexemes.proofs.ListSound.{reader_sound}
use Rattle.pdl_lexemes.proofs.ListComplete.{list_found, list_opens, list_shorter}
use Rattle.pdl_lexemes.proofs.laws.lists_are_their_grammar.Goals as goal

pub returns : goal.returns
returns c = record {
  reads = λ ts rest shape elems. (λ e. reader_sound (suc (length ts)) [] ts (read_part shape elems rest) e, λ h. list_found h);
  opens = λ ts rest shape elems h. list_opens h;
  shortens = λ ts rest shape elems h. list_shorter h;
}
