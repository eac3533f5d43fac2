use Rattle.std.proofs.Common.{◌≡◌, take, true}
use Rattle.std.specs.List.{list_all}
use Rattle.pdl_lex.specs.Bytes.{is_word_byte}
use Rattle.pdl_lex.proofs.lexer.are_word_bytes.Given as goal

abbrev pub invariant-loop-byte : goal.invariant-loop-byte
invariant-loop-byte l = list_all is_word_byte (take l.byte-index l.text) ≡ true
