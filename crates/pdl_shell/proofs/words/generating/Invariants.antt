use Rattle.std.proofs.Common.{◌≡◌, ◌<◌, ◌^◌, true, take}
use Rattle.std.specs.Char.{is_ascii_digit}
use Rattle.std.specs.List.{list_all}
use Rattle.pdl_shell.specs.Command.{value_of}
use Rattle.pdl_shell.proofs.words.generating.Given as goal

abbrev pub invariant-reading : goal.invariant-reading
invariant-reading l = record {
  value : l.rounds ≡ value_of (take l.digit-index l.word);
  digits : list_all is_ascii_digit (take l.digit-index l.word) ≡ true;
  bound : l.rounds < 10 ^ l.digit-index;
}
