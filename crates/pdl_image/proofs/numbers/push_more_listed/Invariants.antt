use Rattle.std.proofs.Common.{◌≡◌, ◌++◌, map, take}
use Rattle.pdl_image.specs.Dump.{as_listed}
use Rattle.pdl_image.specs.Lines.{more_text}
use Rattle.pdl_image.proofs.numbers.push_more_listed.Given as goal

-- the numbers before this one
abbrev pub invariant-loop-number : goal.invariant-loop-number
invariant-loop-number l = record {
  line : l.page.line ≡ l.fn.page.line ++ more_text (map as_listed (take l.number-index l.numbers));
  text : l.page.text ≡ l.fn.page.text;
}
