use Rattle.std.proofs.Common.{◌≡◌, ◌++◌, ◌*◌, map, take}
use Rattle.pdl_image.specs.declared.TheConstants.{PART}
use Rattle.pdl_image.specs.Dump.{as_listed}
use Rattle.pdl_image.specs.Lines.{more_text}
use Rattle.pdl_image.proofs.numbers.push_parts.Given as goal

-- the parts before this one
abbrev pub invariant-loop-p : goal.invariant-loop-p
invariant-loop-p l = record {
  line : l.page.line ≡ l.fn.page.line ++ more_text (map as_listed (take (PART * l.p) l.numbers));
  text : l.page.text ≡ l.fn.page.text;
}
