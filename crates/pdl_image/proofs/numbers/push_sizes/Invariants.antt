use Rattle.std.proofs.Common.{◌≡◌, ◌++◌, take}
use Rattle.pdl_image.specs.Lines.{sizes_text}
use Rattle.pdl_image.proofs.numbers.push_sizes.Given as goal

-- the sizes before this one
abbrev pub invariant-loop-size : goal.invariant-loop-size
invariant-loop-size l = record {
  line : l.page.line ≡ l.fn.page.line ++ sizes_text (take l.size-index l.sizes);
  text : l.page.text ≡ l.fn.page.text;
}
