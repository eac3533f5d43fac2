use Rattle.std.proofs.Common.{◌≡◌, ◌++◌, take}
use Rattle.pdl_slices.specs.Written.{more_text}
use Rattle.pdl_image.proofs.numbers.push_more_args.Given as goal

-- the arguments before this one
abbrev pub invariant-loop-arg : goal.invariant-loop-arg
invariant-loop-arg l = record {
  line : l.page.line ≡ l.fn.page.line ++ more_text (take l.arg-index l.args);
  text : l.page.text ≡ l.fn.page.text;
}
