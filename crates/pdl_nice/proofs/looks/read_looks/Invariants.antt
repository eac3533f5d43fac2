use Rattle.std.proofs.Common.{◌≡◌, take, map}
use Rattle.pdl_nice.specs.Ends.{token_look}
use Rattle.pdl_nice.proofs.looks.read_looks.Given as goal

abbrev pub invariant-loop-token : goal.invariant-loop-token
invariant-loop-token l = l.into.items ≡ map (token_look l.text) (take l.token-index l.tokens)
