use Rattle.std.proofs.Common.{◌≡◌, drop, map}
use Rattle.pdl_nice.specs.declared.looks.Before.TheVariants.{Other as another}
use Rattle.pdl_nice.specs.Ends.{token_look, looks_nice}
use Rattle.pdl_nice.proofs.LookTokens.{behind_token_at}
use Rattle.pdl_nice.proofs.looks.looks_nice.Given as goal

-- a nice part stands among the tokens from here on where one stands among all
abbrev pub invariant-loop-at : goal.invariant-loop-at
invariant-loop-at l =
    looks_nice (behind_token_at l.text l.tokens l.at) (map (token_look l.text) (drop l.at l.tokens)) ≡ looks_nice another (map (token_look l.text) l.tokens)
