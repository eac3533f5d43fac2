-- Where brackets are closed, seen in looks and places alone. Only private functions speak of this.
use Rattle.std.specs.Prelude.{option_map, option_and_then}
use Rattle.std.specs.Prelude.{◌≡◌, ℕ, suc, pred, nat_lt, Bool, true, false, ◌+◌, ◌-◌, ◌<◌, ◌≤◌, ◌&&◌, ◌||◌, if◌then◌else◌, List, [], ◌∷◌, length, take, drop, Option, Some, None, slice_index, slice_index_or as get_or}
use Rattle.pdl_lex.specs.declared.TokenKind.TheVariants.{Sign}
use Rattle.pdl_nice.specs.declared.looks.Look.{Look}
use Rattle.pdl_nice.specs.declared.looks.Look.TheVariants.{Opens as opens, Shuts as shuts, OpensSquare as opens_square, ShutsSquare as shuts_square}
use Rattle.pdl_nice.specs.declared.looks.Side.{Side}
use Rattle.pdl_nice.specs.declared.looks.Side.TheVariants.{Round as round, Square as square}
use Rattle.pdl_lex.specs.declared.Token.{Token}
use Rattle.pdl_lex.specs.Limits.{bracket_limit}
use Rattle.pdl_lex.specs.Written.{Written, between}
use Rattle.pdl_nice.specs.declared.looks.Open.{Open}
use Rattle.pdl_nice.specs.declared.looks.Before.{Before}
use Rattle.pdl_nice.specs.Looks.{look_of, push, before_of, begins_nice}
use Rattle.pdl_lemmas.specs.Options.{choose}
use Rattle.pdl_nice.specs.Nice.{is_none, is_bar, Cut}

-- how many tokens there are up to the one that closes the last of these open brackets
unfoldable pub close_len : List Side → List Look → Option ℕ
close_len [] ls = Some 0
close_len (s ∷ ss) [] = None
close_len (s ∷ ss) (l ∷ ls) =
    option_and_then (λ now. option_map suc (close_len now ls)) (push (s ∷ ss) l)

-- the place behind so many tokens, and 0 where there is none
abbrev pub behind : ℕ → Option ℕ → ℕ
behind at None = 0
behind at (Some n) = at + n

-- the bracket that a token opens
abbrev pub opened : Look → Option Side
opened opens = Some round
opened opens_square = Some square
opened _ = None

-- the bracket that a token closes
abbrev pub closed : Look → Option Side
closed shuts = Some round
closed shuts_square = Some square
closed _ = None

-- the place behind the bracket that closes the one at the front, which stands at a place
abbrev pub end_at : ℕ → List Look → ℕ
end_at at [] = 0
end_at at (l ∷ ls) = choose 0 (λ s. behind (at + 1) (close_len (s ∷ []) ls)) (opened l)

-- from a place on, each token has its bracket's end
abbrev pub AreEnds : List Look → List ℕ → ℕ → Type 0
AreEnds looks ends from =
    (k : ℕ) → from ≤ k → k < length looks → slice_index ends k ≡ end_at k (drop k looks)

-- how many tokens stand before the first comma, colon or `)` that is outside inner brackets
unfoldable pub bar_len : List Side → List Look → Option ℕ
bar_len sides [] = None
bar_len sides (l ∷ ls) =
    if is_none sides && is_bar l then Some 0
    else option_and_then (λ now. option_map suc (bar_len now ls)) (push sides l)

-- the place that many tokens further
abbrev pub further : ℕ → Option ℕ → Option ℕ
further at o = option_map (λ n. at + n) o

-- tokens from a place up to another one
abbrev pub range : List Written → ℕ → ℕ → List Written
range ws from to = take (to - from) (drop from ws)

-- what a token that isn't there would be
abbrev pub no_token : Written
no_token = record { gap = []; kind = Sign; bytes = [] }

-- tokens that are cut at a place
abbrev pub cut_to : List Written → ℕ → ℕ → Cut
cut_to ws from at =
    record { front = range ws from at; bar = get_or ws at no_token; rest = drop (at + 1) ws }

-- the look of a token of a text
abbrev pub token_look : List ℕ → Token → Look
token_look text t = look_of t.kind (between text t.from t.to)

abbrev pub none_open : Open
none_open = record { round = 0; square = 0 }

-- the brackets that are open behind a token
abbrev pub open_behind : Open → Look → Open
open_behind now opens = record now { round = suc now.round }
open_behind now shuts = record now { round = pred now.round }
open_behind now opens_square = record now { square = suc now.square }
open_behind now shuts_square = record now { square = pred now.square }
open_behind now _ = now

-- whether more than 64 are open at some token
abbrev pub looks_deep : Open → List Look → Bool
looks_deep now [] = false
looks_deep now (l ∷ ls) =
    if nat_lt bracket_limit ((open_behind now l).round + (open_behind now l).square) then true
    else looks_deep (open_behind now l) ls

-- whether a nice part stands among tokens with these looks
abbrev pub looks_nice : Before → List Look → Bool
looks_nice b [] = false
looks_nice b (l ∷ ls) = begins_nice b l || looks_nice (before_of l) ls
