-- What a token is to NiceSlice, and the brackets that are open behind it.
use Rattle.std.specs.Prelude.{ℕ, Bool, true, false, if◌then◌else◌, List, ◌∷◌, Option, Some, None, codes, bytes_eq}
use Rattle.pdl_lex.specs.Written.{Written}
use Rattle.pdl_lex.specs.declared.TokenKind.{TokenKind}
use Rattle.pdl_lex.specs.declared.TokenKind.TheVariants.{Name, Word, Number, Str, Sign}
use Rattle.pdl_nice.specs.declared.looks.Look.{Look}
use Rattle.pdl_nice.specs.declared.looks.Side.{Side}
use Rattle.pdl_nice.specs.declared.looks.Before.{Before}
use Rattle.pdl_nice.specs.declared.looks.Before.TheVariants.{Name as a_name, Arrow as an_arrow, Other as another}
use Rattle.pdl_nice.specs.declared.looks.Side.TheVariants.{Round as round, Square as square}
use Rattle.pdl_nice.specs.declared.looks.Look.TheVariants.{Opens as opens, Shuts as shuts, OpensSquare as opens_square, ShutsSquare as shuts_square, Comma as comma, Colon as colon, Star as star, Arrow as arrow, Named as named, Other as other}

abbrev pub sign_look : List ℕ → Look
sign_look bytes =
    if bytes_eq bytes (codes "(") then opens
    else (if bytes_eq bytes (codes ")") then shuts
    else (if bytes_eq bytes (codes "[") then opens_square
    else (if bytes_eq bytes (codes "]") then shuts_square
    else (if bytes_eq bytes (codes ",") then comma
    else (if bytes_eq bytes (codes ":") then colon
    else (if bytes_eq bytes (codes "*") then star
    else (if bytes_eq bytes (codes "->") then arrow
    else other)))))))

abbrev pub look_of : TokenKind → List ℕ → Look
look_of Name bytes = named
look_of Word bytes = other
look_of Number bytes = other
look_of Str bytes = other
look_of Sign bytes = sign_look bytes

-- what a token is to NiceSlice
unfoldable pub look : Written → Look
look w = look_of w.kind w.bytes

-- what stands directly before the token behind one
abbrev pub before_of : Look → Before
before_of named = a_name
before_of arrow = an_arrow
before_of _ = another

-- whether a token behind such a one begins a nice part
abbrev pub begins_nice : Before → Look → Bool
begins_nice a_name opens = true
begins_nice an_arrow opens = true
begins_nice _ _ = false

-- the innermost open bracket first
abbrev pub close_round : List Side → Option (List Side)
close_round (round ∷ sides) = Some sides
close_round _ = None

abbrev pub close_square : List Side → Option (List Side)
close_square (square ∷ sides) = Some sides
close_square _ = None

-- those that are open behind a token, or nothing where it closes none that is open
abbrev pub push : List Side → Look → Option (List Side)
push sides opens = Some (round ∷ sides)
push sides opens_square = Some (square ∷ sides)
push sides shuts = close_round sides
push sides shuts_square = close_square sides
push sides _ = Some sides
