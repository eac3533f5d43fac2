-- What NiceSlice writes for tokens.
use Rattle.std.specs.Prelude.{option_map, option_and_then}
use Rattle.std.specs.Prelude.{◌≡◌, ℕ, ◌==◌, Bool, true, false, not, ◌&&◌, ◌||◌, if◌then◌else◌, List, [], ◌∷◌, ◌++◌, length, Option, Some, None, codes}
use Rattle.pdl_lemmas.specs.Options.{choose}
use Rattle.pdl_lex.specs.declared.TokenKind.TheVariants.{Word, Str, Sign}
use Rattle.pdl_nice.specs.declared.looks.Look.TheVariants.{Opens as opens, Shuts as shuts, Comma as comma, Colon as colon, Star as star}
use Rattle.pdl_nice.specs.declared.looks.Look.{Look}
use Rattle.pdl_nice.specs.declared.looks.Side.{Side}
use Rattle.pdl_lex.specs.Written.{Written}
use Rattle.pdl_nice.specs.declared.looks.Before.{Before}
use Rattle.pdl_nice.specs.declared.looks.Before.TheVariants.{Name as a_name, Arrow as an_arrow, Other as another}
use Rattle.pdl_nice.specs.Looks.{look, push, before_of, begins_nice}

-- a comma or a colon
abbrev pub is_separator : Look → Bool
is_separator comma = true
is_separator colon = true
is_separator _ = false

abbrev pub is_none : List Side → Bool
is_none [] = true
is_none (s ∷ sides) = false

-- whether each bracket is closed by one of its kind, the open ones too, and no comma or colon
-- stands outside all of them
unfoldable pub is_level : List Side → List Written → Bool
is_level sides [] = is_none sides
is_level sides (w ∷ ws) =
    if is_none sides && is_separator (look w) then false
    else choose false (λ now. is_level now ws) (push sides (look w))

abbrev pub is_star : Look → Bool
is_star star = true
is_star _ = false

-- tokens that can be an expression: one at least, no star at the front
abbrev pub is_value : List Written → Bool
is_value [] = false
is_value (w ∷ ws) = not (is_star (look w)) && is_level [] (w ∷ ws)

-- tokens up to one that stands outside inner brackets, that token, and what follows it
pub record Cut : Type 0 where
  pub front : List Written
  pub bar : Written
  pub rest : List Written

abbrev pub cut_here : Written → List Written → Cut
cut_here w ws = record { front = []; bar = w; rest = ws }

abbrev pub with_first : Written → Cut → Cut
with_first w x = record { front = w ∷ x.front; bar = x.bar; rest = x.rest }

-- a comma, a colon or `)`
abbrev pub is_bar : Look → Bool
is_bar comma = true
is_bar colon = true
is_bar shuts = true
is_bar _ = false

-- the cut at the first such token outside inner brackets
unfoldable pub cut : List Side → List Written → Option Cut
cut sides [] = None
cut sides (w ∷ ws) =
    if is_none sides && is_bar (look w) then Some (cut_here w ws)
    else option_and_then (λ now. option_map (with_first w) (cut now ws)) (push sides (look w))

abbrev pub is_open : Look → Bool
is_open opens = true
is_open _ = false

abbrev pub is_shut : Look → Bool
is_shut shuts = true
is_shut _ = false

-- what stands between the brackets, where `)` is the last token and that is a value
abbrev pub if_last : Cut → Option (List Written)
if_last x =
    if is_shut (look x.bar) && (length x.rest == 0) && is_value x.front then Some x.front else None

-- what stands in brackets, where the tokens are just a value in round brackets
unfoldable pub inner_of : List Written → Option (List Written)
inner_of [] = None
inner_of (w ∷ ws) = if is_open (look w) then option_and_then if_last (cut [] ws) else None

abbrev pub sign : List ℕ → List ℕ → Written
sign gap bytes = record { gap = gap; kind = Sign; bytes = bytes }

-- without what stands before the first token
abbrev pub trimmed : List Written → List Written
trimmed [] = []
trimmed (w ∷ ws) = record { gap = []; kind = w.kind; bytes = w.bytes } ∷ ws

-- the expressions, each behind a comma, and the closing bracket
abbrev pub listed : List (List Written) → List Written
listed [] = sign [] (codes ")") ∷ []
listed (e ∷ es) = sign [] (codes ",") ∷ (trimmed e ++ listed es)

-- the name of the call that a nice part becomes
abbrev pub nice_word : List ℕ
nice_word = codes "nice"

-- the call's name and its arguments
abbrev pub nice_call : (gap pattern : List ℕ) → List (List Written) → List Written
nice_call gap p es =
    record { gap = gap; kind = Word; bytes = nice_word } ∷ sign [] (codes "(")
    ∷ record { gap = []; kind = Str; bytes = 34 ∷ (p ++ 34 ∷ []) } ∷ listed es

-- what is written for a nice part, whose bracket has this before it
abbrev pub called : Before → (gap pattern : List ℕ) → List (List Written) → List Written
called a_name gap p es = sign gap (codes "->") ∷ nice_call [] p es
called an_arrow gap p es = nice_call gap p es
called another gap p es = nice_call gap p es

-- `#`, which stands for an expression in a pattern
abbrev pub mark : ℕ
mark = 35

-- a part between colons, with its pattern and its expression
pub data Part : (pattern : List ℕ) → List (List Written) → List Written → Type 0 where
  nothing : Part [] [] []
  something : {ws : List Written} → is_value ws ≡ true → Part (mark ∷ []) (ws ∷ []) ws

-- an argument of a nice part, with its pattern and its expressions
pub data Argument : (pattern : List ℕ) → List (List Written) → List Written → Type 0 where
  whole : Argument [] [] []
  dropped : {o : Written} {ws : List Written} (s : Written)
      → look o ≡ opens → is_value ws ≡ true → look s ≡ shuts
      → Argument (codes "(" ++ mark ∷ codes ")") (ws ∷ []) (o ∷ (ws ++ s ∷ []))
  one : {ws : List Written} → inner_of ws ≡ None → is_value ws ≡ true
      → Argument (mark ∷ []) (ws ∷ []) ws
  new : {w : Written} → look w ≡ star → Argument (codes "*") [] (w ∷ [])
  sized : {w : Written} {ws : List Written} → look w ≡ star → is_value ws ≡ true
      → Argument (codes "*" ++ mark ∷ []) (ws ∷ []) (w ∷ ws)
  span : {ws vs : List Written} {p q : List ℕ} {es fs : List (List Written)} (c : Written)
      → Part p es ws → look c ≡ colon → Part q fs vs
      → Argument (p ++ 58 ∷ q) (es ++ fs) (ws ++ c ∷ vs)
  stepped : {ws vs : List Written} {p q : List ℕ} {es fs : List (List Written)}
      (c d : Written) (xs : List Written)
      → Part p es ws → look c ≡ colon → Part q fs vs → look d ≡ colon → is_value xs ≡ true
      → Argument (p ++ 58 ∷ (q ++ 58 ∷ mark ∷ [])) (es ++ (fs ++ xs ∷ []))
      (ws ++ c ∷ (vs ++ d ∷ xs))

-- the arguments of a nice part, with the pattern and the expressions
pub data Arguments : (pattern : List ℕ) → List (List Written) → List Written → Type 0 where
  last : {ws : List Written} {p : List ℕ} {es : List (List Written)} → Argument p es ws
      → Arguments p es ws
  more : {ws vs : List Written} {p q : List ℕ} {es fs : List (List Written)} (c : Written)
      → Argument p es ws → look c ≡ comma → Arguments q fs vs
      → Arguments (p ++ 44 ∷ q) (es ++ fs) (ws ++ c ∷ vs)

mutual
  -- what tokens behind such a token become
  pub data Becomes : Before → List Written → List Written → Type 0 where
    done : {b : Before} → Becomes b [] []
    stays : {b : Before} {w : Written} {ws us : List Written} → begins_nice b (look w) ≡ false
        → Becomes (before_of (look w)) ws us → Becomes b (w ∷ ws) (w ∷ us)
    nice : {b : Before} {o : Written} {inside ws us : List Written} {p : List ℕ}
        {es vs : List (List Written)} (s : Written)
        → begins_nice b (look o) ≡ true → Arguments p es inside → look s ≡ shuts
        → AllBecome es vs → Becomes another ws us
        → Becomes b (o ∷ (inside ++ s ∷ ws)) (called b o.gap p vs ++ us)

  -- what expressions become
  pub data AllBecome : List (List Written) → List (List Written) → Type 0 where
    no_more : AllBecome [] []
    and_then : {e u : List Written} {es us : List (List Written)}
        → Becomes another e u → AllBecome es us
        → AllBecome (e ∷ es) (u ∷ us)

-- whether a nice part stands in tokens
unfoldable pub has_nice : Before → List Written → Bool
has_nice b [] = false
has_nice b (w ∷ ws) = begins_nice b (look w) || has_nice (before_of (look w)) ws
