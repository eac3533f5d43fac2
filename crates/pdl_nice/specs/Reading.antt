-- How it is found what tokens become: the one way, if there is one.
use Rattle.std.specs.Prelude.{option_map, option_and_then}
use Rattle.std.specs.Prelude.{ℕ, zero, suc, Bool, true, false, if◌then◌else◌, List, [], ◌∷◌, ◌++◌, length, Option, Some, None, codes}
use Rattle.pdl_nice.specs.declared.looks.Look.TheVariants.{Comma as comma, Colon as colon}
use Rattle.pdl_nice.specs.declared.looks.Look.{Look}
use Rattle.pdl_lex.specs.Written.{Written}
use Rattle.pdl_nice.specs.Looks.{look, before_of, begins_nice}
use Rattle.pdl_nice.specs.declared.looks.Before.{Before}
use Rattle.pdl_nice.specs.declared.looks.Before.TheVariants.{Other as another}
use Rattle.pdl_lemmas.specs.Options.{choose}
use Rattle.pdl_nice.specs.Nice.{mark, is_value, is_star, Cut, cut, inner_of, called}

-- a pattern, and what its expressions become
pub record Read : Type 0 where
  pub pattern : List ℕ
  pub values : List (List Written)

abbrev pub read : List ℕ → List (List Written) → Read
read p es = record { pattern = p; values = es }

-- what is read before and behind a colon
abbrev pub spanned : Read → Read → Read
spanned x y = read (x.pattern ++ 58 ∷ y.pattern) (x.values ++ y.values)

-- before and behind a comma
abbrev pub joined : Read → Read → Read
joined x y = read (x.pattern ++ 44 ∷ y.pattern) (x.values ++ y.values)

-- what is read up to a token, that token, and what follows it
pub record Front : Type 0 where
  pub what : Read
  pub bar : Written
  pub rest : List Written

abbrev pub front : Written → List Written → Read → Front
front c rest x = record { what = x; bar = c; rest = rest }

abbrev pub headed_by : Read → Front → Front
headed_by x y = front y.bar y.rest (joined x y.what)

abbrev pub spanning : Read → Front → Front
spanning x y = front y.bar y.rest (spanned x y.what)

abbrev pub is_comma : Look → Bool
is_comma comma = true
is_comma _ = false

abbrev pub is_colon : Look → Bool
is_colon colon = true
is_colon _ = false

abbrev pub value_of : List ℕ → List Written → Option Read
value_of p ws = if is_value ws then Some (read p (ws ∷ [])) else None

unfoldable pub part_of : List Written → Option Read
part_of [] = Some (read [] [])
part_of (w ∷ ws) = value_of (mark ∷ []) (w ∷ ws)

abbrev pub starred_of : List Written → Option Read
starred_of [] = Some (read (codes "*") [])
starred_of (w ∷ ws) = value_of (codes "*" ++ mark ∷ []) (w ∷ ws)

abbrev pub unstarred_of : List Written → Option Read
unstarred_of ws =
    choose (value_of (mark ∷ []) ws)
    (λ us. Some (read (codes "(" ++ mark ∷ codes ")") (us ∷ []))) (inner_of ws)

-- an argument without a colon
unfoldable pub simple_of : List Written → Option Read
simple_of [] = Some (read [] [])
simple_of (w ∷ ws) = if is_star (look w) then starred_of ws else unstarred_of (w ∷ ws)

-- the third part
abbrev pub third_of : Cut → Option Front
third_of z =
    if is_colon (look z.bar) then None
    else option_map (front z.bar z.rest) (value_of (mark ∷ []) z.front)

-- the parts behind the first colon
abbrev pub second_of : Cut → Option Front
second_of y =
    option_and_then (λ p.
    if is_colon (look y.bar) then option_map (spanning p) (option_and_then third_of (cut [] y.rest))
    else Some (front y.bar y.rest p)) (part_of y.front)

abbrev pub first_of_parts : Cut → Option Front
first_of_parts x =
    if is_colon (look x.bar)
    then option_and_then (λ p. option_map (spanning p) (option_and_then second_of (cut [] x.rest)))
    (part_of x.front)
    else option_map (front x.bar x.rest) (simple_of x.front)

-- an argument, up to a comma or `)`
unfoldable pub argument_at : List Written → Option Front
argument_at ts = option_and_then first_of_parts (cut [] ts)

-- the arguments up to `)`, at most k of them
unfoldable pub arguments_at : ℕ → List Written → Option Front
arguments_at zero ts = None
arguments_at (suc k) ts =
    option_and_then (λ x.
    if is_comma (look x.bar) then option_map (headed_by x.what) (arguments_at k x.rest)
    else Some x) (argument_at ts)

-- the arguments up to `)`
abbrev pub arguments_in : List Written → Option Front
arguments_in ts = arguments_at (suc (length ts)) ts

-- what each of these becomes, where all become something
unfoldable pub each : (List Written → Option (List Written)) → List (List Written) →
    Option (List (List Written))
each f [] = Some []
each f (e ∷ es) = option_and_then (λ u. option_map (λ us. u ∷ us) (each f es)) (f e)

abbrev pub call_before : Before → (gap pattern : List ℕ) → (parts : List (List Written)) →
    (rest : List Written) → List Written
call_before b gap p vs us = called b gap p vs ++ us

-- what tokens become, where fewer than n tokens are left
unfoldable pub reader : ℕ → Before → List Written → Option (List Written)
reader zero b ts = None
reader (suc n) b [] = Some []
reader (suc n) b (w ∷ ts) =
    if begins_nice b (look w)
    then option_and_then (λ x.
    option_and_then (λ vs.
    option_map (call_before b w.gap x.what.pattern vs) (reader n another x.rest))
    (each (reader n another) x.what.values)) (arguments_at n ts)
    else option_map (λ us. w ∷ us) (reader n (before_of (look w)) ts)

-- what tokens behind such a one become
abbrev pub become : Before → List Written → Option (List Written)
become b ws = reader (suc (length ws)) b ws

-- what the tokens of a text become
abbrev pub plain_tokens : List Written → Option (List Written)
plain_tokens ws = become another ws
