-- The tokens between two places, from their looks.
use Rattle.std.proofs.Common.{◌≡◌, ℕ, zero, suc, ◌+◌, ◌-◌, ◌<◌, ◌≤◌, true, false, List, [], ◌∷◌, length, drop, take, map, Some, None, refl, ap, sym, ◌∙◌, subst, arith, get_or, drop-cons, add-one}
use Rattle.std.specs.Prelude.{codes}
use Rattle.pdl_lex.specs.Written.{Written}
use Rattle.pdl_nice.specs.declared.looks.Look.{Look}
use Rattle.pdl_nice.specs.declared.looks.Look.TheVariants.{Opens as opens}
use Rattle.pdl_nice.specs.Looks.{look}
use Rattle.pdl_nice.specs.Nice.{is_level, is_star}
use Rattle.pdl_nice.specs.Reading.{read, part_of}
use Rattle.pdl_nice.specs.Ends.{range, no_token}

pub look_there : (ws : List Written) (i : ℕ) → i < length ws → get_or (map look ws) i opens ≡ look (get_or ws i no_token)
look_there [] i lt = absurd (omega (arith, lt))
look_there (w ∷ ws) zero lt = refl
look_there (w ∷ ws) (suc i) lt = look_there ws i (omega (arith, lt))

pub as_many : (ws : List Written) → length (map look ws) ≡ length ws
as_many [] = refl
as_many (w ∷ ws) = ap suc (as_many ws)

-- the tokens from a place to a later one
pub record IsFront (ws : List Written) (looks : List Look) (from to : ℕ) : Type 0 where
  pub w : Written
  pub rest : List Written
  pub is : range ws from to ≡ w ∷ rest
  pub looks_so : look w ≡ get_or looks from opens
  pub rest_is : rest ≡ range ws (from + 1) to

taken : (n m : ℕ) (w : Written) (ws : List Written) → n ≡ suc m → take n (w ∷ ws) ≡ w ∷ take m ws
taken n m w ws e = ap (λ k. take k (w ∷ ws)) e

pub front_is : (ws : List Written) (looks : List Look) (from to : ℕ) → map look ws ≡ looks → from < to → to ≤ length looks → IsFront ws looks from to
front_is ws looks from to same lt le =
    let len : length ws ≡ length looks = sym (as_many ws) ∙ ap length same in
    let inside : from < length ws = omega (arith, len, lt, le) in
    record {
      w = get_or ws from no_token;
      rest = take (to - suc from) (drop (suc from) ws);
      is = ap (take (to - from)) (drop-cons ws from no_token inside)
          ∙ taken (to - from) (to - suc from) (get_or ws from no_token) (drop (suc from) ws) (omega (arith, lt));
      rest_is = ap (λ k. take (to - k) (drop k ws)) (sym (add-one from));
      looks_so = sym (look_there ws from inside) ∙ ap (λ ls. get_or ls from opens) same;
    }

pub range_none : (ws : List Written) (from to : ℕ) → from ≡ to → range ws from to ≡ []
range_none ws from to e = let none : to - from ≡ 0 = omega (arith, e) in ap (λ n. take n (drop from ws)) none

no_tokens : part_of [] ≡ Some (read [] [])
unfolding part_of
no_tokens = refl

pub part_nothing : (ws : List Written) (from to : ℕ) → from ≡ to → part_of (range ws from to) ≡ Some (read [] [])
part_nothing ws from to e = ap part_of (range_none ws from to e) ∙ no_tokens

star_part : (w : Written) (ws : List Written) → is_star (look w) ≡ true → part_of (w ∷ ws) ≡ None
unfolding part_of
star_part w ws h = rw h refl

value_part : (w : Written) (ws : List Written) → is_star (look w) ≡ false → is_level [] (w ∷ ws) ≡ true → part_of (w ∷ ws) ≡ Some (read (codes "#") ((w ∷ ws) ∷ []))
unfolding part_of
value_part w ws h l = rw h (rw l refl)

pub star_first : (ws : List Written) (looks : List Look) (from to : ℕ) → IsFront ws looks from to → is_star (get_or looks from opens) ≡ true →
    part_of (range ws from to) ≡ None
star_first ws looks from to f s = ap part_of f.is ∙ star_part f.w f.rest (ap is_star f.looks_so ∙ s)

pub value_first : (ws : List Written) (looks : List Look) (from to : ℕ) → IsFront ws looks from to → is_star (get_or looks from opens) ≡ false →
    is_level [] (range ws from to) ≡ true → part_of (range ws from to) ≡ Some (read (codes "#") (range ws from to ∷ []))
value_first ws looks from to f s l =
    subst (λ xs. part_of xs ≡ Some (read (codes "#") (xs ∷ []))) (sym f.is)
    (value_part f.w f.rest (ap is_star f.looks_so ∙ s) (subst (λ xs. is_level [] xs ≡ true) f.is l))
