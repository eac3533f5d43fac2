-- A value in round brackets, from its looks.
use Rattle.std.specs.Prelude.{option_map}
use Rattle.std.proofs.Common.{◌≡◌, ℕ, zero, suc, ◌+◌, ◌-◌, ◌<◌, ◌≤◌, Bool, true, false, not, ◌&&◌, List, [], ◌∷◌, ◌++◌, length, drop, take, map, Option, Some, None, refl, ap, sym, ◌∙◌, subst, arith, get_or, append_assoc, length-drop, drop-drop}
use Rattle.std.proofs.lemmas.List.{length-take, take-append-drop, length-append, get_or-drop}
use Rattle.std.proofs.lemmas.Bool.{lt-ltb, ltb-true}
use Rattle.std.proofs.Math.Seq.{take-append_seam}
use Rattle.std.specs.Prelude.{nat_lt}
use Rattle.pdl_nice.specs.declared.looks.Look.{Look}
use Rattle.pdl_nice.specs.declared.looks.Look.TheVariants.{Opens as opens, Shuts as shuts, Star as star}
use Rattle.pdl_lex.specs.Written.{Written}
use Rattle.pdl_nice.specs.Looks.{look, push}
use Rattle.pdl_nice.specs.Reading.{Read, read, part_of, simple_of}
use Rattle.std.specs.Prelude.{codes, if◌then◌else◌}
use Rattle.pdl_lemmas.specs.Options.{choose}
use Rattle.pdl_nice.specs.Nice.{is_level, is_star, is_shut, is_open, is_separator, is_value, cut, inner_of}
use Rattle.pdl_nice.specs.Ends.{range, no_token, bar_len, further, cut_to}
use Rattle.pdl_nice.specs.Adding.{ends_value, only, LieIn, AddsIf}
use Rattle.pdl_nice.proofs.AddingLemmas.{added_behind}
use Rattle.pdl_lemmas.specs.Options.{some_inj, map_elim}
use Rattle.std.proofs.lemmas.Bool.{and_parts as both}
use Rattle.pdl_nice.proofs.Options.{false_true}
use Rattle.pdl_nice.proofs.NiceCuts.{cut_sound, cut_found, value_level, is_bar_shut, open_is, shut_is, inner_sound, inner_found}
use Rattle.pdl_nice.proofs.NiceSound.{star_is}
use Rattle.pdl_nice.proofs.NiceComplete.{simple_empty}
use Rattle.pdl_nice.proofs.NiceCutPlaces.{cuts_are_bars}
use Rattle.pdl_nice.proofs.ReadingRanges.{IsFront, front_is, as_many, look_there, range_none}

-- what the looks say where the tokens between two places are a value in brackets
pub record IsDropped (looks : List Look) (from to : ℕ) (r : Option ℕ) : Type 0 where
  pub opening : get_or looks from opens ≡ opens
  pub at : ℕ
  pub bar : r ≡ Some at
  pub last : at ≡ to - 1
  pub value : ends_value looks (from + 1) at ≡ true

pub look_at : (ws : List Written) (looks : List Look) (i : ℕ) → map look ws ≡ looks → i < length looks → look (get_or ws i no_token) ≡ get_or looks i opens
look_at ws looks i same lt =
    let len : length ws ≡ length looks = sym (as_many ws) ∙ ap length same in
    sym (look_there ws i (omega (arith, len, lt))) ∙ ap (λ ls. get_or ls i opens) same

above : (a at : ℕ) (o : Option ℕ) → further a o ≡ Some at → a ≤ at
above a at o e = map_elim (a ≤ at) (λ n. a + n) o e (λ n h k. omega (arith, k))

all_true : (a b c : Bool) → a ≡ true → b ≡ true → c ≡ true → a && b && c ≡ true
all_true a b c h k l = rw h (rw k l)

value_first : (w : Written) (ws : List Written) → is_value (w ∷ ws) ≡ true → not (is_star (look w)) ≡ true
value_first w ws e = (both (not (is_star (look w))) (is_level [] (w ∷ ws)) e).0

value_start : (us : List Written) → is_value us ≡ true → (not (is_star (look (get_or us 0 no_token))) ≡ true) × (0 < length us)
value_start [] e = absurd (false_true e)
value_start (w ∷ us) e = (value_first w us e, omega arith)

first_taken : (n : ℕ) (ws : List Written) → 0 < n → get_or (take n ws) 0 no_token ≡ get_or ws 0 no_token
first_taken zero ws lt = absurd (omega (arith, lt))
first_taken (suc n) [] lt = refl
first_taken (suc n) (w ∷ ws) lt = refl

first_of : (ws : List Written) (a at : ℕ) (us : List Written) → range ws a at ≡ us → a < at → get_or ws a no_token ≡ get_or us 0 no_token
first_of ws a at us e lt =
    let zero_more : a + 0 ≡ a = omega arith in
    ap (λ n. get_or ws n no_token) (sym zero_more) ∙ (sym (get_or-drop a ws 0 no_token)
    ∙ (sym (first_taken (at - a) (drop a ws) (omega (arith, lt))) ∙ ap (λ xs. get_or xs 0 no_token) e))

pub dropped_is : (ws : List Written) (looks : List Look) (from to : ℕ) (us : List Written) (r : Option ℕ) → map look ws ≡ looks → from < to →
    to ≤ length looks → r ≡ further (from + 1) (bar_len [] (drop (from + 1) looks)) → inner_of (range ws from to) ≡ Some us → IsDropped looks from to r
dropped_is ws looks from to us r same lt le e h =
    let i = inner_sound (range ws from to) us h in
    let f = front_is ws looks from to same lt le in
    let len : length ws ≡ length looks = sym (as_many ws) ∙ ap length same in
    let pair : f.w ∷ f.rest ≡ i.o ∷ (us ++ i.s ∷ []) = sym f.is ∙ i.whole in
    let head : f.w ≡ i.o = ap (λ xs. get_or xs 0 no_token) pair in
    let behind = drop (to - from) (drop from ws) in
    let whole : drop from ws ≡ i.o ∷ (us ++ i.s ∷ behind) =
    sym (take-append-drop (to - from) (drop from ws)) ∙ (ap (λ xs. xs ++ behind) i.whole ∙ ap (λ xs. i.o ∷ xs) (append_assoc us (i.s ∷ []) behind)) in
    let next : drop (from + 1) ws ≡ us ++ i.s ∷ behind = sym (drop-drop 1 from ws) ∙ ap (drop 1) whole in
    let found = sym (cuts_are_bars ws (from + 1) (omega (arith, len, lt, le))) ∙ (ap (cut []) next
    ∙ cut_found [] us i.s behind (value_level us i.is) (is_bar_shut (look i.s) i.closing)) in
    map_elim (IsDropped looks from to r) (cut_to ws (from + 1)) (further (from + 1) (bar_len [] (drop (from + 1) (map look ws)))) found
    (λ at b c.
    let up = above (from + 1) at (bar_len [] (drop (from + 1) (map look ws))) b in
    let fronts : range ws (from + 1) at ≡ us = ap (λ x. x.front) c in
    let bars : get_or ws at no_token ≡ i.s = ap (λ x. x.bar) c in
    let size1 = length-take (at - (from + 1)) (drop (from + 1) ws) in
    let size2 = length-drop (from + 1) ws in
    let size3 : length (range ws (from + 1) at) ≡ length us = ap length fronts in
    let size4 : length (range ws from to) ≡ suc (length (us ++ i.s ∷ [])) = ap length i.whole in
    let size5 = length-append us (i.s ∷ []) in
    let size6 = length-take (to - from) (drop from ws) in
    let size7 = length-drop from ws in
    let last : at ≡ to - 1 = omega (arith, up, size1, size2, size3, size4, size5, size6, size7, len, lt, le) in
    let start = value_start us i.is in
    let many = start.1 in
    let inside : from + 1 < at = omega (arith, up, size1, size2, size3, many) in
    let first : get_or ws (from + 1) no_token ≡ get_or us 0 no_token = first_of ws (from + 1) at us fronts inside in
    record {
      opening = sym f.looks_so ∙ (ap look head ∙ i.opening);
      at = at;
      bar = e ∙ (ap (λ ls. further (from + 1) (bar_len [] (drop (from + 1) ls))) (sym same) ∙ b);
      last = last;
      value = all_true (nat_lt (from + 1) at) (is_shut (get_or looks at opens)) (not (is_star (get_or looks (from + 1) opens)))
          (lt-ltb (from + 1) at inside)
          (ap is_shut (sym (look_at ws looks at same (omega (arith, last, lt, le))) ∙ (ap look bars ∙ i.closing)))
          (ap (λ l. not (is_star l)) (sym (look_at ws looks (from + 1) same (omega (arith, last, lt, le, inside))) ∙ ap look first) ∙ start.0);
    })

value_of_both : (w : Written) (ws : List Written) → not (is_star (look w)) ≡ true → is_level [] (w ∷ ws) ≡ true → is_value (w ∷ ws) ≡ true
value_of_both w ws h l = rw h l

pub range_value : (ws : List Written) (looks : List Look) (a at : ℕ) → map look ws ≡ looks → a < at → at ≤ length looks →
    not (is_star (get_or looks a opens)) ≡ true → is_level [] (range ws a at) ≡ true → is_value (range ws a at) ≡ true
range_value ws looks a at same lt le n l =
    let f = front_is ws looks a at same lt le in
    subst (λ xs. is_value xs ≡ true) (sym f.is)
    (value_of_both f.w f.rest (ap (λ x. not (is_star x)) f.looks_so ∙ n) (subst (λ xs. is_level [] xs ≡ true) f.is l))

pub dropped_found : (ws : List Written) (looks : List Look) (from to at : ℕ) → map look ws ≡ looks → from < to → to ≤ length looks →
    get_or looks from opens ≡ opens → Some at ≡ further (from + 1) (bar_len [] (drop (from + 1) looks)) → at ≡ to - 1 →
    ends_value looks (from + 1) at ≡ true → inner_of (range ws from to) ≡ Some (range ws (from + 1) (to - 1))
dropped_found ws looks from to at same lt le opening e last v =
    let v1 = both (nat_lt (from + 1) at && is_shut (get_or looks at opens)) (not (is_star (get_or looks (from + 1) opens))) v in
    let v2 = both (nat_lt (from + 1) at) (is_shut (get_or looks at opens)) v1.0 in
    let inside = ltb-true (from + 1) at v2.0 in
    let len : length ws ≡ length looks = sym (as_many ws) ∙ ap length same in
    let f = front_is ws looks from to same lt le in
    let bars : Some at ≡ further (from + 1) (bar_len [] (drop (from + 1) (map look ws))) =
    e ∙ ap (λ ls. further (from + 1) (bar_len [] (drop (from + 1) ls))) (sym same) in
    let found : cut [] (drop (from + 1) ws) ≡ Some (cut_to ws (from + 1) at) =
    cuts_are_bars ws (from + 1) (omega (arith, len, lt, le)) ∙ ap (option_map (cut_to ws (from + 1))) (sym bars) in
    let c = cut_sound [] (drop (from + 1) ws) (cut_to ws (from + 1) at) found in
    let s = get_or ws at no_token in
    let inner = range ws (from + 1) at in
    let size1 = length-take (at - (from + 1)) (drop (from + 1) ws) in
    let size2 = length-drop (from + 1) ws in
    let size3 = length-append (range ws (from + 1) at) (get_or ws at no_token ∷ []) in
    let many : to - (from + 1) ≡ length (range ws (from + 1) at ++ get_or ws at no_token ∷ []) = omega (arith, size1, size2, size3, len, lt, le, last, inside) in
    let whole : drop (from + 1) ws ≡ (range ws (from + 1) at ++ get_or ws at no_token ∷ []) ++ drop (at + 1) ws =
    c.whole ∙ sym (append_assoc (range ws (from + 1) at) (get_or ws at no_token ∷ []) (drop (at + 1) ws)) in
    let rest : f.rest ≡ range ws (from + 1) at ++ get_or ws at no_token ∷ [] =
    f.rest_is ∙ (ap (take (to - (from + 1))) whole
    ∙ (ap (λ n. take n ((range ws (from + 1) at ++ get_or ws at no_token ∷ []) ++ drop (at + 1) ws)) many
    ∙ take-append_seam (range ws (from + 1) at ++ get_or ws at no_token ∷ []) (drop (at + 1) ws))) in
    let shut : look (get_or ws at no_token) ≡ shuts =
    look_at ws looks at same (omega (arith, last, lt, le, inside)) ∙ shut_is (get_or looks at opens) v2.1 in
    ap inner_of f.is ∙ (ap (λ xs. inner_of (f.w ∷ xs)) rest
    ∙ (inner_found f.w (get_or ws at no_token) (range ws (from + 1) at) (f.looks_so ∙ opening) shut
    (range_value ws looks (from + 1) at same inside (omega (arith, last, lt, le, inside)) v1.1 c.level)
    ∙ ap (λ n. Some (range ws (from + 1) n)) last))

-- where the looks don't say so, there is none
pub not_dropped : (ws : List Written) (looks : List Look) (from to : ℕ) (r : Option ℕ) → map look ws ≡ looks → from < to →
    to ≤ length looks → r ≡ further (from + 1) (bar_len [] (drop (from + 1) looks)) → (IsDropped looks from to r → ⊥) → inner_of (range ws from to) ≡ None
not_dropped ws looks from to r same lt le e never = of_inner (inner_of (range ws from to)) refl
  where
    of_inner : (o : Option (List Written)) → inner_of (range ws from to) ≡ o → o ≡ None
    of_inner None h = refl
    of_inner (Some us) h = absurd (never (dropped_is ws looks from to us r same lt le e h))

-- the answer, where `)` may stand at the last place
pub told : (ws : List Written) (looks : List Look) (from to at : ℕ) (r : Option ℕ) → map look ws ≡ looks → from < to → to ≤ length looks →
    is_open (get_or looks from opens) ≡ true → r ≡ further (from + 1) (bar_len [] (drop (from + 1) looks)) → r ≡ Some at → at ≡ to - 1 →
    (b : Bool) → b ≡ ends_value looks (from + 1) at → inner_of (range ws from to) ≡ only b (range ws (from + 1) (to - 1))
told ws looks from to at r same lt le o e k last true v =
    dropped_found ws looks from to at same lt le (open_is (get_or looks from opens) o) (sym k ∙ e) last (sym v)
told ws looks from to at r same lt le o e k last false v =
    not_dropped ws looks from to r same lt le e
    (λ d. false_true (v ∙ (ap (ends_value looks (from + 1)) (some_inj (sym k ∙ d.bar)) ∙ d.value)))

some_tokens : (ws : List Written) (a b : ℕ) → is_value (range ws a b) ≡ true → a < b
some_tokens ws a b v = of_len (b - a) refl v
  where
    of_len : (n : ℕ) → b - a ≡ n → is_value (take n (drop a ws)) ≡ true → a < b
    of_len zero e v = absurd (false_true v)
    of_len (suc n) e v = omega (arith, e)

-- a value in brackets lies between them
pub dropped_lies : (ws : List Written) (from to : ℕ) → inner_of (range ws from to) ≡ Some (range ws (from + 1) (to - 1)) → LieIn from to (from + 1, to - 1)
dropped_lies ws from to h =
    let i = inner_sound (range ws from to) (range ws (from + 1) (to - 1)) h in
    let some = some_tokens ws (from + 1) (to - 1) i.is in
    (omega arith, some, omega arith)

-- what stands behind a star
abbrev pub with_star : Read → Read
with_star x = read (42 ∷ x.pattern) x.values

level_behind : (w : Written) (ws : List Written) → look w ≡ star → is_level [] (w ∷ ws) ≡ true → is_level [] ws ≡ true
unfolding is_level
level_behind w ws s l = subst (λ x. (if is_separator x then false else choose false (λ now. is_level now ws) (push [] x)) ≡ true) s l

pub star_behind : (ws : List Written) (looks : List Look) (from to : ℕ) → (f : IsFront ws looks from to) → is_star (get_or looks from opens) ≡ true →
    is_level [] (range ws from to) ≡ true → is_level [] (range ws (from + 1) to) ≡ true
star_behind ws looks from to f s l =
    subst (λ xs. is_level [] xs ≡ true) f.rest_is (level_behind f.w f.rest (star_is (look f.w) (ap is_star f.looks_so ∙ s)) (subst (λ xs. is_level [] xs ≡ true) f.is l))

starred : (w : Written) (ws : List Written) (o : Option Read) → is_star (look w) ≡ true → part_of ws ≡ o → simple_of (w ∷ ws) ≡ option_map with_star o
unfolding simple_of part_of
starred w [] o s e = rw s (ap (option_map with_star) e)
starred w (v ∷ ws) o s e = rw s (of_value (is_value (v ∷ ws)) o e)
  where
    of_value : (b : Bool) (o : Option Read) → (if b then Some (read (codes "#") ((v ∷ ws) ∷ [])) else None) ≡ o →
        (if b then Some (read (codes "*#") ((v ∷ ws) ∷ [])) else None) ≡ option_map with_star o
    of_value true o e = ap (option_map with_star) e
    of_value false o e = ap (option_map with_star) e

pub star_simple : (ws : List Written) (looks : List Look) (from to : ℕ) (o : Option Read) → IsFront ws looks from to → is_star (get_or looks from opens) ≡ true →
    part_of (range ws (from + 1) to) ≡ o → simple_of (range ws from to) ≡ option_map with_star o
star_simple ws looks from to o f s e =
    ap simple_of f.is ∙ starred f.w f.rest o (ap is_star f.looks_so ∙ s) (ap part_of f.rest_is ∙ e)

pub simple_nothing : (ws : List Written) (from to : ℕ) → from ≡ to → simple_of (range ws from to) ≡ Some (read [] [])
simple_nothing ws from to e = ap simple_of (range_none ws from to e) ∙ simple_empty

dropped_case : (w : Written) (ws us : List Written) → is_star (look w) ≡ false → inner_of (w ∷ ws) ≡ Some us → simple_of (w ∷ ws) ≡ Some (read (codes "(#)") (us ∷ []))
unfolding simple_of
dropped_case w ws us s i = rw s (rw i refl)

value_case : (w : Written) (ws : List Written) → is_star (look w) ≡ false → is_level [] (w ∷ ws) ≡ true → inner_of (w ∷ ws) ≡ None →
    simple_of (w ∷ ws) ≡ Some (read (codes "#") ((w ∷ ws) ∷ []))
unfolding simple_of
value_case w ws s l i = rw s (rw i (rw l refl))

pub dropped_simple : (ws : List Written) (looks : List Look) (from to : ℕ) (us : List Written) → IsFront ws looks from to → is_star (get_or looks from opens) ≡ false →
    inner_of (range ws from to) ≡ Some us → simple_of (range ws from to) ≡ Some (read (codes "(#)") (us ∷ []))
dropped_simple ws looks from to us f s i =
    ap simple_of f.is ∙ dropped_case f.w f.rest us (ap is_star f.looks_so ∙ s) (ap inner_of (sym f.is) ∙ i)

pub value_simple : (ws : List Written) (looks : List Look) (from to : ℕ) → IsFront ws looks from to → is_star (get_or looks from opens) ≡ false →
    is_level [] (range ws from to) ≡ true → inner_of (range ws from to) ≡ None → simple_of (range ws from to) ≡ Some (read (codes "#") (range ws from to ∷ []))
value_simple ws looks from to f s l i =
    subst (λ xs. simple_of xs ≡ Some (read (codes "#") (xs ∷ []))) (sym f.is)
    (value_case f.w f.rest (ap is_star f.looks_so ∙ s) (subst (λ xs. is_level [] xs ≡ true) f.is l) (ap inner_of (sym f.is) ∙ i))

-- what is added behind a star
pub star_adds : (ws : List Written) (looks : List Look) (from to : ℕ) (found : Bool) (before now after : List ℕ) (old new : List (ℕ × ℕ)) →
    IsFront ws looks from to → is_star (get_or looks from opens) ≡ true → now ≡ before ++ 42 ∷ [] →
    AddsIf found ws (from + 1) to now after old new (part_of (range ws (from + 1) to)) → AddsIf found ws from to before after old new (simple_of (range ws from to))
star_adds ws looks from to true before now after old new f s e h = record {
  what = with_star h.what;
  is = star_simple ws looks from to (Some h.what) f s h.is;
  adds = added_behind from to (42 ∷ []) h.adds e (omega arith) (omega arith);
}
star_adds ws looks from to false before now after old new f s e h = star_simple ws looks from to None f s h
