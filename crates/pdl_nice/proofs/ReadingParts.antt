-- The parts of an argument, and arguments, from where they are cut.
use Rattle.std.proofs.Common.{◌≡◌, ℕ, ◌+◌, ◌<◌, ◌≤◌, Bool, true, false, List, [], ◌∷◌, ◌++◌, length, drop, map, Option, Some, None, refl, ap, sym, ◌∙◌, subst, arith, get_or, true≢false}
use Rattle.std.specs.Prelude.{codes, option_map, Result, Ok, Err, IfOk, IfSome}
use Rattle.pdl_lex.specs.Written.{Written}
use Rattle.pdl_nice.specs.declared.looks.Look.{Look}
use Rattle.pdl_nice.specs.declared.looks.Look.TheVariants.{Opens as opens}
use Rattle.pdl_nice.specs.Looks.{look}
use Rattle.pdl_nice.specs.Nice.{is_level, is_star, is_value, cut}
use Rattle.pdl_nice.specs.Reading.{Read, read, Front, front, spanned, spanning, is_colon, part_of, simple_of, argument_at}
use Rattle.pdl_nice.specs.Ends.{range, no_token, bar_len, further, cut_to}
use Rattle.pdl_nice.specs.Adding.{third_at, second_at, Adds, AddsIf, AddsRead, AddsFront, AddsUpTo}
use Rattle.pdl_lemmas.specs.Options.{some_inj, none_some}
use Rattle.pdl_nice.proofs.NiceCuts.{cut_sound}
use Rattle.pdl_nice.proofs.NiceCutPlaces.{cuts_are_bars}
use Rattle.pdl_nice.proofs.ReadingRanges.{IsFront, as_many, range_none}
use Rattle.pdl_nice.proofs.NiceInner.{look_at}
use Rattle.pdl_nice.proofs.AddingLemmas.{added_behind, two_added}

-- the cut where the looks have a bar
pub cut_there : (ws : List Written) (looks : List Look) (from : ℕ) (r : Option ℕ) → map look ws ≡ looks → from ≤ length looks →
    r ≡ further from (bar_len [] (drop from looks)) → cut [] (drop from ws) ≡ option_map (cut_to ws from) r
cut_there ws looks from r same le e =
    let len : length ws ≡ length looks = sym (as_many ws) ∙ ap length same in
    cuts_are_bars ws from (omega (arith, len, le))
    ∙ ap (option_map (cut_to ws from)) (sym (e ∙ ap (λ ls. further from (bar_len [] (drop from ls))) (sym same)))

pub no_cut : (ws : List Written) (looks : List Look) (from : ℕ) (r : Option ℕ) → map look ws ≡ looks → from ≤ length looks →
    r ≡ further from (bar_len [] (drop from looks)) → r ≡ None → cut [] (drop from ws) ≡ None
no_cut ws looks from r same le e n = cut_there ws looks from r same le e ∙ ap (option_map (cut_to ws from)) n

-- a cut at a place
pub record CutAt (ws : List Written) (looks : List Look) (from at : ℕ) : Type 0 where
  pub cut_is : cut [] (drop from ws) ≡ Some (cut_to ws from at)
  pub level : is_level [] (range ws from at) ≡ true
  pub bar_look : look (get_or ws at no_token) ≡ get_or looks at opens

pub cut_at : (ws : List Written) (looks : List Look) (from at : ℕ) (r : Option ℕ) → map look ws ≡ looks → from ≤ length looks →
    r ≡ further from (bar_len [] (drop from looks)) → r ≡ Some at → at < length looks → CutAt ws looks from at
cut_at ws looks from at r same le e n lt =
    let is = cut_there ws looks from r same le e ∙ ap (option_map (cut_to ws from)) n in
    record {
      cut_is = is;
      level = (cut_sound [] (drop from ws) (cut_to ws from at) is).level;
      bar_look = look_at ws looks at same lt;
    }

colon_there : {ws : List Written} {looks : List Look} {from at : ℕ} {b : Bool} → CutAt ws looks from at → is_colon (get_or looks at opens) ≡ b →
    is_colon (look (get_or ws at no_token)) ≡ b
colon_there x e = ap is_colon x.bar_look ∙ e

-- the third part
pub third_colon : (ws : List Written) (looks : List Look) (from at : ℕ) → CutAt ws looks from at → is_colon (get_or looks at opens) ≡ true →
    third_at (drop from ws) ≡ None
third_colon ws looks from at x e = rw x.cut_is (rw (colon_there x e) refl)

pub third_nothing : (ws : List Written) (looks : List Look) (from at : ℕ) → CutAt ws looks from at → is_colon (get_or looks at opens) ≡ false →
    from ≡ at → third_at (drop from ws) ≡ None
third_nothing ws looks from at x e same = rw x.cut_is (rw (colon_there x e) (rw (range_none ws from at same) refl))

star_value : (w : Written) (ws : List Written) → is_star (look w) ≡ true → is_value (w ∷ ws) ≡ false
star_value w ws s = rw s refl

pub third_star : (ws : List Written) (looks : List Look) (from at : ℕ) → CutAt ws looks from at → is_colon (get_or looks at opens) ≡ false →
    IsFront ws looks from at → is_star (get_or looks from opens) ≡ true → third_at (drop from ws) ≡ None
third_star ws looks from at x e f s =
    rw x.cut_is (rw (colon_there x e) (rw f.is (rw (star_value f.w f.rest (ap is_star f.looks_so ∙ s)) refl)))

pub third_value : (ws : List Written) (looks : List Look) (from at : ℕ) → CutAt ws looks from at → is_colon (get_or looks at opens) ≡ false →
    is_value (range ws from at) ≡ true →
    third_at (drop from ws) ≡ Some (front (get_or ws at no_token) (drop (at + 1) ws) (read (codes "#") (range ws from at ∷ [])))
third_value ws looks from at x e v = rw x.cut_is (rw (colon_there x e) (rw v refl))

pub no_third : (ws : List Written) (from : ℕ) → cut [] (drop from ws) ≡ None → third_at (drop from ws) ≡ None
no_third ws from e = rw e refl

-- where something ends, if it does, is a place between these
abbrev pub LiesBehind : (from below : ℕ) → Option ℕ → Type 0
LiesBehind from below end = IfSome end (λ at. (from ≤ at) × (at < below))

-- what stands behind a part and a colon
pub spans : (ws : List Written) (from at below : ℕ) (b0 b1 b2 b3 : List ℕ) (o0 o1 o2 : List (ℕ × ℕ)) (x : Read) (end : Option ℕ) (whole rest : Option Front) →
    from ≤ at → Adds ws from at b0 b1 o0 o1 x → b2 ≡ b1 ++ 58 ∷ [] → LiesBehind (at + 1) below end → whole ≡ option_map (spanning x) rest →
    AddsUpTo end ws (at + 1) b2 b3 o1 o2 rest → AddsUpTo end ws from b0 b3 o0 o2 whole
spans ws from at below b0 b1 b2 b3 o0 o1 o2 x None whole rest le h e lie is k = is ∙ ap (option_map (spanning x)) k
spans ws from at below b0 b1 b2 b3 o0 o1 o2 x (Some end) whole rest le h e lie is k =
    let low = lie.0 in
    record {
      what = spanned x k.what;
      is = is ∙ ap (option_map (spanning x)) k.is;
      adds = two_added from end h (added_behind (at + 1) end (58 ∷ []) k.adds e (omega arith) (omega arith))
          (omega arith) (omega (arith, low)) (omega (arith, le)) (omega arith);
    }

-- the parts behind the first colon
pub no_second : (ws : List Written) (from : ℕ) → cut [] (drop from ws) ≡ None → second_at (drop from ws) ≡ None
no_second ws from e = rw e refl

pub second_no_part : (ws : List Written) (looks : List Look) (from at : ℕ) → CutAt ws looks from at → part_of (range ws from at) ≡ None →
    second_at (drop from ws) ≡ None
second_no_part ws looks from at x e = rw x.cut_is (rw e refl)

pub second_part : (ws : List Written) (looks : List Look) (from at : ℕ) (p : Read) → CutAt ws looks from at → part_of (range ws from at) ≡ Some p →
    is_colon (get_or looks at opens) ≡ false → second_at (drop from ws) ≡ Some (front (get_or ws at no_token) (drop (at + 1) ws) p)
second_part ws looks from at p x e k = rw x.cut_is (rw e (rw (colon_there x k) refl))

pub second_third : (ws : List Written) (looks : List Look) (from at : ℕ) (p : Read) → CutAt ws looks from at → part_of (range ws from at) ≡ Some p →
    is_colon (get_or looks at opens) ≡ true → second_at (drop from ws) ≡ option_map (spanning p) (third_at (drop (at + 1) ws))
second_third ws looks from at p x e k = rw x.cut_is (rw e (rw (colon_there x k) refl))

-- an argument
pub no_argument : (ws : List Written) (from : ℕ) → cut [] (drop from ws) ≡ None → argument_at (drop from ws) ≡ None
unfolding argument_at
no_argument ws from e = rw e refl

pub argument_no_part : (ws : List Written) (looks : List Look) (from at : ℕ) → CutAt ws looks from at → is_colon (get_or looks at opens) ≡ true →
    part_of (range ws from at) ≡ None → argument_at (drop from ws) ≡ None
unfolding argument_at
argument_no_part ws looks from at x k e = rw x.cut_is (rw (colon_there x k) (rw e refl))

pub argument_parts : (ws : List Written) (looks : List Look) (from at : ℕ) (p : Read) → CutAt ws looks from at → is_colon (get_or looks at opens) ≡ true →
    part_of (range ws from at) ≡ Some p → argument_at (drop from ws) ≡ option_map (spanning p) (second_at (drop (at + 1) ws))
unfolding argument_at
argument_parts ws looks from at p x k e = rw x.cut_is (rw (colon_there x k) (rw e refl))

pub argument_simple : (ws : List Written) (looks : List Look) (from at : ℕ) (o : Option Read) → CutAt ws looks from at → is_colon (get_or looks at opens) ≡ false →
    simple_of (range ws from at) ≡ o → argument_at (drop from ws) ≡ option_map (front (get_or ws at no_token) (drop (at + 1) ws)) o
unfolding argument_at
argument_simple ws looks from at o x k e = rw x.cut_is (rw (colon_there x k) (rw e refl))

-- what is said of a value that two clauses speak of
pub if_ok_both : {T E : Type 0} (r : Result T E) (P Q R : T → Type 0) → ((x : T) → P x → Q x → R x) → IfOk r P → IfOk r Q → IfOk r R
if_ok_both (Ok x) P Q R f h k = f x h k
if_ok_both (Err e) P Q R f h k = h

-- what was read, by whether anything was
pub none_read : (found : Bool) (ws : List Written) (from to : ℕ) (b0 b1 : List ℕ) (o0 o1 : List (ℕ × ℕ)) (o : Option Read) → found ≡ false →
    AddsIf found ws from to b0 b1 o0 o1 o → o ≡ None
none_read true ws from to b0 b1 o0 o1 o e h = absurd (true≢false e)
none_read false ws from to b0 b1 o0 o1 o e h = h

pub some_read : (found : Bool) (ws : List Written) (from to : ℕ) (b0 b1 : List ℕ) (o0 o1 : List (ℕ × ℕ)) (o : Option Read) → found ≡ true →
    AddsIf found ws from to b0 b1 o0 o1 o → AddsRead ws from to b0 b1 o0 o1 o
some_read true ws from to b0 b1 o0 o1 o e h = h
some_read false ws from to b0 b1 o0 o1 o e h = absurd (true≢false (sym e))

-- what was read up to a place, by that place
pub front_read : (end : Option ℕ) (at : ℕ) (ws : List Written) (from : ℕ) (b0 b1 : List ℕ) (o0 o1 : List (ℕ × ℕ)) (o : Option Front) → end ≡ Some at →
    AddsUpTo end ws from b0 b1 o0 o1 o → AddsFront ws from at b0 b1 o0 o1 o
front_read None at ws from b0 b1 o0 o1 o e h = absurd (none_some e)
front_read (Some end) at ws from b0 b1 o0 o1 o e h = subst (λ n. AddsFront ws from n b0 b1 o0 o1 o) (some_inj e) h

pub no_front_read : (end : Option ℕ) (ws : List Written) (from : ℕ) (b0 b1 : List ℕ) (o0 o1 : List (ℕ × ℕ)) (o : Option Front) → end ≡ None →
    AddsUpTo end ws from b0 b1 o0 o1 o → o ≡ None
no_front_read None ws from b0 b1 o0 o1 o e h = h
no_front_read (Some end) ws from b0 b1 o0 o1 o e h = absurd (none_some (sym e))

pub lies_there : (end : Option ℕ) (at from below : ℕ) → end ≡ Some at → LiesBehind from below end → (from ≤ at) × (at < below)
lies_there None at from below e h = absurd (none_some e)
lies_there (Some end) at from below e h = subst (λ n. (from ≤ n) × (n < below)) (some_inj e) h
