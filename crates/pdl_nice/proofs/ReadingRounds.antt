-- The arguments of a nice part, one after another.
use Rattle.std.proofs.Common.{◌≡◌, ℕ, zero, suc, ◌+◌, ◌<◌, ◌≤◌, true, false, List, [], ◌∷◌, ◌++◌, length, drop, map, Option, Some, None, refl, ap, ap₂, sym, ◌∙◌, arith, get_or, append_assoc, length-append}
use Rattle.std.specs.Prelude.{option_map}
use Rattle.pdl_lex.specs.Written.{Written}
use Rattle.pdl_nice.specs.declared.looks.Look.{Look}
use Rattle.pdl_nice.specs.declared.looks.Look.TheVariants.{Opens as opens}
use Rattle.pdl_nice.specs.Looks.{look}
use Rattle.pdl_nice.specs.Reading.{Read, read, Front, front, headed_by, is_comma, argument_at, arguments_at, arguments_in}
use Rattle.pdl_nice.specs.Ends.{no_token}
use Rattle.pdl_nice.specs.Adding.{Adds, AddsFront}
use Rattle.pdl_nice.proofs.AddingLemmas.{nothing_added, added_before, two_added}
use Rattle.pdl_nice.proofs.NiceInner.{look_at}
use Rattle.pdl_lemmas.specs.Tests.{by_test}
use Rattle.pdl_nice.proofs.NiceSound.{argument_sound}

shorter : (ts : List Written) (x : Front) → argument_at ts ≡ Some x → length x.rest < length ts
shorter ts x e =
    let i = argument_sound ts x e in
    let whole : length ts ≡ length (i.ws ++ x.bar ∷ x.rest) = ap length i.whole in
    let sum = length-append i.ws (x.bar ∷ x.rest) in
    omega (arith, whole, sum)

args_step_none : (k : ℕ) (ts : List Written) → argument_at ts ≡ None → arguments_at (suc k) ts ≡ None
unfolding arguments_at
args_step_none k ts e = rw e refl

args_step_last : (k : ℕ) (ts : List Written) (x : Front) → argument_at ts ≡ Some x → is_comma (look x.bar) ≡ false → arguments_at (suc k) ts ≡ Some x
unfolding arguments_at
args_step_last k ts x e c = rw e (rw c refl)

args_step_more : (k : ℕ) (ts : List Written) (x : Front) → argument_at ts ≡ Some x → is_comma (look x.bar) ≡ true →
    arguments_at (suc k) ts ≡ option_map (headed_by x.what) (arguments_at k x.rest)
unfolding arguments_at
args_step_more k ts x e c = rw e (rw c refl)

-- more arguments may be read than there are tokens
enough : (k m : ℕ) (ts : List Written) → length ts < k → length ts < m → arguments_at k ts ≡ arguments_at m ts
enough zero m ts h l = absurd (omega (arith, h))
enough (suc k) zero ts h l = absurd (omega (arith, l))
enough (suc k) (suc m) ts h l = of_argument (λ us f g. enough k m us f g) (argument_at ts) refl
  where
    of_argument : ((us : List Written) → length us < k → length us < m → arguments_at k us ≡ arguments_at m us) →
        (o : Option Front) → argument_at ts ≡ o → arguments_at (suc k) ts ≡ arguments_at (suc m) ts
    of_argument ih None e = args_step_none k ts e ∙ sym (args_step_none m ts e)
    of_argument ih (Some x) e =
        let less = shorter ts x e in
        by_test (is_comma (look x.bar))
        (λ c. args_step_more k ts x e c ∙ (ap (option_map (headed_by x.what)) (ih x.rest (omega (arith, less, h)) (omega (arith, less, l))) ∙ sym (args_step_more m ts x e c)))
        (λ c. args_step_last k ts x e c ∙ sym (args_step_last m ts x e c))

-- what is read of arguments, behind what was
abbrev pub behind_read : Read → Front → Front
behind_read x y = front y.bar y.rest (read (x.pattern ++ y.what.pattern) (x.values ++ y.what.values))

-- From a place on the same arguments are read as from the start, behind what was read so far.
pub record Passed (ws : List Written) (from at : ℕ) (b0 b1 : List ℕ) (o0 o1 : List (ℕ × ℕ)) : Type 0 where
  pub what : Read
  pub adds : Adds ws from at b0 b1 o0 o1 what
  pub rest : arguments_in (drop from ws) ≡ option_map (behind_read what) (arguments_in (drop at ws))

behind_nothing : (o : Option Front) → o ≡ option_map (behind_read (read [] [])) o
behind_nothing None = refl
behind_nothing (Some x) = refl

pub passed_none : (ws : List Written) (from : ℕ) (b : List ℕ) (o : List (ℕ × ℕ)) → Passed ws from from b b o o
passed_none ws from b o = record {
  what = read [] [];
  adds = nothing_added ws from from b o;
  rest = behind_nothing (arguments_in (drop from ws));
}

-- the argument at a place
pub in_none : (ts : List Written) → argument_at ts ≡ None → arguments_in ts ≡ None
in_none ts e = args_step_none (length ts) ts e

pub in_last : (ts : List Written) (x : Front) → argument_at ts ≡ Some x → is_comma (look x.bar) ≡ false → arguments_in ts ≡ Some x
in_last ts x e c = args_step_last (length ts) ts x e c

pub in_more : (ts : List Written) (x : Front) → argument_at ts ≡ Some x → is_comma (look x.bar) ≡ true →
    arguments_in ts ≡ option_map (headed_by x.what) (arguments_in x.rest)
in_more ts x e c =
    let less = shorter ts x e in
    args_step_more (length ts) ts x e c
    ∙ ap (option_map (headed_by x.what)) (enough (length ts) (suc (length x.rest)) x.rest less (omega arith))

-- one more argument and its comma
behind_both : (x y : Read) (o : Option Front) → option_map (behind_read x) (option_map (headed_by y) o)
    ≡ option_map (behind_read (read (x.pattern ++ (y.pattern ++ 44 ∷ [])) (x.values ++ y.values))) o
behind_both x y None = refl
behind_both x y (Some z) =
    ap₂ (λ p vs. Some (front z.bar z.rest (read p vs)))
    (ap (λ q. x.pattern ++ q) (sym (append_assoc y.pattern (44 ∷ []) z.what.pattern)) ∙ sym (append_assoc x.pattern (y.pattern ++ 44 ∷ []) z.what.pattern))
    (sym (append_assoc x.values y.values z.what.values))

pub passed_more : (ws : List Written) (looks : List Look) (from at end : ℕ) (b0 b1 b2 b3 : List ℕ) (o0 o1 o2 : List (ℕ × ℕ)) → map look ws ≡ looks →
    end < length looks → from ≤ at → at ≤ end → Passed ws from at b0 b1 o0 o1 → AddsFront ws at end b1 b2 o1 o2 (argument_at (drop at ws)) →
    is_comma (get_or looks end opens) ≡ true → b3 ≡ b2 ++ 44 ∷ [] → Passed ws from (end + 1) b0 b3 o0 o2
passed_more ws looks from at end b0 b1 b2 b3 o0 o1 o2 same lt l1 l2 h k c e =
    let comma = ap is_comma (look_at ws looks end same lt) ∙ c in
    record {
      what = read (h.what.pattern ++ (k.what.pattern ++ 44 ∷ [])) (h.what.values ++ k.what.values);
      adds = two_added from (end + 1) h.adds (added_before at (end + 1) (44 ∷ []) k.adds e (omega arith) (omega arith))
          (omega arith) (omega (arith, l2)) (omega (arith, l1)) (omega arith);
      rest = h.rest ∙ (ap (option_map (behind_read h.what)) (in_more (drop at ws) (front (get_or ws end no_token) (drop (end + 1) ws) k.what) k.is comma)
          ∙ behind_both h.what k.what (arguments_in (drop (end + 1) ws)));
    }

-- the last argument
pub passed_last : (ws : List Written) (looks : List Look) (from at end : ℕ) (b0 b1 b2 : List ℕ) (o0 o1 o2 : List (ℕ × ℕ)) → map look ws ≡ looks →
    end < length looks → from ≤ at → at ≤ end → Passed ws from at b0 b1 o0 o1 → AddsFront ws at end b1 b2 o1 o2 (argument_at (drop at ws)) →
    is_comma (get_or looks end opens) ≡ false → AddsFront ws from end b0 b2 o0 o2 (arguments_in (drop from ws))
passed_last ws looks from at end b0 b1 b2 o0 o1 o2 same lt l1 l2 h k c =
    let no_comma = ap is_comma (look_at ws looks end same lt) ∙ c in
    record {
      what = read (h.what.pattern ++ k.what.pattern) (h.what.values ++ k.what.values);
      is = h.rest ∙ ap (option_map (behind_read h.what)) (in_last (drop at ws) (front (get_or ws end no_token) (drop (end + 1) ws) k.what) k.is no_comma);
      adds = two_added from end h.adds k.adds (omega arith) (omega (arith, l2)) (omega (arith, l1)) (omega arith);
    }

pub passed_nothing : (ws : List Written) (from at : ℕ) (b0 b1 : List ℕ) (o0 o1 : List (ℕ × ℕ)) → Passed ws from at b0 b1 o0 o1 →
    argument_at (drop at ws) ≡ None → arguments_in (drop from ws) ≡ None
passed_nothing ws from at b0 b1 o0 o1 h e = h.rest ∙ ap (option_map (behind_read h.what)) (in_none (drop at ws) e)
