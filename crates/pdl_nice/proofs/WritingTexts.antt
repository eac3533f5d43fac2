-- The text of what tokens become, step by step.
use Rattle.std.proofs.Common.{◌≡◌, ℕ, suc, ◌<◌, true, false, List, [], ◌∷◌, ◌++◌, length, Option, Some, None, refl, ap, ap₂, sym, ◌∙◌, arith, append_assoc, length-append}
use Rattle.std.specs.Prelude.{option_map, option_and_then, codes}
use Rattle.pdl_lex.specs.Written.{Written, text_of}
use Rattle.pdl_nice.specs.declared.looks.Before.{Before}
use Rattle.pdl_nice.specs.declared.looks.Before.TheVariants.{Name as a_name, Arrow as an_arrow, Other as another}
use Rattle.pdl_nice.specs.Looks.{look, before_of, begins_nice}
use Rattle.pdl_nice.specs.Nice.{trimmed, listed, called, Part, Argument, Arguments, nothing, something, whole, dropped, one, new, sized, span, stepped, last, more}
use Rattle.pdl_nice.specs.Reading.{Front, each, arguments_in, call_before, reader, become}
use Rattle.pdl_nice.specs.Writing.{onto, text_behind, value_text, values_text, head, AllValues}
use Rattle.pdl_lemmas.specs.Options.{none_some}
use Rattle.pdl_nice.proofs.NiceSound.{arguments_sound, reader_sound}
use Rattle.pdl_nice.proofs.NiceComplete.{AllWithin, arguments_within, complete, each_none, within_head}

-- more may be read than there are tokens
enough : (n m : ℕ) (b : Before) (ws : List Written) → length ws < n → length ws < m → reader n b ws ≡ reader m b ws
enough n m b ws h l = of_reader (reader n b ws) refl
  where
    of_other : (o : Option (List Written)) → reader m b ws ≡ o → reader n b ws ≡ None → reader n b ws ≡ reader m b ws
    of_other None e none = none ∙ sym e
    of_other (Some us) e none = absurd (none_some (sym none ∙ complete (reader_sound m b ws us e) n h))

    of_reader : (o : Option (List Written)) → reader n b ws ≡ o → reader n b ws ≡ reader m b ws
    of_reader None e = of_other (reader m b ws) refl e
    of_reader (Some us) e = e ∙ sym (complete (reader_sound n b ws us e) m l)

each_step : (f : List Written → Option (List Written)) (e : List Written) (es : List (List Written)) →
    each f (e ∷ es) ≡ option_and_then (λ u. option_map (λ us. u ∷ us) (each f es)) (f e)
unfolding each
each_step f e es = refl

all_enough : (n m : ℕ) (es : List (List Written)) → AllWithin es m → m < n → each (reader n another) es ≡ each (become another) es
all_enough n m [] h lt = each_none (reader n another) ∙ sym (each_none (become another))
all_enough n m (e ∷ es) h lt =
    let both = within_head e es m h in
    let le = both.0 in
    each_step (reader n another) e es
    ∙ (ap₂ (λ o us. option_and_then (λ u. option_map (λ us. u ∷ us) us) o) (enough n (suc (length e)) another e (omega (arith, le, lt)) (omega arith)) (all_enough n m es both.1 lt)
    ∙ sym (each_step (become another) e es))

pub onto_onto : (a b : List ℕ) (o : Option (List ℕ)) → onto a (onto b o) ≡ onto (a ++ b) o
onto_onto a b None = refl
onto_onto a b (Some x) = ap (λ y. Some y) (sym (append_assoc a b x))

-- a token that stays
stays_text : (w : Written) (o : Option (List Written)) → option_map (λ us. text_of us []) (option_map (λ us. w ∷ us) o) ≡ onto (w.gap ++ w.bytes) (option_map (λ us. text_of us []) o)
stays_text w None = refl
stays_text w (Some us) = ap (λ y. Some y) (sym (append_assoc w.gap w.bytes (text_of us [])))

become_stays : (b : Before) (w : Written) (ts : List Written) → begins_nice b (look w) ≡ false → become b (w ∷ ts) ≡ option_map (λ us. w ∷ us) (become (before_of (look w)) ts)
unfolding reader
become_stays b w ts e = rw e refl

pub text_stays : (b : Before) (w : Written) (ts : List Written) → begins_nice b (look w) ≡ false →
    text_behind b (w ∷ ts) ≡ onto (w.gap ++ w.bytes) (text_behind (before_of (look w)) ts)
text_stays b w ts e =
    ap (option_map (λ us. text_of us [])) (become_stays b w ts e) ∙ stays_text w (become (before_of (look w)) ts)

pub text_end : (b : Before) → text_behind b [] ≡ Some []
unfolding reader
text_end b = refl

-- an expression, from its first token on
value_stays : (w : Written) (o : Option (List Written)) → option_map (λ u. text_of (trimmed u) []) (option_map (λ us. w ∷ us) o) ≡ onto w.bytes (option_map (λ us. text_of us []) o)
value_stays w None = refl
value_stays w (Some us) = refl

pub value_begins : (w : Written) (ts : List Written) → value_text (w ∷ ts) ≡ onto w.bytes (text_behind (before_of (look w)) ts)
value_begins w ts =
    ap (option_map (λ u. text_of (trimmed u) [])) (become_stays another w ts (never (look w))) ∙ value_stays w (become (before_of (look w)) ts)
  where
    never : (l : _) → begins_nice another l ≡ false
    never l = refl

-- the texts of expressions behind commas
listed_text : List (List Written) → List ℕ
listed_text [] = []
listed_text (v ∷ vs) = 44 ∷ (text_of (trimmed v) [] ++ listed_text vs)

text_both : (us vs : List Written) → text_of (us ++ vs) [] ≡ text_of us [] ++ text_of vs []
text_both [] vs = refl
text_both (u ∷ us) vs =
    ap (λ t. u.gap ++ (u.bytes ++ t)) (text_both us vs)
    ∙ (ap (λ t. u.gap ++ t) (sym (append_assoc u.bytes (text_of us []) (text_of vs []))) ∙ sym (append_assoc u.gap (u.bytes ++ text_of us []) (text_of vs [])))

listed_is : (vs : List (List Written)) (us : List Written) → text_of (listed vs ++ us) [] ≡ listed_text vs ++ 41 ∷ text_of us []
unfolding listed_text
listed_is [] us = refl
listed_is (v ∷ vs) us =
    ap (λ t. 44 ∷ t) (ap (λ xs. text_of xs []) (append_assoc (trimmed v) (listed vs) us) ∙ (text_both (trimmed v) (listed vs ++ us)
    ∙ (ap (λ t. text_of (trimmed v) [] ++ t) (listed_is vs us) ∙ sym (append_assoc (text_of (trimmed v) []) (listed_text vs) (41 ∷ text_of us [])))))

values_are : (es : List (List Written)) → values_text es ≡ option_map listed_text (each (become another) es)
unfolding listed_text
values_are [] = sym (ap (option_map listed_text) (each_none (become another)))
values_are (e ∷ es) =
    ap (λ o. option_and_then (λ text. onto (44 ∷ text) o) (value_text e)) (values_are es)
    ∙ (of_both (become another e) (each (become another) es) ∙ sym (ap (option_map listed_text) (each_step (become another) e es)))
  where
    of_both : (o : Option (List Written)) (p : Option (List (List Written))) →
        option_and_then (λ text. onto (44 ∷ text) (option_map listed_text p)) (option_map (λ u. text_of (trimmed u) []) o)
        ≡ option_map listed_text (option_and_then (λ u. option_map (λ us. u ∷ us) p) o)
    of_both None p = refl
    of_both (Some u) None = refl
    of_both (Some u) (Some us) = refl

-- what is written of a nice part
abbrev pub part_text : Before → (gap pattern values : List ℕ) → List ℕ
part_text b gap p vs = gap ++ (head b ++ (p ++ 34 ∷ (vs ++ 41 ∷ [])))

behind_pattern : (p t rest : List ℕ) → (p ++ 34 ∷ []) ++ (t ++ 41 ∷ rest) ≡ (p ++ 34 ∷ (t ++ 41 ∷ [])) ++ rest
behind_pattern p t rest =
    append_assoc p (34 ∷ []) (t ++ 41 ∷ rest)
    ∙ (ap (λ x. p ++ 34 ∷ x) (sym (append_assoc t (41 ∷ []) rest)) ∙ sym (append_assoc p (34 ∷ (t ++ 41 ∷ [])) rest))

called_text : (b : Before) (gap p : List ℕ) (vs : List (List Written)) (us : List Written) →
    text_of (called b gap p vs ++ us) [] ≡ part_text b gap p (listed_text vs) ++ text_of us []
called_text a_name gap p vs us =
    ap (λ t. gap ++ (codes "->nice(\"" ++ t)) (ap (λ t. (p ++ 34 ∷ []) ++ t) (listed_is vs us) ∙ behind_pattern p (listed_text vs) (text_of us []))
    ∙ sym (append_assoc gap (codes "->nice(\"" ++ (p ++ 34 ∷ (listed_text vs ++ 41 ∷ []))) (text_of us []))
called_text an_arrow gap p vs us =
    ap (λ t. gap ++ (codes "nice(\"" ++ t)) (ap (λ t. (p ++ 34 ∷ []) ++ t) (listed_is vs us) ∙ behind_pattern p (listed_text vs) (text_of us []))
    ∙ sym (append_assoc gap (codes "nice(\"" ++ (p ++ 34 ∷ (listed_text vs ++ 41 ∷ []))) (text_of us []))
called_text another gap p vs us =
    ap (λ t. gap ++ (codes "nice(\"" ++ t)) (ap (λ t. (p ++ 34 ∷ []) ++ t) (listed_is vs us) ∙ behind_pattern p (listed_text vs) (text_of us []))
    ∙ sym (append_assoc gap (codes "nice(\"" ++ (p ++ 34 ∷ (listed_text vs ++ 41 ∷ []))) (text_of us []))

-- the lengths of what arguments leave
record AreShorter (ts : List Written) (x : Front) : Type 0 where
  rest : length x.rest < length ts
  inside : ℕ
  values : AllWithin x.what.values inside
  within : inside < length ts

args_shorter : (ts : List Written) (x : Front) → arguments_in ts ≡ Some x → AreShorter ts x
args_shorter ts x e =
    let a = arguments_sound (suc (length ts)) ts x e in
    let whole : length ts ≡ length (a.ws ++ x.bar ∷ x.rest) = ap length a.whole in
    let sum = length-append a.ws (x.bar ∷ x.rest) in
    record { rest = omega (arith, whole, sum); inside = length a.ws; values = arguments_within a.is; within = omega (arith, whole, sum) }

become_nice_none : (b : Before) (w : Written) (ts : List Written) → begins_nice b (look w) ≡ true → arguments_in ts ≡ None → become b (w ∷ ts) ≡ None
unfolding reader
become_nice_none b w ts e h = rw e (rw h refl)

become_nice : (b : Before) (w : Written) (ts : List Written) (x : Front) → begins_nice b (look w) ≡ true → arguments_in ts ≡ Some x →
    become b (w ∷ ts) ≡ option_and_then (λ vs. option_map (call_before b w.gap x.what.pattern vs) (reader (suc (length ts)) another x.rest)) (each (reader (suc (length ts)) another) x.what.values)
unfolding reader
become_nice b w ts x e h = rw e (rw h refl)

become_behind : (b : Before) (w : Written) (ts : List Written) (x : Front) → begins_nice b (look w) ≡ true → arguments_in ts ≡ Some x →
    become b (w ∷ ts) ≡ option_and_then (λ vs. option_map (call_before b w.gap x.what.pattern vs) (become another x.rest)) (each (become another) x.what.values)
become_behind b w ts x e h =
    let s = args_shorter ts x h in
    let less = s.rest in
    let within = s.within in
    become_nice b w ts x e h
    ∙ ap₂ (λ o vs. option_and_then (λ vs. option_map (call_before b w.gap x.what.pattern vs) o) vs)
    (enough (suc (length ts)) (suc (length x.rest)) another x.rest (omega (arith, less)) (omega arith))
    (all_enough (suc (length ts)) s.inside x.what.values s.values (omega (arith, within)))

pub text_no_arguments : (b : Before) (w : Written) (ts : List Written) → begins_nice b (look w) ≡ true → arguments_in ts ≡ None → text_behind b (w ∷ ts) ≡ None
text_no_arguments b w ts e h = ap (option_map (λ us. text_of us [])) (become_nice_none b w ts e h)

of_values : (b : Before) (gap p : List ℕ) (o : Option (List Written)) (es : Option (List (List Written))) →
    option_map (λ us. text_of us []) (option_and_then (λ vs. option_map (call_before b gap p vs) o) es)
    ≡ option_and_then (λ t. onto (part_text b gap p t) (option_map (λ us. text_of us []) o)) (option_map listed_text es)
of_values b gap p o None = refl
of_values b gap p None (Some vs) = refl
of_values b gap p (Some us) (Some vs) = ap (λ t. Some t) (called_text b gap p vs us)

pub text_nice : (b : Before) (w : Written) (ts : List Written) (x : Front) → begins_nice b (look w) ≡ true → arguments_in ts ≡ Some x →
    text_behind b (w ∷ ts) ≡ option_and_then (λ t. onto (part_text b w.gap x.what.pattern t) (text_behind another x.rest)) (values_text x.what.values)
text_nice b w ts x e h =
    ap (option_map (λ us. text_of us [])) (become_behind b w ts x e h)
    ∙ (of_values b w.gap x.what.pattern (become another x.rest) (each (become another) x.what.values)
    ∙ ap (option_and_then (λ t. onto (part_text b w.gap x.what.pattern t) (text_behind another x.rest))) (sym (values_are x.what.values)))

-- expressions of arguments are values
both_values : (es fs : List (List Written)) → AllValues es → AllValues fs → AllValues (es ++ fs)
both_values [] fs h k = k
both_values (e ∷ es) fs h k = (h.0, both_values es fs h.1 k)

part_values : {p : List ℕ} {es : List (List Written)} {ws : List Written} → Part p es ws → AllValues es
part_values nothing = tt
part_values (something v) = (v, tt)

argument_values : {p : List ℕ} {es : List (List Written)} {ws : List Written} → Argument p es ws → AllValues es
argument_values whole = tt
argument_values (dropped s h v k) = (v, tt)
argument_values (one h v) = (v, tt)
argument_values (new h) = tt
argument_values (sized h v) = (v, tt)
argument_values (span {es = es} {fs = fs} c h e k) = both_values es fs (part_values h) (part_values k)
argument_values (stepped {es = es} {fs = fs} c d xs h e k i v) =
    both_values es (fs ++ xs ∷ []) (part_values h) (both_values fs (xs ∷ []) (part_values k) (v, tt))

arguments_values : {p : List ℕ} {es : List (List Written)} {ws : List Written} → Arguments p es ws → AllValues es
arguments_values (last h) = argument_values h
arguments_values (more {es = es} {fs = fs} c h e k) = both_values es fs (argument_values h) (arguments_values k)

pub args_values : (ts : List Written) (x : Front) → arguments_in ts ≡ Some x → AllValues x.what.values
args_values ts x e = arguments_values (arguments_sound (suc (length ts)) ts x e).is
