-- What the grammar spells is what the machine reads.
use Rattle.std.proofs.Common.{◌≡◌, ℕ, ◌-◌, Bool, true, false, ◌||◌, List, [], ◌∷◌, ◌++◌, map, ℤ, pos, Option, Some, None, is_some, option_map, option_and_then, IsTrue, refl, sym, ap, ◌∙◌, subst}
use Rattle.std.proofs.lemmas.List.{map-append}
use Rattle.pdl_slices.specs.declared.SliceArg.{SliceArg}
use Rattle.pdl_slices.specs.declared.SliceArg.TheVariants.{Whole, Span}
use Rattle.pdl_slices.specs.declared.reading.Kind.{Kind}
use Rattle.pdl_slices.specs.declared.reading.Kind.TheVariants.{Blank, Digit, Minus, Close, Colon}
use Rattle.pdl_slices.specs.declared.reading.Slot.{Slot}
use Rattle.pdl_slices.specs.declared.reading.Slot.TheVariants.{Single, Bracket, Bracketed, Size, To, By}
use Rattle.pdl_slices.specs.declared.reading.NumberSoFar.{NumberSoFar}
use Rattle.pdl_slices.specs.declared.reading.NumberSoFar.TheVariants as part
use Rattle.pdl_slices.specs.declared.reading.Place.{Place}
use Rattle.pdl_slices.specs.Grammar.{Blanks, no_blank, blank_after, Digits, one_digit, digit_after, Number, plain, minus, Field, left_out, given, Arg, nothing, one, dropped, colon, span, stepped, sized, star, Args, one_arg, arg_after}
use Rattle.pdl_slices.specs.SliceReading.{kind_of, more_digits, with_sign, number_in, part_after_digit, takes_number, takes_sign, slot_after, arg_of, ending_argument, Stage, first_place, stage_after, run, first_stage}
use Rattle.pdl_slices.proofs.RefusalCuts.{cut_size, cut, cut_end, cut_arg, cut-neg, more_digits-cut, more_digits-zero}
use Rattle.pdl_slices.proofs.SliceReadingBytes.{kind_of-blank, kind_of-digit}

-- these arguments are done, and the next one is at this place
abbrev pub stage : List SliceArg → Slot → NumberSoFar → Stage
stage d s p = record { done = d; place = record { slot = s; part = p } }

abbrev pub at : List SliceArg → Slot → NumberSoFar → Option Stage
at d s p = Some (stage d s p)

pub run-None : (w : List ℕ) → run None w ≡ None
run-None [] = refl
run-None (b ∷ w) = run-None w

pub run-append : (o : Option Stage) (u v : List ℕ) → run o (u ++ v) ≡ run (run o u) v
run-append o [] v = refl
run-append o (b ∷ u) v = run-append (option_and_then (λ s. stage_after s (kind_of b)) o) u v

-- one byte of a known kind
pub run-one : (s : Stage) (b : ℕ) (k : Kind) → kind_of b ≡ k → run (Some s) (b ∷ []) ≡ stage_after s k
run-one s b k h = ap (stage_after s) h

-- the machine has the number x, if any, after some of the text
pub record Has (d : List SliceArg) (s : Slot) (x : Option ℤ) (o : Option Stage) : Type 0 where
  pub last : NumberSoFar
  pub reached : o ≡ at d s last
  pub holds : number_in last ≡ Some x

-- a blank ends a number and keeps it
blank_keeps : (d : List SliceArg) (s : Slot) (p : NumberSoFar) (x : Option ℤ) → number_in p ≡ Some x
    → Has d s x (stage_after (record { done = d; place = record { slot = s; part = p } }) Blank)
blank_keeps d s part.Before x h = record { last = part.Before; reached = refl; holds = h }
blank_keeps d s part.Minus x h = cc
blank_keeps d s (part.Digits n z) x h = record { last = part.After (with_sign n z); reached = refl; holds = h }
blank_keeps d s (part.After z) x h = record { last = part.After z; reached = refl; holds = h }

-- blanks after a number, or before one, leave it
pub run-blanks : (d : List SliceArg) (s : Slot) (x : Option ℤ) (o : Option Stage) (w : List ℕ) → Has d s x o → Blanks w → Has d s x (run o w)
run-blanks d s x o w has no_blank = has
run-blanks d s x o w has (blank_after v b bs h) =
    let before = run-blanks d s x o v has bs in
    let kept = blank_keeps d s before.last x before.holds in
    record {
      last = kept.last;
      reached = run-append o v (b ∷ []) ∙ ap (λ q. run q (b ∷ [])) before.reached ∙ run-one (stage d s before.last) b Blank (kind_of-blank b h) ∙ kept.reached;
      holds = kept.holds;
    }

-- blanks before a number leave the place
pub run-blanks_before : (d : List SliceArg) (s : Slot) (w : List ℕ) → Blanks w → run (at d s part.Before) w ≡ at d s part.Before
run-blanks_before d s w no_blank = refl
run-blanks_before d s w (blank_after v b bs h) =
    run-append (at d s part.Before) v (b ∷ []) ∙ ap (λ q. run q (b ∷ [])) (run-blanks_before d s v bs) ∙ run-one (stage d s part.Before) b Blank (kind_of-blank b h)

digit_moves : (d : List SliceArg) (s : Slot) (p : NumberSoFar) (e : ℕ) (q : NumberSoFar) → IsTrue (takes_number s) → part_after_digit p e ≡ Some q
    → stage_after (record { done = d; place = record { slot = s; part = p } }) (Digit e) ≡ at d s q
digit_moves d s p e q t h = rw (t, h) refl

-- digits after a sign or at the beginning of a number
pub run-digits : (d : List SliceArg) (s : Slot) (p : NumberSoFar) (neg : Bool) (n : ℕ) (w : List ℕ) → IsTrue (takes_number s)
    → ((e : ℕ) → part_after_digit p e ≡ Some (part.Digits neg (more_digits 0 e))) → Digits n w
    → run (at d s p) w ≡ at d s (part.Digits neg (cut_size n))
run-digits d s p neg n w t h (one_digit e k) =
    run-one (stage d s p) e (Digit (e - 48)) (kind_of-digit e k) ∙ digit_moves d s p (e - 48) (part.Digits neg (more_digits 0 (e - 48))) t (h (e - 48)) ∙ ap (λ m. at d s (part.Digits neg m)) (more_digits-zero (e - 48))
run-digits d s p neg n w t h (digit_after m v e ds k) =
    run-append (at d s p) v (e ∷ []) ∙ ap (λ q. run q (e ∷ [])) (run-digits d s p neg m v t h ds) ∙ run-one (stage d s (part.Digits neg (cut_size m))) e (Digit (e - 48)) (kind_of-digit e k)
    ∙ digit_moves d s (part.Digits neg (cut_size m)) (e - 48) (part.Digits neg (more_digits (cut_size m) (e - 48))) t refl
    ∙ ap (λ z. at d s (part.Digits neg z)) (more_digits-cut m (e - 48))

-- where a sign may stand, a number may
pub sign_takes : (s : Slot) → IsTrue (takes_sign s) → IsTrue (takes_number s)
sign_takes Single h = refl
sign_takes Bracket h = refl
sign_takes (Bracketed z) h = h
sign_takes Size h = refl
sign_takes (To from) h = refl
sign_takes (By from to) h = refl

minus_moves : (d : List SliceArg) (s : Slot) → IsTrue (takes_sign s)
    → stage_after (record { done = d; place = record { slot = s; part = part.Before } }) Minus ≡ at d s part.Minus
minus_moves d s t = rw t refl

pub run-number : (d : List SliceArg) (s : Slot) (z : ℤ) (w : List ℕ) → IsTrue (takes_sign s) → Number z w
    → Has d s (Some (cut z)) (run (at d s part.Before) w)
run-number d s z w t (plain n v ds) = record {
  last = part.Digits false (cut_size n);
  reached = run-digits d s part.Before false n v (sign_takes s t) (λ e. refl) ds;
  holds = refl;
}
run-number d s z w t (minus n v ds) = record {
  last = part.Digits true (cut_size n);
  reached = ap (λ o. run o v) (minus_moves d s t) ∙ run-digits d s part.Minus true n v (sign_takes s t) (λ e. refl) ds;
  holds = ap (λ k. Some (Some k)) (cut-neg n);
}

pub run-field : (d : List SliceArg) (s : Slot) (x : Option ℤ) (w : List ℕ) → IsTrue (takes_sign s) → Field x w
    → Has d s (cut_end x) (run (at d s part.Before) w)
run-field d s x w t (left_out v bs) = record { last = part.Before; reached = run-blanks_before d s v bs; holds = refl }
run-field d s x w t (given z u v r bs n cs) =
    subst (Has d s (Some (cut z)))
    (sym (run-append (at d s part.Before) (u ++ v) r ∙ ap (λ o. run o r) (run-append (at d s part.Before) u v ∙ ap (λ o. run o v) (run-blanks_before d s u bs))))
    (run-blanks d s (Some (cut z)) _ r (run-number d s z v t n) cs)

-- an argument may end there, and it is this one
pub record Closes (d : List SliceArg) (a : SliceArg) (o : Option Stage) : Type 0 where
  pub place : Place
  pub reached : o ≡ Some (record { done = d; place = place })
  pub ends : ending_argument place ≡ Some a

pub closes_has : (d : List SliceArg) (s : Slot) (x : Option ℤ) (a : SliceArg) (o : Option Stage) → Has d s x o → arg_of s x ≡ Some a → Closes d a o
closes_has d s x a o has e = record {
  place = record { slot = s; part = has.last };
  reached = has.reached;
  ends = ap (option_and_then (arg_of s)) has.holds ∙ e;
}

-- where a bracket, a star or a colon leads
abbrev pub next : List SliceArg → Place → Kind → Option Stage
next d p k =
    option_map (λ q. record { done = d; place = q })
    (option_and_then (λ number. option_map (λ s. record { slot = s; part = part.Before }) (slot_after p.slot number k)) (number_in p.part))

pub run-sign : (d : List SliceArg) (s : Slot) (x : Option ℤ) (o : Option Stage) (b : ℕ) (k : Kind) (to : Slot) (t : List ℕ)
    → ((p : Place) → stage_after (record { done = d; place = p }) (kind_of b) ≡ next d p k)
    → Has d s x o → slot_after s x k ≡ Some to → run o (b ∷ t) ≡ run (at d to part.Before) t
run-sign d s x o b k to t moves has e =
    ap (λ q. run q (b ∷ t)) has.reached
    ∙ ap (λ q. run q t)
    (moves (record { slot = s; part = has.last })
    ∙ ap (λ n. option_map (λ q. record { done = d; place = q }) (option_and_then (λ number. option_map (λ r. record { slot = r; part = part.Before }) (slot_after s number k)) n)) has.holds
    ∙ ap (λ n. option_map (λ q. record { done = d; place = q }) (option_map (λ r. record { slot = r; part = part.Before }) n)) e)

-- an argument's bytes, of which the first are blanks
after_blanks : (d : List SliceArg) (s t : List ℕ) → Blanks s → run (at d Single part.Before) (s ++ t) ≡ run (at d Single part.Before) t
after_blanks d s t bs = run-append (at d Single part.Before) s t ∙ ap (λ q. run q t) (run-blanks_before d Single s bs)

pub single_colon : (x : Option ℤ) → slot_after Single x Colon ≡ Some (To x)
single_colon None = refl
single_colon (Some z) = refl

pub to_colon : (x y : Option ℤ) → slot_after (To x) y Colon ≡ Some (By x y)
to_colon x None = refl
to_colon x (Some z) = refl

-- a field, a colon, and another field
run-colon : (d : List SliceArg) (x y : Option ℤ) (s t : List ℕ) → Field x s → Field y t
    → Has d (To (cut_end x)) (cut_end y) (run (at d Single part.Before) (s ++ 58 ∷ t))
run-colon d x y s t f g =
    subst (Has d (To (cut_end x)) (cut_end y))
    (sym (run-append (at d Single part.Before) s (58 ∷ t)
    ∙ run-sign d Single (cut_end x) _ 58 Colon (To (cut_end x)) t (λ p. refl) (run-field d Single x s refl f) (single_colon (cut_end x))))
    (run-field d (To (cut_end x)) y t refl g)

span_arg : (x y : Option ℤ) → IsTrue (is_some x || is_some y) → arg_of (To (cut_end x)) (cut_end y) ≡ Some (Span (cut_end x) (cut_end y) None)
span_arg None None h = cc
span_arg None (Some y) h = refl
span_arg (Some x) None h = refl
span_arg (Some x) (Some y) h = refl

-- an argument is read as it is spelled, with its sizes cut
pub run-arg : (d : List SliceArg) (a : SliceArg) (w : List ℕ) → Arg a w → Closes d (cut_arg a) (run (at d Single part.Before) w)
run-arg d a w (nothing s f) = closes_has d Single None Whole _ (run-field d Single None s refl f) refl
run-arg d a w (one z s f) = closes_has d Single (Some (cut z)) _ _ (run-field d Single (Some z) s refl f) refl
run-arg d a w (dropped z s t u bs f cs) = record {
  place = record { slot = Bracketed (cut z); part = part.Before };
  reached =
      run-append (at d Single part.Before) (s ++ 40 ∷ t) (41 ∷ u)
      ∙ ap (λ q. run q (41 ∷ u)) (after_blanks d s (40 ∷ t) bs)
      ∙ run-sign d Bracket (Some (cut z)) _ 41 Close (Bracketed (cut z)) u (λ p. refl) (run-field d Bracket (Some z) t refl f) refl
      ∙ run-blanks_before d (Bracketed (cut z)) u cs;
  ends = refl;
}
run-arg d a w (colon s t f g) = closes_has d (To None) None Whole _ (run-colon d None None s t f g) refl
run-arg d a w (span x y s t f g h) = closes_has d (To (cut_end x)) (cut_end y) _ _ (run-colon d x y s t f g) (span_arg x y h)
run-arg d a w (stepped x y z s t u f g h) =
    closes_has d (By (cut_end x) (cut_end y)) (Some (cut z)) _ _
    (subst (Has d (By (cut_end x) (cut_end y)) (Some (cut z)))
    (sym (run-append (at d Single part.Before) (s ++ 58 ∷ t) (58 ∷ u)
    ∙ run-sign d (To (cut_end x)) (cut_end y) _ 58 Colon (By (cut_end x) (cut_end y)) u (λ p. refl) (run-colon d x y s t f g) (to_colon (cut_end x) (cut_end y))))
    (run-field d (By (cut_end x) (cut_end y)) (Some z) u refl h))
    refl
run-arg d a w (sized n s t u v bs cs ds es) =
    closes_has d Size (Some (pos (cut_size n))) _ _
    (subst (Has d Size (Some (pos (cut_size n))))
    (sym (after_blanks d s (42 ∷ (t ++ u ++ v)) bs
    ∙ run-append (at d Size part.Before) (t ++ u) v
    ∙ ap (λ q. run q v) (run-append (at d Size part.Before) t u ∙ ap (λ q. run q u) (run-blanks_before d Size t cs))))
    (run-blanks d Size (Some (pos (cut_size n))) _ v
    (record { last = part.Digits false (cut_size n); reached = run-digits d Size part.Before false n u refl (λ e. refl) ds; holds = refl }) es))
    refl
run-arg d a w (star s t bs cs) = record {
  place = record { slot = Size; part = part.Before };
  reached = after_blanks d s (42 ∷ t) bs ∙ run-blanks_before d Size t cs;
  ends = refl;
}

-- the arguments before the last are done, and the last one may end
pub record Lists (all : List SliceArg) (o : Option Stage) : Type 0 where
  pub done : List SliceArg
  pub last : SliceArg
  pub closes : Closes done last o
  pub all_is : done ++ last ∷ [] ≡ all

comma_ends : (d : List SliceArg) (a : SliceArg) (o : Option Stage) (t : List ℕ) → Closes d a o → run o (44 ∷ t) ≡ run (at (d ++ a ∷ []) Single part.Before) t
comma_ends d a o t c =
    ap (λ q. run q (44 ∷ t)) c.reached
    ∙ ap (λ q. run (option_map (λ b. record { done = d ++ b ∷ []; place = first_place }) q) t) c.ends

-- a list of arguments is read as it is spelled
pub run-args : (all : List SliceArg) (w : List ℕ) → Args all w → Lists (map cut_arg all) (run (Some first_stage) w)
run-args all w (one_arg a s x) = record { done = []; last = cut_arg a; closes = run-arg [] a s x; all_is = refl }
run-args all w (arg_after bs a s t xs x) =
    let before = run-args bs s xs in
    record {
      done = map cut_arg bs;
      last = cut_arg a;
      closes = subst (Closes (map cut_arg bs) (cut_arg a))
          (sym (run-append (Some first_stage) s (44 ∷ t) ∙ comma_ends before.done before.last _ t before.closes ∙ ap (λ d. run (at d Single part.Before) t) before.all_is))
          (run-arg (map cut_arg bs) a t x);
      all_is = sym (map-append cut_arg bs (a ∷ []));
    }
