-- What the machine has read, in the grammar's words.
use Rattle.std.proofs.Common.{◌≡◌, ℕ, ◌+◌, ◌-◌, ◌*◌, Bool, true, false, List, [], ◌∷◌, ◌++◌, ℤ, pos, neg_ℤ, Option, Some, None, option_map, option_and_then, if◌then◌else◌, IsTrue, refl, sym, ap, ◌∙◌, subst, append_assoc, append-nil}
use Rattle.pdl_slices.specs.declared.SliceArg.{SliceArg}
use Rattle.pdl_slices.specs.declared.SliceArg.TheVariants.{Whole, One, Dropped, Dummy, Span}
use Rattle.pdl_slices.specs.declared.reading.Slot.{Slot}
use Rattle.pdl_slices.specs.declared.reading.Slot.TheVariants.{Single, Bracket, Bracketed, Size, To, By}
use Rattle.pdl_slices.specs.declared.reading.NumberSoFar.{NumberSoFar}
use Rattle.pdl_slices.specs.declared.reading.NumberSoFar.TheVariants as part
use Rattle.std.specs.Char.{is_ascii_digit}
use Rattle.std.proofs.lemmas.Option.{same_Some}
use Rattle.pdl_slices.specs.Grammar.{is_blank, Blanks, no_blank, blank_after, Digits, one_digit, digit_after, plain, minus, Field, left_out, given, Arg, nothing, one, dropped, colon, span, stepped, sized, star}
use Rattle.pdl_slices.specs.SliceReading.{with_sign, number_in, part_after_blank, part_after_digit, part_after_minus, takes_number, takes_sign, arg_of}
use Rattle.pdl_slices.proofs.RefusalCuts.{cut_size, cut, cut_end, cut_arg, cut-neg, more_digits-cut, more_digits-zero}

-- an option that is some value
pub map_is : {A B : Type 0} (f : A → B) (o : Option A) (b : B) → option_map f o ≡ Some b → (a : A) × ((o ≡ Some a) × (f a ≡ b))
map_is f None b h = cc
map_is f (Some a) b h = (a, (refl, same_Some (f a) b h))

pub and_then_is : {A B : Type 0} (f : A → Option B) (o : Option A) (b : B) → option_and_then f o ≡ Some b → (a : A) × ((o ≡ Some a) × (f a ≡ Some b))
and_then_is f None b h = cc
and_then_is f (Some a) b h = (a, (refl, h))

pub if_is : {A : Type 0} (t : Bool) (o : Option A) (b : A) → (if t then o else None) ≡ Some b → (t ≡ true) × (o ≡ Some b)
if_is true o b h = (refl, h)
if_is false o b h = cc

-- the part of a number's bytes, and the blanks round it
pub data PartReads (s : Slot) : NumberSoFar → List ℕ → Type 0 where
  waits : (v : List ℕ) → Blanks v → PartReads s part.Before v
  signs : (v : List ℕ) → IsTrue (takes_sign s) → Blanks v → PartReads s part.Minus (v ++ 45 ∷ [])
  counts : (n : ℕ) (v u : List ℕ) → IsTrue (takes_number s) → Blanks v → Digits n u
      → PartReads s (part.Digits false (cut_size n)) (v ++ u)
  counts_down : (n : ℕ) (v u : List ℕ) → IsTrue (takes_sign s) → Blanks v → Digits n u
      → PartReads s (part.Digits true (cut_size n)) (v ++ 45 ∷ u)
  after : (n : ℕ) (v u t : List ℕ) → IsTrue (takes_number s) → Blanks v → Digits n u → Blanks t
      → PartReads s (part.After (with_sign false (cut_size n))) (v ++ u ++ t)
  after_sign : (n : ℕ) (v u t : List ℕ) → IsTrue (takes_sign s) → Blanks v → Digits n u → Blanks t
      → PartReads s (part.After (with_sign true (cut_size n))) (v ++ 45 ∷ u ++ t)

one_blank : (b : ℕ) → IsTrue (is_blank b) → Blanks (b ∷ [])
one_blank b h = blank_after [] b no_blank h

pub part_blank : (s : Slot) (p q : NumberSoFar) (w : List ℕ) (b : ℕ) → IsTrue (is_blank b) → PartReads s p w → part_after_blank p ≡ Some q → PartReads s q (w ++ b ∷ [])
part_blank s p q w b k (waits v bs) h = subst (λ r. PartReads s r (v ++ b ∷ [])) (same_Some _ _ h) (waits (v ++ b ∷ []) (blank_after v b bs k))
part_blank s p q w b k (signs v t bs) h = cc
part_blank s p q w b k (counts n v u t bs ds) h = subst (λ r. PartReads s r (v ++ u ++ b ∷ [])) (same_Some _ _ h) (after n v u (b ∷ []) t bs ds (one_blank b k))
part_blank s p q w b k (counts_down n v u t bs ds) h = subst (λ r. PartReads s r (v ++ 45 ∷ u ++ b ∷ [])) (same_Some _ _ h) (after_sign n v u (b ∷ []) t bs ds (one_blank b k))
part_blank s p q w b k (after n v u r t bs ds es) h =
    subst (λ o. PartReads s o (v ++ u ++ r ++ b ∷ [])) (same_Some _ _ h)
    (subst (PartReads s (part.After (with_sign false (cut_size n)))) (sym (append_assoc (v ++ u) r (b ∷ []))) (after n v u (r ++ b ∷ []) t bs ds (blank_after r b es k)))
part_blank s p q w b k (after_sign n v u r t bs ds es) h =
    subst (λ o. PartReads s o (v ++ 45 ∷ u ++ r ++ b ∷ [])) (same_Some _ _ h)
    (subst (PartReads s (part.After (with_sign true (cut_size n)))) (sym (append_assoc (v ++ 45 ∷ u) r (b ∷ []))) (after_sign n v u (r ++ b ∷ []) t bs ds (blank_after r b es k)))

pub part_digit : (s : Slot) (p q : NumberSoFar) (w : List ℕ) (b : ℕ) → IsTrue (takes_number s) → IsTrue (is_ascii_digit b) → PartReads s p w → part_after_digit p (b - 48) ≡ Some q → PartReads s q (w ++ b ∷ [])
part_digit s p q w b t k (waits v bs) h =
    subst (λ r. PartReads s r (v ++ b ∷ [])) (ap (part.Digits false) (sym (more_digits-zero (b - 48))) ∙ same_Some _ _ h) (counts (b - 48) v (b ∷ []) t bs (one_digit b k))
part_digit s p q w b t k (signs v g bs) h =
    subst (λ r. PartReads s r (v ++ 45 ∷ [] ++ b ∷ [])) (ap (part.Digits true) (sym (more_digits-zero (b - 48))) ∙ same_Some _ _ h)
    (subst (PartReads s (part.Digits true (cut_size (b - 48)))) (sym (append_assoc v (45 ∷ []) (b ∷ []))) (counts_down (b - 48) v (b ∷ []) g bs (one_digit b k)))
part_digit s p q w b t k (counts n v u g bs ds) h =
    subst (λ r. PartReads s r (v ++ u ++ b ∷ [])) (ap (part.Digits false) (sym (more_digits-cut n (b - 48))) ∙ same_Some _ _ h)
    (subst (PartReads s (part.Digits false (cut_size (10 * n + (b - 48))))) (sym (append_assoc v u (b ∷ []))) (counts (10 * n + (b - 48)) v (u ++ b ∷ []) g bs (digit_after n u b ds k)))
part_digit s p q w b t k (counts_down n v u g bs ds) h =
    subst (λ r. PartReads s r (v ++ 45 ∷ u ++ b ∷ [])) (ap (part.Digits true) (sym (more_digits-cut n (b - 48))) ∙ same_Some _ _ h)
    (subst (PartReads s (part.Digits true (cut_size (10 * n + (b - 48))))) (sym (append_assoc v (45 ∷ u) (b ∷ []))) (counts_down (10 * n + (b - 48)) v (u ++ b ∷ []) g bs (digit_after n u b ds k)))
part_digit s p q w b t k (after n v u r g bs ds es) h = cc
part_digit s p q w b t k (after_sign n v u r g bs ds es) h = cc

pub part_minus : (s : Slot) (p q : NumberSoFar) (w : List ℕ) → IsTrue (takes_sign s) → PartReads s p w → part_after_minus p ≡ Some q → PartReads s q (w ++ 45 ∷ [])
part_minus s p q w t (waits v bs) h = subst (λ r. PartReads s r (v ++ 45 ∷ [])) (same_Some _ _ h) (signs v t bs)
part_minus s p q w t (signs v g bs) h = cc
part_minus s p q w t (counts n v u g bs ds) h = cc
part_minus s p q w t (counts_down n v u g bs ds) h = cc
part_minus s p q w t (after n v u r g bs ds es) h = cc
part_minus s p q w t (after_sign n v u r g bs ds es) h = cc

-- the bytes are a field, of whose number x is the cut one
pub record ReadsField (x : Option ℤ) (w : List ℕ) : Type 0 where
  pub number : Option ℤ
  pub spelled : Field number w
  pub cut_is : cut_end number ≡ x

pub field_of : (s : Slot) (p : NumberSoFar) (x : Option ℤ) (w : List ℕ) → PartReads s p w → number_in p ≡ Some x → ReadsField x w
field_of s p x w (waits v bs) h = record { number = None; spelled = left_out v bs; cut_is = same_Some _ _ h }
field_of s p x w (signs v t bs) h = cc
field_of s p x w (counts n v u t bs ds) h = record {
  number = Some (pos n);
  spelled = subst (Field (Some (pos n))) (append-nil (v ++ u)) (given (pos n) v u [] bs (plain n u ds) no_blank);
  cut_is = same_Some _ _ h;
}
field_of s p x w (counts_down n v u t bs ds) h = record {
  number = Some (neg_ℤ (pos n));
  spelled = subst (Field (Some (neg_ℤ (pos n)))) (append-nil (v ++ 45 ∷ u)) (given (neg_ℤ (pos n)) v (45 ∷ u) [] bs (minus n u ds) no_blank);
  cut_is = ap Some (sym (cut-neg n)) ∙ same_Some _ _ h;
}
field_of s p x w (after n v u r t bs ds es) h = record { number = Some (pos n); spelled = given (pos n) v u r bs (plain n u ds) es; cut_is = same_Some _ _ h }
field_of s p x w (after_sign n v u r t bs ds es) h = record {
  number = Some (neg_ℤ (pos n));
  spelled = given (neg_ℤ (pos n)) v (45 ∷ u) r bs (minus n u ds) es;
  cut_is = ap Some (sym (cut-neg n)) ∙ same_Some _ _ h;
}

-- the bytes are a size without a sign, or none
pub data ReadsSize : Option ℤ → List ℕ → Type 0 where
  no_size : (w : List ℕ) → Blanks w → ReadsSize None w
  a_size : (n : ℕ) (v u t : List ℕ) → Blanks v → Digits n u → Blanks t → ReadsSize (Some (pos (cut_size n))) (v ++ u ++ t)

pub size_of : (p : NumberSoFar) (x : Option ℤ) (w : List ℕ) → PartReads Size p w → number_in p ≡ Some x → ReadsSize x w
size_of p x w (waits v bs) h = subst (λ y. ReadsSize y v) (same_Some _ _ h) (no_size v bs)
size_of p x w (signs v t bs) h = cc
size_of p x w (counts n v u t bs ds) h =
    subst (λ y. ReadsSize y (v ++ u)) (same_Some _ _ h) (subst (ReadsSize (Some (pos (cut_size n)))) (append-nil (v ++ u)) (a_size n v u [] bs ds no_blank))
size_of p x w (counts_down n v u t bs ds) h = cc
size_of p x w (after n v u r t bs ds es) h = subst (λ y. ReadsSize y (v ++ u ++ r)) (same_Some _ _ h) (a_size n v u r bs ds es)
size_of p x w (after_sign n v u r t bs ds es) h = cc

-- behind a closed bracket are blanks alone
pub closed_of : (z : ℤ) (p : NumberSoFar) (x : Option ℤ) (w : List ℕ) → PartReads (Bracketed z) p w → number_in p ≡ Some x → Blanks w × (x ≡ None)
closed_of z p x w (waits v bs) h = (bs, sym (same_Some _ _ h))
closed_of z p x w (signs v t bs) h = cc
closed_of z p x w (counts n v u t bs ds) h = cc
closed_of z p x w (counts_down n v u t bs ds) h = cc
closed_of z p x w (after n v u r t bs ds es) h = cc
closed_of z p x w (after_sign n v u r t bs ds es) h = cc

-- without a number there are blanks alone
pub blanks_of : (s : Slot) (p : NumberSoFar) (w : List ℕ) → PartReads s p w → number_in p ≡ Some None → Blanks w
blanks_of s p w (waits v bs) h = bs
blanks_of s p w (signs v t bs) h = cc
blanks_of s p w (counts n v u t bs ds) h = cc
blanks_of s p w (counts_down n v u t bs ds) h = cc
blanks_of s p w (after n v u r t bs ds es) h = cc
blanks_of s p w (after_sign n v u r t bs ds es) h = cc

-- an argument's bytes before the number that is read
pub data SlotReads : Slot → List ℕ → Type 0 where
  single : SlotReads Single []
  bracket : (s : List ℕ) → Blanks s → SlotReads Bracket (s ++ 40 ∷ [])
  bracketed : (n : ℤ) (s t : List ℕ) → Blanks s → Field (Some n) t → SlotReads (Bracketed (cut n)) (s ++ 40 ∷ t ++ 41 ∷ [])
  size : (s : List ℕ) → Blanks s → SlotReads Size (s ++ 42 ∷ [])
  to : (x : Option ℤ) (s : List ℕ) → Field x s → SlotReads (To (cut_end x)) (s ++ 58 ∷ [])
  by : (x y : Option ℤ) (s t : List ℕ) → Field x s → Field y t → SlotReads (By (cut_end x) (cut_end y)) (s ++ 58 ∷ t ++ 58 ∷ [])

-- the bytes are an argument, of which a is the cut one
pub record ReadsArg (a : SliceArg) (w : List ℕ) : Type 0 where
  pub arg : SliceArg
  pub spelled : Arg arg w
  pub cut_is : cut_arg arg ≡ a

single_arg : (x : Option ℤ) (a : SliceArg) (w : List ℕ) → Field x w → arg_of Single (cut_end x) ≡ Some a → ReadsArg a w
single_arg None a w f h = record { arg = Whole; spelled = nothing w f; cut_is = same_Some _ _ h }
single_arg (Some z) a w f h = record { arg = One z; spelled = one z w f; cut_is = same_Some _ _ h }

to_arg : (x y : Option ℤ) (a : SliceArg) (s t : List ℕ) → Field x s → Field y t → arg_of (To (cut_end x)) (cut_end y) ≡ Some a → ReadsArg a (s ++ 58 ∷ t)
to_arg None None a s t f g h = record { arg = Whole; spelled = colon s t f g; cut_is = same_Some _ _ h }
to_arg None (Some y) a s t f g h = record { arg = Span None (Some y) None; spelled = span None (Some y) s t f g refl; cut_is = same_Some _ _ h }
to_arg (Some x) None a s t f g h = record { arg = Span (Some x) None None; spelled = span (Some x) None s t f g refl; cut_is = same_Some _ _ h }
to_arg (Some x) (Some y) a s t f g h = record { arg = Span (Some x) (Some y) None; spelled = span (Some x) (Some y) s t f g refl; cut_is = same_Some _ _ h }

by_arg : (x y z : Option ℤ) (a : SliceArg) (s t u : List ℕ) → Field x s → Field y t → Field z u → arg_of (By (cut_end x) (cut_end y)) (cut_end z) ≡ Some a → ReadsArg a (s ++ 58 ∷ t ++ 58 ∷ u)
by_arg x y None a s t u f g e h = cc
by_arg x y (Some z) a s t u f g e h = record { arg = Span x y (Some z); spelled = stepped x y z s t u f g e; cut_is = same_Some _ _ h }

size_arg : (x : Option ℤ) (a : SliceArg) (s w : List ℕ) → Blanks s → ReadsSize x w → arg_of Size x ≡ Some a → ReadsArg a (s ++ 42 ∷ w)
size_arg x a s w bs (no_size v cs) h = record { arg = Dummy 1; spelled = star s v bs cs; cut_is = same_Some _ _ h }
size_arg x a s w bs (a_size n v u t cs ds es) h = record { arg = Dummy n; spelled = sized n s v u t bs cs ds es; cut_is = same_Some _ _ h }

pub arg_reads : (s : Slot) (p : NumberSoFar) (x : Option ℤ) (a : SliceArg) (o v : List ℕ) → SlotReads s o → PartReads s p v → number_in p ≡ Some x → arg_of s x ≡ Some a → ReadsArg a (o ++ v)
arg_reads s p x a o v single r h e =
    let f = field_of Single p x v r h in
    single_arg f.number a v f.spelled (ap (arg_of Single) f.cut_is ∙ e)
arg_reads s p x a o v (bracket t bs) r h e = cc
arg_reads s p x a o v (bracketed n t u bs f) r h e =
    let c = closed_of (cut n) p x v r h in
    record {
      arg = Dropped n;
      spelled = subst (Arg (Dropped n)) (sym (append_assoc (t ++ 40 ∷ u) (41 ∷ []) v)) (dropped n t u v bs f c.0);
      cut_is = same_Some _ _ (ap (arg_of (Bracketed (cut n))) (sym c.1) ∙ e);
    }
arg_reads s p x a o v (size t bs) r h e =
    subst (ReadsArg a) (sym (append_assoc t (42 ∷ []) v)) (size_arg x a t v bs (size_of p x v r h) e)
arg_reads s p x a o v (to y t f) r h e =
    let g = field_of (To (cut_end y)) p x v r h in
    subst (ReadsArg a) (sym (append_assoc t (58 ∷ []) v)) (to_arg y g.number a t v f g.spelled (ap (arg_of (To (cut_end y))) g.cut_is ∙ e))
arg_reads s p x a o v (by y z t u f g) r h e =
    let k = field_of (By (cut_end y) (cut_end z)) p x v r h in
    subst (ReadsArg a) (sym (append_assoc (t ++ 58 ∷ u) (58 ∷ []) v)) (by_arg y z k.number a t u v f g k.spelled (ap (arg_of (By (cut_end y) (cut_end z))) k.cut_is ∙ e))
