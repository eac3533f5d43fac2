-- What the machine has read, byte by byte.
use Rattle.std.proofs.Common.{◌≡◌, ℕ, List, [], ◌∷◌, ◌++◌, map, ℤ, Option, Some, None, option_map, option_and_then, refl, sym, ap, ap₂, ◌∙◌, subst, append_assoc, append-nil}
use Rattle.std.proofs.lemmas.List.{map-append}
use Rattle.std.proofs.lemmas.Option.{same_Some}
use Rattle.pdl_slices.specs.declared.SliceArg.{SliceArg}
use Rattle.pdl_slices.specs.declared.reading.Kind.{Kind}
use Rattle.pdl_slices.specs.declared.reading.Kind.TheVariants.{Blank, Digit, Minus, Open, Close, Star, Colon, Comma, Other}
use Rattle.pdl_slices.specs.declared.reading.Slot.{Slot}
use Rattle.pdl_slices.specs.declared.reading.Slot.TheVariants.{Single, Bracket, Bracketed, To, By}
use Rattle.pdl_slices.specs.declared.reading.NumberSoFar.{NumberSoFar}
use Rattle.pdl_slices.specs.declared.reading.NumberSoFar.TheVariants as part
use Rattle.pdl_slices.specs.declared.reading.Place.{Place}
use Rattle.pdl_slices.specs.Grammar.{Blanks, no_blank, Field, Args, one_arg, arg_after}
use Rattle.pdl_slices.specs.SliceReading.{kind_of, number_in, part_after_blank, part_after_digit, part_after_minus, takes_number, takes_sign, slot_after, arg_of, in_slot, moved, ending_argument, Stage, first_place, stage_after, run, first_stage}
use Rattle.pdl_slices.proofs.RefusalCuts.{cut, cut_end, cut_arg}
use Rattle.pdl_slices.proofs.SliceReadingBytes.{Fact, fact}
use Rattle.pdl_slices.proofs.GrammarComplete.{run-None, single_colon, to_colon}
use Rattle.pdl_slices.proofs.GrammarSound.{map_is, and_then_is, if_is, PartReads, waits, part_blank, part_digit, part_minus, ReadsField, field_of, blanks_of, SlotReads, single, bracket, bracketed, size, to, by, ReadsArg, arg_reads}

bracket_closes : (s : List ℕ) (p : NumberSoFar) (v : List ℕ) (z : Option ℤ) (b : ℕ) (q : Slot) → Blanks s → ReadsField z v → slot_after Bracket z Close ≡ Some q → b ≡ 41
    → SlotReads q ((s ++ 40 ∷ []) ++ v ++ b ∷ [])
bracket_closes s p v z b q bs f h e = closes f.number f.spelled (ap (λ y. slot_after Bracket y Close) f.cut_is ∙ h) where
  closes : (y : Option ℤ) → Field y v → slot_after Bracket (cut_end y) Close ≡ Some q → SlotReads q ((s ++ 40 ∷ []) ++ v ++ b ∷ [])
  closes None g k = cc
  closes (Some n) g k =
      subst (λ o. SlotReads o ((s ++ 40 ∷ []) ++ v ++ b ∷ [])) (same_Some _ _ k)
      (subst (SlotReads (Bracketed (cut n))) (ap₂ (λ w c. w ++ c ∷ []) (sym (append_assoc s (40 ∷ []) v)) (sym e)) (bracketed n s v bs g))

-- a bracket, a star or a colon ends what is read of a number, and begins the next slot
sign_reads : (s q : Slot) (p : NumberSoFar) (x : Option ℤ) (k : Kind) (b : ℕ) (o v : List ℕ) → SlotReads s o → PartReads s p v → number_in p ≡ Some x
    → slot_after s x k ≡ Some q → Fact k b → SlotReads q (o ++ v ++ b ∷ [])
sign_reads s q p None Open b o v single r h e f =
    subst (λ c. SlotReads q (v ++ c ∷ [])) (sym f) (subst (λ t. SlotReads t (v ++ 40 ∷ [])) (same_Some _ _ e) (bracket v (blanks_of Single p v r h)))
sign_reads s q p None Star b o v single r h e f =
    subst (λ c. SlotReads q (v ++ c ∷ [])) (sym f) (subst (λ t. SlotReads t (v ++ 42 ∷ [])) (same_Some _ _ e) (size v (blanks_of Single p v r h)))
sign_reads s q p x Colon b o v single r h e f =
    let g = field_of Single p x v r h in
    subst (λ c. SlotReads q (v ++ c ∷ [])) (sym f)
    (subst (λ t. SlotReads t (v ++ 58 ∷ [])) (ap To g.cut_is ∙ same_Some _ _ (sym (single_colon x) ∙ e)) (to g.number v g.spelled))
sign_reads s q p x Close b o v (bracket t bs) r h e f = bracket_closes t p v x b q bs (field_of Bracket p x v r h) e f
sign_reads s q p y Colon b o v (to x t g) r h e f =
    let k = field_of (To (cut_end x)) p y v r h in
    subst (λ u. SlotReads u (t ++ 58 ∷ [] ++ v ++ b ∷ [])) (ap (By (cut_end x)) k.cut_is ∙ same_Some _ _ (sym (to_colon (cut_end x) y) ∙ e))
    (subst (SlotReads (By (cut_end x) (cut_end k.number))) (ap₂ (λ w c. w ++ c ∷ []) (sym (append_assoc t (58 ∷ []) v)) (sym f)) (by x k.number t v g k.spelled))
sign_reads s q p None k b o v single r h e f = cc
sign_reads s q p (Some z') k b o v single r h e f = cc
sign_reads s q p None k b o v (bracket t bs) r h e f = cc
sign_reads s q p (Some z') k b o v (bracket t bs) r h e f = cc
sign_reads s q p None k b o v (bracketed n t u bs g) r h e f = cc
sign_reads s q p (Some z') k b o v (bracketed n t u bs g) r h e f = cc
sign_reads s q p None k b o v (size t bs) r h e f = cc
sign_reads s q p (Some z') k b o v (size t bs) r h e f = cc
sign_reads s q p None k b o v (to y t g) r h e f = cc
sign_reads s q p (Some z') k b o v (to y t g) r h e f = cc
sign_reads s q p None k b o v (by y z t u g i) r h e f = cc
sign_reads s q p (Some z') k b o v (by y z t u g i) r h e f = cc

-- the bytes of an argument up to this place
pub record PlaceReads (p : Place) (w : List ℕ) : Type 0 where
  pub opened : List ℕ
  pub rest : List ℕ
  pub all : opened ++ rest ≡ w
  pub slot : SlotReads p.slot opened
  pub part : PartReads p.slot p.part rest

pub first_reads : PlaceReads first_place []
first_reads = record { opened = []; rest = []; all = refl; slot = single; part = waits [] no_blank }

place_grows : (p q : Place) (w : List ℕ) (b : ℕ) (new : NumberSoFar) → (r : PlaceReads p w) → PartReads p.slot new (r.rest ++ b ∷ [])
    → record { slot = p.slot; part = new } ≡ q → PlaceReads q (w ++ b ∷ [])
place_grows p q w b new r parts is =
    subst (λ t. PlaceReads t (w ++ b ∷ [])) is (record {
      opened = r.opened;
      rest = r.rest ++ b ∷ [];
      all = sym (append_assoc r.opened r.rest (b ∷ [])) ∙ ap (λ u. u ++ b ∷ []) r.all;
      slot = r.slot;
      part = parts;
    })

sign_moves : (p q : Place) (w : List ℕ) (b : ℕ) (k : Kind) → PlaceReads p w → Fact k b
    → option_and_then (λ number. option_map (λ s. record { slot = s; part = part.Before }) (slot_after p.slot number k)) (number_in p.part) ≡ Some q
    → PlaceReads q (w ++ b ∷ [])
sign_moves p q w b k r f h =
    let number = and_then_is (λ number. option_map (λ s. record { slot = s; part = part.Before }) (slot_after p.slot number k)) (number_in p.part) q h in
    let slot = map_is (λ s. record { slot = s; part = part.Before }) (slot_after p.slot number.0 k) q number.1.1 in
    subst (λ t. PlaceReads t (w ++ b ∷ [])) slot.1.1 (record {
      opened = w ++ b ∷ [];
      rest = [];
      all = append-nil (w ++ b ∷ []);
      slot = subst (λ u. SlotReads slot.0 (u ++ b ∷ [])) r.all (sign_reads p.slot slot.0 p.part number.0 k b r.opened r.rest r.slot r.part number.1.0 slot.1.0 f);
      part = waits [] no_blank;
    })

in_slot_is : (s : Slot) (o : Option NumberSoFar) (q : Place) → in_slot s o ≡ Some q → (new : NumberSoFar) × ((o ≡ Some new) × (record { slot = s; part = new } ≡ q))
in_slot_is s o q h = map_is (λ new. record { slot = s; part = new }) o q h

-- a byte that is no comma adds to the place's bytes
moved_reads : (p q : Place) (w : List ℕ) (b : ℕ) (k : Kind) → PlaceReads p w → Fact k b → moved p k ≡ Some q → PlaceReads q (w ++ b ∷ [])
moved_reads p q w b Blank r f h =
    let new = in_slot_is p.slot (part_after_blank p.part) q h in
    place_grows p q w b new.0 r (part_blank p.slot p.part new.0 r.rest b f r.part new.1.0) new.1.1
moved_reads p q w b (Digit d) r f h =
    let takes = if_is (takes_number p.slot) (in_slot p.slot (part_after_digit p.part d)) q h in
    let new = in_slot_is p.slot (part_after_digit p.part d) q takes.1 in
    place_grows p q w b new.0 r (part_digit p.slot p.part new.0 r.rest b takes.0 f.0 r.part (ap (part_after_digit p.part) (sym f.1) ∙ new.1.0)) new.1.1
moved_reads p q w b Minus r f h =
    let takes = if_is (takes_sign p.slot) (in_slot p.slot (part_after_minus p.part)) q h in
    let new = in_slot_is p.slot (part_after_minus p.part) q takes.1 in
    place_grows p q w b new.0 r
    (subst (λ c. PartReads p.slot new.0 (r.rest ++ c ∷ [])) (sym f) (part_minus p.slot p.part new.0 r.rest takes.0 r.part new.1.0)) new.1.1
moved_reads p q w b Open r f h = sign_moves p q w b Open r f h
moved_reads p q w b Close r f h = sign_moves p q w b Close r f h
moved_reads p q w b Star r f h = sign_moves p q w b Star r f h
moved_reads p q w b Colon r f h = sign_moves p q w b Colon r f h
moved_reads p q w b Comma r f h = sign_moves p q w b Comma r f h
moved_reads p q w b Other r f h = sign_moves p q w b Other r f h

-- the argument that ends at a place is what its bytes spell
pub ended_reads : (p : Place) (a : SliceArg) (w : List ℕ) → PlaceReads p w → ending_argument p ≡ Some a → ReadsArg a w
ended_reads p a w r h =
    let number = and_then_is (arg_of p.slot) (number_in p.part) a h in
    subst (ReadsArg a) r.all (arg_reads p.slot p.part number.0 a r.opened r.rest r.slot r.part number.1.0 number.1.1)

-- the bytes of the arguments that are done, with their commas
pub data DoneReads : List SliceArg → List ℕ → Type 0 where
  none_done : DoneReads [] []
  some_done : (all : List SliceArg) (s : List ℕ) → Args all s → DoneReads (map cut_arg all) (s ++ 44 ∷ [])

-- the bytes are arguments, of which these are the cut ones
pub record ReadsArgs (d : List SliceArg) (w : List ℕ) : Type 0 where
  pub args : List SliceArg
  pub spelled : Args args w
  pub cut_is : map cut_arg args ≡ d

args_read : (d : List SliceArg) (a : SliceArg) (f r : List ℕ) → DoneReads d f → ReadsArg a r → ReadsArgs (d ++ a ∷ []) (f ++ r)
args_read d a f r none_done x = record { args = x.arg ∷ []; spelled = one_arg x.arg r x.spelled; cut_is = ap (λ b. b ∷ []) x.cut_is }
args_read d a f r (some_done all s xs) x = record {
  args = all ++ x.arg ∷ [];
  spelled = subst (Args (all ++ x.arg ∷ [])) (sym (append_assoc s (44 ∷ []) r)) (arg_after all x.arg s r xs x.spelled);
  cut_is = map-append cut_arg all (x.arg ∷ []) ∙ ap (λ b. map cut_arg all ++ b ∷ []) x.cut_is;
}

-- the bytes up to this stage
pub record StageReads (s : Stage) (w : List ℕ) : Type 0 where
  pub front : List ℕ
  pub rest : List ℕ
  pub all : front ++ rest ≡ w
  pub done : DoneReads s.done front
  pub place : PlaceReads s.place rest

pub first_stage_reads : StageReads first_stage []
first_stage_reads = record { front = []; rest = []; all = refl; done = none_done; place = first_reads }

-- where an argument ends, all of them so far are spelled
pub stage_args : (s : Stage) (w : List ℕ) (a : SliceArg) → StageReads s w → ending_argument s.place ≡ Some a → ReadsArgs (s.done ++ a ∷ []) w
stage_args s w a r h = subst (ReadsArgs (s.done ++ a ∷ [])) r.all (args_read s.done a r.front r.rest r.done (ended_reads s.place a r.rest r.place h))

comma_reads : (s t : Stage) (w : List ℕ) (b : ℕ) → StageReads s w → b ≡ 44 → stage_after s Comma ≡ Some t → StageReads t (w ++ b ∷ [])
comma_reads s t w b r f h =
    let ends = map_is (λ a. record { done = s.done ++ a ∷ []; place = first_place }) (ending_argument s.place) t h in
    let args = stage_args s w ends.0 r ends.1.0 in
    subst (λ u. StageReads u (w ++ b ∷ [])) ends.1.1 (record {
      front = w ++ b ∷ [];
      rest = [];
      all = append-nil (w ++ b ∷ []);
      done = subst (λ c. DoneReads (s.done ++ ends.0 ∷ []) (w ++ c ∷ [])) (sym f) (subst (λ d. DoneReads d (w ++ 44 ∷ [])) args.cut_is (some_done args.args w args.spelled));
      place = first_reads;
    })

byte_reads : (s t : Stage) (w : List ℕ) (b : ℕ) (k : Kind) → StageReads s w → Fact k b
    → option_map (λ p. record { done = s.done; place = p }) (moved s.place k) ≡ Some t → StageReads t (w ++ b ∷ [])
byte_reads s t w b k r f h =
    let moves = map_is (λ p. record { done = s.done; place = p }) (moved s.place k) t h in
    subst (λ u. StageReads u (w ++ b ∷ [])) moves.1.1 (record {
      front = r.front;
      rest = r.rest ++ b ∷ [];
      all = sym (append_assoc r.front r.rest (b ∷ [])) ∙ ap (λ u. u ++ b ∷ []) r.all;
      done = r.done;
      place = moved_reads s.place moves.0 r.rest b k r.place f moves.1.0;
    })

stage_reads : (s t : Stage) (w : List ℕ) (b : ℕ) (k : Kind) → StageReads s w → Fact k b → stage_after s k ≡ Some t → StageReads t (w ++ b ∷ [])
stage_reads s t w b Comma r f h = comma_reads s t w b r f h
stage_reads s t w b Blank r f h = byte_reads s t w b Blank r f h
stage_reads s t w b (Digit d) r f h = byte_reads s t w b (Digit d) r f h
stage_reads s t w b Minus r f h = byte_reads s t w b Minus r f h
stage_reads s t w b Open r f h = byte_reads s t w b Open r f h
stage_reads s t w b Close r f h = byte_reads s t w b Close r f h
stage_reads s t w b Star r f h = byte_reads s t w b Star r f h
stage_reads s t w b Colon r f h = byte_reads s t w b Colon r f h
stage_reads s t w b Other r f h = byte_reads s t w b Other r f h

-- what the machine reads adds to the stage's bytes
pub run_reads : (v u : List ℕ) (s t : Stage) → StageReads s u → run (Some s) v ≡ Some t → StageReads t (u ++ v)
run_reads [] u s t r h = subst (λ w. StageReads t w) (sym (append-nil u)) (subst (λ q. StageReads q u) (same_Some s t h) r)
run_reads (b ∷ v) u s t r h =
    let go = elim (stage_after s (kind_of b)) as (λ o. stage_after s (kind_of b) ≡ o → run o v ≡ Some t → StageReads t (u ++ b ∷ v)) [
      | None ↦ λ e k. absurd (none_is t (sym (run-None v) ∙ k))
      | Some q ↦ λ e k. subst (StageReads t) (append_assoc u (b ∷ []) v) (run_reads v (u ++ b ∷ []) q t (stage_reads s q u b (kind_of b) r (fact b) e) k)
    ] in go refl h
  where
    none_is : (q : Stage) → None ≡ Some q → ⊥
    none_is q k = cc

-- the stage after a text's first bytes is read from them
pub run_first : (w : List ℕ) (s : Stage) → run (Some first_stage) w ≡ Some s → StageReads s w
run_first w s h = run_reads w [] first_stage s first_stage_reads h
