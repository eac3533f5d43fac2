-- What the machine says at the end of a text, and where it stops before.
use Rattle.std.proofs.Common.{◌≡◌, ℕ, suc, ◌+◌, ◌-◌, ◌<◌, true, false, List, [], ◌∷◌, ◌++◌, map, length, take, drop, get_or, ℤ, pos, Option, Some, None, option_map, if◌then◌else◌, IsTrue, refl, sym, ap, ◌∙◌, subst, arith, append_assoc, take-suc, take-add, take-append-drop, le_refl}
use Rattle.std.proofs.Math.Seq.{take_all}
use Rattle.std.proofs.lemmas.Option.{same_Some}
use Rattle.std.proofs.lemmas.Bool.{true≢false}
use Rattle.pdl_slices.specs.declared.SliceArg.{SliceArg}
use Rattle.pdl_slices.specs.declared.SliceArg.TheVariants.{Whole, One, Dropped, Dummy, Span}
use Rattle.pdl_slices.specs.declared.reading.Kind.TheVariants.{Close}
use Rattle.pdl_slices.specs.declared.reading.Slot.{Slot}
use Rattle.pdl_slices.specs.declared.reading.Slot.TheVariants.{Single, Bracket, Bracketed, Size, To, By}
use Rattle.pdl_slices.specs.declared.reading.NumberSoFar.{NumberSoFar}
use Rattle.pdl_slices.specs.declared.reading.NumberSoFar.TheVariants as part
use Rattle.pdl_slices.specs.declared.reading.Place.{Place}
use Rattle.pdl_slices.specs.Grammar.{Blanks, Args, one_arg, arg_after, Spells, blanks_alone, listed, CanBegin}
use Rattle.pdl_slices.specs.Refusals.{IsBadText}
use Rattle.pdl_slices.specs.SliceReading.{kind_of, number_in, takes_number, takes_sign, ending_argument, Stage, first_place, stage_after, run, is_first, finished, first_stage}
use Rattle.pdl_slices.proofs.RefusalCuts.{cut_arg}
use Rattle.pdl_slices.proofs.GrammarComplete.{at, run-None, run-append, run-blanks_before, sign_takes, Has, Closes, closes_has, run-sign, run-args}
use Rattle.pdl_slices.proofs.GrammarSound.{map_is, PartReads, waits, signs, counts, counts_down, after, after_sign, SlotReads, single, bracket, bracketed, size, to, by}
use Rattle.pdl_slices.proofs.SliceReadingMoves.{DoneReads, none_done, some_done, StageReads, stage_args, run_first}

-- the text spells arguments, of which these are the cut ones
pub record ReadsText (cs : List SliceArg) (w : List ℕ) : Type 0 where
  pub args : List SliceArg
  pub spelled : Spells args w
  pub cut_is : map cut_arg args ≡ cs

first_part : (s : Slot) (p : NumberSoFar) (o v : List ℕ) → is_first (record { slot = s; part = p }) ≡ true → SlotReads s o → PartReads s p v → Blanks (o ++ v)
first_part s p o v h single (waits u bs) = bs
first_part s p o v h single (signs u t bs) = cc
first_part s p o v h single (counts n u x t bs ds) = cc
first_part s p o v h single (counts_down n u x t bs ds) = cc
first_part s p o v h single (after n u x y t bs ds es) = cc
first_part s p o v h single (after_sign n u x y t bs ds es) = cc
first_part s p o v h (bracket t bs) r = cc
first_part s p o v h (bracketed n t u bs f) r = cc
first_part s p o v h (size t bs) r = cc
first_part s p o v h (to x t f) r = cc
first_part s p o v h (by x y t u f g) r = cc

args_some : (all : List SliceArg) (w : List ℕ) → Args all w → map cut_arg all ≡ [] → ⊥
args_some all w (one_arg a s x) h = cc
args_some all w (arg_after [] a s t xs x) h = cc
args_some all w (arg_after (b ∷ bs) a s t xs x) h = cc

done_none : (d : List SliceArg) (f : List ℕ) → DoneReads d f → d ≡ [] → f ≡ []
done_none d f none_done h = refl
done_none d f (some_done all s xs) h = absurd (args_some all s xs h)

-- where no argument has begun, all bytes are blanks
first_blanks : (p : Place) (w : List ℕ) → StageReads (record { done = []; place = p }) w → is_first p ≡ true → Blanks w
first_blanks p w r h =
    subst Blanks (ap (λ f. f ++ r.rest) (sym (done_none [] r.front r.done refl)) ∙ r.all)
    (subst Blanks r.place.all (first_part p.slot p.part r.place.opened r.place.rest h r.place.slot r.place.part))

-- over blanks alone the machine stays at its first stage
blanks_first : (s : Stage) (w : List ℕ) → run (Some first_stage) w ≡ Some s → Blanks w → first_stage ≡ s
blanks_first s w h bs = same_Some first_stage s (sym (run-blanks_before [] Single w bs) ∙ h)

listed_end : (s : Stage) (cs : List SliceArg) (w : List ℕ) → run (Some first_stage) w ≡ Some s → (first_stage ≡ s → ⊥)
    → option_map (λ a. s.done ++ a ∷ []) (ending_argument s.place) ≡ Some cs → ReadsText cs w
listed_end s cs w r other h =
    let ends = map_is (λ a. s.done ++ a ∷ []) (ending_argument s.place) cs h in
    let args = stage_args s w ends.0 (run_first w s r) ends.1.0 in
    record { args = args.args; spelled = listed args.args w (λ bs. other (blanks_first s w r bs)) args.spelled; cut_is = args.cut_is ∙ ends.1.1 }

-- what the machine answers at the end is spelled
pub finished_reads : (d : List SliceArg) (p : Place) (cs : List SliceArg) (w : List ℕ) → run (Some first_stage) w ≡ Some (record { done = d; place = p })
    → finished (record { done = d; place = p }) ≡ Some cs → ReadsText cs w
finished_reads [] p cs w r h =
    let go = elim (is_first p) as (λ t. is_first p ≡ t → (if t then Some [] else option_map (λ a. a ∷ []) (ending_argument p)) ≡ Some cs → ReadsText cs w) [
      | true ↦ λ e k. record { args = []; spelled = blanks_alone w (first_blanks p w (run_first w _ r) e); cut_is = same_Some [] cs k }
      | false ↦ λ e k. listed_end (record { done = []; place = p }) cs w r (λ same. true≢false (ap (λ s. is_first s.place) same ∙ e)) k
    ] in go refl h
finished_reads (b ∷ d) p cs w r h =
    listed_end (record { done = b ∷ d; place = p }) cs w r (λ same. no_cons (ap (λ s. s.done) same)) h
  where
    no_cons : [] ≡ b ∷ d → ⊥
    no_cons e = cc

-- the machine comes to the end of a text, and answers these arguments
pub record Finishes (cs : List SliceArg) (w : List ℕ) : Type 0 where
  pub last : Stage
  pub reached : run (Some first_stage) w ≡ Some last
  pub answers : finished last ≡ Some cs

ended_finishes : (d : List SliceArg) (p : Place) (a : SliceArg) → ending_argument p ≡ Some a → (d ≡ [] → is_first p ≡ true → ⊥) → finished (record { done = d; place = p }) ≡ Some (d ++ a ∷ [])
ended_finishes [] p a h other =
    let go = elim (is_first p) as (λ t. is_first p ≡ t → (if t then Some [] else option_map (λ b. b ∷ []) (ending_argument p)) ≡ Some (a ∷ [])) [
      | true ↦ λ e. absurd (other refl e)
      | false ↦ λ e. ap (option_map (λ b. b ∷ [])) h
    ] in go refl
ended_finishes (b ∷ d) p a h other = ap (option_map (λ c. b ∷ d ++ c ∷ [])) h

-- what is spelled is answered
pub spelled_finishes : (all : List SliceArg) (w : List ℕ) → Spells all w → Finishes (map cut_arg all) w
spelled_finishes all w (blanks_alone v bs) = record { last = first_stage; reached = run-blanks_before [] Single v bs; answers = refl }
spelled_finishes all w (listed args v other xs) =
    let lists = run-args args v xs in
    let last : Stage = record { done = lists.done; place = lists.closes.place } in
    let reads = run_first v last lists.closes.reached in
    record {
      last = last;
      reached = lists.closes.reached;
      answers = ended_finishes lists.done lists.closes.place lists.last lists.closes.ends
          (λ none first. other (first_blanks lists.closes.place v (subst (λ d. StageReads (record { done = d; place = lists.closes.place }) v) none reads) first))
          ∙ ap Some lists.all_is;
    }

-- what the machine refuses is no slice text's beginning
pub refused : (u v : List ℕ) (all : List SliceArg) → run (Some first_stage) u ≡ None → Spells all (u ++ v) → ⊥
refused u v all h x =
    let end = spelled_finishes all (u ++ v) x in
    contradicts (sym (ap (λ o. run o v) h ∙ run-None v) ∙ sym (run-append (Some first_stage) u v) ∙ end.reached)
  where
    contradicts : {s : Stage} → None ≡ Some s → ⊥
    contradicts e = cc

-- some bytes after which an argument may end
record Ending (d : List SliceArg) (o : Option Stage) : Type 0 where
  bytes : List ℕ
  arg : SliceArg
  closes : Closes d arg (run o bytes)

-- after a number an argument may end, or its bracket
number_ends : (d : List SliceArg) (s : Slot) (p : NumberSoFar) (z : ℤ) → number_in p ≡ Some (Some z) → IsTrue (takes_number s) → Ending d (at d s p)
number_ends d s p z h t =
    let has : Has d s (Some z) (at d s p) = record { last = p; reached = refl; holds = h } in
    ends s t has
  where
    ends : (r : Slot) → IsTrue (takes_number r) → Has d r (Some z) (at d r p) → Ending d (at d r p)
    ends Single t has = record { bytes = []; arg = One z; closes = closes_has d Single (Some z) (One z) _ has refl }
    ends Bracket t has = record {
      bytes = 41 ∷ [];
      arg = Dropped z;
      closes = record {
        place = record { slot = Bracketed z; part = part.Before };
        reached = run-sign d Bracket (Some z) (at d Bracket p) 41 Close (Bracketed z) [] (λ q. refl) has refl;
        ends = refl;
      };
    }
    ends (Bracketed y) t has = cc
    ends Size t has = record { bytes = []; arg = _; closes = closes_has d Size (Some z) _ _ has refl }
    ends (To None) t has = record { bytes = []; arg = _; closes = closes_has d (To None) (Some z) _ _ has refl }
    ends (To (Some x)) t has = record { bytes = []; arg = _; closes = closes_has d (To (Some x)) (Some z) _ _ has refl }
    ends (By x y) t has = record { bytes = []; arg = _; closes = closes_has d (By x y) (Some z) _ _ has refl }

-- before a number an argument may end, with a number where one must stand
start_ends : (d : List SliceArg) (s : Slot) → Ending d (at d s part.Before)
start_ends d Single = record { bytes = []; arg = Whole; closes = record { place = first_place; reached = refl; ends = refl } }
start_ends d Bracket = record { bytes = 49 ∷ 41 ∷ []; arg = Dropped (pos 1); closes = record { place = record { slot = Bracketed (pos 1); part = part.Before }; reached = refl; ends = refl } }
start_ends d (Bracketed z) = record { bytes = []; arg = Dropped z; closes = record { place = record { slot = Bracketed z; part = part.Before }; reached = refl; ends = refl } }
start_ends d Size = record { bytes = []; arg = Dummy 1; closes = record { place = record { slot = Size; part = part.Before }; reached = refl; ends = refl } }
start_ends d (To None) = record { bytes = []; arg = Whole; closes = record { place = record { slot = To None; part = part.Before }; reached = refl; ends = refl } }
start_ends d (To (Some x)) = record { bytes = []; arg = Span (Some x) None None; closes = record { place = record { slot = To (Some x); part = part.Before }; reached = refl; ends = refl } }
start_ends d (By x y) = record { bytes = 49 ∷ []; arg = Span x y (Some (pos 1)); closes = record { place = record { slot = By x y; part = part.Digits false 1 }; reached = refl; ends = refl } }

-- after a sign a digit goes on
sign_ends : (d : List SliceArg) (s : Slot) → IsTrue (takes_sign s) → Ending d (at d s part.Minus)
sign_ends d s t =
    let more = number_ends d s (part.Digits true 1) _ refl (sign_takes s t) in
    record { bytes = 49 ∷ more.bytes; arg = more.arg; closes = subst (Closes d more.arg) (ap (λ o. run o more.bytes) (sym (digit_after_sign s t))) more.closes }
  where
    digit_after_sign : (r : Slot) → IsTrue (takes_sign r) → stage_after (record { done = d; place = record { slot = r; part = part.Minus } }) (kind_of 49) ≡ at d r (part.Digits true 1)
    digit_after_sign Single h = refl
    digit_after_sign Bracket h = refl
    digit_after_sign (Bracketed z) h = cc
    digit_after_sign Size h = refl
    digit_after_sign (To x) h = refl
    digit_after_sign (By x y) h = refl

part_ends : (d : List SliceArg) (s : Slot) (p : NumberSoFar) (v : List ℕ) → PartReads s p v → Ending d (at d s p)
part_ends d s p v (waits u bs) = start_ends d s
part_ends d s p v (signs u t bs) = sign_ends d s t
part_ends d s p v (counts n u x t bs ds) = number_ends d s p _ refl t
part_ends d s p v (counts_down n u x t bs ds) = number_ends d s p _ refl (sign_takes s t)
part_ends d s p v (after n u x y t bs ds es) = number_ends d s p _ refl t
part_ends d s p v (after_sign n u x y t bs ds es) = number_ends d s p _ refl (sign_takes s t)

-- where an argument may end, the machine answers
some_answer : (d : List SliceArg) (p : Place) (a : SliceArg) → ending_argument p ≡ Some a → (cs : List SliceArg) × (finished (record { done = d; place = p }) ≡ Some cs)
some_answer [] p a h =
    elim (is_first p) as (λ t. (cs : List SliceArg) × ((if t then Some [] else option_map (λ b. b ∷ []) (ending_argument p)) ≡ Some cs)) [
      | true ↦ ([], refl)
      | false ↦ (a ∷ [], ap (option_map (λ b. b ∷ [])) h)
    ]
some_answer (b ∷ d) p a h = (b ∷ d ++ a ∷ [], ap (option_map (λ c. b ∷ d ++ c ∷ [])) h)

-- what the machine has read, some slice text begins with
pub begins : (s : Stage) (w : List ℕ) → run (Some first_stage) w ≡ Some s → CanBegin w
begins s w h =
    let reads = run_first w s h in
    let ending = part_ends s.done s.place.slot s.place.part reads.place.rest reads.place.part in
    let last = ending.closes in
    let answer = some_answer s.done last.place ending.arg last.ends in
    let reached = run-append (Some first_stage) w ending.bytes ∙ ap (λ o. run o ending.bytes) h ∙ last.reached in
    let read = finished_reads s.done last.place answer.0 (w ++ ending.bytes) reached answer.1 in
    (ending.bytes, (read.args, read.spelled))

-- a text that goes wrong at a byte
pub bad_byte : (text : List ℕ) (i : ℕ) (s : Stage) → i < length text → run (Some first_stage) (take i text) ≡ Some s
    → stage_after s (kind_of (get_or text i 0)) ≡ None → IsBadText text i
bad_byte text i s lt h stops = record {
  unspelled = λ all x. refused (take (suc i) text) (drop (suc i) text) all past (subst (Spells all) (sym (take-append-drop (suc i) text)) x);
  place = record {
    within = omega arith;
    begins = begins s (take i text) h;
    longest = λ k more fits (rest, (all, x)).
        let cut_text : take k text ≡ take (suc i) text ++ take (k - suc i) (drop (suc i) text) =
        ap (λ n. take n text) (let e : k ≡ suc i + (k - suc i) = omega arith in e) ∙ take-add (suc i) (k - suc i) text in
        refused (take (suc i) text) (take (k - suc i) (drop (suc i) text) ++ rest) all past
        (subst (Spells all) (ap (λ u. u ++ rest) cut_text ∙ append_assoc (take (suc i) text) (take (k - suc i) (drop (suc i) text)) rest) x);
  };
}
  where
    past : run (Some first_stage) (take (suc i) text) ≡ None
    past =
        ap (run (Some first_stage)) (take-suc text i 0 lt) ∙ run-append (Some first_stage) (take i text) (get_or text i 0 ∷ [])
        ∙ ap (λ o. run o (get_or text i 0 ∷ [])) h ∙ stops

-- a text that ends too soon
pub bad_end : (text : List ℕ) (s : Stage) → run (Some first_stage) text ≡ Some s → finished s ≡ None → IsBadText text (length text)
bad_end text s h stops = record {
  unspelled = λ all x.
      let end = spelled_finishes all text x in
      let same = same_Some s end.last (sym h ∙ end.reached) in
      contradicts (sym stops ∙ ap finished same ∙ end.answers);
  place = record {
    within = le_refl (length text);
    begins = subst CanBegin (sym (take_all (length text) text (le_refl (length text)))) (begins s text h);
    longest = λ k more fits x. absurd (omega arith);
  };
}
  where
    contradicts : {cs : List SliceArg} → None ≡ Some cs → ⊥
    contradicts e = cc
