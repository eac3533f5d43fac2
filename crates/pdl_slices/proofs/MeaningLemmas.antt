-- A text has one meaning, and `slice_of` is it.
use Rattle.std.proofs.Common.{◌≡◌, ◌↔◌, ℕ, suc, ◌<◌, ◌≤◌, List, [], ◌∷◌, map, length, take, drop, get_or, Option, Some, None, Result, Ok, Err, IfOk, IfErr, refl, sym, ap, ◌∙◌, subst, arith, take-suc, drop-cons, length-drop, ⊎_elim}
use Rattle.std.proofs.Math.Seq.{take_all}
use Rattle.std.proofs.str.Laws.{order}
use Rattle.std.proofs.lemmas.Option.{same_Some}
use Rattle.pdl_slices.specs.declared.SliceArg.{SliceArg}
use Rattle.pdl_slices.specs.declared.SliceFault.{SliceFault}
use Rattle.pdl_slices.specs.declared.SliceFault.TheVariants.{BadText, TooManyArgs, NumberTooLarge, ZeroStep, NoMemory}
use Rattle.pdl_slices.specs.Grammar.{Spells}
use Rattle.pdl_slices.specs.Refusals.{refusal, IsRead, IsBadText, IsRefused, IsFaultOf, Means}
use Rattle.pdl_slices.specs.SliceReading.{kind_of, Stage, first_stage, stage_after, run, finished}
use Rattle.pdl_slices.specs.Meaning.{verdict_on, or_bad_text, read_on, slice_of}
use Rattle.pdl_slices.proofs.RefusalCuts.{cut_arg, refusal-cut, cut-allowed_list}
use Rattle.pdl_slices.proofs.GrammarComplete.{run-append}
use Rattle.pdl_slices.proofs.SliceReadingEndings.{spelled_finishes, bad_byte, bad_end}
use Rattle.pdl_slices.proofs.SliceReadingOutcomes.{verdict_reads}

means_of : (text : List ℕ) (r : Result (List SliceArg) SliceFault) → IfOk r (IsRead text) × IfErr r (IsFaultOf text) → Means text r
means_of text (Ok args) h = h.0
means_of text (Err fault) h = h.1

-- the end of a text
ends_as : (text : List ℕ) (s : Stage) (o : Option (List SliceArg)) → run (Some first_stage) text ≡ Some s → finished s ≡ o → Means text (or_bad_text (length text) verdict_on o)
ends_as text s None h e = bad_end text s h e
ends_as text s (Some cs) h e = means_of text (verdict_on cs) (verdict_reads text s cs (verdict_on cs) h e refl)

-- one byte more
steps : (text : List ℕ) (b : ℕ) (bs : List ℕ) (i : ℕ) (s : Stage) → i < length text → run (Some first_stage) (take i text) ≡ Some s → get_or text i 0 ≡ b
    → run (Some first_stage) (take (suc i) text) ≡ run (Some s) (b ∷ []) → ((t : Stage) → run (Some first_stage) (take (suc i) text) ≡ Some t → Means text (read_on t (suc i) bs))
    → (o : Option Stage) → stage_after s (kind_of b) ≡ o → Means text (or_bad_text i (λ t. read_on t (suc i) bs) o)
steps text b bs i s below h byte front on None stops = bad_byte text i s below h (ap (λ x. stage_after s (kind_of x)) byte ∙ stops)
steps text b bs i s below h byte front on (Some t) goes = on t (front ∙ goes)

-- what is read from a place on means what the whole text means
means_on : (text rest : List ℕ) (i : ℕ) (s : Stage) → i ≤ length text → drop i text ≡ rest → run (Some first_stage) (take i text) ≡ Some s → Means text (read_on s i rest)
unfolding read_on
means_on text [] i s within left h =
    let end : i ≡ length text = omega (arith, within, length-drop i text, ap length left) in
    let all : run (Some first_stage) text ≡ Some s = ap (run (Some first_stage)) (sym (take_all i text (omega (arith, end)))) ∙ h in
    subst (λ k. Means text (or_bad_text k verdict_on (finished s))) (sym end) (ends_as text s (finished s) all refl)
means_on text (b ∷ bs) i s within left h =
    let below : i < length text = omega (arith, length-drop i text, ap length left) in
    let parts : get_or text i 0 ∷ drop (suc i) text ≡ b ∷ bs = sym (drop-cons text i 0 below) ∙ left in
    let byte : get_or text i 0 ≡ b = cc in
    let rest : drop (suc i) text ≡ bs = cc in
    let front : run (Some first_stage) (take (suc i) text) ≡ run (Some s) (b ∷ []) =
    ap (run (Some first_stage)) (take-suc text i 0 below) ∙ run-append (Some first_stage) (take i text) (get_or text i 0 ∷ [])
    ∙ ap (λ o. run o (get_or text i 0 ∷ [])) h ∙ ap (λ x. run (Some s) (x ∷ [])) byte in
    steps text b bs i s below h byte front (λ t goes. means_on text bs (suc i) t (omega arith) rest goes) (stage_after s (kind_of b)) refl

slice_means : (text : List ℕ) → Means text (slice_of text)
unfolding slice_of
slice_means text = means_on text text 0 first_stage (omega arith) refl refl

-- two lists of arguments that a text spells differ only where numbers are too large
same_cut : (text : List ℕ) (a b : List SliceArg) → Spells a text → Spells b text → map cut_arg a ≡ map cut_arg b
same_cut text a b x y =
    let p = spelled_finishes a text x in
    let q = spelled_finishes b text y in
    same_Some _ _ (sym p.answers ∙ ap finished (same_Some _ _ (sym p.reached ∙ q.reached)) ∙ q.answers)

same_refusal : (text : List ℕ) (a b : List SliceArg) → Spells a text → Spells b text → refusal a ≡ refusal b
same_refusal text a b x y = sym (refusal-cut a) ∙ ap refusal (same_cut text a b x y) ∙ refusal-cut b

-- a fault is a bad text, or a refusal of what is spelled
cases_fault : {G : Type 0} (text : List ℕ) (f : SliceFault) → IsFaultOf text f → ((at : ℕ) → f ≡ BadText at → IsBadText text at → G) → (IsRefused text f → G) → G
cases_fault text (BadText at) h bad other = bad at refl h
cases_fault text TooManyArgs h bad other = other h
cases_fault text NumberTooLarge h bad other = other h
cases_fault text ZeroStep h bad other = other h
cases_fault text NoMemory h bad other = absurd h

not_both : (text : List ℕ) (args : List SliceArg) (f : SliceFault) → IsRead text args → IsFaultOf text f → ⊥
not_both text args f r h =
    cases_fault text f h (λ at is bad. bad.unspelled args r.spelled)
    (λ (all, (x, e)). never (sym e ∙ same_refusal text all args x r.spelled ∙ r.allowed))
  where
    never : Some f ≡ None → ⊥
    never e = cc

same_place : (text : List ℕ) (i j : ℕ) → IsBadText text i → IsBadText text j → i ≡ j
same_place text i j a b =
    ⊎_elim
    (λ less. absurd (a.place.longest j less b.place.within b.place.begins))
    (λ least. ⊎_elim
    (λ less. absurd (b.place.longest i less a.place.within a.place.begins))
    (λ most. omega (arith, least, most))
    (order j i))
    (order i j)

same_fault : (text : List ℕ) (f g : SliceFault) → IsFaultOf text f → IsFaultOf text g → f ≡ g
same_fault text f g h k =
    cases_fault text f h
    (λ i is bad. cases_fault text g k
    (λ j as' worse. is ∙ ap BadText (same_place text i j bad worse) ∙ sym as')
    (λ (all, (x, e)). absurd (bad.unspelled all x)))
    (λ (all, (x, e)). cases_fault text g k
    (λ j as' worse. absurd (worse.unspelled all x))
    (λ (all', (y, d)). same_Some f g (sym e ∙ same_refusal text all all' x y ∙ d)))

same_meaning : (text : List ℕ) (a b : Result (List SliceArg) SliceFault) → Means text a → Means text b → a ≡ b
same_meaning text (Ok a) (Ok b) h k =
    ap Ok (sym (cut-allowed_list a h.allowed) ∙ same_cut text a b h.spelled k.spelled ∙ cut-allowed_list b k.allowed)
same_meaning text (Ok a) (Err f) h k = absurd (not_both text a f h k)
same_meaning text (Err f) (Ok b) h k = absurd (not_both text b f k h)
same_meaning text (Err f) (Err g) h k = ap Err (same_fault text f g h k)

pub slice_meaning_lem : (text : List ℕ) (answer : Result (List SliceArg) SliceFault) → (slice_of text ≡ answer) ↔ Means text answer
slice_meaning_lem text answer =
    (λ is. subst (Means text) is (slice_means text), λ means. same_meaning text (slice_of text) answer (slice_means text) means)
