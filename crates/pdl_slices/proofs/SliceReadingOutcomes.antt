-- The reader's answers at a byte and at the end, as what is promised of them.
use Rattle.std.proofs.Common.{◌≡◌, ℕ, ◌+◌, ◌<◌, Bool, true, false, List, [], ◌∷◌, map, length, take, get_or, Option, Some, None, Result, IfOk, IfErr, if◌then◌else◌, refl, sym, ap, ◌∙◌, subst, take-suc, add-one}
use Rattle.pdl_slices.specs.declared.SliceArg.{SliceArg}
use Rattle.pdl_slices.specs.declared.SliceFault.{SliceFault}
use Rattle.pdl_slices.specs.declared.SliceFault.TheVariants.{BadText, TooManyArgs, NumberTooLarge, ZeroStep, NoMemory}
use Rattle.pdl_slices.specs.declared.reader.Reader.{Reader}
use Rattle.pdl_slices.specs.Grammar.{Spells}
use Rattle.pdl_slices.specs.Refusals.{refusal, IsRead, IsFaultOf}
use Rattle.pdl_slices.specs.SliceReading.{kind_of, Stage, stage_after, run, finished, first_stage}
use Rattle.pdl_slices.specs.Collected.{Holds, Collects, Takes, Ends}
use Rattle.pdl_slices.specs.Meaning.{judged, verdict_on}
use Rattle.pdl_slices.proofs.RefusalCuts.{cut_arg, refusal-cut, cut-allowed_list}
use Rattle.pdl_slices.proofs.GrammarComplete.{run-append}
use Rattle.pdl_slices.proofs.SliceReadingEndings.{finished_reads}

-- the reader is at the stage after the first i bytes
abbrev pub IsAt : List ℕ → ℕ → Reader → Type 0
IsAt text i r = (s : Stage) × ((run (Some first_stage) (take i text) ≡ Some s) × Holds s r)

pub takes_stage : (o : Option Stage) (r : Reader) → Takes true o r → (t : Stage) × ((o ≡ Some t) × Holds t r)
takes_stage None r h = absurd h
takes_stage (Some t) r h = (t, (refl, h))

pub takes_none : (o : Option Stage) (r : Reader) → Takes false o r → o ≡ None
takes_none None r h = refl
takes_none (Some t) r h = absurd h

pub ends_args : (o : Option (List SliceArg)) (r : Reader) → Ends true o r → (cs : List SliceArg) × ((o ≡ Some cs) × Collects cs r)
ends_args None r h = absurd h
ends_args (Some cs) r h = (cs, (refl, h))

pub ends_none : (o : Option (List SliceArg)) (r : Reader) → Ends false o r → o ≡ None
ends_none None r h = refl
ends_none (Some cs) r h = absurd h

-- a byte that may stand there takes the reader one byte on
pub at_next : (text : List ℕ) (i : ℕ) (s : Stage) (r : Reader) → i < length text → run (Some first_stage) (take i text) ≡ Some s
    → Takes true (stage_after s (kind_of (get_or text i 0))) r → IsAt text (i + 1) r
at_next text i s r lt h takes =
    let t = takes_stage (stage_after s (kind_of (get_or text i 0))) r takes in (
      t.0,
      (
        ap (λ n. run (Some first_stage) (take n text)) (add-one i)
            ∙ ap (run (Some first_stage)) (take-suc text i 0 lt)
            ∙ run-append (Some first_stage) (take i text) (get_or text i 0 ∷ [])
            ∙ ap (λ o. run o (get_or text i 0 ∷ [])) h
            ∙ t.1.0,
        t.1.1,
      ),
    )

no_bad_text : (b c d : Bool) (at : ℕ) → (if b then Some TooManyArgs else (if c then Some NumberTooLarge else (if d then Some ZeroStep else None))) ≡ Some (BadText at) → ⊥
no_bad_text true c d at h = cc
no_bad_text false true d at h = cc
no_bad_text false false true at h = cc
no_bad_text false false false at h = cc

no_memory : (b c d : Bool) → (if b then Some TooManyArgs else (if c then Some NumberTooLarge else (if d then Some ZeroStep else None))) ≡ Some NoMemory → ⊥
no_memory true c d h = cc
no_memory false true d h = cc
no_memory false false true h = cc
no_memory false false false h = cc

refused_fault : (text : List ℕ) (all : List SliceArg) (f : SliceFault) → Spells all text → refusal all ≡ Some f → IsFaultOf text f
refused_fault text all (BadText at) x h = absurd (no_bad_text _ _ _ at h)
refused_fault text all TooManyArgs x h = (all, (x, h))
refused_fault text all NumberTooLarge x h = (all, (x, h))
refused_fault text all ZeroStep x h = (all, (x, h))
refused_fault text all NoMemory x h = absurd (no_memory _ _ _ h)

-- a verdict on what a text spells is right
judged_read : (text : List ℕ) (all cs : List SliceArg) (o : Option SliceFault) → Spells all text → map cut_arg all ≡ cs → refusal all ≡ o
    → IfOk (judged o cs) (IsRead text) × IfErr (judged o cs) (IsFaultOf text)
judged_read text all cs None x h e = (record { spelled = subst (λ a. Spells a text) (same all cs e h) x; allowed = subst (λ a. refusal a ≡ None) (same all cs e h) e }, tt)
  where
    same : (a b : List SliceArg) → refusal a ≡ None → map cut_arg a ≡ b → a ≡ b
    same a b k l = sym (cut-allowed_list a k) ∙ l
judged_read text all cs (Some f) x h e = (tt, refused_fault text all f x e)

pub verdict_reads : (text : List ℕ) (s : Stage) (cs : List SliceArg) (result : Result (List SliceArg) SliceFault) → run (Some first_stage) text ≡ Some s → finished s ≡ Some cs
    → result ≡ verdict_on cs → IfOk result (IsRead text) × IfErr result (IsFaultOf text)
verdict_reads text s cs result h e v =
    let read = finished_reads s.done s.place cs text h e in
    let same : refusal cs ≡ refusal read.args = sym (sym (refusal-cut read.args) ∙ ap refusal read.cut_is) in
    subst (λ r. IfOk r (IsRead text) × IfErr r (IsFaultOf text)) (sym (v ∙ ap (λ o. judged o cs) same))
    (judged_read text read.args cs (refusal read.args) read.spelled read.cut_is refl)
