-- A text has one meaning, and `signature_in` is it.
use Rattle.std.proofs.Common.{◌≡◌, ◌↔◌, ℕ, List, length, Option, Some, None, Result, Ok, Err, refl, sym, ap, ◌∙◌, subst}
use Rattle.pdl_sig.specs.declared.Signature.{Signature}
use Rattle.pdl_sig.specs.declared.SigFault.{SigFault}
use Rattle.pdl_sig.specs.declared.SigFault.TheVariants.{BadText, TooManyNames, TwiceNamed, NoOutput, OpenSize, NoMemory}
use Rattle.pdl_sig.specs.declared.written.WrittenArg.{WrittenArg}
use Rattle.pdl_sig.specs.Grammar.{Args}
use Rattle.pdl_sig.specs.SignatureReading.{read_args}
use Rattle.pdl_sig.specs.Refusals.{signature_of, refusal_of, Signs, IsRefused}
use Rattle.pdl_sig.specs.Meaning.{judged, meant_by, signature_in, Means}
use Rattle.pdl_sig.proofs.RefusalAnswers.{all_read, bad_text, fault_of, refuses_memory}
use Rattle.pdl_sig.proofs.GrammarSound.{args_spelled}

-- the arguments of a text mean their signature, or its first refusal
judged_means : (text : List ℕ) (args : List WrittenArg) → read_args text ≡ Some args → (first : Option SigFault) → refusal_of args ≡ first → Means text (judged first (signature_of args))
judged_means text args read None h = record { args = args; spelled = args_spelled (length text) text args read; meant = refl; allowed = h }
judged_means text args read (Some BadText) h = fault_of text args BadText (sym read) h
judged_means text args read (Some TooManyNames) h = fault_of text args TooManyNames (sym read) h
judged_means text args read (Some TwiceNamed) h = fault_of text args TwiceNamed (sym read) h
judged_means text args read (Some NoOutput) h = fault_of text args NoOutput (sym read) h
judged_means text args read (Some OpenSize) h = fault_of text args OpenSize (sym read) h
judged_means text args read (Some NoMemory) h = refuses_memory args h

read_means : (text : List ℕ) (found : Option (List WrittenArg)) → read_args text ≡ found → Means text (meant_by found)
read_means text None read = λ args spelled. bad_text text (sym read) args spelled
read_means text (Some args) read = judged_means text args read (refusal_of args) refl

means : (text : List ℕ) → Means text (signature_in text)
unfolding signature_in
means text = read_means text (read_args text) refl

signs_is : (text : List ℕ) (signature : Signature) → Signs signature text → signature_in text ≡ Ok signature
unfolding signature_in
signs_is text signature s =
    ap meant_by (all_read s.args text s.spelled) ∙ ap (λ first. judged first (signature_of s.args)) s.allowed ∙ ap good (sym s.meant)
  where
    good : Signature → Result Signature SigFault
    good x = Ok x

refused_is : (text : List ℕ) (fault : SigFault) → IsRefused text fault → signature_in text ≡ Err fault
unfolding signature_in
refused_is text fault r = ap meant_by (all_read r.args text r.spelled) ∙ ap (λ first. judged first (signature_of r.args)) r.first

bad_is : (text : List ℕ) → ((args : List WrittenArg) → Args args text → ⊥) → signature_in text ≡ Err BadText
unfolding signature_in
bad_is text unspelled = by_read (read_args text) refl
  where
    by_read : (found : Option (List WrittenArg)) → read_args text ≡ found → meant_by found ≡ Err BadText
    by_read None read = refl
    by_read (Some args) read = absurd (unspelled args (args_spelled (length text) text args read))

is_meant : (text : List ℕ) (answer : Result Signature SigFault) → Means text answer → signature_in text ≡ answer
is_meant text (Ok signature) h = signs_is text signature h
is_meant text (Err BadText) h = bad_is text h
is_meant text (Err TooManyNames) h = refused_is text TooManyNames h
is_meant text (Err TwiceNamed) h = refused_is text TwiceNamed h
is_meant text (Err NoOutput) h = refused_is text NoOutput h
is_meant text (Err OpenSize) h = refused_is text OpenSize h
is_meant text (Err NoMemory) h = absurd h

pub one_meaning : (text : List ℕ) (answer : Result Signature SigFault) → (signature_in text ≡ answer) ↔ Means text answer
one_meaning text answer = (λ e. subst (Means text) e (means text), is_meant text answer)
