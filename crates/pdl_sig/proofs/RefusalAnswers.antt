-- From what is read to what `read_signature` answers.
use Rattle.std.proofs.Common.{◌≡◌, ℕ, ◌<◌, Bool, true, false, ◌||◌, not, nat_lt, List, [], length, Option, Some, None, refl, ap, ap₂, sym, ◌∙◌, arith, if◌then◌else◌}
use Rattle.std.specs.List.{list_any}
use Rattle.std.proofs.lemmas.Bool.{or_right}
use Rattle.std.proofs.lemmas.Bool.Decides.{nat_tests}
use Rattle.std.proofs.lemmas.List.{length-map}
use Rattle.pdl_sig.specs.declared.Signature.{Signature}
use Rattle.pdl_sig.specs.declared.SigFault.{SigFault}
use Rattle.pdl_sig.specs.declared.SigFault.TheVariants.{BadText, TooManyNames, TwiceNamed, NoOutput, OpenSize, NoMemory}
use Rattle.pdl_sig.specs.declared.written.WrittenArg.{WrittenArg}
use Rattle.pdl_sig.specs.Grammar.{Args}
use Rattle.pdl_sig.specs.SignatureReading.{read_args}
use Rattle.pdl_sig.specs.Refusals.{all_names, signature_of, is_twice_named, is_fixed_again, has_open, refusal, refusal_of, Signs, IsRefused, IsFaultOf}
use Rattle.pdl_sig.specs.Resolution.{is_output}
use Rattle.pdl_sig.proofs.GrammarSound.{args_spelled}
use Rattle.pdl_sig.proofs.GrammarComplete.{args_read}

pub all_read : (args : List WrittenArg) (text : List ℕ) → Args args text → read_args text ≡ Some args
all_read args text k = args_read args text k (length text) (omega arith)

pub bad_text : (text : List ℕ) → None ≡ read_args text → (args : List WrittenArg) → Args args text → ⊥
bad_text text e args k = let r : read_args text ≡ Some args = all_read args text k in cc

-- what the code has once a text is read
pub record ReadArgs (text : List ℕ) (args : List WrittenArg) (signature : Signature) (first : Option SigFault) : Type 0 where
  pub read : Some args ≡ read_args text
  pub meant : signature ≡ signature_of args
  pub first_is : first ≡ refusal signature (is_fixed_again args)

first_of_args : (text : List ℕ) (args : List WrittenArg) (signature : Signature) (first : Option SigFault) → ReadArgs text args signature first → refusal_of args ≡ first
first_of_args text args signature first r = ap (λ s. refusal s (is_fixed_again args)) (sym r.meant) ∙ sym r.first_is

pub signs : (text : List ℕ) (args : List WrittenArg) (signature : Signature) → ReadArgs text args signature None → Signs signature text
signs text args signature r = record {
  args = args;
  spelled = args_spelled (length text) text args (sym r.read);
  meant = r.meant;
  allowed = first_of_args text args signature None r;
}

never_bad : (a b c d : Bool) → (if a then Some TooManyNames else (if b then Some TwiceNamed else (if c then Some NoOutput else (if d then Some OpenSize else None)))) ≡ Some BadText → ⊥
never_bad true b c d e = cc
never_bad false true c d e = cc
never_bad false false true d e = cc
never_bad false false false true e = cc
never_bad false false false false e = cc

-- no refusal of what is written is `NoMemory`
never_memory : (a b c d : Bool) → (if a then Some TooManyNames else (if b then Some TwiceNamed else (if c then Some NoOutput else (if d then Some OpenSize else None)))) ≡ Some NoMemory → ⊥
never_memory true b c d e = cc
never_memory false true c d e = cc
never_memory false false true d e = cc
never_memory false false false true e = cc
never_memory false false false false e = cc

pub refuses_memory : (args : List WrittenArg) → refusal_of args ≡ Some NoMemory → ⊥
refuses_memory args h =
    let signature = signature_of args in
    never_memory (nat_lt 16 (length signature.args) || nat_lt 8 (length signature.names)) (is_twice_named signature.args || is_fixed_again args)
    (not (list_any (λ a. is_output a.role) signature.args)) (has_open signature.args 0 signature.fixed) h

pub fault_of : (text : List ℕ) (args : List WrittenArg) (fault : SigFault) → Some args ≡ read_args text → refusal_of args ≡ Some fault → IsFaultOf text fault
fault_of text args BadText e h =
    let signature = signature_of args in
    absurd (never_bad (nat_lt 16 (length signature.args) || nat_lt 8 (length signature.names)) (is_twice_named signature.args || is_fixed_again args)
    (not (list_any (λ a. is_output a.role) signature.args)) (has_open signature.args 0 signature.fixed) h)
fault_of text args TooManyNames e h = record { args = args; spelled = args_spelled (length text) text args (sym e); first = h }
fault_of text args TwiceNamed e h = record { args = args; spelled = args_spelled (length text) text args (sym e); first = h }
fault_of text args NoOutput e h = record { args = args; spelled = args_spelled (length text) text args (sym e); first = h }
fault_of text args OpenSize e h = record { args = args; spelled = args_spelled (length text) text args (sym e); first = h }
fault_of text args NoMemory e h = tt

pub refused : (text : List ℕ) (args : List WrittenArg) (signature : Signature) (fault : SigFault) → ReadArgs text args signature (Some fault) → IsFaultOf text fault
refused text args signature fault r = fault_of text args fault r.read (first_of_args text args signature (Some fault) r)

pub too_many : (text : List ℕ) (args : List WrittenArg) (names : List (List ℕ)) → Some args ≡ read_args text → names ≡ all_names [] args
    → (nat_lt 16 (length args) || nat_lt 8 (length names)) ≡ true → IsRefused text TooManyNames
too_many text args names e n h =
    let many : (nat_lt 16 (length (signature_of args).args) || nat_lt 8 (length (all_names [] args))) ≡ true =
    ap₂ (λ x y. nat_lt 16 x || nat_lt 8 y) (length-map args _) (ap length (sym n)) ∙ h in
    record {
      args = args;
      spelled = args_spelled (length text) text args (sym e);
      first = rw many refl;
    }

pub too_many_names : (text : List ℕ) (args : List WrittenArg) → Some args ≡ read_args text → 8 < length (all_names [] args) → IsRefused text TooManyNames
too_many_names text args e many =
    too_many text args (all_names [] args) e refl (or_right (nat_lt 16 (length args)) (nat_lt 8 (length (all_names [] args))) (grind (arith, nat_tests, many)))

pub only_one : (signature other : Signature) (text : List ℕ) → Signs signature text → Signs other text → signature ≡ other
only_one signature other text s o =
    let a : read_args text ≡ Some s.args = all_read s.args text s.spelled in
    let b : read_args text ≡ Some o.args = all_read o.args text o.spelled in
    let same : s.args ≡ o.args = cc in
    s.meant ∙ ap signature_of same ∙ sym o.meant
