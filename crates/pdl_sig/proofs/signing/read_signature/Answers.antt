use Rattle.std.proofs.Common.{◌<◌, List, [], length, ap, subst, ◌∙◌, rules}
use Rattle.pdl_sig.specs.declared.written.WrittenArg.{WrittenArg}
use Rattle.pdl_sig.specs.Refusals.{all_names, signature_of, is_fixed_again, refusal}
use Rattle.pdl_sig.proofs.RefusalAnswers.{bad_text, too_many, too_many_names, refused, signs}
use Rattle.pdl_sig.proofs.RefusalWellFormed.{well_formed}
use Rattle.pdl_sig.proofs.signing.read_signature.Goals as goal

pub returns-in_default-clause-refused : goal.returns-in_default-clause-refused
returns-in_default-clause-refused c = bad_text c.args.text.now (search rules)

pub returns-then-are_too_many-clause-refused : goal.returns-then-are_too_many-clause-refused
returns-then-are_too_many-clause-refused c =
    too_many c.args.text.now c.in-Some.args.items c.in-Some-2.names.items (rw c.in-Some.is at c.in_ok-args.ensures)
    ((rw c.in-Some-2.is at c.in_ok-names.ensures.few) ∙ ap (λ (xs : List WrittenArg). all_names [] xs) c.as_slice.ensures.value) (search rules)

pub returns-in_default-2-clause-refused : goal.returns-in_default-2-clause-refused
returns-in_default-2-clause-refused c =
    too_many_names c.args.text.now c.in-Some.args.items (rw c.in-Some.is at c.in_ok-args.ensures)
    (subst (λ (xs : List WrittenArg). 8 < length (all_names [] xs)) c.as_slice.ensures.value (c.in_ok-names.ensures.many c.in_default-2.is))

pub returns-in-Some-refusal-clause-refused : goal.returns-in-Some-refusal-clause-refused
returns-in-Some-refusal-clause-refused c =
    refused c.args.text.now c.in-Some.args.items c.in_ok-signature.signature c.in-Some-refusal.fault
    (record {
      read = rw c.in-Some.is at c.in_ok-args.ensures;
      meant = c.in_ok-signature.ensures ∙ ap signature_of c.as_slice-2.ensures.value;
      first_is = c.in-Some-refusal.ensures ∙ ap (refusal c.in_ok-signature.signature) (ap is_fixed_again c.as_slice-3.ensures.value);
    })

pub returns-clause-read : goal.returns-clause-read
returns-clause-read c =
    signs c.args.text.now c.in-Some.args.items c.in_ok-signature.signature
    (record {
      read = rw c.in-Some.is at c.in_ok-args.ensures;
      meant = c.in_ok-signature.ensures ∙ ap signature_of c.as_slice-2.ensures.value;
      first_is = c.in-None.ensures ∙ ap (refusal c.in_ok-signature.signature) (ap is_fixed_again c.as_slice-3.ensures.value);
    })

pub returns-clause-well_formed : goal.returns-clause-well_formed
returns-clause-well_formed c = well_formed c.in_ok-signature.signature c.args.text.now (returns-clause-read c)
