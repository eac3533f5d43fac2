-- The plain text, or the first refusal.
use Rattle.std.proofs.Common.{◌≡◌, ℕ, suc, ◌<◌, ◌≤◌, Bool, true, false, if◌then◌else◌, List, length, Option, Some, None, refl, ap, sym, ◌∙◌}
use Rattle.std.specs.Prelude.{nat_lt, Result, Ok, Err}
use Rattle.std.proofs.lemmas.Bool.{ltb-true, ltb-false, lt-ltb, le-ltb}
use Rattle.pdl_lex.specs.Limits.{statement_limit}
use Rattle.pdl_lex.specs.Brackets.{no_brackets, go_deep}
use Rattle.pdl_lex.specs.Written.{Written, text_of}
use Rattle.pdl_nice.specs.declared.looks.Before.TheVariants.{Other as another}
use Rattle.pdl_nice.specs.Nice.{Becomes, has_nice}
use Rattle.pdl_nice.specs.Reading.{plain_tokens}
use Rattle.pdl_nice.specs.Plain.{NiceRefusal, too_deep, not_nice, too_long, Means, within_limit, text_or, plain_text}
use Rattle.pdl_lemmas.specs.Options.{none_some}
use Rattle.pdl_nice.proofs.NiceSound.{reader_sound}
use Rattle.pdl_nice.proofs.NiceComplete.{reader_complete}
use Rattle.pdl_nice.proofs.NiceStays.{nothing_changes}

-- what is answered is meant
limit_means : (ws us : List Written) (end : List ℕ) (b : Bool) → go_deep no_brackets ws ≡ false → Becomes another ws us →
    nat_lt statement_limit (length (text_of us end)) ≡ b → Means ws end (if b then Err too_long else Ok (text_of us end))
limit_means ws us end true f h e =
    (text_of us end, record { flat = f; after = us; becomes = h; text_is = refl }, ltb-true statement_limit (length (text_of us end)) e)
limit_means ws us end false f h e =
    (record { flat = f; after = us; becomes = h; text_is = refl }, ltb-false statement_limit (length (text_of us end)) e)

text_means : (ws : List Written) (end : List ℕ) (o : Option (List Written)) → go_deep no_brackets ws ≡ false → plain_tokens ws ≡ o →
    Means ws end (text_or end o)
text_means ws end None f e = (f, λ us h. none_some (sym e ∙ reader_complete ws us h))
text_means ws end (Some us) f e = limit_means ws us end (nat_lt statement_limit (length (text_of us end))) f (reader_sound (suc (length ws)) another ws us e) refl

answer_means : (ws : List Written) (end : List ℕ) (b : Bool) → go_deep no_brackets ws ≡ b →
    Means ws end (if b then Err too_deep else text_or end (plain_tokens ws))
answer_means ws end true e = e
answer_means ws end false e = text_means ws end (plain_tokens ws) e refl

pub plain_means : (ws : List Written) (end : List ℕ) → Means ws end (plain_text ws end)
unfolding plain_text
plain_means ws end = answer_means ws end (go_deep no_brackets ws) refl

long : (text : List ℕ) → statement_limit < length text → nat_lt statement_limit (length text) ≡ true
long text h = lt-ltb statement_limit (length text) h

short : (text : List ℕ) → length text ≤ statement_limit → nat_lt statement_limit (length text) ≡ false
short text h = le-ltb statement_limit (length text) h

pub plain_is : (ws us : List Written) (end : List ℕ) → go_deep no_brackets ws ≡ false → Becomes another ws us → plain_text ws end ≡ within_limit (text_of us end)
unfolding plain_text
plain_is ws us end f h = rw f (rw (reader_complete ws us h) refl)

-- what is meant is answered
pub meant : (ws : List Written) (end : List ℕ) (answer : Result (List ℕ) NiceRefusal) → Means ws end answer → plain_text ws end ≡ answer
unfolding plain_text
meant ws end (Ok text) h =
    let p = h.0 in
    plain_is ws p.after end p.flat p.becomes ∙ (ap within_limit (sym p.text_is) ∙ ap (λ b. if b then Err too_long else Ok text) (short text h.1))
meant ws end (Err too_deep) h = rw h refl
meant ws end (Err not_nice) h = rw h.0 (of_tokens (plain_tokens ws) refl)
  where
    of_tokens : (o : Option (List Written)) → plain_tokens ws ≡ o → text_or end o ≡ Err not_nice
    of_tokens None e = refl
    of_tokens (Some us) e = absurd (h.1 us (reader_sound (suc (length ws)) another ws us e))
meant ws end (Err too_long) h =
    let p = h.1 in
    plain_is ws p.after end p.flat p.becomes ∙ (ap within_limit (sym p.text_is) ∙ ap (λ b. if b then Err too_long else Ok h.0) (long h.0 h.2))

pub its_own : (ws : List Written) (end : List ℕ) → has_nice another ws ≡ false → go_deep no_brackets ws ≡ false →
    length (text_of ws end) ≤ statement_limit → plain_text ws end ≡ Ok (text_of ws end)
its_own ws end n f l =
    plain_is ws ws end f (nothing_changes another ws n) ∙ ap (λ b. if b then Err too_long else Ok (text_of ws end)) (short (text_of ws end) l)
