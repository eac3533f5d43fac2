-- The text of a whole statement.
use Rattle.std.proofs.Common.{◌≡◌, ℕ, ◌<◌, ◌≤◌, true, false, List, [], ◌∷◌, ◌++◌, length, map, drop, Bool, Option, Some, None, refl, ap, sym, ◌∙◌, append_assoc}
use Rattle.std.proofs.lemmas.List.{take_rest}
use Rattle.std.proofs.lemmas.Bool.{lt-ltb, le-ltb}
use Rattle.std.specs.Prelude.{nat_lt, option_map, if◌then◌else◌, Result, Ok, Err, OnOk, IfErr, IfSome}
use Rattle.pdl_lex.specs.Limits.{statement_limit}
use Rattle.pdl_lex.specs.declared.Token.{Token}
use Rattle.pdl_lex.specs.Written.{Written, text_of, between, written, end_behind}
use Rattle.pdl_nice.specs.declared.looks.Before.TheVariants.{Other as another}
use Rattle.pdl_nice.specs.Reading.{plain_tokens}
use Rattle.pdl_nice.specs.Writing.{onto, text_behind, end_before}
use Rattle.pdl_nice.specs.Plain.{NiceRefusal, too_deep, too_long, text_or, plain_text, plain_of, refusal_of}
use Rattle.pdl_lex.specs.Brackets.{no_brackets, go_deep}
use Rattle.pdl_nice.specs.declared.looks.Look.{Look}
use Rattle.pdl_nice.specs.declared.NiceFault.{NiceFault}
use Rattle.pdl_nice.specs.Ends.{token_look, none_open, looks_deep}
use Rattle.pdl_nice.proofs.LookTokens.{looks_are, deep_looks}
use Rattle.pdl_lemmas.specs.Options.{none_some, some_inj}

-- what stands behind the last token
end_is : (text : List ℕ) (start : ℕ) (ts : List Token) → drop (end_before start ts (length ts)) text ≡ end_behind text start ts
end_is text start [] = refl
end_is text start (t ∷ ts) = end_is text t.to ts

pub rest_is : (text : List ℕ) (ts : List Token) (bs : List ℕ) (at : ℕ) → at ≡ end_before 0 ts (length ts) → bs ≡ between text at (length text) →
    bs ≡ end_behind text 0 ts
rest_is text ts bs at e f = f ∙ (take_rest text at ∙ (ap (λ n. drop n text) e ∙ end_is text 0 ts))

with_end : (us : List Written) (end : List ℕ) → text_of us end ≡ text_of us [] ++ end
with_end [] end = refl
with_end (u ∷ us) end =
    ap (λ t. u.gap ++ (u.bytes ++ t)) (with_end us end)
    ∙ (ap (λ t. u.gap ++ t) (sym (append_assoc u.bytes (text_of us []) end)) ∙ sym (append_assoc u.gap (u.bytes ++ text_of us []) end))

-- the tokens' text, and what stands behind them
text_found : (o : Option (List Written)) (end old now new : List ℕ) → old ≡ [] → onto old (option_map (λ us. text_of us []) o) ≡ Some now → new ≡ now ++ end →
    (us : List Written) × (o ≡ Some us) × (text_of us end ≡ new)
text_found None end old now new n e f = absurd (none_some e)
text_found (Some us) end old now new n e f =
    (us, refl, with_end us end ∙ (ap (λ t. t ++ end) (ap (λ x. x ++ text_of us []) (sym n) ∙ some_inj e) ∙ sym f))

pub long_text : (ws : List Written) (end old now new : List ℕ) → old ≡ [] → onto old (text_behind another ws) ≡ Some now → new ≡ now ++ end →
    statement_limit < length new → text_or end (plain_tokens ws) ≡ Err too_long
long_text ws end old now new n e f l =
    let t = text_found (plain_tokens ws) end old now new n e f in
    ap (text_or end) t.1 ∙ (ap (λ x. if nat_lt statement_limit (length x) then Err too_long else Ok x) t.2
    ∙ ap (λ b. if b then Err too_long else Ok new) (lt-ltb statement_limit (length new) l))

pub text_is : (ws : List Written) (end old now new : List ℕ) → old ≡ [] → onto old (text_behind another ws) ≡ Some now → new ≡ now ++ end →
    length new ≤ statement_limit → text_or end (plain_tokens ws) ≡ Ok new
text_is ws end old now new n e f l =
    let t = text_found (plain_tokens ws) end old now new n e f in
    ap (text_or end) t.1 ∙ (ap (λ x. if nat_lt statement_limit (length x) then Err too_long else Ok x) t.2
    ∙ ap (λ b. if b then Err too_long else Ok new) (le-ltb statement_limit (length new) l))

-- the first refusal, and what is left where it doesn't hold
deep_is : (text : List ℕ) (ts : List Token) (looks : List Look) (b : Bool) → looks ≡ map (token_look text) ts → b ≡ looks_deep none_open looks →
    go_deep no_brackets (written text 0 ts) ≡ b
deep_is text ts looks b e f = deep_looks (written text 0 ts) ∙ (ap (looks_deep none_open) (looks_are text 0 ts ∙ sym e) ∙ sym f)

pub deep_text : (text : List ℕ) (ts : List Token) (looks : List Look) (b : Bool) → looks ≡ map (token_look text) ts → b ≡ looks_deep none_open looks →
    b ≡ true → plain_of text ts ≡ Err too_deep
unfolding plain_text
deep_text text ts looks b e f g = rw (deep_is text ts looks b e f ∙ g) refl

pub flat_text : (text : List ℕ) (ts : List Token) (looks : List Look) (b : Bool) → looks ≡ map (token_look text) ts → b ≡ looks_deep none_open looks →
    b ≡ false → plain_of text ts ≡ text_or (end_behind text 0 ts) (plain_tokens (written text 0 ts))
unfolding plain_text
flat_text text ts looks b e f g = rw (deep_is text ts looks b e f ∙ g) refl

-- what is answered of one of two equal texts is answered of the other
pub ok_as : {T E : Type 0} {x y : Result (List ℕ) NiceRefusal} (r : Result T E) (new : List ℕ) → x ≡ y → OnOk r (y ≡ Ok new) → OnOk r (x ≡ Ok new)
ok_as (Ok u) new same h = same ∙ h
ok_as (Err e) new same h = h

refused_as : {x y : Result (List ℕ) NiceRefusal} (o : Option NiceRefusal) → x ≡ y → IfSome o (λ refusal. y ≡ Err refusal) → IfSome o (λ refusal. x ≡ Err refusal)
refused_as None same h = h
refused_as (Some refusal) same h = same ∙ h

pub err_as : {T : Type 0} {x y : Result (List ℕ) NiceRefusal} (r : Result T NiceFault) → x ≡ y →
    IfErr r (λ fault. IfSome (refusal_of fault) (λ refusal. y ≡ Err refusal)) → IfErr r (λ fault. IfSome (refusal_of fault) (λ refusal. x ≡ Err refusal))
err_as (Ok u) same h = h
err_as (Err fault) same h = refused_as (refusal_of fault) same h
