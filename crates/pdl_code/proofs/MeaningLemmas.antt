-- The top call's answer, from its parts.
use Rattle.std.proofs.Common.{◌≡◌, ℕ, zero, suc, ◌≤◌, List, [], ◌∷◌, length, Ok, Err, refl, sym, ap, subst, ◌∙◌, arith}
use Rattle.std.specs.Prelude.{Bool, true, false, if◌then◌else◌, Option, Some, None, Result, IfOk, IfErr, pred}
use Rattle.pdl_lex.specs.Bytes.{is_blank}
use Rattle.pdl_sig.specs.declared.Signature.{Signature}
use Rattle.pdl_sig.specs.Refusals.{IsWellFormed}
use Rattle.pdl_code.specs.declared.fault.KernelFault.{KernelFault}
use Rattle.pdl_code.specs.declared.fault.KernelFault.TheVariants.{TooDeep, BadText, UnknownArgument, WriteToInput, UnknownDim, NestedSame, NoMemory}
use Rattle.pdl_code.specs.declared.lexeme.Lexeme.{Lexeme}
use Rattle.pdl_code.specs.Declaring.{counted, raw_locals}
use Rattle.pdl_code.specs.Depth.{is_too_deep}
use Rattle.pdl_code.specs.Fit.{IsFit, code_locals}
use Rattle.pdl_code.specs.Lexing.{Lexed, lexed, lexed_from, lexed_then, lexeme_at}
use Rattle.pdl_code.specs.Meaning.{IsFault, code_in, judged, meant_by, spelled_by}
use Rattle.pdl_code.specs.Tree.{RawCode, Code}
use Rattle.pdl_code.specs.CodeReading.{read_code}
use Rattle.pdl_code.specs.Refused.{answer, code_code, code_declares, code_wrongs}
use Rattle.pdl_code.specs.Resolving.{Agrees, or_bad}
use Rattle.pdl_code.specs.Scope.{top}
use Rattle.pdl_code.proofs.FitLemmas.{code_count, code_fits}

-- a text has no more tokens than bytes
then_few : (found : Option (Lexeme × ℕ)) (others : ℕ → Lexed) (n : ℕ) → ((k : ℕ) → length (others k).lexemes ≤ n) → length (lexed_then found others).lexemes ≤ suc n
then_few None others n rest = omega arith
then_few (Some x) others n rest = let few = rest x.1 in omega (arith, few)

one_few : (blank : Bool) (a b : Lexed) (n : ℕ) → length a.lexemes ≤ n → length b.lexemes ≤ suc n → length (if blank then a else b).lexemes ≤ suc n
one_few true a b n few more = omega (arith, few)
one_few false a b n few more = more

few_from : (at passed : ℕ) (bs : List ℕ) → length (lexed_from at passed bs).lexemes ≤ length bs
unfolding lexed_from
few_from at passed [] = omega arith
few_from at (suc passed) (b ∷ bs) = let few = few_from (suc at) passed bs in omega (arith, few)
few_from at zero (b ∷ bs) =
    one_few (is_blank b) _ _ (length bs) (few_from (suc at) 0 bs)
    (then_few (lexeme_at at (b ∷ bs)) (λ n. lexed_from (suc at) (pred n) bs) (length bs) (λ n. few_from (suc at) (pred n) bs))

pub few_tokens : (text : List ℕ) → length (lexed text).lexemes ≤ length text
unfolding lexed
few_tokens text = few_from 0 0 text

-- the parts of `judged`
pub judged_refused : (s : Signature) (text : List ℕ) (raw : RawCode) (f : KernelFault) → counted (code_declares text s top raw) (raw_locals 0 raw) ≡ Err f → judged s text raw ≡ Err f
judged_refused s text raw f e = by_test (code_declares text s top raw) e
  where
    by_test : (b : Bool) → counted b (raw_locals 0 raw) ≡ Err f
        → (if b then Err BadText else answer (code_wrongs text s top raw) (code_code text s top raw)) ≡ Err f
    by_test true h = cc
    by_test false h = cc

pub judged_by_names : (s : Signature) (text : List ℕ) (raw : RawCode) (n : ℕ) → counted (code_declares text s top raw) (raw_locals 0 raw) ≡ Ok n
    → judged s text raw ≡ answer (code_wrongs text s top raw) (code_code text s top raw)
judged_by_names s text raw n e = by_test (code_declares text s top raw) e
  where
    by_test : (b : Bool) → counted b (raw_locals 0 raw) ≡ Ok n
        → (if b then Err BadText else answer (code_wrongs text s top raw) (code_code text s top raw)) ≡ answer (code_wrongs text s top raw) (code_code text s top raw)
    by_test true h = cc
    by_test false h = refl

locals_of : (s : Signature) (text : List ℕ) (raw : RawCode) (n : ℕ) → counted (code_declares text s top raw) (raw_locals 0 raw) ≡ Ok n → n ≡ raw_locals 0 raw
locals_of s text raw n e = by_test (code_declares text s top raw) e
  where
    by_test : (b : Bool) → counted b (raw_locals 0 raw) ≡ Ok n → n ≡ raw_locals 0 raw
    by_test true h = cc
    by_test false h = cc

-- code whose names aren't refused
pub record Named (s : Signature) (text : List ℕ) (raw : RawCode) (code : Code) : Type 0 where
  pub none : code_wrongs text s top raw ≡ []
  pub is : code ≡ code_code text s top raw

pub named : (s : Signature) (text : List ℕ) (raw : RawCode) (code : Code) → answer (code_wrongs text s top raw) (code_code text s top raw) ≡ Ok code → Named s text raw code
named s text raw code e = by_wrongs (code_wrongs text s top raw) refl e
  where
    by_wrongs : (ws : List KernelFault) → code_wrongs text s top raw ≡ ws → answer ws (code_code text s top raw) ≡ Ok code → Named s text raw code
    by_wrongs [] w h = record { none = w; is = cc }
    by_wrongs (x ∷ ws) w h = cc

pub fits : (s : Signature) (text : List ℕ) (raw : RawCode) (code : Code) → IsWellFormed s → answer (code_wrongs text s top raw) (code_code text s top raw) ≡ Ok code → IsFit s code
fits s text raw code wf e =
    let n = named s text raw code e in subst (IsFit s) (sym n.is) (code_fits text s wf top raw n.none)

pub count_is : (s : Signature) (text : List ℕ) (raw : RawCode) (code : Code) (n : ℕ) → IsWellFormed s → counted (code_declares text s top raw) (raw_locals 0 raw) ≡ Ok n
    → answer (code_wrongs text s top raw) (code_code text s top raw) ≡ Ok code → n ≡ code_locals 0 code
count_is s text raw code n wf e h =
    let m = named s text raw code h in locals_of s text raw n e ∙ code_count text s wf top raw m.none ∙ ap (code_locals 0) (sym m.is)

-- a fault of a text
pub fault_of : {X : Type 0} (view : X → Code) (f : KernelFault) (wanted : Result Code KernelFault) → Agrees view (Err f) wanted → IsFault wanted f
fault_of view TooDeep wanted e = e
fault_of view BadText wanted e = e
fault_of view (UnknownArgument x) wanted e = e
fault_of view (WriteToInput x) wanted e = e
fault_of view (UnknownDim x) wanted e = e
fault_of view (NestedSame x) wanted e = e
fault_of view NoMemory wanted e = e

pub too_deep : (s : Signature) (text : List ℕ) (l : Lexed) → lexed text ≡ l → is_too_deep l.lexemes ≡ true → code_in s text ≡ Err TooDeep
unfolding code_in
too_deep s text l e h =
    ap (λ (m : Lexed). if is_too_deep m.lexemes then Err TooDeep else meant_by s text (spelled_by m)) e
    ∙ ap (λ b. if b then Err TooDeep else meant_by s text (spelled_by l)) h

pub meant_in : (s : Signature) (text : List ℕ) (l : Lexed) → lexed text ≡ l → is_too_deep l.lexemes ≡ false → code_in s text ≡ meant_by s text (spelled_by l)
unfolding code_in
meant_in s text l e h =
    ap (λ (m : Lexed). if is_too_deep m.lexemes then Err TooDeep else meant_by s text (spelled_by m)) e
    ∙ ap (λ b. if b then Err TooDeep else meant_by s text (spelled_by l)) h

pub not_whole : (s : Signature) (text : List ℕ) (ts : List Lexeme) (whole : Bool) → whole ≡ false → meant_by s text (spelled_by (record { lexemes = ts; whole = whole })) ≡ Err BadText
not_whole s text ts whole e = ap (λ b. meant_by s text (if b then read_code ts else None)) e

pub unread : (s : Signature) (text : List ℕ) (ts : List Lexeme) (whole : Bool) (f : KernelFault) → whole ≡ true → or_bad (read_code ts) ≡ Err f
    → meant_by s text (spelled_by (record { lexemes = ts; whole = whole })) ≡ Err f
unread s text ts whole f e h = ap (λ b. meant_by s text (if b then read_code ts else None)) e ∙ by_read (read_code ts) h
  where
    by_read : (o : Option RawCode) → or_bad o ≡ Err f → meant_by s text o ≡ Err f
    by_read None k = cc
    by_read (Some raw) k = cc

pub read_as : (s : Signature) (text : List ℕ) (ts : List Lexeme) (whole : Bool) (raw : RawCode) → whole ≡ true → or_bad (read_code ts) ≡ Ok raw
    → meant_by s text (spelled_by (record { lexemes = ts; whole = whole })) ≡ judged s text raw
read_as s text ts whole raw e h = ap (λ b. meant_by s text (if b then read_code ts else None)) e ∙ by_read (read_code ts) h
  where
    by_read : (o : Option RawCode) → or_bad o ≡ Ok raw → meant_by s text o ≡ judged s text raw
    by_read None k = cc
    by_read (Some x) k = ap (judged s text) (same x k)
      where
        same : (x : RawCode) → or_bad (Some x) ≡ Ok raw → x ≡ raw
        same x k = cc

pub ok_of : {X : Type 0} (view : X → Code) (r : Result X KernelFault) (wanted other : Result Code KernelFault) → other ≡ wanted → Agrees view r wanted → IfOk r (λ c. other ≡ Ok (view c))
ok_of view (Ok x) wanted other e g = e ∙ g
ok_of view (Err f) wanted other e g = tt

pub err_of : {X : Type 0} (view : X → Code) (r : Result X KernelFault) (wanted other : Result Code KernelFault) → other ≡ wanted → Agrees view r wanted → IfErr r (IsFault other)
err_of view (Ok x) wanted other e g = tt
err_of view (Err f) wanted other e g = subst (λ o. IsFault o f) (sym e) (fault_of view f wanted g)
