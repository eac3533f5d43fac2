-- A text has one meaning, and `code_in` is it.
use Rattle.std.proofs.Common.{◌≡◌, ◌↔◌, ℕ, List, [], ◌∷◌, ◌++◌, Bool, true, false, if◌then◌else◌, Option, Some, None, Ok, Err, refl, sym, ap, ◌∙◌, subst}
use Rattle.std.specs.Prelude.{Result, not, get_or}
use Rattle.pdl_lemmas.specs.Options.{some_inj, none_some}
use Rattle.pdl_sig.specs.declared.Signature.{Signature}
use Rattle.pdl_code.specs.declared.fault.KernelFault.{KernelFault}
use Rattle.pdl_code.specs.declared.fault.KernelFault.TheVariants.{TooDeep, BadText, UnknownArgument, WriteToInput, UnknownDim, NestedSame, NoMemory}
use Rattle.pdl_code.specs.declared.lexeme.Span.{Span}
use Rattle.pdl_code.specs.declared.scope.Meant.{Meant}
use Rattle.pdl_code.specs.declared.scope.Meant.TheVariants.{InSlot, Dim, Unknown}
use Rattle.pdl_code.specs.Depth.{is_too_deep}
use Rattle.pdl_code.specs.Grammar.{SpellsBlock, some_code}
use Rattle.pdl_code.specs.Lexing.{Lexed, lexed}
use Rattle.pdl_code.specs.Meaning.{code_in, meant_by, spelled_by}
use Rattle.pdl_code.specs.declared.names.Target.TheVariants.{New, Named}
use Rattle.pdl_code.specs.Tree.{RawTree, RawIndices, RawStep, RawCode, number, size, named, access, unary, binary, none, along, repeat, choose, keep, put, done, next, Code}
use Rattle.pdl_code.specs.CodeReading.{read_code}
use Rattle.pdl_code.specs.Refused.{answer, argument_at, axis_wrong, behind_name, code_code, code_declares, code_wrongs, index_wrongs, is_input, lacks, loop_wrong, mark, named_argument, named_dim, no_dim, or_zero, primary_wrong, scope_after, step_wrongs, target_wrong, tree_wrongs, when}
use Rattle.pdl_code.specs.Scope.{Scope, axis_of, bytes_of, meant, no_flags, top, within}
use Rattle.pdl_code.specs.Spelled.{Codes, IsBad, Means, Refuses, Spelled, Stands}
use Rattle.pdl_code.proofs.GrammarCodeComplete.{all_read}
use Rattle.pdl_code.proofs.GrammarCodeSound.{all_sound}
use Rattle.pdl_code.proofs.MeaningLemmas.{meant_in, too_deep}

-- refusals of names
abbrev IsOfName : KernelFault → Type 0
IsOfName TooDeep = ⊥
IsOfName BadText = ⊥
IsOfName NoMemory = ⊥
IsOfName _ = Unit {0}

abbrev OfNames : List KernelFault → Type 0
OfNames [] = Unit {0}
OfNames (x ∷ xs) = IsOfName x × OfNames xs

of_both : (xs ys : List KernelFault) → OfNames xs → OfNames ys → OfNames (xs ++ ys)
of_both [] ys h k = k
of_both (x ∷ xs) ys h k = (h.0, of_both xs ys h.1 k)

of_when : (b : Bool) (x : KernelFault) → IsOfName x → OfNames (when b x)
of_when true x h = (h, tt)
of_when false x h = tt

of_dim : (w : Span) (p : Option ℕ) → OfNames (no_dim w p)
of_dim w None = (tt, tt)
of_dim w (Some d) = tt

of_primary : (loops : List Bool) (w : Span) (m : Meant) → OfNames (primary_wrong loops w m)
of_primary loops w (InSlot k) = tt
of_primary loops w (Dim d) = of_when (not (get_or loops d false)) (UnknownDim w.from) tt
of_primary loops w Unknown = (tt, tt)

of_target : (w : Span) (m : Meant) → OfNames (target_wrong w m)
of_target w (InSlot k) = tt
of_target w (Dim d) = (tt, tt)
of_target w Unknown = (tt, tt)

of_axis : (w : Span) (given : List Bool) (p : Option ℕ) → OfNames (axis_wrong w given p)
of_axis w given None = (tt, tt)
of_axis w given (Some k) = of_when (get_or given k false) (UnknownDim w.from) tt

of_loop : (loops : List Bool) (w : Span) (p : Option ℕ) → OfNames (loop_wrong loops w p)
of_loop loops w None = (tt, tt)
of_loop loops w (Some d) = of_when (get_or loops d false) (NestedSame w.from) tt

of_behind : (w : Span) (p : Option ℕ) (xs : List KernelFault) → OfNames xs → OfNames (behind_name w p xs)
of_behind w None xs h = (tt, tt)
of_behind w (Some a) xs h = h

module _ (source : List ℕ) (s : Signature) where
  mutual
    of_tree : (c : Scope) (t : RawTree) → OfNames (tree_wrongs source s c t)
    of_tree c (number z) = tt
    of_tree c (size w) = of_dim w (named_dim source s w)
    of_tree c (named w) = of_primary c.loops w (meant source s c.locals w)
    of_tree c (access o is) =
        let a = named_argument source s o.name in
        of_behind o.name a _ (of_indices c (argument_at s a).dims no_flags o.close is)
    of_tree c (unary op e) = of_tree c e
    of_tree c (binary op x y) = of_both (tree_wrongs source s c x) (tree_wrongs source s c y) (of_tree c x) (of_tree c y)

    of_indices : (c : Scope) (ds : List ℕ) (given : List Bool) (at : ℕ) (is : RawIndices) → OfNames (index_wrongs source s c ds given at is)
    of_indices c ds given at none = of_when (lacks c.loops ds 0 given) (UnknownDim at) tt
    of_indices c ds given at (along w e rest) =
        let k = axis_of s ds (bytes_of source w) in
        of_both (axis_wrong w given k) _ (of_axis w given k) (of_both (tree_wrongs source s c e) _ (of_tree c e) (of_indices c ds (mark given k) at rest))

  mutual
    of_step : (c : Scope) (t : RawStep) → OfNames (step_wrongs source s c t)
    of_step c (repeat w body) =
        let d = named_dim source s w in
        of_both (loop_wrong c.loops w d) _ (of_loop c.loops w d) (of_code (within c (or_zero d)) body)
    of_step c (choose e whole other) =
        of_both (tree_wrongs source s c e) _ (of_tree c e) (of_both (code_wrongs source s c whole) _ (of_code c whole) (of_code c other))
    of_step c (keep (New ty w) op e) = of_tree c e
    of_step c (keep (Named w) op e) = of_both (target_wrong w (meant source s c.locals w)) _ (of_target w (meant source s c.locals w)) (of_tree c e)
    of_step c (put o is op e) =
        let a = named_argument source s o.name in
        let input = when (is_input (argument_at s a).role) (WriteToInput o.name.from) in
        let given = index_wrongs source s c (argument_at s a).dims no_flags o.close is in
        of_both (behind_name o.name a (input ++ given)) _
        (of_behind o.name a (input ++ given) (of_both input given (of_when (is_input (argument_at s a).role) (WriteToInput o.name.from) tt) (of_indices c (argument_at s a).dims no_flags o.close is)))
        (of_tree c e)

    of_code : (c : Scope) (t : RawCode) → OfNames (code_wrongs source s c t)
    of_code c done = tt
    of_code c (next t rest) = of_both (step_wrongs source s c t) _ (of_step c t) (of_code (scope_after c t) rest)

-- what is read of a text is what it spells

spelled_read : (l : Lexed) (raw : RawCode) → l.whole ≡ true → SpellsBlock (some_code raw) l.lexemes [] → spelled_by l ≡ Some raw
spelled_read l raw w h = ap (λ b. if b then read_code l.lexemes else None) w ∙ all_read raw l.lexemes h

record ReadFrom (l : Lexed) (raw : RawCode) : Type 0 where
  whole : l.whole ≡ true
  tokens : SpellsBlock (some_code raw) l.lexemes []

read_spelled : (l : Lexed) (raw : RawCode) → spelled_by l ≡ Some raw → ReadFrom l raw
read_spelled l raw e = by_test l.whole refl e
  where
    by_test : (b : Bool) → l.whole ≡ b → (if b then read_code l.lexemes else None) ≡ Some raw → ReadFrom l raw
    by_test true w h = record { whole = w; tokens = all_sound l.lexemes raw h }
    by_test false w h = absurd (none_some h)

pub is_read : (text : List ℕ) (raw : RawCode) → Spelled raw text → spelled_by (lexed text) ≡ Some raw
is_read text raw h = spelled_read (lexed text) raw h.whole h.tokens

is_spelled : (text : List ℕ) (raw : RawCode) → spelled_by (lexed text) ≡ Some raw → Spelled raw text
is_spelled text raw e = let r = read_spelled (lexed text) raw e in record { whole = r.whole; tokens = r.tokens }

pub one_reading : (text : List ℕ) (raw other : RawCode) → Spelled raw text → Spelled other text → raw ≡ other
one_reading text raw other h k = some_inj (sym (is_read text raw h) ∙ is_read text other k)

module _ (s : Signature) (text : List ℕ) where
  -- what stands means its code, or its first refusal
  first_means : (raw : RawCode) → Stands s raw text → (ws : List KernelFault) → code_wrongs text s top raw ≡ ws → OfNames ws → Means s text (answer ws (code_code text s top raw))
  first_means raw h [] e names = record { raw = raw; stands = h; known = e; is = refl }
  first_means raw h (TooDeep ∷ ws) e names = absurd names.0
  first_means raw h (BadText ∷ ws) e names = absurd names.0
  first_means raw h (NoMemory ∷ ws) e names = absurd names.0
  first_means raw h (UnknownArgument x ∷ ws) e names = record { raw = raw; stands = h; others = ws; first = e }
  first_means raw h (WriteToInput x ∷ ws) e names = record { raw = raw; stands = h; others = ws; first = e }
  first_means raw h (UnknownDim x ∷ ws) e names = record { raw = raw; stands = h; others = ws; first = e }
  first_means raw h (NestedSame x ∷ ws) e names = record { raw = raw; stands = h; others = ws; first = e }

  judged_means : is_too_deep (lexed text).lexemes ≡ false → (raw : RawCode) → Spelled raw text → (b : Bool) → code_declares text s top raw ≡ b
      → Means s text (if b then Err BadText else answer (code_wrongs text s top raw) (code_code text s top raw))
  judged_means deep raw h true e =
      record { within = deep; refused = λ other k. ap (code_declares text s top) (one_reading text other raw k h) ∙ e }
  judged_means deep raw h false e =
      first_means raw (record { within = deep; spelled = h; declared = e }) (code_wrongs text s top raw) refl (of_code text s top raw)

  read_means : is_too_deep (lexed text).lexemes ≡ false → (o : Option RawCode) → spelled_by (lexed text) ≡ o → Means s text (meant_by s text o)
  read_means deep None e = record { within = deep; refused = λ raw h. absurd (none_some (sym e ∙ is_read text raw h)) }
  read_means deep (Some raw) e = judged_means deep raw (is_spelled text raw e) (code_declares text s top raw) refl

  means_by : (b : Bool) → is_too_deep (lexed text).lexemes ≡ b → Means s text (code_in s text)
  means_by true e = subst (Means s text) (sym (too_deep s text (lexed text) refl e)) e
  means_by false e = subst (Means s text) (sym (meant_in s text (lexed text) refl e)) (read_means e (spelled_by (lexed text)) refl)

  means : Means s text (code_in s text)
  means = means_by (is_too_deep (lexed text).lexemes) refl

  -- and back
  stands_is : (raw : RawCode) → Stands s raw text → code_in s text ≡ answer (code_wrongs text s top raw) (code_code text s top raw)
  stands_is raw h =
      meant_in s text (lexed text) refl h.within ∙ ap (meant_by s text) (is_read text raw h.spelled)
      ∙ ap (λ b. if b then Err BadText else answer (code_wrongs text s top raw) (code_code text s top raw)) h.declared

  codes_is : (code : Code) → Codes s code text → code_in s text ≡ Ok code
  codes_is code c = stands_is c.raw c.stands ∙ ap (λ ws. answer ws (code_code text s top c.raw)) c.known ∙ ap good (sym c.is)
    where
      good : Code → Result Code KernelFault
      good x = Ok x

  refuses_is : (fault : KernelFault) → Refuses s fault text → code_in s text ≡ Err fault
  refuses_is fault r = stands_is r.raw r.stands ∙ ap (λ ws. answer ws (code_code text s top r.raw)) r.first

  bad_by : IsBad s text → (o : Option RawCode) → spelled_by (lexed text) ≡ o → meant_by s text o ≡ Err BadText
  bad_by b None e = refl
  bad_by b (Some raw) e =
      ap (λ t. if t then Err BadText else answer (code_wrongs text s top raw) (code_code text s top raw)) (b.refused raw (is_spelled text raw e))

  bad_is : IsBad s text → code_in s text ≡ Err BadText
  bad_is b = meant_in s text (lexed text) refl b.within ∙ bad_by b (spelled_by (lexed text)) refl

  is_meant : (answer : Result Code KernelFault) → Means s text answer → code_in s text ≡ answer
  is_meant (Ok code) h = codes_is code h
  is_meant (Err TooDeep) h = too_deep s text (lexed text) refl h
  is_meant (Err BadText) h = bad_is h
  is_meant (Err NoMemory) h = absurd h
  is_meant (Err (UnknownArgument x)) h = refuses_is (UnknownArgument x) h
  is_meant (Err (WriteToInput x)) h = refuses_is (WriteToInput x) h
  is_meant (Err (UnknownDim x)) h = refuses_is (UnknownDim x) h
  is_meant (Err (NestedSame x)) h = refuses_is (NestedSame x) h

  pub one_meaning : (answer : Result Code KernelFault) → (code_in s text ≡ answer) ↔ Means s text answer
  one_meaning answer = (λ e. subst (Means s text) e means, is_meant answer)
