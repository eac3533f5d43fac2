-- A pattern that is filled in byte by byte.
use Rattle.std.proofs.Common.{◌≡◌, ◌≢◌, ℕ, ◌+◌, ◌<◌, ◌≤◌, ℤ, pos, List, [], ◌∷◌, ◌++◌, length, get_or, drop, Option, Some, None, refl, sym, ap, subst, ◌∙◌, append_assoc, arith}
use Rattle.std.specs.Prelude.{option_map}
use Rattle.std.specs.Fmt.{signed_decimal}
use Rattle.std.proofs.lemmas.Bool.{ne_eqb}
use Rattle.std.proofs.lemmas.List.{append-nil, drop_all, drop_more}
use Rattle.pdl_machine.specs.NiceCalls.{filled_in, number_before}

-- a text stands before what the rest of the pattern gives with the numbers that are left
pub record IsFilled (pattern : List ℕ) (ns : List ℤ) (i used : ℕ) (text : List ℕ) : Type 0 where
  pub is : filled_in pattern ns ≡ option_map (λ more. text ++ more) (filled_in (drop i pattern) (drop used ns))
  pub within : used ≤ length ns

moved_front : (text more : List ℕ) (o : Option (List ℕ)) → option_map (λ t. text ++ t) (option_map (λ t. more ++ t) o) ≡ option_map (λ t. (text ++ more) ++ t) o
moved_front text more None = refl
moved_front text more (Some rest) = let e : (text ++ more) ++ rest ≡ text ++ (more ++ rest) = rw append_assoc refl in ap Some (sym e)

at_mark : (cs : List ℕ) (ns : List ℤ) → filled_in (35 ∷ cs) ns ≡ number_before ns (filled_in cs)
unfolding filled_in
at_mark cs ns = refl

at_other : (c : ℕ) (cs : List ℕ) (ns : List ℤ) → c ≢ 35 → filled_in (c ∷ cs) ns ≡ option_map (λ t. c ∷ t) (filled_in cs ns)
unfolding filled_in
at_other c cs ns other = rw (ne_eqb c 35 other) refl

at_end : (ns : List ℤ) → length ns ≡ 0 → filled_in [] ns ≡ Some []
unfolding filled_in
at_end [] h = refl
at_end (n ∷ ns) h = absurd (omega arith)

too_many : (ns : List ℤ) → 0 < length ns → filled_in [] ns ≡ None
unfolding filled_in
too_many [] h = absurd (omega arith)
too_many (n ∷ ns) h = refl

-- a byte that stays
pub filled_byte : (pattern : List ℕ) (ns : List ℤ) (i used : ℕ) (text new : List ℕ) → i < length pattern → get_or pattern i 0 ≢ 35
    → new ≡ text ++ get_or pattern i 0 ∷ [] → IsFilled pattern ns i used text → IsFilled pattern ns (i + 1) used new
filled_byte pattern ns i used text new h other e f =
    let c = get_or pattern i 0 in
    let step : filled_in (drop i pattern) (drop used ns) ≡ option_map (λ t. c ∷ t) (filled_in (drop (i + 1) pattern) (drop used ns)) =
    ap (λ (p : List ℕ). filled_in p (drop used ns)) (drop_more pattern i 0 h) ∙ at_other c (drop (i + 1) pattern) (drop used ns) other in
    let is : filled_in pattern ns ≡ option_map (λ t. (text ++ c ∷ []) ++ t) (filled_in (drop (i + 1) pattern) (drop used ns)) =
    f.is ∙ ap (option_map (λ t. text ++ t)) step ∙ moved_front text (c ∷ []) (filled_in (drop (i + 1) pattern) (drop used ns)) in
    subst (λ (t : List ℕ). IsFilled pattern ns (i + 1) used t) (sym e) (record { is = is; within = f.within })

-- a number in place of a `#`
pub filled_number : (pattern : List ℕ) (ns : List ℤ) (i used : ℕ) (text new : List ℕ) → i < length pattern → get_or pattern i 0 ≡ 35 → used < length ns
    → new ≡ text ++ signed_decimal (get_or ns used (pos 0)) → IsFilled pattern ns i used text → IsFilled pattern ns (i + 1) (used + 1) new
filled_number pattern ns i used text new h mark some e f =
    let n = get_or ns used (pos 0) in
    let rest = drop (i + 1) pattern in
    let front : filled_in (drop i pattern) (drop used ns) ≡ filled_in (35 ∷ rest) (drop used ns) =
    ap (λ (p : List ℕ). filled_in p (drop used ns)) (drop_more pattern i 0 h ∙ ap (λ (c : ℕ). c ∷ rest) mark) in
    let step : filled_in (drop i pattern) (drop used ns) ≡ option_map (λ t. signed_decimal n ++ t) (filled_in rest (drop (used + 1) ns)) =
    front ∙ at_mark rest (drop used ns) ∙ ap (λ (m : List ℤ). number_before m (filled_in rest)) (drop_more ns used (pos 0) some) in
    let is : filled_in pattern ns ≡ option_map (λ t. (text ++ signed_decimal n) ++ t) (filled_in rest (drop (used + 1) ns)) =
    f.is ∙ ap (option_map (λ t. text ++ t)) step ∙ moved_front text (signed_decimal n) (filled_in rest (drop (used + 1) ns)) in
    subst (λ (t : List ℕ). IsFilled pattern ns (i + 1) (used + 1) t) (sym e) (record { is = is; within = omega arith })

-- a `#` without a number
pub filled_short : (pattern : List ℕ) (ns : List ℤ) (i used : ℕ) (text : List ℕ) → i < length pattern → get_or pattern i 0 ≡ 35 → length ns ≤ used
    → IsFilled pattern ns i used text → filled_in pattern ns ≡ None
filled_short pattern ns i used text h mark none f =
    let rest = drop (i + 1) pattern in
    let front : filled_in (drop i pattern) (drop used ns) ≡ filled_in (35 ∷ rest) [] =
    ap (λ (p : List ℕ). filled_in p (drop used ns)) (drop_more pattern i 0 h ∙ ap (λ (c : ℕ). c ∷ rest) mark) ∙ ap (filled_in (35 ∷ rest)) (drop_all used ns none) in
    f.is ∙ ap (option_map (λ t. text ++ t)) (front ∙ at_mark rest [])

-- all numbers stand in the pattern
pub filled_all : (pattern : List ℕ) (ns : List ℤ) (i used : ℕ) (text : List ℕ) → length pattern ≤ i → length ns ≤ used → IsFilled pattern ns i used text
    → filled_in pattern ns ≡ Some text
filled_all pattern ns i used text h all f =
    let rest : filled_in (drop i pattern) (drop used ns) ≡ Some [] =
    ap (λ (p : List ℕ). filled_in p (drop used ns)) (drop_all i pattern h) ∙ ap (filled_in []) (drop_all used ns all) ∙ at_end [] refl in
    f.is ∙ ap (option_map (λ t. text ++ t)) rest ∙ ap Some (append-nil text)

-- a number is left
pub filled_more : (pattern : List ℕ) (ns : List ℤ) (i used : ℕ) (text : List ℕ) → length pattern ≤ i → used < length ns → IsFilled pattern ns i used text
    → filled_in pattern ns ≡ None
filled_more pattern ns i used text h some f =
    let left : filled_in [] (drop used ns) ≡ None = ap (filled_in []) (drop_more ns used (pos 0) some) ∙ too_many (get_or ns used (pos 0) ∷ drop (used + 1) ns) (omega arith) in
    let rest : filled_in (drop i pattern) (drop used ns) ≡ None = ap (λ (p : List ℕ). filled_in p (drop used ns)) (drop_all i pattern h) ∙ left in
    f.is ∙ ap (option_map (λ t. text ++ t)) rest
