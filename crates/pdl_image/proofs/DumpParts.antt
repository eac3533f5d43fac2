-- Numbers part by part, and parts of those that are kept.
use Rattle.std.proofs.Common.{◌≡◌, ℕ, suc, ◌+◌, ◌-◌, ◌*◌, ◌<◌, ◌≤◌, min, Bool, true, false, cond, List, [], ◌∷◌, ◌++◌, length, take, drop, get_or, map, ℤ, pos, refl, ap, ap₂, sym, ◌∙◌, subst, arith, append_assoc}
use Rattle.std.specs.Prelude.{◌||◌, Ok, Err}
use Rattle.std.specs.Fmt.{signed_decimal}
use Rattle.std.specs.List.{All, list_any}
use Rattle.std.proofs.lemmas.Grind.{flat_map-append}
use Rattle.std.proofs.lemmas.List.{drop-drop, drop-take, drop_all, length-take, length-take-le, length-drop, map-append, take-append-drop, take-take, take_all}
use Rattle.std.proofs.lemmas.List.Folds.{list_any-append}
use Rattle.std.proofs.Math.Seq.{take-add}
use Rattle.pdl_lemmas.specs.Tests.{by_lt}
use Rattle.pdl_image.specs.declared.ImageFault.{ImageFault}
use Rattle.pdl_image.specs.declared.TheConstants.{PART}
use Rattle.pdl_image.specs.Lines.{Line, least_line, more_text, numbers_text}
use Rattle.pdl_image.specs.Dump.{as_listed, is_least, least_lines}
use Rattle.pdl_image.specs.Adding.{Adds, part_count}
use Rattle.pdl_image.proofs.AddingLemmas.{adds_first, adds_then}
use Rattle.pdl_image.proofs.DumpFilling.{least-append}

-- ---- parts

-- the numbers of one part more
pub part_more : {A : Type 0} (xs : List A) (p : ℕ) → take (PART * (p + 1)) xs ≡ take (PART * p) xs ++ take PART (drop (PART * p) xs)
part_more xs p = ap (λ (n : ℕ). take n xs) (one_more p) ∙ take-add (PART * p) PART xs
  where
    one_more : (p : ℕ) → PART * (p + 1) ≡ PART * p + PART
    one_more p = omega arith

-- the numbers of all parts
pub parts_whole : {A : Type 0} (xs : List A) (p : ℕ) → p ≡ part_count (length xs) → take (PART * p) xs ≡ xs
parts_whole xs p is = take_all (PART * p) xs (omega (arith, is))

-- the parts before one, it, and the others
parts_rest : {A : Type 0} (xs : List A) (p : ℕ) → xs ≡ (take (PART * p) xs ++ take PART (drop (PART * p) xs)) ++ drop (PART * (p + 1)) xs
parts_rest xs p = sym (take-append-drop (PART * (p + 1)) xs) ∙ ap (λ t. t ++ drop (PART * (p + 1)) xs) (part_more xs p)

-- ---- whether some number passes

pub any_more : (f : ℤ → Bool) (ns : List ℤ) (p : ℕ) → list_any f (take (PART * p) ns) ≡ false → list_any f (take PART (drop (PART * p) ns)) ≡ false
    → list_any f (take (PART * (p + 1)) ns) ≡ false
any_more f ns p before none =
    ap (list_any f) (part_more ns p) ∙ list_any-append f (take (PART * p) ns) (take PART (drop (PART * p) ns)) ∙ ap₂ (λ a b. a || b) before none

pub any_found : (f : ℤ → Bool) (ns : List ℤ) (p : ℕ) → list_any f (take (PART * p) ns) ≡ false → list_any f (take PART (drop (PART * p) ns)) ≡ true
    → list_any f ns ≡ true
any_found f ns p before found =
    let front = take (PART * p) ns in
    let part = take PART (drop (PART * p) ns) in
    let rest = drop (PART * (p + 1)) ns in
    ap (list_any f) (parts_rest ns p) ∙ list_any-append f (front ++ part) rest
    ∙ ap (λ a. a || list_any f rest) (list_any-append f front part ∙ ap₂ (λ a b. a || b) before found)

-- ---- texts

pub text_more : (old line new : List ℕ) (ns : List ℤ) (p : ℕ) → line ≡ old ++ more_text (map as_listed (take (PART * p) ns))
    → new ≡ line ++ more_text (map as_listed (take PART (drop (PART * p) ns))) → new ≡ old ++ more_text (map as_listed (take (PART * (p + 1)) ns))
text_more old line new ns p before pushed =
    let front = take (PART * p) ns in
    let part = take PART (drop (PART * p) ns) in
    pushed ∙ ap (λ t. t ++ more_text (map as_listed part)) before
    ∙ append_assoc old (more_text (map as_listed front)) (more_text (map as_listed part))
    ∙ ap (λ t. old ++ t) (sym (ap (λ ms. more_text (map as_listed ms)) (part_more ns p) ∙ ap more_text (map-append as_listed front part)
    ∙ flat_map-append (λ n. 44 ∷ signed_decimal n) (map as_listed front) (map as_listed part)))

pub listed_text : (old line new : List ℕ) (ns : List ℤ) → 0 < length ns → line ≡ old ++ signed_decimal (as_listed (get_or ns 0 (pos 0)))
    → new ≡ line ++ more_text (map as_listed (take (length ns) (drop 1 ns))) → new ≡ old ++ numbers_text (map as_listed ns)
listed_text old line new [] some first more = absurd (omega arith)
listed_text old line new (n ∷ ns) some first more =
    more ∙ ap (λ ms. line ++ more_text (map as_listed ms)) (take_all (suc (length ns)) ns (omega arith))
    ∙ ap (λ t. t ++ more_text (map as_listed ns)) first ∙ append_assoc old (signed_decimal (as_listed n)) (more_text (map as_listed ns))

-- ---- lines of least numbers

leasts_more : (name : List ℕ) (first : ℕ) (ns : List ℤ) (p : ℕ) → p < part_count (length ns)
    → least_lines name first (take (PART * p) ns ++ take PART (drop (PART * p) ns))
    ≡ least_lines name first (take (PART * p) ns) ++ least_lines name (first + PART * p) (take PART (drop (PART * p) ns))
leasts_more name first ns p below =
    let front = take (PART * p) ns in
    let part = take PART (drop (PART * p) ns) in
    least-append name first front part
    ∙ ap (λ (k : ℕ). least_lines name first front ++ least_lines name (first + k) part) (length-take-le (PART * p) ns (omega (arith, below)))

pub leasts_added : (old mid new name : List ℕ) (first : ℕ) (ns part : List ℤ) (p : ℕ) (u : Unit {0}) → part ≡ take PART (drop (PART * p) ns) → p < part_count (length ns)
    → Adds old mid (least_lines name first (take (PART * p) ns)) (Ok tt) → Adds mid new (least_lines name (first + PART * p) part) (Ok u)
    → Adds old new (least_lines name first (take (PART * (p + 1)) ns)) (Ok tt)
leasts_added old mid new name first ns part p u is below before added =
    let front : List Line = least_lines name first (take (PART * p) ns) in
    subst (λ ls. Adds old new ls (Ok tt))
    (ap (λ ms. front ++ least_lines name (first + PART * p) ms) is ∙ sym (ap (least_lines name first) (part_more ns p) ∙ leasts_more name first ns p below))
    (adds_then old mid new front (least_lines name (first + PART * p) part) tt (Ok u) before added)

pub leasts_refused : (old mid new name : List ℕ) (first : ℕ) (ns part : List ℤ) (p : ℕ) (e : ImageFault) → part ≡ take PART (drop (PART * p) ns) → p < part_count (length ns)
    → Adds old mid (least_lines name first (take (PART * p) ns)) (Ok tt) → Adds mid new (least_lines name (first + PART * p) part) (Err e)
    → Adds old new (least_lines name first ns) (Err e)
leasts_refused old mid new name first ns part p e is below before refused =
    let before_it = take (PART * p) ns in
    let it = take PART (drop (PART * p) ns) in
    let rest = drop (PART * (p + 1)) ns in
    let front : List Line = least_lines name first before_it in
    let one : List Line = least_lines name (first + PART * p) part in
    let more : List Line = least_lines name (first + length (before_it ++ it)) rest in
    let whole : least_lines name first ns ≡ (front ++ one) ++ more =
    ap (least_lines name first) (parts_rest ns p) ∙ least-append name first (before_it ++ it) rest
    ∙ ap (λ ls. ls ++ more) (leasts_more name first ns p below ∙ ap (λ ms. front ++ least_lines name (first + PART * p) ms) (sym is)) in
    subst (λ ls. Adds old new ls (Err e)) (sym whole)
    (adds_first old new (front ++ one) more e (adds_then old mid new front one tt (Err e) before refused))

pub no_leasts : (name : List ℕ) (first : ℕ) (ns : List ℤ) → All (λ n. is_least n ≡ false) ns → least_lines name first ns ≡ []
no_leasts name first [] none = refl
no_leasts name first (n ∷ ns) none =
    let front : List Line = least_lines name (first + 1) ns in
    ap (λ b. cond b (least_line name first ∷ front) front) (none 0 (pos 0) (omega arith))
    ∙ no_leasts name (first + 1) ns (λ k d h. none (suc k) d (omega arith))

-- ---- some of a list

-- what is taken of what is taken
taken_twice : (xs : List ℤ) (most n : ℕ) → take most (take n xs) ≡ take (min n most) xs
taken_twice xs most n =
    by_lt most n
    (λ below. take-take most n xs (omega arith) ∙ ap (λ (k : ℕ). take k xs) (lesser most n below))
    (λ past. take_all most (take n xs) (omega (arith, length-take n xs)) ∙ ap (λ (k : ℕ). take k xs) (all most n past))
  where
    lesser : (most n : ℕ) → most < n → most ≡ min n most
    lesser most n h = omega arith

    all : (most n : ℕ) → n ≤ most → n ≡ min n most
    all most n h = omega arith

-- what is left of what is taken
left_taken : (xs : List ℤ) (at count n : ℕ) → n ≡ min at count → drop at (take count xs) ≡ take (count - n) (drop n xs)
left_taken xs at count n is =
    by_lt at count
    (λ below. ap (λ (k : ℕ). drop at (take k xs)) (joined at count below) ∙ drop-take at (count - at) xs
    ∙ ap (λ (k : ℕ). take (count - k) (drop k xs)) (sym (inside at count n is below)))
    (λ past. drop_all at (take count xs) (omega (arith, length-take count xs)) ∙ ap (λ (k : ℕ). take k (drop n xs)) (none_left at count n is past))
  where
    joined : (at count : ℕ) → at < count → count ≡ at + (count - at)
    joined at count h = omega arith

    inside : (at count n : ℕ) → n ≡ min at count → at < count → n ≡ at
    inside at count n e h = omega arith

    none_left : (at count n : ℕ) → n ≡ min at count → count ≤ at → 0 ≡ count - n
    none_left at count n e h = omega arith

pub cut_is : (xs : List ℤ) (first count at most n : ℕ) → n ≡ min at count
    → take (min (count - n) most) (drop (first + n) xs) ≡ take most (drop at (take count (drop first xs)))
cut_is xs first count at most n is =
    ap (take (min (count - n) most)) (sym (drop-drop n first xs))
    ∙ sym (ap (take most) (left_taken (drop first xs) at count n is) ∙ taken_twice (drop n (drop first xs)) most (count - n))

pub some_long : (xs : List ℤ) (first count : ℕ) → first + count ≤ length xs → length (take count (drop first xs)) ≡ count
some_long xs first count within = length-take-le count (drop first xs) (omega (arith, length-drop first xs))
