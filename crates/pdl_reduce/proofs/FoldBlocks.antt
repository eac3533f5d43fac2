-- Elements that are read in blocks.
use Rattle.std.proofs.Common.{◌≡◌, ℕ, ◌+◌, ◌-◌, ◌≤◌, ℤ, List, ◌++◌, length, take, drop, fold, All, arith, Option, Some, None, ap, ap₂, sym, subst, ◌∙◌, append_assoc, length-drop, take-append-drop}
use Rattle.std.specs.Prelude.{Bool, true, false, ◌&&◌, ◌||◌, position}
use Rattle.std.specs.List.{list_all, list_any}
use Rattle.std.specs.Ordering.{int_eq}
use Rattle.std.specs.Option.{unwrap_or}
use Rattle.std.proofs.lemmas.List.{drop-drop, length-take-le}
use Rattle.std.proofs.lemmas.List.Elements.{All-append}
use Rattle.std.proofs.lemmas.List.Folds.{list_all-append, list_any-append}
use Rattle.std.proofs.lemmas.List.Sums.{fold-append}
use Rattle.std.proofs.Math.Seq.{take-add}
use Rattle.pdl_lemmas.specs.Lists.{position_none, position_after, position_before}
use Rattle.pdl_elem.specs.declared.Ty.{Ty}
use Rattle.pdl_numbers.specs.Laws.{PrefixLaws}
use Rattle.pdl_numbers.specs.Prefixes.{wrapped_prefixes}
use Rattle.pdl_reduce.specs.Folds.{first_place}

-- the elements before a block, and the block
pub block_more : (xs : List ℤ) (first k n : ℕ) → take (k + n) (drop first xs) ≡ take k (drop first xs) ++ take n (drop (first + k) xs)
block_more xs first k n = take-add k n (drop first xs) ∙ ap (λ ys. take k (drop first xs) ++ take n ys) (drop-drop k first xs)

pub fold_next : (f : ℤ → ℤ → ℤ) (a s r : ℤ) (xs : List ℤ) (first k n : ℕ) → s ≡ fold f a (take k (drop first xs)) → r ≡ fold f s (take n (drop (first + k) xs))
    → r ≡ fold f a (take (k + n) (drop first xs))
fold_next f a s r xs first k n e g =
    g ∙ ap (λ z. fold f z (take n (drop (first + k) xs))) e
    ∙ sym (fold-append f a (take k (drop first xs)) (take n (drop (first + k) xs)))
    ∙ ap (fold f a) (sym (block_more xs first k n))

pub all_next : (P : ℤ → Type 0) (xs : List ℤ) (first k n : ℕ) → All P (take k (drop first xs)) → All P (take n (drop (first + k) xs)) → All P (take (k + n) (drop first xs))
all_next P xs first k n h g = subst (All P) (sym (block_more xs first k n)) (All-append P (take k (drop first xs)) (take n (drop (first + k) xs)) h g)

-- what the elements up to each place before a block come to, and of the block
pub made_next : PrefixLaws → (t : Ty) (f : ℤ → ℤ → ℤ) (a s : ℤ) (xs old made next : List ℤ) (first k n : ℕ) → s ≡ fold f a (take k (drop first xs))
    → made ≡ old ++ wrapped_prefixes t f a (take k (drop first xs))
    → next ≡ made ++ wrapped_prefixes t f s (take n (drop (first + k) xs))
    → next ≡ old ++ wrapped_prefixes t f a (take (k + n) (drop first xs))
made_next laws t f a s xs old made next first k n e m g =
    let us : List ℤ = take k (drop first xs) in
    let vs : List ℤ = take n (drop (first + k) xs) in
    g ∙ ap₂ (λ (ps qs : List ℤ). ps ++ qs) m (ap (λ z. wrapped_prefixes t f z vs) e)
    ∙ append_assoc old (wrapped_prefixes t f a us) (wrapped_prefixes t f (fold f a us) vs)
    ∙ ap (λ zs. old ++ zs) (sym (laws.behind t f a us vs) ∙ ap (wrapped_prefixes t f a) (sym (block_more xs first k n)))

-- ---- the first place of a number

pub none_next : (t : ℤ → Bool) (xs : List ℤ) (first k n : ℕ) → position t (take k (drop first xs)) ≡ None → position t (take n (drop (first + k) xs)) ≡ None
    → position t (take (k + n) (drop first xs)) ≡ None
none_next t xs first k n e f = ap (position t) (block_more xs first k n) ∙ position_none t _ _ e f

-- the number that is looked for stands in the block after the first k elements
pub place_found : (x : ℤ) (xs : List ℤ) (first k n p count : ℕ) → k + n ≤ count → first + count ≤ length xs
    → position (λ y. int_eq y x) (take k (drop first xs)) ≡ None → position (λ y. int_eq y x) (take n (drop (first + k) xs)) ≡ Some p
    → k + p ≡ first_place x (take count (drop first xs))
place_found x xs first k n p count h l e f =
    let t : ℤ → Bool = λ y. int_eq y x in
    let ds : List ℤ = drop first xs in
    let size : length ds ≡ length xs - first = length-drop first xs in
    let front : position t (take (k + n) ds) ≡ Some (length (take k ds) + p) =
    ap (position t) (block_more xs first k n) ∙ position_after t (take k ds) (take n (drop (first + k) xs)) p e f in
    let counted : length (take k ds) ≡ k = length-take-le k ds (omega arith) in
    let split : take count ds ≡ take (k + n) ds ++ take (count - (k + n)) (drop (k + n) ds) =
    ap (λ (m : ℕ). take m ds) (omega arith) ∙ take-add (k + n) (count - (k + n)) ds in
    let found : position t (take count ds) ≡ Some (length (take k ds) + p) =
    ap (position t) split ∙ position_before t (take (k + n) ds) (take (count - (k + n)) (drop (k + n) ds)) (length (take k ds) + p) front in
    sym (ap (λ (o : Option ℕ). unwrap_or o 0) found ∙ ap (λ (m : ℕ). m + p) counted)

-- it stands nowhere
pub place_none : (x : ℤ) (xs : List ℤ) → position (λ y. int_eq y x) xs ≡ None → 0 ≡ first_place x xs
place_none x xs e = sym (ap (λ (o : Option ℕ). unwrap_or o 0) e)

-- ---- a test of all elements

front_all : (p : ℤ → Bool) (xs : List ℤ) (k n : ℕ) → list_all p (take (k + n) xs) ≡ (list_all p (take k xs) && list_all p (take n (drop k xs)))
front_all p xs k n = ap (list_all p) (take-add k n xs) ∙ list_all-append p (take k xs) (take n (drop k xs))

front_any : (p : ℤ → Bool) (xs : List ℤ) (k n : ℕ) → list_any p (take (k + n) xs) ≡ (list_any p (take k xs) || list_any p (take n (drop k xs)))
front_any p xs k n = ap (list_any p) (take-add k n xs) ∙ list_any-append p (take k xs) (take n (drop k xs))

pub all_more : (p : ℤ → Bool) (xs : List ℤ) (k n : ℕ) → list_all p (take k xs) ≡ true → list_all p (take n (drop k xs)) ≡ true → list_all p (take (k + n) xs) ≡ true
all_more p xs k n e f = front_all p xs k n ∙ ap₂ (λ (b c : Bool). b && c) e f

pub any_more : (p : ℤ → Bool) (xs : List ℤ) (k n : ℕ) → list_any p (take k xs) ≡ false → list_any p (take n (drop k xs)) ≡ false → list_any p (take (k + n) xs) ≡ false
any_more p xs k n e f = front_any p xs k n ∙ ap₂ (λ (b c : Bool). b || c) e f

pub not_all : (p : ℤ → Bool) (xs : List ℤ) (k n : ℕ) → list_all p (take k xs) ≡ true → list_all p (take n (drop k xs)) ≡ false → false ≡ list_all p xs
not_all p xs k n e f =
    let front : list_all p (take (k + n) xs) ≡ false = front_all p xs k n ∙ ap₂ (λ (b c : Bool). b && c) e f in
    sym (ap (list_all p) (sym (take-append-drop (k + n) xs)) ∙ list_all-append p (take (k + n) xs) (drop (k + n) xs) ∙ ap (λ (b : Bool). b && list_all p (drop (k + n) xs)) front)

pub some_any : (p : ℤ → Bool) (xs : List ℤ) (k n : ℕ) → list_any p (take k xs) ≡ false → list_any p (take n (drop k xs)) ≡ true → true ≡ list_any p xs
some_any p xs k n e f =
    let front : list_any p (take (k + n) xs) ≡ true = front_any p xs k n ∙ ap₂ (λ (b c : Bool). b || c) e f in
    sym (ap (list_any p) (sym (take-append-drop (k + n) xs)) ∙ list_any-append p (take (k + n) xs) (drop (k + n) xs) ∙ ap (λ (b : Bool). b || list_any p (drop (k + n) xs)) front)
