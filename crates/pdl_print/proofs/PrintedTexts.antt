-- Texts that grow by one piece, and lists that are cut into pieces.
use Rattle.std.proofs.Common.{◌≡◌, ℕ, zero, suc, ◌+◌, ◌-◌, ◌*◌, ◌/◌, ◌<◌, ◌≤◌, ℤ, List, [], ◌∷◌, ◌++◌, length, map, take, drop, get_or, arith, refl, ap, ap₂, sym, ◌∙◌, subst, append_assoc}
use Rattle.std.specs.Prelude.{flat_map}
use Rattle.std.specs.List.{join_with_byte}
use Rattle.std.specs.Ordering.{ord_max, nat_cmp}
use Rattle.std.proofs.Common.{max}
use Rattle.std.proofs.lemmas.Grind.{flat_map-append}
use Rattle.std.proofs.lemmas.List.{take_more, map-append, drop-drop, drop-take, take-take, get_or-take, length-take-le, length-drop, append-nil}
use Rattle.std.proofs.Math.Nat.{mul_assoc, mul_comm, add-zero}
use Rattle.std.proofs.lemmas.Nat.{div-mul-add}
use Rattle.pdl_shape.specs.Shape.{size_of}
use Rattle.pdl_print.specs.Printed.{pieces, lines, block, bracketed}

-- ---- joining

join_next : (c : ℕ) (x : List ℕ) (xs : List (List ℕ)) (y : List ℕ) → join_with_byte c ((x ∷ xs) ++ y ∷ []) ≡ join_with_byte c (x ∷ xs) ++ c ∷ y
join_next c x [] y = refl
join_next c x (z ∷ xs) y = ap (λ t. x ++ c ∷ t) (join_next c z xs y) ∙ sym (append_assoc x (c ∷ join_with_byte c (z ∷ xs)) (c ∷ y))

-- one element more, after at least one
pub join_more : {A : Type 0} (c : ℕ) (f : A → List ℕ) (xs : List A) (i : ℕ) (d : A) → 0 < i → i < length xs
    → join_with_byte c (map f (take (i + 1) xs)) ≡ join_with_byte c (map f (take i xs)) ++ c ∷ f (get_or xs i d)
join_more c f [] i d some h = absurd (omega arith)
join_more c f (x ∷ xs) zero d some h = absurd (omega arith)
join_more c f (x ∷ xs) (suc i) d some h =
    ap (λ ys. join_with_byte c (map f ys)) (take_more (x ∷ xs) (suc i) d h)
    ∙ ap (join_with_byte c) (map-append f (x ∷ take i xs) (get_or (x ∷ xs) (suc i) d ∷ []))
    ∙ join_next c (f x) (map f (take i xs)) (f (get_or (x ∷ xs) (suc i) d))

-- a separator and a piece after what is there
pub grown : (old text sep more : List ℕ) → ((old ++ text) ++ sep) ++ more ≡ old ++ (text ++ (sep ++ more))
grown old text sep more = append_assoc (old ++ text) sep more ∙ append_assoc old text (sep ++ more)

-- ---- elements from a position on

pub length_from : (es : List ℤ) (first count : ℕ) → first + count ≤ length es → length (take count (drop first es)) ≡ count
length_from es first count h = length-take-le count (drop first es) (omega (arith, length-drop first es))

-- ---- pieces

pieces_at : (count n at : ℕ) (es : List ℤ) → at ≡ count * n → pieces (suc count) n es ≡ pieces count n es ++ take n (drop at es) ∷ []
pieces_at zero n at es e =
    let z : at ≡ 0 = omega arith in
    ap (λ (k : ℕ). take n (drop k es) ∷ []) (sym z)
pieces_at (suc count) n at es e =
    let k : n + count * n ≡ at = omega arith in
    ap (λ t. take n es ∷ t) (pieces_at count n (count * n) (drop n es) refl
    ∙ ap (λ (ys : List ℤ). pieces count n (drop n es) ++ take n ys ∷ []) (drop-drop (count * n) n es ∙ ap (λ (j : ℕ). drop j es) k))

-- the text of one piece more
pub flat_more : (f : List ℤ → List ℕ) (count n : ℕ) (es : List ℤ)
    → flat_map f (pieces (count + 1) n es) ≡ flat_map f (pieces count n es) ++ f (take n (drop (count * n) es))
flat_more f count n es =
    let e : count + 1 ≡ suc count = omega arith in
    ap (λ (k : ℕ). flat_map f (pieces k n es)) e
    ∙ ap (flat_map f) (pieces_at count n (count * n) es refl)
    ∙ flat_map-append f (pieces count n es) (take n (drop (count * n) es) ∷ [])
    ∙ ap (λ t. flat_map f (pieces count n es) ++ t) (append-nil (f (take n (drop (count * n) es))))

pub piece_from : (es : List ℤ) (first total n at : ℕ) → at + n ≤ total → take n (drop at (take total (drop first es))) ≡ take n (drop (first + at) es)
piece_from es first total n at h =
    let e : at + (total - at) ≡ total = omega arith in
    ap (λ (k : ℕ). take n (drop at (take k (drop first es)))) (sym e)
    ∙ ap (take n) (drop-take at (total - at) (drop first es))
    ∙ take-take n (total - at) (drop at (drop first es)) (omega arith)
    ∙ ap (take n) (drop-drop at first es)

-- ---- sizes

pub size_taken : (ds : List ℕ) (k : ℕ) → k < length ds → size_of (take (suc k) ds) ≡ size_of (take k ds) * get_or ds k 0
size_taken [] k h = absurd (omega arith)
size_taken (d ∷ ds) zero h = omega arith
size_taken (d ∷ ds) (suc k) h = ap (λ (n : ℕ). d * n) (size_taken ds k (omega arith)) ∙ sym (mul_assoc d (size_of (take k ds)) (get_or ds k 0))

some_factor : (a b n : ℕ) → 0 < n → n ≡ a * b → 0 < b
some_factor a zero n h e = absurd (omega arith)
some_factor a (suc b) n h e = omega arith

other_factor : (a b n : ℕ) → 0 < n → n ≡ a * b → 0 < a
other_factor zero b n h e = absurd (omega arith)
other_factor (suc a) b n h e = omega arith

-- a block's members
pub record Members (ds : List ℕ) (around count members size : ℕ) : Type 0 where
  pub some : 0 < members
  pub some_size : 0 < size
  pub whole : count ≡ members * size
  pub is : size ≡ size_of (take (around + 1) ds)

pub members_of : (ds : List ℕ) (around count : ℕ) → around + 2 ≤ length ds → count ≡ size_of (take (around + 2) ds) → 0 < count
    → Members ds around count (get_or ds (around + 1) 0) (count / get_or ds (around + 1) 0)
members_of ds around count h e some =
    let m : ℕ = get_or ds (around + 1) 0 in
    let n : ℕ = size_of (take (around + 1) ds) in
    let s : around + 2 ≡ suc (around + 1) = omega arith in
    let f : count ≡ n * m = e ∙ ap (λ (k : ℕ). size_of (take k ds)) s ∙ size_taken ds (around + 1) (omega arith) in
    let pm : 0 < m = some_factor n m count some f in
    let q : count / m ≡ n = ap (λ (k : ℕ). k / m) (f ∙ sym (add-zero (n * m))) ∙ div-mul-add n m 0 pm in
    record {
      some = pm;
      some_size = subst (λ (k : ℕ). 0 < k) (sym q) (other_factor n m count some f);
      whole = f ∙ mul_comm n m ∙ ap (λ (k : ℕ). m * k) (sym q);
      is = q;
    }

-- the greater of two lengths
pub ord_max_is : (a b : ℕ) → ord_max nat_cmp a b ≡ max a b
ord_max_is a b = grind arith

-- the k-th of all but the first
pub rest_at : (xs : List ℕ) (k : ℕ) → k + 1 < length xs → get_or (take (length xs - 1) (drop 1 xs)) k 0 ≡ get_or xs (k + 1) 0
rest_at [] k h = absurd (omega arith)
rest_at (x ∷ xs) k h =
    let e : k + 1 ≡ suc k = omega arith in
    get_or-take (length (x ∷ xs) - 1) xs k 0 (omega arith) ∙ ap (λ (j : ℕ). get_or (x ∷ xs) j 0) (sym e)

-- the first alone
pub join_one : {A : Type 0} (c : ℕ) (f : A → List ℕ) (xs : List A) (d : A) → 0 < length xs → join_with_byte c (map f (take 1 xs)) ≡ f (get_or xs 0 d)
join_one c f [] d h = absurd (omega arith)
join_one c f (x ∷ xs) d h = refl

-- a bracket after what is there
pub closed : (old start inner close : List ℕ) → ((old ++ start) ++ inner) ++ close ≡ old ++ ((start ++ inner) ++ close)
closed old start inner close = append_assoc (old ++ start) inner close ∙ append_assoc old start (inner ++ close) ∙ ap (λ t. old ++ t) (sym (append_assoc start inner close))

-- ---- blocks

pub block_plane : (ds : List ℕ) (around indent first count rows size : ℕ) (es : List ℤ) → around ≡ 0 → rows ≡ get_or ds (around + 1) 0
    → size ≡ count / rows → count ≡ rows * size → first + count ≤ length es
    → bracketed indent (lines (indent + 1) rows size (take (rows * size) (drop first es))) ≡ block ds around indent (take count (drop first es))
block_plane ds around indent first count rows size es z r s w h =
    let part : List ℤ = take count (drop first es) in
    let second : rows ≡ get_or ds 1 0 = r ∙ ap (λ (k : ℕ). get_or ds (k + 1) 0) z in
    let each : size ≡ length part / get_or ds 1 0 = s ∙ ap₂ (λ (a b : ℕ). a / b) (sym (length_from es first count h)) second in
    ap (λ (k : ℕ). bracketed indent (lines (indent + 1) rows size (take k (drop first es)))) (sym w)
    ∙ ap₂ (λ (a b : ℕ). bracketed indent (lines (indent + 1) a b part)) second each
    ∙ ap (λ (k : ℕ). block ds k indent part) (sym z)

around_suc : (ds : List ℕ) (m indent members size : ℕ) (es : List ℤ) → members ≡ get_or ds (m + 2) 0 → size ≡ length es / members
    → bracketed indent (flat_map (block ds m (indent + 1)) (pieces members size es)) ≡ block ds (suc m) indent es
around_suc ds m indent members size es r s =
    ap₂ (λ (a b : ℕ). bracketed indent (flat_map (block ds m (indent + 1)) (pieces a b es))) r (s ∙ ap (λ (k : ℕ). length es / k) r)

pub block_around : (ds : List ℕ) (around indent members size : ℕ) (es : List ℤ) → 0 < around → members ≡ get_or ds (around + 1) 0 → size ≡ length es / members
    → bracketed indent (flat_map (block ds (around - 1) (indent + 1)) (pieces members size es)) ≡ block ds around indent es
block_around ds zero indent members size es h r s = absurd (omega arith)
block_around ds (suc m) indent members size es h r s =
    let e : suc m - 1 ≡ m = omega arith in
    let k : suc m + 1 ≡ m + 2 = omega arith in
    ap (λ (j : ℕ). bracketed indent (flat_map (block ds j (indent + 1)) (pieces members size es))) e
    ∙ around_suc ds m indent members size es (r ∙ ap (λ (j : ℕ). get_or ds j 0) k) s

-- one member more of what is there
pub member_more : (f : List ℤ → List ℕ) (old : List ℕ) (k n first total : ℕ) (es : List ℤ) → k * n + n ≤ total
    → (old ++ flat_map f (pieces k n (take total (drop first es)))) ++ f (take n (drop (first + k * n) es)) ≡ old ++ flat_map f (pieces (k + 1) n (take total (drop first es)))
member_more f old k n first total es h =
    let part : List ℤ = take total (drop first es) in
    append_assoc old (flat_map f (pieces k n part)) (f (take n (drop (first + k * n) es)))
    ∙ ap (λ (xs : List ℤ). old ++ (flat_map f (pieces k n part) ++ f xs)) (sym (piece_from es first total n (k * n) h))
    ∙ ap (λ (t : List ℕ). old ++ t) (sym (flat_more f k n part))
