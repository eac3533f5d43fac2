-- What a reduction makes of an array: as many numbers as its dimensions say.
use Rattle.std.proofs.Common.{◌≡◌, ℕ, zero, suc, ◌+◌, ◌*◌, ◌<◌, ◌≤◌, ℤ, List, [], ◌∷◌, ◌++◌, length, take, drop, map, arith, refl, ap, ap₂, sym, ◌∙◌, length-append}
use Rattle.std.specs.List.{flat_map, range_with_len}
use Rattle.std.proofs.lemmas.List.{flat_map_more, length-take-le, length-drop}
use Rattle.std.proofs.lemmas.List.FromFn.{map-range_with_len_more}
use Rattle.std.proofs.Math.Nat.{mul_comm, mul-le-mul_right}
use Rattle.pdl_elem.specs.declared.Ty.{Ty}
use Rattle.pdl_shape.specs.Shape.{size_of}
use Rattle.pdl_reduce.specs.declared.Reduction.{Reduction}
use Rattle.pdl_reduce.specs.declared.Reduction.TheVariants.{Sumover, Prodover, Maximum, Minimum, MaximumInd, MinimumInd, Cumusumover, Cumuprodover}
use Rattle.pdl_reduce.specs.Reductions.{lists, reduced_dims, reduced_row, sum_type, width}
use Rattle.pdl_elem.specs.Numbers.{wrapped}
use Rattle.pdl_reduce.specs.Folds.{total, product}
use Rattle.pdl_reduce.proofs.FoldPrefixes.{prefixes_length}

pub size_split : (ds : List ℕ) → size_of (drop 1 ds) * width ds ≡ size_of ds
size_split [] = refl
size_split (d ∷ ds) = mul_comm (size_of ds) d

-- one list more
pub lists_more : (count size : ℕ) (xs : List ℤ) → lists (count + 1) size xs ≡ lists count size xs ++ take size (drop (count * size) xs) ∷ []
lists_more count size xs = map-range_with_len_more (λ i. take size (drop (i * size) xs)) 0 count count (omega arith)

pub made_more : (f : List ℤ → List ℤ) (count size : ℕ) (xs made next : List ℤ) → made ≡ flat_map f (lists count size xs) → next ≡ made ++ f (take size (drop (count * size) xs))
    → next ≡ flat_map f (lists (count + 1) size xs)
made_more f count size xs made next e g =
    g ∙ ap (λ ys. ys ++ f (take size (drop (count * size) xs))) e
    ∙ flat_map_more f [] (lists count size xs) (take size (drop (count * size) xs))
    ∙ ap (flat_map f) (sym (lists_more count size xs))

-- how many numbers a reduction makes of so many
abbrev pub row_size : Reduction → ℕ → ℕ
row_size Cumusumover n = n
row_size Cumuprodover n = n
row_size _ n = 1

row_length : (kind : Reduction) (ty : Ty) (xs : List ℤ) → length (reduced_row kind ty xs) ≡ row_size kind (length xs)
row_length Sumover ty xs = refl
row_length Prodover ty xs = refl
row_length Maximum ty xs = refl
row_length Minimum ty xs = refl
row_length MaximumInd ty xs = refl
row_length MinimumInd ty xs = refl
row_length Cumusumover ty xs = prefixes_length (λ ys. wrapped (sum_type ty) (total ys)) xs
row_length Cumuprodover ty xs = prefixes_length (λ ys. wrapped (sum_type ty) (product ys)) xs

dims_size : (kind : Reduction) (ds : List ℕ) → size_of (reduced_dims kind ds) ≡ size_of (drop 1 ds) * row_size kind (width ds)
dims_size Sumover ds = omega arith
dims_size Prodover ds = omega arith
dims_size Maximum ds = omega arith
dims_size Minimum ds = omega arith
dims_size MaximumInd ds = omega arith
dims_size MinimumInd ds = omega arith
dims_size Cumusumover ds = mul_comm (width ds) (size_of (drop 1 ds))
dims_size Cumuprodover ds = mul_comm (width ds) (size_of (drop 1 ds))

-- lists that each become so many numbers
pieces_length : (f : List ℤ → List ℤ) (row : ℕ → List ℤ) (a n m : ℕ) → ((i : ℕ) → i < a + n → length (f (row i)) ≡ m) → length (flat_map f (map row (range_with_len a n))) ≡ n * m
pieces_length f row a zero m h = omega arith
pieces_length f row a (suc n) m h =
    length-append (f (row a)) (flat_map f (map row (range_with_len (a + 1) n)))
    ∙ ap₂ (λ (x y : ℕ). x + y) (h a (omega arith)) (pieces_length f row (a + 1) n m (λ i below. h i (omega (arith, below))))
    ∙ omega arith

pub row_inside : (i n size : ℕ) → i < n → i * size + size ≤ n * size
row_inside i n size h = omega (arith, mul-le-mul_right size h)

pub made_length : (kind : Reduction) (ty : Ty) (count size : ℕ) (xs : List ℤ) → count * size ≡ length xs → length (flat_map (reduced_row kind ty) (lists count size xs)) ≡ count * row_size kind size
made_length kind ty count size xs e =
    pieces_length (reduced_row kind ty) (λ i. take size (drop (i * size) xs)) 0 count (row_size kind size)
    (λ i below.
    let inside : i * size + size ≤ length xs = omega (arith, row_inside i count size (omega (arith, below)), e) in
    let full : length (take size (drop (i * size) xs)) ≡ size = length-take-le size (drop (i * size) xs) (omega (arith, length-drop (i * size) xs, inside)) in
    row_length kind ty (take size (drop (i * size) xs)) ∙ ap (row_size kind) full)

pub result_length : (kind : Reduction) (ty : Ty) (ds : List ℕ) (xs : List ℤ) → length xs ≡ size_of ds
    → length (flat_map (reduced_row kind ty) (lists (size_of (drop 1 ds)) (width ds) xs)) ≡ size_of (reduced_dims kind ds)
result_length kind ty ds xs e = made_length kind ty (size_of (drop 1 ds)) (width ds) xs (size_split ds ∙ sym e) ∙ sym (dims_size kind ds)
