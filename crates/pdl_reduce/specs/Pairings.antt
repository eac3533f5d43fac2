-- Pairings of two arrays by a signature (PDL::Primitive, inner, outer and matmult;
-- PDL::Broadcasting).
use Rattle.std.specs.Prelude.{ℕ, ℤ, ◌*ℤ◌, List, [], ◌∷◌, map, drop, get_or, slice_index_or, Result, Ok, Err}
use Rattle.std.specs.List.{range_with_len}
use Rattle.pdl_elem.specs.Numbers.{wrapped}
use Rattle.pdl_shape.specs.Shape.{size_of, coordinates_of}
use Rattle.pdl_buf.specs.declared.made.Made.{Made}
use Rattle.pdl_buf.specs.Made.{broadcast_element}
use Rattle.pdl_sig.specs.declared.Resolved.{Resolved}
use Rattle.pdl_sig.specs.declared.Signature.{Signature}
use Rattle.pdl_sig.specs.Given.{shape_of}
use Rattle.pdl_sig.specs.Known as known
use Rattle.pdl_sig.specs.Resolution.{Unresolved, resolution}
use Rattle.pdl_reduce.specs.declared.Pairing.{Pairing}
use Rattle.pdl_reduce.specs.declared.Pairing.TheVariants.{Inner, Outer, Matmult}
use Rattle.pdl_reduce.specs.Folds.{total}
use Rattle.pdl_reduce.specs.Refusals.{ReduceRefusal, refusal_of}

-- the signature of a pairing: `a(n); b(n); [o]c()`, `a(n); b(m); [o]c(n,m)` and
-- `a(t,h); b(w,t); [o]c(w,h)`
abbrev pub signature_of : Pairing → Signature
signature_of Inner = known.inner
signature_of Outer = known.outer_product
signature_of Matmult = known.matmult

-- the sum of what a function gives for the numbers below n
abbrev pub sum_below : (n : ℕ) → (ℕ → ℤ) → ℤ
sum_below n f = total (map f (range_with_len 0 n))

-- what two arrays, as functions of coordinates, give at coordinates of the result, by the size of
-- the first name: the sum over n of a(n) * b(n), the product a(n) * b(m), and the sum over t of
-- a(t,h) * b(w,t), each with the coordinates of the broadcast behind these
abbrev pub paired_at : Pairing → (size : ℕ) → (a b : List ℕ → ℤ) → List ℕ → ℤ
paired_at Inner n a b cs = sum_below n (λ i. a (i ∷ cs) *ℤ b (i ∷ cs))
paired_at Outer n a b cs =
    a (get_or cs 0 0 ∷ drop 2 cs) *ℤ b (get_or cs 1 0 ∷ drop 2 cs)
paired_at Matmult t a b cs =
    sum_below t (λ k. a (k ∷ get_or cs 1 0 ∷ drop 2 cs) *ℤ b (get_or cs 0 0 ∷ k ∷ drop 2 cs))

-- the dimensions of the result
abbrev pub paired_dims : Resolved → List ℕ
paired_dims r = slice_index_or r.shapes 2 []

-- the element of the result at a position, at the generic type
abbrev pub paired_element : Pairing → Resolved → (a b : Made) → (position : ℕ) → ℤ
paired_element kind r a b p =
    let left = broadcast_element r.generic a in
    let right = broadcast_element r.generic b in
    let coordinates = coordinates_of (paired_dims r) p in
    wrapped r.generic (paired_at kind (slice_index_or r.sizes 0 1) left right coordinates)

-- the result of a pairing by what its call resolves to: an element at each position of the output
abbrev pub paired_by : Pairing → (a b : Made) → Result Resolved Unresolved
    → Result Made ReduceRefusal
paired_by kind a b (Err reason) = Err (refusal_of reason)
paired_by kind a b (Ok r) =
    let elems = map (paired_element kind r a b) (range_with_len 0 (size_of (paired_dims r))) in
    Ok (record { ty = r.generic; dims = paired_dims r; elems = elems })

-- a pairing of two arrays: the sum, or for `outer` the product, that its signature names, or the
-- first refusal
abbrev pub paired : Pairing → (a b : Made) → Result Made ReduceRefusal
paired kind a b = paired_by kind a b (resolution (signature_of kind) (shape_of a ∷ shape_of b ∷ []))
