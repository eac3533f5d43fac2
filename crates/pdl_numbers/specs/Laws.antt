-- What holds of what a triple shows, and of what numbers come to. Each is the contract of a public
-- function.
use Rattle.std.specs.Prelude.{◌≡◌, ◌<◌, ◌≤◌, ◌+◌, ℕ, ℤ, pos, List, ◌++◌, length, take, drop, fold, get_or, All}
use Rattle.pdl_elem.specs.declared.Ty.{Ty}
use Rattle.pdl_elem.specs.Numbers.{wrapped}
use Rattle.pdl_elem.specs.Types.{InRange}
use Rattle.pdl_shape.specs.Shape.{size_of}
use Rattle.pdl_shape.specs.Triple.{Triple, IsTriple, Reaches}
use Rattle.pdl_numbers.specs.Prefixes.{wrapped_prefixes}
use Rattle.pdl_numbers.specs.Reads.{HasRead}
use Rattle.pdl_numbers.specs.Shown.{place_at, shown_through}

-- One number is shown for each position: that at the place of the position, which lies among the
-- numbers where the triple reaches no further. What was read of the first positions from one on is
-- that part of what is shown. What is shown of numbers in a range is in it.
pub record ShownLaws : Type 0 where
  pub count : (t : Triple) (es : List ℤ) → length (shown_through t es) ≡ size_of t.dims
  pub element : (t : Triple) (es : List ℤ) (p : ℕ) → p < size_of t.dims →
      get_or (shown_through t es) p (pos 0) ≡ get_or es (place_at t p) (pos 0)
  pub below : (t : Triple) (n p : ℕ) → IsTriple t → Reaches t n → p < size_of t.dims →
      place_at t p < n
  pub block : (t : Triple) (es rs : List ℤ) (first count : ℕ) → length rs ≡ count →
      first + count ≤ size_of t.dims → HasRead t es first count rs →
      rs ≡ take count (drop first (shown_through t es))
  pub in_range : (ty : Ty) (t : Triple) (es : List ℤ) → IsTriple t → Reaches t (length es) →
      All (InRange ty) es → All (InRange ty) (shown_through t es)

-- There are as many prefixes as numbers. At each place stands what the numbers up to there come to,
-- wrapped. Behind other numbers they go on from what those come to.
pub record PrefixLaws : Type 0 where
  pub as_many : (ty : Ty) (f : ℤ → ℤ → ℤ) (start : ℤ) (xs : List ℤ) →
      length (wrapped_prefixes ty f start xs) ≡ length xs
  pub at : (ty : Ty) (f : ℤ → ℤ → ℤ) (start : ℤ) (xs : List ℤ) (i : ℕ) → i < length xs →
      get_or (wrapped_prefixes ty f start xs) i (pos 0)
      ≡ wrapped ty (fold f start (take (i + 1) xs))
  pub behind : (ty : Ty) (f : ℤ → ℤ → ℤ) (start : ℤ) (xs ys : List ℤ) →
      wrapped_prefixes ty f start (xs ++ ys)
      ≡ wrapped_prefixes ty f start xs ++ wrapped_prefixes ty f (fold f start xs) ys
