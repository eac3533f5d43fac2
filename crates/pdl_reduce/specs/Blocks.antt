-- A step of the proof: the pairings are products of blocks of elements as matrices.
use Rattle.std.specs.Prelude.{◌≡◌, ◌<◌, ◌≤◌, ℕ, ◌+◌, ◌*◌, ◌/◌, ◌%◌, ◌==◌, ℤ, pos, ◌+ℤ◌, ◌*ℤ◌, if◌then◌else◌, List, length, get_or, map, take, drop, Option, Some, None}
use Rattle.std.specs.Int.{int_wrap, w64}
use Rattle.std.specs.List.{range_with_len}
use Rattle.pdl_elem.specs.declared.Ty.{Ty}
use Rattle.pdl_elem.specs.Numbers.{wrapped}
use Rattle.pdl_shape.specs.Broadcast.{BroadcastsTo}
use Rattle.pdl_shape.specs.Shape.{extent_limit, size_of}
use Rattle.pdl_shape.specs.Stretched.{stretched_position}
use Rattle.pdl_reduce.specs.Pairings.{sum_below}
use Rattle.pdl_reduce.specs.declared.Pairing.{Pairing}
use Rattle.pdl_reduce.specs.declared.Pairing.TheVariants.{Inner, Outer, Matmult}
use Rattle.pdl_reduce.specs.declared.matrices.Sizes.{Sizes}
use Rattle.pdl_reduce.specs.declared.sums.TheConstants.{SHORT}
use Rattle.pdl_reduce.specs.declared.sums.Turn.{Turn}

-- the coordinate that is used along a size: 0 along a size of 1, which is stretched
abbrev pub cut : (size coordinate : ℕ) → ℕ
cut size c = if size == 1 then 0 else c

-- the left block's number in row i and at depth k
abbrev pub left_at : Sizes → List ℤ → (i k : ℕ) → ℤ
left_at s left i k = get_or left (cut s.left_depth k + s.left_depth * i) (pos 0)

-- the right block's number at depth k and in column j
abbrev pub right_at : Sizes → List ℤ → (k j : ℕ) → ℤ
right_at s right k j = get_or right (j + s.width * cut s.right_depth k) (pos 0)

-- the sum of their products over the first depths
abbrev pub sum_at : Sizes → (left right : List ℤ) → (depth i j : ℕ) → ℤ
sum_at s left right depth i j = sum_below depth (λ k. left_at s left i k *ℤ right_at s right k j)

-- a number and a product more, in words that wrap
abbrev pub plus_scaled : (sum factor number : ℤ) → ℤ
plus_scaled sum factor number = int_wrap w64 (sum +ℤ factor *ℤ number)

-- a number and four products more, in words that wrap
abbrev pub plus_four_scaled : (sum first a second b third c fourth d : ℤ) → ℤ
plus_four_scaled sum first a second b third c fourth d =
    plus_scaled (plus_scaled (plus_scaled (plus_scaled sum first a) second b) third c) fourth d

-- a row has the sums over the first depths, in words that wrap
pub record HasSums (s : Sizes) (left right : List ℤ) (depth i : ℕ) (row : List ℤ) : Type 0 where
  pub width : length row ≡ s.width
  pub sums : (j : ℕ) → j < s.width →
      get_or row j (pos 0) ≡ int_wrap w64 (sum_at s left right depth i j)

-- the number at a place of the product, row by row, wrapped to a type
abbrev pub product_at : Ty → Sizes → (left right : List ℤ) → (place : ℕ) → ℤ
product_at ty s left right p = wrapped ty (sum_at s left right s.depth (p / s.width) (p % s.width))

-- the blocks have as many numbers as the sizes say, and each depth is one of theirs
pub record Fit (s : Sizes) (left right : List ℤ) : Type 0 where
  pub left_count : length left ≡ s.left_depth * s.height
  pub right_count : length right ≡ s.width * s.right_depth
  pub left_deep : (k : ℕ) → k < s.depth → cut s.left_depth k < s.left_depth
  pub right_deep : (k : ℕ) → k < s.depth → cut s.right_depth k < s.right_depth

-- the nth block of so many numbers, wrapped to a type
abbrev pub nth_block : Ty → (count : ℕ) → List ℤ → (n : ℕ) → List ℤ
nth_block ty count es n = map (wrapped ty) (take count (drop (n * count) es))

-- where a block is held, this is it
abbrev pub IsHeld : Ty → List ℤ → (held : Option ℕ) → (block : List ℤ) → Type 0
IsHeld ty es None block = Unit {0}
IsHeld ty es (Some n) block = block ≡ nth_block ty (length block) es n

-- the block of so many numbers that an array gives at a position of a broadcast, by its sizes after
-- the core ones, wrapped to a type
abbrev pub block_at : Ty → (count : ℕ) → List ℤ → (sizes joined : List ℕ) → (position : ℕ) → List ℤ
block_at ty count es sizes joined q = nth_block ty count es (stretched_position sizes joined q)

-- the number at a place of the products of two arrays' blocks, one product after the other
abbrev pub products_at : Ty → Sizes → (left right : List ℤ)
    → (left_sizes right_sizes joined : List ℕ) → (place : ℕ) → ℤ
products_at ty s left right ls rs joined p =
    let count = s.height * s.width in
    let q = p / count in
    let left_block = block_at ty (s.left_depth * s.height) left ls joined q in
    let right_block = block_at ty (s.width * s.right_depth) right rs joined q in
    product_at ty s left_block right_block (p % count)

-- all these numbers
abbrev pub all_products : Ty → Sizes → (left right : List ℤ)
    → (left_sizes right_sizes joined : List ℕ) → List ℤ
all_products ty s left right ls rs joined =
    let count = size_of joined * (s.height * s.width) in
    map (products_at ty s left right ls rs joined) (range_with_len 0 count)

-- how many core dimensions a pairing's arrays have
abbrev pub core_count : Pairing → ℕ
core_count Inner = 1
core_count Outer = 1
core_count Matmult = 2

-- the sizes of the blocks that a pairing works on, at its arrays' dimensions: `outer` has the
-- second array's block on the left
abbrev pub sizes_of : Pairing → (depth : ℕ) → (a b : List ℕ) → Sizes
sizes_of Inner n a b = record {
  depth = n;
  height = 1;
  width = 1;
  left_depth = get_or a 0 1;
  right_depth = get_or b 0 1;
}
sizes_of Outer n a b = record {
  depth = 1;
  height = get_or b 0 1;
  width = get_or a 0 1;
  left_depth = 1;
  right_depth = 1;
}
sizes_of Matmult n a b = record {
  depth = n;
  height = get_or a 1 1;
  width = get_or b 0 1;
  left_depth = get_or a 0 1;
  right_depth = get_or b 1 1;
}

-- two arrays' elements are blocks of these sizes, which fit, and their sizes after the blocks' own
-- stretch to the joined ones
pub record Ready (s : Sizes) (left right : List ℤ) (left_sizes right_sizes joined : List ℕ)
    : Type 0 where
  pub left_count : length left ≡ size_of left_sizes * (s.left_depth * s.height)
  pub right_count : length right ≡ size_of right_sizes * (s.width * s.right_depth)
  pub left_small : s.left_depth * s.height ≤ extent_limit
  pub right_small : s.width * s.right_depth ≤ extent_limit
  pub left_deep : (k : ℕ) → k < s.depth → cut s.left_depth k < s.left_depth
  pub right_deep : (k : ℕ) → k < s.depth → cut s.right_depth k < s.right_depth
  pub left_few : length left ≤ extent_limit
  pub right_few : length right ≤ extent_limit
  pub left_stretched : BroadcastsTo left_sizes joined
  pub right_stretched : BroadcastsTo right_sizes joined

-- the blocks of a pairing's arrays are ready for it
abbrev pub ReadyFor : Pairing → Sizes → (a b : List ℤ) → (a_sizes b_sizes joined : List ℕ) → Type 0
ReadyFor Inner s a b xs ys joined = Ready s a b xs ys joined
ReadyFor Outer s a b xs ys joined = Ready s b a ys xs joined
ReadyFor Matmult s a b xs ys joined = Ready s a b xs ys joined

-- the blocks are short rows, and each product is one sum
pub record AreShortRows (s : Sizes) : Type 0 where
  pub height : s.height ≡ 1
  pub width : s.width ≡ 1
  pub left : s.left_depth ≤ SHORT
  pub right : s.right_depth ≤ SHORT

-- at each place, a broadcast uses the row that the turn says: each row at so many places that follow
-- one another, in order, and then again from the first one on
pub record GoesInTurn (sizes joined : List ℕ) (turn : Turn) : Type 0 where
  pub rows : turn.rows ≡ size_of sizes
  pub some_rows : 0 < size_of joined → 0 < turn.rows
  pub some_times : 0 < size_of joined → 0 < turn.times
  pub row : 0 < size_of joined → (place : ℕ) →
      stretched_position sizes joined place ≡ place / turn.times % turn.rows

-- the products of a pairing's blocks
abbrev pub block_products : Pairing → Ty → Sizes → (a b : List ℤ)
    → (a_sizes b_sizes joined : List ℕ) → List ℤ
block_products Inner ty s a b xs ys joined = all_products ty s a b xs ys joined
block_products Outer ty s a b xs ys joined = all_products ty s b a ys xs joined
block_products Matmult ty s a b xs ys joined = all_products ty s a b xs ys joined
