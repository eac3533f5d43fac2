-- clump: the first dimensions joined to one (PDL::Core, clump).
use Rattle.std.specs.Prelude.{ℕ, nat_le, ◌==◌, ◌&&◌, if◌then◌else◌, List, ◌∷◌, ◌++◌, get_or, take, drop, ℤ, pos, negsuc, Option, Some, None}
use Rattle.pdl_shape.specs.Shape.{size_of, coordinates_of}

-- how many dimensions a clump joins: 1 to all of n, or all by -1
abbrev pub clump_count : (count : ℤ) → (n : ℕ) → Option ℕ
clump_count (pos k) n = if nat_le 1 k && nat_le k n then Some k else None
clump_count (negsuc k) n = if k == 0 then Some n else None

-- the product of the first n sizes, then the other sizes
abbrev pub clump_sizes : (n : ℕ) → List ℕ → List ℕ
clump_sizes n ds = size_of (take n ds) ∷ drop n ds

-- the coordinates of the joined position in the first n sizes, then the other coordinates
abbrev pub clump_source : (n : ℕ) → List ℕ → List ℕ → List ℕ
clump_source n ds cs = coordinates_of (take n ds) (get_or cs 0 0) ++ drop 1 cs
