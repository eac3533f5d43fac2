-- clump: the first dimensions joined to one (PDL::Core, clump).
use Rattle.std.specs.Prelude.{ℕ, List, length, Result, Ok, Err, ℤ}
use Rattle.std.specs.Option.{option_map_or, unwrap_or}
use Rattle.pdl_shape.specs.Clump.{clump_count, clump_sizes, clump_source}
use Rattle.pdl_shape.specs.Refusals.{Refusal, bad_dimension}

-- the dimensions of a clump, which are as large as its parent's
abbrev pub clump_dims : List ℕ → ℤ → Result (List ℕ) Refusal
clump_dims parent count =
    option_map_or (λ n. Ok (clump_sizes n parent)) (clump_count count (length parent))
    (Err bad_dimension)

-- the parent's coordinates for those of a clump
abbrev pub clumped_source : List ℕ → ℤ → List ℕ → List ℕ
clumped_source parent count at =
    clump_source (unwrap_or (clump_count count (length parent)) 0) parent at
