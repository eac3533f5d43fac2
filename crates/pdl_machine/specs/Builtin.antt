-- Which names are those of built-in calls.
use Rattle.std.specs.Prelude.{ℕ, List, [], ◌∷◌, ◌++◌, codes, Option, Some}
use Rattle.pdl_elem.specs.Tables.{found_in}
use Rattle.pdl_elem.specs.Types.{type_named}
use Rattle.pdl_lemmas.specs.Options.{choose}
use Rattle.pdl_nice.specs.Nice.{nice_word}
use Rattle.pdl_ops.specs.declared.fills.Fill.TheVariants.{Zeroes, Ones, Sequence, Xvals, Yvals}
use Rattle.pdl_reduce.specs.declared.Reduction.TheVariants.{Sumover, Prodover, Maximum, Minimum, MaximumInd, MinimumInd, Cumusumover, Cumuprodover}
use Rattle.pdl_reduce.specs.declared.Whole.TheVariants.{Sum, Prod, Max, Min, All, Any}
use Rattle.pdl_reduce.specs.declared.Pairing.TheVariants.{Inner, Outer, Matmult}
use Rattle.pdl_machine.specs.declared.builtin.Builtin.{Builtin}
use Rattle.pdl_machine.specs.declared.builtin.Builtin.TheVariants.{Filled, Told, Dim, Slice, Nice, Arranged, Index, Where, Range, Reduced, Whole, Paired}
use Rattle.pdl_machine.specs.declared.builtin.Inquiry.TheVariants.{Copy, Convert, Nelem, Ndims, Shape, Which}
use Rattle.pdl_machine.specs.declared.builtin.Arrangement.TheVariants.{Xchg, Mv, Reorder, Dummy, Diagonal, Clump, Flat, Squeeze}

-- sums, extremes and prefixes along dimension 0
abbrev pub reductions : List (List ℕ × Builtin)
reductions =
    (codes "sumover", Reduced Sumover) ∷ (codes "prodover", Reduced Prodover)
    ∷ (codes "cumusumover", Reduced Cumusumover)
    ∷ (codes "cumuprodover", Reduced Cumuprodover) ∷ (codes "maximum", Reduced Maximum)
    ∷ (codes "minimum", Reduced Minimum)
    ∷ (codes "maximum_ind", Reduced MaximumInd) ∷ (codes "minimum_ind", Reduced MinimumInd) ∷ []

-- reductions of all elements, and products of two arrays
abbrev pub wholes_and_products : List (List ℕ × Builtin)
wholes_and_products =
    (codes "sum", Whole Sum) ∷ (codes "prod", Whole Prod) ∷ (codes "max", Whole Max)
    ∷ (codes "min", Whole Min)
    ∷ (codes "all", Whole All) ∷ (codes "any", Whole Any) ∷ (codes "inner", Paired Inner)
    ∷ (codes "outer", Paired Outer)
    ∷ (codes "matmult", Paired Matmult) ∷ []

-- new arrays by sizes
abbrev pub fills : List (List ℕ × Builtin)
fills =
    (codes "zeroes", Filled Zeroes) ∷ (codes "ones", Filled Ones)
    ∷ (codes "sequence", Filled Sequence)
    ∷ (codes "xvals", Filled Xvals) ∷ (codes "yvals", Filled Yvals) ∷ []

-- new arrays that tell something of an array, beside its conversions
abbrev pub inquiries : List (List ℕ × Builtin)
inquiries =
    (codes "copy", Told Copy) ∷ (codes "nelem", Told Nelem) ∷ (codes "ndims", Told Ndims)
    ∷ (codes "shape", Told Shape) ∷ (codes "which", Told Which) ∷ (codes "dim", Dim) ∷ []

-- views of an array that stands first
abbrev pub views : List (List ℕ × Builtin)
views =
    (codes "slice", Slice) ∷ (nice_word, Nice) ∷ (codes "xchg", Arranged Xchg)
    ∷ (codes "mv", Arranged Mv) ∷ (codes "reorder", Arranged Reorder)
    ∷ (codes "dummy", Arranged Dummy) ∷ (codes "diagonal", Arranged Diagonal)
    ∷ (codes "clump", Arranged Clump)
    ∷ (codes "flat", Arranged Flat) ∷ (codes "squeeze", Arranged Squeeze) ∷ (codes "index", Index)
    ∷ (codes "where", Where)
    ∷ (codes "range", Range) ∷ []

-- the built-in calls by their names, but for the conversions
abbrev pub builtins : List (List ℕ × Builtin)
builtins = fills ++ inquiries ++ views ++ reductions ++ wholes_and_products

-- the built-in call of this name, if there is one: a type's word converts to the type
abbrev pub builtin_of : List ℕ → Option Builtin
builtin_of name =
    choose (found_in builtins name) (λ ty. Some (Told (Convert ty))) (type_named name)
