-- The values of a part of an assignment.
use Rattle.std.specs.Prelude.{◌≡◌, ℕ, ℤ, true, List, length, take, drop, Option, Some, None, Result, Ok, Err, is_ok}
use Rattle.pdl_elem.specs.declared.Ty.{Ty}
use Rattle.pdl_shape.specs.Shape.{size_of}
use Rattle.pdl_shape.specs.Stretched.{stretched}
use Rattle.pdl_lexemes.specs.declared.AssignOp.{AssignOp}
use Rattle.pdl_ops.specs.Elementwise.{OpRefusal, zero_divisor}
use Rattle.pdl_ops.specs.Values.{new_values}

-- so many elements from a position on
abbrev pub part_of : (first count : ℕ) → List ℤ → List ℤ
part_of first count es = take count (drop first es)

-- the values that a sign gives for so many elements from a position on, and the new ones there
abbrev pub part_values : AssignOp → (target right : Ty) → (first count : ℕ) → (old new : List ℤ)
    → Result (List ℤ) OpRefusal
part_values sign target right first count old new =
    new_values sign target right (part_of first count old) (part_of first count new)

-- values are refused for the divisor 0 at this place, and there are some where there is none
abbrev pub IsDivided : (wanted : Result (List ℤ) OpRefusal) → (divisor : Option ℕ) → Type 0
IsDivided wanted None = is_ok wanted ≡ true
IsDivided wanted (Some place) = wanted ≡ Err (zero_divisor place)

-- the values of a part are those of the whole that stand there
abbrev pub PartsAreCut : Type 0
PartsAreCut =
    (sign : AssignOp) (target right : Ty) (old new values : List ℤ) (first count : ℕ)
    → new_values sign target right old new ≡ Ok values
    → part_values sign target right first count old new ≡ Ok (part_of first count values)

-- there are as many values as new elements, where as many stand there
abbrev pub ValuesAreAsMany : Type 0
ValuesAreAsMany =
    (sign : AssignOp) (target right : Ty) (old new values : List ℤ) → length old ≡ length new
    → new_values sign target right old new ≡ Ok values → length values ≡ length new

-- an array that is stretched to its own dimensions stays
abbrev pub StretchedToItself : Type 0
StretchedToItself =
    (dims : List ℕ) (es : List ℤ) → length es ≡ size_of dims → stretched dims dims es ≡ es
