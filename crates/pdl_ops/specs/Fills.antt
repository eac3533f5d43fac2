-- New arrays by their dimensions (PDL::Core, PDL::Basic).
use Rattle.std.specs.Prelude.{ℕ, pos, List, map, get_or}
use Rattle.std.specs.List.{range_with_len}
use Rattle.pdl_elem.specs.declared.Ty.{Ty}
use Rattle.pdl_elem.specs.Numbers.{wrapped}
use Rattle.pdl_shape.specs.Shape.{size_of, coordinates_of}
use Rattle.pdl_buf.specs.declared.made.Made.{Made}
use Rattle.pdl_ops.specs.declared.fills.Fill.{Fill}
use Rattle.pdl_ops.specs.declared.fills.Fill.TheVariants.{Zeroes, Ones, Sequence, Xvals, Yvals}

-- the element at a position, before it is wrapped: 0, 1, the position, or a coordinate, which is 0
-- where there is no such dimension
abbrev pub fill_element : Fill → (dims : List ℕ) → (position : ℕ) → ℕ
fill_element Zeroes ds p = 0
fill_element Ones ds p = 1
fill_element Sequence ds p = p
fill_element Xvals ds p = get_or (coordinates_of ds p) 0 0
fill_element Yvals ds p = get_or (coordinates_of ds p) 1 0

-- an array of a type and of dimensions
abbrev pub filled : Fill → Ty → (dims : List ℕ) → Made
filled fill ty ds =
    let element = λ (p : ℕ). wrapped ty (pos (fill_element fill ds p)) in
    record { ty = ty; dims = ds; elems = map element (range_with_len 0 (size_of ds)) }
