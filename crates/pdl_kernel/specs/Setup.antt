-- What a call sets up before its code runs, and what it hands out.
use Rattle.std.specs.Prelude.{◌≡◌, ◌≢◌, ℕ, ℤ, List, [], ◌∷◌, map, drop, length, if◌then◌else◌, Option, Some, None}
use Rattle.std.specs.List.{range_with_len}
use Rattle.pdl_elem.specs.declared.Ty.{Ty}
use Rattle.pdl_elem.specs.Numbers.{wrapped}
use Rattle.pdl_shape.specs.Shape.{coordinates_of, size_of}
use Rattle.pdl_buf.specs.declared.made.Made.{Made}
use Rattle.pdl_sig.specs.declared.Resolved.{Resolved}
use Rattle.pdl_sig.specs.declared.Role.{Role}
use Rattle.pdl_sig.specs.declared.Role.TheVariants.{Input}
use Rattle.pdl_sig.specs.declared.SigArg.{SigArg}
use Rattle.pdl_sig.specs.Resolution.{is_output, core_sizes, made_for, type_in}
use Rattle.pdl_kernel.specs.Call.{start_element}
use Rattle.pdl_kernel.specs.Places.{Window, axes_of, is_written, strides_from}

-- the stride of each dimension of the array that is given, and none for an output
abbrev pub given_strides : Option Made → List ℕ
given_strides None = []
given_strides (Some g) = strides_from 1 g.dims

-- its elements, wrapped to a type
abbrev pub given_elems : Ty → Option Made → List ℤ
given_elems ty None = []
given_elems ty (Some g) = map (wrapped ty) g.elems

-- an array of this shape, with the elements that an argument starts with
abbrev pub start_elems : Ty → (shape : List ℕ) → Option Made → List ℤ
start_elems ty shape given =
    map (λ q. start_element ty given (coordinates_of shape q)) (range_with_len 0 (size_of shape))

-- the strides and the elements of an argument: an input is where it is given, and each other one is
-- an array of its shape
abbrev pub strides_with : Role → (shape : List ℕ) → (given : Option Made) → List ℕ
strides_with r shape given = if is_written r then strides_from 1 shape else given_strides given

abbrev pub elems_with : Role → Ty → (shape : List ℕ) → (given : Option Made) → List ℤ
elems_with r ty shape given = if is_written r then start_elems ty shape given else given_elems ty given

-- an argument of a type, of core sizes and of a shape
abbrev pub window_with : Ty → (core shape : List ℕ) → SigArg → (given : Option Made) → Window
window_with ty core shape a given = record {
  role = a.role;
  ty = ty;
  axes = axes_of core (strides_with a.role shape given);
  outer = drop (length a.dims) (strides_with a.role shape given);
  elems = elems_with a.role ty shape given;
  start = 0;
}

abbrev pub window_of : Resolved → SigArg × Option Made → Window
window_of r a =
    let core = core_sizes r.sizes a.0 in
    window_with (type_in r.generic a.0.ty) core (made_for r.sizes r.broadcast a.0) a.0 a.1

-- the shape is what a call makes for the argument
abbrev pub IsShapeOf : Resolved → SigArg → List ℕ → Type 0
IsShapeOf r a shape = a.role ≢ Input → shape ≡ made_for r.sizes r.broadcast a

-- the outputs among arguments, of these shapes
abbrev pub outputs_in : (shapes : List (List ℕ)) → List Window → List Made
outputs_in [] ws = []
outputs_in (dims ∷ shapes) [] = []
outputs_in (dims ∷ shapes) (w ∷ ws) =
    let rest = outputs_in shapes ws in
    if is_output w.role then record { ty = w.ty; dims = dims; elems = w.elems } ∷ rest else rest
