-- Reductions of arrays along dimension 0, and of whole arrays (PDL::Ufunc).
use Rattle.std.specs.Prelude.{ℕ, ◌*◌, ℤ, pos, Bool, true, false, not, ◌&&◌, ◌==◌, if◌then◌else◌, List, [], ◌∷◌, map, take, drop, slice_index_or, Result, Ok, Err}
use Rattle.std.specs.List.{flat_map, list_all, list_any, range_with_len}
use Rattle.std.specs.Ordering.{int_eq}
use Rattle.pdl_elem.specs.declared.Ty.{Ty}
use Rattle.pdl_elem.specs.declared.Ty.TheVariants.{Byte, Long}
use Rattle.pdl_elem.specs.Numbers.{wrapped}
use Rattle.pdl_elem.specs.Operators.{truth}
use Rattle.pdl_elem.specs.Types.{promoted}
use Rattle.pdl_shape.specs.Shape.{size_of}
use Rattle.pdl_buf.specs.declared.made.Made.{Made}
use Rattle.pdl_reduce.specs.declared.Reduction.{Reduction}
use Rattle.pdl_reduce.specs.declared.Reduction.TheVariants.{Sumover, Prodover, Maximum, Minimum, MaximumInd, MinimumInd, Cumusumover, Cumuprodover}
use Rattle.pdl_reduce.specs.declared.Whole.{Whole}
use Rattle.pdl_reduce.specs.declared.Whole.TheVariants.{Sum, Prod, Max, Min, All, Any}
use Rattle.pdl_reduce.specs.Folds.{total, product, greatest, least, first_place, at_prefixes}
use Rattle.pdl_reduce.specs.Refusals.{ReduceRefusal, empty_reduce}

-- the size along dimension 0: an array without dimensions counts as one of size 1
abbrev pub width : List ℕ → ℕ
width ds = slice_index_or ds 0 1

-- the nth list of so many numbers
abbrev pub nth_list : (size : ℕ) → List ℤ → (n : ℕ) → List ℤ
nth_list size xs n = take size (drop (n * size) xs)

-- a list cut into so many lists of so many numbers each
abbrev pub lists : (count size : ℕ) → List ℤ → List (List ℤ)
lists count size xs = map (nth_list size xs) (range_with_len 0 count)

-- the lists along dimension 0, in the order of the other dimensions
abbrev pub rows : Made → List (List ℤ)
rows a = lists (size_of (drop 1 a.dims)) (width a.dims) a.elems

-- sums and products have the higher of the array's type and long
abbrev pub sum_type : Ty → Ty
sum_type ty = promoted ty Long

-- what a reduction makes of one list of numbers of a type: one number, or one for each place
abbrev pub reduced_row : Reduction → Ty → List ℤ → List ℤ
reduced_row Sumover ty xs = wrapped (sum_type ty) (total xs) ∷ []
reduced_row Prodover ty xs = wrapped (sum_type ty) (product xs) ∷ []
reduced_row Maximum ty xs = greatest xs ∷ []
reduced_row Minimum ty xs = least xs ∷ []
reduced_row MaximumInd ty xs = pos (first_place (greatest xs) xs) ∷ []
reduced_row MinimumInd ty xs = pos (first_place (least xs) xs) ∷ []
reduced_row Cumusumover ty xs = at_prefixes (λ ys. wrapped (sum_type ty) (total ys)) xs
reduced_row Cumuprodover ty xs = at_prefixes (λ ys. wrapped (sum_type ty) (product ys)) xs

-- the type of the result
abbrev pub reduced_type : Reduction → Ty → Ty
reduced_type Maximum ty = ty
reduced_type Minimum ty = ty
reduced_type MaximumInd ty = Long
reduced_type MinimumInd ty = Long
reduced_type _ ty = sum_type ty

-- the dimensions of the result: dimension 0 is dropped, but the cumulating reductions keep it
abbrev pub reduced_dims : Reduction → List ℕ → List ℕ
reduced_dims Cumusumover ds = width ds ∷ drop 1 ds
reduced_dims Cumuprodover ds = width ds ∷ drop 1 ds
reduced_dims _ ds = drop 1 ds

-- whether the reduction looks for an extreme, which no numbers don't have
abbrev pub is_extreme : Reduction → Bool
is_extreme Maximum = true
is_extreme Minimum = true
is_extreme MaximumInd = true
is_extreme MinimumInd = true
is_extreme _ = false

-- a reduction of each list along dimension 0, or the refusal of an extreme over size 0
abbrev pub reduced : Reduction → Made → Result Made ReduceRefusal
reduced kind a =
    if is_extreme kind && width a.dims == 0 then Err empty_reduce
    else Ok (record {
      ty = reduced_type kind a.ty;
      dims = reduced_dims kind a.dims;
      elems = flat_map (reduced_row kind a.ty) (rows a);
    })

-- the array with all its elements along one dimension
abbrev pub flat : Made → Made
flat a = record { ty = a.ty; dims = size_of a.dims ∷ []; elems = a.elems }

-- a test as an array without dimensions
abbrev pub answer : Bool → Result Made ReduceRefusal
answer holds = Ok (record { ty = Byte; dims = []; elems = truth holds ∷ [] })

-- whether a number isn't 0
abbrev pub is_set : ℤ → Bool
is_set z = not (int_eq z (pos 0))

-- a reduction of all elements in their order, to an array without dimensions
abbrev pub whole_reduced : Whole → Made → Result Made ReduceRefusal
whole_reduced Sum a = reduced Sumover (flat a)
whole_reduced Prod a = reduced Prodover (flat a)
whole_reduced Max a = reduced Maximum (flat a)
whole_reduced Min a = reduced Minimum (flat a)
whole_reduced All a = answer (list_all is_set a.elems)
whole_reduced Any a = answer (list_any is_set a.elems)
