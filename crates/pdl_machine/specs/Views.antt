-- The view words (PDL::Slices, PDL::Primitive): the transformation that each gives for what it
-- sees of its arguments. What an array among these holds is fixed when the view is made.
use Rattle.std.specs.Prelude.{ℕ, ℤ, pos, negsuc, List, [], ◌∷◌, slice_get, Option, Some, None, option_and_then, Result, Ok, Err}
use Rattle.pdl_buf.specs.declared.made.Made.{Made}
use Rattle.pdl_slices.specs.declared.SliceFault.{SliceFault}
use Rattle.pdl_slices.specs.Meaning.{slice_of}
use Rattle.pdl_affine.specs.declared.Affine.{Affine}
use Rattle.pdl_affine.specs.declared.Affine.TheVariants as affine
use Rattle.pdl_choice.specs.declared.edges.Edge.{Edge}
use Rattle.pdl_choice.specs.declared.edges.Edge.TheVariants.{Refuse, Zero, Nearest, Periodic}
use Rattle.pdl_choice.specs.Where.{which}
use Rattle.pdl_world.specs.declared.Trans.TheVariants as trans
use Rattle.pdl_machine.specs.declared.fault.Fault.{Fault}
use Rattle.pdl_machine.specs.declared.fault.Fault.TheVariants.{WrongArguments, BadSlice}
use Rattle.pdl_machine.specs.declared.builtin.Arrangement.{Arrangement}
use Rattle.pdl_machine.specs.declared.builtin.Arrangement.TheVariants.{Xchg, Mv, Reorder, Dummy, Diagonal, Clump, Flat, Squeeze}
use Rattle.pdl_machine.specs.Then.{and_then, or_fault}
use Rattle.pdl_machine.specs.Refused.{or_named}
use Rattle.pdl_machine.specs.Outcome.{array, string, Seen, Outcome, viewed}
use Rattle.pdl_machine.specs.Fills.{only, numbers_in}

-- each refusal of a slice's text is one fault
abbrev pub slice_fault : SliceFault → Fault
slice_fault fault = BadSlice

-- a view by a text, where it is a slice's
abbrev pub slice_by : List ℕ → Result Outcome Fault
slice_by text = and_then (or_named slice_fault (slice_of text)) (λ args.
    Ok (viewed (trans.Affine (affine.Slice args))))

-- `slice`: a view of an array by a text
abbrev pub slice_outcome : List Seen → Result Outcome Fault
slice_outcome (array m ∷ string text ∷ []) = slice_by text
slice_outcome _ = Err WrongArguments

-- the arrangement of an array's dimensions that a word names with these numbers, if they
-- are as many as it takes
abbrev pub arranged : Arrangement → List ℤ → Option Affine
arranged Xchg (a ∷ b ∷ []) = Some (affine.Xchg a b)
arranged Mv (a ∷ b ∷ []) = Some (affine.Mv a b)
arranged Reorder order = Some (affine.Reorder order)
arranged Dummy (place ∷ []) = Some (affine.Dummy place (pos 1))
arranged Dummy (place ∷ size ∷ []) = Some (affine.Dummy place size)
arranged Diagonal (k ∷ listed) = Some (affine.Diagonal (k ∷ listed))
arranged Clump (count ∷ []) = Some (affine.Clump count)
arranged Flat [] = Some (affine.Clump (negsuc 0))
arranged Squeeze [] = Some affine.Squeeze
arranged _ _ = None

-- a view word that takes an array and numbers
abbrev pub arrangement_outcome : Arrangement → List Seen → Result Outcome Fault
arrangement_outcome word (array m ∷ given) =
    and_then (numbers_in given) (λ ns. and_then (or_fault WrongArguments (arranged word ns)) (λ t.
    Ok (viewed (trans.Affine t))))
arrangement_outcome word _ = Err WrongArguments

-- an array looked up by another one's values
abbrev pub look_up : Made → Result Outcome Fault
look_up ind = Ok (viewed (trans.Index ind.dims ind.elems))

-- `index`: an array, and another one that looks it up
abbrev pub index_outcome : List Seen → Result Outcome Fault
index_outcome (array m ∷ array ind ∷ []) = look_up ind
index_outcome _ = Err WrongArguments

-- `where`: an array's elements at which a mask isn't 0
abbrev pub where_outcome : List Seen → Result Outcome Fault
where_outcome (array m ∷ array mask ∷ []) = Ok (viewed (trans.Where mask.dims (which mask.elems)))
where_outcome _ = Err WrongArguments

-- what stands beyond the edges, by its number
abbrev pub edge_of : ℤ → Option Edge
edge_of (pos n) = slice_get (Refuse ∷ Zero ∷ Nearest ∷ Periodic ∷ []) n
edge_of (negsuc n) = None

-- windows at an index's corners: their sizes, else one 0, and the number of what stands
-- beyond the edges, else 0
abbrev pub range_by : (ind : Made) → List Seen → Result Outcome Fault
range_by ind [] = Ok (viewed (trans.Range ind.dims ind.elems (pos 0 ∷ []) Refuse))
range_by ind (array sizes ∷ []) = Ok (viewed (trans.Range ind.dims ind.elems sizes.elems Refuse))
range_by ind (array sizes ∷ array edge ∷ []) =
    and_then (or_fault WrongArguments (option_and_then edge_of (only edge.elems))) (λ e.
    Ok (viewed (trans.Range ind.dims ind.elems sizes.elems e)))
range_by ind _ = Err WrongArguments

-- `range`: windows of an array at the corners that an index lists
abbrev pub range_outcome : List Seen → Result Outcome Fault
range_outcome (array m ∷ array ind ∷ given) = range_by ind given
range_outcome _ = Err WrongArguments
