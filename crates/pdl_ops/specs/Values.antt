-- What an assignment writes (PDL::Ops, PDL::Broadcasting).
use Rattle.std.specs.Prelude.{ℕ, ℤ, List, [], ◌∷◌, map, Bool, true, ◌==◌, ◌&&◌, ◌||◌, if◌then◌else◌, Result, Ok, Err}
use Rattle.pdl_elem.specs.declared.Ty.{Ty}
use Rattle.pdl_elem.specs.Types.{promoted}
use Rattle.pdl_elem.specs.Numbers.{wrapped}
use Rattle.pdl_shape.specs.Refusals.{mismatch}
use Rattle.pdl_shape.specs.Stretched.{stretched}
use Rattle.pdl_buf.specs.declared.made.Made.{Made}
use Rattle.pdl_lexemes.specs.declared.AssignOp.{AssignOp}
use Rattle.pdl_lexemes.specs.declared.AssignOp.TheVariants.{Set, With}
use Rattle.pdl_ops.specs.Elementwise.{OpRefusal, no_dims, values_of}

-- whether these sizes fit a target's: each is 1 or the target's, whose missing ones count as 1
abbrev pub fits : (sizes target : List ℕ) → Bool
fits [] target = true
fits (d ∷ ds) [] = (d == 1) && fits ds []
fits (d ∷ ds) (t ∷ target) = (d == 1 || d == t) && fits ds target

abbrev pub wrapped_to : Ty → Result (List ℤ) OpRefusal → Result (List ℤ) OpRefusal
wrapped_to ty (Err e) = Err e
wrapped_to ty (Ok vs) = Ok (map (wrapped ty) vs)

-- the values that a sign gives for the elements that stand there and the new ones beside them: the
-- new ones wrapped, or the operator's values at the type of higher rank, wrapped
abbrev pub new_values : AssignOp → (target right : Ty) → (old new : List ℤ)
    → Result (List ℤ) OpRefusal
new_values Set target right old new = Ok (map (wrapped target) new)
new_values (With op) target right old new =
    let ty = promoted target right in
    wrapped_to target (values_of op ty (map (wrapped ty) old) (map (wrapped ty) new))

-- the values that an assignment writes, one for each position of the target; a mismatch where the
-- right side's sizes don't fit, then the first divisor 0
abbrev pub values_for : AssignOp → (target right : Made) → Result (List ℤ) OpRefusal
values_for sign target right =
    let new = stretched right.dims target.dims right.elems in
    if fits right.dims target.dims
    then new_values sign target.ty right.ty target.elems new
    else Err (no_dims mismatch)
