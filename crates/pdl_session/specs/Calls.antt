-- What calls give, as the functions of the families say it.
use Rattle.std.specs.Prelude.{ℤ, List}
use Rattle.pdl_buf.specs.declared.made.Made.{Made}
use Rattle.pdl_choice.specs.declared.edges.Edge.{Edge}
use Rattle.pdl_world.specs.declared.Trans.TheVariants.{Range}
use Rattle.pdl_machine.specs.Outcome.{Outcome as Placed, viewed}

-- windows at an index's corners
abbrev pub windows : (corners : Made) → (sizes : List ℤ) → Edge → Placed
windows corners sizes edge = viewed (Range corners.dims corners.elems sizes edge)
