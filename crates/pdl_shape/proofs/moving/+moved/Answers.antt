use Rattle.std.proofs.Common.{rules, FitsSigned, w32, ◌*ℤ◌, to_z, of_z, w64}
use Rattle.pdl_shape.proofs.TripleTurns.{Turn, turn}
use Rattle.pdl_shape.proofs.moving.+moved.Goals as goal

turned : (t : _) (c : goal.After-moved t) → Turn c.args.incs.now c.args.at.now (to_z w64 (of_z w64 c.from.result) *ℤ to_z w64 (of_z w64 c.from-in-Some-Some.result)) c.moved.result
turned t c =
    let fits : FitsSigned w32 c.in-Some-Some.inc.now = search rules in
    turn _ _ _ _ _ c.in-Some-Some.inc.now c.in-Some-Some.first.now c.in-Some-Some.incs.now c.in-Some-Some.at.now (record {
      r_fits = record { sfits = c.from.type_inv };
      s_fits = record { sfits = c.from-in-Some-Some.type_inv };
      m_fits = record { sfits = c.moved.type_inv };
      inc_fits = fits;
      r_is = c.from.ensures;
      s_is = c.from-in-Some-Some.ensures;
      m_is = c.moved.ensures.value;
      m_near = c.moved.ensures.near;
      incs_are = c.in-Some-Some.ensures.cases.0;
      at_is = c.in-Some-Some.ensures'.cases.0;
      few = c.requires.few;
      small = c.requires.small;
    })

pub overflow_add-result : goal.overflow_add-result
overflow_add-result t c = (turned t c).fits

pub returns-in-Some-Some-clause-value : goal.returns-in-Some-Some-clause-value
returns-in-Some-Some-clause-value t c = (turned t c).is

pub returns-in-Some-Some-clause-near : goal.returns-in-Some-Some-clause-near
returns-in-Some-Some-clause-near t c = (turned t c).near
