use Rattle.std.proofs.Common.{◌∙◌, ap, subst}
use Rattle.pdl_shape.specs.Triple.{Triple, IsTriple}
use Rattle.pdl_engine.proofs.ApartLemmas.{triple_apart}
use Rattle.pdl_engine.proofs.spread.lies_apart.Goals as goal

pub returns-clause-apart : goal.returns-clause-apart
returns-clause-apart c = λ e.
    triple_apart c.args.triple.now c.incs_list.result.now c.dims_list.result.now (c.incs_list.ensures.list ∙ ap (λ (t : Triple). t.incs) c.triple.view_is) (c.dims_list.ensures.list ∙ ap (λ (t : Triple). t.dims) c.triple.view_is) (c.are_apart.ensures e)

pub returns-clause-sound : goal.returns-clause-sound
returns-clause-sound c = subst IsTriple c.triple.view_is c.triple.invariant
