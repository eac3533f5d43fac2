use Rattle.pdl_rebuild.proofs.NamedLemmas.{names_are_bound, names_end, last_but_one_goes, kernels_are_defined}
use Rattle.pdl_rebuild.proofs.names_are_made.Goals as goal

pub returns : goal.returns
returns c = record {
  bound = names_are_bound c.keeping_laws.ensures.more;
  defined = kernels_are_defined;
  gone = names_end;
  under = last_but_one_goes c.keeping_laws.ensures.more;
}
