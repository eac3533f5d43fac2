use Rattle.pdl_rebuild.proofs.RebuildingWhole.{dumps_rebuild}
use Rattle.pdl_rebuild.proofs.dumps_rebuild.Goals as goal

pub returns : goal.returns
returns c = dumps_rebuild (record {
  remake = record {
    fill = record {
      roots = c.roots_are_made.ensures;
      pieces = c.elements_are_given.ensures.pieces;
      least = c.elements_are_given.ensures.least;
      wrapping = c.wrapping_laws.ensures;
      keeps = c.keeping_laws.ensures.newest;
      kept = c.keeping_laws.ensures.kept;
      more = c.keeping_laws.ensures.more;
    };
    affine = c.views_are_made.ensures.affine;
    chosen = c.views_are_made.ensures.chosen;
    goes = c.names_are_made.ensures.under;
  };
  below = c.growth_laws.ensures.below;
  more = c.keeping_laws.ensures.more;
  free = c.dump_laws.ensures.free;
  lines = λ s text can is. (c.dumps_are_reread.ensures s text can is).are_lines;
  names = c.names_are_made.ensures.bound;
  ends = c.names_are_made.ensures.gone;
  kernels = c.names_are_made.ensures.defined;
})
