use Rattle.pdl_rebuild.proofs.MadeRoots.{roots_are_made}
use Rattle.pdl_rebuild.proofs.roots_are_made.Goals as goal

pub returns : goal.returns
returns c = roots_are_made (record {
  older = record {
    older = c.growth_laws.ensures.older;
    elems = c.growth_laws.ensures.older_elements;
    paths = c.growth_laws.ensures.older_paths;
  };
  seen = c.newest_laws.ensures.root_seen;
  whole = c.newest_laws.ensures.root_whole;
  wrapping = c.wrapping_laws.ensures;
}) c.keeping_laws.ensures.more
