use Rattle.pdl_rebuild.proofs.MadePieces.{PieceLaws, pieces_are_given, least_are_given}
use Rattle.pdl_rebuild.proofs.elements_are_given.Goals as goal

pub returns : goal.returns
returns c =
    let laws : PieceLaws = record {
      numbers = record {
        older = record {
          older = c.growth_laws.ensures.older;
          elems = c.growth_laws.ensures.older_elements;
          paths = c.growth_laws.ensures.older_paths;
        };
        seen = c.newest_laws.ensures.root_seen;
        whole = c.newest_laws.ensures.root_whole;
        wrapping = c.wrapping_laws.ensures;
      };
      root_path = c.newest_laws.ensures.root_path;
      view_path = c.newest_laws.ensures.view_path;
      positions = c.shape_laws.ensures.positions;
      sizes = c.shape_laws.ensures.sizes;
      itself = c.value_laws.ensures.itself;
      meaning = c.slice_meaning.ensures;
      keeps = c.keeping_laws.ensures.newest;
      kept = c.keeping_laws.ensures.kept;
    } in
    record { pieces = pieces_are_given laws; least = least_are_given laws }
