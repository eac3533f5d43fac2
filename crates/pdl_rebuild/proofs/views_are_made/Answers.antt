use Rattle.pdl_rebuild.proofs.ShownViews.{ViewLaws, affine_views_are_made, chosen_views_are_made}
use Rattle.pdl_rebuild.proofs.views_are_made.Goals as goal

pub returns : goal.returns
returns c =
    let laws : ViewLaws = record {
      numbers = record {
        older = record {
          older = c.growth_laws.ensures.older;
          elems = c.growth_laws.ensures.older_elements;
          paths = c.growth_laws.ensures.older_paths;
        };
        seen = c.newest_laws.ensures.root_seen;
        whole = c.newest_laws.ensures.root_whole;
        wrapping = c.wrapping_laws.ensures;
      };
      more = c.keeping_laws.ensures.more;
      below = c.growth_laws.ensures.below;
      texts = c.written_slices.ensures;
      masks = c.dump_laws.ensures.masks;
    } in
    record { affine = affine_views_are_made laws; chosen = chosen_views_are_made laws }
