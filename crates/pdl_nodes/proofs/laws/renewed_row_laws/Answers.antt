use Rattle.pdl_nodes.proofs.SizedBelow.{LawsBelow}
use Rattle.pdl_nodes.proofs.RelayingLemmas.{relaid_stay}
use Rattle.pdl_nodes.proofs.RenewLawLayouts.{severs, can_renew}
use Rattle.pdl_nodes.proofs.RenewLawOrder.{roots, reshapes, outdated, leaves_families, leaves_others, settled, known, sized}
use Rattle.pdl_nodes.proofs.RenewedRows.{renew_has, renew_row}
use Rattle.pdl_nodes.proofs.laws.renewed_row_laws.Goals as goal

pub returns : goal.returns
returns c =
    let laws : LawsBelow = record {
      views = record {
        positions = c.shape_laws.ensures.positions;
        in_order = c.shape_laws.ensures.wholes;
        sources = c.view_laws.ensures.sources;
        composed = c.window_laws.ensures.composed;
        uncomposed = c.window_laws.ensures.uncomposed;
      };
      wholes = c.triple_laws.ensures.wholes;
    } in
    record {
      roots = roots laws;
      reshapes = reshapes laws;
      severs = severs laws;
      relaid = can_renew laws;
      stay = relaid_stay;
      outdated = outdated laws;
      others = leaves_others;
      families = leaves_families;
      settled = settled;
      known = known laws;
      sized = sized laws;
      numbers = λ ls rs v ds es u. renew_has ls rs v ds es u;
      makes = λ ls rs v ds es h. renew_row ls rs v ds es h;
    }
