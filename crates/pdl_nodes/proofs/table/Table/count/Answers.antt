use Rattle.std.proofs.Common.{length, sym, ◌∙◌, ap}
use Rattle.pdl_nodes.specs.Rows.{Rows}
use Rattle.pdl_nodes.proofs.table.Table.count.Goals as goal
use Rattle.pdl_nodes.proofs.TableSlots.{length_rows}

pub returns : goal.returns
returns c = c.len.ensures ∙ sym (length_rows c.self.inside.nodes c.self.inside.keys) ∙ ap (λ (t : Rows). length t) c.self.view_is
