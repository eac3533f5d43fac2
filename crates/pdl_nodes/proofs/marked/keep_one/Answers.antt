use Rattle.std.proofs.Common.{rules, nat_eq}
use Rattle.std.proofs.lemmas.Fn.{filter_same}
use Rattle.pdl_nodes.proofs.marked.keep_one.Goals as goal

pub returns : goal.returns
returns c = filter_same _ (λ v. nat_eq v c.args.id) _ (λ x b f k. search rules) c.args.views.now.items c.retain.new.self.items c.retain.ensures.filtered
