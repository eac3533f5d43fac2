-- Each place in turn gives the one so far past it.
use Rattle.std.proofs.Common.{◌+◌, ℕ, Some, rules}
use Rattle.std.proofs.lemmas.Iterator.{YieldsList-from_map, YieldsList-from_slice}
use Rattle.std.proofs.lemmas.Iterator.Adapters.{items_from_extend}
use Rattle.std.proofs.lemmas.Iterator.Consumers.{YieldsList-at}
use Rattle.std.proofs.lemmas.Result.{on_ok_weaker}
use Rattle.pdl_choice.proofs.windows.push_past.Goals as goal

pub returns : goal.returns
returns c = on_ok_weaker c.extend.result (λ all. all.0) (items_from_extend c.extend.result c.extend.ensures.ran (YieldsList-from_map _ (λ (base : ℕ). Some (base + c.args.past)) (YieldsList-at c.map.ensures.source (YieldsList-from_slice c.args.bases.now cc)) c.map.ensures.closure (λ x r q k. search rules)))
