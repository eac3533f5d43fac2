use Rattle.std.proofs.Common.{◌≡◌, false, rules}
use Rattle.std.proofs.lemmas.List.Sorted.{answers_always}
use Rattle.pdl_machine.specs.Flows.{is_flow}
use Rattle.pdl_scope.specs.Flowing.{HasRootAt}
use Rattle.pdl_scope.proofs.FlowingHalves.{found_place, search_ends}
use Rattle.pdl_scope.proofs.flowing.place_of_flow.Goals as goal

pub returns-clause-here : goal.returns-clause-here
returns-clause-here c =
    let fs = c.args.flows.now in
    let facts = c.binary_search_by_key.ensures in
    let by_root = facts.position (λ flow. flow.root) (answers_always _ _ _ (λ f a r g called. search rules)) in
    (found_place (HasRootAt fs c.args.root) (is_flow fs c.args.root ≡ false) c.binary_search_by_key.result c.ok.result c.ok.ensures.value (search_ends fs c.args.root c.binary_search_by_key.result c.requires facts.bound by_root)).0

pub returns-clause-none : goal.returns-clause-none
returns-clause-none c =
    let fs = c.args.flows.now in
    let facts = c.binary_search_by_key.ensures in
    let by_root = facts.position (λ flow. flow.root) (answers_always _ _ _ (λ f a r g called. search rules)) in
    (found_place (HasRootAt fs c.args.root) (is_flow fs c.args.root ≡ false) c.binary_search_by_key.result c.ok.result c.ok.ensures.value (search_ends fs c.args.root c.binary_search_by_key.result c.requires facts.bound by_root)).1
