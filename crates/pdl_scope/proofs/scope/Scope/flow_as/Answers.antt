use Rattle.std.proofs.Common.{◌≡◌, [], Ok, sym, ap, subst, ◌∙◌}
use Rattle.pdl_buf.specs.declared.made.Made.{Made}
use Rattle.pdl_flow.specs.Formula.{tree_of}
use Rattle.pdl_machine.specs.Arrays.{Arrays, array_in}
use Rattle.pdl_machine.specs.Outcome.{new_root}
use Rattle.pdl_machine.specs.Step.{Stepped, begun, bound}
use Rattle.pdl_scope.specs.Answers.{Runs}
use Rattle.pdl_scope.specs.Growth.{grows_trans, reads_grow}
use Rattle.pdl_scope.specs.Scope.{machine}
use Rattle.pdl_scope.proofs.ScopeFlows.{RootLaws, begun_flows, begun_so, runs_then}
use Rattle.pdl_scope.proofs.scope.Scope.flow_as.Goals as goal

pub begin-requires-clause-flows : goal.begin-requires-clause-flows
begin-requires-clause-flows g c =
    let s = c.args.self.now in
    let mid = c.copied.new.self in
    let end = c.adopt.new.self in
    let v = c.args.value in
    let f = tree_of c.args.formula in
    let made : new_root s.arrays (array_in s.arrays v) ≡ Ok (end.arrays, c.in_ok-root.root) =
    ap (λ (m : Made). new_root s.arrays m) (sym c.in_ok-made.ensures.value) ∙ ap (λ (a : Arrays). new_root a c.in_ok-made.made) (sym c.copied.ensures.same.arrays) ∙ c.in_ok-root.ensures.value.0 in
    let laws : RootLaws = record {
      growth = record { stay = c.flow_laws.ensures.stay; older = c.growth_laws.ensures.older; elements = c.growth_laws.ensures.older_elements; paths = c.growth_laws.ensures.older_paths };
      meaning = c.meaning_laws.ensures;
      below = c.growth_laws.ensures.below;
      seen = c.newest_laws.ensures.root_seen;
      whole = c.newest_laws.ensures.root_whole;
      path = c.newest_laws.ensures.root_path;
    } in
    begun_flows laws s end v c.in_ok-root.root f c.whole.ensures c.whole-2.ensures (c.adopt.ensures.grown.flows ∙ c.copied.ensures.same.flows) c.requires.formula c.requires.live c.requires.equal made

pub returns-clause-runs : goal.returns-clause-runs
returns-clause-runs g c =
    let s = c.args.self.now in
    let mid = c.copied.new.self in
    let end = c.adopt.new.self in
    let v = c.args.value in
    let f = tree_of c.args.formula in
    let made : new_root s.arrays (array_in s.arrays v) ≡ Ok (end.arrays, c.in_ok-root.root) =
    ap (λ (m : Made). new_root s.arrays m) (sym c.in_ok-made.ensures.value) ∙ ap (λ (a : Arrays). new_root a c.in_ok-made.made) (sym c.copied.ensures.same.arrays) ∙ c.in_ok-root.ensures.value.0 in
    let grown = grows_trans s mid end (reads_grow s mid c.copied.ensures.same) c.adopt.ensures.grown in
    let W : Stepped → Type 0 = λ wanted. Runs wanted end c.begin.new.self [] [] c.begin.result in
    runs_then (bound (begun (machine s) s.arrays f) c.args.name.now (new_root s.arrays (array_in s.arrays v))) s end c.begin.new.self c.begin.result grown
    (subst W (begun_so s end c.args.name.now v c.in_ok-root.root f grown made) c.begin.ensures.runs)
