-- One argument more.
use Rattle.std.proofs.Common.{◌≡◌, ◌+◌, ◌<◌, ◌∷◌, ℕ, List, false, length, drop, rules, ap, sym, subst, ◌∙◌}
use Rattle.std.specs.Prelude.{IsTrue}
use Rattle.pdl_sig.specs.declared.written.WrittenArg.{WrittenArg}
use Rattle.pdl_sig.specs.Refusals.{all_names, names_after}
use Rattle.pdl_sig.proofs.RefusalNames.{past_args}
use Rattle.pdl_sig.proofs.ResolutionSteps.{left_at}
use Rattle.pdl_sig.proofs.naming.all_names.Goals as goal

pub loop-arg-preserved : goal.loop-arg-preserved
loop-arg-preserved c =
    let args = c.args.args.now in
    let i = c.loop-arg.arg-index in
    let room : IsTrue c.in_ok-add_names.field-0 = search rules in
    record {
      same = ap (λ names. all_names names (drop (i + 1) args)) (c.in_ok-add_names.ensures.few room ∙ ap (names_after c.loop-arg.names.items) c.as_slice.ensures)
          ∙ sym (ap (all_names c.loop-arg.names.items) (left_at args i c.arg-item.result c.loop-arg-test.true c.arg-item.is))
          ∙ c.loop-arg.invariant.same;
      bound = c.in_ok-add_names.ensures.bound c.loop-arg.invariant.bound;
    }

pub returns-then-not-branch-clause-many : goal.returns-then-not-branch-clause-many
returns-then-not-branch-clause-many c = λ e.
    let names : List (List ℕ) = c.loop-arg.names.items in
    let args : List WrittenArg = c.args.args.now in
    let i : ℕ = c.loop-arg.arg-index in
    let a : WrittenArg = c.arg-item.result in
    let full : c.in_ok-add_names.field-0 ≡ false = search rules in
    let many : 8 < length (names_after names a.dims) =
    subst (λ ds. 8 < length (names_after names ds)) c.as_slice.ensures (c.in_ok-add_names.ensures.many full) in
    subst (λ (ns : List (List ℕ)). 8 < length ns) (ap (all_names names) (sym (left_at args i a c.loop-arg-test.true c.arg-item.is)) ∙ c.loop-arg.invariant.same) (past_args 8 names a (drop (i + 1) args) many)
