-- What statements move where no view goes.
use Rattle.std.proofs.Common.{◌≡◌, ℕ, ◌+◌, ◌≤◌, Option, Ok, IsOkAnd, sym, ap, subst, ◌∙◌, arith}
use Rattle.std.specs.Option.{option_map_or}
use Rattle.pdl_syntax.specs.StatementTree.{show}
use Rattle.pdl_syntax.specs.Tree.{named}
use Rattle.pdl_engine.specs.Reading.{IsView, KeepsViews}
use Rattle.pdl_engine.specs.State.{ready_steps}
use Rattle.pdl_machine.specs.Arrays.{Arrays, array_in}
use Rattle.pdl_machine.specs.State.{State, kept, with_arrays}
use Rattle.pdl_machine.specs.Step.{Stepped, after_printing, effect, printed}
use Rattle.pdl_machine.specs.Then.{and_then}
use Rattle.pdl_machine.specs.Value.{known}
use Rattle.pdl_scope.specs.Costs.{total_size}
use Rattle.pdl_scope.specs.Scope.{engine_of, machine}
use Rattle.pdl_session.specs.Costs.{named_steps}
use Rattle.pdl_session.specs.Came.{came, evaluated}
use Rattle.pdl_session.specs.MovesLaws.{KeptViewsCostNothing, ReadyPrintsMoveNothing}
use Rattle.pdl_session.specs.Statements.{MovesByForm}

pub kept_views_cost_nothing : KeptViewsCostNothing
kept_views_cost_nothing present st old new before after to text m is keeps =
    let mid_is : machine m.mid ≡ to = subst (λ (x : Stepped). IsOkAnd x (λ a. machine m.mid ≡ a.0)) is m.ran in
    let world : new.arrays.world ≡ kept (machine m.mid) = ap (λ (s : State). s.arrays.world) m.left in
    let mid_keeps : KeepsViews m.mid.arrays.world (kept (machine m.mid)) = subst (λ (s : State). KeepsViews s.arrays.world (kept s)) (sym mid_is) keeps in
    let same : after ≡ m.now = m.counted (subst (λ w. KeepsViews m.mid.arrays.world w) (sym world) mid_keeps) in
    subst (MovesByForm st old before) (sym same) m.by_form

pub ready_prints_move_nothing : ReadyPrintsMoveNothing
ready_prints_move_nothing present x is_info v old new before after swept m bound ready =
    let is : effect present (machine old) (show (named x) is_info) ≡ Ok (with_arrays (machine old) old.arrays, printed is_info (array_in old.arrays v)) =
    ap (λ (o : Option ℕ). and_then (known old.arrays o) (λ u. Ok (after_printing (machine old) is_info u))) bound in
    let alone : MovesByForm (show (named x) is_info) old before after =
    kept_views_cost_nothing present (show (named x) is_info) old new before after (with_arrays (machine old) old.arrays) (printed is_info (array_in old.arrays v)) m is (λ u view. subst (λ w. IsView w u) (sym swept.arrays) view) in
    let late : evaluated old.names old.arrays (named x) ≡ old.arrays = ap (λ (o : Option ℕ). came (known old.arrays o) old.arrays) bound in
    let cost : named_steps old (named x) ≡ 0 = ap (λ (o : Option ℕ). option_map_or (ready_steps (engine_of old)) o 0) bound ∙ ready in
    let sizes : total_size (evaluated old.names old.arrays (named x)).world ≡ total_size old.arrays.world = ap (λ (a : Arrays). total_size a.world) late in
    let moved : after + total_size old.arrays.world ≤ before + total_size (evaluated old.names old.arrays (named x)).world + named_steps old (named x) = alone in
    omega (arith, sizes, cost, moved)
