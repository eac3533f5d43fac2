use Rattle.std.proofs.Common.{◌≡◌, ℕ, ◌+◌, true, false, get_or, drop, [], ◌∷◌, refl, sym, ◌∙◌, subst, arith}
use Rattle.std.proofs.lemmas.List.{drop_all, drop_more}
use Rattle.pdl_nodes.specs.Renewed.{renew}
use Rattle.pdl_nodes.specs.Rows.{Rows, has, row_at}
use Rattle.pdl_nodes.proofs.RenewedLoop.{AreLeft, IsRenewing, can_next, left_goes, renewing_begins, renewing_done, renewing_goes, renewing_live, rows_left}
use Rattle.pdl_nodes.proofs.RenewLawOrder.{none_marked}
use Rattle.pdl_nodes.proofs.table.Table.renew.Goals as goal

pub loop-view-init : goal.loop-view-init
loop-view-init c = (renewing_begins c.args.layouts c.args.self.now c.args.id c.args.dims.now c.args.kept.elems c.become_root.new.self c.args.below.now c.requires.can c.requires.below c.become_root.ensures, λ u h. refl)

pub renew_one-requires-clause-live : goal.renew_one-requires-clause-live
renew_one-requires-clause-live c =
    let more : drop c.loop-view.view-index c.args.below.now ≡ get_or c.args.below.now c.loop-view.view-index 0 ∷ drop (c.loop-view.view-index + 1) c.args.below.now = drop_more c.args.below.now c.loop-view.view-index 0 (omega (arith, c.loop-view-test.true)) in
    renewing_live c.args.layouts c.args.self.now c.args.id c.args.dims.now c.args.kept.elems c.loop-view.self _ (drop (c.loop-view.view-index + 1) c.args.below.now) c.requires.can
    (subst (IsRenewing c.args.layouts c.args.self.now c.args.id c.args.dims.now c.args.kept.elems c.loop-view.self) more c.loop-view.invariant.0)

pub renew_one-requires-clause-can : goal.renew_one-requires-clause-can
renew_one-requires-clause-can c =
    let more : drop c.loop-view.view-index c.args.below.now ≡ get_or c.args.below.now c.loop-view.view-index 0 ∷ drop (c.loop-view.view-index + 1) c.args.below.now = drop_more c.args.below.now c.loop-view.view-index 0 (omega (arith, c.loop-view-test.true)) in
    can_next c.args.layouts c.loop-view.layouts c.args.self.now c.args.id c.args.dims.now c.args.kept.elems c.loop-view.self _ (drop (c.loop-view.view-index + 1) c.args.below.now) c.requires.can
    (subst (IsRenewing c.args.layouts c.args.self.now c.args.id c.args.dims.now c.args.kept.elems c.loop-view.self) more c.loop-view.invariant.0)
    (subst (AreLeft c.args.layouts c.loop-view.layouts) more c.loop-view.invariant.1)

pub loop-view-preserved : goal.loop-view-preserved
loop-view-preserved c =
    let more : drop c.loop-view.view-index c.args.below.now ≡ get_or c.args.below.now c.loop-view.view-index 0 ∷ drop (c.loop-view.view-index + 1) c.args.below.now = drop_more c.args.below.now c.loop-view.view-index 0 (omega (arith, c.loop-view-test.true)) in
    let at : IsRenewing c.args.layouts c.args.self.now c.args.id c.args.dims.now c.args.kept.elems c.loop-view.self (get_or c.args.below.now c.loop-view.view-index 0 ∷ drop (c.loop-view.view-index + 1) c.args.below.now) =
    subst (IsRenewing c.args.layouts c.args.self.now c.args.id c.args.dims.now c.args.kept.elems c.loop-view.self) more c.loop-view.invariant.0 in
    let left : AreLeft c.args.layouts c.loop-view.layouts (get_or c.args.below.now c.loop-view.view-index 0 ∷ drop (c.loop-view.view-index + 1) c.args.below.now) = subst (AreLeft c.args.layouts c.loop-view.layouts) more c.loop-view.invariant.1 in (
      renewing_goes c.args.layouts c.args.self.now c.args.id c.args.dims.now c.args.kept.elems c.loop-view.self c.renew_one.new.self (get_or c.args.below.now c.loop-view.view-index 0) (drop (c.loop-view.view-index + 1) c.args.below.now) c.requires.can at
          (rows_left c.args.layouts c.loop-view.layouts c.args.self.now c.args.id c.args.dims.now c.args.kept.elems c.loop-view.self c.renew_one.new.self (get_or c.args.below.now c.loop-view.view-index 0) (drop (c.loop-view.view-index + 1) c.args.below.now) c.requires.can at left c.renew_one.ensures.rows),
      left_goes c.args.layouts c.loop-view.layouts c.renew_one.new.layouts c.args.self.now c.args.id c.args.dims.now c.args.kept.elems c.loop-view.self (get_or c.args.below.now c.loop-view.view-index 0) (drop (c.loop-view.view-index + 1) c.args.below.now) at left c.renew_one.ensures.left,
    )

pub unlist-requires : goal.unlist-requires
unlist-requires c =
    let none : drop c.loop-view.view-index c.args.below.now ≡ [] = drop_all c.loop-view.view-index c.args.below.now (omega (arith, c.loop-view-test.false)) in
    let rows : c.loop-view.self ≡ renew c.args.layouts c.args.self.now c.args.id c.args.dims.now c.args.kept.elems = renewing_done c.args.layouts c.args.self.now c.args.id c.args.dims.now c.args.kept.elems c.loop-view.self c.requires.can
    (subst (IsRenewing c.args.layouts c.args.self.now c.args.id c.args.dims.now c.args.kept.elems c.loop-view.self) none c.loop-view.invariant.0) in
    let P : Rows → Type 0 = λ t. (u : ℕ) → has t u ≡ true → (row_at t u).root ≡ c.args.id → (u ≡ c.args.id → ⊥) → (row_at t u).mark ≡ false in
    subst P (sym rows) (none_marked c.args.layouts c.args.self.now c.args.id c.args.dims.now c.args.kept.elems c.requires.can)

pub returns : goal.returns
returns c =
    let none : drop c.loop-view.view-index c.args.below.now ≡ [] = drop_all c.loop-view.view-index c.args.below.now (omega (arith, c.loop-view-test.false)) in
    c.unlist.ensures ∙ renewing_done c.args.layouts c.args.self.now c.args.id c.args.dims.now c.args.kept.elems c.loop-view.self c.requires.can
    (subst (IsRenewing c.args.layouts c.args.self.now c.args.id c.args.dims.now c.args.kept.elems c.loop-view.self) none c.loop-view.invariant.0)
