use Rattle.std.proofs.Common.{refl, List, ◌≡◌, ◌+◌, ◌*◌, Ok, sym, ap, subst, ◌∙◌, rules, arith, w64, get_or, pos, of_z, to_z, drop, ◌<◌, length}
use mir.Val.{SFits}
use Rattle.std.proofs.lemmas.Int.{to_z-of_z}
use Rattle.pdl_kernel.specs.Over.{IsTreeOver}
use Rattle.pdl_kernel.specs.Meaning.{and_then, number_of, or_range, value}
use Rattle.pdl_kernel.specs.Scenes.{kinds_of, store_of}
use Rattle.pdl_code.specs.Tree.{access, named}
use Rattle.pdl_code.specs.TreeOf.{KernelEntry, indices_of, tree_of}
use Rattle.pdl_kernel.proofs.SceneLemmas.{access_is, each_is}
use Rattle.pdl_kernel.proofs.PlacesWalks.{few_entries, given_next, indices_weight, looped_next, near_more, rest_over, tree_weight, walked, walked_fault, walked_more}
use Rattle.pdl_kernel.proofs.eval.+eval.Goals as goal
use Rattle.pdl_kernel.proofs.eval.+eval.Goals.{place-in-Looped, place-in-Given+in-Ok}

pub place-loop-entry-init : goal.place-loop-entry-init
place-loop-entry-init t c = record {
  rest = search rules;
  over = c.requires.over;
  light = search rules;
  bound = search rules;
  few = few_entries (length c.args.argument.now.axes) c.args.entries.now c.requires.each;
}

pub place-loop-entry-preserved : goal.place-loop-entry-preserved
place-loop-entry-preserved t c =
    let i = c.loop-entry.entry-index in
    let es = c.args.entries.now in
    let m = store_of c.args.scene.now in
    let lt : i < length es = search rules in
    elim c.match-entry.branch [
      | place-in-Looped w ↦
          let word = w.in-Looped.word in
          let here = looped_next es i w.in-Looped.dimension word c.entry-item.result lt c.entry-item.is w.in-Looped.is in
          let fits : SFits w64 w.named.result = search rules in
          let number : to_z w64 (of_z w64 w.named.result) ≡ number_of c.args.loops.now m word = to_z-of_z w64 w.named.result fits ∙ w.named.ensures in
          let ok : value c.args.resolved.now.sizes c.args.loops.now m (named word) ≡ Ok (to_z w64 (of_z w64 w.named.result)) = ap Ok (sym number) in
          record {
            rest = walked_more c.args.resolved.now.sizes c.args.loops.now m c.axes-axes.result.now _ _ _ _ _ c.loop-entry.place c.match-entry.place _ here ok (w.place-is ∙ w.moved-place.ensures.value) c.loop-entry.invariant.rest;
            over = (rest_over (kinds_of c.args.scene.now) _ _ _ _ here c.loop-entry.invariant.over).1;
            light = (let more = ap indices_weight here in omega (arith, more, c.loop-entry.invariant.light));
            bound = near_more c.match-entry.place w.moved-place.result i w.place-is
                (w.moved-place.ensures.bound (1152921504606846976 + i * 4503599627370496) c.loop-entry.invariant.bound);
            few = c.loop-entry.invariant.few;
          }
      | place-in-Given+in-Ok w ↦
          let here = given_next es i w.in-Given.dimension w.in-Given.expr c.entry-item.result lt c.entry-item.is w.in-Given.is in
          let fits : SFits w64 w.in-Ok.index = search rules in
          let number : to_z w64 (of_z w64 w.in-Ok.index) ≡ w.in-Ok.index = to_z-of_z w64 w.in-Ok.index fits in
          let ok : value c.args.resolved.now.sizes c.args.loops.now m (tree_of w.in-Given.expr) ≡ Ok (to_z w64 (of_z w64 w.in-Ok.index)) = sym w.value.ensures ∙ w.in-Ok.is ∙ ap Ok (sym number) in
          record {
            rest = walked_more c.args.resolved.now.sizes c.args.loops.now m c.axes-axes.result.now _ _ _ _ _ c.loop-entry.place c.match-entry.place _ here ok (w.place-is ∙ w.moved-place-in-Ok.ensures.value) c.loop-entry.invariant.rest;
            over = (rest_over (kinds_of c.args.scene.now) _ _ _ _ here c.loop-entry.invariant.over).1;
            light = (let more = ap indices_weight here in omega (arith, more, c.loop-entry.invariant.light));
            bound = near_more c.match-entry.place w.moved-place-in-Ok.result i w.place-is
                (w.moved-place-in-Ok.ensures.bound (1152921504606846976 + i * 4503599627370496) c.loop-entry.invariant.bound);
            few = c.loop-entry.invariant.few;
          }
    ]

pub place-value-requires : goal.place-value-requires
place-value-requires t c =
    let es = c.args.entries.now in
    let i = c.loop-entry.entry-index in
    let lt : i < length es = search rules in
    let here = given_next es i c.in-Given.dimension c.in-Given.expr c.entry-item.result lt c.entry-item.is c.in-Given.is in
    let w : indices_weight (indices_of (drop i es)) ≡ tree_weight (tree_of c.in-Given.expr) + 1 + indices_weight (indices_of (drop (i + 1) es)) = ap indices_weight here in
    (search (rules, w, c.loop-entry.invariant.light), (rest_over (kinds_of c.args.scene.now) _ _ _ _ here c.loop-entry.invariant.over).0)

pub place-returns-in-Err-clause-value : goal.place-returns-in-Err-clause-value
place-returns-in-Err-clause-value t c =
    walked_fault c.args.resolved.now.sizes c.args.loops.now (store_of c.args.scene.now) c.axes-axes.result.now c.args.argument.now.axes c.args.entries.now c.loop-entry.entry-index c.in-Given.dimension c.args.argument.now.start c.loop-entry.place _ c.in-Given.expr c.in-Err.fault
    c.axes-axes.ensures.axes c.requires.each (search rules) c.entry-item.is c.in-Given.is (search rules) c.loop-entry.invariant.rest

pub place-returns-in-Some-clause-value : goal.place-returns-in-Some-clause-value
place-returns-in-Some-clause-value t c =
    ap or_range (sym c.in-Some.is) ∙ walked c.args.resolved.now.sizes c.args.loops.now (store_of c.args.scene.now) c.axes-axes.result.now c.args.argument.now.axes c.args.entries.now c.loop-entry.entry-index c.args.argument.now.start c.loop-entry.place c.axes-axes.ensures.axes c.requires.each (search rules) c.loop-entry.invariant.rest

pub place-returns-in-None-clause-value : goal.place-returns-in-None-clause-value
place-returns-in-None-clause-value t c =
    ap or_range (sym c.in-None.is) ∙ walked c.args.resolved.now.sizes c.args.loops.now (store_of c.args.scene.now) c.axes-axes.result.now c.args.argument.now.axes c.args.entries.now c.loop-entry.entry-index c.args.argument.now.start c.loop-entry.place c.axes-axes.ensures.axes c.requires.each (search rules) c.loop-entry.invariant.rest

pub value-element-requires : goal.value-element-requires
value-element-requires t c =
    let is = indices_of c.deref.result.now in
    let e : tree_of c.args.expr.now ≡ access c.in-Access.number is = ap tree_of c.in-Access.is ∙ c.rows_are_trees.ensures.access c.in-Access.number c.in-Access.entries ∙ ap (λ (xs : List KernelEntry). access c.in-Access.number (indices_of xs)) (sym c.deref.ensures.value) in
    let w : tree_weight (tree_of c.args.expr.now) ≡ indices_weight is + 1 = ap tree_weight e in
    (search (rules, w), subst (IsTreeOver (kinds_of c.args.scene.now)) e c.requires)

pub value-returns-in-Access : goal.value-returns-in-Access
value-returns-in-Access t c =
    let is = indices_of c.deref.result.now in
    let e : tree_of c.args.expr.now ≡ access c.in-Access.number is = ap tree_of c.in-Access.is ∙ c.rows_are_trees.ensures.access c.in-Access.number c.in-Access.entries ∙ ap (λ (xs : List KernelEntry). access c.in-Access.number (indices_of xs)) (sym c.deref.ensures.value) in
    c.element.ensures ∙ sym (ap (value c.args.resolved.now.sizes c.args.loops.now (store_of c.args.scene.now)) e)

pub operand-element-requires : goal.operand-element-requires
operand-element-requires t c =
    let is = indices_of c.deref.result.now in
    let e : tree_of c.args.expr.now ≡ access c.in-Access.number is = ap tree_of c.in-Access.is ∙ c.rows_are_trees.ensures.access c.in-Access.number c.in-Access.entries ∙ ap (λ (xs : List KernelEntry). access c.in-Access.number (indices_of xs)) (sym c.deref.ensures.value) in
    let w : tree_weight (tree_of c.args.expr.now) ≡ indices_weight is + 1 = ap tree_weight e in
    (search (rules, w), subst (IsTreeOver (kinds_of c.args.scene.now)) e c.requires)

pub operand-returns-in-Access : goal.operand-returns-in-Access
operand-returns-in-Access t c =
    let is = indices_of c.deref.result.now in
    let e : tree_of c.args.expr.now ≡ access c.in-Access.number is = ap tree_of c.in-Access.is ∙ c.rows_are_trees.ensures.access c.in-Access.number c.in-Access.entries ∙ ap (λ (xs : List KernelEntry). access c.in-Access.number (indices_of xs)) (sym c.deref.ensures.value) in
    c.element.ensures ∙ sym (ap (value c.args.resolved.now.sizes c.args.loops.now (store_of c.args.scene.now)) e)

pub element-place-requires : goal.element-place-requires
element-place-requires t c =
    let is = indices_of c.args.entries.now in
    (search rules, (each_is c.args.scene.now c.args.number c.argument_at-argument.result.now is c.argument_at-argument.ensures c.requires.0 c.requires.1.0, c.requires.1.1))

pub element-returns-in-Ok : goal.element-returns-in-Ok
element-returns-in-Ok t c =
    let is = indices_of c.args.entries.now in
    let w = c.argument_at-argument.result.now in
    let fits : SFits w64 c.element.result = search rules in
    ap Ok (to_z-of_z w64 c.element.result fits ∙ c.element.ensures)
    ∙ ap (λ r. and_then r (λ q. Ok (get_or w.elems q (pos 0)))) (sym c.in-Ok.is)
    ∙ access_is c.shape_laws.ensures.positions c.args.resolved.now.sizes c.args.loops.now c.args.scene.now (access c.args.number is) c.args.number is w c.place.result refl c.argument_at-argument.ensures c.requires.0 c.place.ensures.value

pub element-returns-in-Err : goal.element-returns-in-Err
element-returns-in-Err t c =
    let is = indices_of c.args.entries.now in
    let w = c.argument_at-argument.result.now in
    ap (λ r. and_then r (λ q. Ok (get_or w.elems q (pos 0)))) (sym c.in-Err.is)
    ∙ access_is c.shape_laws.ensures.positions c.args.resolved.now.sizes c.args.loops.now c.args.scene.now (access c.args.number is) c.args.number is w c.place.result refl c.argument_at-argument.ensures c.requires.0 c.place.ensures.value
