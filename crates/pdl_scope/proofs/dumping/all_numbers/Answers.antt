use Rattle.std.proofs.Common.{◌≡◌, ℕ, List, length, take, Some, None, refl, sym, ap, ◌∙◌, subst}
use Rattle.std.specs.Prelude.{slice_get}
use Rattle.pdl_engine.specs.Looks.{array_numbers}
use Rattle.pdl_scope.proofs.DumpingNumbers.{Laws, fewer_left, first_is, length_more, listed_live, listed_more, next_number, taken_all}
use Rattle.pdl_scope.proofs.dumping.all_numbers.Goals as goal

pub loop-next-init : goal.loop-next-init
loop-next-init c =
    let numbers = array_numbers c.args.engine.now.world in
    record {
      listed = c.in_ok-ids.ensures.items ∙ ap (λ (ks : List ℕ). take (length ks) numbers) (sym c.in_ok-ids.ensures.items);
      next_is = c.next_live-next.ensures ∙ first_is numbers ∙ ap (λ (ks : List ℕ). slice_get numbers (length ks)) (sym c.in_ok-ids.ensures.items);
    }

pub next_live-next-requires-in-Some : goal.next_live-next-requires-in-Some
next_live-next-requires-in-Some c =
    let laws : Laws = record {
      below = c.write_arrays_laws.ensures.below;
      older = c.write_arrays_laws.ensures.older;
      elements = c.write_arrays_laws.ensures.older_elements;
      live = c.write_arrays_laws.ensures.live;
      seen = c.write_arrays_laws.ensures.root_seen;
    } in
    listed_live laws c.args.engine.now.world (length c.loop-next.ids.items) c.in-Some.id c.requires
    (sym c.loop-next.invariant.next_is ∙ c.in-Some.is)

pub loop-next-smaller : goal.loop-next-smaller
loop-next-smaller c =
    fewer_left (array_numbers c.args.engine.now.world) c.loop-next.ids.items c.push.new.self.items c.in-Some.id c.in_ok-push.ensures.items
    (sym c.loop-next.invariant.next_is ∙ c.in-Some.is)

pub loop-next-preserved : goal.loop-next-preserved
loop-next-preserved c =
    let numbers = array_numbers c.args.engine.now.world in
    let old = c.loop-next.ids.items in
    let new = c.push.new.self.items in
    let id = c.in-Some.id in
    let here : slice_get numbers (length old) ≡ Some id = sym c.loop-next.invariant.next_is ∙ c.in-Some.is in
    record {
      listed = listed_more numbers old new id c.in_ok-push.ensures.items c.loop-next.invariant.listed here;
      next_is = c.next_live-next-in-Some.ensures ∙ next_number c.args.engine.now.world (length old) id c.requires here
          ∙ ap (slice_get numbers) (sym (length_more old new id c.in_ok-push.ensures.items));
    }

pub returns : goal.returns
returns c =
    c.loop-next.invariant.listed
    ∙ taken_all (array_numbers c.args.engine.now.world) (length c.loop-next.ids.items) (sym c.loop-next.invariant.next_is ∙ c.in_default.is)
