-- The elements of one array on the way to the places of another.
use Rattle.std.proofs.Common.{◌≡◌, ◌+◌, ◌≤◌, ℕ, ℤ, true, List, ◌∷◌, ◌++◌, length, take, drop, All, None, refl, sym, ◌∙◌, ap, subst, arith}
use Rattle.std.specs.Prelude.{sum_by}
use Rattle.std.proofs.Math.Seq.{take-add}
use Rattle.std.proofs.lemmas.Bool.{eq-eqb, ne_eqb}
use Rattle.std.proofs.lemmas.List.{length-take-le}
use Rattle.std.proofs.lemmas.List.Sums.{sum_by-cons, sum_by-le-sum_by}
use Rattle.pdl_elem.specs.Types.{InRange}
use Rattle.pdl_elem.specs.declared.Ty.{Ty}
use Rattle.pdl_shape.specs.Shape.{size_of}
use Rattle.pdl_world.specs.PartLaws.{NothingStays, PartsAssignSoundly, PartsJoin, PartsLeaveOthers}
use Rattle.pdl_world.specs.Parts.{assign_part}
use Rattle.pdl_world.specs.Paths.{path}
use Rattle.pdl_world.specs.Sound.{IsSound}
use Rattle.pdl_world.specs.World.{World, elements}
use Rattle.pdl_nodes.specs.Alike.{IsAlike, KeepsMarks, is_fresh_in}
use Rattle.pdl_nodes.specs.Outcomes.{IsReady, outdated_at, waiting_of}
use Rattle.pdl_nodes.specs.Row.{parent_of}
use Rattle.pdl_nodes.specs.RowLaws.{RowLaws}
use Rattle.pdl_nodes.specs.Rows.{Rows, has, row_at}
use Rattle.pdl_nodes.specs.Seen.{IsSeen, path_from}
use Rattle.pdl_nodes.specs.Still.{IsStill}
use Rattle.pdl_nodes.specs.Worlds.{places_in, places_seen, shape, world_of}
use Rattle.pdl_pull.specs.Filled.{IsKept}
use Rattle.pdl_pull.specs.Outdated.{outdated}
use Rattle.pdl_push.specs.Settled.{OthersWait}
use Rattle.pdl_push.specs.Targets.{IsAssignedAt, IsWriteThrough}
use Rattle.pdl_engine.specs.Through.{CanGoThrough, WentThrough, IsUnmarked, OthersStayMarked}
use Rattle.pdl_engine.proofs.StateOfWorlds.{root_are}

-- nothing was put yet
pub none_passed : (facts : RowLaws) → NothingStays → (rs : Rows) (v u : ℕ) → CanGoThrough rs v u → WentThrough rs v (take 0 (elements (world_of rs) u)) rs
none_passed facts nothing rs v u a = record {
  order = a.order;
  known = a.known;
  world = sym (nothing (world_of rs) v a.sound);
  sound = a.sound;
  alike = (facts.kept.ready_same rs a.order a.known).alike;
  marks = λ k h n m. m;
  waits = λ k. refl;
}

-- what is read is as it was at first
pub source_fresh : (facts : RowLaws) → (rs now : Rows) (v u : ℕ) (vs : List ℤ) → CanGoThrough rs v u → WentThrough rs v vs now → is_fresh_in now u ≡ true
source_fresh facts rs now v u vs a p =
    let s : IsSeen rs u = facts.seen.is_seen rs a.order.still u a.source in
    ap (λ b. (row_at now b).mark) (p.alike.base_is u) ∙ p.marks (row_at rs u).base s.base_has (λ e. a.apart (sym s.base_root ∙ e)) a.fresh

pub source_size : (rs now : Rows) (v u : ℕ) (vs : List ℤ) → CanGoThrough rs v u → WentThrough rs v vs now → size_of (row_at now u).triple.dims ≡ size_of (row_at rs v).triple.dims
source_size rs now v u vs a p = ap (λ t. size_of t.dims) (p.alike.triple_is u) ∙ a.count

pub source_elements : (facts : RowLaws) → PartsLeaveOthers → (rs now : Rows) (v u : ℕ) (vs : List ℤ) → CanGoThrough rs v u → WentThrough rs v vs now → elements (world_of now) u ≡ elements (world_of rs) u
source_elements facts others rs now v u vs a p =
    ap (λ w. elements w u) p.world
    ∙ others (world_of rs) v u 0 vs (λ e. a.apart (sym (root_are facts rs u a.order.still a.source) ∙ e ∙ root_are facts rs v a.order.still a.live))

-- and a block of it can be put where it belongs
pub passes_on : (rs now : Rows) (v u k : ℕ) (vs block : List ℤ) → CanGoThrough rs v u → waiting_of rs v ≡ None → WentThrough rs v vs now → k + length block ≤ size_of (row_at rs v).triple.dims → All (InRange (row_at now u).ty) block
    → IsWriteThrough now v k block
passes_on rs now v u k vs block a w p l r =
    let size : size_of (row_at now v).triple.dims ≡ size_of (row_at rs v).triple.dims = ap (λ t. size_of t.dims) (p.alike.triple_is v) in
    record {
      order = p.order;
      known = p.known;
      live = p.alike.has_is v ∙ a.live;
      settled = ap (λ x. (row_at now x).waiting) (p.alike.root_is v) ∙ p.waits (row_at rs v).root ∙ w;
      within = omega (arith, l, size);
      in_range = subst (λ (y : Ty). All (InRange y) block) (p.alike.ty_is u ∙ a.same_type ∙ sym (p.alike.ty_is v)) r;
    }

pub places_stay : (rs now : Rows) (v : ℕ) (vs : List ℤ) → WentThrough rs v vs now → places_seen now v ≡ places_seen rs v
places_stay rs now v vs p = ap (λ w. places_in w v) p.alike.shape_is

-- one block more
pub passed_more : (facts : RowLaws) → PartsJoin → PartsAssignSoundly → (rs now new : Rows) (v k n b : ℕ) (vs block : List ℤ) → k + n ≤ length vs → WentThrough rs v (take k vs) now → block ≡ take n (drop k vs)
    → IsWriteThrough now v k block → IsAssignedAt b now v k block new → ((u : ℕ) → (row_at new u).waiting ≡ (row_at now u).waiting) → WentThrough rs v (take (k + n) vs) new
passed_more facts join soundly rs now new v k n b vs block l p e f q w =
    let first : k ≡ 0 + length (take k vs) = omega (arith, length-take-le k vs (omega (arith, l))) in
    record {
      order = q.order;
      known = q.known;
      world = q.world ∙ ap (λ x. assign_part x v k block) p.world ∙ ap (λ i. assign_part (assign_part (world_of rs) v 0 (take k vs)) v i block) first
          ∙ join (world_of rs) v 0 (take k vs) block
          ∙ ap (assign_part (world_of rs) v 0) (ap (λ (x : List ℤ). take k vs ++ x) e ∙ sym (take-add k n vs));
      sound = subst (λ (x : World). IsSound x) (sym q.world) (soundly (world_of now) v k block p.sound (subst (λ (y : Ty). All (InRange y) block) (sym (facts.seen.ty_are now v p.order.still f.live)) f.in_range));
      alike = facts.kept.alike_trans rs now new p.alike q.alike;
      marks = λ u h d m. q.marks u (p.alike.has_is u ∙ h) ∙ rw (ne_eqb (row_at now u).root (row_at now v).root (λ y. d (sym (p.alike.root_is u) ∙ y ∙ p.alike.root_is v))) (p.marks u h d m);
      waits = λ u. w u ∙ p.waits u;
    }

-- ---- after the family was settled, and the places were found
-- it can be done still
pub can_still : (facts : RowLaws) → (old mid : Rows) (v u : ℕ) → CanGoThrough old v u → IsReady old mid → CanGoThrough mid v u
can_still facts old mid v u a r = record {
  order = r.order;
  known = r.known;
  sound = subst (λ (w : World). IsSound w) (sym r.world) a.sound;
  live = r.alike.has_is v ∙ a.live;
  source = r.alike.has_is u ∙ a.source;
  fresh = facts.kept.fresh_stays old mid u r.alike r.marks a.fresh;
  apart = λ e. a.apart (sym (r.alike.root_is u) ∙ e ∙ r.alike.root_is v);
  same_type = r.alike.ty_is u ∙ a.same_type ∙ sym (r.alike.ty_is v);
  count = ap (λ t. size_of t.dims) (r.alike.triple_is u) ∙ a.count ∙ sym (ap (λ t. size_of t.dims) (r.alike.triple_is v));
}

-- other families keep what waited
pub others_after : (old first mid new : Rows) (v : ℕ) → OthersWait old v first → IsKept first mid → ((u : ℕ) → (row_at new u).waiting ≡ (row_at mid u).waiting) → OthersWait old v new
others_after old first mid new v o k w = λ r h n. w r ∙ k.waits r ∙ o r h n

-- and what was marked
pub marks_after : (old mid new : Rows) (v : ℕ) (vs : List ℤ) → IsReady old mid → WentThrough mid v vs new → OthersStayMarked old v new
marks_after old mid new v vs r p = λ u h n m. p.marks u (r.alike.has_is u ∙ h) (λ e. n (sym (r.alike.root_is u) ∙ e ∙ r.alike.root_is v)) (r.marks u m)

-- ---- the steps
-- an unmarked view is outdated itself
pub itself_outdated : (rs : Rows) (v : ℕ) → IsUnmarked rs v → outdated_at rs v ≡ size_of (row_at rs v).triple.dims
itself_outdated rs v s = rw (eq-eqb (row_at rs v).base v s.own, ne_eqb (row_at rs v).root v s.view, s.mark) refl

path_cost : (facts : RowLaws) → (rs : Rows) (v : ℕ) → IsStill rs → has rs v ≡ true → outdated rs v ≡ outdated_at rs v + sum_by (outdated_at rs) (path_from rs (parent_of (row_at rs v)))
path_cost facts rs v s h = ap (λ (xs : List ℕ). sum_by (outdated_at rs) xs) (facts.seen.path_is rs s v h) ∙ sum_by-cons (outdated_at rs) v (path_from rs (parent_of (row_at rs v)))

-- what is outdated above it doesn't grow
pub less_above : (facts : RowLaws) → (old new : Rows) (v : ℕ) → IsStill old → has old v ≡ true → IsAlike old new → KeepsMarks old new → outdated new v + outdated_at old v ≤ outdated old v + outdated_at new v
less_above facts old new v s h a m =
    let xs : List ℕ = path_from old (parent_of (row_at old v)) in
    let same : path (shape new) v ≡ v ∷ xs = ap (λ w. path w v) a.shape_is ∙ facts.seen.path_is old s v h in
    let after : outdated new v ≡ outdated_at new v + sum_by (outdated_at new) xs = ap (λ (ys : List ℕ). sum_by (outdated_at new) ys) same ∙ sum_by-cons (outdated_at new) v xs in
    let before : outdated old v ≡ outdated_at old v + sum_by (outdated_at old) xs = path_cost facts old v s h in
    let less : sum_by (outdated_at new) xs ≤ sum_by (outdated_at old) xs = sum_by-le-sum_by (outdated_at new) (outdated_at old) xs (λ x. facts.kept.less_outdated old new x a m) in
    omega (arith, after, before, less)
