-- Steps and what waits, in the words of the world.
use Rattle.std.proofs.Common.{◌≡◌, ℕ, ℤ, eqb, cond, List, [], ◌∷◌, Some, option_and_then, refl, ap, true, ◌∙◌, All, arith, ◌+◌, sym, ◌&&◌, Bool, inl, inr, not, get_or, false, Option, None}
use Rattle.std.specs.Option.{option_map_or}
use Rattle.std.specs.Prelude.{sum_by}
use Rattle.std.proofs.lemmas.Bool.{eq-eqb}
use Rattle.std.proofs.lemmas.Bool.Decides.{eqb_tells}
use Rattle.std.proofs.lemmas.List.Elements.{All-tail}
use Rattle.std.proofs.lemmas.List.Sums.{sum_by-cons}
use Rattle.pdl_shape.specs.Shape.{size_of}
use Rattle.pdl_shape.specs.Triple.{whole_triple}
use Rattle.pdl_world.specs.Paths.{root_of, path}
use Rattle.pdl_world.specs.Swept.{is_listed}
use Rattle.pdl_world.specs.Windows.{window, narrowed, Window}
use Rattle.pdl_world.specs.World.{World, root, view, dims_in}
use Rattle.pdl_nodes.specs.Alike.{IsAlike}
use Rattle.pdl_push.specs.Targets.{MarksTarget}
use Rattle.pdl_push.specs.Targets.{target as rows_target}
use Rattle.pdl_nodes.specs.Families.{has_repeats}
use Rattle.pdl_nodes.specs.Holds.{Counts}
use Rattle.pdl_nodes.specs.Outcomes.{waiting_of}
use Rattle.pdl_pull.specs.Outdated.{outdated as rows_outdated}
use Rattle.pdl_nodes.specs.Outcomes.{outdated_at as rows_outdated_at}
use Rattle.pdl_nodes.specs.Outcomes.{waiting_size as rows_waiting_size}
use Rattle.pdl_nodes.specs.RowLaws.{RowLaws}
use Rattle.pdl_nodes.specs.Rows.{Rows, row_at, has, Falls}
use Rattle.pdl_nodes.specs.Seen.{IsSeen}
use Rattle.pdl_nodes.specs.Still.{IsStill}
use Rattle.pdl_nodes.specs.Worlds.{with_elements, shape, latest, world_of, places_in, places_seen}
use Rattle.pdl_engine.specs.State.{base, outdated_at, outdated, waiting_at, waiting, waiting_size, target, TargetIsFresh, State, PathIsFresh}
use Rattle.pdl_engine.specs.StateOf.{fresh_among, state_of, pending_in, pending_onto}
use Rattle.pdl_engine.proofs.StateOfWorlds.{root_are, fresh_is, path_live, path_with, live_has}

window_with : (f : ℕ → List ℤ) (w : World) (v : ℕ) → window (with_elements f w) v ≡ window w v
window_with f [] v = refl
window_with f ((k, root ty ds es) ∷ w) v = ap (λ o. cond (eqb k v) (Some (record { base = k; triple = whole_triple ds })) o) (window_with f w v)
window_with f ((k, view p t) ∷ w) v = ap (λ o. cond (eqb k v) (option_and_then (narrowed k t) o) o) (window_with f w (cond (eqb k v) p v))

pub base_are : (facts : RowLaws) → (rs : Rows) (v : ℕ) → IsStill rs → has rs v ≡ true → base (world_of rs) v ≡ (row_at rs v).base
base_are facts rs v s h = ap (λ o. option_map_or (λ (x : Window). x.base) o v) (window_with (latest rs) (shape rs) v ∙ (facts.seen.is_seen rs s v h).windows)

pub places_are : (facts : RowLaws) → (rs : Rows) (v : ℕ) → places_in (world_of rs) v ≡ places_seen rs v
places_are facts rs v = ap (λ o. option_map_or (λ l. l.places) o []) (facts.seen.look_with (latest rs) (shape rs) v)

sum_same : (f g : ℕ → ℕ) (xs : List ℕ) → All (λ x. f x ≡ g x) xs → sum_by f xs ≡ sum_by g xs
sum_same f g [] h = refl
sum_same f g (x ∷ xs) h =
    let a : f x ≡ g x = h 0 0 (omega arith) in
    let b : sum_by f xs ≡ sum_by g xs = sum_same f g xs (All-tail (λ y. f y ≡ g y) x xs h) in
    sum_by-cons f x xs ∙ ap (λ n. n + sum_by f xs) a ∙ ap (λ n. g x + n) b ∙ sym (sum_by-cons g x xs)

cost_same : (b n : ℕ) (u : ℕ) (x m k : Bool) → (b ≡ u → m ≡ k) → cond (eqb b u && x) (cond m 0 n) 0 ≡ cond (eqb b u && x) (cond k 0 n) 0
cost_same b n u x m k h = elim (eqb_tells b u) [
  | inl t ↦ rw (h t.1) refl
  | inr t ↦ rw t.0 refl
]

outdated_here : (facts : RowLaws) → (rs : Rows) (hs : Counts) (n u : ℕ) → IsStill rs → has rs u ≡ true → outdated_at (state_of rs hs n) u ≡ rows_outdated_at rs u
outdated_here facts rs hs n u s h =
    ap (λ b. cond (eqb b u && not (eqb (root_of (world_of rs) u) u)) (cond (is_listed (fresh_among rs rs) u) 0 (size_of (dims_in (world_of rs) u))) 0) (base_are facts rs u s h)
    ∙ ap (λ r. cond (eqb (row_at rs u).base u && not (eqb r u)) (cond (is_listed (fresh_among rs rs) u) 0 (size_of (dims_in (world_of rs) u))) 0) (root_are facts rs u s h)
    ∙ ap (λ ds. cond (eqb (row_at rs u).base u && not (eqb (row_at rs u).root u)) (cond (is_listed (fresh_among rs rs) u) 0 (size_of ds)) 0) (facts.seen.dims_are rs u s h)
    ∙ cost_same (row_at rs u).base (size_of (row_at rs u).triple.dims) u (not (eqb (row_at rs u).root u)) (is_listed (fresh_among rs rs) u) (row_at rs u).mark (λ e. fresh_is facts rs u s h ∙ ap (λ b. (row_at rs b).mark) e)

-- what is outdated on a path is so in the rows
pub outdated_is : (facts : RowLaws) → (rs : Rows) (hs : Counts) (n v : ℕ) → IsStill rs → has rs v ≡ true → outdated (state_of rs hs n) v ≡ rows_outdated rs v
outdated_is facts rs hs n v s h =
    ap (λ (xs : List ℕ). sum_by (outdated_at (state_of rs hs n)) xs) (path_with (latest rs) (shape rs) v)
    ∙ sum_same (outdated_at (state_of rs hs n)) (rows_outdated_at rs) (path (shape rs) v) (λ k d l. outdated_here facts rs hs n (get_or (path (shape rs) v) k d) s (path_live rs s v h k d l))

none_waits : (rs : Rows) (v : ℕ) → has rs v ≡ false → waiting_at (pending_in rs) v ≡ None
none_waits [] v h = refl
none_waits ((k, r) ∷ rs) v h = elim (eqb_tells k v) [
  | inl t ↦ (let x : true ≡ false = rw t.0 at h in absurd (cc))
  | inr t ↦ past r.waiting (none_waits rs v (rw t.0 at h)) t.0
] where
  past : (o : Option ℕ) → waiting_at (pending_in rs) v ≡ None → eqb k v ≡ false → waiting_at (pending_onto k o (pending_in rs)) v ≡ None
  past None i e = i
  past (Some w) i e = rw e i

pub waits_is : (facts : RowLaws) → (rs : Rows) (v : ℕ) → Falls rs → has rs v ≡ true → waiting_at (pending_in rs) v ≡ (row_at rs v).waiting
waits_is facts [] v f h = let x : false ≡ true = h in absurd (cc)
waits_is facts ((k, r) ∷ rs) v f h = elim (eqb_tells k v) [
  | inl t ↦ rw t.0 (here r.waiting t.0 (none_waits rs v (ap (has rs) (sym t.1) ∙ facts.numbers.newest_gone k rs f.0)))
  | inr t ↦ rw t.0 (past r.waiting t.0 (waits_is facts rs v f.1 (rw t.0 at h)))
] where
  here : (o : Option ℕ) → eqb k v ≡ true → waiting_at (pending_in rs) v ≡ None → waiting_at (pending_onto k o (pending_in rs)) v ≡ o
  here None e i = i
  here (Some w) e i = rw e refl

  past : (o : Option ℕ) → eqb k v ≡ false → waiting_at (pending_in rs) v ≡ (row_at rs v).waiting → waiting_at (pending_onto k o (pending_in rs)) v ≡ (row_at rs v).waiting
  past None e i = i
  past (Some w) e i = rw e i

-- so is what waits
pub waiting_is : (facts : RowLaws) → (rs : Rows) (hs : Counts) (n v : ℕ) → IsStill rs → has rs v ≡ true → waiting (state_of rs hs n) v ≡ waiting_of rs v
waiting_is facts rs hs n v s h =
    ap (waiting_at (pending_in rs)) (root_are facts rs v s h) ∙ waits_is facts rs (row_at rs v).root (facts.seen.falls rs s) (facts.seen.is_seen rs s v h).root_has

pub size_is : (facts : RowLaws) → (rs : Rows) (hs : Counts) (n : ℕ) (o : Option ℕ) → IsStill rs → ((u : ℕ) → o ≡ Some u → has rs u ≡ true) → waiting_size (state_of rs hs n) o ≡ rows_waiting_size rs o
size_is facts rs hs n None s h = refl
size_is facts rs hs n (Some u) s h = ap size_of (facts.seen.dims_are rs u s (h u refl))

pub target_is : (facts : RowLaws) → (rs : Rows) (v : ℕ) → IsStill rs → has rs v ≡ true → target (world_of rs) v ≡ rows_target rs v
target_is facts rs v s h =
    ap (λ b. cond (has_repeats (places_in (world_of rs) b)) (root_of (world_of rs) v) b) (base_are facts rs v s h)
    ∙ ap (λ ps. cond (has_repeats ps) (root_of (world_of rs) v) (row_at rs v).base) (places_are facts rs (row_at rs v).base)
    ∙ ap (λ r. cond (has_repeats (places_seen rs (row_at rs v).base)) r (row_at rs v).base) (root_are facts rs v s h)

-- what is shown by the target can be lent
pub target_fresh : (facts : RowLaws) → (old new : Rows) (hs gs : Counts) (n m v : ℕ) → IsStill old → IsStill new → has old v ≡ true → IsAlike old new → MarksTarget old v new → TargetIsFresh (state_of old hs n) v (state_of new gs m)
target_fresh facts old new hs gs n m v s t h a k u l r b =
    let g : has old u ≡ true = live_has facts old u l in
    let q : IsSeen old u = facts.seen.is_seen old s u g in
    let root : (row_at old u).root ≡ (row_at old v).root = sym (root_are facts old u s g) ∙ r ∙ root_are facts old v s h in
    let base : (row_at old u).base ≡ rows_target old v = sym (base_are facts old u s g) ∙ b ∙ target_is facts old v s h in
    fresh_is facts new u t (a.has_is u ∙ g) ∙ ap (λ x. (row_at new x).mark) (a.base_is u)
    ∙ k (row_at old u).base q.base_has ∙ rw (eq-eqb (row_at old (row_at old u).base).root (row_at old v).root (q.base_root ∙ root), eq-eqb (row_at old u).base (rows_target old v) base) refl

-- a path that can be lent
no_cost : (b f : Bool) (n : ℕ) → f ≡ true → cond b (cond f 0 n) 0 ≡ 0
no_cost true true n e = refl
no_cost true false n e = absurd (cc)
no_cost false f n e = refl

no_sum : (xs : List ℕ) → sum_by (λ x. 0) xs ≡ 0
no_sum [] = refl
no_sum (x ∷ xs) =
    let a : sum_by (λ y. 0) (x ∷ xs) ≡ 0 + sum_by (λ y. 0) xs = sum_by-cons (λ y. 0) x xs in
    let b : sum_by (λ y. 0) xs ≡ 0 = no_sum xs in
    omega (arith, a, b)

pub none_outdated : (s : State) (v : ℕ) → PathIsFresh s v → outdated s v ≡ 0
none_outdated s v h =
    sum_same (outdated_at s) (λ x. 0) (path s.world v) (λ k d l. no_cost ((eqb (base s.world (get_or (path s.world v) k d)) (get_or (path s.world v) k d)) && not (eqb (root_of s.world (get_or (path s.world v) k d)) (get_or (path s.world v) k d))) (is_listed s.fresh (get_or (path s.world v) k d)) (size_of (dims_in s.world (get_or (path s.world v) k d))) (h k d l))
    ∙ no_sum (path s.world v)
