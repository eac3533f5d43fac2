-- Paths of arrays: when all on them are fresh, what is outdated, and its cost.
use Rattle.std.proofs.Common.{◌≡◌, ℕ, ◌+◌, true, false, List, [], ◌∷◌, get_or, All, Option, Some, None, refl, sym, ◌∙◌, ap, subst, arith}
use Rattle.std.specs.Prelude.{sum_by}
use Rattle.std.proofs.lemmas.Bool.{eq-eqb, ne_eqb}
use Rattle.std.proofs.lemmas.List.Elements.{All-cons}
use Rattle.std.proofs.lemmas.List.Sums.{sum_by-cons}
use Rattle.pdl_shape.specs.Shape.{size_of}
use Rattle.pdl_shape.specs.Triple.{Triple}
use Rattle.pdl_world.specs.Paths.{path}
use Rattle.pdl_world.specs.Windows.{over}
use Rattle.pdl_world.specs.World.{World}
use Rattle.pdl_nodes.specs.Alike.{IsAlike, KeepsMarks, is_fresh_in}
use Rattle.pdl_nodes.specs.Families.{InOrder}
use Rattle.pdl_nodes.specs.Outcomes.{PathIsFresh, outdated_at}
use Rattle.pdl_nodes.specs.Row.{parent_from, parent_of}
use Rattle.pdl_nodes.specs.RowLaws.{RowLaws}
use Rattle.pdl_nodes.specs.Rows.{Rows, row_at, has}
use Rattle.pdl_nodes.specs.Seen.{IsViewAt, path_from}
use Rattle.pdl_nodes.specs.Still.{base_over, IsStill}
use Rattle.pdl_nodes.specs.Worlds.{shape, IsRoot}
use Rattle.pdl_nodes.specs.declared.origin.Origin.{Origin}
use Rattle.pdl_nodes.specs.declared.origin.Origin.TheVariants.{Root, View}
use Rattle.pdl_pull.specs.Filled.{IsOutdated, IsFilled, ParentIsFresh}
use Rattle.pdl_pull.specs.Outdated.{outdated}

-- the path of a view is the view and its parent's path, and that of a root is the root
pub path_over : (facts : RowLaws) → (rs : Rows) (v p : ℕ) → IsStill rs → has rs v ≡ true → parent_of (row_at rs v) ≡ Some p → path (shape rs) v ≡ v ∷ path (shape rs) p
path_over facts rs v p s h e = facts.seen.path_is rs s v h ∙ ap (λ o. v ∷ path_from rs o) e

pub path_alone : (facts : RowLaws) → (rs : Rows) (v : ℕ) → IsStill rs → has rs v ≡ true → parent_of (row_at rs v) ≡ None → path (shape rs) v ≡ v ∷ []
path_alone facts rs v s h e = facts.seen.path_is rs s v h ∙ ap (λ o. v ∷ path_from rs o) e

-- what is fresh stays so where no mark is lost
all_fresh : (facts : RowLaws) → (old new : Rows) (xs : List ℕ) → IsAlike old new → KeepsMarks old new → All (λ u. is_fresh_in old u ≡ true) xs → All (λ u. is_fresh_in new u ≡ true) xs
all_fresh facts old new xs a m h = λ k d l. facts.kept.fresh_stays old new (get_or xs k d) a m (h k d l)

path_fresh_from : (facts : RowLaws) → (old new : Rows) (o : Option ℕ) → IsAlike old new → KeepsMarks old new → ((p : ℕ) → o ≡ Some p → PathIsFresh old p) → All (λ u. is_fresh_in new u ≡ true) (path_from new o)
path_fresh_from facts old new None a m h = λ k d l. (let z : ⊥ = omega arith in absurd z)
path_fresh_from facts old new (Some p) a m h =
    let P : World → Type 0 = λ w. All (λ u. is_fresh_in new u ≡ true) (path w p) in
    subst P (sym a.shape_is) (all_fresh facts old new (path (shape old) p) a m (h p refl))

-- the path of an array is fresh once its parent's is and it is itself
path_fresh : (facts : RowLaws) → (old new : Rows) (v : ℕ) → IsStill new → has new v ≡ true → IsAlike old new → KeepsMarks old new → parent_of (row_at new v) ≡ parent_of (row_at old v) → ((p : ℕ) → parent_of (row_at old v) ≡ Some p → PathIsFresh old p) → is_fresh_in new v ≡ true → PathIsFresh new v
path_fresh facts old new v s h a m e f i =
    let P : List ℕ → Type 0 = λ xs. All (λ u. is_fresh_in new u ≡ true) xs in
    subst P (sym (facts.seen.path_is new s v h ∙ ap (λ o. v ∷ path_from new o) e)) (All-cons (λ u. is_fresh_in new u ≡ true) v (path_from new (parent_of (row_at old v))) i (path_fresh_from facts old new (parent_of (row_at old v)) a m f))

-- an array that isn't fresh but whose parent is, is its own base
pub record IsStale (rs : Rows) (v : ℕ) : Type 0 where
  pub own : (row_at rs v).base ≡ v
  pub view : (row_at rs v).root ≡ v → ⊥
  pub unmarked : (row_at rs v).mark ≡ false

stale_view : (rs : Rows) (v p : ℕ) (o : Option Triple) → base_over v (row_at rs p).base o ≡ (row_at rs v).base → is_fresh_in rs p ≡ true → is_fresh_in rs v ≡ false → (row_at rs v).base ≡ v
stale_view rs v p None e f n = sym e
stale_view rs v p (Some u) e f n = let c : true ≡ false = sym f ∙ ap (λ b. (row_at rs b).mark) e ∙ n in absurd (cc)

stale_own : (facts : RowLaws) → (rs : Rows) (v : ℕ) (o : Origin) → InOrder rs → has rs v ≡ true → (row_at rs v).origin ≡ o → ((p : ℕ) → parent_from o ≡ Some p → is_fresh_in rs p ≡ true) → ((row_at rs v).root ≡ v → (row_at rs v).base ≡ v) → is_fresh_in rs v ≡ false → (o ≡ Root → (row_at rs v).root ≡ v) → (row_at rs v).base ≡ v
stale_own facts rs v Root i h e f r n g = r (g refl)
stale_own facts rs v (View p t y) i h e f r n g =
    let a : IsViewAt rs v p t y = facts.seen.view_at rs i.still v p t y h e in
    stale_view rs v p (over t (row_at rs p).triple) (sym a.derived.base_is) (f p refl) n

pub is_stale : (facts : RowLaws) → (rs : Rows) (v : ℕ) → InOrder rs → has rs v ≡ true → ParentIsFresh rs v → (row_at rs (row_at rs v).root).waiting ≡ None → is_fresh_in rs v ≡ false → IsStale rs v
is_stale facts rs v i h f w n =
    let own : (row_at rs v).base ≡ v = stale_own facts rs v (row_at rs v).origin i h refl f (λ e. facts.seen.root_own rs v i.still (h, e)) n (λ e. facts.seen.parentless rs v i.still h (ap parent_from e)) in
    let u : (row_at rs v).mark ≡ false = ap (λ b. (row_at rs b).mark) (sym own) ∙ n in
    record {
      own = own;
      unmarked = u;
      view = λ e. (let r : IsRoot rs v = (h, e) in
          let m : (row_at rs v).mark ≡ true = (i.family v r).lasts (ap (λ x. (row_at rs x).waiting) (sym e) ∙ w) in
          let c : true ≡ false = sym m ∙ u in cc);
    }

pub is_outdated : (facts : RowLaws) → (rs : Rows) (v : ℕ) → InOrder rs → has rs v ≡ true → (row_at rs (row_at rs v).root).waiting ≡ None → IsStale rs v → IsOutdated rs (row_at rs v).root v
is_outdated facts rs v i h w s = record { order = i; root = facts.seen.root_live rs (row_at rs v).root v i.still h refl; live = h; own = s.own; root_is = refl; unmarked = s.unmarked; settled = w }

-- and costs its elements
pub stale_cost : (rs : Rows) (v : ℕ) → IsStale rs v → outdated_at rs v ≡ size_of (row_at rs v).triple.dims
stale_cost rs v s = rw (eq-eqb (row_at rs v).base v s.own, ne_eqb (row_at rs v).root v s.view, s.unmarked) refl

-- the cost of a path is that of the array and of its parent's path
pub outdated_more : (facts : RowLaws) → (rs : Rows) (v p : ℕ) → IsStill rs → has rs v ≡ true → parent_of (row_at rs v) ≡ Some p → outdated rs v ≡ outdated_at rs v + outdated rs p
outdated_more facts rs v p s h e = ap (λ (xs : List ℕ). sum_by (outdated_at rs) xs) (path_over facts rs v p s h e) ∙ sum_by-cons (outdated_at rs) v (path (shape rs) p)

pub outdated_one : (facts : RowLaws) → (rs : Rows) (v : ℕ) → IsStill rs → has rs v ≡ true → parent_of (row_at rs v) ≡ None → outdated rs v ≡ outdated_at rs v
outdated_one facts rs v s h e = ap (λ (xs : List ℕ). sum_by (outdated_at rs) xs) (path_alone facts rs v s h e) ∙ sum_by-cons (outdated_at rs) v [] ∙ (omega arith)

-- a view that was filled is fresh
pub filled_fresh : (old new : Rows) (v : ℕ) → IsStale old v → IsFilled old v new → is_fresh_in new v ≡ true
filled_fresh old new v s f = ap (λ b. (row_at new b).mark) (f.kept.alike.base_is v ∙ s.own) ∙ f.mark

-- an array's parent is fresh once the parent's path is
pub parent_fresh : (facts : RowLaws) → (old mid : Rows) (v p : ℕ) → IsStill old → IsStill mid → IsAlike old mid → has old v ≡ true → parent_of (row_at old v) ≡ Some p → PathIsFresh mid p → ParentIsFresh mid v
parent_fresh facts old mid v p s i a h e f q g =
    let d : Some q ≡ Some p = sym g ∙ a.parent_is v ∙ e in
    let c : p ≡ q = cc in
    let P : ℕ → Type 0 = λ x. is_fresh_in mid x ≡ true in
    subst P c (facts.seen.path_first mid p i (a.has_is p ∙ (facts.seen.parent_live old v p s h e).0) f)

-- the path of a view, of which the parent's path was made fresh first, and that of a root
pub path_fresh_over : (facts : RowLaws) → (old mid new : Rows) (v p : ℕ) → IsAlike old mid → IsStill new → IsAlike mid new → KeepsMarks mid new → has old v ≡ true → parent_of (row_at old v) ≡ Some p → PathIsFresh mid p → is_fresh_in new v ≡ true → PathIsFresh new v
path_fresh_over facts old mid new v p a t b m h e f i =
    path_fresh facts mid new v t (b.has_is v ∙ a.has_is v ∙ h) b m (b.parent_is v)
    (λ q g. (let d : Some q ≡ Some p = sym g ∙ a.parent_is v ∙ e in let c : p ≡ q = cc in let P : ℕ → Type 0 = λ x. PathIsFresh mid x in subst P c f)) i

pub path_fresh_root : (facts : RowLaws) → (old new : Rows) (v : ℕ) → IsStill new → IsAlike old new → KeepsMarks old new → has old v ≡ true → parent_of (row_at old v) ≡ None → is_fresh_in new v ≡ true → PathIsFresh new v
path_fresh_root facts old new v t b m h e i =
    path_fresh facts old new v t (b.has_is v ∙ h) b m (b.parent_is v) (λ q g. (let d : None ≡ Some q = sym e ∙ g in absurd (cc))) i
