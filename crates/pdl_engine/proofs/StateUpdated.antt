-- The elements of an array over its root that are changed where they stand, or copied from another
-- one.
use Rattle.std.proofs.Common.{◌≡◌, ◌≢◌, ℕ, ℤ, true, false, List, map, sym, ◌∙◌, ap, ap₂, subst}
use Rattle.pdl_elem.specs.declared.Ty.{Ty}
use Rattle.pdl_numbers.specs.Updates.{Suits, updated}
use Rattle.pdl_numbers.specs.declared.updates.Update.{Update}
use Rattle.pdl_world.specs.Paths.{root_of}
use Rattle.pdl_world.specs.World.{World, dims_in, elements, has_repeats, places_in, ty_in}
use Rattle.pdl_nodes.specs.Alike.{is_fresh_in}
use Rattle.pdl_nodes.specs.Copies.{CanCopy}
use Rattle.pdl_nodes.specs.Families.{InOrder}
use Rattle.pdl_nodes.specs.Known.{AreKnown}
use Rattle.pdl_nodes.specs.RowLaws.{RowLaws}
use Rattle.pdl_nodes.specs.Rows.{Rows, has, row_at}
use Rattle.pdl_nodes.specs.Updates.{CanUpdate, updated_at}
use Rattle.pdl_nodes.specs.Worlds.{world_of}
use Rattle.pdl_engine.specs.State.{base}
use Rattle.pdl_engine.proofs.StateBounds.{base_are, places_are}
use Rattle.pdl_engine.proofs.RowsLent.{lent_elements}
use Rattle.pdl_engine.proofs.StateOfWorlds.{root_are}

-- what an update needs of rows, where it is so of their world
pub can_update : (facts : RowLaws) → (u : Update) (rs : Rows) (v : ℕ) → InOrder rs → AreKnown rs → has rs v ≡ true → is_fresh_in rs v ≡ true → has_repeats (places_in (world_of rs) v) ≡ false → Suits (ty_in (world_of rs) v) u → CanUpdate u rs v
can_update facts u rs v o k l f once s = record {
  order = o;
  known = k;
  live = l;
  fresh = f;
  once = ap has_repeats (sym (places_are facts rs v)) ∙ once;
  suits = subst (λ (y : Ty). Suits y u) (facts.seen.ty_are rs v o.still l) s;
}

-- the base is the root in the rows where it is so in the world
pub over_root : (facts : RowLaws) → (rs : Rows) (v : ℕ) → InOrder rs → has rs v ≡ true → base (world_of rs) v ≡ root_of (world_of rs) v → (row_at rs v).base ≡ (row_at rs v).root
over_root facts rs v o l e = sym (base_are facts rs v o.still l) ∙ e ∙ root_are facts rs v o.still l

-- what becomes of the elements that are kept becomes of those of the world
pub values_are : (facts : RowLaws) → (u : Update) (rs : Rows) (v : ℕ) → InOrder rs → has rs v ≡ true → is_fresh_in rs v ≡ true → updated_at u rs v ≡ map (updated (ty_in (world_of rs) v) u) (elements (world_of rs) v)
values_are facts u rs v o l f =
    ap₂ (λ (y : Ty) (es : List ℤ). map (updated y u) es) (sym (facts.seen.ty_are rs v o.still l)) (lent_elements facts rs v o l f)

-- what a copy needs of rows, where it is so of their world
pub can_copy : (facts : RowLaws) → (rs : Rows) (w : World) (v u : ℕ) → world_of rs ≡ w → InOrder rs → AreKnown rs → has rs v ≡ true → has rs u ≡ true → is_fresh_in rs v ≡ true → is_fresh_in rs u ≡ true
    → root_of w u ≢ root_of w v → ty_in w u ≡ ty_in w v → dims_in w u ≡ dims_in w v → CanCopy rs v u
can_copy facts rs w v u e o k l m f h apart type_is dims_are = record {
  order = o;
  known = k;
  live = l;
  fresh = f;
  source_live = m;
  source_fresh = h;
  apart = λ same. apart (ap (λ x. root_of x u) (sym e) ∙ root_are facts rs u o.still m ∙ same ∙ sym (root_are facts rs v o.still l) ∙ ap (λ x. root_of x v) e);
  same_type = sym (facts.seen.ty_are rs u o.still m) ∙ ap (λ x. ty_in x u) e ∙ type_is ∙ ap (λ x. ty_in x v) (sym e) ∙ facts.seen.ty_are rs v o.still l;
  same_dims = sym (facts.seen.dims_are rs u o.still m) ∙ ap (λ x. dims_in x u) e ∙ dims_are ∙ ap (λ x. dims_in x v) (sym e) ∙ facts.seen.dims_are rs v o.still l;
}
