-- Rows that are alike, and mean the same world; the roots and bases of arrays.
use Rattle.std.proofs.Common.{◌≡◌, ℕ, Bool, true, false, [], ◌∷◌, refl, sym, ◌∙◌, ap}
use Rattle.pdl_nodes.specs.Row.{Row, parent_from, parent_of}
use Rattle.pdl_nodes.specs.Rows.{Rows, row_at, has, each}
use Rattle.pdl_nodes.specs.Alike.{numbers, IsAlike}
use Rattle.pdl_nodes.specs.Still.{IsStill}
use Rattle.pdl_nodes.specs.Worlds.{IsRoot}
use Rattle.pdl_nodes.proofs.WorldFamilies.{shape_each, root_each}
use Rattle.pdl_nodes.specs.Quiet.{IsQuiet}
use Rattle.pdl_nodes.proofs.RowFinds.{each_has, each_at}
use Rattle.pdl_nodes.proofs.RowsSeen.{is_seen}
use Rattle.pdl_nodes.proofs.RowShapes.{past_at}
use Rattle.pdl_nodes.specs.Seen.{IsSeen}
use Rattle.pdl_nodes.specs.Families.{InOrder}
use Rattle.pdl_nodes.specs.Known.{AreKnown}
use Rattle.pdl_nodes.specs.Outcomes.{IsReady}

pub each_numbers : (f : ℕ → Row → Row) (rs : Rows) → numbers (each f rs) ≡ numbers rs
each_numbers f [] = refl
each_numbers f ((k, r) ∷ rs) = ap (λ x. k ∷ x) (each_numbers f rs)

pub each_past : (f : ℕ → Row → Row) (rs : Rows) (v : ℕ) → has rs v ≡ false → row_at (each f rs) v ≡ row_at rs v
each_past f rs v h = past_at (each f rs) v (each_has f rs v ∙ h) ∙ sym (past_at rs v h)

field_cases : {A : Type 0} (g : Row → A) (f : ℕ → Row → Row) (rs : Rows) (v : ℕ) (b : Bool) → has rs v ≡ b → ((k : ℕ) (r : Row) → g (f k r) ≡ g r) → g (row_at (each f rs) v) ≡ g (row_at rs v)
field_cases g f rs v true h e = ap g (each_at f rs v h) ∙ e v (row_at rs v)
field_cases g f rs v false h e = ap g (each_past f rs v h)

field_each : {A : Type 0} (g : Row → A) (f : ℕ → Row → Row) (rs : Rows) (v : ℕ) → ((k : ℕ) (r : Row) → g (f k r) ≡ g r) → g (row_at (each f rs) v) ≡ g (row_at rs v)
field_each g f rs v e = field_cases g f rs v (has rs v) refl e

pub is_alike : (f : ℕ → Row → Row) (rs : Rows) → IsQuiet f → IsAlike rs (each f rs)
is_alike f rs q = record {
  numbers_are = each_numbers f rs;
  has_is = λ v. each_has f rs v;
  shape_is = shape_each f rs q;
  origin_is = λ v. field_each (λ r. r.origin) f rs v q.origin;
  root_is = λ v. root_each f rs v q;
  base_is = λ v. field_each (λ r. r.base) f rs v q.base;
  ty_is = λ v. field_each (λ r. r.ty) f rs v q.ty;
  parent_is = λ v. field_each parent_of f rs v (λ k r. ap parent_from (q.origin k r));
  triple_is = λ v. field_each (λ r. r.triple) f rs v q.triple;
}

pub alike_trans : (a b c : Rows) → IsAlike a b → IsAlike b c → IsAlike a c
alike_trans a b c x y = record {
  numbers_are = y.numbers_are ∙ x.numbers_are;
  has_is = λ v. y.has_is v ∙ x.has_is v;
  shape_is = y.shape_is ∙ x.shape_is;
  origin_is = λ v. y.origin_is v ∙ x.origin_is v;
  root_is = λ v. y.root_is v ∙ x.root_is v;
  base_is = λ v. y.base_is v ∙ x.base_is v;
  ty_is = λ v. y.ty_is v ∙ x.ty_is v;
  parent_is = λ v. y.parent_is v ∙ x.parent_is v;
  triple_is = λ v. y.triple_is v ∙ x.triple_is v;
}

pub alike_same : (a : Rows) → IsAlike a a
alike_same a = record { numbers_are = refl; has_is = λ v. refl; shape_is = refl; origin_is = λ v. refl; root_is = λ v. refl; base_is = λ v. refl; ty_is = λ v. refl; parent_is = λ v. refl; triple_is = λ v. refl }

pub root_live : (rs : Rows) (rt v : ℕ) → IsStill rs → has rs v ≡ true → (row_at rs v).root ≡ rt → IsRoot rs rt
root_live rs rt v s h e =
    let a : IsSeen rs v = is_seen rs s v h in
    (ap (has rs) (sym e) ∙ a.root_has, ap (λ x. (row_at rs x).root) (sym e) ∙ a.root_root ∙ e)

-- a root is its own base, so no other view keeps what is put into it
pub root_own : (rs : Rows) (rt : ℕ) → IsStill rs → IsRoot rs rt → (row_at rs rt).base ≡ rt
root_own rs rt s i = ap (λ x. (row_at rs x).base) (sym i.1) ∙ (is_seen rs s rt i.0).root_base ∙ i.1

pub base_live : (rs : Rows) (b v : ℕ) → IsStill rs → has rs v ≡ true → (row_at rs v).base ≡ b → has rs b ≡ true
base_live rs b v s h e = ap (has rs) (sym e) ∙ (is_seen rs s v h).base_has

pub ready_same : (rs : Rows) → InOrder rs → AreKnown rs → IsReady rs rs
ready_same rs o a = record { order = o; known = a; world = refl; alike = alike_same rs; marks = λ v h. h }

pub ready_trans : (a b c : Rows) → IsReady a b → IsReady b c → IsReady a c
ready_trans a b c x y = record { order = y.order; known = y.known; world = y.world ∙ x.world; alike = alike_trans a b c x.alike y.alike; marks = λ v m. y.marks v (x.marks v m) }
