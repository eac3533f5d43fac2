-- The numbers of rows, and the transformations that they say.
use Rattle.std.proofs.Common.{◌≡◌, ℕ, ◌+◌, ◌<◌, ◌^◌, ℤ, Bool, true, false, List, [], ◌∷◌, ◌++◌, Option, Some, None, refl, sym, ap, ◌∙◌, cond, eqb, inl, inr, subst, arith}
use Rattle.std.specs.Prelude.{nat_le, if◌then◌else◌, IsTrue, IfSome}
use Rattle.std.proofs.lemmas.Bool.Decides.{eqb_tells}
use Rattle.pdl_lemmas.specs.Tests.{by_test}
use Rattle.pdl_elem.specs.declared.Ty.{Ty}
use Rattle.pdl_world.specs.declared.Trans.{Trans}
use Rattle.pdl_world.specs.Formula.{is_well_formed}
use Rattle.pdl_world.specs.Sound.{IsLive, IsSound}
use Rattle.pdl_world.specs.World.{World, ArrayDef, root, view}
use Rattle.pdl_nodes.specs.RowLaws.{RowLaws}
use Rattle.pdl_nodes.specs.Rows.{Rows, row_at, from, or_newer, NumbersBelow}
use Rattle.pdl_nodes.specs.Worlds.{def_from, def_of, shape, latest, with_elements, world_of}
use Rattle.pdl_nodes.specs.declared.origin.Origin.{Origin}
use Rattle.pdl_nodes.specs.declared.origin.Origin.TheVariants.{Root, View}
use Rattle.pdl_registry.specs.Numbered.{first_from}
use Rattle.pdl_engine.specs.Looks.{array_numbers, past, trans_in}
use Rattle.pdl_engine.proofs.StateOfWorlds.{live_has}

-- ---- numbers

-- the first of numbers with one more behind them
first_last : (ks : List ℕ) (k n : ℕ) → first_from (ks ++ k ∷ []) n ≡ (if nat_le n k then or_newer (first_from ks n) k else first_from ks n)
first_last [] k n = refl
first_last (j ∷ ks) k n =
    by_test (nat_le n j) (λ here. rw here (sym (either (nat_le n k)))) (λ behind. rw behind (first_last ks k n))
  where
    either : (b : Bool) → (if b then or_newer (Some j) k else Some j) ≡ Some j
    either true = refl
    either false = refl

numbers_behind : (f : ℕ → List ℤ) (k : ℕ) (d : ArrayDef) (w : World) → array_numbers (with_elements f ((k, d) ∷ w)) ≡ array_numbers (with_elements f w) ++ k ∷ []
numbers_behind f k (root ty ds es) w = refl
numbers_behind f k (view p t) w = refl

from_with : (f : ℕ → List ℤ) (rs : Rows) (n : ℕ) → from rs n ≡ first_from (array_numbers (with_elements f (shape rs))) n
from_with f [] n = refl
from_with f ((k, r) ∷ rs) n =
    ap (λ (o : Option ℕ). if nat_le n k then or_newer o k else o) (from_with f rs n)
    ∙ sym (ap (λ (ks : List ℕ). first_from ks n) (numbers_behind f k (def_of r) (shape rs)) ∙ first_last (array_numbers (with_elements f (shape rs))) k n)

-- the oldest row from a number on is the oldest array
pub from_is : (rs : Rows) (n : ℕ) → from rs n ≡ first_from (array_numbers (world_of rs)) n
from_is rs n = from_with (latest rs) rs n

-- what comes behind an array is a number of 64 bits
pub past_small : (facts : RowLaws) → (rs : Rows) (next : ℕ) (after : Option ℕ) → NumbersBelow next rs → next < 2 ^ 64 → IfSome after (IsLive (world_of rs)) → past after < 2 ^ 64
past_small facts rs next None below room live = arith_0
  where
    arith_0 : 0 < 2 ^ 64
    arith_0 = omega arith
past_small facts rs next (Some v) below room live =
    let low : v < next = facts.numbers.has_below rs next v below (live_has facts rs v live) in
    omega (arith, low, room)

-- ---- transformations

abbrev pub trans_from : Origin → Option Trans
trans_from Root = None
trans_from (View p t y) = Some t

trans_with : (f : ℕ → List ℤ) (w : World) (v : ℕ) → trans_in (with_elements f w) v ≡ trans_in w v
trans_with f [] v = refl
trans_with f ((k, root ty ds es) ∷ w) v = ap (λ x. cond (eqb k v) None x) (trans_with f w v)
trans_with f ((k, view p t) ∷ w) v = ap (λ x. cond (eqb k v) (Some t) x) (trans_with f w v)

newest_trans : (k : ℕ) (ty : Ty) (ds : List ℕ) (o : Origin) (w : World) (v : ℕ) → trans_in ((k, def_from ty ds o) ∷ w) v ≡ cond (eqb k v) (trans_from o) (trans_in w v)
newest_trans k ty ds Root w v = refl
newest_trans k ty ds (View p t y) w v = refl

trans_of : (rs : Rows) (v : ℕ) → trans_in (shape rs) v ≡ trans_from (row_at rs v).origin
trans_of [] v = refl
trans_of ((k, r) ∷ rs) v = newest_trans k r.ty r.triple.dims r.origin (shape rs) v ∙ elim (eqb_tells k v) [
  | inl t ↦ rw t.0 refl
  | inr t ↦ rw t.0 (trans_of rs v)
]

-- the transformation that the row of an array says
pub trans_is : (rs : Rows) (v : ℕ) (o : Origin) → o ≡ (row_at rs v).origin → trans_from o ≡ trans_in (world_of rs) v
trans_is rs v o is = ap trans_from is ∙ sym (trans_of rs v) ∙ sym (trans_with (latest rs) (shape rs) v)

if_other : (b : Bool) (o q : Option Trans) → IfSome o (λ t. IsTrue (is_well_formed t)) → IfSome q (λ t. IsTrue (is_well_formed t)) → IfSome (cond b o q) (λ t. IsTrue (is_well_formed t))
if_other true o q here there = here
if_other false o q here there = there

-- in a sound world it is well formed
pub trans_fits : (w : World) (v : ℕ) → IsSound w → IfSome (trans_in w v) (λ t. IsTrue (is_well_formed t))
trans_fits [] v sound = tt
trans_fits ((k, root ty ds es) ∷ w) v sound = if_other (eqb k v) None (trans_in w v) tt (trans_fits w v sound.2)
trans_fits ((k, view p t) ∷ w) v sound = if_other (eqb k v) (Some t) (trans_in w v) sound.1.well_formed (trans_fits w v sound.2)
