-- Parents, paths, and what can be lent on them.
use Rattle.std.proofs.Common.{◌≡◌, ℕ, ◌<◌, ◌≤◌, ◌&&◌, not, Bool, true, false, eqb, cond, List, [], ◌∷◌, All, Option, Some, None, inl, inr, refl, sym, ◌∙◌, ap, subst, arith}
use Rattle.std.proofs.lemmas.Bool.Decides.{eqb_tells}
use Rattle.pdl_shape.specs.Shape.{size_of}
use Rattle.pdl_world.specs.Paths.{path}
use Rattle.pdl_world.specs.World.{World, ArrayDef, root, view}
use Rattle.pdl_nodes.specs.declared.origin.Origin.{Origin}
use Rattle.pdl_nodes.specs.declared.origin.Origin.TheVariants.{Root, View}
use Rattle.pdl_nodes.specs.Row.{Row, parent_from, parent_of}
use Rattle.pdl_nodes.specs.Rows.{Rows, row_at, has, NumbersBelow}
use Rattle.pdl_nodes.specs.Alike.{IsAlike, KeepsMarks, is_fresh_in}
use Rattle.pdl_nodes.specs.Outcomes.{PathIsFresh, outdated_at}
use Rattle.pdl_nodes.specs.Still.{StillFrom, IsStill}
use Rattle.pdl_nodes.specs.Worlds.{def_from, def_of, shape}
use Rattle.pdl_nodes.proofs.RowFinds.{not_newest}
use Rattle.pdl_nodes.proofs.RowsSeen.{row_older, view_at}
use Rattle.pdl_nodes.specs.Seen.{IsViewAt, path_from}
use Rattle.std.proofs.lemmas.Bool.{eq-eqb, ne_eqb}

pub path_older : (k : ℕ) (d : ArrayDef) (w : World) (v : ℕ) → (k ≡ v → ⊥) → path ((k, d) ∷ w) v ≡ path w v
path_older k (root ty ds es) w v n = rw (ne_eqb k v n) refl
path_older k (view p t) w v n = rw (ne_eqb k v n) refl

newest_path : (k : ℕ) (r : Row) (rs : Rows) (o : Origin) → r.origin ≡ o → NumbersBelow k rs → StillFrom rs k r o → path (shape ((k, r) ∷ rs)) k ≡ k ∷ path_from ((k, r) ∷ rs) (parent_from o)
newest_path k r rs Root e b s = ap (λ x. path ((k, def_from r.ty r.triple.dims x) ∷ shape rs) k) e ∙ rw (eq-eqb k k refl) refl
newest_path k r rs (View p t y) e b s =
    ap (λ x. path ((k, def_from r.ty r.triple.dims x) ∷ shape rs) k) e ∙ rw (eq-eqb k k refl) (ap (λ x. k ∷ x) (sym (path_older k (def_of r) (shape rs) p (not_newest rs k p b s.0))))

older_from : (k : ℕ) (r : Row) (rs : Rows) (o : Option ℕ) → NumbersBelow k rs → ((p : ℕ) → o ≡ Some p → has rs p ≡ true) → path_from rs o ≡ path_from ((k, r) ∷ rs) o
older_from k r rs None b h = refl
older_from k r rs (Some p) b h = sym (path_older k (def_of r) (shape rs) p (not_newest rs k p b (h p refl)))

parent_cases : (rs : Rows) (v p : ℕ) (o : Origin) → IsStill rs → has rs v ≡ true → (row_at rs v).origin ≡ o → parent_from o ≡ Some p → (has rs p ≡ true) × (p < v)
parent_cases rs v p Root s h e f = let x : None ≡ Some p = f in absurd (cc)
parent_cases rs v p (View q t y) s h e f =
    let a : IsViewAt rs v q t y = view_at rs s v q t y h e in
    let d : q ≡ p = cc in
    let P : ℕ → Type 0 = λ x. (has rs x ≡ true) × (x < v) in subst P d (a.live, a.older)

-- a parent is live and older
pub parent_live : (rs : Rows) (v p : ℕ) → IsStill rs → has rs v ≡ true → parent_of (row_at rs v) ≡ Some p → (has rs p ≡ true) × (p < v)
parent_live rs v p s h e = parent_cases rs v p (row_at rs v).origin s h refl e

-- the path of an array is itself, and then its parent's
pub path_is : (rs : Rows) → IsStill rs → (v : ℕ) → has rs v ≡ true → path (shape rs) v ≡ v ∷ path_from rs (parent_of (row_at rs v))
path_is [] s v h = let x : false ≡ true = h in absurd (cc)
path_is ((k, r) ∷ rs) s v h = elim (eqb_tells k v) [
  | inl t ↦ (let P : ℕ → Type 0 = λ x. path (shape ((k, r) ∷ rs)) x ≡ x ∷ path_from ((k, r) ∷ rs) (parent_of (row_at ((k, r) ∷ rs) x)) in
      subst P t.1 (newest_path k r rs r.origin refl s.0 s.1 ∙ ap (λ x. k ∷ path_from ((k, r) ∷ rs) x) (rw (eq-eqb k k refl) refl)))
  | inr t ↦ (let l : has rs v ≡ true = rw t.0 at h in
      path_older k (def_of r) (shape rs) v t.1 ∙ path_is rs s.2 v l
      ∙ ap (λ x. v ∷ x) (older_from k r rs (parent_of (row_at rs v)) s.0 (λ p e. (parent_live rs v p s.2 l e).0))
      ∙ ap (λ x. v ∷ path_from ((k, r) ∷ rs) (parent_of x)) (sym (row_older k r rs v t.1)))
]

-- what was fresh is fresh
pub fresh_stays : (old new : Rows) (v : ℕ) → IsAlike old new → KeepsMarks old new → is_fresh_in old v ≡ true → is_fresh_in new v ≡ true
fresh_stays old new v a m h = ap (λ b. (row_at new b).mark) (a.base_is v) ∙ m (row_at old v).base h

cost_less : (x m n : Bool) (s : ℕ) → (m ≡ true → n ≡ true) → cond x (cond n 0 s) 0 ≤ cond x (cond m 0 s) 0
cost_less true true n s h = rw (h refl) (omega arith)
cost_less true false true s h = omega arith
cost_less true false false s h = omega arith
cost_less false m n s h = omega arith

-- what costs less afterwards
pub less_outdated : (old new : Rows) (v : ℕ) → IsAlike old new → KeepsMarks old new → outdated_at new v ≤ outdated_at old v
less_outdated old new v a m =
    rw (a.base_is v, a.root_is v, a.triple_is v) (cost_less (eqb (row_at old v).base v && not (eqb (row_at old v).root v)) (row_at old v).mark (row_at new v).mark (size_of (row_at old v).triple.dims) (m v))

root_cases : (rs : Rows) (v p : ℕ) (o : Origin) → IsStill rs → has rs v ≡ true → (row_at rs v).origin ≡ o → parent_from o ≡ Some p → (row_at rs p).root ≡ (row_at rs v).root
root_cases rs v p Root s h e f = let x : None ≡ Some p = f in absurd (cc)
root_cases rs v p (View q t y) s h e f =
    let a : IsViewAt rs v q t y = view_at rs s v q t y h e in
    let d : q ≡ p = cc in
    ap (λ x. (row_at rs x).root) (sym d) ∙ sym a.derived.root_is

-- a parent has the same root
pub parent_root : (rs : Rows) (v p : ℕ) → IsStill rs → has rs v ≡ true → parent_of (row_at rs v) ≡ Some p → (row_at rs p).root ≡ (row_at rs v).root
parent_root rs v p s h e = root_cases rs v p (row_at rs v).origin s h refl e

-- an array with a fresh path is fresh
pub path_first : (rs : Rows) (v : ℕ) → IsStill rs → has rs v ≡ true → PathIsFresh rs v → is_fresh_in rs v ≡ true
path_first rs v s h f =
    let P : List ℕ → Type 0 = λ xs. All (λ u. is_fresh_in rs u ≡ true) xs in
    let a : All (λ u. is_fresh_in rs u ≡ true) (v ∷ path_from rs (parent_of (row_at rs v))) = subst P (path_is rs s v h) f in
    a 0 0 (omega arith)
