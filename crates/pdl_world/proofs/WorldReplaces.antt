-- A world with another array in place of one.
use Rattle.std.proofs.Common.{◌≡◌, ℕ, suc, ℤ, pos, ◌+◌, ◌-◌, ◌≤◌, inl, inr, List, [], ◌∷◌, ◌++◌, length, replicate, All, Some, refl, sym, ◌∙◌, ap, subst, arith}
use Rattle.std.proofs.lemmas.Bool.{cases_lt, eq-eqb, ne_eqb}
use Rattle.std.proofs.lemmas.Bool.Decides.{eqb_tells}
use Rattle.std.proofs.lemmas.List.{length-take-le, length-append, length-replicate, get_or-take, get_or_append_left, get_or-append_right, get_or-replicate, get_or_past}
use Rattle.std.proofs.lemmas.List.Elements.{All-append, All-take, All-replicate}
use Rattle.pdl_elem.specs.declared.Ty.{Ty}
use Rattle.pdl_world.specs.Cut.{replaced, fitted}
use Rattle.pdl_world.specs.CutLaws.{IsFitted}
use Rattle.pdl_world.specs.Paths.{path}
use Rattle.pdl_world.specs.Sound.{NumbersBelow}
use Rattle.pdl_world.specs.World.{World, ArrayDef, root, view, Look, look_of_root, look, root_elements}
use Rattle.pdl_world.proofs.WorldLooks.{look_older, path_older, root_below}
use Rattle.pdl_world.proofs.SoundRoots.{elements_older}
use Rattle.pdl_world.proofs.WorldStays.{Stays}

pub below_replaced : (w : World) (n v : ℕ) (new : ArrayDef) → NumbersBelow n w → NumbersBelow n (replaced w v new)
below_replaced [] n v new b = tt
below_replaced ((k, d) ∷ w) n v new b = (b.0, below_replaced w n v new b.1)

pub length_replaced : (w : World) (v : ℕ) (new : ArrayDef) → length (replaced w v new) ≡ length w
length_replaced [] v new = refl
length_replaced ((k, d) ∷ w) v new = ap suc (length_replaced w v new)

-- a number that no array has
pub replaced_past : (w : World) (n v : ℕ) (new : ArrayDef) → NumbersBelow n w → n ≤ v → replaced w v new ≡ w
replaced_past [] n v new b h = refl
replaced_past ((k, d) ∷ w) n v new b h = rw (ne_eqb k v (omega arith), replaced_past w n v new b.1 h) refl

-- the newest array, or an older one
pub replaced_newest : (k : ℕ) (d : ArrayDef) (w : World) (v : ℕ) (new : ArrayDef) → NumbersBelow k w → k ≡ v → replaced ((k, d) ∷ w) v new ≡ (k, new) ∷ w
replaced_newest k d w v new b e = rw (eq-eqb k v e, replaced_past w k v new b (omega (arith, e))) refl

pub replaced_older : (k : ℕ) (d : ArrayDef) (w : World) (v : ℕ) (new : ArrayDef) → (k ≡ v → ⊥) → replaced ((k, d) ∷ w) v new ≡ (k, d) ∷ replaced w v new
replaced_older k d w v new n = rw (ne_eqb k v n) refl

-- older arrays are seen as before another came in place of the newest
pub stays_beside : (w : World) (k : ℕ) (d e : ArrayDef) (u : ℕ) → NumbersBelow k w → (k ≡ u → ⊥) → Stays ((k, d) ∷ w) ((k, e) ∷ w) u
stays_beside w k d e u b n = record {
  look_is = look_older k e w u n ∙ sym (look_older k d w u n);
  path_is = path_older k e w u n ∙ sym (path_older k d w u n);
  root_is = λ l q. (let there : look w u ≡ Some l = sym (look_older k d w u n) ∙ q in
      let low = root_below w k u l b there in
      elements_older k e w l.root low ∙ sym (elements_older k d w l.root low));
}

-- the new root
pub record IsRooted (new : World) (v : ℕ) (ty : Ty) (ds : List ℕ) (es : List ℤ) : Type 0 where
  pub look_is : look new v ≡ Some (look_of_root v ty ds)
  pub path_is : path new v ≡ v ∷ []
  pub elems_are : root_elements new v ≡ es

newest_rooted : (k : ℕ) (ty : Ty) (ds : List ℕ) (es : List ℤ) (w : World) → IsRooted ((k, root ty ds es) ∷ w) k ty ds es
newest_rooted k ty ds es w = record { look_is = rw (eq-eqb k k refl) refl; path_is = rw (eq-eqb k k refl) refl; elems_are = rw (eq-eqb k k refl) refl }

elements_aside : (k : ℕ) (d : ArrayDef) (w : World) (v : ℕ) → (k ≡ v → ⊥) → root_elements ((k, d) ∷ w) v ≡ root_elements w v
elements_aside k (root ty ds es) w v n = rw (ne_eqb k v n) refl
elements_aside k (view p t) w v n = refl

pub is_rooted : (w : World) (v : ℕ) (l : Look) (ty : Ty) (ds : List ℕ) (es : List ℤ) → look w v ≡ Some l → IsRooted (replaced w v (root ty ds es)) v ty ds es
is_rooted [] v l ty ds es h = cc
is_rooted ((k, d) ∷ w) v l ty ds es h = elim (eqb_tells k v) [
  | inl t ↦ (let P : ℕ → Type 0 = λ x. IsRooted ((k, root ty ds es) ∷ replaced w v (root ty ds es)) x ty ds es in
      rw t.0 (subst P t.1 (newest_rooted k ty ds es (replaced w v (root ty ds es)))))
  | inr t ↦ (let y : IsRooted (replaced w v (root ty ds es)) v ty ds es = is_rooted w v l ty ds es (sym (look_older k d w v t.1) ∙ h) in
      let here : replaced ((k, d) ∷ w) v (root ty ds es) ≡ (k, d) ∷ replaced w v (root ty ds es) = replaced_older k d w v (root ty ds es) t.1 in
      let P : World → Type 0 = λ x. IsRooted x v ty ds es in
      subst P (sym here) (record {
        look_is = look_older k d (replaced w v (root ty ds es)) v t.1 ∙ y.look_is;
        path_is = path_older k d (replaced w v (root ty ds es)) v t.1 ∙ y.path_is;
        elems_are = elements_aside k d (replaced w v (root ty ds es)) v t.1 ∙ y.elems_are;
      }))
]

-- as many elements as are wanted
length_all : (n : ℕ) (es : List ℤ) → length (es ++ replicate n (pos 0)) ≡ length es + n
length_all n es = length-append es (replicate n (pos 0)) ∙ ap (λ m. length es + m) (length-replicate n (pos 0))

pub is_fitted : (n : ℕ) (es : List ℤ) → IsFitted n es (fitted n es)
is_fitted n es = record {
  count = length-take-le n (es ++ replicate n (pos 0)) (omega (arith, length_all n es));
  first = λ i h. get_or-take n (es ++ replicate n (pos 0)) i (pos 0) h ∙ elim (cases_lt i (length es)) [
    | inl low ↦ get_or_append_left es (replicate n (pos 0)) (pos 0) i low
    | inr past ↦ get_or-append_right es (replicate n (pos 0)) (length es) i (pos 0) refl past ∙ get_or-replicate n (i - length es) (pos 0) (pos 0) (omega arith) ∙ sym (get_or_past es i (pos 0) past)
  ];
}

pub all_fitted : (P : ℤ → Type 0) (n : ℕ) (es : List ℤ) → P (pos 0) → All P es → All P (fitted n es)
all_fitted P n es z a = All-take P n (es ++ replicate n (pos 0)) (All-append P es (replicate n (pos 0)) a (All-replicate P n (pos 0) z))
