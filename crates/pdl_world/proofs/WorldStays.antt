-- Arrays that are seen as before.
use Rattle.std.proofs.Common.{◌≡◌, ℕ, inl, inr, [], ◌∷◌, Option, Some, None, option_and_then, refl, sym, ◌∙◌, ap, subst}
use Rattle.std.specs.Option.{option_map_or}
use Rattle.std.proofs.lemmas.Bool.{eq-eqb}
use Rattle.pdl_shape.specs.Places.{read}
use Rattle.pdl_world.specs.declared.Trans.{Trans}
use Rattle.pdl_world.specs.Paths.{path}
use Rattle.pdl_world.specs.Sound.{NumbersBelow}
use Rattle.pdl_world.specs.SweepLaws.{IsSeenAsBefore}
use Rattle.pdl_world.specs.World.{World, ArrayDef, root, view, Look, look_of_root, look, through, root_elements}
use Rattle.pdl_world.proofs.WorldLooks.{through_root, look_view, look_older, path_older, root_below}
use Rattle.pdl_world.proofs.SoundRoots.{elements_older}

-- the array is seen as before, and its root has the elements that it had
pub record Stays (w new : World) (v : ℕ) : Type 0 where
  pub look_is : look new v ≡ look w v
  pub path_is : path new v ≡ path w v
  pub root_is : (l : Look) → look w v ≡ Some l → root_elements new l.root ≡ root_elements w l.root

-- an older array, under a newest one that is kept
pub stays_under : (w u : World) (j : ℕ) (e : ArrayDef) (v : ℕ) → NumbersBelow j w → (j ≡ v → ⊥) → Stays w u v → Stays ((j, e) ∷ w) ((j, e) ∷ u) v
stays_under w u j e v b n h = record {
  look_is = look_older j e u v n ∙ h.look_is ∙ sym (look_older j e w v n);
  path_is = path_older j e u v n ∙ h.path_is ∙ sym (path_older j e w v n);
  root_is = λ l q. (let there : look w v ≡ Some l = sym (look_older j e w v n) ∙ q in
      let low = root_below w j v l b there in
      elements_older j e u l.root low ∙ h.root_is l there ∙ sym (elements_older j e w l.root low));
}

-- and under one that goes
pub stays_without : (w u : World) (j : ℕ) (e : ArrayDef) (v : ℕ) → NumbersBelow j w → (j ≡ v → ⊥) → Stays w u v → Stays ((j, e) ∷ w) u v
stays_without w u j e v b n h = record {
  look_is = h.look_is ∙ sym (look_older j e w v n);
  path_is = h.path_is ∙ sym (path_older j e w v n);
  root_is = λ l q. (let there : look w v ≡ Some l = sym (look_older j e w v n) ∙ q in
      h.root_is l there ∙ sym (elements_older j e w l.root (root_below w j v l b there)));
}

-- the newest array itself, whose parent stays
pub newest_stays : (w u : World) (j : ℕ) (e : ArrayDef) → ((p : ℕ) (t : Trans) → e ≡ view p t → Stays w u p) → Stays ((j, e) ∷ w) ((j, e) ∷ u) j
newest_stays w u j (root ty ds es) h = record {
  look_is = rw (eq-eqb j j refl) refl;
  path_is = rw (eq-eqb j j refl) refl;
  root_is = λ l q. (let P : Look → Type 0 = λ m. root_elements ((j, root ty ds es) ∷ u) m.root ≡ root_elements ((j, root ty ds es) ∷ w) m.root in
      let is : Some _ ≡ Some l = rw (eq-eqb j j refl) at q in
      let here : P (look_of_root j ty ds) = rw (eq-eqb j j refl) refl in
      subst P (let k : look_of_root j ty ds ≡ l = cc in k) here);
}
newest_stays w u j (view p t) h =
    let a : Stays w u p = h p t refl in
    record {
      look_is = rw (eq-eqb j j refl) (ap (option_and_then (through t)) a.look_is);
      path_is = rw (eq-eqb j j refl) (ap (λ ps. j ∷ ps) a.path_is);
      root_is = λ l q. elim (look_view j p t w j l q) [
        | inl e ↦ (let P : ℕ → Type 0 = λ r. root_elements u r ≡ root_elements w r in
            subst P (through_root t e.1.above l e.1.shows).root_is (a.root_is e.1.above e.1.parent))
        | inr e ↦ absurd (e.0 refl)
      ];
    }

read_stays : (w new : World) (o : Option Look) → ((l : Look) → o ≡ Some l → root_elements new l.root ≡ root_elements w l.root)
    → option_map_or (λ l. read l.places (root_elements new l.root)) o [] ≡ option_map_or (λ l. read l.places (root_elements w l.root)) o []
read_stays w new None h = refl
read_stays w new (Some l) h = ap (read l.places) (h l refl)

pub seen_as_before : (w new : World) (v : ℕ) → Stays w new v → IsSeenAsBefore w new v
seen_as_before w new v h = record {
  look_is = h.look_is;
  elems_are = ap (λ o. option_map_or (λ l. read l.places (root_elements new l.root)) o []) h.look_is ∙ read_stays w new (look w v) h.root_is;
  path_is = h.path_is;
}
