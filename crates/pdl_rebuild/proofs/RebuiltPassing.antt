-- Arrays that pass: new ones that nothing reaches after the statement.
use Rattle.std.proofs.Common.{◌≡◌, ℕ, suc, ◌+◌, ◌≤◌, List, [], ◌∷◌, ◌++◌, length, refl, sym, ◌∙◌, ap, ap₂, subst, arith, append_assoc, ℤ}
use Rattle.std.specs.Prelude.{IsSomeAnd, Some}
use Rattle.std.specs.Option.{option_map_or}
use Rattle.pdl_elem.specs.declared.Ty.{Ty}
use Rattle.pdl_elem.specs.declared.Ty.TheVariants.{Byte}
use Rattle.pdl_shape.specs.Shape.{size_of}
use Rattle.pdl_world.specs.declared.Trans.{Trans}
use Rattle.pdl_world.specs.Formula.{child_dims}
use Rattle.pdl_world.specs.Laws.{OlderStay, OlderElementsStay, OlderPathsStay, NewRootIsSeen, IsSeenAs}
use Rattle.pdl_world.specs.Paths.{path}
use Rattle.pdl_world.specs.Refused.{refusal_at, view_refusal}
use Rattle.pdl_world.specs.Sound.{NumbersBelow, IsLive}
use Rattle.pdl_world.specs.World.{World, ArrayDef, root, Look, look, elements}
use Rattle.pdl_machine.specs.Arrays.{Arrays, with_new, array_in}
use Rattle.pdl_rebuild.specs.Rebuilt.{InOrder}
use Rattle.pdl_rebuild.proofs.RebuiltTidied.{AllWithin}

-- with these new arrays, one after another
abbrev pub with_all : Arrays → List ArrayDef → Arrays
with_all a [] = a
with_all a (d ∷ ds) = with_all (with_new a d).0 ds

-- the new arrays by their numbers, from one on
abbrev pub numbered_from : ℕ → List ArrayDef → World
numbered_from k [] = []
numbered_from k (d ∷ ds) = numbered_from (k + 1) ds ++ (k, d) ∷ []

pub with_all_is : (w : World) (k : ℕ) (ds : List ArrayDef) → with_all (record { world = w; next = k }) ds ≡ record { world = numbered_from k ds ++ w; next = k + length ds }
with_all_is w k [] = ap (λ n. record { world = w; next = n }) (plus_zero k) where
  plus_zero : (k : ℕ) → k ≡ k + 0
  plus_zero k = omega arith
with_all_is w k (d ∷ ds) =
    with_all_is ((k, d) ∷ w) (k + 1) ds
    ∙ ap₂ (λ u n. record { world = u; next = n }) (sym (append_assoc (numbered_from (k + 1) ds) ((k, d) ∷ []) w)) (one_more k (length ds))
  where
    one_more : (k n : ℕ) → k + 1 + n ≡ k + suc n
    one_more k n = omega arith

pub with_all_append : (a : Arrays) (xs ys : List ArrayDef) → with_all a (xs ++ ys) ≡ with_all (with_all a xs) ys
with_all_append a [] ys = refl
with_all_append a (d ∷ xs) ys = with_all_append (with_new a d).0 xs ys

within_append : (n j : ℕ) (u v : World) → AllWithin n j u → AllWithin n j v → AllWithin n j (u ++ v)
within_append n j [] v a b = b
within_append n j ((k, d) ∷ u) v a b = (a.0, (a.1.0, within_append n j u v a.1.1 b))

within_less : (n m j : ℕ) (u : World) → m ≤ n → AllWithin n j u → AllWithin m j u
within_less n m j [] le a = tt
within_less n m j ((k, d) ∷ u) le a = (omega (arith, a.0), (a.1.0, within_less n m j u le a.1.1))

pub numbered_within : (k : ℕ) (ds : List ArrayDef) → AllWithin k (k + length ds) (numbered_from k ds)
numbered_within k [] = tt
numbered_within k (d ∷ ds) =
    within_append k (k + suc (length ds)) (numbered_from (k + 1) ds) ((k, d) ∷ [])
    (within_less (k + 1) k (k + suc (length ds)) (numbered_from (k + 1) ds) (omega arith) (subst (λ j. AllWithin (k + 1) j (numbered_from (k + 1) ds)) (one_more k (length ds)) (numbered_within (k + 1) ds)))
    (omega arith, (omega arith, tt))
  where
    one_more : (k n : ℕ) → k + 1 + n ≡ k + suc n
    one_more k n = omega arith

pub numbers_more : (n m : ℕ) (w : World) → n ≤ m → NumbersBelow n w → NumbersBelow m w
numbers_more n m [] le below = tt
numbers_more n m ((k, d) ∷ w) le below = (omega (arith, below.0), numbers_more n m w le below.1)

pub order_below : (w : World) → InOrder w → NumbersBelow (length w) w
order_below [] order = tt
order_below ((k, d) ∷ w) order = (omega (arith, order.0), numbers_more (length w) (suc (length w)) w (omega arith) (order_below w order.1.1))

-- numbers lie below the next one
abbrev pub AreFine : Arrays → Type 0
AreFine a = NumbersBelow a.next a.world

pub new_fine : (a : Arrays) (d : ArrayDef) → AreFine a → AreFine (with_new a d).0
new_fine a d fine = (omega arith, numbers_more a.next (a.next + 1) a.world (omega arith) fine)

pub all_fine : (a : Arrays) (ds : List ArrayDef) → AreFine a → AreFine (with_all a ds)
all_fine a [] fine = fine
all_fine a (d ∷ ds) fine = all_fine (with_new a d).0 ds (new_fine a d fine)

pub live_by : (w : World) (v : ℕ) (l : Look) → look w v ≡ Some l → IsLive w v
live_by w v l is = subst (λ o. IsSomeAnd o (λ m. Unit {0})) (sym is) tt

-- What is seen of an older array is seen behind passing ones.
pub record Stays (a b : Arrays) (v : ℕ) : Type 0 where
  pub look_is : look b.world v ≡ look a.world v
  pub elements_are : elements b.world v ≡ elements a.world v
  pub path_is : path b.world v ≡ path a.world v

-- what is seen of it as an argument
pub array_stays : (a b : Arrays) (v : ℕ) → Stays a b v → array_in b v ≡ array_in a v
array_stays a b v stays = ap₂ (λ o es. record { ty = option_map_or (λ l. l.ty) o Byte; dims = option_map_or (λ l. l.dims) o []; elems = es }) stays.look_is stays.elements_are

-- what is seen of a new root
pub root_shown : NewRootIsSeen → (a : Arrays) (ty : Ty) (ds : List ℕ) (es : List ℤ) → length es ≡ size_of ds
    → array_in (with_new a (root ty ds es)).0 a.next ≡ record { ty = ty; dims = ds; elems = es }
root_shown law a ty ds es many =
    let b : Arrays = (with_new a (root ty ds es)).0 in
    let seen : IsSeenAs b.world a.next a.next ty ds es = law a.world a.next ty ds es many in
    ap (λ t. record { ty = t; dims = (array_in b a.next).dims; elems = (array_in b a.next).elems }) seen.ty_is
    ∙ ap₂ (λ es' fs. record { ty = ty; dims = es'; elems = fs }) seen.dims_are seen.elems_are

pub record OlderLaws : Type 0 where
  pub older : OlderStay
  pub elems : OlderElementsStay
  pub paths : OlderPathsStay

module _ (laws : OlderLaws) where
  pub all_stay : (a : Arrays) (v : ℕ) (ds : List ArrayDef) → AreFine a → IsLive a.world v → Stays a (with_all a ds) v
  all_stay a v [] fine live = record { look_is = refl; elements_are = refl; path_is = refl }
  all_stay a v (d ∷ ds) fine live =
      let one : look (with_new a d).0.world v ≡ look a.world v = laws.older a.world a.next v d fine live in
      let rest : Stays (with_new a d).0 (with_all (with_new a d).0 ds) v =
      all_stay (with_new a d).0 v ds (new_fine a d fine) (subst (λ o. IsSomeAnd o (λ l. Unit {0})) (sym one) live) in
      record {
        look_is = rest.look_is ∙ one;
        elements_are = rest.elements_are ∙ laws.elems a.world a.next v d fine live;
        path_is = rest.path_is ∙ laws.paths a.world a.next v d fine live;
      }

  -- so are the rules that refuse a view of it
  pub refusal_stays : (a : Arrays) (v : ℕ) (t : Trans) (ds : List ArrayDef) → AreFine a → IsLive a.world v
      → view_refusal (with_all a ds).world v t ≡ view_refusal a.world v t
  refusal_stays a v t ds fine live =
      let stays : Stays a (with_all a ds) v = all_stay a v ds fine live in
      ap₂ (λ p o. refusal_at p (child_dims t (option_map_or (λ l. l.dims) o []))) stays.path_is stays.look_is
