-- One block more of an assignment is written.
use Rattle.std.proofs.Common.{◌≡◌, ◌⊎◌, ℕ, ◌+◌, ◌≤◌, ℤ, Bool, true, false, List, [], length, take, drop, map, Option, Some, None, IsSomeAnd, Result, Ok, Err, is_ok, inl, inr, refl, sym, ◌∙◌, ap, ap₂, subst, arith}
use Rattle.std.specs.Option.{option_map_or}
use Rattle.std.proofs.lemmas.List.{length-map, length-take-le, take_all}
use Rattle.std.proofs.lemmas.List.FromFn.{length-map-range_with_len}
use Rattle.std.proofs.Math.Seq.{take-add}
use Rattle.pdl_elem.specs.declared.Ty.{Ty}
use Rattle.pdl_elem.specs.declared.Ty.TheVariants.{Byte}
use Rattle.pdl_elem.specs.Numbers.{wrapped}
use Rattle.pdl_shape.specs.Places.{read}
use Rattle.pdl_shape.specs.Shape.{size_of}
use Rattle.pdl_shape.specs.Stretched.{stretched}
use Rattle.pdl_lexemes.specs.declared.AssignOp.{AssignOp}
use Rattle.pdl_lexemes.specs.declared.AssignOp.TheVariants.{Set, With}
use Rattle.pdl_ops.specs.Elementwise.{OpRefusal}
use Rattle.pdl_ops.specs.Values.{new_values}
use Rattle.pdl_ops.specs.Parts.{PartsAreCut, StretchedToItself, ValuesAreAsMany}
use Rattle.pdl_world.specs.Paths.{root_of}
use Rattle.pdl_world.specs.Sound.{IsLive}
use Rattle.pdl_world.specs.World.{World, Look, look, has_repeats, places_in, elements, root_elements, dims_in, ty_in, assign}
use Rattle.pdl_push.specs.Targets.{target_of}
use Rattle.pdl_engine.specs.State.{State, TargetIsFresh, is_fresh, target}
use Rattle.pdl_assign.specs.Blocks.{right_in, written_in, block_in, ReadsAsAtStart, list_of}
use Rattle.pdl_world.specs.Parts.{assign_part}
use Rattle.pdl_world.specs.BaseLaws.{AssignmentsLeaveBases, IsShownAsBefore}
use Rattle.pdl_world.specs.PartLaws.{NothingStays, WholesAreParts, PartsJoin, PartsLeaveLooks, PartsLeaveOthers, PartsLeaveRest}
use Rattle.pdl_world.specs.Windows.{base}

-- the laws that are used
pub record Laws : Type 0 where
  pub wholes : WholesAreParts
  pub join : PartsJoin
  pub looks : PartsLeaveLooks
  pub others : PartsLeaveOthers
  pub rest : PartsLeaveRest
  pub nothing : NothingStays
  pub bases : AssignmentsLeaveBases
  pub cut : PartsAreCut
  pub as_many : ValuesAreAsMany
  pub itself : StretchedToItself

-- what is seen of an array stays
pub ty_stays : (w now : World) (x : ℕ) → look now x ≡ look w x → ty_in now x ≡ ty_in w x
ty_stays w now x e = ap (λ o. option_map_or (λ l. l.ty) o Byte) e

pub dims_stay : (w now : World) (x : ℕ) → look now x ≡ look w x → dims_in now x ≡ dims_in w x
dims_stay w now x e = ap (λ o. option_map_or (λ l. l.dims) o []) e

pub root_stays : (w now : World) (x : ℕ) → look now x ≡ look w x → root_of now x ≡ root_of w x
root_stays w now x e = ap (λ o. option_map_or (λ l. l.root) o x) e

pub live_stays : (w now : World) (x : ℕ) → look now x ≡ look w x → IsLive w x → IsLive now x
live_stays w now x e h = (let P : Option Look → Type 0 = λ o. IsSomeAnd o (λ l. Unit {0}) in subst P (sym e) h)

-- a list that is read through a look's places is as long
length_seen : (w : World) (v : ℕ) (o : Option Look) → look w v ≡ o → length (elements w v) ≡ option_map_or (λ l. length l.places) o 0
length_seen w v None h = ap (λ o. length (option_map_or (λ l. read l.places (root_elements w l.root)) o [])) h
length_seen w v (Some l) h = ap (λ o. length (option_map_or (λ l. read l.places (root_elements w l.root)) o [])) h ∙ length-map l.places _

pub length_stays : (w now : World) (v : ℕ) → look now v ≡ look w v → length (elements now v) ≡ length (elements w v)
length_stays w now v e = length_seen now v (look now v) refl ∙ ap (λ o. option_map_or (λ l. length l.places) o 0) e ∙ sym (length_seen w v (look w v) refl)

-- the elements of an array without repeats at positions that aren't written yet
rest_cases : PartsLeaveRest → (w : World) (v : ℕ) (vs : List ℤ) (o : Option Look) → look w v ≡ o → IsSomeAnd o (λ l. Unit {0}) → has_repeats (option_map_or (λ l. l.places) o []) ≡ false
    → drop (0 + length vs) (elements (assign_part w v 0 vs) v) ≡ drop (0 + length vs) (elements w v)
rest_cases rest w v vs None e live once = absurd live
rest_cases rest w v vs (Some l) e live once = rest w v 0 l vs e once

rest_stays : Laws → (w : World) (v n : ℕ) (vs : List ℤ) → IsLive w v → n ≤ length vs → has_repeats (places_in w v) ≡ false
    → drop n (elements (assign_part w v 0 (take n vs)) v) ≡ drop n (elements w v)
rest_stays laws w v n vs live h once =
    let k : 0 + length (take n vs) ≡ n = omega (arith, length-take-le n vs h) in
    ap (λ i. drop i (elements (assign_part w v 0 (take n vs)) v)) (sym k)
    ∙ rest_cases laws.rest w v (take n vs) (look w v) refl live once
    ∙ ap (λ i. drop i (elements w v)) k

-- the right side, where it is of another root
right_apart : Laws → (w : World) (v u n : ℕ) (vs : List ℤ) → (root_of w u ≡ root_of w v → ⊥) → right_in (assign_part w v 0 (take n vs)) v u ≡ right_in w v u
right_apart laws w v u n vs apart =
    let now : World = assign_part w v 0 (take n vs) in
    ap (λ es. stretched (dims_in now u) (dims_in now v) es) (laws.others w v u 0 (take n vs) apart)
    ∙ ap₂ (λ a b. stretched a b (elements w u)) (dims_stay w now u (laws.looks w v u 0 (take n vs))) (dims_stay w now v (laws.looks w v v 0 (take n vs)))

-- an array beside itself is stretched to itself
right_itself : Laws → (w : World) (v : ℕ) → length (elements w v) ≡ size_of (dims_in w v) → right_in w v v ≡ elements w v
right_itself laws w v c = laws.itself (dims_in w v) (elements w v) c

right_same : Laws → (w : World) (v u n : ℕ) (vs : List ℤ) → IsLive w v → length (elements w v) ≡ size_of (dims_in w v) → n ≤ length vs → has_repeats (places_in w v) ≡ false → u ≡ v
    → drop n (right_in (assign_part w v 0 (take n vs)) v u) ≡ drop n (right_in w v u)
right_same laws w v u n vs live c h once e =
    let now : World = assign_part w v 0 (take n vs) in
    let seen : look now v ≡ look w v = laws.looks w v v 0 (take n vs) in
    let c' : length (elements now v) ≡ size_of (dims_in now v) = length_stays w now v seen ∙ c ∙ sym (ap size_of (dims_stay w now v seen)) in
    ap (λ x. drop n (right_in now v x)) e ∙ ap (drop n) (right_itself laws now v c') ∙ rest_stays laws w v n vs live h once
    ∙ sym (ap (drop n) (right_itself laws w v c)) ∙ ap (λ x. drop n (right_in w v x)) (sym e)

right_stays : Laws → (w : World) (v u n : ℕ) (vs : List ℤ) → IsLive w v → length (elements w v) ≡ size_of (dims_in w v) → n ≤ length vs
    → (root_of w u ≡ root_of w v → ⊥) ⊎ ((u ≡ v) × (has_repeats (places_in w v) ≡ false))
    → drop n (right_in (assign_part w v 0 (take n vs)) v u) ≡ drop n (right_in w v u)
right_stays laws w v u n vs live c h (inl apart) = ap (drop n) (right_apart laws w v u n vs apart)
right_stays laws w v u n vs live c h (inr same) = right_same laws w v u n vs live c h same.1 same.0

-- what is found for a block once the values before were written is what was found at the start
block_at : Laws → (sign : AssignOp) (w : World) (v u n c : ℕ) (vs : List ℤ) → ReadsAsAtStart sign w v u → IsLive w v → length (elements w v) ≡ size_of (dims_in w v) → n ≤ length vs → (t r : Ty)
    → new_values sign t r (take c (drop n (elements (assign_part w v 0 (take n vs)) v))) (take c (drop n (right_in (assign_part w v 0 (take n vs)) v u)))
    ≡ new_values sign t r (take c (drop n (elements w v))) (take c (drop n (right_in w v u)))
block_at laws Set w v u n c vs can live k h t r = ap (λ es. Ok (map (wrapped t) (take c es))) (right_stays laws w v u n vs live k h can)
block_at laws (With op) w v u n c vs can live k h t r =
    let once : has_repeats (places_in w v) ≡ false = can.0 in
    let right : (root_of w u ≡ root_of w v → ⊥) ⊎ ((u ≡ v) × (has_repeats (places_in w v) ≡ false)) = elim can.1 [ inl a ↦ inl a | inr e ↦ inr (e, once) ] in
    ap₂ (λ es us. new_values (With op) t r (take c es) (take c us)) (rest_stays laws w v n vs live h once) (right_stays laws w v u n vs live k h right)

pub block_stays : Laws → (sign : AssignOp) (w : World) (v u n c : ℕ) (vs : List ℤ) → ReadsAsAtStart sign w v u → IsLive w v → length (elements w v) ≡ size_of (dims_in w v) → n ≤ length vs
    → block_in sign (assign_part w v 0 (take n vs)) v u n c ≡ block_in sign w v u n c
block_stays laws sign w v u n c vs can live k h =
    let now : World = assign_part w v 0 (take n vs) in
    block_at laws sign w v u n c vs can live k h (ty_in now v) (ty_in now u)
    ∙ ap₂ (λ t r. new_values sign t r (take c (drop n (elements w v))) (take c (drop n (right_in w v u)))) (ty_stays w now v (laws.looks w v v 0 (take n vs))) (ty_stays w now u (laws.looks w v u 0 (take n vs)))

-- there are as many values as positions
pub ok_is : (r : Result (List ℤ) OpRefusal) → is_ok r ≡ true → r ≡ Ok (list_of r)
ok_is (Ok vs) h = refl
ok_is (Err e) h = cc

pub length_written : Laws → (sign : AssignOp) (w : World) (v u : ℕ) → length (elements w v) ≡ size_of (dims_in w v) → is_ok (written_in sign w v u) ≡ true → length (list_of (written_in sign w v u)) ≡ size_of (dims_in w v)
length_written laws sign w v u c h =
    let right : length (right_in w v u) ≡ size_of (dims_in w v) = length-map-range_with_len _ 0 (size_of (dims_in w v)) in
    laws.as_many sign (ty_in w v) (ty_in w u) (elements w v) (right_in w v u) (list_of (written_in sign w v u)) (c ∙ sym right) (ok_is (written_in sign w v u) h) ∙ right

-- the block that comes next has the values that stand there
pub block_is : Laws → (sign : AssignOp) (w now : World) (v u n c : ℕ) → ReadsAsAtStart sign w v u → IsLive w v → length (elements w v) ≡ size_of (dims_in w v) → is_ok (written_in sign w v u) ≡ true → n ≤ size_of (dims_in w v)
    → now ≡ assign_part w v 0 (take n (list_of (written_in sign w v u)))
    → block_in sign now v u n c ≡ Ok (take c (drop n (list_of (written_in sign w v u))))
block_is laws sign w now v u n c can live k ok h e =
    let vs : List ℤ = list_of (written_in sign w v u) in
    let many : length vs ≡ size_of (dims_in w v) = length_written laws sign w v u k ok in
    ap (λ x. block_in sign x v u n c) e
    ∙ block_stays laws sign w v u n c vs can live k (omega (arith, many))
    ∙ laws.cut sign (ty_in w v) (ty_in w u) (elements w v) (right_in w v u) vs n c (ok_is (written_in sign w v u) ok)

-- and once they are written, so many more are
pub written_more : Laws → (w now next : World) (v n c : ℕ) (vs block : List ℤ) → n ≤ length vs → now ≡ assign_part w v 0 (take n vs) → block ≡ take c (drop n vs) → next ≡ assign_part now v n block
    → next ≡ assign_part w v 0 (take (n + c) vs)
written_more laws w now next v n c vs block h e b x =
    let k : 0 + length (take n vs) ≡ n = omega (arith, length-take-le n vs h) in
    x ∙ ap₂ (λ y zs. assign_part y v n zs) e b ∙ ap (λ i. assign_part (assign_part w v 0 (take n vs)) v i (take c (drop n vs))) (sym k)
    ∙ laws.join w v 0 (take n vs) (take c (drop n vs)) ∙ ap (λ zs. assign_part w v 0 zs) (sym (take-add n c vs))

-- all are written
pub written_all : Laws → (w now : World) (v n : ℕ) (vs : List ℤ) → length vs ≤ n → now ≡ assign_part w v 0 (take n vs) → now ≡ assign w v vs
written_all laws w now v n vs h e = e ∙ ap (λ zs. assign_part w v 0 zs) (take_all n vs h) ∙ sym (laws.wholes w v vs)

-- the right side can be lent still
apart_or : (sign : AssignOp) (w : World) (v u : ℕ) → ReadsAsAtStart sign w v u → (root_of w u ≡ root_of w v → ⊥) ⊎ (u ≡ v)
apart_or Set w v u can = elim can [ inl a ↦ inl a | inr e ↦ inr e.0 ]
apart_or (With op) w v u can = can.1

pub lent_still : Laws → (sign : AssignOp) (w now : World) (v u n : ℕ) (vs : List ℤ) (old new : ℕ → Bool) → ReadsAsAtStart sign w v u → now ≡ assign_part w v 0 (take n vs)
    → ((x : ℕ) → (root_of now x ≡ root_of now v → ⊥) → old x ≡ true → new x ≡ true) → old u ≡ true → new v ≡ true → new u ≡ true
lent_still laws sign w now v u n vs old new can e others h k = elim (apart_or sign w v u can) [
  | inl apart ↦ others u (λ same. apart (sym (root_is u) ∙ same ∙ root_is v)) h
  | inr same ↦ ap new same ∙ k
] where
  root_is : (x : ℕ) → root_of now x ≡ root_of w x
  root_is x = root_stays w now x (ap (λ y. look y x) e ∙ laws.looks w v x 0 (take n vs))

-- the base has no repeats still, so what was assigned to can be lent
pub steady_still : Laws → (w now : World) (v : ℕ) (vs : List ℤ) → now ≡ assign_part w v 0 vs → has_repeats (places_in w (base w v)) ≡ false → has_repeats (places_in now (base now v)) ≡ false
steady_still laws w now v vs e once =
    let same : now ≡ assign w v vs = e ∙ sym (laws.wholes w v vs) in
    let kept : IsShownAsBefore w (assign w v vs) v = laws.bases w v v vs in
    ap (λ x. has_repeats (places_in x (base x v))) same
    ∙ ap (λ b. has_repeats (places_in (assign w v vs) b)) kept.base_is
    ∙ ap (λ o. has_repeats (option_map_or (λ (l : Look). l.places) o [])) kept.base_look_is
    ∙ once

pub lent_again : (old new : State) (v : ℕ) → IsLive old.world v → has_repeats (places_in old.world (base old.world v)) ≡ false → TargetIsFresh old v new → is_fresh new v ≡ true
lent_again old new v live once fresh =
    let own : target old.world v ≡ base old.world v = ap (λ b. target_of b (root_of old.world v) (base old.world v)) once in
    fresh v live refl (sym own)
