-- The fields of a walk as the walk that they stand for.
use Rattle.std.proofs.Common.{◌≡◌, ◌≢◌, ℕ, zero, suc, ◌+◌, ◌<◌, ◌≤◌, Bool, true, false, ◌==◌, ℤ, pos, List, [], ◌∷◌, ◌++◌, length, get_or, map, replicate, vec_capacity, Option, Some, None, refl, ap, sym, ◌∙◌, subst, arith, slice_get, IfSome, if◌then◌else◌}
use Rattle.std.specs.List.{AllZip}
use Rattle.std.proofs.lemmas.Bool.Decides.{nat_tests}
use Rattle.std.proofs.lemmas.Int.{ints}
use Rattle.std.proofs.lemmas.List.{length-replicate}
use Rattle.pdl_broadcast.specs.Cursor.{CanJump, Follows, Jumps, Stands, jumped, next_of, rolled_of}
use Rattle.pdl_broadcast.specs.Inside.{IsSound, walk_of}
use Rattle.pdl_broadcast.specs.Walk.{Walk, argument_coordinates, argument_place, arguments_room, standing_at}
use Rattle.pdl_broadcast.specs.declared.cursors.Cursor.{Cursor}
use Rattle.pdl_broadcast.specs.declared.walk.BroadcastWalk.TheInside.{Inside}
use Rattle.pdl_shape.specs.Broadcast.{BroadcastsTo, cut_to}
use Rattle.pdl_shape.specs.Laws.{CutsWithin, PositionLaws}
use Rattle.pdl_shape.specs.Shape.{IsDims, IsWithin, coordinates_of, position_of, size_of}
use Rattle.pdl_shape.specs.Triple.{IsTriple, Triple, place_of}
use Rattle.pdl_broadcast.proofs.CursorStand.{all_can, all_follow, all_stand, first_place, further, last_left, next_length, stands_below, zeros_first, zeros_within, zip_at, zip_long, zip_push}

-- before the end the position is below the size, and at the end it is the size
end_cases : (b : Bool) (p n : ℕ) → (b ≡ false → p < n) → (b ≡ ((if b then n else p) == n)) × ((if b then n else p) ≤ n)
end_cases true p n h = (grind (arith, nat_tests), omega arith)
end_cases false p n h = let low : p < n = h refl in (grind (arith, nat_tests), omega arith)

pub end_is : PositionLaws → (w : Inside) → IsSound w → w.is_at_end ≡ ((walk_of w).index == size_of (walk_of w).dims)
end_is laws w s = (end_cases w.is_at_end (position_of w.dims w.coordinates.items) (size_of w.dims) (λ e. laws.position_below w.dims w.coordinates.items (s.within e))).0

pub index_bound : PositionLaws → (w : Inside) → IsSound w → (walk_of w).index ≤ size_of (walk_of w).dims
index_bound laws w s = (end_cases w.is_at_end (position_of w.dims w.coordinates.items) (size_of w.dims) (λ e. laws.position_below w.dims w.coordinates.items (s.within e))).1

-- a walk that isn't at its end
not_end : (b : Bool) (p n : ℕ) → (if b then n else p) < n → b ≡ false
not_end true p n h = absurd (omega arith)
not_end false p n h = refl

pub going : (w : Inside) → (walk_of w).index < size_of (walk_of w).dims → w.is_at_end ≡ false
going w h = not_end w.is_at_end (position_of w.dims w.coordinates.items) (size_of w.dims) h

-- what is known of an argument before the end
pub record Walk_at (w : Walk) (t : Triple) (place : ℕ) : Type 0 where
  pub place_is : pos place ≡ argument_place w t
  pub reachable : IsWithin t.dims (argument_coordinates w t)
  pub bound : place < 1048576

pub standing_is : PositionLaws → (w : Inside) → IsSound w → w.is_at_end ≡ false → standing_at (walk_of w) ≡ w.coordinates.items
standing_is laws w s e =
    let P : Bool → Type 0 = λ b. coordinates_of w.dims (if b then size_of w.dims else position_of w.dims w.coordinates.items) ≡ w.coordinates.items in
    subst P (sym e) (laws.coordinates_again w.dims w.coordinates.items (s.within e))

walk_at : PositionLaws → CutsWithin → (w : Inside) (t : Triple) (cursor : Cursor) → IsSound w → w.is_at_end ≡ false → Follows w.dims t cursor → Stands w.coordinates.items t cursor → Walk_at (walk_of w) t cursor.place
walk_at laws cuts w t cursor s e f st =
    let same = standing_is laws w s e in
    record {
      place_is = st ∙ ap (λ cs. place_of t (cut_to t.dims cs)) (sym same);
      reachable = subst (λ (cs : List ℕ). IsWithin t.dims (cut_to t.dims cs)) (sym same) (cuts t.dims w.dims w.coordinates.items f.stretched (s.within e));
      bound = stands_below cuts w.dims w.coordinates.items t cursor (s.within e) f st;
    }

both_some : (P Q R : Triple → Type 0) (o : Option Triple) → ((t : Triple) → P t → Q t → R t) → IfSome o P → IfSome o Q → IfSome o R
both_some P Q R None h p q = tt
both_some P Q R (Some t) h p q = h t p q

pub argument_at : PositionLaws → CutsWithin → (w : Inside) (k : ℕ) (cursor : Cursor) → IsSound w → w.is_at_end ≡ false → k < length w.triples.items → cursor ≡ get_or w.cursors.items k cursor → IfSome (slice_get w.triples.items k) (λ t. Walk_at (walk_of w) t cursor.place)
argument_at laws cuts w k cursor s e h c =
    both_some _ _ _ (slice_get w.triples.items k) (λ t f st. walk_at laws cuts w t cursor s e f st)
    (zip_at (Follows w.dims) w.triples.items w.cursors.items k cursor s.followed h c)
    (zip_at (Stands w.coordinates.items) w.triples.items w.cursors.items k cursor (s.standing e) h c)

-- a new walk
pub record Fresh (w : Inside) (ds : List ℕ) : Type 0 where
  pub dims_are : w.dims ≡ ds
  pub limits : IsDims ds
  pub no_triples : w.triples.items ≡ []
  pub no_cursors : w.cursors.items ≡ []
  pub zeros : w.coordinates.items ≡ replicate (length ds) 0
  pub ending : w.is_at_end ≡ (size_of ds == 0)
  pub triples_room : arguments_room ≤ vec_capacity w.triples
  pub cursors_room : arguments_room ≤ vec_capacity w.cursors

nothing : (R : Triple → Cursor → Type 0) (ts : List Triple) (cs : List Cursor) → ts ≡ [] → cs ≡ [] → AllZip R ts cs
nothing R ts cs p q = rw (p, q) tt

not_empty : (n : ℕ) (b : Bool) → b ≡ (n == 0) → b ≡ false → n ≢ 0
not_empty n b e h = grind (arith, nat_tests, e, h)

pub sound_new : (w : Inside) (ds : List ℕ) → Fresh w ds → IsSound w
sound_new w ds f = record {
  limits = subst IsDims (sym f.dims_are) f.limits;
  count = ap length f.zeros ∙ length-replicate (length ds) 0 ∙ ap length (sym f.dims_are);
  within = λ e. rw (f.dims_are, f.zeros) (zeros_within ds (not_empty (size_of ds) w.is_at_end f.ending e));
  followed = nothing (Follows w.dims) _ _ f.no_triples f.no_cursors;
  triples_room = f.triples_room;
  cursors_room = f.cursors_room;
  standing = λ e. nothing (Stands w.coordinates.items) _ _ f.no_triples f.no_cursors;
}

first_index : (b : Bool) (n p : ℕ) → b ≡ (n == 0) → p ≡ 0 → ◌≡◌ {A = ℕ} (if b then n else p) 0
first_index true n p e z = grind (arith, nat_tests, e)
first_index false n p e z = z

same_walk : (ds ds' : List ℕ) (ts ts' : List Triple) (n n' : ℕ) → ds ≡ ds' → ts ≡ ts' → n ≡ n' → ◌≡◌ {A = Walk} (record { dims = ds; triples = ts; index = n }) (record { dims = ds'; triples = ts'; index = n' })
same_walk ds ds' ts ts' n n' p q r = cc

pub walk_new : (w : Inside) (ds : List ℕ) → Fresh w ds → walk_of w ≡ record { dims = ds; triples = []; index = 0 }
walk_new w ds f = same_walk _ _ _ _ _ _ f.dims_are f.no_triples (rw (f.dims_are, f.zeros) (first_index w.is_at_end (size_of ds) (position_of ds (replicate (length ds) 0)) f.ending (zeros_first ds)))

-- one more argument of a walk at its first coordinates
pub record Added (w old : Inside) (t : Triple) (cursor : Cursor) : Type 0 where
  pub dims_same : w.dims ≡ old.dims
  pub coordinates_same : w.coordinates.items ≡ old.coordinates.items
  pub ending_same : w.is_at_end ≡ old.is_at_end
  pub triples_are : w.triples.items ≡ old.triples.items ++ t ∷ []
  pub cursors_are : w.cursors.items ≡ old.cursors.items ++ cursor ∷ []
  pub first : (walk_of old).index ≡ 0
  pub at_offset : cursor.place ≡ t.offset
  pub follows : Follows old.dims t cursor
  pub triples_room : arguments_room ≤ vec_capacity w.triples
  pub cursors_room : arguments_room ≤ vec_capacity w.cursors

position_first : (b : Bool) (n p : ℕ) → b ≡ false → (if b then n else p) ≡ 0 → p ≡ 0
position_first true n p e z = absurd (cc)
position_first false n p e z = z

stands_first : (w : Inside) (t : Triple) (cursor : Cursor) → IsSound w → w.is_at_end ≡ false → (walk_of w).index ≡ 0 → cursor.place ≡ t.offset → Stands w.coordinates.items t cursor
stands_first w t cursor s e z o =
    let none = first_place t.incs t.dims w.dims w.coordinates.items (s.within e) (position_first w.is_at_end (size_of w.dims) (position_of w.dims w.coordinates.items) e z) in
    rw (o, none) (omega (arith, ints))

pub sound_add : (w old : Inside) (t : Triple) (cursor : Cursor) → IsSound old → Added w old t cursor → IsSound w
sound_add w old t cursor s a = record {
  limits = subst IsDims (sym a.dims_same) s.limits;
  count = ap length a.coordinates_same ∙ s.count ∙ ap length (sym a.dims_same);
  within = λ e. rw (a.dims_same, a.coordinates_same) (s.within (sym a.ending_same ∙ e));
  followed = rw (a.dims_same, a.triples_are, a.cursors_are) (zip_push (Follows old.dims) _ _ t cursor s.followed a.follows);
  triples_room = a.triples_room;
  cursors_room = a.cursors_room;
  standing = λ e. rw (a.coordinates_same, a.triples_are, a.cursors_are) (zip_push (Stands old.coordinates.items) _ _ t cursor (s.standing (sym a.ending_same ∙ e)) (stands_first old t cursor s (sym a.ending_same ∙ e) a.first a.at_offset));
}

-- what `offset` answers, of the walk that the fields stand for
known_at : PositionLaws → CutsWithin → (w : Inside) (v : Walk) (k : ℕ) (cursor : Cursor) → IsSound w → walk_of w ≡ v → k < length v.triples → v.index < size_of v.dims → cursor ≡ get_or w.cursors.items k cursor → IfSome (slice_get v.triples k) (λ t. Walk_at v t cursor.place)
known_at laws cuts w v k cursor s e h inside c =
    let P : Walk → Type 0 = λ u. k < length u.triples → u.index < size_of u.dims → IfSome (slice_get u.triples k) (λ t. Walk_at u t cursor.place) in
    subst P e (λ known within. argument_at laws cuts w k cursor s (going w within) known c) h inside

from_some : (P Q : Triple → Type 0) (o : Option Triple) → ((t : Triple) → P t → Q t) → IfSome o P → IfSome o Q
from_some P Q None h p = tt
from_some P Q (Some t) h p = h t p

pub argument_is : PositionLaws → CutsWithin → (w : Inside) (v : Walk) (k : ℕ) (cursor : Cursor) → IsSound w → walk_of w ≡ v → k < length v.triples → v.index < size_of v.dims → cursor ≡ get_or w.cursors.items k cursor → IfSome (slice_get v.triples k) (λ t. pos cursor.place ≡ argument_place v t)
argument_is laws cuts w v k cursor s e h inside c = from_some _ _ (slice_get v.triples k) (λ t a. a.place_is) (known_at laws cuts w v k cursor s e h inside c)

pub argument_reaches : PositionLaws → CutsWithin → (w : Inside) (v : Walk) (k : ℕ) (cursor : Cursor) → IsSound w → walk_of w ≡ v → k < length v.triples → v.index < size_of v.dims → cursor ≡ get_or w.cursors.items k cursor → IfSome (slice_get v.triples k) (λ t. IsWithin t.dims (argument_coordinates v t))
argument_reaches laws cuts w v k cursor s e h inside c = from_some _ _ (slice_get v.triples k) (λ t a. a.reachable) (known_at laws cuts w v k cursor s e h inside c)

some_bound : (ts : List Triple) (k n : ℕ) (P : Triple → Type 0) → ((t : Triple) → P t → n < 1048576) → k < length ts → IfSome (slice_get ts k) P → n < 1048576
some_bound [] k n P h low p = absurd (omega arith)
some_bound (t ∷ ts) zero n P h low p = h t p
some_bound (t ∷ ts) (suc k) n P h low p = some_bound ts k n P h (omega arith) p

pub argument_bound : PositionLaws → CutsWithin → (w : Inside) (v : Walk) (k : ℕ) (cursor : Cursor) → IsSound w → walk_of w ≡ v → k < length v.triples → v.index < size_of v.dims → cursor ≡ get_or w.cursors.items k cursor → cursor.place < 1048576
argument_bound laws cuts w v k cursor s e h inside c = some_bound v.triples k cursor.place (λ t. Walk_at v t cursor.place) (λ t a. a.bound) h (known_at laws cuts w v k cursor s e h inside c)

-- there is a cursor for each argument
pub argument_count : (w : Inside) (v : Walk) → IsSound w → walk_of w ≡ v → length w.cursors.items ≡ length v.triples
argument_count w v s e = zip_long (Follows w.dims) w.triples.items w.cursors.items s.followed ∙ ap (λ u. length u.triples) e

pub argument_known : (w : Inside) (v : Walk) (k : ℕ) → IsSound w → walk_of w ≡ v → k < length v.triples → k < length w.cursors.items
argument_known w v k s e h = omega (arith, argument_count w v s e)

-- an argument that is added follows
pub added_follows : (walk sizes ds : List ℕ) (incs : List ℤ) (t u : Triple) (v : Walk) (cursor : Cursor) → u ≡ t → IsTriple u → walk ≡ v.dims → BroadcastsTo t.dims v.dims → sizes ≡ walk → incs ≡ u.incs → ds ≡ u.dims → Jumps sizes incs ds cursor.jumps → Follows walk t cursor
added_follows walk sizes ds incs t u v cursor same s d b w i e jumps = record {
  stretched = subst (BroadcastsTo t.dims) (sym d) b;
  sound = subst IsTriple same s;
  jumping =
      let P : List ℕ → Type 0 = λ js. Jumps js t.incs t.dims cursor.jumps in
      let Q : List ℤ → Type 0 = λ is. Jumps sizes is t.dims cursor.jumps in
      let R : List ℕ → Type 0 = λ zs. Jumps sizes incs zs cursor.jumps in
      subst P w (subst Q (i ∙ ap (λ x. x.incs) same) (subst R (e ∙ ap (λ x. x.dims) same) jumps));
}

-- what the code finds when a walk moves on: the next coordinates, and how many dimensions roll over
pub record Stepped (w : Inside) (sizes coordinates next : List ℕ) (k : ℕ) : Type 0 where
  pub sizes_are : sizes ≡ w.dims
  pub coordinates_are : coordinates ≡ w.coordinates.items
  pub next_is : next ≡ next_of sizes coordinates
  pub rolled_is : k ≡ rolled_of sizes coordinates

pub step_next : (w : Inside) (sizes coordinates next : List ℕ) (k : ℕ) → Stepped w sizes coordinates next k → next ≡ next_of w.dims w.coordinates.items
step_next w sizes coordinates next k s = s.next_is ∙ ap (λ js. next_of js coordinates) s.sizes_are ∙ ap (next_of w.dims) s.coordinates_are

pub step_rolled : (w : Inside) (sizes coordinates next : List ℕ) (k : ℕ) → Stepped w sizes coordinates next k → k ≡ rolled_of w.dims w.coordinates.items
step_rolled w sizes coordinates next k s = s.rolled_is ∙ ap (λ js. rolled_of js coordinates) s.sizes_are ∙ ap (rolled_of w.dims) s.coordinates_are

pub going_on : (w : Inside) (v : Walk) → walk_of w ≡ v → v.index < size_of v.dims → w.is_at_end ≡ false
going_on w v e h = let P : Walk → Type 0 = λ u. u.index < size_of u.dims in going w (subst P (sym e) h)

-- each cursor can jump
pub jump_all : CutsWithin → (w : Inside) (k : ℕ) (cursors : List Cursor) → IsSound w → w.is_at_end ≡ false → k ≡ rolled_of w.dims w.coordinates.items → k < length w.dims → cursors ≡ w.cursors.items → (n : ℕ) (d : Cursor) → n < length cursors → CanJump k (get_or cursors n d)
jump_all cuts w k cursors s e r h c =
    let P : ℕ → List Cursor → Type 0 = λ m cs. (n : ℕ) (d : Cursor) → n < length cs → CanJump m (get_or cs n d) in
    let low : rolled_of w.dims w.coordinates.items < length w.dims = omega arith in
    let all = all_can cuts w.dims w.coordinates.items w.triples.items w.cursors.items (s.within e) low s.followed (s.standing e) in
    subst (λ (m : ℕ). P m cursors) (sym r) (subst (λ (cs : List Cursor). P (rolled_of w.dims w.coordinates.items) cs) (sym c) all)

-- the fields after a jump
pub record Went (w old : Inside) (k : ℕ) : Type 0 where
  pub dims_same : w.dims ≡ old.dims
  pub triples_same : w.triples.items ≡ old.triples.items
  pub ending_same : w.is_at_end ≡ old.is_at_end
  pub coordinates_are : w.coordinates.items ≡ next_of old.dims old.coordinates.items
  pub cursors_are : w.cursors.items ≡ map (jumped k) old.cursors.items
  pub rolled : k ≡ rolled_of old.dims old.coordinates.items
  pub on : k < length old.dims
  pub triples_room : vec_capacity w.triples ≡ vec_capacity old.triples
  pub cursors_room : vec_capacity w.cursors ≡ vec_capacity old.cursors

pub sound_jump : PositionLaws → CutsWithin → (w old : Inside) (k : ℕ) → IsSound old → old.is_at_end ≡ false → Went w old k → IsSound w
sound_jump laws cuts w old k s e g =
    let low : rolled_of old.dims old.coordinates.items < length old.dims = omega (arith, g.rolled, g.on) in
    let more = further old.dims old.coordinates.items (s.within e) low in
    record {
      limits = subst IsDims (sym g.dims_same) s.limits;
      count = ap length g.coordinates_are ∙ next_length laws old.dims old.coordinates.items (s.within e) ∙ ap length (sym g.dims_same);
      within = λ e'. rw (g.dims_same, g.coordinates_are) more.within;
      followed = rw (g.dims_same, g.triples_same, g.cursors_are) (all_follow old.dims k old.triples.items old.cursors.items s.followed);
      triples_room = omega (arith, g.triples_room, s.triples_room);
      cursors_room = omega (arith, g.cursors_room, s.cursors_room);
      standing = λ e'. rw (g.coordinates_are, g.triples_same, g.cursors_are, g.rolled) (all_stand cuts old.dims old.coordinates.items old.triples.items old.cursors.items (s.within e) low s.followed (s.standing e));
    }

index_on : (b : Bool) (n p q : ℕ) → b ≡ false → q ≡ p + 1 → ◌≡◌ {A = ℕ} (if b then n else q) ((if b then n else p) + 1)
index_on true n p q e h = absurd (cc)
index_on false n p q e h = h

on_by_one : (old : Inside) (v : Walk) → walk_of old ≡ v → ◌≡◌ {A = Walk} (record { dims = old.dims; triples = old.triples.items; index = (walk_of old).index + 1 }) (record { dims = v.dims; triples = v.triples; index = v.index + 1 })
on_by_one old v e = ap (λ u. record { dims = u.dims; triples = u.triples; index = u.index + 1 }) e

pub walk_jump : (w old : Inside) (v : Walk) (k : ℕ) → walk_of old ≡ v → IsSound old → old.is_at_end ≡ false → Went w old k → walk_of w ≡ record { dims = v.dims; triples = v.triples; index = v.index + 1 }
walk_jump w old v k same s e g =
    let low : rolled_of old.dims old.coordinates.items < length old.dims = omega (arith, g.rolled, g.on) in
    let more = further old.dims old.coordinates.items (s.within e) low in
    let index : (walk_of w).index ≡ (walk_of old).index + 1 = rw (g.dims_same, g.coordinates_are, g.ending_same) (index_on old.is_at_end (size_of old.dims) (position_of old.dims old.coordinates.items) _ e more.further) in
    same_walk _ _ _ _ _ _ g.dims_same g.triples_same index ∙ on_by_one old v same

-- at the last coordinates
index_end : (b : Bool) (n p : ℕ) → b ≡ false → p + 1 ≡ n → ◌≡◌ {A = ℕ} n ((if b then n else p) + 1)
index_end true n p e h = absurd (cc)
index_end false n p e h = sym h

pub walk_end : (old : Inside) (v : Walk) → walk_of old ≡ v → IsSound old → old.is_at_end ≡ false → length old.dims ≤ rolled_of old.dims old.coordinates.items →
    ◌≡◌ {A = Walk} (record { dims = old.dims; triples = old.triples.items; index = size_of old.dims }) (record { dims = v.dims; triples = v.triples; index = v.index + 1 })
walk_end old v same s e h =
    same_walk _ _ _ _ _ _ refl refl (index_end old.is_at_end (size_of old.dims) (position_of old.dims old.coordinates.items) e (last_left old.dims old.coordinates.items (s.within e) h)) ∙ on_by_one old v same
