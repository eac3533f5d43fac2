-- The arrays of a sound world, the oldest first.
use Rattle.std.proofs.Common.{◌≡◌, ℕ, zero, suc, ◌+◌, ◌-◌, ◌<◌, ◌≤◌, ℤ, Bool, true, false, List, [], ◌∷◌, ◌++◌, length, map, take, Option, Some, None, refl, sym, ap, ap₂, ◌∙◌, subst, arith}
use Rattle.std.specs.Prelude.{◌==◌, nat_lt, nat_le, slice_get, if◌then◌else◌, IsSomeAnd}
use Rattle.std.specs.Option.{option_map_or}
use Rattle.std.proofs.lemmas.Bool.{eq-eqb, eqb-true, eqb-false, ne_eqb, lt-ltb, ltb-true, ltb-false, le-leb, le-ltb, lt-leb}
use Rattle.std.proofs.lemmas.List.{length-append}
use Rattle.std.proofs.Math.Numerals.{sub-suc-lt}
use Rattle.pdl_lemmas.specs.Tests.{by_test}
use Rattle.pdl_elem.specs.declared.Ty.{Ty}
use Rattle.pdl_elem.specs.declared.Ty.TheVariants.{Byte}
use Rattle.pdl_world.specs.declared.Trans.{Trans}
use Rattle.pdl_world.specs.Laws.{LiveLieBelow, OlderStay, OlderElementsStay, NewIsLive, NewRootIsSeen, IsSeenAs}
use Rattle.pdl_world.specs.Paths.{parent_in}
use Rattle.pdl_world.specs.Sound.{IsAllowed, IsLive, IsSound, NumbersBelow}
use Rattle.pdl_world.specs.World.{World, ArrayDef, root, view, Look, look, ty_in, dims_in, elements}
use Rattle.pdl_image.specs.Lines.{Line}
use Rattle.pdl_image.specs.Dump.{array_lines, world_lines}
use Rattle.pdl_registry.specs.Numbered.{first_from}
use Rattle.pdl_engine.specs.Looks.{array_numbers, trans_in}
use Rattle.pdl_machine.specs.Tidy.{older, renumber, with_parent}
use Rattle.pdl_scope.proofs.StepPrinting.{take_entry}
use Rattle.pdl_scope.specs.Dumping.{array_at, lines_at, oldest, place_from}

-- ---- numbers that rise

abbrev AllAbove : ℕ → List ℕ → Type 0
AllAbove k [] = Unit {0}
AllAbove k (j ∷ js) = (k < j) × AllAbove k js

abbrev pub Rises : List ℕ → Type 0
Rises [] = Unit {0}
Rises (k ∷ ks) = AllAbove k ks × Rises ks

abbrev AllUnder : ℕ → List ℕ → Type 0
AllUnder n [] = Unit {0}
AllUnder n (k ∷ ks) = (k < n) × AllUnder n ks

above_last : (k n : ℕ) (ks : List ℕ) → k < n → AllAbove k ks → AllAbove k (ks ++ n ∷ [])
above_last k n [] low above = (low, tt)
above_last k n (j ∷ js) low above = (above.0, above_last k n js low above.1)

rises_last : (n : ℕ) (ks : List ℕ) → AllUnder n ks → Rises ks → Rises (ks ++ n ∷ [])
rises_last n [] under rises = (tt, tt)
rises_last n (k ∷ ks) under rises = (above_last k n ks under.0 rises.0, rises_last n ks under.1 rises.1)

under_last : (n k : ℕ) (ks : List ℕ) → k < n → AllUnder n ks → AllUnder n (ks ++ k ∷ [])
under_last n k [] low under = (low, tt)
under_last n k (j ∷ js) low under = (under.0, under_last n k js low under.1)

numbers_under : (n : ℕ) (w : World) → NumbersBelow n w → AllUnder n (array_numbers w)
numbers_under n [] below = tt
numbers_under n ((k, d) ∷ w) below = under_last n k (array_numbers w) below.0 (numbers_under n w below.1)

pub numbers_rise : (w : World) → IsSound w → Rises (array_numbers w)
numbers_rise [] sound = tt
numbers_rise ((k, d) ∷ w) sound = rises_last k (array_numbers w) (numbers_under k w sound.0) (numbers_rise w sound.2)

-- the number at a place is above those before it
pub above_at : (k : ℕ) (ks : List ℕ) (n v : ℕ) → AllAbove k ks → slice_get ks n ≡ Some v → k < v
above_at k [] n v above at = cc
above_at k (j ∷ js) zero v above at = let e : j ≡ v = cc in omega (arith, e, above.0)
above_at k (j ∷ js) (suc n) v above at = above_at k js n v above.1 at

first_above : (k : ℕ) (ks : List ℕ) → AllAbove k ks → first_from ks (k + 1) ≡ slice_get ks 0
first_above k [] above = refl
first_above k (j ∷ js) above = rw (le-leb (k + 1) j (omega (arith, above.0))) refl

-- behind a number the next one comes
pub next_is : (ks : List ℕ) (n v : ℕ) → Rises ks → slice_get ks n ≡ Some v → first_from ks (v + 1) ≡ slice_get ks (suc n)
next_is [] n v rises at = cc
next_is (k ∷ ks) zero v rises at =
    let e : k ≡ v = cc in
    subst (λ (x : ℕ). first_from (k ∷ ks) (x + 1) ≡ slice_get ks 0) e (rw (lt-leb (k + 1) k (omega arith)) (first_above k ks rises.0))
next_is (k ∷ ks) (suc n) v rises at =
    let low : k < v = above_at k ks n v rises.0 at in
    rw (lt-leb (v + 1) k (omega (arith, low))) (next_is ks n v rises.1 at)

pub first_is : (ks : List ℕ) → first_from ks 0 ≡ slice_get ks 0
first_is [] = refl
first_is (k ∷ ks) = rw (le-leb 0 k (omega arith)) refl

-- behind a number of a world the next one of the world comes
pub next_number : (w : World) (n v : ℕ) → IsSound w → slice_get (array_numbers w) n ≡ Some v → first_from (array_numbers w) (v + 1) ≡ slice_get (array_numbers w) (suc n)
next_number w n v sound at = next_is (array_numbers w) n v (numbers_rise w sound) at

pub length-numbers : (w : World) → length (array_numbers w) ≡ length w
length-numbers [] = refl
length-numbers ((k, d) ∷ w) =
    let last : length (array_numbers w ++ k ∷ []) ≡ length (array_numbers w) + 1 = length-append (array_numbers w) (k ∷ []) in
    omega (arith, last, length-numbers w)

-- ---- the place of a number

place_absent : (v : ℕ) (ks : List ℕ) (at : ℕ) → AllUnder v ks → place_from (ks ++ v ∷ []) v at ≡ length ks + at
place_absent v [] at under = rw (eq-eqb v v refl) (omega arith)
place_absent v (k ∷ ks) at under =
    let shift : length ks + (at + 1) ≡ suc (length ks) + at = omega arith in
    rw (ne_eqb k v (λ e. absurd (omega (arith, e, under.0)))) (place_absent v ks (at + 1) under.1 ∙ shift)

place_other : (v k : ℕ) (ks : List ℕ) (at : ℕ) → (k == v) ≡ false → place_from (ks ++ k ∷ []) v at ≡ place_from ks v at
place_other v k [] at other = rw other refl
place_other v k (j ∷ js) at other =
    by_test (j == v) (λ same. rw same refl) (λ apart. rw apart (place_other v k js (at + 1) other))

-- it is how many arrays are older
pub place_is : (w : World) (v : ℕ) → IsSound w → place_from (array_numbers w) v 0 ≡ older w v
place_is [] v sound = refl
place_is ((k, d) ∷ w) v sound =
    by_test (k == v)
    (λ same.
    let e : k ≡ v = eqb-true k v same in
    let under : AllUnder v (array_numbers w) = subst (λ (n : ℕ). AllUnder n (array_numbers w)) e (numbers_under k w sound.0) in
    let whole : length (array_numbers w) + 0 ≡ length w = omega (arith, length-numbers w) in
    rw same (ap (λ (n : ℕ). place_from (array_numbers w ++ n ∷ []) v 0) e ∙ place_absent v (array_numbers w) 0 under ∙ whole))
    (λ other. rw other (place_other v k (array_numbers w) 0 other ∙ place_is w v sound.2))

-- ---- the array at a place

number_last : (ks : List ℕ) (k i : ℕ) → i ≡ length ks → slice_get (ks ++ k ∷ []) i ≡ Some k
number_last [] k i e = subst (λ (n : ℕ). slice_get (k ∷ []) n ≡ Some k) (sym e) refl
number_last (j ∷ js) k i e = subst (λ (n : ℕ). slice_get (j ∷ (js ++ k ∷ [])) n ≡ Some k) (sym e) (number_last js k (length js) refl)

number_before : (ks : List ℕ) (k i : ℕ) → i < length ks → slice_get (ks ++ k ∷ []) i ≡ slice_get ks i
number_before [] k i low = absurd (omega (arith, low))
number_before (j ∷ js) k zero low = refl
number_before (j ∷ js) k (suc i) low = number_before js k i (omega (arith, low))

pub under_length : (n i : ℕ) → i < suc n → (n == i) ≡ false → i < n
under_length n i low other =
    by_test (nat_lt i n) (λ is. ltb-true i n is)
    (λ not. let le : n ≤ i = ltb-false i n not in absurd (eqb-false n i other (omega (arith, le, low))))

-- the number at a place is that of the array there
pub number_is : (w : World) (i : ℕ) → i < length w → slice_get (array_numbers w) i ≡ Some (array_at w i).0
number_is [] i low = absurd (omega (arith, low))
number_is ((k, d) ∷ w) i low =
    by_test (length w == i)
    (λ same. let e : length w ≡ i = eqb-true (length w) i same in rw same (number_last (array_numbers w) k i (omega (arith, e, length-numbers w))))
    (λ other.
    let below : i < length w = under_length (length w) i low other in
    rw other (number_before (array_numbers w) k i (omega (arith, below, length-numbers w)) ∙ number_is w i below))

-- ---- its lines

-- the parent of a view is below a number
abbrev ParentBelow : ℕ → ArrayDef → Type 0
ParentBelow n (root ty ds es) = Unit {0}
ParentBelow n (view p t) = p < n

parent_below : LiveLieBelow → (w : World) (n i : ℕ) → NumbersBelow n w → IsSound w → ParentBelow n (array_at w i).1
parent_below lie [] n i below sound = tt
parent_below lie ((k, d) ∷ w) n i below sound =
    by_test (length w == i)
    (λ same. rw same (by_def d sound.1))
    (λ other. rw other (parent_below lie w n i below.1 sound.2))
  where
    by_def : (d : ArrayDef) → IsAllowed w d → ParentBelow n d
    by_def (root ty ds es) allowed = tt
    by_def (view p t) allowed = let low : p < k = lie w k p sound.0 allowed.live in omega (arith, low, below.0)

-- a newer array doesn't count among the older ones of a parent
same_parent : (w : World) (k : ℕ) (d e : ArrayDef) → ParentBelow k e → with_parent (older ((k, d) ∷ w)) e ≡ with_parent (older w) e
same_parent w k d (root ty ds es) below = refl
same_parent w k d (view p t) below = rw (ne_eqb k p (λ e. absurd (omega (arith, e, below)))) refl

pub oldest_all : (w : World) (i : ℕ) → length w ≤ i → oldest i w ≡ w
oldest_all [] i le = refl
oldest_all (a ∷ w) i le = rw (lt-ltb (length w) i (omega (arith, le))) refl

abbrev next_lines : (stem : List ℕ) → World → ℕ → List Line
next_lines stem w i = world_lines stem (renumber (oldest i w)) ++ lines_at stem w i

-- with the array at a place there are its lines more
pub lines_next : LiveLieBelow → (stem : List ℕ) (w : World) (i : ℕ) → IsSound w → i < length w → world_lines stem (renumber (oldest (i + 1) w)) ≡ next_lines stem w i
lines_next lie stem [] i sound low = absurd (omega (arith, low))
lines_next lie stem ((k, d) ∷ w) i sound low =
    by_test (length w == i)
    (λ same.
    let e : length w ≡ i = eqb-true (length w) i same in
    let more : nat_lt (length w) (i + 1) ≡ true = lt-ltb (length w) (i + 1) (omega (arith, e)) in
    let less : nat_lt (length w) i ≡ false = le-ltb (length w) i (omega (arith, e)) in
    let rest : oldest i w ≡ w = oldest_all w i (omega (arith, e)) in
    let parent : with_parent (older ((k, d) ∷ w)) d ≡ with_parent (older w) d = same_parent w k d d (newest_parent d sound.1) in
    rw (more, less, same)
    (sym (ap₂ (λ (u : World) (x : ArrayDef). world_lines stem (renumber u) ++ array_lines stem i x) rest parent
    ∙ ap (λ (n : ℕ). world_lines stem (renumber w) ++ array_lines stem n (with_parent (older w) d)) (sym e))))
    (λ other.
    let below : i < length w = under_length (length w) i low other in
    let more : nat_lt (length w) (i + 1) ≡ false = le-ltb (length w) (i + 1) (omega (arith, below)) in
    let less : nat_lt (length w) i ≡ false = le-ltb (length w) i (omega (arith, below)) in
    let parent : with_parent (older ((k, d) ∷ w)) (array_at w i).1 ≡ with_parent (older w) (array_at w i).1 =
    same_parent w k d (array_at w i).1 (parent_below lie w k i sound.0 sound.2) in
    rw (more, less, other)
    (lines_next lie stem w i sound.2 below
    ∙ ap (λ (x : ArrayDef). world_lines stem (renumber (oldest i w)) ++ array_lines stem i x) (sym parent)))
  where
    newest_parent : (d : ArrayDef) → IsAllowed w d → ParentBelow k d
    newest_parent (root ty ds es) allowed = tt
    newest_parent (view p t) allowed = lie w k p sound.0 allowed.live

-- ---- what is looked up of it

-- what is looked up of an array that was made so
abbrev pub LooksLike : World → ℕ → ArrayDef → Type 0
LooksLike w v (root ty ds es) =
    (parent_in w v ≡ None) × (trans_in w v ≡ None) × (ty_in w v ≡ ty) × (dims_in w v ≡ ds) × (elements w v ≡ es)
LooksLike w v (view p t) = (parent_in w v ≡ Some p) × (trans_in w v ≡ Some t)

-- of the newest one
newest_looks : NewRootIsSeen → (w : World) (k : ℕ) (d : ArrayDef) → IsAllowed w d → LooksLike ((k, d) ∷ w) k d
newest_looks seen w k (root ty ds es) allowed =
    let self : (k == k) ≡ true = eq-eqb k k refl in
    let s : IsSeenAs ((k, root ty ds es) ∷ w) k k ty ds es = seen w k ty ds es allowed.1.count in
    (rw self refl, rw self refl, s.ty_is, s.dims_are, s.elems_are)
newest_looks seen w k (view p t) allowed =
    let self : (k == k) ≡ true = eq-eqb k k refl in (rw self refl, rw self refl)

parent_past : (w : World) (k v : ℕ) (d : ArrayDef) → (k == v) ≡ false → parent_in ((k, d) ∷ w) v ≡ parent_in w v
parent_past w k v (root ty ds es) other = rw other refl
parent_past w k v (view p t) other = rw other refl

trans_past : (w : World) (k v : ℕ) (d : ArrayDef) → (k == v) ≡ false → trans_in ((k, d) ∷ w) v ≡ trans_in w v
trans_past w k v (root ty ds es) other = rw other refl
trans_past w k v (view p t) other = rw other refl

-- the laws of worlds that are wanted
pub record Laws : Type 0 where
  pub below : LiveLieBelow
  pub older : OlderStay
  pub elements : OlderElementsStay
  pub live : NewIsLive
  pub seen : NewRootIsSeen

abbrev pub laws_of : LiveLieBelow → OlderStay → OlderElementsStay → NewIsLive → NewRootIsSeen → Laws
laws_of below stay elements live seen =
    record { below = below; older = stay; elements = elements; live = live; seen = seen }

live_past : Laws → (w : World) (k v : ℕ) (d : ArrayDef) → NumbersBelow k w → IsLive w v → IsLive ((k, d) ∷ w) v
live_past laws w k v d below live = subst (λ (o : Option Look). IsSomeAnd o (λ l. Unit {0})) (sym (laws.older w k v d below live)) live

looks_past : Laws → (w : World) (k v : ℕ) (d e : ArrayDef) → NumbersBelow k w → IsLive w v → LooksLike w v e → LooksLike ((k, d) ∷ w) v e
looks_past laws w k v d (root ty ds es) below live looks =
    let low : v < k = laws.below w k v below live in
    let other : (k == v) ≡ false = ne_eqb k v (λ e. absurd (omega (arith, e, low))) in
    let seen : look ((k, d) ∷ w) v ≡ look w v = laws.older w k v d below live in (
      parent_past w k v d other ∙ looks.0,
      trans_past w k v d other ∙ looks.1,
      ap (λ (o : Option Look). option_map_or (λ l. l.ty) o Byte) seen ∙ looks.2,
      ap (λ (o : Option Look). option_map_or (λ l. l.dims) o []) seen ∙ looks.3,
      laws.elements w k v d below live ∙ looks.4,
    )
looks_past laws w k v d (view p t) below live looks =
    let low : v < k = laws.below w k v below live in
    let other : (k == v) ≡ false = ne_eqb k v (λ e. absurd (omega (arith, e, low))) in
    (parent_past w k v d other ∙ looks.0, trans_past w k v d other ∙ looks.1)

-- the array at a place is there, and looks as it was made
pub looks_at : Laws → (w : World) (i : ℕ) → IsSound w → i < length w → IsLive w (array_at w i).0 × LooksLike w (array_at w i).0 (array_at w i).1
looks_at laws [] i sound low = absurd (omega (arith, low))
looks_at laws ((k, d) ∷ w) i sound low =
    by_test (length w == i)
    (λ same. rw same (laws.live w k d sound.1, newest_looks laws.seen w k d sound.1))
    (λ other.
    let rest = looks_at laws w i sound.2 (under_length (length w) i low other) in
    rw other (live_past laws w k (array_at w i).0 d sound.0 rest.0, looks_past laws w k (array_at w i).0 d (array_at w i).1 sound.0 rest.0 rest.1))

-- ---- listed numbers

pub in_range : (ks : List ℕ) (n v : ℕ) → slice_get ks n ≡ Some v → n < length ks
in_range [] n v at = cc
in_range (k ∷ ks) zero v at = omega arith
in_range (k ∷ ks) (suc n) v at = let l : n < length ks = in_range ks n v at in omega (arith, l)

abbrev pub number_or : ℕ → Option ℕ → ℕ
number_or d None = d
number_or d (Some v) = v

-- each listed number is that of an array
pub listed_live : Laws → (w : World) (n v : ℕ) → IsSound w → slice_get (array_numbers w) n ≡ Some v → IsLive w v
listed_live laws w n v sound at =
    let low : n < length w = subst (λ (m : ℕ). n < m) (length-numbers w) (in_range (array_numbers w) n v at) in
    let same : (array_at w n).0 ≡ v = ap (number_or 0) (sym (number_is w n low) ∙ at) in
    subst (λ (u : ℕ). IsLive w u) same (looks_at laws w n sound low).0

-- what is listed up to where nothing more is listed is all
pub taken_all : (ks : List ℕ) (n : ℕ) → slice_get ks n ≡ None → take n ks ≡ ks
taken_all [] zero none = refl
taken_all [] (suc n) none = refl
taken_all (k ∷ ks) zero none = cc
taken_all (k ∷ ks) (suc n) none = ap (λ (js : List ℕ). k ∷ js) (taken_all ks n none)

pub length_more : (old new : List ℕ) (v : ℕ) → new ≡ old ++ v ∷ [] → length new ≡ suc (length old)
length_more old new v is = let l : length (old ++ v ∷ []) ≡ length old + 1 = length-append old (v ∷ []) in ap length is ∙ omega (arith, l)

-- one number more is listed
pub listed_more : (ks old new : List ℕ) (v : ℕ) → new ≡ old ++ v ∷ [] → old ≡ take (length old) ks → slice_get ks (length old) ≡ Some v → new ≡ take (length new) ks
listed_more ks old new v is front at =
    is ∙ ap (λ (js : List ℕ). js ++ v ∷ []) front ∙ sym (take_entry ks (length old) v at) ∙ ap (λ (n : ℕ). take n ks) (sym (length_more old new v is))

-- and fewer are left
pub fewer_left : (ks old new : List ℕ) (v : ℕ) → new ≡ old ++ v ∷ [] → slice_get ks (length old) ≡ Some v → length ks - length new < length ks - length old
fewer_left ks old new v is at =
    subst (λ (n : ℕ). length ks - n < length ks - length old) (sym (length_more old new v is)) (sub-suc-lt (length ks) (length old) (in_range ks (length old) v at))
