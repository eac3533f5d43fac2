-- The names' map as the list of names.
use Rattle.std.proofs.Common.{◌≡◌, ℕ, zero, suc, ◌+◌, ◌<◌, ◌≤◌, Bool, true, false, List, [], ◌∷◌, ◌++◌, length, nat_eq, Option, Some, None, Ok, Err, Bor, refl, sym, ap, subst, ◌∙◌, arith}
use Rattle.std.specs.Prelude.{map, position, IfSome, slice_get, nat_lt, not, ◌&&◌, is_some, is_none, if◌then◌else◌}
use Rattle.std.specs.Option.{option_copied}
use Rattle.std.specs.Cmp.Lexicographic.{pointwise}
use Rattle.std.proofs.lemmas.Bool.Decides.{nat_tests}
use Rattle.std.specs.Map.{lookup, keys_of}
use Rattle.indexmap.specs.IndexMap.{insert_entry, set_value_at, shift_remove_entry}
use Rattle.std.specs.List.{position_or_len}
use Rattle.std.proofs.lemmas.List.{length-map}
use Rattle.pdl_world.specs.World.{World}
use Rattle.pdl_world.specs.Sound.{IsLive}
use Rattle.pdl_engine.specs.State.{State as Engine}
use Rattle.pdl_machine.specs.Flows.{Flows}
use Rattle.pdl_machine.specs.State.{AreLive, IsWhole}
use Rattle.pdl_machine.specs.Watches.{Watches}
use Rattle.pdl_machine.specs.declared.fault.Fault.{Fault}
use Rattle.pdl_scope.specs.Scope.{names_in, state_in}
use Rattle.pdl_machine.specs.Names.{KernelTexts, Named, found, with_name, without_name, is_full_for, entered}

pub number_found : {A : Type 0} (names : Named A) (x : List ℕ) → lookup (pointwise nat_eq x) names ≡ found names x
number_found [] x = refl
number_found (n ∷ names) x = ap (λ o. if pointwise nat_eq x n.0 then Some n.1 else o) (number_found names x)

pub name_inserted : {A : Type 0} (names : Named A) (x : List ℕ) (v : A) → insert_entry (pointwise nat_eq) names x v ≡ with_name names x v
name_inserted [] x v = refl
name_inserted (n ∷ names) x v = ap (λ r. if pointwise nat_eq x n.0 then (n.0, v) ∷ names else n ∷ r) (name_inserted names x v)

pub name_removed : {A : Type 0} (names : Named A) (x : List ℕ) → shift_remove_entry (pointwise nat_eq x) names ≡ without_name names x
name_removed [] x = refl
name_removed (n ∷ names) x = ap (λ r. if pointwise nat_eq x n.0 then names else n ∷ r) (name_removed names x)

pub bind_free : {A : Type 0} (limit : ℕ) (fault : Fault) (names new : Named A) (x y : List ℕ) (v : A) (full : Bool) → full ≡ is_full_for limit names x → full ≡ false → y ≡ x → new ≡ insert_entry (pointwise nat_eq) names y v → entered limit fault names x v ≡ Ok new
bind_free limit fault names new x y v full e h same ok =
    let t : is_full_for limit names x ≡ false = sym e ∙ h in
    let n : new ≡ with_name names x v = ok ∙ ap (λ z. insert_entry (pointwise nat_eq) names z v) same ∙ name_inserted names x v in
    let b : entered limit fault names x v ≡ Ok (with_name names x v) = rw t refl in
    b ∙ ap Ok (sym n)

pub none_told : {A : Type 0} (o : Option A) → false ≡ is_some o → None ≡ o
none_told None h = refl
none_told (Some a) h = absurd (cc)

-- the first entry of a name is set where the name is bound
set_first : {A : Type 0} (names : Named A) (x : List ℕ) (v : A) → position_or_len (pointwise nat_eq x) (keys_of names) < length names
    → set_value_at names (position_or_len (pointwise nat_eq x) (keys_of names)) v ≡ with_name names x v
set_first [] x v below = absurd (omega arith)
set_first {A = A} (n ∷ names) x v below = by_name (pointwise nat_eq x n.0) (set_first names x v) below
  where
    rest : ℕ
    rest = position_or_len (pointwise nat_eq x) (keys_of names)

    by_name : (same : Bool) → (rest < length names → set_value_at names rest v ≡ with_name names x v) → (if not same then 1 + rest else 0) < suc (length names)
        → set_value_at (n ∷ names) (if not same then 1 + rest else 0) v ≡ (if same then (n.0, v) ∷ names else n ∷ with_name names x v)
    by_name true more b = refl
    by_name false more b = let next : 1 + rest ≡ suc rest = omega arith in ap (λ k. set_value_at (n ∷ names) k v) next ∙ ap (λ ns. n ∷ ns) (more (omega arith))

pub name_set : {A : Type 0} (names : Named A) (x : List ℕ) (i : ℕ) (v : A) → Some i ≡ position (pointwise nat_eq x) (keys_of names) → set_value_at names i v ≡ with_name names x v
name_set {A = A} names x i v at = by_bound (nat_lt first (length (keys_of names))) refl at
  where
    first : ℕ
    first = position_or_len (pointwise nat_eq x) (keys_of names)

    by_bound : (within : Bool) → nat_lt first (length (keys_of names)) ≡ within → Some i ≡ (if within then Some first else None) → set_value_at names i v ≡ with_name names x v
    by_bound true is e =
        let same : i ≡ first = cc in
        let l : length (keys_of names) ≡ length names = length-map names (λ e. e.0) in
        let below : first < length names = grind (arith, nat_tests, is, l) in
        ap (λ k. set_value_at names k v) same ∙ set_first names x v below
    by_bound false is e = absurd (cc)

-- a name that isn't bound is bound where there is room
pub bind_unbound : {A : Type 0} (limit : ℕ) (fault : Fault) (names new : Named A) (x y : List ℕ) (v : A) → found names x ≡ None → length names < limit → y ≡ x → new ≡ insert_entry (pointwise nat_eq) names y v
    → entered limit fault names x v ≡ Ok new
bind_unbound limit fault names new x y v none few same ok =
    let t : nat_lt (length names) limit ≡ true = grind (arith, nat_tests, few) in
    let f : is_full_for limit names x ≡ false = rw (none, t) refl in
    bind_free limit fault names new x y v false (sym f) refl same ok

none_is : {A : Type 0} (o : Option A) → is_none o ≡ not (is_some o)
none_is None = refl
none_is (Some x) = refl

pub some_copied : {A : Type 0} (o : Option (Bor A)) → is_some (option_copied o) ≡ is_some o
some_copied None = refl
some_copied (Some x) = refl

-- as the code tells it: so many names, and whether the name isn't among them
pub full_told : {A : Type 0} (limit : ℕ) (names : Named A) (x : List ℕ) (count : ℕ) (o : Option A) (none : Bool) → count ≡ length names → o ≡ found names x → is_some o ≡ not none
    → limit ≤ count → none ≡ is_full_for limit names x
full_told limit names x count o none c here told many =
    let t : nat_lt (length names) limit ≡ false = grind (arith, nat_tests) in
    let n : is_none (found names x) ≡ none = ap is_none (sym here) ∙ none_is o ∙ ap not told ∙ twice none in
    let f : is_full_for limit names x ≡ none = rw t (right (is_none (found names x)) ∙ n) in
    sym f
  where
    twice : (b : Bool) → not (not b) ≡ b
    twice true = refl
    twice false = refl

    right : (b : Bool) → (b && true) ≡ b
    right true = refl
    right false = refl

-- each name's array, and each of these others, can be looked at after a binding to one that can
pub live_bound : (w : World) (names : Named ℕ) (others : List ℕ) (x : List ℕ) (v : ℕ) → AreLive w (map (λ n. n.1) names ++ others) → IsLive w v → AreLive w (map (λ n. n.1) (with_name names x v) ++ others)
live_bound w [] others x v live l = (l, live)
live_bound w (n ∷ names) others x v live l = by_name (pointwise nat_eq x n.0) (live_bound w names others x v live.1 l)
  where
    by_name : (same : Bool) → AreLive w (map (λ n. n.1) (with_name names x v) ++ others) → AreLive w (map (λ n. n.1) (if same then (n.0, v) ∷ names else n ∷ with_name names x v) ++ others)
    by_name true rest = (l, live.1)
    by_name false rest = (live.0, rest)

-- and so can the array of a name
pub live_found : (w : World) (names : Named ℕ) (others : List ℕ) (x : List ℕ) → AreLive w (map (λ n. n.1) names ++ others) → IfSome (found names x) (IsLive w)
live_found w [] others x live = tt
live_found w (n ∷ names) others x live = by_name (pointwise nat_eq x n.0) (live_found w names others x live.1)
  where
    by_name : (same : Bool) → IfSome (found names x) (IsLive w) → IfSome (if same then Some n.1 else found names x) (IsLive w)
    by_name true rest = live.0
    by_name false rest = rest

-- and that of the name at a place
pub live_entry : (w : World) (names : Named ℕ) (others : List ℕ) (i : ℕ) (x : List ℕ) (v : ℕ) → AreLive w (map (λ n. n.1) names ++ others) → slice_get names i ≡ Some (x, v) → IsLive w v
live_entry w [] others i x v live h = cc
live_entry w (n ∷ names) others zero x v live h =
    let e : n ≡ (x, v) = entry_is n (x, v) h in
    let P : List ℕ × ℕ → Type 0 = λ m. IsLive w m.1 in
    subst P e live.0
  where
    entry_is : (a b : List ℕ × ℕ) → Some a ≡ Some b → a ≡ b
    entry_is a b h = cc
live_entry w (n ∷ names) others (suc i) x v live h = live_entry w names others i x v live.1 h

-- names that were bound are the names with the binding
pub bound_is : {A : Type 0} (limit : ℕ) (fault : Fault) (names new : Named A) (x : List ℕ) (v : A) → entered limit fault names x v ≡ Ok new → new ≡ with_name names x v
bound_is limit fault names new x v h = by_full (is_full_for limit names x) h
  where
    by_full : (full : Bool) → (if full then Err fault else Ok (with_name names x v)) ≡ Ok new → new ≡ with_name names x v
    by_full true g = cc
    by_full false g = cc

-- one name more, where it is new
pub length_after : {A : Type 0} (names : Named A) (x : List ℕ) (v : A) → length (with_name names x v) ≡ length names + (if is_none (found names x) then 1 else 0)
length_after [] x v = refl
length_after (n ∷ names) x v = by_name (pointwise nat_eq x n.0) (length_after names x v)
  where
    by_name : (same : Bool) → length (with_name names x v) ≡ length names + (if is_none (found names x) then 1 else 0)
        → length (if same then (n.0, v) ∷ names else n ∷ with_name names x v) ≡ suc (length names) + (if is_none (if same then Some n.1 else found names x) then 1 else 0)
    by_name true rest = omega arith
    by_name false rest = omega arith

-- a state is whole with other kernels
pub whole_defined : (names : Named ℕ) (kernels after : Named KernelTexts) (ws : Watches) (fs : Flows) (e : Engine) → IsWhole (state_in (names_in names kernels) ws fs e) → IsWhole (state_in (names_in names after) ws fs e)
whole_defined names kernels after ws fs e whole = record { sound = whole.sound; below = whole.below; live = whole.live; flows = whole.flows }
