-- Lists that are gathered one item at a time, up to the first item that gives nothing.
use Rattle.std.proofs.Common.{◌≡◌, ℕ, ◌+◌, ◌<◌, ◌≤◌, List, [], ◌∷◌, ◌++◌, length, get_or, drop, Option, Some, None, refl, sym, ap, subst, ◌∙◌, append_assoc}
use Rattle.std.specs.Prelude.{option_map}
use Rattle.std.proofs.lemmas.List.{append-nil, drop_all, drop_more}
use Rattle.pdl_world.specs.World.{World}
use Rattle.pdl_machine.specs.Arrays.{Arrays}
use Rattle.pdl_machine.specs.Fills.{number_in}
use Rattle.pdl_machine.specs.Then.{and_more, all_of}
use Rattle.pdl_session.specs.declared.given.Given.{Given}
use Rattle.pdl_session.specs.Arguments.{seen_of, all_seen_of, IsGivenLive, AreGivenLive}

-- what was found is the front of all values
abbrev pub IsFront : {X Y : Type 0} → (X → Option Y) → List X → ℕ → List Y → Type 0
IsFront f xs i found = all_of f xs ≡ option_map (λ ms. found ++ ms) (all_of f (drop i xs))

same_front : {Y : Type 0} (o : Option (List Y)) → o ≡ option_map (λ ms. [] ++ ms) o
same_front None = refl
same_front (Some ys) = refl

moved_front : {Y : Type 0} (found : List Y) (y : Y) (o : Option (List Y)) → option_map (λ ms. found ++ ms) (and_more (Some y) o) ≡ option_map (λ ms. (found ++ y ∷ []) ++ ms) o
moved_front found y None = refl
moved_front found y (Some ms) =
    let e : (found ++ y ∷ []) ++ ms ≡ found ++ (y ∷ ms) = rw append_assoc refl in
    ap Some (sym e)

-- before the first item
pub front_none : {X Y : Type 0} (f : X → Option Y) (xs : List X) (found : List Y) → found ≡ [] → IsFront f xs 0 found
front_none {X} {Y} f xs found e =
    subst (λ (l : List Y). all_of f xs ≡ option_map (λ ms. l ++ ms) (all_of f xs)) (sym e) (same_front (all_of f xs))

front_at : {X Y : Type 0} (f : X → Option Y) (xs : List X) (i : ℕ) (d : X) → i < length xs → all_of f (drop i xs) ≡ and_more (f (get_or xs i d)) (all_of f (drop (i + 1) xs))
front_at f xs i d h = ap (all_of f) (drop_more xs i d h)

-- one more item
pub front_more : {X Y : Type 0} (f : X → Option Y) (xs : List X) (found more : List Y) (i : ℕ) (d : X) (y : Y)
    → i < length xs → f (get_or xs i d) ≡ Some y → more ≡ found ++ y ∷ [] → IsFront f xs i found → IsFront f xs (i + 1) more
front_more {X} {Y} f xs found more i d y h e e' front =
    let a : all_of f (drop i xs) ≡ and_more (Some y) (all_of f (drop (i + 1) xs)) = front_at f xs i d h ∙ ap (λ o. and_more o (all_of f (drop (i + 1) xs))) e in
    subst (λ (l : List Y). IsFront f xs (i + 1) l) (sym e') (front ∙ ap (option_map (λ ms. found ++ ms)) a ∙ moved_front found y (all_of f (drop (i + 1) xs)))

-- an item that gives nothing
pub front_stops : {X Y : Type 0} (f : X → Option Y) (xs : List X) (found : List Y) (i : ℕ) (d : X) → i < length xs → f (get_or xs i d) ≡ None → IsFront f xs i found → all_of f xs ≡ None
front_stops {X} {Y} f xs found i d h e front =
    let a : all_of f (drop i xs) ≡ and_more None (all_of f (drop (i + 1) xs)) = front_at f xs i d h ∙ ap (λ o. and_more o (all_of f (drop (i + 1) xs))) e in
    front ∙ ap (option_map (λ ms. found ++ ms)) a

-- after the last item
pub front_all : {X Y : Type 0} (f : X → Option Y) (xs : List X) (found : List Y) (i : ℕ) → length xs ≤ i → IsFront f xs i found → all_of f xs ≡ Some found
front_all {X} {Y} f xs found i h front =
    let a : all_of f (drop i xs) ≡ Some [] = ap (all_of f) (drop_all i xs h) in
    front ∙ ap (option_map (λ ms. found ++ ms)) a ∙ ap Some (append-nil found)

-- an argument can be looked at where those from it on can, and so can those behind it
pub live_next : (w u : World) (given : List Given) (i : ℕ) (d : Given) → i < length given → u ≡ w → AreGivenLive w (drop i given)
    → IsGivenLive u (get_or given i d) × AreGivenLive w (drop (i + 1) given)
live_next w u given i d h same live =
    let both : AreGivenLive w (get_or given i d ∷ drop (i + 1) given) = subst (AreGivenLive w) (drop_more given i d h) live in
    (subst (λ (x : World). IsGivenLive x (get_or given i d)) (sym same) both.0, both.1)

-- the numbers of arguments, one by one
pub numbers_seen : (a : Arrays) (given : List Given) → all_of number_in (all_seen_of a given) ≡ all_of (λ g. number_in (seen_of a g)) given
numbers_seen a [] = refl
numbers_seen a (g ∷ given) = ap (and_more (number_in (seen_of a g))) (numbers_seen a given)
