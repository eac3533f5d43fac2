-- New arrays bound to names in order, where there is room for all of them.
use Rattle.std.proofs.Common.{◌≡◌, ℕ, zero, suc, ◌+◌, ◌-◌, ◌<◌, ◌≤◌, Bool, true, false, List, [], ◌∷◌, ◌++◌, length, take, drop, get_or, Result, Ok, Err, nat_eq, nat_lt, refl, sym, ap, subst, ◌∙◌, arith}
use Rattle.std.specs.Prelude.{not, ◌||◌, is_some, is_none, if◌then◌else◌, Option, Some, None}
use Rattle.std.specs.Cmp.Lexicographic.{pointwise, same_text}
use Rattle.std.specs.Result.{IsErrAnd}
use Rattle.std.proofs.lemmas.Bool.Decides.{nat_tests}
use Rattle.std.proofs.lemmas.List.{drop_more, take_all}
use Rattle.pdl_lemmas.specs.Tests.{by_test}
use Rattle.pdl_buf.specs.declared.made.Made.{Made}
use Rattle.pdl_machine.specs.declared.fault.Fault.TheVariants.{TooManyNames}
use Rattle.pdl_world.specs.World.{root}
use Rattle.pdl_machine.specs.Arrays.{with_new}
use Rattle.pdl_machine.specs.Names.{Named, Names, found, with_name, is_full_for, entered, bind, names_limit}
use Rattle.pdl_machine.specs.Flows.{Flows}
use Rattle.pdl_machine.specs.Outcome.{new_root}
use Rattle.pdl_machine.specs.State.{State}
use Rattle.pdl_machine.specs.Watches.{Watches}
use Rattle.pdl_machine.specs.Step.{Stepped, bind_value, bound, roots_bound}
use Rattle.pdl_machine.specs.Then.{and_then}
use Rattle.pdl_scope.specs.declared.fault.ScopeFault.{ScopeFault}
use Rattle.pdl_scope.specs.declared.fault.ScopeFault.TheVariants.{Script, NoMemory}
use Rattle.pdl_scope.specs.Answers.{IsFault, Runs}
use Rattle.pdl_scope.specs.Room.{with_names, is_among, new_among, has_room}
use Rattle.pdl_scope.specs.Scope.{Scope, Grows}
use Rattle.pdl_scope.proofs.ScopeNames.{length_after}
use Rattle.pdl_scope.proofs.HoldingLemmas.{few_bound}

abbrev same : List ℕ → List ℕ → Bool
same x y = pointwise nat_eq x y

abbrev one_if : Bool → ℕ
one_if b = if b then 1 else 0

-- one name more, and many
with_all : {A : Type 0} (names front back : Named A) → with_names names (front ++ back) ≡ with_names (with_names names front) back
with_all names [] back = refl
with_all names (n ∷ front) back = with_all (with_name names n.0 n.1) front back

pub with_one_more : {A : Type 0} (names more : Named A) (x : List ℕ) (v : A) → with_names names (more ++ (x, v) ∷ []) ≡ with_name (with_names names more) x v
with_one_more names more x v = with_all names more ((x, v) ∷ [])

-- names that are bound don't get fewer
with_many : {A : Type 0} (names more : Named A) → length names ≤ length (with_names names more)
with_many names [] = omega arith
with_many names (n ∷ more) =
    let l = length_after names n.0 n.1 in
    let rest = with_many (with_name names n.0 n.1) more in
    omega arith

-- one more is one longer
pub one_longer : {A : Type 0} (more : Named A) (n : List ℕ × A) → length (more ++ n ∷ []) ≡ length more + 1
one_longer [] n = refl
one_longer (m ∷ more) n = let rest = one_longer more n in omega arith

-- where all fit, the first one does
pub first_fits : (names more : Named ℕ) (x : List ℕ) (v : ℕ) → length (with_names names ((x, v) ∷ more)) ≤ names_limit → length (with_name names x v) ≤ names_limit
first_fits names more x v few = let rest = with_many (with_name names x v) more in omega arith

-- which names are known after a binding
known_after : {A : Type 0} (names : Named A) (x y : List ℕ) (v : A) → is_some (found (with_name names x v) y) ≡ (same y x || is_some (found names y))
known_after [] x y v = by_test (same y x) (λ is. rw is refl) (λ other. rw other refl)
known_after (n ∷ names) x y v = by_test (same x n.0)
    (λ is. let e : same y x ≡ same y n.0 = ap (same y) (same_text x n.0 (sym is)) in
    by_test (same y n.0)
    (λ here. let t : same y x ≡ true = e ∙ here in rw (is, here, t) refl)
    (λ past. let f : same y x ≡ false = e ∙ past in rw (is, past, f) refl))
    (λ other. by_test (same y n.0)
    (λ here. rw (other, here) (by_test (same y x) (λ t. rw t refl) (λ f. rw f refl)))
    (λ past. rw (other, past) (known_after names x y v)))

-- a known name that is bound leaves as many new
new_known : {A : Type 0} (names : Named A) (x : List ℕ) (v : A) (xs : List (List ℕ)) → is_some (found names x) ≡ true → new_among (with_name names x v) xs ≡ new_among names xs
new_known names x v [] known = refl
new_known names x v (y ∷ xs) known =
    let told : is_some (found (with_name names x v) y) ≡ is_some (found names y) = known_after names x y v ∙ by_test (same y x)
    (λ is. let k : is_some (found names y) ≡ true = ap (λ z. is_some (found names z)) (same_text y x (sym is)) ∙ known in rw (is, k) refl)
    (λ other. rw other refl) in
    rw told (ap (λ n. (if is_some (found names y) || is_among xs y then 0 else 1) + n) (new_known names x v xs known))

-- a new name counts no more once it is bound
new_counted : {A : Type 0} (names : Named A) (x : List ℕ) (v : A) (xs : List (List ℕ)) → is_some (found names x) ≡ false
    → new_among (with_name names x v) xs + one_if (is_among xs x) ≡ new_among names xs
new_counted names x v [] new = refl
new_counted names x v (y ∷ xs) new =
    let rest : new_among (with_name names x v) xs + one_if (is_among xs x) ≡ new_among names xs = new_counted names x v xs new in
    ap (λ b. (if b || is_among xs y then 0 else 1) + new_among (with_name names x v) xs + one_if (same y x || is_among xs x)) (known_after names x y v)
    ∙ counts (same y x) (is_some (found names y)) (is_among xs y) (is_among xs x) (new_among (with_name names x v) xs) (new_among names xs) rest
    (λ is. (let e : y ≡ x = same_text y x (sym is) in (ap (λ z. is_some (found names z)) e ∙ new, ap (is_among xs) e)))
  where
    counts : (s k a r : Bool) (n m : ℕ) → n + one_if r ≡ m → (s ≡ true → (k ≡ false) × (a ≡ r)) → (if (s || k) || a then 0 else 1) + n + one_if (s || r) ≡ (if k || a then 0 else 1) + m
    counts false k a r n m h e = omega (arith, h)
    counts true true a r n m h e = let no = (e refl).0 in cc
    counts true false true true n m h e = omega (arith, h)
    counts true false true false n m h e = let no = (e refl).1 in cc
    counts true false false true n m h e = let no = (e refl).1 in cc
    counts true false false false n m h e = omega (arith, h)

-- how many are new, by the first of the names
pub new_front : {A : Type 0} (names : Named A) (xs : List (List ℕ)) (x : List ℕ) (b : Bool) (n : ℕ) → 1 ≤ length xs → x ≡ get_or xs 0 x → n ≡ new_among names (take (length xs - 1) (drop 1 xs))
    → (is_some (found names x) || is_among (take (length xs - 1) (drop 1 xs)) x) ≡ b → (if b then 0 else 1) + n ≡ new_among names xs
new_front names [] x b n some here count told = absurd (omega arith)
new_front names (y ∷ xs) x b n some here count told =
    let all : take (length (y ∷ xs) - 1) xs ≡ xs = take_all (length (y ∷ xs) - 1) xs (omega arith) in
    let T : List ℕ → Type 0 = λ z. (is_some (found names z) || is_among (take (length (y ∷ xs) - 1) xs) z) ≡ b in
    let t : (is_some (found names y) || is_among xs y) ≡ b = ap (λ zs. is_some (found names y) || is_among zs y) (sym all) ∙ subst T here told in
    ap (λ k. (if b then 0 else 1) + k) (count ∙ ap (new_among names) all) ∙ ap (λ z. (if z then 0 else 1) + new_among names xs) (sym t)

-- the names and the new ones are as many after a binding
pub room_stays : {A : Type 0} (names : Named A) (x : List ℕ) (v : A) (xs : List (List ℕ)) → length (with_name names x v) + new_among (with_name names x v) xs ≡ length names + new_among names (x ∷ xs)
room_stays {A = A} names x v xs = by_found (found names x) refl
  where
    by_found : (o : Option A) → found names x ≡ o → length (with_name names x v) + new_among (with_name names x v) xs ≡ length names + new_among names (x ∷ xs)
    by_found (Some a) e =
        let l : length (with_name names x v) ≡ length names + 0 = length_after names x v ∙ ap (λ o. length names + one_if (is_none o)) e in
        let n = new_known names x v xs (ap is_some e) in
        rw e (omega (arith, l, n))
    by_found None e =
        let l : length (with_name names x v) ≡ length names + 1 = length_after names x v ∙ ap (λ o. length names + one_if (is_none o)) e in
        let n = new_counted names x v xs (ap is_some e) in
        rw e (by_test (is_among xs x) (λ t. rw t (let k = rw t at n in omega arith)) (λ f. rw f (let k = rw f at n in omega arith)))

-- where there is room for all there is for the first
pub fits_first : {A : Type 0} (names : Named A) (x : List ℕ) (v : A) (xs : List (List ℕ)) → length names + new_among names (x ∷ xs) ≤ names_limit → is_full_for names_limit names x ≡ false
fits_first {A = A} names x v xs room = by_found (found names x) refl
  where
    by_found : (o : Option A) → found names x ≡ o → is_full_for names_limit names x ≡ false
    by_found (Some a) e = rw e refl
    by_found None e =
        let new : is_some (found names x) ≡ false = ap is_some e in
        let after : length (with_name names x v) ≡ length names + 1 = length_after names x v ∙ ap (λ o. length names + one_if (is_none o)) e in
        let stays = room_stays names x v xs in
        let t : nat_lt (length names) names_limit ≡ true = grind (arith, nat_tests) in
        rw (e, t) refl

-- room for all, as a number
pub fits_all : {A : Type 0} (names : Named A) (xs : List (List ℕ)) (room : Bool) → room ≡ has_room names xs → room ≡ true → length names + new_among names xs ≤ names_limit
fits_all names xs room is told = by_count (length names + new_among names xs) (sym is ∙ told)
  where
    by_count : (n : ℕ) → not (nat_lt names_limit n) ≡ true → n ≤ names_limit
    by_count n h = by_test (nat_lt names_limit n)
        (λ past. absurd (let no : not true ≡ true = rw past at h in cc))
        (λ within. (let few : n ≤ names_limit = grind (arith, nat_tests) in few))

-- and no room
pub some_too_many : {A : Type 0} (names : Named A) (xs : List (List ℕ)) (room : Bool) → room ≡ has_room names xs → room ≡ false → names_limit < length names + new_among names xs
some_too_many names xs room is told = by_count (length names + new_among names xs) (sym is ∙ told)
  where
    by_count : (n : ℕ) → not (nat_lt names_limit n) ≡ false → names_limit < n
    by_count n h = by_test (nat_lt names_limit n)
        (λ past. (let many : names_limit < n = grind (arith, nat_tests) in many))
        (λ within. absurd (let no : not false ≡ false = rw within at h in cc))

-- the state after a binding for which there is room
abbrev pub with_bound : State → List ℕ → ℕ → State
with_bound s x id = record s { names = record s.names { arrays = with_name s.names.arrays x id } }

pub is_bound : (s : State) (x : List ℕ) (id : ℕ) → is_full_for names_limit s.names.arrays x ≡ false → bind_value s x (s.arrays, id) ≡ Ok (with_bound s x id, [])
is_bound s x id free = rw free refl

abbrev pub left : State → List (List ℕ) → List Made → ℕ → Stepped
left s xs ms i = roots_bound s (drop i xs) (drop i ms)

abbrev pub then_bound : List (List ℕ) → List Made → Stepped → Stepped
then_bound xs ms stepped = and_then stepped (λ after. roots_bound after.0 xs ms)

-- where there isn't room for all
pub none_fit : (s : State) (xs : List (List ℕ)) (ms : List Made) (n : ℕ) → n ≤ length ms → length s.names.arrays ≤ names_limit → names_limit < length s.names.arrays + new_among s.names.arrays (take n xs)
    → roots_bound s xs ms ≡ Err TooManyNames
none_fit s xs ms zero within few many = absurd (omega arith)
none_fit s [] ms (suc n) within few many = absurd (omega arith)
none_fit s (x ∷ xs) [] (suc n) within few many = absurd (omega arith)
none_fit s (x ∷ xs) (m ∷ ms) (suc n) within few many = by_test (is_full_for names_limit s.names.arrays x)
    (λ full. rw full refl)
    (λ free. let mid : State = record s { arrays = (with_new s.arrays (root m.ty m.dims m.elems)).0 } in
    let id : ℕ = s.arrays.next in
    let held : entered names_limit TooManyNames s.names.arrays x id ≡ Ok (with_name s.names.arrays x id) = rw free refl in
    let stays = room_stays s.names.arrays x id (take n xs) in
    ap (then_bound xs ms) (is_bound mid x id free)
    ∙ none_fit (with_bound mid x id) xs ms n (omega arith) (few_bound s.names.arrays (with_name s.names.arrays x id) x id held few) (omega (arith, stays, many)))

-- a name's new array, and then the others
left_is : (s : State) (xs : List (List ℕ)) (ms : List Made) (i : ℕ) (x : List ℕ) (m : Made) → i < length xs → i < length ms → x ≡ get_or xs i x → m ≡ get_or ms i m
    → left s xs ms i ≡ then_bound (drop (i + 1) xs) (drop (i + 1) ms) (bound s x (new_root s.arrays m))
left_is s xs ms i x m within there here it =
    ap (λ ys. roots_bound s ys (drop i ms)) (drop_more xs i x within ∙ ap (λ y. y ∷ drop (i + 1) xs) (sym here))
    ∙ ap (roots_bound s (x ∷ drop (i + 1) xs)) (drop_more ms i m there ∙ ap (λ n. n ∷ drop (i + 1) ms) (sym it))

-- the array came, and there is room for its name
pub record IsNext (s mid : State) (x : List ℕ) (m : Made) (id : ℕ) : Type 0 where
  pub made : new_root s.arrays m ≡ Ok (mid.arrays, id)
  pub named : mid.names ≡ s.names
  pub watched : mid.watches ≡ s.watches
  pub flowing : mid.flows ≡ s.flows
  pub free : is_full_for names_limit s.names.arrays x ≡ false

pub binds : (s mid : State) (x : List ℕ) (m : Made) (id : ℕ) → IsNext s mid x m id → bind_value mid x (mid.arrays, id) ≡ Ok (with_bound mid x id, [])
binds s mid x m id next =
    let F : Names → Type 0 = λ names. is_full_for names_limit names.arrays x ≡ false in
    is_bound mid x id (subst F (sym next.named) next.free)

value_is : (s mid : State) (x : List ℕ) (m : Made) (id : ℕ) → IsNext s mid x m id → bound s x (new_root s.arrays m) ≡ Ok (with_bound mid x id, [])
value_is s mid x m id next =
    let B : Names → Watches → Flows → Stepped = λ names ws fs. and_then (bind names x id) (λ after. Ok (record { names = after; arrays = mid.arrays; watches = ws; flows = fs }, [])) in
    ap (bound s x) next.made ∙ ap (λ names. B names s.watches s.flows) (sym next.named) ∙ ap (λ ws. B mid.names ws s.flows) (sym next.watched) ∙ ap (B mid.names mid.watches) (sym next.flowing) ∙ binds s mid x m id next

-- what can't be refused has no fault but `NoMemory`, which keeps all as it was but for new arrays
pub never_refused : {A T : Type 0} (a : A) (wanted : Stepped) (old new : Scope) (r : Result T ScopeFault) (f : ScopeFault) → IsErrAnd r (λ e. e ≡ f) → IsFault (Ok a) f → Grows old new → Runs wanted old new [] [] r
never_refused a wanted old new (Ok x) f is h g = absurd is
never_refused {A = A} a wanted old new (Err e) f is h g = (by_fault e f is h, record { grown = g; printed = refl })
  where
    by_fault : (e f : ScopeFault) → e ≡ f → IsFault (Ok a) f → IsFault wanted e
    by_fault NoMemory f is h = tt
    by_fault (Script e) f is h = let P : ScopeFault → Type 0 = IsFault (Ok a) in let k : Ok a ≡ Err e = subst P (sym is) h in cc

pub roots_more : (old s mid new : State) (xs : List (List ℕ)) (ms : List Made) (i : ℕ) (x : List ℕ) (m : Made) (id : ℕ) → i < length xs → i < length ms → x ≡ get_or xs i x → m ≡ get_or ms i m
    → roots_bound old xs ms ≡ left s xs ms i → IsNext s mid x m id → new ≡ with_bound mid x id → roots_bound old xs ms ≡ left new xs ms (i + 1)
roots_more old s mid new xs ms i x m id within there here it so_far next is =
    so_far ∙ left_is s xs ms i x m within there here it ∙ ap (then_bound (drop (i + 1) xs) (drop (i + 1) ms)) (value_is s mid x m id next) ∙ ap (λ t. left t xs ms (i + 1)) (sym is)

-- there is room for the others still
pub room_left : (s mid new : State) (x : List ℕ) (xs : List (List ℕ)) (id : ℕ) → mid.names ≡ s.names → new ≡ with_bound mid x id → length s.names.arrays + new_among s.names.arrays (x ∷ xs) ≤ names_limit
    → length new.names.arrays + new_among new.names.arrays xs ≤ names_limit
room_left s mid new x xs id named is room =
    let R : Named ℕ → Type 0 = λ names. length names + new_among names xs ≤ names_limit in
    let stays = room_stays s.names.arrays x id xs in
    subst R (sym (ap (λ (t : State). t.names.arrays) is ∙ ap (λ (names : Names). with_name names.arrays x id) named)) (omega (arith, stays, room))

-- a state with more names, which are bound to arrays that it has
abbrev pub named_too : State → Named ℕ → State
named_too s more = record s { names = record s.names { arrays = with_names s.names.arrays more } }

-- the next array came to a state whose names are bound later
pub named_next : (s mid : State) (more : Named ℕ) (x : List ℕ) (m : Made) (id : ℕ) (rest : List (List ℕ)) → new_root s.arrays m ≡ Ok (mid.arrays, id) → mid.names ≡ s.names → mid.watches ≡ s.watches → mid.flows ≡ s.flows
    → length (with_names s.names.arrays more) + new_among (with_names s.names.arrays more) (x ∷ rest) ≤ names_limit → IsNext (named_too s more) (named_too mid more) x m id
named_next s mid more x m id rest made named watched flowing room = record {
  made = made;
  named = ap (λ (n : Names). record n { arrays = with_names n.arrays more }) named;
  watched = watched;
  flowing = flowing;
  free = fits_first (with_names s.names.arrays more) x id rest room;
}

pub named_is : (mid : State) (more : Named ℕ) (x : List ℕ) (id : ℕ) → named_too mid (more ++ (x, id) ∷ []) ≡ with_bound (named_too mid more) x id
named_is mid more x id = ap (λ ns. record mid { names = record mid.names { arrays = ns } }) (with_one_more mid.names.arrays more x id)

no_more : (s : State) (xs : List (List ℕ)) → roots_bound s xs [] ≡ Ok (s, [])
no_more s [] = refl
no_more s (x ∷ xs) = refl

-- all are bound
pub roots_done : (s : State) (xs : List (List ℕ)) (ms : List Made) (i : ℕ) → (i < length xs → length ms ≤ i) → left s xs ms i ≡ Ok (s, [])
roots_done s [] ms zero end = refl
roots_done s [] ms (suc i) end = refl
roots_done s (x ∷ xs) [] zero end = refl
roots_done s (x ∷ xs) [] (suc i) end = no_more s (drop i xs)
roots_done s (x ∷ xs) (m ∷ ms) zero end = (let le : suc (length ms) ≤ 0 = end (omega arith) in absurd (omega arith))
roots_done s (x ∷ xs) (m ∷ ms) (suc i) end = roots_done s xs ms i (λ lt. (let le : suc (length ms) ≤ suc i = end (omega arith) in omega arith))
