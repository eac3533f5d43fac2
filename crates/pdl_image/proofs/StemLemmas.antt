-- Stems: which one a name begins with, and the fewest underscores that none has.
use Rattle.std.proofs.Common.{◌≡◌, ℕ, zero, suc, ◌+◌, ◌-◌, ◌<◌, ◌≤◌, nat_eq, Bool, true, false, cond, List, [], ◌∷◌, ◌++◌, length, get_or, replicate, refl, ap, ap₂, sym, ◌∙◌, subst, arith, eq-eqb, eqb-true, inl, inr}
use Rattle.std.specs.Prelude.{Option, Some, None, option_map, ◌==◌, ◌||◌, Contains}
use Rattle.std.specs.List.{cons_option, range_with_len, AllByRecursion, IsDistinct}
use Rattle.std.specs.Set.{is_member}
use Rattle.std.proofs.lemmas.Cmp.{nat_eq_equiv}
use Rattle.std.proofs.lemmas.List.FromFn.{length-range_with_len}
use Rattle.std.proofs.lemmas.Map.Made.{length-le_from_is_member}
use Rattle.std.proofs.lemmas.Bool.{or_cases, eqb-false, ne_eqb}
use Rattle.pdl_lemmas.specs.Tests.{by_lt, by_test}
use Rattle.pdl_lemmas.specs.Numbers.{one_less}
use Rattle.pdl_lemmas.specs.Options.{some_inj, none_some}
use Rattle.pdl_image.specs.Stems.{stem, underscores, stem_in, is_in, least_from, least_free, taken, stem_of}
use Rattle.pdl_image.specs.Laws.{StemsAreFree, FewerAreTaken}

-- ---- what a stem's own text begins with

pub underscores_stem : (k : ℕ) (rest : List ℕ) → underscores ((replicate k 95 ++ 100 ∷ []) ++ rest) ≡ Some k
underscores_stem zero rest = refl
underscores_stem (suc k) rest = ap (option_map suc) (underscores_stem k rest)

-- bytes that begin with so many underscores and a `d`
pub underscores_are : (bs : List ℕ) (k : ℕ) → underscores bs ≡ Some k → (rest : List ℕ) × (bs ≡ (replicate k 95 ++ 100 ∷ []) ++ rest)
underscores_are [] k e = absurd (none_some e)
underscores_are (b ∷ bs) k e =
    by_test (b == 100)
    (λ d. ends b bs k (eqb-true b 100 d) (some_inj (sym (ap (λ t. cond t (Some 0) (cond (b == 95) (option_map suc (underscores bs)) None)) d) ∙ e)))
    (λ other. by_test (b == 95)
    (λ u. goes_on b bs k (eqb-true b 95 u) (λ n. underscores_are bs n) (underscores bs) refl
    (sym (ap₂ (λ s t. cond s (Some 0) (cond t (option_map suc (underscores bs)) None)) other u) ∙ e))
    (λ no_underscore. absurd (none_some (sym (ap₂ (λ s t. cond s (Some 0) (cond t (option_map suc (underscores bs)) None)) other no_underscore) ∙ e))))
  where
    ends : (b : ℕ) (bs : List ℕ) (k : ℕ) → b ≡ 100 → 0 ≡ k → (rest : List ℕ) × (b ∷ bs ≡ (replicate k 95 ++ 100 ∷ []) ++ rest)
    ends b bs k is none = (bs, ap (λ c. c ∷ bs) is ∙ ap (λ n. (replicate n 95 ++ 100 ∷ []) ++ bs) none)

    goes_on : (b : ℕ) (bs : List ℕ) (k : ℕ) → b ≡ 95 → ((n : ℕ) → underscores bs ≡ Some n → (rest : List ℕ) × (bs ≡ (replicate n 95 ++ 100 ∷ []) ++ rest)) → (o : Option ℕ) → underscores bs ≡ o → option_map suc o ≡ Some k → (rest : List ℕ) × (b ∷ bs ≡ (replicate k 95 ++ 100 ∷ []) ++ rest)
    goes_on b bs k is behind None was f = absurd (none_some f)
    goes_on b bs k is behind (Some n) was f =
        let found = behind n was in
        (found.0, ap₂ (λ c t. c ∷ t) is found.1 ∙ ap (λ m. (replicate m 95 ++ 100 ∷ []) ++ found.0) (some_inj f))

pub stem_in_stem : (k : ℕ) (rest : List ℕ) → stem_in (stem k ++ rest) ≡ Some k
stem_in_stem k rest = underscores_stem k rest

pub stem_in_is : (name : List ℕ) (k : ℕ) → stem_in name ≡ Some k → (rest : List ℕ) × (name ≡ stem k ++ rest)
stem_in_is [] k e = absurd (none_some e)
stem_in_is (b ∷ bs) k e =
    by_test (b == 36)
    (λ dollar. let behind = underscores_are bs k (sym (ap (λ t. cond t (underscores bs) None) dollar) ∙ e) in
    (behind.0, ap₂ (λ c t. c ∷ t) (eqb-true b 36 dollar) behind.1))
    (λ other. absurd (none_some (sym (ap (λ t. cond t (underscores bs) None) other) ∙ e)))

-- ---- counts in a list

in_rest : (o : Option ℕ) (cs : List ℕ) (k : ℕ) → is_in cs k ≡ true → is_in (cons_option o cs) k ≡ true
in_rest None cs k e = e
in_rest (Some c) cs k e = ap (λ b. (c == k) || b) e ∙ or_true (c == k)
  where
    or_true : (b : Bool) → (b || true) ≡ true
    or_true true = refl
    or_true false = refl

-- a name's count is taken
pub name_takes : (names : List (List ℕ)) (i k : ℕ) (name : List ℕ) → i < length names → get_or names i name ≡ name → stem_in name ≡ Some k → is_in (taken names) k ≡ true
name_takes [] i k name within at e = absurd (omega arith)
name_takes (n ∷ names) zero k name within at e =
    ap (λ o. is_in (cons_option o (taken names)) k) (ap stem_in at ∙ e) ∙ ap (λ b. b || is_in (taken names) k) (eq-eqb k k refl)
name_takes (n ∷ names) (suc i) k name within at e =
    in_rest (stem_in n) (taken names) k (name_takes names i k name (omega arith) at e)

-- a count is taken by a name
pub taken_by : (names : List (List ℕ)) (k : ℕ) → is_in (taken names) k ≡ true → (name : List ℕ) × ((i : ℕ) × ((i < length names) × ((get_or names i name ≡ name) × (stem_in name ≡ Some k))))
taken_by [] k e = absurd (wrong e)
  where
    wrong : false ≡ true → ⊥
    wrong e = cc
taken_by (n ∷ names) k e = at_front n names k (λ there. behind n names k (taken_by names k there)) (stem_in n) refl e
  where
    behind : (n : List ℕ) (names : List (List ℕ)) (k : ℕ) → ((name : List ℕ) × ((i : ℕ) × ((i < length names) × ((get_or names i name ≡ name) × (stem_in name ≡ Some k))))) → (name : List ℕ) × ((i : ℕ) × ((i < suc (length names)) × ((get_or (n ∷ names) i name ≡ name) × (stem_in name ≡ Some k))))
    behind n names k found =
        (found.0, (suc found.1.0, (omega (arith, found.1.1.0), (found.1.1.1.0, found.1.1.1.1))))

    at_front : (n : List ℕ) (names : List (List ℕ)) (k : ℕ) → (is_in (taken names) k ≡ true → (name : List ℕ) × ((i : ℕ) × ((i < suc (length names)) × ((get_or (n ∷ names) i name ≡ name) × (stem_in name ≡ Some k)))))
        → (o : Option ℕ) → stem_in n ≡ o → is_in (cons_option o (taken names)) k ≡ true
        → (name : List ℕ) × ((i : ℕ) × ((i < suc (length names)) × ((get_or (n ∷ names) i name ≡ name) × (stem_in name ≡ Some k))))
    at_front n names k later None was e = later e
    at_front n names k later (Some c) was e =
        elim (or_cases (c == k) (is_in (taken names) k) e) [
          | inl here ↦ (n, (0, (omega arith, (refl, was ∙ ap Some (eqb-true c k here)))))
          | inr there ↦ later there
        ]

-- ---- the least count that isn't in a list

below_from : (tries k : ℕ) (cs : List ℕ) (j : ℕ) → k ≤ j → j < least_from tries k cs → is_in cs j ≡ true
below_from zero k cs j above below = absurd (omega arith)
below_from (suc tries) k cs j above below =
    by_test (is_in cs k)
    (λ there. by_test (k == j) (λ same. subst (λ n. is_in cs n ≡ true) (eqb-true k j same) there)
    (λ other. below_from tries (k + 1) cs j (omega (arith, eqb-false k j other)) (subst (λ b. j < cond b (least_from tries (k + 1) cs) k) there below)))
    (λ free. absurd (wrong k j above (subst (λ b. j < cond b (least_from tries (k + 1) cs) k) free below)))
  where
    wrong : (a b : ℕ) → a ≤ b → b < a → ⊥
    wrong a b h k = omega arith

-- the test as the standard library's words have it
member_is : (cs : List ℕ) (k : ℕ) → is_member nat_eq cs k ≡ is_in cs k
member_is [] k = refl
member_is (c ∷ cs) k = ap₂ (λ a b. a || b) (nat_eq_equiv.symm k c) (member_is cs k)

range_above : (a b n : ℕ) → a < b → AllByRecursion (λ y. nat_eq a y ≡ false) (range_with_len b n)
range_above a b zero h = tt
range_above a b (suc n) h = (ne_eqb a b (λ e. omega arith), range_above a (b + 1) n (omega arith))

range_distinct : (a n : ℕ) → IsDistinct nat_eq (range_with_len a n)
unfolding IsDistinct
range_distinct a zero = tt
range_distinct a (suc n) = (range_above a (a + 1) n (omega arith), range_distinct (a + 1) n)

range_members : (a n q : ℕ) → is_member nat_eq (range_with_len a n) q ≡ true → q < a + n
range_members a zero q e = absurd (wrong e)
  where
    wrong : false ≡ true → ⊥
    wrong e = cc
range_members a (suc n) q e =
    elim (or_cases (nat_eq q a) (is_member nat_eq (range_with_len (a + 1) n) q) e) [
      | inl here ↦ (let same : q ≡ a = eqb-true q a here in omega arith)
      | inr there ↦ omega (arith, range_members (a + 1) n q there)
    ]

-- a list that has each of n counts has as many
as_many : (cs : List ℕ) (n : ℕ) → ((j : ℕ) → j < n → is_in cs j ≡ true) → n ≤ length cs
as_many cs n all =
    subst (λ (k : ℕ). k ≤ length cs) (length-range_with_len 0 n)
    (length-le_from_is_member nat_eq_equiv (range_with_len 0 n) cs (range_distinct 0 n)
    (λ q m. member_is cs q ∙ all q (omega (arith, range_members 0 n q m))))

-- the search ends at a count of the list only when it ran out of tries
last_try : (tries k : ℕ) (cs : List ℕ) → is_in cs (least_from tries k cs) ≡ true → least_from tries k cs ≡ k + tries
last_try zero k cs e = all_tries k
  where
    all_tries : (n : ℕ) → n ≡ n + 0
    all_tries n = omega arith
last_try (suc tries) k cs e =
    by_test (is_in cs k)
    (λ there. let next : least_from (suc tries) k cs ≡ least_from tries (k + 1) cs = ap (λ b. cond b (least_from tries (k + 1) cs) k) there in
    next ∙ last_try tries (k + 1) cs (ap (is_in cs) (sym next) ∙ e) ∙ moved k tries)
    (λ free. absurd (wrong (sym free ∙ ap (is_in cs) (sym (ap (λ b. cond b (least_from tries (k + 1) cs) k) free)) ∙ e)))
  where
    wrong : false ≡ true → ⊥
    wrong e = cc

    moved : (a n : ℕ) → a + 1 + n ≡ a + suc n
    moved a n = omega arith

pub least_is_free : (cs : List ℕ) → is_in cs (least_free cs) ≡ false
least_is_free cs =
    by_test (is_in cs (least_free cs))
    (λ there. let last : least_free cs ≡ 0 + length cs = last_try (length cs) 0 cs there in
    absurd (wrong (length cs) (as_many cs (length cs + 1) (λ j h. by_lt j (least_free cs)
    (λ below. below_from (length cs) 0 cs j (omega arith) below)
    (λ past. subst (λ n. is_in cs n ≡ true) (here j (least_free cs) (length cs) last past h) there)))))
    (λ free. free)
  where
    wrong : (n : ℕ) → n + 1 ≤ n → ⊥
    wrong n h = omega arith

    here : (j m n : ℕ) → m ≡ 0 + n → m ≤ j → j < n + 1 → m ≡ j
    here j m n last past h = omega arith

-- ---- the laws

pub stems_are_free : StemsAreFree
stems_are_free names rest there =
    let k : ℕ = least_free (taken names) in
    let e : is_in (taken names) k ≡ true = name_takes names there.0 k (stem_of names ++ rest) there.1 there.2 (stem_in_stem k rest) in
    wrong (sym (least_is_free (taken names)) ∙ e)
  where
    wrong : false ≡ true → ⊥
    wrong e = cc

pub fewer_are_taken : FewerAreTaken
fewer_are_taken names k below =
    let by = taken_by names k (below_from (length (taken names)) 0 (taken names) k (omega arith) below) in
    let name = stem_in_is by.0 k by.1.1.1.1 in
    (name.0, subst (Contains names) name.1 (by.1.0, by.1.1.0, by.1.1.1.0))

-- ---- the search, try by try

pub least_begins : (cs : List ℕ) → least_free cs ≡ least_from (length cs - 0) 0 cs
least_begins cs = ap (λ (n : ℕ). least_from n 0 cs) (all (length cs))
  where
    all : (n : ℕ) → n ≡ n - 0
    all n = omega arith

-- while a count is in the list, the search goes on at the next one
pub least_goes_on : (cs : List ℕ) (n k : ℕ) → least_free cs ≡ least_from (n - k) k cs → k < n → is_in cs k ≡ true → least_free cs ≡ least_from (n - (k + 1)) (k + 1) cs
least_goes_on cs n k so_far below there =
    so_far ∙ ap (λ (m : ℕ). least_from m k cs) (one_less n k below) ∙ ap (λ b. cond b (least_from (n - (k + 1)) (k + 1) cs) k) there
