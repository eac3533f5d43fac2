-- How the views below an array are found, the oldest first.
use Rattle.std.proofs.Common.{◌≡◌, ℕ, suc, ◌+◌, ◌-◌, ◌<◌, ◌≤◌, ◌||◌, Bool, true, false, eqb, List, [], ◌∷◌, ◌++◌, Option, Some, None, ◌⊎◌, inl, inr, refl, sym, ◌∙◌, ap, subst, arith}
use Rattle.std.specs.Prelude.{◌↔◌, IsSome, IfSome, IfNone, length}
use Rattle.std.specs.List.{All}
use Rattle.std.specs.BTreeMap.Range.{IsLtBy}
use Rattle.std.specs.Cmp.{nat_cmp_is}
use Rattle.std.specs.Ordering.{nat_cmp}
use Rattle.std.specs.declared.cmp.Ordering.TheVariants.{Less, Equal, Greater}
use Rattle.std.proofs.lemmas.Bool.{cases_Bool, eq-eqb, eqb-true, ne_eqb, or_cases, or_left, or_right}
use Rattle.std.proofs.lemmas.Bool.Decides.{eqb_tells, leb_tells}
use Rattle.std.proofs.lemmas.List.Folds.{list_any-append}
use Rattle.pdl_lemmas.specs.Numbers.{at_other, at_same}
use Rattle.pdl_world.specs.Swept.{is_listed}
use Rattle.pdl_nodes.specs.Below.{AreBelow, IsRising, has_parent_in}
use Rattle.pdl_nodes.specs.Children.{has_number, is_view, is_view_of}
use Rattle.pdl_nodes.specs.Row.{parent_of}
use Rattle.pdl_nodes.specs.Rows.{Falls, Rows, row_at, has}
use Rattle.pdl_nodes.specs.Still.{IsStill}
use Rattle.pdl_nodes.proofs.ChildrenCounted.{view_none, view_there}
use Rattle.pdl_nodes.proofs.WorldFamilies.{still_falls}
use Rattle.pdl_nodes.proofs.RowFinds.{has_below}
use Rattle.pdl_nodes.proofs.AlikePaths.{parent_live}

-- ---- lists of numbers
-- an ordered set has the numbers that are listed
pub numbers_listed : (ns : List ℕ) (u : ℕ) → has_number ns u ≡ is_listed ns u
numbers_listed [] u = refl
numbers_listed (n ∷ ns) u = elim (eqb_tells n u) [
  | inl y ↦ rw (y.0, at_same u n y.1) refl
  | inr y ↦ rw (y.0, at_other u n y.1) (numbers_listed ns u)
]

or_none : (b : Bool) → (b || false) ≡ b
or_none true = refl
or_none false = refl

eqb_back : (a b : ℕ) → eqb a b ≡ eqb b a
eqb_back a b = elim (eqb_tells a b) [
  | inl y ↦ y.0 ∙ sym (eq-eqb b a (sym y.1))
  | inr y ↦ y.0 ∙ sym (ne_eqb b a (λ e. y.1 (sym e)))
]

pub first_listed : (n : ℕ) (ns : List ℕ) → is_listed (n ∷ ns) n ≡ true
first_listed n ns = or_left (eqb n n) (is_listed ns n) (eq-eqb n n refl)

pub rest_listed : (n u : ℕ) (ns : List ℕ) → is_listed ns u ≡ true → is_listed (n ∷ ns) u ≡ true
rest_listed n u ns h = or_right (eqb n u) (is_listed ns u) h

listed_last : (ns : List ℕ) (x u : ℕ) → is_listed (ns ++ x ∷ []) u ≡ (is_listed ns u || eqb x u)
listed_last ns x u = list_any-append (λ v. eqb v u) ns (x ∷ []) ∙ ap (λ b. is_listed ns u || b) (or_none (eqb x u))

rising_last : (ns : List ℕ) (x : ℕ) → IsRising ns → ((a : ℕ) → is_listed ns a ≡ true → a < x) → IsRising (ns ++ x ∷ [])
rising_last [] x r l = (λ u h. (let z : false ≡ true = h in absurd (cc)), tt)
rising_last (n ∷ ns) x r l = (
  λ u h. elim (or_cases (is_listed ns u) (eqb x u) (sym (listed_last ns x u) ∙ h)) [
    | inl y ↦ r.0 u y
    | inr y ↦ (let low : n < x = l n (first_listed n ns) in let same : x ≡ u = eqb-true x u y in omega (arith, low, same))
  ],
  rising_last ns x r.1 (λ a h. l a (rest_listed n a ns h)),
)

-- ---- views
record IsViewed (rs : Rows) (v u : ℕ) : Type 0 where
  live : has rs u ≡ true
  parent : parent_of (row_at rs u) ≡ Some v

viewed : (rs : Rows) (v u : ℕ) → is_view rs v u ≡ true → IsViewed rs v u
viewed rs v u h = elim (cases_Bool (has rs u)) [
  | inl y ↦ record { live = y; parent = by (parent_of (row_at rs u)) (sym (view_there rs v u y) ∙ h) }
  | inr y ↦ (let z : false ≡ true = sym (view_none rs v u y) ∙ h in absurd (cc))
] where
  by : (o : Option ℕ) → is_view_of o v ≡ true → o ≡ Some v
  by None e = (let z : false ≡ true = e in absurd (cc))
  by (Some p) e = ap Some (eqb-true p v e)

view_newer : (rs : Rows) (v u : ℕ) → IsStill rs → is_view rs v u ≡ true → v < u
view_newer rs v u s h = (let i : IsViewed rs v u = viewed rs v u h in (parent_live rs u v s i.live i.parent).1)

-- ---- the search
-- those of us were found, and those of ws are known: they are the views of v, and of those that
-- were found
pub record IsFinding (rs : Rows) (v : ℕ) (us ws : List ℕ) : Type 0 where
  pub rises : IsRising (v ∷ us)
  pub apart : (a u : ℕ) → is_listed (v ∷ us) a ≡ true → is_listed ws u ≡ true → a < u
  pub there : (u : ℕ) → (is_listed us u || is_listed ws u) ≡ true → has rs u ≡ true
  pub views : (u : ℕ) → has rs u ≡ true → (is_listed us u || is_listed ws u) ≡ has_parent_in (v ∷ us) (parent_of (row_at rs u))

finding_begins : (rs : Rows) (v : ℕ) (ws : List ℕ) → IsStill rs → ((u : ℕ) → is_listed ws u ≡ is_view rs v u) → IsFinding rs v [] ws
finding_begins rs v ws s e = record {
  rises = (λ u h. (let z : false ≡ true = h in absurd (cc)), tt);
  apart = λ a u p q. (let same : v ≡ a = eqb-true v a (sym (or_none (eqb v a)) ∙ p) in
      let up : v < u = view_newer rs v u s (sym (e u) ∙ q) in omega (arith, same, up));
  there = λ u h. (viewed rs v u (sym (e u) ∙ h)).live;
  views = λ u h. e u ∙ view_there rs v u h ∙ by (parent_of (row_at rs u));
} where
  by : (o : Option ℕ) → is_view_of o v ≡ has_parent_in (v ∷ []) o
  by None = refl
  by (Some p) = eqb_back p v ∙ sym (or_none (eqb v p))

-- one that is known was found, and its views are known
turned : (a b c d : Bool) → ((a || b) || (c || d)) ≡ ((a || (b || c)) || d)
turned true b c d = refl
turned false true c d = refl
turned false false c d = refl

finding_goes : (rs : Rows) (v : ℕ) (us : List ℕ) (x : ℕ) (ks new : List ℕ) → IsStill rs → IsFinding rs v us (x ∷ ks) → ((u : ℕ) → is_listed ks u ≡ true → x < u) → ((u : ℕ) → is_listed new u ≡ (is_listed ks u || is_view rs x u))
    → IsFinding rs v (us ++ x ∷ []) new
finding_goes rs v us x ks new s f first e = record {
  rises = rising_last (v ∷ us) x f.rises (λ a h. f.apart a x h (first_listed x ks));
  apart = λ a u p q. newer a u (or_cases (is_listed (v ∷ us) a) (eqb x a) (sym (listed_last (v ∷ us) x a) ∙ p)) (or_cases (is_listed ks u) (is_view rs x u) (sym (e u) ∙ q));
  there = λ u h. elim (or_cases (is_listed us u || is_listed (x ∷ ks) u) (is_view rs x u) (sym (all u) ∙ h)) [
    | inl y ↦ f.there u y
    | inr y ↦ (viewed rs x u y).live
  ];
  views = λ u h. all u ∙ ap (λ b. b || is_view rs x u) (f.views u h) ∙ ap (λ b. has_parent_in (v ∷ us) (parent_of (row_at rs u)) || b) (view_there rs x u h) ∙ by (parent_of (row_at rs u));
} where
  all : (u : ℕ) → (is_listed (us ++ x ∷ []) u || is_listed new u) ≡ ((is_listed us u || is_listed (x ∷ ks) u) || is_view rs x u)
  all u = ap (λ b. b || is_listed new u) (listed_last us x u) ∙ ap (λ b. (is_listed us u || eqb x u) || b) (e u) ∙ turned (is_listed us u) (eqb x u) (is_listed ks u) (is_view rs x u)

  newer : (a u : ℕ) → (is_listed (v ∷ us) a ≡ true) ⊎ (eqb x a ≡ true) → (is_listed ks u ≡ true) ⊎ (is_view rs x u ≡ true) → a < u
  newer a u (inl p) (inl q) = f.apart a u p (rest_listed x u ks q)
  newer a u (inl p) (inr q) = (let low : a < x = f.apart a x p (first_listed x ks) in let up : x < u = view_newer rs x u s q in omega (arith, low, up))
  newer a u (inr p) (inl q) = (let same : x ≡ a = eqb-true x a p in let up : x < u = first u q in omega (arith, same, up))
  newer a u (inr p) (inr q) = (let same : x ≡ a = eqb-true x a p in let up : x < u = view_newer rs x u s q in omega (arith, same, up))

  by : (o : Option ℕ) → (has_parent_in (v ∷ us) o || is_view_of o x) ≡ has_parent_in (v ∷ us ++ x ∷ []) o
  by None = refl
  by (Some p) = ap (λ b. is_listed (v ∷ us) p || b) (eqb_back p x) ∙ sym (listed_last (v ∷ us) x p)

finding_ends : (rs : Rows) (v : ℕ) (us : List ℕ) → IsFinding rs v us [] → AreBelow rs v us
finding_ends rs v us f = record {
  rises = f.rises;
  there = λ u h. f.there u (or_left (is_listed us u) false h);
  views = λ u h. sym (or_none (is_listed us u)) ∙ f.views u h;
}

-- ---- the loop: the next was taken out of the ordered set
-- what is known: the next, if there is one, and the rest
abbrev waiting : Option ℕ → List ℕ → List ℕ
waiting None ks = ks
waiting (Some x) ks = x ∷ ks

-- the next is the oldest
abbrev IsOldest : Option ℕ → List ℕ → Type 0
IsOldest None ks = ks ≡ []
IsOldest (Some x) ks = (u : ℕ) → is_listed ks u ≡ true → x < u

abbrev pub IsSearch : Rows → (v : ℕ) → (us : List ℕ) → (next : Option ℕ) → (rest : List ℕ) → Type 0
IsSearch rs v us next ks = IsFinding rs v us (waiting next ks) × IsOldest next ks

less_is : (x q : ℕ) → nat_cmp x q ≡ Less → x < q
less_is x q e = elim (leb_tells (x + 1) q) [
  | inl y ↦ omega (arith, y.1)
  | inr y ↦ elim (eqb_tells x q) [
    | inl z ↦ (let w : Equal ≡ Less = nat_cmp_is x q Equal z.1 ∙ e in absurd (cc))
    | inr z ↦ (let w : Greater ≡ Less = nat_cmp_is x q Greater (omega (arith, y.1, z.1)) ∙ e in absurd (cc))
  ]
]

all_newer : (x : ℕ) (ns : List ℕ) → All (IsLtBy nat_cmp x) ns → (u : ℕ) → is_listed ns u ≡ true → x < u
all_newer x [] a u h = (let z : false ≡ true = h in absurd (cc))
all_newer x (n ∷ ns) a u h = elim (or_cases (eqb n u) (is_listed ns u) h) [
  | inl y ↦ (let low : x < n = less_is x n (a 0 0 (omega arith)) in let same : n ≡ u = eqb-true n u y in omega (arith, low, same))
  | inr y ↦ all_newer x ns (λ k d l. a (suc k) d (omega (arith, l))) u y
]

-- what `pop_first` says
pub record IsPopped (o : Option ℕ) (old new : List ℕ) : Type 0 where
  pub variant : IsSome o ↔ (0 < length old)
  pub removal : IfSome o (λ k. old ≡ k ∷ new)
  pub above : IfSome o (λ k. All (IsLtBy nat_cmp k) new)
  pub unchanged : IfNone o (new ≡ old)

record IsTaken (o : Option ℕ) (old new : List ℕ) : Type 0 where
  same : waiting o new ≡ old
  oldest : IsOldest o new

none_left : (ns : List ℕ) → (0 < length ns → ⊥) → ns ≡ []
none_left [] f = refl
none_left (n ∷ ns) f = absurd (f (omega arith))

taken : (o : Option ℕ) (old new : List ℕ) → IsPopped o old new → IsTaken o old new
taken None old new p = record { same = p.unchanged; oldest = p.unchanged ∙ none_left old (λ l. (let z : false ≡ true = p.variant.1 l in absurd (cc))) }
taken (Some x) old new p = record { same = sym p.removal; oldest = all_newer x new p.above }

pub search_begins : (rs : Rows) (v : ℕ) (next : Option ℕ) (known rest : List ℕ) → IsStill rs → ((u : ℕ) → has_number known u ≡ (has_number [] u || is_view rs v u)) → IsPopped next known rest → IsSearch rs v [] next rest
search_begins rs v next known rest s e p =
    let t : IsTaken next known rest = taken next known rest p in
    (subst (λ ws. IsFinding rs v [] ws) (sym t.same) (finding_begins rs v known s (λ u. sym (numbers_listed known u) ∙ e u)), t.oldest)

pub search_goes : (rs : Rows) (v : ℕ) (us : List ℕ) (x : ℕ) (next later : Option ℕ) (ks known rest : List ℕ) → IsStill rs → IsSearch rs v us next ks → next ≡ Some x → ((u : ℕ) → has_number known u ≡ (has_number ks u || is_view rs x u)) → IsPopped later known rest
    → IsSearch rs v (us ++ x ∷ []) later rest
search_goes rs v us x next later ks known rest s f n e p =
    let at : IsSearch rs v us (Some x) ks = subst (λ o. IsSearch rs v us o ks) n f in
    let t : IsTaken later known rest = taken later known rest p in (
      subst (λ ws. IsFinding rs v (us ++ x ∷ []) ws) (sym t.same)
          (finding_goes rs v us x ks known s at.0 at.1 (λ u. sym (numbers_listed known u) ∙ e u ∙ ap (λ b. b || is_view rs x u) (numbers_listed ks u))),
      t.oldest,
    )

pub search_ends : (rs : Rows) (v : ℕ) (us : List ℕ) (next : Option ℕ) (ks : List ℕ) → IsSearch rs v us next ks → next ≡ None → AreBelow rs v us
search_ends rs v us next ks f n =
    let at : IsSearch rs v us None ks = subst (λ o. IsSearch rs v us o ks) n f in
    finding_ends rs v us (subst (λ ws. IsFinding rs v us ws) at.1 at.0)

-- the newest number
abbrev pub most : Rows → ℕ
most [] = 0
most ((k, r) ∷ rs) = k

up_to_most : (rs : Rows) (u : ℕ) → Falls rs → has rs u ≡ true → u ≤ most rs
up_to_most [] u f h = (let z : false ≡ true = h in absurd (cc))
up_to_most ((k, r) ∷ rs) u f h = elim (eqb_tells k u) [
  | inl y ↦ omega (arith, y.1)
  | inr y ↦ (let low : u < k = has_below rs k u f.0 (rw y.0 at h) in omega (arith, low))
]

-- how many numbers are left from the next on
abbrev pub numbers_left : Rows → Option ℕ → ℕ
numbers_left rs None = 0
numbers_left rs (Some x) = most rs + 1 - x

-- the next is newer each time
pub search_smaller : (rs : Rows) (v : ℕ) (us : List ℕ) (x : ℕ) (next later : Option ℕ) (ks rest : List ℕ) → IsStill rs → IsSearch rs v us next ks → next ≡ Some x → IsSearch rs v (us ++ x ∷ []) later rest → numbers_left rs later < numbers_left rs next
search_smaller rs v us x next later ks rest s f n g =
    let at : IsSearch rs v us (Some x) ks = subst (λ o. IsSearch rs v us o ks) n f in
    let low : x ≤ most rs = up_to_most rs x (still_falls rs s) (at.0.there x (or_right (is_listed us x) (is_listed (x ∷ ks) x) (first_listed x ks))) in
    subst (λ o. numbers_left rs later < numbers_left rs o) (sym n) (by later g low)
  where
    by : (o : Option ℕ) → IsSearch rs v (us ++ x ∷ []) o rest → x ≤ most rs → numbers_left rs o < most rs + 1 - x
    by None h low = omega (arith, low)
    by (Some y) h low =
        let up : x < y = h.0.apart x y (or_right (eqb v x) (is_listed (us ++ x ∷ []) x) (listed_last us x x ∙ or_right (is_listed us x) (eqb x x) (eq-eqb x x refl))) (first_listed y rest) in
        omega (arith, low, up)
