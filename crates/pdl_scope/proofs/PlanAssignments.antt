-- Assignments to different roots one after another: what is seen after them.
use Rattle.std.proofs.Common.{◌≡◌, ℕ, zero, suc, ◌+◌, ◌<◌, ℤ, List, [], ◌∷◌, ◌++◌, length, map, Bool, true, false, Option, Some, None, arith, refl, sym, ap, subst, ◌∙◌, eqb-true, eq-eqb}
use Rattle.std.specs.Prelude.{◌==◌, if◌then◌else◌, IsSomeAnd, is_some, option_map}
use Rattle.std.specs.List.{range_with_len}
use Rattle.std.proofs.lemmas.List.{length-map}
use Rattle.std.proofs.lemmas.List.FromFn.{length-range_with_len}
use Rattle.std.specs.Option.{option_map_or}
use Rattle.std.proofs.lemmas.Bool.{or_parts}
use Rattle.pdl_lemmas.specs.Tests.{by_test}
use Rattle.pdl_shape.specs.Places.{read, write}
use Rattle.pdl_shape.specs.Shape.{size_of}
use Rattle.pdl_world.specs.CutLaws.{CutsAreRoots, IsRootIn, RootsAreUncut}
use Rattle.pdl_world.specs.Laws.{LooksStay, Reads, ReadsBack, kept_values}
use Rattle.pdl_world.specs.PartLaws.{PartsLeaveOthers, WholesAreParts}
use Rattle.pdl_world.specs.Paths.{root_of}
use Rattle.pdl_world.specs.Sound.{IsLive, IsSound}
use Rattle.pdl_world.specs.Swept.{is_listed}
use Rattle.pdl_world.specs.World.{World, ArrayDef, root, view, Look, look, look_of_root, assign, assign_through, dims_in, elements, has_repeats, is_among, root_elements, set_elements}
use Rattle.pdl_engine.specs.State.{State as Engine}
use Rattle.pdl_scope.specs.Plans.{AllCanAssign, AllForetell, AreApart, AreForetold, ArePlanned, IsChange, all_assigned, change_to, listed, roots_in}
use Rattle.pdl_scope.specs.declared.following.Change.{Change}

-- the laws that are used here
pub record Laws : Type 0 where
  pub looks : LooksStay
  pub reads : Reads
  pub wholes : WholesAreParts
  pub others : PartsLeaveOthers

abbrev root_by : ℕ → Option Look → ℕ
root_by v o = option_map_or (λ (l : Look). l.root) o v

-- an assignment alters no root of an array
pub root_stays : LooksStay → (w : World) (t u : ℕ) (vs : List ℤ) → root_of (assign w t vs) u ≡ root_of w u
root_stays looks w t u vs = ap (root_by u) (looks w t u vs)

pub live_stays : LooksStay → (w : World) (t u : ℕ) (vs : List ℤ) → IsLive w u → IsLive (assign w t vs) u
live_stays looks w t u vs live = subst (λ (o : Option Look). IsSomeAnd o (λ l. Unit {0})) (sym (looks w t u vs)) live

pub live_look : (w : World) (v : ℕ) → IsLive w v → (l : Look) × (look w v ≡ Some l)
live_look w v live = by_look (look w v) live refl
  where
    by_look : (o : Option Look) → IsSomeAnd o (λ l. Unit {0}) → look w v ≡ o → (l : Look) × (look w v ≡ Some l)
    by_look (Some l) h e = (l, e)
    by_look None h e = absurd h

-- arrays of other roots keep their elements
pub others_stay : Laws → (w : World) (t u : ℕ) (vs : List ℤ) → (root_of w u ≡ root_of w t → ⊥) → elements (assign w t vs) u ≡ elements w u
others_stay laws w t u vs other = ap (λ (x : World). elements x u) (laws.wholes w t vs) ∙ laws.others w t u 0 vs other

-- and other roots theirs
set_other : (w : World) (r s : ℕ) (es : List ℤ) → (r == s) ≡ false → root_elements (set_elements w r es) s ≡ root_elements w s
set_other [] r s es other = refl
set_other ((k, root ty ds xs) ∷ w) r s es other = by_test (k == s)
    (λ same. let e : k ≡ s = eqb-true k s same in
    let past : (k == r) ≡ false = by_test (k == r) (λ is. let t : (r == s) ≡ true = eq-eqb r s (sym (eqb-true k r is) ∙ e) in absurd (clash t other)) (λ o. o) in
    rw (same, past) refl)
    (λ apart. rw apart (set_other w r s es other))
  where
    clash : {b : Bool} → b ≡ true → b ≡ false → ⊥
    clash t f = cc
set_other ((k, view p t) ∷ w) r s es other = set_other w r s es other

root_kept : (w : World) (t : ℕ) (vs : List ℤ) (r : ℕ) → (root_of w t == r) ≡ false → root_elements (assign w t vs) r ≡ root_elements w r
root_kept w t vs r other = by_look (look w t) other
  where
    by_look : (o : Option Look) → (root_by t o == r) ≡ false → root_elements (assign_through w o vs) r ≡ root_elements w r
    by_look None apart = refl
    by_look (Some l) apart = set_other w l.root r (write l.places vs (root_elements w l.root)) apart

-- what an assignment leaves shows nothing of one before it to another root
behind : Laws → (w : World) (t s u : ℕ) (vs us : List ℤ) → (root_of w t == root_of w u) ≡ false → root_of w s ≡ root_of w u → IsLive w s → IsLive w u
    → elements (assign (assign w t vs) s us) u ≡ elements (assign w s us) u
behind laws w t s u vs us other same at here =
    let l = live_look w s at in
    let m = live_look w u here in
    let x : World = assign w t vs in
    let in_l : root_of w s ≡ l.0.root = ap (root_by s) l.1 in
    let in_m : root_of w u ≡ m.0.root = ap (root_by u) m.1 in
    let one : (m.0.root == l.0.root) ≡ true = eq-eqb m.0.root l.0.root (sym in_m ∙ sym same ∙ in_l) in
    let apart : (root_of w t == l.0.root) ≡ false = ap (λ r. root_of w t == r) (sym in_l ∙ same) ∙ other in
    let late : elements (assign x s us) u ≡ read m.0.places (if m.0.root == l.0.root then write l.0.places us (root_elements x l.0.root) else root_elements x m.0.root) =
    laws.reads x s u l.0 m.0 us (laws.looks w t s vs ∙ l.1) (laws.looks w t u vs ∙ m.1) in
    let soon : elements (assign w s us) u ≡ read m.0.places (if m.0.root == l.0.root then write l.0.places us (root_elements w l.0.root) else root_elements w m.0.root) =
    laws.reads w s u l.0 m.0 us l.1 m.1 in
    let first : elements (assign x s us) u ≡ read m.0.places (write l.0.places us (root_elements x l.0.root)) = rw one at late in
    let second : elements (assign w s us) u ≡ read m.0.places (write l.0.places us (root_elements w l.0.root)) = rw one at soon in
    first ∙ ap (λ (es : List ℤ). read m.0.places (write l.0.places us es)) (root_kept w t vs l.0.root apart) ∙ sym second

pub apart_stays : LooksStay → (w : World) (t : ℕ) (vs : List ℤ) (cs : List Change) → AreApart w cs → AreApart (assign w t vs) cs
apart_stays looks w t vs [] h = tt
apart_stays looks w t vs (c ∷ cs) h = (h.0 ∙ sym (root_stays looks w t c.target vs), h.1, apart_stays looks w t vs cs h.2)

-- the targets are there
abbrev AreThere : World → List Change → Type 0
AreThere w [] = Unit {0}
AreThere w (c ∷ cs) = IsLive w c.target × AreThere w cs

there_stays : LooksStay → (w : World) (t : ℕ) (vs : List ℤ) (cs : List Change) → AreThere w cs → AreThere (assign w t vs) cs
there_stays looks w t vs [] h = tt
there_stays looks w t vs (c ∷ cs) h = (live_stays looks w t c.target vs h.0, there_stays looks w t vs cs h.1)

are_there : (w : World) (cs : List Change) → AllForetell w cs → AreThere w cs
are_there w [] h = tt
are_there w (c ∷ cs) h = (h.0, are_there w cs h.2)

-- nothing is seen otherwise through any array
pub looks_after : LooksStay → (w : World) (cs : List Change) (u : ℕ) → look (all_assigned w cs) u ≡ look w u
looks_after looks w [] u = refl
looks_after looks w (c ∷ cs) u = looks_after looks (assign w c.target (listed c.values)) cs u ∙ looks w c.target u (listed c.values)

pub live_after : LooksStay → (w : World) (cs : List Change) (u : ℕ) → IsLive w u → IsLive (all_assigned w cs) u
live_after looks w cs u live = subst (λ (o : Option Look). IsSomeAnd o (λ l. Unit {0})) (sym (looks_after looks w cs u)) live

clash : {b : Bool} → b ≡ true → b ≡ false → ⊥
clash t f = cc

-- an array of none of the roots has its elements
untouched : Laws → (w : World) (cs : List Change) (u : ℕ) → AreApart w cs → is_listed (roots_in cs) (root_of w u) ≡ false → elements (all_assigned w cs) u ≡ elements w u
untouched laws w [] u h none = refl
untouched laws w (c ∷ cs) u h none =
    let vs : List ℤ = listed c.values in
    let parts = or_parts (c.root == root_of w u) (is_listed (roots_in cs) (root_of w u)) none in
    untouched laws (assign w c.target vs) cs u (apart_stays laws.looks w c.target vs cs h.2) (ap (is_listed (roots_in cs)) (root_stays laws.looks w c.target u vs) ∙ parts.1)
    ∙ others_stay laws w c.target u vs (λ e. clash (eq-eqb c.root (root_of w u) (h.0 ∙ sym e)) parts.0)

-- The assignment to a root that was found.
record IsFound (w : World) (r : ℕ) (c : Change) : Type 0 where
  root : c.root ≡ r
  own : c.root ≡ root_of w c.target
  live : IsLive w c.target

found_at : (w : World) (cs : List Change) (r : ℕ) (c : Change) → AreApart w cs → AreThere w cs → change_to cs r ≡ Some c → IsFound w r c
found_at w [] r c apart there is = cc
found_at w (b ∷ cs) r c apart there is = by_test (b.root == r)
    (λ same. let e : Some b ≡ Some c = rw same at is in subst (IsFound w r) (some_same b c e) (record { root = eqb-true b.root r same; own = apart.0; live = there.0 }))
    (λ other. let rest : change_to cs r ≡ Some c = rw other at is in found_at w cs r c apart.2 there.1 rest)
  where
    some_same : (b c : Change) → Some b ≡ Some c → b ≡ c
    some_same b c e = cc

-- what shows of a root is what its assignment leaves
left_by : Laws → (w : World) (cs : List Change) (u : ℕ) (c : Change) → AreApart w cs → AreThere w cs → IsLive w u → change_to cs (root_of w u) ≡ Some c
    → elements (all_assigned w cs) u ≡ elements (assign w c.target (listed c.values)) u
left_by laws w [] u c apart there live is = cc
left_by laws w (b ∷ cs) u c apart there live is = by_test (b.root == root_of w u)
    (λ same. let e : Some b ≡ Some c = rw same at is in
    let none : is_listed (roots_in cs) (root_of x u) ≡ false = ap (is_listed (roots_in cs)) (root_stays laws.looks w b.target u vs ∙ sym (eqb-true b.root (root_of w u) same)) ∙ apart.1 in
    untouched laws x cs u (apart_stays laws.looks w b.target vs cs apart.2) none ∙ ap shown (some_same b c e))
    (λ other. let rest : change_to cs (root_of w u) ≡ Some c = rw other at is in
    let found : IsFound w (root_of w u) c = found_at w cs (root_of w u) c apart.2 there.1 rest in
    left_by laws x cs u c (apart_stays laws.looks w b.target vs cs apart.2) (there_stays laws.looks w b.target vs cs there.1) (live_stays laws.looks w b.target u vs live)
    (ap (change_to cs) (root_stays laws.looks w b.target u vs) ∙ rest)
    ∙ behind laws w b.target c.target u vs (listed c.values) (ap (λ r. r == root_of w u) (sym apart.0) ∙ other) (sym found.own ∙ found.root) found.live live)
  where
    vs : List ℤ
    vs = listed b.values

    x : World
    x = assign w b.target vs

    shown : Change → List ℤ
    shown d = elements (assign w d.target (listed d.values)) u

    some_same : (b c : Change) → Some b ≡ Some c → b ≡ c
    some_same b c e = cc

none_listed : (cs : List Change) (r : ℕ) → change_to cs r ≡ None → is_listed (roots_in cs) r ≡ false
none_listed [] r is = refl
none_listed (c ∷ cs) r is = by_test (c.root == r)
    (λ same. let e : Some c ≡ None = rw same at is in cc)
    (λ other. let rest : change_to cs r ≡ None = rw other at is in rw other (none_listed cs r rest))

pub found_listed : (cs : List Change) (r : ℕ) (c : Change) → change_to cs r ≡ Some c → is_listed (roots_in cs) r ≡ true
found_listed [] r c is = cc
found_listed (b ∷ cs) r c is = by_test (b.root == r)
    (λ same. rw same refl)
    (λ other. let rest : change_to cs r ≡ Some c = rw other at is in rw other (found_listed cs r c rest))

-- what an array shows after the assignments, by the one to its root
pub shown_found : Laws → (w : World) (cs : List Change) (u : ℕ) (c : Change) → AreForetold w cs → IsLive w u → change_to cs (root_of w u) ≡ Some c → elements (all_assigned w cs) u ≡ elements (assign w c.target (listed c.values)) u
shown_found laws w cs u c h live is = left_by laws w cs u c h.apart (are_there w cs h.each) live is

pub shown_kept : Laws → (w : World) (cs : List Change) (u : ℕ) → AreForetold w cs → change_to cs (root_of w u) ≡ None → elements (all_assigned w cs) u ≡ elements w u
shown_kept laws w cs u h is = untouched laws w cs u h.apart (none_listed cs (root_of w u) is)

-- and that one can be made
pub found_change : (e : Engine) (cs : List Change) (r : ℕ) (c : Change) → ArePlanned e cs → change_to cs r ≡ Some c → IsChange e c
found_change e cs r c h is = among cs h.foretold.apart h.foretold.each h.can is
  where
    some_same : (b d : Change) → Some b ≡ Some d → b ≡ d
    some_same b d same = cc

    among : (ds : List Change) → AreApart e.world ds → AllForetell e.world ds → AllCanAssign e ds → change_to ds r ≡ Some c → IsChange e c
    among [] apart each can at = cc
    among (b ∷ ds) apart each can at = by_test (b.root == r)
        (λ same. let found : Some b ≡ Some c = rw same at at in subst (IsChange e) (some_same b c found) (record { root = apart.0; foretells = each.1; can = can.0; fit = can.1 }))
        (λ other. let rest : change_to ds r ≡ Some c = rw other at at in among ds apart.2 each.2 can.2 rest)

-- a root is among those that are altered where an assignment is to it
pub altered_found : (cs : List Change) (r : ℕ) → is_some (change_to cs r) ≡ is_listed (roots_in cs) r
altered_found [] r = refl
altered_found (c ∷ cs) r = by_test (c.root == r) (λ same. rw same refl) (λ other. rw other (altered_found cs r))

-- what there is, seen otherwise, is there
pub some_seen : {A B : Type 0} (seen : A → B) (o : Option A) → is_some (option_map seen o) ≡ is_some o
some_seen seen (Some a) = refl
some_seen seen None = refl

-- each position of a root is its own place
among_later : (i a n : ℕ) → i < a → is_among i (map Some (range_with_len a n)) ≡ false
among_later i a zero lt = refl
among_later i a (suc n) lt =
    let other : (i == a) ≡ false = by_test (i == a) (λ same. let e : i ≡ a = eqb-true i a same in absurd (omega (arith, e, lt))) (λ o. o) in
    rw other (among_later i (a + 1) n (omega (arith, lt)))

no_repeats : (a n : ℕ) → has_repeats (map Some (range_with_len a n)) ≡ false
no_repeats a zero = refl
no_repeats a (suc n) = let first : is_among a (map Some (range_with_len (a + 1) n)) ≡ false = among_later a (a + 1) n (omega arith) in rw first (no_repeats (a + 1) n)

all_values : (a n : ℕ) (vs : List ℤ) → length vs ≡ n → kept_values (map Some (range_with_len a n)) vs ≡ vs
all_values a zero [] e = refl
all_values a zero (x ∷ vs) e = absurd (omega (arith, e))
all_values a (suc n) [] e = absurd (omega (arith, e))
all_values a (suc n) (x ∷ vs) e = ap (λ (es : List ℤ). x ∷ es) (all_values (a + 1) n vs (omega (arith, e)))

-- a root has what was assigned to it
pub root_assigned : CutsAreRoots → RootsAreUncut → ReadsBack → (w : World) (v : ℕ) (vs : List ℤ) → IsSound w → IsLive w v → root_of w v ≡ v → length vs ≡ size_of (dims_in w v)
    → elements (assign w v vs) v ≡ vs
root_assigned cuts uncut back w v vs sound live own long =
    let l = live_look w v live in
    let is : IsRootIn w v l.0 = subst (λ (x : World). IsRootIn x v l.0) (uncut w v sound own) (cuts w v l.0 sound l.1) in
    let n = size_of l.0.dims in
    let count : length vs ≡ n = long ∙ ap (λ (o : Option Look). size_of (option_map_or (λ m. m.dims) o [])) l.1 in
    back w v (look_of_root v l.0.ty l.0.dims) vs sound is.look_is (no_repeats 0 n)
    (count ∙ sym (length-map (range_with_len 0 n) Some ∙ length-range_with_len 0 n))
    ∙ all_values 0 n vs count

-- one more at the end
pub roots_more : (cs : List Change) (c : Change) → roots_in (cs ++ c ∷ []) ≡ roots_in cs ++ c.root ∷ []
roots_more [] c = refl
roots_more (b ∷ cs) c = ap (λ (rs : List ℕ). b.root ∷ rs) (roots_more cs c)

pub assigned_more : (w : World) (cs : List Change) (c : Change) → all_assigned w (cs ++ c ∷ []) ≡ assign (all_assigned w cs) c.target (listed c.values)
assigned_more w [] c = refl
assigned_more w (b ∷ cs) c = assigned_more (assign w b.target (listed b.values)) cs c
