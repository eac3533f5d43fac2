-- What calls move, from what their parts move.
use Rattle.std.proofs.Common.{◌≡◌, ℕ, zero, suc, ◌+◌, ◌≤◌, ◌<◌, Bool, true, false, List, [], ◌∷◌, ◌++◌, take, drop, get_or, length, Option, Some, None, refl, sym, ap, subst, arith}
use Rattle.std.proofs.Common.{Bor}
use Rattle.std.specs.Prelude.{if◌then◌else◌, sum_by}
use Rattle.std.proofs.lemmas.List.{take-append-drop, take_more}
use Rattle.std.proofs.lemmas.List.Sums.{sum_by-cons}
use Rattle.pdl_world.specs.Sound.{IsLive}
use Rattle.pdl_world.specs.World.{World}
use Rattle.pdl_engine.specs.Reading.{read_steps}
use Rattle.pdl_machine.specs.Then.{all_of, and_more}
use Rattle.pdl_scope.specs.Costs.{CostsNoMore, GrowingMakesNoneDearer, IsInOrder}
use Rattle.pdl_scope.specs.Growth.{reads_grow}
use Rattle.pdl_scope.specs.Scope.{Scope, engine_of, OnlyReads}
use Rattle.pdl_session.specs.Arguments.{AreGivenLive, IsGivenLive, array_and_one, array_number, few_arrays, one_array, second_array, text_and_more, two_and_more, two_arrays}
use Rattle.pdl_session.specs.Costs.{all_steps, given_steps, read_all, read_one}
use Rattle.pdl_session.specs.declared.given.Given.{Given}
use Rattle.pdl_session.specs.declared.given.Given.TheVariants.{Array, Text, OfType}

-- reading makes no array dearer
pub reads_cost : GrowingMakesNoneDearer → (old new : Scope) → IsInOrder old → IsInOrder new → OnlyReads old new → CostsNoMore (engine_of old) (engine_of new)
reads_cost law old new a b r = law old new a b (reads_grow old new r)

-- arguments of which each takes no more
pub less_one : (f g : ℕ → ℕ) (w : World) (x : Given) → IsGivenLive w x → ((v : ℕ) → IsLive w v → f v ≤ g v) → given_steps f x ≤ given_steps g x
less_one f g w (Array v) live less = less v live
less_one f g w (Text t) live less = omega arith
less_one f g w (OfType ty) live less = omega arith

pub less_all : (f g : ℕ → ℕ) (w : World) (given : List Given) → AreGivenLive w given → ((v : ℕ) → IsLive w v → f v ≤ g v) → all_steps f given ≤ all_steps g given
less_all f g w [] live less = omega arith
less_all f g w (x ∷ given) live less =
    let a = less_one f g w x live.0 less in
    let b = less_all f g w given live.1 less in
    omega (arith, a, b)

-- the shapes of argument lists
pub one_costs : (f : ℕ → ℕ) (given : List Given) (v : ℕ) → one_array given ≡ Some v → f v ≤ all_steps f given
one_costs f [] v is = absurd (cc)
one_costs f (Array u ∷ []) v is = (let same : u ≡ v = cc in let e : f u ≡ f v = ap f same in omega (arith, e))
one_costs f (Array u ∷ x ∷ rest) v is = absurd (cc)
one_costs f (Text t ∷ rest) v is = absurd (cc)
one_costs f (OfType ty ∷ rest) v is = absurd (cc)

pub second_costs : (f : ℕ → ℕ) (given : List Given) (v : ℕ) → second_array given ≡ Some v → f v ≤ all_steps f (drop 1 given)
second_costs f [] v is = absurd (cc)
second_costs f (Array u ∷ []) v is = absurd (cc)
second_costs f (Array u ∷ Array x ∷ []) v is = (let same : x ≡ v = cc in let e : f x ≡ f v = ap f same in omega (arith, e))
second_costs f (Array u ∷ Array x ∷ y ∷ rest) v is = absurd (cc)
second_costs f (Array u ∷ Text t ∷ rest) v is = absurd (cc)
second_costs f (Array u ∷ OfType ty ∷ rest) v is = absurd (cc)
second_costs f (Text t ∷ rest) v is = absurd (cc)
second_costs f (OfType ty ∷ rest) v is = absurd (cc)

-- those that are numbered
pub numbers_cost : (f : ℕ → ℕ) (given : List Given) (ids : List ℕ) → all_of array_number given ≡ Some ids → sum_by f ids ≡ all_steps f given
numbers_cost f [] [] is = refl
numbers_cost f [] (v ∷ ids) is = absurd (cc)
numbers_cost f (Array v ∷ given) ids is = by_rest (all_of array_number given) (numbers_cost f given) is
  where
    by_rest : (o : Option (List ℕ)) → ((vs : List ℕ) → o ≡ Some vs → sum_by f vs ≡ all_steps f given) → and_more (Some v) o ≡ Some ids → sum_by f ids ≡ f v + all_steps f given
    by_rest None h e = absurd (cc)
    by_rest (Some vs) h e = (let same : v ∷ vs ≡ ids = cc in let rest = h vs refl in let all : sum_by f ids ≡ sum_by f (v ∷ vs) = ap (sum_by f) (sym same) in omega (arith, rest, all, sum_by-cons f v vs))
numbers_cost f (Text t ∷ given) ids is = absurd (cc)
numbers_cost f (OfType ty ∷ given) ids is = absurd (cc)

-- one argument more is read
live_at : (w : World) (given : List Given) (i : ℕ) (d : Given) → i < length given → AreGivenLive w given → IsGivenLive w (get_or given i d)
live_at w [] i d lt live = absurd (omega arith)
live_at w (x ∷ given) zero d lt live = live.0
live_at w (x ∷ given) (suc i) d lt live = live_at w given i d (omega arith) live.1

pub steps_both : (f : ℕ → ℕ) (xs ys : List Given) → all_steps f (xs ++ ys) ≡ all_steps f xs + all_steps f ys
steps_both f [] ys = omega arith
steps_both f (x ∷ xs) ys = (let rest = steps_both f xs ys in omega (arith, rest))

more_steps : (f : ℕ → ℕ) (given : List Given) (i : ℕ) (d : Given) → i < length given → all_steps f (take (i + 1) given) ≡ all_steps f (take i given) + given_steps f (get_or given i d)
more_steps f given i d lt =
    let both = steps_both f (take i given) (get_or given i d ∷ []) in
    let all : all_steps f (take (i + 1) given) ≡ all_steps f (take i given ++ get_or given i d ∷ []) = ap (all_steps f) (take_more given i d lt) in
    omega (arith, both, all)

first_steps : (f : ℕ → ℕ) (given : List Given) (i : ℕ) → all_steps f (take i given) ≤ all_steps f given
first_steps f given i =
    let both = steps_both f (take i given) (drop i given) in
    let all : all_steps f (take i given ++ drop i given) ≡ all_steps f given = ap (all_steps f) (take-append-drop i given) in
    omega (arith, both, all)

pub read_next : (old mid : Scope) (given : List Given) (i before now after : ℕ) (d x : Given) → i < length given → x ≡ get_or given i d → AreGivenLive old.arrays.world given → CostsNoMore (engine_of old) (engine_of mid)
    → now ≤ before + read_all old (take i given) → after ≤ now + read_one mid x → after ≤ before + read_all old (take (i + 1) given)
read_next old mid given i before now after d x lt at live costs so_far next =
    let e = read_steps (engine_of old) in
    let here : read_one mid x ≤ given_steps e (get_or given i d) =
    subst (λ (y : Given). read_one mid x ≤ given_steps e y) at (less_one (read_steps (engine_of mid)) e old.arrays.world x (subst (IsGivenLive old.arrays.world) (sym at) (live_at old.arrays.world given i d lt live)) costs.reads) in
    let all = more_steps e given i d lt in
    omega (arith, so_far, next, here, all)

pub read_first : (old : Scope) (given : List Given) (i before after : ℕ) → after ≤ before + read_all old (take i given) → after ≤ before + read_all old given
read_first old given i before after so_far = (let part = first_steps (read_steps (engine_of old)) given i in omega (arith, so_far, part))

-- one array, and then others
pub read_then : (old mid : Scope) (given : List Given) (v before now after : ℕ) → IsLive old.arrays.world v → CostsNoMore (engine_of old) (engine_of mid)
    → now ≤ before + read_all old given → after ≤ now + read_steps (engine_of mid) v → after ≤ before + (read_steps (engine_of old) v + read_all old given)
read_then old mid given v before now after live costs first second = (let less = costs.reads v live in omega (arith, first, second, less))

-- what stands behind an array, and behind an array and another thing
pub two_costs : (f : ℕ → ℕ) (given : List Given) (v : ℕ) (rest : List Given) → two_and_more given ≡ Some (v, rest) → f v + all_steps f rest ≤ all_steps f (drop 1 given)
two_costs f [] v rest is = absurd (cc)
two_costs f (Array u ∷ []) v rest is = absurd (cc)
two_costs f (Array u ∷ Array x ∷ more) v rest is =
    let pair : (x, more) ≡ (v, rest) = cc in
    let a : f x ≡ f v = ap (λ (p : ℕ × List Given). f p.0) pair in
    let b : all_steps f more ≡ all_steps f rest = ap (λ (p : ℕ × List Given). all_steps f p.1) pair in
    omega (arith, a, b)
two_costs f (Array u ∷ Text t ∷ more) v rest is = absurd (cc)
two_costs f (Array u ∷ OfType ty ∷ more) v rest is = absurd (cc)
two_costs f (Text t ∷ more) v rest is = absurd (cc)
two_costs f (OfType ty ∷ more) v rest is = absurd (cc)

pub text_costs : (f : ℕ → ℕ) (given : List Given) (t : Bor (List ℕ)) (rest : List Given) → text_and_more given ≡ Some (t, rest) → all_steps f rest ≤ all_steps f (drop 1 given)
text_costs f [] t rest is = absurd (cc)
text_costs f (Array u ∷ []) t rest is = absurd (cc)
text_costs f (Array u ∷ Text x ∷ more) t rest is =
    let pair : (x, more) ≡ (t, rest) = cc in
    let b : all_steps f more ≡ all_steps f rest = ap (λ (p : Bor (List ℕ) × List Given). all_steps f p.1) pair in
    omega (arith, b)
text_costs f (Array u ∷ Array x ∷ more) t rest is = absurd (cc)
text_costs f (Array u ∷ OfType ty ∷ more) t rest is = absurd (cc)
text_costs f (Text x ∷ more) t rest is = absurd (cc)
text_costs f (OfType ty ∷ more) t rest is = absurd (cc)

pub behind_costs : (f : ℕ → ℕ) (given : List Given) (v : ℕ) (x : Given) → array_and_one given ≡ Some (v, x) → given_steps f x ≤ all_steps f (drop 1 given)
behind_costs f [] v x is = absurd (cc)
behind_costs f (Array u ∷ []) v x is = absurd (cc)
behind_costs f (Array u ∷ y ∷ []) v x is =
    let pair : (u, y) ≡ (v, x) = cc in
    let b : given_steps f y ≡ given_steps f x = ap (λ (p : ℕ × Given). given_steps f p.1) pair in
    omega (arith, b)
behind_costs f (Array u ∷ y ∷ z ∷ more) v x is = absurd (cc)
behind_costs f (Text t ∷ more) v x is = absurd (cc)
behind_costs f (OfType ty ∷ more) v x is = absurd (cc)

pub both_cost : (f : ℕ → ℕ) (given : List Given) (v u : ℕ) → two_arrays given ≡ Some (v, u) → f v + f u ≤ all_steps f given
both_cost f [] v u is = absurd (cc)
both_cost f (Array x ∷ []) v u is = absurd (cc)
both_cost f (Array x ∷ Array y ∷ []) v u is =
    let pair : (x, y) ≡ (v, u) = cc in
    let a : f x ≡ f v = ap (λ (p : ℕ × ℕ). f p.0) pair in
    let b : f y ≡ f u = ap (λ (p : ℕ × ℕ). f p.1) pair in
    omega (arith, a, b)
both_cost f (Array x ∷ Array y ∷ z ∷ more) v u is = absurd (cc)
both_cost f (Array x ∷ Text t ∷ more) v u is = absurd (cc)
both_cost f (Array x ∷ OfType ty ∷ more) v u is = absurd (cc)
both_cost f (Text t ∷ more) v u is = absurd (cc)
both_cost f (OfType ty ∷ more) v u is = absurd (cc)

-- none, one or two arrays
abbrev first_of : Option (Option ℕ × Option ℕ) → Option ℕ
first_of None = None
first_of (Some p) = p.0

abbrev second_of : Option (Option ℕ × Option ℕ) → Option ℕ
second_of None = None
second_of (Some p) = p.1

pub few_two : (f : ℕ → ℕ) (given : List Given) (v u : ℕ) → few_arrays given ≡ Some (Some v, Some u) → f v + f u ≤ all_steps f given
few_two f [] v u is = (let no : None ≡ Some v = ap first_of is in absurd (cc))
few_two f (Array x ∷ []) v u is = (let no : None ≡ Some u = ap second_of is in absurd (cc))
few_two f (Array x ∷ Array y ∷ []) v u is =
    let front : Some x ≡ Some v = ap first_of is in
    let back : Some y ≡ Some u = ap second_of is in
    let here : x ≡ v = cc in
    let there : y ≡ u = cc in
    let a : f x ≡ f v = ap f here in
    let b : f y ≡ f u = ap f there in
    omega (arith, a, b)
few_two f (Array x ∷ Array y ∷ z ∷ more) v u is = absurd (cc)
few_two f (Array x ∷ Text t ∷ more) v u is = absurd (cc)
few_two f (Array x ∷ OfType ty ∷ more) v u is = absurd (cc)
few_two f (Text t ∷ more) v u is = absurd (cc)
few_two f (OfType ty ∷ more) v u is = absurd (cc)

-- a call of one array, which reads it or doesn't
pub told_costs : (f : ℕ → ℕ) (given : List Given) (v : ℕ) (b : Bool) → one_array given ≡ Some v → (if b then f v else 0) ≤ all_steps f (if b then given else drop 1 given)
told_costs f given v true is = one_costs f given v is
told_costs f given v false is = omega arith
