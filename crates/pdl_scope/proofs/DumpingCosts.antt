-- What it costs to read the roots of a world one after another, the oldest first.
use Rattle.std.proofs.Common.{◌≡◌, ℕ, ◌+◌, ◌<◌, ◌≤◌, Bool, true, false, List, [], ◌∷◌, length, Some, None, ap, subst, ◌∙◌, arith}
use Rattle.std.specs.Prelude.{◌==◌, ◌||◌, nat_lt, slice_get, sum_by}
use Rattle.std.proofs.lemmas.Bool.{eqb-true, le-ltb, lt-ltb}
use Rattle.std.proofs.lemmas.List.Sums.{sum_by-cons}
use Rattle.pdl_lemmas.specs.Tests.{by_test}
use Rattle.pdl_world.specs.Paths.{parent_in}
use Rattle.pdl_world.specs.Sound.{IsLive, IsSound}
use Rattle.pdl_world.specs.World.{World, ArrayDef, root, view}
use Rattle.pdl_engine.specs.Looks.{array_numbers}
use Rattle.pdl_engine.specs.Reading.{read_steps}
use Rattle.pdl_engine.specs.State.{State as Engine}
use Rattle.pdl_scope.specs.Costs.{ReadsNoDearer}
use Rattle.pdl_scope.specs.Dumping.{array_at, dump_steps, oldest}
use Rattle.pdl_scope.proofs.DumpingArrays.{found_at, number_at}
use Rattle.pdl_scope.proofs.DumpingNumbers.{Laws, LooksLike, length-numbers, looks_at, oldest_all, under_length}

-- a sum over the oldest arrays, with one array more
oldest_more : (f : ℕ × ArrayDef → ℕ) (w : World) (i : ℕ) → i < length w → sum_by f (oldest (i + 1) w) ≡ sum_by f (oldest i w) + f (array_at w i)
oldest_more f [] i low = absurd (omega (arith, low))
oldest_more f (a ∷ w) i low =
    by_test (length w == i)
    (λ same.
    let e : length w ≡ i = eqb-true (length w) i same in
    let more : nat_lt (length w) (i + 1) ≡ true = lt-ltb (length w) (i + 1) (omega (arith, e)) in
    let less : nat_lt (length w) i ≡ false = le-ltb (length w) i (omega (arith, e)) in
    let rest : sum_by f (oldest i w) ≡ sum_by f w = ap (sum_by f) (oldest_all w i (omega (arith, e))) in
    let all : sum_by f (a ∷ w) ≡ f a + sum_by f w = sum_by-cons f a w in
    rw (more, less, same) (omega (arith, rest, all)))
    (λ other.
    let below : i < length w = under_length (length w) i low other in
    let more : nat_lt (length w) (i + 1) ≡ false = le-ltb (length w) (i + 1) (omega (arith, below)) in
    let less : nat_lt (length w) i ≡ false = le-ltb (length w) i (omega (arith, below)) in
    rw (more, less, other) (oldest_more f w i below))

oldest_part : (f : ℕ × ArrayDef → ℕ) (w : World) (i : ℕ) → sum_by f (oldest i w) ≤ sum_by f w
oldest_part f [] i = omega arith
oldest_part f (a ∷ w) i =
    by_test (nat_lt (length w) i)
    (λ all. rw all (omega arith))
    (λ some.
    let rest : sum_by f (oldest i w) ≤ sum_by f w = oldest_part f w i in
    let whole : sum_by f (a ∷ w) ≡ f a + sum_by f w = sum_by-cons f a w in
    rw some (omega (arith, rest, whole)))

-- the oldest arrays take no more steps than all
pub dumped_first : (e : Engine) (w : World) (i before after : ℕ) → after ≤ before + sum_by (dump_steps e) (oldest i w) → after ≤ before + sum_by (dump_steps e) w
dumped_first e w i before after so_far = (let part = oldest_part (dump_steps e) w i in omega (arith, so_far, part))

-- an array takes no more steps once others were read
none_dearer : (e t : Engine) (a : ℕ × ArrayDef) → ReadsNoDearer e t → IsLive e.world a.0 → dump_steps t a ≤ dump_steps e a
none_dearer e t (k, root ty ds es) costs live = costs k live
none_dearer e t (k, view p x) costs live = omega arith

-- one array more
pub dumped_more : Laws → (e t : Engine) (ids : List ℕ) (i before now after : ℕ) → IsSound e.world → ids ≡ array_numbers e.world → t.world ≡ e.world → i < length ids → ReadsNoDearer e t
    → now ≤ before + sum_by (dump_steps e) (oldest i e.world) → after ≤ now + dump_steps t (array_at t.world i) → after ≤ before + sum_by (dump_steps e) (oldest (i + 1) e.world)
dumped_more laws e t ids i before now after sound is same low costs so_far next =
    let below : i < length e.world = subst (λ (n : ℕ). i < n) (ap length is ∙ length-numbers e.world) low in
    let there : dump_steps t (array_at t.world i) ≡ dump_steps t (array_at e.world i) = ap (λ (w : World). dump_steps t (array_at w i)) same in
    let less : dump_steps t (array_at e.world i) ≤ dump_steps e (array_at e.world i) = none_dearer e t (array_at e.world i) costs (looks_at laws e.world i sound below).0 in
    let sum : sum_by (dump_steps e) (oldest (i + 1) e.world) ≡ sum_by (dump_steps e) (oldest i e.world) + dump_steps e (array_at e.world i) = oldest_more (dump_steps e) e.world i below in
    omega (arith, so_far, next, there, less, sum)

-- a root takes the steps that it takes to read it
pub root_read : Laws → (e : Engine) (ids : List ℕ) (i v : ℕ) → IsSound e.world → ids ≡ array_numbers e.world → slice_get ids i ≡ Some v → None ≡ parent_in e.world v
    → dump_steps e (array_at e.world i) ≡ read_steps e v
root_read laws e ids i v sound is here parent =
    by_pair (array_at e.world i) (number_at e.world ids i v is here) (found_at laws e.world ids i v sound is here).1
  where
    by_pair : (a : ℕ × ArrayDef) → a.0 ≡ v → LooksLike e.world v a.1 → dump_steps e a ≡ read_steps e v
    by_pair (k, root ty ds es) same looks = ap (read_steps e) same
    by_pair (k, view p x) same looks = let none : None ≡ Some p = parent ∙ looks.0 in absurd (cc)

-- what isn't so of any of three isn't so of one of them
pub not_any : (a b c : Bool) → a ≡ false → b ≡ false → c ≡ false → (a || (b || c)) ≡ true → ⊥
not_any true b c first second third is = (cc)
not_any false true c first second third is = (cc)
not_any false false true first second third is = (cc)
not_any false false false first second third is = (cc)
