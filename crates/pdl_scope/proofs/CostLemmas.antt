-- What reading costs once other arrays were made ready, and what an operator costs.
use Rattle.std.proofs.Common.{◌≡◌, ℕ, ◌+◌, ◌≤◌, ◌<◌, Bool, true, false, List, [], ◌∷◌, take, get_or, length, Option, None, inl, inr, refl, sym, ap, subst, ◌∙◌, arith}
use Rattle.std.specs.Prelude.{◌==◌, ◌&&◌, not, if◌then◌else◌, sum_by}
use Rattle.std.proofs.lemmas.Bool.Decides.{eqb_tells}
use Rattle.std.proofs.lemmas.List.Sums.{sum_by-cons, sum_by-le-sum_by, sum_by-take-le, sum_by_more}
use Rattle.pdl_shape.specs.Shape.{size_of}
use Rattle.pdl_nodes.specs.Owed.{owed, size_if}
use Rattle.pdl_world.specs.Paths.{path, root_of}
use Rattle.pdl_world.specs.Sound.{IsLive}
use Rattle.pdl_world.specs.World.{World, dims_in}
use Rattle.pdl_engine.specs.Reading.{read_steps}
use Rattle.pdl_engine.specs.State.{State as Engine, OthersWait, SameArrays, StayFresh, base, is_fresh, outdated, outdated_at, ready_steps, waiting, waiting_at, waiting_size}
use Rattle.pdl_machine.specs.State.{AreLive}
use Rattle.pdl_scope.specs.Costs.{ReadsNoDearer}

-- nothing is owed by what can be lent
pub nothing_if : (before now : Bool) (m n : ℕ) → (before ≡ true → now ≡ true) → m ≤ n → (if now then 0 else m) ≤ (if before then 0 else n)
nothing_if false true m n stay le = omega arith
nothing_if false false m n stay le = le
nothing_if true true m n stay le = omega arith
nothing_if true false m n stay le = (let none = stay refl in absurd (cc))

pub owed_less : (view before now : Bool) (size : ℕ) → (before ≡ true → now ≡ true) → (if view then (if now then 0 else size) else 0) ≤ (if view then (if before then 0 else size) else 0)
owed_less true before now size stay = nothing_if before now size size stay (omega arith)
owed_less false before now size stay = omega arith

-- at one array no more is outdated where more can be lent
outdated_less : (e t : Engine) (v : ℕ) → t.world ≡ e.world → StayFresh e t → outdated_at t v ≤ outdated_at e v
outdated_less e t v same stay =
    let P : World → Type 0 = λ w. owed (base w v == v) (root_of w v == v) (is_fresh t v) (size_of (dims_in w v)) ≤ outdated_at e v in
    subst P (sym same) (owed_less ((base e.world v == v) && not (root_of e.world v == v)) (is_fresh e v) (is_fresh t v) (size_of (dims_in e.world v)) (stay v))

-- nor on a path
path_less : (e t : Engine) (v : ℕ) → t.world ≡ e.world → StayFresh e t → outdated t v ≤ outdated e v
path_less e t v same stay =
    let P : World → Type 0 = λ w. sum_by (outdated_at t) (path w v) ≤ outdated e v in
    subst P (sym same) (sum_by-le-sum_by (outdated_at t) (outdated_at e) (path e.world v) (λ u. outdated_less e t u same stay))

-- no more waits in any family, once nothing waits in the family of v and in others what waited
waits_less : (e t : Engine) (v u : ℕ) → t.world ≡ e.world → waiting t v ≡ None → OthersWait e v t → IsLive e.world u → waiting_size t (waiting t u) ≤ waiting_size e (waiting e u)
waits_less e t v u same none others live = elim (eqb_tells (root_of e.world u) (root_of e.world v)) [
  | inl is ↦ (
      let here : root_of t.world u ≡ root_of t.world v = ap (λ w. root_of w u) same ∙ is.1 ∙ sym (ap (λ w. root_of w v) same) in
      let nothing : waiting t u ≡ None = ap (waiting_at t.pending) here ∙ none in
      let P : Option ℕ → Type 0 = λ o. waiting_size t o ≤ waiting_size e (waiting e u) in
      subst P (sym nothing) (omega arith)
      )
  | inr other ↦ (
      let size : waiting_size t (waiting t u) ≡ waiting_size e (waiting e u) = ap (λ w. size_if (dims_in w) (waiting t u)) same ∙ ap (waiting_size e) (others u live other.1) in
      omega (arith, size)
      )
]

-- so no array takes more steps to read once one was made ready
pub no_dearer : (e t : Engine) (v : ℕ) → SameArrays e t → StayFresh e t → waiting t v ≡ None → OthersWait e v t → ReadsNoDearer e t
no_dearer e t v same stay none others u live =
    let a : outdated t u ≤ outdated e u = path_less e t u same.world stay in
    let b : waiting_size t (waiting t u) ≤ waiting_size e (waiting e u) = waits_less e t v u same.world none others live in
    let less : ready_steps t u ≤ ready_steps e u = omega (arith, a, b) in
    nothing_if (is_fresh e u) (is_fresh t u) (ready_steps t u) (ready_steps e u) (stay u) less

-- of two arrays that are made ready
pub read_both : (e t : Engine) (v u before now after : ℕ) → IsLive e.world u → ReadsNoDearer e t → now ≤ before + read_steps e v → after ≤ now + read_steps t u → after ≤ before + (read_steps e v + read_steps e u)
read_both e t v u before now after live costs first second = (let less : read_steps t u ≤ read_steps e u = costs u live in omega (arith, first, second, less))

-- of one array more
pub read_more : (e t : Engine) (ids : List ℕ) (i before now after : ℕ) → i < length ids → IsLive e.world (get_or ids i 0) → ReadsNoDearer e t → now ≤ before + sum_by (read_steps e) (take i ids) → after ≤ now + read_steps t (get_or ids i 0)
    → after ≤ before + sum_by (read_steps e) (take (i + 1) ids)
read_more e t ids i before now after lt live costs so_far next =
    let less : read_steps t (get_or ids i 0) ≤ read_steps e (get_or ids i 0) = costs (get_or ids i 0) live in
    let sum : sum_by (read_steps e) (take (i + 1) ids) ≡ sum_by (read_steps e) (take i ids) + read_steps e (get_or ids i 0) = sum_by_more (read_steps e) ids i 0 lt in
    omega (arith, so_far, next, less, sum)

-- the first arrays take no more steps than all
pub read_first : (e : Engine) (ids : List ℕ) (i before after : ℕ) → after ≤ before + sum_by (read_steps e) (take i ids) → after ≤ before + sum_by (read_steps e) ids
read_first e ids i before after so_far = (let part = sum_by-take-le (read_steps e) ids i in omega (arith, so_far, part))

-- nor once another one was
pub never_dearer : (e t n : Engine) → SameArrays e t → ReadsNoDearer e t → ReadsNoDearer t n → ReadsNoDearer e n
never_dearer e t n same first next v live =
    let there : IsLive t.world v = subst (λ w. IsLive w v) (sym same.world) live in
    (let a : read_steps t v ≤ read_steps e v = first v live in let b : read_steps n v ≤ read_steps t v = next v there in omega (arith, a, b))

-- what an operator takes: to read, and to make what it gives
pub read_and_made : (before now after read moved made : ℕ) → now ≤ before + read → after ≤ now + moved → moved ≡ made → after ≤ before + (read + made)
read_and_made before now after read moved made reads makes is = omega (arith, reads, makes, is)

-- where nothing is made
pub read_alone : (before after read made : ℕ) → after ≤ before + read → after ≤ before + (read + made)
read_alone before after read made reads = omega (arith, reads)

-- nor do arrays together
pub all_no_dearer : (e t : Engine) (vs : List ℕ) → ReadsNoDearer e t → AreLive e.world vs → sum_by (read_steps t) vs ≤ sum_by (read_steps e) vs
all_no_dearer e t [] costs live = omega arith
all_no_dearer e t (v ∷ vs) costs live =
    let here = costs v live.0 in
    let rest = all_no_dearer e t vs costs live.1 in
    omega (arith, here, rest, sum_by-cons (read_steps t) v vs, sum_by-cons (read_steps e) v vs)
