-- What new arrays take to be made ready.
use Rattle.std.proofs.Common.{◌≡◌, ℕ, ℤ, ◌+◌, ◌≤◌, ◌<◌, Bool, true, false, List, [], ◌∷◌, ◌++◌, length, take, get_or, Option, Some, None, Result, Ok, Err, inl, inr, refl, sym, ap, subst, ◌∙◌, arith}
use Rattle.std.specs.Prelude.{◌==◌, if◌then◌else◌, IsSomeAnd, option_and_then, sum_by}
use Rattle.std.specs.Option.{option_map_or}
use Rattle.std.proofs.lemmas.Bool.{eq-eqb, ne_eqb}
use Rattle.std.proofs.lemmas.Bool.Decides.{eqb_tells}
use Rattle.std.proofs.lemmas.List.Sums.{sum_by-cons, sum_by-take-le, sum_by_more}
use Rattle.pdl_elem.specs.declared.Ty.{Ty}
use Rattle.pdl_shape.specs.Shape.{size_of}
use Rattle.pdl_numbers.specs.Typed.{count_moved}
use Rattle.pdl_buf.specs.declared.made.Made.{Made}
use Rattle.pdl_nodes.specs.Owed.{owed}
use Rattle.pdl_world.specs.Paths.{path, root_of}
use Rattle.pdl_shape.specs.Refusals.{Refusal}
use Rattle.pdl_world.specs.Formula.{child_dims}
use Rattle.pdl_world.specs.Refused.{NoView, refusal_at, view_refusal}
use Rattle.pdl_world.specs.Sound.{IsLive, IsSound, NumbersBelow}
use Rattle.pdl_world.specs.Windows.{base}
use Rattle.pdl_world.specs.World.{World, ArrayDef, Look, dims_in, look, root, seen_through, through, view}
use Rattle.pdl_world.specs.declared.Trans.{Trans}
use Rattle.pdl_engine.specs.State.{State as Engine, AreWaiting, IsLazy, is_fresh, outdated, outdated_at, ready_steps, waiting, waiting_at, waiting_size}
use Rattle.pdl_machine.specs.Arrays.{Arrays, with_new}
use Rattle.pdl_machine.specs.Outcome.{Valued, new_root, new_view}
use Rattle.pdl_machine.specs.declared.fault.Fault.{Fault}
use Rattle.pdl_scope.specs.Costs.{GrowingLosesNothing, IsInOrder, NewRootsAreReady, NewRootsMoveTheirSize, NewViewsAddTheirSize, NewViewsCostTheirSize, kept_size, total_size}
use Rattle.pdl_scope.specs.Scope.{Scope, engine_of}
use Rattle.pdl_scope.proofs.CostsDearer.{IsRoot, live_below, past_look, rooted, through_root, untouched}

-- the arrays and the number that a value gives
abbrev value : Arrays × ℕ → Valued
value p = Ok p

ok_is : (a b : Arrays × ℕ) → value a ≡ value b → a ≡ b
ok_is a b h = (cc)

none_owed : (own fresh : Bool) (size : ℕ) → owed own true fresh size ≡ 0
none_owed true fresh size = refl
none_owed false fresh size = refl

owed_within : (own top fresh : Bool) (size : ℕ) → owed own top fresh size ≤ (if own then size else 0)
owed_within true true fresh size = omega arith
owed_within true false true size = omega arith
owed_within true false false size = omega arith
owed_within false top fresh size = omega arith

-- a root at the head of a world
root_here : (w : World) (k : ℕ) (ty : Ty) (ds : List ℕ) (es : List ℤ) → root_of ((k, root ty ds es) ∷ w) k ≡ k
root_here w k ty ds es = rw (eq-eqb k k refl) refl

-- nothing waits for a new root
none_waits : (e : Engine) (w : World) (k : ℕ) (ty : Ty) (ds : List ℕ) (es : List ℤ) → e.world ≡ (k, root ty ds es) ∷ w → IsSound e.world → IsLazy e → waiting_size e (waiting e k) ≡ 0
none_waits e w k ty ds es is sound lazy = by_waiting (waiting e k) refl
  where
    whole : IsSound ((k, root ty ds es) ∷ w)
    whole = subst IsSound is sound

    live : IsLive e.world k
    live = (let here : IsLive ((k, root ty ds es) ∷ w) k = rw (eq-eqb k k refl) tt in subst (λ u. IsLive u k) (sym is) here)

    own : root_of e.world k ≡ k
    own = ap (λ u. root_of u k) is ∙ root_here w k ty ds es

    by_waiting : (o : Option ℕ) → waiting e k ≡ o → waiting_size e o ≡ 0
    by_waiting None none = refl
    by_waiting (Some b) some =
        let at : AreWaiting e k b = lazy.waits k b live some in
        let other : k ≡ b → ⊥ = λ same. at.view (sym same ∙ sym own) in
        let there : IsLive ((k, root ty ds es) ∷ w) b = subst (λ u. IsLive u b) is at.live in
        let seen : look ((k, root ty ds es) ∷ w) b ≡ look w b = past_look k (root ty ds es) w b other in
        let older : IsLive w b = subst (λ o. IsSomeAnd o (λ l. Unit {0})) seen there in
        let top : IsRoot w (root_of w b) = rooted w b whole.2 older in
        let low : root_of w b < k = live_below w k (root_of w b) whole.0 top.live in
        let same : root_of w b ≡ k = ap (λ o. option_map_or (λ (l : Look). l.root) o b) (sym seen) ∙ ap (λ u. root_of u b) (sym is) ∙ at.family ∙ own in
        absurd (omega (arith, low, same))

ready_root : (e : Engine) (w : World) (k : ℕ) (ty : Ty) (ds : List ℕ) (es : List ℤ) → e.world ≡ (k, root ty ds es) ∷ w → IsSound e.world → IsLazy e → ready_steps e k ≡ 0
ready_root e w k ty ds es is sound lazy =
    let on : path e.world k ≡ k ∷ [] = ap (λ u. path u k) is ∙ (let here : path ((k, root ty ds es) ∷ w) k ≡ k ∷ [] = rw (eq-eqb k k refl) refl in here) in
    let own : root_of e.world k ≡ k = ap (λ u. root_of u k) is ∙ root_here w k ty ds es in
    let here : outdated_at e k ≡ 0 =
    ap (λ b. owed (base e.world k == k) b (is_fresh e k) (size_of (dims_in e.world k))) (eq-eqb (root_of e.world k) k own) ∙ none_owed (base e.world k == k) (is_fresh e k) (size_of (dims_in e.world k)) in
    let all : outdated e k ≡ 0 + outdated_at e k = ap (sum_by (outdated_at e)) on in
    let waits : waiting_size e (waiting e k) ≡ 0 = none_waits e w k ty ds es is sound lazy in
    omega (arith, here, all, waits)

pub roots_are_ready : NewRootsAreReady
roots_are_ready old new m v order is =
    let both : with_new old.arrays (root m.ty m.dims m.elems) ≡ (new.arrays, v) = ok_is _ _ is in
    let world : new.arrays.world ≡ (v, root m.ty m.dims m.elems) ∷ old.arrays.world =
    ap (λ (p : Arrays × ℕ). p.0.world) (sym both) ∙ ap (λ (p : Arrays × ℕ). (p.1, root m.ty m.dims m.elems) ∷ old.arrays.world) both in
    ready_root (engine_of new) old.arrays.world v m.ty m.dims m.elems world order.whole.sound order.lazy

-- what a new view takes
pub new_live : (w : World) (k p : ℕ) (t : Trans) → IsSound ((k, view p t) ∷ w) → IsLive ((k, view p t) ∷ w) k
new_live w k p t sound = (let here : IsSomeAnd (option_and_then (through t) (look w p)) (λ l. Unit {0}) = shown (look w p) refl in rw (eq-eqb k k refl) here)
  where
    shown : (o : Option Look) → look w p ≡ o → IsSomeAnd (option_and_then (through t) o) (λ l. Unit {0})
    shown None none = absurd (subst (λ (o : Option Look). IsSomeAnd o (λ l. Unit {0})) none sound.1.live)
    shown (Some l) some = by_dims (child_dims t l.dims) (ap (λ o. refusal_at (path w p) (child_dims t (option_map_or (λ (x : Look). x.dims) o []))) (sym some) ∙ sound.1.allowed)
      where
        by_dims : (r : Result (List ℕ) Refusal) → refusal_at (path w p) r ≡ None → IsSomeAnd (seen_through t l r) (λ m. Unit {0})
        by_dims (Ok ds) h = tt
        by_dims (Err e) h = absurd (cc)

ready_view : (e : Engine) (w : World) (k p : ℕ) (t : Trans) → e.world ≡ (k, view p t) ∷ w → IsSound e.world → ready_steps e k ≤ ready_steps e p + kept_size e.world k
ready_view e w k p t is sound =
    let whole : IsSound ((k, view p t) ∷ w) = subst IsSound is sound in
    let live : IsLive w p = whole.1.live in
    let seen = untouched ((k, view p t) ∷ []) w p whole live in
    let past : path e.world p ≡ path w p = ap (λ u. path u p) is ∙ seen.path_is in
    let on : path e.world k ≡ k ∷ path e.world p = ap (λ u. path u k) is ∙ (let here : path ((k, view p t) ∷ w) k ≡ k ∷ path w p = rw (eq-eqb k k refl) refl in here) ∙ ap (λ us. k ∷ us) (sym past) in
    let all : outdated e k ≡ outdated_at e k + outdated e p = ap (sum_by (outdated_at e)) on ∙ sum_by-cons (outdated_at e) k (path e.world p) in
    let here : outdated_at e k ≤ kept_size e.world k = owed_within (base e.world k == k) (root_of e.world k == k) (is_fresh e k) (size_of (dims_in e.world k)) in
    let there : IsLive ((k, view p t) ∷ w) k = new_live w k p t whole in
    let family : root_of ((k, view p t) ∷ w) k ≡ root_of w p = (let inside : IsSomeAnd (option_and_then (through t) (look w p)) (λ l. Unit {0}) = rw (eq-eqb k k refl) at there in rw (eq-eqb k k refl) (through_root t (look w p) k p inside)) in
    let same : root_of e.world k ≡ root_of e.world p = ap (λ u. root_of u k) is ∙ family ∙ ap (λ o. option_map_or (λ (l : Look). l.root) o p) (sym seen.look_is) ∙ ap (λ u. root_of u p) (sym is) in
    let waits : waiting_size e (waiting e k) ≡ waiting_size e (waiting e p) = ap (λ r. waiting_size e (waiting_at e.pending r)) same in
    omega (arith, all, here, waits)

view_is : (a b : Arrays) (p v : ℕ) (t : Trans) (o : Option NoView) → new_view a p t o ≡ Ok (b, v) → with_new a (view p t) ≡ (b, v)
view_is a b p v t None h = ok_is _ _ h
view_is a b p v t (Some reason) h = absurd (cc)

pub views_cost : NewViewsCostTheirSize
views_cost old new p v t order live is =
    let both : with_new old.arrays (view p t) ≡ (new.arrays, v) = view_is old.arrays new.arrays p v t (view_refusal old.arrays.world p t) is in
    let world : new.arrays.world ≡ (v, view p t) ∷ old.arrays.world =
    ap (λ (x : Arrays × ℕ). x.0.world) (sym both) ∙ ap (λ (x : Arrays × ℕ). (x.1, view p t) ∷ old.arrays.world) both in
    ready_view (engine_of new) old.arrays.world v p t world order.whole.sound

-- the elements of a new root are those that came
root_adds : (old new : Arrays) (m : Made) (v : ℕ) → new_root old m ≡ Ok (new, v) → total_size new.world ≡ count_moved m.elems + total_size old.world
root_adds old new m v is =
    let both : with_new old (root m.ty m.dims m.elems) ≡ (new, v) = ok_is _ _ is in
    ap (λ (p : Arrays × ℕ). total_size p.0.world) (sym both)

pub roots_move : NewRootsMoveTheirSize
roots_move old new m v is = root_adds old.arrays new.arrays m v is

pub views_add : NewViewsAddTheirSize
views_add old new p v t is =
    let both : with_new old.arrays (view p t) ≡ (new.arrays, v) = view_is old.arrays new.arrays p v t (view_refusal old.arrays.world p t) is in
    ap (λ (x : Arrays × ℕ). total_size x.0.world) (sym both) ∙ ap (λ (x : Arrays × ℕ). kept_size x.0.world x.1 + total_size old.arrays.world) both

more_adds : (more w : World) → total_size w ≤ total_size (more ++ w)
more_adds [] w = omega arith
more_adds ((k, root ty ds es) ∷ more) w = (let rest : total_size w ≤ total_size (more ++ w) = more_adds more w in omega (arith, rest))
more_adds ((k, view p t) ∷ more) w = (let rest : total_size w ≤ total_size (more ++ w) = more_adds more w in omega (arith, rest))

pub none_lost : GrowingLosesNothing
none_lost old new grown = (let all : total_size new.arrays.world ≡ total_size (grown.arrays.more ++ old.arrays.world) = ap total_size grown.arrays.is in let less = more_adds grown.arrays.more old.arrays.world in omega (arith, all, less))

abbrev pub moved : Made → ℕ
moved m = count_moved m.elems

-- one array more is made of its elements
pub made_more : (ms : List Made) (i before now after : ℕ) (m : Made) → i < length ms → m ≡ get_or ms i m → now ≤ before + sum_by moved (take i ms) → after ≤ now + moved m → after ≤ before + sum_by moved (take (i + 1) ms)
made_more ms i before now after m lt is so_far next =
    let sum : sum_by moved (take (i + 1) ms) ≡ sum_by moved (take i ms) + moved (get_or ms i m) = sum_by_more moved ms i m lt in
    let here : moved m ≡ moved (get_or ms i m) = ap moved is in
    omega (arith, so_far, next, sum, here)

-- the first arrays take no more steps than all
pub made_first : (ms : List Made) (i before after : ℕ) → after ≤ before + sum_by moved (take i ms) → after ≤ before + sum_by moved ms
made_first ms i before after so_far = (let part : sum_by moved (take i ms) ≤ sum_by moved ms = sum_by-take-le moved ms i in omega (arith, so_far, part))
