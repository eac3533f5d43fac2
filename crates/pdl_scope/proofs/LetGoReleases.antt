-- Letting go moves at most what waits in the views that go.
use Rattle.std.proofs.Common.{◌≡◌, ℕ, ℤ, ◌+◌, ◌≤◌, ◌<◌, Bool, true, false, List, [], ◌∷◌, ◌++◌, Option, Some, None, inl, inr, refl, sym, ap, subst, ◌∙◌, arith}
use Rattle.std.specs.Prelude.{if◌then◌else◌, is_some, IsSomeAnd}
use Rattle.std.specs.Option.{option_map_or}
use Rattle.std.proofs.lemmas.Bool.{eq-eqb, ne_eqb}
use Rattle.pdl_elem.specs.declared.Ty.{Ty}
use Rattle.pdl_shape.specs.Shape.{size_of}
use Rattle.pdl_world.specs.Paths.{root_of}
use Rattle.pdl_world.specs.Sound.{IsLive, IsSound, NumbersBelow}
use Rattle.pdl_world.specs.Swept.{Has, is_listed, kept_onto, parents, sweep}
use Rattle.pdl_world.specs.World.{World, ArrayDef, Look, dims_in, look, look_of_root, root, view}
use Rattle.pdl_engine.specs.Held.{gone_from, held_among, left_from, one_less_at, written_back, IsReleased}
use Rattle.pdl_engine.specs.State.{State as Engine, IsLazy, waiting, waiting_at, waiting_size}
use Rattle.pdl_scope.specs.LetGo.{gone_among, HasLetGo, HasNoMore, StillWaits}
use Rattle.pdl_scope.proofs.LetGoBounds as bounds
use Rattle.pdl_scope.proofs.CostsDearer.{past_look}

has_below : (w : World) (n k : ℕ) (d : ArrayDef) → NumbersBelow n w → Has w k d → k < n
has_below [] n k d b h = absurd h
has_below ((j, e) ∷ w) n k d b (inl same) = (let low : j < n = b.0 in let is : j ≡ k = same.0 in omega arith)
has_below ((j, e) ∷ w) n k d b (inr i) = has_below w n k d b.1 i

-- a root of a sound world is seen as one
pub root_seen : (w : World) (r : ℕ) (d : ArrayDef) (ty : Ty) (ds : List ℕ) (es : List ℤ) → IsSound w → Has w r d → d ≡ root ty ds es → look w r ≡ Some (look_of_root r ty ds)
root_seen [] r d ty ds es s h is = absurd h
root_seen ((k, e) ∷ w) r d ty ds es s (inl same) is =
    let here : look ((k, root ty ds es) ∷ w) k ≡ Some (look_of_root k ty ds) = rw (eq-eqb k k refl) refl in
    subst (λ x. look ((k, e) ∷ w) x ≡ Some (look_of_root x ty ds)) same.0
    (subst (λ x. look ((k, x) ∷ w) k ≡ Some (look_of_root k ty ds)) (sym (same.1 ∙ is)) here)
root_seen ((k, e) ∷ w) r d ty ds es s (inr i) is =
    let low : r < k = has_below w k r d s.0 i in
    past_look k e w r (λ q. absurd (omega (arith, low, q))) ∙ root_seen w r d ty ds es s.2 i is

-- no root is there but in the part
all_among : (s : Engine) (new alive part : World) → ((k : ℕ) (ty : Ty) (ds : List ℕ) (es : List ℤ) → Has part k (root ty ds es) → is_some (look alive k) ≡ true)
    → written_back s new part ≡ gone_among s new alive part
all_among s new alive [] there = refl
all_among s new alive ((k, root ty ds es) ∷ w) there =
    let here : is_some (look alive k) ≡ true = there k ty ds es (inl (refl, refl)) in
    let rest : written_back s new w ≡ gone_among s new alive w = all_among s new alive w (λ j x cs us h. there j x cs us (inr h)) in
    let b : (if is_some (look alive k) then waiting_size s (gone_from new (waiting_at s.pending k)) else 0) ≡ waiting_size s (gone_from new (waiting_at s.pending k)) = rw here refl in
    omega (arith, rest, b)
all_among s new alive ((k, view p t) ∷ w) there = all_among s new alive w (λ j x cs us h. there j x cs us (inr h))

-- a part of a world has no more
more_among : (s : Engine) (n alive : World) (k : ℕ) (d : ArrayDef) (u w : World) → gone_among s n alive u ≤ gone_among s n alive w → gone_among s n alive ((k, d) ∷ u) ≤ gone_among s n alive ((k, d) ∷ w)
more_among s n alive k (root ty ds es) u w h = omega arith
more_among s n alive k (view p t) u w h = h

less_among : (s : Engine) (n alive : World) (k : ℕ) (d : ArrayDef) (w : World) → gone_among s n alive w ≤ gone_among s n alive ((k, d) ∷ w)
less_among s n alive k (root ty ds es) w = omega arith
less_among s n alive k (view p t) w = omega arith

pub swept_less : (w : World) (held : List ℕ) → HasNoMore (sweep w held) w
swept_less [] held s n alive = omega arith
swept_less ((k, d) ∷ w) held s n alive = by_kept (λ us. swept_less w us s n alive) (is_listed held k)
  where
    by_kept : ((us : List ℕ) → gone_among s n alive (sweep w us) ≤ gone_among s n alive w) → (keeps : Bool) → gone_among s n alive (kept_onto keeps (k, d) (sweep w (if keeps then parents d ++ held else held))) ≤ gone_among s n alive ((k, d) ∷ w)
    by_kept rest true = more_among s n alive k d (sweep w (parents d ++ held)) w (rest (parents d ++ held))
    by_kept rest false =
        let a : gone_among s n alive (sweep w held) ≤ gone_among s n alive w = rest held in
        let b : gone_among s n alive w ≤ gone_among s n alive ((k, d) ∷ w) = less_among s n alive k d w in
        omega (arith, a, b)

pub some_live : (o : Option Look) → IsSomeAnd o (λ l. Unit {0}) → is_some o ≡ true
some_live None live = absurd live
some_live (Some l) live = refl

live_some : (o : Option Look) → is_some o ≡ true → IsSomeAnd o (λ l. Unit {0})
live_some None h = absurd (cc)
live_some (Some l) h = tt

pub waits_refl : (e : Engine) → ((v b : ℕ) → IsLive e.world v → waiting e v ≡ Some b → IsLive e.world b) → StillWaits e e
waits_refl e live = record {
  waits = λ v there. stays v there (waiting e v) refl;
  fewer = λ s n alive. omega arith;
}
  where
    stays : (v : ℕ) → IsLive e.world v → (o : Option ℕ) → waiting e v ≡ o → o ≡ left_from e.world o
    stays v there None is = refl
    stays v there (Some b) is = (let here : is_some (look e.world b) ≡ true = some_live (look e.world b) (live v b there is) in rw here refl)

-- what is left of what was left
left_twice : (n t : World) → ((v : ℕ) → IsLive n v → IsLive t v) → (o : Option ℕ) → left_from n (left_from t o) ≡ left_from n o
left_twice n t back None = refl
left_twice n t back (Some b) = by_old (is_some (look t b)) refl
  where
    by_old : (there : Bool) → is_some (look t b) ≡ there → left_from n (if there then Some b else None) ≡ left_from n (Some b)
    by_old true is = refl
    by_old false is = by_new (is_some (look n b)) refl
      where
        by_new : (there : Bool) → is_some (look n b) ≡ there → None ≡ (if there then Some b else None)
        by_new false gone = refl
        by_new true here = (let live : IsLive t b = back b (live_some (look n b) here) in let some : is_some (look t b) ≡ true = some_live (look t b) live in absurd (cc))

-- arrays that are left are seen as before
abbrev pub AreSeen : (new old : World) → Type 0
AreSeen new old = (v : ℕ) → IsLive new v → look new v ≡ look old v

seen_live : (new old : World) → AreSeen new old → (v : ℕ) → IsLive new v → IsLive old v
seen_live new old seen v live = subst (λ o. IsSomeAnd o (λ l. Unit {0})) (seen v live) live

pub waits_more : (e t n : Engine) (u : ℕ) → AreSeen n.world t.world → StillWaits e t → IsReleased t u n → StillWaits e n
waits_more e t n u seen h r = record {
  waits = λ v live. r.waits v live ∙ ap (left_from n.world) (h.waits v (seen_live n.world t.world seen v live)) ∙ left_twice n.world t.world (seen_live n.world t.world seen) (waiting e v);
  fewer = λ s m alive. (
      let held = held_among (one_less_at t.holds u) in
      let a : gone_among s m alive (sweep t.world held) ≤ gone_among s m alive t.world = swept_less t.world held s m alive in
      let b : gone_among s m alive t.world ≤ gone_among s m alive e.world = h.fewer s m alive in
      let c : gone_among s m alive n.world ≡ gone_among s m alive (sweep t.world held) = ap (gone_among s m alive) r.world in
      omega (arith, a, b, c)
      );
}

-- what one view moves where it goes now, and where it went before
gone_once : (e t : Engine) (n : World) → AreSeen t.world e.world → AreSeen n t.world → (o : Option ℕ)
    → waiting_size e (gone_from t.world o) + waiting_size t (gone_from n (left_from t.world o)) ≤ waiting_size e (gone_from n o)
gone_once e t n seen later None = omega arith
gone_once e t n seen later (Some b) = by_old (is_some (look t.world b)) refl
  where
    by_old : (there : Bool) → is_some (look t.world b) ≡ there → waiting_size e (if there then None else Some b) + waiting_size t (gone_from n (if there then Some b else None)) ≤ waiting_size e (gone_from n (Some b))
    by_old true is = by_new (is_some (look n b))
      where
        dims : dims_in t.world b ≡ dims_in e.world b
        dims = ap (λ o. option_map_or (λ (l : Look). l.dims) o []) (seen b (live_some (look t.world b) is))

        by_new : (here : Bool) → 0 + waiting_size t (if here then None else Some b) ≤ waiting_size e (if here then None else Some b)
        by_new true = omega arith
        by_new false = (let same : size_of (dims_in t.world b) ≡ size_of (dims_in e.world b) = ap size_of dims in omega (arith, same))
    by_old false is = by_new (is_some (look n b)) refl
      where
        by_new : (here : Bool) → is_some (look n b) ≡ here → waiting_size e (Some b) + 0 ≤ waiting_size e (if here then None else Some b)
        by_new false gone = omega arith
        by_new true here = (let live : IsLive t.world b = seen_live n t.world later b (live_some (look n b) here) in let some : is_some (look t.world b) ≡ true = some_live (look t.world b) live in absurd (cc))

-- so what is moved by all is what waited in those that are gone
moved_on : (e t n : Engine) → IsSound e.world → AreSeen t.world e.world → AreSeen n.world t.world → StillWaits e t → (part : World) → ((k : ℕ) (d : ArrayDef) → Has part k d → Has e.world k d)
    → written_back e t.world part + gone_among t n.world n.world part ≤ written_back e n.world part
moved_on e t n sound seen later h [] inside = omega arith
moved_on e t n sound seen later h ((k, view p x) ∷ w) inside = moved_on e t n sound seen later h w (λ j d has. inside j d (inr has))
moved_on e t n sound seen later h ((k, root ty ds es) ∷ w) inside =
    let rest : written_back e t.world w + gone_among t n.world n.world w ≤ written_back e n.world w = moved_on e t n sound seen later h w (λ j d has. inside j d (inr has)) in
    let here = by_alive (is_some (look n.world k)) refl in
    omega (arith, rest, here)
  where
    o : Option ℕ
    o = waiting_at e.pending k

    first : look e.world k ≡ Some (look_of_root k ty ds)
    first = root_seen e.world k (root ty ds es) ty ds es sound (inside k (root ty ds es) (inl (refl, refl))) refl

    own : root_of e.world k ≡ k
    own = ap (λ x. option_map_or (λ (l : Look). l.root) x k) first

    by_alive : (there : Bool) → is_some (look n.world k) ≡ there → waiting_size e (gone_from t.world o) + (if there then waiting_size t (gone_from n.world (waiting_at t.pending k)) else 0) ≤ waiting_size e (gone_from n.world o)
    by_alive false gone = (let once = gone_once e t n.world seen later o in omega (arith, once))
    by_alive true here =
        let live : IsLive t.world k = seen_live n.world t.world later k (live_some (look n.world k) here) in
        let same : root_of t.world k ≡ k = ap (λ x. option_map_or (λ (l : Look). l.root) x k) (seen k live) ∙ own in
        let waits : waiting_at t.pending k ≡ left_from t.world o = ap (waiting_at t.pending) (sym same) ∙ h.waits k live ∙ ap (λ r. left_from t.world (waiting_at e.pending r)) own in
        let P : Option ℕ → Type 0 = λ x. waiting_size e (gone_from t.world o) + waiting_size t (gone_from n.world x) ≤ waiting_size e (gone_from n.world o) in
        subst P (sym waits) (gone_once e t n.world seen later o)

pub moved_more : (e t n : Engine) (u before now after : ℕ) → IsSound e.world → IsSound n.world → AreSeen t.world e.world → AreSeen n.world t.world → StillWaits e t → IsReleased t u n
    → now ≤ before + written_back e t.world e.world → after ≡ now + written_back t n.world n.world → after ≤ before + written_back e n.world e.world
moved_more e t n u before now after sound later_sound seen later h r so_far counted =
    let all : written_back t n.world n.world ≡ gone_among t n.world n.world n.world =
    all_among t n.world n.world n.world (λ k ty ds es has. some_live (look n.world k) (subst (λ o. IsSomeAnd o (λ l. Unit {0})) (sym (root_seen n.world k (root ty ds es) ty ds es later_sound has refl)) tt)) in
    let part : gone_among t n.world n.world n.world ≤ gone_among t n.world n.world e.world = (waits_more e t n u later h r).fewer t n.world n.world in
    let on : written_back e t.world e.world + gone_among t n.world n.world e.world ≤ written_back e n.world e.world = moved_on e t n sound seen later h e.world (λ k d has. has) in
    omega (arith, so_far, counted, all, part, on)

-- nothing was let go yet
pub let_go_refl : (e : Engine) (steps : ℕ) → IsLazy e → HasLetGo e e steps steps
let_go_refl e steps lazy = record {
  left = bounds.left_refl e;
  waits = waits_refl e (λ v b live is. (lazy.waits v b live is).live);
  risen = omega arith;
  counted = λ keeps. refl;
  written = omega arith;
}

-- one more is let go
pub let_go_more : bounds.Laws → (e t n : Engine) (u before now after : ℕ) → IsSound e.world → IsSound t.world → IsSound n.world → IsLazy t → IsReleased t u n → after ≡ now + written_back t n.world n.world
    → HasLetGo e t before now → HasLetGo e n before after
let_go_more laws e t n u before now after first sound later lazy r counted h =
    let seen : AreSeen n.world t.world = λ v live. bounds.released_seen laws t n u v sound r live in
    record {
      left = bounds.left_more laws e t n u sound h.left r;
      waits = waits_more e t n u seen h.waits r;
      risen = (let before_now : before ≤ now = h.risen in omega (arith, before_now, counted));
      counted = bounds.unmoved laws e t n u before now after sound lazy h.left r h.counted counted;
      written = moved_more e t n u before now after first later h.left.seen seen h.waits r h.written counted;
    }
