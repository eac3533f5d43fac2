-- Which views a script can spell: after sweeps, cuts, assignments, and by every call.
use Rattle.std.proofs.Common.{◌≡◌, ℕ, ℤ, List, [], ◌∷◌, ◌++◌, All, Bool, true, false, Option, None, refl, sym, ap, subst, ◌∙◌, arith, eqb-true}
use Rattle.std.specs.Prelude.{◌==◌, if◌then◌else◌}
use Rattle.std.specs.Option.{option_map_or}
use Rattle.std.proofs.lemmas.List.Elements.{All-nil, All-weaker}
use Rattle.pdl_lemmas.specs.Tests.{by_test}
use Rattle.pdl_elem.specs.declared.Ty.{Ty}
use Rattle.pdl_elem.specs.declared.Ty.TheVariants.{Longlong}
use Rattle.pdl_elem.specs.Types.{InRange}
use Rattle.pdl_elem.specs.Laws.{WrappingLaws}
use Rattle.pdl_shape.specs.Places.{read}
use Rattle.pdl_shape.specs.Shape.{IsDims}
use Rattle.pdl_buf.specs.Made.{IsMade}
use Rattle.pdl_world.specs.Cut.{replaced}
use Rattle.pdl_world.specs.CutLaws.{CutsSoundly}
use Rattle.pdl_world.specs.Sound.{NumbersBelow, IsSound, IsAllowed}
use Rattle.pdl_world.specs.Swept.{is_listed, parents, kept_onto, sweep}
use Rattle.pdl_world.specs.World.{World, ArrayDef, root, view, Look, look, set_elements, root_elements, dims_in, ty_in, elements}
use Rattle.pdl_machine.specs.Tidy.{renumber}
use Rattle.pdl_machine.specs.Dumpable.{ViewsAreWritable}
use Rattle.pdl_machine.specs.DumpableLaws.{ShownAreMade}
use Rattle.pdl_machine.proofs.ArraysRenamed.{look-other}
use Rattle.pdl_machine.proofs.TidyNumbering.{in_world, AreIn, IsOrderly, live_inside}
use Rattle.pdl_machine.proofs.StateSteps.{unheld, below_rest}

-- ---- worlds of such views

pub writable_swept : (w : World) (hs : List ℕ) → ViewsAreWritable w → ViewsAreWritable (sweep w hs)
writable_swept [] hs views = tt
writable_swept ((k, d) ∷ w) hs views = by_keeps (λ h. writable_swept w h views.1) (is_listed hs k)
  where
    by_keeps : ((h : List ℕ) → ViewsAreWritable (sweep w h)) → (keeps : Bool) → ViewsAreWritable (kept_onto keeps (k, d) (sweep w (if keeps then parents d ++ hs else hs)))
    by_keeps rest true = (views.0, rest (parents d ++ hs))
    by_keeps rest false = rest hs

pub writable_replaced : (w : World) (v : ℕ) (ty : Ty) (ds : List ℕ) (es : List ℤ) → ViewsAreWritable w → ViewsAreWritable (replaced w v (root ty ds es))
writable_replaced [] v ty ds es views = tt
writable_replaced ((k, d) ∷ w) v ty ds es views =
    (by_test (k == v) (λ is. rw is tt) (λ other. rw other views.0), writable_replaced w v ty ds es views.1)

pub writable_set : (w : World) (r : ℕ) (es : List ℤ) → ViewsAreWritable w → ViewsAreWritable (set_elements w r es)
writable_set [] r es views = tt
writable_set ((k, root ty ds old) ∷ w) r es views = (tt, writable_set w r es views.1)
writable_set ((k, view p t) ∷ w) r es views = (views.0, writable_set w r es views.1)

pub writable_renumbered : (w : World) → ViewsAreWritable w → ViewsAreWritable (renumber w)
writable_renumbered [] views = tt
writable_renumbered ((k, root ty ds es) ∷ w) views = (tt, writable_renumbered w views.1)
writable_renumbered ((k, view p t) ∷ w) views = (views.0, writable_renumbered w views.1)

pub writable_before : (w : World) → ViewsAreWritable (renumber w) → ViewsAreWritable w
writable_before [] views = tt
writable_before ((k, root ty ds es) ∷ w) views = (tt, writable_before w views.1)
writable_before ((k, view p t) ∷ w) views = (views.0, writable_before w views.1)

-- ---- new arrays that nothing reaches

-- where all that is held is older, newer arrays go
pub newer_go : (front w : World) (hs : List ℕ) → IsOrderly (front ++ w) → AreIn w hs → sweep (front ++ w) hs ≡ sweep w hs
newer_go [] w hs order there = refl
newer_go ((k, d) ∷ front) w hs order there =
    let P : Bool → Type 0 = λ keeps. kept_onto keeps (k, d) (sweep (front ++ w) (if keeps then parents d ++ hs else hs)) ≡ sweep w hs in
    subst P (sym (unheld w hs k (below_rest front w k order.0) there)) (newer_go front w hs order.2 there)

pub set_apart : (front w : World) (r : ℕ) (es : List ℤ) → set_elements (front ++ w) r es ≡ set_elements front r es ++ set_elements w r es
set_apart [] w r es = refl
set_apart ((k, root ty ds old) ∷ front) w r es = ap (λ (u : World). (k, root ty ds (if k == r then es else old)) ∷ u) (set_apart front w r es)
set_apart ((k, view p t) ∷ front) w r es = ap (λ (u : World). (k, view p t) ∷ u) (set_apart front w r es)

pub replaced_apart : (front w : World) (v : ℕ) (d : ArrayDef) → replaced (front ++ w) v d ≡ replaced front v d ++ replaced w v d
replaced_apart [] w v d = refl
replaced_apart ((k, e) ∷ front) w v d = ap (λ (u : World). (k, if k == v then d else e) ∷ u) (replaced_apart front w v d)

-- an array above all others is replaced alone
pub replaced_above : (w : World) (v : ℕ) (d : ArrayDef) → NumbersBelow v w → replaced w v d ≡ w
replaced_above [] v d below = refl
replaced_above ((k, e) ∷ w) v d below =
    by_test (k == v)
    (λ is. absurd (omega (arith, below.0, eqb-true k v is)))
    (λ other. rw other (ap (λ (u : World). (k, e) ∷ u) (replaced_above w v d below.1)))

pub below_before : (n : ℕ) (w : World) (v : ℕ) (d : ArrayDef) → NumbersBelow n (replaced w v d) → NumbersBelow n w
below_before n [] v d below = tt
below_before n ((k, e) ∷ w) v d below = (below.0, below_before n w v d below.1)

-- ---- what is shown

-- an array that can be made of the type longlong, but for the count of its elements
pub record IsFine (dims : List ℕ) (elems : List ℤ) : Type 0 where
  pub dims_are : IsDims dims
  pub in_range : All (InRange Longlong) elems

-- the laws of the crates below
pub record Laws : Type 0 where
  pub cuts : CutsSoundly
  pub wraps : WrappingLaws

rooted_made : (w : World) (v : ℕ) (ty : Ty) (ds : List ℕ) (es : List ℤ) → in_world w v ≡ true → IsSound (replaced w v (root ty ds es)) → IsDims ds × IsMade ty ds es
rooted_made [] v ty ds es there sound = cc
rooted_made ((k, d) ∷ w) v ty ds es there sound =
    by_test (k == v)
    (λ is. let P : Bool → Type 0 = λ b. IsAllowed (replaced w v (root ty ds es)) (if b then root ty ds es else d) in subst P is sound.1)
    (λ other. let t : in_world w v ≡ true = rw other at there in rooted_made w v ty ds es t sound.2)

-- what a live array shows can be made
pub shown_made : CutsSoundly → ShownAreMade
shown_made cuts w v sound live = rooted_made w v (ty_in w v) (dims_in w v) (elements w v) (live_inside w v live) (cuts w v sound)

not_seen : (w : World) (v : ℕ) → in_world w v ≡ false → look w v ≡ None
not_seen [] v no' = refl
not_seen ((k, d) ∷ w) v no' =
    by_test (k == v)
    (λ is. let e : true ≡ false = rw is at no' in absurd (cc))
    (λ other. look-other k v d w other ∙ not_seen w v (rw other at no'))

-- what an array of a sound world shows is one that can be made
pub shown_fine : Laws → (w : World) → IsSound w → (v : ℕ) → IsFine (dims_in w v) (elements w v)
shown_fine laws w sound v =
    by_test (in_world w v)
    (λ there. let m = rooted_made w v (ty_in w v) (dims_in w v) (elements w v) there (laws.cuts w v sound) in
    record {
      dims_are = m.0;
      in_range = All-weaker (InRange (ty_in w v)) (InRange Longlong) (laws.wraps.widest (ty_in w v)) (elements w v) m.1.in_range;
    })
    (λ absent'. let P : Option Look → Type 0 = λ o. IsFine (option_map_or (λ l. l.dims) o []) (option_map_or (λ l. read l.places (root_elements w l.root)) o []) in
    subst P (sym (not_seen w v absent')) (record { dims_are = record { count = omega arith; within = omega arith }; in_range = All-nil (InRange Longlong) }))
