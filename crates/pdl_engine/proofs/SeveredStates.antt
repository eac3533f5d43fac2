-- The state once an array was cut, or got other dimensions.
use Rattle.std.proofs.Common.{ℕ, ◌==◌, sym, ◌∙◌, ◌<◌, arith, ◌≡◌, ◌≢◌, Bool, true, refl, ◌+◌, ap, Result, Ok, Err, subst, false, List}
use Rattle.std.specs.Result.{IfErr, OnOk, OnErr}
use Rattle.pdl_shape.specs.Shape.{IsDims}
use Rattle.pdl_world.specs.Cut.{breaks, sever, reshape}
use Rattle.pdl_world.specs.BreakLaws.{SoundnessDecides}
use Rattle.pdl_world.specs.CutLaws.{CutsSoundly}
use Rattle.pdl_world.specs.Paths.{root_of}
use Rattle.pdl_world.specs.Sound.{IsLive, IsSound}
use Rattle.pdl_nodes.specs.Alike.{is_fresh_in}
use Rattle.pdl_nodes.specs.declared.relaid.RelayFault.{RelayFault}
use Rattle.pdl_nodes.specs.declared.relaid.RelayFault.TheVariants.{Breaks}
use Rattle.pdl_nodes.specs.Holds.{Counts}
use Rattle.pdl_nodes.specs.Outcomes.{waiting_of}
use Rattle.pdl_pull.specs.Outdated.{outdated as rows_outdated}
use Rattle.pdl_nodes.specs.Outcomes.{waiting_size as rows_waiting_size}
use Rattle.pdl_nodes.specs.RowLaws.{RowLaws}
use Rattle.pdl_nodes.specs.Rows.{Rows, row_at, has}
use Rattle.pdl_nodes.specs.Worlds.{world_of}
use Rattle.pdl_engine.specs.Held.{ChangesFamily, FamilyIsSettled}
use Rattle.pdl_engine.specs.Severed.{BasesAreFresh, ChangesRows, RowsAreSettled, RowsStayFresh}
use Rattle.pdl_engine.specs.State.{StayFresh, base, is_fresh, outdated, waiting, waiting_size}
use Rattle.pdl_engine.specs.StateOf.{IsEngine, state_of}
use Rattle.pdl_engine.proofs.StateBounds.{base_are, waiting_is, outdated_is, size_is}
use Rattle.pdl_engine.proofs.StateKept.{below_alike}
use Rattle.pdl_engine.proofs.StateOfWorlds.{fresh_is, holds_alike, live_has, root_are, fresh_keeps}

-- the table stays one
pub changed_engine : (old new : Rows) (hs : Counts) (n v : ℕ) → IsEngine old hs n → ChangesRows old v new → IsSound (world_of new) → IsEngine new hs n
changed_engine old new hs n v i s w = record {
  order = s.order;
  known = s.known;
  sized = s.sized;
  sound = w;
  beside = record { numbers = λ u. i.beside.numbers u ∙ sym (s.has_is u); clear = i.beside.clear };
  below = below_alike old new n s.numbers_are i.below;
  room = i.room;
}

-- other families stay
pub changed_state : (facts : RowLaws) → (old new : Rows) (hs : Counts) (n v : ℕ) → IsEngine old hs n → has old v ≡ true → ChangesRows old v new → ChangesFamily (state_of old hs n) v (state_of new hs n)
changed_state facts old new hs n v i l s = record {
  holds = holds_alike old new hs s.numbers_are;
  next = refl;
  others = λ u e d f. (let h : has old u ≡ true = live_has facts old u e in
      let apart : (row_at new u).root ≢ v = λ q. d (root_are facts new u s.order.still (s.has_is u ∙ h) ∙ q) in
      fresh_is facts new u s.order.still (s.has_is u ∙ h) ∙ s.fresh u h apart (sym (fresh_is facts old u i.order.still h) ∙ f));
  waits = λ u e d. (let h : has old u ≡ true = live_has facts old u e in
      let apart : (row_at old u).root ≢ (row_at old v).root = λ q. d (root_are facts old u i.order.still h ∙ q ∙ sym (root_are facts old v i.order.still l)) in
      waiting_is facts new hs n u s.order.still (s.has_is u ∙ h) ∙ s.waits u h apart ∙ sym (waiting_is facts old hs n u i.order.still h));
}

-- nothing waits where its family is now
pub changed_settled : (facts : RowLaws) → (old new : Rows) (hs : Counts) (n v : ℕ) → IsEngine old hs n → has old v ≡ true → ChangesRows old v new → RowsAreSettled old v new → FamilyIsSettled (state_of old hs n) v (state_of new hs n)
changed_settled facts old new hs n v i l s w = λ u e q.
    let h : has old u ≡ true = live_has facts old u e in
    waiting_is facts new hs n u s.order.still (s.has_is u ∙ h) ∙ w u h (sym (root_are facts old u i.order.still h) ∙ q ∙ root_are facts old v i.order.still l)

-- what could be lent
pub refused_fresh : (facts : RowLaws) → (old new : Rows) (hs : Counts) (n v : ℕ) → IsEngine old hs n → ChangesRows old v new → RowsStayFresh old new → StayFresh (state_of old hs n) (state_of new hs n)
refused_fresh facts old new hs n v i s f = fresh_keeps facts old new i.order.still s.order.still (λ u h. s.has_is u ∙ h) f

-- the new root
pub root_fresh : (facts : RowLaws) → (old new : Rows) (hs : Counts) (n v : ℕ) → IsEngine old hs n → has old v ≡ true → ChangesRows old v new → ((row_at old v).root ≢ v → is_fresh_in new v ≡ true)
    → root_of (world_of old) v ≢ v → is_fresh (state_of new hs n) v ≡ true
root_fresh facts old new hs n v i h s f d = fresh_is facts new v s.order.still (s.has_is v ∙ h) ∙ f (λ q. d (root_are facts old v i.order.still h ∙ q))

-- the steps of making it fresh
pub steps_are : (facts : RowLaws) → (old : Rows) (hs : Counts) (n v : ℕ) → IsEngine old hs n → has old v ≡ true
    → rows_outdated old v + rows_waiting_size old (waiting_of old v) ≡ outdated (state_of old hs n) v + waiting_size (state_of old hs n) (waiting (state_of old hs n) v)
steps_are facts old hs n v i h =
    let a : outdated (state_of old hs n) v ≡ rows_outdated old v = outdated_is facts old hs n v i.order.still h in
    let w : waiting (state_of old hs n) v ≡ waiting_of old v = waiting_is facts old hs n v i.order.still h in
    let b : waiting_size (state_of old hs n) (waiting_of old v) ≡ rows_waiting_size old (waiting_of old v) = size_is facts old hs n (waiting_of old v) i.order.still (λ u e. ((i.order.family (row_at old v).root (facts.seen.root_live old (row_at old v).root v i.order.still h refl)).waits u e).live) in
    let c : waiting_size (state_of old hs n) (waiting (state_of old hs n) v) ≡ waiting_size (state_of old hs n) (waiting_of old v) = ap (waiting_size (state_of old hs n)) w in
    omega (arith, a, b, c)

-- the world stays sound
pub severed_sound : {A E : Type 0} → CutsSoundly → (old new : Rows) (v : ℕ) (r : Result A E) → IsSound (world_of old) → OnOk r (world_of new ≡ sever (world_of old) v) → OnErr r (world_of new ≡ world_of old) → IsSound (world_of new)
severed_sound laws old new v (Ok a) s f g = subst IsSound (sym f) (laws (world_of old) v s)
severed_sound laws old new v (Err e) s f g = subst IsSound (sym g) s

pub reshaped_sound : {A E : Type 0} → SoundnessDecides → (old new : Rows) (v : ℕ) (ds : List ℕ) (r : Result A E) → IsSound (world_of old) → IsDims ds → OnOk r (breaks (world_of old) v ds ≡ false)
    → OnOk r (world_of new ≡ reshape (world_of old) v ds) → OnErr r (world_of new ≡ world_of old) → IsSound (world_of new)
reshaped_sound laws old new v ds (Ok a) s d n f g = subst IsSound (sym f) ((laws (world_of old) v ds s d).stays n)
reshaped_sound laws old new v ds (Err e) s d n f g = subst IsSound (sym g) s

pub reshaped_lent : (facts : RowLaws) → (old new : Rows) (hs : Counts) (n v : ℕ) → has old v ≡ true → ChangesRows old v new → is_fresh_in new v ≡ true → is_fresh (state_of new hs n) v ≡ true
reshaped_lent facts old new hs n v h s f = fresh_is facts new v s.order.still (s.has_is v ∙ h) ∙ f

-- of the family of the new root those can be lent whose base it is
pub rooted_bases : (facts : RowLaws) → (old new : Rows) (hs : Counts) (n v : ℕ) → IsEngine old hs n → ChangesRows old v new → BasesAreFresh v new
    → (u : ℕ) → IsLive (world_of old) u → root_of (world_of new) u ≡ v → is_fresh (state_of new hs n) u ≡ (base (world_of new) u == v)
rooted_bases facts old new hs n v i s f u l g =
    let h : has new u ≡ true = s.has_is u ∙ live_has facts old u l in
    fresh_is facts new u s.order.still h ∙ f u h (sym (root_are facts new u s.order.still h) ∙ g) ∙ ap (λ b. b == v) (sym (base_are facts new u s.order.still h))

-- a refusal for a view that breaks
pub broken_by : {A : Type 0} {a b : Bool} (r : Result A RelayFault) → a ≡ b → IfErr r (λ f. f ≡ Breaks → a ≡ true) → IfErr r (λ f. f ≡ Breaks → b ≡ true)
broken_by (Ok x) e h = tt
broken_by (Err f) e h = λ g. sym e ∙ h g

pub unchanged_by : {A : Type 0} (P Q R : Type 0) (r : Result A RelayFault) → (P → Q) → IfErr r (λ f. f ≡ Breaks → P × R) → IfErr r (λ f. f ≡ Breaks → Q × R)
unchanged_by P Q R (Ok x) e h = tt
unchanged_by P Q R (Err f) e h = λ g. (e (h g).0, (h g).1)
