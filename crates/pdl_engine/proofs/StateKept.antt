-- What stays of the state where the arrays are the same.
use Rattle.std.proofs.Common.{◌≡◌, ℕ, ◌<◌, List, [], ◌∷◌, sym, subst, ◌∙◌, true, get_or, All, ap}
use Rattle.std.proofs.lemmas.Bool.{ne_eqb}
use Rattle.pdl_world.specs.Paths.{path}
use Rattle.pdl_world.specs.Sound.{IsSound}
use Rattle.pdl_world.specs.Swept.{is_listed}
use Rattle.pdl_world.specs.World.{World}
use Rattle.pdl_nodes.specs.Alike.{numbers, IsAlike, KeepsMarks, is_fresh_in}
use Rattle.pdl_push.specs.Targets.{MarksTarget}
use Rattle.pdl_nodes.specs.Holds.{Counts, Beside}
use Rattle.pdl_nodes.specs.Outcomes.{IsReady}
use Rattle.pdl_nodes.specs.Outcomes.{PathIsFresh as RowsPathIsFresh}
use Rattle.pdl_nodes.specs.RowLaws.{RowLaws}
use Rattle.pdl_nodes.specs.Rows.{Rows, NumbersBelow, has, row_at}
use Rattle.pdl_nodes.specs.Seen.{IsSeen}
use Rattle.pdl_nodes.specs.Still.{IsStill}
use Rattle.pdl_nodes.specs.Worlds.{shape, latest}
use Rattle.pdl_engine.specs.State.{StayFresh, PathIsFresh}
use Rattle.pdl_engine.specs.StateOf.{IsEngine, state_of, fresh_among}
use Rattle.pdl_engine.specs.Through.{OthersStayMarked}
use Rattle.pdl_engine.proofs.StateOfWorlds.{fresh_keeps, path_with, fresh_is, path_live}

-- rows of the same numbers lie below the same ones
pub below_alike : (old new : Rows) (n : ℕ) → numbers new ≡ numbers old → NumbersBelow n old → NumbersBelow n new
below_alike old new n e b = back new (subst (λ (xs : List ℕ). AllUnder n xs) (sym e) (there old b)) where
  AllUnder : ℕ → List ℕ → Type 0
  AllUnder n [] = Unit {0}
  AllUnder n (x ∷ xs) = (x < n) × AllUnder n xs

  there : (rs : Rows) → NumbersBelow n rs → AllUnder n (numbers rs)
  there [] b = tt
  there ((k, r) ∷ rs) b = (b.0, there rs b.1)

  back : (rs : Rows) → AllUnder n (numbers rs) → NumbersBelow n rs
  back [] b = tt
  back ((k, r) ∷ rs) b = (b.0, back rs b.1)

-- and have the same holds
pub beside_alike : (old new : Rows) (hs : Counts) → IsAlike old new → Beside old hs → Beside new hs
beside_alike old new hs a b = record { numbers = λ v. b.numbers v ∙ sym (a.has_is v); clear = b.clear }

-- rows that mean the same, with the same holds
pub ready_engine : (facts : RowLaws) → (old new : Rows) (hs : Counts) (n : ℕ) → IsEngine old hs n → IsReady old new → IsEngine new hs n
ready_engine facts old new hs n i r = record {
  order = r.order;
  known = r.known;
  sized = facts.kept.sized_alike old new i.order.still r.order.still r.alike i.sized;
  sound = subst (λ (w : World). IsSound w) (sym r.world) i.sound;
  beside = beside_alike old new hs r.alike i.beside;
  below = below_alike old new n r.alike.numbers_are i.below;
  room = i.room;
}

-- what could be lent can be lent still
pub stay_ready : (facts : RowLaws) → (old new : Rows) (hs : Counts) (n : ℕ) → IsStill old → IsStill new → IsAlike old new → KeepsMarks old new → StayFresh (state_of old hs n) (state_of new hs n)
stay_ready facts old new hs n s t a m = fresh_keeps facts old new s t (λ v h. a.has_is v ∙ h) (λ v h f. facts.kept.fresh_stays old new v a m f)

-- a fresh path of rows is a fresh path of the state
pub path_state : (facts : RowLaws) → (rs : Rows) (hs : Counts) (n v : ℕ) → IsStill rs → has rs v ≡ true → RowsPathIsFresh rs v → PathIsFresh (state_of rs hs n) v
path_state facts rs hs n v s h f =
    let P : List ℕ → Type 0 = λ xs. All (λ u. is_listed (fresh_among rs rs) u ≡ true) xs in
    subst P (sym (path_with (latest rs) (shape rs) v)) (λ i d l. fresh_is facts rs (get_or (path (shape rs) v) i d) s (path_live rs s v h i d l) ∙ f i d l)

-- what could be lent in other families can be lent
pub others_lent : (facts : RowLaws) → (old new : Rows) (v u : ℕ) → IsStill old → IsAlike old new → OthersStayMarked old v new → has old u ≡ true → ((row_at old u).root ≡ (row_at old v).root → ⊥) → is_fresh_in old u ≡ true → is_fresh_in new u ≡ true
others_lent facts old new v u s a m h n f =
    let q : IsSeen old u = facts.seen.is_seen old s u h in
    ap (λ b. (row_at new b).mark) (a.base_is u) ∙ m (row_at old u).base q.base_has (λ e. n (sym q.base_root ∙ e)) f

-- so can what could after an assignment
pub others_fresh : (facts : RowLaws) → (old new : Rows) (v u : ℕ) → IsStill old → IsStill new → IsAlike old new → MarksTarget old v new → has old u ≡ true → ((row_at old u).root ≡ (row_at old v).root → ⊥) → is_fresh_in old u ≡ true → is_fresh_in new u ≡ true
others_fresh facts old new v u s t a m h n f = others_lent facts old new v u s a (λ b g d k. m b g ∙ rw (ne_eqb (row_at old b).root (row_at old v).root d) k) h n f
