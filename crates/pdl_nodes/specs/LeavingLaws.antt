-- Laws of arrays that go once a hold is taken back.
use Rattle.std.specs.Prelude.{◌≡◌, ◌≢◌, ◌+◌, ◌<◌, ◌≤◌, ◌==◌, ◌||◌, ◌∷◌, ℕ, Bool, List, Option, Some, None, true, [], length, drop, get_or}
use Rattle.pdl_nodes.specs.Families.{InOrder}
use Rattle.pdl_nodes.specs.Going.{IsGoing, going_at, going_sum}
use Rattle.pdl_nodes.specs.Holds.{Beside, Counts, count, hold_at, is_held, stands}
use Rattle.pdl_nodes.specs.Outcomes.{IsReady}
use Rattle.pdl_nodes.specs.Released.{GoingIsSettled, KeepsWaiting}
use Rattle.pdl_nodes.specs.Risen.{AreNoted, AreTight, ComesFrom, GoesAlone, IsForgotten, IsLetGo}
use Rattle.pdl_nodes.specs.Row.{parent_of}
use Rattle.pdl_nodes.specs.Rows.{Rows, has, reached, row_at, without}
use Rattle.pdl_nodes.specs.Staying.{staying, stays_from}
use Rattle.pdl_nodes.specs.Still.{IsStill}
use Rattle.pdl_nodes.specs.Worlds.{world_of}
use Rattle.pdl_world.specs.Swept.{is_listed, sweep}

pub record LeavingLaws : Type 0 where
  -- the sweep of the world leaves of it what the held arrays reach
  pub sweep_stays :
      (rs : Rows) (held : List ℕ) → IsStill rs
      → sweep (world_of rs) held ≡ staying (reached rs (is_listed held)) (world_of rs)
  -- what waits stays where its view does
  pub stays_all :
      (t : ℕ → Bool) (o : Option ℕ) → ((v : ℕ) → o ≡ Some v → t v ≡ true) → o ≡ stays_from t o
  -- where nothing that waits goes in any of these families no element does
  pub none_sum :
      (w : Rows) (t : ℕ → Bool) (part : Rows)
      → ((r : ℕ) → has part r ≡ true → going_at w t r ≡ None) → going_sum w t part ≡ 0
  -- so is it where what waits stays with its root
  pub nothing_goes : (t : ℕ → Bool) (rs : Rows) → KeepsWaiting t rs → going_sum rs t rs ≡ 0
  -- where nothing that waits goes in the families of the starts, from which all comes that goes, it
  -- does in none
  pub none_goes :
      (t0 table : Rows) (hs : Counts) (starts : List ℕ) → InOrder t0 → IsReady t0 table
      → ComesFrom starts t0 hs
      → ((u : ℕ) → is_listed starts u ≡ true → going_at table (stands hs) (row_at t0 u).root ≡ None)
      → (r : ℕ) → has table r ≡ true → going_at table (stands hs) r ≡ None
  -- what goes of the families of roots that stay is what waits there and doesn't stay
  pub is_going :
      (rs : Rows) (t : ℕ → Bool) (r v : ℕ) → going_at rs t r ≡ Some v → IsGoing rs t r v
  -- what is noted of views stays so in tables of the same arrays
  pub noted_ready :
      (old mid : Rows) (hs : Counts) → IsReady old mid → AreNoted old hs → AreNoted mid hs
  -- where there are holds for all rows all of them stand
  pub all_stand : (rs : Rows) (hs : Counts) → Beside rs hs → rs ≡ staying (stands hs) rs
  -- and these are what the held arrays reach, if each array is held or has views
  pub kept_tells :
      (rs : Rows) (hs : Counts) (v : ℕ) → InOrder rs → Beside rs hs → AreTight [] rs hs
      → has rs v ≡ true → stands hs v ≡ reached rs (is_held hs) v
  -- with one number forgotten there are holds for all rows but its own
  pub last_beside :
      (rs : Rows) (hs gs : Counts) (id : ℕ) → Beside rs hs → hold_at gs id ≡ None
      → ((v : ℕ) → v ≢ id → hold_at gs v ≡ hold_at hs v) → Beside (without id rs) gs
  -- where a root goes alone what waits stays with its root
  pub root_waits :
      (rs : Rows) (gs : Counts) (id : ℕ) → InOrder rs → has rs id ≡ true
      → parent_of (row_at rs id) ≡ None → Beside (without id rs) gs → KeepsWaiting (stands gs) rs
  -- where one array was forgotten all that goes comes from it
  pub alone_from :
      (rs : Rows) (gs : Counts) (id : ℕ) → Beside (without id rs) gs → ComesFrom (id ∷ []) rs gs
  -- and where it goes alone exactly what the held arrays reach stands
  pub alone_tells :
      (rs : Rows) (gs : Counts) (id : ℕ) → IsForgotten rs gs id → GoesAlone rs gs id → (v : ℕ)
      → has rs v ≡ true → stands gs v ≡ reached rs (is_held gs) v
  -- arrays are let go once what goes is settled, and what stays is what the held arrays reach
  -- and is held as before
  pub let_go_is :
      (old mid new : Rows) (hs h1 gs : Counts) → InOrder old
      → ((v : ℕ) → stands h1 v ≡ true → count h1 v ≡ count hs v)
      → ((v : ℕ) → has old v ≡ true → stands h1 v ≡ reached old (is_held hs) v)
      → GoingIsSettled old mid h1 → new ≡ staying (stands h1) mid → Beside new gs
      → ((v : ℕ) → count gs v ≡ count h1 v) → IsLetGo old (count hs) new gs
  -- so is one that goes alone once it is settled and removed
  pub alone_let_go :
      (rs mid new : Rows) (gs : Counts) (id : ℕ) → InOrder rs → IsForgotten rs gs id
      → GoesAlone rs gs id → GoingIsSettled rs mid gs → new ≡ without id mid
      → IsLetGo rs (count gs) new gs
  -- of starts, those of a list and one that comes after them, the last is one
  pub under_first : (id : ℕ) (xs : List ℕ) → is_listed (id ∷ xs) id ≡ true
  -- each of the list is one
  pub under_listed :
      (xs : List ℕ) (n d id : ℕ) → n < length xs → is_listed (id ∷ xs) (get_or xs n d) ≡ true
  -- from a place of the list on those are left that stand there and after it
  pub under_next :
      (xs : List ℕ) (n d id v : ℕ) → n < length xs
      → is_listed (id ∷ drop n xs) v ≡ (((get_or xs n d) == v) || is_listed (id ∷ drop (n + 1) xs) v)
  -- and after the list the last alone
  pub under_end :
      (xs : List ℕ) (n id v : ℕ) → length xs ≤ n
      → is_listed (id ∷ drop n xs) v ≡ ((id == v) || is_listed [] v)
