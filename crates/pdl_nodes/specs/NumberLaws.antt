-- Laws of rows by their numbers.
use Rattle.std.specs.Prelude.{◌≡◌, ◌≢◌, ◌<◌, ◌≤◌, ◌∷◌, ℕ, true, false}
use Rattle.pdl_nodes.specs.Alike.{numbers}
use Rattle.pdl_nodes.specs.Row.{Row}
use Rattle.pdl_nodes.specs.Rows.{Falls, NumbersBelow, Rows, each, has, row_at}
use Rattle.pdl_nodes.specs.Worlds.{places_seen}

pub record NumberLaws : Type 0 where
  -- a change of each row keeps the numbers
  pub each_has : (f : ℕ → Row → Row) (rs : Rows) (v : ℕ) → has (each f rs) v ≡ has rs v
  -- and changes the row of each number
  pub each_at :
      (f : ℕ → Row → Row) (rs : Rows) (v : ℕ) → has rs v ≡ true
      → row_at (each f rs) v ≡ f v (row_at rs v)
  -- the list of all numbers stays with it
  pub each_numbers : (f : ℕ → Row → Row) (rs : Rows) → numbers (each f rs) ≡ numbers rs
  -- a number that isn't there has the row that it had
  pub each_past :
      (f : ℕ → Row → Row) (rs : Rows) (v : ℕ) → has rs v ≡ false
      → row_at (each f rs) v ≡ row_at rs v
  -- two changes, one after the other, are one
  pub each_each :
      (f g : ℕ → Row → Row) (rs : Rows) → each f (each g rs) ≡ each (λ k r. f k (g k r)) rs
  -- changes that do the same to each row are the same
  pub each_live :
      (f g : ℕ → Row → Row) (rs : Rows) → Falls rs
      → ((k : ℕ) → has rs k ≡ true → f k (row_at rs k) ≡ g k (row_at rs k))
      → each f rs ≡ each g rs
  -- a number that is there is below n where all numbers are
  pub has_below : (rs : Rows) (n v : ℕ) → NumbersBelow n rs → has rs v ≡ true → v < n
  -- numbers that are all below m are all below n, if m is no more than n
  pub below_more : (rs : Rows) (m n : ℕ) → m ≤ n → NumbersBelow m rs → NumbersBelow n rs
  -- what is above all isn't there
  pub newest_gone : (k : ℕ) (rs : Rows) → NumbersBelow k rs → has rs k ≡ false
  -- a number above all others is none of them
  pub not_newest : (rs : Rows) (k v : ℕ) → NumbersBelow k rs → has rs v ≡ true → k ≡ v → ⊥
  -- with one row more each other number is there if it was
  pub has_older : (k : ℕ) (r : Row) (rs : Rows) (v : ℕ) → k ≢ v → has ((k, r) ∷ rs) v ≡ has rs v
  -- has the row that it had
  pub row_older :
      (k : ℕ) (r : Row) (rs : Rows) (v : ℕ) → k ≢ v → row_at ((k, r) ∷ rs) v ≡ row_at rs v
  -- and the places that it had
  pub places_older :
      (k : ℕ) (r : Row) (rs : Rows) (v : ℕ) → k ≢ v → places_seen ((k, r) ∷ rs) v ≡ places_seen rs v
  -- a number whose row is marked is there
  pub marked_live : (rs : Rows) (v : ℕ) → (row_at rs v).mark ≡ true → has rs v ≡ true
