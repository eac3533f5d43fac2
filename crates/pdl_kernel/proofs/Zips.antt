-- Two lists whose elements go together.
use Rattle.std.proofs.Common.{ℕ, zero, suc, ◌<◌, List, [], ◌∷◌, length, get_or, arith}
use Rattle.std.specs.List.{AllZip}

module _ {X Y : Type 0} (R : X → Y → Type 0) where
  pub zip_get : (xs : List X) (ys : List Y) (k : ℕ) (d : X) (e : Y) → AllZip R xs ys → k < length xs → R (get_or xs k d) (get_or ys k e)
  zip_get [] ys k d e h lt = absurd (omega arith)
  zip_get (x ∷ xs) [] k d e h lt = absurd h
  zip_get (x ∷ xs) (y ∷ ys) zero d e h lt = h.0
  zip_get (x ∷ xs) (y ∷ ys) (suc k) d e h lt = zip_get xs ys k d e h.1 (omega arith)
