-- What a list of numbers comes to as a whole.
use Rattle.std.specs.Prelude.{◌≡◌, ◌⊎◌, ℕ, ◌+◌, ℤ, pos, ◌+ℤ◌, ◌*ℤ◌, List, [], ◌∷◌, ◌++◌, length, map, take, fold, position, Contains}
use Rattle.std.specs.Int.{int_max, int_min}
use Rattle.std.specs.List.{range_with_len}
use Rattle.std.specs.Option.{unwrap_or}
use Rattle.std.specs.Ordering.{int_eq}

-- the sum of the numbers, 0 for none
abbrev pub total : List ℤ → ℤ
total xs = fold (λ sum x. sum +ℤ x) (pos 0) xs

-- the product of the numbers, 1 for none
abbrev pub product : List ℤ → ℤ
product xs = fold (λ product x. product *ℤ x) (pos 1) xs

-- the greatest of the numbers; none have none, and stand for 0
abbrev pub greatest : List ℤ → ℤ
greatest [] = pos 0
greatest (x ∷ xs) = fold int_max x xs

-- the least of the numbers; none have none, and stand for 0
abbrev pub least : List ℤ → ℤ
least [] = pos 0
least (x ∷ xs) = fold int_min x xs

-- the first place of a number that stands in the list
abbrev pub first_place : ℤ → List ℤ → ℕ
first_place x xs = unwrap_or (position (λ y. int_eq y x) xs) 0

-- what a function gives for the numbers up to each place, that one included
abbrev pub at_prefixes : (List ℤ → ℤ) → List ℤ → List ℤ
at_prefixes f xs = map (λ i. f (take (i + 1) xs)) (range_with_len 0 (length xs))

-- a fold that picks one of the numbers, or its start: once it has come to what it picks in the end,
-- it stays there
pub record Picks (f : ℤ → ℤ → ℤ) : Type 0 where
  pub one : (a : ℤ) (xs : List ℤ) → (fold f a xs ≡ a) ⊎ Contains xs (fold f a xs)
  pub stays : (a : ℤ) (xs ys : List ℤ) → Contains xs (fold f a (xs ++ ys))
      → fold f a xs ≡ fold f a (xs ++ ys)
