-- The names of a dump's own: a stem that no bound name begins with, and a number behind it.
use Rattle.std.specs.Prelude.{ℕ, zero, suc, ◌+◌, ◌==◌, if◌then◌else◌, Bool, List, [], ◌∷◌, ◌++◌, length, replicate, filter_map, Option, Some, None, option_map, decimal}
use Rattle.std.specs.List.{list_any}

-- the stem of so many underscores: `$d`, `$_d`, `$__d` and so on
abbrev pub stem : ℕ → List ℕ
stem count = 36 ∷ (replicate count 95 ++ 100 ∷ [])

-- how many underscores stand before a `d` where the bytes begin with these, if they do
abbrev pub underscores : List ℕ → Option ℕ
underscores [] = None
underscores (b ∷ bs) =
    if b == 100 then Some 0 else if b == 95 then option_map suc (underscores bs) else None

-- how many underscores the stem has that a name begins with, if it begins with one
abbrev pub stem_in : List ℕ → Option ℕ
stem_in [] = None
stem_in (b ∷ bs) = if b == 36 then underscores bs else None

-- whether a count is in a list
abbrev pub is_in : List ℕ → ℕ → Bool
is_in counts k = list_any (λ c. c == k) counts

-- the least count from k on that isn't in a list, in so many tries
abbrev pub least_from : (tries k : ℕ) → List ℕ → ℕ
least_from zero k counts = k
least_from (suc tries) k counts = if is_in counts k then least_from tries (k + 1) counts else k

-- the least count that isn't in a list: there is one among as many as the list has, or it is the next
abbrev pub least_free : List ℕ → ℕ
least_free counts = least_from (length counts) 0 counts

-- the counts of the stems that names begin with
abbrev pub taken : List (List ℕ) → List ℕ
taken names = filter_map stem_in names

-- the stem of the fewest underscores that no name begins with
abbrev pub stem_of : List (List ℕ) → List ℕ
stem_of names = stem (least_free (taken names))

-- the name of the array with a number
abbrev pub name_at : (stem : List ℕ) → ℕ → List ℕ
name_at stem k = stem ++ decimal k

-- the name of the array that a view chooses by, while the view is made
abbrev pub index_name : (stem : List ℕ) → List ℕ
index_name stem = stem ++ 105 ∷ []
