-- Names that are bound, and room for more of them.
use Rattle.std.specs.Prelude.{ℕ, nat_eq, nat_lt, Bool, not, ◌+◌, ◌||◌, if◌then◌else◌, List, [], ◌∷◌, length, is_some}
use Rattle.std.specs.Cmp.Lexicographic.{pointwise}
use Rattle.std.specs.List.{list_any}
use Rattle.pdl_machine.specs.Names.{Named, found, with_name, names_limit}

-- What is seen of the names of arrays: the names, and for how many new ones memory is taken.
pub record Table : Type 0 where
  pub entries : Named ℕ
  pub spare : ℕ

-- with all of these, one after another
abbrev pub with_names : {A : Type 0} → Named A → Named A → Named A
with_names names [] = names
with_names names (n ∷ more) = with_names (with_name names n.0 n.1) more

-- whether the name is among these
abbrev pub is_among : List (List ℕ) → List ℕ → Bool
is_among xs x = list_any (λ y. pointwise nat_eq y x) xs

-- how many of these names are new, each counted once
abbrev pub new_among : {A : Type 0} → Named A → List (List ℕ) → ℕ
new_among names [] = 0
new_among names (x ∷ xs) =
    (if is_some (found names x) || is_among xs x then 0 else 1) + new_among names xs

-- whether all of these names fit: with the new ones among them there are as many as may be, or fewer
abbrev pub has_room : {A : Type 0} → Named A → List (List ℕ) → Bool
has_room names xs = not (nat_lt names_limit (length names + new_among names xs))
