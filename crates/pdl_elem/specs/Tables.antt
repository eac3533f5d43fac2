-- Tables of texts.
use Rattle.std.specs.Prelude.{ℕ, List, [], ◌∷◌, Option, Some, None, if◌then◌else◌, bytes_eq}

-- what a table has for a text
abbrev pub found_in : {A : Type 0} → List (List ℕ × A) → List ℕ → Option A
found_in [] text = None
found_in (entry ∷ rest) text = if bytes_eq text entry.0 then Some entry.1 else found_in rest text
