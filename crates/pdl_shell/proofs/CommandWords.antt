-- Lists of words by their lengths.
use Rattle.std.proofs.Common.{◌≡◌, ◌≤◌, List, [], ◌∷◌, length, map, None, Global, String, refl, arith}
use Rattle.std.specs.String.{string_bytes}
use Rattle.pdl_shell.specs.Command.{command_of}

-- more words than a spelling has
pub command_of-many : (words : List (String Global)) → 4 ≤ length words → None ≡ command_of (map string_bytes words)
command_of-many [] many = absurd (omega arith)
command_of-many (a ∷ []) many = absurd (omega arith)
command_of-many (a ∷ b ∷ []) many = absurd (omega arith)
command_of-many (a ∷ b ∷ c ∷ []) many = absurd (omega arith)
command_of-many (a ∷ b ∷ c ∷ d ∷ words) many = refl
