-- What bytes settle of the statements of a script that begins with them.
use Rattle.std.specs.Prelude.{◌≡◌, ℕ, List, ◌++◌}
use Rattle.pdl_lex.specs.declared.Piece.{Piece}
use Rattle.pdl_lex.specs.Pieces.{pieces, settled}

-- the statements that the first bytes of a script settle are its first ones
abbrev pub BeginThePieces : Type 0
BeginThePieces = (bytes more : List ℕ) → (rest : List Piece) ×
    (pieces (bytes ++ more) ≡ settled bytes ++ rest)

-- and what is settled stays so by more bytes
abbrev pub StaySettled : Type 0
StaySettled = (bytes more : List ℕ) → (rest : List Piece) ×
    (settled (bytes ++ more) ≡ settled bytes ++ rest)
