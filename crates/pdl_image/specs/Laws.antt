-- What holds of dumps.
use Rattle.std.specs.Prelude.{◌≡◌, ◌<◌, ℕ, ◌||◌, IsTrue, List, [], ◌++◌, Contains}
use Rattle.pdl_choice.specs.Where.{rises, which}
use Rattle.pdl_image.specs.declared.TheConstants.{LONGEST_DUMP, PIECE}
use Rattle.pdl_image.specs.Lines.{Line, script_of}
use Rattle.pdl_image.specs.Stems.{stem, stem_of, least_free, taken}
use Rattle.pdl_image.specs.Dump.{dump, is_too_long, mask_of}

-- no name begins with the stem
abbrev pub StemsAreFree : Type 0
StemsAreFree = (names : List (List ℕ)) (rest : List ℕ) → ¬ Contains names (stem_of names ++ rest)

-- with fewer underscores some name begins with it
abbrev pub FewerAreTaken : Type 0
FewerAreTaken = (names : List (List ℕ)) (k : ℕ) → k < least_free (taken names) →
    (rest : List ℕ) × Contains names (stem k ++ rest)

-- lines behind lines are too long where either are
abbrev pub LinesJoin : Type 0
LinesJoin = (text : List ℕ) (lines others : List Line) →
    is_too_long text (lines ++ others)
    ≡ (is_too_long text lines || is_too_long (text ++ script_of lines) others)

-- a mask chooses the positions that it was made of
abbrev pub MasksChoose : Type 0
MasksChoose = (n : ℕ) (places : List ℕ) → IsTrue (rises 0 n places) →
    which (mask_of n places) ≡ places

-- how many elements stand in one statement at most, and how many bytes a dump has at most
pub record LimitsAre : Type 0 where
  pub piece : PIECE ≡ 1000
  pub longest : LONGEST_DUMP ≡ 8388608

-- without kernels, arrays and names there is no line
abbrev pub EmptyIsEmpty : Type 0
EmptyIsEmpty = script_of (dump [] [] []) ≡ []
