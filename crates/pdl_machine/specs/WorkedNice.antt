-- Calls of `nice` worked by hand.
use Rattle.std.specs.Prelude.{◌≡◌, ℕ, pos, negsuc, List, [], ◌∷◌, false, Option, Some, None, Result, Ok, Err, codes}
use Rattle.pdl_buf.specs.declared.made.Made.{Made}
use Rattle.pdl_nice.specs.Nice.{nice_word}
use Rattle.pdl_lexemes.specs.declared.AssignOp.TheVariants.{Set}
use Rattle.pdl_syntax.specs.Tree.{Tree, number, named, call, none, value, text}
use Rattle.pdl_syntax.specs.StatementTree.{bind, assign}
use Rattle.pdl_machine.specs.declared.fault.Fault.{Fault}
use Rattle.pdl_machine.specs.declared.fault.Fault.TheVariants.{WrongArguments, BadSlice, OutOfRange}
use Rattle.pdl_machine.specs.NiceCalls.{filled_in}
use Rattle.pdl_machine.specs.Worked.{shown_after, sequence_to}
use Rattle.pdl_machine.specs.WorkedCuts.{long_array, whole_numbers, pdl, args_behind, written}

-- numbers stand in place of each `#`, in order: neither fewer nor more
pub record PatternsAreFilledIn : Type 0 where
  pub two : filled_in (codes "#:#,(#)") (pos 1 ∷ pos 12 ∷ negsuc 0 ∷ []) ≡ Some (codes "1:12,(-1)")
  pub none : filled_in (codes ":,*") [] ≡ Some (codes ":,*")
  pub fewer : filled_in (codes "#:#") (pos 1 ∷ []) ≡ None
  pub more : filled_in (codes "#") (pos 1 ∷ pos 2 ∷ []) ≡ None

-- what `$x` shows after `$x = sequence(5)` and an assignment to `$x->nice(PATTERN,E1,E2..)`
abbrev pub nice_assigned : (pattern : List ℕ) → List Tree → Tree → Result (Option Made) Fault
nice_assigned pattern es right =
    shown_after (bind (codes "x") (sequence_to 5) false
    ∷ assign (codes "x") ((nice_word, args_behind (text none pattern) es) ∷ []) Set right ∷ [])
    (codes "x")

-- what `$y` shows after `$x = sequence(5)` and `$y = $x->nice(PATTERN,E1,E2..)`
abbrev pub nice_shown : (pattern : List ℕ) → List Tree → Result (Option Made) Fault
nice_shown pattern es =
    shown_after (bind (codes "x") (sequence_to 5) false
    ∷ bind (codes "y") (call nice_word
    (args_behind (text (value none (named (codes "x"))) pattern) es)) false ∷ []) (codes "y")

-- $x(1:3) .= 9 writes through the slice; $x(1) and $x((1)) keep the dimension, or drop it
pub record NiceSlicesAreSlices : Type 0 where
  pub through : nice_assigned (codes "#:#") (number (pos 1) ∷ number (pos 3) ∷ []) (number (pos 9))
      ≡ Ok (long_array (5 ∷ []) (whole_numbers (0 ∷ 9 ∷ 9 ∷ 9 ∷ 4 ∷ [])))
  pub kept : nice_shown (codes "#") (number (pos 1) ∷ [])
      ≡ Ok (long_array (1 ∷ []) (whole_numbers (1 ∷ [])))
  pub dropped : nice_shown (codes "(#)") (number (pos 1) ∷ [])
      ≡ Ok (long_array [] (whole_numbers (1 ∷ [])))

-- one value of another count than one, alone: $x(pdl [3,0]) .= pdl [7,8] is an `index`, as is a
-- value without elements
pub record ValuesLookUp : Type 0 where
  pub two : nice_assigned (codes "#") (pdl (pos 3 ∷ pos 0 ∷ []) ∷ []) (pdl (pos 7 ∷ pos 8 ∷ []))
      ≡ Ok (long_array (5 ∷ []) (whole_numbers (8 ∷ 1 ∷ 2 ∷ 7 ∷ 4 ∷ [])))
  pub none : nice_shown (codes "#") (pdl [] ∷ []) ≡ Ok (long_array (0 ∷ []) [])
  pub one : nice_shown (codes "#") (pdl (pos 3 ∷ []) ∷ [])
      ≡ Ok (long_array (1 ∷ []) (whole_numbers (3 ∷ [])))

-- as many numbers as `#`, each of one element, come first; then the slice's text; then the slice
pub record NiceFaultsInOrder : Type 0 where
  pub fewer : nice_shown (codes "#?") [] ≡ Err WrongArguments
  pub more : nice_shown (codes "") (number (pos 1) ∷ []) ≡ Err WrongArguments
  pub not_one : nice_shown (codes "#:#") (pdl (pos 1 ∷ pos 2 ∷ []) ∷ number (pos 3) ∷ [])
      ≡ Err WrongArguments
  pub dropped : nice_shown (codes "(#)") (pdl (pos 1 ∷ pos 2 ∷ []) ∷ []) ≡ Err WrongArguments
  pub bad : nice_shown (codes "#?") (number (pos 9) ∷ []) ≡ Err BadSlice
  pub no_step : nice_shown (codes "#:#:#") (number (pos 0) ∷ number (pos 2) ∷ number (pos 0) ∷ [])
      ≡ Err BadSlice
  pub below : nice_shown (codes "*#") (written (negsuc 0) ∷ []) ≡ Err BadSlice
  pub outside : nice_shown (codes "#") (number (pos 5) ∷ []) ≡ Err OutOfRange
