-- The arguments and the outcomes that code holds, as the machine's.
use Rattle.std.specs.Prelude.{ℕ, List, [], ◌∷◌, Option, Some, None, IsTrue}
use Rattle.std.proofs.Common.{Bor}
use Rattle.pdl_world.specs.Formula.{is_well_formed}
use Rattle.pdl_world.specs.World.{World}
use Rattle.pdl_world.specs.Sound.{IsLive}
use Rattle.pdl_buf.specs.Made.{IsMade}
use Rattle.pdl_machine.specs.Arrays.{Arrays}
use Rattle.pdl_machine.specs.Outcome.{Given as Argument, array, string, type_word, Seen, seen, all_seen, Outcome as Placed, made, viewed}
use Rattle.pdl_session.specs.declared.given.Given.{Given}
use Rattle.pdl_session.specs.declared.given.Given.TheVariants.{Array, Text, OfType}
use Rattle.pdl_session.specs.declared.outcome.Outcome.{Outcome}
use Rattle.pdl_session.specs.declared.outcome.Outcome.TheVariants.{New, View}

abbrev pub argument : Given → Argument
argument (Array v) = array v
argument (Text t) = string t.now
argument (OfType ty) = type_word ty

abbrev pub arguments : List Given → List Argument
arguments [] = []
arguments (g ∷ given) = argument g ∷ arguments given

-- what a call sees of an argument, and of all
abbrev pub seen_of : Arrays → Given → Seen
seen_of a g = seen a (argument g)

abbrev pub all_seen_of : Arrays → List Given → List Seen
all_seen_of a given = all_seen a (arguments given)

-- each array among the arguments can be looked at
abbrev pub IsGivenLive : World → Given → Type 0
IsGivenLive w (Array v) = IsLive w v
IsGivenLive w (Text t) = Unit {0}
IsGivenLive w (OfType ty) = Unit {0}

abbrev pub AreGivenLive : World → List Given → Type 0
AreGivenLive w [] = Unit {0}
AreGivenLive w (g ∷ given) = IsGivenLive w g × AreGivenLive w given

-- the array that an argument is, by its number
abbrev pub array_number : Given → Option ℕ
array_number (Array v) = Some v
array_number _ = None

abbrev pub outcome_of : Outcome → Placed
outcome_of (New m) = made m
outcome_of (View t) = viewed t

-- a new array has the elements that its dimensions say, and a view's transformation is well formed
abbrev pub IsOutcomeMade : Outcome → Type 0
IsOutcomeMade (New m) = IsMade m.ty m.dims m.elems
IsOutcomeMade (View t) = IsTrue (is_well_formed t)

-- the array that stands alone
abbrev pub one_array : List Given → Option ℕ
one_array (Array v ∷ []) = Some v
one_array _ = None

-- the text, where it stands alone behind an array
abbrev pub array_and_text : List Given → Option (Bor (List ℕ))
array_and_text (Array v ∷ Text t ∷ []) = Some t
array_and_text _ = None

-- the text behind the array that stands first, and what stands behind both
abbrev pub text_and_more : List Given → Option (Bor (List ℕ) × List Given)
text_and_more (Array v ∷ Text t ∷ rest) = Some (t, rest)
text_and_more _ = None

-- the two arrays that stand alone
abbrev pub two_arrays : List Given → Option (ℕ × ℕ)
two_arrays (Array v ∷ Array u ∷ []) = Some (v, u)
two_arrays _ = None

-- the second of two arrays
abbrev pub second_array : List Given → Option ℕ
second_array (Array v ∷ Array u ∷ []) = Some u
second_array _ = None

-- an array, and the one argument behind it
abbrev pub array_and_one : List Given → Option (ℕ × Given)
array_and_one (Array v ∷ g ∷ []) = Some (v, g)
array_and_one _ = None

-- the second of the two arrays that stand first, and what stands behind them
abbrev pub two_and_more : List Given → Option (ℕ × List Given)
two_and_more (Array v ∷ Array u ∷ rest) = Some (u, rest)
two_and_more _ = None

-- no argument, or one or two arrays
abbrev pub few_arrays : List Given → Option (Option ℕ × Option ℕ)
few_arrays [] = Some (None, None)
few_arrays (Array v ∷ []) = Some (Some v, None)
few_arrays (Array v ∷ Array u ∷ []) = Some (Some v, Some u)
few_arrays _ = None
