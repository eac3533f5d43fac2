-- Arguments that are arrays, for the call of a kernel.
use Rattle.std.proofs.Common.{◌≡◌, ℕ, List, [], ◌∷◌, map, Option, Some, None, Result, Err, refl, sym, ap, subst, ◌∙◌, arith, Vec}
use Rattle.std.specs.Prelude.{All, if◌then◌else◌, is_some, option_map}
use Rattle.std.specs.Global.{Global}
use Rattle.std.proofs.lemmas.List.Elements.{All-cons}
use Rattle.pdl_buf.specs.declared.made.Made.{Made}
use Rattle.pdl_machine.specs.declared.fault.Fault.TheVariants.{UnknownFunction, WrongArguments}
use Rattle.pdl_machine.specs.Arrays.{Arrays, array_in}
use Rattle.pdl_machine.specs.Calls.{outputs_of}
use Rattle.pdl_machine.specs.Kernels.{array_seen, kernel_of, kernel_outputs, outputs_by}
use Rattle.pdl_machine.specs.Names.{KernelTexts, Names, found}
use Rattle.pdl_machine.specs.Outcome.{Seen, array}
use Rattle.pdl_machine.specs.Then.{and_more, all_of, and_then, or_fault}
use Rattle.pdl_world.specs.World.{World}
use Rattle.pdl_world.specs.Sound.{IsLive}
use Rattle.pdl_scope.specs.declared.fault.ScopeFault.{ScopeFault}
use Rattle.pdl_scope.specs.Answers.{AnswersAs}
use Rattle.pdl_scope.specs.Scope.{arrays_seen}
use Rattle.pdl_session.specs.declared.given.Given.{Given}
use Rattle.pdl_session.specs.declared.given.Given.TheVariants.{Array, Text, OfType}
use Rattle.pdl_session.specs.Arguments.{all_seen_of, array_number, AreGivenLive}

-- arguments that are all arrays are these
all_arrays : (given : List Given) (ids : List ℕ) → all_of array_number given ≡ Some ids → given ≡ map Array ids
all_arrays [] [] e = refl
all_arrays [] (v ∷ ids) e = absurd (cc)
all_arrays (Array v ∷ given) ids e = by_rest (all_of array_number given) (all_arrays given) e
  where
    by_rest : (o : Option (List ℕ)) → ((vs : List ℕ) → o ≡ Some vs → given ≡ map Array vs) → and_more (Some v) o ≡ Some ids → Array v ∷ given ≡ map Array ids
    by_rest None h e = absurd (cc)
    by_rest (Some vs) h e = (let same : v ∷ vs ≡ ids = cc in ap (λ gs. Array v ∷ gs) (h vs refl) ∙ ap (map Array) same)
all_arrays (Text t ∷ given) ids e = absurd (cc)
all_arrays (OfType ty ∷ given) ids e = absurd (cc)

-- they can be looked at
pub numbers_live : (w : World) (given : List Given) (ids : List ℕ) → AreGivenLive w given → all_of array_number given ≡ Some ids → All (IsLive w) ids
numbers_live w given ids live e = each ids (subst (λ (gs : List Given). AreGivenLive w gs) (all_arrays given ids e) live)
  where
    each : (ids : List ℕ) → AreGivenLive w (map Array ids) → All (IsLive w) ids
    each [] live = λ k d lt. absurd (omega arith)
    each (v ∷ ids) live = All-cons (IsLive w) v ids live.0 (each ids live.1)

pub arrays_told : (a : Arrays) (given : List Given) → all_of array_seen (all_seen_of a given) ≡ option_map (map (array_in a)) (all_of array_number given)
arrays_told a [] = refl
arrays_told a (Array v ∷ given) = ap (and_more (Some (array_in a v))) (arrays_told a given) ∙ by_rest (all_of array_number given)
  where
    by_rest : (o : Option (List ℕ)) → and_more (Some (array_in a v)) (option_map (map (array_in a)) o) ≡ option_map (map (array_in a)) (and_more (Some v) o)
    by_rest None = refl
    by_rest (Some vs) = refl
arrays_told a (Text t ∷ given) = refl
arrays_told a (OfType ty ∷ given) = refl

-- what a call sees of them
seen_as_arrays : (a : Arrays) (ids : List ℕ) → all_seen_of a (map Array ids) ≡ arrays_seen a ids
seen_as_arrays a [] = refl
seen_as_arrays a (v ∷ ids) = ap (λ seen. array (array_in a v) ∷ seen) (seen_as_arrays a ids)

-- the answer for the arrays is that for the arguments
pub outputs_given : (names : Names) (f : List ℕ) (wanted : ℕ) (a : Arrays) (given : List Given) (ids : List ℕ) (r : Result (Vec Made Global) ScopeFault) → all_of array_number given ≡ Some ids
    → AnswersAs (λ ms. ms.items) (outputs_of names f wanted (arrays_seen a ids)) r → AnswersAs (λ ms. ms.items) (outputs_of names f wanted (all_seen_of a given)) r
outputs_given names f wanted a given ids r all h =
    subst (λ (seen : List Seen). AnswersAs (λ (ms : Vec Made Global). ms.items) (outputs_of names f wanted seen) r) (sym (ap (all_seen_of a) (all_arrays given ids all) ∙ seen_as_arrays a ids)) h

-- an argument that is no array
pub none_given : (names : Names) (f : List ℕ) (wanted : ℕ) (a : Arrays) (given : List Given) → all_of array_number given ≡ None
    → outputs_of names f wanted (all_seen_of a given) ≡ Err (if is_some (found names.kernels f) then WrongArguments else UnknownFunction)
none_given names f wanted a given none = by_kernel (found names.kernels f)
  where
    by_kernel : (o : Option KernelTexts) → and_then (or_fault UnknownFunction o) (λ k. kernel_outputs k wanted (all_seen_of a given)) ≡ Err (if is_some o then WrongArguments else UnknownFunction)
    by_kernel None = refl
    by_kernel (Some k) = ap (λ o. and_then (or_fault WrongArguments o) (λ arrays. and_then (kernel_of k) (outputs_by wanted arrays))) (arrays_told a given ∙ ap (option_map (map (array_in a))) none)
