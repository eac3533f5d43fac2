-- What the name of a call stands for.
use Rattle.std.proofs.Common.{◌≡◌, ℕ, List, Option, Some, None, Result, refl, ap, ◌∙◌}
use Rattle.pdl_buf.specs.declared.made.Made.{Made}
use Rattle.pdl_machine.specs.declared.builtin.Builtin.{Builtin}
use Rattle.pdl_machine.specs.declared.fault.Fault.{Fault}
use Rattle.pdl_machine.specs.declared.fault.Fault.TheVariants.{UnknownFunction}
use Rattle.pdl_machine.specs.Arrays.{Arrays}
use Rattle.pdl_machine.specs.Builtin.{builtin_of}
use Rattle.pdl_machine.specs.Calls.{builtin_value, callee_among, callee_of, only_root, outputs_of, several, value_by, call_value}
use Rattle.pdl_machine.specs.Kernels.{kernel_outputs}
use Rattle.pdl_machine.specs.Names.{KernelTexts, Names, found}
use Rattle.pdl_machine.specs.Outcome.{Given as Argument, Seen, Valued}
use Rattle.pdl_machine.specs.Then.{and_then, or_fault}
use Rattle.pdl_session.specs.declared.given.Given.{Given}
use Rattle.pdl_session.specs.Arguments.{arguments, all_seen_of}

abbrev value_among : Option KernelTexts → Arrays → List Argument → Option Builtin → Valued
value_among k a given b = and_then (or_fault UnknownFunction (callee_among b k)) (value_by a given)

abbrev several_among : Option KernelTexts → ℕ → List Seen → Option Builtin → Result (List Made) Fault
several_among k wanted seen b = and_then (or_fault UnknownFunction (callee_among b k)) (several wanted seen)

-- the name of a built-in call
pub builtin_called : (names : Names) (f : List ℕ) (a : Arrays) (given : List Given) (b : Builtin) → builtin_of f ≡ Some b → call_value names f a (arguments given) ≡ builtin_value b a (arguments given)
builtin_called names f a given b some = ap (value_among (found names.kernels f) a (arguments given)) some

-- the name of a kernel, or of nothing
pub kernel_called : (names : Names) (f : List ℕ) (a : Arrays) (given : List Given) → builtin_of f ≡ None
    → call_value names f a (arguments given) ≡ and_then (outputs_of names f 1 (all_seen_of a given)) (only_root a)
kernel_called names f a given none = ap (value_among (found names.kernels f) a (arguments given)) none ∙ by_kernel (found names.kernels f)
  where
    by_kernel : (k : Option KernelTexts) → value_among k a (arguments given) None ≡ and_then (and_then (or_fault UnknownFunction k) (λ k. kernel_outputs k 1 (all_seen_of a given))) (only_root a)
    by_kernel None = refl
    by_kernel (Some k) = refl

pub kernel_several : (names : Names) (f : List ℕ) (wanted : ℕ) (seen : List Seen) → builtin_of f ≡ None → and_then (callee_of names f) (several wanted seen) ≡ outputs_of names f wanted seen
kernel_several names f wanted seen none = ap (several_among (found names.kernels f) wanted seen) none ∙ by_kernel (found names.kernels f)
  where
    by_kernel : (k : Option KernelTexts) → several_among k wanted seen None ≡ and_then (or_fault UnknownFunction k) (λ k. kernel_outputs k wanted seen)
    by_kernel None = refl
    by_kernel (Some k) = refl
