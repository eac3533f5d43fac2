-- Kernels (PDL::PP).
use Rattle.std.specs.Prelude.{◌≡◌, ℕ, List, Result, Ok, Err}
use Rattle.pdl_sig.specs.declared.Signature.{Signature}
use Rattle.pdl_code.specs.Fit.{IsFit, code_locals}
use Rattle.pdl_code.specs.Tree.{Code}
use Rattle.pdl_code.specs.declared.fault.KernelFault.{KernelFault}
use Rattle.pdl_code.specs.Meaning.{code_in}

-- a signature and code
pub record Kernel : Type 0 where
  pub signature : Signature
  pub code : Code

-- code speaks of what the signature has and assigns to no input, and so many locals are
-- visible at once at most
pub record IsKernel (signature : Signature) (code : Code) (locals : ℕ) : Type 0 where
  pub fit : IsFit signature code
  pub locals_are : locals ≡ code_locals 0 code

-- a kernel of this signature, where there is code
abbrev pub kernel_by : Signature → Result Code KernelFault → Result Kernel KernelFault
kernel_by signature (Ok code) = Ok (record { signature = signature; code = code })
kernel_by signature (Err fault) = Err fault

-- the kernel of a signature and a text, or why there is none
abbrev pub kernel_in : Signature → (text : List ℕ) → Result Kernel KernelFault
kernel_in signature text = kernel_by signature (code_in signature text)
