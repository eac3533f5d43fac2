-- A call that is being handed its arguments.
use Rattle.std.specs.Prelude.{◌≡◌, List, [], ◌∷◌, ◌++◌, length, slice_get, Some, Ok}
use Rattle.pdl_buf.specs.Made.{array_of}
use Rattle.pdl_buf.specs.Window.{Window}
use Rattle.pdl_buf.specs.declared.made.Made.{Made}
use Rattle.pdl_sig.specs.declared.ArgShape.{ArgShape}
use Rattle.pdl_sig.specs.declared.Resolved.{Resolved}
use Rattle.pdl_sig.specs.declared.Signature.{Signature}
use Rattle.pdl_sig.specs.Resolution.{resolution}
use Rattle.pdl_kernel.specs.Kernels.{Kernel}

-- the kernel, what its arguments resolve to, and the inputs and `[io]` arguments
-- that were given so far
pub record Run : Type 0 where
  pub kernel : Kernel
  pub resolved : Resolved
  pub given : List Made

-- with one argument more: what a window shows
abbrev pub with_next : Run → Window → Run
with_next run w = record run { given = run.given ++ array_of w ∷ [] }

-- arguments of some shapes resolve to this
pub record IsResolved (signature : Signature) (resolved : Resolved) : Type 0 where
  pub shapes : List ArgShape
  pub resolves : resolution signature shapes ≡ Ok resolved

-- what a window shows is the next argument, by its type and dimensions, among shapes that
-- resolve to what was resolved
pub record IsNext (run : Run) (w : Window) : Type 0 where
  pub shapes : List ArgShape
  pub resolves : resolution run.kernel.signature shapes ≡ Ok run.resolved
  pub next : slice_get shapes (length run.given) ≡ Some (record { ty = w.ty; dims = w.dims })
