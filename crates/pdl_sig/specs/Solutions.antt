-- The equations on sizes, shapes and types that a call's resolution solves (PDL::PP, Signatures).
use Rattle.std.specs.Prelude.{◌≡◌, ◌≢◌, ℕ, ◌<◌, List, [], length, map, slice_index_or, All, Some, None}
use Rattle.std.specs.List.{Contains}
use Rattle.pdl_sig.specs.declared.Signature.{Signature}
use Rattle.pdl_sig.specs.declared.ArgShape.{ArgShape}
use Rattle.pdl_sig.specs.declared.Resolved.{Resolved}
use Rattle.pdl_sig.specs.Resolution.{generic_type, type_in, handed, cores, size_in, joined_with, shapes}

-- a core size that isn't 1 is its dimension's size
abbrev pub Fits : List ℕ → ℕ × ℕ → Type 0
Fits sizes c = c.1 ≢ 1 → c.1 ≡ size_in sizes c.0

-- a fixed dimension has its number, each core size fits, a size that is neither fixed nor 1 is that
-- of a given argument, the dimensions after the core ones join to the broadcast ones, and the types
-- and shapes are those of the rules
pub record Solves (signature : Signature) (given : List ArgShape) (resolved : Resolved)
    : Type 0 where
  pub fixed : (n k : ℕ) → slice_index_or signature.fixed n None ≡ Some k
      → size_in resolved.sizes n ≡ k
  pub fit : All (Fits resolved.sizes) (cores (handed signature.args given))
  pub own : (n : ℕ) → n < length signature.fixed → slice_index_or signature.fixed n None ≡ None
      → size_in resolved.sizes n ≢ 1
      → Contains (cores (handed signature.args given)) (n, size_in resolved.sizes n)
  pub count : length resolved.sizes ≡ length signature.fixed
  pub joined : joined_with [] (handed signature.args given) ≡ Some resolved.broadcast
  pub generic : resolved.generic ≡ generic_type signature.args given
  pub types : resolved.types ≡ map (λ a. type_in resolved.generic a.ty) signature.args
  pub shapes_are : resolved.shapes ≡ shapes resolved.sizes resolved.broadcast signature.args given
