-- The signatures of the pairings of two arrays (PDL::Primitive, inner, outer and matmult).
use Rattle.std.specs.Prelude.{ℕ, List, [], ◌∷◌, None, codes}
use Rattle.pdl_sig.specs.declared.Role.{Role}
use Rattle.pdl_sig.specs.declared.Role.TheVariants.{Input, Output}
use Rattle.pdl_sig.specs.declared.ArgType.TheVariants.{Generic}
use Rattle.pdl_sig.specs.declared.SigArg.{SigArg}
use Rattle.pdl_sig.specs.declared.Signature.{Signature}

-- an argument without a type word
abbrev pub generic_arg : List ℕ → Role → List ℕ → SigArg
generic_arg name role dims = record { name = name; role = role; ty = Generic; dims = dims }

-- `a(n); b(n); [o]c()`
abbrev pub inner : Signature
inner = record {
  args = generic_arg (codes "a") Input (0 ∷ []) ∷ generic_arg (codes "b") Input (0 ∷ [])
      ∷ generic_arg (codes "c") Output [] ∷ [];
  names = codes "n" ∷ [];
  fixed = None ∷ [];
}

-- `a(n); b(m); [o]c(n,m)`
abbrev pub outer_product : Signature
outer_product = record {
  args = generic_arg (codes "a") Input (0 ∷ []) ∷ generic_arg (codes "b") Input (1 ∷ [])
      ∷ generic_arg (codes "c") Output (0 ∷ 1 ∷ []) ∷ [];
  names = codes "n" ∷ codes "m" ∷ [];
  fixed = None ∷ None ∷ [];
}

-- `a(t,h); b(w,t); [o]c(w,h)`
abbrev pub matmult : Signature
matmult = record {
  args = generic_arg (codes "a") Input (0 ∷ 1 ∷ []) ∷ generic_arg (codes "b") Input (2 ∷ 0 ∷ [])
      ∷ generic_arg (codes "c") Output (2 ∷ 1 ∷ []) ∷ [];
  names = codes "t" ∷ codes "h" ∷ codes "w" ∷ [];
  fixed = None ∷ None ∷ None ∷ [];
}
