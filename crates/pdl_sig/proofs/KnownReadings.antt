-- The signatures of the pairings are those of their texts.
use Rattle.std.proofs.Common.{◌≡◌, ℕ, List, [], ◌∷◌, Some, None, refl}
use Rattle.std.specs.Prelude.{codes}
use Rattle.pdl_sig.specs.declared.Role.{Role}
use Rattle.pdl_sig.specs.declared.Role.TheVariants.{Input, Output}
use Rattle.pdl_sig.specs.declared.ArgType.TheVariants.{Generic}
use Rattle.pdl_sig.specs.declared.written.WrittenDim.{WrittenDim}
use Rattle.pdl_sig.specs.declared.written.WrittenArg.{WrittenArg}
use Rattle.pdl_sig.specs.SignatureReading.{sign_at, word_at, number_at, typed_at, marked_at, sized_at, dim_at, dims_at, bracket_at, arg_at, args_at, read_args}
use Rattle.pdl_sig.specs.Refusals.{Signs}
use Rattle.pdl_sig.specs.Known.{inner, outer_product, matmult}
use Rattle.pdl_sig.proofs.GrammarSound.{args_spelled}

abbrev dim : List ℕ → WrittenDim
dim w = record { name = w; size = None }

abbrev arg : List ℕ → Role → List WrittenDim → WrittenArg
arg w r ds = record { name = w; role = r; ty = Generic; dims = ds }

abbrev inner_args : List WrittenArg
inner_args = arg (codes "a") Input (dim (codes "n") ∷ []) ∷ arg (codes "b") Input (dim (codes "n") ∷ []) ∷ arg (codes "c") Output [] ∷ []

inner_read : read_args (codes "a(n); b(n); [o]c()") ≡ Some inner_args
unfolding sign_at word_at number_at typed_at marked_at sized_at dim_at dims_at bracket_at arg_at args_at
inner_read = refl

pub inner_signs : Signs inner (codes "a(n); b(n); [o]c()")
inner_signs = record {
  args = inner_args;
  spelled = args_spelled 18 (codes "a(n); b(n); [o]c()") inner_args inner_read;
  meant = refl;
  allowed = refl;
}

abbrev outer_args : List WrittenArg
outer_args = arg (codes "a") Input (dim (codes "n") ∷ []) ∷ arg (codes "b") Input (dim (codes "m") ∷ []) ∷ arg (codes "c") Output (dim (codes "n") ∷ dim (codes "m") ∷ []) ∷ []

outer_read : read_args (codes "a(n); b(m); [o]c(n,m)") ≡ Some outer_args
unfolding sign_at word_at number_at typed_at marked_at sized_at dim_at dims_at bracket_at arg_at args_at
outer_read = refl

pub outer_signs : Signs outer_product (codes "a(n); b(m); [o]c(n,m)")
outer_signs = record {
  args = outer_args;
  spelled = args_spelled 21 (codes "a(n); b(m); [o]c(n,m)") outer_args outer_read;
  meant = refl;
  allowed = refl;
}

abbrev matmult_args : List WrittenArg
matmult_args =
    arg (codes "a") Input (dim (codes "t") ∷ dim (codes "h") ∷ []) ∷ arg (codes "b") Input (dim (codes "w") ∷ dim (codes "t") ∷ [])
    ∷ arg (codes "c") Output (dim (codes "w") ∷ dim (codes "h") ∷ []) ∷ []

matmult_read : read_args (codes "a(t,h); b(w,t); [o]c(w,h)") ≡ Some matmult_args
unfolding sign_at word_at number_at typed_at marked_at sized_at dim_at dims_at bracket_at arg_at args_at
matmult_read = refl

pub matmult_signs : Signs matmult (codes "a(t,h); b(w,t); [o]c(w,h)")
matmult_signs = record {
  args = matmult_args;
  spelled = args_spelled 25 (codes "a(t,h); b(w,t); [o]c(w,h)") matmult_args matmult_read;
  meant = refl;
  allowed = refl;
}
