use Rattle.std.proofs.Common.{◌≡◌, drop, Ok}
use Rattle.pdl_code.specs.TreeOf.{indices_of}
use Rattle.pdl_code.specs.Join.{join}
use Rattle.pdl_code.specs.Resolving.{◌>>=◌, resolve_indices}
use Rattle.pdl_code.specs.Scope.{no_flags}
use Rattle.pdl_code.proofs.resolve.+resolve.Given as goal

-- what is found, and then the rest from here on, is what all give from the start
abbrev pub invariant-indices-loop-one : goal.invariant-indices-loop-one
invariant-indices-loop-one l =
    (resolve_indices l.source l.signature (record { locals = l.locals; loops = l.loops }) l.dims l.flags l.close (indices_of (drop l.one-index l.given)) >>= λ rest. Ok (join (indices_of l.found.items) rest))
    ≡ resolve_indices l.source l.signature (record { locals = l.locals; loops = l.loops }) l.dims no_flags l.close (indices_of l.given)
