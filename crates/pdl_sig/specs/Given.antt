-- What a call by a signature is given of an array.
use Rattle.pdl_buf.specs.declared.made.Made.{Made}
use Rattle.pdl_sig.specs.declared.ArgShape.{ArgShape}

-- an array's type and dimensions
abbrev pub shape_of : Made → ArgShape
shape_of a = record { ty = a.ty; dims = a.dims }
