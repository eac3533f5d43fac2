-- Why a reduction or a pairing has no result.
use Rattle.pdl_sig.specs.Resolution as call

-- Why there is no result. Where several hold, it is the one that stands first here.
pub data ReduceRefusal : Type 0 where
  mismatch : ReduceRefusal
  too_many_dims : ReduceRefusal
  too_large : ReduceRefusal
  too_much_work : ReduceRefusal
  empty_reduce : ReduceRefusal

-- the refusal that one of a call by its signature is: sizes that don't fit together are a mismatch.
-- A pairing is given two arrays and has no `[io]` argument, so two of these never come
abbrev pub refusal_of : call.Unresolved → ReduceRefusal
refusal_of call.arg_count = mismatch
refusal_of call.core_mismatch = mismatch
refusal_of call.broadcast_mismatch = mismatch
refusal_of call.stretched_in_out = mismatch
refusal_of call.too_many_dims = too_many_dims
refusal_of call.too_large = too_large
refusal_of call.too_much_work = too_much_work
