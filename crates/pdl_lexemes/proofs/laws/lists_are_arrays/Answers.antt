use Rattle.pdl_lexemes.proofs.ListArrays.{list_array}
use Rattle.pdl_lexemes.proofs.laws.lists_are_arrays.Goals as goal

pub returns : goal.returns
returns c ts rest shape elems h = list_array h
