use Rattle.pdl_choice.proofs.windows.range.Goals as goal

pub returns-clause-refusal : goal.returns-clause-refusal
returns-clause-refusal c = rw (← c.dims_list.ensures.list, ← c.dims_list-2.ensures.list) c.ranged.ensures.refusal

pub returns-clause-at : goal.returns-clause-at
returns-clause-at c = rw (← c.dims_list.ensures.list, ← c.dims_list-2.ensures.list) c.ranged.ensures.at
