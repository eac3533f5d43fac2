use Rattle.pdl_flow.proofs.MeaningLemmas.{arrays, same_forms, same_values, undivided}
use Rattle.pdl_flow.proofs.laws.meaning_laws.Goals as goal

pub returns : goal.returns
returns c =
    record {
      same = same_values;
      alike = same_forms c.array_laws.ensures.form;
      undivided = undivided c.array_laws.ensures.form;
      arrays = arrays c.array_laws.ensures.arrays;
    }
