use Rattle.pdl_syntax.proofs.GrammarArrays.{well_made}
use Rattle.pdl_syntax.proofs.RaggedStatements.{statement_clean}
use Rattle.pdl_syntax.proofs.laws.spelled_are_well_made.Goals as goal

pub returns : goal.returns
returns c source ts s h all none =
    well_made c.lists_are_arrays.ensures h (statement_clean c.ragged_is_scanned.ensures c.lists_are_arrays.ensures h none) all
