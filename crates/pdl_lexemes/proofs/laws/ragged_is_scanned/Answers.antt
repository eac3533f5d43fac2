use Rattle.pdl_lexemes.proofs.ListsRagged.{ragged_sound, ragged_complete, scan_past, scan_list}
use Rattle.pdl_lexemes.proofs.laws.ragged_is_scanned.Goals as goal

pub returns : goal.returns
returns c = record {
  held = λ ts. (ragged_sound ts, λ h. ragged_complete h);
  passes = scan_past;
  lists = λ ts rest shape elems h. scan_list shape elems ts rest h;
}
