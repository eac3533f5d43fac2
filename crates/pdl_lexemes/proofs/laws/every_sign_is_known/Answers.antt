use Rattle.pdl_lexemes.proofs.TokenSigns.{sign_known}
use Rattle.pdl_lexemes.proofs.laws.every_sign_is_known.Goals as goal

pub returns : goal.returns
returns c = sign_known
