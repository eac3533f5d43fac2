use Rattle.pdl_numbers.proofs.PrefixLemmas.{prefixes}
use Rattle.pdl_numbers.proofs.laws.prefix_laws.Goals as goal

pub returns : goal.returns
returns c = prefixes
