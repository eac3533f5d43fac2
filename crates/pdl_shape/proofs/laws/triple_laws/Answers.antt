use Rattle.pdl_shape.proofs.TripleWholes.{IsTriple-whole}
use Rattle.pdl_shape.proofs.laws.triple_laws.Goals as goal

pub returns : goal.returns
returns c = record { wholes = λ ds d. IsTriple-whole ds d.within }
