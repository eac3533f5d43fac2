use Rattle.pdl_buf.proofs.TripleWholes.{shown_whole}
use Rattle.pdl_buf.proofs.lending.strided.Goals as goal

pub returns-clause-whole : goal.returns-clause-whole
returns-clause-whole c same count =
    rw c.of.ensures (shown_whole c.shape_laws.ensures.positions c.shape_laws.ensures.wholes c.args.triple.now c.args.buf.now.elems same count)
