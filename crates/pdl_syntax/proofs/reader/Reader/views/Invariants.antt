use Rattle.std.proofs.Common.{◌≡◌, ◌-◌, List, [], length, map}
use Rattle.pdl_syntax.specs.ExpressionReading.{reader}
use Rattle.pdl_syntax.specs.StatementReading.{views_at}
use Rattle.pdl_syntax.specs.StatementTree.{View, view_of}
use Rattle.pdl_lexemes.specs.Peeks.{Read}
use Rattle.pdl_syntax.proofs.reader.Reader.views.Given as goal

pub record Turns (now start : Read (List View)) : Type 0 where
  pub same : now ≡ start

abbrev pub invariant-loop : goal.invariant-loop
invariant-loop l =
    Turns (views_at l.self.source.now (reader l.self.source.now l.self.fuel) (l.end - l.counter) (map view_of l.views.items) l.rest)
    (views_at l.self.source.now (reader l.self.source.now l.self.fuel) (length l.tokens) [] l.tokens)
