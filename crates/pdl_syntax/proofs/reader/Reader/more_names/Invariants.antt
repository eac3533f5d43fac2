use Rattle.std.proofs.Common.{◌≡◌, ℕ, ◌-◌, List, length}
use Rattle.pdl_syntax.specs.StatementReading.{names_at}
use Rattle.pdl_lexemes.specs.Peeks.{Read}
use Rattle.pdl_syntax.proofs.reader.Reader.more_names.Given as goal

pub record Turns (now start : Read (List (List ℕ))) : Type 0 where
  pub same : now ≡ start

abbrev pub invariant-loop : goal.invariant-loop
invariant-loop l =
    Turns (names_at l.self.source.now (l.end - l.counter) l.names.items l.rest) (names_at l.self.source.now (length l.tokens) l.fn.first.items l.tokens)
