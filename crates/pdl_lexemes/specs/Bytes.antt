-- The bytes that a span names.
use Rattle.std.specs.Prelude.{ℕ, ◌-◌, List, take, drop}
use Rattle.pdl_lexemes.specs.declared.Span.{Span}

-- the bytes of a text from the span's start on and before its end
abbrev pub bytes_at : List ℕ → Span → List ℕ
bytes_at source span = take (span.to - span.from) (drop span.from source)
