-- Texts that begin with what was there before.
use Rattle.std.proofs.Common.{◌≡◌, ℕ, List, ◌++◌, ap, ◌∙◌, append_assoc}
use Rattle.pdl_print.specs.Pieces.{Begins}

pub begins_by : (text more new : List ℕ) → new ≡ text ++ more → Begins text new
begins_by text more new e = record { rest = more; is = e }

-- a start and more text after what was there
pub begins_with : (text start more new : List ℕ) → new ≡ (text ++ start) ++ more → Begins text new
begins_with text start more new e = begins_by text (start ++ more) new (e ∙ append_assoc text start more)

pub begins_then : (front text new : List ℕ) → Begins front text → Begins text new → Begins front new
begins_then front text new a b = begins_with front a.rest b.rest new (b.is ∙ ap (λ t. t ++ b.rest) a.is)
