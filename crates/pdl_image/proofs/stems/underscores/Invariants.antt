use Rattle.std.proofs.Common.{◌≡◌, ◌+◌, drop}
use Rattle.std.specs.Prelude.{option_map}
use Rattle.pdl_image.specs.Stems.{underscores}
use Rattle.pdl_image.proofs.stems.underscores.Given as goal

-- all bytes before this one were underscores
abbrev pub invariant-loop-count : goal.invariant-loop-count
invariant-loop-count l = underscores l.bytes ≡ option_map (λ n. l.count + n) (underscores (drop l.count l.bytes))
