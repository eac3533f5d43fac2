use Rattle.std.proofs.Common.{◌≡◌, map, take}
use Rattle.pdl_image.specs.Stems.{taken}
use Rattle.pdl_scope.proofs.dumping.free_stem.Given as goal

-- the names before this one were seen
abbrev pub invariant-loop-index : goal.invariant-loop-index
invariant-loop-index l = l.stems ≡ taken (map (λ n. n.0) (take l.index l.names.entries))
