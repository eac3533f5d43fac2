use Rattle.std.proofs.Common.{◌≡◌, ◌<◌, ◌^◌, ◌++◌, ◌-◌}
use Rattle.pdl_shell.specs.Generated.{first_lines, next_seed, round_lines}
use Rattle.pdl_shell.proofs.generated.generated_script.Given as goal

-- with the lines that are still to come it is the whole script
abbrev pub invariant-making : goal.invariant-making
invariant-making l = record {
  whole : l.script.items ++ round_lines l.seed (l.rounds - l._round) ≡ first_lines ++ round_lines (next_seed 1) l.rounds;
  small : l.seed < 2 ^ 31;
}
