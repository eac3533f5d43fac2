use Rattle.std.proofs.Common.{◌≡◌, ℕ, List, ◌++◌, ◌+◌, ◌-◌, ◌/◌, suc, sym, ap, ◌∙◌, arith, append_assoc}
use Rattle.pdl_shell.specs.Generated.{next_seed, round_line, round_lines}
use Rattle.pdl_shell.proofs.generated.generated_script.Goals as goal

-- a script, the line of a round and the lines after it
with_line : (script line now : List ℕ) (seed next left rest : ℕ) (whole : List ℕ) → script ++ round_lines seed left ≡ whole → left ≡ suc rest
    → line ≡ round_line (seed / 65536) → now ≡ script ++ line → next ≡ next_seed seed → now ++ round_lines next rest ≡ whole
with_line script line now seed next left rest whole all more is grown seeds =
    rw (grown, seeds, is) (append_assoc script (round_line (seed / 65536)) (round_lines (next_seed seed) rest) ∙ ap (λ n. script ++ round_lines seed n) (sym more) ∙ all)

pub making-preserved : goal.making-preserved
making-preserved c = record {
  whole =
      let left : c.args.rounds - c.making._round ≡ suc (c.args.rounds - (c.making._round + 1)) = omega (arith, c.making-test.true) in
      with_line c.making.script.items c.as_bytes.result.now c.extend_from_slice-in-making.new.self.items c.making.seed c.next_seed-seed-in-making.result
      (c.args.rounds - c.making._round) (c.args.rounds - (c.making._round + 1)) _ c.making.invariant.whole left
      (c.as_bytes.ensures.value ∙ c.in_ok-line.ensures) c.in_ok-extend_from_slice-2.ensures.items c.next_seed-seed-in-making.ensures.next;
  small = c.next_seed-seed-in-making.ensures.small;
}
