use Rattle.std.proofs.Common.{◌≡◌, ◌+◌, ◌/◌, ◌∙◌, replicate, ap, arith}
use Rattle.pdl_pull.specs.Flags.{flags_of}
use Rattle.pdl_pull.proofs.FlagLemmas.{flags_of_zeros}
use Rattle.pdl_pull.proofs.bit_set.BitSet.new.Goals as goal

pub returns : goal.returns
returns c =
    let zeros : c.in_ok-words.words.items ≡ replicate (c.args.count / 64 + 1) 0 = c.in_ok-words.ensures.items_if_clones_equal (λ y e. e) in
    ap (λ ws. flags_of ws c.args.count) zeros ∙ flags_of_zeros (c.args.count / 64 + 1) c.args.count (omega arith)
