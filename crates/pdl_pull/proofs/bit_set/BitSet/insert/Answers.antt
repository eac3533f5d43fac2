use Rattle.std.proofs.Common.{◌≡◌, ◌/◌, ◌%◌, ◌<◌, ◌∙◌, length, get_or, sym, ap, not, eqb, arith}
use Rattle.std.proofs.lemmas.List.{get_or_read}
use Rattle.std.specs.Int.{bit_at}
use Rattle.pdl_pull.proofs.FlagLemmas.{length-flags, get_or-flags, bit_clear, flags_of-set}
use Rattle.pdl_pull.proofs.bit_set.BitSet.insert.Goals as goal

pub index-word-requires : goal.index-word-requires
index-word-requires c =
    omega (arith, c.requires, length-flags c.self.inside.words.items c.self.inside.count, ap length c.self.view_is, c.self.invariant)

pub index_mut-requires : goal.index_mut-requires
index_mut-requires c =
    omega (arith, c.requires, length-flags c.self.inside.words.items c.self.inside.count, ap length c.self.view_is, c.self.invariant)

pub returns-clause-new : goal.returns-clause-new
returns-clause-new c =
    let words = c.self.inside.words.items in
    let n = c.self.inside.count in
    let within : c.args.number < n = omega (arith, c.requires, length-flags words n, ap length c.self.view_is) in
    let read : c.index-word.result.now ≡ get_or words (c.args.number / 64) 0 =
    get_or_read words (c.args.number / 64) _ (omega (arith, c.self.invariant)) c.index-word.ensures 0 in
    rw (← c.self.view_is)
    (bit_clear c.index-word.result.now (c.args.number % 64) (omega arith)
    ∙ ap (λ x. not (eqb (bit_at x (c.args.number % 64)) 1)) read
    ∙ ap not (sym (get_or-flags words n c.args.number within)))

pub returns-clause-after : goal.returns-clause-after
returns-clause-after c =
    let words = c.self.inside.words.items in
    let n = c.self.inside.count in
    let within : c.args.number < n = omega (arith, c.requires, length-flags words n, ap length c.self.view_is) in
    let read : c.index-word.result.now ≡ get_or words (c.args.number / 64) 0 =
    get_or_read words (c.args.number / 64) _ (omega (arith, c.self.invariant)) c.index-word.ensures 0 in
    rw (← c.self.view_is)
    (flags_of-set words n c.args.number c.index-word.result.now c.self.invariant within read)
