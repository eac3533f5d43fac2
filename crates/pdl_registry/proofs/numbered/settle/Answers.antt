use Rattle.std.proofs.Common.{◌≡◌, ◌<◌, ◌≤◌, ◌++◌, length, reverse, sym, ◌∙◌, ap, subst, arith}
use Rattle.std.proofs.lemmas.List.Edits.{length-remove}
use Rattle.std.specs.BTreeMap.{insert_entry}
use Rattle.std.specs.List.{remove}
use Rattle.std.specs.Ordering.{flip_args, nat_cmp}
use Rattle.pdl_registry.specs.Numbered.{most_newest}
use Rattle.pdl_registry.proofs.numbered.settle.Goals as goal
use Rattle.pdl_registry.proofs.NumberedLemmas.{first_moved}

pub returns-clause-same : goal.returns-clause-same
returns-clause-same g c =
    let es = c.args.settled.now.entries in
    let fs = c.args.newest.now.items in
    let moved : reverse (insert_entry (flip_args nat_cmp) es c.index.result.now.0 c.index.result.now.1) ++ remove fs 0 ≡ reverse es ++ fs = subst (λ f. reverse (insert_entry (flip_args nat_cmp) es f.0 f.1) ++ remove fs 0 ≡ reverse es ++ fs) (sym c.index.ensures) (first_moved es fs c.index.result.now (omega (arith, c.if-len-lt-MOST_NEWEST.false, c.len.ensures)) c.requires.rises) in
    ap (λ l. reverse l ++ c.remove.new.self.items) (c.in_ok-insert.ensures.entries ∙ ap (λ n. insert_entry (flip_args nat_cmp) es n c.index.result.now.1) c.of.ensures) ∙ ap (λ l. reverse (insert_entry (flip_args nat_cmp) es c.index.result.now.0 c.index.result.now.1) ++ l) c.remove.ensures.items ∙ moved

pub returns-clause-room : goal.returns-clause-room
returns-clause-room g c =
    let fs = c.args.newest.now.items in
    subst (λ l. length l < most_newest) (sym c.remove.ensures.items) (omega (arith, length-remove fs 0 (omega (arith, c.if-len-lt-MOST_NEWEST.false, c.len.ensures)), c.requires.few))

pub returns-clause-few : goal.returns-clause-few
returns-clause-few g c =
    let fs = c.args.newest.now.items in
    subst (λ l. length l ≤ most_newest) (sym c.remove.ensures.items) (omega (arith, length-remove fs 0 (omega (arith, c.if-len-lt-MOST_NEWEST.false, c.len.ensures)), c.requires.few))
