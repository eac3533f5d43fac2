use Rattle.std.proofs.Common.{◌∙◌, ◌-◌, ◌+◌, sym, ap, arith, add-one}
use Rattle.pdl_lemmas.specs.Numbers.{one_less}
use Rattle.pdl_lexemes.specs.ListReading.{read_part, list_reader, items_at}
use Rattle.pdl_lexemes.specs.Lists.{shared}
use Rattle.pdl_lexemes.proofs.ListTurns.{items_turn}
use Rattle.pdl_lexemes.proofs.list.+lists.Goals as goal

pub items-loop-preserved : goal.items-loop-preserved
items-loop-preserved t c =
    let lists = list_reader c.args.fuel in
    let all = c.len-end.result in
    let k = all - (c.loop.counter + 1) in
    let rest = c.in_ok-next-in-Some.after in
    let p = read_part c.loop.row.shape c.loop.row.elems.items c.loop.rest in
    let x = read_part c.in_ok-next-in-Some.next.shape c.in_ok-next-in-Some.next.elems.items rest in
    record {
      same =
          ap (λ s. items_at lists k (c.loop.count + 1) (read_part s c.joined-row.result.elems.items rest)) c.joined-row.ensures.shape
          ∙ (ap (λ es. items_at lists k (c.loop.count + 1) (read_part (shared p.shape x.shape) es rest)) c.joined-row.ensures.elems
          ∙ (ap (λ n. items_at lists k n (read_part (shared p.shape x.shape) x.elems rest)) (add-one c.loop.count)
          ∙ (sym (items_turn lists k c.loop.count p x c.in-Some.after (sym c.in-Some.ensures.rest) c.in_ok-next-in-Some.ensures.read)
          ∙ (ap (λ n. items_at lists n c.loop.count p) (sym (one_less all c.loop.counter c.loop-test.true)) ∙ c.loop.invariant.same))));
      counts = omega (arith, c.loop.invariant.counts);
    }
