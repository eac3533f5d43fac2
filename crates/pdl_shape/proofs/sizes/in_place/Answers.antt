-- What was put so far, and the room that is left.
use Rattle.std.proofs.Common.{◌≡◌, ◌++◌, ◌∷◌, [], length, take, ap, sym, ◌∙◌, arith, rules}
use Rattle.std.proofs.lemmas.List.{take_more, take_all, length-take-le}
use Rattle.pdl_shape.proofs.sizes.in_place.Goals as goal

pub push_reserved-requires : goal.push_reserved-requires
push_reserved-requires g c =
    let put : length c.loop-number.copied.items ≡ c.loop-number.number-index = ap length c.loop-number.invariant.put ∙ length-take-le c.loop-number.number-index c.args.numbers.now c.loop-number.auto.number-index-end in
    (search rules, omega arith)

pub loop-number-preserved : goal.loop-number-preserved
loop-number-preserved g c = record {
  put = c.push_reserved.ensures.items ∙ ap (λ xs. xs ++ c.number-item.result ∷ []) c.loop-number.invariant.put
      ∙ ap (λ x. take c.loop-number.number-index c.args.numbers.now ++ x ∷ []) c.number-item.is
      ∙ sym (take_more c.args.numbers.now c.loop-number.number-index c.number-item.result c.loop-number-test.true);
  room = c.push_reserved.ensures.capacity ∙ c.loop-number.invariant.room;
}

pub returns : goal.returns
returns g c = c.loop-number.invariant.put ∙ take_all c.loop-number.number-index c.args.numbers.now c.loop-number-test.false
