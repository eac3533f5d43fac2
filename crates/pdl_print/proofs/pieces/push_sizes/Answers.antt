-- One size more.
use Rattle.std.proofs.Common.{ℕ, List, ◌+◌, ◌-◌, ◌<◌, ◌++◌, ◌∷◌, [], length, take, drop, get_or, arith, ap, sym, ◌∙◌}
use Rattle.std.specs.Prelude.{decimal}
use Rattle.pdl_print.proofs.PieceFronts.{begins_by, begins_then}
use Rattle.pdl_print.proofs.PrintedTexts.{join_more, grown, rest_at}
use Rattle.pdl_print.specs.Printed.{decimals_joined}
use Rattle.pdl_print.proofs.pieces.push_sizes.Goals as goal

pub loop-size-preserved : goal.loop-size-preserved
loop-size-preserved c =
    let k : ℕ = c.loop-size.size-index in
    let xs : List ℕ = c.args.sizes.now in
    let h : k + 1 < length xs = omega (arith, c.loop-size-test.true) in
    let step = join_more c.args.byte decimal xs (k + 1) 0 (omega arith) h in
    c.in_ok-push_size-2.ensures.ok
    ∙ ap (λ (t : List ℕ). t ++ decimal (get_or (take (length xs - 1) (drop 1 xs)) k 0)) (c.in_ok-push.ensures.items ∙ ap (λ (t : List ℕ). t ++ c.args.byte ∷ []) c.loop-size.invariant)
    ∙ grown c.args.into.now.items (decimals_joined c.args.byte (take (k + 1) xs)) (c.args.byte ∷ []) (decimal (get_or (take (length xs - 1) (drop 1 xs)) k 0))
    ∙ ap (λ (n : ℕ). c.args.into.now.items ++ (decimals_joined c.args.byte (take (k + 1) xs) ++ c.args.byte ∷ decimal n)) (rest_at xs k h)
    ∙ ap (λ (t : List ℕ). c.args.into.now.items ++ t) (sym step)

pub returns-in_err-push-clause-front : goal.returns-in_err-push-clause-front
returns-in_err-push-clause-front c = begins_by _ _ _ (c.in_err-push.ensures.items ∙ c.loop-size.invariant)

pub returns-in_err-push_size-2-clause-front : goal.returns-in_err-push_size-2-clause-front
returns-in_err-push_size-2-clause-front c =
    begins_then _ _ _ (begins_then _ _ _ (begins_by _ _ _ c.loop-size.invariant) (begins_by _ _ _ c.in_ok-push.ensures.items))
    c.in_err-push_size-2.ensures.front

pub returns-clause-front : goal.returns-clause-front
returns-clause-front c = begins_by _ _ _ c.loop-size.invariant
