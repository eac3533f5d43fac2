-- The first number, and one number more.
use Rattle.std.proofs.Common.{◌≡◌, ℕ, ℤ, pos, List, ◌<◌, ◌++◌, ◌∷◌, [], length, take, map, get_or, rules, arith, ap, ap₂, sym, ◌∙◌, FitsSigned}
use Rattle.std.proofs.lemmas.Int.{to_z-of_z}
use Rattle.std.specs.Int.{w64}
use Rattle.std.specs.List.{join_with_byte}
use Rattle.std.proofs.lemmas.Result.{on_ok_weaker}
use Rattle.std.proofs.lemmas.List.{take_all}
use Rattle.pdl_print.specs.Printed.{aligned, spaces}
use Rattle.pdl_print.proofs.PieceFronts.{begins_by, begins_then, begins_with}
use Rattle.pdl_print.proofs.PrintedTexts.{join_one, join_more, grown, closed}
use Rattle.pdl_print.proofs.pieces.push_line.Goals as goal

pub loop-i-init : goal.loop-i-init
loop-i-init c =
    let es : List ℤ = c.args.numbers.now in
    let f : ℤ → List ℕ = aligned c.args.width in
    let h : 0 < length es = c.requires in
    let fits : FitsSigned w64 (get_or es 0 (pos 0)) = search rules in
    c.in_ok-push_number.ensures.ok
    ∙ ap₂ (λ (t : List ℕ) (x : ℤ). t ++ f x) c.in_ok-push_bracket.ensures.ok (to_z-of_z w64 (get_or es 0 (pos 0)) fits)
    ∙ ap (λ (t : List ℕ). (c.args.into.now.items ++ (spaces c.args.indent ++ 91 ∷ [])) ++ t) (sym (join_one 32 f es (pos 0) h))

pub loop-i-preserved : goal.loop-i-preserved
loop-i-preserved c =
    let es : List ℤ = c.args.numbers.now in
    let f : ℤ → List ℕ = aligned c.args.width in
    let i : ℕ = c.loop-i.i in
    let start : List ℕ = c.args.into.now.items ++ (spaces c.args.indent ++ 91 ∷ []) in
    let text : List ℕ = join_with_byte 32 (map f (take i es)) in
    let h : i < length es = omega (arith, c.loop-i-test.true) in
    let fits : FitsSigned w64 (get_or es i (pos 0)) = search rules in
    c.in_ok-push_number-2.ensures.ok
    ∙ ap₂ (λ (t : List ℕ) (x : ℤ). t ++ f x) (c.in_ok-push.ensures.items ∙ ap (λ (t : List ℕ). t ++ 32 ∷ []) c.loop-i.invariant) (to_z-of_z w64 (get_or es i (pos 0)) fits)
    ∙ grown start text (32 ∷ []) (f (get_or es i (pos 0)))
    ∙ ap (λ (t : List ℕ). start ++ t) (sym (join_more 32 f es i (pos 0) (omega (arith, c.loop-i.auto.i)) h))

pub returns-clause-ok : goal.returns-clause-ok
returns-clause-ok c =
    let es : List ℤ = c.args.numbers.now in
    let start : List ℕ = spaces c.args.indent ++ 91 ∷ [] in
    let close : List ℕ = 93 ∷ 10 ∷ [] in
    let all : take c.loop-i.i es ≡ es = take_all c.loop-i.i es (omega (arith, c.loop-i-test.false)) in
    on_ok_weaker c.push_bracket-2.result (λ e. e ∙ ap (λ (t : List ℕ). t ++ close) (c.loop-i.invariant ∙ ap (λ (xs : List ℤ). (c.args.into.now.items ++ start) ++ join_with_byte 32 (map (aligned c.args.width) xs)) all)
    ∙ closed c.args.into.now.items start (join_with_byte 32 (map (aligned c.args.width) es)) close) c.push_bracket-2.ensures.ok

pub returns-in_err-push-clause-front : goal.returns-in_err-push-clause-front
returns-in_err-push-clause-front c = begins_with c.args.into.now.items _ _ _ (c.in_err-push.ensures.items ∙ c.loop-i.invariant)

pub returns-in_err-push_number-2-clause-front : goal.returns-in_err-push_number-2-clause-front
returns-in_err-push_number-2-clause-front c =
    begins_then _ _ _ (begins_then c.args.into.now.items c.loop-i.into.items _ (begins_with c.args.into.now.items _ _ _ c.loop-i.invariant) (begins_by _ _ _ c.in_ok-push.ensures.items))
    c.in_err-push_number-2.ensures.front

pub returns-clause-front : goal.returns-clause-front
returns-clause-front c = begins_then c.args.into.now.items c.loop-i.into.items _ (begins_with c.args.into.now.items _ _ _ c.loop-i.invariant) c.push_bracket-2.ensures.front
