-- One row more.
use Rattle.std.proofs.Common.{◌≡◌, ℕ, ℤ, List, ◌+◌, ◌-◌, ◌*◌, ◌++◌, take, drop, arith, ap, ap₂, sym, ◌∙◌, append_assoc}
use Rattle.std.specs.Prelude.{flat_map}
use Rattle.pdl_print.specs.Printed.{line, widest, pieces}
use Rattle.pdl_print.proofs.PieceFronts.{begins_by, begins_then}
use Rattle.pdl_print.proofs.PrintedTexts.{flat_more}
use Rattle.pdl_print.proofs.pieces.push_rows.Goals as goal

pub loop-row-preserved : goal.loop-row-preserved
loop-row-preserved c =
    let size : ℕ = c.args.size in
    let row : ℕ = c.loop-row.row in
    let old : List ℕ = c.args.into.now.items in
    let numbers : List ℤ = c.as_slice-numbers.result.now in
    let part : List ℤ = take (c.args.rows * size) (drop c.args.first c.args.elems.now.elems) in
    let f : List ℤ → List ℕ = line c.args.indent (widest part) in
    let same : numbers ≡ part = c.as_slice-numbers.ensures.value ∙ c.in_ok-block.ensures in
    let width : c.widest_of-width.result ≡ widest part = c.widest_of-width.ensures ∙ ap widest same in
    let long : row * size + size - row * size ≡ size = omega arith in
    c.in_ok-push_line.ensures.ok
    ∙ ap₂ (λ (t : List ℕ) (w : ℕ). t ++ line c.args.indent w (take (row * size + size - row * size) (drop (row * size) numbers))) c.loop-row.invariant width
    ∙ ap₂ (λ (n : ℕ) (xs : List ℤ). (old ++ flat_map f (pieces row size part)) ++ f (take n (drop (row * size) xs))) long same
    ∙ append_assoc old (flat_map f (pieces row size part)) (f (take size (drop (row * size) part)))
    ∙ ap (λ (t : List ℕ). old ++ t) (sym (flat_more f row size part))

pub returns-in_err-push_line-clause-front : goal.returns-in_err-push_line-clause-front
returns-in_err-push_line-clause-front c = begins_then _ _ _ (begins_by _ _ _ c.loop-row.invariant) c.in_err-push_line.ensures.front

pub returns-clause-front : goal.returns-clause-front
returns-clause-front c = begins_by _ _ _ c.loop-row.invariant
