use Rattle.std.proofs.Common.{ℕ, ◌+◌, ◌-◌, ap, map, ◌∙◌}
use Rattle.std.proofs.lemmas.Result.{on_ok_weaker}
use Rattle.pdl_image.specs.Adding.{bytes_to}
use Rattle.pdl_image.specs.Dump.{as_listed}
use Rattle.pdl_image.proofs.DumpFilling.{piece_text}
use Rattle.pdl_image.proofs.lines.write_piece.Goals as goal

pub returns-clause-line : goal.returns-clause-line
returns-clause-line c =
    let listed = map as_listed c.args.numbers.now in
    on_ok_weaker c.push-2.result
    (λ e. piece_text _ _ _ _ _ _ c.args.name.now c.args.first (c.args.first + c.len.result - 1) listed
    c.in_ok-begin_elements.ensures.line c.in_ok-push.ensures.line c.in_ok-push_count.ensures.line c.in_ok-extend.ensures.line c.in_ok-push_listed.ensures.line e
    ∙ ap (λ (n : ℕ). bytes_to c.args.name.now c.args.first (c.args.first + n - 1) listed) c.len.ensures.count) c.push-2.ensures.line
