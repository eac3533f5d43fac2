use Rattle.std.proofs.Common.{ℕ, ◌+◌, take, drop, ap, ◌∙◌}
use Rattle.pdl_image.specs.Adding.{kept_numbers}
use Rattle.pdl_image.proofs.DumpParts.{cut_is}
use Rattle.pdl_image.proofs.content.Content.cut.Goals as goal

pub returns : goal.returns
returns c =
    let kept = kept_numbers c.self.inside.kept in
    ap (λ (n : ℕ). take n (drop (c.self.inside.first + c.min-before.result) kept)) c.min.ensures
    ∙ cut_is kept c.self.inside.first c.self.inside.count c.args.first c.args.most c.min-before.result c.min-before.ensures
    ∙ ap (λ ns. take c.args.most (drop c.args.first ns)) c.self.view_is
