use Rattle.std.proofs.Common.{◌≡◌, ◌∙◌, ap, length}
use Rattle.std.proofs.lemmas.List.FromFn.{length-map-range_with_len}
use Rattle.pdl_shape.specs.Shape.{size_of}
use Rattle.pdl_tests.proofs.arrays.window.Goals as goal

-- src/arrays.rt:70:1
pub returns-clause-count : goal.returns-clause-count
returns-clause-count g c =
    ap (λ w. length w.elems) c.strided-2.ensures.window ∙ length-map-range_with_len _ 0 (size_of c.triple.result.dims) ∙ ap (λ t. size_of t.dims) c.triple.ensures
