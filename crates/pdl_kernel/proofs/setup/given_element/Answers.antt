use Rattle.std.proofs.Common.{◌≡◌, ap, ◌∙◌, arith, rules}
use Rattle.pdl_shape.specs.Broadcast.{cut_to}
use Rattle.pdl_shape.specs.Shape.{position_of}
use Rattle.pdl_kernel.specs.Places.{dot}
use Rattle.pdl_kernel.proofs.PlacesFound.{stretch}
use Rattle.pdl_kernel.proofs.setup.given_element.Goals as goal

pub returns : goal.returns
returns c =
    let g = c.args.given.now in
    let cs = c.args.coordinates.now in
    let s = stretch 1 g.dims cs in
    let at : c.offset.result ≡ position_of g.dims (cut_to g.dims cs) = c.offset.ensures.value ∙ ap (λ ss. dot ss cs) c.requires.strides ∙ omega (arith, s) in
    search (rules, at)
