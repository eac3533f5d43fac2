use Rattle.std.proofs.Common.{◌∙◌, ap, sym}
use Rattle.pdl_kernel.specs.Setup.{start_elems}
use Rattle.pdl_kernel.proofs.SetupLaid.{zeros_are}
use Rattle.pdl_kernel.proofs.setup.start_elems.Goals as goal

pub returns-in_ok-zeros-in-None : goal.returns-in_ok-zeros-in-None
returns-in_ok-zeros-in-None c = c.in_ok-zeros-in-None.ensures ∙ zeros_are c.args.ty c.args.shape.now c.elements_of.result c.elements_of.ensures.count ∙ ap (start_elems c.args.ty c.args.shape.now) (sym c.in-None.is)
