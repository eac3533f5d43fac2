use Rattle.std.proofs.Common.{ℕ, List}
use Rattle.pdl_image.specs.Lines.{Line}
use Rattle.pdl_image.specs.Dump.{definition_line}
use Rattle.pdl_machine.specs.Dumps.{definition}
use Rattle.pdl_machine.specs.Kernels.{texts_of}
use Rattle.pdl_machine.specs.Names.{KernelTexts}
use Rattle.pdl_scope.proofs.DumpingLemmas.{entry_refused, entry_written}
use Rattle.pdl_scope.proofs.kernels.Kernels.write.Goals as goal

abbrev line_of : List ℕ × KernelTexts → Line
line_of k = definition_line (definition k)

pub returns-in_err-kernel : goal.returns-in_err-kernel
returns-in_err-kernel c =
    entry_refused c.lines_law.ensures line_of c.args.self.now c.loop-index.index (c.entry.result.0.now, texts_of c.defined.inside.signature c.defined.inside.code)
    c.args.image.now c.loop-index.image c.kernel.new.self tt c.in_err-kernel.field-0.0 c.from_residual.result
    (cc (c.entry.ensures, c.defined.view_is)) c.loop-index.invariant c.in_err-kernel.ensures.refused c.from_residual.ensures.1

pub loop-index-preserved : goal.loop-index-preserved
loop-index-preserved c =
    entry_written c.lines_law.ensures line_of c.args.self.now c.loop-index.index (c.entry.result.0.now, texts_of c.defined.inside.signature c.defined.inside.code)
    c.args.image.now c.loop-index.image c.kernel.new.self tt
    (cc (c.entry.ensures, c.defined.view_is)) c.loop-index.invariant c.in_ok-kernel.ensures.ok c.in_ok-kernel.ensures.fits
