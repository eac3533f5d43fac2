use Rattle.std.proofs.Common.{◌≡◌, ℕ, List, ap, subst}
use Rattle.pdl_image.specs.Image.{Image}
use Rattle.pdl_image.specs.Lines.{Line, same_line}
use Rattle.pdl_image.specs.Stems.{name_at}
use Rattle.pdl_scope.specs.Dumping.{place_from}
use Rattle.pdl_scope.proofs.DumpingLemmas.{entry_refused, entry_written}
use Rattle.pdl_scope.proofs.dumping.write_names.Goals as goal

abbrev line_of : (stem ids : List ℕ) → List ℕ × ℕ → Line
line_of stem ids n = same_line n.0 (name_at stem (place_from ids n.1 0))

pub returns-in_err-name : goal.returns-in_err-name
returns-in_err-name c =
    entry_refused c.lines_law.ensures (line_of c.args.image.now.stem c.args.ids.now) c.args.names.now.entries c.loop-index.index (c.entry-id.result.0.now, c.entry-id.result.1)
    c.args.image.now c.loop-index.image c.name.new.self tt c.in_err-name.field-0.0 c.from_residual.result
    c.entry-id.ensures c.loop-index.invariant
    (rw (← ap (λ (m : Image). m.stem) c.loop-index.invariant.0, ← c.place_of.ensures) c.in_err-name.ensures.refused) c.from_residual.ensures.1

pub loop-index-preserved : goal.loop-index-preserved
loop-index-preserved c =
    entry_written c.lines_law.ensures (line_of c.args.image.now.stem c.args.ids.now) c.args.names.now.entries c.loop-index.index (c.entry-id.result.0.now, c.entry-id.result.1)
    c.args.image.now c.loop-index.image c.name.new.self tt
    c.entry-id.ensures c.loop-index.invariant
    (rw (← ap (λ (m : Image). m.stem) c.loop-index.invariant.0, ← c.place_of.ensures) c.in_ok-name.ensures.ok)
    (rw (← ap (λ (m : Image). m.stem) c.loop-index.invariant.0, ← c.place_of.ensures) c.in_ok-name.ensures.fits)
