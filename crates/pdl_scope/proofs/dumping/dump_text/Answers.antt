use Rattle.std.proofs.Common.{ℕ, List, Vec, Global, Ok, Err, refl, sym, subst, ◌∙◌}
use Rattle.std.specs.List.Sorted.{IsStrictlyIncreasing}
use Rattle.pdl_machine.specs.Dumps.{lines_of, text_within}
use Rattle.pdl_scope.specs.Dumping.{of_image, name_lines, WritesLines}
use Rattle.pdl_scope.proofs.DumpingLemmas.{answers_fault, arrays_refused, begun, dump_written, ends_refused, kernels_refused, names_refused, stem_for}
use Rattle.pdl_scope.proofs.DumpingPlaces.{numbers_increase}
use Rattle.pdl_scope.proofs.dumping.dump_text.Goals as goal

pub write_names-requires-clause-ids : goal.write_names-requires-clause-ids
write_names-requires-clause-ids g c = subst IsStrictlyIncreasing (sym (c.deref-2.ensures.value ∙ c.in_ok-ids.ensures)) (numbers_increase c.args.engine.now.world c.requires)

pub returns-in_err-write-clause-text : goal.returns-in_err-write-clause-text
returns-in_err-write-clause-text g c =
    let ks = c.args.kernels.now in
    let w = c.args.engine.now.world in
    let ns = c.args.names.now.entries in
    answers_fault {T = Vec ℕ Global} (λ text. text.items) (text_within (lines_of ks w ns)) c.in_err-write.field-0.0 c.from_residual-in_err-write.result
    (kernels_refused c.lines_law.ensures ks w ns c.new-image.result c.write.new.image c.in_err-write.field-0.0 c.requires
    (begun c.new-image.result c.in_ok-stem.stem (stem_for ns) c.new-image.ensures c.in_ok-stem.ensures) c.in_err-write.ensures)
    c.from_residual-in_err-write.ensures.1

pub returns-in_err-write_arrays-clause-text : goal.returns-in_err-write_arrays-clause-text
returns-in_err-write_arrays-clause-text g c =
    let ks = c.args.kernels.now in
    let w = c.args.engine.now.world in
    let ns = c.args.names.now.entries in
    answers_fault {T = Vec ℕ Global} (λ text. text.items) (text_within (lines_of ks w ns)) c.in_err-write_arrays.field-0.0 c.from_residual-in_err-write_arrays.result
    (arrays_refused c.lines_law.ensures ks w ns c.new-image.result c.write.new.image c.write_arrays.new.image c.in_ok-write.field-0 c.in_err-write_arrays.field-0.0 c.requires
    (begun c.new-image.result c.in_ok-stem.stem (stem_for ns) c.new-image.ensures c.in_ok-stem.ensures) c.in_ok-write.ensures c.in_err-write_arrays.ensures.lines)
    c.from_residual-in_err-write_arrays.ensures.1

pub returns-in_err-write_names-clause-text : goal.returns-in_err-write_names-clause-text
returns-in_err-write_names-clause-text g c =
    let ks = c.args.kernels.now in
    let w = c.args.engine.now.world in
    let ns = c.args.names.now.entries in
    let m = c.write_arrays.new.image in
    let new = c.write_names.new.image in
    let e = c.in_err-write_names.field-0.0 in
    answers_fault {T = Vec ℕ Global} (λ text. text.items) (text_within (lines_of ks w ns)) e c.from_residual-in_err-write_names.result
    (names_refused c.lines_law.ensures ks w ns c.new-image.result c.write.new.image m new c.in_ok-write.field-0 c.in_ok-write_arrays.field-0 e c.requires
    (begun c.new-image.result c.in_ok-stem.stem (stem_for ns) c.new-image.ensures c.in_ok-stem.ensures) c.in_ok-write.ensures c.in_ok-write_arrays.ensures.lines
    (subst (λ (ids : List ℕ). WritesLines m new 0 (name_lines m.stem ids ns) (Err e)) (c.deref-2.ensures.value ∙ c.in_ok-ids.ensures) c.in_err-write_names.ensures))
    c.from_residual-in_err-write_names.ensures.1

pub returns-in_err-end-clause-text : goal.returns-in_err-end-clause-text
returns-in_err-end-clause-text g c =
    let ks = c.args.kernels.now in
    let w = c.args.engine.now.world in
    let ns = c.args.names.now.entries in
    let m = c.write_arrays.new.image in
    let new = c.write_names.new.image in
    let x = c.in_ok-write_names.field-0 in
    let why = c.in_err-end.field-0.0 in
    answers_fault {T = Vec ℕ Global} (λ text. text.items) (text_within (lines_of ks w ns)) (of_image why) c.from_residual-in_err-end.result
    (ends_refused c.lines_law.ensures ks w ns c.new-image.result c.write.new.image m new c.in_ok-write.field-0 c.in_ok-write_arrays.field-0 x why (of_image why) c.requires
    (begun c.new-image.result c.in_ok-stem.stem (stem_for ns) c.new-image.ensures c.in_ok-stem.ensures) c.in_ok-write.ensures c.in_ok-write_arrays.ensures.lines
    (subst (λ (ids : List ℕ). WritesLines m new 0 (name_lines m.stem ids ns) (Ok x)) (c.deref-2.ensures.value ∙ c.in_ok-ids.ensures) c.in_ok-write_names.ensures)
    c.in_err-end.ensures.refused refl)
    c.from_residual-in_err-end.ensures.1

pub returns-clause-text : goal.returns-clause-text
returns-clause-text g c =
    let ks = c.args.kernels.now in
    let w = c.args.engine.now.world in
    let ns = c.args.names.now.entries in
    let m = c.write_arrays.new.image in
    let new = c.write_names.new.image in
    let x = c.in_ok-write_names.field-0 in
    dump_written c.lines_law.ensures ks w ns c.new-image.result c.write.new.image m new c.in_ok-write.field-0 c.in_ok-write_arrays.field-0 x c.in_ok-end.field-0.items c.requires
    (begun c.new-image.result c.in_ok-stem.stem (stem_for ns) c.new-image.ensures c.in_ok-stem.ensures) c.in_ok-write.ensures c.in_ok-write_arrays.ensures.lines
    (subst (λ (ids : List ℕ). WritesLines m new 0 (name_lines m.stem ids ns) (Ok x)) (c.deref-2.ensures.value ∙ c.in_ok-ids.ensures) c.in_ok-write_names.ensures)
    c.in_ok-end.ensures.ok c.in_ok-end.ensures.fits
