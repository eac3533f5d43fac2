use Rattle.std.proofs.Common.{Option, Some, sym, ap, ◌∙◌}
use Rattle.pdl_elem.specs.Tables.{found_in}
use Rattle.pdl_elem.specs.declared.Ty.{Ty}
use Rattle.pdl_lemmas.specs.Options.{choose}
use Rattle.pdl_machine.specs.declared.builtin.Builtin.TheVariants.{Told}
use Rattle.pdl_machine.specs.declared.builtin.Inquiry.TheVariants.{Convert}
use Rattle.pdl_machine.specs.Builtin.{builtins}
use Rattle.pdl_machine.proofs.builtin.builtin_named.Goals as goal

pub returns-in-None : goal.returns-in-None
returns-in-None c =
    c.found_in.ensures
    ∙ ap (λ (o : Option Ty). choose (found_in builtins c.args.name.now) (λ ty. Some (Told (Convert ty))) o)
    (sym c.in-None.is ∙ c.type_named.ensures)
