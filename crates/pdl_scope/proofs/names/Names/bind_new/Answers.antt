use Rattle.std.proofs.Common.{◌≡◌, ◌<◌, Result, Ok, OnOk, Option, ℕ, length, nat_eq, sym, ap, subst, ◌∙◌, arith}
use Rattle.std.specs.Cmp.Lexicographic.{pointwise}
use Rattle.indexmap.specs.IndexMap.{insert_entry}
use Rattle.pdl_machine.specs.declared.fault.Fault.TheVariants.{TooManyNames}
use Rattle.pdl_machine.specs.Names.{entered, names_limit}
use Rattle.pdl_scope.specs.declared.fault.ScopeFault.{ScopeFault}
use Rattle.pdl_scope.specs.Room.{Table}
use Rattle.pdl_scope.proofs.ScopeNames.{bind_unbound}
use Rattle.pdl_scope.proofs.names.Names.bind_new.Goals as goal
use Rattle.pdl_scope.proofs.names.Names.bind_new.Goals.{in-Ok, in-Err}

pub returns-clause-ok : goal.returns-clause-ok
returns-clause-ok c =
    let P : Result (Option ℕ) ScopeFault → Type 0 = λ r. OnOk r (entered names_limit TooManyNames c.args.self.now.entries c.args.name.now c.args.id ≡ Ok c.insert.new.self.entries) in
    let few : length c.args.self.now.entries < 512 = omega (arith, c.if-len-ge-MOST_NAMES.false, c.len.ensures.len, ap (λ (t : Table). length t.entries) c.self.view_is) in
    elim c.match-insert.branch [
      | in-Ok w ↦ subst P (sym w.result-is) (bind_unbound names_limit TooManyNames c.args.self.now.entries c.insert.new.self.entries c.args.name.now c.in_ok-clone.field-0 c.args.id c.requires few c.in_ok-clone.ensures.cases (w.in-Ok.ensures.entries ∙ ap (λ (t : Table). insert_entry (pointwise nat_eq) t.entries c.in_ok-clone.field-0 c.args.id) c.self.view_is))
      | in-Err w ↦ subst P (sym w.result-is) tt
    ]
