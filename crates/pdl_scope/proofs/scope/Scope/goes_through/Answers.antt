use Rattle.std.proofs.Common.{◌≡◌, ◌+◌, ◌≤◌, subst, sym, refl, arith}
use Rattle.pdl_world.specs.Sound.{IsLive}
use Rattle.pdl_engine.specs.Reading.{read_steps}
use Rattle.pdl_scope.specs.Scope.{Scope as Seen, engine_of}
use Rattle.pdl_scope.proofs.scope.Scope.goes_through.Goals as goal

pub returns-clause-spent : goal.returns-clause-spent
returns-clause-spent g c =
    let v = c.args.target in
    let u = c.args.value in
    let t = c.ready.new.engine in
    let live : IsLive c.self.inside.engine.world v = subst (λ (s : Seen). IsLive s.arrays.world v) (sym c.self.view_is) c.requires.target in
    let less : read_steps t v ≤ read_steps c.self.inside.engine v = c.ready.ensures.costs v live in
    let none : read_steps t u ≡ 0 = rw c.in_ok-ready.ensures.itself refl in
    let read = c.ready.ensures.counted in
    let P : Seen → Type 0 = λ s. c.ready.new.steps + (read_steps t v + read_steps t u) ≤ c.args.steps.now + (read_steps (engine_of s) v + read_steps (engine_of s) u) in
    subst P c.self.view_is (omega (arith, less, none, read))
