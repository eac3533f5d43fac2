-- The number is one of the target's type, and what it makes of the elements is what is written.
use Rattle.std.proofs.Common.{rules, ◌≡◌, ◌≢◌, ℕ, ℤ, pos, All, is_ok, Ok, length, map, get_or, to_z, of_z, w64, FitsSigned, refl, sym, ◌∙◌, ap, subst}
use Rattle.std.specs.Option.{is_some}
use Rattle.std.proofs.lemmas.Bool.{false≢true}
use Rattle.std.proofs.lemmas.Int.{to_z-of_z}
use Rattle.pdl_elem.specs.Types.{InRange}
use Rattle.pdl_elem.specs.declared.BinaryOp.{BinaryOp}
use Rattle.pdl_elem.specs.declared.Ty.{Ty}
use Rattle.pdl_shape.specs.Shape.{size_of}
use Rattle.pdl_numbers.specs.Updates.{updated}
use Rattle.pdl_buf.specs.Window.{Window}
use Rattle.pdl_lexemes.specs.declared.AssignOp.{AssignOp}
use Rattle.pdl_lexemes.specs.declared.AssignOp.TheVariants.{Set, With}
use Rattle.pdl_world.specs.Paths.{root_of}
use Rattle.pdl_world.specs.Windows.{base}
use Rattle.pdl_world.specs.World.{World, dims_in, elements, ty_in}
use Rattle.pdl_engine.specs.State.{State, shown_in}
use Rattle.pdl_assign.specs.Blocks.{IsOneNumber, IsUpdate, number_at, written_in}
use Rattle.pdl_assign.proofs.TypeLemmas.{number_written}
use Rattle.pdl_assign.proofs.blocks.update_of.Goals as goal

-- a sign that is no operator updates nothing
no_update : (sign : AssignOp) (e : State) (v u : ℕ) → ((op : BinaryOp) → sign ≡ With op → ⊥) → IsUpdate sign e v u → ⊥
no_update Set e v u not h = h
no_update (With op) e v u not h = not op refl

-- what is so at one type and of one window, which are these
number_is : (y t : Ty) (x s : Window) (n : ℤ) → y ≡ t → x ≡ s → IsOneNumber y x × (n ≡ number_at y x) → IsOneNumber t s × (n ≡ number_at t s)
number_is y t x s n e f h =
    subst (λ (z : Ty). IsOneNumber z s × (n ≡ number_at z s)) e (subst (λ (z : Window). IsOneNumber y z × (n ≡ number_at y z)) f h)

no_number : (y t : Ty) (x s : Window) → y ≡ t → x ≡ s → (IsOneNumber y x → ⊥) → IsOneNumber t s → ⊥
no_number y t x s e f none h = none (subst (IsOneNumber y) (sym f) (subst (λ (z : Ty). IsOneNumber z s) (sym e) h))

pub returns-in_default-clause-found : goal.returns-in_default-clause-found
returns-in_default-clause-found c = (λ h. absurd (false≢true h), λ h. absurd (no_update _ _ _ _ c.in_default.not-With h))

pub returns-then-not-stands_in_root-clause-found : goal.returns-then-not-stands_in_root-clause-found
returns-then-not-stands_in_root-clause-found c =
    let e : State = c.args.engine.now in (
      λ h. absurd (false≢true h),
      λ h.
          let by : (base e.world c.args.target ≡ root_of e.world c.args.target) × IsOneNumber (ty_in e.world c.args.target) (shown_in e c.args.source) =
          subst (λ (s : AssignOp). IsUpdate s e c.args.target c.args.source) c.in-With.is h in
          sym c.if-not-stands_in_root.true ∙ c.stands_in_root.ensures.1 by.0,
    )

pub returns-in_err-number-clause-found : goal.returns-in_err-number-clause-found
returns-in_err-number-clause-found c =
    let e : State = c.args.engine.now in (
      λ h. absurd (false≢true (sym (ap is_some c.from_residual.ensures) ∙ h)),
      λ h.
          let by : (base e.world c.args.target ≡ root_of e.world c.args.target) × IsOneNumber (ty_in e.world c.args.target) (shown_in e c.args.source) =
          subst (λ (s : AssignOp). IsUpdate s e c.args.target c.args.source) c.in-With.is h in
          absurd (no_number c.ty-ty.result (ty_in e.world c.args.target) c.lend-from.result (shown_in e c.args.source) c.ty-ty.ensures c.lend-from.ensures c.in_err-number.ensures by.1),
    )

pub returns-clause-found : goal.returns-clause-found
returns-clause-found c =
    let e : State = c.args.engine.now in
    let t : Ty = ty_in e.world c.args.target in
    let x : Window = shown_in e c.args.source in
    let n : ℤ = c.in_ok-number.number in
    let number : IsOneNumber t x × (n ≡ number_at t x) = number_is c.ty-ty.result t c.lend-from.result x n c.ty-ty.ensures c.lend-from.ensures c.in_ok-number.ensures in
    let by : (base e.world c.args.target ≡ root_of e.world c.args.target) × IsOneNumber t x = (c.stands_in_root.ensures.0 c.if-not-stands_in_root.false, number.0) in
    (λ h. subst (λ (s : AssignOp). IsUpdate s e c.args.target c.args.source) (sym c.in-With.is) by, λ h. refl)

pub returns-clause-suits : goal.returns-clause-suits
returns-clause-suits c =
    let e : State = c.args.engine.now in
    let t : Ty = ty_in e.world c.args.target in
    let x : Window = shown_in e c.args.source in
    let n : ℤ = c.in_ok-number.number in
    let number : IsOneNumber t x × (n ≡ number_at t x) = number_is c.ty-ty.result t c.lend-from.result x n c.ty-ty.ensures c.lend-from.ensures c.in_ok-number.ensures in
    let fits : FitsSigned w64 c.in_ok-number.number = search rules in
    let z : to_z w64 (of_z w64 n) ≡ number_at t x = to_z-of_z w64 n fits ∙ number.1 in
    record {
      number = subst (InRange t) (sym z) (c.wrapping_laws.ensures.in_range t (get_or x.elems 0 (pos 0)));
      divisor = λ divides. subst (λ (m : ℤ). m ≢ pos 0) (sym z) number.0.some;
    }

pub returns-clause-value : goal.returns-clause-value
returns-clause-value c =
    let e : State = c.args.engine.now in
    let w : World = e.world in
    let t : Ty = ty_in w c.args.target in
    let x : Window = shown_in e c.args.source in
    let n : ℤ = c.in_ok-number.number in
    let number : IsOneNumber t x × (n ≡ number_at t x) = number_is c.ty-ty.result t c.lend-from.result x n c.ty-ty.ensures c.lend-from.ensures c.in_ok-number.ensures in
    let fits : FitsSigned w64 c.in_ok-number.number = search rules in
    let z : to_z w64 (of_z w64 n) ≡ number_at t x = to_z-of_z w64 n fits ∙ number.1 in
    let all : All (InRange t) (elements w c.args.target) = subst (λ (y : Window). All (InRange y.ty) y.elems) c.lend-into.ensures c.strided_is_in_range.ensures in
    let long : length (elements w c.args.target) ≡ size_of (dims_in w c.args.target) =
    subst (λ (y : Window). length y.elems ≡ size_of y.dims) c.lend-into.ensures c.strided_dims-count.ensures.count in
    ap (λ (s : AssignOp). written_in s w c.args.target c.args.source) c.in-With.is
    ∙ number_written c.wrapping_laws.ensures c.shape_laws.ensures.positions c.shape_laws.ensures.cuts c.in-With.op t (ty_in w c.args.source) (dims_in w c.args.source) (dims_in w c.args.target)
    (elements w c.args.target) (elements w c.args.source) (get_or (elements w c.args.source) 0 (pos 0)) number.0.works_at all long c.requires.stretches number.0.one refl
    (ap (λ (s : AssignOp). is_ok (written_in s w c.args.target c.args.source)) (sym c.in-With.is) ∙ c.requires.never)
    ∙ ap (λ y. Ok (map (updated t (record { op = c.in-With.op; number = y })) (elements w c.args.target))) (sym z)
