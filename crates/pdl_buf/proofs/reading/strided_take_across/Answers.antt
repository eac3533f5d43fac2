-- What is taken in is the window's.
use Rattle.std.proofs.Common.{◌≡◌, ◌<◌, ℕ, ℤ, pos, List, length, get_or, arith, ap, sym, subst, ◌∙◌}
use Rattle.pdl_shape.specs.Shape.{size_of}
use Rattle.pdl_shape.specs.Triple.{Triple}
use Rattle.pdl_numbers.specs.Typed.{TypedElements}
use Rattle.pdl_numbers.specs.Reads.{HasTakenAcross, across}
use Rattle.pdl_buf.specs.Window.{Window}
use Rattle.pdl_buf.proofs.reading.strided_take_across.Goals as goal

pub take_across-requires-clause-some : goal.take_across-requires-clause-some
take_across-requires-clause-some g c =
    let s = c.from.inside in
    omega (arith, c.requires.some, c.shown_laws.ensures.count s.placement s.buf.now.elems, ap (λ (w : Window). length w.elems) c.from.view_is)

pub take_across-requires-clause-within : goal.take_across-requires-clause-within
take_across-requires-clause-within g c = λ k h.
    let s = c.from.inside in
    let dims : s.placement.dims ≡ c.args.from.now.dims = ap (λ (w : Window). w.dims) c.from.view_is in
    let there : across s.placement.dims c.args.first k < length c.args.from.now.elems =
    subst (λ (ds : List ℕ). across ds c.args.first k < length c.args.from.now.elems) (sym dims) (c.requires.within k h) in
    omega (arith, there, c.shown_laws.ensures.count s.placement s.buf.now.elems, ap (λ (w : Window). length w.elems) c.from.view_is)

pub returns : goal.returns
returns g c = λ k h.
    let s = c.from.inside in
    let t : Triple = s.placement in
    let laws = c.shown_laws.ensures in
    let taken : ℤ → ℤ → ℤ = g.F.Folding.taken in
    let old : List ℤ = c.args.so_far.now in
    let dims : t.dims ≡ c.args.from.now.dims = ap (λ (w : Window). w.dims) c.from.view_is in
    let there : across t.dims c.args.first k < length c.args.from.now.elems = subst (λ (ds : List ℕ). across ds c.args.first k < length c.args.from.now.elems) (sym dims) (c.requires.within k h) in
    let inside : across t.dims c.args.first k < size_of t.dims =
    omega (arith, there, laws.count t s.buf.now.elems, ap (λ (w : Window). length w.elems) c.from.view_is) in
    let all : HasTakenAcross taken t s.buf.now.elems c.args.first old c.take_across.new.so_far =
    subst (λ (kept : TypedElements). HasTakenAcross taken t kept.elems c.args.first old c.take_across.new.so_far) c.buf.view_is c.take_across.ensures in
    all k h
    ∙ ap (taken (get_or old k (pos 0)))
    (sym (laws.element t s.buf.now.elems (across t.dims c.args.first k) inside)
    ∙ ap (λ (w : Window). get_or w.elems (across t.dims c.args.first k) (pos 0)) c.from.view_is
    ∙ ap (λ (ds : List ℕ). get_or c.args.from.now.elems (across ds c.args.first k) (pos 0)) dims)
