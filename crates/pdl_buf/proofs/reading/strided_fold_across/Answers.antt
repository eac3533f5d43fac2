-- What is taken in is the window's.
use Rattle.std.proofs.Common.{◌≡◌, ◌<◌, ◌+◌, ℕ, ℤ, pos, List, length, get_or, arith, ap, sym, subst, ◌∙◌}
use Rattle.pdl_elem.specs.Numbers.{wrapped}
use Rattle.pdl_shape.specs.Shape.{size_of}
use Rattle.pdl_shape.specs.Triple.{Triple}
use Rattle.pdl_numbers.specs.Folds.{HasFolded, shown_across}
use Rattle.pdl_numbers.specs.Numbers.{elements_in}
use Rattle.pdl_numbers.specs.Reads.{across}
use Rattle.pdl_numbers.specs.Typed.{TypedElements}
use Rattle.pdl_buf.specs.Window.{Window}
use Rattle.pdl_buf.proofs.reading.strided_fold_across.Goals as goal

pub fold_across-requires-clause-same_type : goal.fold_across-requires-clause-same_type
fold_across-requires-clause-same_type g c =
    ap (λ (kept : TypedElements). kept.ty) c.buf.view_is ∙ ap (λ (w : Window). w.ty) c.from.view_is ∙ sym c.requires.typed

pub fold_across-requires-clause-some : goal.fold_across-requires-clause-some
fold_across-requires-clause-some g c =
    let s = c.from.inside in
    omega (arith, c.requires.some, c.shown_laws.ensures.count s.placement s.buf.now.elems, ap (λ (w : Window). length w.elems) c.from.view_is)

pub fold_across-requires-clause-within : goal.fold_across-requires-clause-within
fold_across-requires-clause-within g c = λ k h.
    let s = c.from.inside in
    let dims : s.placement.dims ≡ c.args.from.now.dims = ap (λ (w : Window). w.dims) c.from.view_is in
    let there : across s.placement.dims c.args.first k < length c.args.from.now.elems =
    subst (λ (ds : List ℕ). across ds c.args.first k < length c.args.from.now.elems) (sym dims) (c.requires.within k h) in
    omega (arith, there, c.shown_laws.ensures.count s.placement s.buf.now.elems, ap (λ (w : Window). length w.elems) c.from.view_is)

pub returns-clause-value : goal.returns-clause-value
returns-clause-value g c =
    let s = c.from.inside in
    let t : Triple = s.placement in
    let laws = c.shown_laws.ensures in
    let f : ℤ → ℤ → ℤ = g.F.Folding.taken in
    let old : TypedElements = elements_in c.args.into.now in
    let new : TypedElements = elements_in c.fold_across.new.self in
    let dims : t.dims ≡ c.args.from.now.dims = ap (λ (w : Window). w.dims) c.from.view_is in
    let all : HasFolded old.ty f (shown_across t s.buf.now.elems c.args.first) c.args.start c.args.count old.elems new.elems =
    subst (λ (kept : TypedElements). HasFolded old.ty f (shown_across t kept.elems c.args.first) c.args.start c.args.count old.elems new.elems) c.buf.view_is c.fold_across.ensures.value in
    record {
      as_many = all.as_many;
      taken = λ k h.
          let there : across t.dims c.args.first k < length c.args.from.now.elems = subst (λ (ds : List ℕ). across ds c.args.first k < length c.args.from.now.elems) (sym dims) (c.requires.within k h) in
          let inside : across t.dims c.args.first k < size_of t.dims =
          omega (arith, there, laws.count t s.buf.now.elems, ap (λ (w : Window). length w.elems) c.from.view_is) in
          all.taken k h
          ∙ ap (λ (x : ℤ). wrapped old.ty (f (get_or old.elems (c.args.start + k) (pos 0)) x))
          (sym (laws.element t s.buf.now.elems (across t.dims c.args.first k) inside)
          ∙ ap (λ (w : Window). get_or w.elems (across t.dims c.args.first k) (pos 0)) c.from.view_is
          ∙ ap (λ (ds : List ℕ). get_or c.args.from.now.elems (across ds c.args.first k) (pos 0)) dims);
      before = all.before;
      after = all.after;
    }
