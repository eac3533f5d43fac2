-- The stretched window's reach and elements.
use Rattle.std.proofs.Common.{◌≡◌, List, ℕ, ℤ, length, sym, subst, ap, ap₂, ◌∙◌}
use Rattle.pdl_elem.specs.declared.Ty.{Ty}
use Rattle.pdl_shape.specs.Broadcast.{BroadcastsTo}
use Rattle.pdl_shape.specs.Stretched as meant
use Rattle.pdl_shape.specs.Triple.{Reaches, Triple}
use Rattle.pdl_buf.specs.Window.{Window}
use Rattle.pdl_numbers.specs.Shown.{shown_through}
use Rattle.pdl_buf.proofs.BroadcastStretches.{shown_stretched}
use Rattle.pdl_buf.proofs.stretching.stretched.Goals as goal

window : Ty → List ℕ → List ℤ → Window
window ty ds es = record { ty = ty; dims = ds; elems = es }

pub strided-requires : goal.strided-requires
strided-requires c =
    let n : ℕ = length c.from.inside.buf.now.elems in
    c.stretched_triple.ensures.reaches n (subst (λ (t : Triple). Reaches t n) (sym c.triple.ensures) c.from.invariant)

pub returns : goal.returns
unfolding window
returns c =
    let ty : Ty = c.from.inside.buf.now.ty in
    let t : Triple = c.triple.result.now in
    let es : List ℤ = c.from.inside.buf.now.elems in
    let js : List ℕ = c.args.dims.now in
    let seen : window ty t.dims (shown_through t es) ≡ c.args.from.now = ap (λ (t : Triple). window ty t.dims (shown_through t es)) c.triple.ensures ∙ c.from.view_is in
    let fits : BroadcastsTo t.dims js = subst (λ (w : Window). BroadcastsTo w.dims js) (sym seen) c.requires in
    let elems : shown_through c.stretched_triple.result es ≡ meant.stretched t.dims js (shown_through t es) =
    shown_stretched c.shape_laws.ensures.positions c.shape_laws.ensures.cuts t c.stretched_triple.result js es c.stretched_triple.ensures.dims fits c.stretched_triple.ensures.shows in
    c.strided-2.ensures.window
    ∙ ap₂ (λ (ds : List ℕ) (xs : List ℤ). window ty ds xs) c.stretched_triple.ensures.dims elems
    ∙ ap (λ (w : Window). window w.ty js (meant.stretched w.dims js w.elems)) seen
