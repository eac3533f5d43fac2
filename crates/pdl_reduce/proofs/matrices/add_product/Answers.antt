-- One row more.
use Rattle.std.proofs.Common.{◌≡◌, ◌<◌, ◌+◌, ◌*◌, ◌++◌, ℕ, ℤ, pos, List, map, get_or, length, arith, ap, ap₂, sym, ◌∙◌, append_assoc}
use Rattle.std.specs.List.{range_with_len}
use Rattle.std.proofs.lemmas.List.{length-map, get_or-map}
use Rattle.std.proofs.lemmas.Nat.{div-mul-add, mod-mul-add}
use Rattle.pdl_numbers.specs.Typed.{TypedElements}
use Rattle.pdl_elem.specs.Numbers.{wrapped}
use Rattle.pdl_reduce.specs.Blocks.{product_at, sum_at}
use Rattle.pdl_reduce.proofs.BlockProducts.{range_more}
use Rattle.pdl_reduce.proofs.matrices.add_product.Goals as goal

pub loop-i-preserved : goal.loop-i-preserved
loop-i-preserved c =
    let s = c.args.sizes in
    let i : ℕ = c.loop-i.i in
    let left : List ℤ = c.args.left.now in
    let right : List ℤ = c.args.right.now in
    let P : ℕ → ℤ = product_at c.args.ty s left right in
    let row : List ℤ = c.set_row.new.row in
    let ys : List ℤ = c.wrap_all.new.numbers in
    let width : length row ≡ s.width = omega arith in
    let mapped : length (map (wrapped c.args.ty) row) ≡ length row = simp length-map in
    let size : length ys ≡ s.width = ap (λ (zs : List ℤ). length zs) c.wrap_all.ensures.value ∙ mapped ∙ width in
    let element : (j : ℕ) → j < s.width → get_or ys j (pos 0) ≡ P (i * s.width + j) = λ j h.
    ap (λ (zs : List ℤ). get_or zs j (pos 0)) c.wrap_all.ensures.value
    ∙ get_or-map (wrapped c.args.ty) row j (pos 0) (pos 0) (omega (arith, width, h))
    ∙ ap (wrapped c.args.ty) (c.set_row.ensures j h)
    ∙ c.wrapping_laws.ensures.late c.args.ty (sum_at s left right s.depth i j)
    ∙ sym (ap₂ (λ (r q : ℕ). wrapped c.args.ty (sum_at s left right s.depth r q)) (div-mul-add i s.width j h) (mod-mul-add i s.width j h)) in
    let more : i * s.width + s.width ≡ (i + 1) * s.width = omega arith in
    record {
      width = size;
      ty = ap (λ (p : TypedElements). p.ty) c.in_ok-extend.ensures.ok ∙ c.loop-i.invariant.ty;
      made = ap (λ (p : TypedElements). p.elems) c.in_ok-extend.ensures.ok ∙ ap (λ (zs : List ℤ). zs ++ ys) c.loop-i.invariant.made
          ∙ append_assoc c.args.made.now.elems (map P (range_with_len 0 (i * s.width))) ys
          ∙ ap (λ (zs : List ℤ). c.args.made.now.elems ++ zs) (sym (range_more P (i * s.width) s.width ys size element) ∙ ap (λ (n : ℕ). map P (range_with_len 0 n)) more);
    }
