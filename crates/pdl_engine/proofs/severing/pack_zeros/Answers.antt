use Rattle.std.proofs.Common.{◌∙◌, ℕ, take, min, ap, arith}
use Rattle.pdl_numbers.specs.Typed.{TypedElements}
use Rattle.pdl_engine.proofs.CutPacks.{zeros_more}
use Rattle.pdl_engine.proofs.severing.pack_zeros.Goals as goal

pub loop-done-preserved : goal.loop-done-preserved
loop-done-preserved c =
    let n : ℕ = c.min-size.result in
    record {
      inside = omega (arith, c.min-size.ensures);
      zeros = c.loop-done.invariant.zeros;
      ty = ap (λ (p : TypedElements). p.ty) c.in_ok-extend.ensures.ok ∙ c.loop-done.invariant.ty;
      elems = zeros_more c.args.packing.now.elems c.loop-done.packing.elems _ c.extend.new.self.elems c.loop-done.done n (min c.args.count 512) (omega (arith, c.min-size.ensures)) c.loop-done.invariant.elems
          (ap (take n) (c.deref.ensures.value ∙ c.loop-done.invariant.zeros)) (ap (λ (p : TypedElements). p.elems) c.in_ok-extend.ensures.ok);
    }
