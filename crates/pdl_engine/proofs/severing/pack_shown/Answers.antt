use Rattle.std.proofs.Common.{◌≡◌, ◌∙◌, ℕ, length, take, drop, ap, arith}
use Rattle.std.proofs.lemmas.List.{length-append, length-drop, length-take-le}
use Rattle.pdl_engine.proofs.CutPacks.{packed_more}
use Rattle.pdl_engine.proofs.severing.pack_shown.Goals as goal

pub loop-done-preserved : goal.loop-done-preserved
loop-done-preserved c =
    let n : ℕ = c.min-size.result in
    let size : length (take n c.loop-done.block) ≡ n = length-take-le n c.loop-done.block (omega (arith, c.min-size.ensures, c.loop-done.invariant.block)) in
    let count : length c.pack_block.new.block ≡ n = c.pack_block.ensures.length ∙ size in
    record {
      inside = omega (arith, c.min-size.ensures);
      block = omega (arith, c.min-size.ensures, count, length-append c.pack_block.new.block (drop n c.loop-done.block), length-drop n c.loop-done.block, c.loop-done.invariant.block);
      ty = c.in_ok-pack_block.ensures.same_type ∙ c.loop-done.invariant.ty;
      elems = packed_more c.args.packing.now.elems c.args.window.now.elems c.loop-done.packing.elems _ c.pack_block.new.packing.elems c.loop-done.done n c.loop-done.invariant.elems
          (ap (λ k. take k (drop c.loop-done.done c.args.window.now.elems)) size) c.in_ok-pack_block.ensures.ok;
    }
