-- The unpacked cells from a place on are the numbers from it on.
use Rattle.std.proofs.Common.{◌≡◌, ℕ, ◌+◌, ℤ, List, length, map, take, drop, arith, ap, ◌∙◌}
use Rattle.std.specs.Prelude.{◌-◌}
use Rattle.pdl_numbers.specs.Bytes.{number_of}
use Rattle.pdl_numbers.proofs.PlaceLists.{block_map}
use Rattle.pdl_numbers.proofs.packed.Packed.read_from.Goals as goal

pub returns : goal.returns
returns g c =
    let f : List ℕ → ℤ = number_of g.T.PackedType.ty in
    let start : ℕ = c.args.start in
    let n : ℕ = length c.args.into.now in
    let same : start + n - start ≡ n = omega arith in
    c.unpack_all.ensures ∙ ap (λ (cells : List (List ℕ)). map f (take (start + n - start) (drop start cells))) c.deref.ensures.value
    ∙ ap (λ (k : ℕ). map f (take k (drop start c.self.inside.cells.items))) same
    ∙ block_map f c.self.inside.cells.items start n ∙ ap (λ (es : List ℤ). take n (drop start es)) c.self.view_is
