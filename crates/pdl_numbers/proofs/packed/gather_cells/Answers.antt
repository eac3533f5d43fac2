-- One part more of the cells are those at their places, and the last part at the end.
use Rattle.std.proofs.Common.{◌≡◌, ◌+◌, ◌-◌, ◌≤◌, ℕ, ℤ, pos, List, ◌++◌, All, length, map, take, drop, rules, arith, ap, ap₂, sym, subst, ◌∙◌, length-drop}
use Rattle.std.specs.Prelude.{Option}
use Rattle.std.proofs.lemmas.List.{drop-drop, length-map, length-take-le, map-append, take_all}
use Rattle.std.proofs.lemmas.List.Elements.{All-drop, All-take}
use Rattle.std.proofs.lemmas.Slice.{drop-put_mid, take-put_mid}
use Rattle.std.proofs.Math.Seq.{take-add}
use Rattle.pdl_elem.specs.declared.Ty.{Ty}
use Rattle.pdl_shape.specs.Places.{element_at, read}
use Rattle.pdl_numbers.specs.Bytes.{bytes_of, number_of}
use Rattle.pdl_numbers.proofs.PlaceLists.{block_map}
use Rattle.pdl_numbers.proofs.packed.gather_cells.Goals as goal
use borrow.Rule.Slice.PartMut.{put_mid, same_len_mid}

-- the cells before a part, and those of the part
parts_gathered : (t : Ty) (es : List ℤ) (ps : List (Option ℕ)) (front part : List (List ℕ)) (i n : ℕ) → front ≡ map (bytes_of t) (take i (read ps es))
    → part ≡ map (bytes_of t) (read (take n (drop i ps)) es) → front ++ part ≡ map (bytes_of t) (take (i + n) (read ps es))
parts_gathered t es ps front part i n f p =
    ap₂ (λ (xs ys : List (List ℕ)). xs ++ ys) f (p ∙ ap (map (bytes_of t)) (block_map (element_at es) ps i n))
    ∙ sym (map-append (bytes_of t) (take i (read ps es)) (take n (drop i (read ps es))))
    ∙ ap (map (bytes_of t)) (sym (take-add i n (read ps es)))

-- cells of a part that still stands
part_zeros : (P : List ℕ → Type 0) (now old : List (List ℕ)) (i n : ℕ) → All P old → drop i now ≡ drop i old → All P (take n (drop i now))
part_zeros P now old i n all e = All-take P n (drop i now) (subst (All P) (sym e) (All-drop P i old all))

pub gather_part-requires : goal.gather_part-requires
gather_part-requires g c =
    let t : Ty = g.T.PackedType.ty in
    let i : ℕ = c.loop-cells.done in
    let n : ℕ = i + 16 - i in
    let cells : List (List ℕ) = c.loop-cells.cells in
    let ps : List (Option ℕ) = c.args.places.now in
    let fits : i + n ≤ length cells = omega (arith, c.loop-cells-test.true) in
    let part : length (take n (drop i cells)) ≡ n = length-take-le n (drop i cells) (omega (arith, fits, length-drop i cells)) in
    let places : length (take n (drop i ps)) ≡ n = length-take-le n (drop i ps) (omega (arith, fits, length-drop i ps, c.loop-cells.invariant.kept, c.requires.paired)) in
    (search rules, (part ∙ sym places, (part_zeros (λ cell. cell ≡ bytes_of t (pos 0)) cells c.args.cells.now i n c.requires.zeros c.loop-cells.invariant.left, c.requires.packed)))

pub loop-cells-preserved : goal.loop-cells-preserved
loop-cells-preserved g c =
    let t : Ty = g.T.PackedType.ty in
    let es : List ℤ = map (number_of t) c.args.from.now in
    let ps : List (Option ℕ) = c.args.places.now in
    let i : ℕ = c.loop-cells.done in
    let n : ℕ = i + 16 - i in
    let cells : List (List ℕ) = c.loop-cells.cells in
    let part : List (List ℕ) = c.gather_part.new.cells in
    let sixteen : n ≡ 16 = omega arith in
    let fits : i + n ≤ length cells = omega (arith, c.loop-cells-test.true) in
    let part_of : length (take n (drop i cells)) ≡ n = length-take-le n (drop i cells) (omega (arith, fits, length-drop i cells)) in
    let long : length part ≡ n = c.gather_part.auto.cells ∙ part_of in
    record {
      kept = same_len_mid i n cells part c.gather_part.auto.cells ∙ c.loop-cells.invariant.kept;
      inside = omega (arith, fits, c.loop-cells.invariant.kept);
      gathered = take-put_mid i n cells part (i + 16) (omega (arith, long, sixteen)) (omega (arith, fits))
          ∙ parts_gathered t es ps (take i cells) part i n c.loop-cells.invariant.gathered c.gather_part.ensures
          ∙ ap (λ (m : ℕ). map (bytes_of t) (take (i + m) (read ps es))) sixteen;
      left = drop-put_mid i n cells part (i + 16) (omega (arith, sixteen)) (omega (arith, fits)) long
          ∙ sym (drop-drop 16 i cells) ∙ ap (drop 16) c.loop-cells.invariant.left ∙ drop-drop 16 i c.args.cells.now;
    }

pub gather_part-requires-2 : goal.gather_part-requires-2
gather_part-requires-2 g c =
    let t : Ty = g.T.PackedType.ty in
    let i : ℕ = c.loop-cells.done in
    let cells : List (List ℕ) = c.loop-cells.cells in
    let n : ℕ = length cells - i in
    let ps : List (Option ℕ) = c.args.places.now in
    let part : length (take n (drop i cells)) ≡ n = length-take-le n (drop i cells) (omega (arith, length-drop i cells)) in
    let places : length (take (length ps - i) (drop i ps)) ≡ length ps - i = length-take-le (length ps - i) (drop i ps) (omega (arith, length-drop i ps)) in
    (search rules, (omega (arith, part, places, c.loop-cells.invariant.kept, c.requires.paired), (part_zeros (λ cell. cell ≡ bytes_of t (pos 0)) cells c.args.cells.now i n c.requires.zeros c.loop-cells.invariant.left, c.requires.packed)))

pub returns : goal.returns
returns g c =
    let t : Ty = g.T.PackedType.ty in
    let es : List ℤ = map (number_of t) c.args.from.now in
    let ps : List (Option ℕ) = c.args.places.now in
    let i : ℕ = c.loop-cells.done in
    let cells : List (List ℕ) = c.loop-cells.cells in
    let n : ℕ = length cells - i in
    let part : List (List ℕ) = c.gather_part-2.new.cells in
    let long : length part ≡ n = c.gather_part-2.auto.cells ∙ length-take-le n (drop i cells) (omega (arith, length-drop i cells)) in
    let whole : put_mid i n cells part ≡ take i cells ++ part =
    sym (take_all (i + n) (put_mid i n cells part) (omega (arith, same_len_mid i n cells part c.gather_part-2.auto.cells))) ∙ take-put_mid i n cells part (i + n) (omega (arith, long)) (omega (arith, c.loop-cells.invariant.inside, c.loop-cells.invariant.kept)) in
    whole
    ∙ parts_gathered t es ps (take i cells) part i (length ps - i) c.loop-cells.invariant.gathered c.gather_part-2.ensures
    ∙ ap (map (bytes_of t)) (take_all (i + (length ps - i)) (read ps es) (omega (arith, length-map ps (element_at es))))
