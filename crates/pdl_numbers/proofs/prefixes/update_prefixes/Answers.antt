-- One part more has its prefixes, and the last part has at the end.
use Rattle.std.proofs.Common.{◌≡◌, ◌+◌, ◌-◌, ◌≤◌, ℕ, ℤ, List, ◌++◌, length, fold, map, take, drop, arith, to_z, of_z, ap, ap₂, sym, ◌∙◌, length-drop, take-append-drop}
use Rattle.std.proofs.lemmas.Int.{to_z-of_z}
use Rattle.std.proofs.lemmas.List.{drop-drop, drop-map, length-map, length-take-le, map-append, take_all, take-map}
use Rattle.std.proofs.lemmas.List.Sums.{fold-append}
use Rattle.std.proofs.lemmas.Slice.{drop-put_mid, take-put_mid}
use Rattle.std.proofs.Math.Seq.{take-add}
use Rattle.std.specs.Int.{w64}
use Rattle.pdl_elem.specs.declared.Ty.{Ty}
use Rattle.pdl_numbers.specs.Bytes.{bytes_of, number_of}
use Rattle.pdl_numbers.specs.Prefixes.{wrapped_prefixes}
use Rattle.pdl_numbers.proofs.PrefixLemmas.{prefixes_behind}
use Rattle.pdl_numbers.proofs.prefixes.update_prefixes.Goals as goal
use borrow.Rule.Slice.PartMut.{put_mid, same_len_mid}

-- the numbers of a part that still stands
part_numbers : {X Y : Type 0} (f : X → Y) (now old : List X) (k n : ℕ) → drop k now ≡ drop k old → map f (take n (drop k now)) ≡ take n (drop k (map f old))
part_numbers f now old k n e = sym (ap (take n) (drop-map f k old) ∙ take-map f n (drop k old) ∙ ap (λ xs. map f (take n xs)) (sym e))

-- the numbers before a part, and those of the part
fold_on : (f : ℤ → ℤ → ℤ) (a s r : ℤ) (xs us vs ws : List ℤ) → s ≡ fold f a us → r ≡ fold f s ws → ws ≡ vs → xs ≡ us ++ vs → r ≡ fold f a xs
fold_on f a s r xs us vs ws e g p q = g ∙ ap₂ (fold f) e p ∙ sym (fold-append f a us vs) ∙ ap (fold f a) (sym q)

prefixes_on : (t : Ty) (f : ℤ → ℤ → ℤ) (a s : ℤ) (front part : List (List ℕ)) (xs us vs ws : List ℤ) → s ≡ fold f a us
    → front ≡ map (bytes_of t) (wrapped_prefixes t f a us) → part ≡ map (bytes_of t) (wrapped_prefixes t f s ws) → ws ≡ vs → xs ≡ us ++ vs
    → front ++ part ≡ map (bytes_of t) (wrapped_prefixes t f a xs)
prefixes_on t f a s front part xs us vs ws e p r same q =
    ap₂ (λ (ls rs : List (List ℕ)). ls ++ rs) p (r ∙ ap₂ (λ (z : ℤ) (zs : List ℤ). map (bytes_of t) (wrapped_prefixes t f z zs)) e same)
    ∙ sym (map-append (bytes_of t) (wrapped_prefixes t f a us) (wrapped_prefixes t f (fold f a us) vs))
    ∙ ap (map (bytes_of t)) (sym (prefixes_behind t f a us vs) ∙ ap (wrapped_prefixes t f a) (sym q))

pub loop-cells-preserved : goal.loop-cells-preserved
loop-cells-preserved g c =
    let t : Ty = g.T.PackedType.ty in
    let f : ℤ → ℤ → ℤ = g.F.Folding.taken in
    let a : ℤ = to_z w64 (of_z w64 c.args.start) in
    let s : ℤ = to_z w64 c.loop-cells.so_far-bits in
    let i : ℕ = c.loop-cells.done in
    let n : ℕ = i + 16 - i in
    let cells : List (List ℕ) = c.loop-cells.cells in
    let part : List (List ℕ) = c.update_part-so_far.new.cells in
    let xs : List ℤ = map (number_of t) c.args.cells.now in
    let sixteen : n ≡ 16 = omega arith in
    let stands : map (number_of t) (take n (drop i cells)) ≡ take n (drop i xs) = part_numbers (number_of t) cells c.args.cells.now i n c.loop-cells.invariant.left in
    let more : take (i + 16) xs ≡ take i xs ++ take n (drop i xs) = take-add i 16 xs ∙ ap (λ (m : ℕ). take i xs ++ take m (drop i xs)) (sym sixteen) in
    let fits : i + n ≤ length cells = omega (arith, c.loop-cells-test.true) in
    let part_of : length (take n (drop i cells)) ≡ n = length-take-le n (drop i cells) (omega (arith, fits, length-drop i cells)) in
    let long : length part ≡ n = c.update_part-so_far.auto.cells ∙ part_of in
    record {
      kept = same_len_mid i n cells part c.update_part-so_far.auto.cells ∙ c.loop-cells.invariant.kept;
      inside = omega (arith, fits, c.loop-cells.invariant.kept);
      so_far = fold_on f a s _ (take (i + 16) xs) (take i xs) (take n (drop i xs)) _ c.loop-cells.invariant.so_far
          (to_z-of_z w64 c.update_part-so_far.result (record { sfits = c.update_part-so_far.type_inv }) ∙ c.update_part-so_far.ensures.value) stands more;
      packed = take-put_mid i n cells part (i + 16) (omega (arith, long, sixteen)) (omega (arith, fits))
          ∙ prefixes_on t f a s (take i cells) part (take (i + 16) xs) (take i xs) (take n (drop i xs)) _ c.loop-cells.invariant.so_far
          c.loop-cells.invariant.packed c.update_part-so_far.ensures.packed stands more;
      left = drop-put_mid i n cells part (i + 16) (omega (arith, sixteen)) (omega (arith, fits)) long
          ∙ sym (drop-drop 16 i cells) ∙ ap (drop 16) c.loop-cells.invariant.left ∙ drop-drop 16 i c.args.cells.now;
    }

pub returns-clause-value : goal.returns-clause-value
returns-clause-value g c =
    let t : Ty = g.T.PackedType.ty in
    let f : ℤ → ℤ → ℤ = g.F.Folding.taken in
    let a : ℤ = to_z w64 (of_z w64 c.args.start) in
    let s : ℤ = to_z w64 c.loop-cells.so_far-bits in
    let i : ℕ = c.loop-cells.done in
    let cells : List (List ℕ) = c.loop-cells.cells in
    let n : ℕ = length cells - i in
    let xs : List ℤ = map (number_of t) c.args.cells.now in
    let stands : map (number_of t) (take n (drop i cells)) ≡ take n (drop i xs) = part_numbers (number_of t) cells c.args.cells.now i n c.loop-cells.invariant.left in
    let rest : take n (drop i xs) ≡ drop i xs = take_all n (drop i xs) (omega (arith, length-drop i xs, length-map c.args.cells.now (number_of t), c.loop-cells.invariant.kept)) in
    fold_on f a s _ xs (take i xs) (drop i xs) _ c.loop-cells.invariant.so_far
    (to_z-of_z w64 c.update_part.result (record { sfits = c.update_part.type_inv }) ∙ c.update_part.ensures.value) (stands ∙ rest) (sym (take-append-drop i xs))
    ∙ ap (λ (z : ℤ). fold f z xs) (to_z-of_z w64 c.args.start c.ranges.start)

pub returns-clause-packed : goal.returns-clause-packed
returns-clause-packed g c =
    let t : Ty = g.T.PackedType.ty in
    let f : ℤ → ℤ → ℤ = g.F.Folding.taken in
    let a : ℤ = to_z w64 (of_z w64 c.args.start) in
    let s : ℤ = to_z w64 c.loop-cells.so_far-bits in
    let i : ℕ = c.loop-cells.done in
    let cells : List (List ℕ) = c.loop-cells.cells in
    let n : ℕ = length cells - i in
    let part : List (List ℕ) = c.update_part.new.cells in
    let xs : List ℤ = map (number_of t) c.args.cells.now in
    let stands : map (number_of t) (take n (drop i cells)) ≡ take n (drop i xs) = part_numbers (number_of t) cells c.args.cells.now i n c.loop-cells.invariant.left in
    let rest : take n (drop i xs) ≡ drop i xs = take_all n (drop i xs) (omega (arith, length-drop i xs, length-map c.args.cells.now (number_of t), c.loop-cells.invariant.kept)) in
    let long : length part ≡ n = c.update_part.auto.cells ∙ length-take-le n (drop i cells) (omega (arith, length-drop i cells)) in
    let whole : put_mid i n cells part ≡ take i cells ++ part =
    sym (take_all (i + n) (put_mid i n cells part) (omega (arith, same_len_mid i n cells part c.update_part.auto.cells))) ∙ take-put_mid i n cells part (i + n) (omega (arith, long)) (omega (arith, c.loop-cells.invariant.inside, c.loop-cells.invariant.kept)) in
    whole
    ∙ prefixes_on t f a s (take i cells) part xs (take i xs) (drop i xs) _ c.loop-cells.invariant.so_far c.loop-cells.invariant.packed c.update_part.ensures.packed (stands ∙ rest) (sym (take-append-drop i xs))
    ∙ ap (λ (z : ℤ). map (bytes_of t) (wrapped_prefixes t f z xs)) (to_z-of_z w64 c.args.start c.ranges.start)
