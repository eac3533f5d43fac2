-- What is known of two arrays whose pairing resolves.
use Rattle.std.proofs.Common.{◌≡◌, ℕ, ◌*◌, ◌<◌, List, [], ◌∷◌, ◌++◌, length, get_or, drop, arith, Option, Some, None, Result, Ok, Err, refl, ap, ap₂, sym, subst, ◌∙◌}
use Rattle.std.specs.Prelude.{Bool, true, false, not, ◌&&◌, ◌||◌, ◌==◌, nat_lt, if◌then◌else◌, option_and_then, slice_index_or}
use Rattle.std.specs.List.{list_any}
use Rattle.std.proofs.lemmas.Bool.Decides.{nat_tests}
use Rattle.std.proofs.lemmas.Bool.{or_parts}
use Rattle.pdl_shape.specs.Broadcast.{join}
use Rattle.pdl_shape.specs.Shape.{extent, extent_limit, size_of}
use Rattle.pdl_sig.specs.declared.ArgShape.{ArgShape}
use Rattle.pdl_sig.specs.declared.Resolved.{Resolved}
use Rattle.pdl_sig.specs.declared.SigArg.{SigArg}
use Rattle.pdl_sig.specs.Resolution.{core_mismatch, stretched_in_out, too_many_dims, too_large, too_much_work, cores, core, found_size, handed, has_too_many, is_stretched, is_too_large, is_unfit, joined_with, named_sizes, resolution, resolved_by, resolved_in, solution, work_limit}
use Rattle.pdl_elem.specs.declared.Ty.{Ty}
use Rattle.pdl_sig.specs.Known.{inner, outer_product, matmult}
use Rattle.pdl_reduce.specs.declared.Pairing.{Pairing}
use Rattle.pdl_reduce.specs.declared.Pairing.TheVariants.{Inner, Outer, Matmult}
use Rattle.pdl_reduce.specs.declared.matrices.Sizes.{Sizes}
use Rattle.pdl_reduce.specs.Pairings.{paired_dims, signature_of}
use Rattle.pdl_reduce.specs.Blocks.{cut, sizes_of}

-- a test that doesn't refuse
past : {A E : Type 0} (b : Bool) (e : E) (y : Result A E) (x : A) → (if b then Err e else y) ≡ Ok x → (b ≡ false) × (y ≡ Ok x)
past true e y x h = absurd (cc)
past false e y x h = (refl, h)

pub record Found (args : List SigArg) (given : List ArgShape) (sizes : List ℕ) (r : Resolved) : Type 0 where
  pub fit : list_any (is_unfit sizes) (cores (handed args given)) ≡ false
  pub joined : joined_with [] (handed args given) ≡ Some r.broadcast
  pub small : nat_lt extent_limit (extent r.broadcast) ≡ false
  pub same : r ≡ solution args given sizes r.broadcast

found_by : (args : List SigArg) (given : List ArgShape) (sizes : List ℕ) (r : Resolved) (o : Option (List ℕ)) → list_any (is_unfit sizes) (cores (handed args given)) ≡ false
    → joined_with [] (handed args given) ≡ o → resolved_by args given sizes o ≡ Ok r → Found args given sizes r
found_by args given sizes r None fit j h = absurd (cc)
found_by args given sizes r (Some bs) fit j h =
    let p : _ = past (list_any (is_stretched sizes bs) (handed args given)) stretched_in_out _ r h in
    let q : _ = past (list_any (has_too_many sizes bs) args) too_many_dims _ r p.1 in
    let s : _ = past (nat_lt extent_limit (extent bs) || list_any (is_too_large sizes bs) args) too_large _ r q.1 in
    let t : _ = past (nat_lt work_limit (size_of bs * extent sizes)) too_much_work (Ok (solution args given sizes bs)) r s.1 in
    let e : solution args given sizes bs ≡ r = cc (t.1) in
    let b : bs ≡ r.broadcast = ap (λ (x : Resolved). x.broadcast) e in
    record {
      fit = fit;
      joined = j ∙ ap Some b;
      small = subst (λ (xs : List ℕ). nat_lt extent_limit (extent xs) ≡ false) b (or_parts _ _ s.0).0;
      same = sym e ∙ ap (solution args given sizes) b;
    }

pub found : (args : List SigArg) (given : List ArgShape) (sizes : List ℕ) (r : Resolved) → resolved_in args given sizes ≡ Ok r → Found args given sizes r
found args given sizes r h =
    let p : _ = past (list_any (is_unfit sizes) (cores (handed args given))) core_mismatch _ r h in
    found_by args given sizes r (joined_with [] (handed args given)) p.0 refl p.1

-- the core sizes of a given shape
pub core_one : (n : ℕ) (ds : List ℕ) → core (n ∷ []) ds ≡ (n, get_or ds 0 1) ∷ []
core_one n [] = refl
core_one n (d ∷ ds) = refl

pub core_two : (n m : ℕ) (ds : List ℕ) → core (n ∷ m ∷ []) ds ≡ (n, get_or ds 0 1) ∷ (m, get_or ds 1 1) ∷ []
core_two n m [] = refl
core_two n m (d ∷ []) = refl
core_two n m (d ∷ e ∷ ds) = refl

by_option : (bs : List ℕ) (o : Option (List ℕ)) → option_and_then (λ more. Some more) o ≡ Some bs → o ≡ Some bs
by_option bs None h = h
by_option bs (Some zs) h = h

pub join_is : (xs ys bs : List ℕ) → option_and_then (λ more. Some more) (join xs ys) ≡ Some bs → join xs ys ≡ Some bs
join_is xs ys bs h = by_option bs (join xs ys) h

-- a size that isn't 1, or 1
pub own_size : (x : ℕ) → (if not (x == 1) then x else 1) ≡ x
own_size x = grind (arith, nat_tests)

-- along a size that fits, each coordinate lies within it
pub fit_deep : (x n k : ℕ) → (not (x == 1) && not (x == n)) ≡ false → k < n → cut x k < x
fit_deep x n k h below = grind (arith, nat_tests, h, below)

pub both_fit : (b c : Bool) → (b || (c || false)) ≡ false → (b ≡ false) × (c ≡ false)
both_fit b c h = let p : _ = or_parts b (c || false) h in (p.0, (or_parts c false p.1).0)

-- ---- what the pairings resolve to

-- two arrays whose pairing resolves: their further dimensions join to the broadcast, the result has these
-- dimensions, and each depth is one of theirs
pub record Known (kind : Pairing) (a b : List ℕ) (xs ys : List ℕ) (dims : List ℕ) (s : Sizes) (r : Resolved) : Type 0 where
  pub joined : join xs ys ≡ Some r.broadcast
  pub small : nat_lt extent_limit (extent r.broadcast) ≡ false
  pub dims_are : paired_dims r ≡ dims
  pub left_deep : (k : ℕ) → k < s.depth → cut s.left_depth k < s.left_depth
  pub right_deep : (k : ℕ) → k < s.depth → cut s.right_depth k < s.right_depth

any_two : (p : ℕ × ℕ → Bool) (c d : ℕ × ℕ) → list_any p (c ∷ d ∷ []) ≡ false → (p c ≡ false) × (p d ≡ false)
any_two p c d h = both_fit (p c) (p d) h

any_four : (p : ℕ × ℕ → Bool) (c d e f : ℕ × ℕ) → list_any p (c ∷ d ∷ e ∷ f ∷ []) ≡ false → (p c ≡ false) × (p f ≡ false)
any_four p c d e f h =
    let first : _ = or_parts (p c) (list_any p (d ∷ e ∷ f ∷ [])) h in
    let second : _ = or_parts (p d) (list_any p (e ∷ f ∷ [])) first.1 in
    let third : _ = or_parts (p e) (list_any p (f ∷ [])) second.1 in
    (first.0, (or_parts (p f) false third.1).0)

pub known_inner : (s t : Ty) (a b : List ℕ) (r : Resolved) → resolution inner (record { ty = s; dims = a } ∷ record { ty = t; dims = b } ∷ []) ≡ Ok r
    → Known Inner a b (drop 1 a) (drop 1 b) r.broadcast (sizes_of Inner (slice_index_or r.sizes 0 1) a b) r
known_inner s t a b r h =
    let given : List ArgShape = record { ty = s; dims = a } ∷ record { ty = t; dims = b } ∷ [] in
    let ss : List ℕ = named_sizes inner given in
    let f : Found inner.args given ss r = found inner.args given ss r h in
    let x : ℕ = get_or a 0 1 in
    let y : ℕ = get_or b 0 1 in
    let n : slice_index_or r.sizes 0 1 ≡ slice_index_or ss 0 1 = ap (λ (v : Resolved). slice_index_or v.sizes 0 1) f.same in
    let cs : cores (handed inner.args given) ≡ (0, x) ∷ (0, y) ∷ [] = ap₂ (λ (u v : List (ℕ × ℕ)). u ++ (v ++ [])) (core_one 0 a) (core_one 0 b) in
    let fit : (is_unfit ss (0, x) ≡ false) × (is_unfit ss (0, y) ≡ false) = any_two (is_unfit ss) (0, x) (0, y) (ap (list_any (is_unfit ss)) (sym cs) ∙ f.fit) in
    record {
      joined = join_is (drop 1 a) (drop 1 b) r.broadcast f.joined;
      small = f.small;
      dims_are = ap paired_dims f.same;
      left_deep = λ k below. fit_deep x (slice_index_or ss 0 1) k fit.0 (subst (λ (m : ℕ). k < m) n below);
      right_deep = λ k below. fit_deep y (slice_index_or ss 0 1) k fit.1 (subst (λ (m : ℕ). k < m) n below);
    }

pub known_outer : (s t : Ty) (a b : List ℕ) (r : Resolved) → resolution outer_product (record { ty = s; dims = a } ∷ record { ty = t; dims = b } ∷ []) ≡ Ok r
    → Known Outer a b (drop 1 a) (drop 1 b) (get_or a 0 1 ∷ get_or b 0 1 ∷ r.broadcast) (sizes_of Outer (slice_index_or r.sizes 0 1) a b) r
known_outer s t a b r h =
    let given : List ArgShape = record { ty = s; dims = a } ∷ record { ty = t; dims = b } ∷ [] in
    let ss : List ℕ = named_sizes outer_product given in
    let f : Found outer_product.args given ss r = found outer_product.args given ss r h in
    let x : ℕ = get_or a 0 1 in
    let y : ℕ = get_or b 0 1 in
    let cs : cores (handed outer_product.args given) ≡ (0, x) ∷ (1, y) ∷ [] = ap₂ (λ (u v : List (ℕ × ℕ)). u ++ (v ++ [])) (core_one 0 a) (core_one 1 b) in
    let first : found_size (cores (handed outer_product.args given)) 0 ≡ x = ap (λ (c : List (ℕ × ℕ)). found_size c 0) cs ∙ own_size x in
    let second : found_size (cores (handed outer_product.args given)) 1 ≡ y = ap (λ (c : List (ℕ × ℕ)). found_size c 1) cs ∙ own_size y in
    record {
      joined = join_is (drop 1 a) (drop 1 b) r.broadcast f.joined;
      small = f.small;
      dims_are = ap paired_dims f.same ∙ ap₂ (λ (u v : ℕ). u ∷ v ∷ r.broadcast) first second;
      left_deep = λ k below. omega arith;
      right_deep = λ k below. omega arith;
    }

pub known_matmult : (s t : Ty) (a b : List ℕ) (r : Resolved) → resolution matmult (record { ty = s; dims = a } ∷ record { ty = t; dims = b } ∷ []) ≡ Ok r
    → Known Matmult a b (drop 2 a) (drop 2 b) (get_or b 0 1 ∷ get_or a 1 1 ∷ r.broadcast) (sizes_of Matmult (slice_index_or r.sizes 0 1) a b) r
known_matmult s t a b r h =
    let given : List ArgShape = record { ty = s; dims = a } ∷ record { ty = t; dims = b } ∷ [] in
    let ss : List ℕ = named_sizes matmult given in
    let f : Found matmult.args given ss r = found matmult.args given ss r h in
    let x : ℕ = get_or a 0 1 in
    let y : ℕ = get_or b 1 1 in
    let rows : ℕ = get_or a 1 1 in
    let columns : ℕ = get_or b 0 1 in
    let n : slice_index_or r.sizes 0 1 ≡ slice_index_or ss 0 1 = ap (λ (v : Resolved). slice_index_or v.sizes 0 1) f.same in
    let cs : cores (handed matmult.args given) ≡ (0, x) ∷ (1, rows) ∷ (2, columns) ∷ (0, y) ∷ [] = ap₂ (λ (u v : List (ℕ × ℕ)). u ++ (v ++ [])) (core_two 0 1 a) (core_two 2 0 b) in
    let first : found_size (cores (handed matmult.args given)) 2 ≡ columns = ap (λ (c : List (ℕ × ℕ)). found_size c 2) cs ∙ own_size columns in
    let second : found_size (cores (handed matmult.args given)) 1 ≡ rows = ap (λ (c : List (ℕ × ℕ)). found_size c 1) cs ∙ own_size rows in
    let fit : (is_unfit ss (0, x) ≡ false) × (is_unfit ss (0, y) ≡ false) =
    any_four (is_unfit ss) (0, x) (1, rows) (2, columns) (0, y) (ap (list_any (is_unfit ss)) (sym cs) ∙ f.fit) in
    record {
      joined = join_is (drop 2 a) (drop 2 b) r.broadcast f.joined;
      small = f.small;
      dims_are = ap paired_dims f.same ∙ ap₂ (λ (u v : ℕ). u ∷ v ∷ r.broadcast) first second;
      left_deep = λ k below. fit_deep x (slice_index_or ss 0 1) k fit.0 (subst (λ (m : ℕ). k < m) n below);
      right_deep = λ k below. fit_deep y (slice_index_or ss 0 1) k fit.1 (subst (λ (m : ℕ). k < m) n below);
    }

-- a pairing has three arguments
pub three_shapes : (kind : Pairing) (s t : Ty) (a b : List ℕ) (r : Resolved) → resolution (signature_of kind) (record { ty = s; dims = a } ∷ record { ty = t; dims = b } ∷ []) ≡ Ok r → 2 < length r.shapes
three_shapes Inner s t a b r h =
    let given : List ArgShape = record { ty = s; dims = a } ∷ record { ty = t; dims = b } ∷ [] in
    let f : _ = found inner.args given (named_sizes inner given) r h in
    subst (λ (v : Resolved). 2 < length v.shapes) (sym f.same) (omega arith)
three_shapes Outer s t a b r h =
    let given : List ArgShape = record { ty = s; dims = a } ∷ record { ty = t; dims = b } ∷ [] in
    let f : _ = found outer_product.args given (named_sizes outer_product given) r h in
    subst (λ (v : Resolved). 2 < length v.shapes) (sym f.same) (omega arith)
three_shapes Matmult s t a b r h =
    let given : List ArgShape = record { ty = s; dims = a } ∷ record { ty = t; dims = b } ∷ [] in
    let f : _ = found matmult.args given (named_sizes matmult given) r h in
    subst (λ (v : Resolved). 2 < length v.shapes) (sym f.same) (omega arith)
