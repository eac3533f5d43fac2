-- The first elements, with zeros after them.
use Rattle.std.proofs.Common.{◌≡◌, ℤ, ◌-◌, List, length, ap, take, ℕ, ◌+◌, ◌++◌, ◌∙◌, arith, ◌≤◌, replicate, drop, pos, sym}
use Rattle.std.proofs.Math.Seq.{take-append-add, take-append_seam}
use Rattle.std.proofs.lemmas.List.{drop-replicate, length-append, length-replicate, length-take-le, take-replicate}
use Rattle.pdl_world.specs.Cut.{fitted}

-- all of them before the zeros that are left
pub filled_up : (n : ℕ) (es zs : List ℤ) → length es ≤ n → zs ≡ replicate n (pos 0) → es ++ drop (length es) zs ≡ fitted n es
filled_up n es zs h z =
    let a : n ≡ length es + (n - length es) = omega (arith, h) in
    ap (λ x. es ++ drop (length es) x) z
    ∙ ap (λ x. es ++ x) (drop-replicate (length es) n (pos 0) ∙ sym (take-replicate (n - length es) n (pos 0) (omega arith)))
    ∙ sym (take-append-add es (replicate n (pos 0)) (n - length es))
    ∙ ap (λ k. take k (es ++ replicate n (pos 0))) (sym a)

-- all of them, where there are as many
pub fitted_all : (n : ℕ) (es : List ℤ) → length es ≡ n → fitted n es ≡ es
fitted_all n es e = ap (λ k. take k (es ++ replicate n (pos 0))) (sym e) ∙ take-append_seam es (replicate n (pos 0))

pub length_fitted : (n : ℕ) (es : List ℤ) → length (fitted n es) ≡ n
length_fitted n es =
    let l : length (es ++ replicate n (pos 0)) ≡ length es + length (replicate n (pos 0)) = length-append es (replicate n (pos 0)) in
    let r : length (replicate n (pos 0)) ≡ n = length-replicate n (pos 0) in
    length-take-le n (es ++ replicate n (pos 0)) (omega (arith, l, r))
