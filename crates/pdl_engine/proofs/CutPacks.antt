-- Elements that are packed block by block.
use Rattle.std.proofs.Common.{◌≡◌, ◌+◌, ◌-◌, ◌≤◌, ◌++◌, ℕ, ℤ, pos, List, length, take, drop, min, replicate, inl, inr, refl, sym, ◌∙◌, ap, arith}
use Rattle.std.proofs.Math.Seq.{take-add, take-length}
use Rattle.std.proofs.lemmas.Bool.Decides.{leb_tells}
use Rattle.std.proofs.lemmas.List.{append-nil, append_assoc, drop-replicate, take-append-le, take-replicate}
use Rattle.pdl_world.specs.Cut.{fitted}
use Rattle.pdl_engine.proofs.CutFits.{filled_up}

-- one block more of a list
pub packed_more : (old xs now block new : List ℤ) (k n : ℕ) → now ≡ old ++ take k xs → block ≡ take n (drop k xs) → new ≡ now ++ block → new ≡ old ++ take (k + n) xs
packed_more old xs now block new k n a b c =
    c ∙ ap (λ (x : List ℤ). x ++ block) a ∙ ap (λ (x : List ℤ). old ++ take k xs ++ x) b
    ∙ append_assoc old (take k xs) (take n (drop k xs)) ∙ ap (λ (x : List ℤ). old ++ x) (sym (take-add k n xs))

-- and of zeros
zeros_join : (k n : ℕ) → replicate k (pos 0) ++ replicate n (pos 0) ≡ replicate (k + n) (pos 0)
zeros_join k n =
    let all : List ℤ = replicate (k + n) (pos 0) in
    let rest : take n (drop k all) ≡ replicate n (pos 0) = ap (take n) (drop-replicate k (k + n) (pos 0)) ∙ take-replicate n (k + n - k) (pos 0) (omega arith) in
    ap (λ (x : List ℤ). x ++ replicate n (pos 0)) (sym (take-replicate k (k + n) (pos 0) (omega arith)))
    ∙ ap (λ (x : List ℤ). take k all ++ x) (sym rest) ∙ sym (take-add k n all) ∙ take-replicate (k + n) (k + n) (pos 0) (omega arith)

pub zeros_more : (old now block new : List ℤ) (k n m : ℕ) → n ≤ m → now ≡ old ++ replicate k (pos 0) → block ≡ take n (replicate m (pos 0)) → new ≡ now ++ block → new ≡ old ++ replicate (k + n) (pos 0)
zeros_more old now block new k n m l a b c =
    c ∙ ap (λ (x : List ℤ). x ++ block) a ∙ ap (λ (x : List ℤ). old ++ replicate k (pos 0) ++ x) (b ∙ take-replicate n m (pos 0) l)
    ∙ append_assoc old (replicate k (pos 0)) (replicate n (pos 0)) ∙ ap (λ (x : List ℤ). old ++ x) (zeros_join k n)

-- those that are shown, and zeros after them
pub fitted_parts : (n s : ℕ) (es : List ℤ) → s ≡ min (length es) n → take s es ++ replicate (n - s) (pos 0) ≡ fitted n es
fitted_parts n s es e = elim (leb_tells (length es) n) [
  | inl l ↦ (let all : s ≡ length es = omega (arith, e, l.1) in
      ap (λ k. take k es ++ replicate (n - k) (pos 0)) all ∙ ap (λ (x : List ℤ). x ++ replicate (n - length es) (pos 0)) (take-length es)
      ∙ ap (λ (x : List ℤ). es ++ x) (sym (drop-replicate (length es) n (pos 0))) ∙ filled_up n es (replicate n (pos 0)) l.1 refl)
  | inr l ↦ (let few : s ≡ n = omega (arith, e, l.1) in
      let none : n - n ≡ 0 = omega arith in
      ap (λ k. take k es ++ replicate (n - k) (pos 0)) few ∙ ap (λ k. take n es ++ replicate k (pos 0)) none ∙ append-nil (take n es)
      ∙ sym (take-append-le n es (replicate n (pos 0)) (omega (arith, l.1))))
]
