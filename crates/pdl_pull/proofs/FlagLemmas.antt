-- Bits of words as flags.
use Rattle.std.proofs.Common.{◌≡◌, ℕ, ◌*◌, ◌/◌, ◌%◌, ◌^◌, ◌<◌, ◌≤◌, true, false, not, eqb, List, length, replicate, get_or, set, sym, ◌∙◌, ap, inl, inr, arith, ext_get_or, length-set, get_or-set_same, get_or-set_other, eq-eqb, ne_eqb, w64, bit_and, bit_or}
use Rattle.std.proofs.lemmas.Bool.{cases_eq}
use Rattle.std.proofs.lemmas.List.{length-replicate, get_or-replicate}
use Rattle.std.proofs.lemmas.List.FromFn.{length-map-range_with_len, get_or-map-range_with_len}
use Rattle.std.proofs.lemmas.Nat.{one_shl, pow_pos}
use Rattle.std.proofs.lemmas.Nat.Bits.{bit_at_set_same, bit_at_set_other, bit_at-zero, and_pow}
use Rattle.std.specs.Int.{bit_at}
use Rattle.pdl_pull.specs.Flags.{bit_of, flags_of}

pub length-flags : (words : List ℕ) (n : ℕ) → length (flags_of words n) ≡ n
unfolding flags_of
length-flags words n = length-map-range_with_len (bit_of words) 0 n

pub get_or-flags : (words : List ℕ) (n k : ℕ) → k < n → get_or (flags_of words n) k false ≡ bit_of words k
unfolding flags_of
get_or-flags words n k h = get_or-map-range_with_len (bit_of words) 0 n k k false h (omega arith)

-- words of zeros have no flag
pub flags_of_zeros : (m n : ℕ) → n ≤ 64 * m → flags_of (replicate m 0) n ≡ replicate n false
flags_of_zeros m n room =
    let zeros : List ℕ = replicate m 0 in
    ext_get_or false _ _ (length-flags zeros n ∙ sym (length-replicate n false))
    (λ k h.
    let within : k < n = omega (arith, length-flags zeros n) in
    let word : k / 64 < m = omega arith in
    get_or-flags zeros n k within
    ∙ ap (λ x. eqb (bit_at x (k % 64)) 1) (get_or-replicate m (k / 64) 0 0 word)
    ∙ ap (λ x. eqb x 1) (bit_at-zero (k % 64))
    ∙ sym (get_or-replicate n k false false within))

-- the test `word & bit == 0`
pub bit_clear : (word k : ℕ) → k < 64 → eqb (bit_and word (1 * 2 ^ k % 2 ^ 64)) 0 ≡ not (eqb (bit_at word k) 1)
bit_clear word k h =
    let e : bit_and word (1 * 2 ^ k % 2 ^ 64) ≡ bit_at word k * 2 ^ k = ap (bit_and word) (one_shl k 64 h) ∙ and_pow word k in
    let b : ℕ = bit_at word k in
    let small : b < 2 = omega arith in
    elim (cases_eq b 1) [
      | inl one ↦
          let big : 0 < bit_and word (1 * 2 ^ k % 2 ^ 64) = rw (e, one) (omega (arith, pow_pos k)) in
          ne_eqb _ 0 (omega arith) ∙ sym (ap not (eq-eqb b 1 one))
      | inr other ↦
          let none : b ≡ 0 = omega arith in
          eq-eqb _ 0 (rw (e, none) (omega arith)) ∙ sym (ap not (ne_eqb b 1 other))
    ]

-- a bit that is set is a flag that is set
pub flags_of-set : (words : List ℕ) (n at word : ℕ) → n ≤ 64 * length words → at < n → word ≡ get_or words (at / 64) 0
    → flags_of (set words (at / 64) (bit_or word (1 * 2 ^ (at % 64) % 2 ^ 64))) n ≡ set (flags_of words n) at true
flags_of-set words n at word room within read =
    let v : ℕ = bit_or word (1 * 2 ^ (at % 64) % 2 ^ 64) in
    let at_in : at < length (flags_of words n) = omega (arith, length-flags words n) in
    let word_in : at / 64 < length words = omega arith in
    let low : at % 64 < 64 = omega arith in
    ext_get_or false _ _
    (length-flags _ n ∙ sym (length-flags words n) ∙ sym (length-set (flags_of words n) at true))
    (λ k h.
    let k_in : k < n = omega (arith, length-flags (set words (at / 64) v) n) in
    get_or-flags _ n k k_in
    ∙ (elim (cases_eq k at) as (λ _. bit_of (set words (at / 64) v) k ≡ get_or (set (flags_of words n) at true) k false) [
      | inl same ↦
          rw same
          (ap (λ x. eqb (bit_at x (at % 64)) 1) (get_or-set_same words (at / 64) v 0 word_in)
          ∙ eq-eqb _ 1 (bit_at_set_same w64 word (at % 64) low)
          ∙ sym (get_or-set_same (flags_of words n) at true false at_in))
      | inr other ↦
          (elim (cases_eq (k / 64) (at / 64)) as (λ _. bit_of (set words (at / 64) v) k ≡ bit_of words k) [
            | inl row ↦
                ap (λ x. eqb (bit_at (get_or (set words (at / 64) v) x 0) (k % 64)) 1) row
                ∙ ap (λ x. eqb (bit_at x (k % 64)) 1) (get_or-set_same words (at / 64) v 0 word_in)
                ∙ ap (λ x. eqb x 1) (bit_at_set_other w64 word (at % 64) low (k % 64) (omega arith))
                ∙ ap (λ x. eqb (bit_at x (k % 64)) 1) (read ∙ ap (λ x. get_or words x 0) (sym row))
            | inr apart ↦ ap (λ x. eqb (bit_at x (k % 64)) 1) (get_or-set_other words (at / 64) (k / 64) v 0 apart)
          ])
          ∙ sym (get_or-flags words n k k_in)
          ∙ sym (get_or-set_other (flags_of words n) at k true false other)
    ]))
