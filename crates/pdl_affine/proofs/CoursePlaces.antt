-- Places of dimension numbers, one after another.
use Rattle.std.proofs.Common.{◌≡◌, ℕ, suc, ◌+◌, ◌-◌, ◌<◌, Bool, ◌&&◌, List, [], ◌∷◌, ◌++◌, length, drop, get_or, ℤ, Option, Some, None, option_map, option_and_then, refl, sym, ap, ◌∙◌, arith, append_assoc, drop-cons, add-one}
use Rattle.std.specs.List.{list_all, range_with_len}
use Rattle.pdl_shape.specs.Counting.{from_end}
use Rattle.pdl_affine.specs.Views.{all_counted, lists}
use Rattle.pdl_affine.specs.Courses.{places_before}

-- the test of the numbers that are left
abbrev pub left : List ℕ → ℕ → ℕ → Bool
left is i n = list_all (λ j. lists is j) (range_with_len i (n - i))

pub left_step : (is : List ℕ) (i n : ℕ) → i < n → left is i n ≡ (lists is i && left is (i + 1) n)
left_step is i n h = ap (λ k. list_all (λ j. lists is j) (range_with_len i k)) (let e : n - i ≡ suc (n - (i + 1)) = omega arith in e)

pub number_next : (all : Option (List ℕ)) (ks : List ℤ) (is : List ℕ) (n i : ℕ) (d : ℤ) → i < length ks → all ≡ places_before is (all_counted (drop i ks) n)
    → all ≡ places_before is (option_and_then (λ j. option_map (λ js. j ∷ js) (all_counted (drop (i + 1) ks) n)) (from_end (get_or ks i d) n))
number_next all ks is n i d lt h =
    h ∙ ap (λ r. places_before is (all_counted r n)) (drop-cons ks i d lt)
    ∙ ap (λ m. places_before is (option_and_then (λ j. option_map (λ js. j ∷ js) (all_counted (drop m ks) n)) (from_end (get_or ks i d) n))) (sym (add-one i))

pub places_before-cons : (is : List ℕ) (j : ℕ) (o : Option (List ℕ)) → places_before is (option_map (λ js. j ∷ js) o) ≡ places_before (is ++ j ∷ []) o
places_before-cons is j None = refl
places_before-cons is j (Some rest) = ap Some (sym (append_assoc is (j ∷ []) rest))

pub number_taken : (all : Option (List ℕ)) (is js : List ℕ) (j : ℕ) (o : Option ℕ) (rest : Option (List ℕ))
    → all ≡ places_before is (option_and_then (λ i. option_map (λ ks. i ∷ ks) rest) o) → Some j ≡ o → js ≡ is ++ j ∷ [] → all ≡ places_before js rest
number_taken all is js j o rest h e js_is =
    h ∙ ap (λ q. places_before is (option_and_then (λ i. option_map (λ ks. i ∷ ks) rest) q)) (sym e) ∙ places_before-cons is j rest ∙ ap (λ r. places_before r rest) (sym js_is)
