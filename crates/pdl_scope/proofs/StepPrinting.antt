-- Elements and lines, one after another.
use Rattle.std.proofs.Common.{◌≡◌, ℕ, zero, suc, ◌+◌, List, [], ◌∷◌, ◌++◌, take, Some, sym, ap, ◌∙◌, arith}
use Rattle.std.specs.Prelude.{slice_get}
use Rattle.std.specs.List.{flat_map}
use Rattle.std.proofs.lemmas.List.{flat_map_more}
use Rattle.pdl_machine.specs.Names.{Named}
use Rattle.pdl_machine.specs.Arrays.{Arrays}
use Rattle.pdl_machine.specs.Step.{name_line}

-- the entries before a place, and the one there
pub take_entry : {X : Type 0} (xs : List X) (i : ℕ) (x : X) → slice_get xs i ≡ Some x → take (suc i) xs ≡ take i xs ++ x ∷ []
take_entry [] i x h = cc
take_entry (y ∷ xs) zero x h = let e : y ≡ x = cc in ap (λ z. z ∷ []) e
take_entry (y ∷ xs) (suc i) x h = ap (λ l. y ∷ l) (take_entry xs i x h)

-- one more line
pub lines_more : (w : Arrays) (names : Named ℕ) (i : ℕ) (x : List ℕ) (v : ℕ) (start old new : List ℕ) → slice_get names i ≡ Some (x, v) → old ≡ start ++ flat_map (name_line w) (take i names) → new ≡ old ++ name_line w (x, v)
    → new ≡ start ++ flat_map (name_line w) (take (i + 1) names)
lines_more w names i x v start old new h e e' =
    let s : suc i ≡ i + 1 = omega arith in
    let t : take i names ++ (x, v) ∷ [] ≡ take (i + 1) names = sym (take_entry names i (x, v) h) ∙ ap (λ n. take n names) s in
    e' ∙ ap (λ l. l ++ name_line w (x, v)) e ∙ flat_map_more (name_line w) start (take i names) (x, v) ∙ ap (λ l. start ++ flat_map (name_line w) l) t
