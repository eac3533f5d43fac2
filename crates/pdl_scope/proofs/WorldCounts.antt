-- How many elements an array has.
use Rattle.std.proofs.Common.{◌≡◌, ℕ, ℤ, List, [], ◌∷◌, length, Bool, true, false, Option, Some, None, Result, Ok, Err, refl, sym, ap, ◌∙◌}
use Rattle.std.proofs.Common.{arith}
use Rattle.std.proofs.lemmas.Bool.{ne_eqb}
use Rattle.std.specs.Prelude.{is_some, ◌==◌, IfSome, IsSomeAnd, option_and_then, if◌then◌else◌}
use Rattle.std.specs.Option.{option_map_or}
use Rattle.std.proofs.lemmas.List.{length-map}
use Rattle.std.proofs.lemmas.List.FromFn.{length-map-range_with_len}
use Rattle.pdl_shape.specs.Places.{element_at, read}
use Rattle.pdl_shape.specs.Refusals.{Refusal}
use Rattle.pdl_shape.specs.Shape.{size_of}
use Rattle.pdl_world.specs.declared.Trans.{Trans}
use Rattle.pdl_world.specs.Formula.{child_dims}
use Rattle.pdl_world.specs.World.{World, root, view, Look, look, look_of_root, through, seen_through, root_elements, elements, dims_in}
use Rattle.pdl_world.specs.Sound.{IsLive}
use Rattle.pdl_machine.specs.Fills.{only}

abbrev IsCounted : Option Look → Type 0
IsCounted o = IfSome o (λ l. length l.places ≡ size_of l.dims)

through_counted : (t : Trans) (o : Option Look) → IsCounted (option_and_then (through t) o)
through_counted t None = tt
through_counted t (Some l) = by_dims (child_dims t l.dims)
  where
    by_dims : (x : Result (List ℕ) Refusal) → IsCounted (seen_through t l x)
    by_dims (Ok ds) = length-map _ _ ∙ length-map-range_with_len _ 0 (size_of ds)
    by_dims (Err e) = tt

-- there is a place for each position
counted : (w : World) (v : ℕ) → IsCounted (look w v)
counted [] v = tt
counted ((k, root ty ds es) ∷ w) v = by_test (k == v) (counted w v)
  where
    by_test : (b : Bool) → IsCounted (look w v) → IsCounted (if b then Some (look_of_root k ty ds) else look w v)
    by_test true h = length-map-range_with_len Some 0 (size_of ds)
    by_test false h = h
counted ((k, view p t) ∷ w) v = by_test (k == v) (counted w v)
  where
    by_test : (b : Bool) → IsCounted (look w v) → IsCounted (if b then option_and_then (through t) (look w (if b then p else v)) else look w (if b then p else v))
    by_test true h = through_counted t (look w p)
    by_test false h = h

count_elements : (w : World) (v : ℕ) → IsLive w v → length (elements w v) ≡ size_of (dims_in w v)
count_elements w v live = by_look (look w v) (counted w v) live
  where
    by_look : (o : Option Look) → IsCounted o → IsSomeAnd o (λ l. Unit {0})
        → length (option_map_or (λ l. read l.places (root_elements w l.root)) o []) ≡ size_of (option_map_or (λ l. l.dims) o [])
    by_look None count live = absurd live
    by_look (Some l) count live = length-map l.places (element_at (root_elements w l.root)) ∙ count

-- an array is a number where it has one element
pub single : (w : World) (v : ℕ) (ds : List ℕ) (n : ℕ) → IsLive w v → ds ≡ dims_in w v → n ≡ size_of ds → (n == 1) ≡ is_some (only (elements w v))
single w v ds n live e count = by_count (elements w v) (count_elements w v live)
  where
    by_count : (xs : List ℤ) → length xs ≡ size_of (dims_in w v) → (n == 1) ≡ is_some (only xs)
    by_count [] h = (let none : n ≡ 0 = count ∙ ap size_of e ∙ sym h in ap (λ k. k == 1) none)
    by_count (x ∷ []) h = (let one : n ≡ 1 = count ∙ ap size_of e ∙ sym h in ap (λ k. k == 1) one)
    by_count (x ∷ y ∷ xs) h = (let many : n ≡ length (x ∷ y ∷ xs) = count ∙ ap size_of e ∙ sym h in ne_eqb n 1 (λ same. absurd (omega (arith, many, same))))
