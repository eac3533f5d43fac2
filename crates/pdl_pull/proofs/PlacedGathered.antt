-- Places that are gathered, one after the other.
use Rattle.std.proofs.Common.{◌≡◌, ℕ, suc, zero, ◌+◌, ◌<◌, ◌≤◌, Bool, true, false, true≢false, cond, eqb, List, [], ◌∷◌, length, map, get_or, drop, Option, Some, None, option_and_then, refl, sym, ◌∙◌, ap, arith, add-one, drop-cons}
use Rattle.std.specs.List.{range_with_len}
use Rattle.std.specs.Prelude.{is_some}
use Rattle.std.proofs.lemmas.Bool.{eq-eqb}
use Rattle.std.proofs.lemmas.List.{ext_get_or, get_or_past}
use Rattle.std.proofs.lemmas.List.Elements.{All-get_or}
use Rattle.std.proofs.lemmas.List.FromFn.{length-map-range_with_len, get_or-map-range_with_len}
use Rattle.std.proofs.lemmas.Simd.{map-map}
use Rattle.pdl_shape.specs.Places.{AllBelow, IsBelow}
use Rattle.pdl_shape.specs.Shape.{size_of}
use Rattle.pdl_shape.specs.Triple.{Triple}
use Rattle.pdl_numbers.specs.Shown.{place_at}
use Rattle.pdl_nodes.specs.Assigned.{entry}
use Rattle.pdl_nodes.specs.Families.{is_among, has_repeats}
use Rattle.pdl_nodes.specs.Placed.{placed, placed_by}

among_repeats : (b x : Bool) → x ≡ true → cond b true x ≡ true
among_repeats true x h = refl
among_repeats false x h = h

pub repeats_drop : (ps : List (Option ℕ)) (i : ℕ) → has_repeats (drop i ps) ≡ true → has_repeats ps ≡ true
repeats_drop ps zero h = h
repeats_drop [] (suc i) h = h
repeats_drop (None ∷ ps) (suc i) h = repeats_drop ps i h
repeats_drop (Some q ∷ ps) (suc i) h = among_repeats (is_among q ps) (has_repeats ps) (repeats_drop ps i h)

-- a place that comes again later
pub twice_here : (ps : List (Option ℕ)) (i j at : ℕ) → j ≡ i + 1 → i < length ps → get_or ps i None ≡ Some at → is_among at (drop j ps) ≡ true → true ≡ has_repeats ps
twice_here ps i j at e h g a =
    let d : drop i ps ≡ Some at ∷ drop (suc i) ps = drop-cons ps i None h ∙ ap (λ o. o ∷ drop (suc i) ps) g in
    let b : is_among at (drop (suc i) ps) ≡ true = ap (λ k. is_among at (drop k ps)) (sym (e ∙ add-one i)) ∙ a in
    let r : has_repeats (Some at ∷ drop (suc i) ps) ≡ true = rw b refl in
    sym (repeats_drop ps i (ap has_repeats d ∙ r))

-- a place that stands at a position
among_drop : (at : ℕ) (ps : List (Option ℕ)) (i : ℕ) → is_among at (drop i ps) ≡ true → is_among at ps ≡ true
among_drop at ps zero h = h
among_drop at [] (suc i) h = h
among_drop at (None ∷ ps) (suc i) h = among_drop at ps i h
among_drop at (Some q ∷ ps) (suc i) h = among_repeats (eqb at q) (is_among at ps) (among_drop at ps i h)

pub among_here : (ps : List (Option ℕ)) (i at other : ℕ) → i < length ps → get_or ps i None ≡ Some other → other ≡ at → true ≡ is_among at ps
among_here ps i at other h g e =
    let d : drop i ps ≡ Some other ∷ drop (suc i) ps = drop-cons ps i None h ∙ ap (λ o. o ∷ drop (suc i) ps) g in
    let r : is_among at (Some other ∷ drop (suc i) ps) ≡ true = rw (eq-eqb at other (sym e)) refl in
    sym (among_drop at ps i (ap (is_among at) d ∙ r))

-- what a triple shows over known places: how many places, and which
length_placed : (known : Option (List (Option ℕ))) (t : Triple) → length (placed_by known t) ≡ size_of t.dims
length_placed known t = ap (λ (xs : List (Option ℕ)). length xs) (map-map (placed known) (place_at t) (range_with_len 0 (size_of t.dims))) ∙ length-map-range_with_len (λ p. placed known (place_at t p)) 0 (size_of t.dims)

placed_entry : (known : Option (List (Option ℕ))) (t : Triple) (i : ℕ) → i < size_of t.dims → get_or (placed_by known t) i None ≡ placed known (place_at t i)
placed_entry known t i h =
    ap (λ (xs : List (Option ℕ)). get_or xs i None) (map-map (placed known) (place_at t) (range_with_len 0 (size_of t.dims)))
    ∙ get_or-map-range_with_len (λ p. placed known (place_at t p)) 0 (size_of t.dims) i i None h (omega arith)

-- the place that is seen through a position
pub through_is : (known : Option (List (Option ℕ))) (t : Triple) (o r : Option ℕ) (at q : ℕ) → o ≡ Some at → at < size_of t.dims → q ≡ place_at t at → r ≡ placed known q → r ≡ option_and_then (entry (placed_by known t)) o
through_is known t o r at q e h s p =
    p ∙ ap (placed known) s ∙ sym (placed_entry known t at h) ∙ ap (option_and_then (entry (placed_by known t))) (sym e)

pub through_past : (known : Option (List (Option ℕ))) (t : Triple) (o : Option ℕ) (at : ℕ) → o ≡ Some at → size_of t.dims ≤ at → None ≡ option_and_then (entry (placed_by known t)) o
through_past known t o at e h =
    sym (get_or_past (placed_by known t) at None (omega (arith, length_placed known t))) ∙ ap (option_and_then (entry (placed_by known t))) (sym e)

-- over a root that is shown place by place, a place below its size stays
stays : (t : Triple) (o : Option ℕ) → ((p : ℕ) → p < size_of t.dims → place_at t p ≡ p) → IsBelow (size_of t.dims) o → o ≡ option_and_then (entry (placed_by None t)) o
stays t None same h = refl
stays t (Some at) same h = ap Some (sym (same at h)) ∙ sym (placed_entry None t at h)

-- and so do all of a list
pub picked : (known : Option (List (Option ℕ))) (t : Triple) (own : List (Option ℕ)) (n : ℕ) → is_some known ≡ false → length own ≡ n → ((p : ℕ) → p < size_of t.dims → place_at t p ≡ p)
    → AllBelow (size_of t.dims) own → own ≡ map (λ p. option_and_then (entry (placed_by known t)) (entry own p)) (range_with_len 0 n)
picked (Some ps) t own n root long same low = absurd (true≢false root)
picked None t own n root long same low =
    let f : ℕ → Option ℕ = λ p. option_and_then (entry (placed_by None t)) (entry own p) in
    ext_get_or None own (map f (range_with_len 0 n)) (long ∙ sym (length-map-range_with_len f 0 n))
    (λ k h. stays t (get_or own k None) same (All-get_or (IsBelow (size_of t.dims)) own k None h low) ∙ sym (get_or-map-range_with_len f 0 n k k None (omega arith) (omega arith)))
