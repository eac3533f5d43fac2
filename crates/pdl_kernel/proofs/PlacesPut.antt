-- What code leaves in all arguments at one broadcast place after the other.
use Rattle.std.proofs.Common.{◌≡◌, ℕ, ◌<◌, pos, List, [], ◌∷◌, ◌++◌, length, map, replicate, get_or, Ok, refl, sym, ap, subst, ◌∙◌, arith}
use Rattle.std.specs.Prelude.{All, Result}
use Rattle.std.proofs.lemmas.List.{ext_get_or, get_or-map, length-map, length-replicate}
use Rattle.std.proofs.lemmas.List.Elements.{All-from_get_or}
use Rattle.std.proofs.lemmas.Simd.{map-map}
use Rattle.pdl_shape.specs.Laws.{PositionLaws}
use Rattle.pdl_shape.specs.Shape.{coordinates_of, size_of}
use Rattle.pdl_buf.specs.declared.made.Made.{Made}
use Rattle.pdl_sig.specs.declared.Resolved.{Resolved}
use Rattle.pdl_sig.specs.Refusals.{dim_names_limit}
use Rattle.pdl_code.specs.Tree.{Code}
use Rattle.pdl_kernel.specs.declared.faults.Fault.{Fault}
use Rattle.pdl_kernel.specs.declared.scene.Scene.{Scene}
use Rattle.pdl_kernel.specs.Collecting.{AreCollected, IsLaid}
use Rattle.pdl_kernel.specs.Meaning.{Store, nothing, run}
use Rattle.pdl_kernel.specs.Places.{IsWhole, Rest, Window, array_seen, begun_at, blank, kind_of, rest_of}
use Rattle.pdl_kernel.specs.Scenes.{kinds_of, left_in_order, rests_at, rests_of, starting, store_of}
use Rattle.pdl_kernel.proofs.PlacesCollected.{collected_more, shown_again, whole_there}
use Rattle.pdl_kernel.proofs.CallStores.{IsBehind, behind_count}
use Rattle.pdl_kernel.proofs.MeaningKept.{HasForm, blank_store, form_is_kept, run_relates}

-- windows that move stay windows of their kinds
pub kinds_at : (bs : List ℕ) (s : Scene) (rs : List Rest) → rs ≡ rests_at bs s → map kind_of rs ≡ kinds_of s
kinds_at bs s rs e = ap (map kind_of) e ∙ map-map kind_of (λ (w : Window). rest_of (begun_at bs w)) s.arguments.items ∙ sym (map-map kind_of rest_of s.arguments.items)

-- before any code ran
pub none_collected : (ws : List Window) → AreCollected [] ws ws
none_collected ws = record {
  count = refl;
  argument = λ k lt. record { form = refl; room = refl; input = λ h. refl; each = omega arith; output = λ h. refl };
}

module _ (laws : PositionLaws) (broadcast : List ℕ) (ms : List Store) (was : List Window) (now : Scene) (laid : All (IsLaid broadcast) was) (h : AreCollected ms was now.arguments.items) (p : ℕ) (count : length ms ≡ p) (inside : p < size_of broadcast) where
  abbrev bs : List ℕ
  bs = coordinates_of broadcast p

  -- code finds what it would have found first
  shown_all : map (λ w. array_seen (begun_at bs w)) now.arguments.items ≡ map (λ w. array_seen (begun_at bs w)) was
  shown_all =
      let f : Window → Made = λ w. array_seen (begun_at bs w) in
      let long = length-map now.arguments.items f in
      ext_get_or nothing (map f now.arguments.items) (map f was) (long ∙ h.count ∙ sym (length-map was f)) (λ k lt.
      let there : k < length now.arguments.items = omega (arith, lt, long) in
      let mine : k < length was = omega (arith, there, h.count) in
      get_or-map f now.arguments.items k blank nothing there
      ∙ shown_again laws broadcast k ms (get_or was k blank) (get_or now.arguments.items k blank) (laid k blank mine) (h.argument k mine) p count inside
      ∙ sym (get_or-map f was k blank nothing mine))

  pub whole_all : All IsWhole (rests_at bs now)
  whole_all =
      let f : Window → Rest = λ w. rest_of (begun_at bs w) in
      All-from_get_or IsWhole (map f now.arguments.items) (f blank) (λ k lt.
      let below : k < length now.arguments.items = omega (arith, lt, length-map now.arguments.items f) in
      let mine : k < length was = omega (arith, below, h.count) in
      subst IsWhole (sym (get_or-map f now.arguments.items k blank (f blank) below))
      (whole_there laws broadcast k ms (get_or was k blank) (get_or now.arguments.items k blank) (laid k blank mine) (h.argument k mine) p count inside))

  -- after the code ran there
  pub collected_all : (after : Scene) → rests_of after ≡ rests_at bs now → AreCollected (ms ++ store_of after ∷ []) was after.arguments.items
  collected_all after kept =
      let f : Window → Rest = λ w. rest_of (begun_at bs w) in
      let long : length after.arguments.items ≡ length now.arguments.items =
      sym (length-map after.arguments.items rest_of) ∙ ap (length {A = Rest}) kept ∙ length-map now.arguments.items f in
      record {
        count = long ∙ h.count;
        argument = λ k lt.
            let there : k < length after.arguments.items = omega (arith, lt, long, h.count) in
            let here : k < length now.arguments.items = omega (arith, there, long) in
            let rest : rest_of (get_or after.arguments.items k blank) ≡ f (get_or now.arguments.items k blank) =
            sym (get_or-map rest_of after.arguments.items k blank (f blank) there) ∙ ap (λ rs. get_or rs k (f blank)) kept ∙ get_or-map f now.arguments.items k blank (f blank) here in
            collected_more laws broadcast k ms (get_or was k blank) (get_or now.arguments.items k blank) (laid k blank lt) (h.argument k lt) p count inside
            (store_of after) (get_or after.arguments.items k blank) rest (get_or-map array_seen after.arguments.items k blank nothing there);
      }

-- as many locals as before
pub locals_kept : (r : Resolved) (code : Code) (bs : List ℕ) (s after : Scene) → run r (replicate dim_names_limit 0) code (starting bs s) ≡ Ok (store_of after) → length after.locals.items ≡ length s.locals.items
locals_kept r code bs s after ran =
    let form : blank_store (store_of after) ≡ blank_store (starting bs s) = run_relates HasForm form_is_kept r code (replicate dim_names_limit 0) (starting bs s) (store_of after) ran in
    let n = length s.locals.items in
    sym (length-replicate (length after.locals.items) (pos 0)) ∙ ap (λ (m : Store). length m.locals) form ∙ length-replicate (length (replicate n (pos 0))) (pos 0) ∙ length-replicate n (pos 0)

-- what code leaves at a place, after the places before it
pub place_left : PositionLaws → (r : Resolved) (code : Code) (was now : Scene) (place : ℕ) (at : List ℕ) → All (IsLaid r.broadcast) was.arguments.items → (h : IsBehind (left_in_order r code was) place was.arguments.items now.arguments.items)
    → length now.locals.items ≡ length was.locals.items → place < size_of r.broadcast → at ≡ coordinates_of r.broadcast place
    → run r (replicate dim_names_limit 0) code (starting at now) ≡ left_in_order r code was place
place_left laws r code was now place at laid h locals lt is =
    let R : List Made → ℕ → Result Store Fault = λ xs k. run r (replicate dim_names_limit 0) code (record { arguments = xs; locals = replicate k (pos 0) }) in
    ap (λ bs. run r (replicate dim_names_limit 0) code (starting bs now)) is
    ∙ ap (λ xs. R xs (length now.locals.items)) (shown_all laws r.broadcast h.stores was.arguments.items now laid h.collected place (behind_count _ place _ _ h) lt)
    ∙ ap (R (map (λ w. array_seen (begun_at (coordinates_of r.broadcast place) w)) was.arguments.items)) locals
