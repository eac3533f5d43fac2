-- What code leaves in one argument at one broadcast place after the other.
use Rattle.std.proofs.Common.{◌≡◌, ℕ, ◌+◌, ◌*◌, ◌<◌, ◌≤◌, ℤ, pos, List, [], ◌∷◌, ◌++◌, length, take, drop, replicate, refl, sym, ap, subst, ◌∙◌, arith, append-nil}
use Rattle.std.specs.Prelude.{◌⊎◌, true, if◌then◌else◌}
use Rattle.std.specs.List.{flat_map}
use Rattle.std.proofs.Math.Nat.{mul-le-mul_left}
use Rattle.std.proofs.lemmas.List.{length-append, length-replicate}
use Rattle.std.proofs.lemmas.List.Concat.{flat_map-append}
use Rattle.std.proofs.lemmas.List.FromFn.{length-map-range_with_len}
use mathlib.Core.Logic.{inl, inr}
use Rattle.pdl_shape.specs.Laws.{PositionLaws}
use Rattle.pdl_shape.specs.Shape.{coordinates_of, size_of}
use Rattle.pdl_buf.specs.declared.made.Made.{Made}
use Rattle.pdl_sig.specs.declared.Role.{Role}
use Rattle.pdl_sig.specs.declared.Role.TheVariants.{Input, Output, Both, Temp}
use Rattle.pdl_sig.specs.Resolution.{is_output}
use Rattle.pdl_kernel.specs.Collecting.{IsCollected, IsLaid, form_of, left_in}
use Rattle.pdl_kernel.specs.Meaning.{Store, argument}
use Rattle.pdl_kernel.specs.Places.{IsWhole, Rest, Window, array_seen, begun_at, cleared, count_of, dot, element_seen, is_written, rest_of, sizes_of}
use Rattle.pdl_kernel.proofs.PlacesFilled.{given_there, more_there}

-- a window with these elements at broadcast coordinates
abbrev begun_with : (coordinates : List ℕ) → Window → List ℤ → Window
begun_with bs w es = record w { elems = cleared w.role es; start = dot w.outer bs }

begun_form : (bs : List ℕ) (was now : Window) → form_of now ≡ form_of was → begun_at bs now ≡ begun_with bs was now.elems
begun_form bs was now h = ap (λ (w : Window). begun_with bs w now.elems) h

cleared_output : (r : Role) (es : List ℤ) → is_output r ≡ true → cleared r es ≡ es
cleared_output Input es h = cc
cleared_output Output es h = refl
cleared_output Both es h = refl
cleared_output Temp es h = cc

cleared_long : (r : Role) (es : List ℤ) → length (cleared r es) ≡ length es
cleared_long Input es = refl
cleared_long Output es = refl
cleared_long Both es = refl
cleared_long Temp es = length-replicate (length es) (pos 0)

-- what code may write is an output or a temporary
written_is : (r : Role) → is_written r ≡ true → (is_output r ≡ true) ⊎ (r ≡ Temp)
written_is Input h = cc
written_is Output h = inl refl
written_is Both h = inl refl
written_is Temp h = inr refl

pub output_written : (r : Role) → is_output r ≡ true → is_written r ≡ true
output_written Input h = cc
output_written Output h = refl
output_written Both h = refl
output_written Temp h = cc

role_cases : (r : Role) → (r ≡ Input) ⊎ ((is_output r ≡ true) ⊎ (r ≡ Temp))
role_cases Input = inl refl
role_cases Output = inr (inl refl)
role_cases Both = inr (inl refl)
role_cases Temp = inr (inr refl)

left_more : (k : ℕ) (ms : List Store) (m : Store) → left_in k (ms ++ m ∷ []) ≡ left_in k ms ++ (argument m k).elems
left_more k ms m =
    let f : Store → List ℤ = λ m. (argument m k).elems in
    flat_map-append f ms (m ∷ []) ∙ ap (λ zs. flat_map f ms ++ zs) (append-nil (f m))

module _ (laws : PositionLaws) (broadcast : List ℕ) (k : ℕ) (ms : List Store) (was now : Window) (laid : IsLaid broadcast was) (h : IsCollected k ms was now) (p : ℕ) (count : length ms ≡ p) (inside : p < size_of broadcast) where
  abbrev bs : List ℕ
  bs = coordinates_of broadcast p

  -- the place's window of an output ends within its elements
  output_within : is_output was.role ≡ true → dot was.outer bs + count_of was ≤ length was.elems
  output_within out =
      let more = mul-le-mul_left (count_of was) inside in
      omega (arith, laid.behind out p inside, laid.filled out, more)

  output_start : is_output was.role ≡ true → dot was.outer bs ≡ length (left_in k ms)
  output_start out = laid.behind out p inside ∙ ap (λ n. count_of was * n) (sym count) ∙ sym h.each

  output_shown : is_output was.role ≡ true → array_seen (begun_at bs now) ≡ array_seen (begun_at bs was)
  output_shown out =
      let W : List ℤ → Window = λ es. record was { elems = es; start = dot was.outer bs } in
      let M : List ℤ → Made = λ es. record { ty = was.ty; dims = sizes_of was.axes; elems = es } in
      let within = output_within out in
      ap array_seen (begun_form bs was now h.form ∙ ap W (cleared_output was.role now.elems out))
      ∙ ap M (given_there laws (W now.elems) was.elems (left_in k ms) (laid.in_order out) (omega (arith, within, h.room)) (output_start out) (h.output out) within)
      ∙ ap (λ es. array_seen (W es)) (sym (cleared_output was.role was.elems out))

  -- a place shows what it showed before any code ran
  pub shown_again : array_seen (begun_at bs now) ≡ array_seen (begun_at bs was)
  shown_again = by (role_cases was.role)
    where
      by : (was.role ≡ Input) ⊎ ((is_output was.role ≡ true) ⊎ (was.role ≡ Temp)) → array_seen (begun_at bs now) ≡ array_seen (begun_at bs was)
      by (inl input) = ap array_seen (begun_form bs was now h.form ∙ ap (begun_with bs was) (h.input input))
      by (inr (inl out)) = output_shown out
      by (inr (inr temp)) =
          let same : cleared was.role now.elems ≡ cleared was.role was.elems =
          ap (λ r. cleared r now.elems) temp ∙ ap (λ n. replicate n (pos 0)) h.room ∙ sym (ap (λ r. cleared r was.elems) temp) in
          ap array_seen (begun_form bs was now h.form ∙ ap (λ es. record was { elems = es; start = dot was.outer bs }) same)

  -- what code may write lies within its buffer there
  pub whole_there : IsWhole (rest_of (begun_at bs now))
  whole_there = subst (λ (w : Window). IsWhole (rest_of w)) (sym (begun_form bs was now h.form)) (λ written. by (written_is was.role written))
    where
      by : (is_output was.role ≡ true) ⊎ (was.role ≡ Temp) → dot was.outer bs + count_of was ≤ length (cleared was.role now.elems)
      by (inl out) = omega (arith, output_within out, h.room, cleared_long was.role now.elems)
      by (inr temp) =
          let none : dot was.outer bs ≡ 0 = ap (λ ss. dot ss bs) (laid.still temp) in
          let zeros : length was.elems ≡ count_of was = ap (length {A = ℤ}) (laid.zeros temp) ∙ length-replicate (count_of was) (pos 0) in
          omega (arith, none, zeros, h.room, cleared_long was.role now.elems)

  -- after the code ran there
  pub collected_more : (m : Store) (v : Window) → rest_of v ≡ rest_of (begun_at bs now) → argument m k ≡ array_seen v → IsCollected k (ms ++ m ∷ []) was v
  collected_more m v kept seen =
      let form : form_of v ≡ form_of was = ap (λ (r : Rest). let w : Window = record { role = r.role; ty = r.ty; axes = r.axes; outer = r.outer; elems = []; start = 0 } in w) kept ∙ h.form in
      let axes : count_of v ≡ count_of was = ap count_of form in
      let here : length (argument m k).elems ≡ count_of was = ap (λ (a : Made). length a.elems) seen ∙ length-map-range_with_len (element_seen v) 0 (count_of v) ∙ axes in
      let more = left_more k ms m in
      let long : length (left_in k (ms ++ m ∷ [])) ≡ length (left_in k ms) + count_of was =
      ap (length {A = ℤ}) more ∙ length-append (left_in k ms) (argument m k).elems ∙ ap (λ n. length (left_in k ms) + n) here in
      record {
        form = form;
        room = ap (λ (r : Rest). r.room) kept ∙ cleared_long now.role now.elems ∙ h.room;
        input = λ input. input_kept v kept input;
        each = (let n = length-append ms (m ∷ []) in let e : count_of was * (length ms + 1) ≡ count_of was * length ms + count_of was = grind arith in long ∙ ap (λ z. z + count_of was) h.each ∙ sym e ∙ ap (λ z. count_of was * z) (sym n));
        output = λ out. output_done m v kept seen long out;
      }
    where
      input_kept : (v : Window) → rest_of v ≡ rest_of (begun_at bs now) → was.role ≡ Input → v.elems ≡ was.elems
      input_kept v kept input =
          let mine : now.role ≡ Input = ap (λ (w : Window). w.role) h.form ∙ input in
          let its : v.role ≡ Input = ap (λ (r : Rest). r.role) kept ∙ mine in
          sym (ap (λ (r : Role). if is_written r then take v.start v.elems else v.elems) its)
          ∙ ap (λ (r : Rest). r.before) kept
          ∙ ap (λ (r : Role). if is_written r then take (dot now.outer bs) (cleared r now.elems) else cleared r now.elems) mine
          ∙ h.input input

      output_done : (m : Store) (v : Window) → rest_of v ≡ rest_of (begun_at bs now) → argument m k ≡ array_seen v → length (left_in k (ms ++ m ∷ [])) ≡ length (left_in k ms) + count_of was
          → is_output was.role ≡ true → v.elems ≡ left_in k (ms ++ m ∷ []) ++ drop (length (left_in k (ms ++ m ∷ []))) was.elems
      output_done m v kept seen long out =
          let W : Window = record was { elems = now.elems; start = dot was.outer bs } in
          let here : begun_at bs now ≡ W = begun_form bs was now h.form ∙ ap (λ es. record was { elems = es; start = dot was.outer bs }) (cleared_output was.role now.elems out) in
          let whole : IsWhole (rest_of W) = subst (λ (w : Window). IsWhole (rest_of w)) here whole_there in
          more_there laws W v was.elems (left_in k ms) (laid.in_order out) (output_written was.role out) whole (output_start out) (h.output out) (kept ∙ ap rest_of here)
          ∙ ap (λ zs. (left_in k ms ++ zs) ++ drop (length (left_in k ms) + count_of was) was.elems) (sym (ap (λ (a : Made). a.elems) seen))
          ∙ ap (λ zs. zs ++ drop (length (left_in k ms) + count_of was) was.elems) (sym (left_more k ms m))
          ∙ ap (λ n. left_in k (ms ++ m ∷ []) ++ drop n was.elems) (sym long)
