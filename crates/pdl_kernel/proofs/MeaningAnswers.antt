-- What code leaves at all broadcast places, one behind the other, is an output by coordinates.
use Rattle.std.proofs.Common.{◌≡◌, ℕ, zero, suc, ◌+◌, ◌*◌, ◌<◌, ℤ, pos, List, [], ◌∷◌, ◌++◌, map, length, take, drop, replicate, get_or, Ok, refl, sym, ap, subst, ◌∙◌, arith}
use Rattle.std.specs.Prelude.{Bool, true, false, if◌then◌else◌, All, Option, Some, None, Result}
use Rattle.std.specs.List.{AllZip, flat_map, range_with_len}
use Rattle.std.proofs.Math.ListN.{get_or-map}
use Rattle.std.proofs.lemmas.List.{ext_get_or, get_or_append_left, get_or-append-add, length-append, length-map, length-replicate}
use Rattle.std.proofs.lemmas.List.Elements.{All-append, All-get_or}
use Rattle.std.proofs.lemmas.List.FromFn.{get_or-map-range_with_len, length-map-range_with_len}
use Rattle.pdl_elem.specs.declared.Ty.{Ty}
use Rattle.pdl_elem.specs.Laws.{WrappingLaws}
use Rattle.pdl_elem.specs.Types.{InRange}
use Rattle.pdl_shape.specs.Laws.{PositionLaws}
use Rattle.pdl_shape.specs.Shape.{IsWithin, coordinates_of, position_of, size_of}
use Rattle.pdl_buf.specs.Made.{IsMade}
use Rattle.pdl_buf.specs.declared.made.Made.{Made}
use Rattle.pdl_sig.specs.Refusals.{dim_names_limit}
use Rattle.pdl_sig.specs.Resolution.{core_sizes, is_given, is_output, size_in, type_in}
use Rattle.pdl_sig.specs.declared.Resolved.{Resolved}
use Rattle.pdl_sig.specs.declared.Role.{Role}
use Rattle.pdl_sig.specs.declared.SigArg.{SigArg}
use Rattle.pdl_code.specs.Fit.{code_locals}
use Rattle.pdl_code.specs.Tree.{Code}
use Rattle.pdl_kernel.specs.declared.faults.Fault.{Fault}
use Rattle.pdl_kernel.specs.Call.{first_given, outcome, output, output_element, outputs, start_element, started, stores_from, with_given}
use Rattle.pdl_kernel.specs.Collecting.{left_in}
use Rattle.pdl_kernel.specs.Meaning.{Store, argument, element, nothing}
use Rattle.pdl_kernel.specs.Places.{Window, blank as none}
use Rattle.pdl_kernel.specs.Setup.{IsShapeOf, outputs_in}
use Rattle.pdl_kernel.proofs.CallStores.{begins}
use Rattle.pdl_kernel.proofs.SetupLaid.{made_output, size_parts}
use Rattle.pdl_kernel.proofs.MeaningKept.{HasForm, IsRanged, StaysRanged, blank, blank_store, form_is_kept, get_ranged, range_is_kept, run_relates}

-- an argument at a broadcast place: its type and dimensions, as many elements as these say, in the type's range
pub record IsShaped (r : Resolved) (a : SigArg) (m : Made) : Type 0 where
  pub ty : m.ty ≡ type_in r.generic a.ty
  pub dims : m.dims ≡ core_sizes r.sizes a
  pub count : length m.elems ≡ size_of (core_sizes r.sizes a)
  pub ranged : IsRanged m

start_in_range : WrappingLaws → (ty : Ty) (given : Option Made) (cs : List ℕ) → InRange ty (start_element ty given cs)
start_in_range laws ty None cs = laws.zero ty
start_in_range laws ty (Some g) cs = laws.in_range ty _

all_map : {X Y : Type 0} (P : Y → Type 0) (f : X → Y) → ((x : X) → P (f x)) → (xs : List X) → All P (map f xs)
all_map P f each [] i d lt = absurd (omega arith)
all_map P f each (x ∷ xs) zero d lt = each x
all_map P f each (x ∷ xs) (suc i) d lt = all_map P f each xs i d (omega arith)

started_shaped : WrappingLaws → (r : Resolved) (bs : List ℕ) (a : SigArg) (given : Option Made) → IsShaped r a (started r bs (a, given))
started_shaped laws r bs a given =
    let ty = type_in r.generic a.ty in
    let core = core_sizes r.sizes a in
    let f = λ (q : ℕ). start_element ty given (coordinates_of core q ++ bs) in
    record {
      ty = refl;
      dims = refl;
      count = length-map-range_with_len f 0 (size_of core);
      ranged = all_map (InRange ty) f (λ q. start_in_range laws ty given (coordinates_of core q ++ bs)) (range_with_len 0 (size_of core));
    }

all_shaped : WrappingLaws → (r : Resolved) (bs : List ℕ) (args : List SigArg) (given : List Made) (k : ℕ) (d : SigArg) → k < length args
    → IsShaped r (get_or args k d) (get_or (map (started r bs) (with_given args given)) k nothing)
all_shaped laws r bs [] given k d lt = absurd (omega arith)
all_shaped laws r bs (a ∷ args) given zero d lt = started_shaped laws r bs a (first_given (is_given a.role) given)
all_shaped laws r bs (a ∷ args) given (suc k) d lt = all_shaped laws r bs args (if is_given a.role then drop 1 given else given) k d (omega arith)

all_ranged : WrappingLaws → (r : Resolved) (bs : List ℕ) (args : List SigArg) (given : List Made) → All IsRanged (map (started r bs) (with_given args given))
all_ranged laws r bs args given = all_map IsRanged (started r bs) (λ p. (started_shaped laws r bs p.0 p.1).ranged) (with_given args given)

argument_kept : (m m' : Store) (k : ℕ) → blank_store m' ≡ blank_store m → blank (argument m' k) ≡ blank (argument m k)
argument_kept m m' k h = sym (get_or-map blank m'.arguments k nothing) ∙ ap (λ (s : Store). get_or s.arguments k (blank nothing)) h ∙ get_or-map blank m.arguments k nothing

-- an argument after the code ran
pub left_shaped : WrappingLaws → (args : List SigArg) (code : Code) (r : Resolved) (given : List Made) (p : ℕ) (m : Store) → outcome args code r given p ≡ Ok m
    → (k : ℕ) (d : SigArg) → k < length args → IsShaped r (get_or args k d) (argument m k)
left_shaped laws args code r given p m is k d lt =
    let bs = coordinates_of r.broadcast p in
    let from : Store = record { arguments = map (started r bs) (with_given args given); locals = replicate (code_locals 0 code) (pos 0) } in
    let form = run_relates HasForm form_is_kept r code (replicate dim_names_limit 0) from m is in
    let ranged = run_relates StaysRanged (range_is_kept laws) r code (replicate dim_names_limit 0) from m is (all_ranged laws r bs args given) in
    let s = all_shaped laws r bs args given k d lt in
    let same : blank (argument m k) ≡ blank (argument from k) = argument_kept from m k form in
    record {
      ty = ap (λ (a : Made). a.ty) same ∙ s.ty;
      dims = ap (λ (a : Made). a.dims) same ∙ s.dims;
      count = sym (length-replicate (length (argument m k).elems) (pos 0)) ∙ ap (λ (a : Made). length a.elems) same ∙ length-replicate (length (argument from k).elems) (pos 0) ∙ s.count;
      ranged = get_ranged m.arguments k ranged;
    }

-- each store of n places is that of its place
pub stores_hold : (P : Store → Type 0) (f : ℕ → Result Store Fault) → ((p : ℕ) (m : Store) → f p ≡ Ok m → P m) → (n p : ℕ) (ms : List Store) → stores_from f p n ≡ Ok ms → All P ms
stores_hold P f each zero p ms e = let none : ms ≡ [] = cc in subst (All P) (sym none) (λ i d lt. absurd (omega arith))
stores_hold P f each (suc n) p ms e =
    let b = begins p (f p) (stores_from f (p + 1) n) ms e in
    let rest = stores_hold P f each n (p + 1) b.others b.are in
    subst (All P) (sym b.both) (both b.first b.others (each p b.first b.is) rest)
  where
    both : (m : Store) (ms : List Store) → P m → All P ms → All P (m ∷ ms)
    both m ms h rest zero d lt = h
    both m ms h rest (suc i) d lt = rest i d (omega arith)

-- lists of one length, one behind the other
flat_length : (s : ℕ) (f : Store → List ℤ) (ms : List Store) → All (λ m. length (f m) ≡ s) ms → length (flat_map f ms) ≡ s * length ms
flat_length s f [] h = omega arith
flat_length s f (m ∷ ms) h =
    let a : length (f m) ≡ s = h 0 m (omega arith) in
    let b : length (flat_map f ms) ≡ s * length ms = flat_length s f ms (λ i d lt. h (suc i) d (omega arith)) in
    let c : s * suc (length ms) ≡ s + s * length ms = grind arith in
    length-append (f m) (flat_map f ms) ∙ (let e : length (f m) + length (flat_map f ms) ≡ s * suc (length ms) = omega (arith, a, b, c) in e)

flat_at : (s : ℕ) (f : Store → List ℤ) (ms : List Store) (j q : ℕ) (d : Store) → All (λ m. length (f m) ≡ s) ms → j < length ms → q < s
    → get_or (flat_map f ms) (q + s * j) (pos 0) ≡ get_or (f (get_or ms j d)) q (pos 0)
flat_at s f [] j q d h lj lq = absurd (omega arith)
flat_at s f (m ∷ ms) zero q d h lj lq =
    let a : length (f m) ≡ s = h 0 m (omega arith) in
    let e : q + s * 0 ≡ q = omega arith in
    ap (λ n. get_or (f m ++ flat_map f ms) n (pos 0)) e ∙ get_or_append_left (f m) (flat_map f ms) (pos 0) q (omega (arith, a, lq))
flat_at s f (m ∷ ms) (suc j) q d h lj lq =
    let a : length (f m) ≡ s = h 0 m (omega arith) in
    let c : s * suc j ≡ s + s * j = grind arith in
    let e : q + s * suc j ≡ length (f m) + (q + s * j) = omega (arith, a, c) in
    ap (λ n. get_or (f m ++ flat_map f ms) n (pos 0)) e ∙ get_or-append-add (f m) (flat_map f ms) (q + s * j) (pos 0) ∙ flat_at s f ms j q d (λ i d lt. h (suc i) d (omega arith)) (omega arith) lq

-- coordinates of two parts
position_parts : (xs ys cs : List ℕ) → IsWithin (xs ++ ys) cs → position_of (xs ++ ys) cs ≡ position_of xs (take (length xs) cs) + size_of xs * position_of ys (drop (length xs) cs)
position_parts [] ys cs w = omega arith
position_parts (x ∷ xs) ys [] w = absurd w
position_parts (x ∷ xs) ys (c ∷ cs) w =
    let rest : position_of (xs ++ ys) cs ≡ position_of xs (take (length xs) cs) + size_of xs * position_of ys (drop (length xs) cs) = position_parts xs ys cs w.1 in
    rw rest (grind arith)

within_parts : (xs ys cs : List ℕ) → IsWithin (xs ++ ys) cs → IsWithin xs (take (length xs) cs) × IsWithin ys (drop (length xs) cs)
within_parts [] ys cs w = (tt, w)
within_parts (x ∷ xs) ys [] w = absurd w
within_parts (x ∷ xs) ys (c ∷ cs) w = let rest = within_parts xs ys cs w.1 in ((w.0, rest.0), rest.1)

-- what is left is the elements of the output
elements_are : PositionLaws → (r : Resolved) (ms : List Store) (k : ℕ) (a : SigArg) → length ms ≡ size_of r.broadcast → All (λ m. IsShaped r a (argument m k)) ms
    → flat_map (λ m. (argument m k).elems) ms ≡ (output r ms k a).elems
elements_are laws r ms k a count shaped =
    let core = core_sizes r.sizes a in
    let dims = core ++ r.broadcast in
    let f : Store → List ℤ = λ m. (argument m k).elems in
    let at : ℕ → ℤ = λ q. output_element r.broadcast ms k (length a.dims) (coordinates_of dims q) in
    let long : All (λ m. length (f m) ≡ size_of core) ms = λ i d lt. (shaped i d lt).count in
    let n : length (flat_map f ms) ≡ size_of dims = flat_length (size_of core) f ms long ∙ ap (λ z. size_of core * z) count ∙ sym (size_parts core r.broadcast) in
    let rank : length core ≡ length a.dims = length-map a.dims (size_in r.sizes) in
    ext_get_or (pos 0) (flat_map f ms) (map at (range_with_len 0 (size_of dims))) (n ∙ sym (length-map-range_with_len at 0 (size_of dims)))
    (λ i lt.
    let below : i < size_of dims = omega (arith, n, lt) in
    let cs = coordinates_of dims i in
    let w = laws.coordinates_within dims i below in
    let parts = within_parts core r.broadcast cs w in
    let q = position_of core (take (length core) cs) in
    let j = position_of r.broadcast (drop (length core) cs) in
    let e : i ≡ q + size_of core * j = sym (laws.position_again dims i below) ∙ position_parts core r.broadcast cs w in
    let lq : q < size_of core = laws.position_below core (take (length core) cs) parts.0 in
    let lj : j < length ms = (let b : j < size_of r.broadcast = laws.position_below r.broadcast (drop (length core) cs) parts.1 in omega (arith, b, count)) in
    let none : Store = record { arguments = []; locals = [] } in
    let m = get_or ms j none in
    let s : IsShaped r a (argument m k) = All-get_or (λ m. IsShaped r a (argument m k)) ms j none lj shaped in
    ap (λ z. get_or (flat_map f ms) z (pos 0)) e ∙ flat_at (size_of core) f ms j q none long lj lq
    ∙ ap (λ (ds : List ℕ). get_or (f m) (position_of ds (take (length core) cs)) (pos 0)) (sym s.dims)
    ∙ ap (λ z. element (argument (get_or ms (position_of r.broadcast (drop z cs)) none) k) (take z cs)) rank
    ∙ sym (get_or-map-range_with_len at 0 (size_of dims) i i (pos 0) below (omega arith)))

flat_ranged : (ty : Ty) (f : Store → List ℤ) (ms : List Store) → All (λ m. All (InRange ty) (f m)) ms → All (InRange ty) (flat_map f ms)
flat_ranged ty f [] h i d lt = absurd (omega arith)
flat_ranged ty f (m ∷ ms) h i d lt = All-append (InRange ty) (f m) (flat_map f ms) (h 0 m (omega arith)) (flat_ranged ty f ms (λ i d lt. h (suc i) d (omega arith))) i d lt

output_made : PositionLaws → (r : Resolved) (ms : List Store) (k : ℕ) (a : SigArg) → length ms ≡ size_of r.broadcast → All (λ m. IsShaped r a (argument m k)) ms
    → IsMade (output r ms k a).ty (output r ms k a).dims (output r ms k a).elems
output_made laws r ms k a count shaped =
    let dims = core_sizes r.sizes a ++ r.broadcast in
    record {
      count = length-map-range_with_len (λ q. output_element r.broadcast ms k (length a.dims) (coordinates_of dims q)) 0 (size_of dims);
      in_range = subst (All (InRange (type_in r.generic a.ty))) (elements_are laws r ms k a count shaped)
          (flat_ranged (type_in r.generic a.ty) (λ m. (argument m k).elems) ms (λ i d lt. let s = shaped i d lt in subst (λ (ty : Ty). All (InRange ty) (argument (get_or ms i d) k).elems) s.ty s.ranged));
    }

-- what holds of an argument behind the first holds from its number on
shaped_first : (r : Resolved) (ms : List Store) (a : SigArg) (k : ℕ) → All (λ m. IsShaped r a (argument m (k + 0))) ms → All (λ m. IsShaped r a (argument m k)) ms
shaped_first r ms a k h = let e : k + 0 ≡ k = omega arith in subst (λ n. All (λ m. IsShaped r a (argument m n)) ms) e h

shaped_next : (r : Resolved) (ms : List Store) (a : SigArg) (k i : ℕ) → All (λ m. IsShaped r a (argument m (k + suc i))) ms → All (λ m. IsShaped r a (argument m (k + 1 + i))) ms
shaped_next r ms a k i h = let e : k + suc i ≡ k + 1 + i = omega arith in subst (λ n. All (λ m. IsShaped r a (argument m n)) ms) e h

-- an argument when the code has run at each broadcast place
pub record IsEnd (r : Resolved) (ms : List Store) (k : ℕ) (a : SigArg) (w : Window) : Type 0 where
  pub role : w.role ≡ a.role
  pub ty : w.ty ≡ type_in r.generic a.ty
  pub elems : is_output a.role ≡ true → w.elems ≡ left_in k ms

end_is : PositionLaws → (r : Resolved) (ms : List Store) (k : ℕ) (a : SigArg) (w : Window) (dims : List ℕ) (rest : List Made) → length ms ≡ size_of r.broadcast → All (λ m. IsShaped r a (argument m k)) ms → IsEnd r ms k a w → IsShapeOf r a dims
    → (b : Bool) → is_output a.role ≡ b → (if b then record { ty = w.ty; dims = dims; elems = w.elems } ∷ rest else rest) ≡ (if b then output r ms k a ∷ rest else rest)
end_is laws r ms k a w dims rest count shaped h shape false out = refl
end_is laws r ms k a w dims rest count shaped h shape true out =
    let made = made_output a.role (core_sizes r.sizes a) r.broadcast out in
    let M : Ty → List ℕ → List ℤ → List Made = λ t ds es. record { ty = t; dims = ds; elems = es } ∷ rest in
    ap (λ t. M t dims w.elems) h.ty ∙ ap (λ ds. M (type_in r.generic a.ty) ds w.elems) (shape made.0 ∙ made.1)
    ∙ ap (M (type_in r.generic a.ty) (core_sizes r.sizes a ++ r.broadcast)) (h.elems out ∙ elements_are laws r ms k a count shaped)

end_first : (r : Resolved) (ms : List Store) (k : ℕ) (a : SigArg) (w : Window) → IsEnd r ms (k + 0) a w → IsEnd r ms k a w
end_first r ms k a w h = let e : k + 0 ≡ k = omega arith in subst (λ n. IsEnd r ms n a w) e h

end_next : (r : Resolved) (ms : List Store) (k i : ℕ) (a : SigArg) (w : Window) → IsEnd r ms (k + suc i) a w → IsEnd r ms (k + 1 + i) a w
end_next r ms k i a w h = let e : k + suc i ≡ k + 1 + i = omega arith in subst (λ n. IsEnd r ms n a w) e h

-- all outputs
pub outputs_are : PositionLaws → (r : Resolved) (ms : List Store) (args : List SigArg) (dims : List (List ℕ)) (ws : List Window) (k : ℕ) → length ms ≡ size_of r.broadcast
    → ((i : ℕ) (d : SigArg) → i < length args → All (λ m. IsShaped r (get_or args i d) (argument m (k + i))) ms)
    → AllZip (IsShapeOf r) args dims → length ws ≡ length args
    → ((i : ℕ) (d : SigArg) → i < length args → IsEnd r ms (k + i) (get_or args i d) (get_or ws i none)) → outputs_in dims ws ≡ outputs r ms k args
outputs_are laws r ms [] [] ws k count shaped shapes long ends = refl
outputs_are laws r ms [] (d ∷ dims) ws k count shaped shapes long ends = absurd shapes
outputs_are laws r ms (a ∷ args) [] ws k count shaped shapes long ends = absurd shapes
outputs_are laws r ms (a ∷ args) (d ∷ dims) [] k count shaped shapes long ends = absurd (omega (arith, long))
outputs_are laws r ms (a ∷ args) (d ∷ dims) (w ∷ ws) k count shaped shapes long ends =
    let h = end_first r ms k a w (ends 0 a (omega arith)) in
    let W : List Made → List Made = λ rest. (if is_output w.role then record { ty = w.ty; dims = d; elems = w.elems } ∷ rest else rest) in
    ap W (outputs_are laws r ms args dims ws (k + 1) count (λ i e lt. shaped_next r ms (get_or args i e) k i (shaped (suc i) e (omega (arith, lt)))) shapes.1 (omega (arith, long))
    (λ i e lt. end_next r ms k i (get_or args i e) (get_or ws i none) (ends (suc i) e (omega (arith, lt)))))
    ∙ ap (λ (x : Role). (if is_output x then record { ty = w.ty; dims = d; elems = w.elems } ∷ outputs r ms (k + 1) args else outputs r ms (k + 1) args)) h.role
    ∙ end_is laws r ms k a w d (outputs r ms (k + 1) args) count (shaped_first r ms a k (shaped 0 a (omega arith))) h shapes.0 (is_output a.role) refl

first_made : PositionLaws → (r : Resolved) (ms : List Store) (a : SigArg) (args : List SigArg) (k : ℕ) → length ms ≡ size_of r.broadcast → All (λ m. IsShaped r a (argument m k)) ms
    → All (λ (m : Made). IsMade m.ty m.dims m.elems) (outputs r ms (k + 1) args) → (b : Bool)
    → All (λ (m : Made). IsMade m.ty m.dims m.elems) (if b then output r ms k a ∷ outputs r ms (k + 1) args else outputs r ms (k + 1) args)
first_made laws r ms a args k count here rest false i d lt = rest i d lt
first_made laws r ms a args k count here rest true zero d lt = output_made laws r ms k a count here
first_made laws r ms a args k count here rest true (suc i) d lt = rest i d (omega arith)

pub outputs_made : PositionLaws → (r : Resolved) (ms : List Store) (args : List SigArg) (k : ℕ) → length ms ≡ size_of r.broadcast
    → ((i : ℕ) (d : SigArg) → i < length args → All (λ m. IsShaped r (get_or args i d) (argument m (k + i))) ms)
    → All (λ (m : Made). IsMade m.ty m.dims m.elems) (outputs r ms k args)
outputs_made laws r ms [] k count shaped i d lt = absurd (omega arith)
outputs_made laws r ms (a ∷ args) k count shaped i d lt =
    first_made laws r ms a args k count (shaped_first r ms a k (shaped 0 a (omega arith)))
    (outputs_made laws r ms args (k + 1) count (λ i d lt. shaped_next r ms (get_or args i d) k i (shaped (suc i) d (omega arith))))
    (is_output a.role) i d lt
