-- What code keeps of a store: types, sizes, numbers of elements, and that elements are in their types' ranges.
use Rattle.std.proofs.Common.{◌≡◌, ℕ, zero, suc, ◌+◌, ℤ, pos, negsuc, List, [], ◌∷◌, map, length, replicate, get_or, Ok, Err, refl, sym, ap, subst, ◌∙◌, arith}
use Rattle.std.specs.Prelude.{All, Result, Option, Some, None, slice_set}
use Rattle.std.proofs.lemmas.List.{map-set, set-get_or, length-set}
use Rattle.std.proofs.lemmas.List.Elements.{All-set, All-get_or}
use Rattle.std.proofs.Math.ListN.{get_or-map}
use Rattle.pdl_elem.specs.declared.Ty.{Ty}
use Rattle.pdl_elem.specs.Laws.{WrappingLaws}
use Rattle.pdl_elem.specs.Types.{InRange}
use Rattle.pdl_elem.specs.declared.BinaryOp.{BinaryOp}
use Rattle.pdl_buf.specs.declared.made.Made.{Made}
use Rattle.pdl_sig.specs.declared.Resolved.{Resolved}
use Rattle.pdl_kernel.specs.declared.faults.Fault.{Fault}
use Rattle.pdl_kernel.specs.Meaning.{Store, and_then, argument, branch, changed, coordinates_in, element, indices, kept, local_type, nothing, or_range, run, start, step, stored, turns, value, with_argument}
use Rattle.pdl_code.specs.Tree.{Step, Code, repeat, choose, keep, put, done, next}

-- a relation of stores that one assignment keeps
pub record IsKept (R : Store → Store → Type 0) : Type 0 where
  pub same : (m : Store) → R m m
  pub more : (a b c : Store) → R a b → R b c → R a c
  pub put : (m : Store) (k : ℕ) (cs : List ℕ) (y : ℤ) → R m (record m { arguments = slice_set m.arguments k (stored (argument m k) cs y) })
  pub keep : (m : Store) (ty : Ty) (k : ℕ) (y : ℤ) → R m (kept ty k m y)

module _ (R : Store → Store → Type 0) (h : IsKept R) where
  abbrev Relates : Store → Result Store Fault → Type 0
  Relates m r = (m' : Store) → r ≡ Ok m' → R m m'

  at_once : (m now : Store) → R m now → Relates m (Ok now)
  at_once m now x m' e = let i : now ≡ m' = cc in subst (R m) i x

  after : {A : Type 0} (m : Store) (r : Result A Fault) (f : A → Result Store Fault) → ((x : A) → Relates m (f x)) → Relates m (and_then r f)
  after m (Ok x) f each m' e = each x m' e
  after m (Err d) f each m' e = cc

  then_more : (m : Store) (r : Result Store Fault) (f : Store → Result Store Fault) → Relates m r → ((now : Store) → Relates now (f now)) → Relates m (and_then r f)
  then_more m (Ok now) f first each m' e = h.more m now m' (first now refl) (each now m' e)
  then_more m (Err d) f first each m' e = cc

  turns_relate : (f : ℕ → Store → Result Store Fault) → ((i : ℕ) (m : Store) → Relates m (f i m)) → (n i : ℕ) (m : Store) → Relates m (turns f i n m)
  turns_relate f each zero i m = at_once m m (h.same m)
  turns_relate f each (suc n) i m = then_more m (f i m) (turns f (i + 1) n) (each i m) (λ now. turns_relate f each n (i + 1) now)

  assign_relates : (m : Store) (k : ℕ) (op : Option BinaryOp) (x : ℤ) (r : Option (List ℕ))
      → Relates m (and_then (and_then (or_range r) (λ cs. and_then (changed op (element (argument m k) cs) x) (λ y. Ok (stored (argument m k) cs y)))) (with_argument m k))
  assign_relates m k op x None m' e = cc
  assign_relates m k op x (Some cs) m' e = by_change (changed op (element (argument m k) cs) x) m' e
    where
      by_change : (r : Result ℤ Fault) → Relates m (and_then (and_then r (λ y. Ok (stored (argument m k) cs y))) (with_argument m k))
      by_change (Ok y) m' e = at_once m _ (h.put m k cs y) m' e
      by_change (Err d) m' e = cc

  branch_relates : (m : Store) (x : ℤ) (a b : Result Store Fault) → Relates m a → Relates m b → Relates m (branch x a b)
  branch_relates m (pos zero) a b ka kb = kb
  branch_relates m (pos (suc n)) a b ka kb = ka
  branch_relates m (negsuc n) a b ka kb = ka

  mutual
    pub step_relates : (r : Resolved) (s : Step) (loops : List ℕ) (m : Store) → Relates m (step r loops s m)
    step_relates r (repeat d body) loops m = turns_relate _ (λ i now. run_relates r body (slice_set loops d i) now) _ 0 m
    step_relates r (choose e whole other) loops m = after m (value r.sizes loops m e) _ (λ x. branch_relates m x _ _ (run_relates r whole loops m) (run_relates r other loops m))
    step_relates r (keep t op e) loops m = after m (value r.sizes loops m e) _ (λ x. after m (changed op (get_or m.locals t.slot (pos 0)) x) _ (λ y. at_once m _ (h.keep m (local_type r.generic t.ty) t.slot y)))
    step_relates r (put a is op e) loops m = after m (value r.sizes loops m e) _ (λ x. after m (indices r.sizes loops m is start) _ (λ found. assign_relates m a op x (coordinates_in (argument m a).dims found)))

    pub run_relates : (r : Resolved) (c : Code) (loops : List ℕ) (m : Store) → Relates m (run r loops c m)
    run_relates r done loops m = at_once m m (h.same m)
    run_relates r (next s rest) loops m = then_more m (step r loops s m) (run r loops rest) (step_relates r s loops m) (λ now. run_relates r rest loops now)

-- an array of zeros
abbrev pub blank : Made → Made
blank a = record a { elems = replicate (length a.elems) (pos 0) }

-- zeros for all numbers of a store
abbrev pub blank_store : Store → Store
blank_store m = record { arguments = map blank m.arguments; locals = replicate (length m.locals) (pos 0) }

abbrev pub HasForm : Store → Store → Type 0
HasForm m m' = blank_store m' ≡ blank_store m

blank_stored : (a : Made) (cs : List ℕ) (x : ℤ) → blank (stored a cs x) ≡ blank a
blank_stored a cs x = ap (λ n. record { ty = a.ty; dims = a.dims; elems = replicate n (pos 0) }) (length-set a.elems _ _)

pub form_is_kept : IsKept HasForm
form_is_kept = record {
  same = λ m. refl;
  more = λ a b c ab bc. bc ∙ ab;
  put = λ m k cs y.
      let same : map blank (slice_set m.arguments k (stored (argument m k) cs y)) ≡ map blank m.arguments =
      map-set blank m.arguments k (stored (argument m k) cs y) ∙ ap (slice_set (map blank m.arguments) k) (blank_stored (argument m k) cs y ∙ sym (get_or-map blank m.arguments k nothing)) ∙ set-get_or (map blank m.arguments) k (blank nothing) in
      ap (λ xs. record { arguments = xs; locals = replicate (length m.locals) (pos 0) }) same;
  keep = λ m ty k y. ap (λ n. record { arguments = map blank m.arguments; locals = replicate n (pos 0) }) (length-set m.locals _ _);
}

-- each element is in its type's range
abbrev pub IsRanged : Made → Type 0
IsRanged a = All (InRange a.ty) a.elems

abbrev pub StaysRanged : Store → Store → Type 0
StaysRanged m m' = All IsRanged m.arguments → All IsRanged m'.arguments

pub get_ranged : (xs : List Made) (k : ℕ) → All IsRanged xs → IsRanged (get_or xs k nothing)
get_ranged [] k h i d lt = absurd (omega arith)
get_ranged (a ∷ xs) zero h i d lt = All-get_or IsRanged (a ∷ xs) 0 nothing (omega arith) h i d lt
get_ranged (a ∷ xs) (suc k) h i d lt = get_ranged xs k (λ j e below. h (suc j) e (omega arith)) i d lt

pub range_is_kept : WrappingLaws → IsKept StaysRanged
range_is_kept laws = record {
  same = λ m h. h;
  more = λ a b c ab bc h. bc (ab h);
  put = λ m k cs y h. All-set IsRanged m.arguments k _ (All-set (InRange (argument m k).ty) (argument m k).elems _ _ (laws.in_range (argument m k).ty y) (get_ranged m.arguments k h)) h;
  keep = λ m ty k y h. h;
}
