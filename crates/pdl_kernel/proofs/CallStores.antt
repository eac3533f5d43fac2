-- The stores of broadcast places, one place after the other.
use Rattle.std.proofs.Common.{◌≡◌, ℕ, zero, suc, ◌+◌, ◌<◌, List, [], ◌∷◌, ◌++◌, length, Ok, Err, refl, sym, ap, subst, ◌∙◌, arith}
use Rattle.std.specs.Prelude.{Result}
use Rattle.pdl_kernel.specs.declared.faults.Fault.{Fault}
use Rattle.pdl_kernel.specs.Call.{PlacedFault, fault_at, store_before, stores_from}
use Rattle.pdl_kernel.specs.Collecting.{AreCollected, Collected}
use Rattle.pdl_kernel.specs.Meaning.{Store}
use Rattle.pdl_kernel.specs.Places.{Window}

-- the first store and the others
pub record Begins (r : Result Store Fault) (rest : Result (List Store) PlacedFault) (stores : List Store) : Type 0 where
  pub first : Store
  pub others : List Store
  pub is : r ≡ Ok first
  pub are : rest ≡ Ok others
  pub both : stores ≡ first ∷ others

pub begins : (p : ℕ) (r : Result Store Fault) (rest : Result (List Store) PlacedFault) (stores : List Store) → store_before p r rest ≡ Ok stores → Begins r rest stores
begins p (Err d) rest stores e = cc
begins p (Ok m) (Err d) stores e = cc
begins p (Ok m) (Ok ms) stores e = record { first = m; others = ms; is = refl; are = refl; both = cc }

stores_more : (f : ℕ → Result Store Fault) (n p q : ℕ) (stores : List Store) (m : Store) → p + n ≡ q → stores_from f p n ≡ Ok stores → f q ≡ Ok m → stores_from f p (suc n) ≡ Ok (stores ++ m ∷ [])
stores_more f zero p q stores m at e is =
    let none : stores ≡ [] = cc in
    let here : f p ≡ Ok m = ap f (let z : p ≡ q = omega arith in z) ∙ is in
    ap (λ r. store_before p r (Ok [])) here ∙ ap (λ ms. Ok (ms ++ m ∷ [])) (sym none)
stores_more f (suc n) p q stores m at e is =
    let b = begins p (f p) (stores_from f (p + 1) n) stores e in
    let more = stores_more f n (p + 1) q b.others m (omega arith) b.are is in
    ap (λ r. store_before p r (stores_from f (p + 1) (suc n))) b.is ∙ ap (store_before p (Ok b.first)) more ∙ ap (λ ms. Ok (ms ++ m ∷ [])) (sym b.both)

stores_fault : (f : ℕ → Result Store Fault) (n k p q : ℕ) (stores : List Store) (d : Fault) → p + n ≡ q → n < k → stores_from f p n ≡ Ok stores → f q ≡ Err d → stores_from f p k ≡ Err (fault_at q d)
stores_fault f n zero p q stores d at lt e is = absurd (omega arith)
stores_fault f zero (suc k) p q stores d at lt e is =
    let z : p ≡ q = omega arith in
    ap (λ r. store_before p r (stores_from f (p + 1) k)) (ap f z ∙ is) ∙ ap (λ n. Err (fault_at n d)) z
stores_fault f (suc n) (suc k) p q stores d at lt e is =
    let b = begins p (f p) (stores_from f (p + 1) n) stores e in
    let more = stores_fault f n k (p + 1) q b.others d (omega arith) (omega arith) b.are is in
    ap (λ r. store_before p r (stores_from f (p + 1) k)) b.is ∙ ap (store_before p (Ok b.first)) more

-- the stores of n places are n,
pub stores_long : (f : ℕ → Result Store Fault) (n p : ℕ) (ms : List Store) → stores_from f p n ≡ Ok ms → length ms ≡ n
stores_long f zero p ms e = let none : ms ≡ [] = cc in ap length none
stores_long f (suc n) p ms e =
    let b = begins p (f p) (stores_from f (p + 1) n) ms e in
    ap (length {A = Store}) b.both ∙ ap suc (stores_long f n (p + 1) b.others b.are)

-- what the places before this one left
pub record IsBehind (f : ℕ → Result Store Fault) (place : ℕ) (was now : List Window) : Type 0 where
  pub stores : List Store
  pub are : stores_from f 0 place ≡ Ok stores
  pub collected : AreCollected stores was now

pub behind_count : (f : ℕ → Result Store Fault) (place : ℕ) (was now : List Window) (h : IsBehind f place was now) → length h.stores ≡ place
behind_count f place was now h = stores_long f place 0 h.stores h.are

pub behind_more : (f : ℕ → Result Store Fault) (place : ℕ) (was now after : List Window) (m : Store) (h : IsBehind f place was now) → f place ≡ Ok m → AreCollected (h.stores ++ m ∷ []) was after → IsBehind f (place + 1) was after
behind_more f place was now after m h is more = record {
  stores = h.stores ++ m ∷ [];
  are = (let e : place + 1 ≡ suc place = omega arith in ap (stores_from f 0) e) ∙ stores_more f place 0 place h.stores m (omega arith) h.are is;
  collected = more;
}

pub behind_fault : (f : ℕ → Result Store Fault) (place count : ℕ) (was now : List Window) (d : Fault) → place < count → IsBehind f place was now → f place ≡ Err d → stores_from f 0 count ≡ Err (fault_at place d)
behind_fault f place count was now d lt h is = stores_fault f place count 0 place h.stores d (omega arith) lt h.are is

pub behind_all : (f : ℕ → Result Store Fault) (place count : ℕ) (was now : List Window) → place ≡ count → IsBehind f place was now → Collected (Ok tt) was now (stores_from f 0 count)
behind_all f place count was now same h =
    let P : Result (List Store) PlacedFault → Type 0 = λ r. Collected (Ok tt) was now r in
    subst P (sym (ap (stores_from f 0) (sym same) ∙ h.are)) h.collected
