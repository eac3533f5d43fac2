-- Arguments over all broadcast places: what code leaves at each, one behind the other.
use Rattle.std.specs.Prelude.{◌≡◌, ◌<◌, ℕ, ◌*◌, ℤ, pos, true, IfSome, List, [], ◌++◌, length, drop, get_or, replicate, Result, Ok, Err}
use Rattle.std.specs.List.{flat_map}
use Rattle.pdl_shape.specs.Shape.{coordinates_of, size_of}
use Rattle.pdl_sig.specs.declared.Role.TheVariants.{Input, Temp}
use Rattle.pdl_sig.specs.Resolution.{is_output}
use Rattle.pdl_kernel.specs.declared.faults.RunFault.{RunFault}
use Rattle.pdl_kernel.specs.Call.{PlacedFault, fault_named}
use Rattle.pdl_kernel.specs.Meaning.{Store, argument}
use Rattle.pdl_kernel.specs.Places.{AreInOrder, Window, blank, count_of, dot}

-- the windows of an output are in order and lie one behind the other, dimension 0 of the broadcast
-- fastest, and fill its buffer; a temporary is one window of zeros
pub record IsLaid (broadcast : List ℕ) (w : Window) : Type 0 where
  pub in_order : is_output w.role ≡ true → AreInOrder w.axes
  pub behind : is_output w.role ≡ true → (place : ℕ) → place < size_of broadcast →
      dot w.outer (coordinates_of broadcast place) ≡ count_of w * place
  pub filled : is_output w.role ≡ true → length w.elems ≡ count_of w * size_of broadcast
  pub still : w.role ≡ Temp → w.outer ≡ []
  pub zeros : w.role ≡ Temp → w.elems ≡ replicate (count_of w) (pos 0)

-- what code left in an argument, by its number, at one broadcast place after the other
abbrev pub left_in : (number : ℕ) → List Store → List ℤ
left_in k stores = flat_map (λ m. (argument m k).elems) stores

-- all that neither code nor another place changes
abbrev pub form_of : Window → Window
form_of w = record w { elems = []; start = 0 }

-- an argument as it was, and as it is after broadcast places: an output has what code left there,
-- and then what it had
pub record IsCollected (k : ℕ) (stores : List Store) (was now : Window) : Type 0 where
  pub form : form_of now ≡ form_of was
  pub room : length now.elems ≡ length was.elems
  pub input : was.role ≡ Input → now.elems ≡ was.elems
  pub each : length (left_in k stores) ≡ count_of was * length stores
  pub output : is_output was.role ≡ true →
      now.elems ≡ left_in k stores ++ drop (length (left_in k stores)) was.elems

-- the same of all arguments
pub record AreCollected (stores : List Store) (was now : List Window) : Type 0 where
  pub count : length now ≡ length was
  pub argument : (k : ℕ) → k < length was →
      IsCollected k stores (get_or was k blank) (get_or now k blank)

-- the arguments have what was left where all stores are there, and else the answer is the fault;
-- `NoMemory` says nothing
abbrev pub Collected : Result (Unit {0}) RunFault → (was now : List Window) →
    Result (List Store) PlacedFault → Type 0
Collected (Ok u) was now (Ok stores) = AreCollected stores was now
Collected (Ok u) was now (Err e) = ⊥
Collected (Err fault) was now wanted = IfSome (fault_named fault) (λ placed. wanted ≡ Err placed)
