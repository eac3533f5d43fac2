-- What is outside of a run, as far as it is seen: the source, the sink and the slots of watchers.
use Rattle.std.specs.Prelude.{◌≡◌, ℕ, Bool, List, Option}
use Rattle.pdl_watch.specs.Slots.{Slots, slot, CountStays}

-- Where a run gives out what it prints and what it tells: the bytes that the sink took and whether
-- it is flushed, as far as the sink tells these, how many of its calls failed, and the slots.
pub record Outlets : Type 0 where
  pub taken : Option (List ℕ)
  pub flushed : Option Bool
  pub faults : ℕ
  pub slots : Slots

-- what is seen of a sink, with these slots
abbrev pub outlets : {K : Type 0} → (taken : K → Option (List ℕ)) → (flushed : K → Option Bool) →
    (faults : K → ℕ) → (sink : K) → Slots → Outlets
outlets taken flushed faults sink slots =
    record { taken = taken sink; flushed = flushed sink; faults = faults sink; slots = slots }

-- And where its script comes from: the bytes that the source has left, as far as it tells them, and
-- how many of its calls failed.
pub record Outside : Type 0 where
  pub left : Option (List ℕ)
  pub faults : ℕ
  pub out : Outlets

-- these outlets beside a source that has this left, of whose calls so many failed
abbrev pub beside : (left : Option (List ℕ)) → (faults : ℕ) → Outlets → Outside
beside left faults out = record { left = left; faults = faults; out = out }

-- what is seen of a source, with these outlets
abbrev pub outside : {S : Type 0} → (left : S → Option (List ℕ)) → (faults : S → ℕ) →
    (source : S) → Outlets → Outside
outside left faults source out = beside (left source) (faults source) out

-- each watcher that is there still has its count of failed calls as it was
abbrev pub CountsStay : Slots → Slots → Type 0
CountsStay old now = (k : ℕ) → CountStays (slot old k) (slot now k)

-- no call of the sink or of a watcher failed
abbrev pub NoneFailed : Outlets → Outlets → Type 0
NoneFailed old now = (now.faults ≡ old.faults) × CountsStay old.slots now.slots
