-- What is so of an engine between any two calls.
use Rattle.std.proofs.Common.{◌≡◌, ℕ, List, [], ◌∷◌, false, None, Some, Option, refl, map, arith}
use Rattle.std.proofs.lemmas.Bool.{ne_eqb}
use Rattle.pdl_world.specs.Swept.{is_listed}
use Rattle.pdl_nodes.specs.Holds.{Counts}
use Rattle.pdl_nodes.specs.RowLaws.{RowLaws}
use Rattle.pdl_nodes.specs.Rows.{Rows, NumbersBelow}
use Rattle.pdl_nodes.specs.Still.{IsStill}
use Rattle.pdl_engine.specs.Held.{AreApart}
use Rattle.pdl_engine.specs.Resting.{IsResting}
use Rattle.pdl_engine.specs.StateOf.{IsEngine, pending_in, pending_onto, state_of}
use Rattle.pdl_engine.proofs.HoldLawLemmas.{have_holds}
use Rattle.pdl_engine.proofs.StateLazy.{is_lazy}
use Rattle.pdl_engine.proofs.StateOfWorlds.{fresh_live, has_live}

-- a family has one entry at most, since the rows' numbers fall
none_onto : (j k : ℕ) (o : Option ℕ) (ps : List (ℕ × ℕ)) → (j ≡ k → ⊥) → is_listed (map (λ p. p.0) ps) k ≡ false → is_listed (map (λ p. p.0) (pending_onto j o ps)) k ≡ false
none_onto j k None ps n h = h
none_onto j k (Some b) ps n h = rw (ne_eqb j k n) h

none_newer : (rs : Rows) (k : ℕ) → NumbersBelow k rs → is_listed (map (λ p. p.0) (pending_in rs)) k ≡ false
none_newer [] k b = refl
none_newer ((j, r) ∷ rs) k b = none_onto j k r.waiting (pending_in rs) (λ e. (let z : ⊥ = omega (arith, b.0, e) in z)) (none_newer rs k b.1)

apart_onto : (k : ℕ) (o : Option ℕ) (ps : List (ℕ × ℕ)) → is_listed (map (λ p. p.0) ps) k ≡ false → AreApart (map (λ p. p.0) ps) → AreApart (map (λ p. p.0) (pending_onto k o ps))
apart_onto k None ps h a = a
apart_onto k (Some b) ps h a = (h, a)

waits_apart : (rs : Rows) → IsStill rs → AreApart (map (λ p. p.0) (pending_in rs))
waits_apart [] s = tt
waits_apart ((k, r) ∷ rs) s = apart_onto k r.waiting (pending_in rs) (none_newer rs k s.0) (waits_apart rs s.2)

pub resting : (facts : RowLaws) → (rs : Rows) (hs : Counts) (n : ℕ) → IsEngine rs hs n → IsResting (state_of rs hs n)
resting facts rs hs n e = record {
  sound = e.sound;
  lazy = is_lazy facts rs hs n e.order;
  holders = have_holds facts rs hs n e.order.still;
  live = λ v f. has_live facts rs v e.order.still (fresh_live rs v f);
  once = waits_apart rs e.order.still;
}
