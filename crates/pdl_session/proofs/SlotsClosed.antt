-- Closing: watchers of slots that are attached, whatever numbers their arrays have.
use Rattle.std.proofs.Common.{◌≡◌, ℕ, [], ◌∷◌, map, take, get_or, Option, Some, None, option_map, Result, Ok, Err, refl, sym, ap, subst, ◌∙◌}
use Rattle.std.specs.Prelude.{slice_set, IsSome, OnOk, OnErr}
use Rattle.std.proofs.Math.ListN.{get_or-map}
use Rattle.std.proofs.lemmas.List.{take-map}
use Rattle.pdl_watch.specs.Watched.{ended}
use Rattle.pdl_watch.specs.Slots.{Slots, all_ended, ended_where, EndedShort}
use Rattle.pdl_machine.specs.State.{State, kept}
use Rattle.pdl_machine.specs.Tidy.{older, tidy}
use Rattle.pdl_machine.specs.Watches.{Watches}

ended_alike : (f : ℕ → ℕ) (ss : Slots) (ws : Watches) → all_ended ss (map (option_map f) ws) ≡ all_ended ss ws
ended_alike f [] ws = refl
ended_alike f (s ∷ ss) [] = refl
ended_alike f (s ∷ ss) (None ∷ ws) = ap (λ (r : Slots). option_map (ended_where None) s ∷ r) (ended_alike f ss ws)
ended_alike f (s ∷ ss) (Some v ∷ ws) = ap (λ (r : Slots). option_map ended s ∷ r) (ended_alike f ss ws)

some_renamed : (f : ℕ → ℕ) (o : Option ℕ) → IsSome o → IsSome (option_map f o)
some_renamed f None some = some
some_renamed f (Some v) some = some

get_or-map_none : (f : ℕ → ℕ) (ws : Watches) (k : ℕ) → get_or (map (option_map f) ws) k None ≡ option_map f (get_or ws k None)
get_or-map_none f ws k = get_or-map (option_map f) ws k None

ended_short_alike : (f : ℕ → ℕ) (ss : Slots) (ws : Watches) (now : Slots) → EndedShort ss ws now → EndedShort ss (map (option_map f) ws) now
ended_short_alike f ss ws now short = record {
  at = short.at;
  attached = subst (λ (o : Option ℕ). IsSome o) (sym (get_or-map_none f ws short.at)) (some_renamed f (get_or ws short.at None) short.attached);
  watcher = short.watcher;
  missed = short.missed;
  before = short.before ∙ ap (λ (r : Slots). slice_set r short.at short.watcher)
      (sym (ap (all_ended ss) (take-map (option_map f) short.at ws) ∙ ended_alike f ss (take short.at ws)));
}

-- the numbers that a session shows are no matter of it
pub closed : {T E : Type 0} (r : Result T E) (s seen : State) (ws : Watches) (ss now : Slots) → ws ≡ s.watches → tidy s ≡ seen → OnOk r (now ≡ all_ended ss ws)
    → OnOk r (now ≡ all_ended ss seen.watches)
closed (Err e) s seen ws ss now same is ended = tt
closed (Ok x) s seen ws ss now same is ended =
    ended ∙ ap (all_ended ss) same ∙ sym (ended_alike (older (kept s)) ss s.watches) ∙ ap (λ (t : State). all_ended ss t.watches) is

pub closed_short : {T E : Type 0} (r : Result T E) (s seen : State) (ws : Watches) (ss now : Slots) → ws ≡ s.watches → tidy s ≡ seen → OnErr r (EndedShort ss ws now)
    → OnErr r (EndedShort ss seen.watches now)
closed_short (Ok x) s seen ws ss now same is short = tt
closed_short (Err e) s seen ws ss now same is short =
    subst (λ (t : State). EndedShort ss t.watches now) is
    (ended_short_alike (older (kept s)) ss s.watches now (subst (λ (us : Watches). EndedShort ss us now) same short))
