-- Which slots have a watcher, by the list of watchers.
use Rattle.std.proofs.Common.{◌≡◌, ℕ, ◌<◌, List, length, get_or, false, Option, Some, None, is_some, option_map, refl, sym, ap, subst, ◌∙◌}
use Rattle.std.proofs.lemmas.List.{get_or-map, length-map}
use Rattle.pdl_watch.specs.Watched.{Watched}
use Rattle.pdl_watch.specs.Slots.{slots_by, present_in}
use Rattle.pdl_machine.specs.Watches.{is_present}

-- a slot has a watcher where the list has one there
pub present_at : {W : Type 0} (see : W → Watched) (items : List (Option W)) (k : ℕ) (w : Option W) → k < length items → w ≡ get_or items k w
    → is_some w ≡ is_present (present_in (slots_by see items)) k
present_at {W = W} see items k w inside at =
    seen_some w ∙ ap (λ (o : Option W). is_some (option_map see o)) at
    ∙ ap is_some (sym (get_or-map (option_map see) items k w None inside))
    ∙ sym (get_or-map is_some (slots_by see items) k None false (subst (λ (n : ℕ). k < n) (sym (length-map items (option_map see))) inside))
  where
    seen_some : (o : Option W) → is_some o ≡ is_some (option_map see o)
    seen_some None = refl
    seen_some (Some v) = refl
