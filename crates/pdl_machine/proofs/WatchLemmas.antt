-- Watches under other numbers, and the arrays that they are attached to.
use Rattle.std.proofs.Common.{◌≡◌, ℕ, zero, suc, ◌+◌, ◌-◌, List, [], ◌∷◌, ◌++◌, map, length, Option, Some, None, refl, sym, ap, ◌∙◌}
use Rattle.std.specs.Prelude.{option_map, is_none, replicate, slice_set}
use Rattle.std.proofs.lemmas.List.{map-append, map-set, length-map}
use Rattle.pdl_machine.specs.Laws.{TrimmingAttachesTheSame}
use Rattle.pdl_machine.specs.Watches.{Watches, watch_of, attached, padded, attach, entry_onto, trimmed, detach}

pub is_none-map : (g : ℕ → ℕ) (o : Option ℕ) → is_none (option_map g o) ≡ is_none o
is_none-map g None = refl
is_none-map g (Some v) = refl

-- the array of a slot under its other number
pub watch_of_renamed : (g : ℕ → ℕ) (ws : Watches) (k : ℕ) → watch_of (map (option_map g) ws) k ≡ option_map g (watch_of ws k)
watch_of_renamed g [] k = refl
watch_of_renamed g (w ∷ ws) zero = refl
watch_of_renamed g (w ∷ ws) (suc k) = watch_of_renamed g ws k

pub attached_renamed : (g : ℕ → ℕ) (ws : Watches) → attached (map (option_map g) ws) ≡ map g (attached ws)
attached_renamed g [] = refl
attached_renamed g (None ∷ ws) = attached_renamed g ws
attached_renamed g (Some v ∷ ws) = ap (λ (vs : List ℕ). g v ∷ vs) (attached_renamed g ws)

abbrev free : ℕ → Watches
free n = replicate n None

free_renamed : (g : ℕ → ℕ) (n : ℕ) → map (option_map g) (free n) ≡ free n
free_renamed g zero = refl
free_renamed g (suc n) = ap (λ (ws : Watches). None ∷ ws) (free_renamed g n)

padded_renamed : (g : ℕ → ℕ) (ws : Watches) (n : ℕ) → map (option_map g) (padded ws n) ≡ padded (map (option_map g) ws) n
padded_renamed g ws n =
    map-append (option_map g) ws (free (n - length ws))
    ∙ ap (λ (us : Watches). map (option_map g) ws ++ us) (free_renamed g (n - length ws))
    ∙ ap (λ (m : ℕ). map (option_map g) ws ++ free (n - m)) (sym (length-map ws (option_map g)))

-- a slot attached under other numbers
pub attach_renamed : (g : ℕ → ℕ) (ws : Watches) (k v : ℕ) → attach (map (option_map g) ws) k (g v) ≡ map (option_map g) (attach ws k v)
attach_renamed g ws k v =
    ap (λ (us : Watches). slice_set us k (Some (g v))) (sym (padded_renamed g ws (k + 1)))
    ∙ sym (map-set (option_map g) (padded ws (k + 1)) k (Some v))

attached_free : (n : ℕ) → attached (free n) ≡ []
attached_free zero = refl
attached_free (suc n) = attached_free n

pub attached_padded : (ws : Watches) (n : ℕ) → attached (padded ws n) ≡ attached ws
attached_padded ws n = with_free ws (n - length ws)
  where
    with_free : (us : Watches) (m : ℕ) → attached (us ++ free m) ≡ attached us
    with_free [] m = attached_free m
    with_free (None ∷ us) m = with_free us m
    with_free (Some v ∷ us) m = ap (λ (vs : List ℕ). v ∷ vs) (with_free us m)

-- a slot of more entries is attached as before
pub watch_of-padded : (ws : Watches) (n k : ℕ) → watch_of (padded ws n) k ≡ watch_of ws k
watch_of-padded ws n k = with_free ws (n - length ws) k
  where
    none_free : (m k : ℕ) → watch_of (free m) k ≡ None
    none_free zero k = refl
    none_free (suc m) zero = refl
    none_free (suc m) (suc k) = none_free m k

    with_free : (us : Watches) (m k : ℕ) → watch_of (us ++ free m) k ≡ watch_of us k
    with_free [] m k = none_free m k
    with_free (w ∷ us) m zero = refl
    with_free (w ∷ us) m (suc k) = with_free us m k

-- entries behind the last attached slot attach nothing
entry_attached : (w : Option ℕ) (ws : Watches) → attached (entry_onto w ws) ≡ attached (w ∷ ws)
entry_attached None [] = refl
entry_attached None (u ∷ us) = refl
entry_attached (Some v) ws = refl

pub attached_trimmed : TrimmingAttachesTheSame
attached_trimmed [] = refl
attached_trimmed (None ∷ ws) = entry_attached None (trimmed ws) ∙ attached_trimmed ws
attached_trimmed (Some v ∷ ws) = ap (λ (vs : List ℕ). v ∷ vs) (attached_trimmed ws)

entry_at : (w : Option ℕ) (ws : Watches) (k : ℕ) → watch_of (entry_onto w ws) k ≡ watch_of (w ∷ ws) k
entry_at None [] zero = refl
entry_at None [] (suc k) = refl
entry_at None (u ∷ us) k = refl
entry_at (Some v) ws k = refl

pub watch_of-trimmed : (ws : Watches) (k : ℕ) → watch_of (trimmed ws) k ≡ watch_of ws k
watch_of-trimmed [] k = refl
watch_of-trimmed (w ∷ ws) zero = entry_at w (trimmed ws) zero
watch_of-trimmed (w ∷ ws) (suc k) = entry_at w (trimmed ws) (suc k) ∙ watch_of-trimmed ws k

entry_renamed : (g : ℕ → ℕ) (w : Option ℕ) (ws : Watches) → entry_onto (option_map g w) (map (option_map g) ws) ≡ map (option_map g) (entry_onto w ws)
entry_renamed g None [] = refl
entry_renamed g None (u ∷ us) = refl
entry_renamed g (Some v) ws = refl

trimmed_renamed : (g : ℕ → ℕ) (ws : Watches) → trimmed (map (option_map g) ws) ≡ map (option_map g) (trimmed ws)
trimmed_renamed g [] = refl
trimmed_renamed g (w ∷ ws) = ap (entry_onto (option_map g w)) (trimmed_renamed g ws) ∙ entry_renamed g w (trimmed ws)

-- a slot given up under other numbers
pub detach_renamed : (g : ℕ → ℕ) (ws : Watches) (k : ℕ) → detach (map (option_map g) ws) k ≡ map (option_map g) (detach ws k)
detach_renamed g ws k =
    ap trimmed (sym (map-set (option_map g) ws k None)) ∙ trimmed_renamed g (slice_set ws k None)
