-- Tokens are cut where their looks say so.
use Rattle.std.specs.Prelude.{option_map, option_and_then}
use Rattle.std.proofs.Common.{◌≡◌, ℕ, zero, suc, ◌+◌, ◌-◌, ◌≤◌, ◌&&◌, Bool, true, false, List, [], ◌∷◌, length, drop, take, map, Option, Some, None, refl, ap, ◌∙◌, arith, get_or, drop-drop, if◌then◌else◌}
use Rattle.std.proofs.lemmas.List.{get_or-drop}
use Rattle.pdl_nice.specs.declared.looks.Side.{Side}
use Rattle.pdl_lex.specs.Written.{Written}
use Rattle.pdl_nice.specs.Looks.{look, push}
use Rattle.pdl_nice.specs.Nice.{is_none, is_bar, Cut, cut, cut_here, with_first}
use Rattle.pdl_nice.specs.Ends.{bar_len, further, range, no_token, cut_to}

-- tokens that are cut behind so many
abbrev cut_after : List Written → ℕ → Cut
cut_after ws n = record { front = take n ws; bar = get_or ws n no_token; rest = drop (suc n) ws }

later : (w : Written) (ws : List Written) (o : Option ℕ) → option_map (with_first w) (option_map (cut_after ws) o) ≡ option_map (cut_after (w ∷ ws)) (option_map suc o)
later w ws None = refl
later w ws (Some n) = refl

cut_at : (sides : List Side) (ws : List Written) → cut sides ws ≡ option_map (cut_after ws) (bar_len sides (map look ws))
unfolding cut bar_len
cut_at sides [] = refl
cut_at sides (w ∷ ws) = of_test (λ now. cut_at now ws) (is_none sides && is_bar (look w)) (push sides (look w))
  where
    of_test : ((now : List Side) → cut now ws ≡ option_map (cut_after ws) (bar_len now (map look ws))) → (b : Bool) (o : Option (List Side)) →
        (if b then Some (cut_here w ws) else option_and_then (λ now. option_map (with_first w) (cut now ws)) o)
        ≡ option_map (cut_after (w ∷ ws)) (if b then Some 0 else option_and_then (λ now. option_map suc (bar_len now (map look ws))) o)
    of_test ih true o = refl
    of_test ih false None = refl
    of_test ih false (Some now) = ap (option_map (with_first w)) (ih now) ∙ later w ws (bar_len now (map look ws))

looks_from : (from : ℕ) (ws : List Written) → map look (drop from ws) ≡ drop from (map look ws)
looks_from zero ws = refl
looks_from (suc from) [] = refl
looks_from (suc from) (w ∷ ws) = looks_from from ws

moved : (ws : List Written) (from : ℕ) (o : Option ℕ) → option_map (cut_after (drop from ws)) o ≡ option_map (cut_to ws from) (further from o)
moved ws from None = refl
moved ws from (Some n) =
    let many : n ≡ from + n - from = omega arith in
    let rest : from + suc n ≡ from + n + 1 = omega arith in
    ap (λ m. Some (record { front = take m (drop from ws); bar = get_or (drop from ws) n no_token; rest = drop (suc n) (drop from ws) })) many
    ∙ (ap (λ w. Some (record { front = range ws from (from + n); bar = w; rest = drop (suc n) (drop from ws) })) (get_or-drop from ws n no_token)
    ∙ ap (λ r. Some (record { front = range ws from (from + n); bar = get_or ws (from + n) no_token; rest = r }))
    (drop-drop (suc n) from ws ∙ ap (λ m. drop m ws) rest))

pub cuts_are_bars : (ws : List Written) (from : ℕ) → from ≤ length ws →
    cut [] (drop from ws) ≡ option_map (cut_to ws from) (further from (bar_len [] (drop from (map look ws))))
cuts_are_bars ws from le =
    cut_at [] (drop from ws) ∙ (ap (λ ls. option_map (cut_after (drop from ws)) (bar_len [] ls)) (looks_from from ws)
    ∙ moved ws from (bar_len [] (drop from (map look ws))))
