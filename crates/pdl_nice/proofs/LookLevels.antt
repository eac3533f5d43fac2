-- Where the tokens between two places are level, brackets that are opened there are closed there.
use Rattle.std.proofs.Common.{◌≡◌, ℕ, zero, suc, ◌+◌, ◌-◌, ◌<◌, ◌≤◌, ◌&&◌, true, false, List, [], ◌∷◌, ◌++◌, length, drop, take, map, Option, Some, None, refl, ap, sym, ◌∙◌, subst, arith, get_or, drop-cons}
use Rattle.std.proofs.lemmas.List.{get_or-take, drop-append-le, drop-map, take-map, take-append-drop, length-take-le}
use Rattle.std.proofs.Common.{drop-drop}
use Rattle.std.specs.Prelude.{option_map}
use Rattle.pdl_lex.specs.Written.{Written}
use Rattle.pdl_nice.specs.declared.looks.Look.{Look}
use Rattle.pdl_nice.specs.declared.looks.Side.{Side}
use Rattle.pdl_nice.specs.Looks.{look, push}
use Rattle.pdl_lemmas.specs.Options.{choose}
use Rattle.pdl_nice.specs.Nice.{is_none, is_separator, is_level}
use Rattle.pdl_nice.specs.Ends.{close_len, behind, opened, end_at, AreEnds}
use Rattle.pdl_lemmas.specs.Options.{some_inj, none_some, choose_elim}
use Rattle.pdl_nice.proofs.Options.{false_true, if_elim}
use Rattle.pdl_nice.proofs.NiceCuts.{push_over}
use Rattle.pdl_nice.proofs.EndLemmas.{close_none, no_end, close_step, opened_step, never_pushed, pushes}

-- one token of level tokens
record LevelStep (sides : List Side) (w : Written) (ws : List Written) : Type 0 where
  now : List Side
  pushed : push sides (look w) ≡ Some now
  level : is_level now ws ≡ true

level_step : (sides : List Side) (w : Written) (ws : List Written) → is_level sides (w ∷ ws) ≡ true → LevelStep sides w ws
unfolding is_level
level_step sides w ws e =
    if_elim (LevelStep sides w ws) (is_none sides && is_separator (look w)) e
    (λ b k. absurd (false_true k))
    (λ b k. choose_elim (LevelStep sides w ws) false (λ now. is_level now ws) (push sides (look w)) k
    (λ n f. absurd (false_true f))
    (λ now p l. record { now = now; pushed = p; level = l }))

no_level_end : (s : Side) (ss : List Side) → is_level (s ∷ ss) [] ≡ true → ⊥
unfolding is_level
no_level_end s ss e = false_true e

-- the last brackets that are open are closed by level tokens
level_closes : (above below : List Side) (ws : List Written) → is_level (above ++ below) ws ≡ true → (n : ℕ) × (close_len above (map look ws) ≡ Some n)
level_closes [] below ws e = (0, close_none (map look ws))
level_closes (s ∷ ss) below [] e = absurd (no_level_end s (ss ++ below) e)
level_closes (s ∷ ss) below (w ∷ ws) e =
    let l = level_step (s ∷ (ss ++ below)) w ws e in
    of_push (λ now h. level_closes now below ws h) l (push (s ∷ ss) (look w)) refl
  where
    of_push : ((now : List Side) → is_level (now ++ below) ws ≡ true → (n : ℕ) × (close_len now (map look ws) ≡ Some n)) →
        LevelStep (s ∷ (ss ++ below)) w ws → (o : Option (List Side)) → push (s ∷ ss) (look w) ≡ o → (n : ℕ) × (close_len (s ∷ ss) (look w ∷ map look ws) ≡ Some n)
    of_push ih l None p = absurd (none_some (sym (never_pushed s ss below (look w) p) ∙ l.pushed))
    of_push ih l (Some now) p =
        let same : now ++ below ≡ l.now = some_inj (sym (push_over (s ∷ ss) below now (look w) p) ∙ l.pushed) in
        let i = ih now (ap (λ sides. is_level sides ws) same ∙ l.level) in
        (suc i.0, close_step s ss now (look w) (map look ws) p ∙ ap (option_map suc) i.1)

-- and by no other ones where more tokens follow
close_more : (sides : List Side) (ls more : List Look) (n : ℕ) → close_len sides ls ≡ Some n → close_len sides (ls ++ more) ≡ Some n
close_more [] ls more n e = close_none (ls ++ more) ∙ (sym (close_none ls) ∙ e)
close_more (s ∷ ss) [] more n e = absurd (none_some (sym (no_end s ss) ∙ e))
close_more (s ∷ ss) (l ∷ ls) more n e =
    let o = opened_step s ss l ls n e in
    close_step s ss o.0 l (ls ++ more) o.1 ∙ (ap (option_map suc) (close_more o.0 ls more o.2 o.3) ∙ ap (λ k. Some k) o.4)

-- level tokens from some place on
level_from : (sides : List Side) (j : ℕ) (ws : List Written) (w : Written) (rest : List Written) → is_level sides ws ≡ true → drop j ws ≡ w ∷ rest →
    (now : List Side) × (is_level now (w ∷ rest) ≡ true)
level_from sides zero ws w rest l e = (sides, subst (λ xs. is_level sides xs ≡ true) e l)
level_from sides (suc j) [] w rest l e = absurd (no_tokens e)
  where
    no_tokens : ◌≡◌ {A = List Written} [] (w ∷ rest) → ⊥
    no_tokens e = cc
level_from sides (suc j) (v ∷ ws) w rest l e = let s = level_step sides v ws l in level_from s.now j ws w rest s.level e

-- a bracket's end is the same among the first tokens
end_same : (at : ℕ) (l : Look) (ls more : List Look) → ((t : Side) → opened l ≡ Some t → (n : ℕ) × (close_len (t ∷ []) ls ≡ Some n)) →
    end_at at (l ∷ (ls ++ more)) ≡ end_at at (l ∷ ls)
end_same at l ls more h = of_opened (opened l) refl
  where
    of_opened : (o : Option Side) → opened l ≡ o → choose 0 (λ s. behind (at + 1) (close_len (s ∷ []) (ls ++ more))) o ≡ choose 0 (λ s. behind (at + 1) (close_len (s ∷ []) ls)) o
    of_opened None e = refl
    of_opened (Some t) e = let i = h t e in ap (behind (at + 1)) (close_more (t ∷ []) ls more i.0 i.1 ∙ sym i.1)

front_is : (to k : ℕ) (ws : List Written) (blank : Written) → k < to → to ≤ length ws → drop k (take to ws) ≡ get_or (take to ws) k blank ∷ drop (suc k) (take to ws)
front_is to k ws blank lt le = let len = length-take-le to ws le in drop-cons (take to ws) k blank (omega (arith, len, lt))

-- one bracket's end, where the tokens from its place on are these
end_of_first : (k : ℕ) (looks firsts behind_them : List Look) (w : Written) (rest : List Written) (below : List Side) → firsts ≡ look w ∷ map look rest →
    looks ≡ firsts ++ behind_them → is_level below (w ∷ rest) ≡ true → end_at k looks ≡ end_at k firsts
end_of_first k looks firsts behind_them w rest below e f level =
    ap (end_at k) (f ∙ ap (λ ls. ls ++ behind_them) e) ∙ (end_same k (look w) (map look rest) behind_them closes ∙ ap (end_at k) (sym e))
  where
    closes : (t : Side) → opened (look w) ≡ Some t → (n : ℕ) × (close_len (t ∷ []) (map look rest) ≡ Some n)
    closes t o =
        let s = level_step below w rest level in
        let pushed : s.now ≡ t ∷ below = some_inj (sym s.pushed ∙ pushes below t (look w) o) in
        level_closes (t ∷ []) below rest (ap (λ sides. is_level sides rest) (sym pushed) ∙ s.level)

-- the ends of brackets are those of the first tokens, where these are level from a place on
pub ends_within : (ws : List Written) (looks : List Look) (ends : List ℕ) (from to : ℕ) (blank : Written) → map look ws ≡ looks → to ≤ length looks → length ws ≡ length looks →
    is_level [] (drop from (take to ws)) ≡ true → AreEnds looks ends from → AreEnds (take to looks) (take to ends) from
ends_within ws looks ends from to blank same le len level known k l1 l2 =
    let few : length (take to looks) ≡ to = length-take-le to looks le in
    let lt : k < to = omega (arith, few, l2) in
    let w = get_or (take to ws) k blank in
    let rest = drop (suc k) (take to ws) in
    let front = front_is to k ws blank lt (omega (arith, len, le)) in
    let sum : from + (k - from) ≡ k = omega (arith, l1) in
    let there : drop (k - from) (drop from (take to ws)) ≡ get_or (take to ws) k blank ∷ drop (suc k) (take to ws) =
    drop-drop (k - from) from (take to ws) ∙ (ap (λ n. drop n (take to ws)) sum ∙ front) in
    let some = level_from [] (k - from) (drop from (take to ws)) w rest level there in
    let firsts : drop k (take to looks) ≡ look w ∷ map look rest =
    ap (λ ls. drop k (take to ls)) (sym same) ∙ (ap (drop k) (take-map look to ws) ∙ (drop-map look k (take to ws) ∙ ap (map look) front)) in
    let all : drop k looks ≡ drop k (take to looks) ++ drop to looks =
    ap (drop k) (sym (take-append-drop to looks)) ∙ drop-append-le k (take to looks) (drop to looks) (omega (arith, few, lt)) in
    get_or-take to ends k 0 lt ∙ (known k l1 (omega (arith, lt, le))
    ∙ end_of_first k (drop k looks) (drop k (take to looks)) (drop to looks) w rest some.0 firsts all some.1)
