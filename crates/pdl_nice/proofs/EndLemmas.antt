-- Where brackets are closed, token by token.
use Rattle.std.specs.Prelude.{option_map}
use Rattle.std.proofs.Common.{◌≡◌, ℕ, suc, ◌+◌, ◌<◌, ◌≤◌, List, [], ◌∷◌, ◌++◌, length, drop, Option, Some, None, refl, ap, sym, ◌∙◌, arith, rules, true, false, get_or, drop-cons, length-drop, drop-drop, add-one}
use Rattle.std.proofs.Common.{drop_of_length-le}
use Rattle.pdl_nice.specs.contracts.looks.SidePartialEq.TheImpl as side
use Rattle.pdl_nice.specs.declared.looks.Look.{Look}
use Rattle.pdl_nice.specs.declared.looks.Look.TheVariants.{Opens as opens, Shuts as shuts, OpensSquare as opens_square, ShutsSquare as shuts_square}
use Rattle.pdl_nice.specs.declared.looks.Side.{Side}
use Rattle.pdl_nice.specs.declared.looks.Side.TheVariants.{Round as round, Square as square}
use Rattle.pdl_nice.specs.Looks.{push}
use Rattle.pdl_nice.specs.Ends.{close_len, behind, opened, closed, end_at}
use Rattle.pdl_lemmas.specs.Options.{some_inj, none_some, map_elim, then_elim}
use Rattle.pdl_nice.proofs.NiceCuts.{push_over}

pub close_none : (ls : List Look) → close_len [] ls ≡ Some 0
unfolding close_len
close_none ls = refl

pub no_end : (s : Side) (ss : List Side) → close_len (s ∷ ss) [] ≡ None
unfolding close_len
no_end s ss = refl

pub close_empty : (s : Side) → close_len (s ∷ []) [] ≡ None
unfolding close_len
close_empty s = refl

pub close_step : (s : Side) (ss now : List Side) (l : Look) (ls : List Look) → push (s ∷ ss) l ≡ Some now →
    close_len (s ∷ ss) (l ∷ ls) ≡ option_map suc (close_len now ls)
unfolding close_len
close_step s ss now l ls p = rw p refl

close_wrong : (s : Side) (ss : List Side) (l : Look) (ls : List Look) → push (s ∷ ss) l ≡ None → close_len (s ∷ ss) (l ∷ ls) ≡ None
unfolding close_len
close_wrong s ss l ls p = rw p refl

pub never_pushed : (s : Side) (ss below : List Side) (l : Look) → push (s ∷ ss) l ≡ None → push (s ∷ (ss ++ below)) l ≡ None
never_pushed s ss below opens e = absurd (none_some (sym e))
never_pushed s ss below opens_square e = absurd (none_some (sym e))
never_pushed round ss below shuts e = absurd (none_some (sym e))
never_pushed square ss below shuts e = refl
never_pushed round ss below shuts_square e = refl
never_pushed square ss below shuts_square e = absurd (none_some (sym e))
never_pushed s ss below _ e = absurd (none_some (sym e))

pub mapped_same : (n : ℕ) (o : Option ℕ) → n ≡ 0 → option_map (λ m. n + m) o ≡ o
mapped_same n None e = refl
mapped_same n (Some m) e = let same : n + m ≡ m = omega (arith, e) in ap (λ k. Some k) same

pub mapped_twice : (n m : ℕ) (o : Option ℕ) → suc n ≡ m → option_map suc (option_map (λ k. n + k) o) ≡ option_map (λ k. m + k) o
mapped_twice n m None e = refl
mapped_twice n m (Some k) e = let same : suc (n + k) ≡ m + k = omega (arith, e) in ap (λ j. Some j) same

pub drop_suc : (m n : ℕ) (l : Look) (ls : List Look) → suc m ≡ n → drop n (l ∷ ls) ≡ drop m ls
drop_suc m n l ls e = ap (λ k. drop k (l ∷ ls)) (sym e)

-- how a step into brackets is undone
abbrev pub Opened : (s : Side) (ss : List Side) (l : Look) (ls : List Look) (n : ℕ) → Type 0
Opened s ss l ls n = (now : List Side) × (push (s ∷ ss) l ≡ Some now) × (m : ℕ) × (close_len now ls ≡ Some m) × (suc m ≡ n)

pub opened_step : (s : Side) (ss : List Side) (l : Look) (ls : List Look) (n : ℕ) → close_len (s ∷ ss) (l ∷ ls) ≡ Some n → Opened s ss l ls n
unfolding close_len
opened_step s ss l ls n e =
    then_elim (Opened s ss l ls n) (λ now. option_map suc (close_len now ls)) (push (s ∷ ss) l) e
    (λ now p k. map_elim (Opened s ss l ls n) suc (close_len now ls) k (λ m c same. (now, p, m, c, same)))

-- brackets that are closed within others
pub close_over : (above below : List Side) (ls : List Look) (n : ℕ) → close_len above ls ≡ Some n →
    close_len (above ++ below) ls ≡ option_map (λ m. n + m) (close_len below (drop n ls))
close_over [] below ls n e =
    let none : n ≡ 0 = sym (some_inj (sym (close_none ls) ∙ e)) in
    ap (λ k. close_len below (drop k ls)) (sym none) ∙ sym (mapped_same n (close_len below (drop n ls)) none)
close_over (s ∷ ss) below [] n e = absurd (none_some (sym (no_end s ss) ∙ e))
close_over (s ∷ ss) below (l ∷ ls) n e =
    let o = opened_step s ss l ls n e in
    close_step s (ss ++ below) (o.0 ++ below) l ls (push_over (s ∷ ss) below o.0 l o.1)
    ∙ (ap (option_map suc) (close_over o.0 below ls o.2 o.3)
    ∙ (mapped_twice o.2 n (close_len below (drop o.2 ls)) o.4
    ∙ ap (λ ks. option_map (λ m. n + m) (close_len below ks)) (sym (drop_suc o.2 n l ls o.4))))

-- and those that aren't
pub never_over : (s : Side) (ss below : List Side) (ls : List Look) → close_len (s ∷ ss) ls ≡ None → close_len (s ∷ (ss ++ below)) ls ≡ None
never_over s ss below [] e = no_end s (ss ++ below)
never_over s ss below (l ∷ ls) e = of_push (λ t now c. never_over t now below ls c) (push (s ∷ ss) l) refl
  where
    of_len : ((t : Side) (now : List Side) → close_len (t ∷ now) ls ≡ None → close_len (t ∷ (now ++ below)) ls ≡ None) →
        (now : List Side) → push (s ∷ ss) l ≡ Some now → (o : Option ℕ) → close_len now ls ≡ o → close_len (s ∷ (ss ++ below)) (l ∷ ls) ≡ None
    of_len ih [] p o c = absurd (none_some (sym e ∙ (close_step s ss [] l ls p ∙ ap (option_map suc) (close_none ls))))
    of_len ih (t ∷ now) p None c =
        close_step s (ss ++ below) (t ∷ (now ++ below)) l ls (push_over (s ∷ ss) below (t ∷ now) l p) ∙ ap (option_map suc) (ih t now c)
    of_len ih (t ∷ now) p (Some m) c = absurd (none_some (sym e ∙ (close_step s ss (t ∷ now) l ls p ∙ ap (option_map suc) c)))

    of_push : ((t : Side) (now : List Side) → close_len (t ∷ now) ls ≡ None → close_len (t ∷ (now ++ below)) ls ≡ None) →
        (o : Option (List Side)) → push (s ∷ ss) l ≡ o → close_len (s ∷ (ss ++ below)) (l ∷ ls) ≡ None
    of_push ih None p = close_wrong s (ss ++ below) l ls (never_pushed s ss below l p)
    of_push ih (Some now) p = of_len ih now p (close_len now ls) refl

pub close_le : (ss : List Side) (ls : List Look) (n : ℕ) → close_len ss ls ≡ Some n → n ≤ length ls
close_le [] ls n e = let z : n ≡ 0 = sym (some_inj (sym (close_none ls) ∙ e)) in omega (arith, z)
close_le (s ∷ ss) [] n e = absurd (none_some (sym (no_end s ss) ∙ e))
close_le (s ∷ ss) (l ∷ ls) n e = let o = opened_step s ss l ls n e in let b = close_le o.0 ls o.2 o.3 in let z = o.4 in omega (arith, b, z)

behind_suc : (at : ℕ) (o : Option ℕ) → behind at (option_map suc o) ≡ behind (at + 1) o
behind_suc at None = refl
behind_suc at (Some n) = omega arith

-- a look that opens a bracket goes onto the others
pub pushes : (ss : List Side) (t : Side) (l : Look) → opened l ≡ Some t → push ss l ≡ Some (t ∷ ss)
pushes ss t opens e = ap (λ s. Some (s ∷ ss)) (some_inj e)
pushes ss t opens_square e = ap (λ s. Some (s ∷ ss)) (some_inj e)
pushes ss t _ e = absurd (none_some e)

pub open_none : (s t : Side) (l : Look) (ls : List Look) (at : ℕ) → opened l ≡ Some t → behind (at + 1) (close_len (t ∷ []) ls) ≡ 0 →
    behind at (close_len (s ∷ []) (l ∷ ls)) ≡ 0
open_none s t l ls at h z = of_len (close_len (t ∷ []) ls) refl
  where
    of_len : (o : Option ℕ) → close_len (t ∷ []) ls ≡ o → behind at (close_len (s ∷ []) (l ∷ ls)) ≡ 0
    of_len None e =
        ap (behind at) (close_step s [] (t ∷ s ∷ []) l ls (pushes (s ∷ []) t l h) ∙ ap (option_map suc) (never_over t [] (s ∷ []) ls e))
    of_len (Some n) e = let no : at + 1 + n ≡ 0 = sym (ap (behind (at + 1)) e) ∙ z in absurd (omega (arith, no))

-- from a place behind inner brackets on
pub record Skipped (s : Side) (l : Look) (ls : List Look) (at end : ℕ) : Type 0 where
  pub n : ℕ
  pub is : end ≡ at + 1 + n
  pub within : n ≤ length ls
  pub same : behind at (close_len (s ∷ []) (l ∷ ls)) ≡ behind end (close_len (s ∷ []) (drop n ls))

pub open_some : (s t : Side) (l : Look) (ls : List Look) (at end : ℕ) → opened l ≡ Some t → end ≡ behind (at + 1) (close_len (t ∷ []) ls) →
    (end ≡ 0 → ⊥) → Skipped s l ls at end
open_some s t l ls at end h z some = of_len (close_len (t ∷ []) ls) refl
  where
    summed : (n : ℕ) (o : Option ℕ) → end ≡ at + 1 + n → behind at (option_map suc (option_map (λ m. n + m) o)) ≡ behind end o
    summed n None e = refl
    summed n (Some m) e = omega (arith, e)

    of_len : (o : Option ℕ) → close_len (t ∷ []) ls ≡ o → Skipped s l ls at end
    of_len None e = absurd (some (z ∙ ap (behind (at + 1)) e))
    of_len (Some n) e =
        let is : end ≡ at + 1 + n = z ∙ ap (behind (at + 1)) e in
        record {
          n = n;
          is = is;
          within = close_le (t ∷ []) ls n e;
          same = ap (behind at) (close_step s [] (t ∷ s ∷ []) l ls (pushes (s ∷ []) t l h) ∙ ap (option_map suc) (close_over (t ∷ []) (s ∷ []) ls n e))
              ∙ summed n (close_len (s ∷ []) (drop n ls)) is;
        }

right : (s : Side) (l : Look) → closed l ≡ Some s → push (s ∷ []) l ≡ Some []
right round shuts e = refl
right square shuts_square e = refl
right square shuts e = absurd (no (some_inj e))
  where
    no : round ≡ square → ⊥
    no h = search rules
right round shuts_square e = absurd (no (some_inj e))
  where
    no : square ≡ round → ⊥
    no h = search rules
right s _ e = absurd (none_some e)

wrong : (s t : Side) (l : Look) → closed l ≡ Some t → (t ≡ s → ⊥) → push (s ∷ []) l ≡ None
wrong round t shuts e n = absurd (n (sym (some_inj e)))
wrong square t shuts e n = refl
wrong square t shuts_square e n = absurd (n (sym (some_inj e)))
wrong round t shuts_square e n = refl
wrong s t _ e n = absurd (none_some e)

pub closed_right : (s : Side) (l : Look) (ls : List Look) (at : ℕ) → closed l ≡ Some s → behind at (close_len (s ∷ []) (l ∷ ls)) ≡ at + 1
closed_right s l ls at h = ap (behind at) (close_step s [] [] l ls (right s l h) ∙ ap (option_map suc) (close_none ls))

pub closed_wrong : (s t : Side) (l : Look) (ls : List Look) (at : ℕ) → closed l ≡ Some t → (t ≡ s → ⊥) → behind at (close_len (s ∷ []) (l ∷ ls)) ≡ 0
closed_wrong s t l ls at h n = ap (behind at) (close_wrong s [] l ls (wrong s t l h n))

stays : (s : Side) (l : Look) → opened l ≡ None → closed l ≡ None → push (s ∷ []) l ≡ Some (s ∷ [])
stays s opens h k = absurd (none_some (sym h))
stays s opens_square h k = absurd (none_some (sym h))
stays s shuts h k = absurd (none_some (sym k))
stays s shuts_square h k = absurd (none_some (sym k))
stays s _ h k = refl

pub neither : (s : Side) (l : Look) (ls : List Look) (at : ℕ) → opened l ≡ None → closed l ≡ None →
    behind at (close_len (s ∷ []) (l ∷ ls)) ≡ behind (at + 1) (close_len (s ∷ []) ls)
neither s l ls at h k = ap (behind at) (close_step s [] (s ∷ []) l ls (stays s l h k)) ∙ behind_suc at (close_len (s ∷ []) ls)

pub at_front : (looks : List Look) (at : ℕ) → at < length looks → drop at looks ≡ get_or looks at opens ∷ drop (at + 1) looks
at_front looks at lt = drop-cons looks at opens lt ∙ ap (λ k. get_or looks at opens ∷ drop k looks) (sym (add-one at))

end_is : (at : ℕ) (l : Look) (ls : List Look) (t : Side) → opened l ≡ Some t → end_at at (l ∷ ls) ≡ behind (at + 1) (close_len (t ∷ []) ls)
end_is at l ls t h = rw h refl

pub known_end : (looks : List Look) (at end : ℕ) (t : Side) → at < length looks → opened (get_or looks at opens) ≡ Some t →
    end ≡ end_at at (drop at looks) → end ≡ behind (at + 1) (close_len (t ∷ []) (drop (at + 1) looks))
known_end looks at end t lt h e =
    e ∙ (ap (end_at at) (at_front looks at lt) ∙ end_is at (get_or looks at opens) (drop (at + 1) looks) t h)

pub unclosed_inside : (looks : List Look) (at : ℕ) (s t : Side) → at < length looks → opened (get_or looks at opens) ≡ Some t →
    0 ≡ end_at at (drop at looks) → behind at (close_len (s ∷ []) (drop at looks)) ≡ 0
unclosed_inside looks at s t lt h e =
    ap (λ ls. behind at (close_len (s ∷ []) ls)) (at_front looks at lt)
    ∙ open_none s t (get_or looks at opens) (drop (at + 1) looks) at h (sym (known_end looks at 0 t lt h e))

pub record Onward (looks : List Look) (s : Side) (at end : ℕ) : Type 0 where
  pub above : at < end
  pub within : end ≤ length looks
  pub same : behind end (close_len (s ∷ []) (drop end looks)) ≡ behind at (close_len (s ∷ []) (drop at looks))

pub past_inside : (looks : List Look) (at end : ℕ) (s t : Side) → at < length looks → opened (get_or looks at opens) ≡ Some t →
    end ≡ end_at at (drop at looks) → (end ≡ 0 → ⊥) → Onward looks s at end
past_inside looks at end s t lt h e some =
    let l = get_or looks at opens in
    let k = open_some s t l (drop (at + 1) looks) at end h (known_end looks at end t lt h e) some in
    let is = k.is in
    let within = k.within in
    let len = length-drop (at + 1) looks in
    let dropped : drop k.n (drop (at + 1) looks) ≡ drop end looks =
    drop-drop k.n (at + 1) looks ∙ ap (λ m. drop m looks) (let same : at + 1 + k.n ≡ end = omega (arith, is) in same) in
    record {
      above = omega (arith, is);
      within = omega (arith, is, within, len, lt);
      same = sym (ap (λ ls. behind at (close_len (s ∷ []) ls)) (at_front looks at lt) ∙ (k.same ∙ ap (λ ls. behind end (close_len (s ∷ []) ls)) dropped));
    }

pub closed_here : (looks : List Look) (at : ℕ) (s : Side) → at < length looks → closed (get_or looks at opens) ≡ Some s →
    behind at (close_len (s ∷ []) (drop at looks)) ≡ at + 1
closed_here looks at s lt h =
    ap (λ ls. behind at (close_len (s ∷ []) ls)) (at_front looks at lt) ∙ closed_right s (get_or looks at opens) (drop (at + 1) looks) at h

pub closed_wrongly : (looks : List Look) (at : ℕ) (s t : Side) → at < length looks → closed (get_or looks at opens) ≡ Some t → (t ≡ s → ⊥) →
    behind at (close_len (s ∷ []) (drop at looks)) ≡ 0
closed_wrongly looks at s t lt h n =
    ap (λ ls. behind at (close_len (s ∷ []) ls)) (at_front looks at lt) ∙ closed_wrong s t (get_or looks at opens) (drop (at + 1) looks) at h n

pub not_here : (looks : List Look) (at : ℕ) (s : Side) → at < length looks → opened (get_or looks at opens) ≡ None →
    closed (get_or looks at opens) ≡ None → behind (at + 1) (close_len (s ∷ []) (drop (at + 1) looks)) ≡ behind at (close_len (s ∷ []) (drop at looks))
not_here looks at s lt h k =
    sym (ap (λ ls. behind at (close_len (s ∷ []) ls)) (at_front looks at lt) ∙ neither s (get_or looks at opens) (drop (at + 1) looks) at h k)

pub at_end : (looks : List Look) (at : ℕ) (s : Side) → length looks ≤ at → behind at (close_len (s ∷ []) (drop at looks)) ≡ 0
at_end looks at s le = ap (λ ls. behind at (close_len (s ∷ []) ls)) (drop_of_length-le looks le) ∙ ap (behind at) (close_empty s)

pub same_side : (a b : Side) → side.ghosts.eq a b ≡ true → a ≡ b
same_side a b e = search rules

pub other_side : (a b : Side) → side.ghosts.eq a b ≡ false → a ≡ b → ⊥
other_side a b e h = search rules
