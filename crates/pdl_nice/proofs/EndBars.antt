-- Where the next bar stands.
use Rattle.std.specs.Prelude.{option_map}
use Rattle.std.proofs.Common.{◌≡◌, ℕ, suc, ◌+◌, ◌<◌, ◌≤◌, true, false, List, [], ◌∷◌, length, drop, Option, Some, None, refl, ap, sym, ◌∙◌, arith, get_or, length-drop, drop-drop, drop_of_length-le}
use Rattle.pdl_nice.specs.declared.looks.Look.{Look}
use Rattle.pdl_nice.specs.declared.looks.Look.TheVariants.{Opens as opens, Shuts as shuts, OpensSquare as opens_square, ShutsSquare as shuts_square}
use Rattle.pdl_nice.specs.declared.looks.Side.{Side}
use Rattle.pdl_nice.specs.Looks.{push}
use Rattle.pdl_nice.specs.Nice.{is_bar}
use Rattle.pdl_nice.specs.Ends.{close_len, behind, opened, closed, end_at, bar_len, further}
use Rattle.pdl_lemmas.specs.Options.{some_inj, none_some}
use Rattle.pdl_nice.proofs.EndLemmas.{opened_step, close_none, close_step, close_le, no_end, pushes, drop_suc, mapped_same, mapped_twice, at_front, known_end}

bar_end : (sides : List Side) → bar_len sides [] ≡ None
unfolding bar_len
bar_end sides = refl

bar_step : (s : Side) (ss now : List Side) (l : Look) (ls : List Look) → push (s ∷ ss) l ≡ Some now → bar_len (s ∷ ss) (l ∷ ls) ≡ option_map suc (bar_len now ls)
unfolding bar_len
bar_step s ss now l ls p = rw p refl

bar_wrong : (s : Side) (ss : List Side) (l : Look) (ls : List Look) → push (s ∷ ss) l ≡ None → bar_len (s ∷ ss) (l ∷ ls) ≡ None
unfolding bar_len
bar_wrong s ss l ls p = rw p refl

bar_here : (l : Look) (ls : List Look) → is_bar l ≡ true → bar_len [] (l ∷ ls) ≡ Some 0
unfolding bar_len
bar_here l ls b = rw b refl

bar_later : (now : List Side) (l : Look) (ls : List Look) → is_bar l ≡ false → push [] l ≡ Some now → bar_len [] (l ∷ ls) ≡ option_map suc (bar_len now ls)
unfolding bar_len
bar_later now l ls b p = rw b (rw p refl)

bar_never : (l : Look) (ls : List Look) → is_bar l ≡ false → push [] l ≡ None → bar_len [] (l ∷ ls) ≡ None
unfolding bar_len
bar_never l ls b p = rw b (rw p refl)

-- no bar stands in brackets that are closed
bar_over : (above : List Side) (ls : List Look) (n : ℕ) → close_len above ls ≡ Some n →
    bar_len above ls ≡ option_map (λ m. n + m) (bar_len [] (drop n ls))
bar_over [] ls n e =
    let none : n ≡ 0 = sym (some_inj (sym (close_none ls) ∙ e)) in
    ap (λ k. bar_len [] (drop k ls)) (sym none) ∙ sym (mapped_same n (bar_len [] (drop n ls)) none)
bar_over (s ∷ ss) [] n e = absurd (none_some (sym (no_end s ss) ∙ e))
bar_over (s ∷ ss) (l ∷ ls) n e =
    let o = opened_step s ss l ls n e in
    bar_step s ss o.0 l ls o.1
    ∙ (ap (option_map suc) (bar_over o.0 ls o.2 o.3)
    ∙ (mapped_twice o.2 n (bar_len [] (drop o.2 ls)) o.4
    ∙ ap (λ ks. option_map (λ m. n + m) (bar_len [] ks)) (sym (drop_suc o.2 n l ls o.4))))

bar_unclosed : (s : Side) (ss : List Side) (ls : List Look) → close_len (s ∷ ss) ls ≡ None → bar_len (s ∷ ss) ls ≡ None
bar_unclosed s ss [] e = bar_end (s ∷ ss)
bar_unclosed s ss (l ∷ ls) e = of_push (λ t now c. bar_unclosed t now ls c) (push (s ∷ ss) l) refl
  where
    of_len : ((t : Side) (now : List Side) → close_len (t ∷ now) ls ≡ None → bar_len (t ∷ now) ls ≡ None) →
        (now : List Side) → push (s ∷ ss) l ≡ Some now → (o : Option ℕ) → close_len now ls ≡ o → bar_len (s ∷ ss) (l ∷ ls) ≡ None
    of_len ih [] p o c = absurd (none_some (sym e ∙ (close_step s ss [] l ls p ∙ ap (option_map suc) (close_none ls))))
    of_len ih (t ∷ now) p None c = bar_step s ss (t ∷ now) l ls p ∙ ap (option_map suc) (ih t now c)
    of_len ih (t ∷ now) p (Some m) c = absurd (none_some (sym e ∙ (close_step s ss (t ∷ now) l ls p ∙ ap (option_map suc) c)))

    of_push : ((t : Side) (now : List Side) → close_len (t ∷ now) ls ≡ None → bar_len (t ∷ now) ls ≡ None) →
        (o : Option (List Side)) → push (s ∷ ss) l ≡ o → bar_len (s ∷ ss) (l ∷ ls) ≡ None
    of_push ih None p = bar_wrong s ss l ls p
    of_push ih (Some now) p = of_len ih now p (close_len now ls) refl

no_bar_opens : (l : Look) (t : Side) → opened l ≡ Some t → is_bar l ≡ false
no_bar_opens opens t e = refl
no_bar_opens opens_square t e = refl
no_bar_opens _ t e = absurd (none_some e)

further_suc : (at : ℕ) (o : Option ℕ) → further at (option_map suc o) ≡ further (at + 1) o
further_suc at None = refl
further_suc at (Some n) = let same : at + suc n ≡ at + 1 + n = omega arith in ap (λ k. Some k) same

further_past : (at n end : ℕ) (o : Option ℕ) → end ≡ at + 1 + n → further at (option_map suc (option_map (λ m. n + m) o)) ≡ further end o
further_past at n end None e = refl
further_past at n end (Some m) e = let same : at + suc (n + m) ≡ end + m = omega (arith, e) in ap (λ k. Some k) same

-- what is still to be found from a place on
pub here : (looks : List Look) (at : ℕ) → at < length looks → is_bar (get_or looks at opens) ≡ true → further at (bar_len [] (drop at looks)) ≡ Some at
here looks at lt b =
    ap (λ ls. further at (bar_len [] ls)) (at_front looks at lt) ∙ (ap (further at) (bar_here (get_or looks at opens) (drop (at + 1) looks) b)
    ∙ (let same : at + 0 ≡ at = omega arith in ap (λ k. Some k) same))

pub unclosed : (looks : List Look) (at : ℕ) (t : Side) → at < length looks → opened (get_or looks at opens) ≡ Some t →
    0 ≡ end_at at (drop at looks) → further at (bar_len [] (drop at looks)) ≡ None
unclosed looks at t lt h e = of_len (close_len (t ∷ []) (drop (at + 1) looks)) refl
  where
    of_len : (o : Option ℕ) → close_len (t ∷ []) (drop (at + 1) looks) ≡ o → further at (bar_len [] (drop at looks)) ≡ None
    of_len None c =
        ap (λ ls. further at (bar_len [] ls)) (at_front looks at lt)
        ∙ ap (further at) (bar_later (t ∷ []) (get_or looks at opens) (drop (at + 1) looks) (no_bar_opens (get_or looks at opens) t h)
        (pushes [] t (get_or looks at opens) h) ∙ ap (option_map suc) (bar_unclosed t [] (drop (at + 1) looks) c))
    of_len (Some n) c = let no : 0 ≡ at + 1 + n = known_end looks at 0 t lt h e ∙ ap (behind (at + 1)) c in absurd (omega (arith, no))

pub record Past (looks : List Look) (at end : ℕ) : Type 0 where
  pub above : at < end
  pub within : end ≤ length looks
  pub same : further end (bar_len [] (drop end looks)) ≡ further at (bar_len [] (drop at looks))

pub past : (looks : List Look) (at end : ℕ) (t : Side) → at < length looks → opened (get_or looks at opens) ≡ Some t →
    end ≡ end_at at (drop at looks) → (end ≡ 0 → ⊥) → Past looks at end
past looks at end t lt h e some = of_len (close_len (t ∷ []) (drop (at + 1) looks)) refl
  where
    of_len : (o : Option ℕ) → close_len (t ∷ []) (drop (at + 1) looks) ≡ o → Past looks at end
    of_len None c = absurd (some (known_end looks at end t lt h e ∙ ap (behind (at + 1)) c))
    of_len (Some n) c =
        let is : end ≡ at + 1 + n = known_end looks at end t lt h e ∙ ap (behind (at + 1)) c in
        let within = close_le (t ∷ []) (drop (at + 1) looks) n c in
        let len = length-drop (at + 1) looks in
        let dropped : drop n (drop (at + 1) looks) ≡ drop end looks = drop-drop n (at + 1) looks ∙ ap (λ m. drop m looks) (sym is) in
        record {
          above = omega (arith, is);
          within = omega (arith, is, within, len, lt);
          same = sym (ap (λ ls. further at (bar_len [] ls)) (at_front looks at lt)
              ∙ (ap (further at) (bar_later (t ∷ []) (get_or looks at opens) (drop (at + 1) looks) (no_bar_opens (get_or looks at opens) t h)
              (pushes [] t (get_or looks at opens) h) ∙ ap (option_map suc) (bar_over (t ∷ []) (drop (at + 1) looks) n c))
              ∙ (further_past at n end (bar_len [] (drop n (drop (at + 1) looks))) is ∙ ap (λ ls. further end (bar_len [] ls)) dropped)));
        }

no_push : (l : Look) (t : Side) → closed l ≡ Some t → push [] l ≡ None
no_push shuts t e = refl
no_push shuts_square t e = refl
no_push _ t e = absurd (none_some e)

pub stopped : (looks : List Look) (at : ℕ) (t : Side) → at < length looks → is_bar (get_or looks at opens) ≡ false → closed (get_or looks at opens) ≡ Some t →
    further at (bar_len [] (drop at looks)) ≡ None
stopped looks at t lt b h =
    ap (λ ls. further at (bar_len [] ls)) (at_front looks at lt)
    ∙ ap (further at) (bar_never (get_or looks at opens) (drop (at + 1) looks) b (no_push (get_or looks at opens) t h))

kept : (l : Look) → opened l ≡ None → closed l ≡ None → push [] l ≡ Some []
kept opens h k = absurd (none_some (sym h))
kept opens_square h k = absurd (none_some (sym h))
kept shuts h k = absurd (none_some (sym k))
kept shuts_square h k = absurd (none_some (sym k))
kept _ h k = refl

pub next : (looks : List Look) (at : ℕ) → at < length looks → is_bar (get_or looks at opens) ≡ false → opened (get_or looks at opens) ≡ None →
    closed (get_or looks at opens) ≡ None → further (at + 1) (bar_len [] (drop (at + 1) looks)) ≡ further at (bar_len [] (drop at looks))
next looks at lt b h k =
    sym (ap (λ ls. further at (bar_len [] ls)) (at_front looks at lt)
    ∙ (ap (further at) (bar_later [] (get_or looks at opens) (drop (at + 1) looks) b (kept (get_or looks at opens) h k))
    ∙ further_suc at (bar_len [] (drop (at + 1) looks))))

pub ended : (looks : List Look) (at : ℕ) → length looks ≤ at → further at (bar_len [] (drop at looks)) ≡ None
ended looks at le = ap (λ ls. further at (bar_len [] ls)) (drop_of_length-le looks le) ∙ ap (further at) (bar_end [])
