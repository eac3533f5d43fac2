-- Where tokens are cut.
use Rattle.std.specs.Prelude.{option_map}
use Rattle.std.proofs.Common.{◌≡◌, ◌==◌, true, false, not, ◌&&◌, List, [], ◌∷◌, ◌++◌, length, Some, refl, ap, ◌∙◌, subst, arith, eqb-true}
use Rattle.pdl_nice.specs.declared.looks.Look.TheVariants.{Opens as opens, Shuts as shuts, OpensSquare as opens_square, ShutsSquare as shuts_square, Comma as comma, Colon as colon, Star as star}
use Rattle.pdl_nice.specs.declared.looks.Look.{Look}
use Rattle.pdl_nice.specs.declared.looks.Side.TheVariants.{Round as round, Square as square}
use Rattle.pdl_nice.specs.declared.looks.Side.{Side}
use Rattle.pdl_lex.specs.Written.{Written}
use Rattle.pdl_nice.specs.Looks.{look, push}
use Rattle.pdl_nice.specs.Nice.{is_separator, is_bar, is_none, is_star, is_open, is_shut, is_level, is_value, Cut, cut, cut_here, with_first, inner_of, if_last}
use Rattle.pdl_lemmas.specs.Options.{some_inj, none_some, map_elim, choose_elim, then_elim}
use Rattle.std.proofs.lemmas.Bool.{and_parts as both}
use Rattle.pdl_nice.proofs.Options.{false_true, if_elim}

-- where no bar stands, no separator does
no_bar : (l : Look) → is_bar l ≡ false → is_separator l ≡ false
no_bar comma e = e
no_bar colon e = e
no_bar _ e = refl

level_end : (sides : List Side) → is_none sides ≡ true → is_level sides [] ≡ true
unfolding is_level
level_end sides e = e

level_more : (sides : List Side) (w : Written) (ws : List Written) (now : List Side) → is_none sides && is_bar (look w) ≡ false →
    push sides (look w) ≡ Some now → is_level now ws ≡ true → is_level sides (w ∷ ws) ≡ true
unfolding is_level
level_more [] w ws now h p l = rw (no_bar (look w) h) (rw p l)
level_more (s ∷ sides) w ws now h p l = rw p l

-- what a cut says
pub record IsCut (sides : List Side) (ts : List Written) (x : Cut) : Type 0 where
  pub level : is_level sides x.front ≡ true
  pub bar : is_bar (look x.bar) ≡ true
  pub whole : ts ≡ x.front ++ x.bar ∷ x.rest

pub cut_sound : (sides : List Side) (ts : List Written) (x : Cut) → cut sides ts ≡ Some x → IsCut sides ts x
unfolding cut
cut_sound sides [] x e = absurd (none_some e)
cut_sound sides (w ∷ ts) x e =
    if_elim (IsCut sides (w ∷ ts) x) (is_none sides && is_bar (look w)) e
    (λ h k. let b = both (is_none sides) (is_bar (look w)) h in
    subst (IsCut sides (w ∷ ts)) (some_inj k) (record { level = level_end sides b.0; bar = b.1; whole = refl }))
    (λ h k. then_elim (IsCut sides (w ∷ ts) x) (λ now. option_map (with_first w) (cut now ts)) (push sides (look w)) k
    (λ now p m. map_elim (IsCut sides (w ∷ ts) x) (with_first w) (cut now ts) m
    (λ y c same. let ih = cut_sound now ts y c in
    subst (IsCut sides (w ∷ ts)) same (record {
      level = level_more sides w y.front now h p ih.level;
      bar = ih.bar;
      whole = ap (λ us. w ∷ us) ih.whole;
    }))))

-- a token of level tokens, and what stands behind it
record Step (sides : List Side) (w : Written) (ws : List Written) : Type 0 where
  now : List Side
  pushed : push sides (look w) ≡ Some now
  bar : is_none sides && is_bar (look w) ≡ false
  level : is_level now ws ≡ true

no_separator : (sides : List Side) (l : Look) (now : List Side) → is_none sides && is_separator l ≡ false → push sides l ≡ Some now →
    is_none sides && is_bar l ≡ false
no_separator (s ∷ sides) l now h p = refl
no_separator [] comma now h p = h
no_separator [] colon now h p = h
no_separator [] shuts now h p = absurd (none_some p)
no_separator [] _ now h p = refl

step : (sides : List Side) (w : Written) (ws : List Written) → is_level sides (w ∷ ws) ≡ true → Step sides w ws
unfolding is_level
step sides w ws e =
    if_elim (Step sides w ws) (is_none sides && is_separator (look w)) e
    (λ h k. absurd (false_true k))
    (λ h k. choose_elim (Step sides w ws) false (λ now. is_level now ws) (push sides (look w)) k
    (λ p m. absurd (false_true m))
    (λ now p m. record { now = now; pushed = p; bar = no_separator sides (look w) now h p; level = m }))

cut_last : (sides : List Side) (c : Written) (rest : List Written) → is_none sides ≡ true → is_bar (look c) ≡ true →
    cut sides (c ∷ rest) ≡ Some (cut_here c rest)
unfolding cut
cut_last sides c rest h k = rw h (rw k refl)

cut_more : (sides : List Side) (w : Written) (ts : List Written) (now : List Side) (x : Cut) → push sides (look w) ≡ Some now →
    is_none sides && is_bar (look w) ≡ false → cut now ts ≡ Some x → cut sides (w ∷ ts) ≡ Some (with_first w x)
unfolding cut
cut_more sides w ts now x p h k = rw h (rw p (rw k refl))

level_none : (sides : List Side) → is_level sides [] ≡ true → is_none sides ≡ true
unfolding is_level
level_none sides e = e

pub cut_found : (sides : List Side) (ws : List Written) (c : Written) (rest : List Written) → is_level sides ws ≡ true → is_bar (look c) ≡ true →
    cut sides (ws ++ c ∷ rest) ≡ Some (record { front = ws; bar = c; rest = rest })
cut_found sides [] c rest h k = cut_last sides c rest (level_none sides h) k
cut_found sides (w ∷ ws) c rest h k =
    let s = step sides w ws h in
    cut_more sides w (ws ++ c ∷ rest) s.now (record { front = ws; bar = c; rest = rest }) s.pushed s.bar (cut_found s.now ws c rest s.level k)

-- further brackets that are open around them change nothing
pub push_over : (sides below now : List Side) (l : Look) → push sides l ≡ Some now → push (sides ++ below) l ≡ Some (now ++ below)
push_over sides below now opens e = ap (λ o. Some (o ++ below)) (some_inj e)
push_over sides below now opens_square e = ap (λ o. Some (o ++ below)) (some_inj e)
push_over (round ∷ sides) below now shuts e = ap (λ o. Some (o ++ below)) (some_inj e)
push_over (square ∷ sides) below now shuts e = absurd (none_some e)
push_over [] below now shuts e = absurd (none_some e)
push_over (round ∷ sides) below now shuts_square e = absurd (none_some e)
push_over (square ∷ sides) below now shuts_square e = ap (λ o. Some (o ++ below)) (some_inj e)
push_over [] below now shuts_square e = absurd (none_some e)
push_over sides below now _ e = ap (λ o. Some (o ++ below)) (some_inj e)

none_over : (sides : List Side) (b : Side) → is_none (sides ++ b ∷ []) ≡ false
none_over [] b = refl
none_over (s ∷ sides) b = refl

level_go : (sides : List Side) (b : Side) (w : Written) (ws : List Written) (now : List Side) → push (sides ++ b ∷ []) (look w) ≡ Some now →
    is_level now ws ≡ true → is_level (sides ++ b ∷ []) (w ∷ ws) ≡ true
unfolding is_level
level_go sides b w ws now p l = rw (none_over sides b) (rw p l)

level_over : (sides : List Side) (b : Side) (ws tail : List Written) → is_level sides ws ≡ true → is_level (b ∷ []) tail ≡ true →
    is_level (sides ++ b ∷ []) (ws ++ tail) ≡ true
level_over [] b [] tail h k = k
level_over (s ∷ sides) b [] tail h k = absurd (false_true (level_none (s ∷ sides) h))
level_over sides b (w ∷ ws) tail h k =
    let s = step sides w ws h in
    level_go sides b w (ws ++ tail) (s.now ++ b ∷ []) (push_over sides (b ∷ []) s.now (look w) s.pushed) (level_over s.now b ws tail s.level k)

shut_level : (s : Written) → look s ≡ shuts → is_level (round ∷ []) (s ∷ []) ≡ true
unfolding is_level
shut_level s e = rw e refl

opened_level : (o : Written) (ws : List Written) → look o ≡ opens → is_level (round ∷ []) ws ≡ true → is_level [] (o ∷ ws) ≡ true
unfolding is_level
opened_level o ws e h = rw e h

pub bracketed_level : (o s : Written) (ws : List Written) → look o ≡ opens → look s ≡ shuts → is_level [] ws ≡ true →
    is_level [] (o ∷ (ws ++ s ∷ [])) ≡ true
bracketed_level o s ws h k l = opened_level o (ws ++ s ∷ []) h (level_over [] round ws (s ∷ []) l (shut_level s k))

pub star_level : (w : Written) (ws : List Written) → look w ≡ star → is_level [] ws ≡ true → is_level [] (w ∷ ws) ≡ true
unfolding is_level
star_level w ws e h = rw e h

pub value_level : (ws : List Written) → is_value ws ≡ true → is_level [] ws ≡ true
value_level [] e = absurd (false_true e)
value_level (w ∷ ws) e = (both (not (is_star (look w))) (is_level [] (w ∷ ws)) e).1

pub is_bar_shut : (l : Look) → l ≡ shuts → is_bar l ≡ true
is_bar_shut l e = ap is_bar e

pub open_is : (l : Look) → is_open l ≡ true → l ≡ opens
open_is opens e = refl
open_is _ e = absurd (false_true e)

pub shut_is : (l : Look) → is_shut l ≡ true → l ≡ shuts
shut_is shuts e = refl
shut_is _ e = absurd (false_true e)

no_length : (ws : List Written) → (length ws == 0) ≡ true → ws ≡ []
no_length [] e = refl
no_length (w ∷ ws) e = let z = eqb-true (length (w ∷ ws)) 0 e in absurd (omega (arith, z))

-- a value in brackets
pub record IsInner (ts us : List Written) : Type 0 where
  pub o : Written
  pub s : Written
  pub opening : look o ≡ opens
  pub closing : look s ≡ shuts
  pub is : is_value us ≡ true
  pub whole : ts ≡ o ∷ (us ++ s ∷ [])

pub inner_sound : (ts us : List Written) → inner_of ts ≡ Some us → IsInner ts us
unfolding inner_of
inner_sound [] us e = absurd (none_some e)
inner_sound (w ∷ ts) us e =
    if_elim (IsInner (w ∷ ts) us) (is_open (look w)) e
    (λ h k. then_elim (IsInner (w ∷ ts) us) if_last (cut [] ts) k
    (λ x c m. if_elim (IsInner (w ∷ ts) us) (is_shut (look x.bar) && (length x.rest == 0) && is_value x.front) m
    (λ b same. let b1 = both (is_shut (look x.bar) && (length x.rest == 0)) (is_value x.front) b in
    let b2 = both (is_shut (look x.bar)) (length x.rest == 0) b1.0 in
    subst (IsInner (w ∷ ts)) (some_inj same) (record {
      is = b1.1;
      o = w;
      s = x.bar;
      opening = open_is (look w) h;
      closing = shut_is (look x.bar) b2.0;
      whole = ap (λ us. w ∷ us) ((cut_sound [] ts x c).whole ∙ ap (λ r. x.front ++ x.bar ∷ r) (no_length x.rest b2.1));
    }))
    (λ b same. absurd (none_some same))))
    (λ h k. absurd (none_some k))

pub inner_found : (o s : Written) (ws : List Written) → look o ≡ opens → look s ≡ shuts → is_value ws ≡ true →
    inner_of (o ∷ (ws ++ s ∷ [])) ≡ Some ws
unfolding inner_of
inner_found o s ws h k v = rw h (rw (cut_found [] ws s [] (value_level ws v) (is_bar_shut (look s) k)) (rw k (rw v refl)))
