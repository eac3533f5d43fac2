-- What the reader of list literals takes is spelled.
use Rattle.std.proofs.Common.{rules, ◌≡◌, ℕ, ℤ, zero, suc, neg_ℤ, List, [], ◌∷◌, length, Bool, true, false, if◌then◌else◌, Option, Some, None, option_map, option_and_then, refl, ap, sym, ◌∙◌, subst}
use Rattle.pdl_elem.specs.declared.BinaryOp.TheVariants.{Sub}
use Rattle.pdl_lexemes.specs.contracts.LexemePartialEq.TheImpl as lexeme
use Rattle.pdl_lexemes.specs.declared.Lexeme.{Lexeme}
use Rattle.pdl_lexemes.specs.declared.Lexeme.TheVariants.{Number, OpenSquare, CloseSquare, Comma, Operator}
use Rattle.pdl_lexemes.specs.Lists.{signed, shared, with_length, SpellsList, an_item, some_items, a_list, number, minus, nested, first, more, empty, filled}
use Rattle.pdl_lexemes.specs.ListReading.{ReadPart, read_part, closed, number_item, item_at, items_at, filled_at, inside_at, list_at, list_reader}
use Rattle.pdl_lemmas.specs.Options.{some_inj, none_some, then_elim, map_elim, choose_elim}
use Rattle.pdl_lexemes.specs.Peeks.{after, minus_step, number_at, signed_number_at}

same_is : (a b : Lexeme) → lexeme.ghosts.eq a b ≡ true → b ≡ a
same_is a b e = search rules

-- what follows a lexeme stands behind it
pub after_is : (sign : Lexeme) (ts : List Lexeme) {us : List Lexeme} → after sign ts ≡ Some us → ts ≡ sign ∷ us
after_is sign [] e = absurd (none_some e)
after_is sign (t ∷ ts) {us = us} e = of_test (lexeme.ghosts.eq sign t) refl e
  where
    of_test : (b : Bool) → lexeme.ghosts.eq sign t ≡ b → (if b then Some ts else None) ≡ Some us → t ∷ ts ≡ sign ∷ us
    of_test true same k = ap (λ x. x ∷ ts) (same_is sign t same) ∙ ap (λ x. sign ∷ x) (some_inj k)
    of_test false same k = absurd (none_some k)

-- a number token stands at the front
record NumberAt (ts : List Lexeme) (x : ℤ × List Lexeme) : Type 0 where
  n : ℕ
  value : signed n ≡ Some x.0
  is : ts ≡ Number n ∷ x.1

number_is : (ts : List Lexeme) {x : ℤ × List Lexeme} → number_at ts ≡ Some x → NumberAt ts x
number_is [] e = absurd (none_some e)
number_is (Number n ∷ ts) {x = x} e =
    map_elim (NumberAt (Number n ∷ ts) x) (λ z. (z, ts)) (signed n) e
    (λ z h k. record { n = n; value = h ∙ ap (λ y. Some y.0) k; is = ap (λ y. Number n ∷ y.1) k })
number_is (_ ∷ ts) e = absurd (none_some e)

abbrev Item : List ℤ → List Lexeme → ReadPart → Type 0
Item front ts x = SpellsList (an_item x.shape front x.elems) ts x.rest

number_sound : (front : List ℤ) (ts : List Lexeme) (x : ℤ × List Lexeme) → number_at ts ≡ Some x → Item front ts (number_item front x)
number_sound front ts x e =
    let at = number_is ts e in
    subst (λ us. Item front us (number_item front x)) (sym at.is) (number at.value)

signed_sound : (front : List ℤ) (ts : List Lexeme) (x : ℤ × List Lexeme) → signed_number_at ts ≡ Some x → Item front ts (number_item front x)
signed_sound front ts x e = of_step (after (Operator Sub) ts) refl e
  where
    of_step : (o : Option (List Lexeme)) → after (Operator Sub) ts ≡ o → minus_step ts o ≡ Some x → Item front ts (number_item front x)
    of_step None h k = number_sound front ts x k
    of_step (Some us) h k =
        map_elim (Item front ts (number_item front x)) (λ y. (neg_ℤ y.0, y.1)) (number_at us) k (λ y m same.
        let at = number_is us m in
        subst (λ z. Item front ts (number_item front z)) same
        (subst (λ vs. Item front vs (number_item front (neg_ℤ y.0, y.1)))
        (sym (after_is (Operator Sub) ts h ∙ ap (λ v. Operator Sub ∷ v) at.is)) (minus at.value)))

module _ (list_of : List ℤ → List Lexeme → Option ReadPart)
    (sound : (front : List ℤ) (ts : List Lexeme) (x : ReadPart) → list_of front ts ≡ Some x → SpellsList (a_list x.shape front x.elems) ts x.rest) where
  item_sound : (front : List ℤ) (ts : List Lexeme) (x : ReadPart) → item_at list_of front ts ≡ Some x → Item front ts x
  unfolding item_at
  item_sound front ts x e =
      choose_elim (Item front ts x) (option_map (number_item front) (signed_number_at ts)) (λ us. list_of front ts) (after OpenSquare ts) e
      (λ h k. map_elim (Item front ts x) (number_item front) (signed_number_at ts) k
      (λ y m same. subst (Item front ts) same (signed_sound front ts y m)))
      (λ us h k. nested (sound front ts x k))

  abbrev Items : List ℤ → List Lexeme → ℕ × ReadPart → Type 0
  Items front ts x = SpellsList (some_items x.0 x.1.shape front x.1.elems) ts x.1.rest

  items_sound : (k n : ℕ) (so_far : ReadPart) (x : ℕ × ReadPart) (front : List ℤ) (ts : List Lexeme) →
      items_at list_of k n so_far ≡ Some x → Items front ts (n, so_far) → Items front ts x
  unfolding items_at
  items_sound zero n so_far x front ts e h = subst (Items front ts) (some_inj e) h
  items_sound (suc k) n so_far x front ts e h =
      choose_elim (Items front ts x) (Some (n, so_far))
      (λ us. option_and_then (λ y. items_at list_of k (suc n) (read_part (shared so_far.shape y.shape) y.elems y.rest)) (item_at list_of so_far.elems us))
      (after Comma so_far.rest) e
      (λ c d. subst (Items front ts) (some_inj d) h)
      (λ us c d. then_elim (Items front ts x)
      (λ y. items_at list_of k (suc n) (read_part (shared so_far.shape y.shape) y.elems y.rest)) (item_at list_of so_far.elems us) d
      (λ y m r. items_sound k (suc n) (read_part (shared so_far.shape y.shape) y.elems y.rest) x front ts r
      (more (subst (λ vs. SpellsList (some_items n so_far.shape front so_far.elems) ts vs) (after_is Comma so_far.rest c) h)
      (item_sound so_far.elems us y m))))

  abbrev Listed : List ℤ → List Lexeme → ReadPart → Type 0
  Listed front ts x = SpellsList (a_list x.shape front x.elems) ts x.rest

  closed_sound : (front : List ℤ) (ts : List Lexeme) (p : ℕ × ReadPart) (x : ReadPart) → closed p ≡ Some x → Items front ts p → Listed front (OpenSquare ∷ ts) x
  closed_sound front ts p x e h =
      map_elim (Listed front (OpenSquare ∷ ts) x) (read_part (with_length p.0 p.1.shape) p.1.elems) (after CloseSquare p.1.rest) e
      (λ us c same. subst (Listed front (OpenSquare ∷ ts)) same
      (filled (subst (λ vs. SpellsList (some_items p.0 p.1.shape front p.1.elems) ts vs) (after_is CloseSquare p.1.rest c) h)))

  filled_sound : (front : List ℤ) (ts : List Lexeme) (x : ReadPart) → filled_at list_of front ts ≡ Some x → Listed front (OpenSquare ∷ ts) x
  filled_sound front ts x e =
      then_elim (Listed front (OpenSquare ∷ ts) x) (λ y. option_and_then closed (items_at list_of (length y.rest) 1 y)) (item_at list_of front ts) e
      (λ y m r. then_elim (Listed front (OpenSquare ∷ ts) x) closed (items_at list_of (length y.rest) 1 y) r
      (λ p c d. closed_sound front ts p x d (items_sound (length y.rest) 1 y p front ts c (first (item_sound front ts y m)))))

  inside_sound : (front : List ℤ) (ts : List Lexeme) (x : ReadPart) → inside_at list_of front ts ≡ Some x → Listed front (OpenSquare ∷ ts) x
  unfolding inside_at
  inside_sound front ts x e =
      choose_elim (Listed front (OpenSquare ∷ ts) x) (filled_at list_of front ts) (λ rest. Some (read_part (Some (0 ∷ [])) front rest)) (after CloseSquare ts) e
      (λ h k. filled_sound front ts x k)
      (λ us h k. subst (Listed front (OpenSquare ∷ ts)) (some_inj k)
      (subst (λ vs. Listed front (OpenSquare ∷ vs) (read_part (Some (0 ∷ [])) front us)) (sym (after_is CloseSquare ts h)) empty))

  list_sound : (front : List ℤ) (ts : List Lexeme) (x : ReadPart) → list_at list_of front ts ≡ Some x → Listed front ts x
  list_sound front ts x e =
      then_elim (Listed front ts x) (inside_at list_of front) (after OpenSquare ts) e
      (λ us h k. subst (λ vs. Listed front vs x) (sym (after_is OpenSquare ts h)) (inside_sound front us x k))

-- a list that is read is spelled
pub reader_sound : (n : ℕ) (front : List ℤ) (ts : List Lexeme) (x : ReadPart) → list_reader n front ts ≡ Some x → SpellsList (a_list x.shape front x.elems) ts x.rest
unfolding list_reader
reader_sound zero front ts x e = absurd (none_some e)
reader_sound (suc n) front ts x e = list_sound (list_reader n) (reader_sound n) front ts x e
