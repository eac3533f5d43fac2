-- Each spelled list literal is read.
use Rattle.std.proofs.Common.{◌≡◌, ℕ, ℤ, zero, suc, ◌≤◌, neg_ℤ, List, [], ◌∷◌, ◌++◌, length, Option, Some, None, option_map, refl, ap, sym, ◌∙◌, subst, arith}
use Rattle.pdl_elem.specs.declared.BinaryOp.TheVariants.{Sub}
use Rattle.pdl_lexemes.specs.declared.Lexeme.{Lexeme}
use Rattle.pdl_lexemes.specs.declared.Lexeme.TheVariants.{Number, OpenSquare, CloseSquare, Comma, Operator}
use Rattle.pdl_lexemes.specs.Lists.{signed, shared, with_length, ListPart, SpellsList, an_item, some_items, a_list, number, minus, nested, first, more, empty, filled}
use Rattle.pdl_lexemes.specs.ListReading.{ReadPart, read_part, closed, item_at, items_at, inside_at, list_reader, list_read}
use Rattle.pdl_lexemes.specs.Peeks.{after}
use Rattle.pdl_lexemes.proofs.ListTurns.{items_stop, items_turn}

pub list_shorter : {p : ListPart} {ts rest : List Lexeme} → SpellsList p ts rest → length rest ≤ length ts
list_shorter (number e) = omega arith
list_shorter (minus e) = omega arith
list_shorter (nested h) = list_shorter h
list_shorter (first h) = list_shorter h
list_shorter (more h k) = let a = list_shorter h in let b = list_shorter k in omega arith
list_shorter empty = omega arith
list_shorter (filled h) = let a = list_shorter h in omega arith

pub list_opens : {shape : Option (List ℕ)} {front all : List ℤ} {ts rest : List Lexeme} → SpellsList (a_list shape front all) ts rest →
    (us : List Lexeme) × (ts ≡ OpenSquare ∷ us)
list_opens (empty {rest = rest}) = (CloseSquare ∷ rest, refl)
list_opens (filled {ts = ts} h) = (ts, refl)

-- neither an item nor a list of items begins with `]`
abbrev Begins : ListPart → List Lexeme → Type 0
Begins (an_item shape front all) ts = after CloseSquare ts ≡ None
Begins (some_items n shape front all) ts = after CloseSquare ts ≡ None
Begins (a_list shape front all) ts = after CloseSquare ts ≡ None

list_begins : {p : ListPart} {ts rest : List Lexeme} → SpellsList p ts rest → Begins p ts
list_begins (number e) = refl
list_begins (minus e) = refl
list_begins (nested h) = list_begins h
list_begins (first h) = list_begins h
list_begins (more h k) = list_begins h
list_begins empty = refl
list_begins (filled h) = refl

-- the items read so far, with what is left of the chain
record Chain (n count : ℕ) (front : List ℤ) (ts : List Lexeme) (so_far : ReadPart) : Type 0 where
  start : ReadPart
  turns : ℕ
  begun : item_at (list_reader n) front ts ≡ Some start
  same : items_at (list_reader n) (length start.rest) 1 start ≡ items_at (list_reader n) turns count so_far
  enough : length so_far.rest ≤ turns

abbrev Complete : ListPart → List Lexeme → List Lexeme → Type 0
Complete (an_item shape front all) ts rest = (n : ℕ) → length ts ≤ n → item_at (list_reader n) front ts ≡ Some (read_part shape all rest)
Complete (some_items c shape front all) ts rest = (n : ℕ) → length ts ≤ n → Chain n c front ts (read_part shape all rest)
Complete (a_list shape front all) ts rest = (n : ℕ) → length ts ≤ n → list_reader n front ts ≡ Some (read_part shape all rest)

read_number : (n m : ℕ) (z : ℤ) (front : List ℤ) (rest : List Lexeme) → signed m ≡ Some z →
    item_at (list_reader n) front (Number m ∷ rest) ≡ Some (read_part (Some []) (front ++ z ∷ []) rest)
unfolding item_at
read_number n m z front rest e = rw e

read_minus : (n m : ℕ) (z : ℤ) (front : List ℤ) (rest : List Lexeme) → signed m ≡ Some z →
    item_at (list_reader n) front (Operator Sub ∷ Number m ∷ rest) ≡ Some (read_part (Some []) (front ++ neg_ℤ z ∷ []) rest)
unfolding item_at
read_minus n m z front rest e = rw e

read_nested : (n : ℕ) (front : List ℤ) (us : List Lexeme) → item_at (list_reader n) front (OpenSquare ∷ us) ≡ list_reader n front (OpenSquare ∷ us)
unfolding item_at
read_nested n front us = refl

nested_read : (n : ℕ) (front : List ℤ) (ts us : List Lexeme) (x : ReadPart) → ts ≡ OpenSquare ∷ us → list_reader n front ts ≡ Some x → item_at (list_reader n) front ts ≡ Some x
nested_read n front ts us x e h = subst (λ vs. list_reader n front vs ≡ Some x → item_at (list_reader n) front vs ≡ Some x) (sym e) (λ k. read_nested n front us ∙ k) h

next_turn : (n c : ℕ) (front : List ℤ) (ts us : List Lexeme) (so_far x : ReadPart) → so_far.rest ≡ Comma ∷ us → Chain n c front ts so_far →
    item_at (list_reader n) so_far.elems us ≡ Some x → length x.rest ≤ length us →
    Chain n (suc c) front ts (read_part (shared so_far.shape x.shape) x.elems x.rest)
next_turn n c front ts us so_far x e chain h le = of_turns chain.turns refl
  where
    of_turns : (k : ℕ) → chain.turns ≡ k → Chain n (suc c) front ts (read_part (shared so_far.shape x.shape) x.elems x.rest)
    of_turns zero z = absurd (omega (arith, chain.enough, z, ap length e))
    of_turns (suc k) z = record {
      start = chain.start;
      turns = k;
      begun = chain.begun;
      same = chain.same ∙ (ap (λ j. items_at (list_reader n) j c so_far) z ∙ items_turn (list_reader n) k c so_far x us (ap (after Comma) e) h);
      enough = omega (arith, chain.enough, z, ap length e);
    }

close_chain : (n c : ℕ) (front : List ℤ) (ts rest : List Lexeme) (so_far : ReadPart) → after CloseSquare ts ≡ None → so_far.rest ≡ CloseSquare ∷ rest →
    Chain n c front ts so_far → list_reader (suc n) front (OpenSquare ∷ ts) ≡ Some (read_part (with_length c so_far.shape) so_far.elems rest)
unfolding list_reader inside_at
close_chain n c front ts rest so_far b e chain =
    let stop : items_at (list_reader n) (length chain.start.rest) 1 chain.start ≡ Some (c, so_far) =
    chain.same ∙ items_stop (list_reader n) chain.turns c so_far (ap (after Comma) e) in
    let last : closed (c, so_far) ≡ Some (read_part (with_length c so_far.shape) so_far.elems rest) =
    ap (λ vs. option_map (read_part (with_length c so_far.shape) so_far.elems) (after CloseSquare vs)) e in
    rw b (rw chain.begun (rw stop last))

read_empty : (n : ℕ) (front : List ℤ) (rest : List Lexeme) → list_reader (suc n) front (OpenSquare ∷ CloseSquare ∷ rest) ≡ Some (read_part (Some (0 ∷ [])) front rest)
unfolding list_reader inside_at
read_empty n front rest = refl

list_complete : {p : ListPart} {ts rest : List Lexeme} → SpellsList p ts rest → Complete p ts rest
list_complete (number {n = m} {z = z} {front = front} {rest = rest} e) = λ n le. read_number n m z front rest e
list_complete (minus {n = m} {z = z} {front = front} {rest = rest} e) = λ n le. read_minus n m z front rest e
list_complete (nested {shape = shape} {front = front} {all = all} {ts = ts} {rest = rest} h) =
    let o = list_opens h in
    let ih = list_complete h in
    λ n le. nested_read n front ts o.0 (read_part shape all rest) o.1 (ih n le)
list_complete (first {shape = shape} {front = front} {all = all} {ts = ts} {rest = rest} h) =
    let ih = list_complete h in
    λ n le. record { start = read_part shape all rest; turns = length rest; begun = ih n le; same = refl; enough = omega arith }
list_complete (more {n = c} {shape = shape} {shape' = shape'} {front = front} {so_far = so_far} {all = all} {ts = ts} {us = us} {rest = rest} h k) =
    let ih = list_complete h in
    let ik = list_complete k in
    let a = list_shorter h in
    let b = list_shorter k in
    λ n le. next_turn n c front ts us (read_part shape so_far (Comma ∷ us)) (read_part shape' all rest) refl (ih n le) (ik n (omega arith)) b
list_complete (empty {front = front} {rest = rest}) = of_fuel
  where
    of_fuel : (n : ℕ) → suc (suc (length rest)) ≤ n → list_reader n front (OpenSquare ∷ CloseSquare ∷ rest) ≡ Some (read_part (Some (0 ∷ [])) front rest)
    of_fuel zero le = absurd (omega arith)
    of_fuel (suc n) le = read_empty n front rest
list_complete (filled {n = c} {shape = shape} {front = front} {all = all} {ts = ts} {rest = rest} h) =
    let ih = list_complete h in
    let b = list_begins h in
    of_fuel ih b
  where
    of_fuel : ((n : ℕ) → length ts ≤ n → Chain n c front ts (read_part shape all (CloseSquare ∷ rest))) → after CloseSquare ts ≡ None →
        (n : ℕ) → suc (length ts) ≤ n → list_reader n front (OpenSquare ∷ ts) ≡ Some (read_part (with_length c shape) all rest)
    of_fuel ih b zero le = absurd (omega arith)
    of_fuel ih b (suc n) le = close_chain n c front ts rest (read_part shape all (CloseSquare ∷ rest)) b refl (ih n (omega arith))

-- a spelled list literal is what is read, with what follows it
pub list_found : {shape : Option (List ℕ)} {all : List ℤ} {ts rest : List Lexeme} → SpellsList (a_list shape [] all) ts rest →
    list_read ts ≡ Some (read_part shape all rest)
list_found {ts = ts} h = list_complete h (suc (length ts)) (omega arith)
