-- The scan for ragged lists finds those that are spelled.
use Rattle.std.proofs.Common.{◌≡◌, ℕ, ℤ, suc, List, [], ◌∷◌, ◌++◌, length, Bool, true, false, ◌||◌, Option, Some, None, if◌then◌else◌, refl, sym, ap, ◌∙◌, subst, true≢false}
use Rattle.pdl_elem.specs.declared.BinaryOp.TheVariants.{Sub}
use Rattle.pdl_lexemes.specs.declared.Lexeme.{Lexeme}
use Rattle.pdl_lexemes.specs.declared.Lexeme.TheVariants.{Number, OpenSquare, CloseSquare, Comma, Operator}
use Rattle.pdl_lexemes.specs.Lists.{ListPart, SpellsList, an_item, some_items, a_list, with_length, number, minus, nested, first, more, empty, filled, HoldsRagged, here, later}
use Rattle.pdl_lexemes.specs.ListReading.{ReadPart, read_part, list_reader, list_read}
use Rattle.pdl_lexemes.specs.Depth.{ragged_in, reads_ragged, without_shape}
use Rattle.pdl_lexemes.proofs.ListSound.{reader_sound}
use Rattle.pdl_lemmas.specs.Options.{map_elim}
use Rattle.pdl_lexemes.specs.Peeks.{after}
use Rattle.pdl_lexemes.proofs.ListComplete.{list_found, list_opens}
use Rattle.pdl_lexemes.proofs.ListDims.{shared_is}

pub scan_on : (t : Lexeme) (ts : List Lexeme) → reads_ragged (list_read (t ∷ ts)) ≡ false → ragged_in (t ∷ ts) ≡ ragged_in ts
scan_on t ts e = rw e

ragged_part : (ts : List Lexeme) (o : Option ReadPart) → list_read ts ≡ o → reads_ragged o ≡ true → HoldsRagged ts
ragged_part ts None e h = absurd (true≢false (sym h))
ragged_part ts (Some p) e h = of_shape p.shape refl h
  where
    of_shape : (s : Option (List ℕ)) → p.shape ≡ s → without_shape s ≡ true → HoldsRagged ts
    of_shape None is k = here (subst (λ s. SpellsList (a_list s [] p.elems) ts p.rest) is (reader_sound (suc (length ts)) [] ts p e))
    of_shape (Some sizes) is k = absurd (true≢false (sym k))

-- what the scan finds is a ragged list
pub ragged_sound : (ts : List Lexeme) → ragged_in ts ≡ true → HoldsRagged ts
ragged_sound [] e = absurd (true≢false (sym e))
ragged_sound (t ∷ ts) e = of_test (λ k. ragged_sound ts k) (reads_ragged (list_read (t ∷ ts))) refl e
  where
    of_test : (ragged_in ts ≡ true → HoldsRagged ts) → (b : Bool) → reads_ragged (list_read (t ∷ ts)) ≡ b → (if b then true else ragged_in ts) ≡ true → HoldsRagged (t ∷ ts)
    of_test ih true is k = ragged_part (t ∷ ts) (list_read (t ∷ ts)) refl is
    of_test ih false is k = later (ih k)

ragged_front : (elems : List ℤ) (ts us rest : List Lexeme) {t : Lexeme} → ts ≡ t ∷ us → list_read ts ≡ Some (read_part None elems rest) → ragged_in ts ≡ true
ragged_front elems ts us rest {t = t} e h =
    subst (λ vs. list_read vs ≡ Some (read_part None elems rest) → ragged_in vs ≡ true) (sym e) (λ k. rw k) h

ragged_behind : (t : Lexeme) (ts : List Lexeme) → ragged_in ts ≡ true → ragged_in (t ∷ ts) ≡ true
ragged_behind t ts h = of_test (reads_ragged (list_read (t ∷ ts)))
  where
    of_test : (b : Bool) → (if b then true else ragged_in ts) ≡ true
    of_test true = refl
    of_test false = h

-- each ragged list is found
pub ragged_complete : {ts : List Lexeme} → HoldsRagged ts → ragged_in ts ≡ true
ragged_complete (here {elems = elems} {ts = ts} {rest = rest} h) = let o = list_opens h in ragged_front elems ts o.0 rest o.1 (list_found h)
ragged_complete (later {t = t} {ts = ts} h) = ragged_behind t ts (ragged_complete h)

-- no list begins with another lexeme than `[`
no_list : (ts : List Lexeme) → after OpenSquare ts ≡ None → list_read ts ≡ None
unfolding list_reader
no_list ts e = rw e

pub scan_past : (t : Lexeme) (ts : List Lexeme) → after OpenSquare (t ∷ ts) ≡ None → ragged_in (t ∷ ts) ≡ ragged_in ts
scan_past t ts e = scan_on t ts (ap reads_ragged (no_list (t ∷ ts) e))

-- the same lexemes behind other numbers
abbrev Refronts : ListPart → List Lexeme → List Lexeme → Type 0
Refronts (an_item shape front all) ts rest = (g : List ℤ) → (es : List ℤ) × SpellsList (an_item shape g es) ts rest
Refronts (some_items n shape front all) ts rest = (g : List ℤ) → (es : List ℤ) × SpellsList (some_items n shape g es) ts rest
Refronts (a_list shape front all) ts rest = (g : List ℤ) → (es : List ℤ) × SpellsList (a_list shape g es) ts rest

refront : {p : ListPart} {ts rest : List Lexeme} → SpellsList p ts rest → Refronts p ts rest
refront (number e) = λ g. (_, number e)
refront (minus e) = λ g. (_, minus e)
refront (nested h) = let i = refront h in λ g. let x = i g in (x.0, nested x.1)
refront (first h) = let i = refront h in λ g. let x = i g in (x.0, first x.1)
refront (more h k) = let i = refront h in let j = refront k in λ g. let x = i g in let y = j x.0 in (y.0, more x.1 y.1)
refront empty = λ g. (g, empty)
refront (filled h) = let i = refront h in λ g. let x = i g in (x.0, filled x.1)

-- a list that isn't ragged is passed
clean_list : (shape : Option (List ℕ)) (d : List ℕ) (es : List ℤ) (t : Lexeme) (ts rest : List Lexeme) → shape ≡ Some d → SpellsList (a_list shape [] es) (t ∷ ts) rest → ragged_in (t ∷ ts) ≡ ragged_in ts
clean_list shape d es t ts rest is h = scan_on t ts (ap reads_ragged (list_found h) ∙ ap without_shape is)

-- lexemes of a part that isn't ragged hold no ragged list
abbrev IsClean : Option (List ℕ) → List Lexeme → List Lexeme → Type 0
IsClean shape ts rest = (d : List ℕ) → shape ≡ Some d → ragged_in ts ≡ ragged_in rest

abbrev Clean : ListPart → List Lexeme → List Lexeme → Type 0
Clean (an_item shape front all) ts rest = IsClean shape ts rest
Clean (some_items n shape front all) ts rest = IsClean shape ts rest
Clean (a_list shape front all) ts rest = IsClean shape ts rest

clean : {p : ListPart} {ts rest : List Lexeme} → SpellsList p ts rest → Clean p ts rest
clean (number {n = n} {rest = rest} e) = λ d is. scan_past (Number n) rest refl
clean (minus {n = n} {rest = rest} e) = λ d is. scan_past (Operator Sub) (Number n ∷ rest) refl ∙ scan_past (Number n) rest refl
clean (nested h) = clean h
clean (first h) = clean h
clean (more {shape = a} {shape' = b} {us = us} h k) =
    let i = clean h in
    let j = clean k in
    λ d is. let s = shared_is a b d is in i d s.0 ∙ scan_past Comma us refl ∙ j d s.1
clean (empty {rest = rest}) =
    λ d is. clean_list (Some (0 ∷ [])) (0 ∷ []) [] OpenSquare (CloseSquare ∷ rest) rest refl empty ∙ scan_past CloseSquare rest refl
clean (filled {n = n} {shape = shape} {ts = ts} {rest = rest} h) =
    let i = clean h in
    let x = refront h [] in
    λ d is. clean_list (with_length n shape) d x.0 OpenSquare ts rest is (filled x.1)
    ∙ map_elim (ragged_in ts ≡ ragged_in rest) (λ c. c ++ n ∷ []) shape is (λ c k same. i c k ∙ scan_past CloseSquare rest refl)

-- a list literal is found where it is ragged, and else passed
pub scan_list : (shape : Option (List ℕ)) (elems : List ℤ) (ts rest : List Lexeme) → SpellsList (a_list shape [] elems) ts rest → ragged_in ts ≡ (without_shape shape || ragged_in rest)
scan_list None elems ts rest h = ragged_complete (here h)
scan_list (Some d) elems ts rest h = clean h d refl
