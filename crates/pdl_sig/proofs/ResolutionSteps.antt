-- Lists and pairs of lists, one element after another.
use Rattle.std.proofs.Common.{◌≡◌, ℕ, ◌+◌, ◌<◌, Bool, true, false, ◌||◌, List, [], ◌∷◌, ◌++◌, length, get_or, drop, Option, Some, None, option_and_then, ap, ap₂, sym, ◌∙◌, inl, inr, arith, append_assoc}
use Rattle.std.specs.List.{list_any, zip}
use Rattle.std.proofs.lemmas.Bool.{cases_lt}
use Rattle.std.proofs.lemmas.List.{at_drop_all, at_drop_more, get_or_past}
use Rattle.pdl_elem.specs.declared.Ty.{Ty}
use Rattle.pdl_sig.specs.declared.SigArg.{SigArg}
use Rattle.pdl_sig.specs.declared.ArgShape.{ArgShape}
use Rattle.pdl_sig.specs.Resolution.{inputs, higher, highest_from, core, outer, joined_with}
use Rattle.pdl_shape.specs.Broadcast.{join}

-- what is left of a list from an element on
pub left_at : {X : Type 0} (xs : List X) (i : ℕ) (x : X) → i < length xs → x ≡ get_or xs i x → drop i xs ≡ x ∷ drop (i + 1) xs
left_at xs i x h e = at_drop_more (λ rest. rest) xs i x h ∙ ap (λ y. y ∷ drop (i + 1) xs) (sym e)

-- what is left of the handed arguments
abbrev pub left : List SigArg → List ArgShape → ℕ → List (SigArg × ArgShape)
left args given i = zip (drop i (inputs args)) (drop i given)

-- an argument and its shape, as the code finds them
pub record Found (args : List SigArg) (given : List ArgShape) (i : ℕ) (a : SigArg) (g : ArgShape) : Type 0 where
  pub inside : i < length given
  pub count : length given ≡ length (inputs args)
  pub arg : a ≡ get_or (inputs args) i a
  pub shape : g ≡ get_or given i g

pub left_found : (args : List SigArg) (given : List ArgShape) (i : ℕ) (a : SigArg) (g : ArgShape) → Found args given i a g → left args given i ≡ (a, g) ∷ left args given (i + 1)
left_found args given i a g f =
    let h : i < length given = f.inside in
    let n : length given ≡ length (inputs args) = f.count in
    ap₂ (λ xs ys. zip xs ys) (left_at (inputs args) i a (omega arith) f.arg) (left_at given i g h f.shape)

-- one more argument's type
pub highest_more : (args : List SigArg) (given : List ArgShape) (i : ℕ) (a : SigArg) (g : ArgShape) (found more total : Option Ty) → Found args given i a g
    → more ≡ higher a.ty g.ty found → highest_from found (left args given i) ≡ total → highest_from more (left args given (i + 1)) ≡ total
highest_more args given i a g found more total f e h =
    ap (λ o. highest_from o (left args given (i + 1))) e ∙ sym (ap (highest_from found) (left_found args given i a g f)) ∙ h

-- core dimensions from a place on
size_after : (sizes : List ℕ) (i : ℕ) (s : ℕ) (ns : List ℕ) (n : ℕ) → s ≡ get_or sizes i 1 → core (n ∷ ns) (drop i sizes) ≡ (n, s) ∷ core ns (drop (i + 1) sizes)
size_after sizes i s ns n e = elim (cases_lt i (length sizes)) [
  | inl h ↦ at_drop_more (λ rest. core (n ∷ ns) rest) sizes i 1 h ∙ ap (λ x. (n, x) ∷ core ns (drop (i + 1) sizes)) (sym e)
  | inr h ↦ at_drop_all (λ rest. core (n ∷ ns) rest) sizes i h ∙ ap₂ (λ x rest. (n, x) ∷ rest) (sym (e ∙ get_or_past sizes i 1 h)) (sym (at_drop_all (λ rest. core ns rest) sizes (i + 1) (omega arith)))
]

pub core_at : (dims sizes : List ℕ) (i n s : ℕ) → i < length dims → n ≡ get_or dims i 0 → s ≡ get_or sizes i 1 → core (drop i dims) (drop i sizes) ≡ (n, s) ∷ core (drop (i + 1) dims) (drop (i + 1) sizes)
core_at dims sizes i n s h d e =
    ap (λ ns. core ns (drop i sizes)) (at_drop_more (λ rest. rest) dims i 0 h ∙ ap (λ k. k ∷ drop (i + 1) dims) (sym d)) ∙ size_after sizes i s (drop (i + 1) dims) n e

-- a list that was pushed to, before the rest
pub pushed : {X : Type 0} (found new : List X) (x : X) (rest total all : List X) → new ≡ found ++ x ∷ [] → rest ≡ x ∷ all → found ++ rest ≡ total → new ++ all ≡ total
pushed found new x rest total all e f h = ap (λ xs. xs ++ all) e ∙ append_assoc found (x ∷ []) all ∙ ap (λ xs. found ++ xs) (sym f) ∙ h

pub joined_lists : {X : Type 0} (found new part rest total all : List X) → new ≡ found ++ part → rest ≡ part ++ all → found ++ rest ≡ total → new ++ all ≡ total
joined_lists found new part rest total all e f h = ap (λ xs. xs ++ all) e ∙ append_assoc found part all ∙ ap (λ xs. found ++ xs) (sym f) ∙ h

-- the input for which the code looks is so many inputs further on
pub record Seeks (args : List SigArg) (i left place : ℕ) : Type 0 where
  pub more : left < length (inputs (drop i args))
  pub same : (other : SigArg) → get_or (inputs (drop i args)) left other ≡ get_or (inputs args) place other

-- one more argument's dimensions join, or never do
pub joined_next : (args : List SigArg) (given : List ArgShape) (i : ℕ) (a : SigArg) (g : ArgShape) (joined o more : List ℕ) (total : Option (List ℕ)) → Found args given i a g
    → o ≡ outer (a, g) → Some more ≡ join joined o → joined_with joined (left args given i) ≡ total → joined_with more (left args given (i + 1)) ≡ total
joined_next args given i a g joined o more total f e k h =
    ap (option_and_then (λ m. joined_with m (left args given (i + 1)))) (k ∙ ap (join joined) e) ∙ sym (ap (joined_with joined) (left_found args given i a g f)) ∙ h

pub joined_never : (args : List SigArg) (given : List ArgShape) (i : ℕ) (a : SigArg) (g : ArgShape) (joined o : List ℕ) (total : Option (List ℕ)) → Found args given i a g
    → o ≡ outer (a, g) → None ≡ join joined o → joined_with joined (left args given i) ≡ total → None ≡ total
joined_never args given i a g joined o total f e k h =
    ap (option_and_then (λ m. joined_with m (left args given (i + 1)))) (k ∙ ap (join joined) e) ∙ sym (ap (joined_with joined) (left_found args given i a g f)) ∙ h

-- a test of each handed argument
pub any_found : (p : SigArg × ArgShape → Bool) (args : List SigArg) (given : List ArgShape) (i : ℕ) (a : SigArg) (g : ArgShape) (total : Bool) → Found args given i a g
    → p (a, g) ≡ true → list_any p (left args given i) ≡ total → true ≡ total
any_found p args given i a g total f e h =
    sym (ap (λ b. b || list_any p (left args given (i + 1))) e) ∙ sym (ap (list_any p) (left_found args given i a g f)) ∙ h

pub any_other : (p : SigArg × ArgShape → Bool) (args : List SigArg) (given : List ArgShape) (i : ℕ) (a : SigArg) (g : ArgShape) (total : Bool) → Found args given i a g
    → p (a, g) ≡ false → list_any p (left args given i) ≡ total → list_any p (left args given (i + 1)) ≡ total
any_other p args given i a g total f e h =
    sym (ap (λ b. b || list_any p (left args given (i + 1))) e) ∙ sym (ap (list_any p) (left_found args given i a g f)) ∙ h
