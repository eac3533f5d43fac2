-- Each spelled expression is read.
use Rattle.std.proofs.Common.{◌≡◌, ℕ, ℤ, zero, suc, ◌≤◌, ◌<◌, List, ◌∷◌, length, true, false, Some, None, refl, ap, sym, ◌∙◌, arith, true≢false}
use Rattle.pdl_elem.specs.declared.BinaryOp.{BinaryOp}
use Rattle.pdl_elem.specs.declared.BinaryOp.TheVariants.{Sub}
use Rattle.pdl_elem.specs.declared.UnaryOp.{UnaryOp}
use Rattle.pdl_elem.specs.declared.UnaryOp.TheVariants.{Neg}
use Rattle.pdl_lexemes.specs.Lists.{signed}
use Rattle.pdl_lexemes.specs.Levels.{level_of, many}
use Rattle.pdl_code.specs.declared.lexeme.Span.{Span}
use Rattle.pdl_code.specs.declared.lexeme.WordKind.{WordKind}
use Rattle.pdl_code.specs.declared.lexeme.NameKind.{NameKind}
use Rattle.pdl_code.specs.declared.lexeme.NameKind.TheVariants.{Size, Generic}
use Rattle.pdl_code.specs.declared.lexeme.Lexeme.{Lexeme}
use Rattle.pdl_code.specs.declared.lexeme.Lexeme.TheVariants.{Name, Word, Number, Open, Close, Semicolon, Comma, FatArrow, Operator, Prefix}
use Rattle.pdl_code.specs.Grammar.{Part, an_expr, a_primary, an_access, some_indices, Spells, same, joined, once, negated, prefixed, plain, a_number, a_word, a_size, an_element, round, looped_access, given_access, last_index, next_index}
use Rattle.pdl_code.specs.Tree.{RawTree, RawIndices, number, size, named, access, unary, binary, none, along, called}
use Rattle.pdl_code.specs.CodeReading.{expression, after, access_at, chain_at, close_at, declared_at, given_at, indices_at, level_at, limit_of, operator_at, plain_at, prefix_at, primary_at, reader, size_at, unary_at}
use Rattle.pdl_code.proofs.CodeReadingChains.{chain_stop_at, chain_turn_at}
use Rattle.pdl_code.proofs.CodeReadingPeeks.{operator_here, operator_other}

-- what may follow an expression of a level: no further operator of it
pub record Ends (l : ℕ) (rest : List Lexeme) : Type 0 where
  pub no_operator : (j : ℕ) → j ≤ l → operator_at j rest ≡ None

ends_below : (l : ℕ) (rest : List Lexeme) → Ends (suc l) rest → Ends l rest
ends_below l rest e = record { no_operator = λ j le. e.no_operator j (omega arith) }

pub ends_close : (l at : ℕ) (rest : List Lexeme) → Ends l (Close at ∷ rest)
ends_close l at rest = record { no_operator = λ j le. refl }

ends_comma : (l : ℕ) (rest : List Lexeme) → Ends l (Comma ∷ rest)
ends_comma l rest = record { no_operator = λ j le. refl }

pub ends_semicolon : (l : ℕ) (rest : List Lexeme) → Ends l (Semicolon ∷ rest)
ends_semicolon l rest = record { no_operator = λ j le. refl }

ends_operator : (l : ℕ) (op : BinaryOp) (rest : List Lexeme) → level_of op ≡ suc l → Ends l (Operator op ∷ rest)
ends_operator l op rest e = record { no_operator = λ j le. operator_other j op rest (λ same. omega (arith, e, same, le)) }

pub shorter : {p : Part} {ts rest : List Lexeme} → Spells p ts rest → length rest ≤ length ts
shorter (same h) = shorter h
shorter (joined h e m k) = let a = shorter h in let b = shorter k in omega arith
shorter (once h e m k) = let a = shorter h in let b = shorter k in omega arith
shorter (negated h) = let a = shorter h in omega arith
shorter (prefixed h) = let a = shorter h in omega arith
shorter (plain h) = shorter h
shorter (a_number e) = omega arith
shorter a_word = omega arith
shorter a_size = omega arith
shorter (an_element h) = shorter h
shorter (round h) = let a = shorter h in omega arith
shorter looped_access = omega arith
shorter (given_access h) = let a = shorter h in omega arith
shorter (last_index h) = let a = shorter h in omega arith
shorter (next_index h k) = let a = shorter h in let b = shorter k in omega arith

-- what indices begin with
pub record IndexStart (ts : List Lexeme) : Type 0 where
  pub kind : WordKind
  pub word : Span
  pub left : List Lexeme
  pub is : ts ≡ Word kind word ∷ FatArrow ∷ left

-- what an access begins with, no `$SIZE(word)` and no declaration
pub record AccessStart (ts rest : List Lexeme) : Type 0 where
  pub kind : NameKind
  pub name : Span
  pub left : List Lexeme
  pub is : ts ≡ Name kind name ∷ left
  pub no_size : size_at ts ≡ None
  pub no_declaration : plain_at rest ≡ None → declared_at ts ≡ None

-- what each part begins with
abbrev Begins : Part → List Lexeme → List Lexeme → Type 0
Begins (an_expr l t) ts rest = Unit {0}
Begins (a_primary t) ts rest = prefix_at ts ≡ None
Begins (an_access w is at) ts rest = AccessStart ts rest
Begins (some_indices is) ts rest = IndexStart ts

looped_size : (kind : NameKind) (w : Span) (at : ℕ) (rest : List Lexeme) → size_at (Name kind w ∷ Open ∷ Close at ∷ rest) ≡ None
looped_size Size w at rest = refl
looped_size _ w at rest = refl

looped_type : (kind : NameKind) (w : Span) (at : ℕ) (rest : List Lexeme) → plain_at rest ≡ None → declared_at (Name kind w ∷ Open ∷ Close at ∷ rest) ≡ None
looped_type Generic w at rest e = rw e refl
looped_type _ w at rest e = refl

given_size : (kind : NameKind) (w : Span) (k : WordKind) (v : Span) (us : List Lexeme) → size_at (Name kind w ∷ Open ∷ Word k v ∷ FatArrow ∷ us) ≡ None
given_size Size w k v us = refl
given_size _ w k v us = refl

given_type : (kind : NameKind) (w : Span) (k : WordKind) (v : Span) (us : List Lexeme) → declared_at (Name kind w ∷ Open ∷ Word k v ∷ FatArrow ∷ us) ≡ None
given_type Generic w k v us = refl
given_type _ w k v us = refl

given_start : (kind : NameKind) (w : Span) (ts rest : List Lexeme) → IndexStart ts → AccessStart (Name kind w ∷ Open ∷ ts) rest
given_start kind w ts rest i = record {
  kind = kind;
  name = w;
  left = Open ∷ ts;
  is = refl;
  no_size = ap (λ us. size_at (Name kind w ∷ Open ∷ us)) i.is ∙ given_size kind w i.kind i.word i.left;
  no_declaration = λ e. ap (λ us. declared_at (Name kind w ∷ Open ∷ us)) i.is ∙ given_type kind w i.kind i.word i.left;
}

-- an access isn't a prefix
no_prefix : {ts rest : List Lexeme} → AccessStart ts rest → prefix_at ts ≡ None
no_prefix a = ap prefix_at a.is

pub begins : {p : Part} {ts rest : List Lexeme} → Spells p ts rest → Begins p ts rest
begins (same h) = tt
begins (joined h e m k) = tt
begins (once h e m k) = tt
begins (negated h) = tt
begins (prefixed h) = tt
begins (plain h) = tt
begins (a_number e) = refl
begins a_word = refl
begins a_size = refl
begins (an_element h) = no_prefix (begins h)
begins (round h) = refl
begins (looped_access {kind = kind} {w = w} {at = at} {rest = rest}) =
    record { kind = kind; name = w; left = Open ∷ Close at ∷ rest; is = refl; no_size = looped_size kind w at rest; no_declaration = λ e. looped_type kind w at rest e }
begins (given_access {kind = kind} {w = w} {ts = ts} {rest = rest} h) = given_start kind w ts rest (begins h)
begins (last_index {kind = kind} {w = w} {ts = ts} h) = record { kind = kind; word = w; left = ts; is = refl }
begins (next_index {kind = kind} {w = w} {ts = ts} h k) = record { kind = kind; word = w; left = ts; is = refl }

-- the part of an expression that is read so far, with what is left of its chain
pub record Chain (n l : ℕ) (t : RawTree) (ts rest : List Lexeme) : Type 0 where
  pub turns : ℕ
  pub enough : many (suc l) ≡ true → length rest ≤ turns
  pub same : level_at (reader n) (suc l) ts ≡ chain_at (level_at (reader n) l) (suc l) turns t rest

abbrev pub Complete : Part → List Lexeme → List Lexeme → Type 0
Complete (an_expr zero t) ts rest = (n : ℕ) → length ts ≤ n → Ends 0 rest → unary_at (reader n) ts ≡ Some (t, rest)
Complete (an_expr (suc l) t) ts rest = (n : ℕ) → length ts ≤ n → Ends l rest → Chain n l t ts rest
Complete (a_primary t) ts rest = (n : ℕ) → length ts ≤ n → primary_at (reader n) ts ≡ Some (t, rest)
Complete (an_access w is at) ts rest = (n : ℕ) → length ts ≤ n → access_at (reader n) ts ≡ Some ((w, is, at), rest)
Complete (some_indices is) ts rest =
    (n k : ℕ) → length ts < n → length ts ≤ k → Ends 7 rest → after Comma rest ≡ None → indices_at (reader n) k ts ≡ Some (is, rest)

-- an expression behind which nothing of it follows
finished : (l : ℕ) (t : RawTree) (ts rest : List Lexeme) → Complete (an_expr l t) ts rest → (n : ℕ) → length ts ≤ n → Ends l rest →
    level_at (reader n) l ts ≡ Some (t, rest)
unfolding level_at
finished zero t ts rest h n le e = h n le e
finished (suc l) t ts rest h n le e =
    let c = h n le (ends_below l rest e) in
    c.same ∙ chain_stop_at (level_at (reader n) l) (suc l) c.turns t rest (e.no_operator (suc l) (omega arith))

limit_many : (l : ℕ) (ts : List Lexeme) → many l ≡ true → length ts ≤ limit_of l ts
limit_many l ts m = rw m (omega arith)

begin_chain : (l n : ℕ) (t : RawTree) (ts rest : List Lexeme) → level_at (reader n) l ts ≡ Some (t, rest) → Chain n l t ts rest
unfolding level_at
begin_chain l n t ts rest h =
    record { turns = limit_of (suc l) rest; enough = λ m. limit_many (suc l) rest m; same = rw h }

next_operator : (l n : ℕ) (a b : RawTree) (op : BinaryOp) (ts us rest : List Lexeme) → level_of op ≡ suc l → many (suc l) ≡ true →
    length rest ≤ length us → Chain n l a ts (Operator op ∷ us) → level_at (reader n) l us ≡ Some (b, rest) →
    Chain n l (binary op a b) ts rest
next_operator l n a b op ts us rest e m le c h = of_turns c.turns refl
  where
    of_turns : (k : ℕ) → c.turns ≡ k → Chain n l (binary op a b) ts rest
    of_turns zero z = absurd (omega (arith, c.enough m, z))
    of_turns (suc k) z = record {
      turns = k;
      enough = λ m'. omega (arith, c.enough m, z);
      same =
          c.same ∙ (ap (λ j. chain_at (level_at (reader n) l) (suc l) j a (Operator op ∷ us)) z
          ∙ chain_turn_at (level_at (reader n) l) (suc l) k a (Operator op ∷ us) us rest op b (operator_here (suc l) op us e) h);
    }

only_operator : (l n : ℕ) (a b : RawTree) (op : BinaryOp) (ts us rest : List Lexeme) → level_of op ≡ suc l → many (suc l) ≡ false →
    level_at (reader n) l ts ≡ Some (a, Operator op ∷ us) → level_at (reader n) l us ≡ Some (b, rest) →
    Chain n l (binary op a b) ts rest
unfolding level_at
only_operator l n a b op ts us rest e m h k = record {
  turns = 0;
  enough = λ m'. absurd (true≢false (sym m' ∙ m));
  same =
      let inner = level_at (reader n) l in
      let one : limit_of (suc l) (Operator op ∷ us) ≡ 1 = rw m in
      rw h (ap (λ j. chain_at inner (suc l) j a (Operator op ∷ us)) one
      ∙ chain_turn_at inner (suc l) 0 a (Operator op ∷ us) us rest op b (operator_here (suc l) op us e) k);
}

read_negated : (n : ℕ) (t : RawTree) (ts rest : List Lexeme) → Complete (an_expr 0 t) ts rest → suc (length ts) ≤ n → Ends 0 rest →
    unary_at (reader n) (Operator Sub ∷ ts) ≡ Some (unary Neg t, rest)
unfolding unary_at reader
read_negated zero t ts rest h le e = absurd (omega arith)
read_negated (suc m) t ts rest h le e = rw (h m (omega arith) e)

read_prefixed : (n : ℕ) (op : UnaryOp) (t : RawTree) (ts rest : List Lexeme) → Complete (an_expr 0 t) ts rest → suc (length ts) ≤ n → Ends 0 rest →
    unary_at (reader n) (Prefix op ∷ ts) ≡ Some (unary op t, rest)
unfolding unary_at reader
read_prefixed zero op t ts rest h le e = absurd (omega arith)
read_prefixed (suc m) op t ts rest h le e = rw (h m (omega arith) e)

read_plain : (n : ℕ) (t : RawTree) (ts rest : List Lexeme) → prefix_at ts ≡ None → primary_at (reader n) ts ≡ Some (t, rest) →
    unary_at (reader n) ts ≡ Some (t, rest)
unfolding unary_at
read_plain n t ts rest b h = rw b h

read_number : (n m : ℕ) (z : ℤ) (rest : List Lexeme) → signed m ≡ Some z → primary_at (reader n) (Number m ∷ rest) ≡ Some (number z, rest)
unfolding primary_at
read_number n m z rest e = rw e

read_word : (n : ℕ) (kind : WordKind) (w : Span) (rest : List Lexeme) → primary_at (reader n) (Word kind w ∷ rest) ≡ Some (named w, rest)
unfolding primary_at
read_word n kind w rest = refl

read_size : (n : ℕ) (v w : Span) (kind : WordKind) (at : ℕ) (rest : List Lexeme) →
    primary_at (reader n) (Name Size v ∷ Open ∷ Word kind w ∷ Close at ∷ rest) ≡ Some (size w, rest)
unfolding primary_at
read_size n v w kind at rest = refl

element_here : (n : ℕ) (kind : NameKind) (name : Span) (left rest : List Lexeme) (w : Span) (is : RawIndices) (at : ℕ) → size_at (Name kind name ∷ left) ≡ None
    → access_at (reader n) (Name kind name ∷ left) ≡ Some ((w, is, at), rest) → primary_at (reader n) (Name kind name ∷ left) ≡ Some (access (called w at) is, rest)
unfolding primary_at
element_here n kind name left rest w is at e h = rw e (rw h)

read_element : (n : ℕ) (w : Span) (is : RawIndices) (at : ℕ) (ts rest : List Lexeme) → AccessStart ts rest → access_at (reader n) ts ≡ Some ((w, is, at), rest)
    → primary_at (reader n) ts ≡ Some (access (called w at) is, rest)
read_element n w is at ts rest a h =
    ap (primary_at (reader n)) a.is ∙ element_here n a.kind a.name a.left rest w is at (ap size_at (sym a.is) ∙ a.no_size) (ap (access_at (reader n)) (sym a.is) ∙ h)

read_round : (n : ℕ) (t : RawTree) (at : ℕ) (ts rest : List Lexeme) → Complete (an_expr 7 t) ts (Close at ∷ rest) → suc (length ts) ≤ n →
    primary_at (reader n) (Open ∷ ts) ≡ Some (t, rest)
unfolding primary_at reader
read_round zero t at ts rest h le = absurd (omega arith)
read_round (suc m) t at ts rest h le = rw (finished 7 t ts (Close at ∷ rest) h m (omega arith) (ends_close 7 at rest))

pub read_expression : (n : ℕ) (t : RawTree) (ts rest : List Lexeme) → Complete (an_expr 7 t) ts rest → length ts < n → Ends 7 rest →
    reader n expression ts ≡ Some (t, rest)
unfolding reader
read_expression zero t ts rest h le e = absurd (omega arith)
read_expression (suc m) t ts rest h le e = finished 7 t ts rest h m (omega arith) e

read_looped : (n : ℕ) (kind : NameKind) (w : Span) (at : ℕ) (rest : List Lexeme) → access_at (reader n) (Name kind w ∷ Open ∷ Close at ∷ rest) ≡ Some ((w, none, at), rest)
unfolding given_at
read_looped n kind w at rest = refl

given_here : (n : ℕ) (kind : NameKind) (w : Span) (is : RawIndices) (at : ℕ) (ts rest : List Lexeme) → close_at ts ≡ None → indices_at (reader n) (length ts) ts ≡ Some (is, Close at ∷ rest)
    → access_at (reader n) (Name kind w ∷ Open ∷ ts) ≡ Some ((w, is, at), rest)
unfolding given_at
given_here n kind w is at ts rest e h = rw e (rw h)

read_given : (n : ℕ) (kind : NameKind) (w : Span) (is : RawIndices) (at : ℕ) (ts rest : List Lexeme) → IndexStart ts → Complete (some_indices is) ts (Close at ∷ rest) → suc (suc (length ts)) ≤ n
    → access_at (reader n) (Name kind w ∷ Open ∷ ts) ≡ Some ((w, is, at), rest)
read_given n kind w is at ts rest i h le =
    given_here n kind w is at ts rest (ap close_at i.is) (h n (length ts) (omega (arith, le)) (omega arith) (ends_close 7 at rest) refl)

read_last : (n k : ℕ) (kind : WordKind) (w : Span) (t : RawTree) (ts rest : List Lexeme) → suc (suc (length ts)) ≤ k → after Comma rest ≡ None → reader n expression ts ≡ Some (t, rest)
    → indices_at (reader n) k (Word kind w ∷ FatArrow ∷ ts) ≡ Some (along w t none, rest)
unfolding indices_at
read_last n zero kind w t ts rest le e h = absurd (omega (arith, le))
read_last n (suc k) kind w t ts rest le e h = rw h (rw e)

read_next : (n k : ℕ) (kind : WordKind) (w : Span) (t : RawTree) (is : RawIndices) (ts us rest : List Lexeme) → reader n expression ts ≡ Some (t, Comma ∷ us)
    → indices_at (reader n) k us ≡ Some (is, rest) → indices_at (reader n) (suc k) (Word kind w ∷ FatArrow ∷ ts) ≡ Some (along w t is, rest)
unfolding indices_at
read_next n k kind w t is ts us rest h m = rw h (rw m)

read_more : (n k : ℕ) (kind : WordKind) (w : Span) (t : RawTree) (is : RawIndices) (ts us rest : List Lexeme) → suc (suc (length ts)) ≤ k → reader n expression ts ≡ Some (t, Comma ∷ us)
    → ((j : ℕ) → length ts ≤ j → indices_at (reader n) j us ≡ Some (is, rest)) → indices_at (reader n) k (Word kind w ∷ FatArrow ∷ ts) ≡ Some (along w t is, rest)
read_more n zero kind w t is ts us rest le h m = absurd (omega (arith, le))
read_more n (suc k) kind w t is ts us rest le h m = read_next n k kind w t is ts us rest h (m k (omega (arith, le)))

-- what is spelled is read
pub complete : {p : Part} {ts rest : List Lexeme} → Spells p ts rest → Complete p ts rest
complete (same {l = l} {t = t} {ts = ts} {rest = rest} h) =
    let ih = complete h in
    λ n le e. begin_chain l n t ts rest (finished l t ts rest ih n le e)
complete (joined {l = l} {a = a} {b = b} {op = op} {ts = ts} {us = us} {rest = rest} h lev m k) =
    let ih = complete h in
    let ik = complete k in
    let x = shorter h in
    let y = shorter k in
    λ n le e. next_operator l n a b op ts us rest lev m y (ih n le (ends_operator l op us lev)) (finished l b us rest ik n (omega arith) e)
complete (once {l = l} {a = a} {b = b} {op = op} {ts = ts} {us = us} {rest = rest} h lev m k) =
    let ih = complete h in
    let ik = complete k in
    let x = shorter h in
    λ n le e. only_operator l n a b op ts us rest lev m (finished l a ts (Operator op ∷ us) ih n le (ends_operator l op us lev)) (finished l b us rest ik n (omega arith) e)
complete (negated {t = t} {ts = ts} {rest = rest} h) = let ih = complete h in λ n le e. read_negated n t ts rest ih le e
complete (prefixed {op = op} {t = t} {ts = ts} {rest = rest} h) = let ih = complete h in λ n le e. read_prefixed n op t ts rest ih le e
complete (plain {t = t} {ts = ts} {rest = rest} h) =
    let ih = complete h in
    let b = begins h in
    λ n le e. read_plain n t ts rest b (ih n le)
complete (a_number {n = m} {z = z} {rest = rest} e) = λ n le. read_number n m z rest e
complete (a_word {kind = kind} {w = w} {rest = rest}) = λ n le. read_word n kind w rest
complete (a_size {v = v} {w = w} {kind = kind} {at = at} {rest = rest}) = λ n le. read_size n v w kind at rest
complete (an_element {w = w} {is = is} {at = at} {ts = ts} {rest = rest} h) =
    let ih = complete h in
    let b = begins h in
    λ n le. read_element n w is at ts rest b (ih n le)
complete (round {t = t} {at = at} {ts = ts} {rest = rest} h) = let ih = complete h in λ n le. read_round n t at ts rest ih le
complete (looped_access {kind = kind} {w = w} {at = at} {rest = rest}) = λ n le. read_looped n kind w at rest
complete (given_access {kind = kind} {w = w} {is = is} {at = at} {ts = ts} {rest = rest} h) =
    let ih = complete h in
    let b = begins h in
    λ n le. read_given n kind w is at ts rest b ih le
complete (last_index {kind = kind} {w = w} {t = t} {ts = ts} {rest = rest} h) =
    let ih = complete h in
    λ n k lt le e c. read_last n k kind w t ts rest le c (read_expression n t ts rest ih (omega (arith, lt)) e)
complete (next_index {kind = kind} {w = w} {t = t} {is = is} {ts = ts} {us = us} {rest = rest} h m) =
    let ih = complete h in
    let im = complete m in
    let x = shorter h in
    λ n k lt le e c. read_more n k kind w t is ts us rest le (read_expression n t ts (Comma ∷ us) ih (omega (arith, lt)) (ends_comma 7 us)) (λ j at. im n j (omega (arith, x, lt)) (omega (arith, x, at)) e c)
