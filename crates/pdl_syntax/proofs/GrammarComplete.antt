-- Each spelled expression is read.
use Rattle.std.proofs.Common.{◌≡◌, ℕ, ℤ, zero, suc, ◌≤◌, ◌<◌, List, [], ◌∷◌, length, true, false, Option, Some, None, refl, ap, sym, ◌∙◌, subst, arith, true≢false}
use Rattle.pdl_elem.specs.declared.BinaryOp.{BinaryOp}
use Rattle.pdl_elem.specs.declared.BinaryOp.TheVariants.{Sub}
use Rattle.pdl_elem.specs.declared.UnaryOp.{UnaryOp}
use Rattle.pdl_elem.specs.declared.UnaryOp.TheVariants.{Neg}
use Rattle.pdl_elem.specs.declared.Ty.{Ty}
use Rattle.pdl_lexemes.specs.declared.Span.{Span}
use Rattle.pdl_lexemes.specs.declared.WordKind.{WordKind}
use Rattle.pdl_lexemes.specs.declared.WordKind.TheVariants.{OfType}
use Rattle.pdl_lexemes.specs.declared.Keyword.TheVariants.{Pdl}
use Rattle.pdl_lexemes.specs.declared.Lexeme.{Lexeme}
use Rattle.pdl_lexemes.specs.declared.Lexeme.TheVariants.{Name, Keyword, Word, Number, Quoted, Open, Close, OpenSquare, Comma, Arrow, Operator, Prefix}
use Rattle.pdl_lexemes.specs.Bytes.{bytes_at}
use Rattle.pdl_lexemes.specs.Lists.{signed}
use Rattle.pdl_lexemes.specs.ListReading.{list_read, read_part}
use Rattle.pdl_lexemes.specs.Laws.{ListsAreRead}
use Rattle.pdl_lexemes.specs.Peeks.{after, method_at, prefix_at, quoted_at, type_at}
use Rattle.pdl_syntax.specs.Tree.{Tree, Args, number, named, unary, binary, call, none, value, text, of_type}
use Rattle.pdl_syntax.specs.Grammar.{Spells, Part, an_expr, a_postfix, a_primary, an_arg, some_args, closed_args, maybe_args, literal_of, same, joined, once, negated, prefixed, plain, bare, method, a_number, a_name, list, round_list, called, round, a_value, a_text, a_type, one, more, no_args, all_args, without, within}
use Rattle.pdl_lexemes.specs.Levels.{level_of, many}
use Rattle.pdl_syntax.specs.ExpressionReading.{expression, operator_at, limit_of, literal_at, chain_at, arg_at, more_at, closed_at, maybe_at, primary_at, methods_at, postfix_at, unary_at, level_at, reader}
use Rattle.pdl_syntax.proofs.ExpressionReadingPeeks.{operator_here, operator_other}
use Rattle.pdl_syntax.proofs.ExpressionReadingTurns.{chain_stop_at, chain_turn_at, methods_stop, methods_turn, more_stop, more_turn}

-- what may follow an expression of a level: no further operator of it, no method and no bracket
pub record Ends (l : ℕ) (rest : List Lexeme) : Type 0 where
  pub no_open : after Open rest ≡ None
  pub no_method : method_at rest ≡ None
  pub no_operator : (j : ℕ) → j ≤ l → operator_at j rest ≡ None

pub ends_below : (l : ℕ) (rest : List Lexeme) → Ends (suc l) rest → Ends l rest
ends_below l rest e = record { no_open = e.no_open; no_method = e.no_method; no_operator = λ j le. e.no_operator j (omega arith) }

pub ends_nothing : (l : ℕ) → Ends l []
ends_nothing l = record { no_open = refl; no_method = refl; no_operator = λ j le. refl }

pub ends_close : (l : ℕ) (rest : List Lexeme) → Ends l (Close ∷ rest)
ends_close l rest = record { no_open = refl; no_method = refl; no_operator = λ j le. refl }

pub ends_comma : (l : ℕ) (rest : List Lexeme) → Ends l (Comma ∷ rest)
ends_comma l rest = record { no_open = refl; no_method = refl; no_operator = λ j le. refl }

ends_operator : (l : ℕ) (op : BinaryOp) (rest : List Lexeme) → level_of op ≡ suc l → Ends l (Operator op ∷ rest)
ends_operator l op rest e =
    record { no_open = refl; no_method = refl; no_operator = λ j le. operator_other j op rest (λ same. omega (arith, e, same, le)) }

pub shorter : ListsAreRead → {source : List ℕ} {p : Part} {ts rest : List Lexeme} → Spells source p ts rest → length rest ≤ length ts
shorter lists (same h) = shorter lists h
shorter lists (joined h e m k) = let a = shorter lists h in let b = shorter lists k in omega arith
shorter lists (once h e m k) = let a = shorter lists h in let b = shorter lists k in omega arith
shorter lists (negated h) = let a = shorter lists h in omega arith
shorter lists (prefixed h) = let a = shorter lists h in omega arith
shorter lists (plain h) = shorter lists h
shorter lists (bare h) = shorter lists h
shorter lists (method h k) = let a = shorter lists h in let b = shorter lists k in omega arith
shorter lists (a_number e) = omega arith
shorter lists a_name = omega arith
shorter lists (list h) = let a = lists.shortens _ _ _ _ h in omega arith
shorter lists (round_list h) = let a = lists.shortens _ _ _ _ h in omega arith
shorter lists (called h) = let a = shorter lists h in omega arith
shorter lists (round h) = let a = shorter lists h in omega arith
shorter lists (a_value h) = shorter lists h
shorter lists a_text = omega arith
shorter lists a_type = omega arith
shorter lists (one h) = shorter lists h
shorter lists (more h k) = let a = shorter lists h in let b = shorter lists k in omega arith
shorter lists no_args = omega arith
shorter lists (all_args h) = let a = shorter lists h in omega arith
shorter lists without = omega arith
shorter lists (within h) = let a = shorter lists h in omega arith

-- what no expression begins with
pub record Opening (ts : List Lexeme) : Type 0 where
  pub close : after Close ts ≡ None
  pub quoted : quoted_at ts ≡ None
  pub typed : type_at ts ≡ None

pub record Primary (ts : List Lexeme) : Type 0 where
  pub opening : Opening ts
  pub prefix : prefix_at ts ≡ None

abbrev pub Begins : Part → List Lexeme → Type 0
Begins (an_expr l t) ts = Opening ts
Begins (a_postfix t) ts = Primary ts
Begins (a_primary t) ts = Primary ts
Begins (an_arg front all) ts = after Close ts ≡ None
Begins (some_args front all) ts = after Close ts ≡ None
Begins (closed_args front all) ts = Unit {0}
Begins (maybe_args front all) ts = Unit {0}

begins_call : (kind : WordKind) (w : Span) (ts : List Lexeme) → type_at (Word kind w ∷ Open ∷ ts) ≡ None
begins_call (OfType ty) w ts = refl
begins_call _ w ts = refl

pub begins : {source : List ℕ} {p : Part} {ts rest : List Lexeme} → Spells source p ts rest → Begins p ts
begins (same h) = begins h
begins (joined h e m k) = begins h
begins (once h e m k) = begins h
begins (negated h) = record { close = refl; quoted = refl; typed = refl }
begins (prefixed h) = record { close = refl; quoted = refl; typed = refl }
begins (plain h) = (begins h).opening
begins (bare h) = begins h
begins (method h k) = begins h
begins (a_number e) = record { opening = record { close = refl; quoted = refl; typed = refl }; prefix = refl }
begins a_name = record { opening = record { close = refl; quoted = refl; typed = refl }; prefix = refl }
begins (list h) = record { opening = record { close = refl; quoted = refl; typed = refl }; prefix = refl }
begins (round_list h) = record { opening = record { close = refl; quoted = refl; typed = refl }; prefix = refl }
begins (called {kind = kind} {w = w} {ts = ts} h) =
    record { opening = record { close = refl; quoted = refl; typed = begins_call kind w ts }; prefix = refl }
begins (round h) = record { opening = record { close = refl; quoted = refl; typed = refl }; prefix = refl }
begins (a_value h) = (begins h).close
begins a_text = refl
begins a_type = refl
begins (one h) = begins h
begins (more h k) = begins h
begins no_args = tt
begins (all_args h) = tt
begins without = tt
begins (within h) = tt

module _ (lists : ListsAreRead) (source : List ℕ) where
  -- the part of an expression that is read so far, with what is left of its chain
  pub record Chain (n l : ℕ) (t : Tree) (ts rest : List Lexeme) : Type 0 where
    pub turns : ℕ
    pub enough : many (suc l) ≡ true → length rest ≤ turns
    pub same : level_at source (reader source n) (suc l) ts ≡ chain_at (level_at source (reader source n) l) (suc l) turns t rest

  pub record Methods (n : ℕ) (t : Tree) (ts rest : List Lexeme) : Type 0 where
    pub start : Tree
    pub left : List Lexeme
    pub turns : ℕ
    pub begun : primary_at source (reader source n) ts ≡ Some (start, left)
    pub same : methods_at source (reader source n) (length left) start left ≡ methods_at source (reader source n) turns t rest
    pub enough : length rest ≤ turns
    pub within_left : length rest ≤ length left

  pub record Arguments (n : ℕ) (front args : Args) (ts rest : List Lexeme) : Type 0 where
    pub start : Args
    pub left : List Lexeme
    pub turns : ℕ
    pub begun : arg_at source (reader source n) front ts ≡ Some (start, left)
    pub same : more_at source (reader source n) (length left) start left ≡ more_at source (reader source n) turns args rest
    pub enough : length rest ≤ turns

  abbrev pub Complete : Part → List Lexeme → List Lexeme → Type 0
  Complete (an_expr zero t) ts rest =
      (n : ℕ) → length ts ≤ n → Ends 0 rest → unary_at source (reader source n) ts ≡ Some (t, rest)
  Complete (an_expr (suc l) t) ts rest = (n : ℕ) → length ts ≤ n → Ends l rest → Chain n l t ts rest
  Complete (a_postfix t) ts rest = (n : ℕ) → length ts ≤ n → after Open rest ≡ None → Methods n t ts rest
  Complete (a_primary t) ts rest = (n : ℕ) → length ts ≤ n → primary_at source (reader source n) ts ≡ Some (t, rest)
  Complete (an_arg front all) ts rest =
      (n : ℕ) → length ts < n → Ends 7 rest → arg_at source (reader source n) front ts ≡ Some (all, rest)
  Complete (some_args front all) ts rest = (n : ℕ) → length ts < n → Ends 7 rest → Arguments n front all ts rest
  Complete (closed_args front all) ts rest =
      (n : ℕ) → length ts < n → closed_at source (reader source n) front ts ≡ Some (all, rest)
  Complete (maybe_args front all) ts rest =
      (n : ℕ) → length ts ≤ n → after Open rest ≡ None → maybe_at source (reader source n) front ts ≡ Some (all, rest)

  -- an expression behind which nothing of it follows
  pub finished : (l : ℕ) (t : Tree) (ts rest : List Lexeme) → Complete (an_expr l t) ts rest → (n : ℕ) → length ts ≤ n → Ends l rest →
      level_at source (reader source n) l ts ≡ Some (t, rest)
  unfolding level_at
  finished zero t ts rest h n le e = h n le e
  finished (suc l) t ts rest h n le e =
      let c = h n le (ends_below l rest e) in
      c.same ∙ chain_stop_at (level_at source (reader source n) l) (suc l) c.turns t rest (e.no_operator (suc l) (omega arith))

  limit_many : (l : ℕ) (ts : List Lexeme) → many l ≡ true → length ts ≤ limit_of l ts
  limit_many l ts m = rw m (omega arith)

  begin_chain : (l n : ℕ) (t : Tree) (ts rest : List Lexeme) → level_at source (reader source n) l ts ≡ Some (t, rest) → Chain n l t ts rest
  unfolding level_at
  begin_chain l n t ts rest h =
      record { turns = limit_of (suc l) rest; enough = λ m. limit_many (suc l) rest m; same = rw h }

  next_operator : (l n : ℕ) (a b : Tree) (op : BinaryOp) (ts us rest : List Lexeme) → level_of op ≡ suc l → many (suc l) ≡ true →
      length rest ≤ length us → Chain n l a ts (Operator op ∷ us) → level_at source (reader source n) l us ≡ Some (b, rest) →
      Chain n l (binary op a b) ts rest
  next_operator l n a b op ts us rest e m le c h = of_turns c.turns refl
    where
      of_turns : (k : ℕ) → c.turns ≡ k → Chain n l (binary op a b) ts rest
      of_turns zero z = absurd (omega (arith, c.enough m, z))
      of_turns (suc k) z = record {
        turns = k;
        enough = λ m'. omega (arith, c.enough m, z);
        same =
            c.same ∙ (ap (λ j. chain_at (level_at source (reader source n) l) (suc l) j a (Operator op ∷ us)) z
            ∙ chain_turn_at (level_at source (reader source n) l) (suc l) k a (Operator op ∷ us) us rest op b (operator_here (suc l) op us e) h);
      }

  only_operator : (l n : ℕ) (a b : Tree) (op : BinaryOp) (ts us rest : List Lexeme) → level_of op ≡ suc l → many (suc l) ≡ false →
      level_at source (reader source n) l ts ≡ Some (a, Operator op ∷ us) → level_at source (reader source n) l us ≡ Some (b, rest) →
      Chain n l (binary op a b) ts rest
  unfolding level_at
  only_operator l n a b op ts us rest e m h k = record {
    turns = 0;
    enough = λ m'. absurd (true≢false (sym m' ∙ m));
    same =
        let inner = level_at source (reader source n) l in
        let one : limit_of (suc l) (Operator op ∷ us) ≡ 1 = rw m in
        rw h (ap (λ j. chain_at inner (suc l) j a (Operator op ∷ us)) one
        ∙ chain_turn_at inner (suc l) 0 a (Operator op ∷ us) us rest op b (operator_here (suc l) op us e) k);
  }

  read_negated : (n : ℕ) (t : Tree) (ts rest : List Lexeme) → Complete (an_expr 0 t) ts rest → suc (length ts) ≤ n → Ends 0 rest →
      unary_at source (reader source n) (Operator Sub ∷ ts) ≡ Some (unary Neg t, rest)
  unfolding unary_at reader
  read_negated zero t ts rest h le e = absurd (omega arith)
  read_negated (suc m) t ts rest h le e = rw (h m (omega arith) e)

  read_prefixed : (n : ℕ) (op : UnaryOp) (t : Tree) (ts rest : List Lexeme) → Complete (an_expr 0 t) ts rest → suc (length ts) ≤ n → Ends 0 rest →
      unary_at source (reader source n) (Prefix op ∷ ts) ≡ Some (unary op t, rest)
  unfolding unary_at reader
  read_prefixed zero op t ts rest h le e = absurd (omega arith)
  read_prefixed (suc m) op t ts rest h le e = rw (h m (omega arith) e)

  pub read_postfix : (n : ℕ) (t : Tree) (ts rest : List Lexeme) → Methods n t ts rest → method_at rest ≡ None →
      postfix_at source (reader source n) ts ≡ Some (t, rest)
  unfolding postfix_at
  read_postfix n t ts rest m e = rw m.begun (m.same ∙ methods_stop source (reader source n) m.turns t rest e)

  read_plain : (n : ℕ) (t : Tree) (ts rest : List Lexeme) → prefix_at ts ≡ None → postfix_at source (reader source n) ts ≡ Some (t, rest) →
      unary_at source (reader source n) ts ≡ Some (t, rest)
  unfolding unary_at
  read_plain n t ts rest b h = rw b h

  next_method : (n : ℕ) (t : Tree) (kind : WordKind) (w : Span) (args : Args) (ts us rest : List Lexeme) →
      Methods n t ts (Arrow ∷ Word kind w ∷ us) → maybe_at source (reader source n) (value none t) us ≡ Some (args, rest) → length rest ≤ length us →
      Methods n (call (bytes_at source w) args) ts rest
  next_method n t kind w args ts us rest m h le = of_turns m.turns refl
    where
      of_turns : (k : ℕ) → m.turns ≡ k → Methods n (call (bytes_at source w) args) ts rest
      of_turns zero z = absurd (omega (arith, m.enough, z))
      of_turns (suc k) z = record {
        start = m.start;
        left = m.left;
        turns = k;
        begun = m.begun;
        same =
            m.same ∙ (ap (λ j. methods_at source (reader source n) j t (Arrow ∷ Word kind w ∷ us)) z
            ∙ methods_turn source (reader source n) k t (Arrow ∷ Word kind w ∷ us) us rest w args refl h);
        enough = omega (arith, m.enough, z);
        within_left = omega (arith, m.within_left);
      }

  read_number : (n m : ℕ) (z : ℤ) (rest : List Lexeme) → signed m ≡ Some z → primary_at source (reader source n) (Number m ∷ rest) ≡ Some (number z, rest)
  unfolding primary_at
  read_number n m z rest e = rw e

  read_name : (n : ℕ) (w : Span) (rest : List Lexeme) → primary_at source (reader source n) (Name w ∷ rest) ≡ Some (named (bytes_at source w), rest)
  unfolding primary_at
  read_name n w rest = refl

  literal_read : (shape : Option (List ℕ)) (elems : List ℤ) (ts us rest : List Lexeme) → ts ≡ OpenSquare ∷ us →
      list_read ts ≡ Some (read_part shape elems rest) → literal_at ts ≡ Some (literal_of shape elems, rest)
  literal_read shape elems ts us rest e h =
      subst (λ vs. list_read vs ≡ Some (read_part shape elems rest) → literal_at vs ≡ Some (literal_of shape elems, rest)) (sym e)
      (λ k. rw k) h

  read_list : (n : ℕ) (ts : List Lexeme) (x : Option (Tree × List Lexeme)) → literal_at ts ≡ x → primary_at source (reader source n) (Keyword Pdl ∷ ts) ≡ x
  unfolding primary_at
  read_list n ts x e = e

  round_literal_read : (shape : Option (List ℕ)) (elems : List ℤ) (ts rest : List Lexeme) →
      list_read ts ≡ Some (read_part shape elems (Close ∷ rest)) → literal_at (Open ∷ ts) ≡ Some (literal_of shape elems, rest)
  round_literal_read shape elems ts rest h = rw h

  read_call : (n : ℕ) (kind : WordKind) (w : Span) (args : Args) (ts rest : List Lexeme) → closed_at source (reader source n) none ts ≡ Some (args, rest) →
      primary_at source (reader source n) (Word kind w ∷ Open ∷ ts) ≡ Some (call (bytes_at source w) args, rest)
  unfolding primary_at
  read_call n kind w args ts rest h = rw h

  read_round : (n : ℕ) (t : Tree) (ts rest : List Lexeme) → Complete (an_expr 7 t) ts (Close ∷ rest) → suc (length ts) ≤ n →
      primary_at source (reader source n) (Open ∷ ts) ≡ Some (t, rest)
  unfolding primary_at reader
  read_round zero t ts rest h le = absurd (omega arith)
  read_round (suc m) t ts rest h le = rw (finished 7 t ts (Close ∷ rest) h m (omega arith) (ends_close 7 rest))

  pub read_whole : (n : ℕ) (t : Tree) (ts rest : List Lexeme) → Complete (an_expr 7 t) ts rest → length ts < n → Ends 7 rest →
      reader source n expression ts ≡ Some (t, rest)
  unfolding reader
  read_whole zero t ts rest h le e = absurd (omega arith)
  read_whole (suc m) t ts rest h le e = finished 7 t ts rest h m (omega arith) e

  read_value : (n : ℕ) (front : Args) (t : Tree) (ts rest : List Lexeme) → Opening ts → reader source n expression ts ≡ Some (t, rest) →
      arg_at source (reader source n) front ts ≡ Some (value front t, rest)
  unfolding arg_at
  read_value n front t ts rest b h = rw b.quoted (rw b.typed (rw h))

  read_text : (n : ℕ) (front : Args) (w : Span) (rest : List Lexeme) → arg_at source (reader source n) front (Quoted w ∷ rest) ≡ Some (text front (bytes_at source w), rest)
  unfolding arg_at
  read_text n front w rest = refl

  read_type : (n : ℕ) (front : Args) (ty : Ty) (w : Span) (rest : List Lexeme) → after Open rest ≡ None →
      arg_at source (reader source n) front (Word (OfType ty) w ∷ rest) ≡ Some (of_type front ty, rest)
  unfolding arg_at
  read_type n front ty w rest e = rw e

  next_argument : (n : ℕ) (front args args' : Args) (ts us rest : List Lexeme) → Arguments n front args ts (Comma ∷ us) →
      arg_at source (reader source n) args us ≡ Some (args', rest) → length rest ≤ length us → Arguments n front args' ts rest
  next_argument n front args args' ts us rest a h le = of_turns a.turns refl
    where
      of_turns : (k : ℕ) → a.turns ≡ k → Arguments n front args' ts rest
      of_turns zero z = absurd (omega (arith, a.enough, z))
      of_turns (suc k) z = record {
        start = a.start;
        left = a.left;
        turns = k;
        begun = a.begun;
        same =
            a.same ∙ (ap (λ j. more_at source (reader source n) j args (Comma ∷ us)) z
            ∙ more_turn source (reader source n) k args args' (Comma ∷ us) us rest refl h);
        enough = omega (arith, a.enough, z);
      }

  read_no_args : (n : ℕ) (front : Args) (rest : List Lexeme) → closed_at source (reader source n) front (Close ∷ rest) ≡ Some (front, rest)
  unfolding closed_at
  read_no_args n front rest = refl

  read_args : (n : ℕ) (front args : Args) (ts rest : List Lexeme) → after Close ts ≡ None → Arguments n front args ts (Close ∷ rest) →
      closed_at source (reader source n) front ts ≡ Some (args, rest)
  unfolding closed_at
  read_args n front args ts rest b a =
      let stop : more_at source (reader source n) (length a.left) a.start a.left ≡ Some (args, Close ∷ rest) =
      a.same ∙ more_stop source (reader source n) a.turns args (Close ∷ rest) refl in
      rw b (rw a.begun (rw stop))

  read_without : (n : ℕ) (front : Args) (rest : List Lexeme) → after Open rest ≡ None → maybe_at source (reader source n) front rest ≡ Some (front, rest)
  unfolding maybe_at
  read_without n front rest e = rw e

  read_within : (n : ℕ) (front : Args) (ts : List Lexeme) → maybe_at source (reader source n) front (Open ∷ ts) ≡ closed_at source (reader source n) front ts
  unfolding maybe_at
  read_within n front ts = refl

  -- what is spelled is read
  pub complete : {p : Part} {ts rest : List Lexeme} → Spells source p ts rest → Complete p ts rest
  complete (same {l = l} {t = t} {ts = ts} {rest = rest} h) =
      let ih = complete h in
      λ n le e. begin_chain l n t ts rest (finished l t ts rest ih n le e)
  complete (joined {l = l} {a = a} {b = b} {op = op} {ts = ts} {us = us} {rest = rest} h lev m k) =
      let ih = complete h in
      let ik = complete k in
      let x = shorter lists h in
      let y = shorter lists k in
      λ n le e. next_operator l n a b op ts us rest lev m y (ih n le (ends_operator l op us lev)) (finished l b us rest ik n (omega arith) e)
  complete (once {l = l} {a = a} {b = b} {op = op} {ts = ts} {us = us} {rest = rest} h lev m k) =
      let ih = complete h in
      let ik = complete k in
      let x = shorter lists h in
      λ n le e. only_operator l n a b op ts us rest lev m (finished l a ts (Operator op ∷ us) ih n le (ends_operator l op us lev)) (finished l b us rest ik n (omega arith) e)
  complete (negated {t = t} {ts = ts} {rest = rest} h) = let ih = complete h in λ n le e. read_negated n t ts rest ih le e
  complete (prefixed {op = op} {t = t} {ts = ts} {rest = rest} h) = let ih = complete h in λ n le e. read_prefixed n op t ts rest ih le e
  complete (plain {t = t} {ts = ts} {rest = rest} h) =
      let ih = complete h in
      let b = begins h in
      λ n le e. read_plain n t ts rest b.prefix (read_postfix n t ts rest (ih n le e.no_open) e.no_method)
  complete (bare {t = t} {ts = ts} {rest = rest} h) =
      let ih = complete h in
      λ n le e. record { start = t; left = rest; turns = length rest; begun = ih n le; same = refl; enough = omega arith; within_left = omega arith }
  complete (method {t = t} {kind = kind} {w = w} {args = args} {ts = ts} {us = us} {rest = rest} h k) =
      let ih = complete h in
      let ik = complete k in
      let x = shorter lists h in
      let y = shorter lists k in
      λ n le e. next_method n t kind w args ts us rest (ih n le refl) (ik n (omega arith) e) y
  complete (a_number {n = m} {z = z} {rest = rest} e) = λ n le. read_number n m z rest e
  complete (a_name {w = w} {rest = rest}) = λ n le. read_name n w rest
  complete (list {shape = shape} {elems = elems} {ts = ts} {rest = rest} h) =
      let o = lists.opens _ _ _ _ h in
      let found = (lists.reads _ _ _ _).1 h in
      λ n le. read_list n ts (Some (literal_of shape elems, rest)) (literal_read shape elems ts o.0 rest o.1 found)
  complete (round_list {shape = shape} {elems = elems} {ts = ts} {rest = rest} h) =
      let found = (lists.reads _ _ _ _).1 h in
      λ n le. read_list n (Open ∷ ts) (Some (literal_of shape elems, rest)) (round_literal_read shape elems ts rest found)
  complete (called {kind = kind} {w = w} {args = args} {ts = ts} {rest = rest} h) =
      let ih = complete h in
      λ n le. read_call n kind w args ts rest (ih n (omega arith))
  complete (round {t = t} {ts = ts} {rest = rest} h) = let ih = complete h in λ n le. read_round n t ts rest ih le
  complete (a_value {front = front} {t = t} {ts = ts} {rest = rest} h) =
      let ih = complete h in
      let b = begins h in
      λ n le e. read_value n front t ts rest b (read_whole n t ts rest ih le e)
  complete (a_text {front = front} {w = w} {rest = rest}) = λ n le e. read_text n front w rest
  complete (a_type {front = front} {ty = ty} {w = w} {rest = rest}) = λ n le e. read_type n front ty w rest e.no_open
  complete (one {front = front} {args = args} {ts = ts} {rest = rest} h) =
      let ih = complete h in
      λ n le e. record { start = args; left = rest; turns = length rest; begun = ih n le e; same = refl; enough = omega arith }
  complete (more {front = front} {args = args} {args' = args'} {ts = ts} {us = us} {rest = rest} h k) =
      let ih = complete h in
      let ik = complete k in
      let x = shorter lists h in
      let y = shorter lists k in
      λ n le e. next_argument n front args args' ts us rest (ih n le (ends_comma 7 us)) (ik n (omega arith) e) y
  complete (no_args {front = front} {rest = rest}) = λ n le. read_no_args n front rest
  complete (all_args {front = front} {args = args} {ts = ts} {rest = rest} h) =
      let ih = complete h in
      let b = begins h in
      λ n le. read_args n front args ts rest b (ih n le (ends_close 7 rest))
  complete (without {front = front} {rest = rest}) = λ n le e. read_without n front rest e
  complete (within {front = front} {args = args} {ts = ts} {rest = rest} h) =
      let ih = complete h in
      λ n le e. read_within n front ts ∙ ih n (omega arith)
