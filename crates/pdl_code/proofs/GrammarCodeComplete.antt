-- Each spelled statement is read.
use Rattle.std.proofs.Common.{◌≡◌, ℕ, zero, suc, pos, ◌≤◌, ◌<◌, List, [], ◌∷◌, length, Option, Some, None, refl, ap, ◌∙◌, arith}
use Rattle.pdl_elem.specs.declared.BinaryOp.{BinaryOp}
use Rattle.pdl_lemmas.specs.Options.{none_some}
use Rattle.pdl_code.specs.declared.lexeme.Span.{Span}
use Rattle.pdl_code.specs.declared.lexeme.WordKind.{WordKind}
use Rattle.pdl_code.specs.declared.lexeme.WordKind.TheVariants.{Loop, If, Else, OfType, Plain}
use Rattle.pdl_code.specs.declared.lexeme.Lexeme.{Lexeme}
use Rattle.pdl_code.specs.declared.lexeme.Lexeme.TheVariants.{Word, Open, Close, BlockOpen, BlockClose, Semicolon, Equals, Assign}
use Rattle.pdl_code.specs.declared.names.LocalType.{LocalType}
use Rattle.pdl_code.specs.Grammar.{Spells, an_expr, an_access, SpellsType, type_word, generic_type, Block, a_step, some_code, an_else, SpellsBlock, a_loop, a_choice, without_else, with_else, a_declaration, a_valued_declaration, a_word_assignment, an_access_assignment, no_code, empty_statement, a_statement, assigned}
use Rattle.pdl_code.specs.declared.names.Target.TheVariants.{New, Named}
use Rattle.pdl_code.specs.Tree.{RawTree, RawIndices, RawStep, RawCode, number, repeat, choose, keep, put, done, next, called}
use Rattle.pdl_code.specs.CodeReading.{access_at, after, after_else, after_if, assignment_at, block_at, choice_at, code_at, code_reader, declared_at, else_at, ended_at, ends, expr_at, initial_at, loop_at, plain_at, put_at, read_code, reader, statement_at, step_at, word_at}
use Rattle.pdl_code.proofs.GrammarComplete.{AccessStart, begins, complete, ends_close, ends_semicolon, read_expression, shorter}

-- the sign of an assignment
record Sign (s : Lexeme) : Type 0 where
  no_open : (us : List Lexeme) → after Open (s ∷ us) ≡ None
  no_block : (us : List Lexeme) → after BlockOpen (s ∷ us) ≡ None
  no_word : (us : List Lexeme) → plain_at (s ∷ us) ≡ None

sign_of : (s : Lexeme) (op : Option BinaryOp) → assigned s ≡ Some op → Sign s
sign_of Equals op e = record { no_open = λ us. refl; no_block = λ us. refl; no_word = λ us. refl }
sign_of (Assign o) op e = record { no_open = λ us. refl; no_block = λ us. refl; no_word = λ us. refl }
sign_of _ op e = absurd (none_some e)

-- what a statement begins with: no `else`, no end of code and no `;`
pub record StepStart (ts : List Lexeme) : Type 0 where
  pub no_else : after_else ts ≡ None
  pub goes_on : ends ts ≡ None
  pub no_semicolon : after Semicolon ts ≡ None

type_start : {ty : LocalType} {ts us : List Lexeme} → SpellsType ty ts us → StepStart ts
type_start type_word = record { no_else = refl; goes_on = refl; no_semicolon = refl }
type_start generic_type = record { no_else = refl; goes_on = refl; no_semicolon = refl }

word_else : (kind : WordKind) (w : Span) (s : Lexeme) (ts : List Lexeme) → Sign s → after_else (Word kind w ∷ s ∷ ts) ≡ None
word_else Else w s ts i = i.no_block ts
word_else _ w s ts i = refl

access_start : {ts rest : List Lexeme} → AccessStart ts rest → StepStart ts
access_start a = record { no_else = ap after_else a.is; goes_on = ap ends a.is; no_semicolon = ap (after Semicolon) a.is }

-- code that ends here, and no `else`
ends_else : (rest : List Lexeme) → ends rest ≡ Some rest → after_else rest ≡ None
ends_else [] e = refl
ends_else (BlockClose ∷ rest) e = refl
ends_else (_ ∷ rest) e = absurd (none_some e)

abbrev Starts : Block → List Lexeme → List Lexeme → Type 0
Starts (a_step s) ts rest = StepStart ts
Starts (some_code c) ts rest = ends rest ≡ Some rest → after_else ts ≡ None
Starts (an_else c) ts rest = Unit {0}

starts : {b : Block} {ts rest : List Lexeme} → SpellsBlock b ts rest → Starts b ts rest
starts (a_loop h) = record { no_else = refl; goes_on = refl; no_semicolon = refl }
starts (a_choice h k m) = record { no_else = refl; goes_on = refl; no_semicolon = refl }
starts without_else = tt
starts (with_else h) = tt
starts (a_declaration h) = type_start h
starts (a_valued_declaration h k) = type_start h
starts (a_word_assignment {kind = kind} {w = w} {s = s} {op = op} {ts = ts} e h) =
    record { no_else = word_else kind w s ts (sign_of s op e); goes_on = refl; no_semicolon = refl }
starts (an_access_assignment h e k) = access_start (begins h)
starts (no_code {rest = rest}) = λ e. ends_else rest e
starts (empty_statement h) = λ e. refl
starts (a_statement h k) = λ e. (starts h).no_else

type_shorter : {ty : LocalType} {ts us : List Lexeme} → SpellsType ty ts us → length us < length ts
type_shorter type_word = omega arith
type_shorter generic_type = omega arith

abbrev Shortens : Block → List Lexeme → List Lexeme → Type 0
Shortens (a_step s) ts rest = length rest < length ts
Shortens (some_code c) ts rest = length rest ≤ length ts
Shortens (an_else c) ts rest = length rest ≤ length ts

shortens : {b : Block} {ts rest : List Lexeme} → SpellsBlock b ts rest → Shortens b ts rest
shortens (a_loop h) = let a = shortens h in omega arith
shortens (a_choice h k m) = let a = shorter h in let b = shortens k in let c = shortens m in omega arith
shortens without_else = omega arith
shortens (with_else h) = let a = shortens h in omega arith
shortens (a_declaration h) = let a = type_shorter h in omega arith
shortens (a_valued_declaration h k) = let a = type_shorter h in let b = shorter k in omega arith
shortens (a_word_assignment e h) = let a = shorter h in omega arith
shortens (an_access_assignment h e k) = let a = shorter h in let b = shorter k in omega arith
shortens no_code = omega arith
shortens (empty_statement h) = let a = shortens h in omega arith
shortens (a_statement h k) = let a = shortens h in let b = shortens k in omega arith

abbrev CompleteBlock : Block → List Lexeme → List Lexeme → Type 0
CompleteBlock (a_step s) ts rest = (n : ℕ) → length ts ≤ n → after_else rest ≡ None → step_at (code_reader n) ts ≡ Some (s, rest)
CompleteBlock (some_code c) ts rest = (n k : ℕ) → length ts ≤ n → length ts ≤ k → ends rest ≡ Some rest → code_at (code_reader n) k ts ≡ Some (c, rest)
CompleteBlock (an_else c) ts rest = (n : ℕ) → length ts < n → after_else rest ≡ None → else_at (code_reader n) ts ≡ Some (c, rest)

-- expressions
read_ended : (t : RawTree) (ts rest : List Lexeme) → Spells (an_expr 7 t) ts (Semicolon ∷ rest) → ended_at ts ≡ Some (t, rest)
unfolding ended_at
read_ended t ts rest h = rw (read_expression (suc (length ts)) t ts (Semicolon ∷ rest) (complete h) (omega arith) (ends_semicolon 7 rest))

read_condition : (t : RawTree) (at : ℕ) (ts us : List Lexeme) → Spells (an_expr 7 t) ts (Close at ∷ us) → expr_at ts ≡ Some (t, Close at ∷ us)
read_condition t at ts us h = read_expression (suc (length ts)) t ts (Close at ∷ us) (complete h) (omega arith) (ends_close 7 at us)

-- declarations
declared_here : {ty : LocalType} {ts us : List Lexeme} (w : Span) (rest : List Lexeme) → SpellsType ty ts us → us ≡ Word Plain w ∷ rest → declared_at ts ≡ Some (record { ty = ty; word = w; rest = rest })
declared_here w rest type_word e = rw e refl
declared_here w rest generic_type e = rw e refl

no_loop : {ty : LocalType} {ts us : List Lexeme} → SpellsType ty ts us → loop_at ts ≡ None
no_loop type_word = refl
no_loop generic_type = refl

no_if : {ty : LocalType} {ts us : List Lexeme} → SpellsType ty ts us → after_if ts ≡ None
no_if type_word = refl
no_if generic_type = refl

read_declaration : (n : ℕ) (ty : LocalType) (w : Span) (t : RawTree) (ts us rest : List Lexeme) → SpellsType ty ts (Word Plain w ∷ us) → initial_at us ≡ Some (t, rest)
    → step_at (code_reader n) ts ≡ Some (keep (New ty w) None t, rest)
unfolding step_at
read_declaration n ty w t ts us rest h k = rw (no_loop h) (rw (no_if h) (rw (declared_here w us h refl) (rw k)))

initial_none : (rest : List Lexeme) → initial_at (Semicolon ∷ rest) ≡ Some (number (pos 0), rest)
unfolding initial_at
initial_none rest = refl

initial_some : (t : RawTree) (us rest : List Lexeme) → ended_at us ≡ Some (t, rest) → initial_at (Equals ∷ us) ≡ Some (t, rest)
unfolding initial_at
initial_some t us rest h = h

-- assignments
word_loop : (kind : WordKind) (w : Span) (s : Lexeme) (ts : List Lexeme) → Sign s → loop_at (Word kind w ∷ s ∷ ts) ≡ None
word_loop Loop w s ts i = rw (i.no_open ts) refl
word_loop _ w s ts i = refl

word_if : (kind : WordKind) (w : Span) (s : Lexeme) (ts : List Lexeme) → Sign s → after_if (Word kind w ∷ s ∷ ts) ≡ None
word_if If w s ts i = i.no_open ts
word_if _ w s ts i = refl

word_declared : (kind : WordKind) (w : Span) (s : Lexeme) (ts : List Lexeme) → Sign s → declared_at (Word kind w ∷ s ∷ ts) ≡ None
word_declared (OfType ty) w s ts i = rw (i.no_word ts) refl
word_declared _ w s ts i = refl

read_set : (n : ℕ) (kind : WordKind) (w : Span) (s : Lexeme) (op : Option BinaryOp) (t : RawTree) (ts rest : List Lexeme) → Sign s → assigned s ≡ Some op → ended_at ts ≡ Some (t, rest)
    → step_at (code_reader n) (Word kind w ∷ s ∷ ts) ≡ Some (keep (Named w) op t, rest)
unfolding step_at assignment_at
read_set n kind w s op t ts rest i e h =
    rw (word_loop kind w s ts i) (rw (word_if kind w s ts i) (rw (word_declared kind w s ts i) (rw e (rw h))))

assigned_access : (n : ℕ) (ts : List Lexeme) → loop_at ts ≡ None → after_if ts ≡ None → declared_at ts ≡ None → word_at ts ≡ None → step_at (code_reader n) ts ≡ put_at ts
unfolding step_at assignment_at
assigned_access n ts a b c d = rw a (rw b (rw c (rw d refl)))

put_here : (w : Span) (is : RawIndices) (at : ℕ) (s : Lexeme) (op : Option BinaryOp) (t : RawTree) (ts us rest : List Lexeme) → access_at (reader (suc (length ts))) ts ≡ Some ((w, is, at), s ∷ us)
    → assigned s ≡ Some op → ended_at us ≡ Some (t, rest) → put_at ts ≡ Some (put (called w at) is op t, rest)
unfolding put_at
put_here w is at s op t ts us rest h e k = rw h (rw e (rw k))

read_put : (n : ℕ) (w : Span) (is : RawIndices) (at : ℕ) (s : Lexeme) (op : Option BinaryOp) (t : RawTree) (ts us rest : List Lexeme) → Spells (an_access w is at) ts (s ∷ us)
    → assigned s ≡ Some op → ended_at us ≡ Some (t, rest) → step_at (code_reader n) ts ≡ Some (put (called w at) is op t, rest)
read_put n w is at s op t ts us rest h e k =
    let a = begins h in
    let i = sign_of s op e in
    assigned_access n ts (ap loop_at a.is) (ap after_if a.is) (a.no_declaration (i.no_word us)) (ap word_at a.is)
    ∙ put_here w is at s op t ts us rest (complete h (suc (length ts)) (omega arith)) e k

-- blocks
read_block : (n : ℕ) (c : RawCode) (ts rest : List Lexeme) → CompleteBlock (some_code c) ts (BlockClose ∷ rest) → length ts < n → block_at (code_reader n) ts ≡ Some (c, rest)
unfolding block_at code_reader
read_block zero c ts rest h lt = absurd (omega arith)
read_block (suc m) c ts rest h lt = rw (h m (length ts) (omega (arith, lt)) (omega arith) refl)

read_loop : (n : ℕ) (v w : Span) (kind : WordKind) (at : ℕ) (c : RawCode) (ts rest : List Lexeme) → block_at (code_reader n) ts ≡ Some (c, rest)
    → step_at (code_reader n) (Word Loop v ∷ Open ∷ Word kind w ∷ Close at ∷ BlockOpen ∷ ts) ≡ Some (repeat w c, rest)
unfolding step_at
read_loop n v w kind at c ts rest h = rw h

read_choice : (n : ℕ) (v : Span) (t : RawTree) (at : ℕ) (a b : RawCode) (ts us vs rest : List Lexeme) → expr_at ts ≡ Some (t, Close at ∷ BlockOpen ∷ us)
    → block_at (code_reader n) us ≡ Some (a, vs) → else_at (code_reader n) vs ≡ Some (b, rest) → step_at (code_reader n) (Word If v ∷ Open ∷ ts) ≡ Some (choose t a b, rest)
unfolding step_at choice_at
read_choice n v t at a b ts us vs rest h k m = rw h (rw k (rw m))

read_no_else : (n : ℕ) (rest : List Lexeme) → after_else rest ≡ None → else_at (code_reader n) rest ≡ Some (done, rest)
read_no_else n rest e = rw e refl

-- code
read_end : (n k : ℕ) (rest : List Lexeme) → ends rest ≡ Some rest → code_at (code_reader n) k rest ≡ Some (done, rest)
unfolding code_at
read_end n zero rest e = refl
read_end n (suc k) rest e = rw e

read_empty : (n k : ℕ) (c : RawCode) (ts rest : List Lexeme) → code_at (code_reader n) k ts ≡ Some (c, rest) → code_at (code_reader n) (suc k) (Semicolon ∷ ts) ≡ Some (c, rest)
unfolding code_at statement_at
read_empty n k c ts rest h = rw h

read_statement : (n k : ℕ) (s : RawStep) (c : RawCode) (ts us rest : List Lexeme) → StepStart ts → step_at (code_reader n) ts ≡ Some (s, us) → code_at (code_reader n) k us ≡ Some (c, rest)
    → code_at (code_reader n) (suc k) ts ≡ Some (next s c, rest)
unfolding code_at statement_at
read_statement n k s c ts us rest b h m = rw b.goes_on (rw b.no_semicolon (rw h (rw m)))

empty_turn : (n k : ℕ) (c : RawCode) (ts rest : List Lexeme) → suc (length ts) ≤ k → ((j : ℕ) → length ts ≤ j → code_at (code_reader n) j ts ≡ Some (c, rest))
    → code_at (code_reader n) k (Semicolon ∷ ts) ≡ Some (c, rest)
empty_turn n zero c ts rest le h = absurd (omega (arith, le))
empty_turn n (suc k) c ts rest le h = read_empty n k c ts rest (h k (omega (arith, le)))

statement_turn : (n k : ℕ) (s : RawStep) (c : RawCode) (ts us rest : List Lexeme) → length us < length ts → length ts ≤ k → StepStart ts → step_at (code_reader n) ts ≡ Some (s, us)
    → ((j : ℕ) → length us ≤ j → code_at (code_reader n) j us ≡ Some (c, rest)) → code_at (code_reader n) k ts ≡ Some (next s c, rest)
statement_turn n zero s c ts us rest lt le b h m = absurd (omega (arith, lt, le))
statement_turn n (suc k) s c ts us rest lt le b h m = read_statement n k s c ts us rest b h (m k (omega (arith, lt, le)))

-- what is spelled is read
complete_block : {b : Block} {ts rest : List Lexeme} → SpellsBlock b ts rest → CompleteBlock b ts rest
complete_block (a_loop {v = v} {w = w} {kind = kind} {at = at} {c = c} {ts = ts} {rest = rest} h) =
    let ih = complete_block h in
    λ n le e. read_loop n v w kind at c ts rest (read_block n c ts rest ih (omega (arith, le)))
complete_block (a_choice {v = v} {t = t} {at = at} {a = a} {b = b} {ts = ts} {us = us} {vs = vs} {rest = rest} h k m) =
    let ik = complete_block k in
    let im = complete_block m in
    let x = shorter h in
    let y = shortens k in
    λ n le e. read_choice n v t at a b ts us vs rest (read_condition t at ts (BlockOpen ∷ us) h) (read_block n a us vs ik (omega (arith, x, le))) (im n (omega (arith, x, y, le)) e)
complete_block (without_else {rest = rest}) = λ n lt e. read_no_else n rest e
complete_block (with_else {c = c} {ts = ts} {rest = rest} h) =
    let ih = complete_block h in
    λ n lt e. read_block n c ts rest ih (omega (arith, lt))
complete_block (a_declaration {ty = ty} {w = w} {ts = ts} {rest = rest} h) =
    λ n le e. read_declaration n ty w (number (pos 0)) ts (Semicolon ∷ rest) rest h (initial_none rest)
complete_block (a_valued_declaration {ty = ty} {w = w} {t = t} {ts = ts} {us = us} {rest = rest} h k) =
    λ n le e. read_declaration n ty w t ts (Equals ∷ us) rest h (initial_some t us rest (read_ended t us rest k))
complete_block (a_word_assignment {kind = kind} {w = w} {s = s} {op = op} {t = t} {ts = ts} {rest = rest} a h) =
    λ n le e. read_set n kind w s op t ts rest (sign_of s op a) a (read_ended t ts rest h)
complete_block (an_access_assignment {w = w} {is = is} {at = at} {s = s} {op = op} {t = t} {ts = ts} {us = us} {rest = rest} h a k) =
    λ n le e. read_put n w is at s op t ts us rest h a (read_ended t us rest k)
complete_block (no_code {rest = rest}) = λ n k ln lk e. read_end n k rest e
complete_block (empty_statement {c = c} {ts = ts} {rest = rest} h) =
    let ih = complete_block h in
    λ n k ln lk e. empty_turn n k c ts rest lk (λ j le. ih n j (omega (arith, ln)) le e)
complete_block (a_statement {s = s} {c = c} {ts = ts} {us = us} {rest = rest} h k) =
    let ih = complete_block h in
    let ik = complete_block k in
    let x = shortens h in
    let b = starts h in
    let f = starts k in
    λ n j ln lj e. statement_turn n j s c ts us rest x lj b (ih n ln (f e)) (λ i le. ik n i (omega (arith, x, ln)) le e)

pub all_read : (c : RawCode) (ts : List Lexeme) → SpellsBlock (some_code c) ts [] → read_code ts ≡ Some c
unfolding read_code code_reader
all_read c ts h = rw (complete_block h (length ts) (length ts) (omega arith) (omega arith) refl)
