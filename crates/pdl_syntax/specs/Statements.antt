-- The grammar of statements, one case a rule.
use Rattle.std.specs.Prelude.{◌≡◌, ℕ, ℤ, List, [], ◌∷◌, ◌++◌, true, false, Some}
use Rattle.pdl_lexemes.specs.declared.AssignOp.{AssignOp}
use Rattle.pdl_lexemes.specs.declared.Span.{Span}
use Rattle.pdl_lexemes.specs.declared.WordKind.{WordKind}
use Rattle.pdl_lexemes.specs.declared.WordKind.TheVariants.{View as IsView, Pars, Code}
use Rattle.pdl_lexemes.specs.declared.Keyword.TheVariants.{My, Print, Undef, Vars, Dump, Flow, PpDef, Watch, Unwatch, Info, Sever, Reshape}
use Rattle.pdl_lexemes.specs.declared.Lexeme.{Lexeme}
use Rattle.pdl_lexemes.specs.declared.Lexeme.TheVariants.{Name, Keyword, Word, Number, Quoted, Open, Close, Comma, Equals, Arrow, FatArrow, Assign}
use Rattle.pdl_lexemes.specs.Bytes.{bytes_at}
use Rattle.pdl_lexemes.specs.Depth.{has_arrow}
use Rattle.pdl_lexemes.specs.Lists.{signed}
use Rattle.pdl_syntax.specs.Tree.{Tree, Args, call, none, value}
use Rattle.pdl_syntax.specs.Grammar.{Spells, an_expr, a_postfix, closed_args, maybe_args}
use Rattle.pdl_syntax.specs.Formulas.{is_formula}
use Rattle.pdl_syntax.specs.StatementTree.{StatementTree, View, bind, bind_list, assign, show, show_text, sever, reshape, undef, vars, dump, flow, pp_def, watch, unwatch}

-- `["(" ")"]` at the end
pub data SpellsBrackets : List Lexeme → Type 0 where
  no_brackets : SpellsBrackets []
  brackets : SpellsBrackets (Open ∷ Close ∷ [])

-- names with commas between them, from those before to those with them
pub data SpellsNames (source : List ℕ) : List (List ℕ) → List (List ℕ) → List Lexeme →
    List Lexeme → Type 0 where
  one_name : {front : List (List ℕ)} {w : Span} {rest : List Lexeme}
      → SpellsNames source front (front ++ bytes_at source w ∷ []) (Name w ∷ rest) rest
  more_names : {front names : List (List ℕ)} {w : Span} {ts rest : List Lexeme}
      → SpellsNames source front names ts (Comma ∷ Name w ∷ rest)
      → SpellsNames source front (names ++ bytes_at source w ∷ []) ts rest

-- view words behind arrows
pub data SpellsViews (source : List ℕ) : List View → List View → List Lexeme →
    List Lexeme → Type 0 where
  no_views : {front : List View} {rest : List Lexeme} → SpellsViews source front front rest rest
  one_view : {front views : List View} {w : Span} {args : Args} {ts us rest : List Lexeme}
      → SpellsViews source front views ts (Arrow ∷ Word IsView w ∷ us)
      → Spells source (maybe_args none args) us rest
      → SpellsViews source front (views ++ (bytes_at source w, args) ∷ []) ts rest

-- a string, maybe behind a word and `=>`
pub data SpellsText (source : List ℕ) (label : WordKind) : List ℕ → List Lexeme →
    List Lexeme → Type 0 where
  plain_text : {w : Span} {rest : List Lexeme} →
      SpellsText source label (bytes_at source w) (Quoted w ∷ rest) rest
  labelled : {v w : Span} {rest : List Lexeme}
      → SpellsText source label (bytes_at source w) (Word label v ∷ FatArrow ∷ Quoted w ∷ rest) rest

-- the call of a list binding
pub data SpellsCalled (source : List ℕ) : Tree → List Lexeme → Type 0 where
  by_word : {kind : WordKind} {w : Span} {args : Args} {ts : List Lexeme}
      → Spells source (closed_args none args) ts []
      → SpellsCalled source (call (bytes_at source w) args) (Word kind w ∷ Open ∷ ts)
  by_method : {t : Tree} {kind : WordKind} {w : Span} {args : Args} {ts us : List Lexeme}
      → Spells source (a_postfix t) ts (Arrow ∷ Word kind w ∷ us)
      → Spells source (maybe_args (value none t) args) us []
      → SpellsCalled source (call (bytes_at source w) args) ts

-- a binding, without `my`
pub data SpellsBinding (source : List ℕ) : StatementTree → List Lexeme → Type 0 where
  binds_value : {w : Span} {t : Tree} {ts : List Lexeme}
      → Spells source (an_expr 7 t) ts []
      → SpellsBinding source (bind (bytes_at source w) t false) (Name w ∷ Equals ∷ ts)
  binds_severed : {w : Span} {t : Tree} {ts us : List Lexeme}
      → Spells source (a_postfix t) ts (Arrow ∷ Keyword Sever ∷ us) → SpellsBrackets us
      → SpellsBinding source (bind (bytes_at source w) t true) (Name w ∷ Equals ∷ ts)
  binds_names : {names : List (List ℕ)} {t : Tree} {ts us : List Lexeme}
      → SpellsNames source [] names ts (Close ∷ Equals ∷ us) → SpellsCalled source t us
      → SpellsBinding source (bind_list names t) (Open ∷ ts)

-- all lexemes of a text spell this statement
pub data SpellsStatement (source : List ℕ) : StatementTree → List Lexeme → Type 0 where
  binds : {s : StatementTree} {ts : List Lexeme} → SpellsBinding source s ts →
      SpellsStatement source s ts
  my_binds : {s : StatementTree} {ts : List Lexeme} → SpellsBinding source s ts →
      SpellsStatement source s (Keyword My ∷ ts)
  assigns : {w : Span} {views : List View} {op : AssignOp} {t : Tree} {ts us : List Lexeme}
      → SpellsViews source [] views ts (Assign op ∷ us) → Spells source (an_expr 7 t) us []
      → SpellsStatement source (assign (bytes_at source w) views op t) (Name w ∷ ts)
  shows_text : {w : Span} → SpellsStatement source (show_text (bytes_at source w))
      (Keyword Print ∷ Quoted w ∷ [])
  shows : {t : Tree} {ts : List Lexeme}
      → Spells source (an_expr 7 t) ts [] →
      SpellsStatement source (show t false) (Keyword Print ∷ ts)
  shows_info : {t : Tree} {ts us : List Lexeme}
      → Spells source (a_postfix t) ts (Arrow ∷ Keyword Info ∷ us) → SpellsBrackets us
      → SpellsStatement source (show t true) (Keyword Print ∷ ts)
  severs : {w : Span} {us : List Lexeme} → SpellsBrackets us
      → SpellsStatement source (sever (bytes_at source w)) (Name w ∷ Arrow ∷ Keyword Sever ∷ us)
  reshapes : {w : Span} {args : Args} {ts : List Lexeme} →
      Spells source (closed_args none args) ts []
      → SpellsStatement source (reshape (bytes_at source w) args) (Name w ∷ Arrow
      ∷ Keyword Reshape ∷ Open ∷ ts)
  undefs : {w : Span} → SpellsStatement source (undef (bytes_at source w))
      (Keyword Undef ∷ Name w ∷ [])
  lists_names : SpellsStatement source vars (Keyword Vars ∷ [])
  dumps : SpellsStatement source dump (Keyword Dump ∷ [])
  flows : {w : Span} {t : Tree} {ts : List Lexeme}
      → Spells source (an_expr 7 t) ts [] → is_formula t ≡ true → has_arrow ts ≡ false
      → SpellsStatement source (flow (bytes_at source w) t) (Keyword Flow ∷ Name w ∷ Equals ∷ ts)
  defines : {w : Span} {signature code : List ℕ} {ts us : List Lexeme}
      → SpellsText source Pars signature ts (Comma ∷ us) →
      SpellsText source Code code us (Close ∷ [])
      → SpellsStatement source (pp_def (bytes_at source w) signature code) (Keyword PpDef ∷ Open
      ∷ Quoted w ∷ Comma ∷ ts)
  watches : {w : Span} {n : ℕ} {z : ℤ} → signed n ≡ Some z
      → SpellsStatement source (watch (bytes_at source w) n) (Keyword Watch ∷ Name w
      ∷ Comma ∷ Number n ∷ [])
  unwatches : {n : ℕ} {z : ℤ} → signed n ≡ Some z
      → SpellsStatement source (unwatch n) (Keyword Unwatch ∷ Number n ∷ [])
