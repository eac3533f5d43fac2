-- What a `Reader` reads, and the trees of what it answers.
use Rattle.std.specs.Prelude.{ℕ, List, Vec}
use Rattle.std.specs.Global.{Global}
use Rattle.pdl_lexemes.specs.declared.Lexeme.{Lexeme}
use Rattle.pdl_lexemes.specs.declared.Span.{Span}
use Rattle.pdl_lexemes.specs.Bytes.{bytes_at}
use Rattle.pdl_lexemes.specs.Peeks.{Read}
use Rattle.pdl_syntax.specs.declared.reader.Reader.{Reader}
use Rattle.pdl_syntax.specs.declared.tree.Arg.{Arg}
use Rattle.pdl_syntax.specs.declared.tree.Expr.{Expr}
use Rattle.pdl_syntax.specs.ExpressionReading.{Kind, reader}
use Rattle.pdl_syntax.specs.Tree.{Tree, Args, none}
use Rattle.pdl_syntax.specs.TreeOf.{tree_of, args_of}

-- how a reader reads a part, from its text and from how a whole expression and an
-- operand are read inside
abbrev pub reads : {A : Type 0} → (List ℕ → (Kind → List Lexeme → Read Tree) → A) → Reader → A
reads part r = part r.source.now (reader r.source.now r.fuel)

-- the bytes of its text that a span names
abbrev pub text_at : Reader → Span → List ℕ
text_at r span = bytes_at r.source.now span

-- the tree of an expression, with what follows it
abbrev pub with_tree : {A : Type 0} → Expr × A → Tree × A
with_tree x = (tree_of x.0, x.1)

-- arguments, with what follows them
abbrev pub with_args : {A : Type 0} → Vec Arg Global × A → Args × A
with_args x = (args_of x.0.items none, x.1)
