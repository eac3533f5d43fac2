-- One turn of the chains of names and views.
use Rattle.std.proofs.Common.{◌≡◌, ℕ, zero, suc, List, [], ◌∷◌, ◌++◌, Option, Some, None, refl}
use Rattle.pdl_lexemes.specs.declared.Lexeme.{Lexeme}
use Rattle.pdl_lexemes.specs.declared.Span.{Span}
use Rattle.pdl_lexemes.specs.Bytes.{bytes_at}
use Rattle.pdl_lexemes.specs.declared.refusal.Refusal.{Refusal}
use Rattle.pdl_lexemes.specs.declared.refusal.Refusal.TheVariants.{Refused, NoMemory}
use Rattle.pdl_lexemes.specs.declared.Lexeme.TheVariants.{Comma}
use Rattle.pdl_lexemes.specs.Peeks.{Read, after, name_at, view_at}
use Rattle.pdl_syntax.specs.Tree.{Tree, Args, none}
use Rattle.pdl_syntax.specs.ExpressionReading.{Kind, maybe_at}
use Rattle.pdl_syntax.specs.StatementTree.{View}
use Rattle.pdl_syntax.specs.StatementReading.{names_at, views_at}

pub names_stop_at : (source : List ℕ) (k : ℕ) (names : List (List ℕ)) (ts : List Lexeme) → after Comma ts ≡ None → names_at source k names ts ≡ Some (names, ts)
unfolding names_at
names_stop_at source zero names ts e = refl
names_stop_at source (suc k) names ts e = rw e

pub names_next : (source : List ℕ) (k : ℕ) (names : List (List ℕ)) (ts us rest : List Lexeme) (w : Span) → after Comma ts ≡ Some us → name_at us ≡ Some (w, rest) →
    names_at source (suc k) names ts ≡ names_at source k (names ++ bytes_at source w ∷ []) rest
unfolding names_at
names_next source k names ts us rest w e h = rw e (rw h)

pub names_fail : (source : List ℕ) (k : ℕ) (names : List (List ℕ)) (ts us : List Lexeme) → after Comma ts ≡ Some us → name_at us ≡ None →
    names_at source (suc k) names ts ≡ None
unfolding names_at
names_fail source k names ts us e h = rw e (rw h)

module _ (source : List ℕ) (f : Kind → List Lexeme → Read Tree) where
  pub views_stop_at : (k : ℕ) (views : List View) (ts : List Lexeme) → view_at ts ≡ None → views_at source f k views ts ≡ Some (views, ts)
  unfolding views_at
  views_stop_at zero views ts e = refl
  views_stop_at (suc k) views ts e = rw e

  pub views_next : (k : ℕ) (views : List View) (ts us rest : List Lexeme) (w : Span) (args : Args) → view_at ts ≡ Some (w, us) → maybe_at source f none us ≡ Some (args, rest) →
      views_at source f (suc k) views ts ≡ views_at source f k (views ++ (bytes_at source w, args) ∷ []) rest
  unfolding views_at
  views_next k views ts us rest w args e h = rw e (rw h)

  pub views_fail : (k : ℕ) (views : List View) (ts us : List Lexeme) (w : Span) → view_at ts ≡ Some (w, us) → maybe_at source f none us ≡ None →
      views_at source f (suc k) views ts ≡ None
  unfolding views_at
  views_fail k views ts us w e h = rw e (rw h)

-- what a refusal says of what is read
abbrev pub Says : {B : Type 0} → Refusal → Option B → Type 0
Says Refused o = o ≡ None
Says NoMemory o = Unit {0}

-- a refusal of a part is one of the whole
pub pass_on : {B D : Type 0} (r : Refusal) (a : Option D) (b : Option B) → Says r a → (a ≡ None → b ≡ None) → Says r b
pass_on Refused a b h k = k h
pass_on NoMemory a b h k = tt
