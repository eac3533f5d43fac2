use Rattle.std.proofs.Common.{◌≡◌, ℕ, List, [], ◌∷◌, Bool, true, false, refl, ap}
use Rattle.std.specs.Prelude.{is_some, All}
use Rattle.std.specs.List.{AllByRecursion}
use Rattle.std.proofs.lemmas.Bool.{false≢true}
use Rattle.std.proofs.lemmas.List.Elements.{All-nil, All-cons}
use Rattle.pdl_elem.specs.Tables.{found_in}
use Rattle.pdl_lexemes.specs.declared.WordKind.{WordKind}
use Rattle.pdl_lexemes.specs.declared.WordKind.TheVariants.{View}
use Rattle.pdl_lexemes.specs.Lexing.{kind_of_word, word_kinds}
use Rattle.pdl_machine.specs.declared.builtin.Builtin.{Builtin}
use Rattle.pdl_machine.specs.Builtin.{views}
use Rattle.pdl_machine.proofs.laws.view_words.Goals as goal

abbrev IsWord : List ℕ × Builtin → Type 0
IsWord v = kind_of_word v.0 ≡ View

abbrev IsNamed : List ℕ × WordKind → Type 0
IsNamed w = w.1 ≡ View → is_some (found_in views w.0) ≡ true

all : {X : Type 0} (P : X → Type 0) (xs : List X) → AllByRecursion P xs → All P xs
all P [] h = All-nil P
all P (x ∷ xs) h = All-cons P x xs h.0 (all P xs h.1)

abbrev is_view : WordKind → Bool
is_view View = true
is_view _ = false

other : {b : Bool} → false ≡ true → b ≡ true
other e = absurd (false≢true e)

pub returns : goal.returns
returns c = record {
  words = all IsWord views (refl, (refl, (refl, (refl, (refl, (refl, (refl, (refl, (refl, (refl, (refl, (refl, (refl, tt)))))))))))));
  named = all IsNamed word_kinds ((λ _. refl), ((λ _. refl), ((λ _. refl), ((λ _. refl), ((λ _. refl), ((λ _. refl), ((λ _. refl), ((λ _. refl), ((λ _. refl), ((λ _. refl), ((λ _. refl), ((λ _. refl), ((λ _. refl), ((λ e. other (ap is_view e)), ((λ e. other (ap is_view e)), tt)))))))))))))));
  nice = refl;
}
