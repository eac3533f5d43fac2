-- What is said of a place, if there is one.
use Rattle.std.proofs.Common.{◌≡◌, ℕ, ◌<◌, ◌≤◌, List, [], Option, Some, None, refl, subst}
use Rattle.std.specs.Prelude.{IfSome}
use Rattle.pdl_lex.specs.Written.{Written}
use Rattle.pdl_nice.specs.declared.looks.Before.{Before}
use Rattle.pdl_nice.specs.Writing.{onto, WritesPart, WritesNice}
use Rattle.pdl_lemmas.specs.Options.{some_inj, none_some}

pub onto_nothing : (o : Option (List ℕ)) → onto [] o ≡ o
onto_nothing None = refl
onto_nothing (Some x) = refl

pub writes_part : (o : Option ℕ) (end : ℕ) (ws : List Written) (b : Before) (at : ℕ) (old new : List ℕ) → o ≡ Some end →
    WritesNice o ws b at old new → WritesPart ws b at end old new
writes_part None end ws b at old new e h = absurd (none_some e)
writes_part (Some n) end ws b at old new e h = subst (λ m. WritesPart ws b at m old new) (some_inj e) h

pub some_place : (o : Option ℕ) (end at most : ℕ) → o ≡ Some end → IfSome o (λ place. (at < place) × (place ≤ most)) → (at < end) × (end ≤ most)
some_place None end at most e h = absurd (none_some e)
some_place (Some n) end at most e h = subst (λ m. (at < m) × (m ≤ most)) (some_inj e) h

pub kept_there : {P : Type 0} (o : Option ℕ) (end : ℕ) → o ≡ Some end → IfSome o (λ n. P) → P
kept_there None end e h = absurd (none_some e)
kept_there (Some n) end e h = h
