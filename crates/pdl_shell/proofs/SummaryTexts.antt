-- Texts of several parts, joined from the left and from the right.
use Rattle.std.proofs.Common.{◌≡◌, ℕ, List, ◌++◌, length, sum, decimal, refl, ap, ◌∙◌, append_assoc}
use Rattle.std.specs.Prelude.{codes}
use Rattle.pdl_machine.specs.Step.{newline}
use Rattle.pdl_shell.specs.Summary.{summary_line}

-- with one part that varies before the end of the line
pub parts_of_four : (a b c d : List ℕ) → a ++ (b ++ (c ++ d)) ≡ ((a ++ b) ++ c) ++ d
parts_of_four a b c d = simp append_assoc refl

-- with two
pub parts_of_six : (a b c d e f : List ℕ) → a ++ (b ++ (c ++ (d ++ (e ++ f)))) ≡ ((((a ++ b) ++ c) ++ d) ++ e) ++ f
parts_of_six a b c d e f = simp append_assoc refl

-- with three
pub parts_of_seven : (a b c d e f g : List ℕ) → a ++ (b ++ (c ++ (d ++ (e ++ (f ++ g))))) ≡ (((((a ++ b) ++ c) ++ d) ++ e) ++ f) ++ g
parts_of_seven a b c d e f g = simp append_assoc refl

-- the line that sums up what was printed, from the numbers in it
pub sums_up : (text printed : List ℕ) (count statements bytes total : ℕ) → statements ≡ count → bytes ≡ length printed → total ≡ sum printed
    → text ≡ codes "statements " ++ (decimal statements ++ (codes " bytes " ++ (decimal bytes ++ (codes " sum " ++ (decimal total ++ newline)))))
    → text ≡ summary_line count printed
sums_up text printed count statements bytes total is_count is_length is_sum is =
    is ∙ parts_of_seven (codes "statements ") (decimal statements) (codes " bytes ") (decimal bytes) (codes " sum ") (decimal total) newline
    ∙ ap (λ n. codes "statements " ++ decimal n ++ codes " bytes " ++ decimal bytes ++ codes " sum " ++ decimal total ++ newline) is_count
    ∙ ap (λ n. codes "statements " ++ decimal count ++ codes " bytes " ++ decimal n ++ codes " sum " ++ decimal total ++ newline) is_length
    ∙ ap (λ n. codes "statements " ++ decimal count ++ codes " bytes " ++ decimal (length printed) ++ codes " sum " ++ decimal n ++ newline) is_sum
