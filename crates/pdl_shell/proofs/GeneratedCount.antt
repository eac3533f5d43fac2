-- How many statements the generated script has: each of its lines is one.
use Rattle.std.proofs.Common.{◌≡◌, ℕ, zero, suc, ◌+◌, ◌<◌, ◌^◌, ◌/◌, ◌%◌, List, [], ◌∷◌, ◌++◌, length, Bool, true, false, cond, Some, refl, ◌∙◌, ap, arith, append_assoc, decimal}
use Rattle.std.specs.Prelude.{codes, ◌==◌, option_and_then}
use Rattle.std.proofs.lemmas.Fmt.{decimal_by_steps}
use Rattle.std.proofs.lemmas.Bool.{ne_eqb}
use Rattle.pdl_lex.specs.Bytes.{newlines}
use Rattle.pdl_lex.specs.declared.cutter.Mode.{Mode}
use Rattle.pdl_lex.specs.declared.cutter.Mode.TheVariants.{Code, Double}
use Rattle.pdl_lex.specs.Pieces.{is_between, pieces}
use Rattle.pdl_lex.specs.Joining.{mode_behind, IsStatement, pieces_from, StatementsJoin, BlanksJoin, PartsJoin, DigitsStay}
use Rattle.pdl_machine.specs.Step.{newline}
use Rattle.pdl_shell.specs.Generated.{column_line, index_line, overlap_line, sums_line, round_line, next_seed, round_lines, first_lines, generated_script}

-- a line that is one statement, a semicolon and a newline
record IsLine (line : List ℕ) : Type 0 where
  text : List ℕ
  statement : IsStatement text
  is : line ≡ text ++ 59 ∷ newline

line_of : (first : ℕ) (others : List ℕ) → is_between Code first ≡ false → mode_behind Code (first ∷ others) ≡ Some Code → IsStatement (first ∷ others)
line_of first others begins ends = record { first = first; others = others; begins = begins; ends = ends; is = refl }

one_of_four : (a b c : Bool) (w x y z : List ℕ) → IsLine w → IsLine x → IsLine y → IsLine z → IsLine (cond a w (cond b x (cond c y z)))
one_of_four true b c w x y z is_w is_x is_y is_z = is_w
one_of_four false true c w x y z is_w is_x is_y is_z = is_x
one_of_four false false true w x y z is_w is_x is_y is_z = is_y
one_of_four false false false w x y z is_w is_x is_y is_z = is_z

-- by what holds of statements that stand one behind the other
module _ (statements : StatementsJoin) (blanks : BlanksJoin) (parts : PartsJoin) (digits : DigitsStay) where
  behind : (now mid : Mode) (xs ys : List ℕ) → mode_behind now xs ≡ Some mid → mode_behind now (xs ++ ys) ≡ mode_behind mid ys
  behind now mid xs ys is = parts now xs ys ∙ ap (option_and_then (λ mode. mode_behind mode ys)) is

  number_stays : (now : Mode) (n : ℕ) → n < 2 ^ 64 → mode_behind now (decimal n) ≡ Some now
  number_stays now n small =
      decimal_by_steps (λ m ds. mode_behind now ds ≡ Some now)
      (λ m low. digits now (48 + m) (omega (arith, low)) (omega (arith, low)))
      (λ m ds ten ih. behind now now ds ((48 + m % 10) ∷ []) ih ∙ digits now (48 + m % 10) (omega arith) (omega arith)) n small

  -- a text with two numbers in it, which stand in code or in a string
  two_numbers : (now : Mode) (front mid : List ℕ) (x y : ℕ) → x < 2 ^ 64 → y < 2 ^ 64
      → mode_behind Code front ≡ Some now → mode_behind now mid ≡ Some Code → mode_behind Code (front ++ decimal x ++ mid ++ decimal y) ≡ Some Code
  two_numbers now front mid x y small_x small_y to back =
      let first : mode_behind Code (front ++ decimal x) ≡ Some now = behind Code now front (decimal x) to ∙ number_stays now x small_x in
      let both : mode_behind Code (front ++ decimal x ++ mid) ≡ Some Code = behind Code now (front ++ decimal x) mid first ∙ back in
      behind Code Code (front ++ decimal x ++ mid) (decimal y) both ∙ number_stays Code y small_y

  column_is : (column number : ℕ) → column < 2 ^ 64 → number < 2 ^ 64 → IsLine (column_line column number)
  column_is column number small_column small_number = record {
    text = codes "$a->slice(\"" ++ decimal column ++ codes ",:\") += " ++ decimal number;
    statement = line_of 36 (codes "a->slice(\"" ++ decimal column ++ codes ",:\") += " ++ decimal number) refl
        (two_numbers Double (codes "$a->slice(\"") (codes ",:\") += ") column number small_column small_number refl refl);
    is = append_assoc (codes "$a->slice(\"" ++ decimal column ++ codes ",:\") += " ++ decimal number) (codes ";") newline;
  }

  index_is : (row number : ℕ) → row < 2 ^ 64 → number < 2 ^ 64 → IsLine (index_line row number)
  index_is row number small_row small_number = record {
    text = codes "$v->xchg(0,1)->index(pdl [[" ++ decimal row ++ codes "],[0]]) .= " ++ decimal number;
    statement = line_of 36 (codes "v->xchg(0,1)->index(pdl [[" ++ decimal row ++ codes "],[0]]) .= " ++ decimal number) refl
        (two_numbers Code (codes "$v->xchg(0,1)->index(pdl [[") (codes "],[0]]) .= ") row number small_row small_number refl refl);
    is = append_assoc (codes "$v->xchg(0,1)->index(pdl [[" ++ decimal row ++ codes "],[0]]) .= " ++ decimal number) (codes ";") newline;
  }

  overlap_is : (number : ℕ) → number < 2 ^ 64 → IsLine (overlap_line number)
  overlap_is number small = record {
    text = codes "$v .= $a->slice(\"0:5,0:3\") + " ++ decimal number;
    statement = line_of 36 (codes "v .= $a->slice(\"0:5,0:3\") + " ++ decimal number) refl
        (behind Code Code (codes "$v .= $a->slice(\"0:5,0:3\") + ") (decimal number) refl ∙ number_stays Code number small);
    is = append_assoc (codes "$v .= $a->slice(\"0:5,0:3\") + " ++ decimal number) (codes ";") newline;
  }

  sums_is : IsLine sums_line
  sums_is = record { text = codes "p $v->sumover"; statement = line_of 112 (codes " $v->sumover") refl refl; is = refl }

  round_is : (bits : ℕ) → IsLine (round_line bits)
  round_is bits =
      let number : ℕ = (bits / 48) % 100 in
      let small : number < 2 ^ 64 = omega arith in
      one_of_four (bits % 4 == 0) (bits % 4 == 1) (bits % 4 == 2) _ _ _ _
      (column_is (bits % 8) number (omega arith) small) (index_is (((bits / 8) % 6) % 4) number (omega arith) small) (overlap_is number small) sums_is

  -- a line is a statement more
  count-line : (at : ℕ) (line rest : List ℕ) (l : IsLine line)
      → length (pieces_from at (line ++ rest)) ≡ suc (length (pieces_from (at + newlines l.text + newlines newline) rest))
  count-line at line rest l =
      let behind_text : ℕ = at + newlines l.text in
      let split : line ++ rest ≡ l.text ++ 59 ∷ 10 ∷ rest = ap (λ u. u ++ rest) l.is ∙ append_assoc l.text (59 ∷ newline) rest in
      let cut : length (pieces_from at (l.text ++ 59 ∷ 10 ∷ rest)) ≡ suc (length (pieces_from behind_text (10 ∷ rest))) =
      ap length (statements at l.text (10 ∷ rest) l.statement) in
      ap (λ u. length (pieces_from at u)) split ∙ cut ∙ ap (λ ps. suc (length ps)) (blanks behind_text 10 rest refl)

  count-rounds : (at seed rounds : ℕ) → length (pieces_from at (round_lines seed rounds)) ≡ rounds
  count-rounds at seed zero = refl
  count-rounds at seed (suc rounds) =
      let line = round_is (seed / 65536) in
      count-line at (round_line (seed / 65536)) (round_lines (next_seed seed) rounds) line
      ∙ ap suc (count-rounds (at + newlines line.text + newlines newline) (next_seed seed) rounds)

  first_is : IsLine (codes "$a = sequence(8,6);" ++ newline)
  first_is = record { text = codes "$a = sequence(8,6)"; statement = line_of 36 (codes "a = sequence(8,6)") refl refl; is = refl }

  second_is : IsLine (codes "$v = $a->slice(\"1:6,1:4\");" ++ newline)
  second_is = record { text = codes "$v = $a->slice(\"1:6,1:4\")"; statement = line_of 36 (codes "v = $a->slice(\"1:6,1:4\")") refl refl; is = refl }

  count-two : (one two rest : List ℕ) (rounds : ℕ) → IsLine one → IsLine two → ((at : ℕ) → length (pieces_from at rest) ≡ rounds)
      → length (pieces_from 1 (one ++ two ++ rest)) ≡ rounds + 2
  count-two one two rest rounds a b counts =
      let at : ℕ = 1 + newlines a.text + newlines newline in
      let first : length (pieces_from 1 (one ++ (two ++ rest))) ≡ suc (length (pieces_from at (two ++ rest))) = count-line 1 one (two ++ rest) a in
      let second : length (pieces_from at (two ++ rest)) ≡ suc (length (pieces_from (at + newlines b.text + newlines newline) rest)) = count-line at two rest b in
      ap (λ u. length (pieces_from 1 u)) (append_assoc one two rest) ∙ first
      ∙ ap suc (second ∙ ap suc (counts (at + newlines b.text + newlines newline))) ∙ omega arith

  count-all : (rounds : ℕ) → length (pieces (first_lines ++ round_lines (next_seed 1) rounds)) ≡ rounds + 2
  count-all rounds =
      count-two (codes "$a = sequence(8,6);" ++ newline) (codes "$v = $a->slice(\"1:6,1:4\");" ++ newline) (round_lines (next_seed 1) rounds) rounds
      first_is second_is (λ at. count-rounds at (next_seed 1) rounds)

  -- each line of the script is one statement
  pub statement_count-some : (rounds : ℕ) → (rounds ≡ 0 → ⊥) → length (pieces (generated_script rounds)) ≡ rounds + 2
  statement_count-some rounds some =
      ap (λ t. length (pieces (cond t [] (first_lines ++ round_lines (next_seed 1) rounds)))) (ne_eqb rounds 0 some) ∙ count-all rounds
