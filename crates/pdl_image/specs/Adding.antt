-- What appending lines leaves of a text. Callers of the writer need none of it.
use Rattle.std.specs.List.Sorted.{IsNonDecreasing}
use Rattle.std.specs.Prelude.{Option, Some, None, ◌+◌, ◌-◌, ◌/◌, ◌≡◌, ◌<◌, ◌≤◌, true, false, if◌then◌else◌, List, [], ◌∷◌, ℕ, ℤ, pos, ◌++◌, length, map, codes, decimal, Result, OnOk, OnErr, IfErr}
use Rattle.std.specs.List.{concat, range_with_len}
use Rattle.pdl_image.specs.declared.ImageFault.{ImageFault}
use Rattle.pdl_image.specs.declared.ImageFault.TheVariants.{TooLong}
use Rattle.pdl_image.specs.declared.TheConstants.{LONGEST_DUMP, PART}
use Rattle.pdl_image.specs.Lines.{Line, numbers_text, script_of}
use Rattle.pdl_image.specs.Stems.{is_in}
use Rattle.pdl_image.specs.Dump.{is_too_long, mask_of}
use Rattle.pdl_image.specs.declared.content.Kept.{Kept}
use Rattle.pdl_image.specs.declared.content.Kept.TheVariants.{Shown, Listed, Marked}

-- a text, and the line that is made behind it
pub record PageParts : Type 0 where
  pub text : List ℕ
  pub line : List ℕ

-- the text begins with these bytes
pub record Begins (front text : List ℕ) : Type 0 where
  pub rest : List ℕ
  pub is : text ≡ front ++ rest

-- The lines are appended where they aren't too long. Else some of them may be, and they are refused
-- for being too long, or memory has run out.
pub record Adds (old new : List ℕ) (lines : List Line) (result : Result (Unit {0}) ImageFault) : Type 0 where
  pub ok : OnOk result (new ≡ old ++ script_of lines)
  pub fits : OnOk result (is_too_long old lines ≡ false)
  pub front : Begins old new
  pub refused : IfErr result (λ fault. fault ≡ TooLong → is_too_long old lines ≡ true)

-- The same of lines that are appended together or not at all.
pub record Writes (old new : List ℕ) (lines : List Line) (result : Result (Unit {0}) ImageFault) : Type 0 where
  pub ok : OnOk result (new ≡ old ++ script_of lines)
  pub fits : OnOk result (is_too_long old lines ≡ false)
  pub more : OnOk result (length old < length new)
  pub room : OnOk result (length new ≤ LONGEST_DUMP)
  pub err : OnErr result (new ≡ old)
  pub refused : IfErr result (λ fault. fault ≡ TooLong → is_too_long old lines ≡ true)

-- the text that gives numbers to the elements from a first to a last position
abbrev pub bytes_to : (name : List ℕ) (first last : ℕ) → List ℤ → List ℕ
bytes_to name first last ns = concat
    (name ∷ codes "->flat->slice(\"" ∷ decimal first ∷ codes ":" ∷ decimal last
    ∷ codes "\") .= pdl [" ∷ numbers_text ns ∷ codes "]" ∷ [])

-- so many numbers of a mask from a first position on: 1 at the listed places
abbrev pub mask_part : (first count : ℕ) → (places : List ℕ) → List ℤ
mask_part first count places =
    map (λ p. if is_in places p then pos 1 else pos 0) (range_with_len first count)

-- the numbers of a window, of a list, or of a mask by its places
abbrev pub kept_numbers : Kept → List ℤ
kept_numbers (Shown elems) = elems.now.elems
kept_numbers (Listed numbers) = numbers.now
kept_numbers (Marked count places) = mask_of count places.now

-- places that are kept rise
abbrev pub IsSound : Kept → Type 0
IsSound (Shown elems) = Unit {0}
IsSound (Listed numbers) = Unit {0}
IsSound (Marked count places) = IsNonDecreasing places.now

-- how many parts so many numbers have
abbrev pub part_count : ℕ → ℕ
part_count n = (n + (PART - 1)) / PART

-- what stands behind the stem in a name of the dump's own: an array's number, or an `i`
abbrev pub own_end : Option ℕ → List ℕ
own_end (Some k) = decimal k
own_end None = 105 ∷ []
