-- The reader of slice texts as a machine: where it stands, and how one byte moves it.
-- Numbers are cut at the first size that is too large. It is a step of the proof: what is promised
-- stands in Grammar and Refusals.
use Rattle.std.specs.Prelude.{ℕ, ◌+◌, ◌-◌, ◌*◌, min, Bool, true, false, ◌&&◌, ◌==◌, List, [], ◌∷◌, ◌++◌, ℤ, pos, neg_ℤ, nat_abs, Option, Some, None, option_map, option_and_then, Result, Ok, Err, if◌then◌else◌}
use Rattle.pdl_slices.specs.declared.SliceArg.{SliceArg}
use Rattle.pdl_slices.specs.declared.SliceArg.TheVariants.{Whole, One, Dropped, Dummy, Span}
use Rattle.pdl_slices.specs.declared.reading.Kind.{Kind}
use Rattle.pdl_slices.specs.declared.reading.Kind.TheVariants.{Blank, Digit, Minus, Open, Close, Star, Colon, Comma, Other}
use Rattle.pdl_slices.specs.declared.reading.Slot.{Slot}
use Rattle.pdl_slices.specs.declared.reading.Slot.TheVariants.{Single, Bracket, Bracketed, Size, To, By}
use Rattle.pdl_slices.specs.declared.reading.NumberSoFar.{NumberSoFar}
use Rattle.pdl_slices.specs.declared.reading.NumberSoFar.TheVariants as part
use Rattle.pdl_slices.specs.declared.reading.Place.{Place}
use Rattle.pdl_slices.specs.declared.reading.TooLarge.{TooLarge}
use Rattle.std.specs.Char.{is_ascii_digit}
use Rattle.pdl_slices.specs.Grammar.{is_blank}
use Rattle.pdl_slices.specs.Refusals.{size_limit, is_large, has_large_number}

-- what a byte can be
abbrev pub kind_of : ℕ → Kind
kind_of b =
    if is_blank b then Blank
    else (if is_ascii_digit b then Digit (b - 48)
    else (if b == 45 then Minus
    else (if b == 40 then Open
    else (if b == 41 then Close
    else (if b == 42 then Star
    else (if b == 58 then Colon
    else (if b == 44 then Comma
    else Other)))))))

-- one more digit, cut at the first size that is too large
abbrev pub more_digits : ℕ → ℕ → ℕ
more_digits size digit = min (10 * size + digit) (size_limit + 1)

-- the number of this sign and size
abbrev pub with_sign : Bool → ℕ → ℤ
with_sign true size = neg_ℤ (pos size)
with_sign false size = pos size

-- the number that the part holds, if any; nothing where it isn't whole
abbrev pub number_in : NumberSoFar → Option (Option ℤ)
number_in part.Before = Some None
number_in part.Minus = None
number_in (part.Digits negative size) = Some (Some (with_sign negative size))
number_in (part.After number) = Some (Some number)

-- a blank ends a number
abbrev pub part_after_blank : NumberSoFar → Option NumberSoFar
part_after_blank part.Before = Some part.Before
part_after_blank part.Minus = None
part_after_blank (part.Digits negative size) = Some (part.After (with_sign negative size))
part_after_blank (part.After number) = Some (part.After number)

-- whether a number may stand there
abbrev pub takes_number : Slot → Bool
takes_number Single = true
takes_number Bracket = true
takes_number (Bracketed number) = false
takes_number Size = true
takes_number (To from) = true
takes_number (By from to) = true

-- whether a number may have a sign there
abbrev pub takes_sign : Slot → Bool
takes_sign Single = true
takes_sign Bracket = true
takes_sign (Bracketed number) = false
takes_sign Size = false
takes_sign (To from) = true
takes_sign (By from to) = true

-- a digit begins a number or goes on with it
abbrev pub part_after_digit : NumberSoFar → ℕ → Option NumberSoFar
part_after_digit part.Before digit = Some (part.Digits false (more_digits 0 digit))
part_after_digit part.Minus digit = Some (part.Digits true (more_digits 0 digit))
part_after_digit (part.Digits negative size) digit =
    Some (part.Digits negative (more_digits size digit))
part_after_digit (part.After number) digit = None

-- a sign begins a number
abbrev pub part_after_minus : NumberSoFar → Option NumberSoFar
part_after_minus part.Before = Some part.Minus
part_after_minus part.Minus = None
part_after_minus (part.Digits negative size) = None
part_after_minus (part.After number) = None

-- the next slot after a bracket, a star or a colon, by what the number before it is
abbrev pub slot_after : Slot → Option ℤ → Kind → Option Slot
slot_after Single None Open = Some Bracket
slot_after Single None Star = Some Size
slot_after Single from Colon = Some (To from)
slot_after Bracket (Some number) Close = Some (Bracketed number)
slot_after (To from) to Colon = Some (By from to)
slot_after slot number kind = None

-- the argument that ends there
abbrev pub arg_of : Slot → Option ℤ → Option SliceArg
arg_of Single None = Some Whole
arg_of Single (Some number) = Some (One number)
arg_of Bracket number = None
arg_of (Bracketed number) None = Some (Dropped number)
arg_of (Bracketed number) (Some other) = None
arg_of Size None = Some (Dummy 1)
arg_of Size (Some number) = Some (Dummy (nat_abs number))
arg_of (To None) None = Some Whole
arg_of (To (Some from)) None = Some (Span (Some from) None None)
arg_of (To from) (Some to) = Some (Span from (Some to) None)
arg_of (By from to) None = None
arg_of (By from to) (Some step) = Some (Span from to (Some step))

-- the place in this slot, if there is such a part
abbrev pub in_slot : Slot → Option NumberSoFar → Option Place
in_slot s p = option_map (λ q. record { slot = s; part = q }) p

-- where a byte that is no comma leads from a place, if it may stand there
abbrev pub moved : Place → Kind → Option Place
moved p Blank = in_slot p.slot (part_after_blank p.part)
moved p (Digit digit) = if takes_number p.slot then in_slot p.slot (part_after_digit p.part digit)
    else None
moved p Minus = if takes_sign p.slot then in_slot p.slot (part_after_minus p.part) else None
moved p kind =
    option_and_then (λ number. option_map (λ s. record { slot = s; part = part.Before })
    (slot_after p.slot number kind)) (number_in p.part)

-- the argument that ends at a place, if one may end there
abbrev pub ending_argument : Place → Option SliceArg
ending_argument p = option_and_then (arg_of p.slot) (number_in p.part)

-- a number that isn't too large
abbrev pub fitted_number : ℤ → Result ℤ TooLarge
fitted_number n = if is_large (nat_abs n) then Err (record {}) else Ok n

abbrev pub fitted_size : ℤ → Result ℕ TooLarge
fitted_size n = if is_large (nat_abs n) then Err (record {}) else Ok (nat_abs n)

abbrev pub fitted_end : Option ℤ → Result (Option ℤ) TooLarge
fitted_end None = Ok None
fitted_end (Some n) = if is_large (nat_abs n) then Err (record {}) else Ok (Some n)

-- an argument without a number that is too large
abbrev pub fitted : SliceArg → Result SliceArg TooLarge
fitted a = if has_large_number a then Err (record {}) else Ok a

-- the arguments that have ended, and where the reader stands in the next one
pub record Stage : Type 0 where
  pub done : List SliceArg
  pub place : Place

-- an argument begins
abbrev pub first_place : Place
first_place = record { slot = Single; part = part.Before }

-- a comma ends an argument, and each other byte moves the place
abbrev pub stage_after : Stage → Kind → Option Stage
stage_after s Comma = option_map (λ a. record { done = s.done ++ a ∷ []; place = first_place })
    (ending_argument s.place)
stage_after s kind = option_map (λ p. record { done = s.done; place = p }) (moved s.place kind)

-- the stage after these bytes, if they may stand there
abbrev pub run : Option Stage → List ℕ → Option Stage
run o [] = o
run o (b ∷ bs) = run (option_and_then (λ s. stage_after s (kind_of b)) o) bs

-- whether no argument has begun
abbrev pub is_first : Place → Bool
is_first p = is_unopened p.slot p.part where
  is_unopened : Slot → NumberSoFar → Bool
  is_unopened Single part.Before = true
  is_unopened slot p = false

-- all arguments, at the end of the text
abbrev pub finished : Stage → Option (List SliceArg)
finished s =
    if (is_empty s.done) && is_first s.place then Some []
    else option_map (λ a. s.done ++ a ∷ []) (ending_argument s.place)
  where
    is_empty : List SliceArg → Bool
    is_empty [] = true
    is_empty (a ∷ args) = false

-- nothing is read yet
abbrev pub first_stage : Stage
first_stage = record { done = []; place = first_place }
