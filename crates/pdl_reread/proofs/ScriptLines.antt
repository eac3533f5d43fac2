-- Each line of a state's dump is one that reads as its statement.
use Rattle.std.proofs.Common.{◌≡◌, ℕ, zero, suc, ◌+◌, ◌-◌, ◌*◌, ◌/◌, ◌%◌, ◌<◌, ◌≤◌, min, Bool, true, false, List, [], ◌∷◌, ◌++◌, length, take, drop, map, replicate, All, ℤ, pos, negsuc, Option, Some, None, Result, Ok, Err, refl, sym, ◌∙◌, ap, subst, arith, eqb-true, length-drop}
use Rattle.std.specs.Prelude.{◌==◌, ◌&&◌, ◌||◌, not, nat_lt, if◌then◌else◌, codes, decimal, flat_map, is_none, option_map, option_and_then}
use Rattle.std.specs.Fmt.{digits, digits_onto, digit_glyph}
use Rattle.std.specs.List.{list_any, list_all, range_with_len}
use Rattle.std.specs.Option.{option_map_or}
use Rattle.std.proofs.lemmas.Bool.{and_parts, eqb-false, ltb-false, lt-ltb}
use Rattle.std.proofs.lemmas.Int.{ints}
use Rattle.std.proofs.lemmas.List.{length-map, length-take}
use Rattle.std.proofs.lemmas.List.Elements.{All-nil, All-cons, All-head, All-tail, All-take, All-drop, All-map, All-weaker}
use Rattle.std.proofs.lemmas.List.FromFn.{length-map-range_with_len}
use Rattle.pdl_lemmas.specs.Tests.{by_test}
use Rattle.pdl_elem.specs.declared.Ty.{Ty}
use Rattle.pdl_elem.specs.declared.Ty.TheVariants.{Byte, Longlong}
use Rattle.pdl_elem.specs.Laws.{WrappingLaws}
use Rattle.pdl_elem.specs.Types.{InRange}
use Rattle.pdl_lex.specs.Bytes.{is_letter, is_word_byte}
use Rattle.pdl_lex.specs.Limits.{statement_limit}
use Rattle.pdl_elem.specs.Tables.{found_in}
use Rattle.pdl_lex.specs.declared.TokenKind.TheVariants.{Name}
use Rattle.pdl_lex.specs.Tokens.{is_word, only_where}
use Rattle.pdl_lexemes.specs.Lexing.{keywords}
use Rattle.pdl_lexemes.specs.Texts.{IsName, IsQuotable, lacks}
use Rattle.pdl_shape.specs.Laws.{SizeLaws}
use Rattle.pdl_shape.specs.Limits.{checked_dims}
use Rattle.pdl_shape.specs.Refusals.{Refusal, bad_dimension}
use Rattle.pdl_shape.specs.Shape.{IsDims, dims_limit, extent_limit, size_of}
use Rattle.pdl_slices.specs.declared.SliceArg.{SliceArg}
use Rattle.pdl_slices.specs.declared.reading.Kind.TheVariants.{Other}
use Rattle.pdl_slices.specs.declared.reading.Slot.{Slot}
use Rattle.pdl_slices.specs.declared.reading.Slot.TheVariants.{Single, Bracket, Bracketed, Size, To, By}
use Rattle.pdl_slices.specs.Meaning.{or_bad_text, read_on, slice_of}
use Rattle.pdl_slices.specs.SliceReading as reading
use Rattle.pdl_slices.specs.Written.{slice_text, WrittenTextsAreRead}
use Rattle.pdl_affine.specs.declared.Affine.{Affine}
use Rattle.pdl_affine.specs.declared.Affine.TheVariants as affine
use Rattle.pdl_affine.specs.Views.{exchanged, shifted, dims}
use Rattle.pdl_choice.specs.declared.edges.Edge.{Edge}
use Rattle.pdl_choice.specs.declared.edges.Edge.TheVariants.{Refuse, Zero, Nearest, Periodic}
use Rattle.pdl_choice.specs.Choice.{unless_outside}
use Rattle.pdl_choice.specs.Range.{is_negative, corner_len, window_sizes, window_refusal, first_refused, windowed_dims, range_dims}
use Rattle.pdl_choice.specs.Where.{is_set}
use Rattle.pdl_world.specs.declared.Trans.{Trans}
use Rattle.pdl_world.specs.declared.Trans.TheVariants as trans
use Rattle.pdl_world.specs.Paths.{path}
use Rattle.pdl_world.specs.Refused.{refusal_at}
use Rattle.pdl_world.specs.Sound.{IsSound, IsShowable}
use Rattle.pdl_world.specs.World.{World, root, view, dims_in}
use Rattle.pdl_image.specs.declared.TheConstants.{PIECE}
use Rattle.pdl_image.specs.Lines.{Call, chosen, ranged, Line, piece_line, least_line, view_line, undef_line, line_text}
use Rattle.pdl_image.specs.Stems.{stem, least_free, taken, name_at, index_name, is_in}
use Rattle.pdl_image.specs.Dump.{is_least, as_listed, given_lines, least_lines, filling_lines, piece_lines, piece_count, root_lines, affine_call, edge_number, mask_of, choosing_lines, view_lines, world_lines, definition_line, name_line, undef_lines, dump}
use Rattle.pdl_machine.specs.declared.fault.Fault.TheVariants.{WrongArguments}
use Rattle.pdl_machine.specs.Builtin.{builtin_of}
use Rattle.pdl_machine.specs.Kernels.{can_name, defined}
use Rattle.pdl_machine.specs.Names.{KernelTexts, Named}
use Rattle.pdl_machine.specs.Dumpable.{AreEach, AreNames, IsDefined, AreRead, IsWritable, ViewsAreWritable, IsDumpable}
use Rattle.pdl_machine.specs.DumpableLaws.{ShownAreMade}
use Rattle.pdl_machine.specs.Dumps.{definition, dump_lines}
use Rattle.pdl_machine.specs.State.{State}
use Rattle.pdl_machine.specs.Tidy.{older, renumbered}
use Rattle.pdl_reread.specs.Scripts.{AreLines}
use Rattle.pdl_reread.specs.Trees.{Fits, AllFit, IsCall, IsLine}
use Rattle.pdl_reread.proofs.TreeNumbers.{all_small, two_given, order_given, diagonal_given, dummy_given, clump_given}

-- the laws of the crates below
pub record Laws : Type 0 where
  pub sizes : SizeLaws
  pub wraps : WrappingLaws
  pub texts : WrittenTextsAreRead
  pub shown : ShownAreMade

-- ---- lines, one behind another

abbrev pub AllLines : List Line → Type 0
AllLines [] = Unit {0}
AllLines (l ∷ lines) = IsLine l × AllLines lines

all_joined : (front lines : List Line) → AllLines front → AllLines lines → AllLines (front ++ lines)
all_joined [] lines h k = k
all_joined (l ∷ front) lines h k = (h.0, all_joined front lines h.1 k)

all_mapped : {A : Type 0} (f : A → List Line) (xs : List A) → ((x : A) → AllLines (f x)) → AllLines (flat_map f xs)
all_mapped f [] h = tt
all_mapped f (x ∷ xs) h = all_joined (f x) (flat_map f xs) (h x) (all_mapped f xs h)

-- ---- names

digit_byte : (d : ℕ) → d < 10 → is_word_byte (48 + d) ≡ true
digit_byte zero low = refl
digit_byte (suc zero) low = refl
digit_byte (suc (suc zero)) low = refl
digit_byte (suc (suc (suc zero))) low = refl
digit_byte (suc (suc (suc (suc zero)))) low = refl
digit_byte (suc (suc (suc (suc (suc zero))))) low = refl
digit_byte (suc (suc (suc (suc (suc (suc zero)))))) low = refl
digit_byte (suc (suc (suc (suc (suc (suc (suc zero))))))) low = refl
digit_byte (suc (suc (suc (suc (suc (suc (suc (suc zero)))))))) low = refl
digit_byte (suc (suc (suc (suc (suc (suc (suc (suc (suc zero))))))))) low = refl
digit_byte (suc (suc (suc (suc (suc (suc (suc (suc (suc (suc d)))))))))) low = absurd (omega arith)

-- each byte of a number in decimal may stand in a name
digits_are_word : (fuel n : ℕ) (behind : List ℕ) → list_all is_word_byte behind ≡ true → list_all is_word_byte (digits_onto fuel 10 false n behind) ≡ true
digits_are_word zero n behind word = word
digits_are_word (suc fuel) n behind word =
    let low : n % 10 < 10 = omega arith in
    let digit : list_all is_word_byte (digit_glyph false (n % 10) ∷ behind) ≡ true = glyph (n % 10) low in
    by_test (n / 10 == 0)
    (λ last. rw last digit)
    (λ more. rw more (digits_are_word fuel (n / 10) (digit_glyph false (n % 10) ∷ behind) digit))
  where
    glyph : (d : ℕ) → d < 10 → list_all is_word_byte (digit_glyph false d ∷ behind) ≡ true
    glyph d low = let t : nat_lt d 10 ≡ true = lt-ltb d 10 low in rw (t, digit_byte d low) word

decimal_is_word : (n : ℕ) → list_all is_word_byte (decimal n) ≡ true
unfolding digits
decimal_is_word n = digits_are_word 64 n [] refl

stem_is_word : (count : ℕ) (rest : List ℕ) → list_all is_word_byte rest ≡ true → list_all is_word_byte ((replicate count 95 ++ 100 ∷ []) ++ rest) ≡ true
stem_is_word zero rest word = word
stem_is_word (suc count) rest word = stem_is_word count rest word

stem_begins : (count : ℕ) (rest : List ℕ) → list_all is_word_byte rest ≡ true → is_word ((replicate count 95 ++ 100 ∷ []) ++ rest) ≡ true
stem_begins zero rest word = word
stem_begins (suc count) rest word = stem_is_word count rest word

stem_is_name : (count : ℕ) (rest : List ℕ) → list_all is_word_byte rest ≡ true → IsName (stem count ++ rest)
stem_is_name count rest word = ap (λ b. only_where b Name) (stem_begins count rest word)

number_is_name : (count k : ℕ) → IsName (name_at (stem count) k)
number_is_name count k = stem_is_name count (decimal k) (decimal_is_word k)

index_is_name : (count : ℕ) → IsName (index_name (stem count))
index_is_name count = stem_is_name count (codes "i") refl

-- no byte of a word is a quote
no_quote : (b : ℕ) → is_word_byte b ≡ true → not (b == 34) ≡ true
no_quote b word =
    by_test (b == 34)
    (λ same. let never : is_word_byte 34 ≡ true = subst (λ c. is_word_byte c ≡ true) (eqb-true b 34 same) word in absurd (cc))
    (λ other. rw other refl)

no_quote_first : (b : ℕ) → is_letter b ≡ true → not (b == 34) ≡ true
no_quote_first b letter =
    by_test (b == 34)
    (λ same. let never : is_letter 34 ≡ true = subst (λ c. is_letter c ≡ true) (eqb-true b 34 same) letter in absurd (cc))
    (λ other. rw other refl)

no_quotes : (bs : List ℕ) → list_all is_word_byte bs ≡ true → lacks 34 bs ≡ true
no_quotes [] word = refl
no_quotes (b ∷ bs) word =
    let parts = and_parts (is_word_byte b) (list_all is_word_byte bs) word in rw (no_quote b parts.0, no_quotes bs parts.1) refl

word_is_quotable : (bs : List ℕ) → is_word bs ≡ true → IsQuotable bs
word_is_quotable [] word = absurd (cc)
word_is_quotable (b ∷ bs) word =
    let parts = and_parts (is_letter b) (list_all is_word_byte bs) word in
    let plain : lacks 34 (b ∷ bs) ≡ true = rw (no_quote_first b parts.0, no_quotes bs parts.1) refl in
    ap (λ t. t || lacks 39 (b ∷ bs)) plain

-- ---- kernels

kernel_name : (f a b : List ℕ) (t : KernelTexts) → defined f a b ≡ Ok t → is_word f ≡ true
kernel_name f a b t is =
    by_test (can_name f)
    (λ can. and_word can)
    (λ cannot. let e : Err WrongArguments ≡ Ok t = rw cannot at is in absurd (never e))
  where
    never : Err WrongArguments ≡ Ok t → ⊥
    never e = cc

    and_word : can_name f ≡ true → is_word f ≡ true
    and_word can = (and_parts (is_word f) (is_none (found_in keywords f)) (and_parts (is_word f && is_none (found_in keywords f)) (is_none (builtin_of f)) can).0).0

kernels_lines : (ks : Named KernelTexts) → AreEach IsDefined ks → AllLines (map definition_line (map definition ks))
kernels_lines [] each = tt
kernels_lines (k ∷ ks) each =
    ((word_is_quotable k.0 (kernel_name k.0 k.1.signature k.1.code k.1 each.0.is), each.0.signature, each.0.code), kernels_lines ks each.2)

-- ---- elements

listed_fits : (n : ℤ) → InRange Longlong n → Fits (as_listed n)
listed_fits (pos k) range = omega (arith, ints, range.1)
listed_fits (negsuc k) range =
    by_test (k == 9223372036854775807)
    (λ least. rw least (omega arith))
    (λ other. rw other (omega (arith, ints, range.0, eqb-false k 9223372036854775807 other)))

all_listed_fit : (es : List ℤ) → All (InRange Longlong) es → AllFit (map as_listed es)
all_listed_fit [] range = tt
all_listed_fit (e ∷ es) range = (listed_fits e (All-head (InRange Longlong) e es range), all_listed_fit es (All-tail (InRange Longlong) e es range))

-- the elements from a position on, if there are any, lie within the limit
abbrev Reaches : (first : ℕ) → List ℤ → Type 0
Reaches first es = 0 < length es → first + length es ≤ extent_limit

given_are : (x : List ℕ) (first : ℕ) (es : List ℤ) → IsName x → Reaches first es → AllFit es → AllLines (given_lines x first es)
given_are x first [] name within fit = tt
given_are x first (e ∷ es) name within fit =
    let most : first + length (e ∷ es) ≤ extent_limit = within (omega arith) in
    by_set (list_any is_set (e ∷ es)) (omega (arith, most)) (omega (arith, most))
  where
    by_set : (b : Bool) → first ≤ extent_limit → first + length es ≤ extent_limit → AllLines (if b then piece_line x first (first + length es) e es ∷ [] else [])
    by_set true a b = ((name, a, b, fit), tt)
    by_set false a b = tt

leasts_are : (x : List ℕ) (first : ℕ) (es : List ℤ) → IsName x → Reaches first es → AllLines (least_lines x first es)
leasts_are x first [] name within = tt
leasts_are x first (e ∷ es) name within =
    let most : first + length (e ∷ es) ≤ extent_limit = within (omega arith) in
    let rest : AllLines (least_lines x (first + 1) es) = leasts_are x (first + 1) es name (λ some. omega (arith, most)) in
    by_least (is_least e) (omega (arith, most)) rest
  where
    by_least : (b : Bool) → first ≤ extent_limit → AllLines (least_lines x (first + 1) es) → AllLines (if b then least_line x first ∷ least_lines x (first + 1) es else least_lines x (first + 1) es)
    by_least true a rest = ((name, a), rest)
    by_least false a rest = rest

filling_are : (x : List ℕ) (first : ℕ) (es : List ℤ) → IsName x → Reaches first es → All (InRange Longlong) es → AllLines (filling_lines x first es)
filling_are x first es name within range =
    all_joined (given_lines x first (map as_listed es)) (least_lines x first es)
    (given_are x first (map as_listed es) name (λ some. let long : length (map as_listed es) ≡ length es = length-map es as_listed in omega (arith, long, within (omega (arith, long, some)))) (all_listed_fit es range))
    (leasts_are x first es name within)

piece_are : (x : List ℕ) (es : List ℤ) (k : ℕ) → IsName x → length es ≤ extent_limit → All (InRange Longlong) es → AllLines (piece_lines x es k)
piece_are x es k name small range =
    let at : ℕ = PIECE * k in
    let part : List ℤ = take PIECE (drop at es) in
    let long : length part ≡ min PIECE (length es - at) = length-take PIECE (drop at es) ∙ ap (min PIECE) (length-drop at es) in
    filling_are x at part name (λ some. omega (arith, long, some, small))
    (All-take (InRange Longlong) PIECE (drop at es) (All-drop (InRange Longlong) at es range))

root_are : Laws → (x : List ℕ) (ty : Ty) (ds : List ℕ) (es : List ℤ) → IsName x → IsDims ds → length es ≡ size_of ds → All (InRange Longlong) es → AllLines (root_lines x ty ds es)
root_are laws x ty ds es name ok long range =
    let small : length es ≤ extent_limit = omega (arith, long, laws.sizes.size_within ds, ok.within) in
    ((name, all_small laws.sizes ds ok.within), all_mapped (piece_lines x es) (range_with_len 0 (piece_count (length es))) (λ k. piece_are x es k name small range))

-- ---- slices

-- a byte that is none of a slice text's leads nowhere
no_slot : (slot : Slot) (number : Option ℤ) → reading.slot_after slot number Other ≡ None
no_slot Single None = refl
no_slot Single (Some n) = refl
no_slot Bracket None = refl
no_slot Bracket (Some n) = refl
no_slot (Bracketed m) None = refl
no_slot (Bracketed m) (Some n) = refl
no_slot Size None = refl
no_slot Size (Some n) = refl
no_slot (To from) None = refl
no_slot (To from) (Some n) = refl
no_slot (By from to) None = refl
no_slot (By from to) (Some n) = refl

nowhere : {X Y : Type 0} (f : Slot → X) (g : X → Y) (slot : Slot) (o : Option (Option ℤ)) →
    option_map g (option_and_then (λ number. option_map f (reading.slot_after slot number Other)) o) ≡ None
nowhere f g slot None = refl
nowhere f g slot (Some number) = ap (λ o. option_map g (option_map f o)) (no_slot slot number)

stops : (s : reading.Stage) → reading.stage_after s Other ≡ None
stops s = nowhere _ _ s.place.slot (reading.number_in s.place.part)

-- so no text that is read has a quote
read_lacks : (s : reading.Stage) (at : ℕ) (text : List ℕ) (args : List SliceArg) → read_on s at text ≡ Ok args → lacks 34 text ≡ true
unfolding read_on
read_lacks s at [] args is = refl
read_lacks s at (b ∷ text) args is =
    by_test (b == 34)
    (λ quote. let e : or_bad_text at (λ t. read_on t (suc at) text) (reading.stage_after s (reading.kind_of 34)) ≡ Ok args =
    subst (λ c. or_bad_text at (λ t. read_on t (suc at) text) (reading.stage_after s (reading.kind_of c)) ≡ Ok args) (eqb-true b 34 quote) is in
    absurd (by_none (reading.stage_after s Other) (stops s) e))
    (λ other. by_stage (λ t h. read_lacks t (suc at) text args h) other (reading.stage_after s (reading.kind_of b)) is)
  where
    by_none : (o : Option reading.Stage) → o ≡ None → or_bad_text at (λ t. read_on t (suc at) text) o ≡ Ok args → ⊥
    by_none None n e = cc
    by_none (Some t) n e = cc

    by_stage : ((t : reading.Stage) → read_on t (suc at) text ≡ Ok args → lacks 34 text ≡ true) → (b == 34) ≡ false → (o : Option reading.Stage) → or_bad_text at (λ t. read_on t (suc at) text) o ≡ Ok args → lacks 34 (b ∷ text) ≡ true
    by_stage next other None e = absurd (by_none None refl e)
    by_stage next other (Some t) e = rw other (next t e)

slice_lacks : Laws → (args : List SliceArg) → AreRead args → lacks 34 (slice_text args) ≡ true
unfolding slice_of
slice_lacks laws args read = read_lacks reading.first_stage 0 (slice_text args) args (laws.texts read.text args read.is)

-- ---- views

affine_is_call : Laws → (t : Affine) (ds es : List ℕ) → length ds ≤ dims_limit → dims t ds ≡ Ok es → IsWritable (trans.Affine t) → IsCall (affine_call t)
affine_is_call laws (affine.Slice args) ds es low is writable = slice_lacks laws args writable
affine_is_call laws (affine.Xchg a b) ds es low is writable = let g = two_given exchanged a b ds es low is in ((refl, λ w. refl), g.fit, g.few)
affine_is_call laws (affine.Mv a b) ds es low is writable = let g = two_given shifted a b ds es low is in ((refl, λ w. refl), g.fit, g.few)
affine_is_call laws (affine.Reorder order) ds es low is writable = let g = order_given order ds es low is in ((refl, λ w. refl), g.fit, g.few)
affine_is_call laws (affine.Dummy place size) ds es low is writable = let g = dummy_given laws.sizes place size ds es low is in ((refl, λ w. refl), g.fit, g.few)
affine_is_call laws (affine.Diagonal listed) ds es low is writable = let g = diagonal_given listed ds es low is in ((refl, λ w. refl), g.fit, g.few)
affine_is_call laws affine.Squeeze ds es low is writable = ((refl, λ w. refl), tt, omega arith)
affine_is_call laws (affine.Clump count) ds es low is writable = let g = clump_given count ds es low is in ((refl, λ w. refl), g.fit, g.few)

-- a view that isn't refused has dimensions
has_dims : (ps : List ℕ) (x : Result (List ℕ) Refusal) → refusal_at ps x ≡ None → (es : List ℕ) × (x ≡ Ok es)
has_dims ps (Err e) is = absurd (cc)
has_dims ps (Ok es) is = (es, refl)

-- sizes of windows that aren't refused aren't below 0
not_negative : (parent ids : List ℕ) (ind sizes : List ℤ) (edge : Edge) (es : List ℕ) → range_dims parent ids ind sizes edge ≡ Ok es → list_any is_negative sizes ≡ false
not_negative parent ids ind sizes edge es is = by_refusal (window_refusal (length parent) (corner_len ids) sizes) refl is
  where
    rest : Result (List ℕ) Refusal
    rest = unless_outside (first_refused edge parent (window_sizes (corner_len ids) sizes) ind) (checked_dims (windowed_dims parent ids (window_sizes (corner_len ids) sizes)))

    never : {e : Refusal} → Err e ≡ Ok es → ⊥
    never e = cc

    no_refusal : {e : Refusal} → Some e ≡ None → ⊥
    no_refusal e = cc

    second : (a b : Bool) → (a || b) ≡ false → b ≡ false
    second true b e = absurd (cc)
    second false b e = e

    by_refusal : (o : Option Refusal) → window_refusal (length parent) (corner_len ids) sizes ≡ o → option_map_or (λ refusal. Err refusal) o rest ≡ Ok es → list_any is_negative sizes ≡ false
    by_refusal (Some e) w h = absurd (never h)
    by_refusal None w h =
        by_test (nat_lt (length parent) (corner_len ids) || list_any is_negative sizes)
        (λ bad. let e : Some bad_dimension ≡ None = rw bad at w in absurd (no_refusal e))
        (λ good. second (nat_lt (length parent) (corner_len ids)) (list_any is_negative sizes) good)

sizes_fit : (sizes : List ℤ) → All (InRange Longlong) sizes → list_any is_negative sizes ≡ false → AllFit sizes
sizes_fit [] range positive = tt
sizes_fit (pos n ∷ sizes) range positive = (omega (arith, ints, (All-head (InRange Longlong) (pos n) sizes range).1), sizes_fit sizes (All-tail (InRange Longlong) (pos n) sizes range) positive)
sizes_fit (negsuc n ∷ sizes) range positive = absurd (cc)

edge_small : (edge : Edge) → edge_number edge ≤ 3
edge_small Refuse = omega arith
edge_small Zero = omega arith
edge_small Nearest = omega arith
edge_small Periodic = omega arith

mask_in_range : (n : ℕ) (places : List ℕ) → All (InRange Longlong) (mask_of n places)
mask_in_range n places =
    All-map (InRange Longlong) (λ p. if is_in places p then pos 1 else pos 0) (range_with_len 0 n)
    (All-from_all (λ p. by_place (is_in places p)) (range_with_len 0 n))
  where
    by_place : (b : Bool) → InRange Longlong (if b then pos 1 else pos 0)
    by_place true = (omega (arith, ints), omega (arith, ints))
    by_place false = (omega (arith, ints), omega (arith, ints))

    All-from_all : {P : ℕ → Type 0} → ((p : ℕ) → P p) → (ps : List ℕ) → All P ps
    All-from_all {P} f [] = All-nil P
    All-from_all {P} f (p ∷ ps) = All-cons P p ps (f p) (All-from_all f ps)

-- the lines of a view by an array, which is made before it
chosen_are : (x y index : List ℕ) (call : Call) (made : List Line) → IsName x → IsName y → IsName index → IsCall call → AllLines made → AllLines (choosing_lines x y index call made)
chosen_are x y index call made name other third is lines =
    all_joined made (view_line x y call ∷ undef_line index ∷ []) lines ((name, other, is), (third, tt))

view_are : Laws → (count k p : ℕ) (t : Trans) (w : World) → IsSound w → IsShowable w p t → IsWritable t
    → AllLines (view_lines (name_at (stem count) k) (name_at (stem count) p) (index_name (stem count)) t)
view_are laws count k p (trans.Affine t) w sound showable writable =
    let h = has_dims (path w p) (dims t (dims_in w p)) showable.allowed in
    let d : IsDims (dims_in w p) = (laws.shown w p sound showable.live).0 in
    ((number_is_name count k, number_is_name count p, affine_is_call laws t (dims_in w p) h.0 d.count h.1 writable), tt)
view_are laws count k p (trans.Index ds ind) w sound showable writable =
    chosen_are (name_at (stem count) k) (name_at (stem count) p) (index_name (stem count)) (chosen (codes "index") (index_name (stem count)))
    (root_lines (index_name (stem count)) Longlong ds ind)
    (number_is_name count k) (number_is_name count p) (index_is_name count) ((refl, λ w. refl), index_is_name count)
    (root_are laws (index_name (stem count)) Longlong ds ind (index_is_name count) writable.dims_are writable.made.count writable.made.in_range)
view_are laws count k p (trans.Where ds places) w sound showable writable =
    let mask : List ℤ = mask_of (size_of ds) places in
    chosen_are (name_at (stem count) k) (name_at (stem count) p) (index_name (stem count)) (chosen (codes "where") (index_name (stem count)))
    (root_lines (index_name (stem count)) Byte ds mask)
    (number_is_name count k) (number_is_name count p) (index_is_name count) ((refl, λ w. refl), index_is_name count)
    (root_are laws (index_name (stem count)) Byte ds mask (index_is_name count) writable
    (length-map-range_with_len (λ p. if is_in places p then pos 1 else pos 0) 0 (size_of ds)) (mask_in_range (size_of ds) places))
view_are laws count k p (trans.Range ds ind sizes edge) w sound showable writable =
    let h = has_dims (path w p) (range_dims (dims_in w p) ds ind sizes edge) showable.allowed in
    chosen_are (name_at (stem count) k) (name_at (stem count) p) (index_name (stem count)) (ranged (index_name (stem count)) sizes (edge_number edge))
    (root_lines (index_name (stem count)) Longlong ds ind)
    (number_is_name count k) (number_is_name count p) (index_is_name count)
    (index_is_name count, sizes_fit sizes writable.1 (not_negative (dims_in w p) ds ind sizes edge h.0 h.1), edge_small edge)
    (root_are laws (index_name (stem count)) Longlong ds ind (index_is_name count) writable.0.dims_are writable.0.made.count writable.0.made.in_range)

-- ---- the whole

longlongs : Laws → (ty : Ty) (es : List ℤ) → All (InRange ty) es → All (InRange Longlong) es
longlongs laws ty es range = All-weaker (InRange ty) (InRange Longlong) (laws.wraps.widest ty) es range

world_are : Laws → (count : ℕ) (w : World) → IsSound w → ViewsAreWritable w → AllLines (world_lines (stem count) w)
world_are laws count [] sound writable = tt
world_are laws count ((k, root ty ds es) ∷ w) sound writable =
    all_joined (world_lines (stem count) w) (root_lines (name_at (stem count) k) ty ds es) (world_are laws count w sound.2 writable.1)
    (root_are laws (name_at (stem count) k) ty ds es (number_is_name count k) sound.1.0 sound.1.1.count (longlongs laws ty es sound.1.1.in_range))
world_are laws count ((k, view p t) ∷ w) sound writable =
    all_joined (world_lines (stem count) w) (view_lines (name_at (stem count) k) (name_at (stem count) p) (index_name (stem count)) t) (world_are laws count w sound.2 writable.1)
    (view_are laws count k p t w sound.2 sound.1 writable.0)

names_are : (count : ℕ) (f : ℕ → ℕ) (names : Named ℕ) → AreNames names → AllLines (map (name_line (stem count)) (renumbered f names))
names_are count f [] each = tt
names_are count f (n ∷ names) each = ((each.0, number_is_name count (f n.1)), names_are count f names each.2)

undefs_are : (count : ℕ) (ks : List ℕ) → AllLines (map (λ k. undef_line (name_at (stem count) k)) ks)
undefs_are count [] = tt
undefs_are count (k ∷ ks) = (number_is_name count k, undefs_are count ks)

dump_are : Laws → (ks : Named KernelTexts) (w : World) (f : ℕ → ℕ) (names : Named ℕ) → AreEach IsDefined ks → IsSound w → ViewsAreWritable w → AreNames names
    → AllLines (dump (map definition ks) w (renumbered f names))
dump_are laws ks w f names kernels sound writable named =
    let count : ℕ = least_free (taken (map (λ n. n.0) (renumbered f names))) in
    let bound : List Line = map (name_line (stem count)) (renumbered f names) in
    let ends : List Line = undef_lines (stem count) (length w) in
    all_joined (map definition_line (map definition ks)) (world_lines (stem count) w ++ (bound ++ ends)) (kernels_lines ks kernels)
    (all_joined (world_lines (stem count) w) (bound ++ ends) (world_are laws count w sound writable)
    (all_joined bound ends (names_are count f names named) (undefs_are count (range_with_len 0 (length w)))))

pub state_are : Laws → (s : State) → IsDumpable s → AllLines (dump_lines s)
state_are laws s is =
    let w : World = s.arrays.world in
    let P : World → Type 0 = λ u. AllLines (dump (map definition s.names.kernels) u (renumbered (older w) s.names.arrays)) in
    subst P (sym is.numbered.world)
    (dump_are laws s.names.kernels w (older w) s.names.arrays is.spelled.kernels is.whole.sound is.spelled.views is.spelled.names)

-- lines that aren't too long are short enough
pub short_lines : (lines : List Line) → AllLines lines → list_any (λ l. nat_lt statement_limit (length (line_text l))) lines ≡ false → AreLines lines
short_lines [] all short = tt
short_lines (l ∷ lines) all short =
    by_test (nat_lt statement_limit (length (line_text l)))
    (λ long. let e : true ≡ false = rw long at short in absurd (cc))
    (λ fits. (all.0, ltb-false statement_limit (length (line_text l)) fits, short_lines lines all.1 (rw fits at short)))
