-- The lines of a dump, part by part.
use Rattle.std.proofs.Common.{◌≡◌, ℕ, zero, suc, ◌+◌, ◌<◌, ◌≤◌, ℤ, Bool, true, false, List, [], ◌∷◌, ◌++◌, length, map, take, drop, Option, Some, None, Result, Ok, Err, refl, sym, ap, ap₂, ◌∙◌, subst, arith, append_assoc}
use Rattle.std.specs.Prelude.{◌==◌, ◌||◌, nat_lt, nat_le, slice_get, if◌then◌else◌, is_some, IsErrAnd, IsTrue}
use Rattle.std.specs.List.{cons_option, list_any}
use Rattle.std.proofs.lemmas.Bool.{eq-eqb, eqb-true, lt-ltb, le-leb, le-ltb}
use Rattle.std.proofs.lemmas.Grind.{flat_map-append}
use Rattle.std.proofs.lemmas.List.{append-nil, map-append}
use Rattle.pdl_lemmas.specs.Tests.{by_test}
use Rattle.pdl_image.specs.declared.ImageFault.{ImageFault}
use Rattle.pdl_image.specs.declared.ImageFault.TheVariants as image
use Rattle.pdl_image.specs.declared.TheConstants.{LONGEST_DUMP}
use Rattle.pdl_image.specs.Image.{Image, with_lines, with_array}
use Rattle.pdl_image.specs.Laws.{LinesJoin}
use Rattle.pdl_image.specs.Lines.{Line, same_line, script_of, whole_line}
use Rattle.pdl_image.specs.Dump.{definition_line, is_too_long, name_line, undef_lines, world_lines}
use Rattle.pdl_image.specs.Stems.{name_at, stem_in, stem_of, taken}
use Rattle.pdl_world.specs.Sound.{IsSound}
use Rattle.pdl_world.specs.World.{World}
use Rattle.pdl_engine.specs.Looks.{array_numbers}
use Rattle.pdl_machine.specs.Dumps.{definition, dump_lines, dumped, lines_of, names_wanted, text_within}
use Rattle.pdl_machine.specs.Names.{KernelTexts, Named, names_limit}
use Rattle.pdl_machine.specs.State.{State}
use Rattle.pdl_machine.specs.Tidy.{older, renumber, renumbered}
use Rattle.pdl_scope.specs.Answers.{AnswersAs, IsFault}
use Rattle.pdl_machine.specs.declared.fault.Fault.{Fault}
use Rattle.pdl_machine.specs.declared.fault.Fault.TheVariants.{DumpTooLong}
use Rattle.pdl_scope.specs.declared.fault.ScopeFault.{ScopeFault}
use Rattle.pdl_scope.specs.declared.fault.ScopeFault.TheVariants.{Script, NoMemory}
use Rattle.pdl_scope.specs.Dumping.{of_image, with_more, HasRoom, WritesLines, kernel_lines, name_lines}
use Rattle.pdl_scope.proofs.StepPrinting.{take_entry}
use Rattle.pdl_scope.proofs.DumpingNumbers.{place_is}

-- ---- lines behind lines

script-append : (lines others : List Line) → script_of (lines ++ others) ≡ script_of lines ++ script_of others
script-append lines others = flat_map-append whole_line lines others

abbrev image_of : List ℕ → ℕ → List ℕ → Image
image_of stem arrays text = record { stem = stem; arrays = arrays; text = text }

more_more : (m : Image) (a b : ℕ) (ls ks : List Line) → with_more (with_more m a ls) b ks ≡ with_more m (a + b) (ls ++ ks)
more_more m a b ls ks =
    ap₂ (λ (n : ℕ) (t : List ℕ). image_of m.stem n t) (assoc m.arrays a b)
    (append_assoc m.text (script_of ls) (script_of ks) ∙ ap (λ t. m.text ++ t) (sym (script-append ls ks)))
  where
    assoc : (x y z : ℕ) → (x + y) + z ≡ x + (y + z)
    assoc x y z = omega arith

-- no line
pub writes_none : (m : Image) (u : Unit {0}) → HasRoom m → WritesLines m m 0 [] (Ok u)
writes_none m u room = (
  ap₂ (λ (n : ℕ) (t : List ℕ). image_of m.stem n t) (add_none m.arrays) (sym (append-nil m.text)),
  room,
)
  where
    add_none : (n : ℕ) → n ≡ n + 0
    add_none n = omega arith

-- what was written left room
pub room_left : LinesJoin → (old new : Image) (count : ℕ) (lines : List Line) (u : Unit {0}) → WritesLines old new count lines (Ok u) → HasRoom new
room_left join old new count lines u h =
    let whole : is_too_long old.text lines ≡ (is_too_long old.text lines || is_too_long new.text []) =
    ap (is_too_long old.text) (sym (append-nil lines)) ∙ join old.text lines []
    ∙ ap (λ (m : Image). is_too_long old.text lines || is_too_long m.text []) (sym h.0) in
    last_false (is_too_long old.text lines) (is_too_long new.text []) h.1 whole
  where
    last_false : (a b : Bool) → a ≡ false → a ≡ (a || b) → b ≡ false
    last_false a b first both = cc

-- more lines behind those that were written
pub writes_then : LinesJoin → (old mid new : Image) (a b : ℕ) (ls ks : List Line) (x : Unit {0}) (r : Result (Unit {0}) ScopeFault)
    → WritesLines old mid a ls (Ok x) → WritesLines mid new b ks r → WritesLines old new (a + b) (ls ++ ks) r
writes_then join old mid new a b ls ks x (Ok y) first second = (
  second.0 ∙ ap (λ m. with_more m b ks) first.0 ∙ more_more old a b ls ks,
  join old.text ls ks
      ∙ ap₂ (λ (p q : Bool). p || q) first.1 (ap (λ (m : Image). is_too_long m.text ks) (sym first.0) ∙ second.1),
)
writes_then join old mid new a b ls ks x (Err (Script e)) first second = (
  second.0,
  join old.text ls ks
      ∙ ap₂ (λ (p q : Bool). p || q) first.1 (ap (λ (m : Image). is_too_long m.text ks) (sym first.0) ∙ second.1),
)
writes_then join old mid new a b ls ks x (Err NoMemory) first second = tt

-- the first of them were refused
pub writes_first : LinesJoin → (old mid new : Image) (a b : ℕ) (ls ks : List Line) (e : ScopeFault)
    → WritesLines old mid a ls (Err e) → WritesLines old new b (ls ++ ks) (Err e)
writes_first join old mid new a b ls ks (Script e) first =
    (first.0, join old.text ls ks ∙ ap (λ (p : Bool). p || is_too_long (old.text ++ script_of ls) ks) first.1)
writes_first join old mid new a b ls ks NoMemory first = tt

-- ---- what an image answers

pub image_refused : (old new : Image) (count : ℕ) (lines : List Line) (f : ImageFault) (e : ScopeFault)
    → (f ≡ image.TooLong → is_too_long old.text lines ≡ true) → e ≡ of_image f → WritesLines old new count lines (Err e)
image_refused old new count lines image.TooLong e refused is =
    subst (λ (x : ScopeFault). WritesLines old new count lines (Err x)) (sym is) (refl, refused refl)
image_refused old new count lines image.NoMemory e refused is =
    subst (λ (x : ScopeFault). WritesLines old new count lines (Err x)) (sym is) tt

pub image_wrote : (old new : Image) (lines : List Line) (u : Unit {0}) → new ≡ with_lines old lines → is_too_long old.text lines ≡ false → WritesLines old new 0 lines (Ok u)
image_wrote old new lines u is fits = (is ∙ ap (λ (n : ℕ). image_of old.stem n (old.text ++ script_of lines)) (add_none old.arrays), fits)
  where
    add_none : (n : ℕ) → n ≡ n + 0
    add_none n = omega arith

-- ---- a line for each entry of a list

map_entry : {X : Type 0} (f : X → Line) (xs : List X) (i : ℕ) (x : X) → slice_get xs i ≡ Some x → map f (take (i + 1) xs) ≡ map f (take i xs) ++ f x ∷ []
map_entry f xs i x at =
    let s : i + 1 ≡ suc i = omega arith in
    ap (λ n. map f (take n xs)) s ∙ ap (map f) (take_entry xs i x at) ∙ map-append f (take i xs) (x ∷ [])

map_split : {X : Type 0} (f : X → Line) (xs : List X) (i : ℕ) (x : X) → slice_get xs i ≡ Some x → map f xs ≡ map f (take i xs) ++ f x ∷ map f (drop (suc i) xs)
map_split f [] i x at = cc
map_split f (y ∷ xs) zero x at = let e : y ≡ x = cc in ap (λ z. f z ∷ map f xs) e
map_split f (y ∷ xs) (suc i) x at = ap (λ l. f y ∷ l) (map_split f xs i x at)

-- one line more
pub entry_written : {X : Type 0} → LinesJoin → (f : X → Line) (xs : List X) (i : ℕ) (x : X) (old mid new : Image) (u : Unit {0}) → slice_get xs i ≡ Some x
    → WritesLines old mid 0 (map f (take i xs)) (Ok u) → new ≡ with_lines mid (f x ∷ []) → is_too_long mid.text (f x ∷ []) ≡ false
    → WritesLines old new 0 (map f (take (i + 1) xs)) (Ok u)
entry_written join f xs i x old mid new u at first is fits =
    subst (λ (ls : List Line). WritesLines old new 0 ls (Ok u)) (sym (map_entry f xs i x at))
    (writes_then join old mid new 0 0 (map f (take i xs)) (f x ∷ []) u (Ok u) first (image_wrote mid new (f x ∷ []) u is fits))

-- one line was refused
front_refused : {X : Type 0} → LinesJoin → (f : X → Line) (xs : List X) (i : ℕ) (x : X) (old mid new : Image) (u : Unit {0}) (why : ImageFault) (e : ScopeFault) → slice_get xs i ≡ Some x
    → WritesLines old mid 0 (map f (take i xs)) (Ok u) → (why ≡ image.TooLong → is_too_long mid.text (f x ∷ []) ≡ true) → e ≡ of_image why
    → WritesLines old new 0 (map f xs) (Err e)
front_refused join f xs i x old mid new u why e at first refused is =
    let here : WritesLines mid new 0 (f x ∷ []) (Err e) = image_refused mid new 0 (f x ∷ []) why e refused is in
    let front : WritesLines old new 0 (map f (take i xs) ++ f x ∷ []) (Err e) = writes_then join old mid new 0 0 (map f (take i xs)) (f x ∷ []) u (Err e) first here in
    let whole : map f xs ≡ (map f (take i xs) ++ f x ∷ []) ++ map f (drop (suc i) xs) =
    map_split f xs i x at ∙ sym (append_assoc (map f (take i xs)) (f x ∷ []) (map f (drop (suc i) xs))) in
    subst (λ (ls : List Line). WritesLines old new 0 ls (Err e)) (sym whole)
    (writes_first join old new new 0 0 (map f (take i xs) ++ f x ∷ []) (map f (drop (suc i) xs)) e front)

pub entry_refused : {X : Type 0} → LinesJoin → (f : X → Line) (xs : List X) (i : ℕ) (x : X) (old mid new : Image) (u : Unit {0}) (why : ImageFault) (r : Result (Unit {0}) ScopeFault) → slice_get xs i ≡ Some x
    → WritesLines old mid 0 (map f (take i xs)) (Ok u) → (why ≡ image.TooLong → is_too_long mid.text (f x ∷ []) ≡ true) → IsErrAnd r (λ e. e ≡ of_image why)
    → WritesLines old new 0 (map f xs) r
entry_refused join f xs i x old mid new u why (Ok y) at first refused is = absurd is
entry_refused join f xs i x old mid new u why (Err e) at first refused is = front_refused join f xs i x old mid new u why e at first refused is

-- ---- the stem of names that were seen

cons-append : (o : Option ℕ) (xs ys : List ℕ) → cons_option o (xs ++ ys) ≡ cons_option o xs ++ ys
cons-append None xs ys = refl
cons-append (Some x) xs ys = refl

taken_last : (xs : List (List ℕ)) (y : List ℕ) → taken (xs ++ y ∷ []) ≡ taken xs ++ cons_option (stem_in y) []
taken_last [] y = refl
taken_last (x ∷ xs) y = ap (cons_option (stem_in x)) (taken_last xs y) ∙ cons-append (stem_in x) (taken xs) (cons_option (stem_in y) [])

-- one name more
pub stem_seen : (names : Named ℕ) (i : ℕ) (x : List ℕ) (v : ℕ) (old new : List ℕ) → slice_get names i ≡ Some (x, v) → old ≡ taken (map (λ n. n.0) (take i names))
    → new ≡ old ++ cons_option (stem_in x) [] → new ≡ taken (map (λ n. n.0) (take (i + 1) names))
stem_seen names i x v old new at before is =
    let s : i + 1 ≡ suc i = omega arith in
    let whole : map (λ n. n.0) (take (i + 1) names) ≡ map (λ n. n.0) (take i names) ++ x ∷ [] =
    ap (λ k. map (λ n. n.0) (take k names)) s ∙ ap (map (λ n. n.0)) (take_entry names i (x, v) at) ∙ map-append (λ n. n.0) (take i names) ((x, v) ∷ []) in
    is ∙ ap (λ t. t ++ cons_option (stem_in x) []) before ∙ sym (ap taken whole ∙ taken_last (map (λ n. n.0) (take i names)) x)

-- ---- the whole

names_keep : (f : ℕ → ℕ) (names : Named ℕ) → map (λ n. n.0) (renumbered f names) ≡ map (λ n. n.0) names
names_keep f [] = refl
names_keep f (n ∷ names) = ap (λ (xs : List (List ℕ)). n.0 ∷ xs) (names_keep f names)

length-renumber : (w : World) → length (renumber w) ≡ length w
length-renumber [] = refl
length-renumber ((k, d) ∷ w) = ap suc (length-renumber w)

names_same : (stem : List ℕ) (w : World) → IsSound w → (names : Named ℕ) → name_lines stem (array_numbers w) names ≡ map (name_line stem) (renumbered (older w) names)
names_same stem w sound [] = refl
names_same stem w sound (n ∷ names) =
    ap₂ (λ (k : ℕ) (ls : List Line). same_line n.0 (name_at stem k) ∷ ls) (place_is w n.1 sound) (names_same stem w sound names)

kernels_same : (kernels : Named KernelTexts) → map definition_line (map definition kernels) ≡ kernel_lines kernels
kernels_same [] = refl
kernels_same (k ∷ ks) = ap (λ (ls : List Line). definition_line (definition k) ∷ ls) (kernels_same ks)

-- the first parts of a dump with this stem, and all of it
abbrev pub fronts : (stem : List ℕ) → Named KernelTexts → World → Named ℕ → List Line
fronts stem kernels w names = (kernel_lines kernels ++ world_lines stem (renumber w)) ++ name_lines stem (array_numbers w) names

abbrev pub stem_for : Named ℕ → List ℕ
stem_for names = stem_of (map (λ n. n.0) names)

-- the lines of a dump, part by part
lines_are : (kernels : Named KernelTexts) (w : World) (names : Named ℕ) → IsSound w
    → lines_of kernels w names ≡ fronts (stem_for names) kernels w names ++ undef_lines (stem_for names) (length w)
lines_are kernels w names sound =
    let kl : List Line = kernel_lines kernels in
    let ns : Named ℕ = renumbered (older w) names in
    let stem : List ℕ = stem_for names in
    let wl : List Line = world_lines stem (renumber w) in
    let nl : List Line = name_lines stem (array_numbers w) names in
    let ul : List Line = undef_lines stem (length w) in
    ap (λ (ls : List Line). ls ++ (world_lines (stem_of (map (λ n. n.0) ns)) (renumber w) ++ (map (name_line (stem_of (map (λ n. n.0) ns))) ns ++ undef_lines (stem_of (map (λ n. n.0) ns)) (length (renumber w))))) (kernels_same kernels)
    ∙ ap (λ t. kl ++ (world_lines t (renumber w) ++ (map (name_line t) ns ++ undef_lines t (length (renumber w))))) (ap stem_of (names_keep (older w) names))
    ∙ ap₂ (λ (ls : List Line) (n : ℕ). kl ++ (wl ++ (ls ++ undef_lines stem n))) (sym (names_same stem w sound names)) (length-renumber w)
    ∙ sym (append_assoc (kl ++ wl) nl ul ∙ append_assoc kl wl (nl ++ ul))

-- an image of which nothing was written
abbrev pub blank : List ℕ → Image
blank stem = image_of stem 0 []

-- what is refused of all lines is the fault of the text
refused_within : (stem : List ℕ) (new : Image) (count : ℕ) (lines : List Line) (e : ScopeFault) → WritesLines (blank stem) new count lines (Err e) → IsFault (text_within lines) e
refused_within stem new count lines (Script f) h = rw h.1 (ap (λ (x : Fault). Err x) (sym h.0))
refused_within stem new count lines NoMemory h = tt

abbrev Parts : Named KernelTexts → World → Named ℕ → ScopeFault → Type 0
Parts kernels w names e = IsFault (text_within (lines_of kernels w names)) e

-- so is what is refused of the first parts
fronts_refused : LinesJoin → (kernels : Named KernelTexts) (w : World) (names : Named ℕ) (new : Image) (count : ℕ) (e : ScopeFault) → IsSound w
    → WritesLines (blank (stem_for names)) new count (fronts (stem_for names) kernels w names) (Err e) → Parts kernels w names e
fronts_refused join kernels w names new count e sound h =
    let stem : List ℕ = stem_for names in
    subst (λ (ls : List Line). IsFault (text_within ls) e) (sym (lines_are kernels w names sound))
    (refused_within stem new count (fronts stem kernels w names ++ undef_lines stem (length w)) e
    (writes_first join (blank stem) new new count count (fronts stem kernels w names) (undef_lines stem (length w)) e h))

pub kernels_refused : LinesJoin → (kernels : Named KernelTexts) (w : World) (names : Named ℕ) (m new : Image) (e : ScopeFault) → IsSound w → m ≡ blank (stem_for names)
    → WritesLines m new 0 (kernel_lines kernels) (Err e) → Parts kernels w names e
kernels_refused join kernels w names m new e sound is h =
    let stem : List ℕ = stem_for names in
    let first : WritesLines (blank stem) new 0 (kernel_lines kernels) (Err e) = subst (λ (i : Image). WritesLines i new 0 (kernel_lines kernels) (Err e)) is h in
    fronts_refused join kernels w names new 0 e sound
    (writes_first join (blank stem) new new 0 0 (kernel_lines kernels ++ world_lines stem (renumber w)) (name_lines stem (array_numbers w) names) e
    (writes_first join (blank stem) new new 0 0 (kernel_lines kernels) (world_lines stem (renumber w)) e first))

-- kernels and arrays, behind each other
arrays_behind : LinesJoin → (kernels : Named KernelTexts) (w : World) (names : Named ℕ) (m mid new : Image) (u : Unit {0}) (r : Result (Unit {0}) ScopeFault) → m ≡ blank (stem_for names)
    → WritesLines m mid 0 (kernel_lines kernels) (Ok u) → WritesLines mid new (length w) (world_lines mid.stem (renumber w)) r
    → WritesLines (blank (stem_for names)) new (0 + length w) (kernel_lines kernels ++ world_lines (stem_for names) (renumber w)) r
arrays_behind join kernels w names m mid new u r is first second =
    let stem : List ℕ = stem_for names in
    let begun : WritesLines (blank stem) mid 0 (kernel_lines kernels) (Ok u) = subst (λ (i : Image). WritesLines i mid 0 (kernel_lines kernels) (Ok u)) is first in
    let same : mid.stem ≡ stem = ap (λ (i : Image). i.stem) begun.0 in
    writes_then join (blank stem) mid new 0 (length w) (kernel_lines kernels) (world_lines stem (renumber w)) u r begun
    (subst (λ (t : List ℕ). WritesLines mid new (length w) (world_lines t (renumber w)) r) same second)

pub arrays_refused : LinesJoin → (kernels : Named KernelTexts) (w : World) (names : Named ℕ) (m mid new : Image) (u : Unit {0}) (e : ScopeFault) → IsSound w → m ≡ blank (stem_for names)
    → WritesLines m mid 0 (kernel_lines kernels) (Ok u) → WritesLines mid new (length w) (world_lines mid.stem (renumber w)) (Err e) → Parts kernels w names e
arrays_refused join kernels w names m mid new u e sound is first second =
    let stem : List ℕ = stem_for names in
    fronts_refused join kernels w names new 0 e sound
    (writes_first join (blank stem) new new (0 + length w) 0 (kernel_lines kernels ++ world_lines stem (renumber w)) (name_lines stem (array_numbers w) names) e
    (arrays_behind join kernels w names m mid new u (Err e) is first second))

-- and names behind them
names_behind : LinesJoin → (kernels : Named KernelTexts) (w : World) (names : Named ℕ) (m mid next new : Image) (u v : Unit {0}) (r : Result (Unit {0}) ScopeFault) → m ≡ blank (stem_for names)
    → WritesLines m mid 0 (kernel_lines kernels) (Ok u) → WritesLines mid next (length w) (world_lines mid.stem (renumber w)) (Ok v)
    → WritesLines next new 0 (name_lines next.stem (array_numbers w) names) r → WritesLines (blank (stem_for names)) new (0 + length w + 0) (fronts (stem_for names) kernels w names) r
names_behind join kernels w names m mid next new u v r is first second third =
    let stem : List ℕ = stem_for names in
    let begun = arrays_behind join kernels w names m mid next u (Ok v) is first second in
    let same : next.stem ≡ stem = ap (λ (i : Image). i.stem) begun.0 in
    writes_then join (blank stem) next new (0 + length w) 0 (kernel_lines kernels ++ world_lines stem (renumber w)) (name_lines stem (array_numbers w) names) v r begun
    (subst (λ (t : List ℕ). WritesLines next new 0 (name_lines t (array_numbers w) names) r) same third)

pub names_refused : LinesJoin → (kernels : Named KernelTexts) (w : World) (names : Named ℕ) (m mid next new : Image) (u v : Unit {0}) (e : ScopeFault) → IsSound w → m ≡ blank (stem_for names)
    → WritesLines m mid 0 (kernel_lines kernels) (Ok u) → WritesLines mid next (length w) (world_lines mid.stem (renumber w)) (Ok v)
    → WritesLines next new 0 (name_lines next.stem (array_numbers w) names) (Err e) → Parts kernels w names e
names_refused join kernels w names m mid next new u v e sound is first second third =
    fronts_refused join kernels w names new (0 + length w + 0) e sound (names_behind join kernels w names m mid next new u v (Err e) is first second third)

-- the ends of the arrays' names, behind all
ends_behind : LinesJoin → (kernels : Named KernelTexts) (w : World) (names : Named ℕ) (m mid next last : Image) (u v x : Unit {0}) → m ≡ blank (stem_for names)
    → WritesLines m mid 0 (kernel_lines kernels) (Ok u) → WritesLines mid next (length w) (world_lines mid.stem (renumber w)) (Ok v)
    → WritesLines next last 0 (name_lines next.stem (array_numbers w) names) (Ok x)
    → (last.text ≡ script_of (fronts (stem_for names) kernels w names)) × (is_too_long [] (fronts (stem_for names) kernels w names) ≡ false)
    × (undef_lines last.stem last.arrays ≡ undef_lines (stem_for names) (length w))
ends_behind join kernels w names m mid next last u v x is first second third =
    let all = names_behind join kernels w names m mid next last u v (Ok x) is first second third in (
      ap (λ (i : Image). i.text) all.0,
      all.1,
      ap₂ (λ (t : List ℕ) (n : ℕ). undef_lines t n) (ap (λ (i : Image). i.stem) all.0) (ap (λ (i : Image). i.arrays) all.0 ∙ plain (length w)),
    )
  where
    plain : (n : ℕ) → 0 + (0 + n + 0) ≡ n
    plain n = omega arith

pub ends_refused : LinesJoin → (kernels : Named KernelTexts) (w : World) (names : Named ℕ) (m mid next last : Image) (u v x : Unit {0}) (why : ImageFault) (e : ScopeFault) → IsSound w → m ≡ blank (stem_for names)
    → WritesLines m mid 0 (kernel_lines kernels) (Ok u) → WritesLines mid next (length w) (world_lines mid.stem (renumber w)) (Ok v)
    → WritesLines next last 0 (name_lines next.stem (array_numbers w) names) (Ok x)
    → (why ≡ image.TooLong → is_too_long last.text (undef_lines last.stem last.arrays) ≡ true) → e ≡ of_image why → Parts kernels w names e
ends_refused join kernels w names m mid next last u v x image.NoMemory e sound is first second third refused why =
    subst (λ (f : ScopeFault). Parts kernels w names f) (sym why) tt
ends_refused join kernels w names m mid next last u v x image.TooLong e sound is first second third refused why =
    let front : List Line = fronts (stem_for names) kernels w names in
    let ends : List Line = undef_lines (stem_for names) (length w) in
    let all = ends_behind join kernels w names m mid next last u v x is first second third in
    let long : is_too_long (script_of front) ends ≡ true = sym (ap₂ (λ (t : List ℕ) (ls : List Line). is_too_long t ls) all.0 all.2) ∙ refused refl in
    let whole : is_too_long [] (front ++ ends) ≡ true = join [] front ends ∙ ap₂ (λ (p q : Bool). p || q) all.1 long in
    subst (λ (f : ScopeFault). Parts kernels w names f) (sym why)
    (subst (λ (ls : List Line). text_within ls ≡ Err DumpTooLong) (sym (lines_are kernels w names sound)) (rw whole refl))

-- all was written
pub dump_written : LinesJoin → (kernels : Named KernelTexts) (w : World) (names : Named ℕ) (m mid next last : Image) (u v x : Unit {0}) (bytes : List ℕ) → IsSound w → m ≡ blank (stem_for names)
    → WritesLines m mid 0 (kernel_lines kernels) (Ok u) → WritesLines mid next (length w) (world_lines mid.stem (renumber w)) (Ok v)
    → WritesLines next last 0 (name_lines next.stem (array_numbers w) names) (Ok x)
    → bytes ≡ last.text ++ script_of (undef_lines last.stem last.arrays) → is_too_long last.text (undef_lines last.stem last.arrays) ≡ false → text_within (lines_of kernels w names) ≡ Ok bytes
dump_written join kernels w names m mid next last u v x bytes sound is first second third text fits =
    let front : List Line = fronts (stem_for names) kernels w names in
    let ends : List Line = undef_lines (stem_for names) (length w) in
    let all = ends_behind join kernels w names m mid next last u v x is first second third in
    let short : is_too_long (script_of front) ends ≡ false = sym (ap₂ (λ (t : List ℕ) (ls : List Line). is_too_long t ls) all.0 all.2) ∙ fits in
    let whole : is_too_long [] (front ++ ends) ≡ false = join [] front ends ∙ ap₂ (λ (p q : Bool). p || q) all.1 short in
    let same : script_of (front ++ ends) ≡ bytes =
    script-append front ends ∙ sym (text ∙ ap₂ (λ (t : List ℕ) (ls : List Line). t ++ script_of ls) all.0 all.2) in
    subst (λ (ls : List Line). text_within ls ≡ Ok bytes) (sym (lines_are kernels w names sound)) (rw whole (ap (λ (t : List ℕ). Ok t) same))

-- ---- the answer

-- a fault that is handed on
pub answers_fault : {T U : Type 0} (seen : T → U) (wanted : Result U Fault) (e : ScopeFault) (r : Result T ScopeFault) → IsFault wanted e → IsErrAnd r (λ f. f ≡ e) → AnswersAs seen wanted r
answers_fault seen wanted e (Ok x) fault same = absurd same
answers_fault {U = U} seen wanted e (Err f) fault same = subst (λ (g : ScopeFault). IsFault {U = U} wanted g) (sym same) fault

-- an image that was begun with the stem
pub begun : (m : Image) (s t : List ℕ) → m ≡ blank s → s ≡ t → m ≡ blank t
begun m s t is same = is ∙ ap blank same

-- where nothing refuses a dump, its text is that of its lines
pub dumped_as : {T : Type 0} (seen : T → List ℕ) (s : State) (attached many : Bool) (r : Result T ScopeFault) → attached ≡ list_any is_some s.watches → attached ≡ false → nat_lt 0 (length s.flows) ≡ false
    → many ≡ nat_lt names_limit (names_wanted s) → many ≡ false → AnswersAs seen (text_within (dump_lines s)) r → AnswersAs seen (dumped s) r
dumped_as seen s attached many r a free still m few h =
    let none : list_any is_some s.watches ≡ false = sym a ∙ free in
    let room : nat_lt names_limit (names_wanted s) ≡ false = sym m ∙ few in
    let same : text_within (dump_lines s) ≡ dumped s = rw (none, still, room) refl in
    subst (λ (w : Result (List ℕ) Fault). AnswersAs seen w r) same h
