-- Lists of lines, from their front and from their end.
use Rattle.std.proofs.Common.{◌≡◌, ℕ, suc, ◌+◌, ◌<◌, ◌≤◌, List, [], ◌∷◌, ◌++◌, length, drop, get_or, Option, Some, None, refl, sym, ap, ap₂, ◌∙◌, arith, append_assoc, add-one, drop-cons, suc-le-suc, lit<}
use Rattle.std.proofs.lemmas.List.{map-append}
use Rattle.pdl_slices.specs.declared.SliceArg.{SliceArg}
use Rattle.pdl_slices.specs.declared.SliceArg.TheVariants.{Whole, One, Dropped, Dummy, Span}
use Rattle.pdl_affine.specs.declared.forms.Taken.{Taken}
use Rattle.pdl_affine.specs.Slicing as slicing
use Rattle.pdl_affine.specs.Slicing.{line_of, line_cons, lines_of}
use Rattle.pdl_affine.specs.Courses.{line_of_taken, lines_of_taken, size_for, sizes_after, lines_before, AreSmall}

-- one argument, and then the others
pub lines_of-step : (arg : SliceArg) (args : List SliceArg) (ds : List ℕ) → lines_of (arg ∷ args) ds ≡ line_cons (line_of arg (size_for arg ds)) (lines_of args (sizes_after arg ds))
lines_of-step (Dummy m) args ds = refl
lines_of-step Whole args [] = refl
lines_of-step Whole args (d ∷ ds) = refl
lines_of-step (One k) args [] = refl
lines_of-step (One k) args (d ∷ ds) = refl
lines_of-step (Dropped k) args [] = refl
lines_of-step (Dropped k) args (d ∷ ds) = refl
lines_of-step (Span a b s) args [] = refl
lines_of-step (Span a b s) args (d ∷ ds) = refl

pub lines_before-cons : (ls : List slicing.Line) (l : slicing.Line) (o : Option (List slicing.Line)) → lines_before ls (line_cons (Some l) o) ≡ lines_before (ls ++ l ∷ []) o
lines_before-cons ls l None = refl
lines_before-cons ls l (Some rest) = ap Some (sym (append_assoc ls (l ∷ []) rest))

-- the sizes that an argument can take are small
pub size_small : (arg : SliceArg) (ds : List ℕ) → AreSmall ds → size_for arg ds < 2147483648
size_small (Dummy m) ds small = lit< tt
size_small Whole [] small = lit< tt
size_small (One k) [] small = lit< tt
size_small (Dropped k) [] small = lit< tt
size_small (Span a b s) [] small = lit< tt
size_small Whole (d ∷ ds) small = let h : d ≤ 1048576 = small 0 0 (omega arith) in omega (arith, h)
size_small (One k) (d ∷ ds) small = let h : d ≤ 1048576 = small 0 0 (omega arith) in omega (arith, h)
size_small (Dropped k) (d ∷ ds) small = let h : d ≤ 1048576 = small 0 0 (omega arith) in omega (arith, h)
size_small (Span a b s) (d ∷ ds) small = let h : d ≤ 1048576 = small 0 0 (omega arith) in omega (arith, h)

tail_small : (d : ℕ) (ds : List ℕ) → AreSmall (d ∷ ds) → AreSmall ds
tail_small d ds small k e lt = small (suc k) e (suc-le-suc lt)

pub after_small : (arg : SliceArg) (ds : List ℕ) → AreSmall ds → AreSmall (sizes_after arg ds)
after_small (Dummy m) ds small = small
after_small Whole [] small = small
after_small (One k) [] small = small
after_small (Dropped k) [] small = small
after_small (Span a b s) [] small = small
after_small Whole (d ∷ ds) small = tail_small d ds small
after_small (One k) (d ∷ ds) small = tail_small d ds small
after_small (Dropped k) (d ∷ ds) small = tail_small d ds small
after_small (Span a b s) (d ∷ ds) small = tail_small d ds small

-- the lines so far and those of the arguments that are left, at the next argument
pub arg_next : (all : Option (List slicing.Line)) (ls : List slicing.Line) (args : List SliceArg) (ds after : List ℕ) (i size : ℕ) (e : SliceArg)
    → i < length args → all ≡ lines_before ls (lines_of (drop i args) ds) → size ≡ size_for (get_or args i e) ds → after ≡ sizes_after (get_or args i e) ds
    → all ≡ lines_before ls (line_cons (line_of (get_or args i e) size) (lines_of (drop (i + 1) args) after))
arg_next all ls args ds after i size e lt h size_is after_is =
    h ∙ ap (lines_before ls)
    (ap (λ r. lines_of r ds) (drop-cons args i e lt)
    ∙ lines_of-step (get_or args i e) (drop (suc i) args) ds
    ∙ ap₂ (λ m r. line_cons (line_of (get_or args i e) m) (lines_of (drop (suc i) args) r)) (sym size_is) (sym after_is)
    ∙ ap (λ n. line_cons (line_of (get_or args i e) size) (lines_of (drop n args) after)) (sym (add-one i)))

-- an argument in range
pub arg_taken : (all : Option (List slicing.Line)) (ts us : List Taken) (t : Taken) (o : Option slicing.Line) (rest : Option (List slicing.Line))
    → all ≡ lines_before (lines_of_taken ts) (line_cons o rest) → Some (line_of_taken t) ≡ o → us ≡ ts ++ t ∷ [] → all ≡ lines_before (lines_of_taken us) rest
arg_taken all ts us t o rest h l us_is =
    h ∙ ap (λ q. lines_before (lines_of_taken ts) (line_cons q rest)) (sym l) ∙ lines_before-cons (lines_of_taken ts) (line_of_taken t) rest
    ∙ ap (λ r. lines_before r rest) (sym (map-append line_of_taken ts (t ∷ [])) ∙ ap lines_of_taken (sym us_is))
