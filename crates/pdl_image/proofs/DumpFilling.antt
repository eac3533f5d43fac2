-- Parts of lines and lines, by as many members as were looked at.
use Rattle.std.proofs.Common.{◌≡◌, ℕ, zero, suc, ◌+◌, ◌-◌, ◌*◌, ◌<◌, Bool, true, false, cond, List, [], ◌∷◌, ◌++◌, length, take, drop, get_or, map, ℤ, pos, ◌^◌, refl, ap, ap₂, sym, ◌∙◌, subst, arith, append_assoc}
use Rattle.std.specs.Prelude.{flat_map, ◌||◌, Result, Ok, Err, codes, decimal}
use Rattle.std.specs.Result.{IsErrAnd}
use Rattle.std.specs.List.{list_any, range_with_len}
use Rattle.std.proofs.lemmas.Grind.{flat_map-append}
use Rattle.std.proofs.lemmas.List.{take_more, map-append, append-nil, length-take-le, length-take}
use Rattle.std.proofs.lemmas.List.FromFn.{map-range_with_len_more}
use Rattle.pdl_slices.specs.declared.SliceArg.{SliceArg}
use Rattle.pdl_slices.specs.Written.{arg_text, more_text as more_args_text}
use Rattle.pdl_choice.specs.Where.{is_set}
use Rattle.pdl_elem.specs.declared.Ty.{Ty}
use Rattle.pdl_world.specs.declared.Trans.{Trans}
use Rattle.pdl_world.specs.declared.Trans.TheVariants as trans
use Rattle.pdl_image.specs.declared.ImageFault.{ImageFault}
use Rattle.pdl_image.specs.declared.TheConstants.{PIECE}
use Rattle.pdl_image.specs.Lines.{Line, least_line, numbers_text, piece_line, root_line, undef_line, line_text}
use Rattle.pdl_image.specs.Dump.{as_listed, is_least, filling_lines, given_lines, least_lines, piece_count, piece_lines, root_lines, undef_lines, view_lines}
use Rattle.pdl_image.specs.Stems.{name_at}
use Rattle.pdl_image.specs.Adding.{Adds, bytes_to}
use Rattle.pdl_image.proofs.AddingLemmas.{adds_first, adds_then}

-- ---- texts of members, each behind a comma

more_args-append : (args : List SliceArg) (a : SliceArg) → more_args_text (args ++ a ∷ []) ≡ more_args_text args ++ 44 ∷ arg_text a
more_args-append [] a = append-nil (44 ∷ arg_text a)
more_args-append (b ∷ args) a =
    ap (λ t. 44 ∷ (arg_text b ++ t)) (more_args-append args a)
    ∙ ap (λ t. 44 ∷ t) (sym (append_assoc (arg_text b) (more_args_text args) (44 ∷ arg_text a)))

pub arg_more : (old line comma new : List ℕ) (args : List SliceArg) (i : ℕ) (d : SliceArg) → i < length args
    → line ≡ old ++ more_args_text (take i args) → comma ≡ line ++ 44 ∷ [] → new ≡ comma ++ arg_text (get_or args i d)
    → new ≡ old ++ more_args_text (take (i + 1) args)
arg_more old line comma new args i d within before behind pushed =
    let a : SliceArg = get_or args i d in
    pushed ∙ ap (λ t. t ++ arg_text a) (behind ∙ ap (λ t. t ++ 44 ∷ []) before)
    ∙ append_assoc (old ++ more_args_text (take i args)) (44 ∷ []) (arg_text a)
    ∙ append_assoc old (more_args_text (take i args)) (44 ∷ arg_text a)
    ∙ ap (λ t. old ++ t) (sym (more_args-append (take i args) a))
    ∙ ap (λ t. old ++ more_args_text t) (sym (take_more args i d within))

-- ---- parts of lists

-- a list by its first ones and the others
parted : (xs : List ℤ) (n : ℕ) → xs ≡ take n xs ++ drop n xs
parted [] zero = refl
parted [] (suc n) = refl
parted (x ∷ xs) zero = refl
parted (x ∷ xs) (suc n) = ap (λ t. x ∷ t) (parted xs n)

-- a range in two parts
pub range_parts : (from n m k : ℕ) → k ≡ n + m → range_with_len from k ≡ range_with_len from n ++ range_with_len (from + n) m
range_parts from zero m k e = ap₂ (λ (a b : ℕ). range_with_len a b) (from_zero from) (zero_left m k e)
  where
    from_zero : (a : ℕ) → a ≡ a + 0
    from_zero a = omega arith

    zero_left : (m k : ℕ) → k ≡ 0 + m → k ≡ m
    zero_left m k e = omega arith
range_parts from (suc n) m zero e = absurd (omega arith)
range_parts from (suc n) m (suc k) e =
    ap (λ t. from ∷ t) (range_parts (from + 1) n m k (less n m k e)
    ∙ ap (λ (a : ℕ). range_with_len (from + 1) n ++ range_with_len a m) (moved from n))
  where
    less : (n m k : ℕ) → suc k ≡ suc n + m → k ≡ n + m
    less n m k e = omega arith

    moved : (a n : ℕ) → a + 1 + n ≡ a + suc n
    moved a n = omega arith

-- what is made of the first n + 1 numbers
pub range_more : {A : Type 0} (f : ℕ → List A) (n : ℕ) → flat_map f (range_with_len 0 (n + 1)) ≡ flat_map f (range_with_len 0 n) ++ f n
range_more f n =
    ap (flat_map f) (range_parts 0 n 1 (n + 1) refl)
    ∙ flat_map-append f (range_with_len 0 n) (range_with_len (0 + n) 1)
    ∙ ap (λ t. flat_map f (range_with_len 0 n) ++ t) (append-nil (f (0 + n)))
    ∙ ap (λ (k : ℕ). flat_map f (range_with_len 0 n) ++ f k) (zero_left n)
  where
    zero_left : (n : ℕ) → 0 + n ≡ n
    zero_left n = omega arith

-- what is made of n numbers, by the first of them and the others
pub range_rest : {A : Type 0} (f : ℕ → List A) (j n : ℕ) → j < n
    → flat_map f (range_with_len 0 n) ≡ (flat_map f (range_with_len 0 j) ++ f j) ++ flat_map f (range_with_len (j + 1) (n - (j + 1)))
range_rest f j n below =
    ap (flat_map f) (range_parts 0 (j + 1) (n - (j + 1)) n (omega arith))
    ∙ flat_map-append f (range_with_len 0 (j + 1)) (range_with_len (0 + (j + 1)) (n - (j + 1)))
    ∙ ap₂ (λ s (k : ℕ). s ++ flat_map f (range_with_len k (n - (j + 1)))) (range_more f j) (zero_left (j + 1))
  where
    zero_left : (n : ℕ) → 0 + n ≡ n
    zero_left n = omega arith

-- ---- lines of least numbers

cond_append : {A : Type 0} (b : Bool) (x : A) (xs ys : List A) → cond b (x ∷ (xs ++ ys)) (xs ++ ys) ≡ cond b (x ∷ xs) xs ++ ys
cond_append true x xs ys = refl
cond_append false x xs ys = refl

pub least-append : (name : List ℕ) (first : ℕ) (xs ys : List ℤ) → least_lines name first (xs ++ ys) ≡ least_lines name first xs ++ least_lines name (first + length xs) ys
least-append name first [] ys = ap (λ (k : ℕ). least_lines name k ys) (from_zero first)
  where
    from_zero : (a : ℕ) → a ≡ a + 0
    from_zero a = omega arith
least-append name first (n ∷ xs) ys =
    let b : Bool = is_least n in
    let l : Line = least_line name first in
    let front : List Line = least_lines name (first + 1) xs in
    ap (λ t. cond b (l ∷ t) t) (least-append name (first + 1) xs ys)
    ∙ cond_append b l front (least_lines name (first + 1 + length xs) ys)
    ∙ ap (λ (k : ℕ). cond b (l ∷ front) front ++ least_lines name k ys) (moved first (length xs))
  where
    moved : (a n : ℕ) → a + 1 + n ≡ a + suc n
    moved a n = omega arith

-- the lines of one number more
pub least_more : (name : List ℕ) (first : ℕ) (ns : List ℤ) (i : ℕ) (d : ℤ) → i < length ns
    → least_lines name first (take (i + 1) ns) ≡ least_lines name first (take i ns) ++ least_lines name (first + i) (get_or ns i d ∷ [])
least_more name first ns i d within =
    ap (least_lines name first) (take_more ns i d within)
    ∙ least-append name first (take i ns) (get_or ns i d ∷ [])
    ∙ ap (λ (k : ℕ). least_lines name first (take i ns) ++ least_lines name (first + k) (get_or ns i d ∷ [])) (length-take-le i ns (omega arith))

-- ---- lines of given numbers

pub given_some : (name : List ℕ) (first : ℕ) (ns : List ℤ) → list_any is_set ns ≡ true
    → (n : ℤ) × ((more : List ℤ) × ((ns ≡ n ∷ more) × (given_lines name first ns ≡ piece_line name first (first + length more) n more ∷ [])))
given_some name first [] e = absurd (wrong e)
  where
    wrong : false ≡ true → ⊥
    wrong e = cc
given_some name first (n ∷ ns) e =
    (n, (ns, (refl, ap (λ b. cond b (piece_line name first (first + length ns) n ns ∷ []) []) e)))

pub given_none : (name : List ℕ) (first : ℕ) (ns : List ℤ) → list_any is_set ns ≡ false → given_lines name first ns ≡ []
given_none name first [] e = refl
given_none name first (n ∷ ns) e = ap (λ b. cond b (piece_line name first (first + length ns) n ns ∷ []) []) e

-- some number isn't 0 as it stands in a list
pub any_listed : (ns : List ℤ) → list_any (λ n. is_set (as_listed n)) ns ≡ list_any is_set (map as_listed ns)
any_listed [] = refl
any_listed (n ∷ ns) = ap (λ (b : Bool). is_set (as_listed n) || b) (any_listed ns)

-- ---- ends of names

pub undef_more : (stem : List ℕ) (k : ℕ) → undef_lines stem (k + 1) ≡ undef_lines stem k ++ undef_line (name_at stem k) ∷ []
undef_more stem k = map-range_with_len_more (λ (j : ℕ). undef_line (name_at stem j)) 0 k k (omega arith)

pub undef_rest : (stem : List ℕ) (j n : ℕ) → j < n
    → undef_lines stem n ≡ (undef_lines stem j ++ undef_line (name_at stem j) ∷ []) ++ map (λ k. undef_line (name_at stem k)) (range_with_len (j + 1) (n - (j + 1)))
undef_rest stem j n below =
    ap (map (λ k. undef_line (name_at stem k))) (range_parts 0 (j + 1) (n - (j + 1)) n (omega arith))
    ∙ map-append (λ k. undef_line (name_at stem k)) (range_with_len 0 (j + 1)) (range_with_len (0 + (j + 1)) (n - (j + 1)))
    ∙ ap₂ (λ s (k : ℕ). s ++ map (λ i. undef_line (name_at stem i)) (range_with_len k (n - (j + 1)))) (undef_more stem j) (zero_left (j + 1))
  where
    zero_left : (n : ℕ) → 0 + n ≡ n
    zero_left n = omega arith

-- ---- appending, in loops

-- an error that is handed on
pub passed_on : (old new : List ℕ) (lines : List Line) (r : Result (Unit {0}) ImageFault) (e : ImageFault) → IsErrAnd r (λ f. f ≡ e) → Adds old new lines (Err e) → Adds old new lines r
passed_on old new lines (Ok u) e is added = absurd is
passed_on old new lines (Err f) e is added = subst (λ g. Adds old new lines (Err g)) (sym is) added

-- the lines of one number more of those before it
pub least_added : (old mid new name : List ℕ) (first : ℕ) (ns : List ℤ) (i : ℕ) (n : ℤ) (u : Unit {0}) → i < length ns → n ≡ get_or ns i (pos 0)
    → Adds old mid (least_lines name first (take i ns)) (Ok tt) → Adds mid new (least_lines name (first + i) (n ∷ [])) (Ok u)
    → Adds old new (least_lines name first (take (i + 1) ns)) (Ok tt)
least_added old mid new name first ns i n u within is before added =
    subst (λ ls. Adds old new ls (Ok tt)) (ap (λ m. least_lines name first (take i ns) ++ least_lines name (first + i) (m ∷ [])) is ∙ sym (least_more name first ns i (pos 0) within))
    (adds_then old mid new (least_lines name first (take i ns)) (least_lines name (first + i) (n ∷ [])) tt (Ok u) before added)

pub least_refused : (old mid new name : List ℕ) (first : ℕ) (ns : List ℤ) (i : ℕ) (n : ℤ) (e : ImageFault) → i < length ns → n ≡ get_or ns i (pos 0)
    → Adds old mid (least_lines name first (take i ns)) (Ok tt) → Adds mid new (least_lines name (first + i) (n ∷ [])) (Err e)
    → Adds old new (least_lines name first ns) (Err e)
least_refused old mid new name first ns i n e within is before refused =
    let front : List Line = least_lines name first (take i ns) in
    let one : List Line = least_lines name (first + i) (n ∷ []) in
    let rest : List Line = least_lines name (first + length (take (i + 1) ns)) (drop (i + 1) ns) in
    let whole : least_lines name first ns ≡ (front ++ one) ++ rest =
    ap (least_lines name first) (parted ns (i + 1)) ∙ least-append name first (take (i + 1) ns) (drop (i + 1) ns)
    ∙ ap (λ ls. ls ++ rest) (least_more name first ns i (pos 0) within ∙ ap (λ m. front ++ least_lines name (first + i) (m ∷ [])) (sym is)) in
    subst (λ ls. Adds old new ls (Err e)) (sym whole)
    (adds_first old new (front ++ one) rest e (adds_then old mid new front one tt (Err e) before refused))

-- the lines of one piece more
pub piece_added : (old mid new name : List ℕ) (ty : Ty) (ds : List ℕ) (es : List ℤ) (k : ℕ) (ns : List ℤ) (u : Unit {0}) → ns ≡ take PIECE (drop (PIECE * k) es)
    → Adds old mid (root_line name ty ds ∷ flat_map (piece_lines name es) (range_with_len 0 k)) (Ok tt) → Adds mid new (filling_lines name (PIECE * k) ns) (Ok u)
    → Adds old new (root_line name ty ds ∷ flat_map (piece_lines name es) (range_with_len 0 (k + 1))) (Ok tt)
piece_added old mid new name ty ds es k ns u is before added =
    let front : List Line = root_line name ty ds ∷ flat_map (piece_lines name es) (range_with_len 0 k) in
    subst (λ ls. Adds old new ls (Ok tt)) (ap (λ ms. front ++ filling_lines name (PIECE * k) ms) is ∙ ap (λ ls. root_line name ty ds ∷ ls) (sym (range_more (piece_lines name es) k)))
    (adds_then old mid new front (filling_lines name (PIECE * k) ns) tt (Ok u) before added)

pub piece_refused : (old mid new name : List ℕ) (ty : Ty) (ds : List ℕ) (es : List ℤ) (k : ℕ) (ns : List ℤ) (e : ImageFault) → k < piece_count (length es) → ns ≡ take PIECE (drop (PIECE * k) es)
    → Adds old mid (root_line name ty ds ∷ flat_map (piece_lines name es) (range_with_len 0 k)) (Ok tt) → Adds mid new (filling_lines name (PIECE * k) ns) (Err e)
    → Adds old new (root_lines name ty ds es) (Err e)
piece_refused old mid new name ty ds es k ns e below is before refused =
    let f : ℕ → List Line = piece_lines name es in
    let front : List Line = root_line name ty ds ∷ flat_map f (range_with_len 0 k) in
    let one : List Line = filling_lines name (PIECE * k) ns in
    let rest : List Line = flat_map f (range_with_len (k + 1) (piece_count (length es) - (k + 1))) in
    let whole : root_lines name ty ds es ≡ (front ++ one) ++ rest =
    ap (λ ls. root_line name ty ds ∷ ls) (range_rest f k (piece_count (length es)) below)
    ∙ ap (λ ms. (front ++ filling_lines name (PIECE * k) ms) ++ rest) (sym is) in
    subst (λ ls. Adds old new ls (Err e)) (sym whole)
    (adds_first old new (front ++ one) rest e (adds_then old mid new front one tt (Err e) before refused))

-- a piece and its place are small
pub piece_small : (es ns : List ℤ) (k : ℕ) → ns ≡ take PIECE (drop (PIECE * k) es) → k < piece_count (length es) → length es < 2 ^ 31 → PIECE * k + length ns < 2 ^ 32
piece_small es ns k is below small = omega (arith, ap length is, length-take PIECE (drop (PIECE * k) es))

-- the line of one name more
pub undef_added : (old mid new stem : List ℕ) (k : ℕ) (name : List ℕ) (u : Unit {0}) → name ≡ name_at stem k
    → Adds old mid (undef_lines stem k) (Ok tt) → Adds mid new (undef_line name ∷ []) (Ok u) → Adds old new (undef_lines stem (k + 1)) (Ok tt)
undef_added old mid new stem k name u is before added =
    subst (λ ls. Adds old new ls (Ok tt)) (ap (λ n. undef_lines stem k ++ undef_line n ∷ []) is ∙ sym (undef_more stem k))
    (adds_then old mid new (undef_lines stem k) (undef_line name ∷ []) tt (Ok u) before added)

pub undef_refused : (old mid new stem : List ℕ) (k count : ℕ) (name : List ℕ) (e : ImageFault) → k < count → name ≡ name_at stem k
    → Adds old mid (undef_lines stem k) (Ok tt) → Adds mid new (undef_line name ∷ []) (Err e) → Adds old new (undef_lines stem count) (Err e)
undef_refused old mid new stem k count name e below is before refused =
    let one : List Line = undef_line name ∷ [] in
    let rest : List Line = map (λ j. undef_line (name_at stem j)) (range_with_len (k + 1) (count - (k + 1))) in
    let whole : undef_lines stem count ≡ (undef_lines stem k ++ one) ++ rest =
    undef_rest stem k count below ∙ ap (λ n. (undef_lines stem k ++ undef_line n ∷ []) ++ rest) (sym is) in
    subst (λ ls. Adds old new ls (Err e)) (sym whole)
    (adds_first old new (undef_lines stem k ++ one) rest e (adds_then old mid new (undef_lines stem k) one tt (Err e) before refused))

-- ---- one piece's line

regroup : (a b c d e f g h : List ℕ) → ((((((a ++ b) ++ c) ++ d) ++ e) ++ f) ++ g) ++ h ≡ a ++ (b ++ (c ++ (d ++ (e ++ (f ++ (g ++ (h ++ [])))))))
regroup a b c d e f g h = simp (append_assoc, append-nil)

-- the text by its parts, each appended to those before it
pub piece_text : (begun colon counted opened listed new name : List ℕ) (first last : ℕ) (ns : List ℤ)
    → begun ≡ (name ++ codes "->flat->slice(\"") ++ decimal first → colon ≡ begun ++ 58 ∷ [] → counted ≡ colon ++ decimal last
    → opened ≡ counted ++ codes "\") .= pdl [" → listed ≡ opened ++ numbers_text ns → new ≡ listed ++ 93 ∷ [] → new ≡ bytes_to name first last ns
piece_text begun colon counted opened listed new name first last ns begin one two three four five =
    five ∙ ap (λ t. t ++ 93 ∷ []) (four ∙ ap (λ t. t ++ numbers_text ns)
    (three ∙ ap (λ t. t ++ codes "\") .= pdl [") (two ∙ ap (λ t. t ++ decimal last) (one ∙ ap (λ t. t ++ 58 ∷ []) begin))))
    ∙ regroup name (codes "->flat->slice(\"") (decimal first) (58 ∷ []) (decimal last) (codes "\") .= pdl [") (numbers_text ns) (93 ∷ [])

pub piece_is : (name : List ℕ) (first count : ℕ) (ns : List ℤ) (n : ℤ) (more : List ℤ) → length ns ≡ count → ns ≡ n ∷ more
    → bytes_to name first (first + count - 1) ns ≡ line_text (piece_line name first (first + length more) n more)
piece_is name first count ns n more long is =
    ap (λ (k : ℕ). bytes_to name first (first + k - 1) ns) (sym long)
    ∙ ap (λ ms. bytes_to name first (first + length ms - 1) ms) is
    ∙ ap (λ (k : ℕ). bytes_to name first k (n ∷ more)) (last first (length more))
  where
    last : (a m : ℕ) → a + suc m - 1 ≡ a + m
    last a m = omega arith

-- a view has a line
pub view_some : (name parent index : List ℕ) (t : Trans) → (l : Line) × ((more : List Line) × (view_lines name parent index t ≡ l ∷ more))
view_some name parent index (trans.Affine t) = (_, (_, refl))
view_some name parent index (trans.Index dims ind) = (_, (_, refl))
view_some name parent index (trans.Where dims places) = (_, (_, refl))
view_some name parent index (trans.Range dims ind sizes edge) = (_, (_, refl))
