-- What tokens become is found.
use Rattle.std.proofs.Common.{◌≡◌, ℕ, zero, suc, ◌<◌, ◌≤◌, Bool, true, false, not, List, [], ◌∷◌, ◌++◌, length, Option, Some, None, refl, ap, sym, ◌∙◌, subst, arith, append_assoc, length-append}
use Rattle.std.specs.Prelude.{codes}
use Rattle.pdl_nice.specs.declared.looks.Look.TheVariants.{Opens as opens, Shuts as shuts, Comma as comma, Colon as colon, Star as star}
use Rattle.pdl_nice.specs.declared.looks.Look.{Look}
use Rattle.pdl_lex.specs.Written.{Written}
use Rattle.pdl_nice.specs.Looks.{look, before_of, begins_nice}
use Rattle.pdl_nice.specs.declared.looks.Before.{Before}
use Rattle.pdl_nice.specs.declared.looks.Before.TheVariants.{Other as another}
use Rattle.pdl_nice.specs.Nice.{is_bar, is_star, is_level, is_value, inner_of, called, Part, Argument, Arguments, Becomes, AllBecome, done, stays, nice, no_more, and_then, nothing, something, whole, dropped, one, new, sized, span, stepped, last, more}
use Rattle.pdl_nice.specs.Reading.{Read, read, each, spanned, joined, front, is_colon, value_of, part_of, starred_of, simple_of, argument_at, arguments_at, reader}
use Rattle.std.proofs.lemmas.Bool.{and_parts as both}
use Rattle.pdl_nice.proofs.Options.{false_true}
use Rattle.pdl_nice.proofs.NiceCuts.{cut_found, bracketed_level, star_level, value_level, inner_found}

no_tokens : is_level [] [] ≡ true
unfolding is_level
no_tokens = refl

part_level : {p : List ℕ} {es : List (List Written)} {ws : List Written} → Part p es ws → is_level [] ws ≡ true
part_level nothing = no_tokens
part_level (something {ws = ws} v) = value_level ws v

value_found : (p : List ℕ) (ws : List Written) → is_value ws ≡ true → value_of p ws ≡ Some (read p (ws ∷ []))
value_found p ws v = rw v refl

part_found : {p : List ℕ} {es : List (List Written)} {ws : List Written} → Part p es ws → part_of ws ≡ Some (read p es)
unfolding part_of
part_found nothing = refl
part_found (something {ws = ws} v) = of_tokens ws v
  where
    of_tokens : (ws : List Written) → is_value ws ≡ true → part_of ws ≡ Some (read (codes "#") (ws ∷ []))
    of_tokens [] v = absurd (false_true v)
    of_tokens (w ∷ ws) v = value_found (codes "#") (w ∷ ws) v

pub simple_empty : simple_of [] ≡ Some (read [] [])
unfolding simple_of
simple_empty = refl

simple_star : (w : Written) (ws : List Written) (x : Read) → look w ≡ star → starred_of ws ≡ Some x → simple_of (w ∷ ws) ≡ Some x
unfolding simple_of
simple_star w ws x h k = rw h k

starred_found : (ws : List Written) → is_value ws ≡ true → starred_of ws ≡ Some (read (codes "*#") (ws ∷ []))
starred_found [] v = absurd (false_true v)
starred_found (w ∷ ws) v = value_found (codes "*#") (w ∷ ws) v

not_true : (b : Bool) → not b ≡ true → b ≡ false
not_true true e = absurd (false_true e)
not_true false e = refl

simple_one : (ws : List Written) → inner_of ws ≡ None → is_value ws ≡ true → simple_of ws ≡ Some (read (codes "#") (ws ∷ []))
unfolding simple_of
simple_one [] i v = absurd (false_true v)
simple_one (w ∷ ws) i v =
    let no_star = not_true (is_star (look w)) (both (not (is_star (look w))) (is_level [] (w ∷ ws)) v).0 in
    rw no_star (rw i (rw (value_level (w ∷ ws) v) refl))

simple_dropped : (o s : Written) (ws : List Written) → look o ≡ opens → look s ≡ shuts → is_value ws ≡ true →
    simple_of (o ∷ (ws ++ s ∷ [])) ≡ Some (read (codes "(#)") (ws ∷ []))
unfolding simple_of
simple_dropped o s ws ho hs v =
    let no_star : is_star (look o) ≡ false = ap is_star ho in
    rw no_star (rw (inner_found o s ws ho hs v) refl)

argument_simple : (ws : List Written) (c : Written) (rest : List Written) (x : Read) → is_level [] ws ≡ true → is_bar (look c) ≡ true →
    is_colon (look c) ≡ false → simple_of ws ≡ Some x → argument_at (ws ++ c ∷ rest) ≡ Some (front c rest x)
unfolding argument_at
argument_simple ws c rest x l b n h = rw (cut_found [] ws c rest l b) (rw n (rw h refl))

colon_bar : (l : Look) → l ≡ colon → is_bar l ≡ true
colon_bar l e = ap is_bar e

colon_is : (l : Look) → l ≡ colon → is_colon l ≡ true
colon_is l e = ap is_colon e

argument_span : (ws vs : List Written) (c e : Written) (rest : List Written) (p q : Read) → is_level [] ws ≡ true → look c ≡ colon → is_level [] vs ≡ true →
    is_bar (look e) ≡ true → is_colon (look e) ≡ false → part_of ws ≡ Some p → part_of vs ≡ Some q →
    argument_at (ws ++ c ∷ (vs ++ e ∷ rest)) ≡ Some (front e rest (spanned p q))
unfolding argument_at
argument_span ws vs c e rest p q l hc m b n hp hq =
    rw (cut_found [] ws c (vs ++ e ∷ rest) l (colon_bar (look c) hc)) (rw (colon_is (look c) hc) (rw hp
    (rw (cut_found [] vs e rest m b) (rw hq (rw n refl)))))

argument_stepped : (ws vs xs : List Written) (c d e : Written) (rest : List Written) (p q : Read) → is_level [] ws ≡ true → look c ≡ colon →
    is_level [] vs ≡ true → look d ≡ colon → is_value xs ≡ true → is_bar (look e) ≡ true → is_colon (look e) ≡ false →
    part_of ws ≡ Some p → part_of vs ≡ Some q →
    argument_at (ws ++ c ∷ (vs ++ d ∷ (xs ++ e ∷ rest))) ≡ Some (front e rest (spanned p (spanned q (read (codes "#") (xs ∷ [])))))
unfolding argument_at
argument_stepped ws vs xs c d e rest p q l hc m hd v b n hp hq =
    rw (cut_found [] ws c (vs ++ d ∷ (xs ++ e ∷ rest)) l (colon_bar (look c) hc)) (rw (colon_is (look c) hc) (rw hp
    (rw (cut_found [] vs d (xs ++ e ∷ rest) m (colon_bar (look d) hd)) (rw hq (rw (colon_is (look d) hd)
    (rw (cut_found [] xs e rest (value_level xs v) b) (rw n (rw v refl))))))))

argument_found : {p : List ℕ} {es : List (List Written)} {ws : List Written} → Argument p es ws → (c : Written) (rest : List Written) →
    is_bar (look c) ≡ true → is_colon (look c) ≡ false → argument_at (ws ++ c ∷ rest) ≡ Some (front c rest (read p es))
argument_found whole c rest b n = argument_simple [] c rest (read [] []) no_tokens b n simple_empty
argument_found (dropped {o = o} {ws = ws} s h v k) c rest b n =
    argument_simple (o ∷ (ws ++ s ∷ [])) c rest (read (codes "(#)") (ws ∷ [])) (bracketed_level o s ws h k (value_level ws v)) b n
    (simple_dropped o s ws h k v)
argument_found (one {ws = ws} h v) c rest b n =
    argument_simple ws c rest (read (codes "#") (ws ∷ [])) (value_level ws v) b n (simple_one ws h v)
argument_found (new {w = w} h) c rest b n =
    argument_simple (w ∷ []) c rest (read (codes "*") []) (star_level w [] h no_tokens) b n (simple_star w [] (read (codes "*") []) h refl)
argument_found (sized {w = w} {ws = ws} h v) c rest b n =
    argument_simple (w ∷ ws) c rest (read (codes "*#") (ws ∷ [])) (star_level w ws h (value_level ws v)) b n
    (simple_star w ws (read (codes "*#") (ws ∷ [])) h (starred_found ws v))
argument_found (span {ws = ws} {vs = vs} {p = p} {q = q} {es = es} {fs = fs} d h e k) c rest b n =
    subst (λ t. argument_at t ≡ Some (front c rest (read (p ++ 58 ∷ q) (es ++ fs)))) (sym (append_assoc ws (d ∷ vs) (c ∷ rest)))
    (argument_span ws vs d c rest (read p es) (read q fs) (part_level h) e (part_level k) b n (part_found h) (part_found k))
argument_found (stepped {ws = ws} {vs = vs} {p = p} {q = q} {es = es} {fs = fs} d x xs h e k i v) c rest b n =
    subst (λ t. argument_at t ≡ Some (front c rest (read (p ++ 58 ∷ (q ++ codes ":#")) (es ++ (fs ++ xs ∷ [])))))
    (ap (λ r. ws ++ d ∷ r) (sym (append_assoc vs (x ∷ xs) (c ∷ rest))) ∙ sym (append_assoc ws (d ∷ (vs ++ x ∷ xs)) (c ∷ rest)))
    (argument_stepped ws vs xs d x c rest (read p es) (read q fs) (part_level h) e (part_level k) i v b n (part_found h) (part_found k))

arguments_last : (k : ℕ) (ts : List Written) (c : Written) (rest : List Written) (x : Read) → look c ≡ shuts →
    argument_at ts ≡ Some (front c rest x) → arguments_at (suc k) ts ≡ Some (front c rest x)
unfolding arguments_at
arguments_last k ts c rest x s h = rw h (rw s refl)

arguments_more : (k : ℕ) (ts us : List Written) (c d : Written) (rest : List Written) (x y : Read) → look c ≡ comma →
    argument_at ts ≡ Some (front c us x) → arguments_at k us ≡ Some (front d rest y) →
    arguments_at (suc k) ts ≡ Some (front d rest (joined x y))
unfolding arguments_at
arguments_more k ts us c d rest x y s h i = rw h (rw s (rw i refl))

arguments_found : {p : List ℕ} {es : List (List Written)} {ws : List Written} → Arguments p es ws → (k : ℕ) → length ws < k →
    (c : Written) (rest : List Written) → look c ≡ shuts → arguments_at k (ws ++ c ∷ rest) ≡ Some (front c rest (read p es))
arguments_found h zero lt c rest s = absurd (omega arith)
arguments_found (last {ws = ws} {p = p} {es = es} h) (suc k) lt c rest s =
    arguments_last k (ws ++ c ∷ rest) c rest (read p es) s (argument_found h c rest (ap is_bar s) (ap is_colon s))
arguments_found (more {ws = ws} {vs = vs} {p = p} {q = q} {es = es} {fs = fs} d h e i) (suc k) lt c rest s =
    let sum = length-append ws (d ∷ vs) in
    subst (λ t. arguments_at (suc k) t ≡ Some (front c rest (read (p ++ 44 ∷ q) (es ++ fs)))) (sym (append_assoc ws (d ∷ vs) (c ∷ rest)))
    (arguments_more k (ws ++ d ∷ (vs ++ c ∷ rest)) (vs ++ c ∷ rest) d c rest (read p es) (read q fs) e
    (argument_found h d (vs ++ c ∷ rest) (ap is_bar e) (ap is_colon e)) (arguments_found i k (omega (arith, sum, lt)) c rest s))

-- expressions are no longer than the tokens that they stand in
pub AllWithin : List (List Written) → ℕ → Type 0
AllWithin [] n = Unit {0}
AllWithin (e ∷ es) n = (length e ≤ n) × AllWithin es n

within_more : (es : List (List Written)) (m n : ℕ) → m ≤ n → AllWithin es m → AllWithin es n
unfolding AllWithin
within_more [] m n le h = tt
within_more (e ∷ es) m n le h = let a = h.0 in (omega (arith, a, le), within_more es m n le h.1)

within_both : (es fs : List (List Written)) (n : ℕ) → AllWithin es n → AllWithin fs n → AllWithin (es ++ fs) n
unfolding AllWithin
within_both [] fs n h k = k
within_both (e ∷ es) fs n h k = (h.0, within_both es fs n h.1 k)

within_one : (e : List Written) (n : ℕ) → length e ≤ n → AllWithin (e ∷ []) n
unfolding AllWithin
within_one e n h = (h, tt)

within_none : (n : ℕ) → AllWithin [] n
unfolding AllWithin
within_none n = tt

part_within : {p : List ℕ} {es : List (List Written)} {ws : List Written} → Part p es ws → AllWithin es (length ws)
part_within nothing = within_none 0
part_within (something {ws = ws} v) = within_one ws (length ws) (omega arith)

argument_within : {p : List ℕ} {es : List (List Written)} {ws : List Written} → Argument p es ws → AllWithin es (length ws)
argument_within whole = within_none 0
argument_within (dropped {o = o} {ws = ws} s h v k) = let sum = length-append ws (s ∷ []) in within_one ws (length (o ∷ (ws ++ s ∷ []))) (omega (arith, sum))
argument_within (one {ws = ws} h v) = within_one ws (length ws) (omega arith)
argument_within (new h) = within_none 1
argument_within (sized {w = w} {ws = ws} h v) = within_one ws (length (w ∷ ws)) (omega arith)
argument_within (span {ws = ws} {vs = vs} {es = es} {fs = fs} c h e k) =
    let sum = length-append ws (c ∷ vs) in
    within_both es fs (length (ws ++ c ∷ vs)) (within_more es (length ws) (length (ws ++ c ∷ vs)) (omega (arith, sum)) (part_within h))
    (within_more fs (length vs) (length (ws ++ c ∷ vs)) (omega (arith, sum)) (part_within k))
argument_within (stepped {ws = ws} {vs = vs} {es = es} {fs = fs} c d xs h e k i v) =
    let sum = length-append ws (c ∷ (vs ++ d ∷ xs)) in
    let sum2 = length-append vs (d ∷ xs) in
    let all = length (ws ++ c ∷ (vs ++ d ∷ xs)) in
    within_both es (fs ++ xs ∷ []) (length (ws ++ c ∷ (vs ++ d ∷ xs))) (within_more es (length ws) (length (ws ++ c ∷ (vs ++ d ∷ xs))) (omega (arith, sum)) (part_within h))
    (within_both fs (xs ∷ []) (length (ws ++ c ∷ (vs ++ d ∷ xs))) (within_more fs (length vs) (length (ws ++ c ∷ (vs ++ d ∷ xs))) (omega (arith, sum, sum2)) (part_within k))
    (within_one xs (length (ws ++ c ∷ (vs ++ d ∷ xs))) (omega (arith, sum, sum2))))

pub arguments_within : {p : List ℕ} {es : List (List Written)} {ws : List Written} → Arguments p es ws → AllWithin es (length ws)
arguments_within (last h) = argument_within h
arguments_within (more {ws = ws} {vs = vs} {es = es} {fs = fs} c h e k) =
    let sum = length-append ws (c ∷ vs) in
    within_both es fs (length (ws ++ c ∷ vs)) (within_more es (length ws) (length (ws ++ c ∷ vs)) (omega (arith, sum)) (argument_within h))
    (within_more fs (length vs) (length (ws ++ c ∷ vs)) (omega (arith, sum)) (arguments_within k))

pub each_none : (f : List Written → Option (List Written)) → each f [] ≡ Some []
unfolding each
each_none f = refl

each_more : (f : List Written → Option (List Written)) (e u : List Written) (es us : List (List Written)) → f e ≡ Some u → each f es ≡ Some us →
    each f (e ∷ es) ≡ Some (u ∷ us)
unfolding each
each_more f e u es us h k = rw h (rw k refl)

read_done : (n : ℕ) (b : Before) → reader (suc n) b [] ≡ Some []
unfolding reader
read_done n b = refl

read_stays : (n : ℕ) (b : Before) (w : Written) (ws us : List Written) → begins_nice b (look w) ≡ false →
    reader n (before_of (look w)) ws ≡ Some us → reader (suc n) b (w ∷ ws) ≡ Some (w ∷ us)
unfolding reader
read_stays n b w ws us h k = rw h (rw k refl)

read_nice : (n : ℕ) (b : Before) (w : Written) (ts : List Written) (s : Written) (rest us : List Written) (x : Read) (vs : List (List Written)) →
    begins_nice b (look w) ≡ true → arguments_at n ts ≡ Some (front s rest x) → each (reader n another) x.values ≡ Some vs →
    reader n another rest ≡ Some us → reader (suc n) b (w ∷ ts) ≡ Some (called b w.gap x.pattern vs ++ us)
unfolding reader
read_nice n b w ts s rest us x vs h k e l = rw h (rw k (rw e (rw l refl)))

pub within_head : (e : List Written) (es : List (List Written)) (n : ℕ) → AllWithin (e ∷ es) n → (length e ≤ n) × AllWithin es n
unfolding AllWithin
within_head e es n h = h

mutual
  pub complete : {b : Before} {ws us : List Written} → Becomes b ws us → (n : ℕ) → length ws < n → reader n b ws ≡ Some us
  complete h zero lt = absurd (omega arith)
  complete (done {b = b}) (suc n) lt = read_done n b
  complete (stays {b = b} {w = w} {ws = ws} {us = us} h k) (suc n) lt = read_stays n b w ws us h (complete k n (omega arith))
  complete (nice {b = b} {o = o} {inside = inside} {ws = ws} {us = us} {p = p} {es = es} {vs = vs} s h a e k l) (suc n) lt =
      let sum = length-append inside (s ∷ ws) in
      read_nice n b o (inside ++ s ∷ ws) s ws us (read p es) vs h (arguments_found a n (omega (arith, sum)) s ws e)
      (all_complete k n (length inside) (arguments_within a) (omega (arith, sum))) (complete l n (omega (arith, sum)))

  all_complete : {es us : List (List Written)} → AllBecome es us → (n m : ℕ) → AllWithin es m → m < n → each (reader n another) es ≡ Some us
  all_complete no_more n m w lt = each_none (reader n another)
  all_complete (and_then {e = e} {u = u} {es = es} {us = us} h k) n m w lt =
      let both = within_head e es m w in
      let le = both.0 in
      each_more (reader n another) e u es us (complete h n (omega (arith, le, lt))) (all_complete k n m both.1 lt)

pub reader_complete : (ws us : List Written) → Becomes another ws us → reader (suc (length ws)) another ws ≡ Some us
reader_complete ws us h = complete h (suc (length ws)) (omega arith)
