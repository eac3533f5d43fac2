-- The courses of slice arguments, and that what these take fits.
use Rattle.std.proofs.Common.{◌≡◌, ℕ, zero, suc, ◌+◌, ◌-◌, ◌*◌, ◌/◌, ◌<◌, ◌≤◌, max, Bool, true, false, ◌&&◌, List, [], ◌∷◌, map, length, drop, get_or, Option, Some, None, option_map, option_and_then, is_none, ℤ, pos, negsuc, ◌+ℤ◌, ◌*ℤ◌, nat_lt, nat_le, ◌==◌, if◌then◌else◌, refl, sym, ap, ◌∙◌, subst, arith, add-zero, suc-le-suc, get_or-take}
use Rattle.std.proofs.Math.Nat.{mul-le-mul_left}
use Rattle.std.proofs.lemmas.Bool.Decides.{nat_tests}
use Rattle.std.proofs.lemmas.Int.{ints}
use Rattle.std.proofs.lemmas.List.{length-map, get_or-map, get_or-drop}
use Rattle.std.proofs.lemmas.Bool.{leb-true, leb-false}
use Rattle.pdl_shape.specs.Laws.{PositionLaws}
use Rattle.pdl_shape.specs.Shape.{IsWithin}
use Rattle.pdl_slices.specs.declared.SliceArg.{SliceArg}
use Rattle.pdl_slices.specs.declared.SliceArg.TheVariants.{Whole, One, Dropped, Dummy, Span}
use Rattle.pdl_affine.specs.declared.forms.Course.{Course}
use Rattle.pdl_shape.specs.Counting.{from_end}
use Rattle.pdl_affine.specs.Slicing.{Line, kept, lost, added, falls, distance, span_line, end_of, spanned, line_of, line_cons, lines_of, line_sizes, line_sources, stepped}
use Rattle.pdl_affine.specs.Views.{sliced, form_source}
use Rattle.pdl_affine.specs.Courses.{filled, Fits, FitAll, IsCourse, course_at, still, size_for, sizes_after}
use Rattle.pdl_affine.proofs.SlicingLines.{lines_of-step}
use Rattle.pdl_affine.proofs.CourseSources.{at_within}
use Rattle.pdl_affine.proofs.ViewPicks.{fixed}

-- what one line takes of a dimension fits it
abbrev pub LineFits : Line → ℕ → Type 0
LineFits (kept f s m) d = Fits f s m d
LineFits (lost f) d = f < d
LineFits (added m) d = ⊥

-- steps that rise
rising : (a m s d : ℕ) → a < d → ((c : ℕ) → c < max m 1 → a + s * c < d) → Fits a (pos s) m d
rising a m s d h below = record {
  line = λ c l. omega (arith, ints);
  small = λ c l. omega (arith, below c l);
  empty = λ e. absurd (omega (arith, h));
}

-- steps that fall
falling : (a m s d : ℕ) → a < d → ((c : ℕ) → c < max m 1 → suc s * c ≤ a) → Fits a (negsuc s) m d
falling a m s d h above = record {
  line = λ c l. let k = above c l in less a (suc s * c) s c refl k;
  small = λ c l. omega (arith, h);
  empty = λ e. absurd (omega (arith, h));
} where
  less : (a n s c : ℕ) → n ≡ suc s * c → n ≤ a → pos (a - n) ≡ pos a +ℤ (negsuc s *ℤ pos c)
  less a n s c e k = omega (arith, ints)

pub whole_fits : (d : ℕ) → Fits 0 (pos 1) d d
whole_fits d = record {
  line = λ c l. omega (arith, ints);
  small = λ c l. omega (arith, l);
  empty = λ e. e;
}

-- as many steps as go into a distance
steps_within : (s c e : ℕ) → c < max (e / s + 1) 1 → s * c ≤ e
steps_within zero c e l = omega arith
steps_within (suc s) c e l = let m : suc s * c ≤ suc s * (e / suc s) = mul-le-mul_left (suc s) (omega (arith, l)) in omega (arith, m)

span_fits : (a b : ℕ) (step : Option ℤ) (d : ℕ) → a < d → b < d → LineFits (span_line a b step) d
span_fits a b None d h k = by_order (nat_le a b) refl where
  by_order : (t : Bool) → nat_le a b ≡ t → Fits a (if t then pos 1 else negsuc 0) (distance a b + 1) d
  by_order true e = rising a (distance a b + 1) 1 d h (λ c l. omega (arith, l, k, leb-true a b e))
  by_order false e = falling a (distance a b + 1) 0 d h (λ c l. omega (arith, l, leb-false a b e))
span_fits a b (Some (pos s)) d h k = by_order (nat_le a b) refl where
  by_order : (t : Bool) → nat_le a b ≡ t → Fits a (pos s) (if t then distance a b / s + 1 else 0) d
  by_order true e = rising a (distance a b / s + 1) s d h (λ c l. omega (arith, k, leb-true a b e, steps_within s c (distance a b) l))
  by_order false e = rising a 0 s d h (λ c l. let z : c ≡ 0 = omega (arith, l) in subst (λ n. a + s * n < d) (sym z) (omega (arith, h)))
span_fits a b (Some (negsuc s)) d h k = by_order (nat_le b a) refl where
  by_order : (t : Bool) → nat_le b a ≡ t → Fits a (negsuc s) (if t then distance a b / suc s + 1 else 0) d
  by_order true e = falling a (distance a b / suc s + 1) s d h (λ c l. omega (arith, leb-true b a e, steps_within (suc s) c (distance a b) l))
  by_order false e = falling a 0 s d h (λ c l. let z : c ≡ 0 = omega (arith, l) in subst (λ n. suc s * n ≤ a) (sym z) (omega arith))

-- a place by its number is there
pub counted_inside : (k : ℤ) (n i : ℕ) → from_end k n ≡ Some i → i < n
counted_inside (pos k) n i h = inside k n i h where
  inside : (k n i : ℕ) → (if nat_lt k n then Some k else None) ≡ Some i → i < n
  inside k n i h = grind (arith, nat_tests)
counted_inside (negsuc k) n i h = inside k n i h where
  inside : (k n i : ℕ) → (if nat_lt k n then Some (n - suc k) else None) ≡ Some i → i < n
  inside k n i h = grind (arith, nat_tests)

mapped : (o : Option ℕ) (g : ℕ → Line) (l : Line) → option_map g o ≡ Some l → (i : ℕ) × (o ≡ Some i) × (g i ≡ l)
mapped None g l h = absurd (cc)
mapped (Some i) g l h = (i, refl, cc)

chained : (o : Option ℕ) (g : ℕ → Option Line) (l : Line) → option_and_then g o ≡ Some l → (i : ℕ) × (o ≡ Some i) × (g i ≡ Some l)
chained None g l h = absurd (cc)
chained (Some i) g l h = (i, refl, h)

-- an end of a span is there, if the dimension isn't empty
end_inside : (k : Option ℤ) (missing n i : ℕ) → missing ≤ n - 1 → end_of k missing n ≡ Some i → 0 < n → i < n
end_inside None missing n i h e some = let same : missing ≡ i = cc in omega (arith, h, same)
end_inside (Some k) missing n i h e some = counted_inside k n i e

ends_some : (from to : Option ℤ) (x y n i j : ℕ) → (is_none from && is_none to && (n == 0)) ≡ false → end_of from x n ≡ Some i → end_of to y n ≡ Some j → 0 < n
ends_some None None x y n i j t e f = some n t where
  some : (n : ℕ) → (n == 0) ≡ false → 0 < n
  some n t = grind (arith, nat_tests)
ends_some None (Some k) x y n i j t e f = omega (arith, counted_inside k n j f)
ends_some (Some k) to x y n i j t e f = omega (arith, counted_inside k n i e)

spanned_fits : (from to step : Option ℤ) (n : ℕ) (l : Line) → spanned from to step n ≡ Some l → LineFits l n
spanned_fits from to step n l h = by_test (is_none from && is_none to && (n == 0)) refl h where
  rest : Option Line
  rest = option_and_then (λ a. option_map (λ b. span_line a b step) (end_of to (if falls step then 0 else n - 1) n)) (end_of from (if falls step then n - 1 else 0) n)

  low : (b : Bool) (x y m : ℕ) → x ≤ m → y ≤ m → (if b then x else y) ≤ m
  low true x y m p q = p
  low false x y m p q = q

  by_test : (t : Bool) → (is_none from && is_none to && (n == 0)) ≡ t → (if t then Some (kept 0 (pos 1) 0) else rest) ≡ Some l → LineFits l n
  by_test true t e =
      let none : n ≡ 0 = empty (is_none from && is_none to) n t in
      let same : kept 0 (pos 1) 0 ≡ l = cc in
      subst (λ k. LineFits k n) same (subst (λ m. Fits 0 (pos 1) 0 m) (sym none) (whole_fits 0)) where
        empty : (b : Bool) (n : ℕ) → (b && (n == 0)) ≡ true → n ≡ 0
        empty b n t = grind (arith, nat_tests)
  by_test false t e =
      let a = chained (end_of from (if falls step then n - 1 else 0) n) (λ a. option_map (λ b. span_line a b step) (end_of to (if falls step then 0 else n - 1) n)) l e in
      let b = mapped (end_of to (if falls step then 0 else n - 1) n) (λ b. span_line a.0 b step) l a.2 in
      let some = ends_some from to (if falls step then n - 1 else 0) (if falls step then 0 else n - 1) n a.0 b.0 t a.1 b.1 in
      subst (λ k. LineFits k n) b.2
      (span_fits a.0 b.0 step n (end_inside from (if falls step then n - 1 else 0) n a.0 (low (falls step) (n - 1) 0 (n - 1) (omega arith) (omega arith)) a.1 some)
      (end_inside to (if falls step then 0 else n - 1) n b.0 (low (falls step) 0 (n - 1) (n - 1) (omega arith) (omega arith)) b.1 some))

one_fits : (f n : ℕ) → f < n → Fits f (pos 1) 1 n
one_fits f n h = rising f 1 1 n h (λ c l. omega (arith, l, h))

-- the arguments but a new dimension
abbrev pub Takes : SliceArg → Type 0
Takes Whole = Unit {0}
Takes (One k) = Unit {0}
Takes (Dropped k) = Unit {0}
Takes (Dummy m) = ⊥
Takes (Span from to step) = Unit {0}

line_fits : (arg : SliceArg) (n : ℕ) (l : Line) → Takes arg → line_of arg n ≡ Some l → LineFits l n
line_fits Whole n l t h = let same : kept 0 (pos 1) n ≡ l = cc in subst (λ k. LineFits k n) same (whole_fits n)
line_fits (One k) n l t h = let m = mapped (from_end k n) (λ f. kept f (pos 1) 1) l h in subst (λ k. LineFits k n) m.2 (one_fits m.0 n (counted_inside k n m.0 m.1))
line_fits (Dropped k) n l t h = let m = mapped (from_end k n) lost l h in subst (λ k. LineFits k n) m.2 (counted_inside k n m.0 m.1)
line_fits (Dummy m) n l t h = absurd t
line_fits (Span from to step) n l t h = spanned_fits from to step n l h

more_parts : (o : Option Line) (p : Option (List Line)) (ls : List Line) → line_cons o p ≡ Some ls → (l : Line) × (rest : List Line) × (o ≡ Some l) × (p ≡ Some rest) × (l ∷ rest ≡ ls)
more_parts None p ls h = absurd (cc)
more_parts (Some l) None ls h = absurd (cc)
more_parts (Some l) (Some rest) ls h = (l, rest, refl, refl, cc)

fit_past : (l : Line) (ls : List Line) → FitAll ls [] → FitAll (l ∷ ls) []
fit_past (kept f s m) ls h = h
fit_past (lost f) ls h = h
fit_past (added m) ls h = h

fit_more : (l : Line) (ls : List Line) (d : ℕ) (ds : List ℕ) → LineFits l d → FitAll ls ds → FitAll (l ∷ ls) (d ∷ ds)
fit_more (kept f s m) ls d ds h k = (h, k)
fit_more (lost f) ls d ds h k = (h, k)
fit_more (added m) ls d ds h k = absurd h

wholes_fit : (ds : List ℕ) → FitAll (map (λ d. kept 0 (pos 1) d) ds) ds
wholes_fit [] = tt
wholes_fit (d ∷ ds) = (whole_fits d, wholes_fit ds)

fit_arg : (arg : SliceArg) (ds : List ℕ) (l : Line) (ls : List Line) → line_of arg (size_for arg ds) ≡ Some l → FitAll ls (sizes_after arg ds) → FitAll (l ∷ ls) ds
fit_arg (Dummy m) ds l ls h k = let same : added m ≡ l = cc in subst (λ j. FitAll (j ∷ ls) ds) same k
fit_arg Whole [] l ls h k = fit_past l ls k
fit_arg (One i) [] l ls h k = fit_past l ls k
fit_arg (Dropped i) [] l ls h k = fit_past l ls k
fit_arg (Span a b s) [] l ls h k = fit_past l ls k
fit_arg Whole (d ∷ ds) l ls h k = fit_more l ls d ds (line_fits Whole d l tt h) k
fit_arg (One i) (d ∷ ds) l ls h k = fit_more l ls d ds (line_fits (One i) d l tt h) k
fit_arg (Dropped i) (d ∷ ds) l ls h k = fit_more l ls d ds (line_fits (Dropped i) d l tt h) k
fit_arg (Span a b s) (d ∷ ds) l ls h k = fit_more l ls d ds (line_fits (Span a b s) d l tt h) k

-- what arguments in range take fits the dimensions
pub lines_fit : (args : List SliceArg) (ds : List ℕ) (ls : List Line) → lines_of args ds ≡ Some ls → FitAll ls ds
lines_fit [] ds ls h = let same : map (λ d. kept 0 (pos 1) d) ds ≡ ls = cc in subst (λ ks. FitAll ks ds) same (wholes_fit ds)
lines_fit (arg ∷ args) ds ls h =
    let parts = more_parts (line_of arg (size_for arg ds)) (lines_of args (sizes_after arg ds)) ls (sym (lines_of-step arg args ds) ∙ h) in
    subst (λ ks. FitAll ks ds) parts.4 (fit_arg arg ds parts.0 parts.1 parts.2 (lines_fit args (sizes_after arg ds) parts.1 parts.3))

abbrev going : ℕ → ℤ → ℕ → Course
going f s a = record { first = f; step = s; along = a }

-- what the line of dimension i is, after k dimensions of the view
data Found (ls : List Line) (ds : List ℕ) (i k : ℕ) : Type 0 where
  takes : (f : ℕ) (s : ℤ) (a : ℕ) → course_at ls i k ≡ going f s (k + a) → a < length (line_sizes ls)
      → Fits f s (get_or (line_sizes ls) a 0) (get_or ds i 0) → ((cs : List ℕ) → get_or (line_sources ls cs) i 0 ≡ stepped f s (get_or cs a 0)) → Found ls ds i k
  stays : (f : ℕ) → course_at ls i k ≡ still f → f < get_or ds i 0 → ((cs : List ℕ) → get_or (line_sources ls cs) i 0 ≡ f) → Found ls ds i k

next : (cs : List ℕ) (a : ℕ) → get_or (drop 1 cs) a 0 ≡ get_or cs (suc a) 0
next cs a = get_or-drop 1 cs a 0 ∙ ap (λ k. get_or cs k 0) (let e : 1 + a ≡ suc a = omega arith in e)

along_next : (k a : ℕ) (f : ℕ) (s : ℤ) → going f s (k + 1 + a) ≡ going f s (k + suc a)
along_next k a f s = ap (going f s) (let e : k + 1 + a ≡ k + suc a = omega arith in e)

after_added : (m : ℕ) (ls : List Line) (ds : List ℕ) (i k : ℕ) → Found ls ds i (k + 1) → Found (added m ∷ ls) ds i k
after_added m ls ds i k (takes f s a e inside fits from) = takes f s (suc a) (e ∙ along_next k a f s) (suc-le-suc inside) fits (λ cs. from (drop 1 cs) ∙ ap (stepped f s) (next cs a))
after_added m ls ds i k (stays f e below from) = stays f e below (λ cs. from (drop 1 cs))

after_lost : (g : ℕ) (ls : List Line) (d : ℕ) (ds : List ℕ) (i k : ℕ) → Found ls ds i k → Found (lost g ∷ ls) (d ∷ ds) (suc i) k
after_lost g ls d ds i k (takes f s a e inside fits from) = takes f s a e inside fits from
after_lost g ls d ds i k (stays f e below from) = stays f e below from

after_kept : (g : ℕ) (t : ℤ) (m : ℕ) (ls : List Line) (d : ℕ) (ds : List ℕ) (i k : ℕ) → Found ls ds i (k + 1) → Found (kept g t m ∷ ls) (d ∷ ds) (suc i) k
after_kept g t m ls d ds i k (takes f s a e inside fits from) = takes f s (suc a) (e ∙ along_next k a f s) (suc-le-suc inside) fits (λ cs. from (drop 1 cs) ∙ ap (stepped f s) (next cs a))
after_kept g t m ls d ds i k (stays f e below from) = stays f e below (λ cs. from (drop 1 cs))

find : (ls : List Line) (ds : List ℕ) (i k : ℕ) → FitAll ls ds → i < length ds → Found ls ds i k
find [] [] i k h l = absurd (omega arith)
find [] (d ∷ ds) i k h l = absurd h
find (added m ∷ ls) ds i k h l = after_added m ls ds i k (find ls ds i (k + 1) h l)
find (lost f ∷ ls) [] i k h l = absurd (omega arith)
find (lost f ∷ ls) (d ∷ ds) zero k h l = stays f refl h.0 (λ cs. refl)
find (lost f ∷ ls) (d ∷ ds) (suc i) k h l = after_lost f ls d ds i k (find ls ds i k h.1 (omega arith))
find (kept f s m ∷ ls) [] i k h l = absurd (omega arith)
find (kept f s m ∷ ls) (d ∷ ds) zero k h l = takes f s 0 (ap (going f s) (sym (add-zero k))) (omega arith) h.0 (λ cs. refl)
find (kept f s m ∷ ls) (d ∷ ds) (suc i) k h l = after_kept f s m ls d ds i k (find ls ds i (k + 1) h.1 (omega arith))

-- a dimension along which a line takes steps
stepping : (ls : List Line) (ds : List ℕ) (i f : ℕ) (s : ℤ) (a : ℕ) → i < length ds → a < length (line_sizes ls) → Fits f s (get_or (line_sizes ls) a 0) (get_or ds i 0)
    → ((cs : List ℕ) → get_or (line_sources ls cs) i 0 ≡ stepped f s (get_or cs a 0)) → IsCourse (sliced ls) ds i (going f s a)
stepping ls ds i f s a l inside fits from = record {
  line = λ cs w. ap pos (source cs) ∙ fits.line (get_or cs a 0) (below cs w);
  small = λ cs w. subst (λ n. n < max (get_or ds i 0) 1) (sym (source cs)) (fits.small (get_or cs a 0) (below cs w));
  empty = λ cs w. some (get_or ds i 0) (get_or (line_sizes ls) a 0) (get_or cs a 0) (at_within (line_sizes ls) cs a w inside) fits.empty;
} where
  source : (cs : List ℕ) → get_or (form_source (sliced ls) ds cs) i 0 ≡ stepped f s (get_or cs a 0)
  source cs = get_or-take (length ds) (line_sources ls cs) i 0 l ∙ from cs

  below : (cs : List ℕ) → IsWithin (filled (line_sizes ls)) cs → get_or cs a 0 < max (get_or (line_sizes ls) a 0) 1
  below cs w = subst (λ m. get_or cs a 0 < m) (get_or-map (λ d. max d 1) (line_sizes ls) a 0 0 inside) (at_within (filled (line_sizes ls)) cs a w (omega (arith, inside, length-map (line_sizes ls) (λ d. max d 1))))

  some : (d m c : ℕ) → c < m → (d ≡ 0 → m ≡ 0) → 0 < d
  some zero m c h e = absurd (omega (arith, h, e refl))
  some (suc d) m c h e = omega arith

pub sliced_course : PositionLaws → (ls : List Line) (ds : List ℕ) (i : ℕ) → FitAll ls ds → i < length ds → IsCourse (sliced ls) ds i (course_at ls i 0)
sliced_course laws ls ds i h l = of (find ls ds i 0 h l) where
  of : Found ls ds i 0 → IsCourse (sliced ls) ds i (course_at ls i 0)
  of (takes f s a e inside fits from) = subst (IsCourse (sliced ls) ds i) (sym (e ∙ ap (going f s) (let z : 0 + a ≡ a = omega arith in z))) (stepping ls ds i f s a l inside fits from)
  of (stays f e below from) = subst (IsCourse (sliced ls) ds i) (sym e) (fixed laws (sliced ls) ds i f below (λ cs n. get_or-take (length ds) (line_sources ls cs) i 0 l ∙ from cs))
