-- Values that are put at the positions of a base, and at their places in the root.
use Rattle.std.proofs.Common.{◌≡◌, ℕ, suc, zero, ◌+◌, ℤ, pos, ◌<◌, Bool, true, false, cond, eqb, List, [], ◌∷◌, ◌++◌, length, length-append, append_assoc, map, get_or, slice_set, Option, Some, None, refl, sym, ◌∙◌, ap, arith}
use Rattle.std.specs.List.{range_with_len}
use Rattle.std.proofs.lemmas.Bool.{eqb-false}
use Rattle.std.proofs.lemmas.List.{length-set, get_or-set_same, get_or-set_other, set-set, set_comm, set-get_or}
use Rattle.std.proofs.lemmas.List.Elements.{All-head, All-tail}
use Rattle.pdl_shape.specs.Places.{AllBelow, IsBelow, read, put, write}
use Rattle.pdl_nodes.specs.Assigned.{entry, seen, seen_at}
use Rattle.pdl_nodes.specs.Families.{is_among, has_repeats}
use Rattle.pdl_nodes.specs.Spots.{Below}

-- what is among neither the first nor the others (`has_repeats` and `is_among` are no `||`)
neither : (b x : Bool) → cond b true x ≡ false → (b ≡ false) × (x ≡ false)
neither true x h = cc
neither false x h = (refl, h)

length_put : (p : Option ℕ) (x : ℤ) (es : List ℤ) → length (put p x es) ≡ length es
length_put None x es = refl
length_put (Some i) x es = length-set es i x

-- the first value is put first
write_first : (p : Option ℕ) (ps : List (Option ℕ)) (x : ℤ) (vs es : List ℤ) → write (p ∷ ps) (x ∷ vs) es ≡ write ps vs (put p x es)
write_first None ps x vs es = refl
write_first (Some i) ps x vs es = refl

-- what was read, written back, changes nothing
pub write_read : (ps : List (Option ℕ)) (es : List ℤ) → write ps (read ps es) es ≡ es
write_read [] es = refl
write_read (None ∷ ps) es = write_read ps es
write_read (Some i ∷ ps) es = ap (λ x. write ps (read ps es) x) (set-get_or es i (pos 0)) ∙ write_read ps es

-- what is put where no place is can be put before or after
write_past : (ps : List (Option ℕ)) (vs es : List ℤ) (i : ℕ) (x : ℤ) → is_among i ps ≡ false → write ps vs (slice_set es i x) ≡ slice_set (write ps vs es) i x
write_past [] vs es i x h = refl
write_past (p ∷ ps) [] es i x h = refl
write_past (None ∷ ps) (y ∷ vs) es i x h = write_past ps vs es i x h
write_past (Some j ∷ ps) (y ∷ vs) es i x h =
    let n = neither (eqb i j) (is_among i ps) h in
    ap (λ e. write ps vs e) (set_comm es i j x y (eqb-false i j n.0)) ∙ write_past ps vs (slice_set es j y) i x n.1

-- one value that is put at a position of what is kept is put at its place
write_set : (ps : List (Option ℕ)) (ks es : List ℤ) (i : ℕ) (x : ℤ) → has_repeats ps ≡ false → length ks ≡ length ps → i < length ps → write ps (slice_set ks i x) es ≡ put (entry ps i) x (write ps ks es)
write_set [] ks es i x h l b = absurd (omega arith)
write_set (p ∷ ps) [] es i x h l b = absurd (omega arith)
write_set (None ∷ ps) (k ∷ ks) es zero x h l b = refl
write_set (Some q ∷ ps) (k ∷ ks) es zero x h l b =
    let n = neither (is_among q ps) (has_repeats ps) h in
    write_past ps ks es q x n.0 ∙ sym (ap (λ e. slice_set e q x) (write_past ps ks es q k n.0) ∙ set-set (write ps ks es) q k x)
write_set (None ∷ ps) (k ∷ ks) es (suc i) x h l b = write_set ps ks es i x h (omega arith) (omega arith)
write_set (Some q ∷ ps) (k ∷ ks) es (suc i) x h l b =
    write_set ps ks (slice_set es q k) i x (neither (is_among q ps) (has_repeats ps) h).1 (omega arith) (omega arith)

seen_cases : (ps : List (Option ℕ)) (ks es : List ℤ) (i : ℕ) (x : ℤ) (o : Option ℕ) → entry ps i ≡ o → write ps (slice_set ks i x) es ≡ put (entry ps i) x (write ps ks es) → write ps (put (seen_at o i) x ks) es ≡ put o x (write ps ks es)
seen_cases ps ks es i x None e h = refl
seen_cases ps ks es i x (Some q) e h = h ∙ ap (λ o. put o x (write ps ks es)) e

-- so is one that is put where there is a place
write_seen : (ps : List (Option ℕ)) (ks es : List ℤ) (i : ℕ) (x : ℤ) → has_repeats ps ≡ false → length ks ≡ length ps → i < length ps → write ps (put (seen ps i) x ks) es ≡ put (entry ps i) x (write ps ks es)
write_seen ps ks es i x h l b = seen_cases ps ks es i x (entry ps i) refl (write_set ps ks es i x h l b)

-- values that are put into what a base keeps and then written are those written at their places
pub write_all : (ps : List (Option ℕ)) (is : List ℕ) (vs ks es : List ℤ) → has_repeats ps ≡ false → length ks ≡ length ps → Below (length ps) is → write ps (write (map (seen ps) is) vs ks) es ≡ write (map (entry ps) is) vs (write ps ks es)
write_all ps [] vs ks es h l b = refl
write_all ps (i ∷ is) [] ks es h l b = refl
write_all ps (i ∷ is) (x ∷ vs) ks es h l b =
    write_all ps is vs (put (seen ps i) x ks) es h (length_put (seen ps i) x ks ∙ l) b.1
    ∙ ap (λ e. write (map (entry ps) is) vs e) (write_seen ps ks es i x h l b.0)
    ∙ sym (write_first (entry ps i) (map (entry ps) is) x vs (write ps ks es))

-- what is put where no place is isn't read
read_past : (ps : List (Option ℕ)) (es : List ℤ) (i : ℕ) (x : ℤ) → is_among i ps ≡ false → read ps (slice_set es i x) ≡ read ps es
read_past [] es i x h = refl
read_past (None ∷ ps) es i x h = ap (λ r. pos 0 ∷ r) (read_past ps es i x h)
read_past (Some j ∷ ps) es i x h =
    let n = neither (eqb i j) (is_among i ps) h in
    let head : get_or (slice_set es i x) j (pos 0) ≡ get_or es j (pos 0) = get_or-set_other es i j x (pos 0) (λ e. eqb-false i j n.0 (sym e)) in
    let tail : read ps (slice_set es i x) ≡ read ps es = read_past ps es i x n.1 in
    cc

-- an entry isn't what is nowhere among the places
among_entry : (ps : List (Option ℕ)) (q i j : ℕ) → is_among q ps ≡ false → entry ps i ≡ Some j → j ≡ q → ⊥
among_entry [] q i j h e s = let n : None ≡ Some j = e in cc
among_entry (None ∷ ps) q zero j h e s = cc
among_entry (Some k ∷ ps) q zero j h e s = eqb-false q k (neither (eqb q k) (is_among q ps) h).0 (sym s ∙ (let t : k ≡ j = cc in sym t))
among_entry (None ∷ ps) q (suc i) j h e s = among_entry ps q i j h e s
among_entry (Some k ∷ ps) q (suc i) j h e s = among_entry ps q i j (neither (eqb q k) (is_among q ps) h).1 e s

-- what is put at another place leaves this one
put_beside : (es : List ℤ) (q : ℕ) (x : ℤ) (o : Option ℕ) → ((j : ℕ) → o ≡ Some j → j ≡ q → ⊥) → get_or (put o x es) q (pos 0) ≡ get_or es q (pos 0)
put_beside es q x None h = refl
put_beside es q x (Some j) h = get_or-set_other es j q x (pos 0) (λ e. h j refl (sym e))

put_more : (o : Option ℕ) (i : ℕ) (x k : ℤ) (ks : List ℤ) → put (seen_at o (suc i)) x (k ∷ ks) ≡ k ∷ put (seen_at o i) x ks
put_more None i x k ks = refl
put_more (Some q) i x k ks = refl

-- what is read after one value was put at the place of a position
read_seen : (ps : List (Option ℕ)) (es : List ℤ) (i : ℕ) (x : ℤ) → has_repeats ps ≡ false → AllBelow (length es) ps → i < length ps → read ps (put (entry ps i) x es) ≡ put (seen ps i) x (read ps es)
read_seen [] es i x h a b = absurd (omega arith)
read_seen (None ∷ ps) es zero x h a b = refl
read_seen (Some q ∷ ps) es zero x h a b =
    let tail : read ps (slice_set es q x) ≡ read ps es = read_past ps es q x (neither (is_among q ps) (has_repeats ps) h).0 in
    let head : get_or (slice_set es q x) q (pos 0) ≡ x = get_or-set_same es q x (pos 0) (All-head (IsBelow (length es)) (Some q) ps a) in
    cc
read_seen (None ∷ ps) es (suc i) x h a b =
    ap (λ r. pos 0 ∷ r) (read_seen ps es i x h (All-tail (IsBelow (length es)) None ps a) (omega arith)) ∙ sym (put_more (entry ps i) i x (pos 0) (read ps es))
read_seen (Some q ∷ ps) es (suc i) x h a b =
    let n = neither (is_among q ps) (has_repeats ps) h in
    let head : get_or (put (entry ps i) x es) q (pos 0) ≡ get_or es q (pos 0) = put_beside es q x (entry ps i) (λ j e. among_entry ps q i j n.0 e) in
    let tail : read ps (put (entry ps i) x es) ≡ put (seen ps i) x (read ps es) = read_seen ps es i x n.1 (All-tail (IsBelow (length es)) (Some q) ps a) (omega arith) in
    let both : get_or (put (entry ps i) x es) q (pos 0) ∷ read ps (put (entry ps i) x es) ≡ get_or es q (pos 0) ∷ put (seen ps i) x (read ps es) = cc in
    both ∙ sym (put_more (entry ps i) i x (get_or es q (pos 0)) (read ps es))

-- what a base keeps with values put in is what is read once they were written at their places
pub read_all : (ps : List (Option ℕ)) (is : List ℕ) (vs ks es : List ℤ) → has_repeats ps ≡ false → AllBelow (length es) ps → Below (length ps) is → ks ≡ read ps es → write (map (seen ps) is) vs ks ≡ read ps (write (map (entry ps) is) vs es)
read_all ps [] vs ks es h a b e = e
read_all ps (i ∷ is) [] ks es h a b e = e
read_all ps (i ∷ is) (x ∷ vs) ks es h a b e =
    read_all ps is vs (put (seen ps i) x ks) (put (entry ps i) x es) h (let P : ℕ → Type 0 = λ n. AllBelow n ps in rw (length_put (entry ps i) x es) a) b.1
    (ap (λ k. put (seen ps i) x k) e ∙ sym (read_seen ps es i x h a b.0))
    ∙ ap (read ps) (sym (write_first (entry ps i) (map (entry ps) is) x vs es))

-- values for all places from one on, in order, are what stands there then
set_here : (front : List ℤ) (x o : ℤ) (rest : List ℤ) → slice_set (front ++ o ∷ rest) (length front) x ≡ front ++ x ∷ rest
set_here [] x o rest = refl
set_here (f ∷ front) x o rest = ap (λ xs. f ∷ xs) (set_here front x o rest)

written_on : (a : ℕ) (front vs old : List ℤ) → a ≡ length front → length old ≡ length vs → write (map Some (range_with_len a (length vs))) vs (front ++ old) ≡ front ++ vs
written_on a front [] [] place many = refl
written_on a front [] (o ∷ old) place many = absurd (omega (arith, many))
written_on a front (x ∷ vs) [] place many = absurd (omega (arith, many))
written_on a front (x ∷ vs) (o ∷ old) place many =
    ap (write (map Some (range_with_len (a + 1) (length vs))) vs)
    (ap (λ k. slice_set (front ++ o ∷ old) k x) place ∙ set_here front x o old ∙ sym (append_assoc front (x ∷ []) old))
    ∙ written_on (a + 1) (front ++ x ∷ []) vs old (omega (arith, place, length-append front (x ∷ []))) (omega (arith, many))
    ∙ append_assoc front (x ∷ []) vs

pub written_whole : (n : ℕ) (vs old : List ℤ) → length vs ≡ n → length old ≡ n → write (map Some (range_with_len 0 n)) vs old ≡ vs
written_whole n vs old count many = ap (λ k. write (map Some (range_with_len 0 k)) vs old) (sym count) ∙ written_on 0 [] vs old refl (many ∙ sym count)
