-- Lines that are appended one after another.
use Rattle.std.proofs.Common.{◌≡◌, ℕ, ◌+◌, ◌≤◌, Bool, true, false, List, [], ◌∷◌, ◌++◌, length, take, length-append, refl, ap, ap₂, sym, ◌∙◌, subst, arith, append_assoc}
use Rattle.std.specs.Prelude.{nat_lt, ◌||◌, Result, Ok, Err, OnOk, OnErr, codes}
use Rattle.std.specs.List.{list_any}
use Rattle.std.proofs.lemmas.Bool.{le-ltb, ltb-false, lt-ltb, ltb-true}
use Rattle.std.proofs.lemmas.Grind.{flat_map-append}
use Rattle.std.proofs.lemmas.List.{append-nil}
use Rattle.std.proofs.lemmas.List.Folds.{list_any-append}
use Rattle.std.proofs.Math.Seq.{take-append_seam}
use Rattle.pdl_lex.specs.Limits.{statement_limit}
use Rattle.pdl_image.specs.declared.ImageFault.{ImageFault}
use Rattle.pdl_image.specs.declared.TheConstants.{LONGEST_DUMP}
use Rattle.pdl_image.specs.Lines.{Line, line_text, whole_line, script_of}
use Rattle.pdl_image.specs.Dump.{is_too_long}
use Rattle.pdl_image.specs.Adding.{Begins, Adds, Writes}
use Rattle.pdl_image.specs.Laws.{LinesJoin}

-- ---- lines behind lines

abbrev pub has_long_line : List Line → Bool
has_long_line lines = list_any (λ l. nat_lt statement_limit (length (line_text l))) lines

pub script-append : (lines others : List Line) → script_of (lines ++ others) ≡ script_of lines ++ script_of others
script-append lines others = flat_map-append whole_line lines others

-- one of the first two, or one of the last two, by one that the first implies
or_joins : (p q x y : Bool) → (p ≡ true → q ≡ true) → (q || (x || y)) ≡ ((p || x) || (q || y))
or_joins true true x y h = refl
or_joins true false x y h = absurd (false_true (h refl))
  where
    false_true : false ≡ true → ⊥
    false_true e = cc
or_joins false true true y h = refl
or_joins false true false y h = refl
or_joins false false x y h = refl

pub lines_join : LinesJoin
lines_join text lines others =
    let t : ℕ = length text in
    let a : ℕ = length (script_of lines) in
    let b : ℕ = length (script_of others) in
    let long : Line → Bool = λ l. nat_lt statement_limit (length (line_text l)) in
    let whole : length (script_of (lines ++ others)) ≡ a + b = ap length (script-append lines others) ∙ length-append (script_of lines) (script_of others) in
    let behind : length (text ++ script_of lines) ≡ t + a = length-append text (script_of lines) in
    ap₂ (λ (n : ℕ) (z : Bool). nat_lt LONGEST_DUMP (t + n) || z) whole (list_any-append long lines others)
    ∙ or_joins (nat_lt LONGEST_DUMP (t + a)) (nat_lt LONGEST_DUMP (t + (a + b))) (list_any long lines) (list_any long others)
    (λ e. lt-ltb LONGEST_DUMP (t + (a + b)) (omega (arith, ltb-true LONGEST_DUMP (t + a) e)))
    ∙ ap (λ (n : ℕ). (nat_lt LONGEST_DUMP (t + a) || list_any long lines) || (nat_lt LONGEST_DUMP n || list_any long others))
    (add_assoc' t a b ∙ ap (λ (n : ℕ). n + b) (sym behind))
  where
    add_assoc' : (x y z : ℕ) → x + (y + z) ≡ (x + y) + z
    add_assoc' x y z = omega arith

-- ---- texts that begin with others

pub begins_then : (old mid new : List ℕ) → Begins old mid → Begins mid new → Begins old new
begins_then old mid new first second =
    record { rest = first.rest ++ second.rest; is = second.is ∙ ap (λ t. t ++ second.rest) first.is ∙ append_assoc old first.rest second.rest }

-- ---- appending

-- there is room behind what was appended
pub adds_room : (old new : List ℕ) (lines : List Line) (u : Unit {0}) → Adds old new lines (Ok u) → length new ≤ LONGEST_DUMP
adds_room old new lines u added =
    let n : ℕ = length old + length (script_of lines) in
    let long : length new ≡ n = ap length added.ok ∙ length-append old (script_of lines) in
    let within : n ≤ LONGEST_DUMP = ltb-false LONGEST_DUMP n (first_false (nat_lt LONGEST_DUMP n) (has_long_line lines) added.fits) in
    subst (λ (k : ℕ). k ≤ LONGEST_DUMP) (sym long) within
  where
    first_false : (a b : Bool) → (a || b) ≡ false → a ≡ false
    first_false true b e = absurd (wrong e)
      where
        wrong : true ≡ false → ⊥
        wrong e = cc
    first_false false b e = refl

-- no line behind a text that isn't too long
pub adds_none : (old : List ℕ) → length old ≤ LONGEST_DUMP → Adds old old [] (Ok tt)
adds_none old within = record {
  ok = sym (append-nil old);
  fits = ap (λ (b : Bool). b || false) (le-ltb LONGEST_DUMP (length old + 0) (omega arith));
  front = record { rest = []; is = sym (append-nil old) };
  refused = tt;
}

-- more lines behind those that were appended
pub adds_then : (old mid new : List ℕ) (lines others : List Line) (u : Unit {0}) (r : Result (Unit {0}) ImageFault)
    → Adds old mid lines (Ok u) → Adds mid new others r → Adds old new (lines ++ others) r
adds_then old mid new lines others u (Ok v) first second = record {
  ok = second.ok ∙ ap (λ t. t ++ script_of others) first.ok ∙ append_assoc old (script_of lines) (script_of others)
      ∙ ap (λ t. old ++ t) (sym (script-append lines others));
  fits = lines_join old lines others
      ∙ ap₂ (λ (a b : Bool). a || b) first.fits (ap (λ t. is_too_long t others) (sym first.ok) ∙ second.fits);
  front = begins_then old mid new first.front second.front;
  refused = tt;
}
adds_then old mid new lines others u (Err e) first second = record {
  ok = tt;
  fits = tt;
  front = begins_then old mid new first.front second.front;
  refused = λ is. lines_join old lines others
      ∙ ap₂ (λ (a b : Bool). a || b) first.fits (ap (λ t. is_too_long t others) (sym first.ok) ∙ second.refused is);
}

-- the first of them were refused
pub adds_first : (old new : List ℕ) (lines others : List Line) (e : ImageFault)
    → Adds old new lines (Err e) → Adds old new (lines ++ others) (Err e)
adds_first old new lines others e first = record {
  ok = tt;
  fits = tt;
  front = first.front;
  refused = λ is. lines_join old lines others ∙ ap (λ (a : Bool). a || is_too_long (old ++ script_of lines) others) (first.refused is);
}

-- ---- one line

-- ---- lines that are taken back where they are refused

pub writes_by : (old mid new : List ℕ) (mark : ℕ) (lines : List Line) (l : Line) (more : List Line) (r : Result (Unit {0}) ImageFault) → lines ≡ l ∷ more
    → Adds old mid lines r → OnOk r (new ≡ mid) → OnErr r (new ≡ take mark mid) → mark ≡ length old → Writes old new lines r
writes_by old mid new mark lines l more (Ok u) some added same back is =
    let text : new ≡ old ++ script_of lines = same ∙ added.ok in
    let long : length new ≡ length old + length (script_of lines) = ap length text ∙ length-append old (script_of lines) in
    let begun : length (script_of lines) ≡ length (whole_line l) + length (script_of more) =
    ap (λ ls. length (script_of ls)) some ∙ length-append (whole_line l) (script_of more) in
    let ended : length (whole_line l) ≡ length (line_text l) + 2 = length-append (line_text l) (codes ";\n") in
    record {
      ok = text;
      fits = added.fits;
      more = omega arith;
      room = subst (λ t. length t ≤ LONGEST_DUMP) (sym same) (adds_room old mid lines u added);
      err = tt;
      refused = tt;
    }
writes_by old mid new mark lines l more (Err e) some added same back is = record {
  ok = tt;
  fits = tt;
  more = tt;
  room = tt;
  err = back ∙ ap₂ (λ (n : ℕ) t. take n t) is added.front.is ∙ take-append_seam old added.front.rest;
  refused = added.refused;
}

pub writes_one : (old new : List ℕ) (l : Line) (r : Result (Unit {0}) ImageFault) → Adds old new (l ∷ []) r → OnErr r (new ≡ old) → Writes old new (l ∷ []) r
writes_one old new l (Ok u) added back = writes_by old new new (length old) (l ∷ []) l [] (Ok u) refl added refl tt refl
writes_one old new l (Err e) added back = record { ok = tt; fits = tt; more = tt; room = tt; err = back; refused = added.refused }
