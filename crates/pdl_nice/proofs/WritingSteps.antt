-- The steps of writing, over lists and places alone.
use Rattle.std.proofs.Common.{◌≡◌, ℕ, zero, suc, ◌+◌, ◌-◌, ◌<◌, ◌≤◌, Bool, true, false, List, [], ◌∷◌, ◌++◌, length, drop, take, map, Option, Some, None, refl, ap, ap₂, sym, ◌∙◌, subst, arith, get_or, drop-cons, add-one, append_assoc, true≢false, drop_of_length-le}
use Rattle.std.proofs.lemmas.List.{append-nil, length-map, length-take-le, length-drop, get_or-drop, take-map}
use Rattle.std.specs.Prelude.{option_and_then}
use Rattle.pdl_lex.specs.declared.Token.{Token}
use Rattle.pdl_lex.specs.Written.{Written, written}
use Rattle.pdl_nice.specs.declared.looks.Look.{Look}
use Rattle.pdl_nice.specs.declared.looks.Look.TheVariants.{Opens as opens}
use Rattle.pdl_nice.specs.declared.looks.Before.{Before}
use Rattle.pdl_nice.specs.declared.looks.Before.TheVariants.{Other as another}
use Rattle.pdl_nice.specs.Looks.{look, before_of, begins_nice}
use Rattle.pdl_nice.specs.Nice.{is_level, is_value}
use Rattle.pdl_nice.specs.Reading.{Front, front, arguments_in}
use Rattle.pdl_nice.specs.Ends.{token_look, AreEnds, no_token, range}
use Rattle.pdl_nice.specs.Adding.{shown, LieIn, AllLieIn, AddsFront}
use Rattle.pdl_nice.specs.Writing.{onto, Writes, WritesPart, text_behind, value_text, values_text, head, AllValues, token_there}
use Rattle.pdl_lemmas.specs.Options.{some_inj, none_some}
use Rattle.pdl_nice.proofs.NiceCuts.{value_level}
use Rattle.pdl_nice.proofs.LookTokens.{looks_are}
use Rattle.pdl_nice.proofs.NiceInner.{look_at}
use Rattle.pdl_nice.proofs.WritingPlaces.{as_many_written, front_there, value_is, range_is}
use Rattle.pdl_nice.proofs.LookLevels.{ends_within}
use Rattle.pdl_nice.proofs.WritingTexts.{onto_onto, text_stays, text_end, value_begins, part_text, text_no_arguments, text_nice, args_values}

pub same_looks : (text : List ℕ) (ts : List Token) (looks : List Look) → looks ≡ map (token_look text) ts → map look (written text 0 ts) ≡ looks
same_looks text ts looks e = looks_are text 0 ts ∙ sym e

pub as_many_looks : (text : List ℕ) (ts : List Token) (looks : List Look) → looks ≡ map (token_look text) ts → length looks ≡ length ts
as_many_looks text ts looks e = ap length e ∙ length-map ts (token_look text)

pub look_there : (text : List ℕ) (ts : List Token) (looks : List Look) (at : ℕ) → looks ≡ map (token_look text) ts → at < length ts →
    look (token_there text ts at) ≡ get_or looks at opens
look_there text ts looks at e lt =
    let len = as_many_looks text ts looks e in
    look_at (written text 0 ts) looks at (same_looks text ts looks e) (omega (arith, len, lt))

-- what was written, if anything was
pub wrote : (old new : List ℕ) (o : Option (List ℕ)) → onto old o ≡ Some new → (t : List ℕ) × (o ≡ Some t) × (new ≡ old ++ t)
wrote old new None e = absurd (none_some e)
wrote old new (Some t) e = (t, refl, sym (some_inj e))

pub nothing_written : (found : Bool) (old new : List ℕ) (o : Option (List ℕ)) → found ≡ false → Writes found old new o → o ≡ None
nothing_written true old new o e h = absurd (true≢false e)
nothing_written false old new o e h = h

pub something_written : (found : Bool) (old new : List ℕ) (o : Option (List ℕ)) → found ≡ true → Writes found old new o → onto old o ≡ Some new
something_written true old new o e h = h
something_written false old new o e h = absurd (true≢false (sym e))

-- an expression, by its first token and those behind it
pub value_writes : (text : List ℕ) (ts : List Token) (at : ℕ) (found : Bool) (b : Before) (old now new : List ℕ) → at < length ts →
    b ≡ before_of (look (token_there text ts at)) → now ≡ old ++ (token_there text ts at).bytes →
    Writes found now new (text_behind b (drop (at + 1) (written text 0 ts))) → Writes found old new (value_text (drop at (written text 0 ts)))
value_writes text ts at found b old now new lt be e h = of_found found h
  where
    w : Written
    w = token_there text ts at

    rest : List Written
    rest = drop (at + 1) (written text 0 ts)

    is : value_text (drop at (written text 0 ts)) ≡ onto (token_there text ts at).bytes (text_behind b (drop (at + 1) (written text 0 ts)))
    is = ap value_text (front_there text ts at lt) ∙ (value_begins (token_there text ts at) (drop (at + 1) (written text 0 ts))
        ∙ ap (λ x. onto (token_there text ts at).bytes (text_behind x (drop (at + 1) (written text 0 ts)))) (sym be))

    of_found : (found : Bool) → Writes found now new (text_behind b (drop (at + 1) (written text 0 ts))) → Writes found old new (value_text (drop at (written text 0 ts)))
    of_found true h =
        ap (onto old) is ∙ (onto_onto old (token_there text ts at).bytes (text_behind b (drop (at + 1) (written text 0 ts)))
        ∙ (ap (λ x. onto x (text_behind b (drop (at + 1) (written text 0 ts)))) (sym e) ∙ h))
    of_found false h = is ∙ ap (onto (token_there text ts at).bytes) h

-- a token that stays, behind what is written
pub stays_behind : (text : List ℕ) (ts : List Token) (from at : ℕ) (b now then' : Before) (old new gapped more done : List ℕ) → at < length ts →
    begins_nice now (look (token_there text ts at)) ≡ false → then' ≡ before_of (look (token_there text ts at)) →
    gapped ≡ new ++ (token_there text ts at).gap → more ≡ gapped ++ (token_there text ts at).bytes → new ≡ old ++ done →
    text_behind b (drop from (written text 0 ts)) ≡ onto done (text_behind now (drop at (written text 0 ts))) →
    (more ≡ old ++ (done ++ ((token_there text ts at).gap ++ (token_there text ts at).bytes)))
    × (text_behind b (drop from (written text 0 ts)) ≡ onto (done ++ ((token_there text ts at).gap ++ (token_there text ts at).bytes)) (text_behind then' (drop (at + 1) (written text 0 ts))))
stays_behind text ts from at b now then' old new gapped more done lt no_nice be e f g h =
    let w = token_there text ts at in
    let rest = drop (at + 1) (written text 0 ts) in
    let step : text_behind now (drop at (written text 0 ts)) ≡ onto (w.gap ++ w.bytes) (text_behind then' rest) =
    ap (text_behind now) (front_there text ts at lt) ∙ (text_stays now w rest no_nice ∙ ap (λ x. onto (w.gap ++ w.bytes) (text_behind x rest)) (sym be)) in (
      f ∙ (ap (λ x. x ++ w.bytes) e ∙ (append_assoc new w.gap w.bytes ∙ (ap (λ x. x ++ (w.gap ++ w.bytes)) g ∙ append_assoc old done (w.gap ++ w.bytes)))),
      h ∙ (ap (onto done) step ∙ onto_onto done (w.gap ++ w.bytes) (text_behind then' rest)),
    )

-- a nice part, behind what is written
pub nice_behind : (ws : List Written) (from at end : ℕ) (b now : Before) (old new more done : List ℕ) → new ≡ old ++ done →
    text_behind b (drop from ws) ≡ onto done (text_behind now (drop at ws)) → (h : WritesPart ws now at end new more) →
    (more ≡ old ++ (done ++ h.part)) × (text_behind b (drop from ws) ≡ onto (done ++ h.part) (text_behind another (drop end ws)))
nice_behind ws from at end b now old new more done e k h = (
  h.written ∙ (ap (λ x. x ++ h.part) e ∙ append_assoc old done h.part),
  k ∙ (ap (onto done) h.rest ∙ onto_onto done h.part (text_behind another (drop end ws))),
)

pub all_written : (ws : List Written) (from at : ℕ) (b now : Before) (old new done : List ℕ) → length ws ≤ at → new ≡ old ++ done →
    text_behind b (drop from ws) ≡ onto done (text_behind now (drop at ws)) → onto old (text_behind b (drop from ws)) ≡ Some new
all_written ws from at b now old new done le e k =
    ap (onto old) (k ∙ ap (λ xs. onto done (text_behind now xs)) (drop_of_length-le ws le) ∙ ap (onto done) (text_end now))
    ∙ ap (λ x. Some x) (ap (λ x. old ++ x) (append-nil done) ∙ sym e)

-- a nice part and its arguments
pub no_arguments : (text : List ℕ) (ts : List Token) (at : ℕ) (b : Before) → at < length ts → begins_nice b (look (token_there text ts at)) ≡ true →
    arguments_in (drop (at + 1) (written text 0 ts)) ≡ None → text_behind b (drop at (written text 0 ts)) ≡ None
no_arguments text ts at b lt nice e =
    ap (text_behind b) (front_there text ts at lt) ∙ text_no_arguments b (token_there text ts at) (drop (at + 1) (written text 0 ts)) nice e

nice_text : (text : List ℕ) (ts : List Token) (at : ℕ) (b : Before) (x : Front) → at < length ts → begins_nice b (look (token_there text ts at)) ≡ true →
    arguments_in (drop (at + 1) (written text 0 ts)) ≡ Some x → text_behind b (drop at (written text 0 ts))
    ≡ option_and_then (λ t. onto (part_text b (token_there text ts at).gap x.what.pattern t) (text_behind another x.rest)) (values_text x.what.values)
nice_text text ts at b x lt nice e =
    ap (text_behind b) (front_there text ts at lt) ∙ text_nice b (token_there text ts at) (drop (at + 1) (written text 0 ts)) x nice e

pub no_values : (text : List ℕ) (ts : List Token) (at end : ℕ) (b : Before) (b0 b1 : List ℕ) (o0 o1 : List (ℕ × ℕ)) → at < length ts →
    begins_nice b (look (token_there text ts at)) ≡ true →
    (h : AddsFront (written text 0 ts) (at + 1) end b0 b1 o0 o1 (arguments_in (drop (at + 1) (written text 0 ts)))) →
    values_text (shown (written text 0 ts) h.adds.more) ≡ None → text_behind b (drop at (written text 0 ts)) ≡ None
no_values text ts at end b b0 b1 o0 o1 lt nice h e =
    nice_text text ts at b (front (get_or (written text 0 ts) end no_token) (drop (end + 1) (written text 0 ts)) h.what) lt nice h.is
    ∙ ap (option_and_then _) (ap values_text (sym h.adds.values) ∙ e)

pub nice_writes : (text : List ℕ) (ts : List Token) (at end : ℕ) (b : Before) (old gapped b0 b1 quoted shown_so new : List ℕ) (o0 o1 : List (ℕ × ℕ)) →
    at < length ts → begins_nice b (look (token_there text ts at)) ≡ true → gapped ≡ old ++ (token_there text ts at).gap → b0 ≡ gapped ++ head b →
    (h : AddsFront (written text 0 ts) (at + 1) end b0 b1 o0 o1 (arguments_in (drop (at + 1) (written text 0 ts)))) → quoted ≡ b1 ++ 34 ∷ [] →
    onto quoted (values_text (shown (written text 0 ts) h.adds.more)) ≡ Some shown_so → new ≡ shown_so ++ 41 ∷ [] →
    WritesPart (written text 0 ts) b at (end + 1) old new
nice_writes text ts at end b old gapped b0 b1 quoted shown_so new o0 o1 lt nice e f h g k l =
    let x = front (get_or (written text 0 ts) end no_token) (drop (end + 1) (written text 0 ts)) h.what in
    let w = token_there text ts at in
    let t = wrote quoted shown_so (values_text (shown (written text 0 ts) h.adds.more)) k in
    let p = h.what.pattern in
    record {
      part = part_text b w.gap p t.0;
      written = l ∙ (ap (λ y. y ++ 41 ∷ []) (t.2 ∙ ap (λ y. y ++ t.0) (g ∙ ap (λ y. y ++ 34 ∷ []) (h.adds.pattern ∙ ap (λ y. y ++ p) (f ∙ ap (λ y. y ++ head b) e))))
          ∙ regrouped old w.gap (head b) p t.0);
      rest = nice_text text ts at b x lt nice h.is ∙ ap (option_and_then (λ t. onto (part_text b w.gap p t) (text_behind another x.rest))) (ap values_text (sym h.adds.values) ∙ t.1);
    }
  where
    regrouped : (a g hd p t : List ℕ) → (((((a ++ g) ++ hd) ++ p) ++ 34 ∷ []) ++ t) ++ 41 ∷ [] ≡ a ++ (g ++ (hd ++ (p ++ 34 ∷ (t ++ 41 ∷ []))))
    regrouped a g hd p t =
        append_assoc ((((a ++ g) ++ hd) ++ p) ++ 34 ∷ []) t (41 ∷ []) ∙ (append_assoc (((a ++ g) ++ hd) ++ p) (34 ∷ []) (t ++ 41 ∷ [])
        ∙ (append_assoc ((a ++ g) ++ hd) p (34 ∷ (t ++ 41 ∷ [])) ∙ (append_assoc (a ++ g) hd (p ++ 34 ∷ (t ++ 41 ∷ [])) ∙ append_assoc a g (hd ++ (p ++ 34 ∷ (t ++ 41 ∷ []))))))

-- the places of the expressions of a nice part
pub added_places : (old new more : List (ℕ × ℕ)) (first : ℕ) → first ≡ length old → new ≡ old ++ more → drop first new ≡ more
added_places old new more first e f = ap₂ drop e f ∙ behind old more
  where
    behind : (xs ys : List (ℕ × ℕ)) → drop (length xs) (xs ++ ys) ≡ ys
    behind [] ys = refl
    behind (x ∷ xs) ys = behind xs ys

pub first_places : (old new more : List (ℕ × ℕ)) (first : ℕ) → first ≡ length old → new ≡ old ++ more → take first new ≡ old
first_places old new more first e f = ap₂ take e f ∙ before old more
  where
    before : (xs ys : List (ℕ × ℕ)) → take (length xs) (xs ++ ys) ≡ xs
    before [] ys = refl
    before (x ∷ xs) ys = ap (λ zs. x ∷ zs) (before xs ys)

pub places_are_values : (ws : List Written) (from end : ℕ) (b0 b1 : List ℕ) (o0 o1 : List (ℕ × ℕ)) →
    (h : AddsFront ws from end b0 b1 o0 o1 (arguments_in (drop from ws))) → AllValues (shown ws h.adds.more)
places_are_values ws from end b0 b1 o0 o1 h =
    subst AllValues (sym h.adds.values) (args_values (drop from ws) (front (get_or ws end no_token) (drop (end + 1) ws) h.what) h.is)

-- one of these places
lie_there : (from to : ℕ) (rs : List (ℕ × ℕ)) (i : ℕ) (d : ℕ × ℕ) → AllLieIn from to rs → i < length rs → LieIn from to (get_or rs i d)
lie_there from to [] i d h lt = absurd (omega (arith, lt))
lie_there from to (r ∷ rs) zero d h lt = h.0
lie_there from to (r ∷ rs) (suc i) d h lt = lie_there from to rs i d h.1 (omega (arith, lt))

dropped_at : (first j : ℕ) (rs : List (ℕ × ℕ)) (d : ℕ × ℕ) → first ≤ j → get_or (drop first rs) (j - first) d ≡ get_or rs j d
dropped_at first j rs d le = let sum : first + (j - first) ≡ j = omega (arith, le) in get_or-drop first rs (j - first) d ∙ ap (λ n. get_or rs n d) sum

pub lies_at : (from to first j : ℕ) (rs : List (ℕ × ℕ)) (d : ℕ × ℕ) → AllLieIn from to (drop first rs) → first ≤ j → j < length rs → LieIn from to (get_or rs j d)
lies_at from to first j rs d h le lt =
    let len = length-drop first rs in
    subst (LieIn from to) (dropped_at first j rs d le) (lie_there from to (drop first rs) (j - first) d h (omega (arith, len, le, lt)))

value_there : (ws : List Written) (rs : List (ℕ × ℕ)) (i : ℕ) (d : ℕ × ℕ) → AllValues (shown ws rs) → i < length rs →
    is_value (range ws (get_or rs i d).0 (get_or rs i d).1) ≡ true
value_there ws [] i d h lt = absurd (omega (arith, lt))
value_there ws (r ∷ rs) zero d h lt = h.0
value_there ws (r ∷ rs) (suc i) d h lt = value_there ws rs i d h.1 (omega (arith, lt))

pub value_at : (ws : List Written) (first j : ℕ) (rs : List (ℕ × ℕ)) (d : ℕ × ℕ) → AllValues (shown ws (drop first rs)) → first ≤ j → j < length rs →
    is_value (range ws (get_or rs j d).0 (get_or rs j d).1) ≡ true
value_at ws first j rs d h le lt =
    let len = length-drop first rs in
    subst (λ r. is_value (range ws r.0 r.1) ≡ true) (dropped_at first j rs d le) (value_there ws (drop first rs) (j - first) d h (omega (arith, len, le, lt)))

-- what is asked of the first tokens, where an expression ends
pub record FitsValue (text : List ℕ) (ts : List Token) (looks : List Look) (ends : List ℕ) (from to : ℕ) : Type 0 where
  pub within : from < length (take to ts)
  pub looks_are : take to looks ≡ map (token_look text) (take to ts)
  pub as_many : length (take to ends) ≡ length (take to looks)
  pub known : AreEnds (take to looks) (take to ends) from
  pub value : drop from (written text 0 (take to ts)) ≡ range (written text 0 ts) from to

pub fits_value : (text : List ℕ) (ts : List Token) (looks : List Look) (ends : List ℕ) (low from to : ℕ) → looks ≡ map (token_look text) ts →
    length ends ≡ length looks → AreEnds looks ends low → low ≤ from → from < to → to ≤ length ts → is_value (range (written text 0 ts) from to) ≡ true →
    FitsValue text ts looks ends from to
fits_value text ts looks ends low from to same many known l1 l2 l3 v =
    let len = as_many_looks text ts looks same in
    let few = length-take-le to ts l3 in
    let few_looks = length-take-le to looks (omega (arith, len, l3)) in
    let few_ends = length-take-le to ends (omega (arith, many, len, l3)) in
    let ws_len = as_many_written text 0 ts in
    let level : is_level [] (drop from (take to (written text 0 ts))) ≡ true =
    ap (is_level []) (sym (range_is (written text 0 ts) from to (omega (arith, l2)))) ∙ value_level (range (written text 0 ts) from to) v in
    record {
      within = omega (arith, few, l2);
      looks_are = ap (take to) same ∙ take-map (token_look text) to ts;
      as_many = few_ends ∙ sym few_looks;
      known = ends_within (written text 0 ts) looks ends from to no_token (same_looks text ts looks same) (omega (arith, len, l3)) (omega (arith, ws_len, len)) level
          (λ k k1 k2. known k (omega (arith, l1, k1)) k2);
      value = value_is text ts from to (omega (arith, l2));
    }

-- one more expression
pub one_more : (ws : List Written) (first j : ℕ) (rs : List (ℕ × ℕ)) (d : ℕ × ℕ) (old new comma more done : List ℕ) → j < length rs →
    new ≡ old ++ done → values_text (shown ws (drop first rs)) ≡ onto done (values_text (shown ws (drop j rs))) → comma ≡ new ++ 44 ∷ [] →
    (e : List Written) → e ≡ range ws (get_or rs j d).0 (get_or rs j d).1 → onto comma (value_text e) ≡ Some more →
    (t : List ℕ) × (more ≡ old ++ (done ++ 44 ∷ t)) × (values_text (shown ws (drop first rs)) ≡ onto (done ++ 44 ∷ t) (values_text (shown ws (drop (j + 1) rs))))
one_more ws first j rs d old new comma more done lt e k c v same w =
    let t = wrote comma more (value_text v) w in
    let front : drop j rs ≡ get_or rs j d ∷ drop (j + 1) rs = drop-cons rs j d lt ∙ ap (λ n. get_or rs j d ∷ drop n rs) (sym (add-one j)) in
    let step : values_text (shown ws (drop j rs)) ≡ onto (44 ∷ t.0) (values_text (shown ws (drop (j + 1) rs))) =
    ap (λ xs. values_text (shown ws xs)) front
    ∙ ap (option_and_then (λ text. onto (44 ∷ text) (values_text (shown ws (drop (j + 1) rs))))) (ap value_text (sym same) ∙ t.1) in (
      t.0,
      t.2 ∙ (ap (λ x. x ++ t.0) (c ∙ ap (λ x. x ++ 44 ∷ []) e) ∙ (append_assoc (old ++ done) (44 ∷ []) t.0 ∙ append_assoc old done (44 ∷ t.0))),
      k ∙ (ap (onto done) step ∙ onto_onto done (44 ∷ t.0) (values_text (shown ws (drop (j + 1) rs)))),
    )

pub no_more : (ws : List Written) (first j : ℕ) (rs : List (ℕ × ℕ)) (d : ℕ × ℕ) (done : List ℕ) → j < length rs →
    values_text (shown ws (drop first rs)) ≡ onto done (values_text (shown ws (drop j rs))) → (e : List Written) →
    e ≡ range ws (get_or rs j d).0 (get_or rs j d).1 → value_text e ≡ None → values_text (shown ws (drop first rs)) ≡ None
no_more ws first j rs d done lt k v same w =
    let front : drop j rs ≡ get_or rs j d ∷ drop (j + 1) rs = drop-cons rs j d lt ∙ ap (λ n. get_or rs j d ∷ drop n rs) (sym (add-one j)) in
    k ∙ ap (onto done) (ap (λ xs. values_text (shown ws xs)) front
    ∙ ap (option_and_then (λ text. onto (44 ∷ text) (values_text (shown ws (drop (j + 1) rs))))) (ap value_text (sym same) ∙ w))

-- the place that a step of the loop over places reads
pub record OneOf (ws : List Written) (from to j : ℕ) (rs : List (ℕ × ℕ)) (r : ℕ × ℕ) : Type 0 where
  pub below : j < length rs
  pub is : r ≡ get_or rs j r
  pub lies : LieIn from to r
  pub value : is_value (range ws r.0 r.1) ≡ true

pub one_of : (ws : List Written) (from to first j n m : ℕ) (rs now : List (ℕ × ℕ)) (r : ℕ × ℕ) → AllLieIn from to (drop first rs) →
    AllValues (shown ws (drop first rs)) → now ≡ rs → r ≡ get_or now j r → first ≤ j → j < n → n ≡ m → m ≡ length rs → OneOf ws from to j rs r
one_of ws from to first j n m rs now r lie are kept read le lt e f =
    let is : r ≡ get_or rs j r = read ∙ ap (λ vs. get_or vs j r) kept in
    let below : j < length rs = omega (arith, lt, e, f) in
    record {
      below = below;
      is = is;
      lies = subst (LieIn from to) (sym is) (lies_at from to first j rs r lie le below);
      value = subst (λ q. is_value (range ws q.0 q.1) ≡ true) (sym is) (value_at ws first j rs r are le below);
    }

-- the expression at such a place
pub value_read : (ws : List Written) (j : ℕ) (rs : List (ℕ × ℕ)) (r : ℕ × ℕ) (v : List Written) → r ≡ get_or rs j r → v ≡ range ws r.0 r.1 →
    v ≡ range ws (get_or rs j r).0 (get_or rs j r).1
value_read ws j rs r v is e = e ∙ ap (λ q. range ws q.0 q.1) is
