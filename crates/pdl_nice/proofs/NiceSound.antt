-- What is found is what the tokens become.
use Rattle.std.specs.Prelude.{option_map, option_and_then}
use Rattle.std.proofs.Common.{◌≡◌, ℕ, zero, suc, true, false, if◌then◌else◌, List, [], ◌∷◌, ◌++◌, Option, Some, refl, ap, sym, ◌∙◌, subst, append_assoc}
use Rattle.std.specs.Prelude.{codes}
use Rattle.pdl_nice.specs.declared.looks.Look.TheVariants.{Shuts as shuts, Comma as comma, Colon as colon, Star as star}
use Rattle.pdl_nice.specs.declared.looks.Look.{Look}
use Rattle.pdl_lex.specs.Written.{Written}
use Rattle.pdl_nice.specs.Looks.{look, before_of, begins_nice}
use Rattle.pdl_nice.specs.declared.looks.Before.{Before}
use Rattle.pdl_nice.specs.declared.looks.Before.TheVariants.{Other as another}
use Rattle.pdl_nice.specs.Nice.{is_bar, is_star, is_value, Cut, cut, inner_of, Part, Argument, Arguments, Becomes, AllBecome, done, stays, nice, no_more, and_then, nothing, something, whole, dropped, one, new, sized, span, stepped, last, more}
use Rattle.pdl_nice.specs.Reading.{Read, read, each, Front, front, headed_by, spanning, is_comma, is_colon, value_of, part_of, starred_of, unstarred_of, simple_of, third_of, second_of, first_of_parts, argument_at, arguments_at, call_before, reader}
use Rattle.pdl_lemmas.specs.Options.{some_inj, none_some, map_elim, choose_elim, then_elim}
use Rattle.pdl_nice.proofs.Options.{false_true, if_elim}
use Rattle.pdl_nice.proofs.NiceCuts.{IsCut, cut_sound, inner_sound}

pub star_is : (l : Look) → is_star l ≡ true → l ≡ star
star_is star e = refl
star_is _ e = absurd (false_true e)

colon_is : (l : Look) → is_colon l ≡ true → l ≡ colon
colon_is colon e = refl
colon_is _ e = absurd (false_true e)

comma_is : (l : Look) → is_comma l ≡ true → l ≡ comma
comma_is comma e = refl
comma_is _ e = absurd (false_true e)

shut_left : (l : Look) → is_bar l ≡ true → is_colon l ≡ false → is_comma l ≡ false → l ≡ shuts
shut_left shuts b c d = refl
shut_left colon b c d = absurd (false_true (sym c))
shut_left comma b c d = absurd (false_true (sym d))
shut_left _ b c d = absurd (false_true b)

-- an argument at the front of tokens, up to a comma or a bracket
pub record IsArgument (ts : List Written) (x : Front) : Type 0 where
  pub ws : List Written
  pub is : Argument x.what.pattern x.what.values ws
  pub bar : is_bar (look x.bar) ≡ true
  pub no_colon : is_colon (look x.bar) ≡ false
  pub whole : ts ≡ ws ++ x.bar ∷ x.rest

-- the arguments at the front of tokens, up to their bracket
pub record AreArguments (ts : List Written) (x : Front) : Type 0 where
  pub ws : List Written
  pub is : Arguments x.what.pattern x.what.values ws
  pub shut : look x.bar ≡ shuts
  pub whole : ts ≡ ws ++ x.bar ∷ x.rest

abbrev IsPart : List Written → Read → Type 0
IsPart ws x = Part x.pattern x.values ws

abbrev Is : List Written → Read → Type 0
Is ws x = Argument x.pattern x.values ws

value_elim : (P : Type 0) (p : List ℕ) (ws : List Written) (x : Read) → value_of p ws ≡ Some x → (is_value ws ≡ true → read p (ws ∷ []) ≡ x → P) → P
value_elim P p ws x e h = if_elim P (is_value ws) e (λ v k. h v (some_inj k)) (λ v k. absurd (none_some k))

part_sound : (ws : List Written) (x : Read) → part_of ws ≡ Some x → IsPart ws x
unfolding part_of
part_sound [] x e = subst (IsPart []) (some_inj e) nothing
part_sound (w ∷ ws) x e = value_elim (IsPart (w ∷ ws) x) (codes "#") (w ∷ ws) x e (λ v same. subst (IsPart (w ∷ ws)) same (something v))

starred_sound : (w : Written) (ws : List Written) (x : Read) → look w ≡ star → starred_of ws ≡ Some x → Is (w ∷ ws) x
starred_sound w [] x h e = subst (Is (w ∷ [])) (some_inj e) (new h)
starred_sound w (v ∷ ws) x h e =
    value_elim (Is (w ∷ v ∷ ws) x) (codes "*#") (v ∷ ws) x e (λ u same. subst (Is (w ∷ v ∷ ws)) same (sized h u))

plain_sound : (ws : List Written) (x : Read) → unstarred_of ws ≡ Some x → Is ws x
plain_sound ws x e =
    choose_elim (Is ws x) (value_of (codes "#") ws) (λ us. Some (read (codes "(#)") (us ∷ []))) (inner_of ws) e
    (λ h k. value_elim (Is ws x) (codes "#") ws x k (λ v same. subst (Is ws) same (one h v)))
    (λ us h k. let i = inner_sound ws us h in
    subst (λ t. Is t x) (sym i.whole) (subst (Is (i.o ∷ (us ++ i.s ∷ []))) (some_inj k) (dropped i.s i.opening i.is i.closing)))

simple_sound : (ws : List Written) (x : Read) → simple_of ws ≡ Some x → Is ws x
unfolding simple_of
simple_sound [] x e = subst (Is []) (some_inj e) whole
simple_sound (w ∷ ws) x e =
    if_elim (Is (w ∷ ws) x) (is_star (look w)) e
    (λ h k. starred_sound w ws x (star_is (look w) h) k)
    (λ h k. plain_sound (w ∷ ws) x k)

third_sound : (ws vs : List Written) (c d : Written) (rest : List Written) (p q : Read) (z : Cut) (t : Front) →
    IsPart ws p → look c ≡ colon → IsPart vs q → look d ≡ colon → IsCut [] rest z → third_of z ≡ Some t →
    IsArgument (ws ++ c ∷ (vs ++ d ∷ rest)) (spanning p (spanning q t))
third_sound ws vs c d rest p q z t h hc k kd cut_is e =
    let goal : Front → Type 0 = λ x. IsArgument (ws ++ c ∷ (vs ++ d ∷ rest)) (spanning p (spanning q x)) in
    if_elim (goal t) (is_colon (look z.bar)) e
    (λ b n. absurd (none_some n))
    (λ b m. map_elim (goal t) (front z.bar z.rest) (value_of (codes "#") z.front) m
    (λ x v same. value_elim (goal t) (codes "#") z.front x v
    (λ u is. subst goal same (subst (λ r. goal (front z.bar z.rest r)) is (record {
      ws = ws ++ c ∷ (vs ++ d ∷ z.front);
      is = stepped c d z.front h hc k kd u;
      bar = cut_is.bar;
      no_colon = b;
      whole = ap (λ r. ws ++ c ∷ (vs ++ d ∷ r)) cut_is.whole
          ∙ (ap (λ r. ws ++ c ∷ r) (sym (append_assoc vs (d ∷ z.front) (z.bar ∷ z.rest)))
          ∙ sym (append_assoc ws (c ∷ (vs ++ d ∷ z.front)) (z.bar ∷ z.rest)));
    })))))

second_sound : (ws : List Written) (c : Written) (rest : List Written) (p : Read) (y : Cut) (t : Front) →
    IsPart ws p → look c ≡ colon → IsCut [] rest y → second_of y ≡ Some t → IsArgument (ws ++ c ∷ rest) (spanning p t)
second_sound ws c rest p y t h hc cut_is e =
    let goal : Front → Type 0 = λ x. IsArgument (ws ++ c ∷ rest) (spanning p x) in
    then_elim (goal t)
    (λ q. if is_colon (look y.bar) then option_map (spanning q) (option_and_then third_of (cut [] y.rest)) else Some (front y.bar y.rest q))
    (part_of y.front) e
    (λ q m r. if_elim (goal t) (is_colon (look y.bar)) r
    (λ b k. map_elim (goal t) (spanning q) (option_and_then third_of (cut [] y.rest)) k
    (λ x l same. then_elim (goal t) third_of (cut [] y.rest) l
    (λ z cz u. subst goal same (subst (λ r. IsArgument (ws ++ c ∷ r) (spanning p (spanning q x))) (sym cut_is.whole)
    (third_sound ws y.front c y.bar y.rest p q z x h hc (part_sound y.front q m) (colon_is (look y.bar) b) (cut_sound [] y.rest z cz) u)))))
    (λ b k. subst goal (some_inj k) (record {
      ws = ws ++ c ∷ y.front;
      is = span c h hc (part_sound y.front q m);
      bar = cut_is.bar;
      no_colon = b;
      whole = ap (λ r. ws ++ c ∷ r) cut_is.whole ∙ sym (append_assoc ws (c ∷ y.front) (y.bar ∷ y.rest));
    })))

pub argument_sound : (ts : List Written) (a : Front) → argument_at ts ≡ Some a → IsArgument ts a
unfolding argument_at
argument_sound ts a e =
    then_elim (IsArgument ts a) first_of_parts (cut [] ts) e
    (λ x cx k. let i = cut_sound [] ts x cx in
    if_elim (IsArgument ts a) (is_colon (look x.bar)) k
    (λ b r. then_elim (IsArgument ts a) (λ p. option_map (spanning p) (option_and_then second_of (cut [] x.rest))) (part_of x.front) r
    (λ p m t. map_elim (IsArgument ts a) (spanning p) (option_and_then second_of (cut [] x.rest)) t
    (λ u l same. then_elim (IsArgument ts a) second_of (cut [] x.rest) l
    (λ y cy v. subst (IsArgument ts) same (subst (λ t. IsArgument t (spanning p u)) (sym i.whole)
    (second_sound x.front x.bar x.rest p y u (part_sound x.front p m) (colon_is (look x.bar) b) (cut_sound [] x.rest y cy) v))))))
    (λ b r. map_elim (IsArgument ts a) (front x.bar x.rest) (simple_of x.front) r
    (λ s m same. subst (IsArgument ts) same (record {
      ws = x.front;
      is = simple_sound x.front s m;
      bar = i.bar;
      no_colon = b;
      whole = i.whole;
    }))))

pub arguments_sound : (k : ℕ) (ts : List Written) (a : Front) → arguments_at k ts ≡ Some a → AreArguments ts a
unfolding arguments_at
arguments_sound zero ts a e = absurd (none_some e)
arguments_sound (suc k) ts a e =
    then_elim (AreArguments ts a) (λ x. if is_comma (look x.bar) then option_map (headed_by x.what) (arguments_at k x.rest) else Some x) (argument_at ts) e
    (λ x m r. let i = argument_sound ts x m in
    if_elim (AreArguments ts a) (is_comma (look x.bar)) r
    (λ b t. map_elim (AreArguments ts a) (headed_by x.what) (arguments_at k x.rest) t
    (λ y u same. let j = arguments_sound k x.rest y u in
    subst (AreArguments ts) same (record {
      ws = i.ws ++ x.bar ∷ j.ws;
      is = more x.bar i.is (comma_is (look x.bar) b) j.is;
      shut = j.shut;
      whole = i.whole ∙ (ap (λ r. i.ws ++ x.bar ∷ r) j.whole ∙ sym (append_assoc i.ws (x.bar ∷ j.ws) (y.bar ∷ y.rest)));
    })))
    (λ b t. subst (AreArguments ts) (some_inj t) (record {
      ws = i.ws;
      is = last i.is;
      shut = shut_left (look x.bar) i.bar i.no_colon b;
      whole = i.whole;
    })))

each_sound : (f : List Written → Option (List Written)) → ((e u : List Written) → f e ≡ Some u → Becomes another e u) →
    (es us : List (List Written)) → each f es ≡ Some us → AllBecome es us
unfolding each
each_sound f sound [] us e = subst (AllBecome []) (some_inj e) no_more
each_sound f sound (x ∷ es) us e =
    then_elim (AllBecome (x ∷ es) us) (λ u. option_map (λ vs. u ∷ vs) (each f es)) (f x) e
    (λ u m k. map_elim (AllBecome (x ∷ es) us) (λ vs. u ∷ vs) (each f es) k
    (λ vs t same. subst (AllBecome (x ∷ es)) same (and_then (sound x u m) (each_sound f sound es vs t))))

pub reader_sound : (n : ℕ) (b : Before) (ts us : List Written) → reader n b ts ≡ Some us → Becomes b ts us
unfolding reader
reader_sound zero b ts us e = absurd (none_some e)
reader_sound (suc n) b [] us e = subst (Becomes b []) (some_inj e) done
reader_sound (suc n) b (w ∷ ts) us e =
    if_elim (Becomes b (w ∷ ts) us) (begins_nice b (look w)) e
    (λ h k. then_elim (Becomes b (w ∷ ts) us)
    (λ x. option_and_then (λ vs. option_map (call_before b w.gap x.what.pattern vs) (reader n another x.rest)) (each (reader n another) x.what.values))
    (arguments_at n ts) k
    (λ x m r. let a = arguments_sound n ts x m in
    then_elim (Becomes b (w ∷ ts) us) (λ vs. option_map (call_before b w.gap x.what.pattern vs) (reader n another x.rest)) (each (reader n another) x.what.values) r
    (λ vs t q. map_elim (Becomes b (w ∷ ts) us) (call_before b w.gap x.what.pattern vs) (reader n another x.rest) q
    (λ rest l same. subst (Becomes b (w ∷ ts)) same
    (subst (λ t. Becomes b (w ∷ t) (call_before b w.gap x.what.pattern vs rest)) (sym a.whole)
    (nice x.bar h a.is a.shut (each_sound (reader n another) (reader_sound n another) x.what.values vs t) (reader_sound n another x.rest rest l)))))))
    (λ h k. map_elim (Becomes b (w ∷ ts) us) (λ u. w ∷ u) (reader n (before_of (look w)) ts) k
    (λ vs t same. subst (Becomes b (w ∷ ts)) same (stays h (reader_sound n (before_of (look w)) ts vs t))))
