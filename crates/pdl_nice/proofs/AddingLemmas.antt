-- What is added of patterns and of the places of expressions.
use Rattle.std.proofs.Common.{◌≡◌, ℕ, ◌≤◌, List, [], ◌∷◌, ◌++◌, refl, sym, ap, ◌∙◌, arith, append_assoc}
use Rattle.std.proofs.lemmas.List.{append-nil}
use Rattle.pdl_lex.specs.Written.{Written}
use Rattle.pdl_nice.specs.Reading.{Read, read}
use Rattle.pdl_nice.specs.Ends.{range}
use Rattle.pdl_nice.specs.Adding.{shown, LieIn, AllLieIn, Adds}

pub shown_both : (ws : List Written) (ps qs : List (ℕ × ℕ)) → shown ws (ps ++ qs) ≡ shown ws ps ++ shown ws qs
shown_both ws [] qs = refl
shown_both ws (p ∷ ps) qs = ap (λ es. range ws p.0 p.1 ∷ es) (shown_both ws ps qs)

pub lie_wider : (from to a b : ℕ) (ps : List (ℕ × ℕ)) → from ≤ a → b ≤ to → AllLieIn a b ps → AllLieIn from to ps
lie_wider from to a b [] l r h = tt
lie_wider from to a b (p ∷ ps) l r h =
    let one = h.0 in
    let first = one.0 in
    let last = one.2 in
    ((omega (arith, first, l), one.1, omega (arith, last, r)), lie_wider from to a b ps l r h.1)

pub lie_both : (from to : ℕ) (ps qs : List (ℕ × ℕ)) → AllLieIn from to ps → AllLieIn from to qs → AllLieIn from to (ps ++ qs)
lie_both from to [] qs h k = k
lie_both from to (p ∷ ps) qs h k = (h.0, lie_both from to ps qs h.1 k)

pub nothing_added : (ws : List Written) (from to : ℕ) (xs : List ℕ) (ps : List (ℕ × ℕ)) → Adds ws from to xs xs ps ps (read [] [])
nothing_added ws from to xs ps = record { pattern = sym (append-nil xs); more = []; behind = sym (append-nil ps); values = refl; lie = tt }

pub one_added : (ws : List Written) (from to a b : ℕ) (p xs ys : List ℕ) (ps qs : List (ℕ × ℕ)) → ys ≡ xs ++ p → qs ≡ ps ++ (a, b) ∷ [] →
    LieIn from to (a, b) → Adds ws from to xs ys ps qs (read p (range ws a b ∷ []))
one_added ws from to a b p xs ys ps qs e f l = record { pattern = e; more = (a, b) ∷ []; behind = f; values = refl; lie = (l, tt) }

-- with bytes of the pattern before or behind, and between wider places
pub added_behind : {ws : List Written} {a b : ℕ} {xs ys zs : List ℕ} {ps qs : List (ℕ × ℕ)} {x : Read} (from to : ℕ) (p : List ℕ) →
    Adds ws a b ys zs ps qs x → ys ≡ xs ++ p → from ≤ a → b ≤ to → Adds ws from to xs zs ps qs (read (p ++ x.pattern) x.values)
added_behind {a = a} {b = b} {xs = xs} {x = x} from to p h e l r = record {
  pattern = h.pattern ∙ (ap (λ ys. ys ++ x.pattern) e ∙ append_assoc xs p x.pattern);
  more = h.more;
  behind = h.behind;
  values = h.values;
  lie = lie_wider from to a b h.more l r h.lie;
}

pub added_before : {ws : List Written} {a b : ℕ} {xs ys zs : List ℕ} {ps qs : List (ℕ × ℕ)} {x : Read} (from to : ℕ) (p : List ℕ) →
    Adds ws a b xs ys ps qs x → zs ≡ ys ++ p → from ≤ a → b ≤ to → Adds ws from to xs zs ps qs (read (x.pattern ++ p) x.values)
added_before {a = a} {b = b} {xs = xs} {x = x} from to p h e l r = record {
  pattern = e ∙ (ap (λ ys. ys ++ p) h.pattern ∙ append_assoc xs x.pattern p);
  more = h.more;
  behind = h.behind;
  values = h.values;
  lie = lie_wider from to a b h.more l r h.lie;
}

-- one behind the other
pub two_added : {ws : List Written} {a b c d : ℕ} {xs ys zs : List ℕ} {ps qs rs : List (ℕ × ℕ)} {x y : Read} (from to : ℕ) →
    Adds ws a b xs ys ps qs x → Adds ws c d ys zs qs rs y → from ≤ a → b ≤ to → from ≤ c → d ≤ to →
    Adds ws from to xs zs ps rs (read (x.pattern ++ y.pattern) (x.values ++ y.values))
two_added {ws = ws} {a = a} {b = b} {c = c} {d = d} {xs = xs} {ps = ps} {x = x} {y = y} from to h k l m n o = record {
  pattern = k.pattern ∙ (ap (λ ys. ys ++ y.pattern) h.pattern ∙ append_assoc xs x.pattern y.pattern);
  more = h.more ++ k.more;
  behind = k.behind ∙ (ap (λ qs. qs ++ k.more) h.behind ∙ append_assoc ps h.more k.more);
  values = shown_both ws h.more k.more ∙ (ap (λ es. es ++ shown ws k.more) h.values ∙ ap (λ es. x.values ++ es) k.values);
  lie = lie_both from to h.more k.more (lie_wider from to a b h.more l m h.lie) (lie_wider from to c d k.more n o k.lie);
}
