-- The statements that memory refused, as a runner comes further.
use Rattle.std.proofs.Common.{◌≡◌, ℕ, ◌+◌, ◌<◌, ◌≤◌, List, [], ◌∷◌, ◌++◌, length, get_or, true, false, cond, refl, sym, ◌∙◌, ap, subst, arith, append-nil, eq-eqb}
use Rattle.std.specs.Prelude.{◌||◌, ◌==◌, nat_lt}
use Rattle.std.specs.List.{All, AllPairs, list_any}
use Rattle.std.proofs.Math.Nat.{le_refl, le_trans}
use Rattle.std.proofs.lemmas.Bool.{lt-ltb, ne_eqb, true≢false}
use Rattle.std.proofs.lemmas.List.{get_or_append_left, length-append}
use Rattle.std.proofs.lemmas.List.Kept.{AllPairs-from_increasing}
use Rattle.std.proofs.Math.Seq.{get_or-append_seam}
use Rattle.std.proofs.lemmas.List.Folds.{list_any-append, list_any_none}
use Rattle.std.proofs.Math.Bool.{or-true, or-false}
use Rattle.pdl_watch.specs.Slots.{StartsWith}
use Rattle.pdl_machine.specs.Run.{Terms, is_among, refused_limit, run}
use Rattle.pdl_machine.specs.RunLaws.{RefusedAreGiven, RefusedRise}
use Rattle.pdl_shell.specs.declared.runner.Runner.{Runner}
use Rattle.pdl_shell.specs.Course.{Foretells, IsLater}

-- a number above all of the list isn't among them
pub unrefused : (ns : List ℕ) (before number : ℕ) → All (λ n. n ≤ before) ns → before < number → is_among ns number ≡ false
unrefused ns before number all more = list_any_none (λ n. n == number) ns (λ k d lt. apart _ (all k d lt))
  where
    apart : (n : ℕ) → n ≤ before → (n == number) ≡ false
    apart n le = ne_eqb n number (λ is. omega (arith, is, le, more))

pub last_among : (ns : List ℕ) (number : ℕ) → is_among (ns ++ number ∷ []) number ≡ true
last_among ns number =
    list_any-append (λ n. n == number) ns (number ∷ [])
    ∙ ap (λ b. list_any (λ n. n == number) ns || (b || false)) (eq-eqb number number refl)
    ∙ or-true (list_any (λ n. n == number) ns)

-- a number that is added changes nothing of those below it
below_last : (ns : List ℕ) (last number : ℕ) → number < last → is_among (ns ++ last ∷ []) number ≡ is_among ns number
below_last ns last number less =
    list_any-append (λ n. n == number) ns (last ∷ [])
    ∙ ap (λ b. list_any (λ n. n == number) ns || (b || false)) (ne_eqb last number (λ is. omega (arith, is, less)))
    ∙ or-false (list_any (λ n. n == number) ns)

-- a number that is added where there is room
pub added : (ns : List ℕ) (last : ℕ) → length ns < refused_limit → cond (nat_lt (length ns) refused_limit) (ns ++ last ∷ []) ns ≡ ns ++ last ∷ []
added ns last room = ap (λ b. cond b (ns ++ last ∷ []) ns) (lt-ltb (length ns) refused_limit room)

added_stays : (ns : List ℕ) (last number : ℕ) → number < last → is_among (cond (nat_lt (length ns) refused_limit) (ns ++ last ∷ []) ns) number ≡ is_among ns number
added_stays ns last number less =
    elim (nat_lt (length ns) refused_limit) as (λ b. is_among (cond b (ns ++ last ∷ []) ns) number ≡ is_among ns number) [
      | true ↦ below_last ns last number less
      | false ↦ refl
    ]

pub later_by : (old new : Runner) → old.count ≤ new.count → new.refused ≡ old.refused → IsLater old new
later_by old new counts same = record { counts = counts; stays = λ n le. ap (λ ns. is_among ns n) same }

pub later_refused : (old new : Runner) → old.count < new.count → new.refused ≡ cond (nat_lt (length old.refused) refused_limit) (old.refused ++ new.count ∷ []) old.refused
    → IsLater old new
later_refused old new more is = record {
  counts = omega (arith, more);
  stays = λ n le. ap (λ ns. is_among ns n) is ∙ added_stays old.refused new.count n (omega (arith, more, le));
}

pub later_refl : (runner : Runner) → IsLater runner runner
later_refl runner = record { counts = le_refl runner.count; stays = λ n le. refl }

pub later_then : (a b c : Runner) → IsLater a b → IsLater b c → IsLater a c
later_then a b c one two = record {
  counts = le_trans one.counts two.counts;
  stays = λ n le. two.stays n (le_trans le one.counts) ∙ one.stays n le;
}

-- a runner with another cutter
pub later_same : (old new : Runner) → new ≡ record old { cutter = new.cutter } → IsLater old new
later_same old new same = subst (λ (r : Runner). IsLater old r) (sym same) (record { counts = le_refl old.count; stays = λ n le. refl })

-- terms that have the refusals of a later runner have those of an earlier one
pub foretold : (terms : Terms) (old new : Runner) → IsLater old new → Foretells terms new → Foretells terms old
foretold terms old new later fore = λ n le. fore n (le_trans le later.counts) ∙ later.stays n le

pub foretells_all : (terms : Terms) (runner : Runner) → terms.refused ≡ runner.refused → Foretells terms runner
foretells_all terms runner is = λ n le. ap (λ ns. is_among ns n) is

-- of numbers that rise none is among those before it
none_more : (ns more : List ℕ) → AllPairs (λ x y. x < y) (ns ++ more) → All (λ n. is_among ns n ≡ true) (ns ++ more) → more ≡ []
none_more ns [] rise among = refl
none_more ns (m ∷ more) rise among = absurd (true≢false (sym is_in ∙ is_out))
  where
    long : length (ns ++ m ∷ more) ≡ length ns + length (m ∷ more)
    long = length-append ns (m ∷ more)

    at : (d : ℕ) → get_or (ns ++ m ∷ more) (length ns) d ≡ m
    at d = get_or-append_seam ns m more d

    is_in : is_among ns m ≡ true
    is_in = subst (λ n. is_among ns n ≡ true) (at 0) (among (length ns) 0 (omega (arith, long)))

    is_out : is_among ns m ≡ false
    is_out = list_any_none (λ n. n == m) ns (λ k d lt. (let below = rise k (length ns) d lt (omega (arith, long)) in
        ne_eqb (get_or ns k d) m (λ is. omega (arith, below, get_or_append_left ns (m ∷ more) d k lt, at d, is))))

-- a run that meets first all the statements that its terms refuse meets no more of them
pub all_met : RefusedAreGiven → RefusedRise → (terms : Terms) (script : List ℕ) → StartsWith (run terms script).refused terms.refused
    → (run terms script).refused ≡ terms.refused
all_met given rising terms script starts =
    let whole : (run terms script).refused ≡ terms.refused ++ starts.0 = starts.1 in
    let none : starts.0 ≡ [] =
    none_more terms.refused starts.0
    (subst (AllPairs (λ x y. x < y)) whole (AllPairs-from_increasing (run terms script).refused (rising terms script)))
    (subst (All (λ n. is_among terms.refused n ≡ true)) whole (λ k d lt. (given terms script k d lt).0)) in
    whole ∙ ap (λ (ns : List ℕ). terms.refused ++ ns) none ∙ append-nil terms.refused
