-- Numbers as arguments of a call.
use Rattle.std.proofs.Common.{◌≡◌, ℕ, suc, ◌+◌, ◌<◌, ◌≤◌, List, [], ◌∷◌, ◌++◌, refl, sym, ◌∙◌, ap, ap₂, arith, map, ℤ, pos, negsuc, append_assoc}
use Rattle.std.proofs.lemmas.Bool.{ltb-false}
use Rattle.std.proofs.lemmas.Int.{ints}
use Rattle.std.proofs.lemmas.List.{append-nil}
use Rattle.std.specs.Prelude.{Some, Ok, nat_lt}
use Rattle.pdl_lemmas.specs.Tests.{by_test}
use Rattle.pdl_elem.specs.declared.Ty.{Ty}
use Rattle.pdl_elem.specs.declared.Ty.TheVariants.{Long}
use Rattle.pdl_elem.specs.declared.UnaryOp.TheVariants.{Neg}
use Rattle.pdl_elem.specs.Laws.{WrappingLaws}
use Rattle.pdl_elem.specs.Types.{InRange}
use Rattle.pdl_lexemes.specs.Lists.{type_of}
use Rattle.pdl_ops.specs.Elementwise.{unary_each}
use Rattle.pdl_syntax.specs.Tree.{Args, number, value}
use Rattle.pdl_reread.specs.Trees.{number_tree, with_numbers, with_sizes, AllFit}
use Rattle.pdl_world.specs.Laws.{NewRootIsSeen, NewRootIsWhole}
use Rattle.pdl_world.specs.Sound.{IsLive}
use Rattle.pdl_world.specs.World.{ArrayDef, root, elements, look_of_root}
use Rattle.pdl_machine.specs.Arrays.{Arrays, with_new}
use Rattle.pdl_machine.specs.Fills.{number_in, only}
use Rattle.pdl_machine.specs.Names.{Names}
use Rattle.pdl_machine.specs.Outcome.{array, Given, all_seen, new_root}
use Rattle.pdl_machine.specs.Then.{and_then, and_more, all_of}
use Rattle.pdl_machine.specs.Value.{value_of, taken}
use Rattle.pdl_rebuild.proofs.RebuiltPassing.{with_all, with_all_append, AreFine, all_fine, live_by, OlderLaws, all_stay, root_shown}

-- the array of a number
abbrev pub number_def : Ty → ℤ → ArrayDef
number_def ty n = root ty [] (n ∷ [])

-- the new arrays of a number as an argument: below 0 it is made and then negated
abbrev pub number_defs : ℤ → List ArrayDef
number_defs (pos n) = number_def (type_of (pos n ∷ [])) (pos n) ∷ []
number_defs (negsuc n) =
    let ty = type_of (pos (suc n) ∷ []) in
    number_def ty (pos (suc n)) ∷ number_def ty (negsuc n) ∷ []

-- the last of them, where these are numbered from k on
abbrev pub last_of : ℕ → ℤ → ℕ
last_of k (pos n) = k
last_of k (negsuc n) = k + 1

-- a number below 0 that can be negated
abbrev pub CanNegate : ℤ → Type 0
CanNegate (pos n) = Unit {0}
CanNegate (negsuc n) = n < 9223372036854775807

abbrev pub AllCanNegate : List ℤ → Type 0
AllCanNegate [] = Unit {0}
AllCanNegate (n ∷ ns) = CanNegate n × AllCanNegate ns

pub fitting_negate : (ns : List ℤ) → AllFit ns → AllCanNegate ns
fitting_negate [] fit = tt
fitting_negate (pos n ∷ ns) fit = (tt, fitting_negate ns fit.1)
fitting_negate (negsuc n ∷ ns) fit = (omega (arith, fit.0), fitting_negate ns fit.1)

pub sizes_negate : (ds : List ℕ) → AllCanNegate (map pos ds)
sizes_negate [] = tt
sizes_negate (d ∷ ds) = (tt, sizes_negate ds)

pub sizes_are_numbers : (front : Args) (ds : List ℕ) → with_sizes front ds ≡ with_numbers front (map pos ds)
sizes_are_numbers front [] = refl
sizes_are_numbers front (d ∷ ds) = sizes_are_numbers (value front (number (pos d))) ds

-- all new arrays of numbers, and the arguments that they are
abbrev pub all_defs : List ℤ → List ArrayDef
all_defs [] = []
all_defs (n ∷ ns) = number_defs n ++ all_defs ns

abbrev pub numbers_from : ℕ → List ℤ → List Given
numbers_from k [] = []
numbers_from k (n ∷ ns) = array (last_of k n) ∷ numbers_from (last_of k n + 1) ns

pub record NumberLaws : Type 0 where
  pub older : OlderLaws
  pub seen : NewRootIsSeen
  pub whole : NewRootIsWhole
  pub wrapping : WrappingLaws

negated_in_range : (n : ℕ) → n < 9223372036854775807 → InRange (type_of (pos (suc n) ∷ [])) (negsuc n)
negated_in_range n small =
    by_test (nat_lt 2147483647 (suc n))
    (λ large. rw large (omega (arith, ints), omega (arith, ints)))
    (λ fits. rw fits (long (ltb-false 2147483647 (suc n) fits)))
  where
    long : suc n ≤ 2147483647 → InRange Long (negsuc n)
    long fits = (omega (arith, ints), omega (arith, ints))

module _ (laws : NumberLaws) where
  number_valued : (names : Names) (a : Arrays) (n : ℤ) → CanNegate n → value_of names a (number_tree n) ≡ Ok (with_all a (number_defs n), last_of a.next n)
  number_valued names a (pos n) can = refl
  number_valued names a (negsuc n) can =
      let ty : Ty = type_of (pos (suc n) ∷ []) in
      let b : Arrays = (with_new a (number_def ty (pos (suc n)))).0 in
      ap (λ m. new_root b (unary_each Neg m)) (root_shown laws.seen a ty [] (pos (suc n) ∷ []) refl)
      ∙ ap (λ z. new_root b (record { ty = ty; dims = []; elems = z ∷ [] })) (laws.wrapping.same ty (negsuc n) (negated_in_range n can))

  pub numbers_taken : (names : Names) (a b : Arrays) (front : Args) (given : List Given) (ns : List ℤ) → AllCanNegate ns → taken names a front ≡ Ok (b, given)
      → taken names a (with_numbers front ns) ≡ Ok (with_all b (all_defs ns), given ++ numbers_from b.next ns)
  numbers_taken names a b front given [] can so_far = so_far ∙ ap (λ g. Ok (b, g)) (sym (append-nil given))
  numbers_taken names a b front given (n ∷ ns) can so_far =
      let c : Arrays = with_all b (number_defs n) in
      let one : List Given = array (last_of b.next n) ∷ [] in
      numbers_taken names a c (value front (number_tree n)) (given ++ one) ns can.1
      (ap (λ r. and_then r (λ t. and_then (value_of names t.0 (number_tree n)) (λ v. Ok (v.0, t.1 ++ array v.1 ∷ [])))) so_far
      ∙ ap (λ r. and_then r (λ v. Ok (v.0, given ++ array v.1 ∷ []))) (number_valued names b n can.0))
      ∙ ap₂ (λ d g. Ok (d, g)) (sym (with_all_append b (number_defs n) (all_defs ns)))
      (append_assoc given one (numbers_from c.next ns) ∙ ap (λ k. given ++ (one ++ numbers_from k ns)) (next_is b n))
    where
      next_is : (b : Arrays) (n : ℤ) → (with_all b (number_defs n)).next ≡ last_of b.next n + 1
      next_is b (pos n) = refl
      next_is b (negsuc n) = refl

  number_live : (a : Arrays) (n : ℤ) → IsLive (with_all a (number_defs n)).world (last_of a.next n)
  number_live a (pos n) = live_by (with_all a (number_defs (pos n))).world a.next (look_of_root a.next (type_of (pos n ∷ [])) []) (laws.whole a.world a.next (type_of (pos n ∷ [])) [] (pos n ∷ []))
  number_live a (negsuc n) =
      let ty : Ty = type_of (pos (suc n) ∷ []) in
      let b : Arrays = (with_new a (number_def ty (pos (suc n)))).0 in
      live_by (with_all a (number_defs (negsuc n))).world b.next (look_of_root b.next ty []) (laws.whole b.world b.next ty [] (negsuc n ∷ []))

  number_elements : (a : Arrays) (n : ℤ) → elements (with_all a (number_defs n)).world (last_of a.next n) ≡ n ∷ []
  number_elements a (pos n) = (laws.seen a.world a.next (type_of (pos n ∷ [])) [] (pos n ∷ []) refl).elems_are
  number_elements a (negsuc n) =
      let ty : Ty = type_of (pos (suc n) ∷ []) in
      let b : Arrays = (with_new a (number_def ty (pos (suc n)))).0 in
      (laws.seen b.world b.next ty [] (negsuc n ∷ []) refl).elems_are

  pub numbers_seen : (a : Arrays) (ns : List ℤ) → AreFine a → all_of number_in (all_seen (with_all a (all_defs ns)) (numbers_from a.next ns)) ≡ Some ns
  numbers_seen a [] fine = refl
  numbers_seen a (n ∷ ns) fine =
      let b : Arrays = with_all a (number_defs n) in
      ap (λ c. all_of number_in (all_seen c (array (last_of a.next n) ∷ numbers_from (last_of a.next n + 1) ns))) (with_all_append a (number_defs n) (all_defs ns))
      ∙ ap₂ (λ es rest. and_more (only es) rest)
      ((all_stay laws.older b (last_of a.next n) (all_defs ns) (all_fine a (number_defs n) fine) (number_live a n)).elements_are ∙ number_elements a n)
      (ap (λ k. all_of number_in (all_seen (with_all b (all_defs ns)) (numbers_from k ns))) (sym (next_is a n)) ∙ numbers_seen b ns (all_fine a (number_defs n) fine))
    where
      next_is : (a : Arrays) (n : ℤ) → (with_all a (number_defs n)).next ≡ last_of a.next n + 1
      next_is a (pos n) = refl
      next_is a (negsuc n) = refl
