-- Calls of view words.
use Rattle.std.proofs.Common.{◌≡◌, ℕ, List, [], ◌∷◌, ◌++◌, refl, ◌∙◌, ap}
use Rattle.std.specs.Prelude.{Some, None, Ok, codes}
use Rattle.pdl_slices.specs.declared.SliceArg.{SliceArg}
use Rattle.pdl_slices.specs.Meaning.{slice_of}
use Rattle.pdl_affine.specs.declared.Affine.TheVariants as affine
use Rattle.pdl_syntax.specs.Tree.{Tree, Args, named, call, none, value, text}
use Rattle.pdl_world.specs.declared.Trans.{Trans}
use Rattle.pdl_world.specs.declared.Trans.TheVariants.{Affine}
use Rattle.pdl_world.specs.Refused.{view_refusal}
use Rattle.pdl_world.specs.World.{view}
use Rattle.pdl_machine.specs.declared.builtin.Builtin.{Builtin}
use Rattle.pdl_machine.specs.declared.builtin.Builtin.TheVariants.{Slice}
use Rattle.pdl_machine.specs.declared.fault.Fault.TheVariants.{UnknownFunction}
use Rattle.pdl_machine.specs.Arrays.{Arrays, with_new}
use Rattle.pdl_machine.specs.Builtin.{builtin_of}
use Rattle.pdl_machine.specs.Calls.{outcome, callee_among, value_by, call_value}
use Rattle.pdl_machine.specs.Names.{Names, found}
use Rattle.pdl_machine.specs.Outcome.{array, string, Given, viewed, new_view, placed, all_seen}
use Rattle.pdl_machine.specs.Refused.{or_named}
use Rattle.pdl_machine.specs.Then.{and_then, or_fault}
use Rattle.pdl_machine.specs.Value.{value_of, taken, known}
use Rattle.pdl_machine.specs.Views.{slice_fault}

-- the view that a call gives of its first argument
pub viewed_call : (names : Names) (a b : Arrays) (f : List ℕ) (args : Args) (v : ℕ) (given : List Given) (word : Builtin) (t : Trans)
    → taken names a args ≡ Ok (b, array v ∷ given) → builtin_of f ≡ Some word → outcome word (all_seen b (array v ∷ given)) ≡ Ok (viewed t) → view_refusal b.world v t ≡ None
    → value_of names a (call f args) ≡ Ok (with_new b (view v t))
viewed_call names a b f args v given word t taken_is word_is outcome_is allowed =
    ap (λ r. and_then r (λ g. call_value names f g.0 g.1)) taken_is
    ∙ ap (λ o. and_then (or_fault UnknownFunction (callee_among o (found names.kernels f))) (value_by b (array v ∷ given))) word_is
    ∙ ap (placed b (array v ∷ given)) outcome_is
    ∙ ap (new_view b v t) allowed

-- a name as the first argument
pub name_taken : (names : Names) (a : Arrays) (x : List ℕ) (v : ℕ) → found names.arrays x ≡ Some v → taken names a (value none (named x)) ≡ Ok (a, array v ∷ [])
name_taken names a x v is = ap (λ o. and_then (known a o) (λ u. Ok (u.0, [] ++ array u.1 ∷ []))) is

-- one more argument
pub value_taken : (names : Names) (a b c : Arrays) (front : Args) (given : List Given) (e : Tree) (v : ℕ) → taken names a front ≡ Ok (b, given) → value_of names b e ≡ Ok (c, v)
    → taken names a (value front e) ≡ Ok (c, given ++ array v ∷ [])
value_taken names a b c front given e v front_is valued =
    ap (λ r. and_then r (λ t. and_then (value_of names t.0 e) (λ u. Ok (u.0, t.1 ++ array u.1 ∷ [])))) front_is
    ∙ ap (λ r. and_then r (λ u. Ok (u.0, given ++ array u.1 ∷ []))) valued

-- a slice by a text, of the array of an expression
pub slice_valued : (names : Names) (a b : Arrays) (e : Tree) (v : ℕ) (t : List ℕ) (args : List SliceArg)
    → value_of names a e ≡ Ok (b, v) → slice_of t ≡ Ok args → view_refusal b.world v (Affine (affine.Slice args)) ≡ None
    → value_of names a (call (codes "slice") (text (value none e) t)) ≡ Ok (with_new b (view v (Affine (affine.Slice args))))
slice_valued names a b e v t args valued read allowed =
    viewed_call names a b (codes "slice") (text (value none e) t) v (string t ∷ []) Slice (Affine (affine.Slice args))
    (ap (λ r. and_then r (λ g. Ok (g.0, g.1 ++ string t ∷ []))) (value_taken names a a b none [] e v refl valued))
    refl
    (ap (λ r. and_then (or_named slice_fault r) (λ found_args. Ok (viewed (Affine (affine.Slice found_args))))) read)
    allowed
