-- What a resolution and a fit kernel give: the shapes of arguments, and code over arguments of their kinds.
use Rattle.std.proofs.Common.{◌≡◌, ◌≢◌, ℕ, zero, suc, ◌<◌, List, [], ◌∷◌, map, length, drop, get_or, refl, sym, ap, subst, ◌∙◌, arith}
use Rattle.std.specs.Prelude.{true, if◌then◌else◌}
use Rattle.std.specs.List.{AllZip}
use Rattle.std.proofs.lemmas.List.{length-map}
use Rattle.pdl_buf.specs.declared.made.Made.{Made}
use Rattle.pdl_sig.specs.Resolution.{core_sizes, given_after, is_given, made_for, argument_dims, shapes, size_in}
use Rattle.pdl_sig.specs.declared.ArgShape.{ArgShape}
use Rattle.pdl_sig.specs.declared.Resolved.{Resolved}
use Rattle.pdl_sig.specs.declared.Role.{Role}
use Rattle.pdl_sig.specs.declared.Role.TheVariants.{Input, Output, Both, Temp}
use Rattle.pdl_sig.specs.declared.SigArg.{SigArg}
use Rattle.pdl_sig.specs.declared.Signature.{Signature}
use Rattle.pdl_code.specs.Fit.{AreIndicesFit, IsCodeFit, IsEachOnce, IsStepFit, IsTreeFit, argument_of, locals_after, rank_of}
use Rattle.pdl_code.specs.Tree.{Tree, Indices, Step, Code, number, size, named, access, unary, binary, none, along, repeat, choose, keep, put, done, next}
use Rattle.pdl_kernel.specs.Call.{with_given}
use Rattle.pdl_kernel.specs.Over.{AreIndicesOver, IsCodeOver, IsStepOver, IsTreeOver}
use Rattle.pdl_kernel.specs.Places.{Kind, is_written, kind_of, rest_of}
use Rattle.pdl_kernel.specs.Setup.{IsShapeOf, window_of}
use Rattle.pdl_kernel.proofs.SetupLaid.{axes_long}

shape_made : (role : Role) (given : List ArgShape) (made : List ℕ) → role ≢ Input → argument_dims role given made ≡ made
shape_made Input given made h = absurd (h refl)
shape_made Output given made h = refl
shape_made Both given made h = refl
shape_made Temp given made h = refl

pub shapes_are : (r : Resolved) (args : List SigArg) (given : List ArgShape) → AllZip (IsShapeOf r) args (shapes r.sizes r.broadcast args given)
shapes_are r [] given = tt
shapes_are r (a ∷ args) given = (shape_made a.role given (made_for r.sizes r.broadcast a), shapes_are r args (given_after a.role given))

written : (r : Role) → r ≢ Input → is_written r ≡ true
written Input h = absurd (h refl)
written Output h = refl
written Both h = refl
written Temp h = refl

-- an argument of the signature has a kind: its role, and as many dimensions
pub record AreKinds (s : Signature) (ks : List Kind) : Type 0 where
  pub count : length ks ≡ length s.args
  pub role : (a : ℕ) (d : Kind) → a < length s.args → (get_or ks a d).role ≡ (argument_of s a).role
  pub rank : (a : ℕ) (d : Kind) → a < length s.args → length (get_or ks a d).axes ≡ rank_of s a

module _ (s : Signature) (ks : List Kind) (h : AreKinds s ks) where
  mutual
    tree_over : (t : Tree) (n : ℕ) → IsTreeFit s n t → IsTreeOver ks t
    tree_over (number z) n f = tt
    tree_over (size d) n f = tt
    tree_over (named w) n f = tt
    tree_over (access a is) n f =
        (omega (arith, f.0, h.count), (λ d. subst (λ m. IsEachOnce m is) (sym (h.rank a d f.0)) f.3, indices_over is n (rank_of s a) f.2))
    tree_over (unary op e) n f = tree_over e n f
    tree_over (binary op x y) n f = (tree_over x n f.0, tree_over y n f.1)

    indices_over : (is : Indices) (n rank : ℕ) → AreIndicesFit s n rank is → AreIndicesOver ks is
    indices_over none n rank f = tt
    indices_over (along k e rest) n rank f = (tree_over e n f.1, indices_over rest n rank f.2)

  mutual
    step_over : (step : Step) (n : ℕ) → IsStepFit s n step → IsStepOver ks step
    step_over (repeat d body) n f = code_over body n f.1
    step_over (choose e whole other) n f = (tree_over e n f.0, (code_over whole n f.1, code_over other n f.2))
    step_over (keep t op e) n f = tree_over e n f.1
    step_over (put a is op e) n f =
        (λ d. ap is_written (h.role a d f.1.0) ∙ written (argument_of s a).role f.0, (tree_over (access a is) n f.1, tree_over e n f.2))

    pub code_over : (code : Code) (n : ℕ) → IsCodeFit s n code → IsCodeOver ks code
    code_over done n f = tt
    code_over (next step rest) n f = (step_over step n f.0, code_over rest (locals_after n step) f.1)

abbrev kinds_in : Resolved → List SigArg → List Made → List Kind
kinds_in r args given = map kind_of (map rest_of (map (window_of r) (with_given args given)))

kinds_long : (r : Resolved) (args : List SigArg) (given : List Made) → length (kinds_in r args given) ≡ length args
kinds_long r [] given = refl
kinds_long r (a ∷ args) given = ap suc (kinds_long r args (if is_given a.role then drop 1 given else given))

kind_role : (r : Resolved) (args : List SigArg) (given : List Made) (k : ℕ) (d : Kind) (e : SigArg) → k < length args → (get_or (kinds_in r args given) k d).role ≡ (get_or args k e).role
kind_role r [] given k d e lt = absurd (omega (arith, lt))
kind_role r (a ∷ args) given zero d e lt = refl
kind_role r (a ∷ args) given (suc k) d e lt = kind_role r args (if is_given a.role then drop 1 given else given) k d e (omega (arith, lt))

kind_rank : (r : Resolved) (args : List SigArg) (given : List Made) (k : ℕ) (d : Kind) (e : SigArg) → k < length args → length (get_or (kinds_in r args given) k d).axes ≡ length (get_or args k e).dims
kind_rank r [] given k d e lt = absurd (omega (arith, lt))
kind_rank r (a ∷ args) given zero d e lt = axes_long (core_sizes r.sizes a) _ ∙ length-map a.dims (size_in r.sizes)
kind_rank r (a ∷ args) given (suc k) d e lt = kind_rank r args (if is_given a.role then drop 1 given else given) k d e (omega (arith, lt))

-- the kinds of the windows that are set up
pub kinds_are : (r : Resolved) (s : Signature) (given : List Made) → AreKinds s (kinds_in r s.args given)
kinds_are r s given = record {
  count = kinds_long r s.args given;
  role = λ a d lt. kind_role r s.args given a d _ lt;
  rank = λ a d lt. kind_rank r s.args given a d _ lt;
}
