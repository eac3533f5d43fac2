-- What one statement means, by what its parts gave.
use Rattle.std.proofs.Common.{◌≡◌, ℕ, zero, suc, ℤ, pos, negsuc, List, Ok, refl, sym, subst}
use Rattle.std.specs.Prelude.{Result}
use Rattle.pdl_sig.specs.declared.Resolved.{Resolved}
use Rattle.pdl_code.specs.Tree.{Tree, Step, Code, choose}
use Rattle.pdl_kernel.specs.declared.faults.Fault.{Fault}
use Rattle.pdl_kernel.specs.Answers.{Becomes}
use Rattle.pdl_kernel.specs.Meaning.{Store, and_then, branch, run, step, value}

pub chosen : {B : Type 0} (r : Result B Fault) (now m : Store) (call : Resolved) (loops : List ℕ) (s : Step) (e : Tree) (whole other : Code) (x : ℤ) (got : Result ℤ Fault) → s ≡ choose e whole other → got ≡ value call.sizes loops m e → got ≡ Ok x
    → Becomes r now (branch x (run call loops whole m) (run call loops other m)) → Becomes r now (step call loops s m)
chosen r now m call loops s e whole other x got is found ok h =
    let P : Step → Type 0 = λ y. Becomes r now (step call loops y m) in
    let Q : Result ℤ Fault → Type 0 = λ y. Becomes r now (and_then y (λ x. branch x (run call loops whole m) (run call loops other m))) in
    subst P (sym is) (subst Q found (subst Q (sym ok) h))

pub branch_whole : {A : Type 0} (x : ℤ) (whole other : A) → (x ≡ pos 0 → ⊥) → branch x whole other ≡ whole
branch_whole (pos zero) whole other h = absurd (h refl)
branch_whole (pos (suc n)) whole other h = refl
branch_whole (negsuc n) whole other h = refl
