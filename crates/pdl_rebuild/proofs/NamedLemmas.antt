-- The lines of names and of kernels.
use Rattle.std.proofs.Common.{◌≡◌, ℕ, suc, Bool, false, List, [], ◌∷◌, ◌++◌, length, refl, ◌∙◌, ap, ap₂, arith}
use Rattle.std.specs.Prelude.{Some, None, Ok}
use Rattle.pdl_syntax.specs.StatementTree.{bind, pp_def, undef}
use Rattle.pdl_syntax.specs.Tree.{named}
use Rattle.pdl_world.specs.KeepingLaws.{MoreKeepAll}
use Rattle.pdl_world.specs.World.{World}
use Rattle.pdl_machine.specs.declared.fault.Fault.TheVariants.{UnknownName, TooManyKernels}
use Rattle.pdl_machine.specs.Names.{KernelTexts, Named, found, kernels_limit}
use Rattle.pdl_machine.specs.Step.{effect, kernel_named}
use Rattle.pdl_machine.specs.Then.{and_then, or_fault}
use Rattle.pdl_machine.specs.Value.{known}
use Rattle.pdl_machine.specs.Watches.{Watches}
use Rattle.pdl_rebuild.specs.Named.{NamesAreBound, NamesEnd, LastButOneGoes, KernelsAreDefined}
use Rattle.pdl_rebuild.specs.Rebuilt.{state_of, one_name, arrays_of}
use Rattle.pdl_rebuild.proofs.RebuiltBindings.{value_bound, new_entered}
use Rattle.pdl_rebuild.proofs.StepLeads.{leads_by}
use Rattle.pdl_rebuild.proofs.RebuiltTexts.{found_back, found_below, same_text, without_it}
use Rattle.pdl_rebuild.proofs.RebuiltTidied.{below_arrays, includes_front, tidy_new, tidy_passing}

pub names_are_bound : MoreKeepAll → NamesAreBound
names_are_bound more ws kernels names w x other v resting fresh few is =
    leads_by ws (state_of ws kernels names w) (state_of ws kernels (names ++ one_name x v) w) (state_of ws kernels (names ++ one_name x v) w) (bind x (named other) false) resting.idle refl refl (λ present. refl)
    (λ present. value_bound ws kernels names x fresh few w w (length w) (length w) v (named other) (ap (known (record { world = w; next = length w })) is))
    (tidy_passing ws resting.idle kernels (names ++ one_name x v) [] w (length w) resting.order tt
    (below_arrays (length w) names (one_name x v) resting.below (found_below (length w) names other v resting.below is, tt))
    (more w (arrays_of names) (arrays_of (names ++ one_name x v)) (includes_front names (one_name x v)) resting.kept))

-- what the end of a name does, before what it doesn't keep goes
undef_effect : (ws : Watches) (kernels : Named KernelTexts) (front back : Named ℕ) (w : World) (x : List ℕ) (v : ℕ) (present : List Bool) → found front x ≡ None
    → effect present (state_of ws kernels (front ++ (one_name x v ++ back)) w) (undef x) ≡ Ok (state_of ws kernels (front ++ back) w, [])
undef_effect ws kernels front back w x v present fresh =
    ap₂ (λ o left_names. and_then (and_then (or_fault UnknownName o) (λ u. Ok (record { arrays = left_names; kernels = kernels }))) (λ ns. Ok (record { names = ns; arrays = record { world = w; next = length w }; watches = ws; flows = [] }, [])))
    (found_back front (one_name x v ++ back) x fresh ∙ here) (without_it front back x v fresh)
  where
    here : found (one_name x v ++ back) x ≡ Some v
    here = rw (same_text x) refl

pub names_end : NamesEnd
names_end ws kernels names w x v resting =
    leads_by ws (state_of ws kernels (one_name x v ++ names) w) (state_of ws kernels names w) (state_of ws kernels names w) (undef x) resting.idle refl refl (λ present. refl)
    (λ present. undef_effect ws kernels [] names w x v present refl)
    (tidy_passing ws resting.idle kernels names [] w (length w) resting.order tt resting.below resting.kept)

pub last_but_one_goes : MoreKeepAll → LastButOneGoes
last_but_one_goes more ws kernels names w x y d e resting fresh parent =
    let n : ℕ = length w in
    let u : World = (suc n, e) ∷ ((n, d) ∷ w) in
    leads_by ws (state_of ws kernels (names ++ (one_name x n ++ one_name y (suc n))) u) (state_of ws kernels (names ++ one_name y (suc n)) u) (state_of ws kernels (names ++ one_name y n) ((n, e) ∷ w)) (undef x) resting.idle refl refl (λ present. refl)
    (λ present. undef_effect ws kernels names (one_name y (suc n)) u x n present fresh)
    (tidy_new ws resting.idle kernels more names y (suc n) e ((n, d) ∷ []) w (length u) resting.order parent (omega arith) (omega arith, (omega arith, tt)) resting.below resting.kept)

pub kernels_are_defined : KernelsAreDefined
kernels_are_defined ws kernels names w f texts resting fresh few is =
    leads_by ws (state_of ws kernels names w) (state_of ws (kernels ++ one_name f texts) names w) (state_of ws (kernels ++ one_name f texts) names w) (pp_def f texts.signature texts.code) resting.idle refl refl (λ present. refl)
    (λ present. ap (λ r. and_then r (kernel_named (state_of ws kernels names w) f)) is
    ∙ ap (λ r. and_then (and_then r (λ ks. Ok (record { arrays = names; kernels = ks }))) (λ ns. Ok (record { names = ns; arrays = record { world = w; next = length w }; watches = ws; flows = [] }, [])))
    (new_entered kernels_limit TooManyKernels kernels f texts fresh few))
    (tidy_passing ws resting.idle (kernels ++ one_name f texts) names [] w (length w) resting.order tt resting.below resting.kept)
