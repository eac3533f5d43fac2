-- A whole call: what was collected is what the definition says.
use Rattle.std.proofs.Common.{◌≡◌, ℕ, zero, suc, ◌+◌, ◌*◌, ◌<◌, List, [], ◌∷◌, ◌++◌, map, length, drop, get_or, Ok, Err, None, refl, sym, ap, subst, ◌∙◌, arith, append-nil}
use Rattle.std.specs.Prelude.{All, Option, Result, if◌then◌else◌}
use Rattle.std.specs.List.{AllZip}
use Rattle.std.proofs.lemmas.List.{drop_all}
use Rattle.pdl_elem.specs.Laws.{WrappingLaws}
use Rattle.pdl_shape.specs.Laws.{PositionLaws}
use Rattle.pdl_shape.specs.Shape.{size_of}
use Rattle.pdl_buf.specs.Made.{IsMade}
use Rattle.pdl_buf.specs.declared.made.Made.{Made}
use Rattle.pdl_sig.specs.Resolution.{is_given, is_output}
use Rattle.pdl_sig.specs.declared.Role.TheVariants.{Temp}
use Rattle.pdl_sig.specs.declared.Resolved.{Resolved}
use Rattle.pdl_sig.specs.declared.SigArg.{SigArg}
use Rattle.pdl_code.specs.Tree.{Code}
use Rattle.pdl_kernel.specs.declared.faults.RunFault.{RunFault}
use Rattle.pdl_kernel.specs.declared.faults.RunFault.TheVariants.{DivideByZero, IndexOutOfRange, NoMemory}
use Rattle.pdl_kernel.specs.Answers.{Answers}
use Rattle.pdl_code.specs.Fit.{code_locals}
use Rattle.pdl_kernel.specs.Call.{PlacedFault, first_given, outcome, outputs, outputs_of, stores_from, with_given}
use Rattle.pdl_kernel.specs.Meaning.{Store, argument}
use Rattle.pdl_kernel.specs.declared.scene.Scene.{Scene}
use Rattle.pdl_kernel.specs.Collecting.{AreCollected, Collected, left_in}
use Rattle.pdl_kernel.specs.Places.{Window, blank, count_of}
use Rattle.pdl_kernel.specs.Scenes.{left_in_order}
use Rattle.pdl_kernel.specs.Setup.{IsShapeOf, outputs_in, window_of}
use Rattle.pdl_kernel.proofs.MeaningAnswers.{IsEnd, IsShaped, left_shaped, outputs_are, outputs_made, stores_hold}
use Rattle.pdl_kernel.proofs.CallStores.{stores_long}
use Rattle.pdl_kernel.proofs.SetupStarts.{outcome_is, stores_same, window_laid, given_none}

-- a window is that of an argument, with what is given for it
record IsSetUp (r : Resolved) (a : SigArg) (w : Window) : Type 0 where
  given : Option Made
  none : a.role ≡ Temp → given ≡ None
  is : w ≡ window_of r (a, given)

set_up : (r : Resolved) (args : List SigArg) (given : List Made) (i : ℕ) (d : SigArg) → i < length args → IsSetUp r (get_or args i d) (get_or (map (window_of r) (with_given args given)) i blank)
set_up r [] given i d lt = absurd (omega (arith, lt))
set_up r (a ∷ args) given zero d lt = record { given = first_given (is_given a.role) given; none = given_none a.role given; is = refl }
set_up r (a ∷ args) given (suc i) d lt = set_up r args (if is_given a.role then drop 1 given else given) i d (omega (arith, lt))

pub set_up_long : (r : Resolved) (args : List SigArg) (given : List Made) → length (map (window_of r) (with_given args given)) ≡ length args
set_up_long r [] given = refl
set_up_long r (a ∷ args) given = ap suc (set_up_long r args (if is_given a.role then drop 1 given else given))

-- an argument when the code has run at each broadcast place
ends : PositionLaws → (r : Resolved) (args : List SigArg) (given : List Made) (ms : List Store) (was now : List Window) → was ≡ map (window_of r) (with_given args given) → AreCollected ms was now → length ms ≡ size_of r.broadcast
    → (i : ℕ) (d : SigArg) → i < length args → IsEnd r ms i (get_or args i d) (get_or now i blank)
ends laws r args given ms was now are h count i d lt =
    let a = get_or args i d in
    let w = get_or was i blank in
    let v = get_or now i blank in
    let s = set_up r args given i d lt in
    let is : w ≡ window_of r (a, s.given) = ap (λ (ws : List Window). get_or ws i blank) are ∙ s.is in
    let mine : i < length was = (let n = ap (length {A = Window}) are ∙ set_up_long r args given in omega (arith, lt, n)) in
    let c = h.argument i mine in
    let role : w.role ≡ a.role = ap (λ (x : Window). x.role) is in
    record {
      role = ap (λ (x : Window). x.role) c.form ∙ role;
      ty = ap (λ (x : Window). x.ty) c.form ∙ ap (λ (x : Window). x.ty) is;
      elems = λ out.
          let filled : length w.elems ≡ count_of w * size_of r.broadcast = subst (λ (x : Window). length x.elems ≡ count_of x * size_of r.broadcast) (sym is) ((window_laid laws r a s.given s.none).filled out) in
          let all : length w.elems ≡ length (left_in i ms) = filled ∙ ap (λ n. count_of w * n) (sym count) ∙ sym c.each in
          c.output (ap is_output role ∙ out)
          ∙ ap (λ es. left_in i ms ++ es) (drop_all (length (left_in i ms)) w.elems (omega (arith, all)))
          ∙ append-nil (left_in i ms);
    }

pub collected_long : (was now : List Window) (x : Result (List Store) PlacedFault) → Collected (Ok tt) was now x → length now ≡ length was
collected_long was now (Ok ms) h = h.count
collected_long was now (Err f) h = absurd h

module _ (laws : PositionLaws) (wraps : WrappingLaws) (args : List SigArg) (code : Code) (r : Resolved) (given : List Made) where
  abbrev Wanted : Result (List Store) PlacedFault
  Wanted = stores_from (outcome args code r given) 0 (size_of r.broadcast)

  shaped : (ms : List Store) → Wanted ≡ Ok ms → (i : ℕ) (d : SigArg) → i < length args → All (λ m. IsShaped r (get_or args i d) (argument m (0 + i))) ms
  shaped ms e i d lt = stores_hold (λ m. IsShaped r (get_or args i d) (argument m (0 + i))) (outcome args code r given) (λ p m is. let e : i ≡ 0 + i = omega arith in subst (λ n. IsShaped r (get_or args i d) (argument m n)) e (left_shaped wraps args code r given p m is i d lt)) (size_of r.broadcast) 0 ms e

  all_are : (was now : List Window) (dims : List (List ℕ)) (ms : List Store) → Wanted ≡ Ok ms → was ≡ map (window_of r) (with_given args given) → AreCollected ms was now → AllZip (IsShapeOf r) args dims
      → outputs_in dims now ≡ outputs r ms 0 args
  all_are was now dims ms e are h shapes =
      let count = stores_long (outcome args code r given) (size_of r.broadcast) 0 ms e in
      let long : length now ≡ length args = h.count ∙ ap (length {A = Window}) are ∙ set_up_long r args given in
      outputs_are laws r ms args dims now 0 count (shaped ms e) shapes long
      (λ i d lt. let z : i ≡ 0 + i = omega arith in subst (λ n. IsEnd r ms n (get_or args i d) (get_or now i blank)) z (ends laws r args given ms was now are h count i d lt))

  outputs_right : (was now : List Window) (dims : List (List ℕ)) (made : List Made) (x : Result (List Store) PlacedFault) → Wanted ≡ x → was ≡ map (window_of r) (with_given args given) → Collected (Ok tt) was now x → AllZip (IsShapeOf r) args dims
      → made ≡ outputs_in dims now → outputs_of r args x ≡ Ok made
  outputs_right was now dims made (Ok ms) e are h shapes is = ap Ok (sym (is ∙ all_are was now dims ms e are h shapes))
  outputs_right was now dims made (Err f) e are h shapes is = absurd h

  outputs_whole : (was now : List Window) (dims : List (List ℕ)) (made : List Made) (x : Result (List Store) PlacedFault) → Wanted ≡ x → was ≡ map (window_of r) (with_given args given) → Collected (Ok tt) was now x → AllZip (IsShapeOf r) args dims
      → made ≡ outputs_in dims now → All (λ (m : Made). IsMade m.ty m.dims m.elems) made
  outputs_whole was now dims made (Ok ms) e are h shapes is =
      let count = stores_long (outcome args code r given) (size_of r.broadcast) 0 ms e in
      subst (All (λ (m : Made). IsMade m.ty m.dims m.elems)) (sym (is ∙ all_are was now dims ms e are h shapes)) (outputs_made laws r ms args 0 count (shaped ms e))
  outputs_whole was now dims made (Err f) e are h shapes is = absurd h

  fault_right : (f : RunFault) (was now : List Window) (x : Result (List Store) PlacedFault) → Collected (Err f) was now x → Answers (outputs_of r args x) (Err f)
  fault_right NoMemory was now x h = tt
  fault_right (DivideByZero p) was now x h = ap (outputs_of r args) h
  fault_right (IndexOutOfRange p) was now x h = ap (outputs_of r args) h

  -- the walk goes over what the definition says
  collected_as : (stmts : Code) (s : Scene) → stmts ≡ code → s.arguments.items ≡ map (window_of r) (with_given args given) → length s.locals.items ≡ code_locals 0 code
      → stores_from (left_in_order r stmts s) 0 (size_of r.broadcast) ≡ Wanted
  collected_as stmts s same are count =
      ap (λ (c : Code). stores_from (left_in_order r c s) 0 (size_of r.broadcast)) same
      ∙ stores_same (left_in_order r code s) (outcome args code r given) (size_of r.broadcast) 0 (λ p lt. outcome_is laws wraps args code r given s p (omega (arith, lt)) are count)

  -- what is handed out is what the definition says
  pub answers_as : (stmts : Code) (s : Scene) (now : List Window) (dims : List (List ℕ)) (made : List Made) → stmts ≡ code → s.arguments.items ≡ map (window_of r) (with_given args given) → length s.locals.items ≡ code_locals 0 code
      → Collected (Ok tt) s.arguments.items now (stores_from (left_in_order r stmts s) 0 (size_of r.broadcast)) → AllZip (IsShapeOf r) args dims → made ≡ outputs_in dims now
      → (outputs_of r args Wanted ≡ Ok made) × All (λ (m : Made). IsMade m.ty m.dims m.elems) made
  answers_as stmts s now dims made same are locals h shapes is =
      let x = stores_from (left_in_order r stmts s) 0 (size_of r.broadcast) in
      let e = collected_as stmts s same are locals in (
        ap (outputs_of r args) (sym e) ∙ outputs_right s.arguments.items now dims made x (sym e) are h shapes is,
        outputs_whole s.arguments.items now dims made x (sym e) are h shapes is,
      )

  pub faults_as : (stmts : Code) (s : Scene) (now : List Window) (f : RunFault) → stmts ≡ code → s.arguments.items ≡ map (window_of r) (with_given args given) → length s.locals.items ≡ code_locals 0 code
      → Collected (Err f) s.arguments.items now (stores_from (left_in_order r stmts s) 0 (size_of r.broadcast)) → Answers (outputs_of r args Wanted) (Err f)
  faults_as stmts s now f same are locals h =
      subst (λ (y : Result (List Store) PlacedFault). Answers (outputs_of r args y) (Err f)) (collected_as stmts s same are locals)
      (fault_right f s.arguments.items now (stores_from (left_in_order r stmts s) 0 (size_of r.broadcast)) h)
