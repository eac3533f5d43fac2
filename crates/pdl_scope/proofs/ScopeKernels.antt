-- Calls of kernels, from what their arguments resolve to.
use Rattle.std.proofs.Common.{◌≡◌, ℕ, zero, suc, ◌+◌, ◌<◌, ◌≤◌, true, List, [], ◌∷◌, length, map, take, get_or, Some, eq-eqb, Result, Ok, Err, refl, sym, ap, subst, ◌∙◌, arith}
use Rattle.std.specs.Prelude.{◌==◌, All, IfSome, slice_get, Vec}
use Rattle.std.specs.Global.{Global}
use Rattle.std.specs.Result.{IsErrAnd}
use Rattle.std.proofs.lemmas.List.{length-map, length-take-le, map_more, take_all}
use Rattle.std.proofs.lemmas.List.Elements.{All-more}
use Rattle.pdl_buf.specs.Window.{Window}
use Rattle.pdl_buf.specs.declared.made.Made.{Made}
use Rattle.pdl_engine.specs.State.{State as Engine, is_fresh, SameArrays, StayFresh, shown_in}
use Rattle.pdl_sig.specs.declared.ArgShape.{ArgShape}
use Rattle.pdl_sig.specs.declared.Resolved.{Resolved}
use Rattle.pdl_sig.specs.declared.ResolveFault.{ResolveFault}
use Rattle.pdl_sig.specs.declared.Signature.{Signature}
use Rattle.pdl_sig.specs.Resolution.{Unresolved, reason_named, resolution, Answers as Resolves}
use Rattle.pdl_kernel.specs.Call.{called, fault_named}
use Rattle.pdl_kernel.specs.Kernels.{Kernel}
use Rattle.pdl_kernel.specs.Runs.{Run, with_next, IsNext}
use Rattle.pdl_kernel.specs.declared.faults.RunFault.{RunFault}
use Rattle.pdl_machine.specs.declared.fault.Fault.{Fault}
use Rattle.pdl_world.specs.World.{World}
use Rattle.pdl_world.specs.Sound.{IsLive}
use Rattle.pdl_machine.specs.Arrays.{array_in}
use Rattle.pdl_machine.specs.Kernels.{array_seen, called_on, outputs_by, outputs_count, resolve_fault, run_fault}
use Rattle.pdl_sig.specs.Given.{shape_of}
use Rattle.pdl_machine.specs.Outcome.{array}
use Rattle.pdl_machine.specs.Refused.{or_named}
use Rattle.pdl_machine.specs.Then.{and_more, all_of, and_then}
use Rattle.pdl_scope.specs.Costs.{can_run}
use Rattle.pdl_scope.specs.declared.fault.ScopeFault.{ScopeFault}
use Rattle.pdl_scope.specs.declared.fault.ScopeFault.TheVariants.{Script, NoMemory}
use Rattle.pdl_scope.specs.Answers.{AnswersAs, IsFault}
use Rattle.pdl_scope.specs.Faults.{of_resolve, of_run}
use Rattle.pdl_scope.proofs.FaultLemmas.{named_fault}
use Rattle.std.proofs.lemmas.Option.{IfSome_then}
use Rattle.pdl_scope.specs.Scope.{made_in, shape_in}

pub shapes_seen : (e : Engine) (ids : List ℕ) → map shape_of (map (made_in e) ids) ≡ map (shape_in e) ids
shapes_seen e [] = refl
shapes_seen e (v ∷ ids) = ap (λ rest. shape_in e v ∷ rest) (shapes_seen e ids)

-- a call, from what its arguments resolve to
abbrev call_by : Kernel → List Made → Result Resolved Unresolved → Result (List Made) Fault
call_by k given found = and_then (or_named resolve_fault found) (λ resolved. or_named run_fault (called k resolved given))

call_is : (k : Kernel) (e : Engine) (ids : List ℕ) (signature : Signature) (shapes : List ArgShape) → signature ≡ k.signature → shapes ≡ map (shape_in e) ids
    → called_on k (map (made_in e) ids) ≡ call_by k (map (made_in e) ids) (resolution signature shapes)
call_is k e ids signature shapes same seen =
    ap (λ ss. call_by k (map (made_in e) ids) (resolution k.signature ss)) (shapes_seen e ids ∙ sym seen)
    ∙ ap (λ s. call_by k (map (made_in e) ids) (resolution s shapes)) (sym same)

-- the shapes don't resolve
pub shapes_refused : (k : Kernel) (e : Engine) (ids : List ℕ) (signature : Signature) (shapes : List ArgShape) (f : ResolveFault) (fault : ScopeFault) → signature ≡ k.signature → shapes ≡ map (shape_in e) ids
    → Resolves (resolution signature shapes) (Err f) → fault ≡ of_resolve f → IsFault (or_named resolve_fault (resolution k.signature (map (shape_in e) ids))) fault
shapes_refused k e ids signature shapes f fault same seen h is =
    let P : ScopeFault → Type 0 = λ x. IsFault (or_named resolve_fault (resolution k.signature (map (shape_in e) ids))) x in
    let refused : IsFault (or_named resolve_fault (resolution signature shapes)) (of_resolve f) = named_fault resolve_fault (resolution signature shapes) (reason_named f) (IfSome_then (reason_named f) h (λ x is. sym is)) in
    let Q : Signature → Type 0 = λ s. IsFault (or_named resolve_fault (resolution s (map (shape_in e) ids))) (of_resolve f) in
    let R : List ArgShape → Type 0 = λ ss. IsFault (or_named resolve_fault (resolution signature ss)) (of_resolve f) in
    subst P (sym is) (subst Q same (subst R seen refused))

-- they resolve to what they are said to
named_ok : (r : Result Resolved Unresolved) (resolved : Resolved) → or_named resolve_fault r ≡ Ok resolved → r ≡ Ok resolved
named_ok (Ok x) resolved h = (let same : x ≡ resolved = cc in ap Ok same)
named_ok (Err e) resolved h = absurd (cc)

pub resolves_to : (k : Kernel) (shapes : List ArgShape) (resolved : Resolved) → or_named resolve_fault (resolution k.signature shapes) ≡ Ok resolved → resolution k.signature shapes ≡ Ok resolved
resolves_to k shapes resolved h = named_ok (resolution k.signature shapes) resolved h

-- a call that has as many outputs as are wanted
as_wanted : (k : Kernel) (wanted count : ℕ) (given : List Made) → count ≡ outputs_count k.signature → count ≡ wanted → outputs_by wanted given k ≡ called_on k given
as_wanted k wanted count given is same =
    let t : (outputs_count k.signature == wanted) ≡ true = eq-eqb (outputs_count k.signature) wanted (sym is ∙ same) in
    rw t refl

-- a call whose shapes don't resolve is refused so
pub call_refused : (k : Kernel) (e : Engine) (ids : List ℕ) (wanted count : ℕ) (fault : ScopeFault) → count ≡ outputs_count k.signature → count ≡ wanted
    → IsFault (or_named resolve_fault (resolution k.signature (map (shape_in e) ids))) fault → IsFault (outputs_by wanted (map (made_in e) ids) k) fault
call_refused k e ids wanted count NoMemory is same h = tt
call_refused k e ids wanted count (Script f) is same h =
    as_wanted k wanted count (map (made_in e) ids) is same
    ∙ ap (λ ss. and_then (or_named resolve_fault (resolution k.signature ss)) (λ resolved. or_named run_fault (called k resolved (map (made_in e) ids)))) (shapes_seen e ids)
    ∙ ap (λ x. and_then x (λ resolved. or_named run_fault (called k resolved (map (made_in e) ids)))) h

-- where a kernel can run, it has the outputs that are wanted, and the shapes resolve
pub can_run_so : (k : Kernel) (wanted count : ℕ) (shapes : List ArgShape) (resolved : Resolved) → count ≡ outputs_count k.signature → count ≡ wanted → resolution k.signature shapes ≡ Ok resolved → can_run k wanted shapes ≡ true
can_run_so k wanted count shapes resolved is same resolves =
    let t : (outputs_count k.signature == wanted) ≡ true = eq-eqb (outputs_count k.signature) wanted (sym is ∙ same) in
    rw (t, resolves) refl

-- what is known of a call whose arguments were all given
pub record IsGiven (k : Kernel) (e : Engine) (ids : List ℕ) (resolved : Resolved) (r : Run) : Type 0 where
  pub signature : Signature
  pub shapes : List ArgShape
  pub same : signature ≡ k.signature
  pub seen : shapes ≡ map (shape_in e) ids
  pub resolves : resolution signature shapes ≡ Ok resolved
  pub run_is : r ≡ record { kernel = k; resolved = resolved; given = map (made_in e) ids }

called_by : (k : Kernel) (e : Engine) (ids : List ℕ) (resolved : Resolved) (r : Run) → IsGiven k e ids resolved r → called_on k (map (made_in e) ids) ≡ or_named run_fault (called r.kernel r.resolved r.given)
called_by k e ids resolved r g =
    call_is k e ids g.signature g.shapes g.same g.seen ∙ ap (call_by k (map (made_in e) ids)) g.resolves
    ∙ ap (λ (x : Run). or_named run_fault (called x.kernel x.resolved x.given)) (sym g.run_is)

-- the outputs of a call
pub call_done : (k : Kernel) (e : Engine) (ids : List ℕ) (resolved : Resolved) (r : Run) (outputs : List Made) → IsGiven k e ids resolved r → called r.kernel r.resolved r.given ≡ Ok outputs
    → called_on k (map (made_in e) ids) ≡ Ok outputs
call_done k e ids resolved r outputs g h = called_by k e ids resolved r g ∙ ap (or_named run_fault) h

-- the fault of a call
pub call_faulted : (k : Kernel) (e : Engine) (ids : List ℕ) (resolved : Resolved) (r : Run) (f : RunFault) (fault : ScopeFault) → IsGiven k e ids resolved r
    → IfSome (fault_named f) (λ placed. called r.kernel r.resolved r.given ≡ Err placed) → fault ≡ of_run f → IsFault (called_on k (map (made_in e) ids)) fault
call_faulted k e ids resolved r f fault g h is =
    let P : ScopeFault → Type 0 = λ x. IsFault (called_on k (map (made_in e) ids)) x in
    let Q : Result (List Made) Fault → Type 0 = λ x. IsFault x (of_run f) in
    subst P (sym is) (subst Q (sym (called_by k e ids resolved r g)) (named_fault run_fault (called r.kernel r.resolved r.given) (fault_named f) h))

same_again : (a b c : Engine) → SameArrays a b → SameArrays b c → SameArrays a c
same_again a b c s t = record { world = t.world ∙ s.world; holds = t.holds ∙ s.holds; next = t.next ∙ s.next }

-- what is left once some arrays can be lent
pub record AreReady (old new : Engine) (ids : List ℕ) : Type 0 where
  pub same : SameArrays old new
  pub fresh : All (λ v. is_fresh new v ≡ true) ids

pub ready_more : (a b c : Engine) (ids : List ℕ) (i : ℕ) → i < length ids → AreReady a b (take i ids) → SameArrays b c → StayFresh b c → is_fresh c (get_or ids i 0) ≡ true
    → AreReady a c (take (i + 1) ids)
ready_more a b c ids i lt r s stay here = record {
  same = same_again a b c r.same s;
  fresh = All-more (λ v. is_fresh c v ≡ true) ids i 0 lt (λ k d within. stay _ (r.fresh k d within)) here;
}

pub ready_all : (e : Engine) (ids : List ℕ) (i : ℕ) → length ids ≤ i → All (λ v. is_fresh e v ≡ true) (take i ids) → All (λ v. is_fresh e v ≡ true) ids
ready_all e ids i le fresh = let P : List ℕ → Type 0 = λ vs. All (λ v. is_fresh e v ≡ true) vs in subst P (take_all i ids le) fresh

got_mapped : {A B : Type 0} (f : A → B) (xs : List A) (i : ℕ) (d : A) → i < length xs → slice_get (map f xs) i ≡ Some (f (get_or xs i d))
got_mapped f [] i d lt = absurd (omega arith)
got_mapped f (x ∷ xs) zero d lt = refl
got_mapped f (x ∷ xs) (suc i) d lt = got_mapped f xs i d (omega arith)

-- a call with the first arguments given
abbrev pub with_first : Run → Engine → List ℕ → ℕ → Run
with_first r e ids i = record r { given = map (made_in e) (take i ids) }

pub next_is : (start now : Run) (e : Engine) (ids : List ℕ) (i : ℕ) (w : Window) → i < length ids → now ≡ with_first start e ids i → resolution start.kernel.signature (map (shape_in e) ids) ≡ Ok start.resolved
    → w ≡ shown_in e (get_or ids i 0) → IsNext now w
next_is start now e ids i w lt is resolves shown =
    let P : Run → Type 0 = λ r. IsNext r w in
    let Q : Window → Type 0 = λ x. IsNext (with_first start e ids i) x in
    subst P (sym is) (subst Q (sym shown) (record {
      shapes = map (shape_in e) ids;
      resolves = resolves;
      next = ap (slice_get (map (shape_in e) ids)) (length-map (take i ids) (made_in e) ∙ length-take-le i ids (omega arith)) ∙ got_mapped (shape_in e) ids i 0 lt;
    }))

pub given_more : (start now new : Run) (e : Engine) (ids : List ℕ) (i : ℕ) (w : Window) → i < length ids → now ≡ with_first start e ids i → w ≡ shown_in e (get_or ids i 0) → new ≡ with_next now w
    → new ≡ with_first start e ids (i + 1)
given_more start now new e ids i w lt is shown next =
    next ∙ ap (λ r. with_next r w) is ∙ ap (with_next (with_first start e ids i)) shown
    ∙ ap (λ given. record start { given = given }) (sym (map_more (made_in e) ids i 0 lt))

-- arrays as a call sees them
pub all_arrays : (f : ℕ → Made) (ids : List ℕ) → all_of array_seen (map (λ v. array (f v)) ids) ≡ Some (map f ids)
all_arrays f [] = refl
all_arrays f (v ∷ ids) = ap (and_more (Some (f v))) (all_arrays f ids)

same_made : (e t : Engine) → SameArrays e t → made_in t ≡ made_in e
same_made e t s = ap (λ w. made_by w t.next) s.world ∙ ap (made_by e.world) s.next
  where
    made_by : World → ℕ → ℕ → Made
    made_by w next v = array_in (record { world = w; next = next }) v

-- the answer for arrays that were made ready is that for the arrays
pub all_given : (k : Kernel) (wanted count : ℕ) (e t : Engine) (ids : List ℕ) (r : Result (Vec Made Global) ScopeFault) → count ≡ outputs_count k.signature → count ≡ wanted
    → SameArrays e t → AnswersAs (λ ms. ms.items) (called_on k (map (made_in t) ids)) r → AnswersAs (λ ms. ms.items) (outputs_by wanted (map (made_in e) ids) k) r
all_given k wanted count e t ids r is same arrays h =
    let P : Result (List Made) Fault → Type 0 = λ x. AnswersAs (λ (ms : Vec Made Global). ms.items) x r in
    subst P (sym (as_wanted k wanted count (map (made_in e) ids) is same ∙ ap (λ f. called_on k (map f ids)) (sym (same_made e t arrays)))) h

pub live_again : (e t : Engine) (ids : List ℕ) → SameArrays e t → All (IsLive e.world) ids → All (IsLive t.world) ids
live_again e t ids s live = let P : World → Type 0 = λ w. All (IsLive w) ids in subst P (sym s.world) live

pub shapes_again : (k : Kernel) (e t : Engine) (ids : List ℕ) (resolved : Resolved) → SameArrays e t → resolution k.signature (map (shape_in e) ids) ≡ Ok resolved → resolution k.signature (map (shape_in t) ids) ≡ Ok resolved
shapes_again k e t ids resolved s h = ap (λ f. resolution k.signature (map (λ v. shape_of (f v)) ids)) (same_made e t s) ∙ h

-- a fault is handed on
pub handed : {T U : Type 0} (seen : T → U) (wanted : Result U Fault) (f : ScopeFault) (r : Result T ScopeFault) → IsErrAnd r (λ e. e ≡ f) → IsFault wanted f → AnswersAs seen wanted r
handed seen wanted f (Ok x) is h = absurd is
handed seen wanted f (Err e) is h = subst (IsFault wanted) (sym is) h
