-- What statements move at most, from what their parts move.
use Rattle.std.proofs.Common.{◌≡◌, ℕ, ℤ, ◌+◌, ◌≤◌, Bool, true, false, List, [], ◌∷◌, Option, Some, None, Result, Ok, Err, refl, sym, ap, subst, ◌∙◌, arith}
use Rattle.std.specs.Option.{option_map_or}
use Rattle.std.specs.Prelude.{pos, not, map, Box, IfOk, IfSome, OnOk, length, ◌==◌}
use Rattle.std.specs.Bool.{then_some}
use Rattle.std.specs.Ordering.{int_eq}
use Rattle.std.specs.Global.{Global}
use Rattle.std.proofs.lemmas.Bool.{eqb-true}
use Rattle.std.proofs.lemmas.List.{nil_from_length}
use Rattle.std.proofs.lemmas.List.Sums.{count_by-le-length}
use Rattle.pdl_numbers.specs.Typed.{count_moved}
use Rattle.pdl_buf.specs.declared.made.Made.{Made}
use Rattle.pdl_syntax.specs.declared.tree.Expr.{Expr, Number, Named, List as Listed}
use Rattle.pdl_syntax.specs.TreeOf.{tree_of}
use Rattle.pdl_shape.specs.Shape.{size_of}
use Rattle.pdl_world.specs.Laws.{OlderStay}
use Rattle.pdl_world.specs.Sound.{IsLive}
use Rattle.pdl_world.specs.World.{World, Look, look, dims_in}
use Rattle.pdl_engine.specs.Reading.{IsWarm, KeepsViews, read_steps}
use Rattle.pdl_engine.specs.State.{is_fresh}
use Rattle.pdl_lexemes.specs.declared.AssignOp.{AssignOp}
use Rattle.pdl_syntax.specs.StatementTree.{View, assign, show, view_of}
use Rattle.pdl_syntax.specs.declared.tree.ViewCall.{ViewCall}
use Rattle.pdl_syntax.specs.Tree.{Tree, number, named, literal, unary, binary, call}
use Rattle.pdl_machine.specs.Arrays.{Arrays}
use Rattle.pdl_machine.specs.Names.{number_of}
use Rattle.pdl_machine.specs.State.{IsWhole}
use Rattle.pdl_machine.specs.Value.{known, value_of}
use Rattle.pdl_machine.specs.Watches.{attached}
use Rattle.pdl_scope.specs.declared.fault.ScopeFault.{ScopeFault}
use Rattle.pdl_scope.specs.Growth.{as_grown, reads_refl}
use Rattle.pdl_scope.specs.Scope.{Scope, engine_of, machine, Grows, OnlyReads}
use Rattle.pdl_machine.specs.Flows.{affected}
use Rattle.pdl_world.specs.Paths.{root_of}
use Rattle.pdl_session.proofs.EvaluationAffected.{late_affected}
use Rattle.pdl_session.proofs.WorldGrown.{grown_seen}
use Rattle.pdl_session.specs.Bounds.{AssignsPlainly, EvaluatesPlainly, IsBare, LeavesReadable, MakesRoot, MovesPlainly, plain_count, warm_after}

-- a target without views is a bare name
pub no_views_of : (vs : List ViewCall) → map view_of vs ≡ [] → vs ≡ []
no_views_of [] none = refl
no_views_of (v ∷ vs) none = absurd (cc)

-- the array that is noted of a target is what is warm after it
pub bare_noted : {T : Type 0} (r : Result T ScopeFault) (vs : List ViewCall) (x : List ℕ) (sign : AssignOp) (e : Tree) (old mid : Scope) (before now to : ℕ) (is_bare : Bool) (noted : Option ℕ)
    → is_bare ≡ (length vs == 0) → (vs ≡ [] → IsBare x old mid before now (Ok to)) → noted ≡ then_some is_bare to → OnOk r (noted ≡ warm_after old (assign x (map view_of vs) sign e))
bare_noted (Ok z) [] x sign e old mid before now to b noted is bare then = then ∙ ap (λ (t : Bool). then_some t to) is ∙ sym (bare refl).is
bare_noted (Ok z) (v ∷ vs) x sign e old mid before now to b noted is bare then =
    then ∙ ap (λ (t : Bool). then_some t to) (is ∙ some_views (length (v ∷ vs) == 0) refl)
  where
    some_views : (t : Bool) → (length (v ∷ vs) == 0) ≡ t → t ≡ false
    some_views false h = refl
    some_views true h = absurd (let none : v ∷ vs ≡ [] = nil_from_length (v ∷ vs) (eqb-true (length (v ∷ vs)) 0 h) in cc)
bare_noted (Err f) vs x sign e old mid before now to b noted is bare then = tt

no_views : (w : World) → KeepsViews w w
no_views w v is = is

-- a refused target of an assignment
pub target_refused : (x : List ℕ) (vs : List View) (sign : AssignOp) (e : Tree) (old new : Scope) (before after : ℕ) (r : Result ℕ ScopeFault)
    → (vs ≡ [] → IsBare x old new before after r) → MovesPlainly (assign x vs sign e) old new before after
target_refused x (v ∷ vs) sign e old new before after r bare = tt
target_refused x [] sign e old new before after r bare = by_count (plain_count e)
  where
    at : IsBare x old new before after r
    at = bare refl

    by_count : (o : Option ℕ) → IfSome o (λ n. AssignsPlainly x n old new before after)
    by_count None = tt
    by_count (Some n) = record {
      counted = λ v is fresh none unread. (let e = at.unmoved in omega (arith, e));
      roots = subst (λ s. KeepsViews s.arrays.world old.arrays.world) (sym at.same) (no_views old.arrays.world);
    }

-- what a number or a list does as the right side, where the target is bare
root_of_plain : (e : Tree) (old new : Scope) (before after : ℕ) (r : Result ℕ ScopeFault) (n : ℕ) → plain_count e ≡ Some n → EvaluatesPlainly e old new before after r → MakesRoot n old new before after r
root_of_plain (number k) old new before after r n is h = (let same : 1 ≡ n = cc in subst (λ m. MakesRoot m old new before after r) same h)
root_of_plain (literal ty ds es) old new before after r n is h = (let same : length es ≡ n = cc in subst (λ m. MakesRoot m old new before after r) same h)
root_of_plain (named x) old new before after r n is h = absurd (cc)
root_of_plain (unary op e) old new before after r n is h = absurd (cc)
root_of_plain (binary op e f) old new before after r n is h = absurd (cc)
root_of_plain (call f args) old new before after r n is h = absurd (cc)

-- an assignment whose right side is refused
pub value_refused : (x : List ℕ) (vs : List View) (sign : AssignOp) (e : Tree) (old mid new : Scope) (before now after : ℕ) (t r : Result ℕ ScopeFault)
    → (vs ≡ [] → IsBare x old mid before now t) → EvaluatesPlainly e mid new now after r → MovesPlainly (assign x vs sign e) old new before after
value_refused x (v ∷ vs) sign e old mid new before now after t r bare plain = tt
value_refused x [] sign e old mid new before now after t r bare plain = by_count (plain_count e) refl
  where
    at : IsBare x old mid before now t
    at = bare refl

    by_count : (o : Option ℕ) → plain_count e ≡ o → IfSome o (λ n. AssignsPlainly x n old new before after)
    by_count None is = tt
    by_count (Some n) is =
        let root : MakesRoot n mid new now after r = root_of_plain e mid new now after r n is plain in
        record {
          counted = λ v bound fresh none unread. (let a = at.unmoved in let b = root.counted in omega (arith, a, b));
          roots = subst (λ s. KeepsViews new.arrays.world s.arrays.world) at.same root.roots;
        }

-- an assignment whose both sides came
pub assigned_plainly : OlderStay → (x : List ℕ) (vs : List View) (sign : AssignOp) (e : Tree) (old mid late new : Scope) (before now then after to from : ℕ)
    → (vs ≡ [] → IsBare x old mid before now (Ok to)) → IsLive mid.arrays.world to → EvaluatesPlainly e mid late now then (Ok from) → Grows mid late → IsWhole (machine mid) → IsWhole (machine late)
    → (affected late.arrays.world late.flows (root_of late.arrays.world to ∷ []) ≡ [] → is_fresh (engine_of late) to ≡ true → is_fresh (engine_of late) from ≡ true → attached late.watches ≡ [] → after ≤ then + size_of (dims_in late.arrays.world to))
    → KeepsViews new.arrays.world late.arrays.world → MovesPlainly (assign x vs sign e) old new before after
assigned_plainly older x (v ∷ vs) sign e old mid late new before now then after to from bare live plain grown before_it whole at_once views = tt
assigned_plainly older x [] sign e old mid late new before now then after to from bare live plain grown before_it whole at_once views = by_count (plain_count e) refl
  where
    at : IsBare x old mid before now (Ok to)
    at = bare refl

    by_count : (o : Option ℕ) → plain_count e ≡ o → IfSome o (λ n. AssignsPlainly x n old new before after)
    by_count None is = tt
    by_count (Some n) is =
        let root : MakesRoot n mid late now then (Ok from) = root_of_plain e mid late now then (Ok from) n is plain in
        record {
          counted = λ v bound fresh none unread.
              let to_is : to ≡ v = (let z : Some to ≡ Some v = sym at.is ∙ bound in cc) in
              let fresh_mid : is_fresh (engine_of mid) to ≡ true = subst (λ s. is_fresh (engine_of s) to ≡ true) (sym at.same) (subst (λ u. is_fresh (engine_of old) u ≡ true) (sym to_is) fresh) in
              let none_late : attached late.watches ≡ [] = ap attached grown.watches ∙ ap (λ s. attached s.watches) at.same ∙ none in
              let alone : affected late.arrays.world late.flows (root_of late.arrays.world to ∷ []) ≡ [] =
              late_affected older mid late to grown before_it whole live ∙ ap (λ (s : Scope). affected s.arrays.world s.flows (root_of s.arrays.world to ∷ [])) at.same
              ∙ ap (λ u. affected old.arrays.world old.flows (root_of old.arrays.world u ∷ [])) to_is ∙ unread in
              let moved : after ≤ then + size_of (dims_in late.arrays.world to) = at_once alone (grown.stay to fresh_mid) root.fresh none_late in
              let seen : look late.arrays.world to ≡ look old.arrays.world v =
              grown_seen older mid.arrays late.arrays to (as_grown mid late grown) whole.sound live ∙ ap (λ s. look s.arrays.world to) at.same ∙ ap (look old.arrays.world) to_is in
              let sizes : size_of (dims_in late.arrays.world to) ≡ size_of (dims_in old.arrays.world v) = ap (λ o. size_of (option_map_or (λ (l : Look). l.dims) o [])) seen in
              (let a = at.unmoved in let b = root.counted in omega (arith, a, b, moved, sizes));
          roots = λ u is. subst (λ s. KeepsViews late.arrays.world s.arrays.world) at.same root.roots u (views u is);
        }

on_any : {T : Type 0} (r : Result T ScopeFault) → OnOk r (Unit {0})
on_any (Ok x) = tt
on_any (Err e) = tt

-- what was assigned to by a bare name can be read afterwards
pub assigned_readable : {T : Type 0} (r : Result T ScopeFault) (x : List ℕ) (vs : List View) (sign : AssignOp) (e : Tree) (old mid new : Scope) (before now to : ℕ)
    → (vs ≡ [] → IsBare x old mid before now (Ok to)) → (vs ≡ [] → OnOk r (IsWarm (engine_of new) to)) → OnOk r (LeavesReadable (assign x vs sign e) old new)
assigned_readable r x (v ∷ vs) sign e old mid new before now to bare warm = on_any r
assigned_readable r x [] sign e old mid new before now to bare warm = subst (λ o. OnOk r (IfSome o (IsWarm (engine_of new)))) (sym (bare refl).is) (warm refl)

-- the array of a name
name_is : (a new : Arrays) (o : Option ℕ) (v : ℕ) → known a o ≡ Ok (new, v) → o ≡ Some v
name_is a new None v is = cc
name_is a new (Some u) v is = (let pair : (a, u) ≡ (new, v) = cc in ap (λ (p : Arrays × ℕ). Some p.1) pair)

-- a print of what came
pub shown_plainly : (e : Tree) (info : Bool) (old mid new : Scope) (before now after v : ℕ) → value_of old.names old.arrays e ≡ Ok (mid.arrays, v) → EvaluatesPlainly e old mid before now (Ok v)
    → after ≤ now + read_steps (engine_of mid) v → OnlyReads mid new → MovesPlainly (show e info) old new before after
shown_plainly (named x) false old mid new before now after v value plain counted reads = record {
  counted = λ u bound.
      let v_is : v ≡ u = (let z : Some v ≡ Some u = sym (name_is old.arrays mid.arrays (number_of old.names x) v value) ∙ bound in cc) in
      let cost : read_steps (engine_of mid) v ≡ read_steps (engine_of old) u = ap (λ s. read_steps (engine_of s) v) plain.0 ∙ ap (read_steps (engine_of old)) v_is in
      let same = plain.1 in omega (arith, counted, cost, same);
  reads = subst (λ s. OnlyReads s new) plain.0 reads;
}
shown_plainly (named x) true old mid new before now after v value plain counted reads = tt
shown_plainly (number n) info old mid new before now after v value plain counted reads = tt
shown_plainly (literal ty ds es) info old mid new before now after v value plain counted reads = tt
shown_plainly (unary op e) info old mid new before now after v value plain counted reads = tt
shown_plainly (binary op e f) info old mid new before now after v value plain counted reads = tt
shown_plainly (call f args) info old mid new before now after v value plain counted reads = tt

-- a print of what is refused
pub unshown_plainly : (e : Tree) (info : Bool) (old new : Scope) (before after : ℕ) (r : Result ℕ ScopeFault) → EvaluatesPlainly e old new before after r → MovesPlainly (show e info) old new before after
unshown_plainly (named x) false old new before after r plain = record {
  counted = λ u bound. (let same = plain.1 in omega (arith, same));
  reads = subst (λ s. OnlyReads old s) (sym plain.0) (reads_refl old);
}
unshown_plainly (named x) true old new before after r plain = tt
unshown_plainly (number n) info old new before after r plain = tt
unshown_plainly (literal ty ds es) info old new before after r plain = tt
unshown_plainly (unary op e) info old new before after r plain = tt
unshown_plainly (binary op e f) info old new before after r plain = tt
unshown_plainly (call f args) info old new before after r plain = tt

-- what was printed can be read again
pub shown_readable : (e : Tree) (info : Bool) (old mid new : Scope) (v : ℕ) → value_of old.names old.arrays e ≡ Ok (mid.arrays, v) → (info ≡ false → is_fresh (engine_of new) v ≡ true) → LeavesReadable (show e info) old new
shown_readable (named x) false old mid new v value lent =
    subst (λ o. IfSome o (λ u. is_fresh (engine_of new) u ≡ true)) (sym (name_is old.arrays mid.arrays (number_of old.names x) v value)) (lent refl)
shown_readable (named x) true old mid new v value lent = tt
shown_readable (number n) info old mid new v value lent = tt
shown_readable (literal ty ds es) info old mid new v value lent = tt
shown_readable (unary op e) info old mid new v value lent = tt
shown_readable (binary op e f) info old mid new v value lent = tt
shown_readable (call f args) info old mid new v value lent = tt

-- a name, a number and a list as expressions
pub named_plain : (e : Expr) (x : List ℕ) (s : Scope) (n : ℕ) (r : Result ℕ ScopeFault) → e ≡ Named x → EvaluatesPlainly (tree_of e) s s n n r
named_plain e x s n r is = subst (λ y. EvaluatesPlainly (tree_of y) s s n n r) (sym is) (refl, refl)

pub number_plain : (e : Expr) (k : ℤ) (old new : Scope) (before after : ℕ) (r : Result ℕ ScopeFault) → e ≡ Number k → MakesRoot 1 old new before after r → EvaluatesPlainly (tree_of e) old new before after r
number_plain e k old new before after r is h = subst (λ y. EvaluatesPlainly (tree_of y) old new before after r) (sym is) h

pub list_plain : (e : Expr) (m : Made) (b : Box Made Global) (old new : Scope) (before after : ℕ) (r : Result ℕ ScopeFault) → e ≡ Listed b → m ≡ b.value → KeepsViews new.arrays.world old.arrays.world → IfOk r (λ v. is_fresh (engine_of new) v ≡ true)
    → after ≤ before + count_moved m.elems → EvaluatesPlainly (tree_of e) old new before after r
list_plain e m b old new before after r is at roots fresh counted =
    let few : count_moved m.elems ≤ length m.elems = count_by-le-length (λ x. not (int_eq x (pos 0))) m.elems in
    let h : MakesRoot (length m.elems) old new before after r = record { counted = omega (arith, few, counted); roots = roots; fresh = fresh } in
    subst (λ y. EvaluatesPlainly (tree_of y) old new before after r) (sym is) (subst (λ (z : Made). MakesRoot (length z.elems) old new before after r) at h)
