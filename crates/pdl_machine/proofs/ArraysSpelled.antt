-- Each value is an array that was there, or the newest one: and a script can spell the views that
-- come with it.
use Rattle.std.proofs.Common.{◌≡◌, ℕ, ℤ, pos, List, [], ◌∷◌, ◌++◌, length, All, Bool, true, false, Option, Some, None, Result, Ok, Err, inl, inr, ◌⊎◌, refl, sym, ap, subst, eqb-true}
use Rattle.std.specs.Prelude.{◌==◌, ◌&&◌, if◌then◌else◌, IfOk, IfSome, IsTrue, bytes_eq, is_none, option_and_then}
use Rattle.std.proofs.lemmas.List.Elements.{All-nil, All-cons}
use Rattle.pdl_lemmas.specs.Options.{choose}
use Rattle.pdl_elem.specs.declared.Ty.TheVariants.{Longlong}
use Rattle.pdl_elem.specs.Types.{InRange}
use Rattle.pdl_shape.specs.Shape.{IsDims, size_of}
use Rattle.pdl_buf.specs.declared.made.Made.{Made}
use Rattle.pdl_slices.specs.declared.SliceArg.{SliceArg}
use Rattle.pdl_slices.specs.declared.SliceFault.{SliceFault}
use Rattle.pdl_slices.specs.Meaning.{slice_of}
use Rattle.pdl_affine.specs.declared.Affine.{Affine}
use Rattle.pdl_affine.specs.declared.Affine.TheVariants as affine
use Rattle.pdl_ops.specs.Elementwise.{unary_each}
use Rattle.pdl_ops.specs.Fills.{filled}
use Rattle.pdl_nice.specs.Nice.{mark}
use Rattle.pdl_reduce.specs.Reductions.{reduced, whole_reduced}
use Rattle.pdl_reduce.specs.Pairings.{paired}
use Rattle.pdl_reduce.specs.Refusals.{ReduceRefusal}
use Rattle.pdl_world.specs.declared.Trans.{Trans}
use Rattle.pdl_world.specs.declared.Trans.TheVariants as trans
use Rattle.pdl_world.specs.Formula.{is_well_formed}
use Rattle.pdl_world.specs.Refused.{NoView, view_refusal}
use Rattle.pdl_world.specs.Sound.{IsSound}
use Rattle.pdl_world.specs.World.{World, ArrayDef, root, view}
use Rattle.pdl_syntax.specs.Tree.{Tree, Args, number, named, literal, unary, binary, call, none, value, text, of_type}
use Rattle.pdl_machine.specs.declared.builtin.Arrangement.{Arrangement}
use Rattle.pdl_machine.specs.declared.builtin.Arrangement.TheVariants.{Xchg, Mv, Reorder, Dummy, Diagonal, Clump, Flat, Squeeze}
use Rattle.pdl_machine.specs.declared.builtin.Builtin.{Builtin}
use Rattle.pdl_machine.specs.declared.builtin.Builtin.TheVariants.{Filled, Told, Dim, Slice, Nice, Arranged, Index, Where, Range, Reduced, Whole, Paired}
use Rattle.pdl_machine.specs.declared.builtin.Inquiry.{Inquiry}
use Rattle.pdl_machine.specs.declared.fault.Fault.{Fault}
use Rattle.pdl_machine.specs.declared.fault.Fault.TheVariants.{WrongArguments}
use Rattle.pdl_machine.specs.Then.{and_then, or_fault}
use Rattle.pdl_machine.specs.Refused.{or_named, reduce_fault}
use Rattle.pdl_machine.specs.Names.{Names, number_of}
use Rattle.pdl_machine.specs.Arrays.{Arrays, array_in, with_new}
use Rattle.pdl_machine.specs.Laws.{AreGrown}
use Rattle.pdl_machine.specs.Fills.{only, after_type, type_given, numbers_in, number_in, dims_for}
use Rattle.pdl_machine.specs.Inquiries.{size_at, long_number, inquiry_outcome, dim_outcome}
use Rattle.pdl_machine.specs.Views.{slice_fault, slice_by, slice_outcome, arranged, arrangement_outcome, look_up, index_outcome, where_outcome, range_by, range_outcome, edge_of}
use Rattle.pdl_machine.specs.NiceCalls.{filled_in, slice_by_numbers, slice_in, looking_up, nice_by, nice_outcome}
use Rattle.pdl_machine.specs.Reductions.{made_or_fault, of_one, of_two}
use Rattle.pdl_machine.specs.Outcome.{array, string, type_word, Given, Seen, all_seen, Outcome, made, viewed, Valued, new_root, new_view, view_placed, placed}
use Rattle.pdl_machine.specs.Operators.{binary_each}
use Rattle.pdl_machine.specs.Kernels.{kernel_outputs}
use Rattle.pdl_machine.specs.Calls.{outcome, Callee, builtin, kernel, callee_of, only_root, value_by, call_value}
use Rattle.pdl_machine.specs.Value.{known, number_made, value_of, taken}
use Rattle.pdl_machine.specs.Dumpable.{IsAffineWritable, IsIndex, IsWritable, IsViewWritable, ViewsAreWritable}
use Rattle.pdl_machine.proofs.OutcomeOrder.{ok_then, ok_always, grown_self, grown_trans}
use Rattle.pdl_machine.proofs.DumpableViews.{Laws, IsFine, shown_fine}

-- ---- what calls give

abbrev IsSeenFine : Seen → Type 0
IsSeenFine (array m) = IsFine m.dims m.elems
IsSeenFine (string t) = Unit {0}
IsSeenFine (type_word ty) = Unit {0}

abbrev AreSeenFine : List Seen → Type 0
AreSeenFine [] = Unit {0}
AreSeenFine (g ∷ given) = IsSeenFine g × AreSeenFine given

seen_fine : Laws → (a : Arrays) → IsSound a.world → (given : List Given) → AreSeenFine (all_seen a given)
seen_fine laws a sound [] = tt
seen_fine laws a sound (array v ∷ given) = (shown_fine laws a.world sound v, seen_fine laws a sound given)
seen_fine laws a sound (string t ∷ given) = (tt, seen_fine laws a sound given)
seen_fine laws a sound (type_word ty ∷ given) = (tt, seen_fine laws a sound given)

-- a transformation that can be spelled, but for the count of an index's values
abbrev IsFineTrans : Trans → Type 0
IsFineTrans (trans.Affine t) = IsAffineWritable t
IsFineTrans (trans.Index dims ind) = IsFine dims ind
IsFineTrans (trans.Where dims places) = IsDims dims
IsFineTrans (trans.Range dims ind sizes edge) = IsFine dims ind × All (InRange Longlong) sizes

abbrev FineOutcome : Outcome → Type 0
FineOutcome (made m) = Unit {0}
FineOutcome (viewed t) = IsFineTrans t

counted : (dims : List ℕ) (ind : List ℤ) → IsFine dims ind → (length ind == size_of dims) ≡ true → IsIndex dims ind
counted dims ind fine is = record {
  dims_are = fine.dims_are;
  made = record { count = eqb-true (length ind) (size_of dims) is; in_range = fine.in_range };
}

writable_of : (t : Trans) → IsFineTrans t → IsTrue (is_well_formed t) → IsWritable t
writable_of (trans.Affine t) fine formed = fine
writable_of (trans.Index dims ind) fine formed = counted dims ind fine formed
writable_of (trans.Where dims places) fine formed = fine
writable_of (trans.Range dims ind sizes edge) fine formed = (counted dims ind fine.0 formed, fine.1)

slice_fine : (bytes : List ℕ) → IfOk (slice_by bytes) FineOutcome
slice_fine bytes = by_read (slice_of bytes) refl
  where
    by_read : (x : Result (List SliceArg) SliceFault) → slice_of bytes ≡ x → IfOk (and_then (or_named slice_fault x) (λ args. Ok (viewed (trans.Affine (affine.Slice args))))) FineOutcome
    by_read (Ok args) is = record { text = bytes; is = is }
    by_read (Err e) is = tt

arranged_fine : (word : Arrangement) (ns : List ℤ) → IfSome (arranged word ns) IsAffineWritable
arranged_fine Xchg [] = tt
arranged_fine Xchg (a ∷ []) = tt
arranged_fine Xchg (a ∷ b ∷ []) = tt
arranged_fine Xchg (a ∷ b ∷ c ∷ ns) = tt
arranged_fine Mv [] = tt
arranged_fine Mv (a ∷ []) = tt
arranged_fine Mv (a ∷ b ∷ []) = tt
arranged_fine Mv (a ∷ b ∷ c ∷ ns) = tt
arranged_fine Reorder ns = tt
arranged_fine Dummy [] = tt
arranged_fine Dummy (a ∷ []) = tt
arranged_fine Dummy (a ∷ b ∷ []) = tt
arranged_fine Dummy (a ∷ b ∷ c ∷ ns) = tt
arranged_fine Diagonal [] = tt
arranged_fine Diagonal (k ∷ ns) = tt
arranged_fine Clump [] = tt
arranged_fine Clump (a ∷ []) = tt
arranged_fine Clump (a ∷ b ∷ ns) = tt
arranged_fine Flat [] = tt
arranged_fine Flat (a ∷ ns) = tt
arranged_fine Squeeze [] = tt
arranged_fine Squeeze (a ∷ ns) = tt

arrangement_fine : (word : Arrangement) (given : List Seen) → IfOk (arrangement_outcome word given) FineOutcome
arrangement_fine word [] = tt
arrangement_fine word (array m ∷ given) =
    ok_always FineOutcome (numbers_in given) (λ ns. and_then (or_fault WrongArguments (arranged word ns)) (λ t. Ok (viewed (trans.Affine t)))) (λ ns. by_word (arranged word ns) (arranged_fine word ns))
  where
    by_word : (o : Option Affine) → IfSome o IsAffineWritable → IfOk (and_then (or_fault WrongArguments o) (λ t. Ok (viewed (trans.Affine t)))) FineOutcome
    by_word None fine = tt
    by_word (Some t) fine = fine
arrangement_fine word (string t ∷ given) = tt
arrangement_fine word (type_word ty ∷ given) = tt

slice_outcome_fine : (given : List Seen) → IfOk (slice_outcome given) FineOutcome
slice_outcome_fine [] = tt
slice_outcome_fine (array m ∷ []) = tt
slice_outcome_fine (array m ∷ array n ∷ given) = tt
slice_outcome_fine (array m ∷ string t ∷ []) = slice_fine t
slice_outcome_fine (array m ∷ string t ∷ g ∷ given) = tt
slice_outcome_fine (array m ∷ type_word ty ∷ given) = tt
slice_outcome_fine (string t ∷ given) = tt
slice_outcome_fine (type_word ty ∷ given) = tt

looking_up_fine : (pattern : List ℕ) (given : List Seen) → AreSeenFine given → IfSome (looking_up pattern given) (λ m. IsFine m.dims m.elems)
looking_up_fine pattern [] fine = tt
looking_up_fine pattern (array ind ∷ []) fine = by_test (bytes_eq pattern (mark ∷ []) && is_none (only ind.elems))
  where
    by_test : (b : Bool) → IfSome (if b then Some ind else None) (λ m. IsFine m.dims m.elems)
    by_test true = fine.0
    by_test false = tt
looking_up_fine pattern (array ind ∷ g ∷ given) fine = tt
looking_up_fine pattern (string t ∷ given) fine = tt
looking_up_fine pattern (type_word ty ∷ given) fine = tt

nice_by_fine : (pattern : List ℕ) (given : List Seen) → AreSeenFine given → IfOk (nice_by pattern given) FineOutcome
nice_by_fine pattern given fine = by_way (looking_up pattern given) (looking_up_fine pattern given fine)
  where
    by_way : (o : Option Made) → IfSome o (λ m. IsFine m.dims m.elems) → IfOk (choose (slice_in pattern given) look_up o) FineOutcome
    by_way None here =
        ok_always FineOutcome (numbers_in given) (slice_by_numbers pattern) (λ ns.
        ok_always FineOutcome (or_fault WrongArguments (filled_in pattern ns)) slice_by slice_fine)
    by_way (Some ind) here = here

nice_fine : (given : List Seen) → AreSeenFine given → IfOk (nice_outcome given) FineOutcome
nice_fine [] fine = tt
nice_fine (array m ∷ []) fine = tt
nice_fine (array m ∷ array n ∷ given) fine = tt
nice_fine (array m ∷ string t ∷ given) fine = nice_by_fine t given fine.1.1
nice_fine (array m ∷ type_word ty ∷ given) fine = tt
nice_fine (string t ∷ given) fine = tt
nice_fine (type_word ty ∷ given) fine = tt

index_fine : (given : List Seen) → AreSeenFine given → IfOk (index_outcome given) FineOutcome
index_fine [] fine = tt
index_fine (array m ∷ []) fine = tt
index_fine (array m ∷ array n ∷ []) fine = fine.1.0
index_fine (array m ∷ array n ∷ g ∷ given) fine = tt
index_fine (array m ∷ string t ∷ given) fine = tt
index_fine (array m ∷ type_word ty ∷ given) fine = tt
index_fine (string t ∷ given) fine = tt
index_fine (type_word ty ∷ given) fine = tt

where_fine : (given : List Seen) → AreSeenFine given → IfOk (where_outcome given) FineOutcome
where_fine [] fine = tt
where_fine (array m ∷ []) fine = tt
where_fine (array m ∷ array n ∷ []) fine = fine.1.0.dims_are
where_fine (array m ∷ array n ∷ g ∷ given) fine = tt
where_fine (array m ∷ string t ∷ given) fine = tt
where_fine (array m ∷ type_word ty ∷ given) fine = tt
where_fine (string t ∷ given) fine = tt
where_fine (type_word ty ∷ given) fine = tt

range_by_fine : Laws → (ind : Made) (given : List Seen) → IsFine ind.dims ind.elems → AreSeenFine given → IfOk (range_by ind given) FineOutcome
range_by_fine laws ind [] here fine = (here, All-cons (InRange Longlong) (pos 0) [] (laws.wraps.zero Longlong) (All-nil (InRange Longlong)))
range_by_fine laws ind (array sizes ∷ []) here fine = (here, fine.0.in_range)
range_by_fine laws ind (array sizes ∷ array edge ∷ []) here fine =
    ok_always FineOutcome (or_fault WrongArguments (option_and_then edge_of (only edge.elems))) (λ e. Ok (viewed (trans.Range ind.dims ind.elems sizes.elems e))) (λ e. (here, fine.0.in_range))
range_by_fine laws ind (array sizes ∷ array edge ∷ g ∷ given) here fine = tt
range_by_fine laws ind (array sizes ∷ string t ∷ given) here fine = tt
range_by_fine laws ind (array sizes ∷ type_word ty ∷ given) here fine = tt
range_by_fine laws ind (string t ∷ given) here fine = tt
range_by_fine laws ind (type_word ty ∷ given) here fine = tt

range_fine : Laws → (given : List Seen) → AreSeenFine given → IfOk (range_outcome given) FineOutcome
range_fine laws [] fine = tt
range_fine laws (array m ∷ []) fine = tt
range_fine laws (array m ∷ array ind ∷ given) fine = range_by_fine laws ind given fine.1.0 fine.1.1
range_fine laws (array m ∷ string t ∷ given) fine = tt
range_fine laws (array m ∷ type_word ty ∷ given) fine = tt
range_fine laws (string t ∷ given) fine = tt
range_fine laws (type_word ty ∷ given) fine = tt

inquiry_fine : (inquiry : Inquiry) (given : List Seen) → IfOk (inquiry_outcome inquiry given) FineOutcome
inquiry_fine inquiry [] = tt
inquiry_fine inquiry (array m ∷ []) = tt
inquiry_fine inquiry (array m ∷ g ∷ given) = tt
inquiry_fine inquiry (string t ∷ given) = tt
inquiry_fine inquiry (type_word ty ∷ given) = tt

dim_fine : (given : List Seen) → IfOk (dim_outcome given) FineOutcome
dim_fine [] = tt
dim_fine (array m ∷ []) = tt
dim_fine (array m ∷ k ∷ []) =
    ok_always FineOutcome (or_fault WrongArguments (number_in k)) (λ z. and_then (size_at m.dims z) (λ n. Ok (made (long_number n)))) (λ z.
    ok_always FineOutcome (size_at m.dims z) (λ n. Ok (made (long_number n))) (λ n. tt))
dim_fine (array m ∷ k ∷ g ∷ given) = tt
dim_fine (string t ∷ given) = tt
dim_fine (type_word ty ∷ given) = tt

made_fine : (x : Result Made ReduceRefusal) → IfOk (made_or_fault x) FineOutcome
made_fine x = ok_always FineOutcome (or_named reduce_fault x) (λ m. Ok (made m)) (λ m. tt)

one_fine : (f : Made → Result Made ReduceRefusal) (given : List Seen) → IfOk (of_one f given) FineOutcome
one_fine f [] = tt
one_fine f (array m ∷ []) = made_fine (f m)
one_fine f (array m ∷ g ∷ given) = tt
one_fine f (string t ∷ given) = tt
one_fine f (type_word ty ∷ given) = tt

two_fine : (f : Made → Made → Result Made ReduceRefusal) (given : List Seen) → IfOk (of_two f given) FineOutcome
two_fine f [] = tt
two_fine f (array m ∷ []) = tt
two_fine f (array m ∷ array n ∷ []) = made_fine (f m n)
two_fine f (array m ∷ array n ∷ g ∷ given) = tt
two_fine f (array m ∷ string t ∷ given) = tt
two_fine f (array m ∷ type_word ty ∷ given) = tt
two_fine f (string t ∷ given) = tt
two_fine f (type_word ty ∷ given) = tt

outcome_fine : Laws → (b : Builtin) (given : List Seen) → AreSeenFine given → IfOk (outcome b given) FineOutcome
outcome_fine laws (Filled fill) given fine =
    ok_always FineOutcome (numbers_in (after_type given)) (λ ns. and_then (dims_for ns) (λ ds. Ok (made (filled fill (type_given given) ds)))) (λ ns.
    ok_always FineOutcome (dims_for ns) (λ ds. Ok (made (filled fill (type_given given) ds))) (λ ds. tt))
outcome_fine laws (Told inquiry) given fine = inquiry_fine inquiry given
outcome_fine laws Dim given fine = dim_fine given
outcome_fine laws Slice given fine = slice_outcome_fine given
outcome_fine laws Nice given fine = nice_fine given fine
outcome_fine laws (Arranged word) given fine = arrangement_fine word given
outcome_fine laws Index given fine = index_fine given fine
outcome_fine laws Where given fine = where_fine given fine
outcome_fine laws Range given fine = range_fine laws given fine
outcome_fine laws (Reduced kind) given fine = one_fine (reduced kind) given
outcome_fine laws (Whole kind) given fine = one_fine (whole_reduced kind) given
outcome_fine laws (Paired kind) given fine = two_fine (paired kind) given

-- ---- how values come

-- new arrays came, and a script can spell the views among them
pub record Keeps (a b : Arrays) : Type 0 where
  pub grown : AreGrown a b
  pub views : IsSound b.world → ViewsAreWritable a.world → ViewsAreWritable b.world

sound_behind : (more w : World) → IsSound (more ++ w) → IsSound w
sound_behind [] w sound = sound
sound_behind (a ∷ more) w sound = sound_behind more w sound.2

keeps_self : (a : Arrays) → Keeps a a
keeps_self a = record { grown = grown_self a; views = λ sound views. views }

pub keeps_trans : (a b c : Arrays) → Keeps a b → Keeps b c → Keeps a c
keeps_trans a b c h k = record {
  grown = grown_trans a b c h.grown k.grown;
  views = λ sound views. k.views sound (h.views (sound_behind k.grown.more b.world (subst IsSound k.grown.is sound)) views);
}

-- the array that comes last is the newest
pub record IsNew (a : Arrays) (p : Arrays × ℕ) : Type 0 where
  pub below : Arrays
  pub newest : ArrayDef
  pub kept : Keeps a below
  pub joins : IsSound ((below.next, newest) ∷ below.world) → IsViewWritable newest
  pub is : with_new below newest ≡ p

-- a value is an array that was there, or the newest one
abbrev pub Arrives : Arrays → Arrays × ℕ → Type 0
Arrives a p = (p.0 ≡ a) ⊎ IsNew a p

pub keeps_new : (a : Arrays) (p : Arrays × ℕ) → IsNew a p → Keeps a p.0
keeps_new a p n =
    let P : Arrays × ℕ → Type 0 = λ q. Keeps a q.0 in
    subst P n.is (record {
      grown = record {
        more = (n.below.next, n.newest) ∷ n.kept.grown.more;
        is = ap (λ (w : World). (n.below.next, n.newest) ∷ w) n.kept.grown.is;
      };
      views = λ sound views. (n.joins sound, n.kept.views sound.2 views);
    })

pub keeps_of : (a : Arrays) (p : Arrays × ℕ) → Arrives a p → Keeps a p.0
keeps_of a p (inl e) = let P : Arrays → Type 0 = λ b. Keeps a b in subst P (sym e) (keeps_self a)
keeps_of a p (inr n) = keeps_new a p n

root_arrives : (a c : Arrays) → Keeps a c → (m : Made) → IfOk (new_root c m) (IsNew a)
root_arrives a c kept m = record { below = c; newest = root m.ty m.dims m.elems; kept = kept; joins = λ sound. tt; is = refl }

view_arrives : (a c : Arrays) → Keeps a c → (given : List Given) (t : Trans) → (IsSound c.world → IsFineTrans t) → IfOk (view_placed c given t) (IsNew a)
view_arrives a c kept [] t fine = tt
view_arrives a c kept (array v ∷ given) t fine = by_refusal (view_refusal c.world v t)
  where
    by_refusal : (x : Option NoView) → IfOk (new_view c v t x) (IsNew a)
    by_refusal None = record {
      below = c;
      newest = view v t;
      kept = kept;
      joins = λ sound. writable_of t (fine sound.2) sound.1.well_formed;
      is = refl;
    }
    by_refusal (Some reason) = tt
view_arrives a c kept (string s ∷ given) t fine = tt
view_arrives a c kept (type_word ty ∷ given) t fine = tt

placed_arrives : (a c : Arrays) → Keeps a c → (given : List Given) (x : Result Outcome Fault) → (IsSound c.world → IfOk x FineOutcome) → IfOk (placed c given x) (IsNew a)
placed_arrives a c kept given (Err e) fine = tt
placed_arrives a c kept given (Ok (made m)) fine = root_arrives a c kept m
placed_arrives a c kept given (Ok (viewed t)) fine = view_arrives a c kept given t fine

only_arrives : (a c : Arrays) → Keeps a c → (ms : List Made) → IfOk (only_root c ms) (IsNew a)
only_arrives a c kept [] = tt
only_arrives a c kept (m ∷ []) = root_arrives a c kept m
only_arrives a c kept (m ∷ n ∷ ms) = tt

-- a value by a call is new
pub value_by_arrives : Laws → (a c : Arrays) → Keeps a c → (given : List Given) (f : Callee) → IfOk (value_by c given f) (IsNew a)
value_by_arrives laws a c kept given (builtin b) =
    placed_arrives a c kept given (outcome b (all_seen c given)) (λ sound. outcome_fine laws b (all_seen c given) (seen_fine laws c sound given))
value_by_arrives laws a c kept given (kernel k) =
    ok_always (IsNew a) (kernel_outputs k 1 (all_seen c given)) (only_root c) (only_arrives a c kept)

known_arrives : (a : Arrays) (o : Option ℕ) → IfOk (known a o) (Arrives a)
known_arrives a None = tt
known_arrives a (Some v) = inl refl

arrives_new : (a : Arrays) (x : Valued) → IfOk x (IsNew a) → IfOk x (Arrives a)
arrives_new a (Ok p) n = inr n
arrives_new a (Err e) n = tt

abbrev TakenKeeps : Arrays → Arrays × List Given → Type 0
TakenKeeps a t = Keeps a t.0

mutual
  pub value_arrives : Laws → (names : Names) (e : Tree) (a : Arrays) → IfOk (value_of names a e) (Arrives a)
  value_arrives laws names (number n) a = arrives_new a (new_root a (number_made n)) (root_arrives a a (keeps_self a) (number_made n))
  value_arrives laws names (named x) a = known_arrives a (number_of names x)
  value_arrives laws names (literal ty ds es) a =
      let m : Made = record { ty = ty; dims = ds; elems = es } in arrives_new a (new_root a m) (root_arrives a a (keeps_self a) m)
  value_arrives laws names (unary op e) a =
      ok_then (Arrives a) (Arrives a) (value_of names a e) (λ v. new_root v.0 (unary_each op (array_in v.0 v.1))) (value_arrives laws names e a) (λ v came.
      let m : Made = unary_each op (array_in v.0 v.1) in arrives_new a (new_root v.0 m) (root_arrives a v.0 (keeps_of a v came) m))
  value_arrives laws names (binary op e f) a =
      ok_then (Arrives a) (Arrives a) (value_of names a e) (λ v. and_then (value_of names v.0 f) (λ u. and_then (binary_each op (array_in u.0 v.1) (array_in u.0 u.1)) (new_root u.0))) (value_arrives laws names e a) (λ v came.
      ok_then (Arrives v.0) (Arrives a) (value_of names v.0 f) (λ u. and_then (binary_each op (array_in u.0 v.1) (array_in u.0 u.1)) (new_root u.0)) (value_arrives laws names f v.0) (λ u next.
      let kept : Keeps a u.0 = keeps_trans a v.0 u.0 (keeps_of a v came) (keeps_of v.0 u next) in
      ok_always (Arrives a) (binary_each op (array_in u.0 v.1) (array_in u.0 u.1)) (new_root u.0) (λ m. arrives_new a (new_root u.0 m) (root_arrives a u.0 kept m))))
  value_arrives laws names (call f args) a =
      ok_then (TakenKeeps a) (Arrives a) (taken names a args) (λ t. call_value names f t.0 t.1) (taken_keeps laws names args a) (λ t kept.
      ok_always (Arrives a) (callee_of names f) (value_by t.0 t.1) (λ c. arrives_new a (value_by t.0 t.1 c) (value_by_arrives laws a t.0 kept t.1 c)))

  pub taken_keeps : Laws → (names : Names) (args : Args) (a : Arrays) → IfOk (taken names a args) (λ t. Keeps a t.0)
  taken_keeps laws names none a = keeps_self a
  taken_keeps laws names (value front e) a =
      ok_then (TakenKeeps a) (TakenKeeps a) (taken names a front) (λ t. and_then (value_of names t.0 e) (λ v. Ok (v.0, t.1 ++ array v.1 ∷ []))) (taken_keeps laws names front a) (λ t kept.
      ok_then (Arrives t.0) (TakenKeeps a) (value_of names t.0 e) (λ v. Ok (v.0, t.1 ++ array v.1 ∷ [])) (value_arrives laws names e t.0) (λ v came. keeps_trans a t.0 v.0 kept (keeps_of t.0 v came)))
  taken_keeps laws names (text front s) a =
      ok_then (TakenKeeps a) (TakenKeeps a) (taken names a front) (λ t. Ok (t.0, t.1 ++ string s ∷ [])) (taken_keeps laws names front a) (λ t kept. kept)
  taken_keeps laws names (of_type front ty) a =
      ok_then (TakenKeeps a) (TakenKeeps a) (taken names a front) (λ t. Ok (t.0, t.1 ++ type_word ty ∷ [])) (taken_keeps laws names front a) (λ t kept. kept)
