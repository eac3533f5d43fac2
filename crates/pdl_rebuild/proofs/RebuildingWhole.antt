-- The dump of a state leads to that state.
use Rattle.std.proofs.Common.{◌≡◌, ℕ, ◌+◌, ◌≤◌, false, List, [], ◌∷◌, ◌++◌, length, refl, sym, ◌∙◌, ap, ap₂, subst, arith, map, append-nil}
use Rattle.std.proofs.lemmas.Bool.{ltb-false}
use Rattle.std.proofs.lemmas.List.{map-append, nil_from_length}
use Rattle.std.specs.List.{list_any}
use Rattle.std.specs.Prelude.{Ok, Err, nat_lt, is_some}
use Rattle.pdl_lemmas.specs.Tests.{by_test}
use Rattle.pdl_affine.specs.declared.Affine.{Affine}
use Rattle.pdl_affine.specs.declared.Affine.TheVariants as affine
use Rattle.pdl_world.specs.declared.Trans.TheVariants as trans
use Rattle.pdl_world.specs.KeepingLaws.{MoreKeepAll}
use Rattle.pdl_world.specs.Laws.{LiveLieBelow}
use Rattle.pdl_world.specs.Sound.{IsAllowed, IsSound, NumbersBelow}
use Rattle.pdl_world.specs.Swept.{sweep, KeepsAll}
use Rattle.pdl_world.specs.World.{World, ArrayDef, root, view}
use Rattle.pdl_image.specs.Dump.{affine_call, definition_line, name_line, undef_lines, array_lines, world_lines, dump}
use Rattle.pdl_image.specs.Laws.{StemsAreFree}
use Rattle.pdl_image.specs.Lines.{Line, view_line}
use Rattle.pdl_image.specs.Stems.{stem_of, name_at}
use Rattle.pdl_reread.specs.Scripts.{AreLines}
use Rattle.pdl_reread.specs.Trees.{line_tree, IsLine}
use Rattle.pdl_lexemes.specs.Texts.{IsName}
use Rattle.pdl_machine.specs.declared.fault.Fault.{Fault}
use Rattle.pdl_machine.specs.Dumpable.{AreEach, IsDefined, IsWritable, IsViewWritable, ViewsAreWritable, IsDumpable}
use Rattle.pdl_machine.specs.Dumps.{definition, dump_lines, dumped, names_wanted}
use Rattle.pdl_machine.specs.Names.{KernelTexts, Named, names_limit}
use Rattle.pdl_machine.specs.Flows.{Flows, needs_of}
use Rattle.pdl_machine.specs.State.{State, held, AreLive}
use Rattle.pdl_machine.specs.Tidy.{renumber}
use Rattle.pdl_machine.specs.Watches.{Watches, attached}
use Rattle.pdl_rebuild.specs.Named.{NamesAreBound, NamesEnd, KernelsAreDefined}
use Rattle.pdl_rebuild.specs.Rebuilt.{state_of, arrays_of, AreBelow, InOrder, ParentBelow, IsResting}
use Rattle.pdl_rebuild.specs.Rebuilding.{emptied, DumpsRebuild}
use Rattle.pdl_rebuild.specs.Shown.{IsReadAgain}
use Rattle.pdl_rebuild.specs.Steps.{AllLead}
use Rattle.pdl_rebuild.proofs.RebuiltFolds.{AreDistinct, AreFresh, AreDefined, kernels_rebuilt, names_rebuilt, stems_undone}
use Rattle.pdl_rebuild.proofs.StepLeads.{then_lead}
use Rattle.pdl_rebuild.proofs.RebuiltPassing.{order_below}
use Rattle.pdl_rebuild.proofs.RebuiltStems.{AllCanRemake, CanRemake, RemakeLaws, stems, apart_new, stems_rest, world_rebuilt}
use Rattle.pdl_rebuild.proofs.RebuiltTexts.{AllApart, all_apart}
use Rattle.pdl_rebuild.proofs.RebuiltTidied.{idle_attached, names_same}

-- each line of a dump is one that is read
abbrev pub LinesAreLines : Type 0
LinesAreLines = (s : State) (text : List ℕ) → IsDumpable s → dumped s ≡ Ok text → AreLines (dump_lines s)

pub record WholeLaws : Type 0 where
  pub remake : RemakeLaws
  pub below : LiveLieBelow
  pub more : MoreKeepAll
  pub free : StemsAreFree
  pub lines : LinesAreLines
  pub names : NamesAreBound
  pub ends : NamesEnd
  pub kernels : KernelsAreDefined

-- ---- what a state that can be dumped is

abbrev first_number : World → ℕ
first_number [] = 0
first_number (a ∷ w) = a.0

abbrev others : World → World
others [] = []
others (a ∷ w) = w

in_order : LiveLieBelow → (w : World) → IsSound w → renumber w ≡ w → InOrder w
in_order law [] sound same = tt
in_order law ((k, d) ∷ w) sound same =
    (sym (ap first_number same), (parent_below d sound.1, in_order law w sound.2 (ap others same)))
  where
    parent_below : (d : ArrayDef) → IsAllowed w d → ParentBelow (length w) d
    parent_below (root ty ds es) allowed = tt
    parent_below (view p t) allowed = omega (arith, law w k p sound.0 allowed.live, ap first_number same)

live_below : LiveLieBelow → (w : World) (n : ℕ) (vs us : List ℕ) → NumbersBelow n w → AreLive w (vs ++ us) → AreBelow n vs
live_below law w n [] us below live = tt
live_below law w n (v ∷ vs) us below live = (law w n v below live.0, live_below law w n vs us below live.1)

distinct : {A : Type 0} (P : List ℕ → A → Type 0) (names : Named A) → AreEach P names → AreDistinct names
distinct P [] each = tt
distinct P (n ∷ names) each = (each.1, distinct P names each.2)

are_defined : (kernels : Named KernelTexts) → AreEach IsDefined kernels → AreDefined kernels
are_defined [] each = tt
are_defined (k ∷ kernels) each = (each.0.is, are_defined kernels each.2)

all_fresh : {A : Type 0} (names : Named A) → AreFresh {A = A} {B = A} [] names
all_fresh [] = tt
all_fresh (n ∷ names) = (refl, all_fresh names)

stems_fresh : (stem : List ℕ) (w : World) (names : Named ℕ) → AllApart stem (map (λ n. n.0) names) → AreFresh (stems stem w) names
stems_fresh stem w [] apart = tt
stems_fresh stem w (n ∷ names) apart = (apart_new stem w n.0 apart.0, stems_fresh stem w names apart.1)

lines_front : (xs ys : List Line) → AreLines (xs ++ ys) → AreLines xs
lines_front [] ys are = tt
lines_front (x ∷ xs) ys are = (are.0, are.1, lines_front xs ys are.2)

lines_back : (xs ys : List Line) → AreLines (xs ++ ys) → AreLines ys
lines_back [] ys are = are
lines_back (x ∷ xs) ys are = lines_back xs ys are.2

-- what its line and the record say of an affine view
read_again : (x y : List ℕ) (t : Affine) → IsWritable (trans.Affine t) → IsLine (view_line x y (affine_call t)) → IsReadAgain (affine_call t)
read_again x y (affine.Slice args) writable is = writable
read_again x y (affine.Xchg a b) writable is = is.2.1
read_again x y (affine.Mv a b) writable is = is.2.1
read_again x y (affine.Reorder order) writable is = is.2.1
read_again x y (affine.Dummy place size) writable is = is.2.1
read_again x y (affine.Diagonal listed) writable is = is.2.1
read_again x y affine.Squeeze writable is = is.2.1
read_again x y (affine.Clump count) writable is = is.2.1

all_can : (stem : List ℕ) (w : World) → IsSound w → ViewsAreWritable w → AreLines (world_lines stem w) → AllCanRemake w
all_can stem [] sound writable are = tt
all_can stem ((k, d) ∷ w) sound writable are =
    (one d sound.1 writable.0 (lines_back (world_lines stem w) (array_lines stem k d) are), all_can stem w sound.2 writable.1 (lines_front (world_lines stem w) (array_lines stem k d) are))
  where
    one : (d : ArrayDef) → IsAllowed w d → IsViewWritable d → AreLines (array_lines stem k d) → CanRemake w d
    one (root ty ds es) allowed can lines = (allowed.0, allowed.1)
    one (view p (trans.Affine t)) allowed can lines = (allowed, read_again (name_at stem k) (name_at stem p) t can lines.0)
    one (view p (trans.Index dims ind)) allowed can lines = (allowed, (can.dims_are, can.made))
    one (view p (trans.Where dims places)) allowed can lines = (allowed, can)
    one (view p (trans.Range dims ind sizes edge)) allowed can lines = (allowed, (can.0.dims_are, can.0.made))

-- ---- the whole

err_ok : {e : Fault} {text : List ℕ} → Err e ≡ Ok text → ⊥
err_ok same = absurd (cc)

not_watched : (s : State) (text : List ℕ) → dumped s ≡ Ok text → list_any is_some s.watches ≡ false
not_watched s text is = by_test (list_any is_some s.watches) (λ watched. absurd (err_ok (rw watched at is))) (λ idle. idle)

none_flow : (s : State) (text : List ℕ) → dumped s ≡ Ok text → nat_lt 0 (length s.flows) ≡ false
none_flow s text is = by_test (nat_lt 0 (length s.flows)) (λ some. absurd (err_ok (rw (not_watched s text is, some) at is))) (λ none. none)

no_flows : (s : State) (text : List ℕ) → dumped s ≡ Ok text → s.flows ≡ []
no_flows s text is =
    let none : length s.flows ≤ 0 = ltb-false 0 (length s.flows) (none_flow s text is) in
    nil_from_length s.flows (omega arith)

few_wanted : (s : State) (text : List ℕ) → dumped s ≡ Ok text → names_wanted s ≤ 512
few_wanted s text is =
    by_test (nat_lt names_limit (names_wanted s))
    (λ many. absurd (err_ok (rw (not_watched s text is, none_flow s text is, many) at is)))
    (λ few. ltb-false names_limit (names_wanted s) few)

pub dumps_rebuild : WholeLaws → DumpsRebuild
dumps_rebuild laws s text can is =
    let ws : Watches = s.watches in
    let w : World = s.arrays.world in
    let names : Named ℕ = s.names.arrays in
    let kernels : Named KernelTexts = s.names.kernels in
    let stem : List ℕ = stem_of (map (λ n. n.0) names) in
    let idle : list_any is_some ws ≡ false = not_watched s text is in
    let none : s.flows ≡ [] = no_flows s text is in
    let few : length w + length names + 1 ≤ 512 = few_wanted s text is in
    let order : InOrder w = in_order laws.below w can.whole.sound can.numbered.world in
    let below : AreBelow (length w) (arrays_of names) = live_below laws.below w (length w) (arrays_of names) (attached ws) (order_below w order) can.whole.live in
    let kept : KeepsAll w (arrays_of names) =
    ap (sweep w) (sym (append-nil (arrays_of names)) ∙ ap (λ vs. arrays_of names ++ vs) (sym (idle_attached ws idle)))
    ∙ ap (λ (flows : Flows). sweep w (needs_of w flows (held s)).arrays) (sym none) ∙ can.swept.arrays in
    let resting : IsResting ws names w = record { idle = idle; order = order; below = below; kept = kept } in
    let lines_are : dump_lines s ≡ dump (map definition kernels) w names =
    ap₂ (λ u ns. dump (map definition kernels) u ns) can.numbered.world (names_same w names order below) in
    let are : AreLines (dump (map definition kernels) w names) = subst AreLines lines_are (laws.lines s text can is) in
    let kernel_part : List Line = map definition_line (map definition kernels) in
    let world_part : List Line = world_lines stem w in
    let name_part : List Line = map (name_line stem) names in
    let undef_part : List Line = undef_lines stem (length w) in
    let remakes : AllCanRemake w =
    all_can stem w can.whole.sound can.spelled.views (lines_front world_part (name_part ++ undef_part) (lines_back kernel_part (world_part ++ (name_part ++ undef_part)) are)) in
    let distinct_names : AreDistinct names = distinct (λ x v. IsName x) names can.spelled.names in
    let fresh : AreFresh (stems stem w) names = stems_fresh stem w names (all_apart laws.free (map (λ n. n.0) names)) in
    let nothing : State = state_of ws [] [] [] in
    let defined_all : State = state_of ws kernels [] [] in
    let made_all : State = state_of ws kernels (stems stem w) w in
    let bound_all : State = state_of ws kernels (stems stem w ++ names) w in
    let ended : State = state_of ws kernels names w in
    let empty : IsResting ws [] [] = record { idle = idle; order = tt; below = tt; kept = refl } in
    let stems_resting : IsResting ws (stems stem w) w = stems_rest laws.remake ws idle kernels stem w order in
    let first : AllLead nothing (map line_tree kernel_part) defined_all =
    kernels_rebuilt laws.kernels ws [] kernels empty (are_defined kernels can.spelled.kernels) (distinct IsDefined kernels can.spelled.kernels) (all_fresh kernels) (omega (arith, can.spelled.few)) in
    let second : AllLead defined_all (map line_tree world_part) made_all = world_rebuilt laws.remake ws idle kernels stem w order remakes (omega arith) in
    let third : AllLead made_all (map line_tree name_part) bound_all =
    subst (λ ns. AllLead (state_of ws kernels ns w) (map line_tree name_part) bound_all) (append-nil (stems stem w))
    (names_rebuilt laws.names laws.more ws kernels stem w [] names (subst (λ ns. IsResting ws ns w) (sym (append-nil (stems stem w))) stems_resting) below distinct_names
    (subst (λ ns. AreFresh ns names) (sym (append-nil (stems stem w))) fresh) (omega arith) (omega arith)) in
    let fourth : AllLead bound_all (map line_tree undef_part) ended = stems_undone laws.ends laws.more ws kernels stem w w names order (omega arith) resting in
    let all : AllLead nothing (map line_tree (kernel_part ++ (world_part ++ (name_part ++ undef_part)))) ended =
    joined nothing defined_all ended kernel_part (world_part ++ (name_part ++ undef_part)) first
    (joined defined_all made_all ended world_part (name_part ++ undef_part) second (joined made_all bound_all ended name_part undef_part third fourth)) in
    subst (λ (flows : Flows). AllLead (emptied s) (map line_tree (dump_lines s)) (record s { flows = flows })) (sym none)
    (subst (λ n. AllLead (emptied s) (map line_tree (dump_lines s)) (record s { arrays = record { world = w; next = n }; flows = [] })) (sym can.numbered.next)
    (subst (λ ls. AllLead (emptied s) (map line_tree ls) ended) (sym lines_are) all))
  where
    joined : (s t u : State) (xs ys : List Line) → AllLead s (map line_tree xs) t → AllLead t (map line_tree ys) u → AllLead s (map line_tree (xs ++ ys)) u
    joined s t u xs ys a b = subst (λ zs. AllLead s zs u) (sym (map-append line_tree xs ys)) (then_lead s t u (map line_tree xs) (map line_tree ys) a b)
