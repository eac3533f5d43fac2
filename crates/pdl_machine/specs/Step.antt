-- One step: what a statement does to a state, what it prints, and what watchers are told.
use Rattle.std.specs.Prelude.{ℕ, List, [], ◌∷◌, ◌++◌, length, fold, slice_set, Bool, true, false, if◌then◌else◌, Result, Ok, Err, codes}
use Rattle.std.specs.List.{flat_map}
use Rattle.pdl_buf.specs.declared.made.Made.{Made}
use Rattle.pdl_world.specs.World.{assign as assign_in}
use Rattle.pdl_world.specs.Paths.{root_of}
use Rattle.pdl_flow.specs.Formula.{FormulaTree}
use Rattle.pdl_print.specs.Printed.{array_text, info}
use Rattle.pdl_lexemes.specs.declared.AssignOp.{AssignOp}
use Rattle.pdl_syntax.specs.Tree.{Tree, Args, named, call, none, value, text, of_type}
use Rattle.pdl_syntax.specs.StatementTree.{StatementTree, View, bind, bind_list, assign, show, show_text, sever, reshape, undef, vars, dump, flow, pp_def, watch, unwatch}
use Rattle.pdl_watch.specs.declared.notice.Notice.{Notice}
use Rattle.pdl_machine.specs.declared.fault.Fault.{Fault}
use Rattle.pdl_machine.specs.declared.fault.Fault.TheVariants.{FlowTarget, Syntax}
use Rattle.pdl_machine.specs.Then.{and_then}
use Rattle.pdl_machine.specs.Names.{KernelTexts, bind as bind_name, unbind, bound_to, define}
use Rattle.pdl_machine.specs.Arrays.{Arrays, array_in}
use Rattle.pdl_machine.specs.Flows.{Flows, is_flow, without_flow}
use Rattle.pdl_machine.specs.Following.{followed}
use Rattle.pdl_machine.specs.Formulas.{formula_of}
use Rattle.pdl_machine.specs.State.{State, with_arrays, with_flow}
use Rattle.pdl_machine.specs.Watches.{attaching, detaching, notices}
use Rattle.pdl_machine.specs.Outcome.{Given, Valued, all_seen, new_root}
use Rattle.pdl_machine.specs.Operators.{values_for}
use Rattle.pdl_machine.specs.Kernels.{defined}
use Rattle.pdl_machine.specs.Cuts.{cut, dims_given, reshaped}
use Rattle.pdl_machine.specs.Calls.{Callee, callee_of, several, value_by}
use Rattle.pdl_machine.specs.Value.{value_of, value_in, taken}
use Rattle.pdl_machine.specs.Tidy.{tidy}
use Rattle.pdl_machine.specs.Dumps.{dumped}

-- a state and what was printed, or a fault
abbrev pub Stepped : Type 0
Stepped = Result (State × List ℕ) Fault

abbrev pub newline : List ℕ
newline = 10 ∷ []

abbrev pub bind_value : State → List ℕ → Arrays × ℕ → Stepped
bind_value s x v = and_then (bind_name s.names x v.1) (λ names.
    Ok (record s { names = names; arrays = v.0 }, []))

-- a value bound to a name
abbrev pub bound : State → List ℕ → Valued → Stepped
bound s x valued = and_then valued (bind_value s x)

-- the state without the flow of a root
abbrev pub ending : State → ℕ → State
ending s v = record s { flows = without_flow s.flows v }

-- a value bound to a name that is cut from its parent: the array itself, and no copy; where it is a
-- flow's root the flow ends
abbrev pub bind_severed : State → List ℕ → Arrays × ℕ → Stepped
bind_severed s x v = bind_value (ending s v.1) x (cut v.0 v.1, v.1)

-- the state with one flow more, whose root is the next of these arrays
abbrev pub begun : State → Arrays → FormulaTree → State
begun s a f = with_flow s a.next f

-- a new root of a value, which equals the formula of the expression, bound to a name
abbrev pub flowing : State → (name : List ℕ) → (formula : Tree) → Arrays × ℕ → Stepped
flowing s x e v = and_then (formula_of s.names e) (λ f.
    bound (begun s v.0 f) x (new_root v.0 (array_in v.0 v.1)))

-- new arrays bound to names in order
abbrev pub roots_bound : State → List (List ℕ) → List Made → Stepped
roots_bound s (x ∷ xs) (m ∷ ms) = and_then (bound s x (new_root s.arrays m)) (λ after.
    roots_bound after.0 xs ms)
roots_bound s _ _ = Ok (s, [])

-- the outputs of a call bound to as many names
abbrev pub outputs_bound : State → (names : List (List ℕ)) → Arrays × List Given → Callee → Stepped
outputs_bound s (x ∷ []) t c = bound s x (value_by t.0 t.1 c)
outputs_bound s xs t c =
    and_then (several (length xs) (all_seen t.0 t.1) c) (roots_bound (with_arrays s t.0) xs)

-- the outputs of the call of a name bound to names
abbrev pub list_bound : State → (names : List (List ℕ)) → (callee : List ℕ) → Arrays × List Given
    → Stepped
list_bound s xs f t = and_then (callee_of s.names f) (outputs_bound s xs t)

-- the outputs of a call bound to names in order; nothing else has outputs
abbrev pub several_bound : State → List (List ℕ) → Tree → Stepped
several_bound s xs (call f args) = and_then (taken s.names s.arrays args) (list_bound s xs f)
several_bound s xs _ = Err Syntax

-- arguments behind a first one
abbrev pub behind : Tree → Args → Args
behind e none = value none e
behind e (value front f) = value (behind e front) f
behind e (text front t) = text (behind e front) t
behind e (of_type front ty) = of_type (behind e front) ty

-- a target is read as its views, one after another, of the array of its name
abbrev pub target : List ℕ → List View → Tree
target x views = fold (λ e v. call v.0 (behind e v.1)) (named x) views

-- an array that may be assigned to: its root isn't a flow's
abbrev pub unless_flow : Flows → Arrays × ℕ → Valued
unless_flow flows v = if is_flow flows (root_of v.0.world v.1) then Err FlowTarget else Ok v

-- the array that an assignment writes to
abbrev pub target_in : State → (target : Tree) → Valued
target_in s to = and_then (value_in s to) (unless_flow s.flows)

-- the arrays after an assignment of u to v: all values are found before one is written
abbrev pub assigned : AssignOp → Arrays → (target source : ℕ) → Result Arrays Fault
assigned sign a v u =
    and_then (values_for sign (array_in a v) (array_in a u)) (λ values.
    Ok (record a { world = assign_in a.world v values }))

-- the state in which each flow's root has the elements of what its formula is, one after another
abbrev pub flowed : State → State
flowed s = with_arrays s (followed s.arrays s.flows)

-- an assignment: its target, its right side, then what is written, and then flows follow
abbrev pub assigning : State → (target : Tree) → AssignOp → (source : Tree) → Stepped
assigning s to sign e =
    and_then (target_in s to) (λ v.
    and_then (value_of s.names v.0 e) (λ u.
    and_then (assigned sign u.0 v.1 u.1) (λ a. Ok (flowed (with_arrays s a), []))))

-- the line that tells an array's type and dimensions
abbrev pub info_line : Made → List ℕ
info_line m = info m.ty m.dims ++ newline

-- what is printed of an array
abbrev pub printed : Bool → Made → List ℕ
printed true m = info_line m
printed false m = array_text m.dims m.elems

abbrev pub after_printing : State → Bool → Arrays × ℕ → State × List ℕ
after_printing s is_info v = (with_arrays s v.0, printed is_info (array_in v.0 v.1))

-- a name with the info line of its array
abbrev pub name_line : Arrays → List ℕ × ℕ → List ℕ
name_line a n = n.0 ++ codes " " ++ info_line (array_in a n.1)

-- a kernel defined by this name
abbrev pub kernel_named : State → List ℕ → KernelTexts → Stepped
kernel_named s f k = and_then (define s.names f k) (λ names. Ok (record s { names = names }, []))

-- an array cut from its parent; a flow ends so
abbrev pub severing : State → ℕ → Stepped
severing s v = Ok (with_arrays (ending s v) (cut s.arrays v), [])

-- an array with the dimensions that arguments give
abbrev pub reshaping : State → ℕ → Arrays × List Given → Stepped
reshaping s v t =
    and_then (dims_given t) (λ ds.
    and_then (reshaped s.watches s.flows t.0 v ds) (λ a. Ok (with_arrays s a, [])))

-- the watcher of a slot attached to an array, which is no change of it
abbrev pub watching : (present : List Bool) → State → (slot : ℕ) → (v : ℕ) → Stepped
watching present s slot v = and_then (attaching present s.watches slot v) (λ watches.
    Ok (record s { watches = watches }, []))

-- the watcher of a slot not attached any more
abbrev pub unwatching : State → (slot : ℕ) → Stepped
unwatching s slot = and_then (detaching s.watches slot) (λ watches.
    Ok (record s { watches = watches }, []))

-- what a statement does before the arrays that nothing reaches are let go; `present` says which
-- slots have a watcher
abbrev pub effect : (present : List Bool) → State → StatementTree → Stepped
effect present s (bind x e false) = bound s x (value_in s e)
effect present s (bind x e true) = and_then (value_in s e) (bind_severed s x)
effect present s (bind_list xs e) = several_bound s xs e
effect present s (assign x views sign e) = assigning s (target x views) sign e
effect present s (show e is_info) = and_then (value_in s e) (λ v. Ok (after_printing s is_info v))
effect present s (show_text t) = Ok (s, t ++ newline)
effect present s (sever x) = and_then (bound_to s.names x) (severing s)
effect present s (reshape x sizes) =
    and_then (bound_to s.names x) (λ v.
    and_then (taken s.names s.arrays sizes) (reshaping s v))
effect present s (undef x) =
    and_then (unbind s.names x) (λ names. Ok (record s { names = names }, []))
effect present s vars = Ok (s, flat_map (name_line s.arrays) s.names.arrays)
effect present s dump = and_then (dumped s) (λ text. Ok (s, text))
effect present s (flow x e) = and_then (value_in s e) (flowing s x e)
effect present s (pp_def f signature code) = and_then (defined f signature code) (kernel_named s f)
effect present s (watch x slot) = and_then (bound_to s.names x) (watching present s slot)
effect present s (unwatch slot) = unwatching s slot

-- which slots have a watcher after a statement: `unwatch` takes the one of its slot
abbrev pub left : (present : List Bool) → StatementTree → List Bool
left present (unwatch slot) = slice_set present slot false
left present _ = present

-- What a statement comes to: the state, what is printed, the notices of each slot, and which slots
-- have a watcher then.
pub record Done : Type 0 where
  pub state : State
  pub text : List ℕ
  pub told : List (List Notice)
  pub present : List Bool

-- what the effect of a statement comes to: notices are of the arrays before they are numbered
-- anew, and of the slots that are attached after it
abbrev pub done : (number : ℕ) → (present : List Bool) → State → StatementTree → State × List ℕ →
    Done
done number present s statement after = record {
  state = tidy after.0;
  text = after.1;
  told = notices number s.arrays.world after.0.arrays.world after.0.watches;
  present = left present statement;
}

-- one step by the statement of this number: what it comes to, or the fault that leaves the state
-- as it was
abbrev pub step : (number : ℕ) → (present : List Bool) → State → StatementTree → Result Done Fault
step number present s statement =
    and_then (effect present s statement) (λ after. Ok (done number present s statement after))
