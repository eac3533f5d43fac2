-- Scripts of flows, worked by hand.
use Rattle.std.specs.Prelude.{◌≡◌, pos, List, [], ◌∷◌, ◌++◌, true, false, Ok, Err, codes}
use Rattle.pdl_elem.specs.declared.BinaryOp.TheVariants.{Add, Mul}
use Rattle.pdl_lexemes.specs.declared.AssignOp.TheVariants.{Set}
use Rattle.pdl_syntax.specs.Tree.{number, named, binary, none, text}
use Rattle.pdl_syntax.specs.StatementTree.{StatementTree, bind, assign, sever, undef, dump, flow, watch}
use Rattle.pdl_machine.specs.declared.fault.Fault.TheVariants.{DumpFlow, FlowReads, FlowTarget, UnknownName}
use Rattle.pdl_machine.specs.Worked.{after_all, shown_after, sequence_to, sliced}
use Rattle.pdl_machine.specs.WorkedCuts.{live_after, long_array, whole_numbers, reshape_to}
use Rattle.pdl_machine.specs.WorkedWatches.{notice, told_by}

-- $x = sequence(3); flow $y = $x * 2 + 1;
abbrev pub one_flow : List StatementTree
one_flow =
    bind (codes "x") (sequence_to 3) false
    ∷ flow (codes "y") (binary Add (binary Mul (named (codes "x")) (number (pos 2)))
    (number (pos 1))) ∷ []

-- and then $x->slice("1") .= 5;
abbrev pub one_changed : List StatementTree
one_changed = one_flow
    ++ assign (codes "x") ((codes "slice", text none (codes "1")) ∷ []) Set (number (pos 5)) ∷ []

-- a change through a view is followed, and told; what a formula reads stays while its flow does
pub record AFlowFollows : Type 0 where
  pub shown : shown_after one_changed (codes "y")
      ≡ Ok (long_array (3 ∷ []) (whole_numbers (1 ∷ 11 ∷ 5 ∷ [])))
  pub told : told_by (true ∷ [])
      (one_flow ++ watch (codes "y") 0
      ∷ assign (codes "x") ((codes "slice", text none (codes "1")) ∷ []) Set (number (pos 5)) ∷ [])
      ≡ Ok ((notice 4 1 (pos 3) (pos 11) ∷ []) ∷ [])
  pub kept : live_after (one_flow ++ undef (codes "x") ∷ []) ≡ Ok 2
  pub given_up : live_after (one_flow ++ undef (codes "x") ∷ undef (codes "y") ∷ []) ≡ Ok 0

-- $x = sequence(2); flow $y = $x + 1; flow $z = $y * $y; $v = $z->slice("1"); $x .= 4;
abbrev pub two_flows : List StatementTree
two_flows =
    bind (codes "x") (sequence_to 2) false
    ∷ flow (codes "y") (binary Add (named (codes "x")) (number (pos 1)))
    ∷ flow (codes "z") (binary Mul (named (codes "y")) (named (codes "y")))
    ∷ bind (codes "v") (sliced (codes "z") (codes "1")) false
    ∷ assign (codes "x") [] Set (number (pos 4)) ∷ []

-- a flow of a flow follows it, and is seen through its views; a cut ends the first of them, also
-- one by a binding
pub record FlowsFollowFlows : Type 0 where
  pub view : shown_after two_flows (codes "v") ≡ Ok (long_array (1 ∷ []) (whole_numbers (25 ∷ [])))
  pub cut : shown_after
      (two_flows ++ sever (codes "y") ∷ assign (codes "x") [] Set (number (pos 0)) ∷ []) (codes "z")
      ≡ Ok (long_array (2 ∷ []) (whole_numbers (25 ∷ 25 ∷ [])))
  pub bound : shown_after
      (two_flows ++ bind (codes "u") (named (codes "y")) true
      ∷ assign (codes "x") [] Set (number (pos 0)) ∷ []) (codes "u")
      ≡ Ok (long_array (2 ∷ []) (whole_numbers (5 ∷ 5 ∷ [])))

-- the flow, and then $v = $y->slice("1"); undef $y;
abbrev pub view_alone : List StatementTree
view_alone =
    one_flow ++ bind (codes "v") (sliced (codes "y") (codes "1")) false ∷ undef (codes "y") ∷ []

-- a flow stays while a view of its root does, and so does what its formula reads; it ends where the
-- view is cut
pub record AViewKeepsItsFlow : Type 0 where
  pub shown : shown_after
      (view_alone ++ assign (codes "x") [] Set (number (pos 5)) ∷ []) (codes "v")
      ≡ Ok (long_array (1 ∷ []) (whole_numbers (11 ∷ [])))
  pub live : live_after (view_alone ++ undef (codes "x") ∷ []) ≡ Ok 3
  pub ended : live_after (view_alone ++ undef (codes "x") ∷ sever (codes "v") ∷ []) ≡ Ok 1

-- each refusal: to write to a flow or through a view of it, other dimensions for it, for what it
-- reads and for what that is a view of, and a dump
pub record FlowsAreRefused : Type 0 where
  pub target : after_all (one_flow ++ assign (codes "y") [] Set (number (pos 0)) ∷ [])
      ≡ Err FlowTarget
  pub through : after_all
      (one_flow ++ assign (codes "y") ((codes "slice", text none (codes "1")) ∷ []) Set
      (named (codes "q")) ∷ []) ≡ Err FlowTarget
  pub dimensions : after_all (one_flow ++ reshape_to (codes "y") (pos 2 ∷ []) ∷ [])
      ≡ Err FlowTarget
  pub read : after_all (one_flow ++ reshape_to (codes "x") (pos 2 ∷ []) ∷ []) ≡ Err FlowReads
  pub below : after_all
      (bind (codes "x") (sequence_to 3) false
      ∷ bind (codes "v") (sliced (codes "x") (codes "0:1")) false
      ∷ flow (codes "y") (named (codes "v")) ∷ reshape_to (codes "x") (pos 4 ∷ []) ∷ [])
      ≡ Err FlowReads
  pub dumped : after_all (flow (codes "y") (number (pos 1)) ∷ dump ∷ []) ≡ Err DumpFlow
  pub name : after_all (flow (codes "y") (named (codes "q")) ∷ []) ≡ Err UnknownName
