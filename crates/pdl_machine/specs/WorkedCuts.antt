-- Scripts of cuts, other dimensions and names that are given up, worked by hand.
use Rattle.std.specs.Prelude.{◌≡◌, ℕ, ◌+◌, ℤ, pos, negsuc, List, [], ◌∷◌, ◌++◌, length, map, replicate, false, true, Option, Some, None, Result, Ok, Err, codes}
use Rattle.pdl_elem.specs.declared.Ty.TheVariants.{Long}
use Rattle.pdl_elem.specs.declared.UnaryOp.TheVariants.{Neg}
use Rattle.pdl_buf.specs.declared.made.Made.{Made}
use Rattle.pdl_lexemes.specs.declared.AssignOp.TheVariants.{Set}
use Rattle.pdl_syntax.specs.Tree.{Tree, Args, number, named, literal, unary, call, none, value, text}
use Rattle.pdl_syntax.specs.StatementTree.{StatementTree, bind, assign, sever, reshape, undef}
use Rattle.pdl_machine.specs.declared.fault.Fault.{Fault}
use Rattle.pdl_machine.specs.declared.fault.Fault.TheVariants.{UnknownName, WrongArguments, BadDimension, TooManyDims, TooLarge, ReshapeBreaks}
use Rattle.pdl_machine.specs.Then.{and_then}
use Rattle.pdl_machine.specs.Worked.{after_all, shown_after, sequence_to, sliced}

-- how many arrays there are after statements
abbrev pub live_after : List StatementTree → Result ℕ Fault
live_after xs = and_then (after_all xs) (λ s. Ok (length s.arrays.world))

-- a new array of type long
abbrev pub long_array : (dims : List ℕ) → (elems : List ℤ) → Option Made
long_array ds es = Some (record { ty = Long; dims = ds; elems = es })

abbrev pub whole_numbers : List ℕ → List ℤ
whole_numbers ns = map pos ns

-- a list of numbers
abbrev pub pdl : List ℤ → Tree
pdl ns = literal Long (length ns ∷ []) ns

-- expressions as arguments, in order
abbrev pub args_behind : Args → List Tree → Args
args_behind front [] = front
args_behind front (e ∷ es) = args_behind (value front e) es

abbrev pub called : List ℕ → List Tree → Tree
called f es = call f (args_behind none es)

-- a number as it is written
abbrev pub written : ℤ → Tree
written (pos n) = number (pos n)
written (negsuc n) = unary Neg (number (pos (n + 1)))

abbrev pub reshape_to : List ℕ → List ℤ → StatementTree
reshape_to x ns = reshape x (args_behind none (map written ns))

-- with dimensions 0 and 1 exchanged
abbrev pub exchanged : Tree → Tree
exchanged e = called (codes "xchg") (e ∷ number (pos 0) ∷ number (pos 1) ∷ [])

-- $x = sequence(6); $y = $x->slice("0:3"); $z = $y->slice("1:2"); $y->sever; $z .= 9;
abbrev pub cut_with_a_view : List StatementTree
cut_with_a_view =
    bind (codes "x") (sequence_to 6) false
    ∷ bind (codes "y") (sliced (codes "x") (codes "0:3")) false
    ∷ bind (codes "z") (sliced (codes "y") (codes "1:2")) false
    ∷ sever (codes "y")
    ∷ assign (codes "z") [] Set (number (pos 9)) ∷ []

-- $x is [0 1 2 3 4 5], and the view of what was cut stays with it: $y is [0 9 9 3]
pub record ACutTakesItsViews : Type 0 where
  pub parent : shown_after cut_with_a_view (codes "x")
      ≡ Ok (long_array (6 ∷ []) (whole_numbers (0 ∷ 1 ∷ 2 ∷ 3 ∷ 4 ∷ 5 ∷ [])))
  pub array : shown_after cut_with_a_view (codes "y")
      ≡ Ok (long_array (4 ∷ []) (whole_numbers (0 ∷ 9 ∷ 9 ∷ 3 ∷ [])))

-- $x = sequence(3); $v = $x->range(pdl [-1], pdl [2], 1); $b = $v->index(pdl [0,0]);
abbrev pub index_of_range : List StatementTree
index_of_range =
    bind (codes "x") (sequence_to 3) false
    ∷ bind (codes "v") (called (codes "range")
    (named (codes "x") ∷ pdl (negsuc 0 ∷ []) ∷ pdl (pos 2 ∷ []) ∷ number (pos 1) ∷ [])) false
    ∷ bind (codes "b") (called (codes "index")
    (named (codes "v") ∷ pdl (pos 0 ∷ pos 0 ∷ []) ∷ [])) false ∷ []

-- and then $v->sever; $b .= pdl [5,6];
abbrev pub places_come_by_cut : List StatementTree
places_come_by_cut =
    index_of_range ++ sever (codes "v")
    ∷ assign (codes "b") [] Set (pdl (pos 5 ∷ pos 6 ∷ [])) ∷ []

-- both places of $b are missing before the cut, and one place afterwards: $b is [0 0], and
-- then $v is [6 0] and $b [6 6]
pub record ACutGivesPlaces : Type 0 where
  pub before : shown_after index_of_range (codes "b")
      ≡ Ok (long_array (2 ∷ []) (whole_numbers (0 ∷ 0 ∷ [])))
  pub array : shown_after places_come_by_cut (codes "v")
      ≡ Ok (long_array (2 ∷ []) (whole_numbers (6 ∷ 0 ∷ [])))
  pub view : shown_after places_come_by_cut (codes "b")
      ≡ Ok (long_array (2 ∷ []) (whole_numbers (6 ∷ 6 ∷ [])))

-- $r = sequence(2,3); $y = $r->xchg(0,1); $c = $y->xchg(0,1)->clump(-1); $y->sever;
-- $c->slice("1") .= 9; and $y is [0 2 4], [9 3 5]: the clump joins before the cut alone
abbrev pub ACutPartsAClump : Type 0
ACutPartsAClump =
    shown_after (bind (codes "r") (called (codes "sequence")
    (number (pos 2) ∷ number (pos 3) ∷ [])) false
    ∷ bind (codes "y") (exchanged (named (codes "r"))) false
    ∷ bind (codes "c") (called (codes "clump")
    (exchanged (named (codes "y")) ∷ written (negsuc 0) ∷ [])) false
    ∷ sever (codes "y")
    ∷ assign (codes "c") ((codes "slice", text none (codes "1")) ∷ []) Set (number (pos 9)) ∷ [])
    (codes "y")
    ≡ Ok (long_array (3 ∷ 2 ∷ []) (whole_numbers (0 ∷ 2 ∷ 4 ∷ 9 ∷ 3 ∷ 5 ∷ [])))

-- $x = sequence(3); $y = $x->slice("0:1"); $z = $y->sever; $z .= 9;
abbrev pub cut_and_bound : List StatementTree
cut_and_bound =
    bind (codes "x") (sequence_to 3) false
    ∷ bind (codes "y") (sliced (codes "x") (codes "0:1")) false
    ∷ bind (codes "z") (named (codes "y")) true
    ∷ assign (codes "z") [] Set (number (pos 9)) ∷ []

-- the array itself is cut, and no copy: $x is [0 1 2], and $y is [9 9]
pub record ABindingCutsTheArray : Type 0 where
  pub parent : shown_after cut_and_bound (codes "x")
      ≡ Ok (long_array (3 ∷ []) (whole_numbers (0 ∷ 1 ∷ 2 ∷ [])))
  pub array : shown_after cut_and_bound (codes "y")
      ≡ Ok (long_array (2 ∷ []) (whole_numbers (9 ∷ 9 ∷ [])))
  pub live : live_after cut_and_bound ≡ Ok 2

-- $x = sequence(3); $y = $x->slice("0:1"); undef $x;
abbrev pub parent_given_up : List StatementTree
parent_given_up =
    bind (codes "x") (sequence_to 3) false
    ∷ bind (codes "y") (sliced (codes "x") (codes "0:1")) false
    ∷ undef (codes "x") ∷ []

-- the view keeps its parent, until it is cut or is given up too
pub record ANameIsGivenUp : Type 0 where
  pub view : shown_after parent_given_up (codes "y")
      ≡ Ok (long_array (2 ∷ []) (whole_numbers (0 ∷ 1 ∷ [])))
  pub name : shown_after parent_given_up (codes "x") ≡ Ok None
  pub parent_stays : live_after parent_given_up ≡ Ok 2
  pub both_go : live_after (parent_given_up ++ undef (codes "y") ∷ []) ≡ Ok 0
  pub parent_goes : live_after (parent_given_up ++ sever (codes "y") ∷ []) ≡ Ok 1
  pub bound_alone :
      live_after (parent_given_up ++ bind (codes "z") (named (codes "y")) true ∷ []) ≡ Ok 1
  pub unknown : live_after (parent_given_up ++ undef (codes "x") ∷ []) ≡ Err UnknownName

-- $x = sequence(4); and then these sizes
abbrev pub reshaped_to : List ℤ → List StatementTree
reshaped_to ns = bind (codes "x") (sequence_to 4) false ∷ reshape_to (codes "x") ns ∷ []

-- $x = sequence(4); $y = $x->slice(..); and then these sizes of $x
abbrev pub reshaped_below : List ℕ → List ℤ → List StatementTree
reshaped_below view ns =
    bind (codes "x") (sequence_to 4) false
    ∷ bind (codes "y") (sliced (codes "x") view) false
    ∷ reshape_to (codes "x") ns ∷ []

-- the first elements stay in order, and new ones are 0; a view is cut first, and each view of the
-- array is derived anew, so a slice -1:0 runs over the whole new dimension
pub record OtherDimensions : Type 0 where
  pub more : shown_after (reshaped_to (pos 2 ∷ pos 3 ∷ [])) (codes "x")
      ≡ Ok (long_array (2 ∷ 3 ∷ []) (whole_numbers (0 ∷ 1 ∷ 2 ∷ 3 ∷ 0 ∷ 0 ∷ [])))
  pub fewer : shown_after (reshaped_to (pos 3 ∷ [])) (codes "x")
      ≡ Ok (long_array (3 ∷ []) (whole_numbers (0 ∷ 1 ∷ 2 ∷ [])))
  pub cut : live_after (parent_given_up ++ reshape_to (codes "y") (pos 5 ∷ []) ∷ []) ≡ Ok 1
  pub runs_over : shown_after (reshaped_below (codes "-1:0") (pos 6 ∷ [])) (codes "y")
      ≡ Ok (long_array (6 ∷ []) (whole_numbers (0 ∷ 0 ∷ 3 ∷ 2 ∷ 1 ∷ 0 ∷ [])))
  pub deeper : shown_after (reshaped_below (codes "0") (pos 2 ∷ pos 2 ∷ [])) (codes "y")
      ≡ Ok (long_array (1 ∷ 2 ∷ []) (whole_numbers (0 ∷ 2 ∷ [])))

-- $x = sequence(4); $y = $x->slice("3");
abbrev pub with_a_view : List StatementTree
with_a_view =
    bind (codes "x") (sequence_to 4) false
    ∷ bind (codes "y") (sliced (codes "x") (codes "3")) false ∷ []

-- what is said of other dimensions for an array with a view
abbrev pub refused_with_a_view : StatementTree → Result ℕ Fault
refused_with_a_view statement = live_after (with_a_view ++ statement ∷ [])

-- the faults of other dimensions, in their order; a view that no name reaches is none
pub record OtherDimensionsAreRefused : Type 0 where
  pub name : refused_with_a_view (reshape (codes "z") (text none [])) ≡ Err UnknownName
  pub sizes_first : refused_with_a_view (reshape (codes "x")
      (value (text none []) (named (codes "z")))) ≡ Err UnknownName
  pub arguments : refused_with_a_view (reshape (codes "x")
      (value (text none []) (number (pos 1)))) ≡ Err WrongArguments
  pub below : refused_with_a_view (reshape_to (codes "x") (negsuc 0 ∷ replicate 16 (pos 1)))
      ≡ Err BadDimension
  pub many : refused_with_a_view (reshape_to (codes "x") (replicate 17 (pos 1024)))
      ≡ Err TooManyDims
  pub large : refused_with_a_view (reshape_to (codes "x") (pos 1048577 ∷ [])) ≡ Err TooLarge
  pub breaks : refused_with_a_view (reshape_to (codes "x") (pos 2 ∷ [])) ≡ Err ReshapeBreaks
  pub new_view : live_after (bind (codes "x") (sequence_to 4) false ∷ reshape (codes "x")
      (value none (called (codes "nelem") (sliced (codes "x") (codes "3") ∷ []))) ∷ [])
      ≡ Err ReshapeBreaks
  pub gone : live_after (with_a_view ++ bind (codes "y") (number (pos 1)) false
      ∷ reshape_to (codes "x") (pos 2 ∷ []) ∷ []) ≡ Ok 2
