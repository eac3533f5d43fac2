-- Dumps that were worked out by hand.
use Rattle.std.specs.Prelude.{◌≡◌, pos, negsuc, [], ◌∷◌, ◌++◌, Some, None, codes}
use Rattle.pdl_elem.specs.declared.Ty.TheVariants.{Byte, Long, Longlong, Short}
use Rattle.pdl_slices.specs.declared.SliceArg.TheVariants.{Whole, One, Dropped, Dummy, Span}
use Rattle.pdl_affine.specs.declared.Affine.TheVariants as affine
use Rattle.pdl_choice.specs.declared.edges.Edge.{Edge}
use Rattle.pdl_choice.specs.declared.edges.Edge.TheVariants.{Nearest, Periodic, Refuse, Zero}
use Rattle.pdl_world.specs.declared.Trans.TheVariants as trans
use Rattle.pdl_world.specs.World.{World, ArrayDef, root, view}
use Rattle.pdl_image.specs.Lines.{script_of}
use Rattle.pdl_image.specs.Dump.{dump}

-- the arrays of `$x = sequence(3); $y = $x->slice("0:1")->index(pdl [1,0]);`
abbrev pub indexed : World
indexed =
    (2, view 1 (trans.Index (2 ∷ []) (pos 1 ∷ pos 0 ∷ [])))
    ∷ (1, view 0 (trans.Affine (affine.Slice (Span (Some (pos 0)) (Some (pos 1)) None ∷ []))))
    ∷ (0, root Long (3 ∷ []) (pos 0 ∷ pos 1 ∷ pos 2 ∷ [])) ∷ []

abbrev pub IndexedIsDumped : Type 0
IndexedIsDumped =
    script_of (dump [] indexed ((codes "$x", 0) ∷ (codes "$y", 2) ∷ []))
    ≡ codes "$d0 = zeroes(long,3);\n$d0->flat->slice(\"0:2\") .= pdl [0,1,2];\n$d1 = $d0->slice(\"0:1\");\n"
    ++ (codes "$di = zeroes(longlong,2);\n$di->flat->slice(\"0:1\") .= pdl [1,0];\n$d2 = $d1->index($di);\n"
    ++ codes "undef $di;\n$x = $d0;\n$y = $d2;\nundef $d0;\nundef $d1;\nundef $d2;\n")

-- a name that takes the first stem, the least number, zeros that are left out, and a kernel with a
-- quote in its code
abbrev pub least : World
least = (0, root Longlong (2 ∷ []) (negsuc 9223372036854775807 ∷ pos 0 ∷ [])) ∷ []

abbrev pub LeastIsDumped : Type 0
LeastIsDumped =
    script_of (dump
    (record { name = codes "f"; signature = codes "[o]b()"; code = codes "# \"" } ∷ [])
    least ((codes "$data", 0) ∷ []))
    ≡ codes "pp_def(\"f\",\"[o]b()\",'# \"');\n$_d0 = zeroes(longlong,2);\n"
    ++ codes "$_d0->flat->slice(\"0\") .= longlong(1) << 63;\n$data = $_d0;\nundef $_d0;\n"

-- an array of no dimensions; each argument of a slice; numbers below 0; a mask; and windows
abbrev pub viewed : World
viewed =
    (4, view 1 (trans.Range (1 ∷ 1 ∷ []) (negsuc 0 ∷ []) (pos 2 ∷ []) Zero))
    ∷ (3, view 2 (trans.Where (2 ∷ []) (1 ∷ [])))
    ∷ (2, view 1 (trans.Affine (affine.Xchg (negsuc 0) (pos 0))))
    ∷ (
      1,
      view 0 (trans.Affine (affine.Slice
          (Whole ∷ One (negsuc 1) ∷ Dropped (pos 3) ∷ Dummy 1 ∷ Span None None (Some (negsuc 0)) ∷ []))),
    )
    ∷ (0, root Byte [] (pos 7 ∷ [])) ∷ []

abbrev pub ViewedIsDumped : Type 0
ViewedIsDumped =
    script_of (dump [] viewed [])
    ≡ codes "$d0 = zeroes(byte);\n$d0->flat->slice(\"0:0\") .= pdl [7];\n$d1 = $d0->slice(\":,-2,(3),*1,::-1\");\n"
    ++ (codes "$d2 = $d1->xchg(-1,0);\n$di = zeroes(byte,2);\n$di->flat->slice(\"0:1\") .= pdl [0,1];\n$d3 = $d2->where($di);\nundef $di;\n"
    ++ (codes "$di = zeroes(longlong,1,1);\n$di->flat->slice(\"0:0\") .= pdl [-1];\n$d4 = $d1->range($di,pdl [2],1);\nundef $di;\n"
    ++ codes "undef $d0;\nundef $d1;\nundef $d2;\nundef $d3;\nundef $d4;\n"))

-- the other view words of numbers, over an array of zeros
abbrev pub arranged : World
arranged =
    (6, view 5 (trans.Affine affine.Squeeze))
    ∷ (5, view 4 (trans.Affine (affine.Dummy (pos 1) (pos 4))))
    ∷ (4, view 0 (trans.Affine (affine.Diagonal (pos 0 ∷ pos 1 ∷ []))))
    ∷ (3, view 2 (trans.Affine (affine.Clump (negsuc 1))))
    ∷ (2, view 1 (trans.Affine (affine.Reorder (pos 1 ∷ pos 0 ∷ []))))
    ∷ (1, view 0 (trans.Affine (affine.Mv (pos 0) (negsuc 0))))
    ∷ (0, root Short (2 ∷ 2 ∷ []) (pos 0 ∷ pos 0 ∷ pos 0 ∷ pos 0 ∷ [])) ∷ []

abbrev pub ArrangedIsDumped : Type 0
ArrangedIsDumped =
    script_of (dump [] arranged ((codes "$d5", 6) ∷ []))
    ≡ codes "$_d0 = zeroes(short,2,2);\n$_d1 = $_d0->mv(0,-1);\n$_d2 = $_d1->reorder(1,0);\n"
    ++ (codes "$_d3 = $_d2->clump(-2);\n$_d4 = $_d0->diagonal(0,1);\n$_d5 = $_d4->dummy(1,4);\n"
    ++ (codes "$_d6 = $_d5->squeeze();\n$d5 = $_d6;\nundef $_d0;\nundef $_d1;\nundef $_d2;\n"
    ++ codes "undef $_d3;\nundef $_d4;\nundef $_d5;\nundef $_d6;\n"))

-- a window at the first element, by each of the other edges
abbrev pub window_by : Edge → ArrayDef
window_by edge = view 0 (trans.Range (1 ∷ []) (pos 0 ∷ []) (pos 2 ∷ []) edge)

abbrev pub edged : World
edged =
    (3, window_by Periodic) ∷ (2, window_by Nearest) ∷ (1, window_by Refuse)
    ∷ (0, root Long (0 ∷ []) []) ∷ []

abbrev pub EdgedIsDumped : Type 0
EdgedIsDumped =
    script_of (dump [] edged [])
    ≡ codes "$d0 = zeroes(long,0);\n$di = zeroes(longlong,1);\n$d1 = $d0->range($di,pdl [2],0);\n"
    ++ (codes "undef $di;\n$di = zeroes(longlong,1);\n$d2 = $d0->range($di,pdl [2],2);\n"
    ++ (codes "undef $di;\n$di = zeroes(longlong,1);\n$d3 = $d0->range($di,pdl [2],3);\n"
    ++ codes "undef $di;\nundef $d0;\nundef $d1;\nundef $d2;\nundef $d3;\n"))
