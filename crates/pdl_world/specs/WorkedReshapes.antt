-- Reshapes that are worked by hand.
use Rattle.std.specs.Prelude.{◌≡◌, pos, negsuc, true, false, [], ◌∷◌, Some, None}
use Rattle.pdl_elem.specs.declared.Ty.TheVariants.{Long}
use Rattle.pdl_slices.specs.declared.SliceArg.TheVariants.{Span}
use Rattle.pdl_affine.specs.declared.Affine.TheVariants.{Slice}
use Rattle.pdl_world.specs.declared.Trans.{Trans}
use Rattle.pdl_world.specs.declared.Trans.TheVariants.{Affine, Where}
use Rattle.pdl_world.specs.Cut.{reshape, breaks}
use Rattle.pdl_world.specs.World.{World, root, view, dims_in, elements}

-- a slice -1:0
abbrev backwards : Trans
backwards = Affine (Slice (Span (Some (negsuc 0)) (Some (pos 0)) None ∷ []))

-- a slice 1:2
abbrev middle : Trans
middle = Affine (Slice (Span (Some (pos 1)) (Some (pos 2)) None ∷ []))

-- 1 is 0 read backwards, 2 is the first of it that 3 masks; 3 and 4 are the middle of 0 and of 1
abbrev four : World
four = (1, view 0 backwards) ∷ (0, root Long (4 ∷ []) (pos 1 ∷ pos 2 ∷ pos 3 ∷ pos 4 ∷ [])) ∷ []

abbrev five : World
five = (3, view 1 (Where (4 ∷ []) (0 ∷ 2 ∷ []))) ∷ (2, view 0 middle) ∷ four

pub record WorkedReshapes : Type 0 where
  pub runs_over : elements (reshape four 0 (3 ∷ [])) 1 ≡ pos 3 ∷ pos 2 ∷ pos 1 ∷ []
  pub runs_further : elements (reshape four 0 (5 ∷ [])) 1
      ≡ pos 0 ∷ pos 4 ∷ pos 3 ∷ pos 2 ∷ pos 1 ∷ []
  pub no_break : breaks four 0 (3 ∷ []) ≡ false
  pub mask_breaks : breaks five 0 (5 ∷ []) ≡ true
  pub slice_breaks : breaks five 2 (1 ∷ []) ≡ false
  pub view_cut : dims_in (reshape five 1 (2 ∷ 2 ∷ [])) 2 ≡ 2 ∷ []
  pub view_breaks : breaks five 1 (2 ∷ 2 ∷ []) ≡ true
  pub slice_short : breaks ((2, view 0 middle) ∷ four) 0 (2 ∷ []) ≡ true
