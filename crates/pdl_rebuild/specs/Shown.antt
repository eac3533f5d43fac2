-- What the lines of views in a dump do to a state.
use Rattle.std.specs.Prelude.{◌≡◌, ℕ, ◌<◌, suc, ℤ, List, ◌∷◌, ◌++◌, length, Some, None, codes}
use Rattle.pdl_elem.specs.declared.Ty.TheVariants.{Byte, Longlong}
use Rattle.pdl_shape.specs.Shape.{size_of}
use Rattle.pdl_affine.specs.declared.Affine.{Affine}
use Rattle.pdl_choice.specs.declared.edges.Edge.{Edge}
use Rattle.pdl_world.specs.declared.Trans.{Trans}
use Rattle.pdl_world.specs.declared.Trans.TheVariants as trans
use Rattle.pdl_world.specs.Sound.{IsShowable}
use Rattle.pdl_world.specs.World.{World, ArrayDef, root, view}
use Rattle.pdl_image.specs.Lines.{Call, sliced, numbered, chosen, ranged, view_line}
use Rattle.pdl_image.specs.Dump.{affine_call, edge_number, mask_of}
use Rattle.pdl_reread.specs.Trees.{line_tree, AllFit}
use Rattle.pdl_machine.specs.Dumpable.{AreRead}
use Rattle.pdl_machine.specs.Names.{KernelTexts, Named, found, names_limit}
use Rattle.pdl_machine.specs.Watches.{Watches}
use Rattle.pdl_rebuild.specs.Rebuilt.{state_of, one_name, IsResting}
use Rattle.pdl_rebuild.specs.Steps.{Leads}

-- what a call is written with is read again: a slice's arguments, or numbers that a list can hold
abbrev pub IsReadAgain : Call → Type 0
IsReadAgain (sliced args) = AreRead args
IsReadAgain (numbered word ns) = AllFit ns
IsReadAgain (chosen word index) = Unit {0}
IsReadAgain (ranged index sizes edge) = Unit {0}

-- the line of an affine view makes it, where the older arrays can show it
abbrev pub AffineViewsAreMade : Type 0
AffineViewsAreMade =
    (ws : Watches) (kernels : Named KernelTexts) (names : Named ℕ) (w : World)
    (x y : List ℕ) (p : ℕ) (t : Affine) →
    IsResting ws names w → found names x ≡ None → length names < names_limit →
    found names y ≡ Some p → IsShowable w p (trans.Affine t) → IsReadAgain (affine_call t) →
    Leads (state_of ws kernels names w) (line_tree (view_line x y (affine_call t)))
    (state_of ws kernels (names ++ one_name x (length w)) ((length w, view p (trans.Affine t)) ∷ w))

-- the call of a view that is chosen by an array of this name, and the array's definition
pub data IsChosenBy (index : List ℕ) : Trans → Call → ArrayDef → Type 0 where
  by_index : (dims : List ℕ) (ind : List ℤ) → length ind ≡ size_of dims →
      IsChosenBy index (trans.Index dims ind) (chosen (codes "index") index)
      (root Longlong dims ind)
  by_mask : (dims places : List ℕ) →
      IsChosenBy index (trans.Where dims places) (chosen (codes "where") index)
      (root Byte dims (mask_of (size_of dims) places))
  by_corners : (dims : List ℕ) (ind sizes : List ℤ) (edge : Edge) → length ind ≡ size_of dims →
      IsChosenBy index (trans.Range dims ind sizes edge) (ranged index sizes (edge_number edge))
      (root Longlong dims ind)

-- the line of a view that an array chooses makes it, where that array is the newest one
abbrev pub ChosenViewsAreMade : Type 0
ChosenViewsAreMade =
    (ws : Watches) (kernels : Named KernelTexts) (names : Named ℕ) (w : World)
    (x y index : List ℕ) (p : ℕ) (t : Trans) (call : Call) (d : ArrayDef) →
    IsResting ws names ((length w, d) ∷ w) → found names x ≡ None → length names < names_limit →
    found names y ≡ Some p → found names index ≡ Some (length w) →
    IsShowable w p t → IsChosenBy index t call d →
    Leads (state_of ws kernels names ((length w, d) ∷ w)) (line_tree (view_line x y call))
    (state_of ws kernels (names ++ one_name x (suc (length w)))
    ((suc (length w), view p t) ∷ ((length w, d) ∷ w)))
