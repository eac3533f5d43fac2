-- What each form of line in a dump does to a state.
use Rattle.std.specs.Prelude.{◌≡◌, ℕ, ◌+◌, ◌<◌, ℤ, pos, negsuc, List, ◌∷◌, ◌++◌, length, replicate, All, Some, None}
use Rattle.pdl_elem.specs.declared.Ty.{Ty}
use Rattle.pdl_elem.specs.declared.Ty.TheVariants.{Longlong}
use Rattle.pdl_elem.specs.Types.{InRange}
use Rattle.pdl_shape.specs.Shape.{IsDims, size_of}
use Rattle.pdl_world.specs.World.{World, root}
use Rattle.pdl_image.specs.Lines.{root_line, piece_line, least_line}
use Rattle.pdl_reread.specs.Trees.{line_tree}
use Rattle.pdl_machine.specs.Names.{KernelTexts, Named, found, names_limit}
use Rattle.pdl_machine.specs.Watches.{Watches}
use Rattle.pdl_rebuild.specs.Rebuilt.{state_of, one_name, IsResting}
use Rattle.pdl_rebuild.specs.Steps.{Leads}

-- a world with a root as its newest array
abbrev pub with_root : World → Ty → (dims : List ℕ) → (elems : List ℤ) → World
with_root w ty ds es = (length w, root ty ds es) ∷ w

-- a root's line makes a root of zeros, which gets the next number, for a new name
abbrev pub RootsAreMade : Type 0
RootsAreMade =
    (ws : Watches) (kernels : Named KernelTexts) (names : Named ℕ) (w : World)
    (x : List ℕ) (ty : Ty) (ds : List ℕ) →
    IsResting ws names w → found names x ≡ None → length names < names_limit → IsDims ds →
    Leads (state_of ws kernels names w) (line_tree (root_line x ty ds))
    (state_of ws kernels (names ++ one_name x (length w))
    (with_root w ty ds (replicate (size_of ds) (pos 0))))

-- a piece's line gives its numbers to the elements from the first position to the last, where they
-- are numbers of the newest array's type
abbrev pub PiecesAreGiven : Type 0
PiecesAreGiven =
    (ws : Watches) (kernels : Named KernelTexts) (names : Named ℕ) (w : World) (x : List ℕ)
    (ty : Ty) (ds : List ℕ) (front old back : List ℤ) (n : ℤ) (ns : List ℤ) →
    IsResting ws names (with_root w ty ds (front ++ (old ++ back))) →
    found names x ≡ Some (length w) →
    IsDims ds → length (front ++ (old ++ back)) ≡ size_of ds →
    length old ≡ length (n ∷ ns) → All (InRange ty) (n ∷ ns) →
    Leads (state_of ws kernels names (with_root w ty ds (front ++ (old ++ back))))
    (line_tree (piece_line x (length front) (length front + length ns) n ns))
    (state_of ws kernels names (with_root w ty ds (front ++ ((n ∷ ns) ++ back))))

-- the line of the least longlong gives it to the element at its position
abbrev pub LeastAreGiven : Type 0
LeastAreGiven =
    (ws : Watches) (kernels : Named KernelTexts) (names : Named ℕ) (w : World) (x : List ℕ)
    (ds : List ℕ) (front : List ℤ) (old : ℤ) (back : List ℤ) →
    IsResting ws names (with_root w Longlong ds (front ++ (old ∷ back))) →
    found names x ≡ Some (length w) →
    IsDims ds → length (front ++ (old ∷ back)) ≡ size_of ds →
    Leads (state_of ws kernels names (with_root w Longlong ds (front ++ (old ∷ back))))
    (line_tree (least_line x (length front)))
    (state_of ws kernels names
    (with_root w Longlong ds (front ++ (negsuc 9223372036854775807 ∷ back))))
