-- What the lines of names and kernels in a dump do to a state.
use Rattle.std.specs.Prelude.{◌≡◌, ℕ, suc, ◌<◌, List, ◌∷◌, ◌++◌, length, Some, None, Ok}
use Rattle.pdl_world.specs.World.{World, ArrayDef}
use Rattle.pdl_image.specs.Lines.{kernel_line, same_line, undef_line}
use Rattle.pdl_reread.specs.Trees.{line_tree}
use Rattle.pdl_machine.specs.Kernels.{defined}
use Rattle.pdl_machine.specs.Names.{KernelTexts, Named, found, names_limit, kernels_limit}
use Rattle.pdl_machine.specs.Watches.{Watches}
use Rattle.pdl_rebuild.specs.Rebuilt.{state_of, one_name, ParentBelow, IsResting}
use Rattle.pdl_rebuild.specs.Steps.{Leads}

-- a name's line binds a new name to the array of another one
abbrev pub NamesAreBound : Type 0
NamesAreBound =
    (ws : Watches) (kernels : Named KernelTexts) (names : Named ℕ) (w : World)
    (x other : List ℕ) (v : ℕ) →
    IsResting ws names w → found names x ≡ None → length names < names_limit →
    found names other ≡ Some v →
    Leads (state_of ws kernels names w) (line_tree (same_line x other))
    (state_of ws kernels (names ++ one_name x v) w)

-- the end of a name leaves the others, and the arrays, where these keep all of them
abbrev pub NamesEnd : Type 0
NamesEnd =
    (ws : Watches) (kernels : Named KernelTexts) (names : Named ℕ) (w : World)
    (x : List ℕ) (v : ℕ) →
    IsResting ws names w →
    Leads (state_of ws kernels (one_name x v ++ names) w) (line_tree (undef_line x))
    (state_of ws kernels names w)

-- the end of the name of an array behind which one array stands: this one gets its number
abbrev pub LastButOneGoes : Type 0
LastButOneGoes =
    (ws : Watches) (kernels : Named KernelTexts) (names : Named ℕ) (w : World)
    (x y : List ℕ) (d e : ArrayDef) →
    IsResting ws names w → found names x ≡ None → ParentBelow (length w) e →
    Leads
    (state_of ws kernels (names ++ (one_name x (length w) ++ one_name y (suc (length w))))
    ((suc (length w), e) ∷ ((length w, d) ∷ w)))
    (line_tree (undef_line x))
    (state_of ws kernels (names ++ one_name y (length w)) ((length w, e) ∷ w))

-- a kernel's line defines it by its two texts, where these are a kernel's
abbrev pub KernelsAreDefined : Type 0
KernelsAreDefined =
    (ws : Watches) (kernels : Named KernelTexts) (names : Named ℕ) (w : World)
    (f : List ℕ) (texts : KernelTexts) →
    IsResting ws names w → found kernels f ≡ None → length kernels < kernels_limit →
    defined f texts.signature texts.code ≡ Ok texts →
    Leads (state_of ws kernels names w)
    (line_tree (kernel_line f texts.signature texts.code))
    (state_of ws (kernels ++ one_name f texts) names w)
