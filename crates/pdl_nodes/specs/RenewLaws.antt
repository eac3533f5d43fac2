-- What holds of every array that becomes a root.
use Rattle.std.specs.Prelude.{◌≡◌, ◌≢◌, ◌==◌, ℕ, ℤ, true, List, [], None}
use Rattle.pdl_shape.specs.Shape.{size_of}
use Rattle.pdl_world.specs.Cut.{rooted, reshape, sever, fitted}
use Rattle.pdl_world.specs.World.{elements}
use Rattle.pdl_nodes.specs.Alike.{IsAlike, is_fresh_in}
use Rattle.pdl_nodes.specs.Families.{Means}
use Rattle.pdl_nodes.specs.Known.{AreKnown}
use Rattle.pdl_nodes.specs.Outcomes.{waiting_of}
use Rattle.pdl_nodes.specs.Row.{root_row}
use Rattle.pdl_nodes.specs.Rows.{Rows, row_at, has}
use Rattle.pdl_nodes.specs.Sized.{AreSized}
use Rattle.pdl_nodes.specs.Worlds.{world_of}
use Rattle.pdl_nodes.specs.Renewed.{Layouts, renew, AreRelaid, CanRenew, CanCut, CanReshape}

-- the rows stay in order and mean the world in which v is this root
abbrev pub RenewingRoots : Type 0
RenewingRoots =
    (ls : Layouts) (rs : Rows) (v : ℕ) (ds : List ℕ) (es : List ℤ)
    → CanRenew ls rs v ds es
    → Means (renew ls rs v ds es) (rooted (world_of rs) v ds es)

-- with its first elements they mean the reshaped world
abbrev pub RenewingReshapes : Type 0
RenewingReshapes =
    (ls : Layouts) (rs : Rows) (v : ℕ) (ds : List ℕ) (es : List ℤ)
    → CanRenew ls rs v ds es → es ≡ fitted (size_of ds) (elements (world_of rs) v)
    → Means (renew ls rs v ds es) (reshape (world_of rs) v ds)

-- of the arrays whose root is v exactly those are fresh whose base is v
abbrev pub RenewedAreOutdated : Type 0
RenewedAreOutdated =
    (ls : Layouts) (rs : Rows) (v : ℕ) (ds : List ℕ) (es : List ℤ)
    → CanRenew ls rs v ds es
    → (u : ℕ) → has rs u ≡ true → (row_at (renew ls rs v ds es) u).root ≡ v
    → is_fresh_in (renew ls rs v ds es) u ≡ ((row_at (renew ls rs v ds es) u).base == v)

-- a row whose root isn't v then stays, with its mark and all that is kept
abbrev pub RenewingLeavesOthers : Type 0
RenewingLeavesOthers =
    (ls : Layouts) (rs : Rows) (v : ℕ) (ds : List ℕ) (es : List ℤ)
    → CanRenew ls rs v ds es
    → (u : ℕ) → has rs u ≡ true → (row_at (renew ls rs v ds es) u).root ≢ v
    → row_at (renew ls rs v ds es) u ≡ row_at rs u

-- so do the rows of other families
abbrev pub RenewingLeavesFamilies : Type 0
RenewingLeavesFamilies =
    (ls : Layouts) (rs : Rows) (v : ℕ) (ds : List ℕ) (es : List ℤ)
    → CanRenew ls rs v ds es
    → (u : ℕ) → has rs u ≡ true → (row_at rs u).root ≢ (row_at rs v).root
    → row_at (renew ls rs v ds es) u ≡ row_at rs u

-- nothing waits in the families of those that were of the array's
abbrev pub RenewedAreSettled : Type 0
RenewedAreSettled =
    (ls : Layouts) (rs : Rows) (v : ℕ) (ds : List ℕ) (es : List ℤ)
    → CanRenew ls rs v ds es
    → (u : ℕ) → has rs u ≡ true → (row_at rs u).root ≡ (row_at rs v).root
    → waiting_of (renew ls rs v ds es) u ≡ None

-- what is known of places stays true
abbrev pub RenewedAreKnown : Type 0
RenewedAreKnown =
    (ls : Layouts) (rs : Rows) (v : ℕ) (ds : List ℕ) (es : List ℤ)
    → CanRenew ls rs v ds es → AreKnown rs → AreKnown (renew ls rs v ds es)

-- each row keeps what its array's types keep
abbrev pub RenewedAreSized : Type 0
RenewedAreSized =
    (ls : Layouts) (rs : Rows) (v : ℕ) (ds : List ℕ) (es : List ℤ)
    → CanRenew ls rs v ds es → AreSized (renew ls rs v ds es)

-- a view can be cut without a layout made anew, and the rows mean the world in which it is cut
abbrev pub RenewingSevers : Type 0
RenewingSevers =
    (rs : Rows) (v : ℕ) (ds : List ℕ) (es : List ℤ) → CanCut rs v ds es
    → es ≡ elements (world_of rs) v
    → CanRenew [] rs v ds es × Means (renew [] rs v ds es) (sever (world_of rs) v)

-- an array can get other dimensions with layouts that were made over these
abbrev pub RelaidCanRenew : Type 0
RelaidCanRenew =
    (ls : Layouts) (rs : Rows) (v : ℕ) (ds : List ℕ) (es : List ℤ)
    → CanReshape ls rs v ds es → CanRenew ls rs v ds es

-- where the same arrays mean the same world, layouts that were made anew stay so
abbrev pub RelaidStay : Type 0
RelaidStay =
    (ls : Layouts) (old new : Rows) (v : ℕ) (ds : List ℕ) → IsAlike old new
    → world_of new ≡ world_of old → AreRelaid ls old v ds → AreRelaid ls new v ds

-- the numbers stay
abbrev pub RenewingKeepsNumbers : Type 0
RenewingKeepsNumbers =
    (ls : Layouts) (rs : Rows) (v : ℕ) (ds : List ℕ) (es : List ℤ) (u : ℕ)
    → has (renew ls rs v ds es) u ≡ has rs u

-- the array is a root of these dimensions and elements
abbrev pub RenewingMakesRoots : Type 0
RenewingMakesRoots =
    (ls : Layouts) (rs : Rows) (v : ℕ) (ds : List ℕ) (es : List ℤ) → has rs v ≡ true
    → row_at (renew ls rs v ds es) v ≡ root_row v (row_at rs v).ty ds es
