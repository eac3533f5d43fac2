-- What follows at once of how scopes change: nothing changes by itself, and one change may follow
-- another.
use Rattle.std.proofs.Common.{◌≡◌, [], ◌∷◌, ◌++◌, append_assoc, refl, sym, ap, subst, ◌∙◌}
use Rattle.pdl_world.specs.Sound.{IsLive}
use Rattle.pdl_world.specs.World.{World, root, view}
use Rattle.pdl_engine.specs.State.{State as Engine, StayFresh}
use Rattle.pdl_machine.specs.Arrays.{Arrays}
use Rattle.pdl_machine.specs.Flows.{Flows}
use Rattle.pdl_machine.specs.Laws.{AreGrown}
use Rattle.pdl_machine.specs.Names.{Names}
use Rattle.pdl_machine.specs.State.{State}
use Rattle.pdl_machine.specs.Watches.{Watches}
use Rattle.pdl_scope.specs.Scope.{Scope, engine_of, machine, AreRootsFresh, Grows, OnlyReads}

-- nothing was read
pub reads_refl : (s : Scope) → OnlyReads s s
reads_refl s = record {
  names = refl;
  arrays = refl;
  watches = refl;
  flows = refl;
  stay = λ v is. is;
}

-- arrays were read, and then others
pub reads_trans : (a b c : Scope) → OnlyReads a b → OnlyReads b c → OnlyReads a c
reads_trans a b c g h = record {
  names = h.names ∙ g.names;
  arrays = h.arrays ∙ g.arrays;
  watches = h.watches ∙ g.watches;
  flows = h.flows ∙ g.flows;
  stay = λ v is. h.stay v (g.stay v is);
}

-- a state by its parts
abbrev state_of : Names → Arrays → Watches → Flows → State
state_of names arrays watches flows =
    record { names = names; arrays = arrays; watches = watches; flows = flows }

-- the machine sees nothing of it
pub unread : (a b : Scope) → OnlyReads a b → machine b ≡ machine a
unread a b g =
    ap (λ (n : Names). state_of n b.arrays b.watches b.flows) g.names
    ∙ ap (λ (r : Arrays). state_of a.names r b.watches b.flows) g.arrays
    ∙ ap (λ (ws : Watches). state_of a.names a.arrays ws b.flows) g.watches
    ∙ ap (λ (fs : Flows). state_of a.names a.arrays a.watches fs) g.flows

-- and nothing came
pub reads_grow : (a b : Scope) → OnlyReads a b → Grows a b
reads_grow a b g = record {
  names = g.names;
  arrays = record { more = []; is = ap (λ (r : Arrays). r.world) g.arrays; roots = tt };
  watches = g.watches;
  flows = g.flows;
  still = λ v live. (let P : Arrays → Type 0 = λ r. IsLive r.world v in subst P (sym g.arrays) live);
  stay = g.stay;
}

-- nothing came
pub grows_refl : (s : Scope) → Grows s s
grows_refl s = record {
  names = refl;
  arrays = record { more = []; is = refl; roots = tt };
  watches = refl;
  flows = refl;
  still = λ v live. live;
  stay = λ v is. is;
}

-- roots that can be lent still can be
pub roots_stay : (e f : Engine) → StayFresh e f → (w : World) → AreRootsFresh e w → AreRootsFresh f w
roots_stay e f stay [] fresh = tt
roots_stay e f stay ((k, root ty ds es) ∷ w) fresh =
    (stay k fresh.0, roots_stay e f stay w fresh.1)
roots_stay e f stay ((k, view p t) ∷ w) fresh = roots_stay e f stay w fresh

-- the roots of both can be lent where those of each can
pub roots_both : (e : Engine) (w u : World) → AreRootsFresh e w → AreRootsFresh e u
    → AreRootsFresh e (w ++ u)
roots_both e [] u first second = second
roots_both e ((k, root ty ds es) ∷ w) u first second =
    (first.0, roots_both e w u first.1 second)
roots_both e ((k, view p t) ∷ w) u first second = roots_both e w u first second

-- arrays came, and then others
pub grows_trans : (a b c : Scope) → Grows a b → Grows b c → Grows a c
grows_trans a b c g h = record {
  names = h.names ∙ g.names;
  arrays = record {
    more = h.arrays.more ++ g.arrays.more;
    is = h.arrays.is ∙ ap (λ w. h.arrays.more ++ w) g.arrays.is
        ∙ sym (append_assoc h.arrays.more g.arrays.more a.arrays.world);
    roots = roots_both (engine_of c) h.arrays.more g.arrays.more h.arrays.roots
        (roots_stay (engine_of b) (engine_of c) h.stay g.arrays.more g.arrays.roots);
  };
  watches = h.watches ∙ g.watches;
  flows = h.flows ∙ g.flows;
  still = λ v live. h.still v (g.still v live);
  stay = λ v is. h.stay v (g.stay v is);
}

-- what the machine sees of it
pub as_grown : (a b : Scope) → Grows a b → AreGrown a.arrays b.arrays
as_grown a b g = record { more = g.arrays.more; is = g.arrays.is }
