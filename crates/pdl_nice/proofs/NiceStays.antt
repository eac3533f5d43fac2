-- Tokens without a nice part stay.
use Rattle.std.proofs.Common.{◌≡◌, Bool, true, false, ◌||◌, List, [], ◌∷◌, refl, sym}
use Rattle.pdl_lex.specs.Written.{Written}
use Rattle.pdl_nice.specs.Looks.{look, before_of, begins_nice}
use Rattle.pdl_nice.specs.declared.looks.Before.{Before}
use Rattle.pdl_nice.specs.Nice.{Becomes, done, stays, has_nice}
use Rattle.pdl_nice.proofs.Options.{false_true}

neither : (a b : Bool) → a || b ≡ false → (a ≡ false) × (b ≡ false)
neither true b e = absurd (false_true (sym e))
neither false b e = (refl, e)

pub nothing_changes : (b : Before) (ws : List Written) → has_nice b ws ≡ false → Becomes b ws ws
unfolding has_nice
nothing_changes b [] e = done
nothing_changes b (w ∷ ws) e =
    let n = neither (begins_nice b (look w)) (has_nice (before_of (look w)) ws) e in
    stays n.0 (nothing_changes (before_of (look w)) ws n.1)
