use Rattle.std.proofs.Common.{List, sym, subst}
use Rattle.std.specs.Prelude.{All}
use Rattle.pdl_code.specs.TreeOf.{code_of}
use Rattle.pdl_kernel.specs.Over.{IsCodeOver}
use Rattle.pdl_kernel.specs.Places.{IsWhole, Kind, Rest}
use Rattle.pdl_kernel.specs.Scenes.{rests_of}
use Rattle.pdl_kernel.proofs.PlacesPut.{kinds_at}
use Rattle.pdl_kernel.proofs.walk.at_place.Goals as goal

pub run-requires-clause-over : goal.run-requires-clause-over
run-requires-clause-over c =
    subst (λ (ks : List Kind). IsCodeOver ks (code_of c.args.code.now)) (sym (kinds_at c.args.coordinates.now c.args.scene.now (rests_of c.start_at.new.scene) c.start_at.ensures.rests)) c.requires.over

pub run-requires-clause-whole : goal.run-requires-clause-whole
run-requires-clause-whole c = subst (λ (rs : List Rest). All IsWhole rs) (sym c.start_at.ensures.rests) c.requires.whole
