-- What the places before this one left; each window has its form.
use Rattle.std.proofs.Common.{◌≡◌, ◌≤◌, [], length}
use Rattle.pdl_shape.specs.Shape.{size_of}
use Rattle.pdl_code.specs.TreeOf.{code_of}
use Rattle.pdl_kernel.specs.Scenes.{kinds_of, left_in_order}
use Rattle.pdl_kernel.proofs.CallStores.{IsBehind}
use Rattle.pdl_kernel.proofs.walk.collect.Given as goal

abbrev pub invariant-loop-place : goal.invariant-loop-place
invariant-loop-place l = record {
  walk : l.walk ≡ record { dims = l.resolved.broadcast; triples = []; index = l.place };
  kinds : kinds_of l.scene ≡ kinds_of l.fn.scene;
  locals : length l.scene.locals.items ≡ length l.fn.scene.locals.items;
  bound : l.place ≤ size_of l.resolved.broadcast;
  behind : IsBehind (left_in_order l.resolved (code_of l.code) l.fn.scene) l.place l.fn.scene.arguments.items l.scene.arguments.items;
}
