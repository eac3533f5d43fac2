use Rattle.std.proofs.Common.{arith}
use Rattle.pdl_broadcast.proofs.WalkLemmas.{argument_bound, argument_is, argument_known, argument_reaches}
use Rattle.pdl_broadcast.proofs.walk.BroadcastWalk.offset.Goals as goal

pub index-requires : goal.index-requires
index-requires c = let known = argument_known c.self.inside _ c.args.argument c.self.invariant c.self.view_is c.requires.known in omega (arith, known, c.self.inside.cursors.ok)

pub returns-clause-place : goal.returns-clause-place
returns-clause-place c = argument_is c.shape_laws.ensures.positions c.shape_laws.ensures.cuts c.self.inside _ c.args.argument c.index.result.now c.self.invariant c.self.view_is c.requires.known c.requires.inside c.index.ensures

pub returns-clause-reachable : goal.returns-clause-reachable
returns-clause-reachable c = argument_reaches c.shape_laws.ensures.positions c.shape_laws.ensures.cuts c.self.inside _ c.args.argument c.index.result.now c.self.invariant c.self.view_is c.requires.known c.requires.inside c.index.ensures

pub returns-clause-bound : goal.returns-clause-bound
returns-clause-bound c = argument_bound c.shape_laws.ensures.positions c.shape_laws.ensures.cuts c.self.inside _ c.args.argument c.index.result.now c.self.invariant c.self.view_is c.requires.known c.requires.inside c.index.ensures
