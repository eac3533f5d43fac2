use Rattle.std.proofs.Common.{ℤ, List, map, ap, ◌∙◌}
use Rattle.std.proofs.lemmas.Simd.{map-map}
use Rattle.pdl_buf.specs.declared.made.Made.{Made}
use Rattle.pdl_kernel.specs.Meaning.{Store}
use Rattle.pdl_kernel.specs.Places.{array_seen, begun_at, rest_of}
use Rattle.pdl_kernel.proofs.walk.start_at.Goals as goal

pub returns-clause-store : goal.returns-clause-store
returns-clause-store c =
    let S : List Made → List ℤ → Store = λ xs ls. record { arguments = xs; locals = ls } in
    let bs = c.args.coordinates.now in
    ap (λ ws. S (map array_seen ws) c.clear.new.locals.items) c.begin_all.ensures
    ∙ ap (λ xs. S xs c.clear.new.locals.items) (map-map array_seen (begun_at bs) c.args.scene.now.arguments.items)
    ∙ ap (S (map (λ w. array_seen (begun_at bs w)) c.args.scene.now.arguments.items)) c.clear.ensures

pub returns-clause-rests : goal.returns-clause-rests
returns-clause-rests c = ap (map rest_of) c.begin_all.ensures ∙ map-map rest_of (begun_at c.args.coordinates.now) c.args.scene.now.arguments.items
