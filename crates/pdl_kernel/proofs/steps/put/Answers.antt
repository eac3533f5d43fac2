use Rattle.std.proofs.Common.{◌≡◌, sym, ap, subst, ◌∙◌, w64, get_or, pos, Ok, ℤ, true}
use Rattle.std.specs.Prelude.{slice_set}
use Rattle.std.proofs.lemmas.Int.{to_z-of_z}
use Rattle.pdl_kernel.specs.Answers.{Becomes}
use Rattle.pdl_kernel.specs.Meaning.{and_then, argument, assigned, changed, indices, or_range, start, with_argument}
use Rattle.pdl_kernel.specs.Places.{found, Kind, Window, blank, is_written, kind_of, put_in, rest_of}
use Rattle.pdl_kernel.specs.Scenes.{store_of}
use Rattle.pdl_code.specs.TreeOf.{indices_of}
use Rattle.pdl_kernel.proofs.SceneLemmas.{each_is, kind_is, past_range, put_fault, put_over, put_rests, whole_is}
use Rattle.pdl_kernel.proofs.steps.put.Goals as goal

pub place-requires-clause-each : goal.place-requires-clause-each
place-requires-clause-each c = each_is c.args.scene.now c.args.number c.argument_at.result.now (indices_of c.args.entries.now) c.argument_at.ensures c.requires.over.0 c.requires.over.1.0

pub returns-in-Ok : goal.returns-in-Ok
returns-in-Ok c =
    let s = c.args.scene.now in
    let w = c.argument_at.result.now in
    let k = c.args.number in
    let p = c.in-Ok.found in
    let written : is_written w.role ≡ true = sym (ap (λ (r : Kind). is_written r.role) (kind_is s k (kind_of (rest_of blank)) c.requires.over.0 ∙ ap (λ v. kind_of (rest_of v)) (sym c.argument_at.ensures))) ∙ c.requires.written (kind_of (rest_of blank)) in
    let Q : ℤ → Type 0 = λ x. Becomes c.assign_in.result c.assign_in.new.arguments.items (and_then (changed c.args.op (get_or (get_or s.arguments.items k blank).elems p (pos 0)) x) (λ y. Ok (slice_set s.arguments.items k (put_in (get_or s.arguments.items k blank) p y)))) in
    let P : Window → Type 0 = λ v. Becomes c.assign_in.result c.assign_in.new.arguments.items (and_then (changed c.args.op (get_or v.elems p (pos 0)) c.args.x) (λ y. Ok (slice_set s.arguments.items k (put_in v p y)))) in
    let whole = whole_is s k w c.argument_at.ensures c.requires.over.0 c.requires.whole in
    let at : and_then (indices c.args.resolved.now.sizes c.args.loops.now (store_of s) (indices_of c.args.entries.now) start) (λ js. or_range (found w.axes js w.start)) ≡ Ok p = sym c.place.ensures.value ∙ c.in-Ok.is in
    let put = subst P (sym c.argument_at.ensures) (subst Q (to_z-of_z w64 c.args.x c.ranges.x) c.assign_in.ensures) in
    record {
      store = put_over c.shape_laws.ensures.positions c.assign_in.result c.args.resolved.now.sizes c.args.loops.now s c.assign_in.new.arguments.items k p (indices_of c.args.entries.now) c.args.op c.args.x w c.argument_at.ensures c.requires.over.0 c.place.ensures.sound written whole at put;
      rests = put_rests c.shape_laws.ensures.positions c.assign_in.result c.args.resolved.now.sizes c.args.loops.now s c.assign_in.new.arguments.items k p (indices_of c.args.entries.now) c.args.op c.args.x w c.argument_at.ensures c.place.ensures.sound written at put;
    }

pub returns-in-Err-clause-store : goal.returns-in-Err-clause-store
returns-in-Err-clause-store c =
    let s = c.args.scene.now in
    let w = c.argument_at.result.now in
    put_fault w.axes w.start _ c.in-Err.fault (λ is. and_then (assigned (argument (store_of s) c.args.number) c.args.op c.args.x is) (with_argument (store_of s) c.args.number))
    (λ js f. past_range s c.args.number w c.args.op c.args.x js c.argument_at.ensures c.requires.over.0 f) (sym c.place.ensures.value ∙ c.in-Err.is)
