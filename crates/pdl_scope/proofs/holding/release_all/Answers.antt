use Rattle.pdl_scope.proofs.LetGoBounds as bounds
use Rattle.pdl_scope.proofs.LetGoReleases.{let_go_more}
use Rattle.pdl_scope.proofs.HoldingLemmas.{lets_go_refl, lets_go_more, all_let_go, next_counted}
use Rattle.pdl_scope.proofs.holding.release_all.Goals as goal

pub loop-id-init : goal.loop-id-init
loop-id-init g c = record {
  lets_go = λ staying held. lets_go_refl staying c.args.engine.now c.args.leaving.now held;
  goes_on = λ first start sound h. h;
}

pub release-requires : goal.release-requires
release-requires g c =
    next_counted c.args.engine.now c.loop-id.engine c.args.leaving.now c.loop-id.id-index c.requires.staying c.loop-id-test.true (c.loop-id.invariant.lets_go c.requires.staying c.requires.held)

pub loop-id-preserved : goal.loop-id-preserved
loop-id-preserved g c =
    let e = c.args.engine.now in
    let t = c.loop-id.engine in
    let n = c.release.new.self in
    let sound = (c.loop-id.invariant.lets_go c.requires.staying c.requires.held).is_held.sound in
    let laws : bounds.Laws = record { kept = c.releasing_laws.ensures.kept; reached = c.releasing_laws.ensures.seen; unwritten = c.releasing_laws.ensures.unwritten } in
    record {
      lets_go = λ staying held.
          lets_go_more (record {
            more = c.releasing_laws.ensures.more;
            reached = c.releasing_laws.ensures.seen;
            numbered = c.releasing_laws.ensures.numbers;
            again = c.releasing_laws.ensures.again;
            less = c.releasing_laws.ensures.less;
            staying = c.releasing_laws.ensures.staying;
            held = c.releasing_laws.ensures.held;
            counted = c.releasing_laws.ensures.counted;
            others = c.releasing_laws.ensures.others;
          }) staying e t n c.args.leaving.now c.loop-id.id-index c.loop-id-test.true c.holds_law.ensures.each c.holds_law.ensures.once
          (c.loop-id.invariant.lets_go staying held) c.release.ensures.released c.release.ensures.sound;
      goes_on = λ first start first_sound h.
          let_go_more laws first t n _ start c.loop-id.steps c.release.new.steps first_sound sound c.release.ensures.sound c.lazy_law.ensures c.release.ensures.released c.release.ensures.counted
          (c.loop-id.invariant.goes_on first start first_sound h);
    }

pub returns-clause-lets_go : goal.returns-clause-lets_go
returns-clause-lets_go g c = λ staying held. all_let_go staying c.args.engine.now c.loop-id.engine c.args.leaving.now c.loop-id.id-index c.loop-id-test.false (c.loop-id.invariant.lets_go staying held)

pub returns-clause-goes_on : goal.returns-clause-goes_on
returns-clause-goes_on g c = c.loop-id.invariant.goes_on
