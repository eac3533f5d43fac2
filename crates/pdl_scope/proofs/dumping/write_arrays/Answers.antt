use Rattle.std.proofs.Common.{◌+◌, refl, sym, ◌∙◌, arith}
use Rattle.pdl_scope.proofs.CostLemmas.{never_dearer}
use Rattle.pdl_scope.proofs.DumpingArrays.{all_written, next_refused, next_written, none_yet}
use Rattle.pdl_scope.proofs.DumpingCosts.{dumped_first, dumped_more}
use Rattle.pdl_scope.proofs.DumpingNumbers.{Laws, laws_of}
use Rattle.pdl_scope.proofs.dumping.write_arrays.Goals as goal

pub loop-at-init : goal.loop-at-init
loop-at-init g c = record {
  same = record { world = refl; holds = refl; next = refl };
  stay = λ v is. is;
  lines = none_yet c.args.image.now c.args.engine.now.world c.requires.room;
  costs = λ v live. omega arith;
  counted = omega arith;
}

pub returns-in_err-write_array-clause-lines : goal.returns-in_err-write_array-clause-lines
returns-in_err-write_array-clause-lines g c =
    next_refused c.lines_law.ensures c.write_arrays_laws.ensures.below c.args.engine.now.world c.loop-at.engine.world c.args.ids.now c.loop-at.at
    c.args.image.now c.loop-at.image c.write_array.new.image c.in_err-write_array.field-0.0 c.from_residual.result
    c.requires.sound c.requires.ids c.loop-at.invariant.same.world c.loop-at-test.true c.loop-at.invariant.lines c.in_err-write_array.ensures.lines c.from_residual.ensures.1

pub loop-at-preserved : goal.loop-at-preserved
loop-at-preserved g c =
    let e = c.args.engine.now in
    let t = c.loop-at.engine in
    let grown = c.write_arrays_laws.ensures in
    let laws : Laws = laws_of grown.below grown.older grown.older_elements grown.live grown.root_seen in
    record {
      same = record {
        world = c.write_array.ensures.same.world ∙ c.loop-at.invariant.same.world;
        holds = c.write_array.ensures.same.holds ∙ c.loop-at.invariant.same.holds;
        next = c.write_array.ensures.same.next ∙ c.loop-at.invariant.same.next;
      };
      stay = λ v is. c.write_array.ensures.stay v (c.loop-at.invariant.stay v is);
      lines = next_written c.lines_law.ensures c.write_arrays_laws.ensures.below c.args.engine.now.world c.loop-at.engine.world c.args.ids.now c.loop-at.at
          c.args.image.now c.loop-at.image c.write_array.new.image c.in_ok-write_array.field-0
          c.requires.sound c.requires.ids c.loop-at.invariant.same.world c.loop-at-test.true c.loop-at.invariant.lines c.in_ok-write_array.ensures.lines;
      costs = never_dearer e t c.write_array.new.engine c.loop-at.invariant.same c.loop-at.invariant.costs c.write_array.ensures.costs;
      counted = dumped_more laws e t c.args.ids.now c.loop-at.at c.args.steps.now c.loop-at.steps c.write_array.new.steps c.requires.sound c.requires.ids c.loop-at.invariant.same.world c.loop-at-test.true c.loop-at.invariant.costs c.loop-at.invariant.counted c.write_array.ensures.counted;
    }

pub returns-clause-lines : goal.returns-clause-lines
returns-clause-lines g c =
    all_written c.args.engine.now.world c.args.ids.now c.loop-at.at c.args.image.now c.loop-at.image tt
    c.requires.ids c.loop-at-test.false c.loop-at.auto.at-end c.loop-at.invariant.lines

pub returns-in_err-write_array-clause-counted : goal.returns-in_err-write_array-clause-counted
returns-in_err-write_array-clause-counted g c =
    let e = c.args.engine.now in
    let i = c.loop-at.at in
    let grown = c.write_arrays_laws.ensures in
    let laws : Laws = laws_of grown.below grown.older grown.older_elements grown.live grown.root_seen in
    dumped_first e e.world (i + 1) c.args.steps.now c.write_array.new.steps
    (dumped_more laws e c.loop-at.engine c.args.ids.now i c.args.steps.now c.loop-at.steps c.write_array.new.steps c.requires.sound c.requires.ids c.loop-at.invariant.same.world c.loop-at-test.true c.loop-at.invariant.costs c.loop-at.invariant.counted c.write_array.ensures.counted)

pub returns-clause-counted : goal.returns-clause-counted
returns-clause-counted g c = dumped_first c.args.engine.now c.args.engine.now.world c.loop-at.at c.args.steps.now c.loop-at.steps c.loop-at.invariant.counted
