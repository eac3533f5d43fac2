use Rattle.std.proofs.Common.{◌≡◌, ℕ, [], ◌++◌, take, drop, false, refl, sym, subst, ◌∙◌, arith}
use Rattle.std.proofs.lemmas.Bool.{le-ltb}
use Rattle.std.proofs.lemmas.List.{length-take}
use Rattle.std.specs.Io.KnownBytes.{Consumes}
use Rattle.pdl_io.specs.Counts.{Rose}
use Rattle.pdl_lemmas.specs.Results.{on_err}
use Rattle.pdl_shell.proofs.CourseParts.{took, none_failed, reads_failed, short_failed, at_most_failed, comes_kept, at_most, at_most_short, comes_on, short_parts, fails_parts_short, reads_short, reads_result, reason_of_stop, causes_stopped}
use Rattle.pdl_shell.proofs.reading.read_parts.Goals as goal

pub returns-in-Err-clause-stops : goal.returns-in-Err-clause-stops
returns-in-Err-clause-stops g c = short_failed c.course_laws.ensures _ _ _ _ _ _ _ c.requires.fresh c.reading.invariant.comes c.reading.runner.refused (λ n le. refl)

pub returns-in-Err-clause-reads : goal.returns-in-Err-clause-reads
returns-in-Err-clause-reads g c =
    let running : c.reading.runner.ended ≡ false = sym c.is_ended.ensures ∙ c.reading-test.true in
    reads_failed c.course_laws.ensures _ _ _ _ _ _ _ c.requires.fresh c.reading.invariant.comes
    c.reading.runner.refused (λ n le. refl) refl c.if-taken-le-SCRIPT_LIMIT.true running _ _ _ c.in-Err.ensures.bytes

pub returns-in-Err-clause-at_most : goal.returns-in-Err-clause-at_most
returns-in-Err-clause-at_most g c =
    at_most_failed _ _ _ _ _ _ _ c.reading.invariant.comes _ c.in-Err.ensures.bytes

pub returns-in-Err-clause-causes : goal.returns-in-Err-clause-causes
returns-in-Err-clause-causes g c = (
  subst (λ (n : ℕ). Rose n (g.S.Source.faults c.read.new.self)) c.reading.invariant.sources c.in-Err.ensures.cause.rose,
  none_failed c.course_laws.ensures _ _ _ _ _ _ _ c.requires.fresh c.reading.invariant.comes c.reading.runner.refused (λ n le. refl),
)

pub returns-then-count-eq0-clause-comes : goal.returns-then-count-eq0-clause-comes
returns-then-count-eq0-clause-comes g c =
    let before = g.S.Source.left c.reading.source in
    let now = g.S.Source.left c.read.new.self in
    let none : Consumes before now [] =
    subst (λ (n : ℕ). Consumes before now (take n c.read.new.into)) c.if-count-eq0.true c.in-Ok.ensures.bytes.0 in (
      c.reading.taken,
      comes_kept _ _ _ _ _ _ _ c.reading.invariant.comes now none,
      sym (le-ltb 16777216 c.reading.taken c.if-taken-le-SCRIPT_LIMIT.true),
    )

pub returns-then-count-eq0-clause-at_most : goal.returns-then-count-eq0-clause-at_most
returns-then-count-eq0-clause-at_most g c =
    let before = g.S.Source.left c.reading.source in
    let now = g.S.Source.left c.read.new.self in
    let none : Consumes before now [] =
    subst (λ (n : ℕ). Consumes before now (take n c.read.new.into)) c.if-count-eq0.true c.in-Ok.ensures.bytes.0 in
    at_most _ _ _ _ _ _ _
    (comes_kept _ _ _ _ _ _ _ c.reading.invariant.comes now none)

pub returns-then-count-eq0-clause-causes : goal.returns-then-count-eq0-clause-causes
returns-then-count-eq0-clause-causes g c = (
  c.in-Ok.ensures.cause.kept ∙ c.reading.invariant.sources,
  none_failed c.course_laws.ensures _ _ _ _ _ _ _ c.requires.fresh c.reading.invariant.comes c.reading.runner.refused (λ n le. refl),
)

pub returns-in_err-take-clause-stops : goal.returns-in_err-take-clause-stops
returns-in_err-take-clause-stops g c script is =
    let step = took c.reading.taken c.in-Ok.count c.min-within.result c.min-most.result c.read.new.into c.reading.part c.reading.runner
    (g.S.Source.left c.reading.source) (g.S.Source.left c.read.new.self) c.if-taken-le-SCRIPT_LIMIT.true (sym c.is_ended.ensures ∙ c.reading-test.true)
    c.in-Ok.ensures.bound.0 c.in-Ok.ensures.bound.1 c.min-most.ensures c.read.auto.into c.min-within.ensures c.in-Ok.ensures.bytes.0 in
    on_err c.from_residual.result (
    short_parts c.course_laws.ensures _ _ _ _ _ _ _ c.requires.fresh c.reading.invariant.comes c.take.new.self.refused
    c.in_err-take.ensures.stops.later.stays c.so_far_laws.ensures.grows c.run_laws.ensures.ended
    _ _ _ c.in-Ok.count step c.in_err-take.field-0.0 c.take.new.self _ (λ n le. refl) c.in_err-take.ensures.stops script is)

pub returns-in_err-take-clause-reads : goal.returns-in_err-take-clause-reads
returns-in_err-take-clause-reads g c =
    let step = took c.reading.taken c.in-Ok.count c.min-within.result c.min-most.result c.read.new.into c.reading.part c.reading.runner
    (g.S.Source.left c.reading.source) (g.S.Source.left c.read.new.self) c.if-taken-le-SCRIPT_LIMIT.true (sym c.is_ended.ensures ∙ c.reading-test.true)
    c.in-Ok.ensures.bound.0 c.in-Ok.ensures.bound.1 c.min-most.ensures c.read.auto.into c.min-within.ensures c.in-Ok.ensures.bytes.0 in
    reads_result c.from_residual.result c.in_err-take.field-0.0 c.from_residual.ensures.1 _ _ _ _ (
    reads_short c.course_laws.ensures _ _ _ _ _ _ _ c.requires.fresh c.reading.invariant.comes c.take.new.self.refused
    c.in_err-take.ensures.stops.later.stays c.so_far_laws.ensures.grows c.run_laws.ensures.ended _ _ _ c.in-Ok.count step c.in_err-take.field-0.0 c.take.new.self _ _ _
    (λ n le. refl) refl c.in_err-take.ensures.stops)

pub returns-in_err-take-clause-causes : goal.returns-in_err-take-clause-causes
returns-in_err-take-clause-causes g c =
    let step = took c.reading.taken c.in-Ok.count c.min-within.result c.min-most.result c.read.new.into c.reading.part c.reading.runner
    (g.S.Source.left c.reading.source) (g.S.Source.left c.read.new.self) c.if-taken-le-SCRIPT_LIMIT.true (sym c.is_ended.ensures ∙ c.reading-test.true)
    c.in-Ok.ensures.bound.0 c.in-Ok.ensures.bound.1 c.min-most.ensures c.read.auto.into c.min-within.ensures c.in-Ok.ensures.bytes.0 in
    causes_stopped c.from_residual.result c.in_err-take.field-0.0 c.from_residual.ensures.1 _ _
    (reason_of_stop c.in_err-take.field-0.0 _ _ _ _ _ _ (c.in-Ok.ensures.cause.kept ∙ c.reading.invariant.sources)
    (fails_parts_short c.course_laws.ensures _ _ _ _ _ _ _ c.requires.fresh c.reading.invariant.comes c.take.new.self.refused
    c.in_err-take.ensures.stops.later.stays c.so_far_laws.ensures.grows c.run_laws.ensures.ended
    _ _ _ c.in-Ok.count step c.in_err-take.field-0.0 c.take.new.self _ (λ n le. refl) c.in_err-take.ensures.stops))

pub returns-in_err-take-clause-at_most : goal.returns-in_err-take-clause-at_most
returns-in_err-take-clause-at_most g c =
    let step = took c.reading.taken c.in-Ok.count c.min-within.result c.min-most.result c.read.new.into c.reading.part c.reading.runner
    (g.S.Source.left c.reading.source) (g.S.Source.left c.read.new.self) c.if-taken-le-SCRIPT_LIMIT.true (sym c.is_ended.ensures ∙ c.reading-test.true)
    c.in-Ok.ensures.bound.0 c.in-Ok.ensures.bound.1 c.min-most.ensures c.read.auto.into c.min-within.ensures c.in-Ok.ensures.bytes.0 in
    at_most_short _ _ _ _ _ _ _ c.reading.invariant.comes _ _ _ c.in-Ok.count step

pub returns-clause-at_most : goal.returns-clause-at_most
returns-clause-at_most g c = at_most _ _ _ _ _ _ _ c.reading.invariant.comes

pub returns-clause-causes : goal.returns-clause-causes
returns-clause-causes g c = (
  c.reading.invariant.sources,
  none_failed c.course_laws.ensures _ _ _ _ _ _ _ c.requires.fresh c.reading.invariant.comes c.reading.runner.refused (λ n le. refl),
)

pub reading-preserved : goal.reading-preserved
reading-preserved g c =
    let step = took c.reading.taken c.in-Ok.count c.min-within.result c.min-most.result c.read.new.into c.reading.part c.reading.runner
    (g.S.Source.left c.reading.source) (g.S.Source.left c.read.new.self) c.if-taken-le-SCRIPT_LIMIT.true (sym c.is_ended.ensures ∙ c.reading-test.true)
    c.in-Ok.ensures.bound.0 c.in-Ok.ensures.bound.1 c.min-most.ensures c.read.auto.into c.min-within.ensures c.in-Ok.ensures.bytes.0 in
    let handed = length-take c.min-within.result (c.read.new.into ++ drop c.min-most.result c.reading.part) in
    record {
      comes =
          comes_on c.course_laws.ensures _ _ _ _ _ _ _ c.requires.fresh c.reading.invariant.comes
          c.so_far_laws.ensures.grows c.run_laws.ensures.ended _ _ _ c.in-Ok.count step c.take.new.self _
          c.in_ok-take.ensures.carries c.in_ok-take.ensures.none_left;
      works = c.in_ok-take.ensures.works;
      counted = c.in_ok-take.ensures.counted;
      fed = omega (arith, c.in_ok-take.ensures.count, c.reading.invariant.fed, c.min-within.ensures, handed);
      served = c.in_ok-take.ensures.served;
      tells = λ told. c.in_ok-take.ensures.tells (c.reading.invariant.tells told);
      sources = c.in-Ok.ensures.cause.kept ∙ c.reading.invariant.sources;
    }
