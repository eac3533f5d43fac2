use Rattle.std.proofs.Common.{List, ℕ, Some, None, drop, refl, subst, sym}
use Rattle.pdl_lex.specs.Pieces.{State}
use Rattle.pdl_watch.specs.Slots.{slots_by}
use Rattle.pdl_shell.specs.declared.runner.Runner.{Runner}
use Rattle.pdl_shell.specs.declared.stop.Stop.TheVariants.{NoMemory}
use Rattle.pdl_shell.specs.Outside.{outlets}
use Rattle.pdl_shell.specs.Course.{Carries}
use Rattle.pdl_shell.proofs.PaceCarried.{Feeds, feeds, stops_result, stops_before, stops_in_piece, carries_quiet, carries_piece}
use Rattle.pdl_shell.proofs.runner.Runner.round.Goals as goal

pub returns-in_err-fed-clause-stops : goal.returns-in_err-fed-clause-stops
returns-in_err-fed-clause-stops g c =
    stops_result c.from_residual.result NoMemory c.from_residual.ensures.1 _ _ _ _ _
    (stops_before c.course_laws.ensures c.args.self.now c.args.bytes.now _ (record c.args.self.now { cutter = c.feed.new.self }) refl)

pub returns-in_err-run-in-Some-clause-stops : goal.returns-in_err-run-in-Some-clause-stops
returns-in_err-run-in-Some-clause-stops g c =
    let bytes : List ℕ = c.args.bytes.now in
    let rest : List ℕ = drop c.in_ok-fed.fed.used bytes in
    let mid : Runner = record c.args.self.now { cutter = c.feed.new.self } in
    let fed : Feeds c.args.self.now.cutter c.feed.new.self (Some c.in-Some.piece) bytes rest =
    feeds _ _ _ _ bytes c.in_ok-fed.fed.used c.in-Some.is c.in_ok-fed.ensures.stream c.in_ok-fed.ensures.settled c.in_ok-fed.ensures.lines in
    stops_result c.from_residual-in_err-run-in-Some.result c.in_err-run-in-Some.field-0.0 c.from_residual-in_err-run-in-Some.ensures.1 _ _ _ _ _
    (stops_in_piece c.course_laws.ensures c.args.self.now mid c.in-Some.piece bytes rest _ _ _ _ fed c.requires.running refl
    (rw c.in-Some.piece-is at c.in_err-run-in-Some.ensures.short))

pub returns-in-None-clause-carries : goal.returns-in-None-clause-carries
returns-in-None-clause-carries g c =
    let bytes : List ℕ = c.args.bytes.now in
    let rest : List ℕ = drop c.in_ok-fed.fed.used bytes in
    let fed : Feeds c.args.self.now.cutter c.feed.new.self None bytes rest =
    feeds _ _ _ _ bytes c.in_ok-fed.fed.used c.in-None.is c.in_ok-fed.ensures.stream c.in_ok-fed.ensures.settled c.in_ok-fed.ensures.lines in
    carries_quiet c.args.self.now (record c.args.self.now { cutter = c.feed.new.self }) bytes rest _ fed refl

pub returns-in_ok-run-in-Some-clause-carries : goal.returns-in_ok-run-in-Some-clause-carries
returns-in_ok-run-in-Some-clause-carries g c =
    let bytes : List ℕ = c.args.bytes.now in
    let rest : List ℕ = drop c.in_ok-fed.fed.used bytes in
    let mid : Runner = record c.args.self.now { cutter = c.feed.new.self } in
    let fed : Feeds c.args.self.now.cutter c.feed.new.self (Some c.in-Some.piece) bytes rest =
    feeds _ _ _ _ bytes c.in_ok-fed.fed.used c.in-Some.is c.in_ok-fed.ensures.stream c.in_ok-fed.ensures.settled c.in_ok-fed.ensures.lines in
    let same : Feeds c.args.self.now.cutter c.run.new.self.cutter (Some c.in-Some.piece) bytes rest =
    subst (λ (s : State). Feeds c.args.self.now.cutter s (Some c.in-Some.piece) bytes rest) (sym c.in_ok-run-in-Some.ensures.cutter) fed in
    let out = outlets g.K.Sink.taken g.K.Sink.is_flushed g.K.Sink.faults c.args.sink.now (slots_by g.W.Watcher.seen c.args.watchers.now.items) in
    let now = outlets g.K.Sink.taken g.K.Sink.is_flushed g.K.Sink.faults c.run.new.sink (slots_by g.W.Watcher.seen c.run.new.watchers.items) in
    let carried = carries_piece c.args.self.now mid c.run.new.self c.in-Some.piece bytes rest out now same c.requires.running refl
    (rw c.in-Some.piece-is at c.in_ok-run-in-Some.ensures.ran) in
    subst (λ (r : Runner). Carries bytes c.args.self.now out rest r now) (sym c.keep_room.ensures) carried
