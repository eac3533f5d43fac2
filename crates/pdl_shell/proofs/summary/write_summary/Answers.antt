use Rattle.std.proofs.Common.{List, ℕ, subst, ◌∙◌}
use Rattle.std.specs.Io.KnownBytes.{Appends}
use Rattle.pdl_lemmas.specs.Results.{on_err}
use Rattle.pdl_lemmas.specs.KnownBytes.{appends_kept}
use Rattle.pdl_shell.specs.Summary.{summary}
use Rattle.pdl_shell.proofs.AnswersTaken.{on_ok, is_prefix-refl}
use Rattle.pdl_shell.proofs.summary.write_summary.Goals as goal

pub returns-clause-whole : goal.returns-clause-whole
returns-clause-whole g c =
    let wrote : Appends (g.K.Sink.taken c.args.sink.now) (g.K.Sink.taken c.write_text.new.sink) (summary c.args.keep_going c.args.rounds) =
    subst (λ (text : List ℕ). Appends (g.K.Sink.taken c.args.sink.now) (g.K.Sink.taken c.write_text.new.sink) text) (c.as_bytes.ensures.value ∙ c.in_ok-line.ensures) c.in_ok-write_text.ensures.whole in
    on_ok c.flush.result (appends_kept _ _ _ (summary c.args.keep_going c.args.rounds) wrote c.flush.ensures.same)

pub returns-clause-prefix : goal.returns-clause-prefix
returns-clause-prefix g c =
    let wrote : Appends (g.K.Sink.taken c.args.sink.now) (g.K.Sink.taken c.write_text.new.sink) (summary c.args.keep_going c.args.rounds) =
    subst (λ (text : List ℕ). Appends (g.K.Sink.taken c.args.sink.now) (g.K.Sink.taken c.write_text.new.sink) text) (c.as_bytes.ensures.value ∙ c.in_ok-line.ensures) c.in_ok-write_text.ensures.whole in
    on_err c.flush.result (summary c.args.keep_going c.args.rounds, is_prefix-refl (summary c.args.keep_going c.args.rounds), appends_kept _ _ _ (summary c.args.keep_going c.args.rounds) wrote c.flush.ensures.same)
