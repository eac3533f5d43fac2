use Rattle.std.proofs.Common.{◌≡◌, ◌∙◌, ◌-◌, ◌+◌, suc, length, sym, ap, arith, add-one}
use Rattle.pdl_syntax.specs.Tree.{none, value}
use Rattle.pdl_syntax.specs.TreeOf.{tree_of, args_of}
use Rattle.pdl_syntax.specs.ExpressionReading.{reader, level_at, limit_of, grown_at, unary_at, arg_at, chain_at, methods_at, more_at, maybe_at}
use Rattle.pdl_syntax.proofs.ExpressionReadingTurns.{begun, chain_fail, chain_last, chain_stop, chain_turn, methods_fail, methods_last, methods_stop, methods_turn, more_fail, more_last, more_stop, more_turn}
use Rattle.pdl_syntax.proofs.ExpressionReadingGrowing.{level_read, level_unread}
use Rattle.pdl_syntax.proofs.ExpressionReadingClimbing.{climb_at, joined_at, grown_is, climb_turn, climb_fail, climb_ends}
use Rattle.pdl_syntax.proofs.StatementReadingTurns.{pass_on}
use Rattle.std.proofs.lemmas.Result.{err_from_is_err_and}
use Rattle.pdl_lemmas.specs.Numbers.{one_less}
use Rattle.pdl_syntax.proofs.reader.Reader.+parser.Goals as goal

pub chain-returns-in-None : goal.chain-returns-in-None
chain-returns-in-None t c =
    record {
      read =
          sym c.loop.invariant.same ∙ chain_stop _ c.args.below _ _ _ (sym c.in-None.ensures.read);
    }

pub chain-loop-preserved : goal.chain-loop-preserved
chain-loop-preserved t c =
    let inner = level_at c.args.self.now.source.now (reader c.args.self.now.source.now c.args.self.now.fuel) c.args.below in
    let k = c.limit-end.result - (c.loop.counter + 1) in
    record {
      same =
          ap (λ x. chain_at inner (suc c.args.below) k x c.in_ok-right-in-Some.after) c.in_ok-left-in-Some.ensures.ok
          ∙ (sym (chain_turn inner c.args.below k _ _ _ _ _ _ (sym c.in-Some.ensures.read) c.in_ok-right-in-Some.ensures.read)
          ∙ (ap (λ n. chain_at inner (suc c.args.below) n (tree_of c.loop.left) c.loop.rest)
          (sym (one_less c.limit-end.result c.loop.counter c.loop-test.true)) ∙ c.loop.invariant.same));
    }

pub level_expr-returns : goal.level_expr-returns
level_expr-returns t c =
    let f = reader c.args.self.now.source.now c.args.self.now.fuel in
    let same = level_read c.args.self.now.source.now f c.args.level c.args.tokens.now c.in_ok-first.rest (tree_of c.in_ok-first.first) c.in_ok-first.ensures.read in
    record { read = rw same c.grown.ensures.read }

pub level_expr-returns-in_err-first : goal.level_expr-returns-in_err-first
level_expr-returns-in_err-first t c =
    let source = c.args.self.now.source.now in
    let f = reader source c.args.self.now.fuel in
    let p = err_from_is_err_and c.from_residual.result c.from_residual.ensures.1 in
    record {
      read =
          rw (p.1, p.2)
          (pass_on c.in_err-first.field-0.0 (unary_at source f c.args.tokens.now) (level_at source f c.args.level c.args.tokens.now)
          c.in_err-first.ensures.read (level_unread source f c.args.level c.args.tokens.now));
    }

pub grown-loop-next-init : goal.grown-loop-next-init
grown-loop-next-init t c =
    let source = c.args.self.now.source.now in
    let f = reader source c.args.self.now.fuel in
    let first = tree_of c.args.first in
    let all : c.args.level - 0 ≡ c.args.level = omega arith in
    record {
      same =
          ap (λ n. climb_at source f n 0 first c.copy-rest.result) all
          ∙ (ap (climb_at source f c.args.level 0 first) c.copy-rest.ensures ∙ sym (grown_is source f c.args.level first c.args.tokens.now));
    }

pub grown-loop-next-preserved : goal.grown-loop-next-preserved
grown-loop-next-preserved t c =
    let source = c.args.self.now.source.now in
    let f = reader source c.args.self.now.fuel in
    record {
      same =
          sym (climb_turn source f c.loop-next.below c.args.level c.in-Some.next (tree_of c.loop-next.left) (tree_of c.in_ok-joined.joined) c.loop-next.rest c.in_ok-joined.after
          (sym c.in-Some.ensures) c.in_ok-joined.ensures.read)
          ∙ c.loop-next.invariant.same;
    }

pub grown-returns-in_err-joined : goal.grown-returns-in_err-joined
grown-returns-in_err-joined t c =
    let source = c.args.self.now.source.now in
    let f = reader source c.args.self.now.fuel in
    let left = tree_of c.loop-next.left in
    let p = err_from_is_err_and c.from_residual.result c.from_residual.ensures.1 in
    record {
      read =
          rw (p.1, p.2)
          (pass_on c.in_err-joined.field-0.0 (joined_at source f (c.in-Some.next - 1) left c.loop-next.rest) (grown_at source f c.args.level (tree_of c.args.first) c.args.tokens.now)
          c.in_err-joined.ensures.read
          (λ h. sym c.loop-next.invariant.same ∙ climb_fail source f c.loop-next.below c.args.level c.in-Some.next left c.loop-next.rest (sym c.in-Some.ensures) h));
    }

pub grown-returns : goal.grown-returns
grown-returns t c =
    let source = c.args.self.now.source.now in
    let f = reader source c.args.self.now.fuel in
    record {
      read =
          sym c.loop-next.invariant.same
          ∙ climb_ends source f c.loop-next.below c.args.level (tree_of c.loop-next.left) c.loop-next.rest (sym c.in_default.ensures);
    }

pub methods-returns-in-None : goal.methods-returns-in-None
methods-returns-in-None t c =
    record {
      read =
          sym c.loop.invariant.same ∙ methods_stop _ _ _ _ _ (sym c.in-None.ensures.read);
    }

pub methods-loop-preserved : goal.methods-loop-preserved
methods-loop-preserved t c =
    let f = reader c.args.self.now.source.now c.args.self.now.fuel in
    let front : args_of c.in_ok-front-in-Some.front.items none ≡ value none (tree_of c.loop.value) =
    c.in_ok-front-in-Some.ensures.ok ∙ ap (λ xs. value (args_of xs none) (tree_of c.loop.value)) c.new.ensures.items in
    let k = c.len-end.result - (c.loop.counter + 1) in
    record {
      same =
          ap (λ x. methods_at c.args.self.now.source.now f k x c.in_ok-args-in-Some.after) c.in_ok-value-in-Some.ensures.ok
          ∙ (sym (methods_turn c.args.self.now.source.now f k (tree_of c.loop.value) c.loop.rest c.in-Some.after c.in_ok-args-in-Some.after c.in-Some.word (args_of c.in_ok-args-in-Some.args.items none) (sym c.in-Some.ensures.read)
          (ap (λ a. maybe_at c.args.self.now.source.now f a c.in-Some.after) (sym front) ∙ c.in_ok-args-in-Some.ensures.read))
          ∙ (ap (λ n. methods_at c.args.self.now.source.now f n (tree_of c.loop.value) c.loop.rest)
          (sym (one_less c.len-end.result c.loop.counter c.loop-test.true)) ∙ c.loop.invariant.same));
    }

pub more_args-loop-preserved : goal.more_args-loop-preserved
more_args-loop-preserved t c =
    let f = reader c.args.self.now.source.now c.args.self.now.fuel in
    let k = c.len-end.result - (c.loop.counter + 1) in
    record {
      same =
          sym (more_turn c.args.self.now.source.now f k _ _ _ _ _ (sym c.in-Some.ensures.rest) c.in_ok-all-in-Some.ensures.read)
          ∙ (ap (λ n. more_at c.args.self.now.source.now f n (args_of c.loop.args.items none) c.loop.rest)
          (sym (one_less c.len-end.result c.loop.counter c.loop-test.true)) ∙ c.loop.invariant.same);
    }

pub chain-loop-init : goal.chain-loop-init
chain-loop-init t c =
    let inner = level_at c.args.self.now.source.now (reader c.args.self.now.source.now c.args.self.now.fuel) c.args.below in
    record { same = begun (λ k. chain_at inner (suc c.args.below) k (tree_of c.args.first)) _ _ _ _ (rw add-one at c.limit-end.ensures) c.copy-rest.ensures }

pub chain-returns-in_err-right-in-Some : goal.chain-returns-in_err-right-in-Some
chain-returns-in_err-right-in-Some t c =
    let inner = level_at c.args.self.now.source.now (reader c.args.self.now.source.now c.args.self.now.fuel) c.args.below in
    let at = chain_at inner (suc c.args.below) in
    let k = c.limit-end.result - (c.loop.counter + 1) in
    let left = tree_of c.loop.left in
    let p = err_from_is_err_and c.from_residual.result c.from_residual.ensures.1 in
    record {
      read =
          rw (p.1, p.2)
          (pass_on c.in_err-right-in-Some.field-0.0 (inner c.in-Some.after) (at (limit_of (suc c.args.below) c.args.tokens.now) (tree_of c.args.first) c.args.tokens.now)
          c.in_err-right-in-Some.ensures.read
          (λ h. sym c.loop.invariant.same ∙ (ap (λ n. at n left c.loop.rest) (one_less c.limit-end.result c.loop.counter c.loop-test.true)
          ∙ chain_fail inner c.args.below k left c.loop.rest c.in-Some.after c.in-Some.op (sym c.in-Some.ensures.read) h)));
    }

pub chain-returns : goal.chain-returns
chain-returns t c = record { read = sym c.loop.invariant.same ∙ chain_last _ (suc c.args.below) _ _ _ (omega arith) }

pub methods-loop-init : goal.methods-loop-init
methods-loop-init t c =
    let source = c.args.self.now.source.now in
    record { same = begun (λ k. methods_at source (reader source c.args.self.now.fuel) k (tree_of c.args.first)) _ _ _ _ c.len-end.ensures.count c.copy-rest.ensures }

pub methods-returns : goal.methods-returns
methods-returns t c = record { read = sym c.loop.invariant.same ∙ methods_last _ _ _ _ _ (omega arith) }

pub more_args-loop-init : goal.more_args-loop-init
more_args-loop-init t c =
    let source = c.args.self.now.source.now in
    record { same = begun (λ k. more_at source (reader source c.args.self.now.fuel) k (args_of c.args.front.items none)) _ _ _ _ c.len-end.ensures.count c.copy-rest.ensures }

pub more_args-returns-in-None : goal.more_args-returns-in-None
more_args-returns-in-None t c = record { read = sym c.loop.invariant.same ∙ more_stop _ _ _ _ _ (sym c.in-None.ensures.rest) }

pub more_args-returns-in_err-all-in-Some : goal.more_args-returns-in_err-all-in-Some
more_args-returns-in_err-all-in-Some t c =
    let source = c.args.self.now.source.now in
    let f = reader source c.args.self.now.fuel in
    let k = c.len-end.result - (c.loop.counter + 1) in
    let args = args_of c.loop.args.items none in
    let p = err_from_is_err_and c.from_residual.result c.from_residual.ensures.1 in
    record {
      read =
          rw (p.1, p.2)
          (pass_on c.in_err-all-in-Some.field-0.0 (arg_at source f args c.in-Some.after) (more_at source f (length c.args.tokens.now) (args_of c.args.front.items none) c.args.tokens.now)
          c.in_err-all-in-Some.ensures.read
          (λ h. sym c.loop.invariant.same ∙ (ap (λ n. more_at source f n args c.loop.rest) (one_less c.len-end.result c.loop.counter c.loop-test.true)
          ∙ more_fail source f k args c.loop.rest c.in-Some.after (sym c.in-Some.ensures.rest) h)));
    }

pub more_args-returns : goal.more_args-returns
more_args-returns t c = record { read = sym c.loop.invariant.same ∙ more_last _ _ _ _ _ (omega arith) }

pub methods-returns-in_err-args-in-Some : goal.methods-returns-in_err-args-in-Some
methods-returns-in_err-args-in-Some t c =
    let source = c.args.self.now.source.now in
    let f = reader source c.args.self.now.fuel in
    let k = c.len-end.result - (c.loop.counter + 1) in
    let t = tree_of c.loop.value in
    let front : args_of c.in_ok-front-in-Some.front.items none ≡ value none t =
    c.in_ok-front-in-Some.ensures.ok ∙ ap (λ xs. value (args_of xs none) t) c.new.ensures.items in
    let p = err_from_is_err_and c.from_residual-in_err-args-in-Some.result c.from_residual-in_err-args-in-Some.ensures.1 in
    record {
      read =
          rw (p.1, p.2)
          (pass_on c.in_err-args-in-Some.field-0.0 (maybe_at source f (args_of c.in_ok-front-in-Some.front.items none) c.in-Some.after) (methods_at source f (length c.args.tokens.now) (tree_of c.args.first) c.args.tokens.now)
          c.in_err-args-in-Some.ensures.read
          (λ h. sym c.loop.invariant.same ∙ (ap (λ n. methods_at source f n t c.loop.rest) (one_less c.len-end.result c.loop.counter c.loop-test.true)
          ∙ methods_fail source f k t c.loop.rest c.in-Some.after c.in-Some.word (sym c.in-Some.ensures.read) (ap (λ a. maybe_at source f a c.in-Some.after) (sym front) ∙ h))));
    }
