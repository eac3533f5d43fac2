use Rattle.std.proofs.Common.{◌∙◌, ◌-◌, ◌+◌, suc, length, sym, ap, arith, add-one}
use Rattle.std.proofs.lemmas.Result.{err_from_is_err_and}
use Rattle.pdl_lemmas.specs.Numbers.{one_less}
use Rattle.pdl_code.specs.TreeOf.{indices_of, tree_of}
use Rattle.pdl_code.specs.CodeReading.{before, reader, level_at, limit_of, chain_at, index_at, indices_at}
use Rattle.pdl_code.proofs.CodeReadingChains.{begun, chain_fail, chain_last, chain_stop, chain_turn, found_fail, found_next, found_stop, level_above, pass_on}
use Rattle.pdl_code.proofs.expr.+parser.Goals as goal

pub chain-returns-in-None : goal.chain-returns-in-None
chain-returns-in-None t c =
    record {
      read =
          sym c.loop.invariant.same ∙ chain_stop _ c.args.below _ _ _ (sym c.in-None.ensures.read);
    }

pub chain-loop-preserved : goal.chain-loop-preserved
chain-loop-preserved t c =
    let inner = level_at (reader c.args.fuel) c.args.below in
    let k = c.limit-end.result - (c.loop.counter + 1) in
    record {
      same =
          ap (λ x. chain_at inner (suc c.args.below) k x c.in_ok-right-in-Some.after) c.in_ok-left-in-Some.ensures
          ∙ (sym (chain_turn inner c.args.below k _ _ _ _ _ _ (sym c.in-Some.ensures.read) c.in_ok-right-in-Some.ensures.read)
          ∙ (ap (λ n. chain_at inner (suc c.args.below) n (tree_of c.loop.left) c.loop.rest)
          (sym (one_less c.limit-end.result c.loop.counter c.loop-test.true)) ∙ c.loop.invariant.same));
    }

pub level_expr-returns : goal.level_expr-returns
level_expr-returns t c =
    let f = reader c.args.fuel in
    let same = level_above f c.args.level c.args.tokens.now c.in_ok-first.rest (tree_of c.in_ok-first.first) c.if-level-eq0.false c.in_ok-first.ensures.read in
    record {
      read =
          rw same c.chain.ensures.read;
    }

pub indices-returns-in_err-all : goal.indices-returns-in_err-all
indices-returns-in_err-all t c =
    let f = reader c.args.fuel in
    let found = indices_of c.loop.found.items in
    let k = c.len-end.result - (c.loop.counter + 1) in
    let p = err_from_is_err_and c.from_residual.result c.from_residual.ensures.1 in
    record {
      read =
          rw (p.1, p.2)
          (pass_on c.in_err-all.field-0.0 (before found (index_at f c.loop.rest)) (indices_at f (length c.args.tokens.now) c.args.tokens.now)
          c.in_err-all.ensures.read
          (λ h. sym c.loop.invariant.same
          ∙ (ap (λ n. before found (indices_at f n c.loop.rest)) (one_less c.len-end.result c.loop.counter c.loop-test.true)
          ∙ found_fail f k c.loop.rest found h)));
    }

pub indices-returns-in-None : goal.indices-returns-in-None
indices-returns-in-None t c =
    let f = reader c.args.fuel in
    let found = indices_of c.loop.found.items in
    let k = c.len-end.result - (c.loop.counter + 1) in
    record {
      read =
          sym c.loop.invariant.same
          ∙ (ap (λ n. before found (indices_at f n c.loop.rest)) (one_less c.len-end.result c.loop.counter c.loop-test.true)
          ∙ found_stop f k c.loop.rest c.in_ok-all.after found (indices_of c.in_ok-all.all.items) c.in_ok-all.ensures.read (sym c.in-None.ensures.rest));
    }

pub indices-loop-preserved : goal.indices-loop-preserved
indices-loop-preserved t c =
    let f = reader c.args.fuel in
    let found = indices_of c.loop.found.items in
    let k = c.len-end.result - (c.loop.counter + 1) in
    record {
      same =
          sym (found_next f k c.loop.rest c.in_ok-all.after c.in-Some.next found (indices_of c.in_ok-all.all.items) c.in_ok-all.ensures.read (sym c.in-Some.ensures.rest))
          ∙ (ap (λ n. before found (indices_at f n c.loop.rest)) (sym (one_less c.len-end.result c.loop.counter c.loop-test.true))
          ∙ c.loop.invariant.same);
    }

pub chain-loop-init : goal.chain-loop-init
chain-loop-init t c =
    let inner = level_at (reader c.args.fuel) c.args.below in
    record { same = begun (λ k. chain_at inner (suc c.args.below) k (tree_of c.args.first)) _ _ _ _ (rw add-one at c.limit-end.ensures) c.copy-rest.ensures }

pub chain-returns-in_err-right-in-Some : goal.chain-returns-in_err-right-in-Some
chain-returns-in_err-right-in-Some t c =
    let inner = level_at (reader c.args.fuel) c.args.below in
    let at = chain_at inner (suc c.args.below) in
    let k = c.limit-end.result - (c.loop.counter + 1) in
    let left = tree_of c.loop.left in
    let p = err_from_is_err_and c.from_residual.result c.from_residual.ensures.1 in
    record {
      read =
          rw (p.1, p.2)
          (pass_on c.in_err-right-in-Some.field-0.0 (inner c.in-Some.after) (at (limit_of (suc c.args.below) c.args.tokens.now) (tree_of c.args.first) c.args.tokens.now)
          c.in_err-right-in-Some.ensures.read
          (λ h. sym c.loop.invariant.same ∙ (ap (λ n. at n left c.loop.rest) (one_less c.limit-end.result c.loop.counter c.loop-test.true)
          ∙ chain_fail inner c.args.below k left c.loop.rest c.in-Some.after c.in-Some.op (sym c.in-Some.ensures.read) h)));
    }

pub chain-returns : goal.chain-returns
chain-returns t c = record { read = sym c.loop.invariant.same ∙ chain_last _ (suc c.args.below) _ _ _ (omega arith) }
