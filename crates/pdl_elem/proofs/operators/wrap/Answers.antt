-- Wrapping gives a congruent number of the type.
use Rattle.std.proofs.Common.{◌≡◌, ◌%◌, pos, ap, subst, sym, to_z, of_z, ◌∙◌}
use Rattle.std.proofs.lemmas.Int.{to_z-of_z}
use Rattle.std.specs.Int.{cast_unsigned, w64, w128}
use Rattle.pdl_elem.specs.Numbers.{wrapped, WrapsTo}
use Rattle.pdl_elem.proofs.NumbersWrapped.{wraps, wrapped_wide}
use Rattle.pdl_elem.proofs.NumbersUnwrapped.{wrapped_only}
use Rattle.pdl_elem.proofs.operators.wrap.Goals as goal

is_wrapped : (c : goal.After-narrow) → to_z w64 (of_z w64 c.narrow.result) ≡ wrapped c.args.ty c.args.n
is_wrapped c =
    to_z-of_z w64 c.narrow.result (record { sfits = c.narrow.type_inv }) ∙ c.narrow.ensures
    ∙ ap (λ k. wrapped c.args.ty (pos k)) (c.low_word.ensures ∙ ap (λ n. cast_unsigned w128 n % 18446744073709551616) (to_z-of_z w128 c.args.n c.ranges.n))
    ∙ wrapped_wide c.args.ty c.args.n c.ranges.n

pub returns-clause-value : goal.returns-clause-value
returns-clause-value c = is_wrapped c

pub returns-clause-wraps : goal.returns-clause-wraps
returns-clause-wraps c = subst (λ r. WrapsTo c.args.ty c.args.n r) (sym (is_wrapped c)) (wraps c.args.ty c.args.n)

pub returns-clause-only : goal.returns-clause-only
returns-clause-only c r h = wrapped_only c.args.ty c.args.n r h ∙ sym (is_wrapped c)
