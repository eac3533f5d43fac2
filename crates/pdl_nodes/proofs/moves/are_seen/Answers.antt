-- Positions in order, which all have a place.
use Rattle.std.proofs.Common.{◌≡◌, ◌+◌, ◌-◌, ℕ, Some, take, drop, arith, ap, sym, subst, ◌∙◌}
use Rattle.std.specs.Prelude.{is_some}
use Rattle.std.specs.List.{list_all}
use Rattle.pdl_numbers.specs.Shown.{place_at}
use Rattle.pdl_nodes.specs.Assigned.{seen}
use Rattle.pdl_nodes.proofs.SpotsMoved.{all_seen}
use Rattle.pdl_nodes.proofs.moves.are_seen.Goals as goal

pub returns-then-is_identity : goal.returns-then-is_identity
returns-then-is_identity c = λ t p low.
    let itself : place_at c.args.placement.now (c.args.first + p) ≡ c.args.first + p = c.is_identity.ensures c.if-is_identity.true (c.args.first + p) (omega (arith, low)) in
    let count : c.args.count ≡ (c.args.first + c.args.count) - c.args.first = omega arith in
    subst (λ (q : ℕ). seen c.args.places.now q ≡ Some q) (sym itself)
    (all_seen c.args.places.now c.args.first c.args.count p (omega arith)
    (ap (λ (n : ℕ). list_all is_some (take n (drop c.args.first c.args.places.now))) count ∙ sym c.are_all.ensures ∙ t) low)
