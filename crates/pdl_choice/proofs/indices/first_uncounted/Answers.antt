-- Where each value stands for a coordinate, none is the first that doesn't.
use Rattle.std.proofs.Common.{◌≡◌, ℕ, ℤ, pos, List, length, get_or, Bool, cond, true, false, nat_lt, None, Some, arith, ap, sym, ◌∙◌}
use Rattle.std.specs.List.{list_all, position_or_len}
use Rattle.std.specs.Prelude.{Option, is_none, is_some}
use Rattle.std.proofs.lemmas.Bool.Decides.{nat_tests}
use Rattle.std.proofs.lemmas.List.Elements.{All-get_or}
use Rattle.std.proofs.lemmas.List.Sums.{AllPass-from_list_all, position_or_len_is}
use Rattle.pdl_shape.specs.Counting.{from_end}
use Rattle.pdl_choice.specs.Index.{first_outside}
use Rattle.pdl_choice.proofs.indices.first_uncounted.Goals as goal

not_none : (o : Option ℕ) → is_some o ≡ true → is_none o ≡ false
not_none None h = cc
not_none (Some n) h = cc

none_outside : (n : ℕ) (ind : List ℤ) → list_all (λ v. is_some (from_end v n)) ind ≡ true → None ≡ first_outside n ind
none_outside n ind h =
    let at : position_or_len (λ v. is_none (from_end v n)) ind ≡ length ind =
    position_or_len_is (λ v. is_none (from_end v n)) ind (length ind) (pos 0) (omega arith)
    (λ k below. not_none (from_end (get_or ind k (pos 0)) n) (All-get_or (λ v. is_some (from_end v n) ≡ true) ind k (pos 0) below (AllPass-from_list_all (λ v. is_some (from_end v n)) ind h)))
    (λ past. absurd (omega arith)) in
    let outside : nat_lt (length ind) (length ind) ≡ false = grind (arith, nat_tests) in
    sym (ap (λ (j : ℕ). cond (nat_lt j (length ind)) (Some j) None) at ∙ ap (λ (b : Bool). cond b (Some (length ind)) None) outside)

pub returns-then-are_counted-clause-first : goal.returns-then-are_counted-clause-first
returns-then-are_counted-clause-first c = none_outside c.args.size c.args.ind.now cc
