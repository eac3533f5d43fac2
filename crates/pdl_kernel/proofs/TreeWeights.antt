-- How much there is to run.
use Rattle.std.proofs.Common.{ℕ, ◌+◌}
use Rattle.pdl_code.specs.Tree.{Step, Code, repeat, choose, keep, put, done, next}

abbrev mutual
  pub step_weight : Step → ℕ
  step_weight (repeat d body) = code_weight body + 4
  step_weight (choose e whole other) = code_weight whole + code_weight other + 2
  step_weight (keep t op e) = 1
  step_weight (put a is op e) = 1

  pub code_weight : Code → ℕ
  code_weight done = 0
  code_weight (next s rest) = step_weight s + code_weight rest
