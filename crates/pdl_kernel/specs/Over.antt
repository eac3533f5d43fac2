-- Code over arguments of some kinds: each access is to one of them, with one index for each of its
-- dimensions, and each assignment is to one that may be written.
use Rattle.std.specs.Prelude.{◌≡◌, ◌<◌, true, List, length, get_or}
use Rattle.pdl_code.specs.Fit.{IsEachOnce}
use Rattle.pdl_code.specs.Tree.{Tree, Indices, Step, Code, number, size, named, access, unary, binary, none, along, repeat, choose, keep, put, done, next}
use Rattle.pdl_kernel.specs.Places.{Kind, is_written}

abbrev mutual
  pub IsTreeOver : List Kind → Tree → Type 0
  IsTreeOver ks (number z) = Unit {0}
  IsTreeOver ks (size d) = Unit {0}
  IsTreeOver ks (named w) = Unit {0}
  IsTreeOver ks (access a is) = (a < length ks) ×
      (((d : Kind) → IsEachOnce (length (get_or ks a d).axes) is) × AreIndicesOver ks is)
  IsTreeOver ks (unary op e) = IsTreeOver ks e
  IsTreeOver ks (binary op x y) = IsTreeOver ks x × IsTreeOver ks y

  pub AreIndicesOver : List Kind → Indices → Type 0
  AreIndicesOver ks none = Unit {0}
  AreIndicesOver ks (along k e rest) = IsTreeOver ks e × AreIndicesOver ks rest

abbrev mutual
  pub IsStepOver : List Kind → Step → Type 0
  IsStepOver ks (repeat d body) = IsCodeOver ks body
  IsStepOver ks (choose e whole other) = IsTreeOver ks e ×
      (IsCodeOver ks whole × IsCodeOver ks other)
  IsStepOver ks (keep t op e) = IsTreeOver ks e
  IsStepOver ks (put a is op e) = ((d : Kind) → is_written (get_or ks a d).role ≡ true) ×
      (IsTreeOver ks (access a is) × IsTreeOver ks e)

  pub IsCodeOver : List Kind → Code → Type 0
  IsCodeOver ks done = Unit {0}
  IsCodeOver ks (next s rest) = IsStepOver ks s × IsCodeOver ks rest
