-- The numbers before this one are read in all four.
use Rattle.pdl_numbers.specs.Reads.{HasStepped}
use Rattle.pdl_numbers.proofs.reads.read_side_by_side.Given as goal

abbrev pub invariant-loop-j : goal.invariant-loop-j
invariant-loop-j g l = record {
  a : HasStepped l.numbers l.first l.inc l.j l.a;
  b : HasStepped l.numbers l.second l.inc l.j l.b;
  c : HasStepped l.numbers l.third l.inc l.j l.c;
  d : HasStepped l.numbers l.fourth l.inc l.j l.d;
}
