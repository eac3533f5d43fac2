use Rattle.std.proofs.Common.{◌≡◌, ℕ, ◌<◌, length, get_or}
use Rattle.pdl_affine.specs.declared.forms.Course.{Course}
use Rattle.pdl_affine.specs.Courses.{seen_form, IsCourse}
use Rattle.pdl_affine.proofs.courses.list_courses.Given as goal

abbrev pub invariant-loop-dimension : goal.invariant-loop-dimension
invariant-loop-dimension l = record {
  room : l.courses.capacity ≡ 16;
  count : length l.courses.items ≡ l.dimension;
  each : (i : ℕ) (t : Course) → i < l.dimension → IsCourse (seen_form l.form) l.sizes i (get_or l.courses.items i t);
}
