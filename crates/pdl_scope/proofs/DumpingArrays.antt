-- The lines of arrays, the oldest first.
use Rattle.std.proofs.Common.{◌≡◌, ℕ, ℤ, zero, suc, ◌+◌, ◌<◌, ◌≤◌, Bool, true, false, List, [], ◌∷◌, ◌++◌, length, Option, Some, None, Result, Ok, Err, refl, sym, ap, ap₂, ◌∙◌, subst, arith}
use Rattle.std.specs.Prelude.{nat_lt, slice_get, if◌then◌else◌, IsErrAnd, IsSome}
use Rattle.std.proofs.lemmas.Bool.{le-ltb}
use Rattle.pdl_lemmas.specs.Tests.{by_test}
use Rattle.pdl_elem.specs.declared.Ty.{Ty}
use Rattle.pdl_world.specs.declared.Trans.{Trans}
use Rattle.pdl_world.specs.Laws.{LiveLieBelow}
use Rattle.pdl_world.specs.Paths.{parent_in}
use Rattle.pdl_world.specs.Sound.{IsLive, IsSound}
use Rattle.pdl_world.specs.World.{World, ArrayDef, root, view, ty_in, dims_in, elements}
use Rattle.pdl_image.specs.Dump.{array_lines, root_lines, view_lines, world_lines}
use Rattle.pdl_image.specs.Image.{Image}
use Rattle.pdl_image.specs.Laws.{LinesJoin}
use Rattle.pdl_image.specs.Lines.{Line}
use Rattle.pdl_image.specs.Stems.{index_name, name_at}
use Rattle.pdl_engine.specs.Looks.{array_numbers, trans_in}
use Rattle.pdl_machine.specs.Tidy.{older, renumber, with_parent}
use Rattle.pdl_scope.specs.declared.fault.ScopeFault.{ScopeFault}
use Rattle.pdl_scope.specs.declared.fault.ScopeFault.TheVariants.{Script, NoMemory}
use Rattle.pdl_scope.specs.Dumping.{array_at, lines_at, oldest, place_from, HasRoom, WritesLines}
use Rattle.pdl_scope.proofs.DumpingLemmas.{writes_first, writes_none, writes_then}
use Rattle.pdl_scope.proofs.DumpingNumbers.{Laws, LooksLike, in_range, length-numbers, lines_next, looks_at, number_is, number_or, oldest_all, place_is}

-- ---- the array at a place

-- the number that stands at a place is that of the array there
pub number_at : (w : World) (ids : List ℕ) (i v : ℕ) → ids ≡ array_numbers w → slice_get ids i ≡ Some v → (array_at w i).0 ≡ v
number_at w ids i v is at =
    let same : slice_get (array_numbers w) i ≡ Some v = subst (λ (ks : List ℕ). slice_get ks i ≡ Some v) is at in
    let low : i < length w = subst (λ (m : ℕ). i < m) (length-numbers w) (in_range (array_numbers w) i v same) in
    ap (number_or 0) (sym (number_is w i low) ∙ same)

-- an array whose number stands at a place is there, and looks as it was made
pub found_at : Laws → (w : World) (ids : List ℕ) (i v : ℕ) → IsSound w → ids ≡ array_numbers w → slice_get ids i ≡ Some v
    → IsLive w v × LooksLike w v (array_at w i).1
found_at laws w ids i v sound is at =
    let same : slice_get (array_numbers w) i ≡ Some v = subst (λ (ks : List ℕ). slice_get ks i ≡ Some v) is at in
    let low : i < length w = subst (λ (m : ℕ). i < m) (length-numbers w) (in_range (array_numbers w) i v same) in
    subst (λ (u : ℕ). IsLive w u × LooksLike w u (array_at w i).1) (number_at w ids i v is at) (looks_at laws w i sound low)

pub live_at : Laws → (w : World) (ids : List ℕ) (i v : ℕ) → IsSound w → ids ≡ array_numbers w → slice_get ids i ≡ Some v → IsLive w v
live_at laws w ids i v sound is at = (found_at laws w ids i v sound is at).0

-- one that has a parent has a transformation
pub has_trans : Laws → (w : World) (ids : List ℕ) (i v p : ℕ) → IsSound w → ids ≡ array_numbers w → slice_get ids i ≡ Some v
    → Some p ≡ parent_in w v → IsSome (trans_in w v)
has_trans laws w ids i v p sound is at parent = by_def (array_at w i).1 (found_at laws w ids i v sound is at).1
  where
    by_def : (d : ArrayDef) → LooksLike w v d → IsSome (trans_in w v)
    by_def (root ty ds es) looks = let none : Some p ≡ None = parent ∙ looks.0 in cc
    by_def (view q t) looks = subst (λ (o : Option Trans). IsSome o) (sym looks.1) refl

-- the lines of a view are those of the array at its place
pub wrote_view : Laws → (w : World) (ids : List ℕ) (i v p at : ℕ) (old new : Image) (r : Result (Unit {0}) ScopeFault) → IsSound w → ids ≡ array_numbers w
    → slice_get ids i ≡ Some v → Some p ≡ parent_in w v → at ≡ place_from ids p 0
    → ((t : Trans) → trans_in w v ≡ Some t
    → WritesLines old new 1 (view_lines (name_at old.stem i) (name_at old.stem at) (index_name old.stem) t) r)
    → WritesLines old new 1 (lines_at old.stem w i) r
wrote_view laws w ids i v p at old new r sound is here parent place wrote = by_def (array_at w i).1 (found_at laws w ids i v sound is here).1
  where
    by_def : (d : ArrayDef) → LooksLike w v d → WritesLines old new 1 (array_lines old.stem i (with_parent (older w) d)) r
    by_def (root ty ds es) looks = let none : Some p ≡ None = parent ∙ looks.0 in absurd (cc)
    by_def (view q t) looks =
        let e : p ≡ q = ap (number_or 0) (parent ∙ looks.0) in
        let same : at ≡ older w q =
        place ∙ ap (λ (ks : List ℕ). place_from ks p 0) is ∙ place_is w p sound ∙ ap (older w) e in
        subst (λ (n : ℕ). WritesLines old new 1 (view_lines (name_at old.stem i) (name_at old.stem n) (index_name old.stem) t) r) same (wrote t looks.1)

-- so are those of a root
pub wrote_root : Laws → (w : World) (ids : List ℕ) (i v : ℕ) (old new : Image) (r : Result (Unit {0}) ScopeFault) → IsSound w → ids ≡ array_numbers w
    → slice_get ids i ≡ Some v → None ≡ parent_in w v
    → WritesLines old new 1 (root_lines (name_at old.stem i) (ty_in w v) (dims_in w v) (elements w v)) r
    → WritesLines old new 1 (lines_at old.stem w i) r
wrote_root laws w ids i v old new r sound is at parent wrote = by_def (array_at w i).1 (found_at laws w ids i v sound is at).1
  where
    by_def : (d : ArrayDef) → LooksLike w v d → WritesLines old new 1 (array_lines old.stem i (with_parent (older w) d)) r
    by_def (root ty ds es) looks =
        let x = name_at old.stem i in
        let lines : root_lines x (ty_in w v) (dims_in w v) (elements w v) ≡ root_lines x ty ds es =
        ap (λ (k : Ty). root_lines x k (dims_in w v) (elements w v)) looks.2
        ∙ ap₂ (λ (k : List ℕ) (ns : List ℤ). root_lines x ty k ns) looks.3 looks.4 in
        subst (λ (ls : List Line). WritesLines old new 1 ls r) lines wrote
    by_def (view q t) looks = let none : None ≡ Some q = parent ∙ looks.0 in absurd (cc)

-- ---- one array after another

-- what was refused doesn't say of how many arrays
any_count : (old new mid : Image) (a b : ℕ) (lines : List Line) (e : ScopeFault) → WritesLines old mid a lines (Err e) → WritesLines old new b lines (Err e)
any_count old new mid a b lines (Script f) h = h
any_count old new mid a b lines NoMemory h = tt

-- none was written yet
pub none_yet : (m : Image) (w : World) → HasRoom m → WritesLines m m 0 (world_lines m.stem (renumber (oldest 0 w))) (Ok tt)
none_yet m w room = subst (λ (u : World). WritesLines m m 0 (world_lines m.stem (renumber u)) (Ok tt)) (sym (none w)) (writes_none m tt room)
  where
    none : (w : World) → oldest 0 w ≡ []
    none [] = refl
    none (a ∷ w) = rw (le-ltb (length w) 0 (omega arith)) (none w)

abbrev Written : (old now : Image) → World → ℕ → Type 0
Written old now w i = WritesLines old now i (world_lines old.stem (renumber (oldest i w))) (Ok tt)

-- the lines of the next one, behind those of the older ones
next_behind : LinesJoin → LiveLieBelow → (w now : World) (ids : List ℕ) (i : ℕ) (old mid new : Image) (r : Result (Unit {0}) ScopeFault) → IsSound w → ids ≡ array_numbers w → now ≡ w
    → i < length ids → Written old mid w i → WritesLines mid new 1 (lines_at mid.stem now i) r
    → WritesLines old new (i + 1) (world_lines old.stem (renumber (oldest (i + 1) w))) r
next_behind join lie w now ids i old mid new r sound is still low first second =
    let same : mid.stem ≡ old.stem = ap (λ (m : Image). m.stem) first.0 in
    let here : WritesLines mid new 1 (lines_at old.stem w i) r =
    subst (λ (u : World). WritesLines mid new 1 (lines_at old.stem u i) r) still (subst (λ (s : List ℕ). WritesLines mid new 1 (lines_at s now i) r) same second) in
    let below : i < length w = subst (λ (n : ℕ). i < n) (ap length is ∙ length-numbers w) low in
    subst (λ (ls : List Line). WritesLines old new (i + 1) ls r) (sym (lines_next lie old.stem w i sound below))
    (writes_then join old mid new i 1 (world_lines old.stem (renumber (oldest i w))) (lines_at old.stem w i) tt r first here)

pub next_written : LinesJoin → LiveLieBelow → (w now : World) (ids : List ℕ) (i : ℕ) (old mid new : Image) (u : Unit {0}) → IsSound w → ids ≡ array_numbers w → now ≡ w
    → i < length ids → Written old mid w i → WritesLines mid new 1 (lines_at mid.stem now i) (Ok u) → Written old new w (i + 1)
next_written join lie w now ids i old mid new u sound is still low first second =
    next_behind join lie w now ids i old mid new (Ok tt) sound is still low first second

-- where the oldest ones were refused, all are
all_refused : LinesJoin → (w : World) (i a b : ℕ) (stem : List ℕ) (old new : Image) (e : ScopeFault)
    → WritesLines old new a (world_lines stem (renumber (oldest i w))) (Err e) → WritesLines old new b (world_lines stem (renumber w)) (Err e)
all_refused join [] i a b stem old new e h = any_count old new new a b [] e h
all_refused join ((k, d) ∷ w) i a b stem old new e h =
    by_test (nat_lt (length w) i)
    (λ all.
    any_count old new new a b (world_lines stem (renumber ((k, d) ∷ w))) e
    (subst (λ (u : World). WritesLines old new a (world_lines stem (renumber u)) (Err e)) (whole all) h))
    (λ some.
    writes_first join old new new b b (world_lines stem (renumber w)) (array_lines stem (length w) (with_parent (older w) d)) e
    (all_refused join w i a b stem old new e (subst (λ (u : World). WritesLines old new a (world_lines stem (renumber u)) (Err e)) (fewer some) h)))
  where
    whole : nat_lt (length w) i ≡ true → oldest i ((k, d) ∷ w) ≡ (k, d) ∷ w
    whole is = rw is refl

    fewer : nat_lt (length w) i ≡ false → oldest i ((k, d) ∷ w) ≡ oldest i w
    fewer is = rw is refl

pub next_refused : LinesJoin → LiveLieBelow → (w now : World) (ids : List ℕ) (i : ℕ) (old mid new : Image) (e : ScopeFault) (r : Result (Unit {0}) ScopeFault) → IsSound w → ids ≡ array_numbers w
    → now ≡ w → i < length ids → Written old mid w i → WritesLines mid new 1 (lines_at mid.stem now i) (Err e) → IsErrAnd r (λ f. f ≡ e)
    → WritesLines old new (length w) (world_lines old.stem (renumber w)) r
next_refused join lie w now ids i old mid new e (Ok x) sound is still low first second same = absurd same
next_refused join lie w now ids i old mid new e (Err f) sound is still low first second same =
    subst (λ (g : ScopeFault). WritesLines old new (length w) (world_lines old.stem (renumber w)) (Err g)) (sym same)
    (all_refused join w (i + 1) (i + 1) (length w) old.stem old new e (next_behind join lie w now ids i old mid new (Err e) sound is still low first second))

-- all were written
pub all_written : (w : World) (ids : List ℕ) (i : ℕ) (old new : Image) (u : Unit {0}) → ids ≡ array_numbers w → length ids ≤ i → i ≤ length ids → Written old new w i
    → WritesLines old new (length w) (world_lines old.stem (renumber w)) (Ok u)
all_written w ids i old new u is past within h =
    let count : length ids ≡ length w = ap length is ∙ length-numbers w in
    let n : i ≡ length w = omega (arith, count, past, within) in
    let all : oldest (length w) w ≡ w = oldest_all w (length w) (omega arith) in
    let there : Written old new w (length w) = subst (λ (m : ℕ). Written old new w m) n h in
    subst (λ (v : World). WritesLines old new (length w) (world_lines old.stem (renumber v)) (Ok tt)) all there
