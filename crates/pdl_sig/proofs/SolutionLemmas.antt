-- A resolution solves the equations.
use Rattle.std.proofs.Common.{◌≡◌, ◌≢◌, ℕ, zero, suc, ◌+◌, ◌<◌, ◌==◌, Bool, true, false, not, ◌&&◌, List, [], ◌∷◌, length, get_or, All, Option, Some, None, Result, Ok, Err, IfOk, refl, ap, sym, ◌∙◌, subst, arith, zero-add, eqb-true, if◌then◌else◌}
use Rattle.std.specs.List.{list_any, Contains}
use Rattle.std.specs.Option.{unwrap_or}
use Rattle.std.proofs.lemmas.Bool.{or_parts}
use Rattle.pdl_lemmas.specs.Lists.{entry_inside}
use Rattle.pdl_sig.specs.declared.SigArg.{SigArg}
use Rattle.pdl_sig.specs.declared.Signature.{Signature}
use Rattle.pdl_sig.specs.declared.ArgShape.{ArgShape}
use Rattle.pdl_sig.specs.declared.Resolved.{Resolved}
use Rattle.pdl_sig.specs.declared.ResolveFault.{ResolveFault}
use Rattle.pdl_sig.specs.Resolution.{Unresolved, arg_count, core_mismatch, stretched_in_out, too_many_dims, too_large, too_much_work, inputs, handed, cores, found_size, sizes_from, size_in, is_unfit, joined_with, named_sizes, solution, resolved_by, resolved_in, resolution, Answers}
use Rattle.pdl_sig.specs.Solutions.{Fits, Solves}

-- past a refusal that doesn't come
pub record Past (b : Bool) (x y : Result Resolved Unresolved) : Type 0 where
  pub off : b ≡ false
  pub same : x ≡ y

past : (b : Bool) (e : Unresolved) (x : Result Resolved Unresolved) (r : Resolved) → (if b then Err e else x) ≡ Ok r → Past b x (Ok r)
past true e x r h = cc
past false e x r h = record { off = refl; same = h }

-- the size of a dimension by the rule
sized_at : (cs : List (ℕ × ℕ)) (m : ℕ) (fs : List (Option ℕ)) (n : ℕ) → n < length fs → get_or (sizes_from cs m fs) n 1 ≡ unwrap_or (get_or fs n None) (found_size cs (m + n))
sized_at cs m [] n h = absurd (omega arith)
sized_at cs m (f ∷ fs) zero h = ap (λ k. unwrap_or f (found_size cs k)) (omega arith)
sized_at cs m (f ∷ fs) (suc n) h = sized_at cs (m + 1) fs n (omega arith) ∙ ap (λ k. unwrap_or (get_or fs n None) (found_size cs k)) (omega arith)

count_sizes : (cs : List (ℕ × ℕ)) (m : ℕ) (fs : List (Option ℕ)) → length (sizes_from cs m fs) ≡ length fs
count_sizes cs m [] = refl
count_sizes cs m (f ∷ fs) = ap suc (count_sizes cs (m + 1) fs)

-- a size that was found is one of the cores
front_is : (c : ℕ × ℕ) (n : ℕ) (a b : Bool) → (c.0 == n) ≡ a → (a && b) ≡ true → c ≡ (n, c.1)
front_is c n true b e h = ap (λ m. (m, c.1)) (eqb-true c.0 n e)
front_is c n false b e h = cc

later : (c x : ℕ × ℕ) (cs : List (ℕ × ℕ)) → Contains cs x → Contains (c ∷ cs) x
later c x cs (k, h, e) = (suc k, omega arith, e)

found_by : (c : ℕ × ℕ) (cs : List (ℕ × ℕ)) (n : ℕ) (t : Bool) → ((c.0 == n) && not (c.1 == 1)) ≡ t → ((found_size cs n ≢ 1) → Contains cs (n, found_size cs n))
    → (if t then c.1 else found_size cs n) ≢ 1 → Contains (c ∷ cs) (n, if t then c.1 else found_size cs n)
found_by c cs n true e f h = (0, omega arith, front_is c n (c.0 == n) (not (c.1 == 1)) refl e)
found_by c cs n false e f h = later c (n, found_size cs n) cs (f h)

found_among : (cs : List (ℕ × ℕ)) (n : ℕ) → found_size cs n ≢ 1 → Contains cs (n, found_size cs n)
found_among [] n h = absurd (h refl)
found_among (c ∷ cs) n h = found_by c cs n ((c.0 == n) && not (c.1 == 1)) refl (found_among cs n) h

-- a core that isn't unfit fits
fits_by : (x s : ℕ) (a b : Bool) → (x == 1) ≡ a → (x == s) ≡ b → (not a && not b) ≡ false → x ≢ 1 → x ≡ s
fits_by x s a true e f h n = eqb-true x s f
fits_by x s true false e f h n = absurd (n (eqb-true x 1 e))
fits_by x s false false e f h n = cc

all_fit : (sizes : List ℕ) (cs : List (ℕ × ℕ)) → list_any (is_unfit sizes) cs ≡ false → All (Fits sizes) cs
all_fit sizes [] h k d p = absurd (omega arith)
all_fit sizes (c ∷ cs) h zero d p =
    fits_by c.1 (size_in sizes c.0) (c.1 == 1) (c.1 == size_in sizes c.0) refl refl (or_parts (is_unfit sizes c) (list_any (is_unfit sizes) cs) h).0
all_fit sizes (c ∷ cs) h (suc k) d p = all_fit sizes cs (or_parts (is_unfit sizes c) (list_any (is_unfit sizes) cs) h).1 k d (omega arith)

-- the named sizes and the joined dimensions solve the equations
solution_solves : (signature : Signature) (given : List ArgShape) (broadcast : List ℕ) → list_any (is_unfit (named_sizes signature given)) (cores (handed signature.args given)) ≡ false
    → joined_with [] (handed signature.args given) ≡ Some broadcast → Solves signature given (solution signature.args given (named_sizes signature given) broadcast)
solution_solves signature given broadcast f j =
    let cs = cores (handed signature.args given) in
    record {
      fixed = λ n k e. sized_at cs 0 signature.fixed n (entry_inside signature.fixed n k e) ∙ ap (λ o. unwrap_or o (found_size cs (0 + n))) e;
      fit = all_fit (named_sizes signature given) cs f;
      own = λ n h e m.
          let q : size_in (named_sizes signature given) n ≡ found_size cs n = sized_at cs 0 signature.fixed n h ∙ ap (λ o. unwrap_or o (found_size cs (0 + n))) e ∙ ap (found_size cs) (zero-add n) in
          let P : ℕ → Type 0 = λ x. Contains cs (n, x) in
          subst P (sym q) (found_among cs n (λ z. m (q ∙ z)));
      count = count_sizes cs 0 signature.fixed;
      joined = j;
      generic = refl;
      types = refl;
      shapes_are = refl;
    }

-- what resolves has joined dimensions, and is their solution
record Solved (args : List SigArg) (given : List ArgShape) (sizes : List ℕ) (joined : Option (List ℕ)) (r : Resolved) : Type 0 where
  broadcast : List ℕ
  joined_is : joined ≡ Some broadcast
  same : solution args given sizes broadcast ≡ r

ok_is : (u : Result Resolved Unresolved) (x y : Resolved) → u ≡ Ok x → u ≡ Ok y → x ≡ y
ok_is u x y h k = cc

joined_part : (args : List SigArg) (given : List ArgShape) (sizes : List ℕ) (o : Option (List ℕ)) (r : Resolved) → resolved_by args given sizes o ≡ Ok r → Solved args given sizes o r
joined_part args given sizes None r h = cc
joined_part args given sizes (Some b) r h =
    let a1 = past _ stretched_in_out _ r h in
    let a2 = past _ too_many_dims _ r a1.same in
    let a3 = past _ too_large _ r a2.same in
    let a4 = past _ too_much_work _ r a3.same in
    record { broadcast = b; joined_is = refl; same = ok_is (Ok (solution args given sizes b)) (solution args given sizes b) r refl a4.same }

pub solves : (signature : Signature) (given : List ArgShape) (r : Resolved) → resolution signature given ≡ Ok r → Solves signature given r
solves signature given r h =
    let sizes = named_sizes signature given in
    let joined = joined_with [] (handed signature.args given) in
    let counted = past (not (length given == length (inputs signature.args))) arg_count (resolved_in signature.args given sizes) r h in
    let fitted = past (list_any (is_unfit sizes) (cores (handed signature.args given))) core_mismatch (resolved_by signature.args given sizes joined) r counted.same in
    let s = joined_part signature.args given sizes joined r fitted.same in
    let P : Resolved → Type 0 = λ x. Solves signature given x in
    subst P s.same (solution_solves signature given s.broadcast fitted.off s.joined_is)

pub answers_solve : (signature : Signature) (given : List ArgShape) (result : Result Resolved ResolveFault) → Answers (resolution signature given) result → IfOk result (Solves signature given)
answers_solve signature given (Ok r) h = solves signature given r (sym h)
answers_solve signature given (Err e) h = tt
