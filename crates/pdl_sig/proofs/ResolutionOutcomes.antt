-- What a call resolves to where no test refuses it.
use Rattle.std.proofs.Common.{◌≡◌, ℕ, ◌*◌, Bool, true, false, not, ◌||◌, nat_lt, nat_le, List, [], length, Option, Some, None, Ok, Err, refl, ap, ap₂, sym, ◌∙◌, arith, eq-eqb, if◌then◌else◌}
use Rattle.std.specs.List.{list_any}
use Rattle.std.proofs.lemmas.Bool.Decides.{nat_tests}
use Rattle.pdl_shape.specs.Limits.{checked_size}
use Rattle.pdl_shape.specs.Shape.{extent, size_of}
use Rattle.pdl_sig.specs.declared.SigArg.{SigArg}
use Rattle.pdl_sig.specs.declared.Signature.{Signature}
use Rattle.pdl_sig.specs.declared.ArgShape.{ArgShape}
use Rattle.pdl_sig.specs.declared.Resolved.{Resolved}
use Rattle.pdl_sig.specs.Resolution.{work_limit, arg_count, core_mismatch, inputs, handed, cores, is_unfit, joined_with, named_sizes, is_stretched, has_too_many, is_too_large, solution, resolved_by, resolved_in, resolution}

-- a size within the limit
pub record Counted (n : ℕ) (ds : List ℕ) : Type 0 where
  pub small : nat_lt 1048576 (extent ds) ≡ false
  pub count : n ≡ size_of ds

by_limit : (n : ℕ) (ds : List ℕ) (k : Bool) → nat_le (extent ds) 1048576 ≡ k → Some n ≡ (if k then Some (size_of ds) else None) → Counted n ds
by_limit n ds true e h = record { small = grind (arith, nat_tests, e); count = cc }
by_limit n ds false e h = cc

pub counted : (n : ℕ) (ds : List ℕ) → Some n ≡ checked_size ds → Counted n ds
counted n ds h = by_limit n ds (nat_le (extent ds) 1048576) refl h

-- no test refuses
pub record Passed (args : List SigArg) (given : List ArgShape) (sizes broadcast : List ℕ) (count : ℕ) : Type 0 where
  pub stretched : list_any (is_stretched sizes broadcast) (handed args given) ≡ false
  pub many : list_any (has_too_many sizes broadcast) args ≡ false
  pub counts : Some count ≡ checked_size broadcast
  pub large : list_any (is_too_large sizes broadcast) args ≡ false
  pub work : nat_lt work_limit (count * extent sizes) ≡ false

pub solved : (args : List SigArg) (given : List ArgShape) (sizes broadcast : List ℕ) (count : ℕ) (r : Resolved) → Passed args given sizes broadcast count
    → r ≡ solution args given sizes broadcast → Ok r ≡ resolved_by args given sizes (Some broadcast)
solved args given sizes broadcast count r p e =
    let c = counted count broadcast p.counts in
    let w : nat_lt work_limit (size_of broadcast * extent sizes) ≡ false = ap (λ n. nat_lt work_limit (n * extent sizes)) (sym c.count) ∙ p.work in
    let l : (nat_lt 1048576 (extent broadcast) || list_any (is_too_large sizes broadcast) args) ≡ false = ap₂ (λ x y. x || y) c.small p.large in
    rw (p.stretched, p.many, l, w) (ap Ok e)

-- the call's sizes fit, and its dimensions join
pub record Reached (signature : Signature) (given : List ArgShape) (sizes : List ℕ) (joined : Option (List ℕ)) : Type 0 where
  pub count : length given ≡ length (inputs signature.args)
  pub sizes_are : sizes ≡ named_sizes signature given
  pub fit : list_any (is_unfit sizes) (cores (handed signature.args given)) ≡ false
  pub joined_is : joined ≡ joined_with [] (handed signature.args given)

pub reached : (signature : Signature) (given : List ArgShape) (sizes : List ℕ) (joined : Option (List ℕ)) → Reached signature given sizes joined
    → resolved_by signature.args given sizes joined ≡ resolution signature given
reached signature given sizes joined r =
    ap (resolved_by signature.args given sizes) r.joined_is
    ∙ sym (ap (λ b. if b then Err core_mismatch else resolved_by signature.args given sizes (joined_with [] (handed signature.args given))) r.fit)
    ∙ ap (resolved_in signature.args given) r.sizes_are
    ∙ sym (ap (λ b. if not b then Err arg_count else resolved_in signature.args given (named_sizes signature given)) (eq-eqb _ _ r.count))
