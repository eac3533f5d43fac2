-- Bytes that a sink took and a source gave.
use Rattle.std.proofs.Common.{◌≡◌, ℕ, ◌≤◌, List, [], ◌++◌, length, drop, Option, Some, None, Result, Ok, Err, refl, sym, ◌∙◌, ap, append_assoc, append-nil}
use Rattle.std.specs.Prelude.{OnOk}
use Rattle.std.proofs.Math.Seq.{drop-append_seam}
use Rattle.std.specs.Io.KnownBytes.{Appends, Consumes, Keeps}
use Rattle.pdl_io.specs.Told.{IsPrefix}
use Rattle.pdl_shell.specs.Answers.{TakesAtMost}

pub on_ok : {T E P : Type 0} (r : Result T E) → P → OnOk r P
on_ok (Ok x) p = p
on_ok (Err e) p = tt

pub is_prefix-refl : (xs : List ℕ) → IsPrefix xs xs
is_prefix-refl xs = ([], sym (append-nil xs))

pub is_prefix-trans : (xs ys zs : List ℕ) → IsPrefix xs ys → IsPrefix ys zs → IsPrefix xs zs
is_prefix-trans xs ys zs p q = (p.0 ++ q.0, q.1 ∙ ap (λ u. u ++ q.0) p.1 ∙ append_assoc xs p.0 q.0)

-- nothing taken yet
pub appends_nothing : (taken : Option (List ℕ)) → Appends taken taken []
appends_nothing None = tt
appends_nothing (Some xs) = sym (append-nil xs)

-- bytes taken, and then more of them
pub appends_then : (before taken now : Option (List ℕ)) (xs ys : List ℕ) → Appends before taken xs → Appends taken now ys → Appends before now (xs ++ ys)
appends_then None taken now xs ys first then' = tt
appends_then (Some bs) None now xs ys first then' = absurd first
appends_then (Some bs) (Some cs) None xs ys first then' = absurd then'
appends_then (Some bs) (Some cs) (Some ds) xs ys first then' = then' ∙ ap (λ u. u ++ ys) first ∙ append_assoc bs xs ys

-- bytes consumed, and then more of them
pub consumes_then : (old mid new : Option (List ℕ)) (xs ys : List ℕ) → Consumes old mid xs → Consumes mid new ys → Consumes old new (xs ++ ys)
consumes_then None mid new xs ys first then' = tt
consumes_then (Some bs) None new xs ys first then' = absurd first
consumes_then (Some bs) (Some cs) None xs ys first then' = absurd then'
consumes_then (Some bs) (Some cs) (Some ds) xs ys first then' = first ∙ ap (λ u. xs ++ u) then' ∙ sym (append_assoc xs ys ds)

pub consumes_kept : (old mid new : Option (List ℕ)) (xs : List ℕ) → Consumes old mid xs → Keeps mid new → Consumes old new xs
consumes_kept None mid new xs first kept = tt
consumes_kept (Some bs) None new xs first kept = absurd first
consumes_kept (Some bs) (Some cs) None xs first kept = absurd kept
consumes_kept (Some bs) (Some cs) (Some ds) xs first kept = first ∙ ap (λ u. xs ++ u) (sym kept)

rest_after : (old new : Option (List ℕ)) (seen bytes : List ℕ) → Consumes old new seen → old ≡ Some bytes → new ≡ Some (drop (length seen) bytes)
rest_after None new seen bytes taken is = cc
rest_after (Some bs) None seen bytes taken is = absurd taken
rest_after (Some bs) (Some cs) seen bytes taken is =
    let same : bs ≡ bytes = cc in
    rw (← same, taken, drop-append_seam) refl

-- what was consumed are the first bytes
pub takes_at_most : (most : ℕ) (old new : Option (List ℕ)) (seen : List ℕ) → Consumes old new seen → length seen ≤ most → TakesAtMost most old new
takes_at_most most old new seen taken within = record { count = length seen; within = within; rest = λ bytes is. rest_after old new seen bytes taken is }
