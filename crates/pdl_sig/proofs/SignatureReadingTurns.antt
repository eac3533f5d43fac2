-- The turns of the loops over dimensions and over arguments.
use Rattle.std.proofs.Common.{◌≡◌, ℕ, suc, ◌+◌, ◌-◌, ◌<◌, ◌≤◌, true, false, List, [], ◌∷◌, ◌++◌, Option, Some, None, refl, ap, ap₂, sym, ◌∙◌, arith, append_assoc}
use Rattle.pdl_lemmas.specs.Numbers.{one_less}
use Rattle.pdl_sig.specs.declared.written.WrittenDim.{WrittenDim}
use Rattle.pdl_sig.specs.declared.written.WrittenArg.{WrittenArg}
use Rattle.pdl_sig.specs.SignatureReading.{is_end, sign_at, dim_at, before_dims, dims_by, dims_after, dims_at, arg_at, before_args, only_arg, args_past, args_by, args_after, args_at}

-- the dimensions so far, before those that are read
abbrev pub after_dims : List WrittenDim → Option (List WrittenDim × List ℕ) → Option (List WrittenDim × List ℕ)
after_dims ds None = None
after_dims ds (Some x) = Some (ds ++ x.0, x.1)

dims_step : (n m : ℕ) (s : List ℕ) → n ≡ suc m → dims_at n s ≡ dims_after (dims_at m) (dim_at s)
unfolding dims_at
dims_step n m s e = ap (λ k. dims_at k s) e

dims_none : (n : ℕ) (s : List ℕ) → n ≡ 0 → dims_at n s ≡ None
unfolding dims_at
dims_none n s e = ap (λ k. dims_at k s) e

after_before : (ds new : List WrittenDim) (d : WrittenDim) (o : Option (List WrittenDim × List ℕ)) → new ≡ ds ++ d ∷ [] → after_dims new o ≡ after_dims ds (before_dims d o)
after_before ds new d None e = refl
after_before ds new d (Some x) e = ap (λ es. Some (es ++ x.0, x.1)) e ∙ ap (λ es. Some (es, x.1)) (append_assoc ds (d ∷ []) x.0)

-- what is left to read at a turn of the loop
pub record DimsLeft (i end : ℕ) (s : List ℕ) (ds : List WrittenDim) (total : Option (List WrittenDim × List ℕ)) : Type 0 where
  pub left : after_dims ds (dims_at (end - i) s) ≡ total

pub dims_next : (i end : ℕ) (s t u : List ℕ) (ds new : List WrittenDim) (d : WrittenDim) (total : Option (List WrittenDim × List ℕ)) → i < end
    → Some (d, t) ≡ dim_at s → Some u ≡ sign_at 44 t → new ≡ ds ++ d ∷ [] → DimsLeft i end s ds total → DimsLeft (i + 1) end u new total
dims_next i end s t u ds new d total h k g e l = record {
  left = after_before ds new d (dims_at (end - (i + 1)) u) e
      ∙ ap (λ o. after_dims ds (dims_by (dims_at (end - (i + 1))) d o (sign_at 41 t))) g
      ∙ ap (λ o. after_dims ds (dims_after (dims_at (end - (i + 1))) o)) k
      ∙ sym (ap (after_dims ds) (dims_step (end - i) (end - (i + 1)) s (one_less end i h)))
      ∙ l.left;
}

pub dims_closed : (i end : ℕ) (s t u : List ℕ) (ds new : List WrittenDim) (d : WrittenDim) (total : Option (List WrittenDim × List ℕ)) → i < end
    → Some (d, t) ≡ dim_at s → None ≡ sign_at 44 t → Some u ≡ sign_at 41 t → new ≡ ds ++ d ∷ [] → DimsLeft i end s ds total → Some (new, u) ≡ total
dims_closed i end s t u ds new d total h k g q e l =
    ap (λ es. Some (es, u)) e
    ∙ ap₂ (λ o p. after_dims ds (dims_by (dims_at (end - (i + 1))) d o p)) g q
    ∙ ap (λ o. after_dims ds (dims_after (dims_at (end - (i + 1))) o)) k
    ∙ sym (ap (after_dims ds) (dims_step (end - i) (end - (i + 1)) s (one_less end i h)))
    ∙ l.left

pub dims_open : (i end : ℕ) (s t : List ℕ) (ds : List WrittenDim) (d : WrittenDim) (total : Option (List WrittenDim × List ℕ)) → i < end
    → Some (d, t) ≡ dim_at s → None ≡ sign_at 44 t → None ≡ sign_at 41 t → DimsLeft i end s ds total → None ≡ total
dims_open i end s t ds d total h k g q l =
    ap₂ (λ o p. after_dims ds (dims_by (dims_at (end - (i + 1))) d o p)) g q
    ∙ ap (λ o. after_dims ds (dims_after (dims_at (end - (i + 1))) o)) k
    ∙ sym (ap (after_dims ds) (dims_step (end - i) (end - (i + 1)) s (one_less end i h)))
    ∙ l.left

pub dims_broken : (i end : ℕ) (s : List ℕ) (ds : List WrittenDim) (total : Option (List WrittenDim × List ℕ)) → i < end
    → None ≡ dim_at s → DimsLeft i end s ds total → None ≡ total
dims_broken i end s ds total h k l =
    ap (λ o. after_dims ds (dims_after (dims_at (end - (i + 1))) o)) k
    ∙ sym (ap (after_dims ds) (dims_step (end - i) (end - (i + 1)) s (one_less end i h)))
    ∙ l.left

pub dims_out : (i end : ℕ) (s : List ℕ) (ds : List WrittenDim) (total : Option (List WrittenDim × List ℕ)) → end ≤ i → DimsLeft i end s ds total → None ≡ total
dims_out i end s ds total h l = sym (ap (after_dims ds) (dims_none (end - i) s (omega arith))) ∙ l.left

-- the arguments so far, before those that are read
abbrev pub after_args : List WrittenArg → Option (List WrittenArg) → Option (List WrittenArg)
after_args args None = None
after_args args (Some more) = Some (args ++ more)

args_step : (n m : ℕ) (s : List ℕ) → n ≡ suc m → args_at n s ≡ args_after (args_at m) (arg_at s)
unfolding args_at
args_step n m s e = ap (λ k. args_at k s) e

args_none : (n : ℕ) (s : List ℕ) → n ≡ 0 → args_at n s ≡ None
unfolding args_at
args_none n s e = ap (λ k. args_at k s) e

args_before : (args new : List WrittenArg) (a : WrittenArg) (o : Option (List WrittenArg)) → new ≡ args ++ a ∷ [] → after_args new o ≡ after_args args (before_args a o)
args_before args new a None e = refl
args_before args new a (Some x) e = ap (λ es. Some (es ++ x)) e ∙ ap Some (append_assoc args (a ∷ []) x)

pub record ArgsLeft (i end : ℕ) (s : List ℕ) (args : List WrittenArg) (total : Option (List WrittenArg)) : Type 0 where
  pub left : after_args args (args_at (end - i) s) ≡ total

-- what a turn of the loop takes: an argument, and the text after it
pub record Taken (i end : ℕ) (s t : List ℕ) (args new : List WrittenArg) (a : WrittenArg) (total : Option (List WrittenArg)) : Type 0 where
  pub inside : i < end
  pub arg : Some (a, t) ≡ arg_at s
  pub added : new ≡ args ++ a ∷ []
  pub before : ArgsLeft i end s args total

taken_is : (i end : ℕ) (s t : List ℕ) (args new : List WrittenArg) (a : WrittenArg) (total : Option (List WrittenArg)) → Taken i end s t args new a total
    → after_args args (args_by (args_at (end - (i + 1))) a t (sign_at 59 t)) ≡ total
taken_is i end s t args new a total k =
    ap (λ o. after_args args (args_after (args_at (end - (i + 1))) o)) k.arg
    ∙ sym (ap (after_args args) (args_step (end - i) (end - (i + 1)) s (one_less end i k.inside)))
    ∙ k.before.left

pub args_next : (i end : ℕ) (s t u : List ℕ) (args new : List WrittenArg) (a : WrittenArg) (total : Option (List WrittenArg)) → Taken i end s t args new a total
    → Some u ≡ sign_at 59 t → is_end u ≡ false → ArgsLeft (i + 1) end u new total
args_next i end s t u args new a total k g e = record {
  left = args_before args new a (args_at (end - (i + 1)) u) k.added
      ∙ sym (ap (λ b. after_args args (args_past (args_at (end - (i + 1))) a u b)) e)
      ∙ ap (λ o. after_args args (args_by (args_at (end - (i + 1))) a t o)) g
      ∙ taken_is i end s t args new a total k;
}

pub args_ended : (i end : ℕ) (s t u : List ℕ) (args new : List WrittenArg) (a : WrittenArg) (total : Option (List WrittenArg)) → Taken i end s t args new a total
    → Some u ≡ sign_at 59 t → is_end u ≡ true → Some new ≡ total
args_ended i end s t u args new a total k g e =
    ap Some k.added
    ∙ sym (ap (λ b. after_args args (args_past (args_at (end - (i + 1))) a u b)) e)
    ∙ ap (λ o. after_args args (args_by (args_at (end - (i + 1))) a t o)) g
    ∙ taken_is i end s t args new a total k

pub args_last : (i end : ℕ) (s t : List ℕ) (args new : List WrittenArg) (a : WrittenArg) (total : Option (List WrittenArg)) → Taken i end s t args new a total
    → None ≡ sign_at 59 t → is_end t ≡ true → Some new ≡ total
args_last i end s t args new a total k g e =
    ap Some k.added
    ∙ sym (ap (λ b. after_args args (only_arg a b)) e)
    ∙ ap (λ o. after_args args (args_by (args_at (end - (i + 1))) a t o)) g
    ∙ taken_is i end s t args new a total k

pub args_rest : (i end : ℕ) (s t : List ℕ) (args new : List WrittenArg) (a : WrittenArg) (total : Option (List WrittenArg)) → Taken i end s t args new a total
    → None ≡ sign_at 59 t → is_end t ≡ false → None ≡ total
args_rest i end s t args new a total k g e =
    sym (ap (λ b. after_args args (only_arg a b)) e)
    ∙ ap (λ o. after_args args (args_by (args_at (end - (i + 1))) a t o)) g
    ∙ taken_is i end s t args new a total k

pub args_broken : (i end : ℕ) (s : List ℕ) (args : List WrittenArg) (total : Option (List WrittenArg)) → i < end → None ≡ arg_at s → ArgsLeft i end s args total → None ≡ total
args_broken i end s args total h k l =
    ap (λ o. after_args args (args_after (args_at (end - (i + 1))) o)) k
    ∙ sym (ap (after_args args) (args_step (end - i) (end - (i + 1)) s (one_less end i h)))
    ∙ l.left

pub args_out : (i end : ℕ) (s : List ℕ) (args : List WrittenArg) (total : Option (List WrittenArg)) → end ≤ i → ArgsLeft i end s args total → None ≡ total
args_out i end s args total h l = sym (ap (after_args args) (args_none (end - i) s (omega arith))) ∙ l.left
