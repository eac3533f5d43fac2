-- Statements of a block, one after another.
use Rattle.std.proofs.Common.{◌≡◌, ℕ, ◌+◌, ◌<◌, ◌≤◌, List, [], ◌∷◌, ◌++◌, length, take, drop, get_or, Some, Ok, Err, refl, sym, ap, subst, ◌∙◌, arith, add-one, drop-cons, length-append}
use Rattle.std.specs.Prelude.{Result, Option, Bool, true, false, slice_set}
use Rattle.std.proofs.lemmas.List.{take-append-le, drop_all}
use Rattle.pdl_sig.specs.declared.Signature.{Signature}
use Rattle.pdl_code.specs.declared.fault.KernelFault.{KernelFault}
use Rattle.pdl_code.specs.declared.fault.KernelFault.TheVariants.{TooDeep, BadText, UnknownArgument, WriteToInput, UnknownDim, NestedSame, NoMemory}
use Rattle.pdl_code.specs.declared.lexeme.Span.{Span}
use Rattle.pdl_code.specs.declared.scope.Local.{Local}
use Rattle.pdl_code.specs.Join.{join_code}
use Rattle.pdl_code.specs.declared.names.Target.TheVariants.{New, Named}
use Rattle.pdl_code.specs.Tree.{RawTree, RawStep, RawCode, repeat, choose, keep, put, next, Tree, Step, Code, done}
use Rattle.pdl_code.specs.TreeOf.{code_of, step_of, RawStmt}
use Rattle.pdl_code.specs.Refused.{answer, loop_wrong, named_dim, or_zero, scope_after, when}
use Rattle.pdl_code.specs.Resolving.{◌>>=◌, Agrees, resolve_tree, resolve_step, resolve_code}
use Rattle.pdl_code.specs.Scope.{Scope, within}
use Rattle.pdl_code.proofs.JoinLemmas.{code_join_join, code_join_done}

abbrev pub and_code : Code → Result Code KernelFault → Result Code KernelFault
and_code c r = r >>= λ rest. Ok (join_code c rest)

joined : (c : Code) (a : Step) (r : Result Code KernelFault) → and_code (join_code c (next a done)) r ≡ and_code c (r >>= λ rest. Ok (next a rest))
joined c a (Ok rest) = ap Ok (code_join_join c (next a done) rest)
joined c a (Err e) = refl

-- no code is there yet
pub code_none : (r : Result Code KernelFault) → and_code done r ≡ r
code_none (Ok rest) = refl
code_none (Err e) = refl

pub cut : (xs : List RawStmt) (i : ℕ) (x : RawStmt) → i < length xs → x ≡ get_or xs i x → code_of (drop i xs) ≡ next (step_of x) (code_of (drop (i + 1) xs))
cut xs i x lt at =
    let c : drop i xs ≡ get_or xs i x ∷ drop (i + 1) xs = rw add-one (drop-cons xs i x lt) in
    ap code_of (c ∙ ap (λ y. y ∷ drop (i + 1) xs) (sym at))

abbrev pub visible : List Local → List Bool → Scope
visible ls loops = record { locals = ls; loops = loops }

-- the first ones stay
pub record Fronts (a : ℕ) (v now : List Local) : Type 0 where
  pub same : take a now ≡ take a v
  pub count : a ≤ length now

same_fronts : (a : ℕ) (v now : List Local) → a ≤ length v → now ≡ v → Fronts a v now
same_fronts a v now le e = record { same = ap (take a) e; count = subst (λ xs. a ≤ length xs) (sym e) le }

pub fronts : (a : ℕ) (v now : List Local) (loops : List Bool) (t : RawStep) → a ≤ length v → visible now loops ≡ scope_after (visible v loops) t → Fronts a v now
fronts a v now loops (keep (New ty w) op e) le is =
    let n : now ≡ v ++ record { word = w; ty = ty } ∷ [] = ap (λ (x : Scope). x.locals) is in
    record {
      same = ap (take a) n ∙ take-append-le a v (record { word = w; ty = ty } ∷ []) le;
      count = omega (arith, ap length n, length-append v (record { word = w; ty = ty } ∷ []));
    }
fronts a v now loops (repeat w body) le is = same_fronts a v now le (ap (λ (x : Scope). x.locals) is)
fronts a v now loops (choose e x y) le is = same_fronts a v now le (ap (λ (x : Scope). x.locals) is)
fronts a v now loops (keep (Named w) op e) le is = same_fronts a v now le (ap (λ (x : Scope). x.locals) is)
fronts a v now loops (put o is op e) le h = same_fronts a v now le (ap (λ (x : Scope). x.locals) h)

-- a refusal of a part is one of the whole, as `f` says
pub pass_on : {A B X Y : Type 0} (v : X → A) (view : Y → B) (r : KernelFault) (part : Result A KernelFault) (whole : Result B KernelFault)
    → ((x : KernelFault) → part ≡ Err x → whole ≡ Err x) → Agrees v (Err r) part → Agrees view (Err r) whole
pass_on v view NoMemory part whole f e = tt
pass_on v view TooDeep part whole f e = f TooDeep e
pass_on v view BadText part whole f e = f BadText e
pass_on v view (UnknownArgument x) part whole f e = f (UnknownArgument x) e
pass_on v view (WriteToInput x) part whole f e = f (WriteToInput x) e
pass_on v view (UnknownDim x) part whole f e = f (UnknownDim x) e
pass_on v view (NestedSame x) part whole f e = f (NestedSame x) e

module _ (source : List ℕ) (s : Signature) where
  -- one statement more
  pub code_turn : (c now : Scope) (xs : List RawStmt) (i : ℕ) (x : RawStmt) (code more : Code) (a : Step) → i < length xs → x ≡ get_or xs i x → now ≡ scope_after c (step_of x) → resolve_step source s c (step_of x) ≡ Ok a
      → more ≡ join_code code (next a done)
      → and_code more (resolve_code source s now (code_of (drop (i + 1) xs))) ≡ and_code code (resolve_code source s c (code_of (drop i xs)))
  code_turn c now xs i x code more a lt at after step is =
      let R : Scope → Result Code KernelFault = λ z. resolve_code source s z (code_of (drop (i + 1) xs)) in
      let one : resolve_code source s c (code_of (drop i xs)) ≡ (R (scope_after c (step_of x)) >>= λ rest. Ok (next a rest)) =
      ap (resolve_code source s c) (cut xs i x lt at) ∙ ap (λ r. r >>= λ a. R (scope_after c (step_of x)) >>= λ rest. Ok (next a rest)) step in
      ap (λ m. and_code m (R now)) is ∙ ap (λ z. and_code (join_code code (next a done)) (R z)) after ∙ joined code a (R (scope_after c (step_of x))) ∙ sym (ap (and_code code) one)

  pub code_fault : (c : Scope) (xs : List RawStmt) (i : ℕ) (x : RawStmt) (code : Code) (all : Result Code KernelFault) (f : KernelFault) → i < length xs → x ≡ get_or xs i x → and_code code (resolve_code source s c (code_of (drop i xs))) ≡ all
      → resolve_step source s c (step_of x) ≡ Err f → all ≡ Err f
  code_fault c xs i x code all f lt at e step =
      sym e ∙ ap (and_code code) (ap (resolve_code source s c) (cut xs i x lt at) ∙ ap (λ r. r >>= λ a. resolve_code source s (scope_after c (step_of x)) (code_of (drop (i + 1) xs)) >>= λ rest. Ok (next a rest)) step)

  pub code_end : (c : Scope) (xs : List RawStmt) (i : ℕ) (code : Code) (all : Result Code KernelFault) → length xs ≤ i → and_code code (resolve_code source s c (code_of (drop i xs))) ≡ all → all ≡ Ok code
  code_end c xs i code all le e = sym e ∙ ap (λ ys. and_code code (resolve_code source s c (code_of ys))) (drop_all i xs le) ∙ ap Ok (code_join_done code)

  loop_is : (v : List Local) (loops : List Bool) (t : RawStep) (w : Span) (body : RawCode) (d : ℕ) → t ≡ repeat w body → named_dim source s w ≡ Some d → get_or loops d false ≡ false
      → resolve_step source s (visible v loops) t ≡ (resolve_code source s (visible v (slice_set loops d true)) body >>= λ c. Ok (repeat d c))
  loop_is v loops t w body d e placed closed =
      let P : Option ℕ → Result Step KernelFault = λ p. answer (loop_wrong loops w p) (or_zero p) >>= λ d. resolve_code source s (within (visible v loops) (or_zero p)) body >>= λ c. Ok (repeat d c) in
      let Q : Bool → Result Step KernelFault = λ b. answer (when b (NestedSame w.from)) d >>= λ d'. resolve_code source s (visible v (slice_set loops d true)) body >>= λ c. Ok (repeat d' c) in
      ap (resolve_step source s (visible v loops)) e ∙ ap P placed ∙ ap Q closed

  pub loop_ok : (v : List Local) (loops inner : List Bool) (t : RawStep) (w : Span) (body : RawCode) (d : ℕ) (c : Code) (a : Step) → t ≡ repeat w body → named_dim source s w ≡ Some d → get_or loops d false ≡ false → inner ≡ slice_set loops d true
      → resolve_code source s (visible v inner) body ≡ Ok c → a ≡ repeat d c → resolve_step source s (visible v loops) t ≡ Ok a
  loop_ok v loops inner t w body d c a e placed flag is ok made =
      loop_is v loops t w body d e placed flag ∙ ap (λ ls. resolve_code source s (visible v ls) body >>= λ c. Ok (repeat d c)) (sym is) ∙ ap (λ r. r >>= λ c. Ok (repeat d c)) ok ∙ ap Ok (sym made)

  pub loop_err : (v : List Local) (loops inner : List Bool) (t : RawStep) (w : Span) (body : RawCode) (d : ℕ) → t ≡ repeat w body → named_dim source s w ≡ Some d → get_or loops d false ≡ false → inner ≡ slice_set loops d true
      → (x : KernelFault) → resolve_code source s (visible v inner) body ≡ Err x → resolve_step source s (visible v loops) t ≡ Err x
  loop_err v loops inner t w body d e placed flag is x err =
      loop_is v loops t w body d e placed flag ∙ ap (λ ls. resolve_code source s (visible v ls) body >>= λ c. Ok (repeat d c)) (sym is) ∙ ap (λ r. r >>= λ c. Ok (repeat d c)) err

  choice_is : (c : Scope) (t : RawStep) (e : RawTree) (a b : RawCode) (x : Tree) → t ≡ choose e a b → resolve_tree source s c e ≡ Ok x
      → resolve_step source s c t ≡ (resolve_code source s c a >>= λ p. resolve_code source s c b >>= λ q. Ok (choose x p q))
  choice_is c t e a b x is found =
      ap (resolve_step source s c) is ∙ ap (λ r. r >>= λ x. resolve_code source s c a >>= λ p. resolve_code source s c b >>= λ q. Ok (choose x p q)) found

  pub choice_ok : (v w : List Local) (loops : List Bool) (t : RawStep) (e : RawTree) (a b : RawCode) (x : Tree) (p q : Code) (r : Step) → t ≡ choose e a b → resolve_tree source s (visible v loops) e ≡ Ok x
      → resolve_code source s (visible v loops) a ≡ Ok p → w ≡ v → resolve_code source s (visible w loops) b ≡ Ok q → r ≡ choose x p q → resolve_step source s (visible v loops) t ≡ Ok r
  choice_ok v w loops t e a b x p q r is found first same second made =
      choice_is (visible v loops) t e a b x is found ∙ ap (λ y. y >>= λ p. resolve_code source s (visible v loops) b >>= λ q. Ok (choose x p q)) first
      ∙ ap (λ y. y >>= λ q. Ok (choose x p q)) (ap (λ ls. resolve_code source s (visible ls loops) b) (sym same) ∙ second) ∙ ap Ok (sym made)

  pub choice_err_first : (v : List Local) (loops : List Bool) (t : RawStep) (e : RawTree) (a b : RawCode) (x : Tree) → t ≡ choose e a b → resolve_tree source s (visible v loops) e ≡ Ok x
      → (y : KernelFault) → resolve_code source s (visible v loops) a ≡ Err y → resolve_step source s (visible v loops) t ≡ Err y
  choice_err_first v loops t e a b x is found y first =
      choice_is (visible v loops) t e a b x is found ∙ ap (λ y. y >>= λ p. resolve_code source s (visible v loops) b >>= λ q. Ok (choose x p q)) first

  pub choice_err_second : (v w : List Local) (loops : List Bool) (t : RawStep) (e : RawTree) (a b : RawCode) (x : Tree) (p : Code) → t ≡ choose e a b → resolve_tree source s (visible v loops) e ≡ Ok x
      → resolve_code source s (visible v loops) a ≡ Ok p → w ≡ v → (y : KernelFault) → resolve_code source s (visible w loops) b ≡ Err y → resolve_step source s (visible v loops) t ≡ Err y
  choice_err_second v w loops t e a b x p is found first same y second =
      choice_is (visible v loops) t e a b x is found ∙ ap (λ y. y >>= λ p. resolve_code source s (visible v loops) b >>= λ q. Ok (choose x p q)) first
      ∙ ap (λ y. y >>= λ q. Ok (choose x p q)) (ap (λ ls. resolve_code source s (visible ls loops) b) (sym same) ∙ second)
