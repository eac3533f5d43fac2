-- One index, or one part of an expression, more.
use Rattle.std.proofs.Common.{◌≡◌, ℕ, ◌+◌, ◌<◌, ◌≤◌, List, ◌∷◌, length, drop, get_or, Some, None, Ok, Err, refl, sym, ap, ◌∙◌, add-one, drop-cons}
use Rattle.std.specs.Prelude.{Result, Option, Bool, true, false, if◌then◌else◌, slice_set}
use Rattle.std.proofs.lemmas.List.{drop_all}
use Rattle.pdl_elem.specs.declared.BinaryOp.{BinaryOp}
use Rattle.pdl_elem.specs.declared.UnaryOp.{UnaryOp}
use Rattle.pdl_sig.specs.declared.Signature.{Signature}
use Rattle.pdl_code.specs.declared.fault.KernelFault.{KernelFault}
use Rattle.pdl_code.specs.declared.fault.KernelFault.TheVariants.{TooDeep, BadText, UnknownArgument, WriteToInput, UnknownDim, NestedSame, NoMemory}
use Rattle.pdl_code.specs.declared.lexeme.Span.{Span}
use Rattle.pdl_code.specs.declared.tree.Entry.{Given, Looped}
use Rattle.pdl_code.specs.Fit.{argument_of}
use Rattle.pdl_code.specs.Join.{join, one_loop}
use Rattle.pdl_code.specs.declared.names.Variable.TheVariants.{Index}
use Rattle.pdl_code.specs.Tree.{RawTree, RawIndices, access, along, unary, binary, Tree, Indices, named, none, called}
use Rattle.pdl_code.specs.TreeOf.{RawEntry, dimension_of, entry_of, index_of, indices_of}
use Rattle.pdl_code.specs.Refused.{answer, argument_at, axis_wrong, lacks, looped, mark, named_argument, or_zero, when}
use Rattle.pdl_code.specs.Resolving.{◌>>=◌, Agrees, known, resolve_tree, resolve_indices}
use Rattle.pdl_code.specs.Scope.{Scope, axis_of, bytes_of, no_flags}
use Rattle.pdl_code.proofs.JoinLemmas.{join_join, join_none}

loop_next : (ds : List ℕ) (k d : ℕ) (given : List Bool) → looped (d ∷ ds) k given ≡ join (one_loop given k d) (looped ds (k + 1) given)
loop_next ds k d given = by (get_or given k false)
  where
    by : (b : Bool) → (if b then looped ds (k + 1) given else along k (named (Index d)) (looped ds (k + 1) given)) ≡ join (if b then none else along k (named (Index d)) none) (looped ds (k + 1) given)
    by true = refl
    by false = refl

abbrev pub okay : {A : Type 0} → A → Result A KernelFault
okay x = Ok x

pub same_ok : {A : Type 0} (a b : A) → okay a ≡ okay b → b ≡ a
same_ok a b e = cc

pub marked_loop : (f : Indices) (given : List Bool) (k d : ℕ) → get_or given k false ≡ true → join f (one_loop given k d) ≡ f
marked_loop f given k d e = ap (λ (b : Bool). join f (if b then none else along k (named (Index d)) none)) e ∙ join_none f

pub loops_turn : (found more : Indices) (ds : List ℕ) (k d : ℕ) (given : List Bool) → k < length ds → more ≡ join found (one_loop given k (get_or ds k d))
    → join more (looped (drop (k + 1) ds) (k + 1) given) ≡ join found (looped (drop k ds) k given)
loops_turn found more ds k d given lt e =
    let cut : drop k ds ≡ get_or ds k d ∷ drop (k + 1) ds = rw add-one (drop-cons ds k d lt) in
    ap (λ m. join m (looped (drop (k + 1) ds) (k + 1) given)) e ∙ join_join found _ _
    ∙ sym (ap (λ xs. join found (looped xs k given)) cut ∙ ap (join found) (loop_next (drop (k + 1) ds) k (get_or ds k d) given))

pub loops_end : (found : Indices) (ds : List ℕ) (k : ℕ) (given : List Bool) → length ds ≤ k → join found (looped (drop k ds) k given) ≡ found
loops_end found ds k given le = ap (λ xs. join found (looped xs k given)) (drop_all k ds le) ∙ join_none found

joined : (f : Indices) (k : ℕ) (a : Tree) (r : Result Indices KernelFault) → (r >>= λ rest. Ok (join (join f (along k a none)) rest)) ≡ ((r >>= λ found. Ok (along k a found)) >>= λ rest. Ok (join f rest))
joined f k a (Ok rest) = ap Ok (join_join f (along k a none) rest)
joined f k a (Err e) = refl

abbrev pub and_join : Indices → Result Indices KernelFault → Result Indices KernelFault
and_join f r = r >>= λ rest. Ok (join f rest)

module _ (source : List ℕ) (s : Signature) where
  -- an index that is found
  pub index_turn : (c : Scope) (ds : List ℕ) (flags : List Bool) (at : ℕ) (w : Span) (e : RawTree) (rest : RawIndices) (f more : Indices) (k : ℕ) (a : Tree)
      → axis_of s ds (bytes_of source w) ≡ Some k → answer (axis_wrong w flags (axis_of s ds (bytes_of source w))) (or_zero (axis_of s ds (bytes_of source w))) ≡ Ok k
      → resolve_tree source s c e ≡ Ok a → more ≡ join f (along k a none)
      → and_join more (resolve_indices source s c ds (slice_set flags k true) at rest) ≡ and_join f (resolve_indices source s c ds flags at (along w e rest))
  index_turn c ds flags at w e rest f more k a placed fine tree is =
      let R : List Bool → Result Indices KernelFault = λ fl. resolve_indices source s c ds fl at rest in
      let one : resolve_indices source s c ds flags at (along w e rest) ≡ (R (mark flags (axis_of s ds (bytes_of source w))) >>= λ found. Ok (along k a found)) =
      ap (λ r. r >>= λ k. resolve_tree source s c e >>= λ a. R (mark flags (axis_of s ds (bytes_of source w))) >>= λ found. Ok (along k a found)) fine
      ∙ ap (λ r. r >>= λ a. R (mark flags (axis_of s ds (bytes_of source w))) >>= λ found. Ok (along k a found)) tree in
      let two : mark flags (axis_of s ds (bytes_of source w)) ≡ slice_set flags k true = ap (mark flags) placed in
      ap (λ m. and_join m (R (slice_set flags k true))) is ∙ joined f k a (R (slice_set flags k true))
      ∙ sym (ap (and_join f) (one ∙ ap (λ fl. R fl >>= λ found. Ok (along k a found)) two))

  access_is : (c : Scope) (t : RawTree) (w : Span) (is : RawIndices) (at number : ℕ) (ds : List ℕ) → t ≡ access (called w at) is → named_argument source s w ≡ Some number → ds ≡ (argument_of s number).dims
      → resolve_tree source s c t ≡ (resolve_indices source s c ds no_flags at is >>= λ found. Ok (access number found))
  access_is c t w is at number ds e placed dims =
      let P : Option ℕ → Result Tree KernelFault = λ p. known w p (resolve_indices source s c (argument_at s p).dims no_flags at is >>= λ found. Ok (access (or_zero p) found)) in
      ap (resolve_tree source s c) e ∙ ap P placed ∙ ap (λ xs. resolve_indices source s c xs no_flags at is >>= λ found. Ok (access number found)) (sym dims)

  pub access_ok : (c : Scope) (t : RawTree) (w : Span) (is : RawIndices) (at number : ℕ) (ds : List ℕ) (found : Indices) → t ≡ access (called w at) is → named_argument source s w ≡ Some number → ds ≡ (argument_of s number).dims
      → resolve_indices source s c ds no_flags at is ≡ Ok found → resolve_tree source s c t ≡ Ok (access number found)
  access_ok c t w is at number ds found e placed dims ok = access_is c t w is at number ds e placed dims ∙ ap (λ r. r >>= λ found. Ok (access number found)) ok

  pub access_err : {X Y : Type 0} (v : X → Indices) (view : Y → Tree) (r : KernelFault) (c : Scope) (t : RawTree) (w : Span) (is : RawIndices) (at number : ℕ) (ds : List ℕ) → t ≡ access (called w at) is → named_argument source s w ≡ Some number → ds ≡ (argument_of s number).dims
      → Agrees v (Err r) (resolve_indices source s c ds no_flags at is) → Agrees view (Err r) (resolve_tree source s c t)
  access_err v view NoMemory c t w is at number ds e placed dims err = tt
  access_err v view TooDeep c t w is at number ds e placed dims err = access_is c t w is at number ds e placed dims ∙ ap (λ r. r >>= λ found. Ok (access number found)) err
  access_err v view BadText c t w is at number ds e placed dims err = access_is c t w is at number ds e placed dims ∙ ap (λ r. r >>= λ found. Ok (access number found)) err
  access_err v view (UnknownArgument x) c t w is at number ds e placed dims err = access_is c t w is at number ds e placed dims ∙ ap (λ r. r >>= λ found. Ok (access number found)) err
  access_err v view (WriteToInput x) c t w is at number ds e placed dims err = access_is c t w is at number ds e placed dims ∙ ap (λ r. r >>= λ found. Ok (access number found)) err
  access_err v view (UnknownDim x) c t w is at number ds e placed dims err = access_is c t w is at number ds e placed dims ∙ ap (λ r. r >>= λ found. Ok (access number found)) err
  access_err v view (NestedSame x) c t w is at number ds e placed dims err = access_is c t w is at number ds e placed dims ∙ ap (λ r. r >>= λ found. Ok (access number found)) err

  -- the same flags and the same indices
  pub turned_to : (c : Scope) (ds : List ℕ) (at : ℕ) (rest : RawIndices) (flags flags' : List Bool) (more more' : Indices) (x : Result Indices KernelFault) → flags' ≡ flags → more' ≡ more
      → and_join more (resolve_indices source s c ds flags at rest) ≡ x → and_join more' (resolve_indices source s c ds flags' at rest) ≡ x
  turned_to c ds at rest flags flags' more more' x e h turn = ap (λ m. and_join m (resolve_indices source s c ds flags' at rest)) h ∙ ap (λ fl. and_join more (resolve_indices source s c ds fl at rest)) e ∙ turn

entry_is : (g : RawEntry) (rest : RawIndices) → entry_of g rest ≡ along (dimension_of g) (index_of g) rest
entry_is (Given w e) rest = refl
entry_is (Looped w v) rest = refl

pub entry_next : (gs : List RawEntry) (i : ℕ) (g : RawEntry) (w : Span) → i < length gs → g ≡ get_or gs i g → w ≡ dimension_of g → indices_of (drop i gs) ≡ along w (index_of g) (indices_of (drop (i + 1) gs))
entry_next gs i g w lt at is =
    let cut : drop i gs ≡ get_or gs i g ∷ drop (i + 1) gs = rw add-one (drop-cons gs i g lt) in
    ap indices_of (cut ∙ ap (λ x. x ∷ drop (i + 1) gs) (sym at)) ∙ entry_is g _ ∙ ap (λ v. along v (index_of g) (indices_of (drop (i + 1) gs))) (sym is)

-- nothing is found yet
pub found_none : (r : Result Indices KernelFault) → and_join none r ≡ r
found_none (Ok rest) = refl
found_none (Err e) = refl

module _ (source : List ℕ) (s : Signature) where
  -- ---- a part of an expression, or its refusal, is one of the whole

  unary_is : (c : Scope) (t : RawTree) (op : UnaryOp) (e : RawTree) → t ≡ unary op e → resolve_tree source s c t ≡ (resolve_tree source s c e >>= λ a. Ok (unary op a))
  unary_is c t op e is = ap (resolve_tree source s c) is

  pub unary_ok : (c : Scope) (t : RawTree) (op : UnaryOp) (e : RawTree) (a : Tree) → t ≡ unary op e → resolve_tree source s c e ≡ Ok a → resolve_tree source s c t ≡ Ok (unary op a)
  unary_ok c t op e a is ok = unary_is c t op e is ∙ ap (λ r. r >>= λ a. Ok (unary op a)) ok

  pub unary_err : (c : Scope) (t : RawTree) (op : UnaryOp) (e : RawTree) → t ≡ unary op e → (x : KernelFault) → resolve_tree source s c e ≡ Err x → resolve_tree source s c t ≡ Err x
  unary_err c t op e is x err = unary_is c t op e is ∙ ap (λ r. r >>= λ a. Ok (unary op a)) err

  binary_is : (c : Scope) (t : RawTree) (op : BinaryOp) (l r : RawTree) → t ≡ binary op l r → resolve_tree source s c t ≡ (resolve_tree source s c l >>= λ a. resolve_tree source s c r >>= λ b. Ok (binary op a b))
  binary_is c t op l r is = ap (resolve_tree source s c) is

  pub binary_ok : (c : Scope) (t : RawTree) (op : BinaryOp) (l r : RawTree) (a b : Tree) → t ≡ binary op l r → resolve_tree source s c l ≡ Ok a → resolve_tree source s c r ≡ Ok b → resolve_tree source s c t ≡ Ok (binary op a b)
  binary_ok c t op l r a b is left right =
      binary_is c t op l r is ∙ ap (λ x. x >>= λ a. resolve_tree source s c r >>= λ b. Ok (binary op a b)) left
      ∙ ap (λ x. x >>= λ b. Ok (binary op a b)) right

  pub binary_err_left : (c : Scope) (t : RawTree) (op : BinaryOp) (l r : RawTree) → t ≡ binary op l r → (x : KernelFault) → resolve_tree source s c l ≡ Err x → resolve_tree source s c t ≡ Err x
  binary_err_left c t op l r is x err = binary_is c t op l r is ∙ ap (λ y. y >>= λ a. resolve_tree source s c r >>= λ b. Ok (binary op a b)) err

  pub binary_err_right : (c : Scope) (t : RawTree) (op : BinaryOp) (l r : RawTree) (a : Tree) → t ≡ binary op l r → resolve_tree source s c l ≡ Ok a → (x : KernelFault) → resolve_tree source s c r ≡ Err x → resolve_tree source s c t ≡ Err x
  binary_err_right c t op l r a is left x err =
      binary_is c t op l r is ∙ ap (λ y. y >>= λ a. resolve_tree source s c r >>= λ b. Ok (binary op a b)) left
      ∙ ap (λ y. y >>= λ b. Ok (binary op a b)) err

  pub access_unknown : (c : Scope) (t : RawTree) (w : Span) (is : RawIndices) (at : ℕ) → t ≡ access (called w at) is → named_argument source s w ≡ None → resolve_tree source s c t ≡ Err (UnknownArgument w.from)
  access_unknown c t w is at e lost =
      let P : Option ℕ → Result Tree KernelFault = λ p. known w p (resolve_indices source s c (argument_at s p).dims no_flags at is >>= λ found. Ok (access (or_zero p) found)) in
      ap (resolve_tree source s c) e ∙ ap P lost

  -- ---- the indices of an access, of which some are found

  pub index_refused : (c : Scope) (ds : List ℕ) (flags : List Bool) (at : ℕ) (here rest : RawIndices) (w : Span) (e : RawTree) (f : Indices) (all : Result Indices KernelFault) → here ≡ along w e rest
      → and_join f (resolve_indices source s c ds flags at here) ≡ all → (x : KernelFault) → answer (axis_wrong w flags (axis_of s ds (bytes_of source w))) (or_zero (axis_of s ds (bytes_of source w))) ≡ Err x → all ≡ Err x
  index_refused c ds flags at here rest w e f all is same x err =
      sym same ∙ ap (λ js. and_join f (resolve_indices source s c ds flags at js)) is
      ∙ ap (λ r. and_join f (r >>= λ k. resolve_tree source s c e >>= λ a. resolve_indices source s c ds (mark flags (axis_of s ds (bytes_of source w))) at rest >>= λ found. Ok (along k a found))) err

  pub index_tree_refused : (c : Scope) (ds : List ℕ) (flags : List Bool) (at : ℕ) (here rest : RawIndices) (w : Span) (e : RawTree) (k : ℕ) (f : Indices) (all : Result Indices KernelFault) → here ≡ along w e rest
      → and_join f (resolve_indices source s c ds flags at here) ≡ all → answer (axis_wrong w flags (axis_of s ds (bytes_of source w))) (or_zero (axis_of s ds (bytes_of source w))) ≡ Ok k
      → (x : KernelFault) → resolve_tree source s c e ≡ Err x → all ≡ Err x
  index_tree_refused c ds flags at here rest w e k f all is same fine x err =
      let R : Result Indices KernelFault = resolve_indices source s c ds (mark flags (axis_of s ds (bytes_of source w))) at rest in
      sym same ∙ ap (λ js. and_join f (resolve_indices source s c ds flags at js)) is
      ∙ ap (λ r. and_join f (r >>= λ k. resolve_tree source s c e >>= λ a. R >>= λ found. Ok (along k a found))) fine
      ∙ ap (λ r. and_join f (r >>= λ a. R >>= λ found. Ok (along k a found))) err

  -- all that are given are found
  pub indices_end : (c : Scope) (ds : List ℕ) (flags : List Bool) (at : ℕ) (gs : List RawEntry) (i : ℕ) (f : Indices) (all : Result Indices KernelFault) (b : Bool) → length gs ≤ i
      → and_join f (resolve_indices source s c ds flags at (indices_of (drop i gs))) ≡ all → b ≡ lacks c.loops ds 0 flags → all ≡ and_join f (answer (when b (UnknownDim at)) (looped ds 0 flags))
  indices_end c ds flags at gs i f all b le same is =
      sym same ∙ ap (λ xs. and_join f (resolve_indices source s c ds flags at (indices_of xs))) (drop_all i gs le)
      ∙ ap (λ b. and_join f (answer (when b (UnknownDim at)) (looped ds 0 flags))) (sym is)
