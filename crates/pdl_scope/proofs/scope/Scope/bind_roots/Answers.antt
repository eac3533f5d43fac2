use Rattle.std.proofs.Common.{rules, ◌≡◌, ◌<◌, ◌≤◌, ◌+◌, ◌^◌, ℕ, [], ◌∷◌, ◌++◌, List, length, map, take, drop, get_or, Err, sym, subst, ap, refl, ◌∙◌, arith}
use Rattle.std.proofs.lemmas.List.{drop_more, get_or-take, length-take-le}
use Rattle.pdl_machine.specs.Names.{Named, names_limit}
use Rattle.pdl_machine.specs.Arrays.{Arrays}
use Rattle.pdl_machine.specs.State.{State, AreLive}
use Rattle.pdl_machine.specs.declared.fault.Fault.TheVariants.{TooManyNames}
use Rattle.pdl_machine.specs.Step.{Stepped, roots_bound}
use Rattle.pdl_scope.specs.Growth.{grows_refl, grows_trans}
use Rattle.pdl_scope.specs.Room.{with_names, new_among}
use Rattle.pdl_scope.specs.Answers.{Prints}
use Rattle.pdl_scope.specs.Scope.{arrays_of, machine, names_in, Grows, Scope as Seen}
use Rattle.pdl_scope.proofs.CostNewest.{made_first, made_more}
use Rattle.pdl_scope.specs.Costs.{MovesUpTo, arrays_after}
use Rattle.pdl_scope.proofs.CostsBound.{roots_within}
use Rattle.pdl_scope.proofs.ScopeCuts.{held_same}
use Rattle.pdl_scope.proofs.ScopeGrowing.{live_too}
use Rattle.pdl_scope.proofs.HoldingLemmas.{held_defined}
use Rattle.pdl_scope.proofs.RoomRoots.{IsNext, left, fits_all, some_too_many, none_fit, named_too, named_next, named_is, one_longer, roots_more, roots_done, room_left, never_refused}
use Rattle.pdl_scope.proofs.scope.Scope.bind_roots.Goals as goal

-- the first of the names that are left
rest_is : (xs : List (List ℕ)) (n i : ℕ) (x : List ℕ) → i < n → n ≤ length xs → x ≡ get_or xs i x → drop i (take n xs) ≡ x ∷ drop (i + 1) (take n xs)
rest_is xs n i x lt within here =
    let l : length (take n xs) ≡ n = length-take-le n xs within in
    drop_more (take n xs) i x (omega (arith, l)) ∙ ap (λ y. y ∷ drop (i + 1) (take n xs)) (get_or-take n xs i x lt ∙ sym here)

-- the names that are there, as the state has them
abbrev names_of : Seen → Named ℕ
names_of s = s.names.arrays

pub loop-i-init : goal.loop-i-init
loop-i-init g c =
    let s = c.args.self.now in
    let bound = take c.min-count.result c.args.bound.now in
    let none = sym c.in_ok-made.ensures.items in
    let R : Named ℕ → Type 0 = λ names. length names + new_among names bound ≤ names_limit in
    let M : Named ℕ → Type 0 = λ more. R (with_names (names_of s) more) in
    let L : Named ℕ → Type 0 = λ more. AreLive s.arrays.world (map (λ n. n.1) more) in
    record {
      so_far = ap (λ more. left (named_too (machine s) more) c.args.bound.now c.args.outputs.now 0) none;
      room = subst M none (subst R (ap names_of c.self.view_is) (fits_all c.self.inside.names.entries bound c.has_room.result c.has_room.ensures c.if-not-has_room.false));
      grown = grows_refl s;
      live = subst L none tt;
      many = ap length (sym none);
      fits = subst R (ap names_of c.self.view_is) (fits_all c.self.inside.names.entries bound c.has_room.result c.has_room.ensures c.if-not-has_room.false);
      counted = omega arith;
    }

pub loop-i-preserved : goal.loop-i-preserved
loop-i-preserved g c =
    let s = c.loop-i.self in
    let mid = c.make_like.new.self in
    let more = c.loop-i.made.items in
    let xs = c.args.bound.now in
    let i = c.loop-i.i in
    let x = c.index-bound-i.result in
    let m = c.index-outputs-i.result in
    let id = c.in_ok-id.id in
    let last : Named ℕ = more ++ (x, id) ∷ [] in
    let items : last ≡ c.push.new.self.items = sym (c.in_ok-push.ensures.items ∙ ap (λ (n : List ℕ). more ++ (n, id) ∷ []) c.in_ok-name.ensures.cases) in
    let rest : List (List ℕ) = drop (i + 1) (take c.min-count.result xs) in
    let now = named_too (machine s) more in
    let R : List (List ℕ) → Type 0 = λ ys. length now.names.arrays + new_among now.names.arrays ys ≤ names_limit in
    let room : R (x ∷ rest) = subst R (rest_is xs c.min-count.result i x (omega arith) (omega arith) c.index-bound-i.is) c.loop-i.invariant.room in
    let next : IsNext now (named_too (machine mid) more) x m id = named_next (machine s) (machine mid) more x m id rest c.in_ok-id.ensures.value.0 c.make_like.ensures.grown.names c.make_like.ensures.grown.watches c.make_like.ensures.grown.flows room in
    let is = named_is (machine mid) more x id in
    let M : Named ℕ → Type 0 = λ all. let names = with_names (names_of mid) all in length names + new_among names rest ≤ names_limit in
    let L : Named ℕ → Type 0 = λ all. AreLive mid.arrays.world (map (λ n. n.1) all) in
    record {
      so_far = roots_more (machine c.args.self.now) now (named_too (machine mid) more) (named_too (machine mid) last) xs c.args.outputs.now i x m id (omega arith) (omega arith) c.index-bound-i.is c.index-outputs-i.is c.loop-i.invariant.so_far next is
          ∙ ap (λ all. left (named_too (machine mid) all) xs c.args.outputs.now (i + 1)) items;
      room = subst M items (room_left now (named_too (machine mid) more) (named_too (machine mid) last) x rest id next.named is room);
      grown = grows_trans c.args.self.now s mid c.loop-i.invariant.grown c.make_like.ensures.grown;
      live = subst L items (live_too s mid more x id c.make_like.ensures.grown c.loop-i.invariant.live c.in_ok-id.ensures.value.1);
      fits = c.loop-i.invariant.fits;
      counted = made_more c.args.outputs.now i c.args.steps.now c.loop-i.steps c.make_like.new.steps m (omega arith) c.index-outputs-i.is c.loop-i.invariant.counted c.make_like.ensures.counted;
      many = ap length (sym items) ∙ one_longer more (x, id) ∙ ap (λ n. n + 1) c.loop-i.invariant.many;
    }

pub returns-then-not-has_room-clause-runs : goal.returns-then-not-has_room-clause-runs
returns-then-not-has_room-clause-runs g c =
    let s = c.args.self.now in
    let xs = c.args.bound.now in
    let bound = take c.min-count.result xs in
    let e : c.self.inside.names.entries ≡ names_of s = ap names_of c.self.view_is in
    let M : Named ℕ → Type 0 = λ names. names_limit < length names + new_among names bound in
    let F : Named ℕ → Type 0 = λ names. length names ≤ names_limit in
    let many = some_too_many c.self.inside.names.entries bound c.has_room.result c.has_room.ensures c.if-not-has_room.true in (
      none_fit (machine s) xs c.args.outputs.now c.min-count.result (omega (arith, c.min-count.ensures)) (subst F e c.self.invariant.few) (subst M e many),
      record { grown = grows_refl s; printed = refl },
    )

pub returns-in_err-id-clause-runs : goal.returns-in_err-id-clause-runs
returns-in_err-id-clause-runs g c =
    let s = c.args.self.now in
    never_refused _ (roots_bound (machine s) c.args.bound.now c.args.outputs.now) s c.make_like.new.self c.from_residual-in_err-id.result c.in_err-id.field-0.0 c.from_residual-in_err-id.ensures.1 c.in_err-id.ensures.value
    (grows_trans s c.loop-i.self c.make_like.new.self c.loop-i.invariant.grown c.make_like.ensures.grown)

pub returns-in_err-push-clause-runs : goal.returns-in_err-push-clause-runs
returns-in_err-push-clause-runs g c =
    let grown : Grows c.args.self.now c.make_like.new.self = grows_trans c.args.self.now c.loop-i.self c.make_like.new.self c.loop-i.invariant.grown c.make_like.ensures.grown in
    search rules

pub bind_all-requires-clause-small : goal.bind_all-requires-clause-small
bind_all-requires-clause-small g c =
    let leaving : length c.self-2.inside.leaving.items < 2 ^ 61 = omega (arith, c.self-2.inside.leaving.ok, c.self-2.inside.leaving.small) in
    let made : length c.loop-i.made.items < 2 ^ 61 = omega (arith, c.loop-i.made.ok, c.loop-i.made.small) in
    let items : length c.reserve-2.new.self.items ≡ length c.self-2.inside.leaving.items = ap length c.reserve-2.ensures.items in
    omega (arith, leaving, made, items)

pub returns-clause-runs : goal.returns-clause-runs
returns-clause-runs g c =
    let xs = c.args.bound.now in
    let ms = c.args.outputs.now in
    let more = c.loop-i.made.items in
    let old = c.self-2.inside.names.entries in
    let P : Stepped → Type 0 = λ r. Prints r (named_too (machine c.loop-i.self) more) [] [] in
    let end : c.loop-i.i < length xs → length ms ≤ c.loop-i.i = λ within. omega (arith, c.min-count.ensures) in
    let named : Named ℕ → Arrays → State = λ ns a. record { names = names_in ns c.self-2.inside.kernels; arrays = a; watches = c.self-2.inside.watches.items; flows = c.self-2.inside.flows.items } in
    let is : named c.bind_all.new.names.entries (arrays_of c.bind_all.new.engine) ≡ named_too (machine c.loop-i.self) more =
    ap (λ ns. named ns (arrays_of c.bind_all.new.engine)) (c.bind_all.ensures.names ∙ ap (λ ns. with_names ns more) c.reserve.ensures.names) ∙ ap (named (with_names old more)) (ap arrays_of c.bind_all.ensures.same)
    ∙ ap (λ (z : Seen). named_too (machine z) more) c.self-2.view_is in
    let Q : State → Type 0 = λ z. Prints (roots_bound (machine c.args.self.now) xs ms) z [] [] in
    subst Q (sym is) (subst P (sym (c.loop-i.invariant.so_far ∙ roots_done (named_too (machine c.loop-i.self) more) xs ms c.loop-i.i end)) (refl, refl))

pub invariant_of-self-2 : goal.invariant_of-self-2
invariant_of-self-2 g c =
    let ks = c.self-2.inside.kernels in
    let ws = c.self-2.inside.watches.items in
    let fs = c.self-2.inside.flows.items in
    let e = c.self-2.inside.engine in
    let names = c.reserve.new.self.entries in
    let leaving = c.reserve-2.new.self.items in
    let held = held_same c.self-2.inside.names.entries names ks ws fs e c.self-2.inside.leaving.items leaving c.reserve.ensures.names c.reserve-2.ensures.items c.self-2.invariant in
    held_defined c.bind_all.new.names.entries [] ks ws fs c.bind_all.new.engine c.bind_all.new.leaving.items (c.bind_all.ensures.held ws fs (held_defined names ks [] ws fs e leaving held))

pub returns-in_err-id-clause-counted : goal.returns-in_err-id-clause-counted
returns-in_err-id-clause-counted g c =
    let ms = c.args.outputs.now in
    let i = c.loop-i.i in
    made_first ms (i + 1) c.args.steps.now c.make_like.new.steps (made_more ms i c.args.steps.now c.loop-i.steps c.make_like.new.steps c.index-outputs-i.result (omega arith) c.index-outputs-i.is c.loop-i.invariant.counted c.make_like.ensures.counted)

pub returns-in_err-push-clause-counted : goal.returns-in_err-push-clause-counted
returns-in_err-push-clause-counted g c =
    let ms = c.args.outputs.now in
    let i = c.loop-i.i in
    made_first ms (i + 1) c.args.steps.now c.make_like.new.steps (made_more ms i c.args.steps.now c.loop-i.steps c.make_like.new.steps c.index-outputs-i.result (omega arith) c.index-outputs-i.is c.loop-i.invariant.counted c.make_like.ensures.counted)

pub returns-in_err-name-clause-counted : goal.returns-in_err-name-clause-counted
returns-in_err-name-clause-counted g c = made_first c.args.outputs.now c.loop-i.i c.args.steps.now c.loop-i.steps c.loop-i.invariant.counted

pub returns-in_err-reserve-clause-counted : goal.returns-in_err-reserve-clause-counted
returns-in_err-reserve-clause-counted g c = made_first c.args.outputs.now c.loop-i.i c.args.steps.now c.loop-i.steps c.loop-i.invariant.counted

pub returns-in_err-reserve-2-clause-counted : goal.returns-in_err-reserve-2-clause-counted
returns-in_err-reserve-2-clause-counted g c = made_first c.args.outputs.now c.loop-i.i c.args.steps.now c.loop-i.steps c.loop-i.invariant.counted

pub returns-clause-counted : goal.returns-clause-counted
returns-clause-counted g c = made_first c.args.outputs.now c.loop-i.i c.args.steps.now c.loop-i.steps c.loop-i.invariant.counted

pub returns-then-not-has_room-clause-within : goal.returns-then-not-has_room-clause-within
returns-then-not-has_room-clause-within g c =
    let s = c.args.self.now in
    let none : roots_bound (machine s) c.args.bound.now c.args.outputs.now ≡ Err TooManyNames = (returns-then-not-has_room-clause-runs g c).0 in
    subst (λ (r : Stepped). MovesUpTo 0 s (arrays_after r s.arrays) c.args.steps.now c.args.steps.now) (sym none) (omega arith)

pub returns-in_err-made-clause-within : goal.returns-in_err-made-clause-within
returns-in_err-made-clause-within g c =
    let s = c.args.self.now in
    let bound = take c.min-count.result c.args.bound.now in
    let R : Named ℕ → Type 0 = λ names. length names + new_among names bound ≤ names_limit in
    let fits = subst R (ap names_of c.self.view_is) (fits_all c.self.inside.names.entries bound c.has_room.result c.has_room.ensures c.if-not-has_room.false) in
    roots_within s c.args.bound.now c.args.outputs.now c.min-count.result 0 c.args.steps.now c.args.steps.now (omega (arith, c.min-count.ensures)) (omega (arith, c.min-count.ensures)) (λ lt. omega (arith, c.min-count.ensures)) fits (omega arith) (omega arith)

pub returns-in_err-name-clause-within : goal.returns-in_err-name-clause-within
returns-in_err-name-clause-within g c =
    roots_within c.args.self.now c.args.bound.now c.args.outputs.now c.min-count.result c.loop-i.i c.args.steps.now c.loop-i.steps (omega (arith, c.min-count.ensures)) (omega (arith, c.min-count.ensures)) (λ lt. omega (arith, c.min-count.ensures)) c.loop-i.invariant.fits (omega arith)
    c.loop-i.invariant.counted

pub returns-in_err-id-clause-within : goal.returns-in_err-id-clause-within
returns-in_err-id-clause-within g c =
    let ms = c.args.outputs.now in
    let i = c.loop-i.i in
    roots_within c.args.self.now c.args.bound.now c.args.outputs.now c.min-count.result (c.loop-i.i + 1) c.args.steps.now c.make_like.new.steps (omega (arith, c.min-count.ensures)) (omega (arith, c.min-count.ensures)) (λ lt. omega (arith, c.min-count.ensures)) c.loop-i.invariant.fits (omega arith)
    (made_more ms i c.args.steps.now c.loop-i.steps c.make_like.new.steps c.index-outputs-i.result (omega arith) c.index-outputs-i.is c.loop-i.invariant.counted c.make_like.ensures.counted)

pub returns-in_err-push-clause-within : goal.returns-in_err-push-clause-within
returns-in_err-push-clause-within g c =
    let ms = c.args.outputs.now in
    let i = c.loop-i.i in
    roots_within c.args.self.now c.args.bound.now c.args.outputs.now c.min-count.result (c.loop-i.i + 1) c.args.steps.now c.make_like.new.steps (omega (arith, c.min-count.ensures)) (omega (arith, c.min-count.ensures)) (λ lt. omega (arith, c.min-count.ensures)) c.loop-i.invariant.fits (omega arith)
    (made_more ms i c.args.steps.now c.loop-i.steps c.make_like.new.steps c.index-outputs-i.result (omega arith) c.index-outputs-i.is c.loop-i.invariant.counted c.make_like.ensures.counted)

pub returns-in_err-reserve-clause-within : goal.returns-in_err-reserve-clause-within
returns-in_err-reserve-clause-within g c =
    roots_within c.args.self.now c.args.bound.now c.args.outputs.now c.min-count.result c.loop-i.i c.args.steps.now c.loop-i.steps (omega (arith, c.min-count.ensures)) (omega (arith, c.min-count.ensures)) (λ lt. omega (arith, c.min-count.ensures)) c.loop-i.invariant.fits (omega arith)
    c.loop-i.invariant.counted

pub returns-in_err-reserve-2-clause-within : goal.returns-in_err-reserve-2-clause-within
returns-in_err-reserve-2-clause-within g c =
    roots_within c.args.self.now c.args.bound.now c.args.outputs.now c.min-count.result c.loop-i.i c.args.steps.now c.loop-i.steps (omega (arith, c.min-count.ensures)) (omega (arith, c.min-count.ensures)) (λ lt. omega (arith, c.min-count.ensures)) c.loop-i.invariant.fits (omega arith)
    c.loop-i.invariant.counted

pub returns-clause-within : goal.returns-clause-within
returns-clause-within g c =
    roots_within c.args.self.now c.args.bound.now c.args.outputs.now c.min-count.result c.loop-i.i c.args.steps.now c.loop-i.steps (omega (arith, c.min-count.ensures)) (omega (arith, c.min-count.ensures)) (λ lt. omega (arith, c.min-count.ensures)) c.loop-i.invariant.fits (omega arith)
    c.loop-i.invariant.counted
