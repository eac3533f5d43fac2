-- A plane, or one member more of a block.
use Rattle.std.proofs.Common.{◌≡◌, ℕ, ℤ, List, ◌+◌, ◌-◌, ◌*◌, ◌/◌, ◌≤◌, ◌<◌, ◌++◌, ◌∷◌, [], length, take, drop, get_or, arith, refl, ap, sym, ◌∙◌, subst, append_assoc}
use Rattle.std.specs.Prelude.{flat_map}
use Rattle.std.proofs.Math.Nat.{mul-le-mul_right}
use Rattle.std.proofs.lemmas.Result.{on_ok_weaker}
use Rattle.pdl_shape.specs.Shape.{size_of}
use Rattle.pdl_print.specs.Printed.{block, pieces, spaces}
use Rattle.pdl_print.proofs.PieceFronts.{begins_then, begins_with}
use Rattle.pdl_print.proofs.PrintedTexts.{Members, members_of, member_more, block_plane, block_around, length_from, closed}
use Rattle.pdl_print.proofs.pieces.+push_block.Goals as goal

-- what holds of a block's members, whose number was read
members_at : (ds : List ℕ) (around count m : ℕ) → m ≡ get_or ds (around + 1) 0 → around + 2 ≤ length ds → count ≡ size_of (take (around + 2) ds) → 0 < count → Members ds around count m (count / m)
members_at ds around count m e h is some = subst (λ (k : ℕ). Members ds around count k (count / k)) (sym e) (members_of ds around count h is some)

-- a member ends within the block
member_within : (k members size count : ℕ) → k < members → count ≡ members * size → k * size + size ≤ count
member_within k members size count h e = omega (arith, mul-le-mul_right {m = k + 1} {n = members} size (omega arith))

pub nonzero_div-size : goal.nonzero_div-size
nonzero_div-size t c = (members_at c.args.elems.now.dims c.args.around c.args.count c.members_of-members.result c.members_of-members.ensures c.requires.dims c.requires.count c.requires.some).some

pub push_plane-requires-clause-some : goal.push_plane-requires-clause-some
push_plane-requires-clause-some t c = (members_at c.args.elems.now.dims c.args.around c.args.count c.members_of-members.result c.members_of-members.ensures c.requires.dims c.requires.count c.requires.some).some_size

pub returns-then-around-eq0-clause-ok : goal.returns-then-around-eq0-clause-ok
returns-then-around-eq0-clause-ok t c =
    let m = members_at c.args.elems.now.dims c.args.around c.args.count c.members_of-members.result c.members_of-members.ensures c.requires.dims c.requires.count c.requires.some in
    on_ok_weaker c.push_plane.result (λ e. e ∙ ap (λ (x : List ℕ). c.args.into.now.items ++ x)
    (block_plane c.args.elems.now.dims c.args.around c.args.indent c.args.first c.args.count c.members_of-members.result (c.args.count / c.members_of-members.result) c.args.elems.now.elems
    c.if-around-eq0.true c.members_of-members.ensures refl m.whole c.requires.within)) c.push_plane.ensures.ok

pub push_block-requires : goal.push_block-requires
push_block-requires t c =
    let m = members_at c.args.elems.now.dims c.args.around c.args.count c.members_of-members.result c.members_of-members.ensures c.requires.dims c.requires.count c.requires.some in
    let size : ℕ = c.args.count / c.members_of-members.result in
    let nonzero : c.args.around ≡ 0 → ⊥ = c.if-around-eq0.false in
    let one : c.args.around + 1 ≡ c.args.around - 1 + 2 = omega arith in
    let h : c.loop-member.member * size + size ≤ c.args.count = member_within c.loop-member.member c.members_of-members.result size c.args.count c.loop-member-test.true m.whole in (
      omega (arith, c.decreases),
      (
        omega (arith, c.requires.dims),
        (
          m.is ∙ ap (λ (k : ℕ). size_of (take k c.args.elems.now.dims)) one,
          (m.some_size, (omega (arith, h, c.requires.within), (omega (arith, h, c.requires.small), omega (arith, c.requires.shallow)))),
        ),
      ),
    )

pub loop-member-preserved : goal.loop-member-preserved
loop-member-preserved t c =
    let m = members_at c.args.elems.now.dims c.args.around c.args.count c.members_of-members.result c.members_of-members.ensures c.requires.dims c.requires.count c.requires.some in
    let size : ℕ = c.args.count / c.members_of-members.result in
    let k : ℕ = c.loop-member.member in
    let f : List ℤ → List ℕ = block c.args.elems.now.dims (c.args.around - 1) (c.args.indent + 1) in
    let h : k * size + size ≤ c.args.count = member_within k c.members_of-members.result size c.args.count c.loop-member-test.true m.whole in
    c.in_ok-push_block.ensures.ok
    ∙ ap (λ (x : List ℕ). x ++ f (take size (drop (c.args.first + k * size) c.args.elems.now.elems))) c.loop-member.invariant
    ∙ member_more f (c.args.into.now.items ++ (spaces c.args.indent ++ 91 ∷ 10 ∷ [])) k size c.args.first c.args.count c.args.elems.now.elems h

pub returns-clause-ok : goal.returns-clause-ok
returns-clause-ok t c =
    let ds : List ℕ = c.args.elems.now.dims in
    let part : List ℤ = take c.args.count (drop c.args.first c.args.elems.now.elems) in
    let size : ℕ = c.args.count / c.members_of-members.result in
    let f : List ℤ → List ℕ = block ds (c.args.around - 1) (c.args.indent + 1) in
    let old : List ℕ = c.args.into.now.items in
    let start : List ℕ = spaces c.args.indent ++ 91 ∷ 10 ∷ [] in
    let close : List ℕ = 93 ∷ 10 ∷ [] in
    let inner : List ℕ = flat_map f (pieces c.members_of-members.result size part) in
    let nonzero : c.args.around ≡ 0 → ⊥ = c.if-around-eq0.false in
    let all : c.loop-member.member ≡ c.members_of-members.result = omega (arith, c.loop-member-test.false, c.loop-member.auto.member-end) in
    on_ok_weaker c.push_bracket-2.result (λ e. e ∙ ap (λ (x : List ℕ). x ++ (spaces c.args.indent ++ close)) (c.loop-member.invariant ∙ ap (λ (k : ℕ). (old ++ start) ++ flat_map f (pieces k size part)) all)
    ∙ closed old start inner (spaces c.args.indent ++ close)
    ∙ ap (λ (x : List ℕ). old ++ x) (sym (append_assoc (start ++ inner) (spaces c.args.indent) close)
    ∙ block_around ds c.args.around c.args.indent c.members_of-members.result size part (omega arith) c.members_of-members.ensures
    (ap (λ (k : ℕ). k / c.members_of-members.result) (sym (length_from c.args.elems.now.elems c.args.first c.args.count c.requires.within))))) c.push_bracket-2.ensures.ok

pub returns-in_err-push_block-clause-front : goal.returns-in_err-push_block-clause-front
returns-in_err-push_block-clause-front t c =
    begins_then _ _ _ (begins_with c.args.into.now.items _ _ _ c.loop-member.invariant) c.in_err-push_block.ensures.front

pub returns-clause-front : goal.returns-clause-front
returns-clause-front t c =
    begins_then _ _ _ (begins_with c.args.into.now.items _ _ _ c.loop-member.invariant) c.push_bracket-2.ensures.front
