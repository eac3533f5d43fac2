use Rattle.std.proofs.Common.{◌≡◌, ◌+◌, Bool, true, false, ◌-◌, length, take, drop, refl, sym, ap, ◌∙◌, arith}
use Rattle.std.specs.Prelude.{◌||◌, is_some}
use Rattle.pdl_machine.specs.Names.{found}
use Rattle.pdl_scope.specs.Room.{is_among, new_among}
use Rattle.pdl_scope.proofs.RoomRoots.{new_front}
use Rattle.pdl_scope.proofs.names.Names.+new_among.Goals as goal
use Rattle.pdl_scope.proofs.names.Names.+new_among.Goals.{then-is_some, else-is_some}

or_true : (b : Bool) → (b || true) ≡ true
or_true true = refl
or_true false = refl

pub returns-then-known-clause-count : goal.returns-then-known-clause-count
returns-then-known-clause-count t c =
    let names = c.args.self.now.entries in
    let xs = c.args.bound.now in
    let x = c.first-item.result in
    let told : (is_some (found names x) || is_among (take (length xs - 1) (drop 1 xs)) x) ≡ true = elim c.if-is_some.branch [
      | then-is_some w ↦ (let k : is_some (found names x) ≡ true = ap is_some (sym c.get.ensures) ∙ sym c.is_some.ensures ∙ w.if-is_some.true in rw k refl)
      | else-is_some w ↦ (let a : is_among (take (length xs - 1) (drop 1 xs)) x ≡ true = sym w.contains-known.ensures.value ∙ sym w.known-is ∙ c.if-known.true in rw a (or_true (is_some (found names x))))
    ] in
    let n = c.new_among-others.result in
    let all : 0 + n ≡ new_among names xs = new_front names xs x true c.new_among-others.result c.in-len1-up.len_at_least c.first-item.is c.new_among-others.ensures.count told in
    omega (arith, all)

pub returns-else-known-clause-count : goal.returns-else-known-clause-count
returns-else-known-clause-count t c =
    let names = c.args.self.now.entries in
    let xs = c.args.bound.now in
    let x = c.first-item.result in
    let told : (is_some (found names x) || is_among (take (length xs - 1) (drop 1 xs)) x) ≡ false = elim c.if-is_some.branch [
      | then-is_some w ↦ (let no = c.if-known.false in let k = w.known-is in cc)
      | else-is_some w ↦ (let k : is_some (found names x) ≡ false = ap is_some (sym c.get.ensures) ∙ sym c.is_some.ensures ∙ w.if-is_some.false in
          let a : is_among (take (length xs - 1) (drop 1 xs)) x ≡ false = sym w.contains-known.ensures.value ∙ sym w.known-is ∙ c.if-known.false in rw (k, a) refl)
    ] in
    new_front names xs x false c.new_among-others.result c.in-len1-up.len_at_least c.first-item.is c.new_among-others.ensures.count told
