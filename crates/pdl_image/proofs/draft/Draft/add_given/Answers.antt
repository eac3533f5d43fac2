use Rattle.std.proofs.Common.{◌≡◌, ◌+◌, ◌∷◌, [], true, false, Ok, List, ℤ, length, map, subst, sym, ◌∙◌}
use Rattle.std.proofs.lemmas.List.{length-map}
use Rattle.std.proofs.lemmas.Result.{on_ok_weaker}
use Rattle.std.specs.List.{list_any}
use Rattle.pdl_choice.specs.Where.{is_set}
use Rattle.pdl_image.specs.Adding.{Adds}
use Rattle.pdl_image.specs.Dump.{as_listed}
use Rattle.pdl_image.specs.Lines.{piece_line}
use Rattle.pdl_image.proofs.AddingLemmas.{adds_none}
use Rattle.pdl_image.proofs.DumpFilling.{any_listed, given_none, given_some, piece_is}
use Rattle.pdl_image.proofs.draft.Draft.add_given.Goals as goal

pub returns-then-not-is_any_given : goal.returns-then-not-is_any_given
returns-then-not-is_any_given c =
    let numbers : List ℤ = c.args.numbers.now in
    let listed : List ℤ = map as_listed numbers in
    let none : list_any is_set listed ≡ false = sym (any_listed numbers) ∙ sym c.is_any_given.ensures ∙ c.if-not-is_any_given.true in
    subst (λ ls. Adds c.args.self.now c.args.self.now ls (Ok tt)) (sym (given_none c.args.name.now c.args.first listed none)) (adds_none c.args.self.now c.len-len.ensures.room)

pub returns : goal.returns
returns c =
    let name = c.args.name.now in
    let numbers : List ℤ = c.args.numbers.now in
    let listed : List ℤ = map as_listed numbers in
    let set : list_any is_set listed ≡ true = sym (any_listed numbers) ∙ sym c.is_any_given.ensures ∙ c.if-not-is_any_given.false in
    let some = given_some name c.args.first listed set in
    let l = piece_line name c.args.first (c.args.first + length some.1.0) some.0 some.1.0 in
    rw (← c.self.view_is) (subst (λ ls. Adds c.self.inside.page.text c.keep_line.new.page.text ls c.keep_line.result) (sym some.1.1.1)
    (subst (λ t. Adds t c.keep_line.new.page.text (l ∷ []) c.keep_line.result) c.write_piece-made.ensures.text
    (c.keep_line.ensures.adds l
    (on_ok_weaker c.write_piece-made.result (λ e. e ∙ piece_is name c.args.first (length numbers) listed some.0 some.1.0 (length-map numbers as_listed) some.1.1.0) c.write_piece-made.ensures.line))))
