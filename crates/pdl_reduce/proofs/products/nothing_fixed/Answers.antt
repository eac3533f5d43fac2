-- One more isn't fixed.
use Rattle.std.proofs.Common.{◌≡◌, ◌+◌, ℕ, List, [], ◌∷◌, ◌++◌, Option, None, map, take, get_or, arith, ap, sym, ◌∙◌}
use Rattle.std.proofs.lemmas.List.{take_more, map-append}
use Rattle.pdl_reduce.proofs.products.nothing_fixed.Goals as goal

pub loop-letter-preserved : goal.loop-letter-preserved
loop-letter-preserved c =
    let f : ℕ → Option ℕ = λ b. None in
    let xs : List ℕ = c.args.letters.now in
    let i : ℕ = c.loop-letter._letter-index in
    let more : map f (take (i + 1) xs) ≡ map f (take i xs) ++ None ∷ [] =
    ap (map f) (take_more xs i 0 (omega arith)) ∙ map-append f (take i xs) (get_or xs i 0 ∷ []) in
    c.in_ok-push.ensures.items ∙ ap (λ (zs : List (Option ℕ)). zs ++ None ∷ []) c.loop-letter.invariant ∙ sym more
