-- One part more, and all at the end.
use Rattle.std.proofs.Common.{◌≡◌, ℕ, ◌+◌, ◌<◌, List, ap, sym, ◌∙◌, ◌++◌, ◌∷◌, [], append-nil, append_assoc, get_or, take, take_all, arith}
use Rattle.std.proofs.lemmas.Grind.{flat_map-append}
use Rattle.std.proofs.lemmas.List.{take_more}
use Rattle.std.proofs.lemmas.List.Sums.{sum_by_more, sum_by_more_le}
use Rattle.std.specs.Prelude.{flat_map, length, ◌≤◌}
use Rattle.pdl_lex.specs.Pieces.{pieces, to_come}
use Rattle.pdl_lex.proofs.parts.cut_parts.Goals as goal

bytes_more : {B : Type 0} (xs : List B) (f : B → List ℕ) (i : ℕ) (d : B) → i < length xs → flat_map f (take (i + 1) xs) ≡ flat_map f (take i xs) ++ f (get_or xs i d)
bytes_more xs f i d h =
    ap (flat_map f) (take_more xs i d h) ∙ flat_map-append f (take i xs) (get_or xs i d ∷ [])
    ∙ ap (λ t. flat_map f (take i xs) ++ t) (append-nil (f (get_or xs i d)))

pub loop-part-init : goal.loop-part-init
loop-part-init c =
    record {
      stream = λ more. ap (λ xs. xs ++ to_come c.new-cutter.result more) c.new-found.ensures.items ∙ c.new-cutter.ensures.whole more;
      works = ap (λ s. s.failed) c.new-cutter.ensures.state;
      count = ap (λ s. s.taken) c.new-cutter.ensures.state;
    }

pub cut_part-requires-clause-room : goal.cut_part-requires-clause-room
cut_part-requires-clause-room c =
    omega (
      arith,
      c.requires,
      c.loop-part.invariant.count,
      sum_by_more_le (λ part. length part.now) c.args.parts.now c.loop-part.part-index (record { ref_ptr = (0, 0); now = [] }) c.loop-part-test.true,
    )

pub loop-part-preserved : goal.loop-part-preserved
loop-part-preserved c =
    let i : ℕ = c.loop-part.part-index in
    let part : List ℕ = (get_or c.args.parts.now i (record { ref_ptr = (0, 0); now = [] })).now in
    let before : List ℕ = flat_map (λ part. part.now) (take i c.args.parts.now) in
    record {
      stream =
          λ more. c.in_ok-cut_part.ensures.stream more ∙ c.loop-part.invariant.stream (part ++ more)
          ∙ ap pieces (sym (append_assoc before part more)
          ∙ ap (λ (xs : List ℕ). xs ++ more) (sym (bytes_more c.args.parts.now (λ part. part.now) i (record { ref_ptr = (0, 0); now = [] }) c.loop-part-test.true)));
      works = c.in_ok-cut_part.ensures.works;
      count =
          c.in_ok-cut_part.ensures.count ∙ ap (λ (n : ℕ). n + length part) c.loop-part.invariant.count
          ∙ sym (sum_by_more (λ part. length part.now) c.args.parts.now i (record { ref_ptr = (0, 0); now = [] }) c.loop-part-test.true);
    }

pub returns : goal.returns
returns c =
    let all : length c.args.parts.now ≤ c.loop-part.part-index = omega arith in
    c.in_ok-put.ensures
    ∙ ap (λ last. c.loop-part.found.items ++ last) c.end.ensures.last
    ∙ c.loop-part.invariant.stream []
    ∙ ap pieces (append-nil _ ∙ ap (flat_map (λ part. part.now)) (take_all c.loop-part.part-index c.args.parts.now all))
