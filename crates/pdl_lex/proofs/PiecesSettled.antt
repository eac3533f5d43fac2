-- What bytes settle stands at the front of what they and more bytes settle.
use Rattle.std.proofs.Common.{◌≡◌, ℕ, ◌+◌, Bool, true, false, cond, List, [], ◌∷◌, ◌++◌, Option, Some, None, refl, sym, ◌∙◌, ap, arith, append_assoc, length-append}
use Rattle.pdl_lemmas.specs.Options.{some_inj}
use Rattle.pdl_lex.specs.Bytes.{newlines}
use Rattle.pdl_lex.specs.declared.cutter.Mode.{Mode}
use Rattle.pdl_lex.specs.declared.cutter.Mode.TheVariants.{Code}
use Rattle.pdl_lex.specs.declared.Piece.{Piece}
use Rattle.pdl_lex.specs.declared.Piece.TheVariants.{Whole, TooLong}
use Rattle.pdl_lex.specs.Pieces.{mode_after, is_end, is_between, onto_first, chunks, text_piece, chunk_piece, settled_piece, has_ended, numbered}
use Rattle.pdl_lex.proofs.PiecesCut.{chunks-some}

-- the last chunk of bytes goes on in the bytes that follow, and the chunks before it stay
record GoesOn (front all : List (List ℕ)) : Type 0 where
  before : List (List ℕ)
  last : List ℕ
  more : List ℕ
  others : List (List ℕ)
  is_front : front ≡ before ++ last ∷ []
  is_all : all ≡ before ++ (last ++ more) ∷ others

behind_end : (front all : List (List ℕ)) → GoesOn front all → GoesOn ([] ∷ front) ([] ∷ all)
behind_end front all g = record {
  before = [] ∷ g.before;
  last = g.last;
  more = g.more;
  others = g.others;
  is_front = ap (λ cs. [] ∷ cs) g.is_front;
  is_all = ap (λ cs. [] ∷ cs) g.is_all;
}

behind_byte : (b : ℕ) (front all before : List (List ℕ)) (last more : List ℕ) (others : List (List ℕ))
    → front ≡ before ++ last ∷ [] → all ≡ before ++ (last ++ more) ∷ others → GoesOn (onto_first b front) (onto_first b all)
behind_byte b front all [] last more others is_front is_all = record {
  before = [];
  last = b ∷ last;
  more = more;
  others = others;
  is_front = ap (onto_first b) is_front;
  is_all = ap (onto_first b) is_all;
}
behind_byte b front all (c ∷ cs) last more others is_front is_all = record {
  before = (b ∷ c) ∷ cs;
  last = last;
  more = more;
  others = others;
  is_front = ap (onto_first b) is_front;
  is_all = ap (onto_first b) is_all;
}

chunks-go_on : (now : Mode) (bytes more : List ℕ) → GoesOn (chunks now bytes) (chunks now (bytes ++ more))
chunks-go_on now [] more =
    let some = chunks-some now more in
    record { before = []; last = []; more = some.0; others = some.1; is_front = refl; is_all = some.2 }
chunks-go_on now (b ∷ bs) more =
    let in_code = chunks-go_on Code bs more in
    let in_chunk = chunks-go_on (mode_after now b) bs more in
    elim (is_end now b) as (λ t. GoesOn (cond t ([] ∷ chunks Code bs) (onto_first b (chunks (mode_after now b) bs)))
    (cond t ([] ∷ chunks Code (bs ++ more)) (onto_first b (chunks (mode_after now b) (bs ++ more))))) [
      | true ↦ behind_end _ _ in_code
      | false ↦ behind_byte b _ _ in_chunk.before in_chunk.last in_chunk.more in_chunk.others in_chunk.is_front in_chunk.is_all
    ]

-- a statement that is too long stays so
text-long : (line at : ℕ) (text more : List ℕ) → text_piece line text ≡ TooLong at → text_piece line (text ++ more) ≡ TooLong at
text-long line at text more is = grind (arith, length-append {A = ℕ})

chunk-long : (line at : ℕ) (now : Mode) (chunk more : List ℕ) → chunk_piece line now chunk ≡ Some (TooLong at) → chunk_piece line now (chunk ++ more) ≡ Some (TooLong at)
chunk-long line at now [] more is = cc
chunk-long line at now (b ∷ bs) more is = by_test (is_between now b) is (chunk-long (line + newlines (b ∷ [])) at (mode_after now b) bs more)
  where
    by_test : (t : Bool) → cond t (chunk_piece (line + newlines (b ∷ [])) (mode_after now b) bs) (Some (text_piece line (b ∷ bs))) ≡ Some (TooLong at)
        → (chunk_piece (line + newlines (b ∷ [])) (mode_after now b) bs ≡ Some (TooLong at)
        → chunk_piece (line + newlines (b ∷ [])) (mode_after now b) (bs ++ more) ≡ Some (TooLong at))
        → cond t (chunk_piece (line + newlines (b ∷ [])) (mode_after now b) (bs ++ more)) (Some (text_piece line (b ∷ bs ++ more))) ≡ Some (TooLong at)
    by_test true e rest = rest e
    by_test false e rest = ap Some (text-long line at (b ∷ bs) more (some_inj e))

-- what the last chunk settles is settled of it when it has gone on
settled_piece-front : (e : Bool) (piece whole : Option Piece) (others : List Piece) → ((at : ℕ) → piece ≡ Some (TooLong at) → whole ≡ Some (TooLong at))
    → (rest : List Piece) × (settled_piece e whole ++ others ≡ (settled_piece false piece ++ []) ++ rest)
settled_piece-front e None whole others long = (settled_piece e whole ++ others, refl)
settled_piece-front e (Some (Whole cut)) whole others long = (settled_piece e whole ++ others, refl)
settled_piece-front e (Some (TooLong at)) whole others long = (others, ap (λ p. settled_piece e p ++ others) (long at refl))

ends_before : (k : Bool) (cs : List (List ℕ)) (d : List ℕ) (ds : List (List ℕ)) → has_ended k (cs ++ d ∷ ds) ≡ true
ends_before k [] d ds = refl
ends_before k (c ∷ cs) d ds = refl

numbered-front : (k : Bool) (line : ℕ) (before : List (List ℕ)) (last more : List ℕ) (others : List (List ℕ))
    → (rest : List Piece) × (numbered k line (before ++ (last ++ more) ∷ others) ≡ numbered false line (before ++ last ∷ []) ++ rest)
numbered-front k line [] last more others =
    let found = settled_piece-front (has_ended k others) (chunk_piece line Code last) (chunk_piece line Code (last ++ more))
    (numbered k (line + newlines (last ++ more)) others) (λ at. chunk-long line at Code last more) in
    (found.0, found.1)
numbered-front k line (c ∷ cs) last more others =
    let found = numbered-front k (line + newlines c) cs last more others in
    let piece : Option Piece = chunk_piece line Code c in (
      found.0,
      ap (λ e. settled_piece e piece ++ numbered k (line + newlines c) (cs ++ (last ++ more) ∷ others)) (ends_before k cs (last ++ more) others)
          ∙ ap (λ ps. settled_piece true piece ++ ps) found.1
          ∙ sym (append_assoc (settled_piece true piece) (numbered false (line + newlines c) (cs ++ last ∷ [])) found.0)
          ∙ ap (λ e. (settled_piece e piece ++ numbered false (line + newlines c) (cs ++ last ∷ [])) ++ found.0) (sym (ends_before false cs last [])),
    )

pub settled-front : (k : Bool) (bytes more : List ℕ)
    → (rest : List Piece) × (numbered k 1 (chunks Code (bytes ++ more)) ≡ numbered false 1 (chunks Code bytes) ++ rest)
settled-front k bytes more =
    let g = chunks-go_on Code bytes more in
    let found = numbered-front k 1 g.before g.last g.more g.others in
    (found.0, ap (numbered k 1) g.is_all ∙ found.1 ∙ ap (λ cs. numbered false 1 cs ++ found.0) (sym g.is_front))
