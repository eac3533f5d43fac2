-- The elements of a root: how many they are, and that they are read at its places.
use Rattle.std.proofs.Common.{◌≡◌, ℕ, ℤ, pos, get_or, List, length, map, Option, Some, None, refl, sym, ◌∙◌, ap, [], ◌∷◌, slice_set}
use Rattle.std.specs.List.{range_with_len}
use Rattle.std.proofs.lemmas.Simd.{map-map}
use Rattle.std.proofs.lemmas.List.FromFn.{fill_by_all}
use Rattle.pdl_shape.specs.Shape.{size_of}
use Rattle.pdl_shape.specs.Places.{element_at, read, write}
use Rattle.pdl_nodes.specs.Rows.{Rows, row_at}
use Rattle.pdl_nodes.specs.Worlds.{places_seen, latest, latest_from, IsRoot}
use Rattle.pdl_nodes.specs.Still.{IsStill}
use Rattle.pdl_nodes.proofs.RowsSeen.{is_seen}
use Rattle.pdl_nodes.specs.Seen.{IsSeen}
use Rattle.std.proofs.lemmas.List.{length-set}

pub length_write : (ps : List (Option ℕ)) (vs es : List ℤ) → length (write ps vs es) ≡ length es
length_write [] vs es = refl
length_write (p ∷ ps) [] es = refl
length_write (None ∷ ps) (x ∷ vs) es = length_write ps vs es
length_write (Some i ∷ ps) (x ∷ vs) es = length_write ps vs (slice_set es i x) ∙ length-set es i x

-- reading a root's own places
read_whole : (es : List ℤ) (n : ℕ) → length es ≡ n → read (map Some (range_with_len 0 n)) es ≡ es
read_whole es n h = map-map (element_at es) Some (range_with_len 0 n) ∙ sym (fill_by_all (λ k. get_or es k (pos 0)) es n (pos 0) h (λ k b. refl))

pub root_shows : (rs : Rows) (r : ℕ) (es : List ℤ) → IsStill rs → IsRoot rs r → length es ≡ size_of (row_at rs r).triple.dims → read (places_seen rs r) es ≡ es
root_shows rs r es s i l =
    let e : IsSeen rs r = is_seen rs s r i.0 in
    let p : places_seen rs r ≡ map Some (range_with_len 0 (size_of (row_at rs r).triple.dims)) = ap (places_seen rs) (sym i.1) ∙ e.root_places ∙ ap (λ k. map Some (range_with_len 0 (size_of (row_at rs k).triple.dims))) i.1 in
    ap (λ ps. read ps es) p ∙ read_whole es (size_of (row_at rs r).triple.dims) l

pub length_latest : (rs : Rows) (r : ℕ) → length (latest rs r) ≡ length (row_at rs r).kept
length_latest rs r = from (row_at rs r).waiting where
  from : (o : Option ℕ) → length (latest_from rs r o) ≡ length (row_at rs r).kept
  from None = refl
  from (Some v) = length_write (places_seen rs v) (row_at rs v).kept (row_at rs r).kept
