-- The places of an array over its root, and over another base.
use Rattle.std.proofs.Common.{◌≡◌, ℕ, true, false, List, [], ◌∷◌, map, Option, Some, None, is_some, inl, inr, refl, sym, ◌∙◌, ap, subst, arith}
use Rattle.std.proofs.lemmas.Bool.{cases_eq}
use Rattle.std.specs.List.{range_with_len}
use Rattle.std.proofs.lemmas.List.FromFn.{get_or-map-range_with_len}
use Rattle.pdl_shape.specs.Shape.{size_of}
use Rattle.pdl_nodes.specs.Alike.{is_fresh_in}
use Rattle.pdl_nodes.specs.Families.{InOrder}
use Rattle.pdl_nodes.specs.Known.{AreKnown}
use Rattle.pdl_nodes.specs.Rows.{Rows, row_at, has}
use Rattle.pdl_nodes.specs.Assigned.{entry}
use Rattle.pdl_nodes.specs.Placed.{in_order, placed, placed_by}
use Rattle.pdl_nodes.specs.Spots.{spots, Below}
use Rattle.pdl_nodes.specs.Still.{IsStill}
use Rattle.pdl_nodes.specs.Worlds.{places_seen, IsRoot}
use Rattle.pdl_nodes.proofs.RowsSeen.{is_seen}
use Rattle.pdl_nodes.specs.Seen.{IsSeen}

all_there : (n : ℕ) (is : List ℕ) → Below n is → map (entry (map Some (range_with_len 0 n))) is ≡ map (placed None) is
all_there n [] b = refl
all_there n (q ∷ is) b =
    let head : entry (map Some (range_with_len 0 n)) q ≡ Some q = get_or-map-range_with_len Some 0 n q q None b.0 (omega arith) in
    let tail : map (entry (map Some (range_with_len 0 n))) is ≡ map (placed None) is = all_there n is b.1 in
    cc

-- a root's places
pub root_in_order : (rs : Rows) (rt : ℕ) → IsStill rs → IsRoot rs rt → places_seen rs rt ≡ in_order (size_of (row_at rs rt).triple.dims)
root_in_order rs rt s i = ap (places_seen rs) (sym i.1) ∙ (is_seen rs s rt i.0).root_places ∙ ap (λ k. in_order (size_of (row_at rs k).triple.dims)) i.1

-- the places of an array over its root
pub over_root : (rs : Rows) (rt v : ℕ) → IsStill rs → has rs v ≡ true → IsRoot rs rt → (row_at rs v).base ≡ rt → places_seen rs v ≡ placed_by None (row_at rs v).triple
over_root rs rt v s h i e =
    let a : IsSeen rs v = is_seen rs s v h in
    let f : Below (size_of (row_at rs rt).triple.dims) (spots (row_at rs v).triple) = (let P : ℕ → Type 0 = λ x. Below (size_of (row_at rs x).triple.dims) (spots (row_at rs v).triple) in subst P e a.fits) in
    a.over ∙ ap (λ x. map (entry (places_seen rs x)) (spots (row_at rs v).triple)) e
    ∙ ap (λ (ps : List (Option ℕ)). map (entry ps) (spots (row_at rs v).triple)) (root_in_order rs rt s i)
    ∙ all_there (size_of (row_at rs rt).triple.dims) (spots (row_at rs v).triple) f

-- and over another base, whose places are known
pub over_base : (rs : Rows) (b v : ℕ) (ps : List (Option ℕ)) → IsStill rs → has rs v ≡ true → (row_at rs v).base ≡ b → ps ≡ places_seen rs b → places_seen rs v ≡ placed_by (Some ps) (row_at rs v).triple
over_base rs b v ps s h e k =
    (is_seen rs s v h).over ∙ ap (λ x. map (entry (places_seen rs x)) (spots (row_at rs v).triple)) e ∙ ap (λ (qs : List (Option ℕ)). map (entry qs) (spots (row_at rs v).triple)) (sym k)

-- so those of an array that can be lent are had of what is known of its base
known_from : (rs : Rows) (v : ℕ) (o : Option (List (Option ℕ))) → (row_at rs (row_at rs v).base).places ≡ o → InOrder rs → AreKnown rs → has rs v ≡ true → is_fresh_in rs v ≡ true → placed_by o (row_at rs v).triple ≡ places_seen rs v
known_from rs v None e o a h f =
    let s : IsSeen rs v = is_seen rs o.still v h in
    elim (cases_eq (row_at rs (row_at rs v).base).root (row_at rs v).base) [
      | inl y ↦ sym (over_root rs (row_at rs v).base v o.still h (s.base_has, y) refl)
      | inr n ↦ (let c : false ≡ true = sym (ap is_some e) ∙ (a (row_at rs v).base s.base_has).found f n in absurd (cc))
    ]
known_from rs v (Some ps) e o a h f =
    let s : IsSeen rs v = is_seen rs o.still v h in
    sym (over_base rs (row_at rs v).base v ps o.still h refl ((a (row_at rs v).base s.base_has).places ps e))

pub over_known : (rs : Rows) (v : ℕ) → InOrder rs → AreKnown rs → has rs v ≡ true → is_fresh_in rs v ≡ true → placed_by (row_at rs (row_at rs v).base).places (row_at rs v).triple ≡ places_seen rs v
over_known rs v o a h f = known_from rs v (row_at rs (row_at rs v).base).places refl o a h f
