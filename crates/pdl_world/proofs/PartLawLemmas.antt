-- The laws of assignments in parts.
use Rattle.std.specs.Prelude.{◌==◌, if◌then◌else◌}
use Rattle.std.proofs.Common.{suc, zero, ◌≡◌, ℕ, ◌+◌, ◌<◌, ℤ, pos, false, List, [], ◌∷◌, ◌++◌, length, drop, get_or, All, Option, Some, None, inl, inr, refl, sym, ◌∙◌, ap, arith}
use Rattle.std.specs.Option.{option_map_or}
use Rattle.std.proofs.Math.Seq.{drop-nil}
use Rattle.std.proofs.lemmas.Bool.{ne_eqb}
use Rattle.std.proofs.lemmas.Bool.Decides.{eqb_tells}
use Rattle.std.proofs.lemmas.List.{get_or-drop, drop-map}
use Rattle.pdl_lemmas.specs.Lists.{entry_inside}
use Rattle.pdl_elem.specs.declared.Ty.TheVariants.{Byte}
use Rattle.pdl_elem.specs.Types.{InRange}
use Rattle.pdl_shape.specs.Laws.{WriteLaws}
use Rattle.pdl_shape.specs.Places.{element_at, put, read, write}
use Rattle.pdl_world.specs.Paths.{root_of}
use Rattle.pdl_world.specs.Sound.{IsSound}
use Rattle.pdl_world.specs.World.{World, root, view, Look, look, has_repeats, elements, root_elements, set_elements, assign_through}
use Rattle.pdl_world.specs.Parts.{assign_part, assign_part_through, IsReadBefore}
use Rattle.pdl_world.specs.PartLaws.{WholesAreParts, PartsJoin, PartsLeaveLooks, PartsRead, PartsLeaveOthers, PartsLeaveLater, PartsLeaveRest, PartsAssignSoundly, NothingStays}
use Rattle.pdl_world.proofs.WorldLooks.{look_set, set_past}
use Rattle.pdl_world.proofs.SoundRoots.{elements_set, elements_set_same, seen_in_range, sound_set}
use Rattle.pdl_world.proofs.WorldLawsProved.{apart, written_in_range}

whole_through : (w : World) (o : Option Look) (vs : List ℤ) → assign_through w o vs ≡ assign_part_through w o 0 vs
whole_through w None vs = refl
whole_through w (Some l) vs = refl

pub wholes_are_parts : WholesAreParts
wholes_are_parts = λ w v vs. whole_through w (look w v) vs

-- values that are put at the places behind those of others are put after them
pub write_join : (ps : List (Option ℕ)) (vs us es : List ℤ) → write (drop (length vs) ps) us (write ps vs es) ≡ write ps (vs ++ us) es
write_join [] [] us es = refl
write_join [] (x ∷ vs) us es = refl
write_join (p ∷ ps) [] us es = refl
write_join (p ∷ ps) (x ∷ vs) us es = write_join ps vs us (put p x es)

drop_drop : (n m : ℕ) (ps : List (Option ℕ)) → drop (n + m) ps ≡ drop m (drop n ps)
drop_drop zero m ps = (let e : 0 + m ≡ m = omega arith in ap (λ k. drop k ps) e)
drop_drop (suc n) m [] = drop-nil (suc n + m) ∙ sym (drop-nil m)
drop_drop (suc n) m (p ∷ ps) = (let e : suc n + m ≡ suc (n + m) = omega arith in ap (λ k. drop k (p ∷ ps)) e ∙ drop_drop n m ps)

write_on : (ps : List (Option ℕ)) (first : ℕ) (vs us es : List ℤ) → write (drop (first + length vs) ps) us (write (drop first ps) vs es) ≡ write (drop first ps) (vs ++ us) es
write_on ps first vs us es = ap (λ qs. write qs us (write (drop first ps) vs es)) (drop_drop first (length vs) ps) ∙ write_join (drop first ps) vs us es

-- the last elements that were set stay
set_set : (w : World) (r : ℕ) (a b : List ℤ) → set_elements (set_elements w r a) r b ≡ set_elements w r b
set_set [] r a b = refl
set_set ((k, root ty ds es) ∷ w) r a b = elim (eqb_tells k r) [
  | inl t ↦ rw (t.0, set_set w r a b) refl
  | inr t ↦ rw (t.0, set_set w r a b) refl
]
set_set ((k, view p t) ∷ w) r a b = rw (set_set w r a b) refl

-- the elements that a root has, set again, change nothing
set_same : (w : World) (r : ℕ) → IsSound w → set_elements w r (root_elements w r) ≡ w
set_same [] r s = refl
set_same ((k, root ty ds es) ∷ w) r s = elim (eqb_tells k r) [
  | inl t ↦ rw (t.0, set_past w k r es s.0 (omega (arith, t.1))) refl
  | inr t ↦ rw (t.0, set_same w r s.2) refl
]
set_same ((k, view p t) ∷ w) r s = rw (set_same w r s.2) refl

write_none : (ps : List (Option ℕ)) (es : List ℤ) → write ps [] es ≡ es
write_none [] es = refl
write_none (p ∷ ps) es = refl

nothing_through : (w : World) (o : Option Look) → IsSound w → assign_part_through w o 0 [] ≡ w
nothing_through w None s = refl
nothing_through w (Some l) s = ap (set_elements w l.root) (write_none l.places (root_elements w l.root)) ∙ set_same w l.root s

looks_through : (w : World) (o : Option Look) (u first : ℕ) (vs : List ℤ) → look (assign_part_through w o first vs) u ≡ look w u
looks_through w None u first vs = refl
looks_through w (Some l) u first vs = look_set w l.root (write (drop first l.places) vs (root_elements w l.root)) u

pub parts_leave_looks : PartsLeaveLooks
parts_leave_looks = λ w v u first vs. looks_through w (look w v) u first vs

-- the world after a part was assigned to an array of which l is seen
parted : (w : World) (v : ℕ) (l : Look) (first : ℕ) (vs : List ℤ) → look w v ≡ Some l → assign_part w v first vs ≡ set_elements w l.root (write (drop first l.places) vs (root_elements w l.root))
parted w v l first vs h = ap (λ o. assign_part_through w o first vs) h

join_seen : (w : World) (v : ℕ) (l : Look) (first : ℕ) (vs us : List ℤ) → look w v ≡ Some l → assign_part (assign_part w v first vs) v (first + length vs) us ≡ assign_part w v first (vs ++ us)
join_seen w v l first vs us h =
    let new : List ℤ = write (drop first l.places) vs (root_elements w l.root) in
    let w' : World = set_elements w l.root new in
    let later : List (Option ℕ) = drop (first + length vs) l.places in
    ap (λ x. assign_part x v (first + length vs) us) (parted w v l first vs h)
    ∙ parted w' v l (first + length vs) us (look_set w l.root new v ∙ h)
    ∙ ap (λ es. set_elements w' l.root (write later us es)) (elements_set_same w v l new h)
    ∙ set_set w l.root new (write later us new)
    ∙ ap (λ es. set_elements w l.root es) (write_on l.places first vs us (root_elements w l.root))
    ∙ sym (parted w v l first (vs ++ us) h)

unseen : (w : World) (v first : ℕ) (vs : List ℤ) → look w v ≡ None → assign_part w v first vs ≡ w
unseen w v first vs h = ap (λ o. assign_part_through w o first vs) h

join_unseen : (w : World) (v first : ℕ) (vs us : List ℤ) → look w v ≡ None → assign_part (assign_part w v first vs) v (first + length vs) us ≡ assign_part w v first (vs ++ us)
join_unseen w v first vs us h = ap (λ x. assign_part x v (first + length vs) us) (unseen w v first vs h) ∙ unseen w v (first + length vs) us h ∙ sym (unseen w v first (vs ++ us) h)

join_cases : (w : World) (v first : ℕ) (vs us : List ℤ) (o : Option Look) → look w v ≡ o → assign_part (assign_part w v first vs) v (first + length vs) us ≡ assign_part w v first (vs ++ us)
join_cases w v first vs us None h = join_unseen w v first vs us h
join_cases w v first vs us (Some l) h = join_seen w v l first vs us h

pub parts_join : PartsJoin
parts_join = λ w v first vs us. join_cases w v first vs us (look w v) refl

pub parts_read : PartsRead
parts_read = λ w v u first l m vs h g.
    let new : List ℤ = write (drop first l.places) vs (root_elements w l.root) in
    let w' : World = set_elements w l.root new in
    ap (λ x. elements x u) (parted w v l first vs h)
    ∙ ap (λ o. option_map_or (λ n. read n.places (root_elements w' n.root)) o []) (look_set w l.root new u ∙ g)
    ∙ ap (read m.places) (elements_set w v l m.root new h)

seen_elements : (w : World) (u : ℕ) (m : Look) → look w u ≡ Some m → elements w u ≡ read m.places (root_elements w m.root)
seen_elements w u m g = ap (λ o. option_map_or (λ n. read n.places (root_elements w n.root)) o []) g

seen_root : (w : World) (u : ℕ) (m : Look) → look w u ≡ Some m → root_of w u ≡ m.root
seen_root w u m g = ap (λ o. option_map_or (λ n. n.root) o u) g

others_seen : (w : World) (v u first : ℕ) (l m : Look) (vs : List ℤ) → look w v ≡ Some l → look w u ≡ Some m → (root_of w u ≡ root_of w v → ⊥) → elements (assign_part w v first vs) u ≡ elements w u
others_seen w v u first l m vs h g apart =
    let e : (m.root == l.root) ≡ false = ne_eqb m.root l.root (λ e. apart (seen_root w u m g ∙ e ∙ sym (seen_root w v l h))) in
    parts_read w v u first l m vs h g
    ∙ ap (λ b. read m.places (if b then write (drop first l.places) vs (root_elements w l.root) else root_elements w m.root)) e
    ∙ sym (seen_elements w u m g)

-- an array that isn't there has no elements
none_seen : (w w' : World) (u : ℕ) → look w u ≡ None → look w' u ≡ look w u → elements w' u ≡ elements w u
none_seen w w' u g e =
    ap (λ o. option_map_or (λ n. read n.places (root_elements w' n.root)) o []) (e ∙ g)
    ∙ sym (ap (λ o. option_map_or (λ n. read n.places (root_elements w n.root)) o []) g)

others_cases : (w : World) (v u first : ℕ) (vs : List ℤ) (o p : Option Look) → look w v ≡ o → look w u ≡ p → (root_of w u ≡ root_of w v → ⊥) → elements (assign_part w v first vs) u ≡ elements w u
others_cases w v u first vs None p h g apart = ap (λ x. elements x u) (unseen w v first vs h)
others_cases w v u first vs (Some l) None h g apart = none_seen w (assign_part w v first vs) u g (looks_through w (look w v) u first vs)
others_cases w v u first vs (Some l) (Some m) h g apart = others_seen w v u first l m vs h g apart

pub parts_leave_others : PartsLeaveOthers
parts_leave_others = λ w v u first vs apart. others_cases w v u first vs (look w v) (look w u) refl refl apart

-- what is read where nothing is written is what was read
read_beside : WriteLaws → (ps qs : List (Option ℕ)) (vs es : List ℤ) → ((j k i : ℕ) → j < length vs → get_or ps j None ≡ Some i → get_or qs k None ≡ Some i → ⊥) → read qs (write ps vs es) ≡ read qs es
read_beside laws ps [] vs es h = refl
read_beside laws ps (None ∷ qs) vs es h = ap (λ r. pos 0 ∷ r) (read_beside laws ps qs vs es (λ j k i a e g. h j (suc k) i a e g))
read_beside laws ps (Some q ∷ qs) vs es h =
    let tail : read qs (write ps vs es) ≡ read qs es = read_beside laws ps qs vs es (λ j k i a e g. h j (suc k) i a e g) in
    let head : get_or (write ps vs es) q (pos 0) ≡ get_or es q (pos 0) = laws.others ps vs es q (pos 0) (λ j a e. h j 0 q a e refl) in
    cc

later_read : WriteLaws → (ps qs : List (Option ℕ)) (first : ℕ) (vs es : List ℤ) → IsReadBefore ps qs → drop (first + length vs) (read qs (write (drop first ps) vs es)) ≡ drop (first + length vs) (read qs es)
later_read laws ps qs first vs es ahead =
    let n : ℕ = first + length vs in
    drop-map (element_at (write (drop first ps) vs es)) n qs
    ∙ read_beside laws (drop first ps) (drop n qs) vs es (λ j k i a e g. ahead (first + j) (n + k) i (omega arith) (sym (get_or-drop first ps j None) ∙ e) (sym (get_or-drop n qs k None) ∙ g))
    ∙ sym (drop-map (element_at es) n qs)

pub parts_leave_later : WriteLaws → PartsLeaveLater
parts_leave_later laws = λ w v u first l m vs h g ahead. elim (eqb_tells m.root l.root) [
  | inl t ↦ (let n : ℕ = first + length vs in
      ap (drop n) (parts_read w v u first l m vs h g)
      ∙ ap (λ b. drop n (read m.places (if b then write (drop first l.places) vs (root_elements w l.root) else root_elements w m.root))) t.0
      ∙ later_read laws l.places m.places first vs (root_elements w l.root) ahead
      ∙ ap (λ r. drop n (read m.places (root_elements w r))) (sym t.1)
      ∙ sym (ap (drop n) (seen_elements w u m g)))
  | inr t ↦ (let n : ℕ = first + length vs in
      ap (drop n) (others_seen w v u first l m vs h g (λ e. t.1 (sym (seen_root w u m g) ∙ e ∙ seen_root w v l h))))
]

pub once_is_before : (ps : List (Option ℕ)) → has_repeats ps ≡ false → IsReadBefore ps ps
once_is_before ps r = λ j k i a e g. apart ps r j k i a (entry_inside ps k i g) e g

pub parts_leave_rest : WriteLaws → PartsLeaveRest
parts_leave_rest laws = λ w v first l vs h r. parts_leave_later laws w v v first l l vs h h (once_is_before l.places r)

sound_cases : WriteLaws → (w : World) (v first : ℕ) (vs : List ℤ) (o : Option Look) → look w v ≡ o → IsSound w → All (InRange (option_map_or (λ l. l.ty) o Byte)) vs → IsSound (assign_part_through w o first vs)
sound_cases laws w v first vs None h s a = s
sound_cases laws w v first vs (Some l) h s a =
    let ps : List (Option ℕ) = drop first l.places in
    sound_set w v l (write ps vs (root_elements w l.root)) s h (laws.as_many ps vs (root_elements w l.root)) (written_in_range laws (InRange l.ty) ps vs (root_elements w l.root) a (seen_in_range w v l s h))

pub parts_assign_soundly : WriteLaws → PartsAssignSoundly
parts_assign_soundly laws = λ w v first vs s a. sound_cases laws w v first vs (look w v) refl s a

pub nothing_stays : NothingStays
nothing_stays = λ w v s. nothing_through w (look w v) s
