-- A dump doesn't tell arrays by their numbers.
use Rattle.std.proofs.Common.{◌≡◌, ℕ, suc, ◌+◌, ◌<◌, ◌≤◌, List, [], ◌∷◌, map, length, Bool, true, false, Some, None, Result, Err, refl, ap, ◌∙◌, arith}
use Rattle.std.specs.Prelude.{◌==◌, nat_lt, is_some, if◌then◌else◌, option_map}
use Rattle.std.specs.List.{list_any}
use Rattle.std.proofs.lemmas.Bool.{eqb-true, eqb-false, ltb-true, ltb-false}
use Rattle.pdl_lemmas.specs.Tests.{by_test}
use Rattle.pdl_world.specs.World.{World, ArrayDef, root, view}
use Rattle.pdl_image.specs.Lines.{Line}
use Rattle.pdl_image.specs.Dump.{dump}
use Rattle.pdl_machine.specs.declared.fault.Fault.{Fault}
use Rattle.pdl_machine.specs.declared.fault.Fault.TheVariants.{DumpFlow, StillWatched, TooManyNames}
use Rattle.pdl_machine.specs.Names.{KernelTexts, Named, Names, names_limit}
use Rattle.std.proofs.lemmas.List.{length-map}
use Rattle.pdl_machine.specs.Flows.{Flows, flow_by}
use Rattle.pdl_machine.specs.State.{State, kept}
use Rattle.pdl_machine.specs.Watches.{Watches}
use Rattle.pdl_machine.specs.Tidy.{older, renumber, renumbered, with_parent}
use Rattle.pdl_machine.specs.Dumps.{definition, dump_lines, text_within, dumped}
use Rattle.pdl_machine.specs.DumpLaws.{DumpsNameByNumbers}
use Rattle.pdl_machine.proofs.ArraysRenamed.{IsApart, Renames, empty, same, StateAlike}
use Rattle.pdl_machine.proofs.TidyLemmas.{renamed, length-renamed, renumber_renamed, names_renamed}

-- where these are all arrays, they are the same ones under other numbers
all_renamed : (g : ℕ → ℕ) {w u : World} → Renames g true w u → u ≡ renamed g w
all_renamed g empty = refl
all_renamed g (same i d r) = ap (λ (z : World). (g i, with_parent g d) ∷ z) (all_renamed g r)

length-numbers : (g : ℕ → ℕ) (names : Named ℕ) → length (renumbered g names) ≡ length names
length-numbers g [] = refl
length-numbers g (n ∷ names) = ap suc (length-numbers g names)

abbrev dump_by : Named KernelTexts → World → Named ℕ → List Line
dump_by kernels w names = dump (map definition kernels) w names

-- the same lines
pub lines_alike : (g : ℕ → ℕ) (s t : State) → StateAlike true g s t → dump_lines t ≡ dump_lines s
lines_alike g s t h =
    let apart : IsApart g = h.arrays.apart in
    let w : World = s.arrays.world in
    let world : t.arrays.world ≡ renamed g w = all_renamed g h.arrays.world in
    let numbers : renumber t.arrays.world ≡ renumber w = ap renumber world ∙ renumber_renamed g apart w in
    let names : renumbered (older t.arrays.world) t.names.arrays ≡ renumbered (older w) s.names.arrays =
    ap (λ (u : World). renumbered (older u) t.names.arrays) world ∙ ap (λ (n : Names). renumbered (older (renamed g w)) n.arrays) h.names
    ∙ names_renamed g apart w s.names.arrays in
    all_same (ap (λ (n : Names). n.kernels) h.names) numbers names
  where
    all_same : {ks ls : Named KernelTexts} {u v : World} {ns ms : Named ℕ} → ks ≡ ls → u ≡ v → ns ≡ ms → dump_by ks u ns ≡ dump_by ls v ms
    all_same p q r = cc

-- a slot is attached under other numbers if it was
attached_alike : (g : ℕ → ℕ) (ws : Watches) → list_any is_some (map (option_map g) ws) ≡ list_any is_some ws
attached_alike g [] = refl
attached_alike g (None ∷ ws) = attached_alike g ws
attached_alike g (Some v ∷ ws) = refl

abbrev text_by : (watched : Bool) (flows arrays names : ℕ) → List Line → Result (List ℕ) Fault
text_by watched flows arrays names lines =
    if watched then Err StillWatched
    else if nat_lt 0 flows then Err DumpFlow
    else if nat_lt names_limit (arrays + names + 1) then Err TooManyNames
    else text_within lines

-- and the same text, or the same refusal
pub dumped_alike : (g : ℕ → ℕ) (s t : State) → StateAlike true g s t → dumped t ≡ dumped s
dumped_alike g s t h =
    let watched : list_any is_some t.watches ≡ list_any is_some s.watches = ap (list_any is_some) h.watches ∙ attached_alike g s.watches in
    let arrays : length t.arrays.world ≡ length s.arrays.world = ap length (all_renamed g h.arrays.world) ∙ length-renamed g s.arrays.world in
    let names : length t.names.arrays ≡ length s.names.arrays =
    ap (λ (n : Names). length n.arrays) h.names ∙ length-numbers g s.names.arrays in
    let flows : length t.flows ≡ length s.flows = ap (λ (fs : Flows). length fs) h.flows ∙ length-map s.flows (flow_by g) in
    all_same watched flows arrays names (lines_alike g s t h)
  where
    all_same : {a b : Bool} {c d i j m n : ℕ} {ls ks : List Line} → a ≡ b → i ≡ j → c ≡ d → m ≡ n → ls ≡ ks → text_by a i c m ls ≡ text_by b j d n ks
    all_same p f q r o = cc

-- ---- numbers of a tidied state

pub length-renumber : (w : World) → length (renumber w) ≡ length w
length-renumber [] = refl
length-renumber ((k, d) ∷ w) = ap suc (length-renumber w)

-- in order a number is the count of the older ones
older_self : (w : World) (n : ℕ) → n < length w → older (renumber w) n ≡ n
older_self [] n low = absurd (omega (arith, low))
older_self ((k, d) ∷ w) n low =
    by_test (length w == n)
    (λ same. rw same (length-renumber w ∙ eqb-true (length w) n same))
    (λ other. rw other (older_self w n (under (length w) n low other)))
  where
    under : (m n : ℕ) → n < suc m → (m == n) ≡ false → n < m
    under m n low other =
        by_test (nat_lt n m) (λ is. ltb-true n m is)
        (λ not. let le : m ≤ n = ltb-false n m not in absurd (eqb-false m n other (omega (arith, le, low))))

older_most : (w : World) (v : ℕ) → older w v < suc (length w)
older_most [] v = omega arith
older_most ((k, d) ∷ w) v =
    by_test (k == v) (λ same. rw same (omega arith)) (λ other. let l : older w v < suc (length w) = older_most w v in rw other (omega (arith, l)))

older_low : (k : ℕ) (d : ArrayDef) (w : World) (v : ℕ) → older ((k, d) ∷ w) v < suc (length w)
older_low k d w v = by_test (k == v) (λ same. rw same (omega arith)) (λ other. rw other (older_most w v))

older_again : (w : World) (v : ℕ) → older (renumber w) (older w v) ≡ older w v
older_again [] v = refl
older_again ((k, d) ∷ w) v = older_self ((k, d) ∷ w) (older ((k, d) ∷ w) v) (older_low k d w v)

parent_again : (w : World) (d : ArrayDef) → with_parent (older (renumber w)) (with_parent (older w) d) ≡ with_parent (older w) d
parent_again w (root ty ds es) = refl
parent_again w (view p t) = ap (λ n. view n t) (older_again w p)

abbrev array_onto : ℕ → ArrayDef → World → World
array_onto n d w = (n, d) ∷ w

pub renumber_again : (w : World) → renumber (renumber w) ≡ renumber w
renumber_again [] = refl
renumber_again ((k, d) ∷ w) = three (length-renumber w) (parent_again w d) (renumber_again w)
  where
    three : {n m : ℕ} {x y : ArrayDef} {u v : World} → n ≡ m → x ≡ y → u ≡ v → array_onto n x u ≡ array_onto m y v
    three p q s = cc

names_again : (w : World) (names : Named ℕ) → renumbered (older (renumber w)) (renumbered (older w) names) ≡ renumbered (older w) names
names_again w [] = refl
names_again w (n ∷ names) =
    ap (λ v. (n.0, v) ∷ renumbered (older (renumber w)) (renumbered (older w) names)) (older_again w n.1)
    ∙ ap (λ rest. (n.0, older w n.1) ∷ rest) (names_again w names)

pub dumps_name_by_numbers : DumpsNameByNumbers
dumps_name_by_numbers s =
    let w : World = kept s in
    ap (λ (u : World). dump_by s.names.kernels u (renumbered (older (renumber w)) (renumbered (older w) s.names.arrays))) (renumber_again w)
    ∙ ap (λ (ns : Named ℕ). dump_by s.names.kernels (renumber w) ns) (names_again w s.names.arrays)
