-- The statements of a dump, one after another.
use Rattle.std.proofs.Common.{◌≡◌, ℕ, suc, ◌+◌, ◌≤◌, true, false, List, [], ◌∷◌, ◌++◌, length, refl, sym, ◌∙◌, ap, subst, arith, map, length-append, append_assoc, append-nil}
use Rattle.std.proofs.lemmas.List.{map-append}
use Rattle.std.proofs.lemmas.List.FromFn.{map-range_with_len_more}
use Rattle.std.specs.Cmp.Lexicographic.{pointwise}
use Rattle.std.specs.List.{range_with_len}
use Rattle.std.specs.Prelude.{None, Ok, nat_eq}
use Rattle.pdl_lemmas.specs.Options.{none_some}
use Rattle.pdl_lemmas.specs.Tests.{by_test}
use Rattle.pdl_world.specs.KeepingLaws.{MoreKeepAll}
use Rattle.pdl_world.specs.World.{World}
use Rattle.pdl_image.specs.Dump.{definition_line, name_line, undef_lines}
use Rattle.pdl_image.specs.Lines.{Line, kernel_line, same_line, undef_line}
use Rattle.pdl_image.specs.Stems.{name_at}
use Rattle.pdl_reread.specs.Trees.{line_tree}
use Rattle.pdl_machine.specs.Dumps.{definition}
use Rattle.pdl_machine.specs.Kernels.{defined}
use Rattle.pdl_machine.specs.Names.{KernelTexts, Named, found, kernels_limit}
use Rattle.pdl_machine.specs.Watches.{Watches}
use Rattle.pdl_rebuild.specs.Named.{NamesAreBound, NamesEnd, KernelsAreDefined}
use Rattle.pdl_rebuild.specs.Rebuilt.{state_of, one_name, arrays_of, AreBelow, InOrder, IsResting}
use Rattle.pdl_rebuild.specs.Steps.{Leads, AllLead}
use Rattle.pdl_rebuild.proofs.StepLeads.{none_lead, first_leads, then_lead, one_leads}
use Rattle.pdl_rebuild.proofs.RebuiltStems.{stems, stems_long, stem_found}
use Rattle.pdl_rebuild.proofs.RebuiltTexts.{found_front, found_back, one_new, same_text}
use Rattle.pdl_rebuild.proofs.RebuiltTidied.{below_arrays, includes_front, includes_behind}

-- no name stands twice
abbrev pub AreDistinct : {A : Type 0} → Named A → Type 0
AreDistinct [] = Unit {0}
AreDistinct (n ∷ names) = (found names n.0 ≡ None) × AreDistinct names

-- none of the names is found among these
abbrev pub AreFresh : {A B : Type 0} → Named A → Named B → Type 0
AreFresh done [] = Unit {0}
AreFresh done (n ∷ names) = (found done n.0 ≡ None) × AreFresh done names

-- nor once one of them is there that isn't among the others
pub fresh_more : {A B : Type 0} (done : Named A) (rest : Named B) (x : List ℕ) (a : A) → found rest x ≡ None → AreFresh done rest → AreFresh (done ++ one_name x a) rest
fresh_more done [] x a new fresh = tt
fresh_more done (n ∷ rest) x a new fresh =
    by_test (pointwise nat_eq x n.0)
    (λ same. absurd (none_some (sym (rw same at new))))
    (λ other. (found_back done (one_name x a) n.0 fresh.0 ∙ one_new x n.0 a (λ e. differs n.0 e other), fresh_more done rest x a (rw other at new) fresh.1))
  where
    differs : (y : List ℕ) → y ≡ x → pointwise nat_eq x y ≡ false → ⊥
    differs y e other = true_false (sym (subst (λ z. pointwise nat_eq x z ≡ true) (sym e) (same_text x)) ∙ other) where
      true_false : true ≡ false → ⊥
      true_false e = cc

-- ---- kernels

abbrev pub AreDefined : Named KernelTexts → Type 0
AreDefined [] = Unit {0}
AreDefined (k ∷ kernels) = (defined k.0 k.1.signature k.1.code ≡ Ok k.1) × AreDefined kernels

pub kernels_rebuilt : KernelsAreDefined → (ws : Watches) (done rest : Named KernelTexts) → IsResting ws [] [] → AreDefined rest → AreDistinct rest → AreFresh done rest → length done + length rest ≤ kernels_limit
    → AllLead (state_of ws done [] []) (map line_tree (map definition_line (map definition rest))) (state_of ws (done ++ rest) [] [])
kernels_rebuilt law ws done [] resting are distinct fresh few = subst (λ ks. AllLead (state_of ws done [] []) [] (state_of ws ks [] [])) (sym (append-nil done)) (none_lead (state_of ws done [] []))
kernels_rebuilt law ws done (k ∷ rest) resting are distinct fresh few =
    let more : Named KernelTexts = done ++ one_name k.0 k.1 in
    first_leads (state_of ws done [] []) (state_of ws more [] []) (state_of ws (done ++ (k ∷ rest)) [] []) (line_tree (kernel_line k.0 k.1.signature k.1.code)) (map line_tree (map definition_line (map definition rest))) refl
    (law ws done [] [] k.0 k.1 resting fresh.0 (omega arith) are.0)
    (subst (λ ks. AllLead (state_of ws more [] []) (map line_tree (map definition_line (map definition rest))) (state_of ws ks [] [])) (append_assoc done (one_name k.0 k.1) rest)
    (kernels_rebuilt law ws more rest resting are.1 distinct.1 (fresh_more done rest k.0 k.1 distinct.0 fresh.1) (omega (arith, few, length-append done (one_name k.0 k.1)))))

-- ---- names

-- more names of arrays that are there
resting_with : MoreKeepAll → (ws : Watches) (names more : Named ℕ) (w : World) → IsResting ws names w → AreBelow (length w) (arrays_of more) → IsResting ws (names ++ more) w
resting_with law ws names more w resting below = record {
  idle = resting.idle;
  order = resting.order;
  below = below_arrays (length w) names more resting.below below;
  kept = law w (arrays_of names) (arrays_of (names ++ more)) (includes_front names more) resting.kept;
}

names_length : (stem : List ℕ) (w : World) (done : Named ℕ) → length (stems stem w ++ done) ≡ length w + length done
names_length stem w done = omega (arith, length-append (stems stem w) done, stems_long stem w)

pub names_rebuilt : NamesAreBound → MoreKeepAll → (ws : Watches) (kernels : Named KernelTexts) (stem : List ℕ) (w : World) (done rest : Named ℕ)
    → IsResting ws (stems stem w ++ done) w → AreBelow (length w) (arrays_of rest) → AreDistinct rest → AreFresh (stems stem w ++ done) rest → length w + length done + length rest ≤ 512 → length w ≤ 512
    → AllLead (state_of ws kernels (stems stem w ++ done) w) (map line_tree (map (name_line stem) rest)) (state_of ws kernels (stems stem w ++ (done ++ rest)) w)
names_rebuilt law more ws kernels stem w done [] resting below distinct fresh few small =
    subst (λ ns. AllLead (state_of ws kernels (stems stem w ++ done) w) [] (state_of ws kernels (stems stem w ++ ns) w)) (sym (append-nil done)) (none_lead (state_of ws kernels (stems stem w ++ done) w))
names_rebuilt law more ws kernels stem w done (n ∷ rest) resting below distinct fresh few small =
    let old : Named ℕ = stems stem w ++ done in
    let new : Named ℕ = stems stem w ++ (done ++ one_name n.0 n.1) in
    let same : old ++ one_name n.0 n.1 ≡ new = append_assoc (stems stem w) done (one_name n.0 n.1) in
    first_leads (state_of ws kernels old w) (state_of ws kernels new w) (state_of ws kernels (stems stem w ++ (done ++ (n ∷ rest))) w) (line_tree (same_line n.0 (name_at stem n.1))) (map line_tree (map (name_line stem) rest)) refl
    (subst (λ ns. Leads (state_of ws kernels old w) (line_tree (same_line n.0 (name_at stem n.1))) (state_of ws kernels ns w)) same
    (law ws kernels old w n.0 (name_at stem n.1) n.1 resting fresh.0 (omega (arith, few, names_length stem w done))
    (found_front (stems stem w) done (name_at stem n.1) n.1 (stem_found stem w n.1 (resting.order) small below.0))))
    (subst (λ ns. AllLead (state_of ws kernels new w) (map line_tree (map (name_line stem) rest)) (state_of ws kernels (stems stem w ++ ns) w)) (append_assoc done (one_name n.0 n.1) rest)
    (names_rebuilt law more ws kernels stem w (done ++ one_name n.0 n.1) rest
    (subst (λ ns. IsResting ws ns w) same (resting_with more ws old (one_name n.0 n.1) w resting (below.0, tt)))
    below.1 distinct.1 (subst (λ ns. AreFresh ns rest) same (fresh_more old rest n.0 n.1 distinct.0 fresh.1)) (omega (arith, few, length-append done (one_name n.0 n.1))) small))

-- ---- the dump's own names go, the oldest first

pub stems_undone : NamesEnd → MoreKeepAll → (ws : Watches) (kernels : Named KernelTexts) (stem : List ℕ) (w u : World) (names : Named ℕ) → InOrder u → length u ≤ length w → IsResting ws names w
    → AllLead (state_of ws kernels (stems stem u ++ names) w) (map line_tree (undef_lines stem (length u))) (state_of ws kernels names w)
stems_undone law more ws kernels stem w [] names order some resting = none_lead (state_of ws kernels names w)
stems_undone law more ws kernels stem w ((k, d) ∷ u) names order some resting =
    let x : List ℕ = name_at stem k in
    let with : Named ℕ = one_name x k ++ names in
    let last : List Line = undef_line x ∷ [] in
    let rests : IsResting ws with w = record {
      idle = resting.idle;
      order = resting.order;
      below = (omega (arith, order.0, some), resting.below);
      kept = more w (arrays_of names) (arrays_of with) (includes_behind (k ∷ []) (arrays_of names)) resting.kept;
    } in
    let lines : undef_lines stem (suc (length u)) ≡ undef_lines stem (length u) ++ last =
    ap (λ n. map (λ j. undef_line (name_at stem j)) (range_with_len 0 n)) (one_more (length u))
    ∙ map-range_with_len_more (λ j. undef_line (name_at stem j)) 0 (length u) k (last_is (length u) k order.0) in
    subst (λ ns. AllLead (state_of ws kernels ns w) (map line_tree (undef_lines stem (suc (length u)))) (state_of ws kernels names w)) (sym (append_assoc (stems stem u) (one_name x k) names))
    (subst (λ xs. AllLead (state_of ws kernels (stems stem u ++ with) w) xs (state_of ws kernels names w)) (sym (ap (map line_tree) lines ∙ map-append line_tree (undef_lines stem (length u)) last))
    (then_lead (state_of ws kernels (stems stem u ++ with) w) (state_of ws kernels with w) (state_of ws kernels names w) (map line_tree (undef_lines stem (length u))) (map line_tree last)
    (stems_undone law more ws kernels stem w u with order.1.1 (omega arith) rests)
    (one_leads (state_of ws kernels with w) (state_of ws kernels names w) (line_tree (undef_line x)) refl (law ws kernels names w x k resting))))
  where
    one_more : (n : ℕ) → suc n ≡ n + 1
    one_more n = omega arith

    last_is : (n k : ℕ) → k ≡ n → 0 + n ≡ k
    last_is n k is = omega (arith, is)
