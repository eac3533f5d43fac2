-- Spelled literals are arrays, and spelled statements are well made.
use Rattle.std.proofs.Common.{◌≡◌, ◌≤◌, ◌*◌, ℕ, suc, ℤ, pos, nat_le, nat_eq, List, length, All, Bool, true, false, ◌||◌, if◌then◌else◌, Option, Some, None, refl, sym, ◌∙◌, subst, arith, eqb-true}
use Rattle.std.proofs.lemmas.Int.{ints}
use Rattle.std.specs.List.{AllByRecursion}
use Rattle.std.proofs.lemmas.List.Elements.{All-nil, All-push, recursion_from_All}
use Rattle.std.proofs.lemmas.Bool.{or_parts, not-false, leb-true}
use Rattle.pdl_lexemes.specs.declared.Lexeme.{Lexeme}
use Rattle.pdl_lexemes.specs.declared.WordKind.{WordKind}
use Rattle.pdl_lexemes.specs.Lists.{signed}
use Rattle.pdl_lexemes.specs.Texts.{IsName, IsQuotable, HoldsText}
use Rattle.pdl_lexemes.specs.Laws.{FillsArray, ListsAreArrays}
use Rattle.pdl_lemmas.specs.Options.{none_some, some_inj}
use Rattle.pdl_syntax.specs.Tree.{Tree, Args, none, value}
use Rattle.pdl_syntax.specs.Ragged.{is_ragged, are_ragged, in_views, in_statement}
use Rattle.pdl_syntax.proofs.RaggedStatements.{any_last}
use Rattle.pdl_syntax.specs.Grammar.{literal_of, Spells, Part, an_expr, a_postfix, a_primary, an_arg, some_args, closed_args, maybe_args, same, joined, once, negated, prefixed, plain, bare, method, a_number, a_name, list, round_list, called, round, a_value, a_text, a_type, one, more as more_args, no_args, all_args, without, within}
use Rattle.pdl_syntax.specs.StatementTree.{StatementTree, View}
use Rattle.pdl_syntax.specs.Statements.{SpellsNames, one_name, more_names, SpellsText, plain_text, labelled, SpellsViews, no_views, one_view, SpellsCalled, by_word, by_method, SpellsBinding, binds_value, binds_severed, binds_names, SpellsStatement, binds, my_binds, assigns, shows_text, shows, shows_info, severs, reshapes, undefs, lists_names, dumps, flows, defines, watches, unwatches}
use Rattle.pdl_syntax.specs.WellMade.{IsCount, AreArrays, AreArgArrays, IsCall, IsWellMade}

record SignedIs (n : ℕ) (z : ℤ) : Type 0 where
  small : n ≤ 9223372036854775807
  value : z ≡ pos n

signed_is : (n : ℕ) (z : ℤ) → signed n ≡ Some z → SignedIs n z
signed_is n z e = of_test (nat_le n 9223372036854775807) refl e
  where
    of_test : (b : Bool) → nat_le n 9223372036854775807 ≡ b → (if b then Some (pos n) else None) ≡ Some z → SignedIs n z
    of_test true t k = record { small = leb-true n 9223372036854775807 t; value = sym (some_inj k) }
    of_test false t k = absurd (none_some k)

is_count : (n : ℕ) (z : ℤ) → signed n ≡ Some z → IsCount z
is_count n z e =
    let s = signed_is n z e in
    let small = s.small in
    subst IsCount (sym s.value) (record { least = omega (arith, ints); most = omega (arith, ints) })

literal_array : (shape : Option (List ℕ)) (es : List ℤ) → FillsArray shape es → is_ragged (literal_of shape es) ≡ false → AreArrays (literal_of shape es)
literal_array None es fills e =
    let same : length es ≡ suc (length es) * 1 = eqb-true (length es) (suc (length es) * 1) (not-false (nat_eq (length es) (suc (length es) * 1)) e) in
    absurd (omega (arith, same))
literal_array (Some d) es fills e = record { count = fills.count; in_range = fills.in_range }

-- what is spelled without ragged lists, behind arguments that hold arrays alone, holds arrays alone
abbrev AddsArrays : Args → Args → Type 0
AddsArrays front all = are_ragged all ≡ false → (are_ragged front ≡ false) × (AreArgArrays front → AreArgArrays all)

abbrev HasArrays : Tree → Type 0
HasArrays t = is_ragged t ≡ false → AreArrays t

abbrev Holds : Part → Type 0
Holds (an_expr l t) = HasArrays t
Holds (a_postfix t) = HasArrays t
Holds (a_primary t) = HasArrays t
Holds (an_arg front all) = AddsArrays front all
Holds (some_args front all) = AddsArrays front all
Holds (closed_args front all) = AddsArrays front all
Holds (maybe_args front all) = AddsArrays front all

both_arrays : (a b : Tree) → HasArrays a → HasArrays b → (is_ragged a || is_ragged b) ≡ false → AreArrays a × AreArrays b
both_arrays a b h k e = let parts = or_parts (is_ragged a) (is_ragged b) e in (h parts.0, k parts.1)

method_arrays : (t : Tree) (args : Args) → HasArrays t → AddsArrays (value none t) args → are_ragged args ≡ false → AreArgArrays args
method_arrays t args h k e = let more = k e in more.1 (tt, h more.0)

pub arrays : ListsAreArrays → {source : List ℕ} {p : Part} {ts rest : List Lexeme} → Spells source p ts rest → Holds p
arrays lists (same h) = arrays lists h
arrays lists (joined {a = a} {b = b} h e m k) = both_arrays a b (arrays lists h) (arrays lists k)
arrays lists (once {a = a} {b = b} h e m k) = both_arrays a b (arrays lists h) (arrays lists k)
arrays lists (negated h) = arrays lists h
arrays lists (prefixed h) = arrays lists h
arrays lists (plain h) = arrays lists h
arrays lists (bare h) = arrays lists h
arrays lists (method {t = t} {args = args} h k) = method_arrays t args (arrays lists h) (arrays lists k)
arrays lists (a_number {n = n} {z = z} e) = λ _. is_count n z e
arrays lists a_name = λ _. tt
arrays lists (list {shape = shape} {elems = elems} h) = literal_array shape elems (lists _ _ shape elems h)
arrays lists (round_list {shape = shape} {elems = elems} h) = literal_array shape elems (lists _ _ shape elems h)
arrays lists (called h) = let k = arrays lists h in λ e. (k e).1 tt
arrays lists (round h) = arrays lists h
arrays lists (a_value {front = front} {t = t} h) = let k = arrays lists h in λ e. let parts = or_parts (are_ragged front) (is_ragged t) e in (parts.0, λ all. (all, k parts.1))
arrays lists a_text = λ e. (e, λ all. all)
arrays lists a_type = λ e. (e, λ all. all)
arrays lists (one h) = arrays lists h
arrays lists (more_args h k) = let a = arrays lists h in let b = arrays lists k in λ e. let y = b e in let x = a y.0 in (x.0, λ all. y.1 (x.1 all))
arrays lists no_args = λ e. (e, λ all. all)
arrays lists (all_args h) = arrays lists h
arrays lists without = λ e. (e, λ all. all)
arrays lists (within h) = arrays lists h

abbrev ViewArrays : View → Type 0
ViewArrays v = AreArgArrays v.1

views_arrays : ListsAreArrays → {source : List ℕ} {front views : List View} {ts rest : List Lexeme} → SpellsViews source front views ts rest → in_views views ≡ false → All ViewArrays front → All ViewArrays views
views_arrays lists no_views e all = all
views_arrays lists (one_view {views = views} {w = w} {args = args} h k) e all =
    let parts = or_parts (in_views views) (are_ragged args) (sym (any_last (λ v. are_ragged v.1) views _) ∙ e) in
    All-push ViewArrays views _ (views_arrays lists h parts.0 all) ((arrays lists k parts.1).1 tt)

called_arrays : ListsAreArrays → {source : List ℕ} {t : Tree} {ts : List Lexeme} → SpellsCalled source t ts → HasArrays t
called_arrays lists (by_word h) = let k = arrays lists h in λ e. (k e).1 tt
called_arrays lists (by_method {t = t} {args = args} h k) = method_arrays t args (arrays lists h) (arrays lists k)

called_calls : {source : List ℕ} {t : Tree} {ts : List Lexeme} → SpellsCalled source t ts → IsCall t
called_calls (by_word h) = tt
called_calls (by_method h k) = tt

-- lexemes whose names are names, and whose strings can be written
abbrev Hold : (source : List ℕ) → List Lexeme → Type 0
Hold source ts = AllByRecursion (HoldsText source) ts

names_hold : {source : List ℕ} {front names : List (List ℕ)} {ts rest : List Lexeme} → SpellsNames source front names ts rest → Hold source ts → All IsName front → All IsName names × Hold source rest
names_hold (one_name {front = front}) all before = (All-push IsName front _ before all.0, all.1)
names_hold (more_names {names = names} h) all before =
    let k = names_hold h all before in
    (All-push IsName names _ k.0 k.1.1.0, k.1.1.1)

text_holds : {source : List ℕ} {label : WordKind} {text : List ℕ} {ts rest : List Lexeme} → SpellsText source label text ts rest → Hold source ts → IsQuotable text × Hold source rest
text_holds plain_text all = all
text_holds labelled all = all.1.1

binding_made : ListsAreArrays → {source : List ℕ} {s : StatementTree} {ts : List Lexeme} → SpellsBinding source s ts → in_statement s ≡ false → Hold source ts → IsWellMade s
binding_made lists (binds_value h) e all = (all.0, arrays lists h e)
binding_made lists (binds_severed h b) e all = (all.0, arrays lists h e)
binding_made lists (binds_names h c) e all = ((names_hold h all.1 (All-nil IsName)).0, called_calls c, called_arrays lists c e)

statement_made : ListsAreArrays → {source : List ℕ} {s : StatementTree} {ts : List Lexeme} → SpellsStatement source s ts → in_statement s ≡ false → Hold source ts → IsWellMade s
statement_made lists (binds h) e all = binding_made lists h e all
statement_made lists (my_binds h) e all = binding_made lists h e all.1
statement_made lists (assigns {views = views} {t = t} v h) e all =
    let parts = or_parts (in_views views) (is_ragged t) e in
    (all.0, views_arrays lists v parts.0 (All-nil ViewArrays), arrays lists h parts.1)
statement_made lists shows_text e all = all.1.0
statement_made lists (shows h) e all = arrays lists h e
statement_made lists (shows_info h b) e all = arrays lists h e
statement_made lists (severs b) e all = all.0
statement_made lists (reshapes h) e all = (all.0, (arrays lists h e).1 tt)
statement_made lists undefs e all = all.1.0
statement_made lists lists_names e all = tt
statement_made lists dumps e all = tt
statement_made lists (flows h formula arrow) e all = (all.1.0, formula, arrays lists h e)
statement_made lists (defines h k) e all =
    let signature = text_holds h all.1.1.1.1 in
    (all.1.1.0, signature.0, (text_holds k signature.1.1).0)
statement_made lists (watches count) e all = all.1.0
statement_made lists (unwatches count) e all = tt

-- what is spelled without ragged lists is well made
pub well_made : ListsAreArrays → {source : List ℕ} {s : StatementTree} {ts : List Lexeme} → SpellsStatement source s ts → in_statement s ≡ false → All (HoldsText source) ts → IsWellMade s
well_made lists {source = source} {ts = ts} h e all = statement_made lists h e (recursion_from_All (HoldsText source) ts all)
