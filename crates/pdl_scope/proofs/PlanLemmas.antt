-- Plans: where arrays are made ready, where one more assignment comes, and where they are made.
use Rattle.std.proofs.Common.{◌≡◌, ℕ, zero, suc, ◌+◌, ◌<◌, ◌≤◌, ℤ, List, [], ◌∷◌, ◌++◌, drop, length, get_or, All, Bool, true, false, Option, refl, sym, ap, subst, ◌∙◌, arith, eqb-true, eq-eqb}
use Rattle.std.specs.Prelude.{◌==◌, ◌||◌}
use Rattle.std.specs.Option.{option_map_or}
use Rattle.std.proofs.lemmas.Bool.{or_from, or_parts}
use Rattle.std.proofs.lemmas.List.{drop_more}
use Rattle.pdl_lemmas.specs.Tests.{by_test}
use Rattle.pdl_elem.specs.declared.Ty.{Ty}
use Rattle.pdl_elem.specs.declared.Ty.TheVariants.{Byte}
use Rattle.pdl_elem.specs.Types.{InRange}
use Rattle.pdl_shape.specs.Shape.{size_of}
use Rattle.pdl_world.specs.BaseLaws.{AssignmentsLeaveBases, IsShownAsBefore}
use Rattle.pdl_world.specs.KeepingLaws.{AssignsKeepAll}
use Rattle.pdl_world.specs.Laws.{AssignsSoundly, LooksStay, NumbersStay}
use Rattle.pdl_world.specs.Paths.{root_of}
use Rattle.pdl_world.specs.Sound.{IsLive, IsSound, NumbersBelow}
use Rattle.pdl_world.specs.Swept.{KeepsAll, is_listed}
use Rattle.pdl_world.specs.Windows.{base}
use Rattle.pdl_world.specs.World.{World, Look, assign, dims_in, has_repeats, places_in, ty_in}
use Rattle.pdl_engine.specs.Reading.{IsWarm}
use Rattle.pdl_engine.specs.State.{State as Engine, SameArrays, StayFresh, is_fresh}
use Rattle.pdl_scope.specs.Assigning.{CanAssign}
use Rattle.pdl_scope.specs.Plans.{AllCanAssign, AllForetell, AreApart, AreFor, AreForetold, ArePlanned, IsChange, IsForetold, all_assigned, listed, roots_in}
use Rattle.pdl_scope.specs.declared.following.Change.{Change}
use Rattle.pdl_scope.specs.declared.following.Values.{Values}
use Rattle.pdl_scope.specs.declared.following.Values.TheVariants.{Kept, Listed}
use Rattle.pdl_scope.proofs.FlowFollowers.{listed_last}
use Rattle.pdl_scope.proofs.PlanAssignments.{live_stays, root_stays, roots_more}

-- ---- where arrays are made ready

can_kept : (e t : Engine) → SameArrays e t → StayFresh e t → (v : ℕ) (vs : List ℤ) → CanAssign e v vs → CanAssign t v vs
can_kept e t same stay v vs h = record {
  live = subst (λ (w : World). IsLive w v) (sym same.world) h.live;
  fresh = stay v h.fresh;
  count = h.count ∙ ap (λ (w : World). size_of (dims_in w v)) (sym same.world);
  in_range = subst (λ (w : World). All (InRange (ty_in w v)) vs) (sym same.world) h.in_range;
}

all_kept : (e t : Engine) → SameArrays e t → StayFresh e t → (cs : List Change) → AllCanAssign e cs → AllCanAssign t cs
all_kept e t same stay [] h = tt
all_kept e t same stay (c ∷ cs) h = (can_kept e t same stay c.target (listed c.values) h.0, subst (λ (w : World). AreFor w c.target c.values) (sym same.world) h.1, all_kept e t same stay cs h.2)

pub planned_kept : (e t : Engine) → SameArrays e t → StayFresh e t → (cs : List Change) → ArePlanned e cs → ArePlanned t cs
planned_kept e t same stay cs h = record {
  foretold = subst (λ (w : World). AreForetold w cs) (sym same.world) h.foretold;
  can = all_kept e t same stay cs h.can;
}

-- ---- one more assignment

not_other : (a b : ℕ) → (a == b) ≡ false → (b == a) ≡ false
not_other a b other = by_test (b == a) (λ same. let t : (a == b) ≡ true = eq-eqb a b (sym (eqb-true b a same)) in cc) (λ o. o)

apart_more : (w : World) (cs : List Change) (c : Change) → AreApart w cs → c.root ≡ root_of w c.target → is_listed (roots_in cs) c.root ≡ false → AreApart w (cs ++ c ∷ [])
apart_more w [] c h own none = (own, refl, tt)
apart_more w (b ∷ cs) c h own none =
    let parts = or_parts (b.root == c.root) (is_listed (roots_in cs) c.root) none in (
      h.0,
      ap (λ (rs : List ℕ). is_listed rs b.root) (roots_more cs c) ∙ listed_last (roots_in cs) c.root b.root
          ∙ or_from (c.root == b.root) (is_listed (roots_in cs) b.root) (not_other b.root c.root parts.0) h.1,
      apart_more w cs c h.2 own parts.1,
    )

each_more : (w : World) (cs : List Change) (e : Engine) (c : Change) → w ≡ e.world → AllForetell w cs → IsChange e c → AllForetell w (cs ++ c ∷ [])
each_more w [] e c same h is = (subst (λ (x : World). IsLive x c.target) (sym same) is.can.live, subst (λ (x : World). IsForetold x c) (sym same) is.foretells, tt)
each_more w (b ∷ cs) e c same h is = (h.0, h.1, each_more w cs e c same h.2 is)

can_more : (e : Engine) (cs : List Change) (c : Change) → AllCanAssign e cs → IsChange e c → AllCanAssign e (cs ++ c ∷ [])
can_more e [] c h is = (is.can, is.fit, tt)
can_more e (b ∷ cs) c h is = (h.0, h.1, can_more e cs c h.2 is)

pub planned_more : (e : Engine) (cs : List Change) (c : Change) → ArePlanned e cs → IsChange e c → is_listed (roots_in cs) c.root ≡ false → ArePlanned e (cs ++ c ∷ [])
planned_more e cs c h is none = record {
  foretold = record { apart = apart_more e.world cs c h.foretold.apart is.root none; each = each_more e.world cs e c refl h.foretold.each is };
  can = can_more e cs c h.can is;
}

-- ---- where they are made

-- another family was assigned to
pub record IsAfter (e t : Engine) (v : ℕ) (vs : List ℤ) : Type 0 where
  pub world : t.world ≡ assign e.world v vs
  pub others : (u : ℕ) → (root_of e.world u ≡ root_of e.world v → ⊥) → is_fresh e u ≡ true → is_fresh t u ≡ true

abbrev pub type_by : Option Look → Ty
type_by o = option_map_or (λ (l : Look). l.ty) o Byte

abbrev pub dims_by : Option Look → List ℕ
dims_by o = option_map_or (λ (l : Look). l.dims) o []

-- so is the base of an array
base_places : AssignmentsLeaveBases → (w : World) (v u : ℕ) (vs : List ℤ) → places_in (assign w v vs) (base (assign w v vs) u) ≡ places_in w (base w u)
base_places bases w v u vs =
    let kept : IsShownAsBefore w (assign w v vs) u = bases w v u vs in
    ap (places_in (assign w v vs)) kept.base_is ∙ ap (λ (o : Option Look). option_map_or (λ (l : Look). l.places) o []) kept.base_look_is

can_after : LooksStay → (e t : Engine) (v u : ℕ) (vs us : List ℤ) → IsAfter e t v vs → (root_of e.world u ≡ root_of e.world v → ⊥) → CanAssign e u us → CanAssign t u us
can_after looks e t v u vs us h other can =
    let x : World = assign e.world v vs in
    let seen = looks e.world v u vs in record {
      live = subst (λ (w : World). IsLive w u) (sym h.world) (live_stays looks e.world v u vs can.live);
      fresh = h.others u other can.fresh;
      count = can.count ∙ ap size_of (sym (ap (λ (w : World). dims_in w u) h.world ∙ ap dims_by seen));
      in_range = subst (λ (ty : Ty). All (InRange ty) us) (sym (ap (λ (w : World). ty_in w u) h.world ∙ ap type_by seen)) can.in_range;
    }

-- values are for an array as before
fit_after : LooksStay → AssignmentsLeaveBases → (w : World) (v u : ℕ) (vs : List ℤ) (values : Values) → AreFor w u values → AreFor (assign w v vs) u values
fit_after looks bases w v u vs (Listed us) h = tt
fit_after looks bases w v u vs (Kept k) h =
    let seen = looks w v u vs in
    (h.0 ∙ sym (ap type_by seen), h.1 ∙ sym (ap dims_by seen), ap has_repeats (base_places bases w v u vs) ∙ h.2)

-- the others can be made still, and are apart
pub all_after : LooksStay → AssignmentsLeaveBases → (e t : Engine) (c : Change) (cs : List Change) → IsAfter e t c.target (listed c.values) → c.root ≡ root_of e.world c.target → is_listed (roots_in cs) c.root ≡ false
    → AreApart e.world cs → AllCanAssign e cs → AllCanAssign t cs
all_after looks bases e t c [] h own none apart can = tt
all_after looks bases e t c (b ∷ cs) h own none apart can =
    let parts = or_parts (b.root == c.root) (is_listed (roots_in cs) c.root) none in
    let other : root_of e.world b.target ≡ root_of e.world c.target → ⊥ =
    λ same. (let is : (b.root == c.root) ≡ true = eq-eqb b.root c.root (apart.0 ∙ same ∙ sym own) in clash is parts.0) in (
      can_after looks e t c.target b.target (listed c.values) (listed b.values) h other can.0,
      subst (λ (w : World). AreFor w b.target b.values) (sym h.world) (fit_after looks bases e.world c.target b.target (listed c.values) b.values can.1),
      all_after looks bases e t c cs h own parts.1 apart.2 can.2,
    )
  where
    clash : {b : Bool} → b ≡ true → b ≡ false → ⊥
    clash t f = cc

-- what can be lent of another family is so still
pub warm_kept : AssignmentsLeaveBases → (e t : Engine) (v u : ℕ) (vs : List ℤ) → IsAfter e t v vs → (root_of e.world u ≡ root_of e.world v → ⊥) → IsWarm e u → IsWarm t u
warm_kept bases e t v u vs h other warm none =
    let b = base e.world u in
    let same : places_in t.world (base t.world u) ≡ places_in e.world b =
    ap (λ (w : World). places_in w (base w u)) h.world ∙ base_places bases e.world v u vs in
    h.others u other (warm (ap has_repeats (sym same) ∙ none))

-- it was made as the first, and can be lent unless its base has repeats; those that are left are to other roots
pub record IsMadeFirst (e : Engine) (c : Change) (left : List Change) : Type 0 where
  pub warm : IsWarm e c.target
  pub root : root_of e.world c.target ≡ c.root
  pub apart : is_listed (roots_in left) c.root ≡ false

-- once the next is made
pub made_next : LooksStay → AssignmentsLeaveBases → (e t : Engine) (c d : Change) (left : List Change) → IsAfter e t d.target (listed d.values) → d.root ≡ root_of e.world d.target → IsMadeFirst e c (d ∷ left) → IsMadeFirst t c left
made_next looks bases e t c d left h own made =
    let parts = or_parts (d.root == c.root) (is_listed (roots_in left) c.root) made.apart in
    let other : root_of e.world c.target ≡ root_of e.world d.target → ⊥ =
    λ same. (let is : (d.root == c.root) ≡ true = eq-eqb d.root c.root (own ∙ sym same ∙ made.root) in clash is parts.0) in
    record {
      warm = warm_kept bases e t d.target c.target (listed d.values) h other made.warm;
      root = ap (λ (w : World). root_of w c.target) h.world ∙ root_stays looks e.world d.target c.target (listed d.values) ∙ made.root;
      apart = parts.1;
    }
  where
    clash : {b : Bool} → b ≡ true → b ≡ false → ⊥
    clash t f = cc

-- the world stays sound, its numbers stay, and all is kept that was
pub sound_after : AssignsSoundly → LooksStay → (w : World) (e : Engine) (cs : List Change) → ((v : ℕ) → ty_in w v ≡ ty_in e.world v) → AllCanAssign e cs → IsSound w → IsSound (all_assigned w cs)
sound_after sound looks w e [] same can is = is
sound_after sound looks w e (c ∷ cs) same can is =
    let vs : List ℤ = listed c.values in
    sound_after sound looks (assign w c.target vs) e cs (λ v. ap type_by (looks w c.target v vs) ∙ same v) can.2
    (sound w c.target vs is (subst (λ (ty : Ty). All (InRange ty) vs) (sym (same c.target)) can.0.in_range))

pub numbers_after : NumbersStay → (n : ℕ) (w : World) (cs : List Change) → NumbersBelow n w → NumbersBelow n (all_assigned w cs)
numbers_after stay n w [] h = h
numbers_after stay n w (c ∷ cs) h = numbers_after stay n (assign w c.target (listed c.values)) cs (stay w n c.target (listed c.values) h)

pub keeps_after : AssignsKeepAll → (w : World) (cs : List Change) (held : List ℕ) → KeepsAll w held → KeepsAll (all_assigned w cs) held
keeps_after keeps w [] held h = h
keeps_after keeps w (c ∷ cs) held h = keeps_after keeps (assign w c.target (listed c.values)) cs held (keeps w c.target (listed c.values) held h)
