-- Plans to which assignments are added by which flows follow, one after another.
use Rattle.std.proofs.Common.{◌≡◌, ℕ, ◌+◌, ◌<◌, ◌≤◌, Bool, true, false, List, [], ◌∷◌, ◌++◌, append_assoc, drop, get_or, length, refl, sym, ap, subst, ◌∙◌, arith, eq-eqb}
use Rattle.std.specs.Prelude.{◌==◌, ◌||◌}
use Rattle.std.proofs.lemmas.Bool.{or_from, or_left, or_right}
use Rattle.std.proofs.lemmas.List.{drop_more}
use Rattle.pdl_flow.specs.Formula.{arrays_in}
use Rattle.pdl_world.specs.Swept.{is_listed}
use Rattle.pdl_world.specs.World.{World, dims_in}
use Rattle.pdl_engine.specs.State.{State as Engine, SameArrays, StayFresh}
use Rattle.pdl_machine.specs.Arrays.{Arrays}
use Rattle.pdl_machine.specs.Flows.{Flow, Flows, affected, is_flow, reads_from}
use Rattle.pdl_machine.specs.Following.{AreFlows, follow, followed}
use Rattle.pdl_watch.specs.Slots.{StartsWith}
use Rattle.pdl_scope.specs.Costs.{ReadsNoDearer}
use Rattle.pdl_scope.specs.FlowCosts.{follow_steps, followed_steps}
use Rattle.pdl_scope.specs.Plans.{ArePlanned, NoFlowIn, planned, roots_in, values_in}
use Rattle.pdl_scope.specs.Scope.{arrays_of}
use Rattle.pdl_scope.specs.declared.following.Change.{Change}
use Rattle.pdl_scope.proofs.FlowCostLemmas.{IsThere, follow_less, paid_first}
use Rattle.pdl_scope.proofs.FlowingStays.{flow_live}
use Rattle.pdl_scope.proofs.FlowFollowers.{above_apart, affected_by, affected_past, flow_at, listed_last, older_live}
use Rattle.pdl_scope.proofs.ScopeGrowing.{readied_arrays}

-- The flows before this one follow the plan, and what follows it from here on is the rest of all that
-- does.
pub record IsOn (e0 : Engine) (flows : Flows) (cs0 : List Change) (start i : ℕ) (e : Engine) (cs : List Change) (now : ℕ) : Type 0 where
  pub made : ArePlanned e cs
  pub follow : followed (planned (arrays_of e0) cs) (affected e0.world (drop i flows) (roots_in cs)) ≡ followed (planned (arrays_of e0) cs0) (affected e0.world flows (roots_in cs0))
  pub apart : NoFlowIn cs (drop i flows)
  pub behind : StartsWith cs cs0
  pub same : SameArrays e0 e
  pub stay : StayFresh e0 e
  pub runs : now + length (affected e0.world (drop i flows) (roots_in cs)) ≤ start + length (affected e0.world flows (roots_in cs0))
  pub rest : affected e0.world flows (roots_in cs0) ≡ [] → affected e0.world (drop i flows) (roots_in cs) ≡ []

-- What a flow adds to a plan.
pub record IsAdded (e : Engine) (cs : List Change) (f : Flow) (now : ℕ) (t : Engine) (ds : List Change) (later : ℕ) : Type 0 where
  pub made : ArePlanned t ds
  pub follows : planned (arrays_of e) ds ≡ follow (planned (arrays_of e) cs) f
  pub roots : roots_in ds ≡ roots_in cs ++ f.root ∷ []
  pub behind : StartsWith ds cs
  pub same : SameArrays e t
  pub stay : StayFresh e t
  pub run : later ≤ now + 1

abbrev opened : (flows : Flows) (i : ℕ) (f : Flow) → i < length flows → f ≡ get_or flows i f → drop i flows ≡ f ∷ drop (i + 1) flows
opened flows i f lt is = drop_more flows i f lt ∙ ap (λ (g : Flow). g ∷ drop (i + 1) flows) (sym is)

-- nothing is to be added at the start
pub on_first : (e : Engine) (flows : Flows) (cs : List Change) (start : ℕ) → ArePlanned e cs → NoFlowIn cs flows → IsOn e flows cs start 0 e cs start
on_first e flows cs start made apart = record {
  made = made;
  follow = refl;
  apart = apart;
  behind = ([], nothing cs);
  same = record { world = refl; holds = refl; next = refl };
  stay = λ v is. is;
  runs = omega arith;
  rest = λ none. none;
}
  where
    nothing : (ds : List Change) → ds ≡ ds ++ []
    nothing [] = refl
    nothing (d ∷ ds) = ap (λ (xs : List Change). d ∷ xs) (nothing ds)

-- a flow's root isn't in the plan yet
pub root_apart : (e0 e : Engine) (flows : Flows) (cs0 cs : List Change) (start i now : ℕ) (f : Flow) → IsOn e0 flows cs0 start i e cs now → i < length flows → f ≡ get_or flows i f → is_listed (roots_in cs) f.root ≡ false
root_apart e0 e flows cs0 cs start i now f h lt is =
    h.apart f.root (ap (λ (fs : Flows). is_flow fs f.root) (opened flows i f lt is) ∙ or_left (f.root == f.root) (is_flow (drop (i + 1) flows) f.root) (eq-eqb f.root f.root refl))

pub on_added : (e0 e t : Engine) (flows : Flows) (cs0 cs ds : List Change) (start i now later : ℕ) (f : Flow) → AreFlows (arrays_of e0) flows → IsOn e0 flows cs0 start i e cs now → i < length flows → f ≡ get_or flows i f
    → reads_from e.world f (roots_in cs) ≡ true → IsAdded e cs f now t ds later → IsOn e0 flows cs0 start (i + 1) t ds later
on_added e0 e t flows cs0 cs ds start i now later f all h lt is reads added =
    let w : World = e0.world in
    let a : Arrays = arrays_of e0 in
    let ahead : Flows = drop (i + 1) flows in
    let more : List ℕ = roots_in cs ++ f.root ∷ [] in
    let here : reads_from w f (roots_in cs) ≡ true = ap (λ (x : World). reads_from x f (roots_in cs)) (sym h.same.world) ∙ reads in
    let by : affected w (drop i flows) (roots_in cs) ≡ f ∷ affected w ahead more = affected_by w flows i (roots_in cs) f lt is here in
    let next : affected w ahead (roots_in ds) ≡ affected w ahead more = ap (affected w ahead) added.roots in
    let one : planned a ds ≡ follow (planned a cs) f = subst (λ (b : Arrays). planned b ds ≡ follow (planned b cs) f) (readied_arrays e0 e h.same) added.follows in
    let long : length (affected w (drop i flows) (roots_in cs)) ≡ length (f ∷ affected w ahead more) = ap length by in
    let short : length (affected w ahead (roots_in ds)) ≡ length (affected w ahead more) = ap length next in
    let before = h.runs in
    let run = added.run in record {
      made = added.made;
      follow = ap (λ (fs : Flows). followed (planned a ds) fs) next ∙ ap (λ (b : Arrays). followed b (affected w ahead more)) one
          ∙ sym (ap (followed (planned a cs)) by) ∙ h.follow;
      apart = λ r t. ap (λ (rs : List ℕ). is_listed rs r) added.roots ∙ listed_last (roots_in cs) f.root r
          ∙ or_from (f.root == r) (is_listed (roots_in cs) r) (above_apart f.root ahead r (flow_at a flows i f all lt is).above t)
          (h.apart r (ap (λ (fs : Flows). is_flow fs r) (opened flows i f lt is) ∙ or_right (f.root == r) (is_flow ahead r) t));
      behind = starts_later ds cs cs0 added.behind h.behind;
      same = record { world = added.same.world ∙ h.same.world; holds = added.same.holds ∙ h.same.holds; next = added.same.next ∙ h.same.next };
      stay = λ v fresh. added.stay v (h.stay v fresh);
      runs = omega (arith, long, short, before, run);
      rest = λ none. (let e : f ∷ affected w ahead more ≡ [] = sym by ∙ h.rest none in cc);
    }
  where
    starts_later : (xs ys zs : List Change) → StartsWith xs ys → StartsWith ys zs → StartsWith xs zs
    starts_later xs ys zs s t = (t.0 ++ s.0, s.1 ∙ ap (λ (bs : List Change). bs ++ s.0) t.1 ∙ append_assoc zs t.0 s.0)

pub on_past : (e0 e : Engine) (flows : Flows) (cs0 cs : List Change) (start i now : ℕ) (f : Flow) → IsOn e0 flows cs0 start i e cs now → i < length flows → f ≡ get_or flows i f
    → reads_from e.world f (roots_in cs) ≡ false → IsOn e0 flows cs0 start (i + 1) e cs now
on_past e0 e flows cs0 cs start i now f h lt is none =
    let w : World = e0.world in
    let here : reads_from w f (roots_in cs) ≡ false = ap (λ (x : World). reads_from x f (roots_in cs)) (sym h.same.world) ∙ none in
    let past : affected w (drop i flows) (roots_in cs) ≡ affected w (drop (i + 1) flows) (roots_in cs) = affected_past w flows i (roots_in cs) f lt is here in
    let long = ap length past in
    let before = h.runs in record {
      made = h.made;
      follow = ap (followed (planned (arrays_of e0) cs)) (sym past) ∙ h.follow;
      apart = λ r t. h.apart r (ap (λ (fs : Flows). is_flow fs r) (opened flows i f lt is) ∙ or_right (f.root == r) (is_flow (drop (i + 1) flows) r) t);
      behind = h.behind;
      same = h.same;
      stay = h.stay;
      runs = omega (arith, long, before);
      rest = λ all. sym past ∙ h.rest all;
    }

-- where nothing is to follow nothing does
pub none_added : (e0 e : Engine) (flows : Flows) (cs0 cs : List Change) (start i now : ℕ) (f : Flow) → IsOn e0 flows cs0 start i e cs now → i < length flows → f ≡ get_or flows i f
    → reads_from e.world f (roots_in cs) ≡ true → affected e0.world flows (roots_in cs0) ≡ [] → ⊥
none_added e0 e flows cs0 cs start i now f h lt is reads none =
    let here : reads_from e0.world f (roots_in cs) ≡ true = ap (λ (x : World). reads_from x f (roots_in cs)) (sym h.same.world) ∙ reads in
    let all : f ∷ affected e0.world (drop (i + 1) flows) (roots_in cs ++ f.root ∷ []) ≡ [] = sym (affected_by e0.world flows i (roots_in cs) f lt is here) ∙ h.rest none in
    cc

-- ---- what the flows take that follow

-- of the flows from this one on
abbrev pub steps_from : (e0 : Engine) (flows : Flows) (i : ℕ) (cs : List Change) → ℕ
steps_from e0 flows i cs = followed_steps e0 (planned (arrays_of e0) cs) (affected e0.world (drop i flows) (roots_in cs))

-- this one is one of them
steps_open : (e0 e : Engine) (flows : Flows) (cs0 cs : List Change) (start i now : ℕ) (f : Flow) → IsOn e0 flows cs0 start i e cs now → i < length flows → f ≡ get_or flows i f → reads_from e.world f (roots_in cs) ≡ true
    → steps_from e0 flows i cs ≡ follow_steps e0 (planned (arrays_of e0) cs) f + followed_steps e0 (follow (planned (arrays_of e0) cs) f) (affected e0.world (drop (i + 1) flows) (roots_in cs ++ f.root ∷ []))
steps_open e0 e flows cs0 cs start i now f h lt is reads =
    let w : World = e0.world in
    let here : reads_from w f (roots_in cs) ≡ true = ap (λ (x : World). reads_from x f (roots_in cs)) (sym h.same.world) ∙ reads in
    ap (followed_steps e0 (planned (arrays_of e0) cs)) (affected_by w flows i (roots_in cs) f lt is here)

-- those behind it follow what it adds
steps_behind : (e0 e t : Engine) (flows : Flows) (cs0 cs ds : List Change) (start i now later : ℕ) (f : Flow) → IsOn e0 flows cs0 start i e cs now → IsAdded e cs f now t ds later
    → steps_from e0 flows (i + 1) ds ≡ followed_steps e0 (follow (planned (arrays_of e0) cs) f) (affected e0.world (drop (i + 1) flows) (roots_in cs ++ f.root ∷ []))
steps_behind e0 e t flows cs0 cs ds start i now later f h added =
    let ahead : Flows = drop (i + 1) flows in
    let one : planned (arrays_of e0) ds ≡ follow (planned (arrays_of e0) cs) f = subst (λ (b : Arrays). planned b ds ≡ follow (planned b cs) f) (readied_arrays e0 e h.same) added.follows in
    ap (λ (rs : List ℕ). followed_steps e0 (planned (arrays_of e0) ds) (affected e0.world ahead rs)) added.roots
    ∙ ap (λ (b : Arrays). followed_steps e0 b (affected e0.world ahead (roots_in cs ++ f.root ∷ []))) one

-- it takes no more than at the start
follow_here : (e0 e : Engine) (flows : Flows) (cs0 cs : List Change) (start i now : ℕ) (f : Flow) → AreFlows (arrays_of e0) flows → ReadsNoDearer e0 e → IsOn e0 flows cs0 start i e cs now → i < length flows → f ≡ get_or flows i f
    → follow_steps e (planned (arrays_of e) cs) f ≤ follow_steps e0 (planned (arrays_of e0) cs) f
follow_here e0 e flows cs0 cs start i now f all costs h lt is =
    let at = (flow_at (arrays_of e0) flows i f all lt is).flow in
    let there : IsThere e0.world f = record { root = flow_live (arrays_of e0) f at; reads = older_live e0.world f.root (arrays_in f.formula) at.older } in
    let less = follow_less e0 e (planned (arrays_of e0) cs) f costs (ap (λ (w : World). dims_in w f.root) h.same.world) there in
    let same : follow_steps e (planned (arrays_of e) cs) f ≡ follow_steps e (planned (arrays_of e0) cs) f = ap (λ (a : Arrays). follow_steps e (planned a cs) f) (readied_arrays e0 e h.same) in
    omega (arith, less, same)

-- what is paid goes on
pub paid_added : (e0 e t : Engine) (flows : Flows) (cs0 cs ds : List Change) (start i now later begun spent paid : ℕ) (f : Flow) → AreFlows (arrays_of e0) flows → ReadsNoDearer e0 e → IsOn e0 flows cs0 start i e cs now → i < length flows → f ≡ get_or flows i f
    → reads_from e.world f (roots_in cs) ≡ true → IsAdded e cs f now t ds later → spent + values_in cs + steps_from e0 flows i cs ≤ begun + values_in cs0 + steps_from e0 flows 0 cs0
    → paid + values_in ds ≤ spent + values_in cs + follow_steps e (planned (arrays_of e) cs) f → paid + values_in ds + steps_from e0 flows (i + 1) ds ≤ begun + values_in cs0 + steps_from e0 flows 0 cs0
paid_added e0 e t flows cs0 cs ds start i now later begun spent paid f all costs h lt is reads added so_far takes =
    let less = follow_here e0 e flows cs0 cs start i now f all costs h lt is in
    let opens = steps_open e0 e flows cs0 cs start i now f h lt is reads in
    let behind = steps_behind e0 e t flows cs0 cs ds start i now later f h added in
    omega (arith, less, opens, behind, so_far, takes)

-- or ends where memory runs out
pub paid_short : (e0 e : Engine) (flows : Flows) (cs0 cs : List Change) (start i now begun spent paid : ℕ) (f : Flow) → AreFlows (arrays_of e0) flows → ReadsNoDearer e0 e → IsOn e0 flows cs0 start i e cs now → i < length flows → f ≡ get_or flows i f
    → reads_from e.world f (roots_in cs) ≡ true → spent + values_in cs + steps_from e0 flows i cs ≤ begun + values_in cs0 + steps_from e0 flows 0 cs0 → paid ≤ spent + follow_steps e (planned (arrays_of e) cs) f → paid ≤ begun + steps_from e0 flows 0 cs0
paid_short e0 e flows cs0 cs start i now begun spent paid f all costs h lt is reads so_far takes =
    let less = follow_here e0 e flows cs0 cs start i now f all costs h lt is in
    let opens = steps_open e0 e flows cs0 cs start i now f h lt is reads in
    let plain : spent + steps_from e0 flows i cs ≤ begun + steps_from e0 flows 0 cs0 = paid_first cs0 cs begun spent (steps_from e0 flows i cs) (steps_from e0 flows 0 cs0) h.behind so_far in
    omega (arith, less, opens, plain, takes)

-- a flow that doesn't follow takes nothing
pub paid_past : (e0 e : Engine) (flows : Flows) (cs0 cs : List Change) (start i now spent most : ℕ) (f : Flow) → IsOn e0 flows cs0 start i e cs now → i < length flows → f ≡ get_or flows i f
    → reads_from e.world f (roots_in cs) ≡ false → spent + values_in cs + steps_from e0 flows i cs ≤ most → spent + values_in cs + steps_from e0 flows (i + 1) cs ≤ most
paid_past e0 e flows cs0 cs start i now spent most f h lt is none so_far =
    let w : World = e0.world in
    let here : reads_from w f (roots_in cs) ≡ false = ap (λ (x : World). reads_from x f (roots_in cs)) (sym h.same.world) ∙ none in
    let past : steps_from e0 flows i cs ≡ steps_from e0 flows (i + 1) cs = ap (followed_steps e0 (planned (arrays_of e0) cs)) (affected_past w flows i (roots_in cs) f lt is here) in
    omega (arith, past, so_far)
