use Rattle.std.proofs.Common.{◌≡◌, ℕ, ◌||◌, sym, ◌∙◌, ap}
use Rattle.std.specs.BTreeSet.{BTreeSet}
use Rattle.std.proofs.lemmas.Iterator.Adapters.{items_from_extend}
use Rattle.std.proofs.lemmas.Iterator.Consumers.{YieldsList-from_copied, YieldsList-from_rest}
use Rattle.std.proofs.lemmas.Result.{on_ok_weaker}
use Rattle.pdl_nodes.specs.Children.{has_number, numbers_of}
use Rattle.pdl_nodes.proofs.ChildrenNewest.{put_beside}
use Rattle.pdl_nodes.proofs.children.Views.copy.Goals as goal
use Rattle.pdl_nodes.proofs.children.Views.copy.Goals.{in-Some+in_ok-put-in-Some, in-None}

-- with the newest in the set, the others are left
beside : (c : goal.After-extend) (u : ℕ) → (has_number c.match-self.known.keys u || has_number c.self.inside.others.keys u) ≡ (has_number c.args.known.now.keys u || has_number c.args.self.now u)
beside c u = elim c.match-self.branch [
  | in-Some+in_ok-put-in-Some w ↦ ap (λ (s : BTreeSet ℕ). has_number s.keys u || has_number c.self.inside.others.keys u) w.known-is
      ∙ ap (λ b. b || has_number c.self.inside.others.keys u) (w.in_ok-put-in-Some.ensures u)
      ∙ put_beside w.in-Some.view u c.args.known.now.keys c.self.inside.others.keys
      ∙ ap (λ o. has_number c.args.known.now.keys u || has_number (numbers_of o c.self.inside.others) u) (sym w.in-Some.is)
      ∙ ap (λ us. has_number c.args.known.now.keys u || has_number us u) c.self.view_is
  | in-None w ↦ ap (λ (s : BTreeSet ℕ). has_number s.keys u || has_number c.self.inside.others.keys u) w.known-is
      ∙ ap (λ o. has_number c.args.known.now.keys u || has_number (numbers_of o c.self.inside.others) u) (sym w.in-None.is)
      ∙ ap (λ us. has_number c.args.known.now.keys u || has_number us u) c.self.view_is
]

pub returns : goal.returns
returns c = on_ok_weaker c.extend.result (λ all u. all.0 u ∙ beside c u)
    (items_from_extend c.extend.result c.extend.ensures.ran (YieldsList-from_copied (YieldsList-from_rest c.self.inside.others.keys cc)))
