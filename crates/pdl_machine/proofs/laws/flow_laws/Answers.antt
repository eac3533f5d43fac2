use Rattle.pdl_machine.proofs.FlowFollows as following
use Rattle.pdl_machine.proofs.FlowLawKeeps as keeping
use Rattle.pdl_machine.proofs.FlowLawAffected.{only_affected_follow}
use Rattle.pdl_machine.proofs.FlowMoves.{flows_stay}
use Rattle.pdl_machine.proofs.FlowsTidied.{letting_go_keeps_flows, tidying_keeps_flows}
use Rattle.pdl_machine.proofs.DumpableViews.{shown_made}
use Rattle.pdl_machine.proofs.laws.flow_laws.Goals as goal

pub returns-clause-stay : goal.returns-clause-stay
returns-clause-stay c = flows_stay

pub returns-clause-follow : goal.returns-clause-follow
returns-clause-follow c = following.flows_follow (record {
  looks = c.assignment_laws.ensures.looks;
  paths = c.assignment_laws.ensures.paths;
  reads = c.assignment_laws.ensures.reads;
  back = c.assignment_laws.ensures.back;
  sound = c.assignment_laws.ensures.sound;
  shown = shown_made c.cut_laws.ensures.sound;
  formulas = c.meaning_laws.ensures;
})

pub returns-clause-affected : goal.returns-clause-affected
returns-clause-affected c = only_affected_follow (record {
  looks = c.assignment_laws.ensures.looks;
  paths = c.assignment_laws.ensures.paths;
  reads = c.assignment_laws.ensures.reads;
  back = c.assignment_laws.ensures.back;
  sound = c.assignment_laws.ensures.sound;
  shown = shown_made c.cut_laws.ensures.sound;
  formulas = c.meaning_laws.ensures;
})

pub returns-clause-rest : goal.returns-clause-rest
returns-clause-rest c = following.flows_rest

pub returns-clause-others : goal.returns-clause-others
returns-clause-others c = keeping.others_keep_flows (record {
  worlds = record {
    older = c.growth_laws.ensures.older;
    older_elements = c.growth_laws.ensures.older_elements;
    older_paths = c.growth_laws.ensures.older_paths;
    new_live = c.growth_laws.ensures.live;
    cuts = c.cut_laws.ensures.elements;
    cut_numbers = c.cut_laws.ensures.numbers;
    reshapes = c.reshape_laws.ensures.others;
    unchanged = c.change_laws.ensures;
  };
  others = c.cut_laws.ensures.others;
  new_seen = c.newest_laws.ensures.root_seen;
  new_whole = c.newest_laws.ensures.root_whole;
  new_path = c.newest_laws.ensures.root_path;
})

pub returns-clause-kept : goal.returns-clause-kept
returns-clause-kept c = letting_go_keeps_flows c.sweep_laws.ensures.seen

pub returns-clause-tidied : goal.returns-clause-tidied
returns-clause-tidied c = tidying_keeps_flows c.sweep_laws.ensures.seen

pub returns-clause-values : goal.returns-clause-values
returns-clause-values c = keeping.formulas_are_values (record {
  worlds = record {
    older = c.growth_laws.ensures.older;
    older_elements = c.growth_laws.ensures.older_elements;
    older_paths = c.growth_laws.ensures.older_paths;
    new_live = c.growth_laws.ensures.live;
    cuts = c.cut_laws.ensures.elements;
    cut_numbers = c.cut_laws.ensures.numbers;
    reshapes = c.reshape_laws.ensures.others;
    unchanged = c.change_laws.ensures;
  };
  others = c.cut_laws.ensures.others;
  new_seen = c.newest_laws.ensures.root_seen;
  new_whole = c.newest_laws.ensures.root_whole;
  new_path = c.newest_laws.ensures.root_path;
})
