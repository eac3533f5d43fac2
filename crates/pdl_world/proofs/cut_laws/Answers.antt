use Rattle.pdl_world.proofs.CutSevers.{cuts_leave_elements, cuts_are_roots, roots_are_uncut, cuts_leave_others, cuts_leave_families, cuts_take_their_views, cuts_soundly, cuts_leave_numbers}
use Rattle.pdl_world.proofs.cut_laws.Goals as goal

pub returns-clause-elements : goal.returns-clause-elements
returns-clause-elements c = cuts_leave_elements

pub returns-clause-rooted : goal.returns-clause-rooted
returns-clause-rooted c = cuts_are_roots

pub returns-clause-uncut : goal.returns-clause-uncut
returns-clause-uncut c = roots_are_uncut

pub returns-clause-others : goal.returns-clause-others
returns-clause-others c = cuts_leave_others

pub returns-clause-families : goal.returns-clause-families
returns-clause-families c = cuts_leave_families

pub returns-clause-views : goal.returns-clause-views
returns-clause-views c = cuts_take_their_views

pub returns-clause-sound : goal.returns-clause-sound
returns-clause-sound c = cuts_soundly c.shape_laws.ensures.sizes c.wrapping_laws.ensures

pub returns-clause-numbers : goal.returns-clause-numbers
returns-clause-numbers c = cuts_leave_numbers
