use Rattle.pdl_world.proofs.BaseLawStays.{older_bases_stay}
use Rattle.pdl_world.proofs.WorldNewest.{live_lie_below, roots_are_in_range, older_elements_stay, older_paths_stay}
use Rattle.pdl_world.proofs.WorldLawsProved.{places_lie_within, new_is_live, older_stay, joins_soundly}
use Rattle.pdl_world.proofs.growth_laws.Goals as goal

pub returns-clause-within : goal.returns-clause-within
returns-clause-within c = places_lie_within

pub returns-clause-in_range : goal.returns-clause-in_range
returns-clause-in_range c = roots_are_in_range

pub returns-clause-below : goal.returns-clause-below
returns-clause-below c = live_lie_below

pub returns-clause-live : goal.returns-clause-live
returns-clause-live c = new_is_live

pub returns-clause-older : goal.returns-clause-older
returns-clause-older c = older_stay

pub returns-clause-older_elements : goal.returns-clause-older_elements
returns-clause-older_elements c = older_elements_stay

pub returns-clause-older_paths : goal.returns-clause-older_paths
returns-clause-older_paths c = older_paths_stay

pub returns-clause-sound : goal.returns-clause-sound
returns-clause-sound c = joins_soundly

pub returns-clause-bases : goal.returns-clause-bases
returns-clause-bases c = older_bases_stay
