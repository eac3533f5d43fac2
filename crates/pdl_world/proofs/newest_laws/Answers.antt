use Rattle.pdl_world.proofs.WorldNewest.{new_root_is_seen, new_root_is_whole, new_root_has_path, new_view_is_seen, new_view_has_path}
use Rattle.pdl_world.proofs.newest_laws.Goals as goal

pub returns-clause-root_seen : goal.returns-clause-root_seen
returns-clause-root_seen c = new_root_is_seen

pub returns-clause-root_whole : goal.returns-clause-root_whole
returns-clause-root_whole c = new_root_is_whole

pub returns-clause-root_path : goal.returns-clause-root_path
returns-clause-root_path c = new_root_has_path

pub returns-clause-view_seen : goal.returns-clause-view_seen
returns-clause-view_seen c = new_view_is_seen

pub returns-clause-view_path : goal.returns-clause-view_path
returns-clause-view_path c = new_view_has_path
