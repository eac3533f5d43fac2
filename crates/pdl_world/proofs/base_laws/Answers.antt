use Rattle.pdl_world.proofs.WindowBases.{windows_show_arrays, live_have_windows}
use Rattle.pdl_world.proofs.base_laws.Goals as goal

pub returns-clause-shown : goal.returns-clause-shown
returns-clause-shown c = windows_show_arrays (record { positions = c.shape_laws.ensures.positions; sizes = c.shape_laws.ensures.sizes; wholes = c.shape_laws.ensures.wholes; triples = c.triple_laws.ensures.wholes; sources = c.view_laws.ensures.sources; composed = c.window_laws.ensures.composed })

pub returns-clause-live : goal.returns-clause-live
returns-clause-live c = live_have_windows (record { positions = c.shape_laws.ensures.positions; sizes = c.shape_laws.ensures.sizes; wholes = c.shape_laws.ensures.wholes; triples = c.triple_laws.ensures.wholes; sources = c.view_laws.ensures.sources; composed = c.window_laws.ensures.composed })
