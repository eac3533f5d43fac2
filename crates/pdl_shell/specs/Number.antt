-- The numbers of the statuses, which are the program's exit statuses.
use Rattle.std.specs.Prelude.{ℕ}
use Rattle.pdl_shell.specs.declared.status.Status.{Status}
use Rattle.pdl_shell.specs.declared.status.Status.TheVariants.{Done, ScriptFault, Usage, SourceFault, SinkFault, WatcherFault, NoMemory}

-- 0 to 6 in their order
abbrev pub number_of : Status → ℕ
number_of Done = 0
number_of ScriptFault = 1
number_of Usage = 2
number_of SourceFault = 3
number_of SinkFault = 4
number_of WatcherFault = 5
number_of NoMemory = 6
