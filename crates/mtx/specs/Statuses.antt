-- How a status is told to whoever started the process; the numbers and words are this project's
-- own.
use Rattle.std.specs.Prelude.{ℕ, List, ◌++◌, codes, decimal}
use Rattle.cluster_play.specs.declared.status.Status.{Status as Ending}
use Rattle.cluster_play.specs.declared.status.Status.TheVariants as ending
use Rattle.mtx.specs.declared.status.Status.{Status}
use Rattle.mtx.specs.declared.status.Status.TheVariants as status

-- the exit status of the process
abbrev pub exit_status : Status → ℕ
exit_status status.Ok = 0
exit_status (status.BadWords index) = 2
exit_status (status.BadLine line) = 3
exit_status status.ReadFault = 4
exit_status status.WriteFault = 5
exit_status status.Memory = 6
exit_status (status.DiskFault disk) = 7
exit_status (status.BadJournal disk index) = 8
exit_status status.Budget = 9
exit_status status.BadConf = 11

-- the words on standard error
abbrev pub words_of : Status → List ℕ
words_of status.Ok = codes "ok"
words_of (status.BadWords index) = codes "bad words at " ++ decimal index
words_of (status.BadLine line) = codes "bad line " ++ decimal line
words_of status.ReadFault = codes "read fault"
words_of status.WriteFault = codes "write fault"
words_of status.Memory = codes "want of memory"
words_of (status.DiskFault disk) = codes "disk fault " ++ decimal disk
words_of (status.BadJournal disk index) = codes "bad journal " ++ decimal disk
words_of status.Budget = codes "budget"
words_of status.BadConf = codes "bad configuration"

-- how the playing over a cluster ended
abbrev pub status_of : Ending → Status
status_of ending.Ok = status.Ok
status_of (ending.BadLine line) = status.BadLine line
status_of ending.ReadFault = status.ReadFault
status_of ending.WriteFault = status.WriteFault
status_of ending.Memory = status.Memory
status_of (ending.DiskFault disk) = status.DiskFault disk
status_of (ending.BadJournal disk index) = status.BadJournal disk index
status_of ending.Budget = status.Budget
status_of ending.BadConf = status.BadConf
