-- How it is told to whoever started the process how the playing ended: by the numbers and words of
-- `mtx`.
use Rattle.std.specs.Prelude.{ℕ, List, ◌++◌, codes, decimal}
use Rattle.cluster_play.specs.declared.status.Status.{Status}
use Rattle.cluster_play.specs.declared.status.Status.TheVariants as status

-- the exit status of the process
abbrev pub exit_status : Status → ℕ
exit_status status.Ok = 0
exit_status (status.BadLine line) = 3
exit_status status.ReadFault = 4
exit_status status.WriteFault = 5
exit_status status.Memory = 6
exit_status (status.DiskFault disk) = 7
exit_status (status.BadJournal disk index) = 8
exit_status status.Budget = 9
exit_status status.BadConf = 11

-- the words on standard error
abbrev pub words_of : Status → List ℕ
words_of status.Ok = codes "ok"
words_of (status.BadLine line) = codes "bad line " ++ decimal line
words_of status.ReadFault = codes "read fault"
words_of status.WriteFault = codes "write fault"
words_of status.Memory = codes "want of memory"
words_of (status.DiskFault disk) = codes "disk fault " ++ decimal disk
words_of (status.BadJournal disk index) = codes "bad journal " ++ decimal disk
words_of status.Budget = codes "budget"
words_of status.BadConf = codes "bad configuration"
