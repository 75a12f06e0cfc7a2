-- What a status says apart from the schedule.
use Rattle.mtx.specs.declared.status.Status.{Status}
use Rattle.mtx.specs.declared.status.Status.TheVariants as status

-- the schedule wasn't read to where it is played
abbrev pub IsUnread : Status → Type 0
IsUnread status.ReadFault = Unit {0}
IsUnread (status.BadWords index) = Unit {0}
IsUnread status.Ok = ⊥
IsUnread (status.BadLine line) = ⊥
IsUnread status.Budget = ⊥
IsUnread status.WriteFault = ⊥
IsUnread status.Memory = ⊥
IsUnread status.BadConf = ⊥
IsUnread (status.DiskFault disk) = ⊥
IsUnread (status.BadJournal disk index) = ⊥

-- what is left of lines of clients that can all be played, where neither source nor sink failed: they
-- were played to their end, or memory ran out, or a disk isn't one to start from, or one settling had
-- more messages to deliver than it may
abbrev pub IsLeft : Status → Type 0
IsLeft status.Ok = Unit {0}
IsLeft status.Memory = Unit {0}
IsLeft (status.DiskFault disk) = Unit {0}
IsLeft (status.BadJournal disk index) = Unit {0}
IsLeft status.Budget = Unit {0}
IsLeft (status.BadLine line) = ⊥
IsLeft (status.BadWords index) = ⊥
IsLeft status.BadConf = ⊥
IsLeft status.ReadFault = ⊥
IsLeft status.WriteFault = ⊥
