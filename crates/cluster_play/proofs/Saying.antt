-- What a status says of the disks that were handed in.
use Rattle.std.proofs.Common.{◌≡◌, inl, inr, ℕ, List, Option, Result, Ok, Err, sym, subst, ◌∙◌}
use Rattle.outcomes.specs.Outcome as outcome
use Rattle.cluster_core.specs.Nodes.{Nodes}
use Rattle.cluster_play.specs.declared.status.Status.{Status}
use Rattle.cluster_play.specs.declared.status.Status.TheVariants as status
use Rattle.cluster_play.specs.Schedule.{Schedule, is_memory, schedule_of, player_of}
use Rattle.cluster_play.specs.Ended.{AreStarted}
use Rattle.cluster_play.specs.Steps.{EndedOver, IsFrontErr}
use Rattle.cluster_play.specs.Refusing.{AllYoung, DisksSay, RefusesStarts, WereYoung}

ok_same : {A B : Type 0} {x y : A} → ◌≡◌ {A = Result A B} (Ok x) (Ok y) → x ≡ y
ok_same is = cc

-- of the one schedule that the lines are
were_young : {D : Type 0} (told : Type 0) (seen : D → List ℕ) (lines : List (List ℕ))
    (s : Schedule) (old : List D) → schedule_of lines ≡ Ok s → AllYoung told seen s.conf old
    → WereYoung told seen lines old
were_young {D} told seen lines s old reads young other is =
    subst (λ (x : Schedule). AllYoung told seen x.conf old) (ok_same (sym reads ∙ is)) young

none_were : {D : Type 0} (told : Type 0) (seen : D → List ℕ) (lines : List (List ℕ)) (why : Status)
    (old : List D) → schedule_of lines ≡ Err why → WereYoung told seen lines old
none_were told seen lines why old refused other is = cc

-- over the nodes of a schedule
pub disks_over : {D : Type 0} (told : Type 0) (seen : D → List ℕ) (count : D → ℕ)
    (lines : List (List ℕ)) (s : Schedule) (start : Nodes) (old new : List D)
    (held held' : Option (List ℕ)) (end : Status) → schedule_of lines ≡ Ok s
    → AreStarted told s.conf start → AllYoung told seen s.conf old
    → EndedOver told s.conf.map (player_of s) start held held' end
    → DisksSay told seen count lines old new held held' end
disks_over told seen count lines s start old new held held' status.Ok reads started young h =
    were_young told seen lines s old reads young
disks_over told seen count lines s start old new held held' (status.BadLine line) reads started
    young h = were_young told seen lines s old reads young
disks_over told seen count lines s start old new held held' status.Budget reads started young h =
    were_young told seen lines s old reads young
disks_over told seen count lines s start old new held held' status.BadConf reads started young h =
    absurd h
disks_over told seen count lines s start old new held held' (status.DiskFault disk) reads started
    young h = inr (
      were_young told seen lines s old reads young,
      (
        h.0,
        h.1,
        record {
          schedule = s;
          reads = reads;
          start = start;
          started = started;
          played = h.2;
        },
      ),
    )
disks_over told seen count lines s start old new held held' (status.BadJournal disk index) reads
    started young h = inr (
      were_young told seen lines s old reads young,
      (
        h.0,
        h.1,
        record {
          schedule = s;
          reads = reads;
          start = start;
          started = started;
          played = h.2;
        },
      ),
    )
disks_over told seen count lines s start old new held held' status.WriteFault reads started young
    h = were_young told seen lines s old reads young
disks_over told seen count lines s start old new held held' status.Memory reads started young h = tt
disks_over told seen count lines s start old new held held' status.ReadFault reads started young
    h = absurd h

-- the nodes don't start
pub disks_before : {D : Type 0} (told : Type 0) (seen : D → List ℕ) (count : D → ℕ)
    (lines : List (List ℕ)) (s : Schedule) (old new : List D) (held : Option (List ℕ))
    (end : Status) → schedule_of lines ≡ Ok s → RefusesStarts told seen count s.conf old new end
    → DisksSay told seen count lines old new held held end
disks_before told seen count lines s old new held (status.DiskFault disk) reads h =
    inl (record { schedule = s; reads = reads; refuses = h })
disks_before told seen count lines s old new held (status.BadJournal disk index) reads h =
    inl (record { schedule = s; reads = reads; refuses = h })
disks_before told seen count lines s old new held status.Memory reads h = tt
disks_before told seen count lines s old new held status.Ok reads h = absurd h
disks_before told seen count lines s old new held (status.BadLine line) reads h = absurd h
disks_before told seen count lines s old new held status.Budget reads h = absurd h
disks_before told seen count lines s old new held status.BadConf reads h = absurd h
disks_before told seen count lines s old new held status.WriteFault reads h = absurd h
disks_before told seen count lines s old new held status.ReadFault reads h = absurd h

-- the lines are no schedule
pub disks_first : {D : Type 0} (told : Type 0) (seen : D → List ℕ) (count : D → ℕ)
    (lines : List (List ℕ)) (old new : List D) (held : Option (List ℕ)) (end : Status)
    → IsFrontErr end → outcome.Refuses is_memory end (schedule_of lines)
    → DisksSay told seen count lines old new held held end
disks_first told seen count lines old new held (status.BadLine line) h refuses =
    none_were told seen lines (status.BadLine line) old refuses
disks_first told seen count lines old new held status.BadConf h refuses =
    none_were told seen lines status.BadConf old refuses
disks_first told seen count lines old new held status.Memory h refuses = tt
disks_first told seen count lines old new held status.Ok h refuses = absurd h
disks_first told seen count lines old new held (status.DiskFault disk) h refuses = absurd h
disks_first told seen count lines old new held (status.BadJournal disk index) h refuses = absurd h
disks_first told seen count lines old new held status.Budget h refuses = absurd h
disks_first told seen count lines old new held status.WriteFault h refuses = absurd h
disks_first told seen count lines old new held status.ReadFault h refuses = absurd h
