-- A disk that stops, as contracts see it.
use Rattle.std.specs.Prelude.{◌≡◌, ◌⊎◌, ◌+◌, ◌-◌, ◌^◌, ℕ, List, min}
use Rattle.outside_core.specs.declared.fuse_disk.FuseDisk.{FuseDisk}
use Rattle.outside_core.specs.declared.memory_disk.MemDisk.{MemDisk}
use Rattle.outside_core.specs.Crash.{Passes}
use Rattle.outside_core.specs.MemDisk.{held, faults_of}
use Rattle.outside_core.specs.Past.{moments, HadSince}

-- the disk that its calls are passed on to
abbrev pub disk_within : FuseDisk → MemDisk
disk_within f = f.disk

-- the bytes that it holds
abbrev pub held_within : FuseDisk → List ℕ
held_within f = held (disk_within f)

-- how many calls it still passes on
abbrev pub calls_left : FuseDisk → ℕ
calls_left f = f.calls

-- how many calls it has failed by itself
abbrev pub stops_of : FuseDisk → ℕ
stops_of f = f.stops

-- how often a call has failed, here or within
abbrev pub fuse_faults : FuseDisk → ℕ
fuse_faults f = min (stops_of f + faults_of (disk_within f)) (2 ^ 64 - 1)

-- a call of it, as a crash sees it: as of the disk within
abbrev pub PassesWithin : (List ℕ → List ℕ → Type 0) → FuseDisk → FuseDisk → Type 0
PassesWithin step old new =
    Passes {D = FuseDisk} (λ f c. c ≡ held f.disk) (λ f. moments f.disk.past)
    (λ f t c. (c ≡ held f.disk) ⊎ HadSince t f.disk.past c) step old new
