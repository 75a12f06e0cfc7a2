-- A disk in memory, as contracts see it.
use Rattle.std.specs.Prelude.{◌≡◌, ◌⊎◌, ◌≤◌, ℕ, List, take}
use Rattle.std.proofs.Common.{inl, inr, arith}
use Rattle.outside_core.specs.declared.memory_disk.MemDisk.{MemDisk}
use Rattle.outside_core.specs.declared.memory_disk.Past.{Past, Start, After'}
use Rattle.outside_core.specs.Crash.{Passes}
use Rattle.outside_core.specs.Past.{moments, HadSince}

-- the bytes that it holds
abbrev pub held : MemDisk → List ℕ
held d = take d.len d.room.items

-- how many bytes it has room for
abbrev pub room_of : MemDisk → ℕ
room_of d = d.capacity

-- how often a call has failed
abbrev pub faults_of : MemDisk → ℕ
faults_of d = d.faults

-- there is none since the newest
none_since : (past : Past) (t : ℕ) (c : List ℕ) → moments past ≤ t → HadSince t past c → ⊥
none_since Start t c le had = had
none_since (After' v n p past) t c le (inl here) = omega arith
none_since (After' v n p past) t c le (inr there) = none_since past t c (omega arith) there

-- since this moment it holds what it holds now
pub only_held : (d : MemDisk) (c : List ℕ) → (c ≡ held d) ⊎ HadSince (moments d.past) d.past c
    → c ≡ held d
only_held d c (inl now) = now
only_held d c (inr had) = absurd (none_since d.past (moments d.past) c (omega arith) had)

-- A call of it, as a crash sees it: a crash leaves what it holds, now and at each moment before.
abbrev pub PassesInMemory : (List ℕ → List ℕ → Type 0) → MemDisk → MemDisk → Type 0
PassesInMemory step old new =
    Passes {D = MemDisk} (λ d c. c ≡ held d) (λ d. moments d.past)
    (λ d t c. (c ≡ held d) ⊎ HadSince t d.past c) step old new
