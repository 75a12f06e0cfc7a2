-- Lists of bytes under a write, and the images of disks in memory.
use Rattle.std.proofs.Common.{◌≡◌, ◌⊎◌, inl, inr, ℕ, ◌+◌, ◌-◌, ◌≤◌, min, max, List, ◌++◌, length}
use Rattle.std.proofs.Common.{take, drop, Vec, vec_len, refl, sym, ◌∙◌, ap, subst, append_assoc}
use Rattle.std.proofs.Common.{arith, length-append, length-take, length-drop}
use Rattle.std.proofs.lemmas.Bool.{cases_lt}
use Rattle.std.proofs.lemmas.List.{take_at, drop_at, drop_all, drop-drop, take-take, drop-take}
use Rattle.std.proofs.lemmas.List.{take_rest, length-take-le, with_items_is}
use Rattle.std.proofs.Math.Seq.{take-append-add}
use Rattle.std.specs.Vec.{with_items}
use Rattle.std.specs.declared.alloc.Global.{Global}
use borrow.Rule.Slice.PartMut.{put_mid, post_of}
use Rattle.outside_core.specs.Crash.{Holds, Torn, Passes}
use Rattle.outside_core.specs.declared.memory_disk.MemDisk.{MemDisk}
use Rattle.outside_core.specs.declared.memory_disk.Past.{Past, Start, After'}
use Rattle.outside_core.specs.declared.fuse_disk.FuseDisk.{FuseDisk}
use Rattle.outside_core.specs.Past.{moments, HadSince, Grew}
use Rattle.outside_core.specs.MemDisk.{held}

-- what lies after a place in a front of a list
behind : (room : List ℕ) (end len : ℕ) → len ≤ length room
    → take (max len end - end) (drop end room) ≡ drop end (take len room)
behind room end len le = elim (cases_lt len end) [
  | inl lt ↦
      let none : max len end - end ≡ 0 = omega arith in
      ap (λ n. take n (drop end room)) none
      ∙ sym (drop_all end (take len room) (omega (arith, length-take len room)))
  | inr ge ↦
      let more : max len end - end ≡ len - end = omega arith in
      let whole : end + (len - end) ≡ len = omega arith in
      ap (λ n. take n (drop end room)) more ∙ sym (drop-take end (len - end) room)
      ∙ ap (λ n. drop end (take n room)) whole
]

-- what a disk in memory gives from a place on
pub read_part : (room : List ℕ) (at len from count n : ℕ)
    → len ≤ length room → from ≡ min at len → count ≡ min n (len - from)
    → take (from + count - from) (drop from room) ≡ take count (drop at (take len room))
read_part room at len from count n le from_is count_is = elim (cases_lt at len) [
  | inl lt ↦
      let same : from ≡ at = omega arith in
      let size : from + count - from ≡ count = omega arith in
      let whole : at + (len - at) ≡ len = omega arith in
      ap (λ m. take m (drop from room)) size ∙ ap (λ m. take count (drop m room)) same
      ∙ sym (take-take count (len - at) (drop at room) (omega arith))
      ∙ ap (λ l. take count l) (sym (drop-take at (len - at) room))
      ∙ ap (λ m. take count (drop at (take m room))) whole
  | inr ge ↦
      let none : count ≡ 0 = omega arith in
      let size : from + count - from ≡ 0 = omega arith in
      ap (λ m. take m (drop from room)) size ∙ sym (ap (λ m. take m (drop at (take len room))) none)
]

-- a write that is through is one that a crash cut short at its end
pub torn_whole : (at : ℕ) (old bytes new : List ℕ) → at ≤ length old → Holds old at bytes new
    → Torn at (length bytes) old new
torn_whole at old bytes new le holds =
    let front : length (take at old) ≡ at = length-take-le at old le in
    let long : length (take at old ++ bytes) ≡ at + length bytes =
    omega (arith, front, length-append (take at old) bytes) in
    let rest : drop (at + length bytes) new ≡ drop (at + length bytes) old =
    ap (λ l. drop (at + length bytes) l) holds
    ∙ drop_at (take at old ++ bytes) (drop (at + length bytes) old) (at + length bytes) long in
    let size : length new ≡ at + length bytes + (length old - (at + length bytes)) =
    omega (
      arith,
      ap (λ (l : List ℕ). length l) holds,
      long,
      length-append (take at old ++ bytes) (drop (at + length bytes) old),
      length-drop (at + length bytes) old,
    ) in
    let least : min at (length old) ≡ at = omega arith in
    let first : take at new ≡ take at old =
    ap (λ l. take at l) (holds ∙ append_assoc (take at old) bytes (drop (at + length bytes) old))
    ∙ take_at (take at old) (bytes ++ drop (at + length bytes) old) at front in
    record {
      before = subst (λ n. take n new ≡ take at old) (sym least) first;
      after = sym (ap (λ l. take (length old - (at + length bytes)) l) rest
          ∙ take_rest old (at + length bytes));
      no_shorter = omega arith;
      no_longer = omega arith;
    }

-- what a disk in memory holds after a write within its room
pub held_behind : (room : Vec ℕ Global) (inside copied bytes : List ℕ) (at len now : ℕ)
    → inside ≡ room.items → copied ≡ bytes → at ≤ len → len ≤ vec_len room
    → at + length bytes ≤ vec_len room → now ≡ max len (at + length bytes)
    → take now (with_items room (put_mid at (at + length bytes - at) inside copied)).items
    ≡ take at (take len room.items) ++ bytes ++ drop (at + length bytes) (take len room.items)
held_behind room inside copied bytes at len now inside_is copied_is le fits room_for now_is =
    let end : ℕ = at + length bytes in
    let size : length room.items ≡ vec_len room = sym room.ok.0 in
    let post : post_of at (end - at) inside ≡ drop end room.items =
    ap (λ l. drop (end - at) (drop at l)) inside_is ∙ drop-drop (end - at) at room.items
    ∙ ap (λ n. drop n room.items) (let e : at + (end - at) ≡ end = omega arith in e) in
    let mid : put_mid at (end - at) inside copied
    ≡ take at room.items ++ (bytes ++ drop end room.items) =
    ap (λ l. take at l ++ (copied ++ post_of at (end - at) inside)) inside_is
    ∙ ap (λ l. take at room.items ++ (l ++ post_of at (end - at) inside)) copied_is
    ∙ ap (λ l. take at room.items ++ (bytes ++ l)) post in
    let front : length (take at room.items) ≡ at = length-take-le at room.items (omega arith) in
    let long : length (put_mid at (end - at) inside copied) ≡ room.len =
    ap (λ (l : List ℕ). length l) mid ∙ omega (
      arith,
      front,
      size,
      length-append (take at room.items) (bytes ++ drop end room.items),
      length-append bytes (drop end room.items),
      length-drop end room.items,
    ) in
    let both : length (take at room.items ++ bytes) ≡ end =
    omega (arith, front, length-append (take at room.items) bytes) in
    let split : now ≡ length (take at room.items ++ bytes) + (max len end - end) = omega arith in
    ap (λ l. take now l) (with_items_is room (put_mid at (end - at) inside copied) long ∙ mid
    ∙ sym (append_assoc (take at room.items) bytes (drop end room.items)))
    ∙ ap (λ n. take n ((take at room.items ++ bytes) ++ drop end room.items)) split
    ∙ take-append-add (take at room.items ++ bytes) (drop end room.items) (max len end - end)
    ∙ ap (λ l. (take at room.items ++ bytes) ++ l) (behind room.items end len (omega arith))
    ∙ ap (λ l. (l ++ bytes) ++ drop end (take len room.items))
    (sym (take-take at len room.items le))

-- a disk in memory that remembers what it held
pub remembered : (step : List ℕ → List ℕ → Type 0) (old new : MemDisk) (past : Past)
    → new.past ≡ past → Grew old.past (held old) past → step (held old) (held new)
    → Passes {D = MemDisk} (λ d c. c ≡ held d) (λ d. moments d.past)
    (λ d t c. (c ≡ held d) ⊎ HadSince t d.past c) step old new
remembered step old new Start is grew steps = absurd grew
remembered step old new (After' v n p q) is grew steps =
    let count : moments new.past ≡ moments old.past + 1 = ap moments is
    ∙ ap (λ q. moments q + 1) grew.1 in
    let back : (t : ℕ) (c : List ℕ) → HadSince t new.past c
    → (c ≡ held old) ⊎ HadSince t old.past c =
    λ t c had. elim (subst (λ q. HadSince t q c) is had) [
      | inl here ↦ inl (here.1 ∙ grew.0)
      | inr there ↦ inr (subst (λ q. HadSince t q c) grew.1 there)
    ] in
    let onto : (t : ℕ) (c : List ℕ) → t ≤ moments old.past → (c ≡ held old) ⊎ HadSince t old.past c
    → HadSince t new.past c =
    λ t c le had. subst (λ q. HadSince t q c) (sym is) (elim had [
      | inl here ↦ inl (subst (λ q. t ≤ moments q) (sym grew.1) le, here ∙ sym grew.0)
      | inr there ↦ inr (subst (λ q. HadSince t q c) (sym grew.1) there)
    ]) in
    record {
      follows = λ c now. (held old, refl, subst (λ l. step (held old) l) (sym now) steps);
      later = omega arith;
      nothing_else = λ t c le left. elim left [ inl now ↦ inr now | inr had ↦ inl (back t c had) ];
      keeps = λ t c le left. inr (onto t c le left);
    }

-- a disk that passes a call on goes as the disk within
pub through : (step : List ℕ → List ℕ → Type 0) (old new : FuseDisk) (within : MemDisk)
    → within ≡ old.disk
    → Passes {D = MemDisk} (λ d c. c ≡ held d) (λ d. moments d.past)
    (λ d t c. (c ≡ held d) ⊎ HadSince t d.past c) step within new.disk
    → Passes {D = FuseDisk} (λ f c. c ≡ held f.disk) (λ f. moments f.disk.past)
    (λ f t c. (c ≡ held f.disk) ⊎ HadSince t f.disk.past c) step old new
through step old new within same passes =
    let at_old : Passes {D = MemDisk} (λ d c. c ≡ held d) (λ d. moments d.past) (λ d t c.
    (c ≡ held d) ⊎ HadSince t d.past c) step old.disk new.disk =
    subst (λ d. Passes {D = MemDisk} (λ d c. c ≡ held d) (λ d. moments d.past)
    (λ d t c. (c ≡ held d) ⊎ HadSince t d.past c) step d new.disk) same passes in
    record {
      follows = at_old.follows;
      later = at_old.later;
      nothing_else = at_old.nothing_else;
      keeps = at_old.keeps;
    }
