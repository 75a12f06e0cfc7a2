-- A loop over a journal's frames.
use Rattle.std.proofs.Common.{◌≡◌, ◌↔◌, ℕ, ◌+◌, ◌≤◌, ◌<◌, List, [], ◌∷◌, ◌++◌, length, map, take}
use Rattle.std.proofs.Common.{get_or, Vec, false, sym, ◌∙◌, ap, subst, arith}
use Rattle.std.specs.Prelude.{IsTrue}
use Rattle.std.specs.declared.alloc.Global.{Global}
use Rattle.std.proofs.lemmas.List.{map_push, take_more}
use Rattle.outside_core.specs.declared.disk.Disk.{Ghosts}
use Rattle.journal_core.specs.Frames.{end_of}
use Rattle.journal_core.specs.Left.{IsAtRest}
use Rattle.journal_core.specs.Looks.{Looks}
use Rattle.journal_core.specs.Starts.{StandsAt}
use Rattle.journal_core.specs.State.{JournalState}
use Rattle.journal_core.proofs.Reading.{Stands, frame_stands}

module _ {D : Type 0} (d : Ghosts D) (first : JournalState D) where
  -- so far the first payloads were read
  pub record Gathering (now : JournalState D) (all : List (Vec ℕ Global))
      (place i : ℕ) : Type 0 where
    pub tells : d.tells now.disk ≡ d.tells first.disk
    pub later : d.fault_count first.disk ≤ d.fault_count now.disk
    pub counts : now.count ≡ first.count
    pub ends : now.end ≡ first.end
    pub closed : IsTrue now.closed ↔ IsTrue first.closed
    pub frames : IsTrue (d.tells first.disk) → now.frames ≡ first.frames
    pub looks : IsTrue (d.tells first.disk)
        → Looks d.seen d.may_leave d.moment d.left_since first.disk now.disk
    pub at : IsTrue (d.tells first.disk) → first.closed ≡ false
        → place ≡ end_of (take i first.frames)
    pub got : IsTrue (d.tells first.disk) → first.closed ≡ false
        → map (λ p. p.items) all ≡ take i first.frames

  module _ (now : JournalState D) (all : List (Vec ℕ Global)) (place i : ℕ)
      (so_far : Gathering now all place i) (told : IsTrue (d.tells first.disk))
      (opened : first.closed ≡ false) (rests : IsAtRest (d.seen first.disk) (d.may_leave first.disk)
      first.frames first.count first.end) (lt : i < first.count) where
    inside : i < length first.frames
    inside = omega (arith, lt, rests.counts)

    next_frame : Stands first.frames i
    next_frame = frame_stands first.frames i rests.short inside

    pub here : StandsAt (d.seen now.disk) place (get_or first.frames i [])
    here =
        subst (λ n. StandsAt (d.seen now.disk) n (get_or first.frames i []))
        (sym (so_far.at told opened))
        (subst (λ f. StandsAt f (end_of (take i first.frames)) (get_or first.frames i []))
        (sym ((so_far.looks told).same ∙ rests.file)) next_frame.stands)

    pub before_end : place + 5 + length (get_or first.frames i []) ≤ now.end
    before_end = omega (arith, so_far.at told opened, so_far.ends, rests.ends, next_frame.within)

    pub next_at : (next : ℕ) → next ≡ place + 5 + length (get_or first.frames i [])
        → next ≡ end_of (take (i + 1) first.frames)
    next_at next is = omega (arith, is, so_far.at told opened, next_frame.next)

    pub next_got : (read : Vec ℕ Global) → read.items ≡ get_or first.frames i []
        → map (λ p. p.items) (all ++ read ∷ []) ≡ take (i + 1) first.frames
    next_got read is =
        map_push (λ (p : Vec ℕ Global). p.items) all read
        ∙ ap (λ l. l ++ read.items ∷ []) (so_far.got told opened)
        ∙ ap (λ p. take i first.frames ++ p ∷ []) is ∙ sym (take_more first.frames i [] inside)
