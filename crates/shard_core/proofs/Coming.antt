-- What comes of a delivered message, by its kind.
use Rattle.std.proofs.Common.{◌≡◌, inl, inr, ◌&&◌, ℕ, max, Bool, true, false, not, List, [], Option}
use Rattle.std.proofs.Common.{Some, None, option_map, option_and_then, is_some, Err, if◌then◌else◌}
use Rattle.std.proofs.Common.{refl, ap, sym, subst, ◌∙◌}
use Rattle.txn_types.specs.Letters.{all_sent_by}
use Rattle.txn_types.specs.declared.cause.Cause.TheVariants as cause
use Rattle.txn_types.specs.declared.decision.Told.TheVariants as end
use Rattle.txn_types.specs.declared.message.Commit.{Commit}
use Rattle.txn_types.specs.declared.message.CommitTwo.{CommitTwo}
use Rattle.txn_types.specs.declared.message.Envelope.{Envelope}
use Rattle.txn_types.specs.declared.message.Msg.{Msg}
use Rattle.txn_types.specs.declared.message.Msg.TheVariants as msg
use Rattle.txn_types.specs.declared.message.Prepare.{Prepare}
use Rattle.txn_types.specs.declared.message.Recover.{Recover}
use Rattle.txn_types.specs.declared.message.Statement.{Statement}
use Rattle.txn_types.specs.declared.message.Vote.{Vote}
use Rattle.txn_types.specs.declared.names.Tag.{Tag}
use Rattle.txn_types.specs.declared.node.NodeId.TheVariants.{Shard}
use Rattle.coordinator.specs.TwoPhase.{Coordinated, coordinated_of, resends}
use Rattle.participant.specs.Expiry.{expire}
use Rattle.participant.specs.Memory.{may_tell_memory}
use Rattle.participant.specs.Part.{elsewhere}
use Rattle.shard_core.specs.declared.given.Given.{Given}
use Rattle.shard_core.specs.State.{ShardState, walled, expired}
use Rattle.shard_core.specs.Arrived.{arrived}
use Rattle.shard_core.specs.Coordinating.{on_resend, votes_if}
use Rattle.shard_core.specs.Participating.{answer}
use Rattle.shard_core.specs.Ruled.{Ruled, quiet, outcome, coordinates}
use Rattle.shard_core.specs.Rules.{ruled, router_of}
use Rattle.shard_core.specs.Told.{given_by, Gives, Comes, ComesAt, told_by}
use Rattle.shard_core.specs.Wanting.{Wanting, wanting, told_memory, told_if}
use Rattle.shard_core.proofs.Arriving.{arrived_coord, arrived_shard}
use Rattle.shard_core.proofs.Numbered.{expire_keeps}

-- by an equal rule
gives_as : (r q : Ruled) (new : ShardState) (g : Given) → r ≡ q → Gives q new g → Gives r new g
gives_as r q new g e h = (h.0 ∙ ap (λ (r : Ruled). r.core) (sym e), h.1 ∙ ap given_by (sym e))

-- at the shard at which it has come
pub came : (s : ShardState) (wall : ℕ) (e : Envelope) (a new : ShardState) (g : Given)
    → a ≡ arrived s wall e → ComesAt a e new g → Comes s wall e new g
came s wall e a new g is h = subst (λ (a : ShardState). ComesAt a e new g) is h

-- by its rule
pub by_rule : (a : ShardState) (e : Envelope) (m : Msg) (r : Ruled) (new : ShardState) (g : Given)
    → e.msg ≡ m → ruled a e.from m ≡ r → Gives r new g → ComesAt a e new g
by_rule a e m r new g is rule h =
    inl (gives_as (ruled a e.from e.msg) r new g (ap (λ (m : Msg). ruled a e.from m) is ∙ rule) h)

told_where : (a : ShardState) (w : Wanting) (told coordinated : Bool) → told ≡ true
    → coordinated ≡ false
    → (if told && not coordinated then Some (told_memory a w) else None) ≡ Some (told_memory a w)
told_where a w true false t c = refl
told_where a w true true t c = cc
told_where a w false coordinated t c = cc

-- out of memory is told
by_memory : (a : ShardState) (e : Envelope) (w : Wanting) (new : ShardState) (g : Given)
    → wanting a e.from e.msg ≡ Some w
    → may_tell_memory a.part w.lsid w.number w.tag ≡ true → coordinates a w.tag ≡ false
    → Gives (told_memory a w) new g → ComesAt a e new g
by_memory a e w new g is told other h =
    inr (
      told_memory a w,
      ap (λ (o : Option Wanting). option_and_then (told_if a) o) is ∙ told_where a w
          (may_tell_memory a.part w.lsid w.number w.tag) (coordinates a w.tag) told other,
      h,
    )

-- what is coordinated here, after the arrival
pub still_other : (s : ShardState) (wall : ℕ) (e : Envelope) (a : ShardState) (tag : Tag)
    → a ≡ arrived s wall e → coordinates s tag ≡ false → coordinates a tag ≡ false
still_other s wall e a tag is h = rw (is, arrived_coord s wall e) h

pub statement_told : (a : ShardState) (e : Envelope) (m : Statement) (new : ShardState) (g : Given)
    → e.msg ≡ msg.Statement m
    → elsewhere a.part m.lsid m.tag ≡ false → may_tell_memory a.part m.lsid m.number m.tag ≡ true
    → coordinates a m.tag ≡ false
    → Gives (told_by a m.lsid m.tag (answer a e.from m 0 (Err cause.Memory))) new g
    → ComesAt a e new g
statement_told a e m new g is once told other h =
    let w : Wanting = record {
      lsid = m.lsid;
      number = m.number;
      tag = m.tag;
      letter = answer a e.from m 0 (Err cause.Memory);
    } in
    let none : Option Wanting = None in
    by_memory a e w new g (ap (λ (m : Msg). wanting a e.from m) is
    ∙ ap (λ (b : Bool). if b then none else Some w) once) told other h

pub commit_told : (a : ShardState) (e : Envelope) (m : Commit) (new : ShardState) (g : Given)
    → e.msg ≡ msg.Commit m
    → may_tell_memory a.part m.lsid m.number m.tag ≡ true → coordinates a m.tag ≡ false
    → Gives (told_by a m.lsid m.tag (outcome a m.tag (end.Aborted cause.Memory) e.from)) new g
    → ComesAt a e new g
commit_told a e m new g is told other h =
    let w : Wanting = record {
      lsid = m.lsid;
      number = m.number;
      tag = m.tag;
      letter = outcome a m.tag (end.Aborted cause.Memory) e.from;
    } in
    by_memory a e w new g (ap (λ (m : Msg). wanting a e.from m) is) told other h

pub prepare_told : (a : ShardState) (e : Envelope) (m : Prepare) (new : ShardState) (g : Given)
    → e.msg ≡ msg.Prepare m
    → may_tell_memory a.part m.lsid m.number m.tag ≡ true → coordinates a m.tag ≡ false
    → Gives (told_by a m.lsid m.tag (
      Shard m.coordinator,
      msg.Vote (record { tag = m.tag; shard = a.part.shard; vote = Err cause.Memory }),
    )) new g → ComesAt a e new g
prepare_told a e m new g is told other h =
    let w : Wanting = record {
      lsid = m.lsid;
      number = m.number;
      tag = m.tag;
      letter = (
        Shard m.coordinator,
        msg.Vote (record { tag = m.tag; shard = a.part.shard; vote = Err cause.Memory }),
      );
    } in
    by_memory a e w new g (ap (λ (m : Msg). wanting a e.from m) is) told other h

-- What a router asks.

asked_by : (o : Option ℕ) (router : ℕ) (w : Wanting) → o ≡ Some router
    → (if is_some o then Some w else None) ≡ Some w
asked_by None router w is = cc
asked_by (Some r) router w is = refl

not_coordinated : (o : Option Coordinated) → o ≡ None → is_some o ≡ false
not_coordinated None none = refl
not_coordinated (Some c) none = cc

pub commit_two_told : (a : ShardState) (e : Envelope) (m : CommitTwo) (router : ℕ)
    (new : ShardState) (g : Given) → e.msg ≡ msg.CommitTwo m → router_of e.from ≡ Some router
    → may_tell_memory a.part m.lsid m.number m.tag ≡ true → coordinated_of a.coord m.tag ≡ None
    → Gives (told_by a m.lsid m.tag (outcome a m.tag (end.Aborted cause.Memory) e.from)) new g
    → ComesAt a e new g
commit_two_told a e m router new g is from told none h =
    let w : Wanting = record {
      lsid = m.lsid;
      number = m.number;
      tag = m.tag;
      letter = outcome a m.tag (end.Aborted cause.Memory) e.from;
    } in
    by_memory a e w new g (ap (λ (m : Msg). wanting a e.from m) is ∙ asked_by (router_of e.from)
    router w from) told (not_coordinated (coordinated_of a.coord m.tag) none) h

pub recover_told : (a : ShardState) (e : Envelope) (m : Recover) (router : ℕ) (new : ShardState)
    (g : Given) → e.msg ≡ msg.Recover m → router_of e.from ≡ Some router
    → may_tell_memory a.part m.lsid m.number m.tag ≡ true → coordinated_of a.coord m.tag ≡ None
    → Gives (told_by a m.lsid m.tag (outcome a m.tag (end.Aborted cause.Memory) e.from)) new g
    → ComesAt a e new g
recover_told a e m router new g is from told none h =
    let w : Wanting = record {
      lsid = m.lsid;
      number = m.number;
      tag = m.tag;
      letter = outcome a m.tag (end.Aborted cause.Memory) e.from;
    } in
    by_memory a e w new g (ap (λ (m : Msg). wanting a e.from m) is ∙ asked_by (router_of e.from)
    router w from) told (not_coordinated (coordinated_of a.coord m.tag) none) h

-- What is asked again.

abbrev unrecorded : List Envelope → Given
unrecorded out = record { rec = None; out = out; held = None }

pub nudged : (s : ShardState) (wall : ℕ) (e : Envelope) (a : ShardState) (time : ℕ)
    (out : List Envelope) (g : Given) → a ≡ arrived s wall e → e.msg ≡ msg.Nudge
    → time ≡ (arrived s wall e).clock.last
    → out ≡ all_sent_by (Shard s.part.shard) time (resends s.part.shard s.coord)
    → g ≡ record { rec = None; out = out; held = None } → Comes s wall e a g
nudged s wall e a time out g at is now o given =
    let shard : a.part.shard ≡ s.part.shard = ap (λ (s : ShardState). s.part.shard) at
    ∙ arrived_shard s wall e in
    let coord : a.coord ≡ s.coord = ap (λ (s : ShardState). s.coord) at ∙ arrived_coord s wall e in
    let last : a.clock.last ≡ time = ap (λ (s : ShardState). s.clock.last) at ∙ sym now in
    let sent : out ≡ all_sent_by (Shard a.part.shard) a.clock.last (resends a.part.shard a.coord) =
    o ∙ rw (shard, coord, last) refl in
    came s wall e a a g at
    (by_rule a e msg.Nudge (on_resend a) a g is refl (refl, given ∙ ap unrecorded sent))

pub resent : (s : ShardState) (wall : ℕ) (new : ShardState) (out : List Envelope) (g : Given)
    → new ≡ expired (walled s wall)
    → out ≡ all_sent_by (Shard s.part.shard) s.clock.last (resends s.part.shard s.coord)
    → g ≡ record { rec = None; out = out; held = None }
    → Gives (on_resend (expired (walled s wall))) new g
resent s wall new out g is o given =
    let shard : (expire s.part (max s.wall wall)).shard ≡ s.part.shard =
    sym (expire_keeps s.part (max s.wall wall)).shard in
    let sent : out ≡ all_sent_by (Shard (expire s.part (max s.wall wall)).shard) s.clock.last
    (resends (expire s.part (max s.wall wall)).shard s.coord) = o ∙ rw shard refl in
    (is, given ∙ ap unrecorded sent)

-- A vote on what isn't coordinated here.

no_plan : (o : Option Coordinated) → option_map (λ (c : Coordinated). c.plan) o ≡ None → o ≡ None
no_plan None none = refl
no_plan (Some c) none = cc

pub vote_unknown : (s : ShardState) (wall : ℕ) (e : Envelope) (a : ShardState) (m : Vote)
    (g : Given) → a ≡ arrived s wall e → e.msg ≡ msg.Vote m
    → option_map (λ (c : Coordinated). c.plan) (coordinated_of s.coord m.tag) ≡ None
    → g ≡ unrecorded [] → Comes s wall e a g
vote_unknown s wall e a m g at is none given =
    let coord : a.coord ≡ s.coord = ap (λ (s : ShardState). s.coord) at ∙ arrived_coord s wall e in
    let unknown : coordinated_of a.coord m.tag ≡ None =
    rw coord (no_plan (coordinated_of s.coord m.tag) none) in
    came s wall e a a g at (by_rule a e (msg.Vote m) (quiet a) a g is
    (ap (λ (o : Option Coordinated). votes_if a m o) unknown) (refl, given))
