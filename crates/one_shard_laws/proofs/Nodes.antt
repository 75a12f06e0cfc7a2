-- What holds of one shard's node holds after what it takes, and where it starts again.
use Rattle.std.proofs.Common.{◌≡◌, ◌⊎◌, inl, inr, ⊎_elim, ◌≤◌, ◌<◌, ◌+◌, ◌++◌, ℕ, List, [], ◌∷◌}
use Rattle.std.proofs.Common.{filter_map, All, Contains, Option, Some, None, refl, ap, subst, ◌∙◌}
use Rattle.std.proofs.Common.{sym, arith, unwrap_or}
use Rattle.std.proofs.lemmas.List.{append-nil}
use Rattle.std.proofs.lemmas.List.Elements.{All-append, All-weaker, Contains-append_left}
use Rattle.std.proofs.lemmas.List.Elements.{filter_map-append}
use Rattle.txn_types.specs.declared.event.Happening.{Happening}
use Rattle.txn_types.specs.declared.event.Happening.TheVariants as what
use Rattle.txn_types.specs.declared.event.NodeAnswer.{NodeAnswer}
use Rattle.txn_types.specs.declared.event.NodeAnswer.TheVariants as answer
use Rattle.txn_types.specs.declared.event.NodeEvent.{NodeEvent}
use Rattle.txn_types.specs.declared.message.Envelope.{Envelope}
use Rattle.txn_types.specs.declared.message.Msg.{Msg}
use Rattle.txn_types.specs.declared.message.Msg.TheVariants as msg
use Rattle.txn_types.specs.declared.node.NodeId.{NodeId}
use Rattle.txn_semantics.specs.declared.commits.Entry.{Entry}
use Rattle.session_table.specs.Sessions.{Table}
use Rattle.journal_rec.specs.declared.record.Rec.{Rec}
use Rattle.journal_rec.specs.declared.record.Rec.TheVariants as rec
use Rattle.participant.specs.declared.said.Open.{Open}
use Rattle.participant.specs.Part.{open_of}
use Rattle.shard_image.specs.Image.{Image, image_of}
use Rattle.shard_image.specs.Sound.{AreWritten}
use Rattle.part_laws.specs.Each.{Each}
use Rattle.part_laws.specs.Sound.{Served}
use Rattle.part_laws.specs.Parts.{IsServing}
use Rattle.part_laws.specs.Start.{none_open, prepared_ones}
use Rattle.shard_core.specs.State.{ShardState}
use Rattle.shard_core.specs.Core.{Room, Ample, Scarce, Short, CoreStep, core_step, step_if, stays}
use Rattle.shard_core.specs.Core.{stopped_step, answer_stopped, says_stopped}
use Rattle.shard_core.specs.Laws.{KeepsTime}
use Rattle.shard_core.specs.NodeStep.{NodeState, Appended, Failed, ShardTakes, ceiling_append}
use Rattle.shard_core.specs.NodeStep.{record_append, appends_of, joined, node_of, boot_behind}
use Rattle.shard_core.specs.NodeStep.{started}
use Rattle.durable_laws.specs.Backed.{IsBacked, IsDurableNode, IsLeft, at_ceiling, kept_state}
use Rattle.durable_laws.specs.Backed.{lost_state}
use Rattle.durable_laws.proofs.Beginning.{start_backed, start_finds}
use Rattle.durable_laws.proofs.Facts.{image_append}
use Rattle.durable_laws.proofs.Nodes.{written_front}
use Rattle.durable_laws.proofs.Stepping.{fault_is_backed}
use Rattle.txn_types.specs.Letters.{Named, named_in, given_out}
use Rattle.world_laws.proofs.Clocks.{no_appends, none_parts, started_is}
use Rattle.serving_laws.specs.Telling.{IsToldBy}
use Rattle.serving_laws.proofs.Starting.{start_serves, first_serves}
use Rattle.one_shard_laws.specs.Sessions.{SessionsNamed, IsHeld, IsOnce}
use Rattle.one_shard_laws.specs.Alone.{IsAlone, EventAlone}
use Rattle.one_shard_laws.specs.Lasting.{WasNamed, WasAsked, AllAsked, WasCommitted, commits_by}
use Rattle.one_shard_laws.specs.Lasting.{RecordsAlone, Lasts, Runs, HasLast, HasRun, IsRight}
use Rattle.world_laws.proofs.Naming.{nothing, one}
use Rattle.one_shard_laws.proofs.Listing.{each_more, ceiling_more, boot_more}
use Rattle.one_shard_laws.proofs.Recording.{held_named, alone_named, no_commits, none_alone}
use Rattle.one_shard_laws.proofs.Recording.{ceiling_alone, boot_alone}
use Rattle.one_shard_laws.proofs.Growing.{WasSent}
use Rattle.one_shard_laws.proofs.Behind.{both_appended, Behind, behind, does}

-- More is sent.

abbrev names : List Envelope → List Named
names sent = filter_map (λ e. named_in e.msg) sent

named_more : (sent out : List Envelope) (x : Named) → WasNamed sent x → WasNamed (sent ++ out) x
named_more sent out x h = subst (λ (ns : List Named).
    Contains ns x) (sym (filter_map-append (λ (e : Envelope). named_in e.msg) sent out))
    (Contains-append_left (names sent) (names out) x h)

asked_more : (sent out : List Envelope) (served : List Served) → AllAsked sent served
    → AllAsked (sent ++ out) served
asked_more sent out [] h = tt
asked_more sent out (x ∷ served) h =
    let first : WasAsked sent served x = h.0 in (
      (
        first.0,
        first.1,
        Contains-append_left sent out first.0 first.2,
        first.3,
        first.4,
        first.5,
      ),
      asked_more sent out served h.1,
    )

committed_more : (sent out : List Envelope) (served : List Served) (e : Entry)
    → WasCommitted sent served e → WasCommitted (sent ++ out) served e
committed_more sent out served e h =
    (h.0, h.1, Contains-append_left sent out h.0 h.2, h.3, h.4, h.5)

pub lasts_more : (sent out : List Envelope) (recs : List Rec)
    (s : ShardState) (served : List Served) → Lasts sent recs s served
    → All (λ (e : Envelope). IsToldBy served e.msg) out → Lasts (sent ++ out) recs s served
lasts_more sent out recs s served l told =
    record {
      opens = l.opens;
      holds = l.holds;
      below = l.below;
      clock = l.clock;
      backed = l.backed;
      lives = l.lives;
      told = All-append (λ (e : Envelope). IsToldBy served e.msg) sent out l.told told;
      asked = asked_more sent out served l.asked;
      rises = l.rises;
      whole = each_more (WasCommitted sent served) (WasCommitted (sent ++ out) served)
          (committed_more sent out served) (commits_by recs) l.whole;
      alone =
          alone_named (WasNamed sent) (WasNamed (sent ++ out)) (named_more sent out) recs l.alone;
    }

runs_more : (P Q : Named → Type 0) → ((x : Named) → P x → Q x)
    → (s : ShardState) (entries : List Entry) (served : List Served) → Runs P s entries served
    → Runs Q s entries served
runs_more P Q f s entries served g =
    record {
      coord = g.coord;
      boot = g.boot;
      named = λ lsid t there. f _ (g.named lsid t there);
      has_served = each_more (λ (x : Served). x.life ≡ s.part.boot → IsHeld P s.part.sessions x.tag)
          (λ (x : Served). x.life ≡ s.part.boot → IsHeld Q s.part.sessions x.tag) (λ x h life.
          held_named P Q f s.part.sessions x.tag (h life)) served g.has_served;
      has_committed = each_more (λ (e : Entry). IsHeld P s.part.sessions e.tag) (λ (e : Entry).
          IsHeld Q s.part.sessions e.tag) (λ e h. held_named P Q f s.part.sessions e.tag h) entries
          g.has_committed;
      has_newest = g.has_newest;
    }

-- what was sent tells of what was served, whatever that is
abbrev pub AllTold : List Envelope → Type 0
AllTold out = (served : List Served) → All (λ (e : Envelope). IsToldBy served e.msg) out

last_more : (sent out : List Envelope) (recs : List Rec) → AllTold out → HasLast sent recs
    → HasLast (sent ++ out) recs
last_more sent out recs told h = (h.0, h.1, lasts_more sent out recs h.0 h.1 h.2 (told h.1))

pub right_more : (sent out : List Envelope) (core : ShardState) (recs hand : List Rec) → AllTold out
    → IsRight sent core recs hand → IsRight (sent ++ out) core recs hand
right_more sent out core recs hand told h =
    record {
      kept = last_more sent out recs told h.kept;
      with_hand = last_more sent out (recs ++ hand) told h.with_hand;
      runs = λ running.
          let r = h.runs running in (
            r.0,
            lasts_more sent out recs core r.0 r.1 (told r.0),
            runs_more (WasNamed sent) (WasNamed (sent ++ out)) (named_more sent out) core
                (commits_by recs) r.0 r.2,
            r.3,
          );
    }

-- of a node whose core, records and hand are these
of_node : (sent : List Envelope) (core : ShardState) (recs hand : List Rec) (n : NodeState)
    → n.core ≡ core → n.records ≡ recs → n.hand ≡ hand → IsRight sent core recs hand
    → IsRight sent n.core n.records n.hand
of_node sent core recs hand n a b c h =
    subst (λ (x : ShardState). IsRight sent x n.records n.hand) (sym a)
    (subst (λ (x : List Rec). IsRight sent core x n.hand) (sym b)
    (subst (λ (x : List Rec). IsRight sent core recs x) (sym c) h))

same_sent : (sent out : List Envelope) (core : ShardState) (recs hand : List Rec) → out ≡ []
    → IsRight sent core recs hand → IsRight (sent ++ out) core recs hand
same_sent sent out core recs hand none h = subst (λ (x : List Envelope).
    IsRight x core recs hand) (sym (ap (λ (x : List Envelope). sent ++ x) none ∙ append-nil sent)) h

-- A stopped shard: it says no more than that it is.

abbrev IsFault : Envelope → Type 0
IsFault e = IsAlone e.msg × ((served : List Served) → IsToldBy served e.msg)

record StaysStopped (s : ShardState) (o : CoreStep) : Type 0 where
  core : o.core ≡ s
  ceiling : o.ceiling ≡ None
  rec : o.rec ≡ None
  out : All IsFault (given_out o.answer)

silent_stays : (s : ShardState) (a : NodeAnswer) → All IsFault (given_out a)
    → StaysStopped s (stays s a)
silent_stays s a h = record { core = refl; ceiling = refl; rec = refl; out = h }

says_case : (s : ShardState) → s.part.shard ≡ 0 → (faults : ℕ) (from : NodeId) (m : Msg)
    → StaysStopped s (stays s (says_stopped s faults from m))
says_case s own faults from (msg.Statement m) = silent_stays s (says_stopped s faults from
    (msg.Statement m)) (one IsFault _ (own, λ served. tt))
says_case s own faults from (msg.Answer m) = silent_stays s answer.Stopped (nothing IsFault)
says_case s own faults from (msg.Commit m) = silent_stays s answer.Stopped (nothing IsFault)
says_case s own faults from (msg.Outcome m) = silent_stays s answer.Stopped (nothing IsFault)
says_case s own faults from (msg.Abort m) = silent_stays s answer.Stopped (nothing IsFault)
says_case s own faults from (msg.CommitTwo m) = silent_stays s answer.Stopped (nothing IsFault)
says_case s own faults from (msg.Prepare m) = silent_stays s answer.Stopped (nothing IsFault)
says_case s own faults from (msg.Vote m) = silent_stays s answer.Stopped (nothing IsFault)
says_case s own faults from (msg.Decide m) = silent_stays s answer.Stopped (nothing IsFault)
says_case s own faults from (msg.Acked m) = silent_stays s answer.Stopped (nothing IsFault)
says_case s own faults from (msg.Recover m) = silent_stays s answer.Stopped (nothing IsFault)
says_case s own faults from msg.Nudge = silent_stays s answer.Stopped (nothing IsFault)

stays_case : (s : ShardState) → s.part.shard ≡ 0 → (faults : ℕ) (w : Happening)
    → StaysStopped s (stays s (answer_stopped s faults w))
stays_case s own faults (what.Deliver e) = says_case s own faults e.from e.msg
stays_case s own faults (what.Client conn frame) = silent_stays s answer.Stopped (nothing IsFault)
stays_case s own faults (what.Gone conn) = silent_stays s answer.Stopped (nothing IsFault)
stays_case s own faults what.Resend = silent_stays s answer.Stopped (nothing IsFault)
stays_case s own faults what.Moment = silent_stays s answer.Stopped (nothing IsFault)

room_case : (room : Room) (s : ShardState) → s.part.shard ≡ 0 → (faults : ℕ) (e : NodeEvent)
    → StaysStopped s (stopped_step room s faults e)
room_case Ample s own faults e = stays_case s own faults e.what
room_case Scarce s own faults e = silent_stays s answer.Memory (nothing IsFault)
room_case Short s own faults e = silent_stays s answer.Memory (nothing IsFault)

stopped_stays : (room : Room) (s : ShardState) → s.part.shard ≡ 0 → (e : NodeEvent) (faults : ℕ)
    → s.stopped ≡ Some faults → StaysStopped s (core_step room s e)
unfolding core_step
stopped_stays room s own e faults is = subst (λ (x : Option ℕ).
    StaysStopped s (step_if room s e x)) (sym is) (room_case room s own faults e)

-- Which append failed.

abbrev IsOne : List (List Rec) → List (List Rec) → List Rec → List (List Rec) → Type 0
IsOne appends kept lost rest = (kept ≡ []) × (lost ≡ joined appends) × (rest ≡ [])

abbrev IsFirst : ℕ → Rec → List (List Rec) → List Rec → List (List Rec) → Type 0
IsFirst bound r kept lost rest = (kept ≡ []) × (lost ≡ rec.Ceiling bound ∷ [])
    × (rest ≡ (r ∷ []) ∷ [])

abbrev IsSecond : ℕ → Rec → List (List Rec) → List Rec → List (List Rec) → Type 0
IsSecond bound r kept lost rest = (kept ≡ (rec.Ceiling bound ∷ []) ∷ []) × (lost ≡ r ∷ [])
    × (rest ≡ [])

abbrev Shape : Option ℕ → Option Rec → List (List Rec) → List Rec → List (List Rec) → Type 0
Shape c r kept lost rest =
    IsOne (ceiling_append c ++ record_append r) kept lost rest
    ⊎ ((bound : ℕ) × (x : Rec) × (c ≡ Some bound) × (r ≡ Some x)
    × (IsFirst bound x kept lost rest ⊎ IsSecond bound x kept lost rest))

head_is : {A : Type 0} (a b : A) (xs ys : List A) → a ∷ xs ≡ b ∷ ys → (b ≡ a) × (ys ≡ xs)
head_is a b xs ys h = (cc, cc)

one_shape : (x : List Rec) (kept : List (List Rec)) (lost : List Rec) (rest : List (List Rec))
    → x ∷ [] ≡ kept ++ lost ∷ rest → (kept ≡ []) × (lost ≡ x) × (rest ≡ [])
one_shape x [] lost rest h = let k = head_is x lost [] rest h in (refl, k.0, k.1)
one_shape x (y ∷ kept) lost rest h =
    absurd (none_parts kept lost rest (sym (head_is x y [] (kept ++ lost ∷ rest) h).1))

two_shape : (bound : ℕ) (r : Rec) (kept : List (List Rec)) (lost : List Rec)
    (rest : List (List Rec)) → (rec.Ceiling bound ∷ []) ∷ (r ∷ []) ∷ [] ≡ kept ++ lost ∷ rest
    → IsFirst bound r kept lost rest ⊎ IsSecond bound r kept lost rest
two_shape bound r [] lost rest h = let k =
    head_is (rec.Ceiling bound ∷ []) lost ((r ∷ []) ∷ []) rest h in inl (refl, k.0, k.1)
two_shape bound r (y ∷ kept) lost rest h =
    let k = head_is (rec.Ceiling bound ∷ []) y ((r ∷ []) ∷ []) (kept ++ lost ∷ rest) h in
    let more = one_shape (r ∷ []) kept lost rest (sym k.1) in
    inr (
      ap (λ (z : List Rec). z ∷ kept) k.0
          ∙ ap (λ (zs : List (List Rec)). (rec.Ceiling bound ∷ []) ∷ zs) more.0,
      more.1,
      more.2,
    )

shape : (c : Option ℕ) (r : Option Rec) (kept : List (List Rec)) (lost : List Rec)
    (rest : List (List Rec)) → ceiling_append c ++ record_append r ≡ kept ++ lost ∷ rest
    → Shape c r kept lost rest
shape None None kept lost rest h = absurd (none_parts kept lost rest h)
shape None (Some r) kept lost rest h = inl (one_shape (r ∷ []) kept lost rest h)
shape (Some bound) None kept lost rest h = inl (one_shape (rec.Ceiling bound ∷ []) kept lost rest h)
shape (Some bound) (Some r) kept lost rest h =
    inr (bound, r, refl, refl, two_shape bound r kept lost rest h)

-- A state whose ceiling alone was raised.

raised_above : (last now ceiling raised : ℕ) → last ≤ now → now ≤ ceiling → ceiling ≡ raised
    → last ≤ raised
raised_above last now ceiling raised h k is = omega (arith, h, k, is)

ceiling_lasts : (sent : List Envelope) (recs : List Rec) (s : ShardState) (served : List Served)
    (o : CoreStep) (bound : ℕ) → Lasts sent recs s served → KeepsTime s o
    → IsBacked (recs ++ rec.Ceiling bound ∷ []) (at_ceiling s o)
    → Lasts sent (recs ++ rec.Ceiling bound ∷ []) (at_ceiling s o) served
ceiling_lasts sent recs s served o bound l time backed =
    record {
      opens = l.opens;
      holds = subst (λ (es : List Entry). IsServing s.part l.opens s.clock.last es served)
          (sym (ceiling_more recs bound)) l.holds;
      below =
          subst (Each (λ (e : Entry). e.at ≤ s.clock.last)) (sym (ceiling_more recs bound)) l.below;
      clock = raised_above s.clock.last o.core.clock.last o.core.clock.ceiling (unwrap_or o.ceiling
          s.clock.ceiling) time.rises time.clock.below time.ceiling;
      backed = backed;
      lives = l.lives;
      told = l.told;
      asked = l.asked;
      rises = l.rises;
      whole = subst (Each (WasCommitted sent served)) (sym (ceiling_more recs bound)) l.whole;
      alone = ceiling_alone (WasNamed sent) recs l.alone bound;
    }

-- What a node takes.

module _ (sent : List Envelope) (once : IsOnce (WasNamed sent)) (old : NodeState)
    (own : old.core.part.shard ≡ 0) (e : NodeEvent) (a : NodeAnswer) (new : NodeState) (room : Room)
    (alone : EventAlone e.what) (comes : WasSent sent e.what)
    (right : IsRight sent old.core old.records old.hand) where
  abbrev o : CoreStep
  o = core_step room old.core e

  abbrev Done : Type 0
  Done = IsRight (sent ++ given_out a) new.core new.records new.hand
      × All (λ (x : Envelope). IsAlone x.msg) (given_out a)

  none_given : (P : Envelope → Type 0) → a ≡ answer.DiskFault → All P (given_out a)
  none_given P is = subst (λ (x : NodeAnswer). All P (given_out x)) (sym is) (nothing P)

  -- while it runs
  module _ (running : old.core.stopped ≡ None) (time : KeepsTime old.core o) where
    abbrev run : HasRun sent old.core old.records old.hand
    run = right.runs running

    abbrev served : List Served
    served = run.0

    abbrev now : List Rec
    now = old.records ++ joined (appends_of o)

    next : Behind sent once room old.core own e old.records served run.1 run.2 alone comes time
    next = behind sent once room old.core own e old.records served run.1 run.2 alone comes time

    appended : Appended old o a new → Done
    appended d =
        let out = given_out o.answer in
        let last : Lasts (sent ++ out) now o.core next.told =
        lasts_more sent out now o.core next.told next.lasts next.out in
        let stands : IsRight (sent ++ out) o.core now [] = record {
          kept = (o.core, next.told, last);
          with_hand = (
            o.core,
            next.told,
            subst (λ (r : List Rec). Lasts (sent ++ out) r o.core next.told)
                (sym (append-nil now)) last,
          );
          runs = λ still. (
            next.told,
            last,
            runs_more (WasNamed sent) (WasNamed (sent ++ out)) (named_more sent out) o.core
                (commits_by now) next.told next.runs,
            refl,
          );
        } in
        let given : given_out a ≡ out = ap given_out d.told in (
          subst (λ (x : List Envelope). IsRight (sent ++ x) new.core new.records new.hand)
              (sym given)
              (of_node (sent ++ out) o.core now [] new d.core d.records (d.hand ∙ run.3) stands),
          subst (All (λ (x : Envelope). IsAlone x.msg)) (sym given) (does sent once room old.core
              own e old.records served run.1 run.2 alone comes time).out,
        )

    -- an append failed
    module _ (f : Failed old o a new) (backed : IsBacked old.records old.core) where
      abbrev kept : List Rec
      kept = old.records ++ joined f.kept

      fault : IsBacked new.records (kept_state old.core o f.kept)
          × IsBacked (new.records ++ new.hand) (lost_state old.core o f.rest)
      fault = fault_is_backed old e room a new f backed

      behind_all : (r : List Rec) → r ≡ now → HasLast sent r
      behind_all r is = (
        o.core,
        next.told,
        subst (λ (x : List Rec). Lasts sent x o.core next.told) (sym is) next.lasts,
      )

      as_before : (r : List Rec) → r ≡ old.records → HasLast sent r
      as_before r is =
          (old.core, served, subst (λ (x : List Rec). Lasts sent x old.core served) (sym is) run.1)

      as_raised : (r : List Rec) (bound : ℕ) → r ≡ old.records ++ rec.Ceiling bound ∷ []
          → IsBacked r (at_ceiling old.core o) → HasLast sent r
      as_raised r bound is b = (
        at_ceiling old.core o,
        served,
        subst (λ (x : List Rec). Lasts sent x (at_ceiling old.core o) served) (sym is)
            (ceiling_lasts sent old.records old.core served o bound run.1 time
            (subst (λ (x : List Rec). IsBacked x (at_ceiling old.core o)) is b)),
      )

      both_hands : HasLast sent kept × HasLast sent (kept ++ f.lost)
      both_hands = by_shape (shape o.ceiling o.rec f.kept f.lost f.rest f.parted)
        where
          none_kept : f.kept ≡ [] → kept ≡ old.records
          none_kept none = ap (λ (ks : List (List Rec)). old.records ++ joined ks) none
              ∙ append-nil old.records

          records_are : new.records ++ new.hand ≡ kept ++ f.lost
          records_are = ap (λ (x : List Rec). x ++ new.hand) f.records
              ∙ ap (λ (x : List Rec). kept ++ x) f.hand

          by_shape : Shape o.ceiling o.rec f.kept f.lost f.rest
              → HasLast sent kept × HasLast sent (kept ++ f.lost)
          by_shape (inl h) = (
            as_before kept (none_kept h.0),
            behind_all (kept ++ f.lost) (ap (λ (x : List Rec). x ++ f.lost) (none_kept h.0)
                ∙ ap (λ (x : List Rec). old.records ++ x) h.1),
          )
          by_shape (inr h) = elim (h.4) [
            | inl first ↦ (
              as_before kept (none_kept first.0),
              as_raised (kept ++ f.lost) h.0 (ap (λ (x : List Rec). x ++ f.lost) (none_kept first.0)
                  ∙ ap (λ (x : List Rec). old.records ++ x) first.1)
                  (subst (λ (x : List Rec). IsBacked x (at_ceiling old.core o)) records_are
                  (subst (λ (r : List (List Rec)). IsBacked (new.records ++ new.hand)
                  (lost_state old.core o r)) first.2 fault.1)),
            )
            | inr second ↦
                let is : kept ≡ old.records ++ rec.Ceiling h.0 ∷ [] =
                ap (λ (ks : List (List Rec)). old.records ++ joined ks) second.0 in (
                  as_raised kept h.0 is (subst (λ (x : List Rec). IsBacked x
                      (at_ceiling old.core o)) f.records (subst (λ (ks : List (List Rec)).
                      IsBacked new.records (kept_state old.core o ks)) second.0 fault.0)),
                  behind_all (kept ++ f.lost)
                      (ap (λ (x : List Rec). x ++ f.lost) is
                      ∙ ap (λ (x : List Rec). (old.records ++ rec.Ceiling h.0 ∷ []) ++ x)
                      second.1 ∙ sym (both_appended old.records h.0 h.1)
                      ∙ ap (λ (c : Option ℕ). old.records
                      ++ joined (ceiling_append c ++ record_append (Some h.1))) (sym h.2)
                      ∙ ap (λ (r : Option Rec). old.records
                      ++ joined (ceiling_append o.ceiling ++ record_append r)) (sym h.3)),
                )
          ]

      failed : Done
      failed =
          let stopped : ShardState = record o.core { stopped = Some new.faults } in
          let stands : IsRight sent stopped kept f.lost = record {
            kept = both_hands.0;
            with_hand = both_hands.1;
            runs = λ still. let wrong : Some new.faults ≡ None = still in cc;
          } in (
            same_sent sent (given_out a) new.core new.records new.hand (ap given_out f.told)
                (of_node sent stopped kept f.lost new f.core f.records f.hand stands),
            none_given (λ (x : Envelope). IsAlone x.msg) f.told,
          )

  -- once it stopped
  stopped : (faults : ℕ) → old.core.stopped ≡ Some faults → Appended old o a new → Done
  stopped faults is d =
      let s = stopped_stays room old.core own e faults is in
      let given : given_out a ≡ given_out o.answer = ap given_out d.told in
      let out : All IsFault (given_out a) = subst (All IsFault) (sym given) s.out in
      let none : appends_of o ≡ [] = no_appends o s.ceiling s.rec in
      let records : new.records ≡ old.records = d.records
      ∙ ap (λ (x : List (List Rec)). old.records ++ joined x) none ∙ append-nil old.records in (
        of_node (sent ++ given_out a) old.core old.records old.hand new (d.core ∙ s.core)
            records d.hand
            (right_more sent (given_out a) old.core old.records old.hand (λ told. All-weaker IsFault
            (λ (x : Envelope). IsToldBy told x.msg) (λ x h. h.1 told) (given_out a) out) right),
        All-weaker IsFault (λ (x : Envelope). IsAlone x.msg) (λ x h. h.0) (given_out a) out,
      )

  not_failed : (faults : ℕ) → old.core.stopped ≡ Some faults → Failed old o a new → Done
  not_failed faults is f =
      let s = stopped_stays room old.core own e faults is in
      absurd (none_parts f.kept f.lost f.rest (sym (no_appends o s.ceiling s.rec) ∙ f.parted))

  takes_by : (stops : Option ℕ) → old.core.stopped ≡ stops → (old.core.stopped ≡ None
      → KeepsTime old.core o) → (old.core.stopped ≡ None → IsBacked old.records old.core)
      → Appended old o a new ⊎ Failed old o a new → Done
  takes_by None is time backed (inl d) = appended is (time is) d
  takes_by None is time backed (inr f) = failed is (time is) f (backed is)
  takes_by (Some faults) is time backed (inl d) = stopped faults is d
  takes_by (Some faults) is time backed (inr f) = not_failed faults is f

pub takes_right : (sent : List Envelope) → IsOnce (WasNamed sent) → (old : NodeState)
    → old.core.part.shard ≡ 0 → (e : NodeEvent) (a : NodeAnswer) (new : NodeState)
    → (t : ShardTakes old e a new) → IsDurableNode old
    → (old.core.stopped ≡ None → KeepsTime old.core (core_step t.0 old.core e))
    → EventAlone e.what → WasSent sent e.what → IsRight sent old.core old.records old.hand
    → IsRight (sent ++ given_out a) new.core new.records new.hand
    × All (λ (x : Envelope). IsAlone x.msg) (given_out a)
takes_right sent once old own e a new t durable time alone comes right =
    takes_by sent once old own e a new t.0 alone comes right old.core.stopped refl time (λ running.
    (durable.running running).0) t.1

-- Starts.

above_all : (at last ceiling now : ℕ) → at ≤ last → last ≤ ceiling → now ≡ ceiling → at ≤ now
above_all at last ceiling now h k is = omega (arith, h, k, is)

not_next : (life boot now : ℕ) → life ≤ boot → now ≡ boot + 1 → life ≡ now → ⊥
not_next life boot now h k is = omega (arith, h, k, is)

positive : (now boot : ℕ) → now ≡ boot + 1 → 0 < now
positive now boot h = omega (arith, h)

below_next : (life boot now : ℕ) → life ≤ boot → now ≡ boot + 1 → life ≤ now
below_next life boot now h k = omega (arith, h, k)

module _ (sent : List Envelope) (recs : List Rec) (faults : ℕ) (m : NodeState) (go : started 0 recs
    faults ≡ Some m) (alone : RecordsAlone (WasNamed sent) recs) (served : List Served) where
  abbrev all : List Rec
  all = recs ++ boot_behind (image_of recs) ∷ []

  is : m ≡ node_of 0 all faults
  is = started_is 0 recs faults m go

  booted : RecordsAlone (WasNamed sent) all
  booted = boot_alone (WasNamed sent) recs alone ((image_of recs).boot + 1)

  boot_is : m.core.part.boot ≡ (image_of recs).boot + 1
  boot_is = ap (λ (n : NodeState). n.core.part.boot) is
      ∙ ap (λ (i : Image). i.boot) (image_append recs (boot_behind (image_of recs) ∷ []))

  started_right : Lasts sent all m.core served → Each (λ (x : Served). x.life ≡ m.core.part.boot
      → ⊥) served → IsRight sent m.core m.records m.hand
  started_right last new =
      let sessions : m.core.part.sessions ≡ (image_of all).sessions =
      ap (λ (n : NodeState). n.core.part.sessions) is in
      let runs : Runs (WasNamed sent) m.core (commits_by all) served = record {
        coord = ap (λ (n : NodeState). n.core.coord) is ∙ booted.coord;
        boot = positive m.core.part.boot (image_of recs).boot boot_is;
        named = subst (SessionsNamed (WasNamed sent)) (sym sessions) booted.named;
        has_served = each_more (λ (x : Served). x.life ≡ m.core.part.boot
            → ⊥) (λ (x : Served). x.life ≡ m.core.part.boot → IsHeld (WasNamed sent)
            m.core.part.sessions x.tag) (λ x never life. absurd (never life)) served new;
        has_committed = subst (λ (t : Table). Each (λ (e : Entry). IsHeld (WasNamed sent) t e.tag)
            (commits_by all)) (sym sessions) booted.held;
        has_newest = λ lsid o there. let wrong : ◌≡◌ {A = Option Open} None (Some o) =
            sym (ap (λ (n : NodeState). open_of n.core.part lsid) is) ∙ there in cc;
      } in
      of_node sent m.core all [] m refl (ap (λ (n : NodeState). n.records) is)
      (ap (λ (n : NodeState). n.hand) is)
      (record {
        kept = (m.core, served, last);
        with_hand = (
          m.core,
          served,
          subst (λ (r : List Rec). Lasts sent r m.core served) (sym (append-nil all)) last,
        );
        runs = λ running. (served, last, runs, refl);
      })

  backed_now : AreWritten recs → IsBacked all m.core
  backed_now written = subst (λ (r : List Rec). IsBacked r m.core)
      (ap (λ (n : NodeState). n.records) is) (start_backed 0 recs faults m written go)

pub again_right : (sent : List Envelope) (n : NodeState) (recs : List Rec) (faults : ℕ)
    (m : NodeState) → IsDurableNode n → IsRight sent n.core n.records n.hand → IsLeft n recs
    → started 0 recs faults ≡ Some m → IsRight sent m.core m.records m.hand
again_right sent n recs faults m durable right left go =
    let h : HasLast sent recs =
    ⊎_elim (λ (at : recs ≡ n.records). subst (HasLast sent) (sym at) right.kept)
    (λ (at : recs ≡ n.records ++ n.hand). subst (HasLast sent) (sym at) right.with_hand) left in
    let written : AreWritten recs = ⊎_elim (λ (at : recs ≡ n.records). subst AreWritten (sym at)
    (written_front n.records n.hand durable.written)) (λ (at : recs ≡ n.records ++ n.hand).
    subst AreWritten (sym at) durable.written) left in
    let s : ShardState = h.0 in
    let served : List Served = h.1 in
    let l : Lasts sent recs s served = h.2 in
    let found = start_finds 0 recs faults m s l.backed go in
    let boot = boot_more recs ((image_of recs).boot + 1) in
    let last : m.core.clock.last ≡ s.clock.ceiling = ap (λ c. c.last) found.clock in
    let top : m.core.clock.ceiling ≡ s.clock.ceiling = ap (λ c. c.ceiling) found.clock in
    started_right sent recs faults m go l.alone served
    (record {
      opens = prepared_ones l.opens;
      holds = subst (λ (es : List Entry). IsServing m.core.part (prepared_ones l.opens)
          m.core.clock.last es served) (sym boot) (start_serves 0 recs faults m s l.opens
          (commits_by recs) served l.backed written l.holds l.clock go);
      below = subst (Each (λ (e : Entry). e.at ≤ m.core.clock.last)) (sym boot)
          (each_more (λ (e : Entry). e.at ≤ s.clock.last) (λ (e : Entry). e.at ≤ m.core.clock.last)
          (λ e k. above_all e.at s.clock.last s.clock.ceiling m.core.clock.last k l.clock last)
          (commits_by recs) l.below);
      clock = same_both m.core.clock.last m.core.clock.ceiling s.clock.ceiling last top;
      backed = backed_now sent recs faults m go l.alone served written;
      lives = each_more (λ (x : Served). (0 < x.life) × (x.life ≤ s.part.boot))
          (λ (x : Served). (0 < x.life) × (x.life ≤ m.core.part.boot))
          (λ x k. (k.0, below_next x.life s.part.boot m.core.part.boot k.1 found.boot))
          served l.lives;
      told = l.told;
      asked = l.asked;
      rises = l.rises;
      whole = subst (Each (WasCommitted sent served)) (sym boot) l.whole;
      alone = booted sent recs faults m go l.alone served;
    })
    (each_more (λ (x : Served). (0 < x.life) × (x.life ≤ s.part.boot))
    (λ (x : Served). x.life ≡ m.core.part.boot → ⊥)
    (λ x k. not_next x.life s.part.boot m.core.part.boot k.1 found.boot) served l.lives)
  where
    same_both : (last ceiling top : ℕ) → last ≡ top → ceiling ≡ top → last ≤ ceiling
    same_both last ceiling top h k = omega (arith, h, k)

pub first_right : (faults : ℕ) (m : NodeState) → started 0 [] faults ≡ Some m
    → IsRight [] m.core m.records m.hand
first_right faults m go =
    let alone = none_alone (WasNamed []) in
    let boot = boot_more [] ((image_of []).boot + 1) ∙ no_commits in
    started_right [] [] faults m go alone []
    (record {
      opens = none_open;
      holds = subst (λ (es : List Entry). IsServing m.core.part none_open m.core.clock.last es [])
          (sym boot) (first_serves 0 faults m go);
      below = subst (Each (λ (e : Entry). e.at ≤ m.core.clock.last)) (sym boot) tt;
      clock = subst (λ (n : NodeState). n.core.clock.last ≤ n.core.clock.ceiling) (sym (started_is 0
          [] faults m go)) (same_time (image_of (boot_behind (image_of []) ∷ [])).ceiling);
      backed = backed_now [] [] faults m go alone [] tt;
      lives = tt;
      told = nothing (λ (e : Envelope). IsToldBy [] e.msg);
      asked = tt;
      rises = tt;
      whole = subst (Each (WasCommitted [] [])) (sym boot) tt;
      alone = booted [] [] faults m go alone [];
    }) tt
  where
    same_time : (n : ℕ) → n ≤ n
    same_time n = omega arith
