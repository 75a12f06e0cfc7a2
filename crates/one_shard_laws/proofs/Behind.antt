-- What holds of a shard that runs holds after its step.
use Rattle.std.proofs.Common.{◌≡◌, ◌⊎◌, inl, inr, ◌≤◌, ◌<◌, ⊎_elim, ◌<ℤ◌, ◌≤ℤ◌, ◌++◌, ℕ, ℤ, Bool}
use Rattle.std.proofs.Common.{List, [], ◌∷◌, filter_map, All, Contains, Option, Some, None, IfSome}
use Rattle.std.proofs.Common.{Result, Ok, Err, refl, ap, subst, ◌∙◌, sym, arith, IsSomeAnd}
use Rattle.std.proofs.lemmas.List.{append_assoc, append-nil}
use Rattle.std.proofs.lemmas.List.Elements.{All-nil, All-cons, All-head, All-tail, All-weaker}
use Rattle.std.proofs.lemmas.List.Elements.{All-contains, All-contains_itself}
use Rattle.txn_types.specs.declared.cause.Cause.{Cause}
use Rattle.txn_types.specs.declared.cause.Cause.TheVariants as cause
use Rattle.txn_types.specs.declared.event.Happening.{Happening}
use Rattle.txn_types.specs.declared.event.Happening.TheVariants as what
use Rattle.txn_types.specs.declared.event.NodeEvent.{NodeEvent}
use Rattle.txn_types.specs.declared.message.Answer.{Answer}
use Rattle.txn_types.specs.declared.message.Commit.{Commit}
use Rattle.txn_types.specs.declared.message.Envelope.{Envelope}
use Rattle.txn_types.specs.declared.message.Msg.{Msg}
use Rattle.txn_types.specs.declared.message.Msg.TheVariants as msg
use Rattle.txn_types.specs.declared.names.Tag.{Tag}
use Rattle.txn_types.specs.declared.node.Lsid.{Lsid}
use Rattle.txn_types.specs.declared.operation.OpReply.{OpReply}
use Rattle.txn_types.specs.declared.write.Write.{Write}
use Rattle.txn_semantics.specs.declared.commits.Entry.{Entry}
use Rattle.txn_semantics.specs.Writes.{write_set}
use Rattle.session_table.specs.Sessions.{Table, session_of}
use Rattle.session_table.specs.declared.session.Session.{Session}
use Rattle.journal_rec.specs.declared.record.Rec.{Rec}
use Rattle.journal_rec.specs.declared.record.Rec.TheVariants as rec
use Rattle.participant.specs.Part.{Part, session}
use Rattle.shard_image.specs.Image.{Image, image_of}
use Rattle.part_laws.specs.Each.{Each}
use Rattle.part_laws.specs.Sound.{Opens, Served, written}
use Rattle.part_laws.specs.Parts.{IsServing, Holds}
use Rattle.part_laws.specs.Kept.{CommitsBy}
use Rattle.part_laws.proofs.Elapsed.{clock_holds}
use Rattle.shard_core.specs.State.{ShardState}
use Rattle.shard_core.specs.Core.{Room, CoreStep, core_step}
use Rattle.shard_core.specs.Durable.{HasSession}
use Rattle.shard_core.specs.Laws.{KeepsTime}
use Rattle.shard_core.specs.NodeStep.{ceiling_append, record_append, appends_of, joined}
use Rattle.durable_laws.proofs.Facts.{image_append, one_of_each}
use Rattle.durable_laws.proofs.Stepping.{step_is_backed}
use Rattle.txn_types.specs.Letters.{Named, named_in, given_out}
use Rattle.shard_core.specs.Effect.{NamesBy}
use Rattle.serving_laws.specs.Coming.{MsgComes, EventComes}
use Rattle.serving_laws.specs.Left.{CoordinatesOnly, NoneButCoord, LeftBy, Left, StepServes}
use Rattle.serving_laws.specs.Telling.{RefusedThere, ToldThere, IsToldBy}
use Rattle.serving_laws.proofs.Stepping.{step_serves}
use Rattle.one_shard_laws.specs.Sessions.{GoesOn, IsHeld, IsOnce}
use Rattle.one_shard_laws.specs.Alone.{IsAlone, EventAlone, RecHeld, HasNumber, EventAsksFor}
use Rattle.one_shard_laws.specs.Alone.{StepAlone}
use Rattle.one_shard_laws.specs.Lasting.{WasNamed, AllAsked, InOrder, WasCommitted, commits_by}
use Rattle.one_shard_laws.specs.Lasting.{RecordsAlone, Lasts, Runs}
use Rattle.one_shard_laws.proofs.Sessions.{below_above}
use Rattle.part_laws.proofs.Turns.{one_some}
use Rattle.one_shard_laws.proofs.Stepping.{step_alone}
use Rattle.one_shard_laws.proofs.Growing.{WasSent, committed_still, IsMore, Grew, grew}
use Rattle.one_shard_laws.proofs.Listing.{each_more, each_last, ceiling_more, commit_more}
use Rattle.one_shard_laws.proofs.Recording.{held_on, ceiling_alone, commit_alone}
use Rattle.one_shard_laws.proofs.Beginning.{is_new}

-- Answers tell of what was served, where more is served.

refused_more : (x : Served) (served : List Served) (a : Answer) (why : Cause)
    → RefusedThere served a why → RefusedThere (x ∷ served) a why
refused_more x served a (cause.Statement err) h = (h.0, inr h.1, h.2, h.3, h.4, h.5)
refused_more x served a other h = tt

there_more : (x : Served) (served : List Served) (a : Answer) (o : Result (OpReply × Bool) Cause)
    → ToldThere served a o → ToldThere (x ∷ served) a o
there_more x served a (Ok done) h = (h.0, inr h.1, h.2, h.3, h.4, h.5, h.6)
there_more x served a (Err why) h = refused_more x served a why h

told_more : (x : Served) (served : List Served) (m : Msg) → IsToldBy served m
    → IsToldBy (x ∷ served) m
told_more x served (msg.Answer a) h = there_more x served a a.outcome h
told_more x served other h = tt

all_told_more : (x : Served) (served : List Served) (sent : List Envelope)
    → All (λ (e : Envelope). IsToldBy served e.msg) sent
    → All (λ (e : Envelope). IsToldBy (x ∷ served) e.msg) sent
all_told_more x served sent h = All-weaker (λ (e : Envelope). IsToldBy served e.msg)
    (λ (e : Envelope). IsToldBy (x ∷ served) e.msg) (λ e k. told_more x served e.msg k) sent h

-- What a step appends.

pub none_appended : (recs : List Rec)
    → recs ++ joined (ceiling_append None ++ record_append None) ≡ recs
none_appended recs = append-nil recs

pub both_appended : (recs : List Rec) (bound : ℕ) (r : Rec) → recs ++ joined (ceiling_append
    (Some bound) ++ record_append (Some r)) ≡ (recs ++ rec.Ceiling bound ∷ []) ++ r ∷ []
both_appended recs bound r = sym (append_assoc recs (rec.Ceiling bound ∷ []) (r ∷ []))

-- What a message names that was sent was named.

abbrev with_name : Option Named → List Named → List Named
with_name None names = names
with_name (Some n) names = n ∷ names

abbrev names : List Envelope → List Named
names sent = filter_map (λ e. named_in e.msg) sent

abbrev IsNamed : (Named → Type 0) → Envelope → Type 0
IsNamed P e = IfSome (named_in e.msg) P

first_named : (P : Named → Type 0) (e : Envelope) (sent : List Envelope) (n : Option Named)
    → named_in e.msg ≡ n → All P (names (e ∷ sent)) → (All P (names sent) → All (IsNamed P) sent)
    → All (IsNamed P) (e ∷ sent)
first_named P e sent None is h more =
    let rest : All P (names sent) =
    subst (λ (o : Option Named). All P (with_name o (names sent))) is h in
    All-cons (IsNamed P) e sent (subst (λ (o : Option Named). IfSome o P) (sym is) tt) (more rest)
first_named P e sent (Some n) is h more =
    let all : All P (n ∷ names sent) =
    subst (λ (o : Option Named). All P (with_name o (names sent))) is h in
    All-cons (IsNamed P) e sent (subst (λ (o : Option Named). IfSome o P) (sym is)
    (All-head P n (names sent) all)) (more (All-tail P n (names sent) all))

all_named : (P : Named → Type 0) (sent : List Envelope) → All P (names sent) → All (IsNamed P) sent
all_named P [] h = All-nil (IsNamed P)
all_named P (e ∷ sent) h = first_named P e sent (named_in e.msg) refl h (λ k. all_named P sent k)

pub sent_named : (sent : List Envelope) (e : Envelope) → Contains sent e
    → IfSome (named_in e.msg) (WasNamed sent)
sent_named sent e h = All-contains (IsNamed (WasNamed sent)) sent e (all_named (WasNamed sent) sent
    (All-contains_itself (names sent))) h

event_named : (sent : List Envelope) (w : Happening) → WasSent sent w → NamesBy (WasNamed sent) w
event_named sent (what.Deliver e) h = sent_named sent e h
event_named sent other h = tt

-- What is left after a message: the commits stay, or one commit more is there.

pub record Committed (q : Part) (mid : ℕ) (entries : List Entry) (told : List Served)
    (opens : Opens) (r : Option Rec) : Type 0 where
  pub tag : Tag
  pub lsid : Lsid
  pub number : ℤ
  pub read_at : ℕ
  pub at : ℕ
  pub writes : List Write
  pub is : r ≡ Some (rec.Commit tag lsid number read_at at writes)
  pub above : mid < at
  pub wrote : writes ≡ write_set (written tag q.boot told)
  pub holds : Holds opens q at
      (entries ++ record { tag = tag; read_at = read_at; at = at; writes = writes } ∷ []) told

module _ (P : Named → Type 0) (before q : Part) (opens : Opens) (mid later : ℕ)
    (entries : List Entry) (told : List Served) where
  abbrev IsRecorded : Option Rec → Type 0
  IsRecorded r = IfSome r (λ (r : Rec). (p : Part) × GoesOn P before p × RecHeld P p q later r)

  abbrev Leaves : Option Rec → Type 0
  Leaves r = ((r ≡ None) × Holds opens q later entries told) ⊎ Committed q mid entries told opens r

  not_both : (p : Part) (r : Rec) → RecHeld P p q later r → CoordinatesOnly r → ⊥
  not_both p (rec.Commit tag lsid number read_at at writes) h k = k
  not_both p (rec.CoordStart tag lsid number parts) h k = h
  not_both p (rec.CoordDecision tag d) h k = h
  not_both p (rec.CoordEnd tag) h k = h
  not_both p (rec.Boot boot) h k = h
  not_both p (rec.Ceiling bound) h k = h
  not_both p (rec.Prepared tag lsid number boot read_at at coordinator writes) h k = h
  not_both p (rec.Decided d) h k = h
  not_both p (rec.Floor floor) h k = h

  stays : (r : Option Rec) → IsRecorded r
      → Holds opens q later entries told × NoneButCoord r → Leaves r
  stays None h k = inl (refl, k.0)
  stays (Some r) h k = absurd (not_both h.0 r h.2 k.1)

  commits : (r : Option Rec) → CommitsBy opens q mid later entries told r → Leaves r
  commits None h = inl (refl, subst (λ (last : ℕ). Holds opens q last entries told) (sym h.0) h.1)
  commits (Some (rec.Commit tag lsid number read_at at writes)) h =
      inr (record {
        tag = tag;
        lsid = lsid;
        number = number;
        read_at = read_at;
        at = at;
        writes = writes;
        is = refl;
        above = h.0;
        wrote = h.2;
        holds = h.1 entries [] (sym (append-nil entries)) tt;
      })
  commits (Some (rec.Boot boot)) h = absurd h
  commits (Some (rec.Ceiling bound)) h = absurd h
  commits (Some (rec.Prepared tag lsid number boot read_at at coordinator writes)) h = absurd h
  commits (Some (rec.Decided d)) h = absurd h
  commits (Some (rec.CoordStart tag lsid number parts)) h = absurd h
  commits (Some (rec.CoordDecision tag d)) h = absurd h
  commits (Some (rec.CoordEnd tag)) h = absurd h
  commits (Some (rec.Floor floor)) h = absurd h

  msg_leaves : (m : Msg) (r : Option Rec) → IsAlone m → IsRecorded r
      → LeftBy opens q mid later entries told m r → Leaves r
  msg_leaves (msg.Commit m) r alone h k = commits r k
  msg_leaves (msg.Statement m) r alone h k = stays r h k
  msg_leaves (msg.Answer m) r alone h k = stays r h k
  msg_leaves (msg.Outcome m) r alone h k = stays r h k
  msg_leaves (msg.Abort m) r alone h k = stays r h k
  msg_leaves (msg.Recover m) r alone h k = stays r h k
  msg_leaves msg.Nudge r alone h k = stays r h k
  msg_leaves (msg.CommitTwo m) r alone h k = absurd alone
  msg_leaves (msg.Prepare m) r alone h k = absurd alone
  msg_leaves (msg.Vote m) r alone h k = absurd alone
  msg_leaves (msg.Decide m) r alone h k = absurd alone
  msg_leaves (msg.Acked m) r alone h k = absurd alone

  pub leaves : (w : Happening) (r : Option Rec) → EventAlone w → IsRecorded r
      → Left opens q mid later entries told w r → Leaves r
  leaves (what.Deliver e) r alone h k = msg_leaves e.msg r alone h k
  leaves (what.Client conn frame) r alone h k = stays r h k
  leaves (what.Gone conn) r alone h k = stays r h k
  leaves what.Resend r alone h k = stays r h k
  leaves what.Moment r alone h k = stays r h k

-- Records with what a step appends.

module _ (P : Named → Type 0) (recs : List Rec) (alone : RecordsAlone P recs) where
  abbrev Now : List Rec → List Entry → Type 0
  Now now entries = RecordsAlone P now × (commits_by now ≡ entries)

  pub quiet_records : (c : Option ℕ)
      → Now (recs ++ joined (ceiling_append c ++ record_append None)) (commits_by recs)
  quiet_records None =
      subst (λ (l : List Rec). Now l (commits_by recs)) (sym (none_appended recs)) (alone, refl)
  quiet_records (Some bound) = (ceiling_alone P recs alone bound, ceiling_more recs bound)

  module _ (tag : Tag) (lsid : Lsid) (number : ℤ) (read_at at : ℕ) (writes : List Write)
      (named : P (record { tag = tag; lsid = lsid; number = number }))
      (fits : (s : Session) → session_of (image_of recs).sessions lsid ≡ Some s
      → s.number ≤ℤ number) (below : Each (λ (e : Entry). e.at < at) (commits_by recs)) where
    abbrev r : Rec
    r = rec.Commit tag lsid number read_at at writes

    abbrev mine : Entry
    mine = record { tag = tag; read_at = read_at; at = at; writes = writes }

    pub commit_records : (c : Option ℕ) → Now (recs
        ++ joined (ceiling_append c ++ record_append (Some r))) (commits_by recs ++ mine ∷ [])
    commit_records None = (
      commit_alone P recs alone tag lsid number read_at at writes named fits below,
      commit_more recs tag lsid number read_at at writes below,
    )
    commit_records (Some bound) =
        let with_bound = recs ++ rec.Ceiling bound ∷ [] in
        let image : (image_of with_bound).sessions ≡ (image_of recs).sessions =
        ap (λ (i : Image). i.sessions) (image_append recs (rec.Ceiling bound ∷ [])) in
        let more = ceiling_more recs bound in
        let still : Each (λ (e : Entry). e.at < at) (commits_by with_bound) =
        subst (Each (λ (e : Entry). e.at < at)) (sym more) below in
        subst (λ (l : List Rec). Now l (commits_by recs ++ mine ∷ []))
        (sym (both_appended recs bound r)) (
          commit_alone P with_bound (ceiling_alone P recs alone bound)
              tag lsid number read_at at writes named
              (λ s there. fits s (sym (ap (λ (t : Table). session_of t lsid) image) ∙ there)) still,
          commit_more with_bound tag lsid number read_at at writes still
              ∙ ap (λ (es : List Entry). es ++ mine ∷ []) more,
        )

at_most : (a b c : ℕ) → a ≤ b → b ≤ c → a ≤ c
at_most a b c h k = omega (arith, h, k)

same_at : (a b : ℕ) → a ≡ b → a ≤ b
same_at a b h = omega (arith, h)

far_below : (a b c d : ℕ) → a ≤ b → b ≤ c → c < d → a < d
far_below a b c d h k m = omega (arith, h, k, m)

-- a session that records hold isn't above the one that a commit's record is of
fits_case : (P : Named → Type 0) (before p : Part) (lsid : Lsid) (number : ℤ) (t : Session)
    (o : Option Session) → GoesOn P before p → HasNumber p lsid number → session before lsid ≡ o
    → IsSomeAnd o (λ (s : Session). (s ≡ t) ⊎ (t.number <ℤ s.number)) → t.number ≤ℤ number
fits_case P before p lsid number t None go has is h = absurd h
fits_case P before p lsid number t (Some s) go has is h =
    let next = go.sessions.numbers lsid s is in
    let one : next.0 ≡ has.0 = one_some (session p lsid) next.0 has.0 next.1 has.1 in
    let above : s.number ≤ℤ number =
    subst (λ (n : ℤ). s.number ≤ℤ n) (ap (λ (x : Session). x.number) one ∙ has.2) next.2 in
    ⊎_elim (λ (same : s ≡ t). subst (λ (x : Session). x.number ≤ℤ number) same above)
    (λ (lower : t.number <ℤ s.number). below_above t.number s.number number lower above) h

-- the message that asks for a commit was sent
asked_for : (sent : List Envelope) (w : Happening) (boot : ℕ) (tag : Tag) (lsid : Lsid)
    (number : ℤ) (read_at at : ℕ) (writes : List Write) → WasSent sent w
    → EventAsksFor w boot (rec.Commit tag lsid number read_at at writes)
    → (d : Envelope) × (m : Commit) × Contains sent d × (d.msg ≡ msg.Commit m) × (m.tag ≡ tag)
    × (m.boot ≡ boot)
asked_for sent (what.Deliver e) boot tag lsid number read_at at writes there h =
    (e, h.0, there, h.1, h.2, h.3)
asked_for sent (what.Client conn frame) boot tag lsid number read_at at writes there h = absurd h
asked_for sent (what.Gone conn) boot tag lsid number read_at at writes there h = absurd h
asked_for sent what.Resend boot tag lsid number read_at at writes there h = absurd h
asked_for sent what.Moment boot tag lsid number read_at at writes there h = absurd h

-- The step.

module _ (sent : List Envelope) (once : IsOnce (WasNamed sent)) (room : Room) (s : ShardState)
    (own : s.part.shard ≡ 0) (e : NodeEvent) (recs : List Rec) (served : List Served)
    (l : Lasts sent recs s served) (g : Runs (WasNamed sent) s (commits_by recs) served)
    (alone : EventAlone e.what) (comes : WasSent sent e.what)
    (time : KeepsTime s (core_step room s e)) where
  abbrev o : CoreStep
  o = core_step room s e

  abbrev now : List Rec
  now = recs ++ joined (appends_of o)

  abbrev M : Named → Type 0
  M = WasNamed sent

  pub does : StepAlone M s e.what o
  does = step_alone M room s e once own g.named g.coord alone (event_named sent e.what comes)

  msg_comes : (m : Msg) → IsAlone m → IfSome (named_in m) M
      → MsgComes s.part l.opens (commits_by recs) served m
  msg_comes (msg.Statement m) one named = is_new M once s (commits_by recs) served g m named
  msg_comes (msg.Decide m) one named = absurd one
  msg_comes other one named = tt

  event_comes : (w : Happening) → EventAlone w → NamesBy M w
      → EventComes s.part l.opens (commits_by recs) served w
  event_comes (what.Deliver d) one named = msg_comes d.msg one named
  event_comes other one named = tt

  pub serves : StepServes l.opens s e.what (commits_by recs) served o
  serves = step_serves room s e l.opens (commits_by recs) served l.holds (event_comes e.what alone
      (event_named sent e.what comes))

  abbrev InTold : List Served → Envelope → Type 0
  InTold told d = IsToldBy told d.msg

  pub record Behind : Type 0 where
    pub told : List Served
    pub lasts : Lasts sent now o.core told
    pub runs : Runs M o.core (commits_by now) told
    pub out : All (InTold told) (given_out o.answer)

  -- what was served grew
  abbrev More : Served → Type 0
  More x = IsMore sent once s (commits_by recs) served g l.opens l.holds serves.entered
      serves.enters o.core.part does.goes.boot serves.told x

  grows : Grew sent once s (commits_by recs) served g l.opens l.holds serves.entered
      serves.enters o.core.part does.goes.boot serves.told
  grows = grew sent once s (commits_by recs) served g l.opens l.holds serves.entered
      serves.enters o.core.part does.goes.boot serves.told e.what (given_out o.answer) comes
      (event_named sent e.what comes) serves.grows does.served

  -- what is said of what was served, where one more is
  told_by : (Q : List Served → Type 0) → Q served → ((x : Served) → More x → Q (x ∷ served))
      → Q serves.told
  told_by Q h k =
      ⊎_elim (λ (same : serves.told ≡ served). subst Q (sym same) h)
      (λ (more : (x : Served) × More x). subst Q (sym more.1.is) (k more.0 more.1)) grows.0

  -- what is said of each
  grown : (Q : Served → Type 0) → Each Q served → ((x : Served) → More x → Q x)
      → Each Q serves.told
  grown Q h k = told_by (Each Q) h (λ x more. (k x more, h))

  told_still : All (InTold serves.told) sent
  told_still = told_by (λ (told : List Served). All (InTold told) sent) l.told
      (λ x more. all_told_more x served sent l.told)

  whole_still : Each (WasCommitted sent serves.told) (commits_by recs)
  whole_still = told_by (λ (told : List Served). Each (WasCommitted sent told) (commits_by recs))
      l.whole (λ x more. committed_still sent x served (commits_by recs) more.apart l.whole)

  held_still : (tag : Tag) → IsHeld M s.part.sessions tag → IsHeld M o.core.part.sessions tag
  held_still tag h = held_on M s.part.sessions o.core.part.sessions does.goes.sessions tag h

  below_still : Each (λ (f : Entry). f.at ≤ o.core.clock.last) (commits_by recs)
  below_still =
      each_more (λ (f : Entry). f.at ≤ s.clock.last) (λ (f : Entry). f.at ≤ o.core.clock.last) (λ f
      h. at_most f.at s.clock.last o.core.clock.last h time.rises) (commits_by recs) l.below

  held_entries : Each (λ (f : Entry). IsHeld M o.core.part.sessions f.tag) (commits_by recs)
  held_entries = each_more (λ (f : Entry). IsHeld M s.part.sessions f.tag) (λ (f : Entry). IsHeld M
      o.core.part.sessions f.tag) (λ f h. held_still f.tag h) (commits_by recs) g.has_committed

  built : (entries : List Entry) → RecordsAlone M now → commits_by now ≡ entries
      → Holds l.opens o.core.part o.core.clock.last entries serves.told
      → Each (λ (f : Entry). f.at ≤ o.core.clock.last) entries
      → Each (λ (f : Entry). IsHeld M o.core.part.sessions f.tag) entries
      → Each (WasCommitted sent serves.told) entries → Behind
  built entries records is holds below held whole =
      record {
        told = serves.told;
        lasts = record {
          opens = holds.0;
          holds = subst (λ (es : List Entry). IsServing o.core.part holds.0 o.core.clock.last es
              serves.told) (sym is) holds.1;
          below = subst (Each (λ (f : Entry). f.at ≤ o.core.clock.last)) (sym is) below;
          clock = time.clock.below;
          backed = step_is_backed room s e recs l.backed;
          lives = grown (λ (x : Served). (0 < x.life) × (x.life ≤ o.core.part.boot)) (each_more
              (λ (x : Served). (0 < x.life) × (x.life ≤ s.part.boot))
              (λ (x : Served). (0 < x.life) × (x.life ≤ o.core.part.boot))
              (λ x h. (h.0, subst (λ (n : ℕ). x.life ≤ n) (sym does.goes.boot) h.1)) served l.lives)
              (λ x more. (
                subst (λ (n : ℕ). 0 < n) (sym (more.life ∙ does.goes.boot)) g.boot,
                same_at x.life o.core.part.boot more.life,
              ));
          told = told_still;
          asked = told_by (AllAsked sent) l.asked (λ x more. (more.asked, l.asked));
          rises = told_by InOrder l.rises (λ x more. (more.after, l.rises));
          whole = subst (Each (WasCommitted sent serves.told)) (sym is) whole;
          alone = records;
        };
        runs = record {
          coord = does.coord;
          boot = subst (λ (n : ℕ). 0 < n) (sym does.goes.boot) g.boot;
          named = does.goes.sessions.named g.named;
          has_served = grown (λ (x : Served). x.life ≡ o.core.part.boot
              → IsHeld M o.core.part.sessions x.tag)
              (each_more (λ (x : Served). x.life ≡ s.part.boot → IsHeld M s.part.sessions x.tag)
              (λ (x : Served). x.life ≡ o.core.part.boot → IsHeld M o.core.part.sessions x.tag)
              (λ x h life. held_still x.tag (h (life ∙ does.goes.boot))) served g.has_served)
              (λ x more any. more.held);
          has_committed =
              subst (Each (λ (f : Entry). IsHeld M o.core.part.sessions f.tag)) (sym is) held;
          has_newest = grows.1;
        };
        out = serves.answered;
      }

  stays_behind : (r : Option Rec) → o.rec ≡ r → r ≡ None
      → Holds l.opens o.core.part o.core.clock.last (commits_by recs) serves.told → Behind
  stays_behind r is none holds =
      let q = quiet_records M recs l.alone o.ceiling in
      let k : RecordsAlone M now × (commits_by now ≡ commits_by recs) = subst (λ (x : Option Rec).
      RecordsAlone M (recs ++ joined (ceiling_append o.ceiling ++ record_append x))
      × (commits_by (recs ++ joined (ceiling_append o.ceiling ++ record_append x))
      ≡ commits_by recs)) (sym (is ∙ none)) q in
      built (commits_by recs) k.0 k.1 holds below_still held_entries whole_still

  commits_behind : Committed o.core.part serves.last (commits_by recs) serves.told l.opens o.rec
      → Behind
  commits_behind c =
      let r = rec.Commit c.tag c.lsid c.number c.read_at c.at c.writes in
      let f : Entry = record { tag = c.tag; read_at = c.read_at; at = c.at; writes = c.writes } in
      let stands : (p : Part) × GoesOn M s.part p × RecHeld M p o.core.part o.core.clock.last r =
      subst (λ (x : Option Rec). IfSome x (λ (y : Rec). (p : Part) × GoesOn M s.part p
      × RecHeld M p o.core.part o.core.clock.last y)) c.is does.rec in
      let p : Part = stands.0 in
      let held = stands.2 in
      let asks : EventAsksFor e.what o.core.part.boot r = subst (λ (x : Option Rec).
      IfSome x (EventAsksFor e.what o.core.part.boot)) c.is does.asked in
      let a = asked_for sent e.what o.core.part.boot c.tag c.lsid c.number c.read_at c.at c.writes
      comes asks in
      let fits : (t : Session) → session_of (image_of recs).sessions c.lsid ≡ Some t
      → t.number ≤ℤ c.number = λ t there.
      fits_case M s.part p c.lsid c.number t (session s.part c.lsid) stands.1 held.1
      refl (one_of_each (λ (lsid : Lsid) (t : Session). HasSession s.part lsid t)
      (image_of recs).sessions.entries l.backed.durable.sessions c.lsid t there) in
      let under : Each (λ (f : Entry). f.at < c.at) (commits_by recs) = each_more (λ (f : Entry).
      f.at ≤ s.clock.last) (λ (f : Entry). f.at < c.at) (λ f h. far_below f.at s.clock.last
      serves.last c.at h serves.rises c.above) (commits_by recs) l.below in
      let q = commit_records M recs l.alone c.tag c.lsid c.number c.read_at c.at c.writes held.0
      fits under o.ceiling in
      let k : RecordsAlone M now × (commits_by now ≡ commits_by recs ++ f ∷ []) = subst (λ (x :
      Option Rec). RecordsAlone M (recs ++ joined (ceiling_append o.ceiling ++ record_append x))
      × (commits_by (recs ++ joined (ceiling_append o.ceiling ++ record_append x))
      ≡ commits_by recs ++ f ∷ [])) (sym c.is) q in
      let later : IsServing o.core.part c.holds.0 o.core.clock.last (commits_by recs ++ f
      ∷ []) serves.told = clock_holds o.core.part c.holds.0 c.at (commits_by recs ++ f
      ∷ []) serves.told c.holds.1 o.core.clock.last held.3 in
      built (commits_by recs ++ f ∷ []) k.0 k.1 (c.holds.0, later, c.holds.2)
      (each_last (λ (f : Entry). f.at ≤ o.core.clock.last) (commits_by recs) f below_still held.3)
      (each_last (λ (f : Entry). IsHeld M o.core.part.sessions f.tag)
      (commits_by recs) f held_entries
      (record { tag = c.tag; lsid = c.lsid; number = c.number }, held.0, refl, held.2))
      (each_last (WasCommitted sent serves.told) (commits_by recs) f whole_still (
        a.0,
        a.1,
        a.2,
        a.3,
        a.4,
        c.wrote ∙ ap (λ (n : ℕ). write_set (written c.tag n serves.told)) (sym a.5),
      ))

  pub behind : Behind
  behind =
      ⊎_elim (λ (h : (o.rec ≡ None) × Holds l.opens o.core.part o.core.clock.last (commits_by recs)
      serves.told). stays_behind o.rec refl h.0 h.1)
      (λ (c : Committed o.core.part serves.last (commits_by recs) serves.told l.opens o.rec).
      commits_behind c)
      (leaves M s.part o.core.part l.opens serves.last o.core.clock.last (commits_by recs)
      serves.told e.what o.rec alone does.rec serves.left)
