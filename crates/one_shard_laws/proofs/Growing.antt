-- What holds of the statements that were served, with one more.
use Rattle.std.proofs.Common.{◌≡◌, ◌⊎◌, inl, inr, ⊎_elim, ◌≤◌, ◌<◌, ◌<ℤ◌, ℕ, Bool, true}
use Rattle.std.proofs.Common.{false, List, [], ◌∷◌, All, Contains, Some, IfSome, Result, Ok, Err}
use Rattle.std.proofs.Common.{refl}
use Rattle.std.proofs.Common.{ap, subst, ◌∙◌, sym, arith}
use Rattle.std.proofs.lemmas.List.Elements.{All-head}
use Rattle.txn_types.specs.Order.{same_tag, same_lsid}
use Rattle.txn_types.specs.declared.cause.Cause.{Cause}
use Rattle.txn_types.specs.declared.cause.Cause.TheVariants as cause
use Rattle.txn_types.specs.declared.event.Happening.{Happening}
use Rattle.txn_types.specs.declared.event.Happening.TheVariants as what
use Rattle.txn_types.specs.declared.message.Envelope.{Envelope}
use Rattle.txn_types.specs.declared.message.Msg.{Msg}
use Rattle.txn_types.specs.declared.message.Msg.TheVariants as msg
use Rattle.txn_types.specs.declared.message.Statement.{Statement}
use Rattle.txn_types.specs.declared.names.Tag.{Tag}
use Rattle.txn_types.specs.declared.node.Lsid.{Lsid}
use Rattle.txn_types.specs.declared.operation.OpReply.{OpReply}
use Rattle.txn_semantics.specs.declared.commits.Entry.{Entry}
use Rattle.txn_semantics.specs.Meaning.{Meaning}
use Rattle.txn_semantics.specs.Writes.{write_set}
use Rattle.session_table.specs.declared.session.Session.{Session}
use Rattle.participant.specs.declared.said.Open.{Open}
use Rattle.participant.specs.Expiry.{expire}
use Rattle.participant.specs.Part.{Part, session, open_of, elsewhere, is_open}
use Rattle.participant.proofs.Tags.{tag_self}
use Rattle.part_laws.specs.Each.{Each}
use Rattle.part_laws.specs.Sound.{Opens, Served, HasNone}
use Rattle.part_laws.specs.Parts.{opened_of, LiveAt, IsServing}
use Rattle.part_laws.specs.Turned.{IsOf, NoneBegins, IsLiveFor, LivesFor, Begins, Continues, IsAnew}
use Rattle.part_laws.proofs.Chains.{each_both}
use Rattle.part_laws.proofs.Serving.{written_other}
use Rattle.part_laws.proofs.Elapsed.{session_of_open, expire_holds}
use Rattle.part_laws.proofs.Ended.{at_live}
use Rattle.part_laws.proofs.Turns.{elsewhere_all}
use Rattle.shard_core.specs.State.{ShardState}
use Rattle.shard_core.specs.Effect.{NamesBy}
use Rattle.txn_types.specs.Letters.{Named, named_in}
use Rattle.serving_laws.specs.Coming.{MayBegin}
use Rattle.serving_laws.specs.Left.{Enters}
use Rattle.serving_laws.specs.Telling.{Tells, AnswersTo, GrowsBy, Grows}
use Rattle.serving_laws.proofs.Ending.{none_same, expire_none}
use Rattle.serving_laws.proofs.Numbers.{KeepsNumbers, same_numbers, expire_numbers}
use Rattle.serving_laws.proofs.Turning.{is_lower}
use Rattle.one_shard_laws.specs.Sessions.{AtLeast, IsHeld, IsOnce}
use Rattle.one_shard_laws.specs.Alone.{IsServedBy, AnswerAtLeast, ServedAtLeast, EventAtLeast}
use Rattle.one_shard_laws.specs.Lasting.{WasNamed, NoneOf, BeganBy, WentOnBy, WasAsked, ComesAfter}
use Rattle.one_shard_laws.specs.Lasting.{WasCommitted, IsUpTo, AllUpTo, Runs}
use Rattle.one_shard_laws.proofs.Listing.{each_more}
use Rattle.one_shard_laws.proofs.Beginning.{not_held, none_committed}

-- what comes was sent
abbrev pub WasSent : List Envelope → Happening → Type 0
WasSent sent (what.Deliver e) = Contains sent e
WasSent sent other = Unit {0}

least_below : (a b c d : ℕ) → a ≤ b → b < c → d ≡ c → a < d
least_below a b c d h k is = omega (arith, h, k, is)

below_least : (a b c : ℕ) → a < b → c ≡ b → a ≤ c
below_least a b c h is = omega (arith, h, is)

same_least : (a b : ℕ) → b ≡ a → a ≤ b
same_least a b is = omega (arith, is)

pub committed_still : (sent : List Envelope) (x : Served) (served : List Served)
    (entries : List Entry) → HasNone x.tag entries → Each (WasCommitted sent served) entries
    → Each (WasCommitted sent (x ∷ served)) entries
committed_still sent x served entries none h =
    each_both (λ (e : Entry). same_tag e.tag x.tag ≡ false) (WasCommitted sent served)
    (WasCommitted sent (x ∷ served))
    (λ e apart k. (
      k.0,
      k.1,
      k.2,
      k.3,
      k.4,
      k.5 ∙ ap write_set (sym (written_other x served e.tag k.1.boot apart)),
    )) entries none h

served_by : (meaning : Meaning) (o : Result (OpReply × Bool) Cause) → Tells meaning o → IsServedBy o
served_by meaning (Ok done) h = tt
served_by meaning (Err (cause.Statement err)) h = tt
served_by meaning (Err other) h = absurd h

answer_least : (x : Served) (m : Statement) (q : Part) (a : Msg) → AnswersTo x a
    → AnswerAtLeast q m a → AtLeast q.sessions m.lsid m.number
answer_least x m q (msg.Answer a) h k = k (served_by x.meaning a.outcome h.outcome)
answer_least x m q other h k = absurd h

module _ (sent : List Envelope) (once : IsOnce (WasNamed sent)) (s : ShardState)
    (entries : List Entry) (served : List Served) (g : Runs (WasNamed sent) s entries served)
    (opens : Opens) (part : IsServing s.part opens s.clock.last entries served)
    (p : Part) (enters : Enters s.part p) (q : Part) (boot : q.boot ≡ s.part.boot) where
  abbrev P : Named → Type 0
  P = WasNamed sent

  -- The part at which an event comes is the one before, without what expired.

  by_entry : (Q : Part → Type 0) → Q s.part → ((wall : ℕ) → Q (expire s.part wall)) → Q p
  by_entry Q here gone =
      ⊎_elim (λ (h : p ≡ s.part). subst Q (sym h) here)
      (λ (h : (wall : ℕ) × (p ≡ expire s.part wall)). subst Q (sym h.1) (gone h.0)) enters

  numbers : KeepsNumbers s.part p
  numbers =
      by_entry (KeepsNumbers s.part) (same_numbers s.part) (λ wall. expire_numbers s.part wall)

  none : NoneBegins s.part p
  none = by_entry (NoneBegins s.part) (none_same s.part)
      (λ wall. expire_none s.part wall part.rises)

  serves : (mid : Opens) × IsServing p mid s.clock.last entries served
  serves =
      by_entry (λ (r : Part). (mid : Opens) × IsServing r mid s.clock.last entries served)
      (opens, part)
      (λ wall. let h = expire_holds s.part opens s.clock.last entries served part wall in
      (h.0, h.1))

  -- what is live there is its session's transaction
  record IsMine (lsid : Lsid) (o : Open) : Type 0 where
    own : Session
    there : session p lsid ≡ Some own
    still : is_open own.state ≡ true
    tag : o.tag ≡ own.tag
    opened : serves.0 own.tag ≡ Some (opened_of p.boot o)

  mine : (lsid : Lsid) (o : Open) → open_of p lsid ≡ Some o → IsMine lsid o
  mine lsid o there =
      let t = session_of_open p serves.0 s.clock.last entries served serves.1 lsid o there in
      let live : LiveAt p.boot serves.0 t.0.tag (Some o) =
      subst (LiveAt p.boot serves.0 t.0.tag) there
      (at_live p serves.0 s.clock.last entries served serves.1 lsid t.0 t.1 t.2) in
      record { own = t.0; there = t.1; still = ap is_open t.2; tag = live.0; opened = live.1 }

  -- where nothing more is served
  newest_same : NoneBegins p q → AllUpTo q served
  newest_same stays lsid o there =
      each_more (IsUpTo s.part.boot o) (IsUpTo q.boot o) (λ y up tag life. up tag (life ∙ boot))
      served (g.has_newest lsid o (none lsid o (stays lsid o there)))

  module _ (m : Statement) (named : P (record { tag = m.tag; lsid = m.lsid; number = m.number }))
      (x : Served) (of : IsOf m x) (life : x.life ≡ q.boot) where
    -- what is served anew comes after what its transaction was served in this boot, which didn't
    -- commit
    record IsNewest : Type 0 where
      asked : BeganBy m served x ⊎ WentOnBy m x
      after : Each (ComesAfter x) served
      apart : HasNone x.tag entries

    began : Begins p m x.read_at → IsNewest
    began h =
        let may : MayBegin s.part m = λ t there.
        let k = numbers.numbers m.lsid t there in
        let free = h.1 k.0 k.1 in
        subst (λ n. n <ℤ m.number) k.2 (is_lower k.0 m free.0 free.1) in
        let fresh : NoneOf x.tag x.life served =
        each_more (λ (y : Served). y.life ≡ s.part.boot → IsHeld P s.part.sessions y.tag)
        (λ (y : Served). y.tag ≡ x.tag → y.life ≡ x.life → ⊥)
        (λ y held tag its. not_held P once s.part m named may y.tag (held (its ∙ life ∙ boot))
        (subst (λ (t : Tag). same_tag t m.tag ≡ true) (sym (tag ∙ of.0)) (tag_self m.tag))) served
        g.has_served in
        record {
          asked = inl (h.0, h.2, fresh);
          after = each_more (λ (y : Served). y.tag ≡ x.tag → y.life ≡ x.life → ⊥) (ComesAfter x)
              (λ y no tag its. absurd (no tag its)) served fresh;
          apart = subst (λ (t : Tag). HasNone t entries) (sym of.0)
              (none_committed P once s.part m named may entries g.has_committed);
        }

    went : Continues p m x.read_at → IsNewest
    went h =
        let o : Open = h.0 in
        let there : open_of s.part m.lsid ≡ Some o = none m.lsid o h.1 in
        let now : m.boot ≡ s.part.boot = h.4 ∙ numbers.boot in
        let own : IsMine m.lsid o = mine m.lsid o h.1 in
        record {
          asked = inr (subst (λ (n : ℕ). 0 < n) (sym now) g.boot, now ∙ sym boot ∙ sym life);
          after = each_more (IsUpTo s.part.boot o) (ComesAfter x)
              (λ y up tag its. let u = up (tag ∙ of.0 ∙ sym h.2) (its ∙ life ∙ boot) in
              (least_below y.k o.k m.k x.k u.0 h.3 of.1, u.1 ∙ sym h.5)) served
              (g.has_newest m.lsid o there);
          apart = subst (λ (t : Tag). HasNone t entries) (sym own.tag ∙ h.2 ∙ sym of.0)
              (serves.1.sound.none own.own.tag (opened_of p.boot o) own.opened refl);
        }

    newest : IsAnew p m x.read_at → IsNewest
    newest anew = ⊎_elim (λ (h : Begins p m x.read_at). began h)
        (λ (h : Continues p m x.read_at). went h) anew.1

    -- no other session has its transaction live
    not_other : elsewhere p m.lsid m.tag ≡ false → (lsid : Lsid) (o : Open)
        → same_lsid lsid m.lsid ≡ false → open_of p lsid ≡ Some o → o.tag ≡ m.tag → ⊥
    not_other alone lsid o away there same =
        let own : IsMine lsid o = mine lsid o there in
        let wrong : true ≡ false = sym own.still
        ∙ elsewhere_all m.lsid m.tag p.sessions.entries alone lsid own.own away own.there
        (sym own.tag ∙ same) in cc

    newest_more : elsewhere p m.lsid m.tag ≡ false → Each (ComesAfter x) served
        → LivesFor p q m.lsid x → AllUpTo q (x ∷ served)
    newest_more alone after lives lsid o there =
        ⊎_elim (λ (h : (same_lsid lsid m.lsid ≡ false) × (open_of p lsid ≡ Some o)). (
          (λ tag its. absurd (not_other alone lsid o h.0 h.1 (sym tag ∙ of.0))),
          each_more (IsUpTo s.part.boot o) (IsUpTo q.boot o) (λ y up tag its. up tag (its ∙ boot))
              served (g.has_newest lsid o (none lsid o h.1)),
        ))
        (λ (h : (lsid ≡ m.lsid) × IsLiveFor x o). (
          (λ tag its. (same_least x.k o.k h.1.1, sym h.1.2)),
          each_more (ComesAfter x) (IsUpTo q.boot o)
              (λ y behind tag its. let u = behind (tag ∙ h.1.0) (its ∙ sym life) in
              (below_least y.k x.k o.k u.0 h.1.1, u.1 ∙ sym h.1.2)) served after,
        )) (lives lsid o there)

  -- What is served: nothing more, or the statement that was delivered.

  module _ (told : List Served) where
    pub record IsMore (x : Served) : Type 0 where
      pub is : told ≡ x ∷ served
      pub asked : WasAsked sent served x
      pub life : x.life ≡ q.boot
      pub held : IsHeld P q.sessions x.tag
      pub after : Each (ComesAfter x) served
      pub apart : HasNone x.tag entries

    abbrev pub Grew : Type 0
    Grew = ((told ≡ served) ⊎ ((x : Served) × IsMore x)) × AllUpTo q told

    grew_none : (told ≡ served) × NoneBegins p q → Grew
    grew_none h = (inl h.0, subst (AllUpTo q) (sym h.0) (newest_same h.1))

    grew_by : (e : Envelope) (m : Msg) (out : List Envelope) → e.msg ≡ m
        → Contains sent e → IfSome (named_in m) P → GrowsBy p q m served told out
        → All (λ (a : Envelope). ServedAtLeast q m a.msg) out → Grew
    grew_by e (msg.Statement m) out is there named (inl h) all = grew_none h
    grew_by e (msg.Statement m) out is there named (inr h) all =
        let x : Served = h.0 in
        let a : Envelope = h.6.0 in
        let one : AnswerAtLeast q m a.msg =
        All-head (λ (a : Envelope). AnswerAtLeast q m a.msg) a []
        (subst (All (λ (a : Envelope). AnswerAtLeast q m a.msg)) h.6.1 all) in
        let new : IsNewest m named x h.2 h.3 = newest m named x h.2 h.3 h.4 in
        let more : IsMore x = record {
          is = h.1;
          asked = (e, m, there, is, h.2, new.asked);
          life = h.3;
          held = (
            record { tag = m.tag; lsid = m.lsid; number = m.number },
            named,
            sym h.2.0,
            answer_least x m q a.msg h.6.2 one,
          );
          after = new.after;
          apart = new.apart;
        } in (
          inr (x, more),
          subst (AllUpTo q) (sym h.1) (newest_more m named x h.2 h.3 h.4.0 new.after h.5),
        )
    grew_by e (msg.Answer m) out is there named h all = grew_none h
    grew_by e (msg.Commit m) out is there named h all = grew_none h
    grew_by e (msg.Outcome m) out is there named h all = grew_none h
    grew_by e (msg.Abort m) out is there named h all = grew_none h
    grew_by e (msg.CommitTwo m) out is there named h all = grew_none h
    grew_by e (msg.Prepare m) out is there named h all = grew_none h
    grew_by e (msg.Vote m) out is there named h all = grew_none h
    grew_by e (msg.Decide m) out is there named h all = grew_none h
    grew_by e (msg.Acked m) out is there named h all = grew_none h
    grew_by e (msg.Recover m) out is there named h all = grew_none h
    grew_by e msg.Nudge out is there named h all = grew_none h

    pub grew : (w : Happening) (out : List Envelope) → WasSent sent w → NamesBy P w
        → Grows p q w served told out → All (λ (a : Envelope). EventAtLeast q w a.msg) out → Grew
    grew (what.Deliver e) out there named h all = grew_by e e.msg out refl there named h all
    grew (what.Client conn frame) out there named h all = grew_none h
    grew (what.Gone conn) out there named h all = grew_none h
    grew what.Resend out there named h all = grew_none h
    grew what.Moment out there named h all = grew_none h
