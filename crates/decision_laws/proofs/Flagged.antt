-- Replies to one statement in one boot are alike, and of each committed transaction one tells that
-- it wrote.
use Rattle.std.proofs.Common.{◌≡◌, ◌⊎◌, inl, inr, ◌<◌, ◌++◌, ℕ, Bool, true, false, List, []}
use Rattle.std.proofs.Common.{◌∷◌, All, Option, Some, None, IfSome, Result, Ok, Err, map, length}
use Rattle.std.proofs.Common.{slice_get, slice_set, refl, sym, ap, ap₂, subst, ◌∙◌, arith}
use Rattle.std.specs.Prelude.{Contains, IsOk}
use Rattle.std.proofs.lemmas.List.Elements.{All-nil, All-append, All-cons, All-contains, All-weaker}
use Rattle.std.proofs.lemmas.List.Elements.{Contains-append_cases, Contains-append_left}
use Rattle.std.proofs.lemmas.List.Elements.{Contains-append_right}
use Rattle.txn_types.specs.Letters.{given_out}
use Rattle.txn_types.specs.Order.{same_tag}
use Rattle.txn_types.specs.declared.cause.Cause.{Cause}
use Rattle.txn_types.specs.declared.cause.Cause.TheVariants as cause
use Rattle.txn_types.specs.declared.event.Happening.{Happening}
use Rattle.txn_types.specs.declared.event.Happening.TheVariants as what
use Rattle.txn_types.specs.declared.event.NodeAnswer.{NodeAnswer}
use Rattle.txn_types.specs.declared.event.NodeEvent.{NodeEvent}
use Rattle.txn_types.specs.declared.message.Answer.{Answer}
use Rattle.txn_types.specs.declared.message.Commit.{Commit}
use Rattle.txn_types.specs.declared.message.Envelope.{Envelope}
use Rattle.txn_types.specs.declared.message.Msg.{Msg}
use Rattle.txn_types.specs.declared.message.Msg.TheVariants as msg
use Rattle.txn_types.specs.declared.message.Statement.{Statement}
use Rattle.txn_types.specs.declared.names.Tag.{Tag}
use Rattle.txn_types.specs.declared.node.Lsid.{Lsid}
use Rattle.txn_types.specs.declared.node.NodeId.TheVariants.{Shard, Router}
use Rattle.txn_types.specs.declared.operation.OpReply.{OpReply}
use Rattle.txn_semantics.specs.Meaning.{reply_of}
use Rattle.txn_semantics.specs.declared.commits.Entry.{Entry}
use Rattle.chunk_map.specs.Map.{Map, IsMap}
use Rattle.journal_rec.specs.declared.record.Rec.{Rec}
use Rattle.journal_rec.specs.declared.record.Rec.TheVariants as rec
use Rattle.session_table.specs.declared.session.Session.{Session}
use Rattle.participant.specs.declared.said.Open.{Open}
use Rattle.participant.specs.Part.{Part, session, open_of, is_open}
use Rattle.participant.proofs.Tags.{tag_same, tag_self}
use Rattle.part_laws.specs.Each.{Each}
use Rattle.part_laws.specs.Parts.{IsServing, LiveAt}
use Rattle.part_laws.specs.Sound.{Opens, Served}
use Rattle.part_laws.specs.Turned.{IsOf, IsLiveFor, LivesFor, NoneBegins}
use Rattle.part_laws.proofs.Elapsed.{session_of_open}
use Rattle.part_laws.proofs.Ended.{at_live}
use Rattle.shard_image.specs.Image.{image_of}
use Rattle.shard_core.specs.Core.{Room, CoreStep, core_step}
use Rattle.shard_core.specs.Laws.{KeepsTime}
use Rattle.shard_core.specs.NodeStep.{NodeState, Appended, Failed, boot_behind, joined}
use Rattle.shard_core.specs.NodeStep.{appends_of}
use Rattle.shard_core.specs.State.{ShardState}
use Rattle.shard_core.proofs.Stepping.{step_keeps}
use Rattle.durable_laws.specs.Backed.{IsDurableNode}
use Rattle.txn_model.specs.Commits.{commits, has_entry}
use Rattle.txn_model.specs.declared.ran.Ran.{Ran}
use Rattle.txn_model.specs.declared.ran.Ran.TheVariants.{Step, Swapped}
use Rattle.cluster_core.specs.Nodes.{Nodes, commits_of}
use Rattle.cluster_core.specs.Trace.{MayRemain, ShardSteps, ShardStarts, Happens, IsTrace}
use Rattle.world_laws.specs.Joint.{Stands}
use Rattle.world_laws.proofs.Clocks.{started_is, rests_not}
use Rattle.world_laws.proofs.Joint.{stands_step}
use Rattle.world_laws.proofs.Naming.{nothing, one}
use Rattle.world_laws.proofs.Records.{records_step}
use Rattle.world_laws.proofs.Steps.{stopped_rests}
use Rattle.answer_laws.proofs.Lists.{has_first, has_more}
use Rattle.told_laws.proofs.Lists.{none_there}
use Rattle.serving_laws.specs.Left.{Enters, StepServes}
use Rattle.serving_laws.specs.Telling.{AnswersTo, Grows, GrowsBy, IsToldBy, Tells}
use Rattle.serving_laws.specs.Telling.{TellsRefusal, ToldThere}
use Rattle.serving_laws.proofs.Ending.{expire_none, none_same}
use Rattle.one_shard_laws.specs.Alone.{RecAlone, StepAlone}
use Rattle.one_shard_laws.specs.Concluding.{StartsAlone}
use Rattle.one_shard_laws.specs.Lasting.{OneShard, HasRun, IsRight, WasNamed, ComesAfter}
use Rattle.one_shard_laws.specs.Lasting.{commits_by}
use Rattle.one_shard_laws.proofs.Behind.{Behind, behind, does, serves}
use Rattle.one_shard_laws.proofs.Growing.{Grew, grew}
use Rattle.one_shard_laws.proofs.Joint.{one_shard_step, one_shard_first, runs_alone}
use Rattle.chain_laws.proofs.Owning.{each_last}
use Rattle.decision_laws.specs.Ends.{WasSent}
use Rattle.decision_laws.specs.Flags.{CommitsToldWrites, RepliesAgree, ToldWrite, WasAnswered}
use Rattle.decision_laws.proofs.Ageing.{some_same}
use Rattle.decision_laws.proofs.Coming.{alone_at, commit_asked, came_at, names_at}
use Rattle.decision_laws.proofs.Keeping.{if_some}
use Rattle.decision_laws.proofs.Doing.{Has, HadWritten}
use Rattle.decision_laws.proofs.Excluding.{no_rec}
use Rattle.decision_laws.proofs.Listed.{RecNo, none_listed}
use Rattle.decision_laws.proofs.OneBoot.{one_boot}
use Rattle.decision_laws.proofs.Recorded.{Commits, is_its, only, stands_start}
use Rattle.decision_laws.proofs.Released.{serves_entered}
use Rattle.decision_laws.proofs.Standing.{router_ends_none}
use Rattle.decision_laws.proofs.Steps.{AnswersAs, HadBy, IsNoEnd, OutTo, RecTo, Replies, StepSays}
use Rattle.decision_laws.proofs.Steps.{asked_by, step_says, stopped_tells_none}

-- What was told stays told.

answered_on : (sent out : List Envelope) (a : Answer) → WasAnswered sent a
    → WasAnswered (sent ++ out) a
answered_on sent out a w = (w.0, Contains-append_left sent out w.0 w.1, w.2)

write_on : (sent out : List Envelope) (tag : Tag) (boot : ℕ) → ToldWrite sent tag boot
    → ToldWrite (sent ++ out) tag boot
write_on sent out tag boot t = record {
  answer = t.answer;
  was = answered_on sent out t.answer t.was;
  tag_is = t.tag_is;
  boot_is = t.boot_is;
  reply = t.reply;
  outcome = t.outcome;
}

write_of : (sent : List Envelope) (tag other : Tag) (boot life : ℕ) → tag ≡ other → boot ≡ life
    → ToldWrite sent tag boot → ToldWrite sent other life
write_of sent tag other boot life same here t = record {
  answer = t.answer;
  was = t.was;
  tag_is = t.tag_is ∙ same;
  boot_is = t.boot_is ∙ here;
  reply = t.reply;
  outcome = t.outcome;
}

-- a commit that is recorded
abbrev RecTold : List Envelope → Rec → Type 0
RecTold sent (rec.Commit tag lsid number read_at at writes) =
    (m : Commit) × WasSent sent m × (m.tag ≡ tag) × ToldWrite sent tag m.boot
RecTold sent other = Unit {0}

rec_on : (sent out : List Envelope) (r : Rec) → RecTold sent r → RecTold (sent ++ out) r
rec_on sent out (rec.Commit tag lsid number read_at at writes) k = (
  k.0,
  (k.1.0, Contains-append_left sent out k.1.0 k.1.1, k.1.2),
  k.2,
  write_on sent out tag k.0.boot k.3,
)
rec_on sent out other k = tt

-- what is live at a part
pub record LiveTold (sent : List Envelope) (p : Part) : Type 0 where
  pub alike : (lsid : Lsid) (o : Open) → open_of p lsid ≡ Some o → (a : Answer)
      → WasAnswered sent a → (done : OpReply × Bool) → a.outcome ≡ Ok done → a.tag ≡ o.tag
      → a.boot ≡ p.boot → a.k ≡ o.k → done ≡ (o.reply, o.wrote)
  pub wrote : (lsid : Lsid) (o : Open) → open_of p lsid ≡ Some o → (o.writes ≡ [] → ⊥)
      → ToldWrite sent o.tag p.boot

-- two replies are alike
abbrev Alike : List Envelope → Type 0
Alike sent = (a b : Answer) → WasAnswered sent a → WasAnswered sent b → a.tag ≡ b.tag → a.k ≡ b.k
    → a.boot ≡ b.boot → (x y : OpReply × Bool) → a.outcome ≡ Ok x → b.outcome ≡ Ok y → x ≡ y

pub record Flagged (sent : List Envelope) (n : NodeState) : Type 0 where
  pub runs : n.core.stopped ≡ None → LiveTold sent n.core.part
  pub records : All (RecTold sent) n.records
  pub hand : All (RecTold sent) n.hand
  pub alike : Alike sent

all_on : (sent out : List Envelope) (recs : List Rec) → All (RecTold sent) recs
    → All (RecTold (sent ++ out)) recs
all_on sent out recs h =
    All-weaker (RecTold sent) (RecTold (sent ++ out)) (rec_on sent out) recs h

-- Where no reply is sent.

abbrev NoReply : Envelope → Type 0
NoReply e = IsNoEnd e.msg

not_answered : (out : List Envelope) → All NoReply out → (e : Envelope) → Contains out e
    → (a : Answer) → e.msg ≡ msg.Answer a → (done : OpReply × Bool) → a.outcome ≡ Ok done → ⊥
not_answered out h e there a is done ok =
    subst IsNoEnd is (All-contains NoReply out e h there) done ok

old_answer : (sent out : List Envelope) → All NoReply out → (a : Answer)
    → WasAnswered (sent ++ out) a → (done : OpReply × Bool) → a.outcome ≡ Ok done
    → WasAnswered sent a
old_answer sent out none a w done ok =
    elim (Contains-append_cases sent out w.0 w.1) [
      | inl was ↦ (w.0, was, w.2)
      | inr now ↦ absurd (not_answered out none w.0 now a w.2 done ok)
    ]

live_on : (sent out : List Envelope) (p : Part) → All NoReply out → LiveTold sent p
    → LiveTold (sent ++ out) p
live_on sent out p none h = record {
  alike = λ lsid o there a w done ok tag boot k.
      h.alike lsid o there a (old_answer sent out none a w done ok) done ok tag boot k;
  wrote = λ lsid o there some. write_on sent out o.tag p.boot (h.wrote lsid o there some);
}

alike_on : (sent out : List Envelope) → All NoReply out → Alike sent → Alike (sent ++ out)
alike_on sent out none h a b v w tag k boot x y ox oy =
    h a b (old_answer sent out none a v x ox) (old_answer sent out none b w y oy) tag k boot x y ox
    oy

quiet_on : (sent out : List Envelope) (n : NodeState) → All NoReply out → Flagged sent n
    → Flagged (sent ++ out) n
quiet_on sent out n none h = record {
  runs = λ run. live_on sent out n.core.part none (h.runs run);
  records = all_on sent out n.records h.records;
  hand = all_on sent out n.hand h.hand;
  alike = alike_on sent out none h.alike;
}

-- Small facts.

one_open : (p : Part) (lsid : Lsid) (a b : Open) → open_of p lsid ≡ Some a → open_of p lsid ≡ Some b
    → a ≡ b
one_open p lsid a b h k = some_same a b (sym h ∙ k)

longer : {A X : Type 0} (x : A) (xs : List A) → x ∷ xs ≡ xs → X
longer x xs e =
    let long : length (x ∷ xs) ≡ length xs = ap (λ (l : List _). length l) e in
    absurd (omega (arith, long))

first_is : {A : Type 0} (x y : A) (xs : List A) → x ∷ xs ≡ y ∷ xs → x ≡ y
first_is x y xs e = cc

-- what is live at a part that serves is of its session's transaction
tag_live : (p : Part) (opens : Opens) (last : ℕ) (entries : List Entry) (served : List Served)
    → IsServing p opens last entries served → (lsid : Lsid) (o : Open) → open_of p lsid ≡ Some o
    → (s : Session) × (session p lsid ≡ Some s) × (is_open s.state ≡ true) × (o.tag ≡ s.tag)
tag_live p opens last entries served h lsid o there =
    let s = session_of_open p opens last entries served h lsid o there in
    let live : LiveAt p.boot opens s.0.tag (Some o) =
    subst (LiveAt p.boot opens s.0.tag) there
    (at_live p opens last entries served h lsid s.0 s.1 s.2) in
    (s.0, s.1, ap is_open s.2, live.0)

none_from : (p q : Part) (opens : Opens) (last : ℕ) (entries : List Entry) (served : List Served)
    → IsServing p opens last entries served → Enters p q → NoneBegins p q
none_from p q opens last entries served h (inl same) =
    subst (NoneBegins p) (sym same) (none_same p)
none_from p q opens last entries served h (inr w) =
    subst (NoneBegins p) (sym w.1) (expire_none p w.0 h.rises)

-- A step of a shard that runs.

module _ (sent : List Envelope) (old : NodeState) (e : NodeEvent) (room : Room) where
  abbrev s : ShardState
  s = old.core

  abbrev o : CoreStep
  o = core_step room s e

  abbrev q : Part
  q = o.core.part

  abbrev out : List Envelope
  out = given_out o.answer

  abbrev more : List Envelope
  more = sent ++ out

  module _ (f : LiveTold sent s.part) (agree : Alike sent)
      (says : StepSays (λ x. Unit {0}) s e.what o) (boot : q.boot ≡ s.part.boot)
      (entries : List Entry) (served : List Served) (opens : Opens)
      (holds : IsServing s.part opens s.clock.last entries served)
      (told : All (λ (x : Envelope). IsToldBy served x.msg) sent)
      (after_opens : Opens) (after_last : ℕ) (after_entries : List Entry)
      (after_served : List Served)
      (after : IsServing q after_opens after_last after_entries after_served) where
    from_p : NoneBegins s.part says.p
    from_p = none_from s.part says.p opens s.clock.last entries served holds says.entered

    -- a reply that is sent now
    record IsNew (a : Answer) (done : OpReply × Bool) : Type 0 where
      m : Statement
      asked : asked_by e.what ≡ msg.Statement m
      replies : Replies q m a done

    new_case : (x : Msg) → asked_by e.what ≡ x → (a : Answer) → AnswersAs q x a
        → (done : OpReply × Bool) → a.outcome ≡ Ok done → IsNew a done
    new_case (msg.Statement m) is a h done ok =
        record { m = m; asked = is; replies = h done ok }
    new_case other is a h done ok = absurd (h done ok)

    is_new : (x : Envelope) → Contains out x → (a : Answer) → x.msg ≡ msg.Answer a
        → (done : OpReply × Bool) → a.outcome ≡ Ok done → IsNew a done
    is_new x there a is done ok =
        new_case (asked_by e.what) refl a
        (subst (OutTo says.p q (asked_by e.what)) is
        (All-contains (λ (z : Envelope). OutTo says.p q (asked_by e.what) z.msg) out x says.out
        there)) done ok

    -- what was live before is live, or it is what the statement was told now

    record IsLater (lsid : Lsid) (x : Open) : Type 0 where
      above : (a : Answer) → WasAnswered sent a → (done : OpReply × Bool) → a.outcome ≡ Ok done
          → a.tag ≡ x.tag → a.boot ≡ q.boot → a.k ≡ x.k → ⊥
      wrote : (x.writes ≡ [] → ⊥) → ToldWrite more x.tag q.boot

    module _ (comes : (lsid : Lsid) (x : Open) → open_of q lsid ≡ Some x
        → (open_of s.part lsid ≡ Some x) ⊎ IsLater lsid x) where
      one_live : (a b : Lsid) (x y : Open) → open_of q a ≡ Some x → open_of q b ≡ Some y
          → x.tag ≡ y.tag → a ≡ b
      one_live a b x y hx hy same =
          let h = tag_live q after_opens after_last after_entries after_served after a x hx in
          let k = tag_live q after_opens after_last after_entries after_served after b y hy in
          after.alone a b h.0 k.0 h.1 k.1 h.2 k.2 (sym h.3 ∙ same ∙ k.3)

      alike_then : (lsid : Lsid) (x : Open) → open_of q lsid ≡ Some x → (a : Answer)
          → WasAnswered more a → (done : OpReply × Bool) → a.outcome ≡ Ok done → a.tag ≡ x.tag
          → a.boot ≡ q.boot → a.k ≡ x.k → done ≡ (x.reply, x.wrote)
      alike_then lsid x there a w done ok tag life k =
          elim (Contains-append_cases sent out w.0 w.1) [
            | inl was ↦ elim (comes lsid x there) [
              | inl before ↦
                  f.alike lsid x before a (w.0, was, w.2) done ok tag (life ∙ boot) k
              | inr later ↦
                  absurd (later.above a (w.0, was, w.2) done ok tag life k)
            ]
            | inr now ↦
                let n = is_new w.0 now a w.2 done ok in
                let has = n.replies.has in
                let same : n.m.lsid ≡ lsid =
                one_live n.m.lsid lsid has.mine x has.there there
                (has.tag_is ∙ sym n.replies.tag ∙ tag) in
                let its : has.mine ≡ x =
                one_open q lsid has.mine x
                (subst (λ (l : Lsid). open_of q l ≡ Some has.mine) same has.there) there in
                by done has its
          ]
        where
          by : (d : OpReply × Bool) {l : Lsid} {t : Tag} {i : ℕ}
              → (has : Has q l t i d.0 d.1) → has.mine ≡ x → d ≡ (x.reply, x.wrote)
          by d has its =
              subst (λ (y : Open). d ≡ (y.reply, y.wrote)) its
              (ap₂ (λ (r : OpReply) (b : Bool). (r, b)) (sym has.reply_is) (sym has.wrote_is))

      live_then : LiveTold more q
      live_then = record {
        alike = alike_then;
        wrote = λ lsid x there some.
            elim (comes lsid x there) [
              | inl before ↦ write_of more x.tag x.tag s.part.boot q.boot refl (sym boot)
                  (write_on sent out x.tag s.part.boot (f.wrote lsid x before some))
              | inr later ↦ later.wrote some
            ];
      }

      agree_new : (a b : Answer) (x : Envelope) → Contains out x → x.msg ≡ msg.Answer a
          → WasAnswered more b → a.tag ≡ b.tag → a.k ≡ b.k → a.boot ≡ b.boot
          → (d g : OpReply × Bool) → a.outcome ≡ Ok d → b.outcome ≡ Ok g → d ≡ g
      agree_new a b x there is w tag k life d g od og =
          let n = is_new x there a is d od in
          let r = n.replies in
          let mine = r.has.mine in
          let first : d ≡ (mine.reply, mine.wrote) =
          alike_then n.m.lsid mine r.has.there a
          (x, Contains-append_right sent out x there, is) d od (r.tag ∙ sym r.has.tag_is) r.boot
          (r.k ∙ sym r.has.k_is) in
          let second : g ≡ (mine.reply, mine.wrote) =
          alike_then n.m.lsid mine r.has.there b w g og
          (sym tag ∙ r.tag ∙ sym r.has.tag_is) (sym life ∙ r.boot)
          (sym k ∙ r.k ∙ sym r.has.k_is) in
          first ∙ sym second

      agree_then : Alike more
      agree_then a b v w tag k life d g od og =
          elim (Contains-append_cases sent out v.0 v.1) [
            | inr now ↦ agree_new a b v.0 now v.2 w tag k life d g od og
            | inl was ↦ elim (Contains-append_cases sent out w.0 w.1) [
              | inr now ↦ sym (agree_new b a w.0 now w.2 v (sym tag) (sym k) (sym life) g d og od)
              | inl also ↦
                  agree a b (v.0, was, v.2) (w.0, also, w.2) tag k life d g od og
            ]
          ]

    -- where the statement is served anew

    module _ (m : Statement) (asked : asked_by e.what ≡ msg.Statement m) (x : Served)
        (of : IsOf m x) (life : x.life ≡ q.boot) (behind_it : Each (ComesAfter x) served)
        (answer : Envelope) (one_out : out ≡ answer ∷ []) (tells : AnswersTo x answer.msg) where
      above_it : (y : Open) → IsLiveFor x y → (a : Answer) → WasAnswered sent a
          → (done : OpReply × Bool) → a.outcome ≡ Ok done → a.tag ≡ y.tag → a.boot ≡ q.boot
          → a.k ≡ y.k → ⊥
      above_it y is a w done ok tag here k =
          let h : IsToldBy served (msg.Answer a) = subst (IsToldBy served) w.2
          (All-contains (λ (z : Envelope). IsToldBy served z.msg) sent w.0 told w.1) in
          let t = subst (ToldThere served a) ok h in
          let less : t.0.k < x.k = (each_last (ComesAfter x) served t.0 behind_it t.1
          (t.2 ∙ tag ∙ is.0) (t.6 ∙ here ∙ sym life)).0 in
          let same : t.0.k ≡ x.k = t.3 ∙ k ∙ is.1 in
          absurd (omega (arith, less, same))

      -- its Answer is a reply
      replied : (y : Open) → IsLiveFor x y → (mm : Msg) → AnswersTo x mm
          → (a : Answer) × (done : OpReply × Bool) × (mm ≡ msg.Answer a) × (a.outcome ≡ Ok done)
      replied y is (msg.Answer a) t = by a.outcome refl t.outcome
        where
          no_refusal : (why : Cause) → TellsRefusal x.meaning why → ⊥
          no_refusal (cause.Statement err) r =
              let wrong : Err err ≡ Ok y.reply = sym (ap reply_of r) ∙ is.3 in cc
          no_refusal other r = r

          by : (outcome : Result (OpReply × Bool) Cause) → a.outcome ≡ outcome
              → Tells x.meaning outcome
              → (b : Answer) × (done : OpReply × Bool) × (msg.Answer a ≡ msg.Answer b)
              × (b.outcome ≡ Ok done)
          by (Ok done) ok told_it = (a, done, refl, ok)
          by (Err why) ok told_it = absurd (no_refusal why told_it)
      replied y is other t = absurd t

      wrote_now : (y : Open) → open_of q m.lsid ≡ Some y → IsLiveFor x y → y.wrote ≡ true
          → ToldWrite more y.tag q.boot
      wrote_now y there is told_so =
          let r = replied y is answer.msg tells in
          let among : Contains out answer =
          subst (λ (l : List Envelope). Contains l answer) (sym one_out) (has_first answer []) in
          let n = is_new answer among r.0 r.2 r.1 r.3 in
          let same_msg : msg.Statement n.m ≡ msg.Statement m = sym n.asked ∙ asked in
          let same : n.m ≡ m = grind (arith, same_msg) in
          let has = n.replies.has in
          let its : has.mine ≡ y =
          one_open q m.lsid has.mine y
          (subst (λ (z : Statement). open_of q z.lsid ≡ Some has.mine) same has.there) there in
          record {
            answer = r.0;
            was = (answer, Contains-append_right sent out answer among, r.2);
            tag_is = n.replies.tag ∙ sym has.tag_is ∙ ap (λ (z : Open). z.tag) its;
            boot_is = n.replies.boot;
            reply = r.1.0;
            outcome = r.3 ∙ ap (λ (b : Bool). Ok (r.1.0, b))
                (sym has.wrote_is ∙ ap (λ (z : Open). z.wrote) its ∙ told_so);
          }

      had_it : HadWritten says.p q m.lsid
      had_it = subst (HadBy says.p q) asked says.had

      wrote_case : (y : Open) → open_of q m.lsid ≡ Some y → IsLiveFor x y
          → (y.writes ≡ [] → ⊥) → (test : Bool) → y.wrote ≡ test → ToldWrite more y.tag q.boot
      wrote_case y there is some true told_so = wrote_now y there is told_so
      wrote_case y there is some false silent =
          let b = had_it y there some silent in
          write_of more b.0.tag y.tag s.part.boot q.boot b.2 (sym boot)
          (write_on sent out b.0.tag s.part.boot
          (f.wrote m.lsid b.0 (from_p m.lsid b.0 b.1) b.3))

      later_at : (lsid : Lsid) (y : Open) → open_of q lsid ≡ Some y → lsid ≡ m.lsid
          → IsLiveFor x y → IsLater lsid y
      later_at lsid y there here is = record {
        above = above_it y is;
        wrote = λ some. wrote_case y
            (subst (λ (l : Lsid). open_of q l ≡ Some y) here there) is some y.wrote refl;
      }

      anew_comes : (p : Part) → NoneBegins s.part p → LivesFor p q m.lsid x → (lsid : Lsid)
          → (y : Open) → open_of q lsid ≡ Some y
          → (open_of s.part lsid ≡ Some y) ⊎ IsLater lsid y
      anew_comes p from lives lsid y there =
          elim (lives lsid y there) [
            | inl was ↦ inl (from lsid y was.1)
            | inr now ↦ inr (later_at lsid y there now.0 now.1)
          ]

    -- what grows
    abbrev Comes : Type 0
    Comes = (lsid : Lsid) (y : Open) → open_of q lsid ≡ Some y
        → (open_of s.part lsid ≡ Some y) ⊎ IsLater lsid y

    quiet_comes : (p : Part) → NoneBegins s.part p → NoneBegins p q → Comes
    quiet_comes p from none lsid y there = inl (from lsid y (none lsid y there))

    module _ (p : Part) (from : NoneBegins s.part p) (now : List Served)
        (newest : (x : Served) → now ≡ x ∷ served → Each (ComesAfter x) served) where
      msg_comes : (mm : Msg) → asked_by e.what ≡ mm → GrowsBy p q mm served now out → Comes
      msg_comes (msg.Statement m) is (inl h) = quiet_comes p from h.1
      msg_comes (msg.Statement m) is (inr h) =
          anew_comes m is h.0 h.2 h.3 (newest h.0 h.1) h.6.0 h.6.1 h.6.2 p from h.5
      msg_comes (msg.Answer m) is h = quiet_comes p from h.1
      msg_comes (msg.Commit m) is h = quiet_comes p from h.1
      msg_comes (msg.Outcome m) is h = quiet_comes p from h.1
      msg_comes (msg.Abort m) is h = quiet_comes p from h.1
      msg_comes (msg.CommitTwo m) is h = quiet_comes p from h.1
      msg_comes (msg.Prepare m) is h = quiet_comes p from h.1
      msg_comes (msg.Vote m) is h = quiet_comes p from h.1
      msg_comes (msg.Decide m) is h = quiet_comes p from h.1
      msg_comes (msg.Acked m) is h = quiet_comes p from h.1
      msg_comes (msg.Recover m) is h = quiet_comes p from h.1
      msg_comes msg.Nudge is h = quiet_comes p from h.1

      event_comes : (w : Happening) → asked_by e.what ≡ asked_by w → Grows p q w served now out
          → Comes
      event_comes (what.Deliver d) is h = msg_comes d.msg is h
      event_comes (what.Client conn frame) is h = quiet_comes p from h.1
      event_comes (what.Gone conn) is h = quiet_comes p from h.1
      event_comes what.Resend is h = quiet_comes p from h.1
      event_comes what.Moment is h = quiet_comes p from h.1

      pub told_then : Grows p q e.what served now out → LiveTold more q × Alike more
      told_then h =
          let comes = event_comes e.what refl h in (live_then comes, agree_then comes)

    -- what is recorded

    rec_case : (x : Msg) → asked_by e.what ≡ x → (came : (m : Commit) → x ≡ msg.Commit m
        → WasSent sent m) → (r : Rec) → RecTo says.p q x r → RecTold sent r
    rec_case (msg.Commit m) is came r k =
        let mid = serves_entered s.clock.last entries served opens s.part says.p holds
        says.entered in
        let live : LiveAt says.p.boot mid.0 k.own.tag (Some k.mine) =
        subst (LiveAt says.p.boot mid.0 k.own.tag) k.has
        (at_live says.p mid.0 s.clock.last entries served mid.1 m.lsid k.own k.there k.live) in
        let some : k.mine.writes ≡ [] → ⊥ =
        λ none. let wrong : [] ≡ k.write ∷ k.more = sym none ∙ k.writes in cc in
        let t = f.wrote m.lsid k.mine (from_p m.lsid k.mine k.has) some in
        subst (RecTold sent) (sym k.is) (
          m,
          came m refl,
          sym k.tag_is,
          write_of sent k.mine.tag k.own.tag s.part.boot m.boot live.0
              (sym (k.boot ∙ says.boot)) t,
        )
    rec_case other is came r k = absurd k

    pub rec_then : ((m : Commit) → asked_by e.what ≡ msg.Commit m → WasSent sent m)
        → IfSome o.rec (RecTold sent)
    rec_then came = if_some (RecTo says.p q (asked_by e.what)) (RecTold sent) o.rec
        (λ r k. rec_case (asked_by e.what) refl came r k) says.rec

-- A step of the run.

module _ (old new : Nodes) (st : Stands old) (h : OneShard old)
    (k : (n : NodeState) × (old.shards ≡ n ∷ []) × Flagged old.sent n) where
  abbrev HasTold : Nodes → Type 0
  HasTold nodes = (n : NodeState) × (nodes.shards ≡ n ∷ []) × Flagged nodes.sent n

  there_is : (n : ℕ) (before : NodeState) → slice_get old.shards n ≡ Some before
      → (n ≡ 0) × (before ≡ k.0) × (before ≡ h.node)
  there_is n before is =
      let first = only k.0 before n
      (subst (λ (xs : List NodeState). slice_get xs n ≡ Some before) k.1 is) in
      let second = only h.node before n
      (subst (λ (xs : List NodeState). slice_get xs n ≡ Some before) h.shards is) in
      (first.0, first.1, second.1)

  module _ (n : ℕ) (e : NodeEvent) (a : NodeAnswer) (faults : ℕ)
      (step : ShardSteps old n e a faults new) where
    abbrev before : NodeState
    before = step.before

    abbrev left : NodeState
    left = step.after

    at : (n ≡ 0) × (before ≡ k.0) × (before ≡ h.node)
    at = there_is n before step.there

    flagged : Flagged old.sent before
    flagged = subst (Flagged old.sent) (sym at.1) k.2

    right : IsRight old.sent before.core before.records before.hand
    right = subst (λ (x : NodeState). IsRight old.sent x.core x.records x.hand) (sym at.2) h.right

    durable : IsDurableNode before
    durable = subst IsDurableNode (sym at.2) h.durable

    own : before.core.part.shard ≡ 0
    own = (st.reads.shards n before step.there).own ∙ at.0

    module _ (room : Room) (run : before.core.stopped ≡ None) where
      abbrev o' : CoreStep
      o' = core_step room before.core e

      has : HasRun old.sent before.core before.records before.hand
      has = right.runs run

      time : KeepsTime before.core o'
      time =
          let c = st.clocks n before step.there in
          step_keeps room before.core e (c.clock run) c.wall step.wall step.times

      says : StepSays (λ x. Unit {0}) before.core e.what o'
      says = step_says (λ x. Unit {0}) room before.core e run has.2.coord durable.shard.part
          (alone_at old h (Shard n) e.what step.comes)

      goes : StepAlone (WasNamed old.sent) before.core e.what o'
      goes = does old.sent st.tags.one_begin room before.core own e before.records has.0 has.1
          has.2 (alone_at old h (Shard n) e.what step.comes) (came_at old h (Shard n) e.what step.comes) time

      grows : StepServes has.1.opens before.core e.what (commits_by before.records) has.0 o'
      grows = serves old.sent st.tags.one_begin room before.core own e before.records has.0 has.1
          has.2 (alone_at old h (Shard n) e.what step.comes) (came_at old h (Shard n) e.what step.comes) time

      left_behind : Behind old.sent st.tags.one_begin room before.core own e before.records has.0
          has.1 has.2 (alone_at old h (Shard n) e.what step.comes) (came_at old h (Shard n) e.what step.comes) time
      left_behind = behind old.sent st.tags.one_begin room before.core own e before.records has.0
          has.1 has.2 (alone_at old h (Shard n) e.what step.comes) (came_at old h (Shard n) e.what step.comes) time

      grew_so : Grew old.sent st.tags.one_begin before.core (commits_by before.records) has.0 has.2
          has.1.opens has.1.holds grows.entered grows.enters o'.core.part goes.goes.boot grows.told
      grew_so = grew old.sent st.tags.one_begin before.core (commits_by before.records) has.0 has.2
          has.1.opens has.1.holds grows.entered grows.enters o'.core.part goes.goes.boot grows.told
          e.what (given_out o'.answer) (came_at old h (Shard n) e.what step.comes) (names_at old h (Shard n) e.what step.comes)
          grows.grows goes.served

      newest : (x : Served) → grows.told ≡ x ∷ has.0 → Each (ComesAfter x) has.0
      newest x is =
          elim (grew_so.0) [
            | inl same ↦ longer x has.0 (sym is ∙ same)
            | inr more ↦
                let one_is : more.0 ≡ x = first_is more.0 x has.0 (sym more.1.is ∙ is) in
                subst (λ (y : Served). Each (ComesAfter y) has.0) one_is more.1.after
          ]

      entered_from : NoneBegins before.core.part grows.entered
      entered_from = none_from before.core.part grows.entered has.1.opens before.core.clock.last
          (commits_by before.records) has.0 has.1.holds grows.enters

      then_told : LiveTold (old.sent ++ given_out o'.answer) o'.core.part
          × Alike (old.sent ++ given_out o'.answer)
      then_told = told_then old.sent before e room (flagged.runs run) flagged.alike says
          goes.goes.boot (commits_by before.records) has.0 has.1.opens has.1.holds has.1.told
          left_behind.lasts.opens o'.core.clock.last
          (commits_by (before.records ++ joined (appends_of o'))) left_behind.told
          left_behind.lasts.holds grows.entered entered_from grows.told newest grows.grows

      recorded : IfSome o'.rec (RecTold old.sent)
      recorded = rec_then old.sent before e room (flagged.runs run) flagged.alike says
          goes.goes.boot (commits_by before.records) has.0 has.1.opens has.1.holds has.1.told
          left_behind.lasts.opens o'.core.clock.last
          (commits_by (before.records ++ joined (appends_of o'))) left_behind.told
          left_behind.lasts.holds (commit_asked old h (Shard n) e.what step.comes)

      lists : (took : Appended before o' a left ⊎ Failed before o' a left)
          → All (RecTold old.sent) left.records × All (RecTold old.sent) left.hand
      lists took = records_step (RecTold old.sent) before o' a left (λ b. tt) recorded
          flagged.records flagged.hand took

      runs_flagged : Appended before o' a left ⊎ Failed before o' a left
          → Flagged (old.sent ++ given_out a) left
      runs_flagged (inl d) =
          let kept = lists (inl d) in
          let both : LiveTold (old.sent ++ given_out a) o'.core.part
          × Alike (old.sent ++ given_out a) = subst (λ (b : NodeAnswer).
          LiveTold (old.sent ++ given_out b) o'.core.part × Alike (old.sent ++ given_out b))
          (sym d.told) then_told in
          record {
            runs = λ still. subst (λ (c : ShardState). LiveTold (old.sent ++ given_out a) c.part)
                (sym d.core) both.0;
            records = all_on old.sent (given_out a) left.records kept.0;
            hand = all_on old.sent (given_out a) left.hand kept.1;
            alike = both.1;
          }
      runs_flagged (inr d) =
          let kept = lists (inr d) in
          let none : All NoReply (given_out a) =
          subst (λ (b : NodeAnswer). All NoReply (given_out b)) (sym d.told) (nothing NoReply) in
          record {
            runs = λ still.
                let wrong : Some left.faults ≡ None =
                sym (ap (λ (c : ShardState). c.stopped) d.core) ∙ still in
                cc;
            records = all_on old.sent (given_out a) left.records kept.0;
            hand = all_on old.sent (given_out a) left.hand kept.1;
            alike = alike_on old.sent (given_out a) none flagged.alike;
          }

    stops_flagged : (room : Room) (stops : ℕ) → before.core.stopped ≡ Some stops
        → Appended before (core_step room before.core e) a left
        → Flagged (old.sent ++ given_out a) left
    stops_flagged room stops is d =
        let r = stopped_rests room before.core e stops is in
        let x = core_step room before.core e in
        let none : All NoReply (given_out a) =
        subst (λ (b : NodeAnswer). All NoReply (given_out b)) (sym d.told)
        (stopped_tells_none room before.core e stops is) in
        let lists = records_step (RecTold old.sent) before x a left (λ b. tt)
        (subst (λ (y : Option Rec). IfSome y (RecTold old.sent)) (sym r.rec) tt)
        flagged.records flagged.hand (inl d) in
        record {
          runs = λ still.
              let wrong : Some stops ≡ None = sym is
              ∙ ap (λ (c : ShardState). c.stopped) (sym (d.core ∙ r.core)) ∙ still in
              cc;
          records = all_on old.sent (given_out a) left.records lists.0;
          hand = all_on old.sent (given_out a) left.hand lists.1;
          alike = alike_on old.sent (given_out a) none flagged.alike;
        }

    takes_case : (room : Room) (stops : Option ℕ) → before.core.stopped ≡ stops
        → Appended before (core_step room before.core e) a left
        ⊎ Failed before (core_step room before.core e) a left
        → Flagged (old.sent ++ given_out a) left
    takes_case room None run took = runs_flagged room run took
    takes_case room (Some stops) is (inl d) = stops_flagged room stops is d
    takes_case room (Some stops) is (inr d) = absurd (rests_not before room e a left stops is d)

    shard_told : HasTold new
    shard_told = (
      left,
      ap (λ (w : Nodes). w.shards) step.nodes
          ∙ ap (λ (xs : List NodeState). slice_set xs n left) k.1
          ∙ ap (λ (i : ℕ). slice_set (k.0 ∷ []) i left) at.0,
      subst (λ (x : List Envelope). Flagged x left)
          (sym (ap (λ (w : Nodes). w.sent) step.nodes))
          (takes_case step.takes.0 before.core.stopped refl step.takes.1),
    )

  start_told : (n : ℕ) → ShardStarts old n new → HasTold new
  start_told n step =
      let at = there_is n step.before step.there in
      let node = started_is n step.recs step.faults step.after step.starts in
      let f : Flagged old.sent step.before = subst (Flagged old.sent) (sym at.1) k.2 in
      let boot = boot_behind (image_of step.recs) ∷ [] in
      let told : Flagged old.sent step.after = subst (Flagged old.sent) (sym node) (record {
        runs = λ run. record {
          alike = λ lsid o there. let wrong : None ≡ Some o = there in cc;
          wrote = λ lsid o there. let wrong : None ≡ Some o = there in cc;
        };
        records = All-append (RecTold old.sent) step.recs boot (by step.before step.recs step.remain
            f) (one (RecTold old.sent) (boot_behind (image_of step.recs)) tt);
        hand = nothing (RecTold old.sent);
        alike = f.alike;
      }) in (
        step.after,
        ap (λ (w : Nodes). w.shards) step.nodes
            ∙ ap (λ (xs : List NodeState). slice_set xs n step.after) k.1
            ∙ ap (λ (i : ℕ). slice_set (k.0 ∷ []) i step.after) at.0,
        subst (λ (x : List Envelope). Flagged x step.after)
            (sym (ap (λ (w : Nodes). w.sent) step.nodes)) told,
      )
    where
      by : (b : NodeState) (recs : List Rec) → MayRemain b recs → Flagged old.sent b
          → All (RecTold old.sent) recs
      by b recs (inl e) f = subst (All (RecTold old.sent)) (sym e) f.records
      by b recs (inr e) f = subst (All (RecTold old.sent)) (sym e)
          (All-append (RecTold old.sent) b.records b.hand f.records f.hand)

  pub step_told : (ran : Ran) → Happens old ran new → HasTold new
  step_told (Step (Shard n) e a faults) step = shard_told n e a faults step
  step_told (Step (Router n) e a faults) step = (
    k.0,
    ap (λ (w : Nodes). w.shards) step.nodes ∙ k.1,
    subst (λ (x : List Envelope). Flagged x k.0) (sym (ap (λ (w : Nodes). w.sent) step.nodes))
        (quiet_on old.sent (given_out a) k.0 (router_ends_none old new h n e a faults step) k.2),
  )
  step_told (Swapped (Shard n)) step = start_told n step
  step_told (Swapped (Router n)) step = (
    k.0,
    ap (λ (w : Nodes). w.shards) step.nodes ∙ k.1,
    subst (λ (x : List Envelope). Flagged x k.0) (sym (ap (λ (w : Nodes). w.sent) step.nodes))
        k.2,
  )

-- A run.

abbrev Told : Nodes → Type 0
Told nodes = (n : NodeState) × (nodes.shards ≡ n ∷ []) × Flagged nodes.sent n

run_told : (old : Nodes) (run : List Ran) (trace : List Nodes) (new : Nodes)
    → IsTrace old run trace new → Stands old → OneShard old → Told old → Told new
run_told old [] [] new is s o k = subst Told (sym is) k
run_told old [] (nodes ∷ trace) new is s o k = absurd is
run_told old (ran ∷ run) [] new is s o k = absurd is
run_told old (ran ∷ run) (nodes ∷ trace) new is s o k =
    run_told is.1.0 run trace new is.1.2 (stands_step old ran is.1.0 is.1.1 s)
    (one_shard_step old s o ran is.1.0 is.1.1) (step_told old is.1.0 s o k ran is.1.1)

first_told : (chunks : Map) (start : Nodes) → StartsAlone chunks start → Told start
first_told chunks start h =
    let node = started_is 0 [] h.faults h.node h.starts in
    let sent = h.fresh.sent in (
      h.node,
      h.shards,
      subst (λ (x : List Envelope). Flagged x h.node) (sym sent)
          (subst (Flagged []) (sym node) (record {
            runs = λ run. record {
              alike = λ lsid o there. let wrong : None ≡ Some o = there in cc;
              wrote = λ lsid o there. let wrong : None ≡ Some o = there in cc;
            };
            records = one (RecTold []) (boot_behind (image_of [])) tt;
            hand = nothing (RecTold []);
            alike = λ a b v w. none_there v.0 v.1;
          })),
    )

-- The record of a commit that is listed.

commits_or : (tag : Tag) (r : Rec) → Commits tag r ⊎ (Commits tag r → ⊥)
commits_or tag (rec.Commit there lsid number read_at at writes) = by (same_tag there tag) refl
  where
    by : (test : Bool) → same_tag there tag ≡ test → (there ≡ tag) ⊎ (there ≡ tag → ⊥)
    by true is = inl (tag_same there tag is)
    by false is = inr (λ same.
        let wrong : true ≡ false = sym (tag_self tag)
        ∙ ap (λ (t : Tag). same_tag t tag) (sym same) ∙ is in cc)
commits_or tag other = inr (λ wrong. wrong)

seek : (tag : Tag) (recs : List Rec)
    → ((r : Rec) × Contains recs r × Commits tag r) ⊎ All (λ (r : Rec). Commits tag r → ⊥) recs
seek tag [] = inr (All-nil (λ (r : Rec). Commits tag r → ⊥))
seek tag (r ∷ recs) =
    elim (commits_or tag r) [
      | inl is ↦ inl (r, has_first r recs, is)
      | inr isnt ↦ elim (seek tag recs) [
        | inl more ↦ inl (more.0, has_more r recs more.0 more.1, more.2)
        | inr none ↦ inr (All-cons (λ (x : Rec). Commits tag x → ⊥) r recs isnt none)
      ]
    ]

abbrev OfCommit : List Envelope → Tag → Type 0
OfCommit sent tag = (m : Commit) × WasSent sent m × (m.tag ≡ tag) × ToldWrite sent tag m.boot

of_rec : (sent : List Envelope) (tag : Tag) (r : Rec) → RecTold sent r → Commits tag r
    → OfCommit sent tag
of_rec sent tag (rec.Commit there lsid number read_at moment writes) k is =
    subst (OfCommit sent) is k
of_rec sent tag (rec.Boot boot) k is = absurd is
of_rec sent tag (rec.Ceiling bound) k is = absurd is
of_rec sent tag (rec.Prepared there lsid number boot read_at moment coordinator writes) k is =
    absurd is
of_rec sent tag (rec.Decided d) k is = absurd is
of_rec sent tag (rec.CoordStart there lsid number parts) k is = absurd is
of_rec sent tag (rec.CoordDecision there d) k is = absurd is
of_rec sent tag (rec.CoordEnd there) k is = absurd is
of_rec sent tag (rec.Floor floor) k is = absurd is

ok_of : (o : Result (OpReply × Bool) Cause) → IsOk o → (done : OpReply × Bool) × (o ≡ Ok done)
ok_of (Ok done) h = (done, refl)
ok_of (Err why) h = let no : false ≡ true = h in absurd (grind (arith, no))

module _ (chunks : Map) (start : Nodes) (run : List Ran) (trace : List Nodes) (now : Nodes)
    (is : IsMap chunks) (h : StartsAlone chunks start) (k : IsTrace start run trace now) where
  told : Told now
  told = run_told start run trace now k (stands_start chunks start h)
      (one_shard_first chunks start h.faults h.node h.fresh h.shards h.starts)
      (first_told chunks start h)

  pub replies_agree : RepliesAgree now.sent
  replies_agree a b v w tag place boot oa ob =
      let x = ok_of a.outcome oa in
      let y = ok_of b.outcome ob in
      x.1 ∙ ap (λ (d : OpReply × Bool). Ok d)
      (told.2.alike a b v w tag place boot x.0 y.0 x.1 y.1) ∙ sym y.1

  pub committed_told_write : CommitsToldWrites now.sent (commits_of now)
  committed_told_write tag there = by (seek tag told.0.records)
    where
      by : ((r : Rec) × Contains told.0.records r × Commits tag r)
          ⊎ All (λ (r : Rec). Commits tag r → ⊥) told.0.records → OfCommit now.sent tag
      by (inl r) = of_rec now.sent tag r.0
          (All-contains (RecTold now.sent) told.0.records r.0 told.2.records r.1) r.2
      by (inr none) =
          let o = runs_alone chunks start run trace now h k in
          let same : told.0 ≡ o.node = (only o.node told.0 0
          (subst (λ (xs : List NodeState). slice_get xs 0 ≡ Some told.0) (sym told.1 ∙ o.shards)
          refl)).1 in
          let alone : All (RecAlone (WasNamed now.sent)) told.0.records =
          subst (λ (n : NodeState). All (RecAlone (WasNamed now.sent)) n.records) (sym same)
          o.right.kept.2.alone.records in
          let wrong : true ≡ false = sym there
          ∙ ap (λ (xs : List NodeState). has_entry (commits (map (λ (n : NodeState). n.records) xs))
          tag) told.1
          ∙ none_listed (WasNamed now.sent) (is_its tag) told.0.records alone
          (All-weaker (λ (r : Rec). Commits tag r → ⊥) (RecNo (is_its tag)) (no_rec tag)
          told.0.records none) in
          cc

  -- of the boot that any request to commit it names
  pub told_write_of : (m : Commit) → WasSent now.sent m → has_entry (commits_of now) m.tag ≡ true
      → ToldWrite now.sent m.tag m.boot
  told_write_of m was there =
      let c = committed_told_write m.tag there in
      write_of now.sent m.tag m.tag c.0.boot m.boot refl
      (one_boot chunks start run trace now is h k c.0 m c.1 was c.2) c.3
