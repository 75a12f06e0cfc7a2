-- Each statement of a transaction that is asked to commit was answered, with a reply, in the boot
-- of the shard that the request names: the router took no Answer of another boot.
use Rattle.std.proofs.Common.{◌≡◌, ◌⊎◌, inl, inr, ◌+◌, ◌≤◌, ◌<◌, ℕ, Bool, true, false, All, List}
use Rattle.std.proofs.Common.{[], ◌∷◌, map, filter_map, length, nat_lt, zero, suc, Some}
use Rattle.std.proofs.Common.{is_some, Result, Ok, Err, refl, sym, ap, subst, ◌∙◌, arith}
use Rattle.std.specs.Prelude.{Contains, IsOk}
use Rattle.std.proofs.lemmas.Bool.{ltb-true, ltb-false}
use Rattle.std.proofs.lemmas.List.Elements.{All-contains, All-head}
use Rattle.txn_types.specs.declared.cause.Cause.{Cause}
use Rattle.txn_types.specs.declared.cause.Cause.TheVariants as cause
use Rattle.txn_types.specs.declared.message.Answer.{Answer}
use Rattle.txn_types.specs.declared.message.Commit.{Commit}
use Rattle.txn_types.specs.declared.message.Envelope.{Envelope}
use Rattle.txn_types.specs.declared.message.Msg.TheVariants as msg
use Rattle.txn_types.specs.declared.message.Statement.{Statement}
use Rattle.txn_types.specs.declared.node.NodeId.{NodeId}
use Rattle.txn_types.specs.declared.node.NodeId.TheVariants.{Shard}
use Rattle.txn_types.specs.declared.operation.Op.{Op}
use Rattle.txn_types.specs.declared.operation.OpReply.{OpReply}
use Rattle.txn_semantics.specs.Meaning.{Meaning, document_rules}
use Rattle.txn_semantics.specs.Splits.{outcome}
use Rattle.txn_semantics.specs.declared.commits.Answered.{Answered}
use Rattle.chunk_map.specs.Map.{Map, IsMap}
use Rattle.part_laws.specs.Each.{Among}
use Rattle.part_laws.specs.Sound.{Served}
use Rattle.txn_model.specs.declared.ran.Ran.{Ran}
use Rattle.cluster_core.specs.Answering.{Unanswered, answered_of, meaning_in, refused_as}
use Rattle.cluster_core.specs.Ledger.{fresh_ledger, ledger_behind, answered_in}
use Rattle.cluster_core.specs.Nodes.{Nodes}
use Rattle.cluster_core.specs.Trace.{IsTrace}
use Rattle.serving_laws.specs.Telling.{IsToldBy, ToldThere}
use Rattle.answer_laws.specs.Comes.{IsGiven, as_opened}
use Rattle.answer_laws.specs.Opened.{opened_in}
use Rattle.answer_laws.specs.Parts.{SentTo, IsPart}
use Rattle.answer_laws.proofs.Running.{all_parts}
use Rattle.told_laws.specs.Places.{Rises, IsLater}
use Rattle.told_laws.proofs.Lists.{InOrder, contained, has_map, map_has, order_two}
use Rattle.told_laws.proofs.Running.{all_booked}
use Rattle.one_shard_laws.specs.Concluding.{StartsAlone, ServedRight}
use Rattle.one_shard_laws.specs.Lasting as la
use Rattle.one_shard_laws.proofs.Concluding.{served_right}
use Rattle.one_shard_laws.proofs.Joint.{runs_alone}
use Rattle.chain_laws.specs.Chained.{IsAnsweredIn, WasSent as WasStated}
use Rattle.chain_laws.specs.Completing.{completed_in, IsCompleted}
use Rattle.chain_laws.proofs.Completed.{run_of, all_completed}
use Rattle.chain_laws.proofs.Concluding.{always_first, boots_of_sent}
use Rattle.chain_laws.proofs.Owning.{each_last}
use Rattle.chain_laws.proofs.Running.{ChainsOn, all_chains}
use Rattle.chain_laws.proofs.Standing.{WasLast, KnownBoot, IsSingle}
use Rattle.commit_laws.specs.Speaking.{Gave, CommitFollows, MsgFollows}
use Rattle.commit_laws.proofs.Chaining.{WasAskedFor}
use Rattle.commit_laws.proofs.Running.{all_stand}
use Rattle.commit_laws.proofs.Standing.{Stand}
use Rattle.decision_laws.specs.Ends.{WasSent}
use Rattle.decision_laws.proofs.Lost.{one_map}

-- Answers that are replies.

refused_not : (op : Op) (why : Cause) → is_some (refused_as why) ≡ true
    → ((m : Meaning) → refused_as why ≡ Some m → IsOk (outcome document_rules op (m ∷ []))) → ⊥
refused_not op (cause.Statement err) says ok =
    let no : false ≡ true = ok (Err err) refl in
    grind (arith, no)
refused_not op other says ok = grind (arith, says)

one_meaning : (a : Answer) (m : Meaning) → meaning_in (0, a) ≡ Some m
    → filter_map meaning_in ((0, a) ∷ []) ≡ m ∷ []
one_meaning a m is = rw is refl

reply_case : (op : Op) (a : Answer) (o : Result (OpReply × Bool) Cause) → a.outcome ≡ o
    → is_some (meaning_in (0, a)) ≡ true
    → IsOk (outcome document_rules op (filter_map meaning_in ((0, a) ∷ [])))
    → (done : OpReply × Bool) × (a.outcome ≡ Ok done)
reply_case op a (Ok done) is says ok = (done, is)
reply_case op a (Err why) is says ok =
    let meant : meaning_in (0, a) ≡ refused_as why = rw is refl in
    absurd (refused_not op why (ap is_some (sym meant) ∙ says)
    (λ m it. subst (λ (ms : List Meaning). IsOk (outcome document_rules op ms))
    (one_meaning a m (meant ∙ it)) ok))

-- Lists and places.

asked_of : (sent : List Envelope) (served : List Served) → la.AllAsked sent served → (x : Served)
    → Among x served → WasAskedFor sent x
asked_of sent [] h x c = absurd c
asked_of sent (y ∷ served) h x (inr c) = asked_of sent served h.1 x c
asked_of sent (y ∷ served) h x (inl e) = subst (WasAskedFor sent) (sym e) (first h.0)
  where
    first : la.WasAsked sent served y → WasAskedFor sent y
    first w = (w.0, w.1, w.2, w.3, w.4, boot w.5)
      where
        boot : la.BeganBy w.1 served y ⊎ la.WentOnBy w.1 y → (w.1.boot ≡ 0) ⊎ (w.1.boot ≡ y.life)
        boot (inl b) = inl b.0
        boot (inr b) = inr b.1

in_places : (us : List Unanswered) → InOrder IsLater (map answered_of us) → InOrder Rises us
in_places [] h = tt
in_places (u ∷ us) h = (
  contained (Rises u) us (λ v c.
      All-contains (IsLater (answered_of u)) (map answered_of us) (answered_of v) h.0
      (has_map answered_of us v c)),
  in_places us h.1,
)

past_it : (a b : ℕ) → a ≤ b → (d : ℕ) × (b ≡ a + d)
past_it zero b h = (b, omega arith)
past_it (suc a) zero h = absurd (omega (arith, h))
past_it (suc a) (suc b) h =
    let less : a ≤ b = omega (arith, h) in
    let more = past_it a b less in
    let same : b ≡ a + more.0 = more.1 in
    (more.0, omega (arith, same))

-- A request to commit that was sent in a run of one shard.

module _ (chunks : Map) (is : IsMap chunks) (start : Nodes) (h : StartsAlone chunks start)
    (run : List Ran) (trace : List Nodes) (now : Nodes) (went : IsTrace start run trace now)
    (c : Commit) (was : WasSent now.sent c) where
  abbrev done : List Unanswered
  done = completed_in start.routers run

  abbrev begun : List Unanswered
  begun = opened_in start.routers run

  abbrev told : List Answered
  told = answered_in start.routers run

  one : chunks.shards ≡ 1
  one = one_map chunks start h

  pub right : ServedRight now
  right = served_right now (runs_alone chunks start run trace now h went)

  stand : Stand chunks now begun told
  stand = all_stand chunks is one start h.fresh run trace now went

  chains : ChainsOn chunks (ledger_behind (fresh_ledger start.routers) run) done now
  chains = all_chains chunks start is one h.fresh (always_first chunks start h) run trace now went

  completed_is : (u : Unanswered) → Contains done u → IsCompleted now.sent begun u
  completed_is u there = All-contains (IsCompleted now.sent begun) done u
      (all_completed start run trace now went) there

  told_is : told ≡ map answered_of done
  told_is = run_of (fresh_ledger start.routers) run

  later : InOrder IsLater told
  later = (all_booked chunks start run trace now h.fresh went).book.lists.later

  told_one : (a b : Answered) → Contains told a → Contains told b → a.tag ≡ b.tag → a.k ≡ b.k
      → a ≡ b
  told_one a b p q tag same =
      elim (order_two IsLater told a b later p q) [
        | inl e ↦ e
        | inr w ↦ elim w [
          | inl less ↦ let l : a.k < b.k = less tag in absurd (omega (arith, l, same))
          | inr less ↦ let l : b.k < a.k = less (sym tag) in absurd (omega (arith, l, same))
        ]
      ]

  done_one : (u v : Unanswered) → Contains done u → Contains done v → u.tag ≡ v.tag → u.k ≡ v.k
      → u ≡ v
  done_one u v p q tag same =
      elim (order_two Rises done u v (in_places done (subst (InOrder IsLater) told_is later)) p q) [
        | inl e ↦ e
        | inr w ↦ elim w [
          | inl less ↦ let l : u.k < v.k = less tag in absurd (omega (arith, l, same))
          | inr less ↦ let l : v.k < u.k = less (sym tag) in absurd (omega (arith, l, same))
        ]
      ]

  commit_is : CommitFollows (Gave now.sent told) begun told c
  commit_is =
      subst (MsgFollows (Gave now.sent told) begun told was.0.to) was.2
      (All-contains (λ (x : Envelope). MsgFollows (Gave now.sent told) begun told x.to x.msg)
      now.sent was.0 stand.sent was.1)

  -- A completed statement of the transaction.

  pub record Replied (u : Unanswered) : Type 0 where
    pub answer : Answer
    pub answers : u.answers ≡ (0, answer) ∷ []
    pub envelope : Envelope
    pub sent : Contains now.sent envelope
    pub msg : envelope.msg ≡ msg.Answer answer
    pub tag : answer.tag ≡ u.tag
    pub k : answer.k ≡ u.k
    pub reply : OpReply × Bool
    pub outcome : answer.outcome ≡ Ok reply

  one_answer : (u : Unanswered) → IsSingle u → length u.answers ≡ length u.shards
      → (a : Answer) × (u.answers ≡ (0, a) ∷ [])
  one_answer u single long = by single.answers
    where
      by : (u.answers ≡ []) ⊎ ((a : Answer) × (u.answers ≡ (0, a) ∷ []))
          → (a : Answer) × (u.answers ≡ (0, a) ∷ [])
      by (inr w) = w
      by (inl none) =
          let zero_long : length u.answers ≡ 0 =
          ap (λ (rows : List (ℕ × Answer)). length rows) none in
          let some : 0 < length u.shards = single.some in
          absurd (omega (arith, zero_long, long, some))

  pub replied : (u : Unanswered) → Contains done u → u.tag ≡ c.tag → Replied u
  replied u there same =
      let it = completed_is u there in
      let single = All-contains IsSingle done u chains.1.complete there in
      let a = one_answer u single it.complete in
      let given : IsGiven now.sent u (0, a.0) =
      All-head (IsGiven now.sent u) (0, a.0) []
      (subst (All (IsGiven now.sent u)) a.1 it.comes.answers) in
      let says : is_some (meaning_in (0, a.0)) ≡ true =
      All-head (λ (answer : ℕ × Answer). is_some (meaning_in answer) ≡ true) (0, a.0) []
      (subst (All (λ (answer : ℕ × Answer). is_some (meaning_in answer) ≡ true)) a.1 it.says) in
      let r = commit_is.replied (as_opened u) it.comes.opened same in
      let among : Contains told (answered_of u) =
      subst (λ (l : List Answered). Contains l (answered_of u)) (sym told_is)
      (has_map answered_of done u there) in
      let alike : r.answer ≡ answered_of u =
      told_one r.answer (answered_of u) r.among among r.tag r.k in
      let ok : IsOk (answered_of u).outcome =
      subst (λ (x : Answered). IsOk x.outcome) alike r.replied in
      let reply = reply_case u.op a.0 a.0.outcome refl says
      (subst (λ (rows : List (ℕ × Answer)).
      IsOk (outcome document_rules u.op (filter_map meaning_in rows))) a.1 ok) in
      record {
        answer = a.0;
        answers = a.1;
        envelope = given.envelope;
        sent = given.sent;
        msg = given.msg;
        tag = given.tag;
        k = given.k;
        reply = reply.0;
        outcome = reply.1;
      }

  -- what the shard served, where a reply tells of it
  pub record WasServed (a : Answer) : Type 0 where
    pub x : Served
    pub among : Among x right.served
    pub tag : x.tag ≡ a.tag
    pub k : x.k ≡ a.k
    pub life : x.life ≡ a.boot
    pub asked : WasAskedFor now.sent x

  pub was_served : (a : Answer) (e : Envelope) (reply : OpReply × Bool) → Contains now.sent e
      → e.msg ≡ msg.Answer a → a.outcome ≡ Ok reply → WasServed a
  was_served a e reply there is_a ok =
      let by_it : IsToldBy right.served (msg.Answer a) =
      subst (IsToldBy right.served) is_a
      (All-contains (λ (e : Envelope). IsToldBy right.served e.msg) now.sent e right.told there) in
      let t = subst (ToldThere right.served a) ok by_it in
      record {
        x = t.0;
        among = t.1;
        tag = t.2;
        k = t.3;
        life = t.6;
        asked = asked_of now.sent right.served right.asked t.0 t.1;
      }

  pub lives : (a : Answer) → WasServed a → 0 < a.boot
  lives a w =
      subst (λ (n : ℕ). 0 < n) w.life
      (each_last (λ (x : Served). 0 < x.life) right.served w.x right.lives w.among)

  served_of : (u : Unanswered) (r : Replied u) → WasServed r.answer
  served_of u r = was_served r.answer r.envelope r.reply r.sent r.msg r.outcome

  -- From a statement to those before it.

  abbrev Last : ℕ → ℕ → Type 0
  Last n boot = WasLast done c.tag n boot

  boot_is : (n boot : ℕ) (w : Last n boot) → (r : Replied w.statement) → r.answer.boot ≡ boot
  boot_is n boot w r =
      let same : r.answer ≡ w.boot_is.0 =
      second (0, r.answer) (0, w.boot_is.0) (sym r.answers ∙ w.boot_is.1) in
      ap (λ (a : Answer). a.boot) same ∙ w.boot_is.2
    where
      second : (x y : ℕ × Answer) → x ∷ [] ≡ y ∷ [] → x.1 ≡ y.1
      second x y e = ap (λ (p : ℕ × Answer). p.1) (firsts x y e)
        where
          firsts : (x y : ℕ × Answer) → x ∷ [] ≡ y ∷ [] → x ≡ y
          firsts x y e = cc

  pub last_reply : (n boot : ℕ) → Last n boot
      → (u : Unanswered) × Contains done u × (u.tag ≡ c.tag) × (u.k ≡ n)
      × ((r : Replied u) × (r.answer.boot ≡ boot))
  last_reply n boot w =
      let r = replied w.statement w.among w.tag_is in
      (w.statement, w.among, w.tag_is, w.k_is, (r, boot_is n boot w r))

  named_boot : (m : Statement) (n boot life : ℕ) → (m.boot ≡ 0) ⊎ (m.boot ≡ life)
      → life ≡ boot → Last n m.boot → Last n boot
  named_boot m n boot life (inr e) same w = subst (Last n) (e ∙ same) w
  named_boot m n boot life (inl e) same w =
      let r = last_reply n m.boot w in
      let up : 0 < r.4.0.answer.boot = lives r.4.0.answer (served_of r.0 r.4.0) in
      let zero_boot : r.4.0.answer.boot ≡ 0 = r.4.1 ∙ e in
      absurd (omega (arith, up, zero_boot))

  before_it : (n boot : ℕ) → Last (suc n) boot → (suc n ≡ 1) ⊎ Last n boot
  before_it n boot w =
      let l = last_reply (suc n) boot w in
      let s = served_of l.0 l.4.0 in
      let m = s.asked.1 in
      let sent : WasStated now.sent m = (s.asked.0, s.asked.2, s.asked.3) in
      let place : m.k ≡ suc n = sym s.asked.4.1 ∙ s.k ∙ l.4.0.k ∙ l.3 in
      let tags : m.tag ≡ c.tag = sym s.asked.4.0 ∙ s.tag ∙ l.4.0.tag ∙ l.2 in
      elim (boots_of_sent chunks start run trace now h is went m sent) [
        | inl first ↦ inl (sym place ∙ first.0)
        | inr more ↦
            let f = more.1 in
            let next : f.before.k + 1 ≡ m.k = f.k in
            let older : Last n m.boot = record {
              statement = f.before;
              among = f.among;
              tag_is = f.tag ∙ tags;
              k_is = omega (arith, next, place);
              boot_is = f.boot;
            } in
            inr (named_boot m n boot s.x.life s.asked.5 (s.life ∙ l.4.1) older)
      ]

  down : (d j n boot : ℕ) → n ≡ j + d → 0 < j → Last n boot → Last j boot
  down zero j n boot same pos w =
      subst (λ (i : ℕ). Last i boot) (omega (arith, same)) w
  down (suc d) j n boot same pos w =
      let next : n ≡ suc (j + d) = omega (arith, same) in
      elim (before_it (j + d) boot (subst (λ (i : ℕ). Last i boot) next w)) [
        | inl first ↦ absurd (omega (arith, first, pos))
        | inr older ↦ down d j (j + d) boot refl pos older
      ]

  one_boot : (n a b : ℕ) → Last n a → Last n b → a ≡ b
  one_boot n a b v w =
      let same : v.statement ≡ w.statement =
      done_one v.statement w.statement v.among w.among (v.tag_is ∙ sym w.tag_is)
      (v.k_is ∙ sym w.k_is) in
      let r = replied w.statement w.among w.tag_is in
      let x : Last n a = record {
        statement = w.statement;
        among = w.among;
        tag_is = w.tag_is;
        k_is = w.k_is;
        boot_is = subst (λ (y : Unanswered). IsAnsweredIn a y) same v.boot_is;
      } in
      sym (boot_is n a x r) ∙ boot_is n b w r

  -- each was answered in the boot that the request names
  pub same_boot : (j : ℕ) → KnownBoot done c.tag j c.boot → 0 < c.boot → (u : Unanswered)
      → Contains done u → u.tag ≡ c.tag → (r : Replied u) → r.answer.boot ≡ c.boot
  same_boot j (inl none) pos u there same r =
      let zero_boot : c.boot ≡ 0 = none.1 in absurd (omega (arith, pos, zero_boot))
  same_boot j (inr w) pos u there same r = by (nat_lt j u.k) refl
    where
      its : Last u.k r.answer.boot
      its = record {
        statement = u;
        among = there;
        tag_is = same;
        k_is = refl;
        boot_is = (r.answer, r.answers, refl);
      }

      place : 0 < u.k
      place = stand.places (as_opened u) (completed_is u there).comes.opened

      by : (test : Bool) → nat_lt j u.k ≡ test → r.answer.boot ≡ c.boot
      by true less =
          let low : j < u.k = ltb-true j u.k less in
          let d = past_it j u.k (omega (arith, low)) in
          one_boot j r.answer.boot c.boot (down d.0 j u.k r.answer.boot d.1 w.0 its) w.1
      by false least =
          let high : u.k ≤ j = ltb-false j u.k least in
          let d = past_it u.k j high in
          one_boot u.k r.answer.boot c.boot its (down d.0 u.k j c.boot d.1 place w.1)

  -- the completed statement to which an Answer was given
  pub answered_one : (a : Answer) → WasServed a → a.tag ≡ c.tag
      → (u : Unanswered) × Contains done u × (u.tag ≡ c.tag) × (u.k ≡ a.k)
  answered_one a w same =
      let e = w.asked.0 in
      let m = w.asked.1 in
      let to : e.to ≡ Shard 0 = (subst (MsgFollows (Gave now.sent told) begun told e.to) w.asked.3
      (All-contains (λ (x : Envelope). MsgFollows (Gave now.sent told) begun told x.to x.msg)
      now.sent e stand.sent w.asked.2)).0 in
      let fits : SentTo (IsPart chunks begun) e.to e.msg =
      All-contains (λ (x : Envelope). SentTo (IsPart chunks begun) x.to x.msg) now.sent e
      (all_parts chunks start run trace now h.fresh went) w.asked.2 in
      let part : IsPart chunks begun 0 m =
      subst (λ (x : NodeId). SentTo (IsPart chunks begun) x (msg.Statement m)) to
      (subst (SentTo (IsPart chunks begun) e.to) w.asked.3 fits) in
      let tag : part.statement.tag ≡ c.tag =
      sym part.tag ∙ sym w.asked.4.0 ∙ w.tag ∙ same in
      let r = commit_is.replied part.statement part.opened tag in
      let u = map_has answered_of done r.answer
      (subst (λ (l : List Answered). Contains l r.answer) told_is r.among) in
      let tags : u.0.tag ≡ r.answer.tag = ap (λ (x : Answered). x.tag) (sym u.2) in
      let places : u.0.k ≡ r.answer.k = ap (λ (x : Answered). x.k) (sym u.2) in
      let asked : m.k ≡ a.k = sym w.asked.4.1 ∙ w.k in
      let place : r.answer.k ≡ a.k = r.k ∙ sym part.k ∙ asked in
      (u.0, u.1, tags ∙ (r.tag ∙ tag), places ∙ place)
