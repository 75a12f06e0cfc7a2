-- What stands of one transaction at a shard that commits alone. Where it is committed, its session
-- says so, or has gone on; where the shard told that it is aborted, it isn't committed, and can't be
-- any more.
use Rattle.std.proofs.Common.{◌≡◌, ◌⊎◌, inl, inr, ◌≤◌, ◌<◌, ◌<ℤ◌, ◌++◌, ℕ, ℤ, Bool, true, false, List}
use Rattle.std.proofs.Common.{[], ◌∷◌, All, Option, Some, None, IfSome, int_lt, refl, sym, ap, subst}
use Rattle.std.proofs.Common.{◌∙◌, arith}
use Rattle.std.specs.Prelude.{Contains}
use Rattle.std.proofs.lemmas.Bool.{cases_order}
use Rattle.std.proofs.lemmas.Int.{ints}
use Rattle.std.proofs.lemmas.List.{append-nil, append_assoc}
use Rattle.std.proofs.lemmas.List.Elements.{All-cons, All-head, All-tail, All-contains}
use Rattle.std.proofs.lemmas.List.Elements.{Contains-append_cases, Contains-append_left}
use Rattle.std.proofs.lemmas.List.Elements.{Contains-append_right}
use Rattle.txn_types.specs.Letters.{Named, given_out}
use Rattle.txn_types.specs.Order.{same_lsid}
use Rattle.txn_types.specs.declared.cause.Cause.{Cause}
use Rattle.txn_types.specs.declared.decision.Told.TheVariants as told_as
use Rattle.txn_types.specs.declared.event.NodeAnswer.{NodeAnswer}
use Rattle.txn_types.specs.declared.event.NodeEvent.{NodeEvent}
use Rattle.txn_types.specs.declared.message.Commit.{Commit}
use Rattle.txn_types.specs.declared.message.Envelope.{Envelope}
use Rattle.txn_types.specs.declared.message.Msg.{Msg}
use Rattle.txn_types.specs.declared.message.Msg.TheVariants as msg
use Rattle.txn_types.specs.declared.message.Outcome.{Outcome}
use Rattle.txn_types.specs.declared.names.Tag.{Tag}
use Rattle.txn_types.specs.declared.node.Lsid.{Lsid}
use Rattle.txn_types.specs.declared.write.Write.{Write}
use Rattle.journal_rec.specs.declared.record.Rec.{Rec}
use Rattle.journal_rec.specs.declared.record.Rec.TheVariants as rec
use Rattle.session_table.specs.Sessions.{Table, session_of}
use Rattle.session_table.specs.declared.session.Session.{Session}
use Rattle.session_table.specs.declared.session.SessionState.{SessionState}
use Rattle.session_table.specs.declared.session.SessionState.TheVariants as state
use Rattle.participant.specs.Memory.{may_abort}
use Rattle.participant.specs.Part.{Part, session}
use Rattle.participant.proofs.Ends.{entry_elsewhere}
use Rattle.participant.proofs.Moving.{entry_here}
use Rattle.participant.proofs.Tags.{lsid_same}
use Rattle.shard_image.specs.Image.{Image, image_of, with_record}
use Rattle.shard_core.specs.State.{ShardState}
use Rattle.shard_core.specs.Core.{Room, CoreStep, core_step}
use Rattle.shard_core.specs.NodeStep.{NodeState, Appended, Failed, appends_of, ceiling_append}
use Rattle.shard_core.specs.NodeStep.{record_append, joined}
use Rattle.durable_laws.proofs.Facts.{image_append}
use Rattle.cluster_core.specs.Parts.{HasCome}
use Rattle.world_laws.proofs.Boots.{core_by}
use Rattle.world_laws.proofs.Naming.{nothing, one}
use Rattle.world_laws.proofs.Records.{records_step}
use Rattle.answer_laws.proofs.Lists.{has_first}
use Rattle.told_laws.proofs.Lists.{contained, only_one}
use Rattle.known_laws.specs.Known.{PartNamed}
use Rattle.known_laws.proofs.Sessions.{session_named}
use Rattle.decision_laws.proofs.Ageing.{Ages, Older, some_same}
use Rattle.decision_laws.proofs.Recorded.{Commits}
use Rattle.decision_laws.proofs.Saying.{Records, TellsAborted, HasNot, SaysOf, RecoverSays}
use Rattle.decision_laws.proofs.Saying.{is_aborted, HasAborted}
use Rattle.decision_laws.proofs.Steps.{StepSays, asked_by, AskedAs, OutTo, RecTo}

abbrev pub is_committed : SessionState → Bool
is_committed (state.Committed at) = true
is_committed other = false

-- Lists that a step of a node may leave.

abbrev Closes : (List Rec → Type 0) → List Rec → Type 0
Closes P y = (xs : List Rec) → P xs → P (xs ++ y)

joined_on : (P : List Rec → Type 0) (ys : List (List Rec)) → All (Closes P) ys → (xs : List Rec)
    → P xs → P (xs ++ joined ys)
joined_on P [] h xs k = subst P (sym (append-nil xs)) k
joined_on P (y ∷ ys) h xs k =
    subst P (append_assoc xs y (joined ys))
    (joined_on P ys (All-tail (Closes P) y ys h) (xs ++ y) (All-head (Closes P) y ys h xs k))

lists_step : (P : List Rec → Type 0) (old : NodeState) (o : CoreStep) (a : NodeAnswer)
    (new : NodeState) → All (Closes P) (appends_of o) → old.hand ≡ [] → P old.records
    → Appended old o a new ⊎ Failed old o a new → P new.records × P (new.records ++ new.hand)
lists_step P old o a new h none k (inl d) =
    let now : P new.records = subst P (sym d.records) (joined_on P (appends_of o) h old.records k) in
    let same : new.records ++ new.hand ≡ new.records =
    ap (λ (x : List Rec). new.records ++ x) (d.hand ∙ none) ∙ append-nil new.records in
    (now, subst P (sym same) now)
lists_step P old o a new h none k (inr f) =
    let lists = f.kept ++ f.lost ∷ f.rest in
    let all : All (Closes P) lists = subst (All (Closes P)) f.parted h in
    let front : All (Closes P) f.kept = contained (Closes P) f.kept (λ y there.
    All-contains (Closes P) lists y all (Contains-append_left f.kept (f.lost ∷ f.rest) y there)) in
    let last : Closes P f.lost = All-contains (Closes P) lists f.lost all
    (Contains-append_right f.kept (f.lost ∷ f.rest) f.lost (has_first f.lost f.rest)) in
    let now : P new.records = subst P (sym f.records) (joined_on P f.kept front old.records k) in
    (now, subst (λ (x : List Rec). P (new.records ++ x)) (sym f.hand) (last new.records now))

appends_close : (P : List Rec → Type 0) (c : Option ℕ) (r : Option Rec)
    → ((bound : ℕ) → Closes P (rec.Ceiling bound ∷ []))
    → IfSome r (λ x. Closes P (x ∷ [])) → All (Closes P) (ceiling_append c ++ record_append r)
appends_close P None None h k = nothing (Closes P)
appends_close P None (Some r) h k = one (Closes P) (r ∷ []) k
appends_close P (Some bound) None h k = one (Closes P) (rec.Ceiling bound ∷ []) (h bound)
appends_close P (Some bound) (Some r) h k =
    All-cons (Closes P) (rec.Ceiling bound ∷ []) ((r ∷ []) ∷ []) (h bound)
    (one (Closes P) (r ∷ []) k)

pub if_some : (P Q : Rec → Type 0) (r : Option Rec) → ((x : Rec) → P x → Q x) → IfSome r P → IfSome r Q
if_some P Q None f h = tt
if_some P Q (Some x) f h = f x h

not_under : (number mine own : ℤ) → mine ≡ number → number <ℤ own → int_lt mine own ≡ false → ⊥
not_under number mine own same up e = omega (arith, ints, same, up, e)

both_up : (a b c : ℤ) → a <ℤ b → b <ℤ c → a <ℤ c
both_up a b c h k = omega (arith, ints, h, k)

from_same : (a b c : ℤ) → b ≡ a → b <ℤ c → a <ℤ c
from_same a b c e h = omega (arith, ints, e, h)

to_same : (a b c : ℤ) → a <ℤ b → c ≡ b → a <ℤ c
to_same a b c h e = omega (arith, ints, h, e)

module _ (tag : Tag) (lsid : Lsid) (number : ℤ) where
  -- the session has the transaction in such a state, or a larger number
  abbrev pub HoldsIt : (SessionState → Bool) → Session → Type 0
  HoldsIt X s = (number <ℤ s.number) ⊎ ((s.tag ≡ tag) × (s.number ≡ number) × (X s.state ≡ true))

  abbrev pub Over : (SessionState → Bool) → Table → Type 0
  Over X table = (s : Session) × (session_of table lsid ≡ Some s) × HoldsIt X s

  -- a record commits it
  abbrev pub HasRec : List Rec → Type 0
  HasRec recs = (r : Rec) × Contains recs r × Commits tag r

  abbrev pub NoRec : Rec → Type 0
  NoRec r = Commits tag r → ⊥

  abbrev pub Keeps : List Rec → Type 0
  Keeps recs = HasRec recs → Over is_committed (image_of recs).sessions

  -- its tag names this session and number
  abbrev pub Its : Named → Type 0
  Its x = x.tag ≡ tag → (x.lsid ≡ lsid) × (x.number ≡ number)

  holds_on : (X : SessionState → Bool) → X state.Live ≡ false → (s t : Session) → Older s t
      → HoldsIt X s → HoldsIt X t
  holds_on X dead s t (inl same) h = subst (HoldsIt X) (sym same) h
  holds_on X dead s t (inr (inl up)) (inl h) = inl (both_up number s.number t.number h up)
  holds_on X dead s t (inr (inl up)) (inr h) = inl (from_same number s.number t.number h.1 up)
  holds_on X dead s t (inr (inr live)) (inl h) =
      inl (to_same number s.number t.number h live.2)
  holds_on X dead s t (inr (inr live)) (inr h) =
      let wrong : true ≡ false = sym h.2 ∙ ap X live.0 ∙ dead in cc

  pub over_on : (X : SessionState → Bool) → X state.Live ≡ false → (p q : Part) → Ages p q
      → Over X p.sessions → Over X q.sessions
  over_on X dead p q ages h =
      let a = ages lsid h.0 h.1 in
      (a.0, a.1, holds_on X dead h.0 a.0 a.2 h.2)

  -- What is recorded comes after it, or is its own.

  abbrev OnRec : Rec → Type 0
  OnRec (rec.Commit t l n read_at at writes) =
      l ≡ lsid → (number <ℤ n) ⊎ ((t ≡ tag) × (n ≡ number))
  OnRec other = Unit {0}

  at_own : (p : Part) (X : SessionState → Bool) → X state.Live ≡ false → Over X p.sessions
      → (l : Lsid) (own : Session) → session p l ≡ Some own → own.state ≡ state.Live → l ≡ lsid
      → number <ℤ own.number
  at_own p X dead over l own there live here =
      let same : Some over.0 ≡ Some own = sym over.1 ∙ ap (session p) (sym here) ∙ there in
      let own_is : over.0 ≡ own = some_same over.0 own same in
      elim (subst (HoldsIt X) own_is over.2) [
        | inl up ↦ up
        | inr h ↦ let wrong : true ≡ false = sym h.2 ∙ ap X live ∙ dead in cc
      ]

  after_it : (p q : Part) (m : Commit) (r : Rec) → Records p q m r → Over is_committed p.sessions
      → OnRec r
  after_it p q m r k over =
      subst OnRec (sym k.is) (λ here.
      inl (at_own p is_committed refl over m.lsid k.own k.there k.live here))

  record Own (q : Part) (m : Commit) (s : Session) : Type 0 where
    lsid_is : m.lsid ≡ lsid
    number_is : s.number ≡ number
    tag_is : s.tag ≡ tag

  own_rec : (p q : Part) (m : Commit) (r : Rec) (k : Records p q m r) → PartNamed Its p
      → Commits tag r → Own q m k.own
  own_rec p q m r k names c =
      let mine : k.own.tag ≡ tag = subst (Commits tag) k.is c in
      let named = session_named Its p m.lsid k.own k.there names mine in
      record { lsid_is = named.0; number_is = named.1; tag_is = mine }

  own_on : (p q : Part) (m : Commit) (r : Rec) → Records p q m r → PartNamed Its p → Commits tag r
      → OnRec r
  own_on p q m r k names c =
      let own = own_rec p q m r k names c in
      subst OnRec (sym k.is) (λ here. inr (own.tag_is, own.number_is))

  commit_case : (i : Image) (t : Tag) (l : Lsid) (n : ℤ) (read_at at : ℕ) (writes : List Write)
      (test : Bool) → same_lsid lsid l ≡ test → OnRec (rec.Commit t l n read_at at writes)
      → Over is_committed i.sessions
      → Over is_committed (with_record i (rec.Commit t l n read_at at writes)).sessions
  commit_case i t l n read_at at writes true is on over =
      let here : lsid ≡ l = lsid_same lsid l is in
      let new : Session = record { number = n; tag = t; state = state.Committed at } in
      let table = (with_record i (rec.Commit t l n read_at at writes)).sessions in (
        new,
        ap (session_of table) here ∙ entry_here l new i.sessions.entries,
        elim (on (sym here)) [ inl up ↦ inl up | inr same ↦ inr (same.0, same.1, refl) ],
      )
  commit_case i t l n read_at at writes false is on over =
      let new : Session = record { number = n; tag = t; state = state.Committed at } in
      (over.0, entry_elsewhere lsid l is new i.sessions.entries ∙ over.1, over.2)

  image_on : (p q : Part) (m : Commit) (r : Rec) → Records p q m r → OnRec r → (i : Image)
      → Over is_committed i.sessions → Over is_committed (with_record i r).sessions
  image_on p q m r k on i over =
      subst (λ (x : Rec). Over is_committed (with_record i x).sessions) (sym k.is)
      (commit_case i k.own.tag m.lsid k.own.number k.mine.read_at k.at k.mine.writes
      (same_lsid lsid m.lsid) refl (subst OnRec k.is on) over)

  image_own : (p q : Part) (m : Commit) (r : Rec) → Records p q m r → PartNamed Its p
      → Commits tag r → (i : Image) → Over is_committed (with_record i r).sessions
  image_own p q m r k names c i =
      let own = own_rec p q m r k names c in
      let x = rec.Commit k.own.tag m.lsid k.own.number k.mine.read_at k.at k.mine.writes in
      let new : Session = record {
        number = k.own.number;
        tag = k.own.tag;
        state = state.Committed k.at;
      } in
      subst (λ (y : Rec). Over is_committed (with_record i y).sessions) (sym k.is)
      ((
        new,
        ap (session_of (with_record i x).sessions) (sym own.lsid_is)
            ∙ entry_here m.lsid new i.sessions.entries,
        inr (own.tag_is, own.number_is, refl),
      ))

  -- What lists of records keep.

  module _ (p q : Part) (names : PartNamed Its p) where
    abbrev Asks : Rec → Type 0
    Asks r = (m : Commit) × Records p q m r

    abbrev Follows : Option Rec → List Rec → Type 0
    Follows r xs = Keeps xs × (HasRec xs → IfSome r OnRec)

    has_cases : (xs : List Rec) (y : Rec) → HasRec (xs ++ y ∷ []) → HasRec xs ⊎ Commits tag y
    has_cases xs y h =
        elim (Contains-append_cases xs (y ∷ []) h.0 h.1) [
          | inl there ↦ inl (h.0, there, h.2)
          | inr last ↦ inr (subst (Commits tag) (only_one y h.0 last) h.2)
        ]

    image_is : (xs : List Rec) (y : Rec) → image_of (xs ++ y ∷ []) ≡ with_record (image_of xs) y
    image_is xs y = image_append xs (y ∷ [])

    to_image : (xs : List Rec) (y : Rec) → Over is_committed (with_record (image_of xs) y).sessions
        → Over is_committed (image_of (xs ++ y ∷ [])).sessions
    to_image xs y h =
        subst (λ (i : Image). Over is_committed i.sessions) (sym (image_is xs y)) h

    ceiling_closes : (r : Option Rec) (bound : ℕ) → Closes (Follows r) (rec.Ceiling bound ∷ [])
    ceiling_closes r bound xs k = (
      λ h. elim (has_cases xs (rec.Ceiling bound) h) [
        | inl has ↦ to_image xs (rec.Ceiling bound) (k.0 has)
        | inr wrong ↦ absurd wrong
      ],
      λ h. elim (has_cases xs (rec.Ceiling bound) h) [ inl has ↦ k.1 has | inr wrong ↦ absurd wrong ],
    )

    record_closes : (r : Option Rec) → IfSome r Asks
        → IfSome r (λ x. Closes (Follows r) (x ∷ []))
    record_closes None h = tt
    record_closes (Some x) h = λ xs k. (
      λ has. elim (has_cases xs x has) [
        | inl was ↦
            to_image xs x (image_on p q h.0 x h.1 (k.1 was) (image_of xs) (k.0 was))
        | inr own ↦ to_image xs x (image_own p q h.0 x h.1 names own (image_of xs))
      ],
      λ has. elim (has_cases xs x has) [
        | inl was ↦ k.1 was
        | inr own ↦ own_on p q h.0 x h.1 names own
      ],
    )

    pub keeps_step : (old : NodeState) (o : CoreStep) (a : NodeAnswer) (new : NodeState)
        → IfSome o.rec Asks → old.hand ≡ [] → Keeps old.records
        → (HasRec old.records → Over is_committed p.sessions)
        → Appended old o a new ⊎ Failed old o a new
        → Keeps new.records × Keeps (new.records ++ new.hand)
    keeps_step old o a new asks none keeps over took =
        let both = lists_step (Follows o.rec) old o a new
        (appends_close (Follows o.rec) o.ceiling o.rec (ceiling_closes o.rec)
        (record_closes o.rec asks)) none
        ((
          keeps,
          λ has. if_some Asks OnRec o.rec (λ x k.
              after_it p q k.0 x k.1 (over has)) asks,
        )) took in
        (both.0.0, both.1.0)

  -- Its session, where the shard runs.

  left_it : (p q : Part) (m : Commit) (r : Rec) → Records p q m r → PartNamed Its p
      → Commits tag r → Over is_committed q.sessions
  left_it p q m r k names c =
      let own = own_rec p q m r k names c in (
        record { number = k.own.number; tag = k.own.tag; state = state.Committed k.at },
        ap (session q) (sym own.lsid_is) ∙ k.left,
        inr (own.tag_is, own.number_is, refl),
      )

  -- What was told.

  abbrev pub IsTold : List Envelope → Type 0
  IsTold sent = (e : Envelope) × (x : Outcome) × (why : Cause) × Contains sent e
      × (e.msg ≡ msg.Outcome x) × (x.tag ≡ tag) × (x.told ≡ told_as.Aborted why)

  module _ (boot : ℕ) where
    pub record Gone (n : NodeState) : Type 0 where
      pub records : All NoRec n.records
      pub hand : All NoRec n.hand
      pub past : (boot < n.core.part.boot)
          ⊎ ((boot ≡ n.core.part.boot) × Over is_aborted n.core.part.sessions)

    pub record Stood (sent : List Envelope) (n : NodeState) : Type 0 where
      pub kept : Keeps n.records
      pub with_hand : Keeps (n.records ++ n.hand)
      pub runs : n.core.stopped ≡ None → HasRec n.records
          → Over is_committed n.core.part.sessions
      pub gone : IsTold sent → Gone n

    -- what asks for its end names it so, in a boot in which it had come
    abbrev pub KnowsIt : Part → Type 0
    KnowsIt p = (boot ≤ p.boot) × (boot ≡ p.boot → HasCome p lsid number tag)

    abbrev pub AskedIt : Part → Msg → Type 0
    AskedIt p (msg.Commit m) =
        m.tag ≡ tag → (m.lsid ≡ lsid) × (m.number ≡ number) × (m.boot ≡ boot) × KnowsIt p
    AskedIt p (msg.Recover m) =
        m.tag ≡ tag → (m.lsid ≡ lsid) × (m.number ≡ number) × (m.boot ≡ boot) × KnowsIt p
    AskedIt p other = Unit {0}

    -- A step of a shard that runs.

    module _ (sent : List Envelope) (old : NodeState) (e : NodeEvent) (a : NodeAnswer)
        (new : NodeState) (room : Room)
        (run : old.core.stopped ≡ None) (none : old.hand ≡ [])
        (stood : Stood sent old)
        (says : StepSays Its old.core e.what (core_step room old.core e))
        (names : PartNamed Its old.core.part)
        (names_then : PartNamed Its (core_step room old.core e).core.part)
        (same_boot : (core_step room old.core e).core.part.boot ≡ old.core.part.boot)
        (asked : AskedIt old.core.part (asked_by e.what)) where
      abbrev o : CoreStep
      o = core_step room old.core e

      abbrev p : Part
      p = says.p

      abbrev q : Part
      q = o.core.part

      names_at : PartNamed Its p
      names_at = says.named names

      abbrev Asked : Rec → Type 0
      Asked r = (m : Commit) × (asked_by e.what ≡ msg.Commit m) × Records p q m r

      asks_case : (x : Msg) → asked_by e.what ≡ x → (r : Rec) → RecTo p q x r → Asked r
      asks_case (msg.Commit m) is r k = (m, is, k)
      asks_case other is r k = absurd k

      asks : IfSome o.rec Asked
      asks = if_some (RecTo p q (asked_by e.what)) Asked o.rec
          (λ r k. asks_case (asked_by e.what) refl r k) says.rec

      committed_at : HasRec old.records → Over is_committed p.sessions
      committed_at has = over_on is_committed refl old.core.part p says.enters (stood.runs run has)

      module _ (took : Appended old o a new ⊎ Failed old o a new) where
        keeps_then : Keeps new.records × Keeps (new.records ++ new.hand)
        keeps_then = keeps_step p q names_at old o a new
            (if_some Asked (λ r. (m : Commit) × Records p q m r) o.rec (λ r k. (k.0, k.2)) asks)
            none stood.kept committed_at took

        -- what it has then
        abbrev Left : Rec → Type 0
        Left r = Commits tag r → Over is_committed q.sessions

        left_all : All Left new.records
        left_all = (records_step Left old o a new (λ b wrong. absurd wrong)
            (if_some Asked Left o.rec (λ r k c. left_it p q k.0 r k.2 names_at c) asks)
            (contained Left old.records (λ r there c.
            over_on is_committed refl p q says.ages (committed_at (r, there, c))))
            (subst (All Left) (sym none) (nothing Left)) took).0

        over_then : HasRec new.records → Over is_committed new.core.part.sessions
        over_then has = core_by (λ (c : ShardState). Over is_committed c.part.sessions) old o a new
            (All-contains Left new.records has.0 left_all has.1 has.2)
            (λ stopped. All-contains Left new.records has.0 left_all has.1 has.2) took

        gone_then : All NoRec old.records → IfSome o.rec NoRec
            → (boot < q.boot) ⊎ ((boot ≡ q.boot) × Over is_aborted q.sessions) → Gone new
        gone_then before made past =
            let lists = records_step NoRec old o a new (λ b wrong. absurd wrong) made before
            (subst (All NoRec) (sym none) (nothing NoRec)) took in
            record {
              records = lists.0;
              hand = lists.1;
              past = core_by (λ (c : ShardState). (boot < c.part.boot)
                  ⊎ ((boot ≡ c.part.boot) × Over is_aborted c.part.sessions)) old o a new past
                  (λ stopped. past) took;
            }

      -- where it was told before

      asked_commit : (m : Commit) → asked_by e.what ≡ msg.Commit m → AskedIt old.core.part
          (msg.Commit m)
      asked_commit m is = subst (AskedIt old.core.part) is asked

      made_none : Gone old → IfSome o.rec NoRec
      made_none gone = if_some Asked NoRec o.rec (λ r k c. never r k.0 k.1 k.2 c gone.past) asks
        where
          never : (r : Rec) (m : Commit) → asked_by e.what ≡ msg.Commit m → Records p q m r
              → Commits tag r → (boot < old.core.part.boot)
              ⊎ ((boot ≡ old.core.part.boot) × Over is_aborted old.core.part.sessions) → ⊥
          never r m is k c past =
              let own = own_rec p q m r k names_at c in
              let to = asked_commit m is (sym k.tag_is ∙ own.tag_is) in
              let here : boot ≡ old.core.part.boot = sym to.2 ∙ k.boot ∙ says.boot in
              elim past [
                | inl less ↦ omega (arith, less, here)
                | inr h ↦ not_under number m.number k.own.number to.1
                    (at_own p is_aborted refl
                    (over_on is_aborted refl old.core.part p says.enters h.1) m.lsid k.own k.there
                    k.live own.lsid_is) k.under
              ]

      past_then : (boot < old.core.part.boot)
          ⊎ ((boot ≡ old.core.part.boot) × Over is_aborted old.core.part.sessions)
          → (boot < q.boot) ⊎ ((boot ≡ q.boot) × Over is_aborted q.sessions)
      past_then (inl less) = inl (subst (λ (b : ℕ). boot < b) (sym same_boot) less)
      past_then (inr h) = inr (
        h.0 ∙ sym same_boot,
        over_on is_aborted refl p q says.ages
            (over_on is_aborted refl old.core.part p says.enters h.1),
      )

      -- where it is told now

      tells_case : (y : Msg) (x : Outcome) (why : Cause) → AskedIt old.core.part y
          → AskedAs p q y x → x.tag ≡ tag → x.told ≡ told_as.Aborted why
          → TellsAborted p q lsid number tag × KnowsIt old.core.part
      tells_case (msg.Commit m) x why h k own is =
          let mine : m.tag ≡ tag = sym k.0 ∙ own in
          let to = h mine in
          let t : TellsAborted p q m.lsid m.number m.tag = subst (SaysOf p q m) is k.1 in (
            subst (λ (y : Tag). TellsAborted p q lsid number y) mine
                (subst (λ (y : ℤ). TellsAborted p q lsid y m.tag) to.1
                (subst (λ (y : Lsid). TellsAborted p q y m.number m.tag) to.0 t)),
            to.3,
          )
      tells_case (msg.Recover m) x why h k own is =
          let mine : m.tag ≡ tag = sym k.0 ∙ own in
          let to = h mine in
          let t : TellsAborted p q m.lsid m.number m.tag = subst (RecoverSays p q m) is k.1 in (
            subst (λ (y : Tag). TellsAborted p q lsid number y) mine
                (subst (λ (y : ℤ). TellsAborted p q lsid y m.tag) to.1
                (subst (λ (y : Lsid). TellsAborted p q y m.number m.tag) to.0 t)),
            to.3,
          )
      tells_case other x why h k own is = absurd k

      module _ (t : TellsAborted p q lsid number tag) (known : KnowsIt old.core.part) where
        not_both : (st : SessionState) → is_committed st ≡ true → may_abort st ≡ true → ⊥
        not_both state.Live h k = cc
        not_both (state.Prepared at coordinator) h k = cc
        not_both (state.Committed at) h k = cc
        not_both state.Released h k = cc
        not_both (state.Aborted why at) h k = cc

        none_before : HasRec old.records → ⊥
        none_before has =
            let over = committed_at has in
            let b = t.before over.0 over.1 in
            elim (over.2) [
              | inl up ↦ not_under number number over.0.number refl up b.0
              | inr h ↦ not_both over.0.state h.2 (b.1 h.0)
            ]

        none_made : IfSome o.rec NoRec
        unfolding left_it
        none_made = if_some Asked NoRec o.rec (λ r k c. by r k.0 k.2 c t.left) asks
          where
            by : (r : Rec) (m : Commit) → Records p q m r → Commits tag r
                → HasAborted q lsid tag ⊎ HasNot q lsid number tag → ⊥
            by r m k c (inl has) =
                let own = own_rec p q m r k names_at c in
                let new : Session = record {
                  number = k.own.number;
                  tag = k.own.tag;
                  state = state.Committed k.at;
                } in
                let same : new ≡ has.own = some_same new has.own
                (sym (ap (session q) (sym own.lsid_is) ∙ k.left) ∙ has.there) in
                let wrong : false ≡ true =
                ap (λ (s : Session). is_aborted s.state) same ∙ has.ended in cc
            by r m k c (inr hasnt) =
                let over = left_it p q m r k names_at c in
                let own = own_rec p q m r k names_at c in
                (hasnt over.0 over.1).1 own.tag_is

        come_on : (s u : Session) → Older s u → (s.tag ≡ tag → s.number ≡ number)
            → (s.tag ≡ tag) ⊎ (number <ℤ s.number) → (u.tag ≡ tag) ⊎ (number <ℤ u.number)
        come_on s u (inl same) own h =
            subst (λ (x : Session). (x.tag ≡ tag) ⊎ (number <ℤ x.number)) (sym same) h
        come_on s u (inr (inl up)) own (inl mine) =
            inr (from_same number s.number u.number (own mine) up)
        come_on s u (inr (inl up)) own (inr less) =
            inr (both_up number s.number u.number less up)
        come_on s u (inr (inr live)) own (inl mine) = inl (live.1 ∙ mine)
        come_on s u (inr (inr live)) own (inr less) =
            inr (to_same number s.number u.number less live.2)

        number_of : (x : Part) → PartNamed Its x → (s : Session) → session x lsid ≡ Some s
            → s.tag ≡ tag → s.number ≡ number
        number_of x all s there mine = (session_named Its x lsid s there all mine).1

        not_come : HasNot q lsid number tag → HasCome old.core.part lsid number tag → ⊥
        not_come hasnt come =
            let a = says.enters lsid come.0 come.1 in
            let at = come_on come.0 a.0 a.2
            (number_of old.core.part names come.0 come.1) come.2 in
            let b = says.ages lsid a.0 a.1 in
            let last = come_on a.0 b.0 b.2 (number_of p names_at a.0 a.1) at in
            let k = hasnt b.0 b.1 in
            elim last [
              | inl mine ↦ k.1 mine
              | inr up ↦ not_under number number b.0.number refl up k.0
            ]

        low : boot ≤ q.boot
        low = subst (λ (b : ℕ). boot ≤ b) (sym same_boot) known.0

        past_now : (boot < q.boot) ⊎ ((boot ≡ q.boot) × Over is_aborted q.sessions)
        past_now = by t.left (cases_order boot q.boot)
          where
            by : HasAborted q lsid tag ⊎ HasNot q lsid number tag
                → (boot ≡ q.boot) ⊎ ((boot < q.boot) ⊎ (q.boot < boot))
                → (boot < q.boot) ⊎ ((boot ≡ q.boot) × Over is_aborted q.sessions)
            by (inl has) (inl here) = inr (
              here,
              (
                has.own,
                has.there,
                inr (
                  has.tag_is,
                  number_of q names_then has.own has.there has.tag_is,
                  has.ended,
                ),
              ),
            )
            by (inr hasnt) (inl here) =
                absurd (not_come hasnt (known.1 (here ∙ same_boot)))
            by left (inr (inl less)) = inl less
            by left (inr (inr up)) = let le = low in absurd (omega (arith, le, up))

      new_told : (took : Appended old o a new ⊎ Failed old o a new) → (x : Envelope) (y : Outcome)
          (why : Cause) → Contains (given_out a) x → x.msg ≡ msg.Outcome y → y.tag ≡ tag
          → y.told ≡ told_as.Aborted why → Gone new
      new_told (inl d) x y why there is own told =
          let among : Contains (given_out o.answer) x =
          subst (λ (b : NodeAnswer). Contains (given_out b) x) d.told there in
          let out : OutTo p q (asked_by e.what) x.msg =
          All-contains (λ (z : Envelope). OutTo p q (asked_by e.what) z.msg)
          (given_out o.answer) x says.out among in
          let meant : AskedAs p q (asked_by e.what) y = subst (OutTo p q (asked_by e.what)) is out in
          let both = tells_case (asked_by e.what) y why asked meant own told in
          gone_then (inl d) (contained NoRec old.records (λ r in_it c.
          none_before both.0 both.1 (r, in_it, c)))
          (none_made both.0 both.1) (past_now both.0 both.1)
      new_told (inr f) x y why there is own told =
          let no : Contains [] x =
          subst (λ (b : NodeAnswer). Contains (given_out b) x) f.told there in
          absurd (omega (arith, no.1))

      pub step_stood : Appended old o a new ⊎ Failed old o a new → Stood (sent ++ given_out a) new
      step_stood took =
          let keeps = keeps_then took in
          record {
            kept = keeps.0;
            with_hand = keeps.1;
            runs = λ still has. over_then took has;
            gone = λ t. elim (Contains-append_cases sent (given_out a) t.0 t.3) [
              | inl was ↦
                  let gone = stood.gone (t.0, t.1, t.2, was, t.4, t.5, t.6) in
                  gone_then took gone.records (made_none gone) (past_then gone.past)
              | inr now ↦ new_told took t.0 t.1 t.2 now t.4 t.5 t.6
            ];
          }
