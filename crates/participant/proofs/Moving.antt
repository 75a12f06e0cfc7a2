-- A part of which one session changes stands as it should.
use Rattle.std.proofs.Common.{◌≡◌, ℕ, Bool, true, false, cond, not, List, [], ◌∷◌, ◌++◌, filter}
use Rattle.std.proofs.Common.{Option, Some, None, IsSome, IsSomeAnd, IfSome, find, map, option_map}
use Rattle.std.proofs.Common.{refl, ap, subst, ◌∙◌, sym}
use Rattle.txn_types.specs.BySession.{BySession, entry_of, with_entry}
use Rattle.txn_types.specs.Order.{same_tag, same_lsid, lsid_cmp}
use Rattle.txn_types.specs.declared.cause.Cause.{Cause}
use Rattle.txn_types.specs.declared.decision.Decision.{Decision}
use Rattle.txn_types.specs.declared.decision.Decision.TheVariants as decision
use Rattle.txn_types.specs.declared.message.Decide.{Decide}
use Rattle.txn_types.specs.declared.names.Tag.{Tag}
use Rattle.txn_types.specs.declared.node.Lsid.{Lsid}
use Rattle.txn_types.specs.declared.write.Write.{Write}
use Rattle.txn_types.proofs.Orders.{lsid_total, lsid_exact}
use Rattle.txn_semantics.specs.Keyed.{taken_out, Rises}
use Rattle.txn_semantics.specs.Writes.{place_of}
use Rattle.session_table.specs.Sessions.{Table, with_state, commit_time, state_behind, prepared_at}
use Rattle.session_table.specs.declared.session.Session.{Session}
use Rattle.session_table.specs.declared.session.SessionState.{SessionState}
use Rattle.session_table.specs.declared.session.SessionState.TheVariants as state
use Rattle.version_store.specs.declared.version.Stamp.TheVariants as stamp
use Rattle.version_store.specs.Versions.{Versions, keys_of, dropped, stamped, decided}
use Rattle.version_store.specs.declared.version.Pending.{Pending}
use Rattle.participant.specs.declared.said.Open.{Open}
use Rattle.participant.specs.Part.{Part, session, open_of, is_open, ended, aborted, end_live}
use Rattle.participant.specs.Part.{ends_live, without_pending}
use Rattle.participant.specs.Decide.{decided_part}
use Rattle.participant.specs.Laws.{ChangesOnly}
use Rattle.participant.specs.Stands.{StateAt, SessionAt, Stands, IsClosed, newest_keys}
use Rattle.participant.specs.Stands.{pending_keys, pending_of, has_written, has_writes}
use Rattle.participant.proofs.Ends.{ended_changes}
use Rattle.version_store.proofs.Keyed.{found}
use Rattle.participant.proofs.Forgotten.{keys_pushed, keys_beside, keys_left, nothing_taken}
use Rattle.participant.proofs.Keys.{keys_dropped, keys_stamped, keys_restamped}
use Rattle.participant.proofs.Ordered.{taken_none}
use Rattle.participant.proofs.Tags.{tag_flip, tag_same, tag_self, lsid_self, lsid_same, lsid_flip}
use Rattle.participant.proofs.Written.{keys_gone, keys_committed, keys_decided}

-- the keys of an open transaction are as they were
abbrev SameKeys : Versions → Versions → Option Session → Type 0
SameKeys old new s = (t : Session) → s ≡ Some t → is_open t.state ≡ true
    → keys_of t.tag new ≡ keys_of t.tag old

state_kept : (old new : Versions) (s : Session) (st : SessionState) (o : Option Open)
    → (is_open st ≡ true → keys_of s.tag new ≡ keys_of s.tag old) → StateAt old s st o
    → StateAt new s st o
state_kept old new s state.Live None same h = h
state_kept old new s state.Live (Some o) same h = (h.0, h.1 ∙ sym (same refl))
state_kept old new s (state.Prepared at coordinator) o same h = h
state_kept old new s (state.Committed at) o same h = h
state_kept old new s state.Released o same h = h
state_kept old new s (state.Aborted why read_at) o same h = h

session_kept : (old new : Versions) (s : Option Session) (o : Option Open) → SameKeys old new s
    → SessionAt old s o → SessionAt new s o
session_kept old new None o same h = h
session_kept old new (Some s) o same h = state_kept old new s s.state o (same s refl) h

-- what the change of one session has to keep
pub record Moves (lsid : Lsid) (p q : Part) : Type 0 where
  pub others : ChangesOnly lsid p q
  pub mine : SessionAt q.store (session q lsid) (open_of q lsid)
  pub keys : (x : Lsid) (t : Session) → same_lsid x lsid ≡ false → session p x ≡ Some t
      → is_open t.state ≡ true → keys_of t.tag q.store ≡ keys_of t.tag p.store
  pub pending : (x : Lsid) (t : Session) → same_lsid x lsid ≡ false → session p x ≡ Some t
      → is_open t.state ≡ true → pending_keys q t.tag ≡ pending_keys p t.tag
  pub prepared : (s : Session) (at coordinator : ℕ) → session q lsid ≡ Some s
      → s.state ≡ state.Prepared at coordinator → pending_keys q s.tag ≡ keys_of s.tag q.store
  pub apart : (x : Lsid) (s t : Session) → same_lsid x lsid ≡ false → session q lsid ≡ Some s
      → session p x ≡ Some t → is_open s.state ≡ true → is_open t.state ≡ true
      → same_tag s.tag t.tag ≡ false
  pub owned : (tag : Tag) → IsClosed q tag → keys_of tag q.store ≡ []

sessions_case : (lsid : Lsid) (p q : Part) (x : Lsid) (b : Bool) → same_lsid x lsid ≡ b → Stands p
    → Moves lsid p q → SessionAt q.store (session q x) (open_of q x)
sessions_case lsid p q x true is stands moves = subst (λ l. SessionAt q.store (session q l)
    (open_of q l)) (sym (lsid_same x lsid is)) moves.mine
sessions_case lsid p q x false is stands moves =
    subst (λ s. SessionAt q.store s (open_of q x)) (sym (moves.others.sessions x is))
    (subst (λ o. SessionAt q.store (session p x) o) (sym (moves.others.live x is))
    (session_kept p.store q.store (session p x) (open_of p x) (λ t here. moves.keys x t is here)
    (stands.sessions x)))

apart_case : (lsid : Lsid) (p q : Part) (a b : Lsid) (s t : Session) (x y : Bool)
    → same_lsid a lsid ≡ x → same_lsid b lsid ≡ y → Stands p → Moves lsid p q
    → session q a ≡ Some s → session q b ≡ Some t → is_open s.state ≡ true → is_open t.state ≡ true
    → same_tag s.tag t.tag ≡ true → same_lsid a b ≡ true
apart_case lsid p q a b s t true true ha hb stands moves hs ht so to same =
    subst (λ l. same_lsid l b ≡ true) (sym (lsid_same a lsid ha)) (lsid_flip lsid b ∙ hb)
apart_case lsid p q a b s t true false ha hb stands moves hs ht so to same =
    let here : session q lsid ≡ Some s =
    subst (λ l. session q l ≡ Some s) (lsid_same a lsid ha) hs in
    let wrong : true ≡ false = sym same
    ∙ moves.apart b s t hb here (sym (moves.others.sessions b hb) ∙ ht) so to in
    cc
apart_case lsid p q a b s t false true ha hb stands moves hs ht so to same =
    let here : session q lsid ≡ Some t =
    subst (λ l. session q l ≡ Some t) (lsid_same b lsid hb) ht in
    let wrong : true ≡ false = sym same ∙ tag_flip s.tag t.tag
    ∙ moves.apart a t s ha here (sym (moves.others.sessions a ha) ∙ hs) to so in
    cc
apart_case lsid p q a b s t false false ha hb stands moves hs ht so to same =
    stands.apart a b s t (sym (moves.others.sessions a ha) ∙ hs)
    (sym (moves.others.sessions b hb) ∙ ht) so to same

prepared_open : (st : SessionState) (at coordinator : ℕ) → st ≡ state.Prepared at coordinator
    → is_open st ≡ true
prepared_open st at coordinator is = ap is_open is

pending_case : (lsid : Lsid) (p q : Part) (x : Lsid) (b : Bool) (s : Session) (at coordinator : ℕ)
    → same_lsid x lsid ≡ b → Stands p → Moves lsid p q
    → session q x ≡ Some s → s.state ≡ state.Prepared at coordinator
    → pending_keys q s.tag ≡ keys_of s.tag q.store
pending_case lsid p q x true s at coordinator is stands moves there prepared =
    moves.prepared s at coordinator
    (subst (λ l. session q l ≡ Some s) (lsid_same x lsid is) there) prepared
pending_case lsid p q x false s at coordinator is stands moves there prepared =
    let before : session p x ≡ Some s = sym (moves.others.sessions x is) ∙ there in
    let so : is_open s.state ≡ true = prepared_open s.state at coordinator prepared in
    moves.pending x s is before so ∙ stands.pending x s at coordinator before prepared
    ∙ sym (moves.keys x s is before so)

pub moved : (lsid : Lsid) (p q : Part) → Stands p → Moves lsid p q → Stands q
moved lsid p q stands moves = record {
  sessions = λ x. sessions_case lsid p q x (same_lsid x lsid) refl stands moves;
  pending = λ x s at coordinator. pending_case lsid p q x (same_lsid x lsid) s at coordinator refl
      stands moves;
  apart = λ a b s t. apart_case lsid p q a b s t (same_lsid a lsid) (same_lsid b lsid) refl refl
      stands moves;
  owned = moves.owned;
}

-- a tag that no session has open after the change, and not the session that changes before it, no
-- session had open
closed_case : (lsid : Lsid) (p q : Part) (tag : Tag) (x : Lsid) (t : Session) (b : Bool)
    → same_lsid x lsid ≡ b → ChangesOnly lsid p q → IsClosed q tag → ((s : Session)
    → session p lsid ≡ Some s → is_open s.state ≡ true → same_tag s.tag tag ≡ false)
    → session p x ≡ Some t → is_open t.state ≡ true → same_tag t.tag tag ≡ false
closed_case lsid p q tag x t true is changes closed own there still =
    own t (subst (λ l. session p l ≡ Some t) (lsid_same x lsid is) there) still
closed_case lsid p q tag x t false is changes closed own there still =
    closed x t (changes.sessions x is ∙ there) still

pub closed_before : (lsid : Lsid) (p q : Part) (tag : Tag) → ChangesOnly lsid p q
    → IsClosed q tag → ((s : Session) → session p lsid ≡ Some s → is_open s.state ≡ true
    → same_tag s.tag tag ≡ false) → IsClosed p tag
closed_before lsid p q tag changes closed own x t there still =
    closed_case lsid p q tag x t (same_lsid x lsid) refl changes closed own there still

-- the session that stands there
pub one_session : (p : Part) (lsid : Lsid) (s t : Session) → session p lsid ≡ Some s
    → session p lsid ≡ Some t → s ≡ t
one_session p lsid s t hs ht = let same : Some s ≡ Some t = sym hs ∙ ht in cc

-- The session that changes.

entry_case : {A : Type 0} (lsid : Lsid) (a : A) (entry : Lsid × A) (entries : BySession A)
    (b : Bool) → same_lsid lsid entry.0 ≡ b → entry_of lsid (with_entry lsid a entries) ≡ Some a
    → entry_of lsid (cond b ((lsid, a) ∷ entries) (entry ∷ with_entry lsid a entries)) ≡ Some a
entry_case {A} lsid a entry entries true is more =
    ap (λ b. option_map (λ (entry : Lsid × A). entry.1) (cond b (Some (lsid, a))
    (find (λ (entry : Lsid × A). same_lsid lsid entry.0) entries))) (lsid_self lsid)
entry_case {A} lsid a entry entries false is more =
    ap (λ b. option_map (λ (entry : Lsid × A). entry.1) (cond b (Some entry)
    (find (λ (entry : Lsid × A). same_lsid lsid entry.0) (with_entry lsid a entries)))) is ∙ more

pub entry_here : {A : Type 0} (lsid : Lsid) (a : A) (entries : BySession A)
    → entry_of lsid (with_entry lsid a entries) ≡ Some a
entry_here {A} lsid a [] = ap (λ b. option_map (λ (entry : Lsid × A). entry.1)
    (cond b (Some (lsid, a)) None)) (lsid_self lsid)
entry_here lsid a (entry ∷ entries) =
    entry_case lsid a entry entries (same_lsid lsid entry.0) refl (entry_here lsid a entries)

-- two sessions with open transactions have two tags
pub of_two : (p : Part) (lsid x : Lsid) (s t : Session) → Stands p → session p lsid ≡ Some s
    → is_open s.state ≡ true → same_lsid x lsid ≡ false → session p x ≡ Some t
    → is_open t.state ≡ true → same_tag t.tag s.tag ≡ false
of_two p lsid x s t stands hs so other ht to = apart_from (same_tag t.tag s.tag) refl
  where
    apart_from : (b : Bool) → same_tag t.tag s.tag ≡ b → b ≡ false
    apart_from true h = let wrong : true ≡ false = sym (stands.apart x lsid t s ht hs to so h)
        ∙ other in cc
    apart_from false h = refl

-- What ends a transaction.

pub closed_at : (store : Versions) (s : Session) (st : SessionState) (o : Option Open)
    → is_open st ≡ false → o ≡ None → StateAt store s st o
closed_at store s state.Live o closed none = let wrong : true ≡ false = closed in cc
closed_at store s (state.Prepared at coordinator) o closed none = none
closed_at store s (state.Committed at) o closed none = none
closed_at store s state.Released o closed none = none
closed_at store s (state.Aborted why read_at) o closed none = none

pub none_live : (p : Part) (lsid : Lsid) → Rises lsid_cmp p.live
    → entry_of lsid (taken_out lsid_cmp lsid p.live) ≡ None
none_live p lsid r = sym (found lsid_cmp lsid (taken_out lsid_cmp lsid p.live))
    ∙ taken_none lsid_cmp lsid_total lsid_exact lsid p.live r

-- nobody's versions stand after the end of a transaction whose own are gone
owned_case : (p q : Part) (store : Versions) (lsid : Lsid) (s : Session) (tag : Tag) (b : Bool)
    → same_tag tag s.tag ≡ b → Stands p → ChangesOnly lsid p q → session p lsid ≡ Some s
    → keys_of s.tag store ≡ []
    → ((other : Tag) → same_tag other s.tag ≡ false → keys_of other store ≡ keys_of other p.store)
    → IsClosed q tag → keys_of tag store ≡ []
owned_case p q store lsid s tag true is stands changes there own rest closed =
    ap (λ (t : Tag). keys_of t store) (tag_same tag s.tag is) ∙ own
owned_case p q store lsid s tag false is stands changes there own rest closed =
    rest tag is
    ∙ stands.owned tag (closed_before lsid p q tag changes closed
    (λ t here still. ap (λ (u : Session). same_tag u.tag tag)
    (one_session p lsid t s here there) ∙ tag_flip s.tag tag ∙ is))

pub ended_stands : (p : Part) (store : Versions) (lsid : Lsid) (s : Session) (st : SessionState)
    → Stands p → Rises lsid_cmp p.live → is_open st ≡ false → session p lsid ≡ Some s
    → is_open s.state ≡ true → keys_of s.tag store ≡ []
    → ((other : Tag) → same_tag other s.tag ≡ false → keys_of other store ≡ keys_of other p.store)
    → Stands (ended (record p { store = store }) lsid s st)
ended_stands p store lsid s st stands r closed there so own rest =
    let now : Session = record { number = s.number; tag = s.tag; state = st } in
    let q : Part = ended (record p { store = store }) lsid s st in
    let here : session q lsid ≡ Some now = entry_here lsid now p.sessions.entries in
    moved lsid p q stands
    (record {
      others = ended_changes lsid p store s st;
      mine = subst (λ o. SessionAt store o (open_of q lsid)) (sym here) (closed_at store now st
          (open_of q lsid) closed (none_live p lsid r));
      keys = λ x t other ht to. rest t.tag (of_two p lsid x s t stands there so other ht to);
      pending = λ x t other ht to. refl;
      prepared = λ u at coordinator hu prepared.
          let same : Some now ≡ Some u = sym here ∙ hu in
          let one : now ≡ u = cc in
          let wrong : true ≡ false = sym (prepared_open u.state at coordinator prepared)
          ∙ ap (λ (v : Session). is_open v.state) (sym one) ∙ closed in
          cc;
      apart = λ x u t other hu ht uo to.
          let same : Some now ≡ Some u = sym here ∙ hu in
          let one : now ≡ u = cc in
          let wrong : true ≡ false = sym uo
          ∙ ap (λ (v : Session). is_open v.state) (sym one) ∙ closed in
          cc;
      owned = λ tag shut. owned_case p q store lsid s tag (same_tag tag s.tag) refl stands
          (ended_changes lsid p store s st) there own rest shut;
    })

-- a live transaction ends with a cause
pub record Ending (p : Part) (lsid : Lsid) (why : Cause) (o : Open) : Type 0 where
  pub keys : map place_of o.writes ≡ keys_of o.tag p.store
  pub there : IsSome (session p lsid)
  pub gives : (table : Table) (live : List (Lsid × Open)) (store : Versions)
      → IfSome (session p lsid) (λ s. table ≡ with_state p.sessions lsid s (state.Aborted why 0))
      → live ≡ taken_out lsid_cmp lsid p.live → store ≡ dropped o.tag p.store
      → record p { sessions = table; live = live; store = store } ≡ end_live p lsid why
  pub stands : Stands (end_live p lsid why)

live_state : (p : Part) (s : Session) (o : Open) (st : SessionState)
    → st ≡ state.Live → StateAt p.store s st (Some o)
    → (o.tag ≡ s.tag) × (map place_of o.writes ≡ keys_of s.tag p.store)
live_state p s o st is h = subst (λ x. StateAt p.store s x (Some o)) is h

is_live_open : (st : SessionState) → st ≡ state.Live → is_open st ≡ true
is_live_open st is = ap is_open is

pub made : (p : Part) (table table2 : Table) (live live2 : List (Lsid × Open))
    (store store2 : Versions) → table ≡ table2 → live ≡ live2 → store ≡ store2
    → (let a : Part = record p { sessions = table; live = live; store = store } in a)
    ≡ (let b : Part = record p { sessions = table2; live = live2; store = store2 } in b)
made p table table2 live live2 store store2 a b c =
    ap (λ (t : Table). let x : Part = record p { sessions = t; live = live; store = store } in x) a
    ∙ ap (λ (l : List (Lsid × Open)). let x : Part =
    record p { sessions = table2; live = l; store = store } in x) b
    ∙ ap (λ (v : Versions). let x : Part =
    record p { sessions = table2; live = live2; store = v } in x) c

ending_case : (p : Part) (lsid : Lsid) (why : Cause) (o : Open) (found_there : Option Session)
    → session p lsid ≡ found_there → Stands p → Rises lsid_cmp p.live
    → IsSomeAnd found_there (λ s. s.state ≡ state.Live) → Some o ≡ open_of p lsid
    → Ending p lsid why o
ending_case p lsid why o None is stands r live mine = absurd live
ending_case p lsid why o (Some s) is stands r live mine =
    let at : SessionAt p.store (Some s) (Some o) = subst (λ x. SessionAt p.store (Some s) x)
    (sym mine) (subst (λ x. SessionAt p.store x (open_of p lsid)) is (stands.sessions lsid)) in
    let both = live_state p s o s.state live at in
    let so : is_open s.state ≡ true = is_live_open s.state live in
    let told : end_live p lsid why ≡ aborted p lsid s why = ap (ends_live p lsid why) is in
    record {
      keys = both.1 ∙ ap (λ tag. keys_of tag p.store) (sym both.0);
      there = subst IsSome (sym is) refl;
      gives = λ table live store ht hl hs.
          let table_is : table ≡ with_state p.sessions lsid s (state.Aborted why 0) = subst (λ x.
          IfSome x (λ s. table ≡ with_state p.sessions lsid s (state.Aborted why 0))) is ht in
          made p table (with_state p.sessions lsid s (state.Aborted why 0)) live
          (taken_out lsid_cmp lsid p.live) store (dropped s.tag p.store) table_is hl
          (hs ∙ ap (λ tag. dropped tag p.store) both.0)
          ∙ sym told;
      stands = subst Stands (sym told) (ended_stands p (dropped s.tag p.store) lsid
          s (state.Aborted why 0) stands r refl is so (keys_gone s.tag p.store)
          (λ other apart. keys_dropped s.tag other p.store apart));
    }

pub ending : (p : Part) (lsid : Lsid) (why : Cause) (o : Open) → Stands p → Rises lsid_cmp p.live
    → IsSomeAnd (session p lsid) (λ s. s.state ≡ state.Live) → Some o ≡ open_of p lsid
    → Ending p lsid why o
ending p lsid why o stands r live mine =
    ending_case p lsid why o (session p lsid) refl stands r live mine

-- a live transaction has something here
has_none : (p : Part) (lsid : Lsid) (found_there : Option Session) → session p lsid ≡ found_there
    → Stands p → IsSomeAnd found_there (λ s. s.state ≡ state.Live) → None ≡ open_of p lsid → ⊥
has_none p lsid None is stands live none = live
has_none p lsid (Some s) is stands live none =
    subst (λ x. StateAt p.store s x None) live (subst (λ x. SessionAt p.store (Some s) x) (sym none)
    (subst (λ x. SessionAt p.store x (open_of p lsid)) is (stands.sessions lsid)))

pub has_something : (p : Part) (lsid : Lsid) → Stands p
    → IsSomeAnd (session p lsid) (λ s. s.state ≡ state.Live) → None ≡ open_of p lsid → ⊥
has_something p lsid stands live none = has_none p lsid (session p lsid) refl stands live none

-- What a live transaction has, as its session says.

live_case : (p : Part) (lsid : Lsid) (o : Open) (found_there : Option Session) (s : Session)
    → session p lsid ≡ found_there → found_there ≡ Some s → Stands p
    → IsSomeAnd found_there (λ s. s.state ≡ state.Live) → Some o ≡ open_of p lsid
    → (s.state ≡ state.Live) × (o.tag ≡ s.tag) × (map place_of o.writes ≡ keys_of s.tag p.store)
live_case p lsid o None s is there stands live mine = absurd live
live_case p lsid o (Some t) s is there stands live mine =
    let same : t ≡ s = cc in
    let at : SessionAt p.store (Some t) (Some o) = subst (λ x. SessionAt p.store (Some t) x)
    (sym mine) (subst (λ x. SessionAt p.store x (open_of p lsid)) is (stands.sessions lsid)) in
    let both = live_state p t o t.state live at in (
      ap (λ (u : Session). u.state) (sym same) ∙ live,
      both.0 ∙ ap (λ (u : Session). u.tag) same,
      both.1 ∙ ap (λ (u : Session). keys_of u.tag p.store) same,
    )

pub live_has : (p : Part) (lsid : Lsid) (o : Open) (s : Session) → session p lsid ≡ Some s
    → Stands p → IsSomeAnd (session p lsid) (λ s. s.state ≡ state.Live) → Some o ≡ open_of p lsid
    → (s.state ≡ state.Live) × (o.tag ≡ s.tag) × (map place_of o.writes ≡ keys_of s.tag p.store)
live_has p lsid o s is stands live mine =
    live_case p lsid o (session p lsid) s refl is stands live mine

there_case : (found_there : Option Session) → IsSomeAnd found_there (λ s. s.state ≡ state.Live)
    → (s : Session) × (found_there ≡ Some s) × (s.state ≡ state.Live)
there_case None live = absurd live
there_case (Some s) live = (s, refl, live)

-- the session of a live transaction
pub live_there : (p : Part) (lsid : Lsid) → IsSomeAnd (session p lsid) (λ s. s.state ≡ state.Live)
    → (s : Session) × (session p lsid ≡ Some s) × (s.state ≡ state.Live)
live_there p lsid live = there_case (session p lsid) live

-- a session that is there
pub if_there : {A : Type 0} (P : A → Type 0) (o : Option A) (a : A) → o ≡ Some a → IfSome o P → P a
if_there P o a is h = subst (λ x. IfSome x P) is h

-- An end of a session's live transaction, with these versions.
pub ended_by : (p : Part) (lsid : Lsid) (s : Session) (st : SessionState) (table : Table)
    (live : List (Lsid × Open)) (store : Versions) → Stands p → Rises lsid_cmp p.live
    → is_open st ≡ false → session p lsid ≡ Some s → is_open s.state ≡ true
    → IfSome (session p lsid) (λ s. table ≡ with_state p.sessions lsid s st)
    → live ≡ taken_out lsid_cmp lsid p.live → keys_of s.tag store ≡ []
    → ((other : Tag) → same_tag other s.tag ≡ false → keys_of other store ≡ keys_of other p.store)
    → Stands (record p { sessions = table; live = live; store = store })
ended_by p lsid s st table live store stands r closed is so ht hl own rest =
    let table_is : table ≡ with_state p.sessions lsid s st = if_there (λ (s : Session). table
    ≡ with_state p.sessions lsid s st) (session p lsid) s is ht in
    subst Stands (sym (made p table (with_state p.sessions lsid s st) live
    (taken_out lsid_cmp lsid p.live) store store table_is hl refl))
    (ended_stands p store lsid s st stands r closed is so own rest)

no_write : (writes : List Write) → has_written writes ≡ false → writes ≡ []
no_write [] h = refl
no_write (write ∷ writes) h = cc

no_keys_case : (store : Versions) (s : Session) (o : Option Open) → StateAt store s state.Live o
    → has_writes o ≡ false → keys_of s.tag store ≡ []
no_keys_case store s None at none = absurd at
no_keys_case store s (Some o) at none = sym at.1 ∙ ap (map place_of) (no_write o.writes none)

-- one that wrote nothing has no versions
no_keys : (p : Part) (lsid : Lsid) (s : Session) → Stands p → session p lsid ≡ Some s
    → s.state ≡ state.Live → has_writes (open_of p lsid) ≡ false → keys_of s.tag p.store ≡ []
no_keys p lsid s stands there live none =
    let had : SessionAt p.store (Some s) (open_of p lsid) =
    subst (λ x. SessionAt p.store x (open_of p lsid)) there (stands.sessions lsid) in
    no_keys_case p.store s (open_of p lsid)
    (subst (λ st. StateAt p.store s st (open_of p lsid)) live had) none

-- it ends without a write
pub released : (p : Part) (lsid : Lsid) (table : Table) (live : List (Lsid × Open)) → Stands p
    → Rises lsid_cmp p.live → IsSomeAnd (session p lsid) (λ s. s.state ≡ state.Live)
    → has_writes (open_of p lsid) ≡ false
    → IfSome (session p lsid) (λ s. table ≡ with_state p.sessions lsid s state.Released)
    → live ≡ taken_out lsid_cmp lsid p.live
    → Stands (record p { sessions = table; live = live })
released p lsid table live stands r is_live none ht hl =
    let there = live_there p lsid is_live in
    ended_by p lsid there.0 state.Released table live p.store stands
    r refl there.1 (is_live_open there.0.state there.2) ht hl
    (no_keys p lsid there.0 stands there.1 there.2 none) (λ other apart. refl)

-- it commits
pub committed : (p : Part) (lsid : Lsid) (o : Open) (at : ℕ) (table : Table)
    (live : List (Lsid × Open)) (store : Versions) → Stands p → Rises lsid_cmp p.live
    → IsSomeAnd (session p lsid) (λ s. s.state ≡ state.Live) → Some o ≡ open_of p lsid
    → IfSome (session p lsid) (λ s. table ≡ with_state p.sessions lsid s (state.Committed at))
    → live ≡ taken_out lsid_cmp lsid p.live → store ≡ stamped o.tag (stamp.At at) p.store
    → Stands (record p { sessions = table; live = live; store = store })
committed p lsid o at table live store stands r is_live mine ht hl hs =
    let there = live_there p lsid is_live in
    let has = live_has p lsid o there.0 there.1 stands is_live mine in
    let so : is_open there.0.state ≡ true = is_live_open there.0.state there.2 in
    let store_is : store ≡ stamped there.0.tag (stamp.At at) p.store = hs
    ∙ ap (λ tag. stamped tag (stamp.At at) p.store) has.1 in
    ended_by p lsid there.0 (state.Committed at) table live store stands r refl there.1 so ht hl
    (ap (keys_of there.0.tag) store_is ∙ keys_committed there.0.tag at p.store)
    (λ other apart. ap (keys_of other) store_is
    ∙ keys_stamped there.0.tag other (stamp.At at) p.store apart refl)

-- it is prepared
pub prepared_stands : (p : Part) (lsid : Lsid) (o : Open) (at coordinator : ℕ) (table : Table)
    (live : List (Lsid × Open)) (store : Versions) → Stands p → Rises lsid_cmp p.live
    → IsSomeAnd (session p lsid) (λ s. s.state ≡ state.Live) → Some o ≡ open_of p lsid
    → ((s : Session) → session p lsid ≡ Some s → pending_keys p s.tag ≡ keys_of s.tag p.store)
    → IfSome (session p lsid) (λ s. table ≡ with_state p.sessions lsid s
    (state.Prepared at coordinator)) → live ≡ taken_out lsid_cmp lsid p.live
    → store ≡ stamped o.tag (stamp.Prepared o.tag at) p.store
    → Stands (record p { sessions = table; live = live; store = store })
prepared_stands p lsid o at coordinator table live store stands r is_live mine listed ht hl hs =
    let there = live_there p lsid is_live in
    let s : Session = there.0 in
    let has = live_has p lsid o s there.1 stands is_live mine in
    let so : is_open s.state ≡ true = is_live_open s.state there.2 in
    let st : SessionState = state.Prepared at coordinator in
    let now : Session = record { number = s.number; tag = s.tag; state = st } in
    let left : Versions = stamped s.tag (stamp.Prepared s.tag at) p.store in
    let q : Part = ended (record p { store = left }) lsid s st in
    let here : session q lsid ≡ Some now = entry_here lsid now p.sessions.entries in
    let store_is : store ≡ left = hs
    ∙ ap (λ tag. stamped tag (stamp.Prepared tag at) p.store) has.1 in
    let table_is : table ≡ with_state p.sessions lsid s st = if_there (λ (s : Session). table
    ≡ with_state p.sessions lsid s st) (session p lsid) s there.1 ht in
    let two : (x : Lsid) (t : Session) → same_lsid x lsid ≡ false → session p x ≡ Some t
    → is_open t.state ≡ true → same_tag t.tag s.tag ≡ false =
    λ x t other hx to. of_two p lsid x s t stands there.1 so other hx to in
    let moves : Moves lsid p q = record {
      others = ended_changes lsid p left s st;
      mine = subst (λ o. SessionAt left o (open_of q lsid)) (sym here) (none_live p lsid r);
      keys = λ x t other hx to. keys_stamped s.tag t.tag (stamp.Prepared s.tag at) p.store (two x t
          other hx to) (tag_flip s.tag t.tag ∙ two x t other hx to);
      pending = λ x t other hx to. refl;
      prepared = λ u since other hu prepared.
          let same : Some now ≡ Some u = sym here ∙ hu in
          let one : now ≡ u = cc in
          subst (λ (v : Session). pending_keys q v.tag ≡ keys_of v.tag left) one (listed s there.1
          ∙ sym (keys_restamped s.tag (stamp.Prepared s.tag at) p.store (tag_self s.tag)));
      apart = λ x u t other hu hx uo to.
          let same : Some now ≡ Some u = sym here ∙ hu in
          let one : now ≡ u = cc in
          ap (λ (v : Session). same_tag v.tag t.tag) (sym one) ∙ tag_flip s.tag t.tag
          ∙ two x t other hx to;
      owned = λ tag closed.
          let apart : same_tag s.tag tag ≡ false = closed lsid now here refl in
          let flipped : same_tag tag s.tag ≡ false = tag_flip tag s.tag ∙ apart in
          keys_stamped s.tag tag (stamp.Prepared s.tag at) p.store flipped apart
          ∙ stands.owned tag (closed_before lsid p q tag (ended_changes lsid p left s st)
          closed (λ t ht to. ap (λ (u : Session). same_tag u.tag tag)
          (one_session p lsid t s ht there.1) ∙ apart));
    } in
    subst Stands (sym (made p table (with_state p.sessions lsid s st) live (taken_out lsid_cmp lsid
    p.live) store left table_is hl store_is)) (moved lsid p q stands moves)

-- one more stands among the prepared transactions, of a live one's tag
pushed_case : (p : Part) (lsid : Lsid) (s : Session) (q : Pending) (x : Lsid) (t : Session)
    (at coordinator : ℕ) (b : Bool) → same_lsid x lsid ≡ b → Stands p → session p lsid ≡ Some s
    → s.state ≡ state.Live → q.tag ≡ s.tag
    → session p x ≡ Some t → t.state ≡ state.Prepared at coordinator
    → newest_keys t.tag [] (p.pending ++ q ∷ []) ≡ keys_of t.tag p.store
pushed_case p lsid s q x t at coordinator true is stands there live tag ht prepared =
    let here : session p lsid ≡ Some t =
    subst (λ l. session p l ≡ Some t) (lsid_same x lsid is) ht in
    let same : Some s ≡ Some t = sym there ∙ here in
    let one : s ≡ t = cc in
    let wrong : state.Live ≡ state.Prepared at coordinator = sym live
    ∙ ap (λ (u : Session). u.state) one ∙ prepared in
    cc
pushed_case p lsid s q x t at coordinator false is stands there live tag ht prepared =
    let two : same_tag t.tag s.tag ≡ false = of_two p lsid x s t stands there (is_live_open s.state
    live) is ht (prepared_open t.state at coordinator prepared) in
    let other : same_tag q.tag t.tag ≡ false = ap (λ a. same_tag a t.tag) tag
    ∙ tag_flip s.tag t.tag ∙ two in
    keys_beside t.tag p.pending q other ∙ stands.pending x t at coordinator ht prepared

pub pushed_stands : (p : Part) (lsid : Lsid) (s : Session) (q : Pending)
    → Stands p → session p lsid ≡ Some s → s.state ≡ state.Live → q.tag ≡ s.tag
    → Stands (record p { pending = p.pending ++ q ∷ [] })
pushed_stands p lsid s q stands there live tag =
    record {
      sessions = stands.sessions;
      pending = λ x t at coordinator. pushed_case p lsid s q x t at coordinator (same_lsid x lsid)
          refl stands there live tag;
      apart = stands.apart;
      owned = stands.owned;
    }

pending_open : (lsid : Lsid) (q : Pending) (o : Option Open)
    → Some q ≡ option_map (pending_of lsid) o
    → (mine : Open) × (o ≡ Some mine) × (q.tag ≡ mine.tag) × (q.keys ≡ map place_of mine.writes)
pending_open lsid q None is = cc
pending_open lsid q (Some o) is =
    let one : q ≡ pending_of lsid o = cc in
    (o, refl, ap (λ (q : Pending). q.tag) one, ap (λ (q : Pending). q.keys) one)

-- what a live transaction has is put among the prepared ones
pub record Pushing (p : Part) (lsid : Lsid) (q : Pending) : Type 0 where
  pub stands : Stands (record p { pending = p.pending ++ q ∷ [] })
  pub listed : (s : Session) → session p lsid ≡ Some s
      → newest_keys s.tag [] (p.pending ++ q ∷ []) ≡ keys_of s.tag p.store

pub pushing : (p : Part) (lsid : Lsid) (q : Pending) → Stands p
    → IsSomeAnd (session p lsid) (λ s. s.state ≡ state.Live)
    → Some q ≡ option_map (pending_of lsid) (open_of p lsid) → Pushing p lsid q
pushing p lsid q stands is_live from =
    let there = live_there p lsid is_live in
    let mine = pending_open lsid q (open_of p lsid) from in
    let has = live_has p lsid mine.0 there.0 there.1 stands is_live (sym mine.1) in
    let tag_is : q.tag ≡ there.0.tag = mine.2 ∙ has.1 in
    record {
      stands = pushed_stands p lsid there.0 q stands there.1 there.2 tag_is;
      listed = λ s is.
          let same : Some there.0 ≡ Some s = sym there.1 ∙ is in
          let one : there.0 ≡ s = cc in
          subst (λ (s : Session). newest_keys s.tag [] (p.pending ++ q ∷ [])
          ≡ keys_of s.tag p.store) one
          (keys_pushed there.0.tag p.pending q
          (ap (λ a. same_tag a there.0.tag) tag_is ∙ tag_self there.0.tag) ∙ mine.3 ∙ has.2);
    }

-- A decision of a prepared transaction.

prepared_is : (st : SessionState) → IsSome (prepared_at st)
    → (at : ℕ) × (coordinator : ℕ) × (st ≡ state.Prepared at coordinator)
prepared_is state.Live h = cc
prepared_is (state.Prepared at coordinator) h = (at, coordinator, refl)
prepared_is (state.Committed at) h = cc
prepared_is state.Released h = cc
prepared_is (state.Aborted why read_at) h = cc

has_no_open : (p : Part) (lsid : Lsid) (s : Session) (at coordinator : ℕ) → session p lsid ≡ Some s
    → s.state ≡ state.Prepared at coordinator → Stands p → open_of p lsid ≡ None
has_no_open p lsid s at coordinator there is stands =
    let had : SessionAt p.store (Some s) (open_of p lsid) =
    subst (λ x. SessionAt p.store x (open_of p lsid)) there (stands.sessions lsid) in
    subst (λ x. StateAt p.store s x (open_of p lsid)) is had

decided_keys : (tag other : Tag) (at : Option ℕ) (store : Versions) → same_tag other tag ≡ false
    → keys_of other (decided tag at store) ≡ keys_of other store
decided_keys tag other (Some at) store apart = keys_stamped tag other (stamp.At at) store apart refl
decided_keys tag other None store apart = keys_dropped tag other store apart

behind_closed : (d : Decision) → is_open (state_behind d) ≡ false
behind_closed (decision.Commit at) = refl
behind_closed (decision.Abort shard code) = refl

forgotten_stands : (p : Part) (tag : Tag) → Stands p → ((x : Lsid) (t : Session) → session p x
    ≡ Some t → is_open t.state ≡ true → same_tag t.tag tag ≡ false) → Stands (without_pending tag p)
forgotten_stands p tag stands apart =
    record {
      sessions = stands.sessions;
      pending = λ x t at coordinator there prepared. keys_left t.tag tag [] p.pending
          (apart x t there (prepared_open t.state at coordinator prepared))
          ∙ stands.pending x t at coordinator there prepared;
      apart = stands.apart;
      owned = stands.owned;
    }

ended_apart : (p e : Part) (lsid : Lsid) (s now : Session) (x : Lsid) (t : Session) (b : Bool)
    → same_lsid x lsid ≡ b → Stands p → session p lsid ≡ Some s → is_open s.state ≡ true
    → ChangesOnly lsid p e → session e lsid ≡ Some now → is_open now.state ≡ false
    → session e x ≡ Some t → is_open t.state ≡ true → same_tag t.tag s.tag ≡ false
ended_apart p e lsid s now x t true is stands there so changes here closed ht to =
    let again : session e lsid ≡ Some t =
    subst (λ l. session e l ≡ Some t) (lsid_same x lsid is) ht in
    let same : Some now ≡ Some t = sym here ∙ again in
    let one : now ≡ t = cc in
    let wrong : true ≡ false = sym to ∙ ap (λ (u : Session). is_open u.state) (sym one) ∙ closed in
    cc
ended_apart p e lsid s now x t false is stands there so changes here closed ht to =
    of_two p lsid x s t stands there so is (sym (changes.sessions x is) ∙ ht) to

pub record Applying (p : Part) (m : Decide) (s : Session) : Type 0 where
  pub keys : pending_keys p s.tag ≡ keys_of s.tag p.store
  pub there : IsSome (session p m.lsid)
  pub gives : (table : Table) (pending : List Pending) (store : Versions) → IfSome (session p
      m.lsid) (λ s. table ≡ with_state p.sessions m.lsid s (state_behind m.decision))
      → pending ≡ filter (λ other. not (same_tag other.tag s.tag)) p.pending
      → store ≡ decided s.tag (commit_time m.decision) p.store
      → record p { sessions = table; pending = pending; store = store } ≡ decided_part p m s
  pub stands : Stands (decided_part p m s)

made_decided : (p : Part) (table table2 : Table) (live live2 : List (Lsid × Open))
    (pending pending2 : List Pending) (store store2 : Versions) → table ≡ table2 → live ≡ live2
    → pending ≡ pending2 → store ≡ store2
    → (let a : Part = record p
    { sessions = table; live = live; pending = pending; store = store } in a) ≡ (let b : Part =
    record p { sessions = table2; live = live2; pending = pending2; store = store2 } in b)
made_decided p table table2 live live2 pending pending2 store store2 a b c d =
    ap (λ (t : Table). let x : Part =
    record p { sessions = t; live = live; pending = pending; store = store } in x) a
    ∙ ap (λ (l : List (Lsid × Open)). let x : Part =
    record p { sessions = table2; live = l; pending = pending; store = store } in x) b
    ∙ ap (λ (q : List Pending). let x : Part =
    record p { sessions = table2; live = live2; pending = q; store = store } in x) c
    ∙ ap (λ (v : Versions). let x : Part =
    record p { sessions = table2; live = live2; pending = pending2; store = v } in x) d

pub applying : (p : Part) (m : Decide) (s : Session) → session p m.lsid ≡ Some s → Stands p
    → Rises lsid_cmp p.live → IsSomeAnd (session p m.lsid) (λ s. IsSome (prepared_at s.state))
    → Applying p m s
applying p m s there stands r is_prepared =
    let prepared : IsSome (prepared_at s.state) =
    subst (λ x. IsSomeAnd x (λ s. IsSome (prepared_at s.state))) there is_prepared in
    let st = prepared_is s.state prepared in
    let so : is_open s.state ≡ true = prepared_open s.state st.0 st.1 st.2 in
    let none : open_of p m.lsid ≡ None = has_no_open p m.lsid s st.0 st.1 there st.2 stands in
    let left : Versions = decided s.tag (commit_time m.decision) p.store in
    let now : Session =
    record { number = s.number; tag = s.tag; state = state_behind m.decision } in
    let e : Part = ended (record p { store = left }) m.lsid s (state_behind m.decision) in
    let e_stands : Stands e = ended_stands p left m.lsid s (state_behind m.decision) stands r
    (behind_closed m.decision) there so (keys_decided s.tag (commit_time m.decision) p.store)
    (λ other apart. decided_keys s.tag other (commit_time m.decision) p.store apart) in
    record {
      keys = stands.pending m.lsid s st.0 st.1 there st.2;
      there = subst IsSome (sym there) refl;
      gives = λ table pending store ht hp hs.
          let table_is : table ≡ with_state p.sessions m.lsid s (state_behind m.decision) =
          if_there (λ (s : Session). table ≡ with_state p.sessions m.lsid s
          (state_behind m.decision)) (session p m.lsid) s there ht in
          made_decided p table (with_state p.sessions m.lsid s (state_behind m.decision))
          p.live (taken_out lsid_cmp m.lsid p.live) pending
          (filter (λ other. not (same_tag other.tag s.tag)) p.pending) store left table_is
          (sym (nothing_taken m.lsid p.live none)) hp hs;
      stands = forgotten_stands e s.tag e_stands (λ x t. ended_apart p e m.lsid s now x t (same_lsid
          x m.lsid) refl stands there so (ended_changes m.lsid p left s (state_behind m.decision))
          (entry_here m.lsid now p.sessions.entries) (behind_closed m.decision));
    }
