-- A part after the end of a transaction.
use Rattle.std.proofs.Common.{◌≡◌, ◌≤◌, ℕ, Bool, true, false, cond, not, List, [], ◌∷◌, Some, None}
use Rattle.std.proofs.Common.{filter, refl, ap, subst, ◌∙◌, sym, arith, ◌||◌}
use Rattle.std.specs.List.{list_any}
use Rattle.txn_types.specs.BySession.{BySession, entry_of, with_entry}
use Rattle.txn_types.specs.Order.{same_tag, same_lsid, lsid_cmp}
use Rattle.txn_types.specs.declared.names.Tag.{Tag}
use Rattle.txn_types.specs.declared.node.Lsid.{Lsid}
use Rattle.txn_types.proofs.Orders.{lsid_total, lsid_exact}
use Rattle.txn_semantics.specs.Keyed.{taken_out, Rises}
use Rattle.txn_semantics.proofs.Laying.{rises_taken_out}
use Rattle.session_table.specs.Sessions.{with_state, session_of}
use Rattle.session_table.specs.declared.session.Session.{Session}
use Rattle.session_table.specs.declared.session.SessionState.{SessionState}
use Rattle.session_table.specs.declared.session.SessionState.TheVariants as state
use Rattle.version_store.specs.Versions.{Versions}
use Rattle.version_store.specs.declared.version.Pending.{Pending}
use Rattle.participant.specs.declared.said.Open.{Open}
use Rattle.participant.specs.Part.{Part, session, open_of, is_open}
use Rattle.participant.specs.Stands.{Stands}
use Rattle.participant.proofs.Ends.{entry_elsewhere, entry_without}
use Rattle.participant.proofs.Moving.{entry_here, of_two, one_session}
use Rattle.participant.proofs.Statements.{has_live}
use Rattle.participant.proofs.Tags.{tag_self, lsid_same, lsid_flip, tag_same}
use Rattle.part_laws.specs.Each.{Each}
use Rattle.part_laws.proofs.Ended.{in_state}
use Rattle.part_laws.proofs.Moving.{live_taken}
use Rattle.durable_laws.proofs.Whole.{LiveHas, PendingHas, IsWhole}
use Rattle.durable_laws.specs.Backed.{AreApart}
use Rattle.durable_laws.proofs.Beside.{Beside, over_kept}
use Rattle.part_laws.proofs.Chains.{not_true}

-- Sessions that stand once.

with_apart : (lsid x : Lsid) (s : Session) (entries : BySession Session)
    → same_lsid x lsid ≡ false → Each (λ other. same_lsid x other.0 ≡ false) entries
    → Each (λ other. same_lsid x other.0 ≡ false) (with_entry lsid s entries)
with_apart lsid x s [] apart h = (apart, tt)
with_apart lsid x s (entry ∷ entries) apart h =
    put_case (same_lsid lsid entry.0) (with_apart lsid x s entries apart h.1)
  where
    put_case : (b : Bool) → Each (λ (other : Lsid × Session). same_lsid x other.0
        ≡ false) (with_entry lsid s entries) → Each (λ (other : Lsid × Session). same_lsid x other.0
        ≡ false) (cond b ((lsid, s) ∷ entries) (entry ∷ with_entry lsid s entries))
    put_case true more = (apart, h.1)
    put_case false more = (h.0, more)

pub apart_with : (lsid : Lsid) (s : Session) (entries : BySession Session) → AreApart entries
    → AreApart (with_entry lsid s entries)
apart_with lsid s [] h = (tt, tt)
apart_with lsid s (entry ∷ entries) h =
    put_case (same_lsid lsid entry.0) refl (apart_with lsid s entries h.1)
  where
    put_case : (b : Bool) → same_lsid lsid entry.0 ≡ b → AreApart (with_entry lsid s entries)
        → AreApart (cond b ((lsid, s) ∷ entries) (entry ∷ with_entry lsid s entries))
    put_case true is more = (
      subst (λ l. Each (λ (other : Lsid × Session). same_lsid l other.0 ≡ false) entries)
          (sym (lsid_same lsid entry.0 is)) h.0,
      h.1,
    )
    put_case false is more =
        (with_apart lsid entry.0 s entries (lsid_flip entry.0 lsid ∙ is) h.0, more)

-- What another transaction has.

pub live_kept : (tag : Tag) (old new : Versions) (last later : ℕ) (o : Open) → Beside tag old new
    → same_tag o.tag tag ≡ false → last ≤ later → LiveHas old last o → LiveHas new later o
live_kept tag old new last later o beside apart on h =
    let reads : o.read_at ≤ last = h.reads in
    record {
      reads = grind arith;
      rises = h.rises;
      own = λ place. (beside.stays place).own o.tag apart ∙ h.own place;
      over = over_kept tag o.tag old new _ o.read_at beside apart h.over;
    }

pub pending_kept : (tag : Tag) (p q : Part) (x : Pending) → Beside tag p.store q.store
    → same_tag x.tag tag ≡ false → session q x.lsid ≡ session p x.lsid → PendingHas p x
    → PendingHas q x
pending_kept tag p q x beside apart same h =
    record {
      s = h.s;
      at = h.at;
      coordinator = h.coordinator;
      session = same ∙ h.session;
      tag = h.tag;
      state = h.state;
      later = h.later;
      keys = beside.keys x.tag apart ∙ h.keys;
      over = over_kept tag x.tag p.store q.store _ x.read_at beside apart h.over;
    }

-- a tag stands still among the prepared ones when another is forgotten
any_case : (tag gone : Tag) (x : Pending) (pending : List Pending) (b c : Bool)
    → same_tag x.tag tag ≡ b → same_tag x.tag gone ≡ c → same_tag tag gone ≡ false
    → (list_any (λ (q : Pending). same_tag q.tag tag) pending ≡ true → list_any (λ (q : Pending).
    same_tag q.tag tag) (filter (λ (q : Pending). not (same_tag q.tag gone)) pending) ≡ true)
    → (b || list_any (λ (q : Pending). same_tag q.tag tag) pending) ≡ true
    → list_any (λ (q : Pending). same_tag q.tag tag) (cond (not c)
    (x ∷ filter (λ (q : Pending). not (same_tag q.tag gone)) pending)
    (filter (λ (q : Pending). not (same_tag q.tag gone)) pending)) ≡ true
any_case tag gone x pending true true hb hc apart more h =
    let wrong : true ≡ false = sym hc ∙ ap (λ t. same_tag t gone) (tag_same x.tag tag hb)
    ∙ apart in cc
any_case tag gone x pending true false hb hc apart more h = ap (λ b. b || list_any (λ (q : Pending).
    same_tag q.tag tag) (filter (λ (q : Pending). not (same_tag q.tag gone)) pending)) hb
any_case tag gone x pending false true hb hc apart more h = more h
any_case tag gone x pending false false hb hc apart more h =
    ap (λ b. b || list_any (λ (q : Pending). same_tag q.tag tag)
    (filter (λ (q : Pending). not (same_tag q.tag gone)) pending)) hb ∙ more h

pub any_left : (tag gone : Tag) (pending : List Pending)
    → same_tag tag gone ≡ false → list_any (λ q. same_tag q.tag tag) pending ≡ true
    → list_any (λ q. same_tag q.tag tag) (filter (λ q. not (same_tag q.tag gone)) pending) ≡ true
any_left tag gone [] apart h = h
any_left tag gone (x ∷ pending) apart h = any_case tag gone x pending (same_tag x.tag tag)
    (same_tag x.tag gone) refl refl apart (any_left tag gone pending apart) h

each_left : {A : Type 0} (P Q : A → Type 0) (test : A → Bool)
    → ((x : A) → test x ≡ true → P x → Q x) → (xs : List A) → Each P xs → Each Q (filter test xs)
each_left P Q test f [] h = tt
each_left P Q test f (x ∷ xs) h = left_case (test x) refl (each_left P Q test f xs h.1)
  where
    left_case : (b : Bool) → test x ≡ b → Each Q (filter test xs)
        → Each Q (cond b (x ∷ filter test xs) (filter test xs))
    left_case true is more = (f x is h.0, more)
    left_case false is more = more

-- The end.

-- a part in which the session's open transaction stands closed in this state, has nothing any more,
-- and isn't prepared
pub record Closes (p q : Part) (lsid : Lsid) (s : Session) (st : SessionState) : Type 0 where
  pub stands : Stands q
  pub sessions : q.sessions ≡ with_state p.sessions lsid s st
  pub live : q.live ≡ taken_out lsid_cmp lsid p.live
  pub pending : q.pending ≡ filter (λ other. not (same_tag other.tag s.tag)) p.pending
  pub beside : Beside s.tag p.store q.store

module _ (p q : Part) (last later : ℕ) (lsid : Lsid) (s : Session) (st : SessionState)
    (whole : IsWhole p last) (there : session p lsid ≡ Some s) (so : is_open s.state ≡ true)
    (shut : is_open st ≡ false) (on : last ≤ later) (closes : Closes p q lsid s st) where
  now : session q lsid ≡ Some (in_state s st)
  now = ap (λ table. session_of table lsid) closes.sessions
      ∙ entry_here lsid (in_state s st) p.sessions.entries

  pub session_beside : (x : Lsid) → same_lsid x lsid ≡ false → session q x ≡ session p x
  session_beside x apart = ap (λ table. session_of table x) closes.sessions
      ∙ entry_elsewhere x lsid apart (in_state s st) p.sessions.entries

  live_case : (x : Lsid) (o : Open) (b : Bool) → same_lsid x lsid ≡ b → open_of q x ≡ Some o
      → LiveHas q.store later o
  live_case x o true is mine =
      let none : open_of q x ≡ None = ap (λ live. entry_of x live) closes.live
      ∙ ap (λ l. entry_of l (taken_out lsid_cmp lsid p.live)) (lsid_same x lsid is)
      ∙ live_taken lsid p.live whole.lives in
      let wrong : None ≡ Some o = sym none ∙ mine in cc
  live_case x o false is mine =
      let before : open_of p x ≡ Some o =
      sym (ap (λ live. entry_of x live) closes.live ∙ entry_without x lsid is p.live) ∙ mine in
      let has = has_live p x o whole.stands before in
      let apart : same_tag o.tag s.tag ≡ false = ap (λ t. same_tag t s.tag) has.tag
      ∙ of_two p lsid x s has.s whole.stands there so is has.there (ap is_open has.live) in
      live_kept s.tag p.store q.store last later o closes.beside apart on (whole.live x o before)

  lsid_apart : (x : Pending) (t : Session) (b : Bool) → same_lsid x.lsid lsid ≡ b
      → session p x.lsid ≡ Some t → t.tag ≡ x.tag → same_tag x.tag s.tag ≡ false
      → same_lsid x.lsid lsid ≡ false
  lsid_apart x t true is has tag apart =
      let one : t ≡ s =
      one_session p lsid t s (ap (session p) (sym (lsid_same x.lsid lsid is)) ∙ has) there in
      let wrong : true ≡ false = sym (tag_self s.tag)
      ∙ ap (λ g. same_tag g s.tag) (sym (ap (λ (z : Session). z.tag) one) ∙ tag) ∙ apart in cc
  lsid_apart x t false is has tag apart = is

  pending_case : (x : Pending) → not (same_tag x.tag s.tag) ≡ true → PendingHas p x → PendingHas q x
  pending_case x left h =
      let apart : same_tag x.tag s.tag ≡ false = not_true (same_tag x.tag s.tag) left in
      pending_kept s.tag p q x closes.beside apart (session_beside x.lsid
      (lsid_apart x h.s (same_lsid x.lsid lsid) refl h.session h.tag apart)) h

  prepared_case : (x : Lsid) (t : Session) (at coordinator : ℕ) (b : Bool)
      → same_lsid x lsid ≡ b → session q x ≡ Some t → t.state ≡ state.Prepared at coordinator
      → list_any (λ other. same_tag other.tag t.tag) q.pending ≡ true
  prepared_case x t at coordinator true is has prepared =
      let both : Some (in_state s st) ≡ Some t = sym now
      ∙ ap (session q) (sym (lsid_same x lsid is)) ∙ has in
      let one : in_state s st ≡ t = cc in
      let wrong : true ≡ false = sym (ap is_open prepared)
      ∙ ap (λ (z : Session). is_open z.state) (sym one) ∙ shut in cc
  prepared_case x t at coordinator false is has prepared =
      let before : session p x ≡ Some t = sym (session_beside x is) ∙ has in
      let apart : same_tag t.tag s.tag ≡ false =
      of_two p lsid x s t whole.stands there so is before (ap is_open prepared) in
      subst (λ pending. list_any (λ (other : Pending). same_tag other.tag t.tag) pending ≡ true)
      (sym closes.pending)
      (any_left t.tag s.tag p.pending apart (whole.prepared x t at coordinator before prepared))

  pub closes_whole : IsWhole q later
  closes_whole =
      record {
        stands = closes.stands;
        rises = closes.beside.rises;
        filled = closes.beside.filled;
        newest = closes.beside.newest;
        lives = subst (Rises lsid_cmp) (sym closes.live) (rises_taken_out lsid_cmp lsid_total
            lsid_exact lsid p.live whole.lives);
        live = λ x o mine. live_case x o (same_lsid x lsid) refl mine;
        pending = subst (Each (PendingHas q)) (sym closes.pending) (each_left (PendingHas p)
            (PendingHas q) (λ (x : Pending). not (same_tag x.tag s.tag)) pending_case p.pending
            whole.pending);
        prepared = λ x t at coordinator has prepared. prepared_case x t at coordinator (same_lsid x
            lsid) refl has prepared;
        apart = subst (λ (table : _). AreApart table.entries) (sym closes.sessions) (apart_with lsid
            (in_state s st) p.sessions.entries whole.apart);
      }
