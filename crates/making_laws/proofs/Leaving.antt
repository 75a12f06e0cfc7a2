-- How a rule leaves sessions: which of them are aborted then, and that what is live has a live
-- session.
use Rattle.std.proofs.Common.{◌≡◌, ◌⊎◌, inl, inr, ◌∙◌, ℕ, Bool, true, false, List}
use Rattle.std.proofs.Common.{Some, None, refl, sym, ap, subst}
use Rattle.txn_types.specs.BySession.{entry_of, with_entry}
use Rattle.txn_types.specs.Order.{same_lsid, lsid_cmp}
use Rattle.txn_types.specs.declared.cause.Cause.{Cause}
use Rattle.txn_types.specs.declared.cause.Cause.TheVariants as cause
use Rattle.txn_types.specs.declared.node.Lsid.{Lsid}
use Rattle.txn_types.proofs.Orders.{lsid_total, lsid_exact}
use Rattle.txn_semantics.specs.Keyed.{Rises, put, taken_out}
use Rattle.txn_semantics.proofs.Laying.{rises_put, rises_taken_out}
use Rattle.session_table.specs.declared.session.Session.{Session}
use Rattle.session_table.specs.declared.session.SessionState.{SessionState}
use Rattle.session_table.specs.declared.session.SessionState.TheVariants as state
use Rattle.version_store.proofs.Keyed.{found}
use Rattle.version_store.proofs.TakenBack.{found_other}
use Rattle.participant.specs.Part.{Part, session, open_of, aborted}
use Rattle.participant.specs.declared.said.Open.{Open}
use Rattle.participant.proofs.Ends.{entry_elsewhere, entry_without}
use Rattle.participant.proofs.Moving.{entry_here, none_live}
use Rattle.participant.proofs.Tags.{lsid_same}
use Rattle.cluster_core.specs.Causes.{is_aborted}

-- a cause with which a session may be ended
abbrev pub is_kept : Cause → Bool
is_kept (cause.Replaced number tag) = false
is_kept (cause.Faulted faults) = false
is_kept other = true

-- the session stands as it stood, or its transaction, which wasn't aborted, is
abbrev pub Was : Session → Session → Cause → Type 0
Was old new why = (new ≡ old)
    ⊎ ((is_aborted old.state ≡ false) × (new.tag ≡ old.tag) × (is_kept why ≡ true))

pub record FromOld (p : Part) (lsid : Lsid) (new : Session) (why : Cause) : Type 0 where
  pub old : Session
  pub there : session p lsid ≡ Some old
  pub was : Was old new why

-- so it was, or a statement is refused, which `T` says
abbrev pub Origin : (Lsid → Session → Cause → Type 0) → Part → Lsid → Session → Cause → Type 0
Origin T p lsid new why = FromOld p lsid new why ⊎ (T lsid new why × (is_kept why ≡ true))

pub record LiveAt (p : Part) (lsid : Lsid) : Type 0 where
  pub own : Session
  pub there : session p lsid ≡ Some own
  pub live : own.state ≡ state.Live

pub record LivesStand (p : Part) : Type 0 where
  pub rises : Rises lsid_cmp p.live
  pub live : (lsid : Lsid) (o : Open) → open_of p lsid ≡ Some o → LiveAt p lsid

pub record Leaves (T : Lsid → Session → Cause → Type 0) (p q : Part) : Type 0 where
  pub aborts : (lsid : Lsid) (new : Session) (why : Cause) (at : ℕ) → session q lsid ≡ Some new
      → new.state ≡ state.Aborted why at → Origin T p lsid new why
  pub lives : LivesStand p → LivesStand q

some_is : {A : Type 0} (a b : A) → Some a ≡ Some b → a ≡ b
some_is a b e = cc

-- another session stands as it stood
pub live_on : (p q : Part) (lsid : Lsid) → session q lsid ≡ session p lsid → LiveAt p lsid
    → LiveAt q lsid
live_on p q lsid same h = record { own = h.own; there = same ∙ h.there; live = h.live }

module _ (T : Lsid → Session → Cause → Type 0) (p : Part) where
  -- the sessions stand as they stood, and so does what is live
  pub alike : (q : Part) → q.sessions ≡ p.sessions → q.live ≡ p.live → Leaves T p q
  alike q sessions live = record {
    aborts = λ lsid new why at there is. inl (record {
      old = new;
      there = ap (λ t. entry_of lsid t.entries) (sym sessions) ∙ there;
      was = inl refl;
    });
    lives = λ h. record {
      rises = subst (Rises lsid_cmp) (sym live) h.rises;
      live = λ lsid o there. live_on p q lsid (ap (λ t. entry_of lsid t.entries) sessions)
          (h.live lsid o (ap (entry_of lsid) (sym live) ∙ there));
    };
  }

  pub rests : Leaves T p p
  rests = alike p refl refl

  -- one session is another then
  put_case : (q : Part) (lsid : Lsid) (s : Session)
      → q.sessions.entries ≡ with_entry lsid s p.sessions.entries
      → ((why : Cause) (at : ℕ) → s.state ≡ state.Aborted why at → Origin T p lsid s why)
      → (other : Lsid) (new : Session) (why : Cause) (at : ℕ) (test : Bool)
      → same_lsid other lsid ≡ test → session q other ≡ Some new
      → new.state ≡ state.Aborted why at → Origin T p other new why
  put_case q lsid s is own other new why at true e there st =
      let same : other ≡ lsid = lsid_same other lsid e in
      let one : s ≡ new = some_is s new (sym (entry_here lsid s p.sessions.entries)
      ∙ ap (entry_of lsid) (sym is) ∙ ap (session q) (sym same) ∙ there) in
      subst (λ (l : Lsid). Origin T p l new why) (sym same)
      (subst (λ (n : Session). Origin T p lsid n why) one
      (own why at (ap (λ (n : Session). n.state) one ∙ st)))
  put_case q lsid s is own other new why at false e there st = inl (record {
    old = new;
    there = sym (entry_elsewhere other lsid e s p.sessions.entries) ∙ ap (entry_of other) (sym is)
        ∙ there;
    was = inl refl;
  })

  pub put_leaves : (q : Part) (lsid : Lsid) (s : Session)
      → q.sessions.entries ≡ with_entry lsid s p.sessions.entries
      → ((why : Cause) (at : ℕ) → s.state ≡ state.Aborted why at → Origin T p lsid s why)
      → (LivesStand p → LivesStand q) → Leaves T p q
  put_leaves q lsid s is own lives = record {
    aborts = λ other new why at there st. put_case q lsid s is own other new why at
        (same_lsid other lsid) refl there st;
    lives = lives;
  }

-- What is live.

module _ (p q : Part) (lsid : Lsid) (s : Session)
    (is : q.sessions.entries ≡ with_entry lsid s p.sessions.entries) where
  elsewhere_is : (other : Lsid) → same_lsid other lsid ≡ false → session q other ≡ session p other
  elsewhere_is other e = ap (entry_of other) is ∙ entry_elsewhere other lsid e s p.sessions.entries

  -- the session has nothing live any more
  out_case : q.live ≡ taken_out lsid_cmp lsid p.live → LivesStand p → (other : Lsid) (o : Open)
      (test : Bool) → same_lsid other lsid ≡ test → open_of q other ≡ Some o → LiveAt q other
  out_case live h other o true e there =
      let same : other ≡ lsid = lsid_same other lsid e in
      let none : None ≡ Some o = sym (none_live p lsid h.rises) ∙ ap (entry_of lsid) (sym live)
      ∙ ap (open_of q) (sym same) ∙ there in
      cc
  out_case live h other o false e there = live_on p q other (elsewhere_is other e)
      (h.live other o (sym (entry_without other lsid e p.live) ∙ ap (entry_of other) (sym live)
      ∙ there))

  pub out_lives : q.live ≡ taken_out lsid_cmp lsid p.live → LivesStand p → LivesStand q
  out_lives live h = record {
    rises = subst (Rises lsid_cmp) (sym live)
        (rises_taken_out lsid_cmp lsid_total lsid_exact lsid p.live h.rises);
    live = λ other o there. out_case live h other o (same_lsid other lsid) refl there;
  }

  -- it had nothing live
  none_case : q.live ≡ p.live → open_of p lsid ≡ None → LivesStand p → (other : Lsid) (o : Open)
      (test : Bool) → same_lsid other lsid ≡ test → open_of q other ≡ Some o → LiveAt q other
  none_case live nothing h other o true e there =
      let same : other ≡ lsid = lsid_same other lsid e in
      let none : None ≡ Some o = sym nothing ∙ ap (entry_of lsid) (sym live)
      ∙ ap (open_of q) (sym same) ∙ there in
      cc
  none_case live nothing h other o false e there = live_on p q other (elsewhere_is other e)
      (h.live other o (ap (entry_of other) (sym live) ∙ there))

  pub none_lives : q.live ≡ p.live → open_of p lsid ≡ None → LivesStand p → LivesStand q
  none_lives live nothing h = record {
    rises = subst (Rises lsid_cmp) (sym live) h.rises;
    live = λ other o there. none_case live nothing h other o (same_lsid other lsid) refl there;
  }

  -- it has this live, and is live
  in_case : (rows : List (Lsid × Open)) (new : Open) → q.live ≡ put lsid_cmp lsid new rows
      → ((other : Lsid) → same_lsid other lsid ≡ false → entry_of other rows ≡ open_of p other)
      → s.state ≡ state.Live → LivesStand p → (other : Lsid) (o : Open) (test : Bool)
      → same_lsid other lsid ≡ test → open_of q other ≡ Some o → LiveAt q other
  in_case rows new live others st h other o true e there =
      let same : other ≡ lsid = lsid_same other lsid e in
      subst (LiveAt q) (sym same) (record {
        own = s;
        there = ap (entry_of lsid) is ∙ entry_here lsid s p.sessions.entries;
        live = st;
      })
  in_case rows new live others st h other o false e there =
      let put_is : entry_of other (put lsid_cmp lsid new rows) ≡ entry_of other rows =
      sym (found lsid_cmp other (put lsid_cmp lsid new rows))
      ∙ found_other lsid_cmp lsid_total lsid_exact lsid other new rows e
      ∙ found lsid_cmp other rows in
      live_on p q other (elsewhere_is other e)
      (h.live other o (sym (others other e) ∙ sym put_is ∙ ap (entry_of other) (sym live) ∙ there))

  pub in_lives : (rows : List (Lsid × Open)) (new : Open) → q.live ≡ put lsid_cmp lsid new rows
      → (LivesStand p → Rises lsid_cmp rows)
      → ((other : Lsid) → same_lsid other lsid ≡ false → entry_of other rows ≡ open_of p other)
      → s.state ≡ state.Live → LivesStand p → LivesStand q
  in_lives rows new live rises others st h = record {
    rises = subst (Rises lsid_cmp) (sym live)
        (rises_put lsid_cmp lsid_total lsid_exact lsid new rows (rises h));
    live = λ other o there. in_case rows new live others st h other o (same_lsid other lsid) refl
        there;
  }

-- Ends.

pub none_aborted : {X : Type 0} (s : SessionState) (why : Cause) (at : ℕ) → is_aborted s ≡ false
    → s ≡ state.Aborted why at → X
none_aborted s why at e is = let wrong : true ≡ false = ap is_aborted (sym is) ∙ e in cc

pub aborted_is : (a b : Cause) (m n : ℕ) → state.Aborted a m ≡ state.Aborted b n → a ≡ b
aborted_is a b m n e = cc

module _ (T : Lsid → Session → Cause → Type 0) (p : Part) (lsid : Lsid) (s : Session) where
  -- in a state that is no abort
  pub ended_leaves : (q : Part) (st : SessionState)
      → q.sessions.entries ≡ with_entry lsid (record {
        number = s.number;
        tag = s.tag;
        state = st;
      }) p.sessions.entries → q.live ≡ taken_out lsid_cmp lsid p.live → is_aborted st ≡ false
      → Leaves T p q
  ended_leaves q st sessions live not =
      let new : Session = record { number = s.number; tag = s.tag; state = st } in
      put_leaves T p q lsid new sessions (λ why at is. none_aborted st why at not is)
      (out_lives p q lsid new sessions live)

  -- aborted with a cause
  pub aborted_leaves : (why : Cause) → session p lsid ≡ Some s → is_aborted s.state ≡ false
      → is_kept why ≡ true → Leaves T p (aborted p lsid s why)
  aborted_leaves why there not kept =
      let new : Session = record { number = s.number; tag = s.tag; state = state.Aborted why 0 } in
      put_leaves T p (aborted p lsid s why) lsid new refl
      (λ other at is. inl (record {
        old = s;
        there = there;
        was = inr (
          not,
          refl,
          subst (λ (w : Cause). is_kept w ≡ true) (aborted_is why other 0 at is)
              kept,
        );
      }))
      (out_lives p (aborted p lsid s why) lsid new refl refl)
