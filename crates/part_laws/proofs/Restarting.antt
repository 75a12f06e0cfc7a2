-- A part that starts again.
use Rattle.std.proofs.Common.{◌≡◌, ℕ, Bool, true, false, List, Option, Some, None, refl, ap, subst}
use Rattle.std.proofs.Common.{◌∙◌, sym, if◌then◌else◌}
use Rattle.std.specs.Option.{is_some}
use Rattle.txn_types.specs.BySession.{entry_of}
use Rattle.txn_types.specs.Order.{lsid_cmp}
use Rattle.txn_types.specs.declared.cause.Cause.TheVariants as cause
use Rattle.txn_types.specs.declared.names.Tag.{Tag}
use Rattle.txn_types.specs.declared.node.Lsid.{Lsid}
use Rattle.txn_types.specs.declared.operation.OpErr.{OpErr}
use Rattle.txn_semantics.specs.declared.commits.Entry.{Entry}
use Rattle.txn_semantics.specs.Keyed.{Rises}
use Rattle.session_table.specs.declared.session.Session.{Session}
use Rattle.session_table.specs.declared.session.SessionState.{SessionState}
use Rattle.session_table.specs.declared.session.SessionState.TheVariants as state
use Rattle.participant.specs.declared.said.Open.{Open}
use Rattle.participant.specs.Part.{Part, session, open_of, is_open}
use Rattle.part_laws.specs.Sound.{Opened, Opens, Served}
use Rattle.part_laws.specs.Parts.{opened_of, LiveAt, PreparedAt, AtState, AtSession, HeldBy}
use Rattle.part_laws.specs.Parts.{IsServing, if_prepared}
use Rattle.part_laws.specs.Start.{prepared_ones, StandsAgain, Restarts}
use Rattle.part_laws.proofs.Starting.{kept_some, crash_leaves}

-- a prepared transaction is open after the crash
prepared_by : (x : Opened) (b : Bool) → is_some x.prepared ≡ b → b ≡ true
    → (if b then Some x else None) ≡ Some x
prepared_by x true is h = refl
prepared_by x false is h = cc

prepared_again : (o : Option Opened) (x : Opened) (at : ℕ) → o ≡ Some x → x.prepared ≡ Some at
    → if_prepared o ≡ Some x
prepared_again o x at is prepared = ap if_prepared is
    ∙ prepared_by x (is_some x.prepared) refl (ap is_some prepared)

module _ (p q : Part) (opens : Opens) (last : ℕ) (entries : List Entry) (served : List Served)
    (part : IsServing p opens last entries served) (again : Restarts p q) where
  nothing_live : (lsid : Lsid) → open_of q lsid ≡ None
  nothing_live lsid = ap (λ live. entry_of lsid live) again.live

  at_prepared : (lsid : Lsid) (t : Session) (at coordinator : ℕ) → session p lsid ≡ Some t
      → t.state ≡ state.Prepared at coordinator → PreparedAt opens t.tag at (open_of p lsid)
  at_prepared lsid t at coordinator is there = subst (λ st. AtState p.boot opens t.tag st (open_of p
      lsid)) there (subst (λ x. AtSession p.boot opens x (open_of p lsid)) is (part.sessions lsid))

  state_again : (boot : ℕ) (lsid : Lsid) (tag : Tag) (st : SessionState) → StandsAgain p lsid tag st
      → AtState boot (prepared_ones opens) tag st None
  state_again boot lsid tag state.Live h = h
  state_again boot lsid tag (state.Prepared at coordinator) h =
      let mine = at_prepared lsid h.0 at coordinator h.1 h.3 in (
        refl,
        (
          mine.1.0,
          prepared_again (opens tag) mine.1.0 at (ap opens (sym h.2) ∙ mine.1.1) mine.1.2,
          mine.1.2,
        ),
      )
  state_again boot lsid tag (state.Committed at) h = refl
  state_again boot lsid tag state.Released h = refl
  state_again boot lsid tag (state.Aborted why at) h = refl

  session_again : (boot : ℕ) (lsid : Lsid) (s : Option Session) → session q lsid ≡ s
      → AtSession boot (prepared_ones opens) s None
  session_again boot lsid None is = refl
  session_again boot lsid (Some s) is =
      state_again boot lsid s.tag s.state (again.sessions lsid s is)

  live_not : (lsid : Lsid) (s : Session) (tag : Tag) (x : Opened) (o : Option Open)
      → LiveAt p.boot opens s.tag o → s.tag ≡ tag → opens tag ≡ Some x
      → is_some x.prepared ≡ true → ⊥
  live_not lsid s tag x None h same open_it prepared = h
  live_not lsid s tag x (Some o) h same open_it prepared =
      let both : Some (opened_of p.boot o) ≡ Some x = sym h.1 ∙ ap opens same ∙ open_it in
      let one : opened_of p.boot o ≡ x = cc in
      let wrong : false ≡ true = ap (λ (z : Opened). is_some z.prepared) one ∙ prepared in cc

  -- what holds an open transaction that is prepared is prepared
  held_state : (lsid : Lsid) (s : Session) (st : SessionState) (tag : Tag) (x : Opened)
      → session p lsid ≡ Some s → s.state ≡ st → s.tag ≡ tag → is_open st ≡ true
      → opens tag ≡ Some x → is_some x.prepared ≡ true → HeldBy q tag
  held_state lsid s state.Live tag x is there same still open_it prepared =
      absurd (live_not lsid s tag x (open_of p lsid)
      (subst (λ st. AtState p.boot opens s.tag st (open_of p lsid)) there (subst (λ y. AtSession
      p.boot opens y (open_of p lsid)) is (part.sessions lsid))) same open_it prepared)
  held_state lsid s (state.Prepared at coordinator) tag x is there same still open_it prepared =
      let t = again.prepared lsid s at coordinator is there in
      (lsid, t.0, t.1, t.2 ∙ same, ap is_open t.3)
  held_state lsid s (state.Committed at) tag x is there same still open_it prepared = cc
  held_state lsid s state.Released tag x is there same still open_it prepared = cc
  held_state lsid s (state.Aborted why at) tag x is there same still open_it prepared = cc

  -- what is open after the crash was prepared
  was_prepared : (lsid : Lsid) (tag : Tag) (st : SessionState) → is_open st ≡ true
      → StandsAgain p lsid tag st → (t : Session) × (session p lsid ≡ Some t) × (t.tag ≡ tag)
      × (is_open t.state ≡ true)
  was_prepared lsid tag state.Live still h = absurd h
  was_prepared lsid tag (state.Prepared at coordinator) still h = (h.0, h.1, h.2, ap is_open h.3)
  was_prepared lsid tag (state.Committed at) still h = cc
  was_prepared lsid tag state.Released still h = cc
  was_prepared lsid tag (state.Aborted why at) still h = cc

  not_refused : (lsid : Lsid) (tag : Tag) (st : SessionState) (err : OpErr) (at : ℕ)
      → st ≡ state.Aborted (cause.Statement err) at → StandsAgain p lsid tag st → ⊥
  not_refused lsid tag st err at is h = (subst (StandsAgain p lsid tag) is h) err refl

pub restart_holds : (p q : Part) (opens : Opens) (last : ℕ) (entries : List Entry)
    (served : List Served) → IsServing p opens last entries served → Restarts p q
    → IsServing q (prepared_ones opens) last entries served
restart_holds p q opens last entries served part again =
    record {
      sound = crash_leaves p.store q.store opens last entries served part.sound again.store;
      rises = subst (Rises lsid_cmp) (sym again.live) tt;
      sessions = λ lsid. subst (AtSession q.boot (prepared_ones opens) (session q lsid))
          (sym (nothing_live p q opens last entries served part again lsid)) (session_again p q
          opens last entries served part again q.boot lsid (session q lsid) refl);
      kept = λ lsid o is. let wrong : ◌≡◌ {A = Option Open} None (Some o) =
          sym (nothing_live p q opens last entries served part again lsid) ∙ is in cc;
      refusals = λ lsid s err at is there. absurd (not_refused p q opens last entries served part
          again lsid s.tag s.state err at there (again.sessions lsid s is));
      held = λ tag x is.
          let was = kept_some (opens tag) x is in
          let by = part.held tag x was.0 in
          held_state p q opens last entries served part again by.0 by.1 by.1.state tag x by.2 refl
          by.3 by.4 was.0 was.1;
      alone = λ a b s t ia ib oa ob same.
          let u = was_prepared p q opens last entries served part again a s.tag s.state oa
          (again.sessions a s ia) in
          let v = was_prepared p q opens last entries served part again b t.tag t.state ob
          (again.sessions b t ib) in
          part.alone a b u.0 v.0 u.1 v.1 u.3 v.3 (u.2 ∙ same ∙ sym v.2);
    }
