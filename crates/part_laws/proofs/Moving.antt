-- A part of which one session changes.
use Rattle.std.proofs.Common.{◌≡◌, ◌⊎◌, inl, inr, ℕ, Bool, true, false, List, Option, Some, None}
use Rattle.std.proofs.Common.{refl, ap, subst, ◌∙◌, sym, if◌then◌else◌}
use Rattle.txn_types.specs.BySession.{BySession, entry_of}
use Rattle.txn_types.specs.Order.{same_lsid, lsid_cmp}
use Rattle.txn_types.specs.declared.cause.Cause.TheVariants as cause
use Rattle.txn_types.specs.declared.names.Tag.{Tag}
use Rattle.txn_types.specs.declared.node.Lsid.{Lsid}
use Rattle.txn_types.specs.declared.operation.OpErr.{OpErr}
use Rattle.txn_types.proofs.Orders.{lsid_total, lsid_exact}
use Rattle.txn_semantics.specs.declared.commits.Entry.{Entry}
use Rattle.txn_semantics.specs.Keyed.{put, taken_out, Rises}
use Rattle.session_table.specs.declared.session.Session.{Session}
use Rattle.session_table.specs.declared.session.SessionState.{SessionState}
use Rattle.session_table.specs.declared.session.SessionState.TheVariants as state
use Rattle.participant.specs.declared.said.Open.{Open}
use Rattle.participant.specs.Part.{Part, session, open_of, is_open}
use Rattle.participant.proofs.Tags.{lsid_self, lsid_same}
use Rattle.part_laws.specs.Each.{Among}
use Rattle.part_laws.specs.Looked.{looked}
use Rattle.part_laws.specs.Sound.{Opened, Opens, Served, IsSound}
use Rattle.part_laws.specs.Parts.{AtState, AtSession, HeldBy, IsKept, IsRefusedBy, IsServing}
use Rattle.part_laws.proofs.Looking.{looked_is_found, looked-put, looked-taken_out}

pub live_put : {A : Type 0} (other lsid : Lsid) (a : A) (entries : BySession A)
    → entry_of other (put lsid_cmp lsid a entries) ≡ (if same_lsid other lsid then Some a
    else entry_of other entries)
live_put other lsid a entries =
    looked_is_found lsid_cmp other (put lsid_cmp lsid a entries)
    ∙ looked-put lsid_cmp lsid_total lsid_exact other lsid a entries
    ∙ ap (λ o. if same_lsid other lsid then Some a else o)
    (sym (looked_is_found lsid_cmp other entries))

pub live_taken : {A : Type 0} (lsid : Lsid) (entries : BySession A) → Rises lsid_cmp entries
    → entry_of lsid (taken_out lsid_cmp lsid entries) ≡ None
live_taken lsid entries r =
    looked_is_found lsid_cmp lsid (taken_out lsid_cmp lsid entries)
    ∙ looked-taken_out lsid_cmp lsid_total lsid_exact lsid lsid entries r
    ∙ ap (λ b. if b then None else looked lsid_cmp lsid entries) (lsid_self lsid)

-- Other sessions.

state_kept : (boot : ℕ) (old new : Opens) (tag : Tag) (st : SessionState) (o : Option Open)
    → (is_open st ≡ true → new tag ≡ old tag) → AtState boot old tag st o
    → AtState boot new tag st o
state_kept boot old new tag state.Live None same h = h
state_kept boot old new tag state.Live (Some o) same h = (h.0, same refl ∙ h.1)
state_kept boot old new tag (state.Prepared at coordinator) o same h =
    (h.0, (h.1.0, same refl ∙ h.1.1, h.1.2))
state_kept boot old new tag (state.Committed at) o same h = h
state_kept boot old new tag state.Released o same h = h
state_kept boot old new tag (state.Aborted why read_at) o same h = h

session_kept : (boot : ℕ) (old new : Opens) (s : Option Session) (o : Option Open)
    → ((t : Session) → s ≡ Some t → is_open t.state ≡ true → new t.tag ≡ old t.tag)
    → AtSession boot old s o → AtSession boot new s o
session_kept boot old new None o same h = h
session_kept boot old new (Some s) o same h =
    state_kept boot old new s.tag s.state o (λ still. same s refl still) h

-- what changes where a session moves: it, what it has live, and the open transactions of no other
-- session
pub record Moves (p q : Part) (old new : Opens) (lsid : Lsid) (s : Session)
    (o : Option Open) : Type 0 where
  pub boot : q.boot ≡ p.boot
  pub own : session q lsid ≡ Some s
  pub live : open_of q lsid ≡ o
  pub state : AtState p.boot new s.tag s.state o
  pub sessions : (other : Lsid) → same_lsid other lsid ≡ false → session q other ≡ session p other
  pub lives : (other : Lsid) → same_lsid other lsid ≡ false → open_of q other ≡ open_of p other
  pub others : (other : Lsid) (t : Session) → same_lsid other lsid ≡ false
      → session p other ≡ Some t → is_open t.state ≡ true
      → (new t.tag ≡ old t.tag) × (s.tag ≡ t.tag → is_open s.state ≡ true → ⊥)
  pub held : (tag : Tag) (x : Opened) → new tag ≡ Some x
      → ((s.tag ≡ tag) × (is_open s.state ≡ true)) ⊎ ((old tag ≡ Some x)
      × ((t : Session) → session p lsid ≡ Some t → is_open t.state ≡ true → t.tag ≡ tag → ⊥))
  pub rises : Rises lsid_cmp q.live

some_same : {A : Type 0} (o : Option A) (a b : A) → o ≡ Some a → o ≡ Some b → a ≡ b
some_same o a b h k = let both : Some a ≡ Some b = sym h ∙ k in cc

module _ (p q : Part) (old new : Opens) (lsid : Lsid) (s : Session) (o : Option Open)
    (moves : Moves p q old new lsid s o) (last : ℕ) (entries : List Entry) (served : List Served)
    (part : IsServing p old last entries served) where
  sessions_case : (other : Lsid) (b : Bool) → same_lsid other lsid ≡ b
      → AtSession p.boot new (session q other) (open_of q other)
  sessions_case other true is =
      let same : other ≡ lsid = lsid_same other lsid is in
      let here : AtSession p.boot new (session q lsid) (open_of q lsid) =
      subst (λ x. AtSession p.boot new x (open_of q lsid)) (sym moves.own)
      (subst (λ x. AtState p.boot new s.tag s.state x) (sym moves.live) moves.state) in
      subst (λ l. AtSession p.boot new (session q l) (open_of q l)) (sym same) here
  sessions_case other false is =
      let there : AtSession p.boot new (session p other) (open_of p other) =
      session_kept p.boot old new (session p other) (open_of p other) (λ t has still.
      (moves.others other t is has still).0) (part.sessions other) in
      subst (λ x. AtSession p.boot new x (open_of q other)) (sym (moves.sessions other is))
      (subst (λ x. AtSession p.boot new (session p other) x) (sym (moves.lives other is)) there)

  held_case : (tag : Tag) (h : HeldBy p tag) (b : Bool) → same_lsid h.0 lsid ≡ b → ((t : Session)
      → session p lsid ≡ Some t → is_open t.state ≡ true → t.tag ≡ tag → ⊥) → HeldBy q tag
  held_case tag h true is none =
      absurd (none h.1 (ap (session p) (sym (lsid_same h.0 lsid is)) ∙ h.2) h.4 h.3)
  held_case tag h false is none = (h.0, h.1, moves.sessions h.0 is ∙ h.2, h.3, h.4)

  held_by : (tag : Tag) (x : Opened) → ((s.tag ≡ tag) × (is_open s.state ≡ true))
      ⊎ ((old tag ≡ Some x) × ((t : Session) → session p lsid ≡ Some t → is_open t.state ≡ true
      → t.tag ≡ tag → ⊥)) → HeldBy q tag
  held_by tag x (inl h) = (lsid, s, moves.own, h.0, h.1)
  held_by tag x (inr h) = let by = part.held tag x h.0 in
      held_case tag by (same_lsid by.0 lsid) refl h.1

  alone_case : (a b : Lsid) (t u : Session) (x y : Bool) → same_lsid a lsid ≡ x
      → same_lsid b lsid ≡ y → session q a ≡ Some t → session q b ≡ Some u → is_open t.state ≡ true
      → is_open u.state ≡ true → t.tag ≡ u.tag → a ≡ b
  alone_case a b t u true true ia ib ha hb ot ou same = lsid_same a lsid ia
      ∙ sym (lsid_same b lsid ib)
  alone_case a b t u true false ia ib ha hb ot ou same =
      let mine : s ≡ t = some_same (session q lsid) s t moves.own (ap (session q)
      (sym (lsid_same a lsid ia)) ∙ ha) in
      absurd ((moves.others b u ib (sym (moves.sessions b ib) ∙ hb) ou).1 (ap
      (λ (z : Session). z.tag) mine ∙ same) (ap (λ (z : Session). is_open z.state) mine ∙ ot))
  alone_case a b t u false true ia ib ha hb ot ou same =
      let mine : s ≡ u = some_same (session q lsid) s u moves.own (ap (session q)
      (sym (lsid_same b lsid ib)) ∙ hb) in
      absurd ((moves.others a t ia (sym (moves.sessions a ia) ∙ ha) ot).1 (ap (λ (z : Session).
      z.tag) mine ∙ sym same) (ap (λ (z : Session). is_open z.state) mine ∙ ou))
  alone_case a b t u false false ia ib ha hb ot ou same = part.alone a b t u
      (sym (moves.sessions a ia) ∙ ha) (sym (moves.sessions b ib) ∙ hb) ot ou same

  kept_more : (told : List Served) → ((x : Served) → Among x served → Among x told) → (o : Open)
      → IsKept p.boot served o → IsKept p.boot told o
  kept_more told more o h = (h.0, more h.0 h.1, h.2, h.3, h.4, h.5, h.6)

  kept_case : (told : List Served) → ((x : Served) → Among x served → Among x told)
      → ((mine : Open) → o ≡ Some mine → IsKept p.boot told mine)
      → (other : Lsid) (mine : Open) (b : Bool)
      → same_lsid other lsid ≡ b → open_of q other ≡ Some mine → IsKept p.boot told mine
  kept_case told more own other mine true is there =
      own mine (sym moves.live ∙ ap (open_of q) (sym (lsid_same other lsid is)) ∙ there)
  kept_case told more own other mine false is there =
      kept_more told more mine (part.kept other mine (sym (moves.lives other is) ∙ there))

  refused_case : (told : List Served) → ((x : Served) → Among x served → Among x told)
      → ((err : OpErr) (at : ℕ) → s.state ≡ state.Aborted (cause.Statement err) at
      → IsRefusedBy p.boot told s.tag err at)
      → (other : Lsid) (t : Session) (err : OpErr) (at : ℕ) (b : Bool) → same_lsid other lsid ≡ b
      → session q other ≡ Some t → t.state ≡ state.Aborted (cause.Statement err) at
      → IsRefusedBy p.boot told t.tag err at
  refused_case told more own other t err at true is there st =
      let mine : s ≡ t = some_same (session q lsid) s t moves.own (ap (session q)
      (sym (lsid_same other lsid is)) ∙ there) in
      subst (λ tag. IsRefusedBy p.boot told tag err at) (ap (λ (z : Session). z.tag) mine)
      (own err at (ap (λ (z : Session). z.state) mine ∙ st))
  refused_case told more own other t err at false is there st =
      let h = part.refusals other t err at (sym (moves.sessions other is) ∙ there) st in
      (h.0, more h.0 h.1, h.2, h.3, h.4, h.5)

  pub moved : (later : ℕ) (commits : List Entry) (told : List Served) → ((x : Served)
      → Among x served → Among x told) → ((mine : Open) → o ≡ Some mine → IsKept p.boot told mine)
      → ((err : OpErr) (at : ℕ) → s.state ≡ state.Aborted (cause.Statement err) at
      → IsRefusedBy p.boot told s.tag err at) → IsSound q.store new later commits told
      → IsServing q new later commits told
  moved later commits told more own refused sound =
      record {
        sound = sound;
        rises = moves.rises;
        sessions = λ other. subst (λ boot. AtSession boot new (session q other) (open_of q other))
            (sym moves.boot) (sessions_case other (same_lsid other lsid) refl);
        kept = λ other mine there. subst (λ boot. IsKept boot told mine) (sym moves.boot)
            (kept_case told more own other mine (same_lsid other lsid) refl there);
        refusals = λ other t err at there st. subst (λ boot. IsRefusedBy boot told t.tag err at)
            (sym moves.boot) (refused_case told more refused other t err at (same_lsid other lsid)
            refl there st);
        held = λ tag x is. held_by tag x (moves.held tag x is);
        alone = λ a b t u ha hb ot ou same. alone_case a b t u (same_lsid a lsid) (same_lsid b lsid)
            refl refl ha hb ot ou same;
      }
