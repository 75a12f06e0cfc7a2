-- A part after an abort, an expiry, a commit, a preparation and a decision.
use Rattle.std.proofs.Common.{◌≡◌, ◌⊎◌, inl, inr, ℕ, Bool, true, false, List, Option, Some, None}
use Rattle.std.proofs.Common.{refl, ap, subst, ◌∙◌, sym, if◌then◌else◌}
use Rattle.std.specs.Option.{option_and_then}
use Rattle.txn_types.specs.Order.{same_lsid, same_tag, lsid_cmp}
use Rattle.txn_types.specs.declared.names.Tag.{Tag}
use Rattle.txn_types.specs.declared.node.Lsid.{Lsid}
use Rattle.txn_types.specs.declared.cause.Cause.{Cause}
use Rattle.txn_types.specs.declared.cause.Cause.TheVariants as cause
use Rattle.txn_types.specs.declared.operation.OpErr.{OpErr}
use Rattle.txn_types.proofs.Orders.{lsid_total, lsid_exact}
use Rattle.txn_semantics.specs.declared.commits.Entry.{Entry}
use Rattle.txn_semantics.specs.Keyed.{taken_out, Rises}
use Rattle.txn_semantics.proofs.Laying.{rises_taken_out}
use Rattle.session_table.specs.Sessions.{session_of, with_state}
use Rattle.txn_types.specs.BySession.{entry_of}
use Rattle.session_table.specs.declared.session.Session.{Session}
use Rattle.session_table.specs.declared.session.SessionState.{SessionState}
use Rattle.session_table.specs.declared.session.SessionState.TheVariants as state
use Rattle.participant.specs.declared.said.Open.{Open}
use Rattle.participant.specs.Part.{Part, session, open_of, aborted, is_open}
use Rattle.participant.proofs.Ends.{entry_elsewhere, entry_without}
use Rattle.participant.proofs.Moving.{entry_here}
use Rattle.participant.proofs.Tags.{tag_self, tag_same, lsid_self}
use Rattle.part_laws.specs.Sound.{Opened, Opens, with_opened, decisions, Served, IsSound}
use Rattle.part_laws.specs.Parts.{LiveAt, AtState, AtSession, IsServing, if_prepared, SamePrepared}
use Rattle.part_laws.specs.Parts.{SameBut}
use Rattle.part_laws.proofs.Ends.{ends}
use Rattle.part_laws.proofs.Moving.{live_taken, Moves, moved}
use Rattle.part_laws.proofs.Opening.{by_tag}

-- the session of a transaction in another state
abbrev pub in_state : Session → SessionState → Session
in_state s st = record { number = s.number; tag = s.tag; state = st }

-- a part in which the session's transaction is in another state, and has nothing live
pub record Ended (p q : Part) (lsid : Lsid) (s : Session) (st : SessionState) : Type 0 where
  pub boot : q.boot ≡ p.boot
  pub sessions : q.sessions ≡ with_state p.sessions lsid s st
  pub live : q.live ≡ taken_out lsid_cmp lsid p.live

apart_tag : (a b : Tag) (x : Bool) → same_tag a b ≡ x → (a ≡ b → ⊥) → same_tag a b ≡ false
apart_tag a b true is no_way = absurd (no_way (tag_same a b is))
apart_tag a b false is no_way = is

some_one : {A : Type 0} (o : Option A) (a b : A) → o ≡ Some a → o ≡ Some b → a ≡ b
some_one o a b h k = let both : Some a ≡ Some b = sym h ∙ k in cc

not_same : (a b : Lsid) → same_lsid a b ≡ false → a ≡ b → ⊥
not_same a b apart same = let wrong : true ≡ false = sym (lsid_self b)
    ∙ ap (λ l. same_lsid l b) (sym same) ∙ apart in cc

module _ (p q : Part) (opens : Opens) (last : ℕ) (entries : List Entry) (served : List Served)
    (part : IsServing p opens last entries served) (lsid : Lsid) (s : Session) (st : SessionState)
    (x : Option Opened)
    (is : session p lsid ≡ Some s) (was_open : is_open s.state ≡ true) (gone : Ended p q lsid s st)
    (at : AtState p.boot (with_opened s.tag x opens) s.tag st None)
    (still : (o : Opened) → x ≡ Some o → is_open st ≡ true)
    (never : (err : OpErr) (n : ℕ) → st ≡ state.Aborted (cause.Statement err) n → ⊥) where
  -- another session with an open transaction has another tag
  other_tag : (other : Lsid) (t : Session) → same_lsid other lsid ≡ false → session p other ≡ Some t
      → is_open t.state ≡ true → same_tag t.tag s.tag ≡ false
  other_tag other t apart there open_there =
      apart_tag t.tag s.tag (same_tag t.tag s.tag) refl (λ same.
      not_same other lsid apart (part.alone other lsid t s there is open_there was_open same))

  ended_moves : Moves p q opens (with_opened s.tag x opens) lsid (in_state s st) None
  ended_moves =
      record {
        boot = gone.boot;
        own = ap (λ table. session_of table lsid) gone.sessions
            ∙ entry_here lsid (in_state s st) p.sessions.entries;
        live = ap (λ live. entry_of lsid live) gone.live ∙ live_taken lsid p.live part.rises;
        state = at;
        sessions = λ other apart. ap (λ table. session_of table other) gone.sessions
            ∙ entry_elsewhere other lsid apart (in_state s st) p.sessions.entries;
        lives = λ other apart. ap (λ live. entry_of other live) gone.live
            ∙ entry_without other lsid apart p.live;
        others = λ other t apart there open_there.
            let differ : same_tag t.tag s.tag ≡ false =
            other_tag other t apart there open_there in (
              ap (λ b. if b then x else opens t.tag) differ,
              (λ same _. let wrong : true ≡ false = sym (tag_self s.tag)
                  ∙ ap (λ g. same_tag g s.tag) same ∙ differ in cc),
            );
        held = by_tag (λ tag opened. (o : Opened) → opened ≡ Some o
            → ((s.tag ≡ tag) × (is_open st ≡ true)) ⊎ ((opens tag ≡ Some o) × ((t : Session)
            → session p lsid ≡ Some t → is_open t.state ≡ true → t.tag ≡ tag → ⊥))) s.tag x opens
            (λ o some. inl (refl, still o some))
            (λ other differ o some. inr (
              some,
              (λ t there _ same.
                  let one : s ≡ t = some_one (session p lsid) s t is there in
                  let wrong : true ≡ false = sym (tag_self other) ∙ ap (λ g. same_tag other g)
                  (sym same ∙ ap (λ (z : Session). z.tag) (sym one)) ∙ differ in cc),
            ));
        rises = subst (Rises lsid_cmp) (sym gone.live) (rises_taken_out lsid_cmp lsid_total
            lsid_exact lsid p.live part.rises);
      }

  pub ended_holds : (later : ℕ) (commits : List Entry)
      → IsSound q.store (with_opened s.tag x opens) later commits served
      → IsServing q (with_opened s.tag x opens) later commits served
  ended_holds later commits sound = moved p q opens (with_opened s.tag x opens) lsid (in_state s
      st) None ended_moves last entries served part later commits served (λ s h. h) (λ mine is.
      cc) (λ err n h. absurd (never err n h)) sound

-- a live transaction isn't decided
live_undecided : (boot : ℕ) (opens : Opens) (tag : Tag) (o : Option Open) → LiveAt boot opens tag o
    → decisions opens tag ≡ None
live_undecided boot opens tag None h = absurd h
live_undecided boot opens tag (Some o) h = ap (option_and_then (λ (o : Opened). o.decided)) h.1

pub at_live : (p : Part) (opens : Opens) (last : ℕ) (entries : List Entry) (served : List Served)
    → IsServing p opens last entries served → (lsid : Lsid) (s : Session) → session p lsid ≡ Some s
    → s.state ≡ state.Live → LiveAt p.boot opens s.tag (open_of p lsid)
at_live p opens last entries served part lsid s is live =
    subst (λ st. AtState p.boot opens s.tag st (open_of p lsid)) live
    (subst (λ x. AtSession p.boot opens x (open_of p lsid)) is (part.sessions lsid))

-- Aborted.

aborted_why : (why other : Cause) (m n : ℕ) → state.Aborted why m ≡ state.Aborted other n
    → why ≡ other
aborted_why why other m n h = cc

pub aborted_holds : (p : Part) (opens : Opens) (last : ℕ) (entries : List Entry)
    (served : List Served) → IsServing p opens last entries served
    → (lsid : Lsid) (s : Session) (why : Cause) → ((err : OpErr) → why ≡ cause.Statement err → ⊥)
    → session p lsid ≡ Some s → s.state ≡ state.Live
    → IsServing (aborted p lsid s why) (with_opened s.tag None opens) last entries served
aborted_holds p opens last entries served part lsid s why other is live =
    ended_holds p (aborted p lsid s why) opens last entries served part lsid s (state.Aborted why 0)
    None is (ap is_open live) (record { boot = refl; sessions = refl; live = refl }) refl (λ o
    some. cc) (λ err n h. other err (aborted_why why (cause.Statement err) 0 n h)) last entries
    (ends p.store opens last entries served part.sound s.tag (live_undecided p.boot opens s.tag
    (open_of p lsid) (at_live p opens last entries served part lsid s is live)))

-- What is prepared.

open_case : (tag other : Tag) (x : Option Opened) (opens : Opens) (b : Bool)
    → same_tag other tag ≡ b → if_prepared x ≡ if_prepared (opens tag)
    → if_prepared (if b then x else opens other) ≡ if_prepared (opens other)
open_case tag other x opens true is same = same
    ∙ ap (λ t. if_prepared (opens t)) (sym (tag_same other tag is))
open_case tag other x opens false is same = refl

pub open_same : (tag : Tag) (x : Option Opened) (opens : Opens)
    → if_prepared x ≡ if_prepared (opens tag) → SamePrepared opens (with_opened tag x opens)
open_same tag x opens same other = open_case tag other x opens (same_tag other tag) refl same

pub open_but : (tag : Tag) (x : Option Opened) (opens : Opens)
    → SameBut tag opens (with_opened tag x opens)
open_but tag x opens other apart = ap (λ b. if_prepared (if b then x else opens other)) apart

live_unprepared : (boot : ℕ) (opens : Opens) (tag : Tag) (o : Option Open) → LiveAt boot opens tag o
    → None ≡ if_prepared (opens tag)
live_unprepared boot opens tag None h = absurd h
live_unprepared boot opens tag (Some o) h = sym (ap if_prepared h.1)

pub live_same : (p : Part) (opens : Opens) (last : ℕ) (entries : List Entry) (served : List Served)
    → IsServing p opens last entries served → (lsid : Lsid) (s : Session) → session p lsid ≡ Some s
    → s.state ≡ state.Live → SamePrepared opens (with_opened s.tag None opens)
live_same p opens last entries served part lsid s is live =
    open_same s.tag None opens (live_unprepared p.boot opens s.tag (open_of p lsid)
    (at_live p opens last entries served part lsid s is live))
