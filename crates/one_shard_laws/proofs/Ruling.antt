-- What each message does at a shard that commits alone.
use Rattle.std.proofs.Common.{◌≡◌, ℕ, ℤ, [], ◌∷◌, All, Option, Some, None, IfSome, Ok, Err, refl}
use Rattle.std.proofs.Common.{ap, subst, ◌∙◌, sym}
use Rattle.txn_types.specs.Letters.{Letter, Named, named_in}
use Rattle.txn_types.specs.declared.decision.Told.{Told}
use Rattle.txn_types.specs.declared.decision.Told.TheVariants as told
use Rattle.txn_types.specs.declared.message.Commit.{Commit}
use Rattle.txn_types.specs.declared.message.Recover.{Recover}
use Rattle.txn_types.specs.declared.message.Statement.{Statement}
use Rattle.txn_types.specs.declared.message.Msg.{Msg}
use Rattle.txn_types.specs.declared.message.Msg.TheVariants as msg
use Rattle.txn_types.specs.declared.names.Tag.{Tag}
use Rattle.txn_types.specs.declared.node.NodeId.{NodeId}
use Rattle.coordinator.specs.TwoPhase.{Coordinated, Coordinations, coordinated_of, resends}
use Rattle.participant.specs.declared.said.Said.{Said}
use Rattle.participant.specs.declared.said.Said.TheVariants.{Did, Blocked, Refused, Late}
use Rattle.participant.specs.Part.{Part, session, elsewhere}
use Rattle.participant.specs.Statement.{statement}
use Rattle.participant.specs.Commit.{commit}
use Rattle.participant.specs.Abort.{abort}
use Rattle.participant.specs.Recover.{recover}
use Rattle.participant.proofs.Cases.{either}
use Rattle.shard_core.specs.State.{ShardState, with_part}
use Rattle.shard_core.specs.Ruled.{Ruled, quiet, outcome, coordinates}
use Rattle.shard_core.specs.Participating as participating
use Rattle.shard_core.specs.Participating.{answers, outcome_if}
use Rattle.shard_core.specs.Coordinating.{tells, recovers, larger_number, unless_coordinated}
use Rattle.shard_core.specs.Coordinating.{unless_older, on_recover, on_resend}
use Rattle.shard_core.specs.Rules.{ruled, from_router, router_of}
use Rattle.one_shard_laws.specs.Sessions.{SessionsNamed, GoesOn, IsOnce}
use Rattle.one_shard_laws.specs.Alone.{IsAlone, RecHeld, AsksFor, SaidAtLeast, ServedAtLeast}
use Rattle.one_shard_laws.proofs.Sessions.{same_goes, statement_goes, commit_goes}
use Rattle.one_shard_laws.proofs.Sessions.{client_abort_goes, recover_goes}
use Rattle.world_laws.proofs.Naming.{nothing, one}

abbrev pub LetterAlone : Letter → Type 0
LetterAlone l = IsAlone l.1

abbrev pub LetterAtLeast : Part → Msg → Letter → Type 0
LetterAtLeast q m l = ServedAtLeast q m l.1

pub record RuleAlone (P : Named → Type 0) (s : ShardState) (m : Msg) (r : Ruled) : Type 0 where
  pub goes : GoesOn P s.part r.core.part
  pub coord : r.core.coord ≡ []
  pub rec : IfSome r.rec (RecHeld P s.part r.core.part r.core.clock.last)
  pub asked : IfSome r.rec (AsksFor m r.core.part.boot)
  pub out : All LetterAlone r.out
  pub served : All (LetterAtLeast r.core.part m) r.out

-- Nothing is said, or one letter.

pub quiet_alone : (P : Named → Type 0) (s : ShardState) (m : Msg) (q : Part) → GoesOn P s.part q
    → s.coord ≡ [] → RuleAlone P s m (quiet (with_part s q))
quiet_alone P s m q goes coord =
    record {
      goes = goes;
      coord = coord;
      rec = tt;
      asked = tt;
      out = nothing LetterAlone;
      served = nothing (LetterAtLeast q m);
    }

pub says_alone : (P : Named → Type 0) (s : ShardState) (m : Msg) (q : Part) (l : Letter)
    → GoesOn P s.part q → s.coord ≡ [] → IsAlone l.1 → ServedAtLeast q m l.1
    → RuleAlone P s m (record { core = with_part s q; rec = None; out = l ∷ []; held = None })
says_alone P s m q l goes coord alone served =
    record {
      goes = goes;
      coord = coord;
      rec = tt;
      asked = tt;
      out = one LetterAlone l alone;
      served = one (LetterAtLeast q m) l served;
    }

-- Statements.

said_alone : (P : Named → Type 0) (s : ShardState) → s.part.shard ≡ 0
    → (to : NodeId) (m : Statement) (q : Part) (said : Said) → GoesOn P s.part q
    → SaidAtLeast m said q → s.coord ≡ []
    → RuleAlone P s (msg.Statement m) (answers (with_part s q) to m said)
said_alone P s own to m q (Did at reply wrote) goes held coord =
    says_alone P s (msg.Statement m) q (participating.answer (with_part s q) to m at
    (Ok (reply, wrote))) goes coord (goes.shard ∙ own) (λ meant. held)
said_alone P s own to m q (Blocked h) goes held coord = record {
  goes = goes;
  coord = coord;
  rec = tt;
  asked = tt;
  out = nothing LetterAlone;
  served = nothing (LetterAtLeast q (msg.Statement m));
}
said_alone P s own to m q (Refused why at) goes held coord = says_alone P s (msg.Statement m) q
    (participating.answer (with_part s q) to m at (Err why)) goes coord (goes.shard ∙ own) held
said_alone P s own to m q Late goes held coord = quiet_alone P s (msg.Statement m) q goes coord

-- Commits.

outcome_alone : (s : ShardState) (tag : Tag) (to : NodeId) (t : Option Told)
    → All LetterAlone (outcome_if s tag to t)
outcome_alone s tag to None = nothing LetterAlone
outcome_alone s tag to (Some t) = one LetterAlone (outcome s tag t to) tt

outcome_served : (q : Part) (m : Commit) (s : ShardState) (tag : Tag) (to : NodeId)
    (t : Option Told) → All (LetterAtLeast q (msg.Commit m)) (outcome_if s tag to t)
outcome_served q m s tag to None = nothing (LetterAtLeast q (msg.Commit m))
outcome_served q m s tag to (Some t) = one (LetterAtLeast q (msg.Commit m)) (outcome s tag t to) tt

-- What is coordinated: nothing.

none_coordinated : (s : ShardState) (tag : Tag) → s.coord ≡ [] → coordinated_of s.coord tag ≡ None
none_coordinated s tag none = ap (λ (c : Coordinations). coordinated_of c tag) none

resends_none : (Q : Letter → Type 0) (own : ℕ) (coords : Coordinations) → coords ≡ []
    → All Q (resends own coords)
resends_none Q own coords none =
    subst (λ (c : Coordinations). All Q (resends own c)) (sym none) (nothing Q)

pub resend_alone : (P : Named → Type 0) (s : ShardState) (m : Msg) → s.coord ≡ []
    → RuleAlone P s m (on_resend s)
resend_alone P s m none =
    record {
      goes = same_goes P s.part;
      coord = none;
      rec = tt;
      asked = tt;
      out = resends_none LetterAlone s.part.shard s.coord none;
      served = resends_none (LetterAtLeast s.part m) s.part.shard s.coord none;
    }

module _ (P : Named → Type 0) (s : ShardState) (none : s.coord ≡ []) (m : Recover) where
  abbrev R : Ruled → Type 0
  R r = RuleAlone P s (msg.Recover m) r

  tells_alone : (router : ℕ) (q : Part) (t : Told) → GoesOn P s.part q
      → R (tells (with_part s q) router m.tag t)
  tells_alone router q t goes = says_alone P s (msg.Recover m) q _ goes none tt tt

  coordinated_case : (router : ℕ) (c : Option Coordinated) (other : Ruled)
      → coordinated_of s.coord m.tag ≡ c → R other → R (unless_coordinated s router m.tag c other)
  coordinated_case router None other is h = h
  coordinated_case router (Some c) other is h = let wrong : None ≡ Some c =
      sym (none_coordinated s m.tag none) ∙ is in cc

  older_case : (router : ℕ) (have : Option ℤ) (other : Ruled) → R other
      → R (unless_older s router m.tag have other)
  older_case router None other h = h
  older_case router (Some have) other h =
      tells_alone router s.part (told.TooOld have) (same_goes P s.part)

  recover_alone : (router : Option ℕ) → R (from_router s (λ n. on_recover s n m) router)
  recover_alone None = quiet_alone P s (msg.Recover m) s.part (same_goes P s.part) none
  recover_alone (Some n) =
      older_case n (larger_number (session s.part m.lsid) m.number)
      (unless_coordinated s n m.tag (coordinated_of s.coord m.tag) (recovers s n m))
      (coordinated_case n (coordinated_of s.coord m.tag) (recovers s n m) refl
      (tells_alone n (recover s.part m).1 (recover s.part m).0 (recover_goes P s.part m)))

pub ruled_alone : (P : Named → Type 0) → IsOnce P → (s : ShardState) → s.part.shard ≡ 0
    → SessionsNamed P s.part.sessions → s.coord ≡ [] → (from : NodeId) (m : Msg) → IsAlone m
    → IfSome (named_in m) P → RuleAlone P s m (ruled s from m)
ruled_alone P once s own all none from (msg.Statement m) alone named =
    let turn = statement s.part s.clock.last s.wall m in
    let h = statement_goes P once s.part all m named s.clock.last s.wall in
    either (elsewhere s.part m.lsid m.tag) (RuleAlone P s (msg.Statement m)) _ _
    (quiet_alone P s (msg.Statement m) s.part (same_goes P s.part) none)
    (said_alone P s own from m turn.1 turn.0 h.0 h.1 none)
ruled_alone P once s own all none from (msg.Answer m) alone named =
    quiet_alone P s (msg.Answer m) s.part (same_goes P s.part) none
ruled_alone P once s own all none from (msg.Commit m) alone named =
    let c = commit s.part s.clock.last s.wall m in
    let h = commit_goes P s.part all s.clock.last s.wall m in
    record {
      goes = h.0;
      coord = none;
      rec = h.1;
      asked = h.2;
      out = outcome_alone s m.tag from c.told;
      served = outcome_served c.part m s m.tag from c.told;
    }
ruled_alone P once s own all none from (msg.Outcome m) alone named =
    quiet_alone P s (msg.Outcome m) s.part (same_goes P s.part) none
ruled_alone P once s own all none from (msg.Abort m) alone named =
    either (coordinates s m.tag) (RuleAlone P s (msg.Abort m)) _ _
    (quiet_alone P s (msg.Abort m) s.part (same_goes P s.part) none)
    (quiet_alone P s (msg.Abort m) (abort s.part m) (client_abort_goes P s.part m) none)
ruled_alone P once s own all none from (msg.CommitTwo m) alone named = absurd alone
ruled_alone P once s own all none from (msg.Prepare m) alone named = absurd alone
ruled_alone P once s own all none from (msg.Vote m) alone named = absurd alone
ruled_alone P once s own all none from (msg.Decide m) alone named = absurd alone
ruled_alone P once s own all none from (msg.Acked m) alone named = absurd alone
ruled_alone P once s own all none from (msg.Recover m) alone named =
    recover_alone P s none m (router_of from)
ruled_alone P once s own all none from msg.Nudge alone named = resend_alone P s msg.Nudge none
