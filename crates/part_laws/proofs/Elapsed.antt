-- A part after an entry that comes to the commits, after expiries, and where the clock goes on.
use Rattle.std.proofs.Common.{◌≡◌, ◌≤◌, ◌-◌, ℕ, Bool, true, false, List, [], ◌∷◌, ◌++◌, Option}
use Rattle.std.proofs.Common.{Some, None, refl, ap, subst, ◌∙◌, sym, nat_lt, if◌then◌else◌}
use Rattle.std.specs.declared.cmp.Ordering.TheVariants.{Less}
use Rattle.std.specs.Ordering.{is_eq, ordering_reverse}
use Rattle.txn_types.specs.Order.{same_lsid, same_tag, lsid_cmp}
use Rattle.txn_types.specs.declared.cause.Cause.{Cause}
use Rattle.txn_types.specs.declared.cause.Cause.TheVariants as cause
use Rattle.txn_types.specs.declared.names.Tag.{Tag}
use Rattle.txn_types.specs.declared.node.Lsid.{Lsid}
use Rattle.txn_types.specs.declared.operation.OpErr.{OpErr}
use Rattle.txn_types.proofs.Orders.{lsid_total, lsid_exact}
use Rattle.txn_semantics.specs.declared.commits.Entry.{Entry}
use Rattle.txn_semantics.specs.Keyed.{AllAbove, Rises}
use Rattle.session_table.specs.declared.session.Session.{Session}
use Rattle.session_table.specs.declared.session.SessionState.{SessionState}
use Rattle.session_table.specs.declared.session.SessionState.TheVariants as state
use Rattle.participant.specs.declared.said.Open.{Open}
use Rattle.participant.specs.Expiry.{lifetime, expire_all, expire}
use Rattle.participant.specs.Part.{Part, session, open_of, ends_live, end_live}
use Rattle.participant.proofs.Ends.{entry_without}
use Rattle.participant.proofs.Tags.{tag_same}
use Rattle.part_laws.specs.Each.{Each}
use Rattle.part_laws.specs.Looked.{looked}
use Rattle.part_laws.specs.Sound.{Opened, Opens, with_opened, Served}
use Rattle.part_laws.specs.Steps.{decided_at, entry_of}
use Rattle.part_laws.specs.Parts.{opened_of, AtState, AtSession, HeldBy, IsServing, Holds}
use Rattle.part_laws.proofs.Looking.{looked_is_found, eq_self}
use Rattle.part_laws.proofs.Chains.{each_weaker, each_both}
use Rattle.part_laws.proofs.Ends.{clock_goes_on}
use Rattle.part_laws.proofs.Entering.{enters}
use Rattle.part_laws.proofs.Opening.{by_tag}
use Rattle.part_laws.proofs.Ended.{aborted_holds, live_same}

-- An entry.

module _ (boot : ℕ) (opens : Opens) (tag : Tag) (o : Opened) (since at : ℕ)
    (mine : opens tag ≡ Some o) (prepared : o.prepared ≡ Some since) where
  live_case : (other : Tag) (mine_too : Open) (b : Bool)
      → same_tag other tag ≡ b → opens other ≡ Some (opened_of boot mine_too)
      → (if b then Some (decided_at o at) else opens other) ≡ Some (opened_of boot mine_too)
  live_case other one true is there =
      let both : Some (opened_of boot one) ≡ Some o = sym there
      ∙ ap opens (tag_same other tag is) ∙ mine in
      let same : opened_of boot one ≡ o = cc in
      let wrong : None ≡ Some since = ap (λ (x : Opened). x.prepared) same ∙ prepared in cc
  live_case other one false is there = there

  prepared_case : (other : Tag) (time : ℕ) (x : Opened) (b : Bool) → same_tag other tag ≡ b
      → opens other ≡ Some x → x.prepared ≡ Some time
      → (y : Opened) × ((if b then Some (decided_at o at) else opens other) ≡ Some y)
      × (y.prepared ≡ Some time)
  prepared_case other time x true is there since_it =
      let both : Some x ≡ Some o = sym there ∙ ap opens (tag_same other tag is) ∙ mine in
      let same : x ≡ o = cc in
      (decided_at o at, refl, sym (ap (λ (z : Opened). z.prepared) same) ∙ since_it)
  prepared_case other time x false is there since_it = (x, there, since_it)

  entered_state : (other : Tag) (st : SessionState) (mine_too : Option Open)
      → AtState boot opens other st mine_too
      → AtState boot (with_opened tag (Some (decided_at o at)) opens) other st mine_too
  entered_state other state.Live None h = h
  entered_state other state.Live (Some one) h =
      (h.0, live_case other one (same_tag other tag) refl h.1)
  entered_state other (state.Prepared time coordinator) one h =
      (h.0, prepared_case other time h.1.0 (same_tag other tag) refl h.1.1 h.1.2)
  entered_state other (state.Committed time) one h = h
  entered_state other state.Released one h = h
  entered_state other (state.Aborted why read_at) one h = h

  entered_session : (s : Option Session) (mine_too : Option Open) → AtSession boot opens s mine_too
      → AtSession boot (with_opened tag (Some (decided_at o at)) opens) s mine_too
  entered_session None one h = h
  entered_session (Some s) one h = entered_state s.tag s.state one h

pub enter_holds : (p : Part) (opens : Opens) (last : ℕ) (before behind : List Entry)
    (served : List Served) → IsServing p opens last (before ++ behind) served
    → (tag : Tag) (o : Opened) (since at : ℕ) → opens tag ≡ Some o → o.prepared ≡ Some since
    → o.decided ≡ None → since ≤ at
    → Each (λ e. at ≤ e.at) behind → IsServing p (with_opened tag (Some (decided_at o at)) opens)
    last (before ++ entry_of tag o at ∷ behind) served
enter_holds p opens last before behind served part tag o since at mine prepared undecided up later =
    record {
      sound = enters p.store opens last before behind served part.sound tag o since at mine prepared
          undecided up later;
      rises = part.rises;
      sessions = λ lsid. entered_session p.boot opens tag o since at mine prepared (session p lsid)
          (open_of p lsid) (part.sessions lsid);
      kept = part.kept;
      refusals = part.refusals;
      held = by_tag (λ other opened. (x : Opened) → opened ≡ Some x
          → HeldBy p other) tag (Some (decided_at o at)) opens (λ x is.
          part.held tag o mine) (λ other apart x is. part.held other x is);
      alone = part.alone;
    }

pub clock_holds : (p : Part) (opens : Opens) (last : ℕ) (entries : List Entry)
    (served : List Served) → IsServing p opens last entries served → (later : ℕ) → last ≤ later
    → IsServing p opens later entries served
clock_holds p opens last entries served part later up =
    record {
      sound = clock_goes_on p.store opens last entries served part.sound later up;
      rises = part.rises;
      sessions = part.sessions;
      kept = part.kept;
      refusals = part.refusals;
      held = part.held;
      alone = part.alone;
    }

-- Expiries.

-- a session that has something live is live
live_state : (boot : ℕ) (opens : Opens) (tag : Tag) (st : SessionState) (o : Open)
    → AtState boot opens tag st (Some o) → st ≡ state.Live
live_state boot opens tag state.Live o h = refl
live_state boot opens tag (state.Prepared at coordinator) o h =
    let wrong : ◌≡◌ {A = Option Open} (Some o) None = h.0 in cc
live_state boot opens tag (state.Committed at) o h = cc
live_state boot opens tag state.Released o h = cc
live_state boot opens tag (state.Aborted why read_at) o h = cc

live_session : (boot : ℕ) (opens : Opens) (s : Option Session) (o : Open)
    → AtSession boot opens s (Some o) → (x : Session) × (s ≡ Some x) × (x.state ≡ state.Live)
live_session boot opens None o h = cc
live_session boot opens (Some s) o h = (s, refl, live_state boot opens s.tag s.state o h)

pub session_of_open : (p : Part) (opens : Opens) (last : ℕ) (entries : List Entry)
    (served : List Served) → IsServing p opens last entries served → (lsid : Lsid) (o : Open)
    → open_of p lsid ≡ Some o → (s : Session) × (session p lsid ≡ Some s) × (s.state ≡ state.Live)
session_of_open p opens last entries served part lsid o is = live_session p.boot opens (session p
    lsid) o (subst (λ x. AtSession p.boot opens (session p lsid) x) is (part.sessions lsid))

ends_case : (p : Part) (opens : Opens) (last : ℕ) (entries : List Entry) (served : List Served)
    → IsServing p opens last entries served → (lsid : Lsid) (why : Cause)
    → ((err : OpErr) → why ≡ cause.Statement err → ⊥) → (s : Session) (found : Option Session)
    → session p lsid ≡ found → session p lsid ≡ Some s → s.state ≡ state.Live
    → Holds opens (ends_live p lsid why found) last entries served
ends_case p opens last entries served part lsid why other s None found is live =
    (opens, part, λ tag. refl)
ends_case p opens last entries served part lsid why other s (Some t) found is live =
    let both : Some s ≡ Some t = sym is ∙ found in
    let same : s ≡ t = cc in (
      with_opened t.tag None opens,
      aborted_holds p opens last entries served part lsid t why other found
          (ap (λ (z : Session). z.state) (sym same) ∙ live),
      live_same p opens last entries served part lsid t found
          (ap (λ (z : Session). z.state) (sym same) ∙ live),
    )

end_one : (p : Part) (opens : Opens) (last : ℕ) (entries : List Entry) (served : List Served)
    → IsServing p opens last entries served → (lsid : Lsid) (why : Cause)
    → ((err : OpErr) → why ≡ cause.Statement err → ⊥) → (o : Open) → open_of p lsid ≡ Some o
    → Holds opens (end_live p lsid why) last entries served
end_one p opens last entries served part lsid why other o is =
    let s = session_of_open p opens last entries served part lsid o is in
    ends_case p opens last entries served part lsid why other s.0 (session p lsid) refl s.1 s.2

-- the others stay live
pub other_live : (p : Part) (lsid other : Lsid) (why : Cause) (s : Option Session)
    → same_lsid other lsid ≡ false → open_of (ends_live p lsid why s) other ≡ open_of p other
other_live p lsid other why None apart = refl
other_live p lsid other why (Some s) apart = entry_without other lsid apart p.live

pub less_apart : (a b : Lsid) → lsid_cmp a b ≡ Less → same_lsid b a ≡ false
less_apart a b less = ap is_eq (lsid_total.antisymm b a ∙ ap ordering_reverse less)

pub above_apart : (lsid : Lsid) (rest : List (Lsid × Open)) → AllAbove lsid_cmp lsid rest
    → Each (λ (entry : Lsid × Open). same_lsid entry.0 lsid ≡ false) rest
above_apart lsid [] above = tt
above_apart lsid (entry ∷ rest) above =
    (less_apart lsid entry.0 above.0, above_apart lsid rest above.1)

expire_case : (wall : ℕ) (entry : Lsid × Open) (rest : List (Lsid × Open)) (p : Part)
    (opens : Opens) (last : ℕ) (entries : List Entry) (served : List Served)
    → IsServing p opens last entries served → (b : Bool) → AllAbove lsid_cmp entry.0 rest
    → Each (λ (entry : Lsid × Open). open_of p entry.0 ≡ Some entry.1) (entry ∷ rest)
    → ((q : Part) (new : Opens) → IsServing q new last entries served
    → Each (λ (entry : Lsid × Open). open_of q entry.0 ≡ Some entry.1) rest
    → Holds new (expire_all wall rest q) last entries served)
    → Holds opens (expire_all wall rest (if b
    then end_live p entry.0 (cause.Expired entry.1.begun wall) else p)) last entries served
expire_case wall entry rest p opens last entries served part true above live more =
    let q = end_live p entry.0 (cause.Expired entry.1.begun wall) in
    let h = end_one p opens last entries served part entry.0 (cause.Expired entry.1.begun wall)
    (λ err h. cc) entry.1 live.0 in
    let rest_holds = more q h.0 h.1
    (each_both (λ (other : Lsid × Open). same_lsid other.0 entry.0 ≡ false)
    (λ (other : Lsid × Open). open_of p other.0 ≡ Some other.1)
    (λ (other : Lsid × Open). open_of q other.0 ≡ Some other.1)
    (λ other apart there. other_live p entry.0 other.0 (cause.Expired entry.1.begun wall)
    (session p entry.0) apart ∙ there) rest (above_apart entry.0 rest above) live.1) in
    (rest_holds.0, rest_holds.1, λ tag. rest_holds.2 tag ∙ h.2 tag)
expire_case wall entry rest p opens last entries served part false above live more =
    more p opens part live.1

expire_rest : (wall : ℕ) (rest : List (Lsid × Open)) (p : Part) (opens : Opens) (last : ℕ)
    (entries : List Entry) (served : List Served) → IsServing p opens last entries served
    → Rises lsid_cmp rest
    → Each (λ (entry : Lsid × Open). open_of p entry.0 ≡ Some entry.1) rest
    → Holds opens (expire_all wall rest p) last entries served
expire_rest wall [] p opens last entries served part rises live = (opens, part, λ tag. refl)
expire_rest wall (entry ∷ rest) p opens last entries served part rises live =
    expire_case wall entry rest p opens last entries served part
    (nat_lt lifetime (wall - entry.1.begun)) rises.0 live
    (λ q new part live. expire_rest wall rest q new last entries served part rises.1 live)

-- all in the list are live at first
pub looked_case : (entry : Lsid × Open) (rest : List (Lsid × Open)) (other : Lsid × Open)
    → same_lsid other.0 entry.0 ≡ false → looked lsid_cmp other.0 rest ≡ Some other.1
    → looked lsid_cmp other.0 (entry ∷ rest) ≡ Some other.1
looked_case entry rest other apart there =
    ap (λ b. if b then Some entry.1 else looked lsid_cmp other.0 rest) apart ∙ there

pub all_looked : (rest : List (Lsid × Open)) → Rises lsid_cmp rest
    → Each (λ (entry : Lsid × Open). looked lsid_cmp entry.0 rest ≡ Some entry.1) rest
all_looked [] rises = tt
all_looked (entry ∷ rest) rises = (
  ap (λ b. if b then Some entry.1 else looked lsid_cmp entry.0 rest)
      (eq_self lsid_cmp lsid_total lsid_exact entry.0),
  each_both (λ (other : Lsid × Open). same_lsid other.0 entry.0 ≡ false)
      (λ (other : Lsid × Open). looked lsid_cmp other.0 rest ≡ Some other.1)
      (λ (other : Lsid × Open). looked lsid_cmp other.0 (entry ∷ rest) ≡ Some other.1)
      (λ other apart there. looked_case entry rest other apart there) rest
      (above_apart entry.0 rest rises.0) (all_looked rest rises.1),
)

pub expire_holds : (p : Part) (opens : Opens) (last : ℕ) (entries : List Entry)
    (served : List Served) → IsServing p opens last entries served → (wall : ℕ)
    → Holds opens (expire p wall) last entries served
unfolding expire
expire_holds p opens last entries served part wall =
    expire_rest wall p.live p opens last entries served part part.rises
    (each_weaker (λ (entry : Lsid × Open). looked lsid_cmp entry.0 p.live ≡ Some entry.1)
    (λ (entry : Lsid × Open). open_of p entry.0 ≡ Some entry.1) (λ entry there.
    looked_is_found lsid_cmp entry.0 p.live ∙ there) p.live (all_looked p.live part.rises))
