-- A part after a statement.
use Rattle.std.proofs.Common.{◌≡◌, ◌⊎◌, inl, inr, ⊎_elim, ◌<◌, ◌≤◌, ◌||◌, ◌&&◌, ℕ, Bool, true}
use Rattle.std.proofs.Common.{false, cond, not, List, [], ◌∷◌, Option, Some, None, Result, Ok, Err}
use Rattle.std.proofs.Common.{find, option_map, refl, ap, subst, ◌∙◌, sym, arith, nat_eq, nat_lt}
use Rattle.std.proofs.Common.{if◌then◌else◌}
use Rattle.std.specs.List.{list_any}
use Rattle.std.specs.Option.{option_and_then}
use Rattle.txn_types.specs.BySession.{BySession, entry_of}
use Rattle.txn_types.specs.Order.{same_lsid, same_tag, lsid_cmp}
use Rattle.txn_types.specs.declared.cause.By.{By}
use Rattle.txn_types.specs.declared.cause.Cause.{Cause}
use Rattle.txn_types.specs.declared.cause.Cause.TheVariants as cause
use Rattle.txn_types.specs.declared.id.Id.{Id}
use Rattle.txn_types.specs.declared.message.Statement.{Statement}
use Rattle.txn_types.specs.declared.names.Tag.{Tag}
use Rattle.txn_types.specs.declared.node.Lsid.{Lsid}
use Rattle.txn_types.specs.declared.operation.OpErr.{OpErr}
use Rattle.txn_types.specs.declared.operation.OpReply.{OpReply}
use Rattle.txn_types.specs.declared.write.Write.{Write}
use Rattle.txn_types.proofs.Orders.{lsid_total, lsid_exact}
use Rattle.txn_semantics.specs.declared.commits.Entry.{Entry}
use Rattle.txn_semantics.specs.Keyed.{put, taken_out, Rises}
use Rattle.txn_semantics.specs.Meaning.{Meaning, eval, ns_of}
use Rattle.txn_semantics.specs.Rows.{Row}
use Rattle.txn_semantics.specs.Touched.{touched}
use Rattle.txn_semantics.specs.Writes.{Place, place_cmp}
use Rattle.txn_semantics.proofs.Laying.{rises_put, rises_taken_out}
use Rattle.txn_semantics.proofs.Steps.{filters}
use Rattle.journal_rec.specs.Volume.{volume}
use Rattle.session_table.specs.Sessions.{is_full}
use Rattle.session_table.specs.declared.session.Session.{Session}
use Rattle.session_table.specs.declared.session.SessionState.{SessionState}
use Rattle.session_table.specs.declared.session.SessionState.TheVariants as state
use Rattle.version_store.specs.declared.version.Held.{Held}
use Rattle.version_store.specs.declared.version.Stamp.TheVariants.{Unfinished}
use Rattle.version_store.specs.declared.version.Version.{Version}
use Rattle.version_store.specs.Versions.{Versions, versions_of, is_of, without, scan, conflict}
use Rattle.version_store.specs.Versions.{with_writes, dropped}
use Rattle.participant.specs.declared.said.Open.{Open}
use Rattle.participant.specs.declared.said.Said.{Said}
use Rattle.participant.specs.declared.said.Said.TheVariants.{Did, Blocked, Refused, Late}
use Rattle.participant.specs.Part.{Part, session, open_of, closed, aborted, is_replaced, is_open}
use Rattle.participant.specs.Statement as rules
use Rattle.participant.specs.Statement.{Turn, statement}
use Rattle.participant.proofs.Cases.{either}
use Rattle.participant.proofs.Ends.{entry_elsewhere, entry_without}
use Rattle.participant.proofs.Following.{either_is}
use Rattle.participant.proofs.Moving.{entry_here}
use Rattle.participant.proofs.Tags.{tag_self, tag_same, tag_flip, lsid_self, lsid_same}
use Rattle.participant.proofs.Written.{rises_dropped}
use Rattle.part_laws.specs.Each.{Among}
use Rattle.part_laws.specs.Seen.{Content, wrote_at}
use Rattle.part_laws.specs.Sound.{Opened, Opens, with_opened, decisions, own_of, Served, StandsAt}
use Rattle.part_laws.specs.Sound.{IsSound}
use Rattle.part_laws.specs.Steps.{Runs, running, serving}
use Rattle.part_laws.specs.Parts.{opened_of, LiveAt, AtState, HeldBy, IsKept, IsRefusedBy}
use Rattle.part_laws.specs.Parts.{IsServing, if_prepared, SamePrepared, Holds}
use Rattle.part_laws.specs.Turned.{IsRefusedAs, IsAnswered, Begins, IsAnew, LivesFor, Turned, Comes}
use Rattle.part_laws.proofs.Ends.{ends}
use Rattle.part_laws.proofs.Stores.{topped_by, versions-with_writes, rises-with_writes}
use Rattle.part_laws.proofs.Stores.{versions-dropped}
use Rattle.part_laws.proofs.Serving.{does, refuses}
use Rattle.part_laws.proofs.Opening.{by_tag, here_is}
use Rattle.part_laws.proofs.Moving.{live_put, live_taken, Moves, moved}
use Rattle.part_laws.proofs.Ended.{at_live, aborted_holds, live_same, open_same}
use Rattle.part_laws.proofs.Elapsed.{session_of_open}

-- Small things.

tags_differ : (a b : Tag) (x : Bool) → same_tag a b ≡ x → (a ≡ b → ⊥) → same_tag a b ≡ false
tags_differ a b true is never = absurd (never (tag_same a b is))
tags_differ a b false is never = is

never_same : (a b : Tag) → same_tag a b ≡ false → a ≡ b → ⊥
never_same a b differ same = let wrong : true ≡ false = sym (tag_self b)
    ∙ ap (λ t. same_tag t b) (sym same) ∙ differ in cc

sessions_differ : (a b : Lsid) → same_lsid a b ≡ false → a ≡ b → ⊥
sessions_differ a b apart same = let wrong : true ≡ false = sym (lsid_self b)
    ∙ ap (λ l. same_lsid l b) (sym same) ∙ apart in cc

pub one_some : {A : Type 0} (o : Option A) (a b : A) → o ≡ Some a → o ≡ Some b → a ≡ b
one_some o a b h k = let both : Some a ≡ Some b = sym h ∙ k in cc

why_is : (why other : Cause) (m n : ℕ) → state.Aborted why m ≡ state.Aborted other n → why ≡ other
why_is why other m n h = cc

-- no other session has the tag
or_none : (a b : Bool) → (a || b) ≡ false → (a ≡ false) × (b ≡ false)
or_none true b h = cc
or_none false b h = (refl, h)

newer_is : (a b : ℕ) → nat_eq a b ≡ false → nat_lt a b ≡ false → b < a
newer_is a b h k = grind (arith, h, k)

pub same_boot : (a b : ℕ) → nat_eq a b ≡ true → a ≡ b
same_boot a b h = grind (arith, h)

three : (a b c : Bool) → a ≡ false → b ≡ true → (not a && b && c) ≡ false → c ≡ false
three true b c ha hb h = cc
three false false c ha hb h = cc
three false true c ha hb h = h

elsewhere_one : (lsid : Lsid) (tag : Tag) (entry : Lsid × Session) (t : Session)
    → (not (same_lsid entry.0 lsid) && same_tag entry.1.tag tag && is_open entry.1.state) ≡ false
    → same_lsid entry.0 lsid ≡ false → entry.1 ≡ t → t.tag ≡ tag → is_open t.state ≡ false
elsewhere_one lsid tag entry t none apart is same =
    let here : same_tag entry.1.tag tag ≡ true = ap (λ (x : Session). same_tag x.tag tag) is
    ∙ ap (λ g. same_tag g tag) same ∙ tag_self tag in
    sym (ap (λ (x : Session). is_open x.state) is) ∙ three (same_lsid entry.0 lsid)
    (same_tag entry.1.tag tag) (is_open entry.1.state) apart here none

elsewhere_case : (lsid : Lsid) (tag : Tag) (other : Lsid) (t : Session) (entry : Lsid
    × Session) (found : Option (Lsid × Session)) (b : Bool) → same_lsid other entry.0 ≡ b
    → same_lsid other lsid ≡ false → t.tag ≡ tag
    → (not (same_lsid entry.0 lsid) && same_tag entry.1.tag tag && is_open entry.1.state) ≡ false
    → (option_map (λ (e : Lsid × Session). e.1) found ≡ Some t → is_open t.state ≡ false)
    → option_map (λ (e : Lsid × Session). e.1) (cond b (Some entry) found) ≡ Some t
    → is_open t.state ≡ false
elsewhere_case lsid tag other t entry found true is apart same none more there =
    elsewhere_one lsid tag entry t none (ap (λ l. same_lsid l lsid)
    (sym (lsid_same other entry.0 is)) ∙ apart) (let one : entry.1 ≡ t = cc in one) same
elsewhere_case lsid tag other t entry found false is apart same none more there = more there

pub elsewhere_all : (lsid : Lsid) (tag : Tag) (entries : BySession Session)
    → list_any (λ (entry : Lsid × Session). not (same_lsid entry.0 lsid) && same_tag entry.1.tag tag
    && is_open entry.1.state) entries ≡ false
    → (other : Lsid) (t : Session) → same_lsid other lsid ≡ false → entry_of other entries ≡ Some t
    → t.tag ≡ tag → is_open t.state ≡ false
elsewhere_all lsid tag [] none other t apart there same = cc
elsewhere_all lsid tag (entry ∷ entries) none other t apart there same =
    let both = or_none (not (same_lsid entry.0 lsid) && same_tag entry.1.tag tag && is_open
    entry.1.state) (list_any (λ (entry : Lsid × Session). not (same_lsid entry.0 lsid)
    && same_tag entry.1.tag tag && is_open entry.1.state) entries) none in
    elsewhere_case lsid tag other t entry (find (λ (e : Lsid × Session). same_lsid other e.0)
    entries) (same_lsid other entry.0) refl apart same both.0
    (λ more. elsewhere_all lsid tag entries both.1 other t apart more same) there

-- Stores that hold the same under each key.

pub alike : (store other : Versions) (opens : Opens) (last : ℕ) (entries : List Entry)
    (served : List Served) → IsSound store opens last entries served → Rises place_cmp other
    → ((place : Place) → versions_of store place ≡ versions_of other place)
    → IsSound other opens last entries served
alike store other opens last entries served sound rises same =
    record {
      rises = rises;
      stands = λ place. subst (StandsAt opens entries place) (same place) (sound.stands place);
      opened = sound.opened;
      right = sound.right;
      owns = sound.owns;
      known = sound.known;
      apart = sound.apart;
      whole = sound.whole;
      none = sound.none;
    }

topped_without : (tag older : Tag) (c : Content) (V : List Version) → same_tag tag older ≡ false
    → without older (topped_by tag c V) ≡ topped_by tag c (without older V)
topped_without tag older None V apart = refl
topped_without tag older (Some doc) V apart =
    ap (λ b. if not b then record { stamp = Unfinished tag; doc = doc }
    ∷ without older (without tag V) else without older (without tag V)) apart
    ∙ ap (λ W. record { stamp = Unfinished tag; doc = doc } ∷ W)
    (filters (λ v. not (is_of older v)) (λ v. not (is_of tag v)) V)

-- an older transaction ends before or after the writes of another
pub end_before : (store : Versions) (opens : Opens) (last : ℕ) (entries : List Entry)
    (served : List Served) (tag older : Tag) (writes : List Write) → Rises place_cmp store
    → same_tag tag older ≡ false
    → IsSound (dropped older (with_writes tag store writes)) opens last entries served
    → IsSound (with_writes tag (dropped older store) writes) opens last entries served
end_before store opens last entries served tag older writes rises apart sound =
    alike (dropped older (with_writes tag store writes))
    (with_writes tag (dropped older store) writes) opens last entries served sound
    (rises-with_writes tag (dropped older store) writes (rises_dropped older store rises))
    (λ place. versions-dropped older (with_writes tag store writes) place
    (rises-with_writes tag store writes rises)
    ∙ ap (without older) (versions-with_writes tag store place writes)
    ∙ topped_without tag older (wrote_at place writes) (versions_of store place) apart
    ∙ ap (topped_by tag (wrote_at place writes)) (sym (versions-dropped older store place rises))
    ∙ sym (versions-with_writes tag (dropped older store) place writes))

module _ (p : Part) (opens : Opens) (last : ℕ) (entries : List Entry)
    (served : List Served) (part : IsServing p opens last entries served) (m : Statement)
    (comes : Comes p opens last entries served m) where
  -- the session's transaction isn't prepared
  abbrev IsOpenLive : Type 0
  IsOpenLive = (t : Session) → session p m.lsid ≡ Some t → is_open t.state ≡ true
      → t.state ≡ state.Live

  same_turn : (said : Said) → IsAnswered p.boot served m said
      → Turned p opens last entries served m (said, p)
  same_turn said answered = record {
    told = served;
    holds = (opens, part, λ tag. refl);
    grows = inl (refl, λ lsid o there. there);
    answered = answered;
  }

  -- what the session's live transaction is
  live_tag : (o : Open) (s : Session) → open_of p m.lsid ≡ Some o → session p m.lsid ≡ Some s
      → s.state ≡ state.Live → LiveAt p.boot opens s.tag (Some o)
  live_tag o s there is live = subst (LiveAt p.boot opens s.tag) there (at_live p opens last entries
      served part m.lsid s is live)

  -- no open session where nothing is live
  not_open : IsOpenLive → open_of p m.lsid ≡ None → (t : Session) → session p m.lsid ≡ Some t
      → is_open t.state ≡ true → ⊥
  not_open free none t is still = subst (LiveAt p.boot opens t.tag) none (at_live p opens last
      entries served part m.lsid t is (free t is still))

  alone_there : (other : Lsid) (t s : Session) → same_lsid other m.lsid ≡ false
      → session p other ≡ Some t → session p m.lsid ≡ Some s → is_open t.state ≡ true
      → is_open s.state ≡ true → t.tag ≡ s.tag → ⊥
  alone_there other t s apart there is ot os same =
      sessions_differ other m.lsid apart (part.alone other m.lsid t s there is ot os same)

  -- Refusals that end the transaction.

  refuse_case : (st : SessionState) → is_open st ≡ false
      → ((boot : ℕ) (os : Opens) (tag : Tag) → AtState boot os tag st None) → IsOpenLive
      → (told : List Served) → ((x : Served) → Among x served → Among x told)
      → ((err : OpErr) (n : ℕ) → st ≡ state.Aborted (cause.Statement err) n
      → IsRefusedBy p.boot told m.tag err n) → IsSound p.store opens last entries told
      → (o : Option Open) → open_of p m.lsid ≡ o
      → Holds opens (rules.stands (closed p m.lsid o) m st) last entries told
  refuse_case st shut at free told more refused sound None none =
      let q = rules.stands p m st in
      let s : Session = record { number = m.number; tag = m.tag; state = st } in
      let moves : Moves p q opens opens m.lsid s None =
      record {
        boot = refl;
        own = entry_here m.lsid s p.sessions.entries;
        live = none;
        state = at p.boot opens m.tag;
        sessions = λ other apart. entry_elsewhere other m.lsid apart s p.sessions.entries;
        lives = λ other apart. refl;
        others = λ other t apart there still.
            (refl, (λ same now. let wrong : true ≡ false = sym now ∙ shut in cc));
        held = λ tag x is. inr (is, (λ t there still same. not_open free none t there still));
        rises = part.rises;
      } in (
        opens,
        moved p q opens opens m.lsid s None moves last entries served part last entries told more
            (λ mine is. cc) refused sound,
        λ tag. refl,
      )
  refuse_case st shut at free told more refused sound (Some o) there =
      let q = rules.stands (closed p m.lsid (Some o)) m st in
      let s : Session = record { number = m.number; tag = m.tag; state = st } in
      let old = session_of_open p opens last entries served part m.lsid o there in
      let mine = live_tag o old.0 there old.1 old.2 in
      let still_old : is_open old.0.state ≡ true = ap is_open old.2 in
      let new = with_opened o.tag None opens in
      let moves : Moves p q opens new m.lsid s None =
      record {
        boot = refl;
        own = entry_here m.lsid s p.sessions.entries;
        live = live_taken m.lsid p.live part.rises;
        state = at p.boot new m.tag;
        sessions = λ other apart. entry_elsewhere other m.lsid apart s p.sessions.entries;
        lives = λ other apart. entry_without other m.lsid apart p.live;
        others = λ other t apart is still. (
          ap (λ b. if b then None else opens t.tag)
              (tags_differ t.tag o.tag (same_tag t.tag o.tag) refl
              (λ same. alone_there other t old.0 apart is old.1 still still_old (same ∙ mine.0))),
          (λ same now. let wrong : true ≡ false = sym now ∙ shut in cc),
        );
        held = by_tag (λ tag opened. (x : Opened) → opened ≡ Some x → ((m.tag ≡ tag)
            × (is_open st ≡ true)) ⊎ ((opens tag ≡ Some x) × ((t : Session) → session p m.lsid
            ≡ Some t → is_open t.state ≡ true → t.tag ≡ tag → ⊥))) o.tag None opens
            (λ x is. cc)
            (λ tag differ x is. inr (
              is,
              (λ t found still same. never_same tag o.tag differ (sym same ∙ ap (λ (z : Session).
                  z.tag) (one_some (session p m.lsid) t old.0 found old.1) ∙ sym mine.0)),
            ));
        rises = rises_taken_out lsid_cmp lsid_total lsid_exact m.lsid p.live part.rises;
      } in (
        new,
        moved p q opens new m.lsid s None moves last entries served part last entries told more
            (λ mine is. cc) refused
            (ends p.store opens last entries told sound o.tag
            (ap (option_and_then (λ (o : Opened). o.decided)) (ap opens mine.0 ∙ mine.1))),
        open_same o.tag None opens (sym (ap if_prepared (ap opens mine.0 ∙ mine.1))),
      )

  -- What is done.

  -- whose the session's open transaction is not
  abbrev NotHeld : Tag → Type 0
  NotHeld tag = (t : Session) → session p m.lsid ≡ Some t → is_open t.state ≡ true → t.tag ≡ tag → ⊥

  does_moved : (live : List (Lsid × Open)) (store : Versions) (new : Opens) (o : Open)
      → o.tag ≡ m.tag → Rises lsid_cmp live → ((other : Lsid) → same_lsid other m.lsid ≡ false
      → entry_of other live ≡ open_of p other) → new m.tag ≡ Some (opened_of p.boot o)
      → ((other : Lsid) (t : Session) → same_lsid other m.lsid ≡ false → session p other ≡ Some t
      → is_open t.state ≡ true → (new t.tag ≡ opens t.tag) × (m.tag ≡ t.tag → ⊥))
      → ((tag : Tag) (x : Opened) → new tag ≡ Some x
      → (m.tag ≡ tag) ⊎ ((opens tag ≡ Some x) × NotHeld tag))
      → (told : List Served) → ((x : Served) → Among x served → Among x told) → IsKept p.boot told o
      → IsSound store new last entries told → SamePrepared opens new
      → Holds opens (record (rules.stands p m state.Live)
      { live = put lsid_cmp m.lsid o live; store = store }) last entries told
  does_moved live store new o tagged rises others mine apart held told more kept sound prepared =
      let q : Part = record (rules.stands p m state.Live)
      { live = put lsid_cmp m.lsid o live; store = store } in
      let s : Session = record { number = m.number; tag = m.tag; state = state.Live } in
      let moves : Moves p q opens new m.lsid s (Some o) =
      record {
        boot = refl;
        own = entry_here m.lsid s p.sessions.entries;
        live = live_put m.lsid m.lsid o live
            ∙ ap (λ b. if b then Some o else entry_of m.lsid live) (lsid_self m.lsid);
        state = (tagged, mine);
        sessions = λ other away. entry_elsewhere other m.lsid away s p.sessions.entries;
        lives = λ other away. live_put other m.lsid o live
            ∙ ap (λ b. if b then Some o else entry_of other live) away ∙ others other away;
        others = λ other t away is still. let both = apart other t away is still in
            (both.0, (λ same now. both.1 same));
        held = λ tag x is. ⊎_elim (λ same. inl (same, refl)) (λ old. inr old) (held tag x is);
        rises = rises_put lsid_cmp lsid_total lsid_exact m.lsid o live rises;
      } in (
        new,
        moved p q opens new m.lsid s (Some o) moves last entries served part last entries
            told more (λ one is. let same : o ≡ one = cc in subst (IsKept p.boot told) same kept)
            (λ err n h. cc) sound,
        prepared,
      )

  -- What is live after a statement.

  left_other : (found : Option Open) (other : Lsid) → same_lsid other m.lsid ≡ false
      → open_of (closed p m.lsid found) other ≡ open_of p other
  left_other None other apart = refl
  left_other (Some o) other apart = entry_without other m.lsid apart p.live

  left_own : (found : Option Open) → open_of p m.lsid ≡ found
      → open_of (closed p m.lsid found) m.lsid ≡ None
  left_own None is = is
  left_own (Some o) is = live_taken m.lsid p.live part.rises

  left_case : (found : Option Open) → open_of p m.lsid ≡ found → (lsid : Lsid) (o : Open) (b : Bool)
      → same_lsid lsid m.lsid ≡ b → open_of (closed p m.lsid found) lsid ≡ Some o
      → (same_lsid lsid m.lsid ≡ false) × (open_of p lsid ≡ Some o)
  left_case found is lsid o true same there =
      let wrong : None ≡ Some o = sym (left_own found is)
      ∙ ap (open_of (closed p m.lsid found)) (sym (lsid_same lsid m.lsid same)) ∙ there in cc
  left_case found is lsid o false apart there = (apart, sym (left_other found lsid apart) ∙ there)

  left_lives : (lsid : Lsid) (o : Open) → open_of (closed p m.lsid (open_of p m.lsid)) lsid ≡ Some o
      → (same_lsid lsid m.lsid ≡ false) × (open_of p lsid ≡ Some o)
  left_lives lsid o there =
      left_case (open_of p m.lsid) refl lsid o (same_lsid lsid m.lsid) refl there

  room_other : (mine : Option Open) (other : Lsid) → same_lsid other m.lsid ≡ false
      → open_of (rules.made_room p m mine) other ≡ open_of p other
  room_other None other apart = left_other (open_of p m.lsid) other apart
  room_other (Some o) other apart = refl

  does_case : (live : List (Lsid × Open)) (new o : Open) (lsid : Lsid) (b : Bool)
      → same_lsid lsid m.lsid ≡ b
      → ((other : Lsid) → same_lsid other m.lsid ≡ false → entry_of other live ≡ open_of p other)
      → entry_of lsid (put lsid_cmp m.lsid new live) ≡ Some o → ((same_lsid lsid m.lsid ≡ false)
      × (open_of p lsid ≡ Some o)) ⊎ ((lsid ≡ m.lsid) × (new ≡ o))
  does_case live new o lsid true same others there =
      let is : Some new ≡ Some o = sym (live_put lsid m.lsid new live
      ∙ ap (λ b. if b then Some new else entry_of lsid live) same) ∙ there in
      let one : new ≡ o = cc in
      inr (lsid_same lsid m.lsid same, one)
  does_case live new o lsid false apart others there =
      inl (
        apart,
        sym (live_put lsid m.lsid new live ∙ ap (λ b. if b then Some new else entry_of lsid live)
            apart ∙ others lsid apart) ∙ there,
      )

  does_lives : (wall at : ℕ) (mine : Option Open) (reply : OpReply) (writes own : List Write)
      → LivesFor p (rules.does p wall m at mine reply writes).1 m.lsid (serving m.tag p.boot m.k at
      m.op own (Ok (reply, writes)))
  does_lives wall at mine reply writes own lsid o there =
      let new = rules.opened wall m at mine reply writes in
      ⊎_elim (λ (h : (same_lsid lsid m.lsid ≡ false) × (open_of p lsid ≡ Some o)). inl h)
      (λ (h : (lsid ≡ m.lsid) × (new ≡ o)). inr (
        h.0,
        (
          sym (ap (λ (x : Open). x.tag) h.1),
          sym (ap (λ (x : Open). x.k) h.1),
          sym (ap (λ (x : Open). x.read_at) h.1),
          ap (λ (x : Open). Ok x.reply) h.1,
        ),
      ))
      (does_case (rules.made_room p m mine).live new o lsid (same_lsid lsid m.lsid) refl
      (room_other mine) there)

  -- what a statement finds of its transaction, and what is done then
  record Ready (wall at : ℕ) (mine : Option Open) : Type 0 where
    runs : Runs p.boot at (opens m.tag)
    behind : at ≤ last
    free : IsOpenLive
    anew : IsAnew p m at
    done : (reply : OpReply) (writes : List Write) (told : List Served) → ((x : Served)
        → Among x served → Among x told)
        → IsKept p.boot told (rules.opened wall m at mine reply writes)
        → IsSound (with_writes m.tag p.store writes) (with_opened m.tag
        (Some (running p.boot at (opens m.tag) writes)) opens) last entries told
        → Holds opens (rules.with_open (rules.made_room p m mine) m
        (rules.opened wall m at mine reply writes) writes) last entries told

  -- its transaction goes on
  module _ (wall : ℕ) (o : Open) (s : Session) (there : open_of p m.lsid ≡ Some o)
      (is : session p m.lsid ≡ Some s) (live : s.state ≡ state.Live) (same : s.tag ≡ m.tag)
      (newer : o.k < m.k) (boot : m.boot ≡ p.boot) where
    mine_is : opens m.tag ≡ Some (opened_of p.boot o)
    mine_is = ap opens (sym same) ∙ (live_tag o s there is live).1

    other_differs : (other : Lsid) (t : Session) → same_lsid other m.lsid ≡ false
        → session p other ≡ Some t → is_open t.state ≡ true → t.tag ≡ m.tag → ⊥
    other_differs other t away found still one =
        alone_there other t s away found is still (ap is_open live) (one ∙ sym same)

    ready_own : Ready wall o.read_at (Some o)
    ready_own =
        record {
          runs = subst (Runs p.boot o.read_at) (sym mine_is) (refl, refl, refl, refl);
          behind = (part.sound.opened m.tag (opened_of p.boot o) mine_is).reads;
          free = λ t found still. ap (λ (z : Session). z.state) (one_some (session p m.lsid) t s
              found is) ∙ live;
          anew = (
            comes.alone,
            inr (o, there, (live_tag o s there is live).0 ∙ same, newer, boot, refl),
          );
          done = λ reply writes told more kept sound.
              let x : Option Opened = Some (running p.boot o.read_at (opens m.tag) writes) in
              let new = with_opened m.tag x opens in
              does_moved p.live (with_writes m.tag p.store writes) new (rules.opened wall m
              o.read_at (Some o) reply writes) refl part.rises (λ other away. refl)
              (here_is m.tag x opens ∙ ap (λ mo. Some (running p.boot o.read_at mo writes)) mine_is)
              (λ other t away found still.
              let differ : same_tag t.tag m.tag ≡ false = tags_differ t.tag m.tag (same_tag t.tag
              m.tag) refl (other_differs other t away found still) in (
                ap (λ b. if b then x else opens t.tag) differ,
                (λ one. other_differs other t away found still (sym one)),
              ))
              (by_tag (λ tag opened. (y : Opened) → opened ≡ Some y → (m.tag ≡ tag)
              ⊎ ((opens tag ≡ Some y) × NotHeld tag)) m.tag x opens (λ y some. inl refl)
              (λ tag differ y some. inr (
                some,
                (λ t found still one. never_same tag m.tag differ (sym one ∙ ap
                    (λ (z : Session). z.tag) (one_some (session p m.lsid) t s found is) ∙ same)),
              )))
              told more kept sound (open_same m.tag x opens (sym (ap if_prepared mine_is)));
        }

  -- a new one begins
  read_behind : (b : Bool) → (if b then last else m.read_at) ≤ last
  read_behind true = omega arith
  read_behind false = comes.reads

  named_case : (b : Bool) → nat_eq m.read_at 0 ≡ b
      → (m.read_at ≡ 0) ⊎ ((if b then last else m.read_at) ≡ m.read_at)
  named_case true is = inl (same_boot m.read_at 0 is)
  named_case false is = inr refl

  -- the moment that it names, if it names one
  reads_named : (m.read_at ≡ 0) ⊎ (rules.read_time last m ≡ m.read_at)
  reads_named = named_case (nat_eq m.read_at 0) refl

  held_where : (by : HeldBy p m.tag) (b : Bool) → same_lsid by.0 m.lsid ≡ b
      → ((t : Session) → session p m.lsid ≡ Some t → t.tag ≡ m.tag → ⊥) → ⊥
  held_where by true here other =
      other by.1 (ap (session p) (sym (lsid_same by.0 m.lsid here)) ∙ by.2) by.3
  held_where by false away other =
      let wrong : true ≡ false = sym by.4
      ∙ elsewhere_all m.lsid m.tag p.sessions.entries comes.alone by.0 by.1 away by.2 by.3 in cc

  none_case : (mine : Option Opened) → opens m.tag ≡ mine
      → ((t : Session) → session p m.lsid ≡ Some t → t.tag ≡ m.tag → ⊥) → opens m.tag ≡ None
  none_case None is other = is
  none_case (Some x) is other = let by = part.held m.tag x is in
      absurd (held_where by (same_lsid by.0 m.lsid) refl other)

  module _ (wall : ℕ) (free : IsOpenLive) (begins : Begins p m (rules.read_time last m)) where
    other_tag : (t : Session) → session p m.lsid ≡ Some t → t.tag ≡ m.tag → ⊥
    other_tag t found = never_same t.tag m.tag (begins.1 t found).1

    new_none : opens m.tag ≡ None
    new_none = none_case (opens m.tag) refl other_tag

    elsewhere_differs : (other : Lsid) (t : Session) → same_lsid other m.lsid ≡ false
        → session p other ≡ Some t → is_open t.state ≡ true → t.tag ≡ m.tag → ⊥
    elsewhere_differs other t away found still one =
        let wrong : true ≡ false = sym still
        ∙ elsewhere_all m.lsid m.tag p.sessions.entries comes.alone other t away found one in cc

    done_new : (at : ℕ) (reply : OpReply) (writes : List Write) (told : List Served) → ((x : Served)
        → Among x served → Among x told)
        → IsKept p.boot told (rules.opened wall m at None reply writes)
        → IsSound (with_writes m.tag p.store writes) (with_opened m.tag
        (Some (running p.boot at (opens m.tag) writes)) opens) last entries told
        → (found : Option Open) → open_of p m.lsid ≡ found
        → Holds opens (rules.with_open (closed p m.lsid found) m
        (rules.opened wall m at None reply writes) writes) last entries told
    done_new at reply writes told more kept sound None nothing =
        let x : Option Opened = Some (running p.boot at (opens m.tag) writes) in
        does_moved p.live (with_writes m.tag p.store writes) (with_opened m.tag x opens)
        (rules.opened wall m at None reply writes) refl part.rises (λ other away. refl)
        (here_is m.tag x opens ∙ ap (λ mo. Some (running p.boot at mo writes)) new_none)
        (λ other t away found still.
        let differ : same_tag t.tag m.tag ≡ false = tags_differ t.tag m.tag (same_tag t.tag m.tag)
        refl (elsewhere_differs other t away found still) in (
          ap (λ b. if b then x else opens t.tag) differ,
          (λ one. elsewhere_differs other t away found still (sym one)),
        ))
        (by_tag (λ tag opened. (y : Opened) → opened ≡ Some y → (m.tag ≡ tag)
        ⊎ ((opens tag ≡ Some y) × NotHeld tag)) m.tag x opens (λ y some. inl refl)
        (λ tag differ y some.
        inr (some, (λ t found still one. not_open free nothing t found still))))
        told more kept sound (open_same m.tag x opens (sym (ap if_prepared new_none)))
    done_new at reply writes told more kept sound (Some o) there =
        let x : Option Opened = Some (running p.boot at (opens m.tag) writes) in
        let once = with_opened m.tag x opens in
        let new = with_opened o.tag None once in
        let old = session_of_open p opens last entries served part m.lsid o there in
        let mine = live_tag o old.0 there old.1 old.2 in
        let still_old : is_open old.0.state ≡ true = ap is_open old.2 in
        let apart : m.tag ≡ o.tag → ⊥ = λ one. other_tag old.0 old.1 (sym mine.0 ∙ sym one) in
        let differ : same_tag m.tag o.tag ≡ false =
        tags_differ m.tag o.tag (same_tag m.tag o.tag) refl apart in
        let back : same_tag o.tag m.tag ≡ false = tag_flip o.tag m.tag ∙ differ in
        let undecided : decisions once o.tag ≡ None = ap (λ b.
        option_and_then (λ (o : Opened). o.decided) (if b then x else opens o.tag)) back
        ∙ ap (option_and_then (λ (o : Opened). o.decided)) (ap opens mine.0 ∙ mine.1) in
        does_moved (taken_out lsid_cmp m.lsid p.live) (with_writes m.tag
        (dropped o.tag p.store) writes) new (rules.opened wall m at None reply writes)
        refl (rises_taken_out lsid_cmp lsid_total lsid_exact m.lsid p.live part.rises)
        (λ other away. entry_without other m.lsid away p.live)
        (ap (λ b. if b then None else once m.tag) differ ∙ here_is m.tag x opens
        ∙ ap (λ mo. Some (running p.boot at mo writes)) new_none)
        (λ other t away found still.
        let not_new : same_tag t.tag m.tag ≡ false = tags_differ t.tag m.tag (same_tag t.tag m.tag)
        refl (elsewhere_differs other t away found still) in
        let not_old : same_tag t.tag o.tag ≡ false =
        tags_differ t.tag o.tag (same_tag t.tag o.tag) refl (λ one.
        alone_there other t old.0 away found old.1 still still_old (one ∙ mine.0)) in (
          ap (λ b. if b then None else once t.tag) not_old
              ∙ ap (λ b. if b then x else opens t.tag) not_new,
          (λ one. elsewhere_differs other t away found still (sym one)),
        ))
        (by_tag (λ tag opened. (y : Opened) → opened ≡ Some y
        → (m.tag ≡ tag) ⊎ ((opens tag ≡ Some y) × NotHeld tag)) o.tag None once (λ y some. cc)
        (λ tag not_old.
        by_tag (λ tag opened. same_tag tag o.tag ≡ false → (y : Opened) → opened ≡ Some y → (m.tag
        ≡ tag) ⊎ ((opens tag ≡ Some y) × NotHeld tag)) m.tag x opens (λ _ y some. inl refl)
        (λ tag not_new not_old y some. inr (
          some,
          (λ t found still one. never_same tag o.tag not_old (sym one ∙ ap (λ (z : Session). z.tag)
              (one_some (session p m.lsid) t old.0 found old.1) ∙ sym mine.0)),
        )) tag not_old))
        told more kept
        (end_before p.store new last entries told m.tag o.tag writes part.sound.rises differ
        (ends (with_writes m.tag p.store writes) once last entries told sound o.tag undecided))
        (λ tag. open_same o.tag None once (sym (ap (λ b. if_prepared (if b then x else opens o.tag))
        back ∙ ap if_prepared (ap opens mine.0 ∙ mine.1))) tag
        ∙ open_same m.tag x opens (sym (ap if_prepared new_none)) tag)

    ready_new : Ready wall (rules.read_time last m) None
    ready_new =
        record {
          runs = subst (Runs p.boot (rules.read_time last m)) (sym new_none) tt;
          behind = read_behind (nat_eq m.read_at 0);
          free = free;
          anew = (comes.alone, inl begins);
          done = λ reply writes told more kept sound. done_new (rules.read_time last m) reply writes
              told more kept sound (open_of p m.lsid) refl;
        }

  -- The boot stays.

  closed_boot : (found : Option Open) → p.boot ≡ (closed p m.lsid found).boot
  closed_boot None = refl
  closed_boot (Some o) = refl

  room_boot : (mine : Option Open) → p.boot ≡ (rules.made_room p m mine).boot
  room_boot None = closed_boot (open_of p m.lsid)
  room_boot (Some o) = refl

  -- The rules 6 to 10.

  more_one : (s : Served) (x : Served) → Among x served → Among x (s ∷ served)
  more_one s x h = inr h

  same_refusal : (err e : OpErr) (at n : ℕ) (s : Served)
      → s.tag ≡ m.tag → (s.read_at ≡ at) × (s.meaning ≡ Err err) → s.life ≡ p.boot
      → state.Aborted (cause.Statement err) at ≡ state.Aborted (cause.Statement e) n
      → IsRefusedBy p.boot (s ∷ served) m.tag e n
  same_refusal err e at n s tagged told life h =
      let time : at ≡ n = cc in
      let one : err ≡ e = cc in
      (s, inl refl, tagged, told.0 ∙ time, told.1 ∙ ap Err one, life)

  module _ (wall at : ℕ) (mine : Option Open) (ready : Ready wall at mine) where
    refuse_turn : (why : Cause) (read_at : ℕ)
        → ((err : OpErr) → why ≡ cause.Statement err → ⊥)
        → IsRefusedAs (rules.refuses p m why read_at).1.boot served m why read_at
        → Turned p opens last entries served m (rules.refuses p m why read_at)
    refuse_turn why read_at other answered =
        record {
          told = served;
          holds = refuse_case (state.Aborted why read_at) refl (λ boot os tag.
              refl) ready.free served (λ x h. h) (λ err n h. absurd (other err
              (why_is why (cause.Statement err) read_at n h))) part.sound (open_of p m.lsid) refl;
          grows = inl (refl, λ lsid o there. (left_lives lsid o there).1);
          answered = answered;
        }

    done_turn : (rows : List Row) (reply : OpReply) (writes : List Write)
        → scan p.store (ns_of m.op) (touched m.op) at m.tag ≡ Ok rows
        → eval m.op rows ≡ Ok (reply, writes) → conflict p.store at m.tag writes ≡ None
        → Turned p opens last entries served m (rules.does p wall m at mine reply writes)
    done_turn rows reply writes is means clear =
        let s = serving m.tag p.boot m.k at m.op (own_of (opens m.tag)) (Ok (reply, writes)) in
        record {
          told = s ∷ served;
          holds = ready.done reply writes (s
              ∷ served) (more_one s) (s, inl refl, refl, refl, refl, refl, refl)
              (does p.store opens last entries served part.sound m.tag p.boot m.k at m.op ready.runs
              comes.fresh ready.behind rows reply writes is means clear);
          grows = inr (
            s,
            refl,
            (refl, refl, refl),
            room_boot mine,
            (refl, refl),
            ready.anew,
            does_lives wall at mine reply writes (own_of (opens m.tag)),
          );
          answered = (s, inl refl, refl, refl, refl, refl, room_boot mine);
        }

    clear_turn : (rows : List Row) (reply : OpReply) (writes : List Write) (c : Option (Id × By))
        → scan p.store (ns_of m.op) (touched m.op) at m.tag ≡ Ok rows
        → eval m.op rows ≡ Ok (reply, writes) → conflict p.store at m.tag writes ≡ c
        → Turned p opens last entries served m
        (rules.unless_conflict p wall m at mine reply writes c)
    clear_turn rows reply writes None is means clear =
        either (nat_lt rules.most_bytes (volume (rules.writes_with mine writes)))
        (Turned p opens last entries served m) _ _
        (refuse_turn (cause.Volume (volume (rules.writes_with mine writes))) 0 (λ err h. cc) tt)
        (done_turn rows reply writes is means clear)
    clear_turn rows reply writes (Some c) is means clear =
        refuse_turn (cause.WriteConflict c.0 c.1) 0 (λ err h. cc) tt

    meant_turn : (rows : List Row) (meaning : Meaning)
        → scan p.store (ns_of m.op) (touched m.op) at m.tag ≡ Ok rows → eval m.op rows ≡ meaning
        → Turned p opens last entries served m (rules.evaluated p wall m at mine meaning)
    meant_turn rows (Err err) is means =
        let s = serving m.tag p.boot m.k at m.op (own_of (opens m.tag)) (Err err) in
        record {
          told = s ∷ served;
          holds = refuse_case (state.Aborted (cause.Statement err) at) refl (λ boot os tag.
              refl) ready.free (s ∷ served) (more_one s) (λ e n h.
              same_refusal err e at n s refl (refl, refl) refl h)
              (refuses p.store opens last entries served part.sound m.tag p.boot m.k at
              m.op ready.runs comes.fresh ready.behind rows (Err err) is means refl)
              (open_of p m.lsid) refl;
          grows = inr (
            s,
            refl,
            (refl, refl, refl),
            closed_boot (open_of p m.lsid),
            (refl, refl),
            ready.anew,
            λ lsid o there. inl (left_lives lsid o there),
          );
          answered = (s, inl refl, refl, refl, refl, closed_boot (open_of p m.lsid));
        }
    meant_turn rows (Ok done) is means =
        clear_turn rows done.0 done.1 (conflict p.store at m.tag done.1) is means refl

    scanned_turn : (found : Result (List Row) Held)
        → scan p.store (ns_of m.op) (touched m.op) at m.tag ≡ found
        → Turned p opens last entries served m (rules.scanned p wall m at mine found)
    scanned_turn (Err held) is = same_turn (Blocked held) tt
    scanned_turn (Ok rows) is = meant_turn rows (eval m.op rows) is refl

    performed_turn : Turned p opens last entries served m (rules.performed p wall m at mine)
    unfolding rules.performed
    performed_turn = scanned_turn (scan p.store (ns_of m.op) (touched m.op) at m.tag) refl

  -- The rules 1 to 5.

  refused_turn : (why : Cause) → IsRefusedAs p.boot served m why 0
      → Turned p opens last entries served m (rules.refused p why)
  refused_turn why answered = same_turn (Refused why 0) answered

  module _ (wall : ℕ) (s : Session) (is : session p m.lsid ≡ Some s) (same : s.tag ≡ m.tag) where
    again_turn : (o : Open) → open_of p m.lsid ≡ Some o → s.state ≡ state.Live → m.k ≡ o.k
        → Turned p opens last entries served m (Did o.read_at o.reply o.wrote, p)
    again_turn o there live k =
        let kept = part.kept m.lsid o there in
        same_turn (Did o.read_at o.reply o.wrote) (
          kept.0,
          kept.1,
          kept.2 ∙ (live_tag o s there is live).0 ∙ same,
          kept.3 ∙ sym k,
          kept.4,
          kept.5,
          kept.6,
        )

    gone_case : (lsid : Lsid) (o : Open) (b : Bool) → same_lsid lsid m.lsid ≡ b
        → entry_of lsid (taken_out lsid_cmp m.lsid p.live) ≡ Some o → open_of p lsid ≡ Some o
    gone_case lsid o true at there =
        let wrong : None ≡ Some o = sym (live_taken m.lsid p.live part.rises) ∙ ap (λ l. entry_of l
        (taken_out lsid_cmp m.lsid p.live)) (sym (lsid_same lsid m.lsid at)) ∙ there in cc
    gone_case lsid o false apart there = sym (entry_without lsid m.lsid apart p.live) ∙ there

    gone_turn : (live : s.state ≡ state.Live) (why : Cause)
        → ((err : OpErr) → why ≡ cause.Statement err → ⊥) → IsRefusedAs p.boot served m why 0
        → Turned p opens last entries served m (Refused why 0, aborted p m.lsid s why)
    gone_turn live why other answered = record {
      told = served;
      holds = (
        with_opened s.tag None opens,
        aborted_holds p opens last entries served part m.lsid s why other is live,
        live_same p opens last entries served part m.lsid s is live,
      );
      grows = inl (refl, λ lsid o there. (gone_case lsid o (same_lsid lsid m.lsid) refl there));
      answered = answered;
    }

    number_turn : (o : Open) (b : Bool) → nat_eq m.k o.k ≡ b → open_of p m.lsid ≡ Some o
        → s.state ≡ state.Live
        → Turned p opens last entries served m
        (if b then (Did o.read_at o.reply o.wrote, p) else if nat_lt m.k o.k then (Late, p)
        else if nat_eq m.boot p.boot then rules.performed p wall m o.read_at (Some o) else (
          Refused (cause.Unavailable m.boot p.boot) 0,
          aborted p m.lsid s (cause.Unavailable m.boot p.boot),
        ))
    number_turn o true k there live = again_turn o there live (grind (arith, k))
    number_turn o false k there live =
        either_is (nat_lt m.k o.k) (Turned p opens last entries served m) _ _
        (λ late. same_turn Late tt)
        (λ later. either_is (nat_eq m.boot p.boot) (Turned p opens last entries served m) _ _
        (λ boot. performed_turn wall o.read_at (Some o) (ready_own wall o s there is live same
        (newer_is m.k o.k k later) (same_boot m.boot p.boot boot)))
        (λ other. gone_turn live (cause.Unavailable m.boot p.boot) (λ err h. cc) tt))

    on_turn : (o : Option Open) → open_of p m.lsid ≡ o → s.state ≡ state.Live
        → Turned p opens last entries served m (rules.goes_on p wall m s o)
    on_turn None there live = same_turn Late tt
    on_turn (Some o) there live = number_turn o (nat_eq m.k o.k) refl there live

    told_again : (why : Cause) (n : ℕ) → s.state ≡ state.Aborted why n
        → IsRefusedAs p.boot served m why n
    told_again (cause.Statement err) n st = let h = part.refusals m.lsid s err n is st in
        (h.0, h.1, h.2 ∙ same, h.3, h.4, h.5)
    told_again other n st = tt

    later_turn : (st : SessionState) → s.state ≡ st
        → Turned p opens last entries served m (rules.later_statement p wall m s st)
    later_turn state.Live live = on_turn (open_of p m.lsid) refl live
    later_turn (state.Prepared at coordinator) live = same_turn Late tt
    later_turn (state.Committed at) live = same_turn Late tt
    later_turn state.Released live = same_turn Late tt
    later_turn (state.Aborted why read_at) live =
        same_turn (Refused why read_at) (told_again why read_at live)

  begin_turn : (wall : ℕ) → IsOpenLive → Begins p m (rules.read_time last m)
      → Turned p opens last entries served m (rules.begins p last wall m)
  begin_turn wall free begins =
      performed_turn wall (rules.read_time last m) None (ready_new wall free begins)

  module _ (wall : ℕ) (s : Session) (is : session p m.lsid ≡ Some s)
      (kept : is_replaced s m.number m.tag ≡ false) (differ : same_tag s.tag m.tag ≡ false) where
    begins : m.boot ≡ 0 → Begins p m (rules.read_time last m)
    begins none = (
      none,
      λ t found. let one : s ≡ t = one_some (session p m.lsid) s t is found in (
        subst (λ (x : Session). is_replaced x m.number m.tag ≡ false) one kept,
        subst (λ (x : Session). same_tag x.tag m.tag ≡ false) one differ,
      ),
      reads_named,
    )

    free_from : (st : SessionState) → s.state ≡ st → (is_open st ≡ true → st ≡ state.Live)
        → IsOpenLive
    free_from st at h t found still =
        let one : t ≡ s = one_some (session p m.lsid) t s found is in
        ap (λ (z : Session). z.state) one ∙ at
        ∙ h (sym (ap is_open at) ∙ ap (λ (z : Session). is_open z.state) (sym one) ∙ still)

    beside_turn : m.boot ≡ 0 → (st : SessionState) → s.state ≡ st
        → Turned p opens last entries served m (rules.beside_older p last wall m s.tag st)
    beside_turn none state.Live at =
        begin_turn wall (free_from state.Live at (λ still. refl)) (begins none)
    beside_turn none (state.Prepared since coordinator) at =
        refused_turn (cause.PreparedStands s.tag) tt
    beside_turn none (state.Committed time) at =
        begin_turn wall (free_from (state.Committed time) at (λ still. cc)) (begins none)
    beside_turn none state.Released at =
        begin_turn wall (free_from state.Released at (λ still. cc)) (begins none)
    beside_turn none (state.Aborted why read_at) at =
        begin_turn wall (free_from (state.Aborted why read_at) at (λ still. cc)) (begins none)

    first_turn : Turned p opens last entries served m (rules.first_statement p last wall m (Some s))
    first_turn = either_is (nat_eq m.boot 0) (Turned p opens last entries served m) _ _ (λ none.
        beside_turn (same_boot m.boot 0 none) s.state refl) (λ some.
        refused_turn (cause.Unavailable m.boot p.boot) tt)

  none_turn : (wall : ℕ) → session p m.lsid ≡ None
      → Turned p opens last entries served m (rules.first_statement p last wall m None)
  none_turn wall none =
      either_is (nat_eq m.boot 0) (Turned p opens last entries served m) _ _
      (λ boot. either (is_full p.sessions) (Turned p opens last entries served m) _ _
      (refused_turn cause.TooManySessions tt)
      (begin_turn wall (λ t found still. let wrong : None ≡ Some t = sym none ∙ found in cc) (
        same_boot m.boot 0 boot,
        (λ t found. let wrong : None ≡ Some t = sym none ∙ found in cc),
        reads_named,
      )))
      (λ some. refused_turn (cause.Unavailable m.boot p.boot) tt)

  tag_turn : (wall : ℕ) (s : Session) (b : Bool) → is_replaced s m.number m.tag ≡ false
      → same_tag s.tag m.tag ≡ b → session p m.lsid ≡ Some s
      → Turned p opens last entries served m (if b then rules.later_statement p wall m s s.state
      else rules.first_statement p last wall m (Some s))
  tag_turn wall s true kept same is = later_turn wall s is (tag_same s.tag m.tag same) s.state refl
  tag_turn wall s false kept differ is = first_turn wall s is kept differ

  session_turn : (wall : ℕ) (s : Option Session) → session p m.lsid ≡ s
      → Turned p opens last entries served m (rules.by_session p last wall m s)
  session_turn wall None is = none_turn wall is
  session_turn wall (Some s) is =
      either_is (is_replaced s m.number m.tag) (Turned p opens last entries served m)
      _ _ (λ yes. refused_turn (cause.Replaced s.number s.tag) tt)
      (λ kept. tag_turn wall s (same_tag s.tag m.tag) kept refl is)

  pub statement_turns : (wall : ℕ) → Turned p opens last entries served m (statement p last wall m)
  unfolding statement
  statement_turns wall = session_turn wall (session p m.lsid) refl
