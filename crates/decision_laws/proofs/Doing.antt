-- What is said of a statement that is done is what its live transaction has then; and what this has
-- written it had written before, where its newest statement wrote nothing.
use Rattle.std.proofs.Common.{◌≡◌, ◌++◌, ℕ, Bool, true, false, List, [], ◌∷◌, Option, Some, None}
use Rattle.std.proofs.Common.{Result, Ok, Err, nat_eq, nat_lt, refl, sym, ap, ◌∙◌}
use Rattle.std.proofs.Common.{if◌then◌else◌}
use Rattle.txn_types.specs.BySession.{entry_of}
use Rattle.txn_types.specs.Order.{same_tag, lsid_cmp}
use Rattle.txn_types.proofs.Orders.{lsid_total, lsid_exact}
use Rattle.txn_types.specs.declared.cause.By.{By}
use Rattle.txn_types.specs.declared.cause.Cause.{Cause}
use Rattle.txn_types.specs.declared.cause.Cause.TheVariants as cause
use Rattle.txn_types.specs.declared.id.Id.{Id}
use Rattle.txn_types.specs.declared.message.Statement.{Statement}
use Rattle.txn_types.specs.declared.names.Tag.{Tag}
use Rattle.txn_types.specs.declared.node.Lsid.{Lsid}
use Rattle.txn_types.specs.declared.operation.OpReply.{OpReply}
use Rattle.txn_types.specs.declared.write.Write.{Write}
use Rattle.txn_semantics.specs.Keyed.{Rises, put, taken_out}
use Rattle.txn_semantics.specs.Meaning.{Meaning, eval, ns_of}
use Rattle.txn_semantics.specs.Rows.{Row}
use Rattle.txn_semantics.specs.Touched.{touched}
use Rattle.txn_semantics.specs.Writes.{write_set}
use Rattle.journal_rec.specs.Volume.{volume}
use Rattle.session_table.specs.Sessions.{is_full}
use Rattle.session_table.specs.declared.session.Session.{Session}
use Rattle.session_table.specs.declared.session.SessionState.{SessionState}
use Rattle.session_table.specs.declared.session.SessionState.TheVariants as state
use Rattle.version_store.specs.Versions.{scan, conflict}
use Rattle.version_store.specs.declared.version.Held.{Held}
use Rattle.version_store.proofs.Keyed.{found}
use Rattle.version_store.proofs.TakenBack.{found_put}
use Rattle.participant.specs.declared.said.Open.{Open}
use Rattle.participant.specs.declared.said.Said.{Said}
use Rattle.participant.specs.declared.said.Said.TheVariants.{Did, Blocked, Refused, Late}
use Rattle.participant.specs.Part.{Part, session, open_of, aborted, closed, is_replaced}
use Rattle.participant.specs.Statement as stm
use Rattle.participant.proofs.Cases.{either}
use Rattle.participant.proofs.Tags.{tag_same}
use Rattle.part_laws.specs.Turned.{NoneBegins}
use Rattle.part_laws.proofs.Turns.{same_boot}
use Rattle.serving_laws.proofs.Ending.{gone}
use Rattle.decision_laws.proofs.Ageing.{some_same}

-- the session has the transaction live, and its newest statement was told so
pub record Has (q : Part) (lsid : Lsid) (tag : Tag) (k : ℕ) (reply : OpReply)
    (wrote : Bool) : Type 0 where
  pub mine : Open
  pub there : open_of q lsid ≡ Some mine
  pub tag_is : mine.tag ≡ tag
  pub k_is : mine.k ≡ k
  pub reply_is : mine.reply ≡ reply
  pub wrote_is : mine.wrote ≡ wrote

abbrev Says : Part → Statement → Said → Type 0
Says q m (Did at reply wrote) = Has q m.lsid m.tag m.k reply wrote
Says q m other = Unit {0}

-- where the newest statement of what is live wrote nothing, what it has written it had written
-- before
abbrev pub HadWritten : Part → Part → Lsid → Type 0
HadWritten p q lsid = (o : Open) → open_of q lsid ≡ Some o → (o.writes ≡ [] → ⊥)
    → o.wrote ≡ false
    → (x : Open) × (open_of p lsid ≡ Some x) × (x.tag ≡ o.tag) × (x.writes ≡ [] → ⊥)

pub had_same : (p q : Part) → NoneBegins p q → (lsid : Lsid) → HadWritten p q lsid
had_same p q h lsid o there some none = (o, h lsid o there, refl, some)

pub record TurnHas (p : Part) (m : Statement) (t : stm.Turn) : Type 0 where
  pub says : Says t.1 m t.0
  pub had : HadWritten p t.1 m.lsid

put_entry : (lsid : Lsid) (o : Open) (live : List (Lsid × Open))
    → entry_of lsid (put lsid_cmp lsid o live) ≡ Some o
put_entry lsid o live = sym (found lsid_cmp lsid (put lsid_cmp lsid o live))
    ∙ found_put lsid_cmp lsid_total lsid_exact lsid o live

none_wrote : (writes : List Write) → stm.wrote writes ≡ false → writes ≡ []
none_wrote [] e = refl
none_wrote (write ∷ writes) e = let wrong : true ≡ false = e in cc

module _ (p : Part) (rises : Rises lsid_cmp p.live) (m : Statement)
    (tags : (o : Open) (s : Session) → open_of p m.lsid ≡ Some o → session p m.lsid ≡ Some s
    → s.tag ≡ o.tag) where
  abbrev T : stm.Turn → Type 0
  T t = TurnHas p m t

  -- nothing is done
  rests : (said : Said) → Says p m said → T (said, p)
  rests said h = record { says = h; had = λ o there some none. (o, there, refl, some) }

  closes : (q : Part) (said : Said) → Says q m said
      → q.live ≡ taken_out lsid_cmp m.lsid p.live → T (said, q)
  closes q said h live = record {
    says = h;
    had = λ o there some none. (
      o,
      gone p rises m.lsid m.lsid o (ap (entry_of m.lsid) (sym live) ∙ there),
      refl,
      some,
    );
  }

  closed_live : (o : Option Open) → open_of p m.lsid ≡ o → (x : Open)
      → open_of (closed p m.lsid o) m.lsid ≡ Some x → open_of p m.lsid ≡ Some x
  closed_live None is x there = there
  closed_live (Some o) is x there = gone p rises m.lsid m.lsid x there

  refuses : (why : Cause) (at : ℕ) → T (stm.refuses p m why at)
  refuses why at = record {
    says = tt;
    had = λ o there some none. (
      o,
      closed_live (open_of p m.lsid) refl o there,
      refl,
      some,
    );
  }

  -- what it has before the statement
  abbrev IsMine : Option Open → Type 0
  IsMine None = Unit {0}
  IsMine (Some o) = (open_of p m.lsid ≡ Some o) × (o.tag ≡ m.tag)

  had_before : (mine : Option Open) → IsMine mine → (stm.writes_with mine [] ≡ [] → ⊥)
      → (x : Open) × (open_of p m.lsid ≡ Some x) × (x.tag ≡ m.tag) × (x.writes ≡ [] → ⊥)
  had_before None is some = absurd (some refl)
  had_before (Some o) is some = (
    o,
    is.0,
    is.1,
    λ none. some (ap (λ (ws : List Write). write_set (ws ++ [])) none),
  )

  does : (wall at : ℕ) (mine : Option Open) (reply : OpReply) (writes : List Write) → IsMine mine
      → T (stm.does p wall m at mine reply writes)
  does wall at mine reply writes is =
      let now : Open = stm.opened wall m at mine reply writes in
      let q : Part = (stm.does p wall m at mine reply writes).1 in
      let there : open_of q m.lsid ≡ Some now =
      put_entry m.lsid now (stm.made_room p m mine).live in
      record {
        says = record {
          mine = now;
          there = there;
          tag_is = refl;
          k_is = refl;
          reply_is = refl;
          wrote_is = refl;
        };
        had = λ o found some none.
            let same : now ≡ o = some_same now o (sym there ∙ found) in
            let no : writes ≡ [] =
            none_wrote writes (ap (λ (x : Open). x.wrote) same ∙ none) in
            let x = had_before mine is (λ empty.
            some (ap (λ (y : Open). y.writes) (sym same)
            ∙ ap (stm.writes_with mine) no ∙ empty)) in
            (x.0, x.1, x.2 ∙ ap (λ (y : Open). y.tag) same, x.3);
      }

  within : (wall at : ℕ) (mine : Option Open) (reply : OpReply) (writes : List Write)
      → IsMine mine → T (stm.within_volume p wall m at mine reply writes)
  within wall at mine reply writes is =
      either (nat_lt stm.most_bytes (volume (stm.writes_with mine writes))) T _ _
      (refuses (cause.Volume (volume (stm.writes_with mine writes))) 0)
      (does wall at mine reply writes is)

  conflicts : (wall at : ℕ) (mine : Option Open) (reply : OpReply) (writes : List Write)
      (c : Option (Id × By)) → IsMine mine → T (stm.unless_conflict p wall m at mine reply writes c)
  conflicts wall at mine reply writes None is = within wall at mine reply writes is
  conflicts wall at mine reply writes (Some c) is = refuses (cause.WriteConflict c.0 c.1) 0

  evaluated : (wall at : ℕ) (mine : Option Open) (meaning : Meaning) → IsMine mine
      → T (stm.evaluated p wall m at mine meaning)
  evaluated wall at mine (Err err) is = refuses (cause.Statement err) at
  evaluated wall at mine (Ok done) is =
      conflicts wall at mine done.0 done.1 (conflict p.store at m.tag done.1) is

  scanned : (wall at : ℕ) (mine : Option Open) (rows : Result (List Row) Held) → IsMine mine
      → T (stm.scanned p wall m at mine rows)
  scanned wall at mine (Err held) is = rests (Blocked held) tt
  scanned wall at mine (Ok rows) is = evaluated wall at mine (eval m.op rows) is

  performed : (wall at : ℕ) (mine : Option Open) → IsMine mine
      → T (stm.performed p wall m at mine)
  unfolding stm.performed
  performed wall at mine is =
      scanned wall at mine (scan p.store (ns_of m.op) (touched m.op) at m.tag) is

  refused : (why : Cause) → T (stm.refused p why)
  refused why = rests (Refused why 0) tt

  beside_older : (last wall : ℕ) (older : Tag) (st : SessionState)
      → T (stm.beside_older p last wall m older st)
  beside_older last wall older state.Live = performed wall (stm.read_time last m) None tt
  beside_older last wall older (state.Prepared at coordinator) =
      refused (cause.PreparedStands older)
  beside_older last wall older (state.Committed at) =
      performed wall (stm.read_time last m) None tt
  beside_older last wall older state.Released = performed wall (stm.read_time last m) None tt
  beside_older last wall older (state.Aborted why read_at) =
      performed wall (stm.read_time last m) None tt

  beside : (last wall : ℕ) (s : Option Session) → T (stm.beside p last wall m s)
  beside last wall None = either (is_full p.sessions) T _ _ (refused cause.TooManySessions)
      (performed wall (stm.read_time last m) None tt)
  beside last wall (Some s) = beside_older last wall s.tag s.state

  first : (last wall : ℕ) (s : Option Session) → T (stm.first_statement p last wall m s)
  first last wall s = either (nat_eq m.boot 0) T _ _ (beside last wall s)
      (refused (cause.Unavailable m.boot p.boot))

  -- one of its live transaction
  goes_on : (wall : ℕ) (s : Session) (o : Option Open) → open_of p m.lsid ≡ o
      → session p m.lsid ≡ Some s → s.tag ≡ m.tag → T (stm.goes_on p wall m s o)
  goes_on wall s None has is own = rests Late tt
  goes_on wall s (Some o) has is own = again (nat_eq m.k o.k) refl
    where
      tag : o.tag ≡ m.tag
      tag = sym (tags o s has is) ∙ own

      later : T (if nat_lt m.k o.k then (Late, p)
          else if nat_eq m.boot p.boot then stm.performed p wall m o.read_at (Some o)
          else (
            Refused (cause.Unavailable m.boot p.boot) 0,
            aborted p m.lsid s (cause.Unavailable m.boot p.boot),
          ))
      later = either (nat_lt m.k o.k) T _ _ (rests Late tt)
          (either (nat_eq m.boot p.boot) T _ _ (performed wall o.read_at (Some o) (has, tag))
          (closes (aborted p m.lsid s (cause.Unavailable m.boot p.boot))
          (Refused (cause.Unavailable m.boot p.boot) 0) tt refl))

      again : (test : Bool) → nat_eq m.k o.k ≡ test
          → T (if test then (Did o.read_at o.reply o.wrote, p)
          else if nat_lt m.k o.k then (Late, p)
          else if nat_eq m.boot p.boot then stm.performed p wall m o.read_at (Some o)
          else (
            Refused (cause.Unavailable m.boot p.boot) 0,
            aborted p m.lsid s (cause.Unavailable m.boot p.boot),
          ))
      again true same = rests (Did o.read_at o.reply o.wrote) (record {
        mine = o;
        there = has;
        tag_is = tag;
        k_is = sym (same_boot m.k o.k same);
        reply_is = refl;
        wrote_is = refl;
      })
      again false same = later

  later_statement : (wall : ℕ) (s : Session) (st : SessionState) → session p m.lsid ≡ Some s
      → s.tag ≡ m.tag → T (stm.later_statement p wall m s st)
  later_statement wall s state.Live is own = goes_on wall s (open_of p m.lsid) refl is own
  later_statement wall s (state.Prepared at coordinator) is own = rests Late tt
  later_statement wall s (state.Committed at) is own = rests Late tt
  later_statement wall s state.Released is own = rests Late tt
  later_statement wall s (state.Aborted why read_at) is own = rests (Refused why read_at) tt

  own_case : (last wall : ℕ) (s : Session) (test : Bool) → same_tag s.tag m.tag ≡ test
      → session p m.lsid ≡ Some s → T (if test then stm.later_statement p wall m s s.state
      else stm.first_statement p last wall m (Some s))
  own_case last wall s true same is =
      later_statement wall s s.state is (tag_same s.tag m.tag same)
  own_case last wall s false same is = first last wall (Some s)

  by_session : (last wall : ℕ) (s : Option Session) → session p m.lsid ≡ s
      → T (stm.by_session p last wall m s)
  by_session last wall None is = first last wall None
  by_session last wall (Some s) is =
      either (is_replaced s m.number m.tag) T _ _ (refused (cause.Replaced s.number s.tag))
      (own_case last wall s (same_tag s.tag m.tag) refl is)

  pub statement_has : (last wall : ℕ) → T (stm.statement p last wall m)
  unfolding stm.statement
  statement_has last wall = by_session last wall (session p m.lsid) refl
