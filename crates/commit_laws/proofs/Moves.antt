-- What an event does at a router leaves each session's transaction as it should stand; what goes
-- out a session waits for.
use Rattle.std.proofs.Common.{◌≡◌, ◌⊎◌, inl, inr, ℕ, false, List, [], ◌∷◌}
use Rattle.std.proofs.Common.{Some, refl, sym, subst, ◌∙◌, arith}
use Rattle.std.specs.Prelude.{Contains}
use Rattle.std.proofs.lemmas.List.Elements.{All-contains}
use Rattle.txn_types.specs.BySession.{BySession, entry_of}
use Rattle.txn_types.specs.Order.{same_lsid}
use Rattle.txn_types.specs.declared.names.Tag.{Tag}
use Rattle.txn_types.specs.declared.node.Lsid.{Lsid}
use Rattle.router_state.specs.declared.deed.Deed.{Deed}
use Rattle.router_state.specs.declared.deed.Given.{Given}
use Rattle.router_state.specs.declared.state.Doing.{Doing}
use Rattle.router_state.specs.declared.state.Doing.TheVariants.{Begun, Sought}
use Rattle.router_state.specs.declared.state.Session.{Session}
use Rattle.router_state.specs.declared.state.Transaction.{Transaction}
use Rattle.router_state.specs.Deeds.{Move, done_in, each_session, in_each_session}
use Rattle.router_state.specs.State.{Post, RouterState, session_of}
use Rattle.router_core.specs.Requests.{next_tag}
use Rattle.shard_image.proofs.Sessions.{entry_there}
use Rattle.answer_laws.proofs.Lists.{has_first, has_more}
use Rattle.told_laws.proofs.Moves.{done_there, each_from}
use Rattle.commit_laws.proofs.Once.{OnceUnder, put_once, stands_here, each_once, each_has}
use Rattle.commit_laws.proofs.Once.{each_sends}
use Rattle.commit_laws.proofs.Follows.{Follows, DoingFollows, IsPast, IsNoAsk, NoneAsk, FromDoing}
use Rattle.commit_laws.proofs.Follows.{SendsOf, DeedFrom}
use Rattle.commit_laws.proofs.Deeds.{no_asks, none_twice}

abbrev pub RouterFollows : (Tag → ℕ → ℕ → Type 0) → RouterState → Type 0
RouterFollows G r = (lsid : Lsid) (s : Session) → session_of r lsid ≡ Some s
    → DoingFollows G s.doing

-- the session had it before, and where its commit may have been sent that stays so
pub record Came (sessions : BySession Session) (lsid : Lsid) (v : Transaction) : Type 0 where
  pub session : Session
  pub there : entry_of lsid sessions ≡ Some session
  pub t : Transaction
  pub doing : session.doing ≡ Begun t
  pub tag_is : v.tag ≡ t.tag
  pub past : IsPast t.phase → IsPast v.phase

abbrev pub SessionKept : (Tag → ℕ → ℕ → Type 0) → RouterState → Lsid → Doing → Type 0
SessionKept G r lsid (Begun v) = Follows G v v.phase × Came r.sessions lsid v
SessionKept G r lsid (Sought seeking known) = Unit {0}

-- or it is new
abbrev pub SessionFrom : (Tag → ℕ → ℕ → Type 0) → RouterState → Lsid → Doing → Type 0
SessionFrom G r lsid (Begun v) =
    Follows G v v.phase × (Came r.sessions lsid v ⊎ (v.tag ≡ next_tag r))
SessionFrom G r lsid (Sought seeking known) = Unit {0}

-- a session waits for it
pub record SentFrom (sessions : BySession Session) (post : Post) : Type 0 where
  pub lsid : Lsid
  pub session : Session
  pub there : entry_of lsid sessions ≡ Some session
  pub t : Transaction
  pub doing : session.doing ≡ Begun t
  pub waits : Contains t.waiting post

pub record MoveFrom (G : Tag → ℕ → ℕ → Type 0) (r : RouterState) (m : Move) : Type 0 where
  pub sessions : (lsid : Lsid) (v : Session) → session_of m.state lsid ≡ Some v
      → SessionFrom G r lsid v.doing
  pub sends : (post : Post) → Contains m.given.sends post
      → SentFrom m.state.sessions post ⊎ IsNoAsk post.1
  pub aborts : NoneAsk m.given.aborts
  pub once : OnceUnder m.state.sessions

none_sent : {X : Type 0} (post : Post) → Contains [] post → X
none_sent post c = absurd (omega (arith, c.1))

module _ (G : Tag → ℕ → ℕ → Type 0) where
  kept_from : (r : RouterState) (lsid : Lsid) (doing : Doing) → SessionKept G r lsid doing
      → SessionFrom G r lsid doing
  kept_from r lsid (Begun v) h = (h.0, inl h.1)
  kept_from r lsid (Sought seeking known) h = tt

  self_case : (r : RouterState) (lsid : Lsid) (s : Session) (doing : Doing)
      → session_of r lsid ≡ Some s → s.doing ≡ doing → DoingFollows G doing
      → SessionKept G r lsid doing
  self_case r lsid s (Begun t) there is h = (
    h,
    record { session = s; there = there; t = t; doing = is; tag_is = refl; past = λ p. p },
  )
  self_case r lsid s (Sought seeking known) there is h = tt

  pub self_kept : (r : RouterState) (lsid : Lsid) (s : Session) → RouterFollows G r
      → session_of r lsid ≡ Some s → SessionKept G r lsid s.doing
  self_kept r lsid s h there = self_case r lsid s s.doing there refl (h lsid s there)

  deed_case : (r : RouterState) (lsid : Lsid) (s : Session) (old new : Doing)
      → session_of r lsid ≡ Some s → s.doing ≡ old → FromDoing G old new
      → SessionKept G r lsid new
  deed_case r lsid s old (Sought seeking known) there is h = tt
  deed_case r lsid s (Begun t) (Begun v) there is h = (
    h.1.0,
    record { session = s; there = there; t = t; doing = is; tag_is = h.0; past = h.1.1 },
  )
  deed_case r lsid s (Sought seeking known) (Begun v) there is h = absurd h

  pub deed_kept : (r : RouterState) (lsid : Lsid) (s : Session) (d : Deed)
      → session_of r lsid ≡ Some s → DeedFrom G s.doing d → SessionKept G r lsid d.session.doing
  deed_kept r lsid s d there h = deed_case r lsid s s.doing d.session.doing there refl h.doing

  -- what goes out of a session
  post_case : (r : RouterState) (lsid : Lsid) (s : Session) (doing : Doing) (sends : List Post)
      (post : Post) → session_of r lsid ≡ Some s → s.doing ≡ doing → SendsOf doing sends
      → Contains sends post → SentFrom r.sessions post ⊎ IsNoAsk post.1
  post_case r lsid s (Begun v) sends post there is (inl e) c =
      none_sent post (subst (λ (l : List Post). Contains l post) e c)
  post_case r lsid s (Begun v) sends post there is (inr e) c = inl (record {
    lsid = lsid;
    session = s;
    there = there;
    t = v;
    doing = is;
    waits = subst (λ (l : List Post). Contains l post) e c;
  })
  post_case r lsid s (Sought seeking known) sends post there is h c =
      inr (All-contains (λ (post : Post). IsNoAsk post.1) sends post h c)

  -- What is done in one session.

  pub done_from : (r : RouterState) (lsid : Lsid) (d : Deed) → RouterFollows G r
      → OnceUnder r.sessions → SessionFrom G r lsid d.session.doing
      → SendsOf d.session.doing d.given.sends → NoneAsk d.given.aborts
      → MoveFrom G r (done_in r lsid d)
  done_from r lsid d h once first sends aborts = record {
    sessions = λ other v e. by other v (done_there r lsid other d v e);
    sends = λ post c.
        post_case (done_in r lsid d).state lsid d.session d.session.doing d.given.sends post
        (entry_there lsid d.session r.sessions) refl sends c;
    aborts = aborts;
    once = put_once lsid d.session r.sessions once;
  }
    where
      by : (other : Lsid) (v : Session) → ((other ≡ lsid) × (v ≡ d.session)) ⊎
          ((same_lsid other lsid ≡ false) × (session_of r other ≡ Some v))
          → SessionFrom G r other v.doing
      by other v (inl w) =
          subst (λ (l : Lsid). SessionFrom G r l v.doing) (sym w.0)
          (subst (λ (s : Session). SessionFrom G r lsid s.doing) (sym w.1) first)
      by other v (inr w) = kept_from r other v.doing (self_kept r other v h w.1)

  pub deed_from : (r : RouterState) (lsid : Lsid) (s : Session) (d : Deed) → RouterFollows G r
      → OnceUnder r.sessions → session_of r lsid ≡ Some s → DeedFrom G s.doing d
      → MoveFrom G r (done_in r lsid d)
  deed_from r lsid s d h once there k =
      done_from r lsid d h once
      (kept_from r lsid d.session.doing (deed_kept r lsid s d there k)) k.sends k.aborts

  -- nothing is done in a session
  pub still_from : (r : RouterState) (g : Given) → RouterFollows G r → OnceUnder r.sessions
      → ((post : Post) → Contains g.sends post → SentFrom r.sessions post ⊎ IsNoAsk post.1)
      → NoneAsk g.aborts → MoveFrom G r (record { state = r; given = g })
  still_from r g h once sends aborts = record {
    sessions = λ lsid v e. kept_from r lsid v.doing (self_kept r lsid v h e);
    sends = sends;
    aborts = aborts;
    once = once;
  }

  -- What is done in each session.

  each_aborts : (act : Lsid → Session → Deed) (entries : BySession Session)
      → ((x : Lsid × Session) → Contains entries x → NoneAsk (act x.0 x.1).given.aborts)
      → NoneAsk (each_session act entries).1.aborts
  each_aborts act [] h = no_asks
  each_aborts act (entry ∷ entries) h =
      none_twice (act entry.0 entry.1).given.aborts (each_session act entries).1.aborts
      (h entry (has_first entry entries))
      (each_aborts act entries (λ x c. h x (has_more entry entries x c)))

  pub each_move : (act : Lsid → Session → Deed) (r : RouterState) → OnceUnder r.sessions
      → ((lsid : Lsid) (s : Session) → session_of r lsid ≡ Some s → DeedFrom G s.doing (act lsid s))
      → MoveFrom G r (in_each_session act r)
  each_move act r once h = record {
    sessions = λ lsid v e.
        let f = each_from act r lsid v e in
        subst (λ (w : Session). SessionFrom G r lsid w.doing) (sym f.2)
        (kept_from r lsid (act lsid f.0).session.doing
        (deed_kept r lsid f.0 (act lsid f.0) f.1 (h lsid f.0 f.1)));
    sends = λ post c.
        let x = each_sends act r.sessions post c in
        let k = h x.0.0 x.0.1 (stands_here r.sessions x.0 once x.1) in
        let behind = stands_here (each_session act r.sessions).0
        (x.0.0, (act x.0.0 x.0.1).session) (each_once act r.sessions once)
        (each_has act r.sessions x.0 x.1) in
        post_case (in_each_session act r).state x.0.0 (act x.0.0 x.0.1).session
        (act x.0.0 x.0.1).session.doing (act x.0.0 x.0.1).given.sends post behind refl k.sends
        x.2;
    aborts = each_aborts act r.sessions
        (λ x c. (h x.0 x.1 (stands_here r.sessions x once c)).aborts);
    once = each_once act r.sessions once;
  }

  -- One after the other, where nothing goes out but aborts.

  came_then : (r s : RouterState) (lsid : Lsid) (v : Transaction)
      → Came s.sessions lsid v
      → ((w : Session) → session_of s lsid ≡ Some w → SessionKept G r lsid w.doing)
      → Came r.sessions lsid v
  came_then r s lsid v c h =
      let k = subst (SessionKept G r lsid) c.doing (h c.session c.there) in
      record {
        session = k.1.session;
        there = k.1.there;
        t = k.1.t;
        doing = k.1.doing;
        tag_is = c.tag_is ∙ k.1.tag_is;
        past = λ p. c.past (k.1.past p);
      }

  pub kept_then : (r s : RouterState) (lsid : Lsid) (doing : Doing) → SessionKept G s lsid doing
      → ((w : Session) → session_of s lsid ≡ Some w → SessionKept G r lsid w.doing)
      → SessionKept G r lsid doing
  kept_then r s lsid (Begun v) h k = (h.0, came_then r s lsid v h.1 k)
  kept_then r s lsid (Sought seeking known) h k = tt

pub record EndsFrom (G : Tag → ℕ → ℕ → Type 0) (r : RouterState) (m : Move) : Type 0 where
  pub sessions : (lsid : Lsid) (v : Session) → session_of m.state lsid ≡ Some v
      → SessionKept G r lsid v.doing
  pub sends : m.given.sends ≡ []
  pub aborts : NoneAsk m.given.aborts
  pub once : OnceUnder m.state.sessions

pub ends_move : (G : Tag → ℕ → ℕ → Type 0) (r : RouterState) (m : Move) → EndsFrom G r m
    → MoveFrom G r m
ends_move G r m h = record {
  sessions = λ lsid v e. kept_from G r lsid v.doing (h.sessions lsid v e);
  sends = λ post c. none_sent post (subst (λ (l : List Post). Contains l post) h.sends c);
  aborts = h.aborts;
  once = h.once;
}

pub ends_follow : (G : Tag → ℕ → ℕ → Type 0) (r : RouterState) (m : Move) → EndsFrom G r m
    → RouterFollows G m.state
ends_follow G r m h lsid v e = by v.doing (h.sessions lsid v e)
  where
    by : (doing : Doing) → SessionKept G r lsid doing → DoingFollows G doing
    by (Begun t) k = k.0
    by (Sought seeking known) k = tt
