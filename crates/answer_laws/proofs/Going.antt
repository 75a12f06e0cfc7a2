-- Sessions go on: numbers rise, and a transaction that was begun stays until its session's number
-- rises.
use Rattle.std.proofs.Common.{◌≡◌, ◌⊎◌, inl, inr, ◌<ℤ◌, ℤ, Bool, true, false, [], ◌∷◌, Some, All}
use Rattle.std.proofs.Common.{refl, sym, ap, subst, ◌∙◌, arith, ℕ}
use Rattle.std.proofs.lemmas.List.Elements.{All-nil, All-cons, All-head, All-tail}
use Rattle.txn_types.specs.BySession.{BySession, entry_of, with_entry}
use Rattle.txn_types.specs.Order.{same_lsid}
use Rattle.txn_types.specs.declared.names.Tag.{Tag}
use Rattle.txn_types.specs.declared.node.Lsid.{Lsid}
use Rattle.txn_types.specs.declared.message.Statement.{Statement}
use Rattle.router_state.specs.declared.deed.Deed.{Deed}
use Rattle.router_state.specs.declared.state.Doing.{Doing}
use Rattle.router_state.specs.declared.state.Doing.TheVariants.{Begun, Sought}
use Rattle.router_state.specs.declared.state.Session.{Session}
use Rattle.router_state.specs.Deeds.{done_in, each_session, in_each_session}
use Rattle.router_state.specs.State.{RouterState, session_of}
use Rattle.shard_image.proofs.Sessions.{own_lsid, lsid_is}
use Rattle.txn_types.specs.Letters.{Named}
use Rattle.answer_laws.proofs.Fits.{PostFits, DoingFits, EntryFits, RouterFits, GivenFit, SameDoing}
use Rattle.answer_laws.proofs.Fits.{GoesOn, DeedFits, AllGo, MoveFits, IsIn, HasCome}
use Rattle.answer_laws.proofs.Deeds.{both_name}
use Rattle.world_laws.proofs.PartTimes.{entries_put}
use Rattle.world_laws.proofs.Going.{rises, first_is, rest_is, put_first, put_rest, some_same}

same_then : (a b c : Doing) → SameDoing a b → SameDoing b c → SameDoing a c
same_then (Begun t) (Begun u) (Begun v) h k = (k.0 ∙ h.0, omega (arith, h.1, k.1))
same_then (Begun t) (Begun u) (Sought seeking known) h k = absurd k
same_then (Begun t) (Sought seeking known) c h k = absurd h
same_then (Sought seeking known) b c h k = tt

same_self : (doing : Doing) → SameDoing doing doing
same_self (Begun t) = (refl, omega arith)
same_self (Sought seeking known) = tt

pub goes_self : (s : Session) → GoesOn s s
goes_self s = inr (refl, same_self s.doing)

goes_then : (a b c : Session) → GoesOn a b → GoesOn b c → GoesOn a c
goes_then a b c (inl h) (inl k) = inl (rises a.number b.number c.number h k)
goes_then a b c (inl h) (inr k) = inl (subst (λ (n : ℤ). a.number <ℤ n) (sym k.0) h)
goes_then a b c (inr h) (inl k) = inl (subst (λ (n : ℤ). n <ℤ c.number) h.0 k)
goes_then a b c (inr h) (inr k) = inr (k.0 ∙ h.0, same_then a.doing b.doing c.doing h.1 k.1)

pub all_self : (s t : RouterState) → t.sessions ≡ s.sessions → AllGo s t
all_self s t is lsid old e =
    (old, ap (λ (xs : BySession Session). entry_of lsid xs) is ∙ e, goes_self old)

pub all_then : (r s t : RouterState) → AllGo r s → AllGo s t → AllGo r t
all_then r s t h k lsid old e = let a = h lsid old e in let b = k lsid a.0 a.1 in
    (b.0, b.1, goes_then old a.0 b.0 a.2 b.2)

-- Entries.

-- what stands under a session goes on
abbrev Goes : BySession Session → Lsid → Session → Type 0
Goes new lsid s = (t : Session) × (entry_of lsid new ≡ Some t) × GoesOn s t

goes_to : (lsid : Lsid) (new : BySession Session) (s t : Session) → entry_of lsid new ≡ Some t
    → GoesOn s t → Goes new lsid s
goes_to lsid new s t e h = (t, e, h)

put_here : (lsid other : Lsid) (new : Session) (entry : Lsid
    × Session) (entries : BySession Session) (s : Session) → ((old : Session)
    → entry_of lsid (entry ∷ entries) ≡ Some old → GoesOn old new) → same_lsid lsid entry.0 ≡ true
    → (test : Bool) → same_lsid other entry.0 ≡ test → entry_of other (entry ∷ entries) ≡ Some s
    → Goes (with_entry lsid new (entry ∷ entries)) other s
put_here lsid other new entry entries s goes here true there e =
    let key : other ≡ lsid = lsid_is other entry.0 there ∙ sym (lsid_is lsid entry.0 here) in
    let first : same_lsid other lsid ≡ true = ap (same_lsid other) (sym key) ∙ own_lsid other in
    let old : s ≡ entry.1 = some_same s entry.1 (sym e ∙ first_is other entry entries there) in
    goes_to other (with_entry lsid new (entry ∷ entries)) s new (ap (entry_of other)
    (put_first lsid new entry entries here) ∙ first_is other (lsid, new) entries first)
    (subst (λ (x : Session). GoesOn x new) (sym old)
    (goes entry.1 (first_is lsid entry entries here)))
put_here lsid other new entry entries s goes here false there e =
    let apart : same_lsid other lsid ≡ false =
    ap (same_lsid other) (lsid_is lsid entry.0 here) ∙ there in
    goes_to other (with_entry lsid new (entry ∷ entries)) s s
    (ap (entry_of other) (put_first lsid new entry entries here) ∙ rest_is other (lsid, new) entries
    apart ∙ sym (rest_is other entry entries there) ∙ e) (goes_self s)

put_there : (lsid other : Lsid) (new : Session) (entry : Lsid
    × Session) (entries : BySession Session) (s : Session) → same_lsid lsid entry.0 ≡ false
    → (entry_of other entries ≡ Some s → Goes (with_entry lsid new entries) other s) → (test : Bool)
    → same_lsid other entry.0 ≡ test → entry_of other (entry ∷ entries) ≡ Some s
    → Goes (with_entry lsid new (entry ∷ entries)) other s
put_there lsid other new entry entries s here more true there e =
    let old : s ≡ entry.1 = some_same s entry.1 (sym e ∙ first_is other entry entries there) in
    goes_to other (with_entry lsid new (entry ∷ entries)) s entry.1
    (ap (entry_of other) (put_rest lsid new entry entries here)
    ∙ first_is other entry (with_entry lsid new entries) there)
    (subst (λ (x : Session). GoesOn x entry.1) (sym old) (goes_self entry.1))
put_there lsid other new entry entries s here more false there e =
    let k = more (sym (rest_is other entry entries there) ∙ e) in
    goes_to other (with_entry lsid new (entry ∷ entries)) s k.0 (ap (entry_of other) (put_rest lsid
    new entry entries here) ∙ rest_is other entry (with_entry lsid new entries) there ∙ k.1) k.2

put_case : (lsid other : Lsid) (new : Session) (entry : Lsid
    × Session) (entries : BySession Session) (s : Session)
    → ((old : Session) → entry_of lsid (entry ∷ entries) ≡ Some old → GoesOn old new)
    → ((goes : (old : Session) → entry_of lsid entries ≡ Some old → GoesOn old new)
    → entry_of other entries ≡ Some s → Goes (with_entry lsid new entries) other s)
    → (test : Bool) → same_lsid lsid entry.0 ≡ test → entry_of other (entry ∷ entries) ≡ Some s
    → Goes (with_entry lsid new (entry ∷ entries)) other s
put_case lsid other new entry entries s goes more true here e =
    put_here lsid other new entry entries s goes here (same_lsid other entry.0) refl e
put_case lsid other new entry entries s goes more false here e =
    put_there lsid other new entry entries s here (more
    (λ old k. goes old (rest_is lsid entry entries here ∙ k))) (same_lsid other entry.0) refl e

put_goes : (lsid other : Lsid) (new : Session) (entries : BySession Session) (s : Session)
    → ((old : Session) → entry_of lsid entries ≡ Some old → GoesOn old new)
    → entry_of other entries ≡ Some s
    → Goes (with_entry lsid new entries) other s
put_goes lsid other new [] s goes e = grind arith
put_goes lsid other new (entry ∷ entries) s goes e =
    put_case lsid other new entry entries s goes (λ g k. put_goes lsid other new entries s g k)
    (same_lsid lsid entry.0) refl e

-- what is done in one session
pub done_names : (Q : ℕ → Statement → Type 0) (s : RouterState) (lsid : Lsid) (d : Deed)
    → RouterFits Q s → DoingFits Q d.session.doing → GivenFit Q d.given
    → ((old : Session) → session_of s lsid ≡ Some old → GoesOn old d.session)
    → MoveFits Q s (done_in s lsid d)
done_names Q s lsid d h doing given goes = record {
  state = entries_put (EntryFits Q) lsid d.session s.sessions doing h;
  given = given;
  goes = λ other old e. put_goes lsid other d.session s.sessions old goes e;
  chunks = refl;
}

-- In each session.

each_case : (Q : ℕ → Statement → Type 0) (act : Lsid → Session
    → Deed) (lsid : Lsid) (entry : Lsid × Session) (entries : BySession Session) (s : Session)
    → DeedFits Q entry.0 entry.1 (act entry.0 entry.1)
    → (entry_of lsid entries ≡ Some s → Goes (each_session act entries).0 lsid s) → (test : Bool)
    → same_lsid lsid entry.0 ≡ test → entry_of lsid (entry ∷ entries) ≡ Some s
    → Goes (each_session act (entry ∷ entries)).0 lsid s
each_case Q act lsid entry entries s d more true here e =
    let old : s ≡ entry.1 = some_same s entry.1 (sym e ∙ first_is lsid entry entries here) in
    goes_to lsid (each_session act (entry ∷ entries)).0 s (act entry.0 entry.1).session
    (first_is lsid (entry.0, (act entry.0 entry.1).session) (each_session act entries).0 here)
    (subst (λ (x : Session). GoesOn x (act entry.0 entry.1).session) (sym old) d.goes)
each_case Q act lsid entry entries s d more false here e =
    let k = more (sym (rest_is lsid entry entries here) ∙ e) in
    goes_to lsid (each_session act (entry ∷ entries)).0 s k.0 (rest_is lsid
    (entry.0, (act entry.0 entry.1).session) (each_session act entries).0 here ∙ k.1) k.2

each_goes : (Q : ℕ → Statement → Type 0) (act : Lsid → Session → Deed)
    → ((lsid : Lsid) (s : Session) → DoingFits Q s.doing → DeedFits Q lsid s (act lsid s))
    → (entries : BySession Session) → All (EntryFits Q) entries
    → (lsid : Lsid) (s : Session) → entry_of lsid entries ≡ Some s
    → Goes (each_session act entries).0 lsid s
each_goes Q act h [] k lsid s e = grind arith
each_goes Q act h (entry ∷ entries) k lsid s e =
    each_case Q act lsid entry entries s
    (h entry.0 entry.1 (All-head (EntryFits Q) entry entries k)) (each_goes Q act h entries
    (All-tail (EntryFits Q) entry entries k) lsid s) (same_lsid lsid entry.0) refl e

each_names : (Q : ℕ → Statement → Type 0) (act : Lsid → Session → Deed)
    → ((lsid : Lsid) (s : Session) → DoingFits Q s.doing → DeedFits Q lsid s (act lsid s))
    → (entries : BySession Session) → All (EntryFits Q) entries
    → All (EntryFits Q) (each_session act entries).0 × GivenFit Q (each_session act entries).1
each_names Q act h [] k =
    (k, record { aborts = All-nil (PostFits Q); sends = All-nil (PostFits Q) })
each_names Q act h (entry ∷ entries) k =
    let d = h entry.0 entry.1 (All-head (EntryFits Q) entry entries k) in
    let more = each_names Q act h entries (All-tail (EntryFits Q) entry entries k) in (
      All-cons (EntryFits Q) (entry.0, (act entry.0 entry.1).session) (each_session act entries).0
          d.doing more.0,
      both_name Q (act entry.0 entry.1).given (each_session act entries).1 d.given more.1,
    )

pub in_each_names : (Q : ℕ → Statement → Type 0) (act : Lsid → Session → Deed) (s : RouterState)
    → ((lsid : Lsid) (s : Session) → DoingFits Q s.doing → DeedFits Q lsid s (act lsid s))
    → RouterFits Q s → MoveFits Q s (in_each_session act s)
in_each_names Q act s h k =
    let e = each_names Q act h s.sessions k in
    record { state = e.0; given = e.1; goes = each_goes Q act h s.sessions k; chunks = refl }

-- What has come stays come.

in_then : (tag : Tag) (k : ℕ) (a b : Doing) → IsIn tag k a → SameDoing a b → IsIn tag k b
in_then tag k (Begun t) (Begun u) h g = (g.0 ∙ h.0, omega (arith, h.1, g.1))
in_then tag k (Begun t) (Sought seeking known) h g = absurd g
in_then tag k (Sought seeking known) b h g = absurd h

come_then : (x : Named) (n : ℕ) (a b : Session)
    → (x.number <ℤ a.number) ⊎ ((a.number ≡ x.number) × IsIn x.tag n a.doing) → GoesOn a b
    → (x.number <ℤ b.number) ⊎ ((b.number ≡ x.number) × IsIn x.tag n b.doing)
come_then x n a b (inl h) (inl k) = inl (rises x.number a.number b.number h k)
come_then x n a b (inl h) (inr k) = inl (subst (λ (n : ℤ). x.number <ℤ n) (sym k.0) h)
come_then x n a b (inr h) (inl k) = inl (subst (λ (n : ℤ). n <ℤ b.number) h.0 k)
come_then x n a b (inr h) (inr k) = inr (k.0 ∙ h.0, in_then x.tag n a.doing b.doing h.1 k.1)

pub come_on : (s t : RouterState) (x : Named) (n : ℕ) → AllGo s t → HasCome s x n → HasCome t x n
come_on s t x n h c = let k = h x.lsid c.0 c.1 in (k.0, k.1, come_then x n c.0 k.0 c.2 k.2)
