-- Sessions go on: numbers rise, and a transaction that was begun stays until its session's number
-- rises.
use Rattle.std.proofs.Common.{◌≡◌, ◌⊎◌, inl, inr, ◌<ℤ◌, ℤ, Bool, true, false, cond, [], ◌∷◌, find}
use Rattle.std.proofs.Common.{option_map, Some, All, refl, sym, ap, subst, ◌∙◌, arith}
use Rattle.std.proofs.lemmas.List.Elements.{All-nil, All-cons, All-head, All-tail}
use Rattle.std.proofs.lemmas.Int.{ints}
use Rattle.txn_types.specs.BySession.{BySession, entry_of, with_entry}
use Rattle.txn_types.specs.Order.{same_lsid}
use Rattle.txn_types.specs.declared.names.Tag.{Tag}
use Rattle.txn_types.specs.declared.node.Lsid.{Lsid}
use Rattle.router_state.specs.declared.deed.Deed.{Deed}
use Rattle.router_state.specs.declared.state.Doing.{Doing}
use Rattle.router_state.specs.declared.state.Doing.TheVariants.{Begun, Sought}
use Rattle.router_state.specs.declared.state.Session.{Session}
use Rattle.router_state.specs.Deeds.{done_in, each_session, in_each_session}
use Rattle.router_state.specs.State.{RouterState, session_of}
use Rattle.shard_image.proofs.Sessions.{own_lsid, lsid_is}
use Rattle.txn_types.specs.Letters.{Named}
use Rattle.world_laws.specs.Begins.{PostNames, DoingNames, EntryNames, RouterNames, GivenNames}
use Rattle.world_laws.specs.Begins.{SameDoing, GoesOn, DeedNames, AllGo, MoveNames, IsIn, HasCome}
use Rattle.world_laws.proofs.Deeds.{both_name}
use Rattle.world_laws.proofs.PartTimes.{entries_put}

pub rises : (a b c : ℤ) → a <ℤ b → b <ℤ c → a <ℤ c
rises a b c h k = omega (arith, ints, h, k)

same_then : (a b c : Doing) → SameDoing a b → SameDoing b c → SameDoing a c
same_then (Begun t) (Begun u) (Begun v) h k = k ∙ h
same_then (Begun t) (Begun u) (Sought seeking known) h k = absurd k
same_then (Begun t) (Sought seeking known) c h k = absurd h
same_then (Sought seeking known) b c h k = tt

same_self : (doing : Doing) → SameDoing doing doing
same_self (Begun t) = refl
same_self (Sought seeking known) = tt

pub goes_self : (s : Session) → GoesOn s s
goes_self s = inr (refl, same_self s.doing)

goes_then : (a b c : Session) → GoesOn a b → GoesOn b c → GoesOn a c
goes_then a b c (inl h) (inl k) = inl (rises a.number b.number c.number h k)
goes_then a b c (inl h) (inr k) = inl (subst (λ (n : ℤ). a.number <ℤ n) (sym k.0) h)
goes_then a b c (inr h) (inl k) = inl (subst (λ (n : ℤ). n <ℤ c.number) h.0 k)
goes_then a b c (inr h) (inr k) = inr (k.0 ∙ h.0, same_then a.doing b.doing c.doing h.1 k.1)

pub all_self : (s t : RouterState) → t.sessions ≡ s.sessions → AllGo s t
all_self s t is lsid old e =
    (old, ap (λ (xs : BySession Session). entry_of lsid xs) is ∙ e, goes_self old)

pub all_then : (r s t : RouterState) → AllGo r s → AllGo s t → AllGo r t
all_then r s t h k lsid old e = let a = h lsid old e in let b = k lsid a.0 a.1 in
    (b.0, b.1, goes_then old a.0 b.0 a.2 b.2)

-- Entries.

pub first_is : {A : Type 0} (lsid : Lsid) (entry : Lsid × A) (entries : BySession A)
    → same_lsid lsid entry.0 ≡ true → entry_of lsid (entry ∷ entries) ≡ Some entry.1
first_is lsid entry entries h = ap (λ b. option_map (λ (e : Lsid × _). e.1)
    (cond b (Some entry) (find (λ (e : Lsid × _). same_lsid lsid e.0) entries))) h

pub rest_is : {A : Type 0} (lsid : Lsid) (entry : Lsid × A) (entries : BySession A)
    → same_lsid lsid entry.0 ≡ false → entry_of lsid (entry ∷ entries) ≡ entry_of lsid entries
rest_is lsid entry entries h = ap (λ b. option_map (λ (e : Lsid × _). e.1)
    (cond b (Some entry) (find (λ (e : Lsid × _). same_lsid lsid e.0) entries))) h

pub put_first : {A : Type 0} (lsid : Lsid) (a : A) (entry : Lsid × A) (entries : BySession A)
    → same_lsid lsid entry.0 ≡ true → with_entry lsid a (entry ∷ entries) ≡ (lsid, a) ∷ entries
put_first lsid a entry entries h =
    ap (λ b. cond b ((lsid, a) ∷ entries) (entry ∷ with_entry lsid a entries)) h

pub put_rest : {A : Type 0} (lsid : Lsid) (a : A) (entry : Lsid × A) (entries : BySession A)
    → same_lsid lsid entry.0 ≡ false
    → with_entry lsid a (entry ∷ entries) ≡ entry ∷ with_entry lsid a entries
put_rest lsid a entry entries h =
    ap (λ b. cond b ((lsid, a) ∷ entries) (entry ∷ with_entry lsid a entries)) h

pub some_same : {A : Type 0} (a b : A) → Some a ≡ Some b → a ≡ b
some_same a b e = grind arith

-- what stands under a session goes on
abbrev Goes : BySession Session → Lsid → Session → Type 0
Goes new lsid s = (t : Session) × (entry_of lsid new ≡ Some t) × GoesOn s t

goes_to : (lsid : Lsid) (new : BySession Session) (s t : Session) → entry_of lsid new ≡ Some t
    → GoesOn s t → Goes new lsid s
goes_to lsid new s t e h = (t, e, h)

put_here : (lsid other : Lsid) (new : Session) (entry : Lsid
    × Session) (entries : BySession Session) (s : Session) → ((old : Session)
    → entry_of lsid (entry ∷ entries) ≡ Some old → GoesOn old new) → same_lsid lsid entry.0 ≡ true
    → (test : Bool) → same_lsid other entry.0 ≡ test → entry_of other (entry ∷ entries) ≡ Some s
    → Goes (with_entry lsid new (entry ∷ entries)) other s
put_here lsid other new entry entries s goes here true there e =
    let key : other ≡ lsid = lsid_is other entry.0 there ∙ sym (lsid_is lsid entry.0 here) in
    let first : same_lsid other lsid ≡ true = ap (same_lsid other) (sym key) ∙ own_lsid other in
    let old : s ≡ entry.1 = some_same s entry.1 (sym e ∙ first_is other entry entries there) in
    goes_to other (with_entry lsid new (entry ∷ entries)) s new (ap (entry_of other)
    (put_first lsid new entry entries here) ∙ first_is other (lsid, new) entries first)
    (subst (λ (x : Session). GoesOn x new) (sym old)
    (goes entry.1 (first_is lsid entry entries here)))
put_here lsid other new entry entries s goes here false there e =
    let apart : same_lsid other lsid ≡ false =
    ap (same_lsid other) (lsid_is lsid entry.0 here) ∙ there in
    goes_to other (with_entry lsid new (entry ∷ entries)) s s
    (ap (entry_of other) (put_first lsid new entry entries here) ∙ rest_is other (lsid, new) entries
    apart ∙ sym (rest_is other entry entries there) ∙ e) (goes_self s)

put_there : (lsid other : Lsid) (new : Session) (entry : Lsid
    × Session) (entries : BySession Session) (s : Session) → same_lsid lsid entry.0 ≡ false
    → (entry_of other entries ≡ Some s → Goes (with_entry lsid new entries) other s) → (test : Bool)
    → same_lsid other entry.0 ≡ test → entry_of other (entry ∷ entries) ≡ Some s
    → Goes (with_entry lsid new (entry ∷ entries)) other s
put_there lsid other new entry entries s here more true there e =
    let old : s ≡ entry.1 = some_same s entry.1 (sym e ∙ first_is other entry entries there) in
    goes_to other (with_entry lsid new (entry ∷ entries)) s entry.1
    (ap (entry_of other) (put_rest lsid new entry entries here)
    ∙ first_is other entry (with_entry lsid new entries) there)
    (subst (λ (x : Session). GoesOn x entry.1) (sym old) (goes_self entry.1))
put_there lsid other new entry entries s here more false there e =
    let k = more (sym (rest_is other entry entries there) ∙ e) in
    goes_to other (with_entry lsid new (entry ∷ entries)) s k.0 (ap (entry_of other) (put_rest lsid
    new entry entries here) ∙ rest_is other entry (with_entry lsid new entries) there ∙ k.1) k.2

put_case : (lsid other : Lsid) (new : Session) (entry : Lsid
    × Session) (entries : BySession Session) (s : Session)
    → ((old : Session) → entry_of lsid (entry ∷ entries) ≡ Some old → GoesOn old new)
    → ((goes : (old : Session) → entry_of lsid entries ≡ Some old → GoesOn old new)
    → entry_of other entries ≡ Some s → Goes (with_entry lsid new entries) other s)
    → (test : Bool) → same_lsid lsid entry.0 ≡ test → entry_of other (entry ∷ entries) ≡ Some s
    → Goes (with_entry lsid new (entry ∷ entries)) other s
put_case lsid other new entry entries s goes more true here e =
    put_here lsid other new entry entries s goes here (same_lsid other entry.0) refl e
put_case lsid other new entry entries s goes more false here e =
    put_there lsid other new entry entries s here (more
    (λ old k. goes old (rest_is lsid entry entries here ∙ k))) (same_lsid other entry.0) refl e

put_goes : (lsid other : Lsid) (new : Session) (entries : BySession Session) (s : Session)
    → ((old : Session) → entry_of lsid entries ≡ Some old → GoesOn old new)
    → entry_of other entries ≡ Some s
    → Goes (with_entry lsid new entries) other s
put_goes lsid other new [] s goes e = grind arith
put_goes lsid other new (entry ∷ entries) s goes e =
    put_case lsid other new entry entries s goes (λ g k. put_goes lsid other new entries s g k)
    (same_lsid lsid entry.0) refl e

-- what is done in one session
pub done_names : (P : Named → Type 0) (s : RouterState) (lsid : Lsid) (d : Deed) → RouterNames P s
    → DoingNames P lsid d.session.number d.session.doing → GivenNames P d.given
    → ((old : Session) → session_of s lsid ≡ Some old → GoesOn old d.session)
    → MoveNames P s (done_in s lsid d)
done_names P s lsid d h doing given goes = record {
  state = entries_put (EntryNames P) lsid d.session s.sessions doing h;
  given = given;
  goes = λ other old e. put_goes lsid other d.session s.sessions old goes e;
}

-- In each session.

each_case : (P : Named → Type 0) (act : Lsid → Session
    → Deed) (lsid : Lsid) (entry : Lsid × Session) (entries : BySession Session) (s : Session)
    → DeedNames P entry.0 entry.1 (act entry.0 entry.1)
    → (entry_of lsid entries ≡ Some s → Goes (each_session act entries).0 lsid s) → (test : Bool)
    → same_lsid lsid entry.0 ≡ test → entry_of lsid (entry ∷ entries) ≡ Some s
    → Goes (each_session act (entry ∷ entries)).0 lsid s
each_case P act lsid entry entries s d more true here e =
    let old : s ≡ entry.1 = some_same s entry.1 (sym e ∙ first_is lsid entry entries here) in
    goes_to lsid (each_session act (entry ∷ entries)).0 s (act entry.0 entry.1).session
    (first_is lsid (entry.0, (act entry.0 entry.1).session) (each_session act entries).0 here)
    (subst (λ (x : Session). GoesOn x (act entry.0 entry.1).session) (sym old) d.goes)
each_case P act lsid entry entries s d more false here e =
    let k = more (sym (rest_is lsid entry entries here) ∙ e) in
    goes_to lsid (each_session act (entry ∷ entries)).0 s k.0 (rest_is lsid
    (entry.0, (act entry.0 entry.1).session) (each_session act entries).0 here ∙ k.1) k.2

each_goes : (P : Named → Type 0) (act : Lsid → Session → Deed) → ((lsid : Lsid) (s : Session)
    → DoingNames P lsid s.number s.doing → DeedNames P lsid s (act lsid s))
    → (entries : BySession Session) → All (EntryNames P) entries
    → (lsid : Lsid) (s : Session) → entry_of lsid entries ≡ Some s
    → Goes (each_session act entries).0 lsid s
each_goes P act h [] k lsid s e = grind arith
each_goes P act h (entry ∷ entries) k lsid s e =
    each_case P act lsid entry entries s
    (h entry.0 entry.1 (All-head (EntryNames P) entry entries k)) (each_goes P act h entries
    (All-tail (EntryNames P) entry entries k) lsid s) (same_lsid lsid entry.0) refl e

each_names : (P : Named → Type 0) (act : Lsid → Session → Deed) → ((lsid : Lsid) (s : Session)
    → DoingNames P lsid s.number s.doing → DeedNames P lsid s (act lsid s))
    → (entries : BySession Session) → All (EntryNames P) entries
    → All (EntryNames P) (each_session act entries).0 × GivenNames P (each_session act entries).1
each_names P act h [] k =
    (k, record { aborts = All-nil (PostNames P); sends = All-nil (PostNames P) })
each_names P act h (entry ∷ entries) k =
    let d = h entry.0 entry.1 (All-head (EntryNames P) entry entries k) in
    let more = each_names P act h entries (All-tail (EntryNames P) entry entries k) in (
      All-cons (EntryNames P) (entry.0, (act entry.0 entry.1).session) (each_session act entries).0
          d.doing more.0,
      both_name P (act entry.0 entry.1).given (each_session act entries).1 d.given more.1,
    )

pub in_each_names : (P : Named → Type 0) (act : Lsid → Session → Deed) (s : RouterState)
    → ((lsid : Lsid) (s : Session) → DoingNames P lsid s.number s.doing
    → DeedNames P lsid s (act lsid s)) → RouterNames P s → MoveNames P s (in_each_session act s)
in_each_names P act s h k =
    let e = each_names P act h s.sessions k in
    record { state = e.0; given = e.1; goes = each_goes P act h s.sessions k }

-- What has come stays come.

in_then : (tag : Tag) (a b : Doing) → IsIn tag a → SameDoing a b → IsIn tag b
in_then tag (Begun t) (Begun u) h k = k ∙ h
in_then tag (Begun t) (Sought seeking known) h k = absurd k
in_then tag (Sought seeking known) b h k = absurd h

come_then : (x : Named) (a b : Session)
    → (x.number <ℤ a.number) ⊎ ((a.number ≡ x.number) × IsIn x.tag a.doing) → GoesOn a b
    → (x.number <ℤ b.number) ⊎ ((b.number ≡ x.number) × IsIn x.tag b.doing)
come_then x a b (inl h) (inl k) = inl (rises x.number a.number b.number h k)
come_then x a b (inl h) (inr k) = inl (subst (λ (n : ℤ). x.number <ℤ n) (sym k.0) h)
come_then x a b (inr h) (inl k) = inl (subst (λ (n : ℤ). n <ℤ b.number) h.0 k)
come_then x a b (inr h) (inr k) = inr (k.0 ∙ h.0, in_then x.tag a.doing b.doing h.1 k.1)

pub come_on : (s t : RouterState) (x : Named) → AllGo s t → HasCome s x → HasCome t x
come_on s t x h c = let k = h x.lsid c.0 c.1 in (k.0, k.1, come_then x c.0 k.0 c.2 k.2)
