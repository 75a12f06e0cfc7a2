-- What an event does in each session, from one place on.
use Rattle.std.proofs.Common.{◌≡◌, ℕ, zero, suc, ◌+◌, ◌<◌, ◌≤◌, List, [], ◌∷◌, length, get_or, drop}
use Rattle.std.proofs.Common.{slice_set, refl, ap, sym, subst, ◌∙◌, arith, add-one}
use Rattle.std.proofs.lemmas.List.{drop_all}
use Rattle.chunk_map.specs.Map.{Map}
use Rattle.txn_types.specs.BySession.{BySession}
use Rattle.txn_types.specs.declared.node.Lsid.{Lsid}
use Rattle.router_state.specs.declared.deed.Deed.{Deed}
use Rattle.router_state.specs.declared.deed.Given.{Given}
use Rattle.router_state.specs.declared.state.Session.{Session}
use Rattle.router_state.specs.Deeds.{Move, both, stays, each_session, in_each_session}
use Rattle.router_rules.specs.Safe.{IsSafeIn, AreSafe}
use Rattle.router_plan.specs.declared.plan.Base.{Base}
use Rattle.router_plan.specs.Plans.{state_of, replaced, FitIn}
use Rattle.router_core.proofs.Both.{both_assoc, both_nothing}

abbrev pub Act : Type 0
Act = Lsid → Session → Deed

-- an entry after it
abbrev pub behind : Act → Lsid × Session → Lsid × Session
behind act entry = (entry.0, (act entry.0 entry.1).session)

-- the sessions of which so many have had it
abbrev pub front : Act → ℕ → BySession Session → BySession Session
front act k [] = []
front act zero (entry ∷ entries) = entry ∷ entries
front act (suc k) (entry ∷ entries) = behind act entry ∷ front act k entries

pub front_none : (act : Act) (xs : BySession Session) → front act 0 xs ≡ xs
front_none act [] = refl
front_none act (x ∷ xs) = refl

set_suc : (act : Act) (k : ℕ) (xs : BySession Session) (d : Lsid × Session) → d ≡ get_or xs k d
    → k < length xs → slice_set (front act k xs) k (behind act d) ≡ front act (suc k) xs
set_suc act k [] d e h = absurd (omega (arith, h))
set_suc act zero (x ∷ xs) d e h = ap (λ (y : Lsid × Session). behind act y ∷ xs) e
    ∙ ap (λ (ys : BySession Session). behind act x ∷ ys) (sym (front_none act xs))
set_suc act (suc k) (x ∷ xs) d e h =
    ap (λ (ys : BySession Session). behind act x ∷ ys) (set_suc act k xs d e (omega (arith, h)))

front_set : (act : Act) (k : ℕ) (xs : BySession Session) (d : Lsid × Session) → d ≡ get_or xs k d
    → k < length xs → slice_set (front act k xs) k (behind act d) ≡ front act (k + 1) xs
front_set act k xs d e h = rw (add-one k) (set_suc act k xs d e h)

same_suc : (act : Act) (k : ℕ) (xs : BySession Session) (d : Lsid × Session) → d ≡ get_or xs k d
    → k < length xs → behind act d ≡ d → front act (suc k) xs ≡ front act k xs
same_suc act k [] d e h same = absurd (omega (arith, h))
same_suc act zero (x ∷ xs) d e h same =
    ap (λ (ys : BySession Session). behind act x ∷ ys) (front_none act xs)
    ∙ ap (λ (y : Lsid × Session). y ∷ xs) (subst (λ (y : Lsid × Session). behind act y ≡ y) e same)
same_suc act (suc k) (x ∷ xs) d e h same = ap (λ (ys : BySession Session). behind act x
    ∷ ys) (same_suc act k xs d e (omega (arith, h)) same)

front_same : (act : Act) (k : ℕ) (xs : BySession Session) (d : Lsid × Session) → d ≡ get_or xs k d
    → k < length xs → act d.0 d.1 ≡ stays d.1 → front act (k + 1) xs ≡ front act k xs
front_same act k xs d e h same =
    rw (add-one k) (same_suc act k xs d e h (ap (λ (deed : Deed). (d.0, deed.session)) same))

given_suc : (act : Act) (k : ℕ) (xs : BySession Session) (d : Lsid × Session)
    → d ≡ get_or xs k d → k < length xs → (each_session act (drop k xs)).1
    ≡ both (act d.0 d.1).given (each_session act (drop (suc k) xs)).1
given_suc act k [] d e h = absurd (omega (arith, h))
given_suc act zero (x ∷ xs) d e h =
    ap (λ (y : Lsid × Session). both (act y.0 y.1).given (each_session act xs).1) (sym e)
given_suc act (suc k) (x ∷ xs) d e h = given_suc act k xs d e (omega (arith, h))

given_next : (act : Act) (g : Given) (k : ℕ) (xs : BySession Session) (d : Lsid × Session)
    → d ≡ get_or xs k d → k < length xs → both (both g (act d.0 d.1).given) (each_session act
    (drop (k + 1) xs)).1 ≡ both g (each_session act (drop k xs)).1
given_next act g k xs d e h = rw (add-one k) (both_assoc g (act d.0 d.1).given (each_session act
    (drop (suc k) xs)).1 ∙ ap (λ (more : Given). both g more) (sym (given_suc act k xs d e h)))

given_same : (act : Act) (g : Given) (k : ℕ) (xs : BySession Session) (d : Lsid × Session)
    → d ≡ get_or xs k d → k < length xs → act d.0 d.1 ≡ stays d.1
    → both g (each_session act (drop (k + 1) xs)).1 ≡ both g (each_session act (drop k xs)).1
given_same act g k xs d e h same =
    rw (add-one k) (sym (ap (λ (more : Given). both g more) (given_suc act k xs d e h
    ∙ ap (λ (deed : Deed). both deed.given (each_session act (drop (suc k) xs)).1) same)))

-- each session that stands is safe
safe_next : (serial k : ℕ) (xs : BySession Session) (d : Lsid × Session) → d ≡ get_or xs k d
    → k < length xs → AreSafe serial xs → IsSafeIn serial d.0 d.1
safe_next serial k [] d e h safe = absurd (omega (arith, h))
safe_next serial zero (x ∷ xs) d e h safe =
    subst (λ (y : Lsid × Session). IsSafeIn serial y.0 y.1) (sym e) safe.0
safe_next serial (suc k) (x ∷ xs) d e h safe = safe_next serial k xs d e (omega (arith, h)) safe.1

pub safe_at : (serial k : ℕ) (xs : BySession Session) (d : Lsid × Session) → d ≡ get_or xs k d
    → k < length xs → AreSafe serial xs → IsSafeIn serial d.0 d.1
safe_at serial k xs d e h safe = safe_next serial k xs d e h safe

-- One place on, where the event does something in the session of that place, and where it does
-- nothing.
pub placed_on : (act : Act) (k : ℕ) (xs : BySession Session) (d : Lsid
    × Session) (deed : Deed) (places next : List (ℕ × (Lsid × Session))) → d ≡ get_or xs k d
    → k < length xs → deed ≡ act d.0 d.1 → replaced places xs ≡ front act k xs
    → next ≡ (k, (d.0, deed.session)) ∷ places
    → replaced next xs ≡ front act (k + 1) xs
placed_on act k xs d deed places next is within acted moved put =
    ap (λ (ps : List (ℕ × (Lsid × Session))). replaced ps xs) put
    ∙ ap (λ (ys : BySession Session). slice_set ys k (d.0, deed.session)) moved
    ∙ ap (λ (e : Deed). slice_set (front act k xs) k (d.0, e.session)) acted
    ∙ front_set act k xs d is within

pub fits_on : (n k : ℕ) (entry : Lsid × Session) (places next : List (ℕ × (Lsid × Session))) → k < n
    → FitIn n places → next ≡ (k, entry) ∷ places → FitIn n next
fits_on n k entry places next within fit put =
    subst (λ (ps : List (ℕ × (Lsid × Session))). FitIn n ps) (sym put) (within, fit)

pub given_on : (act : Act) (k : ℕ) (xs : BySession Session) (d : Lsid × Session) (deed : Deed)
    (given next all : Given) → d ≡ get_or xs k d → k < length xs → deed ≡ act d.0 d.1
    → both given (each_session act (drop k xs)).1 ≡ all → next ≡ both given deed.given
    → both next (each_session act (drop (k + 1) xs)).1 ≡ all
given_on act k xs d deed given next all is within acted so put =
    ap (λ (g : Given). both g (each_session act (drop (k + 1) xs)).1) (put
    ∙ ap (λ (e : Deed). both given e.given) acted) ∙ given_next act given k xs d is within ∙ so

pub placed_still : (act : Act) (k : ℕ) (xs : BySession Session) (d : Lsid
    × Session) (places next : List (ℕ × (Lsid × Session))) → d ≡ get_or xs k d → k < length xs
    → stays d.1 ≡ act d.0 d.1 → replaced places xs ≡ front act k xs → next ≡ places
    → replaced next xs ≡ front act (k + 1) xs
placed_still act k xs d places next is within acted moved put =
    ap (λ (ps : List (ℕ × (Lsid × Session))). replaced ps xs) put ∙ moved
    ∙ sym (front_same act k xs d is within (sym acted))

pub given_still : (act : Act) (k : ℕ) (xs : BySession Session) (d : Lsid
    × Session) (given next all : Given) → d ≡ get_or xs k d → k < length xs
    → stays d.1 ≡ act d.0 d.1 → both given (each_session act (drop k xs)).1 ≡ all → next ≡ given
    → both next (each_session act (drop (k + 1) xs)).1 ≡ all
given_still act k xs d given next all is within acted so put =
    ap (λ (g : Given). both g (each_session act (drop (k + 1) xs)).1) put
    ∙ given_same act given k xs d is within (sym acted) ∙ so

-- after the last place
front_end : (act : Act) (k : ℕ) (xs : BySession Session) → length xs ≤ k
    → front act k xs ≡ (each_session act xs).0
front_end act k [] h = refl
front_end act zero (x ∷ xs) h = absurd (omega (arith, h))
front_end act (suc k) (x ∷ xs) h =
    ap (λ (ys : BySession Session). behind act x ∷ ys) (front_end act k xs (omega (arith, h)))

given_end : (act : Act) (k : ℕ) (xs : BySession Session) (given : Given) → length xs ≤ k
    → both given (each_session act (drop k xs)).1 ≡ given
given_end act k xs given h = ap (λ (ys : BySession Session). both given (each_session act ys).1)
    (drop_all k xs h) ∙ both_nothing given

move_so : (chunks : Map) (base same : Base) (ys zs : BySession Session) (given all : Given)
    → same ≡ base → ys ≡ zs → given ≡ all
    → ◌≡◌ {A = Move} (record { state = state_of same chunks ys; given = given })
    (record { state = state_of base chunks zs; given = all })
move_so chunks base same ys zs given all eb es eg = rw (eb, es, eg) refl

pub all_placed : (act : Act) (chunks : Map) (xs : BySession Session)
    (base same : Base) (places : List (ℕ × (Lsid × Session))) (given : Given) (k : ℕ)
    → length xs ≤ k → same ≡ base → replaced places xs ≡ front act k xs
    → both given (each_session act (drop k xs)).1 ≡ (each_session act xs).1
    → ◌≡◌ {A = Move} (record { state = state_of same chunks (replaced places xs); given = given })
    (in_each_session act (state_of base chunks xs))
all_placed act chunks xs base same places given k end copied moved so =
    move_so chunks base same (replaced places xs) (each_session act xs).0 given (each_session act
    xs).1 copied (moved ∙ front_end act k xs end) (sym (given_end act k xs given end) ∙ so)
