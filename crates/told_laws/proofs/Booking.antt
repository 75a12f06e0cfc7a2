-- What stands of opened statements is kept by a step that asks none and takes no answer, and by the
-- end of a connection.
use Rattle.std.proofs.Common.{◌≡◌, ◌⊎◌, inl, inr, ◌&&◌, ℕ, Bool, true, false, not, List, filter}
use Rattle.std.proofs.Common.{nat_eq, Option, Some, None, refl, sym, ap, subst, ◌∙◌, arith}
use Rattle.std.specs.Prelude.{Contains, slice_get, slice_set}
use Rattle.std.proofs.lemmas.List.Elements.{All-filter}
use Rattle.txn_types.specs.declared.names.Tag.{Tag}
use Rattle.txn_types.specs.declared.node.Lsid.{Lsid}
use Rattle.txn_semantics.specs.declared.commits.Answered.{Answered}
use Rattle.router_state.specs.declared.state.Doing.{Doing}
use Rattle.router_state.specs.declared.state.Doing.TheVariants.{Begun, Sought}
use Rattle.router_state.specs.declared.state.Session.{Session}
use Rattle.router_state.specs.declared.state.Transaction.{Transaction}
use Rattle.router_state.specs.State.{RouterState, session_of}
use Rattle.cluster_core.specs.Answering.{Unanswered}
use Rattle.cluster_core.specs.Parts.{WasDrawn}
use Rattle.cluster_core.specs.Trace.{again}
use Rattle.world_laws.specs.Begins.{Kept}
use Rattle.told_laws.specs.Places.{HasReply}
use Rattle.told_laws.proofs.Lists.{filter_has, has_filter, order_filter, set_cases, not_same}
use Rattle.told_laws.proofs.Quiet.{QuietDoing, DoingNotFrom, NotFrom}
use Rattle.told_laws.proofs.Moves.{QuietFrom, AllQuiet, IsOwn}
use Rattle.told_laws.proofs.Standing.{DoingStands, SameTag, RouterStands, AreApart, IsOpen}
use Rattle.told_laws.proofs.Standing.{ListsStand, BookStands, txn_on, quiet_stands, own_on}
use Rattle.told_laws.proofs.Standing.{drawn_on}

-- Each transaction that is begun after a step was begun before it.

pub record CameOf (r : RouterState) (lsid : Lsid) (tag : Tag) : Type 0 where
  pub session : Session
  pub there : session_of r lsid ≡ Some session
  pub t : Transaction
  pub doing : session.doing ≡ Begun t
  pub tag_is : t.tag ≡ tag

abbrev pub AllCame : RouterState → RouterState → Type 0
AllCame r s = (lsid : Lsid) (v : Session) (t : Transaction) → session_of s lsid ≡ Some v
    → v.doing ≡ Begun t → CameOf r lsid t.tag

came_doing : (r : RouterState) (lsid : Lsid) (s : Session) (old : Doing) (t : Transaction)
    → session_of r lsid ≡ Some s → s.doing ≡ old → QuietDoing old (Begun t) → CameOf r lsid t.tag
came_doing r lsid s (Begun u) t there is q = record
    { session = s; there = there; t = u; doing = is; tag_is = sym q.tag }
came_doing r lsid s (Sought seeking known) t there is q = absurd q

came_from : (r : RouterState) (lsid : Lsid) (o : Option Session) (t : Transaction)
    → session_of r lsid ≡ o → QuietFrom o (Begun t) → CameOf r lsid t.tag
came_from r lsid None t is q = absurd q
came_from r lsid (Some s) t is q = came_doing r lsid s s.doing t is refl q

pub quiet_came : (r s : RouterState) → AllQuiet r s → AllCame r s
quiet_came r s q lsid v t e is = came_from r lsid (session_of r lsid) t refl
    (subst (λ (d : Doing). QuietFrom (session_of r lsid) d) is (q lsid v e))

abbrev pub Alone : RouterState → Type 0
Alone r = (lsid other : Lsid) (s v : Session) → session_of r lsid ≡ Some s
    → session_of r other ≡ Some v → SameTag s.doing v.doing → lsid ≡ other

pub same_tag_of : (a b : Doing) (t u : Transaction) → a ≡ Begun t → b ≡ Begun u → t.tag ≡ u.tag
    → SameTag a b
same_tag_of a b t u e f same = subst (λ (d : Doing). SameTag d b) (sym e)
    (subst (λ (d : Doing). SameTag (Begun t) d) (sym f) same)

pub came_alone : (r s : RouterState) → AllCame r s → Alone r → Alone s
came_alone r s came h lsid other v w e f same = by v.doing w.doing refl refl same
  where
    by : (a b : Doing) → v.doing ≡ a → w.doing ≡ b → SameTag a b → lsid ≡ other
    by (Begun t) (Begun u) is js same =
        let x = came lsid v t e is in
        let y = came other w u f js in
        h lsid other x.session y.session x.there y.there
        (same_tag_of x.session.doing y.session.doing x.t y.t x.doing y.doing
        (x.tag_is ∙ same ∙ sym y.tag_is))
    by (Begun t) (Sought seeking known) is js same = absurd same
    by (Sought seeking known) b is js same = absurd same

-- A quiet step.

doing_goes : (n : ℕ) (r s : RouterState) (begun us : List Unanswered) (told : List Answered)
    (a b : Doing) → Kept r s → QuietDoing a b → DoingStands n r begun us told a
    → DoingStands n s begun us told b
doing_goes n r s begun us told a (Sought seeking known) k q h = tt
doing_goes n r s begun us told (Begun t) (Begun v) k q h = (
  subst (IsOwn s) (sym q.tag) (own_on r s t.tag k.number k.boot (omega (arith, k.serial)) h.0),
  quiet_stands n begun us told t v q h.1,
)
doing_goes n r s begun us told (Sought seeking known) (Begun v) k q h = absurd q

from_goes : (n : ℕ) (r s : RouterState) (begun us : List Unanswered) (told : List Answered)
    (o : Option Session) (b : Doing) → Kept r s → QuietFrom o b
    → ((x : Session) → o ≡ Some x → DoingStands n r begun us told x.doing)
    → DoingStands n s begun us told b
from_goes n r s begun us told o (Sought seeking known) k q h = tt
from_goes n r s begun us told None (Begun v) k q h = absurd q
from_goes n r s begun us told (Some x) (Begun v) k q h = doing_goes n r s begun us told x.doing
    (Begun v) k q (h x refl)

pub quiet_router : (n : ℕ) (r s : RouterState) (begun us : List Unanswered) (told : List Answered)
    → Kept r s → AllQuiet r s → RouterStands n begun us told r
    → RouterStands n begun us told s
quiet_router n r s begun us told k q h = record {
  number = k.number ∙ h.number;
  drawn = λ u there is. drawn_on r s u.tag k.boot (omega (arith, k.serial)) (h.drawn u there is);
  sessions = λ lsid v e. from_goes n r s begun us told (session_of r lsid) v.doing k (q lsid v e)
      (λ x f. h.sessions lsid x f);
  alone = came_alone r s (quiet_came r s q) h.alone;
}

-- The other routers, where one changes what stands of its own statements.

pub record Changes (n : ℕ) (begun us : List Unanswered) (told : List Answered)
    (begun' us' : List Unanswered) (told' : List Answered) : Type 0 where
  pub back : (v : Unanswered) → Contains begun' v → Contains begun v ⊎ (v.tag.router ≡ n)
  pub on : (v : Unanswered) → Contains begun v → Contains begun' v
  pub replies : (v : Unanswered) → HasReply told v → HasReply told' v
  pub keep : (u : Unanswered) → Contains us u → (u.router ≡ n → ⊥) → Contains us' u

other_doing : (n m : ℕ) (r : RouterState) (begun us : List Unanswered) (told : List Answered)
    (begun' us' : List Unanswered) (told' : List Answered) (doing : Doing) → (m ≡ n → ⊥)
    → r.number ≡ m
    → Changes n begun us told begun' us' told' → DoingStands m r begun us told doing
    → DoingStands m r begun' us' told' doing
other_doing n m r begun us told begun' us' told' (Begun t) apart own c h = (
  h.0,
  txn_on m begun us told begun' us' told' t
      (record {
        back = λ v there same.
            elim (c.back v there) [
              | inl w ↦ w
              | inr w ↦ absurd (apart (sym own ∙ sym h.0.router ∙ sym
                  (ap (λ (tag : Tag). tag.router) same) ∙ w))
            ];
        on = c.on;
        replies = c.replies;
      })
      (λ asker op answers is a. c.keep a.statement a.there (λ e. apart (sym a.router ∙ e))) h.1,
)
other_doing n m r begun us told begun' us' told' (Sought seeking known) apart own c h = tt

other_router : (n m : ℕ) (r : RouterState) (begun us : List Unanswered) (told : List Answered)
    (begun' us' : List Unanswered) (told' : List Answered) → (m ≡ n → ⊥)
    → Changes n begun us told begun' us' told' → RouterStands m begun us told r
    → RouterStands m begun' us' told' r
other_router n m r begun us told begun' us' told' apart c h = record {
  number = h.number;
  drawn = λ u there is. elim (c.back u there)
      [ inl w ↦ h.drawn u w is | inr w ↦ absurd (apart (sym is ∙ w)) ];
  sessions = λ lsid s e. other_doing n m r begun us told begun' us' told' s.doing apart h.number c
      (h.sessions lsid s e);
  alone = h.alone;
}

pub book_step : (routers : List RouterState) (n : ℕ) (s : RouterState) (begun us : List Unanswered)
    (told : List Answered) (begun' us' : List Unanswered) (told' : List Answered)
    → Changes n begun us told begun' us' told' → RouterStands n begun' us' told' s
    → ListsStand begun' us' told' → BookStands routers begun us told
    → BookStands (slice_set routers n s) begun' us' told'
book_step routers n s begun us told begun' us' told' c this lists h = record {
  routers_stand = λ m x at.
      elim (set_cases routers n m s x at) [
        | inl w ↦ subst (λ (k : ℕ). RouterStands k begun' us' told' x) (sym w.0)
            (subst (RouterStands n begun' us' told') (sym w.1) this)
        | inr w ↦ other_router n m x begun us told begun' us' told' w.0 c (h.routers_stand m x w.1)
      ];
  lists = lists;
}

same_lists : (n : ℕ) (begun us : List Unanswered) (told : List Answered)
    → Changes n begun us told begun us told
same_lists n begun us told = record {
  back = λ v h. inl h;
  on = λ v h. h;
  replies = λ v h. h;
  keep =
      λ u h k. h;
}

pub quiet_book : (routers : List RouterState) (n : ℕ) (r s : RouterState)
    (begun us : List Unanswered) (told : List Answered) → slice_get routers n ≡ Some r → Kept r s
    → AllQuiet r s
    → BookStands routers begun us told → BookStands (slice_set routers n s) begun us told
quiet_book routers n r s begun us told there k q h =
    book_step routers n s begun us told begun us told (same_lists n begun us told)
    (quiet_router n r s begun us told k q (h.routers_stand n r there)) h.lists h

-- Unanswered statements that are let go.

lists_filter : (p : Unanswered → Bool) (begun us : List Unanswered) (told : List Answered)
    → ListsStand begun us told → ListsStand begun (filter p us) told
lists_filter p begun us told h = record {
  order = h.order;
  behind = h.behind;
  are_open = All-filter p (IsOpen begun) us h.are_open;
  apart = order_filter AreApart p us h.apart;
  newest = λ u a there. h.newest u a (filter_has p us u there).0;
  of = h.of;
  later = h.later;
}

let_go : (n : ℕ) (p : Unanswered → Bool) (begun us : List Unanswered) (told : List Answered)
    → ((u : Unanswered) → (u.router ≡ n → ⊥) → p u ≡ true)
    → Changes n begun us told begun (filter p us) told
let_go n p begun us told f =
    record {
      back = λ v h. inl h;
      on = λ v h. h;
      replies = λ v h. h;
      keep = λ u h k. has_filter p us
          u (f u k) h;
    }

abbrev pub stays_open : ℕ → ℕ → Unanswered → Bool
stays_open n conn u = not (nat_eq u.router n && nat_eq u.conn conn)

other_stays : (n conn : ℕ) (u : Unanswered) → (u.router ≡ n → ⊥) → stays_open n conn u ≡ true
other_stays n conn u h = ap (λ (b : Bool). not (b && nat_eq u.conn conn)) (not_same u.router n h)

conn_stays : (n conn : ℕ) (u : Unanswered) → nat_eq u.conn conn ≡ false → stays_open n conn u ≡ true
conn_stays n conn u h = ap (λ (b : Bool). not (nat_eq u.router n && b)) h ∙ none (nat_eq u.router n)
  where
    none : (b : Bool) → not (b && false) ≡ true
    none true = refl
    none false = refl

gone_doing : (n conn : ℕ) (s : RouterState) (begun us : List Unanswered) (told : List Answered)
    (doing : Doing) → DoingNotFrom conn doing → DoingStands n s begun us told doing
    → DoingStands n s begun (filter (stays_open n conn) us) told doing
gone_doing n conn s begun us told (Begun t) q h = (
  h.0,
  txn_on n begun us told begun (filter (stays_open n conn) us) told t
      (record { back = λ v there same. there; on = λ v k. k; replies = λ v k. k })
      (λ asker op answers is a.
      has_filter (stays_open n conn) us a.statement
      (conn_stays n conn a.statement (ap (λ (c : ℕ). nat_eq c conn) a.conn ∙ subst (NotFrom conn)
      is q)) a.there) h.1,
)
gone_doing n conn s begun us told (Sought seeking known) q h = tt

pub gone_book : (routers : List RouterState) (n conn : ℕ) (r s : RouterState)
    (begun us : List Unanswered) (told : List Answered) → slice_get routers n ≡ Some r → Kept r s
    → AllQuiet r s
    → ((lsid : Lsid) (v : Session) → session_of s lsid ≡ Some v → DoingNotFrom conn v.doing)
    → BookStands routers begun us told
    → BookStands (slice_set routers n s) begun (filter (stays_open n conn) us) told
gone_book routers n conn r s begun us told there k q away h =
    let x = quiet_router n r s begun us told k q (h.routers_stand n r there) in
    let this : RouterStands n begun (filter (stays_open n conn) us) told s =
    record {
      number = x.number;
      drawn = x.drawn;
      sessions = λ lsid v e. gone_doing n conn s begun us told v.doing (away lsid v e)
          (x.sessions lsid v e);
      alone = x.alone;
    } in
    book_step routers n s begun us told begun (filter (stays_open n conn) us) told
    (let_go n (stays_open n conn) begun us told (other_stays n conn)) this
    (lists_filter (stays_open n conn) begun us told h.lists) h

-- A router that starts again.

pub drawn_again : (r : RouterState) (n : ℕ) (tag : Tag) → WasDrawn r tag → WasDrawn (again n r) tag
drawn_again r n tag (inl h) = inl (omega (arith, h))
drawn_again r n tag (inr h) = let same : tag.boot ≡ r.boot = h.0 in inl (omega (arith, same))

abbrev pub elsewhere : ℕ → Unanswered → Bool
elsewhere n u = not (nat_eq u.router n)

other_elsewhere : (n : ℕ) (u : Unanswered) → (u.router ≡ n → ⊥) → elsewhere n u ≡ true
other_elsewhere n u h = ap not (not_same u.router n h)

pub again_book : (routers : List RouterState) (n : ℕ) (r : RouterState) (begun us : List Unanswered)
    (told : List Answered) → slice_get routers n ≡ Some r
    → BookStands routers begun us told → BookStands (slice_set routers n (again n r)) begun
    (filter (elsewhere n) us) told
again_book routers n r begun us told there h =
    let x = h.routers_stand n r there in
    let this : RouterStands n begun (filter (elsewhere n) us) told (again n r) =
    record {
      number = refl;
      drawn = λ u at is. drawn_again r n u.tag (x.drawn u at is);
      sessions = λ lsid s e. let no : None ≡ Some s = e in grind (arith, no);
      alone = λ lsid other s v e f same. let no : None ≡ Some s = e in grind (arith, no);
    } in
    book_step routers n (again n r) begun us told begun (filter (elsewhere n) us) told
    (let_go n (elsewhere n) begun us told (other_elsewhere n)) this
    (lists_filter (elsewhere n) begun us told h.lists) h
