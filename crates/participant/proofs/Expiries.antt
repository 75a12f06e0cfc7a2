-- Live transactions that are too old, one after the other.
use Rattle.std.proofs.Common.{◌≡◌, ◌<◌, ◌||◌, ℕ, Bool, true, false, cond, List, [], ◌∷◌, Option}
use Rattle.std.proofs.Common.{Some, None, IsSomeAnd, find, is_some, length, option_map, refl, ap}
use Rattle.std.proofs.Common.{subst, ◌∙◌, sym, arith}
use Rattle.std.specs.declared.cmp.Ordering.{Ordering}
use Rattle.std.specs.declared.cmp.Ordering.TheVariants.{Less, Equal, Greater}
use Rattle.std.specs.List.{list_any}
use Rattle.std.specs.Ordering.{ordering_reverse}
use Rattle.txn_types.specs.BySession.{entry_of}
use Rattle.txn_types.specs.Order.{lsid_cmp, same_lsid}
use Rattle.txn_types.specs.declared.cause.Cause.{Cause}
use Rattle.txn_types.specs.declared.cause.Cause.TheVariants as cause
use Rattle.txn_types.specs.declared.node.Lsid.{Lsid}
use Rattle.txn_types.proofs.Orders.{lsid_total, lsid_exact}
use Rattle.txn_semantics.specs.Keyed.{taken_out, AllAbove, Rises}
use Rattle.txn_semantics.proofs.Laying.{cmp_self}
use Rattle.session_table.specs.declared.session.Session.{Session}
use Rattle.session_table.specs.declared.session.SessionState.{SessionState}
use Rattle.session_table.specs.declared.session.SessionState.TheVariants as state
use Rattle.version_store.specs.Versions.{Versions}
use Rattle.participant.specs.declared.said.Open.{Open}
use Rattle.participant.specs.Expiry.{expire_all}
use Rattle.participant.specs.Part.{Part, session, end_live, ends_live}
use Rattle.participant.specs.Stands.{StateAt, SessionAt, Stands, is_older}
use Rattle.participant.proofs.Tags.{lsid_self}

abbrev Row : Type 0
Row = Lsid × Open

-- what happens to one that is too old
abbrev ended_row : ℕ → Part → Row → Part
ended_row wall p row = end_live p row.0 (cause.Expired row.1.begun wall)

found_above_case : (low : Lsid) (wall : ℕ) (row e : Row) (rows : List Row) (b : Bool)
    → lsid_cmp low row.0 ≡ Less → cond b (Some row) (find (is_older wall) rows) ≡ Some e
    → (find (is_older wall) rows ≡ Some e → lsid_cmp low e.0 ≡ Less) → lsid_cmp low e.0 ≡ Less
found_above_case low wall row e rows true less is more = let same : row ≡ e = cc in
    subst (λ (x : Row). lsid_cmp low x.0 ≡ Less) same less
found_above_case low wall row e rows false less is more = more is

found_above : (low : Lsid) (wall : ℕ) (e : Row) (rows : List Row) → AllAbove lsid_cmp low rows
    → find (is_older wall) rows ≡ Some e → lsid_cmp low e.0 ≡ Less
found_above low wall e [] above is = cc
found_above low wall e (row ∷ rows) above is = found_above_case low wall row e rows (is_older wall
    row) above.0 is (found_above low wall e rows above.1)

-- none is too old
skip_case : (wall : ℕ) (row : Row) (rows : List Row) (p : Part) (b : Bool) → is_older wall row ≡ b
    → ◌≡◌ {A = Option Row} (cond b (Some row) (find (is_older wall) rows)) None
    → (find (is_older wall) rows ≡ None → expire_all wall rows p ≡ p)
    → expire_all wall (row ∷ rows) p ≡ p
skip_case wall row rows p true is none more = cc
skip_case wall row rows p false is none more =
    ap (λ b. expire_all wall rows (cond b (ended_row wall p row) p)) is ∙ more none

pub none_older : (wall : ℕ) (rows : List Row) (p : Part) → find (is_older wall) rows ≡ None
    → expire_all wall rows p ≡ p
none_older wall [] p none = refl
none_older wall (row ∷ rows) p none =
    skip_case wall row rows p (is_older wall row) refl none (none_older wall rows p)

-- the first that is too old ends
first_case : (wall : ℕ) (row e : Row) (rows : List Row) (p : Part) (b : Bool)
    → is_older wall row ≡ b → Rises lsid_cmp (row ∷ rows)
    → cond b (Some row) (find (is_older wall) rows) ≡ Some e
    → (find (is_older wall) rows ≡ Some e → expire_all wall rows p
    ≡ expire_all wall (taken_out lsid_cmp e.0 rows) (ended_row wall p e))
    → expire_all wall (row ∷ rows) p
    ≡ expire_all wall (taken_out lsid_cmp e.0 (row ∷ rows)) (ended_row wall p e)
first_case wall row e rows p true is rises found more =
    let same : row ≡ e = cc in
    let here : taken_out lsid_cmp row.0 (row ∷ rows) ≡ rows = ap (λ (o : Ordering).
    elim o [ Less ↦ row ∷ rows | Equal ↦ rows | Greater ↦ row ∷ taken_out lsid_cmp row.0 rows ])
    (cmp_self lsid_cmp lsid_total lsid_exact row.0) in
    ap (λ b. expire_all wall rows (cond b (ended_row wall p row) p)) is
    ∙ ap (λ (xs : List Row). expire_all wall xs (ended_row wall p row)) (sym here)
    ∙ ap (λ (x : Row). expire_all wall (taken_out lsid_cmp x.0 (row ∷ rows)) (ended_row wall p x))
    same
first_case wall row e rows p false is rises found more =
    let above : lsid_cmp row.0 e.0 ≡ Less = found_above row.0 wall e rows rises.0 found in
    let greater : lsid_cmp e.0 row.0 ≡ Greater = lsid_total.antisymm e.0 row.0
    ∙ ap ordering_reverse above in
    let there : taken_out lsid_cmp e.0 (row ∷ rows) ≡ row ∷ taken_out lsid_cmp e.0 rows =
    ap (λ (o : Ordering).
    elim o [ Less ↦ row ∷ rows | Equal ↦ rows | Greater ↦ row ∷ taken_out lsid_cmp e.0 rows ])
    greater in
    ap (λ b. expire_all wall rows (cond b (ended_row wall p row) p)) is
    ∙ more found
    ∙ ap (λ b. expire_all wall (taken_out lsid_cmp e.0 rows)
    (cond b (ended_row wall (ended_row wall p e) row) (ended_row wall p e))) (sym is)
    ∙ ap (λ (xs : List Row). expire_all wall xs (ended_row wall p e)) (sym there)

pub first_older : (wall : ℕ) (e : Row) (rows : List Row) (p : Part)
    → Rises lsid_cmp rows → find (is_older wall) rows ≡ Some e
    → expire_all wall rows p ≡ expire_all wall (taken_out lsid_cmp e.0 rows) (ended_row wall p e)
first_older wall e [] p rises found = cc
first_older wall e (row ∷ rows) p rises found = first_case wall row e rows p (is_older wall row)
    refl rises found (first_older wall e rows p rises.1)

-- it has an entry
entry_case : (wall : ℕ) (row e : Row) (rows : List Row) (b : Bool) (o : Ordering)
    → lsid_cmp e.0 row.0 ≡ o → Rises lsid_cmp (row ∷ rows)
    → cond b (Some row) (find (is_older wall) rows) ≡ Some e
    → (find (is_older wall) rows ≡ Some e → entry_of e.0 rows ≡ Some e.1)
    → entry_of e.0 (row ∷ rows) ≡ Some e.1
entry_case wall row e rows true o is rises found more =
    let same : row ≡ e = cc in
    ap (λ (x : Row). option_map (λ (r : Row). r.1)
    (cond (same_lsid e.0 x.0) (Some x) (find (λ (r : Row). same_lsid e.0 r.0) rows))) same
    ∙ ap (λ b. option_map (λ (r : Row). r.1)
    (cond b (Some e) (find (λ (r : Row). same_lsid e.0 r.0) rows))) (lsid_self e.0)
entry_case wall row e rows false o is rises found more =
    let above : lsid_cmp row.0 e.0 ≡ Less = found_above row.0 wall e rows rises.0 found in
    let greater : lsid_cmp e.0 row.0 ≡ Greater = lsid_total.antisymm e.0 row.0
    ∙ ap ordering_reverse above in
    let apart : same_lsid e.0 row.0 ≡ false =
    ap (λ (o : Ordering). elim o [ Less ↦ false | Equal ↦ true | Greater ↦ false ]) greater in
    ap (λ b. option_map (λ (r : Row). r.1)
    (cond b (Some row) (find (λ (r : Row). same_lsid e.0 r.0) rows))) apart ∙ more found

has_entry : (wall : ℕ) (e : Row) (rows : List Row) → Rises lsid_cmp rows
    → find (is_older wall) rows ≡ Some e → entry_of e.0 rows ≡ Some e.1
has_entry wall e [] rises found = cc
has_entry wall e (row ∷ rows) rises found = entry_case wall row e rows (is_older wall row)
    (lsid_cmp e.0 row.0) refl rises found (has_entry wall e rows rises.1)

state_is : (store : Versions) (s : Session) (st : SessionState) (o : Open)
    → StateAt store s st (Some o) → st ≡ state.Live
state_is store s state.Live o h = refl
state_is store s (state.Prepared at coordinator) o h = cc
state_is store s (state.Committed at) o h = cc
state_is store s state.Released o h = cc
state_is store s (state.Aborted why read_at) o h = cc

session_is : (store : Versions) (s : Option Session) (o : Open) → SessionAt store s (Some o)
    → IsSomeAnd s (λ s. s.state ≡ state.Live)
session_is store None o h = cc
session_is store (Some s) o h = state_is store s s.state o h

-- its session is live
pub is_live : (p : Part) (wall : ℕ) (e : Row) → Stands p → Rises lsid_cmp p.live
    → find (is_older wall) p.live ≡ Some e → IsSomeAnd (session p e.0) (λ s. s.state ≡ state.Live)
is_live p wall e stands rises found =
    session_is p.store (session p e.0) e.1 (subst (λ o. SessionAt p.store (session p e.0) o)
    (has_entry wall e p.live rises found) (stands.sessions e.0))

left_case : (p : Part) (lsid : Lsid) (why : Cause) (s : Option Session) → IsSomeAnd s (λ s. s.state
    ≡ state.Live) → (ends_live p lsid why s).live ≡ taken_out lsid_cmp lsid p.live
left_case p lsid why None live = absurd live
left_case p lsid why (Some s) live = refl

-- what is left
pub left_behind : (p : Part) (wall : ℕ) (e : Row) → Stands p
    → Rises lsid_cmp p.live → find (is_older wall) p.live ≡ Some e
    → (ended_row wall p e).live ≡ taken_out lsid_cmp e.0 p.live
left_behind p wall e stands rises found = left_case p e.0 (cause.Expired e.1.begun wall) (session p
    e.0) (is_live p wall e stands rises found)

-- one step
pub one_step : (p : Part) (wall : ℕ) (e : Row) → Stands p
    → Rises lsid_cmp p.live → find (is_older wall) p.live ≡ Some e
    → expire_all wall p.live p ≡ expire_all wall (ended_row wall p e).live (ended_row wall p e)
one_step p wall e stands rises found = first_older wall e p.live p rises found
    ∙ ap (λ (xs : List Row). expire_all wall xs (ended_row wall p e))
    (sym (left_behind p wall e stands rises found))

fewer_case : (wall : ℕ) (row e : Row) (rows : List Row) (b : Bool)
    → Rises lsid_cmp (row ∷ rows) → cond b (Some row) (find (is_older wall) rows) ≡ Some e
    → (find (is_older wall) rows ≡ Some e → length (taken_out lsid_cmp e.0 rows) < length rows)
    → length (taken_out lsid_cmp e.0 (row ∷ rows)) < length (row ∷ rows)
fewer_case wall row e rows true rises found more =
    let same : row ≡ e = cc in
    let here : taken_out lsid_cmp row.0 (row ∷ rows) ≡ rows = ap (λ (o : Ordering).
    elim o [ Less ↦ row ∷ rows | Equal ↦ rows | Greater ↦ row ∷ taken_out lsid_cmp row.0 rows ])
    (cmp_self lsid_cmp lsid_total lsid_exact row.0) in
    let count : length (taken_out lsid_cmp e.0 (row ∷ rows)) ≡ length rows = ap (λ (x : Row).
    length (taken_out lsid_cmp x.0 (row ∷ rows))) (sym same) ∙ ap length here in
    omega (arith, count)
fewer_case wall row e rows false rises found more =
    let above : lsid_cmp row.0 e.0 ≡ Less = found_above row.0 wall e rows rises.0 found in
    let greater : lsid_cmp e.0 row.0 ≡ Greater = lsid_total.antisymm e.0 row.0
    ∙ ap ordering_reverse above in
    let there : taken_out lsid_cmp e.0 (row ∷ rows) ≡ row ∷ taken_out lsid_cmp e.0 rows =
    ap (λ (o : Ordering).
    elim o [ Less ↦ row ∷ rows | Equal ↦ rows | Greater ↦ row ∷ taken_out lsid_cmp e.0 rows ])
    greater in
    let count : length (taken_out lsid_cmp e.0 (row ∷ rows))
    ≡ length (row ∷ taken_out lsid_cmp e.0 rows) = ap length there in
    let less : length (taken_out lsid_cmp e.0 rows) < length rows = more found in
    omega (arith, count, less)

fewer : (wall : ℕ) (e : Row) (rows : List Row) → Rises lsid_cmp rows
    → find (is_older wall) rows ≡ Some e → length (taken_out lsid_cmp e.0 rows) < length rows
fewer wall e [] rises found = cc
fewer wall e (row ∷ rows) rises found =
    fewer_case wall row e rows (is_older wall row) rises found (fewer wall e rows rises.1)

-- fewer are live
pub fewer_live : (p : Part) (wall : ℕ) (e : Row) → Stands p → Rises lsid_cmp p.live
    → find (is_older wall) p.live ≡ Some e → length (ended_row wall p e).live < length p.live
fewer_live p wall e stands rises found =
    let count : length (ended_row wall p e).live ≡ length (taken_out lsid_cmp e.0 p.live) =
    ap length (left_behind p wall e stands rises found) in
    let less = fewer wall e p.live rises found in omega (arith, count, less)

-- One turn: the first that is too old is live, and ends.

-- its session, and when it became live
abbrev since : Row → Lsid × ℕ
since e = (e.0, e.1.begun)

pub record Turn (p : Part) (wall : ℕ) (lsid : Lsid) (begun : ℕ) : Type 0 where
  pub live : IsSomeAnd (session p lsid) (λ s. s.state ≡ state.Live)
  pub step : expire_all wall p.live p ≡ expire_all wall (end_live p lsid
      (cause.Expired begun wall)).live (end_live p lsid (cause.Expired begun wall))
  pub fewer : length (end_live p lsid (cause.Expired begun wall)).live < length p.live

found_row : (o : Option Row) (lsid : Lsid) (begun : ℕ) → option_map since o ≡ Some (lsid, begun)
    → (e : Row) × (o ≡ Some e) × (e.0 ≡ lsid) × (e.1.begun ≡ begun)
found_row None lsid begun is = cc
found_row (Some e) lsid begun is =
    let pair : (e.0, e.1.begun) ≡ (lsid, begun) = cc in
    (e, refl, ap (λ (x : Lsid × ℕ). x.0) pair, ap (λ (x : Lsid × ℕ). x.1) pair)

pub turned : (p q : Part) (wall : ℕ) (lsid : Lsid) (begun : ℕ) → Stands p → Rises lsid_cmp p.live
    → option_map since (find (is_older wall) p.live) ≡ Some (lsid, begun) → p ≡ q
    → Turn q wall lsid begun
turned p q wall lsid begun stands rises is same =
    let row = found_row (find (is_older wall) p.live) lsid begun is in
    let e : Row = row.0 in
    let turn : Turn p wall e.0 e.1.begun = record {
      live = is_live p wall e stands rises row.1;
      step = one_step p wall e stands rises row.1;
      fewer = fewer_live p wall e stands rises row.1;
    } in
    subst (λ (r : Part). Turn r wall lsid begun) same (subst (λ (b : ℕ). Turn p wall lsid b) row.3
    (subst (λ (l : Lsid). Turn p wall l e.1.begun) row.2 turn))

-- whether there is one
any_case : (row : Row) (o : Option Row) (any b : Bool) → is_some (option_map since o) ≡ any
    → is_some (option_map since (cond b (Some row) o)) ≡ (b || any)
any_case row o any true h = refl
any_case row o any false h = h

pub any_older : (wall : ℕ) (rows : List Row)
    → is_some (option_map since (find (is_older wall) rows)) ≡ list_any (is_older wall) rows
any_older wall [] = refl
any_older wall (row ∷ rows) = any_case row (find (is_older wall) rows) (list_any (is_older wall)
    rows) (is_older wall row) (any_older wall rows)

pub no_first : (o : Option (Lsid × ℕ)) → is_some o ≡ false → o ≡ None
no_first None h = refl
no_first (Some first) h = cc

none_row : (o : Option Row) → option_map since o ≡ None → o ≡ None
none_row None is = refl
none_row (Some e) is = cc

-- none is too old any more
pub settled : (p q : Part) (wall : ℕ) → option_map since (find (is_older wall) p.live) ≡ None
    → p ≡ q → expire_all wall q.live q ≡ q
settled p q wall is same = none_older wall q.live q (subst (λ (r : Part).
    find (is_older wall) r.live ≡ None) same (none_row (find (is_older wall) p.live) is))
