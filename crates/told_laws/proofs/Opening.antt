-- What stands of opened statements is kept by a step that asks one.
use Rattle.std.proofs.Common.{◌≡◌, ◌⊎◌, inl, inr, ◌+◌, ◌≤◌, ◌<◌, ◌&&◌, ◌||◌, ℕ, ℤ, Bool, true}
use Rattle.std.proofs.Common.{false, not, List, [], ◌∷◌, ◌++◌, map, length, nat_eq, Some, None}
use Rattle.std.proofs.Common.{refl, sym, ap, ap₂, subst, ◌∙◌, arith}
use Rattle.std.specs.Prelude.{Contains, slice_set, flat_map, filter_map, option_map}
use Rattle.std.specs.List.{list_any}
use Rattle.std.proofs.lemmas.List.{append-nil, length-map}
use Rattle.std.proofs.lemmas.List.Elements.{All-weaker, All-push, All-contains}
use Rattle.std.proofs.lemmas.List.Elements.{Contains-append_left, Contains-append_cases}
use Rattle.std.proofs.lemmas.List.Elements.{Contains-push, Contains-push_cases}
use Rattle.txn_types.specs.Ids.{id_in}
use Rattle.txn_types.specs.Order.{same_lsid}
use Rattle.txn_types.specs.declared.message.Statement.{Statement}
use Rattle.txn_types.specs.declared.names.Tag.{Tag}
use Rattle.txn_types.specs.declared.node.Lsid.{Lsid}
use Rattle.txn_types.specs.declared.operation.DeleteItem.{DeleteItem}
use Rattle.txn_types.specs.declared.operation.InsertItem.{InsertItem}
use Rattle.txn_types.specs.declared.operation.UpdateItem.{UpdateItem}
use Rattle.txn_types.specs.declared.operation.Op.{Op}
use Rattle.txn_types.specs.declared.operation.Op.TheVariants.{Insert, Find, Update, Delete}
use Rattle.txn_semantics.specs.Touched.{Touched, id_test}
use Rattle.txn_semantics.specs.declared.commits.Answered.{Answered}
use Rattle.chunk_map.specs.Map.{Map, ranges_of}
use Rattle.chunk_map.specs.declared.map.ChunkRow.{ChunkRow}
use Rattle.chunk_map.specs.Parts.{shards_of}
use Rattle.chunk_map.specs.Place.{rising, or_first, shard_of, shards_by, shards_for}
use Rattle.chunk_laws.proofs.Risen.{Above, Rise, rising_rises}
use Rattle.router_state.specs.declared.state.Asker.{Asker}
use Rattle.router_state.specs.declared.state.Doing.{Doing}
use Rattle.router_state.specs.declared.state.Doing.TheVariants.{Begun, Sought}
use Rattle.router_state.specs.declared.state.Session.{Session}
use Rattle.router_state.specs.declared.state.Transaction.{Transaction}
use Rattle.router_state.specs.Deeds.{Move}
use Rattle.router_state.specs.State.{Post, RouterState, session_of, is_waited}
use Rattle.router_rules.specs.Statements as st
use Rattle.router_core.specs.Requests.{next_tag}
use Rattle.shard_image.proofs.Sessions.{own_lsid}
use Rattle.cluster_core.specs.Answering.{Unanswered, is_complete, opened_by}
use Rattle.cluster_core.specs.Parts.{WasDrawn}
use Rattle.answer_laws.specs.Comes.{as_opened}
use Rattle.answer_laws.proofs.Lists.{nat_is}
use Rattle.answer_laws.proofs.Sending.{part_for, firsts}
use Rattle.told_laws.specs.Places.{Rises, HasReply, IsOpened}
use Rattle.told_laws.proofs.Lists.{order_more, only_one, not_same, same_nat}
use Rattle.told_laws.proofs.Moves.{AsksOne, IsIdleIn, IsOwn}
use Rattle.told_laws.proofs.Standing.{OnceIn, has_answer, IsAsked, TxnStands, DoingStands, SameTag}
use Rattle.told_laws.proofs.Standing.{RouterStands, AreApart, IsOpen, ListsStand, BookStands}
use Rattle.told_laws.proofs.Standing.{txn_on, replied_if, own_on, drawn_on}
use Rattle.told_laws.proofs.Booking.{Alone, same_tag_of, Changes, book_step}

-- The shards of a statement.

or_first_rises : (ns : List ℕ) → Rise ns → Rise (or_first ns)
or_first_rises [] h = (tt, tt)
or_first_rises (n ∷ ns) h = h

by_rises : (m : Map) (ns : List ℕ) (touched : Touched) → Rise (shards_by m ns touched)
by_rises m ns (Some ids) =
    let shards = map (shard_of m ns) ids in
    or_first_rises (rising shards) (rising_rises shards)
by_rises m ns None =
    let shards = map (λ (row : ChunkRow). row.shard) (ranges_of ns m.rows) in
    or_first_rises (rising shards) (rising_rises shards)

pub shards_rise : (m : Map) (op : Op) → Rise (shards_of m op)
unfolding shards_of
shards_rise m (Insert ns docs) =
    rising_rises (filter_map (λ (item : InsertItem). option_map (shard_of m ns) (id_in item.doc))
    docs)
shards_rise m (Find ns wanted down limit) = by_rises m ns (id_test wanted)
shards_rise m (Update ns items) =
    rising_rises (flat_map (λ (item : UpdateItem). shards_for m ns item.filter) items)
shards_rise m (Delete ns items) =
    rising_rises (flat_map (λ (item : DeleteItem). shards_for m ns item.filter) items)

sym_case : (a b : ℕ) (test : Bool) → nat_eq a b ≡ test → nat_eq b a ≡ test
sym_case a b true e = subst (λ (c : ℕ). nat_eq c a ≡ true) (nat_is a b e) (same_nat a)
sym_case a b false e =
    not_same b a (λ same.
    let yes : nat_eq a b ≡ true = subst (λ (c : ℕ). nat_eq a c ≡ true) (sym same) (same_nat a) in
    let no : true ≡ false = sym yes ∙ e in
    grind (arith, no))

pub nat_sym : (a b : ℕ) → nat_eq a b ≡ nat_eq b a
nat_sym a b = sym (sym_case a b (nat_eq a b) refl)

or_same : (a b c d : Bool) → a ≡ b → c ≡ d → (a || c) ≡ (b || d)
or_same a b c d e f = ap₂ (λ (x y : Bool). x || y) e f

module _ (chunks : Map) (lsid : Lsid) (number : ℤ) (t : Transaction) (op : Op) where
  posts_waited : (shards : List ℕ) (shard : ℕ)
      → is_waited shard (map (st.statement_to chunks lsid number t op) shards) ≡ list_any
      (nat_eq shard) shards
  posts_waited [] shard = refl
  posts_waited (s ∷ shards) shard =
      or_same (nat_eq s shard) (nat_eq shard s)
      (is_waited shard (map (st.statement_to chunks lsid number t op) shards))
      (list_any (nat_eq shard) shards)
      (nat_sym s shard) (posts_waited shards shard)

  none_above : (n : ℕ) (shards : List ℕ) → Above n shards → list_any (nat_eq n) shards ≡ false
  none_above n [] h = refl
  none_above n (m ∷ shards) h =
      or_same (nat_eq n m) false (list_any (nat_eq n) shards) false
      (not_same n m (λ e. absurd (omega (arith, h.0, e)))) (none_above n shards h.1)

  posts_once : (shards : List ℕ) → Rise shards
      → OnceIn (map (st.statement_to chunks lsid number t op) shards)
  posts_once [] h = tt
  posts_once (s ∷ shards) h = (
    posts_waited shards s ∙ none_above s shards h.0,
    posts_once shards
        h.1,
  )

-- What stands of the transaction that asks: what it opened before has had its replies, and no other
-- session has it.

pub record IsNewest (n : ℕ) (r s : RouterState) (lsid : Lsid) (begun : List Unanswered)
    (told : List Answered) (t : Transaction) : Type 0 where
  pub router : t.tag.router ≡ n
  pub own : IsOwn s t.tag
  pub older : (v : Unanswered) → Contains begun v → v.tag ≡ t.tag → (v.k ≤ t.k) × HasReply told v
  pub apart : (other : Lsid) (v : Session) (u : Transaction) → same_lsid other lsid ≡ false
      → session_of r other ≡ Some v → v.doing ≡ Begun u → u.tag ≡ t.tag → ⊥

doing_is : (n : ℕ) (r : RouterState) (begun us : List Unanswered) (told : List Answered)
    (s : Session) (t : Transaction) → s.doing ≡ Begun t → DoingStands n r begun us told s.doing
    → IsOwn r t.tag × TxnStands n begun us told t
doing_is n r begun us told s t e h = subst (DoingStands n r begun us told) e h

idle_newest : (n : ℕ) (r s : RouterState) (lsid : Lsid) (begun us : List Unanswered)
    (told : List Answered) (t : Transaction) → RouterStands n begun us told r → s.number ≡ r.number
    → s.boot ≡ r.boot → r.serial ≤ s.serial
    → IsIdleIn r lsid t → IsNewest n r s lsid begun told t
idle_newest n r s lsid begun us told t h number boot rises i =
    let d = doing_is n r begun us told i.0 t i.2 (h.sessions lsid i.0 i.1) in
    let replied = replied_if n begun us told t i.3 d.1 in
    record {
      router = d.0.router ∙ h.number;
      own = own_on r s t.tag number boot rises d.0;
      older = λ v there same. (d.1.below v there same, replied v there same);
      apart = λ other v u apart there doing same.
          let key : other ≡ lsid = h.alone other lsid v i.0 there i.1
          (same_tag_of v.doing i.0.doing u t doing i.2 same) in
          let yes : same_lsid other lsid ≡ true = subst (λ (l : Lsid). same_lsid other l ≡ true) key
          (own_lsid other) in
          let no : true ≡ false = sym yes ∙ apart in
          absurd (grind (arith, no));
    }

pub not_drawn : (r : RouterState) (tag : Tag) → tag ≡ next_tag r → WasDrawn r tag → ⊥
not_drawn r tag e (inl h) = let same : tag.boot ≡ r.boot = ap (λ (t : Tag). t.boot) e in absurd
    (omega (arith, h, same))
not_drawn r tag e (inr h) = let same : tag.serial ≡ r.serial + 1 = ap (λ (t : Tag). t.serial) e in
    absurd (omega (arith, h.1, same))

next_newest : (n : ℕ) (r s : RouterState) (lsid : Lsid) (begun us : List Unanswered)
    (told : List Answered) (t : Transaction) → RouterStands n begun us told r → s.number ≡ r.number
    → s.boot ≡ r.boot
    → t.tag ≡ next_tag r → r.serial + 1 ≤ s.serial → IsNewest n r s lsid begun told t
next_newest n r s lsid begun us told t h number boot e rises =
    let router : t.tag.router ≡ r.number = ap (λ (t : Tag). t.router) e in
    let serial : t.tag.serial ≡ r.serial + 1 = ap (λ (t : Tag). t.serial) e in
    record {
      router = router ∙ h.number;
      own = record {
        router = router ∙ sym number;
        boot = ap (λ (t : Tag). t.boot) e ∙ sym boot;
        serial = omega (arith, serial, rises);
      };
      older = λ v there same.
          absurd (not_drawn r v.tag (same ∙ e)
          (h.drawn v there (ap (λ (t : Tag). t.router) same ∙ router ∙ h.number)));
      apart = λ other v u apart there doing same.
          let d = doing_is n r begun us told v u doing (h.sessions other v there) in
          absurd (not_drawn r u.tag (same ∙ e) (inr (d.0.boot, d.0.serial)));
    }

newest_of : (n : ℕ) (r : RouterState) (conn : ℕ) (op : Op) (m : Move) (begun us : List Unanswered)
    (told : List Answered) (a : AsksOne r conn op m) → RouterStands n begun us told r
    → IsNewest n r m.state a.lsid begun told a.t
newest_of n r conn op m begun us told a h =
    elim (a.of) [
      | inl w ↦ idle_newest n r m.state a.lsid begun us told a.t h a.number_is a.boot_is a.rises w
      | inr w ↦ next_newest n r m.state a.lsid begun us told a.t h a.number_is a.boot_is w.0 w.1
    ]

-- The statement that is opened, where it is for some shard.

abbrev new_ones : ℕ → ℕ → Map → Lsid → ℤ → Transaction → Op → List ℕ → List Unanswered
new_ones n conn chunks lsid number t op shards = opened_by n conn op
    (map (part_for chunks lsid number t op) shards)

pub record IsNext (n : ℕ) (t : Transaction) (w : Unanswered) : Type 0 where
  pub tag : w.tag ≡ t.tag
  pub k : w.k ≡ t.k + 1

new_is : (n conn : ℕ) (chunks : Map) (lsid : Lsid) (number : ℤ) (t : Transaction) (op : Op)
    (shards : List ℕ) (w : Unanswered) → Contains (new_ones n conn chunks lsid number t op shards) w
    → IsNext n t w
new_is n conn chunks lsid number t op [] w h = absurd (omega (arith, h.1))
new_is n conn chunks lsid number t op (s ∷ shards) w h =
    let e = only_one _ w h in
    record { tag = ap (λ (u : Unanswered). u.tag) e; k = ap (λ (u : Unanswered). u.k) e }

lists_more : (begun us : List Unanswered) (told : List Answered) (w : Unanswered)
    → ((v : Unanswered) → Contains begun v → v.tag ≡ w.tag → (v.k < w.k) × HasReply told v)
    → as_opened w ≡ w → is_complete w ≡ false
    → ListsStand begun us told → ListsStand (begun ++ w ∷ []) (us ++ w ∷ []) told
lists_more begun us told w older new incomplete h = record {
  order = order_more Rises begun w h.order (λ v c same. (older v c same).0);
  behind = λ u v a b same less. by u v (Contains-push_cases begun w u a)
      (Contains-push_cases begun w v b) same less;
  are_open =
      All-push (IsOpen (begun ++ w ∷ [])) us w
      (All-weaker (IsOpen begun) (IsOpen (begun ++ w ∷ []))
      (λ u o. record {
        opened = Contains-append_left begun (w ∷ []) (as_opened u) o.opened;
        incomplete = o.incomplete;
      }) us h.are_open)
      (record {
        opened = subst (Contains (begun ++ w ∷ [])) (sym new) (Contains-push begun w);
        incomplete = incomplete;
      });
  apart = order_more AreApart us w h.apart (λ u c same. unanswered u c
      (older (as_opened u) (All-contains (IsOpen begun) us u h.are_open c).opened same).1);
  newest = λ u a there told_it same.
      elim (Contains-push_cases us w u there) [
        | inl x ↦ h.newest u a x told_it same
        | inr x ↦
            let o = All-contains (IsOpened begun) told a h.of told_it in
            let less = (older o.statement o.opened
            (sym o.tag ∙ same ∙ ap (λ (y : Unanswered). y.tag) (sym x))).0 in
            subst (λ (y : Unanswered). a.k < y.k) x (subst (λ (k : ℕ). k < w.k) (sym o.k) less)
      ];
  of = All-weaker (IsOpened begun) (IsOpened (begun ++ w ∷ []))
      (λ a o. record {
        statement = o.statement;
        opened = Contains-append_left begun (w ∷ [])
            o.statement o.opened;
        tag = o.tag;
        k = o.k;
        op = o.op;
      }) told h.of;
  later = h.later;
}
  where
    by : (u v : Unanswered) → Contains begun u ⊎ (w ≡ u) → Contains begun v ⊎ (w ≡ v)
        → u.tag ≡ v.tag → u.k < v.k → HasReply told u
    by u v (inl a) (inl b) same less = h.behind u v a b same less
    by u v (inl a) (inr b) same less = (older u a (same ∙ ap (λ (y : Unanswered). y.tag) (sym b))).1
    by u v (inr a) (inl b) same less =
        let under = (older v b (sym same ∙ ap (λ (y : Unanswered). y.tag) (sym a))).0 in
        let over : w.k < v.k = subst (λ (y : Unanswered). y.k < v.k) (sym a) less in
        absurd (omega (arith, under, over))
    by u v (inr a) (inr b) same less =
        let over : w.k < w.k = subst (λ (y : Unanswered). w.k < y.k) (sym b)
        (subst (λ (y : Unanswered). y.k < v.k) (sym a) less) in
        absurd (omega (arith, over))

    unanswered : (u : Unanswered) → Contains us u → HasReply told (as_opened u) → ⊥
    unanswered u c r =
        let less = h.newest u r.answer c r.among r.tag in
        let same : r.answer.k ≡ u.k = r.k in
        absurd (omega (arith, less, same))

lists_new : (n conn : ℕ) (chunks : Map) (lsid : Lsid) (number : ℤ) (t : Transaction) (op : Op)
    (shards : List ℕ) (begun us : List Unanswered) (told : List Answered)
    → ((v : Unanswered) → Contains begun v → v.tag ≡ t.tag → (v.k ≤ t.k) × HasReply told v)
    → ListsStand begun us told
    → ListsStand (begun ++ new_ones n conn chunks lsid number t op shards)
    (us ++ new_ones n conn chunks lsid number t op shards) told
lists_new n conn chunks lsid number t op [] begun us told older h =
    subst (λ (b : List Unanswered). ListsStand b (us ++ []) told) (sym (append-nil begun))
    (subst (λ (u : List Unanswered). ListsStand begun u told) (sym (append-nil us)) h)
lists_new n conn chunks lsid number t op (s ∷ shards) begun us told older h =
    let w : Unanswered = record {
      router = n;
      conn = conn;
      tag = t.tag;
      k = t.k + 1;
      op = op;
      shards = map (λ (p : ℕ × Statement). p.0)
          (map (part_for chunks lsid number t op) (s ∷ shards));
      answers = [];
    } in
    lists_more begun us told w (λ v there same. let o = older v there same in
    (omega (arith, o.0), o.1)) refl (not_same 0 (length w.shards)
    (λ e. absurd (omega (arith, e)))) h

new_asked : (n conn : ℕ) (chunks : Map) (lsid : Lsid) (number : ℤ) (asker : Asker)
    (t v : Transaction) (op : Op) (shards : List ℕ) (begun us : List Unanswered)
    (told : List Answered)
    → asker.conn ≡ conn → Rise shards → v.tag ≡ t.tag → v.k ≡ t.k + 1
    → v.waiting ≡ map (st.statement_to chunks lsid number t op) shards
    → ((u : Unanswered) → Contains begun u → u.tag ≡ t.tag → (u.k ≤ t.k) × HasReply told u)
    → IsAsked n (begun ++ new_ones n conn chunks lsid number t op shards)
    (us ++ new_ones n conn chunks lsid number t op shards) told v asker op []
new_asked n conn chunks lsid number asker t v op [] begun us told from rise tag k waiting older =
    inl (
      waiting,
      λ u there same. (older u (subst (λ (b : List Unanswered). Contains b u)
          (append-nil begun) there) (same ∙ tag)).1,
    )
new_asked n conn chunks lsid number asker t v op (s ∷ shards) begun us told from rise tag k waiting
    older =
    let all = s ∷ shards in
    let w : Unanswered = record {
      router = n;
      conn = conn;
      tag = t.tag;
      k = t.k + 1;
      op = op;
      shards = map (λ (p : ℕ × Statement). p.0) (map (part_for chunks lsid number t op) all);
      answers = [];
    } in
    let first = firsts chunks lsid number t op all in
    inr (record {
      statement = w;
      there = Contains-push us w;
      opened = Contains-push begun w;
      router = refl;
      conn = sym from;
      tag = sym tag;
      k = sym k;
      op_is = refl;
      answers_are = refl;
      waited = λ shard.
          ap (is_waited shard) waiting ∙ posts_waited chunks lsid number t op all shard ∙ sym
          (and_true (list_any (nat_eq shard) all))
          ∙ ap (λ (ns : List ℕ). list_any (nat_eq shard) ns && not (has_answer shard []))
          (sym first);
      count =
          let long : length v.waiting ≡ length w.shards = ap (λ (posts : List Post). length posts)
          waiting ∙ length-map all (st.statement_to chunks lsid number t op) ∙ ap
          (λ (ns : List ℕ). length ns) (sym first) in
          omega (arith, long);
      once = subst OnceIn (sym waiting) (posts_once chunks lsid number t op all rise);
      others = λ u there same.
          elim (Contains-push_cases begun w u there) [
            | inl x ↦ inr (older u x (same ∙ tag)).1
            | inr x ↦ inl (sym x)
          ];
    })
  where
    and_true : (b : Bool) → (b && true) ≡ b
    and_true true = refl
    and_true false = refl

-- The step.

abbrev pub news_of : (n conn : ℕ) (r : RouterState) (op : Op) (m : Move) → AsksOne r conn op m
    → List Unanswered
news_of n conn r op m a = new_ones n conn r.chunks a.lsid a.number a.t op (shards_of r.chunks op)

stands_other : (n conn : ℕ) (r : RouterState) (op : Op) (m : Move) (begun us : List Unanswered)
    (told : List Answered) (a : AsksOne r conn op m)
    (other : Lsid) (v : Session) (doing : Doing) → same_lsid other a.lsid ≡ false
    → session_of r other ≡ Some v → v.doing ≡ doing → IsNewest n r m.state a.lsid begun told a.t
    → DoingStands n r begun us told doing → DoingStands n m.state (begun ++ news_of n conn r op m a)
    (us ++ news_of n conn r op m a) told doing
stands_other n conn r op m begun us told a other v (Begun u) apart there is newest k =
    let new = news_of n conn r op m a in (
      own_on r m.state u.tag a.number_is a.boot_is a.rises k.0,
      txn_on n begun us told (begun ++ new) (us ++ new) told u
          (record {
            back = λ x at same.
                elim (Contains-append_cases begun new x at) [
                  | inl w ↦ w
                  | inr w ↦ absurd (newest.apart other v u apart there is
                      (sym same
                      ∙ (new_is n conn r.chunks a.lsid a.number a.t op (shards_of r.chunks op) x
                      w).tag))
                ];
            on = λ x at. Contains-append_left begun new x at;
            replies = λ x reply. reply;
          })
          (λ asker op answers e asked. Contains-append_left us new asked.statement asked.there) k.1,
    )
stands_other n conn r op m begun us told a other v (Sought seeking known) apart there is newest k =
    tt

stands_new : (n conn : ℕ) (r : RouterState) (op : Op) (m : Move) (begun us : List Unanswered)
    (told : List Answered) (a : AsksOne r conn op m) → IsNewest n r m.state a.lsid begun told a.t
    → DoingStands n m.state (begun ++ news_of n conn r op m a) (us ++ news_of n conn r op m a) told
    (st.asks r.chunks a.lsid a.number a.asker op a.t).session.doing
stands_new n conn r op m begun us told a newest =
    let new = news_of n conn r op m a in (
      record { router = newest.own.router; boot = newest.own.boot; serial = newest.own.serial },
      record {
        below = λ v there same.
            elim (Contains-append_cases begun new v there) [
              | inl w ↦ let o = newest.older v w same in omega (arith, o.0)
              | inr w ↦ let i =
                  new_is n conn r.chunks a.lsid a.number a.t op (shards_of r.chunks op)
                  v w in omega (arith, i.k)
            ];
        phase = new_asked n conn r.chunks a.lsid a.number a.asker a.t _ op (shards_of r.chunks op)
            begun us told a.from (shards_rise r.chunks op) refl refl refl newest.older;
      },
    )

asks_sessions : (n conn : ℕ) (r : RouterState) (op : Op) (m : Move) (begun us : List Unanswered)
    (told : List Answered) (a : AsksOne r conn op m) → RouterStands n begun us told r
    → IsNewest n r m.state a.lsid begun told a.t → (other : Lsid) (v : Session)
    → ((other ≡ a.lsid) × (v ≡ (st.asks r.chunks a.lsid a.number a.asker op a.t).session)) ⊎
    ((same_lsid other a.lsid ≡ false) × (session_of r other ≡ Some v))
    → DoingStands n m.state (begun ++ news_of n conn r op m a) (us ++ news_of n conn r op m a) told
    v.doing
asks_sessions n conn r op m begun us told a h newest other v (inl w) =
    subst (λ (s : Session). DoingStands n m.state (begun ++ news_of n conn r op m a)
    (us ++ news_of n conn r op m a) told s.doing) (sym w.1)
    (stands_new n conn r op m begun us told a newest)
asks_sessions n conn r op m begun us told a h newest other v (inr w) = stands_other n conn r op m
    begun us told a other v v.doing w.0 w.1 refl newest (h.sessions other v w.1)

abbrev TagIs : Doing → Tag → Type 0
TagIs (Begun u) tag = u.tag ≡ tag
TagIs (Sought seeking known) tag = ⊥

other_tag : (n : ℕ) (r s : RouterState) (lsid other : Lsid) (begun : List Unanswered)
    (told : List Answered) (t : Transaction) (v : Session) (new doing : Doing)
    → IsNewest n r s lsid begun told t
    → same_lsid other lsid ≡ false → session_of r other ≡ Some v → v.doing ≡ doing → TagIs new t.tag
    → (SameTag new doing → ⊥) × (SameTag doing new → ⊥)
other_tag n r s lsid other begun told t v (Begun u) (Begun x) newest apart there is tag = (
  λ same. newest.apart other v x apart there is (sym same ∙ tag),
  λ same. newest.apart other v x apart there is (same ∙ tag),
)
other_tag n r s lsid other begun told t v (Begun u) (Sought seeking known) newest apart there is
    tag = (λ same. same, λ same. same)
other_tag n r s lsid other begun told t v (Sought old was) doing newest apart there is tag = absurd
    tag

asks_alone : (n conn : ℕ) (r : RouterState) (op : Op) (m : Move) (begun : List Unanswered)
    (told : List Answered) (a : AsksOne r conn op m) → Alone r
    → IsNewest n r m.state a.lsid begun told a.t → Alone m.state
asks_alone n conn r op m begun told a h newest lsid other s v e f same = by (a.state lsid s e)
    (a.state other v f)
  where
    by : ((lsid ≡ a.lsid) × (s ≡ (st.asks r.chunks a.lsid a.number a.asker op a.t).session)) ⊎
        ((same_lsid lsid a.lsid ≡ false) × (session_of r lsid ≡ Some s))
        → ((other ≡ a.lsid) × (v ≡ (st.asks r.chunks a.lsid a.number a.asker op a.t).session)) ⊎
        ((same_lsid other a.lsid ≡ false) × (session_of r other ≡ Some v)) → lsid ≡ other
    by (inl x) (inl y) = x.0 ∙ sym y.0
    by (inl x) (inr y) =
        absurd ((other_tag n r m.state a.lsid other begun told a.t v
        (st.asks r.chunks a.lsid a.number a.asker op a.t).session.doing v.doing newest y.0 y.1
        refl refl).0 (subst (λ (w : Session). SameTag w.doing v.doing) x.1 same))
    by (inr x) (inl y) =
        absurd ((other_tag n r m.state a.lsid lsid begun told a.t s
        (st.asks r.chunks a.lsid a.number a.asker op a.t).session.doing s.doing newest x.0 x.1
        refl refl).1 (subst (λ (w : Session). SameTag s.doing w.doing) y.1 same))
    by (inr x) (inr y) = h lsid other s v x.1 y.1 same

pub asks_book : (routers : List RouterState) (n conn : ℕ) (r : RouterState) (op : Op) (m : Move)
    (begun us : List Unanswered) (told : List Answered) (a : AsksOne r conn op m)
    → RouterStands n begun us told r
    → BookStands routers begun us told → BookStands (slice_set routers n m.state)
    (begun ++ news_of n conn r op m a) (us ++ news_of n conn r op m a) told
asks_book routers n conn r op m begun us told a x h =
    let new = news_of n conn r op m a in
    let newest = newest_of n r conn op m begun us told a x in
    let is = λ (v : Unanswered) (w : Contains new v). new_is n conn r.chunks a.lsid a.number a.t op
    (shards_of r.chunks op) v w in
    let this : RouterStands n (begun ++ new) (us ++ new) told m.state =
    record {
      number = a.number_is ∙ x.number;
      drawn = λ u at router.
          elim (Contains-append_cases begun new u at) [
            | inl w ↦ drawn_on r m.state u.tag a.boot_is a.rises (x.drawn u w router)
            | inr w ↦ subst (WasDrawn m.state) (sym (is u w).tag)
                (inr (newest.own.boot, newest.own.serial))
          ];
      sessions = λ other v e. asks_sessions n conn r op m begun us told a x newest other v
          (a.state other v e);
      alone = asks_alone n conn r op m begun told a x.alone newest;
    } in
    let changes : Changes n begun us told (begun ++ new) (us ++ new) told =
    record {
      back = λ v at.
          elim (Contains-append_cases begun new v at) [
            | inl w ↦ inl w
            | inr w ↦ inr (ap (λ (tag : Tag). tag.router) (is v w).tag ∙ newest.router)
          ];
      on = λ v at. Contains-append_left begun new v at;
      replies = λ v reply. reply;
      keep = λ u at apart. Contains-append_left us new u at;
    } in
    book_step routers n m.state begun us told (begun ++ new) (us ++ new) told changes this
    (lists_new n conn r.chunks a.lsid a.number a.t op (shards_of r.chunks op) begun us told
    newest.older h.lists) h
