-- Items over rows, place by place.
use Rattle.std.proofs.Common.{◌≡◌, ◌<◌, ℕ, List, [], ◌∷◌, Bool, true, false, cond, refl, ap, subst}
use Rattle.std.proofs.Common.{◌∙◌, sym, filter, Ok, Err, inl, inr}
use Rattle.std.proofs.lemmas.List.Elements.{filter-append}
use Rattle.std.specs.declared.cmp.Ordering.TheVariants.{Less}
use Rattle.txn_types.specs.declared.id.Id.{Id}
use Rattle.txn_types.specs.declared.operation.OpErr.{OpErr}
use Rattle.txn_semantics.specs.Effect.{Done, Doing, nothing, both, with_done, after, each, through}
use Rattle.txn_semantics.specs.Rows.{Row, at, IsRising}
use Rattle.txn_semantics.specs.Splits.{AreBehind, IndicesRise, OnDone, Along}
use Rattle.txn_semantics.proofs.Halves.{part, NotBefore, SplitsTo, IsBehind, StepSplits}
use Rattle.txn_semantics.proofs.Parts.{AllAbove, above_at}
use Rattle.txn_types.specs.Order.{id_cmp}

pub part_both : (p : Id → Bool) (a b : Done) → part p (both a b) ≡ both (part p a) (part p b)
part_both p a b = rw
    (filter-append (λ row. p row.0) a.met b.met, filter-append (λ row. p row.0) a.changed b.changed)
    refl

with_err : (e : OpErr) (d : Done) (r : Doing) → r ≡ Err e → with_done d r ≡ Err e
with_err e d r h = ap (with_done d) h

not_before_with : (e : OpErr) (d : Done) (r : Doing) → NotBefore e r → NotBefore e (with_done d r)
not_before_with e d (Ok m) h = tt
not_before_with e d (Err f) h = h

pub splits_with : (p : Id → Bool) (d d' : Done) (full rest : Doing) → part p d ≡ d'
    → SplitsTo p full rest → SplitsTo p (with_done d full) (with_done d' rest)
splits_with p d d' (Ok m) rest is h = ap (with_done d') h
    ∙ ap Ok (ap (λ x. both x (part p m)) (sym is) ∙ sym (part_both p d m))
splits_with p d d' (Err e) rest is h =
    ((λ there. with_err e d' rest (h.0 there)), not_before_with e d' rest h.1)

with_nothing : (r : Doing) → with_done nothing r ≡ r
with_nothing (Ok m) = refl
with_nothing (Err e) = refl

-- what is done for a row is at its id, and an error is of this index
abbrev pub IsLocal : ℕ → Row → Doing → Type 0
IsLocal n row (Ok d) = (p : Id → Bool) → part p d ≡ cond (p row.0) d nothing
IsLocal n row (Err e) = (e.index ≡ n) × (e.id ≡ row.0)

abbrev IsAbove : ℕ → Id → Doing → Type 0
IsAbove n id (Ok d) = Unit {0}
IsAbove n id (Err e) = (e.index ≡ n) × (id_cmp id e.id ≡ Less)

each_above_case : (n : ℕ) (id : Id) (row : Row) (r rest : Doing) → IsLocal n row r
    → id_cmp id row.0 ≡ Less → IsAbove n id rest → IsAbove n id (after r (λ _. rest))
each_above_case n id row (Ok d) (Ok m) local h more = tt
each_above_case n id row (Ok d) (Err e) local h more = more
each_above_case n id row (Err e) rest local h more = (local.0, ap (id_cmp id) local.1 ∙ h)

each_above : (n : ℕ) (act : Row → Doing) → ((row : Row) → IsLocal n row (act row))
    → (id : Id) (rows : List Row) → AllAbove id rows → IsAbove n id (each act rows)
each_above n act local id [] above = tt
each_above n act local id (row ∷ rows) above = each_above_case n id row (act row) (each act rows)
    (local row) above.0 (each_above n act local id rows above.1)

not_before_above : (n : ℕ) (e : OpErr) (row : Row) (r : Doing) → e.index ≡ n → e.id ≡ row.0
    → IsAbove n row.0 r → NotBefore e r
not_before_above n e row (Ok d) i h above = tt
not_before_above n e row (Err f) i h above =
    inr (i ∙ sym above.0, inl (ap (λ x. id_cmp x f.id) h ∙ above.1))

each_case : (p : Id → Bool) (n : ℕ) (row : Row) (r full rest : Doing) (b : Bool) → p row.0 ≡ b
    → IsLocal n row r → IsAbove n row.0 rest → SplitsTo p full rest
    → SplitsTo p (after r (λ _. full)) (cond b (after r (λ _. rest)) rest)
each_case p n row (Ok d) full rest true is local above h =
    splits_with p d d full rest (local p ∙ ap (λ b. cond b d nothing) is) h
each_case p n row (Ok d) full rest false is local above h =
    subst (SplitsTo p (with_done d full)) (with_nothing rest)
    (splits_with p d nothing full rest (local p ∙ ap (λ b. cond b d nothing) is) h)
each_case p n row (Err e) full rest true is local above h = ((λ there. refl), inr (refl, inr refl))
each_case p n row (Err e) full rest false is local above h = (
  (λ there. let wrong : true ≡ false = sym there ∙ ap p local.1 ∙ is in cc),
  not_before_above n e row rest local.0 local.1 above,
)

each_at : (p : Id → Bool) (act : Row → Doing) (row : Row) (rows : List Row) (b : Bool) → cond b
    (after (act row) (λ _. each act rows)) (each act rows) ≡ each act (cond b (row ∷ rows) rows)
each_at p act row rows true = refl
each_at p act row rows false = refl

pub each_splits : (p : Id → Bool) (n : ℕ) (act : Row → Doing)
    → ((row : Row) → IsLocal n row (act row)) → (rows : List Row) → IsRising rows
    → SplitsTo p (each act rows) (each act (at p rows))
each_splits p n act local [] rising = refl
each_splits p n act local (row ∷ rows) rising =
    subst (SplitsTo p (each act (row ∷ rows))) (each_at p act row (at p rows) (p row.0))
    (each_case p n row (act row) (each act rows) (each act (at p rows)) (p row.0) refl (local row)
    (each_above n act local row.0 (at p rows) (above_at p row.0 rows rising.0))
    (each_splits p n act local rows rising.1))

-- indices of errors
behind_with : (n : ℕ) (d : Done) (r : Doing) → IsBehind n r → IsBehind n (with_done d r)
behind_with n d (Ok m) h = tt
behind_with n d (Err f) h = h

behind_after : (n : ℕ) (r : Doing) (next : Done → Doing) → IsBehind n r
    → ((d : Done) → IsBehind n (next d)) → IsBehind n (after r next)
behind_after n (Ok d) next h more = behind_with n d (next d) (more d)
behind_after n (Err f) next h more = h

pub through_behind : {I : Type 0} (step : I → List Row → Doing)
    (left : List Row → List Row → List Row) (index : I → ℕ) (n : ℕ)
    → ((item : I) (rows : List Row) → n < index item → IsBehind n (step item rows))
    → (items : List I) (rows : List Row) → AreBehind index n items
    → IsBehind n (through step left items rows)
through_behind step left index n of [] rows behind = tt
through_behind step left index n of (item ∷ items) rows behind =
    behind_after n (step item rows) (λ d. through step left items (left rows d.changed))
    (of item rows behind.0)
    (λ d. through_behind step left index n of items (left rows d.changed) behind.1)

behind_filter_case : {I : Type 0} (index : I → ℕ) (n : ℕ) (item : I) (items : List I) (b : Bool)
    → n < index item → AreBehind index n items → AreBehind index n (cond b (item ∷ items) items)
behind_filter_case index n item items true h more = (h, more)
behind_filter_case index n item items false h more = more

behind_filter : {I : Type 0} (index : I → ℕ) (goes : I → Bool) (n : ℕ) (items : List I)
    → AreBehind index n items → AreBehind index n (filter goes items)
behind_filter index goes n [] behind = tt
behind_filter index goes n (item ∷ items) behind = behind_filter_case index n item (filter goes
    items) (goes item) behind.0 (behind_filter index goes n items behind.1)

-- a later item's error isn't before this one
not_before_behind : (e : OpErr) (r : Doing) → IsBehind e.index r → NotBefore e r
not_before_behind e (Ok d) h = tt
not_before_behind e (Err f) h = inl h

not_before_after : (e : OpErr) (r : Doing) (next : Done → Doing) → NotBefore e r
    → ((d : Done) → IsBehind e.index (next d)) → NotBefore e (after r next)
not_before_after e (Ok d) next h more =
    not_before_with e d (next d) (not_before_behind e (next d) (more d))
not_before_after e (Err f) next h more = h

-- what is asked of a step and of what it leaves
pub record IsStep {I : Type 0} (step : I → List Row → Doing) (left : List Row → List Row → List Row)
    (index : I → ℕ) : Type 0 where
  pub of : (n : ℕ) (item : I) (rows : List Row) → n < index item → IsBehind n (step item rows)
  pub own : (item : I) (rows : List Row) (e : OpErr) → step item rows ≡ Err e → e.index ≡ index item
  pub rising : (rows changed : List Row) → IsRising rows → IsRising (left rows changed)
  pub splits : (p : Id → Bool) (rows changed : List Row) → IsRising rows
      → at p (left rows changed) ≡ left (at p rows) (at p changed)
  pub idle : (rows : List Row) → left rows [] ≡ rows

through_going : {I : Type 0} (step : I → List Row → Doing) (left : List Row → List Row → List Row)
    (p : Id → Bool) (n : ℕ) (rows : List Row) (items items' : List I) (r r' : Doing)
    → ((changed : List Row) → at p (left rows changed) ≡ left (at p rows) (at p changed))
    → ((e : OpErr) → r ≡ Err e → e.index ≡ n)
    → ((rows' : List Row) → IsBehind n (through step left items' rows'))
    → SplitsTo p r r'
    → OnDone r (λ d. SplitsTo p (through step left items (left rows d.changed))
    (through step left items' (at p (left rows d.changed))))
    → SplitsTo p (after r (λ d. through step left items (left rows d.changed)))
    (after r' (λ d. through step left items' (left (at p rows) d.changed)))
through_going step left p n rows items items' (Ok d) r' leaves own later h more =
    subst (λ s. SplitsTo p (with_done d (through step left items (left rows d.changed)))
    (after s (λ d. through step left items' (left (at p rows) d.changed)))) (sym h)
    (splits_with p d (part p d) (through step left items (left rows d.changed))
    (through step left items' (left (at p rows) (at p d.changed))) refl
    (subst (λ xs. SplitsTo p (through step left items (left rows d.changed))
    (through step left items' xs)) (leaves d.changed) more))
through_going step left p n rows items items' (Err e) r' leaves own later h more = (
  (λ there. ap (λ s. after s (λ d. through step left items' (left (at p rows) d.changed)))
      (h.0 there)),
  not_before_after e r' (λ d. through step left items' (left (at p rows) d.changed)) h.1
      (λ d. subst (λ k. IsBehind k (through step left items' (left (at p rows) d.changed)))
      (sym (own e refl)) (later (left (at p rows) d.changed))),
)

through_case : {I : Type 0} (step : I → List Row → Doing) (left : List Row → List Row → List Row)
    (index : I → ℕ) (s : IsStep step left index) (p : Id → Bool) (goes : I → Bool) (rows : List Row)
    (item : I) (items : List I) (b : Bool)
    → goes item ≡ b → IsRising rows → AreBehind index (index item) items
    → StepSplits step p goes item rows
    → OnDone (step item rows) (λ d. SplitsTo p (through step left items (left rows d.changed))
    (through step left (filter goes items) (at p (left rows d.changed))))
    → SplitsTo p (through step left (item ∷ items) rows)
    (through step left (cond b (item ∷ filter goes items) (filter goes items)) (at p rows))
through_case step left index s p goes rows item items true is rising behind one more =
    through_going step left p (index item) rows items (filter goes items) (step item rows)
    (step item (at p rows)) (λ c. s.splits p rows c rising) (s.own item rows)
    (λ rows'. through_behind step left index (index item) (s.of (index item)) (filter goes items)
    rows' (behind_filter index goes (index item) items behind)) (one.going is) more
through_case step left index s p goes rows item items false is rising behind one more =
    let all : SplitsTo p (through step left (item ∷ items) rows) (after (Ok nothing)
    (λ d. through step left (filter goes items) (left (at p rows) d.changed))) =
    through_going step left p (index item) rows items (filter goes items) (step item rows)
    (Ok nothing) (λ c. s.splits p rows c rising) (s.own item rows)
    (λ rows'. through_behind step left index (index item) (s.of (index item)) (filter goes items)
    rows' (behind_filter index goes (index item) items behind)) (one.staying is) more in
    subst (SplitsTo p (through step left (item ∷ items) rows))
    (with_nothing (through step left (filter goes items) (left (at p rows) []))
    ∙ ap (through step left (filter goes items)) (s.idle (at p rows))) all

on_done : (r : Doing) (P Q : Done → Type 0) → ((d : Done) → P d → Q d) → OnDone r P → OnDone r Q
on_done (Ok d) P Q f h = f d h
on_done (Err e) P Q f h = tt

pub through_splits : {I : Type 0} (P : I → List Row → Type 0) (step : I → List Row → Doing)
    (left : List Row → List Row → List Row) (index : I → ℕ) (s : IsStep step left index)
    (p : Id → Bool) (goes : I → Bool)
    → ((item : I) (rows : List Row) → IsRising rows → P item rows
    → StepSplits step p goes item rows)
    → (items : List I) (rows : List Row)
    → IsRising rows → IndicesRise index items → Along P step left items rows
    → SplitsTo p (through step left items rows) (through step left (filter goes items) (at p rows))
through_splits P step left index s p goes one [] rows rising rise along = refl
through_splits P step left index s p goes one (item ∷ items) rows rising rise along =
    through_case step left index s p goes rows item items (goes item) refl rising rise.0
    (one item rows rising along.0)
    (on_done (step item rows) (λ d. Along P step left items (left rows d.changed))
    (λ d. SplitsTo p (through step left items (left rows d.changed))
    (through step left (filter goes items) (at p (left rows d.changed))))
    (λ d h. through_splits P step left index s p goes one items (left rows d.changed)
    (s.rising rows d.changed rising) rise.1 h) along.1)
