-- Bytes that come off a link, after those that are held.
use Rattle.std.proofs.Common.{◌≡◌, ℕ, ◌≤◌, List, [], ◌++◌, Option, Some, None, Result, Ok, Err}
use Rattle.std.proofs.Common.{IfSome, refl, sym, ap, subst, ◌∙◌, append_assoc, arith}
use Rattle.std.proofs.lemmas.List.{append-nil}
use Rattle.outcomes.specs.Causes.{Rose}
use Rattle.outside_core.specs.Bytes.{Came, ReadsBytes}
use Rattle.outside_core.specs.declared.link.LinkErr.{LinkErr}
use Rattle.outside_core.proofs.Steps.{came_more, came_none}
use Rattle.op_msg.specs.Stream.{next_of}
use Rattle.node_server.specs.declared.ended.Ended.{Ended}
use Rattle.node_server.specs.declared.ended.Ended.TheVariants.{Done, LinkFault, BadFrame, Cut}
use Rattle.node_server.specs.declared.ended.Ended.TheVariants.{TalkFault, Memory, Closed}
use Rattle.node_server.specs.Reads.{Takes, EndsAt, Stops, Fetches}

pub rose_later : (a b c : ℕ) → a ≤ b → Rose b c → Rose a c
rose_later a b c le rose = omega (arith, le, rose)

-- a refusal of the link changed nothing
pub came_kept : (left left' : Option (List ℕ)) → left' ≡ left → Came left left' []
came_kept left left' same = subst (λ l. Came left l []) (sym same) (came_none left)

-- what came lies in the piece, which was empty
pub came_all : (max n : ℕ) (left left' : Option (List ℕ)) (out out' : List ℕ) → out ≡ []
    → ReadsBytes {E = LinkErr} max left left' out out' (Ok n) → Came left left' out'
came_all max n left left' out out' empty r =
    subst (λ bytes. Came left left' bytes) (sym (r.1 ∙ ap (λ l. l ++ r.0) empty)) r.4

-- the peer's end
pub ends_at : (limit : ℕ) (held rest : List ℕ) (left' : Option (List ℕ)) (faults faults'
    ends ends' : ℕ) (e : Ended) → rest ≡ held → next_of limit held ≡ Ok None
    → EndsAt held e → IfSome left' (λ bytes. bytes ≡ []) → Rose ends ends'
    → Stops limit rest left' faults faults' ends ends' e
ends_at limit held rest left' faults faults' ends ends' Done same none at over rose =
    (same ∙ at, over, rose)
ends_at limit held rest left' faults faults' ends ends' Cut same none at over rose =
    ((λ e. at (sym same ∙ e)), ap (next_of limit) same ∙ none, over, rose)
ends_at limit held rest left' faults faults' ends ends' LinkFault same none at over rose = absurd at
ends_at limit held rest left' faults faults' ends ends' (BadFrame err) same none at over rose =
    absurd at
ends_at limit held rest left' faults faults' ends ends' TalkFault same none at over rose = absurd at
ends_at limit held rest left' faults faults' ends ends' Memory same none at over rose = absurd at
ends_at limit held rest left' faults faults' ends ends' Closed same none at over rose = absurd at

-- where no message was taken, what is held stays
pub taken_none : (limit : ℕ) (held held' : List ℕ) (r : Result (Option (List ℕ))
    Ended) (o : Option (List ℕ)) → r ≡ Ok o → ((frame : List ℕ) → o ≡ Some frame → ⊥)
    → Takes limit held held' r → held' ≡ held
taken_none limit held held' r None is not t = (subst (Takes limit held held') is t).1
taken_none limit held held' r (Some frame) is not t = absurd (not frame refl)

-- What came since the loop began
pub record Fetching (held0 held : List ℕ) (left0 left : Option (List ℕ)) : Type 0 where
  pub bytes : List ℕ
  pub came : Came left0 left bytes
  pub is : held ≡ held0 ++ bytes

pub fetching_none : (held : List ℕ) (left : Option (List ℕ)) → Fetching held held left left
fetching_none held left = record { bytes = []; came = came_none left; is = sym (append-nil held) }

stops_later : (limit : ℕ) (rest rest' : List ℕ) (left : Option (List ℕ)) (f0 f1 f2 e0 e1 e2 : ℕ)
    (e : Ended) → rest' ≡ rest → f0 ≤ f1 → e0 ≤ e1 → Stops limit rest left f1 f2 e1 e2 e
    → Stops limit rest' left f0 f2 e0 e2 e
stops_later limit rest rest' left f0 f1 f2 e0 e1 e2 Done same lf le s =
    (same ∙ s.0, s.1, rose_later e0 e1 e2 le s.2)
stops_later limit rest rest' left f0 f1 f2 e0 e1 e2 Cut same lf le s =
    ((λ e. s.0 (sym same ∙ e)), ap (next_of limit) same ∙ s.1, s.2, rose_later e0 e1 e2 le s.3)
stops_later limit rest rest' left f0 f1 f2 e0 e1 e2 LinkFault same lf le s =
    rose_later f0 f1 f2 lf s
stops_later limit rest rest' left f0 f1 f2 e0 e1 e2 (BadFrame err) same lf le s =
    ap (next_of limit) same ∙ s
stops_later limit rest rest' left f0 f1 f2 e0 e1 e2 TalkFault same lf le s = absurd s
stops_later limit rest rest' left f0 f1 f2 e0 e1 e2 Memory same lf le s = tt
stops_later limit rest rest' left f0 f1 f2 e0 e1 e2 Closed same lf le s = absurd s

taken_stops : (limit : ℕ) (held held' rest : List ℕ) (left : Option (List ℕ)) (f0 f e0 e1 : ℕ)
    (e : Ended) → rest ≡ held → Takes limit held held' (Err e) → Stops limit rest left f0 f e0 e1 e
taken_stops limit held held' rest left f0 f e0 e1 (BadFrame err) same t =
    ap (next_of limit) same ∙ t
taken_stops limit held held' rest left f0 f e0 e1 Memory same t = tt
taken_stops limit held held' rest left f0 f e0 e1 Done same t = absurd t
taken_stops limit held held' rest left f0 f e0 e1 Cut same t = absurd t
taken_stops limit held held' rest left f0 f e0 e1 LinkFault same t = absurd t
taken_stops limit held held' rest left f0 f e0 e1 TalkFault same t = absurd t
taken_stops limit held held' rest left f0 f e0 e1 Closed same t = absurd t

module _ (limit : ℕ) (held0 held : List ℕ) (left0 left : Option (List ℕ))
    (p : Fetching held0 held left0 left) where
  -- a message is taken
  pub fetched : (frame held' : List ℕ) (f f' e e' : ℕ)
      → next_of limit held ≡ Ok (Some (frame, held')) → Fetches limit held0 (λ frame rest.
      next_of limit rest ≡ Ok (Some (frame, held'))) left0 left f f' e e' (Ok frame)
  fetched frame held' f f' e e' next =
      record { bytes = p.bytes; came = p.came; is = ap (next_of limit) (sym p.is) ∙ next }

  -- a length is refused
  pub fetched_refused : {X : Type 0} (found : X → List ℕ
      → Type 0) (held' : List ℕ) (f f' e e' : ℕ) (end : Ended) → Takes limit held held' (Err end)
      → Fetches limit held0 found left0 left f f' e e' (Err end)
  fetched_refused found held' f f' e e' end t = record {
    bytes = p.bytes;
    came = p.came;
    is = taken_stops limit held held' (held0 ++ p.bytes) left f f' e e' end (sym p.is) t;
  }

  behind : (more : List ℕ) → held0 ++ (p.bytes ++ more) ≡ held ++ more
  behind more = sym (append_assoc held0 p.bytes more) ∙ ap (λ l. l ++ more) (sym p.is)

  -- the link gives no more
  pub fetched_end : {X Y : Type 0} (found : X → List ℕ → Type 0) (found' : Y → List ℕ
      → Type 0) (left' : Option (List ℕ)) (f0 f1 f2 e0 e1 e2 : ℕ) (end : Ended) → f0 ≤ f1 → e0 ≤ e1
      → Fetches limit held found left left' f1 f2 e1 e2 (Err end)
      → Fetches limit held0 found' left0 left' f0 f2 e0 e2 (Err end)
  fetched_end found found' left' f0 f1 f2 e0 e1 e2 end lf le q = record {
    bytes = p.bytes ++ q.bytes;
    came = came_more left0 left left' p.bytes q.bytes p.came q.came;
    is = stops_later limit (held ++ q.bytes) (held0
        ++ (p.bytes ++ q.bytes)) left' f0 f1 f2 e0 e1 e2 end (behind q.bytes) lf le q.is;
  }

  -- the same, where the numbers and lists go by other names
  pub fetched_stop : {X Y : Type 0} (found : X → List ℕ → Type 0) (found' : Y → List ℕ → Type 0)
      (limit' : ℕ) (held' : List ℕ) (r : Result X Ended) (left' : Option (List ℕ))
      (f0 f1 f2 e0 e1 e2 : ℕ) (end : Ended)
      → limit' ≡ limit → held' ≡ held → r ≡ Err end → f0 ≤ f1 → e0 ≤ e1
      → Fetches limit' held' found left left' f1 f2 e1 e2 r
      → Fetches limit held0 found' left0 left' f0 f2 e0 e2 (Err end)
  fetched_stop {X} {Y} found found' limit' held' r left' f0 f1 f2 e0 e1 e2 end same_limit same_held
      is lf le q =
      fetched_end found found' left' f0 f1 f2 e0 e1 e2 end lf le
      (subst (λ (x : ℕ × (List ℕ × Result X Ended)). Fetches x.0 x.1.0 found left left' f1 f2 e1 e2
      x.1.1) (λ i. (same_limit i, (same_held i, is i))) q)

  -- more is held
  pub fetching_more : {X : Type 0} (x : X) (held' : List ℕ) (left' : Option (List ℕ)) (f f'
      e e' : ℕ) → Fetches limit held (λ _ rest. rest ≡ held') left left' f f' e e' (Ok x)
      → Fetching held0 held' left0 left'
  fetching_more x held' left' f f' e e' q = record {
    bytes = p.bytes ++ q.bytes;
    came = came_more left0 left left' p.bytes q.bytes p.came q.came;
    is = sym q.is ∙ sym (behind q.bytes);
  }
