-- What stands before a step of a run, and what comes of it.
use Rattle.std.proofs.Common.{◌≡◌, ◌+◌, ◌++◌, ℕ, zero, suc, List, [], ◌∷◌, Option, Some, None}
use Rattle.std.proofs.Common.{ap, subst, ◌∙◌, sym, arith, slice_get}
use Rattle.txn_model.specs.declared.ran.Ran.{Ran}
use Rattle.cluster_core.specs.Nodes.{Nodes}
use Rattle.cluster_core.specs.Trace.{Happens, IsTrace}

-- the nodes before the step come of a run from the start
pub record Placed (old : Nodes) (trace : List Nodes) (now : Nodes) (i : ℕ) (nodes : Nodes)
    (ran : Ran) : Type 0 where
  pub before_run : List Ran
  pub before_trace : List Nodes
  pub comes : IsTrace old before_run before_trace nodes
  pub next : Nodes
  pub happens : Happens nodes ran next
  pub behind : slice_get (trace ++ now ∷ []) (i + 1) ≡ Some next

first_of : (old : Nodes) (run : List Ran) (trace : List Nodes) (now : Nodes)
    → IsTrace old run trace now → slice_get (trace ++ now ∷ []) 0 ≡ Some old
first_of old [] [] now h = ap Some h
first_of old [] (nodes ∷ trace) now h = absurd h
first_of old (ran ∷ run) [] now h = absurd h
first_of old (ran ∷ run) (nodes ∷ trace) now h = ap Some h.0

pub one_place : {A : Type 0} (x y : A) → Some x ≡ Some y → x ≡ y
one_place x y h = cc

after_place : {A : Type 0} (x : A) (xs : List A) (i : ℕ) (y : Option A) → slice_get xs (i + 1) ≡ y
    → slice_get (x ∷ xs) (suc i + 1) ≡ y
after_place x xs i y h =
    let e : suc i + 1 ≡ suc (i + 1) = omega arith in ap (slice_get (x ∷ xs)) e ∙ h

pub place_of : (old : Nodes) (run : List Ran) (trace : List Nodes) (now : Nodes)
    → IsTrace old run trace now → (i : ℕ) (nodes : Nodes) (ran : Ran)
    → slice_get trace i ≡ Some nodes → slice_get run i ≡ Some ran
    → Placed old trace now i nodes ran
place_of old [] [] now h i nodes ran before step = let wrong : None ≡ Some ran = step in cc
place_of old [] (n ∷ trace) now h i nodes ran before step = absurd h
place_of old (r ∷ run) [] now h i nodes ran before step = absurd h
place_of old (r ∷ run) (n ∷ trace) now h zero nodes ran before step =
    let here : n ≡ nodes = one_place n nodes before in
    let this : r ≡ ran = one_place r ran step in
    record {
      before_run = [];
      before_trace = [];
      comes = sym here ∙ h.0;
      next = h.1.0;
      happens = subst (λ (x : Ran). Happens nodes x h.1.0) this
          (subst (λ (x : Nodes). Happens x r h.1.0) (sym h.0 ∙ here) h.1.1);
      behind = first_of h.1.0 run trace now h.1.2;
    }
place_of old (r ∷ run) (n ∷ trace) now h (suc i) nodes ran before step =
    let p = place_of h.1.0 run trace now h.1.2 i nodes ran before step in
    record {
      before_run = r ∷ p.before_run;
      before_trace = n ∷ p.before_trace;
      comes = (h.0, (h.1.0, h.1.1, p.comes));
      next = p.next;
      happens = p.happens;
      behind = after_place n (trace ++ now ∷ []) i (Some p.next) p.behind;
    }
