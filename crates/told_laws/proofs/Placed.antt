-- The places of statements, after each run.
use Rattle.std.proofs.Common.{◌≡◌, inl, inr, ◌<◌, List, sym, arith}
use Rattle.std.specs.Prelude.{Contains, AllPairs}
use Rattle.chunk_map.specs.Map.{Map}
use Rattle.txn_model.specs.declared.ran.Ran.{Ran}
use Rattle.cluster_core.specs.Answering.{Unanswered}
use Rattle.cluster_core.specs.Ledger.{answered_in}
use Rattle.cluster_core.specs.Nodes.{Nodes}
use Rattle.cluster_core.specs.Trace.{IsFresh, IsTrace}
use Rattle.answer_laws.specs.Opened.{opened_in}
use Rattle.told_laws.specs.Places.{Rises, IsLater, HasReply}
use Rattle.told_laws.proofs.Lists.{order_pairs, order_two}
use Rattle.told_laws.proofs.Running.{all_booked}

pub all_rise : (chunks : Map) (start : Nodes) (run : List Ran) (trace : List Nodes) (now : Nodes)
    → IsFresh chunks start → IsTrace start run trace now
    → AllPairs Rises (opened_in start.routers run)
all_rise chunks start run trace now f h = order_pairs Rises (opened_in start.routers run)
    (all_booked chunks start run trace now f h).book.lists.order

pub all_once : (chunks : Map) (start : Nodes) (run : List Ran) (trace : List Nodes) (now : Nodes)
    → IsFresh chunks start → IsTrace start run trace now
    → (u v : Unanswered) → Contains (opened_in start.routers run) u
    → Contains (opened_in start.routers run) v → u.tag ≡ v.tag → u.k ≡ v.k → u ≡ v
all_once chunks start run trace now f h u v p q tag k =
    elim (order_two Rises (opened_in start.routers run) u v
    (all_booked chunks start run trace now f h).book.lists.order p q) [
      | inl e ↦ e
      | inr w ↦
          elim w [
            | inl less ↦ let l : u.k < v.k = less tag in absurd (omega (arith, l, k))
            | inr less ↦ let l : v.k < u.k = less (sym tag) in absurd (omega (arith, l, k))
          ]
    ]

pub all_behind : (chunks : Map) (start : Nodes) (run : List Ran) (trace : List Nodes) (now : Nodes)
    → IsFresh chunks start → IsTrace start run trace now
    → (u v : Unanswered) → Contains (opened_in start.routers run) u
    → Contains (opened_in start.routers run) v → u.tag ≡ v.tag → u.k < v.k
    → HasReply (answered_in start.routers run) u
all_behind chunks start run trace now f h = (all_booked chunks start run trace now f
    h).book.lists.behind

pub all_later : (chunks : Map) (start : Nodes) (run : List Ran) (trace : List Nodes) (now : Nodes)
    → IsFresh chunks start → IsTrace start run trace now
    → AllPairs IsLater (answered_in start.routers run)
all_later chunks start run trace now f h = order_pairs IsLater (answered_in start.routers run)
    (all_booked chunks start run trace now f h).book.lists.later
