-- A statement that is asked goes to the one shard, or to none, and names the boot of the Answer to
-- the one before it.
use Rattle.std.proofs.Common.{◌≡◌, ◌⊎◌, inl, inr, ◌+◌, ℕ, ℤ}
use Rattle.std.proofs.Common.{All, List, [], ◌∷◌, map, fold}
use Rattle.std.proofs.Common.{refl, sym, ap, subst, arith}
use Rattle.std.specs.Ordering.{nat_cmp}
use Rattle.std.proofs.lemmas.List.Elements.{All-head, All-tail}
use Rattle.txn_types.specs.declared.message.Statement.{Statement}
use Rattle.txn_types.specs.declared.names.Tag.{Tag}
use Rattle.txn_types.specs.declared.node.Lsid.{Lsid}
use Rattle.txn_types.specs.declared.node.NodeId.{NodeId}
use Rattle.txn_types.specs.declared.node.NodeId.TheVariants.{Shard, Router}
use Rattle.txn_types.specs.declared.operation.Op.{Op}
use Rattle.txn_semantics.specs.Keyed.{put}
use Rattle.chunk_map.specs.Map.{Map, IsMap}
use Rattle.chunk_map.specs.Parts.{shards_of, part_at}
use Rattle.chunk_laws.proofs.Risen.{Rise}
use Rattle.router_state.specs.declared.state.Asker.{Asker}
use Rattle.router_state.specs.declared.state.Phase.TheVariants.{Asking}
use Rattle.router_state.specs.declared.state.Transaction.{Transaction}
use Rattle.router_state.specs.State.{boot_of}
use Rattle.router_state.specs.Shards.{with_shard}
use Rattle.router_rules.specs.Statements as st
use Rattle.address_laws.proofs.Maps.{asked_there}
use Rattle.told_laws.proofs.Opening.{shards_rise}
use Rattle.commit_laws.proofs.Follows.{Heard, Next, Asked}

-- The shards of a statement.

abbrev IsFirst : NodeId → Type 0
IsFirst (Shard n) = n ≡ 0
IsFirst (Router n) = Unit {0}

-- one, or none
abbrev pub OneOrNone : List ℕ → Type 0
OneOrNone shards = (shards ≡ []) ⊎ (shards ≡ 0 ∷ [])

one_of : (shards : List ℕ) → Rise shards → All (λ (n : ℕ). n ≡ 0) shards → OneOrNone shards
one_of [] h k = inl refl
one_of (n ∷ []) h k =
    let zero : n ≡ 0 = All-head (λ (n : ℕ). n ≡ 0) n [] k in
    inr (ap (λ (m : ℕ). m ∷ []) zero)
one_of (n ∷ m ∷ ms) h k =
    let first : n ≡ 0 = All-head (λ (n : ℕ). n ≡ 0) n (m ∷ ms) k in
    let second : m ≡ 0 = All-head (λ (n : ℕ). n ≡ 0) m ms
    (All-tail (λ (n : ℕ). n ≡ 0) n (m ∷ ms) k) in
    absurd (omega (arith, first, second, h.0.0))

pub one_shard : (m : Map) (op : Op) → IsMap m → m.shards ≡ 1 → OneOrNone (shards_of m op)
one_shard m op is one =
    one_of (shards_of m op) (shards_rise m op)
    (asked_there IsFirst m op
    (record { is = is; some = omega (arith, one); all = λ n less. omega (arith, one, less) }))

-- The statement.

module _ (G : Tag → ℕ → ℕ → Type 0) where
  -- nothing was asked of it, or its newest statement was answered
  abbrev pub MayAsk : Transaction → Type 0
  MayAsk t =
      ((t.k ≡ 0) × (t.parts ≡ []) × (t.wrote ≡ [])) ⊎ Heard G t.tag t.k t.parts t.wrote

  abbrev asking : Map → Lsid → ℤ → Asker → Op → List ℕ → Transaction → Transaction
  asking chunks lsid number asker op shards t = record t {
    k = t.k + 1;
    parts = fold with_shard t.parts shards;
    phase = Asking asker op [];
    waiting = map (st.statement_to chunks lsid number t op) shards;
  }

  abbrev statement_for : Map → Lsid → ℤ → Transaction → Op → Statement
  statement_for chunks lsid number t op = record {
    tag = t.tag;
    lsid = lsid;
    number = number;
    k = t.k + 1;
    read_at = t.read_at;
    boot = boot_of t.parts 0;
    op = part_at chunks op 0;
  }

  next_of : (chunks : Map) (lsid : Lsid) (number : ℤ) (asker : Asker) (op : Op) (t : Transaction)
      → MayAsk t → Next G t.tag (t.k + 1) (fold with_shard t.parts (0 ∷ [])) t.wrote
      (map (st.statement_to chunks lsid number t op) (0 ∷ []))
  next_of chunks lsid number asker op t (inl new) = record {
    boot = 0;
    parts_are = ap (λ (parts : List (ℕ × ℕ)). put nat_cmp 0 (boot_of parts 0) parts) new.1;
    wrote_is = inl new.2;
    m = statement_for chunks lsid number t op;
    waits = refl;
    tag_is = refl;
    k_is = refl;
    follows = inl (
      ap (λ (k : ℕ). k + 1) new.0,
      ap (λ (parts : List (ℕ × ℕ)). boot_of parts 0) new.1,
    );
  }
  next_of chunks lsid number asker op t (inr heard) =
      let here : boot_of t.parts 0 ≡ heard.boot =
      ap (λ (parts : List (ℕ × ℕ)). boot_of parts 0) heard.parts_are in
      record {
        boot = heard.boot;
        parts_are =
            ap (λ (parts : List (ℕ × ℕ)). put nat_cmp 0 (boot_of parts 0) parts) heard.parts_are;
        wrote_is = heard.wrote_is;
        m = statement_for chunks lsid number t op;
        waits = refl;
        tag_is = refl;
        k_is = refl;
        follows = inr (t.k, refl, subst (G t.tag t.k) (sym here) heard.gave);
      }

  asking_case : (chunks : Map) (lsid : Lsid) (number : ℤ) (asker : Asker) (op : Op)
      (t : Transaction) (shards : List ℕ) → OneOrNone shards → MayAsk t
      → Asked G (asking chunks lsid number asker op shards t) []
  asking_case chunks lsid number asker op t shards (inl e) h =
      subst (λ (ns : List ℕ). Asked G (asking chunks lsid number asker op ns t) []) (sym e)
      (inl refl)
  asking_case chunks lsid number asker op t shards (inr e) h =
      subst (λ (ns : List ℕ). Asked G (asking chunks lsid number asker op ns t) []) (sym e)
      (inr (refl, next_of chunks lsid number asker op t h))

  pub asks_follow : (chunks : Map) (lsid : Lsid) (number : ℤ) (asker : Asker) (op : Op)
      (t : Transaction) → IsMap chunks → chunks.shards ≡ 1 → MayAsk t
      → Asked G (asking chunks lsid number asker op (shards_of chunks op) t) []
  asks_follow chunks lsid number asker op t is one h =
      asking_case chunks lsid number asker op t (shards_of chunks op) (one_shard chunks op is one) h
