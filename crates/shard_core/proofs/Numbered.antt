-- Expiry leaves a shard's number and boot.
use Rattle.std.proofs.Common.{◌≡◌, ℕ, List, [], ◌∷◌, Option, Some, None, refl, ◌∙◌, nat_lt, ◌-◌}
use Rattle.std.proofs.Common.{if◌then◌else◌}
use Rattle.txn_types.specs.declared.cause.Cause.{Cause}
use Rattle.txn_types.specs.declared.cause.Cause.TheVariants as cause
use Rattle.txn_types.specs.declared.node.Lsid.{Lsid}
use Rattle.session_table.specs.declared.session.Session.{Session}
use Rattle.participant.specs.declared.said.Open.{Open}
use Rattle.participant.specs.Part.{Part, session, end_live, ends_live}
use Rattle.participant.specs.Expiry.{expire, expire_all, lifetime}
use Rattle.participant.proofs.Cases.{either}

-- two parts of one shard's boot
pub record IsOf (p q : Part) : Type 0 where
  pub shard : p.shard ≡ q.shard
  pub boot : p.boot ≡ q.boot

abbrev same : (p : Part) → IsOf p p
same p = record { shard = refl; boot = refl }

ends_keep : (p : Part) (lsid : Lsid) (why : Cause) (s : Option Session)
    → IsOf p (ends_live p lsid why s)
ends_keep p lsid why None = same p
ends_keep p lsid why (Some s) = record { shard = refl; boot = refl }

end_live_keeps : (p : Part) (lsid : Lsid) (why : Cause) → IsOf p (end_live p lsid why)
end_live_keeps p lsid why = ends_keep p lsid why (session p lsid)

along : (p q r : Part) → IsOf p q → IsOf q r → IsOf p r
along p q r a b = record { shard = a.shard ∙ b.shard; boot = a.boot ∙ b.boot }

all_expire : (wall : ℕ) (entries : List (Lsid × Open)) (p : Part)
    → IsOf p (expire_all wall entries p)
all_expire wall [] p = same p
all_expire wall (entry ∷ entries) p =
    let q : Part = if nat_lt lifetime (wall - entry.1.begun)
    then end_live p entry.0 (cause.Expired entry.1.begun wall) else p in
    along p q (expire_all wall entries q) (either (nat_lt lifetime (wall - entry.1.begun))
    (IsOf p) _ _ (end_live_keeps p entry.0 (cause.Expired entry.1.begun wall)) (same p))
    (all_expire wall entries q)

pub expire_keeps : (p : Part) (wall : ℕ) → IsOf p (expire p wall)
unfolding expire
expire_keeps p wall = all_expire wall p.live p
