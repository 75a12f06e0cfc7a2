use Rattle.std.proofs.Common.{◌≡◌, ◌∙◌, ap, sym, length, arith}
use Rattle.participant.specs.Expiry.{expire_all, expire}
use Rattle.participant.specs.Part.{Part, end_live}
use Rattle.txn_types.specs.declared.cause.Cause.TheVariants as cause
use Rattle.participant.proofs.Expiries.{Turn, turned, settled}
use Rattle.participant.proofs.part.Participant.expire.Goals as goal

pub end_live-requires : goal.end_live-requires
end_live-requires c =
    let p : Part = record {
      shard = c.self.inside.shard;
      boot = c.self.inside.boot;
      sessions = c.self.inside.sessions;
      live = c.self.inside.live;
      pending = c.self.inside.pending;
      store = c.self.inside.store;
    } in
    let turn : Turn c.loop-lsid.self c.args.wall c.in-Some.lsid c.in-Some.begun =
    turned p c.loop-lsid.self c.args.wall c.in-Some.lsid c.in-Some.begun
    c.self.invariant c.first_older.ensures.rises (sym c.first_older.ensures.first
    ∙ c.in-Some.is) c.self.view_is in
    turn.live

pub loop-lsid-preserved : goal.loop-lsid-preserved
loop-lsid-preserved c =
    let p : Part = record {
      shard = c.self.inside.shard;
      boot = c.self.inside.boot;
      sessions = c.self.inside.sessions;
      live = c.self.inside.live;
      pending = c.self.inside.pending;
      store = c.self.inside.store;
    } in
    let turn : Turn c.loop-lsid.self c.args.wall c.in-Some.lsid c.in-Some.begun =
    turned p c.loop-lsid.self c.args.wall c.in-Some.lsid c.in-Some.begun
    c.self.invariant c.first_older.ensures.rises (sym c.first_older.ensures.first
    ∙ c.in-Some.is) c.self.view_is in
    ap (λ (q : Part). expire_all c.args.wall q.live q) c.end_live.ensures ∙ sym turn.step
    ∙ c.loop-lsid.invariant

pub loop-lsid-smaller : goal.loop-lsid-smaller
loop-lsid-smaller c =
    let p : Part = record {
      shard = c.self.inside.shard;
      boot = c.self.inside.boot;
      sessions = c.self.inside.sessions;
      live = c.self.inside.live;
      pending = c.self.inside.pending;
      store = c.self.inside.store;
    } in
    let turn : Turn c.loop-lsid.self c.args.wall c.in-Some.lsid c.in-Some.begun =
    turned p c.loop-lsid.self c.args.wall c.in-Some.lsid c.in-Some.begun
    c.self.invariant c.first_older.ensures.rises (sym c.first_older.ensures.first
    ∙ c.in-Some.is) c.self.view_is in
    let count : length c.end_live.new.self.live ≡ length (end_live c.loop-lsid.self
    c.in-Some.lsid (cause.Expired c.in-Some.begun c.args.wall)).live =
    ap (λ (q : Part). length q.live) c.end_live.ensures in
    let fewer = turn.fewer in
    omega (arith, count, fewer)

pub returns : goal.returns
unfolding expire
returns c =
    let p : Part = record {
      shard = c.self.inside.shard;
      boot = c.self.inside.boot;
      sessions = c.self.inside.sessions;
      live = c.self.inside.live;
      pending = c.self.inside.pending;
      store = c.self.inside.store;
    } in
    sym (settled p c.loop-lsid.self c.args.wall (sym c.first_older.ensures.first ∙ c.in_default.is)
    c.self.view_is) ∙ c.loop-lsid.invariant
