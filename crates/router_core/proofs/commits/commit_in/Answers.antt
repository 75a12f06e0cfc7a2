use Rattle.std.proofs.Common.{rules, ◌≡◌, Some}
use Rattle.std.specs.Option.{option_copied}
use Rattle.router_plan.specs.Refusals.{begun_in}
use Rattle.router_core.proofs.Stepping.{begun_few}
use Rattle.router_core.proofs.commits.commit_in.Goals as goal

pub commit_asked-requires : goal.commit_asked-requires
commit_asked-requires c =
    let begun : begun_in (option_copied c.entry_of-session.result) c.args.txn.number
    ≡ Some c.in-Some-begun_in.t.now = search rules in
    begun_few c.args.base.now.serial c.args.txn.lsid c.args.sessions.now
    (option_copied c.entry_of-session.result) c.args.txn.number c.in-Some-begun_in.t.now
    c.requires.sessions c.entry_of-session.ensures begun
