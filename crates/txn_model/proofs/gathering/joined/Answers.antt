use Rattle.std.proofs.Common.{map}
use Rattle.txn_model.specs.Commits.{prepared_at}
use Rattle.txn_model.proofs.Gathered.{joined_is}
use Rattle.txn_model.proofs.gathering.joined.Goals as goal

pub returns : goal.returns
returns c =
    joined_is c.args.tag c.args.at (prepared_at (map (λ j. j.now) c.args.journals.now) c.args.tag
    c.args.parts.now) c.in_ok-share.share c.unwrap_or.result c.in_ok-write_set.field-0
    c.in_ok-share.ensures c.unwrap_or.ensures
    c.in_ok-write_set.ensures
