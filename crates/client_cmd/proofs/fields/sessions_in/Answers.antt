use Rattle.std.proofs.Common.{sym}
use Rattle.bson_core.specs.declared.value.Value.TheViews.{out-Value}
use Rattle.client_cmd.proofs.Sessions.{listed_by}
use Rattle.client_cmd.proofs.fields.sessions_in.Goals as goal

pub sessions_of-requires : goal.sessions_of-requires
sessions_of-requires c =
    listed_by (out-Value c.args.value.now) c.in-Some.values.now (sym c.in-Some.ensures) c.requires
