use Rattle.session_table.proofs.Entries.{on_ok}
use Rattle.session_table.proofs.table.Sessions.replace.Goals as goal

pub returns : goal.returns
returns c = on_ok _ c.set-done.result (c.set-done.ensures.there c.requires) c.set-done.ensures.ok
