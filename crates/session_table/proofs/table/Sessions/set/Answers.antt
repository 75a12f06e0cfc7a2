use Rattle.std.proofs.Common.{IsSome, ap, sym, subst, ◌∙◌, rules}
use Rattle.txn_types.specs.BySession.{BySession, entry_of, with_entry}
use Rattle.txn_types.specs.declared.node.Lsid.{Lsid}
use Rattle.session_table.specs.Sessions.{Table, session_of, with_session}
use Rattle.session_table.specs.declared.session.Session.{Session}
use Rattle.session_table.proofs.Entries.{put, absent}
use Rattle.session_table.proofs.table.Sessions.set.Goals as goal
use Rattle.session_table.proofs.table.Sessions.set.Goals.{in-Ok, in-Err}

pub returns-clause-ok : goal.returns-clause-ok
returns-clause-ok c =
    let make : BySession Session
    → Table = λ entries. record { limit = c.self.inside.limit; entries = entries } in
    elim c.match-insert.branch [
      | in-Ok w ↦ rw w.result-is (ap make (w.in-Ok.ensures.entries
          ∙ put c.new.result c.args.session c.self.inside.entries.entries ∙ ap (λ (lsid : Lsid).
          with_entry lsid c.args.session c.self.inside.entries.entries) c.new.ensures) ∙ ap
          (λ (table : Table). with_session table c.args.lsid.now c.args.session) c.self.view_is)
      | in-Err w ↦ rw w.result-is tt
    ]

pub returns-clause-there : goal.returns-clause-there
returns-clause-there c =
    elim c.match-insert.branch [
      | in-Ok w ↦ search rules
      | in-Err w ↦
          λ some. absurd (absent c.new.result c.self.inside.entries.entries w.in-Err.ensures.absent
          (subst (λ (lsid : Lsid). IsSome (entry_of lsid c.self.inside.entries.entries))
          (sym c.new.ensures) (subst (λ (table : Table). IsSome (session_of table c.args.lsid.now))
          (sym c.self.view_is) some)))
    ]
