use Rattle.std.proofs.Common.{◌≡◌, ◌&&◌, not, drop}
use Rattle.std.specs.List.{list_any}
use Rattle.txn_types.specs.Order.{same_tag, same_lsid}
use Rattle.txn_types.specs.declared.node.Lsid.{Lsid}
use Rattle.session_table.specs.declared.session.Session.{Session}
use Rattle.participant.specs.Part.{is_open}
use Rattle.participant.proofs.part.Participant.elsewhere.Given as goal

abbrev pub invariant-loop-place : goal.invariant-loop-place
invariant-loop-place l =
    list_any (λ (entry : Lsid × Session). not (same_lsid entry.0 l.lsid) && same_tag entry.1.tag
    l.tag && is_open entry.1.state) (drop l.place l.self.sessions.entries)
    ≡ list_any (λ (entry : Lsid × Session). not (same_lsid entry.0 l.lsid)
    && same_tag entry.1.tag l.tag && is_open entry.1.state) l.self.sessions.entries
