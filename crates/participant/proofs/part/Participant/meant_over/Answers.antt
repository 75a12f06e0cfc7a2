use Rattle.std.proofs.Common.{subst}
use Rattle.txn_semantics.specs.Keyed.{Rises}
use Rattle.txn_semantics.specs.Meaning.{ns_of}
use Rattle.txn_semantics.specs.Touched.{touched}
use Rattle.txn_semantics.specs.Writes.{place_cmp}
use Rattle.version_store.specs.Ids.{HaveIds}
use Rattle.participant.specs.Part.{Part}
use Rattle.participant.proofs.Rows.{rows_rise, rows_have_ids}
use Rattle.participant.proofs.part.Participant.meant_over.Goals as goal

pub eval-requires-clause-rising : goal.eval-requires-clause-rising
eval-requires-clause-rising c =
    rows_rise (ns_of c.args.m.now.op) (touched c.args.m.now.op) c.args.read_at c.args.m.now.tag
    c.args.self.now.store c.args.rows.now
    (subst (λ (q : Part). Rises place_cmp q.store) c.self.view_is
    c.collections-collections.ensures.rises) c.requires

pub eval-requires-clause-known : goal.eval-requires-clause-known
eval-requires-clause-known c =
    rows_have_ids (ns_of c.args.m.now.op) (touched c.args.m.now.op) c.args.read_at c.args.m.now.tag
    c.args.self.now.store c.args.rows.now
    (subst (λ (q : Part). HaveIds q.store) c.self.view_is c.collections-collections.ensures.ids)
    c.requires
