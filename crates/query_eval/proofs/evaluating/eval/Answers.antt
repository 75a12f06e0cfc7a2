use Rattle.std.proofs.Common.{sym, subst, ap, ◌∙◌}
use Rattle.txn_semantics.specs.Effect.{AreKnown}
use Rattle.txn_semantics.specs.Meaning.{document_rules}
use Rattle.txn_semantics.specs.Rows.{under}
use Rattle.query_eval.proofs.Under.{known_under}
use Rattle.query_eval.proofs.evaluating.eval.Goals as goal

pub update-requires-clause-known : goal.update-requires-clause-known
update-requires-clause-known c =
    subst (AreKnown document_rules) (sym (c.in_ok-held-in-Update.ensures.rows
    ∙ ap (under c.in-Update.ns c.args.rows.now) c.as_slice-in-Update.ensures.writes))
    (known_under c.in-Update.ns c.args.rows.now c.args.own.now c.as_slice-in-Update.ensures.kept
    c.requires.known)

pub delete-requires-clause-known : goal.delete-requires-clause-known
delete-requires-clause-known c =
    subst (AreKnown document_rules) (sym (c.in_ok-held-in-Delete.ensures.rows
    ∙ ap (under c.in-Delete.ns c.args.rows.now) c.as_slice-in-Delete.ensures.writes))
    (known_under c.in-Delete.ns c.args.rows.now c.args.own.now c.as_slice-in-Delete.ensures.kept
    c.requires.known)
