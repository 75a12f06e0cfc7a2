use Rattle.std.proofs.Common.{◌∙◌, ap, sym}
use Rattle.txn_types.specs.BySession.{entry_of}
use Rattle.version_store.specs.Versions.{Versions, keys_of}
use Rattle.participant.specs.Stands.{without_older}
use Rattle.participant.proofs.Laid.{older_with}
use Rattle.participant.proofs.Written.{keys_with_others}
use Rattle.participant.proofs.putting.put_again.Goals as goal

pub drop_older-requires : goal.drop_older-requires
drop_older-requires c =
    record {
      keys = λ o is differ.
          c.requires.keys o is
          ∙ sym (ap (keys_of o.tag) c.in_ok-put_all.ensures.ok
          ∙ keys_with_others c.args.m.now.tag o.tag c.args.store.now c.args.writes.now
          c.collections-collections.ensures.rises differ);
    }

pub returns-clause-store : goal.returns-clause-store
returns-clause-store c =
    c.drop_older.ensures
    ∙ ap (λ (store : Versions). without_older c.args.m.now.tag
    (entry_of c.args.m.now.lsid c.args.lives.now) store) c.in_ok-put_all.ensures.ok
    ∙ older_with c.args.m.now.tag (entry_of c.args.m.now.lsid c.args.lives.now) c.args.store.now
    c.args.writes.now c.collections-collections.ensures.rises
