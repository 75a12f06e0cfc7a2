use Rattle.std.proofs.Common.{[], List, ℕ, sym, subst, arith}
use Rattle.std.specs.Prelude.{IsTrue}
use Rattle.outside_core.proofs.Moments.{still}
use Rattle.record_store.specs.Logged.{AreOf}
use Rattle.record_store.proofs.Gathered.{are_of}
use Rattle.record_store.proofs.Leaving.{rest_leaves}
use Rattle.record_store.proofs.disk_log.DiskLog.of.Goals as goal

pub invariant_of-result : goal.invariant_of-result
invariant_of-result g c =
    let d = g.D.Disk in
    let old = c.args.journal in
    let new = c.read_journal.new.journal in
    let tells_old : IsTrue (d.tells new.disk)
    → IsTrue (d.tells old.disk) = λ tells. still _ _ (sym c.read_journal.ensures.tells) tells in
    let recs = c.in-Ok.records.items in
    let read = c.in-Ok.ensures.read in
    let are : IsTrue (d.tells old.disk)
    → AreOf old.frames recs = λ tells. subst (λ (l : List (List ℕ)).
    AreOf l recs) (read.same tells) (are_of 0 read.payloads recs read.are) in
    record {
      failed = c.in-Ok.ensures.open;
      held = λ tells closed. subst (λ (l : List (List ℕ)). AreOf l recs)
          (sym (c.read_journal.ensures.looks (tells_old tells)).0) (are (tells_old tells));
      left = λ tells. record {
        payloads = old.frames;
        are = are (tells_old tells);
        left = λ f now.
            rest_leaves old.frames [] (d.seen old.disk) (d.may_leave old.disk)
            old.count old.end (c.requires.rests (tells_old tells)) (omega arith) f
            ((c.read_journal.ensures.looks (tells_old tells)).1.fewer f now);
      };
    }
