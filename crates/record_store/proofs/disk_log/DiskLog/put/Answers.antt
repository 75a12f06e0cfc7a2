use Rattle.std.proofs.Common.{◌≡◌, inr, ◌++◌, [], ◌∷◌, List, ℕ, Option, true, false, None, is_err}
use Rattle.std.proofs.Common.{sym, ap, subst, ◌∙◌, arith}
use Rattle.std.specs.Prelude.{IsTrue}
use Rattle.outside_core.proofs.Moments.{still}
use Rattle.journal_core.specs.Left.{Leaves}
use Rattle.journal_rec.specs.declared.record.Rec.{Rec}
use Rattle.record_store.specs.Logged.{payload_in, AreOf}
use Rattle.record_store.proofs.Leaving.{none_of, rest_leaves}
use Rattle.record_store.proofs.Gathered.{are_push}
use Rattle.record_store.proofs.disk_log.DiskLog.put.Goals as goal

pub invariant_of-self : goal.invariant_of-self
invariant_of-self g c =
    let d = g.D.Disk in
    let old = c.self.inside.journal in
    let new = c.append.new.self in
    let recs = c.self.inside.records.items in
    let was_open : old.closed ≡ false = ap (λ s. s.journal.closed) c.self.view_is
    ∙ c.requires.open in
    let no_hand : c.self.inside.hand ≡ None =
    none_of c.self.inside.hand (sym c.self.invariant.failed ∙ was_open) in
    let tells_old : IsTrue (d.tells new.disk)
    → IsTrue (d.tells old.disk) = λ tells. still _ _ (sym c.append.ensures.tells) tells in
    let held : IsTrue (d.tells new.disk) → AreOf new.frames c.push_reserved.new.self.items =
    λ tells.
    subst (λ (l : List Rec). AreOf new.frames l) (sym c.push_reserved.ensures.items) (
    subst (λ (l : List (List ℕ)). AreOf l (recs ++ c.args.rec ∷ []))
    (sym (c.in-Ok.ensures.acknowledged (tells_old tells)))
    (are_push old.frames recs c.record_at.result.now c.args.rec
    (c.self.invariant.held (tells_old tells) was_open) (inr c.record_at.ensures.bytes))
    ) in
    record {
      failed = c.append.ensures.closes ∙ ap is_err c.in-Ok.is ∙ sym was_open
          ∙ c.self.invariant.failed;
      held = λ tells closed. held tells;
      left = λ tells. record {
        payloads = new.frames;
        are = held tells;
        left = λ f now.
            subst (λ (h : Option Rec). Leaves new.frames (payload_in h) f) (sym no_hand) (
            rest_leaves new.frames [] (d.seen new.disk) (d.may_leave new.disk) new.count new.end
            (c.in-Ok.ensures.rests (tells_old tells)) (omega arith) f now
            );
      };
    }

pub invariant_of-self-in-Err : goal.invariant_of-self-in-Err
invariant_of-self-in-Err g c =
    let d = g.D.Disk in
    let old = c.self.inside.journal in
    let new = c.append.new.self in
    let was_open : old.closed ≡ false = ap (λ s. s.journal.closed) c.self.view_is
    ∙ c.requires.open in
    let failed : new.closed ≡ true = c.append.ensures.closes ∙ ap is_err c.in-Err.is in
    let tells_old : IsTrue (d.tells new.disk)
    → IsTrue (d.tells old.disk) = λ tells. still _ _ (sym c.append.ensures.tells) tells in
    record {
      failed = failed;
      held = λ tells closed. absurd cc;
      left = λ tells. record {
        payloads = old.frames;
        are = c.self.invariant.held (tells_old tells) was_open;
        left = λ f now.
            let moments = c.append.ensures.any_moment (tells_old tells) was_open in
            let left : Leaves old.frames c.record_at.result.now f = moments.each f
            (g.met.D.Disk.counts_now new.disk (d.moment old.disk) f tells moments.later now) in
            subst (λ (p : List ℕ). Leaves old.frames p f) c.record_at.ensures.bytes left;
      };
    }
