use Rattle.std.proofs.Common.{arith, ◌≡◌, ◌==◌, refl, false, append_assoc}
use Rattle.std.proofs.lemmas.Bool.{ne_eqb}
use Rattle.std.proofs.lemmas.Result.{IfOk-equal}
use Rattle.client_reply.proofs.fields.put_times.Goals as goal

pub returns : goal.returns
returns c =
    let known : c.args.time == 0 ≡ false = ne_eqb c.args.time 0 (omega arith) in
    rw known (IfOk-equal c.put-2.result _ _ _ c.put-2.ensures
    (rw (c.in_ok-put.ensures, c.in_ok-cluster_time.ensures, append_assoc, c.time.view_is) refl))
