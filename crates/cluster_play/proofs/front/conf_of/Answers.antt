use Rattle.std.proofs.Common.{◌≡◌, ℕ, List, Bool, true, false, cond, Ok, Err, ap, subst, ◌∙◌}
use Rattle.std.specs.Str.{is_utf8}
use Rattle.std.proofs.lemmas.Str.{IsUtf8-from_is_utf8, is_utf8-from_IsUtf8}
use Rattle.cluster_conf.specs.Conf.{conf_of}
use Rattle.cluster_play.specs.declared.status.Status.TheVariants.{BadConf}
use Rattle.cluster_play.specs.Schedule.{settings_by}
use Rattle.cluster_play.proofs.Fronts.{is_false}
use Rattle.cluster_play.proofs.front.conf_of.Goals as goal

pub returns-in_default-clause-conf : goal.returns-in_default-clause-conf
returns-in_default-clause-conf c =
    let other : is_utf8 c.args.text.now ≡ false = is_false (is_utf8 c.args.text.now) (λ e.
    c.in_default.ensures.cases.0 (IsUtf8-from_is_utf8 _ e)) in
    ap (λ (b : Bool). cond b (settings_by (conf_of c.args.text.now)) (Err BadConf)) other

pub returns-in-Ok-read-clause-conf : goal.returns-in-Ok-read-clause-conf
returns-in-Ok-read-clause-conf c =
    let is : is_utf8 c.args.text.now ≡ true = is_utf8-from_IsUtf8 _ c.in-Ok.ensures.cases.1 in
    let read : conf_of c.args.text.now ≡ Ok c.in-Ok-read.conf = subst (λ (t : List ℕ). conf_of t
    ≡ Ok c.in-Ok-read.conf) c.in-Ok.ensures.cases.0 c.in-Ok-read.ensures in
    ap (λ (b : Bool). cond b (settings_by (conf_of c.args.text.now)) (Err BadConf)) is
    ∙ ap settings_by read
