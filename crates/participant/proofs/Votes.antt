-- What becomes of a live transaction that is to be prepared, case by case.
use Rattle.std.proofs.Common.{◌≡◌, ℕ, true, cond, Option, Some, None, option_map, nat_eq, ap, ◌∙◌}
use Rattle.std.proofs.Common.{sym}
use Rattle.std.proofs.lemmas.Bool.{ne_eqb}
use Rattle.txn_types.specs.Clock.{last_time, next_time}
use Rattle.txn_types.specs.declared.cause.Cause.TheVariants as cause
use Rattle.txn_types.specs.declared.message.Prepare.{Prepare}
use Rattle.session_table.specs.declared.session.Session.{Session}
use Rattle.version_store.specs.declared.version.Pending.{Pending}
use Rattle.participant.specs.declared.said.Open.{Open}
use Rattle.participant.specs.Part.{Part, open_of}
use Rattle.participant.specs.Prepare.{vetoes, prepares_by, prepares_open, prepares_live}
use Rattle.participant.specs.Stands.{pending_of}

-- of another boot
pub other_boot : (p : Part) (last wall : ℕ) (m : Prepare) (s : Session) (boot : ℕ)
    → boot ≡ p.boot → (m.boot ≡ boot → ⊥)
    → prepares_live p last wall m s ≡ vetoes p last m s (cause.Unavailable m.boot boot)
other_boot p last wall m s boot is ne =
    let differ : (m.boot ≡ p.boot → ⊥) = λ e. ne (e ∙ sym is) in
    ap (λ b. cond b (prepares_open p last wall m s (open_of p m.lsid))
    (vetoes p last m s (cause.Unavailable m.boot p.boot))) (ne_eqb m.boot p.boot differ)
    ∙ ap (λ b. vetoes p last m s (cause.Unavailable m.boot b)) (sym is)

-- at the last time that there is
pub at_end : (p : Part) (last wall : ℕ) (m : Prepare) (s : Session) (q : Pending) (o : Option Open)
    → Some q ≡ option_map (pending_of m.lsid) o → nat_eq last last_time ≡ true
    → prepares_open p last wall m s o ≡ vetoes p last m s (cause.ClockEnd last)
at_end p last wall m s q None there ends = cc
at_end p last wall m s q (Some o) there ends =
    ap (λ b. prepares_by p last m s o (cond b None (Some (next_time last wall)))) ends
