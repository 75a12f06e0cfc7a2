-- What becomes of a live transaction that is to commit, case by case.
use Rattle.std.proofs.Common.{◌≡◌, ◌≤◌, ◌<◌, ◌⊎◌, inl, inr, ◌↔◌, ◌-◌, ◌^◌, ℕ, Bool, true, false}
use Rattle.std.proofs.Common.{cond, List, [], ◌∷◌, Option, Some, None, Result, Err, nat_eq, refl}
use Rattle.std.proofs.Common.{ap, ◌∙◌, sym, arith}
use Rattle.std.proofs.lemmas.Bool.{ne_eqb, eq-eqb}
use Rattle.txn_types.specs.Clock.{last_time, next_time, wanted_ceiling, ticked}
use Rattle.txn_types.specs.declared.cause.Cause.TheVariants as cause
use Rattle.txn_types.specs.declared.message.Commit.{Commit}
use Rattle.txn_types.specs.declared.time.ClockErr.{ClockErr}
use Rattle.txn_types.specs.declared.time.ClockErr.TheVariants as clock
use Rattle.txn_types.specs.declared.write.Write.{Write}
use Rattle.session_table.specs.declared.session.Session.{Session}
use Rattle.participant.specs.declared.said.Open.{Open}
use Rattle.participant.specs.Part.{Part, open_of}
use Rattle.participant.specs.Commit.{fails, releases, commits_by, commits_writes, commits_open}
use Rattle.participant.specs.Commit.{commits_live}
use Rattle.participant.specs.Stands.{has_written, has_writes}

-- of another boot
pub other_boot : (p : Part) (last wall : ℕ) (m : Commit) (s : Session) (boot : ℕ)
    → boot ≡ p.boot → (m.boot ≡ boot → ⊥)
    → commits_live p last wall m s ≡ fails p last m s (cause.Unavailable m.boot boot)
other_boot p last wall m s boot is ne =
    let differ : (m.boot ≡ p.boot → ⊥) = λ e. ne (e ∙ sym is) in
    ap (λ b. cond b (commits_open p last wall m s (open_of p m.lsid))
    (fails p last m s (cause.Unavailable m.boot p.boot))) (ne_eqb m.boot p.boot differ)
    ∙ ap (λ b. fails p last m s (cause.Unavailable m.boot b)) (sym is)

same_boot : (p : Part) (last wall : ℕ) (m : Commit) (s : Session) (boot : ℕ) → boot ≡ p.boot
    → m.boot ≡ boot → commits_live p last wall m s ≡ commits_open p last wall m s (open_of p m.lsid)
same_boot p last wall m s boot is eq =
    ap (λ b. cond b (commits_open p last wall m s (open_of p m.lsid))
    (fails p last m s (cause.Unavailable m.boot p.boot))) (eq-eqb m.boot p.boot (eq ∙ is))

without_case : (p : Part) (last wall : ℕ) (m : Commit) (s : Session)
    (o : Open) (writes : List Write) → has_written writes ≡ false
    → commits_writes p last wall m s o writes ≡ releases p last m s
without_case p last wall m s o [] h = refl
without_case p last wall m s o (write ∷ writes) h = cc

without_open : (p : Part) (last wall : ℕ) (m : Commit) (s : Session) (o : Option Open)
    → has_writes o ≡ false → commits_open p last wall m s o ≡ releases p last m s
without_open p last wall m s None h = refl
without_open p last wall m s (Some o) h = without_case p last wall m s o o.writes h

-- without a write
pub without_writes : (p : Part) (last wall : ℕ) (m : Commit) (s : Session) (boot : ℕ)
    → boot ≡ p.boot → m.boot ≡ boot → has_writes (open_of p m.lsid) ≡ false
    → commits_live p last wall m s ≡ releases p last m s
without_writes p last wall m s boot is eq none = same_boot p last wall m s boot is eq
    ∙ without_open p last wall m s (open_of p m.lsid) none

with_case : (p : Part) (last wall : ℕ) (m : Commit) (s : Session) (o : Open) (writes : List Write)
    → has_written writes ≡ true
    → commits_writes p last wall m s o writes ≡ commits_by p last m s o (ticked last wall)
with_case p last wall m s o [] h = cc
with_case p last wall m s o (write ∷ writes) h = refl

with_open : (p : Part) (last wall : ℕ) (m : Commit) (s : Session) (o : Option Open)
    → has_writes o ≡ true → (mine : Open) × (o ≡ Some mine)
    × (commits_open p last wall m s o ≡ commits_by p last m s mine (ticked last wall))
with_open p last wall m s None h = cc
with_open p last wall m s (Some o) h = (o, refl, with_case p last wall m s o o.writes h)

-- with writes
pub with_writes : (p : Part) (last wall : ℕ) (m : Commit) (s : Session) (boot : ℕ) → boot ≡ p.boot
    → m.boot ≡ boot → has_writes (open_of p m.lsid) ≡ true
    → (mine : Open) × (open_of p m.lsid ≡ Some mine)
    × (commits_live p last wall m s ≡ commits_by p last m s mine (ticked last wall))
with_writes p last wall m s boot is eq some =
    let e = with_open p last wall m s (open_of p m.lsid) some in
    (e.0, e.1, same_boot p last wall m s boot is eq ∙ e.2)

-- a clock that doesn't tick stands at the last time
end_case : (last wall : ℕ) (b : Bool) → nat_eq last last_time ≡ b → last ≡ 2 ^ 64 - 1
    → ◌≡◌ {A = Option ℕ} None (cond b None (Some (next_time last wall)))
end_case last wall true is e = refl
end_case last wall false is e = let wrong : true ≡ false = sym (eq-eqb last last_time e) ∙ is in cc

pub no_tick : (last wall ceiling : ℕ) (e : ClockErr)
    → ((let r : Result ℕ ClockErr = Err e in r ≡ Err clock.ClockEnd) ↔ (last ≡ 2 ^ 64 - 1))
    → ((bound : ℕ) → (let r : Result ℕ ClockErr = Err e in r ≡ Err (clock.NeedCeiling bound))
    ↔ ((last < 2 ^ 64 - 1) × (ceiling < next_time last wall)
    × (bound ≡ wanted_ceiling (next_time last wall))))
    → (last ≡ last_time) ⊎ (next_time last wall ≤ ceiling) → None ≡ ticked last wall
no_tick last wall ceiling clock.ClockEnd ends needs may =
    end_case last wall (nat_eq last last_time) refl (ends.0 refl)
no_tick last wall ceiling (clock.NeedCeiling bound) ends needs (inl e) =
    absurd (omega (arith, e, ((needs bound).0 refl).0))
no_tick last wall ceiling (clock.NeedCeiling bound) ends needs (inr h) =
    absurd (omega (arith, h, ((needs bound).0 refl).1))
