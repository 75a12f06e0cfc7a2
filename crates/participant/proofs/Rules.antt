-- The rules of a statement, case by case.
use Rattle.std.proofs.Common.{◌≡◌, ℕ, Bool, true, false, cond, List, Option, Some, None, Result, Ok}
use Rattle.std.proofs.Common.{Err, IsSomeAnd, nat_eq, nat_lt, refl, ap, ◌∙◌, sym}
use Rattle.txn_types.specs.declared.cause.Cause.TheVariants as cause
use Rattle.txn_types.specs.declared.message.Statement.{Statement}
use Rattle.txn_semantics.specs.Meaning.{Meaning, eval, ns_of}
use Rattle.txn_semantics.specs.Rows.{Row}
use Rattle.txn_semantics.specs.Touched.{touched}
use Rattle.session_table.specs.declared.session.Session.{Session}
use Rattle.version_store.specs.Versions.{scan}
use Rattle.version_store.specs.declared.version.Held.{Held}
use Rattle.participant.specs.declared.said.Meant.{Meant}
use Rattle.participant.specs.declared.said.Meant.TheVariants as meaning
use Rattle.participant.specs.declared.said.Open.{Open}
use Rattle.participant.specs.declared.said.Said.TheVariants.{Did, Blocked, Refused, Late}
use Rattle.participant.specs.Part.{Part, aborted}
use Rattle.participant.specs.Statement.{Turn, refused, refuses, writing, evaluated, scanned}
use Rattle.participant.specs.Statement.{performed, first_statement, beside, goes_on}
use Rattle.participant.specs.Stands.{IsNext, meant, meant_by, meant_over}

-- What is done of what comes of the operation.

abbrev pub acting : Part → ℕ → Statement → ℕ → Option Open → Meant → Turn
acting p wall m at mine (meaning.HeldBy held) = (Blocked held, p)
acting p wall m at mine (meaning.Refused err) = refuses p m (cause.Statement err) at
acting p wall m at mine (meaning.Does reply writes) = writing p wall m at mine reply writes

evaluated_is : (p : Part) (wall : ℕ) (m : Statement) (at : ℕ) (mine : Option Open) (meaning :
    Meaning) → evaluated p wall m at mine meaning ≡ acting p wall m at mine (meant_over meaning)
evaluated_is p wall m at mine (Err err) = refl
evaluated_is p wall m at mine (Ok done) = refl

scanned_is : (p : Part) (wall : ℕ) (m : Statement) (at : ℕ) (mine : Option Open) (rows : Result
    (List Row) Held) → scanned p wall m at mine rows ≡ acting p wall m at mine (meant_by m.op rows)
scanned_is p wall m at mine (Err held) = refl
scanned_is p wall m at mine (Ok rows) = evaluated_is p wall m at mine (eval m.op rows)

pub performed_is : (p : Part) (wall : ℕ) (m : Statement) (at : ℕ) (mine : Option Open)
    → performed p wall m at mine ≡ acting p wall m at mine (meant p m at)
unfolding performed
performed_is p wall m at mine =
    scanned_is p wall m at mine (scan p.store (ns_of m.op) (touched m.op) at m.tag)

-- A later one.

-- what is done by whether it has the newest place, a lower one, and the shard's boot
abbrev going : Part → ℕ → Statement → Session → Open → Bool → Bool → Bool → Turn
going p wall m s o same lower here =
    cond same (Did o.read_at o.reply o.wrote, p)
    (cond lower (Late, p) (cond here (performed p wall m o.read_at (Some o)) (
      Refused (cause.Unavailable m.boot p.boot) 0,
      aborted p m.lsid s (cause.Unavailable m.boot p.boot),
    )))

next_is : (p : Part) (wall : ℕ) (m : Statement) (s : Session) (at : ℕ) (o : Open) → IsNext m at o
    → goes_on p wall m s (Some o) ≡ going p wall m s o false false (nat_eq m.boot p.boot)
next_is p wall m s at o next =
    ap (λ b. going p wall m s o b (nat_lt m.k o.k) (nat_eq m.boot p.boot)) next.1
    ∙ ap (λ b. going p wall m s o false b (nat_eq m.boot p.boot)) next.2

-- the next one, at the shard's boot
pub goes_here : (p : Part) (wall : ℕ) (m : Statement) (s : Session) (at : ℕ) (e : Option Open)
    → IsSomeAnd e (IsNext m at) → nat_eq m.boot p.boot ≡ true
    → goes_on p wall m s e ≡ performed p wall m at e
goes_here p wall m s at None next here = absurd next
goes_here p wall m s at (Some o) next here =
    next_is p wall m s at o next ∙ ap (going p wall m s o false false) here
    ∙ ap (λ n. performed p wall m n (Some o)) next.0

-- and at another one
pub goes_elsewhere : (p : Part) (wall : ℕ) (m : Statement) (s : Session) (at : ℕ) (e : Option Open)
    (boot : ℕ) → boot ≡ p.boot → IsSomeAnd e (IsNext m at) → nat_eq m.boot boot ≡ false
    → goes_on p wall m s e ≡ (let t : Turn = (
      Refused (cause.Unavailable m.boot boot) 0,
      aborted p m.lsid s (cause.Unavailable m.boot boot),
    ) in t)
goes_elsewhere p wall m s at None boot is next other = absurd next
goes_elsewhere p wall m s at (Some o) boot is next other =
    next_is p wall m s at o next
    ∙ ap (going p wall m s o false false) (ap (nat_eq m.boot) (sym is) ∙ other)
    ∙ ap (λ b. let t : Turn =
    (Refused (cause.Unavailable m.boot b) 0, aborted p m.lsid s (cause.Unavailable m.boot b)) in
    t) (sym is)

-- A first one at another boot.
pub first_elsewhere : (p : Part) (last wall : ℕ) (m : Statement) (older : Option Session) (boot : ℕ)
    → boot ≡ p.boot → nat_eq m.boot 0 ≡ false → first_statement p last wall m older
    ≡ (let t : Turn = (Refused (cause.Unavailable m.boot boot) 0, p) in t)
first_elsewhere p last wall m older boot is ne =
    ap (λ b. cond b (beside p last wall m older) (refused p (cause.Unavailable m.boot p.boot))) ne
    ∙ ap (λ b. refused p (cause.Unavailable m.boot b)) (sym is)
