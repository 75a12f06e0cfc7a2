-- A client's message that is taken.
use Rattle.std.proofs.Common.{◌≡◌, ◌≢◌, ℕ, Bool, false, List, Option, None, Result, Ok, Err, refl}
use Rattle.std.proofs.Common.{ap, sym, ◌∙◌, if◌then◌else◌}
use Rattle.txn_types.specs.declared.event.Happening.TheVariants.{Client}
use Rattle.client_cmd.specs.declared.request.Request.{Request}
use Rattle.op_msg.specs.Asking.{wants_reply}
use Rattle.router_plan.specs.declared.message.Unserved.{Unserved}
use Rattle.router_plan.specs.declared.message.Unserved.TheVariants.{Told, Closed, Memory}
use Rattle.router_plan.specs.Messages.{Gives, asked_in}
use Rattle.router_state.specs.Deeds.{Move, still}
use Rattle.router_state.specs.State.{RouterState, is_waiting}
use Rattle.router_core.specs.Step.{unless_silent, served, client, closed_by, closed_at}

-- what was read is what is asked, where there was memory
read_so : (asked defined : Result Request Unserved) → Gives (λ r. r) asked defined
    → asked ≢ Err Memory → asked ≡ defined
read_so (Ok request) defined gives memory = sym gives
read_so (Err (Told why)) defined gives memory = sym gives
read_so (Err (Closed number)) defined gives memory = sym gives
read_so (Err Memory) defined gives memory = absurd (memory refl)

pub taken_so : (s : RouterState) (conn : ℕ) (bytes : List ℕ) (waits wants : Bool)
    (asked : Result Request Unserved) (move silent : Move)
    → waits ≡ is_waiting s conn → waits ≡ false → Gives (λ r. r) asked (asked_in s.wall bytes)
    → asked ≢ Err Memory → move ≡ served s conn bytes asked → wants ≡ wants_reply bytes
    → silent ≡ unless_silent wants move
    → silent ≡ client s conn bytes
taken_so s conn bytes waits wants asked move silent here idle gives memory is wanted kept =
    let free : is_waiting s conn ≡ false = sym here ∙ idle in
    kept
    ∙ ap (λ (b : Bool). unless_silent b move) wanted
    ∙ ap (λ (m : Move). unless_silent (wants_reply bytes) m) (is ∙ ap (λ (r : Result Request
    Unserved). served s conn bytes r) (read_so asked (asked_in s.wall bytes) gives memory))
    ∙ ap (λ (b : Bool). if b then still s else unless_silent (wants_reply bytes)
    (served s conn bytes (asked_in s.wall bytes))) (sym free)

pub closed_so : (s : RouterState) (conn : ℕ) (bytes : List ℕ) (waits : Bool)
    (asked : Result Request Unserved) (closed : Option ℕ)
    → waits ≡ is_waiting s conn → waits ≡ false → Gives (λ r. r) asked (asked_in s.wall bytes)
    → asked ≢ Err Memory → closed ≡ closed_by asked
    → closed ≡ closed_at s (Client conn bytes)
closed_so s conn bytes waits asked closed here idle gives memory is =
    let free : is_waiting s conn ≡ false = sym here ∙ idle in
    is
    ∙ ap (λ (r : Result Request Unserved). closed_by r)
    (read_so asked (asked_in s.wall bytes) gives memory)
    ∙ ap (λ (b : Bool). if b then None else closed_by (asked_in s.wall bytes)) (sym free)
