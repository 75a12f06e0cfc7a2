-- Sessions put at their places, the last first.
use Rattle.std.proofs.Common.{◌≡◌, ℕ, ◌<◌, List, [], ◌∷◌, ◌++◌, slice_set, refl, ap, sym, subst}
use Rattle.std.proofs.Common.{◌∙◌}
use Rattle.txn_types.specs.BySession.{BySession}
use Rattle.txn_types.specs.declared.node.Lsid.{Lsid}
use Rattle.router_state.specs.declared.state.Session.{Session}
use Rattle.router_plan.specs.Plans.{replaced, FitIn}

pub put_last : (front : List (ℕ × (Lsid × Session))) (last : ℕ
    × (Lsid × Session)) (sessions : BySession Session)
    → replaced (front ++ last ∷ []) sessions ≡ replaced front (slice_set sessions last.0 last.1)
put_last [] last sessions = refl
put_last (entry ∷ front) last sessions =
    ap (λ (xs : BySession Session). slice_set xs entry.0 entry.1) (put_last front last sessions)

pub fit_last : (n : ℕ) (front : List (ℕ × (Lsid × Session))) (last : ℕ × (Lsid × Session))
    → FitIn n (front ++ last ∷ []) → (last.0 < n) × FitIn n front
fit_last n [] last fit = (fit.0, tt)
fit_last n (entry ∷ front) last fit = let more = fit_last n front last fit.1 in
    (more.0, (fit.0, more.1))

pub last_fits : (n : ℕ) (all front : List (ℕ × (Lsid × Session))) (last : ℕ × (Lsid × Session))
    → all ≡ front ++ last ∷ [] → FitIn n all → (last.0 < n) × FitIn n front
last_fits n all front last is fit =
    fit_last n front last (subst (λ (xs : List (ℕ × (Lsid × Session))). FitIn n xs) is fit)

pub put_behind : (all front : List (ℕ × (Lsid × Session))) (last : ℕ
    × (Lsid × Session)) (sessions next : BySession Session) → all ≡ front ++ last ∷ []
    → next ≡ slice_set sessions last.0 last.1 → replaced front next ≡ replaced all sessions
put_behind all front last sessions next is set =
    ap (λ (xs : BySession Session). replaced front xs) set ∙ sym (put_last front last sessions)
    ∙ ap (λ (xs : List (ℕ × (Lsid × Session))). replaced xs sessions) (sym is)
