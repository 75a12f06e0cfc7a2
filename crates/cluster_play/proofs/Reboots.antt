-- A router that starts again: what its disk has are its boots, so the next one follows.
use Rattle.std.proofs.Common.{◌≡◌, ◌<◌, ◌⊎◌, inl, inr, ℕ, ◌+◌, Bool, true, false, cond, List, [], ◌∷◌}
use Rattle.std.proofs.Common.{◌++◌, Option, Some, None, nat_lt, refl, sym, ap, subst, ◌∙◌, arith}
use Rattle.std.specs.Prelude.{◌&&◌}
use Rattle.std.proofs.lemmas.Bool.{ltb-true}
use Rattle.std.proofs.lemmas.List.{append-nil}
use Rattle.chunk_map.specs.Map.{Map}
use Rattle.journal_rec.specs.declared.record.Rec.{Rec}
use Rattle.journal_rec.specs.declared.record.Rec.TheVariants as rec
use Rattle.record_laws.specs.Fits.{RecordFits}
use Rattle.record_store.specs.Found.{FoundIn}
use Rattle.record_store.specs.Logged.{LeftOf, listed}
use Rattle.log_laws.specs.Fitting.{AllFit, HandFits}
use Rattle.router_state.specs.State.{RouterState}
use Rattle.router_store.specs.Boots.{is_above, is_next, boot_after, first_refused_from, last_boot}
use Rattle.router_store.specs.Boots.{next_boot, AreBoots}
use Rattle.router_store.specs.Routers.{StartsFrom}
use Rattle.cluster_play.specs.Plays.{BootsAgain}
use Rattle.cluster_play.proofs.Restarts.{IsFound}

never : ◌≡◌ {A = Bool} false true → ⊥
never is = cc

not_none : (n : ℕ) → ◌≡◌ {A = Option ℕ} (Some n) None → ⊥
not_none n is = cc

and_right : (a b : Bool) → (a && b) ≡ true → b ≡ true
and_right true b is = is
and_right false b is = absurd (never is)

fits_by : (last : Option ℕ) (r : Rec) → is_next last r ≡ true → RecordFits r
fits_by last (rec.Boot boot) is =
    let less : boot < 4294967295 = ltb-true boot 4294967295 (and_right (is_above boot last)
    (nat_lt boot 4294967295) is) in
    let fits : boot < 4294967296 = omega (arith, less) in fits
fits_by last other is = absurd (never is)

boots_by : (index : ℕ) (last : Option ℕ) (r : Rec) (recs : List Rec) (b : Bool)
    → is_next last r ≡ b
    → (first_refused_from (index + 1) (boot_after last r) recs ≡ None → AllFit recs)
    → cond b (first_refused_from (index + 1) (boot_after last r) recs) (Some index) ≡ None
    → AllFit (r ∷ recs)
boots_by index last r recs true is more follow = (fits_by last r is, more follow)
boots_by index last r recs false is more follow = absurd (not_none index follow)

boots_fit : (index : ℕ) (last : Option ℕ) (recs : List Rec)
    → first_refused_from index last recs ≡ None → AllFit recs
boots_fit index last [] follow = tt
boots_fit index last (r ∷ recs) follow =
    boots_by index last r recs (is_next last r) refl
    (boots_fit (index + 1) (boot_after last r) recs) follow

boots_remain : (recs found : List Rec) (hand : Option Rec) → hand ≡ None
    → (found ≡ recs) ⊎ (found ≡ recs ++ listed hand) → found ≡ recs
boots_remain recs found hand none (inl all) = all
boots_remain recs found hand none (inr more) =
    more ∙ ap (λ (h : Option Rec). recs ++ listed h) none ∙ append-nil recs

pub boots_again : (law : IsFound) (told tells : Type 0) (chunks : Map) (n : ℕ)
    (before after : RouterState) (records new : List Rec) (hand : Option Rec)
    (may_leave : List ℕ → Type 0) (file : List ℕ) → (told → tells)
    → (tells → LeftOf may_leave records hand) → (tells → may_leave file) → hand ≡ None
    → AreBoots records before.boot → StartsFrom n chunks tells file after new
    → BootsAgain told chunks n before after
boots_again law told tells chunks n before after records new hand may_leave file tell left shown
    none boots s =
    let same : told → s.recs ≡ records = λ t.
    let l = left (tell t) in
    let found : FoundIn (Unit {0}) file s.recs = record {
      payloads = s.found.payloads;
      file_has = λ _. s.found.file_has (tell t);
      are = s.found.are;
    } in
    boots_remain records s.recs hand none
    (law l.payloads records s.recs hand file l.are (l.left file (shown (tell t)))
    (boots_fit 0 None records boots.follow) (subst HandFits (sym none) tt) found) in
    let last : told → last_boot s.recs ≡ before.boot = λ t. ap last_boot (same t) ∙ boots.last in
    record {
      boot = next_boot s.recs;
      next = λ t. ap (λ (b : ℕ). b + 1) (last t);
      left = λ t. subst (λ (b : ℕ). b < 4294967294) (last t) s.boots.left;
      starts = s.boots.fresh;
    }
