-- The boots of records, one after the other.
use Rattle.std.proofs.Common.{◌≡◌, ℕ, ◌+◌, ◌<◌, Bool, true, false, cond, List, [], ◌∷◌, ◌++◌, Option}
use Rattle.std.proofs.Common.{Some, None, unwrap_or, Result, Ok, Err, OnOk, refl, sym, ap, subst}
use Rattle.std.proofs.Common.{◌∙◌, arith}
use Rattle.std.specs.Prelude.{OnErr}
use Rattle.std.specs.Cmp.Derive.{both_true}
use Rattle.std.proofs.lemmas.Bool.{lt-ltb}
use Rattle.journal_rec.specs.declared.record.Rec.{Rec}
use Rattle.journal_rec.specs.declared.record.Rec.TheVariants as rec
use Rattle.record_store.specs.Logged.{listed}
use Rattle.txn_types.specs.declared.event.NodeEvent.{NodeEvent}
use Rattle.router_state.specs.State.{RouterState}
use Rattle.router_core.specs.Step.{router_step}
use Rattle.router_core.proofs.Going.{step_on}
use Rattle.router_store.specs.Boots.{is_next, boot_after, first_refused_from, first_refused}
use Rattle.router_store.specs.Boots.{boot_behind, last_boot, next_boot, AreBoots}

-- Between two turns: what the rest refuses and leaves is what all records do.
pub record Following (last : Option ℕ) (number : ℕ) (rest all : List Rec) : Type 0 where
  pub refuses : first_refused_from number last rest ≡ first_refused all
  pub boots : boot_behind last rest ≡ boot_behind None all

pub follows_none : (all : List Rec) → Following None 0 all all
follows_none all = record { refuses = refl; boots = refl }

pub follows_one : (last : Option ℕ) (number boot : ℕ) (r : Rec) (rest all : List Rec)
    → is_next last r ≡ true → boot_after last r ≡ Some boot → Following last number (r ∷ rest) all
    → Following (Some boot) (number + 1) rest all
follows_one last number boot r rest all next is so_far = record {
  refuses =
      ap (λ (o : Option ℕ). first_refused_from (number + 1) o rest) (sym is)
      ∙ sym (ap (λ (b : Bool). cond b (first_refused_from (number + 1) (boot_after last r) rest)
      (Some number)) next)
      ∙ so_far.refuses;
  boots = ap (λ (o : Option ℕ). boot_behind o rest) (sym is) ∙ so_far.boots;
}

pub follows_refused : (last : Option ℕ) (number : ℕ) (r : Rec) (rest all : List Rec)
    → is_next last r ≡ false → Following last number (r ∷ rest) all
    → first_refused all ≡ Some number
follows_refused last number r rest all next so_far =
    sym so_far.refuses ∙ ap (λ (b : Bool).
    cond b (first_refused_from (number + 1) (boot_after last r) rest) (Some number)) next

pub follows_all : (last : Option ℕ) (number : ℕ) (all : List Rec) → Following last number [] all
    → first_refused all ≡ None
follows_all last number all so_far = sym so_far.refuses

pub boots_all : (last : Option ℕ) (number : ℕ) (all : List Rec) → Following last number [] all
    → unwrap_or last 0 ≡ last_boot all
boots_all last number all so_far = ap (λ (o : Option ℕ). unwrap_or o 0) so_far.boots

-- One more boot behind the last.

refuses_by : (index : ℕ) (last : Option ℕ) (boot : ℕ) (recs : List Rec) (b : Bool)
    → (first_refused_from index last recs ≡ None
    → first_refused_from index last (recs ++ rec.Boot boot ∷ []) ≡ None)
    → (number : ℕ) → cond b (first_refused_from index last recs) (Some number) ≡ None
    → cond b (first_refused_from index last (recs ++ rec.Boot boot ∷ [])) (Some number) ≡ None
refuses_by index last boot recs true more number follow = more follow
refuses_by index last boot recs false more number follow = follow

refuses_more : (index : ℕ) (last : Option ℕ) (boot : ℕ) (recs : List Rec)
    → is_next (boot_behind last recs) (rec.Boot boot) ≡ true
    → first_refused_from index last recs ≡ None
    → first_refused_from index last (recs ++ rec.Boot boot ∷ []) ≡ None
refuses_more index last boot [] next follow =
    ap (λ (b : Bool). cond {A = Option ℕ} b None (Some index)) next
refuses_more index last boot (r ∷ recs) next follow =
    refuses_by (index + 1) (boot_after last r) boot recs (is_next last r)
    (refuses_more (index + 1) (boot_after last r) boot recs next) index follow

behind_more : (last : Option ℕ) (boot : ℕ) (recs : List Rec)
    → boot_behind last (recs ++ rec.Boot boot ∷ []) ≡ Some boot
behind_more last boot [] = refl
behind_more last boot (r ∷ recs) = behind_more (boot_after last r) boot recs

next_is : (last : Option ℕ) (boot : ℕ) → boot ≡ unwrap_or last 0 + 1 → boot < 4294967295
    → is_next last (rec.Boot boot) ≡ true
next_is None boot is less = lt-ltb boot 4294967295 less
next_is (Some n) boot is less =
    both_true (lt-ltb n boot (omega (arith, is))) (lt-ltb boot 4294967295 less)

pub boots_more : (recs new : List Rec) (boot : ℕ) → first_refused recs ≡ None
    → boot ≡ next_boot recs → boot < 4294967295 → new ≡ recs ++ rec.Boot boot ∷ []
    → AreBoots new boot
boots_more recs new boot follow is less parts =
    let next = next_is (boot_behind None recs) boot is less in
    subst (λ (l : List Rec). AreBoots l boot) (sym parts) (record {
      follow = refuses_more 0 None boot recs next follow;
      last = ap (λ (o : Option ℕ). unwrap_or o 0) (behind_more None boot recs);
    })

pub boots_at : (recs : List Rec) (a b : ℕ) → b ≡ a → AreBoots recs a → AreBoots recs b
boots_at recs a b is boots = subst (AreBoots recs) (sym is) boots

pub none_listed : (hand : Option Rec) → listed hand ≡ [] → hand ≡ None
none_listed None is = refl
none_listed (Some r) is = cc

-- A step leaves the boot.

pub step_boot : {T E : Type 0} (r : Result T E) (old new : RouterState) (e : NodeEvent)
    → OnOk r (new ≡ (router_step false old e).state) → OnErr r (new ≡ old) → new.boot ≡ old.boot
step_boot (Ok t) old new e ok err =
    ap (λ (s : RouterState). s.boot) ok ∙ (step_on false old e).boot
step_boot (Err why) old new e ok err = ap (λ (s : RouterState). s.boot) err
