-- A tag stands for one begin, after each event.
use Rattle.std.proofs.Common.{◌≡◌, ◌⊎◌, inl, inr, ◌<ℤ◌, ◌+◌, ◌<◌, ◌≤◌, ℕ, suc, ℤ, List, [], ◌∷◌}
use Rattle.std.proofs.Common.{◌++◌, get_or, Option, Some, None, IfSome, refl, sym, ap, subst, ◌∙◌}
use Rattle.std.proofs.Common.{arith}
use Rattle.std.specs.Prelude.{Contains, slice_get, slice_set}
use Rattle.std.proofs.lemmas.Bool.{cases_lt}
use Rattle.std.proofs.lemmas.Int.{ints}
use Rattle.std.proofs.lemmas.List.Elements.{All-nil, All-weaker, All-contains}
use Rattle.std.proofs.lemmas.List.Elements.{Contains-append_cases, filter_map-append}
use Rattle.txn_types.specs.declared.event.NodeAnswer.{NodeAnswer}
use Rattle.txn_types.specs.declared.event.NodeEvent.{NodeEvent}
use Rattle.txn_types.specs.declared.message.Envelope.{Envelope}
use Rattle.txn_types.specs.declared.names.Tag.{Tag}
use Rattle.txn_types.specs.declared.node.Lsid.{Lsid}
use Rattle.txn_types.specs.declared.node.NodeId.TheVariants.{Shard, Router}
use Rattle.chunk_map.specs.Map.{Map}
use Rattle.router_state.specs.declared.state.Doing.{Doing}
use Rattle.router_state.specs.declared.state.Doing.TheVariants.{Begun, Sought}
use Rattle.router_state.specs.declared.state.Session.{Session}
use Rattle.router_state.specs.State.{Post, RouterState, session_of, fresh_router}
use Rattle.router_core.specs.Requests.{next_tag}
use Rattle.router_core.specs.Step.{RouterTakes, router_step, answer_of}
use Rattle.txn_model.specs.declared.ran.Ran.{Ran}
use Rattle.txn_model.specs.declared.ran.Ran.TheVariants.{Step, Swapped}
use Rattle.txn_types.specs.Letters.{Named, named_in, given_out}
use Rattle.cluster_core.specs.Nodes.{Nodes}
use Rattle.cluster_core.specs.Parts.{names_of, TagsBegunOnce, WasDrawn}
use Rattle.cluster_core.specs.Trace.{Happens, IsFresh, RouterSteps, again}
use Rattle.world_laws.specs.Begins.{begins, PostNames, DoingNames, EntryNames, RouterNames, IsIn}
use Rattle.world_laws.specs.Begins.{HasCome, IsDrawn, BegunOnce, AllBegunOnce, Kept, Drew, Leaves}
use Rattle.shard_core.specs.Effect.{SentNames}
use Rattle.world_laws.specs.Tags.{AllPlansNamed}
use Rattle.world_laws.proofs.Lists.{get_set, set_get, set_there}
use Rattle.world_laws.proofs.Going.{some_same, come_on}
use Rattle.world_laws.proofs.Beginning.{StepNames, step_names, step_leaves}
use Rattle.world_laws.proofs.Tags.{names, names_all, tags_shard, tags_shard_start}
use Rattle.world_laws.proofs.Tags.{tags_router_start, GoOn, back_sent, same_back, names_back}

-- Lists of names.

has_first : (x : Named) (xs : List Named) → Contains (x ∷ xs) x
has_first x xs = (0, omega arith, refl)

has_more : (x : Named) (xs : List Named) (y : Named) → Contains xs y → Contains (x ∷ xs) y
has_more x xs y h = (suc h.0, omega (arith, h.1), h.2)

has_one : (x y : Named) (k : ℕ) → k < 1 → get_or (x ∷ []) k y ≡ y → y ≡ x
has_one x y k h e = let zero : k ≡ 0 = omega (arith, h) in
    sym (subst (λ (n : ℕ). get_or (x ∷ []) n y ≡ y) zero e)

has_cases : (x : Named) (xs : List Named) (y : Named) → Contains (x ∷ xs) y
    → (y ≡ x) ⊎ Contains xs y
has_cases x xs y h = elim (Contains-append_cases (x ∷ []) xs y h)
    [ inl w ↦ inl (has_one x y w.0 w.1 w.2) | inr w ↦ inr w ]

-- Names that are said more of.

post_weaker : (P Q : Named → Type 0) → ((n : Named) → P n → Q n) → (o : Option Named) → IfSome o P
    → IfSome o Q
post_weaker P Q h None k = tt
post_weaker P Q h (Some n) k = h n k

doing_weaker : (P Q : Named → Type 0) → ((n : Named) → P n → Q n)
    → (lsid : Lsid) (number : ℤ) (doing : Doing) → DoingNames P lsid number doing
    → DoingNames Q lsid number doing
doing_weaker P Q h lsid number (Begun t) k = (
  h _ k.0,
  All-weaker (PostNames P) (PostNames Q) (λ (post : Post). post_weaker P Q h (named_in post.1))
      t.waiting k.1,
)
doing_weaker P Q h lsid number (Sought seeking known) k = tt

router_weaker : (P Q : Named → Type 0) → ((n : Named) → P n → Q n) → (s : RouterState)
    → RouterNames P s → RouterNames Q s
router_weaker P Q h s k = All-weaker (EntryNames P) (EntryNames Q) (λ (entry : Lsid × Session).
    doing_weaker P Q h entry.0 entry.1.number entry.1.doing) s.sessions k

-- A router's step: all that it gives out is of what it has begun then.

pub record Stepped (sent new : List Named) (number : ℕ) (t : RouterState) : Type 0 where
  pub once : BegunOnce (sent ++ new) number t
  pub each : (x : Named) → Contains new x → Contains once.begun x

all_named : (P : Named → Type 0) (out : List Envelope) → SentNames P out → (x : Named)
    → Contains (names out) x → P x
all_named P out h x k = All-contains P (names out) x (names_all P out h) k

drawn_on : (r t : RouterState) (x : Named) → t.number ≡ r.number → t.boot ≡ r.boot
    → r.serial ≤ t.serial → IsDrawn r x → IsDrawn t x
drawn_on r t x a b c d =
    record { router = d.router ∙ sym a; boot = d.boot ∙ sym b; serial = omega (arith, c, d.serial) }

quiet_step : (sent : List Named) (number : ℕ) (r t : RouterState) (out : List Envelope)
    (b : BegunOnce sent number r) → Kept r t → StepNames (Contains b.begun) r t out
    → Stepped sent (names out) number t
quiet_step sent number r t out b l k = record {
  once = record {
    own = l.number ∙ b.own;
    begun = b.begun;
    sessions = k.state;
    named = λ x h router boot. elim (Contains-append_cases sent (names out) x h) [
      | inl w ↦ b.named x w router (boot ∙ l.boot)
      | inr w ↦ all_named (Contains b.begun) out k.out x w
    ];
    drawn = λ x h. drawn_on r t x l.number l.boot (omega (arith, l.serial)) (b.drawn x h);
    come = λ x h. come_on r t x k.goes (b.come x h);
    once = b.once;
    one_tag = b.one_tag;
  };
  each = λ x h. all_named (Contains b.begun) out k.out x h;
}

-- a tag that was drawn before isn't the next one
not_next : (r : RouterState) (x y : Named) → y.tag ≡ next_tag r → IsDrawn r x → x.tag ≡ y.tag → ⊥
not_next r x y next d e = let serial : x.tag.serial ≡ r.serial + 1 =
    ap (λ (t : Tag). t.serial) (e ∙ next) in absurd (omega (arith, d.serial, serial))

-- and a number that came before isn't above the session's
not_above : (r : RouterState) (x y : Named) → HasCome r x
    → ((old : Session) → session_of r y.lsid ≡ Some old → old.number <ℤ y.number) → x.lsid ≡ y.lsid
    → x.number ≡ y.number → ⊥
not_above r x y c fresh l n = less_not x y c.0 (fresh c.0 (ap (session_of r) (sym l) ∙ c.1)) n c.2
  where
    less_not : (x y : Named) (s : Session) → s.number <ℤ y.number → x.number ≡ y.number
        → (x.number <ℤ s.number) ⊎ ((s.number ≡ x.number) × IsIn x.tag s.doing) → ⊥
    less_not x y s h n (inl k) = absurd (omega (arith, ints, h, n, k))
    less_not x y s h n (inr k) = let same : s.number ≡ x.number = k.0 in
        absurd (omega (arith, ints, h, n, same))

next_once : (r : RouterState) (begun : List Named) (x : Named)
    → ((y : Named) → Contains begun y → IsDrawn r y) → x.tag ≡ next_tag r
    → ((a b : Named) → Contains begun a → Contains begun b → a.tag ≡ b.tag
    → (a.lsid ≡ b.lsid) × (a.number ≡ b.number))
    → (a b : Named) → Contains (x ∷ begun) a → Contains (x ∷ begun) b → a.tag ≡ b.tag
    → (a.lsid ≡ b.lsid) × (a.number ≡ b.number)
next_once r begun x drawn next once a b ha hb e =
    by (has_cases x begun a ha) (has_cases x begun b hb)
  where
    by : (a ≡ x) ⊎ Contains begun a → (b ≡ x) ⊎ Contains begun b
        → (a.lsid ≡ b.lsid) × (a.number ≡ b.number)
    by (inl p) (inl q) =
        (ap (λ (n : Named). n.lsid) (p ∙ sym q), ap (λ (n : Named). n.number) (p ∙ sym q))
    by (inl p) (inr q) =
        absurd (not_next r b x next (drawn b q) (sym e ∙ ap (λ (n : Named). n.tag) p))
    by (inr p) (inl q) = absurd (not_next r a x next (drawn a p) (e ∙ ap (λ (n : Named). n.tag) q))
    by (inr p) (inr q) = once a b p q e

next_tag_once : (r : RouterState) (begun : List Named) (x : Named) → ((y : Named) → Contains begun y
    → HasCome r y) → ((old : Session) → session_of r x.lsid ≡ Some old → old.number <ℤ x.number)
    → ((a b : Named) → Contains begun a → Contains begun b → a.lsid ≡ b.lsid → a.number ≡ b.number
    → a.tag ≡ b.tag)
    → (a b : Named) → Contains (x ∷ begun) a → Contains (x ∷ begun) b → a.lsid ≡ b.lsid
    → a.number ≡ b.number → a.tag ≡ b.tag
next_tag_once r begun x come fresh one a b ha hb l n =
    by (has_cases x begun a ha) (has_cases x begun b hb)
  where
    by : (a ≡ x) ⊎ Contains begun a → (b ≡ x) ⊎ Contains begun b → a.tag ≡ b.tag
    by (inl p) (inl q) = ap (λ (n : Named). n.tag) (p ∙ sym q)
    by (inl p) (inr q) = absurd (not_above r b x (come b q) fresh
        (sym l ∙ ap (λ (n : Named). n.lsid) p) (sym n ∙ ap (λ (n : Named). n.number) p))
    by (inr p) (inl q) = absurd (not_above r a x (come a p) fresh (l ∙ ap (λ (n : Named). n.lsid) q)
        (n ∙ ap (λ (n : Named). n.number) q))
    by (inr p) (inr q) = one a b p q l n

drew_drawn : (r t : RouterState) (x y : Named) → Drew r x t → y ≡ x → IsDrawn t y
drew_drawn r t x y l is = subst (IsDrawn t) (sym is) (record {
  router = ap (λ (g : Tag). g.router) l.tag ∙ sym l.number;
  boot = ap (λ (g : Tag). g.boot) l.tag ∙ sym l.boot;
  serial = let drawn : x.tag.serial ≡ r.serial + 1 = ap (λ (g : Tag). g.serial) l.tag in
      omega (arith, drawn, l.serial);
})

begin_step : (sent : List Named) (number : ℕ) (r t : RouterState) (out : List Envelope) (x : Named)
    (b : BegunOnce sent number r) → Drew r x t → StepNames (Contains (x ∷ b.begun)) r t out
    → Stepped sent (names out) number t
begin_step sent number r t out x b l k = record {
  once = record {
    own = l.number ∙ b.own;
    begun = x ∷ b.begun;
    sessions = k.state;
    named = λ y h router boot. elim (Contains-append_cases sent (names out) y h) [
      | inl w ↦ has_more x b.begun y (b.named y w router (boot ∙ l.boot))
      | inr w ↦ all_named (Contains (x ∷ b.begun)) out k.out y w
    ];
    drawn = λ y h. elim (has_cases x b.begun y h) [
      | inl w ↦ drew_drawn r t x y l w
      | inr w ↦ drawn_on r t y l.number l.boot (omega (arith, l.serial)) (b.drawn y w)
    ];
    come = λ y h. elim (has_cases x b.begun y h)
        [ inl w ↦ subst (HasCome t) (sym w) l.come | inr w ↦ come_on r t y k.goes (b.come y w) ];
    once = next_once r b.begun x b.drawn l.tag b.once;
    one_tag = next_tag_once r b.begun x b.come l.fresh b.one_tag;
  };
  each = λ y h. all_named (Contains (x ∷ b.begun)) out k.out y h;
}

step_by : (sent : List Named) (number : ℕ) (r t : RouterState) (out : List Envelope)
    (o : Option Named) (b : BegunOnce sent number r) → Leaves r t o → ((P : Named → Type 0)
    → IfSome o P → RouterNames P r → StepNames P r t out) → Stepped sent (names out) number t
step_by sent number r t out None b l f =
    quiet_step sent number r t out b l (f (Contains b.begun) tt b.sessions)
step_by sent number r t out (Some x) b l f =
    begin_step sent number r t out x b l
    (f (Contains (x ∷ b.begun)) (has_first x b.begun) (router_weaker (Contains b.begun)
    (Contains (x ∷ b.begun)) (has_more x b.begun) r b.sessions))

pub takes_once : (sent : List Named) (number : ℕ) (r : RouterState) (e : NodeEvent)
    (a : NodeAnswer) (t : RouterState) → RouterTakes r e a t → BegunOnce sent number r
    → Stepped sent (names (given_out a)) number t
takes_once sent number r e a t h b =
    let want = h.0 in
    let s = step_by sent number r (router_step want r e).state
    (given_out (answer_of want (router_step want r e))) (begins want r e) b (step_leaves want r
    e) (λ P p k. step_names P want r e p k) in
    subst (λ (x : RouterState). Stepped sent (names (given_out a)) number x) (sym h.2)
    (subst (λ (x : NodeAnswer). Stepped sent (names (given_out x)) number
    (router_step want r e).state) (sym h.1) s)

-- Each event.

sent_names : (old new : Nodes) (out : List Envelope) → new.sent ≡ old.sent ++ out
    → names_of new ≡ names_of old ++ names out
sent_names old new out e = ap names e
    ∙ filter_map-append (λ (e : Envelope). named_in e.msg) old.sent out

-- a router that stays knows of the names that others gave out, or of fewer, what it knew
names_stay : (was now : List Named) (number : ℕ) (s : RouterState) → ((x : Named) → Contains now x
    → x.tag.router ≡ number → Contains was x) → BegunOnce was number s → BegunOnce now number s
names_stay was now number s back b = record {
  own = b.own;
  begun = b.begun;
  sessions = b.sessions;
  named = λ x h r k. b.named x (back x h r) r k;
  drawn = b.drawn;
  come = b.come;
  once = b.once;
  one_tag = b.one_tag;
}

same_list : (old new : Nodes) → new.routers ≡ old.routers → (number : ℕ) (s : RouterState)
    → slice_get new.routers number ≡ Some s → slice_get old.routers number ≡ Some s
same_list old new is number s e = sym (ap (λ (l : List RouterState). slice_get l number) is) ∙ e

-- of the routers after a change of one, that one and the others
pub record Apart (n number : ℕ) : Type 0 where
  pub apart : (n ≡ number) → ⊥

same_or : (n number : ℕ) → (n < number) ⊎ (number ≤ n) → (number < n) ⊎ (n ≤ number)
    → (n ≡ number) ⊎ Apart n number
same_or n number (inl a) b = inr (record { apart = λ e. absurd (omega (arith, a, e)) })
same_or n number (inr a) (inl b) = inr (record { apart = λ e. absurd (omega (arith, b, e)) })
same_or n number (inr a) (inr b) = inl (omega (arith, a, b))

which : (n number : ℕ) → (n ≡ number) ⊎ Apart n number
which n number = same_or n number (cases_lt n number) (cases_lt number n)

other_kept : {A : Type 0} (xs : List A) (n number : ℕ) (y x : A) → Apart n number
    → slice_get (slice_set xs n y) number ≡ Some x → slice_get xs number ≡ Some x
other_kept xs n number y x apart e =
    elim (get_set xs n number y x e) [ inl w ↦ absurd (apart.apart (sym w.0)) | inr w ↦ w ]

one_set : (P : ℕ → RouterState → Type 0) (routers : List RouterState) (n : ℕ)
    (before after : RouterState) → slice_get routers n ≡ Some before → P n after
    → ((number : ℕ) (s : RouterState) → Apart n number → slice_get routers number ≡ Some s
    → P number s) → (number : ℕ) (s : RouterState)
    → slice_get (slice_set routers n after) number ≡ Some s → P number s
one_set P routers n before after there this others number s e =
    elim (which n number) [
      | inl same ↦
          let is : after ≡ s = some_same after s (sym (set_there routers n after before there)
          ∙ ap (slice_get (slice_set routers n after)) same ∙ e) in
          subst (λ (k : ℕ). P k s) same (subst (P n) is this)
      | inr apart ↦ others number s apart (other_kept routers n number after s apart e)
    ]

-- a router's step

stepped : (old : Nodes) (n : ℕ) (e : NodeEvent) (a : NodeAnswer) (faults : ℕ)
    (new : Nodes) (h : RouterSteps old n e a faults new) → AllBegunOnce old
    → Stepped (names_of old) (names (given_out a)) n h.after
stepped old n e a faults new h b =
    takes_once (names_of old) n h.before e a h.after h.takes (b n h.before h.there)

router_others : (old : Nodes) (n : ℕ) (e : NodeEvent) (a : NodeAnswer) (faults : ℕ) (new : Nodes)
    (h : RouterSteps old n e a faults new) (s : Stepped (names_of old) (names (given_out a)) n
    h.after) (number : ℕ) → Apart n number
    → (x : Named) → Contains (names_of old ++ names (given_out a)) x → x.tag.router ≡ number
    → Contains (names_of old) x
router_others old n e a faults new h s number apart x c r =
    elim (Contains-append_cases (names_of old) (names (given_out a)) x c) [
      | inl w ↦ w
      | inr w ↦ absurd (apart.apart (sym ((s.once.drawn x (s.each x w)).router ∙ s.once.own) ∙ r))
    ]

router_step_once : (old : Nodes) (n : ℕ) (e : NodeEvent) (a : NodeAnswer) (faults : ℕ) (new : Nodes)
    → RouterSteps old n e a faults new → AllBegunOnce old → AllBegunOnce new
router_step_once old n e a faults new h b =
    let s = stepped old n e a faults new h b in
    let is = sent_names old new (given_out a) (ap (λ (w : Nodes). w.sent) h.nodes) in
    let all = one_set (λ number r. BegunOnce (names_of old ++ names (given_out a)) number r)
    old.routers n h.before h.after h.there s.once
    (λ number r apart e'. names_stay (names_of old) (names_of old ++ names (given_out a)) number r
    (router_others old n e a faults new h s number apart) (b number r e')) in
    λ number r e'. subst (λ (ns : List Named). BegunOnce ns number r) (sym is)
    (all number r (sym (ap (λ (w : Nodes). slice_get w.routers number) h.nodes) ∙ e'))

drawn_later : (r t : RouterState) (tag : Tag) → t.boot ≡ r.boot → r.serial ≤ t.serial
    → WasDrawn r tag → WasDrawn t tag
drawn_later r t tag b s (inl h) = inl (omega (arith, b, h))
drawn_later r t tag b s (inr h) = inr (h.0 ∙ sym b, omega (arith, s, h.1))

-- a step keeps the boot, and no serial goes back
leaves_later : (r t : RouterState) (o : Option Named) → Leaves r t o
    → (t.boot ≡ r.boot) × (r.serial ≤ t.serial)
leaves_later r t None l = (l.boot, omega (arith, l.serial))
leaves_later r t (Some x) l = (l.boot, omega (arith, l.serial))

takes_later : (r : RouterState) (e : NodeEvent) (a : NodeAnswer) (t : RouterState)
    → RouterTakes r e a t → (t.boot ≡ r.boot) × (r.serial ≤ t.serial)
takes_later r e a t h = subst (λ (x : RouterState). (x.boot ≡ r.boot) × (r.serial ≤ x.serial))
    (sym h.2) (leaves_later r (router_step h.0 r e).state (begins h.0 r e) (step_leaves h.0 r e))

router_goes : (old : Nodes) (n : ℕ) (e : NodeEvent) (a : NodeAnswer) (faults : ℕ) (new : Nodes)
    → RouterSteps old n e a faults new → GoOn old new
router_goes old n e a faults new h i r x =
    let later = takes_later h.before e a h.after h.takes in
    elim (set_get old.routers n i h.after r x) [
      | inl w ↦
          let is : r ≡ h.before = some_same r h.before (sym x
          ∙ ap (λ (k : ℕ). slice_get old.routers k) w.0 ∙ h.there) in (
            h.after,
            ap (λ (w : Nodes). slice_get w.routers i) h.nodes ∙ w.1,
            λ tag d. drawn_later h.before h.after tag later.0 later.1
                (subst (λ (r : RouterState). WasDrawn r tag) is d),
          )
      | inr w ↦ (r, ap (λ (w : Nodes). slice_get w.routers i) h.nodes ∙ w, λ tag d. d)
    ]

-- names of which one is new are of what the router began in this boot
both_begun : (sent new : List Named) (number : ℕ) (t : RouterState) (s : Stepped sent new number
    t) (a b : Named) → Contains new a → Contains (sent ++ new) b → b.tag.router ≡ a.tag.router
    → b.tag.boot ≡ a.tag.boot → Contains s.once.begun b
both_begun sent new number t s a b ha hb router boot =
    let d = s.once.drawn a (s.each a ha) in
    s.once.named b hb (router ∙ d.router ∙ s.once.own) (boot ∙ d.boot)

router_step_tags : (old : Nodes) (n : ℕ) (e : NodeEvent) (a : NodeAnswer) (faults : ℕ) (new : Nodes)
    → RouterSteps old n e a faults new → AllBegunOnce old → TagsBegunOnce old → TagsBegunOnce new
router_step_tags old n e a faults new h b t =
    let s = stepped old n e a faults new h b in
    let out = names (given_out a) in
    let is = sent_names old new (given_out a) (ap (λ (w : Nodes). w.sent) h.nodes) in
    let all : (x : Named) → Contains (names_of new) x → Contains (names_of old ++ out) x =
    λ x k. subst (λ (ns : List Named). Contains ns x) is k in
    record {
      one_begin = λ x y hx hy same.
          elim (Contains-append_cases (names_of old) out x (all x hx)) [
            | inr p ↦ s.once.once x y (s.each x p)
                (both_begun (names_of old) out n h.after s x y p (all y hy)
                (ap (λ (g : Tag). g.router) (sym same)) (ap (λ (g : Tag). g.boot) (sym same))) same
            | inl p ↦ elim (Contains-append_cases (names_of old) out y (all y hy)) [
              | inr q ↦ s.once.once x y (both_begun (names_of old) out n h.after s y x q
                  (all x hx) (ap (λ (g : Tag). g.router) same) (ap (λ (g : Tag). g.boot) same))
                  (s.each y q) same
              | inl q ↦ t.one_begin x y p q same
            ]
          ];
      drawn = λ x hx.
          elim (Contains-append_cases (names_of old) out x (all x hx)) [
            | inl p ↦ (let d = t.drawn x p in let g = router_goes old n e a faults new h
                x.tag.router d.0 d.1 in (g.0, g.1, g.2 x.tag d.2))
            | inr p ↦
                (let d = s.once.drawn x (s.each x p) in
                let at : x.tag.router ≡ n = d.router ∙ s.once.own in (
                  h.after,
                  ap (slice_get new.routers) at ∙ ap (λ (w : Nodes). slice_get w.routers n) h.nodes
                      ∙ set_there old.routers n h.after h.before h.there,
                  inr (d.boot, d.serial),
                ))
          ];
      one_tag = λ x y hx hy l k router boot.
          elim (Contains-append_cases (names_of old) out x (all x hx)) [
            | inr p ↦ s.once.one_tag x y (s.each x p) (both_begun (names_of old) out n h.after s x y
                p (all y hy) (sym router) (sym boot)) l k
            | inl p ↦ elim (Contains-append_cases (names_of old) out y (all y hy)) [
              | inr q ↦ s.once.one_tag x y (both_begun (names_of old) out n h.after s y x q
                  (all x hx) router boot) (s.each y q) l k
              | inl q ↦ t.one_tag x y p q l k router boot
            ]
          ];
    }

-- a router that starts again has begun nothing in its new boot

not_drawn : (before : RouterState) (n : ℕ) (tag : Tag) → WasDrawn before tag
    → tag.boot ≡ (again n before).boot → ⊥
not_drawn before n tag (inl h) e = absurd (omega (arith, h, e))
not_drawn before n tag (inr h) e = let same : tag.boot ≡ before.boot = h.0 in
    absurd (omega (arith, same, e))

none_has : (x : Named) → Contains [] x → ⊥
none_has x h = absurd (omega (arith, h.1))

starts_once : (old : Nodes) (n : ℕ) (before : RouterState) → slice_get old.routers n ≡ Some before
    → TagsBegunOnce old → BegunOnce (names_of old) n (again n before)
starts_once old n before there t = record {
  own = refl;
  begun = [];
  sessions = All-nil (EntryNames (Contains []));
  named = λ x h router boot.
      let d = t.drawn x h in
      let is : d.0 ≡ before =
      some_same d.0 before (sym d.1 ∙ ap (slice_get old.routers) router ∙ there) in
      absurd (not_drawn before n x.tag (subst (λ (r : RouterState). WasDrawn r x.tag) is d.2) boot);
  drawn = λ x h. absurd (none_has x h);
  come = λ x h. absurd (none_has x h);
  once = λ x y h k. absurd (none_has x h);
  one_tag = λ x y h k. absurd (none_has x h);
}

pub once_step : (old : Nodes) (ran : Ran) (new : Nodes) → Happens old ran new → AllPlansNamed old
    → TagsBegunOnce old → AllBegunOnce old → AllBegunOnce new
once_step old (Step (Shard n) e a faults) new h c t b =
    λ number s x. names_stay (names_of old) (names_of new) number s
    (λ y k r. back_sent old new (given_out a) (ap (λ (w : Nodes). w.sent) h.nodes)
    (names_back old n e a h.before h.after h.there h.comes h.takes c).1 y k)
    (b number s (same_list old new (ap (λ (w : Nodes). w.routers) h.nodes) number s x))
once_step old (Step (Router n) e a faults) new h c t b = router_step_once old n e a faults new h b
once_step old (Swapped (Shard n)) new h c t b =
    λ number s x. names_stay (names_of old) (names_of new) number s
    (λ y k r. same_back old new (ap (λ (w : Nodes). w.sent) h.nodes) y k)
    (b number s (same_list old new (ap (λ (w : Nodes). w.routers) h.nodes) number s x))
once_step old (Swapped (Router n)) new h c t b =
    λ number s x. names_stay (names_of old) (names_of new) number s
    (λ y k r. same_back old new (ap (λ (w : Nodes). w.sent) h.nodes) y k)
    (one_set (λ number r. BegunOnce (names_of old) number r) old.routers n
    h.before (again n h.before) h.there (starts_once old n h.before h.there t)
    (λ number r apart e'. b number r e') number s
    (sym (ap (λ (w : Nodes). slice_get w.routers number) h.nodes) ∙ x))

pub tags_all : (old : Nodes) (ran : Ran) (new : Nodes) → Happens old ran new → AllPlansNamed old
    → AllBegunOnce old → TagsBegunOnce old → TagsBegunOnce new
tags_all old (Step (Shard n) e a faults) new h c b t = tags_shard old n e a faults new h c t
tags_all old (Step (Router n) e a faults) new h c b t = router_step_tags old n e a faults new h b t
tags_all old (Swapped (Shard n)) new h c b t = tags_shard_start old n new h t
tags_all old (Swapped (Router n)) new h c b t = tags_router_start old n new h t

-- At a start.

none_named : (nodes : Nodes) → nodes.sent ≡ [] → (x : Named) → Contains (names_of nodes) x → ⊥
none_named nodes is x h =
    none_has x (subst (λ (sent : List Envelope). Contains (names sent) x) is h)

fresh_once : (chunks : Map) (nodes : Nodes) (number boot : ℕ) → nodes.sent ≡ []
    → BegunOnce (names_of nodes) number (fresh_router number boot chunks)
fresh_once chunks nodes number boot is = record {
  own = refl;
  begun = [];
  sessions = All-nil (EntryNames (Contains []));
  named = λ x h router boot'. absurd (none_named nodes is x h);
  drawn = λ x h. absurd (none_has x h);
  come = λ x h. absurd (none_has x h);
  once = λ x y h k. absurd (none_has x h);
  one_tag = λ x y h k. absurd (none_has x h);
}

pub once_fresh : (chunks : Map) (nodes : Nodes) → IsFresh chunks nodes → AllBegunOnce nodes
once_fresh chunks nodes h number s e = let r = h.routers number s e in
    subst (BegunOnce (names_of nodes) number) (sym r.1) (fresh_once chunks nodes number r.0 h.sent)

pub tags_fresh : (chunks : Map) (nodes : Nodes) → IsFresh chunks nodes → TagsBegunOnce nodes
tags_fresh chunks nodes h = record {
  one_begin = λ x y p q. absurd (none_named nodes h.sent x p);
  drawn = λ x p. absurd (none_named nodes h.sent x p);
  one_tag = λ x y p q. absurd (none_named nodes h.sent x p);
}
