-- A transaction that its router has as aborted, behind its commit, and of which it knows no write,
-- isn't in the list of commits: what is committed wrote, and the router was told so.
use Rattle.std.proofs.Common.{◌≡◌, ◌⊎◌, inl, inr, ◌<◌, ◌++◌, ℕ, zero, suc, Bool, true, false, List}
use Rattle.std.proofs.Common.{[], ◌∷◌, Some, None, refl, sym, ap, subst, ◌∙◌, arith}
use Rattle.std.specs.Prelude.{Contains, IsOk, slice_get}
use Rattle.std.proofs.lemmas.List.Elements.{All-contains_itself}
use Rattle.std.proofs.lemmas.List.{append_assoc}
use Rattle.txn_types.specs.Order.{same_tag}
use Rattle.txn_types.specs.declared.message.Commit.{Commit}
use Rattle.txn_types.specs.declared.message.Envelope.{Envelope}
use Rattle.txn_types.specs.declared.message.Msg.{Msg}
use Rattle.txn_types.specs.declared.message.Msg.TheVariants as msg
use Rattle.txn_types.specs.declared.names.Tag.{Tag}
use Rattle.participant.proofs.Tags.{tag_self, tag_same}
use Rattle.chunk_map.specs.Map.{Map, IsMap}
use Rattle.txn_model.specs.Commits.{has_entry}
use Rattle.txn_model.specs.declared.ran.Ran.{Ran}
use Rattle.cluster_core.specs.Answering.{Unanswered}
use Rattle.cluster_core.specs.Nodes.{Nodes, commits_of}
use Rattle.cluster_core.specs.Trace.{IsTrace}
use Rattle.world_laws.proofs.Lists.{at_place}
use Rattle.answer_laws.proofs.Lists.{has_first, has_more}
use Rattle.told_laws.proofs.Lists.{none_there, has_cases}
use Rattle.one_shard_laws.specs.Concluding.{StartsAlone}
use Rattle.chain_laws.specs.Completing.{completed_in}
use Rattle.decision_laws.specs.Ends.{WasSent, NoneSent, IsAborted}
use Rattle.decision_laws.proofs.Flagged.{replies_agree, committed_told_write}
use Rattle.decision_laws.proofs.Lost.{trace_on, lost_never}
use Rattle.right_laws.specs.Grounds.{IsWriteless}
use Rattle.right_laws.specs.Knowing.{TellsWrite, PhaseKnowsWrites, DoingKnowsWrites}
use Rattle.right_laws.proofs.Writes.Boots.{was_served, lives, answered_one, replied, same_boot}
use Rattle.right_laws.proofs.Writes.Running.{all_stood, was_done}

-- Whether a request to commit a transaction was sent.

abbrev Commits : List Envelope → Tag → Type 0
Commits sent tag = (c : Commit) × WasSent sent c × (c.tag ≡ tag)

first_commit : (e : Envelope) (sent : List Envelope) (tag : Tag) (c : Commit) → e.msg ≡ msg.Commit c
    → NoneSent sent tag → Commits (e ∷ sent) tag ⊎ NoneSent (e ∷ sent) tag
first_commit e sent tag c is none = by (same_tag c.tag tag) refl
  where
    same_commit : (a b : Commit) → msg.Commit a ≡ msg.Commit b → a ≡ b
    same_commit a b eq = cc

    by : (test : Bool) → same_tag c.tag tag ≡ test
        → Commits (e ∷ sent) tag ⊎ NoneSent (e ∷ sent) tag
    by true same = inl (c, (e, has_first e sent, is), tag_same c.tag tag same)
    by false other = inr (λ d was tags. elim (has_cases e sent was.0 was.1) [
      | inl here ↦
          let commits : msg.Commit c ≡ msg.Commit d =
          sym is ∙ ap (λ (x : Envelope). x.msg) (sym here) ∙ was.2 in
          let yes : same_tag c.tag tag ≡ true = ap (λ (x : Commit). same_tag x.tag tag)
          (same_commit c d commits) ∙ ap (λ (x : Tag). same_tag x tag) tags ∙ tag_self tag in
          let no : true ≡ false = sym yes ∙ other in
          absurd (grind (arith, no))
      | inr there ↦ none d (was.0, there, was.2) tags
    ])

no_commit : (e : Envelope) (sent : List Envelope) (tag : Tag)
    → ((c : Commit) → e.msg ≡ msg.Commit c → ⊥) → NoneSent sent tag → NoneSent (e ∷ sent) tag
no_commit e sent tag not_it none d was tags =
    elim (has_cases e sent was.0 was.1) [
      | inl here ↦ not_it d (ap (λ (x : Envelope). x.msg) (sym here) ∙ was.2)
      | inr there ↦ none d (was.0, there, was.2) tags
    ]

sent_or_not : (sent : List Envelope) (tag : Tag) → Commits sent tag ⊎ NoneSent sent tag
sent_or_not [] tag = inr (λ c was same. none_there was.0 was.1)
sent_or_not (e ∷ sent) tag = elim (sent_or_not sent tag) [
  | inl w ↦ inl (w.0, (w.1.0, has_more e sent w.1.0 w.1.1, w.1.2), w.2)
  | inr none ↦ by e.msg refl none
]
  where
    by : (m : Msg) → e.msg ≡ m → NoneSent sent tag
        → Commits (e ∷ sent) tag ⊎ NoneSent (e ∷ sent) tag
    by (msg.Commit c) is none = first_commit e sent tag c is none
    by other is none =
        inr (no_commit e sent tag (λ c at.
        let no : other ≡ msg.Commit c = sym is ∙ at in cc) none)

module _ (chunks : Map) (is : IsMap chunks) (start : Nodes) (h : StartsAlone chunks start)
    (now : Nodes) where
  -- A state in a run.

  record Split (run : List Ran) (nodes : Nodes) : Type 0 where
    before : List Ran
    behind : List Nodes
    rest : List Ran
    later : List Nodes
    first : IsTrace start before behind nodes
    more : IsTrace nodes rest later now
    whole : before ++ rest ≡ run

  some_nodes : (a b : Nodes) → Some a ≡ Some b → a ≡ b
  some_nodes a b e = cc

  split_here : (before : List Ran) (behind : List Nodes) (old : Nodes) (run : List Ran)
      (trace : List Nodes) (nodes : Nodes) → IsTrace start before behind old
      → IsTrace old run trace now → old ≡ nodes → Split (before ++ run) nodes
  split_here before behind old run trace nodes k more same = record {
    before = before;
    behind = behind;
    rest = run;
    later = trace;
    first = subst (IsTrace start before behind) same k;
    more = subst (λ (x : Nodes). IsTrace x run trace now) same more;
    whole = refl;
  }

  split_from : (before : List Ran) (behind : List Nodes) (old : Nodes) (run : List Ran)
      (trace : List Nodes) → IsTrace start before behind old → IsTrace old run trace now
      → (i : ℕ) (nodes : Nodes) → slice_get (trace ++ now ∷ []) i ≡ Some nodes
      → Split (before ++ run) nodes
  split_from before behind old [] [] k more zero nodes at =
      split_here before behind old [] [] nodes k more (sym more ∙ some_nodes now nodes at)
  split_from before behind old [] [] k more (suc i) nodes at =
      let no : None ≡ Some nodes = at in cc
  split_from before behind old [] (x ∷ trace) k more i nodes at = absurd more
  split_from before behind old (ran ∷ run) [] k more i nodes at = absurd more
  split_from before behind old (ran ∷ run) (x ∷ trace) k more zero nodes at =
      split_here before behind old (ran ∷ run) (x ∷ trace) nodes k more
      (sym more.0 ∙ some_nodes x nodes at)
  split_from before behind old (ran ∷ run) (x ∷ trace) k more (suc i) nodes at =
      subst (λ (l : List Ran). Split l nodes) (append_assoc before (ran ∷ []) run)
      (split_from (before ++ ran ∷ []) (behind ++ old ∷ []) more.1.0 run trace
      (trace_on start before behind old ran more.1.0 k more.1.1) more.1.2 i nodes at)

  module _ (run : List Ran) (trace : List Nodes) (k : IsTrace start run trace now) where
    abbrev done : List Unanswered
    done = completed_in start.routers run

    -- a statement of what is committed was completed, and its Answer tells of a write
    told_so : (tag : Tag) → has_entry (commits_of now) tag ≡ true
        → (u : Unanswered) × Contains done u × (u.tag ≡ tag) × TellsWrite u
    told_so tag there =
        let t = committed_told_write chunks start run trace now is h k tag there in
        let c = t.0 in
        let a = t.3.answer in
        let e = t.3.was in
        let w = was_served chunks is start h run trace now k c t.1 a e.0 (t.3.reply, true) e.1 e.2
        t.3.outcome in
        let u = answered_one chunks is start h run trace now k c t.1 a w (t.3.tag_is ∙ sym t.2) in
        let r = replied chunks is start h run trace now k c t.1 u.0 u.1 u.2 in
        let last = (all_stood chunks is start h run trace now k).last c t.1 in
        let pos : 0 < c.boot = subst (λ (n : ℕ). 0 < n) t.3.boot_is
        (lives chunks is start h run trace now k c t.1 a w) in
        let boot = same_boot chunks is start h run trace now k c t.1 last.0 last.1 pos u.0 u.1 u.2
        r in
        let alike = replies_agree chunks start run trace now is h k r.answer a
        (r.envelope, r.sent, r.msg) e (r.tag ∙ u.2 ∙ t.2 ∙ sym t.3.tag_is) (r.k ∙ u.3)
        (boot ∙ sym t.3.boot_is) (subst IsOk (sym r.outcome) refl)
        (subst IsOk (sym t.3.outcome) refl) in
        (u.0, u.1, u.2 ∙ t.2, (r.answer, r.answers, (t.3.reply, alike ∙ t.3.outcome)))

    -- its router would know
    never : (tag : Tag) → (w : IsWriteless (trace ++ now ∷ []) tag)
        → has_entry (commits_of now) tag ≡ true → Commits w.nodes.sent tag → ⊥
    never tag w there was =
        let s = split_from [] [] start run trace refl k w.place w.nodes w.at in
        let u = told_so tag there in
        let earlier =
        was_done chunks is start h s.before s.behind w.nodes s.rest s.later now s.first
        s.more was.0 was.1 u.0
        (subst (λ (l : List Ran). Contains (completed_in start.routers l) u.0) (sym s.whole) u.1)
        (u.2 ∙ sym was.2) u.3 in
        let stood = all_stood chunks is start h s.before s.behind w.nodes s.first in
        let doing = subst (DoingKnowsWrites (completed_in start.routers s.before) w.nodes.sent)
        w.doing (stood.knows w.n w.router w.there w.lsid w.session w.in_it) in
        let phase = subst (PhaseKnowsWrites (completed_in start.routers s.before) w.nodes.sent
        w.t.tag w.t.wrote) w.aborted doing in
        phase was.0 was.1 (was.2 ∙ sym w.of) u.0 earlier (u.2 ∙ sym w.of) u.3 w.wrote

    pub writeless : (tag : Tag) → IsWriteless (trace ++ now ∷ []) tag
        → has_entry (commits_of now) tag ≡ false
    writeless tag w = by (has_entry (commits_of now) tag) refl
      where
        by : (test : Bool) → has_entry (commits_of now) tag ≡ test
            → has_entry (commits_of now) tag ≡ false
        by false there = there
        by true there = elim (sent_or_not w.nodes.sent tag) [
          | inl was ↦ absurd (never tag w there was)
          | inr none ↦ lost_never chunks start run trace now is h k w.nodes tag
              (at_place (Contains (trace ++ now ∷ [])) (trace ++ now ∷ []) w.place w.nodes
              (All-contains_itself (trace ++ now ∷ [])) w.at)
              (record {
                n = w.n;
                router = w.router;
                there = w.there;
                lsid = w.lsid;
                session = w.session;
                in_it = w.in_it;
                t = w.t;
                doing = w.doing;
                tag_is = w.of;
                aborted = subst IsAborted (sym w.aborted) tt;
                unsent = none;
              })
        ]
