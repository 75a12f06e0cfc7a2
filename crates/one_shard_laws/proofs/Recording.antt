-- The records of a shard that commits alone, with one more.
use Rattle.std.proofs.Common.{◌≡◌, ◌<◌, ◌≤ℤ◌, ℕ, ℤ, List, [], ◌∷◌, ◌++◌, All, Some, refl, ap, subst}
use Rattle.std.proofs.Common.{◌∙◌, sym}
use Rattle.std.proofs.lemmas.List.Elements.{All-nil, All-append, All-weaker}
use Rattle.txn_types.specs.declared.names.Tag.{Tag}
use Rattle.txn_types.specs.declared.node.Lsid.{Lsid}
use Rattle.txn_types.specs.declared.write.Write.{Write}
use Rattle.txn_semantics.specs.declared.commits.Entry.{Entry}
use Rattle.session_table.specs.Sessions.{Table, session_of}
use Rattle.session_table.specs.declared.session.Session.{Session}
use Rattle.session_table.specs.declared.session.SessionState.TheVariants as state
use Rattle.journal_rec.specs.declared.record.Rec.{Rec}
use Rattle.journal_rec.specs.declared.record.Rec.TheVariants as rec
use Rattle.shard_image.specs.Image.{Image, image_of, with_record}
use Rattle.participant.proofs.Moving.{entry_here}
use Rattle.part_laws.specs.Each.{Each}
use Rattle.durable_laws.proofs.Facts.{image_append}
use Rattle.txn_model.specs.Commits.{commits}
use Rattle.txn_types.specs.Letters.{Named}
use Rattle.one_shard_laws.specs.Sessions.{SessionsNamed, TablesGo, IsHeld}
use Rattle.one_shard_laws.specs.Alone.{RecAlone}
use Rattle.one_shard_laws.specs.Lasting.{commits_by, RecordsAlone}
use Rattle.one_shard_laws.proofs.Sessions.{least_same, least_then, put_table}
use Rattle.world_laws.proofs.Naming.{one}
use Rattle.one_shard_laws.proofs.Listing.{each_more, each_last, ceiling_more, boot_more}
use Rattle.one_shard_laws.proofs.Listing.{commit_more}

pub held_on : (P : Named → Type 0) (old new : Table) → TablesGo P old new → (tag : Tag)
    → IsHeld P old tag → IsHeld P new tag
held_on P old new go tag h =
    let stands = h.3 in
    let next = go.numbers h.0.lsid stands.0 stands.1 in (
      h.0,
      h.1,
      h.2,
      (next.0, next.1, least_then h.0.number stands.0.number next.0.number stands.2 next.2),
    )

pub held_named : (P Q : Named → Type 0) → ((x : Named) → P x → Q x) → (table : Table) (tag : Tag)
    → IsHeld P table tag → IsHeld Q table tag
held_named P Q f table tag h = (h.0, f h.0 h.1, h.2, h.3)

rec_named : (P Q : Named → Type 0) → ((x : Named) → P x → Q x) → (r : Rec) → RecAlone P r
    → RecAlone Q r
rec_named P Q f (rec.Boot boot) h = tt
rec_named P Q f (rec.Ceiling bound) h = tt
rec_named P Q f (rec.Commit tag lsid number read_at at writes) h =
    f (record { tag = tag; lsid = lsid; number = number }) h
rec_named P Q f (rec.Prepared tag lsid number boot read_at at coordinator writes) h = absurd h
rec_named P Q f (rec.Decided d) h = absurd h
rec_named P Q f (rec.CoordStart tag lsid number parts) h = absurd h
rec_named P Q f (rec.CoordDecision tag d) h = absurd h
rec_named P Q f (rec.CoordEnd tag) h = absurd h
rec_named P Q f (rec.Floor floor) h = absurd h

-- where more is named
pub alone_named : (P Q : Named → Type 0) → ((x : Named) → P x → Q x) → (recs : List Rec)
    → RecordsAlone P recs → RecordsAlone Q recs
alone_named P Q f recs h =
    record {
      records = All-weaker (RecAlone P) (RecAlone Q) (rec_named P Q f) recs h.records;
      coord = h.coord;
      named = λ lsid s there. f _ (h.named lsid s there);
      held = each_more (λ (e : Entry). IsHeld P (image_of recs).sessions e.tag) (λ (e : Entry).
          IsHeld Q (image_of recs).sessions e.tag) (λ e k. held_named P Q f (image_of recs).sessions
          e.tag k) (commits_by recs) h.held;
    }

pub no_commits : commits_by [] ≡ []
unfolding commits
no_commits = refl

-- none at all
pub none_alone : (P : Named → Type 0) → RecordsAlone P []
unfolding image_of
none_alone P =
    record {
      records = All-nil (RecAlone P);
      coord = refl;
      named = λ lsid s there. cc;
      held =
          subst (Each (λ (e : Entry). IsHeld P (image_of []).sessions e.tag)) (sym no_commits) tt;
    }

module _ (P : Named → Type 0) (recs : List Rec) (h : RecordsAlone P recs) (r : Rec) where
  abbrev all : List Rec
  all = recs ++ r ∷ []

  image_is : image_of all ≡ with_record (image_of recs) r
  image_is = image_append recs (r ∷ [])

  records_more : RecAlone P r → All (RecAlone P) all
  records_more k = All-append (RecAlone P) recs (r ∷ []) h.records (one (RecAlone P) r k)

  -- a record that leaves sessions and commits alone
  pub same_alone : RecAlone P r → (with_record (image_of recs) r).coord ≡ (image_of recs).coord
      → (with_record (image_of recs) r).sessions ≡ (image_of recs).sessions
      → commits_by all ≡ commits_by recs → RecordsAlone P all
  same_alone k coord sessions commits =
      let now : (image_of all).sessions ≡ (image_of recs).sessions =
      ap (λ (i : Image). i.sessions) image_is ∙ sessions in
      record {
        records = records_more k;
        coord = ap (λ (i : Image). i.coord) image_is ∙ coord ∙ h.coord;
        named = subst (SessionsNamed P) (sym now) h.named;
        held = subst (λ (es : List Entry).
            Each (λ (e : Entry). IsHeld P (image_of all).sessions e.tag) es) (sym commits)
            (subst (λ (t : Table). Each (λ (e : Entry). IsHeld P t e.tag) (commits_by recs))
            (sym now) h.held);
      }

pub ceiling_alone : (P : Named → Type 0) (recs : List Rec) → RecordsAlone P recs → (bound : ℕ)
    → RecordsAlone P (recs ++ rec.Ceiling bound ∷ [])
ceiling_alone P recs h bound =
    same_alone P recs h (rec.Ceiling bound) tt refl refl (ceiling_more recs bound)

pub boot_alone : (P : Named → Type 0) (recs : List Rec) → RecordsAlone P recs → (boot : ℕ)
    → RecordsAlone P (recs ++ rec.Boot boot ∷ [])
boot_alone P recs h boot = same_alone P recs h (rec.Boot boot) tt refl refl (boot_more recs boot)

pub commit_alone : (P : Named → Type 0) (recs : List Rec) → RecordsAlone P recs
    → (tag : Tag) (lsid : Lsid) (number : ℤ) (read_at at : ℕ) (writes : List Write)
    → P (record { tag = tag; lsid = lsid; number = number })
    → ((s : Session) → session_of (image_of recs).sessions lsid ≡ Some s → s.number ≤ℤ number)
    → Each (λ (e : Entry). e.at < at) (commits_by recs)
    → RecordsAlone P (recs ++ rec.Commit tag lsid number read_at at writes ∷ [])
commit_alone P recs h tag lsid number read_at at writes named fits below =
    let r = rec.Commit tag lsid number read_at at writes in
    let all = recs ++ r ∷ [] in
    let i = image_of recs in
    let is : image_of all ≡ with_record i r = image_append recs (r ∷ []) in
    let new : Session = record { number = number; tag = tag; state = state.Committed at } in
    let go : TablesGo P i.sessions (image_of all).sessions = put_table P i.sessions
    (image_of all).sessions lsid new (ap (λ (j : Image). j.sessions) is) fits (λ any. named) in
    let e : Entry = record { tag = tag; read_at = read_at; at = at; writes = writes } in
    let mine : IsHeld P (image_of all).sessions tag = (
      record { tag = tag; lsid = lsid; number = number },
      named,
      refl,
      (
        new,
        ap (λ (j : Image). session_of j.sessions lsid) is ∙ entry_here lsid new i.sessions.entries,
        least_same number,
      ),
    ) in
    record {
      records = All-append (RecAlone P) recs (r ∷ []) h.records (one (RecAlone P) r named);
      coord = ap (λ (j : Image). j.coord) is ∙ h.coord;
      named = go.named h.named;
      held = subst (Each (λ (e : Entry). IsHeld P (image_of all).sessions e.tag))
          (sym (commit_more recs tag lsid number read_at at writes below))
          (each_last (λ (e : Entry). IsHeld P (image_of all).sessions e.tag) (commits_by recs) e
          (each_more (λ (f : Entry). IsHeld P i.sessions f.tag)
          (λ (f : Entry). IsHeld P (image_of all).sessions f.tag) (λ f k. held_on P i.sessions
          (image_of all).sessions go f.tag k) (commits_by recs) h.held) mine);
    }
