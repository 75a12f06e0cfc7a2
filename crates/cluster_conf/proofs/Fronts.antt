-- Lists that are read value by value: what was read so far, in front of what is read of the rest.
use Rattle.std.proofs.Common.{◌≡◌, ℕ, ◌+◌, ◌<◌, List, [], ◌∷◌, ◌++◌, length, get_or, drop, Option}
use Rattle.std.proofs.Common.{Some, None, Result, Ok, Err, refl, ap, sym, ◌∙◌, append_assoc}
use Rattle.outcomes.specs.Bind.{◌>>=◌}
use Rattle.toml.specs.Data.{Items}
use Rattle.toml.specs.View.{view, items_view}
use Rattle.toml.specs.declared.value.Value.{Value}
use Rattle.toml.proofs.Views.{items_view-drop}
use Rattle.chunk_map.specs.declared.map.ChunkRow.{ChunkRow}
use Rattle.cluster_conf.specs.declared.conf.ConfErr.{ConfErr}
use Rattle.cluster_conf.specs.Conf.{text_in, with_text, texts_of, row_of, rows_of}

abbrev pub with_texts : List (List ℕ) → Option (List (List ℕ)) → Option (List (List ℕ))
with_texts front None = None
with_texts front (Some texts) = Some (front ++ texts)

text_case : (front : List (List ℕ)) (text : List ℕ) (o : Option (List (List ℕ)))
    → with_texts (front ++ text ∷ []) o ≡ with_texts front (with_text (Some text) o)
text_case front text None = refl
text_case front text (Some texts) = ap Some (append_assoc front (text ∷ []) texts)

-- a value that is a text goes in front
pub text_next : (front : List (List ℕ)) (text : List ℕ) (vs : List Value) (i : ℕ) (v : Value)
    → v ≡ get_or vs i v → i < length vs → text_in (view v) ≡ Some text
    → with_texts (front ++ text ∷ []) (texts_of (items_view (drop (i + 1) vs)))
    ≡ with_texts front (texts_of (items_view (drop i vs)))
text_next front text vs i v e h is =
    text_case front text (texts_of (items_view (drop (i + 1) vs)))
    ∙ ap (λ o. with_texts front (with_text o (texts_of (items_view (drop (i + 1) vs)))))
    (sym is ∙ ap (λ (w : Value). text_in (view w)) e)
    ∙ ap (λ (items : Items). with_texts front (texts_of items)) (sym (items_view-drop vs i v h))

-- at a value that is none, there are no texts
pub text_stops : (front : List (List ℕ)) (vs : List Value) (i : ℕ) (v : Value) → v ≡ get_or vs i v
    → i < length vs → text_in (view v) ≡ None
    → with_texts front (texts_of (items_view (drop i vs))) ≡ None
text_stops front vs i v e h is =
    ap (λ (items : Items). with_texts front (texts_of items)) (items_view-drop vs i v h)
    ∙ ap (λ o. with_texts front (with_text o (texts_of (items_view (drop (i + 1) vs)))))
    (ap (λ (w : Value). text_in (view w)) (sym e) ∙ is)

abbrev pub with_rows : List ChunkRow → Result (List ChunkRow) ConfErr
    → Result (List ChunkRow) ConfErr
with_rows front (Ok rows) = Ok (front ++ rows)
with_rows front (Err e) = Err e

abbrev row_then : Result ChunkRow ConfErr → Result (List ChunkRow) ConfErr
    → Result (List ChunkRow) ConfErr
row_then row rest = row >>= λ row. rest >>= λ rows. Ok (row ∷ rows)

row_case : (front : List ChunkRow) (row : ChunkRow) (r : Result (List ChunkRow) ConfErr)
    → with_rows (front ++ row ∷ []) r ≡ with_rows front (row_then (Ok row) r)
row_case front row (Ok rows) = ap Ok (append_assoc front (row ∷ []) rows)
row_case front row (Err e) = refl

-- a value that is a row goes in front
pub row_next : (front : List ChunkRow) (row : ChunkRow) (vs : List Value) (i : ℕ) (v : Value)
    → v ≡ get_or vs i v → i < length vs → row_of (view v) ≡ Ok row
    → with_rows (front ++ row ∷ []) (rows_of (items_view (drop (i + 1) vs)))
    ≡ with_rows front (rows_of (items_view (drop i vs)))
row_next front row vs i v e h is =
    row_case front row (rows_of (items_view (drop (i + 1) vs)))
    ∙ ap (λ r. with_rows front (row_then r (rows_of (items_view (drop (i + 1) vs)))))
    (sym is ∙ ap (λ (w : Value). row_of (view w)) e)
    ∙ ap (λ (items : Items). with_rows front (rows_of items)) (sym (items_view-drop vs i v h))

-- the first value at fault decides
pub row_stops : (front : List ChunkRow) (error : ConfErr) (vs : List Value) (i : ℕ) (v : Value)
    → v ≡ get_or vs i v → i < length vs → row_of (view v) ≡ Err error
    → with_rows front (rows_of (items_view (drop i vs))) ≡ Err error
row_stops front error vs i v e h is =
    ap (λ (items : Items). with_rows front (rows_of items)) (items_view-drop vs i v h)
    ∙ ap (λ r. with_rows front (row_then r (rows_of (items_view (drop (i + 1) vs)))))
    (ap (λ (w : Value). row_of (view w)) (sym e) ∙ is)
