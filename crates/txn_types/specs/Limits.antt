-- Limits of documents, statements and transactions, which all crates above share.
use Rattle.std.specs.Prelude.{ℕ}

-- a document that is stored has at most so many bytes, as on MongoDB's servers
abbrev pub most_stored : ℕ
most_stored = 16777216

-- the documents of a find's reply have at most so many bytes together, the first apart
abbrev pub most_found : ℕ
most_found = 16000000

-- a list in a command, of items or of sessions, has at most so many, as on MongoDB's servers
abbrev pub most_batch : ℕ
most_batch = 100000

-- a transaction's writes on one shard have at most so many bytes
abbrev pub most_written : ℕ
most_written = 100000000
