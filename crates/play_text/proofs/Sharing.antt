-- Writes by rising shard are the shares of the shards, one after the other.
use Rattle.std.proofs.Common.{◌≡◌, ℕ, ◌+◌, ◌-◌, ◌<◌, ◌≤◌, max, Bool, true, false, cond, zero, suc}
use Rattle.std.proofs.Common.{List, [], ◌∷◌, ◌++◌, filter, refl, ap, ◌∙◌, arith, nat_eq, nat_lt}
use Rattle.std.proofs.Common.{if◌then◌else◌}
use Rattle.std.specs.List.{flat_map, range_with_len}
use Rattle.std.specs.Ordering.{nat_cmp, is_lt}
use Rattle.std.proofs.lemmas.Bool.{eqb-true, ne_eqb}
use Rattle.txn_types.specs.declared.write.Write.{Write}
use Rattle.txn_semantics.specs.Writes.{Place, place_of}
use Rattle.std.proofs.lemmas.Grind.{flat_map-append}
use Rattle.play_text.specs.Text.{put_by_shard, by_shard, write_line}
use Rattle.play_text.specs.Dump.{share, past_from, lines_of}

abbrev key : (Place → ℕ) → Write → ℕ
key place w = place (place_of w)

abbrev shares : (Place → ℕ) → List Write → List ℕ → List Write
shares place ws shards = flat_map (share place ws) shards

less : (a b : ℕ) → a < b → is_lt (nat_cmp a b) ≡ true
less a b h = grind arith

not_less : (a b : ℕ) → b ≤ a → is_lt (nat_cmp a b) ≡ false
not_less a b h = grind arith

-- A write goes after those of lower shards.

share_case : (place : Place → ℕ) (w x : Write) (mine rest : List Write) (a : ℕ) (b : Bool)
    → a < key place w → nat_eq (key place x) a ≡ b
    → put_by_shard place w (mine ++ rest) ≡ mine ++ put_by_shard place w rest
    → put_by_shard place w (cond b (x ∷ mine) mine ++ rest)
    ≡ cond b (x ∷ mine) mine ++ put_by_shard place w rest
share_case place w x mine rest a true h is more =
    let same : key place x ≡ a = eqb-true (key place x) a is in
    let lower : is_lt (nat_cmp (key place x) (key place w)) ≡ true =
    less (key place x) (key place w) (omega (arith, h, same)) in
    rw (lower, more) refl
share_case place w x mine rest a false h is more = more

behind_share : (place : Place → ℕ) (w : Write) (ws rest : List Write) (a : ℕ)
    → a < key place w → put_by_shard place w (share place ws a ++ rest)
    ≡ share place ws a ++ put_by_shard place w rest
behind_share place w [] rest a h = refl
behind_share place w (x ∷ xs) rest a h = share_case place w x (share place xs a) rest a
    (nat_eq (key place x) a) h refl (behind_share place w xs rest a h)

-- It goes in front of those of its own shard and of higher ones.

abbrev AtLeast : (Place → ℕ) → ℕ → List Write → Type 0
AtLeast place a [] = Unit {0}
AtLeast place a (x ∷ xs) = (a ≤ key place x) × AtLeast place a xs

front : (place : Place → ℕ) (w : Write) (ws : List Write) → AtLeast place (key place w) ws
    → put_by_shard place w ws ≡ w ∷ ws
front place w [] h = refl
front place w (x ∷ xs) h = rw (not_less (key place x) (key place w) h.0) refl

least_case : (place : Place → ℕ) (x : Write) (mine : List Write) (a : ℕ) (b : Bool)
    → nat_eq (key place x) a ≡ b → AtLeast place a mine → AtLeast place a (cond b (x ∷ mine) mine)
least_case place x mine a true is more =
    let same : key place x ≡ a = eqb-true (key place x) a is in
    (omega (arith, same), more)
least_case place x mine a false is more = more

share_least : (place : Place → ℕ) (ws : List Write) (a : ℕ) → AtLeast place a (share place ws a)
share_least place [] a = tt
share_least place (x ∷ xs) a =
    least_case place x (share place xs a) a (nat_eq (key place x) a) refl (share_least place xs a)

both_least : (place : Place → ℕ) (a : ℕ) (xs ys : List Write) → AtLeast place a xs
    → AtLeast place a ys → AtLeast place a (xs ++ ys)
both_least place a [] ys h more = more
both_least place a (x ∷ xs) ys h more = (h.0, both_least place a xs ys h.1 more)

lower_least : (place : Place → ℕ) (a b : ℕ) (xs : List Write) → a ≤ b → AtLeast place b xs
    → AtLeast place a xs
lower_least place a b [] le h = tt
lower_least place a b (x ∷ xs) le h = (omega (arith, le, h.0), lower_least place a b xs le h.1)

shares_least : (place : Place → ℕ) (ws : List Write) (a n : ℕ)
    → AtLeast place a (shares place ws (range_with_len a n))
shares_least place ws a zero = tt
shares_least place ws a (suc n) =
    both_least place a (share place ws a) (shares place ws (range_with_len (a + 1) n))
    (share_least place ws a)
    (lower_least place a (a + 1) (shares place ws (range_with_len (a + 1) n)) (omega arith)
    (shares_least place ws (a + 1) n))

-- One more write changes its own shard's share alone.

other_share : (place : Place → ℕ) (w : Write) (ws : List Write) (a : ℕ)
    → nat_eq (key place w) a ≡ false → share place (w ∷ ws) a ≡ share place ws a
other_share place w ws a h = rw h refl

own_share : (place : Place → ℕ) (w : Write) (ws : List Write) (a : ℕ)
    → nat_eq (key place w) a ≡ true → share place (w ∷ ws) a ≡ w ∷ share place ws a
own_share place w ws a h = rw h refl

differs : (a b : ℕ) → a < b → nat_eq a b ≡ false
differs a b h = grind arith

differs_above : (a b : ℕ) → b < a → nat_eq a b ≡ false
differs_above a b h = grind arith

other_shares : (place : Place → ℕ) (w : Write) (ws : List Write) (a n : ℕ) → key place w < a
    → shares place (w ∷ ws) (range_with_len a n) ≡ shares place ws (range_with_len a n)
other_shares place w ws a zero h = refl
other_shares place w ws a (suc n) h =
    rw (
      other_share place w ws a (differs (key place w) a h),
      other_shares place w ws (a + 1) n (omega (arith, h)),
    ) refl

own_case : (place : Place → ℕ) (w : Write) (ws : List Write) (a n : ℕ) (b : Bool) → a ≤ key place w
    → key place w < a + suc n → nat_eq (key place w) a ≡ b
    → (a + 1 ≤ key place w → shares place (w ∷ ws) (range_with_len (a + 1) n)
    ≡ put_by_shard place w (shares place ws (range_with_len (a + 1) n)))
    → shares place (w ∷ ws) (range_with_len a (suc n))
    ≡ put_by_shard place w (shares place ws (range_with_len a (suc n)))
own_case place w ws a n true low high is more =
    let same : key place w ≡ a = eqb-true (key place w) a is in
    let rest : List Write = shares place ws (range_with_len (a + 1) n) in
    let least : AtLeast place (key place w) (share place ws a ++ rest) =
    rw same (shares_least place ws a (suc n)) in
    rw (
      own_share place w ws a is,
      other_shares place w ws (a + 1) n (omega (arith, same)),
      front place w (share place ws a ++ rest) least,
    ) refl
own_case place w ws a n false low high is more =
    let above : a < key place w = grind (arith, low, is) in
    rw (
      other_share place w ws a is,
      more (omega (arith, above)),
      behind_share place w ws (shares place ws (range_with_len (a + 1) n)) a above,
    ) refl

more_shares : (place : Place → ℕ) (w : Write) (ws : List Write) (a n : ℕ)
    → a ≤ key place w → key place w < a + n → shares place (w ∷ ws) (range_with_len a n)
    ≡ put_by_shard place w (shares place ws (range_with_len a n))
more_shares place w ws a zero low high = absurd (omega (arith, low, high))
more_shares place w ws a (suc n) low high =
    own_case place w ws a n (nat_eq (key place w) a) low high refl
    (λ h. more_shares place w ws (a + 1) n h (omega (arith, high)))

no_shares : (place : Place → ℕ) (shards : List ℕ) → shares place [] shards ≡ []
no_shares place [] = refl
no_shares place (s ∷ ss) = no_shares place ss

abbrev AllBelow : (Place → ℕ) → ℕ → List Write → Type 0
AllBelow place n [] = Unit {0}
AllBelow place n (w ∷ ws) = (key place w < n) × AllBelow place n ws

shares_below : (place : Place → ℕ) (n : ℕ) (ws : List Write) → AllBelow place n ws
    → shares place ws (range_with_len 0 n) ≡ by_shard place ws
shares_below place n [] below = no_shares place (range_with_len 0 n)
shares_below place n (w ∷ ws) below = more_shares place w ws 0 n (omega arith)
    (omega (arith, below.0)) ∙ ap (put_by_shard place w) (shares_below place n ws below.1)

past_above : (place : Place → ℕ) (m : ℕ) (ws : List Write) → m ≤ past_from place m ws
past_above place m [] = omega arith
past_above place m (w ∷ ws) = let more : max m (key place w + 1) ≤ past_from place (max m
    (key place w + 1)) ws = past_above place (max m (key place w + 1)) ws in omega (arith, more)

past_all : (place : Place → ℕ) (m : ℕ) (ws : List Write) → AllBelow place (past_from place m ws) ws
past_all place m [] = tt
past_all place m (w ∷ ws) =
    let more : max m (key place w + 1) ≤ past_from place (max m (key place w + 1)) ws =
    past_above place (max m (key place w + 1)) ws in
    (omega (arith, more), past_all place (max m (key place w + 1)) ws)

-- the shares of all shards up to the last that keeps one of them
pub shares_are : (place : Place → ℕ) (ws : List Write)
    → shares place ws (range_with_len 0 (past_from place 0 ws)) ≡ by_shard place ws
shares_are place ws = shares_below place (past_from place 0 ws) ws (past_all place 0 ws)

-- one share more is written
pub share_more : (place : Place → ℕ) (ws : List Write) (at past : ℕ) → at < past
    → lines_of place (shares place ws (range_with_len at (past - at))) ≡ lines_of place (share place
    ws at) ++ lines_of place (shares place ws (range_with_len (at + 1) (past - (at + 1))))
share_more place ws at past h =
    let longer : past - at ≡ suc (past - (at + 1)) = omega (arith, h) in
    rw longer (flat_map-append (λ (w : Write). write_line (key place w) w) (share place ws at)
    (shares place ws (range_with_len (at + 1) (past - (at + 1)))))
