-- Where a connection stands among the others.
use Rattle.std.proofs.Common.{◌≡◌, ℕ, zero, suc, ◌+◌, ◌<◌, Bool, true, false, cond, not, List, []}
use Rattle.std.proofs.Common.{◌∷◌, ◌++◌, length, nat_eq, nat_lt, slice_set, slice_index_or, Option}
use Rattle.std.proofs.Common.{Some, None, Ok, Err, refl, sym, ap, ◌∙◌, subst, inl, inr, arith}
use Rattle.std.specs.Prelude.{position, unwrap_or, ◌⊎◌}
use Rattle.std.specs.List.{position_or_len, find}
use Rattle.std.proofs.lemmas.Bool.{eq-eqb, eqb-true, le-ltb, ltb-true, ltb-false}
use Rattle.op_msg.specs.Stream.{Next, next_of}
use Rattle.client_streams.specs.Streams.{Connection, fresh, connection_in, with_connection, cut_by}
use Rattle.client_streams.specs.Streams.{cut_times, fed_by, fed}

-- a test may be turned round
by_tests : (a b : ℕ) (t u : Bool) → nat_eq a b ≡ t → nat_eq b a ≡ u → t ≡ u
by_tests a b true true is turned = refl
by_tests a b false false is turned = refl
by_tests a b true false is turned =
    let same : nat_eq b a ≡ true = eq-eqb b a (sym (eqb-true a b is)) in
    cc
by_tests a b false true is turned =
    let same : nat_eq a b ≡ true = eq-eqb a b (sym (eqb-true b a turned)) in
    cc

turned : (a b : ℕ) → nat_eq a b ≡ nat_eq b a
turned a b = by_tests a b (nat_eq a b) (nat_eq b a) refl refl

one : (n : ℕ) → 1 + n ≡ suc n
one n = omega arith

none_behind : (place len : ℕ) → nat_lt (1 + place) (suc len) ≡ false → nat_lt place len ≡ false
none_behind place len none = le-ltb place len (omega (arith, ltb-false (1 + place) (suc len) none))

abbrev pub named : ℕ → Connection → Bool
named conn c = nat_eq c.conn conn

abbrev pub place : ℕ → List Connection → ℕ
place conn cs = position_or_len (named conn) cs

-- a connection is put at the place of its number, or after the others
put_case : (c d : Connection) (cs : List Connection) (t : Bool) → nat_eq c.conn d.conn ≡ t
    → (place c.conn cs < length cs → slice_set cs (place c.conn cs) c ≡ with_connection c cs)
    → cond (not t) (1 + place c.conn cs) 0 < suc (length cs)
    → slice_set (d ∷ cs) (cond (not t) (1 + place c.conn cs) 0) c
    ≡ cond (nat_eq c.conn d.conn) (c ∷ cs) (d ∷ with_connection c cs)
put_case c d cs true is rest less =
    ap (λ (b : Bool). cond b (c ∷ cs) (d ∷ with_connection c cs)) (sym is)
put_case c d cs false is rest less =
    let less' : place c.conn cs < length cs = omega (arith, less) in
    ap (λ (n : ℕ). slice_set (d ∷ cs) n c) (one (place c.conn cs))
    ∙ ap (λ (xs : List Connection). d ∷ xs) (rest less')
    ∙ ap (λ (b : Bool). cond b (c ∷ cs) (d ∷ with_connection c cs)) (sym is)

put_at : (c : Connection) (cs : List Connection) → place c.conn cs < length cs
    → slice_set cs (place c.conn cs) c ≡ with_connection c cs
put_at c [] less = absurd (omega (arith, less))
put_at c (d ∷ cs) less =
    put_case c d cs (nat_eq d.conn c.conn) (turned c.conn d.conn) (put_at c cs) less

last_case : (c d : Connection) (cs : List Connection) (t : Bool) → nat_eq c.conn d.conn ≡ t
    → (nat_lt (place c.conn cs) (length cs) ≡ false → cs ++ c ∷ [] ≡ with_connection c cs)
    → nat_lt (cond (not t) (1 + place c.conn cs) 0) (suc (length cs)) ≡ false
    → d ∷ (cs ++ c ∷ []) ≡ cond (nat_eq c.conn d.conn) (c ∷ cs) (d ∷ with_connection c cs)
last_case c d cs true is rest none = absurd (omega (arith, ltb-false 0 (suc (length cs)) none))
last_case c d cs false is rest none =
    let none' : nat_lt (place c.conn cs) (length cs) ≡ false =
    none_behind (place c.conn cs) (length cs) none in
    ap (λ (xs : List Connection). d ∷ xs) (rest none')
    ∙ ap (λ (b : Bool). cond b (c ∷ cs) (d ∷ with_connection c cs)) (sym is)

put_last : (c : Connection) (cs : List Connection) → nat_lt (place c.conn cs) (length cs) ≡ false
    → cs ++ c ∷ [] ≡ with_connection c cs
put_last c [] none = refl
put_last c (d ∷ cs) none =
    last_case c d cs (nat_eq d.conn c.conn) (turned c.conn d.conn) (put_last c cs) none

-- by what a search gives
some_case : (n len i : ℕ) (t : Bool) → nat_lt n len ≡ t
    → ◌≡◌ {A = Option ℕ} (Some i) (cond t (Some n) None) → (i ≡ n) × (n < len)
some_case n len i true less is = (cc, ltb-true n len less)
some_case n len i false less is = cc

none_case : (n len : ℕ) (t : Bool) → nat_lt n len ≡ t
    → ◌≡◌ {A = Option ℕ} None (cond t (Some n) None) → t ≡ false
none_case n len true less is = cc
none_case n len false less is = refl

pub put_some : (c d : Connection) (cs : List Connection) (conn i : ℕ) → conn ≡ c.conn → d ≡ c
    → Some i ≡ position (named conn) cs → slice_set cs i d ≡ with_connection c cs
put_some c d cs conn i is same at =
    let x = some_case (place conn cs) (length cs) i (nat_lt (place conn cs) (length cs)) refl at in
    ap (λ (e : Connection). slice_set cs i e) same
    ∙ ap (λ (j : ℕ). slice_set cs j c) (x.0 ∙ ap (λ (m : ℕ). place m cs) is)
    ∙ put_at c cs (subst (λ (m : ℕ). place m cs < length cs) is x.1)

pub put_none : (c : Connection) (cs : List Connection) (conn : ℕ) → conn ≡ c.conn
    → None ≡ position (named conn) cs → cs ++ c ∷ [] ≡ with_connection c cs
put_none c cs conn is at =
    let x = none_case (place conn cs) (length cs) (nat_lt (place conn cs) (length cs)) refl at in
    put_last c cs (subst (λ (m : ℕ). nat_lt (place m cs) (length cs) ≡ false) is x)

-- the connection that stands there
found_case : (d e : Connection) (cs : List Connection) (conn : ℕ) (t : Bool)
    → (place conn cs < length cs → connection_in cs conn ≡ slice_index_or cs (place conn cs) e)
    → cond (not t) (1 + place conn cs) 0 < suc (length cs)
    → unwrap_or (cond t (Some d) (find (named conn) cs)) (fresh conn)
    ≡ slice_index_or (d ∷ cs) (cond (not t) (1 + place conn cs) 0) e
found_case d e cs conn true rest less = refl
found_case d e cs conn false rest less = rest (omega (arith, less))
    ∙ ap (λ (n : ℕ). slice_index_or (d ∷ cs) n e) (sym (one (place conn cs)))

found_at : (e : Connection) (cs : List Connection) (conn : ℕ) → place conn cs < length cs
    → connection_in cs conn ≡ slice_index_or cs (place conn cs) e
found_at e [] conn less = absurd (omega (arith, less))
found_at e (d ∷ cs) conn less =
    found_case d e cs conn (nat_eq d.conn conn) (found_at e cs conn) less

pub found_some : (e : Connection) (cs : List Connection) (conn i : ℕ)
    → Some i ≡ position (named conn) cs → connection_in cs conn ≡ slice_index_or cs i e
found_some e cs conn i at =
    let x = some_case (place conn cs) (length cs) i (nat_lt (place conn cs) (length cs)) refl at in
    found_at e cs conn x.1 ∙ ap (λ (j : ℕ). slice_index_or cs j e) (sym x.0)

absent_case : (d : Connection) (cs : List Connection) (conn : ℕ) (t : Bool)
    → (nat_lt (place conn cs) (length cs) ≡ false → connection_in cs conn ≡ fresh conn)
    → nat_lt (cond (not t) (1 + place conn cs) 0) (suc (length cs)) ≡ false
    → unwrap_or (cond t (Some d) (find (named conn) cs)) (fresh conn) ≡ fresh conn
absent_case d cs conn true rest none = absurd (omega (arith, ltb-false 0 (suc (length cs)) none))
absent_case d cs conn false rest none = rest (none_behind (place conn cs) (length cs) none)

absent : (cs : List Connection) (conn : ℕ) → nat_lt (place conn cs) (length cs) ≡ false
    → connection_in cs conn ≡ fresh conn
absent [] conn none = refl
absent (d ∷ cs) conn none = absent_case d cs conn (nat_eq d.conn conn) (absent cs conn) none

pub found_none : (cs : List Connection) (conn : ℕ) → None ≡ position (named conn) cs
    → connection_in cs conn ≡ fresh conn
found_none cs conn at = absent cs conn (none_case (place conn cs) (length cs)
    (nat_lt (place conn cs) (length cs)) refl at)

-- the connection that is found has its number
conn_case : (d : Connection) (cs : List Connection) (conn : ℕ) (t : Bool)
    → nat_eq d.conn conn ≡ t → (connection_in cs conn).conn ≡ conn
    → (unwrap_or (cond t (Some d) (find (named conn) cs)) (fresh conn)).conn ≡ conn
conn_case d cs conn true is rest = eqb-true d.conn conn is
conn_case d cs conn false is rest = rest

pub conn_in : (cs : List Connection) (conn : ℕ) → (connection_in cs conn).conn ≡ conn
conn_in [] conn = refl
conn_in (d ∷ cs) conn = conn_case d cs conn (nat_eq d.conn conn) refl (conn_in cs conn)

-- putting a connection twice
again_case : (c d e : Connection) (cs : List Connection) (t : Bool) → nat_eq c.conn e.conn ≡ t
    → nat_eq d.conn e.conn ≡ t → nat_eq c.conn d.conn ≡ true
    → with_connection c (with_connection d cs) ≡ with_connection c cs
    → with_connection c (cond t (d ∷ cs) (e ∷ with_connection d cs))
    ≡ cond t (c ∷ cs) (e ∷ with_connection c cs)
again_case c d e cs true is also same rest =
    ap (λ (b : Bool). cond b (c ∷ cs) (d ∷ with_connection c cs)) same
again_case c d e cs false is also same rest = ap (λ (b : Bool). cond b (c ∷ with_connection d cs)
    (e ∷ with_connection c (with_connection d cs))) is ∙ ap (λ (xs : List Connection). e ∷ xs) rest

again : (c d : Connection) (cs : List Connection) → c.conn ≡ d.conn
    → with_connection c (with_connection d cs) ≡ with_connection c cs
again c d [] is = ap (λ (b : Bool). cond b (c ∷ []) (d ∷ c ∷ [])) (eq-eqb c.conn d.conn is)
again c d (e ∷ cs) is =
    let t = nat_eq d.conn e.conn in
    let same : nat_eq c.conn e.conn ≡ t = ap (λ (n : ℕ). nat_eq n e.conn) is in
    again_case c d e cs t same refl (eq-eqb c.conn d.conn is) (again c d cs is)
    ∙ ap (λ (b : Bool). cond b (c ∷ cs) (e ∷ with_connection c cs)) (sym same)

-- a connection that was taken out is put back
pub put_back : (c : Connection) (conn : ℕ) (cs left : List Connection) → c.conn ≡ conn → (left ≡ cs)
    ⊎ (left ≡ with_connection (fresh conn) cs) → with_connection c left ≡ with_connection c cs
put_back c conn cs left is (inl same) = ap (with_connection c) same
put_back c conn cs left is (inr same) = ap (with_connection c) same ∙ again c (fresh conn) cs is

-- what comes on a connection leaves its number
cut_conn_by : (f : Connection → Connection) (c : Connection) (next : Next)
    → ((d : Connection) → (f d).conn ≡ d.conn) → (cut_by f c next).conn ≡ c.conn
cut_conn_by f c (Ok (Some m)) keeps =
    keeps (record c { bytes = m.1; waiting = c.waiting ++ m.0 ∷ [] })
cut_conn_by f c (Ok None) keeps = refl
cut_conn_by f c (Err e) keeps = refl

cut_conn : (n : ℕ) (c : Connection) → (cut_times n c).conn ≡ c.conn
cut_conn zero c = refl
cut_conn (suc n) c = cut_conn_by (cut_times n) c (next_of 48000000 c.bytes) (cut_conn n)

fed_conn_by : (f : Option ℕ) (c : Connection) (bytes : List ℕ) → (fed_by f c bytes).conn ≡ c.conn
fed_conn_by None c bytes =
    cut_conn (length (c.bytes ++ bytes)) (record c { bytes = c.bytes ++ bytes })
fed_conn_by (Some number) c bytes = refl

pub fed_conn : (c : Connection) (bytes : List ℕ) → (fed c bytes).conn ≡ c.conn
unfolding fed
fed_conn c bytes = fed_conn_by c.fault c bytes

pub put_changed : (f : Connection → Connection) → ((x : Connection) → (f x).conn ≡ x.conn)
    → (now left cs : List Connection) (c d : Connection) (conn : ℕ) → c ≡ connection_in cs conn
    → d ≡ f c → (left ≡ cs) ⊎ (left ≡ with_connection (fresh conn) cs)
    → now ≡ with_connection d left → now ≡ with_connection (f (connection_in cs conn)) cs
put_changed f keeps now left cs c d conn taken changed rest put =
    put
    ∙ ap (λ (e : Connection). with_connection e left) (changed ∙ ap f taken)
    ∙ put_back (f (connection_in cs conn)) conn cs left
    (keeps (connection_in cs conn) ∙ conn_in cs conn) rest
