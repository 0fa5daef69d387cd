-- What upper calls append are bytes: key, dates, names line and row, since their texts are and every byte added is below 256.
use mathlib.Core.Path.{◌≡◌, refl}
use mathlib.Core.Bool.{Bool, true, false}
use mathlib.Core.List.{List, [], ◌∷◌, ◌++◌}
use Prim.Native.Nat.{ℕ, zero, suc, ◌+◌, ◌*◌, ◌/◌, ◌%◌, ◌^◌, ◌<◌, Ordering}
use native.Mathlib.Omega.{arith}
use borrow.Author.Tests.{ltb-true}
use lib.Dec.{ltb, eqb}
use lib.ListN.{length, take, drop, get_or}
use Rattle.base.specs.Number.{pick}
use Rattle.leaf.specs.Bytes.{le32}
use Rattle.base.specs.Lists.{each}
use Rattle.record.specs.Types.{All}
use Rattle.base.proofs.Bools.{and_left, and_right}
use Rattle.header.specs.Types.{Bytes}
use Rattle.header.proofs.WriteLaws.{bytes-append}
use Rattle.key.specs.Order.{Text, Pick, pick_order}
use Rattle.key.specs.Picks as Picks
use Rattle.key.specs.Picks.{text, unless_code, pick_of, pick_at, count, firsts, insert_by, insert, distinct}
use Rattle.key.specs.Layout.{joined, field, entry, prefix, body, key_of}
use Rattle.rfc4180.specs.Write.{any_special, doubled, field_of, delimiter, row_of}
use Rattle.row.specs.Columns.{columns, columns_of, line, names_line}
use Rattle.row.specs.Write.{cut_by, passed_values}
use Rattle.powerloss.proofs.Bytes.{bytes-nil, bytes-cons, bytes_take, bytes_drop}
use Rattle.rfc4180.specs.Csv.{quote}

-- ---- dates

bytes-le32 : (n : ℕ) → Bytes (le32 n)
unfolding le32
bytes-le32 n =
    bytes-cons (n % 256) (n / 2 ^ 8 % 256 ∷ n / 2 ^ 16 % 256 ∷ n / 2 ^ 24 % 256 ∷ []) (omega arith)
    (bytes-cons (n / 2 ^ 8 % 256) (n / 2 ^ 16 % 256 ∷ n / 2 ^ 24 % 256 ∷ []) (omega arith)
    (bytes-cons (n / 2 ^ 16 % 256) (n / 2 ^ 24 % 256 ∷ []) (omega arith)
    (bytes-cons (n / 2 ^ 24 % 256) [] (omega arith) bytes-nil)))

pub bytes-dates : (a b : ℕ) → Bytes (le32 a ++ le32 b)
bytes-dates a b = bytes-append (le32 a) (le32 b) (bytes-le32 a) (bytes-le32 b)

-- ---- rows

all-cut : (ns t : List ℕ) → Bytes t → All Bytes (cut_by ns t)
unfolding All cut_by
all-cut [] t b = tt
all-cut (n ∷ ns) t b = (bytes_take n t b, all-cut ns (drop n t) (bytes_drop n t b))

doubled-by : (b : ℕ) (v : List ℕ) (t : Bool) → b < 256 → Bytes (doubled v) → Bytes (pick t (quote ∷ quote ∷ doubled v) (b ∷ doubled v))
doubled-by b v true h d = bytes-cons quote (quote ∷ doubled v) (omega arith) (bytes-cons quote (doubled v) (omega arith) d)
doubled-by b v false h d = bytes-cons b (doubled v) h d

bytes-doubled : (v : List ℕ) → Bytes v → Bytes (doubled v)
unfolding doubled
bytes-doubled [] h = bytes-nil
bytes-doubled (b ∷ v) h = doubled-by b v (eqb b quote) (h 0) (bytes-doubled v (λ k. h (suc k)))

field-by : (v : List ℕ) (t : Bool) → Bytes v → Bytes (pick t (quote ∷ doubled v ++ (quote ∷ [])) v)
field-by v true h =
    bytes-cons quote (doubled v ++ (quote ∷ [])) (omega arith) (bytes-append (doubled v) (quote ∷ []) (bytes-doubled v h) (bytes-cons quote [] (omega arith) bytes-nil))
field-by v false h = h

bytes-field : (v : List ℕ) → Bytes v → Bytes (field_of v)
unfolding field_of
bytes-field v h = field-by v (any_special v) h

delimiter-byte : (vs : List (List ℕ)) → delimiter vs < 256
delimiter-byte [] = omega arith
delimiter-byte (v ∷ vs) = omega arith

bytes-values : (vs : List (List ℕ)) → All Bytes vs → Bytes (row_of vs)
unfolding row_of All
bytes-values [] h = bytes-nil
bytes-values (v ∷ vs) h = bytes-append (field_of v) (delimiter vs ∷ row_of vs) (bytes-field v h.0) (bytes-cons (delimiter vs) (row_of vs) (delimiter-byte vs) (bytes-values vs h.1))

pub bytes-row : (texts lengths : List ℕ) → Bytes texts → Bytes (row_of (passed_values texts lengths))
bytes-row texts lengths b = bytes-values (cut_by lengths texts) (all-cut lengths texts b)

-- ---- names lines

unfoldable is_small : ℕ → Bool
is_small x = ltb x 256

small_bytes : (l : List ℕ) → each is_small l ≡ true → Bytes l
unfolding each is_small
small_bytes [] e = bytes-nil
small_bytes (x ∷ l) e = bytes-cons x l (ltb-true x 256 (and_left (ltb x 256) (each is_small l) e)) (small_bytes l (and_right (ltb x 256) (each is_small l) e))

each_at : {A : Type 0} (p : A → Bool) (xs : List A) (i : ℕ) (d : A) → each p xs ≡ true → p d ≡ true → p (get_or xs i d) ≡ true
unfolding each
each_at p [] i d e f = f
each_at p (x ∷ xs) zero d e f = and_left (p x) (each p xs) e
each_at p (x ∷ xs) (suc i) d e f = each_at p xs i d (and_right (p x) (each p xs) e) f

all-columns : each (each (each is_small)) columns ≡ true
unfolding each is_small columns
all-columns = refl

columns-small : (t : ℕ) → each (each is_small) (columns_of t) ≡ true
unfolding columns_of each
columns-small t = each_at (each (each is_small)) columns t [] all-columns refl

bytes-line : (vs : List (List ℕ)) → each (each is_small) vs ≡ true → Bytes (line vs)
unfolding line each
bytes-line [] e = bytes-nil
bytes-line (v ∷ vs) e =
    bytes-append v (delimiter vs ∷ line vs) (small_bytes v (and_left (each is_small v) (each (each is_small) vs) e))
    (bytes-cons (delimiter vs) (line vs) (delimiter-byte vs) (bytes-line vs (and_right (each is_small v) (each (each is_small) vs) e)))

pub bytes-names : (t : ℕ) → Bytes (names_line t)
bytes-names t = bytes-line (columns_of t) (columns-small t)

-- ---- keys

bytes-joined : {A : Type 0} (g : A → List ℕ) (P : A → Type 0) → ((x : A) → P x → Bytes (g x)) → (xs : List A) → All P xs → Bytes (joined g xs)
unfolding joined All
bytes-joined g P f [] h = bytes-nil
bytes-joined g P f (x ∷ xs) h = bytes-append (g x) (joined g xs) (f x h.0) (bytes-joined g P f xs h.1)

bytes-text : (t : Text) → Bytes t → Bytes (field t)
bytes-text t h = bytes-cons (length t % 256) t (omega arith) h

bytes-entry : (p : Pick) → All Bytes p → Bytes (entry p)
bytes-entry p h = bytes-joined field Bytes bytes-text p h

AllBytes : Pick → Type 0
AllBytes p = All Bytes p

place-all : (x : Ordering) (p q : Pick) (qs further : List Pick) → AllBytes p → AllBytes q → All AllBytes qs → All AllBytes further → All AllBytes (insert_by x p q qs further)
unfolding All
place-all Ordering.lt p q qs further a b c d = (a, (b, c))
place-all Ordering.eq p q qs further a b c d = (b, c)
place-all Ordering.gt p q qs further a b c d = (b, d)

insert_all : (p : Pick) (qs : List Pick) → AllBytes p → All AllBytes qs → All AllBytes (insert p qs)
unfolding insert All
insert_all p [] a h = (a, tt)
insert_all p (q ∷ qs) a h = place-all (pick_order p q) p q qs (insert p qs) a h.0 h.1 (insert_all p qs a h.1)

distinct-all : (ps : List Pick) → All AllBytes ps → All AllBytes (distinct ps)
unfolding distinct All
distinct-all [] h = tt
distinct-all (p ∷ ps) h = insert_all p (distinct ps) h.0 (distinct-all ps h.1)

firsts-all : (n : ℕ) (f : ℕ → Pick) → ((i : ℕ) → AllBytes (f i)) → All AllBytes (firsts n f)
unfolding firsts All
firsts-all zero f h = tt
firsts-all (suc n) f h = (h 0, firsts-all n (λ k. f (suc k)) (λ k. h (suc k)))

unless-bytes : (c name : Text) → Bytes name → Bytes (unless_code c name)
unless-bytes [] name h = h
unless-bytes (x ∷ c) name h = bytes-nil

text-bytes : (bytes lengths : List ℕ) (k : ℕ) → Bytes bytes → Bytes (text bytes lengths k)
unfolding text
text-bytes bytes lengths k b = bytes_take (get_or lengths k 0) (drop (Picks.sum (take k lengths)) bytes) (bytes_drop (Picks.sum (take k lengths)) bytes b)

pick-bytes : (bytes lengths : List ℕ) (i : ℕ) → Bytes bytes → AllBytes (pick_at bytes lengths i)
unfolding pick_of AllBytes All
pick-bytes bytes lengths i b = (
  text-bytes bytes lengths (i * 5) b,
  (
    text-bytes bytes lengths (i * 5 + 1) b,
    (
      text-bytes bytes lengths (i * 5 + 2) b,
      (
        text-bytes bytes lengths (i * 5 + 3) b,
        (unless-bytes (text bytes lengths (i * 5 + 2)) (text bytes lengths (i * 5 + 4)) (text-bytes bytes lengths (i * 5 + 4) b), tt),
      ),
    ),
  ),
)

bytes-prefix : (id : Text) → Bytes id → Bytes (prefix id)
unfolding prefix
bytes-prefix [] h = bytes-nil
bytes-prefix (b ∷ bs) h =
    bytes-cons 255 (length (b ∷ bs) % 256 ∷ length (b ∷ bs) / 256 % 256 ∷ b ∷ bs) (omega arith)
    (bytes-cons (length (b ∷ bs) % 256) (length (b ∷ bs) / 256 % 256 ∷ b ∷ bs) (omega arith)
    (bytes-cons (length (b ∷ bs) / 256 % 256) (b ∷ bs) (omega arith) h))

pub bytes-key : (id bytes lengths : List ℕ) → Bytes id → Bytes bytes → Bytes (key_of id (Picks.passed_picks bytes lengths))
unfolding key_of AllBytes
bytes-key id bytes lengths a b =
    let s = distinct (Picks.passed_picks bytes lengths) in
    bytes-append (prefix id) (body s) (bytes-prefix id a)
    (bytes-cons (length s % 256) (joined entry s) (omega arith)
    (bytes-joined entry AllBytes bytes-entry s (distinct-all (Picks.passed_picks bytes lengths) (firsts-all (count lengths) (pick_at bytes lengths) (λ i. pick-bytes bytes lengths i b)))))
