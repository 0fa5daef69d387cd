-- The header as commit writes it. With the commit word blank, byte 47 is 255, so the bank meets 3. With the word written, every number and
-- record reads back from its offset, so the bank is judged by what was written.
use mathlib.Core.Path.{◌≡◌, refl, ap, ◌∙◌, sym}
use mathlib.Core.Bool.{Bool, true, false, and-false, false≢true}
use mathlib.Core.List.{List, [], ◌∷◌, ◌++◌, append_assoc}
use Prim.Native.Nat.{ℕ, zero, suc, ◌+◌, ◌*◌, ◌-◌, ◌/◌, ◌%◌, ◌^◌, ◌<◌, ◌≤◌}
use native.Mathlib.Omega.{arith}
use borrow.Author.Tests.{eq-eqb, ne_eqb}
use lib.Dec.{eqb, leb}
use lib.IntN.{ℤ}
use lib.ListN.{length, take, drop, get_or, length-append}
use lib.Seq.{take_at, drop_at}
use Rattle.base.specs.Number.{pick, unsigned}
use Rattle.leaf.specs.Bytes.{word, time, le32, le64}
use Rattle.leaf.proofs.Laws.{word-front, time-front, length-le32}
use Rattle.base.proofs.Bools.{and_left}
use Rattle.leaf.proofs.Checksum.{crc32-lt}
use Rattle.record.specs.declared.Source.{Source}
use Rattle.record.specs.declared.Block.{Block}
use Rattle.record.specs.Types.{All, U32}
use Rattle.record.specs.Record.{decoded, head_bytes, block_bytes, table_bytes, tail_bytes, source_bytes}
use Rattle.base.specs.Lists.{many, puts, fill, each, byte}
use Rattle.base.proofs.Lists.{length-fill}
use Rattle.record.proofs.Laws.{length-source}
use Rattle.record.proofs.Back.{reads-back}
use Rattle.refusal.specs.declared.Refusal.TheVariants.{Span, Source as BadSource}
use Rattle.header.specs.declared.Bank.{Bank}
use Rattle.header.specs.Header.{numbers_of, record_at, records_of, magic, commit_word, marked, header_crc, sealed, span_ok, source_ok, judge, header_of, max_sources, header_size}
use Rattle.header.proofs.Laws.{span-count, not-marked}
use Rattle.header.specs.WriteHeader.{magic_to_length, crc_to_checked, number_bytes, record_bytes, crc_of, header_bytes, blank_word, commit_bytes, passes, text_ok, is_fit}
use Rattle.header.specs.Types.{Bytes, TextBytes, Proper, Numbers}
use Rattle.header.specs.Claims.{BlankRefused, numbered, HeaderBack, Committed}
use Rattle.header.proofs.Writing.{length-numbers, judge-is}
use Rattle.std.specs.Prelude.{Ok, Err}

-- ---- sizes

lengths : (ss : List Source) → All Proper ss → length (puts source_bytes ss) ≡ length ss * 384
unfolding puts All
lengths [] h = refl
lengths (s ∷ ss) h = length-append (source_bytes s) (puts source_bytes ss) ∙ omega (arith, length-source s h.0.sized, lengths ss h.1)

pub length-records : (ss : List Source) → All Proper ss → length ss ≤ 3 → length (record_bytes ss) ≡ 1152
unfolding record_bytes
length-records ss ps n =
    length-append (puts source_bytes ss) (fill 0 ((3 - length ss) * 384)) ∙ omega (arith, lengths ss ps, length-fill {A = ℕ} 0 ((3 - length ss) * 384))

-- the 44 bytes before the commit word
unfoldable pub top_bytes : Bank → List Source → List ℕ
top_bytes b ss = number_bytes b ++ le32 (crc_of b ss)

pub length-top : (b : Bank) (ss : List Source) → length (top_bytes b ss) ≡ 44
unfolding top_bytes
length-top b ss = length-append (number_bytes b) (le32 (crc_of b ss)) ∙ omega (arith, length-numbers b, length-le32 (crc_of b ss))

-- a header is what is before the commit word, the word, and what is after it
pub header-split : (b : Bank) (ss : List Source) (w : List ℕ) → header_bytes b ss w ≡ top_bytes b ss ++ (w ++ record_bytes ss)
unfolding header_bytes top_bytes
header-split b ss w = sym (append_assoc (number_bytes b) (le32 (crc_of b ss)) (w ++ record_bytes ss))

pub length-header : (b : Bank) (ss : List Source) (w : List ℕ) → All Proper ss → length ss ≤ 3 → length w ≡ 4 → length (header_bytes b ss w) ≡ header_size
length-header b ss w ps n e =
    ap length (header-split b ss w)
    ∙ length-append (top_bytes b ss) (w ++ record_bytes ss)
    ∙ omega (arith, length-top b ss, length-append w (record_bytes ss), length-records ss ps n)

pub length-blank-word : length blank_word ≡ 4
unfolding blank_word fill
length-blank-word = refl

pub length-commit-bytes : length commit_bytes ≡ 4
unfolding commit_bytes
length-commit-bytes = length-le32 commit_word

-- ---- every byte is below 256

pub bytes-append : (xs ys : List ℕ) → Bytes xs → Bytes ys → Bytes (xs ++ ys)
bytes-append [] ys h k i = k i
bytes-append (x ∷ xs) ys h k zero = h 0
bytes-append (x ∷ xs) ys h k (suc i) = bytes-append xs ys (λ j. h (suc j)) k i

bytes-cons : (x : ℕ) (xs : List ℕ) → x < 256 → Bytes xs → Bytes (x ∷ xs)
bytes-cons x xs h k zero = h
bytes-cons x xs h k (suc i) = k i

bytes-nil : Bytes []
bytes-nil zero = omega arith
bytes-nil (suc i) = omega arith

bytes-fill : (x n : ℕ) → x < 256 → Bytes (fill x n)
unfolding fill
bytes-fill x zero h = bytes-nil
bytes-fill x (suc n) h = bytes-cons x (fill x n) h (bytes-fill x n h)

bytes-le32 : (n : ℕ) → Bytes (le32 n)
unfolding le32
bytes-le32 n =
    bytes-cons (n % 256) (n / 2 ^ 8 % 256 ∷ n / 2 ^ 16 % 256 ∷ n / 2 ^ 24 % 256 ∷ []) (omega arith)
    (bytes-cons (n / 2 ^ 8 % 256) (n / 2 ^ 16 % 256 ∷ n / 2 ^ 24 % 256 ∷ []) (omega arith)
    (bytes-cons (n / 2 ^ 16 % 256) (n / 2 ^ 24 % 256 ∷ []) (omega arith)
    (bytes-cons (n / 2 ^ 24 % 256) [] (omega arith) bytes-nil)))

bytes-puts : {A : Type 0} (g : A → List ℕ) (P : A → Type 0) → ((x : A) → P x → Bytes (g x)) → (xs : List A) → All P xs → Bytes (puts g xs)
unfolding puts All
bytes-puts g P f [] h = bytes-nil
bytes-puts g P f (x ∷ xs) h = bytes-append (g x) (puts g xs) (f x h.0) (bytes-puts g P f xs h.1)

bytes_run : {A : Type 0} (g : A → List ℕ) → ((x : A) → Bytes (g x)) → (xs : List A) → Bytes (puts g xs)
unfolding puts
bytes_run g f [] = bytes-nil
bytes_run g f (x ∷ xs) = bytes-append (g x) (puts g xs) (f x) (bytes_run g f xs)

bytes-le64 : (z : ℤ) → Bytes (le64 z)
unfolding le64
bytes-le64 z =
    let n = unsigned 64 z in
    bytes-append (le32 (n % 2 ^ 32)) (le32 (n / 2 ^ 32)) (bytes-le32 (n % 2 ^ 32)) (bytes-le32 (n / 2 ^ 32))

bytes-block : (b : Block) → Bytes (block_bytes b)
unfolding block_bytes
bytes-block b =
    bytes-append (le32 b.offset) (le32 b.length ++ le32 b.crc) (bytes-le32 b.offset)
    (bytes-append (le32 b.length) (le32 b.crc) (bytes-le32 b.length) (bytes-le32 b.crc))

bytes-head : (s : Source) → Bytes (head_bytes s)
unfolding head_bytes
bytes-head s =
    bytes-append (le32 s.start) (le32 s.end ++ (le32 s.present ++ le64 s.updated)) (bytes-le32 s.start)
    (bytes-append (le32 s.end) (le32 s.present ++ le64 s.updated) (bytes-le32 s.end)
    (bytes-append (le32 s.present) (le64 s.updated) (bytes-le32 s.present) (bytes-le64 s.updated)))

bytes-tables : (s : Source) → Bytes (table_bytes s)
unfolding table_bytes
bytes-tables s =
    bytes-append (puts le32 s.original) (puts block_bytes s.tables) (bytes_run le32 bytes-le32 s.original) (bytes_run block_bytes bytes-block s.tables)

bytes-tail : (s : Source) → TextBytes s → Bytes (tail_bytes s)
unfolding tail_bytes
bytes-tail s t =
    bytes-append s.stamp (s.idlen ∷ (s.id ++ s.validator)) t.stamp
    (bytes-cons s.idlen (s.id ++ s.validator) t.idlen (bytes-append s.id s.validator t.id t.validator))

bytes-source : (s : Source) → Proper s → Bytes (source_bytes s)
unfolding source_bytes
bytes-source s p =
    bytes-append (head_bytes s) (table_bytes s ++ (tail_bytes s ++ fill 0 45)) (bytes-head s)
    (bytes-append (table_bytes s) (tail_bytes s ++ fill 0 45) (bytes-tables s)
    (bytes-append (tail_bytes s) (fill 0 45) (bytes-tail s p.texts) (bytes-fill 0 45 (omega arith))))

pub bytes-records : (ss : List Source) → All Proper ss → Bytes (record_bytes ss)
unfolding record_bytes
bytes-records ss ps =
    let n = (3 - length ss) * 384 in
    bytes-append (puts source_bytes ss) (fill 0 n) (bytes-puts source_bytes Proper bytes-source ss ps) (bytes-fill 0 n (omega arith))

bytes-first : (b : Bank) → Bytes (magic_to_length b)
unfolding magic_to_length
bytes-first b =
    bytes-append (le32 magic) (le32 b.version ++ (le32 b.generation ++ le32 b.length)) (bytes-le32 magic)
    (bytes-append (le32 b.version) (le32 b.generation ++ le32 b.length) (bytes-le32 b.version)
    (bytes-append (le32 b.generation) (le32 b.length) (bytes-le32 b.generation) (bytes-le32 b.length)))

bytes-second : (b : Bank) → Bytes (crc_to_checked b)
unfolding crc_to_checked
bytes-second b =
    bytes-append (le32 b.crc) (le32 b.count ++ (le32 b.key ++ (le32 0 ++ le64 b.checked))) (bytes-le32 b.crc)
    (bytes-append (le32 b.count) (le32 b.key ++ (le32 0 ++ le64 b.checked)) (bytes-le32 b.count)
    (bytes-append (le32 b.key) (le32 0 ++ le64 b.checked) (bytes-le32 b.key)
    (bytes-append (le32 0) (le64 b.checked) (bytes-le32 0) (bytes-le64 b.checked))))

pub bytes-top : (b : Bank) (ss : List Source) → Bytes (top_bytes b ss)
unfolding top_bytes
bytes-top b ss =
    bytes-append (number_bytes b) (le32 (crc_of b ss)) (bytes-append (magic_to_length b) (crc_to_checked b) (bytes-first b) (bytes-second b)) (bytes-le32 (crc_of b ss))

pub bytes-header : (b : Bank) (ss : List Source) (w : List ℕ) → All Proper ss → Bytes w → Bytes (header_bytes b ss w)
bytes-header b ss w ps h =
    rw (header-split b ss w) (bytes-append (top_bytes b ss) (w ++ record_bytes ss) (bytes-top b ss) (bytes-append w (record_bytes ss) h (bytes-records ss ps)))

-- ---- a bank that isn't marked

-- 255 in the commit word's last byte
pub unmarked : (l : List ℕ) → byte l 47 ≡ 255 → marked l ≡ false
unfolding marked word
unmarked l e =
    let ne : word l 44 ≡ commit_word → ⊥ = λ h. omega arith in
    rw (ne_eqb (word l 44) commit_word ne, and-false (leb (word l 4) 3), and-false (leb 1 (word l 4))) (and-false (eqb (word l 0) magic))

-- 255 in the first byte
pub no-magic : (l : List ℕ) → byte l 0 ≡ 255 → marked l ≡ false
unfolding marked word
no-magic l e =
    let ne : word l 0 ≡ magic → ⊥ = λ h. omega arith in
    rw (ne_eqb (word l 0) magic ne)

pub byte-47 : (b : Bank) (ss : List Source) (rest : List ℕ) → byte (header_bytes b ss blank_word ++ rest) 47 ≡ 255
unfolding header_bytes magic_to_length crc_to_checked le32 le64 blank_word fill
byte-47 b ss rest = refl

-- a write of the header leaves byte 47 blank
pub blank-47 : (b : Bank) (ss : List Source) → get_or (header_bytes b ss blank_word) 47 255 ≡ 255
unfolding header_bytes magic_to_length crc_to_checked le32 le64 blank_word fill
blank-47 b ss = refl

pub blank-unmarked : (b : Bank) (ss : List Source) (rest : List ℕ) → marked (header_bytes b ss blank_word ++ rest) ≡ false
blank-unmarked b ss rest = unmarked (header_bytes b ss blank_word ++ rest) (byte-47 b ss rest)

pub blank-refused : BlankRefused
blank-refused n b ss rest = sym (not-marked n (header_bytes b ss blank_word ++ rest) (blank-unmarked b ss rest))

-- ---- the blank word and the commit word are bytes

pub bytes-blank-word : Bytes blank_word
unfolding blank_word
bytes-blank-word = bytes-fill 255 4 (omega arith)

pub bytes-commit-bytes : Bytes commit_bytes
unfolding commit_bytes
bytes-commit-bytes = bytes-le32 commit_word

-- ---- a committed header

-- records that were written, from the first on
pub records-back : (ss : List Source) → All Proper ss → (p q : List ℕ) (k : ℕ) → length p ≡ k → many (record_at 3) 384 (p ++ (puts source_bytes ss ++ q)) k (length ss) ≡ ss
unfolding many puts All record_at
records-back [] h p q k e = refl
records-back (s ∷ ss) h p q k e =
    let x = source_bytes s in
    let g : p ++ ((x ++ puts source_bytes ss) ++ q) ≡ p ++ (x ++ (puts source_bytes ss ++ q)) = simp append_assoc in
    let f : p ++ ((x ++ puts source_bytes ss) ++ q) ≡ (p ++ x) ++ (puts source_bytes ss ++ q) = simp append_assoc in
    let n = length-source s h.0.sized in
    let one : decoded 3 (drop k (p ++ ((x ++ puts source_bytes ss) ++ q))) ≡ s =
    rw (g, drop_at p (x ++ (puts source_bytes ss ++ q)) k e) (reads-back s h.0.sized h.0.ranged (puts source_bytes ss ++ q)) in
    let more : many (record_at 3) 384 (p ++ ((x ++ puts source_bytes ss) ++ q)) (k + 384) (length ss) ≡ ss =
    ap (λ l. many (record_at 3) 384 l (k + 384) (length ss)) f ∙ records-back ss h.1 (p ++ x) q (k + 384) (length-append p x ∙ omega (arith, n)) in
    λ i. one i ∷ more i

module _ (b : Bank) (ss : List Source) (v : b.version ≡ 3) (r : Numbers b) (ps : All Proper ss) (n : length ss ≤ 3) (rest : List ℕ) where
  crc : ℕ
  crc = crc_of b ss

  all : List ℕ
  all = header_bytes b ss commit_bytes ++ rest

  top : List ℕ
  top = number_bytes b ++ (le32 crc ++ commit_bytes)

  all-is : all ≡ top ++ (record_bytes ss ++ rest)
  unfolding all top header_bytes crc
  all-is = simp append_assoc

  length-top-is : length top ≡ 48
  unfolding top magic_to_length crc_to_checked le32 le64 commit_bytes
  length-top-is = refl

  records-there : take 1152 (drop 48 all) ≡ record_bytes ss
  records-there = rw (all-is, drop_at top (record_bytes ss ++ rest) 48 length-top-is) (take_at (record_bytes ss) rest 1152 (length-records ss ps n))

  numbers-there : take 40 all ≡ number_bytes b
  unfolding all header_bytes
  numbers-there =
      rw (append_assoc (number_bytes b) (le32 (crc_of b ss) ++ (commit_bytes ++ record_bytes ss)) rest)
      (take_at (number_bytes b) ((le32 (crc_of b ss) ++ (commit_bytes ++ record_bytes ss)) ++ rest) 40 (length-numbers b))

  pub records-are : records_of 3 (header_bytes b ss commit_bytes ++ rest) (length ss) ≡ ss
  unfolding record_bytes all
  records-are =
      let g : all ≡ top ++ (puts source_bytes ss ++ (fill 0 ((3 - length ss) * 384) ++ rest)) = all-is ∙ simp append_assoc in
      rw g (records-back ss ps top (fill 0 ((3 - length ss) * 384) ++ rest) 48 length-top-is)

  pub numbers-back : (k : ℕ) → numbers_of k (header_bytes b ss commit_bytes ++ rest) ≡ numbered k b
  unfolding header_bytes magic_to_length crc_to_checked numbers_of word time le32 le64
  numbers-back k =
      λ i. record {
        number = k;
        version = word-front b.version [] r.version i;
        generation = word-front b.generation [] r.generation i;
        length = word-front b.length [] r.length i;
        crc = word-front b.crc [] r.crc i;
        count = word-front b.count [] r.count i;
        key = word-front b.key [] r.key i;
        checked = time-front b.checked [] r.checked i;
      }

  crc-fits : U32 crc
  unfolding crc crc_of
  crc-fits = crc32-lt 0 (number_bytes b ++ (fill 0 8 ++ record_bytes ss))

  word-40 : word all 40 ≡ crc
  unfolding all header_bytes magic_to_length crc_to_checked word le32 le64 crc
  word-40 = word-front crc [] crc-fits

  word-0 : word all 0 ≡ magic
  unfolding all header_bytes magic_to_length word le32
  word-0 = refl

  word-44 : word all 44 ≡ commit_word
  unfolding all header_bytes magic_to_length crc_to_checked word le32 le64 commit_bytes
  word-44 = refl

  word-4 : word all 4 ≡ 3
  unfolding numbers_of all
  word-4 = ap (λ (t : Bank). t.version) (numbers-back 0) ∙ v

  word-20 : word all 20 ≡ b.count
  unfolding numbers_of all
  word-20 = ap (λ (t : Bank). t.count) (numbers-back 0)

  marked-back : marked all ≡ true
  unfolding marked
  marked-back = rw (word-0, word-4, word-44, eq-eqb magic magic refl)

  sealed-back : sealed all ≡ true
  unfolding sealed header_crc crc crc_of
  sealed-back = rw (word-4, word-40, numbers-there, records-there) (eq-eqb crc crc refl)

  judged : (k : ℕ) → length ss ≡ b.count → header_of k (header_bytes b ss commit_bytes ++ rest) ≡ judge (numbered k b) ss
  unfolding header_of all
  judged k c =
      let e : word all 20 ≡ length ss = word-20 ∙ sym c in
      rw (marked-back, sealed-back, word-4, e, records-are, numbers-back k)

pub header-back : HeaderBack
header-back b ss rest v r ps n c k = judged b ss v r ps n rest k c

good-by : (b : Bank) (s t : Bool) → passes (pick s (pick t (Ok b) (Err BadSource)) (Err Span)) ≡ true → pick s (pick t (Ok b) (Err BadSource)) (Err Span) ≡ Ok b
good-by b true true e = refl
good-by b true false e = absurd (false≢true e)
good-by b false t e = absurd (false≢true e)

-- what passes is the bank's own numbers
pub passes-good : (b : Bank) (ss : List Source) → passes (judge b ss) ≡ true → judge b ss ≡ Ok b
unfolding judge
passes-good b ss e = good-by b (span_ok b) (each (source_ok b) ss) e

pub fit-passes : (b : Bank) (ss : List Source) → is_fit b ss ≡ true → passes (judge b ss) ≡ true
unfolding is_fit
fit-passes b ss f = and_left (passes (judge b ss)) (each text_ok ss) f

-- a bank that passes 13 has at most three records, and is good once it is committed
pub fit_count : (b : Bank) (ss : List Source) → is_fit b ss ≡ true → b.count ≤ max_sources
fit_count b ss f = span-count b (and_left (span_ok b) (each (source_ok b) ss) (sym (judge-is b ss) ∙ fit-passes b ss f))

pub committed : Committed
committed b ss rest v r ps c f = header-back b ss rest v r ps (omega (arith, fit_count b ss f)) c b.number ∙ passes-good b ss (fit-passes b ss f)
