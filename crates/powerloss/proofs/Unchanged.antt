-- `unchanged` answers yes exactly if the open update's data, count, key length, dates and blocks are those of the active bank. In order,
-- nothing is left in the tail, so all of the update's bytes were compared, and `different` says how; the rest is compared by the call, and
-- its tests are equality.
use mathlib.Core.Path.{◌≡◌, refl, sym, ap, ◌∙◌, subst}
use mathlib.Core.Bool.{Bool, true, false, not, ◌&&◌, false≢true, and-false}
use mathlib.Core.Logic.{◌⊎◌, inl, inr}
use mathlib.Core.List.{List, [], ◌∷◌, ◌++◌, map, append-nil}
use Prim.Native.Nat.{ℕ, zero, suc, ◌+◌, ◌*◌, ◌-◌, ◌≤◌}
use native.Mathlib.Omega.{arith}
use borrow.Author.Tests.{eq-eqb, eqb-true, not-true}
use lib.Dec.{eqb, ltb}
use lib.ListN.{length, take, drop, length-append, length-drop}
use lib.Seq.{length-take-le}
use Rattle.base.specs.Number.{pick}
use Rattle.base.specs.Lists.{many, fill}
use Rattle.base.proofs.Bools.{and_left, and_right}
use Rattle.base.proofs.Lists.{length-fill, length-many}
use Rattle.record.specs.declared.Block.{Block}
use Rattle.record.specs.declared.Source.{Source}
use Rattle.record.specs.Record.{no_block, block_at, table_count, source_size, source_of, decoded}
use Rattle.record.specs.Types.{All}
use Rattle.region.specs.Region.{region_size, sector_size, bank_of, data_of}
use Rattle.refusal.specs.declared.Refusal.TheVariants.{Turn}
use Rattle.header.specs.declared.Bank.{Bank}
use Rattle.header.specs.Header as Header
use Rattle.header.specs.Header.{record_at}
use Rattle.header.specs.Types.{Proper}
use Rattle.header.proofs.Laws.{span-length, passed}
use Rattle.flash.proofs.Laws.{length-bank}
use Rattle.writer.specs.declared.Stage.{Stage}
use Rattle.writer.specs.declared.Stage.TheVariants.{Idle, Due, HeaderWritten, Committed}
use Rattle.writer.specs.declared.Answer.TheVariants.{Done, Appended, NoneDue, Same, Different}
use Rattle.writer.specs.declared.Contents.{Contents}
use Rattle.writer.specs.declared.Writer.{Writer}
use Rattle.writer.specs.State.{key_length, in_range, is_due, stage_ok, stays}
use Rattle.commit.specs.Commit.{is_idle, routes_offset, records_for}
use Rattle.commit.specs.Unchanged.{same_block, same_each, same_source, same_bank, is_unchanged, may_ask, unchanged_step}
use Rattle.powerloss.specs.History.{Update, records_of}
use Rattle.powerloss.specs.Machine.{Image, next_all, found}
use Rattle.powerloss.specs.Claim.{dates_and_blocks, Equals, EqualsActive, UnchangedAt, Unchanged}
use Rattle.powerloss.proofs.Load.{Own, load-own, passes-header}
use Rattle.powerloss.proofs.Inv.{Kept, Begins, Compared, Open, State}
use Rattle.powerloss.proofs.Range.{true-false, due-ok, headed-end, committed-end, idle-due, closed-empty}
use Rattle.writer.proofs.Laws.{ranged}
use Rattle.powerloss.proofs.Dues.{seen, stage_is}
use Rattle.powerloss.proofs.Keeps.{is-idle}
use Rattle.powerloss.proofs.Commits.{span-some, records_is, length-records, routes-is}
use Rattle.powerloss.proofs.Lowers.{mk}
use Rattle.powerloss.proofs.Uppers.{inv-found, inv-all}
use Rattle.powerloss.proofs.States.{is_state, state_or}
use Rattle.std.specs.Prelude.{Ok, Err, Some, None, Result, Option}
use Rattle.refusal.specs.declared.Refusal.{Refusal}
use Rattle.writer.specs.declared.Answer.{Answer}

-- ---- lists compared element by element

abbrev head_or : {A : Type 0} → A → List A → A
head_or d [] = d
head_or d (x ∷ xs) = x

abbrev tail_of : {A : Type 0} → List A → List A
tail_of [] = []
tail_of (x ∷ xs) = xs

no_length : (n : ℕ) → suc n ≡ 0 → ⊥
no_length n e = omega arith

both : (a b : Bool) → a ≡ true → b ≡ true → (a && b) ≡ true
both a b e f = rw (e, f)

-- f means that g is equal, on elements with P and Q
module _ {A B : Type 0} (P Q : A → Type 0) (f : A → A → Bool) (g : A → B) (means : (a b : A) → P a → Q b → f a b ≡ true → g a ≡ g b) (holds : (a b : A) → g a ≡ g b → f a b ≡ true) where
  each-means : (xs ys : List A) → All P xs → All Q ys → length xs ≡ length ys → same_each f xs ys ≡ true → map g xs ≡ map g ys
  unfolding same_each All
  each-means [] [] p q l e = refl
  each-means [] (b ∷ ys) p q l e = absurd (no_length (length ys) (sym l))
  each-means (a ∷ xs) [] p q l e = absurd (no_length (length xs) l)
  each-means (a ∷ xs) (b ∷ ys) p q l e =
      let x = means a b p.0 q.0 (and_left (f a b) (same_each f xs ys) e) in
      let y = each-means xs ys p.1 q.1 (omega (arith, l)) (and_right (f a b) (same_each f xs ys) e) in
      λ i. x i ∷ y i

  each_holds : (xs ys : List A) → map g xs ≡ map g ys → same_each f xs ys ≡ true
  unfolding same_each
  each_holds [] ys e = refl
  each_holds (a ∷ xs) [] e = absurd (no_length (length (map g xs)) (ap length e))
  each_holds (a ∷ xs) (b ∷ ys) e =
      both (f a b) (same_each f xs ys) (holds a b (ap (head_or (g a)) e)) (each_holds xs ys (ap tail_of e))

-- ---- blocks and records

abbrev Any : Block → Type 0
Any b = Unit {0}

any : (bs : List Block) → All Any bs
unfolding All
any [] = tt
any (b ∷ bs) = (tt, any bs)

abbrev itself : Block → Block
itself b = b

map-itself : (bs : List Block) → map itself bs ≡ bs
map-itself [] = refl
map-itself (b ∷ bs) = ap (λ (l : List Block). b ∷ l) (map-itself bs)

block-means : (a b : Block) → Any a → Any b → same_block a b ≡ true → a ≡ b
block-means a b p q e =
    let o = eqb-true a.offset b.offset (and_left (eqb a.offset b.offset) (eqb a.length b.length && eqb a.crc b.crc) e) in
    let r = and_right (eqb a.offset b.offset) (eqb a.length b.length && eqb a.crc b.crc) e in
    let l = eqb-true a.length b.length (and_left (eqb a.length b.length) (eqb a.crc b.crc) r) in
    let c = eqb-true a.crc b.crc (and_right (eqb a.length b.length) (eqb a.crc b.crc) r) in
    λ i. record { offset = o i; length = l i; crc = c i }

block-holds : (a b : Block) → a ≡ b → same_block a b ≡ true
block-holds a b e =
    both (eqb a.offset b.offset) (eqb a.length b.length && eqb a.crc b.crc) (eq-eqb a.offset b.offset (ap (λ (x : Block). x.offset) e))
    (both (eqb a.length b.length) (eqb a.crc b.crc) (eq-eqb a.length b.length (ap (λ (x : Block). x.length) e)) (eq-eqb a.crc b.crc (ap (λ (x : Block). x.crc) e)))

-- a record has eight blocks
abbrev Eight : Source → Type 0
Eight s = length s.tables ≡ 8

source-means : (a b : Source) → Eight a → Eight b → same_source a b ≡ true → dates_and_blocks a ≡ dates_and_blocks b
unfolding same_source
source-means a b p q e =
    let blocks = same_each same_block a.tables b.tables in
    let s = eqb-true a.start b.start (and_left (eqb a.start b.start) (eqb a.end b.end && blocks) e) in
    let r = and_right (eqb a.start b.start) (eqb a.end b.end && blocks) e in
    let n = eqb-true a.end b.end (and_left (eqb a.end b.end) blocks r) in
    let t =
    sym (map-itself a.tables)
    ∙ each-means Any Any same_block itself block-means block-holds a.tables b.tables (any a.tables) (any b.tables) (p ∙ sym q) (and_right (eqb a.end b.end) blocks r)
    ∙ map-itself b.tables in
    λ i. (s i, n i, t i)

source-holds : (a b : Source) → dates_and_blocks a ≡ dates_and_blocks b → same_source a b ≡ true
unfolding same_source
source-holds a b e =
    both (eqb a.start b.start) (eqb a.end b.end && same_each same_block a.tables b.tables) (eq-eqb a.start b.start (ap (λ (x : ℕ × ℕ × List Block). x.0) e))
    (both (eqb a.end b.end) (same_each same_block a.tables b.tables) (eq-eqb a.end b.end (ap (λ (x : ℕ × ℕ × List Block). x.1) e))
    (each_holds Any Any same_block itself block-means block-holds a.tables b.tables (ap (λ (x : ℕ × ℕ × List Block). map itself x.2) e)))

eight-proper : (ss : List Source) → All Proper ss → All Eight ss
unfolding All
eight-proper [] p = tt
eight-proper (s ∷ ss) p = (p.0.sized.tables, eight-proper ss p.1)

eight-by : (n : ℕ) (l : List ℕ) → n ≤ 8 → Eight (source_of n l)
unfolding source_of
eight-by n l h = length-append (many block_at 12 l (n * 8 + 20) n) (fill no_block (8 - n)) ∙ omega (arith, length-many block_at 12 l (n * 8 + 20) n, length-fill no_block (8 - n))

count_fits : (d : Bool) → pick d 7 8 ≤ 8
count_fits true = omega arith
count_fits false = omega arith

eight-read : (v : ℕ) (l : List ℕ) (at : ℕ) → Eight (record_at v l at)
unfolding record_at decoded
eight-read v l at = eight-by (table_count v) (take (source_size v) (drop at l)) (count_fits (ltb v 3))

eight-many : (v : ℕ) (l : List ℕ) (size at n : ℕ) → All Eight (many (record_at v) size l at n)
unfolding many All
eight-many v l size at zero = tt
eight-many v l size at (suc n) = (eight-read v l at, eight-many v l size (at + size) n)

-- ---- the call

module _ (region : List ℕ) (hd : Result (Option Bank) Refusal) (rs : List Source) (im : Image) (w : Writer) (u : Update) (k : Kept region hd rs im) (o : Open region hd w u) (m : may_ask w ≡ true) where
  abbrev t : Contents
  t = w.contents

  rest : (w.beginning.comparing && (t.closed && is_idle w.stage)) ≡ true
  rest = and_right (in_range w) (w.beginning.comparing && (t.closed && is_idle w.stage)) m

  comparing : w.beginning.comparing ≡ true
  comparing = and_left w.beginning.comparing (t.closed && is_idle w.stage) rest

  at-end : (t.closed && is_idle w.stage) ≡ true
  at-end = and_right w.beginning.comparing (t.closed && is_idle w.stage) rest

  idle : w.stage ≡ Idle
  idle = is-idle w.stage (and_right t.closed (is_idle w.stage) at-end)

  -- the tail is empty
  empty : t.fill ≡ 0
  empty = closed-empty t (and_left t.closed (is_idle w.stage) at-end) (idle-due w.beginning.comparing t (stage_is region hd rs im w u k o Idle idle))

  active-is : w.beginning.active ≡ hd
  active-is = (seen region hd rs im w u k o true Idle comparing idle).0

  compared : Compared region hd t.written t.fill t.different w.tail u.data·
  compared = subst (λ (a : Result (Option Bank) Refusal). Compared region a t.written t.fill t.different w.tail u.data·) active-is (seen region hd rs im w u k o true Idle comparing idle).1

  -- so every byte was compared
  all-compared : u.data· ≡ compared.front
  all-compared = compared.all ∙ ap (λ (n : ℕ). compared.front ++ take n w.tail) empty ∙ append-nil compared.front

  abbrev key : ℕ
  key = key_length (routes_offset w.sources)

  count-is : length (records_of u) ≡ w.tables.count
  count-is = ap length (records_is region hd w u o) ∙ length-records region hd w u o

  key-is : 1 ≤ w.tables.count → key_length (routes_offset (records_of u)) ≡ key
  key-is c = ap (λ (ss : List Source). key_length (routes_offset ss)) (records_is region hd w u o) ∙ ap key_length (routes-is region hd w u o c)

-- with an active bank
module _ (region : List ℕ) (b : Bank) (rs : List Source) (im : Image) (w : Writer) (u : Update) (k : Kept region (Ok (Some b)) rs im) (o : Open region (Ok (Some b)) w u) (m : may_ask w ≡ true) where
  abbrev bank : List ℕ
  bank = bank_of region b.number

  own : Own region b
  own = load-own region b k.size k.loads

  span : (1 ≤ b.count) × (b.length ≤ 487424)
  span =
      let p = (passed b.number bank b (passes-header region b.number b k.size own.number own.valid)).span in
      (span-some b p, (span-length b p).1)

  abbrev front : List ℕ
  front = (compared region (Ok (Some b)) rs im w u k o m).front

  front-is : u.data· ≡ front
  front-is = all-compared region (Ok (Some b)) rs im w u k o m

  front-count : length front ≡ w.contents.written
  front-count = (compared region (Ok (Some b)) rs im w u k o m).count

  read : ℕ → List Source
  read n = Header.records_of b.version bank n

  -- the records compared, if the counts are equal
  read_is : w.tables.count ≡ b.count → read w.tables.count ≡ rs
  unfolding read
  read_is n = ap (Header.records_of b.version bank) n ∙ k.records

  yes : same_bank region w b ≡ true → Equals u b im.bank rs
  unfolding read
  yes e =
      let d = not w.contents.different in
      let l = eqb w.contents.written b.length in
      let n = eqb w.tables.count b.count in
      let y = eqb (key_length (routes_offset w.sources)) b.key in
      let s = same_each same_source (records_for w) (read w.tables.count) in
      let e1 = and_right d (l && (n && (y && s))) e in
      let e2 = and_right l (n && (y && s)) e1 in
      let e3 = and_right n (y && s) e2 in
      let g = (compared region (Ok (Some b)) rs im w u k o m).told.0 (not-true w.contents.different (and_left d (l && (n && (y && s))) e)) in
      let li = eqb-true w.contents.written b.length (and_left l (n && (y && s)) e1) in
      let ni = eqb-true w.tables.count b.count (and_left n (y && s) e2) in
      let yi = eqb-true (key_length (routes_offset w.sources)) b.key (and_left y s e3) in
      let ci = length-records region (Ok (Some b)) w u o in
      record {
        data· = front-is ∙ sym g.same ∙ (λ i. data_of (k.image i) ((front-count ∙ li) i));
        count = count-is region (Ok (Some b)) rs im w u k o m ∙ ni;
        key = key-is region (Ok (Some b)) rs im w u k o m (omega (arith, ni, span.0)) ∙ yi;
        records· =
            ap (map dates_and_blocks) (records_is region (Ok (Some b)) w u o)
            ∙ each-means Eight Eight same_source dates_and_blocks source-means source-holds (records_for w) (read w.tables.count) (eight-proper (records_for w) o.tied.noted.proper)
            (eight-many b.version bank (source_size b.version) 48 w.tables.count) (ci ∙ sym (length-many (record_at b.version) (source_size b.version) bank 48 w.tables.count)) (and_right y s e3)
            ∙ ap (map dates_and_blocks) (read_is ni);
      }

  same_of : Equals u b im.bank rs → same_bank region w b ≡ true
  unfolding read data_of
  same_of q =
      let bk = length-bank region b.number k.size own.number in
      let dl : length (data_of bank b.length) ≡ b.length = length-take-le b.length (drop sector_size bank) (omega (arith, span.1, bk, length-drop sector_size bank)) in
      let di : u.data· ≡ data_of bank b.length = q.data· ∙ ap (λ (l : List ℕ). data_of l b.length) (sym k.image) in
      let fl : length front ≡ b.length = ap length (sym front-is ∙ di) ∙ dl in
      let ni : w.tables.count ≡ b.count = sym (count-is region (Ok (Some b)) rs im w u k o m) ∙ q.count in
      let g : Begins region b front = record { fits = omega (arith, fl); same = ap (data_of bank) fl ∙ sym di ∙ front-is } in
      let d = not w.contents.different in
      let l = eqb w.contents.written b.length in
      let n = eqb w.tables.count b.count in
      let y = eqb (key_length (routes_offset w.sources)) b.key in
      let s = same_each same_source (records_for w) (read w.tables.count) in
      let si = each_holds Eight Eight same_source dates_and_blocks source-means source-holds (records_for w) (read w.tables.count)
      (ap (map dates_and_blocks) (sym (records_is region (Ok (Some b)) w u o)) ∙ q.records· ∙ ap (map dates_and_blocks) (sym (read_is ni))) in
      both d (l && (n && (y && s))) (ap not ((compared region (Ok (Some b)) rs im w u k o m).told.1 g))
      (both l (n && (y && s)) (eq-eqb w.contents.written b.length (sym front-count ∙ fl))
      (both n (y && s) (eq-eqb w.tables.count b.count ni)
      (both y s (eq-eqb (key_length (routes_offset w.sources)) b.key (sym (key-is region (Ok (Some b)) rs im w u k o m (omega (arith, ni, span.0))) ∙ q.key)) si)))

-- ---- with an active bank or without

means : (region : List ℕ) (hd : Result (Option Bank) Refusal) (rs : List Source) (im : Image) (w : Writer) (u : Update) → Kept region hd rs im → Open region hd w u → may_ask w ≡ true
    → (is_unchanged region w hd ≡ true → EqualsActive (Some u) hd im.bank rs) × (EqualsActive (Some u) hd im.bank rs → is_unchanged region w hd ≡ true)
unfolding is_unchanged
means region (Ok (Some b)) rs im w u k o m = (yes region b rs im w u k o m, same_of region b rs im w u k o m)
means region (Ok None) rs im w u k o m = (λ e. false≢true e, λ q. absurd q)
means region (Err r) rs im w u k o m = (λ e. false≢true e, λ q. absurd q)

-- ---- the answer

abbrev is_same : Result Answer Refusal → Bool
is_same (Ok Same) = true
is_same (Ok Different) = false
is_same (Ok Done) = false
is_same (Ok (Appended n)) = false
is_same (Ok NoneDue) = false
is_same (Err r) = false

abbrev is_different : Result Answer Refusal → Bool
is_different (Ok Different) = true
is_different (Ok Same) = false
is_different (Ok Done) = false
is_different (Ok (Appended n)) = false
is_different (Ok NoneDue) = false
is_different (Err r) = false

abbrev answer_for : Writer → Bool → Bool → Result Answer Refusal
answer_for w a c = (pick a (record { answer = pick c (Ok Same) (Ok Different); writer = w }) (stays w Turn)).answer

answer-same : (w : Writer) (a c : Bool) → answer_for w a c ≡ Ok Same → (a ≡ true) × (c ≡ true)
answer-same w true true e = (refl, refl)
answer-same w true false e = absurd (false≢true (ap is_same e))
answer-same w false c e = absurd (false≢true (ap is_same e))

answer-different : (w : Writer) (a c : Bool) → answer_for w a c ≡ Ok Different → (a ≡ true) × (c ≡ false)
answer-different w true true e = absurd (false≢true (ap is_different e))
answer-different w true false e = (refl, refl)
answer-different w false c e = absurd (false≢true (ap is_different e))

answer-asked : (w : Writer) (a c : Bool) → a ≡ true → (answer_for w a c ≡ Ok Same) ⊎ (answer_for w a c ≡ Ok Different)
answer-asked w true true e = inl refl
answer-asked w true false e = inr refl
answer-asked w false c e = absurd (false≢true e)

answer-is : (region : List ℕ) (w : Writer) → length region ≡ region_size → (unchanged_step region w).answer ≡ answer_for w (may_ask w) (is_unchanged region w w.beginning.active)
unfolding unchanged_step
answer-is region w l = rw (eq-eqb (length region) region_size l)

module _ (region : List ℕ) (hd : Result (Option Bank) Refusal) (rs : List Source) (im : Image) (w : Writer) (u : Update) (k : Kept region hd rs im) (o : Open region hd w u) where
  abbrev answer : Result Answer Refusal
  answer = (unchanged_step region w).answer

  abbrev result : Bool
  result = is_unchanged region w w.beginning.active

  result-is : may_ask w ≡ true → result ≡ is_unchanged region w hd
  result-is m = ap (is_unchanged region w) (active-is region hd rs im w u k o m)

  may_at : may_ask w ≡ true → (answer ≡ Ok Same) ⊎ (answer ≡ Ok Different)
  may_at m = subst (λ (x : Result Answer Refusal). (x ≡ Ok Same) ⊎ (x ≡ Ok Different)) (sym (answer-is region w k.size)) (answer-asked w (may_ask w) result m)

  -- in comparing mode a state with nothing due is idle
  is-idle-at : (st : Stage) → stage_ok w.beginning.comparing w.contents st ≡ true → w.beginning.comparing ≡ true → is_due w.contents ≡ false → is_idle st ≡ true
  is-idle-at Idle s c d = refl
  is-idle-at (Due p) s c d = true-false (is_due w.contents) (due-ok w.beginning.comparing w.contents p s).0 d
  is-idle-at HeaderWritten s c d = true-false w.beginning.comparing c (headed-end w.beginning.comparing w.contents s).writing
  is-idle-at Committed s c d = true-false w.beginning.comparing c (committed-end w.beginning.comparing w.contents s).writing

  asked-at : w.beginning.comparing ≡ true → w.contents.closed ≡ true → is_due w.contents ≡ false → (answer ≡ Ok Same) ⊎ (answer ≡ Ok Different)
  asked-at c e d = may_at (rw (o.tied.range, c, e, is-idle-at w.stage (ranged w o.tied.range).stage c d))

  -- otherwise it is refused
  turn_at : may_ask w ≡ false → answer ≡ Err Turn
  turn_at m = answer-is region w k.size ∙ ap (λ (a : Bool). answer_for w a result) m

  not-idle-at : (st : Stage) → stage_ok w.beginning.comparing w.contents st ≡ true → is_due w.contents ≡ true → is_idle st ≡ false
  not-idle-at Idle s d = true-false (is_due w.contents) d (idle-due w.beginning.comparing w.contents s)
  not-idle-at (Due p) s d = refl
  not-idle-at HeaderWritten s d = refl
  not-idle-at Committed s d = refl

  writing-at : w.beginning.comparing ≡ false → answer ≡ Err Turn
  writing-at e = turn_at (rw (o.tied.range, e))

  before_at : w.contents.closed ≡ false → answer ≡ Err Turn
  before_at e = turn_at (rw (o.tied.range, e) (and-false w.beginning.comparing))

  due-at : is_due w.contents ≡ true → answer ≡ Err Turn
  due-at d =
      turn_at (rw (o.tied.range, not-idle-at w.stage (ranged w o.tied.range).stage d, and-false w.contents.closed) (and-false w.beginning.comparing))

  yes-at : answer ≡ Ok Same → EqualsActive (Some u) hd im.bank rs
  yes-at e =
      let p = answer-same w (may_ask w) result (sym (answer-is region w k.size) ∙ e) in
      (means region hd rs im w u k o p.0).0 (sym (result-is p.0) ∙ p.1)

  no-at : answer ≡ Ok Different → EqualsActive (Some u) hd im.bank rs → ⊥
  no-at e q =
      let p = answer-different w (may_ask w) result (sym (answer-is region w k.size) ∙ e) in
      false≢true (sym p.1 ∙ result-is p.0 ∙ (means region hd rs im w u k o p.0).1 q)

at : (region : List ℕ) (hd : Result (Option Bank) Refusal) (rs : List Source) (im : Image) (s : Option Writer) (v : Option Update) (w : Writer) → Kept region hd rs im → State region hd s v → s ≡ Some w → UnchangedAt (mk region s hd rs v im) w
at region hd rs im None v w k o e = absurd (false≢true (ap is_state e))
at region hd rs im (Some x) None w k o e = absurd o
at region hd rs im (Some x) (Some u) w k o e =
    let q = subst (λ (y : Writer). Open region hd y u) (ap (state_or w) e) o in
    record {
      writing = writing-at region hd rs im w u k q;
      before = before_at region hd rs im w u k q;
      while_due = due-at region hd rs im w u k q;
      asked = asked-at region hd rs im w u k q;
      yes = yes-at region hd rs im w u k q;
      no = no-at region hd rs im w u k q;
    }

pub exactly : Unchanged
exactly region events l y p w e =
    let r = next_all (found region) events in
    let h = inv-all events (found region) p (inv-found region l y) in
    at r.region r.history.held r.history.records r.image r.state r.history.open· w h.kept h.open· e
