-- The operation that is done is the one that was told. A list with an operation in it is that of a state within its ranges, whose stage then says
-- which one; its bytes are as many as were told, the padding included.
use mathlib.Core.Path.{◌≡◌, refl, sym, ap, ◌∙◌}
use mathlib.Core.Bool.{Bool, true, false, not, ◌&&◌, false≢true}
use mathlib.Core.List.{List, [], ◌∷◌}
use Prim.Native.Nat.{ℕ, ◌+◌, ◌-◌, ◌%◌, ◌≤◌}
use native.Mathlib.Nat.{min-le_left}
use native.Mathlib.Omega.{arith}
use lib.Dec.{eqb}
use lib.ListN.{length, take, length-append, length-take}
use lib.Seq.{length-take-le}
use Rattle.base.specs.Number.{pick}
use Rattle.base.specs.Lists.{fill}
use Rattle.base.proofs.Bools.{and_left, and_right}
use Rattle.base.proofs.Lists.{length-fill}
use Rattle.region.specs.Region.{region_size, sector_size}
use Rattle.header.specs.Header.{header_size, commit_offset}
use Rattle.header.specs.WriteHeader.{header_bytes, blank_word, commit_bytes, is_fit}
use Rattle.header.proofs.WriteLaws.{length-header, length-blank-word, length-commit-bytes}
use Rattle.flash.specs.Flash.{Op, write, offset, size}
use Rattle.writer.specs.declared.Beginning.{Beginning}
use Rattle.writer.specs.declared.Contents.{Contents}
use Rattle.writer.specs.declared.Operation.TheVariants.{Erase, Write, Compare}
use Rattle.writer.specs.declared.Stage.{Stage}
use Rattle.writer.specs.declared.Stage.TheVariants.{Idle, Due, HeaderWritten, Committed}
use Rattle.writer.specs.State.{target, position, in_range, tail_size}
use Rattle.writer.proofs.Laws.{ranged, count_fits}
use Rattle.due.specs.Due.{padded, ops_of, due_ops}
use Rattle.due.proofs.Laws.{write-ranged}
use Rattle.commit.specs.Commit.{is_idle, is_header_written, may_commit, is_current, bank_for, records_for, commit_ops, word_ops}
use Rattle.bankcore.specs.Operation.{operation, operation_write, operation_header, operation_commit_word, padded_length, due_operation, idle_operation, word_operation, next_operation}
use Rattle.bankcore.specs.Claims.{of_op, DueIsTold, HeaderIsTold, WordIsTold}
use Rattle.bankcore.proofs.Laws.{within-range}

-- ---- lists of operations

abbrev first : Op → List Op → Op
first op [] = op
first op (x ∷ xs) = x

abbrev is_none : List Op → Bool
is_none [] = true
is_none (x ∷ xs) = false

none-is-one : (op : Op) → [] ≡ op ∷ [] → ⊥
none-is-one op e = false≢true (sym (ap is_none e))

-- where an operation is done, its test passed
done-by : (b : Bool) (xs : List Op) (op : Op) → pick b xs [] ≡ op ∷ [] → (b ≡ true) × (xs ≡ op ∷ [])
done-by true xs op e = (refl, e)
done-by false xs op e = absurd (none-is-one op e)

-- ---- what is due

padded-length : (tail : List ℕ) (n : ℕ) → length tail ≡ tail_size → n ≤ tail_size → length (padded (take n tail)) ≡ padded_length n
unfolding padded
padded-length tail n l h =
    let x : length (take n tail) ≡ n = length-take-le n tail (omega arith) in
    let p = (4 - length (take n tail) % 4) % 4 in
    omega (arith, x, length-append (take n tail) (fill 255 p), length-fill {A = ℕ} 255 p)

due-told : (b : Beginning) (t : Contents) (tail : List ℕ) (s : Stage) (op : Op) → ((a n : ℕ) → s ≡ Due (Write a n) → length (padded (take n tail)) ≡ padded_length n) → ops_of tail s ≡ op ∷ [] → next_operation b t s ≡ of_op (target b.active) op
unfolding next_operation due_operation
due-told b t tail (Due (Erase k)) op h e = ap (of_op (target b.active)) (ap (first op) e)
due-told b t tail (Due (Write a n)) op h e =
    ap (operation operation_write (target b.active) (sector_size + a)) (sym (h a n refl)) ∙ ap (of_op (target b.active)) (ap (first op) e)
due-told b t tail (Due (Compare a n)) op h e = absurd (none-is-one op e)
due-told b t tail Idle op h e = absurd (none-is-one op e)
due-told b t tail HeaderWritten op h e = absurd (none-is-one op e)
due-told b t tail Committed op h e = absurd (none-is-one op e)

pub due-is-told : DueIsTold
unfolding due_ops
due-is-told region w op l e =
    let h = done-by (eqb (length region) region_size && in_range w) (ops_of w.tail w.stage) op e in
    let r = and_right (eqb (length region) region_size) (in_range w) h.0 in
    within-range w r ∙ due-told w.beginning w.contents w.tail w.stage op (λ a n s. padded-length w.tail n l (write-ranged w a n r s).0) h.1

-- ---- what a commit writes

word-told : (b : Beginning) (t : Contents) (s : Stage) → is_header_written s ≡ true → next_operation b t s ≡ word_operation b.active
unfolding next_operation
word-told b t HeaderWritten e = refl
word-told b t Idle e = absurd (false≢true e)
word-told b t (Due o) e = absurd (false≢true e)
word-told b t Committed e = absurd (false≢true e)

pub word-is-told : WordIsTold
unfolding word_ops
word-is-told region w op e =
    let l = target w.beginning.active in
    let h = done-by (eqb (length region) region_size && (in_range w && is_header_written w.stage)) (write commit_offset commit_bytes ∷ []) op e in
    let r = and_right (eqb (length region) region_size) (in_range w && is_header_written w.stage) h.0 in
    within-range w (and_left (in_range w) (is_header_written w.stage) r)
    ∙ word-told w.beginning w.contents w.stage (and_right (in_range w) (is_header_written w.stage) r)
    ∙ ap (operation operation_commit_word l commit_offset) (sym length-commit-bytes)
    ∙ ap (λ (x : Op). operation operation_commit_word l (offset x) (size x)) (ap (first op) h.1)

header-told : (b : Beginning) (t : Contents) (s : Stage) → is_idle s ≡ true → (t.closed && not b.comparing) ≡ true → next_operation b t s ≡ operation operation_header (target b.active) 0 header_size
unfolding next_operation idle_operation
header-told b t Idle e h = rw h
header-told b t (Due o) e h = absurd (false≢true e)
header-told b t HeaderWritten e h = absurd (false≢true e)
header-told b t Committed e h = absurd (false≢true e)

and-true : (a b : Bool) → a ≡ true → b ≡ true → (a && b) ≡ true
and-true true b e h = h
and-true false b e h = absurd (false≢true e)

pub header-is-told : HeaderIsTold
unfolding commit_ops
header-is-told region w stamp current op ps e =
    let l = target w.beginning.active in
    let z = eqb (length region) region_size in
    let c = is_current w current in
    let f = is_fit (bank_for w stamp) (records_for w) in
    let closed = w.contents.closed in
    let idle = is_idle w.stage in
    let writing = not w.beginning.comparing in
    let h = done-by (z && (may_commit w && (c && f))) (write 0 (header_bytes (bank_for w stamp) (records_for w) blank_word) ∷ []) op e in
    let q = and_right z (may_commit w && (c && f)) h.0 in
    let m = and_left (may_commit w) (c && f) q in
    let v = and_left c f (and_right (may_commit w) (c && f) q) in
    let r = and_left (in_range w) (closed && idle) m in
    let o = and_right (in_range w) (closed && idle) m in
    let n : length (records_for w) ≤ 3 =
    omega (
      arith,
      length-take w.tables.count w.sources,
      min-le_left w.tables.count (length w.sources),
      count_fits (position w.contents) w.tables (ranged w r).tables,
    ) in
    within-range w r
    ∙ header-told w.beginning w.contents w.stage (and_right closed idle o) (and-true closed writing (and_left closed idle o) (and_left writing current v))
    ∙ ap (operation operation_header l 0) (sym (length-header (bank_for w stamp) (records_for w) blank_word ps n length-blank-word))
    ∙ ap (λ (x : Op). operation operation_header l (offset x) (size x)) (ap (first op) h.1)
