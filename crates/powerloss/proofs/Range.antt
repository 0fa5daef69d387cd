-- States stay within their ranges: each change of bytes, stage or tables that a call makes keeps the tests of `in_range`. By cases on the
-- tests.
use mathlib.Core.Path.{◌≡◌, refl, sym, ap, ◌∙◌}
use mathlib.Core.Bool.{Bool, true, false, not, ◌&&◌, ◌||◌, false≢true, and-false}
use mathlib.Core.Logic.{◌⊎◌, inl, inr}
use Prim.Native.Nat.{ℕ, suc, ◌+◌, ◌/◌, ◌%◌, ◌≤◌, ◌<◌}
use native.Mathlib.Omega.{arith}
use borrow.Author.Tests.{eq-eqb, ne_eqb, eqb-true, eqb-false, le-leb, leb-true, ltb-true, ltb-false, lt-ltb, not-true}
use lib.Dec.{leb, ltb, eqb}
use Rattle.base.specs.Number.{pick}
use Rattle.base.proofs.Bools.{and_left, and_right}
use Rattle.writer.specs.declared.Operation.{Operation}
use Rattle.writer.specs.declared.Operation.TheVariants.{Erase, Write, Compare}
use Rattle.writer.specs.declared.Stage.{Stage}
use Rattle.writer.specs.declared.Stage.TheVariants.{Idle, Due, HeaderWritten, Committed}
use Rattle.writer.specs.declared.Contents.{Contents}
use Rattle.writer.specs.declared.Tables.{Tables}
use Rattle.writer.specs.declared.Writer.{Writer}
use Rattle.writer.specs.State.{position, is_due, write_due, data_due, first_due, stage_of, aligned, open_ok, in_range, active_ok, contents_ok, tables_ok, operation_ok, stage_ok, tail_size}
use Rattle.writer.proofs.Laws.{fill-fits, position-fits}
use Rattle.lower.specs.Lower.{closed_contents}
use Rattle.due.specs.Due.{emptied}
use Rattle.region.specs.Region.{capacity, sector_size}
use Rattle.header.specs.Header.{max_sources}

pub range-of : (w : Writer) → active_ok w.beginning.active ≡ true → contents_ok w.contents ≡ true → tables_ok (position w.contents) w.tables ≡ true
    → stage_ok w.beginning.comparing w.contents w.stage ≡ true → in_range w ≡ true
unfolding in_range
range-of w a t s o = rw (a, t, s, o)

pub or-true : (a : Bool) → (a || true) ≡ true
or-true true = refl
or-true false = refl

pub or_left : (a : Bool) → (a || false) ≡ true → a ≡ true
or_left true e = refl
or_left false e = e

pub or-both : (a b : Bool) → (a || b) ≡ false → (a ≡ false) × (b ≡ false)
or-both true b e = absurd (false≢true (sym e))
or-both false b e = (refl, e)

or-either : (a b : Bool) → (a || b) ≡ true → (a ≡ true) ⊎ (b ≡ true)
or-either true b e = inl refl
or-either false b e = inr e

pub true-false : {A : Type 0} (a : Bool) → a ≡ true → a ≡ false → A
true-false a e f = absurd (false≢true (sym f ∙ e))

-- ---- the bytes appended

pub open-aligned : (t : Contents) → contents_ok t ≡ true → t.closed ≡ false → t.written % tail_size ≡ 0
unfolding contents_ok
open-aligned t e c =
    let a = and_right (leb (position t) capacity) (aligned t) (and_right (leb t.fill tail_size) (leb (position t) capacity && aligned t) e) in
    let f : (eqb (t.written % tail_size) 0 || false) ≡ true = ap (λ (x : Bool). eqb (t.written % tail_size) 0 || (x && eqb t.fill 0)) (sym c) ∙ a in
    eqb-true (t.written % tail_size) 0 (or_left (eqb (t.written % tail_size) 0) f)

-- while the tail holds bytes, the number of bytes written is a multiple of 256
pub tail-aligned : (t : Contents) → contents_ok t ≡ true → 0 < t.fill → t.written % tail_size ≡ 0
unfolding contents_ok
tail-aligned t e p =
    let a = and_right (leb (position t) capacity) (aligned t) (and_right (leb t.fill tail_size) (leb (position t) capacity && aligned t) e) in
    let z : eqb t.fill 0 ≡ false = ne_eqb t.fill 0 (λ h. omega arith) in
    let f : (eqb (t.written % tail_size) 0 || false) ≡ true = ap (λ (x : Bool). eqb (t.written % tail_size) 0 || x) (sym (and-false t.closed) ∙ ap (λ (x : Bool). t.closed && x) (sym z)) ∙ a in
    eqb-true (t.written % tail_size) 0 (or_left (eqb (t.written % tail_size) 0) f)

pub due-fill : (t : Contents) → is_due t ≡ true → 0 < t.fill
unfolding is_due
due-fill t e = due-by (or-either (eqb t.fill tail_size) (t.closed && ltb 0 t.fill) e)
  where
    due-by : (eqb t.fill tail_size ≡ true) ⊎ ((t.closed && ltb 0 t.fill) ≡ true) → 0 < t.fill
    due-by (inl h) = omega (arith, eqb-true t.fill tail_size h)
    due-by (inr h) = ltb-true 0 t.fill (and_right t.closed (ltb 0 t.fill) h)

pub contents-of : (t : Contents) → t.fill ≤ tail_size → position t ≤ capacity → aligned t ≡ true → contents_ok t ≡ true
unfolding contents_ok
contents-of t a b c = rw (le-leb t.fill tail_size a, le-leb (position t) capacity b, c)

pub aligned-of : (t : Contents) → t.written % tail_size ≡ 0 → aligned t ≡ true
aligned-of t e = rw (eq-eqb (t.written % tail_size) 0 e)

-- the tail was written or compared
pub empty-contents : (t : Contents) (d : Bool) → contents_ok t ≡ true → is_due t ≡ true → contents_ok (emptied t d) ≡ true
unfolding is_due
empty-contents t d e f =
    contents-of (emptied t d) (omega arith) (omega (arith, position-fits t e)) (empty-by (or-either (eqb t.fill tail_size) (t.closed && ltb 0 t.fill) f))
  where
    empty-by : (eqb t.fill tail_size ≡ true) ⊎ ((t.closed && ltb 0 t.fill) ≡ true) → aligned (emptied t d) ≡ true
    empty-by (inl h) =
        let q = eqb-true t.fill tail_size h in
        let m = tail-aligned t e (omega arith) in
        aligned-of (emptied t d) (omega arith)
    empty-by (inr h) = rw (and_left t.closed (ltb 0 t.fill) h) (or-true (eqb ((t.written + t.fill) % tail_size) 0))

pub empty-idle : (t : Contents) (d c : Bool) → stage_ok c (emptied t d) Idle ≡ true
unfolding stage_ok is_due
empty-idle t d c = rw (and-false t.closed)

-- ---- stages

pub write-ok : (t : Contents) → operation_ok false t (write_due t) ≡ true
unfolding operation_ok
write-ok t = rw (eq-eqb t.written t.written refl, eq-eqb t.fill t.fill refl)

data-by : (t : Contents) (z : Bool) → eqb (t.written % sector_size) 0 ≡ z → operation_ok false t (pick z (Erase (t.written / sector_size + 1)) (write_due t)) ≡ true
unfolding operation_ok
data-by t true e = rw (e, eq-eqb (t.written / sector_size + 1) (t.written / sector_size + 1) refl) (or-true (eqb t.written 0 && eqb (t.written / sector_size + 1) 0))
data-by t false e = rw (eq-eqb t.written t.written refl, eq-eqb t.fill t.fill refl)

pub data-ok : (t : Contents) → operation_ok false t (data_due t) ≡ true
unfolding data_due
data-ok t = data-by t (eqb (t.written % sector_size) 0) refl

first_by : (t : Contents) (c z : Bool) → eqb t.written 0 ≡ z → operation_ok c t (pick c (Compare t.written t.fill) (pick z (Erase 0) (data_due t))) ≡ true
unfolding operation_ok
first_by t true z e = rw (eq-eqb t.written t.written refl, eq-eqb t.fill t.fill refl)
first_by t false true e = rw e
first_by t false false e = data-ok t

stage-by : (c : Bool) (t : Contents) (d : Bool) → is_due t ≡ d → stage_ok c t (pick d (Due (first_due c t)) Idle) ≡ true
unfolding stage_ok first_due
stage-by c t true e = rw e (first_by t c (eqb t.written 0) refl)
stage-by c t false e = rw e

pub stage-ok : (c : Bool) (t : Contents) → stage_ok c t (stage_of c t) ≡ true
unfolding stage_of
stage-ok c t = stage-by c t (is_due t) refl

-- a stage with an operation due
pub due-ok : (c : Bool) (t : Contents) (o : Operation) → stage_ok c t (Due o) ≡ true → (is_due t ≡ true) × (operation_ok c t o ≡ true)
unfolding stage_ok
due-ok c t o e = (and_left (is_due t) (operation_ok c t o) e, and_right (is_due t) (operation_ok c t o) e)

pub due-of : (c : Bool) (t : Contents) (o : Operation) → is_due t ≡ true → operation_ok c t o ≡ true → stage_ok c t (Due o) ≡ true
unfolding stage_ok
due-of c t o d e = rw (d, e)

pub erase-mode : (c : Bool) (t : Contents) (k : ℕ) → operation_ok c t (Erase k) ≡ true → c ≡ false
unfolding operation_ok
erase-mode true t k e = absurd (false≢true e)
erase-mode false t k e = refl

pub write-at : (t : Contents) (a n : ℕ) → operation_ok false t (Write a n) ≡ true → (a ≡ t.written) × (n ≡ t.fill)
unfolding operation_ok
write-at t a n e = (eqb-true a t.written (and_left (eqb a t.written) (eqb n t.fill) e), eqb-true n t.fill (and_right (eqb a t.written) (eqb n t.fill) e))

pub erase-zero : (t : Contents) → operation_ok false t (Erase 0) ≡ true → t.written ≡ 0
unfolding operation_ok
erase-zero t e = zero-by (or-either (eqb t.written 0 && eqb 0 0) (eqb (t.written % sector_size) 0 && eqb 0 (t.written / sector_size + 1)) e)
  where
    zero-by : ((eqb t.written 0 && eqb 0 0) ≡ true) ⊎ ((eqb (t.written % sector_size) 0 && eqb 0 (t.written / sector_size + 1)) ≡ true) → t.written ≡ 0
    zero-by (inl h) = eqb-true t.written 0 (and_left (eqb t.written 0) (eqb 0 0) h)
    zero-by (inr h) =
        let q = eqb-true 0 (t.written / sector_size + 1) (and_right (eqb (t.written % sector_size) 0) (eqb 0 (t.written / sector_size + 1)) h) in
        absurd (omega arith)

pub erase-data : (t : Contents) (k : ℕ) → operation_ok false t (Erase (suc k)) ≡ true → (t.written % sector_size ≡ 0) × (suc k ≡ t.written / sector_size + 1)
unfolding operation_ok
erase-data t k e = data_of (or-either (eqb t.written 0 && eqb (suc k) 0) (eqb (t.written % sector_size) 0 && eqb (suc k) (t.written / sector_size + 1)) e)
  where
    data_of : ((eqb t.written 0 && eqb (suc k) 0) ≡ true) ⊎ ((eqb (t.written % sector_size) 0 && eqb (suc k) (t.written / sector_size + 1)) ≡ true) → (t.written % sector_size ≡ 0) × (suc k ≡ t.written / sector_size + 1)
    data_of (inl h) =
        let q = eqb-true (suc k) 0 (and_right (eqb t.written 0) (eqb (suc k) 0) h) in
        absurd (omega arith)
    data_of (inr h) = (
      eqb-true (t.written % sector_size) 0 (and_left (eqb (t.written % sector_size) 0) (eqb (suc k) (t.written / sector_size + 1)) h),
      eqb-true (suc k) (t.written / sector_size + 1) (and_right (eqb (t.written % sector_size) 0) (eqb (suc k) (t.written / sector_size + 1)) h),
    )

pub headed-of : (c : Bool) (t : Contents) → c ≡ false → t.closed ≡ true → t.fill ≡ 0 → stage_ok c t HeaderWritten ≡ true
unfolding stage_ok
headed-of c t a b e = rw (a, b, e)

pub record AtEnd (c : Bool) (t : Contents) : Type 0 where
  pub writing : c ≡ false
  pub closed : t.closed ≡ true
  pub empty : t.fill ≡ 0

at-end : (c : Bool) (t : Contents) → (not c && (t.closed && eqb t.fill 0)) ≡ true → AtEnd c t
at-end c t e =
    let r = and_right (not c) (t.closed && eqb t.fill 0) e in
    record {
      writing = not-true c (and_left (not c) (t.closed && eqb t.fill 0) e);
      closed = and_left t.closed (eqb t.fill 0) r;
      empty = eqb-true t.fill 0 (and_right t.closed (eqb t.fill 0) r);
    }

pub headed-end : (c : Bool) (t : Contents) → stage_ok c t HeaderWritten ≡ true → AtEnd c t
unfolding stage_ok
headed-end c t e = at-end c t e

pub committed-end : (c : Bool) (t : Contents) → stage_ok c t Committed ≡ true → AtEnd c t
unfolding stage_ok
committed-end c t e = at-end c t e

pub committed-of : (c : Bool) (t : Contents) → stage_ok c t HeaderWritten ≡ true → stage_ok c t Committed ≡ true
unfolding stage_ok
committed-of c t e = e

pub idle-due : (c : Bool) (t : Contents) → stage_ok c t Idle ≡ true → is_due t ≡ false
unfolding stage_ok
idle-due c t e = not-true (is_due t) e

-- nothing is due after closing: the tail is empty
pub closed-empty : (t : Contents) → t.closed ≡ true → is_due t ≡ false → t.fill ≡ 0
unfolding is_due
closed-empty t c e =
    let f : ltb 0 t.fill ≡ false = ap (λ (x : Bool). x && ltb 0 t.fill) (sym c) ∙ (or-both (eqb t.fill tail_size) (t.closed && ltb 0 t.fill) e).1 in
    omega (arith, ltb-false 0 t.fill f)

-- nothing is due: the tail isn't full
pub idle-free : (t : Contents) → is_due t ≡ false → contents_ok t ≡ true → t.fill < tail_size
unfolding is_due
idle-free t e k =
    let ne : t.fill ≡ tail_size → ⊥ = eqb-false t.fill tail_size (or-both (eqb t.fill tail_size) (t.closed && ltb 0 t.fill) e).0 in
    omega (arith, fill-fits t k)

-- ---- closing

close-operation : (c : Bool) (t : Contents) (o : Operation) → operation_ok c t o ≡ true → operation_ok c (closed_contents t) o ≡ true
unfolding operation_ok
close-operation c t (Erase k) e = e
close-operation c t (Write a n) e = e
close-operation c t (Compare a n) e = e

close-due : (t : Contents) → is_due t ≡ true → is_due (closed_contents t) ≡ true
unfolding is_due
close-due t e = rw (lt-ltb 0 t.fill (due-fill t e)) (or-true (eqb t.fill tail_size))

pub close-stage : (c : Bool) (t : Contents) (st : Stage) → t.closed ≡ false → stage_ok c t st ≡ true → is_due t ≡ true → stage_ok c (closed_contents t) st ≡ true
close-stage c t Idle n e d = true-false (is_due t) d (idle-due c t e)
close-stage c t (Due o) n e d = due-of c (closed_contents t) o (close-due t d) (close-operation c t o (due-ok c t o e).1)
close-stage c t HeaderWritten n e d = true-false t.closed (headed-end c t e).closed n
close-stage c t Committed n e d = true-false t.closed (committed-end c t e).closed n

pub close-contents : (t : Contents) → contents_ok t ≡ true → t.closed ≡ false → contents_ok (closed_contents t) ≡ true
close-contents t e n = contents-of (closed_contents t) (fill-fits t e) (position-fits t e) (aligned-of (closed_contents t) (open-aligned t e n))

-- ---- tables

pub tables-none : (n : ℕ) (s : Tables) → s.count ≤ max_sources → s.table ≡ 8 → tables_ok n s ≡ true
unfolding tables_ok
tables-none n s h e = rw (le-leb s.count 3 h, e)

pub tables-open : (n : ℕ) (s : Tables) → s.count ≤ max_sources → s.table ≤ 7 → 1 ≤ s.count → s.start ≤ n → tables_ok n s ≡ true
unfolding tables_ok
tables-open n s h a b c = rw (le-leb s.count 3 h, le-leb s.table 7 a, le-leb 1 s.count b, le-leb s.start n c) (or-true (eqb s.table 8))

-- a later position
pub tables-later : (n m : ℕ) (s : Tables) → n ≤ m → tables_ok n s ≡ true → tables_ok m s ≡ true
unfolding tables_ok
tables-later n m s h e =
    rw (and_left (leb s.count 3) (eqb s.table 8 || open_ok n s) e)
    (later-by (or-either (eqb s.table 8) (open_ok n s) (and_right (leb s.count 3) (eqb s.table 8 || open_ok n s) e)))
  where
    later-by : (eqb s.table 8 ≡ true) ⊎ (open_ok n s ≡ true) → (eqb s.table 8 || open_ok m s) ≡ true
    later-by (inl q) = rw q
    later-by (inr q) =
        let r = and_right (leb s.table 7) (leb 1 s.count && leb s.start n) q in
        let k = leb-true s.start n (and_right (leb 1 s.count) (leb s.start n) r) in
        rw (and_left (leb s.table 7) (leb 1 s.count && leb s.start n) q, and_left (leb 1 s.count) (leb s.start n) r, le-leb s.start m (omega arith))
        (or-true (eqb s.table 8))
