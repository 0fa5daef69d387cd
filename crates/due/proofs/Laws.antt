-- The tail as it is written, padded to a multiple of 4; that the due operation of a state within its ranges is inside the bank; and the
-- call case by case.
use mathlib.Core.Path.{◌≡◌, refl, sym, ap, ◌∙◌}
use mathlib.Core.Bool.{Bool, true, false, not, ◌&&◌, ◌||◌}
use mathlib.Core.List.{List, [], ◌∷◌, ◌++◌, append-nil}
use mathlib.Core.Logic.{◌⊎◌, inl, inr}
use Prim.Native.Nat.{ℕ, ◌+◌, ◌-◌, ◌/◌, ◌%◌, ◌≤◌}
use native.Mathlib.Omega.{arith}
use lib.Dec.{eqb, leb, ltb}
use lib.ListN.{length, take, length-append}
use lib.Seq.{take_at, length-take-le, take-append-add}
use borrow.Author.Tests.{eqb-true, eq-eqb, ne_eqb, ltb-true}
use Rattle.base.specs.Number.{pick}
use Rattle.base.specs.Lists.{fill}
use Rattle.base.proofs.Lists.{fill-split, length-fill}
use Rattle.region.specs.Region.{region_size, bank_size, capacity, sector_size, last_sector}
use Rattle.base.proofs.Bools.{and_left, and_right}
use Rattle.flash.specs.Flash.{Op, offset, size, after, performed}
use Rattle.flash.proofs.Laws.{after-fits}
use Rattle.refusal.specs.declared.Refusal.TheVariants.{Region, Turn}
use Rattle.writer.specs.declared.Operation.{Operation}
use Rattle.writer.specs.declared.Operation.TheVariants.{Erase, Write, Compare}
use Rattle.writer.specs.declared.Stage.{Stage}
use Rattle.writer.specs.declared.Stage.TheVariants.{Idle, Due, HeaderWritten, Committed}
use Rattle.writer.specs.declared.Contents.{Contents}
use Rattle.writer.specs.declared.Writer.{Writer}
use Rattle.writer.specs.declared.Step.{Step}
use Rattle.writer.specs.State.{position, is_due, aligned, contents_ok, operation_ok, stage_ok, in_range, target, data_due, write_due, stays, tail_size, last_write}
use Rattle.writer.proofs.Laws.{ranged, fill-fits, position-fits}
use Rattle.due.specs.Due.{padded, ops_of, due_ops, due_region, differs, with_stage, with_emptied, operated, step_of, due_step}
use Rattle.std.specs.Prelude.{Ok, Err, Some, None, Result, Option}
use Rattle.refusal.specs.declared.Refusal.{Refusal}
use Rattle.header.specs.declared.Bank.{Bank}

-- ---- the tail as written

take-fill : (d p k : ℕ) → p ≤ k → take p (fill d k) ≡ fill d p
take-fill d p k h =
    let e : k ≡ p + (k - p) = omega arith in
    ap (λ (n : ℕ). take p (fill d n)) e ∙ ap (take p) (fill-split d p (k - p)) ∙ take_at (fill d p) (fill d (k - p)) p (length-fill d p)

pub padded-is : (tail : List ℕ) (n m : ℕ) → length tail ≡ tail_size → n ≤ tail_size → m ≡ n + (4 - n % 4) % 4 → m ≤ tail_size → take m (take n tail ++ fill 255 (tail_size - n)) ≡ padded (take n tail)
unfolding padded
padded-is tail n m l h e k =
    let p = (4 - n % 4) % 4 in
    let x : length (take n tail) ≡ n = length-take-le n tail (omega arith) in
    ap (λ (j : ℕ). take j (take n tail ++ fill 255 (tail_size - n))) (e ∙ ap (λ (j : ℕ). j + p) (sym x))
    ∙ take-append-add (take n tail) (fill 255 (tail_size - n)) p
    ∙ ap (λ (t : List ℕ). take n tail ++ t) (take-fill 255 p (tail_size - n) (omega arith))
    ∙ ap (λ (j : ℕ). take n tail ++ fill 255 ((4 - j % 4) % 4)) (sym x)

-- nothing is padded where the length is a multiple of 4
pub padded-whole : (tail : List ℕ) (n : ℕ) → length tail ≡ tail_size → n ≤ tail_size → n % 4 ≡ 0 → take n tail ≡ padded (take n tail)
unfolding padded fill
padded-whole tail n l h e =
    let x : length (take n tail) ≡ n = length-take-le n tail (omega arith) in
    sym (ap (λ (j : ℕ). take n tail ++ fill 255 ((4 - j % 4) % 4)) x ∙ ap (λ (j : ℕ). take n tail ++ fill 255 ((4 - j) % 4)) e ∙ append-nil (take n tail))

pub length-padded : (xs : List ℕ) → length xs ≤ tail_size → length (padded xs) ≤ tail_size
unfolding padded
length-padded xs h = omega (arith, length-append xs (fill 255 ((4 - length xs % 4) % 4)), length-fill {A = ℕ} 255 ((4 - length xs % 4) % 4))

-- ---- one operation on the bank that is written

pub target_fits : (l : Result (Option Bank) Refusal) → target l ≤ 1
unfolding target
target_fits (Ok (Some b)) = omega arith
target_fits (Ok None) = omega arith
target_fits (Err r) = omega arith

pub one-op : (region : List ℕ) (n : ℕ) (op : Op) → length region ≡ region_size → n ≤ 1 → offset op + size op ≤ bank_size → after n op region ≡ performed n (op ∷ []) region
unfolding performed
one-op region n op e h k = after-fits region n e h op k

-- ---- a state within its ranges: the offset of its operation

or_cases : (a b : Bool) → (a || b) ≡ true → (a ≡ true) ⊎ (b ≡ true)
or_cases true b e = inl refl
or_cases false b e = inr e

module _ (t : Contents) where
  some-by : (eqb t.fill tail_size ≡ true) ⊎ ((t.closed && ltb 0 t.fill) ≡ true) → 1 ≤ t.fill
  some-by (inl h) = omega (arith, eqb-true t.fill tail_size h)
  some-by (inr h) = ltb-true 0 t.fill (and_right t.closed (ltb 0 t.fill) h)

  -- the tail holds bytes if something is due
  pub fill-some : is_due t ≡ true → 1 ≤ t.fill
  unfolding is_due
  fill-some e = some-by (or_cases (eqb t.fill tail_size) (t.closed && ltb 0 t.fill) e)

  multiple-by : 1 ≤ t.fill → (eqb (t.written % tail_size) 0 ≡ true) ⊎ ((t.closed && eqb t.fill 0) ≡ true) → t.written % tail_size ≡ 0
  multiple-by h (inl e) = eqb-true (t.written % tail_size) 0 e
  multiple-by h (inr e) = absurd (omega (arith, eqb-true t.fill 0 (and_right t.closed (eqb t.fill 0) e)))

  multiple : contents_ok t ≡ true → 1 ≤ t.fill → t.written % tail_size ≡ 0
  unfolding contents_ok
  multiple e h =
      let p = leb (position t) capacity in
      let a = aligned t in
      multiple-by h (or_cases (eqb (t.written % tail_size) 0) (t.closed && eqb t.fill 0) (and_right p a (and_right (leb t.fill tail_size) (p && a) e)))

  -- and a whole tail fits in the data at its offset
  pub tail-fits : contents_ok t ≡ true → is_due t ≡ true → t.written ≤ last_write
  tail-fits e d = omega (arith, multiple e (fill-some d), fill-some d, position-fits t e)

  module _ (c : Bool) where
    sector-by : (k : ℕ) → t.written ≤ last_write → ((eqb t.written 0 && eqb k 0) ≡ true) ⊎ ((eqb (t.written % sector_size) 0 && eqb k (t.written / sector_size + 1)) ≡ true) → k ≤ last_sector
    sector-by k h (inl e) = omega (arith, eqb-true k 0 (and_right (eqb t.written 0) (eqb k 0) e))
    sector-by k h (inr e) = omega (arith, eqb-true k (t.written / sector_size + 1) (and_right (eqb (t.written % sector_size) 0) (eqb k (t.written / sector_size + 1)) e))

    pub sector-fits : (k : ℕ) → contents_ok t ≡ true → is_due t ≡ true → operation_ok c t (Erase k) ≡ true → k ≤ last_sector
    unfolding operation_ok
    sector-fits k e d o =
        let x = eqb t.written 0 && eqb k 0 in
        let y = eqb (t.written % sector_size) 0 && eqb k (t.written / sector_size + 1) in
        sector-by k (tail-fits e d) (or_cases x y (and_right (not c) (x || y) o))

    pub write-fits : (a n : ℕ) → contents_ok t ≡ true → is_due t ≡ true → operation_ok c t (Write a n) ≡ true → (n ≤ tail_size) × (a ≤ last_write)
    unfolding operation_ok
    write-fits a n e d o =
        let x = eqb a t.written in
        let y = eqb n t.fill in
        let r = and_right (not c) (x && y) o in
        (omega (arith, eqb-true n t.fill (and_right x y r), fill-fits t e), omega (arith, eqb-true a t.written (and_left x y r), tail-fits e d))

module _ (w : Writer) (o : Operation) (e : in_range w ≡ true) (s : w.stage ≡ Due o) where
  due-and : (is_due w.contents && operation_ok w.beginning.comparing w.contents o) ≡ true
  unfolding stage_ok
  due-and = sym (ap (stage_ok w.beginning.comparing w.contents) s) ∙ (ranged w e).stage

  pub is-due : is_due w.contents ≡ true
  is-due = and_left (is_due w.contents) (operation_ok w.beginning.comparing w.contents o) due-and

  pub is_ok : operation_ok w.beginning.comparing w.contents o ≡ true
  is_ok = and_right (is_due w.contents) (operation_ok w.beginning.comparing w.contents o) due-and

pub erase-ranged : (w : Writer) (k : ℕ) → in_range w ≡ true → w.stage ≡ Due (Erase k) → k ≤ last_sector
erase-ranged w k e s = sector-fits w.contents w.beginning.comparing k (ranged w e).contents (is-due w (Erase k) e s) (is_ok w (Erase k) e s)

pub write-ranged : (w : Writer) (a n : ℕ) → in_range w ≡ true → w.stage ≡ Due (Write a n) → (n ≤ tail_size) × (a ≤ last_write)
write-ranged w a n e s = write-fits w.contents w.beginning.comparing a n (ranged w e).contents (is-due w (Write a n) e s) (is_ok w (Write a n) e s)

-- ---- the state after it

pub due-next : (t : Contents) (k : ℕ) → k ≡ 0 → data_due t ≡ pick (eqb k 0) (data_due t) (write_due t)
due-next t k e = rw (eq-eqb k 0 e)

pub due-write : (t : Contents) (k : ℕ) → (k ≡ 0 → ⊥) → write_due t ≡ pick (eqb k 0) (data_due t) (write_due t)
due-write t k e = rw (ne_eqb k 0 e)

and-false : (a : Bool) → (a && false) ≡ false
and-false true = refl
and-false false = refl

module _ (region : List ℕ) (w : Writer) where
  pub erased : (k : ℕ) → with_stage w (Due (pick (eqb k 0) (data_due w.contents) (write_due w.contents))) ≡ operated region w (Erase k)
  unfolding operated
  erased k = refl

  pub written-tail : (a n : ℕ) → with_emptied w w.contents.different ≡ operated region w (Write a n)
  unfolding operated
  written-tail a n = refl

  pub compared : (a n : ℕ) → with_emptied w (w.contents.different || differs region w.beginning.active w.contents w.tail) ≡ operated region w (Compare a n)
  unfolding operated
  compared a n = refl

  -- ---- the call's cases

  pub due-stage : length region ≡ region_size → in_range w ≡ true → step_of region w w.stage ≡ due_step region w
  unfolding due_step
  due-stage e h = rw (eq-eqb (length region) region_size e, h)

  pub due-turn : length region ≡ region_size → in_range w ≡ false → stays w Turn ≡ due_step region w
  unfolding due_step
  due-turn e h = rw (eq-eqb (length region) region_size e, h)

  pub due-region : (length region ≡ region_size → ⊥) → stays w Region ≡ due_step region w
  unfolding due_step
  due-region e = rw (ne_eqb (length region) region_size e)

  pub region-stage : length region ≡ region_size → in_range w ≡ true → performed (target w.beginning.active) (ops_of w.tail w.stage) region ≡ due_region region w
  unfolding due_region due_ops
  region-stage e h = rw (eq-eqb (length region) region_size e, h)

  pub region-turn : in_range w ≡ false → region ≡ due_region region w
  unfolding due_region due_ops performed
  region-turn h = rw (h, and-false (eqb (length region) region_size))

  pub region-other : (length region ≡ region_size → ⊥) → region ≡ due_region region w
  unfolding due_region due_ops performed
  region-other e = rw (ne_eqb (length region) region_size e)

-- a step with only what an operation may change of the state
abbrev pub with_rest : Writer → Step → Step
with_rest w x =
    record {
      answer = x.answer;
      writer = record { stage = x.writer.stage; beginning = w.beginning; contents = x.writer.contents; tables = w.tables; sources = w.sources; tail = w.tail };
    }

module _ (region : List ℕ) (w : Writer) where
  picked-rest : (b : Bool) (x y : Step) → with_rest w x ≡ x → with_rest w y ≡ y → with_rest w (pick b x y) ≡ pick b x y
  picked-rest true x y e h = e
  picked-rest false x y e h = h

  stage-rest : (s : Stage) → with_rest w (step_of region w s) ≡ step_of region w s
  unfolding operated
  stage-rest (Due (Erase k)) = refl
  stage-rest (Due (Write a n)) = refl
  stage-rest (Due (Compare a n)) = refl
  stage-rest Idle = refl
  stage-rest HeaderWritten = refl
  stage-rest Committed = refl

  pub due-rest : with_rest w (due_step region w) ≡ due_step region w
  unfolding due_step
  due-rest =
      picked-rest (eqb (length region) region_size) (pick (in_range w) (step_of region w w.stage) (stays w Turn)) (stays w Region) (picked-rest (in_range w) (step_of region w w.stage) (stays w Turn) (stage-rest w.stage) refl) refl
