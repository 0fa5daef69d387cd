-- The invariant is `Copied`: the values before mark k are written, with their ends. The value before the next mark is `copied-turn`, the last one
-- `copied-end`. What a block may overwrite after the values was saved, and is put back (`ahead-back`).
use Rattle.std.proofs.Common.{◌≡◌, ◌+◌, ◌-◌, ◌≤◌, ◌<◌, length, take, ℕ, List}
use Rattle.rowread.specs.Steps.{commas_in, text_in}
use Rattle.rowread.proofs.line.copy_line.Goals as goal
use Rattle.rowread.proofs.line.copy_line.Goals.{In-loop-k}
use native.Mathlib.Omega.{arith}
use mathlib.Core.Path.{refl}
use lib.ListN.{get_or, length-take}
use Rattle.rowread.proofs.Lines.{text-size}
use Rattle.rowread.proofs.Blocks.{ahead-back}
use Rattle.rowread.proofs.Values.{next-after, next-inside, next_fits, copied-turn, copied-end}

-- ---- what is asked of the line
module _ (t : List ℕ) (e n : ℕ) (fits : e + 16 ≤ length t) (many : n ≡ commas_in (take e t)) where
  inside : e ≤ length t
  inside = omega (arith, fits)

  few : n ≤ e
  few = omega (arith, many, text-size (take e t), length-take e t)

  text-sized : e - n ≡ length (text_in (take e t))
  text-sized = omega (arith, many, text-size (take e t), length-take e t, fits)

-- ---- a value that a comma follows
module _ (c : In-loop-k) where
  abbrev within : c.args.e ≤ length c.args.t.now
  within = inside c.args.t.now c.args.e c.args.n c.requires.block_size_in_bounds.0 c.requires.block_size_in_bounds.1

  -- its mark
  abbrev mark : ℕ
  mark = get_or c.args.marks.now c.loop-k.k 0

  mark-after : c.loop-k.to ≤ mark
  mark-after = next-after c.args.t.now c.args.e c.args.n c.args.marks.now within c.requires.block_size_in_bounds.1 c.requires.block_size_in_bounds.2 c.loop-k.invariant c.loop-k-test.true mark refl

  mark-inside : c.loop-k.from + (mark - c.loop-k.to) < c.args.e
  mark-inside = next-inside c.args.t.now c.args.e c.args.n c.args.marks.now within c.requires.block_size_in_bounds.1 c.requires.block_size_in_bounds.2 c.loop-k.invariant c.loop-k-test.true mark refl

  mark-fits : mark ≤ c.args.e - c.args.n
  mark-fits = next_fits c.args.t.now c.args.e c.args.n c.args.marks.now within c.requires.block_size_in_bounds.1 c.requires.block_size_in_bounds.2 c.loop-k.invariant c.loop-k-test.true mark refl

pub overflow_sub-e : goal.overflow_sub-e
overflow_sub-e c = few c.args.t.now c.args.e c.args.n c.requires.block_size_in_bounds.0 c.requires.block_size_in_bounds.1

pub overflow_sub-end : goal.overflow_sub-end
overflow_sub-end c = mark-after (goal.at.overflow_sub-end c).In-loop-k

pub copy_value-requires : goal.copy_value-requires
copy_value-requires c =
    let x = (goal.at.copy_value-requires c).In-loop-k in
    (omega (arith, c.requires.block_size_in_bounds.0, mark-inside x), omega (arith, c.requires.n_in_bounds.1, mark-fits x, mark-after x, c.loop-k.auto.out))

pub overflow_sub-from : goal.overflow_sub-from
overflow_sub-from c = mark-after (goal.at.overflow_sub-from c).In-loop-k

pub overflow_add-from : goal.overflow_add-from
overflow_add-from c = omega (arith, c.requires.block_size_in_bounds.0, mark-inside (goal.at.overflow_add-from c).In-loop-k)

pub overflow_add-from-in-loop-k : goal.overflow_add-from-in-loop-k
overflow_add-from-in-loop-k c = omega (arith, c.requires.block_size_in_bounds.0, mark-inside (goal.at.overflow_add-from-in-loop-k c).In-loop-k)

pub loop-k-preserved : goal.loop-k-preserved
loop-k-preserved c =
    let x = (goal.at.loop-k-preserved c).In-loop-k in
    let a = c.args in
    let l = c.loop-k in
    let k = c.loop-k-test.true in
    let e = c.copy_value.ensures in
    copied-turn a.t.now a.e a.n a.marks.now (within x) c.requires.block_size_in_bounds.1 c.requires.block_size_in_bounds.2 l.invariant k (mark x) refl _ _ e refl

-- ---- the last value
pub returns : goal.returns
returns c =
    let a = c.args in
    let t = a.t.now in
    let r = c.requires.block_size_in_bounds in
    let l = c.loop-k in
    let k = c.loop-k-test.false in
    let w = copied-end t a.e a.n a.marks.now (inside t a.e a.n r.0 r.1) r.1 r.2 l.invariant k _ _ (omega (arith, k)) c.copy_value-2.ensures refl in
    (ahead-back a.out.now (text_in (take a.e t)) _ _ _ _ (a.e - a.n) w.0 (text-sized t a.e a.n r.0 r.1) c.requires.n_in_bounds.1 refl c.copy_block.ensures c.copy_block-2.ensures, w.1)
