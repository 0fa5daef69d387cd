-- The buffer is long enough for all of the first 1,024 bytes, so a row may be read into it that isn't known to be one (`Ample`). If it is one, the values go from the
-- buffer to the output and their ends from `marks` (`short-holds`). On every other path nothing was written.
use Rattle.std.proofs.Common.{◌≡◌, ◌-◌, ◌≤◌, length, drop, ℕ, List}
use Rattle.rowread.proofs.exact.short_row.Goals as goal
use Rattle.rowread.proofs.exact.short_row.Goals.{In_ok-scan}
use native.Mathlib.Omega.{arith}
use mathlib.Core.Logic.{inr}
use mathlib.Core.Path.{refl, ap}
use lib.ListN.{take, length-take}
use Rattle.rowread.proofs.Blocks.{ahead-back, part-put}
use Rattle.rowread.proofs.Short.{ShortRow, short-of, short-holds}

-- there is a row
module _ (c : In_ok-scan) where
  abbrev next : ℕ
  next = c.in_ok-scan.scan.next

  abbrev size : ℕ
  size = c.in_ok-scan.scan.size

  abbrev first-bytes : List ℕ
  first-bytes = c.part-s.result.now

  the_row : ShortRow c.args.t.now first-bytes c.args.width next size
  the_row = short-of 1024 c.args.t.now first-bytes c.args.width next size c.part-s.ensures c.in_ok-scan.ensures.0

  -- the buffer and the ends after it was read
  abbrev held : List ℕ
  held = c.row.new.out

  abbrev marks : List ℕ
  marks = c.row.new.ends

  short : size ≤ 1024
  short = omega (arith, the_row.small, ap length c.part-s.ensures, length-take 1024 (drop 0 c.args.t.now))

pub row-requires : goal.row-requires
row-requires c =
    let t = c.args.t.now in
    λ w. (inr (omega (arith, ap length c.part-s.ensures, length-take 1024 (drop 0 t))), omega (arith, c.if-width-gt-MAX_COLUMNS.false))

pub overflow_add-scan : goal.overflow_add-scan
overflow_add-scan c = omega (arith, short (goal.at.overflow_add-scan c).In_ok-scan)

pub copy_value-requires : goal.copy_value-requires
copy_value-requires c =
    (omega (arith, short (goal.at.copy_value-requires c).In_ok-scan, c.in_ok-scan.ensures.1.same), omega (arith, c.if-out-scan.false))

pub returns : goal.returns
returns c =
    let x = (goal.at.returns c).In_ok-scan in
    let a = c.args in
    let w = c.in_ok-scan.ensures.1 in
    let v = w.ahead refl (the_row x).is_row in
    let y = c.if-out-scan.false in
    let n : size x ≡ length (take (size x) (held x)) = omega (arith, length-take (size x) (held x), short x, w.same) in
    let o = ahead-back a.out.now (take (size x) (held x)) _ _ _ _ (size x) c.copy_value.ensures n (omega (arith, y)) refl c.copy_block.ensures c.copy_block-2.ensures in
    let m : a.width ≤ 10 = c.if-width-gt-MAX_COLUMNS.false in
    let z : a.width - 0 ≡ a.width = omega arith in
    let k : length (take a.width (marks x)) ≡ a.width = omega (arith, length-take a.width (marks x), w.alike, m) in
    let e = part-put a.ends.now 0 (a.width - 0) c.copy_from_slice.new.self (take a.width (marks x)) (omega (arith, k, c.if-ends-width.false)) (omega (arith, k)) (rw z at c.copy_from_slice.ensures.after) in
    short-holds a.t.now (first-bytes x) a.width (next x) (size x) _ (held x) _ (marks x) a.out.now a.ends.now _ _ (the_row x) v.0 (omega (arith, short x)) v.1 (omega (arith, c.if-width-gt-MAX_COLUMNS.false)) (omega (arith, y)) c.if-ends-width.false o e
