-- If 384 bytes fit at `at`, `put_source` stores them; else `written` changes nothing.
use Rattle.std.proofs.Common.{◌≡◌, ◌+◌, length, false}
use Rattle.record.specs.Record.{source_bytes}
use Rattle.record.proofs.encode.Goals as goal
use mathlib.Core.Path.{sym, ◌∙◌}
use native.Mathlib.Omega.{arith}
use borrow.Author.Tests.{lt-leb}
use lib.Dec.{leb}
use Rattle.leaf.proofs.Laws.{written-sets, written-not}
use Rattle.record.proofs.Laws.{length-source}

pub returns-then-at-out : goal.returns-then-at-out
returns-then-at-out c =
    c.put_source.ensures ∙ sym (written-sets c.args.out.now c.args.at (source_bytes c.args.s) (rw (length-source c.args.s c.is_sized.ensures) (omega arith)))

pub returns-else-at-out : goal.returns-else-at-out
returns-else-at-out c =
    let e : leb (c.args.at + length (source_bytes c.args.s)) (length c.args.out.now) ≡ false = rw (length-source c.args.s c.is_sized.ensures) (lt-leb (c.args.at + 384) (length c.args.out.now) (omega arith)) in
    sym (written-not c.args.out.now c.args.at (source_bytes c.args.s) e)

pub returns-else-out-ge-RECORD_SIZE : goal.returns-else-out-ge-RECORD_SIZE
returns-else-out-ge-RECORD_SIZE c =
    let e : leb (c.args.at + length (source_bytes c.args.s)) (length c.args.out.now) ≡ false = rw (length-source c.args.s c.is_sized.ensures) (lt-leb (c.args.at + 384) (length c.args.out.now) (omega arith)) in
    sym (written-not c.args.out.now c.args.at (source_bytes c.args.s) e)
