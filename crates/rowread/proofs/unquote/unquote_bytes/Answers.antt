-- The invariant: the value is read and written up to p (`Unquoting`). Each turn adds a byte; two quotes are one.
use Rattle.std.proofs.Common.{◌≡◌, ◌+◌, ◌-◌, ◌<◌, length, true, false, []}
use Rattle.rowread.proofs.unquote.unquote_bytes.Goals as goal
use native.Mathlib.Omega.{arith}
use Rattle.rowread.proofs.unquote.unquote_bytes.Goals.{then-byte-eq-QUOTE+else-get8-ne-QUOTE, else-byte-eq-QUOTE, then-write, else-write}
use mathlib.Core.Path.{sym, ◌∙◌}
use lib.ListN.{get_or, set}
use Rattle.rfc4180.specs.Csv.{quote}
use Rattle.rowread.proofs.Laws.{inner-close}
use Rattle.rowread.proofs.Quoted.{both_ways, ByteAt, byte-plain, byte-twice, byte_fits, written_none, written_byte, un-whole, un-room, un-byte, un-bad}

pub returns-then-get8-ne-QUOTE : goal.returns-then-get8-ne-QUOTE
returns-then-get8-ne-QUOTE c =
    let a = c.args in
    let t = a.t.now in
    let l = c.loop-p in
    let h : l.p < length t = c.loop-p-test.true in
    let u = l.invariant in
    let q : get_or t l.p 0 ≡ quote = c.if-byte-eq-QUOTE.true in
    let w = un-whole u [] (l.p + 1) (l.n - a.to) l.out (inner-close t l.p h q (λ e. c.if-get8-ne-QUOTE.true (c.get8.ensures ∙ e))) (omega (arith, h)) (omega (arith, u.upto)) (written_none 0 a.write l.out l.n) in
    (w.0, w.1, (omega (arith, u.grows, u.upto), omega (arith, h)))

pub bounds-out-n : goal.bounds-out-n
bounds-out-n c =
    let a = c.args in
    let t = a.t.now in
    let l = c.loop-p in
    let h : l.p < length t = c.loop-p-test.true in
    let u = l.invariant in
    let q = c.if-byte-eq-QUOTE.p in
    let b : ByteAt t l.p q =
    elim c.if-byte-eq-QUOTE.branch [
      | then-byte-eq-QUOTE+else-get8-ne-QUOTE y ↦ byte-twice t l.p q h y.if-byte-eq-QUOTE.true (sym y.get8.ensures ∙ y.if-get8-ne-QUOTE.false) y.p-is
      | else-byte-eq-QUOTE y ↦ byte-plain t l.p q h y.if-byte-eq-QUOTE.false y.p-is
    ] in
    byte_fits 0 a.write l.out l.n b (omega (arith, u.grows, u.upto, c.requires.from_in_bounds.1)) (un-room u c.requires.room) c.if-write.true

pub loop-p-preserved : goal.loop-p-preserved
loop-p-preserved c =
    let a = c.args in
    let t = a.t.now in
    let l = c.loop-p in
    let h : l.p < length t = c.loop-p-test.true in
    let u = l.invariant in
    let q = c.if-byte-eq-QUOTE.p in
    let b : ByteAt t l.p q =
    elim c.if-byte-eq-QUOTE.branch [
      | then-byte-eq-QUOTE+else-get8-ne-QUOTE y ↦ byte-twice t l.p q h y.if-byte-eq-QUOTE.true (sym y.get8.ensures ∙ y.if-get8-ne-QUOTE.false) y.p-is
      | else-byte-eq-QUOTE y ↦ byte-plain t l.p q h y.if-byte-eq-QUOTE.false y.p-is
    ] in
    let o = c.if-write.out in
    let put : (a.write ≡ false → o ≡ l.out) × (a.write ≡ true → o ≡ set l.out l.n (get_or t l.p 0)) =
    elim c.if-write.branch [
      | then-write y ↦ (λ f. absurd (both_ways a.write y.if-write.true f), λ f. y.out-is)
      | else-write y ↦ (λ f. y.out-is, λ f. absurd (both_ways a.write f y.if-write.false))
    ] in
    un-byte u q o b (written_byte a.write l.out o l.n (get_or t l.p 0) put.0 put.1)

pub returns : goal.returns
returns c =
    let w = un-bad c.loop-p.invariant c.loop-p-test.false in
    (w.0, w.1, tt)
