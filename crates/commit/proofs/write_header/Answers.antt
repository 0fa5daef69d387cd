-- One write of 1,200 bytes at offset 0 of the bank, which is inside (`one-op`).
use Rattle.std.proofs.Common.{rules, ◌≡◌, length, take, ℕ, List}
use Rattle.header.specs.WriteHeader.{header_bytes, blank_word}
use Rattle.commit.proofs.write_header.Goals as goal
use mathlib.Core.Path.{ap, ◌∙◌}
use native.Mathlib.Omega.{arith}
use Rattle.flash.specs.Flash.{write, written_in}
use Rattle.writer.specs.State.{did}
use Rattle.due.proofs.Laws.{one-op}

pub returns : goal.returns
returns c =
    let v = c in
    let h = v in
    let s = h in
    let a = s.args in
    let k : length h.header_bytes-bytes.result ≡ 1200 = search rules in (
      c.did.ensures ∙ ap did c.with_header_written-v.ensures,
      v.write.ensures ∙ ap (λ (xs : List ℕ). written_in a.region.now a.b.number 0 xs) h.header_bytes-bytes.ensures ∙ one-op a.region.now a.b.number (write 0 (header_bytes a.b (take a.b.count a.w.sources) blank_word)) s.requires.0 s.requires.1 (omega (arith, k, ap length h.header_bytes-bytes.ensures)),
    )
