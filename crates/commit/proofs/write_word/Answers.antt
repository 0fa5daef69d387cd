-- One write of 4 bytes at offset 44 of the bank that isn't active, which is inside (`one-op`).
use Rattle.std.proofs.Common.{rules, ◌≡◌, length}
use Rattle.header.specs.WriteHeader.{commit_bytes}
use Rattle.header.specs.Header.{commit_offset}
use Rattle.commit.proofs.write_word.Goals as goal
use mathlib.Core.Path.{ap, ◌∙◌}
use native.Mathlib.Omega.{arith}
use Rattle.flash.specs.Flash.{write, written_in}
use Rattle.writer.specs.State.{did, target}
use Rattle.due.proofs.Laws.{target_fits, one-op}

pub returns : goal.returns
returns c =
    let v = c in
    let x = v in
    let t = x in
    let s = t in
    let a = s.args in
    let l = a.w.beginning.active in
    let k : length x.commit_bytes-word.result ≡ 4 = search rules in (
      c.did.ensures ∙ ap did c.committed-v.ensures,
      v.write.ensures ∙ (λ i. written_in a.region.now (t.target-bank.ensures i) 44 (x.commit_bytes-word.ensures i)) ∙ one-op a.region.now (target l) (write commit_offset commit_bytes) s.requires (target_fits l) (omega (arith, k, ap length x.commit_bytes-word.ensures)),
    )
