-- Both CRCs go on over the n bytes, the tail's fill grows by n, and the stage follows: together `with_bytes`.
use Rattle.std.proofs.Common.{ℕ, ◌+◌, take}
use Rattle.std.proofs.lemmas.List.Edits.{sets}
use Rattle.lower.proofs.append.first_appended.Goals as goal
use mathlib.Core.Path.{refl, sym, ap, ◌∙◌}
use native.Mathlib.Nat.{sub-zero}
use lib.Seq.{length-take-le}
use Rattle.leaf.specs.Crc.{crc32}
use Rattle.writer.specs.State.{stage_of}
use Rattle.lower.specs.Lower.{with_bytes}

pub returns : goal.returns
unfolding with_bytes
returns c =
    let g = c in
    let k = g in
    let s = k in
    let a = s.args in
    let n = a.n in
    let xs = a.bytes.now in
    let t = a.p.contents in
    let l = sym (length-take-le n xs s.requires.0) in
    let x = k.crc32_both-crcs.ensures.0 ∙ ap (λ (m : ℕ). crc32 t.crc (take m xs)) (sub-zero n) in
    let y = k.crc32_both-crcs.ensures.1 ∙ ap (λ (m : ℕ). crc32 a.p.tables.crc (take m xs)) (sub-zero n) in (
      refl,
      refl,
      s.requires.1,
      λ ss tail. λ i. record {
        stage = (g.stage_of-stage.ensures ∙ (λ j. stage_of a.b.comparing (record { written = t.written; fill = t.fill + l j; crc = x j; different = t.different; closed = t.closed }))) i;
        beginning = a.b;
        contents = record { written = t.written; fill = t.fill + l i; crc = x i; different = t.different; closed = t.closed };
        tables = record { count = a.p.tables.count; table = a.p.tables.table; start = a.p.tables.start; crc = y i; begun = a.p.tables.begun };
        sources = ss;
        tail = sets tail t.fill (take n xs);
      },
    )
