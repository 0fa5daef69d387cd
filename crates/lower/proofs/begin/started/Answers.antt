-- The state field by field; new arrays are the definition's fills (`replicate-fill`).
use Rattle.std.proofs.Common.{ℕ, false, w64}
use Rattle.lower.proofs.begin.started.Goals as goal
use mathlib.Core.Path.{ap, ◌∙◌}
use mir.ValLaws.{to_z-of_z}
use lib.ListN.{replicate}
use Rattle.base.proofs.Lists.{replicate-fill}
use Rattle.record.specs.Record.{no_source}
use Rattle.lower.specs.Lower.{started}
use Rattle.writer.specs.declared.Stage.TheVariants.{Idle}
use Rattle.writer.specs.State.{tail_size}
use Rattle.header.specs.Header.{max_sources}

pub returns : goal.returns
unfolding started
returns c =
    let a = c.args in
    let z = to_z-of_z w64 a.now c.ranges.now in
    let ss = ap (replicate max_sources) c.no_source.ensures ∙ replicate-fill no_source max_sources in
    let ts = replicate-fill {A = ℕ} 0 tail_size in
    λ i. record {
      stage = Idle;
      beginning = record { active = a.active; comparing = a.comparing; now = z i };
      contents = record { written = 0; fill = 0; crc = 0; different = false; closed = false };
      tables = record { count = 0; table = 8; start = 0; crc = 0; begun = 0 };
      sources = ss i;
      tail = ts i;
    }
