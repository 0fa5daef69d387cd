-- `unchanged`: yes exactly when there is an active bank with these data, count, key length, dates and blocks.
use Rattle.std.specs.Prelude.{Bool, true, false, not, ◌&&◌, List, [], ◌∷◌, ℕ, eqb, length, Ok, Err, Some, None, Result, Option}
use Rattle.base.specs.Number.{pick}
use Rattle.refusal.specs.declared.Refusal.TheVariants.{Region, Turn}
use Rattle.record.specs.declared.Block.{Block}
use Rattle.record.specs.declared.Source.{Source}
use Rattle.header.specs.declared.Bank.{Bank}
use Rattle.region.specs.Region.{region_size, bank_of}
use Rattle.header.specs.Header.{records_of}
use Rattle.writer.specs.declared.Writer.{Writer}
use Rattle.writer.specs.declared.Answer.TheVariants.{Same, Different}
use Rattle.writer.specs.declared.Step.{Step}
use Rattle.writer.specs.State.{key_length, in_range, stays}
use Rattle.commit.specs.Commit.{is_idle, routes_offset, records_for}
use Rattle.refusal.specs.declared.Refusal.{Refusal}

-- all three numbers of a block are equal
abbrev pub same_block : Block → Block → Bool
same_block a b = eqb a.offset b.offset && (eqb a.length b.length && eqb a.crc b.crc)

-- f holds element by element, for as many as the first list has
unfoldable pub same_each : {A : Type 0} → (A → A → Bool) → List A → List A → Bool
same_each f [] ys = true
same_each f (a ∷ xs) [] = false
same_each f (a ∷ xs) (b ∷ ys) = f a b && same_each f xs ys

-- dates and blocks are equal
unfoldable pub same_source : Source → Source → Bool
same_source a b = eqb a.start b.start && (eqb a.end b.end && same_each same_block a.tables b.tables)

abbrev pub same_bank : List ℕ → Writer → Bank → Bool
same_bank region w b =
    not w.contents.different
    && (eqb w.contents.written b.length
    && (eqb w.tables.count b.count
    && (eqb (key_length (routes_offset w.sources)) b.key
    && same_each same_source (records_for w) (records_of b.version (bank_of region b.number) w.tables.count))))

unfoldable pub is_unchanged : List ℕ → Writer → Result (Option Bank) Refusal → Bool
is_unchanged region w (Ok (Some b)) = same_bank region w b
is_unchanged region w (Ok None) = false
is_unchanged region w (Err r) = false

-- 1, then 11 in writing mode, before closing, or while a call is due
abbrev pub may_ask : Writer → Bool
may_ask w = in_range w && (w.beginning.comparing && (w.contents.closed && is_idle w.stage))

unfoldable pub unchanged_step : List ℕ → Writer → Step
unchanged_step region w =
    pick (eqb (length region) region_size)
    (pick (may_ask w)
    (record { answer = pick (is_unchanged region w w.beginning.active) (Ok Same) (Ok Different); writer = w })
    (stays w Turn))
    (stays w Region)
