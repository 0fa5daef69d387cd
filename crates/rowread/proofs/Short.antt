-- A short row: what reads as a row among the first bytes is a row of them all, since a row doesn't depend on what follows it; and the buffer has its
-- values, whatever the last block left after them.
use Prim.Native.Nat.{ℕ, ◌+◌, ◌-◌, ◌≤◌}
use native.Mathlib.Omega.{arith}
use mathlib.Core.Path.{◌≡◌, refl, sym, ap, ◌∙◌}
use mathlib.Core.List.{List, ◌++◌, append_assoc}
use lib.ListN.{length, take, drop, length-take, length-drop}
use lib.Seq.{sets, sets-eq, take_at}
use Rattle.rfc4180.specs.Csv.{Record}
use Rattle.rfc4180.specs.Read.{Row, row, malformed, values}
use Rattle.rfc4180.proofs.Grammar.{sound}
use Rattle.rfc4180.proofs.Frame.{part-row}
use Rattle.rowread.specs.Stored.{values_of, joined, ends_of}
use Rattle.rowread.proofs.Spans.{span-parts}
use Rattle.rowread.specs.Steps.{spanned, scan_from, scan_of, IsRow, Ahead, Holds}
use Rattle.rowread.proofs.Blocks.{ahead-closed, take-sets}
use Rattle.rowread.proofs.Calls.{length-ends}
use Rattle.rowread.proofs.Copies.{joined-size}

pub record ShortRow (t s : List ℕ) (width next size : ℕ) : Type 0 where
  pub is_row : IsRow (values width s)
  pub read : Record t (values_of (values width s)) (drop next t)
  pub many : length (values_of (values width s)) ≡ width
  pub sized : size ≡ length (joined (values_of (values width s)))
  pub inside : next ≤ length t
  pub small : size ≤ length s

pub short-of : (n : ℕ) (t s : List ℕ) (width next size : ℕ) → s ≡ take n t → spanned next size ≡ scan_of width s → ShortRow t s width next size
unfolding scan_of
short-of n t s width next size e q = go (values width s) refl q
  where
    go : (g : Row) → values width s ≡ g → spanned next size ≡ scan_from (length s) 0 g → ShortRow t s width next size
    go malformed d i = absurd (let z : ◌≡◌ {A = ℕ} 0 1 = cc in omega arith)
    go (row vs r) d i =
        let c = span-parts next size (length s - length r) (0 + length (joined vs)) i in
        let a = c.0 in
        let b = c.1 in
        let x = sound width s vs r d in
        let y : length (take n t) - length r ≡ next = rw (← e) (sym a) in
        record {
          is_row = rw d tt;
          read = rw (d, ← y) (part-row n t (rw e at x.0));
          many = rw d x.1;
          sized = rw d (omega (arith, b));
          inside = omega (arith, a, ap length e, length-take n t);
          small = omega (arith, b, joined-size x.0);
        }

-- the buffer's first bytes
pub ahead-take : (out v o : List ℕ) (n : ℕ) → Ahead 16 out 0 v o → n ≡ length v → n + 16 ≤ length out → take n o ≡ v
ahead-take out v o n a m h =
    let s : List ℕ = take 16 (drop n out) in
    let l : length s ≡ 16 = omega (arith, length-take 16 (drop n out), length-drop n out) in
    let p : List ℕ = sets o n s in
    let f : length (take n o) ≡ n = omega (arith, length-take n o, a.0) in
    let c : p ≡ sets out 0 v = ahead-closed out v o s p n a m refl h refl in
    let d : take n p ≡ take n o = ap (take n) (sets-eq s o n (omega (arith, l, a.0)) ∙ append_assoc (take n o) s (drop (n + length s) o)) ∙ take_at (take n o) (s ++ drop (n + length s) o) n f in
    sym d ∙ ap (take n) c ∙ take-sets out v n m (omega arith)

-- all of it: the values went from the buffer to the output, and their ends from `marks`
pub short-holds : (t s : List ℕ) (width next size : ℕ) (held held' marks marks' out ends o e : List ℕ) → ShortRow t s width next size
    → Ahead 16 held 0 (joined (values_of (values width s))) held' → size + 16 ≤ length held → marks' ≡ sets marks 0 (ends_of 0 (values_of (values width s))) → width ≤ length marks
    → size ≤ length out → width ≤ length ends → o ≡ sets out 0 (take size held') → e ≡ sets ends 0 (take width marks') → Holds t 0 0 0 width out ends o e next size
short-holds t s width next size held held' marks marks' out ends o e x a h m w k l b c =
    let vs = values_of (values width s) in
    let y : length (ends_of 0 vs) ≡ width = length-ends 0 vs ∙ x.many in
    record {
      values = vs;
      read = x.read;
      many = omega (arith, x.many);
      sized = omega (arith, x.sized);
      inside = x.inside;
      fits = k;
      slots = l;
      bytes = b ∙ ap (sets out 0) (ahead-take held (joined vs) held' size a x.sized h);
      marks = c ∙ ap (sets ends 0) (ap (take width) m ∙ take-sets marks (ends_of 0 vs) width (sym y) w);
    }
