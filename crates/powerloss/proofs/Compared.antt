-- Comparing mode: after a compare `different` is false exactly if the active bank's data begin with the bytes compared before and with the
-- tail. The first bytes of the data are those compared before, then the ones at the tail's offset; so both parts are equal exactly if the
-- whole is.
use mathlib.Core.Path.{◌≡◌, refl, sym, ap, ◌∙◌}
use mathlib.Core.Bool.{Bool, true, false, not, ◌||◌}
use mathlib.Core.List.{List, [], ◌++◌, append-nil}
use Prim.Native.Nat.{ℕ, ◌+◌, ◌≤◌}
use native.Mathlib.Omega.{arith}
use borrow.Author.Tests.{leb-true, le-leb}
use lib.Dec.{leb}
use lib.ListN.{length, take, drop, length-append, length-drop}
use lib.Seq.{take-add, take_at, drop_at, drop-drop, length-take-le}
use Rattle.base.specs.Same.{same}
use Rattle.base.proofs.Same.{same-means, same_self}
use Rattle.region.specs.Region.{region_size, bank_size, sector_size, capacity, last_bank, bank_of, data_of}
use Rattle.flash.proofs.Laws.{length-bank}
use Rattle.header.specs.declared.Bank.{Bank}
use Rattle.writer.specs.declared.Contents.{Contents}
use Rattle.writer.specs.State.{position, active_ok}
use Rattle.due.specs.Due.{differs}
use Rattle.powerloss.proofs.Inv.{Begins, Told, Compared}
use Rattle.powerloss.proofs.Range.{or-both}
use Rattle.std.specs.Prelude.{Ok, Err, Some, None, Result, Option}
use Rattle.refusal.specs.declared.Refusal.{Refusal}

-- nothing is compared yet
pub none-compared : (region : List ℕ) (hd : Result (Option Bank) Refusal) → Told region hd [] false
unfolding data_of
none-compared region (Ok (Some b)) = (λ e. record { fits = omega arith; same = refl }, λ h. refl)
none-compared region (Ok None) = tt
none-compared region (Err r) = tt

not-false : (a : Bool) → not a ≡ false → a ≡ true
not-false true e = refl
not-false false e = sym e

or-false : (a b : Bool) → a ≡ false → b ≡ false → (a || b) ≡ false
or-false a b e f = rw (e, f)

module _ (region : List ℕ) (b : Bank) (front tail : List ℕ) (t : Contents) (c : length front ≡ t.written) (f : t.fill ≤ length tail) where
  abbrev ys : List ℕ
  ys = take t.fill tail

  -- the active bank's data, all of them
  abbrev xs : List ℕ
  xs = drop sector_size (bank_of region b.number)

  length-ys : length ys ≡ t.fill
  length-ys = length-take-le t.fill tail f

  length_both : length (front ++ ys) ≡ position t
  length_both = length-append front ys ∙ omega (arith, length-ys)

  -- the bytes at the tail's offset
  abbrev next : List ℕ
  next = take t.fill (drop (sector_size + t.written) (bank_of region b.number))

  next-is : next ≡ take t.fill (drop t.written xs)
  next-is = ap (take t.fill) (sym (drop-drop t.written sector_size (bank_of region b.number)))

  parts : data_of (bank_of region b.number) (position t) ≡ take t.written xs ++ next
  unfolding data_of
  parts = take-add t.written t.fill xs ∙ ap (λ (l : List ℕ). take t.written xs ++ l) (sym next-is)

  both-begin : Begins region b front → leb (position t) b.length ≡ true → same next ys ≡ true → Begins region b (front ++ ys)
  both-begin h l e =
      let g : take t.written xs ≡ front = ap (λ (n : ℕ). take n xs) (sym c) ∙ unfold data_of in h.same in
      record {
        fits = omega (arith, length_both, leb-true (position t) b.length l);
        same = ap (data_of (bank_of region b.number)) length_both ∙ parts ∙ (λ i. g i ++ same-means next ys e i);
      }

  module _ (s : position t ≤ length xs) (h : Begins region b (front ++ ys)) where
    first : length (take t.written xs) ≡ t.written
    first = length-take-le t.written xs (omega arith)

    whole : take t.written xs ++ next ≡ front ++ ys
    whole = sym parts ∙ ap (data_of (bank_of region b.number)) (sym length_both) ∙ h.same

    front-begins : Begins region b front
    unfolding data_of
    front-begins =
        record {
          fits = omega (arith, h.fits, length_both);
          same =
              ap (λ (n : ℕ). take n xs) c
              ∙ sym (take_at (take t.written xs) next t.written first)
              ∙ ap (take t.written) whole
              ∙ take_at front ys t.written c;
        }

    tail-fits : leb (position t) b.length ≡ true
    tail-fits = le-leb (position t) b.length (omega (arith, h.fits, length_both))

    tail-same : same next ys ≡ true
    tail-same =
        let e : next ≡ ys = sym (drop_at (take t.written xs) next t.written first) ∙ ap (drop t.written) whole ∙ drop_at front ys t.written c in
        rw e (same_self ys)

told-on : (region : List ℕ) (a : Result (Option Bank) Refusal) (front tail : List ℕ) (t : Contents) → length region ≡ region_size → active_ok a ≡ true → position t ≤ capacity → length front ≡ t.written → t.fill ≤ length tail
    → Told region a front t.different → Told region a (front ++ take t.fill tail) (t.different || differs region a t tail)
unfolding differs active_ok
told-on region (Ok (Some b)) front tail t l ok p c f h =
    let n : length (bank_of region b.number) ≡ bank_size = length-bank region b.number l (leb-true b.number last_bank ok) in
    let s : position t ≤ length (drop sector_size (bank_of region b.number)) = omega (arith, n, length-drop sector_size (bank_of region b.number)) in
    let bytes = same (take t.fill (drop (sector_size + t.written) (bank_of region b.number))) (take t.fill tail) in
    let fits = leb (position t) b.length in (
      λ e.
          let d = or-both t.different (not fits || not bytes) e in
          let q = or-both (not fits) (not bytes) d.1 in
          both-begin region b front tail t c f (h.0 d.0) (not-false fits q.0) (not-false bytes q.1),
      λ g.
          or-false t.different (not fits || not bytes) (h.1 (front-begins region b front tail t c f s g))
          (or-false (not fits) (not bytes) (ap not (tail-fits region b front tail t c f s g)) (ap not (tail-same region b front tail t c f s g))),
    )
told-on region (Ok None) front tail t l ok p c f h = tt
told-on region (Err r) front tail t l ok p c f h = tt

-- the tail is compared: it is empty, and its bytes are among those compared
pub tail-compared : (region : List ℕ) (a : Result (Option Bank) Refusal) (t : Contents) (tail d : List ℕ) → length region ≡ region_size → active_ok a ≡ true → position t ≤ capacity → t.fill ≤ length tail
    → Compared region a t.written t.fill t.different tail d → Compared region a (position t) 0 (t.different || differs region a t tail) tail d
tail-compared region a t tail d l ok p f h =
    record {
      front = h.front ++ take t.fill tail;
      count = length-append h.front (take t.fill tail) ∙ omega (arith, h.count, length-take-le t.fill tail f);
      all = h.all ∙ sym (append-nil (h.front ++ take t.fill tail));
      told = told-on region a h.front tail t l ok p h.count f h.told;
    }
