-- Laws of a cut: the region that it leaves and the number of operations done then, operation by operation. Other proofs cite these, not the
-- definitions. With no byte of the next operation done it is a cut between two operations.
use Rattle.std.specs.Prelude.{Some, None, Option}
use mathlib.Core.Path.{◌≡◌, refl, sym, ap, ◌∙◌}
use mathlib.Core.Bool.{Bool, true, false}
use mathlib.Core.List.{List, [], ◌∷◌, ◌++◌}
use Prim.Native.Nat.{ℕ, zero, suc, ◌+◌, ◌≤◌, ◌<◌}
use native.Mathlib.Nat.{suc-add}
use borrow.Author.Tests.{le-leb, lt-leb, leb-true, leb-false}
use lib.Dec.{leb}
use lib.IntN.{ℤ}
use lib.ListN.{length, take}
use Rattle.base.specs.Number.{pick}
use Rattle.region.specs.Region.{region_size, bank_of}
use Rattle.bank.specs.Bank.{loaded}
use Rattle.flash.specs.Flash.{Op, size, torn, applied, performed}
use Rattle.flash.proofs.Laws.{done-zero, torn-none, torn-whole, length-applied}
use Rattle.writer.specs.declared.Writer.{Writer}
use Rattle.writer.specs.State.{target}
use Rattle.lower.specs.Lower.{started}
use Rattle.run.specs.Run.{Lower, lower_ops}
use Rattle.upper.specs.Upper.{Upper, upper_ops, begin_ops}
use Rattle.powerloss.specs.History.{Update, History, after_lower_cut}
use Rattle.powerloss.specs.Machine.{Run, cut, begin_key_cut, upper_cut, cut_at, done_at, on_cut, on_upper_cut, next}
use Rattle.powerloss.specs.Claim.{Torn, EveryTyped, CutTyped, NoneOpen, Dropped, Sized, Between}

-- no operations: nothing is torn, and none is done
pub cut-none : (n k j : ℕ) (region : List ℕ) → cut_at n k j [] region ≡ region
unfolding cut_at
cut-none n k j region = refl

pub done_none : (k j : ℕ) → done_at k j [] ≡ 0
unfolding done_at
done_none k j = refl

module _ (n : ℕ) (op : Op) (ops : List Op) (region : List ℕ) where
  -- inside the first operation
  pub cut_inside : (j : ℕ) → cut_at n zero j (op ∷ ops) region ≡ torn n j op region
  unfolding cut_at
  cut_inside j = refl

  -- after it
  pub cut-after : (k j : ℕ) → cut_at n (suc k) j (op ∷ ops) region ≡ cut_at n k j ops (applied n op region)
  unfolding cut_at
  cut-after k j = refl

-- an operation is done once all its bytes are
module _ (op : Op) (ops : List Op) where
  pub done-inside : (j : ℕ) → j < size op → done_at zero j (op ∷ ops) ≡ 0
  unfolding done_at
  done-inside j h = rw (lt-leb (size op) j h)

  pub done_at_end : (j : ℕ) → size op ≤ j → done_at zero j (op ∷ ops) ≡ 1
  unfolding done_at
  done_at_end j h = rw (le-leb (size op) j h)

  pub done-after : (k j : ℕ) → done_at (suc k) j (op ∷ ops) ≡ suc (done_at k j ops)
  unfolding done_at
  done-after k j = refl

-- ---- cuts between operations

region-between : (n k : ℕ) (ops : List Op) (region : List ℕ) → n ≤ 1 → length region ≡ region_size → cut_at n k 0 ops region ≡ performed n (take k ops) region
unfolding performed
region-between n zero [] region h e = cut-none n zero 0 region
region-between n (suc k) [] region h e = cut-none n (suc k) 0 region
region-between n zero (op ∷ ops) region h e = cut_inside n op ops region 0 ∙ torn-none region n e h 0 op (done-zero op (bank_of region n))
region-between n (suc k) (op ∷ ops) region h e =
    cut-after n op ops region k 0 ∙ region-between n k ops (applied n op region) h (length-applied region n e h op)

done-between : (k : ℕ) (ops : List Op) → Sized ops → done_at k 0 ops ≡ length (take k ops)
done-between zero [] s = done_none zero 0
done-between (suc k) [] s = done_none (suc k) 0
done-between zero (op ∷ ops) s = done-inside op ops 0 s.0
done-between (suc k) (op ∷ ops) s = done-after op ops k 0 ∙ ap suc (done-between k ops s.1)

-- ---- every call's cuts

-- inside the operation that follows those before it
cut-at : (n j : ℕ) (before rest : List Op) (op : Op) (region : List ℕ) → cut_at n (length before) j (before ++ (op ∷ rest)) region ≡ torn n j op (performed n before region)
unfolding performed
cut-at n j [] rest op region = cut_inside n op rest region j
cut-at n j (first ∷ before) rest op region = cut-after n first (before ++ (op ∷ rest)) region (length before) j ∙ cut-at n j before rest op (applied n first region)

number_by : (j : ℕ) (op : Op) (rest : List Op) (t : Bool) → leb (size op) j ≡ t → done_at zero j (op ∷ rest) ≡ 0 + pick t 1 0
number_by j op rest true e = done_at_end op rest j (leb-true (size op) j e)
number_by j op rest false e = done-inside op rest j (leb-false (size op) j e)

number_at : (before rest : List Op) (op : Op) (j : ℕ) → done_at (length before) j (before ++ (op ∷ rest)) ≡ length before + pick (leb (size op) j) 1 0
number_at [] rest op j = number_by j op rest (leb (size op) j) refl
number_at (first ∷ before) rest op j =
    done-after first (before ++ (op ∷ rest)) (length before) j ∙ ap suc (number_at before rest op j) ∙ sym (suc-add (length before) (pick (leb (size op) j) 1 0))

lower-at : (c : Lower) (k j : ℕ) (r : Run) (w : Writer) → r.state ≡ Some w → (next r (cut c k j)).region ≡ cut_at (target w.beginning.active) k j (lower_ops r.region w c) r.region
unfolding next on_cut
lower-at c k j r w e = rw e

upper-at : (c : Upper) (k j : ℕ) (r : Run) (w : Writer) → r.state ≡ Some w → (next r (upper_cut c k j)).region ≡ cut_at (target w.beginning.active) k j (upper_ops r.region w c) r.region
unfolding next on_upper_cut
upper-at c k j r w e = rw e

begin-at : (r : Run) (comparing : Bool) (now : ℤ) (identity texts lengths : List ℕ) (k j : ℕ)
    → (next r (begin_key_cut comparing now identity texts lengths k j)).region ≡ cut_at (target (loaded r.region)) k j (begin_ops r.region comparing now identity texts lengths) r.region
unfolding next started
begin-at r comparing now identity texts lengths k j = refl

pub torn-calls : Torn
torn-calls =
    record {
      lower = λ r w c before rest op j e f. lower-at c (length before) j r w e ∙ rw f (cut-at (target w.beginning.active) j before rest op r.region);
      upper = λ r w c before rest op j e f. upper-at c (length before) j r w e ∙ rw f (cut-at (target w.beginning.active) j before rest op r.region);
      beginning = λ r comparing now identity texts lengths before rest op j f.
          begin-at r comparing now identity texts lengths (length before) j ∙ rw f (cut-at (target (loaded r.region)) j before rest op r.region);
      whole = λ n j op region h e l. torn-whole region n e h j op l;
      number = number_at;
    }

pub every-typed : EveryTyped
every-typed =
    record {
      beginning = λ comparing now f. (f, f);
      upper_beginning = λ comparing now identity texts lengths f i t. (f, i, t);
      source· = λ s p. (p, p);
      table· = λ t. (tt, tt);
      bytes· = λ xs b. b;
      row· = λ texts lengths b. b;
      stamped = λ stamp current f. f;
      unstamped = λ current. tt;
      lower = (tt, tt, tt, tt, tt);
      upper· = (tt, tt);
      none· = tt;
      more = λ e es p q. (p, q);
    }

pub cut-typed : CutTyped
cut-typed = record { lower = λ c k j p. p; upper = λ c k j p. p; beginning = λ comparing now identity texts lengths k j p. p }

-- ---- a cut drops the update

no-open : (c : Lower) (n : ℕ) (h : History) (v : Option Update) → (after_lower_cut c n h v).open· ≡ None
unfolding after_lower_cut
no-open c n h None = refl
no-open c n h (Some u) = refl

drops : (c : Lower) (k j : ℕ) (r : Run) (w : Writer) → r.state ≡ Some w → NoneOpen (next r (cut c k j))
unfolding next on_cut
drops c k j r w e = rw e (refl, no-open c (done_at k j (lower_ops r.region w c)) r.history r.history.open·)

upper-drops : (c : Upper) (k j : ℕ) (r : Run) (w : Writer) → r.state ≡ Some w → NoneOpen (next r (upper_cut c k j))
unfolding next on_upper_cut
upper-drops c k j r w e = rw e (refl, refl)

pub dropped : Dropped
unfolding next
dropped =
    record {
      lower = λ r w c k j e. drops c k j r w e;
      upper = λ r w c k j e. upper-drops c k j r w e;
      lower_beginning = λ r comparing now. (refl, refl);
      beginning = λ r comparing now identity texts lengths k j. (refl, refl);
    }

pub between : Between
between = record { region = region-between; number = done-between }
