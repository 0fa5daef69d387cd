-- Lists of bytes: parts, joins and stores of bytes are bytes.
use mathlib.Core.List.{List, [], ◌∷◌}
use Prim.Native.Nat.{ℕ, zero, suc, ◌<◌}
use native.Mathlib.Omega.{arith}
use lib.ListN.{take, drop, set}
use lib.Seq.{sets}
use Rattle.base.specs.Lists.{fill}
use Rattle.header.specs.Types.{Bytes}

pub bytes-nil : Bytes []
bytes-nil zero = omega arith
bytes-nil (suc k) = omega arith

pub bytes-cons : (x : ℕ) (xs : List ℕ) → x < 256 → Bytes xs → Bytes (x ∷ xs)
bytes-cons x xs h b zero = h
bytes-cons x xs h b (suc k) = b k

pub bytes-fill : (x n : ℕ) → x < 256 → Bytes (fill x n)
unfolding fill
bytes-fill x zero h = bytes-nil
bytes-fill x (suc n) h = bytes-cons x (fill x n) h (bytes-fill x n h)

pub bytes_take : (n : ℕ) (xs : List ℕ) → Bytes xs → Bytes (take n xs)
bytes_take zero xs b = bytes-nil
bytes_take (suc n) [] b = bytes-nil
bytes_take (suc n) (x ∷ xs) b = bytes-cons x (take n xs) (b 0) (bytes_take n xs (λ k. b (suc k)))

pub bytes_drop : (n : ℕ) (xs : List ℕ) → Bytes xs → Bytes (drop n xs)
bytes_drop zero xs b = b
bytes_drop (suc n) [] b = b
bytes_drop (suc n) (x ∷ xs) b = bytes_drop n xs (λ k. b (suc k))

bytes-set : (xs : List ℕ) (i x : ℕ) → Bytes xs → x < 256 → Bytes (set xs i x)
bytes-set [] i x b h = b
bytes-set (y ∷ xs) zero x b h = bytes-cons x xs h (λ k. b (suc k))
bytes-set (y ∷ xs) (suc i) x b h = bytes-cons y (set xs i x) (b 0) (bytes-set xs i x (λ k. b (suc k)) h)

pub bytes-sets : (vs xs : List ℕ) (i : ℕ) → Bytes xs → Bytes vs → Bytes (sets xs i vs)
bytes-sets [] xs i b c = b
bytes-sets (v ∷ vs) xs i b c = bytes-sets vs (set xs i v) (suc i) (bytes-set xs i v b (c 0)) (λ k. c (suc k))
