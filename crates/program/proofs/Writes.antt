-- A part of a slice that is overwritten whole: its elements are stored one after the other.
use Rattle.std.proofs.Common.{◌≡◌, ℕ, ◌+◌, ◌-◌, ◌<◌, ◌≤◌, min, List, length, take, drop, replicate, sym, arith, append_assoc}
use Rattle.std.proofs.lemmas.List.{drop-drop, length-drop, take_min, length-take-le, length-replicate}
use Rattle.std.proofs.lemmas.List.Edits.{sets, sets-eq}
use borrow.Rule.Slice.PartMut.{put_mid}

pub mid-sets : (at k : ℕ) (o v : List ℕ) → k ≡ length v → at + length v ≤ length o → put_mid at k o v ≡ sets o at v
mid-sets at k o v e h = rw (e, sets-eq v o at h, drop-drop (length v) at o, append_assoc)

pub copied : (at n : ℕ) (o s v : List ℕ) → v ≡ take n s → n ≡ min (length s) (length o - at) → 0 < n
    → put_mid at (at + n - at) o v ≡ sets o at (take (length o - at) s)
copied at n o s v e m h =
    let l : length (take n s) ≡ n = length-take-le n s (omega arith) in
    let k : at + n - at ≡ n = omega arith in
    let w : min (length o - at) (length s) ≡ n = omega arith in
    let t : take n s ≡ take (length o - at) s = rw w at (take_min (length o - at) s) in
    rw (k, e, ← t) (mid-sets at n o (take n s) (sym l) (omega arith))

pub filled : (at n m b : ℕ) (o v : List ℕ) → v ≡ replicate (length (take (at + m - at) (drop at o))) b → m ≡ min n (length o - at) → 0 < m
    → put_mid at (at + m - at) o v ≡ sets o at (replicate (min n (length o - at)) b)
filled at n m b o v e f h =
    let k : at + m - at ≡ m = omega arith in
    let l : length (take m (drop at o)) ≡ m = length-take-le m (drop at o) (omega (arith, length-drop at o)) in
    let w : v ≡ replicate m b = rw (k, l) at e in
    rw (k, w, ← f) (mid-sets at m o (replicate m b) (sym (length-replicate m b)) (omega (arith, length-replicate m b)))
