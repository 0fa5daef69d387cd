-- What the private functions promise each other. Nothing here says what a key is.
use Rattle.std.specs.Prelude.{List, [], ◌∷◌, ◌++◌, map, ◌≡◌, length, take, drop, get_or, true, false, ◌⊎◌, Option, Some, None, MatchOption, Ok, Err, Result}
use Prim.Native.Nat.{ℕ, ◌+◌, ◌-◌, ◌*◌, ◌≤◌, ◌<◌, min, Ordering}
use Rattle.key.specs.Order.{Text, Pick, field_count}
use Rattle.key.specs.Picks.{sum, pick_of, insert, firsts, passed_picks}
use Rattle.refusal.specs.declared.Refusal.{Refusal}
use Rattle.refusal.specs.declared.Refusal.TheVariants.{Argument, Identity}
use Rattle.key.specs.Layout.{entry, fit, max_identity, max_picks, longest_entry}
use Rattle.std.specs.declared.cmp.Ordering.{Ordering as Answer}
use Rattle.std.specs.declared.cmp.Ordering.TheVariants.{Less, Equal, Greater}
use denote.Ref.{Bor}

-- an order as the code's
abbrev pub answer_of : Ordering → Answer
answer_of Ordering.lt = Less
answer_of Ordering.eq = Equal
answer_of Ordering.gt = Greater

-- ---- offsets of the texts

-- the offset of text k: after the texts before it, at most the end
unfoldable pub offset_of : Text → List ℕ → ℕ → ℕ
offset_of bytes lengths k = min (length bytes) (sum (take k lengths))

-- `starts` has the offsets of texts 0 to m
abbrev pub Offsets : Text → List ℕ → ℕ → List ℕ → Type 0
Offsets bytes lengths m starts = (k : ℕ) → k ≤ m → get_or starts k 0 ≡ offset_of bytes lengths k

-- ascending offsets, none past the end
pub record Rising (starts : List ℕ) (end : ℕ) : Type 0 where
  pub rises : (k : ℕ) → k + 1 < length starts → get_or starts k 0 ≤ get_or starts (k + 1) 0
  pub within : (k : ℕ) → k < length starts → get_or starts k 0 ≤ end

-- the bytes from offset k to offset k + 1 of `starts`
unfoldable pub between : Text → List ℕ → ℕ → Text
between bytes starts k = take (get_or starts (k + 1) 0 - get_or starts k 0) (drop (get_or starts k 0) bytes)

-- pick i of the texts between these offsets
abbrev pub pick_in : Text → List ℕ → ℕ → Pick
pick_in bytes starts i = pick_of (between bytes starts) i

-- ---- sorting

-- the index at which p is inserted among sorted picks s, or that it is among them
abbrev pub Goes : Pick → List Pick → Option ℕ → Type 0
Goes p s (Some k) = (k ≤ length s) × (insert p s ≡ take k s ++ p ∷ drop k s)
Goes p s None = insert p s ≡ s

-- each number of a list is below n
abbrev pub Below : ℕ → List ℕ → Type 0
Below n [] = Unit {0}
Below n (k ∷ s) = (k < n) × Below n s

-- the first m numbers of `order`, each below n, are the indices of the picks s, in their order
pub record Ordered (f : ℕ → Pick) (n : ℕ) (s : List Pick) (order : List ℕ) (m : ℕ) : Type 0 where
  pub is : map f (take m order) ≡ s
  pub below : Below n (take m order)
  pub inside : m ≤ length order

-- each of the first n picks has at most 141 bytes in a key
abbrev pub Small : (ℕ → Pick) → ℕ → Type 0
Small f n = (i : ℕ) → i < n → length (entry (f i)) ≤ longest_entry

-- ---- comparing

-- the stored bytes after s, or that they don't begin with s
abbrev pub Left : List ℕ → List ℕ → Option (Bor (List ℕ)) → Type 0
Left stored s r = MatchOption r ((rest : List ℕ) → stored ≡ s ++ rest → ⊥) (λ rest. stored ≡ s ++ rest.now)

-- ---- picks prepared

-- why an identity and picks are refused: 2, then 8
abbrev pub NotReady : Text → Text → List ℕ → Refusal → Type 0
NotReady identity bytes lengths r = ((r ≡ Argument) × (false ≡ fit bytes lengths)) ⊎ ((r ≡ Identity) × (true ≡ fit bytes lengths) × (max_identity < length identity))

-- the offsets of n picks' texts: the slice `starts[0..n * 5 + 1]`
abbrev pub starts_of : ℕ → List ℕ → List ℕ
starts_of n starts = take (n * field_count + 1 - 0) starts

-- there are n picks between the offsets, and each text is within its size
pub record Ready (identity bytes : Text) (lengths starts : List ℕ) (n : ℕ) : Type 0 where
  pub fits : true ≡ fit bytes lengths
  pub named : length identity ≤ max_identity
  pub few : n ≤ max_picks
  pub rises : Rising (starts_of n starts) (length bytes)
  pub long : n * field_count < length (starts_of n starts)
  pub small : Small (pick_in bytes (starts_of n starts)) n
  pub picks : firsts n (pick_in bytes (starts_of n starts)) ≡ passed_picks bytes lengths

abbrev pub Prepares : Text → Text → List ℕ → List ℕ → Result ℕ Refusal → Type 0
Prepares identity bytes lengths starts (Ok n) = Ready identity bytes lengths starts n
Prepares identity bytes lengths starts (Err r) = NotReady identity bytes lengths r

-- how many offsets the texts of the most picks have, with the end
abbrev pub starts_size : ℕ
starts_size = max_picks * field_count + 1
