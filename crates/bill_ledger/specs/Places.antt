-- Where entries stand in two arrays: each key in 32 bytes, its length first; marks and deliveries side by side.
-- Assumes nothing.
use Rattle.std.specs.Prelude.{◌≡◌, Bool, true, false, cond, List, [], ◌∷◌, leb, get_or, length}
use Prim.Native.Nat.{ℕ, zero, suc, Ordering, ◌+◌, ◌*◌, ◌≤◌, ◌<◌}
use Rattle.standard.specs.Tag.{Tag}
use Rattle.standard.specs.Delivery.{Bytes}
use Rattle.bill_ledger.specs.Entries.{Entry}

-- one way of three to compare
unfoldable pub is_lt : Ordering → Bool
is_lt Ordering.lt = true
is_lt Ordering.eq = false
is_lt Ordering.gt = false

-- n bytes from a place on
unfoldable pub bytes_at : Bytes → ℕ → ℕ → Bytes
bytes_at ks at zero = []
bytes_at ks at (suc n) = get_or ks at 0 ∷ bytes_at ks (suc at) n

-- a key has at most 31 bytes
unfoldable pub at_most31 : ℕ → ℕ
at_most31 n = cond (leb n 31) n 31

unfoldable pub text_at : Bytes → ℕ → Tag
text_at ks i = bytes_at ks (32 * i + 1) (at_most31 (get_or ks (32 * i) 0))

unfoldable pub entry_at : Bytes → List ℕ → ℕ → Entry
entry_at ks cs i = record { key = text_at ks i; marks = get_or cs (2 * i) 0; deliveries = get_or cs (2 * i + 1) 0 }

-- the n entries from the i-th on
unfoldable pub entries_from : Bytes → List ℕ → ℕ → ℕ → List Entry
entries_from ks cs i zero = []
entries_from ks cs i (suc n) = entry_at ks cs i ∷ entries_from ks cs (suc i) n

-- what was at `at` and behind it, up to j, has moved up by w; below at + w nothing has changed, nor behind
pub record Moved (a b : List ℕ) (at j w : ℕ) : Type 0 where
  pub size : length b ≡ length a
  pub low : (i : ℕ) → i < at + w → get_or b i 0 ≡ get_or a i 0
  pub high : (i : ℕ) → at ≤ i → i < j → get_or b (i + w) 0 ≡ get_or a i 0

-- a key more at a place, those from there on one further
pub record KeyMore (a b : Bytes) (n at : ℕ) (k : Tag) : Type 0 where
  pub size : length b ≡ length a
  pub before : (i : ℕ) → i < at → text_at b i ≡ text_at a i
  pub here : text_at b at ≡ k
  pub behind : (i : ℕ) → at ≤ i → i < n → text_at b (suc i) ≡ text_at a i

pub record CountsMore (a b : List ℕ) (n at m : ℕ) : Type 0 where
  pub size : length b ≡ length a
  pub before : (i : ℕ) → i < at + at → get_or b i 0 ≡ get_or a i 0
  pub marks : get_or b (2 * at) 0 ≡ m
  pub deliveries : get_or b (2 * at + 1) 0 ≡ 1
  pub behind : (i : ℕ) → at + at ≤ i → i < n + n → get_or b (i + 2) 0 ≡ get_or a i 0
