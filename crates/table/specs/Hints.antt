-- Hints beside a table: for the slot of a key, where its row starts. 65535 says nothing; below 32768 is one more than the
-- place of the only row whose key has the slot, and 0 that there is none; the others are 32768 more than the place of the
-- first such row. Assumes nothing.
use Rattle.std.specs.Prelude.{◌≡◌, Bool, true, false, cond, List, [], ◌∷◌, ◌++◌, ℕ, suc, ◌+◌, ◌-◌, ◌*◌, ◌%◌, ◌≤◌, ◌<◌, eqb, ltb, length, take, drop, get_or}
use Rattle.standard.specs.Table.{Found as Located}
use Rattle.byte_string.specs.Strings.{end_of}
use Rattle.table.specs.Lines.{starts, no_row, row_at}
use Rattle.table.specs.Search.{Opens, Sorted}

-- the slot of a key: its bytes' mix, from the front, so that a key's slot goes on from that of its beginning
unfoldable pub slot_step : ℕ → ℕ → ℕ
slot_step h b = (h * 33 + b) % 16384

unfoldable pub slot_from : ℕ → List ℕ → ℕ
slot_from h [] = h
slot_from h (b ∷ k) = slot_from (slot_step h b) k

unfoldable pub slot_of : List ℕ → ℕ
slot_of k = slot_from 0 k

-- the line that starts at p begins with the key and a tab
pub record RowAt (t key : List ℕ) (p : ℕ) : Type 0 where
  pub opens : Opens t p
  pub inside : p < length t
  pub begins : starts (key ++ (9 ∷ [])) (take (end_of 10 t p - p) (drop p t)) ≡ true

-- whether a line starts at p, within the table
pub record OpensIs (t : List ℕ) (p : ℕ) (r : Bool) : Type 0 where
  pub yes : r ≡ true → Opens t p × (p < length t)
  pub no : r ≡ false → Opens t p → p < length t → ⊥

-- the answer on the line at p
pub record Seen (t key : List ℕ) (p : ℕ) (f : Located) : Type 0 where
  pub yes : f.found ≡ true → RowAt t key p × (f ≡ row_at (p + length key + 1) (end_of 10 t p - (p + length key + 1)))
  pub no : f.found ≡ false → (RowAt t key p → ⊥) × (f ≡ no_row)

-- a hint is right for a row that starts at p
pub record Right (v p : ℕ) : Type 0 where
  pub alone : v < 32768 → v ≡ suc p
  pub shared : 32768 ≤ v → v < 65535 → v ≤ p + 32768

-- a hint is right for every row with the key
pub record Leads (t key : List ℕ) (v : ℕ) : Type 0 where
  pub right : (p : ℕ) → RowAt t key p → Right v p

-- a slot's place among n hints: small tables have 1,024, others one for each slot
unfoldable pub place_of : ℕ → ℕ → ℕ
place_of n slot = cond (eqb n 1024) (slot % 1024) slot

-- a slot's hint; one that is missing says nothing
unfoldable pub hint_at : List ℕ → ℕ → ℕ
hint_at hints slot = get_or hints (place_of (length hints) slot) 65535

-- each key's hint is
pub record Hinted (t hints : List ℕ) : Type 0 where
  pub leads : (key : List ℕ) → Leads t key (hint_at hints (slot_of key))

-- hints that can be filled: all are 0, and every slot has one
pub record Blank (hints : List ℕ) : Type 0 where
  pub room : (slot : ℕ) → slot < 16384 → place_of (length hints) slot < length hints
  pub zeros : (s : ℕ) → get_or hints s 0 ≡ 0

-- rows that ascend, and hints that lead to them
pub record Indexed (t hints : List ℕ) : Type 0 where
  pub sorted : Sorted t
  pub hinted : Hinted t hints

-- a slot's hint once there is a row at the place with this slot
unfoldable pub hint_of : ℕ → ℕ → ℕ
hint_of old p = cond (ltb 32766 p) 65535 (cond (eqb old 0) (p + 1) (cond (ltb old 32768) (old + 32767) old))
