-- A row needs no more of its line than its first 260 bytes: the law that `KeyRows` cites, and so beside the definitions.
-- Assumes nothing.
use mathlib.Core.Path.{◌≡◌, refl}
use mathlib.Core.List.{[], ◌∷◌}
use Prim.Native.Nat.{◌<◌}
use native.Mathlib.Omega.{arith}
use lib.ListN.{length, take}
use Rattle.standard.specs.Delivery.{Bytes, refusal}
use Rattle.standard.specs.Make.{make, make_of}
use Rattle.standard.proofs.Long.{read-long}
use Rattle.tsv.proofs.Laws.{asked-two}
use Rattle.lines.proofs.Pieces.{first-enough}
use Rattle.key_rows.specs.Keys.{number_of, kept_of, answer_text, made_key, key_row}

pub made-long : (A L x : Bytes) → 255 < length x → made_key A L x ≡ refusal 2 0 0
unfolding made_key make make_of
made-long A L x h = rw (read-long x h)

row-long : (A L x : Bytes) → 255 < length x → key_row A L x ≡ answer_text 2 [] (45 ∷ [])
unfolding key_row number_of kept_of answer_text
row-long A L x h = rw (made-long A L x h, asked-two 2 x refl, asked-two 2 [] refl)

-- Of a line only the first 260 bytes matter: with more than 255 it is refused.
pub row_first : (A L x : Bytes) → key_row A L (take 260 x) ≡ key_row A L x
row_first A L x = first-enough (key_row A L) (answer_text 2 [] (45 ∷ [])) (λ y h. row-long A L y (omega arith)) x
