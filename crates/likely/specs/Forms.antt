-- The maximised or minimised form, by the parts of the canonical form: its three, and the rest as it stands. Assumes
-- nothing.
use Rattle.std.specs.Prelude.{◌≡◌, Bool, cond, ◌++◌, ℕ, leb, length, Option, Some, None, Result, Ok, Err}
use Rattle.std.proofs.Math.Option.{Option as Maybe, none, some}
use Rattle.standard.specs.Delivery.{Bytes, Made, refusal, form, Given}
use Rattle.table.specs.Hints.{Indexed}
use Rattle.likely.specs.Parts.{Parts, joined_parts, known_parts, fill_parts, minimal_parts, HasRoom}
use Rattle.likely.specs.declared.forms.NoForm.{NoForm}
use Rattle.likely.specs.declared.forms.NoForm.TheVariants.{NoRow, Overlong, Short}

-- document 01's numbers for each outcome, with the output afterwards
unfoldable pub given_by : Result ℕ NoForm → Bytes → Given
given_by (Ok n) out = record { number = 0; place = 0; table = 0; len = n; steps = 0; output = out }
given_by (Err NoRow) out = record { number = 8; place = 0; table = 0; len = 0; steps = 0; output = out }
given_by (Err Overlong) out = record { number = 9; place = 0; table = 0; len = 0; steps = 0; output = out }
given_by (Err Short) out = record { number = 10; place = 0; table = 0; len = 0; steps = 0; output = out }

-- a length of at most 255
unfoldable pub short_length : ℕ → Option ℕ
short_length n = cond (leb n 255) (Some n) None

-- number 9: a form over 255 bytes
unfoldable pub short_form : Bytes → Made → Made
short_form x m = cond (leb (length x) 255) m (refusal 9 0 0)

-- the bytes of a form: its parts, and the rest
unfoldable pub bytes_of : Parts → Bytes → Bytes
bytes_of p rest = joined_parts p ++ rest

-- what is made of the bytes of a form
unfoldable pub made_form : Bytes → Made
made_form x = short_form x (form x)

-- minimised where that is asked for
unfoldable pub kept_if : Bool → Bytes → Parts → Parts
kept_if b L q = cond b (minimal_parts L q) q

-- a maximised form, or the minimised one in its place
unfoldable pub made_of : Bool → Bytes → Bytes → Parts → Made
made_of b L rest q = short_form (bytes_of q rest) (form (bytes_of (kept_if b L q) rest))

-- number 8: no row
unfoldable pub made_filled : Bool → Bytes → Bytes → Maybe Parts → Made
made_filled b L rest none = refusal 8 0 0
made_filled b L rest (some q) = made_of b L rest q

-- what is made of the parts of a canonical form
unfoldable pub made_parts : Bool → Bytes → Bytes → Parts → Made
made_parts b L rest p = made_filled b L rest (fill_parts L (known_parts p))

-- the parts looked up have room in a key
pub record RoomFor (L : Bytes) (p : Parts) : Type 0 where
  pub first : HasRoom (known_parts p)
  pub again : (q : Parts) → fill_parts L (known_parts p) ≡ some q → HasRoom q

-- the same, and a table whose rows ascend, with its hints
pub record ReadyFor (L hints : Bytes) (p : Parts) : Type 0 where
  pub indexed : Indexed L hints
  pub room : RoomFor L p
