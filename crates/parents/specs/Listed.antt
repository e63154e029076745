-- What a listing from a place on gives, and what it leaves in the output. Assumes nothing.
use Rattle.std.specs.Prelude.{◌≡◌, cond, List, [], ◌∷◌, ◌++◌, ℕ, ◌+◌, ◌-◌, ◌≤◌, ◌<◌, leb, length, Result, Ok, Err}
use Rattle.std.proofs.lemmas.List.Edits.{sets}
use Rattle.standard.specs.Delivery.{Bytes}
use Rattle.standard.specs.Table.{listing}
use Rattle.parents.specs.declared.lines.Listed.{Listed}

-- the lines listed from the place at on: where they end, and the steps, whether all of it fits or not
unfoldable pub listed_of : ℕ → Bytes → List Bytes → Result Listed Listed
listed_of at out ls =
    let listed : Listed = record { end = at + length (listing ls); steps = length ls - 1 } in
    cond (leb (at + length (listing ls)) (length out)) (Ok listed) (Err listed)

-- written where all of it fits
unfoldable pub out_after : ℕ → Bytes → List Bytes → Bytes
out_after at out ls = cond (leb (at + length (listing ls)) (length out)) (sets out at (listing ls)) out

-- one line more in front
abbrev pub one_more : Listed → Listed
one_more r = record { end = r.end; steps = r.steps + 1 }

-- the same, whether all of it fits or not
abbrev pub added : Result Listed Listed → Result Listed Listed
added (Ok r) = Ok (one_more r)
added (Err r) = Err (one_more r)

-- and written, where all of it fits
abbrev pub out_added : Result Listed Listed → Bytes → ℕ → Bytes → Bytes
out_added (Ok r) out at x = sets out at (x ++ (10 ∷ []))
out_added (Err r) out at x = out

-- what holds of every table: few steps, an end behind the line, and Ok exactly where it fits
abbrev pub Behind : ℕ → ℕ → Bytes → Bytes → Result Listed Listed → Type 0
Behind allowed at x out (Ok l) = (l.steps ≤ allowed) × (at + length x < l.end) × (l.end ≤ length out)
Behind allowed at x out (Err l) = (l.steps ≤ allowed) × (at + length x < l.end) × (length out < l.end)

pub record Bounded (allowed at : ℕ) (x out : Bytes) (r : Result Listed Listed) (out' : Bytes) : Type 0 where
  pub behind : Behind allowed at x out r
  pub same : length out' ≡ length out

-- what is listed of a table whose rows ascend
pub record Lists (at : ℕ) (out : Bytes) (ls : List Bytes) (r : Result Listed Listed) (out' : Bytes) : Type 0 where
  pub listed : r ≡ listed_of at out ls
  pub written : out' ≡ out_after at out ls
