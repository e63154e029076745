-- What a run comes to, and its exit status. Assumes nothing.
use Rattle.std.specs.Prelude.{◌≡◌, ℕ, zero, suc, ◌+◌, Bool, true, false, ◌⊎◌}
use Rattle.program_io.specs.declared.Status.{Status}
use Rattle.program_io.specs.declared.Status.TheVariants.{Done, Failed, Refused}
use Rattle.program_io.specs.declared.input.Last.{Last}
use Rattle.program_io.specs.declared.input.Last.TheVariants.{Block, End, Failure}

-- of a run's number, of what reading gave last, and of whether a write failed: a write that failed comes first
abbrev pub status_of : ℕ → Last → Bool → Status
status_of n i true = Failed
status_of (suc n) i false = Refused
status_of zero Block false = Done
status_of zero End false = Done
status_of zero Failure false = Failed

-- the exit status as a digit: 0 done, 1 input or output failed, 3 refused
abbrev pub digit_of : Status → ℕ
digit_of Done = 48
digit_of Failed = 49
digit_of Refused = 51

-- the exit status of a run that came to s: that of its digit, or 0 where the program was started with no argument
abbrev pub EndsAs : Status → ℕ → Type 0
EndsAs s n = (n ≡ 0) ⊎ (n + 48 ≡ digit_of s)

-- and of a whole run, by its number, what reading gave last, and whether a write failed; 141 where a write failed as nobody
-- reads the output any more
abbrev pub Ends : ℕ → Last → Bool → ℕ → Type 0
Ends n i failed e = ((failed ≡ true) × (e ≡ 141)) ⊎ EndsAs (status_of n i failed) e
