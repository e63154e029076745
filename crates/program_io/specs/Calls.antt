-- What the answers of the operating system mean. Assumes nothing.
use Rattle.std.specs.Prelude.{◌≡◌, ℕ, Result, Ok, Err}

-- a failure, whatever its cause
abbrev pub Fails : {E : Type 0} → Result ℕ E → Type 0
Fails (Ok n) = ⊥
Fails (Err e) = Unit {0}

-- std: a call answers how many bytes it moved, 0 where there are none, or an error where it failed
abbrev pub TellsOf : {E F : Type 0} → Result ℕ E → Result ℕ F → Type 0
TellsOf (Ok n) r = r ≡ Ok n
TellsOf (Err e) r = Fails r

-- what was read of a file, where a read moved nothing more: all of it at its end; a read that failed leaves no table
abbrev pub loaded_by : {E F : Type 0} → Result ℕ E → ℕ → Result ℕ F → Type 0
loaded_by (Ok n) len r = r ≡ Ok len
loaded_by (Err e) len r = Fails r
