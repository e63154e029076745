-- What maximising and minimising over tested tables give back: what was made of the canonical form. Assumes nothing.
use Rattle.std.specs.Prelude.{ℕ, Result, Ok, Err}
use Rattle.likely.specs.declared.forms.NoForm.{NoForm as NotMade}
use Rattle.operations.specs.declared.delivery.Done.{Done}
use Rattle.operations.specs.declared.delivery.Refusal.{Refusal}
use Rattle.operations.specs.Answer.{not_made}

-- a form of this length, or why there is none
unfoldable pub made_is : Result ℕ NotMade → Result Done Refusal
made_is (Ok n) = Ok (record { len = n; steps = 0 })
made_is (Err e) = Err (not_made e)
