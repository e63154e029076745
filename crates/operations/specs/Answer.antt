-- What a public operation gives back, as the standard states it. Assumes nothing.
use Rattle.std.specs.Prelude.{List, ℕ, Result, Ok, Err, ⊤}
use Rattle.standard.specs.Delivery.{Given}
use Rattle.standard.specs.Table.{TableFault}
use Rattle.reader.specs.Parts.{fault_is}
use Rattle.table_check.specs.declared.Fault.{Fault}
use Rattle.table_check.specs.Verdicts.{fault_of}
use Rattle.canonical.specs.declared.form.NoForm.{NoForm as NotFormed}
use Rattle.canonical.specs.declared.form.NoForm.TheVariants as formed
use Rattle.likely.specs.declared.forms.NoForm.{NoForm as NotMade}
use Rattle.likely.specs.declared.forms.NoForm.TheVariants as made
use Rattle.operations.specs.declared.delivery.Answer.{Answer}
use Rattle.operations.specs.declared.delivery.Done.{Done}
use Rattle.operations.specs.declared.delivery.Refusal.{Refusal}
use Rattle.operations.specs.declared.delivery.Refusal.TheVariants.{Table, Unread, NoRow, Overlong, Short}

-- 01, Numbers given back: the number, the place and the table of each refusal
abbrev pub refusal_is : Refusal → TableFault
refusal_is (Table f) = fault_of f
refusal_is (Unread r) = record { fault = fault_is r; table = 0 }
refusal_is NoRow = record { fault = record { number = 8; place = 0 }; table = 0 }
refusal_is Overlong = record { fault = record { number = 9; place = 0 }; table = 0 }
refusal_is Short = record { fault = record { number = 10; place = 0 }; table = 0 }

-- a refusal of canonicalising, and of what is made of the canonical form
abbrev pub not_formed : NotFormed → Refusal
not_formed (formed.Unread r) = Unread r
not_formed formed.Overlong = Overlong

abbrev pub not_made : NotMade → Refusal
not_made made.NoRow = NoRow
not_made made.Overlong = Overlong
not_made made.Short = Short

-- an answer, with all of the lent output afterwards
unfoldable pub answer_of : Answer → List ℕ → Given
answer_of r out = record { number = r.number; place = r.place; table = r.table; len = r.len; steps = r.steps; output = out }

-- what was given back, as numbers
abbrev pub answer_by : Result Done Refusal → Answer
answer_by (Ok d) = record { number = 0; place = 0; table = 0; len = d.len; steps = d.steps }
answer_by (Err r) = record { number = (refusal_is r).fault.number; place = (refusal_is r).fault.place; table = (refusal_is r).table; len = 0; steps = 0 }

-- what was given back, with all of the lent output afterwards
unfoldable pub given_is : Result Done Refusal → List ℕ → Given
given_is r out = answer_of (answer_by r) out

-- a check of the tables, which delivers nothing
abbrev pub checked_is : Result ⊤ Fault → Result Done Refusal
checked_is (Ok done) = Ok (record { len = 0; steps = 0 })
checked_is (Err f) = Err (Table f)
