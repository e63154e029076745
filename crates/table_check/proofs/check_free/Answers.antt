-- `table_check::check_free` meets its contract. Assumes nothing.
use mathlib.Core.Path.{◌≡◌, refl, sym, ◌∙◌}
use Rattle.standard.specs.Table.{shape_fault, used}
use mathlib.Core.Bool.{true}
use mathlib.Core.Option.{none}
use Rattle.standard.proofs.Table.{rows_pass}
use Rattle.row_shapes.specs.Rows.{kind_is}
use Rattle.table_check.specs.Verdicts.{use_is, is_used, clash_by}
use Rattle.table_check.specs.declared.Kind.TheVariants.{Clash}
use Rattle.table_check.proofs.Ordered.{unused, tested-one, clear-one, in-none, in_some, shape-rows, shape-sorted}
use Rattle.table_check.proofs.check_free.Goals as goal
use Rattle.table_check.proofs.check_free.Goals.{Else-not-uses}

pub returns-then-not-uses : goal.returns-then-not-uses
returns-then-not-uses c = unused _ _ _ _ (sym c.uses.ensures ∙ c.if-not-uses.true)

-- the table is in use
in_use_lem : (c : Else-not-uses) → is_used (use_is c.args.purpose) (kind_is c.args.table) ≡ true
in_use_lem c = sym c.uses.ensures ∙ c.if-not-uses.false

-- its rows have their shape
shaped : (c : Else-not-uses) → shape_fault (used (kind_is c.args.table) c.args.t.now) ≡ none
shaped c = clear-one _ _ _ _ (in_use_lem c) c.requires.0

pub indexed-requires : goal.indexed-requires
indexed-requires c = record { sorted = shape-sorted _ _ (shaped (goal.at.indexed-requires c).Else-not-uses); hinted = c.requires.1 }

pub first_clash-requires : goal.first_clash-requires
first_clash-requires c = rw c.indexed.ensures.0 (rows_pass _ none 0 _ (shape-rows _ _ (shaped (goal.at.first_clash-requires c).Else-not-uses)))

pub returns-in-None : goal.returns-in-None
unfolding clash_by
returns-in-None c =
    tested-one _ _ _ _ (in_use_lem (goal.at.returns-in-None c).Else-not-uses) (in-none _ _ (rw c.indexed.ensures.0 at c.in-None.ensures))

pub returns-in-Some : goal.returns-in-Some
unfolding clash_by
returns-in-Some c =
    tested-one _ _ _ _ (in_use_lem (goal.at.returns-in-Some c).Else-not-uses) (in_some _ _ Clash _ _ (rw c.indexed.ensures.0 at c.in-Some.ensures) refl)
