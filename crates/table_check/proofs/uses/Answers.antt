-- `table_check::uses` meets its contract. Assumes nothing.
use mathlib.Core.Path.{sym, ap, ◌∙◌}
use Rattle.row_shapes.specs.declared.Table.{Table}
use Rattle.row_shapes.specs.Rows.{kind_is}
use Rattle.table_check.specs.Verdicts.{is_used, use_is}
use Rattle.table_check.proofs.Ordered.{aliases-used, likely-used, likely-idle, parents-used, parents-idle}
use Rattle.table_check.proofs.uses.Goals as goal

pub returns-in-Aliases : goal.returns-in-Aliases
unfolding kind_is
returns-in-Aliases c = aliases-used _ ∙ ap (λ (t : Table). is_used (use_is c.args.purpose) (kind_is t)) (sym c.in-Aliases.is)

pub returns-in-Maximise : goal.returns-in-Maximise
unfolding kind_is
returns-in-Maximise c = likely-used _ c.in-Maximise.is ∙ ap (λ (t : Table). is_used (use_is c.args.purpose) (kind_is t)) (sym c.in-Likely.is)

pub returns-in_default : goal.returns-in_default
unfolding kind_is
returns-in_default c = likely-idle _ c.in_default.not-Maximise c.in_default.not-Check ∙ ap (λ (t : Table). is_used (use_is c.args.purpose) (kind_is t)) (sym c.in-Likely.is)

pub returns-in-Chain : goal.returns-in-Chain
unfolding kind_is
returns-in-Chain c = parents-used _ c.in-Chain.is ∙ ap (λ (t : Table). is_used (use_is c.args.purpose) (kind_is t)) (sym c.in-Parents.is)

pub returns-in_default-matches : goal.returns-in_default-matches
unfolding kind_is
returns-in_default-matches c =
    parents-idle _ c.in_default-matches.not-Chain c.in_default-matches.not-Check ∙ ap (λ (t : Table). is_used (use_is c.args.purpose) (kind_is t)) (sym c.in-Parents.is)
