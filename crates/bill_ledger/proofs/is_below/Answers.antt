-- `bill_ledger::is_below` meets its contract. Assumes nothing.
use mathlib.Core.Path.{ap, ◌∙◌}
use Rattle.standard.specs.Tag.{order}
use Rattle.standard.specs.Delivery.{Bytes}
use Rattle.bill_ledger.proofs.Moves.{lt-is}
use Rattle.bill_ledger.proofs.is_below.Goals as goal

pub returns : goal.returns
returns c = c.is_lt.ensures ∙ lt-is _ _ (c.compare.ensures ∙ ap (λ (x : Bytes). order x c.args.key.now) c.key_at.ensures.0)
