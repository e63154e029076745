-- `likely::parts::is_complete` meets its contract. Assumes nothing.
use mathlib.Core.Path.{◌≡◌, sym, ap, ◌∙◌}
use mathlib.Core.Bool.{not, ◌&&◌}
use lib.Dec.{eqb}
use lib.ListN.{length}
use Rattle.likely.proofs.Lookups.{whole-is, and-last, and-first}
use Rattle.likely.proofs.parts.is_complete.Goals as goal
use Rattle.likely.proofs.parts.is_complete.Goals.{then-not-same, else-not-same}

pub returns-then-not-is_empty : goal.returns-then-not-is_empty
returns-then-not-is_empty c =
    let two : c.if-not-same.value ≡ (not c.same.result && not (eqb (length c.args.parts.now.script.now) 0)) =
    elim c.if-not-same.branch [
      | then-not-same w ↦ w.value-is ∙ and-last _ _ _ (ap not w.if-not-same.true) (ap not w.is_empty.ensures)
      | else-not-same w ↦ w.value-is ∙ ap not w.if-not-same.false ∙ and-first _ _ (ap not w.if-not-same.false)
    ] in
    and-last _ _ _ (sym two ∙ c.if-not-is_empty.true) (ap not c.is_empty-then-not-is_empty.ensures) ∙ whole-is _ _ _ _ c.same.ensures

pub returns-else-not-is_empty : goal.returns-else-not-is_empty
returns-else-not-is_empty c =
    let two : c.if-not-same.value ≡ (not c.same.result && not (eqb (length c.args.parts.now.script.now) 0)) =
    elim c.if-not-same.branch [
      | then-not-same w ↦ w.value-is ∙ and-last _ _ _ (ap not w.if-not-same.true) (ap not w.is_empty.ensures)
      | else-not-same w ↦ w.value-is ∙ ap not w.if-not-same.false ∙ and-first _ _ (ap not w.if-not-same.false)
    ] in
    c.if-not-is_empty.false ∙ and-first _ _ (sym two ∙ c.if-not-is_empty.false) ∙ whole-is _ _ _ _ c.same.ensures
