-- `likely::forms::form_by_parts` meets its contract. Assumes nothing.
use mathlib.Core.Path.{ap, ◌∙◌}
use mathlib.Core.Bool.{not}
use Rattle.likely.proofs.Delivered.{known-are, ready-known, ready-again, none-of, some-of, made_none, made_some, made-whole, made-long, made-minimal, then-given}
use Rattle.likely.proofs.forms.form_by_parts.Goals as goal

pub returns-in_default : goal.returns-in_default
returns-in_default c = λ q.
    let k = known-are _ _ _ _ _ c.known.ensures c.known-2.ensures in
    made_none _ _ _ _ _ _ k (c.in_default.ensures (ready-known _ _ _ _ k q))

pub returns-then-not-shorten : goal.returns-then-not-shorten
returns-then-not-shorten c = λ q.
    let k = known-are _ _ _ _ _ c.known.ensures c.known-2.ensures in
    then-given _ _ _ _ c.deliver.ensures (made-whole _ _ _ _ c.if-not-shorten.true ∙ made_some _ _ _ _ _ _ k (c.in-Some.ensures (ready-known _ _ _ _ k q)))

pub returns : goal.returns
returns c = λ q.
    let k = known-are _ _ _ _ _ c.known.ensures c.known-2.ensures in
    then-given _ _ _ _ c.deliver-2.ensures (made-minimal _ _ _ _ _ c.if-not-shorten.false (some-of _ _ c.form_length.ensures (c.is_none.ensures ∙ ap not c.if-is_none.false)) (c.minimised.ensures (ready-again _ _ _ _ k q _ c.in-Some.ensures)) ∙ made_some _ _ _ _ _ _ k (c.in-Some.ensures (ready-known _ _ _ _ k q)))

pub returns-then-is_none : goal.returns-then-is_none
returns-then-is_none c = λ q.
    let k = known-are _ _ _ _ _ c.known.ensures c.known-2.ensures in
    then-given _ _ _ _ (made-long _ _ _ _ _ (none-of _ _ c.form_length.ensures (c.is_none.ensures ∙ ap not c.if-is_none.true))) (made_some _ _ _ _ _ _ k (c.in-Some.ensures (ready-known _ _ _ _ k q)))
