-- `subtag::class_of` meets its contract: at each return the tests say in which range the byte is. Assumes nothing.
use native.Mathlib.Omega.{arith}
use borrow.Author.Rules.{rules}
use mathlib.Core.Logic.{⊎_elim}
use Rattle.standard.specs.Grammar.{small, capital, digit, separator}
use Rattle.subtag.specs.Bytes.{class_of}
use Rattle.subtag.proofs.Bytes.{inside, under, over, no-sep}
use Rattle.subtag.proofs.class_of.Goals as goal

pub returns-in-45 : goal.returns-in-45
unfolding class_of digit capital small separator
returns-in-45 c = ⊎_elim (λ e. rw e) (λ e. rw e) c.in-45.is

pub returns-in-48-to-57 : goal.returns-in-48-to-57
unfolding class_of digit
returns-in-48-to-57 c = simp (inside 48 57 c.args.b (omega arith) (omega arith))

pub returns-in-65-to-90 : goal.returns-in-65-to-90
unfolding class_of digit capital
returns-in-65-to-90 c =
    let b = c.args.b in
    simp (over 48 57 b (omega arith) (omega arith), inside 65 90 b (omega arith) (omega arith))

pub returns-in-97-to-122 : goal.returns-in-97-to-122
unfolding class_of digit capital small
returns-in-97-to-122 c =
    let b = c.args.b in
    simp
    (over 48 57 b (omega arith) (omega arith), over 65 90 b (omega arith) (omega arith), inside 97 122 b (omega arith) (omega arith))

pub returns-in_default : goal.returns-in_default
unfolding class_of digit capital small
returns-in_default c =
    let b = c.args.b in
    simp
    (under 48 57 b (omega arith), under 65 90 b (omega arith), under 97 122 b (omega arith), no-sep b (λ e. search rules) (λ e. search rules))

pub returns-in_default-2 : goal.returns-in_default-2
unfolding class_of digit capital small
returns-in_default-2 c =
    let b = c.args.b in
    simp
    (over 48 57 b (omega arith) (omega arith), under 65 90 b (omega arith), under 97 122 b (omega arith), no-sep b (λ e. search rules) (λ e. search rules))

pub returns-in_default-3 : goal.returns-in_default-3
unfolding class_of digit capital small
returns-in_default-3 c =
    let b = c.args.b in
    simp
    (over 48 57 b (omega arith) (omega arith), over 65 90 b (omega arith) (omega arith), under 97 122 b (omega arith), no-sep b (λ e. search rules) (λ e. search rules))

pub returns-in_default-4 : goal.returns-in_default-4
unfolding class_of digit capital small
returns-in_default-4 c =
    let b = c.args.b in
    simp
    (over 48 57 b (omega arith) (omega arith), over 65 90 b (omega arith) (omega arith), over 97 122 b (omega arith) (omega arith), no-sep b (λ e. search rules) (λ e. search rules))
