-- `table_report::words::put_wrong` meets its contract. Assumes nothing.
use native.Mathlib.Omega.{arith}
use Rattle.table_report.specs.declared.Wrong.TheVariants.{NoEnd, Empty, Return, NoTab, FewTabs, ManyTabs, Byte, Kind, Case, Field, SameKey, Order}
use Rattle.table_report.specs.Words.{wrong_words}
use Rattle.table_report.proofs.Written as written
use Rattle.table_report.proofs.words.put_wrong.Goals as goal

pub returns-in-NoEnd : goal.returns-in-NoEnd
unfolding wrong_words
returns-in-NoEnd c = written.said _ NoEnd _ _ _ _ c.in-NoEnd.is (omega arith) c.put.ensures

pub returns-in-Empty : goal.returns-in-Empty
unfolding wrong_words
returns-in-Empty c = written.said _ Empty _ _ _ _ c.in-Empty.is (omega arith) c.put-in-Empty.ensures

pub returns-in-Return : goal.returns-in-Return
unfolding wrong_words
returns-in-Return c = written.said _ Return _ _ _ _ c.in-Return.is (omega arith) c.put-in-Return.ensures

pub returns-in-NoTab : goal.returns-in-NoTab
unfolding wrong_words
returns-in-NoTab c = written.said _ NoTab _ _ _ _ c.in-NoTab.is (omega arith) c.put-in-NoTab.ensures

pub returns-in-FewTabs : goal.returns-in-FewTabs
unfolding wrong_words
returns-in-FewTabs c = written.said _ FewTabs _ _ _ _ c.in-FewTabs.is (omega arith) c.put-in-FewTabs.ensures

pub returns-in-ManyTabs : goal.returns-in-ManyTabs
unfolding wrong_words
returns-in-ManyTabs c = written.said _ ManyTabs _ _ _ _ c.in-ManyTabs.is (omega arith) c.put-in-ManyTabs.ensures

pub returns-in-Byte : goal.returns-in-Byte
unfolding wrong_words
returns-in-Byte c = written.said _ Byte _ _ _ _ c.in-Byte.is (omega arith) c.put-in-Byte.ensures

pub returns-in-Kind : goal.returns-in-Kind
unfolding wrong_words
returns-in-Kind c = written.said _ Kind _ _ _ _ c.in-Kind.is (omega arith) c.put-in-Kind.ensures

pub returns-in-Case : goal.returns-in-Case
unfolding wrong_words
returns-in-Case c = written.said _ Case _ _ _ _ c.in-Case.is (omega arith) c.put-in-Case.ensures

pub returns-in-Field : goal.returns-in-Field
unfolding wrong_words
returns-in-Field c = written.said _ Field _ _ _ _ c.in-Field.is (omega arith) c.put-in-Field.ensures

pub returns-in-SameKey : goal.returns-in-SameKey
unfolding wrong_words
returns-in-SameKey c = written.said _ SameKey _ _ _ _ c.in-SameKey.is (omega arith) c.put-in-SameKey.ensures

pub returns-in-Order : goal.returns-in-Order
unfolding wrong_words
returns-in-Order c = written.said _ Order _ _ _ _ c.in-Order.is (omega arith) c.put-in-Order.ensures
