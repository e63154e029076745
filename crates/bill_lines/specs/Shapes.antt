-- What a usage line says before its identifier is keyed. Assumes nothing.
use Rattle.std.specs.Prelude.{◌≡◌, ℕ, ◌≤◌, length, drop, Option, Some, None}
use Rattle.std.proofs.Math.Option.{Option as Maybe, none, some}
use Rattle.standard.specs.Delivery.{Bytes}
use Rattle.bill_rules.specs.Bill.{member_of, before_tab, after_tab}
use Rattle.bill_lines.specs.declared.shape.Shape.{Shape}

-- the standard's member that the code's stands for
abbrev pub member_is : Option ℕ → Maybe ℕ
member_is None = none
member_is (Some m) = some m

-- members are 1 to 64
abbrev pub InMembers : ℕ → Type 0
InMembers m = (1 ≤ m) × (m ≤ 64)

-- the member of a line with a tab
unfoldable pub member_if : Maybe Bytes → Maybe ℕ → Maybe ℕ
member_if none m = none
member_if (some x) m = m

-- what a line says before its identifier is keyed, which starts behind the tab
abbrev pub ShapedAs : Bytes → Shape → Type 0
ShapedAs l r = (member_of (before_tab l) ≡ some r.member) × InMembers r.member × (r.start ≤ length l) × (after_tab l ≡ some (drop r.start l))

abbrev pub Shaped : Bytes → Option Shape → Type 0
Shaped l None = member_if (after_tab l) (member_of (before_tab l)) ≡ none
Shaped l (Some r) = ShapedAs l r
