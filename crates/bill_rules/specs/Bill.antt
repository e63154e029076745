-- The monthly bill (document 02, T-01): usage lines, the key of an identifier, and the bill of a list of lines.
-- Assumes nothing.
use Rattle.std.specs.Prelude.{Bool, true, false, not, cond, ◌&&◌, ◌||◌, List, [], ◌∷◌, map, ℕ, zero, suc, ◌+◌, ◌-◌, ◌*◌, eqb, leb, ltb, length, take}
use Rattle.std.proofs.Math.Option.{Option, none, some}
use Rattle.standard.specs.Tag.{Tag, same, sort_by, itself}
use Rattle.standard.specs.Grammar.{digit}
use Rattle.standard.specs.Identifier.{Three, Tables, Answer, done, refused, maximised, minimised, same_three}
use Rattle.standard.specs.Reading.{Read, good, bad, read}
use Rattle.standard.specs.Delivery.{Bytes}
use Rattle.standard.specs.Table.{print_three}

-- An accepted usage line: a member, and the key of the identifier used.
pub record Usage : Type 0 where
  pub member : ℕ
  pub key : Tag

-- the first byte of a number: a digit, and not 0
unfoldable pub leading : ℕ → Bool
leading d = digit d && not (eqb d 48)

-- 02, T-01: a member number is decimal, 1 to 64, without a leading zero.
unfoldable pub member_of : Bytes → Option ℕ
member_of [] = none
member_of (d ∷ []) = cond (leading d) (some (d - 48)) none
member_of (d ∷ e ∷ []) =
    let n = (d - 48) * 10 + (e - 48) in
    cond (leading d && (digit e && leb n 64)) (some n) none
member_of (d ∷ e ∷ f ∷ x) = none

-- 02, T-01: a member number, a tab and an identifier: the line is cut at its first tab.
unfoldable pub before_tab : Bytes → Bytes
before_tab [] = []
before_tab (b ∷ x) = elim (eqb b 9) [ true ↦ [] | false ↦ b ∷ before_tab x ]

unfoldable pub after_tab : Bytes → Option Bytes
after_tab [] = none
after_tab (b ∷ x) = elim (eqb b 9) [ true ↦ some x | false ↦ after_tab x ]

-- 02, T-01: the key is language, script and region of the minimised form.
unfoldable pub key_of_answer : Answer → Option Tag
key_of_answer (done m) = some (print_three m.core)
key_of_answer (refused n) = none

-- of an identifier as it was read
unfoldable pub key_of_read : Tables → Read → Option Tag
key_of_read T (good i) = key_of_answer (minimised T i)
key_of_read T (bad n p) = none

-- of an identifier
unfoldable pub key_of : Tables → Bytes → Option Tag
key_of T x = key_of_read T (read x)

-- 02, T-01: a line of wrong shape or with a refused identifier is a refused line.
unfoldable pub usage_by : Option ℕ → Option Tag → Option Usage
usage_by none k = none
usage_by (some m) none = none
usage_by (some m) (some k) = some (record { member = m; key = k })

-- of a member and an identifier, where there is one
unfoldable pub usage_at : Tables → Option ℕ → Option Bytes → Option Usage
usage_at T m none = none
usage_at T m (some x) = usage_by m (key_of T x)

-- what a usage line says
unfoldable pub usage : Tables → Bytes → Option Usage
usage T l = usage_at T (member_of (before_tab l)) (after_tab l)

-- one more for a yes
unfoldable pub more : Bool → ℕ → ℕ
more true n = suc n
more false n = n

-- the usages of the accepted lines, in their order; and the number of refused lines
unfoldable pub accepted : {A : Type 0} → Option A → List A → List A
accepted none us = us
accepted (some u) us = u ∷ us

-- of all accepted lines
unfoldable pub usages : Tables → List Bytes → List Usage
usages T [] = []
usages T (l ∷ ls) = accepted (usage T l) (usages T ls)

-- whether a line is refused
unfoldable pub refusing : {A : Type 0} → Option A → Bool
refusing none = true
refusing (some u) = false

-- how many lines are refused
unfoldable pub refusals : Tables → List Bytes → ℕ
refusals T [] = 0
refusals T (l ∷ ls) = more (refusing (usage T l)) (refusals T ls)

-- 02, T-01: one row per key in byte order.
unfoldable pub keys_of : List Usage → List Tag
keys_of us = sort_by itself (map (λ (u : Usage). u.key) us)

-- 02, T-01: how many accepted lines have the key
unfoldable pub deliveries : Tag → List Usage → ℕ
deliveries k [] = 0
deliveries k (u ∷ us) = more (same k u.key) (deliveries k us)

-- whether the member used the key
unfoldable pub used : Tag → ℕ → List Usage → Bool
used k m [] = false
used k m (u ∷ us) = (same k u.key && eqb m u.member) || used k m us

-- 02, T-01: how many different members, of 1 to n, used the key
unfoldable pub members_up_to : ℕ → Tag → List Usage → ℕ
members_up_to zero k us = 0
members_up_to (suc n) k us = more (used k (suc n) us) (members_up_to n k us)

-- 02, T-01: of members 1 to 64
unfoldable pub members : Tag → List Usage → ℕ
members k us = members_up_to 64 k us

-- A row of a bill.
pub record Row : Type 0 where
  pub key : Tag
  pub members : ℕ
  pub deliveries : ℕ

-- the row of a key
unfoldable pub row_of : List Usage → Tag → Row
row_of us k = record { key = k; members = members k us; deliveries = deliveries k us }

-- A bill: its rows and the number of refused lines; or the number of a refusal.
pub data Bill : Type 0 where
  bill : List Row → ℕ → Bill
  refused_with : ℕ → Bill

-- 02, T-01: a bill has at most 512 keys
unfoldable pub most_keys : ℕ
most_keys = 512

-- 02, T-01: and at most 1,000,000 lines
unfoldable pub most_lines : ℕ
most_lines = 1000000

-- 02, T-01: 18 at line 1,000,001, 17 at the 513th key, whichever line comes first, 18 before 17 at one line: so 17 where
-- the first 1,000,000 lines have more than 512 keys.
unfoldable pub bill_of : Tables → List Bytes → Bill
bill_of T ls =
    cond (ltb most_keys (length (keys_of (usages T (take most_lines ls))))) (refused_with 17)
    (cond (ltb most_lines (length ls)) (refused_with 18) (bill (map (row_of (usages T ls)) (keys_of (usages T ls))) (refusals T ls)))

-- the deliveries column, without its last row
unfoldable pub total : List Row → ℕ
total [] = 0
total (r ∷ rs) = r.deliveries + total rs

-- 02, T-01: the maximised language-script-region triple of an identifier, of an accepted line; and those of all of them
unfoldable pub triple_of_answer : Answer → Option Three
triple_of_answer (done m) = some m.core
triple_of_answer (refused n) = none

-- of an identifier as it was read
unfoldable pub triple_of_read : Tables → Read → Option Three
triple_of_read T (good i) = triple_of_answer (maximised T i)
triple_of_read T (bad n p) = none

-- of an accepted line alone
unfoldable pub triple_by : Tables → Option Usage → Option Bytes → Option Three
triple_by T none x = none
triple_by T (some u) none = none
triple_by T (some u) (some x) = triple_of_read T (read x)

-- of a usage line
unfoldable pub triple : Tables → Bytes → Option Three
triple T l = triple_by T (usage T l) (after_tab l)

-- of all accepted lines, in their order
unfoldable pub triples : Tables → List Bytes → List Three
triples T [] = []
triples T (l ∷ ls) = accepted (triple T l) (triples T ls)

-- whether t is one of the triples; and how many different ones there are
unfoldable pub one_of : Three → List Three → Bool
one_of t [] = false
one_of t (u ∷ us) = same_three t u || one_of t us

-- how many different triples there are
unfoldable pub different_threes : List Three → ℕ
different_threes [] = 0
different_threes (t ∷ ts) = more (not (one_of t ts)) (different_threes ts)
