-- The counts and the arrays print the bill of the lines taken. Assumes nothing.
use mathlib.Core.Path.{◌≡◌, refl, sym, ap, ap₂, ◌∙◌, subst}
use mathlib.Core.Logic.{inl, inr}
use mathlib.Core.List.{List, [], ◌∷◌, ◌++◌, map, reverse_aux, append-nil}
use mathlib.Core.Option.{Option, none, some, none-ne-some}
use Prim.Native.Nat.{ℕ, ◌≤◌, ◌<◌}
use native.Mathlib.Omega.{arith}
use lib.ListN.{length, take}
use lib.Seq.{sets, take_all}
use borrow.Author.Tests.{eq-eqb, ne_eqb, lt-ltb, le-ltb, lt-leb, le-leb}
use Rattle.standard.specs.Tag.{Tag, All}
use Rattle.standard.specs.Identifier.{Tables}
use Rattle.standard.specs.Delivery.{Bytes}
use Rattle.standard.specs.Table.{TableFault, tables_of, check, to_maximise}
use Rattle.standard.proofs.Numbers.{TableWithin, check-within}
use Rattle.byte_string.proofs.Stores.{written}
use Rattle.tsv.specs.Fields.{decimal, field, table_text}
use Rattle.bill_rules.specs.Bill.{Usage, usage, usage_at, usage_by, usages, accepted, refusals, member_of, before_tab, after_tab, key_of, keys_of, row_of, bill, bill_of, most_keys, most_lines}
use Rattle.bill_rules.proofs.Orders.{refusals-order, length-order, any_order}
use Rattle.bill_ledger.specs.Places.{entries_from}
use Rattle.bill_ledger.specs.Ledger.{entry_of, entries_of}
use Rattle.bill_ledger.proofs.Changes.{length-entries}
use Rattle.bill_ledger.proofs.Ledgers.{entries-length}
use Rattle.bill_ledger.proofs.Members.{Member, marks-counted}
use Rattle.bill_lines.specs.declared.Counts.{Counts}
use Rattle.bill_lines.specs.State.{only, Going, Good}
use Rattle.bill_lines.specs.Held.{faulted, Held}
use Rattle.bill_lines.specs.Text.{header, row_text, rows_text, last_text, bill_text, after_tables, month_text, bill_number, number_after, month_number, entry_text, entries_text, counts_text, written_text}
use Rattle.bill_lines.proofs.Usages.{member-range}
use Rattle.bill_lines.proofs.Goings.{back-reordered}

-- a usage's member is 1 to 64
used-eq : {u v : Usage} → ◌≡◌ {A = Option Usage} (some u) (some v) → u ≡ v
used-eq e = cc

usage-member : (T : Tables) (l : Bytes) (u : Usage) → usage T l ≡ some u → Member u
unfolding usage usage_at usage_by Member
usage-member T l u = go (member_of (before_tab l)) refl (after_tab l)
  where
    some-member : (m : ℕ) (k : Option Tag) → (1 ≤ m) × (m ≤ 64) → usage_by (some m) k ≡ some u → Member u
    some-member m none h e = absurd (none-ne-some u e)
    some-member m (some k) h e = subst Member (used-eq e) h

    go : (m : Option ℕ) → member_of (before_tab l) ≡ m → (o : Option Bytes) → usage_at T m o ≡ some u → Member u
    go m f none e = absurd (none-ne-some u e)
    go none f (some x) e = absurd (none-ne-some u e)
    go (some m) f (some x) e = some-member m (key_of T x) (member-range (before_tab l) m f) e

all-members : (T : Tables) (ls : List Bytes) → All Member (usages T ls)
unfolding All usages accepted
all-members T [] = tt
all-members T (l ∷ ls) = go (usage T l) refl (all-members T ls)
  where
    go : (o : Option Usage) → usage T l ≡ o → All Member (usages T ls) → All Member (accepted o (usages T ls))
    go none e a = a
    go (some u) e a = (usage-member T l u e, a)

-- entries print as rows
entries-print : (us : List Usage) (ks : List Tag) → All Member us → entries_text (map (entry_of us) ks) ≡ rows_text (map (row_of us) ks)
unfolding entries_text rows_text entry_text row_text entry_of row_of
entries-print us [] a = refl
entries-print us (k ∷ ks) a =
    ap₂ (λ (n : ℕ) (x : Bytes). (field k 9 ++ (field (decimal n) 9 ++ field (decimal (entry_of us k).deliveries) 10)) ++ x) (marks-counted k us a).count (entries-print us ks a)

-- the bill of lines within the limits
within : (T : Tables) (ls : List Bytes) → length ls ≤ 1000000 → length (keys_of (usages T ls)) ≤ 512 → bill_of T ls ≡ bill (map (row_of (usages T ls)) (keys_of (usages T ls))) (refusals T ls)
unfolding bill_of most_keys most_lines
within T ls h k = rw (take_all 1000000 ls h, le-ltb 512 (length (keys_of (usages T ls))) k, le-ltb 1000000 (length ls) h)

-- the bill of lines that were not refused so far
going-bill : (T : Tables) (ls : List Bytes) (c : Counts) (ks : Bytes) (cs : List ℕ) → Going T ls c ks cs
    → (let us = usages T (reverse_aux ls []) in bill_of T ls ≡ bill (map (row_of us) (keys_of us)) (refusals T (reverse_aux ls [])))
unfolding entries_of most_lines
going-bill T ls c ks cs g =
    let ms = reverse_aux ls [] in
    let us = usages T ms in
    let r = back-reordered ls in
    let n : length ms ≤ 1000000 = (let z = length-order r in omega (arith, z, g.lines, g.most-lines)) in
    let k : length (keys_of us) ≡ c.keys = sym (entries-length us) ∙ sym (ap length g.entries) ∙ length-entries ks cs 0 c.keys in
    sym (any_order T ms ls r n) ∙ within T ms n (omega (arith, k, g.most-keys))

going-text : (T : Tables) (ls : List Bytes) (c : Counts) (ks : Bytes) (cs : List ℕ) → Going T ls c ks cs → header ++ (entries_text (entries_from ks cs 0 c.keys) ++ last_text c.refused) ≡ bill_text (bill_of T ls)
unfolding bill_text entries_of
going-text T ls c ks cs g =
    let ms = reverse_aux ls [] in
    let us = usages T ms in
    ap₂ (λ (x : Bytes) (m : ℕ). header ++ (x ++ last_text m)) (ap entries_text g.entries ∙ entries-print us (keys_of us) (all-members T ms)) (g.refused ∙ sym (refusals-order T (back-reordered ls))) ∙ sym (ap bill_text (going-bill T ls c ks cs g))

-- the counts' text, by their number
module _ (c : Counts) (ks : Bytes) (cs : List ℕ) where
  pub text-good : c.number ≡ 0 → counts_text c ks cs ≡ header ++ (entries_text (entries_from ks cs 0 c.keys) ++ last_text c.refused)
  unfolding counts_text
  text-good e = rw (eq-eqb c.number 0 e)

  pub text-table : (c.number ≡ 0 → ⊥) → c.number < 15 → counts_text c ks cs ≡ table_text c.number c.place c.table
  unfolding counts_text
  text-table f h = rw (ne_eqb c.number 0 f, lt-ltb c.number 15 h)

  pub text-stopped : (c.number ≡ 0 → ⊥) → 15 ≤ c.number → counts_text c ks cs ≡ field (decimal c.number) 10
  unfolding counts_text
  text-stopped f h = rw (ne_eqb c.number 0 f, le-ltb c.number 15 h)

good-text : (T : Tables) (ls : List Bytes) (c : Counts) (ks : Bytes) (cs : List ℕ) → Good T ls c ks cs → counts_text c ks cs ≡ bill_text (bill_of T ls)
unfolding Good bill_text
good-text T ls c ks cs (inl g) = text-good c ks cs g.number ∙ going-text T ls c ks cs g
good-text T ls c ks cs (inr s) =
    text-stopped c ks cs (λ (e : c.number ≡ 0). let h = s.number in omega (arith, e, h)) s.number
    ∙ sym (ap bill_text (ap (bill_of T) (sym (append-nil ls)) ∙ s.bill []))

held-text : (A L : Bytes) (ls : List Bytes) (c : Counts) (ks : Bytes) (cs : List ℕ) → Held A L ls c ks cs → counts_text c ks cs ≡ month_text A L ls
unfolding month_text after_tables TableWithin faulted only
held-text A L ls c ks cs h = go (check to_maximise A L []) refl (check-within to_maximise A L [])
  where
    go : (o : Option TableFault) → check to_maximise A L [] ≡ o → TableWithin o → counts_text c ks cs ≡ after_tables o (bill_text (bill_of (tables_of A L []) ls))
    go none e w = good-text (tables_of A L []) ls c ks cs (h.good e)
    go (some f) e w =
        let n = h.bad f e in
        let y : c.number ≡ f.fault.number = ap (λ (x : Counts). x.number) n in
        text-table c ks cs (λ (z : c.number ≡ 0). omega (arith, w.0, y, z)) (omega (arith, w.1, y)) ∙ ap (λ (x : Counts). table_text x.number x.place x.table) n

good-number : (T : Tables) (ls : List Bytes) (c : Counts) (ks : Bytes) (cs : List ℕ) → Good T ls c ks cs → c.number ≡ bill_number (bill_of T ls)
unfolding Good bill_number
good-number T ls c ks cs (inl g) = g.number ∙ sym (ap bill_number (going-bill T ls c ks cs g))
good-number T ls c ks cs (inr s) = sym (ap bill_number (ap (bill_of T) (sym (append-nil ls)) ∙ s.bill []))

-- the counts' number is that of the bill of the lines taken
pub held_number : (A L : Bytes) (ls : List Bytes) (c : Counts) (ks : Bytes) (cs : List ℕ) → Held A L ls c ks cs → c.number ≡ month_number A L ls
unfolding month_number number_after faulted only
held_number A L ls c ks cs h = go (check to_maximise A L []) refl
  where
    go : (o : Option TableFault) → check to_maximise A L [] ≡ o → c.number ≡ number_after o (bill_number (bill_of (tables_of A L []) ls))
    go none e = good-number (tables_of A L []) ls c ks cs (h.good e)
    go (some f) e = ap (λ (x : Counts). x.number) (h.bad f e)

-- what is written
module _ (c : Counts) (ks : Bytes) (cs : List ℕ) (room : ℕ) where
  pub none-short : room < 65536 → written_text c ks cs room ≡ []
  unfolding written_text
  none-short h = rw (lt-leb 65536 room h)

  module _ (fits : 65536 ≤ room) where
    pub none-keys : (length ks ≡ 16384 → ⊥) → written_text c ks cs room ≡ []
    unfolding written_text
    none-keys f = rw (le-leb 65536 room fits, ne_eqb (length ks) 16384 f)

    module _ (k : length ks ≡ 16384) where
      pub none-counts : (length cs ≡ 1024 → ⊥) → written_text c ks cs room ≡ []
      unfolding written_text
      none-counts f = rw (le-leb 65536 room fits, eq-eqb (length ks) 16384 k, ne_eqb (length cs) 1024 f)

      module _ (n : length cs ≡ 1024) where
        pub none-many : 512 < c.keys → written_text c ks cs room ≡ []
        unfolding written_text
        none-many h = rw (le-leb 65536 room fits, eq-eqb (length ks) 16384 k, eq-eqb (length cs) 1024 n, lt-leb c.keys 512 h)

        pub all-written : c.keys ≤ 512 → written_text c ks cs room ≡ counts_text c ks cs
        unfolding written_text
        all-written h = rw (le-leb 65536 room fits, eq-eqb (length ks) 16384 k, eq-eqb (length cs) 1024 n, le-leb c.keys 512 h)

-- THE TEXT of a bill that holds lines is the text of their bill, or of the fault of the tables.
pub held_writes : (A L : Bytes) (ls : List Bytes) (c : Counts) (ks : Bytes) (cs : List ℕ) (room : ℕ) → Held A L ls c ks cs → 65536 ≤ room → written_text c ks cs room ≡ month_text A L ls
held_writes A L ls c ks cs room h f = all-written c ks cs room f h.sized.keys h.sized.counts h.bounded.keys ∙ held-text A L ls c ks cs h

-- what stands at the front of the output then
pub text-made : (A L : Bytes) (ls : List Bytes) (c : Counts) (ks : Bytes) (cs : List ℕ) (out out₁ : Bytes) (r : ℕ) → Held A L ls c ks cs → 65536 ≤ length out
    → (r ≡ length (written_text c ks cs (length out))) × (out₁ ≡ sets out 0 (written_text c ks cs (length out))) × (r ≤ length out) → take r out₁ ≡ month_text A L ls
text-made A L ls c ks cs out out₁ r h f w =
    let t = written_text c ks cs (length out) in
    ap₂ take w.0 w.1 ∙ written out t (omega (arith, w.0, w.2)) ∙ held_writes A L ls c ks cs (length out) h f

-- what was written, by another name
pub as-text : (x y : Bytes) (r : ℕ) (o o₁ : Bytes) → x ≡ y → r ≡ length x → o₁ ≡ sets o 0 x → (r ≡ length y) × (o₁ ≡ sets o 0 y)
as-text x y r o o₁ e f g = (f ∙ ap length e, g ∙ ap (sets o 0) e)
