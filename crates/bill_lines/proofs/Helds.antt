-- What a lent bill holds at the start, and after a piece more. Assumes nothing.
use mathlib.Core.Path.{◌≡◌, refl, sym, ap, ◌∙◌, subst}
use mathlib.Core.Logic.{inl}
use mathlib.Core.List.{List, [], ◌++◌}
use mathlib.Core.Option.{Option, none, some, none-ne-some}
use Prim.Native.Nat.{ℕ}
use native.Mathlib.Omega.{arith}
use Rattle.standard.specs.Delivery.{Bytes}
use Rattle.standard.specs.Table.{TableFault, tables_of, check, to_maximise}
use Rattle.standard.proofs.Numbers.{TableWithin, check-within}
use Rattle.std.specs.Prelude.{⊤, Result, Ok, Err}
use Rattle.table_check.specs.declared.Fault.{Fault}
use Rattle.table_check.specs.Verdicts.{verdict_is, number_of, table_of}
use Rattle.bill_rules.specs.Bill.{usages, refusals, keys_of}
use Rattle.standard.specs.Tag.{sort_by}
use Rattle.bill_ledger.specs.Places.{entries_from}
use Rattle.bill_ledger.specs.Ledger.{entries_of}
use Rattle.bill_ledger.specs.Up.{Sized}
use Rattle.bill_lines.specs.declared.Counts.{Counts}
use Rattle.bill_lines.specs.State.{Bounded, only, Going, Good as GoodBill}
use Rattle.bill_lines.specs.Held.{faulted, judged_by, Held}
use Rattle.bill_lines.proofs.Taking.{going_on, stays}
use Rattle.bill_lines.proofs.Goings.{bounded-only}

fault-eq : {f g : TableFault} → ◌≡◌ {A = Option TableFault} (some f) (some g) → f ≡ g
fault-eq e = cc

-- no lines yet
pub held_start : (A L ks : Bytes) (cs : List ℕ) (v : Result ⊤ Fault) (r : Counts) → verdict_is v ≡ check to_maximise A L [] → r ≡ judged_by v → Sized ks cs → Held A L [] r ks cs
unfolding judged_by only faulted GoodBill refusals usages entries_from entries_of keys_of sort_by
held_start A L ks cs (Ok done) r e f s = subst (λ (c : Counts). Held A L [] c ks cs) (sym f) (record {
  sized = s;
  bounded = bounded-only (only 0 0 0) 0 0 0 refl;
  good = λ _. inl (record { number = refl; place = refl; table = refl; lines = refl; most-lines = omega arith; refused = refl; most-keys = omega arith; entries = refl });
  bad = λ g h. absurd (none-ne-some g (e ∙ h));
})
held_start A L ks cs (Err w) r e f s = subst (λ (c : Counts). Held A L [] c ks cs) (sym f) (record {
  sized = s;
  bounded = bounded-only (only (number_of w) w.place (table_of w)) (number_of w) w.place (table_of w) refl;
  good = λ h. absurd (none-ne-some _ (sym h ∙ sym e));
  bad = λ g h. ap faulted (fault-eq (e ∙ h));
})

module _ (A L : Bytes) (ls ms : List Bytes) (c : Counts) (ks : Bytes) (cs : List ℕ) (h : Held A L ls c ks cs) where
  -- a refused bill stays
  pub held_stays : (c.number ≡ 0 → ⊥) → Held A L (ls ++ ms) c ks cs
  held_stays n = record { sized = h.sized; bounded = h.bounded; good = λ e. stays (tables_of A L []) ls ms c ks cs n (h.good e); bad = h.bad }

  -- over good tables it goes on
  pub held_on : (r : Counts) (ks' : Bytes) (cs' : List ℕ) → c.number ≡ 0 → check to_maximise A L [] ≡ none → Bounded r → Sized ks' cs'
      → (Going (tables_of A L []) ls c ks cs → GoodBill (tables_of A L []) (ls ++ ms) r ks' cs') → Held A L (ls ++ ms) r ks' cs'
  held_on r ks' cs' n e b s f = record {
    sized = s;
    bounded = b;
    good = λ q. f (going_on (tables_of A L []) ls c ks cs n (h.good q));
    bad = λ g q. absurd (none-ne-some g (sym e ∙ q));
  }

  -- bad tables have a number
  pub held-bad : {w : Fault} (v : Result ⊤ Fault) → verdict_is v ≡ check to_maximise A L [] → v ≡ Err w → c.number ≡ 0 → ⊥
  unfolding TableWithin faulted only
  held-bad {w} v e f z =
      let g = sym (ap verdict_is f) ∙ e in
      let y = subst TableWithin (sym g) (check-within to_maximise A L []) in
      let q = ap (λ (x : Counts). x.number) (h.bad _ (sym g)) in
      omega (arith, y.0, q, z)

-- tables that gave no fault passed
pub held-passes : (A L : Bytes) (ls : List Bytes) (c : Counts) (ks : Bytes) (cs : List ℕ) → Held A L ls c ks cs → c.number ≡ 0 → check to_maximise A L [] ≡ none
unfolding faulted only TableWithin
held-passes A L ls c ks cs h z = go (check to_maximise A L []) refl
  where
    go : (o : Option TableFault) → check to_maximise A L [] ≡ o → o ≡ none
    go none e = refl
    go (some f) e = absurd (let w = rw e at (check-within to_maximise A L []) in let y = ap (λ (d : Counts). d.number) (h.bad f e) in omega (arith, w.0))
