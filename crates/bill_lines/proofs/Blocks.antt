-- Laws of an input that comes in blocks: the bill of the lines that the line reader hands over, each cut to its first 260
-- bytes, is the bill of the lines of the input. Assumes nothing.
use mathlib.Core.Path.{◌≡◌, refl, sym, ap, ap₂, ◌∙◌, subst}
use mathlib.Core.Logic.{inl, inr, ⊎_elim}
use mathlib.Core.List.{List, [], ◌∷◌, ◌++◌, map, reverse_aux, append_assoc}
use mathlib.Core.Option.{Option}
use Prim.Native.Nat.{ℕ, zero, suc}
use lib.ListN.{length, take}
use Rattle.standard.specs.Identifier.{Tables}
use Rattle.standard.specs.Delivery.{Bytes}
use Rattle.standard.specs.Table.{tables_of}
use Rattle.table.specs.Lines.{lines}
use Rattle.lines.specs.Squeeze.{handed_over, unfinished, handed, all_lines, together}
use Rattle.lines.proofs.Laws.{all_lines_lem}
use Rattle.lines.proofs.Blocks.{all_more, handed-rest}
use Rattle.bill_rules.specs.Bill.{Usage, usage, usages, accepted, refusals, refusing, more, bill_of, most_lines}
use Rattle.bill_ledger.specs.Ledger.{entries_of}
use Rattle.bill_lines.specs.declared.Counts.{Counts}
use Rattle.bill_lines.specs.State.{Going, Stopped, Good}
use Rattle.bill_lines.specs.Held.{Held}
use Rattle.bill_lines.proofs.Cuts.{usage-first}

-- Lines that say the same, one by one.
data Alike (T : Tables) : List Bytes → List Bytes → Type 0 where
  none : Alike T [] []
  more_of : {l m : Bytes} {ls ms : List Bytes} → usage T l ≡ usage T m → Alike T ls ms → Alike T (l ∷ ls) (m ∷ ms)

module _ (T : Tables) where
  itself-alike : (ls : List Bytes) → Alike T ls ls
  itself-alike [] = none
  itself-alike (l ∷ ls) = more_of refl (itself-alike ls)

  cut-alike : (ls : List Bytes) → Alike T (map (take 260) ls) ls
  cut-alike [] = none
  cut-alike (l ∷ ls) = more_of (usage-first T l) (cut-alike ls)

  append-alike : {ls ms : List Bytes} (ns : List Bytes) → Alike T ls ms → Alike T (ls ++ ns) (ms ++ ns)
  append-alike ns none = itself-alike ns
  append-alike ns (more_of e a) = more_of e (append-alike ns a)

  take-alike : {ls ms : List Bytes} (n : ℕ) → Alike T ls ms → Alike T (take n ls) (take n ms)
  take-alike zero a = none
  take-alike (suc n) none = none
  take-alike (suc n) (more_of e a) = more_of e (take-alike n a)

  reverse-alike : {ls ms ps qs : List Bytes} → Alike T ls ms → Alike T ps qs → Alike T (reverse_aux ls ps) (reverse_aux ms qs)
  reverse-alike none b = b
  reverse-alike (more_of e a) b = reverse-alike a (more_of e b)

  length-alike : {ls ms : List Bytes} → Alike T ls ms → length ls ≡ length ms
  length-alike none = refl
  length-alike (more_of e a) = ap suc (length-alike a)

  usages-alike : {ls ms : List Bytes} → Alike T ls ms → usages T ls ≡ usages T ms
  unfolding usages
  usages-alike none = refl
  usages-alike (more_of e a) = ap₂ accepted e (usages-alike a)

  refusals-alike : {ls ms : List Bytes} → Alike T ls ms → refusals T ls ≡ refusals T ms
  unfolding refusals
  refusals-alike none = refl
  refusals-alike (more_of e a) = ap₂ (λ (o : Option Usage) (n : ℕ). more (refusing o) n) e (refusals-alike a)

  bill-alike : {ls ms : List Bytes} → Alike T ls ms → bill_of T ls ≡ bill_of T ms
  unfolding bill_of
  bill-alike a = rw (usages-alike (take-alike most_lines a), length-alike a, usages-alike a, refusals-alike a)

  -- what a bill holds of them
  module _ {ls ms : List Bytes} (a : Alike T ls ms) (c : Counts) (ks : Bytes) (cs : List ℕ) where
    going-alike : Going T ls c ks cs → Going T ms c ks cs
    going-alike g = record {
      number = g.number;
      table = g.table;
      place = g.place;
      lines = g.lines ∙ length-alike a;
      most-lines = g.most-lines;
      refused = g.refused ∙ refusals-alike a;
      most-keys = g.most-keys;
      entries = g.entries ∙ ap entries_of (usages-alike (reverse-alike a none));
    }

    stopped-alike : Stopped T ls c → Stopped T ms c
    stopped-alike s = record { number = s.number; alone = s.alone; bill = λ ns. sym (bill-alike (append-alike ns a)) ∙ s.bill ns }

    good-alike : Good T ls c ks cs → Good T ms c ks cs
    unfolding Good
    good-alike g = ⊎_elim (λ x. inl (going-alike x)) (λ x. inr (stopped-alike x)) g

held_cut : (A L : Bytes) (ls : List Bytes) (c : Counts) (ks : Bytes) (cs : List ℕ) → Held A L (map (take 260) ls) c ks cs → Held A L ls c ks cs
held_cut A L ls c ks cs h = record {
  sized = h.sized;
  bounded = h.bounded;
  good = λ e. good-alike (tables_of A L []) (cut-alike (tables_of A L []) ls) c ks cs (h.good e);
  bad = h.bad;
}

-- A bill of the lines handed over in pieces: of none, and of one piece more.
pub held_none : (A L : Bytes) (c : Counts) (ks : Bytes) (cs : List ℕ) → Held A L [] c ks cs → Held A L (all_lines (handed_over [] [])) c ks cs
unfolding all_lines handed_over
held_none A L c ks cs h = h

pub held-piece : (A L : Bytes) (xs ys : List Bytes) (x : Bytes) (c : Counts) (ks : Bytes) (cs : List ℕ) → ys ≡ xs ++ (x ∷ []) → Held A L (all_lines xs ++ lines x) c ks cs → Held A L (all_lines ys) c ks cs
held-piece A L xs ys x c ks cs e h = subst (λ (ls : List Bytes). Held A L ls c ks cs) (sym (ap all_lines e ∙ all_more xs x)) h

-- All that is handed over of an input in blocks, wherever they end: the bill is that of the input's lines.
pub held-input : (A L : Bytes) (bs : List Bytes) (c : Counts) (ks : Bytes) (cs : List ℕ) → Held A L (all_lines (handed [] bs)) c ks cs → Held A L (lines (together bs)) c ks cs
held-input A L bs c ks cs h = held_cut A L (lines (together bs)) c ks cs (subst (λ (ls : List Bytes). Held A L ls c ks cs) (all_lines_lem bs) h)

-- A bill that was refused stays so, whatever comes after the lines that were handed over.
module _ (A L : Bytes) (bs ms : List Bytes) (c : Counts) (ks : Bytes) (cs : List ℕ) (h : Held A L (all_lines (handed_over [] bs)) c ks cs) (n : c.number ≡ 0 → ⊥) where
  abbrev rest : List Bytes
  rest = all_lines (handed (unfinished [] bs) ms)

  -- the lines of the whole input, each cut to what is kept of it
  whole-cut : all_lines (handed_over [] bs) ++ rest ≡ map (take 260) (lines (together (bs ++ ms)))
  whole-cut = sym (handed-rest bs ms) ∙ all_lines_lem (bs ++ ms)

  stopped : Stopped (tables_of A L []) (all_lines (handed_over [] bs)) c → Stopped (tables_of A L []) (lines (together (bs ++ ms))) c
  stopped s = record {
    number = s.number;
    alone = s.alone;
    bill = λ ns. sym (bill-alike (tables_of A L []) (append-alike (tables_of A L []) ns (cut-alike (tables_of A L []) (lines (together (bs ++ ms))))))
        ∙ ap (λ (ls : List Bytes). bill_of (tables_of A L []) (ls ++ ns)) (sym whole-cut)
        ∙ ap (bill_of (tables_of A L [])) (append_assoc (all_lines (handed_over [] bs)) rest ns) ∙ s.bill (rest ++ ns);
  }

  pub held-refused : Held A L (lines (together (bs ++ ms))) c ks cs
  unfolding Good
  held-refused = record {
    sized = h.sized;
    bounded = h.bounded;
    good = λ e. ⊎_elim (λ g. absurd (n g.number)) (λ s. inr (stopped s)) (h.good e);
    bad = h.bad;
  }
