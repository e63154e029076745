-- The lines of a piece, one after the other. Assumes nothing.
use mathlib.Core.Path.{◌≡◌, refl, sym, ap, ◌∙◌, subst}
use mathlib.Core.Logic.{◌⊎◌, inl, inr, ⊎_elim}
use mathlib.Core.List.{List, [], ◌∷◌, ◌++◌, append_assoc, append-nil}
use Prim.Native.Nat.{ℕ, ◌+◌, ◌-◌, ◌≤◌, ◌<◌}
use native.Mathlib.Omega.{arith}
use lib.ListN.{length, take, drop, drop_of_length-le}
use Rattle.standard.specs.Identifier.{Tables}
use Rattle.standard.specs.Delivery.{Bytes}
use Rattle.table.specs.Lines.{lines}
use Rattle.byte_string.specs.Strings.{end_of}
use Rattle.standard.proofs.General.{le-or-lt}
use Rattle.lines.specs.Pieces.{Next}
use Rattle.lines.proofs.Pieces.{line}
use Rattle.bill_rules.specs.Bill.{bill_of}
use Rattle.bill_lines.specs.declared.Counts.{Counts}
use Rattle.bill_lines.specs.State.{Going, Stopped, Good}

-- after the lines before a place: they and those from there on are the piece's
pub record Taken (T : Tables) (x : Bytes) (at : ℕ) (ls : List Bytes) (c : Counts) (ks : Bytes) (cs : List ℕ) : Type 0 where
  pub before : List Bytes
  pub parted : before ++ lines (drop at x) ≡ lines x
  pub good : Good T (ls ++ before) c ks cs

-- a bill that is not refused goes on; one that is stays so
pub going_on : (T : Tables) (ls : List Bytes) (c : Counts) (ks : Bytes) (cs : List ℕ) → c.number ≡ 0 → Good T ls c ks cs → Going T ls c ks cs
unfolding Good
going_on T ls c ks cs e (inl g) = g
going_on T ls c ks cs e (inr s) = absurd (let h = s.number in omega (arith, e, h))

pub stays : (T : Tables) (ls ms : List Bytes) (c : Counts) (ks : Bytes) (cs : List ℕ) → (c.number ≡ 0 → ⊥) → Good T ls c ks cs → Good T (ls ++ ms) c ks cs
unfolding Good
stays T ls ms c ks cs n (inl g) = absurd (n g.number)
stays T ls ms c ks cs n (inr s) = inr (record { number = s.number; alone = s.alone; bill = λ ns. ap (bill_of T) (append_assoc ls ms ns) ∙ s.bill (ms ++ ns) })

module _ (T : Tables) (x : Bytes) (ls : List Bytes) where
  pub taken_none : (c : Counts) (ks : Bytes) (cs : List ℕ) → Going T ls c ks cs → Taken T x 0 ls c ks cs
  unfolding Good
  taken_none c ks cs g = record { before = []; parted = refl; good = subst (λ (m : List Bytes). Going T m c ks cs ⊎ Stopped T m c) (sym (append-nil ls)) (inl g) }

  pub taken_more : (at e : ℕ) (c : Counts) (ks : Bytes) (cs : List ℕ) (r : Counts) (ks' : Bytes) (cs' : List ℕ) → at < length x → e ≡ end_of 10 x at → c.number ≡ 0 → Taken T x at ls c ks cs
      → ((ms : List Bytes) → Going T ms c ks cs → Good T (ms ++ (take (e - at) (drop at x) ∷ [])) r ks' cs') → Taken T x (e + 1) ls r ks' cs'
  taken_more at e c ks cs r ks' cs' h q n t f =
      let l = line x at e h q in
      let y = take (e - at) (drop at x) in
      record {
        before = t.before ++ (y ∷ []);
        parted = append_assoc t.before (y ∷ []) (lines (drop (e + 1) x)) ∙ ap (λ (m : List Bytes). t.before ++ m) (sym l.first) ∙ t.parted;
        good = subst (λ (m : List Bytes). Good T m r ks' cs') (append_assoc ls t.before (y ∷ [])) (f (ls ++ t.before) (going_on T (ls ++ t.before) c ks cs n t.good));
      }

  pub taken-stopped : (at : ℕ) (c : Counts) (ks : Bytes) (cs : List ℕ) → (c.number ≡ 0 → ⊥) → Taken T x at ls c ks cs → Good T (ls ++ lines x) c ks cs
  taken-stopped at c ks cs n t =
      subst (λ (m : List Bytes). Good T m c ks cs) (append_assoc ls t.before (lines (drop at x)) ∙ ap (λ (m : List Bytes). ls ++ m) t.parted) (stays T (ls ++ t.before) (lines (drop at x)) c ks cs n t.good)

  pub taken-all : (at : ℕ) (c : Counts) (ks : Bytes) (cs : List ℕ) → length x ≤ at → Taken T x at ls c ks cs → Good T (ls ++ lines x) c ks cs
  unfolding lines
  taken-all at c ks cs h t =
      let n : lines (drop at x) ≡ [] = ap lines (drop_of_length-le x {i = at} h) in
      subst (λ (m : List Bytes). Good T (ls ++ m) c ks cs) (sym (append-nil t.before) ∙ ap (λ (m : List Bytes). t.before ++ m) (sym n) ∙ t.parted) t.good

  -- the next line starts behind this one's 0A, or there is none
  pub taken_next : (e at : ℕ) (c : Counts) (ks : Bytes) (cs : List ℕ) → Next (length x) e at → Taken T x (e + 1) ls c ks cs → Taken T x at ls c ks cs
  taken_next e at c ks cs n t = ⊎_elim (λ h. past h) (λ h. subst (λ (i : ℕ). Taken T x i ls c ks cs) (sym (n.behind h)) t) (le-or-lt (length x) e)
    where
      past : length x ≤ e → Taken T x at ls c ks cs
      past h =
          let z = n.end h in
          let a : drop at x ≡ [] = drop_of_length-le x {i = at} (omega (arith, z)) in
          let b : drop (e + 1) x ≡ [] = drop_of_length-le x {i = e + 1} (omega arith) in
          record { before = t.before; parted = ap (λ (y : Bytes). t.before ++ lines y) (a ∙ sym b) ∙ t.parted; good = t.good }
