-- Laws of the lines of a chain, written on the way back. Assumes nothing.
use mathlib.Core.Path.{◌≡◌, refl, sym, ap, ap₂, ◌∙◌}
use mathlib.Core.Bool.{Bool, true, false, cond}
use mathlib.Core.List.{List, [], ◌∷◌, ◌++◌, append_assoc, reverse}
use mathlib.Core.Option.{none, some}
use Prim.Native.Nat.{ℕ, zero, suc, ◌+◌, ◌-◌, ◌≤◌, ◌<◌, zero-le}
use native.Mathlib.Omega.{arith}
use borrow.Author.Tests.{le-leb, lt-leb, lt-ltb, le-ltb, eq-eqb, ne_eqb, leb-true, leb-false}
use lib.Dec.{leb, ltb}
use lib.ListN.{length, get_or, take, drop, set, length-append, length-drop}
use lib.Seq.{sets, sets-eq, length-sets, length-take-le, take-append-le, take-take, drop-append_seam}
use Rattle.std.specs.Prelude.{Result, Ok, Err}
use Rattle.std.specs.List.{AllWithin, HoldsAt}
use Rattle.std.proofs.lemmas.List.{get_or-reverse, length-reverse}
use Rattle.standard.specs.Tag.{same}
use Rattle.standard.specs.Identifier.{und}
use Rattle.standard.specs.Delivery.{Bytes}
use Rattle.standard.specs.Table.{listing, lookup, rows, located}
use Rattle.table.specs.Lines.{value_if}
use Rattle.table.proofs.Lines.{lookup-located}
use Rattle.byte_string.proofs.Stores.{sets-append}
use Rattle.parents.specs.declared.lines.Listed.{Listed}
use Rattle.parents.specs.Texts.{last_below, last_dash, without_last, row_text, parent_by, parent_text, chain_text}
use Rattle.parents.specs.Listed.{Behind, Bounded, Lists, listed_of, out_after, added, out_added}

-- the walk back to a `-`
pub last-here : (x : Bytes) (i : ℕ) → 0 < i → get_or x (i - 1) 0 ≡ 45 → last_below i x ≡ i - 1
unfolding last_below
last-here x zero h e = absurd (omega arith)
last-here x (suc i) h e =
    let k : suc i - 1 ≡ i = omega arith in
    let g = eq-eqb (get_or x i 0) 45 (ap (λ (j : ℕ). get_or x j 0) (sym k) ∙ e) in
    rw (g, last_below) (sym k)

pub last-below : (x : Bytes) (i : ℕ) → 0 < i → (get_or x (i - 1) 0 ≡ 45 → ⊥) → last_below i x ≡ last_below (i - 1) x
unfolding last_below
last-below x zero h e = absurd (omega arith)
last-below x (suc i) h e =
    let k : suc i - 1 ≡ i = omega arith in
    let g = ne_eqb (get_or x i 0) 45 (λ q. e (ap (λ (j : ℕ). get_or x j 0) k ∙ q)) in
    rw (g, last_below) (ap (λ (j : ℕ). last_below j x) (sym k))

pub last_none : (x : Bytes) (i : ℕ) → i ≤ 0 → last_below i x ≡ length x
unfolding last_below
last_none x zero h = refl
last_none x (suc i) h = absurd (omega arith)

-- where the code finds it, sought from the back
abbrev pub Dash : ℕ → Type 0
Dash b = b ≡ 45

abbrev pub Other : ℕ → Type 0
Other b = ¬ (b ≡ 45)

back : (x : Bytes) (n : ℕ) → n ≤ length x → ((k : ℕ) → k < n → Other (get_or x (length x - 1 - k) 0)) → last_below (length x) x ≡ last_below (length x - n) x
back x zero h f = let z : length x ≡ length x - 0 = omega arith in ap (λ (i : ℕ). last_below i x) z
back x (suc n) h f =
    let y : length x - 1 - n ≡ length x - n - 1 = omega arith in
    let z : length x - n - 1 ≡ length x - suc n = omega arith in
    back x n (omega arith) (λ k c. f k (omega arith)) ∙ last-below x (length x - n) (omega arith) (rw y at (f n (omega arith))) ∙ ap (λ (i : ℕ). last_below i x) z

module _ (x : Bytes) where
  others : (n : ℕ) → n ≤ length x → AllWithin Other (reverse x) 0 n → (k : ℕ) → k < n → Other (get_or x (length x - 1 - k) 0)
  others n h f k c = rw (get_or-reverse x k 0 (omega arith)) at (f k 0 zero-le c)

  dash-at : (k : ℕ) → k < length (reverse x) → HoldsAt Dash (reverse x) k → AllWithin Other (reverse x) 0 k → last_dash x ≡ length x - 1 - k
  unfolding last_dash
  dash-at k b y f =
      let l = length-reverse x in
      let z : length x - k - 1 ≡ length x - 1 - k = omega arith in
      back x k (omega arith) (others k (omega arith) f)
      ∙ last-here x (length x - k) (omega arith) (ap (λ (j : ℕ). get_or x j 0) z ∙ sym (get_or-reverse x k 0 (omega arith)) ∙ y 0) ∙ z

  dash-none : AllWithin Other (reverse x) 0 (length (reverse x)) → last_dash x ≡ length x
  unfolding last_dash
  dash-none f =
      let l = length-reverse x in
      let z : length x - length x ≡ 0 = omega arith in
      back x (length x) (omega arith) (others (length x) (omega arith) (rw l at f)) ∙ last_none x (length x - length x) (omega arith)

  pub without-found : (k : ℕ) → k < length (reverse x) → HoldsAt Dash (reverse x) k → AllWithin Other (reverse x) 0 k → take (length x - 1 - k) x ≡ without_last x
  unfolding without_last
  without-found k b y f =
      let l = length-reverse x in
      let e = dash-at k b y f in
      let g : ltb (last_dash x) (length x) ≡ true = lt-ltb (last_dash x) (length x) (omega arith) in
      rw (g, without_last) (ap (λ (n : ℕ). take n x) (sym e))

  pub without_none : AllWithin Other (reverse x) 0 (length (reverse x)) → (y : Bytes) → y ≡ und → y ≡ without_last x
  unfolding without_last
  without_none f y q =
      let e = dash-none f in
      let g : ltb (last_dash x) (length x) ≡ false = le-ltb (last_dash x) (length x) (omega arith) in
      rw (g, without_last) q

-- a line and its 0A
pub put-end : (l o : Bytes) (at n : ℕ) (x : Bytes) → o ≡ sets l at x → n ≡ at + length x → set o n 10 ≡ sets l at (x ++ (10 ∷ []))
put-end l o at n x e k = ap₂ (λ (q : Bytes) (m : ℕ). set q m 10) e k ∙ sym (sets-append l at x (10 ∷ []))

line-length : (x : Bytes) → length (listing (x ∷ [])) ≡ length x + 1
unfolding listing
line-length x = length-append x (10 ∷ [])

-- one line alone
pub record One (at : ℕ) (out : Bytes) (x : Bytes) (r : Result Listed Listed) (out' : Bytes) : Type 0 where
  pub listed : r ≡ listed_of at out (x ∷ [])
  pub written : out' ≡ out_after at out (x ∷ [])

pub one-short : (at : ℕ) (out x : Bytes) → length out < at + length x + 1 → One at out x (Err (record { end = at + length x + 1; steps = 0 })) out
unfolding listed_of out_after
one-short at out x h =
    let n = line-length x in
    let e : at + length (listing (x ∷ [])) ≡ at + length x + 1 = omega arith in
    let f : leb (at + length x + 1) (length out) ≡ false = lt-leb (at + length x + 1) (length out) h in
    record { listed = rw (e, f); written = rw (e, f) }

pub one-fits : (at : ℕ) (out x out' : Bytes) → at + length x + 1 ≤ length out → out' ≡ sets out at (x ++ (10 ∷ [])) → One at out x (Ok (record { end = at + length x + 1; steps = 0 })) out'
unfolding listed_of out_after listing
one-fits at out x out' h w =
    let n = line-length x in
    let e : at + length (listing (x ∷ [])) ≡ at + length x + 1 = omega arith in
    let f : leb (at + length x + 1) (length out) ≡ true = le-leb (at + length x + 1) (length out) h in
    record { listed = rw (e, f); written = rw (e, f) w }

-- the row of a line
pub row-none : (P x : Bytes) (v : ℕ) → 0 < v → row_text P v x ≡ none
unfolding row_text
row-none P x zero h = absurd (omega arith)
row-none P x (suc v) h = refl

pub row_by : (P x : Bytes) (v : ℕ) → v ≤ 0 → row_text P v x ≡ lookup (rows P) x
unfolding row_text
row_by P x zero h = refl
row_by P x (suc v) h = absurd (omega arith)

take-le : (n : ℕ) (l : Bytes) → length (take n l) ≤ length l
take-le zero l = omega arith
take-le (suc n) [] = omega arith
take-le (suc n) (b ∷ bs) = let k = take-le n bs in omega (arith, k)

pub part-le : (n m : ℕ) (l : Bytes) → length (take n (drop m l)) ≤ length l
part-le n m l = let a = take-le n (drop m l) in let b = length-drop m l in omega (arith, a, b)

-- the parent of a line with v variants
pub without-le : (w x : Bytes) → w ≡ without_last x → length x ≤ 32768 → length w ≤ 32768
unfolding without_last
without-le w x e h = go (ltb (last_dash x) (length x)) e
  where
    go : (b : Bool) → w ≡ elim b [ true ↦ take (last_dash x) x | false ↦ und ] → length w ≤ 32768
    go true k = let t = take-le (last_dash x) x in let n = ap length k in omega arith
    go false k = rw k (omega arith)

module _ (P : Bytes) (v : ℕ) (x : Bytes) where
  pub by-variants : (w : Bytes) → 0 < v → w ≡ without_last x → w ≡ parent_text P v x
  unfolding parent_text parent_by
  by-variants w h e = rw (row-none P x v h) e

  pub by_row : (w : Bytes) → v ≤ 0 → some w ≡ value_if P (located P x) → w ≡ parent_text P v x
  unfolding parent_text parent_by
  by_row w h e = rw (row_by P x v h, ← (e ∙ sym (lookup-located P x)))

  pub by_none : (w : Bytes) → v ≤ 0 → none ≡ value_if P (located P x) → w ≡ without_last x → w ≡ parent_text P v x
  unfolding parent_text parent_by
  by_none w h e q = rw (row_by P x v h, ← (e ∙ sym (lookup-located P x))) q

-- The lines of the walk.
pub chain-some : (P : Bytes) (n v : ℕ) (x : Bytes) → 1 ≤ length (chain_text P n v x)
unfolding chain_text
chain-some P zero v x = omega arith
chain-some P (suc n) v x = go (same x und)
  where
    go : (b : Bool) → 1 ≤ length {A = Bytes} (elim b [ true ↦ x ∷ [] | false ↦ x ∷ chain_text P n (v - 1) (parent_text P v x) ])
    go true = omega arith
    go false = omega arith

pub chain-none : (P : Bytes) (n v : ℕ) (x : Bytes) → n ≡ 0 → chain_text P n v x ≡ x ∷ []
unfolding chain_text
chain-none P n v x e = rw e

pub chain-und : (P : Bytes) (n v : ℕ) (x root : Bytes) {b : Bool} → root ≡ und → b ≡ same x root → b ≡ true → chain_text P n v x ≡ x ∷ []
unfolding chain_text
chain-und P zero v x root q e t = refl
chain-und P (suc n) v x root q e t = let g : same x und ≡ true = ap (same x) (sym q) ∙ (sym e ∙ t) in rw (g, chain_text)

pub chain_more : (P : Bytes) (n v : ℕ) (x root : Bytes) {b : Bool} → root ≡ und → b ≡ same x root → b ≡ false → (n ≡ 0 → ⊥) → chain_text P n v x ≡ x ∷ chain_text P (n - 1) (v - 1) (parent_text P v x)
unfolding chain_text
chain_more P zero v x root q e t h = absurd (h refl)
chain_more P (suc n) v x root q e t h =
    let g : same x und ≡ false = ap (same x) (sym q) ∙ (sym e ∙ t) in
    let k : suc n - 1 ≡ n = omega arith in
    rw (g, chain_text) (ap (λ (m : ℕ). x ∷ chain_text P m (v - 1) (parent_text P v x)) (sym k))

-- written behind first, then in front
three-parts : (X l : Bytes) (i : ℕ) → i + length X ≤ length l → sets l i X ≡ take i l ++ (X ++ drop (i + length X) l)
three-parts X l i h = sets-eq X l i h ∙ append_assoc (take i l) X (drop (i + length X) l)

sets-before : (l X L : Bytes) (at : ℕ) → at + length X + length L ≤ length l → sets (sets l (at + length X) L) at X ≡ sets l at (X ++ L)
sets-before l X L at h =
    let n = at + length X in
    let e : sets l n L ≡ take n l ++ (L ++ drop (n + length L) l) = three-parts L l n h in
    let m : length (sets l n L) ≡ length l = length-sets l n L in
    let t : length (take n l) ≡ n = length-take-le n l (omega arith) in
    let a : take at (sets l n L) ≡ take at l = ap (take at) e ∙ (take-append-le at (take n l) (L ++ drop (n + length L) l) (omega arith) ∙ take-take at n l (omega arith)) in
    let d : drop n (sets l n L) ≡ L ++ drop (n + length L) l = ap (drop n) e ∙ (ap (λ (j : ℕ). drop j (take n l ++ (L ++ drop (n + length L) l))) (sym t) ∙ drop-append_seam (take n l) (L ++ drop (n + length L) l)) in
    let k : at + length (X ++ L) ≡ n + length L = ap (λ (j : ℕ). at + j) (length-append X L) ∙ omega arith in
    three-parts X (sets l n L) at (omega arith)
    ∙ (ap₂ (λ (p q : Bytes). p ++ (X ++ q)) a d
    ∙ (ap (λ (q : Bytes). take at l ++ q) (sym (append_assoc X L (drop (n + length L) l)))
    ∙ (ap (λ (j : ℕ). take at l ++ ((X ++ L) ++ drop j l)) (sym k) ∙ sym (three-parts (X ++ L) l at (omega arith)))))

line-in-front : (x : Bytes) (ls : List Bytes) → listing (x ∷ ls) ≡ (x ++ (10 ∷ [])) ++ listing ls
unfolding listing
line-in-front x ls = sym (append_assoc x (10 ∷ []) (listing ls))

-- a line in front of others that are listed behind it
pub lists-more : (at next : ℕ) (out out₁ out₂ x : Bytes) (ls : List Bytes) (rest : Result Listed Listed) → next ≡ at + length x + 1 → 1 ≤ length ls
    → Lists next out ls rest out₁ → out₂ ≡ out_added rest out₁ at x → Lists at out (x ∷ ls) (added rest) out₂
unfolding listed_of out_after
lists-more at next out out₁ out₂ x ls rest e k h w =
    let X = x ++ (10 ∷ []) in
    let lx : length X ≡ length x + 1 = length-append x (10 ∷ []) in
    let ll : length (listing (x ∷ ls)) ≡ length X + length (listing ls) = ap length (line-in-front x ls) ∙ length-append X (listing ls) in
    let n : at + length (listing (x ∷ ls)) ≡ next + length (listing ls) = omega arith in
    let s : length ls - 1 + 1 ≡ length (x ∷ ls) - 1 = omega arith in
    let q : added (fitting (next + length (listing ls)) (length ls - 1) (leb (next + length (listing ls)) (length out)))
    ≡ fitting (at + length (listing (x ∷ ls))) (length (x ∷ ls) - 1) (leb (at + length (listing (x ∷ ls))) (length out))
    = rw n (ends s (leb (next + length (listing ls)) (length out))) in
    let z : added rest ≡ added (listed_of next out ls) = ap added h.listed in
    record { listed = z ∙ q; written = w ∙ go n lx (leb (next + length (listing ls)) (length out)) refl }
  where
    fitting : ℕ → ℕ → Bool → Result Listed Listed
    fitting e s b = cond b (Ok (record { end = e; steps = s })) (Err (record { end = e; steps = s }))

    ends : length ls - 1 + 1 ≡ length (x ∷ ls) - 1 → (b : Bool) → added (fitting (next + length (listing ls)) (length ls - 1) b) ≡ fitting (next + length (listing ls)) (length (x ∷ ls) - 1) b
    ends s true = ap (λ (m : ℕ). Ok (record { end = next + length (listing ls); steps = m })) s
    ends s false = ap (λ (m : ℕ). Err (record { end = next + length (listing ls); steps = m })) s

    go : at + length (listing (x ∷ ls)) ≡ next + length (listing ls) → length (x ++ (10 ∷ [])) ≡ length x + 1
        → (b : Bool) → leb (next + length (listing ls)) (length out) ≡ b → out_added rest out₁ at x ≡ out_after at out (x ∷ ls)
    go n lx false f =
        let o : out₁ ≡ out = h.written ∙ rw f in
        let r : rest ≡ Err (record { end = next + length (listing ls); steps = length ls - 1 }) = h.listed ∙ rw f in
        ap (λ (q : Result Listed Listed). out_added q out₁ at x) r ∙ rw (n, f) o
    go n lx true f =
        let o : out₁ ≡ sets out next (listing ls) = h.written ∙ rw f in
        let b : next + length (listing ls) ≤ length out = leb-true _ _ f in
        let m : next ≡ at + length (x ++ (10 ∷ [])) = omega arith in
        let r : rest ≡ Ok (record { end = next + length (listing ls); steps = length ls - 1 }) = h.listed ∙ rw f in
        ap (λ (q : Result Listed Listed). out_added q out₁ at x) r
        ∙ rw (n, f)
        (ap (λ (q : Bytes). sets q at (x ++ (10 ∷ []))) (o ∙ ap (λ (j : ℕ). sets out j (listing ls)) m)
        ∙ (sets-before out (x ++ (10 ∷ [])) (listing ls) at (omega arith) ∙ ap (sets out at) (sym (line-in-front x ls))))

length-after : (at : ℕ) (out : Bytes) (ls : List Bytes) → length (out_after at out ls) ≡ length out
unfolding out_after
length-after at out ls = go (leb (at + length (listing ls)) (length out))
  where
    go : (b : Bool) → length (cond b (sets out at (listing ls)) out) ≡ length out
    go true = length-sets out at (listing ls)
    go false = refl

pub bounded-one : (allowed at : ℕ) (x out : Bytes) (r : Result Listed Listed) (out' : Bytes) → r ≡ listed_of at out (x ∷ []) → out' ≡ out_after at out (x ∷ []) → Bounded allowed at x out r out'
unfolding listed_of
bounded-one allowed at x out r out' e w = record { behind = rw e (go (leb (at + length (listing (x ∷ []))) (length out)) refl); same = ap length w ∙ length-after at out (x ∷ []) }
  where
    go : (b : Bool) → leb (at + length (listing (x ∷ []))) (length out) ≡ b
        → Behind allowed at x out (cond b (Ok (record { end = at + length (listing (x ∷ [])); steps = 1 - 1 })) (Err (record { end = at + length (listing (x ∷ [])); steps = 1 - 1 })))
    go true f = let n = line-length x in let k = leb-true _ _ f in (omega arith, omega arith, k)
    go false f = let n = line-length x in let k = leb-false _ _ f in (omega arith, omega arith, k)

few_more : (n s : ℕ) → (n ≡ 0 → ⊥) → s ≤ n - 1 → s + 1 ≤ n
few_more zero s y f = absurd (y refl)
few_more (suc n) s y f = omega arith

pub bounded-short : (allowed at next : ℕ) (x p out : Bytes) (rest : Listed) (out₁ : Bytes) → (allowed ≡ 0 → ⊥) → next ≡ at + length x + 1
    → Bounded (allowed - 1) next p out (Err rest) out₁ → Bounded allowed at x out (added (Err rest)) out₁
bounded-short allowed at next x p out rest out₁ z e h =
    let b = h.behind in
    record { behind = (few_more allowed rest.steps z b.0, omega (arith, b.1), b.2); same = h.same }

pub bounded-more : (allowed at next : ℕ) (x p out : Bytes) (rest : Listed) (out₁ out₂ : Bytes) → (allowed ≡ 0 → ⊥) → next ≡ at + length x + 1
    → Bounded (allowed - 1) next p out (Ok rest) out₁ → out₂ ≡ sets out₁ at (x ++ (10 ∷ [])) → Bounded allowed at x out (added (Ok rest)) out₂
bounded-more allowed at next x p out rest out₁ out₂ z e h w =
    let b = h.behind in
    record { behind = (few_more allowed rest.steps z b.0, omega (arith, b.1), b.2); same = ap length w ∙ length-sets out₁ at (x ++ (10 ∷ [])) ∙ h.same }

-- where the rest fits, so does the line in front of it
pub front_fits : (allowed at next : ℕ) (x p out : Bytes) (rest : Listed) (out₁ : Bytes) → next ≡ at + length x + 1 → Bounded allowed next p out (Ok rest) out₁ → at + length x < length out₁
front_fits allowed at next x p out rest out₁ e h = let b = h.behind in omega (arith, b.1, b.2, h.same)

pub lists-as : {at : ℕ} {out : Bytes} {ls ms : List Bytes} {r : Result Listed Listed} {out' : Bytes} → ls ≡ ms → Lists at out ms r out' → Lists at out ls r out'
lists-as e h = rw e h

pub cut-le : (k : ℕ) (x : Bytes) → length x ≤ 32768 → length (take k x) ≤ 32768
cut-le k x h = let t = take-le k x in omega arith

pub root-le : (y : Bytes) → y ≡ und → length y ≤ 32768
root-le y e = rw e (omega arith)

pub rest-lists : {at : ℕ} {out : Bytes} {r s : Result Listed Listed} {out' : Bytes} (P : Bytes) (n v w : ℕ) (p q : Bytes) → Lists at out (chain_text P n v p) r out' → v ≡ w → p ≡ q → r ≡ s → Lists at out (chain_text P n w q) s out'
rest-lists P n v w p q h e f g = rw (← e, ← f, ← g) h

pub bounded-as : {allowed at : ℕ} {x out out' : Bytes} {r s : Result Listed Listed} → r ≡ s → Bounded allowed at x out r out' → Bounded allowed at x out s out'
bounded-as e h = rw (← e) h

pub lists-told : {at : ℕ} {out : Bytes} {ls : List Bytes} {r s : Result Listed Listed} {out' : Bytes} → r ≡ s → Lists at out ls r out' → Lists at out ls s out'
lists-told e h = rw (← e) h
