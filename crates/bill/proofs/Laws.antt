-- Laws of a bill that is made block by block. Assumes nothing.
use mathlib.Core.Path.{◌≡◌, refl, sym, ap, ◌∙◌}
use mathlib.Core.Bool.{false, true≢false}
use mathlib.Core.Logic.{inl, inr, ⊎_elim}
use mathlib.Core.List.{List, [], ◌∷◌, ◌++◌}
use Prim.Native.Nat.{ℕ}
use lib.ListN.{take}
use Rattle.standard.specs.Delivery.{Bytes}
use Rattle.table.specs.Lines.{lines}
use Rattle.lines.specs.Squeeze.{handed_over, all_lines, together}
use Rattle.program_io.specs.declared.input.Input.{Input}
use Rattle.program_io.specs.declared.input.Last.{Last}
use Rattle.program_io.specs.declared.input.Last.TheVariants.{Block, End, Failure}
use Rattle.program_io.specs.Handed.{is_end, is_failure, Going, Broken, Handed}
use Rattle.program_io.proofs.Runs.{read_none}
use Rattle.bill_lines.specs.declared.Counts.{Counts}
use Rattle.bill_lines.specs.Held.{Held}
use Rattle.bill_lines.specs.Text.{month_text, month_number}
use Rattle.bill_lines.proofs.Bills.{held_number}
use Rattle.bill_lines.proofs.Blocks.{held-piece, held-input, held-refused}
use Rattle.bill.specs.declared.Billed.{Billed}
use Rattle.bill.specs.Billed.{Whole, Refused, Bills, Text, Refusal, Nothing, Makes}

module _ (A L : Bytes) (bs : List Bytes) (b piece : Bytes) (r : Billed) (ks : Bytes) (cs : List ℕ) (h : Handed bs b r.input piece)
    (held : Held A L (all_lines (handed_over [] bs) ++ lines (take r.input.taken.whole piece)) r.counts ks cs) where
  -- the input has ended
  pub bills-whole : r.input.last ≡ End → Bills A L bs r ks cs
  unfolding Bills
  bills-whole e = inl (record { read = h.ended e; held = held-input A L bs r.counts ks cs (held-piece A L (handed_over [] bs) _ _ r.counts ks cs (h.last e) held) })

  -- the bill is refused
  pub bills-refused : (c : Counts) (ks' : Bytes) (cs' : List ℕ) → Held A L (all_lines (handed_over [] bs)) c ks' cs' → c.number ≡ 0 → is_failure r.input.last ≡ false → (r.counts.number ≡ 0 → ⊥)
      → ((ds : List Bytes) × Bills A L ds r ks cs)
  unfolding Bills
  bills-refused c ks' cs' p z f n = go r.input.last refl f
    where
      go : (l : Last) → r.input.last ≡ l → is_failure l ≡ false → ((ds : List Bytes) × Bills A L ds r ks cs)
      go Block e g = (
        bs ++ (b ∷ []),
        inr (inl (record {
          read = record { unfailed = f; bytes = (h.going e).bytes };
          needed = record { before = bs; block = b; last = refl; unrefused = sym (held_number A L _ c ks' cs' p) ∙ z };
          number = n;
          held = λ ms. held-refused A L (bs ++ (b ∷ [])) ms r.counts ks cs (held-piece A L (handed_over [] bs) _ _ r.counts ks cs (h.lines e) held) n;
        })),
      )
      go End e g = (bs, bills-whole e)
      go Failure e g = absurd (true≢false g)

-- What is written is the text of the bill.
module _ (A L : Bytes) (bs : List Bytes) (b : Billed) (ks : Bytes) (cs : List ℕ) (says : Bytes → Type 0) where
  pub makes-text : ((ls : List Bytes) → Held A L ls b.counts ks cs → says (month_text A L ls)) → Bills A L bs b ks cs → is_failure b.input.last ≡ false → Makes A L bs b.counts.number b.input says
  unfolding Makes Bills
  makes-text text w f =
      ⊎_elim (λ (h : Whole A L bs b ks cs). inl (record { read = h.read; number = held_number A L _ b.counts ks cs h.held; text = text (lines (together bs)) h.held }))
      (λ (x : _). inr (⊎_elim (λ (h : Refused A L bs b ks cs). inl (record {
        read = h.read;
        needed = inr h.needed;
        refused = h.number;
        number = λ ms. held_number A L _ b.counts ks cs (h.held ms);
        text = λ ms. text (lines (together (bs ++ ms))) (h.held ms);
      }))
      (λ (h : Broken bs b.input). absurd (failed-not b.input.last h.failed f)) x)) w
    where
      failed-not : (l : Last) → l ≡ Failure → is_failure l ≡ false → ⊥
      failed-not l e g = let z = rw e at g in true≢false z

  -- the bill is not printed
  pub makes-nothing : says [] → Bills A L bs b ks cs → b.input.last ≡ Failure → Makes A L bs 0 b.input says
  unfolding Makes Bills
  makes-nothing text w f =
      ⊎_elim (λ (h : Whole A L bs b ks cs). absurd (true≢false (ap is_end (sym h.read.no_more ∙ f))))
      (λ (x : _). ⊎_elim (λ (h : Refused A L bs b ks cs). absurd (true≢false (sym (ap is_failure f) ∙ h.read.unfailed)))
      (λ (h : Broken bs b.input). inr (inr (record { read = h; number = refl; text = text }))) x) w

-- reading failed
pub bills-broken : (A L : Bytes) (bs : List Bytes) (r : Billed) (ks : Bytes) (cs : List ℕ) → Broken bs r.input → Bills A L bs r ks cs
unfolding Bills
bills-broken A L bs r ks cs b = inr (inr b)

-- the tables are refused before anything is read
pub makes-bad : (A L : Bytes) (n : ℕ) (i : Input) (says : Bytes → Type 0) → ((piece : Bytes) → Going [] i piece) → (n ≡ 0 → ⊥) → ((ls : List Bytes) → n ≡ month_number A L ls) → ((ls : List Bytes) → says (month_text A L ls)) → Makes A L [] n i says
unfolding Makes
makes-bad A L n i says g f number text =
    inr (inl (record { read = read_none i [] (g []); needed = inl refl; refused = f; number = λ ms. number (lines (together ms)); text = λ ms. text (lines (together ms)) }))

-- what is said of the text in one way is said of it in another
pub makes-map : (A L : Bytes) (bs : List Bytes) (n : ℕ) (i : Input) (says says' : Bytes → Type 0) → ((t : Bytes) → says t → says' t) → Makes A L bs n i says → Makes A L bs n i says'
unfolding Makes
makes-map A L bs n i says says' f w =
    ⊎_elim (λ (h : Text A L bs n i says). inl (record { read = h.read; number = h.number; text = f _ h.text }))
    (λ (x : _). inr (⊎_elim (λ (h : Refusal A L bs n i says). inl (record { read = h.read; needed = h.needed; refused = h.refused; number = h.number; text = λ ms. f _ (h.text ms) }))
    (λ (h : Nothing bs n i says). inr (record { read = h.read; number = h.number; text = f _ h.text })) x)) w
