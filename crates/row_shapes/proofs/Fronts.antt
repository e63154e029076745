-- Language, perhaps script, perhaps region at the front of a text, read in one pass.
-- Assumes nothing.
use mathlib.Core.Path.{◌≡◌, refl, sym, ap, ap₂, ◌∙◌}
use mathlib.Core.Bool.{Bool, true, false, cond}
use mathlib.Core.Logic.{◌⊎◌, inl, inr, ⊎_elim}
use mathlib.Core.List.{List, [], ◌∷◌, ◌++◌, append-nil, append_assoc}
use Prim.Native.Nat.{ℕ, zero, suc, ◌+◌, ◌-◌, ◌≤◌, ◌<◌}
use native.Mathlib.Omega.{arith}
use lib.Dec.{ltb, eqb}
use lib.ListN.{length, get_or, take, drop, length-append, length-drop, take-append-drop}
use lib.Seq.{drop-cons, take-add, get_or-drop, drop-append_seam, length-take-le, take-length, drop-drop}
use borrow.Author.Tests.{le-ltb, eq-eqb, ne_eqb, ltb-true, ltb-false, eqb-true}
use Rattle.std.specs.List.{take_while, prefix_len}
use Rattle.std.proofs.lemmas.List.Folds.{length-prefix_len}
use Rattle.standard.specs.Tag.{Tag}
use Rattle.standard.specs.Grammar.{small, capital, digit, every, is_language}
use Rattle.standard.specs.Identifier.{Three as Subtags, three}
use Rattle.standard.specs.Reading.{optional, joined}
use Rattle.standard.specs.Table.{parse, print_three, is_three}
use Rattle.standard.proofs.General.{bool_cases, clash, and-true}
use Rattle.subtag.proofs.Bytes.{under}
use Rattle.row_shapes.specs.Shapes.{is_script, is_region, between, run, language_len, script_len, region_len, WholeAt, FrontAt, ThreeAt}
use Rattle.row_shapes.specs.declared.lsr.Front.{Front as Read}
use Rattle.byte_string.proofs.Stores.{all_from}
use Rattle.row_shapes.proofs.Tags.{language-short, language-four, language-long, language-letters, script-is, script-length, region-sizes, region-two, region-three, every-both, not-capital, digit_low}
use Rattle.row_shapes.proofs.Threes.{ThreeOk, three-ok, print-is-three, parse-print}
use Rattle.standard.proofs.Table.{three-printed as three-text}

module _ (p : ℕ → Bool) where
  run-yes : (b : ℕ) (s : List ℕ) → p b ≡ true → run p (b ∷ s) ≡ suc (run p s)
  unfolding run
  run-yes b s e = rw (e, run)

  run-no : (b : ℕ) (s : List ℕ) → p b ≡ false → run p (b ∷ s) ≡ 0
  unfolding run
  run-no b s e = rw (e, run)

module _ (p : ℕ → Bool) where
  -- a run, as std has it
  run-prefix : (s : List ℕ) → prefix_len p s ≡ run p s
  unfolding run
  run-prefix [] = refl
  run-prefix (b ∷ s) = bool_cases (p b) (λ e. rw (run-yes p b s e, e) (let i = run-prefix s in omega arith)) (λ e. rw (run-no p b s e, e))

  pub run-while : (s : List ℕ) → length (take_while p s) ≡ run p s
  run-while s = length-prefix_len p s ∙ run-prefix s

  run-le : (s : List ℕ) → run p s ≤ length s
  unfolding run
  run-le [] = omega arith
  run-le (b ∷ s) = bool_cases (p b) (λ e. let i = run-le s in rw (run-yes p b s e) (omega arith)) (λ e. rw (run-no p b s e) (omega arith))

  run-every : (s : List ℕ) → every p (take (run p s) s) ≡ true
  unfolding run every
  run-every [] = refl
  run-every (b ∷ s) = bool_cases (p b) (λ e. rw (run-yes p b s e, e) (run-every s)) (λ e. rw (run-no p b s e))

  run-over : (a y : List ℕ) → every p a ≡ true → p (get_or y 0 0) ≡ false → run p (a ++ y) ≡ length a
  unfolding run
  run-over [] [] e f = refl
  run-over [] (b ∷ y) e f = run-no p b y f
  run-over (b ∷ a) y e f = let h = every-both p b a e in run-yes p b (a ++ y) h.0 ∙ ap suc (run-over a y h.1 f)

-- no letter or digit is that low
module _ (b : ℕ) (h : b ≤ 45) where
  low_small : small b ≡ false
  unfolding small
  low_small = under 97 122 b (omega arith)

  low-capital : capital b ≡ false
  unfolding capital
  low-capital = under 65 90 b (omega arith)

  low_digit : digit b ≡ false
  unfolding digit
  low_digit = under 48 57 b (omega arith)

-- Languages.
pub record Sized (n : ℕ) : Type 0 where
  pub low : 2 ≤ n
  pub four : n ≡ 4 → ⊥
  pub high : n ≤ 8

pub language-sized : (t : Tag) → is_language t ≡ true → Sized (length t)
language-sized t e = record {
  low = bool_cases (ltb (length t) 2) (λ c. clash e (sym (language-short t (ltb-true _ _ c)))) (λ c. ltb-false _ _ c);
  four = λ q. clash e (sym (language-four t q));
  high = bool_cases (ltb 8 (length t)) (λ c. clash e (sym (language-long t (ltb-true _ _ c)))) (λ c. ltb-false _ _ c);
}

-- the code's branches
module _ (s : List ℕ) (n : ℕ) (q : n ≡ run small s) where
  pub len-sized : 2 ≤ n → (n ≡ 4 → ⊥) → n ≤ 8 → n ≡ language_len s
  unfolding language_len
  len-sized h e k = rw (← q, le-ltb n 2 h, ne_eqb n 4 e, le-ltb 8 n k)

module _ (y : List ℕ) where
  pub script-short : length y < 2 → 0 ≡ script_len y
  unfolding script_len
  script-short h = go y h
    where
      go : (x : List ℕ) → length x < 2 → 0 ≡ script_len x
      go [] h = refl
      go (b ∷ []) h = bool_cases (eqb b 45) (λ a. rw (a, low-capital 0 (omega arith))) (λ a. rw a)
      go (b ∷ d ∷ x) h = absurd (omega arith)

  pub script-other : (get_or y 0 0 ≡ 45 → ⊥) → 0 ≡ script_len y
  unfolding script_len
  script-other a = rw (ne_eqb (get_or y 0 0) 45 a)

  pub region-other : (get_or y 0 0 ≡ 45 → ⊥) → 0 ≡ region_len y
  unfolding region_len
  region-other a = rw (ne_eqb (get_or y 0 0) 45 a)

  pub region-short : length y < 1 → 0 ≡ region_len y
  region-short h = region-other (go y h)
    where
      go : (x : List ℕ) → length x < 1 → get_or x 0 0 ≡ 45 → ⊥
      go [] h e = omega arith
      go (b ∷ x) h e = omega arith

  module _ (a : get_or y 0 0 ≡ 45) where
    pub script-lower : capital (get_or y 1 0) ≡ false → 0 ≡ script_len y
    unfolding script_len
    script-lower b = rw (eq-eqb (get_or y 0 0) 45 a, b)

module _ (s : List ℕ) where
  len-le : language_len s ≤ length s
  unfolding language_len
  len-le = let h = run-le small s in go (ltb (run small s) 2) (eqb (run small s) 4) (ltb 8 (run small s)) (run small s) h
    where
      go : (a b c : Bool) (n : ℕ) → n ≤ length s → cond a 0 (cond b 0 (cond c 0 n)) ≤ length s
      go true b c n h = omega arith
      go false true c n h = omega arith
      go false false true n h = omega arith
      go false false false n h = h

  language-front : 0 < language_len s → is_language (take (language_len s) s) ≡ true
  unfolding language_len
  language-front h =
      bool_cases (ltb (run small s) 2) (λ a. absurd (let q = rw a at h in omega arith))
      (λ a. bool_cases (eqb (run small s) 4) (λ b. absurd (let q = rw (a, b) at h in omega arith))
      (λ b. bool_cases (ltb 8 (run small s)) (λ c. absurd (let q = rw (a, b, c) at h in omega arith))
      (λ c. rw (a, b, c) (sized (ltb-false _ _ a) (λ q. clash (eq-eqb _ _ q) b) (ltb-false _ _ c)))))
    where
      sized : 2 ≤ run small s → (run small s ≡ 4 → ⊥) → run small s ≤ 8 → is_language (take (run small s) s) ≡ true
      sized a b c =
          let n = length-take-le (run small s) s (run-le small s) in
          sym (language-letters (take (run small s) s) (omega arith) (λ q. b (sym n ∙ q)) (omega arith)) ∙ run-every small s

language-over : (L y : List ℕ) → is_language L ≡ true → get_or y 0 0 ≤ 45 → language_len (L ++ y) ≡ length L
language-over L y e h =
    let z = language-sized L e in
    sym (len-sized (L ++ y) (length L) (sym (run-over small L y (language-letters L z.low z.four z.high ∙ e) (low_small _ h))) z.low z.four z.high)

-- A separator and a subtag.
unfoldable pub led : Tag → List ℕ
led [] = []
led (b ∷ t) = 45 ∷ b ∷ t

-- n bytes at the front are nothing, or a separator and a subtag that is such
record Front (is : Tag → Bool) (y : List ℕ) (n : ℕ) : Type 0 where
  room : n ≤ length y
  text : take n y ≡ led (take (n - 1) (drop 1 y))
  tag : (take (n - 1) (drop 1 y) ≡ []) ⊎ (is (take (n - 1) (drop 1 y)) ≡ true)

front-none : (is : Tag → Bool) (y : List ℕ) → Front is y 0
unfolding led
front-none is y = record { room = omega arith; text = refl; tag = inl refl }

front-some : (is : Tag → Bool) (y : List ℕ) (n : ℕ) → 2 ≤ n → n ≤ length y → get_or y 0 0 ≡ 45 → is (take (n - 1) (drop 1 y)) ≡ true → Front is y n
unfolding led
front-some is (h ∷ b ∷ y) (suc (suc n)) g k e f =
    let z : suc (suc n) - 1 ≡ suc n = omega arith in
    record { room = k; text = rw z (ap (λ (x : ℕ). x ∷ b ∷ take n y) e); tag = inr f }
front-some is [] n g k e f = absurd (omega arith)
front-some is (h ∷ []) n g k e f = absurd (omega arith)
front-some is (h ∷ b ∷ y) zero g k e f = absurd (omega arith)
front-some is (h ∷ b ∷ y) (suc zero) g k e f = absurd (omega arith)

script-front : (y : List ℕ) → Front is_script y (script_len y)
unfolding script_len
script-front y =
    bool_cases (eqb (get_or y 0 0) 45)
    (λ a. bool_cases (capital (get_or y 1 0))
    (λ b. bool_cases (eqb (run small (drop 2 y)) 3) (λ c. rw (a, b, c) (some (eqb-true _ _ a) b (eqb-true _ _ c))) (λ c. rw (a, b, c) (front-none is_script y)))
    (λ b. rw (a, b) (front-none is_script y)))
    (λ a. rw a (front-none is_script y))
  where
    some : get_or y 0 0 ≡ 45 → capital (get_or y 1 0) ≡ true → run small (drop 2 y) ≡ 3 → Front is_script y 5
    some a b c =
        let n = run-le small (drop 2 y) in
        let m = simp length-drop at n in
        let k : 5 ≤ length y = omega arith in
        let w : take 4 (drop 1 y) ≡ get_or y 1 0 ∷ take 3 (drop 2 y) = ap (take 4) (drop-cons y 1 0 (omega arith)) in
        let q = rw c at (run-every small (drop 2 y)) in
        front-some is_script y 5 (omega arith) k a (ap is_script w ∙ sym (script-is (get_or y 1 0 ∷ take 3 (drop 2 y)) (ap suc (length-take-le 3 (drop 2 y) (rw c at n)))) ∙ rw (b, q))

region-front : (y : List ℕ) → Front is_region y (region_len y)
unfolding region_len
region-front y =
    bool_cases (eqb (get_or y 0 0) 45)
    (λ a. bool_cases (eqb (run capital (drop 1 y)) 2) (λ b. rw (a, b) (two (eqb-true _ _ a) (eqb-true _ _ b)))
    (λ b. bool_cases (eqb (run digit (drop 1 y)) 3) (λ c. rw (a, b, c) (three' (eqb-true _ _ a) (eqb-true _ _ c))) (λ c. rw (a, b, c) (front-none is_region y))))
    (λ a. rw a (front-none is_region y))
  where
    two : get_or y 0 0 ≡ 45 → run capital (drop 1 y) ≡ 2 → Front is_region y 3
    two a c =
        let n = run-le capital (drop 1 y) in
        let m = simp length-drop at n in
        front-some is_region y 3 (omega arith) (omega arith) a (sym (region-two (take 2 (drop 1 y)) (length-take-le 2 (drop 1 y) (rw c at n))) ∙ rw c at (run-every capital (drop 1 y)))

    three' : get_or y 0 0 ≡ 45 → run digit (drop 1 y) ≡ 3 → Front is_region y 4
    three' a c =
        let n = run-le digit (drop 1 y) in
        let m = simp length-drop at n in
        front-some is_region y 4 (omega arith) (omega arith) a (sym (region-three (take 3 (drop 1 y)) (length-take-le 3 (drop 1 y) (rw c at n))) ∙ rw c at (run-every digit (drop 1 y)))

-- Where a text goes on with such a subtag, its length is found.
low-led : (t y : List ℕ) → get_or y 0 0 ≤ 45 → get_or (led t ++ y) 0 0 ≤ 45
unfolding led
low-led [] y h = h
low-led (b ∷ t) y h = omega arith

script-none : (y : List ℕ) → get_or y 0 0 < 45 → script_len y ≡ 0
unfolding script_len
script-none y h = rw (ne_eqb (get_or y 0 0) 45 (λ q. omega arith))

script-over : (S y : List ℕ) → is_script S ≡ true → get_or y 0 0 ≤ 45 → script_len (led S ++ y) ≡ length (led S)
unfolding script_len led
script-over (a ∷ b ∷ c ∷ d ∷ []) y e h =
    let g = and-true (capital a) (every small (b ∷ c ∷ d ∷ [])) (script-is (a ∷ b ∷ c ∷ d ∷ []) refl ∙ e) in
    rw (g.0, run-over small (b ∷ c ∷ d ∷ []) y g.1 (low_small _ h))
script-over [] y e h = absurd (let n = script-length [] e in omega arith)
script-over (a ∷ []) y e h = absurd (let n = script-length (a ∷ []) e in omega arith)
script-over (a ∷ b ∷ []) y e h = absurd (let n = script-length (a ∷ b ∷ []) e in omega arith)
script-over (a ∷ b ∷ c ∷ []) y e h = absurd (let n = script-length (a ∷ b ∷ c ∷ []) e in omega arith)
script-over (a ∷ b ∷ c ∷ d ∷ f ∷ t) y e h = absurd (let n = script-length (a ∷ b ∷ c ∷ d ∷ f ∷ t) e in omega arith)

capital-only : (b : ℕ) → capital b ≡ true → small b ≡ false
capital-only b e = bool_cases (small b) (λ f. clash e (not-capital b f)) (λ f. f)

-- a region is 2 capitals or 3 digits
region-cases : (P : Tag → Type 0) → ((a b : ℕ) → (capital a ≡ true) × (capital b ≡ true) → P (a ∷ b ∷ []))
    → ((a b c : ℕ) → digit a ≡ true → every digit (a ∷ b ∷ c ∷ []) ≡ true → P (a ∷ b ∷ c ∷ [])) → (t : Tag) → is_region t ≡ true → P t
region-cases P f g [] e = absurd (⊎_elim (λ n. omega arith) (λ n. omega arith) (region-sizes [] e))
region-cases P f g (a ∷ []) e = absurd (⊎_elim (λ n. omega arith) (λ n. omega arith) (region-sizes (a ∷ []) e))
region-cases P f g (a ∷ b ∷ []) e =
    let h = every-both capital a (b ∷ []) (region-two (a ∷ b ∷ []) refl ∙ e) in
    f a b (h.0, (every-both capital b [] h.1).0)
region-cases P f g (a ∷ b ∷ c ∷ []) e = let h = region-three (a ∷ b ∷ c ∷ []) refl ∙ e in g a b c (every-both digit a (b ∷ c ∷ []) h).0 h
region-cases P f g (a ∷ b ∷ c ∷ d ∷ t) e = absurd (⊎_elim (λ n. omega arith) (λ n. omega arith) (region-sizes (a ∷ b ∷ c ∷ d ∷ t) e))

module _ (y : List ℕ) where
  region-none : get_or y 0 0 < 45 → region_len y ≡ 0
  unfolding region_len
  region-none h = rw (ne_eqb (get_or y 0 0) 45 (λ q. omega arith))

  region-over : get_or y 0 0 ≤ 45 → (R : List ℕ) → is_region R ≡ true → region_len (led R ++ y) ≡ length (led R)
  unfolding region_len led every
  region-over h = region-cases (λ (R : Tag). region_len (led R ++ y) ≡ length (led R))
      (λ a b e. rw (run-over capital (a ∷ b ∷ []) y (rw (e.0, e.1)) (low-capital _ h)))
      (λ a b c d e. rw (run-no capital a (b ∷ c ∷ y) (digit_low a d), run-over digit (a ∷ b ∷ c ∷ []) y e (low_digit _ h)))

  script-region : (R : List ℕ) → is_region R ≡ true → script_len (led R ++ y) ≡ 0
  unfolding script_len led
  script-region = region-cases (λ (R : Tag). script_len (led R ++ y) ≡ 0)
      (λ a b e. rw (e.0, run-no small b y (capital-only b e.1)))
      (λ a b c d e. rw (digit_low a d))

pub printed-led : (L S R : Tag) → print_three (three L S R) ≡ L ++ (led S ++ led R)
unfolding print_three joined optional led
printed-led L [] [] = sym (append-nil L)
printed-led L [] (r ∷ R) = refl
printed-led L (b ∷ S) [] = ap (λ (x : List ℕ). L ++ (45 ∷ b ∷ x)) (sym (append-nil S))
printed-led L (b ∷ S) (r ∷ R) = refl

scripts-over : (S R y : List ℕ) → (S ≡ []) ⊎ (is_script S ≡ true) → (R ≡ []) ⊎ (is_region R ≡ true) → get_or y 0 0 < 45 → script_len (led S ++ (led R ++ y)) ≡ length (led S)
unfolding led
scripts-over S R y (inl a) (inl b) h = rw (a, b) (script-none y h)
scripts-over S R y (inl a) (inr b) h = rw a (script-region y R b)
scripts-over S R y (inr a) b h = script-over S (led R ++ y) a (low-led R y (omega arith))

regions-over : (R y : List ℕ) → (R ≡ []) ⊎ (is_region R ≡ true) → get_or y 0 0 < 45 → region_len (led R ++ y) ≡ length (led R)
unfolding led
regions-over R y (inl b) h = rw b (region-none y h)
regions-over R y (inr b) h = region-over y (omega arith) R b

-- What is read at the front of s: l, m and n bytes.
pub language-room : (s : List ℕ) (l : ℕ) → l ≡ language_len s → l ≤ length s
language-room s l a = rw a (len-le s)

-- the subtags behind the place l, as the code lends them
module _ (s : List ℕ) (l m : ℕ) (a : l ≤ length s) where
  script-is-front : m ≡ script_len (take (length s - l) (drop l s)) → Front is_script (drop l s) m
  script-is-front b = rw (b ∙ ap script_len (all_from l s)) (script-front (drop l s))

  region-is-front : m ≡ region_len (take (length s - l) (drop l s)) → Front is_region (drop l s) m
  region-is-front b = rw (b ∙ ap region_len (all_from l s)) (region-front (drop l s))

  pub script-room : m ≡ script_len (take (length s - l) (drop l s)) → l + m ≤ length s
  script-room b = let k = simp length-drop at (script-is-front b).room in omega arith

  pub region-room : m ≡ region_len (take (length s - l) (drop l s)) → l + m ≤ length s
  region-room b = let k = simp length-drop at (region-is-front b).room in omega arith

module _ (s : List ℕ) (l m n : ℕ) (a : l ≡ language_len s) (b' : m ≡ script_len (take (length s - l) (drop l s))) (c' : n ≡ region_len (take (length s - (l + m)) (drop (l + m) s))) where
  abbrev pub front_of : Subtags
  front_of = three (take l s) (take (m - 1) (drop 1 (drop l s))) (take (n - 1) (drop 1 (drop (l + m) s)))

  b : m ≡ script_len (drop l s)
  b = b' ∙ ap script_len (all_from l s)

  c : n ≡ region_len (drop (l + m) s)
  c = c' ∙ ap region_len (all_from (l + m) s)

  room : l + m ≤ length s
  room = script-room s l m (language-room s l a) b'

  script : Front is_script (drop l s) m
  script = script-is-front s l m (language-room s l a) b'

  region : Front is_region (drop (l + m) s) n
  region = region-is-front s (l + m) n room c'

  module _ (g : 0 < l) where
    front-ok : ThreeOk front_of
    front-ok = record { language = rw a (language-front s (rw a at g)); script = script.tag; region = region.tag }

    front-text : take (l + m + n) s ≡ print_three front_of
    front-text =
        take-add (l + m) n s
        ∙ ap₂ ◌++◌ (take-add l m s ∙ ap (◌++◌ (take l s)) script.text) region.text
        ∙ append_assoc (take l s) _ _
        ∙ sym (printed-led (take l s) _ _)

    pub front-three : is_three (take (l + m + n) s) ≡ true
    front-three = ap is_three front-text ∙ print-is-three front_of front-ok

    pub front-parse : parse (take (l + m + n) s) ≡ front_of
    front-parse = ap parse front-text ∙ parse-print front_of front-ok

  -- such a text with nothing behind it, or a byte below `-`, is read whole
  module _ (f : ℕ) (h : f ≤ length s) (k : get_or s f 0 < 45) (e : is_three (take f s) ≡ true) where
    pub front-whole : (0 < l) × (f ≡ l + m + n)
    front-whole = go (parse (take f s)) (three-ok (take f s) e) (three-text (take f s) e)
      where
        low : get_or (drop f s) 0 0 < 45
        low = let z : f + 0 ≡ f = omega arith in rw (get_or-drop f s 0 0, z) k

        go : (t : Subtags) → ThreeOk t → print_three t ≡ take f s → (0 < l) × (f ≡ l + m + n)
        go t o w =
            let L = t.language in
            let S = t.script in
            let R = t.region in
            let y = drop f s in
            let v : take f s ≡ L ++ (led S ++ led R) = sym w ∙ printed-led L S R in
            let u : s ≡ L ++ (led S ++ (led R ++ y)) =
            sym (take-append-drop f s) ∙ ap (λ (x : List ℕ). x ++ y) v ∙ append_assoc L (led S ++ led R) y ∙ ap (◌++◌ L) (append_assoc (led S) (led R) y) in
            let i : l ≡ length L = a ∙ ap language_len u ∙ language-over L (led S ++ (led R ++ y)) o.language (low-led S (led R ++ y) (low-led R y (omega (arith, low)))) in
            let d : drop l s ≡ led S ++ (led R ++ y) = ap₂ drop i u ∙ drop-append_seam L (led S ++ (led R ++ y)) in
            let j : m ≡ length (led S) = b ∙ ap script_len d ∙ scripts-over S R y o.script o.region low in
            let g : drop (l + m) s ≡ led R ++ y = sym (drop-drop m l s) ∙ ap₂ drop j d ∙ drop-append_seam (led S) (led R ++ y) in
            let q : n ≡ length (led R) = c ∙ ap region_len g ∙ regions-over R y o.region low in
            let z = language-sized L o.language in
            let r : f ≡ length L + (length (led S) + length (led R)) = sym (length-take-le f s h) ∙ ap length v ∙ length-append L (led S ++ led R) ∙ ap (λ (x : ℕ). length L + x) (length-append (led S) (led R)) in
            (omega (arith, z.low), omega arith)

  parts_is : front_of ≡ three (take l s) (between s l (l + m)) (between s (l + m) (l + m + n))
  parts_is =
      let u : m - 1 ≡ l + m - (l + 1) = omega arith in
      let v : n - 1 ≡ l + m + n - (l + m + 1) = omega arith in
      ap₂ (three (take l s)) (ap₂ take u (drop-drop 1 l s)) (ap₂ take v (drop-drop 1 (l + m) s))

  pub front_at : 0 < l → FrontAt s (record { language = l; script = l + m; end = l + m + n })
  front_at g = record {
    low = omega arith;
    mid = omega arith;
    high = region-room s (l + m) n room c';
    is = front-three g;
    parts = front-parse g ∙ parts_is;
    whole = λ f w. (front-whole f w.room w.low w.three).1;
  }

-- no language, no such text
pub no-front : (s : List ℕ) (l : ℕ) → l ≡ language_len s → l ≡ 0 → (f : ℕ) → WholeAt s f → ⊥
no-front s l a z f w =
    let e = l + script_len (drop l s) in
    let h = front-whole s l (script_len (drop l s)) (region_len (drop e s)) a (ap script_len (sym (all_from l s))) (ap region_len (sym (all_from e s))) f w.room w.low w.three in
    omega (arith, h.0)

pub whole-at : (s : List ℕ) → is_three s ≡ true → WholeAt s (length s)
whole-at s e = record { room = omega arith; low = rw (past s) (omega arith); three = ap is_three (take-length s) ∙ e }
  where
    past : (x : List ℕ) → get_or x (length x) 0 ≡ 0
    past [] = refl
    past (b ∷ x) = past x

-- a text that is nothing more
module _ (s : List ℕ) (r : Read) (f : FrontAt s r) where
  pub three-whole : length s ≤ r.end → ThreeAt s (record { language = r.language; script = r.script })
  three-whole h =
      let a = f.mid in
      let b = f.high in
      let q : r.end ≡ length s = omega arith in
      let w : take r.end s ≡ s = ap (λ (n : ℕ). take n s) q ∙ take-length s in
      record {
        is = sym (ap is_three w) ∙ f.is;
        low = f.low;
        high = omega arith;
        parts = sym (ap parse w) ∙ f.parts ∙ ap (three (take r.language s) (between s r.language r.script)) (rest q);
      }
    where
      rest : r.end ≡ length s → between s r.script r.end ≡ drop (r.script + 1) s
      rest e = rw e (all_from (r.script + 1) s)

  pub three-more : r.end < length s → is_three s ≡ false
  three-more h = bool_cases (is_three s) (λ e. absurd (let q = f.whole (length s) (whole-at s e) in omega arith)) (λ e. e)

-- where nothing is read, it is none
pub three-none : (s : List ℕ) → ((f : ℕ) → WholeAt s f → ⊥) → is_three s ≡ false
three-none s n = bool_cases (is_three s) (λ e. absurd (n (length s) (whole-at s e))) (λ e. e)
