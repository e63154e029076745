-- What one turn of the writing loop does, and that the result is no longer than the section. Assumes nothing.
use mathlib.Core.Path.{◌≡◌, refl, sym, ap, ap₂, ◌∙◌}
use mathlib.Core.Bool.{Bool, true, false}
use mathlib.Core.List.{List, [], ◌∷◌, ◌++◌, map}
use Prim.Native.Nat.{ℕ, ◌+◌, ◌-◌, ◌≤◌, ◌<◌, Ordering}
use native.Mathlib.Omega.{arith}
use lib.ListN.{length, take, drop, length-append, length-map}
use lib.Seq.{sets, length-sets}
use Rattle.standard.specs.Tag.{Tag, order, same, insert_by, sort_by, head_tag}
use Rattle.standard.specs.Grammar.{grouped, flat, drop_true, true_tag}
use Rattle.canonical_order.specs.declared.choice.Head.{Head}
use Rattle.subtag.specs.Bytes.{normal_byte}
use Rattle.subtag.specs.Sections.{tags_of, led, Led, Plain}
use Rattle.canonical_order.specs.Section.{is_head, no_head, pick_from, end_from, trimmed_end, trimmed, sorted_tags, sorted_bytes}
use Rattle.byte_string.proofs.Stores.{sets-append}
use Rattle.canonical_order.proofs.Pending.{led-append, cut, grouped-all, section-size, pending, pending-start, pending_next, pending-none, Found, Ahead, ahead, GroupAt, group_at}
use Rattle.canonical_order.proofs.Trim.{Trimmed, trim-at}

abbrev pub size : List Tag → ℕ
size ts = length (led ts)

size-append : (x y : List Tag) → size (x ++ y) ≡ size x + size y
size-append x y = ap length (led-append x y) ∙ length-append (led x) (led y)

insert-size : (x : List Tag) (ys : List (List Tag)) → size (flat (insert_by head_tag x ys)) ≤ size x + size (flat ys)
unfolding insert_by flat
insert-size x [] = omega (arith, size-append x [])
insert-size x (y ∷ ys) = go (order (head_tag x) (head_tag y)) refl (insert-size x ys)
  where
    go : (o : Ordering) → order (head_tag x) (head_tag y) ≡ o → size (flat (insert_by head_tag x ys)) ≤ size x + size (flat ys)
        → size (flat (insert_by head_tag x (y ∷ ys))) ≤ size x + size (flat (y ∷ ys))
    go Ordering.lt e i = rw (e, insert_by) (omega (arith, size-append x (y ++ flat ys)))
    go Ordering.eq e i = rw (e, insert_by) (omega (arith, size-append x (flat ys), size-append y (flat ys)))
    go Ordering.gt e i = rw (e, insert_by) (omega (arith, size-append y (flat (insert_by head_tag x ys)), size-append y (flat ys)))

pub sort-size : (gs : List (List Tag)) → size (flat (sort_by head_tag gs)) ≤ size (flat gs)
unfolding sort_by flat
sort-size [] = omega arith
sort-size (g ∷ gs) = let i = sort-size gs in let j = insert-size g (sort_by head_tag gs) in omega (arith, size-append g (flat gs))

trimmed-size : (trim : Bool) (g : List Tag) → size (trimmed trim g) ≤ size g
unfolding trimmed drop_true
trimmed-size false g = omega arith
trimmed-size true [] = omega arith
trimmed-size true (k ∷ []) = omega arith
trimmed-size true (k ∷ v ∷ []) = go (same v true_tag) refl
  where
    go : (b : Bool) → same v true_tag ≡ b → size (drop_true (k ∷ v ∷ [])) ≤ size (k ∷ v ∷ [])
    go true e = rw (e, drop_true) (omega (arith, size-append (k ∷ []) (v ∷ [])))
    go false e = rw (e, drop_true) (omega arith)
trimmed-size true (k ∷ v ∷ w ∷ ws) = omega arith

pub trimmed-label : (trim : Bool) (g : List Tag) → head_tag (trimmed trim g) ≡ head_tag g
unfolding trimmed drop_true head_tag
trimmed-label false g = refl
trimmed-label true [] = refl
trimmed-label true (k ∷ []) = refl
trimmed-label true (k ∷ v ∷ []) = go (same v true_tag) refl
  where
    go : (b : Bool) → same v true_tag ≡ b → head_tag (drop_true (k ∷ v ∷ [])) ≡ k
    go true e = rw (e, drop_true)
    go false e = rw (e, drop_true)
trimmed-label true (k ∷ v ∷ w ∷ ws) = refl

map-size : (trim : Bool) (gs : List (List Tag)) → size (flat (map (trimmed trim) gs)) ≤ size (flat gs)
unfolding flat
map-size trim [] = omega arith
map-size trim (g ∷ gs) =
    let i = map-size trim gs in
    let j = trimmed-size trim g in
    omega (arith, size-append (trimmed trim g) (flat (map (trimmed trim) gs)), size-append g (flat gs))

-- the result is no longer than the section
pub sorted-fits : (width : ℕ) (trim : Bool) (s : List ℕ) → Led s → length (sorted_bytes width trim s) ≤ length s
unfolding sorted_bytes sorted_tags
sorted-fits width trim s l =
    let g = grouped (is_head width) (tags_of s) in
    let a = sort-size (map (trimmed trim) g.groups) in
    let b = map-size trim g.groups in
    let c = ap size (grouped-all (is_head width) (tags_of s)) ∙ size-append g.before (flat g.groups) in
    let d = section-size s 0 l in
    omega arith

-- How far the writing is: what is pending goes to the place put.
pub record Writing (width : ℕ) (trim : Bool) (s out₀ : List ℕ) (at : ℕ) (out : List ℕ) (put last : ℕ) : Type 0 where
  pub same_size : length out ≡ length out₀
  pub ends : put + length (led (pending (trimmed trim) width s last)) ≡ at + length (sorted_bytes width trim s)
  pub holds : sets out put (led (pending (trimmed trim) width s last)) ≡ sets out₀ at (sorted_bytes width trim s)

module _ (width : ℕ) (trim : Bool) (s out₀ : List ℕ) (at : ℕ) (l : Led s) (h : Plain (tags_of s)) where
  pub writing_start : Writing width trim s out₀ at out₀ at 0
  unfolding sorted_bytes sorted_tags
  writing_start =
      let e = pending-start (trimmed trim) (trimmed-label trim) width s l h in
      record { same_size = refl; ends = ap (λ (ts : List Tag). at + length (led ts)) (sym e); holds = ap (λ (ts : List Tag). sets out₀ at (led ts)) (sym e) }

  module _ (out : List ℕ) (put last : ℕ) (r : Head) (e : r ≡ pick_from width last 0 (no_head (length s)) (tags_of s)) (w : Writing width trim s out₀ at out put last) where
    pub writing-done : length s ≤ r.at → (put ≡ at + length (sorted_bytes width trim s)) × (out ≡ sets out₀ at (sorted_bytes width trim s))
    unfolding led
    writing-done b =
        let n = pending-none (trimmed trim) (trimmed-label trim) width s l h last r e b in
        let z = ap (λ (ts : List Tag). length (led ts)) n in
        (omega (arith, w.ends), ap (λ (ts : List Tag). sets out put (led ts)) (sym n) ∙ w.holds)

    pub found : r.at < length s → Found (trimmed trim) width s last r
    found b = pending_next (trimmed trim) (trimmed-label trim) width s l h last r e b

    pub next-group : r.at < length s → Ahead s r.next
    next-group b = let f = found b in ahead width s r.at r.next f.inside f.begins f.next-is

    module _ (b : r.at < length s) (end : ℕ) (k : end ≡ end_from width r.next (tags_of (drop r.next s))) where
      pub its-group : GroupAt width s r.at r.next end
      its-group = let f = found b in group_at width s r.at r.next f.inside f.begins f.next-is end k

      module _ (stop : ℕ) (q : stop ≡ trimmed_end trim s r.next end) where
        pub its-part : Trimmed width trim s r.at r.next stop
        its-part = let f = found b in trim-at width s r.at r.next end f.inside f.begins f.plain f.next-is k trim stop q

        part-size : length (take (stop - r.at) (drop r.at s)) ≡ length (led (trimmed trim (cut (is_head width) (tags_of (drop r.at s)))))
        part-size = sym (length-map (take (stop - r.at) (drop r.at s)) normal_byte) ∙ ap length its-part.bytes

        more-led : led (pending (trimmed trim) width s last) ≡ led (trimmed trim (cut (is_head width) (tags_of (drop r.at s)))) ++ led (pending (trimmed trim) width s r.key)
        more-led = ap led (found b).more ∙ led-append (trimmed trim (cut (is_head width) (tags_of (drop r.at s)))) (pending (trimmed trim) width s r.key)

        -- the part fits behind what is written
        pub part-fits : at + length s ≤ length out₀ → put + length (take (stop - r.at) (drop r.at s)) ≤ length out
        part-fits c =
            let z = ap length more-led ∙ length-append (led (trimmed trim (cut (is_head width) (tags_of (drop r.at s))))) (led (pending (trimmed trim) width s r.key)) in
            omega (arith, sorted-fits width trim s l, part-size, w.ends, w.same_size)

        pub writing-next : (out' : List ℕ) (put' : ℕ) → put' ≡ put + length (take (stop - r.at) (drop r.at s)) → out' ≡ sets out put (map normal_byte (take (stop - r.at) (drop r.at s)))
            → Writing width trim s out₀ at out' put' r.key
        writing-next out' put' c d =
            let g = led (trimmed trim (cut (is_head width) (tags_of (drop r.at s)))) in
            let p = led (pending (trimmed trim) width s r.key) in
            let z = ap length more-led ∙ length-append g p in
            let x : out' ≡ sets out put g = d ∙ ap (sets out put) its-part.bytes in
            let y : put' ≡ put + length g = c ∙ ap (λ (n : ℕ). put + n) part-size in
            record {
              same_size = ap length x ∙ length-sets out put g ∙ w.same_size;
              ends = omega (arith, w.ends);
              holds = ap₂ (λ (o : List ℕ) (n : ℕ). sets o n p) x y ∙ sym (sets-append out put g p) ∙ ap (sets out put) (sym more-led) ∙ w.holds;
            }
