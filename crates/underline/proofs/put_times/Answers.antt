-- `underline::put_times` meets its contract. Assumes nothing.
use mathlib.Core.Path.{◌≡◌, sym, ap, ◌∙◌}
use borrow.Author.Rules.{rules}
use Prim.Native.Nat.{ℕ, ◌+◌, ◌-◌}
use native.Mathlib.Omega.{arith}
use lib.ListN.{length, take, drop, length-drop, length-replicate}
use lib.Seq.{length-take-le}
use Rattle.std.specs.Prelude.{replicate}
use Rattle.byte_string.proofs.Stores.{copied}
use Rattle.underline.proofs.put_times.Goals as goal

pub returns : goal.returns
returns c =
    let a = c.args in
    let n : length (replicate a.n a.byte) ≡ a.n = length-replicate {A = ℕ} a.n a.byte in
    let d = length-drop a.at a.out.now in
    let t = length-take-le (a.at + a.n - a.at) (drop a.at a.out.now) (omega arith) in
    let m : length (take (a.at + a.n - a.at) (drop a.at a.out.now)) ≡ a.n = omega arith in
    (ap (λ k. a.at + k) (sym n), copied a.out.now (replicate a.n a.byte) c.fill.new.self a.at _ (c.fill.ensures.after (λ y h. search rules) ∙ ap (λ k. replicate k a.byte) m) (omega arith) (omega (arith, n)))
