-- What `kexbardi_print` leaves, in plain values: a text printed, and none.
use Prim.Native.Nat.{ℕ}
use native.Mathlib.Omega.{arith}
use mathlib.Core.Path.{◌≡◌, ap, ◌∙◌}
use mathlib.Core.Logic.{◌≢◌}
use mathlib.Core.List.{List, [], ◌∷◌}
use lib.ListN.{length}
use borrow.Author.Tests.{ne_eqb}
use Rattle.text.specs.Text.{Written}
use Rattle.kexbardi_files.specs.Files.{filled, printed_by}

pub print_none : (text : List ℕ) {out out' : List ℕ} {r : ℕ} (size : ℕ) → Written out 0 text out' r → r ≡ 0 → filled 5 out' size ≡ printed_by text out size
print_none [] size w e = ap (λ (o : List ℕ). filled 5 o size) w.buffer
print_none (x ∷ text) size w e = absurd (omega (arith, w.place))

pub print_some : (text : List ℕ) {out out' : List ℕ} {r : ℕ} (size : ℕ) → Written out 0 text out' r → r ≢ 0 → filled 0 out' r ≡ printed_by text out size
print_some [] size w h = absurd (h (omega (arith, w.place)))
print_some (x ∷ text) {out} {out'} {r} size w h = let e : r ≡ length (x ∷ text) = omega (arith, w.place) in rw (ne_eqb (length (x ∷ text)) 0 (λ z. h (e ∙ z)), w.buffer, e)
