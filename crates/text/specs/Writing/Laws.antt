-- The laws of writing that proofs here and above cite.
use Prim.Native.Nat.{ℕ, ◌%◌, ◌/◌, ◌≤◌}
use Rattle.std.specs.Prelude.{◌≡◌, List, ◌++◌}
use Rattle.std.proofs.Common.{◌∙◌}
use Rattle.text.specs.declared.Writer.{Writer}
use Rattle.text.specs.Text.{Written, decimal_of, two_digits}
use Rattle.text.specs.Text.Laws.{written_append, decimal_behind}
use Rattle.text.specs.Writing.{Writes}

-- two texts in a row are their join
pub writes_append : {a b c : Writer} {s t : List ℕ} → Writes a s b → Writes b t c → Writes a (s ++ t) c
writes_append p q = record { same = q.same ∙ p.same; size = q.size ∙ p.size; written = written_append p.written q.written }

-- the last two digits behind those of n / 100
pub writes_behind : {a b c : Writer} (n : ℕ) → 100 ≤ n → Writes a (decimal_of (n / 100)) b → Writes b (two_digits (n % 100)) c → Writes a (decimal_of n) c
writes_behind n h p q = rw (decimal_behind n h) (writes_append p q)

-- what a buffer holds when a writer that began at its start has ended
pub writes_whole : {a b : Writer} {before text after : List ℕ} {next : ℕ} → a.out.now ≡ before → a.at ≡ 0 → Writes a text b
    → next ≡ b.at → after ≡ b.out.now → Written before 0 text after next
writes_whole is start w place buffer =
    record { buffer = rw (buffer, w.written.buffer, is, start); place = rw (place, w.written.place, start) }
