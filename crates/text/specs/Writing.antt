-- What it is for a writer to write a text: where its buffer and its place are before and after (L9, L13).
use Rattle.std.specs.Prelude.{ℕ, ◌+◌, ◌≤◌, ◌≡◌, List, length}
use Rattle.text.specs.declared.Writer.{Writer}
use Rattle.text.specs.Text.{Written}
pub mod Laws

-- n bytes more fit
abbrev pub HasRoom : Writer → ℕ → Type 0
HasRoom writer n = writer.at + n ≤ length writer.out.now

-- the text is written and the writer stands behind it, over the same buffer, whose length stays
pub record Writes (before : Writer) (text : List ℕ) (after : Writer) : Type 0 where
  pub same : after.out.ghost_name ≡ before.out.ghost_name
  pub size : length after.out.now ≡ length before.out.now
  pub written : Written before.out.now before.at text after.out.now after.at
