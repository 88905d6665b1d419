-- What a session's loops keep, in plain values: one turn, and the end.
use Prim.Native.Nat.{ℕ, ◌+◌, ◌*◌, ◌≤◌}
use native.Mathlib.Omega.{arith}
use native.Mathlib.Numerals.{unary_clauses}
use mathlib.Core.Path.{◌≡◌, refl, sym, ap, ◌∙◌}
use mathlib.Core.List.{List, [], ◌∷◌, ◌++◌}
use lib.IntN.{ℤ}
use lib.ListN.{length, set, take, length-append, length-set}
use lib.Seq.{sets, length-sets}
use mathlib.Core.Bool.{Bool, true, false}
use Rattle.std.specs.Prelude.{Result, is_err, replicate}
use Rattle.std.specs.Int.{from_bool}
use Rattle.std.specs.Result.{result_unwrap_or}
use Rattle.refusals.specs.declared.Refusal.{Refusal}
use Rattle.refusals.specs.Refusals.{number_of}
use Rattle.text.specs.Text.{Written}
use Rattle.text.specs.Text.Laws.{sets_append, take_sets}
use Rattle.reader.specs.File.{Item, records_of}
use Rattle.reader.proofs.Laws.File.{count}
use Rattle.desk.specs.Desk.{Desk, lent}
use Rattle.lines.specs.Lines.{line_text, last_text}
use Rattle.lines.specs.Widths.{width_of}
use Rattle.lines.proofs.Widths.{room_of, all_room}
use Rattle.session.specs.Session.{number_for, left_for, count_of, shown_for, acted_for, answer_in, state, begun, after, run_of, answers_for}
use Rattle.session.specs.Session.Laws.{answer_acted, shown_acted, count_acted, count_small}
use Rattle.session.specs.Printed.{lines_of}

-- what one turn of a loop computes of a record x: what it comes to, the desk after it, its count
pub record Turned (x : Item) (ws : List ℕ) (ns : List ℤ) (acted : Result (List ℕ) Refusal) (ws' : List ℕ) (ns' : List ℤ) (k : ℕ) : Type 0 where
  pub acted_lem : acted ≡ acted_for (lent ws ns) x
  pub left : lent ws' ns' ≡ left_for (lent ws ns) x
  pub count : k ≡ from_bool (is_err acted)

module _ {x : Item} {ws ws' : List ℕ} {ns ns' : List ℤ} {acted : Result (List ℕ) Refusal} {k : ℕ} (t : Turned x ws ns acted ws' ns' k) where
  -- and so its number, what is shown, and the state after it
  turned_number : number_of (answer_in acted) ≡ number_for (lent ws ns) x
  turned_number = ap (λ a. number_of (answer_in a)) t.acted_lem ∙ ap number_of (answer_acted (lent ws ns) x)

  turned_shown : result_unwrap_or acted (replicate 4 0) ≡ shown_for (lent ws ns) x
  turned_shown = ap (λ a. result_unwrap_or a (replicate 4 0)) t.acted_lem ∙ shown_acted (lent ws ns) x

  turned_count : k ≡ count_of (number_for (lent ws ns) x)
  turned_count = t.count ∙ (count_acted acted ∙ ap count_of turned_number)

  turned_state : (n m : ℕ) → state ws' ns' (n + 1) (m + k) ≡ after (state ws ns n m) x
  turned_state n m =
      ap (λ (d : Desk). record { desk = d; count = n + 1; refused = m + k }) t.left
      ∙ ap (λ (i : ℕ). record { desk = left_for (lent ws ns) x; count = n + 1; refused = m + i }) turned_count

-- a test as a number
pub counts : (b : Bool) {k : ℕ} → k ≡ from_bool b → k ≤ 1
counts true e = omega (arith, e)
counts false e = omega (arith, e)

-- what a buffer holds of a text written to its start, and that there are that many bytes
pub printed : {o t o' : List ℕ} {r : ℕ} → Written o 0 t o' r → r ≤ length o
    → (take r o' ≡ t) × (((r ≤ length o') × (r ≡ length (take r o'))) × Written o 0 t o' r)
printed {o} {t} {o'} {r} w h =
    let e : r ≡ length t = omega (arith, w.place) in
    let f : take r o' ≡ t = rw (w.buffer, e) (take_sets o t (omega arith)) in
    (f, ((rw (w.buffer, length-sets o 0 t) h, e ∙ ap length (sym f)), w))

-- a run over the file s from the words ws₀ and the numbers ns₀
module _ (s ws₀ : List ℕ) (ns₀ : List ℤ) where
  abbrev start_desk : Desk
  start_desk = lent ws₀ ns₀

  -- where the records xs are left: they lead to where all lead
  pub record Going (ws : List ℕ) (ns : List ℤ) (n m : ℕ) (xs : List Item) : Type 0 where
    pub all : n + length xs ≡ length (records_of s)
    pub fewer : m ≤ n
    pub left : run_of (state ws ns n m) xs ≡ run_of (begun start_desk) (records_of s)

  pub start : {xs : List Item} → xs ≡ records_of s → Going ws₀ ns₀ 0 0 xs
  start e = rw e (record { all = omega arith; fewer = omega arith; left = refl })

  pub turn : {ws ws' : List ℕ} {ns ns' : List ℤ} {n m k : ℕ} {acted : Result (List ℕ) Refusal} {x : Item} {xs rest : List Item} → Going ws ns n m xs
      → xs ≡ x ∷ rest → Turned x ws ns acted ws' ns' k → Going ws' ns' (n + 1) (m + k) rest
  unfolding run_of
  turn {ws} {ns = ns} {n = n} {m = m} {x = x} g e t =
      record {
        all = omega (arith, rw e at g.all);
        fewer = omega (arith, g.fewer, turned_count t, count_small (number_for (lent ws ns) x));
        left = rw (turned_state t n m) (rw e at g.left);
      }

  -- a file has at most half as many records as bytes, rounded up
  pub few : {ws : List ℕ} {ns : List ℤ} {n m : ℕ} {xs : List Item} → Going ws ns n m xs → 2 * (n + length xs) ≤ length s + 1
  few g = omega (arith, g.all, count s)

  pub end : {ws : List ℕ} {ns : List ℤ} {n m : ℕ} {xs : List Item} → Going ws ns n m xs → xs ≡ []
      → state ws ns n m ≡ run_of (begun start_desk) (records_of s)
  unfolding run_of
  end g e = rw e at g.left

  -- the same with the answers kept in a₀
  module _ (a₀ : List ℕ) where
    -- a, with the answers of the records left kept from place n on, is a₀ with all answers
    pub record Answering (ws : List ℕ) (ns : List ℤ) (n m : ℕ) (xs : List Item) (a : List ℕ) : Type 0 where
      pub going : Going ws ns n m xs
      pub same : length a ≡ length a₀
      pub kept : sets a n (answers_for (lent ws ns) xs) ≡ sets a₀ 0 (answers_for start_desk (records_of s))

    pub answer : {ws ws' : List ℕ} {ns ns' : List ℤ} {n m k : ℕ} {acted : Result (List ℕ) Refusal} {x : Item} {xs rest : List Item} {a a' : List ℕ}
        → Answering ws ns n m xs a → xs ≡ x ∷ rest → Turned x ws ns acted ws' ns' k → a' ≡ set a n (number_of (answer_in acted))
        → Answering ws' ns' (n + 1) (m + k) rest a'
    unfolding answers_for
    answer {n = n} {acted = acted} {a = a} g e t w = record {
      going = turn g.going e t;
      same = rw w (length-set a n (number_of (answer_in acted)) ∙ g.same);
      kept = rw (w, t.left, turned_number t) (simp unary_clauses (rw e at g.kept));
    }

    pub end_answering : {ws : List ℕ} {ns : List ℤ} {n m : ℕ} {xs : List Item} {a : List ℕ} → Answering ws ns n m xs a → xs ≡ []
        → a ≡ sets a₀ 0 (answers_for start_desk (records_of s))
    unfolding answers_for
    end_answering g e = rw e at g.kept

  -- the same with lines written into the buffer o₀
  module _ (o₀ : List ℕ) where
    -- o, with the lines of the records left written at p, is o₀ with all lines
    pub record Telling (ws : List ℕ) (ns : List ℤ) (n m : ℕ) (xs : List Item) (o : List ℕ) (p : ℕ) : Type 0 where
      pub going : Going ws ns n m xs
      pub most : p + room_of xs ≤ 10 * length s + 10
      pub same : length o ≡ length o₀
      pub told : sets o p (lines_of (state ws ns n m) xs) ≡ sets o₀ 0 (lines_of (begun start_desk) (records_of s))
      pub ends : p + length (lines_of (state ws ns n m) xs) ≡ length (lines_of (begun start_desk) (records_of s))

    pub start_telling : {xs : List Item} → xs ≡ records_of s → Telling ws₀ ns₀ 0 0 xs o₀ 0
    start_telling e = record { going = start e; most = rw e (omega (arith, all_room s)); same = refl; told = rw e refl; ends = rw e (omega arith) }

    pub tell : {ws ws' : List ℕ} {ns ns' : List ℤ} {n m k : ℕ} {acted : Result (List ℕ) Refusal} {x : Item} {xs rest : List Item} {o o' : List ℕ} {p p' : ℕ}
        → Telling ws ns n m xs o p → xs ≡ x ∷ rest → Turned x ws ns acted ws' ns' k
        → Written o p (line_text (n + 1) x (number_of (answer_in acted)) (result_unwrap_or acted (replicate 4 0))) o' p'
        → p' ≤ p + (6 + width_of x) → Telling ws' ns' (n + 1) (m + k) rest o' p'
    unfolding lines_of room_of
    tell {ws} {ws'} {ns} {ns'} {n} {m} {k} {acted} {x} {xs} {rest} {o} {o'} {p} {p'} g e t w b =
        let line : List ℕ = line_text (n + 1) x (number_of (answer_in acted)) (result_unwrap_or acted (replicate 4 0)) in
        let more : List ℕ = lines_of (state ws' ns' (n + 1) (m + k)) rest in
        let all : lines_of (state ws ns n m) xs ≡ line ++ more = rw e (rw (turned_state t n m, turned_number t, turned_shown t)) in
        record {
          going = turn g.going e t;
          most = omega (arith, b, rw e at g.most);
          same = rw w.buffer (length-sets o p line ∙ g.same);
          told = rw (w.place, w.buffer) (sets_append o p line more ∙ (rw all at g.told));
          ends = omega (arith, w.place, length-append line more, rw all at g.ends);
        }

    pub end_telling : {ws : List ℕ} {ns : List ℤ} {n m : ℕ} {xs : List Item} {o o' : List ℕ} {p r : ℕ} → Telling ws ns n m xs o p → xs ≡ []
        → Written o p (last_text n m) o' r → Written o₀ 0 (lines_of (begun start_desk) (records_of s)) o' r
    unfolding lines_of
    end_telling g e w = record {
      buffer = w.buffer ∙ (rw e at g.told);
      place = omega (arith, w.place, rw e at g.ends);
    }
