-- Demand 1, proved.
use Prim.Native.Nat.{ℕ, suc, zero, ◌+◌, ◌*◌, ◌≤◌, ◌<◌}
use native.Mathlib.Omega.{arith}
use native.Mathlib.Nat.{zero-add, add-zero, add-suc, suc-add}
use mathlib.Core.Path.{◌≡◌, refl, sym, ap, ◌∙◌}
use mathlib.Core.Logic.{◌≢◌}
use mathlib.Core.Bool.{Bool, true, false, cond, or-true}
use mathlib.Core.List.{List, [], ◌∷◌, ◌++◌, append_assoc, append-nil}
use lib.Dec.{ltb}
use lib.ListN.{length, get_or, set, length-set, length-append}
use lib.Seq.{sets, get_or-set_same, get_or-set_other}
use borrow.Author.Tests.{ne_eqb, lt-ltb, le-ltb, ltb-false}
use Rattle.reader.specs.File.{Item, word_at, whole_at, record_at, records_from, records_of}
use Rattle.reader.proofs.Laws.File.{covered, spans_length, cut_at, whole_at_lem, cut_last, by_records, every_record, records_step, spans_step, records_end}
use Rattle.desk.specs.Desk.{Desk, fitting_of, reset_desk}
use Rattle.desk.proofs.Laws.Desk.{reset_fits, reset_numbers}
use Rattle.desk.specs.Lists.{store, sample}
use Rattle.lines.specs.Lines.{line_text, last_text}
use Rattle.session.specs.Session.{number_for, left_for, shown_for, State, begun, after, run_of, answers_for, refusals_in, ended_of, left_of, answers_of}
use Rattle.session.specs.Session.Laws.{run_counts, answers_length, refused_leaves}
use Rattle.session.specs.Printed.{lines_of, body_of, too_long_line, printed_of, room_for, printed_within}
use Rattle.kexbardi_files.specs.Files.{filled, print_left}
use Rattle.claims.specs.Calls.{Answered}
use Rattle.claims.specs.Demand1.{Whole, Demand1}
use Rattle.claims.proofs.Calls.{told, called}
use Rattle.claims.proofs.Causes.{answer_at, ordered}

-- ---- the answers of a file

-- a file's records are stores, samples, and refused with 1, 2 or 3
answers_told : (file : List ℕ) (at : ℕ) (d : Desk) (i : ℕ) → Answered (get_or (answers_for d (records_from file at)) i 0)
unfolding answers_for
answers_told file = by_records file Told end more
  where
    Told : ℕ → Type 0
    Told at = (d : Desk) (i : ℕ) → Answered (get_or (answers_for d (records_from file at)) i 0)

    end : (at : ℕ) → length file ≤ at → Told at
    end at h d i = rw (records_end file at h)

    more : (at : ℕ) → at < length file → Told (record_at file at).next → Told at
    more at h rest d zero =
        rw (records_step file at h)
        (every_record (λ x. Answered (number_for d x)) (λ address value. told d (store address value)) (λ k raw. told d (sample k raw)) refl refl refl file at)
    more at h rest d (suc i) = rw (records_step file at h) (rest (left_for d (record_at file at).item) i)

-- the desk behind one more record
run_last : (t : State) (before : List Item) (x : Item) → (run_of t (before ++ (x ∷ []))).desk ≡ left_for (run_of t before).desk x
unfolding run_of
run_last t [] x = refl
run_last t (y ∷ before) x = run_last (after t y) before x

numbers_told : (file : List ℕ) (d : Desk) (i : ℕ) → Answered (get_or (answers_of file d) i 0)
unfolding answers_of
numbers_told file d i = go (fitting_of d)
  where
    go : (b : Bool) → Answered (get_or (cond b (answers_for d (records_of file)) []) i 0)
    go true = answers_told file 0 d i
    go false = refl

-- ---- the answers' buffer: values stored from a place on, as far as there is room

sets_before : (vs l : List ℕ) (i j : ℕ) → j < i → get_or (sets l i vs) j 0 ≡ get_or l j 0
sets_before [] l i j h = refl
sets_before (v ∷ vs) l i j h = let other : j ≢ i = λ e. omega (arith, e) in sets_before vs (set l i v) (suc i) j (omega arith) ∙ rw get_or-set_other

sets_at : (vs l : List ℕ) (i j : ℕ) → i + j < length l → j < length vs → get_or (sets l i vs) (i + j) 0 ≡ get_or vs j 0
sets_at [] l i j h k = absurd (omega arith)
sets_at (v ∷ vs) l i zero h k = rw (add-zero i) (sets_before vs (set l i v) (suc i) i (omega arith) ∙ get_or-set_same l i v 0 (omega arith))
sets_at (v ∷ vs) l i (suc j) h k = rw (add-suc i j, ← suc-add i j) (sets_at vs (set l i v) (suc i) j (simp length-set (omega arith)) (omega arith))

sets_behind : (vs l : List ℕ) (i j : ℕ) → i + length vs ≤ j → get_or (sets l i vs) j 0 ≡ get_or l j 0
sets_behind [] l i j h = refl
sets_behind (v ∷ vs) l i j h = let other : j ≢ i = λ e. omega (arith, e) in sets_behind vs (set l i v) (suc i) j (omega arith) ∙ rw get_or-set_other

-- ---- a printed text

-- is never empty: it has a last line. So `kexbardi_print` answers 5 for short room alone
lines_some : (t : State) (xs : List Item) → 0 < length (lines_of t xs)
unfolding lines_of last_text
lines_some t [] = simp length-append (omega arith)
lines_some t (x ∷ xs) = simp length-append (omega (arith, lines_some (after t x) xs))

pub printed_some : (file : List ℕ) → 0 < length (printed_of file)
unfolding printed_of
printed_some file = go (ltb 65536 (length file))
  where
    go : (b : Bool) → 0 < length (cond b too_long_line (lines_of (begun reset_desk) (records_of file)))
    go true = omega arith
    go false = lines_some (begun reset_desk) (records_of file)

-- the room that the program has is enough for every file
enough : (b : Bool) (n : ℕ) → ltb 65536 n ≡ b → cond b 9 (10 * n + 100) ≤ 655460
enough true n e = omega arith
enough false n e = omega (arith, ltb-false 65536 n e)

pub printed_whole : (file : List ℕ) → printed_within 655460 file ≡ printed_of file
unfolding printed_within
printed_whole file = rw (le-ltb 655460 _ (enough (ltb 65536 (length file)) (length file) refl))

-- ---- what is printed

last_line : (t : State) (xs : List Item) → lines_of t xs ≡ body_of t xs ++ last_text (run_of t xs).count (run_of t xs).refused
unfolding lines_of body_of run_of
last_line t [] = refl
last_line t (x ∷ xs) =
    let rest = after t x in
    let line = line_text (t.count + 1) x (number_for t.desk x) (shown_for t.desk x) in
    rw (last_line rest xs) (sym (append_assoc line (body_of rest xs) (last_text (run_of rest xs).count (run_of rest xs).refused)))

printed_lines : (file : List ℕ) → length file ≤ 65536
    → printed_of file ≡ body_of (begun reset_desk) (records_of file) ++ last_text (length (records_of file)) (refusals_in (answers_of file reset_desk))
unfolding printed_of answers_of
printed_lines file h =
    let c = run_counts (begun reset_desk) (records_of file) in
    let n : (run_of (begun reset_desk) (records_of file)).count ≡ length (records_of file) = omega (arith, c) in
    let m : (run_of (begun reset_desk) (records_of file)).refused ≡ refusals_in (answers_for reset_desk (records_of file)) = omega (arith, c) in
    rw (le-ltb 65536 (length file) h, reset_fits) (last_line (begun reset_desk) (records_of file) ∙ rw (n, m))

one_line : (t : State) (before : List Item) (x : Item) → let here = run_of t before in
    body_of t (before ++ (x ∷ [])) ≡ body_of t before ++ line_text (here.count + 1) x (number_for here.desk x) (shown_for here.desk x)
unfolding body_of run_of
one_line t [] x = append-nil _
one_line t (y ∷ before) x =
    let first = line_text (t.count + 1) y (number_for t.desk y) (shown_for t.desk y) in
    let here = run_of (after t y) before in
    rw (one_line (after t y) before x)
    (sym (append_assoc first (body_of (after t y) before) (line_text (here.count + 1) x (number_for here.desk x) (shown_for here.desk x))))

numbered_line : (before : List Item) (x : Item) → let here = (run_of (begun reset_desk) before).desk in
    body_of (begun reset_desk) (before ++ (x ∷ []))
    ≡ body_of (begun reset_desk) before ++ line_text (length before + 1) x (number_for here x) (shown_for here x)
numbered_line before x =
    let n : (run_of (begun reset_desk) before).count ≡ length before = omega (arith, run_counts (begun reset_desk) before) in
    rw (← n) (one_line (begun reset_desk) before x)

long_file : (file : List ℕ) → 65536 < length file → printed_of file ≡ too_long_line
unfolding printed_of
long_file file h = rw (lt-ltb 65536 (length file) h)

module _ (file out : List ℕ) (size : ℕ) where
  printed_there : room_for file ≤ length out → print_left file out size ≡ filled 0 (sets out 0 (printed_of file)) (length (printed_of file))
  unfolding print_left printed_within
  printed_there h = rw (le-ltb (length out) (room_for file) h, ne_eqb (length (printed_of file)) 0 (λ e. omega (arith, printed_some file)))

  not_printed : length out < room_for file → print_left file out size ≡ filled 5 out size
  unfolding print_left printed_within
  not_printed h = rw (lt-ltb (length out) (room_for file) h)

-- ---- the record at a position

whole_item : (file : List ℕ) (at n : ℕ) → Whole file at n (word_at file at) (whole_at file at n)
whole_item file at n = record {
  short = λ h. rw (lt-ltb n 2 h);
  unknown = λ p q. rw (ne_eqb (word_at file at) 1 p, ne_eqb (word_at file at) 2 q, or-true);
  store = λ k e. rw (e, k);
  sample = λ k e. rw (e, k);
  store_length = λ h k e. rw (le-ltb n 2 h, k, ne_eqb n 6 e);
  sample_length = λ h k e. rw (le-ltb n 2 h, k, ne_eqb n 5 e);
}

-- ---- all of it

pub demand_1 : Demand1
unfolding answers_of ended_of left_of refusals_in body_of
demand_1 = record {
  read = λ file. (covered file, spans_length file);
  cut = λ file at h. rw (cut_at file at h) (refl, refl);
  whole = λ file at h. rw (whole_at_lem file at h) (whole_item file (at + 2) (word_at file at), refl);
  next = λ file at h. (records_step file at h, spans_step file at h);
  end = records_end;
  unread = λ d. (refl, refl, refl);
  last = cut_last;
  counted = λ file d count refused fit.
      let c = run_counts (begun d) (records_of file) in
      rw fit (refl, omega (arith, c), answers_length d (records_of file) ∙ sym (omega (arith, c)), omega (arith, c));
  numbers = numbers_told;
  each = λ file d fit before x after e. (
    rw (fit, e) (answer_at (begun d) before x after),
    run_last (begun d) before x,
    λ h. run_last (begun d) before x ∙ refused_leaves (run_of (begun d) before).desk x h,
  );
  behind = λ file d fit. rw fit;
  buffer = λ file d answers i. (
    λ h k. rw (zero-add i) at (sets_at (answers_of file d) answers 0 i (omega arith) k),
    λ h. sets_behind (answers_of file d) answers 0 i (omega arith),
  );
  memory = λ file d count refused answers unfit. rw unfit (refl, refl, refl);
  fresh = (ap (λ (d : Desk). d.words) reset_numbers, ap (λ (d : Desk). d.numbers) reset_numbers);
  lines = printed_lines;
  line = numbered_line;
  no_line = refl;
  too_long = long_file;
  prints = printed_there;
  no_room = not_printed;
  program = printed_whole;
  calls = called;
  order = ordered;
}
