-- Demand 2, proved.
use Rattle.std.specs.Prelude.{Ok, Err}
use Prim.Native.Nat.{ℕ, ◌+◌, ◌≤◌, ◌<◌}
use native.Mathlib.Omega.{arith}
use mathlib.Core.Path.{◌≡◌, refl, sym, ap, ◌∙◌, subst}
use mathlib.Core.List.{List, [], ◌∷◌}
use mathlib.Core.Bool.{Bool, true, false}
use lib.IntN.{ℤ, pos}
use lib.ListN.{length, get_or, set}
use borrow.Author.Tests.{eq-eqb, ne_eqb}
use Rattle.refusals.specs.declared.Refusal.TheVariants.{Record}
use Rattle.refusals.specs.Refusals.{number_of, ◌⇒◌, first_of, FirstIn, Answer, accepted}
use Rattle.refusals.specs.Refusals.Laws.{accepted_only}
use Rattle.reading.specs.declared.reading.Reading.{Reading}
use Rattle.table.specs.Words.{base_of, block_at}
use Rattle.table.specs.Words.Laws.{block_at_lem, block_length}
use Rattle.reading.specs.Reading.{reading_of}
use Rattle.measuring.specs.Measuring.{measured_of}
use Rattle.carried.specs.Former.{former_of}
use Rattle.reading.proofs.Laws.Reading.{numbered, reading_own}
use Rattle.carried.specs.declared.record.Carried.{Carried}
use Rattle.carried.specs.Layout.{slot_of, out_of_range, record_from, numbers_of, numbers_at, carried_at}
use Rattle.carried.specs.Layout.Laws.{rows_in, in_rows, read_back}
use Rattle.judging.specs.Judging.{reading_cases}
use Rattle.engine.specs.declared.stepping.Stepped.{Stepped}
use Rattle.engine.specs.Sensing.{setpoint_of, target_of, profiled_of, fault_after, sensed_of}
use Rattle.engine.specs.Driving.{driven_of}
use Rattle.engine.specs.Writing.{status_word, written_of, written_to}
use Rattle.engine.specs.Writing.Laws.{Both, written_both}
use Rattle.engine.specs.Steps.{step_of}
use Rattle.reader.specs.File.{records_of}
use Rattle.desk.specs.Desk.{Desk, fitting_of, left_by, reading_at, step_at, marks, sample_done, sample_answer, sample_left, line_of, pv_at}
use Rattle.desk.proofs.Laws.Desk.{sound, sampled, answer_ranged, done_lengths, major_there, own_numbers, own_words, own_block, major_word, other_words, other_numbers, marked_numbers}
use Rattle.desk.proofs.Laws.Lists.{by_answer, range_kept, range_behind}
use Rattle.session.specs.Session.{begun as started, calls_of, left_of}
use Rattle.session.specs.Session.Laws.{run_desk}
use Rattle.kexbardi.specs.Interface.{line_left}
use Rattle.claims.specs.Turns.{Made, one, file, Turn, found, made_left, behind, behind_all}
use Rattle.claims.specs.Calls.{transfer_at, major_at}
use Rattle.claims.specs.Causes.{sample_rows}
use Rattle.claims.specs.Demand2.{Other, Done, SameBut28, Agree, InRange, Demand2}
use Rattle.claims.proofs.Turns.{unfit_behind, record_found, record_behind}
use Rattle.claims.proofs.Causes.{ordered}

-- ---- what a sample leaves

exactly : (d : Desk) (k raw : ℕ) → number_of (sample_answer d k raw) ≡ 0 → Done d (sample_left d k raw) k raw
unfolding sample_left
exactly d k raw e =
    let a = accepted_only (sample_answer d k raw) e in
    let s = sampled d k raw a in
    let w = own_words d k raw s in
    rw a (record { word = w.word; setpoint = w.setpoint; pv = w.pv; bias = w.bias; output = w.output; status = w.status; flags = w.flags; fault = w.fault; numbers = own_numbers d k raw s })

line_shown : (d : Desk) (k raw : ℕ) (line : List ℕ) → number_of (sample_answer d k raw) ≡ 0 → line_left d k raw line ≡ line_of (sample_left d k raw).words k
unfolding line_left
line_shown d k raw line e = rw (eq-eqb (number_of (sample_answer d k raw)) 0 e)

handed_over_lem : (d : Desk) (k raw : ℕ) → number_of (sample_answer d k raw) ≡ 0 → transfer_at d k ≡ true → let j = major_at d k in
    ((reading_at d k).settings.pointer ≡ base_of j + 5)
    × (get_or (sample_left d k raw).words (base_of j + 5) 0 ≡ pv_at d k raw)
    × (numbers_at (sample_left d k raw).numbers (slot_of j) ≡ set (numbers_at d.numbers (slot_of j)) 13 (pos 1))
unfolding sample_left step_of written_of sensed_of
handed_over_lem d k raw e on =
    let a = accepted_only (sample_answer d k raw) e in
    let s = sampled d k raw a in
    let m = major_there d k raw s on in
    let all : marks (reading_at d k) (major_at d k) ≡ true = rw (on, eq-eqb (major_at d k) (major_at d k) refl) in
    rw a (m.output, major_word d k raw s on, marked_numbers d k raw s (major_at d k) m.above m.other all)

words_kept : (d : Desk) (k raw i : ℕ) → Other d k i → get_or (sample_left d k raw).words i 0 ≡ get_or d.words i 0
unfolding sample_left
words_kept d k raw i o =
    by_answer (λ (e : Desk). get_or e.words i 0 ≡ get_or d.words i 0) (sample_answer d k raw)
    (λ a. other_words d k raw (sampled d k raw a) i
    (record { mode = o.mode; setpoint = o.setpoint; pv = o.pv; bias = o.bias; output = o.output; status = o.status; flags = o.flags; fault = o.fault })
    o.pointed) refl

records_kept : (d : Desk) (k raw j : ℕ) → 1 ≤ j → (j ≡ k → ⊥) → (transfer_at d k ≡ true → j ≡ major_at d k → ⊥)
    → numbers_at (sample_left d k raw).numbers (slot_of j) ≡ numbers_at d.numbers (slot_of j)
unfolding sample_left
records_kept d k raw j first other unmarked =
    by_answer (λ (e : Desk). numbers_at e.numbers (slot_of j) ≡ numbers_at d.numbers (slot_of j)) (sample_answer d k raw)
    (λ a. other_numbers d k raw (sampled d k raw a) j first other (none (transfer_at d k) refl)) refl
  where
    none : (b : Bool) → transfer_at d k ≡ b → marks (reading_at d k) j ≡ false
    none true on = rw (on, ne_eqb (major_at d k) j (λ e. unmarked on (sym e)))
    none false off = rw off

lengths_kept : (d : Desk) (k raw : ℕ)
    → (length (sample_left d k raw).words ≡ length d.words) × (length (sample_left d k raw).numbers ≡ length d.numbers)
unfolding sample_left
lengths_kept d k raw =
    by_answer (λ (e : Desk). (length e.words ≡ length d.words) × (length e.numbers ≡ length d.numbers)) (sample_answer d k raw)
    (λ _. done_lengths d k raw) (refl, refl)

-- ---- two loops that agree

-- two loops with the same words but for word 28 show the same line
line_same : (ws ws' : List ℕ) (k k' : ℕ) → SameBut28 ws ws' k k' → line_of ws k ≡ line_of ws' k'
line_same ws ws' k k' same =
    let at : (i : ℕ) → i < 28 → get_or ws (base_of k + i) 0 ≡ get_or ws' (base_of k' + i) 0 = λ i h. same i (omega arith) (λ e. omega arith) in
    rw (at 2 (omega arith), at 3 (omega arith), at 5 (omega arith), at 6 (omega arith))

-- a step does not look at the loop's number
step_numbered : (k : ℕ) (r : Reading) (c : Carried) (raw : ℕ) → step_of (numbered k r) c raw ≡ step_of r c raw
unfolding step_of sensed_of target_of setpoint_of profiled_of fault_after driven_of written_of status_word
step_numbered k r c raw = refl

module _ (d d' : Desk) (k k' raw : ℕ) (agree : Agree d d' k k') where
  carried_same : carried_at d.numbers k ≡ carried_at d'.numbers k'
  carried_same = ap record_from agree.numbers

  reading_same : reading_at d k ≡ numbered k (reading_at d' k')
  reading_same =
      reading_own d.words d'.words k k' (former_of (carried_at d.numbers k).state) agree.words agree.pointed agree.major agree.limits agree.fault agree.table
      ∙ ap (λ (c : Carried). numbered k (reading_of d'.words k' (former_of c.state))) carried_same

  abbrev r' : Reading
  r' = reading_at d' k'

  transfer_same : transfer_at d k ≡ transfer_at d' k'
  transfer_same = ap (λ (r : Reading). r.transfer) reading_same

  major_same : major_at d k ≡ major_at d' k'
  major_same = ap (λ (r : Reading). r.major.number) reading_same

  answer_same : sample_answer d k raw ≡ sample_answer d' k' raw
  answer_same =
      answer_ranged d k raw agree.memory agree.loop.0 agree.loop.1
      ∙ ap (λ (ns : List ℤ). first_of ((out_of_range ns ⇒ Record) ∷ reading_cases (reading_at d k) raw)) agree.numbers
      ∙ ap (λ (r : Reading). first_of ((out_of_range (numbers_at d'.numbers (slot_of k')) ⇒ Record) ∷ reading_cases r raw)) reading_same
      ∙ sym (answer_ranged d' k' raw agree.memory' agree.loop'.0 agree.loop'.1)

  step_same : step_at d k raw ≡ step_at d' k' raw
  step_same =
      ap (λ (r : Reading). step_of r (carried_at d.numbers k) (measured_of r raw)) reading_same
      ∙ ap (λ (c : Carried). step_of (numbered k r') c (pv_at d' k' raw)) carried_same
      ∙ step_numbered k r' (carried_at d'.numbers k') (pv_at d' k' raw)

  -- both blocks have 32 words, and the same words but for word 28 are written into both
  block_both : (i : ℕ) → i < 32 → (i ≡ 28 → ⊥) → Both i (block_at d.words (base_of k)) (block_at d'.words (base_of k'))
  block_both i few other = record {
    size = block_length d.words (base_of k) (omega (arith, (sound d agree.memory).words, agree.loop.0, agree.loop.1))
        ∙ sym (block_length d'.words (base_of k') (omega (arith, (sound d' agree.memory').words, agree.loop'.0, agree.loop'.1)));
    same = block_at_lem d.words (base_of k) i few ∙ agree.words i few other ∙ sym (block_at_lem d'.words (base_of k') i few);
  }

  words_same : sample_answer d k raw ≡ accepted → SameBut28 (sample_done d k raw).words (sample_done d' k' raw).words k k'
  words_same a i few other =
      let own = own_block d k raw (sampled d k raw a) in
      let own' = own_block d' k' raw (sampled d' k' raw (sym answer_same ∙ a)) in
      sym (block_at_lem (sample_done d k raw).words (base_of k) i few)
      ∙ ap (λ (l : List ℕ). get_or l i 0) own
      ∙ (written_both 0 (step_at d k raw).written (block_both i few other)).same
      ∙ ap (λ (s : Stepped). get_or (written_to (block_at d'.words (base_of k')) 0 s.written) i 0) step_same
      ∙ sym (ap (λ (l : List ℕ). get_or l i 0) own')
      ∙ block_at_lem (sample_done d' k' raw).words (base_of k') i few

  numbers_same : sample_answer d k raw ≡ accepted
      → numbers_at (sample_done d k raw).numbers (slot_of k) ≡ numbers_at (sample_done d' k' raw).numbers (slot_of k')
  numbers_same a =
      own_numbers d k raw (sampled d k raw a)
      ∙ ap (λ (s : Stepped). numbers_of s.carried) step_same
      ∙ sym (own_numbers d' k' raw (sampled d' k' raw (sym answer_same ∙ a)))

  left_same : (a : Answer) → sample_answer d k raw ≡ a → let e = left_by a (sample_done d k raw) d in
      let e' = left_by a (sample_done d' k' raw) d' in
      SameBut28 e.words e'.words k k' × (numbers_at e.numbers (slot_of k) ≡ numbers_at e'.numbers (slot_of k'))
  left_same (Ok _) e = (words_same e, numbers_same e)
  left_same (Err why) e = (agree.words, agree.numbers)

  words_alike : SameBut28 (sample_left d k raw).words (sample_left d' k' raw).words k k'
      × (numbers_at (sample_left d k raw).numbers (slot_of k) ≡ numbers_at (sample_left d' k' raw).numbers (slot_of k'))
  unfolding sample_left
  words_alike = let p = left_same (sample_answer d k raw) refl in rw (← answer_same) (p.0, p.1)

  line_alike : (line : List ℕ) → line_left d k raw line ≡ line_left d' k' raw line
  unfolding line_left
  line_alike line = rw (line_same (sample_left d k raw).words (sample_left d' k' raw).words k k' words_alike.0, answer_same)

-- ---- the ranges

module _ (k : ℕ) (above : 1 ≤ k) (below : k ≤ 16) where
  -- a call on memory of the right lengths
  made_range : (d : Desk) (m : Made) → fitting_of d ≡ true → InRange k d → InRange k (made_left d m)
  unfolding made_left left_of
  made_range d (one call) fit h = rows_in _ (range_kept k above below d call (in_rows _ h))
  made_range d (file bytes) fit h = rw (fit, run_desk (started d) (records_of bytes)) (rows_in _ (range_behind k above below d (calls_of (records_of bytes)) (in_rows _ h)))

  turn_range : (d : Desk) (t : Turn) → InRange k d → InRange k (behind d t)
  turn_range d t h = go (fitting_of (found d t)) refl
    where
      go : (b : Bool) → fitting_of (found d t) ≡ b → InRange k (behind d t)
      go true fit = rw (record_behind d t fit k above below) (made_range (found d t) t.made fit (rw (record_found d t fit k above below) at h))
      go false wrong = rw (unfit_behind d t wrong) h

  all_ranges : (d : Desk) (ts : List Turn) → InRange k d → InRange k (behind_all d ts)
  unfolding behind_all
  all_ranges d [] h = h
  all_ranges d (t ∷ ts) h = all_ranges (behind d t) ts (turn_range d t h)

pub demand_2 : Demand2
demand_2 = record {
  accepted = λ d k raw. let first = ordered.samples d k raw in
      (λ none. ordered.alone d k raw (number_of (sample_answer d k raw)) 0 first none, λ zero. subst (FirstIn (sample_rows d k raw)) zero first);
  exact = exactly;
  handed = handed_over_lem;
  line = line_shown;
  other_words = words_kept;
  other_records = records_kept;
  lengths = lengths_kept;
  local = λ d d' k k' raw line agree.
      let w = words_alike d d' k k' raw agree in
      let same = reading_same d d' k k' raw agree in (
        answer_same d d' k k' raw agree,
        w.0,
        w.1,
        line_alike d d' k k' raw agree line,
        transfer_same d d' k k' raw agree,
        λ _. major_same d d' k k' raw agree,
        ap (λ (r : Reading). measured_of r raw) same,
      );
  back = read_back;
  ranges = λ d ts k above below h. all_ranges k above below d ts h;
}
