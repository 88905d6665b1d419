-- The laws of the calls: a refused one leaves the desk, what an accepted one is known to be, and a loop's record after each.
use Rattle.std.specs.Prelude.{ℕ, ◌+◌, ◌≤◌, ◌<◌, refl, Bool, true, false, cond, ltb, eqb, ℤ, pos, length, replicate}
use Rattle.std.proofs.Common.{arith, add-zero, ◌∙◌, length-take, length-drop, length-set, Ok, Err}
use Rattle.std.proofs.Math.Path.{◌≡◌, sym, ap, subst}
use mathlib.Core.List.{List, ◌∷◌, ◌++◌}
use Rattle.std.proofs.Math.ListN.{get_or, set}
use Rattle.std.proofs.lemmas.List.Edits.{sets}
use Rattle.std.proofs.Math.Seq.{length-sets, get_or-set_same, get_or-set_other}
use borrow.Author.Tests.{eqb-true, eqb-false, not-false, ltb-false, le-ltb}
use Rattle.refusals.specs.declared.Refusal.{Refusal}
use Rattle.refusals.specs.declared.Refusal.TheVariants.{Record}
use Rattle.refusals.specs.Refusals.{◌⇒◌, first_of, Answer, accepted, accepted_with}
use Rattle.refusals.specs.Refusals.Laws.{refused_with, granted_with, accepted_at, accepted_rest, refused_first, accepted_first}
use Rattle.reading.specs.Reading.{reading_of}
use Rattle.table.specs.Words.{base_of, block_at}
use Rattle.table.specs.Words.Laws.{or_false, and_true, block_apart}
use Rattle.reading.proofs.Laws.Transfers.{IsMajor, read_low, major_read}
use Rattle.carried.specs.Layout.{field_count, number_count, slot_of, out_of_range, numbers_of, record_from, numbers_at, carried_at, marked_at, marked_record}
use Rattle.carried.specs.Layout.Laws.{read_back, numbers_length, put_same, put_other, ranged, in_range, mark_same, mark_other, mark_record, mark_range}
use Rattle.carried.specs.declared.record.Carried.{Carried}
use Rattle.carried.specs.Former.{former_of}
use Rattle.carried.specs.Ranged.{Ranged}
use Rattle.judging.specs.Judging.{reading_cases}
use Rattle.judging.specs.Judging.Laws.{MajorGood, passed, major_good}
use Rattle.engine.specs.Writing.{written_to}
use Rattle.engine.specs.Writing.Laws.{There as Written, Other as Unwritten, written_there, written_length, written_other, written_block}
use Rattle.engine.proofs.Laws.Steps.{usable, stepped_ranged}
use Rattle.engine.specs.Premises.{Usable}
use Rattle.desk.specs.declared.admitting.Admitted.{Admitted}
use Rattle.desk.specs.declared.sampling.Line.{Line}
use Rattle.desk.specs.Desk.{Desk, lent, fitting_of, memory_cases, left_by, reset_desk, reset_answer, reset_left, no_loop, loop_cases, reading_at, pv_at, sample_answer, admitted_at, admission_at, step_at, marks, transfer_left, done_by, sample_done, sample_left, line_at, answer_shown, sampled_at, copied_by}

-- ---- any call

-- the two promises of a call, for its answer a
pub promised : (after before : Desk) {answer a : Answer} → answer ≡ a → (a ≡ answer) × (left_by a after before ≡ left_by answer after before)
promised after before e = (sym e, rw e)

pub copied : (found before : List ℤ) {answer a : Answer} → answer ≡ a → (a ≡ answer) × (copied_by a found before ≡ copied_by answer found before)
copied found before e = (sym e, rw e)

-- ---- memory of the right lengths

pub record Sound (d : Desk) : Type 0 where
  pub words : length d.words ≡ 1024
  pub numbers : length d.numbers ≡ number_count

pub sound : (d : Desk) → fitting_of d ≡ true → Sound d
unfolding fitting_of
sound d e =
    let p = and_true (eqb (length d.words) 1024) (eqb (length d.numbers) number_count) e in
    record { words = eqb-true _ _ p.0; numbers = eqb-true _ _ p.1 }

-- where a call with such a case is accepted
pub fits : (d : Desk) → first_of (memory_cases d) ≡ accepted → fitting_of d ≡ true
fits d e = not-false _ (accepted_at (memory_cases d) e 0)

-- ---- a loop that there is, with its record in range

pub record Known (ns : List ℤ) (k : ℕ) : Type 0 where
  pub above : 1 ≤ k
  pub below : k ≤ 16
  pub range : out_of_range (numbers_at ns (slot_of k)) ≡ false

pub loop_there : (k : ℕ) → no_loop k ≡ false → (1 ≤ k) × (k ≤ 16)
unfolding no_loop
loop_there k e = let p = or_false (ltb k 1) (ltb 16 k) e in (ltb-false _ _ p.0, ltb-false _ _ p.1)

pub there_loop : (k : ℕ) → 1 ≤ k → k ≤ 16 → no_loop k ≡ false
unfolding no_loop
there_loop k above below = rw (le-ltb k 1 above, le-ltb 16 k below)

pub known : (ns : List ℤ) (k : ℕ) → no_loop k ≡ false → out_of_range (numbers_at ns (slot_of k)) ≡ false → Known ns k
known ns k e f = let p = loop_there k e in record { above = p.0; below = p.1; range = f }

pub known_loop_lem : (ns : List ℤ) (k : ℕ) → first_of (loop_cases ns k) ≡ accepted → Known ns k
known_loop_lem ns k e = let no = accepted_at (loop_cases ns k) e in known ns k (no 0) (no 1)

-- ---- a sample's tests, one group after the other

module _ (d : Desk) (k raw : ℕ) (fit : fitting_of d ≡ true) where
  -- where there is no such loop, or its record is out of range
  pub loop_refused : {why : Refusal} → first_of (loop_cases d.numbers k) ≡ Err why → sample_answer d k raw ≡ Err why
  unfolding sample_answer
  loop_refused e = rw fit (refused_first (loop_cases d.numbers k) (reading_cases (reading_at d k) raw) e)

  -- else what is read decides
  pub past_loop : first_of (loop_cases d.numbers k) ≡ accepted → sample_answer d k raw ≡ first_of (reading_cases (reading_at d k) raw)
  unfolding sample_answer
  past_loop e = rw fit (accepted_first (loop_cases d.numbers k) (reading_cases (reading_at d k) raw) e)

-- ---- an admission

module _ (d : Desk) (k raw : ℕ) where
  pub admission_refused : {why : Refusal} → admission_at d k raw ≡ Err why → sample_answer d k raw ≡ Err why
  unfolding admission_at
  admission_refused = refused_with (admitted_at d k raw) (sample_answer d k raw)

  pub admission_sample : {a : Admitted} → admission_at d k raw ≡ Ok a → (sample_answer d k raw ≡ accepted) × (a ≡ admitted_at d k raw)
  unfolding admission_at
  admission_sample = granted_with (admitted_at d k raw) (sample_answer d k raw)

-- ---- an accepted sample

pub record Sampled (d : Desk) (k raw : ℕ) : Type 0 where
  pub memory : Sound d
  pub above : 1 ≤ k
  pub below : k ≤ 16
  pub carried : Ranged (carried_at d.numbers k)
  pub reading : Usable (reading_at d k) (pv_at d k raw)
  pub transfer : (reading_at d k).transfer ≡ true → MajorGood (reading_at d k).major (pv_at d k raw)

pub sampled : (d : Desk) (k raw : ℕ) → sample_answer d k raw ≡ accepted → Sampled d k raw
unfolding sample_answer
sampled d k raw e =
    let p = accepted_rest (memory_cases d) (loop_cases d.numbers k ++ reading_cases (reading_at d k) raw) e in
    let q = accepted_rest (loop_cases d.numbers k) (reading_cases (reading_at d k) raw) p.1 in
    let loop = known_loop_lem d.numbers k q.0 in
    let c = carried_at d.numbers k in
    let in_rows : Ranged c = ranged (numbers_at d.numbers (slot_of k)) loop.range in
    record {
      memory = sound d (fits d p.0);
      above = loop.above;
      below = loop.below;
      carried = in_rows;
      reading = usable d.words k (former_of c.state) raw in_rows.profile.segment q.1;
      transfer = λ on. major_good (reading_at d k).major (pv_at d k raw) (rw on at (passed (reading_at d k) raw q.1).major);
    }

-- past N5 and N4 the record and the reading decide
pub answer_ranged : (d : Desk) (k raw : ℕ) → fitting_of d ≡ true → 1 ≤ k → k ≤ 16
    → sample_answer d k raw ≡ first_of ((out_of_range (numbers_at d.numbers (slot_of k)) ⇒ Record) ∷ reading_cases (reading_at d k) raw)
unfolding sample_answer
answer_ranged d k raw fit above below = rw (fit, there_loop k above below)

-- by whether it is a transfer
by_transfer : (P : Desk → Type 0) (on : Bool) {x y : Desk} → (on ≡ true → P x) → (on ≡ false → P y) → P (cond on x y)
by_transfer P true f g = f refl
by_transfer P false f g = g refl

no_both : {b : Bool} → b ≡ true → b ≡ false → ⊥
no_both e f = let z : ◌≡◌ {A = ℕ} 0 1 = cc in omega arith

-- the lengths stay
pub done_lengths : (d : Desk) (k raw : ℕ) → (length (sample_done d k raw).words ≡ length d.words) × (length (sample_done d k raw).numbers ≡ length d.numbers)
unfolding done_by transfer_left
done_lengths d k raw =
    let words = written_length d.words (base_of k) (step_at d k raw).written in
    let numbers = length-sets d.numbers (slot_of k) (numbers_of (step_at d k raw).carried) in
    by_transfer (λ (e : Desk). (length e.words ≡ length d.words) × (length e.numbers ≡ length d.numbers)) (reading_at d k).transfer
    (λ _. (simp length-set words, simp length-set numbers)) (λ _. (words, numbers))

-- its own record is the step's, in range again
module _ (d : Desk) (k raw : ℕ) (s : Sampled d k raw) where
  abbrev transfer : Bool
  transfer = (reading_at d k).transfer

  abbrev major : ℕ
  major = (reading_at d k).major.number

  abbrev next : Carried
  next = (step_at d k raw).carried

  -- the record itself put into the buffer
  abbrev put : List ℤ
  put = sets d.numbers (slot_of k) (numbers_of next)

  -- a major loop is another one of the sixteen
  pub major_there : transfer ≡ true → IsMajor k (reading_at d k).settings.pointer major
  unfolding reading_of
  major_there on = (major_read d.words transfer k (reading_at d k).settings.pointer (s.transfer on).number).0

  pub own_numbers : numbers_at (sample_done d k raw).numbers (slot_of k) ≡ numbers_of next
  unfolding done_by transfer_left
  own_numbers =
      let same : numbers_at put (slot_of k) ≡ numbers_of next
      = put_same d.numbers (numbers_of next) (slot_of k) (numbers_length next) (omega (arith, s.memory.numbers, s.above, s.below)) in
      by_transfer (λ (e : Desk). numbers_at e.numbers (slot_of k) ≡ numbers_of next) transfer
      (λ on. let m = major_there on in mark_other put major k m.above s.above (λ e. m.other (sym e)) ∙ same)
      (λ _. same)

  -- its own eight words are the step's
  pub own_words : Written (sample_done d k raw).words (base_of k) (step_at d k raw).written
  unfolding done_by transfer_left
  own_words =
      let w = (step_at d k raw).written in
      let there = written_there d.words (base_of k) w (omega (arith, s.memory.words, s.above, s.below)) in
      by_transfer (λ (e : Desk). Written e.words (base_of k) w) transfer
      (λ on. let m = major_there on in
      let apart : (i : ℕ) → i < 32 → get_or (set (written_to d.words (base_of k) w) (base_of major + 5) w.pv) (base_of k + i) 0 ≡ get_or (written_to d.words (base_of k) w) (base_of k + i) 0
      = λ i few. get_or-set_other (written_to d.words (base_of k) w) (base_of major + 5) (base_of k + i) w.pv 0 (λ e. m.other (omega (arith, m.above, s.above))) in
      record {
        word = ap (λ i. get_or (set (written_to d.words (base_of k) w) (base_of major + 5) w.pv) i 0) (sym (add-zero (base_of k))) ∙ apart 0 (omega arith) ∙ ap (λ i. get_or (written_to d.words (base_of k) w) i 0) (add-zero (base_of k)) ∙ there.word;
        setpoint = apart 2 (omega arith) ∙ there.setpoint;
        pv = apart 3 (omega arith) ∙ there.pv;
        bias = apart 4 (omega arith) ∙ there.bias;
        output = apart 5 (omega arith) ∙ there.output;
        status = apart 6 (omega arith) ∙ there.status;
        flags = apart 27 (omega arith) ∙ there.flags;
        fault = apart 29 (omega arith) ∙ there.fault;
      })
      (λ _. there)

  -- and in the loop's block nothing else is written
  pub own_block : block_at (sample_done d k raw).words (base_of k) ≡ written_to (block_at d.words (base_of k)) 0 (step_at d k raw).written
  unfolding done_by transfer_left
  own_block =
      let w = (step_at d k raw).written in
      let block = written_block d.words (base_of k) w in
      by_transfer (λ (e : Desk). block_at e.words (base_of k) ≡ written_to (block_at d.words (base_of k)) 0 w) transfer
      (λ on. let m = major_there on in
      block_apart (written_to d.words (base_of k) w) (base_of k) (base_of major + 5) w.pv (λ n few e. m.other (omega (arith, m.above, s.above))) ∙ block)
      (λ _. block)

  -- at a transfer the word pointed to is the PV
  pub major_word : transfer ≡ true → get_or (sample_done d k raw).words (base_of major + 5) 0 ≡ (step_at d k raw).written.pv
  unfolding done_by transfer_left
  major_word on =
      let w = (step_at d k raw).written in
      let m = major_there on in
      by_transfer (λ (e : Desk). get_or e.words (base_of major + 5) 0 ≡ w.pv) transfer
      (λ _. get_or-set_same (written_to d.words (base_of k) w) (base_of major + 5) w.pv 0
      (omega (arith, written_length d.words (base_of k) w, s.memory.words, m.below)))
      (λ off. absurd (no_both on off))

  -- no other word is written
  pub other_words : (i : ℕ) → Unwritten (base_of k) i → (transfer ≡ true → i ≡ (reading_at d k).settings.pointer → ⊥)
      → get_or (sample_done d k raw).words i 0 ≡ get_or d.words i 0
  unfolding done_by transfer_left
  other_words i o apart =
      let w = (step_at d k raw).written in
      let own = written_other d.words (base_of k) w i o in
      by_transfer (λ (e : Desk). get_or e.words i 0 ≡ get_or d.words i 0) transfer
      (λ on. get_or-set_other (written_to d.words (base_of k) w) (base_of major + 5) i w.pv 0 (λ e. apart on (e ∙ sym (major_there on).output)) ∙ own)
      (λ _. own)

  pub own_record : carried_at (sample_done d k raw).numbers k ≡ next
  own_record = ap record_from own_numbers ∙ read_back next

  pub own_range : out_of_range (numbers_at (sample_done d k raw).numbers (slot_of k)) ≡ false
  own_range = ap out_of_range own_numbers ∙ in_range next (stepped_ranged s.reading s.carried)

  -- another loop's numbers stay but for the mark of the major loop
  module _ (j : ℕ) (first : 1 ≤ j) (other : j ≡ k → ⊥) where
    before : numbers_at put (slot_of j) ≡ numbers_at d.numbers (slot_of j)
    before = put_other d.numbers (numbers_of next) k j (numbers_length next) s.above first other

    pub other_numbers : marks (reading_at d k) j ≡ false → numbers_at (sample_done d k raw).numbers (slot_of j) ≡ numbers_at d.numbers (slot_of j)
    unfolding done_by transfer_left
    other_numbers none =
        by_transfer (λ (e : Desk). numbers_at e.numbers (slot_of j) ≡ numbers_at d.numbers (slot_of j)) transfer
        (λ on. mark_other put major j (major_there on).above first (λ e. eqb-false major j (rw on at none) (sym e)) ∙ before)
        (λ _. before)

    pub marked_numbers : marks (reading_at d k) j ≡ true
        → numbers_at (sample_done d k raw).numbers (slot_of j) ≡ set (numbers_at d.numbers (slot_of j)) 13 (pos 1)
    unfolding done_by transfer_left
    marked_numbers all =
        let p = and_true (transfer) (eqb major j) all in
        let e : major ≡ j = eqb-true major j p.1 in
        by_transfer (λ (e : Desk). numbers_at e.numbers (slot_of j) ≡ set (numbers_at d.numbers (slot_of j)) 13 (pos 1)) transfer
        (λ _. subst (λ n. numbers_at (marked_at put n) (slot_of j) ≡ set (numbers_at d.numbers (slot_of j)) 13 (pos 1)) (sym e)
        (mark_same put j ∙ ap (λ (ns : List ℤ). set ns 13 (pos 1)) before))
        (λ off. absurd (no_both p.0 off))

    size : j ≤ 16 → length (numbers_at d.numbers (slot_of j)) ≡ field_count
    size last = simp (length-take, length-drop) (omega (arith, s.memory.numbers))

    pub other_record : j ≤ 16
        → carried_at (sample_done d k raw).numbers j ≡ cond (marks (reading_at d k) j) (marked_record (carried_at d.numbers j)) (carried_at d.numbers j)
    other_record last = go (marks (reading_at d k) j) refl
      where
        go : (b : Bool) → marks (reading_at d k) j ≡ b → carried_at (sample_done d k raw).numbers j ≡ cond b (marked_record (carried_at d.numbers j)) (carried_at d.numbers j)
        go true e = ap record_from (marked_numbers e) ∙ mark_record (numbers_at d.numbers (slot_of j)) (size last)
        go false e = ap record_from (other_numbers e)

    pub other_range : j ≤ 16 → out_of_range (numbers_at d.numbers (slot_of j)) ≡ false → out_of_range (numbers_at (sample_done d k raw).numbers (slot_of j)) ≡ false
    other_range last h = go (marks (reading_at d k) j) refl
      where
        go : (b : Bool) → marks (reading_at d k) j ≡ b → out_of_range (numbers_at (sample_done d k raw).numbers (slot_of j)) ≡ false
        go true e = rw (marked_numbers e) (mark_range (numbers_at d.numbers (slot_of j)) (size last) h)
        go false e = rw (other_numbers e) h

-- ---- what a sample answers and leaves

-- of a refused one nothing is shown, and nothing changes
pub shown_refused : (d : Desk) (k raw : ℕ) {why : Refusal} → sample_answer d k raw ≡ Err why → (Err why ≡ sampled_at d k raw) × (d ≡ sample_left d k raw)
unfolding sampled_at sample_left
shown_refused d k raw e = (rw e, rw e)

-- of an accepted one the words that were written are shown
pub shown_done : (d : Desk) (k raw : ℕ) → sample_answer d k raw ≡ accepted → let w = (step_at d k raw).written in
    (Ok (record { setpoint = w.setpoint; pv = w.pv; output = w.output; status = w.status }) ≡ sampled_at d k raw)
    × (sample_done d k raw ≡ sample_left d k raw)
unfolding sampled_at sample_left
shown_done d k raw e =
    let there = own_words d k raw (sampled d k raw e) in
    (rw (e, there.setpoint, there.pv, there.output, there.status), rw e)

-- and the answer is that of the sample
pub answer_shown_lem : (d : Desk) (k raw : ℕ) → answer_shown (sampled_at d k raw) ≡ sample_answer d k raw
unfolding sampled_at
answer_shown_lem d k raw = by (sample_answer d k raw) (line_at (sample_left d k raw).words k)
  where
    by : (a : Answer) (l : Line) → answer_shown (accepted_with a l) ≡ a
    by (Ok _) l = refl
    by (Err why) l = refl

pub line_shown : (d : Desk) (k raw : ℕ) {l : Line} → sampled_at d k raw ≡ Ok l → l ≡ line_at (sample_left d k raw).words k
unfolding sampled_at
line_shown d k raw e = (granted_with (line_at (sample_left d k raw).words k) (sample_answer d k raw) e).1

-- the major loop is none above 16
pub major_few : (d : Desk) (k : ℕ) → (reading_at d k).major.number ≤ 16
unfolding reading_of
major_few d k = read_low d.words _ k _

-- ---- reset

-- the numbers at reset are 0 everywhere
pub reset_numbers : reset_desk ≡ lent (replicate 1024 0) (replicate number_count (pos 0))
unfolding reset_desk
reset_numbers = refl

-- and that many
pub reset_fits : fitting_of reset_desk ≡ true
unfolding fitting_of
reset_fits = rw reset_numbers

-- a reset of memory that has its lengths leaves that
pub reset_sound : (d : Desk) → fitting_of d ≡ true → reset_left d ≡ reset_desk
unfolding reset_left reset_answer
reset_sound d fit = rw fit

-- so does one of fresh memory, which is all zeros
pub reset_fresh : reset_left (lent (replicate 1024 0) (replicate number_count (pos 0))) ≡ reset_desk
unfolding fitting_of
reset_fresh = reset_sound _ refl

-- and so what clearing both leaves is what a reset leaves
pub reset_done : (d : Desk) → fitting_of d ≡ true → {ws : List ℕ} {ns : List ℤ} → ws ≡ replicate (length d.words) 0
    → ns ≡ replicate (length d.numbers) (pos 0) → (accepted ≡ reset_answer d) × (lent ws ns ≡ reset_left d)
unfolding reset_answer reset_left
reset_done d fit e f =
    let s = sound d fit in
    let answer : first_of (memory_cases d) ≡ accepted = rw fit in
    (sym answer, rw (answer, e, f, s.words, s.numbers) (sym reset_numbers))
