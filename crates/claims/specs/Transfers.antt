-- What is promised of the transfer from Automatic to Cascade with Bumpless I (A13) beside the demands: when a sample is one, which loop is the major one,
-- that its output word is left inside its limits (E2), that no error is left in the minor loop, and what a mark does, and what it does not.
use Rattle.std.specs.Prelude.{ℕ, ◌+◌, ◌≤◌, ◌≡◌, true, false, pos, get_or}
use Rattle.numbers.specs.Limits.{clampℕ}
use Rattle.refusals.specs.Refusals.{number_of}
use Rattle.table.specs.declared.mode.Mode.TheVariants.{Automatic, Cascade}
use Rattle.reading.specs.declared.reading.Reading.{Reading}
use Rattle.table.specs.Words.{base_of}
use Rattle.table.specs.Modes.{is_manual, is_cascade}
use Rattle.reading.specs.Transfers.{major_of}
use Rattle.carried.specs.declared.record.State.{State}
use Rattle.carried.specs.Layout.{carried_at, marked}
use Rattle.engine.specs.Sensing.{sensed_of}
use Rattle.desk.specs.Desk.{Desk, reading_at, step_at, sample_answer, sample_left, pv_at}
use Rattle.claims.specs.Calls.{transfer_at, major_at}
use Rattle.claims.specs.Words.{word_of, word_left}

-- A13: the carried mode, the sample's mode, and bit 3 of mode 1
pub record Bumpless (d : Desk) (k : ℕ) : Type 0 where
  pub before : (carried_at d.numbers k).state.mode ≡ Automatic
  pub after : (reading_at d k).mode ≡ Cascade
  pub one : (reading_at d k).settings.mode1.bumpless ≡ false

pub record Transferred : Type 0 where
  -- a transfer is a change from Automatic to Cascade with Bumpless I, and nothing else is
  pub is : (d : Desk) (k : ℕ) → Bumpless d k → transfer_at d k ≡ true
  pub only : (d : Desk) (k : ℕ) → transfer_at d k ≡ true → Bumpless d k
  -- N11: its major loop is the other loop of the sixteen whose output word has the address in word 26; without one it is 0
  pub found : (k j : ℕ) → 1 ≤ j → j ≤ 16 → (j ≡ k → ⊥) → major_of k (base_of j + 5) ≡ j
  pub none : (k pointer : ℕ) → ((j : ℕ) → 1 ≤ j → j ≤ 16 → (j ≡ k → ⊥) → pointer ≡ base_of j + 5 → ⊥) → major_of k pointer ≡ 0
  -- E2: an accepted one leaves the major loop's output word inside the output limits that are stored for that loop
  pub inside : (d : Desk) (k raw : ℕ) → number_of (sample_answer d k raw) ≡ 0 → transfer_at d k ≡ true → let j = major_at d k in
      let word = get_or (sample_left d k raw).words (base_of j + 5) 0 in
      (word_of d j 24 ≤ word) × (word ≤ word_of d j 25)
  -- A13: the minor loop's setpoint and PV are both p, and its error is 0; by itself it is no entry. A3: any other sample in Cascade has the word pointed to
  pub settles : (d : Desk) (k raw : ℕ) → transfer_at d k ≡ true
      → ((step_at d k raw).written.setpoint ≡ pv_at d k raw) × ((step_at d k raw).written.pv ≡ pv_at d k raw) × ((step_at d k raw).carried.past.error ≡ pos 0)
  pub no_entry : (d : Desk) (k raw : ℕ) → transfer_at d k ≡ true → let r = reading_at d k in
      let state = (carried_at d.numbers k).state in
      state.velocity ≡ r.settings.mode1.velocity → state.mark ≡ false → (sensed_of r state (pv_at d k raw)).entry ≡ false
  pub follows : (d : Desk) (k raw : ℕ) → is_cascade (reading_at d k).mode ≡ true → transfer_at d k ≡ false
      → (step_at d k raw).written.setpoint ≡ get_or d.words (word_of d k 26) 0
  -- A4: a sample outside Manual is an entry by the mark. A10: without an error it leaves word 5 as it was, brought inside the limits, in both forms: the
  -- loop goes on from there, whatever it carried
  pub entry : (r : Reading) (state : State) (p : ℕ) → state.mark ≡ true → is_manual r.mode ≡ false → (sensed_of r state p).entry ≡ true
  pub goes_on : (d : Desk) (k raw : ℕ) → number_of (sample_answer d k raw) ≡ 0 → (carried_at d.numbers k).state.mark ≡ true
      → is_manual (reading_at d k).mode ≡ false → (step_at d k raw).carried.past.error ≡ pos 0
      → word_left d k raw 5 ≡ clampℕ (word_of d k 5) (word_of d k 24) (word_of d k 25)
  -- A11: such a sample takes the mark off; one in Manual is no entry, and keeps it
  pub cleared : (d : Desk) (k raw : ℕ) → is_manual (reading_at d k).mode ≡ false → (step_at d k raw).carried.state.mark ≡ false
  pub manual : (d : Desk) (k raw : ℕ) → is_manual (reading_at d k).mode ≡ true → let state = (carried_at d.numbers k).state in
      ((sensed_of (reading_at d k) state (pv_at d k raw)).entry ≡ false) × ((step_at d k raw).carried.state.mark ≡ state.mark)
  -- A4: a mark forces no setpoint, and moves nothing but the entry and, in Manual, the mark that stays
  pub unforced : (r : Reading) (state : State) (p : ℕ) → let x = sensed_of r (marked state) p in
      let y = sensed_of r state p in
      (x.pv ≡ y.pv) × (x.setpoint ≡ y.setpoint) × (x.error ≡ y.error) × (x.flags ≡ y.flags) × (x.fault ≡ y.fault)
      × (marked x.state ≡ marked y.state)
