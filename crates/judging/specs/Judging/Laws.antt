-- What an accepted sample's reading is known to be, each group by its name.
use Rattle.std.specs.Prelude.{ℕ, ◌≤◌, ◌<◌, ◌≡◌, Bool, true, false, cond, ◌||◌, ltb, eqb}
use Rattle.std.proofs.Common.{arith, ltb-false, le-ltb, ne_eqb}
use Rattle.std.proofs.lemmas.Bool.{eqb-false}
use Rattle.refusals.specs.Refusals.{first_of, accepted}
use Rattle.refusals.specs.Refusals.Laws.{accepted_at}
use Rattle.reading.specs.declared.settings.Tuning.{Tuning}
use Rattle.reading.specs.declared.settings.OutputLimits.{OutputLimits}
use Rattle.reading.specs.declared.transfer.Major.{Major}
use Rattle.reading.specs.declared.reading.Reading.{Reading}
use Rattle.table.specs.Words.Laws.{or_false}
use Rattle.judging.specs.Judging.{bad_modes, bad_times, bad_limits, bad_setpoint, bad_major, reading_cases, Passed}

pub passed : (r : Reading) (raw : ℕ) → first_of (reading_cases r raw) ≡ accepted → Passed r raw
passed r raw e =
    let no = accepted_at (reading_cases r raw) e in
    let s = r.settings in
    let setting = or_false (bad_modes s.mode1 s.mode2.unused s.alarms.hysteresis) r.program.highend (no 1) in
    record { digit = no 0; modes = setting.0; ends = setting.1; times = no 2; limits = no 3; setpoint = no 4; above = no 5; major = no 6 }

-- ---- and what a group that has passed says

pub times_good : (t : Tuning) → bad_times t ≡ false → (5 ≤ t.period) × (0 < t.reset)
times_good t e =
    let p = or_false (ltb t.period 5) (eqb t.reset 0) e in
    let some = eqb-false t.reset 0 p.1 in
    (ltb-false _ _ p.0, omega arith)

pub limits_good : (l : OutputLimits) (scale : ℕ) → bad_limits l scale ≡ false → (l.low ≤ l.high) × (l.high ≤ scale)
limits_good l scale e =
    let p = or_false (ltb l.high l.low) (ltb scale l.high) e in
    (ltb-false _ _ p.0, ltb-false _ _ p.1)

-- the setpoint that is taken
pub setpoint_good : (cascade : Bool) (scale setpoint pointer remote : ℕ) → bad_setpoint cascade scale setpoint pointer remote ≡ false
    → cond cascade remote setpoint ≤ scale
setpoint_good true scale setpoint pointer remote e = ltb-false _ _ (or_false (ltb 1023 pointer) (ltb scale remote) e).1
setpoint_good false scale setpoint pointer remote e = ltb-false _ _ (or_false (ltb scale setpoint) false e).0

-- a transfer has a major loop, and p is inside its limits
pub record MajorGood (m : Major) (p : ℕ) : Type 0 where
  pub number : m.number ≡ 0 → ⊥
  pub low : m.limits.low ≤ p
  pub high : p ≤ m.limits.high

pub major_good : (m : Major) (p : ℕ) → bad_major true m p ≡ false → MajorGood m p
major_good m p e =
    let h = or_false (eqb m.number 0 || ltb p m.limits.low) (ltb m.limits.high p) e in
    let l = or_false (eqb m.number 0) (ltb p m.limits.low) h.0 in
    record { number = eqb-false _ _ l.0; low = ltb-false _ _ l.1; high = ltb-false _ _ h.1 }

-- and one that has is not refused
pub good_major : (m : Major) (p : ℕ) → MajorGood m p → bad_major true m p ≡ false
good_major m p h = rw (ne_eqb m.number 0 h.number, le-ltb p m.limits.low h.low, le-ltb m.limits.high p h.high)
