-- The laws of a profile's sample: its numbers stay in their ranges, the setpoint stays within the scale, and a soak that results stands in the pair
-- that was read.
use Rattle.std.specs.Prelude.{ℕ, ◌+◌, ◌-◌, ◌*◌, ◌%◌, ◌≤◌, ◌≡◌, refl, Bool, not, ◌||◌, ltb, leb, eqb}
use native.Mathlib.Omega.{arith}
use Rattle.std.proofs.Math.Bool.{true, false}
use Rattle.std.proofs.Common.{ltb→lt, eqb-true}
use Rattle.std.proofs.Math.Dec.{nleb→lt}
use Rattle.numbers.specs.Limits.Laws.{by_test}
use Rattle.reading.specs.declared.program.Program.{Program}
use Rattle.table.specs.Words.Laws.{and_true}
use Rattle.reading.specs.Programs.{pair_number}
use Rattle.profile.specs.declared.state.Profile.{Profile}
use Rattle.profile.specs.declared.state.Moved.{Moved}
use Rattle.profile.specs.declared.moves.Command.{Command}
use Rattle.profile.specs.declared.moves.Command.TheVariants.{Start, Hold, Resume, Jog, Nothing}
use Rattle.profile.specs.Moves.{command_of, ended_of, started_of, with_hold, handed_over, jogged_of, toward, parts_of, ramped_to, ramped_by, soaked_by, moved_by, worked_by, advanced_by}
use Rattle.profile.specs.Flags.{is_soak}
use Rattle.profile.specs.Premises.{Within}

-- a move ends no higher than where it begins or where it goes
pub toward_high : (at to step m : ℕ) → at ≤ m → to ≤ m → toward at to step ≤ m
unfolding toward
toward_high at to step m h k =
    by_test (λ n. n ≤ m) (ltb at to)
    (λ below. by_test (λ n. n ≤ m) (leb (to - at) step) (λ _. k) (λ more. omega (arith, ltb→lt at to below, nleb→lt (to - at) step more)))
    (λ above. by_test (λ n. n ≤ m) (leb (at - to) step) (λ _. k) (λ more. omega arith))

-- what holds of the results of each way that a sample can take holds of its result
by_way : (P : Moved → Type 0) (program : Program) (flags period : ℕ) (p : Profile) (setpoint : ℕ) → let still : Profile → Moved = λ q. record { profile = q; setpoint = setpoint } in
    P (still (ended_of p)) → P (still started_of) → ((hold : Bool) → P (still (with_hold hold p))) → P (still (jogged_of p)) → P (still p)
    → P (ramped_by program.pair period p setpoint) → P (still (soaked_by program.pair period p)) → P (advanced_by program flags period p setpoint)
unfolding advanced_by worked_by moved_by
by_way P program flags period p setpoint none begun held jog same ramp soak = by_test P program.on (λ _. go (command_of flags)) (λ _. none)
  where
    go : (command : Command) → P (worked_by command program.pair period p setpoint)
    go Start = begun
    go Hold = held true
    go Resume = held false
    go Jog = jog
    go Nothing = by_test P (p.hold || eqb p.segment 0) (λ _. same) (λ _. by_test P (eqb (p.segment % 2) 1) (λ _. ramp) (λ _. soak))

-- ---- the ranges

handed_within : {p : Profile} → Within p → Within (handed_over p)
unfolding handed_over
handed_within {p} w =
    by_test Within (ltb p.segment 16)
    (λ t. record { segment = omega (arith, ltb→lt p.segment 16 t); fraction = w.fraction; time = omega arith })
    (λ _. record { segment = omega arith; fraction = w.fraction; time = omega arith })

module _ {p : Profile} (w : Within p) (program : Program) (duration : program.pair.duration ≤ 9999) (flags period setpoint : ℕ) where
  hold_within : (hold : Bool) → Within (with_hold hold p)
  unfolding with_hold
  hold_within hold = by_test Within (eqb p.segment 0) (λ _. w) (λ _. record { segment = w.segment; fraction = w.fraction; time = w.time })

  jog_within : Within (jogged_of p)
  unfolding jogged_of
  jog_within = by_test Within (eqb p.segment 0) (λ _. w) (λ _. handed_within w)

  ramp_within : Within (ramped_by program.pair period p setpoint).profile
  unfolding ramped_by ramped_to
  ramp_within =
      let to = parts_of program.pair.end 0 in
      let at = toward (parts_of setpoint p.fraction) to (program.pair.slope * period) in
      let moved : Within (record { segment = p.segment; hold = p.hold; complete = p.complete; fraction = at % 10000; time = p.time }) = record { segment = w.segment; fraction = omega arith; time = w.time } in
      by_test (λ (m : Moved). Within m.profile) (eqb program.pair.slope 0) (λ _. record { segment = omega arith; fraction = w.fraction; time = omega arith })
      (λ _. by_test Within (eqb at to) (λ _. handed_within moved) (λ _. moved))

  soak_within : Within (soaked_by program.pair period p)
  unfolding soaked_by
  soak_within =
      by_test Within (leb (600 * program.pair.duration) (p.time + period)) (λ _. handed_within w)
      (λ t. record { segment = w.segment; fraction = w.fraction; time = omega (arith, nleb→lt (600 * program.pair.duration) (p.time + period) t) })

  pub advanced_within : Within (advanced_by program flags period p setpoint).profile
  advanced_within =
      by_way (λ (m : Moved). Within m.profile) program flags period p setpoint
      (record { segment = omega arith; fraction = w.fraction; time = w.time })
      (record { segment = omega arith; fraction = omega arith; time = omega arith }) hold_within jog_within w ramp_within soak_within

-- ---- the setpoint

module _ (program : Program) (p : Profile) (setpoint scale : ℕ) (fraction : p.fraction ≤ 9999) (s : setpoint ≤ scale) (end : program.pair.end ≤ scale) (flags period : ℕ) where
  ramp_scale : (ramped_by program.pair period p setpoint).setpoint ≤ scale
  unfolding ramped_by ramped_to
  ramp_scale =
      let at = toward_high (parts_of setpoint p.fraction) (parts_of program.pair.end 0) (program.pair.slope * period) (10000 * scale + 9999) (omega arith) (omega arith) in
      by_test (λ (m : Moved). m.setpoint ≤ scale) (eqb program.pair.slope 0) (λ _. s) (λ _. omega (arith, at))

  -- it stays within the scale
  pub advanced_scale : (advanced_by program flags period p setpoint).setpoint ≤ scale
  advanced_scale = by_way (λ (m : Moved). m.setpoint ≤ scale) program flags period p setpoint s s (λ _. s) s s ramp_scale s

-- ---- the pair

-- a soak q that p comes to stands in the pair of p
abbrev Stays : Profile → Profile → Type 0
Stays p q = is_soak q.segment ≡ true → pair_number q.segment ≡ pair_number p.segment

even : (n : ℕ) → is_soak n ≡ true → n % 2 ≡ 0
even n e = eqb-true (n % 2) 0 (and_true (not (eqb n 0)) (eqb (n % 2) 0) e).1

handed_stays : (p q : Profile) → q.segment ≡ p.segment → Stays p (handed_over q)
unfolding handed_over
handed_stays p q same =
    by_test (Stays p) (ltb q.segment 16) (λ _ e. let two = even (q.segment + 1) e in omega arith) (λ _ e. let z : false ≡ true = e in cc)

module _ (program : Program) (p : Profile) (flags period setpoint : ℕ) where
  ramp_stays : Stays p (ramped_by program.pair period p setpoint).profile
  unfolding ramped_by ramped_to
  ramp_stays =
      let to = parts_of program.pair.end 0 in
      let at = toward (parts_of setpoint p.fraction) to (program.pair.slope * period) in
      by_test (λ (m : Moved). Stays p m.profile) (eqb program.pair.slope 0) (λ _ e. let z : false ≡ true = e in cc)
      (λ _. by_test (Stays p) (eqb at to) (λ _. handed_stays p _ refl) (λ _ _. refl))

  -- so that the deviation of word 27 is the soak's own
  pub advanced_stays : Stays p (advanced_by program flags period p setpoint).profile
  unfolding with_hold jogged_of soaked_by
  advanced_stays =
      by_way (λ (m : Moved). Stays p m.profile) program flags period p setpoint (λ e. let z : false ≡ true = e in cc) (λ e. let z : false ≡ true = e in cc)
      (λ hold. by_test (Stays p) (eqb p.segment 0) (λ _ _. refl) (λ _ _. refl))
      (by_test (Stays p) (eqb p.segment 0) (λ _ _. refl) (λ _. handed_stays p p refl)) (λ _. refl) ramp_stays
      (by_test (Stays p) (leb (600 * program.pair.duration) (p.time + period)) (λ _. handed_stays p p refl) (λ _ _. refl))
