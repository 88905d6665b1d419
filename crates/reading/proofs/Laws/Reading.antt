-- The laws of a reading: what it depends on, and what its words are.
use Rattle.std.specs.Prelude.{ℕ, ◌+◌, ◌≤◌, ◌<◌, ◌≡◌, refl, Bool, true, false, cond, not, ◌&&◌, List, [], ◌∷◌}
use Rattle.std.proofs.Common.{arith, sym, ◌∙◌, lit<}
use Rattle.std.proofs.Math.Path.{ap}
use Rattle.std.proofs.Math.ListN.{get_or}
use Rattle.table.specs.declared.mode.Mode.{Mode}
use Rattle.table.specs.declared.mode.Mode.TheVariants.{Manual, Automatic, Cascade}
use Rattle.reading.specs.declared.settings.Mode1.{Mode1}
use Rattle.reading.specs.declared.settings.Settings.{Settings}
use Rattle.reading.specs.declared.reading.Former.{Former}
use Rattle.reading.specs.declared.reading.Reading.{Reading}
use Rattle.table.specs.Words.{bit, bcd, bad_digit, input_format, output_format, base_of, block_at, any}
use Rattle.table.specs.Words.Laws.{block_at_lem, Scaled, input_scaled, output_scaled}
use Rattle.table.specs.Modes.{is_automatic, is_cascade}
use Rattle.reading.specs.Settings.{mode1_of, mode2_of, unused_bits, bad_digits, tuning_of, settings_of}
use Rattle.reading.specs.Settings.Laws.{Decimals, tuning_high}
use Rattle.reading.proofs.Laws.Transfers.{only_cascade, major_local}
use Rattle.reading.specs.Programs.{fault_of}
use Rattle.reading.specs.Premises.{Fair}
use Rattle.reading.proofs.Laws.Programs.{good_address, program_on, program_own, program_fair}
use Rattle.reading.specs.Transfers.{transfers, major_of}
use Rattle.reading.specs.Reading.{mode_after, remote_of, table_of, reading_of}

-- ---- what a reading depends on

chosen : (b : Bool) {x y : ℕ} → (b ≡ true → x ≡ y) → cond b x 0 ≡ cond b y 0
chosen true h = h refl
chosen false h = refl

-- the same reading under another loop's number
abbrev pub numbered : ℕ → Reading → Reading
numbered k r = record {
  number = k;
  settings = r.settings;
  mode = r.mode;
  remote = r.remote;
  transfer = r.transfer;
  major = r.major;
  program = r.program;
}

-- the settings are a matter of the loop's words but for word 28
settings_besides : (w w' : List ℕ) → ((i : ℕ) → i < 32 → (i ≡ 28 → ⊥) → get_or w i 0 ≡ get_or w' i 0) → settings_of w ≡ settings_of w'
unfolding settings_of bad_digits tuning_of
settings_besides w w' same =
    let at : (i : ℕ) → i < 28 → get_or w i 0 ≡ get_or w' i 0 = λ i h. same i (omega arith) (λ e. omega arith) in
    rw (
      at 0 (lit< tt),
      at 1 (lit< tt),
      at 2 (lit< tt),
      at 4 (lit< tt),
      at 5 (lit< tt),
      at 6 (lit< tt),
      at 7 (lit< tt),
      at 8 (lit< tt),
      at 9 (lit< tt),
      at 10 (lit< tt),
      at 11 (lit< tt),
      at 12 (lit< tt),
      at 13 (lit< tt),
      at 14 (lit< tt),
      at 15 (lit< tt),
      at 16 (lit< tt),
      at 17 (lit< tt),
      at 18 (lit< tt),
      at 19 (lit< tt),
      at 24 (lit< tt),
      at 25 (lit< tt),
      at 26 (lit< tt),
      at 27 (lit< tt),
      same 29 (lit< tt) (λ e. omega arith),
    )

-- the loop's words but for word 28, in Cascade the word pointed to, at a transfer the major loop and its limits, what is wrong with the address of its
-- ramp/soak table where bit 11 is on, and the table at the loop's own address where there is a program: two loops of any two memories that agree on these are
-- read alike
pub reading_own : (ws ws' : List ℕ) (k k' : ℕ) (former : Former) → let r = reading_of ws k former in
    ((i : ℕ) → i < 32 → (i ≡ 28 → ⊥) → get_or ws (base_of k + i) 0 ≡ get_or ws' (base_of k' + i) 0)
    → (is_cascade r.mode ≡ true → get_or ws r.settings.pointer 0 ≡ get_or ws' r.settings.pointer 0)
    → (r.transfer ≡ true → major_of k r.settings.pointer ≡ major_of k' r.settings.pointer)
    → (r.transfer ≡ true → let j = major_of k r.settings.pointer in
    (j ≡ 0 → ⊥) → (get_or ws (base_of j + 24) 0 ≡ get_or ws' (base_of j + 24) 0) × (get_or ws (base_of j + 25) 0 ≡ get_or ws' (base_of j + 25) 0))
    → (r.settings.mode1.profile ≡ true → fault_of (table_of ws k) ≡ fault_of (table_of ws' k'))
    → (r.program.on ≡ true → block_at ws (table_of ws k) ≡ block_at ws' (table_of ws' k'))
    → r ≡ numbered k (reading_of ws' k' former)
unfolding reading_of remote_of
reading_own ws ws' k k' former words pointed major limits fault table =
    let settings : settings_of (block_at ws (base_of k)) ≡ settings_of (block_at ws' (base_of k'))
    = settings_besides _ _ (λ i few other. block_at_lem ws (base_of k) i few ∙ words i few other ∙ sym (block_at_lem ws' (base_of k') i few)) in
    rw (← settings) (rw (chosen _ pointed, major_local ws ws' _ k k' _ major limits, program_own ws (table_of ws k) _ _ ws' (table_of ws' k') _ fault table) refl)

-- ---- a transfer is requested

-- with the Cascade bit on, Automatic before and none of the others
pub by_request : (bits : Mode1) (former : Mode) → bits.cascade ≡ true
    → transfers former (mode_after bits former) bits.bumpless ≡ (is_automatic former && not bits.manual && not bits.automatic && not bits.bumpless)
unfolding transfers mode_after
by_request bits former e = rw e (go bits.manual bits.automatic (is_automatic former))
  where
    go : (m a x : Bool) → (x && is_cascade (cond m Manual (cond a Automatic Cascade)) && not bits.bumpless) ≡ (x && not m && not a && not bits.bumpless)
    go true a true = refl
    go true a false = refl
    go false true true = refl
    go false true false = refl
    go false false true = refl
    go false false false = refl

-- and without it there is none
pub no_request : (bits : Mode1) (former : Mode) → bits.cascade ≡ false → transfers former (mode_after bits former) bits.bumpless ≡ false
unfolding transfers mode_after
no_request bits former e = rw e (go former bits.manual bits.automatic)
  where
    go : (f : Mode) (m a : Bool) → (is_automatic f && is_cascade (cond m Manual (cond a Automatic f)) && not bits.bumpless) ≡ false
    go Manual m a = refl
    go Cascade m a = refl
    go Automatic true a = refl
    go Automatic false true = refl
    go Automatic false false = refl

-- ---- what is known of every reading

-- W2: the settings s are read of the loop's words, `w i` being word i
pub record Reads (w : ℕ → ℕ) (s : Settings) : Type 0 where
  pub word : s.stored.word ≡ w 0
  pub setpoint : s.stored.setpoint ≡ w 2
  pub bias : s.stored.bias ≡ w 4
  pub output : s.stored.output ≡ w 5
  pub status : s.stored.status ≡ w 6
  pub flags : s.stored.flags ≡ w 27
  pub fault : s.stored.fault ≡ w 29
  pub mode1 : s.mode1 ≡ mode1_of (w 0)
  pub input : s.mode2.input ≡ input_format (w 1)
  pub own : s.mode2.output ≡ output_format (w 1) (input_format (w 1))
  pub separate : s.mode2.separate ≡ bit 10 (w 1)
  pub minutes : s.mode2.minutes ≡ bit 4 (w 1)
  pub unused : s.mode2.unused ≡ unused_bits (w 1)
  pub baddigit : s.baddigit ≡ any (bad_digit (w 7) ∷ bad_digit (w 8) ∷ bad_digit (w 9) ∷ bad_digit (w 10) ∷ [])
  pub period : s.tuning.period ≡ bcd (w 7)
  pub gain : s.tuning.gain ≡ bcd (w 8)
  pub reset : s.tuning.reset ≡ bcd (w 9)
  pub rate : s.tuning.rate ≡ bcd (w 10)
  pub alarms : s.alarms
      ≡ record { lowlow = w 11; low = w 12; high = w 13; highhigh = w 14; yellow = w 15; red = w 16; change = w 17; hysteresis = w 18 }
  pub low : s.limits.low ≡ w 24
  pub high : s.limits.high ≡ w 25
  pub deadband : s.deadband ≡ w 19
  pub pointer : s.pointer ≡ w 26

module _ (ws : List ℕ) (k : ℕ) (former : Former) where
  -- each setting is read of its word
  pub reads : Reads (λ i. get_or ws (base_of k + i) 0) (reading_of ws k former).settings
  unfolding reading_of settings_of mode2_of bad_digits tuning_of
  reads =
      let at : (i : ℕ) → i < 32 → get_or (block_at ws (base_of k)) i 0 ≡ get_or ws (base_of k + i) 0 = block_at_lem ws (base_of k) in
      record {
        word = at 0 (lit< tt);
        setpoint = at 2 (lit< tt);
        bias = at 4 (lit< tt);
        output = at 5 (lit< tt);
        status = at 6 (lit< tt);
        flags = at 27 (lit< tt);
        fault = at 29 (lit< tt);
        mode1 = ap mode1_of (at 0 (lit< tt));
        input = ap input_format (at 1 (lit< tt));
        own = ap (λ (w : ℕ). output_format w (input_format w)) (at 1 (lit< tt));
        separate = ap (bit 10) (at 1 (lit< tt));
        minutes = ap (bit 4) (at 1 (lit< tt));
        unused = ap unused_bits (at 1 (lit< tt));
        baddigit = rw (at 7 (lit< tt), at 8 (lit< tt), at 9 (lit< tt), at 10 (lit< tt));
        period = ap bcd (at 7 (lit< tt));
        gain = ap bcd (at 8 (lit< tt));
        reset = ap bcd (at 9 (lit< tt));
        rate = ap bcd (at 10 (lit< tt));
        alarms = rw (at 11 (lit< tt), at 12 (lit< tt), at 13 (lit< tt), at 14 (lit< tt), at 15 (lit< tt), at 16 (lit< tt), at 17 (lit< tt), at 18 (lit< tt));
        low = at 24 (lit< tt);
        high = at 25 (lit< tt);
        deadband = at 19 (lit< tt);
        pointer = at 26 (lit< tt);
      }

  -- a full scale is a word, and not 0
  pub input_scale : Scaled (reading_of ws k former).settings.mode2.input
  unfolding reading_of settings_of mode2_of
  input_scale = input_scaled (get_or (block_at ws (base_of k)) 1 0)

  pub output_scale : Scaled (reading_of ws k former).settings.mode2.output
  unfolding reading_of settings_of mode2_of
  output_scale = output_scaled (get_or (block_at ws (base_of k)) 1 0)

  -- with bit 10 off both formats are the same
  pub one_format : (reading_of ws k former).settings.mode2.separate ≡ false
      → (reading_of ws k former).settings.mode2.output ≡ (reading_of ws k former).settings.mode2.input
  unfolding reading_of settings_of mode2_of
  one_format e = rw e

  -- words of good digits are at most 9,999
  pub decimals : (reading_of ws k former).settings.baddigit ≡ false → Decimals (reading_of ws k former).settings.tuning
  unfolding reading_of settings_of
  decimals e = tuning_high (block_at ws (base_of k)) e

  -- where there is a program, its table stands inside the words
  pub table_inside : (reading_of ws k former).program.on ≡ true → table_of ws k ≤ 992
  unfolding reading_of
  table_inside e =
      (good_address (table_of ws k) (program_on ws (table_of ws k) _ _ _ e).1).1

  -- a table that has passed its tests has a fair pair
  pub fair : former.segment ≤ 16 → (reading_of ws k former).program.baddigit ≡ false → (reading_of ws k former).program.highend ≡ false
      → Fair (reading_of ws k former).program (reading_of ws k former).settings.mode2.input.scale
  unfolding reading_of
  fair h d e = program_fair ws _ _ _ _ h d e

  -- outside Cascade there is no transfer
  pub no_transfer : is_cascade (reading_of ws k former).mode ≡ false → (reading_of ws k former).transfer ≡ false
  unfolding reading_of
  no_transfer e = only_cascade former.mode _ _ e
