-- One sample's numbers computed of the definitions, worked out by hand: the error with its deadband (A5), the terms in units (A7), bias and output in
-- both forms (A8, A9), and counts of the output (M7).
use Prim.Native.Nat.{ℕ, ◌*◌}
use mathlib.Core.Path.{◌≡◌, refl}
use mathlib.Core.Bool.{Bool, true, false}
use mathlib.Core.List.{List, [], ◌∷◌}
use lib.IntN.{ℤ, pos, neg_ℤ}
use Rattle.computed.specs.Cases.{Case, ◌∶◌gives◌, ◌∶◌givesℤ◌, failing}
use Rattle.numbers.specs.Distances.{apart}
use Rattle.numbers.specs.Rounding.{half_up, half_away}
use Rattle.numbers.specs.Fractions.{over, negᶠ, round_to}
use Rattle.numbers.specs.Limits.{clamp_by}
use Rattle.numbers.specs.Scales.{converted}
use Rattle.reading.specs.declared.settings.Tuning.{Tuning}
use Rattle.reading.specs.Settings.{mode2_of}
use Rattle.control.specs.declared.terms.Terms.{Terms}
use Rattle.control.specs.declared.forms.Drive.{Drive}
use Rattle.control.specs.Errors.{in_deadband, squared_over, error_of}
use Rattle.control.specs.Terms.{exact_p, exact_i, exact_d, exact_terms, terms_of}
use Rattle.control.specs.Forms.{outside_of, position_of, velocity_of}
use Rattle.control.specs.Counts.{output_counts}

minus : ℕ → ℤ
minus n = neg_ℤ (pos n)

-- whole counts in units
counts : ℕ → ℤ
counts n = pos (n * 262144)

minus_counts : ℕ → ℤ
minus_counts n = minus (n * 262144)

-- ---- what is computed

-- A5, in 12 bits, squared or not: with the deadband of 4,095 off; and with one that is on
error : Bool → ℕ → ℕ → List ℤ
error squared s p = error_of (in_deadband false 4095 s p) squared 4095 s p ∷ []

error_beyond : ℕ → Bool → ℕ → ℕ → List ℤ
error_beyond deadband squared s p = error_of (in_deadband true deadband s p) squared 4095 s p ∷ []

-- A5: error squared, over the full scale G
squared : ℕ → ℤ → List ℤ
squared G e = squared_over e G ∷ []

-- words 7 to 10 in hundredths: period, gain, reset time, rate time
tuned : ℕ → ℕ → ℕ → ℕ → Tuning
tuned period gain reset rate = record { period = period; gain = gain; reset = reset; rate = rate }

shown : Terms → List ℤ
shown t = t.p ∷ t.i ∷ t.d ∷ []

-- A7: P, I and D in units, of what each acts on; the reset time in seconds or minutes; then reverse acting
terms : Tuning → ℤ → ℤ → ℤ → List ℤ
terms t p i d = shown (terms_of t false false (record { p = p; i = i; d = d }))

in_minutes : Tuning → ℤ → ℤ → ℤ → List ℤ
in_minutes t p i d = shown (terms_of t true false (record { p = p; i = i; d = d }))

reverse : Tuning → Bool → ℤ → ℤ → ℤ → List ℤ
reverse t minutes p i d = shown (terms_of t minutes true (record { p = p; i = i; d = d }))

-- the same of an error of 500 and a change of the PV of 10
acting : Tuning → List ℤ
acting t = terms t (pos 500) (pos 500) (pos 10)

acting_in_minutes : Tuning → List ℤ
acting_in_minutes t = in_minutes t (pos 500) (pos 500) (pos 10)

reversed : Tuning → Bool → List ℤ
reversed t minutes = reverse t minutes (pos 500) (pos 500) (pos 10)

-- period 1.00 s, gain 2.00, reset time 10.00, rate time 1.00 s
usual : Tuning
usual = tuned 100 200 1000 100

-- A7: halves of a unit, rounded as a term is
halves : ℤ → List ℤ
halves n = round_to 262144 (over n 524288) ∷ []

-- A8, A9: bias and output. The limits are 100 and 1,000 units
outcome : Drive → List ℤ
outcome drive = drive.bias ∷ drive.output ∷ []

position : Bool → ℤ → ℤ → ℤ → ℤ → List ℤ
position freeze bias p i d = outcome (position_of freeze (record { bias = bias; output = pos 7 }) (record { p = p; i = i; d = d }) (pos 100) (pos 1000))

velocity : ℤ → ℤ → ℤ → ℤ → ℤ → List ℤ
velocity bias out p i d = outcome (velocity_of (record { bias = bias; output = out }) (record { p = p; i = i; d = d }) (pos 100) (pos 1000))

-- M7: a count of the input, by mode 2
conversion : ℕ → ℕ → List ℕ
conversion word v = output_counts (mode2_of word) v ∷ []

-- ---- the cases

pub cases : List Case
cases =
    ("A5 setpoint above the PV" ∶ error false 1500 1000 givesℤ pos 500 ∷ [])
    ∷ ("A5 setpoint below the PV" ∶ error false 1000 1500 givesℤ minus 500 ∷ [])
    ∷ ("A5 setpoint at the PV" ∶ error false 1000 1000 givesℤ pos 0 ∷ [])
    -- 250,000 / 4,095 is 61.05, 8,100 / 4,095 is 1.98; 63 × 63 is below 4,095, 64 × 64 is 4,096; 250,000 / 65,535 is 3.81, / 32,767 is 7.63
    ∷ ("A5 squared" ∶ error true 1500 1000 givesℤ pos 61 ∷ [])
    ∷ ("A5 squared, below 0" ∶ error true 1000 1500 givesℤ minus 61 ∷ [])
    ∷ ("A5 squared, the fraction above a half left out" ∶ squared 4095 (pos 90) givesℤ pos 1 ∷ [])
    ∷ ("A5 squared, toward zero from below" ∶ squared 4095 (minus 90) givesℤ minus 1 ∷ [])
    ∷ ("A5 squared, below one count" ∶ squared 4095 (minus 63) givesℤ pos 0 ∷ [])
    ∷ ("A5 squared, the least that counts" ∶ squared 4095 (minus 64) givesℤ minus 1 ∷ [])
    ∷ ("A5 squared at full scale" ∶ error true 4095 0 givesℤ pos 4095 ∷ [])
    ∷ ("A5 squared at full scale, below 0" ∶ error true 0 4095 givesℤ minus 4095 ∷ [])
    ∷ ("A5 squared in 15 bits" ∶ squared 32767 (minus 500) givesℤ minus 7 ∷ [])
    ∷ ("A5 squared in 16 bits" ∶ squared 65535 (pos 500) givesℤ pos 3 ∷ [])
    ∷ ("A5 deadband above the difference" ∶ error_beyond 501 false 1500 1000 givesℤ pos 0 ∷ [])
    ∷ ("A5 deadband above the difference, below 0" ∶ error_beyond 501 false 1000 1500 givesℤ pos 0 ∷ [])
    ∷ ("A5 deadband at the difference" ∶ error_beyond 500 false 1500 1000 givesℤ pos 500 ∷ [])
    ∷ ("A5 deadband at the difference, below 0" ∶ error_beyond 500 false 1000 1500 givesℤ minus 500 ∷ [])
    ∷ ("A5 deadband below the difference" ∶ error_beyond 499 false 1500 1000 givesℤ pos 500 ∷ [])
    ∷ ("A5 deadband with squaring, above the difference" ∶ error_beyond 501 true 1500 1000 givesℤ pos 0 ∷ [])
    ∷ ("A5 deadband with squaring, at the difference" ∶ error_beyond 500 true 1000 1500 givesℤ minus 61 ∷ [])
    ∷ ("A5 deadband with squaring, the square is not tested" ∶ error_beyond 62 true 1500 1000 givesℤ pos 61 ∷ [])
    -- counts: P = 2.00 × 500 = 1,000; I = 2.00 × 1.00 / 10.00 × 500 = 100; D = 2.00 × 1.00 / 1.00 × 10 = 20; each times 262,144 in units
    ∷ ("A7 P, I and D" ∶ acting usual givesℤ pos 262144000 ∷ pos 26214400 ∷ pos 5242880 ∷ [])
    ∷ ("A7 below 0" ∶ terms usual (minus 500) (minus 500) (minus 10) givesℤ minus_counts 1000 ∷ minus_counts 100 ∷ minus_counts 20 ∷ [])
    ∷ ("A7 each of its own: P of 100, I of 300, D of 20" ∶ terms usual (pos 100) (pos 300) (pos 20) givesℤ counts 200 ∷ counts 60 ∷ counts 40 ∷ [])
    ∷ ("A7 of nothing" ∶ terms usual (pos 0) (pos 0) (pos 0) givesℤ pos 0 ∷ pos 0 ∷ pos 0 ∷ [])
    -- half the period: I 50, D 40; 0.05 s: I 5, D 400
    ∷ ("A7 period 0.50 s" ∶ acting (tuned 50 200 1000 100) givesℤ counts 1000 ∷ counts 50 ∷ counts 40 ∷ [])
    ∷ ("A7 period 0.05 s" ∶ acting (tuned 5 200 1000 100) givesℤ counts 1000 ∷ counts 5 ∷ counts 400 ∷ [])
    -- I and D as with a gain of 1.00: 50 and 10; in minutes I is 5/6, 218,453.33 units
    ∷ ("A7 gain 0: no P, I and D as with 1.00" ∶ acting (tuned 100 0 1000 100) givesℤ pos 0 ∷ counts 50 ∷ counts 10 ∷ [])
    ∷ ("A7 gain 1.00" ∶ acting (tuned 100 100 1000 100) givesℤ counts 500 ∷ counts 50 ∷ counts 10 ∷ [])
    ∷ ("A7 gain 0 in minutes" ∶ acting_in_minutes (tuned 100 0 1000 100) givesℤ pos 0 ∷ pos 218453 ∷ counts 10 ∷ [])
    -- at 99.98 I is 10,000,000 / 999,800 = 10.002 counts, 2,621,964.39 units; at 0.01 it is 100,000 counts
    ∷ ("A7 reset 99.99: no I" ∶ acting (tuned 100 200 9999 100) givesℤ counts 1000 ∷ pos 0 ∷ counts 20 ∷ [])
    ∷ ("A7 reset 99.99 in minutes: no I" ∶ acting_in_minutes (tuned 100 200 9999 100) givesℤ counts 1000 ∷ pos 0 ∷ counts 20 ∷ [])
    ∷ ("A7 reset 99.98" ∶ acting (tuned 100 200 9998 100) givesℤ counts 1000 ∷ pos 2621964 ∷ counts 20 ∷ [])
    ∷ ("A7 reset 0.01" ∶ acting (tuned 100 200 1 100) givesℤ counts 1000 ∷ counts 100000 ∷ counts 20 ∷ [])
    -- I is 100 / 60 of a count, 436,906.67 units; of 250 it is 218,453.33
    ∷ ("A7 reset in minutes, rounded up" ∶ acting_in_minutes usual givesℤ counts 1000 ∷ pos 436907 ∷ counts 20 ∷ [])
    ∷ ("A7 reset in minutes, rounded away from 0" ∶ in_minutes usual (minus 500) (minus 500) (pos 10) givesℤ minus_counts 1000 ∷ minus 436907 ∷ counts 20 ∷ [])
    ∷ ("A7 reset in minutes, rounded down" ∶ in_minutes usual (pos 250) (pos 250) (pos 10) givesℤ counts 500 ∷ pos 218453 ∷ counts 20 ∷ [])
    ∷ ("A7 reset in minutes, rounded toward 0" ∶ in_minutes usual (minus 250) (minus 250) (pos 10) givesℤ minus_counts 500 ∷ minus 218453 ∷ counts 20 ∷ [])
    -- gain 0.01 and period 1.00 s: of 1 P is 2,621.44 units, I 262.14, D 2,621.44; of 2 they are 5,242.88, 524.29 and 5,242.88
    ∷ ("A7 gain 0.01" ∶ terms (tuned 100 1 1000 100) (pos 1) (pos 1) (pos 1) givesℤ pos 2621 ∷ pos 262 ∷ pos 2621 ∷ [])
    ∷ ("A7 gain 0.01, rounded up" ∶ terms (tuned 100 1 1000 100) (pos 2) (pos 2) (pos 2) givesℤ pos 5243 ∷ pos 524 ∷ pos 5243 ∷ [])
    ∷ ("A7 gain 0.01, rounded away from 0" ∶ terms (tuned 100 1 1000 100) (minus 2) (minus 2) (minus 2) givesℤ minus 5243 ∷ minus 524 ∷ minus 5243 ∷ [])
    ∷ ("A7 rate 0: no D" ∶ acting (tuned 100 200 1000 0) givesℤ counts 1000 ∷ counts 100 ∷ pos 0 ∷ [])
    ∷ ("A7 rate 0.01 s" ∶ terms (tuned 100 100 1000 1) (pos 500) (pos 500) (pos 100) givesℤ counts 500 ∷ counts 50 ∷ counts 1 ∷ [])
    ∷ ("A7 rate 2.00 s" ∶ terms (tuned 100 100 1000 200) (pos 500) (pos 500) (minus 10) givesℤ counts 500 ∷ counts 50 ∷ minus_counts 20 ∷ [])
    -- period 3.00 s, gain 1.00: of 10 D is 10 / 3, 873,813.33 units; of −20 it is −1,747,626.67
    ∷ ("A7 D rounded down" ∶ acting (tuned 300 100 1000 100) givesℤ counts 500 ∷ counts 150 ∷ pos 873813 ∷ [])
    ∷ ("A7 D rounded away from 0" ∶ terms (tuned 300 100 1000 100) (pos 500) (pos 500) (minus 20) givesℤ counts 500 ∷ counts 150 ∷ minus 1747627 ∷ [])
    ∷ ("A7 reverse: all three change sign" ∶ reversed usual false givesℤ minus_counts 1000 ∷ minus_counts 100 ∷ minus_counts 20 ∷ [])
    ∷ ("A7 reverse of terms below 0" ∶ reverse usual false (minus 500) (minus 500) (minus 10) givesℤ counts 1000 ∷ counts 100 ∷ counts 20 ∷ [])
    ∷ ("A7 reverse in minutes, rounded away from 0" ∶ reversed usual true givesℤ minus_counts 1000 ∷ minus 436907 ∷ minus_counts 20 ∷ [])
    ∷ ("A7 reverse with gain 0" ∶ reversed (tuned 100 0 1000 100) false givesℤ pos 0 ∷ minus_counts 50 ∷ minus_counts 10 ∷ [])
    -- the largest settings: P is 9,999 × 131,070 / 100 counts, 3,435,577,815,859.2 units; I 9,999 × 5 × 65,535 / 100; D 9,999 × 9,999 × 131,070 / 500
    ∷ ("A7 the widest terms" ∶ terms (tuned 5 9999 1 9999) (minus 131070) (pos 65535) (pos 131070) givesℤ minus 3435577815859 ∷ pos 8588944539648 ∷ pos 6870468516155228 ∷ [])
    -- halves go away from zero; none occurs with A7's divisors
    ∷ ("A7 half a unit" ∶ halves (pos 1) givesℤ pos 1 ∷ [])
    ∷ ("A7 one unit and a half" ∶ halves (pos 3) givesℤ pos 2 ∷ [])
    ∷ ("A7 half a unit below 0" ∶ halves (minus 1) givesℤ minus 1 ∷ [])
    ∷ ("A7 one unit and a half below 0" ∶ halves (minus 3) givesℤ minus 2 ∷ [])
    -- position form, limits 100 and 1,000: m is P − D + bias + I
    ∷ ("A8 inside: 100 − 30 + 520" ∶ position false (pos 500) (pos 100) (pos 20) (pos 30) givesℤ pos 520 ∷ pos 590 ∷ [])
    ∷ ("A8 inside with D below 0: 100 + 30 + 520" ∶ position false (pos 500) (pos 100) (pos 20) (minus 30) givesℤ pos 520 ∷ pos 650 ∷ [])
    ∷ ("A8 inside with I below 0: 100 − 30 + 480" ∶ position false (pos 500) (pos 100) (minus 20) (pos 30) givesℤ pos 480 ∷ pos 550 ∷ [])
    ∷ ("A8 inside with freeze" ∶ position true (pos 500) (pos 100) (pos 20) (pos 30) givesℤ pos 520 ∷ pos 590 ∷ [])
    ∷ ("A8 a bias below 0: 400 − 180" ∶ position false (minus 200) (pos 400) (pos 20) (pos 0) givesℤ minus 180 ∷ pos 220 ∷ [])
    ∷ ("A8 no terms" ∶ position false (pos 500) (pos 0) (pos 0) (pos 0) givesℤ pos 500 ∷ pos 500 ∷ [])
    ∷ ("A8 on the high limit: 480 + 520" ∶ position false (pos 500) (pos 500) (pos 20) (pos 20) givesℤ pos 520 ∷ pos 1000 ∷ [])
    ∷ ("A8 on the high limit with freeze" ∶ position true (pos 500) (pos 500) (pos 20) (pos 20) givesℤ pos 520 ∷ pos 1000 ∷ [])
    ∷ ("A8 a unit above the high limit: bias 1,000 − 481" ∶ position false (pos 500) (pos 501) (pos 20) (pos 20) givesℤ pos 519 ∷ pos 1000 ∷ [])
    ∷ ("A8 a unit above the high limit with freeze" ∶ position true (pos 500) (pos 501) (pos 20) (pos 20) givesℤ pos 500 ∷ pos 1000 ∷ [])
    ∷ ("A8 above: m is 1,070, bias 1,000 − (600 − 50)" ∶ position false (pos 500) (pos 600) (pos 20) (pos 50) givesℤ pos 450 ∷ pos 1000 ∷ [])
    ∷ ("A8 above, D below 0: bias 1,000 − (600 + 50)" ∶ position false (pos 500) (pos 600) (pos 20) (minus 50) givesℤ pos 350 ∷ pos 1000 ∷ [])
    ∷ ("A8 above with freeze" ∶ position true (pos 500) (pos 600) (pos 20) (pos 50) givesℤ pos 500 ∷ pos 1000 ∷ [])
    ∷ ("A8 on the low limit: −420 + 520" ∶ position false (pos 500) (minus 400) (pos 20) (pos 20) givesℤ pos 520 ∷ pos 100 ∷ [])
    ∷ ("A8 on the low limit with freeze" ∶ position true (pos 500) (minus 400) (pos 20) (pos 20) givesℤ pos 520 ∷ pos 100 ∷ [])
    ∷ ("A8 a unit below the low limit: bias 100 + 421" ∶ position false (pos 500) (minus 401) (pos 20) (pos 20) givesℤ pos 521 ∷ pos 100 ∷ [])
    ∷ ("A8 a unit below the low limit with freeze" ∶ position true (pos 500) (minus 401) (pos 20) (pos 20) givesℤ pos 500 ∷ pos 100 ∷ [])
    ∷ ("A8 below: m is −170, bias 100 − (−600 − 50)" ∶ position false (pos 500) (minus 600) (minus 20) (pos 50) givesℤ pos 750 ∷ pos 100 ∷ [])
    ∷ ("A8 below, D below 0: bias 100 − (−600 + 50)" ∶ position false (pos 500) (minus 600) (minus 20) (minus 50) givesℤ pos 650 ∷ pos 100 ∷ [])
    ∷ ("A8 below with freeze" ∶ position true (pos 500) (minus 600) (minus 20) (pos 50) givesℤ pos 500 ∷ pos 100 ∷ [])
    -- velocity form, the same limits: the output grows by P + I − D, the bias stays
    ∷ ("A9 inside: 300 + 100 + 20 − 30" ∶ velocity (pos 500) (pos 300) (pos 100) (pos 20) (pos 30) givesℤ pos 500 ∷ pos 390 ∷ [])
    ∷ ("A9 D below 0: 300 + 100 + 20 + 30" ∶ velocity (pos 500) (pos 300) (pos 100) (pos 20) (minus 30) givesℤ pos 500 ∷ pos 450 ∷ [])
    ∷ ("A9 P and I below 0: 300 − 100 − 20 − 30" ∶ velocity (minus 200) (pos 300) (minus 100) (minus 20) (pos 30) givesℤ minus 200 ∷ pos 150 ∷ [])
    ∷ ("A9 no terms" ∶ velocity (pos 500) (pos 300) (pos 0) (pos 0) (pos 0) givesℤ pos 500 ∷ pos 300 ∷ [])
    ∷ ("A9 on the high limit" ∶ velocity (pos 500) (pos 300) (pos 710) (pos 20) (pos 30) givesℤ pos 500 ∷ pos 1000 ∷ [])
    ∷ ("A9 a unit inside the high limit" ∶ velocity (pos 500) (pos 300) (pos 709) (pos 20) (pos 30) givesℤ pos 500 ∷ pos 999 ∷ [])
    ∷ ("A9 above the high limit" ∶ velocity (pos 500) (pos 300) (pos 900) (pos 20) (pos 30) givesℤ pos 500 ∷ pos 1000 ∷ [])
    ∷ ("A9 on the low limit" ∶ velocity (pos 500) (pos 300) (minus 190) (pos 20) (pos 30) givesℤ pos 500 ∷ pos 100 ∷ [])
    ∷ ("A9 a unit inside the low limit" ∶ velocity (pos 500) (pos 300) (minus 189) (pos 20) (pos 30) givesℤ pos 500 ∷ pos 101 ∷ [])
    ∷ ("A9 below the low limit" ∶ velocity (pos 500) (pos 300) (minus 900) (pos 20) (pos 30) givesℤ pos 500 ∷ pos 100 ∷ [])
    ∷ ("A9 a carried output above the limits" ∶ velocity (pos 500) (pos 2000) (pos 0) (pos 0) (pos 0) givesℤ pos 500 ∷ pos 1000 ∷ [])
    -- 16 to 12 bits: 0.4999 and 0.5624; 999.77 and 1,000.27
    ∷ ("M7 bit 10 off: as it is" ∶ conversion 0x0200 16000 gives 16000 ∷ [])
    ∷ ("M7 bit 10 off: as it is above full scale" ∶ conversion 0 65535 gives 65535 ∷ [])
    ∷ ("M7 16 to 12 bits: 0" ∶ conversion 0x0600 0 gives 0 ∷ [])
    ∷ ("M7 16 to 12 bits: below a half" ∶ conversion 0x0600 8 gives 0 ∷ [])
    ∷ ("M7 16 to 12 bits: above a half" ∶ conversion 0x0600 9 gives 1 ∷ [])
    ∷ ("M7 16 to 12 bits: 16,000" ∶ conversion 0x0600 16000 gives 1000 ∷ [])
    ∷ ("M7 16 to 12 bits: 16,008" ∶ conversion 0x0600 16008 gives 1000 ∷ [])
    ∷ ("M7 16 to 12 bits: full scale" ∶ conversion 0x0600 65535 gives 4095 ∷ [])
    -- 12 to 16 bits: 16,003.66; 15 to 12: 1,999.57; 16 to 15: 19,999.69; 12 to 15: 8,001.71; 15 to 16: 50,000.76
    ∷ ("M7 12 to 16 bits" ∶ conversion 0x2400 1000 gives 16004 ∷ [])
    ∷ ("M7 12 to 16 bits: full scale" ∶ conversion 0x2400 4095 gives 65535 ∷ [])
    ∷ ("M7 12 to 16 bits: above full scale" ∶ conversion 0x2400 4096 gives 65535 ∷ [])
    ∷ ("M7 15 to 12 bits" ∶ conversion 0x0402 16000 gives 2000 ∷ [])
    ∷ ("M7 15 to 12 bits: above full scale" ∶ conversion 0x0402 65535 gives 4095 ∷ [])
    ∷ ("M7 16 to 15 bits" ∶ conversion 0x1600 40000 gives 20000 ∷ [])
    ∷ ("M7 12 to 15 bits" ∶ conversion 0x1400 1000 gives 8002 ∷ [])
    ∷ ("M7 15 to 16 bits" ∶ conversion 0x2402 25000 gives 50001 ∷ [])
    ∷ ("M7 bit 10 on, 12 bits both: as it is" ∶ conversion 0x0400 1000 gives 1000 ∷ [])
    ∷ ("M7 bit 10 on, 12 bits both: above full scale" ∶ conversion 0x0400 5000 gives 4095 ∷ [])
    ∷ []

pub computed : failing cases ≡ []
unfolding apart half_up half_away over negᶠ round_to clamp_by converted mode2_of
    in_deadband squared_over error_of exact_p exact_i exact_d exact_terms terms_of outside_of position_of velocity_of output_counts
    minus counts minus_counts error error_beyond squared tuned shown terms in_minutes reverse acting acting_in_minutes reversed usual
    halves outcome position velocity conversion cases
computed = refl
