-- A loop's 32 words read as its settings, each word by its place in W2's table.
use Rattle.std.specs.Prelude.{ℕ, Bool, not, ◌&&◌, ◌||◌, List, [], ◌∷◌, get_or}
use Rattle.reading.specs.declared.settings.Mode1.{Mode1}
use Rattle.reading.specs.declared.settings.Mode2.{Mode2}
use Rattle.reading.specs.declared.settings.Tuning.{Tuning}
use Rattle.reading.specs.declared.settings.AlarmLimits.{AlarmLimits}
use Rattle.reading.specs.declared.settings.OutputLimits.{OutputLimits}
use Rattle.reading.specs.declared.settings.Stored.{Stored}
use Rattle.reading.specs.declared.settings.Settings.{Settings}
use Rattle.table.specs.Words.{bit, bcd, bad_digit, input_format, output_format, any}
pub mod Laws

-- M1: mode 1, word 0
abbrev pub mode1_of : ℕ → Mode1
mode1_of word = record {
  manual = bit 0 word;
  automatic = bit 1 word;
  cascade = bit 2 word;
  bumpless = bit 3 word;
  reverse = bit 4 word;
  velocity = bit 5 word;
  root = bit 6 word;
  squared = bit 7 word;
  deadband = bit 8 word;
  limited = bit 9 word;
  freeze = bit 10 word;
  profile = bit 11 word;
  level = bit 12 word;
  deviation = bit 13 word;
  change = bit 14 word;
}

-- M2: a bit of mode 2 is on that has to be off, 12 and 13 among them with bit 10 off
abbrev pub unused_bits : ℕ → Bool
unused_bits word =
    any
    (bit 0 word
    ∷ bit 2 word
    ∷ bit 3 word
    ∷ bit 5 word
    ∷ bit 6 word
    ∷ bit 7 word
    ∷ bit 11 word
    ∷ bit 14 word
    ∷ bit 15 word
    ∷ (not (bit 10 word) && (bit 12 word || bit 13 word))
    ∷ [])

-- M2: mode 2, word 1
unfoldable pub mode2_of : ℕ → Mode2
mode2_of word = record {
  input = input_format word;
  output = output_format word (input_format word);
  separate = bit 10 word;
  minutes = bit 4 word;
  unused = unused_bits word;
}

-- N7: one of words 7 to 10 has a digit above 9
unfoldable pub bad_digits : List ℕ → Bool
bad_digits w = bad_digit (get_or w 7 0) || bad_digit (get_or w 8 0) || bad_digit (get_or w 9 0) || bad_digit (get_or w 10 0)

-- W2, W3: words 7 to 10, in hundredths
unfoldable pub tuning_of : List ℕ → Tuning
tuning_of w = record { period = bcd (get_or w 7 0); gain = bcd (get_or w 8 0); reset = bcd (get_or w 9 0); rate = bcd (get_or w 10 0) }

-- W2: words 11 to 18
abbrev pub alarm_limits_of : List ℕ → AlarmLimits
alarm_limits_of w = record {
  lowlow = get_or w 11 0;
  low = get_or w 12 0;
  high = get_or w 13 0;
  highhigh = get_or w 14 0;
  yellow = get_or w 15 0;
  red = get_or w 16 0;
  change = get_or w 17 0;
  hysteresis = get_or w 18 0;
}

-- W2: words 24 and 25
abbrev pub output_limits_of : List ℕ → OutputLimits
output_limits_of w = record { low = get_or w 24 0; high = get_or w 25 0 }

-- W2: words 0, 2, 4, 5, 6, 27 and 29, which samples write, as they stand before the sample
abbrev pub stored_of : List ℕ → Stored
stored_of w = record {
  word = get_or w 0 0;
  setpoint = get_or w 2 0;
  bias = get_or w 4 0;
  output = get_or w 5 0;
  status = get_or w 6 0;
  flags = get_or w 27 0;
  fault = get_or w 29 0;
}

-- W2: all that the engine uses of a loop's words; word 3 it only writes
unfoldable pub settings_of : List ℕ → Settings
settings_of w = record {
  stored = stored_of w;
  mode1 = mode1_of (get_or w 0 0);
  mode2 = mode2_of (get_or w 1 0);
  baddigit = bad_digits w;
  tuning = tuning_of w;
  alarms = alarm_limits_of w;
  limits = output_limits_of w;
  deadband = get_or w 19 0;
  pointer = get_or w 26 0;
}
