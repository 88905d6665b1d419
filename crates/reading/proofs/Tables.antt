-- What a sample reads of the words, computed of the definitions: each word at its place (W2), the bits of mode 1 and mode 2 (M1 to M3), digits (N7), the
-- ramp/soak table (G1, G2, N7, N8), mode (A2), pointer (A3), transfer and major loop (A13, N11).
use Prim.Native.Nat.{ℕ, ◌+◌, ◌*◌}
use mathlib.Core.Path.{◌≡◌, refl}
use mathlib.Core.Bool.{Bool, true, false, cond}
use mathlib.Core.List.{List, [], ◌∷◌, ◌++◌, map}
use lib.ListN.{replicate, set}
use Rattle.computed.specs.Cases.{Case, ◌∶◌gives◌, flag, failing}
use Rattle.table.specs.declared.mode.Mode.{Mode}
use Rattle.table.specs.declared.mode.Mode.TheVariants.{Manual, Automatic, Cascade}
use Rattle.table.specs.Words.{bcd, bad_digit}
use Rattle.reading.specs.declared.settings.Settings.{Settings}
use Rattle.reading.specs.declared.program.Program.{Program}
use Rattle.reading.specs.declared.reading.Reading.{Reading}
use Rattle.reading.specs.Settings.{mode1_of, mode2_of, bad_digits, tuning_of, settings_of}
use Rattle.reading.specs.Programs.{fault_of, pair_at, pair_number, any_below, bad_digit_in, high_end_in, no_program, program_of}
use Rattle.reading.specs.Transfers.{transfers, major_of, limits_at, major_in}
use Rattle.reading.specs.Reading.{mode_after, remote_of, reading_of}
use Rattle.computed.specs.Cases.Laws.{together, in_parts}

one : ℕ → List ℕ
one n = n ∷ []

-- ---- a loop's words

-- 32 words that all differ
loop : List ℕ
loop =
    0x8000 ∷ 0x0010 ∷ 102 ∷ 103 ∷ 104 ∷ 105 ∷ 106 ∷ 0x0107 ∷ 0x0208 ∷ 0x0309 ∷ 0x0410 ∷ 111 ∷ 112 ∷ 113 ∷ 114 ∷ 115
    ∷ 116 ∷ 117 ∷ 118 ∷ 119 ∷ 120 ∷ 121 ∷ 122 ∷ 123 ∷ 124 ∷ 125 ∷ 126 ∷ 127 ∷ 128 ∷ 129 ∷ 130 ∷ 131 ∷ []

settings : Settings
settings = settings_of loop

-- reverse of mode 1 and minutes of mode 2, both bit 4: words 0 and 1
fours : ℕ → ℕ → List ℕ
fours first second = let s = settings_of (set (set loop 0 first) 1 second) in flag s.mode1.reverse ∷ flag s.mode2.minutes ∷ []

-- setpoint and high output limit of loop k
ends : List ℕ → ℕ → List ℕ
ends words k = let s = (reading_of words k (record { mode = Manual; segment = 0 })).settings in s.stored.setpoint ∷ s.limits.high ∷ []

places : List Case
places =
    ("W2 word 0, as it stands" ∶ one settings.stored.word gives one 0x8000)
    ∷ ("W2 word 0, mode 1" ∶ fours 0x0010 0 gives (1 ∷ 0 ∷ []))
    ∷ ("W2 word 1, mode 2" ∶ fours 0 0x0010 gives (0 ∷ 1 ∷ []))
    ∷ ("W2 word 2, setpoint" ∶ one settings.stored.setpoint gives one 102)
    ∷ ("W2 word 4, bias" ∶ one settings.stored.bias gives one 104)
    ∷ ("W2 word 5, output" ∶ one settings.stored.output gives one 105)
    ∷ ("W2 word 6, status" ∶ one settings.stored.status gives one 106)
    ∷ ("W2 word 7, period" ∶ one settings.tuning.period gives one 107)
    ∷ ("W2 word 8, gain" ∶ one settings.tuning.gain gives one 208)
    ∷ ("W2 word 9, reset time" ∶ one settings.tuning.reset gives one 309)
    ∷ ("W2 word 10, rate time" ∶ one settings.tuning.rate gives one 410)
    ∷ ("W2 word 11, low-low" ∶ one settings.alarms.lowlow gives one 111)
    ∷ ("W2 word 12, low" ∶ one settings.alarms.low gives one 112)
    ∷ ("W2 word 13, high" ∶ one settings.alarms.high gives one 113)
    ∷ ("W2 word 14, high-high" ∶ one settings.alarms.highhigh gives one 114)
    ∷ ("W2 word 15, yellow" ∶ one settings.alarms.yellow gives one 115)
    ∷ ("W2 word 16, red" ∶ one settings.alarms.red gives one 116)
    ∷ ("W2 word 17, change" ∶ one settings.alarms.change gives one 117)
    ∷ ("W2 word 18, hysteresis" ∶ one settings.alarms.hysteresis gives one 118)
    ∷ ("W2 word 19, deadband" ∶ one settings.deadband gives one 119)
    ∷ ("W2 word 24, low output limit" ∶ one settings.limits.low gives one 124)
    ∷ ("W2 word 25, high output limit" ∶ one settings.limits.high gives one 125)
    ∷ ("W2 word 26, pointer" ∶ one settings.pointer gives one 126)
    ∷ ("W2 word 27, profile flags" ∶ one settings.stored.flags gives one 127)
    ∷ ("W2 word 29, profile fault" ∶ one settings.stored.fault gives one 129)
    ∷ ("W1 loop 1" ∶ ends (loop ++ replicate 32 7) 1 gives (102 ∷ 125 ∷ []))
    ∷ ("W1 loop 2" ∶ ends (replicate 32 7 ++ loop) 2 gives (102 ∷ 125 ∷ []))
    ∷ ("W1 loop 16" ∶ ends (replicate 480 7 ++ loop) 16 gives (102 ∷ 125 ∷ []))
    ∷ []

-- ---- mode 1

-- bit n is on
bit : ℕ → Bool → List ℕ → List ℕ
bit n on rest = cond on (n ∷ rest) rest

-- the bits that are on, each in the field of its name
bits : ℕ → List ℕ
bits word =
    let m = mode1_of word in
    bit 0 m.manual (bit 1 m.automatic (bit 2 m.cascade (bit 3 m.bumpless (bit 4 m.reverse (bit 5 m.velocity (bit 6 m.root
    (bit 7 m.squared (bit 8 m.deadband (bit 9 m.limited (bit 10 m.freeze (bit 11 m.profile (bit 12 m.level (bit 13 m.deviation
    (bit 14 m.change []))))))))))))))

modes1 : List Case
modes1 =
    ("M1 bit 0, Manual" ∶ bits 0x0001 gives one 0)
    ∷ ("M1 bit 1, Automatic" ∶ bits 0x0002 gives one 1)
    ∷ ("M1 bit 2, Cascade" ∶ bits 0x0004 gives one 2)
    ∷ ("M1 bit 3, Bumpless II" ∶ bits 0x0008 gives one 3)
    ∷ ("M1 bit 4, reverse" ∶ bits 0x0010 gives one 4)
    ∷ ("M1 bit 5, velocity" ∶ bits 0x0020 gives one 5)
    ∷ ("M1 bit 6, root" ∶ bits 0x0040 gives one 6)
    ∷ ("M1 bit 7, squared" ∶ bits 0x0080 gives one 7)
    ∷ ("M1 bit 8, deadband" ∶ bits 0x0100 gives one 8)
    ∷ ("M1 bit 9, derivative limit" ∶ bits 0x0200 gives one 9)
    ∷ ("M1 bit 10, freeze" ∶ bits 0x0400 gives one 10)
    ∷ ("M1 bit 11, profile" ∶ bits 0x0800 gives one 11)
    ∷ ("M1 bit 12, PV alarms" ∶ bits 0x1000 gives one 12)
    ∷ ("M1 bit 13, deviation alarms" ∶ bits 0x2000 gives one 13)
    ∷ ("M1 bit 14, rate alarm" ∶ bits 0x4000 gives one 14)
    ∷ ("M1 bit 15, ignored" ∶ bits 0x8000 gives [])
    ∷ []

-- ---- mode 2: F, G, bit 10, minutes, and whether a bit is on that has to be off

mode2 : ℕ → List ℕ
mode2 word = let m = mode2_of word in m.input.scale ∷ m.output.scale ∷ flag m.separate ∷ flag m.minutes ∷ flag m.unused ∷ []

-- 12 bits, and a bit that has to be off
refused : List ℕ
refused = 4095 ∷ 4095 ∷ 0 ∷ 0 ∷ 1 ∷ []

modes2 : List Case
modes2 =
    ("M2 no bit" ∶ mode2 0x0000 gives (4095 ∷ 4095 ∷ 0 ∷ 0 ∷ 0 ∷ []))
    ∷ ("M2 bit 0" ∶ mode2 0x0001 gives refused)
    ∷ ("M2 bit 1" ∶ mode2 0x0002 gives (32767 ∷ 32767 ∷ 0 ∷ 0 ∷ 0 ∷ []))
    ∷ ("M2 bit 2" ∶ mode2 0x0004 gives refused)
    ∷ ("M2 bit 3" ∶ mode2 0x0008 gives refused)
    ∷ ("M2 bit 4" ∶ mode2 0x0010 gives (4095 ∷ 4095 ∷ 0 ∷ 1 ∷ 0 ∷ []))
    ∷ ("M2 bit 5" ∶ mode2 0x0020 gives refused)
    ∷ ("M2 bit 6" ∶ mode2 0x0040 gives refused)
    ∷ ("M2 bit 7" ∶ mode2 0x0080 gives refused)
    ∷ ("M2 bit 8, ignored" ∶ mode2 0x0100 gives (4095 ∷ 4095 ∷ 0 ∷ 0 ∷ 0 ∷ []))
    ∷ ("M2 bit 9" ∶ mode2 0x0200 gives (65535 ∷ 65535 ∷ 0 ∷ 0 ∷ 0 ∷ []))
    ∷ ("M2 bit 10" ∶ mode2 0x0400 gives (4095 ∷ 4095 ∷ 1 ∷ 0 ∷ 0 ∷ []))
    ∷ ("M2 bit 11" ∶ mode2 0x0800 gives refused)
    ∷ ("M2 bit 12 without bit 10" ∶ mode2 0x1000 gives refused)
    ∷ ("M2 bit 13 without bit 10" ∶ mode2 0x2000 gives refused)
    ∷ ("M2 bit 14" ∶ mode2 0x4000 gives refused)
    ∷ ("M2 bit 15" ∶ mode2 0x8000 gives refused)
    ∷ ("M3 bits 1 and 9" ∶ mode2 0x0202 gives (65535 ∷ 65535 ∷ 0 ∷ 0 ∷ 0 ∷ []))
    ∷ ("M3 bits 1, 10 and 12" ∶ mode2 0x1402 gives (32767 ∷ 32767 ∷ 1 ∷ 0 ∷ 0 ∷ []))
    ∷ ("M3 bits 10 and 13" ∶ mode2 0x2400 gives (4095 ∷ 65535 ∷ 1 ∷ 0 ∷ 0 ∷ []))
    ∷ ("M3 bits 1, 10, 12 and 13" ∶ mode2 0x3402 gives (32767 ∷ 65535 ∷ 1 ∷ 0 ∷ 0 ∷ []))
    ∷ ("M3 bits 9 and 10" ∶ mode2 0x0600 gives (65535 ∷ 4095 ∷ 1 ∷ 0 ∷ 0 ∷ []))
    ∷ ("M3 bits 1, 9, 10 and 12" ∶ mode2 0x1602 gives (65535 ∷ 32767 ∷ 1 ∷ 0 ∷ 0 ∷ []))
    ∷ ("M2 bits 10 and 11" ∶ mode2 0x0C00 gives (4095 ∷ 4095 ∷ 1 ∷ 0 ∷ 1 ∷ []))
    ∷ ("M2 bits 10 and 14" ∶ mode2 0x4400 gives (4095 ∷ 4095 ∷ 1 ∷ 0 ∷ 1 ∷ []))
    ∷ ("M2 bits 9 and 13 without bit 10" ∶ mode2 0x2200 gives (65535 ∷ 65535 ∷ 0 ∷ 0 ∷ 1 ∷ []))
    ∷ []

-- ---- digits: d in each of the four places of a word, by what tests the words

in_each : (ℕ → Bool) → ℕ → List ℕ
in_each test d = flag (test (4096 * d)) ∷ flag (test (256 * d)) ∷ flag (test (16 * d)) ∷ flag (test d) ∷ []

-- in word n of a loop
digits : ℕ → ℕ → List ℕ
digits n d = in_each (λ w. bad_digits (set loop n w)) d

-- in place n of a ramp/soak table
table_digits : ℕ → ℕ → List ℕ
table_digits n d = in_each (λ w. bad_digit_in (set (replicate 32 0) n w)) d

-- no digit in one of the four words of pair i, each by itself
pair_digits : ℕ → List ℕ
pair_digits i = map (λ (j : ℕ). flag (bad_digit_in (set (replicate 32 0) (4 * i + j) 0x0A00))) (0 ∷ 1 ∷ 2 ∷ 3 ∷ [])

all : List ℕ
all = 1 ∷ 1 ∷ 1 ∷ 1 ∷ []

nothing : List ℕ
nothing = 0 ∷ 0 ∷ 0 ∷ 0 ∷ []

inner : List ℕ
inner = 0 ∷ 1 ∷ 1 ∷ 0 ∷ []

digit : List Case
digit =
    ("N7 word 7, each digit A" ∶ digits 7 10 gives all)
    ∷ ("N7 word 8, each digit A" ∶ digits 8 10 gives all)
    ∷ ("N7 word 9, each digit A" ∶ digits 9 10 gives all)
    ∷ ("N7 word 10, each digit A" ∶ digits 10 10 gives all)
    ∷ ("N7 word 7, each digit 9" ∶ digits 7 9 gives nothing)
    ∷ ("N7 word 8, each digit 9" ∶ digits 8 9 gives nothing)
    ∷ ("N7 word 9, each digit 9" ∶ digits 9 9 gives nothing)
    ∷ ("N7 word 10, each digit 9" ∶ digits 10 9 gives nothing)
    ∷ ("N7 word 6 has no digits" ∶ digits 6 15 gives nothing)
    ∷ ("N7 word 11 has no digits" ∶ digits 11 15 gives nothing)
    ∷ ("N7 word 20 has no digits" ∶ digits 20 15 gives nothing)
    ∷ ("N7 of all the settings, none" ∶ one (flag settings.baddigit) gives one 0)
    ∷ ("N7 of all the settings, word 10" ∶ one (flag (settings_of (set loop 10 0x000A)).baddigit) gives one 1)
    ∷ []

slopes : List Case
slopes =
    ("N7 slope 1, each digit A" ∶ table_digits 1 10 gives all)
    ∷ ("N7 slope 1, each digit 9" ∶ table_digits 1 9 gives nothing)
    ∷ ("N7 soak 16, each digit A" ∶ table_digits 30 10 gives all)
    ∷ ("N7 soak 16, each digit 9" ∶ table_digits 30 9 gives nothing)
    ∷ []

pairs : List Case
pairs =
    ("N7 slope 1 and soak 2" ∶ pair_digits 0 gives inner)
    ∷ ("N7 slope 3 and soak 4" ∶ pair_digits 1 gives inner)
    ∷ ("N7 slope 5 and soak 6" ∶ pair_digits 2 gives inner)
    ∷ ("N7 slope 7 and soak 8" ∶ pair_digits 3 gives inner)
    ∷ ("N7 slope 9 and soak 10" ∶ pair_digits 4 gives inner)
    ∷ ("N7 slope 11 and soak 12" ∶ pair_digits 5 gives inner)
    ∷ ("N7 slope 13 and soak 14" ∶ pair_digits 6 gives inner)
    ∷ ("N7 slope 15 and soak 16" ∶ pair_digits 7 gives inner)
    ∷ []

-- ---- ramp ends: by F, a word in one of the four places of pair i

ramps : ℕ → ℕ → ℕ → List ℕ
ramps F i w = map (λ (j : ℕ). flag (high_end_in F (set (replicate 32 0) (4 * i + j) w))) (0 ∷ 1 ∷ 2 ∷ 3 ∷ [])

first : List ℕ
first = 1 ∷ 0 ∷ 0 ∷ 0 ∷ []

high : List Case
high =
    ("N8 ramp 1 above F" ∶ ramps 4095 0 4096 gives first)
    ∷ ("N8 ramp 3 above F" ∶ ramps 4095 1 4096 gives first)
    ∷ ("N8 ramp 5 above F" ∶ ramps 4095 2 4096 gives first)
    ∷ ("N8 ramp 7 above F" ∶ ramps 4095 3 4096 gives first)
    ∷ ("N8 ramp 9 above F" ∶ ramps 4095 4 4096 gives first)
    ∷ ("N8 ramp 11 above F" ∶ ramps 4095 5 4096 gives first)
    ∷ ("N8 ramp 13 above F" ∶ ramps 4095 6 4096 gives first)
    ∷ ("N8 ramp 15 above F" ∶ ramps 4095 7 4096 gives first)
    ∷ ("N8 ramp 1 on F" ∶ ramps 4095 0 4095 gives nothing)
    ∷ ("N8 ramp 15 on F" ∶ ramps 4095 7 4095 gives nothing)
    ∷ ("N8 ramp 1 above F, 15 bits" ∶ ramps 32767 0 32768 gives first)
    ∷ ("N8 ramp 1 on F, 15 bits" ∶ ramps 32767 0 32767 gives nothing)
    ∷ ("N8 ramp 1 on F, 16 bits" ∶ ramps 65535 0 65535 gives nothing)
    ∷ []

-- ---- the ramp/soak program

-- 32 words that all differ
plan : List ℕ
plan =
    100 ∷ 0x0200 ∷ 0x0300 ∷ 400 ∷ 101 ∷ 0x0201 ∷ 0x0301 ∷ 401 ∷ 102 ∷ 0x0202 ∷ 0x0302 ∷ 402 ∷ 103 ∷ 0x0203 ∷ 0x0303 ∷ 403
    ∷ 104 ∷ 0x0204 ∷ 0x0304 ∷ 404 ∷ 105 ∷ 0x0205 ∷ 0x0305 ∷ 405 ∷ 106 ∷ 0x0206 ∷ 0x0306 ∷ 406 ∷ 107 ∷ 0x0207 ∷ 0x0307 ∷ 407 ∷ []

-- whether there is one, word 29, N7, N8, and the pair
program : Program → List ℕ
program p =
    let q = p.pair in
    flag p.on ∷ p.fault ∷ flag p.baddigit ∷ flag p.highend ∷ q.end ∷ q.slope ∷ q.duration ∷ q.deviation ∷ []

-- the plan at 512; the words before and behind it have no digits, and are above every end
planned : Bool → ℕ → ℕ → ℕ → List ℕ
planned on at F segment = program (program_of (replicate 512 0xFFFF ++ plan ++ replicate 4 0xFFFF) on at F segment)

-- the pair of a carried segment
segment : ℕ → List ℕ
segment n =
    let q = pair_at plan (pair_number n) in
    q.end ∷ q.slope ∷ q.duration ∷ q.deviation ∷ []

pair_of : ℕ → List ℕ
pair_of i = (100 + i) ∷ (200 + i) ∷ (300 + i) ∷ (400 + i) ∷ []

-- no program: word 29
missing : ℕ → List ℕ
missing fault = 0 ∷ fault ∷ 0 ∷ 0 ∷ 0 ∷ 0 ∷ 0 ∷ 0 ∷ []

programs : List Case
programs =
    ("G2 address 0" ∶ one (fault_of 0) gives one 1)
    ∷ ("G2 address 511" ∶ one (fault_of 511) gives one 1)
    ∷ ("G2 address 512" ∶ one (fault_of 512) gives one 0)
    ∷ ("G2 address 992" ∶ one (fault_of 992) gives one 0)
    ∷ ("G2 address 993" ∶ one (fault_of 993) gives one 2)
    ∷ ("G2 address 65,535" ∶ one (fault_of 65535) gives one 2)
    ∷ ("G1 no segment" ∶ segment 0 gives pair_of 0)
    ∷ ("G1 segment 1" ∶ segment 1 gives pair_of 0)
    ∷ ("G1 segment 2" ∶ segment 2 gives pair_of 0)
    ∷ ("G1 segment 3" ∶ segment 3 gives pair_of 1)
    ∷ ("G1 segment 4" ∶ segment 4 gives pair_of 1)
    ∷ ("G1 segment 5" ∶ segment 5 gives pair_of 2)
    ∷ ("G1 segment 6" ∶ segment 6 gives pair_of 2)
    ∷ ("G1 segment 7" ∶ segment 7 gives pair_of 3)
    ∷ ("G1 segment 8" ∶ segment 8 gives pair_of 3)
    ∷ ("G1 segment 9" ∶ segment 9 gives pair_of 4)
    ∷ ("G1 segment 10" ∶ segment 10 gives pair_of 4)
    ∷ ("G1 segment 11" ∶ segment 11 gives pair_of 5)
    ∷ ("G1 segment 12" ∶ segment 12 gives pair_of 5)
    ∷ ("G1 segment 13" ∶ segment 13 gives pair_of 6)
    ∷ ("G1 segment 14" ∶ segment 14 gives pair_of 6)
    ∷ ("G1 segment 15" ∶ segment 15 gives pair_of 7)
    ∷ ("G1 segment 16" ∶ segment 16 gives pair_of 7)
    -- 107 is the highest end
    ∷ ("G2 bit 11 on, address 512" ∶ planned true 512 107 16 gives (1 ∷ 0 ∷ 0 ∷ 0 ∷ pair_of 7))
    ∷ ("N8 an end above F" ∶ planned true 512 106 1 gives (1 ∷ 0 ∷ 0 ∷ 1 ∷ 100 ∷ 200 ∷ 300 ∷ 400 ∷ []))
    ∷ ("G1 a table at 513" ∶ program (program_of (replicate 513 0xFFFF ++ plan) true 513 107 1) gives (1 ∷ 0 ∷ 0 ∷ 0 ∷ pair_of 0))
    ∷ ("G2 bit 11 off" ∶ planned false 512 107 1 gives missing 0)
    ∷ ("G2 bit 11 off, address 511" ∶ planned false 511 107 1 gives missing 0)
    ∷ ("G2 bit 11 off, address 993" ∶ planned false 993 107 1 gives missing 0)
    ∷ ("G2 bit 11 on, address 511" ∶ planned true 511 107 1 gives missing 1)
    ∷ ("G2 bit 11 on, address 993" ∶ planned true 993 107 1 gives missing 2)
    ∷ ("G2 bit 11 on, address 992" ∶ program (program_of (replicate 992 0 ++ plan) true 992 107 16) gives (1 ∷ 0 ∷ 0 ∷ 0 ∷ pair_of 7))
    ∷ ("N7 the last word but one" ∶ one (flag (program_of (replicate 1022 0 ++ (10 ∷ 0 ∷ [])) true 992 107 1).baddigit) gives one 1)
    ∷ []

-- ---- modes, pointer and transfer

number : Mode → ℕ
number Manual = 0
number Automatic = 1
number Cascade = 2

-- the mode after word 0, from Manual, Automatic and Cascade
after : ℕ → List ℕ
after word = map (λ (former : Mode). number (mode_after (mode1_of word) former)) (Manual ∷ Automatic ∷ Cascade ∷ [])

-- whether the change to Manual, Automatic and Cascade is a transfer
transfer : Mode → Bool → List ℕ
transfer former bumpless = map (λ (mode : Mode). flag (transfers former mode bumpless)) (Manual ∷ Automatic ∷ Cascade ∷ [])

-- the major loop of loop k
major : ℕ → ℕ → List ℕ
major k pointer = one (major_of k pointer)

-- the word pointed to, among three
pointed : Mode → ℕ → List ℕ
pointed mode pointer = one (remote_of (7 ∷ 8 ∷ 9 ∷ []) mode pointer)

changes : List Case
changes =
    ("A2 no request" ∶ after 0x0000 gives (0 ∷ 1 ∷ 2 ∷ []))
    ∷ ("A2 Manual" ∶ after 0x0001 gives (0 ∷ 0 ∷ 0 ∷ []))
    ∷ ("A2 Automatic" ∶ after 0x0002 gives (1 ∷ 1 ∷ 1 ∷ []))
    ∷ ("A2 Manual before Automatic" ∶ after 0x0003 gives (0 ∷ 0 ∷ 0 ∷ []))
    ∷ ("A2 Cascade" ∶ after 0x0004 gives (2 ∷ 2 ∷ 2 ∷ []))
    ∷ ("A2 Manual before Cascade" ∶ after 0x0005 gives (0 ∷ 0 ∷ 0 ∷ []))
    ∷ ("A2 Automatic before Cascade" ∶ after 0x0006 gives (1 ∷ 1 ∷ 1 ∷ []))
    ∷ ("A2 all three" ∶ after 0x0007 gives (0 ∷ 0 ∷ 0 ∷ []))
    ∷ ("A2 the other bits request nothing" ∶ after 0xFFF8 gives (0 ∷ 1 ∷ 2 ∷ []))
    ∷ ("A13 from Automatic, Bumpless I" ∶ transfer Automatic false gives (0 ∷ 0 ∷ 1 ∷ []))
    ∷ ("A13 from Automatic, Bumpless II" ∶ transfer Automatic true gives (0 ∷ 0 ∷ 0 ∷ []))
    ∷ ("A13 from Manual, Bumpless I" ∶ transfer Manual false gives (0 ∷ 0 ∷ 0 ∷ []))
    ∷ ("A13 from Manual, Bumpless II" ∶ transfer Manual true gives (0 ∷ 0 ∷ 0 ∷ []))
    ∷ ("A13 from Cascade, Bumpless I" ∶ transfer Cascade false gives (0 ∷ 0 ∷ 0 ∷ []))
    ∷ ("A13 from Cascade, Bumpless II" ∶ transfer Cascade true gives (0 ∷ 0 ∷ 0 ∷ []))
    ∷ ("N11 output of loop 1" ∶ major 2 5 gives one 1)
    ∷ ("N11 output of loop 3" ∶ major 2 69 gives one 3)
    ∷ ("N11 output of loop 16" ∶ major 2 485 gives one 16)
    ∷ ("N11 its own output" ∶ major 2 37 gives one 0)
    ∷ ("N11 the bias of loop 1" ∶ major 2 4 gives one 0)
    ∷ ("N11 the status of loop 1" ∶ major 2 6 gives one 0)
    ∷ ("N11 address 0" ∶ major 2 0 gives one 0)
    ∷ ("N11 address 511" ∶ major 2 511 gives one 0)
    ∷ ("N11 address 512" ∶ major 2 512 gives one 0)
    ∷ ("N11 address 517" ∶ major 2 517 gives one 0)
    ∷ ("N11 address 65,535" ∶ major 2 65535 gives one 0)
    ∷ ("N11 loop 1's own output" ∶ major 1 5 gives one 0)
    ∷ ("N11 loop 16's own output" ∶ major 16 485 gives one 0)
    ∷ ("N11 output of loop 2, from 1" ∶ major 1 37 gives one 2)
    ∷ ("N11 output of loop 15, from 16" ∶ major 16 453 gives one 15)
    ∷ ("A3 Manual" ∶ pointed Manual 1 gives one 0)
    ∷ ("A3 Automatic" ∶ pointed Automatic 1 gives one 0)
    ∷ ("A3 Cascade, the first word" ∶ pointed Cascade 0 gives one 7)
    ∷ ("A3 Cascade" ∶ pointed Cascade 1 gives one 8)
    ∷ ("A3 Cascade, the last word" ∶ pointed Cascade 2 gives one 9)
    ∷ ("A3 Cascade, behind the words" ∶ pointed Cascade 3 gives one 0)
    ∷ []

-- ---- all that a sample reads

-- mode, transfer, the word pointed to, and the major loop with its limits
cascade : Reading → List ℕ
cascade r = number r.mode ∷ flag r.transfer ∷ r.remote ∷ r.major.number ∷ r.major.limits.low ∷ r.major.limits.high ∷ []

-- loop 2 behind loop 1: word 0, pointer and former mode
minor : ℕ → ℕ → Mode → List ℕ
minor first pointer former = cascade (reading_of (loop ++ set (set loop 0 first) 26 pointer) 2 (record { mode = former; segment = 0 }))

-- loop 2 behind loop 1: words 0, 1 and 28, the former mode, segment 4; and, of the plan at 512, whether there is a program, word 29, N7 and N8, its end
profiled : ℕ → ℕ → ℕ → Mode → List ℕ
profiled first second at former =
    let p = (reading_of (loop ++ set (set (set loop 0 first) 1 second) 28 at ++ replicate 448 0 ++ set plan 0 5000) 2 (record { mode = former; segment = 4 })).program in
    flag p.on ∷ p.fault ∷ flag p.baddigit ∷ flag p.highend ∷ p.pair.end ∷ []

readings : List Case
readings =
    ("A13 a transfer" ∶ minor 0x0004 5 Automatic gives (2 ∷ 1 ∷ 105 ∷ 1 ∷ 124 ∷ 125 ∷ []))
    ∷ ("A13 with Bumpless II none" ∶ minor 0x000C 5 Automatic gives (2 ∷ 0 ∷ 105 ∷ 0 ∷ 0 ∷ 0 ∷ []))
    ∷ ("A13 from Manual none" ∶ minor 0x0004 5 Manual gives (2 ∷ 0 ∷ 105 ∷ 0 ∷ 0 ∷ 0 ∷ []))
    ∷ ("A13 from Cascade none" ∶ minor 0x0004 5 Cascade gives (2 ∷ 0 ∷ 105 ∷ 0 ∷ 0 ∷ 0 ∷ []))
    ∷ ("A13 in Cascade without a request none" ∶ minor 0x0000 5 Cascade gives (2 ∷ 0 ∷ 105 ∷ 0 ∷ 0 ∷ 0 ∷ []))
    ∷ ("A13 in Automatic without a request none" ∶ minor 0x0000 5 Automatic gives (1 ∷ 0 ∷ 0 ∷ 0 ∷ 0 ∷ 0 ∷ []))
    ∷ ("A13 with Manual requested too none" ∶ minor 0x0005 5 Automatic gives (0 ∷ 0 ∷ 0 ∷ 0 ∷ 0 ∷ 0 ∷ []))
    ∷ ("A13 with Automatic requested too none" ∶ minor 0x0006 5 Automatic gives (1 ∷ 0 ∷ 0 ∷ 0 ∷ 0 ∷ 0 ∷ []))
    ∷ ("A13 at its own output" ∶ minor 0x0004 37 Automatic gives (2 ∷ 1 ∷ 105 ∷ 0 ∷ 0 ∷ 0 ∷ []))
    ∷ ("A13 at no output" ∶ minor 0x0004 4 Automatic gives (2 ∷ 1 ∷ 104 ∷ 0 ∷ 0 ∷ 0 ∷ []))
    ∷ ("A3 from Cascade to Manual" ∶ minor 0x0001 5 Cascade gives (0 ∷ 0 ∷ 0 ∷ 0 ∷ 0 ∷ 0 ∷ []))
    ∷ ("A3 from Cascade to Automatic" ∶ minor 0x0002 5 Cascade gives (1 ∷ 0 ∷ 0 ∷ 0 ∷ 0 ∷ 0 ∷ []))
    ∷ ("A13 loop 16 is the major one" ∶ cascade (reading_of (set (set loop 0 0x0004) 26 485 ++ replicate 448 0 ++ loop) 1 (record { mode = Automatic; segment = 0 }))
    gives (2 ∷ 1 ∷ 105 ∷ 16 ∷ 124 ∷ 125 ∷ []))
    ∷ ("Q9 the loop's number" ∶ one (reading_of (loop ++ loop) 2 (record { mode = Manual; segment = 0 })).number gives one 2)
    ∷ ("G1 word 28, and the carried segment" ∶ profiled 0x0800 0x0200 512 Manual gives (1 ∷ 0 ∷ 0 ∷ 0 ∷ 101 ∷ []))
    ∷ ("G1 in Cascade too" ∶ profiled 0x0800 0x0200 512 Cascade gives (1 ∷ 0 ∷ 0 ∷ 0 ∷ 101 ∷ []))
    ∷ ("G2 without bit 11" ∶ profiled 0xF7F8 0x0200 512 Manual gives (0 ∷ 0 ∷ 0 ∷ 0 ∷ 0 ∷ []))
    ∷ ("G2 word 28 below 512" ∶ profiled 0x0800 0x0200 511 Manual gives (0 ∷ 1 ∷ 0 ∷ 0 ∷ 0 ∷ []))
    ∷ ("G2 word 28 above 992" ∶ profiled 0x0800 0x0200 993 Manual gives (0 ∷ 2 ∷ 0 ∷ 0 ∷ 0 ∷ []))
    ∷ ("N8 ends against F, not G of 16 bits" ∶ profiled 0x0800 0x2400 512 Manual gives (1 ∷ 0 ∷ 0 ∷ 1 ∷ 101 ∷ []))
    ∷ ("N8 ends against F, not G of 12 bits" ∶ profiled 0x0800 0x0600 512 Manual gives (1 ∷ 0 ∷ 0 ∷ 0 ∷ 101 ∷ []))
    ∷ []

-- ---- all of it, in parts

words : List Case
words = places ++ modes1 ++ modes2

computed_words : failing words ≡ []
unfolding bcd bad_digit mode2_of bad_digits tuning_of settings_of reading_of one loop settings fours ends places bit bits modes1 mode2 refused modes2 words
computed_words = refl

computed_digits : failing digit ≡ []
unfolding bad_digit mode2_of bad_digits settings_of one loop settings in_each digits all nothing digit
computed_digits = refl

computed_slopes : failing slopes ≡ []
unfolding bad_digit any_below bad_digit_in in_each table_digits all nothing slopes
computed_slopes = refl

computed_pairs : failing pairs ≡ []
unfolding bad_digit any_below bad_digit_in pair_digits inner pairs
computed_pairs = refl

computed_ends : failing high ≡ []
unfolding any_below high_end_in nothing ramps first high
computed_ends = refl

computed_programs : failing programs ≡ []
unfolding bcd bad_digit fault_of pair_at any_below bad_digit_in high_end_in no_program program_of one plan program planned segment pair_of missing programs
computed_programs = refl

samples : List Case
samples = changes ++ readings

computed_samples : failing samples ≡ []
unfolding bcd bad_digit mode2_of bad_digits tuning_of settings_of fault_of pair_at any_below bad_digit_in high_end_in no_program program_of transfers major_of limits_at major_in mode_after remote_of reading_of one loop plan number after transfer major pointed changes cascade minor profiled readings samples
computed_samples = refl

parts : List (List Case)
parts = words ∷ digit ∷ slopes ∷ pairs ∷ high ∷ programs ∷ samples ∷ []

pub cases : List Case
cases = together parts

pub computed : failing cases ≡ []
unfolding parts cases
computed = in_parts parts (
  computed_words,
  (computed_digits, (computed_slopes, (computed_pairs, (computed_ends, (computed_programs, (computed_samples, tt)))))),
)
