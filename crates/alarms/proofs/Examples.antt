-- The status word computed of the definitions (B1 to B8): each alarm off, on, held and off again at its edges; then the settings, the output at
-- its limits and the bits that nothing writes. In the words 1, 2 and 4 are the modes; 8, 10, 20, 40 the PV's alarms; 80, 100 the deviation's; 200
-- the rate's; 400 the settings; 800 the output.
use Prim.Native.Nat.{ℕ}
use mathlib.Core.Path.{◌≡◌, refl}
use mathlib.Core.Bool.{true, false}
use mathlib.Core.List.{List, [], ◌∷◌}
use Rattle.std.specs.Prelude.{Some}
use Rattle.std.specs.Bool.{then_some}
use Rattle.computed.specs.Cases.Laws.{together, in_parts}
use Rattle.computed.specs.Cases.{Case, ◌∶◌gives◌, failing}
use Rattle.numbers.specs.Distances.{apart}
use Rattle.table.specs.declared.mode.Mode.{Mode}
use Rattle.table.specs.declared.mode.Mode.TheVariants.{Manual, Automatic, Cascade}
use Rattle.reading.specs.declared.settings.AlarmLimits.{AlarmLimits}
use Rattle.reading.specs.Settings.{mode1_of}
use Rattle.alarms.specs.declared.status.Seen.{Seen}
use Rattle.alarms.specs.Status.{bits_word, bits_of, levels_of, status_of}

-- words 11 to 18: low-low, low, high, high-high, yellow, red, change, hysteresis
limits : ℕ → ℕ → ℕ → ℕ → ℕ → ℕ → ℕ → ℕ → AlarmLimits
limits ll l h hh y r c hy = record { lowlow = ll; low = l; high = h; highhigh = hh; yellow = y; red = r; change = c; hysteresis = hy }

usual : AlarmLimits
usual = limits 100 200 3000 3500 50 90 30 10

-- limits of the PV, others as usual; and of the deviation, with the hysteresis
levels : ℕ → ℕ → ℕ → ℕ → AlarmLimits
levels ll l h hh = limits ll l h hh 50 90 30 10

deviations : ℕ → ℕ → ℕ → AlarmLimits
deviations y r hy = limits 100 200 3000 3500 y r 30 hy

-- with hysteresis 200: limits below it; a high limit that is it; low limits near full scale in 12 and in 16 bits; high limits near it in 16 bits
small : AlarmLimits
small = limits 0 1 5 8 5 8 30 200

equal : AlarmLimits
equal = limits 0 1 200 300 50 90 30 200

low12 : AlarmLimits
low12 = limits 3950 4000 4090 4095 50 90 30 200

low16 : AlarmLimits
low16 = limits 65400 65500 65510 65535 50 90 30 200

high16 : AlarmLimits
high16 = limits 100 200 65500 65535 50 90 30 200

-- the word of a sample: mode, mode 1, word 6 before it, and what was seen; the output limits are 500 and 4,000
status : Mode → ℕ → AlarmLimits → ℕ → Seen → ℕ
status mode bits l stored seen = bits_word (bits_of (status_of mode (mode1_of bits) l (record { low = 500; high = 4000 }) stored seen))

one : ℕ → List ℕ
one n = n ∷ []

-- setpoint, PV, last PV; the output is inside its limits
seen_at : ℕ → ℕ → ℕ → Seen
seen_at s p last = record { pv = p; setpoint = s; last = Some last; output = 2000 }

-- ---- single bits of mode 1

-- bit 12 on: the PV, and word 6 before. Setpoint and last PV are 0
level_by : Mode → AlarmLimits → ℕ → ℕ → List ℕ
level_by mode l p stored = one (status mode 0x1000 l stored (seen_at 0 p 0))

level : ℕ → ℕ → List ℕ
level p stored = level_by Automatic usual p stored

-- bit 13 on: the PV, and word 6 before. The setpoint is 1,000, the last PV 0
deviation_by : Mode → AlarmLimits → ℕ → ℕ → List ℕ
deviation_by mode l p stored = one (status mode 0x2000 l stored (seen_at 1000 p 0))

deviation : ℕ → ℕ → List ℕ
deviation p stored = deviation_by Automatic usual p stored

-- bit 14 on: the last PV, and word 6 before. The PV is 1,000, the setpoint 2,000
change : Mode → ℕ → ℕ → List ℕ
change mode last stored = one (status mode 0x4000 usual stored (seen_at 2000 1000 last))

-- the first accepted sample: bits of mode 1, word 6 before, PV and last PV. The setpoint is 2,000
first : Mode → ℕ → ℕ → ℕ → ℕ → List ℕ
first mode bits stored p last = one (status mode bits usual stored (record { pv = p; setpoint = 2000; last = then_some false last; output = 2000 }))

-- bits of mode 1 and limits; setpoint, PV and last PV are 1,000
settings : Mode → ℕ → AlarmLimits → List ℕ
settings mode bits l = one (status mode bits l 0 (seen_at 1000 1000 1000))

-- nothing is watched: word 5 as written, setpoint, PV
output : Mode → ℕ → ℕ → ℕ → List ℕ
output mode out s p = one (status mode 0 usual 0 (record { pv = p; setpoint = s; last = Some p; output = out }))

-- every alarm in Automatic: word 6 before
full : ℕ → List ℕ
full stored =
    one (status Automatic 0x7000 (limits 4000 4000 10 10 50 40 30 10) stored (record { pv = 100; setpoint = 1000; last = Some 0; output = 500 }))

-- two samples, the second with bits 12 and 13 in Automatic: mode and mode 1 of the first, word 6 before it, setpoint and PV of both
twice : Mode → ℕ → ℕ → ℕ → ℕ → List ℕ
twice mode bits stored s p =
    let before = status mode bits usual stored (seen_at s p p) in
    before ∷ status Automatic 0x3000 usual before (seen_at s p p) ∷ []

-- ---- the cases

levels_watched : List Case
levels_watched =
    -- the PV: limits 100, 200, 3,000 and 3,500, hysteresis 10
    ("B2 low-low off at its limit" ∶ level 100 0 gives one 0x0012)
    ∷ ("B2 low-low on below it" ∶ level 99 0 gives one 0x001A)
    ∷ ("B3 low-low held" ∶ level 109 0x0008 gives one 0x001A)
    ∷ ("B3 low-low off at limit + hysteresis" ∶ level 110 0x0008 gives one 0x0012)
    ∷ ("B3 low-low not held by the bit of low" ∶ level 109 0x0010 gives one 0x0012)
    ∷ ("B2 low off at its limit" ∶ level 200 0 gives one 0x0002)
    ∷ ("B2 low on below it" ∶ level 199 0 gives one 0x0012)
    ∷ ("B3 low held" ∶ level 209 0x0010 gives one 0x0012)
    ∷ ("B3 low off at limit + hysteresis" ∶ level 210 0x0010 gives one 0x0002)
    ∷ ("B3 low not held by the bit of low-low" ∶ level 209 0x0008 gives one 0x0002)
    ∷ ("B2 high off at its limit" ∶ level 3000 0 gives one 0x0002)
    ∷ ("B2 high on above it" ∶ level 3001 0 gives one 0x0022)
    ∷ ("B3 high held" ∶ level 2991 0x0020 gives one 0x0022)
    ∷ ("B3 high off at limit − hysteresis" ∶ level 2990 0x0020 gives one 0x0002)
    ∷ ("B3 high not held by the bit of high-high" ∶ level 2991 0x0040 gives one 0x0002)
    ∷ ("B2 high-high off at its limit" ∶ level 3500 0 gives one 0x0022)
    ∷ ("B2 high-high on above it" ∶ level 3501 0 gives one 0x0062)
    ∷ ("B3 high-high held" ∶ level 3491 0x0040 gives one 0x0062)
    ∷ ("B3 high-high off at limit − hysteresis" ∶ level 3490 0x0040 gives one 0x0022)
    ∷ ("B3 high-high not held by the bit of high" ∶ level 3491 0x0020 gives one 0x0022)
    ∷ ("B2 low alarms in Manual" ∶ level_by Manual usual 99 0 gives one 0x0019)
    ∷ ("B2 high alarms in Manual" ∶ level_by Manual usual 3501 0 gives one 0x0061)
    ∷ ("B3 high held in Manual" ∶ level_by Manual usual 2991 0x0020 gives one 0x0021)
    ∷ ("B2 low alarms in Cascade" ∶ level_by Cascade usual 99 0 gives one 0x001C)
    ∷ ("B2 high alarms in Cascade" ∶ level_by Cascade usual 3501 0 gives one 0x0064)
    -- sums beyond both ends: limits 0, 1, 5 and 8 with hysteresis 200, then limits near the full scales
    ∷ ("B3 high held at PV 0 by a hysteresis above its limit" ∶ level_by Automatic small 0 0x0020 gives one 0x0032)
    ∷ ("B3 high-high held at PV 0 by a hysteresis above its limit" ∶ level_by Automatic small 0 0x0040 gives one 0x0052)
    ∷ ("B2 a high alarm that was off stays off there" ∶ level_by Automatic small 0 0 gives one 0x0012)
    ∷ ("B3 high off at PV 0 where the hysteresis is its limit" ∶ level_by Automatic equal 0 0x0020 gives one 0x0012)
    ∷ ("B3 high held at PV 1 where the hysteresis is its limit" ∶ level_by Automatic equal 1 0x0020 gives one 0x0022)
    ∷ ("B3 low held at 4,095 by limit + hysteresis above it" ∶ level_by Automatic low12 4095 0x0010 gives one 0x0032)
    ∷ ("B3 low-low held at 4,095 by limit + hysteresis above it" ∶ level_by Automatic low12 4095 0x0008 gives one 0x002A)
    ∷ ("B3 low held at 65,535 by limit + hysteresis above 16 bits" ∶ level_by Automatic low16 65535 0x0010 gives one 0x0032)
    ∷ ("B3 low-low held at 65,535 by limit + hysteresis above 16 bits" ∶ level_by Automatic low16 65535 0x0008 gives one 0x002A)
    ∷ ("B3 high held where PV + hysteresis is above 16 bits" ∶ level_by Automatic high16 65400 0x0020 gives one 0x0022)
    ∷ ("B3 high-high held where PV + hysteresis is above 16 bits" ∶ level_by Automatic high16 65400 0x0040 gives one 0x0042)
    ∷ []

deviations_watched : List Case
deviations_watched =
    -- the deviation: setpoint 1,000, limits 50 and 90, hysteresis 10
    ("B4 yellow off at its limit, PV below" ∶ deviation 950 0 gives one 0x0002)
    ∷ ("B4 yellow off at its limit, PV above" ∶ deviation 1050 0 gives one 0x0002)
    ∷ ("B4 yellow on, PV below" ∶ deviation 949 0 gives one 0x0082)
    ∷ ("B4 yellow on, PV above" ∶ deviation 1051 0 gives one 0x0082)
    ∷ ("B3 yellow held, PV below" ∶ deviation 959 0x0080 gives one 0x0082)
    ∷ ("B3 yellow held, PV above" ∶ deviation 1041 0x0080 gives one 0x0082)
    ∷ ("B3 yellow off at limit − hysteresis, PV below" ∶ deviation 960 0x0080 gives one 0x0002)
    ∷ ("B3 yellow off at limit − hysteresis, PV above" ∶ deviation 1040 0x0080 gives one 0x0002)
    ∷ ("B3 yellow not held by the bit of red" ∶ deviation 959 0x0100 gives one 0x0002)
    ∷ ("B4 red off at its limit, PV below" ∶ deviation 910 0 gives one 0x0082)
    ∷ ("B4 red off at its limit, PV above" ∶ deviation 1090 0 gives one 0x0082)
    ∷ ("B4 red on, PV below" ∶ deviation 909 0 gives one 0x0182)
    ∷ ("B4 red on, PV above" ∶ deviation 1091 0 gives one 0x0182)
    ∷ ("B3 red held, PV below" ∶ deviation 919 0x0100 gives one 0x0182)
    ∷ ("B3 red held, PV above" ∶ deviation 1081 0x0100 gives one 0x0182)
    ∷ ("B3 red off at limit − hysteresis, PV below" ∶ deviation 920 0x0100 gives one 0x0082)
    ∷ ("B3 red off at limit − hysteresis, PV above" ∶ deviation 1080 0x0100 gives one 0x0082)
    ∷ ("B3 red not held by the bit of yellow" ∶ deviation 919 0x0080 gives one 0x0082)
    ∷ ("B4 yellow on in Cascade" ∶ deviation_by Cascade usual 949 0 gives one 0x0084)
    ∷ ("B4 red on in Cascade" ∶ deviation_by Cascade usual 1091 0 gives one 0x0184)
    ∷ ("B3 yellow held in Cascade" ∶ deviation_by Cascade usual 1041 0x0080 gives one 0x0084)
    ∷ ("B4 both off in Manual" ∶ deviation_by Manual usual 909 0 gives one 0x0001)
    ∷ ("B3 both off in Manual though they were on" ∶ deviation_by Manual usual 1091 0x0180 gives one 0x0001)
    ∷ ("B3 yellow held at the setpoint by a hysteresis above its limit" ∶ deviation_by Automatic small 1000 0x0080 gives one 0x0482)
    ∷ ("B3 red held at the setpoint by a hysteresis above its limit" ∶ deviation_by Automatic small 1000 0x0100 gives one 0x0502)
    ∷ []

holds : List Case
holds =
    -- an alarm that is not watched, or of the deviation in Manual, is off; at the next sample, watched again, it is not held
    ("B3 low alarms unwatched, then no hold" ∶ twice Automatic 0 0x0018 209 209 gives 0x0002 ∷ 0x0002 ∷ [])
    ∷ ("B2 low alarms unwatched below their limits, then on" ∶ twice Automatic 0x2000 0 99 99 gives 0x0002 ∷ 0x001A ∷ [])
    ∷ ("B3 high unwatched, then no hold" ∶ twice Automatic 0x2000 0x0060 2991 2991 gives 0x0002 ∷ 0x0002 ∷ [])
    ∷ ("B2 high alarms unwatched above their limits, then on" ∶ twice Automatic 0x2000 0 3501 3501 gives 0x0002 ∷ 0x0062 ∷ [])
    ∷ ("B3 yellow unwatched, then no hold" ∶ twice Automatic 0x1000 0x0180 1000 959 gives 0x0002 ∷ 0x0002 ∷ [])
    ∷ ("B4 the deviation unwatched beyond its limits, then on" ∶ twice Automatic 0x1000 0 1000 909 gives 0x0002 ∷ 0x0182 ∷ [])
    ∷ ("B3 yellow in Manual, then no hold" ∶ twice Manual 0x3000 0x0180 1000 959 gives 0x0001 ∷ 0x0002 ∷ [])
    ∷ ("B3 high held in Manual and after it" ∶ twice Manual 0x3000 0x0020 2991 2991 gives 0x0021 ∷ 0x0022 ∷ [])
    ∷ ("B3 red held in Cascade and after it" ∶ twice Cascade 0x3000 0x0100 1000 919 gives 0x0184 ∷ 0x0182 ∷ [])
    ∷ ("B3 high held at the first accepted sample" ∶ first Automatic 0x1000 0x0020 2991 0 gives one 0x0022)
    -- the change: PV 1,000, limit 30
    ∷ ("B5 rate off at its limit, rising" ∶ change Automatic 970 0 gives one 0x0002)
    ∷ ("B5 rate off at its limit, falling" ∶ change Automatic 1030 0 gives one 0x0002)
    ∷ ("B5 rate on, rising" ∶ change Automatic 969 0 gives one 0x0202)
    ∷ ("B5 rate on, falling" ∶ change Automatic 1031 0 gives one 0x0202)
    ∷ ("B5 rate on in Manual" ∶ change Manual 969 0 gives one 0x0201)
    ∷ ("B5 rate on in Cascade" ∶ change Cascade 1031 0 gives one 0x0204)
    ∷ ("B5 rate has no hold" ∶ change Automatic 970 0x0200 gives one 0x0002)
    ∷ ("B5 rate off at the first accepted sample, rising" ∶ first Automatic 0x4000 0 1000 0 gives one 0x0002)
    ∷ ("B5 rate off at the first accepted sample, falling" ∶ first Cascade 0x4000 0 1000 4095 gives one 0x0004)
    ∷ ("B5 rate off at the first accepted sample, in Manual" ∶ first Manual 0x4000 0 1000 0 gives one 0x0001)
    ∷ ("B5 rate unwatched" ∶ one (status Automatic 0x3000 usual 0x0200 (seen_at 1000 1000 0)) gives one 0x0002)
    ∷ []

told : List Case
told =
    -- the settings, with setpoint and PV 1,000
    ("B6 PV limits that rise" ∶ settings Automatic 0x1000 usual gives one 0x0002)
    ∷ ("B6 PV limits that rise by 1" ∶ settings Automatic 0x1000 (levels 999 1000 1001 1002) gives one 0x0002)
    ∷ ("B6 low-low is low" ∶ settings Automatic 0x1000 (levels 200 200 3000 3500) gives one 0x0402)
    ∷ ("B6 low-low above low" ∶ settings Automatic 0x1000 (levels 201 200 3000 3500) gives one 0x0402)
    ∷ ("B6 low is high" ∶ settings Automatic 0x1000 (levels 100 1000 1000 3500) gives one 0x0402)
    ∷ ("B6 low above high, and it is on" ∶ settings Automatic 0x1000 (levels 100 1001 1000 3500) gives one 0x0412)
    ∷ ("B6 high is high-high" ∶ settings Automatic 0x1000 (levels 100 200 3500 3500) gives one 0x0402)
    ∷ ("B6 high above high-high" ∶ settings Automatic 0x1000 (levels 100 200 3501 3500) gives one 0x0402)
    ∷ ("B6 deviation limits that rise, hysteresis below them" ∶ settings Automatic 0x2000 (deviations 11 12 10) gives one 0x0002)
    ∷ ("B6 yellow is red" ∶ settings Automatic 0x2000 (deviations 90 90 10) gives one 0x0402)
    ∷ ("B6 yellow above red" ∶ settings Automatic 0x2000 (deviations 91 90 10) gives one 0x0402)
    ∷ ("B6 hysteresis is yellow" ∶ settings Automatic 0x2000 (deviations 50 90 50) gives one 0x0402)
    ∷ ("B6 hysteresis above yellow" ∶ settings Automatic 0x2000 (deviations 50 90 51) gives one 0x0402)
    ∷ ("B6 PV limits in Manual" ∶ settings Manual 0x1000 (levels 200 200 3000 3500) gives one 0x0401)
    ∷ ("B6 deviation limits in Manual" ∶ settings Manual 0x2000 (deviations 90 90 10) gives one 0x0401)
    ∷ ("B6 PV limits in Cascade" ∶ settings Cascade 0x1000 (levels 100 200 3500 3500) gives one 0x0404)
    ∷ ("B6 deviation limits in Cascade" ∶ settings Cascade 0x2000 (deviations 50 90 50) gives one 0x0404)
    ∷ ("B6 PV limits, both watched" ∶ settings Automatic 0x3000 (levels 200 200 3000 3500) gives one 0x0402)
    ∷ ("B6 deviation limits, both watched" ∶ settings Automatic 0x3000 (deviations 90 90 10) gives one 0x0402)
    ∷ ("B6 PV limits unwatched" ∶ settings Automatic 0x6000 (levels 0 0 0 0) gives one 0x0002)
    ∷ ("B6 deviation limits unwatched" ∶ settings Automatic 0x5000 (deviations 50 50 50) gives one 0x0002)
    ∷ ("B6 nothing watched" ∶ settings Automatic 0x4000 (limits 0 0 0 0 0 0 0 0) gives one 0x0002)
    -- the output: limits 500 and 4,000
    ∷ ("B7 at the low limit, PV below the setpoint" ∶ output Automatic 500 1000 999 gives one 0x0802)
    ∷ ("B7 at the low limit, PV above the setpoint" ∶ output Automatic 500 1000 1001 gives one 0x0802)
    ∷ ("B7 at the high limit, PV below the setpoint" ∶ output Automatic 4000 1000 999 gives one 0x0802)
    ∷ ("B7 at the high limit, PV above the setpoint" ∶ output Automatic 4000 1000 1001 gives one 0x0802)
    ∷ ("B7 one count inside the low limit" ∶ output Automatic 501 1000 999 gives one 0x0002)
    ∷ ("B7 one count inside the high limit" ∶ output Automatic 3999 1000 999 gives one 0x0002)
    ∷ ("B7 at the low limit with the PV at the setpoint" ∶ output Automatic 500 1000 1000 gives one 0x0002)
    ∷ ("B7 at the high limit with the PV at the setpoint" ∶ output Automatic 4000 1000 1000 gives one 0x0002)
    ∷ ("B7 at the low limit in Cascade" ∶ output Cascade 500 1000 999 gives one 0x0804)
    ∷ ("B7 at the high limit in Cascade" ∶ output Cascade 4000 1000 999 gives one 0x0804)
    ∷ ("B7 at the low limit in Manual" ∶ output Manual 500 1000 999 gives one 0x0001)
    ∷ ("B7 at the high limit in Manual" ∶ output Manual 4000 1000 999 gives one 0x0001)
    -- the modes, and what is not kept
    ∷ ("B1 Manual" ∶ output Manual 2000 1000 999 gives one 0x0001)
    ∷ ("B1 Automatic" ∶ output Automatic 2000 1000 999 gives one 0x0002)
    ∷ ("B1 Cascade" ∶ output Cascade 2000 1000 999 gives one 0x0004)
    ∷ ("B1 mode bits of word 6 are not kept" ∶ level 1000 0x0007 gives one 0x0002)
    ∷ ("B6 B7 bits 10 and 11 of word 6 are not kept" ∶ level 1000 0x0C00 gives one 0x0002)
    ∷ ("B8 bits 12 to 15 of word 6 are not kept" ∶ level 1000 0xF000 gives one 0x0002)
    ∷ ("B8 all bits of word 6 on, all watched" ∶ one (status Manual 0x7000 usual 0xFFFF (seen_at 1000 1000 1000)) gives one 0x0001)
    -- low-low and low 4,000, high and high-high 10, PV 100, setpoint 1,000, last PV 0, the output at its low limit
    ∷ ("B8 all alarms on, bits 12 to 15 are 0" ∶ full 0xF000 gives one 0x0FFA)
    ∷ []

parts : List (List Case)
parts = levels_watched ∷ deviations_watched ∷ holds ∷ told ∷ []

pub cases : List Case
cases = together parts

pub computed : failing cases ≡ []
unfolding apart levels_of status_of limits usual levels deviations small equal low12 low16 high16 status one seen_at
    level_by level deviation_by deviation change first settings output full twice levels_watched deviations_watched holds told parts cases
computed = in_parts parts (refl, (refl, (refl, (refl, tt))))
