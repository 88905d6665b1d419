-- An accepted sample computed of the definitions, rule by rule (A0 to A13; of the profile G3 and G11; M7), with numbers worked out by hand. The loop is
-- that of X1 if nothing else is said: gain 2.00, reset time 10.00 and a period of 1.00, so P is 2 × e and I is e / 5; with a rate time of 1.00 D is 2 × the
-- change.
use Prim.Native.Nat.{ℕ, ◌*◌}
use mathlib.Core.Path.{◌≡◌, refl}
use mathlib.Core.List.{List, [], ◌∷◌, ◌++◌}
use lib.IntN.{ℤ, pos, neg_ℤ}
use Rattle.computed.specs.Cases.{Case, failing}
use Rattle.computed.specs.Cases.Laws.{together, in_parts}
use Rattle.engine.proofs.Runs.{Call, Loop, store, sample, number, word, field, ◌∶◌leaves◌, run, reset, each, in_turn, after}

-- the settings of X1, in Manual: output 2,000, high limit 4,095
tuned : Loop
tuned = run reset (store 5 2000 ∷ store 25 4095 ∷ store 7 0x0100 ∷ store 8 0x0200 ∷ store 9 0x1000 ∷ [])

-- line 7 of X1
begun : Loop
begun = run tuned (store 0 2 ∷ sample 1000 ∷ [])

-- and lines 8 and 9: setpoint 1,500, bias 2,100, output 3,100
line9 : Loop
line9 = run begun (store 2 1500 ∷ sample 1000 ∷ [])

-- a rate time of 1.00, setpoint 1,500, and a sample in Manual with PV 900
manual : Loop
manual = run tuned (store 10 0x0100 ∷ store 2 1500 ∷ sample 900 ∷ [])

-- counts in units, as bias and output are carried
counts : ℕ → ℤ
counts n = pos (n * 262144)

minus : ℕ → ℤ
minus n = neg_ℤ (pos n)

-- ---- A0, A2: what is read first, and the mode

pub modes : List Case
modes = each tuned
    (("A2 Manual is the lowest of three requests" ∶ store 0 7 ∷ sample 1000 ∷ [] leaves (word 0 0 ∷ word 6 1 ∷ field 0 (pos 0) ∷ []))
    ∷ ("A2 Automatic is lower than Cascade" ∶ store 0 6 ∷ sample 1000 ∷ [] leaves (word 0 0 ∷ word 6 2 ∷ field 0 (pos 1) ∷ []))
    ∷ ("A2 the requests are cleared, bits 4 and 15 stay" ∶ store 0 0x8012 ∷ sample 1000 ∷ [] leaves (word 0 0x8010 ∷ []))
    ∷ ("A1 the root in place of the raw PV" ∶ store 0 0x0042 ∷ sample 1000 ∷ [] leaves (word 3 2024 ∷ word 2 2024 ∷ field 3 (pos 2024) ∷ []))
    -- e −6: P −12, I −1.2
    ∷ ("A0 a pointer to word 0 finds the request" ∶ store 0 4 ∷ sample 10 ∷ []
    leaves (word 0 0 ∷ word 2 4 ∷ word 5 1987 ∷ word 6 4 ∷ field 0 (pos 2) ∷ []))
    -- e 100, and 320: P 640, I 64 on 2,020
    ∷ ("A0 a pointer to word 5 finds the output before" ∶ store 26 5 ∷ store 0 4 ∷ sample 1900 ∷ [] leaves (word 2 2000 ∷ word 5 2220 ∷ []))
    ∷ ("A0 and at the next sample the next" ∶ store 26 5 ∷ store 0 4 ∷ sample 1900 ∷ sample 1900 ∷ [] leaves (word 2 2220 ∷ word 5 2724 ∷ []))
    ∷ ("A12 no other word is written"
    ∶ store 1 0x0100 ∷ store 20 21 ∷ store 21 22 ∷ store 22 23 ∷ store 23 24 ∷ store 27 0x0FF0 ∷ store 28 9 ∷ store 29 9 ∷ store 30 31 ∷ store 31 32 ∷ store 32 33 ∷ store 0 2 ∷ sample 1000 ∷ []
    leaves (word 1 0x0100 ∷ word 7 0x0100 ∷ word 8 0x0200 ∷ word 9 0x1000 ∷ word 20 21 ∷ word 21 22 ∷ word 22 23 ∷ word 23 24 ∷ word 24 0 ∷ word 25 4095 ∷ word 26 0 ∷ word 27 0 ∷ word 28 9 ∷ word 29 0 ∷ word 30 31 ∷ word 31 32 ∷ word 32 33 ∷ []))
    ∷ [])

-- ---- A10, A11: Manual

pub held : List Case
held = in_turn tuned
    (("A10 Manual brings word 5 down to the high limit"
    ∶ store 24 500 ∷ store 25 4000 ∷ store 5 5000 ∷ store 4 77 ∷ store 2 1200 ∷ sample 1000 ∷ []
    leaves (word 2 1200 ∷ word 3 1000 ∷ word 4 77 ∷ word 5 4000 ∷ word 6 1 ∷ field 1 (pos 0) ∷ field 2 (pos 0) ∷ []))
    ∷ ("A11 the first sample records p twice, and e" ∶ [] leaves (field 3 (pos 1000) ∷ field 4 (pos 1000) ∷ field 5 (pos 200) ∷ field 7 (pos 1) ∷ []))
    ∷ ("A10 and up to the low limit" ∶ store 5 100 ∷ sample 1010 ∷ [] leaves (word 4 77 ∷ word 5 500 ∷ field 1 (pos 0) ∷ field 2 (pos 0) ∷ []))
    ∷ ("A11 in Manual the last PV moves on, e is recorded" ∶ [] leaves (word 3 1010 ∷ field 3 (pos 1010) ∷ field 4 (pos 1000) ∷ field 5 (pos 190) ∷ []))
    -- 190 × 190 / 4,095 is 8.8
    ∷ ("A11 in Manual e is squared" ∶ store 0 0x0080 ∷ sample 1010 ∷ [] leaves (word 0 0x0080 ∷ field 5 (pos 8) ∷ []))
    ∷ ("A11 in Manual the deadband counts" ∶ store 0 0x0100 ∷ store 19 191 ∷ sample 1010 ∷ [] leaves (field 5 (pos 0) ∷ []))
    ∷ ("A11 in Manual the form is recorded, and no entry" ∶ store 0 0x0020 ∷ sample 1020 ∷ []
    leaves (word 2 1200 ∷ word 5 500 ∷ field 6 (pos 1) ∷ field 1 (pos 0) ∷ field 2 (pos 0) ∷ []))
    ∷ ("A11 in Manual a mark stays, and is no entry" ∶ number 13 (pos 1) ∷ sample 1020 ∷ []
    leaves (field 13 (pos 1) ∷ field 1 (pos 0) ∷ field 2 (pos 0) ∷ []))
    ∷ [])
    ++ in_turn line9
    (("A10 from Automatic to Manual bias and output stay" ∶ store 0 1 ∷ store 5 3500 ∷ sample 900 ∷ []
    leaves (word 2 1500 ∷ word 4 2100 ∷ word 5 3500 ∷ word 6 1 ∷ field 1 (counts 2100) ∷ field 2 (counts 3100) ∷ field 5 (pos 600) ∷ field 0 (pos 0) ∷ []))
    ∷ ("A2 no request keeps Manual" ∶ sample 900 ∷ [] leaves (word 5 3500 ∷ word 6 1 ∷ field 0 (pos 0) ∷ []))
    ∷ ("A4 and back, from word 5" ∶ store 0 2 ∷ sample 950 ∷ []
    leaves (word 2 950 ∷ word 4 3500 ∷ word 5 3500 ∷ word 6 2 ∷ field 1 (counts 3500) ∷ field 2 (counts 3500) ∷ []))
    ∷ ("A11 after an entry the PV before is that of before" ∶ [] leaves (field 3 (pos 950) ∷ field 4 (pos 900) ∷ field 5 (pos 0) ∷ []))
    ∷ ("A2 no request keeps Automatic" ∶ sample 950 ∷ [] leaves (word 5 3500 ∷ word 6 2 ∷ []))
    ∷ [])

-- ---- A4: entries from Manual. The last PV is 900: with it D would be 200

pub entries : List Case
entries = each manual
    (("A4 Bumpless I, s becomes p; A6 no rate" ∶ store 0 2 ∷ sample 1000 ∷ []
    leaves (word 2 1000 ∷ word 4 2000 ∷ word 5 2000 ∷ word 6 2 ∷ field 0 (pos 1) ∷ []))
    ∷ ("A4 Bumpless II, s stays; P and I act, no rate" ∶ store 0 10 ∷ sample 1000 ∷ [] leaves (word 2 1500 ∷ word 4 2100 ∷ word 5 3100 ∷ []))
    ∷ ("A4 from the high limit" ∶ store 5 5000 ∷ store 0 2 ∷ sample 1000 ∷ []
    leaves (word 4 4095 ∷ word 5 4095 ∷ field 1 (counts 4095) ∷ field 2 (counts 4095) ∷ []))
    ∷ ("A4 from the low limit" ∶ store 24 500 ∷ store 5 100 ∷ store 0 2 ∷ sample 1000 ∷ []
    leaves (word 4 500 ∷ word 5 500 ∷ field 1 (counts 500) ∷ field 2 (counts 500) ∷ []))
    -- e 200
    ∷ ("A4 to Cascade nothing is forced" ∶ store 26 600 ∷ store 600 1200 ∷ store 0 4 ∷ sample 1000 ∷ []
    leaves (word 2 1200 ∷ word 4 2040 ∷ word 5 2440 ∷ word 6 4 ∷ []))
    ∷ ("A6 in velocity form I alone acts at an entry" ∶ store 26 600 ∷ store 600 1200 ∷ store 0 0x0024 ∷ sample 1000 ∷ []
    leaves (word 2 1200 ∷ word 4 0 ∷ word 5 2040 ∷ field 1 (counts 2000) ∷ field 2 (counts 2040) ∷ field 6 (pos 1) ∷ []))
    -- D is 2 × (1,000 − 2,000 + 900)
    ∷ ("A11 the next D in velocity form sees the PV before the entry" ∶ store 0 34 ∷ sample 1000 ∷ sample 1000 ∷ [] leaves (word 5 2200 ∷ []))
    ∷ ("A8 at an entry freeze keeps the bias of A4" ∶ store 5 4000 ∷ store 0 0x040A ∷ sample 1000 ∷ []
    leaves (word 4 4000 ∷ word 5 4095 ∷ word 6 0x0802 ∷ []))
    ∷ ("A8 without freeze the bias is the output less P" ∶ store 5 4000 ∷ store 0 10 ∷ sample 1000 ∷ []
    leaves (word 4 3095 ∷ word 5 4095 ∷ word 6 0x0802 ∷ []))
    -- P 6,000
    ∷ ("A8 freeze in Cascade too" ∶ store 26 600 ∷ store 600 4000 ∷ store 0 0x0404 ∷ sample 1000 ∷ []
    leaves (word 4 2000 ∷ word 5 4095 ∷ word 6 0x0804 ∷ []))
    ∷ [])

-- ---- A4: entries by a change of form and by a mark

pub others : List Case
others = in_turn line9
    (("A4 a change of form, s becomes p" ∶ store 10 0x0100 ∷ store 0 0x0020 ∷ store 5 2500 ∷ sample 1100 ∷ []
    leaves (word 2 1100 ∷ word 4 2100 ∷ word 5 2500 ∷ field 1 (counts 2500) ∷ field 2 (counts 2500) ∷ field 6 (pos 1) ∷ []))
    ∷ ("A4 a change back with Bumpless II, s stays" ∶ store 0 8 ∷ store 2 1500 ∷ store 5 2000 ∷ sample 1000 ∷ []
    leaves (word 2 1500 ∷ word 4 2100 ∷ word 5 3100 ∷ field 6 (pos 0) ∷ []))
    ∷ [])
    ++ in_turn manual
    (("A4 a change of form in Cascade forces no setpoint" ∶ store 26 600 ∷ store 600 1200 ∷ store 0 4 ∷ sample 1000 ∷ store 0 0x0020 ∷ store 5 2500 ∷ sample 1100 ∷ []
    leaves (word 2 1200 ∷ word 4 2040 ∷ word 5 2520 ∷ field 1 (counts 2500) ∷ []))
    -- e 100
    ∷ ("A4 a mark in Cascade is an entry" ∶ number 13 (pos 1) ∷ store 5 1000 ∷ sample 1100 ∷ []
    leaves (word 2 1200 ∷ word 5 1020 ∷ field 1 (counts 1000) ∷ field 13 (pos 0) ∷ []))
    ∷ [])
    ++ in_turn line9
    -- e 400: P 800, I 80, no D
    (("A4 by a mark alone s stays, and bias and output are word 5" ∶ store 10 0x0100 ∷ number 13 (pos 1) ∷ store 5 2500 ∷ sample 1100 ∷ []
    leaves (word 2 1500 ∷ word 4 2580 ∷ word 5 3380 ∷ []))
    ∷ ("A11 the mark is cleared outside Manual" ∶ [] leaves (field 13 (pos 0) ∷ []))
    ∷ ("A10 in Automatic word 5 from outside is overwritten" ∶ store 5 7 ∷ sample 1100 ∷ [] leaves (word 4 2660 ∷ word 5 3460 ∷ []))
    ∷ ("A4 by a mark and a change of form s becomes p" ∶ number 13 (pos 1) ∷ store 0 0x0020 ∷ store 5 2500 ∷ sample 1000 ∷ []
    leaves (word 2 1000 ∷ word 5 2500 ∷ field 13 (pos 0) ∷ []))
    ∷ ("A4 by a mark and from Manual s becomes p" ∶ store 0 1 ∷ number 13 (pos 1) ∷ sample 1000 ∷ store 0 2 ∷ store 2 1500 ∷ sample 1000 ∷ []
    leaves (word 2 1000 ∷ word 5 2500 ∷ field 13 (pos 0) ∷ []))
    ∷ [])
    ++ each line9
    (("A4 a change of form from Cascade to Automatic, s becomes p" ∶ number 0 (pos 2) ∷ store 0 0x0022 ∷ store 5 2500 ∷ sample 1100 ∷ []
    leaves (word 2 1100 ∷ word 5 2500 ∷ []))
    ∷ ("A13 a transfer with a change of form is an entry" ∶ store 26 37 ∷ store 37 1400 ∷ store 57 4095 ∷ store 0 0x0024 ∷ store 5 2500 ∷ sample 1100 ∷ []
    leaves (word 2 1100 ∷ word 4 2100 ∷ word 5 2500 ∷ field 1 (counts 2500) ∷ []))
    ∷ [])

-- ---- A3, A13: between Automatic and Cascade there is no entry, and at a transfer s is p. Loop 2 is the major one, its word 5 at 37, its limits at 56, 57

pub cascade : List Case
cascade = in_turn line9
    -- e 200: I 40 on 2,100
    (("A4 Automatic to Cascade is no entry, s is the word pointed to" ∶ store 0 12 ∷ store 26 600 ∷ store 600 1200 ∷ store 5 7 ∷ sample 1000 ∷ []
    leaves (word 2 1200 ∷ word 4 2140 ∷ word 5 2540 ∷ word 6 4 ∷ field 0 (pos 2) ∷ []))
    -- e 300
    ∷ ("A2 no request keeps Cascade" ∶ store 600 1300 ∷ sample 1000 ∷ [] leaves (word 2 1300 ∷ word 4 2200 ∷ word 5 2800 ∷ word 6 4 ∷ []))
    ∷ ("A4 Cascade to Automatic is no entry, s is word 2" ∶ store 0 2 ∷ sample 1000 ∷ [] leaves (word 2 1300 ∷ word 4 2260 ∷ word 5 2860 ∷ word 6 2 ∷ []))
    ∷ ("A13 at a transfer p is taken as s" ∶ store 0 4 ∷ store 26 37 ∷ store 37 1400 ∷ store 57 4095 ∷ store 5 7 ∷ sample 1100 ∷ []
    leaves (word 2 1100 ∷ word 4 2260 ∷ word 5 2260 ∷ word 6 4 ∷ field 0 (pos 2) ∷ field 5 (pos 0) ∷ []))
    -- e 50
    ∷ ("A3 and then the word pointed to" ∶ store 37 1150 ∷ sample 1100 ∷ [] leaves (word 2 1150 ∷ word 4 2270 ∷ word 5 2370 ∷ []))
    ∷ [])

-- ---- A6, B5: the first accepted sample of a loop, without an entry: a lent record in Automatic, bias and output 2,000, with other PVs and another error

lent : Loop
lent = run tuned (number 0 (pos 1) ∷ number 1 (counts 2000) ∷ number 2 (counts 2000) ∷ number 3 (pos 500) ∷ number 4 (pos 400) ∷ number 5 (pos 77) ∷ store 5 9 ∷ store 10 0x0100 ∷ store 2 1500 ∷ [])

pub firsts : List Case
firsts = in_turn lent
    (("A6 the first sample without an entry has no past" ∶ sample 1000 ∷ [] leaves (word 2 1500 ∷ word 4 2100 ∷ word 5 3100 ∷ word 6 2 ∷ []))
    ∷ ("A11 and records p twice" ∶ [] leaves (field 3 (pos 1000) ∷ field 4 (pos 1000) ∷ field 5 (pos 500) ∷ field 7 (pos 1) ∷ []))
    -- e 490: P 980, I 98, D 20
    ∷ ("A6 the second sample has one" ∶ sample 1010 ∷ [] leaves (word 4 2198 ∷ word 5 3158 ∷ field 3 (pos 1010) ∷ field 4 (pos 1000) ∷ []))
    -- e 470: P 940, I 94, D 40
    ∷ ("A7 in position form D is of p less the last PV" ∶ sample 1030 ∷ [] leaves (word 4 2292 ∷ word 5 3192 ∷ []))
    ∷ [])
    ++ in_turn lent
    (("A6 nor in velocity form" ∶ number 6 (pos 1) ∷ store 0 0x0020 ∷ sample 1000 ∷ [] leaves (word 2 1500 ∷ word 5 2100 ∷ []))
    -- P −20, I 98, D 20
    ∷ ("A6 the second has one there too" ∶ sample 1010 ∷ [] leaves (word 5 2158 ∷ []))
    ∷ [])
    ++ in_turn tuned
    (("B5 no rate alarm at the first accepted sample" ∶ store 17 10 ∷ store 0 0x4002 ∷ sample 1000 ∷ [] leaves (word 6 2 ∷ []))
    ∷ ("B5 none at its limit" ∶ sample 1010 ∷ [] leaves (word 6 2 ∷ []))
    ∷ ("B5 above it" ∶ sample 1021 ∷ [] leaves (word 6 0x0202 ∷ []))
    ∷ ("B5 in Manual too" ∶ store 0 0x4001 ∷ sample 1010 ∷ [] leaves (word 6 0x0201 ∷ []))
    ∷ ("B5 at an entry too" ∶ store 0 0x4002 ∷ sample 1021 ∷ [] leaves (word 6 0x0202 ∷ []))
    ∷ [])
    ++ each lent (("B5 nor at a first sample without an entry" ∶ store 17 10 ∷ store 0 0x4000 ∷ sample 1000 ∷ [] leaves (word 6 2 ∷ [])) ∷ [])

-- ---- B3, B7: what the status word takes of a sample

pub status : List Case
status = in_turn tuned
    (("B2 high off at its limit" ∶ store 11 100 ∷ store 12 200 ∷ store 13 1000 ∷ store 14 3500 ∷ store 18 10 ∷ store 0 0x1002 ∷ sample 1000 ∷ []
    leaves (word 6 2 ∷ []))
    ∷ ("B2 on above it" ∶ sample 1001 ∷ [] leaves (word 6 0x0022 ∷ []))
    ∷ ("B3 held by word 6 as it stood" ∶ sample 991 ∷ [] leaves (word 6 0x0022 ∷ []))
    ∷ ("B3 off again" ∶ sample 990 ∷ [] leaves (word 6 2 ∷ []))
    ∷ [])
    ++ each tuned
    (("B7 by word 5 as the sample leaves it" ∶ store 0 2 ∷ sample 1000 ∷ store 2 1500 ∷ store 5 4095 ∷ sample 1000 ∷ []
    leaves (word 5 3100 ∷ word 6 2 ∷ []))
    ∷ ("B7 none where s is p" ∶ store 5 4095 ∷ store 0 2 ∷ sample 1000 ∷ [] leaves (word 5 4095 ∷ word 6 2 ∷ []))
    ∷ [])

-- ---- A5, A7, A8, A10 in position form

pub terms : List Case
terms = each begun
    -- I is 5/3: 436,907 units
    (("A7 reset in minutes" ∶ store 1 0x0010 ∷ store 2 1500 ∷ sample 1000 ∷ [] leaves (word 4 2002 ∷ word 5 3002 ∷ field 1 (pos 524724907) ∷ []))
    ∷ ("A7 none at 9999, in minutes too" ∶ store 1 0x0010 ∷ store 9 0x9999 ∷ store 2 1500 ∷ sample 1000 ∷ [] leaves (word 4 2000 ∷ word 5 3000 ∷ []))
    -- 2,000 − 980 − 98 + 20
    ∷ ("A7 reverse, all three terms" ∶ store 10 0x0100 ∷ store 0 16 ∷ store 2 1500 ∷ sample 1010 ∷ [] leaves (word 4 1902 ∷ word 5 942 ∷ []))
    -- −61: P −122, I −12.2
    ∷ ("A5 squared keeps its sign" ∶ store 0 128 ∷ sample 1500 ∷ [] leaves (word 4 1988 ∷ word 5 1866 ∷ field 5 (minus 61) ∷ []))
    ∷ ("A5 below the deadband nothing is squared" ∶ store 0 0x0180 ∷ store 19 501 ∷ sample 1500 ∷ [] leaves (word 5 2000 ∷ field 5 (pos 0) ∷ []))
    ∷ ("A5 at the deadband it is squared whole" ∶ store 0 0x0180 ∷ store 19 500 ∷ sample 1500 ∷ [] leaves (word 5 1866 ∷ field 5 (minus 61) ∷ []))
    ∷ ("A11 the error is recorded with its sign" ∶ sample 1500 ∷ [] leaves (word 5 900 ∷ field 5 (minus 500) ∷ []))
    -- P −6,000
    ∷ ("A8 below the low limit; A10 word 4 at most G" ∶ store 24 500 ∷ sample 4000 ∷ []
    leaves (word 4 4095 ∷ word 5 500 ∷ word 6 0x0802 ∷ field 1 (counts 6500) ∷ field 2 (counts 500) ∷ []))
    ∷ ("A8 with freeze the bias stays there" ∶ store 0 0x0400 ∷ sample 4000 ∷ [] leaves (word 4 2000 ∷ word 5 0 ∷ field 1 (counts 2000) ∷ []))
    -- P 6,000
    ∷ ("A8 above the high limit; A10 word 4 at least 0" ∶ store 25 3000 ∷ store 2 4000 ∷ sample 1000 ∷ []
    leaves (word 4 0 ∷ word 5 3000 ∷ word 6 0x0802 ∷ field 1 (neg_ℤ (counts 3000)) ∷ field 2 (counts 3000) ∷ []))
    ∷ ("A8 on the limit the bias moves, with freeze too" ∶ store 0 0x0400 ∷ store 8 0x0100 ∷ store 25 3100 ∷ store 2 2000 ∷ sample 1000 ∷ []
    leaves (word 4 2100 ∷ word 5 3100 ∷ []))
    -- P is 0.5 and 0.49
    ∷ ("A10 a half in word 5 is rounded up" ∶ store 8 1 ∷ store 9 0x9999 ∷ store 2 1050 ∷ sample 1000 ∷ []
    leaves (word 4 2000 ∷ word 5 2001 ∷ field 2 (pos 524419072) ∷ []))
    ∷ ("A10 less than a half is not" ∶ store 8 1 ∷ store 9 0x9999 ∷ store 2 1049 ∷ sample 1000 ∷ [] leaves (word 5 2000 ∷ []))
    -- I is 0.5 and 0.4
    ∷ ("A10 a half in word 4 is rounded up" ∶ store 8 0 ∷ store 2 1005 ∷ sample 1000 ∷ [] leaves (word 4 2001 ∷ word 5 2001 ∷ []))
    ∷ ("A10 less than a half is not, in word 4" ∶ store 8 0 ∷ store 2 1004 ∷ sample 1000 ∷ [] leaves (word 4 2000 ∷ word 5 2000 ∷ []))
    ∷ [])

-- ---- A9: velocity form with a rate time of 1.00, from 2,000 with s 1,000

pub velocity : List Case
velocity = in_turn tuned
    (("A9 velocity form, P of e − last error and I" ∶ store 10 0x0100 ∷ store 4 77 ∷ store 0 34 ∷ sample 1000 ∷ store 2 1500 ∷ sample 1000 ∷ []
    leaves (word 5 3100 ∷ field 1 (counts 2000) ∷ field 2 (counts 3100) ∷ []))
    ∷ ("A10 in velocity form word 4 stays" ∶ [] leaves (word 4 77 ∷ []))
    -- P −200, I 80, D 2 × (1,100 − 2,000 + 1,000)
    ∷ ("A9 a first PV that moves" ∶ sample 1100 ∷ [] leaves (word 5 2780 ∷ field 5 (pos 400) ∷ []))
    -- P −400, I 40, D 2 × (1,300 − 2,200 + 1,000)
    ∷ ("A9 a second: D of the second difference" ∶ sample 1300 ∷ [] leaves (word 5 2220 ∷ field 5 (pos 200) ∷ []))
    -- P −100, I 30, D 2 × (1,350 − 2,600 + 1,100)
    ∷ ("A9 and a third" ∶ sample 1350 ∷ [] leaves (word 5 2450 ∷ field 3 (pos 1350) ∷ field 4 (pos 1300) ∷ []))
    -- D 2 × (1,350 − 2,700 + 1,300)
    ∷ ("A7 no I at 9999, in velocity form too" ∶ store 9 0x9999 ∷ sample 1350 ∷ [] leaves (word 5 2550 ∷ []))
    -- P −100, D 2 × (1,400 − 2,700 + 1,350)
    ∷ ("A7 reverse in velocity form" ∶ store 0 0x0030 ∷ sample 1400 ∷ [] leaves (word 5 2750 ∷ []))
    -- D 2 × (1,400 − 2,800 + 1,350)
    ∷ ("A9 the carried output grows, whatever word 5 is" ∶ store 0 0x0020 ∷ store 5 7 ∷ sample 1400 ∷ [] leaves (word 5 2850 ∷ []))
    -- P 2,800, D −2,800
    ∷ ("A9 up to the high limit" ∶ store 25 3000 ∷ sample 0 ∷ [] leaves (word 5 3000 ∷ word 6 0x0802 ∷ field 1 (counts 2000) ∷ field 2 (counts 3000) ∷ []))
    -- P −8,000, D 10,800
    ∷ ("A9 down to the low limit" ∶ store 24 500 ∷ sample 4000 ∷ [] leaves (word 5 500 ∷ word 6 0x0802 ∷ field 1 (counts 2000) ∷ field 2 (counts 500) ∷ []))
    ∷ [])

-- without a rate time: the settings of the terms, Cascade, a transfer and changes of format

pub velocity_settings : List Case
velocity_settings = each tuned
    -- P 1,000, I 100, and I 100 again
    (("A9 freeze does nothing in velocity form" ∶ store 0 0x0422 ∷ sample 1000 ∷ store 2 1500 ∷ sample 1000 ∷ sample 1000 ∷ []
    leaves (word 5 3200 ∷ field 1 (counts 2000) ∷ []))
    -- P 1,000, I 5/3: 436,907 units
    ∷ ("A7 reset in minutes in velocity form" ∶ store 1 0x0010 ∷ store 0 34 ∷ sample 1000 ∷ store 2 1500 ∷ sample 1000 ∷ []
    leaves (word 5 3002 ∷ field 2 (pos 786868907) ∷ []))
    -- I is 1.00 × 500 / 10
    ∷ ("A7 gain 0 in velocity form: I, no P" ∶ store 8 0 ∷ store 0 34 ∷ sample 1000 ∷ store 2 1500 ∷ sample 1000 ∷ [] leaves (word 5 2050 ∷ []))
    ∷ ("A7 reverse in velocity form, P and I" ∶ store 0 0x0032 ∷ sample 1000 ∷ store 2 1500 ∷ sample 1000 ∷ [] leaves (word 5 900 ∷ []))
    ∷ [])

pub velocity_changes : List Case
velocity_changes = each tuned
    -- I 40 at the entry; P 2 × (300 − 200), I 60
    (("A9 velocity form in Cascade, P of e − last error" ∶ store 26 600 ∷ store 600 1200 ∷ store 0 0x0024 ∷ sample 1000 ∷ store 600 1300 ∷ sample 1000 ∷ []
    leaves (word 2 1300 ∷ word 5 2300 ∷ []))
    -- 3,100 with a last error of 500; then e is 0: P −1,000
    ∷ ("A13 a transfer in velocity form, P of e − last error"
    ∶ store 0 34 ∷ sample 1000 ∷ store 2 1500 ∷ sample 1000 ∷ store 26 37 ∷ store 37 1400 ∷ store 57 4095 ∷ store 0 0x0024 ∷ sample 1100 ∷ []
    leaves (word 2 1100 ∷ word 5 2100 ∷ field 5 (pos 0) ∷ []))
    -- bit 10 on, 16 bits in and out, then 12: P 0.10 × (0 − 20,000), on 4,095
    ∷ ("M7 a change of format, the last error as it is carried"
    ∶ store 1 0x2600 ∷ store 0 34 ∷ sample 16000 ∷ store 2 36000 ∷ sample 16000 ∷ store 8 0x0010 ∷ store 1 0x0400 ∷ store 2 1000 ∷ sample 1000 ∷ []
    leaves (word 5 2095 ∷ []))
    -- 16 bits, then 12: D 0.10 × (1,000 − 32,000 + 16,000)
    ∷ ("M7 a change of format with bit 10 off, both last PVs as they are carried"
    ∶ store 1 0x0200 ∷ store 0 34 ∷ sample 16000 ∷ sample 16000 ∷ store 8 0 ∷ store 10 0x0010 ∷ store 1 0 ∷ store 2 1000 ∷ sample 1000 ∷ []
    leaves (word 5 3500 ∷ []))
    ∷ [])

-- ---- G3, G11: a profile at 512. Ramp 1 ends at 1,100 by 10.00 a second; soak 2 has 0.1 minute and a deviation of 30. P alone acts

ramping : Loop
ramping = run tuned (store 9 0x9999 ∷ store 2 1000 ∷ store 28 512 ∷ store 512 1100 ∷ store 513 0x1000 ∷ store 514 0x0001 ∷ store 515 30 ∷ [])

pub profile : List Case
profile = in_turn ramping
    (("G3 Start in Manual" ∶ store 0 0x0801 ∷ store 27 1 ∷ sample 900 ∷ []
    leaves (word 2 1000 ∷ word 27 0x0100 ∷ word 29 0 ∷ field 8 (pos 1) ∷ field 5 (pos 100) ∷ []))
    ∷ ("G3 in Manual a ramp moves before the error is taken" ∶ sample 900 ∷ []
    leaves (word 2 1010 ∷ word 5 2000 ∷ word 27 0x0100 ∷ field 5 (pos 110) ∷ []))
    ∷ ("G11 where a profile runs an entry forces no setpoint" ∶ store 0 0x0802 ∷ sample 1000 ∷ []
    leaves (word 2 1020 ∷ word 4 2000 ∷ word 5 2040 ∷ word 27 0x0100 ∷ []))
    ∷ ("G3 Hold in Manual" ∶ store 27 2 ∷ store 0 0x0801 ∷ sample 1000 ∷ [] leaves (word 2 1020 ∷ word 27 0x0140 ∷ field 9 (pos 1) ∷ []))
    ∷ ("G11 nor where it is held" ∶ store 0 0x0802 ∷ store 5 2000 ∷ sample 1000 ∷ [] leaves (word 2 1020 ∷ word 5 2040 ∷ word 27 0x0140 ∷ []))
    ∷ [])

-- from there: a held profile in segment 1, setpoint 1,020
waiting : Loop
waiting = run ramping (number 0 (pos 1) ∷ number 1 (counts 2000) ∷ number 7 (pos 1) ∷ number 8 (pos 1) ∷ number 9 (pos 1) ∷ store 2 1020 ∷ [])

pub waits : List Case
waits = in_turn waiting
    (("G3 in Cascade profile, words 27 and 29 wait" ∶ store 0 0x080C ∷ store 26 600 ∷ store 600 1300 ∷ store 27 0x0144 ∷ store 28 511 ∷ store 29 9 ∷ sample 1000 ∷ []
    leaves (word 2 1300 ∷ word 5 2600 ∷ word 27 0x0144 ∷ word 29 9 ∷ field 8 (pos 1) ∷ field 9 (pos 1) ∷ []))
    ∷ ("G3 afterwards the command that waited" ∶ store 0 0x0802 ∷ store 28 512 ∷ sample 1000 ∷ []
    leaves (word 2 1300 ∷ word 27 0x0100 ∷ word 29 0 ∷ field 9 (pos 0) ∷ []))
    ∷ ("G3 and the ramp goes on from word 2" ∶ sample 1000 ∷ [] leaves (word 2 1290 ∷ word 5 2580 ∷ []))
    ∷ [])

-- a ramp in Automatic, setpoint 1,290
pub ends : List Case
ends = in_turn (run ramping (number 0 (pos 1) ∷ number 1 (counts 2000) ∷ number 7 (pos 1) ∷ number 8 (pos 1) ∷ store 0 0x0800 ∷ store 2 1290 ∷ []))
    (("G4 511 ends it, with word 29 1, and Start is lost" ∶ store 28 511 ∷ store 27 1 ∷ sample 1000 ∷ []
    leaves (word 2 1290 ∷ word 27 0 ∷ word 29 1 ∷ field 8 (pos 0) ∷ []))
    ∷ ("G2 word 29 is 0 again at a good address" ∶ store 28 512 ∷ store 27 1 ∷ sample 1000 ∷ []
    leaves (word 2 1290 ∷ word 27 0x0100 ∷ word 29 0 ∷ field 8 (pos 1) ∷ []))
    ∷ ("G4 993 ends it, with word 29 2" ∶ store 28 993 ∷ sample 1000 ∷ [] leaves (word 2 1290 ∷ word 27 0 ∷ word 29 2 ∷ field 8 (pos 0) ∷ []))
    ∷ ("G2 with bit 11 off word 29 is 0" ∶ store 0 0 ∷ sample 1000 ∷ [] leaves (word 29 0 ∷ []))
    ∷ [])

pub profile_entries : List Case
profile_entries = each ramping
    (("G11 with bit 11 and no profile an entry forces s to p" ∶ store 2 1500 ∷ store 0 0x0802 ∷ sample 1000 ∷ []
    leaves (word 2 1000 ∷ word 5 2000 ∷ word 27 0 ∷ []))
    ∷ ("G11 Start at an entry takes p" ∶ store 2 1500 ∷ store 27 1 ∷ store 0 0x0802 ∷ sample 1000 ∷ []
    leaves (word 2 1000 ∷ word 5 2000 ∷ word 27 0x0100 ∷ field 8 (pos 1) ∷ []))
    ∷ ("G11 and moves from there" ∶ store 2 1500 ∷ store 27 1 ∷ store 0 0x0802 ∷ sample 1000 ∷ sample 1000 ∷ [] leaves (word 2 1010 ∷ word 5 2020 ∷ []))
    ∷ ("G11 Start at an entry with Bumpless II takes word 2" ∶ store 2 1500 ∷ store 27 1 ∷ store 0 0x080A ∷ sample 1000 ∷ []
    leaves (word 2 1500 ∷ word 5 3000 ∷ word 27 0x0100 ∷ []))
    ∷ [])

pub runs : List Case
runs = each ramping
    (("G11 Start at an entry where one runs takes word 2" ∶ number 8 (pos 1) ∷ store 2 1500 ∷ store 27 1 ∷ store 0 0x0802 ∷ sample 1000 ∷ []
    leaves (word 2 1500 ∷ word 5 3000 ∷ word 27 0x0100 ∷ []))
    ∷ ("G11 with bit 11 off none runs" ∶ number 8 (pos 1) ∷ store 2 1500 ∷ store 0 2 ∷ sample 1000 ∷ []
    leaves (word 2 1000 ∷ word 29 0 ∷ field 8 (pos 0) ∷ []))
    ∷ ("G11 nor with 511" ∶ number 8 (pos 1) ∷ store 2 1500 ∷ store 28 511 ∷ store 0 0x0802 ∷ sample 1000 ∷ []
    leaves (word 2 1000 ∷ word 29 1 ∷ field 8 (pos 0) ∷ []))
    ∷ ("G11 nor with 993" ∶ number 8 (pos 1) ∷ store 2 1500 ∷ store 28 993 ∷ store 0 0x0802 ∷ sample 1000 ∷ []
    leaves (word 2 1000 ∷ word 29 2 ∷ field 8 (pos 0) ∷ []))
    ∷ [])

pub running : List Case
running = each ramping
    (("G11 in a soak an entry forces no setpoint" ∶ number 8 (pos 2) ∷ store 2 1500 ∷ store 0 0x0802 ∷ sample 1000 ∷ []
    leaves (word 2 1500 ∷ word 5 3000 ∷ word 27 0x0220 ∷ field 12 (pos 100) ∷ []))
    ∷ ("G11 nor at a Jog that completes it" ∶ number 8 (pos 16) ∷ store 27 8 ∷ store 2 1500 ∷ store 0 0x0802 ∷ sample 1000 ∷ []
    leaves (word 2 1500 ∷ word 5 3000 ∷ word 27 0x0010 ∷ field 8 (pos 0) ∷ []))
    ∷ ("G11 none runs that has completed" ∶ number 10 (pos 1) ∷ store 2 1500 ∷ store 0 0x0802 ∷ sample 1000 ∷ []
    leaves (word 2 1000 ∷ word 5 2000 ∷ word 27 0x0010 ∷ []))
    ∷ [])

pub soaks : List Case
soaks = each ramping
    (("G7 by the period" ∶ number 8 (pos 1) ∷ store 7 0x0050 ∷ store 0 0x0801 ∷ sample 1000 ∷ [] leaves (word 2 1005 ∷ []))
    ∷ ("G10 in a soak the deviation at its limit" ∶ number 8 (pos 2) ∷ store 0 0x0801 ∷ sample 970 ∷ []
    leaves (word 2 1000 ∷ word 27 0x0200 ∷ field 12 (pos 100) ∷ []))
    ∷ ("G10 in a soak the deviation above it" ∶ number 8 (pos 2) ∷ store 0 0x0801 ∷ sample 969 ∷ [] leaves (word 2 1000 ∷ word 27 0x0220 ∷ []))
    ∷ ("M7 in a soak the deviation is in counts of the input" ∶ number 8 (pos 2) ∷ store 1 0x0600 ∷ store 0 0x0801 ∷ sample 970 ∷ [] leaves (word 27 0x0200 ∷ []))
    -- from 1,095 to the end, 31 from p
    ∷ ("G10 by s as this sample leaves it" ∶ number 8 (pos 1) ∷ store 2 1095 ∷ store 0 0x0801 ∷ sample 1069 ∷ []
    leaves (word 2 1100 ∷ word 27 0x0220 ∷ field 8 (pos 2) ∷ []))
    -- from 1,000 to 1,010, 20 from p
    ∷ ("B4 by s as the profile leaves it"
    ∶ number 0 (pos 1) ∷ number 7 (pos 1) ∷ number 8 (pos 1) ∷ store 15 15 ∷ store 16 100 ∷ store 18 5 ∷ store 0 0x2800 ∷ sample 990 ∷ []
    leaves (word 2 1010 ∷ word 5 40 ∷ word 6 0x0082 ∷ []))
    ∷ [])

-- ---- X6, M7: two formats, mode 2 and the PV at the entry as given

with : ℕ → ℕ → Loop
with mode2 pv = run tuned (store 1 mode2 ∷ store 0 2 ∷ sample pv ∷ [])

-- lines 9 and 10 of X6
line10 : List Call
line10 = store 2 24000 ∷ sample 16000 ∷ []

-- 16 bits in and 12 out: 16,000 and 24,000 are 1,000 and 1,500. 12 bits in and 16 out: 1,000 and 1,500 are 16,004 and 24,005
pub formats : List Case
formats = each (with 0x0600 16000)
    (("X6 line 10" ∶ line10 leaves (word 2 24000 ∷ word 3 16000 ∷ word 4 2100 ∷ word 5 3100 ∷ word 6 2 ∷ field 3 (pos 16000) ∷ field 5 (pos 500) ∷ []))
    ∷ ("A5 a deadband of 8,001 counts of the input" ∶ store 0 256 ∷ store 19 8001 ∷ line10 leaves (word 5 2000 ∷ []))
    ∷ ("A5 a deadband of 8,000" ∶ store 0 256 ∷ store 19 8000 ∷ line10 leaves (word 5 3100 ∷ []))
    -- 500 × 500 / 4,095 is 61
    ∷ ("A5 squared over G" ∶ store 0 128 ∷ line10 leaves (word 5 2134 ∷ []))
    -- 24,000 is 1,500: P −1,000, I −100; squared P −122, I −12.2
    ∷ ("A5 an error below 0" ∶ sample 24000 ∷ [] leaves (word 4 1900 ∷ word 5 900 ∷ field 5 (minus 500) ∷ []))
    ∷ ("A5 squared, below 0" ∶ store 0 128 ∷ sample 24000 ∷ [] leaves (word 4 1988 ∷ word 5 1866 ∷ field 5 (minus 61) ∷ []))
    -- 16,000 and 16,008 are both 1,000
    ∷ ("B7 s is not p in counts of the input" ∶ store 25 2000 ∷ store 2 16008 ∷ sample 16000 ∷ [] leaves (word 5 2000 ∷ word 6 0x0802 ∷ []))
    ∷ ("B5 by counts of the input" ∶ store 17 7 ∷ store 0 0x4000 ∷ sample 16008 ∷ [] leaves (word 6 0x0202 ∷ []))
    ∷ ("B4 by counts of the input" ∶ store 15 7999 ∷ store 16 8000 ∷ store 18 10 ∷ store 0 0x2000 ∷ line10 leaves (word 6 0x0082 ∷ []))
    -- 12 bits in and out, the last PV 16,000 above them: D is 0.20 × (1,000 − 4,095)
    ∷ ("M7 a change of format, the last PV above F" ∶ store 10 0x0010 ∷ store 1 0x0400 ∷ store 2 1000 ∷ sample 1000 ∷ []
    leaves (word 4 2000 ∷ word 5 2619 ∷ []))
    ∷ [])
    -- e 8,001; after two samples the bias is 5,200.4, the output 21,202.4
    ++ each (with 0x2400 1000) (("M7 12 bits in and 16 out; A10 word 4 up to G" ∶ store 25 65535 ∷ store 2 1500 ∷ sample 1000 ∷ sample 1000 ∷ []
    leaves (word 4 5200 ∷ word 5 21202 ∷ [])) ∷ [])
    -- 17,600 and 19,200 are 1,100 and 1,200. P 800, I 80, D 200; P −200, I 60, D 0; I 60, D −200
    ++ in_turn tuned
    (("M7 velocity form, both last PVs converted" ∶ store 10 0x0100 ∷ store 1 0x0600 ∷ store 0 34 ∷ sample 16000 ∷ store 2 24000 ∷ sample 17600 ∷ []
    leaves (word 5 2680 ∷ []))
    ∷ ("M7 the same, a second" ∶ sample 19200 ∷ [] leaves (word 5 2540 ∷ []))
    ∷ ("M7 the same, a third" ∶ sample 19200 ∷ [] leaves (word 5 2800 ∷ field 3 (pos 19200) ∷ field 4 (pos 19200) ∷ []))
    ∷ [])

parts : List (List Case)
parts = modes ∷ held ∷ entries ∷ others ∷ cascade ∷ firsts ∷ status ∷ terms ∷ velocity ∷ velocity_settings ∷ velocity_changes ∷ profile ∷ waits ∷ ends ∷ profile_entries ∷ runs ∷ running ∷ soaks ∷ formats ∷ []

pub cases : List Case
cases = together parts

pub computed : failing cases ≡ []
unfolding after tuned begun line9 manual counts minus modes held entries others cascade lent firsts status terms velocity velocity_settings velocity_changes ramping profile waiting waits ends profile_entries runs running soaks with line10 formats parts cases
computed = in_parts parts (refl, (refl, (refl, (refl, (refl, (refl, (refl, (refl, (refl, (refl, (refl, (refl, (refl, (refl, (refl, (refl, (refl, (refl, (refl, tt)))))))))))))))))))
