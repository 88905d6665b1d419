-- The plain loop computed beside the engine (E3 to E6) over lists of accepted samples of loop 1: after each the engine's word 5, n, and where n is above 0
-- the exact output and B, worked out by hand.
use Prim.Native.Nat.{ℕ}
use Prim.Native.String.{String}
use mathlib.Core.Path.{◌≡◌, refl}
use mathlib.Core.Bool.{Bool, true, false, cond, not, ◌&&◌}
use mathlib.Core.List.{List, [], ◌∷◌, ◌++◌}
use lib.Dec.{eqb}
use lib.ListN.{get_or, set, drop, replicate}
use lib.IntN.{ℤ, pos}
use Rattle.computed.specs.Cases.{Case, ◌∶◌gives◌, flag, failing}
use Rattle.computed.specs.Cases.Laws.{together, in_parts}
use Rattle.numbers.specs.Fractions.{Fraction, over, whole, ◌+ᶠ◌, ltᶠ}
use Rattle.reading.specs.Reading.{reading_of}
use Rattle.measuring.specs.Measuring.{measured_of}
use Rattle.carried.specs.declared.record.Carried.{Carried}
use Rattle.carried.specs.Former.{former_of}
use Rattle.carried.specs.Layout.{field_count, record_from, marked_record}
use Rattle.engine.specs.Writing.{written_to}
use Rattle.engine.specs.Steps.{step_of}
use Rattle.engine.proofs.Runs.{after}
use Rattle.plain.specs.Exact.{exact_sum, exact_output, exact_bias}
use Rattle.plain.specs.Plain.{Plain, begun, count_after, exact_moved, plain_after, plain_marked, tolerance}

-- one sample: what is written into the words before it, whether another loop's transfer has set the mark, the raw PV, and what is expected after it: the
-- engine's word 5, n, and where n is above 0 the exact output and B
pub record Sample : Type 0 where
  pub name : String
  pub write : List ℕ → List ℕ
  pub mark : Bool
  pub raw : ℕ
  pub word : ℕ
  pub n : ℕ
  pub output : Fraction
  pub B : Fraction

-- two fractions of one value
same : Fraction → Fraction → ℕ
same x y = flag (not (ltᶠ x y) && not (ltᶠ y x))

-- where n is above 0 the exact output and B are compared too
shown : ℕ → ℕ → List ℕ → List ℕ
shown word n exact = word ∷ n ∷ cond (eqb n 0) [] exact

-- the loop's words (and some behind them), its record, and its plain loop, from sample to sample
rows : List ℕ → Carried → Plain → List Sample → List Case
rows ws c q [] = []
rows ws c q (x ∷ xs) =
    let before = x.write ws in
    let c₀ = cond x.mark (marked_record c) c in
    let q₀ = cond x.mark (plain_marked q) q in
    let r = reading_of before 1 (former_of c₀.state) in
    let s = step_of r c₀ (measured_of r x.raw) in
    let r' = reading_of before 1 (former_of q₀.state) in
    let q' = plain_after q₀ r' (measured_of r' x.raw) in
    let left = written_to before 0 s.written in
    (x.name ∶ shown (get_or left 5 0) q'.n (same q'.output x.output ∷ same q'.B x.B ∷ []) gives shown x.word x.n (1 ∷ 1 ∷ []))
    ∷ rows left s.carried q' xs

-- from words and numbers of a record
from : List ℕ → List ℤ → List Sample → List Case
from ws numbers xs = let c = record_from numbers in rows ws c (begun c) xs

zeros : List ℤ
zeros = replicate field_count (pos 0)

from_reset : List Sample → List Case
from_reset xs = from (replicate 64 0) zeros xs

counts : ℕ → Fraction
counts n = whole (pos n)

-- a sample with n above 0: word 5, n, the exact output and B
exactly : String → (List ℕ → List ℕ) → ℕ → ℕ → ℕ → Fraction → Fraction → Sample
exactly name write raw word n output B = record { name = name; write = write; mark = false; raw = raw; word = word; n = n; output = output; B = B }

-- one with n = 0: word 5
uncounted : String → (List ℕ → List ℕ) → ℕ → ℕ → Sample
uncounted name write raw word = exactly name write raw word 0 (counts 0) (counts 0)

-- one after another loop's transfer
marked : Sample → Sample
marked x = record { name = x.name; write = x.write; mark = true; raw = x.raw; word = x.word; n = x.n; output = x.output; B = x.B }

-- what is written before a sample: nothing, or a word
kept : List ℕ → List ℕ
kept ws = ws

put : ℕ → ℕ → List ℕ → List ℕ
put at value ws = set ws at value

-- an Automatic request, output 2,000, period 1.00, gain 2.00, reset 10.00, high limit 4,095: P is 2 × e, I is e / 5
worked : List ℕ → List ℕ
worked ws = set (set (set (set (set (set ws 0 2) 5 2000) 7 0x0100) 8 0x0200) 9 0x1000) 25 4095

-- ---- E5: lines 7 and 9 of X1, then PV 0 and PV 1,500 as in X2; and the low limit

pub loop_a : List Case
loop_a =
    from_reset
    (exactly "X1 line 7" worked 1000 2000 1 (counts 2000) (counts 2000)
    ∷ exactly "X1 line 9" (put 2 1500) 1000 3100 2 (counts 3100) (counts 2100)
    -- m is 3,000 + 2,100 + 300
    ∷ exactly "E5 above the high limit B is the output less P" kept 0 4095 3 (counts 4095) (counts 1095)
    ∷ exactly "E5 and goes on from there" kept 1500 1095 4 (counts 1095) (counts 1095)
    -- e −2,500: P −5,000, I −500
    ∷ exactly "E5 below the low limit" (put 24 500) 4000 500 5 (counts 500) (counts 5500)
    ∷ exactly "E5 and from there above another high limit" (put 25 3000) 1500 3000 6 (counts 3000) (counts 3000)
    ∷ [])

-- ---- E5: each setting that the terms take, from line 7 with s 1,500

line9 : String → (List ℕ → List ℕ) → ℕ → ℕ → Fraction → Fraction → List Case
line9 name write raw word output B =
    drop 1 (from_reset (exactly "X1 line 7" worked 1000 2000 1 (counts 2000) (counts 2000) ∷ exactly name (λ ws. write (put 2 1500 ws)) raw word 2 output B ∷ []))

pub settings : List Case
settings =
    -- I is 5/3
    line9 "A7 minutes" (put 1 0x0010) 1000 3002 (over (pos 9005) 3) (over (pos 6005) 3)
    ++ line9 "A7 reset 9999" (put 9 0x9999) 1000 3000 (counts 3000) (counts 2000)
    ++ line9 "A7 gain 0" (put 8 0) 1000 2050 (counts 2050) (counts 2050)
    -- e 490: P −980, I −98, D −20
    ++ line9 "A7 reverse, with a rate" (λ ws. put 0 16 (put 10 0x0100 ws)) 1010 942 (counts 942) (counts 1902)
    -- e 490: P 980, I 98, D 20
    ++ line9 "E5 D of p less the last PV" (put 10 0x0100) 1010 3058 (counts 3058) (counts 2098)
    -- e 61: P 122, I 12.2
    ++ line9 "A5 squared" (put 0 128) 1000 2134 (over (pos 10671) 5) (over (pos 10061) 5)
    ++ line9 "A5 in the deadband" (λ ws. put 0 256 (put 19 501 ws)) 1000 2000 (counts 2000) (counts 2000)

-- ---- E4: n. Velocity (bit 5), Manual (bit 0) and freeze (bit 10) make it 0; only an entry starts it again. The PV stands on the setpoint

mode : String → ℕ → ℕ → Sample
mode name bits n = exactly name (put 0 bits) 1000 2000 n (counts 2000) (counts 2000)

pub counting : List Case
counting =
    from_reset
    (exactly "E4 1 at an entry" worked 1000 2000 1 (counts 2000) (counts 2000)
    ∷ mode "E4 2 after it" 0 2
    ∷ mode "E4 0 in velocity form" 32 0
    ∷ mode "E4 0 in velocity form again" 32 0
    ∷ mode "E4 1 as the form changes back" 0 1
    ∷ mode "E4 2 behind it" 0 2
    ∷ mode "E4 0 in Manual" 1 0
    ∷ mode "E4 0 in Manual again" 0 0
    ∷ mode "E4 1 from Manual" 2 1
    ∷ mode "E4 0 with freeze" 1024 0
    ∷ mode "E4 0 as freeze goes off" 0 0
    ∷ mode "E4 0 still" 0 0
    ∷ mode "E4 0 in Manual after it" 1 0
    ∷ mode "E4 0 at an entry with freeze" 0x0402 0
    ∷ mode "E4 0 behind that" 0 0
    ∷ mode "E4 0 at an entry in velocity form" 34 0
    ∷ mode "E4 1 at the next" 0 1
    ∷ [])

-- ---- E4, A4: an entry by the mark: s is not forced, B is word 5. e 500: P 1,000, I 100

pub marks : List Case
marks =
    from_reset
    (exactly "E4 before a mark, line 7" worked 1000 2000 1 (counts 2000) (counts 2000)
    ∷ exactly "E4 before a mark, line 9" (put 2 1500) 1000 3100 2 (counts 3100) (counts 2100)
    ∷ marked (exactly "E4 1 at a mark" (put 5 1200) 1000 2300 1 (counts 2300) (counts 1300))
    ∷ exactly "E4 2 behind it, the mark is off" kept 1000 2400 2 (counts 2400) (counts 1400)
    ∷ marked (uncounted "E4 0 at a mark with freeze" (λ ws. put 0 1024 (put 5 1200 ws)) 1000 2300)
    ∷ uncounted "E4 0 behind that, the mark is off" (put 0 0) 1000 2400
    -- a change of form too, so s is p
    ∷ marked (uncounted "E4 0 at a mark in velocity form" (put 0 32) 1000 2400)
    ∷ exactly "E4 1 as the form changes back after a mark" (put 0 0) 1000 2400 1 (counts 2400) (counts 2400)
    ∷ [])

-- ---- E5: an entry after Manual with Bumpless II, word 5 outside the limits, a rate and another PV. From 4,095, no rate term: e −110, P −220, I −22

settled : List ℕ → List ℕ
settled ws = set (set (set (worked ws) 0 0) 2 900) 10 0x0100

pub entered : List Case
entered =
    from_reset
    (uncounted "E4 0 in Manual, from reset" settled 1000 2000
    ∷ exactly "E5 B is word 5 at the high limit, no D at an entry" (λ ws. put 5 5000 (put 0 10 ws)) 1010 3853 1 (counts 3853) (counts 4073)
    ∷ exactly "E5 and then" kept 1010 3831 2 (counts 3831) (counts 4051)
    ∷ [])
    ++ from_reset
    -- from 500: e 500, P 1,000, I 100
    (exactly "E5 B is word 5 at the low limit" (λ ws. put 2 1500 (put 24 500 (put 5 100 (put 0 10 (worked ws))))) 1000 1600 1 (counts 1600) (counts 600)
    ∷ exactly "E5 B goes on, whatever word 5 is" (put 5 700) 1000 1700 2 (counts 1700) (counts 700)
    ∷ [])

-- ---- Cascade, a rate term at n = 2, and outputs that are not whole. Gain 0.33, reset 7.00, rate 0.50; the setpoint is word 40

followed : List ℕ → List ℕ
followed ws = set (set (set (set (set (set (set (worked ws) 0 4) 5 1000) 8 0x0033) 9 0x0700) 10 0x0050) 26 40) 40 1500

pub cascaded : List Case
cascaded =
    from_reset
    -- e 500, P 165, I 165/7: 1,000 + 165 + 165/7
    (exactly "E5 an entry to Cascade" followed 1000 1189 1 (over (pos 8320) 7) (over (pos 7165) 7)
    -- e 490, P 161.7, D 1.65, I 23.1
    ∷ exactly "E5 D at n = 2" kept 1010 1207 2 (over (pos 168941) 140) (over (pos 146534) 140)
    -- e 390, P 128.7, D 0, I 1,287/70
    ∷ exactly "E5 another setpoint at n = 3" (put 40 1400) 1010 1194 3 (over (pos 167126) 140) (over (pos 149108) 140)
    ∷ [])

-- ---- the same in two formats (M7): 16 bits in and 12 out; 16 out; 12 in and out, with a last PV above F

pub formats : List Case
formats =
    from_reset
    -- 24,000 and 16,000 become 1,500 and 1,000
    (exactly "M7 16 bits in and 12 out" (λ ws. set (set (followed ws) 1 0x0600) 40 24000) 16000 1189 1 (over (pos 8320) 7) (over (pos 7165) 7)
    -- 16,100 becomes 1,006; e 494, P 163.02, D 0.99, I 8,151/350
    ∷ exactly "M7 D of converted PVs" kept 16100 1209 2 (over (pos 120889) 100) (over (pos 52343) 50)
    -- nothing changes scale; e 7,900, P 2,607, D 0, I 2,607/7
    ∷ exactly "M7 16 bits in and out" (λ ws. set (set ws 1 0x2600) 25 65535) 16100 4026 3 (over (pos 1409201) 350) (over (pos 496751) 350)
    -- the last PV 16,100 becomes 4,095; e 1,000, P 330, D −345.675, I 330/7
    ∷ exactly "M7 12 bits in and out, the last PV above F" (λ ws. set (set (set ws 1 0x0400) 25 4095) 40 3000) 2000 2142 4 (over (pos 2998949) 1400) (over (pos 2053004) 1400)
    ∷ [])

-- ---- E3: what a list begins with. The record has bias and output 2,000, PVs 1,000; the words those of X1, setpoint 1,000, no request

begins : List ℕ
begins = set (set (worked (replicate 64 0)) 0 0) 2 1000

lent : ℤ → ℤ → ℤ → ℤ → List ℤ
lent mode form segment mark =
    mode ∷ pos 524288000 ∷ pos 524288000 ∷ pos 1000 ∷ pos 1000 ∷ pos 0 ∷ form ∷ pos 1 ∷ segment ∷ pos 0 ∷ pos 0 ∷ pos 0 ∷ pos 0 ∷ mark ∷ []

-- bit 11 with a profile at 512: ramp 1 ends at 1,100 by 10.00 a second
ramping : List ℕ → List ℕ
ramping ws = set (set (set ws 28 512) 512 1100) 513 0x1000

pub begun_with : List Case
begun_with =
    from begins (lent (pos 1) (pos 0) (pos 0) (pos 0)) (uncounted "E3 begun in Automatic, no entry" kept 1000 2000 ∷ [])
    ++ from begins (lent (pos 0) (pos 0) (pos 0) (pos 0)) (exactly "E3 begun in Manual, an entry" (put 0 2) 1000 2000 1 (counts 2000) (counts 2000) ∷ [])
    ++ from begins (lent (pos 1) (pos 1) (pos 0) (pos 0)) (exactly "E3 begun in velocity form, an entry" kept 1000 2000 1 (counts 2000) (counts 2000) ∷ [])
    ++ from begins (lent (pos 1) (pos 0) (pos 0) (pos 1)) (exactly "E3 begun with a mark, an entry, s stays" (put 2 1500) 1000 3100 1 (counts 3100) (counts 2100) ∷ [])

-- the setpoint is not forced, and moves by 10: e 10, P 20, I 2; then by 10 again: e 20, P 40, I 4
pub profiles : List Case
profiles =
    from (ramping (set (replicate 544 0) 2 1000)) (lent (pos 0) (pos 0) (pos 1) (pos 0))
    (exactly "E3 begun with a profile that runs" (λ ws. put 2 1000 (put 0 0x0802 (worked ws))) 1000 2022 1 (counts 2022) (counts 2002)
    ∷ exactly "E3 its own profile goes on" kept 1000 2046 2 (counts 2046) (counts 2006)
    ∷ [])

-- ---- E3: a plain loop that a transfer marks; E6: 1/2 + (n + 1)/262,144

counted : Plain
counted = record { state = (record_from zeros).state; last = 6; B = counts 7; n = 5; output = counts 8 }

pub tolerances : List Case
tolerances =
    ("E3 a transfer to it sets its mark, and nothing else"
    ∶ (let q = plain_marked counted in flag q.state.mark ∷ q.last ∷ q.n ∷ same q.B (counts 7) ∷ same q.output (counts 8) ∷ []) gives (1 ∷ 6 ∷ 5 ∷ 1 ∷ 1 ∷ []))
    ∷ ("E6 the tolerance at n = 1" ∶ same (tolerance 1) (over (pos 131074) 262144) ∷ [] gives (1 ∷ []))
    ∷ ("E6 one count at n = 131,071" ∶ same (tolerance 131071) (counts 1) ∷ [] gives (1 ∷ []))
    ∷ []

parts : List (List Case)
parts = loop_a ∷ settings ∷ counting ∷ marks ∷ entered ∷ cascaded ∷ formats ∷ begun_with ∷ profiles ∷ tolerances ∷ []

pub cases : List Case
cases = together parts

pub computed : failing cases ≡ []
unfolding after ◌+ᶠ◌ ltᶠ exact_sum exact_output exact_bias begun count_after exact_moved plain_after plain_marked tolerance same shown rows from zeros from_reset counts exactly uncounted marked kept put worked loop_a line9 settings mode counting marks settled entered followed cascaded formats begins lent ramping begun_with profiles counted tolerances parts cases
computed = in_parts parts (refl, (refl, (refl, (refl, (refl, (refl, (refl, (refl, (refl, (refl, tt))))))))))
