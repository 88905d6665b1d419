-- The starred cases of document 01: the worked loop, and what one changed setting makes of it (X1 to X3), computed of the definitions.
use Prim.Native.Nat.{ℕ}
use mathlib.Core.Path.{◌≡◌, refl}
use mathlib.Core.List.{List, [], ◌∷◌, ◌++◌}
use Rattle.computed.specs.Cases.{Case, failing}
use Rattle.engine.proofs.Runs.{Call, Loop, store, sample, word, run, reset, each, in_turn, ◌∶◌leaves◌, after}

-- lines 1 to 6 of X1 with mode 1 as given, and line 7
begun : ℕ → Loop
begun mode1 = run reset (store 5 2000 ∷ store 25 4095 ∷ store 7 256 ∷ store 8 512 ∷ store 9 4096 ∷ store 0 mode1 ∷ sample 1000 ∷ [])

-- lines 8 and 9
line9 : List Call
line9 = store 2 1500 ∷ sample 1000 ∷ []

-- Words: 2 setpoint, 3 PV, 4 bias, 5 output, 6 status. Mode 1 in the place of the automatic request: 16 reverse, 128 squared, 256 deadband,
-- 1024 freeze; 34 is that request with velocity form. The first four follow one another, the others come from line 7 each.
pub starred : List Case
starred =
    in_turn (begun 2)
    (("X1 line 7" ∶ [] leaves (word 2 1000 ∷ word 3 1000 ∷ word 5 2000 ∷ word 6 2 ∷ []))
    ∷ ("X1 line 9" ∶ line9 leaves (word 2 1500 ∷ word 3 1000 ∷ word 4 2100 ∷ word 5 3100 ∷ word 6 2 ∷ []))
    ∷ ("X2 then PV 0" ∶ sample 0 ∷ [] leaves (word 5 4095 ∷ word 4 1095 ∷ word 6 0x0802 ∷ []))
    ∷ ("X2 then PV 1500" ∶ sample 1500 ∷ [] leaves (word 5 1095 ∷ []))
    ∷ [])
    ++ each (begun 2)
    (("X2 the last with freeze" ∶ (store 0 1024 ∷ []) ++ line9 ++ (sample 0 ∷ sample 1500 ∷ []) leaves (word 5 2100 ∷ []))
    ∷ ("X3 reset 9999" ∶ store 9 0x9999 ∷ line9 leaves (word 5 3000 ∷ []))
    ∷ ("X3 gain 0" ∶ store 8 0 ∷ line9 leaves (word 5 2050 ∷ []))
    ∷ ("X3 reverse" ∶ store 0 16 ∷ line9 leaves (word 5 900 ∷ []))
    ∷ ("X3 squared" ∶ store 0 128 ∷ line9 leaves (word 5 2134 ∷ []))
    ∷ ("X3 deadband 501" ∶ store 0 256 ∷ store 19 501 ∷ line9 leaves (word 5 2000 ∷ []))
    ∷ ("X3 deadband 500" ∶ store 0 256 ∷ store 19 500 ∷ line9 leaves (word 5 3100 ∷ []))
    ∷ ("X3 rate 1.00, PV 1010" ∶ store 10 256 ∷ store 2 1500 ∷ sample 1010 ∷ [] leaves (word 5 3058 ∷ []))
    ∷ [])
    ++ each (begun 34) (("X3 velocity, set before line 7" ∶ line9 leaves (word 5 3100 ∷ [])) ∷ [])

-- each of the thirteen cases gives the numbers of X1 to X3
pub all_starred : failing starred ≡ []
unfolding after begun line9 starred
all_starred = refl
