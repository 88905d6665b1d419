-- The laws of what is written: which words change and to what, and the loop's block by itself.
use Rattle.std.specs.Prelude.{ℕ, ◌+◌, ◌≤◌, ◌<◌, ◌≡◌, refl, Bool, true, false, ◌≢◌, List, length, ltb, eqb}
use native.Mathlib.Omega.{arith}
use Rattle.std.proofs.Math.Nat.{add-zero}
use Rattle.std.proofs.Common.{sym, ◌∙◌, ltb-true, ltb-false, eqb-true}
use Rattle.std.proofs.Math.ListN.{get_or, set, length-set}
use Rattle.std.proofs.Math.Seq.{set_out, get_or-set_same, get_or-set_other, take-set-lt}
use Rattle.std.proofs.lemmas.List.{drop-set-add}
use Rattle.std.proofs.lemmas.Bool.{eqb-false}
use Rattle.table.specs.Words.{block_at}
use Rattle.engine.specs.declared.writing.Written.{Written}
use Rattle.engine.specs.Writing.{written_to}

-- i is none of the eight words of the loop at base
pub record Other (base i : ℕ) : Type 0 where
  pub mode : i ≡ base → ⊥
  pub setpoint : i ≡ base + 2 → ⊥
  pub pv : i ≡ base + 3 → ⊥
  pub bias : i ≡ base + 4 → ⊥
  pub output : i ≡ base + 5 → ⊥
  pub status : i ≡ base + 6 → ⊥
  pub flags : i ≡ base + 27 → ⊥
  pub fault : i ≡ base + 29 → ⊥

-- the eight words of the loop at base are those given
pub record There (ws : List ℕ) (base : ℕ) (w : Written) : Type 0 where
  pub word : get_or ws base 0 ≡ w.word
  pub setpoint : get_or ws (base + 2) 0 ≡ w.setpoint
  pub pv : get_or ws (base + 3) 0 ≡ w.pv
  pub bias : get_or ws (base + 4) 0 ≡ w.bias
  pub output : get_or ws (base + 5) 0 ≡ w.output
  pub status : get_or ws (base + 6) 0 ≡ w.status
  pub flags : get_or ws (base + 27) 0 ≡ w.flags
  pub fault : get_or ws (base + 29) 0 ≡ w.fault

below : (l : List ℕ) (i v j : ℕ) → j < i → get_or (set l i v) j 0 ≡ get_or l j 0
below l i v j h = get_or-set_other l i j v 0 (λ e. omega (arith, e))

module _ (ws : List ℕ) (base : ℕ) (w : Written) where
  pub written_length : length (written_to ws base w) ≡ length ws
  unfolding written_to
  written_length = simp length-set

  pub written_other : (i : ℕ) → Other base i → get_or (written_to ws base w) i 0 ≡ get_or ws i 0
  unfolding written_to
  written_other i o =
      let mode : i ≢ base = o.mode in
      let setpoint : i ≢ base + 2 = o.setpoint in
      let pv : i ≢ base + 3 = o.pv in
      let bias : i ≢ base + 4 = o.bias in
      let output : i ≢ base + 5 = o.output in
      let status : i ≢ base + 6 = o.status in
      let flags : i ≢ base + 27 = o.flags in
      let fault : i ≢ base + 29 = o.fault in
      simp get_or-set_other

  -- each of the eight holds what was given for it: the stores behind it are to higher words
  pub written_there : base + 32 ≤ length ws → There (written_to ws base w) base w
  unfolding written_to
  written_there h =
      let w0 = set ws base w.word in
      let w2 = set w0 (base + 2) w.setpoint in
      let w3 = set w2 (base + 3) w.pv in
      let w4 = set w3 (base + 4) w.bias in
      let w5 = set w4 (base + 5) w.output in
      let w6 = set w5 (base + 6) w.status in
      let w27 = set w6 (base + 27) w.flags in
      let all = set w27 (base + 29) w.fault in
      let p29 : (j : ℕ) → j < base + 29 → get_or all j 0 ≡ get_or w27 j 0 = below w27 (base + 29) w.fault in
      let p27 : (j : ℕ) → j < base + 27 → get_or all j 0 ≡ get_or w6 j 0 = λ j k. p29 j (omega arith) ∙ below w6 (base + 27) w.flags j k in
      let p6 : (j : ℕ) → j < base + 6 → get_or all j 0 ≡ get_or w5 j 0 = λ j k. p27 j (omega arith) ∙ below w5 (base + 6) w.status j k in
      let p5 : (j : ℕ) → j < base + 5 → get_or all j 0 ≡ get_or w4 j 0 = λ j k. p6 j (omega arith) ∙ below w4 (base + 5) w.output j k in
      let p4 : (j : ℕ) → j < base + 4 → get_or all j 0 ≡ get_or w3 j 0 = λ j k. p5 j (omega arith) ∙ below w3 (base + 4) w.bias j k in
      let p3 : (j : ℕ) → j < base + 3 → get_or all j 0 ≡ get_or w2 j 0 = λ j k. p4 j (omega arith) ∙ below w2 (base + 3) w.pv j k in
      let p2 : (j : ℕ) → j < base + 2 → get_or all j 0 ≡ get_or w0 j 0 = λ j k. p3 j (omega arith) ∙ below w0 (base + 2) w.setpoint j k in
      record {
        word = p2 base (omega arith) ∙ get_or-set_same ws base w.word 0 (omega arith);
        setpoint = p3 (base + 2) (omega arith) ∙ get_or-set_same w0 (base + 2) w.setpoint 0 (simp length-set (omega arith));
        pv = p4 (base + 3) (omega arith) ∙ get_or-set_same w2 (base + 3) w.pv 0 (simp length-set (omega arith));
        bias = p5 (base + 4) (omega arith) ∙ get_or-set_same w3 (base + 4) w.bias 0 (simp length-set (omega arith));
        output = p6 (base + 5) (omega arith) ∙ get_or-set_same w4 (base + 5) w.output 0 (simp length-set (omega arith));
        status = p27 (base + 6) (omega arith) ∙ get_or-set_same w5 (base + 6) w.status 0 (simp length-set (omega arith));
        flags = p29 (base + 27) (omega arith) ∙ get_or-set_same w6 (base + 27) w.flags 0 (simp length-set (omega arith));
        fault = get_or-set_same w27 (base + 29) w.fault 0 (simp length-set (omega arith));
      }

  -- the loop's 32 words, written by themselves
  pub written_block : block_at (written_to ws base w) base ≡ written_to (block_at ws base) 0 w
  unfolding written_to
  written_block =
      let first : set ws base w.word ≡ set ws (base + 0) w.word = rw add-zero in
      let h0 : 0 < 32 = omega arith in
      let h2 : 2 < 32 = omega arith in
      let h3 : 3 < 32 = omega arith in
      let h4 : 4 < 32 = omega arith in
      let h5 : 5 < 32 = omega arith in
      let h6 : 6 < 32 = omega arith in
      let h27 : 27 < 32 = omega arith in
      let h29 : 29 < 32 = omega arith in
      rw first (simp (drop-set-add, take-set-lt))

-- ---- the same words written twice

-- two lists of one length that have the same word at i
pub record Both (i : ℕ) (ws ws' : List ℕ) : Type 0 where
  pub size : length ws ≡ length ws'
  pub same : get_or ws i 0 ≡ get_or ws' i 0

-- have it still after one store to both
stored : {ws ws' : List ℕ} {i : ℕ} (j v : ℕ) → Both i ws ws' → Both i (set ws j v) (set ws' j v)
stored {ws} {ws'} {i} j v b = record { size = simp length-set b.size; same = go (eqb i j) refl (ltb j (length ws)) refl }
  where
    go : (t : Bool) → eqb i j ≡ t → (u : Bool) → ltb j (length ws) ≡ u → get_or (set ws j v) i 0 ≡ get_or (set ws' j v) i 0
    go false e u f = let other = eqb-false i j e in get_or-set_other ws j i v 0 other ∙ b.same ∙ sym (get_or-set_other ws' j i v 0 other)
    go true e true f =
        let h = ltb-true j (length ws) f in
        rw (eqb-true i j e) (get_or-set_same ws j v 0 h ∙ sym (get_or-set_same ws' j v 0 (omega (arith, b.size))))
    go true e false f =
        let h = ltb-false j (length ws) f in
        rw (set_out ws j v h, set_out ws' j v (omega (arith, b.size))) b.same

-- and after all eight
pub written_both : {ws ws' : List ℕ} {i : ℕ} (base : ℕ) (w : Written) → Both i ws ws' → Both i (written_to ws base w) (written_to ws' base w)
unfolding written_to
written_both base w b =
    stored (base + 29) w.fault
    (stored (base + 27) w.flags
    (stored (base + 6) w.status
    (stored (base + 5) w.output
    (stored (base + 4) w.bias (stored (base + 3) w.pv (stored (base + 2) w.setpoint (stored base w.word b)))))))
