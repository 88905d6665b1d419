-- What is promised of a setup file, proved.
use Prim.Native.Nat.{ℕ, suc, ◌+◌, ◌%◌, ◌≤◌, ◌<◌}
use native.Mathlib.Omega.{arith}
use native.Mathlib.Nat.{add-zero, zero-add}
use mathlib.Core.Path.{◌≡◌, refl, sym, ap, subst, ◌∙◌}
use mathlib.Core.Bool.{Bool, true, false, cond, not}
use Rattle.std.specs.Prelude.{Ok}
use mathlib.Core.List.{List, [], ◌∷◌, ◌++◌, append_assoc}
use lib.Dec.{eqb}
use lib.IntN.{ℤ, pos}
use lib.ListN.{length, get_or, replicate, length-append, length-replicate}
use lib.Seq.{set_at, ext_get_or}
use borrow.Author.Tests.{eqb-true}
use Rattle.carried.specs.Layout.{number_count}
use Rattle.table.specs.Words.Laws.{and_true}
use Rattle.reader.specs.declared.Record.TheVariants.{Store}
use Rattle.reader.specs.File.{Item, records_of}
use Rattle.desk.specs.Desk.{lent, engine_word, reset_desk}
use Rattle.desk.proofs.Laws.Desk.{reset_fits, reset_numbers}
use Rattle.desk.specs.Lists.{answer_to, desk_after}
use Rattle.setups.specs.Setup.{handed_on, bytes_from, setup_of, stores_from}
use Rattle.setups.proofs.Laws.Setup.{rebuilt_from, bytes_below, bytes_length, setup_short, setup_read, rebuilt_length, rebuilt_at, rebuilt_bytes}
use Rattle.session.specs.Session.{State, state, totals, begun, after, run_of, ended_of, left_of}
use Rattle.claims.specs.Calls.{Reserved}
use Rattle.claims.specs.Setups.{Reached, SameStored, Ascending, no_records, kept, Rebuilt, HandedOn}
use Rattle.claims.proofs.Calls.{fitting, reserved, free, stored}

-- ---- the stores carried out

-- where the words before an address are done and the others still 0, the stores of the others complete them
abbrev Completes : List ℤ → ℕ → ℕ → ℕ → List ℕ → List ℕ → Type 0
Completes ns m n a before ws =
    run_of (state (before ++ replicate (length ws) 0) ns n m) (stores_from a ws) ≡ state (before ++ rebuilt_from a ws) ns (n + length (stores_from a ws)) m

module _ (ns : List ℤ) (fit : length ns ≡ number_count) (m : ℕ) where
  -- the next word is done, whether it was stored or is 0
  next : (n a : ℕ) (before : List ℕ) (value : ℕ) (rest : List ℕ) → Completes ns m n (suc a) (before ++ (value ∷ [])) rest
      → run_of (state (before ++ (value ∷ replicate (length rest) 0)) ns n m) (stores_from (suc a) rest)
      ≡ state (before ++ (value ∷ rebuilt_from (suc a) rest)) ns (n + length (stores_from (suc a) rest)) m
  next n a before value rest done = rw (append_assoc before (value ∷ []) (replicate (length rest) 0), append_assoc before (value ∷ []) (rebuilt_from (suc a) rest)) at done

  -- a word that is stored
  stored_next : (n a : ℕ) (before : List ℕ) (value : ℕ) (zeros : List ℕ) → length before ≡ a → length (before ++ (0 ∷ zeros)) ≡ 1024 → engine_word a ≡ false
      → after (state (before ++ (0 ∷ zeros)) ns n m) (Ok (Store a value)) ≡ state (before ++ (value ∷ zeros)) ns (n + 1) m
  unfolding answer_to desk_after
  stored_next n a before value zeros here size reach =
      let d = lent (before ++ (0 ∷ zeros)) ns in
      let low : a ≤ 1023 = omega (arith, rw (length-append before (0 ∷ zeros)) at size) in
      let s = stored d a (fitting d size fit) value low reach in
      rw (s.0, s.1, set_at before 0 zeros value a here, add-zero m)

  stores_run : (n a : ℕ) (before ws : List ℕ) → length before ≡ a → a + length ws ≡ 1024 → Completes ns m n a before ws
  unfolding run_of stores_from rebuilt_from
  stores_run n a before [] here size = rw (add-zero n)
  stores_run n a before (value ∷ rest) here size =
      go (engine_word a) refl (eqb value 0) refl (λ v n. next n a before v rest (stores_run n (suc a) (before ++ (v ∷ [])) rest (simp length-append (omega arith)) (omega arith)))
    where
      go : (reserved : Bool) → engine_word a ≡ reserved → (none : Bool) → eqb value 0 ≡ none
          → ((v n : ℕ) → run_of (state (before ++ (v ∷ replicate (length rest) 0)) ns n m) (stores_from (suc a) rest)
          ≡ state (before ++ (v ∷ rebuilt_from (suc a) rest)) ns (n + length (stores_from (suc a) rest)) m)
          → Completes ns m n a before (value ∷ rest)
      go true e true f more = rw (e, f) (more 0 n)
      go true e false f more = rw (e, f) (more 0 n)
      go false e true f more = rw (e, f, eqb-true value 0 f) (more 0 n)
      go false e false f more =
          let counted : n + suc (length (stores_from (suc a) rest)) ≡ n + 1 + length (stores_from (suc a) rest) = omega arith in
          rw (e, f, counted, stored_next n a before value (replicate (length rest) 0) here (simp (length-append, length-replicate) (omega arith)) e) (more value (n + 1))

-- ---- the file

false_true : false ≡ true → ⊥
false_true e = let z : ◌≡◌ {A = ℕ} 0 1 = cc in omega arith

-- a word that is handed on
reached : (address value : ℕ) → address < 1024 → handed_on address value ≡ true → Reached address × (value ≡ 0 → ⊥)
reached address value low e =
    let p = and_true (not (eqb value 0)) (not (engine_word address)) e in
    ((low, λ l r. false_true (rw (reserved address l r) at p.1)), λ z. false_true (rw z at p.0))

earlier : {ws : List ℕ} {from : ℕ} {xs : List Item} → Ascending ws (suc from) xs → Ascending ws from xs
earlier no_records = no_records
earlier {from = from} (kept at h r some more) = kept {from = from} at (omega arith) r some more

ascends : (ws : List ℕ) (from : ℕ) (rest : List ℕ) → from + length rest ≡ 1024 → ((i : ℕ) → get_or rest i 0 ≡ get_or ws (from + i) 0) → Ascending ws from (stores_from from rest)
unfolding stores_from
ascends ws from [] size same = no_records
ascends ws from (value ∷ rest) size same =
    go (ascends ws (suc from) rest (omega arith) (λ i. same (suc i) ∙ ap (λ (n : ℕ). get_or ws n 0) (omega arith))) (handed_on from value) refl
  where
    go : Ascending ws (suc from) (stores_from (suc from) rest) → (b : Bool) → handed_on from value ≡ b
        → Ascending ws from (cond b (Ok (Store from value) ∷ stores_from (suc from) rest) (stores_from (suc from) rest))
    go later false e = earlier later
    go later true e =
        let here : value ≡ get_or ws from 0 = same 0 ∙ rw (add-zero from) in
        let r = reached from value (omega arith) e in
        subst (λ (v : ℕ). Ascending ws from (Ok (Store from v) ∷ stores_from (suc from) rest)) (sym here) (kept from (omega arith) r.0 (λ z. r.1 (here ∙ z)) later)

-- read from reset
setup_run : (ws : List ℕ) → length ws ≡ 1024
    → run_of (begun reset_desk) (records_of (setup_of ws)) ≡ state (rebuilt_from 0 ws) reset_desk.numbers (length (stores_from 0 ws)) 0
setup_run ws l =
    let run = stores_run (replicate number_count (pos 0)) (length-replicate number_count (pos 0)) 0 0 0 [] ws refl (omega arith) in
    rw (setup_read ws, reset_numbers) (rw (l, zero-add (length (stores_from 0 ws))) at run)

-- the words of a list as they are rebuilt
module _ (ws : List ℕ) (i : ℕ) where
  rebuilt_word : Reached i → get_or (rebuilt_from 0 ws) i 0 ≡ get_or ws i 0
  rebuilt_word r = rebuilt_at 0 ws i ∙ rw (zero-add i, free i r.1)

  rebuilt_zero : i < 512 → Reserved (i % 32) → get_or (rebuilt_from 0 ws) i 0 ≡ 0
  rebuilt_zero low r = rebuilt_at 0 ws i ∙ rw (zero-add i, reserved i low r)

rebuilds : (ws : List ℕ) → length ws ≡ 1024
    → (ended_of (setup_of ws) reset_desk ≡ Ok (totals (length (records_of (setup_of ws))) 0)) × Rebuilt ws (left_of (setup_of ws) reset_desk)
unfolding ended_of left_of
rebuilds ws l =
    rw (reset_fits, setup_run ws l) (
      ap (λ (xs : List Item). Ok (totals (length xs) 0)) (sym (setup_read ws)),
      record {
        words = rebuilt_word ws;
        elsewhere = rebuilt_zero ws;
        size = rebuilt_length 0 ws ∙ l;
        numbers = refl;
      },
    )

-- where two memories agree, they are rebuilt alike
agree_rebuilt : (ws vs : List ℕ) → length ws ≡ 1024 → length vs ≡ 1024 → SameStored ws vs → rebuilt_from 0 ws ≡ rebuilt_from 0 vs
agree_rebuilt ws vs l k same =
    ext_get_or 0 _ _ (rebuilt_length 0 ws ∙ l ∙ sym k ∙ sym (rebuilt_length 0 vs))
    (λ i h. rebuilt_at 0 ws i ∙ rw (zero-add i) (go i (omega (arith, rebuilt_length 0 ws)) (engine_word i) refl) ∙ sym (rebuilt_at 0 vs i))
  where
    go : (i : ℕ) → i < 1024 → (b : Bool) → engine_word i ≡ b → cond b 0 (get_or ws i 0) ≡ cond b 0 (get_or vs i 0)
    go i h true e = refl
    go i h false e = same i (h, λ low r. false_true (sym e ∙ reserved i low r))

same_only : (ws vs : List ℕ) → length ws ≡ 1024 → length vs ≡ 1024 → (setup_of ws ≡ setup_of vs → SameStored ws vs) × (SameStored ws vs → setup_of ws ≡ setup_of vs)
same_only ws vs l k = (
  λ e i r.
      let run = rw (setup_run ws l, setup_run vs k) at (ap (λ (file : List ℕ). run_of (begun reset_desk) (records_of file)) e) in
      let words = ap (λ (t : State). t.desk.words) run in
      sym (rebuilt_word ws i r) ∙ ap (λ (x : List ℕ). get_or x i 0) words ∙ rebuilt_word vs i r,
  λ same. sym (rebuilt_bytes 0 ws) ∙ ap (bytes_from 0) (agree_rebuilt ws vs l k same) ∙ rebuilt_bytes 0 vs,
)

pub handed_on_lem : HandedOn
handed_on_lem = record {
  stores = λ ws l. rw (setup_read ws) (ascends ws 0 ws (omega arith) (λ i. rw (zero-add i)));
  bytes = λ ws l small. bytes_below 0 ws (omega arith) small;
  rebuilds = rebuilds;
  only = same_only;
  long = λ ws l. (rw (setup_read ws) (bytes_length 0 ws), setup_short ws l);
}
