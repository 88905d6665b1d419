-- Demand 3 of one call and of a list of calls: the records stay tied to the sixteen plain loops, and each accepted sample is good.
use Rattle.std.specs.Prelude.{Ok, Err}
use Rattle.refusals.specs.Refusals.{Answer, accepted}
use Prim.Native.Nat.{ℕ, ◌+◌, ◌≤◌}
use mathlib.Core.Path.{◌≡◌, refl, sym, ap, ◌∙◌, subst}
use mathlib.Core.Bool.{Bool, true, false, cond}
use mathlib.Core.List.{List, [], ◌∷◌}
use lib.Dec.{eqb}
use lib.IntN.{ℤ}
use lib.ListN.{get_or}
use borrow.Author.Tests.{eqb-true, eqb-false}
use Rattle.refusals.specs.Refusals.Laws.{never}
use Rattle.table.specs.Words.{base_of}
use Rattle.reading.specs.Reading.{reading_of}
use Rattle.reading.proofs.Laws.Reading.{reads}
use Rattle.carried.specs.declared.record.State.{State}
use Rattle.measuring.specs.Measuring.{measured_of}
use Rattle.carried.specs.Former.{former_of}
use Rattle.carried.specs.Layout.{carried_at, marked_record}
use Rattle.plain.specs.Plain.{plain_after, plain_marked}
use Rattle.plain.specs.Premises.{Tied, Good}
use Rattle.plain.proofs.Laws.Plain.{start_tied, mark_tied, sample_good}
use Rattle.desk.specs.Desk.{Desk, reset_left, store_left, reading_at, marks, sample_done, sample_answer, sample_left}
use Rattle.desk.proofs.Laws.Desk.{Sampled, sampled, own_words, own_record, other_record}
use Rattle.desk.specs.Lists.{Call, reset, store, sample, answer_to, desk_after, desk_behind, Plains, begun_all, read_by, sampled_all, fed_by, fed, plains_behind, Claim, Holds}

-- the records of the sixteen loops, each tied to its plain loop
abbrev pub TiedAll : List ℤ → Plains → Type 0
TiedAll ns qs = (k : ℕ) → 1 ≤ k → k ≤ 16 → Tied (carried_at ns k) (qs k)

-- at the start
pub all_begun : (ns : List ℤ) → TiedAll ns (begun_all ns)
all_begun ns k above below = start_tied (carried_at ns k)

module _ (d : Desk) (qs : Plains) (tied : TiedAll d.numbers qs) where
  -- an accepted sample of loop k itself
  own : (k raw : ℕ) → Sampled d k raw
      → let base = base_of k in
      let q' = plain_after (qs k) (read_by qs d k) (measured_of (read_by qs d k) raw) in
      Good (get_or (sample_done d k raw).words (base + 5) 0) (get_or d.words (base + 24) 0) (get_or d.words (base + 25) 0) q'
      × Tied (carried_at (sample_done d k raw).numbers k) q'
  own k raw s =
      let base = base_of k in
      let c = carried_at d.numbers k in
      let t = tied k s.above s.below in
      let good = sample_good s.reading s.carried (qs k) t in
      let word = (own_words d k raw s).output in
      let by_words = reads d.words k (former_of c.state) in
      let Goal : State → Type 0
      = λ state. let r = reading_of d.words k (former_of state) in let q' = plain_after (qs k) r (measured_of r raw) in
      Good (get_or (sample_done d k raw).words (base + 5) 0) (get_or d.words (base + 24) 0) (get_or d.words (base + 25) 0) q'
      × Tied (carried_at (sample_done d k raw).numbers k) q' in
      subst Goal t.state (rw (word, ← by_words.low, ← by_words.high) good.0, rw (own_record d k raw s) good.1)

  -- one of another loop leaves the record of loop k, or marks it as it marks its plain loop
  other : (j raw k : ℕ) → 1 ≤ k → k ≤ 16 → (j ≡ k → ⊥) → Sampled d j raw
      → Tied (carried_at (sample_done d j raw).numbers k) (cond (marks (read_by qs d j) k) (plain_marked (qs k)) (qs k))
  other j raw k above below ne s =
      let same : reading_at d j ≡ read_by qs d j
      = ap (λ (state : State). reading_of d.words j (former_of state)) (tied j s.above s.below).state in
      rw (other_record d j raw s k above (λ e. ne (sym e)) below, ← same) (go (marks (reading_at d j) k))
    where
      go : (b : Bool) → Tied (cond b (marked_record (carried_at d.numbers k)) (carried_at d.numbers k)) (cond b (plain_marked (qs k)) (qs k))
      go true = mark_tied (tied k above below)
      go false = tied k above below

  -- one call
  abbrev Kept : Call → Answer → Type 0
  Kept call a = ((k : ℕ) → 1 ≤ k → k ≤ 16 → Claim k d (fed_by qs d a call k) call) × TiedAll (desk_after d call).numbers (fed_by qs d a call)

  of_reset : (a : Answer) → answer_to d reset ≡ a → Kept reset a
  unfolding Claim answer_to desk_after reset_left
  of_reset (Err why) e = (λ k above below. tt, rw e tied)
  of_reset (Ok _) e = (λ k above below. tt, all_begun _)

  of_store : (address value : ℕ) (a : Answer) → answer_to d (store address value) ≡ a → Kept (store address value) a
  unfolding Claim answer_to desk_after store_left
  of_store address value (Err why) e = (λ k above below. tt, rw e tied)
  of_store address value (Ok _) e = (λ k above below. tt, rw e tied)

  -- an accepted sample, of each loop
  of_accepted : (j raw : ℕ) → sample_answer d j raw ≡ accepted → (k : ℕ) → 1 ≤ k → k ≤ 16
      → Claim k d (sampled_all qs d j raw k) (sample j raw) × Tied (carried_at (sample_done d j raw).numbers k) (sampled_all qs d j raw k)
  unfolding Claim sampled_all answer_to desk_after sample_left
  of_accepted j raw e k above below = go (eqb j k) refl
    where
      go : (t : Bool) → eqb j k ≡ t
          → Claim k d (sampled_all qs d j raw k) (sample j raw) × Tied (carried_at (sample_done d j raw).numbers k) (sampled_all qs d j raw k)
      go false f =
          let ne = eqb-false j k f in
          (λ same ok. absurd (ne same), rw f (other j raw k above below ne (sampled d j raw e)))
      go true f =
          let same : j ≡ k = eqb-true j k f in
          rw (f, same) (let r = own k raw (sampled d k raw (rw same at e)) in (λ _ ok. rw ok r.0, r.1))

  of_sample : (j raw : ℕ) (a : Answer) → answer_to d (sample j raw) ≡ a → Kept (sample j raw) a
  unfolding Claim answer_to desk_after sample_left
  of_sample j raw (Err why) e = (λ k above below same ok. absurd (never (sym e ∙ ok)), rw e tied)
  of_sample j raw (Ok _) e = (λ k above below. (of_accepted j raw e k above below).0, rw e (λ k above below. (of_accepted j raw e k above below).1))

  pub one : (call : Call) → Kept call (answer_to d call)
  one reset = of_reset (answer_to d reset) refl
  one (store address value) = of_store address value (answer_to d (store address value)) refl
  one (sample j raw) = of_sample j raw (answer_to d (sample j raw)) refl

-- every call of a list, and the plain loops tied behind it
pub all : (calls : List Call) (d : Desk) (qs : Plains) → TiedAll d.numbers qs
    → ((k : ℕ) → 1 ≤ k → k ≤ 16 → Holds k qs d calls) × TiedAll (desk_behind d calls).numbers (plains_behind qs d calls)
unfolding Holds desk_behind plains_behind fed
all [] d qs tied = (λ k above below. tt, tied)
all (call ∷ calls) d qs tied =
    let step = one d qs tied call in
    let rest = all calls (desk_after d call) (fed qs d call) step.1 in
    (λ k above below. (step.0 k above below, rest.0 k above below), rest.1)
