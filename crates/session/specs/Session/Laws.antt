-- The laws of a run: counts and answers agree, a refused record leaves the desk, and a run is the desk's calls in a row.
use Rattle.std.specs.Prelude.{ℕ, suc, ◌+◌, ◌≤◌, ◌<◌, ◌≡◌, refl, Bool, true, false, cond, eqb, List, [], ◌∷◌, length, replicate, Ok, Err, Result, is_err}
use Rattle.std.proofs.Common.{arith, ap}
use borrow.Author.Tests.{ne_eqb}
use Rattle.std.specs.Int.{from_bool}
use Rattle.std.specs.Result.{result_unwrap_or}
use Rattle.refusals.specs.declared.Refusal.{Refusal}
use Rattle.refusals.specs.Refusals.{number_of, Answer, accepted_with}
use Rattle.refusals.specs.Refusals.Laws.{in_table}
use Rattle.reader.specs.declared.Record.TheVariants.{Store, Sample}
use Rattle.reader.specs.File.{Item}
use Rattle.desk.specs.declared.sampling.Line.{Line}
use Rattle.desk.specs.Desk.{Desk, words_of, sample_answer, sampled_at}
use Rattle.desk.proofs.Laws.Lists.{refused_call}
use Rattle.desk.specs.Lists.{store, sample, answer_to, desk_behind}
use Rattle.session.specs.Session.{answer_for, number_for, left_for, count_of, shown_of, shown_for, acted_for, answer_in, State, after, run_of, answers_for, refusals_in, calls_of}

-- ---- one record

-- what is shown of a sample is the line of the desk's answer
module _ (d : Desk) (k raw : ℕ) where
  pub sample_shown : {l : Line} → Ok l ≡ sampled_at d k raw → Ok (words_of l) ≡ acted_for d (Ok (Sample k raw))
  unfolding answer_to sampled_at
  sample_shown e = go (sample_answer d k raw) _ e
    where
      go : (a : Answer) (x : Line) {l : Line} → Ok l ≡ accepted_with a x → Ok (words_of l) ≡ accepted_with a (shown_of (accepted_with a x))
      go (Ok _) x e = cc
      go (Err why) x e = absurd (let z : ◌≡◌ {A = ℕ} 0 1 = cc in omega arith)

  pub sample_refused : {why : Refusal} → Err why ≡ sampled_at d k raw → Err why ≡ acted_for d (Ok (Sample k raw))
  unfolding answer_to sampled_at
  sample_refused e = go (sample_answer d k raw) _ e
    where
      go : (a : Answer) (x : Line) {why : Refusal} → Err why ≡ accepted_with a x → Err why ≡ accepted_with a (shown_of (accepted_with a x))
      go (Ok _) x e = absurd (let z : ◌≡◌ {A = ℕ} 0 1 = cc in omega arith)
      go (Err other) x e = cc

-- the answer is that of the record, and a refused one shows four zeros
pub answer_acted : (d : Desk) (x : Item) → answer_in (acted_for d x) ≡ answer_for d x
answer_acted d x = go (answer_for d x) (shown_for d x)
  where
    go : (a : Answer) (line : List ℕ) → answer_in (accepted_with a line) ≡ a
    go (Ok _) line = refl
    go (Err why) line = refl

pub shown_acted : (d : Desk) (x : Item) → result_unwrap_or (acted_for d x) (replicate {A = ℕ} 4 0) ≡ shown_for d x
unfolding answer_to sampled_at
shown_acted d (Ok (Store address value)) = go (answer_to d (store address value))
  where
    none : List ℕ
    none = replicate 4 0

    go : (a : Answer) → result_unwrap_or (accepted_with a none) none ≡ none
    go (Ok _) = refl
    go (Err why) = refl
shown_acted d (Ok (Sample k raw)) = go (sample_answer d k raw) _
  where
    go : (a : Answer) (l : Line) → result_unwrap_or (accepted_with a (shown_of (accepted_with a l))) (replicate {A = ℕ} 4 0) ≡ shown_of (accepted_with a l)
    go (Ok _) l = refl
    go (Err why) l = refl
shown_acted d (Err why) = refl

-- a refusal counts for one
pub count_acted : (acted : Result (List ℕ) Refusal) → from_bool (is_err acted) ≡ count_of (number_of (answer_in acted))
count_acted (Ok line) = refl
count_acted (Err why) = go _ (in_table why).0
  where
    go : (n : ℕ) → 0 < n → 1 ≡ count_of n
    go n h = rw (ne_eqb n 0 (λ e. omega (arith, e)))

-- ---- answers and counts

-- a refused record counts for one refusal, and one that is carried out for none
pub count_small : (number : ℕ) → count_of number ≤ 1
count_small number = go (eqb number 0)
  where
    go : (b : Bool) → cond b 0 1 ≤ 1
    go true = omega arith
    go false = omega arith

-- there is an answer for each record, and the counts of a run are those of the records and of the refusals among the answers
pub run_counts : (t : State) (xs : List Item)
    → ((run_of t xs).count ≡ t.count + length xs) × ((run_of t xs).refused ≡ t.refused + refusals_in (answers_for t.desk xs))
unfolding run_of answers_for refusals_in
run_counts t [] = omega arith
run_counts t (x ∷ xs) = omega (arith, run_counts (after t x) xs)

pub answers_length : (d : Desk) (xs : List Item) → length (answers_for d xs) ≡ length xs
unfolding answers_for
answers_length d [] = refl
answers_length d (x ∷ xs) = ap suc (answers_length (left_for d x) xs)

-- ---- a refused record leaves the desk

pub refused_leaves : (d : Desk) (x : Item) → 0 < number_for d x → left_for d x ≡ d
refused_leaves d (Ok (Store address value)) h = refused_call d (store address value) h
refused_leaves d (Ok (Sample k raw)) h = refused_call d (sample k raw) h
refused_leaves d (Err why) h = refl

-- ---- the desk behind some records is the desk behind their calls

pub run_desk : (t : State) (xs : List Item) → (run_of t xs).desk ≡ desk_behind t.desk (calls_of xs)
unfolding run_of calls_of desk_behind
run_desk t [] = refl
run_desk t (Ok (Store address value) ∷ xs) = run_desk (after t (Ok (Store address value))) xs
run_desk t (Ok (Sample k raw) ∷ xs) = run_desk (after t (Ok (Sample k raw))) xs
run_desk t (Err why ∷ xs) = run_desk (after t (Err why)) xs
