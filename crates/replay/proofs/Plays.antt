-- A list of turns, one by one.
use Rattle.std.proofs.Common.{◌≡◌, ℕ, zero, suc, ◌+◌, ◌<◌, ◌≤◌, List, [], ◌∷◌, ◌++◌, map, reverse, length, get_or, Option, Result, take, drop, set, sym, refl, ap, ◌∙◌, add-one, arith, drop_of_length-le, take_all, drop-cons, drop-set-lt}
use Rattle.std.proofs.lemmas.List.{reverse-append}
use Rattle.model.specs.declared.calls.Departure.{Departure}
use Rattle.model.specs.declared.calls.Refusal.{Refusal}
use Rattle.model.specs.Answers.{answer_of}
use Rattle.line.specs.Calls.{Held, answer_to, line_after}
use Rattle.model.specs.Model.{Event, Acts, Run, calls_on, next}
use Rattle.replay.specs.declared.turn.Turn.{Turn}
use Rattle.replay.specs.Turns.{calls_of, event_of, history_of, run_of}

abbrev pub filled : Turn → Result (Option Departure) Refusal → Turn
filled t a = record { call = t.call; answer = a }

-- one turn more of which the answer is written
events_more : (xs : List Turn) (i : ℕ) (v : Turn) → i < length xs → map event_of (take (suc i) (set xs i v)) ≡ map event_of (take i xs) ++ (event_of v ∷ [])
events_more [] i v lt = absurd (omega arith)
events_more (x ∷ xs) zero v lt = refl
events_more (x ∷ xs) (suc i) v lt = ap (λ (l : List Event). event_of x ∷ l) (events_more xs i v (omega arith))

history_more : (xs : List Turn) (i : ℕ) (v : Turn) → i < length xs → history_of (take (i + 1) (set xs i v)) ≡ event_of v ∷ history_of (take i xs)
history_more xs i v lt =
    ap (λ n. history_of (take n (set xs i v))) (add-one i) ∙ ap reverse (events_more xs i v lt) ∙ reverse-append (map event_of (take i xs)) (event_of v ∷ [])

module _ {X : Type 0} (R : Acts X) where
  -- what is told so far, and what the rest will add
  abbrev pub Told : Held X → List Turn → ℕ → Run X → Type 0
  Told l ts i whole = calls_on R (run_of l (take i ts)) (calls_of (drop i ts)) ≡ whole

  pub one_more : (l after : Held X) (ts : List Turn) (i : ℕ) (d : Turn) (a : Result (Option Departure) Refusal) (whole : Run X) → i < length ts
      → answer_of a ≡ answer_to R l (get_or ts i d).call → after ≡ line_after R l (get_or ts i d).call
      → Told l ts i whole → Told after (set ts i (filled (get_or ts i d) a)) (i + 1) whole
  one_more l after ts i d a whole lt told is inv =
      let t = get_or ts i d in
      let v = filled t a in
      let r = run_of l (take i ts) in
      let rest = ap (λ n. calls_of (drop n (set ts i v))) (add-one i) ∙ ap calls_of (drop-set-lt (suc i) ts i v (omega arith)) in
      let run : Held X → List Event → Run X = λ q h. record { rule = q.rule; state = q.state; history = h } in
      let here : run_of after (take (i + 1) (set ts i v)) ≡ next R r t.call =
      ap (run after) (history_more ts i v lt) ∙ ap (λ q. run q (event_of v ∷ history_of (take i ts))) is
      ∙ ap (λ b. run (line_after R l t.call) (record { call = t.call; answer = b } ∷ history_of (take i ts))) told in
      ap (calls_on R (run_of after (take (i + 1) (set ts i v)))) rest ∙ ap (λ q. calls_on R q (calls_of (drop (suc i) ts))) here
      ∙ ap (λ l. calls_on R r (calls_of l)) (sym (drop-cons ts i d lt)) ∙ inv

  pub all_told : (l : Held X) (ts : List Turn) (i : ℕ) (whole : Run X) → length ts ≤ i → Told l ts i whole → run_of l ts ≡ whole
  all_told l ts i whole le inv =
      ap (run_of l) (sym (take_all i ts le)) ∙ ap (λ t. calls_on R (run_of l (take i ts)) (calls_of t)) (sym (drop_of_length-le ts le)) ∙ inv
