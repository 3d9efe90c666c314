-- What held shares are for: a run that keeps its due times by the rules, and does not where they are left out of the booking.
use Rattle.std.specs.Prelude.{◌≡◌, ℕ, zero, suc, ◌+◌, cond, List, [], ◌∷◌, ◌++◌, map, pos, ◌-ℤ◌, Option, nat_le}
use Rattle.model.specs.declared.calls.Call.{Call}
use Rattle.model.specs.declared.calls.Call.TheVariants.{Open, Change, Pick, Arrive, Depart}
use Rattle.model.specs.declared.calls.Refusal.{Refusal}
use Rattle.model.specs.declared.calls.Refusal.TheVariants as refused
use Rattle.model.specs.Answers.{Answer, Done, Left, Refused}
use Rattle.model.specs.Model.{Session, State, share, counted, Outcome, refusal, answered, rule_after, made}
use Rattle.model.specs.Examples.{four, answers}

-- A session of which no share is held.
abbrev pub unheld : Session → Session
unheld s =
    record { is_open = s.is_open; interval = s.interval; places = s.places; last_finish = s.last_finish; last_due = s.last_due; held = 0; mark = s.mark; start = s.start; due_start = s.due_start; waiting = s.waiting }

-- Why a call is refused if of each session only its share is counted. All other checks are those of the rules.
abbrev pub loose_refusal : ℕ → State → Call → Option Refusal
loose_refusal x st c = refusal (four.choices x) (record { longest = st.longest; time = st.time; wire = st.wire; sessions = map unheld st.sessions }) c

abbrev pub loose_outcome : ℕ → State → Call → Outcome
loose_outcome x st c = answered (four.means x) st c (loose_refusal x st c)

-- The answers of such a line, from a choice of the four rules on.
abbrev pub loose_from : ℕ → State → List Call → List Answer
loose_from x st [] = []
loose_from x st (c ∷ cs) = (loose_outcome x st c).answer ∷ loose_from (rule_after four x c (loose_refusal x st c)) (loose_outcome x st c).state cs

abbrev pub loose_answers : ℕ → List Call → List Answer
loose_answers longest calls = loose_from 0 (made (record { longest = longest })) calls

-- The departures that are past their due time by more than the longest packet.
abbrev pub too_late : ℕ → List Answer → List Answer
too_late longest [] = []
too_late longest (Done ∷ rest) = too_late longest rest
too_late longest (Left d ∷ rest) = cond (nat_le d.at (d.due + longest)) (too_late longest rest) (Left d ∷ too_late longest rest)
too_late longest (Refused r ∷ rest) = too_late longest rest

-- The refusals.
abbrev pub refusals : List Answer → List Refusal
refusals [] = []
refusals (Done ∷ rest) = refusals rest
refusals (Left d ∷ rest) = refusals rest
refusals (Refused r ∷ rest) = r ∷ refusals rest

-- All packets have 50 bytes.
abbrev pub brings : ℕ → ℕ → Call
brings session time = Arrive (record { session = session; bytes = 50; time = time })

-- Some sessions in turn, from one on: each opens with a small share, or brings a packet at the time 0.
abbrev pub small_opens : ℕ → ℕ → List Call
small_opens session zero = []
small_opens session (suc n) = Open (record { session = session; interval = 56; places = 2; time = 0 }) ∷ small_opens (session + 1) n

abbrev pub each_brings : ℕ → ℕ → List Call
each_brings session zero = []
each_brings session (suc n) = brings session 0 ∷ each_brings (session + 1) n

-- At every departure from a time on the session brings one packet.
abbrev pub keeps_bringing : ℕ → ℕ → ℕ → List Call
keeps_bringing session time zero = []
keeps_bringing session time (suc n) = Depart ∷ brings session time ∷ keeps_bringing session (time + 50) n

abbrev pub departs : ℕ → List Call
departs zero = []
departs (suc n) = Depart ∷ departs n

-- The great share moves from one session to another.
abbrev pub hands_over : ℕ → ℕ → ℕ → List Call
hands_over giver taker time = Change (record { session = giver; interval = 56; time = time }) ∷ Change (record { session = taker; interval = 2; time = time }) ∷ []

-- Sessions 0 and 1 hand the great share to and fro, each when its stamps have run far ahead, while ten others wait.
abbrev pub to_and_fro : List Call
to_and_fro =
    (Pick (record { number = 1; time = 0 }) ∷ Open (record { session = 0; interval = 2; places = 20; time = 0 }) ∷ Open (record { session = 1; interval = 56; places = 20; time = 0 }) ∷ small_opens 2 10)
    ++ (brings 0 0 ∷ each_brings 2 10)
    ++ (brings 0 0 ∷ brings 0 0 ∷ keeps_bringing 0 50 14)
    ++ hands_over 0 1 700
    ++ (Depart ∷ brings 1 750 ∷ brings 1 750 ∷ keeps_bringing 1 800 13)
    ++ hands_over 1 0 1400
    ++ keeps_bringing 0 1450 13
    ++ (Depart ∷ hands_over 0 1 2100)
    ++ keeps_bringing 1 2150 7
    ++ departs 13

-- The longest packet is 50 bytes. By the rules one change is refused and nothing leaves too late; without held shares nothing is refused, and a packet
-- leaves 100 ticks past its due time, 50 more than any line may take.
pub record HeldShareNeeded : Type 0 where
  pub only_shares : (x : ℕ) (s : Session) → counted x (unheld s) ≡ share s
  pub refused_by_rules : refusals (answers 50 to_and_fro) ≡ (refused.Share ∷ [])
  pub late_by_rules : too_late 50 (answers 50 to_and_fro) ≡ []
  pub refused_unheld : refusals (loose_answers 50 to_and_fro) ≡ []
  pub late_unheld : too_late 50 (loose_answers 50 to_and_fro)
      ≡ (Left (record { session = 11; bytes = 50; arrived = 0; at = 2900; due = 2800; spare = pos 2800 -ℤ pos 2900; waiting = 2 }) ∷ [])
