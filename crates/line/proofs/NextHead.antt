-- What arrivals and departures leave of the heads' stamps.
use Rattle.std.proofs.Common.{◌≡◌, ℕ, ◌+◌, ◌<◌, max, true, false, cond, not, List, [], ◌∷◌, map, length, get_or, set, Some, None, count_by, Option, sym, refl, ap, ◌∙◌, subst, arith}
use lib.Seq.{map-set_same}
use Rattle.std.proofs.lemmas.List.{get_or-set_same, set-set}
use Rattle.std.proofs.lemmas.Bool.{leb-false, not-false}
use Rattle.ready.specs.declared.key.Key.{Key}
use Rattle.ready.specs.declared.entry.Entry.{Entry}
use Rattle.ready.specs.Least.{Keys, least}
use Rattle.model.specs.declared.calls.Arrival.{Arrival}
use Rattle.model.specs.declared.calls.Packet.{Packet}
use Rattle.model.specs.declared.calls.Refusal.{Refusal}
use Rattle.model.specs.Answers.{Done, Left}
use Rattle.model.specs.declared.calls.Call.TheVariants.{Arrive, Depart}
use Rattle.model.specs.Model.{Acts, Outcome, Session, State, Sending, Wire, advance, answered, arrived, at, at_rest, blank, checks, departed, departure, end, finish, finish_key, finish_keys, first, freed, if_waits, joined, later, least_finish, least_start, potential, queued, refusal, rested, resting, sends, sent, some, start_key, start_keys, step, waits, wire_ticks}
use Rattle.model.specs.Model.Wire.{idle, sending}
use Rattle.model.specs.Invariants.{Safe, Steady, Wired}
use Rattle.model.proofs.Lists.{clear}
use Rattle.model.proofs.Ranges.{goes_on}
use Rattle.model.proofs.Steps.{chosen}
use Rattle.line.specs.Calls.{Held}
use Rattle.line.specs.Sound.{Sound, both}
use Rattle.line.proofs.Queues.{done_accepted, kept_sound, no_base, none_asked, rekeyed_sound, same_keys, still_sound}

pub arrive_within : (choices : ℕ) (st : State) (c : Arrival) → refusal choices st (Arrive c) ≡ None → c.session < 32
arrive_within choices st c none = leb-false 32 c.session (clear (checks choices st (Arrive c)) none).1.1.0

-- at rest nothing waits
quiet_wire : (L t : ℕ) (w : Wire) (ss : List Session) (P E : ℕ) → w ≡ idle → Wired L t w ss P E → (i : ℕ) → i < length ss → waits (get_or ss i blank) ≡ false
quiet_wire L t idle ss P E e h i lt = (h.2 i lt).none
quiet_wire L t (sending w) ss P E e h i lt = let z : ◌≡◌ {A = ℕ} 0 1 = cc in absurd (omega arith)

pub quiet : (st : State) → Steady st → st.wire ≡ idle → (i : ℕ) → i < length st.sessions → waits (at st i) ≡ false
quiet st s e i lt = quiet_wire st.longest st.time st.wire st.sessions s.kept.0 s.kept.1 e s.kept.2.wired i lt

-- a packet that came alone and was sent leaves nothing that waits
alone : (s : Session) (ps : List Packet) (p : Packet) → some ps ≡ false → waits (sent (joined s ps p)) ≡ false
alone s [] p e = refl
alone s (q ∷ qs) p e = let z : ◌≡◌ {A = ℕ} 0 1 = cc in absurd (omega arith)

pub begun_keys : (h : Session → ℕ) (ss : List Session) (i : ℕ) (p : Packet) → i < length ss → waits (get_or ss i blank) ≡ false
    → let b = joined (get_or ss i blank) (get_or ss i blank).waiting p in
    map (λ x. if_waits (h x) x) (set (set ss i b) i (sent (get_or (set ss i b) i blank))) ≡ map (λ x. if_waits (h x) x) ss
begun_keys h ss i p lt none =
    let s = get_or ss i blank in
    let b = joined s s.waiting p in
    let here : get_or (set ss i b) i blank ≡ b = get_or-set_same ss i b blank lt in
    ap (map (λ x. if_waits (h x) x)) (set-set ss i b (sent (get_or (set ss i b) i blank)))
    ∙ same_keys h ss i (sent (get_or (set ss i b) i blank)) none (ap (λ x. waits (sent x)) here ∙ alone s s.waiting p none)

-- a packet behind a head leaves the head's stamps
pub behind_finish : (s : Session) (ps : List Packet) (p : Packet) → s.waiting ≡ ps → some ps ≡ true → finish_key (joined s ps p) ≡ finish_key s
behind_finish s [] p e w = let z : ◌≡◌ {A = ℕ} 0 1 = cc in absurd (omega arith)
behind_finish s (q ∷ qs) p e w =
    let key : List Packet → Option Key = λ l. cond (some l) (Some (record { stamp = s.start + advance (first l).bytes s.interval })) None in
    ap key (sym e)

pub behind_start : (s : Session) (ps : List Packet) (p : Packet) → s.waiting ≡ ps → some ps ≡ true → start_key (joined s ps p) ≡ start_key s
behind_start s [] p e w = let z : ◌≡◌ {A = ℕ} 0 1 = cc in absurd (omega arith)
behind_start s (q ∷ qs) p e w =
    let key : List Packet → Option Key = λ l. cond (some l) (Some (record { stamp = s.start })) None in
    ap key (sym e)

-- a wire that sends
pub sends_queue : (w : Wire) (st : State) (i bytes : ℕ) → st.wire ≡ w → resting w ≡ false → arrived w st i bytes ≡ queued st i bytes
sends_queue idle st i bytes e busy = let z : ◌≡◌ {A = ℕ} 0 1 = cc in absurd (omega arith)
sends_queue (sending w) st i bytes e busy =
    ap (λ v. let x : State = record { longest = st.longest; time = st.time; wire = st.wire; sessions = set st.sessions i (joined (at st i) (at st i).waiting (record { bytes = bytes; arrival = st.time; entry = potential v st.time })) } in x) (sym e)

-- rest leaves every head's stamps, and there are none
pub rested_keys : (h : Session → ℕ) → ((s : Session) → h (rested s) ≡ h s) → (ss : List Session) → map (λ x. if_waits (h x) x) (map rested ss) ≡ map (λ x. if_waits (h x) x) ss
rested_keys h same [] = refl
rested_keys h same (s ∷ ss) =
    let here = same s in
    let rest = rested_keys h same ss in
    cc

-- arrivals on a sound line
module _ (finishes starts : Keys) (st after : State) (sound : Sound finishes starts st) (c : Arrival) (is : after ≡ (step 0 no_base st (Arrive c)).state) where
  -- at rest the packet goes on the wire at once, and no head waits after it as before it
  begun_kept : (o : Option Refusal) → refusal 0 st (Arrive c) ≡ o → st.wire ≡ idle → (h : Session → ℕ)
      → map (λ x. if_waits (h x) x) (answered no_base st (Arrive c) o).state.sessions ≡ map (λ x. if_waits (h x) x) st.sessions
  begun_kept (Some r) none rest h = refl
  begun_kept None none rest h =
      let lt : c.session < length st.sessions = omega (arith, arrive_within 0 st c none, sound.steady.kept.2.base.many) in
      let packet : Packet = record { bytes = c.bytes; arrival = c.time; entry = 0 } in
      ap (λ w. map (λ x. if_waits (h x) x) (arrived w (later st c.time) c.session c.bytes).sessions) rest ∙ begun_keys h st.sessions c.session packet lt (quiet st sound.steady rest c.session lt)

  pub begun_sound : st.wire ≡ idle → Sound finishes starts after
  begun_sound rest = kept_sound finishes starts st after sound 0 (Arrive c) is (begun_kept (refusal 0 st (Arrive c)) refl rest)

  module _ (busy : resting st.wire ≡ false) (told : Done ≡ (step 0 no_base st (Arrive c)).answer) where
    none : refusal 0 st (Arrive c) ≡ None
    none = done_accepted no_base st (Arrive c) (refusal 0 st (Arrive c)) told

    pub queued_inside : c.session < 32
    queued_inside = arrive_within 0 st c none

    abbrev packet : Packet
    packet = record { bytes = c.bytes; arrival = c.time; entry = potential st.wire c.time }

    joins : (step 0 no_base st (Arrive c)).state ≡ queued (later st c.time) c.session c.bytes
    joins = ap (λ o. (answered no_base st (Arrive c) o).state) none ∙ sends_queue st.wire (later st c.time) c.session c.bytes refl busy

    -- behind a head it leaves all stamps
    behind_kept : waits (at st c.session) ≡ true → Sound finishes starts (step 0 no_base st (Arrive c)).state
    behind_kept some =
        let s = at st c.session in
        still_sound finishes starts 0 no_base none_asked st (Arrive c)
        (ap (λ x. finish_keys x.sessions) joins ∙ map-set_same finish_key st.sessions c.session (joined s s.waiting packet) blank (behind_finish s s.waiting packet refl some))
        (ap (λ x. start_keys x.sessions) joins ∙ map-set_same start_key st.sessions c.session (joined s s.waiting packet) blank (behind_start s s.waiting packet refl some)) sound

    pub behind_sound : false ≡ not (waits (at st c.session)) → Sound finishes starts after
    behind_sound head = subst (Sound finishes starts) (sym is) (behind_kept (not-false (waits (at st c.session)) (sym head)))

    -- a new head's stamps are set
    pub headed_sound : (new-f new-s : Keys) → new-f ≡ set finishes c.session (finish_key (at after c.session)) → new-s ≡ set starts c.session (start_key (at after c.session)) → Sound new-f new-s after
    headed_sound new-f new-s by-f by-s =
        let s = at st c.session in
        rekeyed_sound 0 no_base none_asked st (Arrive c) after is c.session (joined s s.waiting packet) (omega (arith, queued_inside, sound.steady.kept.2.base.many))
        (ap (λ x. x.sessions) joins) finishes starts new-f new-s sound by-f by-s

-- a departure from a wire that sends
freed_wire : (base : ℕ → ℕ → ℕ) (st : State) (v : Wire) (sum : ℕ) (f s : Option Entry)
    → freed base (record { longest = st.longest; time = st.time; wire = v; sessions = st.sessions }) sum f s ≡ freed base st sum f s
freed_wire base st v sum None s = refl
freed_wire base st v sum (Some f) None = refl
freed_wire base st v sum (Some f) (Some s) = refl

abbrev leaving : State → Sending → State → Outcome
leaving st w after = record { state = after; answer = Left (departure w (count_by waits after.sessions)) }

pub depart_step : (choices : ℕ) (base : ℕ → ℕ → ℕ) (st : State) (w : Sending) → st.wire ≡ sending w → step choices base st Depart ≡ leaving st w (departed base st w)
depart_step choices base st w e =
    let by-wire : Wire → Outcome = λ v. step choices base (record { longest = st.longest; time = st.time; wire = v; sessions = st.sessions }) Depart in
    let now = later st (end w) in
    ap by-wire e ∙ ap (leaving st w) (freed_wire base now (sending w) (w.noted + wire_ticks w.packet.bytes) (least_finish now) (least_start now))

abbrev front : Option (Entry × Entry) → Option Entry
front None = None
front (Some p) = Some p.0

abbrev back : Option (Entry × Entry) → Option Entry
back None = None
back (Some p) = Some p.1

both_some : {f s : Entry} (a b : Option Entry) → Some (f, s) ≡ both a b → (Some f ≡ a) × (Some s ≡ b)
both_some None b e = absurd (let z : ◌≡◌ {A = ℕ} 0 1 = cc in omega (arith, z))
both_some (Some x) None e = absurd (let z : ◌≡◌ {A = ℕ} 0 1 = cc in omega (arith, z))
both_some (Some x) (Some y) e = (ap front e, ap back e)

-- the packet on the wire ends, on a sound line with a lawful rule
module _ {X : Type 0} (R : Acts X) {x : X} {st : State} {w : Sending} {finishes starts : Keys} {now : Held X} (safe : Safe (R.means x))
    (view : (let h : Held X = record { rule = x; state = st } in h) ≡ now) (wire : now.state.wire ≡ sending w) (sound : Sound finishes starts st) where
  abbrev base : ℕ → ℕ → ℕ
  base = R.means x

  abbrev free : State
  free = later st (end w)

  abbrev sum : ℕ
  sum = w.noted + wire_ticks w.packet.bytes

  ended_step : (step (R.choices x) base st Depart).state ≡ departed base st w
  ended_step = ap (λ (o : Outcome). o.state) (depart_step (R.choices x) base st w (ap (λ (h : Held X). h.state.wire) view ∙ wire))

  ended_steady : Steady (departed base st w)
  ended_steady = subst Steady ended_step (goes_on.at_each (R.choices x) base safe st Depart sound.steady)

  -- no finish, or no start: the line comes to rest
  rests_when : (f s : Option Entry) → f ≡ least finishes → s ≡ least starts → None ≡ both f s → at_rest free ≡ departed base st w
  rests_when None s f-is s-is none = ap (λ f. freed base free sum f (least_start st)) (f-is ∙ ap least sound.by_finish)
  rests_when (Some f) None f-is s-is none =
      ap (freed base free sum (Some f)) (s-is ∙ ap least sound.by_start) ∙ ap (λ g. freed base free sum g (least_start st)) (f-is ∙ ap least sound.by_finish)
  rests_when (Some f) (Some s) f-is s-is none = absurd (omega (arith, (let z : ◌≡◌ {A = ℕ} 0 1 = cc in z)))

  module _ (none : None ≡ both (least finishes) (least starts)) where
    rests : at_rest free ≡ departed base st w
    rests = rests_when (least finishes) (least starts) refl refl none

    pub rest_steady : Steady (at_rest free)
    rest_steady = subst Steady (sym rests) ended_steady

    pub rest_sound : (after : State) → after ≡ at_rest free → Sound finishes starts after
    rest_sound after e =
        let start : Session → ℕ = λ x. x.start in
        let rest = e ∙ rests in
        record {
          steady = subst Steady (sym rest) ended_steady;
          by_finish = sound.by_finish ∙ sym (rested_keys finish (λ s. refl) st.sessions) ∙ ap (λ x. finish_keys x.sessions) (sym e);
          by_start = sound.by_start ∙ sym (rested_keys start (λ s. refl) st.sessions) ∙ ap (λ x. start_keys x.sessions) (sym e);
        }

  -- the least finish goes next
  module _ {f s : Entry} (next : Some (f, s) ≡ both (least finishes) (least starts)) where
    least-f : Some f ≡ least finishes
    least-f = (both_some (least finishes) (least starts) next).0

    least-s : Some s ≡ least starts
    least-s = (both_some (least finishes) (least starts) next).1

    inside : f.session < length st.sessions
    inside = (chosen st.sessions finish f (sym (least-f ∙ ap least sound.by_finish))).inside

    pub next_inside : f.session < 32
    next_inside = omega (arith, inside, sound.steady.kept.2.base.many)

    next_sent : sends free f.session (max sum (base s.key.stamp f.key.stamp)) ≡ departed base st w
    next_sent =
        ap (freed base free sum (Some f)) (least-s ∙ ap least sound.by_start)
        ∙ ap (λ g. freed base free sum g (least_start st)) (least-f ∙ ap least sound.by_finish)

    pub next_steady : (noted : ℕ) → noted ≡ max sum (base s.key.stamp f.key.stamp) → Steady (sends free f.session noted)
    next_steady noted is = subst Steady (sym next_sent ∙ ap (sends free f.session) (sym is)) ended_steady

    pub next_sound : {after : State} {new-f new-s : Keys} → after ≡ sends free f.session (max sum (base s.key.stamp f.key.stamp))
        → new-f ≡ set finishes f.session (finish_key (at after f.session)) → new-s ≡ set starts f.session (start_key (at after f.session)) → Sound new-f new-s after
    next_sound {after} {new-f} {new-s} e by-f by-s =
        rekeyed_sound (R.choices x) base safe st Depart after (e ∙ next_sent ∙ sym ended_step) f.session (sent (at st f.session)) inside
        (ap (λ x. x.sessions) (ended_step ∙ sym next_sent)) finishes starts new-f new-s sound by-f by-s
