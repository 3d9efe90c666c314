-- A study as the program holds it follows what its text has spelled.
use Rattle.std.proofs.Common.{◌≡◌, ℕ, suc, ◌-◌, cond, ltb, List, [], ◌∷◌, ◌++◌, length, Some, None, Option, sym, refl, ap, ◌∙◌}
use Rattle.std.proofs.lemmas.Bool.{cond_both}
use Rattle.grammar.specs.Lines.{lines}
use Rattle.grammar.specs.Reader.{Answer as Reading, good, wrong, read}
use Rattle.model.specs.declared.calls.Refusal.{Refusal}
use Rattle.model.specs.Model.{Lawful, Acts, Run, make_refusal, new, refusal, replay, rule_after, step}
use Rattle.model.specs.Promises.{Proper}
use Rattle.model.proofs.Bursts.{promised}
use Rattle.model.proofs.Runs.{calls_push, made_proper}
use Rattle.run.specs.Orders.{Order, make, call, order_of}
use Rattle.run.specs.Machine.{said, line_after, line_text, lines_after, page_fault, reply_text, run_lines, run_text, text_fault}
use Rattle.run.specs.Stages.{Stage, unlinked, linked, apart, link_after, stage_after, stage_reply}
use Rattle.run.specs.Spelled.{Spelled, no_line, on_line, Kept, link_spells, page_of, setup_of, spelled_after, spelled_in, spelled_reply}

module _ {X : Type 0} (R : Acts X) (x : X) where
  abbrev pub Follows : Spelled → Stage X → Type 0
  Follows no_line (unlinked y) = y ≡ x
  Follows no_line (linked y st) = ⊥
  Follows no_line apart = ⊥
  Follows (on_line l cs) (unlinked y) = ⊥
  Follows (on_line l cs) (linked y st) = (y ≡ (replay R x (setup_of l) cs).rule) × (st ≡ (replay R x (setup_of l) cs).state)
  Follows (on_line l cs) apart = ⊥

  same_reply : (p : Spelled) (s : Stage X) → Follows p s → (o : Order) → spelled_reply R x p o ≡ stage_reply R s o
  same_reply no_line (unlinked y) f (make l) = refl
  same_reply no_line (unlinked y) f (call c) = refl
  same_reply no_line (linked y st) f o = absurd f
  same_reply no_line apart f o = absurd f
  same_reply (on_line l cs) (unlinked y) f o = absurd f
  same_reply (on_line l cs) (linked y st) f (make m) = refl
  same_reply (on_line l cs) (linked y st) f (call c) =
      let r = replay R x (setup_of l) cs in
      ap (λ z. said (step (R.choices z) (R.means z) r.state c).answer) (sym f.0) ∙ ap (λ t. said (step (R.choices y) (R.means y) t c).answer) (sym f.1)
  same_reply (on_line l cs) apart f o = absurd f

  linked_follows : (l : ℕ) (y : X) (o : Option Refusal) → y ≡ x → Follows (link_spells l o) (link_after y l o)
  linked_follows l y None e = (e, refl)
  linked_follows l y (Some r) e = e

  then_follows : (p : Spelled) (s : Stage X) → Follows p s → (o : Order) → Follows (spelled_after p o) (stage_after R s o)
  then_follows no_line (unlinked y) f (make l) = linked_follows l y (make_refusal l) f
  then_follows no_line (unlinked y) f (call c) = f
  then_follows no_line (linked y st) f o = absurd f
  then_follows no_line apart f o = absurd f
  then_follows (on_line l cs) (unlinked y) f o = absurd f
  then_follows (on_line l cs) (linked y st) f (make m) = f
  then_follows (on_line l cs) (linked y st) f (call c) =
      let r = replay R x (setup_of l) cs in
      let push = calls_push R (new x (setup_of l)) cs c in (
        ap (λ z. rule_after R z c (refusal (R.choices z) st c)) f.0 ∙ ap (λ t. rule_after R r.rule c (refusal (R.choices r.rule) t c)) f.1 ∙ ap (λ (q : Run X). q.rule) (sym push),
        ap (λ z. (step (R.choices z) (R.means z) st c).state) f.0 ∙ ap (λ t. (step (R.choices r.rule) (R.means r.rule) t c).state) f.1 ∙ ap (λ (q : Run X). q.state) (sym push),
      )
  then_follows (on_line l cs) apart f o = absurd f

  same_text : (p : Spelled) (s : Stage X) → Follows p s → (n : ℕ) (rd : Reading) → line_text (spelled_reply R x) spelled_after p n rd ≡ line_text (stage_reply R) (stage_after R) s n rd
  same_text p s f n (good form) = ap (reply_text n) (same_reply p s f (order_of form))
  same_text p s f n (wrong e c) = refl

  line_follows : (p : Spelled) (s : Stage X) → Follows p s → (rd : Reading) → Follows (line_after (spelled_reply R x) spelled_after p rd) (line_after (stage_reply R) (stage_after R) s rd)
  line_follows p s f (good form) = then_follows p s f (order_of form)
  line_follows p s f (wrong e c) = f

  same_lines : (p : Spelled) (s : Stage X) → Follows p s → (n free : ℕ) (ls : List (List ℕ)) → run_lines (spelled_reply R x) spelled_after p n free ls ≡ run_lines (stage_reply R) (stage_after R) s n free ls
  same_lines p s f n free [] = refl
  same_lines p s f n free (l ∷ ls) =
      let p' = line_after (spelled_reply R x) spelled_after p (read l) in
      let s' = line_after (stage_reply R) (stage_after R) s (read l) in
      let T = line_text (spelled_reply R x) spelled_after p n (read l) in
      ap (λ rest. cond (ltb free 192) (page_fault n) (T ++ rest)) (same_lines p' s' (line_follows p s f (read l)) (suc n) (free - length T) ls)
      ∙ ap (λ t. cond (ltb free 192) (page_fault n) (t ++ run_lines (stage_reply R) (stage_after R) s' (suc n) (free - length t) ls)) (same_text p s f n (read l))

  -- so the program writes what the text spells
  pub writes_spelled : (s : Stage X) → s ≡ unlinked x → (size : ℕ) (text : List ℕ) → run_text (stage_reply R) (stage_after R) s size text ≡ page_of R x size text
  writes_spelled s is size text =
      ap (λ t. run_text (stage_reply R) (stage_after R) t size text) is
      ∙ ap (λ l. cond (ltb size 32) [] (cond (ltb 65536 (length text)) text_fault l)) (sym (same_lines no_line (unlinked x) refl 1 size (lines text)))

  -- a line that was spelled is proper, and so all is promised of its calls
  abbrev ProperLine : Spelled → Type 0
  ProperLine no_line = Unit {0}
  ProperLine (on_line l cs) = Proper (setup_of l)

  linked_proper : (l : ℕ) (o : Option Refusal) → make_refusal l ≡ o → ProperLine (link_spells l o)
  linked_proper l None e = made_proper l e
  linked_proper l (Some r) e = tt

  then_proper : (p : Spelled) → ProperLine p → (o : Order) → ProperLine (spelled_after p o)
  then_proper no_line h (make l) = linked_proper l (make_refusal l) refl
  then_proper no_line h (call c) = tt
  then_proper (on_line l cs) h (make m) = h
  then_proper (on_line l cs) h (call c) = h

  line_proper : (p : Spelled) → ProperLine p → (rd : Reading) → ProperLine (line_after (spelled_reply R x) spelled_after p rd)
  line_proper p h (good form) = then_proper p h (order_of form)
  line_proper p h (wrong e c) = h

  lines_proper : (p : Spelled) → ProperLine p → (n free : ℕ) (ls : List (List ℕ)) → ProperLine (lines_after (spelled_reply R x) spelled_after p n free ls)
  lines_proper p h n free [] = h
  lines_proper p h n free (l ∷ ls) =
      cond_both (ltb free 192) p _ ProperLine (λ _. h) (λ _. lines_proper (line_after (spelled_reply R x) spelled_after p (read l)) (line_proper p h (read l)) (suc n) (free - length (line_text (spelled_reply R x) spelled_after p n (read l))) ls)

  kept : Lawful R x → (p : Spelled) → ProperLine p → Kept R x p
  kept law no_line h = tt
  kept law (on_line l cs) h = promised R x (setup_of l) cs law h

  pub spelled_kept : Lawful R x → (size : ℕ) (text : List ℕ) → Kept R x (spelled_in R x size text)
  spelled_kept law size text =
      kept law (spelled_in R x size text)
      (cond_both (ltb size 32) no_line _ ProperLine (λ _. tt) (λ _. cond_both (ltb 65536 (length text)) no_line _ ProperLine (λ _. tt) (λ _. lines_proper no_line tt 1 size (lines text))))
