-- What is accepted is a run, and a run is accepted.
use Rattle.std.proofs.Common.{◌≡◌, ℕ, ◌+◌, Bool, List, [], ◌∷◌, ◌++◌, map, refl, sym, ap, subst, ◌∙◌}
use Rattle.std.specs.Prelude.{All}
use Rattle.std.proofs.lemmas.List.Elements.{All-head, All-tail, All-cons, All-nil}
use Rattle.certificate_lines.specs.declared.line.Line.{Line}
use Rattle.certificate_lines.specs.declared.line.Line.TheVariants.{Node, Row, Raise, Verdict}
use Rattle.certificate_lines.specs.Spelling.{LineFits, line_text, title, end_line}
use Rattle.certificate_text.specs.declared.said.Stage.{Stage}
use Rattle.certificate_text.specs.declared.said.Stage.TheVariants as stage
use Rattle.certificate_text.specs.Taking.{VerifierView, stage_after, TakesLine, AreAccepted, fresh}
use Rattle.certificate_text.specs.Running.{AllFollow, IsOfNode, AreNodesAndVerdict, IsCertificate, certificate_lines}

same-truth : (b told : Bool) → stage.Accepted b ≡ stage.Accepted told → b ≡ told
same-truth b told e = cc e

module _ {N : Type 0} (follows : N → Line → N → Type 0) where
  abbrev made : List ℕ → N → Stage → ℕ → VerifierView N
  made formula nodes due lines = record { formula = formula; nodes = nodes; stage = due; lines = lines }

  -- ---- what is accepted is a run

  nothing-behind : (formula : List ℕ) (v : N) (count : ℕ) (b told : Bool) (texts : List (List ℕ)) → AreAccepted follows (made formula v (stage.Accepted b) count) texts told → (texts ≡ []) × (b ≡ told)
  nothing-behind formula v count b told [] h = (refl, same-truth b told h)
  nothing-behind formula v count b told (t ∷ ts) h = absurd h.1

  ending : (formula : List ℕ) (v : N) (count : ℕ) (b told : Bool) (texts : List (List ℕ)) → AreAccepted follows (made formula v (stage.Ending b) count) texts told → (texts ≡ end_line ∷ []) × (b ≡ told)
  ending formula v count b told [] h = absurd cc
  ending formula v count b told (t ∷ ts) h =
      let behind = nothing-behind formula v (count + 1) b told ts (subst (λ (x : VerifierView N). AreAccepted follows x ts told) h.1.leaves h.2) in
      (cc (h.1.is, behind.0), behind.1)

  -- the lines of the nodes and the verdict, with what is behind them
  abbrev HasRun : N → List (List ℕ) → Bool → Type 0
  HasRun v texts told = (lines : List Line) × AreNodesAndVerdict follows v lines told × (texts ≡ map line_text lines ++ end_line ∷ [])

  run-more : (v n : N) (l : Line) (t : List ℕ) (ts : List (List ℕ)) (told : Bool) → IsOfNode l → LineFits l → follows v l n → t ≡ line_text l → HasRun n ts told → HasRun v (t ∷ ts) told
  run-more v n l t ts told of_node fits next is (lines, r, e) = (
    l ∷ lines,
    record {
      body = l ∷ r.body;
      of_nodes = All-cons IsOfNode l r.body of_node r.of_nodes;
      fits = All-cons LineFits l r.body fits r.fits;
      mid = r.mid;
      all = (n, next, r.all);
      after = r.after;
      verdict = r.verdict;
      lines_are = ap (λ (x : List Line). l ∷ x) r.lines_are;
    },
    ap (λ (x : List ℕ). x ∷ ts) is ∙ ap (λ (x : List (List ℕ)). line_text l ∷ x) e,
  )

  run-ends : (v n : N) (told : Bool) → follows v (Verdict told) n → AreNodesAndVerdict follows v (Verdict told ∷ []) told
  run-ends v n told next = record { body = []; of_nodes = All-nil IsOfNode; fits = All-nil LineFits; mid = v; all = refl; after = n; verdict = next; lines_are = refl }

  step : (formula : List ℕ) (v n : N) (count : ℕ) (said : Line) (t : List ℕ) (ts : List (List ℕ)) (told : Bool) → LineFits said → follows v said n → t ≡ line_text said
      → AreAccepted follows (made formula n (stage_after said) count) ts told → (AreAccepted follows (made formula n stage.Body count) ts told → HasRun n ts told) → HasRun v (t ∷ ts) told
  step formula v n count (Node number) t ts told fits next is h on = run-more v n (Node number) t ts told tt fits next is (on h)
  step formula v n count (Row row other) t ts told fits next is h on = run-more v n (Row row other) t ts told tt fits next is (on h)
  step formula v n count (Raise pull value) t ts told fits next is h on = run-more v n (Raise pull value) t ts told tt fits next is (on h)
  step formula v n count (Verdict b) t ts told fits next is h on =
      let e = ending formula n count b told ts h in (
        Verdict told ∷ [],
        run-ends v n told (subst (λ (x : Bool). follows v (Verdict x) n) e.1 next),
        ap (λ (x : List ℕ). x ∷ ts) (is ∙ ap (λ (x : Bool). line_text (Verdict x)) e.1) ∙ ap (λ (x : List (List ℕ)). line_text (Verdict told) ∷ x) e.0,
      )

  body-run : (formula : List ℕ) (v : N) (count : ℕ) (texts : List (List ℕ)) (told : Bool) → AreAccepted follows (made formula v stage.Body count) texts told → HasRun v texts told
  body-run formula v count [] told h = absurd cc
  body-run formula v count (t ∷ ts) told h =
      let l = h.1 in
      step formula v l.nodes (count + 1) l.said t ts told l.spells.fits l.justified l.spells.text (subst (λ (x : VerifierView N). AreAccepted follows x ts told) l.leaves h.2)
      (λ on. body-run formula l.nodes (count + 1) ts told on)

  behind-formula : (formula : List ℕ) (v : N) (texts : List (List ℕ)) (told : Bool) → AreAccepted follows (made formula v stage.Formula 1) texts told
      → (rest : List (List ℕ)) × (texts ≡ formula ∷ rest) × AreAccepted follows (made formula v stage.Body 2) rest told
  behind-formula formula v [] told h = absurd cc
  behind-formula formula v (t ∷ ts) told h = (ts, ap (λ (x : List ℕ). x ∷ ts) h.1.is, subst (λ (x : VerifierView N). AreAccepted follows x ts told) h.1.leaves h.2)

  behind-title : (formula : List ℕ) (v : N) (texts : List (List ℕ)) (told : Bool) → AreAccepted follows (fresh formula v) texts told
      → (rest : List (List ℕ)) × (texts ≡ title ∷ rest) × AreAccepted follows (made formula v stage.Formula 1) rest told
  behind-title formula v [] told h = absurd cc
  behind-title formula v (t ∷ ts) told h = (ts, ap (λ (x : List ℕ). x ∷ ts) h.1.is, subst (λ (x : VerifierView N). AreAccepted follows x ts told) h.1.leaves h.2)

  pub accepted_run : (formula : List ℕ) (v : N) (texts : List (List ℕ)) (told : Bool) → AreAccepted follows (fresh formula v) texts told → IsCertificate follows formula v texts told
  accepted_run formula v texts told h =
      let first = behind-title formula v texts told h in
      let second = behind-formula formula v first.0 told first.2 in
      let run = body-run formula v 2 second.0 told second.2 in
      (run.0, run.1, first.1 ∙ ap (λ (x : List (List ℕ)). title ∷ x) (second.1 ∙ ap (λ (x : List (List ℕ)). formula ∷ x) run.2))

  -- ---- a run is accepted

  taken-line : (formula : List ℕ) (v : N) (count : ℕ) (l : Line) (mid : N) → LineFits l → follows v l mid
      → TakesLine follows (made formula v stage.Body count) (line_text l) (made formula mid (stage_after l) (count + 1))
  taken-line formula v count l mid fits next = record { said = l; spells = record { fits = fits; text = refl }; nodes = mid; justified = next; leaves = refl }

  stays : (l : Line) → IsOfNode l → stage_after l ≡ stage.Body
  stays (Node number) h = refl
  stays (Row row other) h = refl
  stays (Raise pull value) h = refl
  stays (Verdict told) h = absurd h

  ended : (formula : List ℕ) (v : N) (count : ℕ) (told : Bool) (after : N) → follows v (Verdict told) after
      → AreAccepted follows (made formula v stage.Body count) (map line_text (Verdict told ∷ []) ++ end_line ∷ []) told
  ended formula v count told after next = (
    made formula after (stage.Ending told) (count + 1),
    taken-line formula v count (Verdict told) after tt next,
    (made formula after (stage.Accepted told) (count + 1 + 1), record { is = refl; leaves = refl }, refl),
  )

  body-accepted : (formula : List ℕ) (body : List Line) (v : N) (count : ℕ) (mid : N) (told : Bool) (after : N) → AllFollow follows v body mid → All IsOfNode body → All LineFits body
      → follows mid (Verdict told) after → AreAccepted follows (made formula v stage.Body count) (map line_text (body ++ Verdict told ∷ []) ++ end_line ∷ []) told
  body-accepted formula [] v count mid told after h of_nodes fits next = ended formula v count told after (subst (λ (x : N). follows x (Verdict told) after) h next)
  body-accepted formula (l ∷ ls) v count mid told after h of_nodes fits next = (
    made formula h.0 (stage_after l) (count + 1),
    taken-line formula v count l h.0 (All-head LineFits l ls fits) h.1,
    subst (λ (s : Stage). AreAccepted follows (made formula h.0 s (count + 1)) (map line_text (ls ++ Verdict told ∷ []) ++ end_line ∷ []) told)
        (sym (stays l (All-head IsOfNode l ls of_nodes))) (body-accepted formula ls h.0 (count + 1) mid told after h.2 (All-tail IsOfNode l ls of_nodes) (All-tail LineFits l ls fits) next),
  )

  pub run_accepted : (formula : List ℕ) (v : N) (lines : List Line) (told : Bool) → AreNodesAndVerdict follows v lines told → AreAccepted follows (fresh formula v) (certificate_lines formula lines) told
  run_accepted formula v lines told r =
      let body = body-accepted formula r.body v 2 r.mid told r.after r.all r.of_nodes r.fits r.verdict in (
        made formula v stage.Formula 1,
        record { is = refl; leaves = refl },
        (
          made formula v stage.Body 2,
          record { is = refl; leaves = refl },
          subst (λ (ls : List Line). AreAccepted follows (made formula v stage.Body 2) (map line_text ls ++ end_line ∷ []) told) (sym r.lines_are) body,
        ),
      )

  pub certificate_accepted : (formula : List ℕ) (v : N) (texts : List (List ℕ)) (told : Bool) → IsCertificate follows formula v texts told → AreAccepted follows (fresh formula v) texts told
  certificate_accepted formula v texts told h =
      subst (λ (x : List (List ℕ)). AreAccepted follows (fresh formula v) x told) (sym h.2) (run_accepted formula v h.0 told h.1)
