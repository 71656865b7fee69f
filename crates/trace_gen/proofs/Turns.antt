-- What the code makes is what the definitions make.
use Rattle.std.proofs.Common.{◌≡◌, ◌∙◌, ℕ, ◌+◌, ◌%◌, ◌<◌, ◌≤◌, true, false, ◌&&◌, List, ◌∷◌, length, set, sym, ap}
use Rattle.std.specs.Prelude.{◌==◌, nat_le, Result, Ok, Err, IfOk, OnOk}
use Rattle.std.proofs.lemmas.Bool.{cond-true, cond-false, le-leb, lt-leb}
use Rattle.event_log.specs.declared.log.Event.{Event}
use Rattle.trace_gen.specs.declared.queue.Sent.{Sent}
use Rattle.trace_gen.specs.declared.process.Process.{Process}
use Rattle.trace_gen.specs.Making.{Processes, Made, process_at, advanced, received, receipt_by}
use Rattle.trace_gen.specs.Making.{taking, sending, internal, peer, made}

pub receipt_is : (ps : Processes) (i line : ℕ) (p q : Process) (m : Sent) (others : List Sent) (e : Event) → process_at ps i ≡ p → p.waiting ≡ m ∷ others
    → e ≡ receipt_by i line m (advanced (record p { waiting = others }) i) → q ≡ received (advanced (record p { waiting = others }) i) m
    → ◌≡◌ {A = Made} (record { event = e; processes = set ps i q }) (taking i line (process_at ps i).waiting ps)
receipt_is ps i line p q m others e here waits event after =
    let one : ◌≡◌ {A = Made} (record { event = e; processes = set ps i q })
    (record { event = receipt_by i line m (advanced (record p { waiting = others }) i); processes = set ps i (received (advanced (record p { waiting = others }) i) m) }) =
    λ j. record { event = event j; processes = set ps i (after j) } in
    one ∙ ap (λ (r : Process). record {
      event = receipt_by i line m (advanced (record r { waiting = others }) i);
      processes = set ps i (received (advanced (record r { waiting = others }) i) m);
    }) (sym here)
    ∙ ap (λ (w : List Sent). taking i line w ps) (sym (ap (λ (r : Process). r.waiting) here ∙ waits))

abbrev pub turn : ℕ → Processes → ℕ
turn k ps = k % length ps

abbrev pub line_at : ℕ → Processes → ℕ
line_at k ps = length ps + 3 + k

-- the three kinds of turn, by the word
pub made_low : (k w : ℕ) (ps : Processes) → w % 4 ≤ 1 → made (length ps) k w ps ≡ taking (turn k ps) (line_at k ps) (process_at ps (turn k ps)).waiting ps
unfolding made
made_low k w ps low = cond-true (nat_le (w % 4) 1) _ _ (le-leb (w % 4) 1 low)

pub made_send : (k w : ℕ) (ps : Processes) → 1 < w % 4 → ((w % 4 == 3) && nat_le 2 (length ps)) ≡ true
    → made (length ps) k w ps ≡ sending (turn k ps) (line_at k ps) (peer (length ps) (turn k ps) w) k ps
unfolding made
made_send k w ps high send = cond-false (nat_le (w % 4) 1) _ _ (lt-leb (w % 4) 1 high) ∙ cond-true ((w % 4 == 3) && nat_le 2 (length ps)) _ _ send

pub made_else : (k w : ℕ) (ps : Processes) → 1 < w % 4 → ((w % 4 == 3) && nat_le 2 (length ps)) ≡ false
    → made (length ps) k w ps ≡ internal (turn k ps) (line_at k ps) ps
unfolding made
made_else k w ps high other = cond-false (nat_le (w % 4) 1) _ _ (lt-leb (w % 4) 1 high) ∙ cond-false ((w % 4 == 3) && nat_le 2 (length ps)) _ _ other

-- an answer that is Ok has both
pub both_ok : {T E : Type 0} (r : Result T E) (P R : T → Type 0) (Q : Type 0) → IfOk r P → OnOk r Q → ((x : T) → P x → Q → R x) → IfOk r R
both_ok (Ok x) P R Q p q on = on x p q
both_ok (Err e) P R Q p q on = tt
