-- Events that are the same but for their lines are filled to the same.
use Rattle.std.proofs.Common.{◌≡◌, ℕ, length, map, refl, sym, ap, ◌∙◌, arith, inl, inr}
use Rattle.std.proofs.lemmas.List.{length-map}
use Rattle.run_model.specs.Cut.{Cut, count}
use Rattle.event_log.specs.declared.log.Event.{Event}
use Rattle.greatest_reach.proofs.Backs.{Agrees, same_within}
use Rattle.vector_clock.specs.Events.{Events, own_events}
use Rattle.vector_clock.specs.Fill.{Place, IsThere, event_at, Links, Gives, HasClockOf}
use Rattle.vector_clock.proofs.OneClock.{one_clock}
use Rattle.clock_laws.specs.Clocked.{without_clock}
use Rattle.clock_laws.proofs.Same.{own_mapped, event_mapped, same_count, same_len, same_there, same_at, same_send, same_places}
use Rattle.clock_laws.proofs.Staying.{HasSame, gives_same, links_same}
use Rattle.clock_laws.proofs.Behind.{AreClocked}
use Rattle.equal_runs.specs.OneRun.{without_line, without_lines}

-- ---- one clock

module _ (one other : Events) (same : without_lines one ≡ without_lines other) where
  has_same : (x : Place) → IsThere one x → HasSame one other x
  has_same x there =
      let at : without_line (event_at other x) ≡ without_line (event_at one x) = sym (same_at without_line one other same refl x) in
      record {
        there = same_there without_line one other same x there;
        clock = ap (λ (e : Event). e.clock) at;
        kind = ap (λ (e : Event). e.kind) at;
      }

  links_on : (x y : Place) → Links one (λ z. one) x y → Links other (λ z. other) x y
  links_on x y l = links_same one other (λ z. one) (λ z. other) x y (has_same x l.left_out.0) (λ m is. sym (same_send without_line one other same m (λ e. refl))) l

  gives_on : (j : ℕ) (x : Place) (n : ℕ) → Gives one j x n → Gives other j x n
  gives_on j x n (inl w) = gives_same one other j x n (has_same x w.0.0) (inl w)
  gives_on j x n (inr o) = gives_same one other j x n (has_same x o.0.0) (inr o)

abbrev Anywhere : Place → Type 0
Anywhere x = Unit {0}

-- the clock of an event goes by what the events are but for their lines
pub clock_on : (one other : Events) (x : Place) (c : Cut) → without_lines one ≡ without_lines other → HasClockOf one (λ z. one) x c → HasClockOf other (λ z. other) x c
clock_on one other x c same has = record {
  width = has.width ∙ same_count without_line one other same;
  counts = λ j below. same_within (Links one (λ z. one)) (Links other (λ z. other)) (Gives one j) (Gives other j) Anywhere (agrees j) x (count c j) tt
      (has.counts j (omega (arith, below, same_count without_line one other same)));
}
  where
    agrees : (j : ℕ) → Agrees (Links one (λ z. one)) (Links other (λ z. other)) (Gives one j) (Gives other j) Anywhere
    agrees j = record {
      stays = λ y z here l. tt;
      link = λ y z here l. links_on one other same y z l;
      linked = λ y z here l. links_on other one (sym same) y z l;
      gives = λ y n here g. gives_on one other same j y n g;
      given = λ y n here g. gives_on other one (sym same) j y n g;
    }

-- ---- all events

-- an event without its line, by what is left of it without its clock, and by its clock
one_line : (e f : Event) → without_line (without_clock e) ≡ without_line (without_clock f) → e.clock ≡ f.clock → without_line e ≡ without_line f
one_line e f same clock = λ i. record (same i) { clock = clock i }

module _ (one other filled full : Events) (same : without_lines one ≡ without_lines other) (left : AreClocked one filled (λ z. one)) (right : AreClocked other full (λ z. other)) where
  clocks : (x : Place) → IsThere one x → (event_at filled x).clock ≡ (event_at full x).clock
  clocks x there =
      one_clock other (λ z. other) x (event_at filled x).clock (event_at full x).clock
      (clock_on one other x (event_at filled x).clock same (left.clocks x there)) (right.clocks x (same_there without_line one other same x there))

  rest : (x : Place) → without_line (without_clock (event_at filled x)) ≡ without_line (without_clock (event_at full x))
  rest x =
      ap without_line (same_at without_clock filled one left.events refl x) ∙ ap without_clock (same_at without_line one other same refl x)
      ∙ ap without_line (sym (same_at without_clock full other right.events refl x))

  pub same_filled : without_lines filled ≡ without_lines full
  same_filled = same_places (without_lines filled) (without_lines full)
      (length-map filled (map without_line) ∙ count_is ∙ sym (length-map full (map without_line)))
      (λ p. ap length (own_mapped without_line filled p) ∙ length-map (own_events filled p) without_line ∙ len_is p ∙ sym (ap length (own_mapped without_line full p) ∙ length-map (own_events full p) without_line))
      (λ x there. event_mapped without_line refl filled x ∙ one_line (event_at filled x) (event_at full x) (rest x) (clocks x (there_raw x there)) ∙ sym (event_mapped without_line refl full x))
    where
      count_is : length filled ≡ length full
      count_is = same_count without_clock filled one left.events ∙ same_count without_line one other same ∙ sym (same_count without_clock full other right.events)

      len_is : (p : ℕ) → length (own_events filled p) ≡ length (own_events full p)
      len_is p = same_len without_clock filled one left.events p ∙ same_len without_line one other same p ∙ sym (same_len without_clock full other right.events p)

      there_raw : (x : Place) → IsThere (without_lines filled) x → IsThere one x
      there_raw x there = same_there without_clock filled one left.events x (record {
        process = omega (arith, there.process, length-map filled (map without_line));
        first = there.first;
        last = omega (arith, there.last, ap length (own_mapped without_line filled x.process), length-map (own_events filled x.process) without_line);
      })
