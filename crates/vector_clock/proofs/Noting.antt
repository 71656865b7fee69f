-- What is kept of a message once its entry is written.
use Rattle.std.proofs.Common.{◌≡◌, ◌∙◌, ℕ, Bool, sym, ap, arith, inl, inr}
use Rattle.std.specs.Prelude.{Option, None, Some, if◌then◌else◌}
use Rattle.std.specs.Option.{option_or, unwrap_or}
use Rattle.std.specs.BTreeMap.{BTreeMap, get, is_at, Updates}
use Rattle.std.proofs.lemmas.Bool.{cases_Bool, cond-true, cond-false}
use Rattle.std.proofs.lemmas.Grind.{common_steps}
use Rattle.vector_clock.specs.declared.message.Message.{Message}
use Rattle.vector_clock.specs.declared.places.Met.{Met}
use Rattle.vector_clock.specs.Messages.{is_same}
use Rattle.vector_clock.specs.Met.{message_cmp, nowhere}
use Rattle.vector_clock.specs.inside.Met.{IsNoted}

-- the places that a map has for a message
abbrev pub mapped_in : BTreeMap Message Met → Message → Met
mapped_in b m = unwrap_or (get message_cmp b m) nowhere

same_key : (n m : Message) → is_at (message_cmp n) m ≡ is_same n m
same_key n m = grind (arith, common_steps)

one_written : (n m : Message) (w : Met) (old : Option Met) (part : Met → Option ℕ) → part (unwrap_or (if is_at (message_cmp n) m then Some w else old) nowhere) ≡ (if is_same n m then part w else part (unwrap_or old nowhere))
one_written n m w old part = ap (λ (b : Bool). part (unwrap_or (if b then Some w else old) nowhere)) (same_key n m) ∙ elim (cases_Bool (is_same n m)) [
  | inl same ↦ ap (λ (o : Option Met). part (unwrap_or o nowhere)) (cond-true (is_same n m) (Some w) old same) ∙ sym (cond-true (is_same n m) (part w) (part (unwrap_or old nowhere)) same)
  | inr other ↦ ap (λ (o : Option Met). part (unwrap_or o nowhere)) (cond-false (is_same n m) (Some w) old other) ∙ sym (cond-false (is_same n m) (part w) (part (unwrap_or old nowhere)) other)
]

written : (old new : BTreeMap Message Met) (n : Message) (met w : Met) → ((q : Message) → get message_cmp new q ≡ (if is_at (message_cmp n) q then Some w else get message_cmp old q)) → w.sent ≡ option_or (mapped_in old n).sent met.sent → w.received ≡ option_or (mapped_in old n).received met.received
    → IsNoted (mapped_in old) (mapped_in new) n met
written old new n met w updates sent received = record {
  sent = λ m. ap (λ (o : Option Met). (unwrap_or o nowhere).sent) (updates m) ∙ one_written n m w (get message_cmp old m) (λ x. x.sent) ∙ ap (λ (o : Option ℕ). if is_same n m then o else (mapped_in old m).sent) sent;
  received = λ m. ap (λ (o : Option Met). (unwrap_or o nowhere).received) (updates m) ∙ one_written n m w (get message_cmp old m) (λ x. x.received) ∙ ap (λ (o : Option ℕ). if is_same n m then o else (mapped_in old m).received) received;
}

pub first_written : (old new : BTreeMap Message Met) (between : BTreeMap Message Met) (n : Message) (met : Met) → get message_cmp old n ≡ None → Updates message_cmp between new n (Some met) → between ≡ old → IsNoted (mapped_in old) (mapped_in new) n met
first_written old new between n met none updates same =
    let at : mapped_in old n ≡ nowhere = ap (λ (o : Option Met). unwrap_or o nowhere) none in
    written old new n met met (λ q. updates.0 q ∙ ap (λ (b : BTreeMap Message Met). if is_at (message_cmp n) q then Some met else get message_cmp b q) same)
    (sym (ap (λ (x : Met). option_or x.sent met.sent) at)) (sym (ap (λ (x : Met). option_or x.received met.received) at))
