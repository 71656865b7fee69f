-- What `serde_json` reads, as a clock.
use Rattle.std.proofs.Common.{◌≡◌, Bool, true, false, Option, Some, None, List, ℕ, refl, sym, ap, ◌∙◌}
use Rattle.std.specs.Prelude.{option_and_then, if◌then◌else◌}
use Rattle.std.specs.Str.{IsUtf8, is_utf8}
use Rattle.std.proofs.lemmas.Str.{IsUtf8-from_is_utf8, is_utf8-from_IsUtf8}
use Rattle.serde_json.specs.Data.{Data, Members}
use Rattle.serde_json.specs.Find.{as_object}
use Rattle.serde_json.specs.Read.{read}
use Rattle.vclog_import.specs.Clock.{if_counters, value_in, clock_in}

value_read : (text : List ℕ) (d : Data) → IsUtf8 text → read text ≡ Some d → value_in text ≡ Some d
unfolding value_in
value_read text d utf8 is = rw (is_utf8-from_IsUtf8 text utf8) is

value_refused : (text : List ℕ) → (IsUtf8 text → read text ≡ None) → value_in text ≡ None
unfolding value_in
value_refused text none = go (is_utf8 text) refl
  where
    go : (b : Bool) → is_utf8 text ≡ b → (if b then read text else None) ≡ None
    go true is = none (IsUtf8-from_is_utf8 text is)
    go false is = refl

pub clock_read : (text : List ℕ) (d : Data) (found : Option Members) → IsUtf8 text → read text ≡ Some d → found ≡ option_and_then if_counters (as_object d) → found ≡ clock_in text
unfolding clock_in
clock_read text d found utf8 is told = told ∙ sym (ap (λ (o : Option Data). option_and_then if_counters (option_and_then as_object o)) (value_read text d utf8 is))

pub clock_refused : (text : List ℕ) → (IsUtf8 text → read text ≡ None) → None ≡ clock_in text
unfolding clock_in
clock_refused text none = sym (ap (λ (o : Option Data). option_and_then if_counters (option_and_then as_object o)) (value_refused text none))

pub memory_false : (b : Bool) → b ≡ false → b ≡ true → ⊥
memory_false true is e = absurd cc
memory_false false is e = absurd cc
