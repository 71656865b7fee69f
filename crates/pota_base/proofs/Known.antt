-- Known bytes that are written piece by piece.
use Rattle.std.proofs.Common.{◌≡◌, ℕ, ◌≤◌, ◌-◌, List, ◌++◌, Option, sym, ap, ◌∙◌, append_assoc, length, take, drop, arith}
use Rattle.std.proofs.lemmas.List.{take_rest, take-append-drop}
use Rattle.std.specs.Io.KnownBytes.{Appends}
use Rattle.std.proofs.KnownBytes.{Appends-trans}

-- what stands between two writes of one text
pub record WrittenSoFar (held held' : Option (List ℕ)) (before now : ℕ) (text rest : List ℕ) : Type 0 where
  pub front : List ℕ
  pub split : text ≡ front ++ rest
  pub grown : Appends held held' front
  pub later : before ≤ now

-- one more write took the first n bytes of the rest
pub written_more : (held held' held'' : Option (List ℕ)) (before now now' n : ℕ) (text rest : List ℕ)
    → WrittenSoFar held held' before now text rest → Appends held' held'' (take n rest) → now ≤ now'
    → WrittenSoFar held held'' before now' text (take (length rest - n) (drop n rest))
written_more held held' held'' before now now' n text rest w more later = record {
  front = w.front ++ take n rest;
  split = w.split ∙ ap (λ (r : List ℕ). w.front ++ r) (sym (take-append-drop n rest))
      ∙ sym (append_assoc w.front (take n rest) (drop n rest))
      ∙ ap (λ (r : List ℕ). (w.front ++ take n rest) ++ r) (sym (take_rest rest n));
  grown = Appends-trans held held' held'' w.front (take n rest) w.grown more;
  later = omega (arith, w.later);
}
