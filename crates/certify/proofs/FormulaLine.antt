-- The formula's line, where its text is short enough.
use Rattle.std.proofs.Common.{ℕ, ◌≤◌, List, length, refl, length-append, arith}
use Rattle.certificate_lines.specs.Spelling.{formula_line}
use Rattle.certificate_text.specs.Bytes.{HasNoFeed, IsLine}

pub formula_line_is : (bytes : List ℕ) → HasNoFeed bytes → length bytes ≤ 8184 → IsLine (formula_line bytes)
formula_line_is bytes free few = record {
  one = (refl, (refl, (refl, (refl, (refl, (refl, (refl, (refl, free))))))));
  short = simp length-append (omega (arith, few));
}
