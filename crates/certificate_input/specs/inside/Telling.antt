-- What is told where the bytes end, and what is kept while they come.
use Rattle.std.specs.Prelude.{ℕ, ◌+◌, ◌-◌, ◌*◌, ◌^◌, List, [], length, Option, None, Some}
use Rattle.pota_base.specs.Limits.{longest_certificate_line}
use Rattle.certificate_lines.specs.declared.line.Line.{Line}
use Rattle.certificate_text.specs.Taking.{VerifierView}
use Rattle.certificate_text.specs.Bytes.{Judged, RefusedAt}
use Rattle.certificate_input.specs.declared.told.Told.{Told}
use Rattle.certificate_input.specs.declared.told.Told.TheVariants as told
use Rattle.certificate_input.specs.Pieces.{Reaches, RefusedWithin}
use Rattle.certificate_input.specs.inside.Pieces.{InputView, IsReady}

-- what is told where no byte comes behind those that came
abbrev pub IsEnd : {N : Type 0} → (N → Line → N → Type 0) → InputView N → Told → Type 0
IsEnd follows v (told.Accepted truth) = Judged follows [] v.text v.line truth
IsEnd follows v (told.Refused n) = RefusedAt follows [] v.text v.line n
IsEnd follows v told.Failed = ⊥

-- no line of these bytes is refused, and this is kept of them
abbrev pub LeadsTo : {N : Type 0} → (N → Line → N → Type 0) → VerifierView N → List ℕ → InputView N
    → Type 0
LeadsTo follows first bytes v = Reaches follows bytes first [] v.text v.line × IsReady v

-- the line of this number is refused within these bytes
abbrev pub IsRefused : {N : Type 0} → (N → Line → N → Type 0) → VerifierView N → List ℕ → Option ℕ
    → Type 0
IsRefused follows first bytes None = ⊥
IsRefused follows first bytes (Some n) = RefusedWithin follows bytes first [] n

-- how many bytes more there may be, before the lines can't be counted
abbrev pub bytes_left : {N : Type 0} → InputView N → ℕ
bytes_left v =
    2 ^ 64 * (longest_certificate_line + 1)
    - (v.lines * (longest_certificate_line + 1) + length v.line)
