-- Texts that are too long.
use Rattle.std.proofs.Common.{◌≡◌, ℕ, ◌+◌, ◌<◌, ◌≤◌, Bool, true, Option, Some, None, List, [], ◌++◌, length, take, refl, sym, ap, ◌∙◌, arith, ltb, length-append}
use Rattle.std.specs.Prelude.{is_some, not, ◌||◌, ◌==◌}
use Rattle.std.proofs.lemmas.Bool.Decides.{nat_tests}
use Rattle.std.proofs.lemmas.List.{take-append-le}
use Rattle.pota_base.specs.Limits.{longest_kept, longest_log}
use Rattle.log_lines.specs.Reading.{choose}
use Rattle.fault_kinds.specs.declared.import.ImportFault.{ImportFault}
use Rattle.fault_kinds.specs.declared.import.ImportCode.TheVariants as code
use Rattle.vclog_import.specs.Lines.{lines_in, feeds, records_in, is_due_behind}
use Rattle.vclog_import.specs.Faults.{is_too_long, is_truncated, judged, last_line, ended_at, end_fault, first_of, line_fault, host_fault, fault_of}
use Rattle.vclog_import.specs.Laws.{LongTextsAreFaulty}

longer : (m n : ℕ) → m < n → ltb m n ≡ true
longer m n lt = grind (arith, nat_tests)

is_long : (text : List ℕ) → longest_kept ≤ length text → is_too_long text ≡ true
is_long text long = longer longest_log (length text) (omega (arith, long))

-- the fault of a text with this front
abbrev fault_by : Bool → List ℕ → Option ImportFault
fault_by long front =
    choose (first_of line_fault [] (records_in true 1 (lines_in (not long) front))) (λ (f : ImportFault). Some f)
    (choose (ended_at (feeds front + 1) long (not (is_due_behind true (lines_in (not long) front)) || length (records_in true 1 (lines_in (not long) front)) == 0)) (λ (f : ImportFault). Some f) (host_fault (records_in true 1 (lines_in (not long) front))))

pub long_texts_are_faulty : LongTextsAreFaulty
long_texts_are_faulty text more long = (some, same)
  where
    chosen : (o : Option ImportFault) (f : ImportFault) (rest : Option ImportFault) → is_some (choose o (λ (g : ImportFault). Some g) (choose (Some f) (λ (g : ImportFault). Some g) rest)) ≡ true
    chosen None f rest = refl
    chosen (Some g) f rest = refl

    some : is_some (fault_of text) ≡ true
    some =
        let ends : end_fault text ≡ Some (record { code = code.TooLong; line = last_line text }) = ap (λ (b : Bool). ended_at (last_line text) b (is_truncated text)) (is_long text long) in
        ap (λ (o : Option ImportFault). is_some (choose (first_of line_fault [] (judged text)) (λ (g : ImportFault). Some g) (choose o (λ (g : ImportFault). Some g) (host_fault (judged text))))) ends
        ∙ chosen (first_of line_fault [] (judged text)) (record { code = code.TooLong; line = last_line text }) (host_fault (judged text))

    front : take longest_log (text ++ more) ≡ take longest_log text
    front = take-append-le longest_log text more (omega (arith, long))

    both : is_too_long (text ++ more) ≡ is_too_long text
    both = is_long (text ++ more) (omega (arith, long, length-append text more)) ∙ sym (is_long text long)

    same : fault_of (text ++ more) ≡ fault_of text
    same = ap (λ (b : Bool). fault_by b (take longest_log (text ++ more))) both ∙ ap (fault_by (is_too_long text)) front
