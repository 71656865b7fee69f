-- Worked by hand: texts with names that stand for processes, first faults, and instances.
use Rattle.std.specs.Prelude.{◌≡◌, ℕ, Option, None, Some, Result, Ok, Err, codes, refl}
use Rattle.question_text.specs.declared.head.Span.{Span}
use Rattle.question_instances.specs.Over.{fault_at, over_of}
use Rattle.question_instances.specs.declared.over.Over.{Over}
use Rattle.question_instances.specs.declared.over.OverCode.{OverCode}
use Rattle.question_instances.specs.declared.over.OverCode.TheVariants as code
use Rattle.question_instances.specs.declared.over.OverFault.{OverFault}

abbrev span : ℕ → ℕ → Span
span from to = record { from = from; to = to }

abbrev over : ℕ → Span → Option Span → ℕ → Result (Option Over) OverFault
over from first second to =
    Ok (Some (record { from = from; first = first; second = second; to = to }))

abbrev refused : OverCode → ℕ → Result (Option Over) OverFault
refused code place = Err (fault_at code place)

-- ---- names

two : over_of (codes "for p q: never p.cs = 1 & q.cs = 1") ≡ over 0 (span 4 5) (Some (span 6 7)) 8
unfolding over_of
two = refl

one : over_of (codes "for p: never p.x = 3") ≡ over 0 (span 4 5) None 6
unfolding over_of
one = refl

behind_a_name : over_of (codes "lock: for p q : never p.x = 1")
    ≡ over 6 (span 10 11) (Some (span 12 13)) 15
unfolding over_of
behind_a_name = refl

without : over_of (codes "lock: never a.x = 1") ≡ Ok None
unfolding over_of
without = refl

-- a process may be named so
process_for : over_of (codes "for.x = 1") ≡ Ok None
unfolding over_of
process_for = refl

longer_word : over_of (codes "format: a.x = 1") ≡ Ok None
unfolding over_of
longer_word = refl

-- ---- faults

name_missing : over_of (codes "for : never a.x = 1") ≡ refused code.NoName 4
unfolding over_of
name_missing = refl

number_as_name : over_of (codes "for p 2: never p.x = 1") ≡ refused code.NoName 6
unfolding over_of
number_as_name = refl

name_twice : over_of (codes "for p p: never p.x = 1") ≡ refused code.SameName 6
unfolding over_of
name_twice = refl

colon_missing : over_of (codes "for p q never p.x = 1") ≡ refused code.NoColon 8
unfolding over_of
colon_missing = refl

third_name : over_of (codes "for p q r: never p.x = 1") ≡ refused code.NoColon 8
unfolding over_of
third_name = refl
