-- What is written of a certificate while its lines come.
use Rattle.std.proofs.Common.{◌≡◌, ℕ, ◌≤◌, List, [], ◌∷◌, ◌++◌, Bool, Option, Some, None, map, refl, sym, ap, subst, ◌∙◌, append_assoc, append-nil, arith}
use Rattle.std.specs.Prelude.{All, Result, Ok, Err, IfOk, OnOk, OnErr}
use Rattle.std.specs.Io.KnownBytes.{Appends}
use Rattle.std.proofs.KnownBytes.{Appends-trans}
use Rattle.std.proofs.lemmas.List.{map-append}
use Rattle.std.proofs.lemmas.List.Elements.{All-append, All-cons, All-nil}
use Rattle.pota_base.specs.declared.fault.Failed.{Failed}
use Rattle.pota_base.specs.Outside.{AppendsPrefix, HasCause, IsPrefix, Rose}
use Rattle.pota_base.specs.Changes.{change_of}
use Rattle.certificate_lines.specs.declared.line.Line.{Line}
use Rattle.certificate_lines.specs.declared.line.Line.TheVariants.{Node, Row, Raise, Verdict}
use Rattle.certificate_lines.specs.Spelling.{line_text, lines_text, title, end_line}
use Rattle.certificate_text.specs.Running.{IsOfNode, certificate_lines}
use Rattle.certificate_next_line.specs.PassedOn.{NodesView, AreNodes}
use Rattle.certificate_next_line.specs.PassedOn.{IsNext, AreNext, IsWhole}
use Rattle.certificate_next_line.proofs.PassedOn.{is_front, one_whole}
use Rattle.certify.specs.inside.Written.{text_of, IsFrontOf, WroteAll, WroteFront, WroteUntil}
use Rattle.certify.specs.inside.Written.{IsWritten}

-- ---- texts

-- the text as far as these lines of nodes
abbrev pub text_so_far : List ℕ → List Line → List ℕ
text_so_far formula body = lines_text (title ∷ formula ∷ map line_text body)

lines_text-append : (xs ys : List (List ℕ)) → lines_text (xs ++ ys) ≡ lines_text xs ++ lines_text ys
lines_text-append [] ys = refl
lines_text-append (x ∷ xs) ys = ap (λ (t : List ℕ). x ++ 10 ∷ t) (lines_text-append xs ys) ∙ sym (append_assoc x (10 ∷ lines_text xs) (lines_text ys))

abbrev spelled : List Line → List (List ℕ)
spelled ls = map line_text ls

-- one line more
so-far-more : (formula : List ℕ) (body : List Line) (l : Line) → text_so_far formula (body ++ l ∷ []) ≡ text_so_far formula body ++ lines_text (line_text l ∷ [])
so-far-more formula body l =
    ap (λ (xs : List (List ℕ)). lines_text (title ∷ formula ∷ xs)) (map-append line_text body (l ∷ [])) ∙ lines_text-append (title ∷ formula ∷ spelled body) (line_text l ∷ [])

-- the whole text, where it goes on by more lines
whole-behind : (formula : List ℕ) (body more : List Line)
    → lines_text (certificate_lines formula (body ++ more)) ≡ text_so_far formula body ++ lines_text (spelled more ++ end_line ∷ [])
whole-behind formula body more =
    ap (λ (xs : List (List ℕ)). lines_text (title ∷ formula ∷ (xs ++ end_line ∷ []))) (map-append line_text body more)
    ∙ ap (λ (xs : List (List ℕ)). lines_text (title ∷ formula ∷ xs)) (append_assoc (spelled body) (spelled more) (end_line ∷ []))
    ∙ lines_text-append (title ∷ formula ∷ spelled body) (spelled more ++ end_line ∷ [])

-- ---- fronts

front-of-body : (formula : List ℕ) (v : NodesView) (body : List Line) (mid : NodesView) → AreNext v body mid → All IsOfNode body
    → (part rest : List ℕ) → text_so_far formula body ≡ part ++ rest → IsFrontOf v formula part
front-of-body formula v body mid next of_nodes part rest e = λ lines told nodes whole.
    let found = is_front v body mid lines told nodes next of_nodes whole in
    let tail = lines_text (spelled found.0 ++ end_line ∷ []) in (
      rest ++ tail,
      ap (text_of formula) found.1 ∙ whole-behind formula body found.0 ∙ ap (λ (t : List ℕ). t ++ tail) e ∙ append_assoc part rest tail,
    )

front-of-whole : (formula : List ℕ) (v : NodesView) (whole : List Line) (told : Bool) → IsWhole v whole told
    → (part rest : List ℕ) → text_of formula whole ≡ part ++ rest → IsFrontOf v formula part
front-of-whole formula v whole told is part rest e = λ lines truth nodes other. (
  rest,
  ap (text_of formula) (one_whole v lines whole truth told nodes other is) ∙ e,
)

-- ---- while lines come

-- these lines of nodes came in their order. What was written, and what waits, is the text so far
pub record Stands (held held' : Option (List ℕ)) (before now : ℕ) (formula waits : List ℕ) (v mid : NodesView) : Type 0 where
  pub body : List Line
  pub next : AreNext v body mid
  pub of_nodes : All IsOfNode body
  pub written : List ℕ
  pub grown : Appends held held' written
  pub text_is : text_so_far formula body ≡ written ++ waits
  pub calm : now ≡ before

keeps : (held : Option (List ℕ)) → Appends held held []
keeps None = tt
keeps (Some xs) = sym (append-nil xs)

pub stands-first : (held : Option (List ℕ)) (now : ℕ) (formula waits : List ℕ) (v : NodesView)
    → waits ≡ lines_text (title ∷ formula ∷ []) → Stands held held now now formula waits v v
stands-first held now formula waits v e = record { body = []; next = refl; of_nodes = All-nil IsOfNode; written = []; grown = keeps held; text_is = sym e; calm = refl }

next-more : (v : NodesView) (ls : List Line) (mid : NodesView) (l : Line) (after : NodesView) → AreNext v ls mid → IsNext mid l after → AreNext v (ls ++ l ∷ []) after
next-more v [] mid l after h next = (after, subst (λ (x : NodesView). IsNext x l after) h next, refl)
next-more v (k ∷ ls) mid l after h next = (h.0, h.1, next-more h.0 ls mid l after h.2 next)

all-more : (ls : List Line) (l : Line) → All IsOfNode ls → IsOfNode l → All IsOfNode (ls ++ l ∷ [])
all-more ls l h of_node = All-append IsOfNode ls (l ∷ []) h (All-cons IsOfNode l [] of_node (All-nil IsOfNode))

pub stands-more : (held held' : Option (List ℕ)) (before now : ℕ) (formula waits more : List ℕ) (v mid after : NodesView) (l : Line)
    → Stands held held' before now formula waits v mid → IsNext mid l after → IsOfNode l → more ≡ waits ++ lines_text (line_text l ∷ []) → Stands held held' before now formula more v after
stands-more held held' before now formula waits more v mid after l h next of_node e = record {
  body = h.body ++ l ∷ [];
  next = next-more v h.body mid l after h.next next;
  of_nodes = all-more h.body l h.of_nodes of_node;
  written = h.written;
  grown = h.grown;
  text_is = so-far-more formula h.body l ∙ ap (λ (t : List ℕ). t ++ lines_text (line_text l ∷ [])) h.text_is
      ∙ append_assoc h.written waits (lines_text (line_text l ∷ [])) ∙ ap (λ (t : List ℕ). h.written ++ t) (sym e);
  calm = h.calm;
}

pub stands-flushed : (held held' held'' : Option (List ℕ)) (before now now' : ℕ) (formula waits none : List ℕ) (v mid : NodesView)
    → Stands held held' before now formula waits v mid → Appends held' held'' waits → now' ≡ now → none ≡ [] → Stands held held'' before now' formula none v mid
stands-flushed held held' held'' before now now' formula waits none v mid h grown calm e = record {
  body = h.body;
  next = h.next;
  of_nodes = h.of_nodes;
  written = h.written ++ waits;
  grown = Appends-trans held held' held'' h.written waits h.grown grown;
  text_is = h.text_is ∙ sym (append-nil (h.written ++ waits)) ∙ ap (λ (t : List ℕ). (h.written ++ waits) ++ t) (sym e);
  calm = calm ∙ h.calm;
}

-- ---- where it ends

rose-later : (before mid now : ℕ) → mid ≡ before → Rose mid now → Rose before now
rose-later before mid now same rose = subst (λ (n : ℕ). Rose n now) same rose

-- a front of what waited was written
stands-front : (held held' held'' : Option (List ℕ)) (before now : ℕ) (formula waits : List ℕ) (v mid : NodesView)
    → Stands held held' before now formula waits v mid → AppendsPrefix held' held'' waits → WroteFront held held'' formula v
stands-front held held' held'' before now formula waits v mid h part = record {
  part = h.written ++ part.0;
  front = front-of-body formula v h.body mid h.next h.of_nodes (h.written ++ part.0) part.1.0
      (h.text_is ∙ ap (λ (t : List ℕ). h.written ++ t) part.1.1 ∙ sym (append_assoc h.written part.0 part.1.0));
  written = Appends-trans held held' held'' h.written part.0 h.grown part.2;
}

nothing-more : (held : Option (List ℕ)) (waits : List ℕ) → AppendsPrefix held held waits
nothing-more held waits = ([], (waits, refl), keeps held)

-- nothing more was
pub stands-memory : (held held' : Option (List ℕ)) (before now : ℕ) (formula waits : List ℕ) (v mid : NodesView)
    → Stands held held' before now formula waits v mid → WroteFront held held' formula v
stands-memory held held' before now formula waits v mid h = stands-front held held' held' before now formula waits v mid h (nothing-more held' waits)

-- nothing was written at all
pub nothing_written : (held : Option (List ℕ)) (formula : List ℕ) (v : NodesView) → WroteFront held held formula v
nothing_written held formula v = record { part = []; front = λ lines told nodes whole. (text_of formula lines, refl); written = keeps held }

pub stands-cut : (held held' held'' : Option (List ℕ)) (before now now' : ℕ) (formula waits : List ℕ) (v mid : NodesView)
    → Stands held held' before now formula waits v mid → AppendsPrefix held' held'' waits → now ≤ now' → Rose now now' → WroteUntil (change_of held held'' before now') formula v
stands-cut held held' held'' before now now' formula waits v mid h part later rose = record {
  later = omega (arith, later, h.calm);
  rose = rose-later before now now' h.calm rose;
  part = stands-front held held' held'' before now formula waits v mid h part;
}

-- the lines, and the verdict's behind them
abbrev all_lines : List Line → Bool → List Line
all_lines body told = body ++ Verdict told ∷ []

whole-here : (v : NodesView) (body : List Line) (mid after : NodesView) (told : Bool) → AreNext v body mid → All IsOfNode body → IsNext mid (Verdict told) after → IsWhole v (all_lines body told) told
whole-here v body mid after told next of_nodes verdict = record { body = body; of_nodes = of_nodes; mid = mid; next = next; after = after; verdict = verdict; lines_are = refl }

-- what was written, and what waits, is the whole text
whole-text : (formula : List ℕ) (body : List Line) (told : Bool) (written waits more last : List ℕ) → text_so_far formula body ≡ written ++ waits
    → more ≡ waits ++ lines_text (line_text (Verdict told) ∷ []) → last ≡ more ++ lines_text (end_line ∷ []) → text_of formula (all_lines body told) ≡ written ++ last
whole-text formula body told written waits more last h e f =
    let said = lines_text (line_text (Verdict told) ∷ []) in
    let end = lines_text (end_line ∷ []) in
    whole-behind formula body (Verdict told ∷ []) ∙ ap (λ (t : List ℕ). t ++ lines_text (line_text (Verdict told) ∷ end_line ∷ [])) h
    ∙ ap (λ (t : List ℕ). (written ++ waits) ++ t) (lines_text-append (line_text (Verdict told) ∷ []) (end_line ∷ []))
    ∙ append_assoc written waits (said ++ end) ∙ ap (λ (t : List ℕ). written ++ t) (sym (append_assoc waits said end) ∙ ap (λ (t : List ℕ). t ++ end) (sym e) ∙ sym f)

pub ended-is : (held held' held'' : Option (List ℕ)) (before now now' : ℕ) (formula waits more last : List ℕ) (v mid after : NodesView) (told : Bool) (r : Result Bool Failed)
    → Stands held held' before now formula waits v mid → IsNext mid (Verdict told) after → more ≡ waits ++ lines_text (line_text (Verdict told) ∷ [])
    → last ≡ more ++ lines_text (end_line ∷ []) → IfOk r (λ truth. truth ≡ told) → OnOk r (Appends held' held'' last) → OnOk r (now' ≡ now) → OnErr r (AppendsPrefix held' held'' last)
    → HasCause now now' r → IsWritten r (change_of held held'' before now') formula v
ended-is held held' held'' before now now' formula waits more last v mid after told (Ok truth) h verdict e f same whole calm part cause =
    subst (λ (b : Bool). WroteAll (change_of held held'' before now') formula v b) (sym same) (record {
      lines = all_lines h.body told;
      whole = whole-here v h.body mid after told h.next h.of_nodes verdict;
      written = subst (λ (t : List ℕ). Appends held held'' t) (sym (whole-text formula h.body told h.written waits more last h.text_is e f)) (Appends-trans held held' held'' h.written last h.grown whole);
      calm = calm ∙ h.calm;
    })
ended-is held held' held'' before now now' formula waits more last v mid after told (Err failed) h verdict e f same whole calm part cause = record {
  later = omega (arith, cause.later, h.calm);
  rose = rose-later before now now' h.calm cause.failed;
  part = record {
    part = h.written ++ part.0;
    front = front-of-whole formula v (all_lines h.body told) told (whole-here v h.body mid after told h.next h.of_nodes verdict) (h.written ++ part.0) part.1.0
        (whole-text formula h.body told h.written waits more last h.text_is e f ∙ ap (λ (t : List ℕ). h.written ++ t) part.1.1 ∙ sym (append_assoc h.written part.0 part.1.0));
    written = Appends-trans held held' held'' h.written part.0 h.grown part.2;
  };
}

pub is_of_node : (l : Line) → ((told : Bool) → l ≡ Verdict told → ⊥) → IsOfNode l
is_of_node (Node number) h = tt
is_of_node (Row row other) h = tt
is_of_node (Raise k x) h = tt
is_of_node (Verdict told) h = h told refl

-- what holds anyway holds where a call fails
pub on_err : {T E P : Type 0} → (r : Result T E) → P → OnErr r P
on_err (Ok x) h = tt
on_err (Err e) h = h
