-- What the bytes put one after another come to.
use Rattle.std.proofs.Common.{◌≡◌, ℕ, ◌+◌, ◌<◌, Bool, List, [], ◌∷◌, ◌++◌, map, take, length, get_or, codes, refl, sym, ap, ◌∙◌, append_assoc, append-nil, add-one, arith}
use Rattle.std.proofs.lemmas.List.{map-append}
use Rattle.std.proofs.Math.Seq.{take-suc}
use Rattle.rctl_grammar.specs.declared.tree.Operator.{Operator}
use Rattle.rctl_grammar.specs.declared.tree.Operator.TheVariants as operator
use Rattle.rctl_grammar.specs.Shape.{Shape, not, under_of, stepped, until_of, Shapes, one, more, conjunction_on, disjunction_on}
use Rattle.rctl_print.specs.Canonical.{canonical, joined, joint_text, operator_word, next_words, until_word}
use Rattle.rctl_print.specs.inside.Members.{joined_of, member, each_behind}
use Rattle.rctl_print.specs.declared.joint.Joint.{Joint}
use Rattle.rctl_print.specs.declared.joint.Joint.TheVariants.{Amp, Bar}

pub put_not : (old : List ℕ) {mid new : List ℕ} {s inner : Shape} → mid ≡ old ++ codes "!" → s ≡ not inner → new ≡ mid ++ member Amp inner → new ≡ old ++ canonical s
put_not old {inner = inner} m e n = n ∙ rw (m, e) (append_assoc old (codes "!") (member Amp inner))

under_text : (op : Operator) (s : Shape) → canonical (under_of op s) ≡ (operator_word op ++ codes " ") ++ member Amp s
under_text operator.Ef s = refl
under_text operator.Ag s = refl
under_text operator.Eg s = refl
under_text (operator.Ex process) s = refl
under_text operator.Af s = refl
under_text operator.Ax s = refl

pub put_under : (op : Operator) (inner : Shape) (old : List ℕ) {mid new : List ℕ} {s : Shape} →
    mid ≡ old ++ operator_word op ++ codes " " → s ≡ under_of op inner → new ≡ mid ++ member Amp inner → new ≡ old ++ canonical s
put_under op inner old m e n = n ∙ rw (m, e, under_text op inner) (simp append_assoc)

pub put_stepped : (old : List ℕ) {mid new process : List ℕ} {s inner : Shape} →
    mid ≡ old ++ next_words process → s ≡ stepped process inner → new ≡ mid ++ member Amp inner → new ≡ old ++ canonical s
put_stepped old {process = process} {inner = inner} m e n = n ∙ rw (m, e) (append_assoc old (next_words process) (member Amp inner))

pub put_until : (old : List ℕ) {a b c d e new word : List ℕ} {s left right : Shape} {all : Bool} →
    a ≡ old ++ word → word ≡ until_word all → b ≡ a ++ codes "[" → c ≡ b ++ canonical left → d ≡ c ++ codes " U " → e ≡ d ++ canonical right →
    s ≡ until_of all left right → new ≡ e ++ codes "]" → new ≡ old ++ canonical s
put_until old {left = left} {right = right} {all = all} pa w pb pc pd pe is n =
    n ∙ rw (pe, pd, pc, pb, pa, w, is) (simp append_assoc)

-- ---- members

each_behind-append : (joint : Joint) (ss : List Shape) (s : Shape) → each_behind joint (ss ++ s ∷ []) ≡ each_behind joint ss ++ (joint_text joint ++ member joint s)
each_behind-append joint [] s = append-nil (joint_text joint ++ member joint s)
each_behind-append joint (t ∷ ss) s = rw (each_behind-append joint ss s) (simp append_assoc)

conjunction_text : (front : Shapes) (s : Shape) (rest : List Shape) → joined Amp front ++ each_behind Amp (s ∷ rest) ≡ canonical (conjunction_on front s rest)
conjunction_text front s [] = simp (append_assoc, append-nil)
conjunction_text front s (next ∷ rest) = rw (← conjunction_text (more front s) next rest) (simp append_assoc)

disjunction_text : (front : Shapes) (s : Shape) (rest : List Shape) → joined Bar front ++ each_behind Bar (s ∷ rest) ≡ canonical (disjunction_on front s rest)
disjunction_text front s [] = simp (append_assoc, append-nil)
disjunction_text front s (next ∷ rest) = rw (← disjunction_text (more front s) next rest) (simp append_assoc)

module _ {T : Type 0} (shape : T → Shape) where
  -- two or more members
  pub all_text : (joint : Joint) (members rest : List T) (first : T) (start : List ℕ) {mid new : List ℕ} →
      members ≡ first ∷ rest → 0 < length rest → mid ≡ start ++ member joint (shape first) → new ≡ mid ++ each_behind joint (map shape rest) →
      new ≡ start ++ canonical (joined_of joint (map shape members))
  all_text joint members [] first start is h p n = absurd (omega arith)
  all_text Amp members (s ∷ rest) first start is h p n =
      n ∙ rw (p, is, ← conjunction_text (one (shape first)) (shape s) (map shape rest)) (append_assoc start (member Amp (shape first)) (each_behind Amp (map shape (s ∷ rest))))
  all_text Bar members (s ∷ rest) first start is h p n =
      n ∙ rw (p, is, ← disjunction_text (one (shape first)) (shape s) (map shape rest)) (append_assoc start (member Bar (shape first)) (each_behind Bar (map shape (s ∷ rest))))

  -- one member more behind the joint
  pub put_more : (joint : Joint) (members : List T) (i : ℕ) (m : T) (start : List ℕ) {old mid new sep : List ℕ} →
      old ≡ start ++ each_behind joint (map shape (take i members)) → i < length members → m ≡ get_or members i m →
      mid ≡ old ++ sep → sep ≡ joint_text joint → new ≡ mid ++ member joint (shape m) →
      new ≡ start ++ each_behind joint (map shape (take (i + 1) members))
  put_more joint members i m start o lt is p q n =
      let parts : take (i + 1) members ≡ take i members ++ m ∷ [] = rw add-one (take-suc members i m lt ∙ ap (λ x. take i members ++ x ∷ []) (sym is)) in
      let more = each_behind-append joint (map shape (take i members)) (shape m) in
      n ∙ rw (parts, map-append shape (take i members) (m ∷ []), more, p, q, o) (simp append_assoc)
