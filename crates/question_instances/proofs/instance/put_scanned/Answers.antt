use Rattle.std.proofs.Common.{rules, map, ◌≡◌, ◌++◌, ◌==◌, [], ℕ, ◌+◌, Bool, List, ◌∷◌, get_or, slice_range, drop, sym, ap, ◌∙◌}
use Rattle.question_instances.specs.Instances.{renaming_of, next_after, put_word, scanned}
use Rattle.question_instances.proofs.Scans.{on_word, on_other, glued, none_yet}
use Rattle.question_instances.proofs.instance.put_scanned.Goals.{then-not-is_byte_of_name+in_ok-put_word+in_ok-push, else-not-is_byte_of_name}
use Rattle.question_instances.proofs.instance.put_scanned.Goals as goal

pub loop-i-preserved : goal.loop-i-preserved
loop-i-preserved c = elim c.if-not-is_byte_of_name.branch [
  | then-not-is_byte_of_name+in_ok-put_word+in_ok-push w ↦
      let b : ℕ = get_or c.args.text.now c.loop-i.i 0 in
      let word : List ℕ = put_word c.loop-i.after (map renaming_of c.args.names.now) (slice_range c.args.text.now c.loop-i.from c.loop-i.i) in
      let next : Bool = next_after c.loop-i.after (c.loop-i.from == c.loop-i.i) b in
      let left : List ℕ = drop (c.loop-i.i + 1) c.args.text.now in
      let h = on_other (map renaming_of c.args.names.now) c.loop-i.after c.args.text.now c.loop-i.from c.loop-i.i 0 c.loop-i.invariant.within c.loop-i-test.true (search rules) in
      let out : c.if-not-is_byte_of_name.out ≡ c.loop-i.out ++ word ++ b ∷ [] = search rules in
      let after : c.if-not-is_byte_of_name.after ≡ next = search rules in
      let from : c.if-not-is_byte_of_name.from ≡ c.loop-i.i + 1 = search rules in
      record {
        within = search rules;
        same = c.loop-i.invariant.same ∙ ap (λ r. c.loop-i.out ++ r) h ∙ glued c.loop-i.out word (scanned (map renaming_of c.args.names.now) next [] left) b
            ∙ ap (λ s. c.loop-i.out ++ word ++ b ∷ [] ++ scanned (map renaming_of c.args.names.now) next s left) (sym (none_yet c.args.text.now (c.loop-i.i + 1)))
            ∙ ap (λ f. c.loop-i.out ++ word ++ b ∷ [] ++ scanned (map renaming_of c.args.names.now) next (slice_range c.args.text.now f (c.loop-i.i + 1)) left) (sym from)
            ∙ ap (λ a. c.loop-i.out ++ word ++ b ∷ [] ++ scanned (map renaming_of c.args.names.now) a (slice_range c.args.text.now c.if-not-is_byte_of_name.from (c.loop-i.i + 1)) left) (sym after)
            ∙ ap (λ o. o ++ scanned (map renaming_of c.args.names.now) c.if-not-is_byte_of_name.after (slice_range c.args.text.now c.if-not-is_byte_of_name.from (c.loop-i.i + 1)) left) (sym out);
      }
  | else-not-is_byte_of_name w ↦
      let h = on_word (map renaming_of c.args.names.now) c.loop-i.after c.args.text.now c.loop-i.from c.loop-i.i 0 c.loop-i.invariant.within c.loop-i-test.true (search rules) in
      record { within = search rules; same = search rules }
]
