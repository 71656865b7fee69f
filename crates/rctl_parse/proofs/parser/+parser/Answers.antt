use Rattle.std.proofs.Common.{◌≡◌, refl, inl}
use Rattle.rctl_grammar.specs.declared.token.Kind.TheVariants as kind
use Rattle.rctl_grammar.specs.Grammar.{tok, spelled, word_of}
use Rattle.rctl_grammar.specs.FirstFault.{too_deep_at}
use Rattle.rctl_parse.specs.inside.Parts.{UnaryFault}
use Rattle.rctl_parse.proofs.LeafSteps.{for_fault, passes_on, stops_with}
use Rattle.rctl_parse.proofs.PartSteps.{group_bound}
use Rattle.rctl_parse.proofs.MemberSteps.{counted_over, one_more, conjunction_one, conjunction_fault, conjunction_bound, conjunction_init, conjunction_stops, conjunction_turn, conjunction_ends, formula_one, formula_fault, formula_bound, formula_init, formula_stops, formula_turn, formula_ends}
use Rattle.rctl_parse.proofs.CycleSteps.{enclosed_read, unclosed_read, at_tokens, at_word, word_of_operator, nothing_opens, prefixed_whole, prefixed_bound, prefixed_fault, group_answer, left_side, left_stops, both_sides, right_stops, until_whole}
use Rattle.rctl_parse.proofs.SteppingSteps.{next_whole, next_fault}
use Rattle.rctl_parse.proofs.parser.+parser.Goals as goal

pub unary-returns-in-Negation : goal.unary-returns-in-Negation
unary-returns-in-Negation t c = at_tokens _ _ _ _ c.in-Negation.ensures (c.prefixed.ensures (tok kind.Bang c.in-Negation.at) refl)

pub unary-returns-in-Group : goal.unary-returns-in-Group
unary-returns-in-Group t c = at_tokens _ _ _ _ c.in-Group.ensures c.group.ensures

pub unary-returns-in-Operator : goal.unary-returns-in-Operator
unary-returns-in-Operator t c = let op = word_of_operator _ _ c.in-Operator.ensures.0 in at_word _ _ _ _ _ _ _ _ c.in-Word.ensures op.2
    (c.prefixed-in-Operator.ensures (spelled (word_of op.0) c.in-Word.name.now c.in-Word.at) (op.0, op.1, c.in-Word.name.now, refl, c.in-Operator.ensures.1))

pub unary-returns-in-Stepping : goal.unary-returns-in-Stepping
unary-returns-in-Stepping t c = at_word _ _ _ _ _ _ _ _ c.in-Word.ensures c.in-Stepping.ensures.0 (c.stepping.ensures c.in-Word.name.now c.in-Stepping.ensures.1)

pub unary-returns-in-Path : goal.unary-returns-in-Path
unary-returns-in-Path t c = at_word _ _ _ _ _ _ _ _ c.in-Word.ensures c.in-Path.ensures.0 (c.until.ensures c.in-Word.name.now c.in-Path.ensures.1)

pub unary-returns-in-Leaf : goal.unary-returns-in-Leaf
unary-returns-in-Leaf t c = at_tokens _ _ _ _ c.in-Word.ensures (c.leaf.ensures c.in-Word.word c.in-Leaf.ensures)

pub unary-returns-in-Nothing : goal.unary-returns-in-Nothing
unary-returns-in-Nothing t c = stops_with (UnaryFault c.args.tokens.now c.args.around) c.refused_here.result _ c.refused_here.ensures (nothing_opens _ _ c.in-Nothing.ensures)

pub prefixed-returns-in_err-inside : goal.prefixed-returns-in_err-inside
prefixed-returns-in_err-inside t c = λ first is. passes_on _ _ _ c.in_err-inside.field-0.0 _ _ c.from_residual.ensures.1 (λ y same. same) c.in_err-inside.ensures
    (λ f bound. prefixed_bound _ _ _ _ _ f is bound)

pub prefixed-returns-in_err-tree : goal.prefixed-returns-in_err-tree
prefixed-returns-in_err-tree t c = λ first is. passes_on _ _ _ c.in_err-tree.field-0.0 _ _ c.from_residual-in_err-tree.ensures.1 (λ y same. same) c.in_err-tree.ensures
    (λ f bad. prefixed_fault _ _ _ _ _ _ f is c.in_ok-inside.ensures bad)

pub prefixed-returns : goal.prefixed-returns
prefixed-returns t c = λ first is. prefixed_whole _ _ _ _ _ _ _ _ _ _ is c.in_ok-inside.ensures c.in_ok-tree.ensures c.in_ok-tree-2.ensures

pub stepping-returns-in_err-inside : goal.stepping-returns-in_err-inside
stepping-returns-in_err-inside t c = λ name other. passes_on _ _ _ c.in_err-inside.field-0.0 _ _ c.from_residual.ensures.1 (λ y same. same) (c.in_err-inside.ensures.step name other) (λ f bad. bad)

pub stepping-returns-in_err-tree : goal.stepping-returns-in_err-tree
stepping-returns-in_err-tree t c = λ name other. passes_on _ _ _ c.in_err-tree.field-0.0 _ _ c.from_residual-in_err-tree.ensures.1 (λ y same. same) c.in_err-tree.ensures
    (λ f bad. next_fault _ _ _ _ _ _ _ f (c.in_ok-inside.ensures.step name other) bad)

pub stepping-returns : goal.stepping-returns
stepping-returns t c = λ name other. next_whole _ _ _ _ _ _ _ _ _ _ _ (c.in_ok-inside.ensures.step name other) c.in_ok-tree.ensures c.in_ok-inner.ensures

pub group-returns-in_err-inside : goal.group-returns-in_err-inside
group-returns-in_err-inside t c = passes_on (λ f. f ≡ too_deep_at c.args.at) _ _ c.in_err-inside.field-0.0 _ _ c.from_residual.ensures.1 (λ y same. same)
    (stops_with (λ f. f ≡ too_deep_at c.args.at) c.in_err-inside.field-0.0 _ c.in_err-inside.ensures.1 refl) (λ f same. group_bound _ _ _ f c.in_err-inside.ensures.0 same)

pub group-returns : goal.group-returns
group-returns t c = group_answer _ _ _ _ _ c.in_ok-inside.ensures c.enclosed.ensures

pub until-returns-in_err-inside : goal.until-returns-in_err-inside
until-returns-in_err-inside t c = λ name other. passes_on _ _ _ c.in_err-inside.field-0.0 _ _ c.from_residual.ensures.1 (λ y same. same) (c.in_err-inside.ensures.path c.args.all name other) (λ f bad. bad)

pub until-returns-in_err-tree : goal.until-returns-in_err-tree
until-returns-in_err-tree t c = λ name other. passes_on _ _ _ c.in_err-tree.field-0.0 _ _ c.from_residual-in_err-tree.ensures.1 (λ y same. same) c.in_err-tree.ensures
    (λ f bad. left_stops _ _ _ _ _ _ _ f (c.in_ok-inside.ensures.path c.args.all name other) bad)

pub until-returns-in_err-tree-2 : goal.until-returns-in_err-tree-2
until-returns-in_err-tree-2 t c = λ name other. passes_on _ _ _ c.in_err-tree-2.field-0.0 _ _ c.from_residual-in_err-tree-2.ensures.1 (λ y same. same) c.in_err-tree-2.ensures
    (λ f bad. right_stops _ _ _ _ _ _ _ _ _ _ f (left_side _ _ _ _ _ _ _ _ _ _ (c.in_ok-inside.ensures.path c.args.all name other) c.in_ok-tree.ensures) c.at_nodes-inside.ensures bad)

pub until-returns : goal.until-returns
until-returns t c = λ name other. until_whole _ _ _ _ _ _ _ _ _ _ _ c.in_ok-left.ensures c.in_ok-right.ensures
    (both_sides _ _ _ _ _ _ _ _ _ _ _ _ _ (left_side _ _ _ _ _ _ _ _ _ _ (c.in_ok-inside.ensures.path c.args.all name other) c.in_ok-tree.ensures) c.at_nodes-inside.ensures c.in_ok-tree-2.ensures)

pub enclosed-returns-in_err-tree : goal.enclosed-returns-in_err-tree
enclosed-returns-in_err-tree t c = passes_on _ _ _ c.in_err-tree.field-0.0 _ _ c.from_residual.ensures.1 (λ y same. same) c.in_err-tree.ensures (λ f bad. inl bad)

pub enclosed-returns-in-Ok : goal.enclosed-returns-in-Ok
enclosed-returns-in-Ok t c = enclosed_read _ _ _ _ _ _ _ _ c.in_ok-tree.ensures c.in-Ok.ensures

pub enclosed-returns-in-Err : goal.enclosed-returns-in-Err
enclosed-returns-in-Err t c = for_fault c.in-Err.stop (λ f miss. unclosed_read _ _ _ _ _ _ f c.in_ok-tree.ensures miss) c.in-Err.ensures

pub conjunction-returns-in_err-first : goal.conjunction-returns-in_err-first
conjunction-returns-in_err-first t c = passes_on _ _ _ c.in_err-first.field-0.0 _ _ c.from_residual.ensures.1 (λ y same. same) c.in_err-first.ensures (λ f bad. conjunction_fault _ _ f bad)

pub conjunction-returns-in_default : goal.conjunction-returns-in_default
conjunction-returns-in_default t c = conjunction_one _ _ _ _ _ c.in_ok-first.ensures c.in_default.ensures

pub conjunction-returns-in_err-members : goal.conjunction-returns-in_err-members
conjunction-returns-in_err-members t c = passes_on _ _ _ c.in_err-members.field-0.0 _ _ c.from_residual-in_err-members.ensures.1 (λ y same. same) c.in_err-members.ensures
    (λ f bound. conjunction_bound _ _ _ _ _ _ _ f c.in_ok-first.ensures c.in-Some.ensures (counted_over c.at_nodes-behind.result c.args.around _ c.at_nodes-behind.ensures bound.0) bound.1)

pub conjunction-members-init : goal.conjunction-members-init
conjunction-members-init t c = conjunction_init _ _ _ _ _ _ _ _ _ _ c.in_ok-first.ensures c.in-Some.ensures (one_more c.at_nodes-behind.result c.args.around _ _ c.at_nodes-behind.ensures c.in_ok-members.ensures.1) refl c.in_ok-members.ensures.0

pub conjunction-returns-in-Err : goal.conjunction-returns-in-Err
conjunction-returns-in-Err t c = for_fault c.in-Err.stop (λ f bad. conjunction_stops _ _ _ _ _ _ _ f c.members.invariant c.at_nodes.ensures bad) c.in-Err.ensures

pub conjunction-members-preserved : goal.conjunction-members-preserved
conjunction-members-preserved t c = conjunction_turn _ _ _ _ _ _ _ _ _ _ _ _ _ c.members.invariant c.at_nodes.ensures c.in-Ok.ensures c.in_ok-members-2.ensures c.in-Some-after.ensures

pub conjunction-returns-in-None : goal.conjunction-returns-in-None
conjunction-returns-in-None t c = conjunction_ends _ _ _ _ _ _ _ _ _ _ _ c.members.invariant c.at_nodes.ensures c.in-Ok.ensures c.in_ok-members-2.ensures c.in-None.ensures

pub formula-returns-in_err-first : goal.formula-returns-in_err-first
formula-returns-in_err-first t c = passes_on _ _ _ c.in_err-first.field-0.0 _ _ c.from_residual.ensures.1 (λ y same. same) c.in_err-first.ensures (λ f bad. formula_fault _ _ f bad)

pub formula-returns-in_default : goal.formula-returns-in_default
formula-returns-in_default t c = formula_one _ _ _ _ _ c.in_ok-first.ensures c.in_default.ensures

pub formula-returns-in_err-members : goal.formula-returns-in_err-members
formula-returns-in_err-members t c = passes_on _ _ _ c.in_err-members.field-0.0 _ _ c.from_residual-in_err-members.ensures.1 (λ y same. same) c.in_err-members.ensures
    (λ f bound. formula_bound _ _ _ _ _ _ _ f c.in_ok-first.ensures c.in-Some.ensures (counted_over c.at_nodes-behind.result c.args.around _ c.at_nodes-behind.ensures bound.0) bound.1)

pub formula-members-init : goal.formula-members-init
formula-members-init t c = formula_init _ _ _ _ _ _ _ _ _ _ c.in_ok-first.ensures c.in-Some.ensures (one_more c.at_nodes-behind.result c.args.around _ _ c.at_nodes-behind.ensures c.in_ok-members.ensures.1) refl c.in_ok-members.ensures.0

pub formula-returns-in-Err : goal.formula-returns-in-Err
formula-returns-in-Err t c = for_fault c.in-Err.stop (λ f bad. formula_stops _ _ _ _ _ _ _ f c.members.invariant c.at_nodes.ensures bad) c.in-Err.ensures

pub formula-members-preserved : goal.formula-members-preserved
formula-members-preserved t c = formula_turn _ _ _ _ _ _ _ _ _ _ _ _ _ c.members.invariant c.at_nodes.ensures c.in-Ok.ensures c.in_ok-members-2.ensures c.in-Some-after.ensures

pub formula-returns-in-None : goal.formula-returns-in-None
formula-returns-in-None t c = formula_ends _ _ _ _ _ _ _ _ _ _ _ c.members.invariant c.at_nodes.ensures c.in-Ok.ensures c.in_ok-members-2.ensures c.in-None.ensures
