-- `value_checks::references::is_reference` meets its contract: a `$`, and none after it.
use borrow.Author.Rules.{rules}
use mathlib.Core.Path.{sym, ◌∙◌}
use native.Mathlib.Omega.{arith}
use Rattle.value_checks.proofs.ReferenceSteps.{dollar-long, dollar-then, other_none}
use Rattle.value_checks.proofs.references.is_reference.Goals as goal

pub slice_bounds-begins_with_dollar-count : goal.slice_bounds-begins_with_dollar-count
slice_bounds-begins_with_dollar-count c = let h = dollar-long _ (sym c.begins_with_dollar.ensures ∙ c.if-begins_with_dollar.true) in omega arith

pub slice_bounds-begins_with_dollar-start : goal.slice_bounds-begins_with_dollar-start
slice_bounds-begins_with_dollar-start c = let h = dollar-long _ (sym c.begins_with_dollar.ensures ∙ c.if-begins_with_dollar.true) in search rules

pub slice_bounds-begins_with_dollar-end : goal.slice_bounds-begins_with_dollar-end
slice_bounds-begins_with_dollar-end c = let h = dollar-long _ (sym c.begins_with_dollar.ensures ∙ c.if-begins_with_dollar.true) in search rules

pub returns-then-begins_with_dollar : goal.returns-then-begins_with_dollar
returns-then-begins_with_dollar c = search (dollar-then, rules)

pub returns : goal.returns
returns c = search (other_none, rules)
