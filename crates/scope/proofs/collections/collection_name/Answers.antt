-- `scope::collections::collection_name` meets its contract.
use Rattle.walk.specs.DotLaws.{part_length}
use Rattle.scope.proofs.CollectionLaws.{named-absent, named-no-path, named_none, named-rooted, named-whole}
use native.Mathlib.Omega.{arith}
use borrow.Author.Rules.{rules}
use Rattle.scope.proofs.collections.collection_name.Goals as goal

pub returns-then-text-end : goal.returns-then-text-end
returns-then-text-end c = search (named-whole, rules)

pub slice_bounds-name_of-end : goal.slice_bounds-name_of-end
slice_bounds-name_of-end c = part_length _ _ (omega arith)

pub returns-in_default : goal.returns-in_default
returns-in_default c = search (named_none, rules)

pub returns-in-Nothing : goal.returns-in-Nothing
returns-in-Nothing c = search (named-no-path, rules)

pub returns-in-Missing : goal.returns-in-Missing
returns-in-Missing c = search (named-absent, rules)

pub returns-in-At : goal.returns-in-At
returns-in-At c = search (named-rooted, rules)
