-- `scope::references::validate_reference_path` meets its contract.
use Rattle.walk.specs.DotLaws.{ends-length}
use Rattle.scope.proofs.ReferenceLaws.{root-closed, root-empty, root-last, root-more, root-open}
use borrow.Author.Rules.{rules}
use Rattle.scope.proofs.references.validate_reference_path.Goals as goal

pub returns-then-end-eq0 : goal.returns-then-end-eq0
returns-then-end-eq0 c = search (root-empty, rules)

pub slice_bounds-lookup-end : goal.slice_bounds-lookup-end
slice_bounds-lookup-end c = search (ends-length, rules)

pub returns-then-holder : goal.returns-then-holder
returns-then-holder c = search (root-open, rules)

pub returns-in_default : goal.returns-in_default
returns-in_default c = search (root-closed, rules)

pub returns-then-end-path : goal.returns-then-end-path
returns-then-end-path c = search (root-last, rules)

pub returns : goal.returns
returns c = search (root-more, rules)
