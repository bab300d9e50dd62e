-- `scope::collections::collection_element` meets its contract.
use Rattle.scope.proofs.CollectionLaws.{collection-any, collection-named, collection-path, collection-plain, collection-whole}
use Rattle.walk.specs.DotLaws.{ends-length}
use borrow.Author.Rules.{rules}
use Rattle.scope.proofs.collections.collection_element.Goals as goal

pub slice_bounds-find_binder-end : goal.slice_bounds-find_binder-end
slice_bounds-find_binder-end c = search (ends-length, rules)

pub returns-then-begins_with_dollar : goal.returns-then-begins_with_dollar
returns-then-begins_with_dollar c = search (collection-named, rules)

pub returns-in_default : goal.returns-in_default
returns-in_default c = search (collection-plain, rules)

pub returns-in_default-element : goal.returns-in_default-element
returns-in_default-element c = search (collection-any, rules)

pub returns-then-end-behind : goal.returns-then-end-behind
returns-then-end-behind c = search (collection-whole, rules)

pub returns : goal.returns
returns c = search (collection-path, rules)
