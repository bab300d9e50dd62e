use Rattle.walk.specs.DotLaws.{ends-length}
use Rattle.defect_walk.proofs.CollectionLaws.{text-free, text-none, text-unknown, text-last, text-more}
use borrow.Author.Rules.{rules}
use Rattle.defect_walk.proofs.collection_telling.text_collecting.Goals as goal

pub slice_bounds-find_binder-end : goal.slice_bounds-find_binder-end
slice_bounds-find_binder-end c = search (ends-length, rules)

pub returns-then-begins_with_dollar : goal.returns-then-begins_with_dollar
returns-then-begins_with_dollar c = search (text-free, rules)

pub returns-in_default : goal.returns-in_default
returns-in_default c = search (text-none, rules)

pub returns-in_default-element : goal.returns-in_default-element
returns-in_default-element c = search (text-unknown, rules)

pub returns-then-end-behind : goal.returns-then-end-behind
returns-then-end-behind c = search (text-last, rules)

pub returns : goal.returns
returns c = search (text-more, rules)
