use Rattle.walk.specs.DotLaws.{ends-length}
use Rattle.defect_walk.proofs.CollectionLaws.{collects-open, collects-closed, collects-last, collects-more}
use borrow.Author.Rules.{rules}
use Rattle.defect_walk.proofs.collection_telling.root_collecting.Goals as goal

pub slice_bounds-lookup-end : goal.slice_bounds-lookup-end
slice_bounds-lookup-end c = search (ends-length, rules)

pub returns-then-holder : goal.returns-then-holder
returns-then-holder c = search (collects-open, rules)

pub returns-in_default : goal.returns-in_default
returns-in_default c = search (collects-closed, rules)

pub returns-then-end-path : goal.returns-then-end-path
returns-then-end-path c = search (collects-last, rules)

pub returns : goal.returns
returns c = search (collects-more, rules)
