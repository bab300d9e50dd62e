use Rattle.walk.specs.DotLaws.{ends-length}
use Rattle.defect_walk.proofs.TellingLaws.{reference-free, reference-unknown, reference-whole, reference-path}
use borrow.Author.Rules.{rules}
use Rattle.defect_walk.proofs.telling.reference_telling.Goals as goal

pub slice_bounds-find_binder-end : goal.slice_bounds-find_binder-end
slice_bounds-find_binder-end c = search (ends-length, rules)

pub returns-in_default : goal.returns-in_default
returns-in_default c = search (reference-free, rules)

pub returns-in_default-element : goal.returns-in_default-element
returns-in_default-element c = search (reference-unknown, rules)

pub returns-then-end-text : goal.returns-then-end-text
returns-then-end-text c = search (reference-whole, rules)

pub returns : goal.returns
returns c = search (reference-path, rules)
