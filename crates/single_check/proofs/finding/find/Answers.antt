use mathlib.Core.Path.{refl}
use Rattle.value_checks.specs.Verdicts.{number_of, detail_of}
use Rattle.validation.specs.Result.{own_family}
use Rattle.single_check.proofs.FindingSteps.{finding-of}
use Rattle.single_check.proofs.finding.find.Goals as goal

pub returns-in-Name : goal.returns-in-Name
unfolding number_of detail_of own_family
returns-in-Name c = finding-of c.in-Name.is c.found.ensures refl (λ s e. refl) refl

pub returns-in-Message : goal.returns-in-Message
unfolding number_of detail_of own_family
returns-in-Message c = finding-of c.in-Message.is c.found-in-Message.ensures refl (λ s e. refl) refl

pub returns-in-Deep : goal.returns-in-Deep
unfolding number_of detail_of own_family
returns-in-Deep c = finding-of c.in-Deep.is c.found-in-Deep.ensures refl (λ s e. refl) refl

pub returns-in-Literal : goal.returns-in-Literal
unfolding number_of detail_of own_family
returns-in-Literal c = finding-of c.in-Literal.is c.found-in-Literal.ensures refl (λ s e. refl) refl

pub returns-in-Operator : goal.returns-in-Operator
unfolding number_of detail_of own_family
returns-in-Operator c = finding-of c.in-Operator.is c.found-in-Operator.ensures refl (λ s e. refl) refl

pub returns-in-Empty : goal.returns-in-Empty
unfolding number_of detail_of own_family
returns-in-Empty c = finding-of c.in-Empty.is c.found-in-Empty.ensures refl (λ s e. refl) refl

pub returns-in-Operand : goal.returns-in-Operand
unfolding number_of detail_of own_family
returns-in-Operand c = finding-of c.in-Operand.is c.found-in-Operand.ensures refl (λ s e. refl) c.side_detail.ensures

pub returns-in-Reference : goal.returns-in-Reference
unfolding number_of detail_of own_family
returns-in-Reference c = finding-of c.in-Reference.is c.found-in-Reference.ensures refl (λ s e. rw e at c.reference_family.ensures) c.reference_detail.ensures

pub returns-in-Affix : goal.returns-in-Affix
unfolding number_of detail_of own_family
returns-in-Affix c = finding-of c.in-Affix.is c.found-in-Affix.ensures refl (λ s e. refl) refl

pub returns-in-Instant : goal.returns-in-Instant
unfolding number_of detail_of own_family
returns-in-Instant c = finding-of c.in-Instant.is c.found-in-Instant.ensures refl (λ s e. refl) c.instant_detail.ensures

pub returns-in-Bind : goal.returns-in-Bind
unfolding number_of detail_of own_family
returns-in-Bind c = finding-of c.in-Bind.is c.found-in-Bind.ensures refl (λ s e. refl) refl

pub returns-in-Collection : goal.returns-in-Collection
unfolding number_of detail_of own_family
returns-in-Collection c = finding-of c.in-Collection.is c.found-in-Collection.ensures refl (λ s e. refl) c.collection_detail.ensures
