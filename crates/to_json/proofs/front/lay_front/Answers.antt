-- `to_json::front::lay_front` meets its contract.
use Rattle.to_json.proofs.Laying.{front-unread, front-lays, scope-named}
use Rattle.sheet.specs.Places.{condition_of}
use Rattle.to_json.proofs.front.lay_front.Goals as goal

pub returns-in_default : goal.returns-in_default
returns-in_default c = front-unread c.start_of.ensures (rw c.in_default.is at c.condition_head.ensures)

pub returns-in-Literal : goal.returns-in-Literal
unfolding condition_of
returns-in-Literal c = front-lays c.start_of.ensures _ (rw c.in-Literal.is at (rw c.in-Some.is at c.condition_head.ensures)).0 c.lay_truth.ensures

pub returns-in-Many : goal.returns-in-Many
unfolding condition_of
returns-in-Many c = front-lays c.start_of.ensures _ (rw c.in-Many.is at (rw c.in-Some.is at c.condition_head.ensures)).0 c.lay_many.ensures

pub returns-in-Negation : goal.returns-in-Negation
unfolding condition_of
returns-in-Negation c = front-lays c.start_of.ensures _ (rw c.in-Negation.is at (rw c.in-Some.is at c.condition_head.ensures)).0 c.lay_opened.ensures

pub returns-in-One : goal.returns-in-One
unfolding condition_of
returns-in-One c = front-lays c.start_of.ensures _ (rw c.in-One.is at (rw c.in-Some.is at c.condition_head.ensures)).0 c.lay_one.ensures

pub returns-in-Two : goal.returns-in-Two
unfolding condition_of
returns-in-Two c = front-lays c.start_of.ensures _ (rw c.in-Two.is at (rw c.in-Some.is at c.condition_head.ensures)).0 c.lay_two.ensures

pub returns-in-Comparison : goal.returns-in-Comparison
unfolding condition_of
returns-in-Comparison c = front-lays c.start_of.ensures _ (rw c.in-Comparison.is at (rw c.in-Some.is at c.condition_head.ensures)).0 c.lay_compared.ensures

pub returns-in-Quantifier : goal.returns-in-Quantifier
unfolding condition_of
returns-in-Quantifier c = front-lays c.start_of.ensures _ (rw c.in-Quantifier.is at (rw c.in-Some.is at c.condition_head.ensures)).0 (scope-named c.bytes_of.ensures c.lay_scope.ensures)
