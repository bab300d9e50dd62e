-- `to_json::front::lay_comparison` meets its contract.
use Rattle.to_json.proofs.Laying.{comparison-low, comparison-is, comparison-none}
use Rattle.text.specs.Ascii.{ascii}
use Rattle.json_rule.specs.Shape.{comparison_names}
use Rattle.json_rule.specs.AsJson.{comparison_name}
use native.Mathlib.Omega.{arith}
use Rattle.to_json.proofs.front.lay_comparison.Goals as goal

pub returns-then-which-le1 : goal.returns-then-which-le1
unfolding ascii
returns-then-which-le1 c = comparison-low _ c.if-which-le1.true c.lay.ensures

pub returns-then-which-le2 : goal.returns-then-which-le2
unfolding comparison_name comparison_names ascii
returns-then-which-le2 c = comparison-is _ 2 c.if-which-le2.true (omega arith) c.lay-then-which-le2.ensures

pub returns-then-which-le3 : goal.returns-then-which-le3
unfolding comparison_name comparison_names ascii
returns-then-which-le3 c = comparison-is _ 3 c.if-which-le3.true (omega arith) c.lay-then-which-le3.ensures

pub returns-then-which-le4 : goal.returns-then-which-le4
unfolding comparison_name comparison_names ascii
returns-then-which-le4 c = comparison-is _ 4 c.if-which-le4.true (omega arith) c.lay-then-which-le4.ensures

pub returns-then-which-le5 : goal.returns-then-which-le5
unfolding comparison_name comparison_names ascii
returns-then-which-le5 c = comparison-is _ 5 c.if-which-le5.true (omega arith) c.lay-then-which-le5.ensures

pub returns-then-which-le6 : goal.returns-then-which-le6
unfolding comparison_name comparison_names ascii
returns-then-which-le6 c = comparison-is _ 6 c.if-which-le6.true (omega arith) c.lay-then-which-le6.ensures

pub returns : goal.returns
returns c = comparison-none _ c.if-which-le6.false (omega arith)
