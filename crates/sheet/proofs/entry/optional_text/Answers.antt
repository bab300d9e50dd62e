-- `sheet::entry::optional_text` meets its contract: nothing, or a text.
use native.Mathlib.Omega.{arith}
use Rattle.sheet.proofs.Chains.{optional-absent, optional-present, optional-refused}
use Rattle.sheet.proofs.entry.optional_text.Goals as goal

pub returns-in_default : goal.returns-in_default
returns-in_default c = optional-absent c.args.len c.args.s.now c.args.at c.in_default.is c.requires

pub is_text-requires : goal.is_text-requires
is_text-requires c = c.requires

pub overflow_add-result : goal.overflow_add-result
overflow_add-result c =
    let is-text = rw c.if-is_text.true at c.is_text.ensures in
    omega (arith, is-text.1)

pub returns-then-is_text : goal.returns-then-is_text
returns-then-is_text c =
    let is-text = rw c.if-is_text.true at c.is_text.ensures in
    optional-present c.args.len _ c.args.s.now c.args.at c.in-Some.is is-text

pub returns : goal.returns
returns c =
    let is-text = rw c.if-is_text.false at c.is_text.ensures in
    optional-refused c.args.len _ c.args.s.now c.args.at c.in-Some.is is-text
