use Rattle.defect_message.proofs.ReferenceLaws.{reference-blank, reference-laid}
use native.Mathlib.Omega.{arith}
use Rattle.defect_message.proofs.references.lay_reference.Goals as goal

pub returns-then-text-eq0 : goal.returns-then-text-eq0
returns-then-text-eq0 c = reference-blank (omega arith)

pub returns : goal.returns
returns c = reference-laid c.reference_telling-telling.ensures c.lay_telling.ensures
