use Rattle.text.specs.Ascii.{ascii}
use mathlib.Core.Path.{refl}
use Rattle.message.specs.Tell.{unknown_root}
use Rattle.defect_message.proofs.LayingLaws.{laid-four}
use Rattle.defect_message.proofs.ReferenceLaws.{unknown-past, unknown-laid}
use Rattle.walk.specs.DotLaws.{ends-length}
use native.Mathlib.Omega.{arith}
use borrow.Author.Rules.{rules}
use Rattle.defect_message.proofs.references.lay_unknown_root.Goals as goal

pub returns-then-text-at : goal.returns-then-text-at
returns-then-text-at c = unknown-past (omega arith)

pub slice_bounds-lay_quoted-end : goal.slice_bounds-lay_quoted-end
slice_bounds-lay_quoted-end c = search (ends-length, rules)

pub returns : goal.returns
unfolding unknown_root ascii
returns c = unknown-laid refl c.first_end-end.ensures (laid-four (omega arith) c.lay-a.ensures c.lay_noun-b.ensures c.lay_byte-c.ensures c.lay_quoted.ensures)
