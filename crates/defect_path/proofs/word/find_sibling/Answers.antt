use Prim.Native.Nat.{◌-◌}
use Rattle.defect_path.proofs.Words.{passing-start, passing-more, passing-stop, passing-end}
use borrow.Author.Rules.{rules}
use Rattle.defect_path.proofs.word.find_sibling.Goals as goal

pub loop-end-init : goal.loop-end-init
loop-end-init c = search (passing-start, rules)

pub returns-then-end-word : goal.returns-then-end-word
returns-then-end-word c = (search (passing-stop, rules), search rules, search rules)

pub loop-end-preserved : goal.loop-end-preserved
loop-end-preserved c = search (passing-more, rules)

pub returns : goal.returns
returns c = (search (passing-end, rules), search rules, search rules)
