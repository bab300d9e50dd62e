use Rattle.json_sheet.proofs.Quantifying.{arranged-as, arranged-between, arranged-first, arranged-kept}
use Rattle.json_sheet.proofs.condition.arrange.Goals as goal

pub returns-then-last-eq-AS : goal.returns-then-last-eq-AS
returns-then-last-eq-AS c = arranged-as c.args.first c.args.last c.if-last-eq-AS.true c.swap.ensures

pub returns-then-first-eq-AS : goal.returns-then-first-eq-AS
returns-then-first-eq-AS c = arranged-between c.args.first c.args.last c.if-last-eq-AS.false c.if-last-eq-IN.true c.if-first-eq-AS.true c.swap-then-first-eq-AS.ensures

pub returns-then-last-eq-IN : goal.returns-then-last-eq-IN
returns-then-last-eq-IN c = arranged-first c.args.first c.args.last c.if-last-eq-AS.false c.if-last-eq-IN.true c.if-first-eq-AS.false c.swap-then-last-eq-IN.ensures

pub returns : goal.returns
returns c = arranged-kept c.args.first c.args.last c.if-last-eq-AS.false c.if-last-eq-IN.false
