use Rattle.json_sheet.proofs.Quantifying.{turned_as, kept_in, turned-in, kept-that, kept-other}
use Rattle.json_sheet.proofs.condition.middle_of.Goals as goal

pub returns-then-second-eq-AS : goal.returns-then-second-eq-AS
returns-then-second-eq-AS c = turned_as c.args.first c.args.second c.args.start c.args.middle c.if-first-eq-IN.true c.if-second-eq-AS.true

pub returns-then-first-eq-IN : goal.returns-then-first-eq-IN
returns-then-first-eq-IN c = kept_in c.args.first c.args.second c.args.start c.args.middle c.if-first-eq-IN.true c.if-second-eq-AS.false

pub returns-then-second-eq-IN : goal.returns-then-second-eq-IN
returns-then-second-eq-IN c = turned-in c.args.first c.args.second c.args.start c.args.middle c.if-first-eq-IN.false c.if-first-eq-THAT.true c.if-second-eq-IN.true

pub returns-then-first-eq-THAT : goal.returns-then-first-eq-THAT
returns-then-first-eq-THAT c = kept-that c.args.first c.args.second c.args.start c.args.middle c.if-first-eq-IN.false c.if-first-eq-THAT.true c.if-second-eq-IN.false

pub returns : goal.returns
returns c = kept-other c.args.first c.args.second c.args.start c.args.middle c.if-first-eq-IN.false c.if-first-eq-THAT.false
