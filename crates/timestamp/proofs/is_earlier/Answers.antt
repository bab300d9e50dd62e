-- `timestamp::is_earlier` meets its contract: where the fields before are the same, the first one that differs decides.
use borrow.Author.Tests.{eq-eqb, ne_eqb}
use Rattle.timestamp.specs.Order.{list_of, is_below, is_earlier}
use Rattle.timestamp.proofs.Laws.{last-decides}
use Rattle.timestamp.proofs.is_earlier.Goals as goal

pub returns-then-a-b : goal.returns-then-a-b
unfolding is_earlier is_below list_of
returns-then-a-b c = rw (ne_eqb _ _ c.if-a-b.true)

pub returns-then-a-b-2 : goal.returns-then-a-b-2
unfolding is_earlier is_below list_of
returns-then-a-b-2 c = rw (eq-eqb _ _ c.if-a-b.false, ne_eqb _ _ c.if-a-b-2.true)

pub returns-then-a-b-3 : goal.returns-then-a-b-3
unfolding is_earlier is_below list_of
returns-then-a-b-3 c = rw (eq-eqb _ _ c.if-a-b.false, eq-eqb _ _ c.if-a-b-2.false, ne_eqb _ _ c.if-a-b-3.true)

pub returns-then-a-b-4 : goal.returns-then-a-b-4
unfolding is_earlier is_below list_of
returns-then-a-b-4 c = rw (eq-eqb _ _ c.if-a-b.false, eq-eqb _ _ c.if-a-b-2.false, eq-eqb _ _ c.if-a-b-3.false, ne_eqb _ _ c.if-a-b-4.true)

pub returns-then-a-b-5 : goal.returns-then-a-b-5
unfolding is_earlier is_below list_of
returns-then-a-b-5 c = rw (eq-eqb _ _ c.if-a-b.false, eq-eqb _ _ c.if-a-b-2.false, eq-eqb _ _ c.if-a-b-3.false, eq-eqb _ _ c.if-a-b-4.false, ne_eqb _ _ c.if-a-b-5.true)

pub returns-then-a-b-6 : goal.returns-then-a-b-6
unfolding is_earlier is_below list_of
returns-then-a-b-6 c = rw (eq-eqb _ _ c.if-a-b.false, eq-eqb _ _ c.if-a-b-2.false, eq-eqb _ _ c.if-a-b-3.false, eq-eqb _ _ c.if-a-b-4.false, eq-eqb _ _ c.if-a-b-5.false, ne_eqb _ _ c.if-a-b-6.true)

pub returns : goal.returns
unfolding is_earlier is_below list_of
returns c = rw (eq-eqb _ _ c.if-a-b.false, eq-eqb _ _ c.if-a-b-2.false, eq-eqb _ _ c.if-a-b-3.false, eq-eqb _ _ c.if-a-b-4.false, eq-eqb _ _ c.if-a-b-5.false, eq-eqb _ _ c.if-a-b-6.false) (last-decides c.args.a.nanoseconds c.args.b.nanoseconds)
