use native.Mathlib.Omega.{arith}
use borrow.Author.Rules.{rules}
use Rattle.schema_change.proofs.FieldLaws.{elements-absent, elements-first, elements-second, elements-both, fields-deep, fields-closed, fields_go}
use Rattle.schema_change.proofs.Skipping.{enters-within}
use Rattle.schema_change.proofs.MemberLaws.{leads-start, added-place, added-count, added-left, added-falls, both_first, both-second, both_left, both-left', both-fall, leads-added, leads-both, ends-closed, ends-neither, ends-missing}
use Rattle.schema_change.proofs.field.+compare_elements_compare_fields_compare_members.Goals as goal

pub compare_elements-returns-in_default : goal.compare_elements-returns-in_default
compare_elements-returns-in_default t c = search (elements-first, rules)

pub compare_elements-returns-in_default-enter : goal.compare_elements-returns-in_default-enter
compare_elements-returns-in_default-enter t c = search (elements-second, rules)

pub compare_elements-compare_fields-requires : goal.compare_elements-compare_fields-requires
compare_elements-compare_fields-requires t c = search (enters-within, rules)

pub compare_elements-returns-then-has : goal.compare_elements-returns-then-has
compare_elements-returns-then-has t c =
    let pre = c.requires in
    elements-both pre.0 pre.1 c.if-has.true c.enter.ensures c.in-Some.is c.enter-then-has.ensures c.in-Some-enter.is c.compare_fields.ensures

pub compare_elements-returns : goal.compare_elements-returns
compare_elements-returns t c = search (elements-absent, rules)

pub compare_fields-returns-then-depth-eq0 : goal.compare_fields-returns-then-depth-eq0
compare_fields-returns-then-depth-eq0 t c = search (fields-deep, rules)

pub compare_fields-returns-then-is_open_yet : goal.compare_fields-returns-then-is_open_yet
compare_fields-returns-then-is_open_yet t c =
    let pre = c.requires in
    fields_go pre.0 pre.1 c.if-depth-eq0.false c.compare_entries-own.ensures c.is_open_yet.ensures c.if-is_open_yet.true c.compare_elements-below.ensures c.compare_members.ensures

pub compare_fields-returns : goal.compare_fields-returns
compare_fields-returns t c = search (fields-closed, rules)

pub compare_members-loop-x-init : goal.compare_members-loop-x-init
compare_members-loop-x-init t c = search (leads-start, rules)

pub compare_members-returns-in-Neither : goal.compare_members-returns-in-Neither
compare_members-returns-in-Neither t c = search (ends-neither, rules)

pub compare_members-returns-in-Missing : goal.compare_members-returns-in-Missing
compare_members-returns-in-Missing t c = search (ends-missing, rules)

pub compare_members-skip_below-requires : goal.compare_members-skip_below-requires
compare_members-skip_below-requires t c = search (added-place, added-count, rules)

pub compare_members-overflow_sub-ys : goal.compare_members-overflow_sub-ys
compare_members-overflow_sub-ys t c = search (added-left, rules)

pub compare_members-loop-x-smaller-in-Added : goal.compare_members-loop-x-smaller-in-Added
compare_members-loop-x-smaller-in-Added t c = search (added-falls, rules)

pub compare_members-loop-x-preserved-in-Added : goal.compare_members-loop-x-preserved-in-Added
compare_members-loop-x-preserved-in-Added t c = search (leads-added, rules)

pub compare_members-compare_fields-both-requires : goal.compare_members-compare_fields-both-requires
compare_members-compare_fields-both-requires t c =
    let inv = c.loop-x.invariant in
    let paired = c.pair.ensures in
    let both = c.in-Both.is in
    (omega arith, (both_first inv paired both, both-second inv paired both))

pub compare_members-overflow_sub-xs : goal.compare_members-overflow_sub-xs
compare_members-overflow_sub-xs t c = search (both_left, rules)

pub compare_members-overflow_sub-ys-in-Both : goal.compare_members-overflow_sub-ys-in-Both
compare_members-overflow_sub-ys-in-Both t c = both-left' c.loop-x.invariant c.pair.ensures c.in-Both.is

pub compare_members-loop-x-smaller : goal.compare_members-loop-x-smaller
compare_members-loop-x-smaller t c = both-fall c.loop-x.invariant c.pair.ensures c.in-Both.is c.members_from-xs-in-Both.ensures c.members_from-ys-in-Both.ensures

pub compare_members-loop-x-preserved : goal.compare_members-loop-x-preserved
compare_members-loop-x-preserved t c =
    leads-both c.loop-x.invariant c.pair.ensures c.is_open_yet.ensures c.loop-x-test.true c.in-Both.is c.compare_fields-both.ensures c.members_from-xs-in-Both.ensures
    c.members_from-ys-in-Both.ensures

pub compare_members-returns : goal.compare_members-returns
compare_members-returns t c = search (ends-closed, rules)
