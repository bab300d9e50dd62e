use Prim.Native.Nat.{suc, ◌+◌, ◌-◌, ◌≤◌}
use mathlib.Core.Path.{◌≡◌, refl, sym, ap, ◌∙◌}
use native.Mathlib.Omega.{arith}
use lib.ListN.{length}
use Rattle.text.specs.Parts.{part_of}
use Rattle.text.specs.declared.part.Part.{Part}
use Rattle.sheet.specs.Places.{field_of}
use Rattle.definition.specs.Decode.{to_count, field_in}
use Rattle.schema.specs.Fields.{ahead, cursor_of}
use Rattle.schema.specs.Index.{max_slots}
use Rattle.schema.specs.declared.field.Cursor.{Cursor}
use Rattle.schema.proofs.Slots.{kept-all, kept_more}
use Rattle.schema.proofs.FieldSteps.{to_count-none, field-too-deep, field-headless, field-crowded, field-elementless, field-memberless, field-good, to_count-small, inner-ready, behind-ready}
use Rattle.schema.proofs.MemberSteps.{element-absent, element-none, one_none, one-good, element-named, element-good, sofar-none, sofar-all, sofar-bad, sofar-fallen, sofar-more}
use Rattle.schema.proofs.field.+read_element_read_field_read_members.Goals as goal

pub read_element-read_members-requires : goal.read_element-read_members-requires
unfolding to_count
read_element-read_members-requires t c =
    (omega arith, rw c.if-has.true at c.requires)

pub read_element-returns-in_err-to : goal.read_element-returns-in_err-to
read_element-returns-in_err-to t c = rw c.from_residual.ensures (record { kept = c.read_members.ensures.kept; answer = element-none c.args.sheet.now c.args.depth c.args.has c.if-has.true c.args.from (one_none (field_in c.args.depth) (ahead c.args.sheet.now c.args.from) (rw c.in_err-to.was at c.read_members.ensures.answer)) })

pub read_element-returns-then-bytes_of-eq0 : goal.read_element-returns-then-bytes_of-eq0
read_element-returns-then-bytes_of-eq0 t c =
    let s = c.args.sheet.now in
    let good = one-good s c.args.words.now _ c.args.depth c.args.slot c.args.from _ (rw c.in_ok-to.was at c.read_members.ensures.answer) in
    let name = ap (λ (p : Part). length (part_of s p)) c.name_of_slot-name.ensures in
    record { kept = c.read_members.ensures.kept; answer = element-good s c.args.words.now _ c.args.depth c.args.has c.if-has.true c.args.slot c.args.from _ _ good (sym (ap length c.bytes_of.ensures ∙ name) ∙ c.if-bytes_of-eq0.true) }

pub read_element-returns-then-has : goal.read_element-returns-then-has
read_element-returns-then-has t c =
    let s = c.args.sheet.now in
    let good = one-good s c.args.words.now _ c.args.depth c.args.slot c.args.from _ (rw c.in_ok-to.was at c.read_members.ensures.answer) in
    let name = ap (λ (p : Part). length (part_of s p)) c.name_of_slot-name.ensures in
    record { kept = c.read_members.ensures.kept; answer = element-named s c.args.words.now _ c.args.depth c.args.has c.if-has.true c.args.slot c.args.from _ _ good (λ e. c.if-bytes_of-eq0.false (ap length c.bytes_of.ensures ∙ name ∙ e)) }

pub read_element-returns : goal.read_element-returns
read_element-returns t c =
    record { kept = kept-all c.args.words.now; answer = element-absent c.args.sheet.now c.args.words.now c.args.depth c.args.has c.args.slot c.args.from c.if-has.false c.requires.at c.requires.used }

pub read_field-returns-then-depth-eq0 : goal.read_field-returns-then-depth-eq0
read_field-returns-then-depth-eq0 t c =
    record { kept = kept-all c.args.words.now; answer = field-too-deep c.args.depth (ahead c.args.sheet.now c.args.from) c.if-depth-eq0.true }

pub read_field-returns-in_err-head : goal.read_field-returns-in_err-head
read_field-returns-in_err-head t c = rw c.from_residual.ensures (record { kept = kept-all c.args.words.now; answer = field-headless c.args.depth (ahead c.args.sheet.now c.args.from) (rw c.in_err-head.was at c.field_head.ensures) })

pub read_field-overflow_add-announced : goal.read_field-overflow_add-announced
read_field-overflow_add-announced t c =
    let e = rw c.in_ok-head.was at c.field_head.ensures in omega (arith, e, to_count-small c.in_ok-head.head.items)

pub read_field-returns-then-low-announced : goal.read_field-returns-then-low-announced
unfolding field_of
read_field-returns-then-low-announced t c =
    let e = rw c.in_ok-head.was at c.field_head.ensures in
    record { kept = kept-all c.args.words.now; answer = field-crowded c.args.sheet.now c.args.from (field_of c.args.sheet.now c.in_ok-head.head) c.in_ok-head.end c.to_count-elements.result e.0.reads c.to_count-elements.ensures c.args.depth c.if-low-announced.true }

pub read_field-put_slot-requires : goal.read_field-put_slot-requires
read_field-put_slot-requires t c =
    let e = rw c.in_ok-head.was at c.field_head.ensures in omega (arith, e.3)

pub read_field-returns-then-announced-eq0 : goal.read_field-returns-then-announced-eq0
unfolding field_of
read_field-returns-then-announced-eq0 t c =
    let s = c.args.sheet.now in
    let e = rw c.in_ok-head.was at c.field_head.ensures in
    let deeper : c.args.depth ≡ suc (c.args.depth - 1) = omega (arith, c.if-depth-eq0.false) in
    let none_here : c.to_count-elements.result ≡ 0 = omega (arith, c.if-announced-eq0.true) in
    let inner : Cursor = record { next = c.args.from.next + 1; used = c.args.from.used + (c.to_count-elements.result + c.in_ok-head.head.count); at = c.in_ok-head.end } in
    let used : inner.used ≤ max_slots = omega (arith, c.if-low-announced.false, c.requires.used) in
    let one = element-absent s _ (c.args.depth - 1) c.in_ok-head.head.items c.args.from.used inner (to_count-none _ (sym c.to_count-elements.ensures ∙ none_here)) e.0.within used in
    let many = sofar-all s _ _ (c.args.depth - 1) (c.args.from.used + c.to_count-elements.result) c.in_ok-head.head.count inner inner _ 0 (sofar-none s _ (c.args.depth - 1) _ _ inner c.in_ok-head.head.name e.0.within used) (omega (arith, c.if-announced-eq0.true)) in
    record { kept = c.put_slot.ensures.kept; answer = field-good s c.args.from (field_of s c.in_ok-head.head) c.in_ok-head.end c.to_count-elements.result e.0.reads c.to_count-elements.ensures c.args.depth (c.args.depth - 1) deeper c.if-low-announced.false c.args.slot c.args.words.now _ _ _ c.requires c.in_ok-head.head.name refl c.put_slot.ensures _ _ one many }

pub read_field-read_element-requires : goal.read_field-read_element-requires
read_field-read_element-requires t c =
    let e = rw c.in_ok-head.was at c.field_head.ensures in
    (omega arith, inner-ready c.in_ok-head.head.items c.to_count-elements.result c.in_ok-head.head.count _ c.requires c.put_slot.ensures.kept e.0.within c.to_count-elements.ensures c.if-low-announced.false)

pub read_field-returns-in_err-behind : goal.read_field-returns-in_err-behind
unfolding field_of
read_field-returns-in_err-behind t c = rw c.from_residual-in_err-behind.ensures (let e = rw c.in_ok-head.was at c.field_head.ensures in
    let deeper : c.args.depth ≡ suc (c.args.depth - 1) = omega (arith, c.if-depth-eq0.false) in
    record { kept = kept_more c.put_slot.ensures.kept c.read_element.ensures.kept; answer = field-elementless c.args.sheet.now c.args.from (field_of c.args.sheet.now c.in_ok-head.head) c.in_ok-head.end c.to_count-elements.result e.0.reads c.to_count-elements.ensures c.args.depth (c.args.depth - 1) deeper c.if-low-announced.false (rw c.in_err-behind.was at c.read_element.ensures.answer) })

pub read_field-read_members-requires : goal.read_field-read_members-requires
read_field-read_members-requires t c =
    let e = rw c.in_ok-head.was at c.field_head.ensures in
    let one = rw c.in_ok-behind.was at c.read_element.ensures.answer in
    (omega (arith, c.if-depth-eq0.false), behind-ready c.in_ok-head.head.items c.to_count-elements.result c.in_ok-head.head.count c.in_ok-head.end c.requires c.put_slot.ensures.kept c.read_element.ensures.kept c.to_count-elements.ensures c.if-low-announced.false one)

pub read_field-returns-in_err-to : goal.read_field-returns-in_err-to
unfolding field_of
read_field-returns-in_err-to t c = rw c.from_residual-in_err-to.ensures (let e = rw c.in_ok-head.was at c.field_head.ensures in
    let deeper : c.args.depth ≡ suc (c.args.depth - 1) = omega (arith, c.if-depth-eq0.false) in
    let one = rw c.in_ok-behind.was at c.read_element.ensures.answer in
    record { kept = kept_more c.put_slot.ensures.kept (kept_more c.read_element.ensures.kept c.read_members.ensures.kept); answer = field-memberless c.args.sheet.now c.args.from (field_of c.args.sheet.now c.in_ok-head.head) c.in_ok-head.end c.to_count-elements.result e.0.reads c.to_count-elements.ensures c.args.depth (c.args.depth - 1) deeper c.if-low-announced.false _ _ one.reads (rw c.in_err-to.was at c.read_members.ensures.answer) })

pub read_field-returns : goal.read_field-returns
unfolding field_of
read_field-returns t c =
    let e = rw c.in_ok-head.was at c.field_head.ensures in
    let deeper : c.args.depth ≡ suc (c.args.depth - 1) = omega (arith, c.if-depth-eq0.false) in
    let one = rw c.in_ok-behind.was at c.read_element.ensures.answer in
    let many = rw c.in_ok-to.was at c.read_members.ensures.answer in
    record { kept = kept_more c.put_slot.ensures.kept (kept_more c.read_element.ensures.kept c.read_members.ensures.kept); answer = field-good c.args.sheet.now c.args.from (field_of c.args.sheet.now c.in_ok-head.head) c.in_ok-head.end c.to_count-elements.result e.0.reads c.to_count-elements.ensures c.args.depth (c.args.depth - 1) deeper c.if-low-announced.false c.args.slot c.args.words.now _ _ _ c.requires c.in_ok-head.head.name refl c.put_slot.ensures _ _ one many }

pub read_members-loop-i-init : goal.read_members-loop-i-init
read_members-loop-i-init t c = sofar-none c.args.sheet.now c.args.words.now c.args.depth c.args.first c.args.count (cursor_of c.args.next c.args.used c.args.at) _ c.requires.at c.requires.used

pub read_members-returns-in_err-name : goal.read_members-returns-in_err-name
read_members-returns-in_err-name t c = rw c.from_residual.ensures (record { kept = kept_more c.loop-i.invariant.kept c.read_field.ensures.kept; answer = sofar-bad c.args.sheet.now c.args.words.now c.loop-i.words c.args.depth c.args.first c.args.count (cursor_of c.args.next c.args.used c.args.at) c.loop-i.to c.loop-i.before c.loop-i.i c.loop-i.invariant (omega arith) (rw c.in_err-name.was at c.read_field.ensures.answer) })

pub read_members-loop-i-preserved : goal.read_members-loop-i-preserved
read_members-loop-i-preserved t c =
    sofar-more c.args.sheet.now c.args.words.now c.loop-i.words c.args.depth c.args.first c.args.count (cursor_of c.args.next c.args.used c.args.at) c.loop-i.to c.loop-i.before c.loop-i.i c.loop-i.invariant (omega arith) _ _ _ (rw c.in_ok-name.was at c.read_field.ensures.answer) c.requires.slots c.read_field.ensures.kept (sym c.rises.ensures ∙ c.if-not-rises.false)

pub read_members-returns-then-not-rises : goal.read_members-returns-then-not-rises
read_members-returns-then-not-rises t c =
    record { kept = kept_more c.loop-i.invariant.kept c.read_field.ensures.kept; answer = sofar-fallen c.args.sheet.now c.args.words.now c.loop-i.words c.args.depth c.args.first c.args.count (cursor_of c.args.next c.args.used c.args.at) c.loop-i.to c.loop-i.before c.loop-i.i c.loop-i.invariant (omega arith) _ _ _ (rw c.in_ok-name.was at c.read_field.ensures.answer) (sym c.rises.ensures ∙ c.if-not-rises.true) }

pub read_members-returns : goal.read_members-returns
read_members-returns t c =
    record { kept = c.loop-i.invariant.kept; answer = sofar-all c.args.sheet.now c.args.words.now c.loop-i.words c.args.depth c.args.first c.args.count (cursor_of c.args.next c.args.used c.args.at) c.loop-i.to c.loop-i.before c.loop-i.i c.loop-i.invariant (omega arith) }
