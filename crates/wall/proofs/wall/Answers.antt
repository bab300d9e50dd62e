-- `wall::wall` meets its contract: each way to the end of the call.
use mathlib.Core.Path.{refl}
use Rattle.wall.proofs.CallSteps.{meets-settings, meets-form, meets-room, given, few, meets-table, meets-printed}
use native.Mathlib.Omega.{arith}
use Rattle.wall.proofs.wall.Goals as goal

pub returns-then-number-ne0 : goal.returns-then-number-ne0
returns-then-number-ne0 c =
    let a = c.args in
    meets-settings a.kind a.semantics a.label.now a.table.now a.schema.now a.book.now a.path.now a.pages.now a.scratch.now
    c.refused_settings-number.ensures c.if-number-ne0.true c.refused.ensures

pub returns-in_default : goal.returns-in_default
returns-in_default c =
    let a = c.args in
    let bad = rw c.in_default.is at c.count_sheets.ensures in
    meets-form a.kind a.semantics a.label.now a.table.now a.schema.now a.book.now a.path.now a.pages.now a.scratch.now
    c.refused_settings-number.ensures c.if-number-ne0.false bad c.refused-in_default.ensures

pub returns-then-pages-count : goal.returns-then-pages-count
returns-then-pages-count c =
    let a = c.args in
    let counted = rw c.in-Some.is at c.count_sheets.ensures in
    meets-room a.kind a.semantics a.label.now a.table.now a.schema.now a.book.now a.path.now a.pages.now a.scratch.now
    c.refused_settings-number.ensures c.if-number-ne0.false counted c.page_count-count.ensures (omega arith) c.refused-then-pages-count.ensures

pub put_pages-requires : goal.put_pages-requires
put_pages-requires c =
    let a = c.args in
    let counted = rw c.in-Some.is at c.count_sheets.ensures in (
      given a.kind a.semantics a.label.now a.table.now a.schema.now a.book.now a.path.now a.pages.now a.scratch.now
          c.refused_settings-number.ensures c.if-number-ne0.false counted c.page_count-count.ensures,
      few a.kind a.semantics a.label.now a.table.now a.schema.now a.book.now a.path.now a.pages.now a.scratch.now
          c.refused_settings-number.ensures c.if-number-ne0.false counted c.page_count-count.ensures (omega (arith, c.type_inv.book)),
    )

pub returns-in-Err : goal.returns-in-Err
returns-in-Err c =
    let a = c.args in
    let counted = rw c.in-Some.is at c.count_sheets.ensures in
    let due = rw c.in-Err.is at c.settle.ensures in
    meets-table a.kind a.semantics a.label.now a.table.now a.schema.now a.book.now a.path.now a.pages.now a.scratch.now
    c.refused_settings-number.ensures c.if-number-ne0.false counted c.page_count-count.ensures (omega arith) due c.refused-in-Err.ensures

pub returns-in-Ok : goal.returns-in-Ok
returns-in-Ok c =
    let a = c.args in
    let counted = rw c.in-Some.is at c.count_sheets.ensures in
    let set = rw c.in-Ok.is at c.settle.ensures in
    meets-printed a.kind a.semantics a.label.now a.table.now a.schema.now a.book.now a.path.now a.pages.now a.scratch.now
    c.refused_settings-number.ensures c.if-number-ne0.false counted c.page_count-count.ensures (omega arith) _ set c.put_pages.ensures refl
