use mathlib.Core.Path.{refl}
use Rattle.text.specs.ReadAtLaws.{bind-refused, bind-refuses, bind_stops, bind-reads, bind-pure}
use Rattle.reference.specs.Table.{row_marks}
use Rattle.scope.specs.Names.{row_by}
use Rattle.name_table.proofs.read.row_marks.Goals as goal

pub returns-in_err-id : goal.returns-in_err-id
unfolding row_marks
returns-in_err-id c = rw c.from_residual.ensures (let m1 = rw c.in_err-id.was at c.mark.ensures in
    bind-refused _ _ c.args.s.now c.args.at m1)

pub returns-in_err-entity : goal.returns-in_err-entity
unfolding row_marks
returns-in_err-entity c = rw c.from_residual-in_err-entity.ensures (let m1 = rw c.in_ok-id.was at c.mark.ensures in
    let m2 = rw c.in_err-entity.was at c.mark-2.ensures in
    bind_stops _ _ _ _ m1 refl m2)

pub returns-in_err-version : goal.returns-in_err-version
unfolding row_marks
returns-in_err-version c = rw c.from_residual-in_err-version.ensures (let m1 = rw c.in_ok-id.was at c.mark.ensures in
    let m2 = rw c.in_ok-entity.was at c.mark-2.ensures in
    let m3 = rw c.in_err-version.was at c.mark-3.ensures in
    bind-refuses _ _ m1 (bind_stops _ _ _ _ m2 refl m3))

pub returns-in_err-fields : goal.returns-in_err-fields
unfolding row_marks
returns-in_err-fields c = rw c.from_residual-in_err-fields.ensures (let m1 = rw c.in_ok-id.was at c.mark.ensures in
    let m2 = rw c.in_ok-entity.was at c.mark-2.ensures in
    let m3 = rw c.in_ok-version.was at c.mark-3.ensures in
    let m4 = rw c.in_err-fields.was at c.mark-4.ensures in
    bind-refuses _ _ m1 (bind-refuses _ _ m2 (bind_stops _ _ _ _ m3 refl m4)))

pub returns-in_err-state : goal.returns-in_err-state
unfolding row_marks
returns-in_err-state c = rw c.from_residual-in_err-state.ensures (let m1 = rw c.in_ok-id.was at c.mark.ensures in
    let m2 = rw c.in_ok-entity.was at c.mark-2.ensures in
    let m3 = rw c.in_ok-version.was at c.mark-3.ensures in
    let m4 = rw c.in_ok-fields.was at c.mark-4.ensures in
    let m5 = rw c.in_err-state.was at c.mark-5.ensures in
    bind-refuses _ _ m1 (bind-refuses _ _ m2 (bind-refuses _ _ m3 (bind_stops _ _ _ _ m4 refl m5))))

pub returns-in_err-target : goal.returns-in_err-target
unfolding row_marks
returns-in_err-target c = rw c.from_residual-in_err-target.ensures (let m1 = rw c.in_ok-id.was at c.mark.ensures in
    let m2 = rw c.in_ok-entity.was at c.mark-2.ensures in
    let m3 = rw c.in_ok-version.was at c.mark-3.ensures in
    let m4 = rw c.in_ok-fields.was at c.mark-4.ensures in
    let m5 = rw c.in_ok-state.was at c.mark-5.ensures in
    let m6 = rw c.in_err-target.was at c.mark-6.ensures in
    bind-refuses _ _ m1 (bind-refuses _ _ m2 (bind-refuses _ _ m3 (bind-refuses _ _ m4 (bind_stops _ _ _ _ m5 refl m6)))))

pub returns-in_err-source : goal.returns-in_err-source
unfolding row_marks
returns-in_err-source c = rw c.from_residual-in_err-source.ensures (let m1 = rw c.in_ok-id.was at c.mark.ensures in
    let m2 = rw c.in_ok-entity.was at c.mark-2.ensures in
    let m3 = rw c.in_ok-version.was at c.mark-3.ensures in
    let m4 = rw c.in_ok-fields.was at c.mark-4.ensures in
    let m5 = rw c.in_ok-state.was at c.mark-5.ensures in
    let m6 = rw c.in_ok-target.was at c.mark-6.ensures in
    let m7 = rw c.in_err-source.was at c.mark-7.ensures in
    bind-refuses _ _ m1 (bind-refuses _ _ m2 (bind-refuses _ _ m3 (bind-refuses _ _ m4 (bind-refuses _ _ m5 (bind_stops _ _ _ _ m6 refl m7))))))

pub returns-in_err-args : goal.returns-in_err-args
unfolding row_marks
returns-in_err-args c = rw c.from_residual-in_err-args.ensures (let m1 = rw c.in_ok-id.was at c.mark.ensures in
    let m2 = rw c.in_ok-entity.was at c.mark-2.ensures in
    let m3 = rw c.in_ok-version.was at c.mark-3.ensures in
    let m4 = rw c.in_ok-fields.was at c.mark-4.ensures in
    let m5 = rw c.in_ok-state.was at c.mark-5.ensures in
    let m6 = rw c.in_ok-target.was at c.mark-6.ensures in
    let m7 = rw c.in_ok-source.was at c.mark-7.ensures in
    let m8 = rw c.in_err-args.was at c.mark-8.ensures in
    bind-refuses _ _ m1 (bind-refuses _ _ m2 (bind-refuses _ _ m3 (bind-refuses _ _ m4 (bind-refuses _ _ m5 (bind-refuses _ _ m6 (bind_stops _ _ _ _ m7 refl m8)))))))

pub returns-in_err-old : goal.returns-in_err-old
unfolding row_marks
returns-in_err-old c = rw c.from_residual-in_err-old.ensures (let m1 = rw c.in_ok-id.was at c.mark.ensures in
    let m2 = rw c.in_ok-entity.was at c.mark-2.ensures in
    let m3 = rw c.in_ok-version.was at c.mark-3.ensures in
    let m4 = rw c.in_ok-fields.was at c.mark-4.ensures in
    let m5 = rw c.in_ok-state.was at c.mark-5.ensures in
    let m6 = rw c.in_ok-target.was at c.mark-6.ensures in
    let m7 = rw c.in_ok-source.was at c.mark-7.ensures in
    let m8 = rw c.in_ok-args.was at c.mark-8.ensures in
    let m9 = rw c.in_err-old.was at c.mark-9.ensures in
    bind-refuses _ _ m1 (bind-refuses _ _ m2 (bind-refuses _ _ m3 (bind-refuses _ _ m4 (bind-refuses _ _ m5 (bind-refuses _ _ m6 (bind-refuses _ _ m7 (bind_stops _ _ _ _ m8 refl m9))))))))

pub returns : goal.returns
unfolding row_marks row_by
returns c =
    let m1 = rw c.in_ok-id.was at c.mark.ensures in
    let m2 = rw c.in_ok-entity.was at c.mark-2.ensures in
    let m3 = rw c.in_ok-version.was at c.mark-3.ensures in
    let m4 = rw c.in_ok-fields.was at c.mark-4.ensures in
    let m5 = rw c.in_ok-state.was at c.mark-5.ensures in
    let m6 = rw c.in_ok-target.was at c.mark-6.ensures in
    let m7 = rw c.in_ok-source.was at c.mark-7.ensures in
    let m8 = rw c.in_ok-args.was at c.mark-8.ensures in
    let m9 = rw c.in_ok-old.was at c.mark-9.ensures in
    bind-reads _ _ m1 (bind-reads _ _ m2 (bind-reads _ _ m3 (bind-reads _ _ m4 (bind-reads _ _ m5 (bind-reads _ _ m6 (bind-reads _ _ m7 (bind-reads _ _ m8 (bind-pure _ _ m9))))))))
