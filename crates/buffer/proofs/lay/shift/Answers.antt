-- `buffer::lay::shift` meets its contract.
use Rattle.std.proofs.Common.{◌≡◌, ◌+◌, ◌-◌, length, take, drop, arith, sym, ap, ◌∙◌, ◌++◌, length-take, length-drop}
use Rattle.std.proofs.lemmas.List.Edits.{sets-eq}
use Rattle.buffer.proofs.lay.shift.Goals as goal

pub returns : goal.returns
returns c =
    let old = c.args.out.now in
    let at = c.args.from + c.args.n in
    let moved = take (c.args.end - c.args.from) (drop c.args.from old) in
    let size : length moved ≡ c.args.end - c.args.from = grind (arith, length-take, length-drop) in
    c.copy_within.ensures.after
    ∙ sym (sets-eq moved old at (omega (arith, size)) ∙ ap (λ k. take at old ++ moved ++ drop (at + k) old) size)
