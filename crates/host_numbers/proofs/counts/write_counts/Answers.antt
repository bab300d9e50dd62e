use Rattle.buffer.specs.WroteLaws.{wrote_nothing, wrote_kept}
use Rattle.host_numbers.specs.Counts.{long_bytes_of}
use Rattle.host_numbers.proofs.CountSteps.{one-long-more, counts-short, counts-written}
use native.Mathlib.Omega.{arith}
use Rattle.host_numbers.proofs.counts.write_counts.Goals as goal

pub returns-then-bytes-numbers : goal.returns-then-bytes-numbers
returns-then-bytes-numbers c = counts-short c.args.numbers.now c.args.bytes.now (omega arith)

pub loop-i-init : goal.loop-i-init
unfolding long_bytes_of
loop-i-init c = wrote_nothing c.args.bytes.now 0

pub put_u64-requires : goal.put_u64-requires
put_u64-requires c = omega (arith, wrote_kept c.loop-i.invariant)

pub loop-i-preserved : goal.loop-i-preserved
loop-i-preserved c =
    let l = c.loop-i in
    one-long-more c.args.numbers.now l.i (omega arith) l.invariant c.put_u64.ensures

pub shape_of-bytes : goal.shape_of-bytes
shape_of-bytes c = wrote_kept c.loop-i.invariant

pub returns : goal.returns
returns c =
    let l = c.loop-i in
    counts-written c.args.numbers.now l.i (omega arith) (omega arith) l.invariant
