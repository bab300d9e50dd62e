use Rattle.scope.proofs.BinderLaws.{searched-none, searched-more, searched-found, searched-all, bound-bare, bound-crowded}
use Prim.Native.Nat.{◌+◌, ◌-◌}
use native.Mathlib.Omega.{arith}
use mathlib.Core.Path.{◌≡◌}
use borrow.Author.Rules.{rules}
use Rattle.scope.proofs.binder.find_binder.Goals as goal

pub returns-then-count-eq0 : goal.returns-then-count-eq0
returns-then-count-eq0 c = search (bound-bare, rules)

pub returns-then-count-gt-MAX_BINDERS : goal.returns-then-count-gt-MAX_BINDERS
returns-then-count-gt-MAX_BINDERS c = search (bound-crowded, rules)

pub loop-i-init : goal.loop-i-init
loop-i-init c =
    let all : c.args.scope.count - 0 ≡ c.args.scope.count = omega arith in
    (omega arith, rw all (searched-none _ _ _ _))

pub returns-then-same_bytes : goal.returns-then-same_bytes
returns-then-same_bytes c = searched-found _ _ _ _ c.loop-i.invariant.1 (omega arith) _ c.name_in.ensures _ c.bytes_of.ensures _ c.same_bytes.ensures _ c.element_in.ensures c.if-same_bytes.true

pub loop-i-preserved : goal.loop-i-preserved
loop-i-preserved c =
    let one : c.args.scope.count - (c.loop-i.i + 1) ≡ c.args.scope.count - c.loop-i.i - 1 = omega arith in
    (omega arith, rw one (search (searched-more, rules)))

pub returns : goal.returns
returns c = search (searched-all, rules)
