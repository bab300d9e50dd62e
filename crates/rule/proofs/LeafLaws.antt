-- A value that holds no others is read once its head is.
use Rattle.std.specs.Prelude.{Some, None}
use Prim.Native.Nat.{ℕ, ◌+◌, ◌*◌, ◌-◌}
use mathlib.Core.Bool.{true}
use mathlib.Core.List.{List}
use mathlib.Core.Option.{none}
use mathlib.Core.Path.{◌≡◌, refl, sym}
use native.Mathlib.Omega.{arith}
use lib.ListN.{set}
use Rattle.text.specs.Parts.{optional_of}
use Rattle.sheet.specs.Places.{LeafRead, value_count}
use Rattle.sheet.specs.declared.rule_heads.ValueHead.{ValueHead}
use Rattle.sheet.specs.declared.rule_heads.ValueHead.TheVariants as head
use Rattle.definition.specs.Decode.{value_in}
use Rattle.definition.specs.Within.{value_entries}
use Rattle.rule.specs.declared.cursor.Cursor.{Cursor}
use Rattle.rule.specs.declared.value.Held.{Held}
use Rattle.rule.specs.declared.value.Held.TheVariants as held
use Rattle.rule.specs.Index.{ValueAt}
use Rattle.rule.specs.Read.{held_by, cost_of, HeldAnswer, Ready, Indexed}
use Rattle.rule.proofs.KeptLaws.{ready-inside}
use Rattle.rule.proofs.SiblingLaws.{siblings-begin, siblings-end}
use Rattle.rule.proofs.SiblingKinds.{values-kind, pairs-kind, object-rises}
use Rattle.rule.proofs.ValueAnswers.{held-answer}

nothing-held : (s words : List ℕ) (depth : ℕ) (what : Held) (c : Cursor) → cost_of what ≡ 0 → Ready s words (cost_of what) c → HeldAnswer s words words depth what c (Some c)
unfolding optional_of
nothing-held s words depth (held.Values n) c e ready = siblings-end (siblings-begin (values-kind s depth) tt n ready) e e
nothing-held s words depth (held.Pairs n) c e ready = object-rises depth None (siblings-begin (pairs-kind s depth) (true, none) n ready) (omega arith) refl

bare-cost : (h : ValueHead) → value_count h ≡ 0 → cost_of (held_by h) ≡ 0
unfolding value_count
bare-cost (head.Constant type) e = refl
bare-cost (head.Number digits) e = refl
bare-cost (head.Text t) e = refl
bare-cost (head.Array n) e = e
bare-cost (head.Object n) e = omega arith

pub leaf-answer : (s words : List ℕ) (depth : ℕ) (c : Cursor) {x end : ℕ}
    → (depth ≡ 0 → ⊥)
    → LeafRead s c.at end
    → Ready s words 1 c
    → x ≡ c.at * 4096 + (c.word + 1)
    → Indexed (value_in depth) (ValueAt s) value_entries s words (set words c.word x) 1 c (record { at = end; word = c.word + 1; left = c.left })
leaf-answer s words depth c {end = end} deep leaf ready word =
    let nothing = bare-cost leaf.head leaf.bare in
    let same : c.left - 0 ≡ c.left = omega arith in
    let inner : Ready s words (cost_of (held_by leaf.head)) (record { at = end; word = c.word + 1; left = c.left - 0 }) = rw nothing (ready-inside ready leaf.reads.within (omega arith)) in
    rw same at
    (held-answer s words depth end c leaf.head deep leaf.reads words 0 (omega arith) (record { at = end; word = c.word + 1; left = c.left - 0 }) (held_by leaf.head) refl (sym nothing) ready word
    (nothing-held s words (depth - 1) (held_by leaf.head) (record { at = end; word = c.word + 1; left = c.left - 0 }) nothing inner))
