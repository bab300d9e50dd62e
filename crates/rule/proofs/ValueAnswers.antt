-- What the reader of a value answers, by what its head holds.
use Rattle.std.specs.Prelude.{Some, None}
use Prim.Native.Nat.{ℕ, suc, ◌+◌, ◌*◌, ◌-◌, ◌≤◌, ◌<◌}
use mathlib.Core.List.{List}
use mathlib.Core.Option.{none, some}
use mathlib.Core.Path.{◌≡◌, sym, ap, ◌∙◌}
use native.Mathlib.Omega.{arith}
use lib.ListN.{drop, set}
use Rattle.text.specs.ReadAt.{ReadsTo}
use Rattle.text.specs.CaseLaws.{zero-not-one}
use Rattle.sheet.specs.Entries.{object_head, value_head, max_count}
use Rattle.sheet.specs.Places.{value_of, value_count}
use Rattle.sheet.specs.declared.rule_heads.ValueHead.{ValueHead}
use Rattle.sheet.specs.declared.rule_heads.ValueHead.TheVariants as head
use Rattle.definition.specs.Limits.{max_rule_entries}
use Rattle.definition.specs.Decode.{Ahead, value_in, values_of, object_of}
use Rattle.definition.specs.Decode as decode
use Rattle.definition.specs.Within.{pairs_entries, value_entries, values_entries}
use Rattle.rule.specs.declared.cursor.Cursor.{Cursor}
use Rattle.rule.specs.declared.value.Held.{Held}
use Rattle.rule.specs.declared.value.Held.TheVariants as held
use Rattle.rule.specs.Index.{ValueAt, ValuesAt, PairsAt}
use Rattle.rule.specs.IndexLaws.{values-frame, pairs-frame}
use Rattle.rule.specs.Read.{ahead_of, held_by, held_count, cost_of, HeldAnswer, Kept, Ready, Indexed}
use Rattle.rule.proofs.KeptLaws.{kept-all, kept-wider}
use Rattle.rule.proofs.ValueLaws.{value-too-deep, value-headless, value-headed, HoldsValues, constant-holds, number-holds, string-holds, array-holds, values-unpaid, values-bad, values-held, pairs-unpaid, pairs-bad, pairs-held}
use Rattle.rule.proofs.CloseLaws.{value-closed}

-- the count that the sheet's reader bounds
pub held-few : (h : ValueHead) → value_count h ≤ max_count → held_count (held_by h) ≤ max_count
unfolding value_count
held-few (head.Constant type) e = omega arith
held-few (head.Number digits) e = omega arith
held-few (head.Text t) e = omega arith
held-few (head.Array n) e = e
held-few (head.Object n) e = e

held-values : (s : List ℕ) (h : ValueHead) (n : ℕ) → held_by h ≡ held.Values n → HoldsValues (value_of s h) n
unfolding value_of
held-values s (head.Constant type) n e = let z : 0 ≡ n = cc in rw (← z) constant-holds
held-values s (head.Number digits) n e = let z : 0 ≡ n = cc in rw (← z) number-holds
held-values s (head.Text t) n e = let z : 0 ≡ n = cc in rw (← z) string-holds
held-values s (head.Array m) n e = let z : m ≡ n = cc in rw z array-holds
held-values s (head.Object m) n e = zero-not-one cc

held-pairs : (s : List ℕ) (h : ValueHead) (n : ℕ) → held_by h ≡ held.Pairs n → object_head n ≡ value_of s h
unfolding value_of
held-pairs s (head.Constant type) n e = zero-not-one cc
held-pairs s (head.Number digits) n e = zero-not-one cc
held-pairs s (head.Text t) n e = zero-not-one cc
held-pairs s (head.Array m) n e = zero-not-one cc
held-pairs s (head.Object m) n e = let z : n ≡ m = cc in ap object_head z

abbrev Bad : (s before after : List ℕ) (depth : ℕ) (c : Cursor) → Type 0
Bad s before after depth c = (value_in depth (ahead_of s c) ≡ none) × Kept before after c.word max_rule_entries

module _ (s words : List ℕ) (depth : ℕ) (c : Cursor) where
  pub value-deep-answer : depth ≡ 0 → Bad s words words depth c
  value-deep-answer e = (value-too-deep (ahead_of s c) depth e, kept-all)

  pub value-headless-answer : (depth ≡ 0 → ⊥) → value_head (drop c.at s) ≡ none → Bad s words words depth c
  value-headless-answer deep e =
      let below : depth ≡ suc (depth - 1) = omega arith in
      (ap (λ (d : ℕ). value_in d (ahead_of s c)) below ∙ value-headless (depth - 1) (ahead_of s c) e, kept-all)

-- inside an entry, after its head
abbrev inside : Cursor → (behind cost : ℕ) → Cursor
inside c behind cost = record { at = behind; word = c.word + 1; left = c.left - cost }

module _ (s words : List ℕ) (depth behind : ℕ) (c : Cursor) (h : ValueHead) (deep : depth ≡ 0 → ⊥) (reads : ReadsTo value_head s c.at (value_of s h) behind) where
  abbrev ahead : Ahead
  ahead = record { next = c.word + 1 + 1; left = c.left; rest = drop behind s }

  below-depth : depth ≡ suc (depth - 1)
  below-depth = omega arith

  headed : value_in depth (ahead_of s c) ≡ decode.value_of (c.word + 1) (value_of s h) (value_in (depth - 1)) ahead
  headed = ap (λ (d : ℕ). value_in d (ahead_of s c)) below-depth ∙ value-headed (depth - 1) (ahead_of s c) (value_of s h) (drop behind s) reads.reads

  is-object : (n : ℕ) → held_by h ≡ held.Pairs n → value_in depth (ahead_of s c) ≡ decode.value_of (c.word + 1) (object_head n) (value_in (depth - 1)) ahead
  is-object n e = headed ∙ ap (λ h. decode.value_of (c.word + 1) h (value_in (depth - 1)) ahead) (sym (held-pairs s h n e))

  pub held-unpaid-answer : (cost : ℕ) (what : Held) → what ≡ held_by h → cost ≡ cost_of what → c.left < cost → Bad s words words depth c
  held-unpaid-answer cost (held.Values n) e f q =
      (headed ∙ values-unpaid (c.word + 1) (value_in (depth - 1)) ahead (held-values s h n (sym e)) (omega arith), kept-all)
  held-unpaid-answer cost (held.Pairs n) e f q =
      (is-object n (sym e) ∙ pairs-unpaid (c.word + 1) (value_in (depth - 1)) ahead n (omega arith), kept-all)

  module _ (mid : List ℕ) (cost : ℕ) (pays : cost ≤ c.left) where
    pub held-bad-answer : (what : Held)
        → what ≡ held_by h
        → cost ≡ cost_of what
        → HeldAnswer s words mid (depth - 1) what (inside c behind cost) None
        → Bad s words mid depth c
    held-bad-answer (held.Values n) e f bad =
        let inner = rw f at bad in
        (headed ∙ values-bad (c.word + 1) (value_in (depth - 1)) ahead (held-values s h n (sym e)) (omega arith) inner.0, kept-wider bad.1 (omega arith) (omega arith))
    held-bad-answer (held.Pairs n) e f bad =
        let inner = rw f at bad in
        (is-object n (sym e) ∙ pairs-bad (c.word + 1) (value_in (depth - 1)) ahead n (omega arith) inner.0, kept-wider bad.1 (omega arith) (omega arith))

    pub held-limit : (next : Cursor) (what : Held)
        → Ready s words 1 c
        → cost ≡ cost_of what
        → HeldAnswer s words mid (depth - 1) what (inside c behind cost) (Some next)
        → next.word ≤ max_rule_entries
    held-limit next (held.Values n) ready f inner = omega (arith, inner.budget, ready.budget)
    held-limit next (held.Pairs n) ready f inner = omega (arith, inner.budget, ready.budget)

    pub held-answer : (next : Cursor) {x : ℕ} (what : Held)
        → what ≡ held_by h
        → cost ≡ cost_of what
        → Ready s words 1 c
        → x ≡ c.at * 4096 + next.word
        → HeldAnswer s words mid (depth - 1) what (inside c behind cost) (Some next)
        → Indexed (value_in depth) (ValueAt s) value_entries s words (set mid c.word x) 1 c next
    held-answer next {x} (held.Values n) e f ready word inner =
        let within = rw f at inner in
        value-closed (values_of n (value_in (depth - 1))) (ValuesAt s) values_entries (λ words later i vs at agree. values-frame s words later vs i at agree) s words mid c next depth (depth - 1) behind n x (value_of s h) ready below-depth reads.reads (omega arith) word within
        (values-held s (c.word + 1) (value_in (depth - 1)) ahead (ahead_of s next) within.tree (held-values s h n (sym e)) (omega arith) within.reads)
    held-answer next {x} (held.Pairs n) e f ready word inner =
        let within = rw f at inner in
        value-closed (object_of n (value_in (depth - 1))) (PairsAt s) pairs_entries (λ words later i ps at agree. pairs-frame s words later ps i at agree) s words mid c next depth (depth - 1) behind (2 * n) x (object_head n) ready below-depth
        (reads.reads ∙ ap (λ h. some (h, drop behind s)) (sym (held-pairs s h n (sym e))))
        (omega arith)
        word
        within
        (pairs-held s (c.word + 1) (value_in (depth - 1)) ahead (ahead_of s next) n within.tree (omega arith) within.reads)
