-- An entry's word is written when its subtree has been read.
use Prim.Native.Nat.{ℕ, suc, ◌+◌, ◌*◌, ◌-◌, ◌≤◌, ◌<◌}
use mathlib.Core.List.{List}
use mathlib.Core.Option.{some}
use mathlib.Core.Path.{◌≡◌, refl, ap, ◌∙◌}
use native.Mathlib.Omega.{arith}
use lib.ListN.{length, drop, set}
use Rattle.text.specs.Reader.{Reader}
use Rattle.sheet.specs.Entries.{ValueHead, value_head, key_head}
use Rattle.definition.specs.Limits.{max_rule_entries}
use Rattle.definition.specs.Tree.{Text}
use Rattle.definition.specs.Decode.{Ahead, value_in}
use Rattle.definition.specs.Within.{value_entries}
use Rattle.rule.specs.declared.cursor.Cursor.{Cursor}
use Rattle.rule.specs.Index.{EntryAt, ValueAt}
use Rattle.rule.specs.IndexLaws.{Agree, value_frame}
use Rattle.rule.specs.Read.{ahead_of, Kept, Ready, Indexed, pair_in, PairAt, size_of_pair}
use Rattle.rule.proofs.KeptLaws.{kept_then, kept_set, agree-above, set-start, set-end}
use Rattle.rule.proofs.ValueLaws.{Holder, value-headed, pair_read}

pub entry_closed : {H : Type 0} {reader : Reader (List ℕ) H} {s : List ℕ} (mid : List ℕ) (at w : ℕ) {x size end : ℕ} {h : H} {behind : List ℕ}
    → x ≡ at * 4096 + end
    → reader (drop at s) ≡ some (h, behind)
    → w < length mid
    → end ≡ w + size
    → end < 4096
    → EntryAt reader s (set mid w x) w size (w + 1) h
entry_closed mid at w {behind} word reads inside e small =
    record { is_entry = refl; ends = set-end mid w at inside word small ∙ e; rest = behind; reads = rw (set-start mid w at inside word small) reads }

pub kept-closed : {before mid : List ℕ} {w end : ℕ} (x : ℕ) → Kept before mid (w + 1) end → w < end → Kept before (set mid w x) w end
kept-closed {mid} {w} {end} x kept h = kept_then kept (kept_set mid w x {a = w} {b = end} (omega arith) h) (omega arith) (omega arith) (omega arith) (omega arith)

-- the words after are as they were
pub agree-closed : (mid : List ℕ) (w x : ℕ) {b : ℕ} → Agree mid (set mid w x) (w + 1) b
agree-closed mid w x = agree-above (kept_set mid w x {a = w} {b = w + 1} (omega arith) (omega arith)) (omega arith)

module _ {T : Type 0} (reader : Reader Ahead T) (At : List ℕ → ℕ → T → Type 0) (size_of : T → ℕ)
    (frame : (words later : List ℕ) (i : ℕ) (t : T) → At words i t → Agree words later i (i + size_of t) → At later i t)
  where
    pub value-closed : (s before mid : List ℕ) (c next : Cursor) (depth k behind cost x : ℕ) (h : ValueHead)
        → Ready s before 1 c
        → depth ≡ suc k
        → value_head (drop c.at s) ≡ some (h, drop behind s)
        → cost ≤ c.left
        → x ≡ c.at * 4096 + next.word
        → (inner : Indexed reader At size_of s before mid cost (record { at = behind; word = c.word + 1; left = c.left - cost }) next)
        → Holder s (c.word + 1) h (value_in k) (record { next = c.word + 1 + 1; left = c.left; rest = drop behind s }) (ahead_of s next) (size_of inner.tree) (λ words i. At words i inner.tree)
        → Indexed (value_in depth) (ValueAt s) value_entries s before (set mid c.word x) 1 c next
    value-closed s before mid c next depth k behind cost x h ready deep head pays word inner holder =
        let end : next.word ≡ c.word + (1 + size_of inner.tree) = omega (arith, inner.size) in
        let limit : next.word ≤ max_rule_entries = omega (arith, inner.budget, ready.budget) in
        let inside : c.word < length mid = omega (arith, inner.kept.len, ready.room, ready.budget) in
        record {
          tree = holder.tree;
          reads = ap (λ (d : ℕ). value_in d (ahead_of s c)) deep ∙ value-headed k (ahead_of s c) h (drop behind s) head ∙ holder.reads;
          indexed =
              holder.is_at (set mid c.word x) c.word
              (entry_closed mid c.at c.word word head inside end (omega arith))
              (frame mid (set mid c.word x) (c.word + 1) inner.tree inner.indexed (agree-closed mid c.word x));
          size = omega (arith, holder.is_size);
          kept = kept-closed x inner.kept (omega arith);
          inside = inner.inside;
          budget = omega (arith, inner.budget);
        }

-- A key's word, when its value has been read.
module _ (s before mid : List ℕ) (c next : Cursor) (depth behind x : ℕ) (key : Text) where
  abbrev value-ahead : Cursor
  value-ahead = record { at = behind; word = c.word + 1; left = c.left }

  pub pair-closed : Ready s before 2 c
      → key_head (drop c.at s) ≡ some (key, drop behind s)
      → x ≡ c.at * 4096 + next.word
      → (inner : Indexed (value_in depth) (ValueAt s) value_entries s before mid 1 value-ahead next)
      → (i : Indexed (pair_in (value_in depth)) (PairAt s) size_of_pair s before (set mid c.word x) 2 c next) × (i.tree.0 ≡ key)
  unfolding size_of_pair
  pair-closed ready head word inner =
      let v = inner.tree in
      let end : next.word ≡ c.word + (1 + value_entries v) = omega (arith, inner.size) in
      let limit : next.word ≤ max_rule_entries = omega (arith, inner.budget, ready.budget) in
      let inside : c.word < length mid = omega (arith, inner.kept.len, ready.room, ready.budget) in (
        record {
          tree = (key, v);
          reads = pair_read (value_in depth) (ahead_of s c) (ahead_of s next) key (drop behind s) v head inner.reads;
          indexed =
              (entry_closed mid c.at c.word word head inside end (omega arith), value_frame s mid (set mid c.word x) v (c.word + 1) inner.indexed (agree-closed mid c.word x));
          size = end;
          kept = kept-closed x inner.kept (omega arith);
          inside = inner.inside;
          budget = omega (arith, inner.budget);
        },
        refl,
      )
