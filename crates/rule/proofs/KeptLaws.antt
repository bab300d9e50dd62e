-- Laws of `Kept`: nothing done, one word stored, one thing after the other.
use Prim.Native.Nat.{ℕ, zero, suc, ◌+◌, ◌*◌, ◌/◌, ◌%◌, ◌≤◌, ◌<◌}
use mathlib.Core.List.{List, [], ◌∷◌}
use mathlib.Core.Path.{◌≡◌, refl, ap, ◌∙◌}
use native.Mathlib.Omega.{arith}
use lib.ListN.{length, get_or, set, length-set}
use lib.Seq.{get_or-set_same, get_or-set_other}
use Rattle.rule.specs.declared.cursor.Cursor.{Cursor}
use Rattle.rule.specs.Index.{start_of, end_of}
use Rattle.rule.specs.IndexLaws.{Agree}
use Rattle.rule.specs.Read.{Kept, Ready}

pub kept-all : {words : List ℕ} {a b : ℕ} → Kept words words a b
kept-all = record { len = refl; below = λ j h. refl; above = λ j h. refl }

pub kept_then : {before mid after : List ℕ} {a b c d e f : ℕ}
    → Kept before mid a b
    → Kept mid after c d
    → e ≤ a
    → e ≤ c
    → b ≤ f
    → d ≤ f
    → Kept before after e f
kept_then one two p q r t =
    record {
      len = two.len ∙ one.len;
      below = λ j h. two.below j (omega arith) ∙ one.below j (omega arith);
      above = λ j h. two.above j (omega arith) ∙ one.above j (omega arith);
    }

pub kept-wider : {before after : List ℕ} {a b e f : ℕ} → Kept before after a b → e ≤ a → b ≤ f → Kept before after e f
kept-wider one p q =
    record { len = one.len; below = λ j h. one.below j (omega arith); above = λ j h. one.above j (omega arith) }

pub kept_set : (words : List ℕ) (i x : ℕ) {a b : ℕ} → a ≤ i → i < b → Kept words (set words i x) a b
kept_set words i x p q =
    record {
      len = length-set words i x;
      below = λ j h. get_or-set_other words i j x 0 (omega arith);
      above = λ j h. get_or-set_other words i j x 0 (omega arith);
    }

pub agree-below : {before after : List ℕ} {a b c d : ℕ} → Kept before after a b → d ≤ a → Agree before after c d
agree-below kept p = record { same = λ j l r. kept.below j (omega arith) }

pub agree-above : {before after : List ℕ} {a b c d : ℕ} → Kept before after a b → b ≤ c → Agree before after c d
agree-above kept p = record { same = λ j l r. kept.above j (omega arith) }

-- a start and an end in one word
module _ (words : List ℕ) (i start : ℕ) {x end : ℕ} (h : i < length words) (e : x ≡ start * 4096 + end) (small : end < 4096) where
  pub set-start : start_of (set words i x) i ≡ start
  set-start = ap (λ (w : ℕ). w / 4096) (get_or-set_same words i x 0 h) ∙ omega arith

  pub set-end : end_of (set words i x) i ≡ end
  set-end = ap (λ (w : ℕ). w % 4096) (get_or-set_same words i x 0 h) ∙ omega arith

pub ready-fewer : {s words : List ℕ} {n m : ℕ} {c : Cursor} → Ready s words n c → m ≤ n → Ready s words m c
ready-fewer ready h = record { small = ready.small; room = ready.room; inside = ready.inside; budget = omega (arith, ready.budget) }

pub ready-inside : {s words : List ℕ} {n m behind word left : ℕ} {c : Cursor}
    → Ready s words n c
    → behind ≤ length s
    → word + m + left ≤ c.word + n + c.left
    → Ready s words m (record { at = behind; word = word; left = left })
ready-inside ready inside h = record { small = ready.small; room = ready.room; inside = inside; budget = omega (arith, ready.budget) }

-- after the last word
pub get_d-behind : (words : List ℕ) (i : ℕ) → length words ≤ i → get_or words i 0 ≡ 0
get_d-behind [] i h = refl
get_d-behind (w ∷ words) zero h = absurd (omega arith)
get_d-behind (w ∷ words) (suc i) h = get_d-behind words i (omega arith)
