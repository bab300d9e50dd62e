-- Words written and words kept.
use Prim.Native.Nat.{ℕ, ◌+◌, ◌-◌, ◌*◌, ◌≤◌, ◌<◌}
use mathlib.Core.List.{List}
use mathlib.Core.Path.{◌≡◌, refl, ◌∙◌}
use native.Mathlib.Omega.{arith}
use lib.ListN.{length, get_or, set, length-set}
use lib.Seq.{get_or-set_same, get_or-set_other}
use Rattle.text.specs.declared.part.Part.{Part}
use Rattle.schema.specs.Index.{first_word}
use Rattle.schema.specs.Kept.{Kept, SlotKept}
use Rattle.schema.specs.Fields.{SlotFits, SlotPut}

pub kept-all : (a : List ℕ) → Kept a a
kept-all a = record { size = refl; lower = λ i h. refl; upper = λ i h. refl }

pub kept_more : {a b c : List ℕ} → Kept a b → Kept b c → Kept a c
kept_more f g =
    record {
      size = g.size ∙ f.size;
      lower = λ i h. g.lower i h ∙ f.lower i h;
      upper = λ i h. g.upper i h ∙ f.upper i h;
    }

pub slot_kept-all : (a : List ℕ) (k : ℕ) → SlotKept a a k
slot_kept-all a k = record { place = refl; name = refl }

pub slot_kept-more : {a b c : List ℕ} {k : ℕ} → SlotKept a b k → SlotKept b c k → SlotKept a c k
slot_kept-more f g = record { place = g.place ∙ f.place; name = g.name ∙ f.name }

-- two words in a row, and every other
module _ (words : List ℕ) (i v w : ℕ) where
  two-first : i < length words → get_or (set (set words i v) (i + 1) w) i 0 ≡ v
  two-first h =
      get_or-set_other (set words i v) (i + 1) i w 0 (λ e. omega arith) ∙ get_or-set_same words i v 0 h

  two-second : i + 1 < length words → get_or (set (set words i v) (i + 1) w) (i + 1) 0 ≡ w
  two-second h = get_or-set_same (set words i v) (i + 1) w 0 (omega (arith, length-set words i v))

  two-other : (j : ℕ) → (i ≤ j → j < i + 2 → ⊥) → get_or (set (set words i v) (i + 1) w) j 0 ≡ get_or words j 0
  two-other j h =
      get_or-set_other (set words i v) (i + 1) j w 0 (λ e. h (omega arith) (omega arith))
      ∙ get_or-set_other words i j v 0 (λ e. h (omega arith) (omega arith))

-- a part by its two numbers
pub part-is : (start len : ℕ) (p : Part) → start ≡ p.start → len ≡ p.len → ◌≡◌ {A = Part} (record { start = start; len = len }) p
part-is start len p e f = rw (e, f)

pub slot-put : (words : List ℕ) (k start entry child : ℕ) (name : Part) (v w : ℕ) → SlotFits words k start entry child name
    → v ≡ start * 4096 + entry → w ≡ name.len * 131072 + (name.start - start) * 4096 + child
    → SlotPut words (set (set words (first_word + 2 * k) v) (first_word + 2 * k + 1) w) k start entry child name
slot-put words k start entry child name v w fits one two =
    let i = first_word + 2 * k in
    let first = two-first words i v w (omega arith) in
    let second = two-second words i v w (omega arith) in
    let placed = fits.named in
    record {
      kept =
          record {
            size = length-set (set words i v) (i + 1) w ∙ length-set words i v;
            lower = λ j h. two-other words i v w j (omega arith);
            upper = λ j h. two-other words i v w j (omega arith);
          };
      place = first ∙ one;
      child_at = omega arith;
      named = part-is _ _ name (omega arith) (omega arith);
      others =
          λ j p q. record {
            place = two-other words i v w (first_word + 2 * j) (λ a b. p (omega arith) (omega arith));
            name = two-other words i v w (first_word + 2 * j + 1) (λ a b. p (omega arith) (omega arith));
          };
    }
