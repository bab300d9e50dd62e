-- The table in which the keys of a wide object are looked up: keys with the same slot make a chain, the latest first.
use Rattle.std.specs.Prelude.{ℕ, ◌+◌, ◌*◌, ◌/◌, ◌%◌, ◌≤◌, Bool, cond, List, [], ◌∷◌, ◌≡◌, eqb, length, get_or, drop}
use Rattle.std.proofs.Math.Option.{some}
use Rattle.text.specs.Order.{is_among}
use Rattle.text.specs.ReadAt.{ReadsTo}
use Rattle.text.specs.declared.part.Part.{Part}
use Rattle.sheet.specs.Entries.{key_head}
use Rattle.definition.specs.Tree.{Text}
use Rattle.rule.specs.Index.{start_of}

abbrev pub slots : ℕ
slots = 512

-- a key's bytes, stirred to 32 bits; the upper 9 of them are its slot
unfoldable pub stirred : ℕ → Text → ℕ
stirred h [] = h
stirred h (b ∷ key) = stirred ((h + b) * 2654435761 % 4294967296) key

unfoldable pub slot_of : Text → ℕ
slot_of key = stirred 0 key / 8388608

-- a key, with its word in the index
abbrev pub Placed : Type 0
Placed = ℕ × Text

unfoldable pub texts_of : List Placed → List Text
texts_of [] = []
texts_of (p ∷ earlier) = p.1 ∷ texts_of earlier

-- of keys, the latest first: the word of the latest with that slot, from 1, or 0
unfoldable pub latest : ℕ → List Placed → ℕ
latest slot [] = 0
latest slot (p ∷ earlier) = cond (eqb (slot_of p.1) slot) (p.0 + 1) (latest slot earlier)

-- A key's link is the latest before it with its slot. Its place is half its word, since the keys of an object are never side by side.
pub record Linked (s words links : List ℕ) (p : Placed) (earlier : List Placed) : Type 0 where
  pub rest : List ℕ
  pub reads : key_head (drop (start_of words p.0) s) ≡ some (p.1, rest)
  pub link : get_or links (p.0 / 2) 0 ≡ latest (slot_of p.1) earlier

abbrev pub Chained : (s words links : List ℕ) → List Placed → Type 0
Chained s words links [] = Unit {0}
Chained s words links (p ∷ earlier) = Linked s words links p earlier × Chained s words links earlier

-- a chain from x on comes to an end, and stays inside the table
pub record Falls (links : List ℕ) (x : ℕ) : Type 0 where
  pub room : x ≤ 2 * length links
  pub falls : (i : ℕ) → get_or links i 0 ≤ 2 * i

-- whether the key of that entry is one of the chain from x on
pub record IsChained (s words links : List ℕ) (entry : Part) (x : ℕ) (r : Bool) : Type 0 where
  pub told : (key : Text) (seen : List Placed)
      → ReadsTo key_head s entry.start key (entry.start + entry.len)
      → Chained s words links seen
      → x ≡ latest (slot_of key) seen
      → r ≡ is_among key (texts_of seen)
