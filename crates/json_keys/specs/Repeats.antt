-- What the search for a key that occurs twice answers, and its table: keys with the same slot make a chain, the latest first.
use Rattle.std.specs.Prelude.{ℕ, ◌+◌, ◌≤◌, ◌<◌, Bool, true, cond, not, ◌&&◌, List, [], ◌∷◌, ◌≡◌, eqb, length, get_or, drop}
use Rattle.std.proofs.Math.Option.{some}
use Rattle.text.specs.Order.{is_among, none_twice}
use Rattle.json_text.specs.Json.{Text, Json, Members}
use Rattle.json_text.specs.Grammar.{unspaced, members_in, members, value, max_depth, document}
use Rattle.json_text.specs.Distinct.{keys_of, distinct}
use Rattle.json_keys.specs.Texts.{TextAt, slots, slot_of}

-- The table

abbrev pub batch : ℕ
batch = 16384

-- a text, with its number in the table
abbrev pub Placed : Type 0
Placed = ℕ × Text

unfoldable pub texts_of : List Placed → List Text
texts_of [] = []
texts_of (p ∷ earlier) = p.1 ∷ texts_of earlier

-- of texts, the latest first: the number of the latest with that slot, from 1, or 0
unfoldable pub latest : ℕ → List Placed → ℕ
latest slot [] = 0
latest slot (p ∷ earlier) = cond (eqb (slot_of p.1) slot) (p.0 + 1) (latest slot earlier)

-- a text's link is the latest before it with its slot
pub record Linked (s links places : List ℕ) (p : Placed) (earlier : List Placed) : Type 0 where
  pub text : TextAt s (get_or places p.0 0) p.1
  pub link : get_or links p.0 0 ≡ latest (slot_of p.1) earlier

abbrev pub Chained : (s links places : List ℕ) → List Placed → Type 0
Chained s links places [] = Unit {0}
Chained s links places (p ∷ earlier) = Linked s links places p earlier × Chained s links places earlier

-- a chain from x on comes to an end, and stays inside the table
pub record Falls (links places : List ℕ) (x : ℕ) : Type 0 where
  pub linked : x ≤ length links
  pub placed : x ≤ length places
  pub falls : (i : ℕ) → i < x → get_or links i 0 ≤ i

-- whether the text at a place is one of the chain from x on
pub record IsChained (s links places : List ℕ) (at x : ℕ) (r : Bool) : Type 0 where
  pub told : (key : Text) (seen : List Placed)
      → TextAt s at key
      → Chained s links places seen
      → x ≡ latest (slot_of key) seen
      → r ≡ is_among key (texts_of seen)

-- all chains do
pub record Ready (heads links places : List ℕ) : Type 0 where
  pub size : length heads ≡ slots
  pub falls : (slot : ℕ) → slot < slots → Falls links places (get_or heads slot 0)

-- the table of the texts seen
pub record Table (s heads links places : List ℕ) (seen : List Placed) : Type 0 where
  pub headed : (slot : ℕ) → slot < slots → get_or heads slot 0 ≡ latest slot seen
  pub chained : Chained s links places seen

-- Members

-- the keys of the members from place `at` on
pub record KeysAt (s : List ℕ) (at : ℕ) (keys : List Text) : Type 0 where
  pub turns : ℕ
  pub held : Members
  pub behind : List ℕ
  pub full : unspaced (drop at s) ≡ drop at s
  pub reads : members_in (value max_depth) turns (drop at s) ≡ some (held, behind)
  pub are : keys ≡ keys_of held

-- the first of them, and the others from `next` on, or none where that is 0
pub record Followed (s : List ℕ) (at next : ℕ) (keys : List Text) : Type 0 where
  pub key : Text
  pub others : List Text
  pub text : TextAt s (at + 1) key
  pub are : keys ≡ key ∷ others
  pub ended : next ≡ 0 → others ≡ []
  pub more : (next ≡ 0 → ⊥) → KeysAt s next others

pub record NextIs (s : List ℕ) (at next : ℕ) : Type 0 where
  pub told : (keys : List Text) → KeysAt s at keys → Followed s at next keys
  pub forward : (next ≡ 0 → ⊥) → at < next
  pub within : next ≤ length s

-- whether none of the keys is among those seen
unfoldable pub apart : List Text → List Text → Bool
apart seen [] = true
apart seen (key ∷ keys) = not (is_among key seen) && apart seen keys

pub record RestIs (s heads links places : List ℕ) (at : ℕ) (r : Bool) : Type 0 where
  pub told : (seen : List Placed) (keys : List Text) → Table s heads links places seen → KeysAt s at keys → r ≡ apart (texts_of seen) keys

pub record NoneTwice (s : List ℕ) (at : ℕ) (r : Bool) : Type 0 where
  pub told : (keys : List Text) → KeysAt s at keys → r ≡ none_twice keys

-- what is right for the keys from `next` on is right for all; where `next` is 0, there are no others
pub record Onward (s : List ℕ) (at next : ℕ) : Type 0 where
  pub ended : next ≡ 0 → NoneTwice s at true
  pub more : (next ≡ 0 → ⊥) → (r : Bool) → NoneTwice s next r → NoneTwice s at r
  pub forward : (next ≡ 0 → ⊥) → at < next
  pub within : next ≤ length s

-- the keys of the object whose members begin there
pub record ObjectIs (s : List ℕ) (at : ℕ) (r : Bool) : Type 0 where
  pub told : (held : Members) (behind : List ℕ) → members (value max_depth) (drop at s) ≡ some (held, behind) → r ≡ none_twice (keys_of held)

pub record KeysDiffer (text : List ℕ) (r : Bool) : Type 0 where
  pub told : (j : Json) → document text ≡ some j → r ≡ distinct j
