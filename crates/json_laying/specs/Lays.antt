-- What laying a value's JSON leaves in a buffer: whatever stands in the index there, its text is laid.
use Rattle.std.specs.Prelude.{ℕ, ◌+◌, cond, List, [], ◌∷◌, ◌++◌, ◌≡◌, ltb, drop}
use Rattle.std.proofs.Math.Option.{some}
use Rattle.sheet.specs.Entries.{key_head}
use Rattle.definition.specs.Tree.{Text, Value, Values, Pairs}
use Rattle.definition.specs.Within.{pairs_entries}
use Rattle.rule.specs.Index.{start_of, ValueAt, PairsAt}
use Rattle.buffer.specs.Laid.{Laid}
use Rattle.json_text.specs.Escaped.{Escapes, quoted, written, written_elements, written_members}
use Rattle.json_rule.specs.AsJson.{constant_of, as_json, as_elements, as_members, json_of}
use Rattle.rule.specs.Nodes.{IsValue, AreValues}

pub record ArePairs (rule words : List ℕ) (i end : ℕ) (ps : Pairs) : Type 0 where
  pub stand : PairsAt rule words i ps
  pub ends : end ≡ i + pairs_entries ps

-- a constant, which needs no escapes
pub record LaysConstant (kind : ℕ) (before after : List ℕ) (at next : ℕ) : Type 0 where
  pub lays : (how : Escapes) → Laid before after at (written how (constant_of kind)) next

-- the value at word `i`
pub record LaysValue (how : Escapes) (rule words : List ℕ) (i : ℕ) (before after : List ℕ) (at next : ℕ) : Type 0 where
  pub lays : (v : Value) → ValueAt rule words i v → Laid before after at (written how (as_json v)) next

-- the same, if it ends before word `end`
pub record LaysWithin (how : Escapes) (rule words : List ℕ) (i end : ℕ) (before after : List ℕ) (at next : ℕ) : Type 0 where
  pub lays : (v : Value) → IsValue rule words i end v → Laid before after at (written how (as_json v)) next

-- the values or members from word `i` on, with the closing bracket; members have a key each
pub record LaysHeld (how : Escapes) (rule words : List ℕ) (keys i end : ℕ) (before after : List ℕ) (at next : ℕ) : Type 0 where
  pub elements : keys ≡ 0 → (vs : Values) → AreValues rule words i end vs → Laid before after at (written_elements how [] (as_elements vs)) next
  pub members : keys ≡ 1 → (ps : Pairs) → ArePairs rule words i end ps → Laid before after at (written_members how [] (as_members ps)) next

-- a member's key and its colon
pub record LaysKey (how : Escapes) (rule words : List ℕ) (keys i : ℕ) (before after : List ℕ) (at next : ℕ) : Type 0 where
  pub nothing : keys ≡ 0 → Laid before after at [] next
  pub key : keys ≡ 1 → (key : Text) (rest : List ℕ) → key_head (drop (start_of words i) rule) ≡ some (key, rest)
      → Laid before after at (quoted how key ++ (0x3A ∷ [])) next

unfoldable pub comma_before : (i end : ℕ) → List ℕ
comma_before i end = cond (ltb i end) (0x2C ∷ []) []
