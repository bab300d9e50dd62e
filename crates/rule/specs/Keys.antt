-- What the search for a key that occurs twice answers, by the object's index.
use Rattle.std.specs.Prelude.{ℕ, ◌+◌, Bool, List, ◌≡◌}
use Rattle.text.specs.Order.{is_among, none_twice}
use Rattle.text.specs.ReadAt.{ReadsTo}
use Rattle.text.specs.declared.part.Part.{Part}
use Rattle.sheet.specs.Entries.{key_head}
use Rattle.definition.specs.Tree.{Text, Pairs}
use Rattle.definition.specs.Decode.{keys_of}
use Rattle.definition.specs.Write.{count_of_pairs}
use Rattle.rule.specs.Index.{PairsAt}

-- whether the key of that entry is one of `count` keys, whose words begin at `i`
pub record StandsAmong (s words : List ℕ) (entry : Part) (i count : ℕ) (r : Bool) : Type 0 where
  pub told : (key : Text) (ps : Pairs)
      → ReadsTo key_head s entry.start key (entry.start + entry.len)
      → PairsAt s words i ps
      → count_of_pairs ps ≡ count
      → r ≡ is_among key (keys_of ps)

-- whether none of `count` keys, whose words begin at `i`, occurs twice
pub record NoneTwice (s words : List ℕ) (i count : ℕ) (r : Bool) : Type 0 where
  pub told : (ps : Pairs) → PairsAt s words i ps → count_of_pairs ps ≡ count → r ≡ none_twice (keys_of ps)
