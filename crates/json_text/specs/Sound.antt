-- Which trees are JSON values: their texts are UTF-8, and the texts of their numbers are numbers. How deep they nest.
use Rattle.std.specs.Prelude.{ℕ, zero, suc, max, true, ◌≡◌}
use Rattle.text.specs.Utf8.{is_utf8}
use Rattle.number.specs.Grammar.{is_number}
use Rattle.json_text.specs.Json.{Text, Json, null, truth, number, string, array, object, Elements, no_elements, element, Members, no_members, member}

abbrev mutual
  pub Sound : Json → Type 0
  Sound null = Unit {0}
  Sound (truth b) = Unit {0}
  Sound (number digits) = is_number digits ≡ true
  Sound (string t) = is_utf8 t ≡ true
  Sound (array vs) = SoundElements vs
  Sound (object ms) = SoundMembers ms

  pub SoundElements : Elements → Type 0
  SoundElements no_elements = Unit {0}
  SoundElements (element v others) = Sound v × SoundElements others

  pub SoundMembers : Members → Type 0
  SoundMembers no_members = Unit {0}
  SoundMembers (member key v others) = (is_utf8 key ≡ true) × (Sound v × SoundMembers others)

-- arrays and objects in one another, the outermost counting 1
unfoldable mutual
  pub depth_of : Json → ℕ
  depth_of null = 0
  depth_of (truth b) = 0
  depth_of (number digits) = 0
  depth_of (string t) = 0
  depth_of (array vs) = suc (depth_of_elements vs)
  depth_of (object ms) = suc (depth_of_members ms)

  pub depth_of_elements : Elements → ℕ
  depth_of_elements no_elements = 0
  depth_of_elements (element v others) = max (depth_of v) (depth_of_elements others)

  pub depth_of_members : Members → ℕ
  depth_of_members no_members = 0
  depth_of_members (member key v others) = max (depth_of v) (depth_of_members others)
