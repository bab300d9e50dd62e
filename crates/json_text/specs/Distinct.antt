-- Trees in which no object has a key twice (T-01). Keys are compared as texts, escapes already read.
use Rattle.std.specs.Prelude.{Bool, true, ◌&&◌, List, [], ◌∷◌}
use Rattle.text.specs.Order.{none_twice}
use Rattle.json_text.specs.Json.{Text, Json, null, truth, number, string, array, object, Elements, no_elements, element, Members, no_members, member}

unfoldable pub keys_of : Members → List Text
keys_of no_members = []
keys_of (member key v others) = key ∷ keys_of others

unfoldable mutual
  pub distinct : Json → Bool
  distinct null = true
  distinct (truth b) = true
  distinct (number digits) = true
  distinct (string t) = true
  distinct (array vs) = distinct_elements vs
  distinct (object ms) = none_twice (keys_of ms) && distinct_members ms

  pub distinct_elements : Elements → Bool
  distinct_elements no_elements = true
  distinct_elements (element v others) = distinct v && distinct_elements others

  pub distinct_members : Members → Bool
  distinct_members no_members = true
  distinct_members (member key v others) = distinct v && distinct_members others
