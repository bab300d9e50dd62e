-- The members of a record in two parts, at the place of a name.
use Rattle.std.specs.Prelude.{true, false, ◌≡◌}
use Rattle.text.specs.Order.{precedes}
use Rattle.definition.specs.Tree.{Text, Members, no_members, member}

-- the first of these members, then the others
unfoldable pub joined : Members → Members → Members
joined no_members b = b
joined (member n g a) b = member n g (joined a b)

-- none of these comes after the name
abbrev pub Before : Text → Members → Type 0
Before name no_members = Unit {0}
Before name (member n g a) = (precedes name n ≡ false) × Before name a

-- the first of these, if there is one, does
abbrev pub Starts : Text → Members → Type 0
Starts name no_members = Unit {0}
Starts name (member n g b) = precedes name n ≡ true
