-- Names that rise: each precedes all that come after it, so none occurs twice.
use Rattle.std.specs.Prelude.{true, false, ◌≡◌, refl}
use Rattle.std.proofs.Math.Option.{Option, none, some}
use Rattle.std.proofs.Common.{◌∙◌}
use Rattle.text.specs.Order.{precedes, same_bytes, follows}
use Rattle.text.specs.OrderLaws.{precedes-transitive, precedes-differs, same_bytes-symmetric}
use Rattle.definition.specs.Tree.{Text, Field, Members, no_members, member}
use Rattle.definition.specs.Within.{Behind, MembersRise}

-- the decoder's test
pub follows-behind : (before : Option Text) (name : Text) → follows before name ≡ true → Behind before name
unfolding follows
follows-behind none name e = tt
follows-behind (some before) name e = e

pub behind-follows : (before : Option Text) (name : Text) → Behind before name → follows before name ≡ true
unfolding follows
behind-follows none name b = refl
behind-follows (some before) name b = b

-- every name comes after the given one
abbrev pub AllBehind : Text → Members → Type 0
AllBehind name no_members = Unit {0}
AllBehind name (member n f others) = (precedes name n ≡ true) × AllBehind name others

-- no member has the name
abbrev pub NoneNamed : Text → Members → Type 0
NoneNamed name no_members = Unit {0}
NoneNamed name (member n f others) = (same_bytes n name ≡ false) × NoneNamed name others

all_behind-earlier : (first name : Text) (ms : Members) → precedes first name ≡ true → AllBehind name ms → AllBehind first ms
all_behind-earlier first name no_members e b = tt
all_behind-earlier first name (member n f others) e b = (precedes-transitive first name n e b.0, all_behind-earlier first name others e b.1)

pub rising-behind : (name : Text) (ms : Members) → MembersRise (some name) ms → AllBehind name ms
rising-behind name no_members r = tt
rising-behind name (member n f others) r = (r.0, all_behind-earlier name n others r.0 (rising-behind n others r.2))

all_behind-named : (name : Text) (ms : Members) → AllBehind name ms → NoneNamed name ms
all_behind-named name no_members b = tt
all_behind-named name (member n f others) b = (same_bytes-symmetric n name ∙ precedes-differs name n b.0, all_behind-named name others b.1)

-- a name does not occur again after it
pub rising-once : (before : Option Text) (name : Text) (f : Field) (others : Members) → MembersRise before (member name f others) → NoneNamed name others
rising-once before name f others r = all_behind-named name others (rising-behind name others r.2)

-- what rises after a name rises by itself
pub rising-alone : (before : Option Text) (ms : Members) → MembersRise before ms → MembersRise none ms
rising-alone before no_members r = tt
rising-alone before (member name f others) r = (tt, r.1, r.2)
