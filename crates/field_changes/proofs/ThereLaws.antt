-- Whether a name is there, by the names one after another.
use Rattle.std.specs.Prelude.{Bool, true, false, ◌||◌, ◌≡◌, refl}
use Rattle.std.proofs.lemmas.Bool.{false≢true}
use Rattle.std.proofs.Common.{sym}
use Rattle.text.specs.Order.{same_bytes}
use Rattle.text.specs.OrderLaws.{same_bytes-refl}
use Rattle.definition.specs.Tree.{Text, Field, Members, no_members, member}
use Rattle.definition.proofs.RisingLaws.{NoneNamed}
use Rattle.field_changes.specs.Change.{is_there}
use Rattle.field_changes.specs.Place.{joined}

pub none-there : (name : Text) (m : Members) → NoneNamed name m → is_there name m ≡ false
unfolding is_there
none-there name no_members h = refl
none-there name (member n g m) h = rw (h.0, none-there name m h.1)

or_true_right : (x : Bool) → (x || true) ≡ true
or_true_right true = refl
or_true_right false = refl

pub there-joined : (name : Text) (f : Field) (a b : Members) → is_there name (joined a (member name f b)) ≡ true
unfolding is_there joined
there-joined name f no_members b = rw (same_bytes-refl name)
there-joined name f (member n g a) b = rw (there-joined name f a b) (or_true_right (same_bytes n name))

pub none_named : (name : Text) (m : Members) → is_there name m ≡ false → NoneNamed name m
unfolding is_there
none_named name no_members e = tt
none_named name (member n g m) e = apart (same_bytes n name) refl (is_there name m) refl e (λ q. none_named name m q)
  where
    apart : (x : Bool) → same_bytes n name ≡ x → (y : Bool) → is_there name m ≡ y → (x || y) ≡ false → (is_there name m ≡ false → NoneNamed name m)
        → (same_bytes n name ≡ false) × NoneNamed name m
    apart true p y q e more = absurd (false≢true (sym e))
    apart false p true q e more = absurd (false≢true (sym e))
    apart false p false q e more = (p, more q)
