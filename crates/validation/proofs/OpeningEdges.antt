-- The fewest marks to open, from raw sheets, by computation.
use Prim.Native.Nat.{ℕ}
use mathlib.Core.List.{List, [], ◌∷◌}
use mathlib.Core.Option.{Option, none, some}
use mathlib.Core.Path.{◌≡◌, refl}
use Rattle.text.specs.Ascii.{ascii}
use Rattle.definition.specs.Tree.{Schema, Rule}
use Rattle.definition.specs.Decode.{decode_schema, decode_rule}
use Rattle.reference.specs.Setting.{setting_of}
use Rattle.widening.specs.Opening as Opening
use Rattle.validation.specs.Openings as Openings
use Rattle.validation.specs.Computing.{computing}

-- of two sheets that are well formed
unfoldable pub fewest_of : (kind semantics : ℕ) → Option Schema → Option Rule → Option (Option (List ℕ))
fewest_of kind semantics none r = none
fewest_of kind semantics (some t) none = none
fewest_of kind semantics (some t) (some r) = some (Openings.fewest_marks (setting_of kind semantics) t r)

-- under `unfolding opens` it computes
unfoldable pub opens : (kind semantics : ℕ) (schema rule : List ℕ) → Option (Option (List ℕ))
unfolding computing fewest_of Opening.is_in Opening.opened_field Opening.opened_items Opening.opened_members Opening.opened_holder Opening.opened_arguments Opening.opened Openings.judged_open Openings.after_round Openings.rounds Openings.rising_to Openings.fewest_marks
opens kind semantics schema rule = fewest_of kind semantics (decode_schema schema) (decode_rule rule)

-- `o`, a closed object with a closed object `p` and a string `s`
unfoldable pub nested : List ℕ
nested = ascii "H,0,1,-,0\nF,7,0,0,2,1,-,o\nF,7,0,0,0,1,-,p\nF,1,0,0,0,1,-,s\n"

-- `bars`, an array of closed objects, beside arguments
unfoldable pub bar_objects : List ℕ
bar_objects = ascii "H,0,1,0,0\nF,6,0,1,0,4,-,bars\nF,7,0,0,0,0,-,\n"

pub record OpeningEdges : Type 0 where
  -- one closed object, the inner of two, and both, whichever refuses first
  pub object : opens 1 2 nested (ascii "R,-,-,\nC,5,0,\nV,5,11,$fields.o.x\n") ≡ some (some (2 ∷ []))
  pub inner : opens 1 2 nested (ascii "R,-,-,\nC,5,0,\nV,5,13,$fields.o.p.x\n") ≡ some (some (3 ∷ []))
  pub both : opens 1 2 nested (ascii "R,-,-,\nC,8,0,\nV,5,11,$fields.o.x\nV,5,13,$fields.o.p.x\n") ≡ some (some (2 ∷ 3 ∷ []))
  pub both-inner-first : opens 1 2 nested (ascii "R,-,-,\nC,8,0,\nV,5,13,$fields.o.p.x\nV,5,11,$fields.o.x\n") ≡ some (some (2 ∷ 3 ∷ []))
  -- the record's mark is 1, that of the arguments 0
  pub root : opens 1 1 nested (ascii "R,-,-,\nC,5,0,\nV,5,9,$fields.x\n") ≡ some (some (1 ∷ []))
  pub root-of-template : opens 3 2 nested (ascii "T\nV,5,9,$fields.x\n") ≡ some (some (1 ∷ []))
  pub arguments : opens 2 2 bar_objects (ascii "R,-,-,\nC,5,0,\nV,5,7,$args.x\n") ≡ some (some (0 ∷ []))
  pub root-and-arguments : opens 2 2 bar_objects (ascii "R,-,-,\nC,8,0,\nV,5,9,$fields.x\nV,5,7,$args.y\n") ≡ some (some (0 ∷ 1 ∷ []))
  -- accepted as it is: no mark must go
  pub accepted : opens 1 2 nested (ascii "R,-,-,\nC,5,0,\nV,5,11,$fields.o.s\n") ≡ some (some [])
  -- no marks help: a string has no members, also behind a mark that would have to open; arguments that are absent; a blank name
  pub text-member : opens 1 2 nested (ascii "R,-,-,\nC,5,0,\nV,5,13,$fields.o.s.x\n") ≡ some none
  pub behind-a-mark : opens 1 2 nested (ascii "R,-,-,\nC,8,0,\nV,5,11,$fields.o.x\nV,5,13,$fields.o.s.x\n") ≡ some none
  pub no_arguments : opens 2 2 nested (ascii "R,-,-,\nC,5,0,\nV,5,7,$args.x\n") ≡ some none
  pub blank-name : opens 1 2 nested (ascii "R,1,-, \nC,5,0,\nV,5,11,$fields.o.x\n") ≡ some none
  -- a name that the kind may not read, where the arguments are there and closed
  pub unreadable : opens 1 2 bar_objects (ascii "R,-,-,\nC,5,0,\nV,5,7,$args.x\n") ≡ some none
  -- a collection that becomes unknown, and with it the binder's element
  pub unknown-collection : opens 1 2 nested (ascii "R,-,-,\nC,20,1,b\nV,5,11,$fields.o.x\nC,19,0,\nV,5,6,$b.y.z\n") ≡ some (some (2 ∷ []))
  -- the element of an array, by a reference to the binder, and by an `in` that is none (22, detail 2)
  pub binder-element : opens 1 2 bar_objects (ascii "R,-,-,\nC,20,1,b\nV,5,12,$fields.bars\nC,19,0,\nV,5,4,$b.q\n") ≡ some (some (3 ∷ []))
  pub over-element : opens 1 2 bar_objects (ascii "R,-,-,\nC,20,1,b\nV,5,12,$fields.bars\nC,20,1,c\nV,5,4,xb.q\nC,1,1,\n") ≡ some (some (3 ∷ []))

pub opening-edges : OpeningEdges
unfolding opens nested bar_objects
opening-edges =
    record {
      object = refl;
      inner = refl;
      both = refl;
      both-inner-first = refl;
      root = refl;
      root-of-template = refl;
      arguments = refl;
      root-and-arguments = refl;
      accepted = refl;
      text-member = refl;
      behind-a-mark = refl;
      no_arguments = refl;
      blank-name = refl;
      unreadable = refl;
      unknown-collection = refl;
      binder-element = refl;
      over-element = refl;
    }
