-- Pairs of schema sheets, and what is answered about each: a widening of either kind, every reason why it is not one, and what is not a sheet.
use Prim.Native.Nat.{ℕ}
use mathlib.Core.List.{List}
use mathlib.Core.Path.{◌≡◌, refl}
use Rattle.text.specs.Ascii.{ascii}
use Rattle.definition.specs.Computing.{computing}
use Rattle.reference.specs.Walk.{entry_of}
use Rattle.widening.specs.Widening.{marks, anything}
use Rattle.widening.specs.Decision.{field_missing, kind_differs, items_differ, tag_differs, mark_closes, field_added, arguments_go, breach_if, same_tag, same_items_mark, closes, own_differences, added, all_added, missing, sought, field_differences, items_differences, members_differences, arguments_marks, arguments_differences, differences, widening, refuted, with_growth, decided, widens}
use Rattle.widening.specs.SheetDecision.{DecisionAnswer, malformed, decision, answer_for, widens_sheets, reason_number, DecisionNumbers, decision_numbers}

unfoldable answer : (first second : List ℕ) → DecisionAnswer
unfolding computing ascii entry_of breach_if same_tag same_items_mark closes own_differences added all_added missing sought field_differences items_differences members_differences arguments_marks arguments_differences differences with_growth decided widens answer_for widens_sheets
answer s s' = widens_sheets s s'

-- a closed record: an array of strings, an open object with one property, a union with a tag; closed arguments without fields
unfoldable mill : List ℕ
mill = ascii "H,0,3,0,0\nF,6,0,1,0,4,-,bars\nF,1,0,0,0,0,-,\nF,7,1,0,1,4,-,beam\nF,2,0,0,0,1,-,n\nF,11,0,0,0,5,2,gaugeof\n"

-- nothing differs
same : answer mill mill ≡ decision (widening marks)
unfolding answer mill
same = refl

-- two marks go from 0 to 1
opened : answer mill (ascii "H,1,3,1,0\nF,6,0,1,0,4,-,bars\nF,1,0,0,0,0,-,\nF,7,1,0,1,4,-,beam\nF,2,0,0,0,1,-,n\nF,11,0,0,0,5,2,gaugeof\n") ≡ decision (widening marks)
unfolding answer mill
opened = refl

-- fields before, between and after the others
grown : answer (ascii "H,0,1,-,0\nF,2,0,0,0,1,-,m\n") (ascii "H,0,3,-,0\nF,2,0,0,0,1,-,a\nF,2,0,0,0,1,-,m\nF,2,0,0,0,1,-,z\n") ≡ decision (widening anything)
unfolding answer
grown = refl

-- arguments appear
arguments-appear : answer (ascii "H,0,0,-,0\n") (ascii "H,0,0,0,0\n") ≡ decision (widening anything)
unfolding answer
arguments-appear = refl

-- the property `n` of `beam` is called `o`
missing-field : answer mill (ascii "H,0,3,0,0\nF,6,0,1,0,4,-,bars\nF,1,0,0,0,0,-,\nF,7,1,0,1,4,-,beam\nF,2,0,0,0,1,-,o\nF,11,0,0,0,5,2,gaugeof\n") ≡ decision (refuted field_missing 5 0)
unfolding answer mill
missing-field = refl

-- the element of `bars` is a number
other-kind : answer mill (ascii "H,0,3,0,0\nF,6,0,1,0,4,-,bars\nF,2,0,0,0,0,-,\nF,7,1,0,1,4,-,beam\nF,2,0,0,0,1,-,n\nF,11,0,0,0,5,2,gaugeof\n") ≡ decision (refuted kind_differs 3 3)
unfolding answer mill
other-kind = refl

-- the element of `bars` becomes a property with the empty name
property-for-element : answer mill (ascii "H,0,3,0,0\nF,6,0,0,1,4,-,bars\nF,1,0,0,0,0,-,\nF,7,1,0,1,4,-,beam\nF,2,0,0,0,1,-,n\nF,11,0,0,0,5,2,gaugeof\n") ≡ decision (refuted items_differ 2 2)
unfolding answer mill
property-for-element = refl

-- an element appears
element-appears : answer (ascii "H,0,1,-,0\nF,6,0,0,0,1,-,a\n") (ascii "H,0,1,-,0\nF,6,0,1,0,1,-,a\nF,1,0,0,0,0,-,\n") ≡ decision (refuted items_differ 2 2)
unfolding answer
element-appears = refl

-- another tag; a tag of no bytes where there was none
other_tag : answer mill (ascii "H,0,3,0,0\nF,6,0,1,0,4,-,bars\nF,1,0,0,0,0,-,\nF,7,1,0,1,4,-,beam\nF,2,0,0,0,1,-,n\nF,11,0,0,0,5,2,gaugeon\n") ≡ decision (refuted tag_differs 6 6)
unfolding answer mill
other_tag = refl

empty-tag : answer (ascii "H,0,1,-,0\nF,11,0,0,0,1,-,u\n") (ascii "H,0,1,-,0\nF,11,0,0,0,1,0,u\n") ≡ decision (refuted tag_differs 2 2)
unfolding answer
empty-tag = refl

-- a mark goes from 1 to 0: of a field, of the record, of the arguments
closed-field : answer (ascii "H,0,1,-,0\nF,7,1,0,0,1,-,o\n") (ascii "H,0,2,-,0\nF,2,0,0,0,1,-,a\nF,7,0,0,0,1,-,o\n") ≡ decision (refuted mark_closes 2 3)
unfolding answer
closed-field = refl

closed-record : answer (ascii "H,1,0,-,0\n") (ascii "H,0,0,-,0\n") ≡ decision (refuted mark_closes 1 1)
unfolding answer
closed-record = refl

closed-arguments : answer (ascii "H,1,0,1,0\n") (ascii "H,1,0,0,0\n") ≡ decision (refuted mark_closes 1 1)
unfolding answer
closed-arguments = refl

-- a field more under the open object `o`; the record, which is closed, may have one more
added-field : answer (ascii "H,0,1,-,0\nF,7,1,0,0,1,-,o\n") (ascii "H,0,2,-,0\nF,2,0,0,0,1,-,a\nF,7,1,0,1,1,-,o\nF,2,0,0,0,1,-,n\n") ≡ decision (refuted field_added 0 4)
unfolding answer
added-field = refl

-- arguments without fields are taken away
arguments-go : answer mill (ascii "H,0,3,-,0\nF,6,0,1,0,4,-,bars\nF,1,0,0,0,0,-,\nF,7,1,0,1,4,-,beam\nF,2,0,0,0,1,-,n\nF,11,0,0,0,5,2,gaugeof\n") ≡ decision (refuted arguments_go 1 0)
unfolding answer mill
arguments-go = refl

-- Of several breaches the first one counts: what the head says before the fields, what an entry says before what lies below it, and in an entry
-- kind, open mark, items mark, tag; an added field where its name is.

head_first : answer (ascii "H,0,1,0,0\nF,1,0,0,0,1,-,a\n") (ascii "H,0,1,-,0\nF,2,0,0,0,1,-,a\n") ≡ decision (refuted arguments_go 1 0)
unfolding answer
head_first = refl

kind-first : answer (ascii "H,0,1,-,0\nF,7,1,0,1,1,-,a\nF,1,0,0,0,1,-,b\n") (ascii "H,0,1,-,0\nF,8,0,0,0,1,-,a\n") ≡ decision (refuted kind_differs 2 2)
unfolding answer
kind-first = refl

mark-before-items : answer (ascii "H,0,1,-,0\nF,6,1,0,0,1,-,a\n") (ascii "H,0,1,-,0\nF,6,0,1,0,1,0,a\nF,1,0,0,0,0,-,\n") ≡ decision (refuted mark_closes 2 2)
unfolding answer
mark-before-items = refl

added-before : answer (ascii "H,1,1,-,0\nF,1,0,0,0,1,-,m\n") (ascii "H,1,2,-,0\nF,1,0,0,0,1,-,a\nF,2,0,0,0,1,-,m\n") ≡ decision (refuted field_added 0 2)
unfolding answer
added-before = refl

added-behind : answer (ascii "H,1,1,-,0\nF,1,0,0,0,1,-,m\n") (ascii "H,1,2,-,0\nF,2,0,0,0,1,-,m\nF,1,0,0,0,1,-,z\n") ≡ decision (refuted kind_differs 2 2)
unfolding answer
added-behind = refl

record-before-arguments : answer (ascii "H,0,1,0,1\nF,1,0,0,0,1,-,a\nF,1,0,0,0,1,-,b\n") (ascii "H,0,0,0,0\n") ≡ decision (refuted field_missing 2 0)
unfolding answer
record-before-arguments = refl

-- absent arguments have no fields, so this is no sheet; the first sheet is looked at first
first-malformed : answer (ascii "H,0,0,-,1\n") (ascii "H,0,0,-,1\n") ≡ malformed 1
unfolding answer
first-malformed = refl

second-malformed : answer mill (ascii "H,0,0,-,1\n") ≡ malformed 2
unfolding answer mill
second-malformed = refl

-- the numbers of a refutation
refuted-numbers : decision_numbers (answer (ascii "H,0,1,-,0\nF,7,1,0,0,1,-,o\n") (ascii "H,0,2,-,0\nF,2,0,0,0,1,-,a\nF,7,0,0,0,1,-,o\n")) ≡ record { number = 0; answer = 3; reason = 5; first = 2; second = 3 }
unfolding answer decision_numbers reason_number
refuted-numbers = refl

-- The numbers of each answer: 1 only marks, 2 a widening, 3 with each reason, and refusal 4 with the sheet that it is about
unfoldable numbers : (number answer reason first second : ℕ) → DecisionNumbers
numbers number answer reason first second = record { number = number; answer = answer; reason = reason; first = first; second = second }

-- under `unfolding heard` the numbers of an answer compute
unfoldable heard : (first second : List ℕ) → DecisionNumbers
unfolding answer decision_numbers reason_number numbers mill
heard s s' = decision_numbers (answer s s')

numbers-marks : heard mill mill ≡ numbers 0 1 0 0 0
unfolding heard
numbers-marks = refl

numbers-widening : heard (ascii "H,0,0,-,0\n") (ascii "H,0,0,0,0\n") ≡ numbers 0 2 0 0 0
unfolding heard
numbers-widening = refl

numbers-missing : heard (ascii "H,0,1,0,1\nF,1,0,0,0,1,-,a\nF,1,0,0,0,1,-,b\n") (ascii "H,0,0,0,0\n") ≡ numbers 0 3 1 2 0
unfolding heard
numbers-missing = refl

numbers-kind : heard (ascii "H,0,1,-,0\nF,7,1,0,1,1,-,a\nF,1,0,0,0,1,-,b\n") (ascii "H,0,1,-,0\nF,8,0,0,0,1,-,a\n") ≡ numbers 0 3 2 2 2
unfolding heard
numbers-kind = refl

numbers-items : heard (ascii "H,0,1,-,0\nF,6,0,0,0,1,-,a\n") (ascii "H,0,1,-,0\nF,6,0,1,0,1,-,a\nF,1,0,0,0,0,-,\n") ≡ numbers 0 3 3 2 2
unfolding heard
numbers-items = refl

numbers-tag : heard (ascii "H,0,1,-,0\nF,11,0,0,0,1,-,u\n") (ascii "H,0,1,-,0\nF,11,0,0,0,1,0,u\n") ≡ numbers 0 3 4 2 2
unfolding heard
numbers-tag = refl

numbers-closed : heard (ascii "H,1,0,-,0\n") (ascii "H,0,0,-,0\n") ≡ numbers 0 3 5 1 1
unfolding heard
numbers-closed = refl

numbers-added : heard (ascii "H,1,1,-,0\nF,1,0,0,0,1,-,m\n") (ascii "H,1,2,-,0\nF,1,0,0,0,1,-,a\nF,2,0,0,0,1,-,m\n") ≡ numbers 0 3 6 0 2
unfolding heard
numbers-added = refl

numbers-arguments : heard (ascii "H,0,0,0,0\n") (ascii "H,0,0,-,0\n") ≡ numbers 0 3 7 1 0
unfolding heard
numbers-arguments = refl

numbers-first : heard (ascii "H,0,0,-,1\n") (ascii "H,0,0,-,0\n") ≡ numbers 4 1 0 0 0
unfolding heard
numbers-first = refl

numbers-second : heard mill (ascii "H,0,0,-,1\n") ≡ numbers 4 2 0 0 0
unfolding heard
numbers-second = refl
