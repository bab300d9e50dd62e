-- Results as bytes, and the test of a number as one number, computed.
use Prim.Native.Nat.{ℕ}
use mathlib.Core.Bool.{true, false}
use mathlib.Core.List.{List, [], ◌∷◌, ◌++◌}
use mathlib.Core.Path.{◌≡◌, refl}
use lib.ListN.{replicate}
use Rattle.buffer.specs.Bytes.{little_endian, bytes_of, number_at, field_at}
use Rattle.validation.specs.Result.{refused, accepted, numbers_of}
use Rattle.widening.specs.Widening.{marks, anything}
use Rattle.widening.specs.Decision.{Reason, field_missing, kind_differs, items_differ, tag_differs, mark_closes, field_added, arguments_go, widening, refuted}
use Rattle.widening.specs.SheetDecision.{DecisionAnswer, malformed, decision, reason_number, decision_numbers}
use Rattle.entity_rules.specs.Entry.{fields_of, result_after}
use Rattle.entity_rules.specs.CheckEntry.{report_fields, report_after}
use Rattle.host_numbers.specs.NumberTest.{packed}
use Rattle.entity_rules.specs.WidensEntry.{in_places}

unfoldable result : List ℕ → List ℕ
unfolding little_endian bytes_of fields_of result_after numbers_of number_at field_at
result before = result_after (numbers_of (refused 3)) before

unfoldable answered : DecisionAnswer → List ℕ → List ℕ
unfolding little_endian bytes_of fields_of result_after in_places decision_numbers reason_number
answered x before = result_after (in_places (decision_numbers x)) before

unfoldable compared : List ℕ → List ℕ
unfolding answered
compared before = answered (decision (refuted mark_closes 2 3)) before

-- the bytes of an answer with that reason: no widening, where both entries are 1
unfoldable reason_bytes : ℕ → List ℕ
reason_bytes n = replicate 4 0 ++ 3 ∷ replicate 3 0 ++ n ∷ replicate 3 0 ++ 1 ∷ replicate 3 0 ++ 1 ∷ replicate 11 0

unfoldable reasoned : Reason → List ℕ
unfolding answered
reasoned why = answered (decision (refuted why 1 1)) (replicate 28 7)

unfoldable report : (count : ℕ) → List ℕ → List ℕ
unfolding little_endian bytes_of fields_of report_fields report_after numbers_of
report count before = report_after (numbers_of (accepted 6)) count before

least_first : little_endian 0x12345678 ≡ 0x78 ∷ 0x56 ∷ 0x34 ∷ 0x12 ∷ []
unfolding little_endian
least_first = refl

-- a refusal and six zeros; what lies past the 28 bytes keeps its values
refusal-written : result (replicate 30 7) ≡ 3 ∷ replicate 27 0 ++ 7 ∷ 7 ∷ []
unfolding result
refusal-written = refl

short-kept : result (replicate 27 7) ≡ replicate 27 7
unfolding result
short-kept = refl

-- acceptance with six checks passed and two marks: the count is the eighth number
report-of-two : report 2 (replicate 34 7) ≡ replicate 20 0 ++ 6 ∷ replicate 7 0 ++ 2 ∷ replicate 3 0 ++ 7 ∷ 7 ∷ []
unfolding report
report-of-two = refl

report-kept : report 2 (replicate 31 7) ≡ replicate 31 7
unfolding report
report-kept = refl

-- a schema whose field at entry 2 was open and is closed at entry 3 of the second: no widening, for reason 5
widens-written : compared (replicate 30 7) ≡ replicate 4 0 ++ 3 ∷ replicate 3 0 ++ 5 ∷ replicate 3 0 ++ 2 ∷ replicate 3 0 ++ 3 ∷ replicate 11 0 ++ 7 ∷ 7 ∷ []
unfolding compared
widens-written = refl

-- the other answers: 1 only marks, 2 a widening, and refusal 4 with the sheet that it is about
marks-written : answered (decision (widening marks)) (replicate 28 7) ≡ replicate 4 0 ++ 1 ∷ replicate 23 0
unfolding answered
marks-written = refl

widening-written : answered (decision (widening anything)) (replicate 28 7) ≡ replicate 4 0 ++ 2 ∷ replicate 23 0
unfolding answered
widening-written = refl

malformed-written : answered (malformed 2) (replicate 28 7) ≡ 4 ∷ replicate 3 0 ++ 2 ∷ replicate 23 0
unfolding answered
malformed-written = refl

-- each reason by its number
reason-1 : reasoned field_missing ≡ reason_bytes 1
unfolding reasoned reason_bytes
reason-1 = refl

reason-2 : reasoned kind_differs ≡ reason_bytes 2
unfolding reasoned reason_bytes
reason-2 = refl

reason-3 : reasoned items_differ ≡ reason_bytes 3
unfolding reasoned reason_bytes
reason-3 = refl

reason-4 : reasoned tag_differs ≡ reason_bytes 4
unfolding reasoned reason_bytes
reason-4 = refl

reason-5 : reasoned mark_closes ≡ reason_bytes 5
unfolding reasoned reason_bytes
reason-5 = refl

reason-6 : reasoned field_added ≡ reason_bytes 6
unfolding reasoned reason_bytes
reason-6 = refl

reason-7 : reasoned arguments_go ≡ reason_bytes 7
unfolding reasoned reason_bytes
reason-7 = refl

field-within : field_at 6 (replicate 28 1) ≡ 0x01010101
unfolding field_at number_at
field-within = refl

field_past : field_at 7 (replicate 31 1) ≡ 0
unfolding field_at number_at
field_past = refl

-- the bound less 1, and the bound
packed-most : packed true 309 ≡ 619
unfolding packed
packed-most = refl

packed-infinite : packed false 309 ≡ 618
unfolding packed
packed-infinite = refl
