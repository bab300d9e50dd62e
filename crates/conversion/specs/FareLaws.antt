-- The calls fare as is said, and in no other way; what code has to show for a call; which refusals there are, and that each comes.
use Rattle.std.specs.Prelude.{ℕ, ◌≤◌, ◌<◌, true, List, [], ◌∷◌, ◌≡◌, refl, leb, length}
use Rattle.std.proofs.Math.Option.{Option, none, some}
use Rattle.std.proofs.Common.{sym, subst}
use Rattle.std.proofs.lemmas.List.Edits.{sets}
use borrow.Author.Tests.{le-leb, lt-leb, leb-true, leb-false}
use Rattle.text.specs.CaseLaws.{by-test}
use Rattle.reference.specs.Setting.{one_of}
use Rattle.json_text.specs.Json.{Json}
use Rattle.json_text.specs.Escaped.{plain, written}
use Rattle.definition.specs.Tree.{Rule}
use Rattle.definition.specs.Decode.{decode_rule}
use Rattle.definition.specs.Write.{write_rule}
use Rattle.call.specs.Call.{Refusal, first_refusal, Reply, refused_by, told, refused_or, heard_by, tried, if_told, reply_to, numbers_with, Meets}
use Rattle.call.proofs.CallLaws.{only-tried, refused-untouched}
use Rattle.json_rule.specs.Conversion.{Conversion, is_missing, of_room, converting, run_of, rule_in, sheet_of, sheet_from, from_json_refusals, from_json, json_in, text_of, text_from, to_json_refusals, to_json}
use Rattle.conversion.specs.Fares.{FromJson, no-rule, over-limit, short-of-sheet, sheet-made, ToJson, no-sheet, short-of-text, text-made}

-- The numbers that are tried, in this order; a refusal is one of them

pub from-tries : (c : Conversion) → tried (from_json_refusals c) ≡ 31 ∷ 32 ∷ 33 ∷ []
unfolding tried from_json_refusals of_room
from-tries c = refl

pub to-tries : (c : Conversion) → tried (to_json_refusals c) ≡ 5 ∷ 33 ∷ []
unfolding tried to_json_refusals of_room
to-tries c = refl

pub from-among : (c : Conversion) (n : ℕ) → reply_to from_json c ≡ refused_by n → one_of n (31 ∷ 32 ∷ 33 ∷ []) ≡ true
from-among c n = only-tried (from_json_refusals c) (sheet_from c) n (31 ∷ 32 ∷ 33 ∷ []) (from-tries c)

pub to-among : (c : Conversion) (n : ℕ) → reply_to to_json c ≡ refused_by n → one_of n (5 ∷ 33 ∷ []) ≡ true
to-among c n = only-tried (to_json_refusals c) (text_from c) n (5 ∷ 33 ∷ []) (to-tries c)

-- From JSON

module _ (c : Conversion) where
  pub heard-31 : rule_in c.bytes ≡ none → reply_to from_json c ≡ refused_by 31
  unfolding heard_by refused_or first_refusal from_json_refusals is_missing
  heard-31 e = rw e

  module _ (r : Rule) (e : rule_in c.bytes ≡ some r) where
    pub heard-32 : decode_rule (write_rule r) ≡ none → reply_to from_json c ≡ refused_by 32
    unfolding heard_by refused_or first_refusal from_json_refusals is_missing sheet_from sheet_of
    heard-32 d = rw (e, d)

    module _ (t : Rule) (d : decode_rule (write_rule r) ≡ some t) where
      pub heard-33 : c.room < length (write_rule r) → reply_to from_json c ≡ refused_by 33
      unfolding heard_by refused_or first_refusal from_json_refusals is_missing of_room sheet_from sheet_of
      heard-33 h = rw (e, d, lt-leb (length (write_rule r)) c.room h)

      pub told-sheet : length (write_rule r) ≤ c.room → reply_to from_json c ≡ told (write_rule r)
      unfolding heard_by refused_or first_refusal from_json_refusals is_missing of_room sheet_from sheet_of
      told-sheet h = rw (e, d, le-leb (length (write_rule r)) c.room h)

pub from-only : (c : Conversion) {a : Reply (List ℕ)} → FromJson c a → reply_to from_json c ≡ a
from-only c (no-rule e) = heard-31 c e
from-only c (over-limit r e d) = heard-32 c r e d
from-only c (short-of-sheet r t e d h) = heard-33 c r e t d h
from-only c (sheet-made r t e d h) = told-sheet c r e t d h

pub from-fares : (c : Conversion) → FromJson c (reply_to from_json c)
from-fares c = by-rule (rule_in c.bytes) refl
  where
    fares : {a : Reply (List ℕ)} → FromJson c a → FromJson c (reply_to from_json c)
    fares f = subst (FromJson c) (sym (from-only c f)) f

    by-sheet : (r : Rule) → rule_in c.bytes ≡ some r → (o : Option Rule) → decode_rule (write_rule r) ≡ o → FromJson c (reply_to from_json c)
    by-sheet r e none d = fares (over-limit r e d)
    by-sheet r e (some t) d =
        by-test (leb (length (write_rule r)) c.room)
        (λ q. fares (sheet-made r t e d (leb-true (length (write_rule r)) c.room q)))
        (λ q. fares (short-of-sheet r t e d (leb-false (length (write_rule r)) c.room q)))

    by-rule : (o : Option Rule) → rule_in c.bytes ≡ o → FromJson c (reply_to from_json c)
    by-rule none e = fares (no-rule e)
    by-rule (some r) e = by-sheet r e (decode_rule (write_rule r)) refl

-- To JSON

module _ (c : Conversion) where
  pub heard-5 : json_in c.bytes ≡ none → reply_to to_json c ≡ refused_by 5
  unfolding heard_by refused_or first_refusal to_json_refusals is_missing
  heard-5 e = rw e

  module _ (j : Json) (e : json_in c.bytes ≡ some j) where
    pub heard-short : c.room < length (written plain j) → reply_to to_json c ≡ refused_by 33
    unfolding heard_by refused_or first_refusal to_json_refusals is_missing of_room text_from text_of
    heard-short h = rw (e, lt-leb (length (written plain j)) c.room h)

    pub told_text : length (written plain j) ≤ c.room → reply_to to_json c ≡ told (written plain j)
    unfolding heard_by refused_or first_refusal to_json_refusals is_missing of_room text_from text_of
    told_text h = rw (e, le-leb (length (written plain j)) c.room h)

pub to-only : (c : Conversion) {a : Reply (List ℕ)} → ToJson c a → reply_to to_json c ≡ a
to-only c (no-sheet e) = heard-5 c e
to-only c (short-of-text j e h) = heard-short c j e h
to-only c (text-made j e h) = told_text c j e h

pub to-fares : (c : Conversion) → ToJson c (reply_to to_json c)
to-fares c = by-json (json_in c.bytes) refl
  where
    fares : {a : Reply (List ℕ)} → ToJson c a → ToJson c (reply_to to_json c)
    fares f = subst (ToJson c) (sym (to-only c f)) f

    by-json : (o : Option Json) → json_in c.bytes ≡ o → ToJson c (reply_to to_json c)
    by-json none e = fares (no-sheet e)
    by-json (some j) e =
        by-test (leb (length (written plain j)) c.room)
        (λ q. fares (text-made j e (leb-true (length (written plain j)) c.room q)))
        (λ q. fares (short-of-text j e (leb-false (length (written plain j)) c.room q)))

-- What code shows: a refusal leaves the buffer, and a result is at its start

module _ (refusals : Conversion → List Refusal) (makes : Conversion → List ℕ) (bytes before : List ℕ) where
  pub meets-refused : (n : ℕ) → reply_to (converting refusals makes) (record { bytes = bytes; room = length before }) ≡ refused_by n
      → Meets (converting refusals makes) (run_of bytes before before (n ∷ 0 ∷ []))
  unfolding numbers_with if_told
  meets-refused n e = record { result = rw e; buffers = (rw e, tt) }

  pub meets-told : (made : List ℕ) {after : List ℕ} {n : ℕ} → reply_to (converting refusals makes) (record { bytes = bytes; room = length before }) ≡ told made
      → after ≡ sets before 0 made
      → n ≡ length made
      → Meets (converting refusals makes) (run_of bytes before after (0 ∷ n ∷ []))
  unfolding numbers_with if_told
  meets-told made e same size = record { result = rw (e, size); buffers = (rw e same, tt) }

  -- and what a caller has of it
  pub refused-leaves : (after numbers : List ℕ) (n : ℕ) → Meets (converting refusals makes) (run_of bytes before after numbers)
      → reply_to (converting refusals makes) (record { bytes = bytes; room = length before }) ≡ refused_by n
      → after ≡ before
  unfolding if_told
  refused-leaves after numbers n m e = (refused-untouched (converting refusals makes) (run_of bytes before after numbers) n m e (refl, tt)).0
