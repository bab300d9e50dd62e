-- Laws of the two numbers that a call answers: which refusal is due, and the sheet where none is.
use Prim.Native.Nat.{ℕ, ◌+◌, ◌-◌, ◌≤◌, ◌<◌}
use mathlib.Core.Bool.{Bool, true, false, cond, false≢true}
use mathlib.Core.List.{List, [], ◌∷◌}
use mathlib.Core.Option.{Option, none, some, bind, none-ne-some}
use mathlib.Core.Path.{◌≡◌, refl, sym, ap, subst, ◌∙◌}
use native.Mathlib.Omega.{arith}
use lib.ListN.{length, take, drop, length-take, length-drop}
use lib.Seq.{sets}
use borrow.Author.Tests.{le-leb, lt-leb}
use Rattle.buffer.specs.Laid.{Laid}
use Rattle.buffer.specs.LaidLaws.{sets-read}
use Rattle.definition.specs.Limits.{max_sheet_bytes}
use Rattle.definition.specs.Tree.{Rule}
use Rattle.definition.specs.Decode.{decode_rule}
use Rattle.definition.specs.Write.{write_rule}
use Rattle.definition.proofs.RoundTrip.{rule-round-trip}
use Rattle.call.specs.Call.{first_refusal, refused_or, heard_by, Reply, refused_by, told, reply_to, numbers_with, result_numbers, if_told, AllLeft, Meets}
use Rattle.json_text.specs.Json.{Json}
use Rattle.json_text.specs.Grammar.{document}
use Rattle.json_text.specs.Distinct.{distinct}
use Rattle.json_keys.specs.Repeats.{KeysDiffer}
use Rattle.json_rule.specs.Shape.{rule_of}
use Rattle.json_rule.proofs.DistinctLaws.{decodes-distinct}
use Rattle.json_rule.specs.Conversion.{Conversion, is_missing, of_room, run_of, rule_in, sheet_of, sheet_from, from_json_refusals, from_json}
use Rattle.json_sheet.specs.RuleAt.{front_room}
use Rattle.from_json.specs.Making.{out_bytes, IsFormed, RefusedBy, OverIs, SheetMade}

-- Which rule a text is

present : {A C : Type 0} (o : Option A) → is_missing o ≡ false → ((a : A) → o ≡ some a → C) → C
unfolding is_missing
present none e k = absurd (false≢true (sym e))
present (some a) e k = k a refl

none_in : (text : List ℕ) → bind (document text) rule_of ≡ none → rule_in text ≡ none
unfolding rule_in bind
none_in text e = go (document text) e
  where
    within : (b : Bool) (o : Option Rule) → o ≡ none → cond b o none ≡ none
    within true o e = e
    within false o e = refl

    go : (o : Option Json) → bind o rule_of ≡ none → bind o (λ (j : Json). cond (distinct j) (rule_of j) none) ≡ none
    go none e = refl
    go (some j) e = within (distinct j) (rule_of j) e

module _ (text : List ℕ) (rule : Rule) (e : bind (document text) rule_of ≡ some rule) where
  read_as : {C : Type 0} → ((j : Json) → document text ≡ some j → rule_of j ≡ some rule → C) → C
  unfolding bind
  read_as {C} k = go (document text) refl e
    where
      go : (o : Option Json) → document text ≡ o → bind o rule_of ≡ some rule → C
      go none f e = absurd (none-ne-some _ e)
      go (some j) f e = k j f e

  pub rule-in : KeysDiffer text true → rule_in text ≡ some rule
  unfolding rule_in bind
  rule-in k = read_as (λ j f g. rw (f, ← (k.told j f), g))

  -- no key is twice where the sheet is well formed
  pub formed-in : is_missing (decode_rule (write_rule rule)) ≡ false → rule_in text ≡ some rule
  unfolding rule_in bind
  formed-in h = read_as (λ j f g. present (decode_rule (write_rule rule)) h (λ t d. rw (f, decodes-distinct j rule t g d, g)))

  pub repeated-in : KeysDiffer text false → rule_in text ≡ none
  unfolding rule_in bind
  repeated-in k = read_as (λ j f g. rw (f, ← (k.told j f)))

-- Refusals

missing-31 : (text : List ℕ) → rule_in text ≡ none → RefusedBy text 31
unfolding first_refusal from_json_refusals is_missing
missing-31 text e = record { told = λ room. rw e }

pub refused-31 : (text : List ℕ) → bind (document text) rule_of ≡ none → RefusedBy text 31
refused-31 text e = missing-31 text (none_in text e)

pub repeated-31 : (text : List ℕ) (rule : Rule) → bind (document text) rule_of ≡ some rule → KeysDiffer text false → RefusedBy text 31
repeated-31 text rule e k = missing-31 text (repeated-in text rule e k)

limit-32 : (text : List ℕ) (rule : Rule) → rule_in text ≡ some rule → decode_rule (write_rule rule) ≡ none → RefusedBy text 32
unfolding first_refusal from_json_refusals is_missing sheet_from sheet_of
limit-32 text rule e f = record { told = λ room. rw (e, f) }

pub over-32 : (text : List ℕ) → KeysDiffer text true → OverIs text 32
over-32 text k = record { told = λ rule e f. limit-32 text rule (rule-in text rule e k) f }

pub over-31 : (text : List ℕ) → KeysDiffer text false → OverIs text 31
over-31 text k = record { told = λ rule e f. repeated-31 text rule e k }

-- Whether a sheet that was laid is well formed

undecoded : (rule : Rule) → max_sheet_bytes < length (write_rule rule) → is_missing (decode_rule (write_rule rule)) ≡ true
unfolding is_missing
undecoded rule h = go (decode_rule (write_rule rule)) refl
  where
    go : (o : Option Rule) → decode_rule (write_rule rule) ≡ o → is_missing o ≡ true
    go none e = refl
    go (some t) e =
        let r = (rule-round-trip (write_rule rule) t).0 e in
        let short : length (write_rule rule) ≤ max_sheet_bytes = rw r.0 r.1.bytes in
        absurd (omega arith)

missing-none : (o : Option Rule) → is_missing o ≡ true → o ≡ none
unfolding is_missing
missing-none none e = refl
missing-none (some r) e = absurd (none-ne-some r (ap (λ (b : Bool). cond b none (some r)) (sym e)))

module _ (out : List ℕ) (start end : ℕ) where
  pub formed-over : length out < end → IsFormed out start end false
  formed-over h =
      record {
        told = λ before rule laid low size. undecoded rule (omega (arith, laid.ends));
        placed = λ q. absurd (none-ne-some {A = ℕ} 0 (ap (λ (b : Bool). cond b (some 0) none) q));
      }

  pub formed-turned : end < start → IsFormed out start end false
  formed-turned h =
      record {
        told = λ before rule laid low size. absurd (omega (arith, laid.ends));
        placed = λ q. absurd (none-ne-some {A = ℕ} 0 (ap (λ (b : Bool). cond b (some 0) none) q));
      }

  pub laid-part : {before bytes : List ℕ} → Laid before out start bytes end → end ≤ length out → length out ≡ out_bytes → take (end - start) (drop start out) ≡ bytes
  laid-part {before} {bytes} laid h size =
      let whole : end - start ≡ length bytes = omega (arith, laid.ends) in
      let fits : start + length bytes ≤ length before = omega (arith, laid.ends, laid.len) in
      rw (whole, laid.stands fits) (sets-read bytes before start fits)

  module _ (order : start ≤ end) (inside : end ≤ length out) {part : List ℕ} (is : part ≡ take (end - start) (drop start out)) where
    pub formed-good : {t : Rule} → decode_rule part ≡ some t → IsFormed out start end true
    unfolding is_missing
    formed-good e =
        record {
          told = λ before rule laid low size. rw (sym (ap decode_rule (is ∙ laid-part laid inside size)) ∙ e);
          placed = λ q. (order, inside);
        }

    pub formed-bad : decode_rule part ≡ none → IsFormed out start end false
    unfolding is_missing
    formed-bad e =
        record {
          told = λ before rule laid low size. rw (sym (ap decode_rule (is ∙ laid-part laid inside size)) ∙ e);
          placed = λ q. (order, inside);
        }

-- A sheet that is made

module _ (text : List ℕ) {before out : List ℕ} {start end : ℕ} (rule : Rule) (e : bind (document text) rule_of ≡ some rule) (laid : Laid before out start (write_rule rule) end)
    (low : start ≤ front_room) (size : length out ≡ out_bytes)
  where
    pub sheet-made : IsFormed out start end true → SheetMade text out start end
    sheet-made f =
        record {
          rule = rule;
          is = formed-in text rule e (f.told before rule laid low size);
          formed = f.told before rule laid low size;
          lies = laid-part out start end laid (f.placed refl).1 size;
          order = (f.placed refl).0;
          inside = rw size at (f.placed refl).1;
          size = size;
        }

    pub sheet-over : {number : ℕ} → IsFormed out start end false → OverIs text number → RefusedBy text number
    sheet-over f o = o.told rule e (missing-none (decode_rule (write_rule rule)) (f.told before rule laid low size))

-- The two numbers

module _ (text before : List ℕ) where
  abbrev call : Conversion
  call = record { bytes = text; room = length before }

  meets-reply : {after numbers : List ℕ} (reply : Reply (List ℕ)) → reply_to from_json call ≡ reply → numbers ≡ result_numbers from_json reply → AllLeft (from_json.leaves reply) (record { before = before; after = after } ∷ [])
      → Meets from_json (run_of text before after numbers)
  meets-reply {after} {numbers} reply e f g =
      record {
        result = f ∙ ap (result_numbers from_json) (sym e);
        buffers = subst (λ (r : Reply (List ℕ)). AllLeft (from_json.leaves r) (record { before = before; after = after } ∷ [])) (sym e) g;
      }

  meets-refused : (n : ℕ) → first_refusal (from_json_refusals call) ≡ some n → Meets from_json (run_of text before before (n ∷ 0 ∷ []))
  unfolding heard_by refused_or numbers_with if_told
  meets-refused n e = meets-reply (refused_by n) (rw e) refl (refl, tt)

  pub meets-early : {n : ℕ} → RefusedBy text n → Meets from_json (run_of text before before (n ∷ 0 ∷ []))
  meets-early {n} r = meets-refused n (r.told (length before))

  module _ {out : List ℕ} {start end : ℕ} (m : SheetMade text out start end) where
    pub part-size : length (write_rule m.rule) ≡ end - start
    part-size =
        ap length (sym m.lies)
        ∙ length-take (end - start) (drop start out)
        ∙ (let z = length-drop start out in omega (arith, m.order, m.inside, m.size))

    pub meets-33 : length before < end - start → Meets from_json (run_of text before before (33 ∷ 0 ∷ []))
    unfolding first_refusal from_json_refusals is_missing sheet_from sheet_of of_room
    meets-33 h =
        meets-refused 33 (rw (m.is, m.formed, lt-leb (length (write_rule m.rule)) (length before) (omega (arith, part-size))))

    pub meets-made : {after part : List ℕ} {n next : ℕ} → end - start ≤ length before → part ≡ take (end - start) (drop start out) → Laid before after 0 part next → n ≡ end - start
        → Meets from_json (run_of text before after (0 ∷ n ∷ []))
    unfolding first_refusal from_json_refusals is_missing sheet_from sheet_of of_room heard_by refused_or numbers_with if_told
    meets-made {after} {part} {n} {next} h is laid e =
        let same : part ≡ write_rule m.rule = is ∙ m.lies in
        let stands : after ≡ sets before 0 (write_rule m.rule) = rw (← same) (laid.stands (omega (arith, part-size, ap length same))) in
        meets-reply (told (write_rule m.rule))
        (rw (m.is, m.formed, le-leb (length (write_rule m.rule)) (length before) (omega (arith, part-size))))
        (ap (λ (n : ℕ). 0 ∷ n ∷ []) (e ∙ sym part-size))
        (stands, tt)
