-- Laws of conditions that hold others, and of conditions by their first byte.
use Rattle.std.specs.Prelude.{Option}
use Prim.Native.Nat.{ℕ, zero, suc, ◌+◌, ◌-◌, ◌<◌, ◌≤◌}
use mathlib.Core.List.{List, [], ◌∷◌, ◌++◌, append-nil}
use mathlib.Core.Option.{none, some, none-ne-some}
use mathlib.Core.Path.{◌≡◌, refl, sym, ap, subst, ◌∙◌}
use native.Mathlib.Omega.{arith}
use lib.ListN.{length, drop, get_or, drop_of_length-le, length-drop}
use lib.Dec.{eqb}
use borrow.Author.Tests.{ne_eqb, eq-eqb, eqb-true, le-leb, lt-leb}
use Rattle.text.specs.CaseLaws.{by-test}
use Rattle.text.specs.ByteReaders.{byte}
use Rattle.text.specs.Reader.{Reader, ◌>>=◌, ◌>>◌, and_then, pure, refuse, either, or_else}
use Rattle.text.specs.ReadAt.{ReadsTo, Refuses}
use Rattle.text.specs.ReadAtLaws.{bind-refused, bind-refuses, bind-reads}
use Rattle.sheet.specs.Operators.{Shape, shape_of}
use Rattle.sheet.specs.Operators as Operators
use Rattle.sheet.proofs.OperatorLaws.{shape_by_tests, shape-tests}
use Rattle.sheet.specs.Write.{write_operator, write_condition_head}
use Rattle.definition.specs.Tree.{Condition, many, Conditions, condition}
use Rattle.definition.specs.Write.{write_condition, write_conditions, count_of_conditions}
use Rattle.buffer.specs.Laid.{Laid, most_place, Recounted}
use Rattle.buffer.specs.LaidLaws.{laid_then}
use Rattle.json_text.specs.Json.{Text}
use Rattle.json_text.specs.Grammar.{unspaced, spaces, comma_or}
use Rattle.json_text.specs.TokenAt.{SpacesTo}
use Rattle.json_text.specs.BetweenAt.{key_of, MoreAt, EndAt}
use Rattle.json_text.specs.Shaped.{many_in}
use Rattle.json_text.proofs.ShapedMembers.{parts_in, elements_as}
use Rattle.json_text.proofs.Separating.{spaces-full}
use Rattle.json_rule.specs.Shape.{operator_of, the_only, conditions_from}
use Rattle.json_rule.specs.Streamed.{asked, literals, flat, deep, streamed, operand}
use Rattle.json_sheet.specs.Places.{Holding, Chosen, part_of, operator_start, operand_in, operation_rest, GivenCondition, ConditionIs, entries_of_conditions, count_of_conditions_from}
use Rattle.json_sheet.proofs.Siblings.{Kind}
use Rattle.json_sheet.proofs.Held.{or-none, here}
use Rattle.json_sheet.proofs.Turns.{Begun, begun-start, begun-unread, begun-never, begun-alone, begun_more, begun-end, elements-turns, parts-turns, parts_none, parts-some, spaced, more, last, unread, alone}
use Rattle.json_sheet.proofs.Operands.{counted-head, plain-laid, passed_on, literals-other, literals-nothing, many_rest, then-none}

-- Conditions side by side

module _ (p : Reader (List ℕ) Condition) where
  condition-writes : (c : Condition) (cs : List Condition) → entries_of_conditions (c ∷ cs) ≡ write_condition c ++ entries_of_conditions cs
  unfolding entries_of_conditions conditions_from write_conditions
  condition-writes c cs = refl

  no-conditions : entries_of_conditions [] ≡ []
  unfolding entries_of_conditions conditions_from write_conditions
  no-conditions = refl

  condition-counts : (c : Condition) (cs : List Condition) → count_of_conditions_from (c ∷ cs) ≡ count_of_conditions_from cs + 1
  unfolding count_of_conditions_from conditions_from count_of_conditions
  condition-counts c cs = refl

  zero-conditions : count_of_conditions_from [] ≡ 0
  unfolding count_of_conditions_from conditions_from count_of_conditions
  zero-conditions = refl

  pub conditions-kind : Kind p (many_in p) (λ (c : Condition) (cs : List Condition). c ∷ cs) [] 0x5D write_condition entries_of_conditions count_of_conditions_from
  conditions-kind =
      let kind = elements-turns p in
      record {
        spaced = spaced p (many_in p) 0x5D kind;
        more = more p (many_in p) 0x5D kind;
        last = last p (many_in p) 0x5D kind;
        unread = unread p (many_in p) 0x5D kind;
        alone = alone p (many_in p) 0x5D kind;
        writes = condition-writes;
        nothing = no-conditions;
        counts = condition-counts;
        zeroth = zero-conditions;
      }

-- `all` and `any`, from behind the bracket on

many-bytes : (op : ℕ) (cs : List Condition) → write_condition (many 0 op (conditions_from cs)) ≡ write_operator op (count_of_conditions_from cs) [] ++ entries_of_conditions cs
unfolding write_condition write_condition_head count_of_conditions_from entries_of_conditions
many-bytes op cs = refl

module _ (op d : ℕ) where
  many-none : (x : List ℕ) {y z : List ℕ} {u : Unit {0}} → unspaced x ≡ y → byte 0x5D y ≡ some (u, z) → many_rest op d x ≡ some (many 0 op (conditions_from []), z)
  unfolding many_rest elements_as either or_else spaces ◌>>=◌ ◌>>◌ and_then pure
  many-none x e f = rw (e, f)

  many-held : (x : List ℕ) {y z : List ℕ} {cs : List Condition} → unspaced x ≡ y → byte 0x5D y ≡ none → many_in (streamed d) (length x) x ≡ some (cs, z) → many_rest op d x ≡ some (many 0 op (conditions_from cs), z)
  unfolding many_rest elements_as either or_else spaces ◌>>=◌ ◌>>◌ and_then pure
  many-held x e f g = rw (e, f, g)

  many-unread : (x : List ℕ) {y : List ℕ} → unspaced x ≡ y → byte 0x5D y ≡ none → many_in (streamed d) (length x) x ≡ none → many_rest op d x ≡ none
  unfolding many_rest elements_as either or_else spaces ◌>>=◌ ◌>>◌ and_then pure
  many-unread x e f g = rw (e, f, g)

  module _ (s : List ℕ) (at i : ℕ) (k : SpacesTo s at i) where
    turns-enough : length s ≤ i + length (drop at s)
    turns-enough = omega (arith, length-drop at s, k.forward)

    whole : many_in (streamed d) (length (drop at s)) (drop at s) ≡ many_in (streamed d) (length (drop at s)) (drop i s)
    whole = spaced (streamed d) (many_in (streamed d)) 0x5D (elements-turns (streamed d)) (length (drop at s)) (drop at s) ∙ ap (many_in (streamed d) (length (drop at s))) k.skips

    pub many-empty : {before head after : List ℕ} {o count start : ℕ} {u : Unit {0}} → length before ≤ most_place
        → Laid before head o (operator_start op) count
        → Laid head after count (48 ∷ 44 ∷ 10 ∷ []) start
        → ReadsTo (byte 0x5D) s i u (i + 1)
        → GivenCondition (many_rest op d) s at before after o (i + 1) start
    unfolding count_of_conditions_from entries_of_conditions conditions_from write_conditions count_of_conditions
    many-empty {before} {after = after} {o = o} {start = start} room l m c =
        record {
          tree = many 0 op (conditions_from []);
          read = record { reads = many-none (drop at s) k.skips c.reads; past = omega (arith, k.forward); within = c.within };
          lies = subst (λ (x : List ℕ). Laid before after o x start) (sym (many-bytes op [] ∙ append-nil (write_operator op 0 []))) (plain-laid op room l m);
        }

    pub many-bad : Refuses (byte 0x5D) s i → ((turns : ℕ) → length s ≤ i + turns → many_in (streamed d) turns (drop i s) ≡ none) → Refuses (many_rest op d) s at
    many-bad c e = many-unread (drop at s) k.skips c (whole ∙ e (length (drop at s)) turns-enough)

    pub many-given : {before head start-head held after : List ℕ} {o count start next end n final : ℕ} → length before ≤ most_place
        → Laid before head o (operator_start op) count
        → Laid head start-head count (48 ∷ 44 ∷ 10 ∷ []) start
        → Refuses (byte 0x5D) s i
        → ((turns : ℕ) → length s ≤ i + turns → Holding (many_in (streamed d)) entries_of_conditions count_of_conditions_from turns s i start-head held start next end n)
        → Recounted held after count end n final
        → GivenCondition (many_rest op d) s at before after o next final
    many-given {before} {head} {after = after} {o = o} {n = n} {final = final} room l m c f r =
        let h = f (length (drop at s)) turns-enough in
        let same = l.len in
        record {
          tree = many 0 op (conditions_from h.all);
          read = record { reads = many-held (drop at s) k.skips c (whole ∙ h.reads); past = omega (arith, k.forward, h.past); within = h.within };
          lies =
              subst (λ (x : List ℕ). Laid before after o x final)
              (sym (counted-head op n (entries_of_conditions h.all)) ∙ ap (λ (j : ℕ). write_operator op j [] ++ entries_of_conditions h.all) (sym h.size) ∙ sym (many-bytes op h.all))
              (laid_then room l (r.lies head (44 ∷ 10 ∷ entries_of_conditions h.all) (laid_then (omega arith) m h.lies)));
        }

-- One operator with its operand, from behind the bracket on

-- a member does not begin with the closing bracket
part-quoted : {C : Type 0} (q : Text → Reader (List ℕ) C) (x y : List ℕ) (a : C) → part_of q x ≡ some (a, y) → byte 0x7D x ≡ none
unfolding part_of key_of byte ◌>>=◌ ◌>>◌ and_then
part-quoted q [] y a e = refl
part-quoted q (b ∷ x) y a e =
    by-test (eqb b 0x7D)
    (λ h. let same = eqb-true b 0x7D h in absurd (none-ne-some (a, y) (rw (ne_eqb b 0x22 (λ z. absurd (omega arith))) at e)))
    (λ h. rw h)

pub part-opens : {C : Type 0} (q : Text → Reader (List ℕ) C) {s : List ℕ} {at next : ℕ} {a : C} → ReadsTo (part_of q) s at a next → Refuses (byte 0x7D) s at
part-opens q {s} {at} {next} {a} r = part-quoted q (drop at s) (drop next s) a r.reads

abbrev operation : ℕ → Text → Reader (List ℕ) Condition
operation d key = operand_in (shape_of (operator_of key)) (operator_of key) d

module _ (d : ℕ) {s : List ℕ} {at i : ℕ} (k : SpacesTo s at i) where
  begun : Begun (part_of (operation d)) (parts_in (operation d)) 0x7D s i [] i
  begun = begun-start (part_of (operation d)) (parts_in (operation d)) 0x7D s i k.within (spaces-full (drop at s) k.skips)

  operation-none : ((turns : ℕ) → length s ≤ i + turns → and_then (parts_in (operation d) turns (drop i s)) (asked the_only) ≡ none) → Refuses (operation_rest d) s at
  unfolding operation_rest the_only
  operation-none h = parts_none the_only k (operation d) refl h

  operation-refused : Refuses (part_of (operation d)) s i → Refuses (operation_rest d) s at
  operation-refused r =
      operation-none (λ turns h. then-none (asked the_only) (begun-unread (part_of (operation d)) (parts_in (operation d)) 0x7D (parts-turns (operation d)) begun r turns h))

  pub operation-unnamed : Refuses key_of s i → Refuses (operation_rest d) s at
  unfolding part_of
  operation-unnamed r = operation-refused (bind-refused key_of (operation d) s i r)

  module _ {op next : ℕ} (name : Chosen operator_of s i op next) where
    pub operation-unread : Refuses (operand_in (shape_of op) op d) s next → Refuses (operation_rest d) s at
    unfolding part_of
    operation-unread r =
        operation-refused
        (bind-refuses key_of (operation d) name.read (subst (λ (n : ℕ). Refuses (operand_in (shape_of n) n d) s next) name.which r))

    module _ {before after : List ℕ} {o behind end : ℕ} (only : GivenCondition (operand_in (shape_of op) op d) s next before after o behind end) where
      item : ReadsTo (part_of (operation d)) s i only.tree behind
      unfolding part_of
      item =
          bind-reads key_of (operation d) name.read (subst (λ (n : ℕ). ReadsTo (operand_in (shape_of n) n d) s next only.tree behind) name.which only.read)

      pub operation-alone : comma_or 0x7D (unspaced (drop behind s)) ≡ none → Refuses (operation_rest d) s at
      operation-alone c =
          operation-none (λ turns h. then-none (asked the_only) (begun-alone (part_of (operation d)) (parts_in (operation d)) 0x7D (parts-turns (operation d)) begun only.tree item c turns h))

      pub operation-second : {place : ℕ} → MoreAt 0x7D s behind place → Refuses (operation_rest d) s at
      unfolding the_only
      operation-second c =
          operation-none
          (λ turns h.
          begun-never (part_of (operation d)) (parts_in (operation d)) 0x7D (parts-turns (operation d))
          (begun_more (part_of (operation d)) (parts_in (operation d)) 0x7D (parts-turns (operation d)) begun only.tree item c) the_only (λ c y e t. refl) turns h)

      pub operation-given : {place : ℕ} → EndAt 0x7D s behind place → GivenCondition (operation_rest d) s at before after o place end
      unfolding operation_rest the_only
      operation-given c =
          record {
            tree = only.tree;
            read =
                parts-some the_only k (only.tree ∷ []) only.tree refl (operation d) (part-opens (operation d) item) (omega (arith, item.past, c.past)) c.within
                (λ turns h. begun-end (part_of (operation d)) (parts_in (operation d)) 0x7D (parts-turns (operation d)) begun only.tree item c turns h);
            lies = only.lies;
          }

-- What an operator's number asks for

module _ (op d : ℕ) (s : List ℕ) (at : ℕ) where
  pub no_operand : op ≤ 1 → Refuses (operand_in (shape_of op) op d) s at
  unfolding shape_by_tests operand_in flat deep refuse
  no_operand h =
      let e : shape_of op ≡ Operators.literal = rw (shape-tests op, le-leb op 1 h) in
      subst (λ (sh : Shape). Refuses (operand_in sh op d) s at) (sym e) (go d)
    where
      go : (d : ℕ) → Refuses (operand_in Operators.literal op d) s at
      go zero = refl
      go (suc d) = refl

  module _ (r : Option (ℕ × ℕ)) (before after : List ℕ) (o : ℕ) where
    shaped-as : (sh : Shape) → shape_of op ≡ sh → ConditionIs (operand_in sh op d) s at before after o r → ConditionIs (operand_in (shape_of op) op d) s at before after o r
    shaped-as sh e v = subst (λ (x : Shape). ConditionIs (operand_in x op d) s at before after o r) (sym e) v

    pub as_many : 1 < op → op ≤ 3 → ConditionIs (operand_in Operators.many op d) s at before after o r → ConditionIs (operand_in (shape_of op) op d) s at before after o r
    unfolding shape_by_tests
    as_many a b v = shaped-as Operators.many (rw (shape-tests op, lt-leb op 1 a, le-leb op 3 b)) v

    pub as-negation : 3 < op → op ≤ 4 → ConditionIs (operand_in Operators.negation 4 d) s at before after o r → ConditionIs (operand_in (shape_of op) op d) s at before after o r
    unfolding shape_of
    as-negation a b v =
        let same : 4 ≡ op = omega arith in
        subst (λ (n : ℕ). ConditionIs (operand_in (shape_of n) n d) s at before after o r) same v

    pub as-exists : 4 < op → op ≤ 5 → ConditionIs (operand_in Operators.one op d) s at before after o r → ConditionIs (operand_in (shape_of op) op d) s at before after o r
    unfolding shape_by_tests
    as-exists a b v = shaped-as Operators.one (rw (shape-tests op, lt-leb op 1 (omega arith), lt-leb op 3 (omega arith), lt-leb op 4 a, le-leb op 5 b)) v

    pub as-two : 5 < op → op ≤ 17 → ConditionIs (operand_in Operators.two op d) s at before after o r → ConditionIs (operand_in (shape_of op) op d) s at before after o r
    unfolding shape_by_tests
    as-two a b v = shaped-as Operators.two (rw (shape-tests op, lt-leb op 1 (omega arith), lt-leb op 3 (omega arith), lt-leb op 4 (omega arith), lt-leb op 5 a, le-leb op 17 b)) v

    pub as-comparison : 17 < op → op ≤ 18 → ConditionIs (operand_in Operators.comparison 18 d) s at before after o r → ConditionIs (operand_in (shape_of op) op d) s at before after o r
    unfolding shape_of
    as-comparison a b v =
        let same : 18 ≡ op = omega arith in
        subst (λ (n : ℕ). ConditionIs (operand_in (shape_of n) n d) s at before after o r) same v

    pub as-truthy : 18 < op → op ≤ 19 → ConditionIs (operand_in Operators.one op d) s at before after o r → ConditionIs (operand_in (shape_of op) op d) s at before after o r
    unfolding shape_by_tests
    as-truthy a b v =
        shaped-as Operators.one
        (rw (shape-tests op, lt-leb op 1 (omega arith), lt-leb op 3 (omega arith), lt-leb op 4 (omega arith), lt-leb op 5 (omega arith), lt-leb op 17 (omega arith), lt-leb op 18 a, le-leb op 19 b)) v

    pub as-quantifier : 19 < op → ConditionIs (operand_in Operators.quantifier op d) s at before after o r → ConditionIs (operand_in (shape_of op) op d) s at before after o r
    unfolding shape_by_tests
    as-quantifier a v =
        shaped-as Operators.quantifier
        (rw (shape-tests op, lt-leb op 1 (omega arith), lt-leb op 3 (omega arith), lt-leb op 4 (omega arith), lt-leb op 5 (omega arith), lt-leb op 17 (omega arith), lt-leb op 18 (omega arith), lt-leb op 19 a)) v

-- A condition, by its first byte

streamed-deep : (d : ℕ) → streamed (suc d) ≡ either literals (byte 0x7B >> operation_rest d)
unfolding streamed operand operation_rest operand_in
streamed-deep zero = refl
streamed-deep (suc d) = refl

streamed-nothing : (d : ℕ) → streamed d [] ≡ none
unfolding streamed either or_else byte ◌>>=◌ ◌>>◌ and_then
streamed-nothing zero = literals-nothing
streamed-nothing (suc d) = rw literals-nothing

streamed-flat : (d b : ℕ) (t : List ℕ) → d ≡ 0 → b ≡ 0x7B → streamed d (b ∷ t) ≡ none
unfolding streamed
streamed-flat zero b t h e = literals-other b t (λ z. absurd (omega arith)) (λ z. absurd (omega arith))
streamed-flat (suc d) b t h e = absurd (omega arith)

streamed-brace : (d b : ℕ) (t : List ℕ) → (d ≡ 0 → ⊥) → b ≡ 0x7B → streamed d (b ∷ t) ≡ operation_rest (d - 1) t
unfolding either or_else byte ◌>>=◌ ◌>>◌ and_then
streamed-brace zero b t h e = absurd (h refl)
streamed-brace (suc d) b t h e =
    let same : suc d - 1 ≡ d = omega arith in
    ap (λ (p : Reader (List ℕ) Condition). p (b ∷ t)) (streamed-deep d) ∙ rw (literals-other b t (λ z. absurd (omega arith)) (λ z. absurd (omega arith)), eq-eqb b 0x7B e, same)

streamed-other : (d b : ℕ) (t : List ℕ) → (b ≡ 0x7B → ⊥) → streamed d (b ∷ t) ≡ literals (b ∷ t)
unfolding streamed either byte ◌>>=◌ ◌>>◌ and_then
streamed-other zero b t e = refl
streamed-other (suc d) b t e = ap (λ (p : Reader (List ℕ) Condition). p (b ∷ t)) (streamed-deep d) ∙ rw (ne_eqb b 0x7B e) (or-none (literals (b ∷ t)))

pub condition-out : (s : List ℕ) (at d : ℕ) → length s ≤ at → Refuses (streamed d) s at
condition-out s at d h = ap (streamed d) (drop_of_length-le s h) ∙ streamed-nothing d

module _ (s : List ℕ) (at d : ℕ) (h : at < length s) where
  pub condition-flat : get_or s at 0 ≡ 0x7B → d ≡ 0 → Refuses (streamed d) s at
  condition-flat e z = ap (streamed d) (here s at d h) ∙ streamed-flat d (get_or s at 0) (drop (at + 1) s) z e

  module _ (r : Option (ℕ × ℕ)) (before after : List ℕ) (o : ℕ) where
    pub is-operation : get_or s at 0 ≡ 0x7B → (d ≡ 0 → ⊥) → ConditionIs (operation_rest (d - 1)) s (at + 1) before after o r → ConditionIs (streamed d) s at before after o r
    is-operation e z v =
        passed_on s at (at + 1) (streamed d) (operation_rest (d - 1)) (omega arith) (ap (streamed d) (here s at d h) ∙ streamed-brace d (get_or s at 0) (drop (at + 1) s) z e) r before after o v

    pub is-literal : (get_or s at 0 ≡ 0x7B → ⊥) → ConditionIs literals s at before after o r → ConditionIs (streamed d) s at before after o r
    is-literal e v =
        passed_on s at at (streamed d) literals (omega arith)
        (ap (streamed d) (here s at d h) ∙ streamed-other d (get_or s at 0) (drop (at + 1) s) e ∙ ap literals (sym (here s at d h))) r before after o v
