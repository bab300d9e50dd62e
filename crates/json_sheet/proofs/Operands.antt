-- Laws of conditions: what their readers read, and their entries.
use Rattle.std.specs.Prelude.{Option as Optional, Some, None}
use Prim.Native.Nat.{ℕ, zero, suc, ◌+◌, ◌-◌, ◌<◌, ◌≤◌}
use mathlib.Core.Bool.{Bool, true, false, cond}
use mathlib.Core.List.{List, [], ◌∷◌, ◌++◌, append_assoc}
use mathlib.Core.Option.{Option, none, some, none-ne-some}
use mathlib.Core.Path.{◌≡◌, refl, sym, ap, subst, ◌∙◌}
use native.Mathlib.Omega.{arith}
use lib.ListN.{length, drop, get_or, drop_of_length-le}
use lib.Seq.{drop-cons}
use lib.Dec.{eqb}
use borrow.Author.Tests.{eq-eqb, ne_eqb, eqb-true}
use Rattle.text.specs.Utf8.{between}
use Rattle.text.specs.Decimal.{is_digit}
use Rattle.text.specs.Ascii.{ascii}
use Rattle.text.specs.CaseLaws.{by-test}
use Rattle.text.specs.ByteReaders.{byte}
use Rattle.text.specs.Numeral.{decimal_of}
use Rattle.text.specs.NumeralLaws.{decimal_of-one}
use Rattle.text.specs.Reader.{Reader, ◌>>=◌, ◌>>◌, and_then, pure, refuse}
use Rattle.text.specs.ReadAt.{ReadsTo, Refuses}
use Rattle.text.specs.ReadAtLaws.{bind-refused, bind-pure, then-refused}
use Rattle.sheet.specs.Operators as Operators
use Rattle.sheet.specs.Write.{write_end, write_item, write_last, mark_of, write_operator, write_condition_head}
use Rattle.definition.specs.Tree.{Value, Condition, literal, many, negation, one, two}
use Rattle.definition.specs.Write.{write_value, write_condition}
use Rattle.buffer.specs.Laid.{Laid, most_place}
use Rattle.buffer.specs.LaidLaws.{laid_then}
use Rattle.json_text.specs.Json.{Text, Json, null, truth, number, string}
use Rattle.json_text.specs.Strings as Strings
use Rattle.json_text.specs.Grammar.{unspaced, is_of_number, number_text, spelled, scalar, comma_or, value}
use Rattle.json_text.specs.TokenAt.{SpacesTo}
use Rattle.json_text.specs.BetweenAt.{MoreAt, EndAt}
use Rattle.json_text.specs.Shaped.{many_in}
use Rattle.json_text.proofs.ShapedMembers.{elements_as}
use Rattle.json_text.proofs.Separating.{spaces-full}
use Rattle.json_rule.specs.Shape.{value_of, two_from, conditions_from, condition_of}
use Rattle.json_rule.specs.Streamed.{asked, literals, flat, deep, streamed}
use Rattle.json_sheet.specs.Places.{headed, Given, ValueIs, WordIs, operator_start, operand_in, pair_rest, GivenCondition, ConditionIs}
use Rattle.json_sheet.proofs.Scalars.{scalar-true, scalar-false}
use Rattle.json_sheet.proofs.Held.{scalar-bracket, value-other, here}
use Rattle.json_sheet.proofs.Turns.{Begun, begun-start, begun-unread, begun-never, begun-alone, begun_more, begun-end, elements-turns, elements-none, elements-some}

-- Heads

pub start-laid : {before a b after : List ℕ} {o p q r : ℕ} (op : ℕ) → length before ≤ most_place
    → Laid before a o (67 ∷ 44 ∷ []) p
    → Laid a b p (decimal_of op) q
    → Laid b after q (44 ∷ []) r
    → Laid before after o (operator_start op) r
unfolding operator_start write_item ascii
start-laid op room u v w = laid_then room (laid_then room u v) w

-- a head's number and what follows it
head-joined : (op n : ℕ) (others : List ℕ) → (decimal_of op ++ (44 ∷ decimal_of n)) ++ others ≡ (decimal_of op ++ (44 ∷ [])) ++ (decimal_of n ++ others)
head-joined op n others = append_assoc (decimal_of op) (44 ∷ decimal_of n) others ∙ sym (append_assoc (decimal_of op) (44 ∷ []) (decimal_of n ++ others))

pub head-bytes : (op n : ℕ) → write_operator op n [] ≡ operator_start op ++ (decimal_of n ++ (44 ∷ 10 ∷ []))
unfolding write_operator operator_start write_item write_last write_end ascii
head-bytes op n = ap (λ (x : List ℕ). 67 ∷ 44 ∷ x) (head-joined op n (44 ∷ 10 ∷ []))

pub text_head : (op : ℕ) (t : Text) → write_operator op (length t) t ≡ operator_start op ++ headed (length t) t
unfolding write_operator operator_start write_item write_last write_end headed ascii
text_head op t = ap (λ (x : List ℕ). 67 ∷ 44 ∷ x) (head-joined op (length t) (44 ∷ (t ++ (10 ∷ []))))

pub plain-laid : {before middle after : List ℕ} {o m r : ℕ} (op : ℕ) → length before ≤ most_place → Laid before middle o (operator_start op) m → Laid middle after m (48 ∷ 44 ∷ 10 ∷ []) r
    → Laid before after o (write_operator op 0 []) r
plain-laid {before} {after = after} {o = o} {r = r} op room u v =
    subst (λ (x : List ℕ). Laid before after o x r)
    (sym (head-bytes op 0 ∙ ap (λ (x : List ℕ). operator_start op ++ (x ++ (44 ∷ 10 ∷ []))) (decimal_of-one 0 (omega arith))))
    (laid_then room u v)

pub counted-head : (op n : ℕ) (others : List ℕ) → write_operator op n [] ++ others ≡ operator_start op ++ (decimal_of n ++ (44 ∷ 10 ∷ others))
counted-head op n others =
    ap (λ (x : List ℕ). x ++ others) (head-bytes op n)
    ∙ append_assoc (operator_start op) (decimal_of n ++ (44 ∷ 10 ∷ [])) others
    ∙ ap (λ (x : List ℕ). operator_start op ++ x) (append_assoc (decimal_of n) (44 ∷ 10 ∷ []) others)

-- What another reader reads further on

module _ (s : List ℕ) (at from : ℕ) (p q : Reader (List ℕ) Condition) (ahead : at ≤ from) (same : p (drop at s) ≡ q (drop from s)) where
  pub passed_on : (r : Optional (ℕ × ℕ)) (before after : List ℕ) (o : ℕ) → ConditionIs q s from before after o r → ConditionIs p s at before after o r
  passed_on (Some (next, end)) before after o v =
      record {
        tree = v.tree;
        read = record { reads = same ∙ v.read.reads; past = omega (arith, v.read.past); within = v.read.within };
        lies = v.lies;
      }
  passed_on None before after o v = same ∙ v

-- Literals

literal-bytes : (b : Bool) → write_condition (literal 0 b) ≡ 67 ∷ 44 ∷ 49 ∷ 44 ∷ (48 + mark_of b) ∷ 44 ∷ 10 ∷ []
unfolding write_condition write_condition_head write_operator write_item write_last write_end mark_of ascii
literal-bytes true = rw (decimal_of-one 1 (omega arith))
literal-bytes false = rw (decimal_of-one 1 (omega arith), decimal_of-one 0 (omega arith))

literals-true : (b : ℕ) (t : List ℕ) → b ≡ 0x74 → literals (b ∷ t) ≡ (spelled (ascii "rue") >> pure (literal 0 true)) t
unfolding literals asked condition_of ◌>>=◌ ◌>>◌ and_then pure
literals-true b t e = ap (λ (o : Option (Json × List ℕ)). and_then o (asked condition_of)) (scalar-true b t e) ∙ go (spelled (ascii "rue") t)
  where
    go : (o : Option (Unit {0} × List ℕ)) → and_then (and_then o (λ u. pure (truth true))) (asked condition_of) ≡ and_then o (λ u. pure (literal 0 true))
    go none = refl
    go (some r) = refl

literals-false : (b : ℕ) (t : List ℕ) → b ≡ 0x66 → literals (b ∷ t) ≡ (spelled (ascii "alse") >> pure (literal 0 false)) t
unfolding literals asked condition_of ◌>>=◌ ◌>>◌ and_then pure
literals-false b t e = ap (λ (o : Option (Json × List ℕ)). and_then o (asked condition_of)) (scalar-false b t e) ∙ go (spelled (ascii "alse") t)
  where
    go : (o : Option (Unit {0} × List ℕ)) → and_then (and_then o (λ u. pure (truth false))) (asked condition_of) ≡ and_then o (λ u. pure (literal 0 false))
    go none = refl
    go (some r) = refl

-- another first byte begins no literal
pub literals-other : (b : ℕ) (t : List ℕ) → (b ≡ 0x74 → ⊥) → (b ≡ 0x66 → ⊥) → literals (b ∷ t) ≡ none
unfolding literals scalar asked condition_of ◌>>=◌ ◌>>◌ and_then pure
literals-other b t k l = rw (ne_eqb b 0x74 k, ne_eqb b 0x66 l) (go (eqb b 0x22) (eqb b 0x6E))
  where
    text : (o : Option (Text × List ℕ)) → and_then (and_then o (λ x. pure (string x))) (asked condition_of) ≡ none
    text none = refl
    text (some r) = refl

    nothing : (o : Option (Unit {0} × List ℕ)) → and_then (and_then o (λ u. pure null)) (asked condition_of) ≡ none
    nothing none = refl
    nothing (some r) = refl

    digits : (o : Option (Text × List ℕ)) → and_then (and_then o (λ x. pure (number x))) (asked condition_of) ≡ none
    digits none = refl
    digits (some r) = refl

    go : (q n : Bool)
        → and_then
        (cond q (and_then (Strings.string t) (λ x. pure (string x)))
        (cond n (and_then (spelled (ascii "ull") t) (λ u. pure null)) (and_then (number_text (b ∷ t)) (λ x. pure (number x)))))
        (asked condition_of)
        ≡ none
    go true n = text (Strings.string t)
    go false true = nothing (spelled (ascii "ull") t)
    go false false = digits (number_text (b ∷ t))

pub literals-nothing : literals [] ≡ none
unfolding literals scalar ◌>>=◌ and_then
literals-nothing = refl

pub literals-out : (s : List ℕ) (at : ℕ) → length s ≤ at → Refuses literals s at
literals-out s at h = ap literals (drop_of_length-le s h) ∙ literals-nothing

module _ (s : List ℕ) (at : ℕ) (h : at < length s) where
  pub no-literal : (get_or s at 0 ≡ 0x74 → ⊥) → (get_or s at 0 ≡ 0x66 → ⊥) → Refuses literals s at
  no-literal k l = ap literals (here s at 0 h) ∙ literals-other (get_or s at 0) (drop (at + 1) s) k l

  module _ (b : Bool) (word : List ℕ) (same : literals (drop at s) ≡ (spelled word >> pure (literal 0 b)) (drop (at + 1) s)) where
    word-literal : (r : Optional (ℕ × ℕ)) (before after : List ℕ) (o : ℕ) → WordIs word (67 ∷ 44 ∷ 49 ∷ 44 ∷ (48 + mark_of b) ∷ 44 ∷ 10 ∷ []) s (at + 1) before after o r → ConditionIs literals s at before after o r
    unfolding ◌>>=◌ ◌>>◌ and_then pure
    word-literal (Some (next, end)) before after o w =
        record {
          tree = literal 0 b;
          read = record { reads = same ∙ rw w.read; past = omega (arith, w.forward); within = w.within };
          lies = subst (λ (x : List ℕ). Laid before after o x end) (sym (literal-bytes b)) w.lies;
        }
    word-literal None before after o w = same ∙ rw w

  pub is_true : (r : Optional (ℕ × ℕ)) (before after : List ℕ) (o : ℕ) → get_or s at 0 ≡ 0x74 → WordIs (114 ∷ 117 ∷ 101 ∷ []) (67 ∷ 44 ∷ 49 ∷ 44 ∷ 49 ∷ 44 ∷ 10 ∷ []) s (at + 1) before after o r → ConditionIs literals s at before after o r
  unfolding ascii mark_of
  is_true r before after o e w = word-literal true (ascii "rue") (ap literals (here s at 0 h) ∙ literals-true (get_or s at 0) (drop (at + 1) s) e) r before after o w

  pub is_false : (r : Optional (ℕ × ℕ)) (before after : List ℕ) (o : ℕ) → get_or s at 0 ≡ 0x66 → WordIs (97 ∷ 108 ∷ 115 ∷ 101 ∷ []) (67 ∷ 44 ∷ 49 ∷ 44 ∷ 48 ∷ 44 ∷ 10 ∷ []) s (at + 1) before after o r → ConditionIs literals s at before after o r
  unfolding ascii mark_of
  is_false r before after o e w = word-literal false (ascii "alse") (ap literals (here s at 0 h) ∙ literals-false (get_or s at 0) (drop (at + 1) s) e) r before after o w

-- One value, one condition

one_reader : (op d : ℕ) → operand_in Operators.one op d ≡ (value d >>= λ v. pure (one 0 op (value_of v)))
unfolding operand_in flat deep
one_reader op zero = refl
one_reader op (suc d) = refl

one-bytes : (op : ℕ) (v : Value) → write_condition (one 0 op v) ≡ write_operator op 0 [] ++ write_value v
unfolding write_condition write_condition_head
one-bytes op v = refl

pub is-one : (op d : ℕ) (s : List ℕ) (at : ℕ) (r : Optional (ℕ × ℕ)) (before middle after : List ℕ) (o e : ℕ) → length before ≤ most_place → Laid before middle o (write_operator op 0 []) e → ValueIs (value d) s at middle after e r
    → ConditionIs (operand_in Operators.one op d) s at before after o r
is-one op d s at (Some (next, end)) before middle after o e room l v =
    record {
      tree = one 0 op (value_of v.tree);
      read = subst (λ (p : Reader (List ℕ) Condition). ReadsTo p s at (one 0 op (value_of v.tree)) next) (sym (one_reader op d)) (bind-pure (value d) (λ (x : Json). one 0 op (value_of x)) v.read);
      lies = subst (λ (x : List ℕ). Laid before after o x end) (sym (one-bytes op (value_of v.tree))) (laid_then room l v.lies);
    }
is-one op d s at None before middle after o e room l v =
    subst (λ (p : Reader (List ℕ) Condition). Refuses p s at) (sym (one_reader op d)) (bind-refused (value d) (λ (x : Json). pure (one 0 op (value_of x))) s at v)

negation-reader : (d : ℕ) → operand_in Operators.negation 4 d ≡ (streamed d >>= λ c. pure (negation 0 c))
unfolding operand_in flat deep
negation-reader zero = refl
negation-reader (suc d) = refl

negation-bytes : (c : Condition) → write_condition (negation 0 c) ≡ write_operator 4 0 [] ++ write_condition c
unfolding write_condition write_condition_head
negation-bytes c = refl

pub is-negation : (d : ℕ) (s : List ℕ) (at : ℕ) (r : Optional (ℕ × ℕ)) (before middle after : List ℕ) (o e : ℕ) → length before ≤ most_place → Laid before middle o (write_operator 4 0 []) e → ConditionIs (streamed d) s at middle after e r
    → ConditionIs (operand_in Operators.negation 4 d) s at before after o r
is-negation d s at (Some (next, end)) before middle after o e room l v =
    record {
      tree = negation 0 v.tree;
      read = subst (λ (p : Reader (List ℕ) Condition). ReadsTo p s at (negation 0 v.tree) next) (sym (negation-reader d)) (bind-pure (streamed d) (negation 0) v.read);
      lies = subst (λ (x : List ℕ). Laid before after o x end) (sym (negation-bytes v.tree)) (laid_then room l v.lies);
    }
is-negation d s at None before middle after o e room l v =
    subst (λ (p : Reader (List ℕ) Condition). Refuses p s at) (sym (negation-reader d)) (bind-refused (streamed d) (λ (x : Condition). pure (negation 0 x)) s at v)

-- Operands in brackets

-- behind the bracket of conditions
unfoldable pub many_rest : (op depth : ℕ) → Reader (List ℕ) Condition
many_rest op d = elements_as (streamed d) >>= λ cs. pure (many 0 op (conditions_from cs))

pub many-flat : (op d : ℕ) → d ≡ 0 → (x : List ℕ) → operand_in Operators.many op d x ≡ none
unfolding operand_in flat refuse
many-flat op zero e x = refl
many-flat op (suc d) e x = absurd (omega arith)

pub many-deep : (op d : ℕ) → (d ≡ 0 → ⊥) → operand_in Operators.many op d ≡ (byte 0x5B >> many_rest op (d - 1))
unfolding operand_in deep many_rest
many-deep op zero e = absurd (e refl)
many-deep op (suc d) e = let same : suc d - 1 ≡ d = omega arith in rw same

pub two-flat : (op d : ℕ) → d ≡ 0 → (x : List ℕ) → operand_in Operators.two op d x ≡ none
unfolding operand_in flat refuse
two-flat op zero e x = refl
two-flat op (suc d) e x = absurd (omega arith)

pub two_deep : (op d : ℕ) → (d ≡ 0 → ⊥) → operand_in Operators.two op d ≡ (byte 0x5B >> pair_rest op (d - 1))
unfolding operand_in deep pair_rest
two_deep op zero e = absurd (e refl)
two_deep op (suc d) e = let same : suc d - 1 ≡ d = omega arith in rw same

-- what stands in a bracket, where something may nest
module _ (p q : Reader (List ℕ) Condition) (d bracket : ℕ) (flatly : d ≡ 0 → (x : List ℕ) → p x ≡ none) (deeply : (d ≡ 0 → ⊥) → p ≡ (byte bracket >> q)) where
  pub bracket-flat : (s : List ℕ) (at : ℕ) → d ≡ 0 → Refuses p s at
  bracket-flat s at e = flatly e (drop at s)

  pub bracket-unopened : (s : List ℕ) (at : ℕ) → Refuses (byte bracket) s at → Refuses p s at
  bracket-unopened s at c =
      by-test (eqb d 0) (λ e. flatly (eqb-true d 0 e) (drop at s)) (λ e. subst (λ (x : Reader (List ℕ) Condition). Refuses x s at) (sym (deeply (λ z. absurd (nonzero e z)))) (then-refused (byte bracket) q s at c))
    where
      nonzero : eqb d 0 ≡ false → d ≡ 0 → ⊥
      nonzero e z = let clash : ◌≡◌ {A = ℕ} 0 1 = ap (λ (b : Bool). cond b 1 0) (sym e ∙ eq-eqb d 0 z) in omega arith

  pub bracket-opened : (s : List ℕ) (at : ℕ) {u : Unit {0}} (r : Optional (ℕ × ℕ)) (before after : List ℕ) (o : ℕ) → (d ≡ 0 → ⊥) → ReadsTo (byte bracket) s at u (at + 1) → ConditionIs q s (at + 1) before after o r → ConditionIs p s at before after o r
  unfolding ◌>>◌ ◌>>=◌ and_then
  bracket-opened s at r before after o k c v =
      passed_on s at (at + 1) p q (omega arith) (ap (λ (x : Reader (List ℕ) Condition). x (drop at s)) (deeply k) ∙ rw c.reads) r before after o v

-- Two values

pub no-bracket : (d : ℕ) {s : List ℕ} {at next : ℕ} {v : Json} → ReadsTo (value d) s at v next → Refuses (byte 0x5D) s at
unfolding byte is_of_number is_digit between
no-bracket d {s} {at} {next} {v} r =
    let h : at < length s = omega (arith, r.past, r.within) in
    by-test (eqb (get_or s at 0) 0x5D)
    (λ e.
    absurd
    (none-ne-some (v, drop next s)
    (sym
    (ap (value d) (here s at 0 h ∙ ap (λ (b : ℕ). b ∷ drop (at + 1) s) (eqb-true (get_or s at 0) 0x5D e))
    ∙ value-other d 0x5D (drop (at + 1) s) refl refl
    ∙ scalar-bracket 0x5D (drop (at + 1) s) refl refl refl refl refl)
    ∙ r.reads)))
    (λ e. rw (drop-cons s at 0 h, e))

pub then-none : {A B : Type 0} {o : Option (A × List ℕ)} (k : A → Reader (List ℕ) B) → o ≡ none → and_then o k ≡ none
unfolding and_then
then-none k e = rw e

pub then-asked : {A B : Type 0} {o : Option (A × List ℕ)} (f : A → Option B) (a : A) (t : List ℕ) → f a ≡ none → o ≡ some (a, t) → and_then o (asked f) ≡ none
unfolding and_then asked
then-asked f a t e h = rw (h, e)

abbrev value_item : ℕ → Reader (List ℕ) Value
value_item d = value d >>= λ v. pure (value_of v)

pair-bytes : (op : ℕ) (a b : Value) → write_condition (two 0 op a b) ≡ write_operator op 0 [] ++ (write_value a ++ write_value b)
unfolding write_condition write_condition_head
pair-bytes op a b = refl

module _ (op d : ℕ) {s : List ℕ} {at i : ℕ} (k : SpacesTo s at i) where
  begun : Begun (value_item d) (many_in (value_item d)) 0x5D s i [] i
  begun = begun-start (value_item d) (many_in (value_item d)) 0x5D s i k.within (spaces-full (drop at s) k.skips)

  refused : (i : ℕ) → Refuses (value d) s i → Refuses (value_item d) s i
  refused i r = bind-refused (value d) (λ v. pure (value_of v)) s i r

  read-item : {i next : ℕ} {v : Json} → ReadsTo (value d) s i v next → ReadsTo (value_item d) s i (value_of v) next
  read-item r = bind-pure (value d) value_of r

  pair-none : ((whole : ℕ) → length s ≤ i + whole → and_then (many_in (value_item d) whole (drop i s)) (asked (two_from op)) ≡ none) → Refuses (pair_rest op d) s at
  unfolding pair_rest two_from
  pair-none h = elements-none (two_from op) k (value_item d) refl h

  pub pair-unread : Refuses (value d) s i → Refuses (pair_rest op d) s at
  pair-unread r = pair-none (λ whole h. then-none (asked (two_from op)) (begun-unread (value_item d) (many_in (value_item d)) 0x5D (elements-turns (value_item d)) begun (refused i r) whole h))

  module _ {head half : List ℕ} {start next middle : ℕ} (first : Given (value d) s i head half start next middle) where
    pub pair-alone : comma_or 0x5D (unspaced (drop next s)) ≡ none → Refuses (pair_rest op d) s at
    pair-alone c =
        pair-none
        (λ whole h.
        then-none (asked (two_from op)) (begun-alone (value_item d) (many_in (value_item d)) 0x5D (elements-turns (value_item d)) begun (value_of first.tree) (read-item first.read) c whole h))

    pub pair-single : {place : ℕ} → EndAt 0x5D s next place → Refuses (pair_rest op d) s at
    unfolding two_from
    pair-single {place} c =
        pair-none
        (λ whole h.
        then-asked (two_from op) (value_of first.tree ∷ []) (drop place s) refl
        (begun-end (value_item d) (many_in (value_item d)) 0x5D (elements-turns (value_item d)) begun (value_of first.tree) (read-item first.read) c whole h))

    module _ {j : ℕ} (comma : MoreAt 0x5D s next j) where
      further : Begun (value_item d) (many_in (value_item d)) 0x5D s i (value_of first.tree ∷ []) j
      further = begun_more (value_item d) (many_in (value_item d)) 0x5D (elements-turns (value_item d)) begun (value_of first.tree) (read-item first.read) comma

      pub pair-half : Refuses (value d) s j → Refuses (pair_rest op d) s at
      pair-half r = pair-none (λ whole h. then-none (asked (two_from op)) (begun-unread (value_item d) (many_in (value_item d)) 0x5D (elements-turns (value_item d)) further (refused j r) whole h))

      module _ {whole : List ℕ} {behind end : ℕ} (second : Given (value d) s j half whole middle behind end) where
        pub pair-open : comma_or 0x5D (unspaced (drop behind s)) ≡ none → Refuses (pair_rest op d) s at
        pair-open c =
            pair-none
            (λ turns h.
            then-none (asked (two_from op)) (begun-alone (value_item d) (many_in (value_item d)) 0x5D (elements-turns (value_item d)) further (value_of second.tree) (read-item second.read) c turns h))

        pub pair-third : {place : ℕ} → MoreAt 0x5D s behind place → Refuses (pair_rest op d) s at
        unfolding two_from
        pair-third c =
            pair-none
            (λ turns h.
            begun-never (value_item d) (many_in (value_item d)) 0x5D (elements-turns (value_item d))
            (begun_more (value_item d) (many_in (value_item d)) 0x5D (elements-turns (value_item d)) further (value_of second.tree) (read-item second.read) c) (two_from op) (λ v y e t. refl) turns h)

        pub pair-given : {before : List ℕ} {o place : ℕ} → length before ≤ most_place → Laid before head o (write_operator op 0 []) start → EndAt 0x5D s behind place → GivenCondition (pair_rest op d) s at before whole o place end
        unfolding pair_rest two_from
        pair-given {before} {o} {place} room l c =
            let a = value_of first.tree in
            let b = value_of second.tree in
            record {
              tree = two 0 op a b;
              read =
                  elements-some (two_from op) k (a ∷ b ∷ []) (two 0 op a b) refl (value_item d) (no-bracket d first.read)
                  (omega (arith, first.read.past, comma.past, second.read.past, c.past)) c.within
                  (λ turns h. begun-end (value_item d) (many_in (value_item d)) 0x5D (elements-turns (value_item d)) further b (read-item second.read) c turns h);
              lies =
                  subst (λ (x : List ℕ). Laid before whole o x end) (append_assoc (write_operator op 0 []) (write_value a) (write_value b) ∙ sym (pair-bytes op a b))
                  (laid_then room (laid_then room l first.lies) second.lies);
            }
