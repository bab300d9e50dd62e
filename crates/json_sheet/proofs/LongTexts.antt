-- A rule whose name or message is over the limit has no well-formed sheet.
use Prim.Native.Nat.{ℕ, ◌<◌, ◌≤◌}
use mathlib.Core.Bool.{Bool, true, false, ◌&&◌}
use mathlib.Core.List.{List, ◌∷◌, ◌++◌, append_assoc}
use mathlib.Core.Logic.{◌⊎◌, inl, inr}
use mathlib.Core.Option.{Option, none, some, map}
use mathlib.Core.Path.{◌≡◌, refl}
use native.Mathlib.Omega.{arith}
use lib.Dec.{leb}
use lib.ListN.{length}
use borrow.Author.Tests.{leb-true, leb-false, lt-leb}
use Rattle.text.specs.Ascii.{ascii}
use Rattle.text.specs.ByteReaders.{byte}
use Rattle.text.specs.CaseLaws.{by-test}
use Rattle.text.specs.Numeral.{numeral}
use Rattle.text.specs.NumeralLaws.{begins_without_digit, decimal-complete, comma-begins}
use Rattle.text.specs.Reader.{Reader, ◌>>=◌, ◌>>◌, and_then, pure, ensure, either, or_else}
use Rattle.sheet.specs.Entries.{max_text, item, text_length, rule_head}
use Rattle.sheet.specs.Entries as Entries
use Rattle.sheet.proofs.ItemLaws.{dash-none, item-complete, length-begins}
use Rattle.sheet.specs.Write.{write_end, write_item, write_length, write_text, write_rule_head}
use Rattle.definition.specs.Tree.{Text, Condition, rule}
use Rattle.definition.specs.Decode.{entered, entry, announce, whole, any_rule, decode_rule}
use Rattle.definition.specs.Limits.{max_sheet_bytes}
use Rattle.definition.specs.Write.{write_condition, write_rule}

-- over the limit
abbrev pub Over : Option Text → Type 0
Over none = ⊥
Over (some t) = max_text < length t

item-over : {B : Type 0} (k : ℕ → Reader (List ℕ) B) (n : ℕ) (t : List ℕ) → max_text < n → begins_without_digit t ≡ true → (item 0 max_text >>= k) (write_item n ++ t) ≡ none
unfolding item numeral write_item ascii byte ensure ◌>>=◌ ◌>>◌ and_then
item-over k n t h d = rw (decimal-complete n t d, lt-leb n max_text h) (go (leb 0 n))
  where
    go : (b : Bool) → and_then (and_then (ensure (b && false) t) (λ u. pure n)) k ≡ none
    go true = refl
    go false = refl

length_over : (x : Option Text) (t : List ℕ) → Over x → begins_without_digit t ≡ true → text_length (write_length x ++ t) ≡ none
unfolding text_length write_length either or_else
length_over none t h d = absurd h
length_over (some x) t h d = rw (dash-none {B = Option ℕ} (pure none) (length x) t) (item-over (λ n. pure (some n)) (length x) t h d)

length-read : (x : Option Text) (t : List ℕ) → (Over x → ⊥) → begins_without_digit t ≡ true → text_length (write_length x ++ t) ≡ some (map length x, t)
unfolding text_length write_length either or_else ascii byte ◌>>=◌ ◌>>◌ and_then pure
length-read none t h d = refl
length-read (some x) t h d =
    let short : length x ≤ max_text = by-test (leb (length x) max_text) (λ e. leb-true (length x) max_text e) (λ e. absurd (h (leb-false (length x) max_text e))) in
    rw (dash-none {B = Option ℕ} (pure none) (length x) t, item-complete 0 max_text (length x) t (omega arith, short) d)

head-parts : (name message : Option Text) (t : List ℕ)
    → write_rule_head (Entries.rule name message) ++ t ≡ 82 ∷ (write_length name ++ (write_length message ++ (44 ∷ (write_text name ++ (write_text message ++ (write_end ++ t))))))
unfolding write_rule_head ascii
head-parts name message t = simp append_assoc

head-none : (name message : Option Text) (t : List ℕ) → text_length (write_length name ++ (write_length message ++ (44 ∷ (write_text name ++ (write_text message ++ (write_end ++ t)))))) ≡ none
    → rule_head (write_rule_head (Entries.rule name message) ++ t) ≡ none
unfolding rule_head either or_else byte ◌>>=◌ ◌>>◌ and_then
head-none name message t e = rw (head-parts name message t, e)

head_none_2 : (name message : Option Text) (t : List ℕ) {o : Option ℕ}
    → text_length (write_length name ++ (write_length message ++ (44 ∷ (write_text name ++ (write_text message ++ (write_end ++ t)))))) ≡ some (o, write_length message ++ (44 ∷ (write_text name ++ (write_text message ++ (write_end ++ t)))))
    → text_length (write_length message ++ (44 ∷ (write_text name ++ (write_text message ++ (write_end ++ t))))) ≡ none
    → rule_head (write_rule_head (Entries.rule name message) ++ t) ≡ none
unfolding rule_head either or_else byte ◌>>=◌ ◌>>◌ and_then
head_none_2 name message t e f = rw (head-parts name message t, e, f)

head-over : (name message : Option Text) (t : List ℕ) → Over name ⊎ Over message → rule_head (write_rule_head (Entries.rule name message) ++ t) ≡ none
head-over name message t (inl h) = head-none name message t (length_over name _ h (length-begins message _))
head-over name message t (inr h) = by_over name
    (λ o. head-none name message t (length_over name _ o (length-begins message _)))
    (λ o. head_none_2 name message t (length-read name _ o (length-begins message _)) (length_over message _ h (comma-begins _)))
  where
    by_over : {C : Type 0} (x : Option Text) → (Over x → C) → ((Over x → ⊥) → C) → C
    by_over none f g = g (λ o. o)
    by_over (some x) f g = by-test (leb (length x) max_text) (λ e. g (λ o. absurd (let k = leb-true (length x) max_text e in omega arith))) (λ e. f (leb-false (length x) max_text e))

decode-none : (s : List ℕ) → rule_head s ≡ none → decode_rule s ≡ none
unfolding decode_rule whole any_rule entry entered announce ensure ◌>>=◌ ◌>>◌ and_then
decode-none s e = go (leb (length s) max_sheet_bytes) refl
  where
    go : (b : Bool) → leb (length s) max_sheet_bytes ≡ b → decode_rule s ≡ none
    go true h = rw (h, e)
    go false h = rw h

pub over-limit : (name message : Option Text) (c : Condition) → Over name ⊎ Over message → decode_rule (write_rule (rule name message c)) ≡ none
unfolding write_rule
over-limit name message c h = decode-none (write_rule_head (Entries.rule name message) ++ write_condition c) (head-over name message (write_condition c) h)
