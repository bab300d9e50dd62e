-- Why a segment is refused: each sentence as a law, by the texts that it is made of and by their places.
use Rattle.std.specs.Prelude.{Option as Optional, Some, None}
use Prim.Native.Nat.{ℕ, zero, suc, ◌+◌, ◌-◌, ◌≤◌, ◌<◌}
use native.Mathlib.Nat.{zero-add, suc-add}
use native.Mathlib.Omega.{arith}
use mathlib.Core.Bool.{Bool, true, false}
use mathlib.Core.List.{List, [], ◌∷◌, ◌++◌, append-nil, append_assoc}
use mathlib.Core.Option.{Option, none, some}
use mathlib.Core.Path.{◌≡◌, refl, ap, sym, subst, ◌∙◌}
use lib.ListN.{length, take, drop, length-append, length-take, length-drop}
use lib.Seq.{take_all}
use Rattle.text.specs.Ascii.{ascii}
use Rattle.text.specs.Order.{same_bytes}
use Rattle.text.specs.Parts.{part_of, optional_of}
use Rattle.text.specs.declared.part.Part.{Part}
use Rattle.buffer.specs.Laid.{most_place, Laid}
use Rattle.buffer.specs.LaidLaws.{laid_then}
use Rattle.definition.specs.Tree.{Text, Field, field}
use Rattle.reference.specs.Path.{split}
use Rattle.reference.specs.Walk.{is_tag, content_key}
use Rattle.schema.specs.Slot.{SlotHolds, PartsOf, IndexedIs}
use Rattle.schema.specs.declared.index.IndexedField.{IndexedField}
use Rattle.walk.specs.Dots.{Ends}
use Rattle.walk.specs.DotLaws.{rest-whole}
use Rattle.walk.specs.Answers.{reference_detail}
use Rattle.walk.specs.declared.answer.ReferenceFault.{ReferenceFault}
use Rattle.walk.specs.declared.answer.ReferenceFault.TheVariants.{EmptyPath, UnknownRoot, UnknownProperty, ArrayMember, MapMember, AfterCount, AfterTag, UnionMember, NoCount, NoMember, RootNotAvailable, NoSuchReference, TextCount}
use Rattle.sheet.specs.FieldKinds.{kind_name}
use Rattle.message.specs.Words.{in_quotes, dotted_tail, path_text, kind_of, text_in, tag_of}
use Rattle.message.specs.Tell.{carries, no_union_member, no_count, no_member, step_sentence}
use Rattle.defect_walk.specs.Tellings.{Walked}
use Rattle.defect_message.specs.Refusals.{SegmentLaid, RefusalLaid}
use Rattle.defect_walk.proofs.TellingLaws.{segments-joined}

-- What a union carries

module _ {b a : List ℕ} {o n : ℕ} (tag : Text) {same : Bool} where
  pub carried-content : same ≡ same_bytes tag (ascii "value") → same ≡ true
      → Laid b a o (in_quotes tag ++ (ascii " and " ++ (in_quotes (ascii "content") ++ []))) n
      → Laid b a o (carries (some tag)) n
  unfolding carries text_in content_key is_tag
  carried-content e h u = let q : same_bytes tag (ascii "value") ≡ true = sym e ∙ h in rw (q, sym (append-nil (in_quotes (ascii "content")))) u

  pub carried-value : same ≡ same_bytes tag (ascii "value") → same ≡ false
      → Laid b a o (in_quotes tag ++ (ascii " and " ++ (in_quotes (ascii "value") ++ []))) n
      → Laid b a o (carries (some tag)) n
  unfolding carries text_in content_key is_tag
  carried-value e h u = let q : same_bytes tag (ascii "value") ≡ false = sym e ∙ h in rw (q, sym (append-nil (in_quotes (ascii "value")))) u

pub carried-untagged : {b a : List ℕ} {o n : ℕ} → Laid b a o (in_quotes [] ++ (ascii " and " ++ (in_quotes (ascii "value") ++ []))) n → Laid b a o (carries none) n
unfolding carries text_in content_key is_tag
carried-untagged u = rw (sym (append-nil (in_quotes (ascii "value")))) u

module _ (sheet : List ℕ) (walked s : Text) {b c a : List ℕ} {o m n : ℕ} (room : length b ≤ most_place) where
  union-laid : (t : Option Text) → Laid b c o (in_quotes walked ++ (ascii " is a union field, so " ++ (in_quotes s ++ ascii " resolves to nothing; it carries "))) m → Laid c a m (carries t) n → Laid b a o (no_union_member walked s t) n
  unfolding no_union_member
  union-laid t u v =
      subst (λ (l : Text). Laid b a o l n)
      (append_assoc (in_quotes walked) (ascii " is a union field, so " ++ (in_quotes s ++ ascii " resolves to nothing; it carries ")) (carries t)
      ∙ ap (λ (l : Text). in_quotes walked ++ l)
      (append_assoc (ascii " is a union field, so ") (in_quotes s ++ ascii " resolves to nothing; it carries ") (carries t)
      ∙ ap (λ (l : Text). ascii " is a union field, so " ++ l) (append_assoc (in_quotes s) (ascii " resolves to nothing; it carries ") (carries t))))
      (laid_then room u v)

  pub union-tagged : {tag : Optional Part} {p : Part} {name : Text} → tag ≡ Some p → Laid b c o (in_quotes walked ++ (ascii " is a union field, so " ++ (in_quotes s ++ ascii " resolves to nothing; it carries "))) m → name ≡ part_of sheet p → Laid c a m (carries (some name)) n
      → Laid b a o (no_union_member walked s (optional_of sheet tag)) n
  unfolding optional_of
  union-tagged {p = p} e u same v =
      rw e (union-laid (some (part_of sheet p)) u (subst (λ (t : Text). Laid c a m (carries (some t)) n) same v))

  pub union-untagged : {tag : Optional Part} → tag ≡ None → Laid b c o (in_quotes walked ++ (ascii " is a union field, so " ++ (in_quotes s ++ ascii " resolves to nothing; it carries "))) m → Laid c a m (in_quotes [] ++ (ascii " and " ++ (in_quotes (ascii "value") ++ []))) n
      → Laid b a o (no_union_member walked s (optional_of sheet tag)) n
  unfolding optional_of
  union-untagged e u v = rw e (union-laid none u (carried-untagged v))

-- One sentence for each fault

module _ (sheet : List ℕ) (x : IndexedField) (words : List ℕ) where
  pub tag_is : (f : Field) → PartsOf sheet words f x → optional_of sheet x.tag ≡ tag_of f
  unfolding tag_of
  tag_is (field e kind is_open tag items members) p = p.tagged

  pub kind-is : (f : Field) → PartsOf sheet words f x → kind_name x.kind ≡ kind_of f
  unfolding kind_of
  kind-is (field e kind is_open tag items members) p = ap kind_name p.kinded

module _ {sheet : List ℕ} {x : IndexedField} {fault : ReferenceFault} {walked s here rest : Text} {b a : List ℕ} {o n : ℕ} where
  pub says-empty : fault ≡ EmptyPath → Laid b a o (ascii "the path is empty") n → SegmentLaid sheet x fault walked s here rest b a o n
  unfolding reference_detail step_sentence
  says-empty e u = record { lays = λ words path f p h r. rw e u }

  pub says-property : fault ≡ UnknownProperty → Laid b a o (in_quotes walked ++ (ascii " declares no property " ++ (in_quotes s ++ []))) n → SegmentLaid sheet x fault walked s here rest b a o n
  unfolding reference_detail step_sentence
  says-property e u = record { lays = λ words path f p h r. rw (e, sym (append-nil (in_quotes s))) u }

  pub says-array : fault ≡ ArrayMember
      → Laid b a o (in_quotes walked ++ (ascii " is an array field, so " ++ (in_quotes s ++ ascii " resolves to nothing; an array addresses `count` or an element index"))) n → SegmentLaid sheet x fault walked s here rest b a o n
  unfolding reference_detail step_sentence
  says-array e u = record { lays = λ words path f p h r. rw e u }

  pub says_map : fault ≡ MapMember
      → Laid b a o (in_quotes walked ++ (ascii " is a map field, so " ++ (in_quotes s ++ ascii " resolves to nothing; a map's keys are not addressable and only `count` reads it"))) n → SegmentLaid sheet x fault walked s here rest b a o n
  unfolding reference_detail step_sentence
  says_map e u = record { lays = λ words path f p h r. rw e u }

  pub says-after-count : fault ≡ AfterCount → Laid b a o (in_quotes here ++ (ascii " is a count, so " ++ (in_quotes rest ++ ascii " resolves to nothing"))) n → SegmentLaid sheet x fault walked s here rest b a o n
  unfolding reference_detail step_sentence
  says-after-count e u = record {
    lays = λ words path f p h r.
        rw e (subst (λ (q : Text). Laid b a o (in_quotes (walked ++ (ascii "." ++ s)) ++ (ascii " is a count, so " ++ (in_quotes q ++ ascii " resolves to nothing"))) n) r
        (subst (λ (q : Text). Laid b a o (in_quotes q ++ (ascii " is a count, so " ++ (in_quotes rest ++ ascii " resolves to nothing"))) n) h u));
  }

  pub says-after-tag : fault ≡ AfterTag → Laid b a o (in_quotes here ++ (ascii " is the union's tag, so " ++ (in_quotes rest ++ ascii " resolves to nothing"))) n → SegmentLaid sheet x fault walked s here rest b a o n
  unfolding reference_detail step_sentence
  says-after-tag e u = record {
    lays = λ words path f p h r.
        rw e (subst (λ (q : Text). Laid b a o (in_quotes (walked ++ (ascii "." ++ s)) ++ (ascii " is the union's tag, so " ++ (in_quotes q ++ ascii " resolves to nothing"))) n) r
        (subst (λ (q : Text). Laid b a o (in_quotes q ++ (ascii " is the union's tag, so " ++ (in_quotes rest ++ ascii " resolves to nothing"))) n) h u));
  }

  pub says-union : fault ≡ UnionMember → Laid b a o (no_union_member walked s (optional_of sheet x.tag)) n → SegmentLaid sheet x fault walked s here rest b a o n
  unfolding reference_detail step_sentence
  says-union e u = record {
    lays = λ words path f p h r. rw e (subst (λ (t : Option Text). Laid b a o (no_union_member walked s t) n) (tag_is sheet x words f p) u);
  }

  pub says-no-count : fault ≡ NoCount → Laid b a o (no_count walked (kind_name x.kind)) n → SegmentLaid sheet x fault walked s here rest b a o n
  unfolding reference_detail step_sentence
  says-no-count e u = record {
    lays = λ words path f p h r. rw e (subst (λ (k : Text). Laid b a o (no_count walked k) n) (kind-is sheet x words f p) u);
  }

  -- the sentence of every other fault

  pub says-no-member : fault ≡ NoMember → Laid b a o (no_member walked (kind_name x.kind) s) n → SegmentLaid sheet x fault walked s here rest b a o n
  unfolding reference_detail step_sentence
  says-no-member e u = record { lays = λ words path f p h r. rw e (subst (λ (k : Text). Laid b a o (no_member walked k s) n) (kind-is sheet x words f p) u) }

  pub says-root : fault ≡ UnknownRoot → Laid b a o (no_member walked (kind_name x.kind) s) n → SegmentLaid sheet x fault walked s here rest b a o n
  unfolding reference_detail step_sentence
  says-root e u = record { lays = λ words path f p h r. rw e (subst (λ (k : Text). Laid b a o (no_member walked k s) n) (kind-is sheet x words f p) u) }

  pub says-unavailable : fault ≡ RootNotAvailable → Laid b a o (no_member walked (kind_name x.kind) s) n → SegmentLaid sheet x fault walked s here rest b a o n
  unfolding reference_detail step_sentence
  says-unavailable e u = record { lays = λ words path f p h r. rw e (subst (λ (k : Text). Laid b a o (no_member walked k s) n) (kind-is sheet x words f p) u) }

  pub says-no-reference : fault ≡ NoSuchReference → Laid b a o (no_member walked (kind_name x.kind) s) n → SegmentLaid sheet x fault walked s here rest b a o n
  unfolding reference_detail step_sentence
  says-no-reference e u = record { lays = λ words path f p h r. rw e (subst (λ (k : Text). Laid b a o (no_member walked k s) n) (kind-is sheet x words f p) u) }

  pub says-text-count : fault ≡ TextCount → Laid b a o (no_member walked (kind_name x.kind) s) n → SegmentLaid sheet x fault walked s here rest b a o n
  unfolding reference_detail step_sentence
  says-text-count e u = record { lays = λ words path f p h r. rw e (subst (λ (k : Text). Laid b a o (no_member walked k s) n) (kind-is sheet x words f p) u) }

-- What follows the first segment

module _ (path : Text) (n : ℕ) (ends : Ends path n) where
  pub rest-joined : n < length path → take (length path - (n + 1)) (drop (n + 1) path) ≡ path_text (split path).others
  rest-joined more = rest-whole path n ∙ sym (ap path_text (ends.more more) ∙ segments-joined (drop (n + 1) path))

  pub rest-none : length path ≤ n → take (length path - n) (drop n path) ≡ path_text (split path).others
  unfolding path_text
  rest-none last =
      let within = ends.within in
      let z : length path - n ≡ 0 = omega arith in
      let all : n ≡ length path = omega arith in
      ap (λ (k : ℕ). take k (drop n path)) z ∙ sym (ap path_text (ends.last all))

-- Parts of a text

take_behind : (xs ys : Text) (n : ℕ) → take (length xs + n) (xs ++ ys) ≡ xs ++ take n ys
take_behind [] ys n = rw (zero-add n)
take_behind (x ∷ xs) ys n = rw (suc-add (length xs) n) (ap (λ (l : Text). x ∷ l) (take_behind xs ys n))

pub from-whole : (text : Text) (at : ℕ) → take (length text - at) (drop at text) ≡ drop at text
from-whole text at = take_all (length text - at) (drop at text) (omega (arith, length-drop at text))

module _ (text : Text) (from at : ℕ) (walked : Text) (w : Walked text from at walked) where
  walked-part : take (at - 1 - from) (drop from text) ≡ walked
  walked-part =
      let size : at - 1 - from ≡ length walked + 0 = omega (arith, w.size) in
      ap (λ (k : ℕ). take k (drop from text)) size
      ∙ ap (take (length walked + 0)) w.parts
      ∙ take_behind walked (ascii "." ++ drop at text) 0
      ∙ append-nil walked

  here-part : (n : ℕ) → take (at + n - from) (drop from text) ≡ walked ++ (ascii "." ++ take n (drop at text))
  unfolding ascii
  here-part n =
      let size : at + n - from ≡ length walked + suc n = omega (arith, w.size) in
      ap (λ (k : ℕ). take k (drop from text)) size
      ∙ ap (take (length walked + suc n)) w.parts
      ∙ take_behind walked (46 ∷ drop at text) (suc n)

module _ {sheet words : List ℕ} {text : Text} {fault : ReferenceFault} {from at k : ℕ} {b a : List ℕ} {o n : ℕ} where
  pub refusal-none : at ≤ from → RefusalLaid sheet words text fault from at k b a o n
  refusal-none h = record { lays = λ walked f w held. absurd (omega (arith, w.size)) }

  pub refusal-past : length text < at → RefusalLaid sheet words text fault from at k b a o n
  refusal-past h = record { lays = λ walked f w held. absurd (omega (arith, w.within)) }

  pub refusal-laid : {x : IndexedField} {end : ℕ} {path rest : Text}
      → IndexedIs sheet words k x
      → path ≡ take (length text - at) (drop at text)
      → Ends path end
      → rest ≡ path_text (split path).others
      → SegmentLaid sheet x fault (take (at - 1 - from) (drop from text)) (take end path) (take (at + end - from) (drop from text)) rest b a o n
      → RefusalLaid sheet words text fault from at k b a o n
  refusal-laid {x} {end} {path} {rest} is p ends r u = record {
    lays = λ walked f w held.
        let q : path ≡ drop at text = p ∙ from-whole text at in
        let there = walked-part text from at walked w in
        let here = here-part text from at walked w end ∙ ap (λ (l : Text). walked ++ (ascii "." ++ take end l)) (sym q) in
        let v : SegmentLaid sheet x fault walked (take end path) (take (at + end - from) (drop from text)) rest b a o n =
        subst (λ (t : Text). SegmentLaid sheet x fault t (take end path) (take (at + end - from) (drop from text)) rest b a o n) there u in
        subst (λ (t : Text). Laid b a o (step_sentence (reference_detail fault) walked (split t).first (split t).others f) n) q
        (subst (λ (t : Text). Laid b a o (step_sentence (reference_detail fault) walked t (split path).others f) n) (sym ends.first)
        (v.lays words (split path).others f (is f held) here r));
  }

pub end-placed : (text : Text) (at end : ℕ) → Ends (take (length text - at) (drop at text)) end → end ≤ length text - at
end-placed text at end ends = omega (arith, ends.within, ap length (from-whole text at) ∙ length-drop at text)
