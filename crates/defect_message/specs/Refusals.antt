-- Why a segment is refused, laid into a buffer.
use Rattle.std.specs.Prelude.{ℕ, List, ◌++◌, ◌≡◌, drop}
use Rattle.text.specs.Ascii.{ascii}
use Rattle.buffer.specs.Laid.{Laid}
use Rattle.definition.specs.Tree.{Text, Field}
use Rattle.reference.specs.Path.{split}
use Rattle.schema.specs.Slot.{SlotHolds, PartsOf}
use Rattle.schema.specs.declared.index.IndexedField.{IndexedField}
use Rattle.walk.specs.Answers.{reference_detail}
use Rattle.walk.specs.declared.answer.ReferenceFault.{ReferenceFault}
use Rattle.message.specs.Words.{path_text}
use Rattle.message.specs.Tell.{step_sentence}
use Rattle.defect_walk.specs.Tellings.{Walked}

-- by the texts that it is made of, of any field with those parts
pub record SegmentLaid (sheet : List ℕ) (x : IndexedField) (fault : ReferenceFault) (walked s here rest : Text) (before after : List ℕ) (o next : ℕ) : Type 0 where
  pub lays : (words : List ℕ) (path : List Text) (f : Field) → PartsOf sheet words f x → here ≡ walked ++ (ascii "." ++ s) → rest ≡ path_text path
      → Laid before after o (step_sentence (reference_detail fault) walked s path f) next

-- by the places in the text
pub record RefusalLaid (sheet words : List ℕ) (text : Text) (fault : ReferenceFault) (from at k : ℕ) (before after : List ℕ) (o next : ℕ) : Type 0 where
  pub lays : (walked : Text) (f : Field) → Walked text from at walked → SlotHolds sheet words k f
      → Laid before after o (step_sentence (reference_detail fault) walked (split (drop at text)).first (split (drop at text)).others f) next
