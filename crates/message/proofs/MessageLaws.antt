-- The message of a defect that a schema finds is a sentence of its detail.
use Rattle.std.specs.Prelude.{ℕ, List, [], ◌++◌, ◌≡◌}
use Rattle.std.proofs.Math.Option.{Option, none, some, get_or}
use Rattle.std.proofs.Math.Path.{refl}
use Rattle.text.specs.Ascii.{ascii}
use Rattle.text.specs.CaseLaws.{zero-not-one}
use Rattle.definition.specs.Tree.{Text, Schema, Value, Rule}
use Rattle.reference.specs.Setting.{kernel, Setting}
use Rattle.reference.specs.Walk.{Reached}
use Rattle.reference.specs.Reference.{Environment, reference, collection}
use Rattle.validation.specs.Check.{Question, settled, readable, walkable, Check}
use Rattle.validation.specs.Judge.{Failure, CheckOutcome, verdict, environment, answer, answer_in, outcome, fails_at}
use Rattle.message.specs.Tell.{tell_reference, tell_collection}
use Rattle.message.proofs.TellLaws.{ReferenceSays, CollectionSays, Told, nothing_unknown, nothing_known, something, reference-told, text_of, collection-told}
use Rattle.message.specs.Message.{asked_sentence, sentence_under, message_of}

-- what is said of a check that is refused, by its question
abbrev pub Agrees : (kind : ℕ) → Question → (detail : ℕ) → Text → Type 0
Agrees kind (settled o) d text = Unit {0}
Agrees kind (readable t) d text = (left : List Text) × ReferenceSays kind (ascii "$" ++ t) d left text
Agrees kind (walkable v) d text = (left : List Text) × CollectionSays (text_of v) d left text

told-agrees : {Says : ℕ → List Text → Text → Type 0} {r : Reached} {x : Option Text} (why : Failure)
    → Told Says r x
    → verdict r ≡ some why
    → (left : List Text) × Says why.detail left (get_or x [])
unfolding verdict
told-agrees why nothing_unknown e = zero-not-one cc
told-agrees why nothing_known e = zero-not-one cc
told-agrees why (something {d = d} {left = left} h) e = let same : d ≡ why.detail = cc in (left, rw (← same) h)

module _ (kind : ℕ) (setting : Setting) (t : Schema) (r : Rule) (c : Check) (why : Failure) where
  asked-agrees : (q : Question) (x : Option Environment)
      → setting.reader ≡ kernel
      → c.question ≡ q
      → answer_in setting t q x ≡ some why
      → (env : Environment) → x ≡ some env
      → Agrees kind q why.detail (asked_sentence kind setting t r c why.detail q env)
  unfolding answer_in answer asked_sentence
  asked-agrees q none k same e env is = zero-not-one cc
  asked-agrees (settled o) (some env₀) k same e env is = tt
  asked-agrees (readable x) (some env₀) k same e env is =
      let here : env₀ ≡ env = cc in
      told-agrees why (reference-told kind setting t env x k) (rw here at e)
  asked-agrees (walkable v) (some env₀) k same e env is =
      let here : env₀ ≡ env = cc in
      told-agrees why (collection-told t env v) (rw here at e)

  -- wherever the binders walk collections, which they do at the first check that fails (`sure-checks`)
  pub message-agrees : (env : Environment)
      → setting.reader ≡ kernel
      → environment t c.binders ≡ some env
      → outcome setting t c ≡ some why
      → (passed : ℕ) → Agrees kind c.question why.detail (message_of kind setting t r (fails_at passed c why))
  unfolding message_of sentence_under outcome
  message-agrees env k is e passed = rw is (asked-agrees c.question (environment t c.binders) k refl e env is)
