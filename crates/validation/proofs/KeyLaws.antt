-- The laws that the demands on keys cite.
use Rattle.std.specs.Prelude.{ℕ, ◌<◌, min, true, false, ◌&&◌, List, ◌≡◌, refl, leb}
use Rattle.std.proofs.Common.{arith, sym, ◌∙◌, leb-true, leb-false}
use Rattle.std.proofs.Math.Bool.{and-false}
use Rattle.std.proofs.Math.Option.{Option, none, some}
use Rattle.text.specs.Utf8.{between}
use Rattle.text.specs.CaseLaws.{by-test}
use Rattle.definition.specs.Tree.{Schema}
use Rattle.definition.specs.Decode.{decode_schema}
use Rattle.reference.specs.Setting.{Reader, one_of}
use Rattle.reference.specs.Walk as Walk
use Rattle.reference.specs.Walk.{Reached, unknown, known, WalkDetail}
use Rattle.reference.proofs.DetailLaws.{Has, key-detail}
use Rattle.call.specs.Call.{tried}
use Rattle.validation.specs.Result.{Answer, refusal_numbers, Heard, first_refusal, refused_or}
use Rattle.validation.specs.Result as Result
use Rattle.validation.proofs.RefusalLaws.{every, of-first, of-listed, outside}
use Rattle.validation.specs.KeyPath.{KeyCall, key_numbers, KeyHeard, refusal, acceptance, finding, reader_of, key_early, key_refusals, KeyUnrefused, key_defect, key_answer, key_checked, key_judged, key_result_of}

walk-heard : (reader : Reader) (x : Reached) → Has (WalkDetail reader) x → KeyHeard reader (key_answer x)
unfolding key_answer
walk-heard reader (Walk.refused d at left) h = finding d h
walk-heard reader unknown h = acceptance
walk-heard reader (known f) h = acceptance

judged-heard : (semantics reader : ℕ) (path : List ℕ) (s : Option Schema) → KeyHeard (reader_of reader) (key_judged semantics reader path s)
unfolding key_judged key_checked key_numbers one_of
judged-heard semantics reader path none = refusal {n = 4} refl
judged-heard semantics reader path (some s) = walk-heard (reader_of reader) _ (key-detail (reader_of reader) _ s path)

or-heard : {reader : Reader} {a : Answer} (o : Option ℕ)
    → ((n : ℕ) → o ≡ some n → one_of n key_numbers ≡ true)
    → KeyHeard reader a
    → KeyHeard reader (refused_or o a)
unfolding refused_or
or-heard none listed h = h
or-heard (some n) listed h = refusal (listed n refl)

-- the refusals are tried in the order of the list
pub key-tries : (c : KeyCall) → tried (key_refusals c) ≡ key_numbers
unfolding key_refusals key_early key_numbers tried
key-tries c = refl

key-listed : (c : KeyCall) (n : ℕ) → first_refusal (key_refusals c) ≡ some n → one_of n key_numbers ≡ true
unfolding key_refusals key_early key_numbers one_of every
key-listed c n e = of-first (λ m. one_of m key_numbers) n (key_refusals c) refl e

pub key-heard : (c : KeyCall) → KeyHeard (reader_of c.reader) (key_result_of c)
unfolding key_result_of
key-heard c =
    or-heard (first_refusal (key_refusals c)) (key-listed c)
    (judged-heard c.semantics c.reader c.path (decode_schema c.schema))

-- all of them may be heard of a rule or template too
pub heard-key : {reader : Reader} {a : Answer} → KeyHeard reader a → Heard a
unfolding key_numbers refusal_numbers one_of every key_defect
heard-key (refusal {n = n} e) =
    Result.refusal (record { listed = of-listed (λ m. one_of m refusal_numbers) n key_numbers refl e })
heard-key acceptance = Result.acceptance
heard-key (finding d h) = Result.finding {d = key_defect d} (omega arith)

-- where none of the refusals is due, the schema decides
pub answers-by-walk : (c : KeyCall) (s : Schema)
    → decode_schema c.schema ≡ some s
    → KeyUnrefused c
    → key_result_of c ≡ key_checked c.semantics c.reader c.path s
unfolding key_result_of refused_or key_judged
answers-by-walk c s e n = rw (n, e)

-- Semantics or a reader beyond its range is refusal 1, whatever else the call holds.

settings-refused : (c : KeyCall) → (between 1 4 c.semantics && between 1 2 c.reader) ≡ false → key_result_of c ≡ Result.refused 1
unfolding key_result_of key_refusals key_early first_refusal refused_or
settings-refused c e = rw e

pub key-semantics-refused : (c : KeyCall) → 4 < c.semantics → key_result_of c ≡ Result.refused 1
key-semantics-refused c more = settings-refused c (rw (outside 4 c.semantics more))

pub key-reader-refused : (c : KeyCall) → 2 < c.reader → key_result_of c ≡ Result.refused 1
key-reader-refused c more = settings-refused c (rw (outside 2 c.reader more, and-false))

-- the call with settings that are at most `most`
unfoldable pub key_capped : (most : ℕ) → KeyCall → KeyCall
key_capped most c =
    record {
      semantics = min c.semantics most;
      reader = min c.reader most;
      path = c.path;
      schema = c.schema;
      scratch_length = c.scratch_length;
    }

-- so a number beyond both ranges may stand for every larger one
pub key-capped-same : (most : ℕ) (c : KeyCall) → 4 < most → key_result_of (key_capped most c) ≡ key_result_of c
unfolding key_capped
key-capped-same most c beyond =
    by-test (leb c.semantics most)
    (λ k.
    let semantics-low = leb-true c.semantics most k in
    let semantics-is : min c.semantics most ≡ c.semantics = omega arith in
    by-test (leb c.reader most)
    (λ s.
    let reader-low = leb-true c.reader most s in
    let reader-is : min c.reader most ≡ c.reader = omega arith in
    rw (semantics-is, reader-is))
    (λ s.
    let reader-high = leb-false c.reader most s in
    key-reader-refused (key_capped most c) (omega arith) ∙ sym (key-reader-refused c (omega arith))))
    (λ k.
    let semantics-high = leb-false c.semantics most k in
    key-semantics-refused (key_capped most c) (omega arith) ∙ sym (key-semantics-refused c (omega arith)))
