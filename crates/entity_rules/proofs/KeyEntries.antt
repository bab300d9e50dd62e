-- The call that `rulecheck_path` makes.
use Prim.Native.Nat.{ℕ, ◌-◌, min}
use native.Mathlib.Omega.{arith}
use mathlib.Core.List.{List, []}
use mathlib.Core.Path.{◌≡◌, refl, ap, ◌∙◌}
use lib.ListN.{length, take, length-take, replicate, length-replicate}
use Rattle.reference.specs.Setting.{Reader}
use Rattle.validation.specs.Result.{Answer, Numbers, numbers_of, path_after, scratch_words}
use Rattle.validation.specs.KeyPath.{KeyHeard, refusal, acceptance, finding, key_defect, key_result_of, key_call_of, MeetsKey}
use Rattle.validation.proofs.KeyLaws.{key-heard, key_capped, key-capped-same}
use Rattle.single_check.specs.Outcomes.{numbers_by}
use Rattle.single_check.specs.declared.outcome.Outcome.{Outcome}
use Rattle.key_path.specs.Keys.{key_run_of}
use Rattle.entity_rules.specs.Entry.{result_bytes, path_lent, result_after, EntryAnswered, Written}
use Rattle.entity_rules.specs.KeyEntry.{key_entry_call, key_entry_answer}
use Rattle.entity_rules.proofs.Entries.{lent-within}

no-path : {reader : Reader} {a : Answer} → KeyHeard reader a → [] ≡ path_after a []
unfolding path_after key_defect
no-path (refusal e) = refl
no-path acceptance = refl
no-path (finding d h) = refl

module _ (semantics reader : ℕ) (path schema result : List ℕ) where
  -- a call with capped settings and a part of a fresh scratch is the entry's call
  made : (s k lent : ℕ) (r : Outcome) (last : List ℕ)
      → s ≡ min semantics 9
      → k ≡ min reader 9
      → lent ≡ path_lent result_bytes scratch_words (length result)
      → key_result_of (key_call_of (key_run_of s k path schema (take (lent - 0) (replicate scratch_words 0)) r last))
      ≡ key_entry_answer semantics reader path schema (length result)
  unfolding key_call_of key_entry_answer key_entry_call key_capped
  made s k lent r last es ek el =
      let part : length (take (lent - 0) (replicate {A = ℕ} scratch_words 0)) ≡ lent =
      simp (length-take, length-replicate) (omega (arith, lent-within result_bytes scratch_words (length result)))
      in
      rw (part, es, ek, el) (key-capped-same 9 (key_entry_call semantics reader path schema (length result)) (omega arith))

  pub key-answered : {s k lent : ℕ} (r : Outcome) (last : List ℕ) {result_now : List ℕ}
      → s ≡ min semantics 9
      → k ≡ min reader 9
      → lent ≡ path_lent result_bytes scratch_words (length result)
      → MeetsKey (key_run_of s k path schema (take (lent - 0) (replicate scratch_words 0)) r last)
      → Written r result result_now
      → EntryAnswered (key_entry_answer semantics reader path schema (length result)) [] [] result result_now r.number
  unfolding key_entry_answer
  key-answered {s} {k} {lent} r last es ek el m w =
      let same = made s k lent r last es ek el in
      let answer = key_entry_answer semantics reader path schema (length result) in
      let numbers : numbers_by r ≡ numbers_of answer = m.result ∙ ap numbers_of same in
      record {
        number = ap (λ (n : Numbers). n.number) numbers;
        path = no-path (key-heard (key_entry_call semantics reader path schema (length result)));
        result = w.stands ∙ ap (λ (n : Numbers). result_after n result) numbers;
        small = rw numbers at w.small;
      }
