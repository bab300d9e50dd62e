-- What is promised of a call that checks one path of `$fields`, for every run of it: the three demands (specs/Demands.antt), each a statement with
-- its proof. `MeetsKey r` is what the call ensures, with nothing required.
use Rattle.std.specs.Prelude.{ℕ, ◌≤◌, false, List, ◌≡◌, refl, leb, length}
use Rattle.std.proofs.Common.{arith, ap, sym, ◌∙◌}
use Rattle.std.proofs.Math.Option.{some}
use Rattle.definition.specs.Tree.{Schema}
use Rattle.definition.specs.Decode.{decode_schema}
use Rattle.reference.specs.Walk.{Reached}
use Rattle.widening.specs.Widening.{Level, marks}
use Rattle.widening.proofs.WalkLaws.{Fares, still_refused, now_unknown, now_known, still_unknown, still_known, Details}
use Rattle.widening.proofs.ReferenceLaws.{GrownSchema, key-fares}
use Rattle.validation.specs.Check.{IsDefect}
use Rattle.validation.specs.Result.{Answer, accepted, defect, IsRefusal, is_of_sheets, scratch_words, Numbers, numbers_of}
use Rattle.validation.specs.Growth.{Widens}
use Rattle.validation.proofs.DemandLaws.{distinct-names, details-equal}
use Rattle.validation.proofs.Demands.{spares-scratch}
use Rattle.validation.specs.KeyPath.{KeyHeard, reader_of, key_early, key_refusals, KeyUnrefused, key_defect, key_answer, key_checked, key_result_of, KeyRun, key_call_of, MeetsKey}
use Rattle.validation.proofs.KeyLaws.{key-heard, heard-key, answers-by-walk}

-- Demand 1: whatever is handed over, the caller hears acceptance, 18 or one of refusals 1 to 4; and what the scratch held before never matters.

pub record KeyDemand1 (r : KeyRun) : Type 0 where
  pub hears : (a : Answer) × KeyHeard (reader_of r.reader) a × (r.result ≡ numbers_of a)
  -- all refusals but 4 come before the schema is read
  pub spares : IsRefusal r.result.number → is_of_sheets r.result.number ≡ false → r.scratch ≡ r.scratch_before

pub key-demand-1 : (r : KeyRun) → MeetsKey r → KeyDemand1 r
unfolding key_call_of
key-demand-1 r m =
    record {
      hears = (key_result_of (key_call_of r), key-heard (key_call_of r), m.result);
      spares = λ l h. spares-scratch (heard-key (key-heard (key_call_of r))) m.scratch (rw m.result at l) (rw m.result at h);
    }

-- two runs that differ at most in the scratch, where both or neither are long enough
pub record KeySameButScratch (r r' : KeyRun) : Type 0 where
  pub semantics : r.semantics ≡ r'.semantics
  pub reader : r.reader ≡ r'.reader
  pub path : r.path ≡ r'.path
  pub schema : r.schema ≡ r'.schema
  pub room : leb scratch_words (length r.scratch_before) ≡ leb scratch_words (length r'.scratch_before)

same_answer : {r r' : KeyRun} → KeySameButScratch r r' → key_result_of (key_call_of r) ≡ key_result_of (key_call_of r')
unfolding key_result_of key_call_of key_refusals key_early
same_answer s = rw (s.semantics, s.reader, s.path, s.schema, s.room)

pub key-demand-1-scratch : (r r' : KeyRun) → KeySameButScratch r r' → MeetsKey r → MeetsKey r' → r.result ≡ r'.result
key-demand-1-scratch r r' s m m' = m.result ∙ ap numbers_of (same_answer s) ∙ sym m'.result

-- Demand 2, its proved half: where none of the refusals is due, the answer is that of the walk (crate `reference`, specs/Reference, `key_walk`).

pub key-demand-2 : (r : KeyRun) (s : Schema)
    → MeetsKey r
    → decode_schema r.schema ≡ some s
    → KeyUnrefused (key_call_of r)
    → r.result ≡ numbers_of (key_checked r.semantics r.reader r.path s)
unfolding key_call_of
key-demand-2 r s m e n = rw (answers-by-walk (key_call_of r) s e n) at m.result

-- Demand 3: one path under one semantics and for one reader, checked against two schemas of which the second is a widening of the first,
-- neither call refused.

-- two runs that differ at most in the schema and the scratch
pub record KeySameButSchema (r r' : KeyRun) : Type 0 where
  pub semantics : r.semantics ≡ r'.semantics
  pub reader : r.reader ≡ r'.reader
  pub path : r.path ≡ r'.path

-- what two callers see of the same defect
pub record KeySameFinding (n n' : Numbers) : Type 0 where
  pub number : n'.number ≡ n.number
  pub family : n'.family ≡ n.family
  pub place : n'.place ≡ n.place
  pub over_place : n'.over_place ≡ n.over_place
  pub path_length : n'.path_length ≡ n.path_length

pub record KeyDemand3 (l : Level) (n n' : Numbers) : Type 0 where
  -- if the first call accepts, so does the second, with the same passed count
  pub accepts : n.number ≡ 0 → (n'.number ≡ 0) × (n'.passed ≡ n.passed)
  -- if the first finds a defect, the passed count of the second is at least that of the first
  pub passes : IsDefect n.number → n.passed ≤ n'.passed
  -- if in this case the two counts are equal, the second finds the same defect
  pub repeats : IsDefect n.number → n'.passed ≡ n.passed → KeySameFinding n n'
  -- and its detail is the same as well where only open marks differ
  pub explains : l ≡ marks → IsDefect n.number → n'.passed ≡ n.passed → n'.detail ≡ n.detail

both-accept : {l : Level} → KeyDemand3 l (numbers_of (accepted 1)) (numbers_of (accepted 1))
unfolding numbers_of
both-accept =
    record {
      accepts = λ e. (refl, refl);
      passes = λ d. omega arith;
      repeats = λ d e. absurd (omega (arith, d.low));
      explains = λ m d e. refl;
    }

now-accepts : {l : Level} (d : ℕ) → KeyDemand3 l (numbers_of (defect (key_defect d))) (numbers_of (accepted 1))
unfolding numbers_of key_defect
now-accepts x =
    record {
      accepts = λ e. absurd (omega arith);
      passes = λ d. omega arith;
      repeats = λ d e. absurd (omega arith);
      explains = λ m d e. absurd (omega arith);
    }

both-fail : {l : Level} (d d' : ℕ) → Details l d d' → KeyDemand3 l (numbers_of (defect (key_defect d))) (numbers_of (defect (key_defect d')))
unfolding numbers_of key_defect
both-fail {l} x x' details =
    record {
      accepts = λ e. absurd (omega arith);
      passes = λ d. omega arith;
      repeats = λ d e. record { number = refl; family = refl; place = refl; over_place = refl; path_length = refl };
      explains = λ m d e. details-equal l m details;
    }

walks-fare : {l : Level} {x x' : Reached} → Fares l x x' → KeyDemand3 l (numbers_of (key_answer x)) (numbers_of (key_answer x'))
unfolding key_answer
walks-fare (still_refused {d = d} {d' = d'} details) = both-fail d d' details
walks-fare (now_unknown {d = d} m) = now-accepts d
walks-fare (now_known {d = d}) = now-accepts d
walks-fare still_unknown = both-accept
walks-fare (still_known g) = both-accept

keys-fare : {l : Level} {s s' : Schema} (semantics reader : ℕ) (path : List ℕ)
    → GrownSchema l s s'
    → KeyDemand3 l (numbers_of (key_checked semantics reader path s)) (numbers_of (key_checked semantics reader path s'))
unfolding key_checked
keys-fare semantics reader path g = walks-fare (key-fares (reader_of reader) _ path g)

pub key-demand-3 : {l : Level} (r r' : KeyRun)
    → MeetsKey r
    → MeetsKey r'
    → KeySameButSchema r r'
    → Widens l r.schema r'.schema
    → KeyUnrefused (key_call_of r)
    → KeyUnrefused (key_call_of r')
    → KeyDemand3 l r.result r'.result
key-demand-3 r r' m m' s w n n' =
    rw (
      key-demand-2 r w.first m w.decodes_first n,
      key-demand-2 r' w.second m' w.decodes_second n',
      s.semantics,
      s.reader,
      s.path,
    )
    (keys-fare r'.semantics r'.reader r'.path
    (record { is_wider = w.is_wider; is_distinct = distinct-names r'.schema w.second w.decodes_second }))
