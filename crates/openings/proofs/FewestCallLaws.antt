-- Every call that is not refused answers with the fewest marks, or says that none help.
use Rattle.std.specs.Prelude.{ℕ, Bool, List, [], ◌↔◌, ◌⊎◌, ◌≡◌, refl}
use Rattle.std.proofs.Common.{arith, inl, inr, sym, ◌∙◌}
use Rattle.std.proofs.Math.Option.{Option, none, some}
use Rattle.definition.specs.Tree.{Schema, Rule}
use Rattle.definition.specs.Decode.{decode_schema, decode_rule}
use Rattle.widening.specs.Opening.{is_in, opened}
use Rattle.validation.specs.Fewest.{Accepts}
use Rattle.validation.proofs.FewestLaws.{accepts-answer, fewest-accepts, fewest-least, fewest-closed, fewest-rises, fewest-none}
use Rattle.validation.specs.Openings.{fewest_marks}
use Rattle.validation.specs.Result.{is_taken, judged, checked, setting_for, first_refusal, early, result_of}
use Rattle.validation.proofs.RefusalLaws.{table-decides}
use Rattle.call.specs.Call.{Reply, told}
use Rattle.call.proofs.CallLaws.{told-injective, nothing-due}
use Rattle.single_check.specs.Sheets.{taken_of, sheet_answer}
use Rattle.single_check.specs.SheetLaws.{sheets-decide}
use Rattle.openings.specs.Call.{OpenCall, check_of, open_refusals, opens, nothing_helps, marks_for, marks_in, open_answer}
use Rattle.openings.proofs.CallLaws.{none-of-these}
use Rattle.openings.specs.FewestCalls.{check_opened, Accepted, AnswersFewest}
use Rattle.openings.proofs.OpenedLaws.{opened-decodes}

module _ (c : OpenCall) (t : Schema) (x : Rule) (schema : decode_schema c.schema ≡ some t) (rule : decode_rule c.rule ≡ some x)
    (unrefused : first_refusal (open_refusals c) ≡ none) where
  answered : open_answer c ≡ told (fewest_marks (setting_for (check_of c)) t x)
  unfolding marks_in marks_for
  answered = nothing-due (open_refusals c) (marks_in c) unrefused ∙ rw (schema, rule)

  early-pass : (may : ℕ → Bool) → first_refusal (early (check_opened c t may)) ≡ none
  unfolding check_opened check_of
  early-pass may =
      let n = none-of-these c unrefused in
      table-decides (check_opened c t may) n.0 (omega arith) ∙ n.1

  checks-it : (may : ℕ → Bool) → result_of (check_opened c t may) ≡ checked (setting_for (check_of c)) [] (opened may t) x
  unfolding check_opened check_of sheet_answer taken_of is_taken judged
  checks-it may =
      sheets-decide (check_opened c t may) (early-pass may)
      ∙ rw (opened-decodes may c.schema t schema, rule)

  same-acceptance : (may : ℕ → Bool) → Accepts (setting_for (check_of c)) t x may ↔ Accepted c t may
  same-acceptance may =
      let a = accepts-answer (setting_for (check_of c)) [] t x may in
      (λ p. let n = a.0 p in (n.0, checks-it may ∙ n.1), λ n. a.1 (n.0, sym (checks-it may) ∙ n.1))

  either : (o : Option (List ℕ)) → ((set : List ℕ) × (◌≡◌ {A = Reply (Option (List ℕ))} (told o) (opens set))) ⊎ (◌≡◌ {A = Reply (Option (List ℕ))} (told o) nothing_helps)
  either none = inr refl
  either (some found) = inl (found, refl)

  pub answers-fewest : AnswersFewest c t
  answers-fewest =
      record {
        answers = rw answered (either (fewest_marks (setting_for (check_of c)) t x));
        accepts = λ set e.
            (same-acceptance (is_in set)).0 (fewest-accepts (setting_for (check_of c)) t x c.schema schema set (told-injective (sym answered ∙ e)));
        least = λ set e may a.
            fewest-least (setting_for (check_of c)) t x c.schema schema set (told-injective (sym answered ∙ e)) may ((same-acceptance may).1 a);
        closed = λ set e. fewest-closed (setting_for (check_of c)) t x c.schema schema set (told-injective (sym answered ∙ e));
        rises = λ set e. fewest-rises (setting_for (check_of c)) t x c.schema schema set (told-injective (sym answered ∙ e));
        none-helps = λ e may a.
            fewest-none (setting_for (check_of c)) t x c.schema schema (told-injective (sym answered ∙ e)) may ((same-acceptance may).1 a);
      }
