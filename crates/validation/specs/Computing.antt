-- Opens every definition that a call's result rests on: under `unfolding computing` a worked example holds by computation.
use Rattle.text.specs.WhiteSpace as WhiteSpace
use Rattle.text.specs.Blank as Blank
use Rattle.number.specs.Finite as Finite
use Rattle.timestamp.specs.Instant as Instant
use Rattle.sheet.specs.Operators as Operators
use Rattle.validation.specs.Check as Check
use Rattle.validation.specs.Judge as Judge
use Rattle.validation.specs.Location as Location
use Rattle.validation.specs.Result as Result
use Rattle.validation.specs.Growth as Growth
use Rattle.validation.specs.KeyPath as KeyPath
use Rattle.reference.specs.Computing as Reference

unfoldable pub computing : Unit {0}
unfolding WhiteSpace.is_white_space Blank.all_white_space Blank.blank_points Blank.is_blank Blank.start_from Blank.trim_start_in Blank.trim_start Blank.trim_end Blank.trim Finite.numeral_from Finite.numeral Finite.value Finite.is_below Finite.is_below_at Finite.finite Finite.finite_if Finite.is_finite Instant.digit_value Instant.is_two Instant.two Instant.three Instant.is_marked_two Instant.fields_of Instant.is_leap Instant.days_in Instant.is_date Instant.is_day Instant.is_separator Instant.is_time Instant.is_clock Instant.is_zone Instant.is_end Instant.skip_digits Instant.is_fraction Instant.is_time_end Instant.is_timed Instant.is_instant Instant.instant_in Instant.instant Check.fails_if Check.is_none Check.check Check.reference_text Check.reference_check Check.literal_check Check.entry_of Check.is_string Check.is_holder Check.instant_text Check.instant_form Check.instant_operand Check.affix_operand Check.compare_side Check.operand Check.has_dot Check.operator_check Check.is_empty Check.is_blank_text Check.literal_checks Check.checks Check.references Check.references_of_values Check.references_of_pairs Check.numbers Check.numbers_of_values Check.numbers_of_pairs Check.literals Check.literals_of_conditions Check.body Check.bodies Check.depth Check.depth_of_conditions Judge.verdict Judge.extend Judge.enter Judge.environment Judge.answer Judge.answer_in Judge.outcome Judge.decide Judge.judge_from Judge.judge Operators.operator_name Operators.is_service_operator Operators.is_instant_test Operators.is_affix Operators.is_observed Location.dotted Location.index Location.through Location.here_or Location.in_side Location.at_quantifier Location.here_as Location.behind_label Location.path_of Location.in_value Location.in_values Location.in_pairs Location.in_condition Location.in_conditions Result.own_family Result.over_of Result.family_in Result.over_place_in Result.answer_of Result.is_taken Result.early Result.of_settings Result.of_sheets Result.refusals Result.first_refusal Result.checked Result.judged Result.refused_or Result.result_of Result.numbers_of Result.path_after Result.is_of_sheets Result.kept_scratch Result.lent_of Result.call_of Growth.against KeyPath.reader_of KeyPath.key_early KeyPath.key_refusals KeyPath.key_defect KeyPath.key_answer KeyPath.key_checked KeyPath.key_judged KeyPath.key_result_of KeyPath.key_call_of Reference.computing
computing = tt
