-- The code's seven numbers as those of a result.
use Rattle.validation.specs.Result.{Numbers}
use Rattle.single_check.specs.declared.outcome.Outcome.{Outcome}

abbrev pub numbers_by : Outcome → Numbers
numbers_by o =
    record {
      number = o.number;
      family = o.family;
      detail = o.detail;
      place = o.place;
      over_place = o.over_place;
      passed = o.passed;
      path_length = o.path_length;
    }
