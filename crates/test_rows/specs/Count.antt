-- What is counted of a list's rows.
use Rattle.std.specs.Prelude.{cond, ℕ, ◌+◌, ◌-◌, ◌^◌, ltb}
use Rattle.test_rows.specs.declared.Tally.{Tally}
use Rattle.test_rows.specs.declared.Outcome.{Outcome}
use Rattle.test_rows.specs.declared.Outcome.TheVariants.{Accepted, Refused, Other, Mismatch}

-- one more, up to the greatest number of 64 bits
abbrev pub more_of : ℕ → ℕ
more_of n = cond (ltb n (2 ^ 64 - 1)) (n + 1) n

abbrev pub none_yet : Tally
none_yet = record { rows = 0; accepted = 0; refused = 0; others = 0; mismatches = 0 }

-- one row more
abbrev pub counted_of : Tally → Outcome → Tally
counted_of t Accepted =
    record {
      rows = more_of t.rows;
      accepted = more_of t.accepted;
      refused = t.refused;
      others = t.others;
      mismatches = t.mismatches;
    }
counted_of t Refused =
    record {
      rows = more_of t.rows;
      accepted = t.accepted;
      refused = more_of t.refused;
      others = t.others;
      mismatches = t.mismatches;
    }
counted_of t Other =
    record {
      rows = more_of t.rows;
      accepted = t.accepted;
      refused = t.refused;
      others = more_of t.others;
      mismatches = t.mismatches;
    }
counted_of t Mismatch =
    record {
      rows = more_of t.rows;
      accepted = t.accepted;
      refused = t.refused;
      others = t.others;
      mismatches = more_of t.mismatches;
    }
